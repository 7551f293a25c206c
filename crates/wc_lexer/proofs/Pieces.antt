-- The content of a text is cut into bytes that mean themselves and escapes.
use Rattle.std.proofs.Common.{◌≡◌, ℕ, zero, suc, ◌+◌, ◌-◌, ◌<◌, ◌≤◌, List, [], ◌∷◌, ◌++◌, length, take, drop, Bool, true, false, Option, Some, None, Result, Ok, Err, refl, sym, ap, ◌∙◌, subst, arith, inl, inr, if◌then◌else◌, map, length-append}
use Rattle.std.specs.Prelude.{◌==◌, ◌&&◌, not}
use Rattle.std.specs.List.{AllByRecursion}
use Rattle.std.proofs.lemmas.Bool.{eqb-true, false≢true}
use Rattle.wc_lexer.specs.declared.error.LexError.{LexError}
use Rattle.wc_lexer.specs.Tokens.{joined, escaped, closing, unescaped, unescaped_as}
use Rattle.wc_lexer.specs.Cuts.{IsPiece, written}

-- ---- the closing quote
ge_at : (at n : ℕ) (x y : Bool) (o : Option ℕ) → (o ≡ Some n → at + 1 ≤ n) → (if x then None else (if y then Some at else o)) ≡ Some n → at ≤ n
ge_at at n true y o k h = absurd (cc)
ge_at at n false true o k h = let q : at ≡ n = cc in omega arith
ge_at at n false false o k h = let q : at + 1 ≤ n = k h in omega arith

closing_ge : (bs : List ℕ) (at : ℕ) (e : Bool) (n : ℕ) → closing at e bs ≡ Some n → at ≤ n
closing_ge [] at e n h = absurd (cc)
closing_ge (b ∷ bs) at e n h = ge_at at n (b == 10) (not e && b == 34) (closing (at + 1) (not e && b == 92) bs) (closing_ge bs (at + 1) (not e && b == 92) n) h

quote_of : (e : Bool) (b : ℕ) → (not e && b == 34) ≡ true → b ≡ 34
quote_of true b h = absurd (cc)
quote_of false b h = eqb-true b 34 h

splits_at : (at n b : ℕ) (e : Bool) (bs : List ℕ) (x y : Bool) (o : Option ℕ) → (not e && b == 34) ≡ y → (o ≡ Some n → (at + 1 ≤ n) × (bs ≡ take (n - (at + 1)) bs ++ 34 ∷ drop (suc (n - (at + 1))) bs))
    → (if x then None else (if y then Some at else o)) ≡ Some n → b ∷ bs ≡ take (n - at) (b ∷ bs) ++ 34 ∷ drop (suc (n - at)) (b ∷ bs)
splits_at at n b e bs true y o i k h = absurd (cc)
splits_at at n b e bs false true o i k h =
    let q : at ≡ n = cc in
    let z : zero ≡ n - at = omega arith in
    subst (λ (m : ℕ). b ∷ bs ≡ take m (b ∷ bs) ++ 34 ∷ drop (suc m) (b ∷ bs)) z (ap (λ (c : ℕ). c ∷ bs) (quote_of e b i))
splits_at at n b e bs false false o i k h =
    let l = k h in
    let z : suc (n - (at + 1)) ≡ n - at = omega (arith, l.0) in
    subst (λ (m : ℕ). b ∷ bs ≡ take m (b ∷ bs) ++ 34 ∷ drop (suc m) (b ∷ bs)) z (ap (λ w. b ∷ w) l.1)

-- the closing quote stands at its place
pub closing_splits : (bs : List ℕ) (at : ℕ) (e : Bool) (n : ℕ) → closing at e bs ≡ Some n → (at ≤ n) × (bs ≡ take (n - at) bs ++ 34 ∷ drop (suc (n - at)) bs)
closing_splits [] at e n h = absurd (cc)
closing_splits (b ∷ bs) at e n h = (
  closing_ge (b ∷ bs) at e n h,
  splits_at at n b e bs (b == 10) (not e && b == 34) (closing (at + 1) (not e && b == 92) bs) refl (closing_splits bs (at + 1) (not e && b == 92) n) h,
)

-- ---- the pieces of a content
abbrev pub Pieces : List ℕ → List ℕ → Type 0
Pieces inside text = (ps : List (List ℕ × ℕ)) × (AllByRecursion IsPiece ps × ((text ≡ map (λ p. p.1) ps) × (inside ≡ written ps)))

no_piece : (text : List ℕ) → (let r : Result (List ℕ) LexError = Ok [] in r) ≡ Ok text → Pieces [] text
no_piece text h = let q : [] ≡ text = cc in ([], (tt, (sym q, refl)))

plain_piece : (b : ℕ) (inside text : List ℕ) → (b == 34) ≡ false → (b == 92) ≡ false → (b == 10) ≡ false → Pieces inside text → Pieces (b ∷ inside) (b ∷ text)
plain_piece b inside text h k l p = ((b ∷ [], b) ∷ p.0, ((inl (refl, h, k, l), p.1.0), (ap (λ z. b ∷ z) p.1.1.0, ap (λ z. b ∷ z) p.1.1.1)))

escape_piece : (c m : ℕ) (inside text : List ℕ) → escaped c ≡ Some m → Pieces inside text → Pieces (92 ∷ c ∷ inside) (m ∷ text)
escape_piece c m inside text h p = ((92 ∷ c ∷ [], m) ∷ p.0, ((inr (c, (refl, h)), p.1.0), (ap (λ z. m ∷ z) p.1.1.0, ap (λ z. 92 ∷ c ∷ z) p.1.1.1)))

-- what is to be shown, also behind a backslash
abbrev Goal : Bool → List ℕ → List ℕ → Type 0
Goal false inside text = Pieces inside text
Goal true inside text = (c m : ℕ) × (cs us : List ℕ) × ((inside ≡ c ∷ cs) × ((escaped c ≡ Some m) × ((text ≡ m ∷ us) × Pieces cs us)))

behind_plain : (b : ℕ) (inside text : List ℕ) (r : Result (List ℕ) LexError) → (b == 34) ≡ false → (b == 92) ≡ false → (b == 10) ≡ false → ((us : List ℕ) → r ≡ Ok us → Pieces inside us)
    → joined (b ∷ []) r ≡ Ok text → Pieces (b ∷ inside) text
behind_plain b inside text (Ok us) h k l i e = let q : b ∷ us ≡ text = cc in subst (Pieces (b ∷ inside)) q (plain_piece b inside us h k l (i us refl))
behind_plain b inside text (Err d) h k l i e = absurd (cc)

behind_escape : (at c : ℕ) (cs text : List ℕ) (o : Option ℕ) (r : Result (List ℕ) LexError) → escaped c ≡ o → ((us : List ℕ) → r ≡ Ok us → Pieces cs us) → unescaped_as at o r ≡ Ok text → Goal true (c ∷ cs) text
behind_escape at c cs text None r e i h = absurd (cc)
behind_escape at c cs text (Some m) (Ok us) e i h = let q : m ∷ us ≡ text = cc in (c, m, cs, us, (refl, (e, (sym q, i us refl))))
behind_escape at c cs text (Some m) (Err d) e i h = absurd (cc)

one_byte : (b n at : ℕ) (bs text : List ℕ) (x y z : Bool) → (b == 10) ≡ x → (b == 34) ≡ y → (b == 92) ≡ z → at < n → (o : Bool → Option ℕ) (r s : Result (List ℕ) LexError)
    → (o true ≡ Some n → r ≡ Ok text → Goal true bs text) → ((us : List ℕ) → o false ≡ Some n → s ≡ Ok us → Goal false bs us)
    → (if x then None else (if y then Some at else o z)) ≡ Some n → (if z then r else joined (b ∷ []) s) ≡ Ok text → Pieces (b ∷ bs) text
one_byte b n at bs text true y z ex ey ez l o r s i j h k = absurd (cc)
one_byte b n at bs text false true z ex ey ez l o r s i j h k = let q : at ≡ n = cc in absurd (omega arith)
one_byte b n at bs text false false true ex ey ez l o r s i j h k =
    let g = i h k in
    let e : b ∷ bs ≡ 92 ∷ g.0 ∷ g.2 = λ p. eqb-true b 92 ez p ∷ g.4.0 p in
    subst (λ w. Pieces w text) (sym e) (subst (Pieces (92 ∷ g.0 ∷ g.2)) (sym g.4.1.1.0) (escape_piece g.0 g.1 g.2 g.3 g.4.1.0 g.4.1.1.1))
one_byte b n at bs text false false false ex ey ez l o r s i j h k = behind_plain b bs text s ey ez ex (λ us e. j us h e) k

behind_backslash : (x : Bool) (o : Option ℕ) (n : ℕ) → (if x then None else o) ≡ Some n → o ≡ Some n
behind_backslash true o n h = absurd (cc)
behind_backslash false o n h = h

pub pieces_of : (inside : List ℕ) (at from : ℕ) (e : Bool) (rest text : List ℕ) → closing at e (inside ++ 34 ∷ rest) ≡ Some (at + length inside) → unescaped from e inside ≡ Ok text → Goal e inside text
pieces_of [] at from false rest text h k = no_piece text k
pieces_of [] at from true rest text h k = let g : at + 1 ≤ at + 0 = closing_ge rest (at + 1) false (at + 0) h in absurd (omega arith)
pieces_of (b ∷ bs) at from false rest text h k =
    let n : at + 1 + length bs ≡ at + suc (length bs) = omega arith in
    one_byte b (at + suc (length bs)) at bs text (b == 10) (b == 34) (b == 92) refl refl refl (omega arith)
    (λ f. closing (at + 1) f (bs ++ 34 ∷ rest)) (unescaped (from + 1) true bs) (unescaped (from + 1) false bs)
    (λ p q. pieces_of bs (at + 1) (from + 1) true rest text (p ∙ ap (λ (m : ℕ). Some m) (sym n)) q)
    (λ us p q. pieces_of bs (at + 1) (from + 1) false rest us (p ∙ ap (λ (m : ℕ). Some m) (sym n)) q) h k
pieces_of (c ∷ cs) at from true rest text h k =
    let n : at + 1 + length cs ≡ at + suc (length cs) = omega arith in
    behind_escape from c cs text (escaped c) (unescaped (from + 1) false cs) refl
    (λ us q. pieces_of cs (at + 1) (from + 1) false rest us (behind_backslash (c == 10) (closing (at + 1) false (cs ++ 34 ∷ rest)) (at + suc (length cs)) h ∙ ap (λ (m : ℕ). Some m) (sym n)) q) k

-- ---- a content ends at one place
piece_first : (q : List ℕ × ℕ) → IsPiece q → (b : ℕ) × (bs : List ℕ) × ((q.0 ≡ b ∷ bs) × ((b == 34) ≡ false))
piece_first q (inl i) = (q.1, [], (i.0, i.1))
piece_first q (inr i) = (92, i.0 ∷ [], (i.1.0, refl))

quote_differs : (b : ℕ) (x y : List ℕ) → 34 ∷ x ≡ b ∷ y → (b == 34) ≡ false → ⊥
quote_differs b x y e h = let g : 34 ≡ b = cc in absurd (false≢true (sym h ∙ ap (λ (z : ℕ). z == 34) (sym g)))

no_more : (q : List ℕ × ℕ) (qs x y : List ℕ) → IsPiece q → 34 ∷ x ≡ (q.0 ++ qs) ++ y → ⊥
no_more q qs x y i e =
    let f = piece_first q i in
    quote_differs f.0 x ((f.1 ++ qs) ++ y) (e ∙ ap (λ z. (z ++ qs) ++ y) f.2.0) f.2.1

plain_escape : (b c d : ℕ) (x y : List ℕ) → (b == 92) ≡ false → b ∷ x ≡ 92 ∷ d ∷ y → ⊥
plain_escape b c d x y h e = let g : b ≡ 92 = cc in absurd (false≢true (sym h ∙ ap (λ (z : ℕ). z == 92) g))

-- two pieces in front of equal bytes are as long, and equal bytes follow
piece_same : (p q : List ℕ × ℕ) (xs ys x y : List ℕ) → IsPiece p → IsPiece q → (p.0 ++ xs) ++ x ≡ (q.0 ++ ys) ++ y → (length p.0 ≡ length q.0) × (xs ++ x ≡ ys ++ y)
piece_same p q xs ys x y (inl i) (inl j) e =
    let f : p.1 ∷ (xs ++ x) ≡ q.1 ∷ (ys ++ y) = ap (λ z. (z ++ xs) ++ x) (sym i.0) ∙ e ∙ ap (λ z. (z ++ ys) ++ y) j.0 in
    let g : xs ++ x ≡ ys ++ y = cc in
    (ap length i.0 ∙ ap length (sym j.0), g)
piece_same p q xs ys x y (inl i) (inr j) e =
    absurd (plain_escape p.1 0 j.0 (xs ++ x) (ys ++ y) i.2 (ap (λ z. (z ++ xs) ++ x) (sym i.0) ∙ e ∙ ap (λ z. (z ++ ys) ++ y) j.1.0))
piece_same p q xs ys x y (inr i) (inl j) e =
    absurd (plain_escape q.1 0 i.0 (ys ++ y) (xs ++ x) j.2 (ap (λ z. (z ++ ys) ++ y) (sym j.0) ∙ sym e ∙ ap (λ z. (z ++ xs) ++ x) i.1.0))
piece_same p q xs ys x y (inr i) (inr j) e =
    let f : 92 ∷ i.0 ∷ (xs ++ x) ≡ 92 ∷ j.0 ∷ (ys ++ y) = ap (λ z. (z ++ xs) ++ x) (sym i.1.0) ∙ e ∙ ap (λ z. (z ++ ys) ++ y) j.1.0 in
    let g : xs ++ x ≡ ys ++ y = cc in
    (ap length i.1.0 ∙ ap length (sym j.1.0), g)

pub content_same : (ps qs : List (List ℕ × ℕ)) (x y : List ℕ) → AllByRecursion IsPiece ps → AllByRecursion IsPiece qs → written ps ++ 34 ∷ x ≡ written qs ++ 34 ∷ y → length (written ps) ≡ length (written qs)
content_same [] [] x y a b e = refl
content_same [] (q ∷ qs) x y a b e = absurd (no_more q (written qs) x (34 ∷ y) b.0 e)
content_same (p ∷ ps) [] x y a b e = absurd (no_more p (written ps) y (34 ∷ x) a.0 (sym e))
content_same (p ∷ ps) (q ∷ qs) x y a b e =
    let k = piece_same p q (written ps) (written qs) (34 ∷ x) (34 ∷ y) a.0 b.0 e in
    length-append p.0 (written ps) ∙ (λ i. k.0 i + content_same ps qs x y a.1 b.1 k.1 i) ∙ sym (length-append q.0 (written qs))
