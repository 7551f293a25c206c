-- White space cut off the ends of a text, as std cuts it and as the definition does.
use Rattle.std.proofs.Common.{◌≡◌, ℕ, ◌+◌, ◌-◌, ◌<◌, Bool, true, false, List, [], ◌∷◌, ◌++◌, length, take, drop, Option, Some, None, IfSome, if◌then◌else◌, refl, sym, subst, ap, arith, rules, ◌∙◌}
use Rattle.std.proofs.Math.Seq.{drop-length}
use Rattle.std.proofs.lemmas.List.{take-append-drop}
use Rattle.std.proofs.lemmas.Bool.Decides.{nat_tests}
use Rattle.std.proofs.lemmas.Str.{encode_ascii, len_utf8_bounds}
use Rattle.std.specs.Char.{char_set_contains, IsScalar, encode_utf8, len_utf8}
use Rattle.std.specs.Str.Pattern.{FindsPrefixBy, FindsSuffixBy, CutsPrefixes, CutsSuffixes, IsFullyTrimmed, IsTrimStartMatches, IsTrimEndMatches}
use Rattle.std.specs.List.{AllPass}
use Rattle.std.proofs.lemmas.List.Elements.{All-nil, All-cons}
use Rattle.wc_expression.specs.Laws.{IsTrimmed}
use Rattle.wc_expression.specs.Texts.{is_white, without_start, ending, without_end, trimmed}

-- the characters that are cut off
abbrev whites : List ℕ
whites = 32 ∷ 9 ∷ 10 ∷ 13 ∷ []

white_set : (c : ℕ) → char_set_contains whites c ≡ is_white c
white_set c = grind (arith, nat_tests)

white_small : (c : ℕ) → is_white c ≡ true → c < 128
white_small c h = grind (arith, nat_tests)

white_byte : (c : ℕ) → is_white c ≡ true → encode_utf8 c ≡ c ∷ []
white_byte c h = encode_ascii c (white_small c h)

white_scalar : (c : ℕ) → is_white c ≡ true → IsScalar c
white_scalar c h = let small : c < 128 = white_small c h in search (rules, small)

not_white : (c : ℕ) → (is_white c ≡ true → ⊥) → is_white c ≡ false
not_white c h = at (is_white c) refl
  where
    at : (b : Bool) → is_white c ≡ b → b ≡ false
    at true p = absurd (h p)
    at false p = refl

-- ---- the start

module _ (R : List ℕ → Option ℕ → Type 0) (finds : (s : List ℕ) (o : Option ℕ) → R s o → FindsPrefixBy is_white s o) where
  start_cut : (m : List ℕ) (n : ℕ) → R m (Some n) → without_start m ≡ without_start (drop n m)
  start_cut m n h =
      let f = finds m (Some n) h in
      let e : m ≡ f.0 ∷ drop n m = f.2.split ∙ ap (λ (front : List ℕ). front ++ drop n m) (white_byte f.0 f.1) in
      ap without_start e ∙ ap (λ (b : Bool). if b then without_start (drop n m) else f.0 ∷ drop n m) f.1

  start_cuts : (ns s r : List ℕ) → CutsPrefixes R s ns r → without_start s ≡ without_start r
  start_cuts [] s r h = ap without_start (sym h)
  start_cuts (n ∷ ns) s r h = start_cuts ns s h.0 h.1 ∙ start_cut h.0 n h.2 ∙ ap without_start (sym h.3)

  no_start : (b : ℕ) (bs : List ℕ) (o : Option ℕ) → R (b ∷ bs) o → IfSome o (λ n. n ≡ 0) → is_white b ≡ true → ⊥
  no_start b bs None h z w =
      let e : false ≡ true = sym (finds (b ∷ bs) None h b bs (white_scalar b w) (ap (λ (front : List ℕ). front ++ bs) (sym (white_byte b w)))) ∙ w in
      absurd (cc)
  no_start b bs (Some n) h z w =
      let f = finds (b ∷ bs) (Some n) h in
      let ends : n ≡ 0 + len_utf8 f.0 = f.2.ends in
      absurd (omega (arith, z, ends, len_utf8_bounds f.0))

  start_full : (r : List ℕ) → IsFullyTrimmed R r → without_start r ≡ r
  start_full [] h = refl
  start_full (b ∷ bs) h = ap (λ (w : Bool). if w then without_start bs else b ∷ bs) (not_white b (no_start b bs h.0 h.1 h.2))

  start_is : (s r : List ℕ) → IsTrimStartMatches R s r → without_start s ≡ r
  start_is s r h = start_cuts h.0.0 s r h.0.1 ∙ start_full r h.1

-- ---- the end

end_white : (xs : List ℕ) (c : ℕ) → is_white c ≡ true → without_end (xs ++ c ∷ []) ≡ without_end xs
end_white [] c w = ap (λ (b : Bool). if b then [] else c ∷ []) w
end_white (x ∷ xs) c w = ap (ending x) (end_white xs c w)

-- a text whose last byte isn't white
abbrev EndsOtherwise : List ℕ → Type 0
EndsOtherwise s = (front : List ℕ) (c : ℕ) → s ≡ front ++ c ∷ [] → is_white c ≡ false

end_kept : (s : List ℕ) → EndsOtherwise s → without_end s ≡ s
end_kept [] h = refl
end_kept (x ∷ []) h = ap (λ (b : Bool). if b then [] else x ∷ []) (h [] x refl)
end_kept (x ∷ y ∷ ys) h = ap (ending x) (end_kept (y ∷ ys) (λ front c e. h (x ∷ front) c (ap (λ (zs : List ℕ). x ∷ zs) e)))

module _ (R : List ℕ → Option ℕ → Type 0) (finds : (s : List ℕ) (o : Option ℕ) → R s o → FindsSuffixBy is_white s o) where
  end_cut : (m : List ℕ) (n : ℕ) → R m (Some n) → without_end m ≡ without_end (take (length m - n) m)
  end_cut m n h =
      let f = finds m (Some n) h in
      let front = take (length m - n) m in
      let tail : drop (length m - n) m ≡ f.0 ∷ []
      = f.2.split ∙ (λ i. white_byte f.0 f.1 i ++ drop-length m i) in
      let whole : m ≡ front ++ f.0 ∷ [] = sym (take-append-drop (length m - n) m) ∙ ap (λ (zs : List ℕ). front ++ zs) tail in
      ap without_end whole ∙ end_white front f.0 f.1

  end_cuts : (ns s r : List ℕ) → CutsSuffixes R s ns r → without_end s ≡ without_end r
  end_cuts [] s r h = ap without_end (sym h)
  end_cuts (n ∷ ns) s r h = end_cuts ns s h.0 h.1 ∙ end_cut h.0 n h.2 ∙ ap without_end (sym h.3)

  no_end : (s front : List ℕ) (c : ℕ) (o : Option ℕ) → R s o → IfSome o (λ n. n ≡ 0) → s ≡ front ++ c ∷ [] → is_white c ≡ true → ⊥
  no_end s front c None h z e w =
      let k : false ≡ true = sym (finds s None h c front (white_scalar c w) (e ∙ ap (λ (back : List ℕ). front ++ back) (sym (white_byte c w)))) ∙ w in
      absurd (cc)
  no_end s front c (Some n) h z e w =
      let f = finds s (Some n) h in
      let ends : length s ≡ length s - n + len_utf8 f.0 = f.2.ends in
      absurd (omega (arith, z, ends, len_utf8_bounds f.0))

  end_full : (r : List ℕ) → IsFullyTrimmed R r → without_end r ≡ r
  end_full r h = end_kept r (λ front c e. not_white c (no_end r front c h.0 h.1 h.2 e))

  end_is : (s r : List ℕ) → IsTrimEndMatches R s r → without_end s ≡ r
  end_is s r h = end_cuts h.0.0 s r h.0.1 ∙ end_full r h.1

-- what the patterns of the two calls find
abbrev Starts : List ℕ → Option ℕ → Type 0
Starts s o = (k : ℕ → Bool) → ((c : ℕ) → char_set_contains whites c ≡ k c) → FindsPrefixBy k s o

abbrev Ends : List ℕ → Option ℕ → Type 0
Ends s o = (k : ℕ → Bool) → ((c : ℕ) → char_set_contains whites c ≡ k c) → FindsSuffixBy k s o

pub trimmed_is : (s m r : List ℕ) → IsTrimStartMatches Starts s m → IsTrimEndMatches Ends m r → r ≡ trimmed s
trimmed_is s m r p q =
    sym (end_is Ends (λ t o h. h is_white white_set) m r q)
    ∙ ap without_end (sym (start_is Starts (λ t o h. h is_white white_set) s m p))

-- ---- what is left, and what is cut off

-- a text with white space before it
abbrev StartParts : List ℕ → List ℕ → Type 0
StartParts s left = (front : List ℕ) × AllPass is_white front × (s ≡ front ++ left)

start_parts_at : (b : ℕ) (bs : List ℕ) (w : Bool) → is_white b ≡ w → StartParts bs (without_start bs) → StartParts (b ∷ bs) (if w then without_start bs else b ∷ bs)
start_parts_at b bs true e h = (b ∷ h.0, All-cons (λ c. is_white c ≡ true) b h.0 e h.1, ap (λ (zs : List ℕ). b ∷ zs) h.2)
start_parts_at b bs false e h = ([], All-nil (λ c. is_white c ≡ true), refl)

start_parts : (s : List ℕ) → StartParts s (without_start s)
start_parts [] = ([], All-nil (λ c. is_white c ≡ true), refl)
start_parts (b ∷ bs) = start_parts_at b bs (is_white b) refl (start_parts bs)

-- what is left begins otherwise
abbrev StartsOtherwise : List ℕ → Type 0
StartsOtherwise s = (b : ℕ) (bs : List ℕ) → s ≡ b ∷ bs → is_white b ≡ false

starts_at : (b : ℕ) (bs : List ℕ) (w : Bool) → is_white b ≡ w → StartsOtherwise (without_start bs) → StartsOtherwise (if w then without_start bs else b ∷ bs)
starts_at b bs true e h c cs k = h c cs k
starts_at b bs false e h c cs k = let same : b ≡ c = cc in ap is_white (sym same) ∙ e

starts_otherwise : (s : List ℕ) → StartsOtherwise (without_start s)
starts_otherwise [] c cs h = absurd (cc)
starts_otherwise (b ∷ bs) c cs h = starts_at b bs (is_white b) refl (starts_otherwise bs) c cs h

-- a text with white space behind it
abbrev EndParts : List ℕ → List ℕ → Type 0
EndParts s left = (back : List ℕ) × AllPass is_white back × (s ≡ left ++ back)

ending_parts_at : (b : ℕ) (back : List ℕ) (w : Bool) → is_white b ≡ w → AllPass is_white back → EndParts (b ∷ back) (if w then [] else b ∷ [])
ending_parts_at b back true e h = (b ∷ back, All-cons (λ c. is_white c ≡ true) b back e h, refl)
ending_parts_at b back false e h = (back, h, refl)

ending_parts : (b : ℕ) (left back : List ℕ) → AllPass is_white back → EndParts (b ∷ (left ++ back)) (ending b left)
ending_parts b [] back h = ending_parts_at b back (is_white b) refl h
ending_parts b (c ∷ cs) back h = (back, h, refl)

end_parts : (s : List ℕ) → EndParts s (without_end s)
end_parts [] = ([], All-nil (λ c. is_white c ≡ true), refl)
end_parts (b ∷ bs) =
    let k = end_parts bs in
    subst (λ (t : List ℕ). EndParts (b ∷ t) (ending b (without_end bs))) (sym k.2) (ending_parts b (without_end bs) k.0 k.1)

-- and what is left ends otherwise
no_last : (front : List ℕ) (c : ℕ) → [] ≡ front ++ c ∷ [] → ⊥
no_last [] c h = cc
no_last (x ∷ xs) c h = cc

ending_otherwise_at : (b : ℕ) (w : Bool) → is_white b ≡ w → EndsOtherwise (if w then [] else b ∷ [])
ending_otherwise_at b true e front c h = absurd (no_last front c h)
ending_otherwise_at b false e [] c h = let same : b ≡ c = cc in ap is_white (sym same) ∙ e
ending_otherwise_at b false e (x ∷ xs) c h = absurd (no_last xs c (cc))

ending_otherwise : (b : ℕ) (left : List ℕ) → EndsOtherwise left → EndsOtherwise (ending b left)
ending_otherwise b [] k front c h = ending_otherwise_at b (is_white b) refl front c h
ending_otherwise b (d ∷ ds) k [] c h = absurd (cc)
ending_otherwise b (d ∷ ds) k (x ∷ xs) c h = k xs c (cc)

ends_otherwise : (s : List ℕ) → EndsOtherwise (without_end s)
ends_otherwise [] front c h = absurd (no_last front c h)
ends_otherwise (b ∷ bs) front c h = ending_otherwise b (without_end bs) (ends_otherwise bs) front c h

ending_begins_at : (b : ℕ) (w : Bool) → is_white b ≡ w → is_white b ≡ false → StartsOtherwise (if w then [] else b ∷ [])
ending_begins_at b true e k c cs h = absurd (cc)
ending_begins_at b false e k c cs h = let same : b ≡ c = cc in ap is_white (sym same) ∙ e

ending_begins : (b : ℕ) (left : List ℕ) → is_white b ≡ false → StartsOtherwise (ending b left)
ending_begins b [] k c cs h = ending_begins_at b (is_white b) refl k c cs h
ending_begins b (d ∷ ds) k c cs h = let same : b ≡ c = cc in ap is_white (sym same) ∙ k

starts_kept : (s : List ℕ) → StartsOtherwise s → StartsOtherwise (without_end s)
starts_kept [] k c cs h = absurd (cc)
starts_kept (b ∷ bs) k c cs h = ending_begins b (without_end bs) (k b bs refl) c cs h

pub trims : (text : List ℕ) → IsTrimmed text (trimmed text)
trims text =
    let front = start_parts text in
    let back = end_parts (without_start text) in
    record {
      before = front.0;
      after = back.0;
      parts = front.2 ∙ ap (λ (rest : List ℕ). front.0 ++ rest) back.2;
      white_before = front.1;
      white_after = back.1;
      first = starts_kept (without_start text) (starts_otherwise text);
      last = λ b bs h. ends_otherwise (without_start text) bs b h;
    }
