-- The first rows are one list, and go on.
use Rattle.std.proofs.Common.{◌≡◌, ◌⊎◌, inl, inr, ⊎_elim, ◌≤◌, ℕ, zero, suc, List, [], ◌∷◌, ◌++◌, length, refl, sym, ap, subst, ◌∙◌, arith}
use Rattle.std.specs.Prelude.{take}
use Rattle.std.specs.List.{AllByRecursion}
use Rattle.wc_matches.specs.First.{ComesBefore, Ascend, IsAmong, AreFirst}

-- ---- order

pub never_itself : (r : List ℕ) → ComesBefore r r → ⊥
never_itself [] h = h
never_itself (n ∷ ns) (inl lt) = omega (arith, lt)
never_itself (n ∷ ns) (inr more) = never_itself ns more.1

pub one_way : (r s : List ℕ) → ComesBefore r s → ComesBefore s r → ⊥
one_way [] s h g = h
one_way (m ∷ ms) [] h g = h
one_way (m ∷ ms) (n ∷ ns) (inl lt) (inl gt) = omega (arith, lt, gt)
one_way (m ∷ ms) (n ∷ ns) (inl lt) (inr more) = omega (arith, lt, more.0)
one_way (m ∷ ms) (n ∷ ns) (inr more) (inl gt) = omega (arith, more.0, gt)
one_way (m ∷ ms) (n ∷ ns) (inr more) (inr also) = one_way ms ns more.1 also.1

-- ---- the least is the first

pub among_all : (P : List ℕ → Type 0) (rows : List (List ℕ)) (row : List ℕ) → AllByRecursion P rows → IsAmong rows row → P row
among_all P [] row h g = absurd g
among_all P (r ∷ rs) row h (inl same) = subst P same h.0
among_all P (r ∷ rs) row h (inr among) = among_all P rs row h.1 among

least : (P : List ℕ → Type 0) (most : ℕ) (x : List ℕ) (xs : List (List ℕ)) → AreFirst P most (x ∷ xs) → (row : List ℕ) → P row → (x ≡ row) ⊎ ComesBefore x row
least P most x xs f row p = ⊎_elim
    (λ (among : IsAmong (x ∷ xs) row). ⊎_elim (λ (same : x ≡ row). inl same) (λ (later : IsAmong xs row). inr (among_all (ComesBefore x) xs row f.ascend.0 later)) among)
    (λ full. inr full.1.0) (f.others row p)

-- those behind the first
abbrev Behind : (List ℕ → Type 0) → List ℕ → List ℕ → Type 0
Behind P x row = P row × ComesBefore x row

pub both_all : (P Q : List ℕ → Type 0) (rows : List (List ℕ)) → AllByRecursion P rows → AllByRecursion Q rows → AllByRecursion (λ r. P r × Q r) rows
both_all P Q [] h g = tt
both_all P Q (r ∷ rs) h g = ((h.0, g.0), both_all P Q rs h.1 g.1)

tail : (P : List ℕ → Type 0) (most : ℕ) (x : List ℕ) (xs : List (List ℕ)) → AreFirst P (suc most) (x ∷ xs) → AreFirst (Behind P x) most xs
tail P most x xs f = record {
  ascend = f.ascend.1;
  each = both_all P (ComesBefore x) xs f.each.1 f.ascend.0;
  few = omega (arith, f.few);
  others = λ row h. ⊎_elim
      (λ (among : IsAmong (x ∷ xs) row). ⊎_elim (λ (same : x ≡ row). absurd (never_itself row (subst (λ (r : List ℕ). ComesBefore r row) same h.1))) (λ (later : IsAmong xs row). inl later) among)
      (λ full. inr (omega (arith, full.0), full.1.1)) (f.others row h.0);
}

pub first_are_one : (P : List ℕ → Type 0) (most : ℕ) (xs ys : List (List ℕ)) → AreFirst P most xs → AreFirst P most ys → xs ≡ ys
first_are_one P most [] [] f g = refl
first_are_one P most [] (y ∷ ys) f g = ⊎_elim (λ (among : IsAmong [] y). absurd among) (λ full. absurd (omega (arith, full.0, g.few))) (f.others y g.each.0)
first_are_one P most (x ∷ xs) [] f g = ⊎_elim (λ (among : IsAmong [] x). absurd among) (λ full. absurd (omega (arith, full.0, f.few))) (g.others x f.each.0)
first_are_one P zero (x ∷ xs) (y ∷ ys) f g = absurd (omega (arith, f.few))
first_are_one P (suc most) (x ∷ xs) (y ∷ ys) f g =
    let same : x ≡ y = ⊎_elim (λ (e : x ≡ y). e) (λ before. ⊎_elim (λ (e : y ≡ x). sym e) (λ after. absurd (one_way x y before after)) (least P (suc most) y ys g x f.each.0))
    (least P (suc most) x xs f y g.each.0) in
    let rest : xs ≡ ys = first_are_one (Behind P x) most xs ys (tail P most x xs f) (subst (λ (r : List ℕ). AreFirst (Behind P r) most ys) (sym same) (tail P most y ys g)) in
    cc

-- ---- one kind and then another

all_left : (P Q : List ℕ → Type 0) (rows : List (List ℕ)) → AllByRecursion P rows → AllByRecursion (λ r. P r ⊎ Q r) rows
all_left P Q [] h = tt
all_left P Q (r ∷ rs) h = (inl h.0, all_left P Q rs h.1)

all_right : (P Q : List ℕ → Type 0) (rows : List (List ℕ)) → AllByRecursion Q rows → AllByRecursion (λ r. P r ⊎ Q r) rows
all_right P Q [] h = tt
all_right P Q (r ∷ rs) h = (inr h.0, all_right P Q rs h.1)

all_joined : (P : List ℕ → Type 0) (xs ys : List (List ℕ)) → AllByRecursion P xs → AllByRecursion P ys → AllByRecursion P (xs ++ ys)
all_joined P [] ys h g = g
all_joined P (x ∷ xs) ys h g = (h.0, all_joined P xs ys h.1 g)

pub all_taken : (P : List ℕ → Type 0) (n : ℕ) (rows : List (List ℕ)) → AllByRecursion P rows → AllByRecursion P (take n rows)
all_taken P zero rows h = tt
all_taken P (suc n) [] h = tt
all_taken P (suc n) (r ∷ rs) h = (h.0, all_taken P n rs h.1)

pub ascend_taken : (n : ℕ) (rows : List (List ℕ)) → Ascend rows → Ascend (take n rows)
ascend_taken zero rows h = tt
ascend_taken (suc n) [] h = tt
ascend_taken (suc n) (r ∷ rs) h = (all_taken (ComesBefore r) n rs h.0, ascend_taken n rs h.1)

pub few_taken : (n : ℕ) (rows : List (List ℕ)) → length (take n rows) ≤ n
few_taken zero rows = omega arith
few_taken (suc n) [] = omega arith
few_taken (suc n) (r ∷ rs) = let le : length (take n rs) ≤ n = few_taken n rs in omega (arith, le)

-- a row among them is among those that are taken, or behind all of these, of which there are as many as may be
pub taken_or_behind : (n : ℕ) (rows : List (List ℕ)) (row : List ℕ) → Ascend rows → IsAmong rows row
    → IsAmong (take n rows) row ⊎ ((length (take n rows) ≡ n) × AllByRecursion (λ r. ComesBefore r row) (take n rows))
taken_or_behind zero rows row h among = inr (refl, tt)
taken_or_behind (suc n) [] row h among = absurd among
taken_or_behind (suc n) (r ∷ rs) row h (inl same) = inl (inl same)
taken_or_behind (suc n) (r ∷ rs) row h (inr later) = ⊎_elim (λ (among : IsAmong (take n rs) row). inl (inr among))
    (λ full. inr (ap suc full.0, (among_all (ComesBefore r) rs row h.0 later, full.1))) (taken_or_behind n rs row h.1 later)

among_left : (xs ys : List (List ℕ)) (row : List ℕ) → IsAmong xs row → IsAmong (xs ++ ys) row
among_left [] ys row h = absurd h
among_left (x ∷ xs) ys row (inl same) = inl same
among_left (x ∷ xs) ys row (inr later) = inr (among_left xs ys row later)

among_right : (xs ys : List (List ℕ)) (row : List ℕ) → IsAmong ys row → IsAmong (xs ++ ys) row
among_right [] ys row h = h
among_right (x ∷ xs) ys row h = inr (among_right xs ys row h)

all_before : (Q : List ℕ → Type 0) (x : List ℕ) (ys : List (List ℕ)) → ((y : List ℕ) → Q y → ComesBefore x y) → AllByRecursion Q ys → AllByRecursion (ComesBefore x) ys
all_before Q x [] apart h = tt
all_before Q x (y ∷ ys) apart h = (apart y h.0, all_before Q x ys apart h.1)

ascend_joined : (P Q : List ℕ → Type 0) (xs ys : List (List ℕ)) → ((x y : List ℕ) → P x → Q y → ComesBefore x y) → AllByRecursion P xs → AllByRecursion Q ys
    → Ascend xs → Ascend ys → Ascend (xs ++ ys)
ascend_joined P Q [] ys apart p q h g = g
ascend_joined P Q (x ∷ xs) ys apart p q h g =
    (all_joined (ComesBefore x) xs ys h.0 (all_before Q x ys (λ y. apart x y p.0) q), ascend_joined P Q xs ys apart p.1 q h.1 g)

-- where there are as many as may be, they are all that is taken
taken_whole : (n : ℕ) (xs ys : List (List ℕ)) → length xs ≡ n → take n (xs ++ ys) ≡ xs
taken_whole zero [] ys e = refl
taken_whole zero (x ∷ xs) ys e = absurd (omega (arith, e))
taken_whole (suc n) [] ys e = absurd (omega (arith, e))
taken_whole (suc n) (x ∷ xs) ys e = ap (λ (rest : List (List ℕ)). x ∷ rest) (taken_whole n xs ys (omega (arith, e)))

-- a row behind as many as may be, of which those that are taken are the first
full_taken : (R : List ℕ → Type 0) (n : ℕ) (xs ys : List (List ℕ)) → length ys ≡ n → AllByRecursion R xs → AllByRecursion R ys
    → (length (take n (xs ++ ys)) ≡ n) × AllByRecursion R (take n (xs ++ ys))
full_taken R zero xs ys e h g = (let le : length (take 0 (xs ++ ys)) ≤ 0 = few_taken 0 (xs ++ ys) in omega (arith, le), all_taken R 0 (xs ++ ys) (all_joined R xs ys h g))
full_taken R (suc n) [] ys e h g = (ap length (taken_whole_self (suc n) ys e) ∙ e, all_taken R (suc n) ys g)
  where
    taken_whole_self : (m : ℕ) (zs : List (List ℕ)) → length zs ≡ m → take m zs ≡ zs
    taken_whole_self zero [] e = refl
    taken_whole_self zero (z ∷ zs) e = absurd (omega (arith, e))
    taken_whole_self (suc m) [] e = refl
    taken_whole_self (suc m) (z ∷ zs) e = ap (λ (rest : List (List ℕ)). z ∷ rest) (taken_whole_self m zs (omega (arith, e)))
full_taken R (suc n) (x ∷ xs) ys e h g = (ap suc (longer n xs ys (omega (arith, e))), (h.0, all_taken R n (xs ++ ys) (all_joined R xs ys h.1 g)))
  where
    longer : (m : ℕ) (us vs : List (List ℕ)) → m ≤ length vs → length (take m (us ++ vs)) ≡ m
    longer zero us vs le = let few : length (take 0 (us ++ vs)) ≤ 0 = few_taken 0 (us ++ vs) in omega (arith, few)
    longer (suc m) (u ∷ us) vs le = ap suc (longer m us vs (omega (arith, le)))
    longer (suc m) [] [] le = absurd (omega (arith, le))
    longer (suc m) [] (v ∷ vs) le = ap suc (longer m [] vs (omega (arith, le)))

pub first_of_both : (P Q : List ℕ → Type 0) (most : ℕ) (xs ys : List (List ℕ)) → ((x y : List ℕ) → P x → Q y → ComesBefore x y)
    → AreFirst P most xs → AreFirst Q most ys → AreFirst (λ row. P row ⊎ Q row) most (take most (xs ++ ys))
first_of_both P Q most xs ys apart f g =
    let ascend : Ascend (xs ++ ys) = ascend_joined P Q xs ys apart f.each g.each f.ascend g.ascend in
    record {
      ascend = ascend_taken most (xs ++ ys) ascend;
      each = all_taken (λ r. P r ⊎ Q r) most (xs ++ ys) (all_joined (λ r. P r ⊎ Q r) xs ys (all_left P Q xs f.each) (all_right P Q ys g.each));
      few = few_taken most (xs ++ ys);
      others = λ row h. ⊎_elim
          (λ (p : P row). ⊎_elim (λ (among : IsAmong xs row). taken_or_behind most (xs ++ ys) row ascend (among_left xs ys row among))
          (λ full. inr (subst (λ (zs : List (List ℕ)). (length zs ≡ most) × AllByRecursion (λ r. ComesBefore r row) zs) (sym (taken_whole most xs ys full.0)) full)) (f.others row p))
          (λ (q : Q row). ⊎_elim (λ (among : IsAmong ys row). taken_or_behind most (xs ++ ys) row ascend (among_right xs ys row among))
          (λ full. inr (full_taken (λ r. ComesBefore r row) most xs ys full.0 (all_before_row xs (λ x px. apart x row px q) f.each) full.1)) (g.others row q))
          h;
    }
  where
    all_before_row : (zs : List (List ℕ)) {row : List ℕ} → ((x : List ℕ) → P x → ComesBefore x row) → AllByRecursion P zs → AllByRecursion (λ r. ComesBefore r row) zs
    all_before_row [] apart h = tt
    all_before_row (z ∷ zs) apart h = (apart z h.0, all_before_row zs apart h.1)
