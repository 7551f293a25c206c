-- What stands in a list in order once an item was put in or taken out, and how long the list is.
use Rattle.std.proofs.Common.{◌≡◌, ℕ, suc, ◌+◌, Bool, true, false, List, [], ◌∷◌, length, refl, sym, ap, ◌∙◌, subst, arith}
use Rattle.std.specs.Prelude.{if◌then◌else◌, ◌||◌}
use Rattle.std.specs.List.{list_any}
use Rattle.wc_records.specs.Marked.{IsOrder, AllAfter, IsSorted, if_wanted, marked}
use Rattle.wc_records.proofs.Marks.{Tests}

either : (a b c : Bool) → a ≡ false → b ≡ c → a || b ≡ c
either a b c missing e = ap (λ (x : Bool). x || b) missing ∙ e

-- an item doesn't stand among those that come after it
none_after : {T : Type 0} (before : T → T → Bool) (o : IsOrder before) (test : T → Bool) (d : T) (ts : Tests test d) (xs : List T) → AllAfter before d xs → list_any test xs ≡ false
none_after before o test d ts [] h = refl
none_after {T} before o test d ts (x ∷ xs) h = either (test x) (list_any test xs) false (other (test x) refl) (none_after before o test d ts xs h.1)
  where
    other : (b : Bool) → test x ≡ b → test x ≡ false
    other true is = absurd (let e : x ≡ d = ts.same x is in let missing : before d x ≡ false = ap (before d) e ∙ o.not_itself d in let there = h.0 in cc)
    other false is = is

-- another item isn't what the test says
not_other : {T : Type 0} (before : T → T → Bool) (o : IsOrder before) (test : T → Bool) (d : T) (ts : Tests test d) (x : T) → before x d ≡ true → test x ≡ false
not_other {T} before o test d ts x lt = by_test (test x) refl
  where
    by_test : (b : Bool) → test x ≡ b → test x ≡ false
    by_test true is = absurd (let e : x ≡ d = ts.same x is in let missing : before x d ≡ false = ap (λ (y : T). before y d) e ∙ o.not_itself d in cc)
    by_test false is = is

stands_if_wanted : {T : Type 0} (test : T → Bool) (d : T) (w : Bool) (xs : List T) → test d ≡ true → list_any test xs ≡ false → list_any test (if_wanted d w xs) ≡ w
stands_if_wanted test d true xs there missing = ap (λ (b : Bool). b || list_any test xs) there
stands_if_wanted test d false xs there missing = missing

-- the item stands there exactly where it was wanted
pub stands_itself : {T : Type 0} (before : T → T → Bool) (o : IsOrder before) (test : T → Bool) (d : T) (ts : Tests test d) (w : Bool) (xs : List T) → IsSorted before xs
    → list_any test (marked before d w xs) ≡ w
stands_itself before o test d ts w [] h = stands_if_wanted test d w [] ts.itself refl
stands_itself {T} before o test d ts w (x ∷ xs) h = by_tests (before x d) (before d x) refl refl (stands_itself before o test d ts w xs h.1)
  where
    by_tests : (a b : Bool) → before x d ≡ a → before d x ≡ b → list_any test (marked before d w xs) ≡ w
        → list_any test (if a then x ∷ marked before d w xs else (if b then if_wanted d w (x ∷ xs) else if_wanted d w xs)) ≡ w
    by_tests true b is _ more = either (test x) (list_any test (marked before d w xs)) w (not_other before o test d ts x is) more
    by_tests false true _ is more = stands_if_wanted test d w (x ∷ xs) ts.itself (none_after before o test d ts (x ∷ xs) (is, later xs h.0 is))
      where
        later : (ys : List T) → AllAfter before x ys → before d x ≡ true → AllAfter before d ys
        later [] a lt = tt
        later (y ∷ ys) a lt = (o.along d x y lt a.0, later ys a.1 lt)
    by_tests false false one other more =
        let e : x ≡ d = o.same x d one other in
        stands_if_wanted test d w xs ts.itself (none_after before o test d ts xs (subst (λ (y : T). AllAfter before y xs) e h.0))

other_if_wanted : {T : Type 0} (test : T → Bool) (d : T) (w : Bool) (xs : List T) → test d ≡ false → list_any test (if_wanted d w xs) ≡ list_any test xs
other_if_wanted test d true xs missing = ap (λ (b : Bool). b || list_any test xs) missing
other_if_wanted test d false xs missing = refl

-- any other item stands there exactly where it stood
pub stands_other : {T : Type 0} (before : T → T → Bool) (o : IsOrder before) (test : T → Bool) (d : T) (w : Bool) (xs : List T) → test d ≡ false
    → list_any test (marked before d w xs) ≡ list_any test xs
stands_other before o test d w [] missing = other_if_wanted test d w [] missing
stands_other before o test d w (x ∷ xs) missing = by_tests (before x d) (before d x) refl refl (stands_other before o test d w xs missing)
  where
    by_tests : (a b : Bool) → before x d ≡ a → before d x ≡ b → list_any test (marked before d w xs) ≡ list_any test xs
        → list_any test (if a then x ∷ marked before d w xs else (if b then if_wanted d w (x ∷ xs) else if_wanted d w xs)) ≡ test x || list_any test xs
    by_tests true b _ _ more = ap (λ (c : Bool). test x || c) more
    by_tests false true _ _ more = other_if_wanted test d w (x ∷ xs) missing
    by_tests false false one other more =
        let e : test x ≡ false = ap test (o.same x d one other) ∙ missing in
        other_if_wanted test d w xs missing ∙ ap (λ (b : Bool). b || list_any test xs) (sym e)

abbrev pub as_number : Bool → ℕ
as_number true = 1
as_number false = 0

length_if_wanted : {T : Type 0} (d : T) (w : Bool) (xs : List T) → length (if_wanted d w xs) ≡ length xs + as_number w
length_if_wanted d true xs = omega arith
length_if_wanted d false xs = omega arith

-- the list is one longer where the item is wanted, and one shorter where it stood there
pub length_marked : {T : Type 0} (before : T → T → Bool) (o : IsOrder before) (test : T → Bool) (d : T) (ts : Tests test d) (w : Bool) (xs : List T) → IsSorted before xs
    → length (marked before d w xs) + as_number (list_any test xs) ≡ length xs + as_number w
length_marked before o test d ts w [] h = omega (arith, length_if_wanted d w [])
length_marked {T} before o test d ts w (x ∷ xs) h = by_tests (before x d) (before d x) refl refl (length_marked before o test d ts w xs h.1)
  where
    by_tests : (a b : Bool) → before x d ≡ a → before d x ≡ b → length (marked before d w xs) + as_number (list_any test xs) ≡ length xs + as_number w
        → length (if a then x ∷ marked before d w xs else (if b then if_wanted d w (x ∷ xs) else if_wanted d w xs)) + as_number (test x || list_any test xs)
        ≡ suc (length xs) + as_number w
    by_tests true b is _ more =
        let e : as_number (test x || list_any test xs) ≡ as_number (list_any test xs) = ap (λ (c : Bool). as_number (c || list_any test xs)) (not_other before o test d ts x is) in
        omega (arith, e, more)
    by_tests false true _ is more =
        let e : as_number (test x || list_any test xs) ≡ 0 = ap as_number (none_after before o test d ts (x ∷ xs) (is, later xs h.0 is)) in
        omega (arith, e, length_if_wanted d w (x ∷ xs))
      where
        later : (ys : List T) → AllAfter before x ys → before d x ≡ true → AllAfter before d ys
        later [] a lt = tt
        later (y ∷ ys) a lt = (o.along d x y lt a.0, later ys a.1 lt)
    by_tests false false one other more =
        let there : test x ≡ true = ap test (o.same x d one other) ∙ ts.itself in
        let e : as_number (test x || list_any test xs) ≡ 1 = ap (λ (c : Bool). as_number (c || list_any test xs)) there in
        omega (arith, e, length_if_wanted d w xs)
