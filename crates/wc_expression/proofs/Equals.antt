-- The test of equality is true of equal values and of no others.
use Rattle.std.proofs.Common.{◌≡◌, ℕ, Bool, true, false, ◌&&◌, List, [], ◌∷◌, map, refl, sym, subst, ap, ◌∙◌}
use Rattle.std.specs.Bool.{Decides}
use Rattle.std.specs.Cmp.Lexicographic.{pointwise}
use Rattle.std.specs.Ordering.{int_eq}
use Rattle.std.specs.Str.{bytes_eq}
use Rattle.std.proofs.lemmas.Bool.Decides.{Decides-int_eq, same_from_decides}
use Rattle.std.proofs.lemmas.Slice.Eq.{bytes_eq-Decides, slice_eq-Decides}
use Rattle.wc_value.specs.declared.value.Value.{Value, out-Value, roll-Value, out-roll-Value, roll-out-Value, fold-roll-Value, ind-Value, map-Value}
use Rattle.wc_value.specs.declared.value.Value.TheOpen.{Value-F}
use Rattle.std.specs.Prelude.{if◌then◌else◌}
use Rattle.wc_value.specs.Kinds.{kind_of}
use Rattle.wc_value.specs.declared.process.Reason.TheVariants.{WrongKind}
use Rattle.wc_expression.specs.declared.outcome.Outcome.TheVariants.{Gives, Faults}
use Rattle.wc_expression.specs.Contents.{has_kind}
use Rattle.wc_expression.specs.Operators.{equality}
use Rattle.wc_expression.specs.Equality.{same_truth, equal_level, is_equal_to, equal}

truths : (a b : Bool) → Decides (same_truth a b) (a ≡ b)
truths true true = (λ e. refl, λ e. refl)
truths true false = (λ e. absurd (cc), λ e. absurd (cc))
truths false true = (λ e. absurd (cc), λ e. absurd (cc))
truths false false = (λ e. refl, λ e. refl)

left : (a b : Bool) → a && b ≡ true → a ≡ true
left true b h = refl
left false b h = h

right : (a b : Bool) → a && b ≡ true → b ≡ true
right true b h = h
right false b h = absurd (cc)

both : (a b : Bool) → a ≡ true → b ≡ true → a && b ≡ true
both a b p q = ap (λ c. c && b) p ∙ q

-- ---- lists, item by item

module _ {S X B : Type 0} (test : X → B → Bool) (g : B → X) (h : S → B) (decides : (s : S) (b : B) → Decides (test (g (h s)) b) (h s ≡ b)) where
  all_same : (ss : List S) (bs : List B) → pointwise test (map g (map h ss)) bs ≡ true → map h ss ≡ bs
  all_same [] [] e = refl
  all_same [] (b ∷ bs) e = absurd (cc)
  all_same (s ∷ ss) [] e = absurd (cc)
  all_same (s ∷ ss) (b ∷ bs) e =
      let rest = pointwise test (map g (map h ss)) bs in
      let first : h s ≡ b = (decides s b).0 (left (test (g (h s)) b) rest e) in
      let others : map h ss ≡ bs = all_same ss bs (right (test (g (h s)) b) rest e) in
      λ i. first i ∷ others i

  all_pass : (ss : List S) (bs : List B) → map h ss ≡ bs → pointwise test (map g (map h ss)) bs ≡ true
  all_pass [] [] e = refl
  all_pass [] (b ∷ bs) e = absurd (cc)
  all_pass (s ∷ ss) [] e = absurd (cc)
  all_pass (s ∷ ss) (b ∷ bs) e = both (test (g (h s)) b) (pointwise test (map g (map h ss)) bs) ((decides s b).1 (cc)) (all_pass ss bs (cc))

  lists : (ss : List S) (bs : List B) → Decides (pointwise test (map g (map h ss)) bs) (map h ss ≡ bs)
  lists ss bs = (all_same ss bs, all_pass ss bs)

-- ---- pairs

abbrev Named : Type 0 → Type 0
Named A = List ℕ × A

pairs : {A : Type 0} (p q : Named A) (test : Bool) → Decides test (p.1 ≡ q.1) → Decides (bytes_eq p.0 q.0 && test) (p ≡ q)
pairs {A} p q test h =
    let names = bytes_eq-Decides p.0 q.0 in (
      λ e. (λ i. (names.0 (left (bytes_eq p.0 q.0) test e) i, h.0 (right (bytes_eq p.0 q.0) test e) i)),
      λ e. both (bytes_eq p.0 q.0) test (names.1 (ap (λ (r : Named A). r.0) e)) (h.1 (ap (λ (r : Named A). r.1) e)),
    )

files : (p q : Named (List ℕ)) → Decides (bytes_eq p.0 q.0 && bytes_eq p.1 q.1) (p ≡ q)
files p q = pairs p q (bytes_eq p.1 q.1) (bytes_eq-Decides p.1 q.1)

-- ---- one level, where the test is right of what is inside

along : (b : Bool) (P Q : Type 0) → (P → Q) → (Q → P) → Decides b P → Decides b Q
along b P Q f g h = (λ e. f (h.0 e), λ q. h.1 (g q))

module _ {S : Type 0} (v : S → Value) (inside : (s : S) (w : Value) → Decides (equal (v s) w) (v s ≡ w)) where
  abbrev opened : Value-F S → Value-F Value
  opened y = map-Value S Value v y

  level : (y : Value-F S) (z : Value-F Value) → Decides (equal_level (map-Value Value (Value → Bool) equal (opened y)) z) (opened y ≡ z)
  level (Value-F.Int a) (Value-F.Int b) = along (int_eq a b) (a ≡ b) _ (λ e. cc) (λ e. cc) (Decides-int_eq a b)
  level (Value-F.Bool a) (Value-F.Bool b) = along (same_truth a b) (a ≡ b) _ (λ e. cc) (λ e. cc) (truths a b)
  level (Value-F.Text a) (Value-F.Text b) = along (bytes_eq a b) (a ≡ b) _ (λ e. cc) (λ e. cc) (bytes_eq-Decides a b)
  level (Value-F.List ss) (Value-F.List bs) = along _ (map v ss ≡ bs) _ (λ e. cc) (λ e. cc) (lists (λ a b. a b) equal v inside ss bs)
  level (Value-F.Dict ss) (Value-F.Dict bs) =
      along _ (map (λ (p : Named S). (p.0, v p.1)) ss ≡ bs) _ (λ e. cc) (λ e. cc)
      (lists (λ a b. bytes_eq a.0 b.0 && a.1 b.1) (λ (p : Named Value). (p.0, equal p.1)) (λ (p : Named S). (p.0, v p.1))
      (λ p q. pairs (p.0, v p.1) q (equal (v p.1) q.1) (inside p.1 q.1)) ss bs)
  level (Value-F.Folder fs) (Value-F.Folder gs) = along _ (fs ≡ gs) _ (λ e. cc) (λ e. cc) (slice_eq-Decides files fs gs _ refl)
  level _ _ = (λ e. absurd (cc), λ e. absurd (cc))

  whole : (y : Value-F S) (w : Value) → Decides (equal (roll-Value (opened y)) w) (roll-Value (opened y) ≡ w)
  whole y w =
      let test : equal (roll-Value (opened y)) w ≡ equal_level (map-Value Value (Value → Bool) equal (opened y)) (out-Value w)
      = ap (λ (f : Value → Bool). f w) (fold-roll-Value (Value → Bool) is_equal_to (opened y)) in
      let known = level y (out-Value w) in (
        λ e. ap roll-Value (known.0 (sym test ∙ e)) ∙ roll-out-Value w,
        λ e. test ∙ known.1 (sym (out-roll-Value (opened y)) ∙ ap out-Value e),
      )

pub equal_is : (v w : Value) → Decides (equal v w) (v ≡ w)
equal_is = ind-Value (λ v. (w : Value) → Decides (equal v w) (v ≡ w))
    (λ x y e. subst (λ (z : Value-F Value). (w : Value) → Decides (equal (roll-Value z) w) (roll-Value z ≡ w)) e (whole (λ s. s.0) (λ s. s.1) y))

-- what is answered of two values of one kind
pub equality_is : (r : Bool) (a b : Value) → has_kind (kind_of a) (out-Value b) ≡ true → Decides r (a ≡ b) → Gives r ≡ equality a b
equality_is r a b k h =
    ap Gives (same_from_decides r (equal a b) h (equal_is a b)) ∙ sym (ap (λ c. if c then Gives (equal a b) else Faults WrongKind) k)
