-- Names that stand twice, by what is known of those before.
use Rattle.std.proofs.Common.{◌≡◌, ℕ, ℤ, List, [], ◌∷◌, ◌++◌, Bool, true, false, refl, sym, ap, ◌∙◌}
use Rattle.std.specs.Prelude.{◌||◌, not, Option}
use Rattle.std.specs.Str.{bytes_eq}
use Rattle.std.specs.Fmt.{signed_decimal}
use Rattle.std.specs.Ordering.{int_eq}
use Rattle.std.specs.List.{list_any}
use Rattle.wc_syntax.specs.declared.expression.Number.{Number}
use Rattle.wc_syntax.specs.Findings.{Finding, is_among, is_status, unless, twice, repeats_after, repeated_statuses_after}
use Rattle.wc_check.specs.Least.{Agree, AgreeAt, least_after}
use Rattle.wc_check.proofs.Leasts.{least_joined}

pub any_append : {A : Type 0} (test : A → Bool) (xs zs : List A) → list_any test (xs ++ zs) ≡ (list_any test xs || list_any test zs)
any_append test [] zs = refl
any_append test (x ∷ xs) zs = ap (λ b. test x || b) (any_append test xs zs) ∙ joined (test x) _ _
  where
    joined : (a b c : Bool) → (a || (b || c)) ≡ ((a || b) || c)
    joined true b c = refl
    joined false b c = refl

pub agree_last : (xs ys : List (List ℕ)) (n : List ℕ) → Agree xs ys → Agree (xs ++ n ∷ []) (ys ++ n ∷ [])
agree_last xs ys n h = λ m. any_append (λ k. bytes_eq k m) xs (n ∷ []) ∙ ap (λ b. b || is_among m (n ∷ [])) (h m) ∙ sym (any_append (λ k. bytes_eq k m) ys (n ∷ []))

pub repeats_agree : (xs ys : List (List ℕ)) (ns : List (List ℕ × ℕ)) → Agree xs ys → repeats_after xs ns ≡ repeats_after ys ns
repeats_agree xs ys [] h = refl
repeats_agree xs ys (n ∷ ns) h = λ i. unless (not (h n.0 i)) (twice n.0 n.1) ++ repeats_agree (xs ++ n.0 ∷ []) (ys ++ n.0 ∷ []) ns (agree_last xs ys n.0 h) i

-- one name more, in a loop over them
pub repeat_turn : (best now : Option Finding) (before after : List (List ℕ)) (name : List ℕ) (at : ℕ) (n : List ℕ × ℕ) (ns : List (List ℕ × ℕ))
    → name ≡ n.0 → at ≡ n.1 → now ≡ least_after best (unless (not (is_among name before)) (twice name at)) → Agree after (before ++ name ∷ [])
    → least_after now (repeats_after after ns) ≡ least_after best (repeats_after before (n ∷ ns))
repeat_turn best now before after name at n ns p q e h =
    (λ i. least_after (e i) (repeats_agree after (before ++ name ∷ []) ns h i))
    ∙ sym (least_joined best (unless (not (is_among name before)) (twice name at)) (repeats_after (before ++ name ∷ []) ns))
    ∙ (λ i. least_after best (unless (not (is_among (p i) before)) (twice (p i) (q i)) ++ repeats_after (before ++ p i ∷ []) ns))

-- ---- the same of statuses
pub statuses_agree_last : (xs ys : List ℤ) (n : ℤ) → AgreeAt is_status xs ys → AgreeAt is_status (xs ++ n ∷ []) (ys ++ n ∷ [])
statuses_agree_last xs ys n h = λ m. any_append (λ k. int_eq k m) xs (n ∷ []) ∙ ap (λ b. b || is_status m (n ∷ [])) (h m) ∙ sym (any_append (λ k. int_eq k m) ys (n ∷ []))

statuses_agree : (xs ys : List ℤ) (ns : List Number) → AgreeAt is_status xs ys → repeated_statuses_after xs ns ≡ repeated_statuses_after ys ns
statuses_agree xs ys [] h = refl
statuses_agree xs ys (n ∷ ns) h = λ i.
    unless (not (h n.value i)) (twice (signed_decimal n.value) n.at) ++ statuses_agree (xs ++ n.value ∷ []) (ys ++ n.value ∷ []) ns (statuses_agree_last xs ys n.value h) i

-- one status more, in a loop over them
pub status_turn : (best now : Option Finding) (before after : List ℤ) (n : Number) (ns : List Number)
    → now ≡ least_after best (unless (not (is_status n.value before)) (twice (signed_decimal n.value) n.at)) → AgreeAt is_status after (before ++ n.value ∷ [])
    → least_after now (repeated_statuses_after after ns) ≡ least_after best (repeated_statuses_after before (n ∷ ns))
status_turn best now before after n ns e h =
    (λ i. least_after (e i) (statuses_agree after (before ++ n.value ∷ []) ns h i))
    ∙ sym (least_joined best (unless (not (is_status n.value before)) (twice (signed_decimal n.value) n.at)) (repeated_statuses_after (before ++ n.value ∷ []) ns))
