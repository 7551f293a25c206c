-- The labels of one process differ: what stands behind the last underscore is the number of the call.
use Rattle.std.proofs.Common.{◌≡◌, ℕ, ◌+◌, ◌<◌, ◌^◌, ◌%◌, ◌==◌, Bool, true, false, List, [], ◌∷◌, ◌++◌, Option, Some, None, refl, sym, ap, ◌∙◌, arith}
use Rattle.std.specs.Prelude.{if◌then◌else◌}
use Rattle.std.specs.Fmt.{decimal}
use Rattle.std.proofs.lemmas.Fmt.{decimal_by_steps, decimal_injective}
use Rattle.std.proofs.lemmas.Bool.{eqb-true}
use Rattle.wc_semantics.specs.Run.{label}
use Rattle.wc_semantics.proofs.Induction.{AllOf}

-- what stands behind the last underscore
choose : Option (List ℕ) → Bool → List ℕ → Option (List ℕ)
choose (Some t) b xs = Some t
choose None b xs = if b then Some xs else None

behind : List ℕ → Option (List ℕ)
behind [] = None
behind (x ∷ xs) = choose (behind xs) (x == 95) xs

all_last : (P : ℕ → Type 0) (ds : List ℕ) (d : ℕ) → AllOf P ds → P d → AllOf P (ds ++ d ∷ [])
all_last P [] d t p = (p, tt)
all_last P (x ∷ xs) d t p = (t.0, all_last P xs d t.1 p)

digits_low : (n : ℕ) → n < 2 ^ 64 → AllOf (λ d. d < 95) (decimal n)
digits_low = decimal_by_steps (λ n ds. AllOf (λ d. d < 95) ds) (λ n h. (omega arith, tt)) (λ n ds h t. all_last _ ds (48 + n % 10) t (omega arith))

not_it : (x : ℕ) (b : Bool) (xs : List ℕ) → x < 95 → (x == 95) ≡ b → choose None b xs ≡ None
unfolding choose
not_it x true xs h p = absurd (no (eqb-true x 95 p))
  where
    no : x ≡ 95 → ⊥
    no e = omega arith
not_it x false xs h p = refl

low_none : (ds : List ℕ) → AllOf (λ d. d < 95) ds → behind ds ≡ None
unfolding behind
low_none [] t = refl
low_none (x ∷ xs) t = ap (λ o. choose o (x == 95) xs) (low_none xs t.1) ∙ not_it x (x == 95) xs t.0 refl

at_it : (ds : List ℕ) → AllOf (λ d. d < 95) ds → behind (95 ∷ ds) ≡ Some ds
unfolding behind choose
at_it ds t = ap (λ o. choose o true ds) (low_none ds t)

past_it : (xs zs t : List ℕ) → behind zs ≡ Some t → behind (xs ++ zs) ≡ Some t
unfolding behind choose
past_it [] zs t h = h
past_it (x ∷ xs) zs t h = ap (λ o. choose o (x == 95) (xs ++ zs)) (past_it xs zs t h)

some_same : (x y : List ℕ) → Some x ≡ Some y → x ≡ y
some_same x y p = cc

pub labels_differ : (key key' : List ℕ) (n n' : ℕ) → n < 2 ^ 64 → n' < 2 ^ 64 → label key n ≡ label key' n' → n ≡ n'
labels_differ key key' n n' h h' p = decimal_injective n n' h h' (some_same (decimal n) (decimal n')
    (sym (past_it key (95 ∷ decimal n) (decimal n) (at_it (decimal n) (digits_low n h)))
    ∙ ap behind p ∙ past_it key' (95 ∷ decimal n') (decimal n') (at_it (decimal n') (digits_low n' h'))))
