-- Whether the conditions of the chain hold, by what its context has.
use Rattle.std.proofs.Common.{◌≡◌, ◌∙◌, ap, sym, refl, ℕ, ◌<◌, ◌≤◌, ℤ, pos, Bool, true, false, List, [], ◌∷◌, Some, arith}
use Rattle.std.proofs.lemmas.Cmp.{int_ranked, by_ranked}
use Rattle.std.proofs.lemmas.Int.{ints}
use Rattle.std.specs.Prelude.{codes, not, ◌||◌}
use Rattle.std.specs.List.{list_any}
use Rattle.std.specs.Ordering.{int_cmp, int_eq, is_lt}
use Rattle.wc_value.specs.Ascending.{lookup}
use Rattle.wc_value.specs.declared.process.Reason.TheVariants.{MissingKey}
use Rattle.wc_value.specs.declared.value.Value.{Value, out-Value, fold-roll-Value}
use Rattle.wc_value.specs.declared.value.Value.TheVariants as value
use Rattle.wc_value.specs.declared.value.Value.TheOpen.{Value-F}
use Rattle.wc_syntax.specs.declared.expression.BinaryOp.TheVariants as binary
use Rattle.wc_syntax.specs.declared.expression.ChildPart.TheVariants as part
use Rattle.wc_syntax.specs.declared.expression.Expr.{Expr}
use Rattle.wc_syntax.specs.declared.expression.UnaryOp.TheVariants as unary
use Rattle.wc_state.specs.declared.environment.Child.{Child}
use Rattle.wc_state.specs.declared.environment.Env.{Env}
use Rattle.wc_state.specs.declared.environment.Item.TheVariants.{Plain, One}
use Rattle.wc_expression.specs.declared.outcome.Outcome.TheVariants.{Gives}
use Rattle.wc_expression.specs.Contents.{bool_of}
use Rattle.wc_expression.specs.Environment as environment
use Rattle.wc_expression.specs.Equality.{equal, is_equal_to}
use Rattle.wc_expression.specs.Outcomes.{◌>>=◌, found}
use Rattle.wc_expression.specs.Val.{val, holds}
use Rattle.wc_restart.specs.Pieces.{numeral, plain, child, negated, joined}
use Rattle.wc_restart.specs.Statements.{goes_on, has_succeeded, has_status, or_one_of, is_one_of}
use Rattle.wc_attempts.proofs.Values.{int_allowed, bool_allowed, number_gives, unary_gives, binary_gives, settled_gives, truth_gives, plain_gives, child_gives}

-- ---- numbers

less_is : (k m : ℕ) → k < m → is_lt (int_cmp (pos k) (pos m)) ≡ true
less_is k m h =
    by_ranked _ _ _ (int_cmp (pos k) (pos m)) (int_ranked (pos k) (pos m) (int_cmp (pos k) (pos m)) refl)
    (λ e p. ap is_lt e) (λ e p. absurd (omega (arith, ints))) (λ e p. absurd (omega (arith, ints)))

most_is : (k m : ℕ) → m ≤ k → is_lt (int_cmp (pos k) (pos m)) ≡ false
most_is k m h =
    by_ranked _ _ _ (int_cmp (pos k) (pos m)) (int_ranked (pos k) (pos m) (int_cmp (pos k) (pos m)) refl)
    (λ e p. absurd (omega (arith, ints))) (λ e p. ap is_lt e) (λ e p. ap is_lt e)

same_int : (z : ℤ) (n : ℕ) → equal (value.Int z) (value.Int (pos n)) ≡ int_eq z (pos n)
unfolding out-Value denote.Hole.Carrier.out
same_int z n = ap (λ (f : Value → Bool). f (value.Int (pos n))) (ap equal (sym (value.rolls-Int z)) ∙ fold-roll-Value (Value → Bool) is_equal_to (Value-F.Int z))

module _ (env : Env) where
  -- an expression is this truth value
  abbrev pub Says : Expr → Bool → Type 0
  Says e b = val e env ≡ Gives (value.Bool b)

  pub says_holds : (e : Expr) (b : Bool) → Says e b → holds e env ≡ Gives b
  unfolding out-Value denote.Hole.Carrier.out
  says_holds e b h = ap (λ o. o >>= (λ v. bool_of (out-Value v))) h

  -- ---- what keys hold

  abbrev pub HasFlag : List ℕ → Bool → Type 0
  HasFlag key b = lookup key env.ctx ≡ Some (Plain (value.Bool b))

  abbrev pub HasNumber : List ℕ → ℕ → Type 0
  HasNumber key n = lookup key env.ctx ≡ Some (Plain (value.Int (pos n)))

  abbrev pub HasChild : List ℕ → Child → Type 0
  HasChild key c = lookup key env.ctx ≡ Some (One c)

  plain_is : (key : List ℕ) (v : Value) → lookup key env.ctx ≡ Some (Plain v) → environment.plain key env ≡ Gives v
  plain_is key v h = ap (λ o. found MissingKey o >>= environment.plain_of) h

  pub flag_says : (key : List ℕ) (b : Bool) → HasFlag key b → Says (plain key) b
  flag_says key b h = plain_gives env key (value.Bool b) (plain_is key (value.Bool b) h) (bool_allowed b)

  pub not_says : (key : List ℕ) (b : Bool) → HasFlag key b → Says (negated (plain key)) (not b)
  unfolding out-Value denote.Hole.Carrier.out
  not_says key b h = unary_gives env unary.Not (plain key) (value.Bool b) (value.Bool (not b)) (flag_says key b h) refl (bool_allowed (not b))

  pub number_is : (key : List ℕ) (n : ℕ) → HasNumber key n → val (plain key) env ≡ Gives (value.Int (pos n))
  number_is key n h = plain_gives env key (value.Int (pos n)) (plain_is key (value.Int (pos n)) h) (int_allowed (pos n) refl)

  -- ---- the loop's condition

  -- after a success it isn't looked how many attempts there were
  pub done_stops : (most : ℕ) → HasFlag (codes "done") true → Says (goes_on most) false
  unfolding out-Value denote.Hole.Carrier.out
  done_stops most h =
      settled_gives env binary.And (negated (plain (codes "done"))) (joined binary.Less (plain (codes "n")) (numeral most)) (value.Bool false)
      (not_says (codes "done") true h) refl (bool_allowed false)

  below : (most n : ℕ) (b : Bool) → HasNumber (codes "n") n → is_lt (int_cmp (pos n) (pos most)) ≡ b → Says (joined binary.Less (plain (codes "n")) (numeral most)) b
  unfolding out-Value denote.Hole.Carrier.out
  below most n b h k =
      binary_gives env binary.Less (plain (codes "n")) (numeral most) (value.Int (pos n)) (value.Int (pos most)) (value.Bool b) (number_is (codes "n") n h) refl
      (number_gives env most (int_allowed (pos most) refl)) (ap (λ c. Gives (value.Bool c)) k) (bool_allowed b)

  undone : (most n : ℕ) (b : Bool) → HasFlag (codes "done") false → HasNumber (codes "n") n → is_lt (int_cmp (pos n) (pos most)) ≡ b → Says (goes_on most) b
  unfolding out-Value denote.Hole.Carrier.out
  undone most n b d h k =
      binary_gives env binary.And (negated (plain (codes "done"))) (joined binary.Less (plain (codes "n")) (numeral most)) (value.Bool true) (value.Bool b) (value.Bool b)
      (not_says (codes "done") false d) refl (below most n b h k) refl (bool_allowed b)

  pub goes_on_says : (most n : ℕ) → HasFlag (codes "done") false → HasNumber (codes "n") n → n < most → Says (goes_on most) true
  goes_on_says most n d h k = undone most n true d h (less_is n most k)

  pub is_spent_says : (most n : ℕ) → HasFlag (codes "done") false → HasNumber (codes "n") n → most ≤ n → Says (goes_on most) false
  is_spent_says most n d h k = undone most n false d h (most_is n most k)

  -- ---- what the job ended with

  child_is : (key : List ℕ) (c : Child) → HasChild key c → environment.child key env ≡ Gives c
  child_is key c h = ap (λ o. found MissingKey o >>= environment.child_of) h

  pub succeeded_says : (c : Child) → HasChild (codes "job") c → Says has_succeeded (environment.is_success c.state)
  succeeded_says c h =
      child_gives env (codes "job") part.Ok (value.Bool (environment.is_success c.state)) (ap (λ o. o >>= environment.asked part.Ok) (child_is (codes "job") c h))
      (bool_allowed (environment.is_success c.state))

  module _ (c : Child) (held : HasChild (codes "job") c) where
    abbrev status : ℤ
    status = environment.status_of c.state

    abbrev is_it : ℕ → Bool
    is_it n = int_eq status (pos n)

    status_given : val (child (codes "job") part.Status) env ≡ Gives (value.Int status)
    status_given =
        child_gives env (codes "job") part.Status (value.Int status) (ap (λ o. o >>= environment.asked part.Status) (child_is (codes "job") c held)) (int_allowed status refl)

    status_says : (n : ℕ) → Says (has_status n) (is_it n)
    unfolding out-Value denote.Hole.Carrier.out
    status_says n =
        binary_gives env binary.Equal (child (codes "job") part.Status) (numeral n) (value.Int status) (value.Int (pos n)) (value.Bool (is_it n)) status_given refl
        (number_gives env n (int_allowed (pos n) refl)) (ap (λ b. Gives (value.Bool b)) (same_int status n)) (bool_allowed (is_it n))

    or_says : (a b : Expr) (x y : Bool) → Says a x → Says b y → Says (joined binary.Or a b) (x || y)
    unfolding out-Value denote.Hole.Carrier.out
    or_says a b true y p q = settled_gives env binary.Or a b (value.Bool true) p refl (bool_allowed true)
    or_says a b false y p q = binary_gives env binary.Or a b (value.Bool false) (value.Bool y) (value.Bool y) p refl q refl (bool_allowed y)

    or_assoc : (x y z : Bool) → ((x || y) || z) ≡ (x || (y || z))
    or_assoc true y z = refl
    or_assoc false y z = refl

    or_false : (x : Bool) → (x || false) ≡ x
    or_false true = refl
    or_false false = refl

    or_one_of_says : (e : Expr) (x : Bool) (ns : List ℕ) → Says e x → Says (or_one_of e ns) (x || list_any is_it ns)
    or_one_of_says e x [] h = h ∙ ap (λ b. Gives (value.Bool b)) (sym (or_false x))
    or_one_of_says e x (n ∷ ns) h =
        or_one_of_says (joined binary.Or e (has_status n)) (x || is_it n) ns (or_says e (has_status n) x (is_it n) h (status_says n))
        ∙ ap (λ b. Gives (value.Bool b)) (or_assoc x (is_it n) (list_any is_it ns))

    -- one of these statuses
    pub is_one_of_says : (ns : List ℕ) → Says (is_one_of ns) (list_any is_it ns)
    is_one_of_says [] = truth_gives env false
    is_one_of_says (n ∷ ns) = or_one_of_says (has_status n) (is_it n) ns (status_says n)
