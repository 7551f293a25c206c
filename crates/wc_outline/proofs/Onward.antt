-- The run that remains after an advance, by what was answered of it.
use Rattle.std.proofs.Common.{◌≡◌, ℕ, List, [], ◌∷◌, Option, Some, map, refl, sym, ap, subst, ◌∙◌}
use Rattle.std.specs.Prelude.{All, option_map}
use Rattle.std.proofs.lemmas.List.Elements.{All-nil, All-cons, All-head, All-tail}
use Rattle.wc_syntax.specs.declared.definition.Chain.{Chain}
use Rattle.wc_syntax.specs.declared.definition.Definition.{Definition}
use Rattle.wc_state.specs.declared.environment.Env.{Env}
use Rattle.wc_state.specs.declared.environment.NodeValue.{NodeValue}
use Rattle.wc_state.specs.declared.record.Checkpoint.{Checkpoint}
use Rattle.wc_semantics.specs.Meaning.{ended}
use Rattle.wc_machine.specs.Advances.{Advanced, goes, loops, submits, ends, advance}
use Rattle.wc_machine.specs.Steps.{Argument, node, plain, Call}
use Rattle.wc_turn_laws.specs.OutlineLaws.{remains}
use Rattle.wc_turn_laws.specs.Nodes.{InArgument, InCall, HoldsAfter}
use Rattle.wc_turn_laws.specs.View.{View, env_in}
use Rattle.wc_turn_laws.proofs.Exact.{advances_are_exact}
use Rattle.wc_turn_laws.proofs.Named.{seen_nodes}
use Rattle.wc_turn_laws.proofs.Passed.{advance_holds}
use Rattle.wc_outline.specs.declared.calls.Advanced.{Advanced as Answered}
use Rattle.wc_outline.specs.Onward.{with_value, with_values, seen_by, around_at, EndsAlike}
use Rattle.wc_outline.specs.Shown.{shown_argument, shown_arguments, shown_call, shown}

module _ (v : View) where
  abbrev IsSeen : NodeValue → Type 0
  IsSeen n = v.value n.node ≡ n.value

  argument_back : (x : Argument) → InArgument IsSeen x → with_value v (shown_argument x) ≡ x
  argument_back (node n) h = λ i. node (record { node = n.node; value = h i })
  argument_back (plain u) h = refl

  arguments_back : (args : List (List ℕ × Argument)) → All (λ e. InArgument IsSeen e.1) args → map (λ a. (a.0, with_value v a.1)) (shown_arguments args) ≡ args
  arguments_back [] h = refl
  arguments_back (a ∷ rest) h = λ i.
      (a.0, argument_back a.1 (All-head (λ e. InArgument IsSeen e.1) a rest h) i) ∷ arguments_back rest (All-tail (λ e. InArgument IsSeen e.1) a rest h) i

  call_back : (c : Call) → InCall IsSeen c → with_values v (shown_call c) ≡ c
  call_back c h = λ i. record { definition = c.definition; label = c.label; key = c.key; append = c.append; args = arguments_back c.args h i }

  calls_back : (cs : List Call) → All (InCall IsSeen) cs → map (with_values v) (map shown_call cs) ≡ cs
  calls_back [] h = refl
  calls_back (c ∷ cs) h = λ i. call_back c (All-head (InCall IsSeen) c cs h) i ∷ calls_back cs (All-tail (InCall IsSeen) c cs h) i

  answer_back : (x : Advanced) → HoldsAfter IsSeen (λ held. Unit {0}) (λ id. Unit {0}) x → seen_by v (shown x) ≡ x
  answer_back (goes d) h = refl
  answer_back (loops d) h = refl
  answer_back (submits d cs) h = λ i. submits d (calls_back cs h.1 i)
  answer_back (ends s outputs) h = refl

all_so : {A : Type 0} (xs : List A) → All (λ x. Unit {0}) xs
all_so [] = All-nil (λ x. Unit {0})
all_so (x ∷ xs) = All-cons (λ x. Unit {0}) x xs tt (all_so xs)

pub ends_alike : (library : List Definition) (k : Chain) (depth : ℕ) (env : Env) (c : Checkpoint) → EndsAlike library k depth env c (shown (advance library k depth env c))
ends_alike library k depth env c v inputs e seen earlier table cuts stop name n =
    let here = env_in v inputs c.ctx in
    let a = around_at library k depth table cuts stop in
    advances_are_exact library k depth v inputs c earlier table cuts stop name n seen a refl
    ∙ ap (λ (x : Advanced). ended stop name k.head.outputs (remains k v inputs earlier a c x n))
    (sym (answer_back v (advance library k depth here c)
    (advance_holds (λ m. v.value m.node ≡ m.value) (λ held. Unit {0}) (λ id. Unit {0}) (λ x. tt) (λ m p. tt) library k depth here c (seen_nodes v inputs c.ctx seen) (all_so c.ctx, all_so c.outputs)))
    ∙ ap (λ (w : Env). seen_by v (shown (advance library k depth w c))) (sym e))

-- of an answer that is the one for a chain
pub alike_by : (library : List Definition) (o : Option Chain) (depth : ℕ) (env : Env) (c : Checkpoint) (x : Answered)
    → option_map (λ k. shown (advance library k depth env c)) o ≡ Some x → (k : Chain) → o ≡ Some k → EndsAlike library k depth env c x
alike_by library o depth env c x h k e v inputs =
    let same : shown (advance library k depth env c) ≡ x = some_same (sym (ap (option_map (λ j. shown (advance library j depth env c))) e) ∙ h) in
    subst (λ (z : Answered). EndsAlike library k depth env c z) same (ends_alike library k depth env c) v inputs
  where
    some_same : {A : Type 0} {y z : A} → Some y ≡ Some z → y ≡ z
    some_same p = cc
