-- The least port that is given badly, found in two steps.
use Rattle.std.proofs.Common.{◌≡◌, ◌∙◌, ℕ, List, Option, None, sym, ap}
use Rattle.wc_meaning.specs.Inputs.{least, least_after}
use Rattle.wc_meaning.proofs.Least.{least_after_append}
use Rattle.wc_value.specs.declared.value.Value.{Value}
use Rattle.wc_syntax.specs.declared.definition.Port.{Port}
use Rattle.wc_plan.specs.Given.{unread, ill_given, bad_given}

-- the ports first, and then the words
pub bad_is : (ports : List Port) (given : List (List ℕ × List ℕ)) (file : List (List ℕ × Value)) (ill bad : Option (List ℕ)) → ill ≡ least (ill_given ports given file)
    → bad ≡ least_after ill (unread ports given) → bad_given ports given file ≡ bad
bad_is ports given file ill bad first next =
    least_after_append None (ill_given ports given file) (unread ports given) ∙ ap (λ (o : Option (List ℕ)). least_after o (unread ports given)) (sym first) ∙ sym next
