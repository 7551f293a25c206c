-- The end of a created function: a world accepts it, and the world after it continues the one before.
use Rattle.std.proofs.Common.{◌≡◌, ◌≢◌, true, None, List, [], refl, sym, ap, subst}
use Rattle.wc_value.specs.declared.process.ProcessState.TheVariants as state
use Rattle.wc_syntax.specs.declared.definition.Function.{Function}
use Rattle.wc_syntax.specs.declared.definition.Port.{Port}
use Rattle.wc_expression.specs.declared.outcome.Outcome.{Outcome}
use Rattle.wc_expression.specs.declared.outcome.Outcome.TheVariants.{Gives, Faults}
use Rattle.wc_semantics.specs.Rules.{Values, End, env_of, run_rules}
use Rattle.wc_semantics.specs.Outcomes.{concluded, calculated}
use Rattle.wc_world.specs.Records.{has_ended}
use Rattle.wc_world.proofs.ReachedWorlds.{reached_is_consistent}
use Rattle.wc_machine.specs.Continues.{Continues}
use Rattle.wc_machine.specs.Laws.{calculated_for, FunctionsAreAccepted, FunctionsContinue}
use Rattle.wc_machine.proofs.AcceptedEnds.{ends_accepted}
use Rattle.wc_machine.proofs.CalculatedOutputs.{calculated_set}
use Rattle.wc_machine.proofs.EndedContinues.{ended_continues}
use Rattle.wc_machine.proofs.Endings.{applied_ends}

pub concluded_ends : (ports : List Port) (kept : Values) (o : Outcome End) → has_ended (concluded ports kept o).state ≡ true
concluded_ends ports kept (Gives end) = refl
concluded_ends ports kept (Faults r) = refl

-- what a function means is an end
pub calculated_ends : (f : Function) (inputs : Values) → has_ended (calculated f inputs).state ≡ true
calculated_ends f inputs = concluded_ends f.head.outputs [] (run_rules f.head.outputs f.rules (env_of inputs) [])

pub concluded_alive : (ports : List Port) (kept : Values) (o : Outcome End) → (concluded ports kept o).state ≢ state.Killed
concluded_alive ports kept (Gives end) e = cc e
concluded_alive ports kept (Faults r) e = cc e

-- and it isn't killed
pub calculated_alive : (f : Function) (inputs : Values) → (calculated f inputs).state ≢ state.Killed
calculated_alive f inputs = concluded_alive f.head.outputs [] (run_rules f.head.outputs f.rules (env_of inputs) [])

pub functions_accepted : FunctionsAreAccepted
functions_accepted w r f h d places =
    ends_accepted w r (calculated_for w r f) None None (reached_is_consistent w h.reached) h.found h.calculates h.created (calculated_ends f _) (calculated_set f _)
    places refl

pub functions_continue : FunctionsContinue
functions_continue w r f h calls unstarted d =
    let p = calculated_for w r f in
    subst (Continues w) (sym (applied_ends w r p None None))
    (ended_continues w r p None None (reached_is_consistent w h.reached) calls h.found (ap has_ended h.created) unstarted)
