-- What small runs cost, and what is left of a small world.
use Rattle.std.specs.Prelude.{◌≡◌, ℕ, true, false, List, [], ◌∷◌, Option, Some, None}
use Rattle.wc_value.specs.declared.process.JobResult.{JobResult}
use Rattle.wc_value.specs.declared.process.ProcessState.{ProcessState}
use Rattle.wc_value.specs.declared.process.Request.{Request}
use Rattle.wc_value.specs.declared.process.Tree.{Tree}
use Rattle.wc_state.specs.declared.environment.Env.{Env}
use Rattle.wc_semantics.specs.Rules.{Values}
use Rattle.wc_semantics.specs.declared.progress.Planned.{Planned}
use Rattle.wc_semantics.specs.declared.progress.Progress.{Progress}
use Rattle.wc_semantics.specs.declared.progress.Stepped.TheVariants.{Stops, Makes}
use Rattle.wc_soundness.specs.FanWorlds as fan
use Rattle.wc_cost.specs.Cost.{Costing, Tolls, cost, more, step_cost}
use Rattle.wc_cost.specs.Left.{IsLeft}

-- each call takes so many turns, and gives this tree
abbrev pub each_takes : Tree → ℕ → Tolls
each_takes t k = record { due = λ l b name inputs. Some (t, k); deep = false; takes = λ name inputs. true; kinds = λ name. None }

-- The cost of an instruction that is a step, with what stands behind it.
abbrev pub with_step : Tolls → ℕ → List Planned → Env → Values → Progress → Costing → Option ℕ
with_step g b calls env outs e next = more 1 (step_cost g (Makes calls env outs) next b [] e)

-- An end past the last instruction costs 1, and so does a step that ends its chain. A step without calls and the end cost 2. With two calls
-- of 5 each they cost 13: 1 for the step, 1 to bind both, 10 for the calls, and 1 for the end.
pub record SmallCosts (t : Tree) (p q : Planned) (e : Progress) (s : ProcessState) (env : Env) (outs : Values) : Type 0 where
  pub past_the_last : cost (each_takes t 5) 1 [] e ≡ Some 1
  pub ends : more 1 (step_cost (each_takes t 5) (Stops s env outs) (cost (each_takes t 5) 1) 1 [] e) ≡ Some 1
  pub no_calls : with_step (each_takes t 5) 1 [] env outs e (cost (each_takes t 5) 1) ≡ Some 2
  pub two_calls : with_step (each_takes t 5) 1 (p ∷ (q ∷ [])) env outs e (cost (each_takes t 5) 1) ≡ Some 13

-- The law of the costs of small runs
abbrev pub SmallRunsCost : Type 0
SmallRunsCost = (t : Tree) (p q : Planned) (e : Progress) (s : ProcessState) (env : Env) (outs : Values) → SmallCosts t p q e s env outs

-- there are results for the requests of both jobs of the work chain
pub record HasRows (results : Request → Option JobResult) : Type 0 where
  pub first : results (fan.request 50) ≡ Some (fan.result 52)
  pub second : results (fan.request 51) ≡ Some (fan.result 54)

-- The work chain that calls two jobs has 14 turns left once it is submitted: 1 for its first step, 1 to bind both jobs, 5 for each job, 1 for its
-- second step and 1 for its end.
abbrev pub FanCosts : Type 0
FanCosts = (results : Request → Option JobResult) → HasRows results → IsLeft results fan.created 14
