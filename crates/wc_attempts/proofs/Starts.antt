-- The chain from its beginning to its tree, around the loop.
use Rattle.std.proofs.Common.{◌≡◌, ◌∙◌, ap, refl, ℕ, true, false, List, ◌∷◌, map, None, arith}
use Rattle.std.specs.Prelude.{codes}
use Rattle.wc_value.specs.Ascending.{lookup}
use Rattle.wc_value.specs.declared.process.ProcessState.{ProcessState}
use Rattle.wc_value.specs.declared.process.ProcessState.TheVariants.{Finished}
use Rattle.wc_value.specs.declared.process.Tree.{out-Tree, out-roll-Tree}
use Rattle.wc_handlers.specs.declared.spec.Spec.{Spec}
use Rattle.wc_syntax.specs.declared.definition.Definition.{Definition}
use Rattle.wc_syntax.specs.declared.definition.Port.{Port}
use Rattle.wc_state.specs.declared.environment.Env.{Env}
use Rattle.wc_semantics.specs.declared.outcomes.Parsed.{Parsed}
use Rattle.wc_semantics.specs.declared.progress.Flow.{Flow}
use Rattle.wc_semantics.specs.declared.progress.Flow.TheVariants.{Goes, Ends, NoFuel, Lacks, Off}
use Rattle.wc_semantics.specs.declared.progress.Progress.{Progress}
use Rattle.wc_semantics.specs.Meaning.{chain_tree, ended, first, its_tree, judged, kept}
use Rattle.wc_semantics.specs.Rules.{Values}
use Rattle.wc_semantics.specs.Run.{Around, ◌>->◌, run}
use Rattle.wc_attempts.specs.Attempts.{Attempted, ends, wants, Attempts}
use Rattle.wc_restart.specs.Chains.{setup}
use Rattle.wc_attempts.specs.Laws.{Meets}
use Rattle.wc_restart.specs.Statements.{setting}
use Rattle.wc_attempts.proofs.Arguments.{HasAll}
use Rattle.wc_attempts.proofs.Runs.{step_runs}
use Rattle.wc_attempts.proofs.Steps.{flagged, numbered, setting_step, within}
use Rattle.wc_attempts.proofs.Turns.{Comes, IsAt, asked, loop_and_end}

-- ---- the end

tree_is : (name : List ℕ) (st : ProcessState) (e : Progress) (p : Parsed) → st ≡ p.state → kept st e.outputs ≡ p.outputs
    → ((out-Tree (chain_tree name st e).tree).state ≡ p.state) × ((out-Tree (chain_tree name st e).tree).outputs ≡ p.outputs)
tree_is name st e p h k =
    let opens = out-roll-Tree (record { definition = name; state = st; outputs = kept st e.outputs; calls = map its_tree e.calls }) in
    (ap (λ t. t.state) opens ∙ h, ap (λ t. t.outputs) opens ∙ k)

-- a run that comes to what attempts do has a tree that meets them
pub comes_meets : (name : List ℕ) (ports : List Port) (o : Attempted) (f : Flow) → Comes ports o f → Meets o (ended None name ports f)
comes_meets name ports (ends p) (Goes n e) h = tree_is name (judged ports (Finished 0) e.outputs) e p h.0 h.1
comes_meets name ports (ends p) (Ends s n e) h = tree_is name (judged ports s e.outputs) e p h.0 h.1
comes_meets name ports (ends p) NoFuel h = h
comes_meets name ports (ends p) (Lacks q) h = h
comes_meets name ports (ends p) Off h = h
comes_meets name ports (wants q) (Goes n e) h = absurd h
comes_meets name ports (wants q) (Ends s n e) h = absurd h
comes_meets name ports (wants q) NoFuel h = h
comes_meets name ports (wants q) (Lacks r) h = h
comes_meets name ports (wants q) Off h = h

-- ---- the beginning

module _ (v : Values) where
  abbrev set_env : Env
  set_env = flagged (codes "done") false (flagged (codes "fresh") true (flagged (codes "bad") false (numbered (codes "n") 0 (first v).env)))

  abbrev pub begun : Progress
  begun = within (first v) set_env

  -- for values by name that are the inputs
  pub begun_at : (s : Spec) (x : Attempts) (w : Values) → ((name : List ℕ) → lookup name v ≡ lookup name w) → HasAll w (asked x) → IsAt s x s.most w false begun
  begun_at s x w same all = record {
    count = 0;
    counted = refl;
    all = omega arith;
    undone = refl;
    marked = refl;
    none_out = refl;
    fresh = true;
    says = refl;
    stands = record { inputs = v; held = refl; same = same; all = all };
  }

  pub begins : (library : List Definition) (s : Spec) (x : Attempts) (a : Around) (n : ℕ) → run (setup ∷ loop_and_end library s x) a n (first v) ≡ run (loop_and_end library s x) a n begun
  begins library s x a n =
      step_runs (codes "setup") setting (loop_and_end library s x) a n (first v) ∙ ap (λ f. f >-> run (loop_and_end library s x) a) (setting_step a n (first v))
