-- What is given for a calculation is what its own definition comes to, also where it took another's outcome; so it is meant.
use Rattle.std.proofs.Common.{◌≡◌, ◌≢◌, ℕ, Bool, true, false, Option, Some, List, [], ◌∷◌, refl, sym, ap, subst, ◌∙◌}
use Rattle.std.specs.Prelude.{All}
use Rattle.wc_value.specs.declared.process.JobResult.{JobResult}
use Rattle.wc_value.specs.declared.process.ProcessState.TheVariants as state
use Rattle.wc_value.specs.declared.process.Request.{Request}
use Rattle.wc_value.specs.declared.process.Tree.{roll-Tree}
use Rattle.wc_syntax.specs.declared.definition.Definition.{Definition}
use Rattle.wc_syntax.specs.declared.definition.Definition.TheVariants as definition
use Rattle.wc_syntax.specs.declared.definition.Job.{Job}
use Rattle.wc_expression.specs.declared.outcome.Outcome.{Outcome}
use Rattle.wc_expression.specs.declared.outcome.Outcome.TheVariants.{Gives}
use Rattle.wc_semantics.specs.declared.outcomes.Parsed.{Parsed}
use Rattle.wc_semantics.specs.Outcomes.{parsed}
use Rattle.wc_semantics.specs.Rules.{Values}
use Rattle.wc_semantics.specs.declared.progress.Answer.TheVariants.{Gave}
use Rattle.wc_semantics.specs.Tables.{Path, Table}
use Rattle.wc_semantics.specs.Meaning.{leaf, job as job_answer, by_result as result_answer}
use Rattle.wc_state.specs.declared.record.ProcessKind.{ProcessKind}
use Rattle.wc_state.specs.declared.record.ProcessKind.TheVariants as kind
use Rattle.wc_state.specs.declared.record.ProcessRecord.{ProcessRecord}
use Rattle.wc_world.specs.World.{World}
use Rattle.wc_world.specs.Consistent.{Stands, IsConsistent}
use Rattle.wc_world.specs.Fits.{is_of_kind}
use Rattle.wc_world.specs.Records.{find_record, has_ended, is_calculation}
use Rattle.wc_world.specs.Trees.{tree_with}
use Rattle.wc_world.proofs.FoundRecords.{found_holds}
use Rattle.wc_world.proofs.ReachedLists.{found_node}
use Rattle.wc_machine.specs.Agreement.{Agrees}
use Rattle.wc_machine.specs.Created.{GivenFor, killed, cached, function, job, no_request}
use Rattle.wc_machine.specs.Paths.{kills}
use Rattle.wc_machine.specs.Recorded.{its_definition, recorded_inputs, recorded_outputs, recorded_request, request_by, HasResult, own, cached as taken, result_with}
use Rattle.wc_machine.specs.Sound.{IsMeant}
use Rattle.wc_soundness.specs.CachingLaws.{GivenComes}
use Rattle.wc_machine.specs.Sources.{IsLowestSource, KeepsRule, KeepsCacheRule}
use Rattle.wc_machine.specs.Submissions.{IsKeptLibrary}
use Rattle.wc_soundness.specs.Courses.{ComesTo, by_rules, by_result, by_reason}
use Rattle.wc_soundness.proofs.Calculations.{calls_nothing, leaf_recorded, alive_uncut, GivesWhole, meant_whole}
use Rattle.wc_turn_laws.proofs.Keys.{equal_keys}

-- what is used of a sound world
pub record KeepsSources (w : World) : Type 0 where
  pub consistent : IsConsistent w
  pub libraries : All (λ k. IsKeptLibrary k.0) w.libraries
  pub rule : KeepsCacheRule w

pub one_found : (o : Option ProcessRecord) (r q : ProcessRecord) → o ≡ Some r → o ≡ Some q → r ≡ q
one_found o r q h k = let e : Some r ≡ Some q = sym h ∙ k in cc

-- ---- the source of a calculation

-- a source is a calculation that finished, with an equal definition and equal inputs
pub record IsAlike (w : World) (r q : ProcessRecord) : Type 0 where
  pub over : has_ended q.state ≡ true
  pub alive : q.state ≢ state.Killed
  pub runs : its_definition w r ≡ its_definition w q
  pub inputs : recorded_inputs w r.node ≡ recorded_inputs w q.node

pub source_alike : (w : World) → KeepsSources w → (batch : ℕ) (r : ProcessRecord) (source : ℕ) → IsLowestSource w batch r (Some source)
    → (q : ProcessRecord) × (find_record source w.records ≡ Some q) × IsAlike w r q
source_alike w k batch r source h = (
  h.0.0,
  h.0.1,
  record {
    over = ap has_ended h.0.2.0.finished;
    alive = λ dead. let e : state.Finished h.0.2.0.status ≡ state.Killed = sym h.0.2.0.finished ∙ dead in cc e;
    runs = equal_keys w r h.0.0 k.libraries h.0.2.1;
    inputs = h.0.2.1.inputs;
  },
)

-- whoever has a source took it by the rule
pub takes_by_rule : (w : World) (r : ProcessRecord) (source : ℕ) → KeepsRule w r → r.cached_from ≡ Some source → IsLowestSource w r.started r (Some source)
takes_by_rule w r source rule from =
    by_cases (is_calculation r.kind) refl r.caching refl
  where
    by_cases : (a : Bool) → is_calculation r.kind ≡ a → (b : Bool) → r.caching ≡ b → IsLowestSource w r.started r (Some source)
    by_cases true calculates true caching =
        subst (IsLowestSource w r.started r) from (rule.0 calculates caching (λ never. let none = rule.2 never in cc (none, from)))
    by_cases a p false caching = absurd (let none = rule.1 caching in cc (none, from))
    by_cases false other true caching = absurd (let none = rule.3 other in cc (none, from))

-- ---- what it comes to

pub job_kind : (k : ProcessKind) (o : Option Definition) (j : Job) → o ≡ Some (definition.Job j) → is_of_kind k o ≡ true → k ≡ kind.Job
job_kind kind.Function o j is h = absurd (let e : is_of_kind kind.Function (Some (definition.Job j)) ≡ true = ap (is_of_kind kind.Function) (sym is) ∙ h in cc e)
job_kind kind.Job o j is h = refl
job_kind kind.Chain o j is h = absurd (let e : is_of_kind kind.Chain (Some (definition.Job j)) ≡ true = ap (is_of_kind kind.Chain) (sym is) ∙ h in cc e)

-- who takes an outcome comes to the same, with the result of its source as its own
taken_comes : (w : World) (pid source : ℕ) (inputs : Values) (d : Definition) (p : Parsed)
    → ((j : Job) → d ≡ definition.Job j → (x : JobResult) → HasResult w source x → HasResult w pid x) → ComesTo w source inputs d p → ComesTo w pid inputs d p
taken_comes w pid source inputs d p has (by_rules f) = by_rules f
taken_comes w pid source inputs d p has (by_result j q result asked x) = by_result j q result asked (has j refl result x)
taken_comes w pid source inputs d p has (by_reason j reason asked) = by_reason j reason asked

module _ (w : World) (k : KeepsSources w) where
  pub given_comes : (pid : ℕ) (p : Parsed) → GivenFor w pid p → (r : ProcessRecord) (d : Definition) → find_record pid w.records ≡ Some r → r.state ≢ state.Killed
      → its_definition w r ≡ Some d → ComesTo w pid (recorded_inputs w pid) d p
  given_comes pid p (killed x there dead bare) r d found alive is =
      absurd (alive (ap (λ (y : ProcessRecord). y.state) (sym (one_found (find_record x.node w.records) x r there found)) ∙ dead))
  given_comes pid p (cached x source y there lives bare from g) r d found alive is =
      let runs : its_definition w x ≡ Some d = ap (its_definition w) (one_found (find_record x.node w.records) x r there found) ∙ is in
      let lowest = takes_by_rule w x source (found_holds (KeepsRule w) x.node w.records x k.rule there) from in
      let s = source_alike w k x.started x source lowest in
      let number : s.0.node ≡ source = found_node source w.records s.0 s.1 in
      let inputs : recorded_inputs w source ≡ recorded_inputs w x.node = sym (s.2.inputs ∙ ap (recorded_inputs w) number) in
      let comes : ComesTo w source (recorded_inputs w source) d y = given_comes source y g s.0 d s.1 s.2.alive (sym s.2.runs ∙ runs) in
      subst (λ (i : Values). ComesTo w x.node i d y) inputs
      (taken_comes w x.node source (recorded_inputs w source) d y
      (λ j e result has.
      let defined = (found_holds (Stands w) x.node w.records x k.consistent.records there).defined in
      taken x source result there (job_kind x.kind (its_definition w x) j (runs ∙ ap (λ (z : Definition). Some z) e) defined) lives from has)
      comes)
  given_comes pid p (function x f there lives from defined) r d found alive is =
      let same : Some (definition.Function f) ≡ Some d = sym defined ∙ ap (its_definition w) (one_found (find_record x.node w.records) x r there found) ∙ is in
      let e : definition.Function f ≡ d = cc in
      subst (λ (z : Definition). ComesTo w x.node (recorded_inputs w x.node) z p) e (by_rules f)
  given_comes pid p (job x j q code files there lives from defined exit folder asked) r d found alive is =
      let same : Some (definition.Job j) ≡ Some d = sym defined ∙ ap (its_definition w) (one_found (find_record x.node w.records) x r there found) ∙ is in
      let e : definition.Job j ≡ d = cc in
      let is_job = job_kind x.kind (its_definition w x) j defined (found_holds (Stands w) x.node w.records x k.consistent.records there).defined in
      subst (λ (z : Definition). ComesTo w x.node (recorded_inputs w x.node) z p) e
      (by_result j q (result_with code files) asked (own x code files there is_job exit folder))
  given_comes pid p (no_request x j reason there lives from defined bare asked) r d found alive is =
      let same : Some (definition.Job j) ≡ Some d = sym defined ∙ ap (its_definition w) (one_found (find_record x.node w.records) x r there found) ∙ is in
      let e : definition.Job j ≡ d = cc in
      subst (λ (z : Definition). ComesTo w x.node (recorded_inputs w x.node) z p) e (by_reason j reason asked)

-- ---- what it means

-- a definition with these inputs gives this outcome under a table, with any fuel, whatever surrounds it
abbrev GivesLeaf : Definition → Table → List ℕ → Values → Parsed → Type 0
GivesLeaf d table name inputs p = (asked : List (Path × Request)) × ((n : ℕ) → GivesWhole d table n name inputs (Gave (leaf name p asked) n))

comes_gives : (w : World) (r : ProcessRecord) (d : Definition) (p : Parsed) (table : Table) → find_record r.node w.records ≡ Some r → its_definition w r ≡ Some d
    → Agrees table w r.node → ComesTo w r.node (recorded_inputs w r.node) d p → GivesLeaf d table r.definition (recorded_inputs w r.node) p
comes_gives w r d p table found is agrees (by_rules f) = ([], λ n a. refl)
comes_gives w r d p table found is agrees (by_result j q result asked has) =
    let inputs = recorded_inputs w r.node in
    let request_is : recorded_request w r ≡ Some (Gives q) = ap (λ (o : Option Definition). request_by o inputs) is ∙ ap (λ (o : Outcome Request). Some o) asked in
    let row : table [] q ≡ Some result = agrees [] r q result refl found request_is has in (
      ([], q) ∷ [],
      λ n a. ap (λ (o : Outcome Request). job_answer r.definition o (parsed j inputs) (table []) n) asked
          ∙ ap (λ (o : Option JobResult). result_answer r.definition (parsed j inputs) q o n) row,
    )
comes_gives w r d p table found is agrees (by_reason j reason asked) = (
  [],
  λ n a. ap (λ (o : Outcome Request). job_answer r.definition o (parsed j (recorded_inputs w r.node)) (table []) n) asked,
)

-- The recorded tree of a calculation that ended, but wasn't killed, is what it means.
pub given_is_meant : (w : World) → KeepsSources w → (r : ProcessRecord) (p : Parsed) (d : Definition) → find_record r.node w.records ≡ Some r → is_calculation r.kind ≡ true
    → r.state ≢ state.Killed → its_definition w r ≡ Some d → GivenFor w r.node p → r.state ≡ p.state → recorded_outputs w r.node ≡ p.outputs → IsMeant w r
given_is_meant w k r p d found calculates alive is given state_is outputs_are table agrees =
    let comes = given_comes w k r.node p given r d found alive is in
    let gives = comes_gives w r d p table found is agrees comes in (
      tree_with r (recorded_outputs w r.node) [],
      leaf_recorded w r found (calls_nothing w k.consistent r found calculates),
      (
        leaf r.definition p gives.0,
        r.fuel,
        meant_whole w r d table (kills w r.node) r.fuel (Gave (leaf r.definition p gives.0) r.fuel) is (alive_uncut w r found alive) (gives.1 r.fuel),
        (let s = sym state_is in let o = sym outputs_are in λ i. roll-Tree (record { definition = r.definition; state = s i; outputs = o i; calls = [] })),
      ),
    )

pub outcomes_are_own : GivenComes
outcomes_are_own w r p d s found alive is given =
    given_comes w (record { consistent = s.consistent; libraries = s.libraries; rule = s.sources }) r.node p given r d found alive is
