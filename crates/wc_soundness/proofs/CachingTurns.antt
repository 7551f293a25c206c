-- The turns of created calculations: one that takes an outcome, and those that find no source.
use Rattle.std.proofs.Common.{◌≡◌, ◌≢◌, ℕ, zero, suc, ◌+◌, Bool, true, false, Some, None, List, [], ◌∷◌, refl, sym, ap, subst, ◌∙◌}
use Rattle.std.specs.Prelude.{◌==◌, ◌&&◌, ◌||◌, nat_lt, if◌then◌else◌}
use Rattle.std.proofs.lemmas.Bool.{cond-false, ne_eqb, lt-ltb}
use Rattle.wc_value.specs.declared.process.ProcessState.{ProcessState}
use Rattle.wc_value.specs.declared.process.ProcessState.TheVariants as state
use Rattle.wc_value.specs.declared.process.Reason.{Reason}
use Rattle.wc_syntax.specs.declared.definition.Definition.TheVariants as definition
use Rattle.wc_syntax.specs.declared.definition.Job.{Job}
use Rattle.wc_expression.specs.declared.outcome.Outcome.TheVariants.{Faults}
use Rattle.wc_graph.specs.Rules.{node_of}
use Rattle.wc_graph.specs.declared.node.NodeKind.{NodeKind}
use Rattle.wc_semantics.specs.declared.outcomes.Parsed.{Parsed}
use Rattle.wc_semantics.specs.Outcomes.{excepted, calculated}
use Rattle.wc_semantics.specs.Requests.{request}
use Rattle.wc_semantics.specs.Rules.{Values}
use Rattle.wc_state.specs.declared.record.ProcessRecord.{ProcessRecord}
use Rattle.wc_world.specs.World.{World}
use Rattle.wc_world.specs.Accepted.{IsAccepted, Setting, setting, is_snapshot, is_source, kepts, kept_of, kept_started, kept_ended}
use Rattle.wc_world.specs.Applied.{applied, is_created, started_in}
use Rattle.wc_world.specs.Consistent.{IsConsistent}
use Rattle.wc_world.specs.Fits.{is_nil}
use Rattle.wc_world.specs.Records.{find_record, has_ended, is_calculation, process_node}
use Rattle.wc_world.specs.declared.change.Change.{Change}
use Rattle.wc_world.proofs.FoundRecords.{found_holds}
use Rattle.wc_world.proofs.ReachedWorlds.{accepted_is_consistent}
use Rattle.wc_machine.specs.Continues.{Continues}
use Rattle.wc_machine.specs.Created.{GivenFor, cached, function, no_request, IsGiven}
use Rattle.wc_machine.specs.Ends.{ends, come_to, TakesSource}
use Rattle.wc_machine.specs.Laws.{calculated_for}
use Rattle.wc_machine.specs.Recorded.{its_definition, recorded_inputs}
use Rattle.wc_machine.specs.Sound.{IsSound}
use Rattle.wc_machine.specs.Sources.{IsLowestSource, IsSourceFor}
use Rattle.wc_machine.specs.Submissions.{AreInputs}
use Rattle.wc_machine.proofs.AcceptedEnds.{process_is_node, ends_accepted}
use Rattle.wc_machine.proofs.CalculatedOutputs.{calculated_set}
use Rattle.wc_machine.proofs.EndedWorlds.{inputs_kept}
use Rattle.wc_machine.proofs.Endings.{end_set, ended_world, applied_ends}
use Rattle.wc_machine.proofs.FunctionEnds.{calculated_ends, calculated_alive}
use Rattle.wc_turn_laws.specs.CalculationLaws.{MayStart}
use Rattle.wc_soundness.specs.CachingLaws.{TakesOutcome, clones, ClonesAreAccepted, ClonesContinue, ClonesKeepSound, CreatedFunctionsKeepSound}
use Rattle.wc_soundness.proofs.Ended.{MayEnd, own, goes_on, stay, found_own, ended_sound}
use Rattle.wc_soundness.proofs.Given.{KeepsSources, one_found}
use Rattle.wc_soundness.proofs.Outputs.{nothing_good, outputs_are_inputs}
use Rattle.wc_soundness.proofs.Stays.{given_stays}

-- ---- the source

-- a calculation that takes a source takes the lowest one
taken_lowest : (w : World) (r : ProcessRecord) (source : ℕ) → TakesSource w r (Some source) → IsLowestSource w (w.batches + 1) r (Some source)
taken_lowest w r source t = by (r.caching) refl
  where
    by : (b : Bool) → r.caching ≡ b → IsLowestSource w (w.batches + 1) r (Some source)
    by true is = t.on is
    by false is = absurd (let none = t.off is in cc none)

taken_source : (w : World) (r q : ProcessRecord) → TakesOutcome w r q → IsSourceFor w (w.batches + 1) r q
taken_source w r q t =
    let l = taken_lowest w r q.node t.source in
    subst (IsSourceFor w (w.batches + 1) r) (one_found (find_record q.node w.records) l.0.0 q l.0.1 t.there) l.0.2

-- ---- numbers

number_above : (w : World) (q : ProcessRecord) → IsConsistent w → find_record q.node w.records ≡ Some q → q.node ≢ 0
number_above w q c there e =
    let none : None ≡ Some (process_node q.kind) = ap (node_of w.nodes) (sym e) ∙ process_is_node w c q there in
    cc none

no_nodes : (nodes : List NodeKind) (id : ℕ) (k : NodeKind) → node_of nodes id ≡ Some k → is_nil nodes ≡ false
no_nodes [] zero k h = absurd (cc)
no_nodes [] (suc place) k h = absurd (cc)
no_nodes (n ∷ ns) id k h = refl

-- a world with a process takes no snapshot
no_snapshot : (w : World) (r : ProcessRecord) (cs : List Change) → IsConsistent w → find_record r.node w.records ≡ Some r → is_snapshot w cs ≡ false
no_snapshot w r cs c there =
    let some : is_nil w.nodes ≡ false = no_nodes w.nodes r.node (process_node r.kind) (process_is_node w c r there) in
    first_false (is_nil w.nodes) _ _ some
  where
    first_false : (a b c : Bool) → a ≡ false → ((a && b) && c) ≡ false
    first_false true b c h = absurd (cc)
    first_false false b c h = refl

-- ---- clones

come_ends : (w : World) (r q : ProcessRecord) → TakesOutcome w r q → MayEnd w r (come_to w q) (Some q.node)
come_ends w r q t =
    let is = taken_source w r q t in
    record {
      sound = t.sound;
      found = t.starts.found;
      created = t.starts.created;
      calculates = t.starts.calculates;
      over = ap has_ended is.0.finished;
      alive = λ dead. let e : state.Finished is.0.status ≡ state.Killed = sym is.0.finished ∙ dead in cc e;
      takes = t.source;
      numbered = cond-false (q.node == 0) None (Some q.node) (ne_eqb q.node 0 (number_above w q t.sound.consistent t.there));
      good = outputs_are_inputs w q.node t.sound.consistent;
    }

-- the source of the clones fits
source_is : (s : Setting) (w : World) (r q : ProcessRecord) (p : Parsed) → s.snapshot ≡ false → s.batch ≡ w.batches + 1 → r.state ≡ state.Created → find_record q.node w.records ≡ Some q
    → p.state ≡ q.state → IsSourceFor w (w.batches + 1) r q → is_source s (end_set r p (Some q.node) None) r (find_record q.node w.records) ≡ true
source_is s w r q p plain batch created there same is =
    let started : started_in s.batch r p.state ≡ w.batches + 1
    = (λ i. started_in (batch i) r (same i))
    ∙ (λ i. started_in (w.batches + 1) r (is.0.finished i))
    ∙ ap (λ (x : ProcessState). if is_created x && true then w.batches + 1 else r.started) created in
    let one : nat_lt 0 q.ended ≡ true = lt-ltb 0 q.ended is.0.ended in
    let two : nat_lt q.ended (w.batches + 1) ≡ true = lt-ltb q.ended (w.batches + 1) is.0.earlier in
    ap (is_source s (end_set r p (Some q.node) None) r) there
    ∙ (λ i. is_calculation q.kind && (nat_lt 0 (if plain i then kept_ended (kept_of q.node (kepts s.all)) else q.ended)
    && nat_lt (if plain i then kept_ended (kept_of q.node (kepts s.all)) else q.ended) (if plain i then kept_started (kept_of r.node (kepts s.all)) else started_in s.batch r p.state)))
    ∙ (λ i. is.0.calculates i && (one i && nat_lt q.ended (started i)))
    ∙ two

or_last : (a b : Bool) → b ≡ true → a || b ≡ true
or_last true b h = refl
or_last false b h = h

pub clones_accepted : ClonesAreAccepted
clones_accepted w r q t places =
    let p = come_to w q in
    let c = t.sound.consistent in
    let m = come_ends w r q t in
    let cs = clones w r q in
    ends_accepted w r p (Some q.node) None c t.starts.found t.starts.calculates t.starts.created m.over m.good places
    (or_last (q.node == 0) (is_source (setting w cs) (end_set r p (Some q.node) None) r (find_record q.node w.records))
    (source_is (setting w cs) w r q p (no_snapshot w r cs c t.starts.found) refl t.starts.created t.there refl (taken_source w r q t)))

pub clones_continue : ClonesContinue
clones_continue w r q t = subst (Continues w) (sym (applied_ends w r (come_to w q) (Some q.node) None)) (goes_on w r (come_to w q) (Some q.node) None (come_ends w r q t))

same_outcome : (p o : Parsed) → p.state ≡ o.state → p.outputs ≡ o.outputs → p ≡ o
same_outcome p o s t = λ i. record { state = s i; outputs = t i }

clones_given : (w : World) (r q : ProcessRecord) → TakesOutcome w r q → GivenFor (ended_world w r (come_to w q) (Some q.node) None) r.node (come_to w q)
clones_given w r q t =
    let p = come_to w q in
    let m = come_ends w r q t in
    let v = ended_world w r p (Some q.node) None in
    let s = t.sound in
    let g = found_holds (λ x. is_calculation x.kind ≡ true → has_ended x.state ≡ true → IsGiven w x) q.node w.records q s.created.ended t.there (taken_source w r q t).0.calculates m.over in
    let keeps : KeepsSources w = record { consistent = s.consistent; libraries = s.libraries; rule = s.sources } in
    let before : GivenFor w q.node p = subst (GivenFor w q.node) (sym (same_outcome p g.0 g.2 g.3)) g.1 in
    let there : GivenFor v q.node p = given_stays w v keeps (goes_on w r p (Some q.node) None m) (stay w r p (Some q.node) None m) q.node p before q t.there m.over in
    cached (own w r p (Some q.node) None m) q.node p (found_own w r p (Some q.node) None m) m.alive (λ is_job. refl) m.numbered there

-- ---- a world after an end

sound_by : (w : World) (cs : List Change) (v : World) → applied w cs ≡ v → IsSound w → IsAccepted w cs → (IsConsistent v → IsSound v) → IsSound (applied w cs)
sound_by w cs v same s a by = subst IsSound (sym same) (by (subst IsConsistent same (accepted_is_consistent w cs s.consistent a)))

pub clones_keep_sound : ClonesKeepSound
clones_keep_sound w r q t a =
    let p = come_to w q in
    let same = applied_ends w r p (Some q.node) None in
    sound_by w (clones w r q) (ended_world w r p (Some q.node) None) same t.sound a
    (λ cv. ended_sound w r p (Some q.node) None (come_ends w r q t) cv (clones_given w r q t))

-- ---- no source

pub function_ends : (w : World) (r : ProcessRecord) (p : Parsed) → MayStart w r → IsSound w → TakesSource w r None → has_ended p.state ≡ true → p.state ≢ state.Killed
    → AreInputs p.outputs → MayEnd w r p None
function_ends w r p h s takes over alive good = record {
  sound = s;
  found = h.found;
  created = h.created;
  calculates = h.calculates;
  over = over;
  alive = alive;
  takes = takes;
  numbered = refl;
  good = good;
}

pub functions_keep_sound : CreatedFunctionsKeepSound
functions_keep_sound w r f h s takes d a =
    let inputs = recorded_inputs w r.node in
    let p = calculated_for w r f in
    let v = ended_world w r p None None in
    let same = applied_ends w r p None None in
    let m = function_ends w r p h s takes (calculated_ends f inputs) (calculated_alive f inputs) (calculated_set f inputs) in
    let given : GivenFor v r.node p
    = subst (λ (i : Values). GivenFor v r.node (calculated f i)) (inputs_kept w r p None None s.consistent r.node)
    (function (own w r p None None m) f (found_own w r p None None m) (calculated_alive f inputs) refl d) in
    sound_by w (ends w r p None None) v same s a (λ cv. ended_sound w r p None None m cv given)

-- a job whose request is a reason ends with it
pub faulting_jobs_keep_sound : (w : World) (r : ProcessRecord) (j : Job) (reason : Reason) → MayStart w r → IsSound w → TakesSource w r None
    → its_definition w r ≡ Some (definition.Job j) → request j (recorded_inputs w r.node) ≡ Faults reason → IsAccepted w (ends w r (excepted reason []) None None)
    → IsSound (applied w (ends w r (excepted reason []) None None))
faulting_jobs_keep_sound w r j reason h s takes d asked a =
    let p = excepted reason [] in
    let v = ended_world w r p None None in
    let same = applied_ends w r p None None in
    let m = function_ends w r p h s takes refl (λ dead. cc dead) nothing_good in
    let given : GivenFor v r.node p
    = no_request (own w r p None None m) j reason (found_own w r p None None m) (λ dead. cc dead) refl d refl
    (ap (request j) (inputs_kept w r p None None s.consistent r.node) ∙ asked) in
    sound_by w (ends w r p None None) v same s a (λ cv. ended_sound w r p None None m cv given)
