-- The process that a submission makes is there, as it was submitted.
use Rattle.std.proofs.Common.{◌≡◌, ℕ, suc, ◌+◌, ◌<◌, ◌≤◌, Option, Some, List, [], ◌∷◌, length, refl, sym, ap, subst, ◌∙◌, arith}
use Rattle.std.specs.Prelude.{All, option_map}
use Rattle.std.proofs.lemmas.Bool.{ne_eqb}
use Rattle.std.proofs.lemmas.List.Elements.{All-head, All-tail}
use Rattle.wc_syntax.specs.Findings.{definition_named}
use Rattle.wc_syntax.specs.declared.definition.Definition.{Definition}
use Rattle.wc_state.specs.declared.record.ProcessRecord.{ProcessRecord}
use Rattle.wc_world.specs.declared.change.Change.{Change}
use Rattle.wc_world.specs.World.{World, Known}
use Rattle.wc_world.specs.Accepted.{IsReached}
use Rattle.wc_world.specs.Applied.{applied}
use Rattle.wc_world.specs.Consistent.{IsConsistent}
use Rattle.wc_world.specs.Records.{find_record, library_at, kind_of_definition}
use Rattle.wc_world.proofs.ReachedWorlds.{reached_is_consistent}
use Rattle.wc_world.proofs.SnapshotLists.{IsFree, find_here}
use Rattle.wc_machine.specs.Calls.{caching_of, caching_in}
use Rattle.wc_machine.specs.Recorded.{recorded_inputs}
use Rattle.wc_machine.specs.Submissions.{Submits, submitted_number}
use Rattle.wc_machine.proofs.Frames.{records_below}
use Rattle.wc_machine.proofs.Submitted.{at_length, new_nodes, new_record, submitted_world, submission_gives}
use Rattle.wc_machine.proofs.SubmittedAccepted.{inputs_are}
use Rattle.wc_machine.proofs.SubmittedInputs.{inputs_gathered}
use Rattle.wc_plan.specs.declared.submission.Submission.{Submission}
use Rattle.wc_act.specs.Acknowledged.{HasProcess}
use Rattle.wc_act.specs.Events.{Changes}
use Rattle.wc_plan.specs.declared.deed.Asked.TheVariants as asked
use Rattle.wc_act.proofs.Asking.{submits_of}
use Rattle.wc_plan.specs.Submits.{IsReady}

-- no record has a number that each stands below
free_beyond : (pid n : ℕ) (rs : List ProcessRecord) → n ≤ pid → All (λ r. r.node < n) rs → IsFree pid rs
free_beyond pid n [] le h = tt
free_beyond pid n (r ∷ rs) le h =
    let lt : r.node < n = All-head (λ x. x.node < n) r rs h in
    (ne_eqb r.node pid (λ e. absurd (omega arith)), free_beyond pid n rs le (All-tail (λ x. x.node < n) r rs h))

same_definition : (o : Option Definition) (d e : Definition) → o ≡ Some d → o ≡ Some e → d ≡ e
same_definition o d e p q = cc

module _ (w : World) (h : IsConsistent w) (s : Submission) (ready : IsReady s) (d : Definition) (there : definition_named s.name s.library ≡ Some d) where
  abbrev after : World
  after = submitted_world w s.library s.caching s.name s.inputs d

  abbrev process : ProcessRecord
  process = new_record w s.library s.caching s.name s.inputs d

  found : find_record (submitted_number w s.inputs) after.records ≡ Some process
  found =
      let le : suc (length w.nodes) ≤ submitted_number w s.inputs = omega arith in
      find_here (submitted_number w s.inputs) w.records process []
      (free_beyond (submitted_number w s.inputs) (suc (length w.nodes)) w.records le (records_below w.nodes w.records h.numbered)) refl

  its_library : library_at after.libraries process.library ≡ Some s.library
  its_library = ap (λ (o : Option Known). option_map (λ k. k.0) o) (at_length w.libraries (s.library, s.caching) [])

  its_names : caching_in after.libraries process.library ≡ s.caching
  its_names = ap caching_of (at_length w.libraries (s.library, s.caching) [])

  its_inputs : recorded_inputs after (submitted_number w s.inputs) ≡ s.inputs
  its_inputs =
      inputs_gathered (kind_of_definition d) w.nodes (new_nodes w s.library s.caching s.name s.inputs d) w.links (length w.nodes + 1) (submitted_number w s.inputs) s.inputs
      (omega arith) h.links.ends (inputs_are w h s.library s.caching s.name s.inputs d there) ready.callable.ascends

  is_there : HasProcess after (submitted_number w s.inputs) s
  is_there = record {
    process = process;
    found = found;
    kind = λ e named. ap kind_of_definition (same_definition (definition_named s.name s.library) d e there named);
    first = refl;
    library = its_library;
    names = its_names;
    name = refl;
    inputs = its_inputs;
    caching = refl;
  }

pub has_process : (w : World) (s : Submission) (cs : List Change) → IsReached w → IsReady s → Changes w (asked.Submit s) cs
    → HasProcess (applied w cs) (submitted_number w s.inputs) s
has_process w s cs reached ready leads =
    let submits : Submits w s.library s.caching s.name s.inputs cs = submits_of w s cs leads in
    let d : Definition = submits.definition in
    let gives : applied w cs ≡ submitted_world w s.library s.caching s.name s.inputs d
    = ap (applied w) submits.changes ∙ submission_gives w s.library s.caching s.name s.inputs d in
    subst (λ (v : World). HasProcess v (submitted_number w s.inputs) s) (sym gives) (is_there w (reached_is_consistent w reached) s ready d submits.is_there)
