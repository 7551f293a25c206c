-- What is given for an ended calculation stays given, with all the sources that it rests on.
use Rattle.std.proofs.Common.{◌≡◌, ℕ, true, Option, Some, ap, subst, ◌∙◌}
use Rattle.std.specs.Prelude.{codes, option_and_then}
use Rattle.wc_value.specs.Ascending.{lookup}
use Rattle.wc_semantics.specs.declared.outcomes.Parsed.{Parsed}
use Rattle.wc_semantics.specs.Outcomes.{calculated, parsed}
use Rattle.wc_semantics.specs.Requests.{request}
use Rattle.wc_semantics.specs.Rules.{Values}
use Rattle.wc_state.specs.declared.record.ProcessRecord.{ProcessRecord}
use Rattle.wc_world.specs.World.{World}
use Rattle.wc_world.specs.Records.{find_record, has_ended}
use Rattle.wc_world.proofs.FoundRecords.{found_holds}
use Rattle.wc_machine.specs.Continues.{Continues}
use Rattle.wc_machine.specs.Created.{GivenFor, killed, cached, function, job, no_request, IsGiven}
use Rattle.wc_machine.specs.Recorded.{its_definition, folder_of, result_with}
use Rattle.wc_machine.specs.Sources.{KeepsRule}
use Rattle.wc_soundness.specs.Touches.{StaysEnded}
use Rattle.wc_soundness.proofs.Touched.{ended_stay, touching_continues}
use Rattle.wc_soundness.specs.CachingLaws.{GivenStays}
use Rattle.wc_soundness.proofs.Given.{KeepsSources, one_found, source_alike, takes_by_rule}
use Rattle.wc_soundness.proofs.Rule.{runs_same, carries_itself}

-- what has ended stays so
abbrev pub AllStay : World → World → Type 0
AllStay v w = (r : ProcessRecord) → find_record r.node v.records ≡ Some r → has_ended r.state ≡ true → StaysEnded v w r

module _ (v w : World) (k : KeepsSources v) (on : Continues v w) (stay : AllStay v w) where
  runs_as_before : (x : ProcessRecord) → find_record x.node v.records ≡ Some x → has_ended x.state ≡ true → its_definition w x ≡ its_definition v x
  runs_as_before x there over = runs_same v w k.consistent on x x there (carries_itself v w k.consistent on x there over)

  over_too : (o : Option ProcessRecord) (x r : ProcessRecord) → o ≡ Some x → o ≡ Some r → has_ended r.state ≡ true → has_ended x.state ≡ true
  over_too o x r h found over = ap (λ (y : ProcessRecord). has_ended y.state) (one_found o x r h found) ∙ over

  pub given_stays : (pid : ℕ) (p : Parsed) → GivenFor v pid p → (r : ProcessRecord) → find_record pid v.records ≡ Some r → has_ended r.state ≡ true → GivenFor w pid p
  given_stays pid p (killed x there dead bare) r found over =
      killed x (stay x there (over_too (find_record x.node v.records) x r there found over)).found dead bare
  given_stays pid p (cached x source y there alive bare from g) r found over =
      let lowest = takes_by_rule v x source (found_holds (KeepsRule v) x.node v.records x k.rule there) from in
      let s = source_alike v k x.started x source lowest in
      cached x source y (stay x there (over_too (find_record x.node v.records) x r there found over)).found alive bare from (given_stays source y g s.0 s.1 s.2.over)
  given_stays pid p (function x f there alive none defined) r found over =
      let x_over = over_too (find_record x.node v.records) x r there found over in
      let here = stay x there x_over in
      subst (λ (i : Values). GivenFor w x.node (calculated f i)) here.inputs (function x f here.found alive none (runs_as_before x there x_over ∙ defined))
  given_stays pid p (job x j q code files there alive none defined exit folder asked) r found over =
      let x_over = over_too (find_record x.node v.records) x r there found over in
      let here = stay x there x_over in
      subst (λ (i : Values). GivenFor w x.node (parsed j i (result_with code files))) here.inputs
      (job x j q code files here.found alive none (runs_as_before x there x_over ∙ defined) exit
      (ap (λ (os : Values). option_and_then folder_of (lookup (codes "retrieved") os)) here.outputs ∙ folder)
      (ap (request j) here.inputs ∙ asked))
  given_stays pid p (no_request x j reason there alive none defined bare asked) r found over =
      let x_over = over_too (find_record x.node v.records) x r there found over in
      let here = stay x there x_over in
      no_request x j reason here.found alive none (runs_as_before x there x_over ∙ defined) bare (ap (request j) here.inputs ∙ asked)

  pub is_given_stays : (r : ProcessRecord) → find_record r.node v.records ≡ Some r → has_ended r.state ≡ true → IsGiven v r → IsGiven w r
  is_given_stays r found over g = (g.0, given_stays r.node g.0 g.1 r found over, g.2, (stay r found over).outputs ∙ g.3)

pub stays_given : GivenStays
stays_given v w pid s t may r found over g =
    is_given_stays v w (record { consistent = s.consistent; libraries = s.libraries; rule = s.sources }) (touching_continues v w pid s t may) (ended_stay v w pid s t may) r found over g
