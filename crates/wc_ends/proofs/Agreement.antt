-- A table that agrees with a world agrees with it after turns that bring its results.
use Rattle.std.proofs.Common.{◌≡◌, ◌⊎◌, ⊎_elim, ℕ, ℤ, Bool, true, false, List, [], Option, Some, None, refl, sym, ap, ◌∙◌}
use Rattle.std.specs.Prelude.{codes, option_and_then}
use Rattle.wc_value.specs.Ascending.{lookup}
use Rattle.wc_value.specs.declared.process.JobResult.{JobResult}
use Rattle.wc_value.specs.declared.process.Request.{Request}
use Rattle.wc_expression.specs.declared.outcome.Outcome.TheVariants.{Gives}
use Rattle.wc_semantics.specs.Rules.{Values}
use Rattle.wc_semantics.specs.Tables.{plain, row_of}
use Rattle.wc_state.specs.declared.record.ProcessKind.TheVariants as kind
use Rattle.wc_state.specs.declared.record.ProcessRecord.{ProcessRecord}
use Rattle.wc_world.specs.Records.{find_record, has_ended}
use Rattle.wc_world.specs.World.{World}
use Rattle.wc_world.proofs.FoundRecords.{found_holds}
use Rattle.wc_world.proofs.ReachedLists.{found_node}
use Rattle.wc_machine.specs.Agreement.{AgreesWithWorld}
use Rattle.wc_machine.specs.Continues.{Continues}
use Rattle.wc_machine.specs.Recorded.{Contents, HasResult, cached, folder_of, own, recorded_request, request_by, result_with, retrieved_folder}
use Rattle.wc_machine.specs.Sound.{IsFitting, IsSound}
use Rattle.wc_machine.specs.Sources.{KeepsRule}
use Rattle.wc_soundness.proofs.FoundResults.{one_result}
use Rattle.wc_soundness.proofs.Given.{source_alike, takes_by_rule}
use Rattle.wc_soundness.proofs.LaterTables.{outputs_kept, record_kept}
use Rattle.wc_runner.specs.Codes.{AreBrought, IsBrought, code_of}
use Rattle.wc_runner.specs.Outside.{Outside}
use Rattle.wc_ends.proofs.Requests.{request_same}

module _ (o : Outside) (rows : List (Request × JobResult)) (told : (q : Request) (x : JobResult) → o.brings q x → row_of q rows ≡ Some x)
    (v w : World) (s : IsSound v) (c : Continues v w) (later : IsSound w) (agrees : AgreesWithWorld (plain rows) v) (brought : AreBrought o v w) where
  -- what has an exit code has ended
  code_ends : (r : ProcessRecord) → find_record r.node v.records ≡ Some r → (code : ℤ) → r.code ≡ Some code → has_ended r.state ≡ true
  code_ends r found code is = by (has_ended r.state) refl
    where
      by : (b : Bool) → has_ended r.state ≡ b → has_ended r.state ≡ true
      by true e = e
      by false e =
          let fits : IsFitting v r = found_holds (IsFitting v) r.node v.records r s.records found in
          let none = fits.code e in
          absurd (cc (none, is))

  -- a result whose exit code was kept before
  old_row : (y : ProcessRecord) (code : ℤ) (files : Contents) → find_record y.node w.records ≡ Some y → y.kind ≡ kind.Job → retrieved_folder w y.node ≡ Some files → (q : Request)
      → recorded_request w y ≡ Some (Gives q) → (o : Option ProcessRecord) → find_record y.node v.records ≡ o → code_of o ≡ Some code
      → row_of q rows ≡ Some (result_with code files)
  old_row y code files found is_job folder q asked None is kept_code = absurd (cc kept_code)
  old_row y code files found is_job folder q asked (Some z) is kept_code =
      let number : z.node ≡ y.node = found_node y.node v.records z is in
      let itself : find_record z.node v.records ≡ Some z = ap (λ (n : ℕ). find_record n v.records) number ∙ is in
      let over : has_ended z.state ≡ true = code_ends z itself code kept_code in
      let kept : find_record z.node w.records ≡ Some z = record_kept v w s c z itself over in
      let again : Some z ≡ Some y = sym kept ∙ ap (λ (n : ℕ). find_record n w.records) number ∙ found in
      let same : z ≡ y = cc in
      let folder_before : retrieved_folder v z.node ≡ Some files =
      ap (λ (os : Values). option_and_then folder_of (lookup (codes "retrieved") os)) (sym (outputs_kept v w s c z itself over)) ∙ ap (retrieved_folder w) number ∙ folder in
      let asked_before : recorded_request v z ≡ Some (Gives q) = sym (request_same v w s c z z itself kept) ∙ ap (recorded_request w) same ∙ asked in
      agrees.1 z itself [] z q (result_with code files) refl itself asked_before
      (own z code files itself (ap (λ (x : ProcessRecord). x.kind) same ∙ is_job) kept_code folder_before)

  -- one that was brought
  new_row : (y : ProcessRecord) (x : JobResult) → HasResult w y.node x → find_record y.node w.records ≡ Some y → (q : Request) → recorded_request w y ≡ Some (Gives q)
      → IsBrought o w y.node x.code → row_of q rows ≡ Some x
  new_row y x has found q asked b =
      let again : Some b.process ≡ Some y = sym b.found ∙ found in
      let same : b.process ≡ y = cc in
      let both : Some (Gives b.request) ≡ Some (Gives q) = sym b.asks ∙ ap (recorded_request w) same ∙ asked in
      let one : b.request ≡ q = cc in
      let result : b.result ≡ x = one_result w later y.node b.result x b.has has in
      ap (λ (z : Request). row_of z rows) (sym one) ∙ told b.request b.result b.brings ∙ ap (λ (z : JobResult). Some z) result

  row_for : (pid : ℕ) (x : JobResult) → HasResult w pid x → (q : Request) → ((r : ProcessRecord) → find_record pid w.records ≡ Some r → recorded_request w r ≡ Some (Gives q))
      → row_of q rows ≡ Some x
  row_for pid x (own y code files found is_job is_code folder) q asked =
      ⊎_elim (old_row y code files found is_job folder q (asked y found) (find_record y.node v.records) refl)
      (new_row y (result_with code files) (own y code files found is_job is_code folder) found q (asked y found))
      (brought y.node code (ap code_of found ∙ is_code))
  row_for pid x (cached y source result found is_job alive from rest) q asked =
      let rule : KeepsRule w y = found_holds (KeepsRule w) y.node w.records y later.sources found in
      let alike = source_alike w (record { consistent = later.consistent; libraries = later.libraries; rule = later.sources }) y.started y source (takes_by_rule w y source rule from) in
      let its : recorded_request w alike.0 ≡ Some (Gives q) =
      (λ i. request_by (sym alike.2.runs i) (sym alike.2.inputs i)) ∙ asked y found in
      row_for source result rest q
      (λ r there. let again : Some alike.0 ≡ Some r = sym alike.1 ∙ there in let same : alike.0 ≡ r = cc in ap (recorded_request w) (sym same) ∙ its)

  pub agrees_on : AgreesWithWorld (plain rows) w
  agrees_on = (
    λ path q. refl,
    λ r found path x q result leads there asked has.
        row_for x.node result has q
        (λ y is. let again : Some x ≡ Some y = sym there ∙ is in let same : x ≡ y = cc in ap (recorded_request w) (sym same) ∙ asked),
  )
