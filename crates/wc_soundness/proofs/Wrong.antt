-- Wrong worlds are not sound.
use Rattle.std.proofs.Common.{◌≡◌, ◌≢◌, ℕ, ◌<◌, ◌≤◌, ◌==◌, ◌&&◌, ◌||◌, Bool, false, true, Option, Some, None, refl, sym, ap, ◌∙◌, arith}
use Rattle.std.specs.Prelude.{pos, codes, All}
use Rattle.wc_value.specs.declared.process.ProcessState.TheVariants as state
use Rattle.wc_value.specs.declared.value.Value.{out-Value}
use Rattle.wc_syntax.specs.declared.definition.Definition.TheVariants as definition
use Rattle.wc_semantics.specs.Outcomes.{parsed}
use Rattle.wc_semantics.specs.declared.outcomes.Parsed.{Parsed}
use Rattle.wc_state.specs.declared.record.ProcessRecord.{ProcessRecord}
use Rattle.wc_world.specs.World.{World}
use Rattle.wc_world.specs.Records.{find_record}
use Rattle.wc_machine.specs.Created.{GivenFor, killed, cached, function, job, no_request, IsCreatedByInputs}
use Rattle.wc_machine.specs.Recorded.{its_definition, recorded_inputs, recorded_outputs, retrieved_folder, result_with, Contents}
use Rattle.wc_machine.specs.Sound.{IsPlaced, AwaitsLastCalls}
use Rattle.wc_machine.specs.Sources.{KeepsCacheRule, marks}
use Rattle.wc_soundness.specs.Library.{double}
use Rattle.wc_soundness.specs.FanWorlds as fans
use Rattle.wc_soundness.specs.CachedWorlds as caches
use Rattle.wc_soundness.specs.WrongWorlds as wrong
use Rattle.wc_soundness.specs.SmallLaws.{WrongWorldsAreRefused, WrongWorldsAreUnsound}
use Rattle.wc_soundness.proofs.Expressions.{parsed_four}
use Rattle.wc_soundness.proofs.Numbers.{number_at}
use Rattle.wc_soundness.proofs.WrongChains.{exchanged_refused, little_refused}

one_found : (o : Option ProcessRecord) (r q : ProcessRecord) → o ≡ Some r → o ≡ Some q → r ≡ q
one_found o r q h k = let e : Some r ≡ Some q = sym h ∙ k in cc

-- ---- what is given for a job that has ended

-- The job ran itself, and finished: so it brought back a folder, and what is given for it is what its rules make of that.
module _ (w : World) (q : ProcessRecord) (found : find_record 2 w.records ≡ Some q) (runs : its_definition w q ≡ Some (definition.Job double))
    (alive : q.state ≢ state.Killed) (own : q.cached_from ≡ None) (code : q.code ≡ Some (pos 0)) where
  abbrev ByResult : Parsed → Type 0
  ByResult p = (files : Contents) × (retrieved_folder w 2 ≡ Some files) × (p ≡ parsed double (recorded_inputs w 2) (result_with (pos 0) files))

  its_record : (pid : ℕ) → pid ≡ 2 → (r : ProcessRecord) → find_record pid w.records ≡ Some r → r ≡ q
  its_record pid e r f = one_found (find_record pid w.records) r q f (ap (λ (n : ℕ). find_record n w.records) e ∙ found)

  job_given : (pid : ℕ) (p : Parsed) → pid ≡ 2 → GivenFor w pid p → ByResult p
  job_given pid p e (killed r f dead bare) = absurd (alive (ap (λ (x : ProcessRecord). x.state) (sym (its_record r.node e r f)) ∙ dead))
  job_given pid p e (cached r source x f live bare from g) =
      let has : q.cached_from ≡ Some source = ap (λ (x : ProcessRecord). x.cached_from) (sym (its_record r.node e r f)) ∙ from in absurd (cc (has, own))
  job_given pid p e (function r g f live none d) =
      let same : Some (definition.Function g) ≡ Some (definition.Job double) = sym d ∙ ap (its_definition w) (its_record r.node e r f) ∙ runs in absurd (cc same)
  job_given pid p e (job r j a n files f live none d exit brought asked) =
      let same : Some (definition.Job j) ≡ Some (definition.Job double) = sym d ∙ ap (its_definition w) (its_record r.node e r f) ∙ runs in
      let rules : j ≡ double = cc in
      let left : Some n ≡ Some (pos 0) = sym exit ∙ ap (λ (x : ProcessRecord). x.code) (its_record r.node e r f) ∙ code in
      let zeroed : n ≡ pos 0 = cc in
      (files, sym (ap (retrieved_folder w) e) ∙ brought, λ i. parsed (rules i) (recorded_inputs w (e i)) (result_with (zeroed i) files))
  job_given pid p e (no_request r j reason f live none d bare asked) =
      let has : q.code ≡ None = ap (λ (x : ProcessRecord). x.code) (sym (its_record r.node e r f)) ∙ bare in absurd (cc (has, code))

finished_alive : state.Finished 0 ≢ state.Killed
finished_alive e = absurd (cc e)

-- Where the outputs stand under each other's labels, there is no folder.
swapped_folder : retrieved_folder wrong.swapped 2 ≡ None
unfolding out-Value denote.Hole.Carrier.out
swapped_folder = refl

swapped_refused : IsCreatedByInputs wrong.swapped → ⊥
swapped_refused c =
    let g = c.ended 0 caches.source (omega arith) refl refl in
    let t = job_given wrong.swapped caches.source refl refl finished_alive refl refl 2 g.0 refl g.1 in
    absurd (cc (t.1, swapped_folder))

-- ---- another result

other_folder : retrieved_folder wrong.other_result 2 ≡ Some (fans.printed 52)
unfolding out-Value denote.Hole.Carrier.out
other_folder = refl

five_recorded : number_at (codes "value") (recorded_outputs wrong.other_result 2) ≡ pos 5
unfolding number_at out-Value denote.Hole.Carrier.out
five_recorded = refl

four_given : number_at (codes "value") (fans.job_outcome 52 (pos 4)).outputs ≡ pos 4
unfolding number_at out-Value denote.Hole.Carrier.out
four_given = refl

other_refused : IsCreatedByInputs wrong.other_result → ⊥
other_refused c =
    let g = c.ended 0 caches.source (omega arith) refl refl in
    let t = job_given wrong.other_result caches.source refl refl finished_alive refl refl 2 g.0 refl g.1 in
    let same : Some t.0 ≡ Some (fans.printed 52) = sym t.1 ∙ other_folder in
    let files : t.0 ≡ fans.printed 52 = cc in
    let outcome : g.0 ≡ fans.job_outcome 52 (pos 4) = t.2 ∙ ap (λ (fs : Contents). parsed double caches.input (result_with (pos 0) fs)) files ∙ parsed_four in
    let numbers : pos 5 ≡ pos 4 = sym five_recorded ∙ ap (number_at (codes "value")) (g.3 ∙ ap (λ (p : Parsed). p.outputs) outcome) ∙ four_given in
    absurd (cc numbers)

-- ---- a late source

late_refused : (batch : ℕ) → 8 ≤ batch → KeepsCacheRule (wrong.late batch) → ⊥
late_refused batch h k =
    let t = (k 1 caches.taker (omega arith)).0 refl refl (λ e. absurd (cc e)) in
    let is = one_found (find_record 2 (wrong.late batch).records) (wrong.late_source batch) t.0.0 refl t.0.1 in
    let last : batch ≡ t.0.0.ended = ap (λ (x : ProcessRecord). x.ended) is in
    let before : t.0.0.ended < 8 = t.0.2.0.earlier in
    absurd (omega arith)

marked_refused : KeepsCacheRule wrong.marked → ⊥
marked_refused k =
    let t = (k 1 wrong.marked_taker (omega arith)).0 refl refl (λ e. absurd (cc e)) in
    let is = one_found (find_record 2 wrong.marked.records) wrong.marked_source t.0.0 refl t.0.1 in
    let valid = t.0.2.0 in
    let same : state.Finished 310 ≡ state.Finished valid.status = ap (λ (x : ProcessRecord). x.state) is ∙ valid.finished in
    let status : 310 ≡ valid.status = cc same in
    let runs : Some (definition.Job double) ≡ Some valid.definition = ap (its_definition wrong.marked) is ∙ valid.is_definition in
    let rules : definition.Job double ≡ valid.definition = cc runs in
    let no : true ≡ false = (λ i. marks (rules i) (status i)) ∙ valid.unmarked in
    absurd (cc no)

-- ---- the calls of a chain

neither : (b : Bool) → ((b && false) || false) ≡ true → ⊥
neither true e = absurd (cc e)
neither false e = absurd (cc e)

cut_refused : All (IsPlaced wrong.cut) wrong.cut.records → ⊥
cut_refused p =
    let t = (p 1 fans.fan_ended (omega arith)).called (λ e. absurd (omega arith)) in
    neither (2 == t.0.node) t.1.1

disordered_refused : All (λ r. AwaitsLastCalls wrong.disordered r r.part) wrong.disordered.records → ⊥
disordered_refused a =
    let t = a 0 wrong.disordered_chain (omega arith) in
    let e : 3 ≡ 5 = t.0 in
    let no : 3 ≡ 5 → ⊥ = λ q. absurd (cc q) in
    no e

pub refused : WrongWorldsAreRefused
refused = record { swapped = swapped_refused; other_result = other_refused; late = late_refused 9 (omega arith); same_batch = late_refused 8 (omega arith); marked = marked_refused; cut = cut_refused; disordered = disordered_refused }

pub unsound : WrongWorldsAreUnsound
unsound = record {
  swapped = λ s. swapped_refused s.created;
  other_result = λ s. other_refused s.created;
  late = λ s. late_refused 9 (omega arith) s.sources;
  same_batch = λ s. late_refused 8 (omega arith) s.sources;
  marked = λ s. marked_refused s.sources;
  cut = λ s. cut_refused s.placed;
  disordered = λ s. disordered_refused s.awaits;
  exchanged = exchanged_refused;
  little_fuel = little_refused;
}
