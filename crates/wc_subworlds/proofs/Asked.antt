-- What a replay asks is recorded, so what it gives hangs on no other result.
use Rattle.std.proofs.Common.{◌≡◌, ℕ, zero, suc, Bool, true, false, List, [], ◌∷◌, ◌++◌, get_or, map, Option, Some, None, refl, sym, ap, subst, ◌∙◌}
use Rattle.std.specs.Prelude.{All, if◌then◌else◌, option_map, option_and_then}
use Rattle.std.proofs.lemmas.List.Elements.{All-nil, All-cons, All-head, All-tail, All-append, All-weaker}
use Rattle.wc_value.specs.declared.process.JobResult.{JobResult}
use Rattle.wc_value.specs.declared.process.Request.{Request}
use Rattle.wc_graph.specs.declared.link.Link.{Link}
use Rattle.wc_syntax.specs.declared.definition.Definition.{Definition}
use Rattle.wc_expression.specs.declared.outcome.Outcome.{Outcome}
use Rattle.wc_expression.specs.declared.outcome.Outcome.TheVariants.{Gives, Faults}
use Rattle.wc_state.specs.declared.record.ProcessRecord.{ProcessRecord}
use Rattle.wc_semantics.specs.Laws.{AgreeAt}
use Rattle.wc_semantics.specs.Meaning.{from_caller, meaning}
use Rattle.wc_semantics.specs.Tables.{Path, Table}
use Rattle.wc_semantics.specs.declared.progress.Answer.{Answer}
use Rattle.wc_semantics.specs.declared.progress.Answer.TheVariants.{Gave}
use Rattle.wc_semantics.specs.declared.progress.Replayed.{Replayed}
use Rattle.wc_semantics.proofs.Asked.{IsAlike, given_same, meaning_told}
use Rattle.std.proofs.lemmas.List.Elements.{recursion_from_All}
use Rattle.wc_world.specs.World.{World}
use Rattle.wc_world.specs.Consistent.{IsConsistent}
use Rattle.wc_world.specs.Records.{find_record, is_call_from, library_at}
use Rattle.wc_world.proofs.FoundRecords.{found_holds}
use Rattle.wc_machine.specs.Agreement.{Agrees}
use Rattle.wc_machine.specs.Paths.{call_links, called_under, follow, kills}
use Rattle.wc_machine.specs.Recorded.{recorded_inputs, recorded_request, HasResult}
use Rattle.wc_machine.specs.Rest.{levels_of}
use Rattle.wc_machine.specs.Results.{result_of}
use Rattle.wc_machine.specs.Sound.{AreNumbered, IsMeant}
use Rattle.wc_subworlds.specs.Asks.{Asks, answered, asked_at, asked_by_calls, asks_of, asks_within}
use Rattle.wc_subworlds.specs.Laws.{IsReplayed, NumbersCalls, ReplaysAreMeant}
use Rattle.wc_subworlds.proofs.Found.{result_is_recorded}
use Rattle.wc_subworlds.proofs.Labels.{labels_lead}
use Rattle.wc_subworlds.proofs.Parts.{IsProcess, its_calls_there, its_number}

-- A job is recorded with a result, at this path below a process, for this request.
pub record IsRecorded (w : World) (pid : ℕ) (path : Path) (q : Request) : Type 0 where
  pub process : ProcessRecord
  pub result : JobResult
  pub leads : follow w.links pid path ≡ Some process.node
  pub found : find_record process.node w.records ≡ Some process
  pub asks : recorded_request w process ≡ Some (Gives q)
  pub has : HasResult w process.node result

abbrev AreRecorded : World → ℕ → Asks → Type 0
AreRecorded w pid = All (λ a. IsRecorded w pid a.0 a.1)

module _ (w : World) (consistent : IsConsistent w) (numbered : NumbersCalls w) where
  -- a job's own
  own_recorded : (r : ProcessRecord) → find_record r.node w.records ≡ Some r → (o : Option (Outcome Request)) → recorded_request w r ≡ o
      → (x : Option JobResult) → result_of w r.node ≡ x → AreRecorded w r.node (answered o x)
  own_recorded r found None asks x has = All-nil (λ a. IsRecorded w r.node a.0 a.1)
  own_recorded r found (Some (Faults reason)) asks x has = All-nil (λ a. IsRecorded w r.node a.0 a.1)
  own_recorded r found (Some (Gives q)) asks None has = All-nil (λ a. IsRecorded w r.node a.0 a.1)
  own_recorded r found (Some (Gives q)) asks (Some x) has =
      All-cons (λ a. IsRecorded w r.node a.0 a.1) ([], q) []
      (record { process = r; result = x; leads = refl; found = found; asks = asks; has = result_is_recorded w r.node x has })
      (All-nil (λ a. IsRecorded w r.node a.0 a.1))

  -- what a call asked, seen from its caller
  from_call : (pid : ℕ) (l : Link) → called_under w.links pid l.label ≡ Some l.target → (each : Asks) → AreRecorded w l.target each
      → AreRecorded w pid (map (from_caller l.label) each)
  from_call pid l leads [] h = All-nil (λ a. IsRecorded w pid a.0 a.1)
  from_call pid l leads (a ∷ each) h =
      let r : IsRecorded w l.target a.0 a.1 = All-head (λ x. IsRecorded w l.target x.0 x.1) a each h in
      All-cons (λ x. IsRecorded w pid x.0 x.1) (from_caller l.label a) (map (from_caller l.label) each)
      (record {
        process = r.process;
        result = r.result;
        leads = ap (option_and_then (λ q. follow w.links q a.0)) leads ∙ r.leads;
        found = r.found;
        asks = r.asks;
        has = r.has;
      })
      (from_call pid l leads each (All-tail (λ x. IsRecorded w l.target x.0 x.1) a each h))

  -- a call leads to what is called, which asks what is recorded
  abbrev IsGoodCall : (ℕ → Asks) → ℕ → Link → Type 0
  IsGoodCall asks pid l = is_call_from pid l ≡ true → (called_under w.links pid l.label ≡ Some l.target) × AreRecorded w l.target (asks l.target)

  by_calls : (asks : ℕ → Asks) (pid : ℕ) (ls : List Link)
      → All (IsGoodCall asks pid) ls
      → AreRecorded w pid (asked_by_calls asks pid ls)
  by_calls asks pid [] h = All-nil (λ a. IsRecorded w pid a.0 a.1)
  by_calls asks pid (l ∷ ls) h =
      at (is_call_from pid l) (All-head (IsGoodCall asks pid) l ls h) (by_calls asks pid ls (All-tail (IsGoodCall asks pid) l ls h))
    where
      at : (b : Bool) → (b ≡ true → (called_under w.links pid l.label ≡ Some l.target) × AreRecorded w l.target (asks l.target))
          → AreRecorded w pid (asked_by_calls asks pid ls)
          → AreRecorded w pid (if b then map (from_caller l.label) (asks l.target) ++ asked_by_calls asks pid ls else asked_by_calls asks pid ls)
      at true here rest =
          All-append (λ a. IsRecorded w pid a.0 a.1) (map (from_caller l.label) (asks l.target)) (asked_by_calls asks pid ls)
          (from_call pid l (here refl).0 (asks l.target) (here refl).1) rest
      at false here rest = rest

  its_asks : (levels pid : ℕ) → IsProcess w pid → AreRecorded w pid (asks_within levels w pid)
  its_asks zero pid p = All-nil (λ a. IsRecorded w pid a.0 a.1)
  its_asks (suc levels) pid p =
      let r : ProcessRecord = p.0 in
      let number : r.node ≡ pid = its_number pid w.records r p.1 in
      let found : find_record r.node w.records ≡ Some r = ap (λ (n : ℕ). find_record n w.records) number ∙ p.1 in
      let there = its_calls_there w consistent r.node (r, found) in
      let lead = labels_lead w consistent r.node (found_holds (λ x. AreNumbered 1 (call_links w x.node)) r.node w.records r numbered found) in
      subst (λ (each : Asks). AreRecorded w pid each) (sym (ap (asked_at w (asks_within levels w)) p.1))
      (subst (λ (n : ℕ). AreRecorded w n (answered (recorded_request w r) (result_of w r.node) ++ asked_by_calls (asks_within levels w) r.node w.links)) number
      (All-append (λ a. IsRecorded w r.node a.0 a.1) (answered (recorded_request w r) (result_of w r.node)) (asked_by_calls (asks_within levels w) r.node w.links)
      (own_recorded r found (recorded_request w r) refl (result_of w r.node) refl)
      (by_calls (asks_within levels w) r.node w.links
      (λ i d lt called.
      let l : Link = get_or w.links i d in
      (lead i d lt called, its_asks levels l.target (there i d lt called))))))

  -- tables that agree with a process have the same for what is asked of it
  pub alike : (pid : ℕ) (table other : Table) → Agrees table w pid → Agrees other w pid → IsProcess w pid → AgreeAt table other (asks_of w pid)
  alike pid table other a b p =
      All-weaker (λ x. IsRecorded w pid x.0 x.1) (λ x. other x.0 x.1 ≡ table x.0 x.1)
      (λ x r. b x.0 r.process x.1 r.result r.leads r.found r.asks r.has ∙ sym (a x.0 r.process x.1 r.result r.leads r.found r.asks r.has))
      (asks_of w pid) (its_asks 16 pid p)

  -- ---- meanings

  -- the same is meant with the other table
  means_too : (r : ProcessRecord) (table other : Table) (t : Replayed) (m : ℕ) (l : Option (List Definition)) → AgreeAt table other t.asked
      → option_map (λ library. meaning (levels_of r) library table (kills w r.node) r.fuel r.definition (recorded_inputs w r.node)) l ≡ Some (Gave t m)
      → option_map (λ library. meaning (levels_of r) library other (kills w r.node) r.fuel r.definition (recorded_inputs w r.node)) l ≡ Some (Gave t m)
  means_too r table other t m None agree h = absurd (cc h)
  means_too r table other t m (Some library) agree h =
      let given : meaning (levels_of r) library table (kills w r.node) r.fuel r.definition (recorded_inputs w r.node) ≡ Gave t m = cc h in
      ap (λ (x : Answer). Some x)
      (given_same table other t m (meaning (levels_of r) library table (kills w r.node) r.fuel r.definition (recorded_inputs w r.node))
      (meaning (levels_of r) library other (kills w r.node) r.fuel r.definition (recorded_inputs w r.node)) given
      (meaning_told (levels_of r) library table other (kills w r.node) r.fuel r.definition (recorded_inputs w r.node)) (recursion_from_All (IsAlike table other) t.asked agree))

  pub is_meant : (r : ProcessRecord) (table : Table) → find_record r.node w.records ≡ Some r → IsReplayed w r table → IsMeant w r
  is_meant r table found x other a = (
    x.replayed.tree,
    x.tree,
    (
      x.replayed,
      x.left,
      means_too r table other x.replayed x.left (library_at w.libraries r.library)
          (subst (λ (each : Asks). AgreeAt table other each) (sym x.asked) (alike r.node table other x.agrees a (r, found))) x.gives,
      refl,
    ),
  )

pub replays_are_meant : ReplaysAreMeant
replays_are_meant w r table consistent numbered found x = is_meant w consistent numbered r table found x
