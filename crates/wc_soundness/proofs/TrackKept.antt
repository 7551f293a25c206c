-- What a sound world asks of the record of a chain that goes on.
use Rattle.std.proofs.Common.{inl, inr, ◌≡◌, ℕ, suc, ◌-◌, Bool, true, false, List, [], ◌∷◌, Some, length, map, drop, refl, sym, ap, subst, ◌∙◌, arith}
use Rattle.std.specs.Prelude.{◌≢◌, ◌==◌, ◌&&◌, ◌||◌, not, if◌then◌else◌, filter}
use Rattle.std.proofs.lemmas.Bool.{cases_eq}
use Rattle.wc_value.specs.Ascending.{Ascends}
use Rattle.wc_graph.specs.declared.link.Link.{Link}
use Rattle.wc_state.specs.declared.record.Await.{Await}
use Rattle.wc_state.specs.declared.record.Checkpoint.{Checkpoint}
use Rattle.wc_state.specs.declared.record.Part.TheVariants as part
use Rattle.wc_state.specs.declared.record.ProcessRecord.{ProcessRecord}
use Rattle.wc_world.specs.Fits.{calls_from, counted_calls, has_output}
use Rattle.wc_world.specs.Records.{find_record, has_ended, has_called, is_call_from}
use Rattle.wc_world.specs.World.{World}
use Rattle.wc_world.proofs.After.{same_number}
use Rattle.wc_world.proofs.FoundRecords.{found_holds}
use Rattle.wc_machine.specs.Paths.{call_links}
use Rattle.wc_machine.specs.Rest.{bound_calls}
use Rattle.wc_machine.specs.Sound.{IsSound, IsFitting, IsPlaced, AllDiffer, CallsAreKept, AreAwaited, AwaitsLastCalls}
use Rattle.wc_turn_laws.specs.OutlineLaws.{KeepsCalls}
use Rattle.wc_soundness.proofs.OneSet.{went, now_runs, found_other}
use Rattle.wc_soundness.proofs.ChainStanding.{Standing, begins, runs, is_live, its_stand, its_fit, awaits_none, called_ended, both_true}

none_filtered : (pid : ℕ) (ls : List Link) → calls_from pid ls ≡ 0 → filter (is_call_from pid) ls ≡ []
none_filtered pid [] h = refl
none_filtered pid (l ∷ ls) h = by (is_call_from pid l) h (λ e. none_filtered pid ls e)
  where
    by : (b : Bool) → (if b then suc (calls_from pid ls) else calls_from pid ls) ≡ 0 → (calls_from pid ls ≡ 0 → filter (is_call_from pid) ls ≡ [])
        → (if b then l ∷ filter (is_call_from pid) ls else filter (is_call_from pid) ls) ≡ []
    by true e rest = absurd (cc)
    by false e rest = rest e

module _ (w : World) (r : ProcessRecord) (c d : Checkpoint) (sound : IsSound w) (found : find_record r.node w.records ≡ Some r) (stands : Standing r c) (counts : KeepsCalls c d) (fuel : ℕ) where
  abbrev v : World
  v = went w r fuel d

  abbrev s : ProcessRecord
  s = now_runs w r fuel d

  live : has_ended r.state ≡ false
  live = is_live r c stands

  -- every record of the world after is that of the chain, or was there before
  before : (q : ProcessRecord) → r.node ≢ q.node → find_record q.node v.records ≡ Some q → find_record q.node w.records ≡ Some q
  before q ne h = sym (found_other w r found live (its_fit w sound r found) fuel d q.node ne) ∙ h

  pub fits_now : Ascends d.outputs → IsFitting v s
  fits_now ascend =
      let f = its_fit w sound r found in
      record {
        inputs = f.inputs;
        request = λ e. absurd (cc);
        code = λ e. refl;
        source = λ e. refl;
        started = λ e. absurd (cc);
        awaiting = subst (λ (xs : List Await). AllDiffer (map (λ a. a.pid) xs)) (sym (counts.1 ∙ awaits_none w sound r found c stands)) tt;
        outputs = ascend;
      }

  pub calls_now : CallsAreKept v s
  calls_now q there called = elim (cases_eq r.node q.node) [
    | inl e ↦
        let itself : has_ended r.state ≡ true = called_ended w sound r found c stands r found (ap (has_called w.links r.node) e ∙ called) in
        absurd (cc (itself, live))
    | inr ne ↦ inl (called_ended w sound r found c stands q (before q ne there) called)
  ]

  counted : calls_from r.node w.links ≡ counted_calls r.part
  counted =
      let either : not (has_output r.node w.links) && (calls_from r.node w.links == counted_calls r.part) ≡ true
      = subst (λ (b : Bool). b || (not (has_output r.node w.links) && (calls_from r.node w.links == counted_calls r.part)) ≡ true) live (its_stand w sound r found).settled in
      same_number (calls_from r.node w.links) (counted_calls r.part) (both_true (not (has_output r.node w.links)) (calls_from r.node w.links == counted_calls r.part) either).1

  awaits_by : (c' : Checkpoint) → Standing r c' → c' ≡ c → AreAwaited (suc (bound_calls c)) (drop (bound_calls c) (call_links w r.node)) c.awaiting
  awaits_by c' (begins a b) e =
      subst (λ (x : Checkpoint). AreAwaited (suc (bound_calls x)) (drop (bound_calls x) (call_links w r.node)) x.awaiting) e
      (subst (λ (ls : List Link). AreAwaited 1 ls []) (sym (none_filtered r.node w.links (counted ∙ ap counted_calls b))) tt)
  awaits_by c' (runs x a b) e = subst (AwaitsLastCalls w r) (b ∙ ap part.Chain e) (found_holds (λ q. AwaitsLastCalls w q q.part) r.node w.records r sound.awaits found)

  pub awaits_now : AwaitsLastCalls v s s.part
  awaits_now =
      let same : bound_calls c ≡ bound_calls d = λ i. sym counts.0 i - length (sym counts.1 i) in
      subst (λ (n : ℕ). AreAwaited (suc n) (drop n (call_links w r.node)) d.awaiting) same
      (subst (λ (xs : List Await). AreAwaited (suc (bound_calls c)) (drop (bound_calls c) (call_links w r.node)) xs) (sym counts.1) (awaits_by c stands refl))

  pub placed_now : IsPlaced v s
  placed_now =
      let p : IsPlaced w r = found_holds (IsPlaced w) r.node w.records r sound.placed found in
      record {
        root = p.root;
        called = λ ne.
            let x = p.called ne in
            let apart : r.node ≢ x.0.node = λ e.
            let same : Some r ≡ Some x.0 = sym found ∙ ap (λ (n : ℕ). find_record n w.records) e ∙ x.1.0 in
            let one : r ≡ x.0 = cc in
            let deeper : r.depth ≡ suc r.depth = x.1.2 ∙ ap (λ (q : ProcessRecord). suc q.depth) (sym one) in absurd (omega (arith, deeper)) in
            (x.0, (found_other w r found live (its_fit w sound r found) fuel d x.0.node apart ∙ x.1.0, x.1.1, x.1.2, x.1.3));
        numbered = p.numbered;
      }
