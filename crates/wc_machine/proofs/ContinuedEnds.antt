-- What the end of one process leaves of the records.
use Rattle.std.proofs.Common.{◌≡◌, ℕ, ℤ, false, Option, Some, List, refl, sym, ap, ◌∙◌}
use Rattle.std.specs.Prelude.{option_map}
use Rattle.wc_semantics.specs.declared.outcomes.Parsed.{Parsed}
use Rattle.wc_state.specs.declared.record.ProcessRecord.{ProcessRecord}
use Rattle.wc_world.specs.World.{World}
use Rattle.wc_world.specs.Records.{find_record, has_ended, at_process}
use Rattle.wc_world.proofs.ReachedLists.{find_mapped, at_one, at_one_keeps, at_one_has}
use Rattle.wc_machine.specs.Continues.{Carries}
use Rattle.wc_machine.proofs.Endings.{end_record}

-- a record of this number is the one that is found by it
pub same_found : (rs : List ProcessRecord) (q r : ProcessRecord) → find_record q.node rs ≡ Some q → find_record r.node rs ≡ Some r → q.node ≡ r.node → q ≡ r
same_found rs q r p f e =
    let again : Some q ≡ Some r = sym p ∙ ap (λ (n : ℕ). find_record n rs) e ∙ f in
    cc

pub carried_itself : (q : ProcessRecord) → Carries q q
carried_itself q = record {
  node = refl;
  kind = refl;
  definition = refl;
  library = refl;
  depth = refl;
  label = refl;
  caching = refl;
  started = λ ne. (refl, refl);
  ended = λ h. refl;
}

module _ (w : World) (r : ProcessRecord) (p : Parsed) (source : Option ℕ) (code : Option ℤ) where
  -- the record of a process after that one has ended
  abbrev pub after_end : ProcessRecord → ProcessRecord
  after_end q = at_one r.node (end_record w r p source code) q

  -- a process is found as it was, but for the one that ended
  pub found_after : (pid : ℕ) (q : ProcessRecord) → find_record pid w.records ≡ Some q
      → find_record pid (at_process r.node (end_record w r p source code) w.records) ≡ Some (after_end q)
  found_after pid q h =
      find_mapped (at_one r.node (end_record w r p source code)) (at_one_keeps (λ (x : ProcessRecord). x.node) (end_record w r p source code) (λ x. refl) r.node) pid w.records
      ∙ ap (option_map (at_one r.node (end_record w r p source code))) h

  pub carried : find_record r.node w.records ≡ Some r → has_ended r.state ≡ false → r.started ≡ 0
      → (q : ProcessRecord) → find_record q.node w.records ≡ Some q → Carries q (after_end q)
  carried found live unstarted q h =
      at_one_has (λ x. Carries q x) r.node (end_record w r p source code) q
      (λ e.
      let is : q ≡ r = same_found w.records q r h found e in
      let never : q.started ≡ 0 = ap (λ (x : ProcessRecord). x.started) is ∙ unstarted in
      let lives : has_ended q.state ≡ false = ap (λ (x : ProcessRecord). has_ended x.state) is ∙ live in
      record {
        node = refl;
        kind = refl;
        definition = refl;
        library = refl;
        depth = refl;
        label = refl;
        caching = refl;
        started = λ ne. absurd (ne never);
        ended = λ over. absurd (cc (over, lives));
      })
      (λ ne. carried_itself q)
