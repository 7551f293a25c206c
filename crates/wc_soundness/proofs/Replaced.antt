-- What is found in a world in which one record is set anew.
use Rattle.std.proofs.Common.{◌≡◌, ◌≢◌, ℕ, true, false, Option, Some, None, [], refl, sym, ap, subst, ◌∙◌}
use Rattle.std.specs.Prelude.{◌==◌, option_map}
use Rattle.std.proofs.lemmas.Bool.{cond-false, cond-true, eq-eqb, ne_eqb}
use Rattle.std.proofs.lemmas.List.{append-nil}
use Rattle.std.proofs.lemmas.List.Elements.{All-nil}
use Rattle.wc_value.specs.declared.process.ProcessState.{ProcessState}
use Rattle.wc_semantics.specs.Tables.{Table}
use Rattle.wc_state.specs.declared.record.Part.{Part}
use Rattle.wc_state.specs.declared.record.ProcessRecord.{ProcessRecord}
use Rattle.wc_world.specs.World.{World}
use Rattle.wc_world.specs.Applied.{set}
use Rattle.wc_world.specs.Records.{find_record, has_ended}
use Rattle.wc_world.proofs.FoundRecords.{found_holds}
use Rattle.wc_world.proofs.ReachedLists.{find_mapped, found_node, at_one, at_one_keeps}
use Rattle.wc_machine.specs.Agreement.{Agrees}
use Rattle.wc_machine.specs.Continues.{Carries, Continues}
use Rattle.wc_machine.specs.Sound.{IsFitting, IsSound}
use Rattle.wc_soundness.specs.Touches.{AddsFor, Touches, MayBeTouched, StaysEnded}
use Rattle.wc_soundness.proofs.Touched.{tables_narrow, ended_stay, touching_continues}
use Rattle.wc_soundness.specs.Replaced.{set_to, record_to, world_to, IsSet}

pub one_record : (o : Option ProcessRecord) (r q : ProcessRecord) → o ≡ Some r → o ≡ Some q → r ≡ q
one_record o r q h k = let e : Some r ≡ Some q = sym h ∙ k in cc

module _ (w : World) (batch : ℕ) (r : ProcessRecord) (s : ProcessState) (fuel : ℕ) (p : Part) where
  -- the world after the Set, and the record of the process in it
  abbrev pub after : World
  after = world_to w batch r s fuel p

  abbrev pub now : ProcessRecord
  now = record_to batch r s fuel p

  -- what the Set makes of a record
  abbrev pub setting : ProcessRecord → ProcessRecord
  setting = set batch (set_to r s fuel p)

  abbrev pub at_it : ProcessRecord → ProcessRecord
  at_it = at_one r.node setting

  pub found_mapped : (q : ℕ) → find_record q after.records ≡ option_map at_it (find_record q w.records)
  found_mapped q = find_mapped at_it (at_one_keeps (λ (x : ProcessRecord). x.node) setting (λ x. refl) r.node) q w.records

  pub found_now : find_record r.node w.records ≡ Some r → find_record r.node after.records ≡ Some now
  found_now found =
      found_mapped r.node ∙ ap (option_map at_it) found
      ∙ ap (λ (x : ProcessRecord). Some x) (cond-true (r.node == r.node) (setting r) r (eq-eqb r.node r.node refl))

  pub found_other : (q : ℕ) → r.node ≢ q → find_record q after.records ≡ find_record q w.records
  found_other q ne = found_mapped q ∙ at (find_record q w.records) refl
    where
      at : (o : Option ProcessRecord) → find_record q w.records ≡ o → option_map at_it o ≡ o
      at None is = refl
      at (Some x) is =
          let apart : x.node ≢ r.node = λ e. ne (sym e ∙ found_node q w.records x is) in
          ap (λ (y : ProcessRecord). Some y) (cond-false (x.node == r.node) (setting x) x (ne_eqb x.node r.node apart))

  -- ---- one process is touched

  module _ (i : IsSet w batch r s) (sound : IsSound w) where
    same_record : (q : ProcessRecord) → find_record r.node w.records ≡ Some q → r ≡ q
    same_record q h = one_record (find_record r.node w.records) r q i.found h

    pub unsourced : r.cached_from ≡ None
    unsourced = (found_holds (IsFitting w) r.node w.records r sound.records i.found).source i.live

    carries : Carries r now
    carries = record {
      node = refl;
      kind = refl;
      definition = refl;
      library = refl;
      depth = refl;
      label = refl;
      caching = refl;
      started = λ ne. (i.start, sym unsourced);
      ended = λ over. let live = i.live in absurd (cc (over, live));
    }

    pub touches : Touches w after r.node
    touches = record {
      libraries = ([], sym (append-nil w.libraries));
      nodes = ([], sym (append-nil w.nodes));
      new = [];
      links = sym (append-nil w.links);
      added = All-nil (AddsFor w.nodes r.node);
      records = λ q ne le. found_other q ne;
      carried = λ q h. (now, found_now i.found, subst (λ (x : ProcessRecord). Carries x now) (same_record q h) carries);
      batches = i.later;
    }

    pub may : MayBeTouched w r.node
    may q h = ap (λ (x : ProcessRecord). has_ended x.state) (sym (same_record q h)) ∙ i.live

    pub continues : Continues w after
    continues = touching_continues w after r.node sound touches may

    pub stays : (q : ProcessRecord) → find_record q.node w.records ≡ Some q → has_ended q.state ≡ true → StaysEnded w after q
    stays = ended_stay w after r.node sound touches may

    pub narrows : (q : ProcessRecord) → find_record q.node w.records ≡ Some q → (table : Table) → Agrees table after q.node → Agrees table w q.node
    narrows = tables_narrow w after r.node sound touches may

    pub over_differs : (q : ProcessRecord) → find_record q.node w.records ≡ Some q → has_ended q.state ≡ true → r.node ≢ q.node
    over_differs q found over e =
        let lives : has_ended q.state ≡ false = may q (ap (λ (n : ℕ). find_record n w.records) e ∙ found) in absurd (cc (over, lives))
