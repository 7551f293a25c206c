-- The end of a live calculation without source: the world accepts it, and it touches the calculation alone.
use Rattle.std.proofs.Common.{◌≡◌, ℕ, ℤ, ◌+◌, ◌<◌, Bool, true, false, Option, Some, None, [], ◌∷◌, get_or, length, refl, sym, ap, subst, ◌∙◌, arith}
use Rattle.std.specs.Prelude.{◌==◌, ◌&&◌, not, if◌then◌else◌}
use Rattle.std.proofs.lemmas.Bool.{eq-eqb}
use Rattle.std.proofs.lemmas.List.{append-nil}
use Rattle.wc_graph.specs.Rules.{node_of}
use Rattle.wc_graph.specs.declared.link.Link.{Link}
use Rattle.wc_graph.specs.declared.link.LinkType.TheVariants.{Create}
use Rattle.wc_semantics.specs.declared.outcomes.Parsed.{Parsed}
use Rattle.wc_state.specs.declared.record.Part.TheVariants as part
use Rattle.wc_state.specs.declared.record.ProcessRecord.{ProcessRecord}
use Rattle.wc_world.specs.World.{World}
use Rattle.wc_world.specs.Accepted.{IsAccepted, setting}
use Rattle.wc_world.specs.Applied.{begun, is_created, is_killed}
use Rattle.wc_world.specs.Consistent.{IsConsistent, Stands}
use Rattle.wc_world.specs.Fits.{part_fits, unsettled}
use Rattle.wc_world.specs.Records.{find_record, gives_output, has_ended, is_calculation, is_output_of}
use Rattle.wc_world.proofs.FoundRecords.{found_holds}
use Rattle.wc_machine.specs.Continues.{Carries}
use Rattle.wc_machine.specs.Ends.{end_of, ends}
use Rattle.wc_machine.specs.Laws.{HasPlaces}
use Rattle.wc_machine.specs.Sound.{IsFitting}
use Rattle.wc_machine.specs.Submissions.{AreInputs}
use Rattle.wc_machine.proofs.AcceptedEnds.{CanCreate, apply_created, calculation_by, live_without_output, over_fits, process_is_node, settled_after}
use Rattle.wc_machine.proofs.CreatedOutputs.{without_output}
use Rattle.wc_machine.proofs.Endings.{applied_ends, creates, data_nodes, end_record, ended_world}
use Rattle.wc_machine.proofs.EndedWorlds.{found_end}
use Rattle.wc_machine.proofs.Frames.{node_number, target_is_node}
use Rattle.wc_soundness.specs.Touches.{Touches}
use Rattle.wc_soundness.proofs.TouchingEvents.{creates_adds, found_other}
use Rattle.wc_soundness.specs.JobLaws.{LiveEndsAreAccepted, LiveEndsTouch}
use Rattle.wc_soundness.proofs.Moves.{not_created, same_record}

-- ---- accepted

module _ (w : World) (r : ProcessRecord) (p : Parsed) (code : Option ℤ) where
  can_create : IsConsistent w → find_record r.node w.records ≡ Some r → is_calculation r.kind ≡ true → has_ended r.state ≡ false → CanCreate (begun w) r.node p.outputs
  can_create c found calculates live = record {
    source = calculation_by (node_of w.nodes r.node) r.kind (process_is_node w c r found) calculates;
    targets = λ i d lt. node_number w.nodes (get_or w.links i d).target (target_is_node w.nodes (get_or w.links i d) (c.links.ends i d lt));
    labels = λ i d lt is from. absurd (no_creation i d lt is from);
  }
    where
      no_creation : (i : ℕ) (d : Link) → i < length w.links → (get_or w.links i d).link ≡ Create → (get_or w.links i d).source ≡ r.node → ⊥
      no_creation i d lt is from =
          let l = get_or w.links i d in
          let stands : Stands w r = found_holds (Stands w) r.node w.records r c.records found in
          let none : is_output_of r.node l ≡ false = without_output r.node w.links (live_without_output w r stands live) i d lt in
          let is_one : is_output_of r.node l ≡ true = (λ j. gives_output (is j) && (from j == r.node)) ∙ eq-eqb r.node r.node refl in
          cc (none, is_one)

  pub end_accepted : IsConsistent w → find_record r.node w.records ≡ Some r → is_calculation r.kind ≡ true → has_ended r.state ≡ false → has_ended p.state ≡ true
      → AreInputs p.outputs → HasPlaces w (length w.nodes + length p.outputs) → IsAccepted w (ends w r p None code)
  end_accepted c found calculates live over a places =
      let set_is : (not (has_ended r.state) && (part_fits r.kind p.state part.Over && true)) ≡ true
      = λ i. not (live i) && (over_fits r.kind p.state over i && true) in
      record {
        batch = places.batches;
        each =
            apply_created (setting w (ends w r p None code)) (begun w) (length w.nodes + 1) r.node p.outputs (end_of r p None code ∷ []) (omega arith)
            places.nodes a (can_create c found calculates live) ((r, found, set_is, refl), tt);
        settled = ap (λ (v : World). unsettled v.links v.records) (applied_ends w r p None code) ∙ settled_after w r p None code c over;
      }

  -- ---- it touches one process

  carries : IsFitting w r → has_ended r.state ≡ false → Carries r (end_record w r p None code r)
  carries fits live = record {
    node = refl;
    kind = refl;
    definition = refl;
    library = refl;
    depth = refl;
    label = refl;
    caching = refl;
    started = λ ne.
        let old : is_created r.state ≡ false = not_created r.state (λ e. ne (fits.started e)) in (
          ap (λ (b : Bool). if b && (not (is_created p.state) && not (is_killed p.state)) then w.batches + 1 else r.started) old,
          sym (fits.source live),
        );
    ended = λ over. absurd (cc (over, live));
  }

  pub live_end_touches : IsFitting w r → find_record r.node w.records ≡ Some r → has_ended r.state ≡ false → Touches w (ended_world w r p None code) r.node
  live_end_touches fits found live = record {
    libraries = ([], sym (append-nil w.libraries));
    nodes = (data_nodes p.outputs, refl);
    new = creates (length w.nodes + 1) r.node p.outputs;
    links = refl;
    added = creates_adds w.nodes r.node (length w.nodes + 1) p.outputs;
    records = λ q ne le. found_other w r p None code q ne (find_record q w.records) refl;
    carried = λ q h.
        let same : r ≡ q = same_record w r q found h in (
          end_record w r p None code r,
          found_end w r p None code found,
          subst (λ (x : ProcessRecord). Carries x (end_record w r p None code r)) same (carries fits live),
        );
    batches = omega arith;
  }

  pub new_creates : (fits : IsFitting w r) (found : find_record r.node w.records ≡ Some r) (live : has_ended r.state ≡ false)
      → (live_end_touches fits found live).new ≡ creates (length w.nodes + 1) r.node p.outputs
  unfolding live_end_touches
  new_creates fits found live = refl

pub live_ends_accepted : LiveEndsAreAccepted
live_ends_accepted w r p code c found calculates live over a places = end_accepted w r p code c found calculates live over a places

pub live_ends_touch : LiveEndsTouch
live_ends_touch w r p code s found live =
    subst (λ (v : World). Touches w v r.node) (sym (applied_ends w r p None code))
    (live_end_touches w r p code (found_holds (IsFitting w) r.node w.records r s.records found) found live)
