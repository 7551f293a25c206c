-- The turn of a created calculation, whatever it is.
use Rattle.std.proofs.Common.{◌≡◌, ℕ, ℤ, suc, ◌+◌, true, Option, Some, None, [], ◌∷◌, length, refl, sym, ap, subst, ◌∙◌}
use Rattle.std.proofs.lemmas.List.{length-append}
use Rattle.wc_syntax.specs.declared.definition.Chain.{Chain}
use Rattle.wc_syntax.specs.declared.definition.Definition.{Definition}
use Rattle.wc_syntax.specs.declared.definition.Definition.TheVariants as definition
use Rattle.wc_semantics.specs.declared.outcomes.Parsed.{Parsed}
use Rattle.wc_semantics.specs.Outcomes.{excepted}
use Rattle.wc_semantics.specs.Rules.{Values}
use Rattle.wc_state.specs.declared.record.JobPart.{JobPart}
use Rattle.wc_state.specs.declared.record.Part.TheVariants as part
use Rattle.wc_state.specs.declared.record.ProcessKind.{ProcessKind}
use Rattle.wc_state.specs.declared.record.ProcessKind.TheVariants as kind
use Rattle.wc_state.specs.declared.record.ProcessRecord.{ProcessRecord}
use Rattle.wc_world.specs.World.{World}
use Rattle.wc_world.specs.Applied.{applied}
use Rattle.wc_world.specs.Consistent.{Stands}
use Rattle.wc_world.specs.Fits.{is_of_kind}
use Rattle.wc_world.specs.Records.{is_calculation}
use Rattle.wc_world.proofs.FoundRecords.{found_holds}
use Rattle.wc_machine.specs.Continues.{Continues}
use Rattle.wc_machine.specs.Ends.{ends, come_to}
use Rattle.wc_machine.specs.Laws.{HasPlaces, calculated_for}
use Rattle.wc_machine.specs.Recorded.{its_definition, recorded_inputs}
use Rattle.wc_machine.specs.Sound.{IsSound}
use Rattle.wc_machine.specs.Turns.{calculates, clones, begins, excepts, gives_up, moves, parses, advances, binds}
use Rattle.wc_machine.proofs.AcceptedEnds.{ends_accepted}
use Rattle.wc_machine.proofs.CalculatedOutputs.{calculated_set}
use Rattle.wc_machine.proofs.Endings.{data_nodes, applied_ends}
use Rattle.wc_machine.proofs.FunctionEnds.{calculated_alive, calculated_ends}
use Rattle.wc_turn_laws.specs.CalculationLaws.{MayStart}
use Rattle.wc_soundness.specs.CachingLaws.{TakesOutcome, MayBegin, CreatedTurnsGoWell}
use Rattle.wc_soundness.proofs.Begins.{beginnings_accepted, beginnings_continue, beginnings_keep_sound}
use Rattle.wc_soundness.proofs.Ended.{MayEnd, fresh_part, goes_on}
use Rattle.wc_soundness.proofs.Outputs.{nothing_good}
use Rattle.wc_soundness.proofs.CachingTurns.{clones_accepted, clones_continue, clones_keep_sound, faulting_jobs_keep_sound, function_ends, functions_keep_sound}

-- ---- room

data_count : (os : Values) → length (data_nodes os) ≡ length os
data_count [] = refl
data_count (o ∷ os) = ap (λ (n : ℕ). suc n) (data_count os)

-- room for the nodes of the world after an end is room for its outputs
pub places_of_end : (w : World) (r : ProcessRecord) (p : Parsed) (source : Option ℕ) (code : Option ℤ) → HasPlaces w (length (applied w (ends w r p source code)).nodes)
    → HasPlaces w (length w.nodes + length p.outputs)
places_of_end w r p source code =
    subst (HasPlaces w)
    (ap (λ (v : World). length v.nodes) (applied_ends w r p source code) ∙ length-append w.nodes (data_nodes p.outputs)
    ∙ ap (λ (n : ℕ). length w.nodes + n) (data_count p.outputs))

end_continues : (w : World) (r : ProcessRecord) (p : Parsed) → MayEnd w r p None → Continues w (applied w (ends w r p None None))
end_continues w r p m = subst (Continues w) (sym (applied_ends w r p None None)) (goes_on w r p None None m)

-- ---- what no created calculation does

no_chain : (k : ProcessKind) (o : Option Definition) (c : Chain) → is_calculation k ≡ true → o ≡ Some (definition.Chain c) → is_of_kind k o ≡ true → ⊥
no_chain kind.Function o c is d h = let e : is_of_kind kind.Function (Some (definition.Chain c)) ≡ true = ap (is_of_kind kind.Function) (sym d) ∙ h in cc e
no_chain kind.Job o c is d h = let e : is_of_kind kind.Job (Some (definition.Chain c)) ≡ true = ap (is_of_kind kind.Job) (sym d) ∙ h in cc e
no_chain kind.Chain o c is d h = absurd (cc)

module _ (w : World) (r : ProcessRecord) (h : MayStart w r) (s : IsSound w) where
  stands : Stands w r
  stands = found_holds (Stands w) r.node w.records r s.consistent.records h.found

  no_part : (p : JobPart) → r.part ≡ part.Job p → ⊥
  no_part p is = let fresh : r.part ≡ part.Fresh = fresh_part r.kind r.state r.part h.created stands.part in cc (is, fresh)

  no_outline : (c : Chain) → its_definition w r ≡ Some (definition.Chain c) → ⊥
  no_outline c d = no_chain r.kind (its_definition w r) c h.calculates d stands.defined

-- The changes of the turn of a created calculation in a sound world are accepted where there is room, and so on.
pub created_turns : CreatedTurnsGoWell
created_turns poll now w r a cs h s (calculates f d is takes) =
    let inputs = recorded_inputs w r.node in
    let p = calculated_for w r f in
    record {
      accepted = λ places.
          ends_accepted w r p None None s.consistent h.found h.calculates h.created (calculated_ends f inputs) (calculated_set f inputs) (places_of_end w r p None None places) refl;
      continued = end_continues w r p (function_ends w r p h s takes (calculated_ends f inputs) (calculated_alive f inputs) (calculated_set f inputs));
      sound = functions_keep_sound w r f h s takes d;
    }
created_turns poll now w r a cs h s (clones q is_one is takes there) =
    let t : TakesOutcome w r q = record { starts = h; sound = s; source = takes; there = there } in
    record {
      accepted = λ places. clones_accepted w r q t (places_of_end w r (come_to w q) (Some q.node) None places);
      continued = clones_continue w r q t;
      sound = clones_keep_sound w r q t;
    }
created_turns poll now w r a cs h s (begins j q d is takes asked) =
    let b : MayBegin w r = record { starts = h; sound = s; source = takes; job = j; runs = d; query = q; asked = asked } in
    record {
      accepted = λ places. beginnings_accepted w r b places.batches;
      continued = beginnings_continue w r b;
      sound = beginnings_keep_sound w r b;
    }
created_turns poll now w r a cs h s (excepts j reason d is takes asked) =
    let p = excepted reason [] in
    let m : MayEnd w r p None = function_ends w r p h s takes refl (λ dead. cc dead) nothing_good in
    record {
      accepted = λ places.
          ends_accepted w r p None None s.consistent h.found h.calculates h.created refl nothing_good (places_of_end w r p None None places) refl;
      continued = end_continues w r p m;
      sound = faulting_jobs_keep_sound w r j reason h s takes d asked;
    }
created_turns poll now w r a cs h s (gives_up j p reason d at asked) = absurd (no_part w r h s p at)
created_turns poll now w r a cs h s (moves j p q answer m d at asked goes) = absurd (no_part w r h s p at)
created_turns poll now w r a cs h s (parses j p q result d at asked is) = absurd (no_part w r h s p at)
created_turns poll now w r a cs h s (advances k library c env d l at e) = absurd (no_outline w r h s k d)
created_turns poll now w r a cs h s (binds k c d is at) = absurd (no_outline w r h s k d)
