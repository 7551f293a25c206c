-- The source of a calculation is one.
use Rattle.std.proofs.Common.{◌≡◌, ℕ, ◌<◌, Bool, true, false, Option, Some, None, inl, inr, refl, sym, ap, ◌∙◌, arith}
use Rattle.std.specs.Prelude.{All}
use Rattle.std.proofs.lemmas.Bool.{cases_order}
use Rattle.wc_state.specs.declared.record.ProcessRecord.{ProcessRecord}
use Rattle.wc_world.specs.World.{World}
use Rattle.wc_world.specs.Records.{find_record}
use Rattle.wc_world.proofs.FoundRecords.{found_holds}
use Rattle.wc_world.proofs.ReachedLists.{found_node}
use Rattle.wc_machine.specs.Ends.{TakesSource}
use Rattle.wc_machine.specs.Sources.{IsSourceFor, IsLowestSource}
use Rattle.wc_turn_laws.specs.TurnLaws.{OneSource}

module _ (w : World) (batch : ℕ) (r : ProcessRecord) where
  -- a source that is found isn't ruled out
  ruled_out : (P : ProcessRecord → Type 0) (q : ProcessRecord) (x : ℕ) → find_record x w.records ≡ Some q → IsSourceFor w batch r q
      → All (λ y. P y → ¬ IsSourceFor w batch r y) w.records → P q → ⊥
  ruled_out P q x found is all p = found_holds (λ y. P y → ¬ IsSourceFor w batch r y) x w.records q all found p is

  none_and_some : IsLowestSource w batch r None → (x : ℕ) → IsLowestSource w batch r (Some x) → ⊥
  none_and_some none x some = found_holds (λ y. ¬ IsSourceFor w batch r y) x w.records some.0.0 none some.0.1 some.0.2

  lowest_is_one : (x y : ℕ) → IsLowestSource w batch r (Some x) → IsLowestSource w batch r (Some y) → x ≡ y
  lowest_is_one x y a b =
      elim (cases_order x y) [
        | inl e ↦ e
        | inr h ↦
            elim h [
              | inl lt ↦
                  let n : a.0.0.node ≡ x = found_node x w.records a.0.0 a.0.1 in
                  absurd (ruled_out (λ q. q.node < y) a.0.0 x a.0.1 a.0.2 b.1 (omega arith))
              | inr lt ↦
                  let n : b.0.0.node ≡ y = found_node y w.records b.0.0 b.0.1 in
                  absurd (ruled_out (λ q. q.node < x) b.0.0 y b.0.1 b.0.2 a.1 (omega arith))
            ]
      ]

  sources_one : (s t : Option ℕ) → IsLowestSource w batch r s → IsLowestSource w batch r t → s ≡ t
  sources_one None None a b = refl
  sources_one None (Some y) a b = absurd (none_and_some a y b)
  sources_one (Some x) None a b = absurd (none_and_some b x a)
  sources_one (Some x) (Some y) a b = ap (λ (n : ℕ). Some n) (lowest_is_one x y a b)

by_caching : (w : World) (r : ProcessRecord) (s t : Option ℕ) → TakesSource w r s → TakesSource w r t → (b : Bool) → r.caching ≡ b → s ≡ t
by_caching w r s t a b true h = sources_one w _ r s t (a.on h) (b.on h)
by_caching w r s t a b false h = a.off h ∙ sym (b.off h)

pub one_source : OneSource
one_source w r s t a b = by_caching w r s t a b r.caching refl
