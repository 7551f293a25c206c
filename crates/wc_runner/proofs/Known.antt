-- What is known in a run grows.
use Rattle.std.proofs.Common.{◌≡◌, ℕ, ◌≤◌, refl, sym, subst}
use Rattle.wc_io.specs.declared.pacer.Pacer as pacer
use Rattle.wc_state.specs.declared.record.Limits.{Limits}
use Rattle.wc_transport.specs.Outside.{IsRow, WhereTold}
use Rattle.wc_transport.specs.declared.transport.Transport as transport
use Rattle.wc_runner.specs.Outside.{in_run, in_turn}
use Rattle.wc_runner.proofs.Taken.{risen_on, risen_since}
use Rattle.wc_runner.proofs.Widened.{Widens}

module _ {T P : Type 0} (h : transport.Ghosts T) (k : pacer.Ghosts P) (limits : Limits) (tr : T) where
  -- after the pacer told a moment, or after a rest
  pub later_moments : (mid : T) (pa new : P) → ((moment : ℕ) → k.said pa moment → k.said new moment)
      → Widens (in_run h k limits tr mid pa) (in_run h k limits tr mid new)
  later_moments mid pa new keeps = record {
    said = keeps;
    gave = λ dir t q reply given. given;
    brings = λ q result row. row;
    failed = λ rises. rises;
    limits = refl;
  }

  -- after the transport was asked
  pub later_calls : (mid new : T) (pa : P) → h.faults mid ≤ h.faults new → Widens (in_run h k limits tr mid pa) (in_run h k limits tr new pa)
  later_calls mid new pa le = record {
    said = λ moment said. said;
    gave = λ dir t q reply given. given;
    brings = λ q result row. row;
    failed = λ rises. risen_on (h.faults tr) (h.faults mid) (h.faults new) rises le;
    limits = refl;
  }

  -- after both
  pub later_both : (mid new : T) (pa pa_new : P) → ((moment : ℕ) → k.said pa moment → k.said pa_new moment) → h.faults mid ≤ h.faults new
      → Widens (in_run h k limits tr mid pa) (in_run h k limits tr new pa_new)
  later_both mid new pa pa_new keeps le = record {
    said = keeps;
    gave = λ dir t q reply given. given;
    brings = λ q result row. row;
    failed = λ rises. risen_on (h.faults tr) (h.faults mid) (h.faults new) rises le;
    limits = refl;
  }

  -- of one of its turns
  pub of_turn : (mid new : T) (pa : P) (now : ℕ) → k.said pa now → h.table mid ≡ h.table tr → h.faults tr ≤ h.faults mid
      → Widens (in_turn h limits now mid new) (in_run h k limits tr new pa)
  of_turn mid new pa now said table le = record {
    said = λ moment same. subst (k.said pa) (sym same) said;
    gave = λ dir t q reply given. (new, given.gave);
    brings = λ q result row. subst (WhereTold (IsRow q result)) table row;
    failed = λ rises. risen_since (h.faults tr) (h.faults mid) (h.faults new) le rises;
    limits = refl;
  }
