-- The trail of a run goes on by a turn and by a rest, in the order of the seed, and ends.
use Rattle.std.proofs.Common.{◌≡◌, inl, inr, ℕ, suc, ◌+◌, ◌<◌, true, Result, Ok, Err, refl, sym, subst, arith}
use Rattle.std.specs.Prelude.{IsErrAnd}
use Rattle.wc_io.specs.declared.pacer.Pacer as pacer
use Rattle.wc_journal.specs.declared.journal.Journal.{Journal}
use Rattle.wc_state.specs.declared.record.Limits.{Limits}
use Rattle.wc_transport.specs.declared.transport.Transport as transport
use Rattle.wc_world.specs.World.{World}
use Rattle.wc_core.specs.Order.{IsChosen}
use Rattle.wc_core.specs.Ready.{is_ready_at}
use Rattle.wc_core.specs.declared.next.Next.TheVariants.{Turn}
use Rattle.wc_core.specs.declared.order.Order.{Order}
use Rattle.wc_runner.specs.Asked.{AsksOnce, IsAsked, WhatItNeeds}
use Rattle.wc_runner.specs.Orders.{IsSeeded, Went}
use Rattle.wc_runner.specs.Outside.{in_turn}
use Rattle.wc_runner.specs.Refusals.{RefusesStep}
use Rattle.wc_runner.specs.Trails.{Goes, RestStep, Says, TurnStep, starts, and_turn, and_rest}
use Rattle.wc_runner.specs.declared.error.RunError.{RunError}
use Rattle.wc_runner.specs.declared.error.RunError.TheVariants.{OutOfMemory}
use Rattle.wc_runner.specs.declared.runs.RunEnd.TheVariants.{AllEnded, Spent, Resting}
use Rattle.wc_runner.proofs.Journals.{step_by}

-- what holds of a refusal for want of memory holds of a result that is one alone
pub memory_alone : {A : Type 0} (r : Result A RunError) (P : Result A RunError → Type 0) → IsErrAnd r (λ e. e ≡ OutOfMemory) → P (Err OutOfMemory) → P r
memory_alone (Ok a) P is h = absurd is
memory_alone (Err e) P is h = subst (λ (x : RunError). P (Err x)) (sym is) h

pub ended_not_spent : AllEnded ≡ Spent → ⊥
ended_not_spent is = cc

pub resting_not_spent : Resting ≡ Spent → ⊥
resting_not_spent is = cc

module _ {T P : Type 0} (h : transport.Ghosts T) (k : pacer.Ghosts P) (limits : Limits) (a : T) (p : P) (w : World) where
  abbrev pub goes_none : Goes h k limits 0 a p w a p w
  goes_none = record { count = 0; rests = 0; all_of_them = omega arith; trail = starts }

  module _ (all : ℕ) (b : T) (q : P) (v : World) (goes : Goes h k limits all a p w b q v) where
    -- the order that the trail left, from that of a seed
    abbrev pub Seeded : (seed : ℕ) → Order → Type 0
    Seeded seed last = IsSeeded h k limits a p w seed goes.count goes.rests b q v goes.trail last

    abbrev pub goes_turn : (c : T) (r : P) (u : World) → TurnStep h k limits b c q r v u → Goes h k limits (all + 1) a p w c r u
    goes_turn c r u step = record {
      count = suc goes.count;
      rests = goes.rests;
      all_of_them = omega (arith, goes.all_of_them);
      trail = and_turn goes.count goes.rests b c q r v u goes.trail step;
    }

    abbrev pub goes_rest : (r : P) → RestStep k q r v → Goes h k limits (all + 1) a p w b r v
    goes_rest r step = record {
      count = goes.count;
      rests = suc goes.rests;
      all_of_them = omega (arith, goes.all_of_them);
      trail = and_rest goes.count goes.rests b q r v goes.trail step;
    }

    pub seeded_turn : (c : T) (r : P) (u : World) (step : TurnStep h k limits b c q r v u) (seed : ℕ) (mid last : Order) → Seeded seed mid
        → IsChosen v step.now mid last (Turn step.pid)
        → IsSeeded h k limits a p w seed (suc goes.count) goes.rests c r u (and_turn goes.count goes.rests b c q r v u goes.trail step) last
    seeded_turn c r u step seed mid last seeded chosen = (seeded.0, seeded.1, (mid, seeded.2, chosen))

    -- memory ran out before the transport was asked
    pub went_unasked : (seed most now : ℕ) (last : Order) (journal : Journal) (r : P) → all < most → Says k now q r → Seeded seed last
        → Went h k limits a p w seed most (Err OutOfMemory) journal b r v
    went_unasked seed most now last journal r less says seeded = (
      record { all = all; fewer = less; before = b; clock = q; goes = goes; now = now; says = says; last = inl (refl, refl) },
      (last, seeded, tt),
    )

    -- a turn was refused, by a journal that ends at the same place as the one that is left
    pub went_to_refusal : (seed most now pid : ℕ) (last after : Order) (old journal : Journal) (c : T) (r : P) (u : World) (e : RunError) → all < most → Says k now q r
        → is_ready_at v pid now ≡ true → u ≡ v → journal.end ≡ old.end → journal.version ≡ old.version → RefusesStep (in_turn h limits now b c) old v pid e
        → WhatItNeeds v pid (AsksOnce {A = Unit {0}} (Err e) h.asked b c) → WhatItNeeds v pid (λ n. IsAsked h pid n b c)
        → Seeded seed last → IsChosen v now last after (Turn pid)
        → Went h k limits a p w seed most (Err e) journal c r u
    went_to_refusal seed most now pid last after old journal c r u e less says ready same end version refused asks stays seeded chosen =
        subst (Went h k limits a p w seed most (Err e) journal c r) (sym same) (
          record {
            all = all;
            fewer = less;
            before = b;
            clock = q;
            goes = goes;
            now = now;
            says = says;
            last = inr (record {
              pid = pid;
              ready = ready;
              refused = step_by (in_turn h limits now b c) old journal v pid e end version refused;
              asks = asks;
              stays = stays;
            });
          },
          (last, seeded, (after, chosen)),
        )
