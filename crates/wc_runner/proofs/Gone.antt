-- What a trail that led from one transport, pacer and world to others comes to, seen from them or from later ones.
use Rattle.std.proofs.Common.{◌≡◌, ◌⊎◌, ℕ, suc, ◌<◌, ◌≤◌, Result, sym, subst, arith}
use Rattle.wc_io.specs.Counts.{Rises}
use Rattle.wc_io.specs.declared.pacer.Pacer as pacer
use Rattle.wc_journal.specs.declared.journal.Journal.{Journal}
use Rattle.wc_state.specs.declared.record.Limits.{Limits}
use Rattle.wc_transport.specs.declared.transport.Transport as transport
use Rattle.wc_world.specs.World.{World}
use Rattle.wc_world.specs.Accepted.{IsReached}
use Rattle.wc_machine.specs.Questions.{Need}
use Rattle.wc_machine.specs.Sound.{IsSound}
use Rattle.wc_runner.specs.Asked.{AsksOnce, IsAsked, IsAskedFor}
use Rattle.wc_runner.specs.Codes.{AreBrought}
use Rattle.wc_runner.specs.Laws.{ComesTo}
use Rattle.wc_runner.specs.Marks.{AreNoWorse}
use Rattle.wc_runner.specs.Outside.{Outside, in_run}
use Rattle.wc_runner.specs.Runs.{FitsIn, RisesBy, TakesAll, TakesWithin}
use Rattle.wc_runner.specs.Trails.{Goes}
use Rattle.wc_runner.specs.Trips.{Turns}
use Rattle.wc_runner.specs.declared.error.RunError.{RunError}
use Rattle.wc_runner.proofs.Codes.{turns_bring}
use Rattle.wc_runner.proofs.Known.{later_both}
use Rattle.wc_runner.proofs.ManyTurns.{turns_counted}
use Rattle.wc_runner.proofs.Marked.{turns_no_worse}
use Rattle.wc_runner.proofs.Taken.{asked_on, asked_up_to}
use Rattle.wc_runner.proofs.TrailLaws.{comes_to}
use Rattle.wc_runner.proofs.Widened.{turns_widened}

module _ {T P : Type 0} (h : transport.Ghosts T) (k : pacer.Ghosts P) (limits : Limits) (a : T) (p : P) (w : World) (all : ℕ) (b : T) (q : P) (v : World)
    (goes : Goes h k limits all a p w b q v) where
  come : ComesTo h k limits goes.count goes.rests a p w b q v
  come = comes_to h k limits a p w goes.count goes.rests b q v goes.trail

  -- ---- seen from a later transport and pacer

  module _ (c : T) (r : P) (keeps : (moment : ℕ) → k.said q moment → k.said r moment) (le : h.faults b ≤ h.faults c) where
    abbrev seen : Outside
    seen = in_run h k limits a c r

    turns : Turns seen goes.count goes.rests w v
    turns = turns_widened (in_run h k limits a b q) seen (later_both h k limits a b c q r keeps le) goes.count goes.rests w v come.taken

    pub taken_all : k.rests r ≡ k.rests q → TakesAll seen all w v (k.rests p) (k.rests r)
    taken_all same = record {
      count = goes.count;
      rests = goes.rests;
      all_of_them = goes.all_of_them;
      turns = turns;
      batches = turns_counted seen goes.count goes.rests w v turns;
      rested = subst (RisesBy goes.rests (k.rests p)) (sym same) come.rested;
    }

    pub taken_within : (most : ℕ) → all ≤ most → (journal : Journal) → (v ≡ w) ⊎ FitsIn limits v journal → TakesWithin seen most w v journal
    taken_within most few journal fits = (
      record {
        count = goes.count;
        rests = goes.rests;
        few = omega (arith, goes.all_of_them, few);
        turns = turns;
        batches = turns_counted seen goes.count goes.rests w v turns;
      },
      fits,
    )

    pub no_worse : (Rises (h.faults a) (h.faults c) → ⊥) → AreNoWorse w v
    no_worse ok = turns_no_worse seen ok goes.count goes.rests w v turns

    pub brings_codes : IsReached w → IsSound w → AreBrought seen w v
    brings_codes reached sound = turns_bring seen goes.count goes.rests w v reached sound turns

  -- ---- how often the transport was asked

  pub asks : (most : ℕ) → all ≤ most → IsAskedFor h most a b
  asks most few = asked_up_to h goes.count most a b (omega (arith, goes.all_of_them, few)) come.asked

  -- and once more
  pub asks_more : {A : Type 0} (result : Result A RunError) (pid most : ℕ) (n : Need) (c : T) → all < most → IsAsked h pid n b c → AsksOnce result h.asked b c n
      → IsAskedFor h most a c
  asks_more result pid most n c less stays once =
      asked_up_to h (suc goes.count) most a c (omega (arith, goes.all_of_them, less)) (asked_on h result pid goes.count n a b c come.asked stays once)
