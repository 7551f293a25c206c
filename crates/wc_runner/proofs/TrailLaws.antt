-- What the trail of a run comes to.
use Rattle.std.proofs.Common.{◌≡◌, ⊎_elim, ℕ, suc, ◌+◌, ◌≤◌, Result, Ok, sym, subst, arith}
use Rattle.wc_io.specs.Counts.{RisesByOne}
use Rattle.wc_io.specs.declared.pacer.Pacer as pacer
use Rattle.wc_state.specs.declared.record.Limits.{Limits}
use Rattle.wc_transport.specs.declared.transport.Transport as transport
use Rattle.wc_world.specs.World.{World}
use Rattle.wc_machine.specs.Questions.{need}
use Rattle.wc_machine.specs.Machine.{turn}
use Rattle.wc_runner.specs.Asked.{AsksOnce, IsAsked}
use Rattle.wc_runner.specs.Laws.{ComesTo}
use Rattle.wc_runner.specs.Outside.{Outside, in_run, in_turn}
use Rattle.wc_runner.specs.Runs.{RisesBy}
use Rattle.wc_runner.specs.Trails.{RestStep, Trail, TurnStep, starts, and_turn, and_rest}
use Rattle.wc_runner.specs.Trips.{RestsAt, none, one_more, one_rest}
use Rattle.wc_runner.specs.declared.error.RunError.{RunError}
use Rattle.wc_runner.proofs.Sets.{gives_turn}
use Rattle.wc_runner.proofs.Taken.{asked_none, asked_on, rises_by_more, rises_by_none, what_it_needs}
use Rattle.wc_runner.proofs.Known.{later_calls, later_moments, of_turn}
use Rattle.wc_runner.proofs.Widened.{Widens, turn_of_widened, turns_widened}

-- a count that rose by one more, and by as many as those in all
one_more_told : (n all old mid new : ℕ) → all ≡ suc n → RisesBy n old mid → RisesByOne mid new → RisesBy all old new
one_more_told n all old mid new same first one = subst (λ (x : ℕ). RisesBy x old new) (sym same) (rises_by_more n old mid new first one)

module _ {T P : Type 0} (h : transport.Ghosts T) (k : pacer.Ghosts P) (limits : Limits) (a : T) (p : P) (w : World) where
  abbrev known : T → P → Outside
  known b q = in_run h k limits a b q

  -- one turn more
  turn_more : (n m : ℕ) (b c : T) (q r : P) (v u : World) → ComesTo h k limits n m a p w b q v → TurnStep h k limits b c q r v u → ComesTo h k limits (suc n) m a p w c r u
  turn_more n m b c q r v u s step =
      let t = step.turn.turn in
      let gives = gives_turn limits.poll_ms v (turn step.pid t.answer t.moment) step.turn.changes t.leads in
      let stays : IsAsked h step.pid (need v gives.0) b c = what_it_needs v step.pid (λ x. IsAsked h step.pid x b c) gives.0 gives.1 step.stays in
      let done : Result (Unit {0}) RunError = Ok tt in
      let asks : AsksOnce done h.asked b c (need v gives.0) = what_it_needs v step.pid (AsksOnce done h.asked b c) gives.0 gives.1 step.asks in
      let not_fallen : h.faults b ≤ h.faults c = ⊎_elim (λ same. omega (arith, same)) (λ (rises : RisesByOne (h.faults b) (h.faults c)). rises.later) stays.faults in
      let turned : Widens (in_turn h limits step.now b c) (known c r) = of_turn h k limits a b c r step.now step.says.said s.asked.table s.asked.faults in
      record {
        taken = one_more n m w v u
            (turns_widened (known c q) (known c r) (later_moments h k limits a c q r step.says.keeps) n m w v
            (turns_widened (known b q) (known c q) (later_calls h k limits a b c q not_fallen) n m w v s.taken))
            (step.pid, turn_of_widened (in_turn h limits step.now b c) (known c r) turned step.pid v u step.turn);
        asked = asked_on h done step.pid n (need v gives.0) a b c s.asked stays asks;
        rested = subst (RisesBy m (k.rests p)) (sym step.says.rests) s.rested;
        told = one_more_told (n + m) (suc n + m) (k.told p) (k.told q) (k.told r) (omega arith) s.told step.says.told;
      }

  -- one rest more
  rest_more : (n m : ℕ) (b : T) (q r : P) (v : World) → ComesTo h k limits n m a p w b q v → RestStep k q r v → ComesTo h k limits n (suc m) a p w b r v
  rest_more n m b q r v s step =
      let mid = step.between in
      let here : RestsAt (known b r) v = record {
        moment = step.now;
        said = step.rests.keeps step.now step.says.said;
        none = step.none;
        until = step.until;
        later = step.later;
        least = step.least;
      } in
      let said : RisesBy (n + suc m) (k.told p) (k.told mid) = one_more_told (n + m) (n + suc m) (k.told p) (k.told q) (k.told mid) (omega arith) s.told step.says.told in
      let so_far : RisesBy m (k.rests p) (k.rests mid) = subst (RisesBy m (k.rests p)) (sym step.says.rests) s.rested in
      record {
        taken = one_rest n m w v (turns_widened (known b q) (known b r)
            (later_moments h k limits a b q r (λ moment told. step.rests.keeps moment (step.says.keeps moment told))) n m w v s.taken) here;
        asked = s.asked;
        rested = rises_by_more m (k.rests p) (k.rests mid) (k.rests r) so_far step.rests.rests;
        told = subst (RisesBy (n + suc m) (k.told p)) (sym step.rests.told) said;
      }

  pub comes_to : (n m : ℕ) (b : T) (q : P) (v : World) → Trail h k limits a p w n m b q v → ComesTo h k limits n m a p w b q v
  comes_to n m b q v starts =
      record { taken = none w; asked = asked_none h a; rested = rises_by_none (k.rests p); told = rises_by_none (k.told p) }
  comes_to n m b q v (and_turn i j c d r s u x t step) = turn_more i j c d r s u x (comes_to i j c r u t) step
  comes_to n m b q v (and_rest i j c r s u t step) = rest_more i j c r s u (comes_to i j c r u t) step
