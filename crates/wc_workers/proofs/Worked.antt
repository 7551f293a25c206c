-- What steps of workers and rests come to.
use Rattle.std.proofs.Common.{◌≡◌, inl, inr, ⊎_elim, ℕ, suc, ◌+◌, ◌≤◌, true, List, [], ◌∷◌, ◌++◌, None, Result, Ok, refl, sym, ap, subst, ◌∙◌, arith}
use Rattle.std.specs.List.{AllByRecursion}
use Rattle.wc_io.specs.Counts.{Rises, RisesByOne}
use Rattle.wc_io.specs.declared.pacer.Pacer as pacer
use Rattle.wc_state.specs.declared.record.Limits.{Limits}
use Rattle.wc_transport.specs.Outside.{IsRow, WhereTold}
use Rattle.wc_transport.specs.declared.transport.Transport as transport
use Rattle.wc_world.specs.World.{World}
use Rattle.wc_world.specs.Accepted.{IsReached}
use Rattle.wc_machine.specs.declared.answer.TaskAnswer.{TaskAnswer}
use Rattle.wc_machine.specs.Questions.{need}
use Rattle.wc_pool.specs.Fits.{FitsNeed, FitsWorld}
use Rattle.wc_pool.specs.Laws.{TurnsLeaveOthers}
use Rattle.wc_pool.specs.Pools.{IsNew, is_current, lease_in, seat_at, why_given}
use Rattle.wc_pool.specs.declared.pool.Lease.{Lease}
use Rattle.wc_pool.specs.declared.pool.Pool.{Pool}
use Rattle.wc_pool.specs.declared.pool.Seat.TheVariants.{Answered, Free}
use Rattle.wc_pool.specs.declared.pool.Worker.{Worker}
use Rattle.wc_pool.proofs.Seated.{new_fits}
use Rattle.wc_runner.specs.Asked.{AsksOnce, IsAsked, IsAskedFor}
use Rattle.wc_runner.specs.Outside.{Answers, Outside, in_run, in_turn}
use Rattle.wc_runner.specs.Runs.{RisesBy, TakesTurns}
use Rattle.wc_runner.specs.Trails.{RestStep, Says}
use Rattle.wc_runner.specs.Trips.{OneTurn, RestsAt, Turns, none, one_more, one_rest}
use Rattle.wc_runner.specs.declared.error.RunError.{RunError}
use Rattle.wc_runner.proofs.Known.{later_both}
use Rattle.wc_runner.proofs.ManyTurns.{turns_counted}
use Rattle.wc_runner.proofs.Taken.{asked_none, asked_on, asked_up_to, rises_by_more, rises_by_none, risen_since, what_it_needs}
use Rattle.wc_runner.proofs.Widened.{Widens, turns_widened}
use Rattle.wc_workers.specs.Laws.{NewWorkersTakeTurns, WorkersTakeTurns, WorksAreLogs}
use Rattle.wc_workers.specs.Logs.{HoldsNone, IsIn, Move, asks, begins, commits, moves_of, stepped}
use Rattle.wc_workers.specs.Orders.{worker_of}
use Rattle.wc_workers.specs.Steps.{AsksFor, CommitsTurn, StepOf}
use Rattle.wc_workers.specs.Works.{IsNextTurn, Works, and_rest, and_step, starts}
use Rattle.wc_workers.specs.declared.steps.Done.{Done}
use Rattle.wc_workers.specs.declared.steps.Done.TheVariants.{Took, Idle, Asked, Gave, Committed}
use Rattle.wc_workers.proofs.Given.{Tells, answers_told, turn_of_given}
use Rattle.wc_workers.proofs.Held.{held_fits, valid_is_current}
use Rattle.wc_workers.proofs.Logged.{Got, Kept, kept_first, step_keeps}

-- ---- counts of all

-- a count that rose by one more, and by as many as those in all
one_more_told : (n all old mid new : ℕ) → all ≡ suc n → RisesBy n old mid → RisesByOne mid new → RisesBy all old new
one_more_told n all old mid new same first one = subst (λ (x : ℕ). RisesBy x old new) (sym same) (rises_by_more n old mid new first one)

module _ {T P : Type 0} (h : transport.Ghosts T) (k : pacer.Ghosts P) (limits : Limits) (workers seed : ℕ) (a : T) (c : P) (p : Pool) (w : World) where
  -- What is counted of so many steps and rests, whoever held answers before.
  pub record Counted (n m : ℕ) (b : T) (d : P) : Type 0 where
    pub asked : IsAskedFor h n a b
    pub rested : RisesBy m (k.rests c) (k.rests d)
    pub told : RisesBy (n + m) (k.told c) (k.told d)

  -- a step asks the transport at most once
  step_asks : (n worker now : ℕ) (b b_new : T) (q r : Pool) (v u : World) (done : Done) → IsAskedFor h n a b → StepOf h limits worker now b b_new q r v u done
      → IsAskedFor h (suc n) a b_new
  step_asks n worker now b b_new q r v u (Took pid) before s = subst (IsAskedFor h (suc n) a) (sym s.1) (asked_up_to h n (suc n) a b (omega arith) before)
  step_asks n worker now b b_new q r v u Idle before s = subst (IsAskedFor h (suc n) a) (sym s.1) (asked_up_to h n (suc n) a b (omega arith) before)
  step_asks n worker now b b_new q r v u (Gave pid why) before s = subst (IsAskedFor h (suc n) a) (sym s.1) (asked_up_to h n (suc n) a b (omega arith) before)
  step_asks n worker now b b_new q r v u (Committed pid) before s = subst (IsAskedFor h (suc n) a) (sym s.1) (asked_up_to h n (suc n) a b (omega arith) before)
  step_asks n worker now b b_new q r v u (Asked pid) before s =
      let x : AsksFor h limits worker now b b_new q r v pid = s.0 in
      let f : FitsNeed v pid x.answer = x.fitting in
      let done : Result (Unit {0}) RunError = Ok tt in
      let stays : IsAsked h pid (need v f.process) b b_new = what_it_needs v pid (λ y. IsAsked h pid y b b_new) f.process f.found x.stays in
      let once : AsksOnce done h.asked b b_new (need v f.process) = what_it_needs v pid (AsksOnce done h.asked b b_new) f.process f.found x.asks in
      asked_on h done pid n (need v f.process) a b b_new before stays once

  pub counted_all : (n m : ℕ) (log : List (Move T)) (b : T) (d : P) (q : Pool) (v : World) → Works h k limits workers seed a c p w n m log b d q v → Counted n m b d
  counted_all n m log b d q v starts = record { asked = asked_none h a; rested = rises_by_none (k.rests c); told = rises_by_none (k.told c) }
  counted_all n m log b d q v (and_step i j l x y o u works now done x_new y_new r t says busy does) =
      let before : Counted i j x y = counted_all i j l x y o u works in
      record {
        asked = step_asks i (worker_of workers seed i) now x x_new o r u t done before.asked does;
        rested = subst (RisesBy j (k.rests c)) (sym says.rests) before.rested;
        told = one_more_told (i + j) (suc i + j) (k.told c) (k.told y) (k.told y_new) (omega arith) before.told says.told;
      }
  counted_all n m log b d q v (and_rest i j l x y y_new o u works bare step) =
      let before : Counted i j x y = counted_all i j l x y o u works in
      let mid = step.between in
      let told : RisesBy (i + suc j) (k.told c) (k.told mid) = one_more_told (i + j) (i + suc j) (k.told c) (k.told y) (k.told mid) (omega arith) before.told step.says.told in
      let so_far : RisesBy j (k.rests c) (k.rests mid) = subst (RisesBy j (k.rests c)) (sym step.says.rests) before.rested in
      record {
        asked = before.asked;
        rested = rises_by_more j (k.rests c) (k.rests mid) (k.rests y_new) so_far step.rests.rests;
        told = subst (RisesBy (i + suc j) (k.told c)) (sym step.rests.told) told;
      }

  -- ---- turns

  -- what is known of an ask: the table was as at first, and its failure is counted since
  abbrev IsSeen : T → Move T → Type 0
  IsSeen b (asks worker l x moment old new) = (h.table old ≡ h.table a) × (h.faults a ≤ h.faults old) × (h.faults new ≤ h.faults b)
  IsSeen b (commits worker l x now) = Unit {0}

  seen_on : (b b_new : T) → h.faults b ≤ h.faults b_new → (log : List (Move T)) → AllByRecursion (IsSeen b) log → AllByRecursion (IsSeen b_new) log
  seen_on b b_new le [] s = tt
  seen_on b b_new le (asks worker l x moment old new ∷ log) s = ((s.0.0, s.0.1, omega (arith, s.0.2, le)), seen_on b b_new le log s.1)
  seen_on b b_new le (commits worker l x now ∷ log) s = (tt, seen_on b b_new le log s.1)

  seen_in : (b : T) (m : Move T) (log : List (Move T)) → IsIn m log → AllByRecursion (IsSeen b) log → IsSeen b m
  seen_in b m [] is s = absurd is
  seen_in b m (x ∷ log) (inl same) s = subst (IsSeen b) (sym same) s.0
  seen_in b m (x ∷ log) (inr later) s = seen_in b m log later s.1

  -- an answer that was seen is one of the run
  seen_tells : (now : ℕ) (old new b : T) (d : P) → (h.table old ≡ h.table a) × (h.faults a ≤ h.faults old) × (h.faults new ≤ h.faults b)
      → Tells (in_turn h limits now old new) (in_run h k limits a b d)
  seen_tells now old new b d s = record {
    gave = λ dir t q reply given. (new, given.gave);
    brings = λ q result row. subst (WhereTold (IsRow q result)) s.0 row;
    failed = λ rises. on (h.faults a) (h.faults old) (h.faults new) (h.faults b) s.1 s.2 rises;
  }
    where
      on : (first old new last : ℕ) → first ≤ old → new ≤ last → RisesByOne old new → Rises first last
      on first old new last le more rises =
          let r : Rises first new = risen_since first old new le rises in
          record { later = omega (arith, r.later, more); risen = λ less. omega (arith, r.risen less, more) }

  module _ (law : TurnsLeaveOthers) where
    -- What the steps and rests come to where no worker held an answer: commits and rests are turns and rests of a run, and each answer that is held was
    -- seen.
    pub record Came (n m : ℕ) (log : List (Move T)) (b : T) (d : P) (q : Pool) (v : World) : Type 0 where
      pub kept : Kept h limits law w log q v
      pub seen : AllByRecursion (IsSeen b) log
      pub count : ℕ
      pub few : count ≤ n
      pub taken : Turns (in_run h k limits a b d) count m w v

    -- the answer that a worker has under a lease that isn't given up is one of the run
    pub held_answer : (n m : ℕ) (log : List (Move T)) (b : T) (d : P) (q : Pool) (v : World) → Came n m log b d q v → (worker now : ℕ) (l : Lease) (x : TaskAnswer)
        → seat_at q worker ≡ Answered l x → why_given q v l now ≡ None → Answers (in_run h k limits a b d) v l.pid x
    held_answer n m log b d q v came worker now l x had valid =
        let mine : Got h limits law w log q v worker l x = came.kept.got worker l x had in
        let last : is_current q l ≡ true = valid_is_current q v worker l now came.kept.fits (ap lease_in had) valid in
        answers_told (in_turn h limits mine.moment mine.old mine.new) (in_run h k limits a b d)
        (seen_tells mine.moment mine.old mine.new b d (seen_in b (asks worker l x mine.moment mine.old mine.new) log mine.asked came.seen)) v l.pid x (mine.answered last)

    -- turns that are seen later, of a world that is the same
    turns_on : (count m : ℕ) (b b_new : T) (d d_new : P) (v u : World) → ((moment : ℕ) → k.said d moment → k.said d_new moment) → h.faults b ≤ h.faults b_new → u ≡ v
        → Turns (in_run h k limits a b d) count m w v → Turns (in_run h k limits a b_new d_new) count m w u
    turns_on count m b b_new d d_new v u keeps le same ts =
        subst (Turns (in_run h k limits a b_new d_new) count m w) (sym same)
        (turns_widened (in_run h k limits a b d) (in_run h k limits a b_new d_new) (later_both h k limits a b b_new d d_new keeps le) count m w v ts)

    still : (b b_new : T) → b_new ≡ b → h.faults b ≤ h.faults b_new
    still b b_new same = let e : h.faults b_new ≡ h.faults b = ap h.faults same in omega arith

    one_step : (n m : ℕ) (log : List (Move T)) (b : T) (d : P) (q : Pool) (v : World) → Came n m log b d q v → Counted n m b d
        → (now : ℕ) (done : Done) (b_new : T) (d_new : P) (r : Pool) (u : World) → Says k now d d_new
        → (s : StepOf h limits (worker_of workers seed n) now b b_new q r v u done)
        → Came (suc n) m (moves_of h limits (worker_of workers seed n) now b b_new q r v u done s ++ log) b_new d_new r u
    one_step n m log b d q v came count now (Took pid) b_new d_new r u says s = record {
      kept = step_keeps h limits law w log (worker_of workers seed n) now b b_new q r v u (Took pid) s came.kept;
      seen = seen_on b b_new (still b b_new s.1) log came.seen;
      count = came.count;
      few = omega (arith, came.few);
      taken = turns_on came.count m b b_new d d_new v u says.keeps (still b b_new s.1) s.2 came.taken;
    }
    one_step n m log b d q v came count now Idle b_new d_new r u says s = record {
      kept = step_keeps h limits law w log (worker_of workers seed n) now b b_new q r v u Idle s came.kept;
      seen = seen_on b b_new (still b b_new s.1) log came.seen;
      count = came.count;
      few = omega (arith, came.few);
      taken = turns_on came.count m b b_new d d_new v u says.keeps (still b b_new s.1) s.2 came.taken;
    }
    one_step n m log b d q v came count now (Gave pid why) b_new d_new r u says s = record {
      kept = step_keeps h limits law w log (worker_of workers seed n) now b b_new q r v u (Gave pid why) s came.kept;
      seen = seen_on b b_new (still b b_new s.1) log came.seen;
      count = came.count;
      few = omega (arith, came.few);
      taken = turns_on came.count m b b_new d d_new v u says.keeps (still b b_new s.1) s.2 came.taken;
    }
    one_step n m log b d q v came count now (Asked pid) b_new d_new r u says s =
        let x : AsksFor h limits (worker_of workers seed n) now b b_new q r v pid = s.0 in
        let f : FitsNeed v pid x.answer = x.fitting in
        let stays : IsAsked h pid (need v f.process) b b_new = what_it_needs v pid (λ y. IsAsked h pid y b b_new) f.process f.found x.stays in
        let le : h.faults b ≤ h.faults b_new = ⊎_elim (λ same. omega (arith, same)) (λ (rises : RisesByOne (h.faults b) (h.faults b_new)). rises.later) stays.faults in
        record {
          kept = step_keeps h limits law w log (worker_of workers seed n) now b b_new q r v u (Asked pid) s came.kept;
          seen = ((count.asked.table, count.asked.faults, omega arith), seen_on b b_new le log came.seen);
          count = came.count;
          few = omega (arith, came.few);
          taken = turns_on came.count m b b_new d d_new v u says.keeps le s.1 came.taken;
        }
    one_step n m log b d q v came count now (Committed pid) b_new d_new r u says s =
        let x : CommitsTurn limits (worker_of workers seed n) now q r v u pid = s.0 in
        let o : Outside = in_run h k limits a b_new d_new in
        let answers : Answers (in_run h k limits a b d) v pid x.answer
        = subst (λ (i : ℕ). Answers (in_run h k limits a b d) v i x.answer) x.its (held_answer n m log b d q v came (worker_of workers seed n) now x.lease x.answer x.had x.valid) in
        let wide = later_both h k limits a b b_new d d_new says.keeps (still b b_new s.1) in
        let one : OneTurn o v u = (
          pid,
          record {
            changes = x.changes;
            turn = record {
              moment = now;
              said = says.said;
              answer = x.answer;
              answered = answers_told (in_run h k limits a b d) o (record { gave = wide.gave; brings = wide.brings; failed = wide.failed }) v pid x.answer answers;
              leads = x.leads;
            };
            accepted = x.accepted;
            after = x.after;
          },
        ) in
        record {
          kept = step_keeps h limits law w log (worker_of workers seed n) now b b_new q r v u (Committed pid) s came.kept;
          seen = (tt, seen_on b b_new (still b b_new s.1) log came.seen);
          count = suc came.count;
          few = omega (arith, came.few);
          taken = one_more came.count m w v u (turns_on came.count m b b_new d d_new v v says.keeps (still b b_new s.1) refl came.taken) one;
        }

    one_rest_more : (n m : ℕ) (log : List (Move T)) (b : T) (d d_new : P) (q : Pool) (v : World) → Came n m log b d q v → RestStep k d d_new v → Came n (suc m) log b d_new q v
    one_rest_more n m log b d d_new q v came step =
        let keeps : (moment : ℕ) → k.said d moment → k.said d_new moment = λ moment told. step.rests.keeps moment (step.says.keeps moment told) in
        let here : RestsAt (in_run h k limits a b d_new) v = record {
          moment = step.now;
          said = step.rests.keeps step.now step.says.said;
          none = step.none;
          until = step.until;
          later = step.later;
          least = step.least;
        } in
        record {
          kept = came.kept;
          seen = came.seen;
          count = came.count;
          few = came.few;
          taken = one_rest came.count m w v (turns_on came.count m b b d d_new v v keeps (omega arith) refl came.taken) here;
        }

    pub came_to : IsReached w → FitsWorld p w → HoldsNone p → (n m : ℕ) (log : List (Move T)) (b : T) (d : P) (q : Pool) (v : World)
        → Works h k limits workers seed a c p w n m log b d q v → Came n m log b d q v
    came_to reached fits holds n m log b d q v starts = record { kept = kept_first h limits law w p reached fits holds; seen = tt; count = 0; few = omega arith; taken = none w }
    came_to reached fits holds n m log b d q v (and_step i j l x y o u works now done x_new y_new r t says busy does) =
        one_step i j l x y o u (came_to reached fits holds i j l x y o u works) (counted_all i j l x y o u works) now done x_new y_new r t says does
    came_to reached fits holds n m log b d q v (and_rest i j l x y y_new o u works bare step) =
        one_rest_more i j l x y y_new o u (came_to reached fits holds i j l x y o u works) step

-- ---- laws

pub works_are_logs : {T P : Type 0} (h : transport.Ghosts T) (k : pacer.Ghosts P) (limits : Limits) → WorksAreLogs h k limits
works_are_logs h k limits workers seed a c p w n m log b d q v starts = begins
works_are_logs h k limits workers seed a c p w n m log b d q v (and_step i j l x y o u works now done x_new y_new r t says busy does) =
    stepped l (worker_of workers seed i) now done x x_new o r u t (works_are_logs h k limits workers seed a c p w i j l x y o u works) does
works_are_logs h k limits workers seed a c p w n m log b d q v (and_rest i j l x y y_new o u works bare step) =
    works_are_logs h k limits workers seed a c p w i j l x y o u works

pub workers_take_turns : {T P : Type 0} (h : transport.Ghosts T) (k : pacer.Ghosts P) (limits : Limits) → TurnsLeaveOthers → WorkersTakeTurns h k limits
workers_take_turns {T} {P} h k limits law workers seed most a b c d p w v before journal reached fits holds l = ⊎_elim at_end after_it l.is
  where
    o : Outside
    o = in_run h k limits a b d

    came : Came h k limits workers seed a c p w law l.goes.steps l.goes.rests l.goes.log l.left l.clock l.pool l.there
    came = came_to h k limits workers seed a c p w law reached fits holds l.goes.steps l.goes.rests l.goes.log l.left l.clock l.pool l.there l.goes.works

    wide : Widens (in_run h k limits a l.left l.clock) o
    wide = later_both h k limits a l.left b l.clock d l.said l.faults

    turns : Turns o came.count l.goes.rests w l.there
    turns = turns_widened (in_run h k limits a l.left l.clock) o wide came.count l.goes.rests w l.there came.taken

    at_end : v ≡ l.there → TakesTurns o most w v
    at_end same = subst (TakesTurns o most w) (sym same) (record {
      count = came.count;
      rests = l.goes.rests;
      few = omega (arith, came.few, l.goes.all_of_them, l.few);
      turns = turns;
      batches = turns_counted o came.count l.goes.rests w l.there turns;
    })

    after_it : IsNextTurn h k limits workers seed most l.all l.goes.steps l.pool l.there d v journal → TakesTurns o most w v
    after_it next =
        let t = next.turn in
        let worker : ℕ = worker_of workers seed l.goes.steps in
        let answer : Answers (in_run h k limits a l.left l.clock) l.there t.lease.pid t.answer
        = held_answer h k limits workers seed a c p w law l.goes.steps l.goes.rests l.goes.log l.left l.clock l.pool l.there came worker next.now t.lease t.answer t.had t.valid in
        let one : OneTurn o l.there v = (
          t.lease.pid,
          turn_of_given limits next.now l.there t.lease.pid t.answer o
              (held_fits l.pool l.there worker t.lease t.answer next.now came.kept.fits t.had t.valid)
              (answers_told (in_run h k limits a l.left l.clock) o (record { gave = wide.gave; brings = wide.brings; failed = wide.failed }) l.there t.lease.pid t.answer answer)
              next.said refl v t.turn.turn,
        ) in
        let more : Turns o (suc came.count) l.goes.rests w v = one_more came.count l.goes.rests w l.there v turns one in
        record {
          count = suc came.count;
          rests = l.goes.rests;
          few = omega (arith, came.few, l.goes.all_of_them, next.fewer);
          turns = more;
          batches = turns_counted o (suc came.count) l.goes.rests w v more;
        }

-- ---- new pools

pub new_holds_none : (n : ℕ) (p : Pool) → IsNew n p → HoldsNone p
new_holds_none n p new k l x h = let e : Free ≡ Answered l x = ap (λ (y : Worker). y.seat) (sym (new.idle k)) ∙ h in absurd (cc)

pub new_workers_take_turns : {T P : Type 0} (h : transport.Ghosts T) (k : pacer.Ghosts P) (limits : Limits) → TurnsLeaveOthers → NewWorkersTakeTurns h k limits
new_workers_take_turns h k limits law workers seed most a b c d w v before journal reached (inl same) =
    subst (TakesTurns (in_run h k limits a b d) most w) (sym same.0) (record { count = 0; rests = 0; few = omega arith; turns = none w; batches = omega arith })
new_workers_take_turns h k limits law workers seed most a b c d w v before journal reached (inr led) =
    workers_take_turns h k limits law workers seed most a b c d led.0 w v before journal reached (new_fits workers led.0 led.1 w) (new_holds_none workers led.0 led.1) led.2
