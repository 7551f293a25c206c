-- A run with enough turns leaves no live process: each turn lowers what is left, each rest ends the wait of a job, and nothing else happens.
use Rattle.std.proofs.Common.{◌≡◌, ℕ, suc, ◌+◌, ◌-◌, ◌≤◌, ◌^◌, List, Option, Some, None, count_by, refl, sym, ap, subst, ◌∙◌, arith}
use Rattle.std.specs.Prelude.{All, IsSome, min}
use Rattle.std.proofs.Math.Nat.{min-eq_left}
use Rattle.std.proofs.lemmas.Bool.{and_parts}
use Rattle.wc_io.specs.Steady.{StaysSteady, rested}
use Rattle.wc_io.specs.declared.pacer.Pacer as pacer
use Rattle.wc_value.specs.declared.process.JobResult.{JobResult}
use Rattle.wc_value.specs.declared.process.Request.{Request}
use Rattle.wc_expression.specs.declared.outcome.Outcome.{Outcome}
use Rattle.wc_expression.specs.declared.outcome.Outcome.TheVariants.{Gives}
use Rattle.wc_semantics.specs.Tables.{plain, row_of}
use Rattle.wc_state.specs.declared.record.JobPart.{JobPart}
use Rattle.wc_state.specs.declared.record.Limits.{Limits}
use Rattle.wc_state.specs.declared.record.Part.{Part}
use Rattle.wc_state.specs.declared.record.Part.TheVariants as part
use Rattle.wc_state.specs.declared.record.ProcessRecord.{ProcessRecord}
use Rattle.wc_records.specs.Readiness.{waits_later}
use Rattle.wc_transport.specs.Obliging.{HasRow}
use Rattle.wc_transport.specs.Outside.{BothTold, IsRow, WhereTold}
use Rattle.wc_transport.specs.declared.transport.Transport as transport
use Rattle.wc_world.specs.declared.change.Change.{Change}
use Rattle.wc_world.specs.Accepted.{IsReached}
use Rattle.wc_world.specs.Applied.{applied, begun}
use Rattle.wc_world.specs.Records.{find_record}
use Rattle.wc_world.specs.World.{World}
use Rattle.wc_world.proofs.ReachedLists.{found_node, unique}
use Rattle.wc_machine.specs.declared.answer.TaskAnswer.{TaskAnswer}
use Rattle.wc_machine.specs.Agreement.{AgreesWithWorld}
use Rattle.wc_machine.specs.Questions.{need}
use Rattle.wc_machine.specs.Machine.{turn}
use Rattle.wc_machine.specs.Recorded.{recorded_request}
use Rattle.wc_machine.specs.Sound.{IsSound}
use Rattle.wc_machine.specs.Turns.{TurnGives}
use Rattle.wc_runner.specs.Asked.{AreOfProcesses, IsAsked, PlacesFor}
use Rattle.wc_runner.specs.Codes.{AreBrought}
use Rattle.wc_runner.specs.Laws.{StaysSound}
use Rattle.wc_runner.specs.Outside.{AnswersNeed, Outside, in_run, in_turn}
use Rattle.wc_runner.specs.Runs.{EndsAs}
use Rattle.wc_runner.specs.Trails.{Completes, RestStep, Trail, TurnStep, starts, and_turn, and_rest}
use Rattle.wc_runner.specs.Trips.{none, one_more}
use Rattle.wc_runner.specs.declared.runs.RunEnd.{RunEnd}
use Rattle.wc_runner.specs.declared.runs.RunEnd.TheVariants.{AllEnded, Spent, Resting}
use Rattle.wc_runner.proofs.Codes.{turns_bring}
use Rattle.wc_runner.proofs.ManyTurns.{turn_sound}
use Rattle.wc_runner.proofs.Placed.{are_still, own_placed}
use Rattle.wc_runner.proofs.Sets.{gives_turn}
use Rattle.wc_runner.proofs.Taken.{what_it_needs}
use Rattle.wc_cost.specs.Left.{IsLeft, JobOwes, PartOwes}
use Rattle.wc_cost.specs.Turns.{IsCalm, LeavesLess}
use Rattle.wc_cost.proofs.OneLowered.{owed_in}
use Rattle.wc_cost.proofs.Owing.{live_owe}
use Rattle.wc_cost.proofs.Told.{left_is_there}
use Rattle.wc_cost.proofs.TurnsLowered.{turns_lower}
use Rattle.wc_ends.specs.Enough.{DirectoriesStand, HasEnough, ProcessStands}
use Rattle.wc_ends.specs.Laws.{EnoughTurnsEnd}
use Rattle.wc_ends.proofs.Agreement.{agrees_on}
use Rattle.wc_ends.proofs.CalmTurns.{turn_sets_no_due}
use Rattle.wc_ends.proofs.Counts.{count_le}
use Rattle.wc_ends.proofs.Directories.{turn_calm, turn_stands}
use Rattle.wc_ends.proofs.HeldUp.{Plays, none_live, not_resting}
use Rattle.wc_ends.proofs.Moments.{changes_late, late, later_late, rest_late}
use Rattle.wc_ends.proofs.NoPauses.{no_worse, plays_on}
use Rattle.wc_ends.proofs.Rows.{row_is, row_stands}

-- ---- what is told

some_moment : (o : Option ℕ) → IsSome o → (n : ℕ) × (o ≡ Some n)
some_moment None h = absurd (cc h)
some_moment (Some n) h = (n, refl)

steady_on : (R : ℕ → ℕ → Type 0) (old new : Option ℕ) (before : ℕ) → old ≡ Some before → StaysSteady R old new → (n : ℕ) × (new ≡ Some n) × R before n
steady_on R None new before is h = absurd (cc is)
steady_on R (Some n) None before is h = absurd h
steady_on R (Some n) (Some m) before is h = let same : n ≡ before = cc in (m, refl, subst (λ (x : ℕ). R x m) same h)

directories_told : (o : Option (ℕ → Option Request)) (finished : ℕ → Type 0) (w : World) → DirectoriesStand o finished w
    → (placed : ℕ → Option Request) × (o ≡ Some placed) × AreOfProcesses (Some placed) w × All (ProcessStands placed finished w) w.records
directories_told None finished w h = absurd h
directories_told (Some placed) finished w h = (placed, refl, h.0, h.1)

both_told : {A : Type 0} (R : A → A → Type 0) (old new : Option A) (x : A) → old ≡ Some x → BothTold R old new → (y : A) × (new ≡ Some y) × R x y
both_told R None new x is h = absurd (cc is)
both_told R (Some a) None x is h = absurd h
both_told {A} R (Some a) (Some b) x is h = let same : a ≡ x = cc in (b, refl, subst (λ (y : A). R y b) same h)

module _ {T P : Type 0} (h : transport.Ghosts T) (k : pacer.Ghosts P) (limits : Limits) (rows : List (Request × JobResult)) (turns : ℕ) where
  abbrev results : Request → Option JobResult
  results q = row_of q rows

  -- What a run with enough turns finds after so many turns and rests: what is left, with the jobs that wait for a moment to come, is no more than
  -- the turns that are left.
  pub record Remains (done : ℕ) (b : T) (q : P) (v : World) : Type 0 where
    pub reached : IsReached v
    pub sound : IsSound v
    pub plays : All Plays v.records
    pub table : h.table b ≡ Some rows
    pub agrees : AgreesWithWorld (plain rows) v
    pub directories : DirectoriesStand (h.placed b) (h.finished b) v
    pub obliging : h.obliging b
    pub least : ℕ
    pub steady : k.least q ≡ Some least
    pub left : ℕ
    pub is_left : IsLeft results v left
    pub enough : left + count_by (late least) v.records + done ≤ turns

  -- ---- in the beginning

  at_first : (a : T) (p : P) (w : World) → IsReached w → (e : HasEnough h k a p w turns) → e.rows ≡ rows → Remains 0 a p w
  at_first a p w reached e is =
      let moment = some_moment (k.least p) e.steady in
      let agrees : AgreesWithWorld (plain rows) w = subst (λ (x : List (Request × JobResult)). AgreesWithWorld (plain x) w) is e.agrees in
      let there = left_is_there (λ q. row_of q e.rows) w e.sound e.agrees e.means in
      let few : count_by (late moment.0) w.records ≤ count_by waits_later w.records =
      count_le (late moment.0) waits_later (λ r yes_late. (and_parts (waits_later r) _ yes_late).0) w.records in
      let sum : there.0 + count_by waits_later w.records ≤ turns = e.enough there.0 there.1 in
      record {
        reached = reached;
        sound = e.sound;
        plays = e.plays;
        table = e.table ∙ ap (λ (x : List (Request × JobResult)). Some x) is;
        agrees = agrees;
        directories = e.directories;
        obliging = e.obliging;
        least = moment.0;
        steady = moment.1;
        left = there.0;
        is_left = subst (λ (x : List (Request × JobResult)). IsLeft (λ q. row_of q x) w there.0) is there.1;
        enough = omega (arith, few, sum);
      }

  -- ---- a turn

  module _ (done : ℕ) (b c : T) (q r : P) (v u : World) (rem : Remains done b q v) (step : TurnStep h k limits b c q r v u) where
    abbrev o : Outside
    o = in_turn h limits step.now b c

    abbrev poll : ℕ
    poll = limits.poll_ms

    abbrev cs : List Change
    cs = step.turn.changes

    abbrev got : TaskAnswer
    got = step.turn.turn.answer

    abbrev moment : ℕ
    moment = step.turn.turn.moment

    stays_sound : StaysSound v u
    stays_sound = turn_sound o step.pid v u rem.reached rem.sound step.turn

    given : (who : ProcessRecord) × (find_record step.pid v.records ≡ Some who) × TurnGives poll moment v who got cs
    given = gives_turn poll v (turn step.pid got moment) cs step.turn.turn.leads

    abbrev who : ProcessRecord
    who = given.0

    number : who.node ≡ step.pid
    number = found_node step.pid v.records who given.1

    found : find_record who.node v.records ≡ Some who
    found = ap (λ (n : ℕ). find_record n v.records) number ∙ given.1

    asked : IsAsked h who.node (need v who) b c
    asked = subst (λ (n : ℕ). IsAsked h n (need v who) b c) (sym number) (what_it_needs v step.pid (λ n. IsAsked h step.pid n b c) who given.1 step.stays)

    answered : AnswersNeed o who.node (need v who) got
    answered = subst (λ (n : ℕ). AnswersNeed o n (need v who) got) (sym number) (what_it_needs v step.pid (λ n. AnswersNeed o step.pid n got) who given.1 step.turn.turn.answered)

    told : (placed : ℕ → Option Request) × (h.placed b ≡ Some placed) × AreOfProcesses (Some placed) v × All (ProcessStands placed (h.finished b) v) v.records
    told = directories_told (h.placed b) (h.finished b) v rem.directories

    told_new : (placed : ℕ → Option Request) × (h.placed c ≡ Some placed) × PlacesFor who.node (need v who) told.0 placed
    told_new = both_told (PlacesFor who.node (need v who)) (h.placed b) (h.placed c) told.0 told.1 asked.placed

    calm : IsCalm got
    calm =
        turn_calm h limits step.now b c rows told.0 told_new.0 rem.table told.1 told_new.1 asked.finished rem.obliging v u rem.sound stays_sound.continues told.2 told.3 who found told_new.2
        poll moment got cs given.2 answered

    -- a job that is left has a row
    row : (p : JobPart) (request : Request) → who.part ≡ part.Job p → recorded_request v who ≡ Some (Gives request) → HasRow request rows
    row p request is asks =
        let owes = owed_in results v who.node who v.records rem.left rem.is_left found in
        let job : JobOwes results v p.task (recorded_request v who) owes.0 = subst (λ (y : Part). PartOwes results v who y owes.0) is owes.1 in
        let its : JobOwes results v p.task (Some (Gives request)) owes.0 = subst (λ (y : Option (Outcome Request)). JobOwes results v p.task y owes.0) asks job in
        row_stands request its.0 rows its.1

    directories_now : DirectoriesStand (h.placed c) (h.finished c) u
    directories_now = subst (λ (y : Option (ℕ → Option Request)). DirectoriesStand y (h.finished c) u) (sym told_new.1) (
      subst (AreOfProcesses (Some told_new.0)) (sym step.turn.after)
          (are_still (Some told_new.0) v cs (own_placed who.node (need v who) (Some told.0) (Some told_new.0) v (subst IsSome (sym found) refl) told_new.2 told.2)),
      λ i d lt.
          turn_stands h limits step.now b c rows told.0 told_new.0 rem.table told.1 told_new.1 asked.finished rem.obliging v u rem.sound stays_sound.continues told.2 told.3 who found told_new.2
          row poll moment got cs given.2 answered step.turn.after _ (unique 1 u.nodes u.records stays_sound.sound.consistent.numbered i d lt),
    )

    brought : AreBrought o v u
    brought = turns_bring o 1 0 v u rem.reached rem.sound (one_more 0 0 v v u (none v) (step.pid, step.turn))

    less : LeavesLess results step.pid u rem.left
    less = subst (λ (y : World). LeavesLess results step.pid y rem.left) (sym step.turn.after)
        (turns_lower results poll moment step.pid got v cs rem.left rem.sound rem.agrees step.turn.turn.leads step.turn.accepted calm rem.is_left)

    steady_now : (n : ℕ) × (k.least r ≡ Some n) × ((rem.least ≤ step.now) × (n ≡ step.now))
    steady_now = steady_on (λ before n. (before ≤ step.now) × (n ≡ step.now)) (k.least q) (k.least r) rem.least rem.steady step.says.steady

    few_late : count_by (late steady_now.0) u.records ≤ count_by (late rem.least) v.records
    few_late =
        let low = steady_now.2.0 in
        let is = steady_now.2.1 in
        let narrowed : count_by (late steady_now.0) u.records ≤ count_by (late rem.least) u.records =
        count_le (late steady_now.0) (late rem.least) (later_late rem.least steady_now.0 (omega (arith, low, is))) u.records in
        let kept : count_by (late rem.least) (applied v cs).records ≤ count_by (late rem.least) v.records =
        changes_late rem.least (v.batches + 1) (begun v) cs (turn_sets_no_due poll moment v who got cs calm given.2) in
        let moved : count_by (late rem.least) u.records ≡ count_by (late rem.least) (applied v cs).records = ap (λ (y : World). count_by (late rem.least) y.records) step.turn.after in
        omega (arith, narrowed, kept, moved)

    turn_remains : Remains (suc done) c r u
    turn_remains =
        let fewer = less.2 in
        let late_too = few_late in
        let sum = rem.enough in
        record {
          reached = stays_sound.reached;
          sound = stays_sound.sound;
          plays = plays_on v u rem.sound stays_sound.continues (no_worse o step.pid v u step.turn calm) rem.plays stays_sound.sound;
          table = asked.table ∙ rem.table;
          agrees = agrees_on o rows (λ request y is. row_is request y rows (subst (WhereTold (IsRow request y)) rem.table is)) v u rem.sound stays_sound.continues stays_sound.sound rem.agrees brought;
          directories = directories_now;
          obliging = asked.obliging rem.obliging;
          least = steady_now.0;
          steady = steady_now.1;
          left = less.0;
          is_left = less.1;
          enough = omega (arith, fewer, late_too, sum);
        }

  -- ---- a rest

  rest_remains : (done : ℕ) (b : T) (q r : P) (v : World) → Remains done b q v → RestStep k q r v → Remains (suc done) b r v
  rest_remains done b q r v rem step =
      let asked = steady_on (λ before n. (before ≤ step.now) × (n ≡ step.now)) (k.least q) (k.least step.between) rem.least rem.steady step.says.steady in
      let later = steady_on (λ before n. n ≡ rested before (step.until - step.now)) (k.least step.between) (k.least r) asked.0 asked.1 step.rests.steady in
      let low = asked.2.0 in
      let here = asked.2.1 in
      let after = step.later in
      let small = step.small in
      let until_is : asked.0 + (step.until - step.now) ≡ step.until = omega (arith, here, after) in
      let at_until : later.0 ≡ step.until =
      later.2 ∙ ap (λ (n : ℕ). min n (2 ^ 64 - 1)) until_is ∙ min-eq_left {n = step.until} {m = 2 ^ 64 - 1} (omega (arith, small)) in
      let fewer : suc (count_by (late step.until) v.records) ≤ count_by (late rem.least) v.records = rest_late rem.least step.now step.until v rem.sound.consistent low after step.least in
      let same : count_by (late later.0) v.records ≡ count_by (late step.until) v.records = ap (λ (n : ℕ). count_by (late n) v.records) at_until in
      let sum = rem.enough in
      record {
        reached = rem.reached;
        sound = rem.sound;
        plays = rem.plays;
        table = rem.table;
        agrees = rem.agrees;
        directories = rem.directories;
        obliging = rem.obliging;
        least = later.0;
        steady = later.1;
        left = rem.left;
        is_left = rem.is_left;
        enough = omega (arith, fewer, same, sum);
      }

  -- ---- all of them

  trail_remains : (a : T) (p : P) (w : World) → Remains 0 a p w → (n m : ℕ) (b : T) (q : P) (v : World) → Trail h k limits a p w n m b q v → Remains (n + m) b q v
  trail_remains a p w first n m b q v starts = first
  trail_remains a p w first n m b q v (and_turn i j c d r s x y t step) =
      let sum : suc (i + j) ≡ suc i + j = omega arith in
      subst (λ (l : ℕ). Remains l d s y) sum (turn_remains (i + j) c d r s x y (trail_remains a p w first i j c r x t) step)
  trail_remains a p w first n m b q v (and_rest i j c r s x t step) =
      let sum : suc (i + j) ≡ i + suc j = omega arith in
      subst (λ (l : ℕ). Remains l c s x) sum (rest_remains (i + j) c r s x (trail_remains a p w first i j c r x t) step)

  -- a run that ends with as many turns and rests as were given leaves nothing
  nothing_left : (done : ℕ) (b : T) (q : P) (v : World) → Remains done b q v → done ≡ turns → IsLeft results v 0
  nothing_left done b q v rem all =
      let sum = rem.enough in
      let zero_is : rem.left ≡ 0 = omega (arith, sum, all) in
      subst (IsLeft results v) zero_is rem.is_left

  ends_all : (a b : T) (p q : P) (w v : World) (end : RunEnd) (old new : ℕ) → Remains 0 a p w → Completes h k limits turns a p w end b q v
      → EndsAs (in_run h k limits a b q) turns w v old new end → end ≡ AllEnded
  ends_all a b p q w v AllEnded old new first done ends = refl
  ends_all a b p q w v Spent old new first done ends =
      let all = done.spent refl in
      let parts = done.goes.all_of_them in
      let none_left = nothing_left (done.goes.count + done.goes.rests) b q v (trail_remains a p w first done.goes.count done.goes.rests b q v done.goes.trail) (omega (arith, all, parts)) in
      let rem = trail_remains a p w first done.goes.count done.goes.rests b q v done.goes.trail in
      let over = none_live v.records (live_owe results v rem.sound.consistent none_left) in
      let live = ends.0 in
      absurd (cc (over, live))
  ends_all a b p q w v Resting old new first done ends =
      let rem = trail_remains a p w first done.goes.count done.goes.rests b q v done.goes.trail in
      absurd (not_resting v rem.plays ends.0 ends.1)

pub enough_turns_end : {T P : Type 0} (h : transport.Ghosts T) (k : pacer.Ghosts P) → EnoughTurnsEnd h k
enough_turns_end h k limits turns a b p q w v end old new reached enough done ends =
    ends_all h k limits enough.rows turns a b p q w v end old new (at_first h k limits enough.rows turns a p w reached enough refl) done ends
