-- What each step keeps of a log.
use Rattle.std.proofs.Common.{◌≡◌, ◌≢◌, inl, inr, ℕ, ◌+◌, ◌<◌, ◌≤◌, Bool, true, false, List, [], ◌∷◌, ◌++◌, Option, Some, None, refl, sym, ap, subst, ◌∙◌, arith}
use Rattle.std.specs.Prelude.{◌==◌, nat_le, nat_lt, if◌then◌else◌, option_map}
use Rattle.std.specs.List.{AllByRecursion}
use Rattle.std.proofs.lemmas.Bool.{cases_eq, cases_lt, eqb-true, le-leb}
use Rattle.wc_transport.specs.declared.transport.Transport as transport
use Rattle.wc_state.specs.declared.record.Limits.{Limits}
use Rattle.wc_world.specs.Accepted.{IsReached, then_changes}
use Rattle.wc_world.specs.Applied.{applied}
use Rattle.wc_world.specs.Records.{find_record}
use Rattle.wc_world.specs.World.{World}
use Rattle.wc_world.proofs.ReachedLists.{found_node}
use Rattle.wc_machine.specs.declared.answer.TaskAnswer.{TaskAnswer}
use Rattle.wc_machine.specs.Machine.{Leads, turn}
use Rattle.wc_machine.specs.Questions.{need}
use Rattle.wc_machine.specs.Sound.{IsSound}
use Rattle.wc_pool.specs.Fits.{FitsNeed, FitsWorld}
use Rattle.wc_pool.specs.Laws.{TurnsLeaveOthers}
use Rattle.wc_pool.specs.Pools.{HasClosed, HasTaken, KeepsEntries, Seats, entry_at, epoch_at, epoch_of, freed, is_current, lease_at, lease_for, lease_in, seat_at, why_given}
use Rattle.wc_pool.specs.declared.giving.Why.{Why}
use Rattle.wc_pool.specs.declared.pool.Entry.{Entry}
use Rattle.wc_pool.specs.declared.pool.Lease.{Lease}
use Rattle.wc_pool.specs.declared.pool.Pool.{Pool}
use Rattle.wc_pool.specs.declared.pool.Seat.{Seat}
use Rattle.wc_pool.specs.declared.pool.Seat.TheVariants.{Free, Leased, Answered}
use Rattle.wc_pool.specs.declared.pool.Worker.{Worker}
use Rattle.wc_pool.proofs.Seated.{closed_fits, free_fits, kept_fits, taken_fits}
use Rattle.wc_runner.specs.Laws.{StaysSound}
use Rattle.wc_runner.specs.Outside.{Answers, AnswersNeed, Outside, in_turn}
use Rattle.wc_runner.proofs.Continuing.{continues_itself, continues_on}
use Rattle.wc_runner.proofs.ManyTurns.{turn_sound}
use Rattle.wc_runner.proofs.Needed.{needs_there}
use Rattle.wc_runner.proofs.Taken.{what_it_needs}
use Rattle.wc_workers.specs.Logs.{Commits, Happened, HoldsNone, IsEarlier, IsIn, LogsHold, Move, asks, asked_more, begins, commits, lost, moves_of, none, one_more, stepped}
use Rattle.wc_workers.specs.Steps.{AsksFor, CommitsTurn, StepOf}
use Rattle.wc_workers.specs.declared.steps.Done.{Done}
use Rattle.wc_workers.specs.declared.steps.Done.TheVariants.{Took, Idle, Asked, Gave, Committed}
use Rattle.wc_workers.proofs.Given.{answers_told}
use Rattle.wc_workers.proofs.Held.{valid_is_current}

-- ---- seats

module _ (p q : Pool) (worker : ℕ) (s : Seat) (steps : ℕ) (seats : Seats p q worker s steps) where
  its_seat : (k : ℕ) → k ≡ worker → seat_at q k ≡ s
  its_seat k e = ap (λ (n : ℕ). seat_at q n) e ∙ ap (λ (x : Worker). x.seat) seats.seat

  old_seat : (k : ℕ) → k ≢ worker → seat_at q k ≡ seat_at p k
  old_seat k ne = ap (λ (x : Worker). x.seat) (seats.others k ne)

  -- a lease that the worker's seat doesn't have is an old one
  old_lease : (k : ℕ) (l : Lease) → (lease_in s ≡ Some l → lease_at p worker ≡ Some l) → lease_at q k ≡ Some l → lease_at p k ≡ Some l
  old_lease k l same h = elim (cases_eq k worker) [
    | inl e ↦ ap (λ (n : ℕ). lease_at p n) e ∙ same (sym (ap lease_in (its_seat k e)) ∙ h)
    | inr ne ↦ sym (ap lease_in (old_seat k ne)) ∙ h
  ]

not_lapsed : (b c : Bool) (x y : Why) (rest : Option Why) → (if b then Some x else if c then Some y else rest) ≡ None → c ≡ false
not_lapsed true c x y rest h = absurd (cc)
not_lapsed false true x y rest h = absurd (cc)
not_lapsed false false x y rest h = refl

-- a lease that isn't given up hasn't lapsed
in_time : (p : Pool) (w : World) (l : Lease) (now : ℕ) → why_given p w l now ≡ None → now < l.until
in_time p w l now valid =
    let early : nat_le l.until now ≡ false = not_lapsed (nat_lt l.epoch (epoch_at p l.pid)) (nat_le l.until now) _ _ _ valid in
    elim (cases_lt now l.until) [
      | inl less ↦ less
      | inr more ↦ let yes : nat_le l.until now ≡ true = le-leb l.until now more in absurd (cc (yes, early))
    ]

freed_epoch : (o : Option Entry) → epoch_of (option_map freed o) ≡ epoch_of o
freed_epoch None = refl
freed_epoch (Some e) = refl

closed_epoch : (p q : Pool) (worker pid : ℕ) → HasClosed p q worker pid → (k : ℕ) → epoch_at q k ≡ epoch_at p k
closed_epoch p q worker pid t k = elim (cases_eq k pid) [
  | inl e ↦ ap (λ (n : ℕ). epoch_at q n) e ∙ ap epoch_of t.entry ∙ freed_epoch (entry_at p pid) ∙ ap (λ (n : ℕ). epoch_at p n) (sym e)
  | inr ne ↦ ap epoch_of (t.others k ne)
]

-- ---- what a log keeps

-- a committed lease is the last one of its process or an earlier one, and each worker that has the last one has a later one
abbrev pub IsBelow : {T : Type 0} → Pool → Move T → Type 0
IsBelow q (asks worker m a now old new) = Unit {0}
IsBelow q (commits worker m a now) = (m.epoch ≤ epoch_at q m.pid) × ((k : ℕ) (l : Lease) → lease_at q k ≡ Some l → l.pid ≡ m.pid → is_current q l ≡ true → m.epoch < l.epoch)

module _ {T : Type 0} (h : transport.Ghosts T) (limits : Limits) (law : TurnsLeaveOthers) (w : World) where
  -- The answer was got under this lease, and the transport gave it to what the process needs, where the lease is its last one.
  pub record Got (log : List (Move T)) (q : Pool) (v : World) (k : ℕ) (l : Lease) (a : TaskAnswer) : Type 0 where
    pub moment : ℕ
    pub old : T
    pub new : T
    pub asked : IsIn (asks k l a moment old new) log
    pub answered : is_current q l ≡ true → Answers (in_turn h limits moment old new) v l.pid a

  pub record Kept (log : List (Move T)) (q : Pool) (v : World) : Type 0 where
    pub led : Commits h limits w log v
    pub reached : IsReached v
    pub fits : FitsWorld q v
    pub got : (k : ℕ) (l : Lease) (a : TaskAnswer) → seat_at q k ≡ Answered l a → Got log q v k l a
    pub below : AllByRecursion (IsBelow q) log

  -- where no lease is new and each process has had as many leases
  module _ (q r : Pool) (same : (pid : ℕ) → epoch_at r pid ≡ epoch_at q pid) (was : (k : ℕ) (l : Lease) → lease_at r k ≡ Some l → lease_at q k ≡ Some l) where
    still_last : (l : Lease) → is_current r l ≡ true → is_current q l ≡ true
    still_last l c = subst (λ (n : ℕ). (n == l.epoch) ≡ true) (same l.pid) c

    one_below : (m : Move T) → IsBelow q m → IsBelow r m
    one_below (asks worker m a now old new) b = tt
    one_below (commits worker m a now) b = (
      let e : epoch_at r m.pid ≡ epoch_at q m.pid = same m.pid in let le : m.epoch ≤ epoch_at q m.pid = b.0 in omega arith,
      λ k l at pid c. b.1 k l (was k l at) pid (still_last l c),
    )

    all_below : (log : List (Move T)) → AllByRecursion (IsBelow q) log → AllByRecursion (IsBelow r) log
    all_below [] b = tt
    all_below (m ∷ log) b = (one_below m b.0, all_below log b.1)

  got_still : (log : List (Move T)) (q r : Pool) (v : World) (k : ℕ) (l : Lease) (a : TaskAnswer) → (is_current r l ≡ true → is_current q l ≡ true) → Got log q v k l a → Got log r v k l a
  got_still log q r v k l a last g = record { moment = g.moment; old = g.old; new = g.new; asked = g.asked; answered = λ c. g.answered (last c) }

  free_keeps : (log : List (Move T)) (q r : Pool) (v : World) (worker steps : ℕ) → Seats q r worker Free steps → KeepsEntries q r → Kept log q v → Kept log r v
  free_keeps log q r v worker steps seats entries kept =
      let same : (pid : ℕ) → epoch_at r pid ≡ epoch_at q pid = λ pid. ap epoch_of (entries pid) in
      let was : (k : ℕ) (l : Lease) → lease_at r k ≡ Some l → lease_at q k ≡ Some l = λ k l at. old_lease q r worker Free steps seats k l (λ no. absurd (cc)) at in
      record {
        led = kept.led;
        reached = kept.reached;
        fits = free_fits q r worker steps seats entries v kept.fits;
        got = λ k l a at. elim (cases_eq k worker) [
          | inl e ↦ let no : Free ≡ Answered l a = sym (its_seat q r worker Free steps seats k e) ∙ at in absurd (cc)
          | inr ne ↦ got_still log q r v k l a (still_last q r same was l) (kept.got k l a (sym (old_seat q r worker Free steps seats k ne) ∙ at))
        ];
        below = all_below q r same was log kept.below;
      }

  -- ---- taking

  module _ (q r : Pool) (v : World) (worker pid now : ℕ) (t : HasTaken q r worker pid now) (f : FitsWorld q v) where
    raised : epoch_at r pid ≡ epoch_at q pid + 1
    raised = ap epoch_of t.entry

    -- an earlier lease that is the last one is of another process
    last_before : (k : ℕ) (l : Lease) → lease_at q k ≡ Some l → is_current r l ≡ true → is_current q l ≡ true
    last_before k l at c = elim (cases_eq l.pid pid) [
      | inl e ↦
          let last : epoch_at r l.pid ≡ l.epoch = eqb-true (epoch_at r l.pid) l.epoch c in
          let low : l.epoch ≤ epoch_at q l.pid = f.epochs k l at in
          let one : epoch_at r l.pid ≡ epoch_at r pid = ap (λ (n : ℕ). epoch_at r n) e in
          let two : epoch_at q l.pid ≡ epoch_at q pid = ap (λ (n : ℕ). epoch_at q n) e in
          let up : epoch_at r pid ≡ epoch_at q pid + 1 = raised in
          absurd (omega arith)
      | inr ne ↦ subst (λ (e : Option Entry). (epoch_of e == l.epoch) ≡ true) (t.others l.pid ne) c
    ]

    grows : (k : ℕ) → epoch_at q k ≤ epoch_at r k
    grows k = elim (cases_eq k pid) [
      | inl e ↦ let up : epoch_at r k ≡ epoch_at q k + 1 = ap (λ (n : ℕ). epoch_at r n) e ∙ raised ∙ ap (λ (n : ℕ). epoch_at q n + 1) (sym e) in omega arith
      | inr ne ↦ let same : epoch_at r k ≡ epoch_at q k = ap epoch_of (t.others k ne) in omega arith
    ]

    taken_below : (m : Move T) → IsBelow q m → IsBelow r m
    taken_below (asks k m a moment old new) b = tt
    taken_below (commits j m a moment) b = (
      let le : m.epoch ≤ epoch_at q m.pid = b.0 in let up : epoch_at q m.pid ≤ epoch_at r m.pid = grows m.pid in omega arith,
      λ k l at same c. elim (cases_eq k worker) [
        | inl e ↦
            let new : Some (lease_for q pid now) ≡ Some l = sym (ap lease_in (its_seat q r worker (Leased (lease_for q pid now)) _ t.steps k e)) ∙ at in
            let is : lease_for q pid now ≡ l = cc in
            let its : epoch_at q pid + 1 ≡ l.epoch = ap (λ (x : Lease). x.epoch) is in
            let of : pid ≡ l.pid = ap (λ (x : Lease). x.pid) is in
            let there : epoch_at q m.pid ≡ epoch_at q pid = ap (λ (n : ℕ). epoch_at q n) (sym same ∙ sym of) in
            let le : m.epoch ≤ epoch_at q m.pid = b.0 in
            omega arith
        | inr ne ↦
            let had : lease_at q k ≡ Some l = sym (ap lease_in (old_seat q r worker (Leased (lease_for q pid now)) _ t.steps k ne)) ∙ at in
            b.1 k l had same (last_before k l had c)
      ],
    )

    all_taken : (log : List (Move T)) → AllByRecursion (IsBelow q) log → AllByRecursion (IsBelow r) log
    all_taken [] b = tt
    all_taken (m ∷ log) b = (taken_below m b.0, all_taken log b.1)

  took_keeps : (log : List (Move T)) (q r : Pool) (v : World) (worker pid now : ℕ) → HasTaken q r worker pid now → Kept log q v → Kept log r v
  took_keeps log q r v worker pid now t kept = record {
    led = kept.led;
    reached = kept.reached;
    fits = taken_fits q r worker pid now t v kept.fits;
    got = λ k l a at. elim (cases_eq k worker) [
      | inl e ↦ let no : Leased (lease_for q pid now) ≡ Answered l a = sym (its_seat q r worker (Leased (lease_for q pid now)) _ t.steps k e) ∙ at in absurd (cc)
      | inr ne ↦
          let had : seat_at q k ≡ Answered l a = sym (old_seat q r worker (Leased (lease_for q pid now)) _ t.steps k ne) ∙ at in
          got_still log q r v k l a (last_before q r v worker pid now t kept.fits k l (ap lease_in had)) (kept.got k l a had)
    ];
    below = all_taken q r v worker pid now t kept.fits log kept.below;
  }

  -- ---- asking

  asked_keeps : (log : List (Move T)) (q r : Pool) (v : World) (worker pid now : ℕ) (a b : T) (s : AsksFor h limits worker now a b q r v pid) → Kept log q v
      → Kept (asks worker s.lease s.answer now a b ∷ log) r v
  asked_keeps log q r v worker pid now a b s kept = record {
    led = asked_more log v worker l s.answer now a b kept.led;
    reached = kept.reached;
    fits = kept_fits q r worker l s.answer (ap lease_in s.had) s.kept v kept.fits (subst (λ (n : ℕ). FitsNeed v n s.answer) (sym s.its) s.fitting);
    got = got;
    below = (tt, all_below q r same was log kept.below);
  }
    where
      l : Lease
      l = s.lease

      same : (n : ℕ) → epoch_at r n ≡ epoch_at q n
      same n = ap epoch_of (s.kept.1 n)

      was : (k : ℕ) (m : Lease) → lease_at r k ≡ Some m → lease_at q k ≡ Some m
      was k m at = old_lease q r worker (Answered l s.answer) _ s.kept.0 k m (λ e. ap lease_in s.had ∙ e) at

      got : (k : ℕ) (m : Lease) (x : TaskAnswer) → seat_at r k ≡ Answered m x → Got (asks worker l s.answer now a b ∷ log) r v k m x
      got k m x at = elim (cases_eq k worker) [
        | inl e ↦
            let is : Answered l s.answer ≡ Answered m x = sym (its_seat q r worker (Answered l s.answer) _ s.kept.0 k e) ∙ at in
            let one : l ≡ m = cc in
            let two : s.answer ≡ x = cc in
            record {
              moment = now;
              old = a;
              new = b;
              asked = inl (λ i. asks (e i) (sym one i) (sym two i) now a b);
              answered = λ c. subst (λ (y : TaskAnswer). Answers (in_turn h limits now a b) v m.pid y) two
                  (subst (λ (n : ℕ). Answers (in_turn h limits now a b) v n s.answer) (sym s.its ∙ ap (λ (y : Lease). y.pid) one) s.answered);
            }
        | inr ne ↦
            let g = kept.got k m x (sym (old_seat q r worker (Answered l s.answer) _ s.kept.0 k ne) ∙ at) in
            record { moment = g.moment; old = g.old; new = g.new; asked = inr g.asked; answered = λ c. g.answered (still_last q r same was m c) }
      ]

  -- ---- committing

  committed_keeps : (log : List (Move T)) (q r : Pool) (u v : World) (worker pid now : ℕ) (s : CommitsTurn limits worker now q r u v pid) → Kept log q u
      → Kept (commits worker s.lease s.answer now ∷ log) r v
  committed_keeps log q r u v worker pid now s kept = record {
    led = one_more log u v worker l s.answer now kept.led (record {
      changes = s.changes;
      leads = leads;
      accepted = s.accepted;
      after = s.after;
      in_time = in_time q u l now s.valid;
      moment = mine.moment;
      old = mine.old;
      new = mine.new;
      asked = mine.asked;
      answered = mine.answered last;
      earlier = earlier log kept.below;
    });
    reached = subst IsReached (sym s.after) (then_changes u s.changes kept.reached s.accepted);
    fits = subst (FitsWorld r) (sym s.after) (closed_fits q r worker l had last closed law u limits.poll_ms now s.answer s.changes kept.reached leads kept.fits);
    got = got;
    below = (
      (
        let e : epoch_at r l.pid ≡ epoch_at q l.pid = same l.pid in let low : l.epoch ≤ epoch_at q l.pid = kept.fits.epochs worker l had in omega arith,
        λ k m at its c. absurd (alone k m at its c),
      ),
      all_below q r same was log kept.below,
    );
  }
    where
      l : Lease
      l = s.lease

      had : lease_at q worker ≡ Some l
      had = ap lease_in s.had

      last : is_current q l ≡ true
      last = valid_is_current q u worker l now kept.fits had s.valid

      mine : Got log q u worker l s.answer
      mine = kept.got worker l s.answer s.had

      leads : Leads limits.poll_ms u (turn l.pid s.answer now) s.changes
      leads = subst (λ (n : ℕ). Leads limits.poll_ms u (turn n s.answer now) s.changes) (sym s.its) s.leads

      closed : HasClosed q r worker l.pid
      closed = subst (HasClosed q r worker) (sym s.its) s.closed

      same : (n : ℕ) → epoch_at r n ≡ epoch_at q n
      same = closed_epoch q r worker l.pid closed

      was : (k : ℕ) (m : Lease) → lease_at r k ≡ Some m → lease_at q k ≡ Some m
      was k m at = old_lease q r worker Free _ closed.steps k m (λ no. absurd (cc)) at

      -- no worker has the last lease of the process now
      alone : (k : ℕ) (m : Lease) → lease_at r k ≡ Some m → m.pid ≡ l.pid → is_current r m ≡ true → ⊥
      alone k m at its c = elim (cases_eq k worker) [
        | inl e ↦ let no : None ≡ Some m = sym (ap lease_in (its_seat q r worker Free _ closed.steps k e)) ∙ at in absurd (cc)
        | inr ne ↦
            let one : epoch_at q m.pid ≡ m.epoch = eqb-true (epoch_at q m.pid) m.epoch (still_last q r same was m c) in
            let two : epoch_at q l.pid ≡ l.epoch = eqb-true (epoch_at q l.pid) l.epoch last in
            ne (kept.fits.apart k worker m l (was k m at) had its (sym one ∙ ap (λ (n : ℕ). epoch_at q n) its ∙ two))
      ]

      earlier : (moves : List (Move T)) → AllByRecursion (IsBelow q) moves → AllByRecursion (IsEarlier l) moves
      earlier [] b = tt
      earlier (asks k m a moment old new ∷ moves) b = (tt, earlier moves b.1)
      earlier (commits k m a moment ∷ moves) b = (λ its. b.0.1 worker l had (sym its) last, earlier moves b.1)

      moved : (m : Lease) (x : TaskAnswer) (moment : ℕ) (old new : T) → m.pid ≢ l.pid → FitsNeed u m.pid x → Answers (in_turn h limits moment old new) u m.pid x
          → Answers (in_turn h limits moment old new) v m.pid x
      moved m x moment old new ne f answers =
          let o = in_turn h limits moment old new in
          let at : f.process.node ≡ m.pid = found_node m.pid u.records f.process f.found in
          let found : find_record f.process.node u.records ≡ Some f.process = ap (λ (n : ℕ). find_record n u.records) at ∙ f.found in
          let stays = law limits.poll_ms u l.pid now s.answer s.changes kept.reached leads f.process found (λ e. ne (sym at ∙ e)) in
          let here : AnswersNeed o m.pid (need u f.process) x = what_it_needs u m.pid (λ n. AnswersNeed o m.pid n x) f.process f.found answers in
          subst (λ (y : World). Answers o y m.pid x) (sym s.after)
          (needs_there (applied u s.changes) m.pid f.process (ap (λ (n : ℕ). find_record n (applied u s.changes).records) (sym at) ∙ stays.0) (need u f.process) stays.1
          (λ n. AnswersNeed o m.pid n x) here)

      got : (k : ℕ) (m : Lease) (x : TaskAnswer) → seat_at r k ≡ Answered m x → Got (commits worker l s.answer now ∷ log) r v k m x
      got k m x at = elim (cases_eq k worker) [
        | inl e ↦ let no : Free ≡ Answered m x = sym (its_seat q r worker Free _ closed.steps k e) ∙ at in absurd (cc)
        | inr ne ↦
            let held : seat_at q k ≡ Answered m x = sym (old_seat q r worker Free _ closed.steps k ne) ∙ at in
            let g = kept.got k m x held in
            record {
              moment = g.moment;
              old = g.old;
              new = g.new;
              asked = inr g.asked;
              answered = λ c. moved m x g.moment g.old g.new (λ its. alone k m (ap lease_in at) its c) (kept.fits.answers k m x held (still_last q r same was m c)) (g.answered (still_last q r same was m c));
            }
      ]

  -- ---- logs

  same_world : (log : List (Move T)) (q : Pool) (u v : World) → v ≡ u → Kept log q u → Kept log q v
  same_world log q u v e k = subst (Kept log q) (sym e) k

  pub step_keeps : (log : List (Move T)) (worker now : ℕ) (a b : T) (q r : Pool) (u v : World) (done : Done) (s : StepOf h limits worker now a b q r u v done) → Kept log q u
      → Kept (moves_of h limits worker now a b q r u v done s ++ log) r v
  step_keeps log worker now a b q r u v (Took pid) s k = same_world log r u v s.2 (took_keeps log q r u worker pid now s.0.2 k)
  step_keeps log worker now a b q r u v Idle s k = same_world log r u v s.2 (free_keeps log q r u worker _ s.0.2.0 s.0.2.1 k)
  step_keeps log worker now a b q r u v (Asked pid) s k = same_world (asks worker s.0.lease s.0.answer now a b ∷ log) r u v s.1 (asked_keeps log q r u worker pid now a b s.0 k)
  step_keeps log worker now a b q r u v (Gave pid why) s k = same_world log r u v s.2 (free_keeps log q r u worker _ s.0.left.0 s.0.left.1 k)
  step_keeps log worker now a b q r u v (Committed pid) s k = committed_keeps log q r u v worker pid now s.0 k

  pub kept_first : (p : Pool) → IsReached w → FitsWorld p w → HoldsNone p → Kept [] p w
  kept_first p reached f holds = record {
    led = none;
    reached = reached;
    fits = f;
    got = λ k l a at. absurd (holds k l a at);
    below = tt;
  }

  log_keeps : (t : T) (p : Pool) → IsReached w → FitsWorld p w → HoldsNone p → (log : List (Move T)) (b : T) (q : Pool) (v : World) → Happened h limits t p w log b q v → Kept log q v
  log_keeps t p reached f holds log b q v begins = kept_first p reached f holds
  log_keeps t p reached f holds log b q v (stepped before worker now done a c x y u z so_far s) =
      step_keeps before worker now a c x y u z done s (log_keeps t p reached f holds before a x u so_far)
  log_keeps t p reached f holds log b q v (lost before worker a x y u so_far gone) =
      free_keeps before x y u worker _ gone.seats gone.entries (log_keeps t p reached f holds before a x u so_far)

-- ---- soundness

module _ {T : Type 0} (h : transport.Ghosts T) (limits : Limits) (w : World) (reached : IsReached w) (sound : IsSound w) where
  -- what the transport gave at one moment, seen at another
  abbrev later : (now : ℕ) (old new : T) → Outside
  later now old new =
      record { said = λ m. m ≡ now; gave = (in_turn h limits now old new).gave; brings = (in_turn h limits now old new).brings; failed = (in_turn h limits now old new).failed; limits = limits }

  commits_sound : (log : List (Move T)) (v : World) → Commits h limits w log v → StaysSound w v
  commits_sound log v none = record { sound = sound; continues = continues_itself w reached; reached = reached }
  commits_sound log v (asked_more rest x worker l a now old new before) = commits_sound rest x before
  commits_sound log v (one_more rest u x worker l a now before c) =
      let first : StaysSound w u = commits_sound rest u before in
      let o : Outside = later now c.old c.new in
      let answered : Answers o u l.pid a = answers_told (in_turn h limits c.moment c.old c.new) o
      (record { gave = λ dir t q reply given. given; brings = λ q result row. row; failed = λ rises. rises }) u l.pid a c.answered in
      let last : StaysSound u x = turn_sound o l.pid u x first.reached first.sound (record {
        changes = c.changes;
        turn = record { moment = now; said = refl; answer = a; answered = answered; leads = c.leads };
        accepted = c.accepted;
        after = c.after;
      }) in
      record { sound = last.sound; continues = continues_on w u x first.continues last.continues; reached = last.reached }

pub logs_hold : {T : Type 0} (h : transport.Ghosts T) (limits : Limits) → TurnsLeaveOthers → LogsHold h limits
logs_hold h limits law log t b p q w v reached f holds happened =
    let k = log_keeps h limits law w t p reached f holds log b q v happened in
    (k.led, k.fits, λ sound. commits_sound h limits w reached sound log v k.led)
