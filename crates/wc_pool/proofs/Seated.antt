-- What a worker's new seat leaves of a pool, and that the pool still fits.
use Rattle.std.proofs.Common.{◌≡◌, ◌≢◌, ◌⊎◌, inl, inr, ℕ, zero, suc, ◌+◌, ◌<◌, ◌≤◌, Bool, true, false, List, [], ◌∷◌, ◌++◌, Option, Some, None, get_or, length, refl, sym, ap, subst, ◌∙◌, arith}
use Rattle.std.specs.Prelude.{◌==◌, ◌^◌, ◌-◌, nat_le, nat_lt, drop, if◌then◌else◌, option_map}
use Rattle.std.specs.List.{find, slice_set, slice_index}
use Rattle.std.proofs.lemmas.Bool.{cases_eq, eqb-true, ltb-true}
use Rattle.std.proofs.lemmas.List.{get_or-set_same, get_or-set_other, length-set}
use Rattle.wc_state.specs.declared.record.ProcessRecord.{ProcessRecord}
use Rattle.wc_world.specs.declared.change.Change.{Change}
use Rattle.wc_world.specs.World.{World}
use Rattle.wc_world.specs.Accepted.{IsReached}
use Rattle.wc_world.specs.Applied.{applied}
use Rattle.wc_world.specs.Records.{find_record}
use Rattle.wc_world.proofs.FoundRecords.{left}
use Rattle.wc_world.proofs.ReachedLists.{found_node}
use Rattle.wc_machine.specs.declared.answer.TaskAnswer.{TaskAnswer}
use Rattle.wc_machine.specs.Machine.{Leads, turn}
use Rattle.wc_machine.specs.Questions.{Need, need, fits}
use Rattle.wc_pool.specs.Fits.{FitsNeed, FitsWorld}
use Rattle.wc_pool.specs.Laws.{TurnsLeaveOthers}
use Rattle.wc_pool.specs.Pools.{HasClosed, HasTaken, IsNew, KeepsEntries, Seats, Steps, Turns, entry_at, epoch_at, epoch_of, freed, idle, is_current, is_over, lease_at, lease_for, lease_in, seat_at, steps_at, worker_at, workers_of}
use Rattle.wc_pool.specs.declared.pool.Entry.{Entry}
use Rattle.wc_pool.specs.declared.pool.Lease.{Lease}
use Rattle.wc_pool.specs.declared.pool.Pool.{Pool}
use Rattle.wc_pool.specs.declared.pool.Seat.{Seat}
use Rattle.wc_pool.specs.declared.pool.Seat.TheVariants.{Free, Leased, Answered}
use Rattle.wc_pool.specs.declared.pool.Worker.{Worker}

-- a worker that is put
pub put_seats : (p q : Pool) (worker : ℕ) (s : Seat) (steps : ℕ) → worker < workers_of p
    → q.workers.items ≡ slice_set p.workers.items worker (record { seat = s; steps = steps }) → Seats p q worker s steps
put_seats p q worker s steps there put = record {
  seat = ap (λ (ws : List Worker). get_or ws worker idle) put ∙ get_or-set_same p.workers.items worker (record { seat = s; steps = steps }) idle there;
  others = λ k ne. ap (λ (ws : List Worker). get_or ws k idle) put ∙ get_or-set_other p.workers.items worker k (record { seat = s; steps = steps }) idle ne;
  count = ap (λ (ws : List Worker). length ws) put ∙ length-set p.workers.items worker (record { seat = s; steps = steps });
}

-- ---- pools that fit

pub new_fits : (n : ℕ) (p : Pool) → IsNew n p → (w : World) → FitsWorld p w
new_fits n p new w = record {
  epochs = λ k l h. absurd (none k l h);
  apart = λ j k l m h g same one. absurd (none j l h);
  answers = λ k l a h c. absurd (no_answer k l a h);
}
  where
    none : (k : ℕ) (l : Lease) → lease_at p k ≡ Some l → ⊥
    none k l h = let e : None ≡ Some l = ap (λ (x : Worker). lease_in x.seat) (sym (new.idle k)) ∙ h in absurd (cc)

    no_answer : (k : ℕ) (l : Lease) (a : TaskAnswer) → seat_at p k ≡ Answered l a → ⊥
    no_answer k l a h = let e : Free ≡ Answered l a = ap (λ (x : Worker). x.seat) (sym (new.idle k)) ∙ h in absurd (cc)

module _ (p q : Pool) (worker : ℕ) (s : Seat) (steps : ℕ) (seats : Seats p q worker s steps) where
  its_lease : (k : ℕ) → k ≡ worker → lease_at q k ≡ lease_in s
  its_lease k e = ap (λ (n : ℕ). lease_at q n) e ∙ ap (λ (x : Worker). lease_in x.seat) seats.seat

  its_seat : (k : ℕ) → k ≡ worker → seat_at q k ≡ s
  its_seat k e = ap (λ (n : ℕ). seat_at q n) e ∙ ap (λ (x : Worker). x.seat) seats.seat

  old_lease : (k : ℕ) → k ≢ worker → lease_at q k ≡ lease_at p k
  old_lease k ne = ap (λ (x : Worker). lease_in x.seat) (seats.others k ne)

  old_seat : (k : ℕ) → k ≢ worker → seat_at q k ≡ seat_at p k
  old_seat k ne = ap (λ (x : Worker). x.seat) (seats.others k ne)

-- a worker that has nothing, where what is kept of each process stays
pub free_fits : (p q : Pool) (worker steps : ℕ) → Seats p q worker Free steps → KeepsEntries p q → (w : World) → FitsWorld p w → FitsWorld q w
free_fits p q worker steps seats same w f = record {
  epochs = λ k l h. subst (λ (e : Option Entry). l.epoch ≤ epoch_of e) (sym (same l.pid)) (f.epochs k l (was k l h));
  apart = λ j k l m h g e one. f.apart j k l m (was j l h) (was k m g) e one;
  answers = λ k l a h c. f.answers k l a (was_seat k l a h) (subst (λ (e : Option Entry). (epoch_of e == l.epoch) ≡ true) (same l.pid) c);
}
  where
    was : (k : ℕ) (l : Lease) → lease_at q k ≡ Some l → lease_at p k ≡ Some l
    was k l h = elim (cases_eq k worker) [
      | inl e ↦ let no : None ≡ Some l = sym (its_lease p q worker Free steps seats k e) ∙ h in absurd (cc)
      | inr ne ↦ sym (old_lease p q worker Free steps seats k ne) ∙ h
    ]

    was_seat : (k : ℕ) (l : Lease) (a : TaskAnswer) → seat_at q k ≡ Answered l a → seat_at p k ≡ Answered l a
    was_seat k l a h = elim (cases_eq k worker) [
      | inl e ↦ let no : Free ≡ Answered l a = sym (its_seat p q worker Free steps seats k e) ∙ h in absurd (cc)
      | inr ne ↦ sym (old_seat p q worker Free steps seats k ne) ∙ h
    ]

-- a worker that keeps an answer that fits
pub kept_fits : (p q : Pool) (worker : ℕ) (l : Lease) (a : TaskAnswer) → lease_at p worker ≡ Some l → Turns p q worker (Answered l a)
    → (w : World) → FitsWorld p w → FitsNeed w l.pid a → FitsWorld q w
kept_fits p q worker l a had t w f good = record {
  epochs = λ k m h. subst (λ (e : Option Entry). m.epoch ≤ epoch_of e) (sym (t.1 m.pid)) (f.epochs k m (was k m h));
  apart = λ j k m n h g e one. f.apart j k m n (was j m h) (was k n g) e one;
  answers = answers;
}
  where
    was : (k : ℕ) (m : Lease) → lease_at q k ≡ Some m → lease_at p k ≡ Some m
    was k m h = elim (cases_eq k worker) [
      | inl e ↦ ap (λ (x : ℕ). lease_at p x) e ∙ had ∙ sym (its_lease p q worker (Answered l a) _ t.0 k e) ∙ h
      | inr ne ↦ sym (old_lease p q worker (Answered l a) _ t.0 k ne) ∙ h
    ]

    answers : (k : ℕ) (m : Lease) (b : TaskAnswer) → seat_at q k ≡ Answered m b → is_current q m ≡ true → FitsNeed w m.pid b
    answers k m b h c = elim (cases_eq k worker) [
      | inl e ↦ let same : Answered l a ≡ Answered m b = sym (its_seat p q worker (Answered l a) _ t.0 k e) ∙ h in
          let one : l ≡ m = cc in
          let it : a ≡ b = cc in
          subst (λ (x : Lease). FitsNeed w x.pid b) one (subst (FitsNeed w l.pid) it good)
      | inr ne ↦ f.answers k m b (sym (old_seat p q worker (Answered l a) _ t.0 k ne) ∙ h) (subst (λ (e : Option Entry). (epoch_of e == m.epoch) ≡ true) (t.1 m.pid) c)
    ]

-- a worker that takes the next lease of a process
pub taken_fits : (p q : Pool) (worker pid now : ℕ) → HasTaken p q worker pid now → (w : World) → FitsWorld p w → FitsWorld q w
taken_fits p q worker pid now t w f = record {
  epochs = λ k l h. elim (cases_eq k worker) [
    | inl e ↦ let same : new ≡ l = is_new k l e h in
        let up : epoch_at q l.pid ≡ epoch_at p pid + 1 = ap (λ (x : Lease). epoch_at q x.pid) (sym same) ∙ raised in
        let is : epoch_at p pid + 1 ≡ l.epoch = ap (λ (x : Lease). x.epoch) same in
        omega arith
    | inr ne ↦ let low : l.epoch ≤ epoch_at p l.pid = f.epochs k l (was k l ne h) in
        let grown : epoch_at p l.pid ≤ epoch_at q l.pid = grows l.pid in
        omega arith
  ];
  apart = apart;
  answers = answers;
}
  where
    new : Lease
    new = lease_for p pid now

    raised : epoch_at q pid ≡ epoch_at p pid + 1
    raised = ap epoch_of t.entry

    grows : (k : ℕ) → epoch_at p k ≤ epoch_at q k
    grows k = elim (cases_eq k pid) [
      | inl e ↦ let up : epoch_at q k ≡ epoch_at p k + 1 = ap (λ (n : ℕ). epoch_at q n) e ∙ raised ∙ ap (λ (n : ℕ). epoch_at p n + 1) (sym e) in omega arith
      | inr ne ↦ let same : epoch_at q k ≡ epoch_at p k = ap epoch_of (t.others k ne) in omega arith
    ]

    is_new : (k : ℕ) (l : Lease) → k ≡ worker → lease_at q k ≡ Some l → new ≡ l
    is_new k l e h = let same : Some new ≡ Some l = sym (its_lease p q worker (Leased new) _ t.steps k e) ∙ h in cc

    was : (k : ℕ) (l : Lease) → k ≢ worker → lease_at q k ≡ Some l → lease_at p k ≡ Some l
    was k l ne h = sym (old_lease p q worker (Leased new) _ t.steps k ne) ∙ h

    -- an earlier lease of the process has another epoch
    below : (k : ℕ) (l : Lease) → lease_at p k ≡ Some l → l.pid ≡ pid → l.epoch ≡ epoch_at p pid + 1 → ⊥
    below k l h same e =
        let low : l.epoch ≤ epoch_at p l.pid = f.epochs k l h in
        let at : epoch_at p l.pid ≡ epoch_at p pid = ap (λ (n : ℕ). epoch_at p n) same in
        absurd (omega arith)

    apart : (j k : ℕ) (l m : Lease) → lease_at q j ≡ Some l → lease_at q k ≡ Some m → l.pid ≡ m.pid → l.epoch ≡ m.epoch → j ≡ k
    apart j k l m h g same one = elim (cases_eq j worker) [
      | inl e ↦ elim (cases_eq k worker) [
        | inl d ↦ e ∙ sym d
        | inr nd ↦ let is : new ≡ l = is_new j l e h in
            absurd (below k m (was k m nd g) (sym same ∙ ap (λ (x : Lease). x.pid) (sym is)) (sym one ∙ ap (λ (x : Lease). x.epoch) (sym is)))
      ]
      | inr ne ↦ elim (cases_eq k worker) [
        | inl d ↦ let is : new ≡ m = is_new k m d g in
            absurd (below j l (was j l ne h) (same ∙ ap (λ (x : Lease). x.pid) (sym is)) (one ∙ ap (λ (x : Lease). x.epoch) (sym is)))
        | inr nd ↦ f.apart j k l m (was j l ne h) (was k m nd g) same one
      ]
    ]

    answers : (k : ℕ) (l : Lease) (a : TaskAnswer) → seat_at q k ≡ Answered l a → is_current q l ≡ true → FitsNeed w l.pid a
    answers k l a h c = elim (cases_eq k worker) [
      | inl e ↦ let no : Leased new ≡ Answered l a = sym (its_seat p q worker (Leased new) _ t.steps k e) ∙ h in absurd (cc)
      | inr ne ↦
          let held : seat_at p k ≡ Answered l a = sym (old_seat p q worker (Leased new) _ t.steps k ne) ∙ h in
          elim (cases_eq l.pid pid) [
            | inl same ↦
                let now_at : epoch_at q l.pid ≡ l.epoch = eqb-true (epoch_at q l.pid) l.epoch c in
                absurd (below k l (ap lease_in held) same (sym now_at ∙ ap (λ (n : ℕ). epoch_at q n) same ∙ raised))
            | inr other ↦ f.answers k l a held (subst (λ (e : Option Entry). (epoch_of e == l.epoch) ≡ true) (t.others l.pid other) c)
          ]
    ]

-- a worker that has committed the turn of its process
pub closed_fits : (p q : Pool) (worker : ℕ) (l : Lease) → lease_at p worker ≡ Some l → is_current p l ≡ true → HasClosed p q worker l.pid → TurnsLeaveOthers
    → (w : World) (poll now : ℕ) (b : TaskAnswer) (cs : List Change) → IsReached w → Leads poll w (turn l.pid b now) cs → FitsWorld p w → FitsWorld q (applied w cs)
closed_fits p q worker l had current t law w poll now b cs reached leads f = record {
  epochs = λ k m h. let low : m.epoch ≤ epoch_at p m.pid = f.epochs k m (was k m h) in let e : epoch_at q m.pid ≡ epoch_at p m.pid = same_epoch m.pid in omega arith;
  apart = λ j k m n h g e one. f.apart j k m n (was j m h) (was k n g) e one;
  answers = answers;
}
  where
    freed_epoch : (o : Option Entry) → epoch_of (option_map freed o) ≡ epoch_of o
    freed_epoch None = refl
    freed_epoch (Some e) = refl

    same_epoch : (k : ℕ) → epoch_at q k ≡ epoch_at p k
    same_epoch k = elim (cases_eq k l.pid) [
      | inl e ↦ ap (λ (n : ℕ). epoch_at q n) e ∙ ap epoch_of t.entry ∙ freed_epoch (entry_at p l.pid) ∙ ap (λ (n : ℕ). epoch_at p n) (sym e)
      | inr ne ↦ ap epoch_of (t.others k ne)
    ]

    was : (k : ℕ) (m : Lease) → lease_at q k ≡ Some m → lease_at p k ≡ Some m
    was k m h = elim (cases_eq k worker) [
      | inl e ↦ let no : None ≡ Some m = sym (its_lease p q worker Free _ t.steps k e) ∙ h in absurd (cc)
      | inr ne ↦ sym (old_lease p q worker Free _ t.steps k ne) ∙ h
    ]

    moved : (m : Lease) (a : TaskAnswer) → m.pid ≢ l.pid → FitsNeed w m.pid a → FitsNeed (applied w cs) m.pid a
    moved m a ne g =
        let at : g.process.node ≡ m.pid = found_node m.pid w.records g.process g.found in
        let found : find_record g.process.node w.records ≡ Some g.process = ap (λ (n : ℕ). find_record n w.records) at ∙ g.found in
        let stays = law poll w l.pid now b cs reached leads g.process found (λ e. ne (sym at ∙ e)) in
        record {
          process = g.process;
          found = ap (λ (n : ℕ). find_record n (applied w cs).records) (sym at) ∙ stays.0;
          fitting = ap (λ (n : Need). fits n a) stays.1 ∙ g.fitting;
        }

    answers : (k : ℕ) (m : Lease) (a : TaskAnswer) → seat_at q k ≡ Answered m a → is_current q m ≡ true → FitsNeed (applied w cs) m.pid a
    answers k m a h c = elim (cases_eq k worker) [
      | inl e ↦ let no : Free ≡ Answered m a = sym (its_seat p q worker Free _ t.steps k e) ∙ h in absurd (cc)
      | inr ne ↦
          let held : seat_at p k ≡ Answered m a = sym (old_seat p q worker Free _ t.steps k ne) ∙ h in
          let last : is_current p m ≡ true = subst (λ (n : ℕ). (n == m.epoch) ≡ true) (same_epoch m.pid) c in
          elim (cases_eq m.pid l.pid) [
            | inl same ↦
                let mine : epoch_at p l.pid ≡ l.epoch = eqb-true (epoch_at p l.pid) l.epoch current in
                let its : epoch_at p m.pid ≡ m.epoch = eqb-true (epoch_at p m.pid) m.epoch last in
                absurd (ne (f.apart k worker m l (ap lease_in held) had same (sym its ∙ ap (λ (n : ℕ). epoch_at p n) same ∙ mine)))
            | inr other ↦ moved m a other (f.answers k m a held last)
          ]
    ]

-- the next lease of a process that may be leased has a number of 64 bits
pub next_epoch : (o : Option Entry) (now : ℕ) → is_over o now ≡ true → epoch_of o + 1 < 2 ^ 64
next_epoch None now h = omega arith
next_epoch (Some e) now h =
    let below : e.epoch < 2 ^ 64 - 1 = ltb-true e.epoch (2 ^ 64 - 1) (left (nat_lt e.epoch (2 ^ 64 - 1)) (nat_le e.until now) h) in
    let is : epoch_of (Some e) ≡ e.epoch = refl in
    omega arith

-- what isn't found at one place is looked for behind it
pub find_on : (p : ℕ → Bool) (xs : List ℕ) (i n : ℕ) → n ≡ suc i → i < length xs → p (slice_index xs i) ≡ false → find p (drop n xs) ≡ find p (drop i xs)
find_on p xs i n next lt fails = ap (λ (m : ℕ). find p (drop m xs)) next ∙ behind xs i lt fails
  where
    behind : (ys : List ℕ) (j : ℕ) → j < length ys → p (slice_index ys j) ≡ false → find p (drop (suc j) ys) ≡ find p (drop j ys)
    behind [] j lt fails = absurd (omega arith)
    behind (x ∷ ys) zero lt fails = sym (ap (λ (b : Bool). if b then Some x else find p ys) fails)
    behind (x ∷ ys) (suc j) lt fails = behind ys j (omega arith) fails

-- one idle worker more
pub pushed_idle : (ws : List Worker) → ((k : ℕ) → get_or ws k idle ≡ idle) → (k : ℕ) → get_or (ws ++ idle ∷ []) k idle ≡ idle
pushed_idle [] h zero = refl
pushed_idle [] h (suc k) = refl
pushed_idle (x ∷ xs) h zero = h 0
pushed_idle (x ∷ xs) h (suc k) = pushed_idle xs (λ n. h (suc n)) k
