-- Workers make their steps in the order of the seed, and each step is counted.
use Rattle.std.proofs.Common.{◌≡◌, inl, inr, ℕ, suc, ◌+◌, ◌/◌, ◌%◌, ◌^◌, ◌<◌, Bool, true, false, List, refl, sym, ap, subst, ◌∙◌, add-one, eq-eqb, arith}
use Rattle.std.specs.Prelude.{◌==◌, if◌then◌else◌}
use Rattle.std.proofs.Math.Nat.{mod-mod, mod-add-mod}
use Rattle.std.proofs.lemmas.Bool.{cases_eq, cases_lt, ne_eqb}
use Rattle.std.proofs.lemmas.List.{get_or_past}
use Rattle.wc_io.specs.Counts.{counted}
use Rattle.wc_io.specs.declared.pacer.Pacer as pacer
use Rattle.wc_value.specs.Draws.{after_draws, drawn}
use Rattle.wc_value.proofs.Draws.{after_more}
use Rattle.wc_state.specs.declared.record.Limits.{Limits}
use Rattle.wc_transport.specs.declared.transport.Transport as transport
use Rattle.wc_world.specs.World.{World}
use Rattle.wc_pool.specs.Pools.{Seats, idle, lease_in, seat_at, steps_at, workers_of}
use Rattle.wc_pool.specs.declared.pool.Pool.{Pool}
use Rattle.wc_pool.specs.declared.pool.Seat.{Seat}
use Rattle.wc_pool.specs.declared.pool.Seat.TheVariants.{Free}
use Rattle.wc_pool.specs.declared.pool.Worker.{Worker}
use Rattle.wc_workers.specs.Logs.{Move}
use Rattle.wc_workers.specs.Orders.{IsAfterStep, StandsAt, next_worker, steps_of, worker_of}
use Rattle.wc_workers.specs.Steps.{StepOf}
use Rattle.wc_workers.specs.Works.{HasNoLease, Works, and_rest, and_step, starts}
use Rattle.wc_workers.specs.declared.order.WorkerOrder.{WorkerOrder}
use Rattle.wc_workers.specs.declared.order.WorkerOrder.TheVariants.{Round, Drawn}
use Rattle.wc_workers.specs.declared.steps.Done.{Done}
use Rattle.wc_workers.specs.declared.steps.Done.TheVariants.{Took, Idle, Asked, Gave, Committed}

-- ---- the order

picks : (b : Bool) (x y : ℕ) → b ≡ true → (if b then x else y) ≡ x
picks true x y h = refl
picks false x y h = absurd (cc)

leaves : (b : Bool) (x y : ℕ) → b ≡ false → (if b then x else y) ≡ y
leaves true x y h = absurd (cc)
leaves false x y h = refl

after_one : (n x : ℕ) → after_draws (suc n) x ≡ drawn (after_draws n x)
after_one n x = ap (λ (k : ℕ). after_draws k x) (sym (add-one n)) ∙ after_more n x

-- the worker that comes next after so many steps is that of the next step
pub next_is : (workers seed n : ℕ) (o : WorkerOrder) → StandsAt workers seed n o → next_worker workers o ≡ worker_of workers seed n
next_is workers seed n (Round next) s =
    ap (λ (x : ℕ). x % workers) s.1 ∙ mod-mod n workers ∙ sym (picks (seed == 0) (n % workers) ((after_draws (suc n) seed / 65536) % workers) (eq-eqb seed 0 s.0))
next_is workers seed n (Drawn g) s =
    ap (λ (x : ℕ). (drawn x / 65536) % workers) s.1 ∙ ap (λ (x : ℕ). (x / 65536) % workers) (sym (after_one n seed))
    ∙ sym (leaves (seed == 0) (n % workers) ((after_draws (suc n) seed / 65536) % workers) (ne_eqb seed 0 s.0))

pub stands_next : (workers seed n : ℕ) (o later : WorkerOrder) → StandsAt workers seed n o → IsAfterStep workers o later → StandsAt workers seed (suc n) later
stands_next workers seed n (Round next) (Round later) s a =
    (s.0, a ∙ ap (λ (x : ℕ). (x % workers + 1) % workers) s.1 ∙ mod-add-mod (n % workers) workers 1 ∙ mod-add-mod n workers 1 ∙ ap (λ (x : ℕ). x % workers) (add-one n))
stands_next workers seed n (Round next) (Drawn g) s a = absurd a
stands_next workers seed n (Drawn g) (Round later) s a = absurd a
stands_next workers seed n (Drawn g) (Drawn later) s a = (s.0, a ∙ ap drawn s.1 ∙ sym (after_one n seed))

-- ---- what each step leaves of the workers

module _ {T : Type 0} (h : transport.Ghosts T) (limits : Limits) (worker now : ℕ) (b c : T) (q r : Pool) (v u : World) where
  -- a step leaves its worker some seat and one step more, and the others as they were
  pub step_seats : (done : Done) → StepOf h limits worker now b c q r v u done → (s : Seat) × Seats q r worker s (counted (steps_at q worker))
  step_seats (Took pid) s = (_, s.0.2.steps)
  step_seats Idle s = (_, s.0.2.0)
  step_seats (Asked pid) s = (_, s.0.kept.0)
  step_seats (Gave pid why) s = (_, s.0.left.0)
  step_seats (Committed pid) s = (_, s.0.closed.steps)

  pub step_count : (done : Done) → StepOf h limits worker now b c q r v u done → workers_of r ≡ workers_of q
  step_count done s = (step_seats done s).1.count

-- where each worker that is there has nothing, none has a lease
pub none_leased : (p : Pool) → ((k : ℕ) → k < workers_of p → seat_at p k ≡ Free) → HasNoLease p
none_leased p free k = elim (cases_lt k (workers_of p)) [
  | inl less ↦ ap lease_in (free k less)
  | inr more ↦ ap (λ (x : Worker). lease_in x.seat) (get_or_past p.workers.items k idle more)
]

-- ---- counts

-- so many more steps were counted
abbrev pub CountsMore : (n old new : ℕ) → Type 0
CountsMore n old new = old + n < 2 ^ 64 → new ≡ old + n

counts_one : (k old mid : ℕ) → CountsMore k old mid → CountsMore (k + 1) old (counted mid)
counts_one k old mid before = λ less. let is : mid ≡ old + k = before (omega arith) in omega arith

module _ {T P : Type 0} (h : transport.Ghosts T) (k : pacer.Ghosts P) (limits : Limits) (workers seed : ℕ) (a : T) (c : P) (p : Pool) (w : World) where
  -- each worker has made the steps that came to it
  pub counts_steps : (n m : ℕ) (log : List (Move T)) (b : T) (d : P) (q : Pool) (v : World) → Works h k limits workers seed a c p w n m log b d q v
      → (worker : ℕ) → CountsMore (steps_of workers seed n worker) (steps_at p worker) (steps_at q worker)
  counts_steps n m log b d q v starts worker = λ less. omega arith
  counts_steps n m log b d q v (and_rest i j l x y z o u works none rests) worker = counts_steps i j l x y o u works worker
  counts_steps n m log b d q v (and_step i j l x y o u works now done x_new y_new r t says busy does) worker =
      let before : CountsMore (steps_of workers seed i worker) (steps_at p worker) (steps_at o worker) = counts_steps i j l x y o u works worker in
      let s = step_seats h limits (worker_of workers seed i) now x x_new o r u t done does in
      elim (cases_eq (worker_of workers seed i) worker) [
        | inl e ↦
            let one : (if worker_of workers seed i == worker then 1 else 0) ≡ 1 = picks (worker_of workers seed i == worker) 1 0 (eq-eqb (worker_of workers seed i) worker e) in
            let up : steps_at r worker ≡ counted (steps_at o worker)
            = subst (λ (n : ℕ). steps_at r n ≡ counted (steps_at o n)) e (ap (λ (x : Worker). x.steps) s.1.seat) in
            subst (λ (x : ℕ × ℕ). CountsMore (steps_of workers seed i worker + x.0) (steps_at p worker) x.1) (λ i. (sym one i, sym up i))
            (counts_one (steps_of workers seed i worker) (steps_at p worker) (steps_at o worker) before)
        | inr ne ↦
            let no : (if worker_of workers seed i == worker then 1 else 0) ≡ 0 = leaves (worker_of workers seed i == worker) 1 0 (ne_eqb (worker_of workers seed i) worker ne) in
            let still : steps_at r worker ≡ steps_at o worker = ap (λ (x : Worker). x.steps) (s.1.others worker (λ e. ne (sym e))) in
            subst (λ (x : ℕ × ℕ). CountsMore (steps_of workers seed i worker + x.0) (steps_at p worker) x.1) (λ i. (sym no i, sym still i))
            (subst (λ (n : ℕ). CountsMore n (steps_at p worker) (steps_at o worker)) (omega arith) before)
      ]
