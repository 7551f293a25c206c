-- Whose step comes next.
use Rattle.std.specs.Prelude.{◌≡◌, ◌≢◌, ◌==◌, if◌then◌else◌, ℕ, zero, suc, ◌+◌, ◌/◌, ◌%◌}
use Rattle.wc_value.specs.Draws.{after_draws, drawn}
use Rattle.wc_workers.specs.declared.order.WorkerOrder.{WorkerOrder}
use Rattle.wc_workers.specs.declared.order.WorkerOrder.TheVariants.{Round, Drawn}

-- the worker of a step, by its number from 0: with seed 0 they come round by their numbers, and with another one each is drawn, modulo how many there are
abbrev pub worker_of : (workers seed step : ℕ) → ℕ
worker_of workers seed step = if seed == 0 then step % workers else (after_draws (suc step) seed / 65536) % workers

-- how many of so many steps, the first ones, are those of a worker
abbrev pub steps_of : (workers seed steps worker : ℕ) → ℕ
steps_of workers seed zero worker = 0
steps_of workers seed (suc n) worker = steps_of workers seed n worker + (if worker_of workers seed n == worker then 1 else 0)

-- the worker that comes next by an order
abbrev pub next_worker : (workers : ℕ) → WorkerOrder → ℕ
next_worker workers (Round next) = next % workers
next_worker workers (Drawn g) = (drawn g.x / 65536) % workers

-- the order once that one has made its step
abbrev pub IsAfterStep : (workers : ℕ) → WorkerOrder → WorkerOrder → Type 0
IsAfterStep workers (Round next) (Round later) = later ≡ (next % workers + 1) % workers
IsAfterStep workers (Round next) (Drawn g) = ⊥
IsAfterStep workers (Drawn g) (Round later) = ⊥
IsAfterStep workers (Drawn g) (Drawn h) = h.x ≡ drawn g.x

-- the order after so many steps from that of a seed
abbrev pub StandsAt : (workers seed steps : ℕ) → WorkerOrder → Type 0
StandsAt workers seed n (Round next) = (seed ≡ 0) × (next ≡ n % workers)
StandsAt workers seed n (Drawn g) = (seed ≢ 0) × (g.x ≡ after_draws n seed)
