-- What a pool of workers holds.
use Rattle.std.specs.Prelude.{◌≡◌, ◌≢◌, ◌<◌, ◌+◌, ◌-◌, ◌^◌, ◌&&◌, min, nat_le, nat_lt, ◌==◌, if◌then◌else◌, ℕ, Bool, true, false, length, get_or, Option, Some, None, option_map}
use Rattle.std.specs.BTreeMap.{get}
use Rattle.std.specs.List.{find}
use Rattle.std.specs.Ordering.{nat_cmp}
use Rattle.wc_io.specs.Counts.{counted}
use Rattle.wc_records.specs.Ready.{is_ready_at}
use Rattle.wc_world.specs.World.{World}
use Rattle.wc_machine.specs.declared.answer.TaskAnswer.{TaskAnswer}
use Rattle.wc_machine.specs.Readiness.{ready_at}
use Rattle.wc_pool.specs.declared.pool.Entry.{Entry}
use Rattle.wc_pool.specs.declared.pool.Lease.{Lease}
use Rattle.wc_pool.specs.declared.pool.Pool.{Pool}
use Rattle.wc_pool.specs.declared.pool.Seat.{Seat}
use Rattle.wc_pool.specs.declared.pool.Seat.TheVariants.{Free, Leased, Answered}
use Rattle.wc_pool.specs.declared.pool.Worker.{Worker}
use Rattle.wc_pool.specs.declared.giving.Why.{Why}
use Rattle.wc_pool.specs.declared.giving.Why.TheVariants.{Stale, Lapsed, NotReady}

-- ---- workers

-- how many workers a pool has
abbrev pub workers_of : Pool → ℕ
workers_of p = length p.workers.items

-- a worker that isn't there has nothing
abbrev pub idle : Worker
idle = record { seat = Free; steps = 0 }

-- a worker of a pool, by its number
abbrev pub worker_at : Pool → (worker : ℕ) → Worker
worker_at p k = get_or p.workers.items k idle

-- the seat of a worker
abbrev pub seat_at : Pool → (worker : ℕ) → Seat
seat_at p k = (worker_at p k).seat

-- how many steps a worker has taken
abbrev pub steps_at : Pool → (worker : ℕ) → ℕ
steps_at p k = (worker_at p k).steps

-- the lease of a seat, if it has one
abbrev pub lease_in : Seat → Option Lease
lease_in Free = None
lease_in (Leased l) = Some l
lease_in (Answered l a) = Some l

-- the lease that a worker has
abbrev pub lease_at : Pool → (worker : ℕ) → Option Lease
lease_at p k = lease_in (seat_at p k)

-- ---- processes that were ever leased

-- what is kept of a process, if it was ever leased
abbrev pub entry_at : Pool → (pid : ℕ) → Option Entry
entry_at p pid = get nat_cmp p.entries pid

-- the epoch of a process's last lease, 0 where there was none
abbrev pub epoch_of : Option Entry → ℕ
epoch_of None = 0
epoch_of (Some e) = e.epoch

-- how many leases of a process there were
abbrev pub epoch_at : Pool → (pid : ℕ) → ℕ
epoch_at p pid = epoch_of (entry_at p pid)

-- a lease is the last one of its process
abbrev pub is_current : Pool → Lease → Bool
is_current p l = epoch_at p l.pid == l.epoch

-- ---- taking

-- whether a process may be leased at a moment: it had no lease, or the last one is over and a further epoch is left
abbrev pub is_over : Option Entry → (now : ℕ) → Bool
is_over None now = true
is_over (Some e) now = nat_lt e.epoch (2 ^ 64 - 1) && nat_le e.until now

-- a process may be leased at a moment: it never was, or its last lease has lapsed, and is below the greatest number
abbrev pub is_free : Pool → (now pid : ℕ) → Bool
is_free p now pid = is_over (entry_at p pid) now

-- the lowest ready process that may be leased at a moment
abbrev pub free_at : Pool → World → (now : ℕ) → Option ℕ
free_at p w now = find (is_free p now) (ready_at w now)

-- the next lease of a process, from a moment on for a minute
abbrev pub lease_for : Pool → (pid now : ℕ) → Lease
lease_for p pid now = record { pid = pid; epoch = epoch_at p pid + 1; until = min (now + 60000) (2 ^ 64 - 1) }

-- ---- giving up

-- Why a lease is given up at a moment, by the first reason that holds: a later lease of the process was begun, or it has lapsed, or the process
-- isn't ready.
abbrev pub why_given : Pool → World → Lease → (now : ℕ) → Option Why
why_given p w l now =
    if nat_lt l.epoch (epoch_at p l.pid) then Some (Stale l.epoch (epoch_at p l.pid))
    else if nat_le l.until now then Some (Lapsed l.until now)
    else if is_ready_at w.records l.pid now then None else Some NotReady

-- ---- what a step leaves

-- The pool has so many workers, none of which has anything or has made a step, and no process was ever leased.
pub record IsNew (workers : ℕ) (p : Pool) : Type 0 where
  pub count : workers_of p ≡ workers
  pub idle : (k : ℕ) → worker_at p k ≡ idle
  pub none : (pid : ℕ) → entry_at p pid ≡ None

-- what is kept of each process is as before
abbrev pub KeepsEntries : Pool → Pool → Type 0
KeepsEntries p q = (pid : ℕ) → entry_at q pid ≡ entry_at p pid

-- One worker has this now, after so many steps, and each other one is as before.
pub record Seats (p q : Pool) (worker : ℕ) (s : Seat) (steps : ℕ) : Type 0 where
  pub seat : worker_at q worker ≡ record { seat = s; steps = steps }
  pub others : (k : ℕ) → k ≢ worker → worker_at q k ≡ worker_at p k
  pub count : workers_of q ≡ workers_of p

-- One worker has made a step, and has this after it.
abbrev pub Steps : Pool → Pool → (worker : ℕ) → Seat → Type 0
Steps p q worker s = Seats p q worker s (counted (steps_at p worker))

-- A worker has made a step and has this after it, and what is kept of each process is as before.
abbrev pub Turns : Pool → Pool → (worker : ℕ) → Seat → Type 0
Turns p q worker s = Steps p q worker s × KeepsEntries p q

-- A worker has made a step and has the next lease of the process, and what is kept of each other process is as before.
pub record HasTaken (p q : Pool) (worker pid now : ℕ) : Type 0 where
  pub steps : Steps p q worker (Leased (lease_for p pid now))
  pub entry : entry_at q pid ≡ Some (record { epoch = epoch_at p pid + 1; until = min (now + 60000) (2 ^ 64 - 1) })
  pub others : (k : ℕ) → k ≢ pid → entry_at q k ≡ entry_at p k

-- a process may be leased again at every moment
abbrev pub freed : Entry → Entry
freed e = record { epoch = e.epoch; until = 0 }

-- A worker has made a step and has nothing, and the process may be leased again at every moment; what is kept of each other one is as before.
pub record HasClosed (p q : Pool) (worker pid : ℕ) : Type 0 where
  pub steps : Steps p q worker Free
  pub entry : entry_at q pid ≡ option_map freed (entry_at p pid)
  pub others : (k : ℕ) → k ≢ pid → entry_at q k ≡ entry_at p k

-- A worker has nothing, after as many steps as before, and all else is as before.
pub record HasLost (p q : Pool) (worker : ℕ) : Type 0 where
  pub seats : Seats p q worker Free (steps_at p worker)
  pub entries : KeepsEntries p q

-- Each worker is as before, and so is what is kept of each process.
pub record IsSamePool (p q : Pool) : Type 0 where
  pub workers : q.workers ≡ p.workers
  pub entries : KeepsEntries p q
