-- Directories belong to processes, through each step.
use Rattle.std.proofs.Common.{◌≡◌, inl, inr, ℕ, Bool, true, false, Option, Some, None, Result, refl, sym, subst}
use Rattle.std.specs.Prelude.{nat_le, nat_lt, if◌then◌else◌, IsSome}
use Rattle.wc_value.specs.declared.process.Request.{Request}
use Rattle.wc_journal.specs.declared.journal.Journal.{Journal}
use Rattle.wc_state.specs.declared.record.Limits.{Limits}
use Rattle.wc_transport.specs.declared.transport.Transport as transport
use Rattle.wc_world.specs.World.{World}
use Rattle.wc_machine.specs.Questions.{need}
use Rattle.wc_pool.specs.Pools.{epoch_at, why_given}
use Rattle.wc_pool.specs.declared.giving.Why.{Why}
use Rattle.wc_pool.specs.declared.pool.Lease.{Lease}
use Rattle.wc_pool.specs.declared.pool.Pool.{Pool}
use Rattle.wc_runner.specs.Core.Ready.{is_ready_at}
use Rattle.wc_runner.specs.Asked.{AreOfProcesses, IsAsked}
use Rattle.wc_runner.specs.declared.error.RunError.{RunError}
use Rattle.wc_runner.proofs.Placed.{own_placed, turn_placed}
use Rattle.wc_runner.proofs.Taken.{ready_there, what_it_needs}
use Rattle.wc_workers.specs.Steps.{AsksInStep, IsOrHeldTurn, given}

ready_left : (b c d : Bool) (x y z : Why) → (if b then Some x else if c then Some y else if d then None else Some z) ≡ None → d ≡ true
ready_left true c d x y z h = absurd (cc)
ready_left false true d x y z h = absurd (cc)
ready_left false false true x y z h = refl
ready_left false false false x y z h = absurd (cc)

-- the process of a lease that isn't given up is ready
pub valid_ready : (p : Pool) (w : World) (l : Lease) (now : ℕ) → why_given p w l now ≡ None → is_ready_at w l.pid now ≡ true
valid_ready p w l now valid = ready_left (nat_lt l.epoch (epoch_at p l.pid)) (nat_le l.until now) _ _ _ _ valid

-- what is asked in a step places at most the directory of a process that is there
pub asks_placed : {A T : Type 0} (h : transport.Ghosts T) (worker now : ℕ) (p : Pool) (w : World) (result : Result A RunError) (old new : T)
    → AsksInStep h worker now p w result old new → AreOfProcesses (h.placed old) w → AreOfProcesses (h.placed new) w
asks_placed {A} {T} h worker now p w result old new (inl same) are = subst (λ (t : T). AreOfProcesses (h.placed t) w) (sym same) are
asks_placed h worker now p w result old new (inr a) are =
    let r = ready_there w a.lease.pid now (valid_ready p w a.lease now a.valid) in
    let asked : IsAsked h a.lease.pid (need w r.0) old new = what_it_needs w a.lease.pid (λ n. IsAsked h a.lease.pid n old new) r.0 r.1 a.stays in
    own_placed a.lease.pid (need w r.0) (h.placed old) (h.placed new) w (subst IsSome (sym r.1) refl) asked.placed are

-- and so are they in what a turn with the worker's answer makes
pub held_placed : (limits : Limits) (worker now : ℕ) (p : Pool) (w v : World) (before journal : Journal) (placed : Option (ℕ → Option Request)) → AreOfProcesses placed w
    → IsOrHeldTurn limits worker now p w before v journal → AreOfProcesses placed v
held_placed limits worker now p w v before journal placed are (inl same) = subst (AreOfProcesses placed) (sym same.0) are
held_placed limits worker now p w v before journal placed are (inr t) =
    turn_placed (given t.answer limits now) t.lease.pid w v before journal placed are (inr t.turn)
