-- A commit, and a turn, are refused alike by journals that end at the same place.
use Rattle.std.proofs.Common.{◌≡◌, inl, inr, ℕ, ◌-◌, ◌^◌, ◌<◌, ◌≤◌, List, length, sym, subst}
use Rattle.std.specs.Prelude.{min}
use Rattle.wc_journal.specs.declared.journal.Journal.{Journal}
use Rattle.wc_journal.specs.Refusals.{size_after}
use Rattle.wc_store.specs.Spelled.{spelled}
use Rattle.wc_state.specs.declared.record.Limits.{Limits}
use Rattle.wc_state.specs.declared.record.What.TheVariants as thing
use Rattle.wc_world.specs.declared.change.Change.{Change}
use Rattle.wc_world.specs.World.{World}
use Rattle.wc_world.specs.Applied.{applied}
use Rattle.wc_store.specs.Refusals.{RefusesCommit, byte_limit}
use Rattle.wc_store.specs.declared.error.StoreError.{StoreError}
use Rattle.wc_store.specs.declared.error.StoreError.TheVariants as store_error
use Rattle.wc_runner.specs.declared.error.RunError.{RunError}
use Rattle.wc_runner.specs.declared.error.RunError.TheVariants.{DiskFault, Full, OutOfMemory}
use Rattle.wc_runner.specs.Outside.{Outside}
use Rattle.wc_runner.specs.Refusals.{RefusesItsCommit, RefusesStep}

-- of one version
pub commit_by : (j k : Journal) (limits : Limits) (w : World) (cs : List Change) (e : StoreError) → k.end ≡ j.end → k.version ≡ j.version → RefusesCommit j limits w cs e
    → RefusesCommit k limits w cs e
commit_by j k limits w cs store_error.DiskFault end version h =
    (h.0, subst (λ (x : ℕ × ℕ). size_after x.0 x.1 (spelled cs) ≤ byte_limit x.1 limits.max_bytes) (λ i. (sym end i, sym version i)) h.1)
commit_by j k limits w cs (store_error.Damaged disk at found) end version h = h
commit_by j k limits w cs (store_error.Full thing.Nodes count limit) end version h = h
commit_by j k limits w cs (store_error.Full thing.Bytes count limit) end version h =
    subst (λ (x : ℕ × ℕ). (length (applied w cs).nodes ≤ limits.max_nodes) × (count ≡ min (size_after x.0 x.1 (spelled cs)) (2 ^ 64 - 1))
    × (limit ≡ byte_limit x.1 limits.max_bytes) × (byte_limit x.1 limits.max_bytes < size_after x.0 x.1 (spelled cs))) (λ i. (sym end i, sym version i)) h
commit_by j k limits w cs (store_error.Full thing.Batches count limit) end version h = h
commit_by j k limits w cs (store_error.Full thing.Generations count limit) end version h = h
commit_by j k limits w cs store_error.AlreadyThere end version h = h
commit_by j k limits w cs store_error.OutOfMemory end version h = h

its_commit_by : (o : Outside) (j k : Journal) (w : World) (pid : ℕ) (e : StoreError) → k.end ≡ j.end → k.version ≡ j.version → RefusesItsCommit o j w pid e
    → RefusesItsCommit o k w pid e
its_commit_by o j k w pid e end version h = record {
  changes = h.changes;
  turn = h.turn;
  accepted = h.accepted;
  room = h.room;
  refused = commit_by j k o.limits w h.changes e end version h.refused;
}

-- and so is a turn
pub step_by : (o : Outside) (j k : Journal) (w : World) (pid : ℕ) (e : RunError) → k.end ≡ j.end → k.version ≡ j.version → RefusesStep o j w pid e → RefusesStep o k w pid e
step_by o j k w pid DiskFault end version h = its_commit_by o j k w pid store_error.DiskFault end version h
step_by o j k w pid (Full what count limit) end version (inl h) = inl h
step_by o j k w pid (Full what count limit) end version (inr h) = inr (its_commit_by o j k w pid (store_error.Full what count limit) end version h)
step_by o j k w pid OutOfMemory end version h = tt
