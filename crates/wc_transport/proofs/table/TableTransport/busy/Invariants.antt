use Rattle.std.proofs.Common.{◌≡◌, ◌==◌, drop}
use Rattle.std.specs.Map.{lookup}
use Rattle.wc_transport.proofs.table.TableTransport.busy.Given as goal

abbrev pub invariant-loop-place : goal.invariant-loop-place
invariant-loop-place l = lookup (λ k. k == l.dir) (drop l.place-index l.place-items) ≡ lookup (λ k. k == l.dir) l.place-items
