use Rattle.std.proofs.Common.{◌≡◌, ℕ, ◌+◌, ◌≤◌, ◌<◌, true, length, take, List}
use Rattle.wc_disk.specs.Steps.{overwritten}
use Rattle.wc_file_disk.specs.Calls.{calls_of, is_held, floor}
use Rattle.wc_file_disk.specs.Holds.{Between}
use Rattle.wc_file_disk.proofs.held.write_all.Given as goal

abbrev pub invariant-loop : goal.invariant-loop
invariant-loop g l = record {
  path : l.file.path ≡ l.fn.file.path;
  held : is_held (calls_of l.file.log.events) ≡ true;
  within : l.done ≤ length l.bytes;
  stays : floor (calls_of l.fn.file.log.events) ≤ floor (calls_of l.file.log.events);
  reaches : l.at + l.done ≤ floor (calls_of l.file.log.events);
  written : Between (calls_of l.fn.file.log.events) (calls_of l.file.log.events) (λ before after. l.at ≤ length before → after ≡ overwritten l.at (take l.done l.bytes) before);
}
