use Rattle.std.proofs.Common.{◌≡◌, ℕ, ◌+◌, ◌≤◌, ◌<◌, true, length, take, drop, List}
use Rattle.wc_file_disk.specs.Calls.{calls_of, is_held, floor}
use Rattle.wc_file_disk.specs.Holds.{Between, Keeps}
use Rattle.wc_file_disk.proofs.held.read_all.Given as goal

abbrev pub invariant-loop : goal.invariant-loop
invariant-loop g l = record {
  path : l.file.path ≡ l.fn.file.path;
  held : is_held (calls_of l.file.log.events) ≡ true;
  within : l.done ≤ length l.into;
  stays : floor (calls_of l.file.log.events) ≡ floor (calls_of l.fn.file.log.events);
  kept : Keeps (calls_of l.fn.file.log.events) (calls_of l.file.log.events);
  size : length l.into ≡ length l.initial.into;
  bytes : Between (calls_of l.fn.file.log.events) (calls_of l.file.log.events) (λ before after. take l.done l.into ≡ take l.done (drop l.at before));
}
