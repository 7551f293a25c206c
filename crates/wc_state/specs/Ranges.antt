-- Which limits may be set.
use Rattle.std.specs.Prelude.{◌≤◌}
use Rattle.wc_state.specs.declared.record.Limits.{Limits}

-- each limit is within its range (nodes and bytes by count, `poll_ms` in milliseconds)
pub record AreLimits (l : Limits) : Type 0 where
  pub some_nodes : 1 ≤ l.max_nodes
  pub few_nodes : l.max_nodes ≤ 8000000
  pub some_bytes : 1024 ≤ l.max_bytes
  pub few_bytes : l.max_bytes ≤ 2147483648
  pub later : 1 ≤ l.poll_ms
  pub soon : l.poll_ms ≤ 600000
