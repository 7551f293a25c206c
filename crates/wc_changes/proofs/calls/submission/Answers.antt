use Rattle.std.proofs.Common.{◌≡◌, ◌+◌, ◌≤◌, length, arith}
use Rattle.wc_changes.specs.Called.{added}
use Rattle.wc_changes.proofs.Counted.{fewer_calls}
use Rattle.wc_changes.proofs.calls.submission.Goals as goal

pub waiting-requires : goal.waiting-requires
waiting-requires c =
    let calls = c.args.calls.now in
    let fewer : length calls ≤ added calls = fewer_calls calls in
    let few : c.args.first + added calls ≤ 8000001 = c.requires.few in
    let earlier : c.args.checkpoint.calls ≤ 8000001 = c.requires.earlier in
    let many : c.len.result ≡ length calls = c.len.ensures.value in
    omega arith
