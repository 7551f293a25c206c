use Rattle.std.proofs.Common.{sym, ap, ◌∙◌}
use Rattle.std.specs.Prelude.{Option}
use Rattle.wc_state.specs.Context.{found_at, with_set}
use Rattle.wc_machine.specs.Calls.{joined}
use Rattle.wc_outline.specs.declared.bindings.Joining.{Joining}
use Rattle.wc_outline.specs.Binding.{with_last}
use Rattle.wc_outline.proofs.Joined.{joins}
use Rattle.wc_outline.proofs.bindings.bind_one.Goals as goal

pub returns-then-same_text : goal.returns-then-same_text
returns-then-same_text c =
    let ctx = c.args.ctx.now in
    let a = c.args.awaited.now in
    let j = c.in-Some.joining in
    joins ctx j.key a.key a.append j.pids c.push.new.self a.pid c.if-awaited.true (c.same_text.ensures.0 c.if-same_text.true) c.in_ok-push.ensures.ok
    ∙ ap (λ (o : Option Joining). with_set (with_last ctx o) a.key (joined a.append (found_at (with_last ctx o) a.key) a.pid)) (sym c.in-Some.is)
