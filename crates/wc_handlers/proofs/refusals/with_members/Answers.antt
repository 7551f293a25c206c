use Rattle.std.proofs.Common.{Option, string_bytes, sym, ap, ◌∙◌}
use Rattle.toml.specs.View.{view, members_view}
use Rattle.wc_handlers.specs.Keys.{holds_of}
use Rattle.wc_handlers.specs.Refusals.{Refusal, member_refusals, value_refusals, least_after}
use Rattle.wc_handlers.specs.Seen.{seen}
use Rattle.wc_handlers.proofs.Least.{least_after-append}
use Rattle.wc_handlers.proofs.refusals.with_members.Goals as goal

pub loop-key-preserved : goal.loop-key-preserved
loop-key-preserved c =
    let best = seen c.loop-key.least in
    let p = c.args.place in
    let key = string_bytes c.in-Some.key.now in
    let rest = member_refusals p (members_view c.next.new.self) in
    let turn = rw c.as_str.ensures.value at c.in_ok-least.ensures in
    c.loop-key.invariant ∙ ap (λ es. least_after best (member_refusals p (members_view es))) c.in-Some.ensures.steps
    ∙ least_after-append best (value_refusals p key (holds_of p key) (view c.in-Some.value.now)) rest ∙ ap (λ (b : Option Refusal). least_after b rest) (sym turn)
