use Rattle.std.proofs.Common.{Option, string_bytes, sym, ap, ◌∙◌}
use Rattle.toml.specs.View.{view, members_view}
use Rattle.wc_config.specs.Keys.{part_named}
use Rattle.wc_config.specs.Refusals.{Refusal, all_refusals, top_refusals, least_after}
use Rattle.wc_config.specs.Seen.{seen}
use Rattle.wc_config.proofs.Least.{least_after-append}
use Rattle.wc_config.proofs.refusals.least_of_all.Goals as goal

pub loop-key-preserved : goal.loop-key-preserved
loop-key-preserved c =
    let best = seen c.loop-key.least in
    let key = string_bytes c.in-Some.key.now in
    let rest = all_refusals (members_view c.next.new.self) in
    let turn = rw c.as_str.ensures.value at c.in_ok-least.ensures in
    c.loop-key.invariant ∙ ap (λ es. least_after best (all_refusals (members_view es))) c.in-Some.ensures.steps
    ∙ least_after-append best (top_refusals key (part_named key) (view c.in-Some.value.now)) rest ∙ ap (λ (b : Option Refusal). least_after b rest) (sym turn)
