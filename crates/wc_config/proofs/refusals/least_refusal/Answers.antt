use Rattle.std.proofs.Common.{◌∙◌, ◌≡◌, true, codes, sym, ap}
use Rattle.toml.specs.View.{table_view}
use Rattle.wc_config.specs.Refusals.{has_both}
use Rattle.wc_config.specs.Settings.{names_at}
use Rattle.wc_config.specs.Seen.{seen}
use Rattle.wc_config.proofs.Least.{both-last}
use Rattle.wc_config.proofs.refusals.least_refusal.Goals as goal

pub returns-in_ok-path : goal.returns-in_ok-path
returns-in_ok-path c =
    let ms = table_view c.args.table.now in
    let both : has_both (names_at (codes "enabled") ms) (names_at (codes "disabled") ms) ≡ true =
    sym (ap (λ e. has_both e c.args.disabled.now) c.requires.0 ∙ ap (λ d. has_both (names_at (codes "enabled") ms) d) c.requires.1)
    ∙ sym c.has_both.ensures ∙ c.if-has_both.true in
    c.with.ensures ∙ both-last ms (seen c.in_ok-least.least) c.in_ok-path.field-0 both c.in_ok-least.ensures c.in_ok-path.ensures
