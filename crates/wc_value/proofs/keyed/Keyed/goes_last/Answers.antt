use Rattle.std.proofs.Common.{◌≡◌, ◌-◌, length, ap, ◌∙◌}
use Rattle.std.specs.Prelude.{slice_get}
use Rattle.std.specs.Ordering.{nat_cmp, is_lt}
use Rattle.std.specs.Cmp.Lexicographic.{slice_cmp}
use Rattle.wc_value.specs.Ascending.{goes_last}
use Rattle.wc_value.proofs.Entries.{goes_last_is, after}
use Rattle.wc_value.proofs.keyed.Keyed.goes_last.Goals as goal

pub returns-in-Some : goal.returns-in-Some
returns-in-Some g c =
    let name = c.args.name.now in
    let e : after name (slice_get c.deref.result.now (length c.deref.result.now - 1)) ≡ goes_last name c.args.self.now
    = goes_last_is name c.deref.result.now ∙ ap (goes_last name) (c.deref.ensures.value ∙ c.self.view_is) in
    c.is_lt.ensures ∙ ap is_lt c.cmp.ensures ∙ ap (λ b. is_lt (slice_cmp nat_cmp b name)) c.bytes.ensures.value ∙ ap (after name) c.in-Some.ensures.value ∙ e
