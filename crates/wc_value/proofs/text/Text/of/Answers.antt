use Rattle.std.proofs.Common.{◌≡◌, true, false, ap, sym, subst, ◌∙◌}
use Rattle.std.specs.Str.{IsUtf8}
use Rattle.wc_value.proofs.Utf8.{some_text, no_text}
use Rattle.wc_value.proofs.text.Text.of.Goals as goal

pub returns-in-Ok : goal.returns-in-Ok
returns-in-Ok c = some_text _ _ c.in-Ok.inner.ok (ap (λ v. v.items) c.in-Ok.ensures.ok ∙ c.into_vec.ensures.value)

pub returns : goal.returns
returns c = no_text c.args.bytes
    (λ u. let e : false ≡ true = c.in-Err.ensures.succeeds (subst IsUtf8 (sym c.into_vec.ensures.value) u) in absurd (cc))
