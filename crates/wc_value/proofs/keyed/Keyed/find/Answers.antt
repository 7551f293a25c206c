use Rattle.std.proofs.Common.{ap, sym, subst, ◌∙◌}
use Rattle.std.specs.Prelude.{slice_get}
use Rattle.wc_value.specs.Ascending.{Ascends, lookup, value_named}
use Rattle.wc_value.proofs.Searches.{lookup_at_place}
use Rattle.wc_value.proofs.keyed.Keyed.find.Goals as goal

pub returns : goal.returns
returns g c =
    let ascends : Ascends c.as_slice-entries.result.now = subst Ascends (sym c.as_slice-entries.ensures.value) c.self.invariant.0 in
    c.value_named.ensures
    ∙ ap (λ k. value_named c.args.name.now (slice_get c.as_slice-entries.result.now k)) c.place_of.ensures.place
    ∙ lookup_at_place c.args.name.now c.as_slice-entries.result.now ascends
    ∙ ap (lookup c.args.name.now) (c.as_slice-entries.ensures.value ∙ c.self.view_is)
