use Rattle.std.proofs.Common.{◌≡◌, ◌<◌, List, Some, None, length, get_or, refl, rules, subst, sym, ap, ◌∙◌}
use Rattle.std.specs.List.{Contains}
use Rattle.std.specs.Option.{option_copied}
use Rattle.wc_value.specs.Indexes.{IsIndex, place_at}
use Rattle.wc_value.specs.Requests.{dictionary_of, requests}
use Rattle.wc_value.specs.Spells.{Spells}
use Rattle.wc_value.specs.declared.process.Request.{Request}
use Rattle.wc_value.specs.declared.process.JobResult.{JobResult}
use Rattle.wc_value.proofs.Told.{place_within, told_none, told_row}
use Rattle.wc_value.proofs.table.Table.find_spelled.Goals as goal

pub returns-in-None-clause-found : goal.returns-in-None-clause-found
returns-in-None-clause-found c =
    let q = c.args.request.now in
    let bytes = c.as_slice.result.now in
    let none : place_at bytes c.self.inside.places ≡ None = sym c.get.ensures.value ∙ ap option_copied c.in-None.is in
    λ has. told_none c.self.inside.rows c.self.inside.places q bytes (subst (Spells (dictionary_of q)) (sym c.as_slice.ensures) c.in_ok-spelled.ensures.spells) c.self.invariant.1 none
    (subst (λ (rows : List (Request × JobResult)). Contains (requests rows) q) (sym c.self.view_is) has)

pub bounds-as_slice-at : goal.bounds-as_slice-at
bounds-as_slice-at c =
    let found : place_at c.as_slice.result.now c.self.inside.places ≡ Some c.in-Some.at.now = sym c.get.ensures.value ∙ ap option_copied c.in-Some.is in
    subst (λ (rows : List (Request × JobResult)). c.in-Some.at.now < length rows) (sym c.as_slice-in-Some.ensures)
    (place_within c.self.inside.rows c.self.inside.places c.as_slice.result.now c.in-Some.at.now c.self.invariant.1 found)

pub returns-clause-found : goal.returns-clause-found
returns-clause-found c =
    let q = c.args.request.now in
    let bytes = c.as_slice.result.now in
    let rows = c.as_slice-in-Some.result.now in
    let at = c.in-Some.at.now in
    let found : place_at bytes c.self.inside.places ≡ Some at = sym c.get.ensures.value ∙ ap option_copied c.in-Some.is in
    let index : IsIndex rows (length rows) c.self.inside.places
    = subst (λ (rs : List (Request × JobResult)). IsIndex rs (length rs) c.self.inside.places) (sym c.as_slice-in-Some.ensures) c.self.invariant.1 in
    subst (λ (rs : List (Request × JobResult)). Contains rs (q, (get_or rows at c.index-as_slice-at.result).1)) (c.as_slice-in-Some.ensures ∙ c.self.view_is)
    (told_row rows c.self.inside.places q bytes at (get_or rows at c.index-as_slice-at.result) c.index-as_slice-at.result
    (subst (Spells (dictionary_of q)) (sym c.as_slice.ensures) c.in_ok-spelled.ensures.spells) index found refl)

pub offset_bounds-as_slice-at : goal.offset_bounds-as_slice-at
offset_bounds-as_slice-at c =
    let found : place_at c.as_slice.result.now c.self.inside.places ≡ Some c.in-Some.at.now = sym c.get.ensures.value ∙ ap option_copied c.in-Some.is in
    let within : c.in-Some.at.now < length c.as_slice-in-Some.result.now
    = subst (λ (rows : List (Request × JobResult)). c.in-Some.at.now < length rows) (sym c.as_slice-in-Some.ensures)
    (place_within c.self.inside.rows c.self.inside.places c.as_slice.result.now c.in-Some.at.now c.self.invariant.1 found) in
    search rules
