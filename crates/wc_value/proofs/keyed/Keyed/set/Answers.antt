use Rattle.std.proofs.Common.{◌≡◌, ap, subst, sym, ◌∙◌, rules, true, false}
use Rattle.std.specs.Prelude.{slice_get}
use Rattle.wc_value.specs.Ascending.{Ascends, put, place, is_named}
use Rattle.wc_value.proofs.Puts.{replaced, inserted, ascends_put}
use Rattle.wc_value.proofs.keyed.Keyed.set.Goals as goal

pub invariant_of-self : goal.invariant_of-self
invariant_of-self g c =
    let at_is : c.place_of-at.result ≡ place c.args.name c.self.inside.items.items
    = c.place_of-at.ensures.place ∙ (λ i. place (c.bytes.ensures.value i) (c.as_slice.ensures.value i)) in
    let named : is_named c.args.name (slice_get c.self.inside.items.items c.place_of-at.result) ≡ true
    = (λ i. is_named (sym c.bytes-2.ensures.value i) (slice_get (sym c.as_slice-2.ensures.value i) c.place_of-at.result))
    ∙ sym c.has_name.ensures ∙ c.if-has_name.true in
    (subst Ascends (sym (replaced _ _ _ _ at_is named)) (ascends_put _ _ _ c.self.invariant.0), search rules)

pub returns-then-has_name-clause-ok : goal.returns-then-has_name-clause-ok
returns-then-has_name-clause-ok g c =
    let at_is : c.place_of-at.result ≡ place c.args.name c.self.inside.items.items
    = c.place_of-at.ensures.place ∙ (λ i. place (c.bytes.ensures.value i) (c.as_slice.ensures.value i)) in
    let named : is_named c.args.name (slice_get c.self.inside.items.items c.place_of-at.result) ≡ true
    = (λ i. is_named (sym c.bytes-2.ensures.value i) (slice_get (sym c.as_slice-2.ensures.value i) c.place_of-at.result))
    ∙ sym c.has_name.ensures ∙ c.if-has_name.true in
    replaced _ _ _ _ at_is named ∙ ap (put c.args.name c.args.value) c.self.view_is

pub invariant_of-self-2 : goal.invariant_of-self-2
invariant_of-self-2 g c =
    let at_is : c.place_of-at.result ≡ place c.args.name c.self.inside.items.items
    = c.place_of-at.ensures.place ∙ (λ i. place (c.bytes.ensures.value i) (c.as_slice.ensures.value i)) in
    let named : is_named c.args.name (slice_get c.self.inside.items.items c.place_of-at.result) ≡ false
    = (λ i. is_named (sym c.bytes-2.ensures.value i) (slice_get (sym c.as_slice-2.ensures.value i) c.place_of-at.result))
    ∙ sym c.has_name.ensures ∙ c.if-has_name.false in
    (subst Ascends (sym (c.in_ok-insert.ensures.items ∙ inserted _ _ _ _ at_is named)) (ascends_put _ _ _ c.self.invariant.0), search rules)

pub returns-clause-ok : goal.returns-clause-ok
returns-clause-ok g c =
    let at_is : c.place_of-at.result ≡ place c.args.name c.self.inside.items.items
    = c.place_of-at.ensures.place ∙ (λ i. place (c.bytes.ensures.value i) (c.as_slice.ensures.value i)) in
    let named : is_named c.args.name (slice_get c.self.inside.items.items c.place_of-at.result) ≡ false
    = (λ i. is_named (sym c.bytes-2.ensures.value i) (slice_get (sym c.as_slice-2.ensures.value i) c.place_of-at.result))
    ∙ sym c.has_name.ensures ∙ c.if-has_name.false in
    c.in_ok-insert.ensures.items ∙ inserted _ _ _ _ at_is named ∙ ap (put c.args.name c.args.value) c.self.view_is
