use Rattle.std.proofs.Common.{◌≡◌, ◌<◌, length, Some, sym, ap, ◌∙◌, arith}
use Rattle.std.specs.Prelude.{slice_get, slice_index_or}
use Rattle.std.proofs.lemmas.Option.{slice_get-get_or}
use Rattle.wc_matches.specs.Masks.{nth_place}
use Rattle.wc_matches.proofs.Masked.{brought_next, brought_all}
use Rattle.wc_matches.proofs.masks.sweep.Goals as goal

pub loop-n-preserved : goal.loop-n-preserved
loop-n-preserved c =
    let l = c.loop-n in
    let links = c.args.graph.now.links in
    let join = c.args.join.now in
    let place = c.nth_place-place.result in
    let x = c.index-links-place.result in
    let wide : length c.as_slice-links.result.now ≡ length links = ap length l.invariant.links in
    let within : place < length links = omega (arith, c.nth_place-place.ensures.within, wide) in
    let read : slice_get links place ≡ Some x =
    slice_get-get_or links place x within ∙ ap (λ y. Some y) (ap (λ ls. slice_index_or ls place x) (sym l.invariant.links) ∙ sym c.index-links-place.is) in
    let at : place ≡ nth_place join.forward (length links) l.n = c.nth_place-place.ensures.place ∙ ap (λ n. nth_place join.forward n l.n) wide in
    record {
      size = c.bring.ensures.size ∙ l.invariant.size;
      links = l.invariant.links;
      sound = λ s. c.bring.ensures.sound links place read (l.invariant.sound s);
      brought = λ none. brought_next links join c.args.own.now l.masks c.bring.new.masks l.n c.bring.result l.changed x l.invariant.brought
          c.bring.ensures.same c.bring.ensures.brought (sym (ap (slice_get links) at) ∙ read) (sym c.either-changed.ensures ∙ none);
    }

pub returns-clause-brought : goal.returns-clause-brought
returns-clause-brought c =
    let l = c.loop-n in
    let links = c.args.graph.now.links in
    let wide : length c.as_slice-links.result.now ≡ length links = ap length l.invariant.links in
    λ none. brought_all links c.args.join.now c.args.own.now l.masks l.n (omega (arith, c.loop-n-test.false, wide)) (l.invariant.brought none)
