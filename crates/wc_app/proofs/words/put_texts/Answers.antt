use Rattle.std.proofs.Common.{◌≡◌, ◌++◌, ◌∙◌, List, ap, map, map-id, refl, string_bytes, sym}
use Rattle.std.specs.Vec.Iter.{into_iter_items}
use Rattle.std.proofs.lemmas.Iterator.Adapters.{YieldsList-from_vec}
use Rattle.std.proofs.lemmas.Iterator.Consumers.{YieldsList-end}
use Rattle.wc_app.proofs.words.put_texts.Goals as goal

pub returns : goal.returns
returns c =
    let s = c.into_iter-text-iterator.result in
    let same : into_iter_items s ≡ into_iter_items c.args.texts = ap (λ i. into_iter_items i) c.into_iter-text-iterator.ensures.into_iter_gives in
    let end = YieldsList-end (YieldsList-from_vec (into_iter_items s) refl s.rest.ok.0) c.loop-text.yielded c.loop-text.text-iterator c.loop-text.yielded_by c.next.result c.next.new.self c.in-None.is c.next.ensures.steps in
    c.loop-text.invariant ∙ ap (λ texts. c.args.words.now ++ map string_bytes texts) (sym (map-id c.loop-text.yielded) ∙ end.0 ∙ same)
