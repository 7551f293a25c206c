use Rattle.std.proofs.Common.{◌≡◌, ◌++◌, ℕ, List, length, take, drop, sym, ap, ◌∙◌, subst}
use Rattle.std.proofs.lemmas.List.{take_at}
use Rattle.wc_matches.specs.Masks.{AreMasks, AreOwn}
use Rattle.wc_matches.proofs.Masked.{masks_are}
use Rattle.wc_matches.proofs.masks.masks_of.Goals as goal

pub returns-then-settle : goal.returns-then-settle
returns-then-settle c =
    let links = c.args.graph.now.links in
    let join = c.args.join.now in
    let own = c.in_ok-own.own in
    let masks = c.in_ok-masks.masks in
    let own_size : length c.put_own.new.own ≡ own.len = c.put_own.ensures.size ∙ ap length c.deref_mut.ensures.value ∙ sym own.ok.0 in
    let own_is : c.deref.result.now ≡ c.put_own.new.own = c.deref.ensures.value ∙ take_at c.put_own.new.own (drop (length c.put_own.new.own) own.items) own.len own_size in
    let size : length c.settle.new.masks ≡ masks.len = c.settle.ensures.size ∙ ap length c.deref_mut-2.ensures.value ∙ sym masks.ok.0 in
    let whole : take masks.len (c.settle.new.masks ++ drop (length c.settle.new.masks) masks.items) ≡ c.settle.new.masks
    = take_at c.settle.new.masks (drop (length c.settle.new.masks) masks.items) masks.len size in
    let both = c.settle.ensures.settled c.if-settle.true in
    subst (λ (xs : List ℕ). AreMasks links join c.args.ends.now xs) (sym whole)
    (masks_are links join c.args.ends.now c.deref.result.now c.settle.new.masks
    (subst (λ (xs : List ℕ). AreOwn c.args.ends.now xs) (sym own_is) c.put_own.ensures.own) both.0 both.1)
