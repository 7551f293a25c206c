use Rattle.std.proofs.Common.{◌≡◌, ◌∙◌, sym, arith, rules, ap, drop, lit<}
use Rattle.wc_expression.specs.Texts.{pieces}
use Rattle.wc_expression.proofs.Pieces.{item_there, behind_item, none_behind, uncut, cut}
use Rattle.wc_expression.proofs.texts.find_line.Goals as goal

pub returns-in-None : goal.returns-in-None
returns-in-None c =
    let one = sym c.loop-piece.invariant.rest ∙ uncut _ (c.in-None.ensures.byte (lit< tt) (λ w o h. h)) in
    none_behind (pieces c.args.text.now) c.loop-piece._piece c.args.number _ one c.loop-piece-test.true

pub loop-piece-preserved : goal.loop-piece-preserved
loop-piece-preserved c =
    let parts = c.in-Some.ensures.byte (lit< tt) (λ w o h. h) in
    record {
      utf8 = search rules;
      rest = sym (behind_item (pieces c.args.text.now) c.loop-piece._piece _ _ (sym c.loop-piece.invariant.rest ∙ cut _ _ _ parts.0 parts.1 parts.2));
    }

pub returns-in-Some-split_once : goal.returns-in-Some-split_once
returns-in-Some-split_once c =
    let parts = c.in-Some-split_once.ensures.byte (lit< tt) (λ w o h. h) in
    let at : c.loop-piece._piece ≡ c.args.number = omega arith in
    item_there (pieces c.args.text.now) c.args.number _ _ (ap (λ i. drop i (pieces c.args.text.now)) (sym at) ∙ sym c.loop-piece.invariant.rest ∙ cut _ _ _ parts.0 parts.1 parts.2)

pub returns-in-None-split_once : goal.returns-in-None-split_once
returns-in-None-split_once c =
    let one = uncut c.loop-piece.rest.now (c.in-None-split_once.ensures.byte (lit< tt) (λ w o h. h)) in
    let at : c.loop-piece._piece ≡ c.args.number = omega arith in
    item_there (pieces c.args.text.now) c.args.number _ _ (ap (λ i. drop i (pieces c.args.text.now)) (sym at) ∙ sym c.loop-piece.invariant.rest ∙ one)
