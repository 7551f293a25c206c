use Rattle.std.proofs.Common.{◌≡◌, ℕ, List, None, ◌∙◌, sym, subst, refl, rules, length, arith}
use Rattle.std.proofs.lemmas.List.{take_all}
use Rattle.std.proofs.lemmas.Option.{slice_get_read}
use Rattle.wc_value.specs.Indexes.{IsIndex, place_at}
use Rattle.wc_value.specs.Requests.{IsDistinct, requests, dictionary_of}
use Rattle.wc_value.specs.Spells.{Spells}
use Rattle.wc_value.specs.declared.process.Request.{Request}
use Rattle.wc_value.specs.declared.process.JobResult.{JobResult}
use Rattle.wc_value.proofs.Keys.{distinct_more}
use Rattle.wc_value.proofs.Told.{told_earlier, untold_new, index_none, index_more, is_none, some_is}
use Rattle.wc_value.proofs.table.places_of.Goals as goal

pub loop-at-init : goal.loop-at-init
loop-at-init c = record { distinct = search rules; index = index_none c.args.items.now c.new-places.result c.new-places.ensures.empty }

pub loop-at-preserved : goal.loop-at-preserved
loop-at-preserved c =
    let here : Spells (dictionary_of c.index-items-at.result.0) c.in_ok-encode_request.field-0
    = subst (λ (row : Request × JobResult). Spells (dictionary_of row.0) c.in_ok-encode_request.field-0) (sym c.index-items-at.is) c.in_ok-encode_request.ensures.spells in
    let spells : Spells (dictionary_of c.index-items-at.result.0) c.into_vec-spelled.result.items
    = subst (λ (b : List ℕ). Spells (dictionary_of c.index-items-at.result.0) b) (sym c.into_vec-spelled.ensures.value) here in
    let none : place_at c.into_vec-spelled.result.items c.loop-at.places ≡ None
    = sym c.in_ok-insert.ensures.old ∙ is_none c.in_ok-insert.field-0 (sym c.is_some.ensures ∙ c.if-is_some.false) in
    record {
      distinct = distinct_more c.args.items.now c.loop-at.at c.index-items-at.result _ c.loop-at-test.true c.index-items-at.is c.loop-at.invariant.distinct
          (untold_new c.args.items.now c.loop-at.at c.index-items-at.result.0 _ c.loop-at-test.true spells
          (λ t. c.loop-at.invariant.index.every c.into_vec-spelled.result.items t none));
      index = index_more c.loop-at.places c.insert.new.self c.args.items.now c.loop-at.at c.index-items-at.result _ c.into_vec-spelled.result c.loop-at-test.true c.index-items-at.is spells
          c.in_ok-insert.ensures.entries c.loop-at.invariant.index;
    }

pub returns-then-is_some-clause-err : goal.returns-then-is_some-clause-err
returns-then-is_some-clause-err c =
    let here : Spells (dictionary_of c.index-items-at.result.0) c.in_ok-encode_request.field-0
    = subst (λ (row : Request × JobResult). Spells (dictionary_of row.0) c.in_ok-encode_request.field-0) (sym c.index-items-at.is) c.in_ok-encode_request.ensures.spells in
    let spells : Spells (dictionary_of c.index-items-at.result.0) c.into_vec-spelled.result.items
    = subst (λ (b : List ℕ). Spells (dictionary_of c.index-items-at.result.0) b) (sym c.into_vec-spelled.ensures.value) here in
    let some = some_is c.in_ok-insert.field-0 (sym c.is_some.ensures ∙ c.if-is_some.true) in
    let told = c.loop-at.invariant.index.told c.into_vec-spelled.result.items some.0 (sym c.in_ok-insert.ensures.old ∙ some.1) in
    record {
      row = c.index-items-at.result;
      at = slice_get_read c.args.items.now _ c.loop-at.at c.index-items-at.result refl c.loop-at-test.true c.index-items-at.is;
      earlier = told_earlier c.args.items.now c.loop-at.at c.index-items-at.result.0 _ c.loop-at-test.true spells told.0;
      distinct = c.loop-at.invariant.distinct;
    }

pub returns-clause-ok : goal.returns-clause-ok
returns-clause-ok c =
    let all : c.loop-at.at ≡ length c.args.items.now = omega (arith, c.loop-at-test.false, c.loop-at.auto.at-end) in (
      subst (λ (n : ℕ). IsIndex c.args.items.now n c.loop-at.places) all c.loop-at.invariant.index,
      subst (λ rows. IsDistinct (requests rows)) (take_all c.loop-at.at _ c.loop-at-test.false) c.loop-at.invariant.distinct,
    )
