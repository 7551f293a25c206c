use Rattle.std.proofs.Common.{◌≡◌, [], ◌∷◌, ◌++◌, ◌+◌, List, ℕ, true, false, drop, ap, sym, subst, ◌∙◌}
use Rattle.serde_json.specs.View.{items_view}
use Rattle.wc_value.specs.Requests.{requests, IsDistinct, dictionary_of}
use Rattle.wc_value.specs.Spelling.{spelling}
use Rattle.wc_json.specs.Tables.{Row, has_request, read_rows}
use Rattle.wc_json.proofs.Asked.{AreAsked, none_asked, one_more_asked, one_more_distinct, was_there, was_new}
use Rattle.wc_json.proofs.Rows.{row-tells, again-tells, next-row}
use Rattle.wc_json.proofs.table.read_rows.Goals as goal

pub returns-in-Err-clause-rows : goal.returns-in-Err-clause-rows
returns-in-Err-clause-rows c =
    row-tells _ c.loop-i.rows c.deref-item-items.result.now c.loop-i.i c.item-item.result _ c.loop-i-test.true c.item-item.is c.loop-i.invariant.rows
    c.in-Err.error c.in_ok-at_place-in-Err.field-0 c.in-Err.ensures c.in_ok-at_place-in-Err.ensures

pub returns-then-not-branch-clause-rows : goal.returns-then-not-branch-clause-rows
returns-then-not-branch-clause-rows c =
    let row : Row = c.in-Ok.row in
    let key = c.into_vec.result in
    let spelled : key.items ≡ spelling (dictionary_of row.0) = c.into_vec.ensures.value ∙ c.in_ok-encode_request-in-Ok.ensures.spelling in
    let found : has_request (spelling (dictionary_of row.0)) c.loop-i.rows ≡ true
    = ap (λ (k : List ℕ). has_request k c.loop-i.rows) (sym spelled) ∙ sym (c.loop-i.invariant.asked key) ∙ was_there _ _ c.in_ok-insert-in-Ok.ensures.added c.if-not-branch.true in
    again-tells _ c.loop-i.rows c.deref-item-items.result.now c.loop-i.i c.item-item.result _ c.loop-i-test.true c.item-item.is c.loop-i.invariant.rows
    row c.shape.result c.in_ok-at_place-in-Ok.field-0 c.in-Ok.ensures found c.shape.ensures c.in_ok-at_place-in-Ok.ensures

pub loop-i-preserved : goal.loop-i-preserved
loop-i-preserved c =
    let front : List Row = c.loop-i.rows in
    let row : Row = c.in-Ok.row in
    let key = c.into_vec.result in
    let vs = c.deref-item-items.result.now in
    let i : ℕ = c.loop-i.i in
    let pushed : c.push.new.self ≡ front ++ row ∷ [] = c.in_ok-push-in-Ok.ensures.ok in
    let spelled : key.items ≡ spelling (dictionary_of row.0) = c.into_vec.ensures.value ∙ c.in_ok-encode_request-in-Ok.ensures.spelling in
    let new : has_request (spelling (dictionary_of row.0)) front ≡ false
    = ap (λ (k : List ℕ). has_request k front) (sym spelled) ∙ sym (c.loop-i.invariant.asked key) ∙ was_new _ _ c.in_ok-insert-in-Ok.ensures.added c.if-not-branch.false in
    record {
      rows = subst (λ (rs : List Row). read_rows 0 [] (items_view c.args.items.now.items) ≡ read_rows (i + 1) rs (items_view (drop (i + 1) vs))) (sym pushed)
          (next-row _ front vs i c.item-item.result _ c.loop-i-test.true c.item-item.is c.loop-i.invariant.rows row c.in-Ok.ensures new);
      asked = subst (λ (rs : List Row). AreAsked c.insert.new.self rs) (sym pushed)
          (one_more_asked c.loop-i.earlier c.insert.new.self front row key spelled c.in_ok-insert-in-Ok.ensures.updates c.loop-i.invariant.asked);
      distinct = subst (λ (rs : List Row). IsDistinct (requests rs)) (sym pushed) (one_more_distinct front row new c.loop-i.invariant.distinct);
    }
