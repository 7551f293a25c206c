use Rattle.std.proofs.Common.{◌∙◌, arith, sym, subst, length, ◌≤◌}
use Rattle.std.specs.List.{Contains}
use Rattle.wc_value.specs.Requests.{requests}
use Rattle.wc_value.proofs.Keys.{lacks_key}
use Rattle.wc_value.proofs.table.Table.find.Goals as goal

pub returns : goal.returns
returns c found =
    let all : length c.as_slice-asked-items.result.now ≤ c.loop-asked.asked-index = c.loop-asked-test.false in
    lacks_key c.as_slice-asked-items.result.now c.args.request.now (λ k d h e. c.loop-asked.invariant k d (omega arith) e)
    (subst (λ rows. Contains (requests rows) c.args.request.now) (sym (c.as_slice-asked-items.ensures ∙ c.self.view_is)) found)
