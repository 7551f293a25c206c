use Rattle.std.proofs.Common.{List, length, subst}
use Rattle.wc_value.specs.Indexes.{IsIndex}
use Rattle.wc_value.specs.Requests.{IsDistinct, requests}
use Rattle.wc_value.specs.declared.process.Request.{Request}
use Rattle.wc_value.specs.declared.process.JobResult.{JobResult}
use Rattle.wc_value.proofs.table.Table.new.Goals as goal

pub invariant_of-result : goal.invariant_of-result
invariant_of-result c =
    let whole = c.in_ok-places.ensures.ok in (
      subst (λ (rows : List (Request × JobResult)). IsDistinct (requests rows)) c.as_slice.ensures whole.1,
      subst (λ (rows : List (Request × JobResult)). IsIndex rows (length rows) c.in_ok-places.places) c.as_slice.ensures whole.0,
    )
