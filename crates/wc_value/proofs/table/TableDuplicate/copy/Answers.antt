use Rattle.std.proofs.Common.{List, length, subst, sym, ◌∙◌}
use Rattle.wc_value.specs.Indexes.{IsIndex}
use Rattle.wc_value.specs.Refusals.{IsRefused}
use Rattle.wc_value.specs.Requests.{IsDistinct, requests}
use Rattle.wc_value.specs.declared.process.Request.{Request}
use Rattle.wc_value.specs.declared.process.JobResult.{JobResult}
use Rattle.wc_value.proofs.Told.{no_repeat}
use Rattle.wc_value.proofs.table.TableDuplicate.copy.Goals as goal

pub invariant_of-result : goal.invariant_of-result
invariant_of-result c =
    let whole = c.in-Ok.ensures.ok in (
      subst (λ (rows : List (Request × JobResult)). IsDistinct (requests rows)) c.as_slice.ensures whole.1,
      subst (λ (rows : List (Request × JobResult)). IsIndex rows (length rows) c.in-Ok.places) c.as_slice.ensures whole.0,
    )

pub unreachable-requires : goal.unreachable-requires
unreachable-requires c =
    no_repeat c.as_slice.result.now c.in-Err-Twice.field-0-0 (subst (IsRefused c.as_slice.result.now) c.in-Err-Twice.field-0-is c.in-Err-Twice.ensures.err)
    (subst (λ (rows : List (Request × JobResult)). IsDistinct (requests rows)) (sym (c.as_slice.ensures ∙ c.in_ok-rows.ensures)) c.self.invariant.0)
