use Rattle.std.proofs.Common.{◌≡◌, List, Option, Some, None, Result, Ok, Err, IfOk, MatchOption, sym}
use Rattle.std.specs.Option.{option_copied}
use Rattle.std.specs.Borrow.{Bor}
use Rattle.std.specs.List.{Contains}
use Rattle.std.specs.declared.alloc.AllocError.{AllocError}
use Rattle.wc_value.specs.Requests.{IsDistinct, requests}
use Rattle.wc_value.specs.declared.process.JobResult.{JobResult}
use Rattle.wc_value.specs.declared.process.Request.{Request}
use Rattle.wc_semantics.specs.Tables.{row_of}
use Rattle.wc_meaning.proofs.Requests.{no_row, row_is}
use Rattle.wc_meaning.proofs.run.find_result.Goals as goal

found_by : (q : Request) (rows : List (Request × JobResult)) (o : Option (Bor JobResult)) → IsDistinct (requests rows)
    → MatchOption o (¬ Contains (requests rows) q) (λ r. Contains rows (q, r.now)) → option_copied o ≡ row_of q rows
found_by q rows None d none = sym (no_row q rows none)
found_by q rows (Some r) d there = sym (row_is q r.now rows d there)

found_ok : (q : Request) (rows : List (Request × JobResult)) (answer : Result (Option (Bor JobResult)) AllocError)
    → IfOk answer (λ o. MatchOption o (¬ Contains (requests rows) q) (λ r. Contains rows (q, r.now))) → IfOk answer (λ o. IsDistinct (requests rows))
    → IfOk answer (λ o. option_copied o ≡ row_of q rows)
found_ok q rows (Ok o) found distinct = found_by q rows o distinct found
found_ok q rows (Err e) found distinct = tt

pub returns : goal.returns
returns c = found_ok c.args.request.now c.args.table.now c.find_spelled.result c.find_spelled.ensures.found c.find_spelled.ensures.distinct
