use Rattle.std.proofs.Common.{ℕ, ◌+◌, Option}
use Rattle.std.proofs.lemmas.Result.{IfOk-weaker}
use Rattle.wc_state.specs.declared.record.ProcessRecord.{ProcessRecord}
use Rattle.wc_machine.specs.Sources.{IsLowestSource}
use Rattle.wc_cache.specs.Sources.{IsLowestWith}
use Rattle.wc_cache.specs.Keys.{IsKeyOf}
use Rattle.wc_cache.proofs.Lowest.{lowest_for}
use Rattle.wc_cache.proofs.lookup.find.Goals as goal

pub returns-clause-source : goal.returns-clause-source
returns-clause-source c =
    let w = c.args.world.now.world in
    let key = c.args.key.now in
    let P : Option ℕ → Type 0 = IsLowestWith w (w.batches + 1) key in
    let Q : Option ℕ → Type 0 = λ s. (r : ProcessRecord) → IsKeyOf w r key → IsLowestSource w (w.batches + 1) r s in
    IfOk-weaker c.find_lowest.result P Q (λ s low r has. lowest_for w (w.batches + 1) key r has s low) c.find_lowest.ensures
