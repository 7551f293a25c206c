use Rattle.std.proofs.Common.{◌≡◌, ℕ, List, IfOk, subst}
use Rattle.wc_semantics.specs.Tables.{Path, plain, kills_of}
use Rattle.wc_semantics.specs.Meaning.{meaning}
use Rattle.wc_plan.proofs.commands.dry.meaning_alone.Goals as goal

pub returns : goal.returns
returns c =
    let a = c.args in
    subst
    (λ (ks : List (Path × ℕ)). IfOk c.mean.result (λ x. x ≡ meaning 15 a.library.now (plain a.table.now) (kills_of ks) a.trial.now.fuel a.trial.now.name a.inputs.now))
    c.new-kills.ensures c.mean.ensures
