use Rattle.std.proofs.Common.{[], subst}
use Rattle.wc_semantics.specs.declared.progress.Answer.{Answer}
use Rattle.wc_semantics.specs.Tables.{with_paths}
use Rattle.wc_semantics.specs.Meaning.{meaning}
use Rattle.wc_semantics.specs.Laws.{SameUnlessLacking}
use Rattle.wc_semantics.proofs.Rows.{has_paths}
use Rattle.wc_semantics.proofs.Richer.{meaning_richer}
use Rattle.wc_semantics.proofs.laws.more_rows.Goals as goal

pub returns-clause-richer : goal.returns-clause-richer
returns-clause-richer c levels library table richer kills n name inputs h = meaning_richer levels library table richer kills h n name inputs

pub returns-clause-by_path : goal.returns-clause-by_path
returns-clause-by_path c levels library by_path rows kills n m name inputs t h =
    subst (λ (x : Answer). SameUnlessLacking x (meaning levels library (with_paths by_path rows) kills n name inputs)) h
    (meaning_richer levels library (with_paths by_path []) (with_paths by_path rows) kills (has_paths by_path rows) n name inputs)
