use Rattle.std.proofs.Common.{◌∙◌, ◌∷◌, [], ap, sym}
use Rattle.wc_syntax.specs.Findings.{head_of, too_many}
use Rattle.wc_check.specs.Least.{least_after}
use Rattle.wc_check.proofs.Ruled.{over_at, over_within}
use Rattle.wc_check.proofs.rules.over_definitions.Goals as goal

pub returns-then-library-gt-MOST_DEFINITIONS : goal.returns-then-library-gt-MOST_DEFINITIONS
returns-then-library-gt-MOST_DEFINITIONS c =
    c.offer.ensures
    ∙ ap (λ h. least_after c.args.best.now (too_many h.at ∷ [])) c.head_of.ensures
    ∙ ap (least_after c.args.best.now) (sym (over_at (λ d. (head_of d).at) 64 c.args.library.now c.index-library-64.result c.if-library-gt-MOST_DEFINITIONS.true c.index-library-64.is))

pub returns-else-library-gt-MOST_DEFINITIONS : goal.returns-else-library-gt-MOST_DEFINITIONS
returns-else-library-gt-MOST_DEFINITIONS c = ap (least_after c.args.best.now) (sym (over_within (λ d. (head_of d).at) 64 c.args.library.now c.if-library-gt-MOST_DEFINITIONS.false))
