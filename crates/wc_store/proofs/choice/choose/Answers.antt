use Rattle.std.proofs.Common.{subst}
use Rattle.wc_store.specs.Sights.{Shows}
use Rattle.wc_store.proofs.Verdicts.{first_broken, second_broken, second_broken_beside, both_bare, second_holds, first_holds, both_hold, tells_same}
use Rattle.wc_store.proofs.choice.choose.Goals as goal

pub returns-in-Broken-clause-tells : goal.returns-in-Broken-clause-tells
returns-in-Broken-clause-tells c = λ one two first second. first_broken one two _ _ (subst (Shows one) c.in-Broken.is first)

pub returns-in-Broken-second-clause-tells : goal.returns-in-Broken-second-clause-tells
returns-in-Broken-second-clause-tells c =
    λ one two first second. second_broken one two c.in-Bare.a _ _ (subst (Shows one) c.in-Bare.is first) (subst (Shows two) c.in-Broken-second.is second)

pub returns-in-Bare-second-clause-tells : goal.returns-in-Bare-second-clause-tells
returns-in-Bare-second-clause-tells c =
    λ one two first second.
    let here = subst (Shows one) c.in-Bare.is first in
    let there = subst (Shows two) c.in-Bare-second.is second in
    tells_same _ _ one two _ (both_bare one two c.in-Bare.a c.in-Bare-second.b here there) (c.without.ensures.tells one two here.1 there.1)

pub returns-in-Holding-second-clause-tells : goal.returns-in-Holding-second-clause-tells
returns-in-Holding-second-clause-tells c =
    λ one two first second.
    let there = subst (Shows two) c.in-Holding-second.is second in
    tells_same _ _ one two _ (second_holds one two c.in-Bare.a c.in-Holding-second.b (subst (Shows one) c.in-Bare.is first) there)
    (c.kept_on.ensures.tells one two there)

pub returns-in-Broken-second-2-clause-tells : goal.returns-in-Broken-second-2-clause-tells
returns-in-Broken-second-2-clause-tells c =
    λ one two first second.
    second_broken_beside one two c.in-Holding.a _ _ (subst (Shows one) c.in-Holding.is first) (subst (Shows two) c.in-Broken-second-2.is second)

pub returns-in-Bare-second-2-clause-tells : goal.returns-in-Bare-second-2-clause-tells
returns-in-Bare-second-2-clause-tells c =
    λ one two first second.
    let here = subst (Shows one) c.in-Holding.is first in
    tells_same _ _ one two _ (first_holds one two c.in-Holding.a c.in-Bare-second-2.field-0 here (subst (Shows two) c.in-Bare-second-2.is second))
    (c.kept_on-in-Bare-second-2.ensures.tells one two here)

pub returns-in-Holding-second-2-clause-tells : goal.returns-in-Holding-second-2-clause-tells
returns-in-Holding-second-2-clause-tells c =
    λ one two first second.
    let here = subst (Shows one) c.in-Holding.is first in
    let there = subst (Shows two) c.in-Holding-second-2.is second in
    tells_same _ _ one two _ (both_hold one two c.in-Holding.a c.in-Holding-second-2.b here there) (c.later.ensures.tells one two here there)
