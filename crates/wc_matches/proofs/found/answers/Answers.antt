use Rattle.std.proofs.Common.{Bool, List, refl, sym, subst}
use Rattle.wc_matches.specs.Sets.{IsSet}
use Rattle.wc_matches.proofs.Answering.{rows_match, more_match}
use Rattle.wc_matches.proofs.Placing.{first_begun}
use Rattle.wc_matches.proofs.found.answers.Goals as goal

pub all_levels-requires-clause-firsts : goal.all_levels-requires-clause-firsts
all_levels-requires-clause-firsts c =
    let q = c.args.query.now in
    first_begun c.args.world.now.world q.first q.more c.as_slice.result.now _ c.in_ok-firsts.firsts
    (subst (λ (xs : List Bool). IsSet c.args.world.now.world q.first q.more xs) (sym c.as_slice.ensures) c.in_ok-first.ensures.first) c.in_ok-firsts.ensures

pub returns-clause-rows : goal.returns-clause-rows
returns-clause-rows c =
    rows_match c.args.world.now.world c.args.query.now _ c.args.limit c.in_ok-rows.rows refl c.in_ok-rows.ensures c.cut.result.rows c.cut.ensures.rows

pub returns-clause-more : goal.returns-clause-more
returns-clause-more c =
    more_match c.args.world.now.world c.args.query.now _ c.args.limit c.in_ok-rows.rows refl c.in_ok-rows.ensures c.cut.result.rows c.cut.result.more c.cut.ensures.rows c.cut.ensures.more
