use Rattle.wc_expansion.proofs.Calls.{text_as}
use Rattle.wc_expansion.proofs.expanding.text_with.Goals as goal

pub returns : goal.returns
returns c =
    text_as c.joined.result c.library.result.now c.args.library.now c.args.spec.now c.in_ok-chain.chain c.in_ok-front.front c.in_ok-last.last c.library.ensures.same c.in_ok-chain.ensures
    c.in_ok-front.ensures c.in_ok-last.ensures c.joined.ensures
