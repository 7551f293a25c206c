use Rattle.std.proofs.Common.{◌≡◌, ◌∙◌, ap, sym, length, inr, arith}
use Rattle.std.proofs.lemmas.List.{length-map}
use Rattle.wc_syntax.specs.Bare.{bare_definition}
use Rattle.wc_expansion.proofs.Calls.{restarts_added}
use Rattle.wc_expansion.proofs.Expanded.{expansion, named_first, not_named, many}
use Rattle.wc_expansion.proofs.expanding.with_spec.Goals as goal

pub returns-in-Some-clause-refused : goal.returns-in-Some-clause-refused
returns-in-Some-clause-refused c =
    let d = c.library-definitions in
    inr (named_first d.result.now c.args.library.now c.args.spec.now c.in-Some.refused d.ensures.same (sym c.in_ok-refused.ensures ∙ c.in-Some.is))

pub returns-then-len-ge-MOST_DEFINITIONS-clause-refused : goal.returns-then-len-ge-MOST_DEFINITIONS-clause-refused
returns-then-len-ge-MOST_DEFINITIONS-clause-refused c =
    let d = c.library-definitions in
    let e : length c.args.library.now ≡ length d.result.now = ap length (sym d.ensures.same) ∙ length-map d.result.now bare_definition in
    inr (many c.args.library.now c.args.spec.now (not_named d.result.now c.args.library.now c.args.spec.now d.ensures.same (sym c.in_ok-refused.ensures ∙ c.in-None.is)) (omega arith))

pub with_chain-requires-clause-named : goal.with_chain-requires-clause-named
with_chain-requires-clause-named c =
    let d = c.library-definitions in
    not_named d.result.now c.args.library.now c.args.spec.now d.ensures.same (sym c.in_ok-refused.ensures ∙ c.in-None.is)

pub with_chain-requires-clause-readable : goal.with_chain-requires-clause-readable
with_chain-requires-clause-readable c =
    let d = c.library-definitions in
    let e : length c.args.library.now ≡ length d.result.now = ap length (sym d.ensures.same) ∙ length-map d.result.now bare_definition in
    λ short. expansion d.result.now c.args.library.now c.args.spec.now d.ensures.same d.ensures.checked c.requires.is_spec
    (not_named d.result.now c.args.library.now c.args.spec.now d.ensures.same (sym c.in_ok-refused.ensures ∙ c.in-None.is)) (omega arith) short

pub returns-else-len-ge-MOST_DEFINITIONS-clause-restarts : goal.returns-else-len-ge-MOST_DEFINITIONS-clause-restarts
returns-else-len-ge-MOST_DEFINITIONS-clause-restarts c =
    let d = c.library-definitions in
    restarts_added c.with_chain.result d.result.now c.args.library.now c.args.spec.now d.ensures.same d.ensures.checked.rules c.requires.is_spec
    (not_named d.result.now c.args.library.now c.args.spec.now d.ensures.same (sym c.in_ok-refused.ensures ∙ c.in-None.is)) c.with_chain.ensures.adds
