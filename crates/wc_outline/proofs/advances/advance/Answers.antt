use Rattle.std.proofs.Common.{◌≡◌, List, Option, Some, sym, ap, subst, ◌∙◌}
use Rattle.std.specs.Prelude.{IsTrue, option_map, is_some}
use Rattle.wc_syntax.specs.Findings.{definition_named}
use Rattle.wc_syntax.specs.declared.definition.Chain.{Chain}
use Rattle.wc_syntax.specs.declared.definition.Definition.{Definition}
use Rattle.wc_machine.specs.Advances.{advance}
use Rattle.wc_outline.specs.declared.calls.Advanced.{Advanced}
use Rattle.wc_outline.specs.Onward.{EndsAlike}
use Rattle.wc_outline.specs.Places.{chain_of}
use Rattle.wc_outline.specs.Shown.{shown}
use Rattle.wc_outline.proofs.Bare.{advance_named, is_chain_bare}
use Rattle.wc_outline.proofs.Gathered.{if_ok}
use Rattle.wc_outline.proofs.Onward.{alike_by}
use Rattle.wc_outline.proofs.advances.advance.Goals as goal

pub the_chain-chain-requires : goal.the_chain-chain-requires
the_chain-chain-requires c =
    let a = c.args in
    subst IsTrue
    (sym (ap (λ (o : Option Definition). is_some (chain_of o)) c.find_definition.ensures
    ∙ sym (is_chain_bare a.name.now c.library-library.result.now)
    ∙ ap (λ (ds : List Definition). is_some (chain_of (definition_named a.name.now ds))) c.library-library.ensures.same))
    c.requires

pub returns-clause-exact : goal.returns-clause-exact
returns-clause-exact c =
    let a = c.args in
    let ds = c.library-library.result.now in
    let k = c.the_chain-chain.result.now in
    let by = λ (l : List Definition). option_map (λ (j : Chain). shown (advance l j a.depth a.env a.checkpoint)) (chain_of (definition_named a.name.now l)) in
    if_ok (λ (x : Advanced). x ≡ shown (advance ds k a.depth a.env a.checkpoint)) (λ (x : Advanced). by a.library.now ≡ Some x)
    c.advance_chain.result
    (λ x h. ap by (sym c.library-library.ensures.same)
    ∙ advance_named a.name.now ds k a.depth a.env a.checkpoint (ap chain_of (sym c.find_definition.ensures) ∙ c.the_chain-chain.ensures)
    ∙ ap Some (sym h))
    c.advance_chain.ensures

pub returns-clause-onward : goal.returns-clause-onward
returns-clause-onward c =
    let a = c.args in
    let o = chain_of (definition_named a.name.now a.library.now) in
    if_ok (λ (x : Advanced). option_map (λ (j : Chain). shown (advance a.library.now j a.depth a.env a.checkpoint)) o ≡ Some x)
    (λ (x : Advanced). (k : Chain) → o ≡ Some k → EndsAlike a.library.now k a.depth a.env a.checkpoint x)
    c.advance_chain.result
    (alike_by a.library.now o a.depth a.env a.checkpoint)
    (returns-clause-exact c)
