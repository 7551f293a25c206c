use Rattle.std.proofs.Common.{◌≡◌, List, Option, sym, ap, subst, ◌∙◌}
use Rattle.std.specs.Prelude.{IsTrue, is_some}
use Rattle.wc_syntax.specs.Bare.{bare_chain, bare_library}
use Rattle.wc_syntax.specs.Findings.{definition_named}
use Rattle.wc_syntax.specs.declared.definition.Definition.{Definition}
use Rattle.wc_state.specs.Context.{Pairs}
use Rattle.wc_machine.specs.Advances.{advance}
use Rattle.wc_outline.specs.Places.{chain_of}
use Rattle.wc_outline.specs.Reads.{context_read, IsRead}
use Rattle.wc_outline.proofs.Alike.{advance_alike}
use Rattle.wc_outline.proofs.Bare.{advance_bare, chain_bare, is_chain_bare}
use Rattle.wc_outline.proofs.Gathered.{if_ok}
use Rattle.wc_outline.proofs.reads.context_read.Goals as goal

pub the_chain-chain-requires : goal.the_chain-chain-requires
the_chain-chain-requires c =
    let a = c.args in
    subst IsTrue
    (sym (ap (λ (o : Option Definition). is_some (chain_of o)) c.find_definition.ensures
    ∙ sym (is_chain_bare a.name.now c.library.result.now)
    ∙ ap (λ (ds : List Definition). is_some (chain_of (definition_named a.name.now ds))) c.library.ensures.same))
    c.requires

pub returns : goal.returns
returns c =
    let a = c.args in
    let x = a.checkpoint.now in
    let ds = c.library.result.now in
    let k = c.the_chain-chain.result.now in
    let same : bare_library ds ≡ a.library.now = c.library.ensures.same in
    if_ok (λ (read : Pairs). read ≡ context_read k x) (IsRead a.library.now a.name.now x)
    c.read_by.result
    (λ read h. record {
      chain = k;
      named = ap (λ (l : List Definition). chain_of (definition_named a.name.now l)) (sym same)
          ∙ chain_bare a.name.now ds k (ap chain_of (sym c.find_definition.ensures) ∙ c.the_chain-chain.ensures);
      is = h;
      enough = λ depth one two agree. ap (λ (l : List Definition). advance l (bare_chain k) depth one x) (sym same) ∙ advance_bare ds k depth one x
          ∙ advance_alike ds k depth one two x agree
          ∙ sym (advance_bare ds k depth two x) ∙ ap (λ (l : List Definition). advance l (bare_chain k) depth two x) same;
    })
    c.read_by.ensures
