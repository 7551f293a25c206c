use Rattle.std.proofs.Common.{List, Some, ap, sym, ◌∙◌}
use Rattle.wc_syntax.specs.Bare.{bare_definition}
use Rattle.wc_syntax.specs.declared.definition.Port.{Port}
use Rattle.wc_meaning.specs.Inputs.{bad_input}
use Rattle.wc_core.proofs.Bare.{named_in, same_bad}
use Rattle.wc_core.proofs.submissions.kind_named.Goals as goal

pub returns-in_default-clause-refused : goal.returns-in_default-clause-refused
returns-in_default-clause-refused c =
    named_in c.args.name.now c.library.result.now c.args.library.now _ c.library.ensures.same (sym c.in_default.ensures)

pub returns-in_ok-copy-in-Some-find_bad_input-clause-refused :
    goal.returns-in_ok-copy-in-Some-find_bad_input-clause-refused
returns-in_ok-copy-in-Some-find_bad_input-clause-refused c =
    let d = c.in-Some.definition.now in
    let inputs = c.args.inputs.now in (
      bare_definition d,
      named_in c.args.name.now c.library.result.now c.args.library.now _ c.library.ensures.same (sym c.in-Some.ensures),
      same_bad d inputs ∙ ap (λ (ps : List Port). bad_input ps inputs) (sym (c.as_slice.ensures ∙ ap (λ h. h.inputs) c.head.ensures))
          ∙ sym c.in-Some-find_bad_input.ensures ∙ ap Some (sym c.in_ok-copy-in-Some-find_bad_input.ensures),
    )

pub returns-in-None-clause-ok : goal.returns-in-None-clause-ok
returns-in-None-clause-ok c =
    let d = c.in-Some.definition.now in
    let inputs = c.args.inputs.now in
    record {
      definition = bare_definition d;
      is_there = named_in c.args.name.now c.library.result.now c.args.library.now _ c.library.ensures.same (sym c.in-Some.ensures);
      takes = same_bad d inputs ∙ ap (λ (ps : List Port). bad_input ps inputs) (sym (c.as_slice.ensures ∙ ap (λ h. h.inputs) c.head.ensures))
          ∙ sym c.in-None.ensures;
      is_kind = c.kind_of_definition.ensures;
    }
