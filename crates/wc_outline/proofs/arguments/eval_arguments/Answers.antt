use Rattle.std.proofs.Common.{List, [], sym, ap, ◌∙◌}
use Rattle.std.specs.Option.{option_copied}
use Rattle.wc_syntax.specs.declared.outline.CallArg.{CallArg}
use Rattle.wc_outline.specs.declared.arguments.Gathered.{Gathered}
use Rattle.wc_outline.specs.Arguments.{takes_at, arguments_from}
use Rattle.wc_outline.proofs.Called.{one_more, stopped, all_taken, not_taken}
use Rattle.std.proofs.lemmas.List.{drop_all}
use Rattle.wc_outline.proofs.arguments.eval_arguments.Goals as goal

pub loop-arg-preserved : goal.loop-arg-preserved
loop-arg-preserved c =
    let takes = takes_at (option_copied c.find_definition-callee.result) in
    one_more (λ (xs : List CallArg) (g : Gathered). arguments_from takes xs c.args.env.now g) c.as_slice-arg-items.result.now c.loop-arg.arg-index c.arg-item.result
    c.loop-arg.gathered c.add_argument.new.gathered c.in_ok-add_argument.field-0 _ c.loop-arg-test.true c.arg-item.is c.in_ok-add_argument.ensures c.loop-arg.invariant c.in-None.is

pub returns-in-Some : goal.returns-in-Some
returns-in-Some c =
    let takes = takes_at (option_copied c.find_definition-callee.result) in
    let as' = c.as_slice-arg-items.result.now in
    sym (not_taken c.args.library.now c.args.call.now c.args.env.now (option_copied c.find_definition-callee.result) c.find_definition-callee.ensures c.in-Some.reason
    (ap (λ (xs : List CallArg). arguments_from takes xs c.args.env.now (record { args = []; fit = [] })) (sym c.as_slice-arg-items.ensures)
    ∙ stopped (λ (xs : List CallArg) (g : Gathered). arguments_from takes xs c.args.env.now g) as' c.loop-arg.arg-index c.arg-item.result
    c.loop-arg.gathered c.add_argument.new.gathered c.in_ok-add_argument.field-0 _ c.loop-arg-test.true c.arg-item.is c.in_ok-add_argument.ensures c.loop-arg.invariant
    c.in-Some.reason c.in-Some.is))

pub returns : goal.returns
returns c =
    let takes = takes_at (option_copied c.find_definition-callee.result) in
    let as' = c.as_slice-arg-items.result.now in
    let from = λ (xs : List CallArg) (g : Gathered). arguments_from takes xs c.args.env.now g in
    c.judge.ensures
    ∙ sym (all_taken c.args.library.now c.args.call.now c.args.env.now (option_copied c.find_definition-callee.result) c.find_definition-callee.ensures c.loop-arg.gathered
    (ap (λ (xs : List CallArg). from xs (record { args = []; fit = [] })) (sym c.as_slice-arg-items.ensures)
    ∙ sym c.loop-arg.invariant ∙ ap (λ (xs : List CallArg). from xs c.loop-arg.gathered) (drop_all c.loop-arg.arg-index as' c.loop-arg-test.false)))
