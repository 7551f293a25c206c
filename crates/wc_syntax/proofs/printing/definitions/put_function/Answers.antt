use Rattle.std.proofs.Common.{string_bytes}
use Rattle.std.specs.Prelude.{codes}
use Rattle.wc_syntax.specs.Printing.{start_lines, closed, rule_lines, inside}
use Rattle.wc_syntax.proofs.ListTexts.{in_two}
use Rattle.wc_syntax.proofs.printing.definitions.put_function.Goals as goal

pub returns : goal.returns
returns c =
    let f = c.args.function.now in
    in_two c.put_function_rules.result (string_bytes c.args.out.now) (string_bytes c.put_start.new.out) (string_bytes c.put_function_rules.new.out)
    (start_lines (codes "calcfunction ") f.head) (closed (rule_lines inside f.rules)) c.in_ok-put_start.ensures c.put_function_rules.ensures
