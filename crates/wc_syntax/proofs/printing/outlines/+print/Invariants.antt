use Rattle.std.proofs.Common.{◌≡◌, ◌++◌, drop, map}
use Rattle.std.specs.Prelude.{string_bytes, flat_map}
use Rattle.wc_syntax.specs.Printing.{branches_lines, if_lines, arm_branch, instr_lines}
use Rattle.wc_syntax.proofs.printing.outlines.+print.Given as goal

abbrev pub invariant-put_arms-loop-arm : goal.invariant-put_arms-loop-arm
invariant-put_arms-loop-arm l =
    string_bytes l.out ++ branches_lines l.first l.margin (map arm_branch (drop l.arm-index l.arm-items)) ≡ string_bytes l.fn.out ++ if_lines l.margin (map arm_branch l.arm-items)

abbrev pub invariant-put_instrs-loop-instr : goal.invariant-put_instrs-loop-instr
invariant-put_instrs-loop-instr l =
    string_bytes l.out ++ flat_map (λ i. instr_lines i l.margin) (drop l.instr-index l.instr-items) ≡ string_bytes l.fn.out ++ flat_map (λ i. instr_lines i l.margin) l.instr-items
