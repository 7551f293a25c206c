-- The worked examples, by computation.
use Rattle.std.proofs.Common.{◌≡◌, refl, true, false, [], ◌∷◌}
use Rattle.std.specs.Prelude.{codes}
use Rattle.std.specs.Fmt.{digits}
use Rattle.wc_syntax.specs.Printing.{printed_definition, form_text, its_text, instr_level_lines, arm_level_lines, block_level_lines, start_lines}
use Rattle.wc_syntax.specs.declared.definition.Definition.TheVariants.{Chain}
use Rattle.wc_syntax.specs.declared.expression.BinaryOp.TheVariants as binary
use Rattle.wc_syntax.specs.declared.expression.ChildPart.TheVariants as asked
use Rattle.wc_restart.specs.Chains.{chain_of}
use Rattle.wc_restart.specs.Examples.{library, mends, spec, text}
use Rattle.wc_restart.specs.Pieces.{numeral, plain, child, negated, joined}
use Rattle.wc_restart.proofs.Folded.{numeral_folded, truth_folded, input_folded, plain_folded, child_folded, negated_folded, joined_folded}
use Rattle.wc_restart.proofs.Outlined.{outline_folded}

pub printed_as : printed_definition (Chain (chain_of library (spec 5 (mends ∷ [])))) ≡ text
unfolding start_lines digits
printed_as =
    rw (
      outline_folded instr_level_lines arm_level_lines block_level_lines library (spec 5 (mends ∷ [])),
      joined_folded form_text its_text binary.And (negated (plain (codes "done"))) (joined binary.Less (plain (codes "n")) (numeral 5)),
      joined_folded form_text its_text binary.Less (plain (codes "n")) (numeral 5),
      joined_folded form_text its_text binary.Add (plain (codes "n")) (numeral 1),
      joined_folded form_text its_text binary.Equal (child (codes "job") asked.Status) (numeral 310),
      negated_folded form_text its_text (plain (codes "done")),
      child_folded form_text its_text (codes "job") asked.Ok,
      child_folded form_text its_text (codes "job") asked.Status,
      child_folded form_text its_text (codes "job") (asked.Outputs (record { text = codes "value"; at = 0 })),
      child_folded form_text its_text (codes "fix") (asked.Outputs (record { text = codes "x"; at = 0 })),
      input_folded form_text its_text (codes "x"),
      plain_folded form_text its_text (codes "done"),
      plain_folded form_text its_text (codes "n"),
      plain_folded form_text its_text (codes "fresh"),
      plain_folded form_text its_text (codes "bad"),
      truth_folded form_text its_text true,
      truth_folded form_text its_text false,
      numeral_folded form_text its_text 0,
      numeral_folded form_text its_text 1,
      numeral_folded form_text its_text 5,
      numeral_folded form_text its_text 310,
    )
    refl
