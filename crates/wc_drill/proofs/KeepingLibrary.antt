-- The library of generated chains keeps the rules of checked libraries, and has no offsets, by computation.
use Rattle.std.proofs.Common.{◌≡◌, ℕ, List, [], ◌∷◌, None, refl, ap, ◌∙◌}
use Rattle.std.specs.Prelude.{codes}
use Rattle.wc_syntax.specs.declared.definition.Definition.TheVariants as definition
use Rattle.wc_syntax.specs.declared.expression.BinaryOp.TheVariants as binary
use Rattle.wc_syntax.specs.declared.expression.ChildPart.TheVariants as asked
use Rattle.wc_syntax.specs.declared.expression.Expr.{Expr}
use Rattle.wc_syntax.specs.declared.expression.Form.{out-Form}
use Rattle.wc_syntax.specs.declared.expression.Form.TheVariants as form
use Rattle.wc_syntax.specs.declared.expression.OneOf.TheVariants as one
use Rattle.wc_syntax.specs.declared.expression.TwoOf.TheVariants as two
use Rattle.wc_syntax.specs.declared.outline.Block.{roll-Block}
use Rattle.wc_syntax.specs.declared.outline.Instr.{roll-Instr}
use Rattle.wc_syntax.specs.declared.outline.Instr.TheVariants as instr
use Rattle.wc_syntax.specs.declared.outline.Instr.TheOpen.{Instr-F}
use Rattle.wc_syntax.specs.declared.outline.Step.{Step}
use Rattle.wc_syntax.specs.Bare.{bare_library, bare_expr, bare_step, bare_block, at_form, at_expr, at_instr, at_arm, at_block}
use Rattle.wc_syntax.specs.Checked.{KeepsRules, IsCheckedDefinition}
use Rattle.wc_syntax.specs.Findings.{unknown_names, unknown_outputs, unknown_callees, missing_ports, unknown_ports, repeated_arguments, not_nodes, bad_exits, over_counts, long_names}
use Rattle.wc_syntax.specs.Mentions.{form_mentions, its_mentions, instr_pieces, arm_pieces, block_pieces}
use Rattle.wc_drill.specs.Library.{library, square, total, pair, word, quote, expr, bare, input, output_of, program, argument, read_number, sum_of_both, first, second, last}
use Rattle.wc_drill.proofs.Folded.{program_folded, argument_folded, read_folded, sum_folded, input_folded, output_folded, outline_folded}

square_names : unknown_names (definition.Job square) ≡ []
square_names = rw (program_folded form_mentions its_mentions, argument_folded form_mentions its_mentions, read_folded form_mentions its_mentions) refl

square_long : long_names (definition.Job square) ≡ []
square_long = rw (program_folded form_mentions its_mentions, argument_folded form_mentions its_mentions, read_folded form_mentions its_mentions) refl

pub square_keeps : IsCheckedDefinition library (definition.Job square)
square_keeps = record {
  ports_differ = refl;
  ports_free = refl;
  statuses_differ = refl;
  files_differ = refl;
  lets_differ = refl;
  names_known = square_names;
  outputs_known = refl;
  callees_known = refl;
  required_given = refl;
  given_known = refl;
  given_once = refl;
  outputs_are_nodes = refl;
  statuses_in_range = refl;
  exits_declared = refl;
  counts = refl;
  names_short = square_long;
  files_named = refl;
}

total_names : unknown_names (definition.Function total) ≡ []
total_names = rw (sum_folded form_mentions its_mentions) refl

total_long : long_names (definition.Function total) ≡ []
total_long = rw (sum_folded form_mentions its_mentions) refl

pub total_keeps : IsCheckedDefinition library (definition.Function total)
total_keeps = record {
  ports_differ = refl;
  ports_free = refl;
  statuses_differ = refl;
  files_differ = refl;
  lets_differ = refl;
  names_known = total_names;
  outputs_known = refl;
  callees_known = refl;
  required_given = refl;
  given_known = refl;
  given_once = refl;
  outputs_are_nodes = refl;
  statuses_in_range = refl;
  exits_declared = refl;
  counts = refl;
  names_short = total_long;
  files_named = refl;
}

pair_names : unknown_names (definition.Chain pair) ≡ []
pair_names =
    rw (
      outline_folded instr_pieces arm_pieces block_pieces,
      input_folded form_mentions its_mentions (codes "a"),
      input_folded form_mentions its_mentions (codes "b"),
      output_folded form_mentions its_mentions (codes "a") (codes "y"),
      output_folded form_mentions its_mentions (codes "b") (codes "y"),
      output_folded form_mentions its_mentions (codes "t") (codes "s"),
    )
    refl

pair_long : long_names (definition.Chain pair) ≡ []
pair_long =
    rw (
      outline_folded instr_pieces arm_pieces block_pieces,
      input_folded form_mentions its_mentions (codes "a"),
      input_folded form_mentions its_mentions (codes "b"),
      output_folded form_mentions its_mentions (codes "a") (codes "y"),
      output_folded form_mentions its_mentions (codes "b") (codes "y"),
      output_folded form_mentions its_mentions (codes "t") (codes "s"),
    )
    refl

pair_outputs : unknown_outputs (definition.Chain pair) ≡ []
pair_outputs = rw (outline_folded instr_pieces arm_pieces block_pieces) refl

pair_callees : unknown_callees library (definition.Chain pair) ≡ []
pair_callees = rw (outline_folded instr_pieces arm_pieces block_pieces) refl

pair_required : missing_ports library (definition.Chain pair) ≡ []
pair_required = rw (outline_folded instr_pieces arm_pieces block_pieces) refl

pair_given : unknown_ports library (definition.Chain pair) ≡ []
pair_given = rw (outline_folded instr_pieces arm_pieces block_pieces) refl

pair_once : repeated_arguments (definition.Chain pair) ≡ []
pair_once = rw (outline_folded instr_pieces arm_pieces block_pieces) refl

pair_nodes : not_nodes (definition.Chain pair) ≡ []
unfolding out-Form denote.Hole.Carrier.out
pair_nodes = rw (outline_folded instr_pieces arm_pieces block_pieces) refl

pair_exits : bad_exits (definition.Chain pair) ≡ []
pair_exits = rw (outline_folded instr_pieces arm_pieces block_pieces) refl

pair_counts : over_counts (definition.Chain pair) ≡ []
pair_counts = rw (outline_folded instr_pieces arm_pieces block_pieces) refl

pub pair_keeps : IsCheckedDefinition library (definition.Chain pair)
pair_keeps = record {
  ports_differ = refl;
  ports_free = refl;
  statuses_differ = refl;
  files_differ = refl;
  lets_differ = refl;
  names_known = pair_names;
  outputs_known = pair_outputs;
  callees_known = pair_callees;
  required_given = pair_required;
  given_known = pair_given;
  given_once = pair_once;
  outputs_are_nodes = pair_nodes;
  statuses_in_range = refl;
  exits_declared = pair_exits;
  counts = pair_counts;
  names_short = pair_long;
  files_named = refl;
}

pub keeps : KeepsRules library
keeps = record { differ = refl; few = refl; each = (square_keeps, (total_keeps, (pair_keeps, tt))) }

-- ---- offsets

program_bare : bare_expr program ≡ program
program_bare = rw (program_folded at_form at_expr, form.rolls-Quoted (quote (codes "square"))) refl

argument_bare : bare_expr argument ≡ argument
argument_bare = rw (argument_folded at_form at_expr, form.rolls-Bare (word (codes "x")), form.rolls-One one.Text (bare (codes "x"))) refl

abbrev file_read : Expr
file_read = expr (form.Two two.File (bare (codes "retrieved")) (expr (form.Quoted (quote (codes "y")))))

read_bare : bare_expr read_number ≡ read_number
read_bare =
    rw (
      read_folded at_form at_expr,
      form.rolls-Bare (word (codes "retrieved")),
      form.rolls-Quoted (quote (codes "y")),
      form.rolls-Two two.File (bare (codes "retrieved")) (expr (form.Quoted (quote (codes "y")))),
      form.rolls-One one.Trim file_read,
      form.rolls-One one.Int (expr (form.One one.Trim file_read)),
    )
    refl

sum_bare : bare_expr sum_of_both ≡ sum_of_both
sum_bare =
    rw (sum_folded at_form at_expr, form.rolls-Bare (word (codes "a")), form.rolls-Bare (word (codes "b")), form.rolls-Binary binary.Add (bare (codes "a")) (bare (codes "b")))
    refl

input_bare : (name : List ℕ) → bare_expr (input name) ≡ input name
input_bare name = rw (input_folded at_form at_expr name, form.rolls-Input 0 (word name)) refl

output_bare : (key label : List ℕ) → bare_expr (output_of key label) ≡ output_of key label
output_bare key label = rw (output_folded at_form at_expr key label, form.rolls-Child 0 (word key) None (asked.Outputs (word label))) refl

first_bare : bare_step first ≡ first
first_bare = rw (input_bare (codes "a"), input_bare (codes "b")) refl

second_bare : bare_step second ≡ second
second_bare = rw (output_bare (codes "a") (codes "y"), output_bare (codes "b") (codes "y")) refl

last_bare : bare_step last ≡ last
last_bare = rw (output_bare (codes "t") (codes "s")) refl

step_bare : (s : Step) → bare_step s ≡ s → at_instr (Instr-F.Step s) ≡ instr.Step s
step_bare s h = ap (λ (x : Step). roll-Instr (Instr-F.Step x)) h ∙ instr.rolls-Step s

outline_bare : bare_block pair.outline ≡ pair.outline
outline_bare =
    outline_folded at_instr at_arm at_block
    ∙ λ i. roll-Block (record { instrs = step_bare first first_bare i ∷ (step_bare second second_bare i ∷ (step_bare last last_bare i ∷ [])) })

-- the library has no offsets
pub bared : bare_library library ≡ library
bared = rw (program_bare, argument_bare, read_bare, sum_bare, outline_bare) refl
