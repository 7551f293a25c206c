-- A library of two definitions: `double` doubles a number by a job, and `fan` calls it twice.
use Rattle.std.specs.Prelude.{ℕ, pos, true, false, List, [], ◌∷◌, Some, codes}
use Rattle.wc_value.specs.declared.value.Kind.TheVariants as kind
use Rattle.wc_syntax.specs.declared.definition.Chain.{Chain}
use Rattle.wc_syntax.specs.declared.definition.Definition.{Definition}
use Rattle.wc_syntax.specs.declared.definition.Definition.TheVariants as definition
use Rattle.wc_syntax.specs.declared.definition.Job.{Job}
use Rattle.wc_syntax.specs.declared.definition.Port.{Port}
use Rattle.wc_syntax.specs.declared.definition.Rule.TheVariants as rule
use Rattle.wc_syntax.specs.declared.expression.BinaryOp.TheVariants as binary
use Rattle.wc_syntax.specs.declared.expression.ChildPart.TheVariants as asked
use Rattle.wc_syntax.specs.declared.expression.Expr.{Expr}
use Rattle.wc_syntax.specs.declared.expression.Form.TheVariants as form
use Rattle.wc_syntax.specs.declared.expression.OneOf.TheVariants as one
use Rattle.wc_syntax.specs.declared.expression.TwoOf.TheVariants as two
use Rattle.wc_syntax.specs.declared.expression.UnaryOp.TheVariants as unary
use Rattle.wc_syntax.specs.declared.outline.Block.{roll-Block}
use Rattle.wc_syntax.specs.declared.outline.Instr.TheVariants as instr
use Rattle.wc_syntax.specs.declared.outline.Step.{Step}
use Rattle.wc_syntax.specs.declared.outline.CallStmt.{CallStmt}
use Rattle.wc_syntax.specs.declared.outline.Stmt.TheVariants as stmt
use Rattle.wc_soundness.specs.Words.{word, quote, number, expr}

-- a required port of numbers
abbrev pub port : List ℕ → Port
port name = record { at = 0; name = word name; optional = false; kind = kind.Int }

-- ---- the job

-- "double"
abbrev pub program_text : Expr
program_text = expr (form.Quoted (quote (codes "double")))

-- x
abbrev pub bare_number : Expr
bare_number = expr (form.Bare (word (codes "x")))

-- text(x)
abbrev pub number_text : Expr
number_text = expr (form.One one.Text bare_number)

-- retrieved
abbrev pub folder : Expr
folder = expr (form.Bare (word (codes "retrieved")))

-- "out.txt"
abbrev pub file_name : Expr
file_name = expr (form.Quoted (quote (codes "out.txt")))

-- has(retrieved, "out.txt")
abbrev pub has_file : Expr
has_file = expr (form.Two two.Has folder file_name)

-- not has(retrieved, "out.txt")
abbrev pub lacks_file : Expr
lacks_file = expr (form.Unary unary.Not has_file)

-- file(retrieved, "out.txt")
abbrev pub file_text : Expr
file_text = expr (form.Two two.File folder file_name)

-- trim(file(retrieved, "out.txt"))
abbrev pub trimmed_text : Expr
trimmed_text = expr (form.One one.Trim file_text)

-- int(trim(file(retrieved, "out.txt")))
abbrev pub file_number : Expr
file_number = expr (form.One one.Int trimmed_text)

-- calcjob double(x: int) -> (value: int) {
--   exit_code 310 "no number" invalidates;
--   program "double"; arg text(x); fetch "out.txt";
--   parse { exit 310 if not has(retrieved, "out.txt"); out value = int(trim(file(retrieved, "out.txt"))); }
-- }
abbrev pub double : Job
double = record {
  head = record {
    at = 0;
    name = word (codes "double");
    inputs = port (codes "x") ∷ [];
    outputs = port (codes "value") ∷ [];
    codes = record { at = 0; status = number (pos 310); message = quote (codes "no number"); invalidates = true } ∷ [];
  };
  program = record { at = 0; value = program_text };
  args = record { at = 0; value = number_text } ∷ [];
  files = [];
  fetch = record { at = 0; name = quote (codes "out.txt") } ∷ [];
  parse =
      rule.Exit (record { at = 0; status = number (pos 310); condition = Some lacks_file })
      ∷ (rule.Out 0 (word (codes "value")) file_number ∷ []);
}

-- ---- the work chain

-- inputs.a
abbrev pub input_a : Expr
input_a = expr (form.Input 0 (word (codes "a")))

-- a number as an expression
abbrev pub numeral : ℕ → Expr
numeral n = expr (form.Number (number (pos n)))

-- inputs.a + 1
abbrev pub one_more : Expr
one_more = expr (form.Binary binary.Add input_a (numeral 1))

-- call double(x: value) append ctx.parts;
abbrev pub calls_with : Expr → CallStmt
calls_with value = record {
  at = 0;
  callee = word (codes "double");
  args = record { port = word (codes "x"); value = value } ∷ [];
  append = true;
  key = word (codes "parts");
}

-- ctx.parts[place].outputs.value
abbrev pub output_at : ℕ → Expr
output_at place = expr (form.Child 0 (word (codes "parts")) (Some (numeral place)) (asked.Outputs (word (codes "value"))))

-- step go { call double(x: inputs.a) append ctx.parts; call double(x: inputs.a + 1) append ctx.parts; }
abbrev pub go : Step
go = record { at = 0; name = word (codes "go"); stmts = stmt.Call (calls_with input_a) ∷ (stmt.Call (calls_with one_more) ∷ []) }

-- step done { out first = ctx.parts[0].outputs.value; out last = ctx.parts[1].outputs.value; }
abbrev pub done : Step
done = record { at = 0; name = word (codes "done"); stmts = stmt.Out 0 (word (codes "first")) (output_at 0) ∷ (stmt.Out 0 (word (codes "last")) (output_at 1) ∷ []) }

-- workchain fan(a: int) -> (first: int, last: int) { step go { .. } step done { .. } }
abbrev pub fan : Chain
fan = record {
  head = record { at = 0; name = word (codes "fan"); inputs = port (codes "a") ∷ []; outputs = port (codes "first") ∷ (port (codes "last") ∷ []); codes = [] };
  outline = roll-Block (record { instrs = instr.Step go ∷ (instr.Step done ∷ []) });
}

-- A job that doubles a number, and a work chain that calls it twice, written out
abbrev pub library : List Definition
library = definition.Job double ∷ (definition.Chain fan ∷ [])
