-- A job that doubles numbers, a function that mends its input, and the chain that is made of them.
use Rattle.std.specs.Prelude.{ℕ, pos, true, false, List, [], ◌∷◌, ◌++◌, Some, None, codes}
use Rattle.wc_value.specs.declared.value.Kind.TheVariants as kind
use Rattle.wc_syntax.specs.declared.definition.Definition.{Definition}
use Rattle.wc_syntax.specs.declared.definition.Definition.TheVariants as definition
use Rattle.wc_syntax.specs.declared.definition.Function.{Function}
use Rattle.wc_syntax.specs.declared.definition.Job.{Job}
use Rattle.wc_syntax.specs.declared.definition.Port.{Port}
use Rattle.wc_syntax.specs.declared.definition.Rule.TheVariants as rule
use Rattle.wc_syntax.specs.declared.expression.BinaryOp.TheVariants as binary
use Rattle.wc_syntax.specs.declared.expression.Expr.{Expr}
use Rattle.wc_syntax.specs.declared.expression.Form.TheVariants as form
use Rattle.wc_syntax.specs.declared.expression.OneOf.TheVariants as one
use Rattle.wc_syntax.specs.declared.expression.Quoted.{Quoted}
use Rattle.wc_syntax.specs.declared.expression.TwoOf.TheVariants as two
use Rattle.wc_handlers.specs.declared.spec.Handler.{Handler}
use Rattle.wc_handlers.specs.declared.spec.Remedy.TheVariants as remedy
use Rattle.wc_handlers.specs.declared.spec.Spec.{Spec}
use Rattle.wc_restart.specs.Pieces.{word, number, expr, numeral, negated, joined}

-- a text in quotes without a place
abbrev pub quote : List ℕ → Quoted
quote text = record { text = text; at = 0 }

-- a bare name as an expression
abbrev pub bare : List ℕ → Expr
bare name = expr (form.Bare (word name))

-- a required port for a whole number
abbrev pub port : List ℕ → Port
port name = record { at = 0; name = word name; optional = false; kind = kind.Int }

-- the text `out.txt` as an expression
abbrev pub out_txt : Expr
out_txt = expr (form.Quoted (quote (codes "out.txt")))

-- calcjob double(x: int) -> (value: int) {
--   exit_code 310 "no number" invalidates;
--   program "double"; arg text(x); fetch "out.txt";
--   parse { exit 310 if not has(retrieved, "out.txt"); out value = int(trim(file(retrieved, "out.txt"))); }
-- }
abbrev pub double : Job
double = record {
  head = record {
    at = 0;
    name = word (codes "double");
    inputs = port (codes "x") ∷ [];
    outputs = port (codes "value") ∷ [];
    codes = record { at = 0; status = number 310; message = quote (codes "no number"); invalidates = true } ∷ [];
  };
  program = record { at = 0; value = expr (form.Quoted (quote (codes "double"))) };
  args = record { at = 0; value = expr (form.One one.Text (bare (codes "x"))) } ∷ [];
  files = [];
  fetch = record { at = 0; name = quote (codes "out.txt") } ∷ [];
  parse =
      rule.Exit (record { at = 0; status = number 310; condition = Some (negated (expr (form.Two two.Has (bare (codes "retrieved")) out_txt))) })
      ∷ (rule.Out 0 (word (codes "value")) (expr (form.One one.Int (expr (form.One one.Trim (expr (form.Two two.File (bare (codes "retrieved")) out_txt)))))) ∷ []);
}

-- calcfunction less(x: int) -> (x: int) { out x = x - 7; }
abbrev pub less : Function
less = record {
  head = record { at = 0; name = word (codes "less"); inputs = port (codes "x") ∷ []; outputs = port (codes "x") ∷ []; codes = [] };
  rules = rule.Out 0 (word (codes "x")) (joined binary.Subtract (bare (codes "x")) (numeral 7)) ∷ [];
}

-- a library of a job and a function, for the examples
abbrev pub library : List Definition
library = definition.Job double ∷ (definition.Function less ∷ [])

-- the handler that calls the function for the status 310
abbrev pub mends : Handler
mends = record { statuses = 310 ∷ []; priority = 10; remedy = remedy.Call (codes "less") }

-- a spec of the job with so many attempts and these handlers
abbrev pub spec : ℕ → List Handler → Spec
spec most handlers = record { name = codes "safe"; job = codes "double"; most = most; handlers = handlers }

-- the chain with the handler, as a file says it
abbrev pub text : List ℕ
text =
    codes "workchain safe(x: int) -> (value: int) {\n"
    ++ (codes "  exit_code 401 \"maximum iterations\";\n"
    ++ (codes "  exit_code 402 \"second unhandled failure\";\n"
    ++ (codes "  step setup {\n"
    ++ (codes "    ctx.n = 0;\n"
    ++ (codes "    ctx.bad = false;\n"
    ++ (codes "    ctx.fresh = true;\n"
    ++ (codes "    ctx.done = false;\n"
    ++ (codes "  }\n"
    ++ (codes "  while ((not ctx.done) and (ctx.n < 5)) {\n"
    ++ (codes "    if ctx.fresh {\n"
    ++ (codes "      step start {\n"
    ++ (codes "        call double(x: inputs.x) to ctx.job;\n"
    ++ (codes "      }\n"
    ++ (codes "    } else {\n"
    ++ (codes "      step again {\n"
    ++ (codes "        call double(x: ctx.fix.outputs.x) to ctx.job;\n"
    ++ (codes "      }\n"
    ++ (codes "    }\n"
    ++ (codes "    step counted {\n"
    ++ (codes "      ctx.n = (ctx.n + 1);\n"
    ++ (codes "    }\n"
    ++ (codes "    if ctx.job.ok {\n"
    ++ (codes "      step good {\n"
    ++ (codes "        out value = ctx.job.outputs.value;\n"
    ++ (codes "        ctx.done = true;\n"
    ++ (codes "      }\n"
    ++ (codes "    } elif (ctx.job.status == 310) {\n"
    ++ (codes "      if ctx.fresh {\n"
    ++ (codes "        step mend {\n"
    ++ (codes "          call less(x: inputs.x) to ctx.fix;\n"
    ++ (codes "        }\n"
    ++ (codes "      } else {\n"
    ++ (codes "        step remend {\n"
    ++ (codes "          call less(x: ctx.fix.outputs.x) to ctx.fix;\n"
    ++ (codes "        }\n"
    ++ (codes "      }\n"
    ++ (codes "      step mended {\n"
    ++ (codes "        ctx.fresh = false;\n"
    ++ (codes "        ctx.bad = false;\n"
    ++ (codes "      }\n"
    ++ (codes "    } else {\n"
    ++ (codes "      step unhandled {\n"
    ++ (codes "        exit 402 if ctx.bad;\n"
    ++ (codes "        ctx.bad = true;\n"
    ++ (codes "      }\n"
    ++ (codes "    }\n"
    ++ (codes "  }\n"
    ++ (codes "  step finish {\n"
    ++ (codes "    exit 401 if (not ctx.done);\n"
    ++ (codes "  }\n"
    ++ codes "}\n"))))))))))))))))))))))))))))))))))))))))))))))))))
