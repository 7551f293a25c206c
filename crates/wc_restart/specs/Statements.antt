-- The statements of the chain's steps, and its conditions.
use Rattle.std.specs.Prelude.{ℕ, true, false, List, [], ◌∷◌, ◌++◌, map, Some, None, codes}
use Rattle.wc_syntax.specs.declared.definition.Port.{Port}
use Rattle.wc_syntax.specs.declared.expression.BinaryOp.TheVariants as binary
use Rattle.wc_syntax.specs.declared.expression.ChildPart.TheVariants as asked
use Rattle.wc_syntax.specs.declared.expression.Expr.{Expr}
use Rattle.wc_syntax.specs.declared.outline.Stmt.{Stmt}
use Rattle.wc_syntax.specs.declared.outline.Stmt.TheVariants as stmt
use Rattle.wc_restart.specs.Pieces.{word, numeral, truth, plain, child, output_of, negated, joined, set, exit}

-- ---- conditions

-- ((not ctx.done) and (ctx.n < most))
abbrev pub goes_on : ℕ → Expr
goes_on most = joined binary.And (negated (plain (codes "done"))) (joined binary.Less (plain (codes "n")) (numeral most))

-- ctx.job.ok
abbrev pub has_succeeded : Expr
has_succeeded = child (codes "job") asked.Ok

-- (ctx.job.status == n)
abbrev pub has_status : ℕ → Expr
has_status n = joined binary.Equal (child (codes "job") asked.Status) (numeral n)

-- one of these statuses too, grouped to the left
abbrev pub or_one_of : Expr → List ℕ → Expr
or_one_of e [] = e
or_one_of e (n ∷ ns) = or_one_of (joined binary.Or e (has_status n)) ns

-- one of these statuses, of which there is one
abbrev pub is_one_of : List ℕ → Expr
is_one_of [] = truth false
is_one_of (n ∷ ns) = or_one_of (has_status n) ns

-- ---- steps

-- no attempt was made, none failed, the inputs are the chain's own, and the job didn't succeed
abbrev pub setting : List Stmt
setting =
    set (codes "n") (numeral 0)
    ∷ (set (codes "bad") (truth false) ∷ (set (codes "fresh") (truth true) ∷ (set (codes "done") (truth false) ∷ [])))

-- ctx.n = (ctx.n + 1);
abbrev pub counting : List Stmt
counting = set (codes "n") (joined binary.Add (plain (codes "n")) (numeral 1)) ∷ []

-- out y = ctx.job.outputs.y;
abbrev pub passed_on_as : List ℕ → Stmt
passed_on_as name = stmt.Out 0 (word name) (output_of (codes "job") name)

-- the statement that makes an output of the job one of the chain
abbrev pub passed_on : Port → Stmt
passed_on p = passed_on_as p.name.text

-- the outputs of the job are the chain's
abbrev pub passing : List Port → List Stmt
passing outputs = map passed_on outputs ++ set (codes "done") (truth true) ∷ []

-- exit status;
abbrev pub ending : ℕ → List Stmt
ending status = exit status None ∷ []

-- the next inputs are a function's outputs
abbrev pub mending : List Stmt
mending = set (codes "fresh") (truth false) ∷ (set (codes "bad") (truth false) ∷ [])

-- a second failure ends the chain
abbrev pub failing : List Stmt
failing = exit 402 (Some (plain (codes "bad"))) ∷ (set (codes "bad") (truth true) ∷ [])

-- exit 401 if (not ctx.done);
abbrev pub closing : List Stmt
closing = exit 401 (Some (negated (plain (codes "done")))) ∷ []
