-- The tokens of a chain stay within the bounds on nesting and weight.
use Rattle.std.proofs.Common.{◌≡◌, ℕ, suc, ◌+◌, ◌*◌, ◌≤◌, List, [], ◌∷◌, ◌++◌, map, length, Bool, true, false, Some, None, refl, sym, ap, ◌∙◌, append_assoc, subst, arith}
use Rattle.std.specs.Prelude.{codes, flat_map}
use Rattle.std.specs.List.{AllByRecursion}
use Rattle.wc_handlers.specs.declared.spec.Handler.{Handler}
use Rattle.wc_handlers.specs.declared.spec.Remedy.{Remedy}
use Rattle.wc_handlers.specs.declared.spec.Remedy.TheVariants as remedy
use Rattle.wc_handlers.specs.declared.spec.Spec.{Spec}
use Rattle.wc_handlers.specs.Specs.{IsHandler}
use Rattle.wc_lexer.specs.declared.token.Token.TheVariants as token
use Rattle.wc_lexer.specs.declared.token.Word.TheVariants as word
use Rattle.wc_lexer.specs.declared.token.Symbol.TheVariants as symbol
use Rattle.wc_syntax.specs.declared.definition.Definition.{Definition}
use Rattle.wc_syntax.specs.declared.definition.Definition.TheVariants as definition
use Rattle.wc_syntax.specs.declared.definition.Port.{Port}
use Rattle.wc_syntax.specs.declared.expression.BinaryOp.{BinaryOp}
use Rattle.wc_syntax.specs.declared.expression.BinaryOp.TheVariants as op
use Rattle.wc_syntax.specs.declared.expression.ChildPart.{ChildPart}
use Rattle.wc_syntax.specs.declared.expression.ChildPart.TheVariants as asked
use Rattle.wc_syntax.specs.declared.expression.Expr.{Expr}
use Rattle.wc_syntax.specs.declared.expression.Name.{Name}
use Rattle.wc_syntax.specs.declared.expression.Number.{Number}
use Rattle.wc_parser.specs.PrintedTokens as print
use Rattle.wc_parser.specs.PrintedTokens.{Tokens, form_tokens, its_tokens, expr_tokens, stmt_tokens, instr_level_tokens, arm_level_tokens, block_level_tokens, definition_tokens}
use Rattle.wc_parser.proofs.Expressions.{w, s, round}
use Rattle.wc_parser.proofs.FlatExpressions.{context_light, input_light, number_light}
use Rattle.wc_parser.proofs.Walks.{Light, Heavy, Shut, Inner, shut, deeper, light_append, light_inner, join, ahead_heavy, bracketed}
use Rattle.wc_restart.specs.Chains.{code, aborted, aborts, codes_of, by_priority, chain_of}
use Rattle.wc_restart.specs.Pieces.{word as name_word, number, numeral, truth, input, plain, child, output_of, negated, joined, set, exit, given, call_with}
use Rattle.wc_restart.specs.Ports.{inputs_of, asked_of, given_of}
use Rattle.wc_restart.specs.Sources.{of_fix}
use Rattle.wc_restart.specs.Statements.{goes_on, has_succeeded, has_status, or_one_of, is_one_of, setting, counting, passed_on, passing, ending, mending, failing, closing}
use Rattle.wc_restart.proofs.Folded.{numeral_folded, truth_folded, input_folded, plain_folded, child_folded, negated_folded, joined_folded}
use Rattle.wc_restart.proofs.Outlined.{outline_folded, remedy_made, handler_made, outline_made}
use Rattle.wc_expansion.proofs.Calm.{Calm, calm_nothing, calm_append, calm_more, calm_light, Sized, calm_heavy, calm_guarded, calm_block, args_inner, calm_call, calm_step, calm_definition}

-- ---- expressions

sized : {ts ps : Tokens} (n : ℕ) (e : Expr) → expr_tokens e ≡ ps → Inner Shut n n ts ps → Sized n e
sized {ts = ts} n e h x = (ts, subst (λ z. Inner Shut n n ts z) (sym h) x)

light : {o : Tokens} {f : Bool} (e : Expr) → expr_tokens e ≡ o → Light o f → Sized 0 e
light e h x = sized 0 e h (shut (light_inner x))

sized_numeral : (n : ℕ) → Sized 0 (numeral n)
sized_numeral n = light (numeral n) (numeral_folded form_tokens its_tokens n) (number_light (number n))

truth_light : (b : Bool) → Light (print.truth_word b) false
truth_light true = record { lean = λ K b w c l. l.2; flat = λ K b r w c h k. (h, k) }
truth_light false = record { lean = λ K b w c l. l.2; flat = λ K b r w c h k. (h, k) }

sized_truth : (b : Bool) → Sized 0 (truth b)
sized_truth b = light (truth b) (truth_folded form_tokens its_tokens b) (truth_light b)

sized_plain : (key : List ℕ) → Sized 0 (plain key)
sized_plain key = light (plain key) (plain_folded form_tokens its_tokens key) (context_light (name_word key))

sized_input : (name : List ℕ) → Sized 0 (input name)
sized_input name = light (input name) (input_folded form_tokens its_tokens name) (input_light (name_word name))

ends_called : ChildPart → Bool
ends_called (asked.Outputs n) = true
ends_called asked.Status = false
ends_called asked.Ok = false

part_light : (p : ChildPart) → Light (print.child_part p) (ends_called p)
unfolding ends_called
part_light (asked.Outputs n) = record { lean = λ K b w c l. l.2.2.2.2; flat = λ K b r w c h k. (h, (h, (h, (h, k)))) }
part_light asked.Status = record { lean = λ K b w c l. l.2.2; flat = λ K b r w c h k. (h, (h, k)) }
part_light asked.Ok = record { lean = λ K b w c l. l.2.2; flat = λ K b r w c h k. (h, (h, k)) }

sized_child : (key : List ℕ) (p : ChildPart) → Sized 0 (child key p)
sized_child key p = light (child key p) (child_folded form_tokens its_tokens key p) (light_append (context_light (name_word key)) (part_light p))

sized_output : (key name : List ℕ) → Sized 0 (output_of key name)
sized_output key name = sized_child key (asked.Outputs (name_word name))

not_heavy : Heavy (w word.Not ∷ [])
not_heavy = record { lean = λ K b w c l. (l.1, l.2); flat = λ K b r w c h k. (h, k) }

sized_negated : (n : ℕ) (e : Expr) → Sized n e → Sized (suc n) (negated e)
sized_negated n e x = sized (suc n) (negated e) (negated_folded form_tokens its_tokens e) (bracketed (shut (ahead_heavy not_heavy x.1)))

sized_joined : (o : BinaryOp) (m n k : ℕ) (d e : Expr) → k ≡ suc (m + n) → Heavy (print.binary_sign o) → Sized m d → Sized n e → Sized k (joined o d e)
sized_joined o m n k d e i h x y =
    let size : m + suc n ≡ k = omega arith in
    sized k (joined o d e) (joined_folded form_tokens its_tokens o d e ∙ ap round (append_assoc (expr_tokens d) (print.binary_sign o) (expr_tokens e)))
    (subst (λ (z : ℕ). Inner Shut k z (x.0 ++ (print.binary_sign o ++ y.0)) (round (expr_tokens d ++ (print.binary_sign o ++ expr_tokens e)))) size
    (deeper (omega arith) (bracketed (join x.1 (ahead_heavy h y.1)))))

or_heavy : Heavy (print.binary_sign op.Or)
or_heavy = record { lean = λ K b w c l. (l.1, l.2); flat = λ K b r w c h k. (h, k) }

and_heavy : Heavy (print.binary_sign op.And)
and_heavy = record { lean = λ K b w c l. (l.1, l.2); flat = λ K b r w c h k. (h, k) }

equal_heavy : Heavy (print.binary_sign op.Equal)
equal_heavy = record { lean = λ K b w c l. (l.1, l.2); flat = λ K b r w c h k. (h, k) }

less_heavy : Heavy (print.binary_sign op.Less)
less_heavy = record { lean = λ K b w c l. (l.1, l.2); flat = λ K b r w c h k. (h, k) }

add_heavy : Heavy (print.binary_sign op.Add)
add_heavy = record { lean = λ K b w c l. (l.1, l.2); flat = λ K b r w c h k. (h, k) }

sized_goes_on : (most : ℕ) → Sized 3 (goes_on most)
sized_goes_on most = sized_joined op.And 1 1 3 (negated (plain (codes "done"))) (joined op.Less (plain (codes "n")) (numeral most)) refl and_heavy
    (sized_negated 0 (plain (codes "done")) (sized_plain (codes "done"))) (sized_joined op.Less 0 0 1 (plain (codes "n")) (numeral most) refl less_heavy (sized_plain (codes "n")) (sized_numeral most))

sized_status : (n : ℕ) → Sized 1 (has_status n)
sized_status n = sized_joined op.Equal 0 0 1 (child (codes "job") asked.Status) (numeral n) refl equal_heavy (sized_child (codes "job") asked.Status) (sized_numeral n)

sized_or : (m k : ℕ) (e : Expr) (ns : List ℕ) → k ≡ m + 2 * length ns → Sized m e → Sized k (or_one_of e ns)
sized_or m k e [] i x = let j : m ≡ k = omega arith in subst (λ (z : ℕ). Sized z e) j x
sized_or m k e (n ∷ ns) i x = sized_or (suc (m + 1)) k (joined op.Or e (has_status n)) ns (omega arith) (sized_joined op.Or m 1 (suc (m + 1)) e (has_status n) refl or_heavy x (sized_status n))

-- at most 16 statuses weigh at most 31
condition_sized : (ns : List ℕ) → length ns ≤ 16 → (n : ℕ) × (n ≤ 100) × Sized n (is_one_of ns)
condition_sized [] h = (0, omega arith, sized_truth false)
condition_sized (n ∷ ns) h = (1 + 2 * length ns, omega arith, sized_or 1 (1 + 2 * length ns) (has_status n) ns refl (sized_status n))

-- ---- statements

keep_light : (n : Name) → Light (w word.Ctx ∷ s symbol.Dot ∷ token.Name n.text ∷ s symbol.Is ∷ []) false
keep_light n = record { lean = λ K b w c l. l.2.2.2.2; flat = λ K b r w c h k. (h, (h, (h, (h, k)))) }

out_light : (n : Name) → Light (w word.Out ∷ token.Name n.text ∷ s symbol.Is ∷ []) false
out_light n = record { lean = λ K b w c l. l.2.2.2; flat = λ K b r w c h k. (h, (h, (h, k))) }

exit_light : (n : Number) → Light (w word.Exit ∷ token.Number n.value ∷ []) false
exit_light n = record { lean = λ K b w c l. l.2.2; flat = λ K b r w c h k. (h, (h, k)) }

exit_if_light : (n : Number) → Light (w word.Exit ∷ token.Number n.value ∷ w word.If ∷ []) false
exit_if_light n = record { lean = λ K b w c l. l.2.2.2; flat = λ K b r w c h k. (h, (h, (h, k))) }

set_calm : (n : ℕ) (key : List ℕ) (e : Expr) → n ≤ 100 → Sized n e → Calm 0 (stmt_tokens (set key e))
set_calm n key e h x = calm_heavy n e h (keep_light (name_word key)) x

setting_calm : Calm 0 (flat_map stmt_tokens setting)
setting_calm =
    calm_append (stmt_tokens (set (codes "n") (numeral 0))) (flat_map stmt_tokens (set (codes "bad") (truth false) ∷ (set (codes "fresh") (truth true) ∷ (set (codes "done") (truth false) ∷ []))))
    (set_calm 0 (codes "n") (numeral 0) (omega arith) (sized_numeral 0))
    (calm_append (stmt_tokens (set (codes "bad") (truth false))) (flat_map stmt_tokens (set (codes "fresh") (truth true) ∷ (set (codes "done") (truth false) ∷ [])))
    (set_calm 0 (codes "bad") (truth false) (omega arith) (sized_truth false))
    (calm_append (stmt_tokens (set (codes "fresh") (truth true))) (flat_map stmt_tokens (set (codes "done") (truth false) ∷ []))
    (set_calm 0 (codes "fresh") (truth true) (omega arith) (sized_truth true))
    (calm_append (stmt_tokens (set (codes "done") (truth false))) [] (set_calm 0 (codes "done") (truth false) (omega arith) (sized_truth false)) calm_nothing)))

counting_calm : Calm 0 (flat_map stmt_tokens counting)
counting_calm =
    let more = joined op.Add (plain (codes "n")) (numeral 1) in
    calm_append (stmt_tokens (set (codes "n") more)) []
    (set_calm 1 (codes "n") more (omega arith) (sized_joined op.Add 0 0 1 (plain (codes "n")) (numeral 1) refl add_heavy (sized_plain (codes "n")) (sized_numeral 1))) calm_nothing

passed_calm : (p : Port) → Calm 0 (stmt_tokens (passed_on p))
passed_calm p = calm_heavy 0 (output_of (codes "job") p.name.text) (omega arith) (out_light (name_word p.name.text)) (sized_output (codes "job") p.name.text)

passing_calm : (ps : List Port) → Calm 0 (flat_map stmt_tokens (passing ps))
passing_calm [] = calm_append (stmt_tokens (set (codes "done") (truth true))) [] (set_calm 0 (codes "done") (truth true) (omega arith) (sized_truth true)) calm_nothing
passing_calm (p ∷ ps) = calm_append (stmt_tokens (passed_on p)) (flat_map stmt_tokens (passing ps)) (passed_calm p) (passing_calm ps)

ending_calm : (n : ℕ) → Calm 0 (flat_map stmt_tokens (ending n))
ending_calm n = calm_append (stmt_tokens (exit n None)) [] (calm_light (exit_light (number n))) calm_nothing

mending_calm : Calm 0 (flat_map stmt_tokens mending)
mending_calm =
    calm_append (stmt_tokens (set (codes "fresh") (truth false))) (flat_map stmt_tokens (set (codes "bad") (truth false) ∷ []))
    (set_calm 0 (codes "fresh") (truth false) (omega arith) (sized_truth false))
    (calm_append (stmt_tokens (set (codes "bad") (truth false))) [] (set_calm 0 (codes "bad") (truth false) (omega arith) (sized_truth false)) calm_nothing)

failing_calm : Calm 0 (flat_map stmt_tokens failing)
failing_calm =
    calm_append (stmt_tokens (exit 402 (Some (plain (codes "bad"))))) (flat_map stmt_tokens (set (codes "bad") (truth true) ∷ []))
    (calm_heavy 0 (plain (codes "bad")) (omega arith) (exit_if_light (number 402)) (sized_plain (codes "bad")))
    (calm_append (stmt_tokens (set (codes "bad") (truth true))) [] (set_calm 0 (codes "bad") (truth true) (omega arith) (sized_truth true)) calm_nothing)

closing_calm : Calm 0 (flat_map stmt_tokens closing)
closing_calm =
    let undone = negated (plain (codes "done")) in
    calm_append (stmt_tokens (exit 401 (Some undone))) []
    (calm_heavy 1 undone (omega arith) (exit_if_light (number 401)) (sized_negated 0 (plain (codes "done")) (sized_plain (codes "done")))) calm_nothing

call_calm : (callee : List ℕ) (source : List ℕ → Expr) → ((x : List ℕ) → Sized 0 (source x)) → (ports : List Port) (key : List ℕ)
    → Calm 0 (flat_map stmt_tokens (call_with callee source ports key ∷ []))
call_calm callee source h ports key =
    calm_append (stmt_tokens (call_with callee source ports key)) []
    (calm_call (name_word callee) (print.items print.arg_tokens (map (given source) ports)) false (name_word key) (args_inner true (given source) (λ p. h p.name.text) ports)) calm_nothing

-- ---- instructions

if_light : Light (w word.If ∷ []) false
if_light = record { lean = λ K b w c l. l.2; flat = λ K b r w c h k. (h, k) }

elif_light : Light (w word.Elif ∷ []) false
elif_light = record { lean = λ K b w c l. l.2; flat = λ K b r w c h k. (h, k) }

else_light : Light (w word.Else ∷ []) false
else_light = record { lean = λ K b w c l. l.2; flat = λ K b r w c h k. (h, k) }

while_light : Light (w word.While ∷ []) false
while_light = record { lean = λ K b w c l. l.2; flat = λ K b r w c h k. (h, k) }

abbrev step_of : List ℕ → Tokens → Tokens
step_of name ts = w word.Step ∷ token.Name name ∷ print.in_braces ts

single : (m : ℕ) (ts : Tokens) → Calm m ts → Calm m (flat_map (λ z. z) (ts ∷ []))
single m ts x = calm_append ts [] x calm_nothing

abbrev called : List ℕ → (callee key : List ℕ) → (List ℕ → Expr) → List Port → Tokens
called name callee key source ports = step_of name (flat_map stmt_tokens (call_with callee source ports key ∷ []))

abbrev calls : (one two callee key : List ℕ) → List Port → Tokens
calls one two callee key ports =
    ((w word.If ∷ (expr_tokens (plain (codes "fresh")) ++ print.in_braces (flat_map (λ z. z) (called one callee key input ports ∷ [])))) ++ [])
    ++ w word.Else ∷ print.in_braces (flat_map (λ z. z) (called two callee key of_fix ports ∷ []))

calls_calm : (one two callee key : List ℕ) (ports : List Port) → Calm 2 (calls one two callee key ports)
calls_calm one two callee key ports =
    let fresh = flat_map (λ z. z) (called one callee key input ports ∷ []) in
    let fixed = flat_map (λ z. z) (called two callee key of_fix ports ∷ []) in
    let branch = w word.If ∷ (expr_tokens (plain (codes "fresh")) ++ print.in_braces fresh) in
    calm_append (branch ++ []) (w word.Else ∷ print.in_braces fixed)
    (calm_append branch [] (calm_guarded 1 0 (plain (codes "fresh")) fresh (omega arith) if_light (sized_plain (codes "fresh"))
    (single 1 (called one callee key input ports) (calm_step (name_word one) _ (call_calm callee input sized_input ports key)))) calm_nothing)
    (calm_block 1 fixed else_light (single 1 (called two callee key of_fix ports) (calm_step (name_word two) _ (call_calm callee of_fix (λ x. sized_output (codes "fix") x) ports key))))

abbrev Remedy-tokens : List Definition → Remedy → Tokens
Remedy-tokens library r = flat_map (λ z. z) (remedy_made instr_level_tokens arm_level_tokens block_level_tokens library r)

remedy_calm : (library : List Definition) (r : Remedy) → Calm 2 (Remedy-tokens library r)
remedy_calm library (remedy.Abort status) =
    single 2 (step_of (codes "stop") (flat_map stmt_tokens (ending status))) (calm_more 1 2 (omega arith) (calm_step (name_word (codes "stop")) _ (ending_calm status)))
remedy_calm library (remedy.Call name) =
    let ports = inputs_of name library in
    let last = step_of (codes "mended") (flat_map stmt_tokens mending) in
    calm_append (calls (codes "mend") (codes "remend") name (codes "fix") ports) (flat_map (λ z. z) (last ∷ []))
    (calls_calm (codes "mend") (codes "remend") name (codes "fix") ports)
    (single 2 last (calm_more 1 2 (omega arith) (calm_step (name_word (codes "mended")) _ mending_calm)))

abbrev handlers_made : List Definition → List Handler → List Tokens
handlers_made library hs = map (handler_made instr_level_tokens arm_level_tokens block_level_tokens library) hs

handlers_calm : (library : List Definition) (hs : List Handler) → AllByRecursion IsHandler hs → Calm 3 (print.branches_tokens false (handlers_made library hs))
handlers_calm library [] a = calm_nothing
handlers_calm library (h ∷ hs) a =
    let i : IsHandler h = a.0 in
    let c = condition_sized h.statuses i.few in
    calm_append (w word.Elif ∷ (expr_tokens (is_one_of h.statuses) ++ print.in_braces (Remedy-tokens library h.remedy))) (print.branches_tokens false (handlers_made library hs))
    (calm_guarded 2 c.0 (is_one_of h.statuses) (Remedy-tokens library h.remedy) c.1 elif_light c.2 (remedy_calm library h.remedy)) (handlers_calm library hs a.1)

module _ (library : List Definition) (s : Spec) (a : AllByRecursion IsHandler (by_priority s.handlers)) where
  abbrev good : Tokens
  good = flat_map (λ z. z) (step_of (codes "good") (flat_map stmt_tokens (passing (given_of s.job library))) ∷ [])

  abbrev judged : Tokens
  judged =
      ((w word.If ∷ (expr_tokens has_succeeded ++ print.in_braces good)) ++ print.branches_tokens false (handlers_made library (by_priority s.handlers)))
      ++ w word.Else ∷ print.in_braces (flat_map (λ z. z) (step_of (codes "unhandled") (flat_map stmt_tokens failing) ∷ []))

  judged_calm : Calm 3 judged
  judged_calm =
      let first = w word.If ∷ (expr_tokens has_succeeded ++ print.in_braces good) in
      let others = print.branches_tokens false (handlers_made library (by_priority s.handlers)) in
      let fails = flat_map (λ z. z) (step_of (codes "unhandled") (flat_map stmt_tokens failing) ∷ []) in
      calm_append (first ++ others) (w word.Else ∷ print.in_braces fails)
      (calm_append first others (calm_more 2 3 (omega arith) (calm_guarded 1 0 has_succeeded good (omega arith) if_light (sized_child (codes "job") asked.Ok)
      (single 1 (step_of (codes "good") (flat_map stmt_tokens (passing (given_of s.job library)))) (calm_step (name_word (codes "good")) _ (passing_calm (given_of s.job library))))))
      (handlers_calm library (by_priority s.handlers) a))
      (calm_more 2 3 (omega arith) (calm_block 1 fails else_light (single 1 (step_of (codes "unhandled") (flat_map stmt_tokens failing)) (calm_step (name_word (codes "unhandled")) _ failing_calm))))

  abbrev turn : Tokens
  turn = flat_map (λ z. z) (calls (codes "start") (codes "again") s.job (codes "job") (asked_of s.job library) ∷ (step_of (codes "counted") (flat_map stmt_tokens counting) ∷ (judged ∷ [])))

  turn_calm : Calm 3 turn
  turn_calm =
      let tries = calls (codes "start") (codes "again") s.job (codes "job") (asked_of s.job library) in
      let counts = step_of (codes "counted") (flat_map stmt_tokens counting) in
      calm_append tries (flat_map (λ z. z) (counts ∷ (judged ∷ []))) (calm_more 2 3 (omega arith) (calls_calm (codes "start") (codes "again") s.job (codes "job") (asked_of s.job library)))
      (calm_append counts (flat_map (λ z. z) (judged ∷ [])) (calm_more 1 3 (omega arith) (calm_step (name_word (codes "counted")) _ counting_calm)) (single 3 judged judged_calm))

  outline_calm : Calm 4 (outline_made instr_level_tokens arm_level_tokens block_level_tokens library s)
  outline_calm =
      let sets = step_of (codes "setup") (flat_map stmt_tokens setting) in
      let loop = (w word.While ∷ expr_tokens (goes_on s.most)) ++ print.in_braces turn in
      let last = step_of (codes "finish") (flat_map stmt_tokens closing) in
      calm_append sets (flat_map (λ z. z) (loop ∷ (last ∷ []))) (calm_more 1 4 (omega arith) (calm_step (name_word (codes "setup")) _ setting_calm))
      (calm_append loop (flat_map (λ z. z) (last ∷ [])) (calm_guarded 3 3 (goes_on s.most) turn (omega arith) while_light (sized_goes_on s.most) turn_calm)
      (single 4 last (calm_more 1 4 (omega arith) (calm_step (name_word (codes "finish")) _ closing_calm))))

  -- ---- the definition

  code_light : (status : ℕ) (message : List ℕ) → Light (w word.ExitCode ∷ token.Number (number status).value ∷ token.Quoted message ∷ []) false
  code_light status message = record { lean = λ K b w c l. l.2.2.2; flat = λ K b r w c h k. (h, (h, (h, k))) }

  code_calm : (status : ℕ) (message : List ℕ) → Calm 4 (print.code_tokens (code status message))
  code_calm status message = calm_more 0 4 (omega arith) (calm_light (code_light status message))

  aborts_calm : (ns : List ℕ) → Calm 4 (flat_map print.code_tokens (map aborted ns))
  aborts_calm [] = calm_nothing
  aborts_calm (n ∷ ns) = calm_append (print.code_tokens (aborted n)) (flat_map print.code_tokens (map aborted ns)) (code_calm n (codes "aborted")) (aborts_calm ns)

  codes_calm : Calm 4 (flat_map print.code_tokens (codes_of s))
  codes_calm =
      let others = flat_map print.code_tokens (map aborted (aborts s.handlers)) in
      let next = print.code_tokens (code 402 (codes "second unhandled failure")) in
      calm_append (print.code_tokens (code 401 (codes "maximum iterations"))) (next ++ others) (code_calm 401 (codes "maximum iterations"))
      (calm_append next others (code_calm 402 (codes "second unhandled failure")) (aborts_calm (aborts s.handlers)))

  -- Five braces are open at once at most.
  pub chain_calm : Calm 5 (definition_tokens (definition.Chain (chain_of library s)))
  chain_calm =
      let c = chain_of library s in
      calm_definition 4 c.head (print.block_tokens c.outline) codes_calm
      (subst (λ z. Calm 4 z) (sym (outline_folded instr_level_tokens arm_level_tokens block_level_tokens library s)) outline_calm)
