-- The worked attempts, by computation.
use Rattle.std.proofs.Common.{◌≡◌, ℕ, false, true, List, [], ◌∷◌, Some, refl, ap, ◌∙◌}
use Rattle.std.specs.Prelude.{pos, codes, if◌then◌else◌}
use Rattle.std.specs.Fmt.{digits}
use Rattle.std.specs.Str.{is_utf8, chars}
use lib.Utf8.{encode}
use Rattle.wc_value.specs.Ascending.{put}
use Rattle.wc_value.specs.declared.process.JobResult.{JobResult}
use Rattle.wc_value.specs.declared.process.ProcessState.TheVariants.{Finished}
use Rattle.wc_value.specs.declared.value.Kind.TheVariants as kind
use Rattle.wc_value.specs.declared.value.Value.{out-Value}
use Rattle.wc_value.specs.declared.value.Value.TheVariants as value
use Rattle.wc_syntax.specs.declared.expression.BinaryOp.TheVariants as binary
use Rattle.wc_syntax.specs.declared.expression.Expr.{Expr}
use Rattle.wc_syntax.specs.declared.expression.Form.TheVariants as form
use Rattle.wc_syntax.specs.declared.expression.OneOf.TheVariants as one
use Rattle.wc_syntax.specs.declared.expression.TwoOf.TheVariants as of_two
use Rattle.wc_syntax.specs.declared.expression.UnaryOp.TheVariants as unary
use Rattle.wc_state.specs.declared.environment.Env.{Env}
use Rattle.wc_expression.specs.declared.outcome.Outcome.TheVariants.{Gives}
use Rattle.wc_expression.specs.Contents.{bool_of, text_of}
use Rattle.wc_expression.specs.Outcomes.{◌>>=◌}
use Rattle.wc_expression.specs.Val.{val, is_allowed}
use Rattle.wc_semantics.specs.declared.outcomes.Parsed.{Parsed}
use Rattle.wc_semantics.specs.Outcomes.{calculated, concluded, parsed, parse_env, retrieved}
use Rattle.wc_semantics.specs.Requests.{request, text_at}
use Rattle.wc_semantics.specs.Rules.{Values, env_of, fitting}
use Rattle.wc_attempts.specs.Attempts.{at_ports, Attempts, attempt, ends, finished, by_request, tried, after, goes_on_with, mended}
use Rattle.wc_restart.specs.Examples.{bare, out_txt, double, less, library, mends, spec}
use Rattle.wc_attempts.specs.Examples.{asked, rows, nine, four}
use Rattle.wc_attempts.specs.Laws.{attempts_of}
use Rattle.wc_restart.specs.Ports.{required}
use Rattle.wc_restart.specs.Pieces.{expr, numeral, negated, joined}
use Rattle.wc_attempts.proofs.Values.{int_allowed, text_allowed, bool_allowed, folder_allowed, number_gives, quoted_gives, bare_gives, unary_gives, one_gives, two_gives, binary_gives}

-- ---- the request of the job

abbrev x_is : ℕ → Values
x_is n = (codes "x", value.Int (pos n)) ∷ []

text_from : (e : Expr) (env : Env) (t : List ℕ) → val e env ≡ Gives (value.Text t) → text_at e env ≡ Gives t
unfolding out-Value denote.Hole.Carrier.out
text_from e env t p = ap (λ o. o >>= (λ v. text_of (out-Value v))) p

abbrev argument : Expr
argument = expr (form.One one.Text (bare (codes "x")))

request_by : (n digit : ℕ) → is_allowed (value.Text (digit ∷ [])) ≡ true → val argument (env_of (x_is n)) ≡ Gives (value.Text (digit ∷ []))
    → request double (x_is n) ≡ Gives (asked (digit ∷ []))
request_by n digit fits given =
    let env : Env = env_of (x_is n) in
    let p : text_at double.program.value env ≡ Gives (codes "double") = text_from double.program.value env (codes "double") (quoted_gives env (codes "double") (text_allowed _ refl)) in
    let q : text_at argument env ≡ Gives (digit ∷ []) = text_from argument env _ given in
    λ i. p i >>= (λ program. (q i >>= (λ t. Gives [] >>= (λ ts. Gives (t ∷ ts)))) >>= (λ args. Gives [] >>= (λ files.
    Gives (record { program = program; args = args; files = files; fetch = codes "out.txt" ∷ [] }))))

request_nine : request double nine ≡ Gives (asked (codes "9"))
unfolding digits out-Value denote.Hole.Carrier.out
request_nine =
    request_by 9 57 (text_allowed _ refl)
    (one_gives (env_of nine) one.Text (bare (codes "x")) _ (value.Text (codes "9")) (bare_gives (env_of nine) (codes "x") _ refl (int_allowed (pos 9) refl)) refl (text_allowed _ refl))

abbrev pub two : Values
two = x_is 2

request_two : request double two ≡ Gives (asked (codes "2"))
unfolding digits out-Value denote.Hole.Carrier.out
request_two =
    request_by 2 50 (text_allowed _ refl)
    (one_gives (env_of two) one.Text (bare (codes "x")) _ (value.Text (codes "2")) (bare_gives (env_of two) (codes "x") _ refl (int_allowed (pos 2) refl)) refl (text_allowed _ refl))

-- ---- its results

abbrev none_written : JobResult
none_written = record { code = pos 0; files = [] }

abbrev four_written : JobResult
four_written = record { code = pos 0; files = (codes "out.txt", codes "4\n") ∷ [] }

abbrev folder : Expr
folder = bare (codes "retrieved")

abbrev has_file : Expr
has_file = expr (form.Two of_two.Has folder out_txt)

abbrev file_text : Expr
file_text = expr (form.Two of_two.File folder out_txt)

abbrev trimmed_text : Expr
trimmed_text = expr (form.One one.Trim file_text)

abbrev failed : Parsed
failed = record { state = Finished 310; outputs = retrieved none_written }

parsed_nine : parsed double nine none_written ≡ failed
unfolding out-Value denote.Hole.Carrier.out
parsed_nine =
    let env : Env = parse_env nine none_written in
    let f : val folder env ≡ Gives (value.Folder []) = bare_gives env (codes "retrieved") _ refl (folder_allowed _ refl) in
    let g : val out_txt env ≡ Gives (value.Text (codes "out.txt")) = quoted_gives env (codes "out.txt") (text_allowed _ refl) in
    let h : val has_file env ≡ Gives (value.Bool false) = two_gives env of_two.Has folder out_txt _ _ _ f g refl (bool_allowed false) in
    let l : val (negated has_file) env ≡ Gives (value.Bool true) = unary_gives env unary.Not has_file _ _ h refl (bool_allowed true) in
    λ i. concluded double.head.outputs (retrieved none_written)
    ((l i >>= (λ b. bool_of (out-Value b))) >>= (λ taken. if taken then Gives (310, retrieved none_written)
    else ((val (expr (form.One one.Int trimmed_text)) env >>= fitting (Some kind.Int)) >>= (λ x. Gives (0, put (codes "value") x (retrieved none_written))))))

abbrev succeeded : Parsed
succeeded = record { state = Finished 0; outputs = put (codes "value") (value.Int (pos 4)) (retrieved four_written) }

parsed_two : parsed double two four_written ≡ succeeded
unfolding out-Value denote.Hole.Carrier.out is_utf8 chars encode
parsed_two =
    let env : Env = parse_env two four_written in
    let f : val folder env ≡ Gives (value.Folder four_written.files) = bare_gives env (codes "retrieved") _ refl (folder_allowed _ refl) in
    let g : val out_txt env ≡ Gives (value.Text (codes "out.txt")) = quoted_gives env (codes "out.txt") (text_allowed _ refl) in
    let h : val has_file env ≡ Gives (value.Bool true) = two_gives env of_two.Has folder out_txt _ _ _ f g refl (bool_allowed true) in
    let l : val (negated has_file) env ≡ Gives (value.Bool false) = unary_gives env unary.Not has_file _ _ h refl (bool_allowed false) in
    let t : val file_text env ≡ Gives (value.Text (codes "4\n")) = two_gives env of_two.File folder out_txt _ _ _ f g refl (text_allowed _ refl) in
    let c : val trimmed_text env ≡ Gives (value.Text (codes "4")) = one_gives env one.Trim file_text _ _ t refl (text_allowed _ refl) in
    let v : val (expr (form.One one.Int trimmed_text)) env ≡ Gives (value.Int (pos 4)) = one_gives env one.Int trimmed_text _ _ c refl (int_allowed _ refl) in
    λ i. concluded double.head.outputs (retrieved four_written)
    ((l i >>= (λ b. bool_of (out-Value b))) >>= (λ taken. if taken then Gives (310, retrieved four_written)
    else ((v i >>= fitting (Some kind.Int)) >>= (λ x. Gives (0, put (codes "value") x (retrieved four_written))))))

-- ---- the function

abbrev subtracted : Expr
subtracted = joined binary.Subtract (bare (codes "x")) (numeral 7)

calculated_nine : calculated less nine ≡ record { state = Finished 0; outputs = two }
unfolding out-Value denote.Hole.Carrier.out
calculated_nine =
    let env : Env = env_of nine in
    let x : val (bare (codes "x")) env ≡ Gives (value.Int (pos 9)) = bare_gives env (codes "x") _ refl (int_allowed (pos 9) refl) in
    let n : val (numeral 7) env ≡ Gives (value.Int (pos 7)) = number_gives env 7 (int_allowed (pos 7) refl) in
    let v : val subtracted env ≡ Gives (value.Int (pos 2)) = binary_gives env binary.Subtract (bare (codes "x")) (numeral 7) _ _ _ x refl n refl (int_allowed (pos 2) refl) in
    λ i. concluded less.head.outputs [] ((v i >>= fitting (Some kind.Int)) >>= (λ x. Gives (0, put (codes "x") x [])))

-- ---- attempts

abbrev with_handler : ℕ → Attempts
with_handler most = attempts_of library (spec most (mends ∷ [])) double rows

abbrev without : Attempts
without = attempts_of library (spec 5 []) double rows

tried_nine : (x : Attempts) → x.job ≡ double → x.rows ≡ rows → tried x nine ≡ ends failed
tried_nine x p q =
    let a : tried x nine ≡ by_request (record { job = double; handlers = x.handlers; function = x.function; rows = rows }) nine (request double nine)
    = λ i. by_request (record { job = p i; handlers = x.handlers; function = x.function; rows = q i }) nine (request (p i) nine) in
    a ∙ ap (by_request (record { job = double; handlers = x.handlers; function = x.function; rows = rows }) nine) request_nine ∙ ap ends parsed_nine

tried_two : tried (with_handler 5) two ≡ ends succeeded
tried_two = ap (by_request (with_handler 5) two) request_two ∙ ap ends parsed_two

mended_nine : (most : ℕ) → mended (with_handler most) nine less ≡ two
mended_nine most = ap (λ (p : Parsed). at_ports (required double.head.inputs) p.outputs) calculated_nine

pub mended_attempts : attempt 5 (with_handler 5) nine false ≡ finished 0 four
mended_attempts =
    ap (after (attempt 4 (with_handler 5)) false (with_handler 5) nine false) (tried_nine (with_handler 5) refl refl)
    ∙ ap (goes_on_with (attempt 4 (with_handler 5)) false (with_handler 5)) (mended_nine 5)
    ∙ ap (after (attempt 3 (with_handler 5)) false (with_handler 5) two false) tried_two

pub unhandled_attempts : attempt 5 without nine false ≡ finished 402 []
unhandled_attempts =
    ap (after (attempt 4 without) false without nine false) (tried_nine without refl refl)
    ∙ ap (after (attempt 3 without) false without nine true) (tried_nine without refl refl)

pub spent_attempts : attempt 1 (with_handler 1) nine false ≡ finished 401 []
spent_attempts =
    ap (after (attempt 0 (with_handler 1)) true (with_handler 1) nine false) (tried_nine (with_handler 1) refl refl)
    ∙ ap (goes_on_with (attempt 0 (with_handler 1)) true (with_handler 1)) (mended_nine 1)
