-- What the job `square` asks for, and that the table has a row for it.
use Rattle.std.proofs.Common.{◌≡◌, ◌<◌, ◌≤◌, ℕ, zero, suc, Bool, true, false, List, [], ◌∷◌, ◌++◌, Option, Some, None, length, inl, inr, refl, ap, ◌∙◌, arith}
use Rattle.std.specs.Prelude.{codes, if◌then◌else◌, pos}
use Rattle.std.specs.Fmt.{decimal}
use Rattle.std.proofs.lemmas.Bool.{cases_Bool, cases_lt, le-leb}
use Rattle.std.proofs.lemmas.Fmt.{length-decimal-le_succ}
use Rattle.wc_value.specs.Spelling.{level}
use Rattle.wc_value.specs.declared.process.JobResult.{JobResult}
use Rattle.wc_value.specs.declared.process.Request.{Request}
use Rattle.wc_value.specs.declared.value.Value.{out-Value}
use Rattle.wc_value.specs.declared.value.Value.TheOpen.{Value-F}
use Rattle.wc_value.specs.declared.value.Value.TheVariants as value
use Rattle.wc_syntax.specs.declared.expression.Expr.{Expr}
use Rattle.wc_syntax.specs.declared.expression.OneOf.TheVariants as one
use Rattle.wc_state.specs.declared.environment.Env.{Env}
use Rattle.wc_expression.specs.declared.outcome.Outcome.TheVariants.{Gives}
use Rattle.wc_expression.specs.Contents.{text_of}
use Rattle.wc_expression.specs.Outcomes.{◌>>=◌}
use Rattle.wc_expression.specs.Val.{is_allowed, val}
use Rattle.wc_semantics.specs.Requests.{request, text_at}
use Rattle.wc_semantics.specs.Rules.{env_of}
use Rattle.wc_semantics.specs.Tables.{or_else, request_eq, row_of}
use Rattle.wc_meaning.proofs.Requests.{request_itself, request_same}
use Rattle.wc_ends.proofs.Soundness.Expressions.{x_is}
use Rattle.wc_ends.proofs.Soundness.Values.{bare_gives, int_allowed, one_gives, quoted_gives, text_allowed}
use Rattle.wc_drill.specs.Library.{argument, bare, program, square}
use Rattle.wc_drill.specs.Squares.{square_request, square_result, square_row, square_rows}
use Rattle.wc_drill.proofs.Rows.{number_of, rows_more, rows_none}

-- ---- the request

text_from : (e : Expr) (env : Env) (t : List ℕ) → val e env ≡ Gives (value.Text t) → text_at e env ≡ Gives t
unfolding out-Value denote.Hole.Carrier.out
text_from e env t p = ap (λ o. o >>= (λ v. text_of (out-Value v))) p

pub number_allowed : (n : ℕ) → is_allowed (value.Int (pos n)) ≡ true
number_allowed n = int_allowed (pos n) refl

spelled : (t : List ℕ) → length (level (Value-F.Text t)) ≡ suc (suc (suc (suc (suc (length t)))))
spelled t = refl

digits_allowed : (n : ℕ) → n < 100 → is_allowed (value.Text (decimal n)) ≡ true
digits_allowed n small =
    text_allowed (decimal n)
    (le-leb (length (level (Value-F.Text (decimal n)))) 4194304 (omega (arith, spelled (decimal n), length-decimal-le_succ n (omega (arith, small)))))

-- a job for a number below 100 asks for its square
pub square_asks : (n : ℕ) → n < 100 → request square (x_is n) ≡ Gives (square_request n)
unfolding out-Value denote.Hole.Carrier.out
square_asks n small =
    let env : Env = env_of (x_is n) in
    let p : text_at program env ≡ Gives (codes "square") = text_from program env (codes "square") (quoted_gives env (codes "square") (text_allowed _ refl)) in
    let x : val (bare (codes "x")) env ≡ Gives (value.Int (pos n)) = bare_gives env (codes "x") _ refl (number_allowed n) in
    let q : text_at argument env ≡ Gives (decimal n) =
    text_from argument env _ (one_gives env one.Text (bare (codes "x")) _ (value.Text (decimal n)) x refl (digits_allowed n small)) in
    λ i. p i >>= (λ program. (q i >>= (λ t. Gives [] >>= (λ ts. Gives (t ∷ ts)))) >>= (λ args. Gives [] >>= (λ files.
    Gives (record { program = program; args = args; files = files; fetch = codes "y" ∷ [] }))))

-- ---- its row

or_either : (b : Bool) (x : JobResult) (o p : Option JobResult) → (if b then Some x else or_else o p) ≡ or_else (if b then Some x else o) p
or_either true x o p = refl
or_either false x o p = refl

rows_either : (q : Request) (rs ss : List (Request × JobResult)) → row_of q (rs ++ ss) ≡ or_else (row_of q rs) (row_of q ss)
rows_either q [] ss = refl
rows_either q (r ∷ rs) ss =
    ap (λ (o : Option JobResult). if request_eq r.0 q then Some r.1 else o) (rows_either q rs ss) ∙ or_either (request_eq r.0 q) r.1 (row_of q rs) (row_of q ss)

one_row_more : (q : Request) (k : ℕ) → row_of q (square_rows (suc k)) ≡ or_else (row_of q (square_rows k)) (row_of q (square_row k ∷ []))
one_row_more q k = ap (row_of q) (rows_more k) ∙ rows_either q (square_rows k) (square_row k ∷ [])

others_differ : (k n : ℕ) → k < n → n < 100 → request_eq (square_request k) (square_request n) ≡ false
others_differ k n less small =
    elim (cases_Bool (request_eq (square_request k) (square_request n))) [
      | inl same ↦ absurd (let e : k ≡ n = number_of k n (omega (arith, less, small)) (omega (arith, small)) (request_same (square_request k) (square_request n) same) in omega (arith, less, e))
      | inr differ ↦ differ
    ]

-- the numbers below this one have another request
row_lacks : (k n : ℕ) → k ≤ n → n < 100 → row_of (square_request n) (square_rows k) ≡ None
row_lacks zero n le small = ap (row_of (square_request n)) rows_none
row_lacks (suc k) n le small =
    one_row_more (square_request n) k
    ∙ (λ i. or_else (row_lacks k n (omega (arith, le)) small i) (if others_differ k n (omega (arith, le)) small i then Some (square_result k) else None))

row_there : (k n : ℕ) → n < k → n < 100 → row_of (square_request n) (square_rows k) ≡ Some (square_result n)
row_there zero n less small = absurd (omega (arith, less))
row_there (suc k) n less small =
    elim (cases_lt n k) [
      | inl below ↦ one_row_more (square_request n) k ∙ ap (λ o. or_else o (row_of (square_request n) (square_row k ∷ []))) (row_there k n below small)
      | inr past ↦ let here : k ≡ n = omega (arith, less, past) in
          one_row_more (square_request n) k
          ∙ ap (λ o. or_else o (row_of (square_request n) (square_row k ∷ []))) (row_lacks k n (omega (arith, here)) small)
          ∙ ap (λ m. row_of (square_request n) (square_row m ∷ [])) here
          ∙ ap (λ (b : Bool). if b then Some (square_result n) else None) (request_itself (square_request n))
    ]

-- the table has the square of a number below 100
pub square_there : (n : ℕ) → n < 100 → row_of (square_request n) (square_rows 100) ≡ Some (square_result n)
square_there n small = row_there 100 n small small
