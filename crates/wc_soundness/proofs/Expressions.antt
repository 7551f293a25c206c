-- What the expressions of the library give.
use Rattle.std.proofs.Common.{◌≡◌, ℕ, ℤ, false, true, List, [], ◌∷◌, Some, refl, ap}
use Rattle.std.specs.Prelude.{pos, codes, if◌then◌else◌}
use Rattle.std.specs.Fmt.{digits, signed_decimal}
use Rattle.std.specs.Str.{is_utf8, chars}
use lib.Utf8.{encode}
use Rattle.wc_value.specs.Ascending.{put}
use Rattle.wc_value.specs.declared.value.Value.{out-Value}
use Rattle.wc_value.specs.declared.value.Value.TheVariants as value
use Rattle.wc_value.specs.declared.process.Reason.TheVariants.{BadText}
use Rattle.wc_value.specs.declared.value.Kind.TheVariants as kind
use Rattle.wc_syntax.specs.declared.expression.Expr.{Expr}
use Rattle.wc_syntax.specs.declared.expression.OneOf.TheVariants as one
use Rattle.wc_syntax.specs.declared.expression.TwoOf.TheVariants as two
use Rattle.wc_syntax.specs.declared.expression.UnaryOp.TheVariants as unary
use Rattle.wc_state.specs.declared.environment.Env.{Env}
use Rattle.wc_expression.specs.declared.outcome.Outcome.TheVariants.{Gives}
use Rattle.wc_expression.specs.Contents.{bool_of, text_of, as_text}
use Rattle.wc_expression.specs.Outcomes.{◌>>=◌, mapped, found}
use Rattle.wc_expression.specs.Texts.{trimmed}
use Rattle.wc_expression.specs.Whole.{number_of}
use Rattle.wc_expression.specs.Val.{is_allowed, val}
use Rattle.wc_semantics.specs.Outcomes.{parsed, concluded, retrieved, parse_env}
use Rattle.wc_semantics.specs.Requests.{request, text_at}
use Rattle.wc_semantics.specs.Rules.{Values, env_of, fitting}
use Rattle.wc_soundness.specs.Library.{double, program_text, bare_number, number_text, folder, file_name, has_file, lacks_file, file_text, trimmed_text, file_number}
use Rattle.wc_soundness.specs.FanWorlds as fans
use Rattle.wc_soundness.proofs.Values.{int_allowed, text_allowed, bool_allowed, folder_allowed, quoted_gives, bare_gives, unary_gives, one_gives, two_gives}

-- ---- the request of a job

-- the inputs of a job
abbrev pub x_is : ℕ → Values
x_is n = (codes "x", value.Int (pos n)) ∷ []

text_from : (e : Expr) (env : Env) (t : List ℕ) → val e env ≡ Gives (value.Text t) → text_at e env ≡ Gives t
unfolding out-Value denote.Hole.Carrier.out
text_from e env t p = ap (λ o. o >>= (λ v. text_of (out-Value v))) p

-- a job asks for its program with the digits of its number
request_by : (n digit : ℕ) → is_allowed (value.Int (pos n)) ≡ true → is_allowed (value.Text (digit ∷ [])) ≡ true → signed_decimal (pos n) ≡ digit ∷ []
    → request double (x_is n) ≡ Gives (fans.request digit)
unfolding out-Value denote.Hole.Carrier.out
request_by n digit fits text_fits spells =
    let env : Env = env_of (x_is n) in
    let p : text_at program_text env ≡ Gives (codes "double") = text_from program_text env (codes "double") (quoted_gives env (codes "double") (text_allowed _ refl)) in
    let x : val bare_number env ≡ Gives (value.Int (pos n)) = bare_gives env (codes "x") _ refl fits in
    let q : text_at number_text env ≡ Gives (digit ∷ []) =
    text_from number_text env _ (one_gives env one.Text bare_number _ (value.Text (digit ∷ [])) x (ap (λ t. Gives (value.Text t)) spells) text_fits) in
    λ i. p i >>= (λ program. (q i >>= (λ t. Gives [] >>= (λ ts. Gives (t ∷ ts)))) >>= (λ args. Gives [] >>= (λ files.
    Gives (record { program = program; args = args; files = files; fetch = codes "out.txt" ∷ [] }))))

pub request_two : request double (x_is 2) ≡ Gives (fans.request 50)
unfolding digits
request_two = request_by 2 50 (int_allowed _ refl) (text_allowed _ refl) refl

pub request_three : request double (x_is 3) ≡ Gives (fans.request 51)
unfolding digits
request_three = request_by 3 51 (int_allowed _ refl) (text_allowed _ refl) refl

-- ---- the result of a job

-- a job's outcome for a number, where its program left a digit that spells another
module _ (n : ℤ) (digit : ℕ) (m : ℤ) where
  abbrev its_env : Env
  its_env = parse_env ((codes "x", value.Int n) ∷ []) (fans.result digit)

  abbrev its_file : List ℕ
  its_file = digit ∷ (10 ∷ [])

  parsed_as : is_allowed (value.Folder (fans.printed digit)) ≡ true → is_allowed (value.Text its_file) ≡ true → is_allowed (value.Text (digit ∷ [])) ≡ true
      → is_allowed (value.Int m) ≡ true → as_text its_file ≡ Gives its_file → trimmed its_file ≡ digit ∷ [] → number_of (digit ∷ []) ≡ Some m
      → parsed double ((codes "x", value.Int n) ∷ []) (fans.result digit) ≡ fans.job_outcome digit m
  unfolding out-Value denote.Hole.Carrier.out
  parsed_as fits file_fits text_fits int_fits reads trims spells =
      let f : val folder its_env ≡ Gives (value.Folder (fans.printed digit)) = bare_gives its_env (codes "retrieved") _ refl fits in
      let g : val file_name its_env ≡ Gives (value.Text (codes "out.txt")) = quoted_gives its_env (codes "out.txt") (text_allowed _ refl) in
      let h : val has_file its_env ≡ Gives (value.Bool true) = two_gives its_env two.Has folder file_name _ _ _ f g refl (bool_allowed true) in
      let l : val lacks_file its_env ≡ Gives (value.Bool false) = unary_gives its_env unary.Not has_file _ _ h refl (bool_allowed false) in
      let t : val file_text its_env ≡ Gives (value.Text its_file) = two_gives its_env two.File folder file_name _ _ _ f g (ap (mapped value.Text) reads) file_fits in
      let c : val trimmed_text its_env ≡ Gives (value.Text (digit ∷ [])) = one_gives its_env one.Trim file_text _ _ t (ap (λ z. Gives (value.Text z)) trims) text_fits in
      let v : val file_number its_env ≡ Gives (value.Int m) = one_gives its_env one.Int trimmed_text _ _ c (ap (λ z. mapped value.Int (found BadText z)) spells) int_fits in
      λ i. concluded double.head.outputs (retrieved (fans.result digit))
      ((l i >>= (λ b. bool_of (out-Value b))) >>= (λ taken. if taken then Gives (310, retrieved (fans.result digit))
      else ((v i >>= fitting (Some kind.Int)) >>= (λ x. Gives (0, put (codes "value") x (retrieved (fans.result digit)))))))

-- The program leaves 4 for the number 2, and 6 for 3.
pub parsed_four : parsed double (x_is 2) (fans.result 52) ≡ fans.job_outcome 52 (pos 4)
unfolding is_utf8 chars encode
parsed_four = parsed_as (pos 2) 52 (pos 4) (folder_allowed _ refl) (text_allowed _ refl) (text_allowed _ refl) (int_allowed _ refl) refl refl refl

pub parsed_six : parsed double (x_is 3) (fans.result 54) ≡ fans.job_outcome 54 (pos 6)
unfolding is_utf8 chars encode
parsed_six = parsed_as (pos 3) 54 (pos 6) (folder_allowed _ refl) (text_allowed _ refl) (text_allowed _ refl) (int_allowed _ refl) refl refl refl
