-- What a job asks of the transport.
use Rattle.std.specs.Prelude.{ℕ, List, [], ◌∷◌, map}
use Rattle.wc_value.specs.Ascending.{put}
use Rattle.wc_value.specs.declared.process.Request.{Request}
use Rattle.wc_value.specs.declared.value.Value.{out-Value}
use Rattle.wc_syntax.specs.declared.definition.Fetch.{Fetch}
use Rattle.wc_syntax.specs.declared.definition.Job.{Job}
use Rattle.wc_syntax.specs.declared.definition.JobFile.{JobFile}
use Rattle.wc_syntax.specs.declared.definition.JobLine.{JobLine}
use Rattle.wc_syntax.specs.declared.expression.Expr.{Expr}
use Rattle.wc_state.specs.declared.environment.Env.{Env}
use Rattle.wc_expression.specs.declared.outcome.Outcome.{Outcome}
use Rattle.wc_expression.specs.declared.outcome.Outcome.TheVariants.{Gives}
use Rattle.wc_expression.specs.Outcomes.{◌>>=◌}
use Rattle.wc_expression.specs.Contents.{text_of}
use Rattle.wc_expression.specs.Val.{val}
use Rattle.wc_semantics.specs.Rules.{Values, env_of}

-- the text that an expression is
abbrev pub text_at : Expr → Env → Outcome (List ℕ)
text_at e env = do
  v ← val e env
  text_of (out-Value v)

-- the texts of lines, in order
abbrev pub texts_of : List JobLine → Env → Outcome (List (List ℕ))
texts_of [] env = Gives []
texts_of (l ∷ ls) env = do
  t ← text_at l.value env
  ts ← texts_of ls env
  Gives (t ∷ ts)

-- these files with those of further lines, in order; the content is the text's bytes
abbrev pub files_of : List JobFile → Env → List (List ℕ × List ℕ) → Outcome (List (List ℕ × List ℕ))
files_of [] env files = Gives files
files_of (f ∷ fs) env files = do
  t ← text_at f.value env
  files_of fs env (put f.name.text t files)

-- the name of a file that is fetched
abbrev pub fetched : Fetch → List ℕ
fetched f = f.name.text

-- program, arguments and files are evaluated in this order
abbrev pub request_in : Job → Env → Outcome Request
request_in j env = do
  program ← text_at j.program.value env
  args ← texts_of j.args env
  files ← files_of j.files env []
  Gives (record { program = program; args = args; files = files; fetch = map fetched j.fetch })

-- the request of a job for its inputs, or the first reason
abbrev pub request : Job → Values → Outcome Request
request j inputs = request_in j (env_of inputs)
