-- What is read of the bytes of a file.
use Rattle.std.proofs.Common.{◌≡◌, ℕ, List, Result, Ok, Err, sym, ap, subst}
use Rattle.serde_json.specs.Data.{Data}
use Rattle.wc_json.specs.declared.error.JsonError.{JsonError}
use Rattle.wc_json.specs.declared.error.JsonError.TheVariants.{OutOfMemory}
use Rattle.wc_json.specs.Answers.{AnswersFor}
use Rattle.wc_json.specs.Documents.{answer_of}
use Rattle.wc_json.specs.Reading.{Refusal}
use Rattle.wc_json.proofs.Single.{ok-is-one, error-is-one}
use Rattle.wc_plan.specs.declared.status.Cause.{Cause}
use Rattle.wc_plan.specs.Further.{or_cause}

pub ok_is : {A : Type 0} (causes : JsonError → Cause) (reads : Data → Result A Refusal) (seen bytes : List ℕ) (x : A) → seen ≡ bytes → AnswersFor seen reads (Ok x)
    → Ok x ≡ or_cause causes (answer_of reads bytes)
ok_is {A} causes reads seen bytes x same h =
    sym (ap (or_cause causes) (subst (λ (b : List ℕ). answer_of reads b ≡ Ok x) same (ok-is-one seen reads x h)))

-- an error, unless memory ran out
pub error_is : {A : Type 0} (causes : JsonError → Cause) (reads : Data → Result A Refusal) (seen bytes : List ℕ) (e : JsonError) → seen ≡ bytes → (e ≡ OutOfMemory → ⊥)
    → AnswersFor seen reads (Err e) → Err (causes e) ≡ or_cause causes (answer_of reads bytes)
error_is {A} causes reads seen bytes e same known h =
    sym (ap (or_cause causes) (subst (λ (b : List ℕ). answer_of reads b ≡ Err e) same (error-is-one seen reads e known h)))
