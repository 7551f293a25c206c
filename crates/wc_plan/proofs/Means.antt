-- Offsets play no part in what is owed.
use Rattle.std.proofs.Common.{◌≡◌, ℕ, List, Option, Some, None, Result, Ok, Err, IfOk, map, refl, sym, ap, subst, ◌∙◌}
use Rattle.std.specs.Prelude.{option_map, IsSome}
use Rattle.std.proofs.lemmas.Bool.{false≢true}
use Rattle.wc_value.specs.declared.value.Value.{Value}
use Rattle.wc_syntax.specs.Bare.{bare_port, bare_definition, bare_library}
use Rattle.wc_syntax.specs.Findings.{definition_named}
use Rattle.wc_syntax.specs.declared.definition.Definition.{Definition}
use Rattle.wc_syntax.specs.declared.definition.Definition.TheVariants as definition
use Rattle.wc_syntax.specs.declared.definition.Port.{Port}
use Rattle.wc_semantics.specs.declared.progress.Answer.{Answer}
use Rattle.wc_semantics.specs.Laws.{IsUncut}
use Rattle.wc_semantics.specs.Tables.{plain, no_kills}
use Rattle.wc_semantics.specs.Meaning.{meaning}
use Rattle.wc_semantics.proofs.Bare.{named_bare, meaning_bare}
use Rattle.wc_json.specs.Tables.{Row}
use Rattle.wc_plan.specs.declared.commands.dry.Trial.{Trial}
use Rattle.wc_plan.specs.declared.reply.Reply.{Reply}
use Rattle.wc_plan.specs.declared.status.Cause.{Cause}
use Rattle.wc_plan.specs.Further.{InputsFrom}
use Rattle.wc_plan.specs.Given.{bad_given, fields_of}
use Rattle.wc_plan.specs.Dry.{owed_answer, owed_inputs, owed_rows, OwesRows, OwesDefinition}
use Rattle.wc_plan.proofs.Bares.{bad_given_bare, fields_bare, inputs_from_bare}

inputs_bare : (o : Option (List ℕ)) (ports : List Port) (ds : List Definition) (name : List ℕ) (given : List (List ℕ × List ℕ)) (file : List (List ℕ × Value)) (rows : List Row) (n : ℕ)
    → owed_inputs o (map bare_port ports) (bare_library ds) name given file rows n ≡ owed_inputs o ports ds name given file rows n
inputs_bare (Some port) ports ds name given file rows n = refl
inputs_bare None ports ds name given file rows n =
    ap owed_answer (meaning_bare 15 ds (plain rows) no_kills n name (fields_of (map bare_port ports) given file)
    ∙ ap (meaning 15 ds (plain rows) no_kills n name) (fields_bare ports given file))

rows_bare : (t : Result (List Row) Cause) (ports : List Port) (ds : List Definition) (name : List ℕ) (given : List (List ℕ × List ℕ)) (file : List (List ℕ × Value)) (n : ℕ)
    → owed_rows t (map bare_port ports) (bare_library ds) name given file n ≡ owed_rows t ports ds name given file n
rows_bare (Ok rows) ports ds name given file n =
    ap (λ (o : Option (List ℕ)). owed_inputs o (map bare_port ports) (bare_library ds) name given file rows n) (bad_given_bare ports given file)
    ∙ inputs_bare (bad_given ports given file) ports ds name given file rows n
rows_bare (Err c) ports ds name given file n = refl

file_bare : (told : Option (List ℕ → Option (List ℕ))) (t : Trial) (file : Result (List (List ℕ × Value)) Cause) (ports : List Port) (ds : List Definition) (r : Reply)
    → OwesRows told t file ports ds r → OwesRows told t file (map bare_port ports) (bare_library ds) r
file_bare told t (Ok file) ports ds r o = (o.0, o.1, o.2 ∙ sym (rows_bare o.0 ports ds t.name t.given file t.fuel))
file_bare told t (Err c) ports ds r o = o

ports_bare : (told : Option (List ℕ → Option (List ℕ))) (t : Trial) (ports : List Port) (ds : List Definition) (r : Reply)
    → ((file : Result (List (List ℕ × Value)) Cause) × InputsFrom told t.inputs ports file × OwesRows told t file ports ds r)
    → ((file : Result (List (List ℕ × Value)) Cause) × InputsFrom told t.inputs (map bare_port ports) file × OwesRows told t file (map bare_port ports) (bare_library ds) r)
ports_bare told t ports ds r o =
    (o.0, inputs_from_bare told t.inputs ports o.0 o.1, file_bare told t o.0 ports ds r o.2)

definition_bare : (told : Option (List ℕ → Option (List ℕ))) (t : Trial) (d : Option Definition) (ds : List Definition) (r : Reply)
    → OwesDefinition told t d ds r → OwesDefinition told t (option_map bare_definition d) (bare_library ds) r
definition_bare told t None ds r o = o
definition_bare told t (Some (definition.Function f)) ds r o = ports_bare told t f.head.inputs ds r o
definition_bare told t (Some (definition.Job j)) ds r o = ports_bare told t j.head.inputs ds r o
definition_bare told t (Some (definition.Chain c)) ds r o = ports_bare told t c.head.inputs ds r o

owes_bare : (told : Option (List ℕ → Option (List ℕ))) (t : Trial) (ds : List Definition) (r : Reply)
    → OwesDefinition told t (definition_named t.name ds) ds r → OwesDefinition told t (definition_named t.name (bare_library ds)) (bare_library ds) r
owes_bare told t ds r o =
    subst (λ (d : Option Definition). OwesDefinition told t d (bare_library ds) r) (sym (named_bare t.name ds)) (definition_bare told t (definition_named t.name ds) ds r o)

-- what is owed by the library with offsets is owed by the checked one
pub result_bare : {E : Type 0} (told : Option (List ℕ → Option (List ℕ))) (t : Trial) (ds library : List Definition) (result : Result Reply E) → bare_library ds ≡ library
    → IfOk result (λ r. OwesDefinition told t (definition_named t.name ds) ds r) → IfOk result (λ r. OwesDefinition told t (definition_named t.name library) library r)
result_bare told t ds library (Ok r) same h = subst (λ (l : List Definition). OwesDefinition told t (definition_named t.name l) l r) same (owes_bare told t ds r h)
result_bare told t ds library (Err e) same h = h

-- where a definition is there, what is known of each one that is there is known of it
pub uncut : (o : Option Definition) (a : Answer) → ((d : Definition) → o ≡ Some d → IsUncut a) → IsSome o → IsUncut a
uncut None a law some = absurd (false≢true some)
uncut (Some d) a law some = law d refl
