-- Offsets play no part in what a library replies.
use Rattle.std.proofs.Common.{◌≡◌, ℕ, List, [], ◌∷◌, ◌++◌, Option, Some, None, map, refl, ap, ◌∙◌, if◌then◌else◌}
use Rattle.std.specs.Prelude.{not, ◌&&◌, is_none, option_map}
use Rattle.wc_value.specs.Ascending.{lookup}
use Rattle.wc_value.specs.declared.process.JobResult.{JobResult}
use Rattle.wc_value.specs.declared.process.Request.{Request}
use Rattle.wc_syntax.specs.Bare.{bare_port, bare_definition, bare_library}
use Rattle.wc_syntax.specs.Findings.{head_of, definition_named}
use Rattle.wc_syntax.specs.declared.definition.Definition.{Definition}
use Rattle.wc_syntax.specs.declared.definition.Port.{Port}
use Rattle.wc_semantics.specs.Rules.{Values, fits_port}
use Rattle.wc_semantics.proofs.BareCalculations.{kind_bare}
use Rattle.wc_semantics.specs.Tables.{Path, plain, kills_of}
use Rattle.wc_semantics.proofs.Bare.{inputs_bare, named_bare, meaning_bare}
use Rattle.wc_meaning.specs.Inputs.{least, wrong_inputs, missing_inputs, bad_input}
use Rattle.wc_meaning.specs.Replies.{reply, reply_of}

wrong_bare : (ports : List Port) (inputs : Values) → wrong_inputs (map bare_port ports) inputs ≡ wrong_inputs ports inputs
wrong_bare ports [] = refl
wrong_bare ports (x ∷ xs) = λ i. if fits_port (kind_bare x.0 ports i) x.1 then wrong_bare ports xs i else x.0 ∷ wrong_bare ports xs i

missing_bare : (ports : List Port) (inputs : Values) → missing_inputs (map bare_port ports) inputs ≡ missing_inputs ports inputs
missing_bare [] inputs = refl
missing_bare (p ∷ ps) inputs =
    λ i. if not p.optional && is_none (lookup p.name.text inputs) then p.name.text ∷ missing_bare ps inputs i else missing_bare ps inputs i

-- offsets play no part in which input is bad
pub bad_bare : (ports : List Port) (inputs : Values) → bad_input (map bare_port ports) inputs ≡ bad_input ports inputs
bad_bare ports inputs = λ i. least (wrong_bare ports inputs i ++ missing_bare ports inputs i)

-- the least bad port of a definition
abbrev pub bad_of : Values → Definition → Option (List ℕ)
bad_of inputs d = bad_input (head_of d).inputs inputs

bad_of_bare : (inputs : Values) (o : Option Definition) → option_map (bad_of inputs) (option_map bare_definition o) ≡ option_map (bad_of inputs) o
bad_of_bare inputs None = refl
bad_of_bare inputs (Some d) = ap Some (ap (λ (ports : List Port). bad_input ports inputs) (inputs_bare d) ∙ bad_bare (head_of d).inputs inputs)

pub reply_bare : (ds : List Definition) (name : List ℕ) (inputs : Values) (levels : ℕ) (table : List (Request × JobResult)) (kills : List (Path × ℕ)) (fuel : ℕ)
    → reply_of (bare_library ds) name inputs levels table kills fuel ≡ reply_of ds name inputs levels table kills fuel
reply_bare ds name inputs levels table kills fuel =
    let bad : option_map (bad_of inputs) (definition_named name (bare_library ds)) ≡ option_map (bad_of inputs) (definition_named name ds)
    = ap (option_map (bad_of inputs)) (named_bare name ds) ∙ bad_of_bare inputs (definition_named name ds) in
    λ i. reply (bad i) (meaning_bare levels ds (plain table) (kills_of kills) fuel name inputs i)
