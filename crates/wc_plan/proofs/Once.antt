-- Words plan one thing, where the shelf tells its contents.
use Rattle.std.proofs.Common.{◌≡◌, ℕ, List, Option, Some, None, Result, Ok, Err, Bool, true, false, sym, ap, subst, ◌∙◌}
use Rattle.std.specs.Prelude.{IsSome}
use Rattle.std.specs.Str.{is_utf8}
use Rattle.wc_value.specs.declared.value.Value.{Value}
use Rattle.wc_syntax.specs.Findings.{definition_named, head_of}
use Rattle.wc_syntax.specs.declared.definition.Definition.{Definition}
use Rattle.wc_syntax.specs.declared.definition.Port.{Port}
use Rattle.wc_json.specs.Limits.{read_fields}
use Rattle.wc_json.specs.Tables.{Row, read_table}
use Rattle.wc_parser.specs.Parsing.{Parsed}
use Rattle.wc_parser.proofs.Texts.{one_text_answer}
use Rattle.wc_check.proofs.Single.{one_first}
use Rattle.wc_config.specs.declared.settings.Settings.{Settings}
use Rattle.wc_cli.specs.declared.command.Command.{Command}
use Rattle.wc_cli.specs.declared.command.Command.TheVariants.{Check, Dry, Init, Submit, Run, View, Pause, Play, Kill, Pack, Drill, Query, Expand}
use Rattle.wc_plan.specs.declared.commands.dry.Trial.{Trial}
use Rattle.wc_plan.specs.declared.libraries.Read.{Read}
use Rattle.wc_plan.specs.declared.libraries.Read.TheVariants as read
use Rattle.wc_plan.specs.declared.status.Cause.{Cause}
use Rattle.wc_plan.specs.declared.status.Cause.TheVariants as cause
use Rattle.wc_plan.specs.declared.reply.Reply.{Reply}
use Rattle.wc_plan.specs.declared.submission.Prepared.{Prepared}
use Rattle.wc_plan.specs.Files.{read_found, ReadsLibrary, ReadsParsed, ReadsText, ReadsBytes, Reads, ReadsFrom}
use Rattle.wc_plan.specs.Further.{InputsFrom, TableFrom, kinds_of, read_file}
use Rattle.wc_plan.specs.Dry.{owed_check, owed_rows, OwesRows, OwesDefinition, OwesDry}
use Rattle.wc_plan.specs.Expand.{owed_content, OwesExpand}
use Rattle.wc_plan.specs.Plans.{Plans, PlansSubmission, plan_of_prepared, plan_of_run}
use Rattle.wc_plan.specs.Submits.{inputs_beside, prepared_with, InputsFor, PreparesRead, PreparesFrom}
use Rattle.wc_plan.proofs.Configured.{settings_from}
use Rattle.wc_plan.specs.declared.deed.Plan.{Plan}
use Rattle.wc_plan.specs.declared.deed.Plan.TheVariants as plan

-- ---- a file

one_library : (library : List Definition) (r s : Read) → ReadsLibrary library r → ReadsLibrary library s → r ≡ s
one_library library r s p q = p.2 ∙ ap (read_found library) (one_first library p.0 q.0 p.1 q.1) ∙ sym q.2

one_parsed : (x : Parsed) (r s : Read) → ReadsParsed x r → ReadsParsed x s → r ≡ s
one_parsed (Ok library) r s p q = one_library library r s p q
one_parsed (Err e) r s p q = p ∙ sym q

one_text : (text : List ℕ) (r s : Read) → ReadsText text r → ReadsText text s → r ≡ s
one_text text r s p q =
    one_parsed p.0 r s p.2 (subst (λ (x : Parsed). ReadsParsed x s) (one_text_answer text q.0 p.0 q.1 p.1) q.2)

one_bytes : (file : List ℕ) (valid : Bool) (bytes : List ℕ) (r s : Read) → ReadsBytes file valid bytes r → ReadsBytes file valid bytes s → r ≡ s
one_bytes file true bytes r s p q = one_text bytes r s p q
one_bytes file false bytes r s p q = p ∙ sym q

-- a file of one content is read as one thing
pub one_read : (file : List ℕ) (content : Option (List ℕ)) (r s : Read) → Reads file content r → Reads file content s → r ≡ s
one_read file None r s p q = p ∙ sym q
one_read file (Some bytes) r s p q = one_bytes file (is_utf8 bytes) bytes r s p q

pub one_from : (told : Option (List ℕ → Option (List ℕ))) (file : List ℕ) (r s : Read) → IsSome told → ReadsFrom told file r → ReadsFrom told file s → r ≡ s
one_from None file r s h p q = absurd (cc)
one_from (Some contents) file r s h p q =
    one_read file p.0 r s p.2 (subst (λ (z : Option (List ℕ)). Reads file z s) (q.1 ∙ sym p.1) q.2)

-- ---- further files

one_inputs : (told : Option (List ℕ → Option (List ℕ))) (inputs : Option (List ℕ)) (ports : List Port) (a b : Result (List (List ℕ × Value)) Cause) → IsSome told
    → InputsFrom told inputs ports a → InputsFrom told inputs ports b → a ≡ b
one_inputs told None ports a b h p q = p ∙ sym q
one_inputs None (Some file) ports a b h p q = absurd (cc)
one_inputs (Some contents) (Some file) ports a b h p q =
    p.2 ∙ ap (read_file cause.Inputs (read_fields (kinds_of ports)) file) (p.1 ∙ sym q.1) ∙ sym q.2

one_table : (told : Option (List ℕ → Option (List ℕ))) (table : Option (List ℕ)) (a b : Result (List Row) Cause) → IsSome told → TableFrom told table a → TableFrom told table b → a ≡ b
one_table told None a b h p q = p ∙ sym q
one_table None (Some file) a b h p q = absurd (cc)
one_table (Some contents) (Some file) a b h p q = p.2 ∙ ap (read_file cause.Table read_table file) (p.1 ∙ sym q.1) ∙ sym q.2

-- ---- what is submitted

one_for : (told : Option (List ℕ → Option (List ℕ))) (inputs : Option (List ℕ)) (d : Option Definition) (name : List ℕ) (given : List (List ℕ × List ℕ)) (a b : Result (List (List ℕ × Value)) Cause)
    → IsSome told → InputsFor told inputs d name given a → InputsFor told inputs d name given b → a ≡ b
one_for told inputs None name given a b h p q = p ∙ sym q
one_for told inputs (Some d) name given a b h p q =
    p.2 ∙ ap (λ (file : Result (List (List ℕ × Value)) Cause). inputs_beside file (head_of d).inputs given) (one_inputs told inputs (head_of d).inputs p.0 q.0 h p.1 q.1) ∙ sym q.2

one_prepared_read : (told : Option (List ℕ → Option (List ℕ))) (inputs : Option (List ℕ)) (name : List ℕ) (given : List (List ℕ × List ℕ)) (r : Read) (a b : Prepared) → IsSome told
    → PreparesRead told inputs name given r a → PreparesRead told inputs name given r b → a ≡ b
one_prepared_read told inputs name given (read.Refused c) a b h p q = p ∙ sym q
one_prepared_read told inputs name given (read.Library library) a b h p q =
    p.2 ∙ ap (prepared_with library name) (one_for told inputs (definition_named name library) name given p.0 q.0 h p.1 q.1) ∙ sym q.2

-- words are prepared as one thing
pub one_prepared : (told : Option (List ℕ → Option (List ℕ))) (file name : List ℕ) (given : List (List ℕ × List ℕ)) (inputs : Option (List ℕ)) (a b : Prepared) → IsSome told
    → PreparesFrom told file name given inputs a → PreparesFrom told file name given inputs b → a ≡ b
one_prepared told file name given inputs a b h p q =
    one_prepared_read told inputs name given p.0 a b h p.2
    (subst (λ (r : Read). PreparesRead told inputs name given r b) (one_from told file q.0 p.0 h q.1 p.1) q.2)

-- ---- what `dry` owes

one_rows : (told : Option (List ℕ → Option (List ℕ))) (t : Trial) (file : Result (List (List ℕ × Value)) Cause) (ports : List Port) (library : List Definition) (a b : Reply) → IsSome told
    → OwesRows told t file ports library a → OwesRows told t file ports library b → a ≡ b
one_rows told t (Ok file) ports library a b h p q =
    p.2 ∙ ap (λ (rows : Result (List Row) Cause). owed_rows rows ports library t.name t.given file t.fuel) (one_table told t.table p.0 q.0 h p.1 q.1) ∙ sym q.2
one_rows told t (Err c) ports library a b h p q = p ∙ sym q

one_definition : (told : Option (List ℕ → Option (List ℕ))) (t : Trial) (d : Option Definition) (library : List Definition) (a b : Reply) → IsSome told
    → OwesDefinition told t d library a → OwesDefinition told t d library b → a ≡ b
one_definition told t None library a b h p q = p ∙ sym q
one_definition told t (Some d) library a b h p q =
    one_rows told t p.0 (head_of d).inputs library a b h p.2
    (subst (λ (file : Result (List (List ℕ × Value)) Cause). OwesRows told t file (head_of d).inputs library b) (one_inputs told t.inputs (head_of d).inputs q.0 p.0 h q.1 p.1) q.2)

one_dry_read : (told : Option (List ℕ → Option (List ℕ))) (t : Trial) (r : Read) (a b : Reply) → IsSome told → OwesDry told t r a → OwesDry told t r b → a ≡ b
one_dry_read told t (read.Refused c) a b h p q = p ∙ sym q
one_dry_read told t (read.Library library) a b h p q = one_definition told t (definition_named t.name library) library a b h p q

one_dry : (told : Option (List ℕ → Option (List ℕ))) (t : Trial) (file : List ℕ) (r s : Read) (a b : Reply) → IsSome told → ReadsFrom told file r → ReadsFrom told file s
    → OwesDry told t r a → OwesDry told t s b → a ≡ b
one_dry told t file r s a b h x y p q = one_dry_read told t r a b h p (subst (λ (z : Read). OwesDry told t z b) (one_from told file s r h y x) q)

-- ---- what `expand` owes

one_expand_read : (told : Option (List ℕ → Option (List ℕ))) (spec : List ℕ) (r : Read) (a b : Reply) → IsSome told → OwesExpand told spec r a → OwesExpand told spec r b → a ≡ b
one_expand_read told spec (read.Refused c) a b h p q = p ∙ sym q
one_expand_read None spec (read.Library library) a b h p q = absurd (cc)
one_expand_read (Some contents) spec (read.Library library) a b h p q = p.2 ∙ ap (owed_content library spec) (p.1 ∙ sym q.1) ∙ sym q.2

one_expand : (told : Option (List ℕ → Option (List ℕ))) (file spec : List ℕ) (r s : Read) (a b : Reply) → IsSome told → ReadsFrom told file r → ReadsFrom told file s
    → OwesExpand told spec r a → OwesExpand told spec s b → a ≡ b
one_expand told file spec r s a b h x y p q =
    one_expand_read told spec r a b h p (subst (λ (z : Read). OwesExpand told spec z b) (one_from told file s r h y x) q)

-- ---- a plan

one_submission : (told : Option (List ℕ → Option (List ℕ))) (file name : List ℕ) (given : List (List ℕ × List ℕ)) (inputs : Option (List ℕ)) (s : Result Settings Cause) (p q : Plan) → IsSome told
    → PlansSubmission told file name given inputs s p → PlansSubmission told file name given inputs s q → p ≡ q
one_submission told file name given inputs (Err c) p q h a b = a ∙ sym b
one_submission told file name given inputs (Ok t) p q h a b = a.2 ∙ ap (plan_of_prepared t) (one_prepared told file name given inputs a.0 b.0 h a.1 b.1) ∙ sym b.2

-- words plan one thing
pub one_plan : (told : Option (List ℕ → Option (List ℕ))) (command : Option Command) (p q : Plan) → IsSome told → Plans told command p → Plans told command q → p ≡ q
one_plan told None p q h a b = a ∙ sym b
one_plan told (Some (Check file)) p q h a b = a.2 ∙ ap (λ (r : Read). plan.Reply (owed_check r)) (one_from told file a.0 b.0 h a.1 b.1) ∙ sym b.2
one_plan told (Some (Dry file name given inputs table fuel)) p q h a b =
    let t : Trial = record { name = name; given = given; inputs = inputs; table = table; fuel = fuel } in
    a.4 ∙ ap (λ (r : Reply). plan.Reply r) (one_dry told t file a.0 b.0 a.2 b.2 h a.1 b.1 a.3 b.3) ∙ sym b.4
one_plan told (Some Init) p q h a b = a ∙ sym b
one_plan told (Some (Submit file name given inputs settings)) p q h a b =
    let same : b.0 ≡ a.0 = settings_from told settings b.0 a.0 h b.1 a.1 in
    one_submission told file name given inputs a.0 p q h a.2 (subst (λ (s : Result Settings Cause). PlansSubmission told file name given inputs s q) same b.2)
one_plan told (Some (Pause pid)) p q h a b = a ∙ sym b
one_plan told (Some (Play pid)) p q h a b = a ∙ sym b
one_plan told (Some (Kill pid)) p q h a b = a ∙ sym b
one_plan told (Some (Run turns seed settings)) p q h a b = a.2 ∙ ap (plan_of_run turns seed) (settings_from told settings a.0 b.0 h a.1 b.1) ∙ sym b.2
one_plan told (Some (View v)) p q h a b = a ∙ sym b
one_plan told (Some Pack) p q h a b = a ∙ sym b
one_plan told (Some (Drill seed count)) p q h a b = a ∙ sym b
one_plan told (Some (Query words limit)) p q h a b = a ∙ sym b
one_plan told (Some (Expand file spec)) p q h a b =
    a.4 ∙ ap (λ (r : Reply). plan.Reply r) (one_expand told file spec a.0 b.0 a.2 b.2 h a.1 b.1 a.3 b.3) ∙ sym b.4
