-- What the calls of `expand` answer, in the terms of its own answer.
use Rattle.std.proofs.Common.{◌≡◌, ◌∙◌, ap, sym, refl, subst, ℕ, List, ◌++◌, Some, None, Result, Ok, Err, IfOk}
use Rattle.std.specs.Prelude.{IfErr, OnOk, ◌⊎◌}
use Rattle.wc_handlers.specs.Reading.{spec_in}
use Rattle.wc_handlers.specs.Specs.{IsSpec}
use Rattle.wc_handlers.specs.declared.error.RestartError.{RestartError}
use Rattle.wc_handlers.specs.declared.error.RestartError.TheVariants as error
use Rattle.wc_handlers.specs.declared.spec.Spec.{Spec}
use Rattle.wc_syntax.specs.Bare.{bare_library}
use Rattle.wc_syntax.specs.Checked.{KeepsRules}
use Rattle.wc_syntax.specs.Printing.{printed_definition, printed}
use Rattle.wc_syntax.specs.declared.definition.Chain.{Chain}
use Rattle.wc_syntax.specs.declared.definition.Definition.{Definition}
use Rattle.wc_syntax.specs.declared.definition.Definition.TheVariants as definition
use Rattle.wc_parser.specs.Parsing.{Parsed, TextSays, TextMeets}
use Rattle.wc_parser.specs.declared.error.ParseError.{ParseError}
use Rattle.wc_parser.specs.declared.error.ParseError.TheVariants as parse
use Rattle.wc_restart.specs.Chains.{chain_of, expanded}
use Rattle.wc_check.proofs.BareFindings.{rules_forget_offsets}
use Rattle.wc_restart.specs.Judging.{Refusal, misnamed, refusal, refusal_with, refusal_of}
use Rattle.wc_attempts.specs.Laws.{Restarts}
use Rattle.wc_attempts.proofs.Restarted.{restarts}
use Rattle.wc_expansion.proofs.Bared.{library_bare}
use Rattle.wc_expansion.proofs.Expanded.{text_is}

-- ---- texts

pub text_as : {E : Type 0} (r : Result (List ℕ) E) (library bare : List Definition) (s : Spec) (chain : Chain) (front last : List ℕ) → bare_library library ≡ bare → chain ≡ chain_of library s
    → front ≡ printed bare → last ≡ printed_definition (definition.Chain chain) → IfOk r (λ t. t ≡ front ++ last) → IfOk r (λ t. t ≡ printed (expanded bare s))
text_as (Err e) library bare s chain front last h c f l j = tt
text_as (Ok t) library bare s chain front last h c f l j =
    j ∙ (λ i. f i ++ (l ∙ ap (λ (x : Chain). printed_definition (definition.Chain x)) c) i) ∙ text_is library bare s h

-- what is read again can't be refused but for memory
pub memory_of : (e : ParseError) (library : List Definition) → TextMeets (Err e) (Ok library) → e ≡ parse.OutOfMemory
memory_of parse.OutOfMemory library h = refl
memory_of parse.TooLong library h = absurd (cc)
memory_of (parse.Lex x) library h = absurd (cc)
memory_of (parse.TooDeep at) library h = absurd (cc)
memory_of (parse.Unexpected at) library h = absurd (cc)
memory_of parse.EndOfText library h = absurd (cc)

same_library : (a b : List Definition) → TextMeets (Ok a) (Ok b) → a ≡ b
same_library a b h = cc

pub kept_text : (a b : List Definition) → TextMeets (Ok a) (Ok b) → KeepsRules b → KeepsRules a
kept_text a b h k = subst KeepsRules (sym (same_library a b h)) k

pub shared : {E : Type 0} (r : Result (List Definition) E) (text : List ℕ) (a : List Definition) → ((x : Parsed) → TextSays text x → TextMeets (Ok a) x) → IfOk r (λ c. c ≡ bare_library a)
    → IfOk r (λ c. (library : List Definition) → TextSays text (Ok library) → c ≡ bare_library library)
shared (Err e) text a only h = tt
shared (Ok c) text a only h = λ library says. h ∙ ap bare_library (same_library a library (only (Ok library) says))

-- ---- of a spec that was read

read_as : (library : List Definition) (bytes : List ℕ) (s : Spec) → spec_in bytes ≡ Ok s → refusal_of library bytes ≡ refusal library s
read_as library bytes s h = ap (refusal_with library) h

pub adds_as : {E : Type 0} (r : Result (List Definition) E) (library : List Definition) (bytes : List ℕ) (s : Spec) → spec_in bytes ≡ Ok s → IfOk r (λ c. c ≡ expanded library s)
    → IfOk r (λ c. (x : Spec) × (spec_in bytes ≡ Ok x) × (c ≡ expanded library x))
adds_as (Err e) library bytes s h a = tt
adds_as (Ok c) library bytes s h a = (s, h, a)

pub restarts_as : {E : Type 0} (r : Result (List Definition) E) (library : List Definition) (bytes : List ℕ) (s : Spec) → spec_in bytes ≡ Ok s → IfOk r (λ c. Restarts library s c)
    → IfOk r (λ c. (x : Spec) × (spec_in bytes ≡ Ok x) × Restarts library x c)
restarts_as (Err e) library bytes s h a = tt
restarts_as (Ok c) library bytes s h a = (s, h, a)

-- the chain of a bare library that keeps the rules
pub restarts_added : {E : Type 0} (r : Result (List Definition) E) (library bare : List Definition) (s : Spec) → bare_library library ≡ bare → KeepsRules library → IsSpec s → misnamed bare s ≡ None
    → IfOk r (λ c. c ≡ expanded bare s) → IfOk r (λ c. Restarts bare s c)
restarts_added (Err e) library bare s h k i m a = tt
restarts_added (Ok c) library bare s h k i m a =
    let same : bare_library library ≡ bare_library bare = sym (library_bare library) ∙ ap bare_library h in
    subst (λ (z : List Definition). Restarts bare s z) (sym a) (restarts bare s (rules_forget_offsets library bare same k) i m)

pub refused_as : (r : Result (List Definition) RestartError) (library : List Definition) (bytes : List ℕ) (s : Spec) → spec_in bytes ≡ Ok s
    → IfErr r (λ e. (e ≡ error.OutOfMemory) ⊎ (refusal library s ≡ Some e)) → IfErr r (λ e. (e ≡ error.OutOfMemory) ⊎ (refusal_of library bytes ≡ Some e))
refused_as r library bytes s h a = subst (λ (z : Refusal). IfErr r (λ e. (e ≡ error.OutOfMemory) ⊎ (z ≡ Some e))) (sym (read_as library bytes s h)) a

pub taken_as : (r : Result (List Definition) RestartError) (library : List Definition) (bytes : List ℕ) (s : Spec) → spec_in bytes ≡ Ok s
    → OnOk r (refusal library s ≡ None) → OnOk r (refusal_of library bytes ≡ None)
taken_as r library bytes s h a = subst (λ (z : Refusal). OnOk r (z ≡ None)) (sym (read_as library bytes s h)) a

pub unread : (library : List Definition) (bytes : List ℕ) (e : RestartError) → spec_in bytes ≡ Err e → refusal_of library bytes ≡ Some e
unread library bytes e h = ap (refusal_with library) h
