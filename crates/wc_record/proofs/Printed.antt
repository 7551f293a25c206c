-- Which library a text prints.
use Rattle.std.proofs.Common.{◌≡◌, ℕ, ◌<◌, List, [], Result, Ok, Err, refl, sym, ap, subst, ◌∙◌, arith}
use Rattle.std.specs.List.{Contains}
use Rattle.wc_syntax.specs.declared.definition.Definition.{Definition}
use Rattle.wc_syntax.specs.Checked.{KeepsRules, findings}
use Rattle.wc_syntax.specs.Findings.{Finding}
use Rattle.wc_syntax.specs.Printing.{printed}
use Rattle.wc_parser.specs.declared.error.ParseError.{ParseError}
use Rattle.wc_parser.specs.declared.error.ParseError.TheVariants as refusal
use Rattle.wc_parser.specs.Parsing.{TextSays, TextTold}
use Rattle.wc_parser.proofs.Texts.{one_text_answer}
use Rattle.wc_check.specs.declared.error.CheckError.{CheckError}
use Rattle.wc_check.specs.declared.error.CheckError.TheVariants as finding
use Rattle.wc_check.specs.Refusals.{IsFirstRefusal, IsRefused}
use Rattle.wc_check.proofs.Kept.{kept}
use Rattle.wc_record.specs.Reading.{IsPrinted}

abbrev parsed : List Definition → Result (List Definition) ParseError
parsed l = Ok l

abbrev refused : ParseError → Result (List Definition) ParseError
refused e = Err e

same_parsed : (l m : List Definition) → parsed l ≡ parsed m → l ≡ m
same_parsed l m h = cc

not_both : (e : ParseError) (l : List Definition) → refused e ≡ parsed l → ⊥
not_both e l h = cc

-- the library that a text is the file of is the one that it prints
printed_one : (t : List ℕ) (l m : List Definition) → TextSays t (Ok l) → (p : IsPrinted t m) → p.library ≡ l
printed_one t l m says p = same_parsed p.library l (one_text_answer t (Ok p.library) (Ok l) p.says says)

-- the text of a library that breaks a rule
pub prints_unruled : (t : List ℕ) (l : List Definition) → TextSays t (Ok l) → (KeepsRules l → ⊥) → (m : List Definition) → IsPrinted t m → ⊥
prints_unruled t l says unruled m p = unruled (subst KeepsRules (printed_one t l m says p) p.rules)

-- the text of a library that prints another text
pub prints_other : (t : List ℕ) (l : List Definition) → TextSays t (Ok l) → (printed l ≡ t → ⊥) → (m : List Definition) → IsPrinted t m → ⊥
prints_other t l says differs m p = differs (ap printed (sym (printed_one t l m says p)) ∙ p.prints)

nothing_in : (fs : List Finding) (f : Finding) → fs ≡ [] → Contains fs f → ⊥
nothing_in fs f none h = let c : Contains [] f = subst (λ l. Contains l f) none h in let lt : c.0 < 0 = c.1 in absurd (omega arith)

breaks_rules : (l : List Definition) (e : CheckError) → IsFirstRefusal l e → KeepsRules l → ⊥
breaks_rules l e h rules = nothing_in (findings l) h.finding ((kept l).0 rules) h.first.among

pub refused_rules : (l : List Definition) (e : CheckError) → IsRefused l e → (e ≡ finding.OutOfMemory → ⊥) → KeepsRules l → ⊥
refused_rules l (finding.Twice n at) h other rules = breaks_rules l (finding.Twice n at) h rules
refused_rules l (finding.Unknown n at) h other rules = breaks_rules l (finding.Unknown n at) h rules
refused_rules l (finding.PortMissing n at) h other rules = breaks_rules l (finding.PortMissing n at) h rules
refused_rules l (finding.PortUnknown n at) h other rules = breaks_rules l (finding.PortUnknown n at) h rules
refused_rules l (finding.NotData at) h other rules = breaks_rules l (finding.NotData at) h rules
refused_rules l (finding.BadStatus at) h other rules = breaks_rules l (finding.BadStatus at) h rules
refused_rules l (finding.TooMany at) h other rules = breaks_rules l (finding.TooMany at) h rules
refused_rules l (finding.BadName n at) h other rules = breaks_rules l (finding.BadName n at) h rules
refused_rules l finding.OutOfMemory h other rules = other refl

pub prints_refused : (t : List ℕ) (l : List Definition) (e : CheckError) → TextSays t (Ok l) → IsRefused l e → (e ≡ finding.OutOfMemory → ⊥) → (m : List Definition) → IsPrinted t m → ⊥
prints_refused t l e says h other = prints_unruled t l says (refused_rules l e h other)

pub says_refused : (t : List ℕ) (e : ParseError) → TextSays t (Err e) → (m : List Definition) → IsPrinted t m → ⊥
says_refused t e says m p = not_both e p.library (one_text_answer t (Err e) (Ok p.library) says p.says)

-- a text that is no library's
pub prints_nothing : (t : List ℕ) (e : ParseError) → TextTold t (Err e) → (e ≡ refusal.OutOfMemory → ⊥) → (m : List Definition) → IsPrinted t m → ⊥
prints_nothing t refusal.OutOfMemory h other m p = other refl
prints_nothing t refusal.TooLong h other m p = says_refused t refusal.TooLong h m p
prints_nothing t (refusal.Lex e) h other m p = says_refused t (refusal.Lex e) h m p
prints_nothing t (refusal.TooDeep at) h other m p = says_refused t (refusal.TooDeep at) h m p
prints_nothing t (refusal.Unexpected at) h other m p = says_refused t (refusal.Unexpected at) h m p
prints_nothing t refusal.EndOfText h other m p = says_refused t refusal.EndOfText h m p
