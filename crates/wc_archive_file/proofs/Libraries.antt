-- Which library a text prints.
use Rattle.std.proofs.Common.{◌≡◌, ℕ, List, [], Option, Some, None, Result, Ok, Err, refl, sym, ap, subst, ◌∙◌, ◌<◌, arith}
use Rattle.std.specs.List.{Contains}
use Rattle.wc_syntax.specs.declared.definition.Definition.{Definition}
use Rattle.wc_syntax.specs.Bare.{bare_library}
use Rattle.wc_syntax.specs.Checked.{IsChecked, KeepsRules, findings}
use Rattle.wc_syntax.specs.Findings.{Finding}
use Rattle.wc_syntax.specs.Printing.{printed}
use Rattle.wc_syntax.proofs.Bared.{printed_bare}
use Rattle.wc_parser.specs.declared.error.ParseError.{ParseError}
use Rattle.wc_parser.specs.declared.error.ParseError.TheVariants as refusal
use Rattle.wc_parser.specs.Parsing.{TextMeets, TextSays}
use Rattle.wc_parser.proofs.ReadBack.{reads_back}
use Rattle.wc_parser.proofs.Texts.{one_text_answer}
use Rattle.wc_parser.proofs.Writable.{files_are_writable}
use Rattle.wc_check.specs.declared.error.CheckError.{CheckError}
use Rattle.wc_check.specs.Refusals.{IsFirstFinding}
use Rattle.wc_check.proofs.BareFindings.{rules_forget_offsets}
use Rattle.wc_check.proofs.Kept.{kept}
use Rattle.wc_archive_file.specs.Archives.{IsKept}
use Rattle.wc_archive_file.specs.Reads.{Names}

abbrev parsed : List Definition → Result (List Definition) ParseError
parsed l = Ok l

pub same_parsed : (l m : List Definition) → parsed l ≡ parsed m → l ≡ m
same_parsed l m h = cc

-- the printed text of a kept library is a file, whose library is the same but for offsets and meets the rules
pub record Prints (text : List ℕ) (kept_as : List Definition) : Type 0 where
  pub library : List Definition
  pub says : TextSays text (Ok library)
  pub rules : KeepsRules library
  pub bare : bare_library library ≡ kept_as

pub prints : (text : List ℕ) (l : List Definition) → IsKept l → printed l ≡ text → Prints text l
prints text l k same =
    let back = reads_back k.0 k.1.writable in
    let is : printed k.0 ≡ text = sym (printed_bare k.0) ∙ ap printed k.2 ∙ same in
    record {
      library = back.0;
      says = subst (λ (t : List ℕ). TextSays t (Ok back.0)) is back.1;
      rules = rules_forget_offsets k.0 back.0 (sym back.2) k.1.rules;
      bare = back.2 ∙ k.2;
    }

nothing_in : (fs : List Finding) (f : Finding) → fs ≡ [] → Contains fs f → ⊥
nothing_in fs f none h = let c : Contains [] f = subst (λ l. Contains l f) none h in let lt : c.0 < 0 = c.1 in absurd (omega arith)

module _ (text : List ℕ) (library : List Definition) (says : TextSays text (Ok library)) where
  the_same : (l : List Definition) → (p : Prints text l) → p.library ≡ library
  the_same l p = same_parsed p.library library (one_text_answer text (Ok p.library) (Ok library) p.says says)

  -- it meets the rules and prints as the text
  pub printed_here : (l : List Definition) → KeepsRules library → printed library ≡ text → l ≡ bare_library library → Names printed IsKept text (Some l)
  printed_here l rules same is =
      (ap printed is ∙ printed_bare library ∙ same, (library, record { writable = files_are_writable text library says; rules = rules }, sym is))

  -- it is checked
  pub is_checked : KeepsRules library → IsChecked library
  is_checked rules = record { writable = files_are_writable text library says; rules = rules }

  -- it prints as another text
  pub printed_elsewhere : (printed library ≡ text → ⊥) → Names printed IsKept text None
  printed_elsewhere other = λ l k same.
      let p = prints text l k same in
      other (ap printed (sym (the_same l p)) ∙ sym (printed_bare p.library) ∙ ap printed p.bare ∙ same)

  -- it breaks a rule
  unruled_by : (e : CheckError) → IsFirstFinding library (Some e) → Names printed IsKept text None
  unruled_by e h = λ l k same.
      let p = prints text l k same in
      let rules : KeepsRules library = subst KeepsRules (the_same l p) p.rules in
      nothing_in (findings library) h.finding ((kept library).0 rules) h.first.among

  pub unruled : (found : Option CheckError) (e : CheckError) → IsFirstFinding library found → found ≡ Some e → Names printed IsKept text None
  unruled found e h is = unruled_by e (subst (IsFirstFinding library) is h)

pub unfound_rules : (library : List Definition) (found : Option CheckError) → IsFirstFinding library found → found ≡ None → KeepsRules library
unfound_rules library found h is = let none : IsFirstFinding library None = subst (IsFirstFinding library) is h in (kept library).1 none

not_met : (e : ParseError) (l : List Definition) → (e ≡ refusal.OutOfMemory → ⊥) → TextMeets (Err e) (Ok l) → ⊥
not_met refusal.OutOfMemory l other h = other refl
not_met refusal.TooLong l other h = cc
not_met (refusal.Lex e) l other h = cc
not_met (refusal.TooDeep at) l other h = cc
not_met (refusal.Unexpected at) l other h = cc
not_met refusal.EndOfText l other h = cc

-- the text is no file
pub unparsed : (text : List ℕ) (e : ParseError) → (e ≡ refusal.OutOfMemory → ⊥) → ((r : Result (List Definition) ParseError) → TextSays text r → TextMeets (Err e) r)
    → Names printed IsKept text None
unparsed text e other only = λ l k same. let p = prints text l k same in not_met e p.library other (only (Ok p.library) p.says)
