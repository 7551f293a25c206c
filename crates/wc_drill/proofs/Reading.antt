-- The text of the library of generated chains is read as that library, and the check takes it.
use Rattle.std.proofs.Common.{◌≡◌, ◌≤◌, ℕ, List, [], Some, None, Ok, Err, refl, sym, ap, subst, ◌∙◌, length}
use Rattle.wc_lexer.specs.Spellings.{word_of, symbol_of}
use Rattle.wc_lexer.specs.Tokens.{tokens_of, token_at, piece_at}
use Rattle.wc_syntax.specs.declared.definition.Definition.{Definition}
use Rattle.wc_syntax.specs.Bare.{bare_library}
use Rattle.wc_syntax.specs.Checked.{KeepsRules, findings}
use Rattle.wc_syntax.specs.Printing.{printed}
use Rattle.wc_syntax.specs.Writable.{IsWritable}
use Rattle.wc_reader.specs.Depth.{too_deep}
use Rattle.wc_reader.proofs.Nesting.{names_first}
use Rattle.wc_parser.specs.declared.error.ParseError.{ParseError}
use Rattle.wc_parser.specs.declared.error.ParseError.TheVariants as parse
use Rattle.wc_parser.specs.Parsing.{Parsed, TextMeets, TextSays}
use Rattle.wc_parser.proofs.ReadBack.{reads_back}
use Rattle.wc_check.specs.declared.error.CheckError.{CheckError}
use Rattle.wc_check.specs.declared.error.CheckError.TheVariants as check
use Rattle.wc_check.specs.Refusals.{IsFirstFinding, IsRefused}
use Rattle.wc_check.proofs.BareFindings.{rules_forget_offsets}
use Rattle.wc_check.proofs.Kept.{kept}
use Rattle.wc_check.proofs.Single.{one_first}
use Rattle.wc_drill.specs.Library.{library, text}
use Rattle.wc_drill.proofs.KeepingLibrary.{bared, keeps}
use Rattle.wc_drill.proofs.Writable.{cut, printed_as, sayable, short, tokens_in}

not_deep : too_deep (tokens_in (tokens_of text)) ≡ None
unfolding token_at piece_at word_of symbol_of
not_deep = refl

pub writable : IsWritable library
writable = record {
  sayable = sayable;
  flat = (tokens_in (tokens_of text), ap tokens_of printed_as ∙ cut, (names_first (tokens_in (tokens_of text)) None).0 not_deep);
  short = subst (λ (bytes : List ℕ). length bytes ≤ 1048576) (sym printed_as) short;
}

-- a parser that answers for a library refuses its memory alone
meets : (e : ParseError) (other : List Definition) → TextMeets (Err e) (Ok other) → e ≡ parse.OutOfMemory
meets parse.OutOfMemory other h = refl
meets parse.TooLong other h = absurd (cc)
meets (parse.Lex error) other h = absurd (cc)
meets (parse.TooDeep at) other h = absurd (cc)
meets (parse.Unexpected at) other h = absurd (cc)
meets parse.EndOfText other h = absurd (cc)

pub parse_alone : (bytes : List ℕ) (e : ParseError) → bytes ≡ printed library → ((r : Parsed) → TextSays bytes r → TextMeets (Err e) r) → e ≡ parse.OutOfMemory
parse_alone bytes e is only =
    let back = reads_back library writable in
    meets e back.0 (only (Ok back.0) (subst (λ (t : List ℕ). TextSays t (Ok back.0)) (sym is) back.1))

-- what the parser gives is the library
pub parsed_as : (bytes : List ℕ) (l : List Definition) → bytes ≡ printed library → ((r : Parsed) → TextSays bytes r → TextMeets (Ok l) r) → bare_library l ≡ library
parsed_as bytes l is only =
    let back = reads_back library writable in
    let same : Ok l ≡ Ok back.0 = only (Ok back.0) (subst (λ (t : List ℕ). TextSays t (Ok back.0)) (sym is) back.1) in
    let equal : l ≡ back.0 = cc in
    ap bare_library equal ∙ back.2 ∙ bared

-- what the check refuses of it is its memory alone
pub check_alone : (l : List Definition) (e : CheckError) → bare_library l ≡ library → IsRefused l e → e ≡ check.OutOfMemory
check_alone l e is h = go e h
  where
    good : KeepsRules l
    good = rules_forget_offsets library l (bared ∙ sym is) keeps

    none : findings l ≡ []
    none = (kept l).0 good

    never : (x : CheckError) → IsFirstFinding l (Some x) → ⊥
    never x first = let both : None ≡ Some x = one_first l None (Some x) none first in absurd (cc)

    go : (x : CheckError) → IsRefused l x → x ≡ check.OutOfMemory
    go (check.Twice name at) k = absurd (never (check.Twice name at) k)
    go (check.Unknown name at) k = absurd (never (check.Unknown name at) k)
    go (check.PortMissing name at) k = absurd (never (check.PortMissing name at) k)
    go (check.PortUnknown name at) k = absurd (never (check.PortUnknown name at) k)
    go (check.NotData at) k = absurd (never (check.NotData at) k)
    go (check.BadStatus at) k = absurd (never (check.BadStatus at) k)
    go (check.TooMany at) k = absurd (never (check.TooMany at) k)
    go (check.BadName name at) k = absurd (never (check.BadName name at) k)
    go check.OutOfMemory k = refl
