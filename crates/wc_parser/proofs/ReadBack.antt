-- Printed texts read back, and tell libraries apart.
use Rattle.std.proofs.Common.{◌≡◌, ℕ, ◌≤◌, true, List, [], ◌∷◌, length, map, None, Result, Ok, sym, ap, ◌∙◌, subst, append-nil}
use Rattle.wc_lexer.specs.declared.error.LexError.{LexError}
use Rattle.wc_lexer.specs.Tokens.{tokens_of}
use Rattle.wc_syntax.specs.declared.definition.Definition.{Definition}
use Rattle.wc_syntax.specs.Bare.{bare_definition, bare_library}
use Rattle.wc_syntax.specs.Printing.{printed_definition, printed}
use Rattle.wc_syntax.specs.Writable.{is_definition, is_sayable, IsWritable}
use Rattle.wc_syntax.proofs.Bared.{printed_bare}
use Rattle.wc_grammar.specs.Rules.{Tok}
use Rattle.wc_reader.specs.Grammar.{Derives}
use Rattle.wc_reader.proofs.Nesting.{names_first}
use Rattle.wc_reader.proofs.Whole.{one_library}
use Rattle.wc_parser.specs.Parsing.{TextSays}
use Rattle.wc_parser.proofs.LexedLibraries.{printed_lexes}
use Rattle.wc_parser.proofs.PrintedDerives.{printed_derives}

same_tokens : (ts us : List Tok) (r : Result (List Tok) LexError) → r ≡ Ok ts → r ≡ Ok us → ts ≡ us
same_tokens ts us r h k = let e : (let x : Result (List Tok) LexError = Ok ts in x) ≡ Ok us = sym h ∙ k in cc

-- what the tokens of the printed text derive says the same
told_by : (library : List Definition) → is_sayable library ≡ true → (ts : List Tok) → tokens_of (printed library) ≡ Ok ts
    → (other : List Definition) × Derives ts other × (bare_library other ≡ bare_library library)
told_by library h ts e =
    let l = printed_lexes library h in
    printed_derives library h ts (ap (map (λ t. t.0)) (same_tokens ts l.0 (tokens_of (printed library)) e l.1) ∙ l.2)

-- ---- reading back
as_long : (a b : List Definition) → bare_library a ≡ bare_library b → length (printed b) ≤ 1048576 → length (printed a) ≤ 1048576
as_long a b e h = subst (λ (z : List ℕ). length z ≤ 1048576) (sym (printed_bare b) ∙ ap printed (sym e) ∙ printed_bare a) h

pub reads_back : (library : List Definition) → IsWritable library → (other : List Definition) × TextSays (printed library) (Ok other) × (bare_library other ≡ bare_library library)
reads_back library w =
    let f = w.flat in
    let t = told_by library w.sayable f.0 f.1 in
    (t.0, ((f.0, record { short = w.short; cut = f.1; flat = (names_first f.0 None).1 f.2 }, t.1), as_long t.0 library t.2 w.short), t.2)

-- ---- telling apart
one_reading : (a b x y : List Definition) (ts us : List Tok) → ts ≡ us → Derives ts x → Derives us y → bare_library x ≡ bare_library a → bare_library y ≡ bare_library b
    → bare_library a ≡ bare_library b
one_reading a b x y ts us e d g h k = sym h ∙ ap bare_library (one_library us x y (subst (λ z. Derives z x) e d) g) ∙ k

pub libraries_print_apart : (a b : List Definition) → is_sayable a ≡ true → is_sayable b ≡ true → printed a ≡ printed b → bare_library a ≡ bare_library b
libraries_print_apart a b h k e =
    let l = printed_lexes a h in
    let m = printed_lexes b k in
    let x = told_by a h l.0 l.1 in
    let y = told_by b k m.0 m.1 in
    one_reading a b x.0 y.0 l.0 m.0 (same_tokens l.0 m.0 (tokens_of (printed a)) l.1 (ap tokens_of e ∙ m.1)) x.1 y.1 x.2 y.2

alone : (d : Definition) → is_definition d ≡ true → is_sayable (d ∷ []) ≡ true
alone d h = cc

first_of : (a b : Definition) → bare_definition a ∷ [] ≡ bare_definition b ∷ [] → bare_definition a ≡ bare_definition b
first_of a b e = cc

pub definitions_print_apart : (a b : Definition) → is_definition a ≡ true → is_definition b ≡ true → printed_definition a ≡ printed_definition b → bare_definition a ≡ bare_definition b
definitions_print_apart a b h k e =
    first_of a b (libraries_print_apart (a ∷ []) (b ∷ []) (alone a h) (alone b k) (append-nil (printed_definition a) ∙ e ∙ sym (append-nil (printed_definition b))))
