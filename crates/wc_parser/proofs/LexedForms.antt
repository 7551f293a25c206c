-- The tokens of a printed expression, one level at a time.
use Rattle.std.proofs.Common.{◌≡◌, ℕ, List, [], ◌∷◌, ◌++◌, Bool, true, false, Some, None, refl, arith, if◌then◌else◌}
use Rattle.std.specs.Prelude.{◌&&◌, codes}
use Rattle.std.specs.List.{list_all}
use Rattle.std.proofs.lemmas.Bool.{and_parts}
use Rattle.std.proofs.lemmas.Bool.Decides.{nat_tests}
use Rattle.wc_lexer.specs.declared.token.Token.{Token}
use Rattle.wc_lexer.specs.declared.token.Word.{Word}
use Rattle.wc_lexer.specs.declared.token.Word.TheVariants as word
use Rattle.wc_lexer.specs.declared.token.Symbol.{Symbol}
use Rattle.wc_lexer.specs.declared.token.Symbol.TheVariants as symbol
use Rattle.wc_lexer.specs.Spellings.{word_text, symbol_text, word_of}
use Rattle.wc_lexer.specs.Tokens.{is_in_name}
use Rattle.wc_lexer.specs.Cuts.{is_letters}
use Rattle.wc_lexer.proofs.Longest.{letters_first}
use Rattle.wc_syntax.specs.declared.expression.Name.{Name}
use Rattle.wc_syntax.specs.declared.expression.Quoted.{Quoted}
use Rattle.wc_syntax.specs.declared.expression.Number.{Number}
use Rattle.wc_syntax.specs.declared.expression.ChildPart.{ChildPart}
use Rattle.wc_syntax.specs.declared.expression.ChildPart.TheVariants as part
use Rattle.wc_syntax.specs.declared.expression.UnaryOp.{UnaryOp}
use Rattle.wc_syntax.specs.declared.expression.UnaryOp.TheVariants as unary
use Rattle.wc_syntax.specs.declared.expression.BinaryOp.{BinaryOp}
use Rattle.wc_syntax.specs.declared.expression.BinaryOp.TheVariants as binary
use Rattle.wc_syntax.specs.declared.expression.OneOf.{OneOf}
use Rattle.wc_syntax.specs.declared.expression.OneOf.TheVariants as one
use Rattle.wc_syntax.specs.declared.expression.TwoOf.{TwoOf}
use Rattle.wc_syntax.specs.declared.expression.TwoOf.TheVariants as two
use Rattle.wc_syntax.specs.Printing.{quoted_text, number_text, separated, items, unary_text, binary_text, one_text, two_text, in_brackets, input_text, context_text, index_text, part_text}
use Rattle.wc_syntax.specs.Writable.{is_free, is_name, is_number, is_part}
use Rattle.wc_parser.specs.PrintedTokens as tokens
use Rattle.wc_parser.specs.PrintedTokens.{sign, reserved, name, number}
use Rattle.wc_parser.proofs.LexedPieces.{Reads, pieces, nothing}
use Rattle.wc_parser.proofs.LexedWords.{space, begins, is_pointed, word_reads, name_reads, sign_reads, spaced_sign, minus_reads}
use Rattle.wc_parser.proofs.LexedLiterals.{text_reads, number_reads, number_unpointed}

-- What is said of a text holds: then it has these tokens before what no name goes on with, and begins with no `>`.
pub record Spoken (text : List ℕ) (spelled : List Token) (holds : Bool) : Type 0 where
  pub lays : holds ≡ true → (rest : List ℕ) → begins is_in_name rest ≡ false → Reads text spelled rest
  pub opens : holds ≡ true → (rest : List ℕ) → is_pointed (text ++ rest) ≡ false

-- ---- words and signs with spaces round them
pub spaced_word : (w : Word) (rest : List ℕ) → Reads (codes " " ++ word_text w ++ codes " ") (reserved w) rest
spaced_word w rest =
    pieces (codes " ", []) ((word_text w, reserved w) ∷ (codes " ", []) ∷ []) rest
    (space (word_text w ++ (codes " " ++ rest)), (word_reads w (codes " " ++ rest) refl, (space rest, tt)))

pub spaced : (s : Symbol) (rest : List ℕ) → Reads (codes " " ++ symbol_text s ++ codes " ") (sign s) rest
spaced s rest =
    pieces (codes " ", []) ((symbol_text s, sign s) ∷ (codes " ", []) ∷ []) rest
    (space (symbol_text s ++ (codes " " ++ rest)), (spaced_sign s rest, (space rest, tt)))

-- a word and a space
pub before_space : (w : Word) (rest : List ℕ) → Reads (word_text w ++ codes " ") (reserved w) rest
before_space w rest = pieces (word_text w, reserved w) ((codes " ", []) ∷ []) rest (word_reads w (codes " " ++ rest) refl, (space rest, tt))

-- a sign and a space
pub sign_space : (s : Symbol) (rest : List ℕ) → Reads (symbol_text s ++ codes " ") (sign s) rest
sign_space s rest = pieces (symbol_text s, sign s) ((codes " ", []) ∷ []) rest (spaced_sign s rest, (space rest, tt))

pub comma : (rest : List ℕ) → Reads (codes ", ") (sign symbol.Comma) rest
comma rest = sign_space symbol.Comma rest

-- ---- lists
pub listed : {A : Type 0} (text : A → List ℕ) (spelled : A → List Token) (test : A → Bool)
    → ((x : A) → test x ≡ true → (rest : List ℕ) → begins is_in_name rest ≡ false → Reads (text x) (spelled x) rest)
    → (first : Bool) (xs : List A) → list_all test xs ≡ true → (rest : List ℕ) → begins is_in_name rest ≡ false → Reads (separated first text xs) (tokens.separated first spelled xs) rest
listed text spelled test each first [] h rest k = nothing rest
listed {A} text spelled test each first (x ∷ xs) h rest k =
    let a = and_parts (test x) (list_all test xs) h in
    in_front first
    (pieces (text x, spelled x) ((separated false text xs, tokens.separated false spelled xs) ∷ []) rest
    (each x a.0 (separated false text xs ++ rest) (apart xs), (listed text spelled test each false xs a.1 rest k, tt)))
  where
    apart : (xs : List A) → begins is_in_name (separated false text xs ++ rest) ≡ false
    apart [] = k
    apart (y ∷ ys) = refl

    in_front : {body : List ℕ} {said : List Token} (first : Bool) → Reads body said rest → Reads ((if first then [] else codes ", ") ++ body) ((if first then [] else sign symbol.Comma) ++ said) rest
    in_front true r = r
    in_front {body} {said} false r = pieces (codes ", ", sign symbol.Comma) ((body, said) ∷ []) rest (comma (body ++ rest), (r, tt))

-- ---- brackets
pub bracketed : (text : List ℕ) (spelled : List Token) (rest : List ℕ) → Reads text spelled (codes ")" ++ rest) → Reads (in_brackets text) (tokens.in_brackets spelled) rest
bracketed text spelled rest r =
    pieces (codes "(", sign symbol.Open) ((text, spelled) ∷ (codes ")", sign symbol.Close) ∷ []) rest
    (sign_reads symbol.Open (text ++ (codes ")" ++ rest)) refl, (r, (sign_reads symbol.Close rest refl, tt)))

pub squared : (text : List ℕ) (spelled : List Token) (rest : List ℕ) → Reads text spelled (codes "]" ++ rest)
    → Reads (codes "[" ++ text ++ codes "]") (sign symbol.OpenSquare ++ spelled ++ sign symbol.CloseSquare) rest
squared text spelled rest r =
    pieces (codes "[", sign symbol.OpenSquare) ((text, spelled) ∷ (codes "]", sign symbol.CloseSquare) ∷ []) rest
    (sign_reads symbol.OpenSquare (text ++ (codes "]" ++ rest)) refl, (r, (sign_reads symbol.CloseSquare rest refl, tt)))

-- ---- names
-- a word, a dot and a name
dotted : (w : Word) (n : Name) (rest : List ℕ) → is_name n ≡ true → begins is_in_name rest ≡ false → Reads (word_text w ++ codes "." ++ n.text) (reserved w ++ sign symbol.Dot ++ name n) rest
dotted w n rest h k =
    pieces (word_text w, reserved w) ((codes ".", sign symbol.Dot) ∷ (n.text, name n) ∷ []) rest
    (word_reads w (codes "." ++ (n.text ++ rest)) refl, (sign_reads symbol.Dot (n.text ++ rest) refl, (name_reads n rest h k, tt)))

pub input_reads : (n : Name) (rest : List ℕ) → is_name n ≡ true → begins is_in_name rest ≡ false → Reads (input_text n) (tokens.input n) rest
input_reads n rest h k = dotted word.Inputs n rest h k

pub context_reads : (n : Name) (rest : List ℕ) → is_name n ≡ true → begins is_in_name rest ≡ false → Reads (context_text n) (tokens.context n) rest
context_reads n rest h k = dotted word.Ctx n rest h k

part_reads : (p : ChildPart) (rest : List ℕ) → is_part p ≡ true → begins is_in_name rest ≡ false → Reads (part_text p) (tokens.child_part p) rest
part_reads (part.Outputs n) rest h k =
    pieces (codes ".", sign symbol.Dot) ((codes "outputs." ++ n.text, reserved word.Outputs ++ sign symbol.Dot ++ name n) ∷ []) rest
    (sign_reads symbol.Dot ((codes "outputs." ++ n.text) ++ rest) refl, (dotted word.Outputs n rest h k, tt))
part_reads part.Status rest h k =
    pieces (codes ".", sign symbol.Dot) ((codes "status", reserved word.Status) ∷ []) rest (sign_reads symbol.Dot (codes "status" ++ rest) refl, (word_reads word.Status rest k, tt))
part_reads part.Ok rest h k =
    pieces (codes ".", sign symbol.Dot) ((codes "ok", reserved word.Ok) ∷ []) rest (sign_reads symbol.Dot (codes "ok" ++ rest) refl, (word_reads word.Ok rest k, tt))

part_apart : (p : ChildPart) (rest : List ℕ) → begins is_in_name (part_text p ++ rest) ≡ false
part_apart (part.Outputs n) rest = refl
part_apart part.Status rest = refl
part_apart part.Ok rest = refl

name_unpointed : (bs rest : List ℕ) → is_letters bs ≡ true → is_pointed (bs ++ rest) ≡ false
name_unpointed [] rest h = absurd (cc)
name_unpointed (b ∷ bs) rest h = let k = letters_first b bs h in grind (arith, nat_tests)

-- ---- words of calls
one_reads : (o : OneOf) (rest : List ℕ) → begins is_in_name rest ≡ false → Reads (one_text o) (tokens.one_word o) rest
one_reads one.Text rest k = word_reads word.Text rest k
one_reads one.Int rest k = word_reads word.Int rest k
one_reads one.Trim rest k = word_reads word.Trim rest k
one_reads one.Len rest k = word_reads word.Len rest k

two_reads : (o : TwoOf) (rest : List ℕ) → begins is_in_name rest ≡ false → Reads (two_text o) (tokens.two_word o) rest
two_reads two.Get rest k = word_reads word.Get rest k
two_reads two.Has rest k = word_reads word.Has rest k
two_reads two.File rest k = word_reads word.File rest k
two_reads two.Line rest k = word_reads word.Line rest k
two_reads two.Contains rest k = word_reads word.Contains rest k
two_reads two.Min rest k = word_reads word.Min rest k
two_reads two.Max rest k = word_reads word.Max rest k

binary_reads : (o : BinaryOp) (rest : List ℕ) → Reads (binary_text o) (tokens.binary_sign o) rest
binary_reads binary.Or rest = spaced_word word.Or rest
binary_reads binary.And rest = spaced_word word.And rest
binary_reads binary.Equal rest = spaced symbol.Equal rest
binary_reads binary.Differs rest = spaced symbol.Differs rest
binary_reads binary.Less rest = spaced symbol.Less rest
binary_reads binary.AtMost rest = spaced symbol.AtMost rest
binary_reads binary.Greater rest = spaced symbol.Greater rest
binary_reads binary.AtLeast rest = spaced symbol.AtLeast rest
binary_reads binary.Add rest = spaced symbol.Plus rest
binary_reads binary.Subtract rest = spaced symbol.Minus rest
binary_reads binary.Multiply rest = spaced symbol.Star rest
binary_reads binary.Divide rest = spaced symbol.Slash rest
binary_reads binary.Remainder rest = spaced symbol.Percent rest

binary_apart : (o : BinaryOp) (rest : List ℕ) → begins is_in_name (binary_text o ++ rest) ≡ false
binary_apart binary.Or rest = refl
binary_apart binary.And rest = refl
binary_apart binary.Equal rest = refl
binary_apart binary.Differs rest = refl
binary_apart binary.Less rest = refl
binary_apart binary.AtMost rest = refl
binary_apart binary.Greater rest = refl
binary_apart binary.AtLeast rest = refl
binary_apart binary.Add rest = refl
binary_apart binary.Subtract rest = refl
binary_apart binary.Multiply rest = refl
binary_apart binary.Divide rest = refl
binary_apart binary.Remainder rest = refl

-- ---- one level
pub spoken_number : (n : Number) → Spoken (number_text n) (number n) (is_number n)
spoken_number n = record { lays = λ h rest k. number_reads n rest h k; opens = λ h rest. number_unpointed n rest h }

pub spoken_quoted : (q : Quoted) → Spoken (quoted_text q) (tokens.text q) true
spoken_quoted q = record { lays = λ h rest k. text_reads q rest; opens = λ h rest. refl }

pub spoken_truth : (b : Bool) → Spoken (if b then codes "true" else codes "false") (tokens.truth_word b) true
spoken_truth true = record { lays = λ h rest k. word_reads word.True rest k; opens = λ h rest. refl }
spoken_truth false = record { lays = λ h rest k. word_reads word.False rest k; opens = λ h rest. refl }

pub spoken_name : (n : Name) → Spoken n.text (name n) (is_name n)
spoken_name n = record { lays = λ h rest k. name_reads n rest h k; opens = λ h rest. name_unpointed n.text rest (and_parts (is_letters n.text) (is_free (word_of n.text)) h).0 }

pub spoken_input : (n : Name) → Spoken (input_text n) (tokens.input n) (is_name n)
spoken_input n = record { lays = λ h rest k. input_reads n rest h k; opens = λ h rest. refl }

pub spoken_context : (n : Name) → Spoken (context_text n) (tokens.context n) (is_name n)
spoken_context n = record { lays = λ h rest k. context_reads n rest h k; opens = λ h rest. refl }

pub spoken_child : (n : Name) (p : ChildPart) → Spoken (context_text n ++ index_text None ++ part_text p) (tokens.context n ++ tokens.index None ++ tokens.child_part p) (is_name n && (true && is_part p))
spoken_child n p = record {
  lays = λ h rest k. let a = and_parts (is_name n) (true && is_part p) h in
      pieces (context_text n, tokens.context n) (([], []) ∷ (part_text p, tokens.child_part p) ∷ []) rest
      (context_reads n (part_text p ++ rest) a.0 (part_apart p rest), (nothing (part_text p ++ rest), (part_reads p rest a.1 k, tt)));
  opens = λ h rest. refl;
}

pub spoken_child_at : (n : Name) (p : ChildPart) (e : List ℕ) (s : List Token) (i : Bool) → Spoken e s i
    → Spoken (context_text n ++ index_text (Some e) ++ part_text p) (tokens.context n ++ tokens.index (Some s) ++ tokens.child_part p) (is_name n && (i && is_part p))
spoken_child_at n p e s i w = record {
  lays = λ h rest k. let a = and_parts (is_name n) (i && is_part p) h in let b = and_parts i (is_part p) a.1 in
      pieces (context_text n, tokens.context n) ((index_text (Some e), tokens.index (Some s)) ∷ (part_text p, tokens.child_part p) ∷ []) rest (
        context_reads n (index_text (Some e) ++ (part_text p ++ rest)) a.0 refl,
        (squared e s (part_text p ++ rest) (w.lays b.0 (codes "]" ++ (part_text p ++ rest)) refl), (part_reads p rest b.1 k, tt)),
      );
  opens = λ h rest. refl;
}

-- a minus before what begins with no `>`
negated : (a : List ℕ) (s : List Token) (rest : List ℕ) → is_pointed (a ++ rest) ≡ false → Reads a s rest → Reads (codes "-" ++ a) (sign symbol.Minus ++ s) rest
negated a s rest h r = record { reads = λ others c. (minus_reads (a ++ rest) h).reads (s ++ others) (r.reads others c) }

unary_reads : (o : UnaryOp) (a : List ℕ) (s : List Token) (rest : List ℕ) → is_pointed (a ++ rest) ≡ false → Reads a s rest → Reads (unary_text o ++ a) (tokens.unary_sign o ++ s) rest
unary_reads unary.Negate a s rest h r = negated a s rest h r
unary_reads unary.Not a s rest h r = pieces (codes "not ", reserved word.Not) ((a, s) ∷ []) rest (before_space word.Not (a ++ rest), (r, tt))

pub spoken_unary : (o : UnaryOp) (a : List ℕ) (s : List Token) (i : Bool) → Spoken a s i → Spoken (in_brackets (unary_text o ++ a)) (tokens.in_brackets (tokens.unary_sign o ++ s)) i
spoken_unary o a s i w = record {
  lays = λ h rest k. bracketed (unary_text o ++ a) (tokens.unary_sign o ++ s) rest
      (unary_reads o a s (codes ")" ++ rest) (w.opens h (codes ")" ++ rest)) (w.lays h (codes ")" ++ rest) refl));
  opens = λ h rest. refl;
}

pub spoken_binary : (o : BinaryOp) (a b : List ℕ) (s t : List Token) (i j : Bool) → Spoken a s i → Spoken b t j
    → Spoken (in_brackets (a ++ binary_text o ++ b)) (tokens.in_brackets (s ++ tokens.binary_sign o ++ t)) (i && j)
spoken_binary o a b s t i j w v = record {
  lays = λ h rest k. let e = and_parts i j h in
      bracketed (a ++ binary_text o ++ b) (s ++ tokens.binary_sign o ++ t) rest
      (pieces (a, s) ((binary_text o, tokens.binary_sign o) ∷ (b, t) ∷ []) (codes ")" ++ rest) (
        w.lays e.0 (binary_text o ++ (b ++ (codes ")" ++ rest))) (binary_apart o (b ++ (codes ")" ++ rest))),
        (binary_reads o (b ++ (codes ")" ++ rest)), (v.lays e.1 (codes ")" ++ rest) refl, tt)),
      ));
  opens = λ h rest. refl;
}

pub spoken_one : (o : OneOf) (a : List ℕ) (s : List Token) (i : Bool) → Spoken a s i → Spoken (one_text o ++ in_brackets a) (tokens.one_word o ++ tokens.in_brackets s) i
spoken_one o a s i w = record {
  lays = λ h rest k. pieces (one_text o, tokens.one_word o) ((in_brackets a, tokens.in_brackets s) ∷ []) rest
      (one_reads o (in_brackets a ++ rest) refl, (bracketed a s rest (w.lays h (codes ")" ++ rest) refl), tt));
  opens = λ h rest. one_head o (in_brackets a) rest;
}
  where
    one_head : (o : OneOf) (a rest : List ℕ) → is_pointed ((one_text o ++ a) ++ rest) ≡ false
    one_head one.Text a rest = refl
    one_head one.Int a rest = refl
    one_head one.Trim a rest = refl
    one_head one.Len a rest = refl

pub spoken_two : (o : TwoOf) (a b : List ℕ) (s t : List Token) (i j : Bool) → Spoken a s i → Spoken b t j
    → Spoken (two_text o ++ in_brackets (a ++ codes ", " ++ b)) (tokens.two_word o ++ tokens.in_brackets (s ++ sign symbol.Comma ++ t)) (i && j)
spoken_two o a b s t i j w v = record {
  lays = λ h rest k. let e = and_parts i j h in
      pieces (two_text o, tokens.two_word o) ((in_brackets (a ++ codes ", " ++ b), tokens.in_brackets (s ++ sign symbol.Comma ++ t)) ∷ []) rest (
        two_reads o (in_brackets (a ++ codes ", " ++ b) ++ rest) refl,
        (
          bracketed (a ++ codes ", " ++ b) (s ++ sign symbol.Comma ++ t) rest
              (pieces (a, s) ((codes ", ", sign symbol.Comma) ∷ (b, t) ∷ []) (codes ")" ++ rest)
              (w.lays e.0 (codes ", " ++ (b ++ (codes ")" ++ rest))) refl, (comma (b ++ (codes ")" ++ rest)), (v.lays e.1 (codes ")" ++ rest) refl, tt)))),
          tt,
        ),
      );
  opens = λ h rest. two_head o (in_brackets (a ++ codes ", " ++ b)) rest;
}
  where
    two_head : (o : TwoOf) (a rest : List ℕ) → is_pointed ((two_text o ++ a) ++ rest) ≡ false
    two_head two.Get a rest = refl
    two_head two.Has a rest = refl
    two_head two.File a rest = refl
    two_head two.Line a rest = refl
    two_head two.Contains a rest = refl
    two_head two.Min a rest = refl
    two_head two.Max a rest = refl

-- a word, and a name in brackets
pub spoken_asked : (w : Word) (a : List ℕ) (s : List Token) (i : Bool) → ((rest : List ℕ) → is_pointed ((word_text w ++ in_brackets a) ++ rest) ≡ false) → Spoken a s i
    → Spoken (word_text w ++ in_brackets a) (reserved w ++ tokens.in_brackets s) i
spoken_asked w a s i u v = record {
  lays = λ h rest k. pieces (word_text w, reserved w) ((in_brackets a, tokens.in_brackets s) ∷ []) rest
      (word_reads w (in_brackets a ++ rest) refl, (bracketed a s rest (v.lays h (codes ")" ++ rest) refl), tt));
  opens = λ h rest. u rest;
}

pub spoken_list : {A : Type 0} (text : A → List ℕ) (spelled : A → List Token) (test : A → Bool) → ((x : A) → Spoken (text x) (spelled x) (test x)) → (xs : List A)
    → Spoken (codes "[" ++ items text xs ++ codes "]") (sign symbol.OpenSquare ++ tokens.items spelled xs ++ sign symbol.CloseSquare) (list_all test xs)
spoken_list text spelled test each xs = record {
  lays = λ h rest k. squared (items text xs) (tokens.items spelled xs) rest
      (listed text spelled test (λ x e r q. (each x).lays e r q) true xs h (codes "]" ++ rest) refl);
  opens = λ h rest. refl;
}
