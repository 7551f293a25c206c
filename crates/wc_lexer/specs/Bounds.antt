-- The bounds on the nesting and the weight of tokens, as counts over them.
use Rattle.std.specs.Prelude.{ℕ, suc, ◌+◌, ◌<◌, ◌≡◌, ◌⊎◌, Bool, true, false, if◌then◌else◌, List, [], ◌∷◌, ◌++◌}
use Rattle.wc_lexer.specs.declared.token.Token.{Token}
use Rattle.wc_lexer.specs.declared.token.Token.TheVariants as token
use Rattle.wc_lexer.specs.declared.token.Word.{Word}
use Rattle.wc_lexer.specs.declared.token.Word.TheVariants as word
use Rattle.wc_lexer.specs.declared.token.Symbol.{Symbol}
use Rattle.wc_lexer.specs.declared.token.Symbol.TheVariants as symbol

-- the words that take arguments in round brackets
abbrev pub is_call_word : Word → Bool
is_call_word word.Text = true
is_call_word word.Int = true
is_call_word word.Trim = true
is_call_word word.Len = true
is_call_word word.Get = true
is_call_word word.Has = true
is_call_word word.File = true
is_call_word word.Line = true
is_call_word word.Contains = true
is_call_word word.Min = true
is_call_word word.Max = true
is_call_word word.Given = true
is_call_word word.Count = true
is_call_word _ = false

-- behind such a word or a name an opening bracket is that of a call
abbrev pub is_called : Token → Bool
is_called (token.Name text) = true
is_called (token.Word w) = is_call_word w
is_called _ = false

-- what a word adds to a statement's weight
abbrev pub word_weight : Word → ℕ
word_weight word.And = 1
word_weight word.Or = 1
word_weight word.Not = 1
word_weight _ = 0

-- what a sign adds to a statement's weight
abbrev pub symbol_weight : Bool → Symbol → ℕ
symbol_weight called symbol.Plus = 1
symbol_weight called symbol.Minus = 1
symbol_weight called symbol.Star = 1
symbol_weight called symbol.Slash = 1
symbol_weight called symbol.Percent = 1
symbol_weight called symbol.Equal = 1
symbol_weight called symbol.Differs = 1
symbol_weight called symbol.Less = 1
symbol_weight called symbol.AtMost = 1
symbol_weight called symbol.Greater = 1
symbol_weight called symbol.AtLeast = 1
symbol_weight called symbol.OpenSquare = 1
symbol_weight called symbol.Open = if called then 1 else 0
symbol_weight called _ = 0

-- operators, `[` and the opening bracket of a call weigh one, all else nothing
abbrev pub weight_of : Bool → Token → ℕ
weight_of called (token.Word w) = word_weight w
weight_of called (token.Symbol s) = symbol_weight called s
weight_of called _ = 0

-- whether a sign ends a statement
abbrev pub symbol_ends : Symbol → Bool
symbol_ends symbol.Semi = true
symbol_ends symbol.OpenBrace = true
symbol_ends symbol.CloseBrace = true
symbol_ends _ = false

-- a statement's tokens stand behind the last of these
abbrev pub ends_statement : Token → Bool
ends_statement (token.Symbol s) = symbol_ends s
ends_statement _ = false

-- whether a sign opens a brace
abbrev pub is_open_brace : Symbol → Bool
is_open_brace symbol.OpenBrace = true
is_open_brace _ = false

-- whether a sign closes a brace
abbrev pub is_close_brace : Symbol → Bool
is_close_brace symbol.CloseBrace = true
is_close_brace _ = false

-- whether a token opens a brace
abbrev pub opens_brace : Token → Bool
opens_brace (token.Symbol s) = is_open_brace s
opens_brace _ = false

-- whether a token closes a brace
abbrev pub closes_brace : Token → Bool
closes_brace (token.Symbol s) = is_close_brace s
closes_brace _ = false

-- round and square brackets count alike
abbrev pub is_open_bracket : Symbol → Bool
is_open_bracket symbol.Open = true
is_open_bracket symbol.OpenSquare = true
is_open_bracket _ = false

-- whether a sign closes a bracket, round or square
abbrev pub is_close_bracket : Symbol → Bool
is_close_bracket symbol.Close = true
is_close_bracket symbol.CloseSquare = true
is_close_bracket _ = false

-- whether a token opens a bracket
abbrev pub opens_bracket : Token → Bool
opens_bracket (token.Symbol s) = is_open_bracket s
opens_bracket _ = false

-- whether a token closes a bracket
abbrev pub closes_bracket : Token → Bool
closes_bracket (token.Symbol s) = is_close_bracket s
closes_bracket _ = false

-- how many of the tokens pass a test
abbrev pub count : (Token → Bool) → List (Token × ℕ) → ℕ
count p [] = 0
count p (t ∷ ts) = if p t.0 then suc (count p ts) else count p ts

-- whether an opening bracket behind the tokens is that of a call, where the flag says so of the place before them
abbrev pub called_after : Bool → List (Token × ℕ) → Bool
called_after called [] = called
called_after called (t ∷ ts) = called_after (is_called t.0) ts

-- how many of the tokens are of weight one
abbrev pub weight : Bool → List (Token × ℕ) → ℕ
weight called [] = 0
weight called (t ∷ ts) = weight_of called t.0 + weight (is_called t.0) ts

-- More than a number are open behind the tokens: among some of the last tokens so many more open than close.
abbrev pub MoreOpen : (Token → Bool) → (Token → Bool) → ℕ → List (Token × ℕ) → Type 0
MoreOpen opens closes most ts = (front back : List (Token × ℕ)) × (ts ≡ front ++ back) × (most + count closes back < count opens back)

-- More than a number of the last tokens, among which no statement ends, are of weight one.
abbrev pub Heavier : ℕ → List (Token × ℕ) → Type 0
Heavier most ts = (front back : List (Token × ℕ)) × (ts ≡ front ++ back) × (count ends_statement back ≡ 0) × (most < weight (called_after false front) back)

-- behind the tokens more than 24 braces or 128 brackets are open, or more than 100 tokens of the statement are of weight one
abbrev pub IsPast : List (Token × ℕ) → Type 0
IsPast ts = MoreOpen opens_brace closes_brace 24 ts ⊎ (MoreOpen opens_bracket closes_bracket 128 ts ⊎ Heavier 100 ts)

-- no first tokens are past a bound
abbrev pub StaysWithin : List (Token × ℕ) → Type 0
StaysWithin ts = (first others : List (Token × ℕ)) → ts ≡ first ++ others → IsPast first → ⊥
