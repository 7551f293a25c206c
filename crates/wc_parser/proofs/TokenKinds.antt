-- The token of each kind, where the kind says which it is.
use Rattle.std.proofs.Common.{◌≡◌, ℕ, List, [], ◌∷◌, Option, Some, refl, sym, ◌∙◌}
use Rattle.wc_lexer.specs.declared.token.Token.{Token}
use Rattle.wc_lexer.specs.declared.token.Token.TheVariants as token
use Rattle.wc_lexer.specs.declared.token.Word.{Word}
use Rattle.wc_lexer.specs.declared.token.Word.TheVariants as word
use Rattle.wc_lexer.specs.declared.token.Symbol.{Symbol}
use Rattle.wc_lexer.specs.declared.token.Symbol.TheVariants as symbol
use Rattle.wc_grammar.specs.Kinds.{kind, word_kind, symbol_kind}
use Rattle.wc_grammar.specs.Rules.{pick}

abbrev kinds : List (ℕ × Token)
kinds =
    (word_kind word.Calcfunction, token.Word word.Calcfunction) ∷ (word_kind word.Calcjob, token.Word word.Calcjob) ∷ (word_kind word.Workchain, token.Word word.Workchain) ∷
    (word_kind word.Program, token.Word word.Program) ∷ (word_kind word.Arg, token.Word word.Arg) ∷ (word_kind word.File, token.Word word.File) ∷
    (word_kind word.Fetch, token.Word word.Fetch) ∷ (word_kind word.Parse, token.Word word.Parse) ∷ (word_kind word.Int, token.Word word.Int) ∷
    (word_kind word.Bool, token.Word word.Bool) ∷ (word_kind word.Text, token.Word word.Text) ∷ (word_kind word.List, token.Word word.List) ∷
    (word_kind word.Dict, token.Word word.Dict) ∷ (word_kind word.Folder, token.Word word.Folder) ∷ (word_kind word.ExitCode, token.Word word.ExitCode) ∷
    (word_kind word.Invalidates, token.Word word.Invalidates) ∷ (word_kind word.Let, token.Word word.Let) ∷ (word_kind word.Out, token.Word word.Out) ∷
    (word_kind word.Exit, token.Word word.Exit) ∷ (word_kind word.If, token.Word word.If) ∷ (word_kind word.Step, token.Word word.Step) ∷
    (word_kind word.Elif, token.Word word.Elif) ∷ (word_kind word.Else, token.Word word.Else) ∷ (word_kind word.While, token.Word word.While) ∷
    (word_kind word.Return, token.Word word.Return) ∷ (word_kind word.Ctx, token.Word word.Ctx) ∷ (word_kind word.Call, token.Word word.Call) ∷
    (word_kind word.To, token.Word word.To) ∷ (word_kind word.Append, token.Word word.Append) ∷ (word_kind word.Or, token.Word word.Or) ∷
    (word_kind word.And, token.Word word.And) ∷ (word_kind word.Not, token.Word word.Not) ∷ (word_kind word.True, token.Word word.True) ∷
    (word_kind word.False, token.Word word.False) ∷ (word_kind word.Inputs, token.Word word.Inputs) ∷ (word_kind word.Trim, token.Word word.Trim) ∷
    (word_kind word.Len, token.Word word.Len) ∷ (word_kind word.Get, token.Word word.Get) ∷ (word_kind word.Has, token.Word word.Has) ∷
    (word_kind word.Line, token.Word word.Line) ∷ (word_kind word.Contains, token.Word word.Contains) ∷ (word_kind word.Min, token.Word word.Min) ∷
    (word_kind word.Max, token.Word word.Max) ∷ (word_kind word.Given, token.Word word.Given) ∷ (word_kind word.Count, token.Word word.Count) ∷
    (word_kind word.Outputs, token.Word word.Outputs) ∷ (word_kind word.Status, token.Word word.Status) ∷ (word_kind word.Ok, token.Word word.Ok) ∷
    (symbol_kind symbol.OpenBrace, token.Symbol symbol.OpenBrace) ∷ (symbol_kind symbol.CloseBrace, token.Symbol symbol.CloseBrace) ∷ (symbol_kind symbol.Open, token.Symbol symbol.Open) ∷
    (symbol_kind symbol.Close, token.Symbol symbol.Close) ∷ (symbol_kind symbol.OpenSquare, token.Symbol symbol.OpenSquare) ∷ (symbol_kind symbol.CloseSquare, token.Symbol symbol.CloseSquare) ∷
    (symbol_kind symbol.Comma, token.Symbol symbol.Comma) ∷ (symbol_kind symbol.Semi, token.Symbol symbol.Semi) ∷ (symbol_kind symbol.Colon, token.Symbol symbol.Colon) ∷
    (symbol_kind symbol.Dot, token.Symbol symbol.Dot) ∷ (symbol_kind symbol.Question, token.Symbol symbol.Question) ∷ (symbol_kind symbol.Is, token.Symbol symbol.Is) ∷
    (symbol_kind symbol.Equal, token.Symbol symbol.Equal) ∷ (symbol_kind symbol.Differs, token.Symbol symbol.Differs) ∷ (symbol_kind symbol.Less, token.Symbol symbol.Less) ∷
    (symbol_kind symbol.AtMost, token.Symbol symbol.AtMost) ∷ (symbol_kind symbol.Greater, token.Symbol symbol.Greater) ∷ (symbol_kind symbol.AtLeast, token.Symbol symbol.AtLeast) ∷
    (symbol_kind symbol.Plus, token.Symbol symbol.Plus) ∷ (symbol_kind symbol.Minus, token.Symbol symbol.Minus) ∷ (symbol_kind symbol.Star, token.Symbol symbol.Star) ∷
    (symbol_kind symbol.Slash, token.Symbol symbol.Slash) ∷ (symbol_kind symbol.Percent, token.Symbol symbol.Percent) ∷ (symbol_kind symbol.Arrow, token.Symbol symbol.Arrow) ∷ []

-- the word or the symbol of a kind
abbrev pub token_of : ℕ → Option Token
token_of k = pick kinds k

word_known : (w : Word) → token_of (word_kind w) ≡ Some (token.Word w)
word_known word.Calcfunction = refl
word_known word.Calcjob = refl
word_known word.Workchain = refl
word_known word.Program = refl
word_known word.Arg = refl
word_known word.File = refl
word_known word.Fetch = refl
word_known word.Parse = refl
word_known word.Int = refl
word_known word.Bool = refl
word_known word.Text = refl
word_known word.List = refl
word_known word.Dict = refl
word_known word.Folder = refl
word_known word.ExitCode = refl
word_known word.Invalidates = refl
word_known word.Let = refl
word_known word.Out = refl
word_known word.Exit = refl
word_known word.If = refl
word_known word.Step = refl
word_known word.Elif = refl
word_known word.Else = refl
word_known word.While = refl
word_known word.Return = refl
word_known word.Ctx = refl
word_known word.Call = refl
word_known word.To = refl
word_known word.Append = refl
word_known word.Or = refl
word_known word.And = refl
word_known word.Not = refl
word_known word.True = refl
word_known word.False = refl
word_known word.Inputs = refl
word_known word.Trim = refl
word_known word.Len = refl
word_known word.Get = refl
word_known word.Has = refl
word_known word.Line = refl
word_known word.Contains = refl
word_known word.Min = refl
word_known word.Max = refl
word_known word.Given = refl
word_known word.Count = refl
word_known word.Outputs = refl
word_known word.Status = refl
word_known word.Ok = refl

symbol_known : (s : Symbol) → token_of (symbol_kind s) ≡ Some (token.Symbol s)
symbol_known symbol.OpenBrace = refl
symbol_known symbol.CloseBrace = refl
symbol_known symbol.Open = refl
symbol_known symbol.Close = refl
symbol_known symbol.OpenSquare = refl
symbol_known symbol.CloseSquare = refl
symbol_known symbol.Comma = refl
symbol_known symbol.Semi = refl
symbol_known symbol.Colon = refl
symbol_known symbol.Dot = refl
symbol_known symbol.Question = refl
symbol_known symbol.Is = refl
symbol_known symbol.Equal = refl
symbol_known symbol.Differs = refl
symbol_known symbol.Less = refl
symbol_known symbol.AtMost = refl
symbol_known symbol.Greater = refl
symbol_known symbol.AtLeast = refl
symbol_known symbol.Plus = refl
symbol_known symbol.Minus = refl
symbol_known symbol.Star = refl
symbol_known symbol.Slash = refl
symbol_known symbol.Percent = refl
symbol_known symbol.Arrow = refl

same_token : (t u : Token) → (let o : Option Token = Some t in o) ≡ Some u → t ≡ u
same_token t u e = cc

-- a kind that is a word's or a symbol's says the whole token
pub token_known : (t u : Token) → token_of (kind t) ≡ Some u → t ≡ u
token_known (token.Name text) u e = absurd (cc)
token_known (token.Number n) u e = absurd (cc)
token_known (token.Quoted text) u e = absurd (cc)
token_known (token.Word w) u e = same_token (token.Word w) u (sym (word_known w) ∙ e)
token_known (token.Symbol s) u e = same_token (token.Symbol s) u (sym (symbol_known s) ∙ e)
