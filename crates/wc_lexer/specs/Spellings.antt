-- How the words and signs are spelled.
use Rattle.std.specs.Prelude.{ℕ, List, [], ◌∷◌, Option, codes, nat_eq, find}
use Rattle.std.specs.List.{starts_with}
use Rattle.std.specs.Str.{bytes_eq}
use Rattle.wc_lexer.specs.declared.token.Word.{Word}
use Rattle.wc_lexer.specs.declared.token.Word.TheVariants as word
use Rattle.wc_lexer.specs.declared.token.Symbol.{Symbol}
use Rattle.wc_lexer.specs.declared.token.Symbol.TheVariants as symbol

-- how each reserved word is spelled
abbrev pub word_text : Word → List ℕ
word_text word.Calcfunction = codes "calcfunction"
word_text word.Calcjob = codes "calcjob"
word_text word.Workchain = codes "workchain"
word_text word.Program = codes "program"
word_text word.Arg = codes "arg"
word_text word.File = codes "file"
word_text word.Fetch = codes "fetch"
word_text word.Parse = codes "parse"
word_text word.Int = codes "int"
word_text word.Bool = codes "bool"
word_text word.Text = codes "text"
word_text word.List = codes "list"
word_text word.Dict = codes "dict"
word_text word.Folder = codes "folder"
word_text word.ExitCode = codes "exit_code"
word_text word.Invalidates = codes "invalidates"
word_text word.Let = codes "let"
word_text word.Out = codes "out"
word_text word.Exit = codes "exit"
word_text word.If = codes "if"
word_text word.Step = codes "step"
word_text word.Elif = codes "elif"
word_text word.Else = codes "else"
word_text word.While = codes "while"
word_text word.Return = codes "return"
word_text word.Ctx = codes "ctx"
word_text word.Call = codes "call"
word_text word.To = codes "to"
word_text word.Append = codes "append"
word_text word.Or = codes "or"
word_text word.And = codes "and"
word_text word.Not = codes "not"
word_text word.True = codes "true"
word_text word.False = codes "false"
word_text word.Inputs = codes "inputs"
word_text word.Trim = codes "trim"
word_text word.Len = codes "len"
word_text word.Get = codes "get"
word_text word.Has = codes "has"
word_text word.Line = codes "line"
word_text word.Contains = codes "contains"
word_text word.Min = codes "min"
word_text word.Max = codes "max"
word_text word.Given = codes "given"
word_text word.Count = codes "count"
word_text word.Outputs = codes "outputs"
word_text word.Status = codes "status"
word_text word.Ok = codes "ok"

-- how each sign is spelled
abbrev pub symbol_text : Symbol → List ℕ
symbol_text symbol.OpenBrace = codes "{"
symbol_text symbol.CloseBrace = codes "}"
symbol_text symbol.Open = codes "("
symbol_text symbol.Close = codes ")"
symbol_text symbol.OpenSquare = codes "["
symbol_text symbol.CloseSquare = codes "]"
symbol_text symbol.Comma = codes ","
symbol_text symbol.Semi = codes ";"
symbol_text symbol.Colon = codes ":"
symbol_text symbol.Dot = codes "."
symbol_text symbol.Question = codes "?"
symbol_text symbol.Is = codes "="
symbol_text symbol.Equal = codes "=="
symbol_text symbol.Differs = codes "!="
symbol_text symbol.Less = codes "<"
symbol_text symbol.AtMost = codes "<="
symbol_text symbol.Greater = codes ">"
symbol_text symbol.AtLeast = codes ">="
symbol_text symbol.Plus = codes "+"
symbol_text symbol.Minus = codes "-"
symbol_text symbol.Star = codes "*"
symbol_text symbol.Slash = codes "/"
symbol_text symbol.Percent = codes "%"
symbol_text symbol.Arrow = codes "->"

-- all words of the language
abbrev pub words : List Word
words =
    word.Calcfunction ∷ word.Calcjob ∷ word.Workchain ∷ word.Program ∷ word.Arg ∷ word.File ∷ word.Fetch ∷ word.Parse ∷ word.Int ∷ word.Bool ∷ word.Text ∷ word.List ∷ word.Dict ∷ word.Folder ∷ word.ExitCode ∷ word.Invalidates ∷ word.Let ∷ word.Out ∷ word.Exit ∷ word.If ∷ word.Step ∷ word.Elif ∷ word.Else ∷ word.While ∷ word.Return ∷ word.Ctx ∷ word.Call ∷ word.To ∷ word.Append ∷ word.Or ∷ word.And ∷ word.Not ∷ word.True ∷ word.False ∷ word.Inputs ∷ word.Trim ∷ word.Len ∷ word.Get ∷ word.Has ∷ word.Line ∷ word.Contains ∷ word.Min ∷ word.Max ∷ word.Given ∷ word.Count ∷ word.Outputs ∷ word.Status ∷ word.Ok ∷ []

-- the signs, longer ones first
abbrev pub symbols : List Symbol
symbols =
    symbol.Equal ∷ symbol.Differs ∷ symbol.AtMost ∷ symbol.AtLeast ∷ symbol.Arrow ∷ symbol.OpenBrace ∷ symbol.CloseBrace ∷ symbol.Open ∷ symbol.Close ∷ symbol.OpenSquare ∷ symbol.CloseSquare ∷ symbol.Comma ∷ symbol.Semi ∷ symbol.Colon ∷ symbol.Dot ∷ symbol.Question ∷ symbol.Is ∷ symbol.Less ∷ symbol.Greater ∷ symbol.Plus ∷ symbol.Minus ∷ symbol.Star ∷ symbol.Slash ∷ symbol.Percent ∷ []

-- the first of the words that is spelled by these letters
abbrev pub word_among : List Word → List ℕ → Option Word
word_among ws letters = find (λ w. bytes_eq (word_text w) letters) ws

-- the first of the signs that the bytes begin with
abbrev pub symbol_among : List Symbol → List ℕ → Option Symbol
symbol_among ss bytes = find (λ s. starts_with nat_eq bytes (symbol_text s)) ss

-- the reserved word of these letters
unfoldable pub word_of : List ℕ → Option Word
word_of letters = word_among words letters

-- the longest sign that the bytes begin with
unfoldable pub symbol_of : List ℕ → Option Symbol
symbol_of bytes = symbol_among symbols bytes
