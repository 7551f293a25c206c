-- A number for each kind of token.
use Rattle.std.specs.Prelude.{ℕ}
use Rattle.wc_lexer.specs.declared.token.Token.{Token}
use Rattle.wc_lexer.specs.declared.token.Token.TheVariants as token
use Rattle.wc_lexer.specs.declared.token.Word.{Word}
use Rattle.wc_lexer.specs.declared.token.Word.TheVariants as word
use Rattle.wc_lexer.specs.declared.token.Symbol.{Symbol}
use Rattle.wc_lexer.specs.declared.token.Symbol.TheVariants as symbol

-- the number of a name as a kind of token
abbrev pub K_NAME : ℕ
K_NAME = 0

-- the number of a number as a kind of token
abbrev pub K_NUMBER : ℕ
K_NUMBER = 1

-- the number of a text in quotes as a kind of token
abbrev pub K_QUOTED : ℕ
K_QUOTED = 2

-- the number of the sign `{` as a kind of token
abbrev pub S_OPEN_BRACE : ℕ
S_OPEN_BRACE = 3

-- the number of the sign `}` as a kind of token
abbrev pub S_CLOSE_BRACE : ℕ
S_CLOSE_BRACE = 4

-- the number of the sign `(` as a kind of token
abbrev pub S_OPEN : ℕ
S_OPEN = 5

-- the number of the sign `)` as a kind of token
abbrev pub S_CLOSE : ℕ
S_CLOSE = 6

-- the number of the sign `[` as a kind of token
abbrev pub S_OPEN_SQUARE : ℕ
S_OPEN_SQUARE = 7

-- the number of the sign `]` as a kind of token
abbrev pub S_CLOSE_SQUARE : ℕ
S_CLOSE_SQUARE = 8

-- the number of the sign `,` as a kind of token
abbrev pub S_COMMA : ℕ
S_COMMA = 9

-- the number of the sign `;` as a kind of token
abbrev pub S_SEMI : ℕ
S_SEMI = 10

-- the number of the sign `:` as a kind of token
abbrev pub S_COLON : ℕ
S_COLON = 11

-- the number of the sign `.` as a kind of token
abbrev pub S_DOT : ℕ
S_DOT = 12

-- the number of the sign `?` as a kind of token
abbrev pub S_QUESTION : ℕ
S_QUESTION = 13

-- the number of the sign `=` as a kind of token
abbrev pub S_IS : ℕ
S_IS = 14

-- the number of the sign `==` as a kind of token
abbrev pub S_EQUAL : ℕ
S_EQUAL = 15

-- the number of the sign `!=` as a kind of token
abbrev pub S_DIFFERS : ℕ
S_DIFFERS = 16

-- the number of the sign `<` as a kind of token
abbrev pub S_LESS : ℕ
S_LESS = 17

-- the number of the sign `<=` as a kind of token
abbrev pub S_AT_MOST : ℕ
S_AT_MOST = 18

-- the number of the sign `>` as a kind of token
abbrev pub S_GREATER : ℕ
S_GREATER = 19

-- the number of the sign `>=` as a kind of token
abbrev pub S_AT_LEAST : ℕ
S_AT_LEAST = 20

-- the number of the sign `+` as a kind of token
abbrev pub S_PLUS : ℕ
S_PLUS = 21

-- the number of the sign `-` as a kind of token
abbrev pub S_MINUS : ℕ
S_MINUS = 22

-- the number of the sign `*` as a kind of token
abbrev pub S_STAR : ℕ
S_STAR = 23

-- the number of the sign `/` as a kind of token
abbrev pub S_SLASH : ℕ
S_SLASH = 24

-- the number of the sign `%` as a kind of token
abbrev pub S_PERCENT : ℕ
S_PERCENT = 25

-- the number of the sign `->` as a kind of token
abbrev pub S_ARROW : ℕ
S_ARROW = 26

-- the number of the word `calcfunction` as a kind of token
abbrev pub W_CALCFUNCTION : ℕ
W_CALCFUNCTION = 27

-- the number of the word `calcjob` as a kind of token
abbrev pub W_CALCJOB : ℕ
W_CALCJOB = 28

-- the number of the word `workchain` as a kind of token
abbrev pub W_WORKCHAIN : ℕ
W_WORKCHAIN = 29

-- the number of the word `program` as a kind of token
abbrev pub W_PROGRAM : ℕ
W_PROGRAM = 30

-- the number of the word `arg` as a kind of token
abbrev pub W_ARG : ℕ
W_ARG = 31

-- the number of the word `file` as a kind of token
abbrev pub W_FILE : ℕ
W_FILE = 32

-- the number of the word `fetch` as a kind of token
abbrev pub W_FETCH : ℕ
W_FETCH = 33

-- the number of the word `parse` as a kind of token
abbrev pub W_PARSE : ℕ
W_PARSE = 34

-- the number of the word `int` as a kind of token
abbrev pub W_INT : ℕ
W_INT = 35

-- the number of the word `bool` as a kind of token
abbrev pub W_BOOL : ℕ
W_BOOL = 36

-- the number of the word `text` as a kind of token
abbrev pub W_TEXT : ℕ
W_TEXT = 37

-- the number of the word `list` as a kind of token
abbrev pub W_LIST : ℕ
W_LIST = 38

-- the number of the word `dict` as a kind of token
abbrev pub W_DICT : ℕ
W_DICT = 39

-- the number of the word `folder` as a kind of token
abbrev pub W_FOLDER : ℕ
W_FOLDER = 40

-- the number of the word `exit_code` as a kind of token
abbrev pub W_EXIT_CODE : ℕ
W_EXIT_CODE = 41

-- the number of the word `invalidates` as a kind of token
abbrev pub W_INVALIDATES : ℕ
W_INVALIDATES = 42

-- the number of the word `let` as a kind of token
abbrev pub W_LET : ℕ
W_LET = 43

-- the number of the word `out` as a kind of token
abbrev pub W_OUT : ℕ
W_OUT = 44

-- the number of the word `exit` as a kind of token
abbrev pub W_EXIT : ℕ
W_EXIT = 45

-- the number of the word `if` as a kind of token
abbrev pub W_IF : ℕ
W_IF = 46

-- the number of the word `step` as a kind of token
abbrev pub W_STEP : ℕ
W_STEP = 47

-- the number of the word `elif` as a kind of token
abbrev pub W_ELIF : ℕ
W_ELIF = 48

-- the number of the word `else` as a kind of token
abbrev pub W_ELSE : ℕ
W_ELSE = 49

-- the number of the word `while` as a kind of token
abbrev pub W_WHILE : ℕ
W_WHILE = 50

-- the number of the word `return` as a kind of token
abbrev pub W_RETURN : ℕ
W_RETURN = 51

-- the number of the word `ctx` as a kind of token
abbrev pub W_CTX : ℕ
W_CTX = 52

-- the number of the word `call` as a kind of token
abbrev pub W_CALL : ℕ
W_CALL = 53

-- the number of the word `to` as a kind of token
abbrev pub W_TO : ℕ
W_TO = 54

-- the number of the word `append` as a kind of token
abbrev pub W_APPEND : ℕ
W_APPEND = 55

-- the number of the word `or` as a kind of token
abbrev pub W_OR : ℕ
W_OR = 56

-- the number of the word `and` as a kind of token
abbrev pub W_AND : ℕ
W_AND = 57

-- the number of the word `not` as a kind of token
abbrev pub W_NOT : ℕ
W_NOT = 58

-- the number of the word `true` as a kind of token
abbrev pub W_TRUE : ℕ
W_TRUE = 59

-- the number of the word `false` as a kind of token
abbrev pub W_FALSE : ℕ
W_FALSE = 60

-- the number of the word `inputs` as a kind of token
abbrev pub W_INPUTS : ℕ
W_INPUTS = 61

-- the number of the word `trim` as a kind of token
abbrev pub W_TRIM : ℕ
W_TRIM = 62

-- the number of the word `len` as a kind of token
abbrev pub W_LEN : ℕ
W_LEN = 63

-- the number of the word `get` as a kind of token
abbrev pub W_GET : ℕ
W_GET = 64

-- the number of the word `has` as a kind of token
abbrev pub W_HAS : ℕ
W_HAS = 65

-- the number of the word `line` as a kind of token
abbrev pub W_LINE : ℕ
W_LINE = 66

-- the number of the word `contains` as a kind of token
abbrev pub W_CONTAINS : ℕ
W_CONTAINS = 67

-- the number of the word `min` as a kind of token
abbrev pub W_MIN : ℕ
W_MIN = 68

-- the number of the word `max` as a kind of token
abbrev pub W_MAX : ℕ
W_MAX = 69

-- the number of the word `given` as a kind of token
abbrev pub W_GIVEN : ℕ
W_GIVEN = 70

-- the number of the word `count` as a kind of token
abbrev pub W_COUNT : ℕ
W_COUNT = 71

-- the number of the word `outputs` as a kind of token
abbrev pub W_OUTPUTS : ℕ
W_OUTPUTS = 72

-- the number of the word `status` as a kind of token
abbrev pub W_STATUS : ℕ
W_STATUS = 73

-- the number of the word `ok` as a kind of token
abbrev pub W_OK : ℕ
W_OK = 74

-- the number of a word as a kind of token
abbrev pub word_kind : Word → ℕ
word_kind word.Calcfunction = W_CALCFUNCTION
word_kind word.Calcjob = W_CALCJOB
word_kind word.Workchain = W_WORKCHAIN
word_kind word.Program = W_PROGRAM
word_kind word.Arg = W_ARG
word_kind word.File = W_FILE
word_kind word.Fetch = W_FETCH
word_kind word.Parse = W_PARSE
word_kind word.Int = W_INT
word_kind word.Bool = W_BOOL
word_kind word.Text = W_TEXT
word_kind word.List = W_LIST
word_kind word.Dict = W_DICT
word_kind word.Folder = W_FOLDER
word_kind word.ExitCode = W_EXIT_CODE
word_kind word.Invalidates = W_INVALIDATES
word_kind word.Let = W_LET
word_kind word.Out = W_OUT
word_kind word.Exit = W_EXIT
word_kind word.If = W_IF
word_kind word.Step = W_STEP
word_kind word.Elif = W_ELIF
word_kind word.Else = W_ELSE
word_kind word.While = W_WHILE
word_kind word.Return = W_RETURN
word_kind word.Ctx = W_CTX
word_kind word.Call = W_CALL
word_kind word.To = W_TO
word_kind word.Append = W_APPEND
word_kind word.Or = W_OR
word_kind word.And = W_AND
word_kind word.Not = W_NOT
word_kind word.True = W_TRUE
word_kind word.False = W_FALSE
word_kind word.Inputs = W_INPUTS
word_kind word.Trim = W_TRIM
word_kind word.Len = W_LEN
word_kind word.Get = W_GET
word_kind word.Has = W_HAS
word_kind word.Line = W_LINE
word_kind word.Contains = W_CONTAINS
word_kind word.Min = W_MIN
word_kind word.Max = W_MAX
word_kind word.Given = W_GIVEN
word_kind word.Count = W_COUNT
word_kind word.Outputs = W_OUTPUTS
word_kind word.Status = W_STATUS
word_kind word.Ok = W_OK

-- the number of a sign as a kind of token
abbrev pub symbol_kind : Symbol → ℕ
symbol_kind symbol.OpenBrace = S_OPEN_BRACE
symbol_kind symbol.CloseBrace = S_CLOSE_BRACE
symbol_kind symbol.Open = S_OPEN
symbol_kind symbol.Close = S_CLOSE
symbol_kind symbol.OpenSquare = S_OPEN_SQUARE
symbol_kind symbol.CloseSquare = S_CLOSE_SQUARE
symbol_kind symbol.Comma = S_COMMA
symbol_kind symbol.Semi = S_SEMI
symbol_kind symbol.Colon = S_COLON
symbol_kind symbol.Dot = S_DOT
symbol_kind symbol.Question = S_QUESTION
symbol_kind symbol.Is = S_IS
symbol_kind symbol.Equal = S_EQUAL
symbol_kind symbol.Differs = S_DIFFERS
symbol_kind symbol.Less = S_LESS
symbol_kind symbol.AtMost = S_AT_MOST
symbol_kind symbol.Greater = S_GREATER
symbol_kind symbol.AtLeast = S_AT_LEAST
symbol_kind symbol.Plus = S_PLUS
symbol_kind symbol.Minus = S_MINUS
symbol_kind symbol.Star = S_STAR
symbol_kind symbol.Slash = S_SLASH
symbol_kind symbol.Percent = S_PERCENT
symbol_kind symbol.Arrow = S_ARROW

-- the number of a token's kind
abbrev pub kind : Token → ℕ
kind (token.Name text) = K_NAME
kind (token.Number value) = K_NUMBER
kind (token.Quoted text) = K_QUOTED
kind (token.Word w) = word_kind w
kind (token.Symbol s) = symbol_kind s
