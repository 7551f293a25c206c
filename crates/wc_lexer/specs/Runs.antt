-- The kinds of runs that tokens and comments are made of.
use Rattle.std.specs.Prelude.{ℕ, Bool}
use Rattle.std.specs.Char.{is_ascii_digit}
use Rattle.wc_lexer.specs.declared.characters.Run.{Run}
use Rattle.wc_lexer.specs.declared.characters.Run.TheVariants.{Name, Digits, Line}
use Rattle.wc_lexer.specs.Tokens.{is_in_name, is_in_line}

-- whether a byte goes on with a name, a number or a comment
abbrev pub is_in_run : Run → ℕ → Bool
is_in_run Name b = is_in_name b
is_in_run Digits b = is_ascii_digit b
is_in_run Line b = is_in_line b
