-- Names of definitions.
use Rattle.std.specs.Prelude.{ℕ, Bool, ◌&&◌, List, length, nat_le, is_none}
use Rattle.wc_lexer.specs.Cuts.{is_letters}
use Rattle.wc_lexer.specs.Spellings.{word_of}

-- at most 64 bytes: a letter or `_`, then letters, digits and `_`; and no reserved word
abbrev pub is_name : List ℕ → Bool
is_name name = nat_le (length name) 64 && (is_letters name && is_none (word_of name))
