-- The library of generated chains can be written, and keeps the rules, by computation.
use Rattle.std.proofs.Common.{◌≡◌, ◌≤◌, ℕ, true, List, [], Result, Ok, Err, refl, length, arith}
use Rattle.std.specs.Prelude.{codes}
use Rattle.wc_lexer.specs.declared.error.LexError.{LexError}
use Rattle.wc_lexer.specs.declared.token.Token.{Token}
use Rattle.wc_lexer.specs.Spellings.{word_of, symbol_of}
use Rattle.wc_lexer.specs.Tokens.{tokens_of, token_at, piece_at}
use Rattle.wc_syntax.specs.Printing.{printed, form_text, its_text, instr_level_lines, arm_level_lines, block_level_lines, start_lines}
use Rattle.wc_syntax.specs.Writable.{is_sayable, is_form, its_form, is_instr, is_arm, is_level}
use Rattle.wc_drill.specs.Library.{library, text}
use Rattle.wc_drill.proofs.Folded.{program_folded, argument_folded, read_folded, sum_folded, input_folded, output_folded, outline_folded}

pub sayable : is_sayable library ≡ true
unfolding word_of
sayable =
    rw (
      program_folded is_form its_form,
      argument_folded is_form its_form,
      read_folded is_form its_form,
      sum_folded is_form its_form,
      outline_folded is_instr is_arm is_level,
      input_folded is_form its_form (codes "a"),
      input_folded is_form its_form (codes "b"),
      output_folded is_form its_form (codes "a") (codes "y"),
      output_folded is_form its_form (codes "b") (codes "y"),
      output_folded is_form its_form (codes "t") (codes "s"),
    )
    refl

pub printed_as : printed library ≡ text
unfolding start_lines
printed_as =
    rw (
      program_folded form_text its_text,
      argument_folded form_text its_text,
      read_folded form_text its_text,
      sum_folded form_text its_text,
      outline_folded instr_level_lines arm_level_lines block_level_lines,
      input_folded form_text its_text (codes "a"),
      input_folded form_text its_text (codes "b"),
      output_folded form_text its_text (codes "a") (codes "y"),
      output_folded form_text its_text (codes "b") (codes "y"),
      output_folded form_text its_text (codes "t") (codes "s"),
    )
    refl

abbrev pub tokens_in : Result (List (Token × ℕ)) LexError → List (Token × ℕ)
tokens_in (Ok ts) = ts
tokens_in (Err e) = []

pub cut : tokens_of text ≡ Ok (tokens_in (tokens_of text))
unfolding token_at piece_at word_of symbol_of
cut = refl

pub short : length text ≤ 1048576
short = omega arith
