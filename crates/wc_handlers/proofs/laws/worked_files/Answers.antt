use Rattle.std.proofs.Common.{refl, codes, pos}
use Rattle.toml.specs.Data.{string, integer, no_members, member}
use Rattle.wc_lexer.specs.Spellings.{word_of}
use Rattle.wc_handlers.specs.Examples.{safe_file, bare_file, unnamed_file, torn_file}
use Rattle.wc_handlers.proofs.Examples.{is_text, less, named, handled, safe_parsed, bare_parsed, unnamed_parsed, torn_parsed, garbled_parsed}
use Rattle.wc_handlers.proofs.Read.{of_table, not_toml}
use Rattle.wc_handlers.proofs.laws.worked_files.Goals as goal

pub returns-clause-handled : goal.returns-clause-handled
unfolding word_of
returns-clause-handled c = of_table safe_file (handled (less no_members)) (is_text safe_file refl) safe_parsed

pub returns-clause-bare : goal.returns-clause-bare
unfolding word_of
returns-clause-bare c = of_table bare_file (member (codes "max") (integer (pos 1)) named) (is_text bare_file refl) bare_parsed

pub returns-clause-unnamed : goal.returns-clause-unnamed
unfolding word_of
returns-clause-unnamed c =
    of_table unnamed_file (member (codes "named") (string (codes "safe")) (member (codes "of") (string (codes "double")) no_members)) (is_text unnamed_file refl) unnamed_parsed

pub returns-clause-torn : goal.returns-clause-torn
unfolding word_of
returns-clause-torn c = of_table torn_file (handled (member (codes "abort") (integer (pos 310)) (less no_members))) (is_text torn_file refl) torn_parsed

pub returns-clause-garbled : goal.returns-clause-garbled
returns-clause-garbled c = not_toml (codes "name") (λ u. garbled_parsed)
