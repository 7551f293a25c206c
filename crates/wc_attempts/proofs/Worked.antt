-- The example's library keeps the rules, so its chains mean what their attempts come to.
use Rattle.std.proofs.Common.{◌≡◌, refl, subst, [], ◌∷◌, None, arith}
use Rattle.std.specs.Prelude.{codes}
use Rattle.wc_handlers.specs.Specs.{IsHandler, IsSpec}
use Rattle.wc_lexer.specs.Spellings.{word_of}
use Rattle.wc_syntax.specs.Checked.{IsCheckedDefinition, KeepsRules}
use Rattle.wc_syntax.specs.Findings.{long_names, unknown_names}
use Rattle.wc_syntax.specs.Mentions.{form_mentions, its_mentions}
use Rattle.wc_syntax.specs.declared.definition.Definition.TheVariants as definition
use Rattle.wc_syntax.specs.declared.expression.BinaryOp.TheVariants as binary
use Rattle.wc_syntax.specs.declared.expression.Expr.{Expr}
use Rattle.wc_syntax.specs.declared.expression.Form.TheVariants as form
use Rattle.wc_syntax.specs.declared.expression.OneOf.TheVariants as one
use Rattle.wc_syntax.specs.declared.expression.TwoOf.TheVariants as two
use Rattle.wc_value.specs.declared.value.Value.{out-Value}
use Rattle.wc_semantics.specs.Meaning.{meaning}
use Rattle.wc_semantics.specs.Tables.{no_kills, plain}
use Rattle.wc_meaning.specs.Inputs.{bad_input}
use Rattle.wc_restart.proofs.Folded.{bare_folded, joined_folded, negated_folded, numeral_folded, one_folded, quoted_folded, two_folded}
use Rattle.wc_restart.specs.Chains.{expanded}
use Rattle.wc_restart.specs.Examples.{bare, double, less, library, mends, out_txt, spec}
use Rattle.wc_restart.specs.Pieces.{expr, numeral}
use Rattle.wc_restart.specs.Ports.{asked_of}
use Rattle.wc_attempts.specs.Attempts.{finished}
use Rattle.wc_attempts.specs.Examples.{four, nine, rows}
use Rattle.wc_attempts.specs.Laws.{Meets}
use Rattle.wc_attempts.proofs.Attempted.{mended_attempts, spent_attempts, unhandled_attempts}
use Rattle.wc_attempts.proofs.Restarted.{restarts}

-- ---- the library

abbrev folder : Expr
folder = bare (codes "retrieved")

abbrev has_file : Expr
has_file = expr (form.Two two.Has folder out_txt)

abbrev file_text : Expr
file_text = expr (form.Two two.File folder out_txt)

abbrev trimmed : Expr
trimmed = expr (form.One one.Trim file_text)

double_names : unknown_names (definition.Job double) ≡ []
double_names =
    rw (
      one_folded form_mentions its_mentions one.Text (bare (codes "x")),
      one_folded form_mentions its_mentions one.Int trimmed,
      one_folded form_mentions its_mentions one.Trim file_text,
      negated_folded form_mentions its_mentions has_file,
      two_folded form_mentions its_mentions two.Has folder out_txt,
      two_folded form_mentions its_mentions two.File folder out_txt,
      bare_folded form_mentions its_mentions (codes "x"),
      bare_folded form_mentions its_mentions (codes "retrieved"),
      quoted_folded form_mentions its_mentions (codes "double"),
      quoted_folded form_mentions its_mentions (codes "out.txt"),
    ) refl

double_long : long_names (definition.Job double) ≡ []
double_long =
    rw (
      one_folded form_mentions its_mentions one.Text (bare (codes "x")),
      one_folded form_mentions its_mentions one.Int trimmed,
      one_folded form_mentions its_mentions one.Trim file_text,
      negated_folded form_mentions its_mentions has_file,
      two_folded form_mentions its_mentions two.Has folder out_txt,
      two_folded form_mentions its_mentions two.File folder out_txt,
      bare_folded form_mentions its_mentions (codes "x"),
      bare_folded form_mentions its_mentions (codes "retrieved"),
      quoted_folded form_mentions its_mentions (codes "double"),
      quoted_folded form_mentions its_mentions (codes "out.txt"),
    ) refl

double_keeps : IsCheckedDefinition library (definition.Job double)
double_keeps = record {
  ports_differ = refl;
  ports_free = refl;
  statuses_differ = refl;
  files_differ = refl;
  lets_differ = refl;
  names_known = double_names;
  outputs_known = refl;
  callees_known = refl;
  required_given = refl;
  given_known = refl;
  given_once = refl;
  outputs_are_nodes = refl;
  statuses_in_range = refl;
  exits_declared = refl;
  counts = refl;
  names_short = double_long;
  files_named = refl;
}

less_names : unknown_names (definition.Function less) ≡ []
less_names =
    rw (
      joined_folded form_mentions its_mentions binary.Subtract (bare (codes "x")) (numeral 7),
      bare_folded form_mentions its_mentions (codes "x"),
      numeral_folded form_mentions its_mentions 7,
    ) refl

less_long : long_names (definition.Function less) ≡ []
less_long =
    rw (
      joined_folded form_mentions its_mentions binary.Subtract (bare (codes "x")) (numeral 7),
      bare_folded form_mentions its_mentions (codes "x"),
      numeral_folded form_mentions its_mentions 7,
    ) refl

less_keeps : IsCheckedDefinition library (definition.Function less)
less_keeps = record {
  ports_differ = refl;
  ports_free = refl;
  statuses_differ = refl;
  files_differ = refl;
  lets_differ = refl;
  names_known = less_names;
  outputs_known = refl;
  callees_known = refl;
  required_given = refl;
  given_known = refl;
  given_once = refl;
  outputs_are_nodes = refl;
  statuses_in_range = refl;
  exits_declared = refl;
  counts = refl;
  names_short = less_long;
  files_named = refl;
}

keeps : KeepsRules library
keeps = record { differ = refl; few = refl; each = (double_keeps, (less_keeps, tt)) }

-- ---- the specs

mends_is : IsHandler mends
unfolding word_of
mends_is = record { some = omega arith; few = omega arith; statuses = ((omega arith, omega arith), tt); priority = omega arith; remedy = refl }

with_handler : IsSpec (spec 5 (mends ∷ []))
unfolding word_of
with_handler = record { name = refl; job = refl; some = omega arith; few = omega arith; handlers = (mends_is, tt); listed = omega arith }

without_handler : IsSpec (spec 5 [])
unfolding word_of
without_handler = record { name = refl; job = refl; some = omega arith; few = omega arith; handlers = tt; listed = omega arith }

once : IsSpec (spec 1 (mends ∷ []))
unfolding word_of
once = record { name = refl; job = refl; some = omega arith; few = omega arith; handlers = (mends_is, tt); listed = omega arith }

good_nine : bad_input (asked_of (codes "double") library) nine ≡ None
unfolding out-Value denote.Hole.Carrier.out
good_nine = refl

-- ---- the chains

pub mended_chain : Meets (finished 0 four) (meaning 15 (expanded library (spec 5 (mends ∷ []))) (plain rows) no_kills 15 (codes "safe") nine)
mended_chain =
    subst (λ o. Meets o (meaning 15 (expanded library (spec 5 (mends ∷ []))) (plain rows) no_kills 15 (codes "safe") nine)) mended_attempts
    (restarts library (spec 5 (mends ∷ [])) keeps with_handler refl double refl rows 15 15 nine (omega arith) (omega arith) (omega arith) good_nine)

pub unhandled_chain : Meets (finished 402 []) (meaning 15 (expanded library (spec 5 [])) (plain rows) no_kills 15 (codes "safe") nine)
unhandled_chain =
    subst (λ o. Meets o (meaning 15 (expanded library (spec 5 [])) (plain rows) no_kills 15 (codes "safe") nine)) unhandled_attempts
    (restarts library (spec 5 []) keeps without_handler refl double refl rows 15 15 nine (omega arith) (omega arith) (omega arith) good_nine)

pub spent_chain : Meets (finished 401 []) (meaning 15 (expanded library (spec 1 (mends ∷ []))) (plain rows) no_kills 3 (codes "safe") nine)
spent_chain =
    subst (λ o. Meets o (meaning 15 (expanded library (spec 1 (mends ∷ []))) (plain rows) no_kills 3 (codes "safe") nine)) spent_attempts
    (restarts library (spec 1 (mends ∷ [])) keeps once refl double refl rows 15 3 nine (omega arith) (omega arith) (omega arith) good_nine)
