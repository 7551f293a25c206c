use Rattle.std.proofs.Common.{◌≡◌, drop}
use denote.Shadow.{shadow}
use denote.Text.{Utf8}
use Rattle.wc_expression.specs.Texts.{pieces}
use Rattle.wc_expression.proofs.texts.find_line.Given as goal

abbrev pub invariant-loop-piece : goal.invariant-loop-piece
invariant-loop-piece l = record {
  utf8 : shadow (Utf8 l.rest);
  rest : pieces l.rest ≡ drop l._piece (pieces l.text);
}
