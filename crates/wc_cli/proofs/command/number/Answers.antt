use Rattle.std.proofs.Common.{◌≡◌, ◌∙◌, List, ℕ, slice_index, subst}
use Rattle.wc_cli.proofs.Amounts.{reads}
use Rattle.wc_cli.proofs.command.number.Goals as goal

abbrev Other : List ℕ → Type 0
Other bytes = slice_index bytes 0 ≡ 43 → ⊥

pub returns : goal.returns
returns c =
    let other : Other c.args.text.now = subst Other c.as_bytes-bytes.ensures.value c.if-bytes-eq43.false in
    c.ok.ensures.value ∙ reads c.args.text.now c.parse.result other c.parse.ensures.value.0
