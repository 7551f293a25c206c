use Rattle.std.proofs.Common.{◌≡◌, ap, ◌∙◌, subst}
use Rattle.std.specs.Prelude.{IfOk, string_bytes}
use Rattle.serde_json.specs.Written.{has_float, compact_text}
use Rattle.wc_json.specs.Writing.{json_text}
use Rattle.wc_json.proofs.Contents.{reads}
use Rattle.wc_json.proofs.Wholes.{whole}
use Rattle.wc_json.proofs.writing.to_json.Goals as goal

pub returns-clause-text : goal.returns-clause-text
returns-clause-text c =
    let v = c.args.value.now in
    let written : string_bytes c.in_ok-text.text ≡ json_text v = c.in_ok-text.ensures.text (ap has_float c.in_ok-json.ensures ∙ whole v) ∙ ap compact_text c.in_ok-json.ensures in
    subst (λ z. IfOk c.of_string.result (λ text. text ≡ z)) written c.of_string.ensures

pub returns-clause-reads_back : goal.returns-clause-reads_back
returns-clause-reads_back c = reads _ _ _ _ c.of_string.ensures c.in_ok-json.ensures c.in_ok-text.ensures.reads_back
