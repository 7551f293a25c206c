use Rattle.std.proofs.Common.{◌∙◌, sym, ap}
use Rattle.hex.specs.Hex.{encode_lower}
use Rattle.wc_archive_file.proofs.Digits.{decoded, other_digits, unread}
use Rattle.wc_archive_file.proofs.parts.bytes_in.Goals as goal

pub returns-in_err-bytes : goal.returns-in_err-bytes
returns-in_err-bytes c = unread _ c.from_residual.result _ c.from_residual.ensures c.in_err-bytes.ensures

pub returns-then-is_same : goal.returns-then-is_same
returns-then-is_same c =
    decoded _ _ c.in_ok-bytes.ensures
    (ap encode_lower (sym c.as_slice.ensures.value) ∙ sym c.in_ok-again.ensures ∙ sym c.as_str.ensures.value ∙ c.is_same.ensures.0 c.if-is_same.true)

pub returns-else-is_same : goal.returns-else-is_same
returns-else-is_same c =
    other_digits _ _ c.in_ok-bytes.ensures
    (λ e.
    let same = c.is_same.ensures.1 (c.as_str.ensures.value ∙ c.in_ok-again.ensures ∙ ap encode_lower c.as_slice.ensures.value ∙ e) in
    let differ = c.if-is_same.false in cc)
