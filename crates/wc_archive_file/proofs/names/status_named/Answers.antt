use Rattle.std.proofs.Common.{◌∙◌}
use Rattle.wc_archive_file.proofs.Named.{no_digits, other_digits}
use Rattle.wc_archive_file.proofs.names.status_named.Goals as goal

pub returns-in-Ok : goal.returns-in-Ok
returns-in-Ok c =
    other_digits c.args.digits.now c.parse.result c.in-Ok.status c.parse.ensures.value.0 c.in-Ok.is
    (λ e. let same = c.is_same.ensures.1 (c.as_str.ensures.value ∙ c.in_ok-again-in-Ok.ensures.ok ∙ e) in let differ = c.if-is_same.false in cc)

pub returns : goal.returns
returns c = no_digits c.args.digits.now c.parse.result _ c.parse.ensures.value.0 c.in-Err.is
