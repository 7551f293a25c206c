use Rattle.std.proofs.Common.{◌∙◌, ◌++◌, ap}
use Rattle.std.proofs.lemmas.Result.{on_ok_weaker}
use Rattle.wc_syntax.specs.Findings.{repeated_ports, reserved_ports, repeated_statuses, repeated_files}
use Rattle.wc_check.specs.Flat.{seen_pieces}
use Rattle.wc_check.specs.Least.{least_after}
use Rattle.wc_check.proofs.Ruled.{findings_all}
use Rattle.wc_check.proofs.findings.findings_among.Goals as goal

pub returns : goal.returns
returns c =
    on_ok_weaker c.misformed_in.result
    (λ h. findings_all c.args.signatures.now c.args.parts.now (seen_pieces c.pieces.result.now) _ _ _ _ _ _ c.pieces.ensures
    (c.in_ok-repeated_in.ensures ∙ ap (λ d. least_after c.args.best.now (repeated_ports d ++ (reserved_ports d ++ (repeated_statuses d ++ repeated_files d)))) c.definition.ensures)
    c.in_ok-unknown_names.ensures c.in_ok-bad_calls.ensures c.in_ok-bad_outputs.ensures h)
    c.misformed_in.ensures
