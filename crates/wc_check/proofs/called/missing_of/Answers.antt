use Rattle.std.proofs.Common.{◌∙◌, ap, sym, map}
use Rattle.std.specs.Prelude.{flat_map}
use Rattle.wc_syntax.specs.Findings.{is_among, missing_port, called_ports}
use Rattle.wc_check.specs.Flat.{behind}
use Rattle.wc_check.specs.Least.{least_after}
use Rattle.wc_check.proofs.Signing.{missing_skipped, missing_some}
use Rattle.wc_check.proofs.called.missing_of.Goals as goal

pub returns-then-is_before : goal.returns-then-is_before
returns-then-is_before c =
    missing_skipped c.args.call.now c.in-Some.signature.now (called_ports c.args.signatures.now c.args.call.now) c.args.best.now c.in-Some.ensures (sym c.is_before.ensures ∙ c.if-is_before.true)

pub returns-in_ok-given-in-Some : goal.returns-in_ok-given-in-Some
returns-in_ok-given-in-Some c =
    missing_some c.args.call.now c.in-Some.signature.now (called_ports c.args.signatures.now c.args.call.now) c.in_ok-given-in-Some.given c.args.best.now c.missing_among.new.best c.in-Some.ensures
    (λ m. c.in_ok-given-in-Some.ensures m ∙ ap (λ args. is_among m (map (λ a. a.port.text) args)) c.as_slice.ensures)
    (c.missing_among.ensures ∙ ap (λ rs. least_after c.args.best.now (flat_map (missing_port c.in_ok-given-in-Some.given c.args.call.now.at) (behind rs))) c.as_slice-in-Some.ensures.value)
