use Rattle.std.proofs.Common.{◌∙◌, ap, subst}
use Rattle.wc_check.specs.Signed.{IsSignature}
use Rattle.wc_check.proofs.Signing.{put_signed}
use Rattle.wc_check.proofs.calls.put_signature.Goals as goal

pub returns : goal.returns
returns c = λ library all.
    put_signed c.args.signatures.now c.insert.new.self c.in_ok-name.name c.in_ok-signature.signature c.args.definition.now library c.in_ok-insert.ensures.entries
    (c.in_ok-name.ensures.items ∙ c.bytes.ensures.value ∙ ap (λ h. h.name.text) c.head_of-head.ensures)
    (subst (IsSignature c.in_ok-signature.signature) (c.as_slice.ensures ∙ ap (λ h. h.inputs) c.head_of-head.ensures) c.in_ok-signature.ensures)
    all
