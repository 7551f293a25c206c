use Rattle.std.proofs.Common.{◌∙◌, ◌++◌, ap, List, ℕ}
use Rattle.wc_disk.proofs.Replaying.{copy_is_image}
use Rattle.wc_disk.proofs.tape.Tape.image.Goals as goal

pub returns-clause-left : goal.returns-clause-left
returns-clause-left c =
    copy_is_image c.args.pick _ _ _ _ _ _ c.bytes.ensures.value c.as_slice.ensures
    (c.in_ok-extend.ensures.ok ∙ ap (λ (l : List ℕ). l ++ c.deref.result.now) c.new-image.ensures ∙ c.deref.ensures.value) c.in_ok-bytes.ensures
