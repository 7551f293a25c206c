use Rattle.std.proofs.Common.{◌∙◌, ◌++◌, ◌∷◌, [], ap, List, ℕ, append_assoc}
use Rattle.wc_journal.specs.Frame.{heading, framed}
use Rattle.wc_journal.specs.Batches.{payload_of}
use Rattle.wc_journal.proofs.Writing.{heading_front}
use Rattle.wc_journal.proofs.calls.one_batch.Goals as goal

pub returns : goal.returns
returns c =
    let front = c.split_at.ensures.front ∙ heading_front _ c.args.generation c.heading_and_gate-header.ensures in
    let batch = c.bytes-2.ensures.value ∙ ap (λ (v : ℕ). framed v c.args.batch.now.snapshot (payload_of c.args.batch.now)) c.requires in
    c.in_ok-extend_from_slice-2.ensures.items
    ∙ ap (λ (l : List ℕ). l ++ c.bytes-2.result.now) (c.in_ok-push.ensures.items ∙ ap (λ (l : List ℕ). l ++ 1 ∷ []) (c.in_ok-extend_from_slice.ensures.items ∙ (λ i. c.in_ok-bytes.ensures.items i ++ front i)))
    ∙ append_assoc (heading 2 c.args.generation) (1 ∷ []) c.bytes-2.result.now ∙ ap (λ (l : List ℕ). heading 2 c.args.generation ++ 1 ∷ l) batch
