use Rattle.std.proofs.Common.{◌≡◌, ◌∙◌, ◌++◌, sym, ap, ℕ, List}
use Rattle.wc_disk.specs.Steps.{overwritten}
use Rattle.wc_disk.specs.Volume.{present, settled, after_calls}
use Rattle.wc_disk.proofs.Times.{replays}
use Rattle.wc_disk.proofs.tape.Tape.write.Goals as goal

pub invariant_of-self-2 : goal.invariant_of-self-2
invariant_of-self-2 c =
    let same : present c.args.self.now.begun c.make_room.new.current ≡ (after_calls c.args.self.now.calls (settled c.args.self.now.begun)).seen
    = c.make_room.ensures.same ∙ c.args.self.now.replayed in
    let copied : c.args.bytes.now ≡ c.extend.new.self = sym (c.in_ok-extend.ensures.ok ∙ ap (λ (l : List ℕ). l ++ c.args.bytes.now) c.new-copy.ensures) in
    record { replayed = replays _ _ _ _ _ c.in_ok-push.ensures.ok (c.put.ensures _ ∙ (λ i. overwritten c.args.at (copied i) (same i))) }
