use Rattle.std.proofs.Common.{◌∙◌, ap, take, ℕ, List}
use Rattle.wc_disk.proofs.Times.{replays}
use Rattle.wc_disk.proofs.tape.Tape.cut.Goals as goal

pub invariant_of-self-2 : goal.invariant_of-self-2
invariant_of-self-2 c = record {
  replayed = replays _ _ _ _ _ c.in_ok-push.ensures.ok (c.shorten.ensures _ ∙ ap (λ (l : List ℕ). take c.args.len l) (c.make_room.ensures.same ∙ c.args.self.now.replayed));
}
