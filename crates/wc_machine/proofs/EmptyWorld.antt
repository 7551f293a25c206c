-- The empty world is sound.
use Rattle.std.proofs.Common.{[], arith}
use Rattle.std.proofs.lemmas.List.Elements.{All-nil}
use Rattle.wc_world.specs.World.{empty}
use Rattle.wc_world.specs.Accepted.{nothing}
use Rattle.wc_world.specs.Consistent.{IsConsistent}
use Rattle.wc_world.proofs.ReachedWorlds.{reached_is_consistent}
use Rattle.wc_machine.specs.Sound.{GoesUp, IsSound}
use Rattle.wc_machine.proofs.Upward.{upward_is_acyclic}

empty_is_consistent : IsConsistent empty
empty_is_consistent = reached_is_consistent empty nothing

pub empty_is_sound : IsSound empty
empty_is_sound = record {
  consistent = empty_is_consistent;
  libraries = λ i d lt. absurd (omega arith);
  links = empty_is_consistent.links;
  acyclic = upward_is_acyclic [] (All-nil GoesUp);
  upward = All-nil GoesUp;
  created = record {
    one_creator = λ i j l m p. absurd (cc p);
    live = λ i d lt. absurd (omega arith);
    ended = λ i d lt. absurd (omega arith);
  };
  sources = λ i d lt. absurd (omega arith);
  records = λ i d lt. absurd (omega arith);
  placed = λ i d lt. absurd (omega arith);
  calls = λ i d lt. absurd (omega arith);
  awaits = λ i d lt. absurd (omega arith);
  names = λ i d lt. absurd (omega arith);
  live = λ i d lt. absurd (omega arith);
  ended = λ i d lt. absurd (omega arith);
  fuel = omega arith;
  few = λ i d lt. absurd (omega arith);
}
