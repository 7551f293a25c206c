-- A reply is what a check of the world replies.
use Rattle.std.proofs.Common.{◌≡◌, sym, subst}
use Rattle.std.specs.Prelude.{Result, Ok, Err, IfOk}
use Rattle.wc_world.specs.World.{World}
use Rattle.wc_plan.specs.declared.reply.Reply.{Reply}
use Rattle.wc_act.specs.Views.{Verifies}

pub replied : {E : Type 0} (w : World) (r : Result Reply E) (x : Reply) → IfOk r (λ y. y ≡ x) → Verifies w x → IfOk r (Verifies w)
replied w (Ok y) x p v = subst (Verifies w) (sym p) v
replied w (Err e) x p v = tt
