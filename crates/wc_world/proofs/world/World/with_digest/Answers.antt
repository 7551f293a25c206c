use Rattle.std.proofs.Common.{sym, subst}
use Rattle.wc_keys.specs.Order.{IsPartOf}
use Rattle.wc_keys.proofs.Parts.{parts_are_exact}
use Rattle.wc_world.specs.Room.{Holding}
use Rattle.wc_world.specs.Applying.{world_of}
use Rattle.wc_world.specs.Keys.{digest_at}
use Rattle.wc_world.proofs.Making.{made_all}
use Rattle.wc_world.proofs.world.World.with_digest.Goals as goal

pub returns-then-self-clause-part : goal.returns-then-self-clause-part
returns-then-self-clause-part c =
    let i = c.self.inside in
    let w = world_of i.graph i.records i.libraries i.batches in
    let digest = c.args.digest.now in
    subst (λ (h : Holding). IsPartOf (digest_at h.world) digest c.part.result.now) c.self.view_is
    (subst (IsPartOf (digest_at w) digest) (sym c.part.ensures.part) (parts_are_exact (digest_at w) i.seals.0 digest (made_all i.digested (digest_at w) i.seals.0 c.if-self.true c.self.invariant.1)))
