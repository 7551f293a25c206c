use Rattle.std.proofs.Common.{◌≡◌, true, List, [], length, refl, sym, ap, subst, arith}
use Rattle.wc_keys.specs.declared.entries.Sealed.{Sealed}
use Rattle.wc_world.specs.World.{World, empty}
use Rattle.wc_world.specs.Accepted.{IsReached, nothing}
use Rattle.wc_world.specs.Applying.{world_of}
use Rattle.wc_world.specs.Digested.{AreMade}
use Rattle.wc_world.proofs.world.World.new.Goals as goal

nothing_sealed : AreMade true empty []
nothing_sealed = record { order = tt; exact = λ digest pid. refl }

pub invariant_of-result : goal.invariant_of-result
invariant_of-result c =
    let w = world_of c.new.result c.new-2.result c.new-3.result 0 in
    let e : empty ≡ w =
    λ i. record { nodes = sym c.new.ensures.nodes i; links = sym c.new.ensures.links i; records = sym c.new-2.ensures i; libraries = sym c.new-3.ensures i; batches = 0 } in (
      subst IsReached e nothing,
      subst (λ (seals : List Sealed). AreMade true w seals) (sym c.new-4.ensures) (subst (λ (v : World). AreMade true v []) e nothing_sealed),
      omega (arith, ap length c.new-2.ensures),
    )
