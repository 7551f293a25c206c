use Rattle.std.proofs.Common.{List, ℕ, subst, ◌∙◌}
use Rattle.wc_keys.specs.Order.{IsPartOf}
use Rattle.wc_world.specs.Keys.{digest_at}
use Rattle.wc_cache.proofs.lookup.find_lowest.Goals as goal

pub find_among-requires : goal.find_among-requires
find_among-requires c =
    let w = c.args.world.now.world in
    subst (λ (d : List ℕ). IsPartOf (digest_at w) d c.in-Some.seals.now) (c.as_slice.ensures ∙ c.digest_of-digest.ensures) c.in-Some.ensures.part
