use Rattle.std.proofs.Common.{◌≡◌, ◌≤◌, ◌+◌, ℕ, true, false, List, length, get_or, sym, ap, ◌∙◌, subst, arith}
use Rattle.wc_matches.specs.Numbers.{AreNumbers}
use Rattle.wc_matches.proofs.Masked.{ends_inside}
use Rattle.wc_matches.proofs.ways.way_of.Goals as goal

pub masks_of-requires-clause-inside : goal.masks_of-requires-clause-inside
masks_of-requires-clause-inside c =
    let set = c.args.set.now in
    let count : c.len.result ≡ length c.args.graph.now.nodes = c.len.ensures.value ∙ ap (λ v. length v.0) c.nodes.ensures.value in
    let fit : length set ≤ length c.args.graph.now.nodes + 1 = omega (arith, c.if-set-len.false, count) in
    ends_inside set c.deref.result.now (length c.args.graph.now.nodes + 1)
    (subst (λ (xs : List ℕ). AreNumbers (λ m. get_or set m false ≡ true) xs) (sym c.deref.ensures.value) c.in_ok-ends.ensures) fit
