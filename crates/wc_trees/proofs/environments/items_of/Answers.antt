use Rattle.std.proofs.Common.{◌≡◌, ◌∷◌, [], ◌++◌, Some, sym, ap, ◌∙◌}
use Rattle.std.specs.Prelude.{List, ℕ, slice_get}
use Rattle.std.specs.Option.{option_map}
use Rattle.wc_state.specs.Context.{with_set}
use Rattle.wc_trees.proofs.Names.{set_next, names_next}
use Rattle.wc_world.proofs.RecordedEnvironments.{Held, item_taken, item_lacks}
use Rattle.wc_trees.proofs.environments.items_of.Goals as goal

pub returns-in_default : goal.returns-in_default
returns-in_default c =
    let e : Held = (c.unwrap.result.0.now, c.unwrap.result.1.now) in
    let read : slice_get c.args.ctx.now c.loop-at.at ≡ Some e = sym c.get.ensures ∙ ap (option_map (λ p. (p.0.now, p.1.now))) c.unwrap.ensures in
    item_lacks c.args.world.now.world c.args.ctx.now c.loop-at.at e read c.loop-at.items (sym c.in_default.is ∙ c.in_ok-item.ensures) ∙ c.loop-at.invariant.0

pub loop-at-preserved : goal.loop-at-preserved
loop-at-preserved c =
    let e : Held = (c.unwrap.result.0.now, c.unwrap.result.1.now) in
    let read : slice_get c.args.ctx.now c.loop-at.at ≡ Some e = sym c.get.ensures ∙ ap (option_map (λ p. (p.0.now, p.1.now))) c.unwrap.ensures in
    let set : c.set.new.self ≡ c.loop-at.items ++ (e.0, c.in-Some.item) ∷ [] =
    c.in_ok-_before.ensures.ok ∙ ap (λ (key : List ℕ). with_set c.loop-at.items key c.in-Some.item) c.in_ok-copy.ensures
    ∙ set_next c.loop-at.items c.args.ctx.now c.loop-at.at e c.in-Some.item c.loop-at.invariant.1 c.len-at-end.ensures.differ read in (
      item_taken c.args.world.now.world c.args.ctx.now c.loop-at.at e read c.loop-at.items _ c.in-Some.item (sym c.in-Some.is ∙ c.in_ok-item.ensures) set ∙ c.loop-at.invariant.0,
      names_next c.loop-at.items c.set.new.self c.args.ctx.now c.loop-at.at e c.in-Some.item c.loop-at.invariant.1 read set,
    )
