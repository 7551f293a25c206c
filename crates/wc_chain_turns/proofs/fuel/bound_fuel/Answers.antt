use Rattle.std.proofs.Common.{◌≡◌, ℕ, ◌+◌, ◌<◌, ◌^◌, List, sym, ap, ◌∙◌, arith}
use Rattle.std.proofs.lemmas.List.{drop_all}
use Rattle.wc_state.specs.declared.record.Await.{Await}
use Rattle.wc_machine.specs.Calls.{fuel_of}
use Rattle.wc_machine.specs.Tasks.{saturated}
use Rattle.wc_chain_turns.proofs.fuel.bound_fuel.Goals as goal

-- a sum that fits is what it is when nothing is added
whole : (sum : ℕ) → sum < 2 ^ 64 → sum ≡ saturated (sum + 0)
whole sum h = omega arith

pub returns : goal.returns
returns c =
    let records = c.args.world.now.world.records in
    let items : List Await = c.as_slice-awaited-items.result.now in
    whole c.loop-awaited.sum c.loop-awaited.invariant.fits
    ∙ ap (λ (as' : List Await). saturated (c.loop-awaited.sum + fuel_of records as')) (sym (drop_all c.loop-awaited.awaited-index items c.loop-awaited-test.false))
    ∙ c.loop-awaited.invariant.sum
    ∙ ap (λ (as' : List Await). saturated (c.args.fuel + fuel_of records as')) c.as_slice-awaited-items.ensures
