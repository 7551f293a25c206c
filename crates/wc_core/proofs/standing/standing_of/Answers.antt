use Rattle.std.proofs.Common.{◌≡◌, ◌∙◌, ℕ, List, ne_eqb, sym}
use Rattle.wc_records.proofs.Waiting.{none_live, some_live}
use Rattle.wc_records.specs.Readiness.{live_in}
use Rattle.wc_world.specs.World.{World}
use Rattle.wc_world.proofs.ReachedWorlds.{reached_is_consistent}
use Rattle.wc_core.proofs.NextReady.{none_of, some_of}
use Rattle.wc_core.proofs.Going.{goes_at_once, goes_later, rests}
use Rattle.wc_core.proofs.standing.standing_of.Goals as goal

pub returns-then-live-eq0 : goal.returns-then-live-eq0
returns-then-live-eq0 c = none_live c.args.world.now.world.records (sym c.live.ensures ∙ c.if-live-eq0.true)

pub returns-then-not-is_empty : goal.returns-then-not-is_empty
returns-then-not-is_empty c =
    let w : World = c.args.world.now.world in
    let ids : List ℕ = c.ready_at_once.result.now in
    goes_at_once w ids (reached_is_consistent w c.graph-graph.ensures.reached) c.ready_at_once.ensures (some_of ids (sym c.is_empty.ensures ∙ c.if-not-is_empty.true))

pub returns-then-not-is_empty-2 : goal.returns-then-not-is_empty-2
returns-then-not-is_empty-2 c =
    let w : World = c.args.world.now.world in
    let dues : List (ℕ × ℕ) = c.ready_later.result.now in
    goes_later w dues (reached_is_consistent w c.graph-graph.ensures.reached) c.ready_later.ensures (some_of dues (sym c.is_empty-2.ensures ∙ c.if-not-is_empty-2.true))

pub returns : goal.returns
returns c =
    let w : World = c.args.world.now.world in
    let ids : List ℕ = c.ready_at_once.result.now in
    let dues : List (ℕ × ℕ) = c.ready_later.result.now in
    let lives = some_live w.records (ne_eqb (live_in w.records) 0 (λ none. c.if-live-eq0.false (c.live.ensures ∙ none))) in
    let none = none_of ids (sym c.is_empty.ensures ∙ c.if-not-is_empty.false) in
    let nobody = none_of dues (sym c.is_empty-2.ensures ∙ c.if-not-is_empty-2.false) in
    (lives, rests w ids dues (reached_is_consistent w c.graph-graph.ensures.reached) c.ready_at_once.ensures none c.ready_later.ensures nobody)
