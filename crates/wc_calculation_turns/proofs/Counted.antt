-- How many nodes and batches a world has after the turn of a calculation.
use Rattle.std.proofs.Common.{◌≡◌, ℕ, suc, ◌+◌, List, [], ◌∷◌, ◌++◌, length, refl, ap, ◌∙◌}
use Rattle.wc_semantics.specs.Rules.{Values}
use Rattle.wc_state.specs.declared.record.ProcessRecord.{ProcessRecord}
use Rattle.wc_world.specs.declared.change.Change.{Change}
use Rattle.wc_world.specs.World.{World}
use Rattle.wc_world.specs.Applied.{applied}
use Rattle.wc_world.specs.After.{nodes_in}
use Rattle.wc_machine.specs.Ends.{creations, end_of}
use Rattle.wc_machine.proofs.Counted.{HasNoCount, nodes_more, one_batch}
use Rattle.wc_calculation_turns.specs.declared.courses.Course.{Course}
use Rattle.wc_calculation_turns.specs.declared.courses.Course.TheVariants as course
use Rattle.wc_calculation_turns.specs.Courses.{added_nodes, course_changes}

-- ---- created outputs

creations_count : (next pid : ℕ) (os : Values) (cs : List Change) → HasNoCount cs → HasNoCount (creations next pid os ++ cs)
creations_count next pid [] cs h = h
creations_count next pid (o ∷ os) cs h = creations_count (suc next) pid os cs h

creations_nodes : (next pid : ℕ) (os : Values) (cs : List Change) → nodes_in cs ≡ [] → length (nodes_in (creations next pid os ++ cs)) ≡ length os
creations_nodes next pid [] cs h = ap length h
creations_nodes next pid (o ∷ os) cs h = ap suc (creations_nodes (suc next) pid os cs h)

-- ---- what a turn comes to

module _ (w : World) (r : ProcessRecord) where
  new_nodes : (c : Course) → length (nodes_in (course_changes w r c)) ≡ added_nodes c
  new_nodes (course.Ends e) = creations_nodes (length w.nodes + 1) r.node e.parsed.outputs (end_of r e.parsed e.source e.code ∷ []) refl
  new_nodes (course.Waits s) = refl

  no_count : (c : Course) → HasNoCount (course_changes w r c)
  no_count (course.Ends e) = creations_count (length w.nodes + 1) r.node e.parsed.outputs (end_of r e.parsed e.source e.code ∷ []) tt
  no_count (course.Waits s) = tt

  pub nodes_after : (c : Course) → length (applied w (course_changes w r c)).nodes ≡ length w.nodes + added_nodes c
  nodes_after c = nodes_more w (course_changes w r c) ∙ ap (λ n. length w.nodes + n) (new_nodes c)

  pub batches_after : (c : Course) → (applied w (course_changes w r c)).batches ≡ w.batches + 1
  batches_after c = one_batch w (course_changes w r c) (no_count c)
