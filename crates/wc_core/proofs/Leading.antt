-- What follows of the changes of a submission for which there is room.
use Rattle.std.proofs.Common.{◌≡◌, ℕ, ◌+◌, ◌≤◌, List, length, sym, subst, ◌∙◌, arith}
use Rattle.wc_semantics.specs.Rules.{Values}
use Rattle.wc_syntax.specs.declared.definition.Definition.{Definition}
use Rattle.wc_world.specs.declared.change.Change.{Change}
use Rattle.wc_world.specs.World.{World}
use Rattle.wc_world.specs.Accepted.{IsAccepted, IsReached}
use Rattle.wc_world.specs.Applied.{applied}
use Rattle.wc_machine.specs.Continues.{Continues}
use Rattle.wc_machine.specs.Sound.{IsSound}
use Rattle.wc_machine.specs.Submissions.{Submits, submitted_number}
use Rattle.wc_machine.proofs.SubmittedAccepted.{submissions_are_accepted}
use Rattle.wc_machine.proofs.SubmittedContinues.{submissions_continue}
use Rattle.wc_soundness.proofs.Submissions.{any_submission}
use Rattle.wc_machine.specs.Refusals.{HasRoom}
use Rattle.wc_machine.proofs.Rooms.{has_places}
use Rattle.wc_core.proofs.Counted.{nodes_submitted, batches_submitted}

module _ (w : World) (library : List Definition) (caching : List (List ℕ)) (name : List ℕ) (inputs : Values) (cs : List Change) (s : Submits w library caching name inputs cs) (reached : IsReached w) where
  pub submission_accepted : (most : ℕ) → most ≤ 8000000 → HasRoom most (applied w cs) → IsAccepted w cs
  submission_accepted most few room =
      let n : length (applied w cs).nodes ≡ length w.nodes + (length inputs + 1)
      = subst (λ (xs : List Change). length (applied w xs).nodes ≡ length w.nodes + (length inputs + 1)) (sym s.changes) (nodes_submitted w library caching name inputs s.definition) in
      let b : (applied w cs).batches ≡ w.batches + 1
      = subst (λ (xs : List Change). (applied w xs).batches ≡ w.batches + 1) (sym s.changes) (batches_submitted w library caching name inputs s.definition) in
      let e : length w.nodes + (length inputs + 1) ≡ submitted_number w inputs = omega arith in
      submissions_are_accepted w library caching name inputs cs reached s (has_places w (applied w cs) (submitted_number w inputs) most (n ∙ e) b room few)

  pub submission_continues : Continues w (applied w cs)
  submission_continues = submissions_continue w library caching name inputs cs reached s

  pub submission_sound : IsAccepted w cs → IsSound w → IsSound (applied w cs)
  submission_sound accepted sound = any_submission w library caching name inputs cs sound s accepted
