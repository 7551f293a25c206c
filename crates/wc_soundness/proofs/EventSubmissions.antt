-- A submission keeps a world sound.
use Rattle.std.proofs.Common.{◌≡◌, ℕ, ◌+◌, List, [], ◌∷◌, length, map, ap, subst, ◌∙◌, arith}
use Rattle.std.proofs.lemmas.List.{length-append, length-map}
use Rattle.wc_syntax.specs.declared.definition.Definition.{Definition}
use Rattle.wc_semantics.specs.Rules.{Values}
use Rattle.wc_world.specs.declared.change.Change.{Change}
use Rattle.wc_world.specs.World.{World}
use Rattle.wc_world.specs.Accepted.{IsAccepted}
use Rattle.wc_world.specs.Applied.{applied}
use Rattle.wc_world.specs.Records.{kind_of_definition, process_node}
use Rattle.wc_machine.specs.Laws.{HasPlaces}
use Rattle.wc_machine.specs.Sound.{IsSound}
use Rattle.wc_machine.specs.Submissions.{Submits, submitted_number}
use Rattle.wc_machine.proofs.Submitted.{data_node, new_nodes, submission_gives}
use Rattle.wc_soundness.proofs.Submissions.{any_submission}
use Rattle.wc_soundness.proofs.Submitted.{submission_accepted, submission_continues}
use Rattle.wc_soundness.specs.BindingLaws.{KeepsSound}

module _ (w : World) (library : List Definition) (caching : List (List ℕ)) (name : List ℕ) (inputs : Values) (cs : List Change) (s : Submits w library caching name inputs cs) where
  -- the nodes afterwards are those up to the number of the process
  nodes_then : length (applied w cs).nodes ≡ submitted_number w inputs
  nodes_then =
      ap (λ (l : List Change). length (applied w l).nodes) s.changes
      ∙ ap (λ (v : World). length v.nodes) (submission_gives w library caching name inputs s.definition)
      ∙ length-append w.nodes (new_nodes w library caching name inputs s.definition)
      ∙ ap (λ (n : ℕ). length w.nodes + n) (length-append (map data_node inputs) (process_node (kind_of_definition s.definition) ∷ []) ∙ ap (λ (n : ℕ). n + 1) (length-map inputs data_node))
      ∙ omega arith

  pub submission_keeps : IsSound w → HasPlaces w (length (applied w cs).nodes) → KeepsSound w cs
  submission_keeps sound places =
      let accepted : IsAccepted w cs =
      submission_accepted w library caching name inputs cs sound.consistent s (subst (HasPlaces w) nodes_then places) in
      record {
        accepted = accepted;
        continues = submission_continues w library caching name inputs cs sound.consistent s;
        sound = any_submission w library caching name inputs cs sound s accepted;
      }
