-- The world after a submission continues the one before.
use Rattle.std.proofs.Common.{ℕ, List, [], ◌∷◌, get_or, refl, sym, ap, ◌∙◌, subst, arith}
use Rattle.wc_syntax.specs.declared.definition.Definition.{Definition}
use Rattle.wc_semantics.specs.Rules.{Values}
use Rattle.wc_world.specs.World.{World}
use Rattle.wc_world.specs.Applied.{applied}
use Rattle.wc_world.specs.Consistent.{IsConsistent}
use Rattle.wc_world.proofs.ReachedLists.{unique, AreUnique}
use Rattle.wc_world.proofs.ReachedWorlds.{reached_is_consistent}
use Rattle.wc_machine.specs.Continues.{Continues}
use Rattle.wc_machine.specs.Laws.{SubmissionsContinue}
use Rattle.wc_machine.proofs.ContinuedEnds.{carried_itself}
use Rattle.wc_machine.proofs.OneMore.{grown, found_again, inputs_kept, number_within, recorded_tree_kept}
use Rattle.wc_machine.proofs.Submitted.{submission_gives}
use Rattle.wc_machine.proofs.SubmittedAddition.{addition}

world_continues : (w : World) (library : List Definition) (caching : List (List ℕ)) (name : List ℕ) (inputs : Values) (d : Definition) → IsConsistent w
    → Continues w (grown w (addition w library caching name inputs d))
world_continues w library caching name inputs d h =
    let add = addition w library caching name inputs d in
    let there : AreUnique w.records = unique 1 w.nodes w.records h.numbered in
    record {
      libraries = ((library, caching) ∷ [], refl);
      nodes = (add.nodes, refl);
      links = (add.links, refl);
      batches = omega arith;
      records = λ i e lt.
          let r = get_or w.records i e in
          (r, found_again w h add r.node r (there i e lt), carried_itself r);
      inputs = λ i e lt.
          let r = get_or w.records i e in
          inputs_kept w h add r.node (number_within w h add r.node r (there i e lt));
      trees = λ i e lt over.
          let r = get_or w.records i e in
          recorded_tree_kept w h add r.node (number_within w h add r.node r (there i e lt));
    }

pub submissions_continue : SubmissionsContinue
submissions_continue w library caching name inputs cs reached s =
    subst (λ v. Continues w v) (sym (ap (applied w) s.changes ∙ submission_gives w library caching name inputs s.definition))
    (world_continues w library caching name inputs s.definition (reached_is_consistent w reached))
