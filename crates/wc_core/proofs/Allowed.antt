-- A submission for which there is room isn't refused.
use Rattle.std.proofs.Common.{◌≡◌, ℕ, List, Some, None, refl, sym, ap, subst, ◌∙◌}
use Rattle.wc_syntax.specs.Findings.{definition_named}
use Rattle.wc_syntax.specs.declared.definition.Definition.{Definition}
use Rattle.wc_semantics.specs.Rules.{Values}
use Rattle.wc_meaning.specs.Inputs.{bad_input}
use Rattle.wc_syntax.specs.Findings.{head_of}
use Rattle.wc_world.specs.declared.change.Change.{Change}
use Rattle.wc_world.specs.World.{World}
use Rattle.wc_world.specs.Applied.{applied}
use Rattle.wc_machine.specs.Submissions.{Submits, submission}
use Rattle.wc_machine.specs.Refusals.{HasRoom, NoneHolds, RefusesSubmission}
use Rattle.wc_machine.specs.declared.error.TurnError.TheVariants as error
use Rattle.wc_machine.proofs.Rooms.{has_room}

module _ (w : World) (library : List Definition) (caching : List (List ℕ)) (name : List ℕ) (inputs : Values) (cs : List Change) (s : Submits w library caching name inputs cs) where
  same_definition : (d : Definition) → definition_named name library ≡ Some d → d ≡ s.definition
  same_definition d h = let e : Some d ≡ Some s.definition = sym h ∙ s.is_there in cc

  one_submission : (ds : List Change) → Submits w library caching name inputs ds → cs ≡ ds
  one_submission ds t =
      s.changes ∙ ap (submission w library caching name inputs) (sym (same_definition t.definition t.is_there)) ∙ sym t.changes

  pub submission_allowed : (most : ℕ) → HasRoom most (applied w cs) → NoneHolds (RefusesSubmission w library caching name inputs most)
  submission_allowed most room error.NotReady h = absurd h
  submission_allowed most room (error.Full wh count limit) h =
      absurd (has_room most (applied w h.0) wh count limit (subst (λ (xs : List Change). HasRoom most (applied w xs)) (one_submission h.0 h.1) room) h.2)
  submission_allowed most room error.UnknownProcess h = absurd h
  submission_allowed most room (error.Ended state) h = absurd h
  submission_allowed most room error.UnknownName h = let e : None ≡ Some s.definition = sym h ∙ s.is_there in absurd (cc)
  submission_allowed most room (error.BadInputs port) h =
      let e : None ≡ Some port
      = sym s.takes ∙ ap (λ (d : Definition). bad_input (head_of d).inputs inputs) (sym (same_definition h.0 h.1)) ∙ h.2 in absurd (cc)
  submission_allowed most room error.OutOfMemory h = refl
