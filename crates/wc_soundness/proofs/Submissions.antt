-- A submission of any definition, with caching on for any names, keeps a world sound.
use Rattle.std.proofs.Common.{◌≡◌, ◌⊎◌, ℕ, suc, ◌+◌, ◌<◌, ◌≤◌, Some, List, [], ◌∷◌, length, inl, inr, refl, sym, ap, ◌∙◌, subst, arith}
use Rattle.std.specs.Prelude.{All, slice_get}
use Rattle.std.proofs.lemmas.Bool.{cases_eq}
use Rattle.std.proofs.lemmas.List.Elements.{All-nil, All-cons, All-push, All-append}
use Rattle.std.proofs.lemmas.Option.{slice_get_within, get_or_from_slice_get}
use Rattle.wc_syntax.specs.Findings.{head_of}
use Rattle.wc_syntax.specs.declared.definition.Definition.{Definition}
use Rattle.wc_graph.specs.declared.link.LinkType.{LinkType}
use Rattle.wc_semantics.specs.Rules.{Values}
use Rattle.wc_machine.specs.Inputs.{bad_input}
use Rattle.wc_state.specs.declared.record.ProcessRecord.{ProcessRecord}
use Rattle.wc_world.specs.declared.change.Change.{Change}
use Rattle.wc_world.specs.Applied.{applied}
use Rattle.wc_world.specs.Consistent.{Stands, IsConsistent}
use Rattle.wc_world.specs.Records.{find_record, kind_of_definition}
use Rattle.wc_world.specs.World.{World, Known}
use Rattle.wc_world.proofs.ReachedLists.{found_has, found_node}
use Rattle.wc_world.proofs.ReachedWorlds.{accepted_is_consistent}
use Rattle.wc_machine.specs.Recorded.{its_definition, recorded_inputs}
use Rattle.wc_machine.specs.Sound.{GoesUp, TakesItsInputs, IsFitting, IsSound}
use Rattle.wc_machine.specs.Submissions.{IsKeptLibrary, Submits, input_link, submitted_number}
use Rattle.wc_machine.proofs.AcceptedEnds.{live_without_output}
use Rattle.wc_machine.proofs.OneMore.{Addition, added, grown, differs, every, number_within}
use Rattle.wc_machine.proofs.OneMoreMeaning.{fresh_on_track}
use Rattle.wc_machine.proofs.OneMorePlaced.{fuel_kept, placed_new, calls_new}
use Rattle.wc_machine.proofs.Submitted.{at_length, linked, new_nodes, new_links, new_definition, submission_gives}
use Rattle.wc_machine.proofs.SubmittedAccepted.{inputs_are}
use Rattle.wc_machine.proofs.SubmittedAddition.{addition}
use Rattle.wc_machine.proofs.SubmittedInputs.{inputs_gathered}
use Rattle.wc_soundness.specs.Touches.{Touches, MayBeTouched, EndsLate, IsSoundRecord}
use Rattle.wc_soundness.proofs.Others.{others_stay_sound, sound_by_records}
use Rattle.wc_soundness.specs.CachingLaws.{AnySubmissionKeepsSound}
use Rattle.wc_soundness.proofs.Submitted.{submission_touches}

-- links from the new data to the new process go up
linked_up : (type : LinkType) (source pid : ℕ) (is : Values) → source + length is ≤ pid → All GoesUp (linked type source pid is)
linked_up type source pid [] le = All-nil GoesUp
linked_up type source pid (i ∷ is) le =
    All-cons GoesUp (record { source = source; target = pid; link = type; label = i.0 }) (linked type (suc source) pid is) (λ e. omega arith)
    (linked_up type (suc source) pid is (omega arith))

module _ (w : World) (library : List Definition) (caching : List (List ℕ)) (name : List ℕ) (inputs : Values) (cs : List Change) (h : IsSound w)
    (s : Submits w library caching name inputs cs) where
  c : IsConsistent w
  c = h.consistent

  -- what is added, the world with it, and its process
  abbrev more : Addition w
  more = addition w library caching name inputs s.definition

  abbrev pub after : World
  after = grown w more

  abbrev new : ProcessRecord
  new = added w more

  pub gives : applied w cs ≡ after
  gives = ap (applied w) s.changes ∙ submission_gives w library caching name inputs s.definition

  touches : Touches w after (submitted_number w inputs)
  touches = subst (λ (v : World). Touches w v (submitted_number w inputs)) gives (submission_touches w library caching name inputs cs c s)

  may : MayBeTouched w (submitted_number w inputs)
  may r there =
      let le : r.node ≤ length w.nodes = number_within w c more (submitted_number w inputs) r there in
      let is : r.node ≡ length w.nodes + length inputs + 1 = found_node (submitted_number w inputs) w.records r there in
      absurd (omega arith)

  -- the new process, or one with a number that is new
  abbrev IsNew : ProcessRecord → Type 0
  IsNew q = (submitted_number w inputs ≡ q.node) ⊎ (length w.nodes < q.node)

  not_new : (r : ProcessRecord) → find_record r.node w.records ≡ Some r → IsNew r → ⊥
  not_new r there (inl e) =
      let le : r.node ≤ length w.nodes = number_within w c more r.node r there in
      let is : length w.nodes + length inputs + 1 ≡ r.node = e in
      absurd (omega arith)
  not_new r there (inr beyond) =
      let le : r.node ≤ length w.nodes = number_within w c more r.node r there in
      let lt : length w.nodes < r.node = beyond in
      absurd (omega arith)

  late : EndsLate w after (submitted_number w inputs)
  late q there which =
      found_has (λ x. IsNew x → (x.ended ≡ 0) ⊎ (w.batches < x.ended)) q.node after.records q there
      (every w c more (λ x. IsNew x → (x.ended ≡ 0) ⊎ (w.batches < x.ended)) (λ r before is. absurd (not_new r before is)) (λ is. inl refl)) which

  module _ (cv : IsConsistent after) where
    new_inputs : recorded_inputs after (submitted_number w inputs) ≡ inputs
    new_inputs =
        inputs_gathered (kind_of_definition s.definition) w.nodes (new_nodes w library caching name inputs s.definition) w.links (length w.nodes + 1)
        (submitted_number w inputs) inputs (omega arith) c.links.ends (inputs_are w c library caching name inputs s.definition s.is_there) s.values.ascend

    new_fits : IsFitting after new
    new_fits =
        let is : its_definition after new ≡ Some s.definition = new_definition w library caching name inputs s.definition ∙ s.is_there in
        record {
          inputs = subst (TakesItsInputs after new) (sym is) (ap (bad_input (head_of s.definition).inputs) new_inputs ∙ s.takes);
          request = λ e. absurd (cc e);
          code = λ e. refl;
          source = λ e. refl;
          started = λ e. refl;
          awaiting = tt;
          outputs = tt;
        }

    new_stands : Stands after new
    new_stands =
        let last : slice_get after.records (length w.records) ≡ Some new = at_length w.records new [] in
        subst (Stands after) (get_or_from_slice_get after.records (length w.records) new new last)
        (cv.records (length w.records) new (slice_get_within after.records (length w.records) new last))

    new_sound : IsSoundRecord after new
    new_sound = record {
      fits = new_fits;
      placed = placed_new w c more refl refl;
      calls = calls_new w c more;
      awaits = tt;
      names = tt;
      rule = ((λ calculates on started. absurd (started refl)), (λ off. refl), (λ never. refl), (λ other. refl));
      bare = λ calculates alive. live_without_output after new new_stands alive;
      given = λ calculates over. absurd (cc over);
      live = λ alive. fresh_on_track after new refl refl refl;
      ended = λ over. absurd (cc over);
      few = λ over. absurd (cc over);
    }

    pub submitted_sound : IsSound after
    submitted_sound =
        sound_by_records after (record {
          consistent = cv;
          libraries = All-push (λ (k : Known). IsKeptLibrary k.0) w.libraries (library, caching) h.libraries s.checked;
          upward =
              All-append GoesUp w.links (new_links w library caching name inputs s.definition) h.upward
              (linked_up (input_link (kind_of_definition s.definition)) (length w.nodes + 1) (submitted_number w inputs) inputs (omega arith));
          one_creator = λ i j l m a b is_l is_m same.
              elim (cases_eq i j) [ inl e ↦ e | inr ne ↦ absurd ((cv.links.apart i j l m ne a b).creators (is_l, is_m, same)) ];
          fuel = fuel_kept w c more h.fuel refl;
        })
        (every w c more (IsSoundRecord after)
        (λ r there. others_stay_sound w after (submitted_number w inputs) h touches may cv late r there (differs w c more r.node (number_within w c more r.node r there))) new_sound)

pub any_submission : AnySubmissionKeepsSound
any_submission w library caching name inputs cs h s accepted =
    let same = gives w library caching name inputs cs h s in
    subst IsSound (sym same)
    (submitted_sound w library caching name inputs cs h s (subst IsConsistent same (accepted_is_consistent w cs h.consistent accepted)))
