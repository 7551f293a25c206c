-- The submission of a chain: which refusals can't come, and what it is made ready as.
use Rattle.std.proofs.Common.{◌≡◌, inl, inr, ℕ, true, List, [], ◌∷◌, Some, None, Err, refl, sym, ap, subst, ◌∙◌}
use Rattle.std.specs.Prelude.{All}
use Rattle.std.proofs.lemmas.List.Elements.{All-head, All-tail}
use Rattle.wc_value.specs.declared.value.Value.{out-Value}
use Rattle.wc_syntax.specs.Findings.{head_of}
use Rattle.wc_syntax.specs.declared.definition.Definition.{Definition}
use Rattle.wc_syntax.specs.declared.definition.Definition.TheVariants as definition
use Rattle.wc_journal.specs.declared.journal.Journal.{Journal}
use Rattle.wc_state.specs.declared.record.Limits.{Limits}
use Rattle.wc_semantics.specs.Rules.{Values}
use Rattle.wc_meaning.specs.Inputs.{bad_input}
use Rattle.wc_world.specs.declared.change.Change.{Change}
use Rattle.wc_world.specs.declared.change.Change.TheVariants as change
use Rattle.wc_world.specs.World.{World}
use Rattle.wc_world.specs.Accepted.{IsAccepted}
use Rattle.wc_world.specs.Applied.{applied}
use Rattle.wc_machine.specs.Machine.{Leads, submits}
use Rattle.wc_machine.specs.Submissions.{Submits}
use Rattle.wc_ends.specs.Soundness.AcceptedLaws.{IsPlain}
use Rattle.wc_ends.proofs.Soundness.Parts.{events_are_plain}
use Rattle.wc_machine.specs.Refusals.{HasRoom, RefusesSubmission}
use Rattle.wc_machine.specs.declared.error.TurnError.{TurnError}
use Rattle.wc_machine.specs.declared.error.TurnError.TheVariants as turn_error
use Rattle.wc_store.specs.Held.{is_plain}
use Rattle.wc_store.specs.declared.error.StoreError.TheVariants as store_error
use Rattle.wc_ends.specs.Runner.Refusals.{RefusesStored, is_live_after}
use Rattle.wc_ends.specs.Runner.Turns.{IsRoomOrMemory, of_turn}
use Rattle.wc_ends.specs.Runner.declared.error.RunError.{RunError}
use Rattle.wc_ends.specs.Runner.declared.error.RunError.TheVariants.{DiskFault, Full, OutOfMemory}
use Rattle.wc_ends.proofs.Runner.Journals.{commit_by}
use Rattle.wc_drill.specs.Library.{chain_inputs, chain_name, library, pair}
use Rattle.wc_drill.proofs.Given.{named}
use Rattle.wc_drill.specs.Drilled.{IsSubmitted, submits_chain, usual_limits}
use Rattle.wc_drill.specs.Submissions.{IsCrowded, IsStorable, RefusesChain}

-- the ports of the definition of chains take the inputs
inputs_fit : (first second : ℕ) → bad_input pair.head.inputs (chain_inputs first second) ≡ None
unfolding out-Value denote.Hole.Carrier.out
inputs_fit first second = refl

-- the submission is refused for fullness or want of memory alone
room_or_memory : (first second : ℕ) (w : World) (e : TurnError) → RefusesSubmission w library [] chain_name (chain_inputs first second) usual_limits.max_nodes e
    → IsRoomOrMemory e
room_or_memory first second w turn_error.NotReady h = h
room_or_memory first second w (turn_error.Full what count limit) h = tt
room_or_memory first second w turn_error.UnknownProcess h = h
room_or_memory first second w (turn_error.Ended state) h = h
room_or_memory first second w turn_error.UnknownName h =
    let both : Some (definition.Chain pair) ≡ None = sym named ∙ h in absurd (cc)
room_or_memory first second w (turn_error.BadInputs port) h =
    let found : Some h.0 ≡ Some (definition.Chain pair) = sym h.1 ∙ named in
    let same : h.0 ≡ definition.Chain pair = cc in
    let both : None ≡ Some port = sym (inputs_fit first second) ∙ ap (λ (d : Definition). bad_input (head_of d).inputs (chain_inputs first second)) (sym same) ∙ h.2 in
    absurd (cc)
room_or_memory first second w turn_error.OutOfMemory h = tt

crowded : (first second : ℕ) (w : World) (e : TurnError) → RefusesSubmission w library [] chain_name (chain_inputs first second) usual_limits.max_nodes e
    → IsCrowded first second w (of_turn e)
crowded first second w turn_error.NotReady h = tt
crowded first second w (turn_error.Full what count limit) h = (h.0, submits library [] chain_name (chain_inputs first second) h.0 h.1, h.2)
crowded first second w turn_error.UnknownProcess h = tt
crowded first second w (turn_error.Ended state) h = tt
crowded first second w turn_error.UnknownName h = tt
crowded first second w (turn_error.BadInputs port) h = tt
crowded first second w turn_error.OutOfMemory h = tt

-- changes of which none is a Count or a Kept may be committed
plainly : (cs : List Change) → All IsPlain cs → is_plain cs ≡ true
plainly [] all = refl
plainly (change.Library l names ∷ cs) all = plainly cs (All-tail IsPlain (change.Library l names) cs all)
plainly (change.Data v ∷ cs) all = plainly cs (All-tail IsPlain (change.Data v) cs all)
plainly (change.Process n ∷ cs) all = plainly cs (All-tail IsPlain (change.Process n) cs all)
plainly (change.Link l ∷ cs) all = plainly cs (All-tail IsPlain (change.Link l) cs all)
plainly (change.Set s ∷ cs) all = plainly cs (All-tail IsPlain (change.Set s) cs all)
plainly (change.Count n ∷ cs) all = absurd (All-head IsPlain (change.Count n) cs all)
plainly (change.Kept k ∷ cs) all = absurd (All-head IsPlain (change.Kept k) cs all)

storable : (first second : ℕ) (w : World) (cs : List Change) → Submits w library [] chain_name (chain_inputs first second) cs → IsAccepted w cs
    → HasRoom usual_limits.max_nodes (applied w cs) → IsStorable first second w cs
storable first second w cs s accepted room =
    let leads : Leads usual_limits.poll_ms w (submits_chain first second) cs = submits library [] chain_name (chain_inputs first second) cs s in
    record {
      leads = leads;
      accepted = accepted;
      plain = plainly cs (events_are_plain usual_limits.poll_ms w (submits_chain first second) cs leads);
      room = room;
    }

-- ---- by what is handed to a submission

module _ (first second : ℕ) (w : World) (l : List Definition) (caching : List (List ℕ)) (name : List ℕ) (inputs : Values) (limits : Limits)
    (l_is : l ≡ library) (caching_is : caching ≡ []) (name_is : name ≡ chain_name) (inputs_are : inputs ≡ chain_inputs first second) (limits_are : limits ≡ usual_limits) where
  as_chain : (P : List Definition → List (List ℕ) → List ℕ → Values → Type 0) → P l caching name inputs → P library [] chain_name (chain_inputs first second)
  as_chain P h =
      subst (λ (x : Values). P library [] chain_name x) inputs_are
      (subst (λ (x : List ℕ). P library [] x inputs) name_is
      (subst (λ (x : List (List ℕ)). P library x name inputs) caching_is (subst (λ (x : List Definition). P x caching name inputs) l_is h)))

  refuses : (e : TurnError) → RefusesSubmission w l caching name inputs limits.max_nodes e → RefusesSubmission w library [] chain_name (chain_inputs first second) usual_limits.max_nodes e
  refuses e h =
      as_chain (λ (a : List Definition) (b : List (List ℕ)) (c : List ℕ) (d : Values). RefusesSubmission w a b c d usual_limits.max_nodes e)
      (subst (λ (x : Limits). RefusesSubmission w l caching name inputs x.max_nodes e) limits_are h)

  pub room_or_memory_of : (e : TurnError) → RefusesSubmission w l caching name inputs limits.max_nodes e → IsRoomOrMemory e
  room_or_memory_of e h = room_or_memory first second w e (refuses e h)

  pub crowded_of : (e : TurnError) → RefusesSubmission w l caching name inputs limits.max_nodes e → IsCrowded first second w (of_turn e)
  crowded_of e h = crowded first second w e (refuses e h)

  pub storable_of : (cs : List Change) → Submits w l caching name inputs cs → IsAccepted w cs → HasRoom limits.max_nodes (applied w cs) → IsStorable first second w cs
  storable_of cs s accepted room =
      storable first second w cs (as_chain (λ (a : List Definition) (b : List (List ℕ)) (c : List ℕ) (d : Values). Submits w a b c d cs) s) accepted
      (subst (λ (x : Limits). HasRoom x.max_nodes (applied w cs)) limits_are room)

-- ---- a commit

pub submitted : (first second : ℕ) (w : World) (cs : List Change) → IsStorable first second w cs → IsSubmitted first second w (applied w cs)
submitted first second w cs s = record { changes = cs; leads = s.leads; accepted = s.accepted; after = refl; nodes = s.room.0 }

pub chain_refused : (first second : ℕ) (w : World) (cs : List Change) (journal : Journal) (e : RunError) → IsStorable first second w cs → RefusesStored journal usual_limits w cs e
    → RefusesChain first second journal w e
chain_refused first second w cs journal DiskFault s h = tt
chain_refused first second w cs journal (Full what count limit) s h =
    inr (record { changes = cs; leads = s.leads; accepted = s.accepted; room = s.room; refused = h })
chain_refused first second w cs journal OutOfMemory s h = tt

-- it is refused alike by a journal that ends at the same place, in the same version
pub chain_by : (first second : ℕ) (j k : Journal) (w : World) (e : RunError) → k.end ≡ j.end → k.version ≡ j.version → RefusesChain first second j w e → RefusesChain first second k w e
chain_by first second j k w DiskFault end version h = tt
chain_by first second j k w (Full what count limit) end version (inl h) = inl h
chain_by first second j k w (Full what count limit) end version (inr h) =
    inr (record {
      changes = h.changes;
      leads = h.leads;
      accepted = h.accepted;
      room = h.room;
      refused = commit_by j k usual_limits w h.changes (store_error.Full what count limit) end version h.refused;
    })
chain_by first second j k w OutOfMemory end version h = tt

pub crowd_refused : (first second : ℕ) (w : World) (journal : Journal) (e : RunError) → IsCrowded first second w e → RefusesChain first second journal w e
crowd_refused first second w journal DiskFault h = tt
crowd_refused first second w journal (Full what count limit) h = inl h
crowd_refused first second w journal OutOfMemory h = tt

pub crowd_live : (first second : ℕ) (w : World) (e : RunError) → IsCrowded first second w e → is_live_after {T = Unit {0}} (Err e) ≡ true
crowd_live first second w DiskFault h = absurd h
crowd_live first second w (Full what count limit) h = refl
crowd_live first second w OutOfMemory h = refl
