-- What an event makes of a store.
use Rattle.std.proofs.Common.{◌≡◌, ◌⊎◌, ◌↔◌, inl, inr, ◌++◌, ◌≤◌, ◌+◌, ℕ, suc, true, false, List, [], ◌∷◌, length, map, Result, Ok, Err, Option, Some, None, IfOk, IsErrOf, IsTrue, refl, sym, ap, subst, ◌∙◌, arith, lit≤}
use Rattle.std.specs.Prelude.{◌≢◌, ◌==◌, All, IsSome}
use Rattle.std.specs.List.{AllByRecursion}
use Rattle.std.proofs.lemmas.Bool.{eq-eqb, eqb-true}
use Rattle.std.proofs.lemmas.List.Elements.{All-nil, All-cons}
use Rattle.std.proofs.lemmas.List.{length-append, length-map}
use Rattle.wc_disk.specs.declared.disk.Disk as disk
use Rattle.wc_value.specs.declared.process.ProcessState.{ProcessState}
use Rattle.wc_value.specs.Spelling.{depth}
use Rattle.wc_syntax.specs.Findings.{head_of}
use Rattle.wc_syntax.specs.declared.definition.Definition.{Definition}
use Rattle.wc_meaning.specs.Inputs.{bad_input}
use Rattle.wc_graph.specs.declared.link.LinkType.{LinkType}
use Rattle.wc_journal.specs.declared.journal.Journal.{Journal}
use Rattle.wc_semantics.specs.Rules.{Values}
use Rattle.wc_state.specs.declared.record.What.{What}
use Rattle.wc_world.specs.declared.change.Change.{Change}
use Rattle.wc_world.specs.World.{World}
use Rattle.wc_world.specs.Accepted.{IsAccepted, IsReached, then_changes}
use Rattle.wc_world.specs.Applied.{applied}
use Rattle.wc_machine.specs.Continues.{Continues}
use Rattle.wc_machine.specs.Sound.{IsSound}
use Rattle.wc_machine.specs.Submissions.{data_change, links_from, Submits, submitted_number}
use Rattle.wc_state.specs.Ranges.{AreLimits}
use Rattle.wc_machine.specs.Refusals.{HasRoom}
use Rattle.wc_machine.specs.declared.error.TurnError.{TurnError}
use Rattle.wc_machine.specs.declared.error.TurnError.TheVariants as turn_error
use Rattle.wc_store.specs.Refusals.{RefusesCommit, IsUnchanged, is_live_after}
use Rattle.wc_store.specs.declared.error.StoreError.{StoreError}
use Rattle.wc_store.specs.declared.error.StoreError.TheVariants as error
use Rattle.wc_store.specs.declared.store.Store.{Store}
use Rattle.wc_store.specs.Held.{is_plain, a_world}
use Rattle.wc_store.specs.Stepped.{IsCommitted}
use Rattle.wc_store.specs.Stores.{StandsFor, HasImages, IsLonger}
use Rattle.wc_machine.specs.Machine.{Event, pause, play, kill, submits as submits_by}
use Rattle.wc_drill.specs.Runner.CoreRefusals.{RefusesMark}
use Rattle.wc_machine.proofs.Submitted.{data_node, new_nodes, submission_gives}
use Rattle.wc_act.proofs.Asking.{submission_some, submits_of}
use Rattle.wc_world.specs.Records.{kind_of_definition, process_node}
use Rattle.wc_plan.specs.declared.deed.Asked.{Asked}
use Rattle.wc_plan.specs.declared.deed.Asked.TheVariants as asked
use Rattle.wc_plan.specs.declared.reply.Reply.{Reply}
use Rattle.wc_plan.specs.declared.status.Cause.{Cause}
use Rattle.wc_plan.specs.declared.status.Cause.TheVariants as cause
use Rattle.wc_plan.specs.declared.submission.Submission.{Submission}
use Rattle.wc_act.specs.Crashes.{AreDurable, Keeps}
use Rattle.wc_act.specs.Entries.{IsStorable}
use Rattle.wc_act.specs.Events.{Changes, RefusesAsked, IsRefusedFor, IsMadeBy, MayHappen, OverlongIn, TellsAlone, TellsFull, IsLine, line_of, limits_of, process_of}
use Rattle.wc_plan.specs.Replies.{prints, refuses}
use Rattle.wc_act.specs.StoreDeeds.{GoesOn, Images, Hold, greatest_limits, is_full}
use Rattle.wc_act.specs.Undone.{IsUnbroken}
use Rattle.wc_act.specs.declared.error.ActError.{ActError}
use Rattle.wc_act.specs.declared.error.ActError.TheVariants.{DiskFault}
use Rattle.wc_act.specs.Opened.{IsTold, process_reply, store_reply, turn_reply}
use Rattle.wc_act.specs.Owed.{visit, DoneOn, OfVisit}
use Rattle.wc_act.specs.Rows.{event_row}
use Rattle.wc_plan.specs.Plans.{IsReadyAsked}
use Rattle.wc_plan.specs.Submits.{IsReady, IsWithinLimits}
use Rattle.wc_act.proofs.Doing.{some_is}
use Rattle.wc_act.proofs.Told.{unbroken_whole}
use Rattle.wc_act.proofs.Visiting.{AreOfStores, AreStill, are_still, goes_on_journal, journal_of_images, visit_as}

-- ---- limits

pub greatest_ranges : AreLimits greatest_limits
greatest_ranges = record { some_nodes = lit≤ tt; few_nodes = lit≤ tt; some_bytes = lit≤ tt; few_bytes = lit≤ tt; later = lit≤ tt; soon = lit≤ tt }

-- ---- the changes of a submission

pub all_shallow : (is : Values) → AllByRecursion IsWithinLimits is → All (λ i. depth i.1 ≤ 32) is
all_shallow [] h = All-nil (λ i. depth i.1 ≤ 32)
all_shallow (i ∷ is) h = All-cons (λ j. depth j.1 ≤ 32) i is h.0.1 (all_shallow is h.1)

plain_values : (is : Values) (rest : List Change) → is_plain rest ≡ true → is_plain (map data_change is ++ rest) ≡ true
plain_values [] rest h = h
plain_values (i ∷ is) rest h = plain_values is rest h

plain_links : (type : LinkType) (source pid : ℕ) (is : Values) → is_plain (links_from type source pid is) ≡ true
plain_links type source pid [] = refl
plain_links type source pid (i ∷ is) = plain_links type (suc source) pid is

submission_plain : (w : World) (library : List Definition) (caching : List (List ℕ)) (name : List ℕ) (inputs : Values) (cs : List Change)
    → Submits w library caching name inputs cs → is_plain cs ≡ true
submission_plain w library caching name inputs cs s =
    ap is_plain s.changes ∙ plain_values inputs _ (plain_links _ _ _ inputs)

keeps_entered : (w : World) (cs : List Change) → IsReached w → IsAccepted w cs → Continues w (applied w cs)
    → (IsSound w → IsSound (applied w cs)) → Keeps w (applied w cs)
keeps_entered w cs reached accepted continues sound is_sound =
    record { sound = sound is_sound; continues = continues; reached = then_changes w cs reached accepted }

-- a submission is an event of the machine
pub result_leads : {E : Type 0} (w : World) (s : Submission) (result : Result (List Change) E) → IfOk result (Submits w s.library s.caching s.name s.inputs)
    → IfOk result (Changes w (asked.Submit s))
result_leads w s (Ok cs) h = submits_by s.library s.caching s.name s.inputs cs h
result_leads w s (Err e) h = h

pub result_submitted : {E : Type 0} (w : World) (s : Submission) (result : Result (List Change) E) → IsReached w
    → IfOk result (Submits w s.library s.caching s.name s.inputs) → IfOk result (IsAccepted w)
    → IfOk result (λ cs. Continues w (applied w cs)) → IfOk result (λ cs. IsSound w → IsSound (applied w cs))
    → IfOk result (λ cs. HasRoom s.limits.max_nodes (applied w cs)) → IfOk result (λ cs. cs ≢ [] → IsStorable (asked.Submit s) w cs)
result_submitted w s (Ok cs) reached submits accepted continues sound room =
    λ some. record {
      leads = submits_by s.library s.caching s.name s.inputs cs submits;
      some = some;
      room = room;
      accepted = accepted;
      plain = submission_plain w s.library s.caching s.name s.inputs cs submits;
      keeps = keeps_entered w cs reached accepted continues sound;
    }
result_submitted w s (Err e) reached submits accepted continues sound room = submits

made_by : (a : Asked) (journal : Journal) (w : World) (cs : List Change) (next : Journal) → IsStorable a w cs → IsLonger (limits_of a) journal cs next
    → IsMadeBy a journal w (applied w cs) next
made_by a journal w cs next s longer =
    record { changes = cs; leads = s.leads; some = s.some; accepted = s.accepted; after = refl; nodes = s.room.0; longer = longer }

-- before its changes are stored, and after
pub not_yet : (a : Asked) (before after : Images) (w : World) (journal next : Journal) → GoesOn before after journal next → next.end ≡ journal.end → MayHappen a before w w after
not_yet a before after w journal next goes same = record { journal = journal; next = next; goes = goes; made = inl (refl, same) }

pub then_made : (a : Asked) (before after : Images) (w : World) (cs : List Change) (journal next : Journal) → IsStorable a w cs → GoesOn before after journal next
    → IsLonger (limits_of a) journal cs next → MayHappen a before w (applied w cs) after
then_made a before after w cs journal next storable goes longer =
    record { journal = journal; next = next; goes = goes; made = inr (made_by a journal w cs next storable longer) }

-- ---- no changes

submitted_told : (w : World) (s : Submission) (e : TurnError) → IsReady s → RefusesAsked (asked.Submit s) w e → IsTold None e
submitted_told w s turn_error.NotReady ready refused = refused
submitted_told w s (turn_error.Full what count limit) ready refused = tt
submitted_told w s turn_error.UnknownProcess ready refused = absurd refused
submitted_told w s (turn_error.Ended state) ready refused = absurd refused
submitted_told w s turn_error.UnknownName ready refused =
    let both : Some (ready.callable.defined) ≡ None = sym ready.callable.named ∙ refused in absurd (cc)
submitted_told w s (turn_error.BadInputs port) ready refused =
    let found : Some refused.0 ≡ Some (ready.callable.defined) = sym refused.1 ∙ ready.callable.named in
    let same : refused.0 ≡ ready.callable.defined = cc in
    let both : None ≡ Some port = sym ready.callable.fits ∙ ap (λ (d : Definition). bad_input (head_of d).inputs s.inputs) (sym same) ∙ refused.2 in
    absurd (cc)
submitted_told w s turn_error.OutOfMemory ready refused = tt

mark_told : (w : World) (event : Event) (pid : ℕ) (e : TurnError) → RefusesMark w event pid e → IsTold (Some pid) e
mark_told w event pid turn_error.NotReady refused = refused
mark_told w event pid (turn_error.Full what count limit) refused = tt
mark_told w event pid turn_error.UnknownProcess refused = refl
mark_told w event pid (turn_error.Ended state) refused = refl
mark_told w event pid turn_error.UnknownName refused = refused
mark_told w event pid (turn_error.BadInputs port) refused = refused
mark_told w event pid turn_error.OutOfMemory refused = tt

-- what is ready has no changes only for what may be told, or where memory runs out
pub is_told : (a : Asked) (w : World) (e : TurnError) → IsReadyAsked a → RefusesAsked a w e → IsTold (process_of a) e
is_told (asked.Submit s) w e ready refused = submitted_told w s e ready refused
is_told (asked.Pause pid) w e ready refused = mark_told w (pause pid) pid e refused
is_told (asked.Play pid) w e ready refused = mark_told w (play pid) pid e refused
is_told (asked.Kill pid) w e ready refused = mark_told w (kill pid) pid e refused

-- the event is refused for a cause, which is told
abbrev IsRefusedAs : Asked → World → Reply → Type 0
IsRefusedAs a w r = (c : Cause) × IsRefusedFor a w c × (r ≡ refuses c)

unknown_told : (a : Asked) (w : World) (r : Reply) → RefusesAsked a w turn_error.UnknownProcess → process_reply (process_of a) cause.UnknownProcess ≡ Some r → IsRefusedAs a w r
unknown_told (asked.Submit s) w r refused reply = absurd refused
unknown_told (asked.Pause pid) w r refused reply = (cause.UnknownProcess pid, inl (refused, refl), sym (some_is (refuses (cause.UnknownProcess pid)) r reply))
unknown_told (asked.Play pid) w r refused reply = (cause.UnknownProcess pid, inl (refused, refl), sym (some_is (refuses (cause.UnknownProcess pid)) r reply))
unknown_told (asked.Kill pid) w r refused reply = (cause.UnknownProcess pid, inl (refused, refl), sym (some_is (refuses (cause.UnknownProcess pid)) r reply))

ended_told : (a : Asked) (w : World) (s : ProcessState) (r : Reply) → RefusesAsked a w (turn_error.Ended s) → process_reply (process_of a) (λ n. cause.Ended n s) ≡ Some r → IsRefusedAs a w r
ended_told (asked.Submit x) w s r refused reply = absurd refused
ended_told (asked.Pause pid) w s r refused reply = (cause.Ended pid s, inr (s, refused, refl), sym (some_is (refuses (cause.Ended pid s)) r reply))
ended_told (asked.Play pid) w s r refused reply = (cause.Ended pid s, inr (s, refused, refl), sym (some_is (refuses (cause.Ended pid s)) r reply))
ended_told (asked.Kill pid) w s r refused reply = (cause.Ended pid s, inr (s, refused, refl), sym (some_is (refuses (cause.Ended pid s)) r reply))

pub refusal_alone : (a : Asked) (w : World) (e : TurnError) (r : Reply) → RefusesAsked a w e → turn_reply (process_of a) e ≡ Some r → TellsAlone a w r
refusal_alone a w turn_error.NotReady r refused reply = absurd (cc)
refusal_alone a w (turn_error.Full what count limit) r refused reply = inr (inr (what, count, limit, refused, sym (some_is (is_full what count limit) r reply)))
refusal_alone a w turn_error.UnknownProcess r refused reply = inr (inl (unknown_told a w r refused reply))
refusal_alone a w (turn_error.Ended state) r refused reply = inr (inl (ended_told a w state r refused reply))
refusal_alone a w turn_error.UnknownName r refused reply = absurd (cc)
refusal_alone a w (turn_error.BadInputs port) r refused reply = absurd (cc)
refusal_alone a w turn_error.OutOfMemory r refused reply = absurd (cc)

-- ---- its line

submission_nodes : (w : World) (s : Submission) (cs : List Change) → Submits w s.library s.caching s.name s.inputs cs → length (applied w cs).nodes ≡ submitted_number w s.inputs
submission_nodes w s cs p =
    let new = new_nodes w s.library s.caching s.name s.inputs p.definition in
    let gives : length (applied w cs).nodes ≡ length (w.nodes ++ new)
    = ap (λ (c : List Change). length (applied w c).nodes) p.changes ∙ ap (λ (v : World). length v.nodes) (submission_gives w s.library s.caching s.name s.inputs p.definition) in
    let both : length (w.nodes ++ new) ≡ length w.nodes + length new = length-append w.nodes new in
    let parts : length new ≡ length (map data_node s.inputs) + 1 = length-append (map data_node s.inputs) (process_node (kind_of_definition p.definition) ∷ []) in
    let each : length (map data_node s.inputs) ≡ length s.inputs = length-map s.inputs data_node in
    omega (arith, gives, both, parts, each)

number_fits : (w : World) (s : Submission) (cs : List Change) → IsReady s → Submits w s.library s.caching s.name s.inputs cs
    → HasRoom s.limits.max_nodes (applied w cs) → 4294967296 ≤ submitted_number w s.inputs → ⊥
number_fits w s cs ready p room long =
    let nodes = submission_nodes w s cs p in
    let few : length (applied w cs).nodes ≤ s.limits.max_nodes = room.0 in
    let most : s.limits.max_nodes ≤ 8000000 = ready.limits.few_nodes in
    omega (arith, nodes, few, most, long)

-- where the event may be stored, or has no changes, there is a line
pub line_there : (a : Asked) (w : World) (cs : List Change) (line : Option (List ℕ)) → IsReadyAsked a → Changes w a cs → (cs ≢ [] → IsStorable a w cs) → IsLine a w line → IsSome line
line_there a w cs (Some text) ready leads storable is = refl
line_there (asked.Submit s) w cs None ready leads storable long =
    let room : HasRoom s.limits.max_nodes (applied w cs) = (storable (submission_some w s cs leads)).room in
    absurd (number_fits w s cs ready (submits_of w s cs leads) room long)
line_there (asked.Pause pid) w cs None ready leads storable long = absurd long
line_there (asked.Play pid) w cs None ready leads storable long = absurd long
line_there (asked.Kill pid) w cs None ready leads storable long = absurd long

line_written : (a : Asked) (w : World) (line : Option (List ℕ)) (text : List ℕ) → IsLine a w line → line ≡ Some text → text ≡ line_of a w
line_written a w (Some t) text is same = let it : text ≡ t = cc in it ∙ is
line_written a w None text is same = absurd (cc)

no_changes : (cs : List Change) → (length cs == 0) ≡ true → cs ≡ []
no_changes [] h = refl
no_changes (c ∷ cs) h = let none : suc (length cs) ≡ 0 = eqb-true (suc (length cs)) 0 h in absurd (omega (arith, none))

some_changes : (cs : List Change) → (length cs == 0) ≡ false → cs ≢ []
some_changes cs h none = let zero : (length cs == 0) ≡ true = eq-eqb (length cs) 0 (ap length none) in cc (h, zero)

-- an event with changes, which may be stored
pub stored_entry : (a : Asked) (w : World) (cs : List Change) (line : Option (List ℕ)) (text : List ℕ) → (cs ≢ [] → IsStorable a w cs) → (length cs == 0) ≡ false → IsLine a w line
    → line ≡ Some text → IsStorable a w cs × (text ≡ line_of a w)
stored_entry a w cs line text storable some is same = (storable (some_changes cs some), line_written a w line text is same)

-- an event with no changes
pub idle_alone : (a : Asked) (w : World) (cs : List Change) (line : Option (List ℕ)) (text : List ℕ) (r : Reply) → Changes w a cs → (length cs == 0) ≡ true → IsLine a w line
    → line ≡ Some text → r ≡ prints text → TellsAlone a w r
idle_alone a w cs line text r leads none is same reply = inl (subst (Changes w a) (no_changes cs none) leads, reply ∙ ap prints (line_written a w line text is same))

-- ---- what was done

module _ (a : Asked) (store : Store) where
  pub has_entered : (new : Store) (cs : List Change) (r : Reply) → IsStorable a store.world.world cs
      → IsCommitted (limits_of a) cs store new.world.world new.journal → new.place ≡ store.place → r ≡ prints (line_of a store.world.world)
      → (before after : Images) → AreOfStores store new before after → DoneOn (event_row a) store.world.world r before after
  has_entered new cs r storable is place reply before after are = (
    are.was.held,
    inl (record {
      changes = cs;
      submits = storable.leads;
      some = storable.some;
      held = subst (λ (w : World). Hold after (a_world w)) is.world are.is.held;
      fits = record {
        nodes = subst (λ (w : World). length w.nodes ≤ (limits_of a).max_nodes) is.world is.nodes;
        journal = new.journal;
        kept = journal_of_images new after are.is;
        bytes = is.longer.fits;
      };
      journal = store.journal;
      next = new.journal;
      goes = goes_on_journal store new before after are (place, is.longer.generation, is.longer.version);
      longer = is.longer.longer;
      reply = reply;
    }),
  )

  -- nothing is stored
  unstored : (r : Reply) (before after : Images) → AreStill store before after → TellsAlone a store.world.world r ⊎ TellsFull (OverlongIn a before store.world.world) r
      → DoneOn (event_row a) store.world.world r before after
  unstored r before after (same, is) tells =
      (is.held, inr (record { tells = tells; held = subst (λ (images : Images). Hold images (a_world store.world.world)) (sym same) is.held; still = same }))

  pub stays_alone : (r : Reply) → TellsAlone a store.world.world r → (before after : Images) → AreStill store before after → DoneOn (event_row a) store.world.world r before after
  stays_alone r tells before after still = unstored r before after still (inl tells)

  overlong : (cs : List Change) (what : What) (count limit : ℕ) (r : Reply) → IsStorable a store.world.world cs
      → RefusesCommit store.journal (limits_of a) store.world.world cs (error.Full what count limit) → is_full what count limit ≡ r
      → (before after : Images) → AreStill store before after → DoneOn (event_row a) store.world.world r before after
  overlong cs what count limit r storable refused reply before after still =
      unstored r before after still (inr (
        what,
        count,
        limit,
        (
          store.journal,
          journal_of_images store before still.1,
          record { changes = cs; submits = storable.leads; some = storable.some; room = storable.room; refused = refused },
        ),
        sym reply,
      ))

module _ {D : Type 0} (g : disk.Ghosts D) where
  pub refused_entry : {E : Type 0} (a : Asked) (store : Store) (cs : List Change) (e : StoreError) (one two one_new two_new : D) (result : Result Reply E)
      → (IsTrue (g.tells one) → IsTrue (g.tells two) → StandsFor g store one two) → HasImages store → IsStorable a store.world.world cs
      → RefusesCommit store.journal (limits_of a) store.world.world cs e → IsUnchanged {T = Unit {0}} (Err e) one one_new → IsUnchanged {T = Unit {0}} (Err e) two two_new
      → IfOk result (λ r. store_reply e ≡ Some r)
      → IfOk result (λ r. OfVisit (visit g one two one_new two_new) (DoneOn (event_row a) store.world.world r))
  refused_entry a store cs e one two one_new two_new (Err x) stands images storable refused same same_too reply = reply
  refused_entry a store cs error.DiskFault one two one_new two_new (Ok r) stands images storable refused same same_too reply = absurd (cc)
  refused_entry a store cs (error.Damaged disk at found) one two one_new two_new (Ok r) stands images storable refused same same_too reply = absurd refused
  refused_entry a store cs (error.Full what count limit) one two one_new two_new (Ok r) stands images storable refused same same_too reply =
      visit_as (visit g one two one_new two_new) (AreStill store) (DoneOn (event_row a) store.world.world r)
      (overlong a store cs what count limit r storable refused (some_is (is_full what count limit) r reply))
      (are_still g one two one_new two_new store stands images same same_too)
  refused_entry a store cs error.AlreadyThere one two one_new two_new (Ok r) stands images storable refused same same_too reply = absurd refused
  refused_entry a store cs error.OutOfMemory one two one_new two_new (Ok r) stands images storable refused same same_too reply = absurd (cc)

  -- a store that isn't as a disk failed stands for its disks
  pub refused_durable : (T : Type 0) (e : StoreError) (new : Store) (A B : Type 0) (one_new two_new : D) (result : Result Reply ActError) → IsErrOf result DiskFault ↔ (e ≡ error.DiskFault)
      → (is_live_after {T = T} (Err e) true ≡ true → A → B → StandsFor g new one_new two_new) → IsUnbroken result → A → B → AreDurable g one_new two_new
  refused_durable T e new A B one_new two_new result iff stands unbroken told told_too =
      let s = stands (unbroken_whole T e result iff unbroken) told told_too in
      record { durable_one = s.durable_one; durable_two = s.durable_two }
