-- One reply is owed for a command of a store, for what its disks read as at entry and at exit.
use Rattle.std.proofs.Common.{◌≡◌, ◌⊎◌, inl, inr, true, false, ◌≤◌, ◌<◌, ◌+◌, ◌-◌, ◌^◌, ℕ, List, [], length, refl, sym, ap, subst, ◌∙◌, arith}
use Rattle.std.specs.Prelude.{◌≢◌, min}
use Rattle.wc_state.specs.declared.record.Limits.{Limits}
use Rattle.wc_state.specs.declared.record.ProcessRecord.{ProcessRecord}
use Rattle.wc_journal.specs.declared.journal.Journal.{Journal}
use Rattle.wc_journal.specs.Reading.{Placed, end_of}
use Rattle.wc_journal.specs.Refusals.{size_after}
use Rattle.wc_record.specs.Spelled.{spelled}
use Rattle.wc_state.specs.declared.record.What.{What}
use Rattle.wc_state.specs.declared.record.What.TheVariants as what
use Rattle.wc_world.specs.World.{World}
use Rattle.wc_world.specs.Applied.{applied}
use Rattle.wc_world.specs.declared.change.Change.{Change}
use Rattle.wc_world.specs.Records.{find_record, has_ended}
use Rattle.wc_machine.specs.Kills.{kill_changes}
use Rattle.wc_machine.specs.Machine.{pause_changes, play_changes, submits}
use Rattle.wc_machine.specs.Refusals.{AreTooMany, FullOfBatches, HasRoom, IsOneBatchTooMany}
use Rattle.wc_machine.specs.declared.error.TurnError.TheVariants as turn_error
use Rattle.wc_drill.specs.Runner.CoreRefusals.{AreChangesOf}
use Rattle.wc_store.specs.declared.error.StoreError.TheVariants.{Full}
use Rattle.wc_store.specs.Choices.{on}
use Rattle.wc_store.specs.Held.{Standing, nothing, damage, a_world}
use Rattle.wc_store.specs.Laws.{HeldIsOne}
use Rattle.wc_store.specs.declared.place.Place.{Place}
use Rattle.wc_store.specs.Places.{number_of}
use Rattle.wc_store.specs.Refusals.{byte_limit, RefusesCommit, RefusesPack}
use Rattle.wc_report.specs.Lines.{packed_text}
use Rattle.wc_plan.specs.declared.deed.Asked.{Asked}
use Rattle.wc_plan.specs.declared.deed.Asked.TheVariants as asked
use Rattle.wc_plan.specs.declared.reply.Reply.{Reply}
use Rattle.wc_plan.specs.declared.submission.Submission.{Submission}
use Rattle.wc_plan.specs.declared.status.Cause.{Cause}
use Rattle.wc_plan.specs.declared.status.Cause.TheVariants as cause
use Rattle.wc_act.specs.Events.{Changes, Enters, IsCrowded, IsEntered, IsNotLive, IsRefusedFor, IsUnstored, OverlongIn, TellsAlone, TellsFull, event_of, limits_of}
use Rattle.wc_plan.specs.Replies.{prints, refuses}
use Rattle.wc_act.proofs.Asking.{IsOfLive, kills_of, one_batch, one_change, pauses_of, plays_of, some_process, submission_some}
use Rattle.wc_act.specs.StoreDeeds.{Images, Hold, HasJournal, is_full, InitAt, Inits, AtStore, OnStore, IsPacked, IsTooFull, Packs}

the_world : (v w : World) → a_world v ≡ a_world w → v ≡ w
the_world v w h = cc

-- ---- what two images hold

module _ (law : HeldIsOne) where
  one_world : (images : Images) (v w : World) → Hold images (a_world v) → Hold images (a_world w) → v ≡ w
  one_world images v w p q = the_world v w (law images.0 images.1 (a_world v) (a_world w) p q)

  init_at : (before : Images) (h : Standing) (after : Images) (r s : Reply) → InitAt before h after r → InitAt before h after s → r ≡ s
  init_at before nothing after r s p q = p.2 ∙ sym q.2
  init_at before (damage disk at found) after r s p q = p.1 ∙ sym q.1
  init_at before (a_world w) after r s p q = p.1 ∙ sym q.1

  pub one_init : (before after : Images) (r s : Reply) → Inits before after r → Inits before after s → r ≡ s
  one_init before after r s p q =
      let same : q.0 ≡ p.0 = law before.0 before.1 q.0 p.0 q.1 p.1 in
      init_at before p.0 after r s p.2 (subst (λ (h : Standing). InitAt before h after s) same q.2)

  -- a command that has one reply on a world
  pub one_on : (does : Images → World → Images → Reply → Type 0) (before after : Images) (r s : Reply)
      → ((w : World) → does before w after r → does before w after s → r ≡ s)
      → OnStore does before after r → OnStore does before after s → r ≡ s
  one_on does before after r s one p q =
      let same : q.0 ≡ p.0 = law before.0 before.1 q.0 p.0 q.1 p.1 in
      at p.0 p.2 (subst (λ (h : Standing). AtStore before (does before) h after s) same q.2)
    where
      at : (h : Standing) → AtStore before (does before) h after r → AtStore before (does before) h after s → r ≡ s
      at nothing x y = x.1 ∙ sym y.1
      at (damage disk place found) x y = x.1 ∙ sym y.1
      at (a_world w) x y = one w x y

-- ---- pack

one_choice : (d d' v v' g g' : ℕ) (bs bs' : Placed) → on d v g bs ≡ on d' v' g' bs' → (v ≡ v') × (g ≡ g') × (bs ≡ bs')
one_choice d d' v v' g g' bs bs' same = (cc, cc, cc)

one_kept : (images : Images) (j k : Journal) → HasJournal images j → HasJournal images k → (j.version ≡ k.version) × (j.generation ≡ k.generation) × (j.end ≡ k.end)
one_kept images j k p q =
    let same = one_choice (number_of p.place) (number_of q.place) j.version k.version j.generation k.generation p.batches q.batches (sym p.chooses ∙ q.chooses) in
    (same.0, same.1, p.end ∙ ap end_of same.2 ∙ sym q.end)

one_generation : (before after : Images) (r s : Reply) (w : World) (x y : Place) (j k : Journal) → j.generation ≡ k.generation
    → IsPacked x j w before after r → IsPacked y k w before after s → r ≡ s
one_generation before after r s w x y j k same p q =
    p.reply ∙ ap (λ (n : ℕ). prints (packed_text n)) (p.generation ∙ ap (λ (n : ℕ). n + 1) same ∙ sym q.generation) ∙ sym q.reply

full_alike : (w w' : What) (c c' l l' : ℕ) → w ≡ w' → c ≡ c' → l ≡ l' → is_full w c l ≡ is_full w' c' l'
full_alike w w' c c' l l' h i j = cc

one_full_pack : (g : ℕ) (w : World) (x y : What) (c d l m : ℕ) → RefusesPack g w (Full x c l) → RefusesPack g w (Full y d m) → is_full x c l ≡ is_full y d m
one_full_pack g w what.Nodes y c d l m p q = absurd p
one_full_pack g w what.Batches y c d l m p q = absurd p
one_full_pack g w what.Generations what.Nodes c d l m p q = absurd q
one_full_pack g w what.Generations what.Batches c d l m p q = absurd q
one_full_pack g w what.Generations what.Generations c d l m p q = full_alike what.Generations what.Generations c d l m refl (p.0 ∙ sym q.0) (p.1 ∙ sym q.1)
one_full_pack g w what.Generations what.Bytes c d l m p q = absurd (omega (arith, p.2, q.0))
one_full_pack g w what.Bytes what.Nodes c d l m p q = absurd q
one_full_pack g w what.Bytes what.Batches c d l m p q = absurd q
one_full_pack g w what.Bytes what.Generations c d l m p q = absurd (omega (arith, p.0, q.2))
one_full_pack g w what.Bytes what.Bytes c d l m p q = full_alike what.Bytes what.Bytes c d l m refl (p.1 ∙ sym q.1) (p.2 ∙ sym q.2)

-- what fits isn't too full
fits_or_full : (before after : Images) (r s : Reply) (w : World) (x : Place) (j k : Journal) → j.generation ≡ k.generation → IsPacked x j w before after r → IsTooFull k w s → ⊥
fits_or_full before after r s w x j k same p q = at q.what q.count q.limit q.refused
  where
    at : (f : What) (c l : ℕ) → RefusesPack k.generation w (Full f c l) → ⊥
    at what.Nodes c l h = h
    at what.Bytes c l h = let short = p.fits.short in absurd (omega (arith, short, h.3))
    at what.Batches c l h = h
    at what.Generations c l h = let few = p.fits.few in absurd (omega (arith, same, few, h.2))

one_end : (before after : Images) (r s : Reply) (w : World) (x y : Place) (j k : Journal) → j.generation ≡ k.generation
    → IsPacked x j w before after r ⊎ ((after ≡ before) × IsTooFull j w r) → IsPacked y k w before after s ⊎ ((after ≡ before) × IsTooFull k w s) → r ≡ s
one_end before after r s w x y j k same (inl p) (inl q) = one_generation before after r s w x y j k same p q
one_end before after r s w x y j k same (inl p) (inr q) = absurd (fits_or_full before after r s w x j k same p q.1)
one_end before after r s w x y j k same (inr p) (inl q) = absurd (fits_or_full before after s r w y k j (sym same) q p.1)
one_end before after r s w x y j k same (inr (still, p)) (inr (still_too, q)) =
    p.reply
    ∙ one_full_pack k.generation w p.what q.what p.count q.count p.limit q.limit (subst (λ (g : ℕ). RefusesPack g w (Full p.what p.count p.limit)) same p.refused) q.refused
    ∙ sym q.reply

pub one_pack : (before after : Images) (r s : Reply) (w : World) → Packs before w after r → Packs before w after s → r ≡ s
one_pack before after r s w p q =
    one_end before after r s w p.1.1.place q.1.1.place p.1.0 q.1.0 ((one_kept before p.1.0 q.1.0 p.1.1 q.1.1).1) p.1.2 q.1.2

-- ---- events

more_batches : (w : World) (a : Asked) (cs : List Change) → Changes w a cs → applied w cs ≡ w → ⊥
more_batches w a cs p same =
    let none : w.batches ≡ w.batches + 1 = sym (ap (λ (v : World). v.batches) same) ∙ one_batch w a cs p in
    absurd (omega (arith, none))

entered_or_not : HeldIsOne → (a : Asked) (before : Images) (w : World) (after : Images) (r t : Reply) → IsEntered a before w after r → IsUnstored a before w after t → ⊥
entered_or_not law a before w after r t p q = more_batches w a p.changes p.submits (one_world law after (applied w p.changes) w p.held q.held)

-- ---- an event that is refused

one_not_live : (w : World) (pid : ℕ) (c d : Cause) → IsNotLive w pid c → IsNotLive w pid d → c ≡ d
one_not_live w pid c d (inl p) (inl q) = p.1 ∙ sym q.1
one_not_live w pid c d (inl p) (inr q) = absurd (let none = p.0 in let some = q.1.1 in cc (none, some))
one_not_live w pid c d (inr p) (inl q) = absurd (let none = q.0 in let some = p.1.1 in cc (none, some))
one_not_live w pid c d (inr p) (inr q) =
    let one : p.1.0 ≡ q.1.0 = some_process (find_record pid w.records) p.1.0 q.1.0 p.1.1 q.1.1 in
    let same : p.0 ≡ q.0 = p.1.3 ∙ ap (λ (r : ProcessRecord). r.state) one ∙ sym q.1.3 in
    p.2 ∙ ap (cause.Ended pid) same ∙ sym q.2

one_cause : (a : Asked) (w : World) (c d : Cause) → IsRefusedFor a w c → IsRefusedFor a w d → c ≡ d
one_cause (asked.Submit s) w c d p q = absurd p
one_cause (asked.Pause pid) w c d p q = one_not_live w pid c d p q
one_cause (asked.Play pid) w c d p q = one_not_live w pid c d p q
one_cause (asked.Kill pid) w c d p q = one_not_live w pid c d p q

live_or_not : (w : World) (pid : ℕ) (changes : ProcessRecord → List Change) (cs : List Change) (c : Cause) → IsOfLive w pid changes cs → IsNotLive w pid c → ⊥
live_or_not w pid changes cs c l (inl none) = let found = l.found in let gone = none.0 in cc (found, gone)
live_or_not w pid changes cs c l (inr over) =
    let one : l.process ≡ over.1.0 = some_process (find_record pid w.records) l.process over.1.0 l.found over.1.1 in
    let both : false ≡ true = sym l.live ∙ ap (λ (r : ProcessRecord). has_ended r.state) one ∙ over.1.2 in
    absurd (cc)

-- what may happen isn't refused
changes_or_refused : (a : Asked) (w : World) (cs : List Change) (c : Cause) → Changes w a cs → IsRefusedFor a w c → ⊥
changes_or_refused (asked.Submit s) w cs c leads refused = refused
changes_or_refused (asked.Pause pid) w cs c leads refused = live_or_not w pid pause_changes cs c (pauses_of w pid cs leads) refused
changes_or_refused (asked.Play pid) w cs c leads refused = live_or_not w pid play_changes cs c (plays_of w pid cs leads) refused
changes_or_refused (asked.Kill pid) w cs c leads refused = live_or_not w pid (kill_changes w) cs c (kills_of w pid cs leads) refused

-- ---- a world that would be too full

-- it would be so after these changes, which aren't none
pub record WouldBeFull (a : Asked) (w : World) : Type 0 where
  pub changes : List Change
  pub leads : Changes w a changes
  pub some : changes ≢ []

submits_so : (s : Submission) (w : World) (x : What) (c l : ℕ) (h : IsCrowded (asked.Submit s) w x c l) → Changes w (asked.Submit s) h.0
submits_so s w x c l h = submits s.library s.caching s.name s.inputs h.0 h.1

mark_full : (a : Asked) (w : World) (x : What) (c l : ℕ) → FullOfBatches (AreChangesOf w (event_of a)) w (turn_error.Full x c l) → WouldBeFull a w
mark_full a w x c l h = record { changes = h.0.0; leads = (h.0.1 (limits_of a).poll_ms).leads; some = h.0.2 }

would_be_full : (a : Asked) (w : World) (x : What) (c l : ℕ) → IsCrowded a w x c l → WouldBeFull a w
would_be_full (asked.Submit s) w x c l h =
    record { changes = h.0; leads = submits_so s w x c l h; some = submission_some w s h.0 (submits_so s w x c l h) }
would_be_full (asked.Pause pid) w x c l h = mark_full (asked.Pause pid) w x c l h
would_be_full (asked.Play pid) w x c l h = mark_full (asked.Play pid) w x c l h
would_be_full (asked.Kill pid) w x c l h = mark_full (asked.Kill pid) w x c l h

one_crowd : (n b most : ℕ) (x y : What) (c d l m : ℕ) → AreTooMany n b most x c l → AreTooMany n b most y d m → is_full x c l ≡ is_full y d m
one_crowd n b most what.Bytes y c d l m p q = absurd p
one_crowd n b most what.Generations y c d l m p q = absurd p
one_crowd n b most what.Nodes what.Bytes c d l m p q = absurd q
one_crowd n b most what.Nodes what.Generations c d l m p q = absurd q
one_crowd n b most what.Nodes what.Nodes c d l m p q = full_alike what.Nodes what.Nodes c d l m refl (p.0 ∙ sym q.0) (p.1 ∙ sym q.1)
one_crowd n b most what.Nodes what.Batches c d l m p q = absurd (omega (arith, p.2, q.2))
one_crowd n b most what.Batches what.Bytes c d l m p q = absurd q
one_crowd n b most what.Batches what.Generations c d l m p q = absurd q
one_crowd n b most what.Batches what.Nodes c d l m p q = absurd (omega (arith, p.2, q.2))
one_crowd n b most what.Batches what.Batches c d l m p q = full_alike what.Batches what.Batches c d l m refl (p.0 ∙ sym q.0) (p.1 ∙ sym q.1)

one_more_batch : (w : World) (x y : What) (c d l m : ℕ) → IsOneBatchTooMany w x c l → IsOneBatchTooMany w y d m → is_full x c l ≡ is_full y d m
one_more_batch w what.Nodes y c d l m p q = absurd p
one_more_batch w what.Bytes y c d l m p q = absurd p
one_more_batch w what.Generations y c d l m p q = absurd p
one_more_batch w what.Batches what.Nodes c d l m p q = absurd q
one_more_batch w what.Batches what.Bytes c d l m p q = absurd q
one_more_batch w what.Batches what.Generations c d l m p q = absurd q
one_more_batch w what.Batches what.Batches c d l m p q = full_alike what.Batches what.Batches c d l m refl (p.0 ∙ sym q.0) (p.1 ∙ sym q.1)

one_crowded : (a : Asked) (w : World) (x y : What) (c d l m : ℕ) → IsCrowded a w x c l → IsCrowded a w y d m → is_full x c l ≡ is_full y d m
one_crowded (asked.Submit s) w x y c d l m p q =
    one_crowd (length (applied w p.0).nodes) (applied w p.0).batches s.limits.max_nodes x y c d l m p.2
    (subst (λ (cs : List Change). AreTooMany (length (applied w cs).nodes) (applied w cs).batches s.limits.max_nodes y d m)
    (one_change w (asked.Submit s) q.0 p.0 (submits_so s w y d m q) (submits_so s w x c l p)) q.2)
one_crowded (asked.Pause pid) w x y c d l m p q = one_more_batch w x y c d l m p.1 q.1
one_crowded (asked.Play pid) w x y c d l m p q = one_more_batch w x y c d l m p.1 q.1
one_crowded (asked.Kill pid) w x y c d l m p q = one_more_batch w x y c d l m p.1 q.1

room_or_crowd : (n b most : ℕ) (x : What) (c l : ℕ) → (n ≤ most) × (b ≤ 4000000000) → AreTooMany n b most x c l → ⊥
room_or_crowd n b most what.Nodes c l room h = absurd (omega (arith, room.0, h.2))
room_or_crowd n b most what.Bytes c l room h = h
room_or_crowd n b most what.Batches c l room h = absurd (omega (arith, room.1, h.3))
room_or_crowd n b most what.Generations c l room h = h

room_or_batch : (w : World) (b : ℕ) (x : What) (c l : ℕ) → b ≡ w.batches + 1 → b ≤ 4000000000 → IsOneBatchTooMany w x c l → ⊥
room_or_batch w b what.Nodes c l more few h = h
room_or_batch w b what.Bytes c l more few h = h
room_or_batch w b what.Batches c l more few h = absurd (omega (arith, more, few, h.2))
room_or_batch w b what.Generations c l more few h = h

-- the world isn't too full, but the journal too long
crowded_or_overlong : (a : Asked) (before : Images) (w : World) (x y : What) (c d l m : ℕ) → IsCrowded a w x c l → OverlongIn a before w y d m → ⊥
crowded_or_overlong (asked.Submit s) before w x y c d l m p q =
    room_or_crowd (length (applied w p.0).nodes) (applied w p.0).batches s.limits.max_nodes x c l
    (subst (λ (cs : List Change). HasRoom s.limits.max_nodes (applied w cs)) (one_change w (asked.Submit s) q.2.changes p.0 q.2.submits (submits_so s w x c l p)) q.2.room) p.2
crowded_or_overlong (asked.Pause pid) before w x y c d l m p q =
    room_or_batch w (applied w q.2.changes).batches x c l (one_batch w (asked.Pause pid) q.2.changes q.2.submits) q.2.room.1 p.1
crowded_or_overlong (asked.Play pid) before w x y c d l m p q =
    room_or_batch w (applied w q.2.changes).batches x c l (one_batch w (asked.Play pid) q.2.changes q.2.submits) q.2.room.1 p.1
crowded_or_overlong (asked.Kill pid) before w x y c d l m p q =
    room_or_batch w (applied w q.2.changes).batches x c l (one_batch w (asked.Kill pid) q.2.changes q.2.submits) q.2.room.1 p.1

-- ---- a journal that would be too long

-- the journal's bytes and the limit in force hang on its version and its end
abbrev refused_as : Limits → (version end : ℕ) → World → List Change → What → (count limit : ℕ) → Type 0
refused_as limits version end w cs what.Nodes count limit =
    (count ≡ length (applied w cs).nodes) × (limit ≡ limits.max_nodes) × (limits.max_nodes < length (applied w cs).nodes)
refused_as limits version end w cs what.Bytes count limit =
    (length (applied w cs).nodes ≤ limits.max_nodes)
    × (count ≡ min (size_after end version (spelled cs)) (2 ^ 64 - 1)) × (limit ≡ byte_limit version limits.max_bytes)
    × (byte_limit version limits.max_bytes < size_after end version (spelled cs))
refused_as limits version end w cs what.Batches count limit = ⊥
refused_as limits version end w cs what.Generations count limit = ⊥

module _ (limits : Limits) where
  commit_refused_as : (j : Journal) (w : World) (cs : List Change) (x : What) (c l : ℕ) → RefusesCommit j limits w cs (Full x c l) → refused_as limits j.version j.end w cs x c l
  commit_refused_as j w cs what.Nodes c l h = h
  commit_refused_as j w cs what.Bytes c l h = h
  commit_refused_as j w cs what.Batches c l h = h
  commit_refused_as j w cs what.Generations c l h = h

  one_refused : (version end : ℕ) (w : World) (cs : List Change) (x y : What) (c d l m : ℕ) → refused_as limits version end w cs x c l → refused_as limits version end w cs y d m
      → is_full x c l ≡ is_full y d m
  one_refused version end w cs what.Batches y c d l m p q = absurd p
  one_refused version end w cs what.Generations y c d l m p q = absurd p
  one_refused version end w cs what.Nodes what.Batches c d l m p q = absurd q
  one_refused version end w cs what.Nodes what.Generations c d l m p q = absurd q
  one_refused version end w cs what.Nodes what.Nodes c d l m p q = full_alike what.Nodes what.Nodes c d l m refl (p.0 ∙ sym q.0) (p.1 ∙ sym q.1)
  one_refused version end w cs what.Nodes what.Bytes c d l m p q = absurd (omega (arith, p.2, q.0))
  one_refused version end w cs what.Bytes what.Batches c d l m p q = absurd q
  one_refused version end w cs what.Bytes what.Generations c d l m p q = absurd q
  one_refused version end w cs what.Bytes what.Nodes c d l m p q = absurd (omega (arith, p.0, q.2))
  one_refused version end w cs what.Bytes what.Bytes c d l m p q = full_alike what.Bytes what.Bytes c d l m refl (p.1 ∙ sym q.1) (p.2 ∙ sym q.2)

one_overlong : (a : Asked) (before : Images) (w : World) (x y : What) (c d l m : ℕ) → OverlongIn a before w x c l → OverlongIn a before w y d m → is_full x c l ≡ is_full y d m
one_overlong a before w x y c d l m p q =
    let kept = one_kept before q.0 p.0 q.1 p.1 in
    let same = one_change w a q.2.changes p.2.changes q.2.submits p.2.submits in
    let other = commit_refused_as (limits_of a) q.0 w q.2.changes y d m q.2.refused in
    one_refused (limits_of a) p.0.version p.0.end w p.2.changes x y c d l m (commit_refused_as (limits_of a) p.0 w p.2.changes x c l p.2.refused)
    (subst (λ (v : ℕ). refused_as (limits_of a) v p.0.end w p.2.changes y d m) kept.0
    (subst (λ (e : ℕ). refused_as (limits_of a) q.0.version e w p.2.changes y d m) kept.2
    (subst (λ (cs : List Change). refused_as (limits_of a) q.0.version q.0.end w cs y d m) same other)))

-- ---- an event of which nothing is stored

module _ (a : Asked) (before : Images) (w : World) (r t : Reply) where
  idle_or_some : (cs : List Change) → Changes w a [] → Changes w a cs → cs ≢ [] → ⊥
  idle_or_some cs idle leads some = some (one_change w a cs [] leads idle)

  idle_or_crowded : (x : What) (c l : ℕ) → Changes w a [] → IsCrowded a w x c l → ⊥
  idle_or_crowded x c l idle full = let f = would_be_full a w x c l full in idle_or_some f.changes idle f.leads f.some

  refused_or_crowded : (why : Cause) (x : What) (c l : ℕ) → IsRefusedFor a w why → IsCrowded a w x c l → ⊥
  refused_or_crowded why x c l refused full = let f = would_be_full a w x c l full in changes_or_refused a w f.changes why f.leads refused

  one_alone : TellsAlone a w r → TellsAlone a w t → r ≡ t
  one_alone (inl p) (inl q) = p.1 ∙ sym q.1
  one_alone (inl p) (inr (inl q)) = absurd (changes_or_refused a w [] q.0 p.0 q.1)
  one_alone (inl p) (inr (inr q)) = absurd (idle_or_crowded q.0 q.1 q.2 p.0 q.3)
  one_alone (inr (inl p)) (inl q) = absurd (changes_or_refused a w [] p.0 q.0 p.1)
  one_alone (inr (inl p)) (inr (inl q)) = p.2 ∙ ap refuses (one_cause a w p.0 q.0 p.1 q.1) ∙ sym q.2
  one_alone (inr (inl p)) (inr (inr q)) = absurd (refused_or_crowded p.0 q.0 q.1 q.2 p.1 q.3)
  one_alone (inr (inr p)) (inl q) = absurd (idle_or_crowded p.0 p.1 p.2 q.0 p.3)
  one_alone (inr (inr p)) (inr (inl q)) = absurd (refused_or_crowded q.0 p.0 p.1 p.2 q.1 p.3)
  one_alone (inr (inr p)) (inr (inr q)) = p.4 ∙ one_crowded a w p.0 q.0 p.1 q.1 p.2 q.2 p.3 q.3 ∙ sym q.4

alone_or_overlong : (a : Asked) (before : Images) (w : World) (r t : Reply) → TellsAlone a w r → TellsFull (OverlongIn a before w) t → ⊥
alone_or_overlong a before w r t (inl p) q = let o = q.3.2 in idle_or_some a before w r t o.changes p.0 o.submits o.some
alone_or_overlong a before w r t (inr (inl p)) q = let o = q.3.2 in changes_or_refused a w o.changes p.0 o.submits p.1
alone_or_overlong a before w r t (inr (inr p)) q = crowded_or_overlong a before w p.0 q.0 p.1 q.1 p.2 q.2 p.3 q.3

one_unstored : (a : Asked) (before : Images) (w : World) (r t : Reply) → TellsAlone a w r ⊎ TellsFull (OverlongIn a before w) r
    → TellsAlone a w t ⊎ TellsFull (OverlongIn a before w) t → r ≡ t
one_unstored a before w r t (inl p) (inl q) = one_alone a before w r t p q
one_unstored a before w r t (inl p) (inr q) = absurd (alone_or_overlong a before w r t p q)
one_unstored a before w r t (inr p) (inl q) = absurd (alone_or_overlong a before w t r q p)
one_unstored a before w r t (inr p) (inr q) = p.4 ∙ one_overlong a before w p.0 q.0 p.1 q.1 p.2 q.2 p.3 q.3 ∙ sym q.4

pub one_entry : HeldIsOne → (a : Asked) (before after : Images) (r t : Reply) (w : World) → Enters a before w after r → Enters a before w after t → r ≡ t
one_entry law a before after r t w (inl p) (inl q) = p.reply ∙ sym q.reply
one_entry law a before after r t w (inl p) (inr q) = absurd (entered_or_not law a before w after r t p q)
one_entry law a before after r t w (inr p) (inl q) = absurd (entered_or_not law a before w after t r q p)
one_entry law a before after r t w (inr p) (inr q) = one_unstored a before w r t p.tells q.tells
