-- Where unready process is ready at any moment, each live one is held up.
use Rattle.std.proofs.Common.{◌≡◌, ℕ, zero, suc, ◌+◌, ◌≤◌, Bool, true, false, List, [], ◌∷◌, Some, get_or, refl, sym, ap, subst, ◌∙◌, arith, le-leb}
use Rattle.std.specs.Prelude.{not, ◌&&◌, ◌||◌, ◌==◌, nat_le, All}
use Rattle.std.specs.List.{list_any, list_all}
use Rattle.std.proofs.lemmas.Bool.{eqb-true}
use Rattle.std.proofs.lemmas.List.Elements.{All-head, All-tail}
use Rattle.std.proofs.lemmas.List.Sums.{list_all-from_AllPass}
use Rattle.wc_value.specs.declared.process.ProcessState.{ProcessState}
use Rattle.wc_value.specs.declared.process.ProcessState.TheVariants as state
use Rattle.wc_graph.specs.Rules.{IsCall}
use Rattle.wc_graph.specs.declared.link.Link.{Link}
use Rattle.wc_state.specs.declared.record.Await.{Await}
use Rattle.wc_state.specs.declared.record.Part.{Part}
use Rattle.wc_state.specs.declared.record.Part.TheVariants as part
use Rattle.wc_state.specs.declared.record.ProcessKind.{ProcessKind}
use Rattle.wc_state.specs.declared.record.ProcessKind.TheVariants as kind
use Rattle.wc_state.specs.declared.record.ProcessRecord.{ProcessRecord}
use Rattle.wc_world.specs.World.{World}
use Rattle.wc_world.specs.Consistent.{IsConsistent, Stands}
use Rattle.wc_world.specs.Fits.{call_fits, part_fits, standing_fits, is_nil, frame_fits, outline_lengths}
use Rattle.wc_world.specs.Records.{find_record, has_ended, has_called, is_call_from}
use Rattle.wc_world.proofs.FoundRecords.{found_holds, left, right, IsDeeper, call_is_deeper}
use Rattle.wc_world.proofs.ReachedLists.{unique}
use Rattle.wc_world.proofs.SnapshotLists.{number_of_found}
use Rattle.wc_machine.specs.Kills.{awaits_of}
use Rattle.wc_machine.specs.Recorded.{its_definition}
use Rattle.wc_machine.specs.Readiness.{ended_at, is_over, is_through, may_go, is_ready}
use Rattle.wc_core.specs.Standing.{is_held_up, is_live_and, is_resting, moment_in}

pub not_true : (b : Bool) → not b ≡ true → b ≡ false
not_true true h = absurd (cc)
not_true false h = refl

-- a process is never ready, whatever moment it waits for
abbrev pub IsNeverReady : World → ProcessRecord → Type 0
IsNeverReady w r = is_ready w (moment_in r.part) r ≡ false

-- the live chain that waits awaits a process that lives
abbrev AwaitsLive : World → ProcessRecord → Type 0
AwaitsLive w r = (h : ProcessRecord → Bool)
    → ((pid : ℕ) → has_called w.links r.node pid ≡ true → ended_at w.records pid ≡ false → is_live_and h (find_record pid w.records) ≡ true)
    → list_any (λ a. is_live_and h (find_record a.pid w.records)) (awaits_of r.part) ≡ true

-- of those that it awaits, all of which it called, one hasn't ended
one_lives : (w : World) (pid : ℕ) (h : ProcessRecord → Bool) (awaiting : List Await) → list_all (λ a. has_called w.links pid a.pid) awaiting ≡ true
    → list_all (λ a. ended_at w.records a.pid) awaiting ≡ false
    → ((n : ℕ) → has_called w.links pid n ≡ true → ended_at w.records n ≡ false → is_live_and h (find_record n w.records) ≡ true)
    → list_any (λ a. is_live_and h (find_record a.pid w.records)) awaiting ≡ true
one_lives w pid h [] called some held = absurd (cc)
one_lives w pid h (a ∷ rest) called some held =
    by (ended_at w.records a.pid) some
    (λ lives. held a.pid (left (has_called w.links pid a.pid) (list_all (λ b. has_called w.links pid b.pid) rest) called) lives)
    (λ others. one_lives w pid h rest (right (has_called w.links pid a.pid) (list_all (λ b. has_called w.links pid b.pid) rest) called) others held)
  where
    or_true : (b c : Bool) → c ≡ true → b || c ≡ true
    or_true true c e = refl
    or_true false c e = e

    by : (ended : Bool) → ended && list_all (λ b. ended_at w.records b.pid) rest ≡ false
        → (ended ≡ false → is_live_and h (find_record a.pid w.records) ≡ true)
        → (list_all (λ b. ended_at w.records b.pid) rest ≡ false → list_any (λ b. is_live_and h (find_record b.pid w.records)) rest ≡ true)
        → is_live_and h (find_record a.pid w.records) || list_any (λ b. is_live_and h (find_record b.pid w.records)) rest ≡ true
    by true e here more = or_true (is_live_and h (find_record a.pid w.records)) (list_any (λ b. is_live_and h (find_record b.pid w.records)) rest) (more e)
    by false e here more = ap (λ (b : Bool). b || list_any (λ b. is_live_and h (find_record b.pid w.records)) rest) (here refl)

-- a link of which a test holds
link_of : (p : Link → Bool) (P : Link → Type 0) (ls : List Link) → All P ls → list_any p ls ≡ true → (l : Link) × (p l ≡ true) × P l
link_of p P [] all h = absurd (cc)
link_of p P (l ∷ ls) all h = at (p l) refl h (λ others. link_of p P ls (All-tail P l ls all) others)
  where
    at : (b : Bool) → p l ≡ b → b || list_any p ls ≡ true → (list_any p ls ≡ true → (m : Link) × (p m ≡ true) × P m) → (m : Link) × (p m ≡ true) × P m
    at true e k more = (l, e, All-head P l ls all)
    at false e k more = more k

module _ (w : World) (c : IsConsistent w) (never : All (IsNeverReady w) w.records) where
  -- what a process called is there, one level deeper
  called_there : (r : ProcessRecord) (pid : ℕ) → find_record r.node w.records ≡ Some r → has_called w.links r.node pid ≡ true → IsDeeper r (find_record pid w.records)
  called_there r pid found called =
      let link = link_of (λ l. is_call_from r.node l && (l.target == pid)) (λ l. IsCall l.link → call_fits w.records l ≡ true) w.links c.calls called in
      let l : Link = link.0 in
      let target : l.target ≡ pid = eqb-true l.target pid (right (is_call_from r.node l) (l.target == pid) link.1) in
      subst (λ (n : ℕ). IsDeeper r (find_record n w.records)) target
      (call_is_deeper w.records l r.node r found (left (is_call_from r.node l) (l.target == pid) link.1) link.2)

  -- a live process that isn't paused and is never ready is a chain that awaits one that lives
  awaits_live : (r : ProcessRecord) → find_record r.node w.records ≡ Some r → has_ended r.state ≡ false → r.paused ≡ false → AwaitsLive w r
  awaits_live r found live free h held =
      by r.state r.part stands.part live (ap (λ (b : Bool). not b && may_go w (moment_in r.part) r.state r.part) (sym free) ∙ not_ready) stands.standing
    where
      stands : Stands w r
      stands = found_holds (Stands w) r.node w.records r c.records found

      not_ready : is_ready w (moment_in r.part) r ≡ false
      not_ready = found_holds (IsNeverReady w) r.node w.records r never found

      waiting : (k : ProcessKind) (p : Part) → part_fits k state.Waiting p ≡ true → is_through w (moment_in p) p ≡ false → standing_fits w r p ≡ true
          → list_any (λ a. is_live_and h (find_record a.pid w.records)) (awaits_of p) ≡ true
      waiting kind.Chain (part.Chain d) fits unready standing =
          let rest = right (not (is_nil d.frames)) _ standing in
          let calls = left (list_all (λ a. has_called w.links r.node a.pid) d.awaiting) _ (right (list_all (frame_fits (outline_lengths (its_definition w r))) d.frames) _ rest) in
          one_lives w r.node h d.awaiting calls unready held
      waiting kind.Chain part.Fresh fits unready standing = absurd (cc)
      waiting kind.Chain (part.Job j) fits unready standing = absurd (cc)
      waiting kind.Chain part.Over fits unready standing = absurd (cc)
      waiting kind.Job (part.Job j) fits unready standing = let yes : nat_le j.due j.due ≡ true = le-leb j.due j.due (omega arith) in absurd (cc)
      waiting kind.Job part.Fresh fits unready standing = absurd (cc)
      waiting kind.Job (part.Chain d) fits unready standing = absurd (cc)
      waiting kind.Job part.Over fits unready standing = absurd (cc)
      waiting kind.Function part.Fresh fits unready standing = absurd (cc)
      waiting kind.Function (part.Chain d) fits unready standing = absurd (cc)
      waiting kind.Function (part.Job j) fits unready standing = absurd (cc)
      waiting kind.Function part.Over fits unready standing = absurd (cc)

      by : (s : ProcessState) (p : Part) → part_fits r.kind s p ≡ true → has_ended s ≡ false → may_go w (moment_in p) s p ≡ false
          → standing_fits w r p ≡ true → list_any (λ a. is_live_and h (find_record a.pid w.records)) (awaits_of p) ≡ true
      by state.Created p fits l unready standing = absurd (cc)
      by state.Running p fits l unready standing = absurd (cc)
      by state.Waiting p fits l unready standing = waiting r.kind p fits unready standing
      by (state.Finished n) p fits l unready standing = absurd (cc)
      by (state.Excepted e) p fits l unready standing = absurd (cc)
      by state.Killed p fits l unready standing = absurd (cc)

  -- a live process is held up, since what it awaits is one level deeper, and depths go up to 16
  held : (levels : ℕ) (r : ProcessRecord) → find_record r.node w.records ≡ Some r → 17 ≤ levels + r.depth → has_ended r.state ≡ false
      → is_held_up levels w.records r ≡ true
  held zero r found deep live =
      let most : r.depth ≤ 16 = (found_holds (Stands w) r.node w.records r c.records found).not_above in absurd (omega arith)
  held (suc levels) r found deep live =
      at r.paused refl
      (λ pid called lives.
      let there : IsDeeper r (find_record pid w.records) = called_there r pid found called in
      let q : ProcessRecord = there.0 in
      let node : q.node ≡ pid = number_of_found pid w.records q there.1 in
      let itself : find_record q.node w.records ≡ Some q = ap (λ (n : ℕ). find_record n w.records) node ∙ there.1 in
      let q_lives : has_ended q.state ≡ false = ap is_over (sym there.1) ∙ lives in
      let deeper : q.depth ≡ suc r.depth = there.2 in
      let enough : 17 ≤ levels + q.depth = omega arith in
      ap (is_live_and (is_held_up levels w.records)) there.1
      ∙ ap (λ (b : Bool). not b && is_held_up levels w.records q) q_lives
      ∙ held levels q itself enough q_lives)
    where
      at : (b : Bool) → r.paused ≡ b
          → ((pid : ℕ) → has_called w.links r.node pid ≡ true → ended_at w.records pid ≡ false → is_live_and (is_held_up levels w.records) (find_record pid w.records) ≡ true)
          → r.paused || list_any (λ a. is_live_and (is_held_up levels w.records) (find_record a.pid w.records)) (awaits_of r.part) ≡ true
      at true e more = ap (λ (b : Bool). b || list_any (λ a. is_live_and (is_held_up levels w.records) (find_record a.pid w.records)) (awaits_of r.part)) e
      at false e more =
          ap (λ (b : Bool). b || list_any (λ a. is_live_and (is_held_up levels w.records) (find_record a.pid w.records)) (awaits_of r.part)) e
          ∙ awaits_live r found live e (is_held_up levels w.records) more

  pub all_held : is_resting w ≡ true
  all_held =
      list_all-from_AllPass (λ r. has_ended r.state || is_held_up 16 w.records r) w.records
      (λ i d lt.
      let r : ProcessRecord = get_or w.records i d in
      let found : find_record r.node w.records ≡ Some r = unique 1 w.nodes w.records c.numbered i d lt in
      let low : 1 ≤ r.depth = (found_holds (Stands w) r.node w.records r c.records found).not_below in
      by (has_ended r.state) (is_held_up 16 w.records r) (held 16 r found (omega arith)))
    where
      by : (ended up : Bool) → (ended ≡ false → up ≡ true) → ended || up ≡ true
      by true up h = refl
      by false up h = h refl
