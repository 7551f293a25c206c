-- Where some process is ready at some moment, not all live ones are held up.
use Rattle.std.proofs.Common.{◌≡◌, ◌⊎◌, inl, inr, ℕ, ◌+◌, ◌<◌, length, take, Bool, true, false, List, [], ◌∷◌, Option, Some, None, get_or, refl, sym, ap, ◌∙◌}
use Rattle.std.specs.Prelude.{not, ◌&&◌, ◌||◌, All}
use Rattle.std.specs.List.{list_any, list_all}
use Rattle.std.proofs.lemmas.List.Folds.{list_any_at, list_any_more}
use Rattle.std.proofs.lemmas.List.Sums.{AllPass-from_list_all}
use Rattle.wc_value.specs.declared.process.ProcessState.{ProcessState}
use Rattle.wc_value.specs.declared.process.ProcessState.TheVariants as state
use Rattle.wc_state.specs.declared.record.Await.{Await}
use Rattle.wc_state.specs.declared.record.Part.{Part}
use Rattle.wc_state.specs.declared.record.Part.TheVariants as part
use Rattle.wc_state.specs.declared.record.ProcessKind.{ProcessKind}
use Rattle.wc_state.specs.declared.record.ProcessKind.TheVariants as kind
use Rattle.wc_state.specs.declared.record.ProcessRecord.{ProcessRecord}
use Rattle.wc_world.specs.World.{World}
use Rattle.wc_world.specs.Consistent.{IsConsistent, Stands}
use Rattle.wc_world.specs.Fits.{part_fits, is_nil}
use Rattle.wc_world.specs.Records.{find_record, has_ended}
use Rattle.wc_world.proofs.FoundRecords.{found_holds, left, right}
use Rattle.wc_machine.specs.Kills.{awaits_of}
use Rattle.wc_machine.specs.Readiness.{ended_at, is_over, may_go, is_ready}
use Rattle.wc_core.specs.Standing.{is_any_live, is_held_up, is_live_and, is_resting}
use Rattle.wc_core.proofs.Held.{not_true}

is_false : (b : Bool) → (b ≡ true → ⊥) → b ≡ false
is_false true h = absurd (h refl)
is_false false h = refl

is_true : (b : Bool) → (b ≡ false → ⊥) → b ≡ true
is_true true h = refl
is_true false h = absurd (h refl)

none_passes : (p : ProcessRecord → Bool) (rs : List ProcessRecord) → list_any p rs ≡ false → All (λ r. p r ≡ false) rs
none_passes p rs h i d lt = is_false (p (get_or rs i d)) (λ yes. let some = list_any_at p rs i d lt yes in cc (some, h))

-- of those that have ended none is live and held up
none_lives : (rs : List ProcessRecord) (h : ProcessRecord → Bool) (awaiting : List Await) → list_all (λ a. ended_at rs a.pid) awaiting ≡ true
    → list_any (λ a. is_live_and h (find_record a.pid rs)) awaiting ≡ false
none_lives rs h [] ended = refl
none_lives rs h (a ∷ rest) ended =
    ap (λ (b : Bool). b || list_any (λ b. is_live_and h (find_record b.pid rs)) rest) (over (find_record a.pid rs) (left (ended_at rs a.pid) _ ended))
    ∙ none_lives rs h rest (right (ended_at rs a.pid) (list_all (λ b. ended_at rs b.pid) rest) ended)
  where
    over : (o : Option ProcessRecord) → is_over o ≡ true → is_live_and h o ≡ false
    over None e = refl
    over (Some q) e = ap (λ (b : Bool). not b && h q) e

nil_awaits : (rs : List ProcessRecord) (h : ProcessRecord → Bool) (awaiting : List Await) → is_nil awaiting ≡ true
    → list_any (λ a. is_live_and h (find_record a.pid rs)) awaiting ≡ false
nil_awaits rs h [] nil = refl
nil_awaits rs h (a ∷ rest) nil = absurd (cc)

module _ (w : World) (c : IsConsistent w) (r : ProcessRecord) (found : find_record r.node w.records ≡ Some r) (now : ℕ) (ready : is_ready w now r ≡ true) where
  stands : Stands w r
  stands = found_holds (Stands w) r.node w.records r c.records found

  goes : may_go w now r.state r.part ≡ true
  goes = right (not r.paused) (may_go w now r.state r.part) ready

  free : r.paused ≡ false
  free = not_true r.paused (left (not r.paused) (may_go w now r.state r.part) ready)

  lives : has_ended r.state ≡ false
  lives = live_state r.state goes
    where
      live_state : (s : ProcessState) → may_go w now s r.part ≡ true → has_ended s ≡ false
      live_state state.Created h = refl
      live_state state.Running h = refl
      live_state state.Waiting h = refl
      live_state (state.Finished n) h = absurd (cc)
      live_state (state.Excepted e) h = absurd (cc)
      live_state state.Killed h = absurd (cc)

  -- it awaits no live process
  awaits_none : (h : ProcessRecord → Bool) → list_any (λ a. is_live_and h (find_record a.pid w.records)) (awaits_of r.part) ≡ false
  awaits_none h = by r.state r.part stands.part goes
    where
      running : (k : ProcessKind) (p : Part) → part_fits k state.Running p ≡ true
          → list_any (λ a. is_live_and h (find_record a.pid w.records)) (awaits_of p) ≡ false
      running k part.Fresh fits = refl
      running kind.Chain (part.Chain d) fits = nil_awaits w.records h d.awaiting fits
      running kind.Job (part.Chain d) fits = absurd (cc)
      running kind.Function (part.Chain d) fits = absurd (cc)
      running k (part.Job j) fits = refl
      running k part.Over fits = refl

      created : (p : Part) → part_fits r.kind state.Created p ≡ true → list_any (λ a. is_live_and h (find_record a.pid w.records)) (awaits_of p) ≡ false
      created part.Fresh fits = refl
      created (part.Chain d) fits = absurd (cc)
      created (part.Job j) fits = refl
      created part.Over fits = refl

      waiting : (p : Part) → may_go w now state.Waiting p ≡ true → list_any (λ a. is_live_and h (find_record a.pid w.records)) (awaits_of p) ≡ false
      waiting part.Fresh go = refl
      waiting (part.Chain d) go = none_lives w.records h d.awaiting go
      waiting (part.Job j) go = refl
      waiting part.Over go = refl

      by : (s : ProcessState) (p : Part) → part_fits r.kind s p ≡ true → may_go w now s p ≡ true
          → list_any (λ a. is_live_and h (find_record a.pid w.records)) (awaits_of p) ≡ false
      by state.Created p fits go = created p fits
      by state.Running p fits go = running r.kind p fits
      by state.Waiting p fits go = waiting p go
      by (state.Finished n) p fits go = absurd (cc)
      by (state.Excepted e) p fits go = absurd (cc)
      by state.Killed p fits go = absurd (cc)

  not_held : has_ended r.state || is_held_up 16 w.records r ≡ false
  not_held =
      ap (λ (b : Bool). b || (r.paused || list_any (λ a. is_live_and (is_held_up 15 w.records) (find_record a.pid w.records)) (awaits_of r.part))) lives
      ∙ ap (λ (b : Bool). b || list_any (λ a. is_live_and (is_held_up 15 w.records) (find_record a.pid w.records)) (awaits_of r.part)) free
      ∙ awaits_none (is_held_up 15 w.records)

  not_resting : is_resting w ≡ false
  not_resting =
      is_false (is_resting w)
      (λ rest.
      let held = found_holds (λ x. has_ended x.state || is_held_up 16 w.records x ≡ true) r.node w.records r
      (AllPass-from_list_all (λ x. has_ended x.state || is_held_up 16 w.records x) w.records rest) found in
      cc (held, not_held))

  any_live : is_any_live w ≡ true
  any_live =
      is_true (is_any_live w)
      (λ none.
      let over = found_holds (λ x. not (has_ended x.state) ≡ false) r.node w.records r (none_passes (λ x. not (has_ended x.state)) w.records none) found in
      let live : not (has_ended r.state) ≡ true = ap not lives in
      cc (over, live))

  -- so the world goes on
  pub ready_goes : (is_any_live w ≡ true) × (is_resting w ≡ false)
  ready_goes = (any_live, not_resting)

-- ---- what a pass over the records has found

pub live_more : (p : ProcessRecord → Bool) (rs : List ProcessRecord) (i : ℕ) (r : ProcessRecord) → i < length rs → r ≡ get_or rs i r → (before now : Bool)
    → before ≡ list_any p (take i rs) → ((p r ≡ true) × (now ≡ true)) ⊎ ((p r ≡ false) × (now ≡ before)) → now ≡ list_any p (take (i + 1) rs)
live_more p rs i r lt is before now h step =
    let item : p (get_or rs i r) ≡ p r = ap p (sym is) in
    or_is before now (p r) step ∙ sym (list_any_more p rs i r lt ∙ (λ j. sym h j || item j))
  where
    or_is : (before now item : Bool) → ((item ≡ true) × (now ≡ true)) ⊎ ((item ≡ false) × (now ≡ before)) → now ≡ before || item
    or_is true now true (inl e) = e.1
    or_is false now true (inl e) = e.1
    or_is before now false (inl e) = absurd (cc (e.0))
    or_is true now false (inr e) = e.1
    or_is false now false (inr e) = e.1
    or_is before now true (inr e) = absurd (cc (e.0))
