-- A world with a live process, of which none is paused, isn't resting.
use Rattle.std.proofs.Common.{◌≡◌, ℕ, zero, suc, Bool, true, false, List, [], ◌∷◌, Option, Some, None, refl, sym, ap, ◌∙◌}
use Rattle.std.specs.Prelude.{All, not, ◌||◌, ◌&&◌}
use Rattle.std.specs.List.{list_all, list_any}
use Rattle.std.proofs.lemmas.List.Elements.{All-head, All-tail}
use Rattle.wc_state.specs.declared.record.Await.{Await}
use Rattle.wc_state.specs.declared.record.ProcessRecord.{ProcessRecord}
use Rattle.wc_world.specs.Records.{find_record, has_ended}
use Rattle.wc_world.specs.World.{World}
use Rattle.wc_world.proofs.FoundRecords.{found_holds}
use Rattle.wc_machine.specs.Kills.{awaits_of}
use Rattle.wc_runner.specs.Standing.{is_any_live, is_held_up, is_live_and, is_resting}

-- a live process isn't paused
abbrev pub Plays : ProcessRecord → Type 0
Plays r = has_ended r.state ≡ false → r.paused ≡ false

module _ (rs : List ProcessRecord) (plays : All Plays rs) where
  abbrev Below : ℕ → Type 0
  Below levels = (x : ProcessRecord) → has_ended x.state ≡ false → Plays x → is_held_up levels rs x ≡ false

  none_held : (levels : ℕ) (r : ProcessRecord) → has_ended r.state ≡ false → Plays r → is_held_up levels rs r ≡ false
  none_held zero r live free = free live
  none_held (suc levels) r live free = ap (λ (b : Bool). b || list_any (λ a. is_live_and (is_held_up levels rs) (find_record a.pid rs)) (awaits_of r.part)) (free live) ∙ none (λ x. none_held levels x) (awaits_of r.part)
    where
      here : Below levels → (pid : ℕ) (o : Option ProcessRecord) → find_record pid rs ≡ o → is_live_and (is_held_up levels rs) o ≡ false
      here below pid None is = refl
      here below pid (Some x) is = by (has_ended x.state) refl
        where
          by : (b : Bool) → has_ended x.state ≡ b → (not b && is_held_up levels rs x) ≡ false
          by true over = refl
          by false lives = below x lives (found_holds Plays pid rs x plays is)

      none : Below levels → (those : List Await) → list_any (λ a. is_live_and (is_held_up levels rs) (find_record a.pid rs)) those ≡ false
      none below [] = refl
      none below (a ∷ those) = ap (λ (b : Bool). b || list_any (λ a. is_live_and (is_held_up levels rs) (find_record a.pid rs)) those) (here below a.pid (find_record a.pid rs) refl) ∙ none below those

  -- so where all of these are over or held up, all are over
  all_over : (xs : List ProcessRecord) → All Plays xs → list_all (λ r. has_ended r.state || is_held_up 16 rs r) xs ≡ true → list_any (λ r. not (has_ended r.state)) xs ≡ false
  all_over [] free h = refl
  all_over (x ∷ xs) free h = by (has_ended x.state) refl h (all_over xs (All-tail Plays x xs free))
    where
      by : (b : Bool) → has_ended x.state ≡ b → ((b || is_held_up 16 rs x) && list_all (λ r. has_ended r.state || is_held_up 16 rs r) xs) ≡ true
          → (list_all (λ r. has_ended r.state || is_held_up 16 rs r) xs ≡ true → list_any (λ r. not (has_ended r.state)) xs ≡ false)
          → (not b || list_any (λ r. not (has_ended r.state)) xs) ≡ false
      by true over both rest = rest both
      by false lives both rest =
          let held : is_held_up 16 rs x ≡ false = none_held 16 x lives (All-head Plays x xs free) in
          let not_held : false ≡ true = sym (ap (λ (b : Bool). b && list_all (λ r. has_ended r.state || is_held_up 16 rs r) xs) held) ∙ both in
          absurd (cc not_held)

pub not_resting : (w : World) → All Plays w.records → is_any_live w ≡ true → is_resting w ≡ true → ⊥
not_resting w plays live resting = let none : is_any_live w ≡ false = all_over w.records plays w.records plays resting in cc (live, none)

-- where all have ended none is live
pub none_live : (rs : List ProcessRecord) → All (λ r. has_ended r.state ≡ true) rs → list_any (λ r. not (has_ended r.state)) rs ≡ false
none_live [] h = refl
none_live (r ∷ rs) h =
    ap (λ (b : Bool). not b || list_any (λ x. not (has_ended x.state)) rs) (All-head (λ x. has_ended x.state ≡ true) r rs h)
    ∙ none_live rs (All-tail (λ x. has_ended x.state ≡ true) r rs h)
