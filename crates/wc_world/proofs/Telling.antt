-- What terms say of a batch is what its setting says.
use Rattle.std.proofs.Common.{◌≡◌, ℕ, Bool, true, false, Option, Some, None, inr, refl, sym, ap, ◌∙◌}
use Rattle.std.specs.Prelude.{if◌then◌else◌, ◌&&◌, ◌||◌, ◌==◌, nat_lt}
use Rattle.wc_state.specs.declared.record.ProcessRecord.{ProcessRecord}
use Rattle.wc_world.specs.declared.change.Change.TheVariants as change
use Rattle.wc_records.specs.declared.change.SetProcess.{SetProcess}
use Rattle.wc_world.specs.declared.error.WorldError.TheVariants as error
use Rattle.wc_world.specs.declared.terms.Terms.{Terms}
use Rattle.wc_world.specs.World.{World}
use Rattle.wc_world.specs.Records.{find_record, is_calculation}
use Rattle.wc_world.specs.Applied.{started_in}
use Rattle.wc_world.specs.Fits.{set_fits}
use Rattle.wc_world.specs.Slots.{kept_at}
use Rattle.wc_world.specs.Accepted.{Setting, kepts, kept_of, kept_started, kept_ended, started_after, ended_before, is_source, source_fits}
use Rattle.wc_world.specs.Called.{SetFits}
use Rattle.wc_world.specs.Drafts.{Tells, started_by, ended_by, is_source_by, source_fits_by, FitsBy, RefusesBy}
use Rattle.wc_world.proofs.FoundRecords.{left, right}

module _ (t : Terms) (s : Setting) (h : Tells t s) where
  started_told : (c : SetProcess) (r : ProcessRecord) → started_after s c r ≡ started_by t c r
  started_told c r =
      ap (λ (b : Bool). if b then kept_started (kept_of r.node (kepts s.all)) else started_in s.batch r c.state) h.snapshot ∙ by_snapshot t.snapshot refl
    where
      by_snapshot : (b : Bool) → t.snapshot ≡ b
          → (if b then kept_started (kept_of r.node (kepts s.all)) else started_in s.batch r c.state)
          ≡ (if b then kept_started (kept_at r.node t.slots.items) else started_in t.batch r c.state)
      by_snapshot true is = ap kept_started (h.kepts is r.node)
      by_snapshot false is = ap (λ (b : ℕ). started_in b r c.state) h.batch

  ended_told : (q : ProcessRecord) → ended_before s q ≡ ended_by t q
  ended_told q = ap (λ (b : Bool). if b then kept_ended (kept_of q.node (kepts s.all)) else q.ended) h.snapshot ∙ by_snapshot t.snapshot refl
    where
      by_snapshot : (b : Bool) → t.snapshot ≡ b
          → (if b then kept_ended (kept_of q.node (kepts s.all)) else q.ended) ≡ (if b then kept_ended (kept_at q.node t.slots.items) else q.ended)
      by_snapshot true is = ap kept_ended (h.kepts is q.node)
      by_snapshot false is = refl

  is_source_told : (c : SetProcess) (r : ProcessRecord) (o : Option ProcessRecord) → is_source s c r o ≡ is_source_by t c r o
  is_source_told c r None = refl
  is_source_told c r (Some q) = λ i. is_calculation q.kind && (nat_lt 0 (ended_told q i) && nat_lt (ended_told q i) (started_told c r i))

  source_told : (w : World) (c : SetProcess) (r : ProcessRecord) → source_fits s w c r ≡ source_fits_by t w c r
  source_told w c r = ap (λ (b : Bool). (c.cached_from == 0) || b) (is_source_told c r (find_record c.cached_from w.records))

module _ (t : Terms) (w : World) (c : SetProcess) where
  pub set_taken : (r : ProcessRecord) → Some r ≡ find_record c.pid w.records → set_fits w c r && source_fits_by t w c r ≡ true → FitsBy t w (change.Set c)
  set_taken r found fits s h =
      (r, sym found, left (set_fits w c r) (source_fits_by t w c r) fits, source_told t s h w c r ∙ right (set_fits w c r) (source_fits_by t w c r) fits)

  pub set_found : (r : ProcessRecord) → Some r ≡ find_record c.pid w.records → set_fits w c r && source_fits_by t w c r ≡ true → SetFits w c
  set_found r found fits = (r, sym found, left (set_fits w c r) (source_fits_by t w c r) fits)

  pub set_refused : (r : ProcessRecord) → Some r ≡ find_record c.pid w.records → set_fits w c r && source_fits_by t w c r ≡ false → RefusesBy t w (change.Set c) (error.BadRecord c.pid)
  set_refused r found fails s h = inr (refl, (r, sym found, ap (λ (b : Bool). set_fits w c r && b) (source_told t s h w c r) ∙ fails))
