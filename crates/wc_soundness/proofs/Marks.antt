-- Pause and play keep a world sound.
use Rattle.std.proofs.Common.{◌≡◌, Bool, true, false, [], ◌∷◌, get_or, inl, inr, refl, sym, ◌∙◌, arith}
use Rattle.std.specs.Prelude.{◌==◌, ◌&&◌, ◌||◌, ◌↔◌, not, if◌then◌else◌, nat_lt}
use Rattle.std.proofs.lemmas.List.{append-nil}
use Rattle.wc_value.specs.declared.process.ProcessState.{ProcessState}
use Rattle.wc_value.specs.declared.process.ProcessState.TheVariants as state
use Rattle.wc_state.specs.declared.record.JobPart.{JobPart}
use Rattle.wc_state.specs.declared.record.Part.{Part}
use Rattle.wc_state.specs.declared.record.Part.TheVariants as part
use Rattle.wc_state.specs.declared.record.ProcessKind.{ProcessKind}
use Rattle.wc_state.specs.declared.record.ProcessKind.TheVariants as kind
use Rattle.wc_state.specs.declared.record.ProcessRecord.{ProcessRecord}
use Rattle.wc_world.specs.declared.change.Change.{Change}
use Rattle.wc_world.specs.World.{World}
use Rattle.wc_world.specs.Consistent.{Stands}
use Rattle.wc_world.specs.Fits.{counted_calls, fails_fit, part_fits, standing_fits}
use Rattle.wc_world.proofs.FoundRecords.{found_holds}
use Rattle.wc_world.proofs.ReachedLists.{unique}
use Rattle.wc_machine.specs.Continues.{Continues}
use Rattle.wc_machine.specs.Machine.{IsLive, marked, renewed}
use Rattle.wc_machine.specs.Sound.{IsFitting, IsSound, is_job_part}
use Rattle.wc_machine.proofs.ContinuedEnds.{carried_itself}
use Rattle.wc_soundness.specs.JobLaws.{MarksAreKept, MarksAreSafe}
use Rattle.wc_soundness.specs.Sets.{AreAlike, AreSafe}
use Rattle.wc_soundness.proofs.SoundMoves.{moves_safe}

-- ---- no change

continues_itself : (w : World) → IsSound w → Continues w w
continues_itself w s =
    let u = unique 1 w.nodes w.records s.consistent.numbered in
    record {
      libraries = ([], sym (append-nil w.libraries));
      nodes = ([], sym (append-nil w.nodes));
      links = ([], sym (append-nil w.links));
      batches = omega arith;
      records = λ i d lt. (get_or w.records i d, u i d lt, carried_itself (get_or w.records i d));
      inputs = λ i d lt. refl;
      trees = λ i d lt over. refl;
    }

nothing_safe : (w : World) → IsSound w → AreSafe w []
nothing_safe w s = record { accepted = λ ne. absurd (ne refl); sound = λ room. s; continues = continues_itself w s }

-- ---- what a mark fits

paused_fits : (a b c : Bool) → (a || (b && c)) ≡ true → (a || (b && true)) ≡ true
paused_fits true b c h = refl
paused_fits false true c h = refl
paused_fits false false c h = h

fails_paused : (p : Part) (b : Bool) → fails_fit p b ≡ true → fails_fit p true ≡ true
fails_paused part.Fresh b h = refl
fails_paused (part.Chain c) b h = refl
fails_paused (part.Job j) b h = paused_fits (nat_lt j.fails 5) (j.fails == 5) b h
fails_paused part.Over b h = refl

renewed_job : (k : ProcessKind) (s : ProcessState) (j i : JobPart) → part_fits k s (part.Job j) ≡ part_fits k s (part.Job i)
renewed_job k state.Created j i = refl
renewed_job kind.Function state.Running j i = refl
renewed_job kind.Job state.Running j i = refl
renewed_job kind.Chain state.Running j i = refl
renewed_job kind.Function state.Waiting j i = refl
renewed_job kind.Job state.Waiting j i = refl
renewed_job kind.Chain state.Waiting j i = refl
renewed_job k (state.Finished n) j i = refl
renewed_job k (state.Excepted r) j i = refl
renewed_job k state.Killed j i = refl

renewed_part : (k : ProcessKind) (s : ProcessState) (p : Part) → part_fits k s (renewed p) ≡ part_fits k s p
renewed_part k s part.Fresh = refl
renewed_part k s (part.Chain c) = refl
renewed_part k s (part.Job j) = renewed_job k s (record { task = j.task; fails = 0; due = 0 }) j
renewed_part k s part.Over = refl

renewed_fails : (p : Part) → fails_fit (renewed p) false ≡ true
renewed_fails part.Fresh = refl
renewed_fails (part.Chain c) = refl
renewed_fails (part.Job j) = refl
renewed_fails part.Over = refl

renewed_standing : (w : World) (r : ProcessRecord) (p : Part) → standing_fits w r (renewed p) ≡ standing_fits w r p
renewed_standing w r part.Fresh = refl
renewed_standing w r (part.Chain c) = refl
renewed_standing w r (part.Job j) = refl
renewed_standing w r part.Over = refl

renewed_counted : (p : Part) → counted_calls (renewed p) ≡ counted_calls p
renewed_counted part.Fresh = refl
renewed_counted (part.Chain c) = refl
renewed_counted (part.Job j) = refl
renewed_counted part.Over = refl

renewed_alike : (p : Part) → AreAlike p (renewed p)
renewed_alike part.Fresh = inl refl
renewed_alike (part.Chain c) = inl refl
renewed_alike (part.Job j) = inr (refl, refl)
renewed_alike part.Over = inl refl

renewed_is_job : (p : Part) → is_job_part (renewed p) ≡ is_job_part p
renewed_is_job part.Fresh = refl
renewed_is_job (part.Chain c) = refl
renewed_is_job (part.Job j) = refl
renewed_is_job part.Over = refl

-- ---- the marks

module _ (w : World) (r : ProcessRecord) (s : IsSound w) (live : IsLive w r) where
  stands : Stands w r
  stands = found_holds (Stands w) r.node w.records r s.consistent.records live.found

  fitting : IsFitting w r
  fitting = found_holds (IsFitting w) r.node w.records r s.records live.found

  pause_safe : AreSafe w (marked r true r.part ∷ [])
  pause_safe =
      moves_safe w r r.state true r.part s live.found
      (record {
        fits = λ i. not (live.live i) && (stands.part i && (fails_paused r.part r.paused stands.fails i && stands.standing i));
        goes_on = live.live;
        counted = refl;
      })
      (record { alike = inl refl; running = λ e. e; created = λ e. e; asked = fitting.request; starts = λ created ne. absurd (ne created) })

  play_safe : AreSafe w (marked r false (renewed r.part) ∷ [])
  play_safe =
      moves_safe w r r.state false (renewed r.part) s live.found
      (record {
        fits = λ i. not (live.live i) && ((renewed_part r.kind r.state r.part ∙ stands.part) i && (renewed_fails r.part i && (renewed_standing w r r.part ∙ stands.standing) i));
        goes_on = live.live;
        counted = renewed_counted r.part;
      })
      (record {
        alike = renewed_alike r.part;
        running = λ e. e;
        created = λ e. e;
        asked = λ is. fitting.request (sym (renewed_is_job r.part) ∙ is);
        starts = λ created ne. absurd (ne created);
      })

  pauses : (b : Bool) → AreSafe w (if b then [] else marked r true r.part ∷ [])
  pauses true = nothing_safe w s
  pauses false = pause_safe

  plays : (b : Bool) → AreSafe w (if b then marked r false (renewed r.part) ∷ [] else [])
  plays true = play_safe
  plays false = nothing_safe w s

pub marks_safe : MarksAreSafe
marks_safe w r s live = (pauses w r s live r.paused, plays w r s live r.paused)

-- ---- where nothing changes

some_changes : (c : Change) → c ∷ [] ≡ [] → ⊥
some_changes c h = absurd (cc)

kept_paused : (b : Bool) (c : Change) → ((if b then [] else c ∷ []) ≡ []) ↔ (b ≡ true)
kept_paused true c = (λ e. refl, λ e. refl)
kept_paused false c = (λ e. absurd (some_changes c e), λ e. absurd (cc))

kept_playing : (b : Bool) (c : Change) → ((if b then c ∷ [] else []) ≡ []) ↔ (b ≡ false)
kept_playing true c = (λ e. absurd (some_changes c e), λ e. absurd (cc))
kept_playing false c = (λ e. refl, λ e. refl)

pub marks_kept : MarksAreKept
marks_kept r = (kept_paused r.paused (marked r true r.part), kept_playing r.paused (marked r false (renewed r.part)))
