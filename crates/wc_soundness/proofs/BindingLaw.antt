-- The law of binding.
use Rattle.std.proofs.Common.{◌≡◌, ℕ, suc, ◌+◌, ◌-◌, ◌<◌, ◌≤◌, ◌^◌, Bool, true, false, List, [], ◌∷◌, Some, None, refl, sym, ap, subst, ◌∙◌, arith}
use Rattle.std.specs.Prelude.{All, ◌&&◌, not, if◌then◌else◌}
use Rattle.std.proofs.Math.Nat.{min-eq_left}
use Rattle.std.proofs.lemmas.Bool.{and_from}
use Rattle.std.proofs.lemmas.List.Elements.{All-head, All-tail}
use Rattle.wc_value.specs.declared.process.ProcessState.TheVariants as state
use Rattle.wc_syntax.specs.declared.definition.Chain.{Chain}
use Rattle.wc_graph.specs.declared.link.Link.{Link}
use Rattle.wc_state.specs.declared.record.Checkpoint.{Checkpoint}
use Rattle.wc_state.specs.declared.record.Part.TheVariants as part
use Rattle.wc_state.specs.declared.record.ProcessRecord.{ProcessRecord}
use Rattle.wc_world.specs.World.{World}
use Rattle.wc_world.specs.Fits.{fails_fit, is_settled, part_fits, standing_fits, unsettled}
use Rattle.wc_world.specs.Records.{has_ended}
use Rattle.wc_world.proofs.FoundRecords.{right}
use Rattle.wc_machine.specs.Calls.{bound, chain_set, fuel_of}
use Rattle.wc_machine.specs.Readiness.{may_go}
use Rattle.wc_machine.specs.Sound.{IsSound, fuel_in}
use Rattle.wc_machine.specs.Tasks.{saturated}
use Rattle.wc_soundness.specs.Replaced.{world_to}
use Rattle.wc_soundness.proofs.Replaced.{continues}
use Rattle.wc_soundness.specs.Binding.{Waits}
use Rattle.wc_soundness.specs.BindingLaws.{KeepsSound, BindingsKeepSound}
use Rattle.wc_soundness.proofs.Binding.{binding_sound, is_set, kept_before, sets_well}
use Rattle.wc_soundness.proofs.KilledStanding.{alive}

-- where each process is settled, none is unsettled
pub settled_all : (links : List Link) (rs : List ProcessRecord) → All (λ r. is_settled links r ≡ true) rs → unsettled links rs ≡ None
settled_all links [] a = refl
settled_all links (r ∷ rs) a =
    ap (λ (b : Bool). if b then unsettled links rs else Some r.node) (All-head (λ r. is_settled links r ≡ true) r rs a)
    ∙ settled_all links rs (All-tail (λ r. is_settled links r ≡ true) r rs a)

-- a sum of fuel that a sound world keeps isn't saturated
pub exact_fuel : (w : World) → IsSound w → (n : ℕ) → suc n ≤ fuel_in w.records w.records → saturated n ≡ n
exact_fuel w sound n le =
    let kept = sound.fuel in
    let batches = sound.consistent.batches in
    let nodes = sound.consistent.few in
    let low : n ≤ 2 ^ 64 - 1 = omega arith in
    min-eq_left {n = n} {m = 2 ^ 64 - 1} low

module _ (w : World) (sound : IsSound w) (r : ProcessRecord) (k : Chain) (c : Checkpoint) (h : Waits w r k c) (room : w.batches < 4000000000) where
  abbrev F : ℕ
  F = r.fuel + fuel_of w.records c.awaiting

  first : 0 < w.batches + 1
  first = omega arith

  later : w.batches ≤ w.batches + 1
  later = omega arith

  few : w.batches + 1 ≤ 4000000000
  few = omega arith

  abbrev v : World
  v = world_to w (w.batches + 1) r state.Running F (part.Chain (bound c))

  sound_then : IsSound v
  sound_then = binding_sound w sound r k c h (w.batches + 1) first later few

  with_sum : KeepsSound w (chain_set w r state.Running F (part.Chain (bound c)) ∷ [])
  with_sum =
      let well = sets_well w sound r k c h (w.batches + 1) first later few in
      let live : not (has_ended r.state) ≡ true = ap not (alive w sound r k c h) in
      let fits : (not (has_ended r.state) && (part_fits r.kind state.Running (part.Chain (bound c)) && (fails_fit (part.Chain (bound c)) false && standing_fits w r (part.Chain (bound c))))) ≡ true =
      and_from _ _ live (and_from _ _ well.part (and_from _ _ well.fails well.standing)) in
      record {
        accepted = record {
          batch = room;
          each = ((r, h.found, fits, refl), tt);
          settled = settled_all w.links v.records (λ j d lt. (sound_then.consistent.records j d lt).settled);
        };
        continues = continues w (w.batches + 1) r state.Running F (part.Chain (bound c)) (is_set w sound r k c h (w.batches + 1) first later few) sound;
        sound = sound_then;
      }

  pub keeps_sound : KeepsSound w (chain_set w r state.Running (saturated F) (part.Chain (bound c)) ∷ [])
  keeps_sound =
      let exact : saturated F ≡ F = exact_fuel w sound F (kept_before w sound r k c h (w.batches + 1) first later few) in
      subst (λ (n : ℕ). KeepsSound w (chain_set w r state.Running n (part.Chain (bound c)) ∷ [])) (sym exact) with_sum

pub bindings_keep_sound : BindingsKeepSound
bindings_keep_sound w now r k c sound found ready def waiting is places =
    let may : may_go w now r.state r.part ≡ true = right (not r.paused) (may_go w now r.state r.part) ready in
    keeps_sound w sound r k c (record { found = found; definition = def; state = waiting; part = is; through = (λ i. may_go w now (sym waiting i) (sym is i)) ∙ may }) places.batches
