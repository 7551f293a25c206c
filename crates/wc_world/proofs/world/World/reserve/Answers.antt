use Rattle.std.proofs.Common.{◌≡◌, ℕ, ◌≤◌, Bool, List, length, refl, sym, ap, ◌∙◌, subst, arith}
use Rattle.wc_graph.specs.Provenance.{Provenance}
use Rattle.wc_keys.specs.declared.entries.Sealed.{Sealed}
use Rattle.wc_world.specs.World.{World}
use Rattle.wc_world.specs.Accepted.{IsReached}
use Rattle.wc_world.specs.Applying.{world_of, RoomyRecords, RoomyLibraries}
use Rattle.wc_world.specs.Digested.{AreMade}
use Rattle.wc_world.proofs.Ascents.{ascend_few, reached_ascends}
use Rattle.wc_world.proofs.ReachedWorlds.{reached_is_consistent}
use Rattle.wc_world.proofs.world.World.reserve.Goals as goal

-- parts that differ in their rooms alone are of one world
one_world : (g h : Provenance) (r s : RoomyRecords) (l m : RoomyLibraries) (batches : ℕ) → g.nodes ≡ h.nodes → g.links ≡ h.links → r.0 ≡ s.0 → l.0 ≡ m.0
    → world_of g r l batches ≡ world_of h s m batches
one_world g h r s l m batches nodes links records libraries =
    λ i. record { nodes = nodes i; links = links i; records = records i; libraries = libraries i; batches = batches }

-- a world with its entries stays one where there are more places for entries
placed : (made : Bool) (v w : World) (xs ys : List Sealed) (places more : ℕ) → v ≡ w → xs ≡ ys → places ≤ more → IsReached v × AreMade made v xs × (length v.records ≤ places)
    → IsReached w × AreMade made w ys × (length w.records ≤ more)
placed made v w xs ys places more worlds entries le h =
    let few = h.2 in (
      subst IsReached worlds h.0,
      subst (λ (seals : List Sealed). AreMade made w seals) entries (subst (λ (u : World). AreMade made u xs) worlds h.1),
      omega (arith, few, le, ap (λ (u : World). length u.records) worlds),
    )

pub overflow_add-places : goal.overflow_add-places
overflow_add-places c =
    let i = c.self.inside in
    let w = world_of i.graph i.records i.libraries i.batches in
    omega (
      arith,
      ascend_few 0 i.records.0 (length i.graph.nodes) (reached_ascends w c.self.invariant.0) (omega arith),
      (reached_is_consistent w c.self.invariant.0).few,
      c.count-need.ensures.few.2,
      c.len-held.ensures,
      ap length c.reserve-2.ensures.same,
    )

pub invariant_of-self : goal.invariant_of-self
invariant_of-self c =
    let i = c.self.inside in
    let e = c.reserve.ensures in
    placed i.digested _ _ i.seals.0 i.seals.0 i.seals.1 i.seals.1
    (one_world i.graph c.reserve.new.self i.records i.records i.libraries i.libraries i.batches (sym e.nodes) (sym e.links) refl refl) refl (omega arith) c.self.invariant

pub invariant_of-self-in_err-reserve-2 : goal.invariant_of-self-in_err-reserve-2
invariant_of-self-in_err-reserve-2 c =
    let i = c.self.inside in
    let e = c.reserve.ensures in
    placed i.digested _ _ i.seals.0 i.seals.0 i.seals.1 i.seals.1
    (one_world i.graph c.reserve.new.self i.records c.reserve-2.new.self i.libraries i.libraries i.batches (sym e.nodes) (sym e.links) (sym c.reserve-2.ensures.same) refl)
    refl (omega arith) c.self.invariant

pub invariant_of-self-in_err-reserve-3 : goal.invariant_of-self-in_err-reserve-3
invariant_of-self-in_err-reserve-3 c =
    let i = c.self.inside in
    let e = c.reserve.ensures in
    placed i.digested _ _ i.seals.0 i.seals.0 i.seals.1 i.seals.1
    (one_world i.graph c.reserve.new.self i.records c.reserve-2.new.self i.libraries c.reserve-3.new.self i.batches (sym e.nodes) (sym e.links) (sym c.reserve-2.ensures.same)
    (sym c.reserve-3.ensures.same))
    refl (omega arith) c.self.invariant

pub invariant_of-self-2 : goal.invariant_of-self-2
invariant_of-self-2 c =
    let i = c.self.inside in
    let e = c.reserve.ensures in
    let last = c.reserve-4 in
    let same = c.reserve_labels.ensures in
    placed i.digested _ _ i.seals.0 last.new.self.0 i.seals.1 last.new.self.1
    (one_world i.graph c.reserve_labels.new.graph i.records c.reserve-2.new.self i.libraries c.reserve-3.new.self i.batches
    (sym (ap (λ (g : Provenance). g.nodes) same ∙ e.nodes)) (sym (ap (λ (g : Provenance). g.links) same ∙ e.links)) (sym c.reserve-2.ensures.same)
    (sym c.reserve-3.ensures.same))
    (sym last.ensures.same) last.ensures.kept c.self.invariant
