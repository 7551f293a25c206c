-- The law of kills: a kill keeps a sound world sound.
use Rattle.std.proofs.Common.{◌≡◌, ℕ, ◌+◌, ◌<◌, ◌≤◌, true, List, [], ◌∷◌, ◌++◌, Some, map, get_or, refl, sym, ap, subst, ◌∙◌, arith}
use Rattle.std.specs.Prelude.{not}
use Rattle.std.proofs.lemmas.Bool.{and_from}
use Rattle.std.proofs.lemmas.List.{append_assoc}
use Rattle.wc_value.specs.declared.process.ProcessState.TheVariants as state
use Rattle.wc_state.specs.declared.record.Part.TheVariants as part
use Rattle.wc_state.specs.declared.record.ProcessRecord.{ProcessRecord}
use Rattle.wc_world.specs.declared.change.Change.{Change}
use Rattle.wc_world.specs.World.{World}
use Rattle.wc_world.specs.Accepted.{Apply, setting}
use Rattle.wc_world.specs.Applied.{begun, changed}
use Rattle.wc_world.specs.Fits.{unsettled}
use Rattle.wc_world.specs.Records.{find_record, has_ended}
use Rattle.wc_world.proofs.FoundRecords.{found_holds}
use Rattle.wc_machine.specs.Continues.{Begins, Carries, Continues}
use Rattle.wc_machine.specs.Machine.{IsLive}
use Rattle.wc_machine.specs.Recorded.{recorded_inputs}
use Rattle.wc_machine.specs.Sound.{IsSound}
use Rattle.wc_world.specs.Trees.{recorded_tree}
use Rattle.wc_soundness.specs.Replaced.{world_to}
use Rattle.wc_soundness.proofs.Replaced.{continues, one_record}
use Rattle.wc_soundness.specs.BindingLaws.{KeepsSound}
use Rattle.wc_soundness.proofs.BindingLaw.{settled_all}
use Rattle.wc_soundness.specs.KillLaws.{KillsKeepSound}
use Rattle.wc_soundness.proofs.KillLaws.{single}
use Rattle.wc_soundness.proofs.KillLists.{AreNext, IsDone, IsNext, kill_next, rs_after, told, without}
use Rattle.wc_soundness.proofs.KillOrder.{all_below, change_of, changes_are, fuel_then}
use Rattle.wc_soundness.proofs.OneKill.{kill_is_set}

-- ---- one world continues another, and that one a third

begins_on : {T : Type 0} (a b c : List T) → Begins a b → Begins b c → Begins a c
begins_on a b c p q = (p.0 ++ q.0, q.1 ∙ ap (λ (l : List _). l ++ q.0) p.1 ∙ append_assoc a p.0 q.0)

carries_on : (r s t : ProcessRecord) → Carries r s → Carries s t → Carries r t
carries_on r s t p q = record {
  node = q.node ∙ p.node;
  kind = q.kind ∙ p.kind;
  definition = q.definition ∙ p.definition;
  library = q.library ∙ p.library;
  depth = q.depth ∙ p.depth;
  label = q.label ∙ p.label;
  caching = q.caching ∙ p.caching;
  started = λ ne.
      let a = p.started ne in
      let b = q.started (λ e. ne (sym a.0 ∙ e)) in
      (b.0 ∙ a.0, b.1 ∙ a.1);
  ended = λ over.
      let same : s ≡ r = p.ended over in
      q.ended (ap (λ (z : ProcessRecord). has_ended z.state) same ∙ over) ∙ same;
}

pub continues_on : (u v x : World) → Continues u v → Continues v x → Continues u x
continues_on u v x p q = record {
  libraries = begins_on u.libraries v.libraries x.libraries p.libraries q.libraries;
  nodes = begins_on u.nodes v.nodes x.nodes p.nodes q.nodes;
  links = begins_on u.links v.links x.links p.links q.links;
  batches = let a = p.batches in let b = q.batches in omega arith;
  records = λ i d lt.
      let r : ProcessRecord = get_or u.records i d in
      let s = p.records i d lt in
      let t = found_holds (λ r. (s : ProcessRecord) × (find_record r.node x.records ≡ Some s) × Carries r s) r.node v.records s.0 q.records s.1 in
      (t.0, ap (λ (n : ℕ). find_record n x.records) (sym s.2.node) ∙ t.1, carries_on r s.0 t.0 s.2 t.2);
  inputs = λ i d lt.
      let r : ProcessRecord = get_or u.records i d in
      let s = p.records i d lt in
      let t = found_holds (λ r. recorded_inputs x r.node ≡ recorded_inputs v r.node) r.node v.records s.0 q.inputs s.1 in
      subst (λ (n : ℕ). recorded_inputs x n ≡ recorded_inputs v n) s.2.node t ∙ p.inputs i d lt;
  trees = λ i d lt over.
      let r : ProcessRecord = get_or u.records i d in
      let s = p.records i d lt in
      let same : s.0 ≡ r = s.2.ended over in
      let t = found_holds (λ r. has_ended r.state ≡ true → recorded_tree x r.node ≡ recorded_tree v r.node) r.node v.records s.0 q.trees s.1
      (ap (λ (z : ProcessRecord). has_ended z.state) same ∙ over) in
      subst (λ (n : ℕ). recorded_tree x n ≡ recorded_tree v n) s.2.node t ∙ p.trees i d lt over;
}

-- ---- a kill

module _ (w : World) (sound : IsSound w) (room : w.batches < 4000000000) where
  abbrev batch : ℕ
  batch = w.batches + 1

  first : 0 < batch
  first = omega arith

  few : batch ≤ 4000000000
  few = omega arith

  abbrev tells : ℕ → List ProcessRecord → World
  tells = told w sound batch first few

  abbrev gone : List ProcessRecord → List ProcessRecord → List ProcessRecord
  gone = rs_after w sound batch first few

  abbrev IsStep : List ProcessRecord → ProcessRecord → Type 0
  IsStep rs x = IsNext w sound batch first few rs x

  step_sound : (b : ℕ) (rs : List ProcessRecord) (x : ProcessRecord) → b ≤ batch → IsSound (tells b rs) → IsStep rs x → IsSound (tells batch (without w sound batch first few rs x))
  step_sound b rs x le s n =
      subst (λ (f : ℕ). IsSound (world_to (tells b rs) batch x state.Killed f part.Over)) n.fuel
      (single (tells b rs) s x (record { found = n.found; live = n.live }) n.calls batch (record { first = first; later = le; few = few }))

  step_continues : (b : ℕ) (rs : List ProcessRecord) (x : ProcessRecord) → b ≤ batch → IsSound (tells b rs) → IsStep rs x
      → Continues (tells b rs) (tells batch (without w sound batch first few rs x))
  step_continues b rs x le s n =
      continues (tells b rs) batch x state.Killed (fuel_then w x) part.Over (kill_is_set (tells b rs) batch x n.found n.live first le few) s

  chain : (xs rs : List ProcessRecord) → IsSound (tells batch rs) → Continues w (tells batch rs) → AreNext w sound batch first few rs xs
      → IsSound (tells batch (gone rs xs)) × Continues w (tells batch (gone rs xs))
  chain [] rs s c h = (s, c)
  chain (x ∷ xs) rs s c h =
      chain xs (without w sound batch first few rs x) (step_sound batch rs x (omega arith) s h.0)
      (continues_on w (tells batch rs) (tells batch (without w sound batch first few rs x)) c (step_continues batch rs x (omega arith) s h.0)) h.1

  apply_list : (all : List Change) (xs rs : List ProcessRecord) → AreNext w sound batch first few rs xs → Apply (setting w all) (tells batch rs) (map (change_of w) xs)
  apply_list all [] rs h = tt
  apply_list all (x ∷ xs) rs h =
      ((x, h.0.found, and_from (not (has_ended x.state)) true (ap not h.0.live) refl, refl), apply_list all xs (without w sound batch first few rs x) h.1)

  applied_is : (xs rs : List ProcessRecord) → changed batch (tells batch rs) (map (change_of w) xs) ≡ tells batch (gone rs xs)
  applied_is [] rs = refl
  applied_is (x ∷ xs) rs = applied_is xs (without w sound batch first few rs x)

  keeps_list : (xs : List ProcessRecord) → (xs ≡ [] → ⊥) → AreNext w sound batch first few w.records xs → KeepsSound w (map (change_of w) xs)
  keeps_list [] some h = absurd (some refl)
  keeps_list (x ∷ xs) some h =
      let one : IsSound (tells batch (without w sound batch first few w.records x)) = step_sound w.batches w.records x (omega arith) sound h.0 in
      let on : Continues w (tells batch (without w sound batch first few w.records x)) = step_continues w.batches w.records x (omega arith) sound h.0 in
      let c = chain xs (without w sound batch first few w.records x) one on h.1 in
      let same : changed batch (begun w) (map (change_of w) (x ∷ xs)) ≡ tells batch (gone w.records (x ∷ xs)) = applied_is (x ∷ xs) w.records in
      record {
        accepted = record {
          batch = room;
          each = apply_list (map (change_of w) (x ∷ xs)) (x ∷ xs) w.records h;
          settled = ap (λ (v : World). unsettled v.links v.records) same
              ∙ settled_all w.links (gone w.records (x ∷ xs)) (λ j d lt. (c.0.consistent.records j d lt).settled);
        };
        continues = subst (Continues w) (sym same) c.1;
        sound = subst IsSound (sym same) c.0;
      }

  pub kill_keeps : (r : ProcessRecord) → IsLive w r → KeepsSound w (map (change_of w) (all_below w 16 r))
  kill_keeps r l =
      let d : IsDone w sound batch first few w.records r (all_below w 16 r) = kill_next w sound batch first few r l.found in
      keeps_list (all_below w 16 r)
      (λ none.
      let over = subst (λ (xs : List ProcessRecord). (z : ProcessRecord) × (find_record r.node (gone w.records xs) ≡ Some z) × (has_ended z.state ≡ true)) none (d.over.0, d.over.1, d.over.2) in
      let same : over.0 ≡ r = one_record (find_record r.node w.records) over.0 r over.1 l.found in
      let ended : has_ended r.state ≡ true = ap (λ (z : ProcessRecord). has_ended z.state) (sym same) ∙ over.2 in
      let live = l.live in
      cc (ended, live))
      d.next

pub kills_keep_sound : KillsKeepSound
kills_keep_sound w r sound l places = subst (KeepsSound w) (sym (changes_are w 16 r)) (kill_keeps w sound places.batches r l)
