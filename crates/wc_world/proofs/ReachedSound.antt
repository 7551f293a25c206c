-- What each change that fits keeps of a world, whatever stands behind it.
use Rattle.std.proofs.Common.{◌≡◌, ℕ, ◌+◌, ◌<◌, ◌≤◌, true, List, [], ◌∷◌, ◌++◌, map, get_or, length, refl, sym, ap, ◌∙◌, arith}
use Rattle.std.specs.Prelude.{All, not, ◌&&◌, nat_le}
use Rattle.std.proofs.lemmas.Bool.{and_parts, leb-true}
use Rattle.std.proofs.lemmas.List.{length_push, map-append, append-nil}
use Rattle.std.proofs.lemmas.List.Elements.{All-push, All-weaker}
use Rattle.wc_graph.specs.Rules.{IsCall, IsLinkCorrect}
use Rattle.wc_graph.specs.declared.node.NodeKind.{NodeKind}
use Rattle.wc_graph.specs.declared.node.NodeKind.TheVariants as node
use Rattle.wc_graph.proofs.Correct.{link_correct_push}
use Rattle.wc_state.specs.declared.record.Part.{Part}
use Rattle.wc_state.specs.declared.record.Part.TheVariants as part
use Rattle.wc_state.specs.declared.record.ProcessKind.{ProcessKind}
use Rattle.wc_state.specs.declared.record.ProcessKind.TheVariants as kind
use Rattle.wc_state.specs.declared.record.ProcessRecord.{ProcessRecord}
use Rattle.wc_world.specs.declared.change.Change.{Change}
use Rattle.wc_world.specs.declared.change.Change.TheVariants as change
use Rattle.wc_records.specs.declared.change.NewProcess.{NewProcess}
use Rattle.wc_records.specs.declared.change.SetProcess.{SetProcess}
use Rattle.wc_records.specs.declared.change.Kept.{Kept}
use Rattle.wc_world.specs.World.{World, Known}
use Rattle.wc_world.specs.Records.{has_ended, process_node, definition_in}
use Rattle.wc_world.specs.Applied.{next_number, made, set, keep, after_change, changed}
use Rattle.wc_world.specs.Fits.{names_ascend, is_of_kind, new_fits, call_fits, part_fits, fails_fit, standing_fits, set_fits}
use Rattle.wc_world.specs.Accepted.{Setting, Fits, Apply}
use Rattle.wc_world.specs.Consistent.{processes_from, process_of, IsShallow}
use Rattle.wc_world.proofs.ReachedLists.{processes_push, process_alone, process_at_one, all_at, all_found, unique, found_has}
use Rattle.wc_world.proofs.ReachedGrown.{Grows, grows, calls_grow, links_grow, kind_grows, standing_grows}

-- what holds of a record in whichever batch it started or ended
pub record FitsIn (w : World) (r : ProcessRecord) : Type 0 where
  pub defined : is_of_kind r.kind (definition_in w.libraries r.library r.definition) ≡ true
  pub not_below : 1 ≤ r.depth
  pub not_above : r.depth ≤ 16
  pub part : part_fits r.kind r.state r.part ≡ true
  pub fails : fails_fit r.part r.paused ≡ true
  pub standing : standing_fits w r r.part ≡ true

pub record IsSound (w : World) : Type 0 where
  pub few : length w.nodes ≤ 8000000
  pub shallow : All IsShallow w.nodes
  pub names : All (λ k. names_ascend k.1 ≡ true) w.libraries
  pub numbered : map process_of w.records ≡ processes_from 1 w.nodes
  pub links : IsLinkCorrect w.nodes w.links
  pub calls : All (λ l. IsCall l.link → call_fits w.records l ≡ true) w.links
  pub records : All (FitsIn w) w.records

-- ---- records
pub record_grows : (w v : World) → Grows w v → (r : ProcessRecord) → FitsIn w r → FitsIn v r
record_grows w v g r h = record {
  defined = kind_grows w v g r.kind r.library r.definition h.defined;
  not_below = h.not_below;
  not_above = h.not_above;
  part = h.part;
  fails = h.fails;
  standing = standing_grows w v g r h.defined r.part h.standing;
}

standing_set : (w : World) (batch : ℕ) (s : SetProcess) (r : ProcessRecord) (p : Part) → standing_fits w r p ≡ true → standing_fits w (set batch s r) p ≡ true
standing_set w batch s r part.Fresh h = h
standing_set w batch s r (part.Chain c) h = h
standing_set w batch s r (part.Job j) h = h
standing_set w batch s r part.Over h = h

standing_keep : (w : World) (k : Kept) (r : ProcessRecord) (p : Part) → standing_fits w r p ≡ true → standing_fits w (keep k r) p ≡ true
standing_keep w k r part.Fresh h = h
standing_keep w k r (part.Chain c) h = h
standing_keep w k r (part.Job j) h = h
standing_keep w k r part.Over h = h

-- what a Set that fits says
pub record SetFits (w : World) (s : SetProcess) (r : ProcessRecord) : Type 0 where
  pub lives : not (has_ended r.state) ≡ true
  pub part : part_fits r.kind s.state s.part ≡ true
  pub fails : fails_fit s.part s.paused ≡ true
  pub standing : standing_fits w r s.part ≡ true

pub set_parts : (w : World) (s : SetProcess) (r : ProcessRecord) → set_fits w s r ≡ true → SetFits w s r
set_parts w s r h =
    let a = and_parts (not (has_ended r.state)) (part_fits r.kind s.state s.part && (fails_fit s.part s.paused && standing_fits w r s.part)) h in
    let b = and_parts (part_fits r.kind s.state s.part) (fails_fit s.part s.paused && standing_fits w r s.part) a.1 in
    let c = and_parts (fails_fit s.part s.paused) (standing_fits w r s.part) b.1 in
    record { lives = a.0; part = b.0; fails = c.0; standing = c.1 }

record_set : (w v : World) → Grows w v → (batch : ℕ) (s : SetProcess) (r : ProcessRecord) → FitsIn w r → set_fits w s r ≡ true → FitsIn v (set batch s r)
record_set w v g batch s r h fits =
    let p = set_parts w s r fits in
    record {
      defined = kind_grows w v g r.kind r.library r.definition h.defined;
      not_below = h.not_below;
      not_above = h.not_above;
      part = p.part;
      fails = p.fails;
      standing = standing_set v batch s r s.part (standing_grows w v g r h.defined s.part p.standing);
    }

record_keep : (w v : World) → Grows w v → (k : Kept) (r : ProcessRecord) → FitsIn w r → FitsIn v (keep k r)
record_keep w v g k r h = record {
  defined = kind_grows w v g r.kind r.library r.definition h.defined;
  not_below = h.not_below;
  not_above = h.not_above;
  part = h.part;
  fails = h.fails;
  standing = standing_keep v k r r.part (standing_grows w v g r h.defined r.part h.standing);
}

record_made : (v : World) (number : ℕ) (n : NewProcess) → new_fits v.libraries n ≡ true → FitsIn v (made number n)
record_made v number n h =
    let a = and_parts (nat_le 1 n.depth) (nat_le n.depth 16 && is_of_kind n.kind (definition_in v.libraries n.library n.definition)) h in
    let b = and_parts (nat_le n.depth 16) (is_of_kind n.kind (definition_in v.libraries n.library n.definition)) a.1 in
    record {
      defined = b.1;
      not_below = leb-true 1 n.depth a.0;
      not_above = leb-true n.depth 16 b.0;
      part = refl;
      fails = refl;
      standing = refl;
    }

-- ---- nodes
shallow_process : (k : ProcessKind) → IsShallow (process_node k)
shallow_process kind.Function = tt
shallow_process kind.Job = tt
shallow_process kind.Chain = tt

numbered_data : (w : World) (x : NodeKind) → processes_from (1 + length w.nodes) (x ∷ []) ≡ [] → map process_of w.records ≡ processes_from 1 w.nodes
    → map process_of w.records ≡ processes_from 1 (w.nodes ++ x ∷ [])
numbered_data w x none h =
    h ∙ sym (processes_push 1 w.nodes x ∙ ap (λ l. processes_from 1 w.nodes ++ l) none ∙ append-nil (processes_from 1 w.nodes))

numbered_process : (w : World) (n : NewProcess) → map process_of w.records ≡ processes_from 1 w.nodes
    → map process_of (w.records ++ made (next_number w) n ∷ []) ≡ processes_from 1 (w.nodes ++ process_node n.kind ∷ [])
numbered_process w n h =
    let e : length w.nodes + 1 ≡ 1 + length w.nodes = omega arith in
    let last : process_of (made (next_number w) n) ∷ [] ≡ processes_from (1 + length w.nodes) (process_node n.kind ∷ []) =
    ap (λ (m : ℕ). (m, process_node n.kind) ∷ []) e ∙ sym (process_alone (1 + length w.nodes) n.kind) in
    map-append process_of w.records (made (next_number w) n ∷ [])
    ∙ (λ i. h i ++ last i)
    ∙ sym (processes_push 1 w.nodes (process_node n.kind))

-- ---- a change
pub sound_after : (s : Setting) (w : World) (c : Change) → IsSound w → Fits s w c → IsSound (after_change s.batch w c)
sound_after s w (change.Library library names) h fits =
    let v = after_change s.batch w (change.Library library names) in
    let g = grows s.batch w (change.Library library names) in
    record {
      few = h.few;
      shallow = h.shallow;
      names = All-push (λ (k : Known). names_ascend k.1 ≡ true) w.libraries (library, names) h.names fits;
      numbered = h.numbered;
      links = h.links;
      calls = h.calls;
      records = All-weaker (FitsIn w) (FitsIn v) (record_grows w v g) w.records h.records;
    }
sound_after s w (change.Data x) h fits =
    let v = after_change s.batch w (change.Data x) in
    let g = grows s.batch w (change.Data x) in
    record {
      few = let lt : length w.nodes < 8000000 = fits.0 in omega (arith, length_push w.nodes (node.Data x));
      shallow = All-push IsShallow w.nodes (node.Data x) h.shallow fits.1;
      names = h.names;
      numbered = numbered_data w (node.Data x) refl h.numbered;
      links = links_grow w v g h.links;
      calls = h.calls;
      records = All-weaker (FitsIn w) (FitsIn v) (record_grows w v g) w.records h.records;
    }
sound_after s w (change.Process n) h fits =
    let v = after_change s.batch w (change.Process n) in
    let g = grows s.batch w (change.Process n) in
    record {
      few = let lt : length w.nodes < 8000000 = fits.0 in omega (arith, length_push w.nodes (process_node n.kind));
      shallow = All-push IsShallow w.nodes (process_node n.kind) h.shallow (shallow_process n.kind);
      names = h.names;
      numbered = numbered_process w n h.numbered;
      links = links_grow w v g h.links;
      calls = calls_grow w v g w.links h.calls;
      records = All-push (FitsIn v) w.records (made (next_number w) n) (All-weaker (FitsIn w) (FitsIn v) (record_grows w v g) w.records h.records)
          (record_made v (next_number w) n fits.1);
    }
sound_after s w (change.Link l) h fits =
    let v = after_change s.batch w (change.Link l) in
    let g = grows s.batch w (change.Link l) in
    record {
      few = h.few;
      shallow = h.shallow;
      names = h.names;
      numbered = h.numbered;
      links = link_correct_push w.nodes w.links l h.links fits.0;
      calls = All-push (λ l. IsCall l.link → call_fits w.records l ≡ true) w.links l h.calls fits.1;
      records = All-weaker (FitsIn w) (FitsIn v) (record_grows w v g) w.records h.records;
    }
sound_after s w (change.Set c) h fits =
    let v = after_change s.batch w (change.Set c) in
    let g = grows s.batch w (change.Set c) in
    let r = fits.0 in
    let in_place : FitsIn v (set s.batch c r) = record_set w v g s.batch c r (found_has (FitsIn w) c.pid w.records r fits.1 h.records) fits.2 in
    record {
      few = h.few;
      shallow = h.shallow;
      names = h.names;
      numbered = process_at_one c.pid (set s.batch c) (λ x. refl) w.records ∙ h.numbered;
      links = h.links;
      calls = calls_grow w v g w.links h.calls;
      records = all_at (FitsIn w) (FitsIn v) c.pid (set s.batch c) w.records (record_grows w v g) h.records
          (all_found (λ x. FitsIn v (set s.batch c x)) c.pid w.records r (unique 1 w.nodes w.records h.numbered) fits.1 in_place);
    }
sound_after s w (change.Count n) h fits =
    let v = after_change s.batch w (change.Count n) in
    let g = grows s.batch w (change.Count n) in
    record {
      few = h.few;
      shallow = h.shallow;
      names = h.names;
      numbered = h.numbered;
      links = h.links;
      calls = h.calls;
      records = All-weaker (FitsIn w) (FitsIn v) (record_grows w v g) w.records h.records;
    }
sound_after s w (change.Kept k) h fits =
    let v = after_change s.batch w (change.Kept k) in
    let g = grows s.batch w (change.Kept k) in
    record {
      few = h.few;
      shallow = h.shallow;
      names = h.names;
      numbered = process_at_one k.pid (keep k) (λ x. refl) w.records ∙ h.numbered;
      links = h.links;
      calls = calls_grow w v g w.links h.calls;
      records = all_at (FitsIn w) (FitsIn v) k.pid (keep k) w.records (record_grows w v g) h.records
          (λ i d lt e. record_keep w v g k (get_or w.records i d) (h.records i d lt));
    }

pub sound_changed : (s : Setting) (w : World) (cs : List Change) → IsSound w → Apply s w cs → IsSound (changed s.batch w cs)
sound_changed s w [] h a = h
sound_changed s w (c ∷ cs) h a = sound_changed s (after_change s.batch w c) cs (sound_after s w c h a.0) a.1
