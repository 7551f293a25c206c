-- A change only adds to a world: what was found before is found after it, and fits as it did.
use Rattle.std.proofs.Common.{◌≡◌, ℕ, suc, Bool, true, Option, Some, None, List, [], ◌∷◌, map, get_or, refl, sym, ap, ◌∙◌, subst}
use Rattle.std.specs.Prelude.{All, IsSomeAnd, ◌==◌, ◌&&◌, not, is_some, option_map}
use Rattle.std.specs.List.{list_all}
use Rattle.std.specs.Str.{bytes_eq}
use Rattle.std.proofs.lemmas.Bool.{and_parts, and_from}
use Rattle.wc_syntax.specs.declared.definition.Definition.{Definition}
use Rattle.wc_graph.specs.Rules.{node_of, IsCall, Leaves, Enters, IsLinkCorrect}
use Rattle.wc_graph.specs.declared.node.NodeKind.{NodeKind}
use Rattle.wc_graph.specs.declared.node.NodeKind.TheVariants as node
use Rattle.wc_graph.specs.declared.link.Link.{Link}
use Rattle.wc_state.specs.declared.context.CtxRef.{CtxRef}
use Rattle.wc_state.specs.declared.context.CtxRef.TheVariants as held
use Rattle.wc_state.specs.declared.record.Checkpoint.{Checkpoint}
use Rattle.wc_state.specs.declared.record.Part.{Part}
use Rattle.wc_state.specs.declared.record.Part.TheVariants as part
use Rattle.wc_state.specs.declared.record.ProcessKind.{ProcessKind}
use Rattle.wc_state.specs.declared.record.ProcessRecord.{ProcessRecord}
use Rattle.wc_world.specs.declared.change.Change.{Change}
use Rattle.wc_world.specs.declared.change.Change.TheVariants as change
use Rattle.wc_world.specs.World.{World}
use Rattle.wc_world.specs.Records.{find_record, has_called, process_node, definition_in}
use Rattle.wc_world.specs.Applied.{next_number, made, set, keep, after_change}
use Rattle.wc_world.specs.Fits.{is_of_kind, is_called_by, is_call_between, call_fits, is_nil, frame_fits, outline_lengths, is_process, held_fits, is_data_node, checkpoint_fits, standing_fits}
use Rattle.wc_world.proofs.ReachedLists.{some_and, node_grown, find_grown, find_mapped, at_one, at_one_keeps, called_grown, definition_grown}

-- what no change changes of a process
pub record IsSameProcess (q r : ProcessRecord) : Type 0 where
  pub node : q.node ≡ r.node
  pub kind : q.kind ≡ r.kind
  pub depth : q.depth ≡ r.depth
  pub label : q.label ≡ r.label

pub record Grows (w v : World) : Type 0 where
  pub nodes : (id : ℕ) (k : NodeKind) → node_of w.nodes id ≡ Some k → node_of v.nodes id ≡ Some k
  pub calls : (caller pid : ℕ) → has_called w.links caller pid ≡ true → has_called v.links caller pid ≡ true
  pub processes : (pid : ℕ) (r : ProcessRecord) → find_record pid w.records ≡ Some r
      → (q : ProcessRecord) × (find_record pid v.records ≡ Some q) × IsSameProcess q r
  pub definitions : (number : ℕ) (name : List ℕ) (d : Definition) → definition_in w.libraries number name ≡ Some d → definition_in v.libraries number name ≡ Some d

pub same_process : (r : ProcessRecord) → IsSameProcess r r
same_process r = record { node = refl; kind = refl; depth = refl; label = refl }

found_again : (pid : ℕ) (records : List ProcessRecord) (r : ProcessRecord) → find_record pid records ≡ Some r
    → (q : ProcessRecord) × (find_record pid records ≡ Some q) × IsSameProcess q r
found_again pid records r h = (r, h, same_process r)

found_at : (at : ℕ) (f : ProcessRecord → ProcessRecord) → ((r : ProcessRecord) → IsSameProcess (f r) r) → (pid : ℕ) (records : List ProcessRecord) (r : ProcessRecord)
    → find_record pid records ≡ Some r → (q : ProcessRecord) × (find_record pid (map (at_one at f) records) ≡ Some q) × IsSameProcess q r
found_at at f keeps pid records r h = (
  at_one at f r,
  find_mapped (at_one at f) (at_one_keeps (λ (x : ProcessRecord). x.node) f (λ x. (keeps x).node) at) pid records ∙ ap (option_map (at_one at f)) h,
  record {
    node = at_one_keeps (λ (x : ProcessRecord). x.node) f (λ x. (keeps x).node) at r;
    kind = at_one_keeps (λ (x : ProcessRecord). x.kind) f (λ x. (keeps x).kind) at r;
    depth = at_one_keeps (λ (x : ProcessRecord). x.depth) f (λ x. (keeps x).depth) at r;
    label = at_one_keeps (λ (x : ProcessRecord). x.label) f (λ x. (keeps x).label) at r;
  },
)

pub grows : (batch : ℕ) (w : World) (c : Change) → Grows w (after_change batch w c)
grows batch w (change.Library library names) = record {
  nodes = λ id k h. h;
  calls = λ caller pid h. h;
  processes = λ pid r h. found_again pid w.records r h;
  definitions = definition_grown w.libraries ((library, names) ∷ []);
}
grows batch w (change.Data v) = record {
  nodes = node_grown w.nodes (node.Data v ∷ []);
  calls = λ caller pid h. h;
  processes = λ pid r h. found_again pid w.records r h;
  definitions = λ number name d h. h;
}
grows batch w (change.Process n) = record {
  nodes = node_grown w.nodes (process_node n.kind ∷ []);
  calls = λ caller pid h. h;
  processes = λ pid r h. (r, find_grown pid w.records (made (next_number w) n ∷ []) r h, same_process r);
  definitions = λ number name d h. h;
}
grows batch w (change.Link l) = record {
  nodes = λ id k h. h;
  calls = called_grown w.links (l ∷ []);
  processes = λ pid r h. found_again pid w.records r h;
  definitions = λ number name d h. h;
}
grows batch w (change.Set s) = record {
  nodes = λ id k h. h;
  calls = λ caller pid h. h;
  processes = λ pid r h. found_at s.pid (set batch s) (λ x. record { node = refl; kind = refl; depth = refl; label = refl }) pid w.records r h;
  definitions = λ number name d h. h;
}
grows batch w (change.Count n) = record {
  nodes = λ id k h. h;
  calls = λ caller pid h. h;
  processes = λ pid r h. found_again pid w.records r h;
  definitions = λ number name d h. h;
}
grows batch w (change.Kept k) = record {
  nodes = λ id k h. h;
  calls = λ caller pid h. h;
  processes = λ pid r h. found_at k.pid (keep k) (λ x. record { node = refl; kind = refl; depth = refl; label = refl }) pid w.records r h;
  definitions = λ number name d h. h;
}

-- ---- links
call_by : (label : List ℕ) (a b c d : ProcessRecord) → IsSameProcess c a → IsSameProcess d b → is_called_by label a (Some b) ≡ true
    → is_called_by label c (Some d) ≡ true
call_by label a b c d p q h =
    let e : is_called_by label c (Some d) ≡ is_called_by label a (Some b) = λ i. (q.depth i == suc (p.depth i)) && bytes_eq (q.label i) label in
    e ∙ h

call_between : (w v : World) → Grows w v → (label : List ℕ) (source target : ℕ) (o p : Option ProcessRecord)
    → find_record source w.records ≡ o → find_record target w.records ≡ p
    → is_call_between label o p ≡ true → is_call_between label (find_record source v.records) (find_record target v.records) ≡ true
call_between w v g label source target None p e f h = absurd (cc)
call_between w v g label source target (Some a) None e f h = absurd (cc)
call_between w v g label source target (Some a) (Some b) e f h =
    let c = g.processes source a e in
    let d = g.processes target b f in
    let e : is_call_between label (find_record source v.records) (find_record target v.records) ≡ is_called_by label c.0 (Some d.0) =
    λ i. is_call_between label (c.1 i) (d.1 i) in
    e ∙ call_by label a b c.0 d.0 c.2 d.2 h

pub call_grows : (w v : World) → Grows w v → (l : Link) → call_fits w.records l ≡ true → call_fits v.records l ≡ true
call_grows w v g l h = call_between w v g l.label l.source l.target (find_record l.source w.records) (find_record l.target w.records) refl refl h

pub calls_grow : (w v : World) → Grows w v → (links : List Link) → All (λ l. IsCall l.link → call_fits w.records l ≡ true) links
    → All (λ l. IsCall l.link → call_fits v.records l ≡ true) links
calls_grow w v g links all = λ i d lt is. call_grows w v g (get_or links i d) (all i d lt is)

end_grows : (w v : World) → Grows w v → (P : NodeKind → Type 0) (id : ℕ) → IsSomeAnd (node_of w.nodes id) P → IsSomeAnd (node_of v.nodes id) P
end_grows w v g P id h =
    let k = some_and P (node_of w.nodes id) h in
    subst (λ (o : Option NodeKind). IsSomeAnd o P) (sym (g.nodes id k.0 k.1)) k.2

pub links_grow : (w v : World) → Grows w v → IsLinkCorrect w.nodes w.links → IsLinkCorrect v.nodes w.links
links_grow w v g h = record {
  ends = λ i d lt.
      let l = get_or w.links i d in
      let e = h.ends i d lt in
      (end_grows w v g (Leaves l.link) l.source e.0, end_grows w v g (Enters l.link) l.target e.1);
  apart = h.apart;
}

-- ---- records
kind_by : (k : ProcessKind) (o p : Option Definition) → ((d : Definition) → o ≡ Some d → p ≡ Some d) → is_of_kind k o ≡ true → is_of_kind k p ≡ true
kind_by k None p h e = absurd (cc)
kind_by k (Some d) p h e = ap (is_of_kind k) (h d refl) ∙ e

pub kind_grows : (w v : World) → Grows w v → (k : ProcessKind) (number : ℕ) (name : List ℕ) → is_of_kind k (definition_in w.libraries number name) ≡ true
    → is_of_kind k (definition_in v.libraries number name) ≡ true
kind_grows w v g k number name h = kind_by k (definition_in w.libraries number name) (definition_in v.libraries number name) (g.definitions number name) h

same_definition_by : (k : ProcessKind) (o p : Option Definition) → ((d : Definition) → o ≡ Some d → p ≡ Some d) → is_of_kind k o ≡ true → p ≡ o
same_definition_by k None p h e = absurd (cc)
same_definition_by k (Some d) p h e = h d refl

list_all_by : {X : Type 0} (p q : X → Bool) → ((x : X) → p x ≡ true → q x ≡ true) → (xs : List X) → list_all p xs ≡ true → list_all q xs ≡ true
list_all_by p q h [] a = refl
list_all_by p q h (x ∷ xs) a =
    let b = and_parts (p x) (list_all p xs) a in
    and_from (q x) (list_all q xs) (h x b.0) (list_all_by p q h xs b.1)

some_found : {X : Type 0} (o : Option X) → is_some o ≡ true → (x : X) × (o ≡ Some x)
some_found None h = absurd (cc)
some_found (Some x) h = (x, refl)

process_grows : (w v : World) → Grows w v → (pid : ℕ) → is_process w.records pid ≡ true → is_process v.records pid ≡ true
process_grows w v g pid h =
    let r = some_found (find_record pid w.records) h in
    let q = g.processes pid r.0 r.1 in
    ap is_some q.1

held_grows : (w v : World) → Grows w v → (c : CtxRef) → held_fits w.records c ≡ true → held_fits v.records c ≡ true
held_grows w v g (held.Plain x) h = h
held_grows w v g (held.One pid) h = process_grows w v g pid h
held_grows w v g (held.Many pids) h = list_all_by (is_process w.records) (is_process v.records) (process_grows w v g) pids h

data_found : (o : Option NodeKind) → is_data_node o ≡ true → (k : NodeKind) × (o ≡ Some k)
data_found None h = absurd (cc)
data_found (Some k) h = (k, refl)

data_grows : (w v : World) → Grows w v → (id : ℕ) → is_data_node (node_of w.nodes id) ≡ true → is_data_node (node_of v.nodes id) ≡ true
data_grows w v g id h =
    let k = data_found (node_of w.nodes id) h in
    ap is_data_node (g.nodes id k.0 k.1 ∙ sym k.1) ∙ h

-- the parts of a checkpoint that fits
pub record CheckpointFits (w : World) (r : ProcessRecord) (c : Checkpoint) : Type 0 where
  pub some : not (is_nil c.frames) ≡ true
  pub frames : list_all (frame_fits (outline_lengths (definition_in w.libraries r.library r.definition))) c.frames ≡ true
  pub awaiting : list_all (λ a. has_called w.links r.node a.pid) c.awaiting ≡ true
  pub ctx : list_all (λ e. held_fits w.records e.1) c.ctx ≡ true
  pub outputs : list_all (λ o. is_data_node (node_of w.nodes o.1)) c.outputs ≡ true

pub checkpoint_parts : (w : World) (r : ProcessRecord) (c : Checkpoint) → checkpoint_fits w r c ≡ true → CheckpointFits w r c
checkpoint_parts w r c h =
    let a = and_parts _ _ h in
    let b = and_parts _ _ a.1 in
    let d = and_parts _ _ b.1 in
    let e = and_parts _ _ d.1 in
    record { some = a.0; frames = b.0; awaiting = d.0; ctx = e.0; outputs = e.1 }

pub checkpoint_from : (w : World) (r : ProcessRecord) (c : Checkpoint) → CheckpointFits w r c → checkpoint_fits w r c ≡ true
checkpoint_from w r c h = and_from _ _ h.some (and_from _ _ h.frames (and_from _ _ h.awaiting (and_from _ _ h.ctx h.outputs)))

checkpoint_grows : (w v : World) → Grows w v → (r : ProcessRecord) → is_of_kind r.kind (definition_in w.libraries r.library r.definition) ≡ true → (c : Checkpoint)
    → checkpoint_fits w r c ≡ true → checkpoint_fits v r c ≡ true
checkpoint_grows w v g r is c h =
    let p = checkpoint_parts w r c h in
    let before = definition_in w.libraries r.library r.definition in
    let after = definition_in v.libraries r.library r.definition in
    let same = same_definition_by r.kind before after (g.definitions r.library r.definition) is in
    checkpoint_from v r c (record {
      some = p.some;
      frames = subst (λ (o : Option Definition). list_all (frame_fits (outline_lengths o)) c.frames ≡ true) (sym same) p.frames;
      awaiting = list_all_by (λ a. has_called w.links r.node a.pid) (λ a. has_called v.links r.node a.pid) (λ a. g.calls r.node a.pid) c.awaiting p.awaiting;
      ctx = list_all_by (λ e. held_fits w.records e.1) (λ e. held_fits v.records e.1) (λ e. held_grows w v g e.1) c.ctx p.ctx;
      outputs = list_all_by (λ o. is_data_node (node_of w.nodes o.1)) (λ o. is_data_node (node_of v.nodes o.1)) (λ o. data_grows w v g o.1) c.outputs p.outputs;
    })

pub standing_grows : (w v : World) → Grows w v → (r : ProcessRecord) → is_of_kind r.kind (definition_in w.libraries r.library r.definition) ≡ true → (p : Part)
    → standing_fits w r p ≡ true → standing_fits v r p ≡ true
standing_grows w v g r is part.Fresh h = h
standing_grows w v g r is (part.Chain c) h = checkpoint_grows w v g r is c h
standing_grows w v g r is (part.Job j) h = h
standing_grows w v g r is part.Over h = h
