-- The environment of a process is there.
use Rattle.std.proofs.Common.{◌≡◌, ℕ, ◌+◌, true, false, List, [], ◌∷◌, ◌++◌, Option, Some, None, drop, refl, ap, sym, ◌∙◌, append_assoc}
use Rattle.std.specs.Prelude.{is_some, slice_get, ◌&&◌, not}
use Rattle.std.specs.Option.{option_map}
use Rattle.std.specs.List.{list_all}
use Rattle.std.proofs.lemmas.List.{at_drop_more}
use Rattle.std.proofs.lemmas.Option.{slice_get_within, get_or_from_slice_get}
use Rattle.wc_graph.specs.Rules.{node_of}
use Rattle.wc_state.specs.declared.context.CtxRef.{CtxRef}
use Rattle.wc_state.specs.declared.context.CtxRef.TheVariants as held
use Rattle.wc_state.specs.declared.environment.Child.{Child}
use Rattle.wc_state.specs.declared.environment.Item.{Item}
use Rattle.wc_state.specs.declared.record.Checkpoint.{Checkpoint}
use Rattle.wc_state.specs.declared.record.Part.{Part}
use Rattle.wc_state.specs.declared.record.Part.TheVariants as part
use Rattle.wc_state.specs.declared.record.ProcessRecord.{ProcessRecord}
use Rattle.wc_world.specs.World.{World}
use Rattle.wc_world.specs.Records.{find_record, has_called, definition_in}
use Rattle.wc_world.specs.Fits.{is_nil, is_process, is_data_node, held_fits, frame_fits, outline_lengths, checkpoint_fits, standing_fits}
use Rattle.wc_world.specs.Consistent.{Stands, IsConsistent}
use Rattle.wc_world.specs.Trees.{child_at, and_child, children_at, item_of, and_item, items_of, context_of}
use Rattle.wc_world.proofs.FoundRecords.{left, right, found_holds}

abbrev pub Held : Type 0
Held = List ℕ × CtxRef

abbrev pub Entry : Type 0
Entry = List ℕ × Item

-- ---- one key more

item_first : (kept : List Entry) (key : List ℕ) (i : Item) (rest : Option (List Entry))
    → option_map (λ r. (kept ++ (key, i) ∷ []) ++ r) rest ≡ option_map (λ r. kept ++ r) (and_item key (Some i) rest)
item_first kept key i None = refl
item_first kept key i (Some rest) = ap Some (append_assoc kept ((key, i) ∷ []) rest)

module _ (w : World) (ctx : List Held) (at : ℕ) (e : Held) (p : slice_get ctx at ≡ Some e) where
  left_is : items_of w (drop at ctx) ≡ and_item e.0 (item_of w e.1) (items_of w (drop (at + 1) ctx))
  left_is =
      at_drop_more (items_of w) ctx at e (slice_get_within ctx at e p)
      ∙ ap (λ (x : Held). items_of w (x ∷ drop (at + 1) ctx)) (get_or_from_slice_get ctx at e e p)

  -- what the next key holds is the next item
  pub item_taken : (kept more : List Entry) (i : Item) → Some i ≡ item_of w e.1 → more ≡ kept ++ (e.0, i) ∷ []
      → option_map (λ rest. more ++ rest) (items_of w (drop (at + 1) ctx)) ≡ option_map (λ rest. kept ++ rest) (items_of w (drop at ctx))
  item_taken kept more i q m =
      let rest = items_of w (drop (at + 1) ctx) in
      ap (λ (xs : List Entry). option_map (λ r. xs ++ r) rest) m ∙ item_first kept e.0 i rest
      ∙ ap (λ (o : Option Item). option_map (λ r. kept ++ r) (and_item e.0 o rest)) q
      ∙ ap (option_map (λ r. kept ++ r)) (sym left_is)

  -- where a process of it isn't there, there are no items
  pub item_lacks : (kept : List Entry) → None ≡ item_of w e.1 → None ≡ option_map (λ rest. kept ++ rest) (items_of w (drop at ctx))
  item_lacks kept q =
      ap (λ (o : Option Item). option_map (λ r. kept ++ r) (and_item e.0 o (items_of w (drop (at + 1) ctx)))) q
      ∙ ap (option_map (λ r. kept ++ r)) (sym left_is)

-- ---- each process is there

module _ (w : World) where
  mapped_there : {A B : Type 0} (f : A → B) (o : Option A) → is_some o ≡ true → is_some (option_map f o) ≡ true
  mapped_there f None h = h
  mapped_there f (Some a) h = refl

  child_there : (pid : ℕ) → is_process w.records pid ≡ true → is_some (child_at w pid) ≡ true
  child_there pid h = mapped_there _ (find_record pid w.records) h

  children_there : (pids : List ℕ) → list_all (is_process w.records) pids ≡ true → is_some (children_at w pids) ≡ true
  children_there [] h = refl
  children_there (pid ∷ pids) h =
      both (child_at w pid) (children_at w pids) (child_there pid (left (is_process w.records pid) (list_all (is_process w.records) pids) h))
      (children_there pids (right (is_process w.records pid) (list_all (is_process w.records) pids) h))
    where
      both : (c : Option Child) (cs : Option (List Child)) → is_some c ≡ true → is_some cs ≡ true → is_some (and_child c cs) ≡ true
      both None cs p q = p
      both (Some c) None p q = q
      both (Some c) (Some cs) p q = refl

  item_there : (h : CtxRef) → held_fits w.records h ≡ true → is_some (item_of w h) ≡ true
  item_there (held.Plain v) h = refl
  item_there (held.One pid) h = mapped_there _ (child_at w pid) (child_there pid h)
  item_there (held.Many pids) h = mapped_there _ (children_at w pids) (children_there pids h)

  items_there : (ctx : List Held) → list_all (λ e. held_fits w.records e.1) ctx ≡ true → is_some (items_of w ctx) ≡ true
  items_there [] h = refl
  items_there (e ∷ es) h =
      both (item_of w e.1) (items_of w es) (item_there e.1 (left (held_fits w.records e.1) (list_all (λ e. held_fits w.records e.1) es) h))
      (items_there es (right (held_fits w.records e.1) (list_all (λ e. held_fits w.records e.1) es) h))
    where
      both : (i : Option Item) (is : Option (List Entry)) → is_some i ≡ true → is_some is ≡ true → is_some (and_item e.0 i is) ≡ true
      both None is p q = p
      both (Some i) None p q = q
      both (Some i) (Some is) p q = refl

  checkpoint_there : (r : ProcessRecord) (c : Checkpoint) → checkpoint_fits w r c ≡ true → is_some (items_of w c.ctx) ≡ true
  checkpoint_there r c h =
      let started = not (is_nil c.frames) in
      let placed = list_all (frame_fits (outline_lengths (definition_in w.libraries r.library r.definition))) c.frames in
      let called = list_all (λ a. has_called w.links r.node a.pid) c.awaiting in
      let held = list_all (λ e. held_fits w.records e.1) c.ctx in
      let given = list_all (λ o. is_data_node (node_of w.nodes o.1)) c.outputs in
      items_there c.ctx (left held given (right called (held && given) (right placed (called && (held && given)) (right started (placed && (called && (held && given))) h))))

  context_there : (r : ProcessRecord) (p : Part) → standing_fits w r p ≡ true → is_some (items_of w (context_of p)) ≡ true
  context_there r part.Fresh h = refl
  context_there r (part.Chain c) h = checkpoint_there r c h
  context_there r (part.Job j) h = refl
  context_there r part.Over h = refl

  -- each process that is there has a context
  pub no_context : (pid : ℕ) (r : ProcessRecord) → IsConsistent w → Some r ≡ find_record pid w.records → None ≡ items_of w (context_of r.part) → ⊥
  no_context pid r h p q =
      let standing : standing_fits w r r.part ≡ true = (found_holds (Stands w) pid w.records r h.records (sym p)).standing in
      let there : is_some (items_of w (context_of r.part)) ≡ true = context_there r r.part standing in
      let gone : is_some (items_of w (context_of r.part)) ≡ false = ap is_some (sym q) in
      cc
