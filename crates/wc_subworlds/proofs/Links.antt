-- What a part and the whole tell of the links of a process.
use Rattle.std.proofs.Common.{◌≡◌, ℕ, suc, ◌==◌, Bool, true, false, List, [], ◌∷◌, map, Option, Some, None, refl, sym, ap, ◌∙◌}
use Rattle.std.specs.Prelude.{All, ◌&&◌, if◌then◌else◌, filter, option_map, option_and_then}
use Rattle.std.specs.Str.{bytes_eq}
use Rattle.wc_value.specs.Ascending.{put, before}
use Rattle.wc_value.specs.declared.process.Tree.{Tree}
use Rattle.wc_value.specs.declared.value.Value.{Value}
use Rattle.wc_graph.specs.Index.{source_of, target_of}
use Rattle.wc_graph.specs.Rules.{node_of, HasRightEnds}
use Rattle.wc_graph.specs.declared.link.Link.{Link}
use Rattle.wc_graph.specs.declared.node.NodeKind.{NodeKind}
use Rattle.wc_state.specs.declared.environment.NodeValue.{NodeValue}
use Rattle.wc_semantics.specs.Tables.{Label}
use Rattle.wc_world.specs.Fits.{calls_from}
use Rattle.wc_world.specs.Linked.{of_node}
use Rattle.wc_world.specs.Records.{calls, gives_output, takes_input, is_call_from, is_input_of, is_output_of}
use Rattle.wc_world.specs.Trees.{Branch, NamedValues, and_branch, branches, data_of, inputs_after, outputs_after, value_of, values_alone, with_value}
use Rattle.wc_machine.specs.Paths.{called_under}
use Rattle.wc_machine.proofs.Frames.{and_false, source_is_node, target_is_node}
use Rattle.wc_subworlds.specs.Parts.{Rises, placed}
use Rattle.wc_subworlds.proofs.Placing.{Walks, told_along, call_placed, input_placed, output_placed}

if_false : {T : Type 0} (a : Bool) (x y : T) → a ≡ false → (if a then x else y) ≡ y
if_false true x y p = absurd (cc)
if_false false x y p = refl

-- ---- values by label

-- two lists of nodes by label have the same labels and values
abbrev pub HaveSameValues : NamedValues → NamedValues → Type 0
HaveSameValues xs ys = values_alone xs ≡ values_alone ys

value_set : (label : List ℕ) (v : NodeValue) (e : List ℕ × NodeValue) (es : NamedValues) (b c : Bool)
    → values_alone (put label v es) ≡ put label v.value (values_alone es)
    → values_alone (if b then e ∷ put label v es else if c then (label, v) ∷ es else (label, v) ∷ e ∷ es)
    ≡ (if b then (e.0, e.1.value) ∷ put label v.value (values_alone es)
    else if c then (label, v.value) ∷ values_alone es else (label, v.value) ∷ (e.0, e.1.value) ∷ values_alone es)
value_set label v e es true c rest = ap (λ l. (e.0, e.1.value) ∷ l) rest
value_set label v e es false true rest = refl
value_set label v e es false false rest = refl

values_put : (label : List ℕ) (v : NodeValue) (es : NamedValues) → values_alone (put label v es) ≡ put label v.value (values_alone es)
values_put label v [] = refl
values_put label v (e ∷ es) = value_set label v e es (before e.0 label) (bytes_eq e.0 label) (values_put label v es)

-- one more value keeps that
same_with : (label : List ℕ) (i j : ℕ) (o p : Option Value) (xs ys : NamedValues) → o ≡ p → HaveSameValues xs ys
    → HaveSameValues (with_value label i o xs) (with_value label j p ys)
same_with label i j None None xs ys e h = h
same_with label i j None (Some y) xs ys e h = absurd (cc e)
same_with label i j (Some x) None xs ys e h = absurd (cc e)
same_with label i j (Some x) (Some y) xs ys e h =
    let v : x ≡ y = cc e in
    values_put label (record { node = i; value = x }) xs ∙ (λ k. put label (v k) (h k)) ∙ sym (values_put label (record { node = j; value = y }) ys)

same_choice : (a b : Bool) (x x' y y' : NamedValues) → b ≡ a → HaveSameValues x y → HaveSameValues x' y' → HaveSameValues (if a then x else x') (if b then y else y')
same_choice true true x x' y y' e h g = h
same_choice true false x x' y y' e h g = absurd (cc e)
same_choice false true x x' y y' e h g = absurd (cc e)
same_choice false false x x' y y' e h g = g

-- ---- what is told of the links of one process

module _ (nodes : List NodeKind) (pid : ℕ) where
  abbrev add_input : Link → (NamedValues → NamedValues) → NamedValues → NamedValues
  add_input l rest es = rest (if is_input_of pid l then with_value l.label l.source (value_of nodes l.source) es else es)

  abbrev add_output : Link → (NamedValues → NamedValues) → NamedValues → NamedValues
  add_output l rest es = rest (if is_output_of pid l then with_value l.label l.target (value_of nodes l.target) es else es)

  abbrev inputs_walk : Walks (NamedValues → NamedValues) target_of pid (inputs_after nodes pid)
  inputs_walk = record {
    step = add_input;
    more = λ l ls. refl;
    passes = λ l rest h. λ i es. rest (if_false (is_input_of pid l) (with_value l.label l.source (value_of nodes l.source) es) es (and_false (takes_input l.link) (l.target == pid) h) i);
  }

  abbrev outputs_walk : Walks (NamedValues → NamedValues) source_of pid (outputs_after nodes pid)
  outputs_walk = record {
    step = add_output;
    more = λ l ls. refl;
    passes = λ l rest h. λ i es. rest (if_false (is_output_of pid l) (with_value l.label l.target (value_of nodes l.target) es) es (and_false (gives_output l.link) (l.source == pid) h) i);
  }

module _ (pid : ℕ) where
  abbrev add_call : (label : Label) → Link → Option ℕ → Option ℕ
  add_call label l rest = if is_call_from pid l && bytes_eq l.label label then Some l.target else rest

  abbrev add_branch : (ℕ → Option Tree) → Link → Option (List Branch) → Option (List Branch)
  add_branch tree l rest = if is_call_from pid l then and_branch (tree l.target) l.label rest else rest

  abbrev count_call : Link → ℕ → ℕ
  count_call l n = if is_call_from pid l then suc n else n

  abbrev keep_call : Link → List Link → List Link
  keep_call l rest = if is_call_from pid l then l ∷ rest else rest

  no_call : (l : Link) → (l.source == pid) ≡ false → is_call_from pid l ≡ false
  no_call l h = and_false (calls l.link) (l.source == pid) h

  abbrev under_walk : (label : Label) → Walks (Option ℕ) source_of pid (λ ls. called_under ls pid label)
  under_walk label = record {
    step = add_call label;
    more = λ l ls. refl;
    passes = λ l rest h. if_false (is_call_from pid l && bytes_eq l.label label) (Some l.target) rest (ap (λ (b : Bool). b && bytes_eq l.label label) (no_call l h));
  }

  abbrev branches_walk : (tree : ℕ → Option Tree) → Walks (Option (List Branch)) source_of pid (branches tree pid)
  branches_walk tree = record {
    step = add_branch tree;
    more = λ l ls. refl;
    passes = λ l rest h. if_false (is_call_from pid l) (and_branch (tree l.target) l.label rest) rest (no_call l h);
  }

  abbrev count_walk : Walks ℕ source_of pid (calls_from pid)
  count_walk = record {
    step = count_call;
    more = λ l ls. refl;
    passes = λ l n h. if_false (is_call_from pid l) (suc n) n (no_call l h);
  }

  abbrev calls_walk : Walks (List Link) source_of pid (filter (is_call_from pid))
  calls_walk = record {
    step = keep_call;
    more = λ l ls. refl;
    passes = λ l rest h. if_false (is_call_from pid l) (l ∷ rest) rest (no_call l h);
  }

-- ---- a node and its place

same_if : {T : Type 0} (a b : Bool) (x x' y y' : T) → b ≡ a → x ≡ y → x' ≡ y' → (if a then x else x') ≡ (if b then y else y')
same_if a b x x' y y' e h g = let same : a ≡ b = sym e in λ i. if same i then h i else g i

module _ (place : ℕ → ℕ) (rises : Rises place) (pid : ℕ) (ls ms : List Link) where
  module _ (old new : List NodeKind) (nodes : (id : ℕ) (n : NodeKind) → node_of old id ≡ Some n → node_of new (place id) ≡ Some n) (ends : All (HasRightEnds old) ls) where
    -- a node has its value at its place
    same_value : (id : ℕ) (n : NodeKind) → node_of old id ≡ Some n → value_of old id ≡ value_of new (place id)
    same_value id n h = ap (option_and_then data_of) (h ∙ sym (nodes id n h))

    abbrev AddAlike : (NamedValues → NamedValues) → (NamedValues → NamedValues) → Type 0
    AddAlike f g = (xs ys : NamedValues) → HaveSameValues xs ys → HaveSameValues (f xs) (g ys)

    pub inputs_along : of_node target_of (place pid) ms ≡ map (placed place) (of_node target_of pid ls)
        → values_alone (inputs_after old pid ls []) ≡ values_alone (inputs_after new (place pid) ms [])
    inputs_along same =
        told_along (NamedValues → NamedValues) (NamedValues → NamedValues) place AddAlike (HasRightEnds old) target_of pid (inputs_after old pid) (inputs_after new (place pid))
        (inputs_walk old pid) (inputs_walk new (place pid))
        (record {
          each = λ l f g right alike xs ys h.
              let n = source_is_node old l right in
              alike (if is_input_of pid l then with_value l.label l.source (value_of old l.source) xs else xs)
              (if is_input_of (place pid) (placed place l) then with_value l.label (place l.source) (value_of new (place l.source)) ys else ys)
              (same_choice (is_input_of pid l) (is_input_of (place pid) (placed place l)) (with_value l.label l.source (value_of old l.source) xs) xs
              (with_value l.label (place l.source) (value_of new (place l.source)) ys) ys (input_placed place rises pid l)
              (same_with l.label l.source (place l.source) (value_of old l.source) (value_of new (place l.source)) xs ys (same_value l.source n.0 n.1) h) h);
        })
        (λ xs ys h. h) ls ms same ends [] [] refl

    pub outputs_along : of_node source_of (place pid) ms ≡ map (placed place) (of_node source_of pid ls)
        → values_alone (outputs_after old pid ls []) ≡ values_alone (outputs_after new (place pid) ms [])
    outputs_along same =
        told_along (NamedValues → NamedValues) (NamedValues → NamedValues) place AddAlike (HasRightEnds old) source_of pid (outputs_after old pid) (outputs_after new (place pid))
        (outputs_walk old pid) (outputs_walk new (place pid))
        (record {
          each = λ l f g right alike xs ys h.
              let n = target_is_node old l right in
              alike (if is_output_of pid l then with_value l.label l.target (value_of old l.target) xs else xs)
              (if is_output_of (place pid) (placed place l) then with_value l.label (place l.target) (value_of new (place l.target)) ys else ys)
              (same_choice (is_output_of pid l) (is_output_of (place pid) (placed place l)) (with_value l.label l.target (value_of old l.target) xs) xs
              (with_value l.label (place l.target) (value_of new (place l.target)) ys) ys (output_placed place rises pid l)
              (same_with l.label l.target (place l.target) (value_of old l.target) (value_of new (place l.target)) xs ys (same_value l.target n.0 n.1) h) h);
        })
        (λ xs ys h. h) ls ms same ends [] [] refl

  -- ---- its calls

  module _ (same : of_node source_of (place pid) ms ≡ map (placed place) (of_node source_of pid ls)) where
    all_are : All (λ l. Unit {0}) ls
    all_are = λ i d lt. tt

    pub under_along : (label : Label) → called_under ms (place pid) label ≡ option_map place (called_under ls pid label)
    under_along label =
        told_along (Option ℕ) (Option ℕ) place (λ a b. b ≡ option_map place a) (λ l. Unit {0}) source_of pid (λ xs. called_under xs pid label)
        (λ xs. called_under xs (place pid) label) (under_walk pid label) (under_walk (place pid) label)
        (record {
          each = λ l a b yes h. choice (is_call_from pid l && bytes_eq l.label label) (is_call_from (place pid) (placed place l) && bytes_eq l.label label) l.target a b
              (ap (λ (c : Bool). c && bytes_eq l.label label) (call_placed place rises pid l)) h;
        })
        refl ls ms same all_are
      where
        choice : (c d : Bool) (n : ℕ) (a b : Option ℕ) → d ≡ c → b ≡ option_map place a → (if d then Some (place n) else b) ≡ option_map place (if c then Some n else a)
        choice true true n a b e h = refl
        choice true false n a b e h = absurd (cc e)
        choice false true n a b e h = absurd (cc e)
        choice false false n a b e h = h

    pub count_along : calls_from (place pid) ms ≡ calls_from pid ls
    count_along =
        told_along ℕ ℕ place (λ a b. b ≡ a) (λ l. Unit {0}) source_of pid (calls_from pid) (calls_from (place pid)) (count_walk pid) (count_walk (place pid))
        (record {
          each = λ l a b yes h. same_if (is_call_from (place pid) (placed place l)) (is_call_from pid l) (suc b) b (suc a) a (sym (call_placed place rises pid l)) (ap suc h) h;
        })
        refl ls ms same all_are

    pub calls_along : filter (is_call_from (place pid)) ms ≡ map (placed place) (filter (is_call_from pid) ls)
    calls_along =
        told_along (List Link) (List Link) place (λ a b. b ≡ map (placed place) a) (λ l. Unit {0}) source_of pid (filter (is_call_from pid)) (filter (is_call_from (place pid)))
        (calls_walk pid) (calls_walk (place pid))
        (record {
          each = λ l a b yes h. choice (is_call_from pid l) (is_call_from (place pid) (placed place l)) l a b (call_placed place rises pid l) h;
        })
        refl ls ms same all_are
      where
        choice : (c d : Bool) (l : Link) (a b : List Link) → d ≡ c → b ≡ map (placed place) a
            → (if d then placed place l ∷ b else b) ≡ map (placed place) (if c then l ∷ a else a)
        choice true true l a b e h = ap (λ (xs : List Link). placed place l ∷ xs) h
        choice true false l a b e h = absurd (cc e)
        choice false true l a b e h = absurd (cc e)
        choice false false l a b e h = h

    pub branches_along : (t t' : ℕ → Option Tree) → All (λ l. is_call_from pid l ≡ true → t' (place l.target) ≡ t l.target) ls
        → branches t' (place pid) ms ≡ branches t pid ls
    branches_along t t' trees =
        told_along (Option (List Branch)) (Option (List Branch)) place (λ a b. b ≡ a) (λ l. is_call_from pid l ≡ true → t' (place l.target) ≡ t l.target) source_of pid
        (branches t pid) (branches t' (place pid)) (branches_walk pid t) (branches_walk (place pid) t')
        (record {
          each = λ l a b tree h. choice (is_call_from pid l) (is_call_from (place pid) (placed place l)) l a b (call_placed place rises pid l) tree h;
        })
        refl ls ms same trees
      where
        choice : (c d : Bool) (l : Link) (a b : Option (List Branch)) → d ≡ c → (c ≡ true → t' (place l.target) ≡ t l.target) → b ≡ a
            → (if d then and_branch (t' (place l.target)) l.label b else b) ≡ (if c then and_branch (t l.target) l.label a else a)
        choice true true l a b e tree h = λ i. and_branch (tree refl i) l.label (h i)
        choice true false l a b e tree h = absurd (cc e)
        choice false true l a b e tree h = absurd (cc e)
        choice false false l a b e tree h = h
