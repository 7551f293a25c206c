-- Changes put one after another, of which some are left.
use Rattle.std.proofs.Common.{◌≡◌, ℕ, ◌+◌, ◌<◌, ◌≤◌, List, [], ◌∷◌, ◌++◌, length, get_or, drop, map, refl, sym, ap, subst, ◌∙◌, append_assoc, append-nil}
use Rattle.std.proofs.lemmas.List.{drop_more, at_drop_all}
use Rattle.std.proofs.lemmas.List.Concat.{flat_map-append}
use Rattle.std.proofs.lemmas.List.Elements.{All-nil, All-cons, All-append}
use Rattle.std.specs.Prelude.{All, flat_map}
use Rattle.wc_graph.specs.declared.node.NodeKind.{NodeKind}
use Rattle.wc_graph.specs.declared.node.NodeKind.TheVariants as node
use Rattle.wc_state.specs.declared.record.ProcessRecord.{ProcessRecord}
use Rattle.wc_world.specs.declared.change.Change.{Change}
use Rattle.wc_world.specs.Snapshot.{node_changes}
use Rattle.wc_record.specs.Spelled.{change_bytes}
use Rattle.wc_record.specs.Written.{IsChange}
use Rattle.wc_record.specs.Snapshots.{left_behind}

-- Once the changes that are left stand behind these bytes, all of them stand behind the old ones.
pub record Leaves (old out : List ℕ) (left all : List Change) : Type 0 where
  pub bytes : out ++ flat_map change_bytes left ≡ old ++ flat_map change_bytes all
  pub fits : All IsChange left → All IsChange all

-- All of them stand there.
pub record Stand (old out : List ℕ) (all : List Change) : Type 0 where
  pub bytes : out ≡ old ++ flat_map change_bytes all
  pub fits : All IsChange all

pub leaves_all : (old : List ℕ) (all : List Change) → Leaves old old all all
leaves_all old all = record { bytes = refl; fits = λ h. h }

leaves_behind : (old out more : List ℕ) (cs left all : List Change) → Leaves old out (cs ++ left) all
    → more ≡ out ++ flat_map change_bytes cs → All IsChange cs → Leaves old more left all
leaves_behind old out more cs left all h e fit = record {
  bytes =
      ap (λ l. l ++ flat_map change_bytes left) e
      ∙ append_assoc out (flat_map change_bytes cs) (flat_map change_bytes left)
      ∙ ap (λ l. out ++ l) (sym (flat_map-append change_bytes cs left))
      ∙ h.bytes;
  fits = λ k. h.fits (All-append IsChange cs left fit k);
}

leaves_more : (old out more : List ℕ) (c : Change) (left all : List Change) → Leaves old out (c ∷ left) all
    → more ≡ out ++ change_bytes c → IsChange c → Leaves old more left all
leaves_more old out more c left all h e fit = record {
  bytes = ap (λ l. l ++ flat_map change_bytes left) e ∙ append_assoc out (change_bytes c) (flat_map change_bytes left) ∙ h.bytes;
  fits = λ k. h.fits (All-cons IsChange c left fit k);
}

-- what is left at an item
left_at : {X : Type 0} (xs : List X) (i : ℕ) (x : X) → i < length xs → x ≡ get_or xs i x → drop i xs ≡ x ∷ drop (i + 1) xs
left_at xs i x lt is = drop_more xs i x lt ∙ ap (λ y. y ∷ drop (i + 1) xs) (sym is)

pub mapped_more : {X : Type 0} (f : X → Change) (xs : List X) (i : ℕ) (x : X) (old out more : List ℕ) (all : List Change) → i < length xs → x ≡ get_or xs i x
    → Leaves old out (map f (drop i xs)) all → more ≡ out ++ change_bytes (f x) → IsChange (f x) → Leaves old more (map f (drop (i + 1) xs)) all
mapped_more {X} f xs i x old out more all lt is h e fit =
    let k : Leaves old out (f x ∷ map f (drop (i + 1) xs)) all = subst (λ (ys : List X). Leaves old out (map f ys) all) (left_at xs i x lt is) h in
    leaves_more old out more (f x) (map f (drop (i + 1) xs)) all k e fit

-- nothing is left
pub stand_all : (old out : List ℕ) (left all : List Change) → left ≡ [] → Leaves old out left all → Stand old out all
stand_all old out left all none h =
    let k : Leaves old out [] all = subst (λ (l : List Change). Leaves old out l all) none h in
    record { bytes = sym (append-nil out) ∙ k.bytes; fits = k.fits (All-nil IsChange) }

pub mapped_all : {X : Type 0} (f : X → Change) (xs : List X) (i : ℕ) (old out : List ℕ) (all : List Change) → length xs ≤ i
    → Leaves old out (map f (drop i xs)) all → Stand old out all
mapped_all f xs i old out all le h = stand_all old out (map f (drop i xs)) all (at_drop_all (map f) xs i le) h

-- ---- nodes
behind_node : (n : NodeKind) (ns : List NodeKind) (rs : List ProcessRecord) → node_changes (n ∷ ns) rs ≡ node_changes (n ∷ []) rs ++ node_changes ns (left_behind n rs)
behind_node (node.Data v) ns rs = refl
behind_node node.Calculation ns [] = refl
behind_node node.Calculation ns (r ∷ rs) = refl
behind_node node.Workflow ns [] = refl
behind_node node.Workflow ns (r ∷ rs) = refl

pub nodes_more : (ns : List NodeKind) (i : ℕ) (n : NodeKind) (rs left : List ProcessRecord) (old out more : List ℕ) (all : List Change) → i < length ns → n ≡ get_or ns i n
    → Leaves old out (node_changes (drop i ns) rs) all → more ≡ out ++ flat_map change_bytes (node_changes (n ∷ []) rs) → All IsChange (node_changes (n ∷ []) rs)
    → left ≡ left_behind n rs → Leaves old more (node_changes (drop (i + 1) ns) left) all
nodes_more ns i n rs left old out more all lt is h e fit behind =
    let rest = drop (i + 1) ns in
    let same : node_changes (drop i ns) rs ≡ node_changes (n ∷ []) rs ++ node_changes rest left =
    ap (λ (ms : List NodeKind). node_changes ms rs) (left_at ns i n lt is)
    ∙ (behind_node n rest rs
    ∙ ap (λ (l : List ProcessRecord). node_changes (n ∷ []) rs ++ node_changes rest l) (sym behind)) in
    let k : Leaves old out (node_changes (n ∷ []) rs ++ node_changes rest left) all = subst (λ (cs : List Change). Leaves old out cs all) same h in
    leaves_behind old out more (node_changes (n ∷ []) rs) (node_changes rest left) all k e fit

pub nodes_all : (ns : List NodeKind) (i : ℕ) (rs : List ProcessRecord) (old out : List ℕ) (all : List Change) → length ns ≤ i
    → Leaves old out (node_changes (drop i ns) rs) all → Stand old out all
nodes_all ns i rs old out all le h =
    stand_all old out (node_changes (drop i ns) rs) all (at_drop_all (λ (ms : List NodeKind). node_changes ms rs) ns i le) h
