-- Where the links of a node stand in the list of links.
use Rattle.std.specs.Prelude.{◌≡◌, ◌≢◌, ℕ, zero, suc, ◌+◌, ◌-◌, ◌<◌, ◌≤◌, true, List, [], ◌∷◌, ◌++◌, length, Option, Some, None, slice_get, slice_set}
use Rattle.wc_graph.specs.declared.link.Link.{Link}
use Rattle.wc_graph.specs.declared.index.Index.{Index}

-- one end of a link
abbrev pub source_of : Link → ℕ
source_of l = l.source

-- the node to which a link leads
abbrev pub target_of : Link → ℕ
target_of l = l.target

-- From the one place up to the other no link has the node at this end.
pub record Skips (side : Link → ℕ) (links : List Link) (node below at : ℕ) : Type 0 where
  pub within : at ≤ below
  pub others : (k : ℕ) (l : Link) → slice_get links k ≡ Some l → at ≤ k → k < below → side l ≢ node

-- the entry of the node with this number, counted from 1
abbrev pub last_at : List ℕ → ℕ → Option ℕ
last_at last zero = None
last_at last (suc place) = slice_get last place

-- The index has one link more, whose node had this entry.
abbrev pub AddsLink : Option ℕ → Index → ℕ → Index → Type 0
AddsLink None old node new = ⊥
AddsLink (Some earlier) old node new =
    (new.last.items ≡ slice_set old.last.items (node - 1) (length old.before.items + 1))
    × (new.before.items ≡ old.before.items ++ earlier ∷ [])

-- Behind the last link of a node, and between a link and the one before it, no link has the node at this end.
pub record IsIndex (side : Link → ℕ) (links : List Link) (count : ℕ) (last before : List ℕ) : Type 0 where
  pub lasts : length last ≡ count
  pub befores : length before ≡ length links
  pub last_link : (n at : ℕ) → slice_get last n ≡ Some at → Skips side links (suc n) (length links) at
  pub link_before : (p at : ℕ) (l : Link) → slice_get before p ≡ Some at → slice_get links p ≡ Some l → Skips side links (side l) p at

-- An index that wasn't given up is one of these links and of so many nodes.
abbrev pub IsIndexed : (Link → ℕ) → List Link → ℕ → Index → Type 0
IsIndexed side links count i = i.whole ≡ true → IsIndex side links count i.last.items i.before.items
