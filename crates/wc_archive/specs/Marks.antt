-- Marks of numbers, on the way to the archive of a root.
use Rattle.std.specs.Prelude.{◌≡◌, ℕ, ◌+◌, ◌==◌, Bool, ◌&&◌, ◌||◌, false, List, [], ◌∷◌, length, filter, slice_index_or}
use Rattle.wc_graph.specs.declared.link.Link.{Link}
use Rattle.wc_graph.specs.declared.link.LinkType.{LinkType}
use Rattle.wc_graph.specs.declared.link.LinkType.TheVariants.{CallCalc, CallWork}
use Rattle.wc_archive.specs.Closure.{its_process, numbers_from}

-- the types of calls
abbrev pub call_types : List LinkType
call_types = CallCalc ∷ (CallWork ∷ [])

-- whether a number is marked
abbrev pub is_marked : List Bool → ℕ → Bool
is_marked marks n = slice_index_or marks n false

-- Among the numbers up to that of the last node those are marked for which the test holds, and it holds for no others.
pub record AreMarks (test : ℕ → Bool) (count : ℕ) (marks : List Bool) : Type 0 where
  pub size : length marks ≡ count + 1
  pub each : (n : ℕ) → is_marked marks n ≡ test n

-- the numbers that are marked, ascending
abbrev pub marked : List Bool → List ℕ
marked marks = filter (is_marked marks) (numbers_from 0 (length marks))

-- the link is one of a marked process
abbrev pub is_marked_link : List Bool → Link → Bool
is_marked_link below l = is_marked below (its_process l)

-- the link is one of a marked process, and the number is that of an end of it
abbrev pub ends_at : List Bool → ℕ → Link → Bool
ends_at below n l = is_marked_link below l && ((l.source == n) || (l.target == n))
