-- Items by name, and a context, as the list of names with what they hold.
use Rattle.std.specs.Prelude.{◌≡◌, ℕ, List, [], ◌∷◌, ◌++◌, Option, Some, None, if◌then◌else◌}
use Rattle.std.specs.Str.{bytes_eq}
use Rattle.wc_state.specs.declared.context.CtxRef.{CtxRef}

-- keys with what they hold
abbrev pub Pairs : Type 0
Pairs = List (List ℕ × CtxRef)

-- what a key holds
abbrev pub found_at : {T : Type 0} → List (List ℕ × T) → List ℕ → Option T
found_at [] key = None
found_at (p ∷ ps) key = if bytes_eq key p.0 then Some p.1 else found_at ps key

-- a key that is there keeps its place, and a new key goes last
abbrev pub with_set : {T : Type 0} → List (List ℕ × T) → List ℕ → T → List (List ℕ × T)
with_set [] key held = (key, held) ∷ []
with_set (p ∷ ps) key held = if bytes_eq key p.0 then (p.0, held) ∷ ps else p ∷ with_set ps key held

-- no pair has the key of one before it, where `front` stands in front of them
abbrev pub DifferFrom : {T : Type 0} → List (List ℕ × T) → List (List ℕ × T) → Type 0
DifferFrom front [] = Unit {0}
DifferFrom front (p ∷ ps) = (found_at front p.0 ≡ None) × DifferFrom (front ++ p ∷ []) ps

-- no key stands twice
abbrev pub KeysDiffer : {T : Type 0} → List (List ℕ × T) → Type 0
KeysDiffer ps = DifferFrom [] ps
