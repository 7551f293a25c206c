-- The names that are set, with what they hold, where the first one takes memory.
use Rattle.std.specs.Prelude.{List, [], Option, Some, None}
use Rattle.std.specs.declared.boxed.Box.{Box}
use Rattle.std.specs.declared.alloc.Global.{Global}

-- the keys of a context, which may have taken no memory yet
abbrev pub pairs_in : {X : Type 0} → Option (Box (List X) Global) → List X
pairs_in None = []
pairs_in (Some b) = b.value
