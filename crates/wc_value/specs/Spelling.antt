-- The canonical bytes of a value.
use Rattle.std.specs.Prelude.{ℕ, suc, max, if◌then◌else◌, List, [], ◌∷◌, ◌++◌, length, flat_map}
use Rattle.std.specs.Map.{values_of}
use Rattle.std.specs.Int.{w32, w64, to_be_bytes, cast_unsigned}
use Rattle.wc_value.specs.declared.value.Value.{Value, fold-Value}
use Rattle.wc_value.specs.declared.value.Value.TheOpen.{Value-F}

-- four bytes of length, and that many bytes
abbrev pub text : List ℕ → List ℕ
text bytes = to_be_bytes w32 (length bytes) ++ bytes

-- the bytes of a name with bytes behind it
abbrev pub pair : List ℕ × List ℕ → List ℕ
pair p = text p.0 ++ p.1

-- the bytes of a file: its name and its content
abbrev pub file : List ℕ × List ℕ → List ℕ
file f = text f.0 ++ text f.1

-- one level, with each value inside already spelled
abbrev pub level : Value-F (List ℕ) → List ℕ
level (Value-F.Int n) = 1 ∷ to_be_bytes w64 (cast_unsigned w64 n)
level (Value-F.Bool b) = 2 ∷ (if b then 1 else 0) ∷ []
level (Value-F.Text t) = 3 ∷ text t
level (Value-F.List items) = 4 ∷ (to_be_bytes w32 (length items) ++ flat_map (λ s. s) items)
level (Value-F.Dict pairs) = 5 ∷ (to_be_bytes w32 (length pairs) ++ flat_map pair pairs)
level (Value-F.Folder files) = 6 ∷ (to_be_bytes w32 (length files) ++ flat_map file files)

-- The canonical bytes computed from a value, one level at a time
abbrev pub spelling : Value → List ℕ
spelling = fold-Value (List ℕ) level

-- how deep lists and dictionaries nest
abbrev pub deepest : List ℕ → ℕ
deepest [] = 0
deepest (d ∷ ds) = max d (deepest ds)

-- how deep a value is, from the depths of what is inside it
abbrev pub depth_level : Value-F ℕ → ℕ
depth_level (Value-F.List items) = suc (deepest items)
depth_level (Value-F.Dict pairs) = suc (deepest (values_of pairs))
depth_level _ = 1

-- how deep lists and dictionaries nest (a value inside none has depth 1)
abbrev pub depth : Value → ℕ
depth = fold-Value ℕ depth_level

-- what stands behind the tags of the containers
abbrev pub spellings : List Value → List ℕ
spellings vs = to_be_bytes w32 (length vs) ++ flat_map spelling vs

-- the bytes of a name with its value
abbrev pub pair_of : List ℕ × Value → List ℕ
pair_of p = text p.0 ++ spelling p.1

-- the bytes of named values: their count and each one's
abbrev pub pairs : List (List ℕ × Value) → List ℕ
pairs ps = to_be_bytes w32 (length ps) ++ flat_map pair_of ps

-- the bytes of files: their count and each one's
abbrev pub files : List (List ℕ × List ℕ) → List ℕ
files fs = to_be_bytes w32 (length fs) ++ flat_map file fs
