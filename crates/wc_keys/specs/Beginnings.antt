-- The beginnings of keys, which hang on the text of a definition alone.
use Rattle.std.specs.Prelude.{◌≡◌, ℕ, List, Option, Some, Vec, option_map}
use Rattle.std.specs.BTreeMap.{BTreeMap, get}
use Rattle.std.specs.Ordering.{nat_cmp, ordering_then}
use Rattle.std.specs.Cmp.Lexicographic.{slice_cmp}
use Rattle.std.specs.declared.alloc.Global.{Global}
use Rattle.std.specs.declared.cmp.Ordering.{Ordering}
use Rattle.sha2.specs.Sha256.{sha256}
use Rattle.sha2.specs.declared.Sha256.{Sha256}
use Rattle.sha2.specs.Hashers.{Holds256}
use Rattle.wc_value.specs.Spelling.{spelling}
use Rattle.wc_value.specs.declared.value.Value.{Value}
use Rattle.wc_syntax.specs.Printing.{printed_definition}
use Rattle.wc_keys.specs.SealKeys.{key_start, key_value}
use Rattle.wc_fits.specs.World.{Known}
use Rattle.wc_fits.specs.Records.{definition_in}

-- the number of a library and the name of a definition in it, as its bytes
abbrev pub Place : Type 0
Place = ℕ × Vec ℕ Global

-- by number, and then by name
abbrev pub place_cmp : Place → Place → Ordering
place_cmp a b = ordering_then (nat_cmp a.0 b.0) (slice_cmp nat_cmp a.1.items b.1.items)

-- the printed text of the definition with this name in the library with this number
abbrev pub text_at : List Known → ℕ → List ℕ → Option (List ℕ)
text_at libraries number name = option_map printed_definition (definition_in libraries number name)

-- Each hasher has taken up the beginning of the keys of the definition at its place.
abbrev pub AreBegun : List Known → BTreeMap Place Sha256 → Type 0
AreBegun libraries begun =
    (place : Place) (hasher : Sha256) (text : List ℕ) → get place_cmp begun place ≡ Some hasher → text_at libraries place.0 place.1.items ≡ Some text → Holds256 hasher (key_start text)

-- The digest is that of the key with these inputs, of whichever text a hasher has taken up the beginning of a key.
abbrev pub IsDigestOf : List (List ℕ × Value) → Sha256 → List ℕ → Type 0
IsDigestOf inputs hasher digest = (text : List ℕ) → Holds256 hasher (key_start text) → digest ≡ sha256 (spelling (key_value text inputs))
