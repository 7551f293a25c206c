-- Reading changes from the left. Which library a text prints isn't computed, so reading is a relation: of bytes and a
-- place with what stands there and the place behind it, or with the first refusal.
use Rattle.std.specs.Prelude.{ℕ, zero, suc, ◌+◌, ◌<◌, ◌≤◌, ◌≡◌, ◌⊎◌, List, [], ◌∷◌, ◌++◌, length, Result, Ok, Err}
use Rattle.wc_syntax.specs.declared.definition.Definition.{Definition}
use Rattle.wc_syntax.specs.Bare.{bare_library}
use Rattle.wc_syntax.specs.Checked.{KeepsRules}
use Rattle.wc_syntax.specs.Printing.{printed}
use Rattle.wc_parser.specs.Parsing.{TextSays}
use Rattle.wc_world.specs.declared.change.Change.{Change}
use Rattle.wc_world.specs.declared.change.Change.TheVariants as change
use Rattle.wc_record.specs.declared.error.RecordError.{RecordError}
use Rattle.wc_record.specs.declared.error.RecordError.TheVariants.{OutOfMemory, Trailing, BadLibrary}
use Rattle.wc_record.specs.Readers.{Reader, byte, u32, text, built}
use Rattle.wc_record.specs.Fields.{names, other_change}

-- what reading gives at a place
abbrev pub Step : Type 0 → Type 1
Step A = List ℕ → ℕ → Result (A × ℕ) RecordError → Type 0

-- what a reader computes
abbrev pub given : {A : Type 0} → Reader A → Step A
given read bytes at r = r ≡ read bytes at

-- one step, and behind it another; the first refusal stays
abbrev pub bind : {A B : Type 0} → Step A → (A → Step B) → Step B
bind {A} s f bytes at r = ((x : A) × (next : ℕ) × s bytes at (Ok (x, next)) × f x bytes next r) ⊎ ((e : RecordError) × s bytes at (Err e) × (r ≡ Err e))

-- ---- libraries
-- the text is that of a checked library that prints as this text, and this is its bare form
pub record IsPrinted (t : List ℕ) (bare : List Definition) : Type 0 where
  pub library : List Definition
  pub says : TextSays t (Ok library)
  pub rules : KeepsRules library
  pub prints : printed library ≡ t
  pub is_bare : bare_library library ≡ bare

-- the text at a place is there, and prints no library
pub record PrintsNone (bytes : List ℕ) (at : ℕ) : Type 0 where
  pub content : List ℕ
  pub next : ℕ
  pub there : text bytes at ≡ Ok (content, next)
  pub none : (library : List Definition) → IsPrinted content library → ⊥

-- the reading of a library's text: the library that it prints, or that it prints none
abbrev pub library : Step (List Definition)
library bytes at (Ok x) = (t : List ℕ) × (text bytes at ≡ Ok (t, x.1)) × IsPrinted t x.0
library bytes at (Err e) = (text bytes at ≡ Err e) ⊎ ((e ≡ BadLibrary (at + 4)) × PrintsNone bytes at)

-- a library behind its tag, and the names of its definitions that have caching on
abbrev pub library_change : Step Change
library_change = bind library (λ l. given (built (change.Library l) names))

-- ---- changes
-- the byte of a library stands at this place
abbrev pub HasLibraryTag : List ℕ → ℕ → Type 0
HasLibraryTag bytes at = byte bytes at ≡ Ok (1, at + 1)

-- the reading of one change: a library, or one of the others
abbrev pub one_change : Step Change
one_change bytes at r = (HasLibraryTag bytes at × library_change bytes (at + 1) r) ⊎ ((HasLibraryTag bytes at → ⊥) × given other_change bytes at r)

-- so many changes, behind those in front
abbrev pub changes : ℕ → List Change → Step (List Change)
changes zero front bytes at r = r ≡ Ok (front, at)
changes (suc n) front bytes at r = bind one_change (λ c. changes n (front ++ c ∷ [])) bytes at r

-- a count, and that many changes
abbrev pub counted_changes : Step (List Change)
counted_changes = bind (given u32) (λ n. changes n [])

-- changes to the end of the bytes
abbrev pub whole : List ℕ → Result (List Change) RecordError → Type 0
whole bytes (Ok cs) = (next : ℕ) × counted_changes bytes 0 (Ok (cs, next)) × (length bytes ≤ next)
whole bytes (Err e) =
    counted_changes bytes 0 (Err e)
    ⊎ ((cs : List Change) × (next : ℕ) × counted_changes bytes 0 (Ok (cs, next)) × (next < length bytes) × (e ≡ Trailing next))

-- ---- what a call returned
-- it is what reading gives, unless memory ran out
abbrev pub Told : {X : Type 0} → Result X RecordError → (Result X RecordError → Type 0) → Type 0
Told (Ok x) gives = gives (Ok x)
Told (Err OutOfMemory) gives = Unit {0}
Told (Err e) gives = gives (Err e)

-- it is this answer, unless memory ran out
abbrev pub Meets : {X : Type 0} → Result X RecordError → Result X RecordError → Type 0
Meets (Err OutOfMemory) r = Unit {0}
Meets result r = result ≡ r
