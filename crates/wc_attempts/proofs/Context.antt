-- What keys of the context hold after one is set.
use Rattle.std.proofs.Common.{◌≡◌, ℕ, Bool, true, false, Option, Some, None, List, [], ◌∷◌, refl, sym, ap, ◌∙◌}
use Rattle.std.specs.Prelude.{if◌then◌else◌}
use Rattle.std.specs.Str.{bytes_eq}
use Rattle.wc_value.specs.Ascending.{lookup}
use Rattle.wc_value.proofs.Puts.{same_name}
use Rattle.wc_state.specs.declared.environment.Item.{Item}
use Rattle.wc_semantics.specs.Statements.{keyed}
use Rattle.wc_restart.proofs.Named.{same_bytes}

abbrev Items : Type 0
Items = List (List ℕ × Item)

first_is : (key : List ℕ) (item : Item) (es : Items) → lookup key ((key, item) ∷ es) ≡ Some item
first_is key item es = ap (λ (b : Bool). if b then Some item else lookup key es) (same_bytes key)

-- the key that was set holds the item
pub keyed_found : (key : List ℕ) (item : Item) (es : Items) → lookup key (keyed key item es) ≡ Some item
keyed_found key item [] = first_is key item []
keyed_found key item (e ∷ es) = by_name (bytes_eq e.0 key) refl (keyed_found key item es)
  where
    by_name : (b : Bool) → bytes_eq e.0 key ≡ b → lookup key (keyed key item es) ≡ Some item → lookup key (if b then (key, item) ∷ es else e ∷ keyed key item es) ≡ Some item
    by_name true h rest = first_is key item es
    by_name false h rest = ap (λ (b : Bool). if b then Some e.1 else lookup key (keyed key item es)) h ∙ rest

-- other keys hold what they held
pub keyed_passed : (key other : List ℕ) (item : Item) (es : Items) → bytes_eq key other ≡ false → lookup other (keyed key item es) ≡ lookup other es
keyed_passed key other item [] d = ap (λ (b : Bool). if b then Some item else None) d
keyed_passed key other item (e ∷ es) d = by_name (bytes_eq e.0 key) refl (keyed_passed key other item es d)
  where
    by_name : (b : Bool) → bytes_eq e.0 key ≡ b → lookup other (keyed key item es) ≡ lookup other es → lookup other (if b then (key, item) ∷ es else e ∷ keyed key item es) ≡ lookup other (e ∷ es)
    by_name true h rest =
        ap (λ (b : Bool). if b then Some item else lookup other es) d
        ∙ sym (ap (λ (b : Bool). if b then Some e.1 else lookup other es) (ap (λ n. bytes_eq n other) (same_name e.0 key h) ∙ d))
    by_name false h rest = ap (λ (o : Option Item). if bytes_eq e.0 other then Some e.1 else o) rest
