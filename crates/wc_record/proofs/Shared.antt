-- Libraries that were read, by the texts that print them.
use Rattle.std.proofs.Common.{◌≡◌, ℕ, Bool, true, false, cond, Option, Some, None, List, [], ◌∷◌, refl, sym, subst}
use Rattle.std.specs.Prelude.{Vec, IfSome}
use Rattle.std.specs.Borrow.{Bor}
use Rattle.std.specs.Option.{option_copied}
use Rattle.std.specs.BTreeMap.{is_at, insert_entry}
use Rattle.std.specs.Cmp.{Equal-is}
use Rattle.std.specs.Cmp.Lexicographic.{slice_cmp}
use Rattle.std.specs.Map.{lookup}
use Rattle.std.specs.Ordering.{nat_cmp, match_ordering}
use Rattle.std.specs.declared.alloc.Global.{Global}
use Rattle.std.specs.declared.cmp.Ordering.{Ordering}
use Rattle.std.specs.declared.cmp.Ordering.TheVariants.{Less, Equal, Greater}
use Rattle.std.proofs.lemmas.Map.Lookups.{exact_bytes}
use Rattle.wc_syntax.specs.declared.definition.Definition.{Definition}
use Rattle.wc_record.specs.Reading.{IsPrinted}
use Rattle.wc_record.specs.Libraries.{ArePrinted}

abbrev Key : Type 0
Key = Vec ℕ Global

-- what is kept at a text is what it prints
pub printed_at : (text : List ℕ) (es : List (Key × List Definition)) (l : List Definition) → ArePrinted es
    → lookup (is_at (λ (k : Key). slice_cmp nat_cmp text k.items)) es ≡ Some l → IsPrinted text l
printed_at text [] l h e = absurd (cc)
printed_at text (x ∷ es) l h e = told (is_at (λ (k : Key). slice_cmp nat_cmp text k.items) x.0) refl e (printed_at text es l h.1)
  where
    told : (b : Bool) → is_at (λ (k : Key). slice_cmp nat_cmp text k.items) x.0 ≡ b
        → cond b (Some x.1) (lookup (is_at (λ (k : Key). slice_cmp nat_cmp text k.items)) es) ≡ Some l
        → (lookup (is_at (λ (k : Key). slice_cmp nat_cmp text k.items)) es ≡ Some l → IsPrinted text l) → IsPrinted text l
    told true p q rest =
        let same : text ≡ x.0.items = exact_bytes text x.0.items ((Equal-is (slice_cmp nat_cmp text x.0.items)).0 p) in
        let one : x.1 ≡ l = cc in
        subst (λ (t : List ℕ). IsPrinted t l) (sym same) (subst (λ (m : List Definition). IsPrinted x.0.items m) one h.0)
    told false p q rest = rest q

-- and one more that its text prints
pub printed_put : (es : List (Key × List Definition)) (key : Key) (l : List Definition) → ArePrinted es → IsPrinted key.items l
    → ArePrinted (insert_entry (λ (a b : Key). slice_cmp nat_cmp a.items b.items) es key l)
printed_put [] key l h p = (p, tt)
printed_put (x ∷ es) key l h p = told (slice_cmp nat_cmp key.items x.0.items) refl (printed_put es key l h.1 p)
  where
    told : (o : Ordering) → slice_cmp nat_cmp key.items x.0.items ≡ o → ArePrinted (insert_entry (λ (a b : Key). slice_cmp nat_cmp a.items b.items) es key l)
        → ArePrinted (match_ordering o ((key, l) ∷ x ∷ es) ((x.0, l) ∷ es) (x ∷ insert_entry (λ (a b : Key). slice_cmp nat_cmp a.items b.items) es key l))
    told Less e rest = (p, h)
    told Equal e rest = (subst (λ (t : List ℕ). IsPrinted t l) (exact_bytes key.items x.0.items e) p, h.1)
    told Greater e rest = (h.0, rest)

-- what a lookup finds is what the text prints
pub printed_if : (text bytes : List ℕ) (es : List (Key × List Definition)) (found : Option (Bor (List Definition))) → bytes ≡ text → ArePrinted es
    → option_copied found ≡ lookup (is_at (λ (k : Key). slice_cmp nat_cmp bytes k.items)) es → IfSome found (λ l. IsPrinted text l.now)
printed_if text bytes es None same h e = tt
printed_if text bytes es (Some l) same h e = subst (λ (t : List ℕ). IsPrinted t l.now) same (printed_at bytes es l.now h (sym e))

-- none at the start
pub none_printed : (es : List (Key × List Definition)) → es ≡ [] → ArePrinted es
none_printed es e = subst ArePrinted (sym e) tt
