-- What each handler keeps, each keeps in the order of priorities; and what each definition keeps, that which is found.
use Rattle.std.proofs.Common.{◌≡◌, refl, ap, ℕ, suc, ◌+◌, length, arith, Bool, true, false, if◌then◌else◌, List, [], ◌∷◌, Some, subst}
use Rattle.std.specs.Prelude.{nat_lt}
use Rattle.std.specs.List.{AllByRecursion}
use Rattle.std.specs.Str.{bytes_eq}
use Rattle.wc_handlers.specs.declared.spec.Handler.{Handler}
use Rattle.wc_syntax.specs.Findings.{head_of, definition_named}
use Rattle.wc_syntax.specs.declared.definition.Definition.{Definition}
use Rattle.wc_restart.specs.Chains.{inserted, sorted_among, by_priority}

inserted_all : (P : Handler → Type 0) (h : Handler) (ks : List Handler) → P h → AllByRecursion P ks → AllByRecursion P (inserted h ks)
inserted_all P h [] p a = (p, tt)
inserted_all P h (k ∷ ks) p a = by_test (nat_lt k.priority h.priority) (inserted_all P h ks p a.1)
  where
    by_test : (b : Bool) → AllByRecursion P (inserted h ks) → AllByRecursion P (if b then h ∷ (k ∷ ks) else k ∷ inserted h ks)
    by_test true rest = (p, a)
    by_test false rest = (a.0, rest)

among_all : (P : Handler → Type 0) (found hs : List Handler) → AllByRecursion P found → AllByRecursion P hs → AllByRecursion P (sorted_among found hs)
among_all P found [] a b = a
among_all P found (h ∷ hs) a b = among_all P (inserted h found) hs (inserted_all P h found b.0 a) b.1

pub sorted_all : (P : Handler → Type 0) (hs : List Handler) → AllByRecursion P hs → AllByRecursion P (by_priority hs)
sorted_all P hs a = among_all P [] hs tt a

inserted_few : (h : Handler) (ks : List Handler) → length (inserted h ks) ≡ suc (length ks)
inserted_few h [] = refl
inserted_few h (k ∷ ks) = by_test (nat_lt k.priority h.priority) (inserted_few h ks)
  where
    by_test : (b : Bool) → length (inserted h ks) ≡ suc (length ks) → length (if b then h ∷ (k ∷ ks) else k ∷ inserted h ks) ≡ suc (suc (length ks))
    by_test true e = refl
    by_test false e = ap suc e

among_few : (found hs : List Handler) → length (sorted_among found hs) ≡ length found + length hs
among_few found [] = omega arith
among_few found (h ∷ hs) =
    let l : length (sorted_among (inserted h found) hs) ≡ length (inserted h found) + length hs = among_few (inserted h found) hs in
    let m : length (inserted h found) ≡ suc (length found) = inserted_few h found in
    omega arith

-- as many
pub sorted_few : (hs : List Handler) → length (by_priority hs) ≡ length hs
sorted_few hs = let l : length (sorted_among [] hs) ≡ 0 + length hs = among_few [] hs in omega arith

pub found_all : (P : Definition → Type 0) (library : List Definition) (name : List ℕ) (d : Definition) → AllByRecursion P library → definition_named name library ≡ Some d → P d
found_all P [] name d a h = absurd (cc)
found_all P (c ∷ ds) name d a h = by_test (bytes_eq (head_of c).name.text name) (found_all P ds name d a.1) h
  where
    by_test : (b : Bool) → (definition_named name ds ≡ Some d → P d) → (if b then Some c else definition_named name ds) ≡ Some d → P d
    by_test true rest e = let same : c ≡ d = cc in subst P same a.0
    by_test false rest e = rest e
