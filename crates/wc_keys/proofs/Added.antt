-- Bytes taken up one after another.
use Rattle.std.proofs.Common.{◌≡◌, ℕ, ◌+◌, ◌<◌, ◌≤◌, List, [], ◌∷◌, ◌++◌, length, take, get_or, sym, ap, ◌∙◌, subst, append_assoc, append-nil}
use Rattle.std.specs.Prelude.{flat_map}
use Rattle.std.specs.Int.{w32, to_be_bytes}
use Rattle.std.proofs.lemmas.Grind.{flat_map-append}
use Rattle.std.proofs.lemmas.List.{take_more, take_all}
use Rattle.sha2.specs.declared.Sha256.{Sha256}
use Rattle.sha2.specs.Hashers.{Holds256}
use Rattle.wc_keys.specs.Hashing.{Adds}

pub adds_both : (a b c : Sha256) (x y : List ℕ) → Adds a x b → Adds b y c → Adds a (x ++ y) c
adds_both a b c x y h g = record { holds = λ m held. subst (Holds256 c) (append_assoc m x y) (g.holds (m ++ x) (h.holds m held)) }

pub adds_as : (a b : Sha256) (x y : List ℕ) → x ≡ y → Adds a x b → Adds a y b
adds_as a b x y e h = subst (λ z. Adds a z b) e h

-- one byte, and then others
pub adds_tagged : (a b c : Sha256) (tag : ℕ) (x y : List ℕ) → Adds a (tag ∷ []) b → Adds b x c → y ≡ tag ∷ x → Adds a y c
adds_tagged a b c tag x y h g e = adds_as a c (tag ∷ x) y (sym e) (adds_both a b c (tag ∷ []) x h g)

module _ {A : Type 0} (f : A → List ℕ) (tag : ℕ) where
  -- the tag, the count, and what stands for the first items
  abbrev pub front : List A → ℕ → List ℕ
  front xs i = tag ∷ (to_be_bytes w32 (length xs) ++ flat_map f (take i xs))

  pub front_begun : (xs : List A) (n : ℕ) (a b c : Sha256) → Adds a (tag ∷ []) b → Adds b (to_be_bytes w32 n) c → n ≡ length xs → Adds a (front xs 0) c
  front_begun xs n a b c h g e =
      let bytes : tag ∷ to_be_bytes w32 n ≡ front xs 0 = ap (λ (k : ℕ). tag ∷ to_be_bytes w32 k) e ∙ ap (λ (l : List ℕ). tag ∷ l) (sym (append-nil (to_be_bytes w32 (length xs)))) in
      adds_as a c (tag ∷ to_be_bytes w32 n) (front xs 0) bytes (adds_both a b c (tag ∷ []) (to_be_bytes w32 n) h g)

  front_longer : (xs : List A) (i : ℕ) (d : A) → i < length xs → front xs i ++ f (get_or xs i d) ≡ front xs (i + 1)
  front_longer xs i d lt =
      ap (λ (l : List ℕ). tag ∷ l)
      (append_assoc (to_be_bytes w32 (length xs)) (flat_map f (take i xs)) (f (get_or xs i d))
      ∙ ap (λ (l : List ℕ). to_be_bytes w32 (length xs) ++ l)
      (ap (λ (l : List ℕ). flat_map f (take i xs) ++ l) (sym (append-nil (f (get_or xs i d))))
      ∙ sym (flat_map-append f (take i xs) (get_or xs i d ∷ [])) ∙ ap (flat_map f) (sym (take_more xs i d lt))))

  pub front_more : (xs : List A) (i : ℕ) (d : A) (a b c : Sha256) → i < length xs → Adds a (front xs i) b → Adds b (f (get_or xs i d)) c → Adds a (front xs (i + 1)) c
  front_more xs i d a b c lt h g = adds_as a c (front xs i ++ f (get_or xs i d)) (front xs (i + 1)) (front_longer xs i d lt) (adds_both a b c (front xs i) (f (get_or xs i d)) h g)

  pub front_whole : (xs ys : List A) (n : ℕ) (all : List ℕ) (a b : Sha256) → Adds a (front xs n) b → length xs ≤ n → xs ≡ ys
      → all ≡ tag ∷ (to_be_bytes w32 (length ys) ++ flat_map f ys) → Adds a all b
  front_whole xs ys n all a b h le e q =
      let whole : front xs n ≡ all
      = ap (λ (l : List A). tag ∷ (to_be_bytes w32 (length xs) ++ flat_map f l)) (take_all n xs le)
      ∙ ap (λ (l : List A). tag ∷ (to_be_bytes w32 (length l) ++ flat_map f l)) e ∙ sym q in
      adds_as a b (front xs n) all whole h
