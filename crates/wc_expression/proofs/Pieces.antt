-- The pieces of a text cut at each line feed, one after another.
use Rattle.std.proofs.Common.{◌≡◌, ℕ, suc, zero, ◌+◌, ◌<◌, Bool, false, ◌==◌, List, [], ◌∷◌, length, drop, slice_get, Some, None, refl, sym, ap, arith, add-one, ◌∙◌}
use Rattle.std.proofs.lemmas.List.Splits.{slice_split_first, slice_split_none}
use Rattle.std.proofs.lemmas.List.Sums.{fails_before_first}
use Rattle.std.proofs.Math.Seq.{drop-nil}
use Rattle.std.specs.List.{position_or_len, before_first, after_first, All}
use Rattle.wc_expression.specs.Texts.{pieces}

-- the item at i, and what is behind it
pub item_there : {A : Type 0} (xs : List A) (i : ℕ) (x : A) (ys : List A) → drop i xs ≡ x ∷ ys → Some x ≡ slice_get xs i
item_there [] i x ys h = let e : [] ≡ x ∷ ys = sym (drop-nil i) ∙ h in absurd (cc)
item_there (z ∷ zs) zero x ys h = cc
item_there (z ∷ zs) (suc i) x ys h = item_there zs i x ys h

pub behind_item : {A : Type 0} (xs : List A) (i : ℕ) (x : A) (ys : List A) → drop i xs ≡ x ∷ ys → drop (i + 1) xs ≡ ys
behind_item [] i x ys h = let e : [] ≡ x ∷ ys = sym (drop-nil i) ∙ h in absurd (cc)
behind_item (z ∷ zs) zero x ys h = cc
behind_item {A} (z ∷ zs) (suc i) x ys h = let k : drop (suc (i + 1)) (z ∷ zs) ≡ ys = behind_item zs i x ys h in rw add-one (rw add-one at k)

pub none_behind : {A : Type 0} (xs : List A) (i n : ℕ) (x : A) → drop i xs ≡ x ∷ [] → i < n → None ≡ slice_get xs n
none_behind [] i n x h l = refl
none_behind (z ∷ zs) zero zero x h l = absurd (omega arith)
none_behind {A} (z ∷ zs) zero (suc n) x h l = let e : [] ≡ zs = cc in ap (λ (ys : List A). slice_get ys n) e
none_behind (z ∷ zs) (suc i) zero x h l = absurd (omega arith)
none_behind (z ∷ zs) (suc i) (suc n) x h l = none_behind zs i n x h (omega arith)

-- whether a byte is a line feed
abbrev is_feed : ℕ → Bool
is_feed b = b == 10

no_feed : (s : List ℕ) → position_or_len is_feed s ≡ length s → All (λ b. is_feed b ≡ false) s
no_feed s h k d l = fails_before_first is_feed s k d (omega (arith, h, l))

pub uncut : (s : List ℕ) → position_or_len is_feed s ≡ length s → pieces s ≡ s ∷ []
uncut s h = slice_split_none is_feed s (no_feed s h)

pub cut : (s x y : List ℕ) → x ≡ before_first is_feed s → y ≡ after_first is_feed s → position_or_len is_feed s < length s → pieces s ≡ x ∷ pieces y
cut s x y p q h =
    let first = sym p in
    let rest = sym q in
    slice_split_first is_feed s 0 h ∙ (λ i. first i ∷ pieces (rest i))
