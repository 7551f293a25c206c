-- What the methods of `str` give, in the words of the definitions.
use Rattle.std.proofs.Common.{◌≡◌, ◌≢◌, ℕ, ◌-◌, ◌<◌, Bool, true, false, List, [], ◌∷◌, ◌++◌, length, take, drop, Option, Some, None, refl, sym, ap, ◌∙◌, arith, if◌then◌else◌}
use Rattle.std.specs.Prelude.{nat_eq, ◌==◌, MatchOption, codes}
use Rattle.std.specs.Option.{option_copied}
use Rattle.std.specs.List.{All, starts_with, ends_with, position_or_len, before_first, after_first}
use Rattle.std.specs.Str.Pattern.{FindsTextPrefix, FindsCharSuffix, StripsPrefix, StripsSuffix}
use Rattle.std.proofs.lemmas.Bool.Decides.{Decides-eqb}
use Rattle.std.proofs.lemmas.Grind.{common_steps}
use Rattle.std.proofs.lemmas.List.Splits.{slice_split_first, slice_split_none}
use Rattle.std.proofs.lemmas.List.Sums.{fails_before_first}
use Rattle.std.proofs.lemmas.Slice.Eq.{starts_is, ends_is}
use Rattle.std.proofs.lemmas.Str.Pattern.{strip_suffix_char}
use denote.Ref.{Bor}
use Rattle.wc_query.specs.Pieces.{behind, without_star, pieces}

pub not_true : (b : Bool) → (b ≡ true → ⊥) → b ≡ false
not_true true h = absurd (h refl)
not_true false h = refl

-- what is behind a beginning, where it was stripped off
pub behind_is : (n s : List ℕ) (r : Option (Bor (List ℕ))) → MatchOption r (FindsTextPrefix n s None) (λ x. StripsPrefix (FindsTextPrefix n) s x.now) → option_copied r ≡ behind n s
unfolding behind
behind_is n s None h =
    let e : starts_with nat_eq s n ≡ false = not_true (starts_with nat_eq s n) (λ t. h (drop (length n) s) ((starts_is Decides-eqb s n (starts_with nat_eq s n) refl).0 t)) in
    ap (λ (b : Bool). if b then Some (drop (length n) s) else None) (sym e)
behind_is n s (Some x) h =
    let e : starts_with nat_eq s n ≡ true = (starts_is Decides-eqb s n (starts_with nat_eq s n) refl).1 _ h.1.1 in
    let d : x.now ≡ drop (length n) s = h.2 ∙ ap (λ (k : ℕ). drop k s) h.1.0 in
    ap (λ (t : List ℕ). Some t) d ∙ ap (λ (b : Bool). if b then Some (drop (length n) s) else None) (sym e)

before_last : (c : ℕ) (front s : List ℕ) → s ≡ front ++ (c ∷ []) → front ≡ take (length s - 1) s
before_last c front s e = grind (arith, common_steps)

-- a text without its last `*`, where that was stripped off
pub star_is : (s : List ℕ) (r : Option (Bor (List ℕ))) → MatchOption r (FindsCharSuffix 42 s None) (λ x. StripsSuffix (FindsCharSuffix 42) s x.now) → option_copied r ≡ without_star s
unfolding without_star
star_is s None h =
    let no : (front : List ℕ) → s ≢ front ++ (42 ∷ []) = strip_suffix_char 42 s None h (omega arith) in
    let e : ends_with nat_eq s (codes "*") ≡ false = not_true (ends_with nat_eq s (codes "*")) (λ t. no _ ((ends_is Decides-eqb s (codes "*") (ends_with nat_eq s (codes "*")) refl).0 t)) in
    ap (λ (b : Bool). if b then Some (take (length s - 1) s) else None) (sym e)
star_is s (Some x) h =
    let whole : s ≡ x.now ++ (42 ∷ []) = strip_suffix_char 42 s (Some x) h (omega arith) in
    let e : ends_with nat_eq s (codes "*") ≡ true = (ends_is Decides-eqb s (codes "*") (ends_with nat_eq s (codes "*")) refl).1 _ whole in
    let d : x.now ≡ take (length s - 1) s = before_last 42 x.now s whole in
    ap (λ (t : List ℕ). Some t) d ∙ ap (λ (b : Bool). if b then Some (take (length s - 1) s) else None) (sym e)

-- ---- pieces

abbrev is_comma : ℕ → Bool
is_comma b = b == 44

no_comma : (s : List ℕ) → position_or_len is_comma s ≡ length s → All (λ b. is_comma b ≡ false) s
no_comma s h k d l = fails_before_first is_comma s k d (omega (arith, h, l))

pub uncut : (s : List ℕ) → position_or_len is_comma s ≡ length s → pieces s ≡ s ∷ []
unfolding pieces
uncut s h = slice_split_none is_comma s (no_comma s h)

pub cut : (s x y : List ℕ) → x ≡ before_first is_comma s → y ≡ after_first is_comma s → position_or_len is_comma s < length s → pieces s ≡ x ∷ pieces y
unfolding pieces
cut s x y p q h =
    let first = sym p in
    let rest = sym q in
    slice_split_first is_comma s 0 h ∙ (λ i. first i ∷ pieces (rest i))

pub cut_shorter : (s y : List ℕ) → y ≡ after_first is_comma s → position_or_len is_comma s < length s → length y < length s
cut_shorter s y q h = grind (arith, common_steps)
