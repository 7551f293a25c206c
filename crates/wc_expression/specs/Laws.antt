-- What the laws say of texts.
use Rattle.std.specs.Prelude.{◌≡◌, ℕ, ◌<◌, ◌⊎◌, false, List, [], ◌∷◌, ◌++◌}
use Rattle.std.specs.List.{AllPass}
use Rattle.wc_expression.specs.Texts.{is_white}

-- a text is the beginning of another
abbrev pub IsBeginning : List ℕ → List ℕ → Type 0
IsBeginning a b = (y : ℕ) × (ys : List ℕ) × (b ≡ a ++ y ∷ ys)

-- where two texts first differ, the first has the lesser byte
abbrev pub HasLesserByte : List ℕ → List ℕ → Type 0
HasLesserByte a b = (front : List ℕ) × (x : ℕ) × (y : ℕ) × (xs : List ℕ) × (ys : List ℕ) × (a ≡ front ++ x ∷ xs) × (b ≡ front ++ y ∷ ys) × (x < y)

-- a text comes before another in the order by bytes
abbrev pub ComesBefore : List ℕ → List ℕ → Type 0
ComesBefore a b = IsBeginning a b ⊎ HasLesserByte a b

-- what is left is the text but for white space at its ends, and neither begins nor ends with white space
pub record IsTrimmed (text left : List ℕ) : Type 0 where
  pub before : List ℕ
  pub after : List ℕ
  pub parts : text ≡ before ++ (left ++ after)
  pub white_before : AllPass is_white before
  pub white_after : AllPass is_white after
  pub first : (b : ℕ) (bs : List ℕ) → left ≡ b ∷ bs → is_white b ≡ false
  pub last : (b : ℕ) (bs : List ℕ) → left ≡ bs ++ b ∷ [] → is_white b ≡ false
