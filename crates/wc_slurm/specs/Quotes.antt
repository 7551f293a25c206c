-- How `sh` reads a word of which each byte is quoted: by single quotes, between which a byte stands for itself, and by a
-- backslash before a single quote.
use Rattle.std.specs.Prelude.{ℕ, ◌==◌, if◌then◌else◌, List, [], ◌∷◌, Option, Some, None, option_map}

-- how a byte stands between two single quotes
abbrev pub piece : ℕ → List ℕ
piece b = if b == 39 then 39 ∷ 92 ∷ 39 ∷ 39 ∷ [] else b ∷ []

-- where a reading stands
pub data Place : Type 0 where
  outside : Place
  inside : Place
  escaped : Place

-- the word that the rest of a text stands for, none where a byte isn't quoted or a quote isn't closed
abbrev pub rest_read : List ℕ → Place → Option (List ℕ)
rest_read [] outside = Some []
rest_read [] inside = None
rest_read [] escaped = None
rest_read (b ∷ bs) outside = if b == 39 then rest_read bs inside else (if b == 92 then rest_read bs escaped else None)
rest_read (b ∷ bs) inside = if b == 39 then rest_read bs outside else option_map (λ w. b ∷ w) (rest_read bs inside)
rest_read (b ∷ bs) escaped = if b == 39 then option_map (λ w. b ∷ w) (rest_read bs outside) else None

-- The word that `sh` reads from a text in which each byte is quoted, by single quotes or as a single quote behind a backslash; none where the text is no
-- such word
abbrev pub word_read : List ℕ → Option (List ℕ)
word_read text = rest_read text outside
