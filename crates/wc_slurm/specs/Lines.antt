-- Texts by their lines, and lines by their words.
use Rattle.std.specs.Prelude.{◌≡◌, ◌++◌, ℕ, ◌==◌, ◌||◌, Bool, if◌then◌else◌, List, [], ◌∷◌}
use Rattle.std.specs.List.{slice_split, before_first, after_first}

-- a line feed
abbrev pub is_feed : ℕ → Bool
is_feed b = b == 10

-- what stands between words: a blank, a tabulator, and the ends of lines
abbrev pub is_blank : ℕ → Bool
is_blank b = b == 32 || (b == 9 || (b == 10 || b == 13))

-- a bar
abbrev pub is_bar : ℕ → Bool
is_bar b = b == 124

-- the lines of a text
abbrev pub lines_of : List ℕ → List (List ℕ)
lines_of text = slice_split is_feed text

-- a byte more of a text: one that ends a part ends the one that was begun, and any other byte belongs to it
abbrev pub parts_after : Bool → List (List ℕ) → List ℕ → List (List ℕ)
parts_after is_end parts part = if is_end then parts ++ part ∷ [] else parts

-- the part of a line that is read, behind one more byte
abbrev pub part_after : Bool → ℕ → List ℕ → List ℕ
part_after is_end byte part = if is_end then [] else part ++ byte ∷ []

-- how the parts of a line go on with one more byte
pub record ReadsByte (is_end : Bool) (byte : ℕ) (parts : List (List ℕ)) (part : List ℕ) (parts' : List (List ℕ)) (part' : List ℕ) : Type 0 where
  pub whole : parts' ≡ parts_after is_end parts part
  pub begun : part' ≡ part_after is_end byte part

-- what stands before the first bar of a line, and what behind it
abbrev pub part_in : List ℕ → List ℕ
part_in line = before_first is_bar line

-- what stands behind the first bar of a line
abbrev pub rest_in : List ℕ → List ℕ
rest_in line = after_first is_bar line

-- what stands before the first blank of a line, and what behind it
abbrev pub word_in : List ℕ → List ℕ
word_in line = before_first is_blank line

-- what stands behind the first word of a line
abbrev pub behind_word : List ℕ → List ℕ
behind_word line = after_first is_blank line

-- the first field of a line: what stands before its first bar, up to a blank
abbrev pub field_in : List ℕ → List ℕ
field_in line = word_in (part_in line)
