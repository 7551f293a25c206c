-- The words of a command line.
use Rattle.std.specs.Prelude.{◌≡◌, ℕ, List, [], drop, Result, Ok, Err}

-- the texts behind the first one, which is the program's name
abbrev pub words_behind : List (List ℕ) → List (List ℕ)
words_behind texts = drop 1 texts

-- the words are those that the system told, and none where it told some that aren't text
abbrev pub AreWords : {X E : Type 0} → (X → List (List ℕ)) → Result X E → List (List ℕ) → Type 0
AreWords texts_of (Ok told) words = words ≡ words_behind (texts_of told)
AreWords texts_of (Err error) words = words ≡ []
