-- The words in a script.
use Rattle.std.specs.Prelude.{◌≡◌, ◌++◌, ℕ, List, ◌∷◌, Some, map}
use Rattle.std.specs.List.{concat}
use Rattle.wc_slurm.specs.Quotes.{word_read}

-- A text is another with this word behind it, quoted and behind a blank.
pub record AddsWord (word old new : List ℕ) : Type 0 where
  pub quoted : List ℕ
  pub read : word_read quoted ≡ Some word
  pub whole : new ≡ old ++ 32 ∷ quoted

-- A text is two others and these words between them, in order, each quoted and behind a blank.
pub record HasWords (front : List ℕ) (words : List (List ℕ)) (back text : List ℕ) : Type 0 where
  pub quoted : List (List ℕ)
  pub read : map word_read quoted ≡ map Some words
  pub whole : text ≡ front ++ concat (map (λ q. 32 ∷ q) quoted) ++ back
