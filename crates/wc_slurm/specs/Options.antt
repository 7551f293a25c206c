-- The options that a line gives the scheduler, by the words that `sbatch` reads: quotes of both kinds hold blanks, a backslash takes the next
-- byte as it is, but for a blank outside of quotes, and a bare # begins a comment.
use Rattle.std.specs.Prelude.{◌≡◌, ◌++◌, ℕ, ◌==◌, ◌&&◌, ◌||◌, Bool, true, false, not, if◌then◌else◌, nat_lt, List, [], ◌∷◌, length, map, codes, nat_eq}
use Rattle.std.specs.List.{starts_with, onto_first}
use Rattle.std.specs.Str.{bytes_eq}
use Rattle.std.specs.Char.{to_ascii_lowercase}
use Rattle.wc_slurm.specs.declared.options.Place.{Place}
use Rattle.wc_slurm.specs.declared.options.Place.TheVariants as place

-- what stands between words: a blank, and the bytes from a tabulator to a carriage return
abbrev pub is_space : ℕ → Bool
is_space b = b == 32 || (nat_lt 8 b && nat_lt b 14)

-- whether a byte is a backslash
abbrev pub is_backslash : ℕ → Bool
is_backslash b = b == 92

-- a quote of either kind
abbrev pub is_quote : ℕ → Bool
is_quote b = b == 34 || b == 39

-- whether a byte begins a comment
abbrev pub is_comment : ℕ → Bool
is_comment b = b == 35

-- where the reading stands behind a byte outside of quotes that ends no word
abbrev pub inside_after : ℕ → Place
inside_after b =
    if is_backslash b then place.Escaped
    else if is_quote b then place.Quoted b
    else if is_comment b then place.Over
    else place.Inside

-- where it stands behind a byte
abbrev pub place_after : Place → ℕ → Place
place_after place.Between b = if is_space b then place.Between else inside_after b
place_after place.Inside b = if is_space b then place.Between else inside_after b
place_after (place.Quoted q) b =
    if is_backslash b then place.EscapedIn q
    else if b == q then place.Inside
    else place.Quoted q
place_after place.Escaped b = if is_space b then place.Between else place.Inside
place_after (place.EscapedIn q) b = place.Quoted q
place_after place.Over b = place.Over

-- a byte outside of quotes that is one of a word
abbrev pub is_bare : ℕ → Bool
is_bare b = not (is_space b || (is_backslash b || (is_quote b || is_comment b)))

-- the byte is one of the word
abbrev pub belongs : Place → ℕ → Bool
belongs place.Between b = is_bare b
belongs place.Inside b = is_bare b
belongs (place.Quoted q) b = not (is_backslash b || b == q)
belongs place.Escaped b = not (is_space b)
belongs (place.EscapedIn q) b = true
belongs place.Over b = false

-- a word was begun
abbrev pub is_begun : Place → Bool
is_begun place.Between = false
is_begun place.Inside = true
is_begun (place.Quoted q) = true
is_begun place.Escaped = true
is_begun (place.EscapedIn q) = true
is_begun place.Over = false

-- The words of what is left of a line: the first one is the rest of a word that was begun.
abbrev pub words_from : Place → List ℕ → List (List ℕ)
words_from at [] = if is_begun at then [] ∷ [] else []
words_from at (b ∷ rest) =
    if is_begun at && not (is_begun (place_after at b)) then [] ∷ words_from (place_after at b) rest
    else if belongs at b then onto_first b (words_from (place_after at b) rest)
    else words_from (place_after at b) rest

-- the words of a line behind the sign that makes it one for the scheduler
abbrev pub words_read : List ℕ → List (List ℕ)
words_read line = words_from place.Between line

-- the letters of options that take no word, behind which further ones may stand
abbrev pub is_lone : ℕ → Bool
is_lone c = c == 72 || (c == 79 || (c == 81 || (c == 86 || (c == 104 || (c == 115 || c == 118)))))

-- the letters a and W stand for an array and for a submission that waits
abbrev pub letters_ask : List ℕ → Bool
letters_ask [] = false
letters_ask (c ∷ cs) = (c == 97 || c == 87) || (is_lone c && letters_ask cs)

-- a word of letters behind one dash
abbrev pub dash_asks : List ℕ → Bool
dash_asks [] = false
dash_asks (c ∷ cs) = c == 45 && letters_ask cs

-- a word that parts a job into several, in whatever letters
abbrev pub parts_jobs : List ℕ → Bool
parts_jobs word = bytes_eq (map to_ascii_lowercase word) (codes "hetjob") || bytes_eq (map to_ascii_lowercase word) (codes "packjob")

-- A word that asks for an array of jobs, for a job of several parts, or to wait for the job's end. `--array` may be cut short as far as `--ar`.
abbrev pub asks_for_more : List ℕ → Bool
asks_for_more word =
    starts_with nat_eq word (codes "--ar") || (bytes_eq word (codes "--wait") || (dash_asks word || parts_jobs word))

-- One of the words of a line asks for more. At a word of no byte `sbatch` reads no further.
abbrev pub words_ask : List (List ℕ) → Bool
words_ask [] = false
words_ask (word ∷ words) = if length word == 0 then false else (asks_for_more word || words_ask words)

-- a byte ends a word that was begun
abbrev pub ends_word : Place → ℕ → Bool
ends_word at byte = is_begun at && not (is_begun (place_after at byte))

-- A byte more is read behind whole words and one that was begun: one that ends that word makes it whole, and one that belongs to a word is put
-- behind it.
pub record ReadsByte (at : Place) (byte : ℕ) (words : List (List ℕ)) (word : List ℕ) (words' : List (List ℕ)) (word' : List ℕ) : Type 0 where
  pub whole : words' ≡ (if ends_word at byte then words ++ word ∷ [] else words)
  pub begun : word' ≡ (if ends_word at byte then [] else (if belongs at byte then word ++ byte ∷ [] else word))
