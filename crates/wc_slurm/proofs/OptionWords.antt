-- The words of a line for the scheduler, as far as it was read.
use Rattle.std.proofs.Common.{◌≡◌, ◌<◌, ◌≤◌, ◌+◌, ◌&&◌, ◌||◌, ℕ, suc, add-one, Bool, true, false, not, if◌then◌else◌, List, [], ◌∷◌, ◌++◌, length, drop, get_or, refl, sym, ap, subst, ◌∙◌, append_assoc}
use Rattle.std.specs.List.{onto_first}
use Rattle.std.proofs.lemmas.List.{append-nil, drop_all}
use Rattle.std.proofs.Math.Seq.{drop-cons}
use Rattle.wc_slurm.specs.Options.{is_space, is_backslash, is_quote, is_comment, inside_after, place_after, is_bare, belongs, is_begun, words_from, words_read, ends_word, ReadsByte}
use Rattle.wc_slurm.specs.declared.options.Place.{Place}
use Rattle.wc_slurm.specs.declared.options.Place.TheVariants as place
use Rattle.wc_slurm.proofs.Parts.{begun, begun_more}

-- a word that was begun, or none, before what follows
abbrev joined : Bool → List ℕ → List (List ℕ) → List (List ℕ)
joined true word parts = begun word parts
joined false word parts = parts

-- What was read of a line: whole words, and one that was begun, if any.
pub record HasWords (line : List ℕ) (words : List (List ℕ)) (word : List ℕ) (at : Place) (rest : List ℕ) : Type 0 where
  pub whole : words_read line ≡ words ++ joined (is_begun at) word (words_from at rest)
  pub none : is_begun at ≡ false → word ≡ []

clash : {A : Type 0} → true ≡ false → A
clash e = absurd (cc)

onto_begun : (x : ℕ) (parts : List (List ℕ)) → onto_first x parts ≡ begun (x ∷ []) parts
onto_begun x [] = refl
onto_begun x (part ∷ parts) = refl

begun_onto : (x : ℕ) (parts : List (List ℕ)) → onto_first x parts ≡ begun [] (onto_first x parts)
begun_onto x [] = refl
begun_onto x (part ∷ parts) = refl

-- behind a word that was begun there is a rest of it
begun_some : (rest : List ℕ) (at : Place) → is_begun at ≡ true → words_from at rest ≡ begun [] (words_from at rest)
begun_some [] at is = ap (λ (b : Bool). if b then [] ∷ [] else []) is ∙ sym (ap (λ (b : Bool). begun [] (if b then [] ∷ [] else [])) is)
begun_some (b ∷ rest) at is = cases (is_begun at) (is_begun (place_after at b)) (belongs at b) is (begun_some rest (place_after at b))
  where
    cases : (s t v : Bool) → s ≡ true → (t ≡ true → words_from (place_after at b) rest ≡ begun [] (words_from (place_after at b) rest))
        → (if s && not t then [] ∷ words_from (place_after at b) rest else if v then onto_first b (words_from (place_after at b) rest) else words_from (place_after at b) rest)
        ≡ begun [] (if s && not t then [] ∷ words_from (place_after at b) rest else if v then onto_first b (words_from (place_after at b) rest) else words_from (place_after at b) rest)
    cases true false v h k = refl
    cases true true true h k = begun_onto b (words_from (place_after at b) rest)
    cases true true false h k = k refl
    cases false t v h k = clash (sym h)

-- a byte between words that begins none belongs to none
bare_begins : (b : ℕ) → is_begun (place_after place.Between b) ≡ false → is_bare b ≡ false
bare_begins b h = cases (is_space b) (is_backslash b) (is_quote b) (is_comment b) h
  where
    cases : (s k q c : Bool)
        → is_begun (if s then place.Between else if k then place.Escaped else if q then place.Quoted b else if c then place.Over else place.Inside) ≡ false
        → not (s || (k || (q || c))) ≡ false
    cases true k q c h = refl
    cases false true q c h = clash h
    cases false false true c h = clash h
    cases false false false true h = refl
    cases false false false false h = clash h

none_belongs : (at : Place) (b : ℕ) → is_begun at ≡ false → is_begun (place_after at b) ≡ false → belongs at b ≡ false
none_belongs place.Between b is next = bare_begins b next
none_belongs place.Inside b is next = clash is
none_belongs (place.Quoted q) b is next = clash is
none_belongs place.Escaped b is next = clash is
none_belongs (place.EscapedIn q) b is next = clash is
none_belongs place.Over b is next = refl

-- one byte, by whether a word was begun, is begun behind it, and has it
one_byte : (s t v : Bool) (words : List (List ℕ)) (word : List ℕ) (b : ℕ) (parts : List (List ℕ))
    → (s ≡ false → word ≡ []) → (s ≡ false → t ≡ false → v ≡ false) → (t ≡ true → parts ≡ begun [] parts)
    → words ++ joined s word (if s && not t then [] ∷ parts else if v then onto_first b parts else parts)
    ≡ (if s && not t then words ++ word ∷ [] else words) ++ joined t (if s && not t then [] else (if v then word ++ b ∷ [] else word)) parts
one_byte true false v words word b parts n m k = ap (λ (l : List ℕ). words ++ l ∷ parts) (append-nil word) ∙ sym (append_assoc words (word ∷ []) parts)
one_byte true true true words word b parts n m k = ap (λ (ps : List (List ℕ)). words ++ ps) (begun_more word b parts)
one_byte true true false words word b parts n m k = refl
one_byte false true true words word b parts n m k = ap (λ (ps : List (List ℕ)). words ++ ps) (onto_begun b parts) ∙ sym (ap (λ (w : List ℕ). words ++ begun (w ++ b ∷ []) parts) (n refl))
one_byte false true false words word b parts n m k = ap (λ (ps : List (List ℕ)). words ++ ps) (k refl) ∙ sym (ap (λ (w : List ℕ). words ++ begun w parts) (n refl))
one_byte false false true words word b parts n m k = clash (m refl refl)
one_byte false false false words word b parts n m k = refl

none_after : (s t v : Bool) (word : List ℕ) (b : ℕ) → (s ≡ false → word ≡ []) → (s ≡ false → t ≡ false → v ≡ false) → t ≡ false
    → (if s && not t then [] else (if v then word ++ b ∷ [] else word)) ≡ []
none_after true false v word b n m h = refl
none_after s true v word b n m h = clash h
none_after false false true word b n m h = clash (m refl refl)
none_after false false false word b n m h = n refl

pub no_words : (line rest : List ℕ) (words : List (List ℕ)) (word : List ℕ) → words ≡ [] → word ≡ [] → rest ≡ line → HasWords line words word place.Between rest
no_words line rest words word e f g =
    subst (λ r. HasWords line words word place.Between r) (sym g) (subst (λ ws. HasWords line ws word place.Between line) (sym e) (subst (λ w. HasWords line [] w place.Between line) (sym f) (record { whole = refl; none = λ _. refl })))

reads_byte : (line : List ℕ) (words : List (List ℕ)) (word : List ℕ) (at : Place) (b : ℕ) (rest : List ℕ) → HasWords line words word at (b ∷ rest)
    → HasWords line (if ends_word at b then words ++ word ∷ [] else words) (if ends_word at b then [] else (if belongs at b then word ++ b ∷ [] else word)) (place_after at b) rest
reads_byte line words word at b rest so_far = record {
  whole = so_far.whole ∙ one_byte (is_begun at) (is_begun (place_after at b)) (belongs at b) words word b (words_from (place_after at b) rest) so_far.none (none_belongs at b) (begun_some rest (place_after at b));
  none = none_after (is_begun at) (is_begun (place_after at b)) (belongs at b) word b so_far.none (none_belongs at b);
}

-- the next byte
pub next_byte : (line : List ℕ) (words more : List (List ℕ)) (word longer : List ℕ) (i x : ℕ) (at next : Place) → i < length line → x ≡ get_or line i 0 → ReadsByte at x words word more longer → next ≡ place_after at x
    → HasWords line words word at (drop i line) → HasWords line more longer next (drop (i + 1) line)
next_byte line words more word longer i x at next h is reads goes so_far =
    let from : HasWords line words word at (x ∷ drop (i + 1) line) = subst (λ r. HasWords line words word at r) (drop-cons line i 0 h ∙ ap (λ (n : ℕ). n ∷ drop (suc i) line) (sym is) ∙ ap (λ (k : ℕ). x ∷ drop k line) (sym (add-one i))) so_far in
    let to = reads_byte line words word at x (drop (i + 1) line) from in
    let whole : HasWords line more (if ends_word at x then [] else (if belongs at x then word ++ x ∷ [] else word)) (place_after at x) (drop (i + 1) line) =
    subst (λ ws. HasWords line ws (if ends_word at x then [] else (if belongs at x then word ++ x ∷ [] else word)) (place_after at x) (drop (i + 1) line)) (sym reads.whole) to in
    let both : HasWords line more longer (place_after at x) (drop (i + 1) line) = subst (λ w. HasWords line more w (place_after at x) (drop (i + 1) line)) (sym reads.begun) whole in
    subst (λ p. HasWords line more longer p (drop (i + 1) line)) (sym goes) both

-- the end
last_word : (s : Bool) (words : List (List ℕ)) (word : List ℕ) → words ++ joined s word (if s then [] ∷ [] else []) ≡ (if s then words ++ word ∷ [] else words)
last_word true words word = ap (λ (l : List ℕ). words ++ l ∷ []) (append-nil word)
last_word false words word = append-nil words

pub all_words : (line : List ℕ) (words all : List (List ℕ)) (word : List ℕ) (i : ℕ) (at : Place) → length line ≤ i → all ≡ (if is_begun at then words ++ word ∷ [] else words) → HasWords line words word at (drop i line) → all ≡ words_read line
all_words line words all word i at end is so_far =
    is
    ∙ sym (last_word (is_begun at) words word)
    ∙ ap (λ (r : List ℕ). words ++ joined (is_begun at) word (words_from at r)) (sym (drop_all i line end))
    ∙ sym so_far.whole
