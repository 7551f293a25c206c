-- The parts of a text, as far as it was read.
use Rattle.std.proofs.Common.{◌≡◌, ◌<◌, ◌≤◌, ◌==◌, ◌+◌, ℕ, suc, add-one, Bool, true, false, if◌then◌else◌, List, [], ◌∷◌, ◌++◌, length, drop, get_or, refl, sym, ap, subst, ◌∙◌, append_assoc}
use Rattle.std.specs.Prelude.{cond}
use Rattle.std.specs.List.{slice_split, onto_first}
use Rattle.std.proofs.lemmas.List.{append-nil, drop_all}
use Rattle.std.proofs.Math.Seq.{drop-cons}
use Rattle.wc_slurm.specs.Lines.{is_feed, parts_after, part_after, ReadsByte}

-- a part that was begun, before what follows
abbrev pub begun : List ℕ → List (List ℕ) → List (List ℕ)
begun line [] = line ∷ []
begun line (part ∷ parts) = (line ++ part) ∷ parts

-- What was read of a text: whole parts, and one that was begun.
pub record HasParts (p : ℕ → Bool) (text : List ℕ) (lines : List (List ℕ)) (line rest : List ℕ) : Type 0 where
  pub whole : slice_split p text ≡ lines ++ begun line (slice_split p rest)

begun_none : (p : ℕ → Bool) (rest : List ℕ) → slice_split p rest ≡ begun [] (slice_split p rest)
begun_none p [] = refl
begun_none p (x ∷ rest) = at (p x) (slice_split p rest)
  where
    at : (b : Bool) (parts : List (List ℕ)) → cond b ([] ∷ parts) (onto_first x parts) ≡ begun [] (cond b ([] ∷ parts) (onto_first x parts))
    at true parts = refl
    at false [] = refl
    at false (part ∷ parts) = refl

pub begun_more : (line : List ℕ) (x : ℕ) (parts : List (List ℕ)) → begun line (onto_first x parts) ≡ begun (line ++ x ∷ []) parts
begun_more line x [] = refl
begun_more line x (part ∷ parts) = ap (λ (l : List ℕ). l ∷ parts) (sym (append_assoc line (x ∷ []) part))

pub no_parts : (p : ℕ → Bool) (text rest : List ℕ) (lines : List (List ℕ)) (line : List ℕ) → lines ≡ [] → line ≡ [] → rest ≡ text → HasParts p text lines line rest
no_parts p text rest lines line e f g =
    subst (λ r. HasParts p text lines line r) (sym g) (subst (λ ls. HasParts p text ls line text) (sym e) (subst (λ l. HasParts p text [] l text) (sym f) (record { whole = begun_none p text })))

feed : (p : ℕ → Bool) (text : List ℕ) (lines : List (List ℕ)) (line : List ℕ) (x : ℕ) (rest : List ℕ) → p x ≡ true → HasParts p text lines line (x ∷ rest) → HasParts p text (lines ++ line ∷ []) [] rest
feed p text lines line x rest is so_far = record {
  whole =
      so_far.whole
      ∙ ap (λ (b : Bool). lines ++ begun line (cond b ([] ∷ slice_split p rest) (onto_first x (slice_split p rest)))) is
      ∙ ap (λ (l : List ℕ). lines ++ l ∷ slice_split p rest) (append-nil line)
      ∙ sym (append_assoc lines (line ∷ []) (slice_split p rest))
      ∙ ap (λ (ls : List (List ℕ)). (lines ++ line ∷ []) ++ ls) (begun_none p rest);
}

other : (p : ℕ → Bool) (text : List ℕ) (lines : List (List ℕ)) (line : List ℕ) (x : ℕ) (rest : List ℕ) → p x ≡ false → HasParts p text lines line (x ∷ rest) → HasParts p text lines (line ++ x ∷ []) rest
other p text lines line x rest is so_far = record {
  whole =
      so_far.whole
      ∙ ap (λ (b : Bool). lines ++ begun line (cond b ([] ∷ slice_split p rest) (onto_first x (slice_split p rest)))) is
      ∙ ap (λ (ls : List (List ℕ)). lines ++ ls) (begun_more line x (slice_split p rest));
}

one_byte : (p : ℕ → Bool) (text : List ℕ) (lines : List (List ℕ)) (line : List ℕ) (x : ℕ) (rest : List ℕ) (b : Bool) → p x ≡ b → HasParts p text lines line (x ∷ rest)
    → HasParts p text (if b then lines ++ line ∷ [] else lines) (if b then [] else line ++ x ∷ []) rest
one_byte p text lines line x rest true is so_far = feed p text lines line x rest is so_far
one_byte p text lines line x rest false is so_far = other p text lines line x rest is so_far

-- the next byte, which ends a part or not
next_byte : (p : ℕ → Bool) (text : List ℕ) (lines more : List (List ℕ)) (line longer : List ℕ) (i x : ℕ) (b : Bool) → i < length text → x ≡ get_or text i 0 → b ≡ p x → ReadsByte b x lines line more longer
    → HasParts p text lines line (drop i text) → HasParts p text more longer (drop (i + 1) text)
next_byte p text lines more line longer i x b h is ends reads so_far =
    let from : HasParts p text lines line (x ∷ drop (i + 1) text) = subst (λ r. HasParts p text lines line r) (drop-cons text i 0 h ∙ ap (λ (n : ℕ). n ∷ drop (suc i) text) (sym is) ∙ ap (λ (k : ℕ). x ∷ drop k text) (sym (add-one i))) so_far in
    let to : HasParts p text (parts_after b lines line) (part_after b x line) (drop (i + 1) text) = one_byte p text lines line x (drop (i + 1) text) b (sym ends) from in
    subst (λ ls. HasParts p text ls longer (drop (i + 1) text)) (sym reads.whole) (subst (λ l. HasParts p text (parts_after b lines line) l (drop (i + 1) text)) (sym reads.begun) to)

pub next_of_line : (text : List ℕ) (lines more : List (List ℕ)) (line longer : List ℕ) (i x : ℕ) → i < length text → x ≡ get_or text i 0 → ReadsByte (x == 10) x lines line more longer
    → HasParts is_feed text lines line (drop i text) → HasParts is_feed text more longer (drop (i + 1) text)
next_of_line text lines more line longer i x h is reads so_far = next_byte is_feed text lines more line longer i x (x == 10) h is refl reads so_far

-- the end
last_part : (p : ℕ → Bool) (text : List ℕ) (lines all : List (List ℕ)) (line : List ℕ) (i : ℕ) → length text ≤ i → all ≡ lines ++ line ∷ [] → HasParts p text lines line (drop i text) → all ≡ slice_split p text
last_part p text lines all line i end grown so_far =
    grown
    ∙ ap (λ (l : List ℕ). lines ++ l ∷ []) (sym (append-nil line))
    ∙ ap (λ (r : List ℕ). lines ++ begun line (slice_split p r)) (sym (drop_all i text end))
    ∙ sym so_far.whole

pub last_of_lines : (text : List ℕ) (lines all : List (List ℕ)) (line : List ℕ) (i : ℕ) → length text ≤ i → all ≡ lines ++ line ∷ [] → HasParts is_feed text lines line (drop i text) → all ≡ slice_split is_feed text
last_of_lines text lines all line i end grown so_far = last_part is_feed text lines all line i end grown so_far
