-- What `sh` has read of a text that ends between two single quotes.
use Rattle.std.proofs.Common.{◌≡◌, ◌==◌, ◌<◌, ◌+◌, if◌then◌else◌, ℕ, Bool, true, false, List, [], ◌∷◌, ◌++◌, Option, Some, None, option_map, length, take, get_or, refl, sym, ap, subst, ◌∙◌, append_assoc}
use Rattle.std.proofs.lemmas.List.{append-nil, take_more}
use Rattle.std.proofs.lemmas.Bool.{eqb-true}
use Rattle.wc_slurm.specs.Quotes.{piece, rest_read, word_read, outside, inside}

-- The text stands for these bytes so far, and a quote is open.
pub record HasRead (text front : List ℕ) : Type 0 where
  pub reads : (rest : List ℕ) → rest_read (text ++ rest) outside ≡ option_map (λ w. front ++ w) (rest_read rest inside)

same_option : (o : Option (List ℕ)) → o ≡ option_map (λ w. [] ++ w) o
same_option None = refl
same_option (Some w) = refl

one_more : (front : List ℕ) (x : ℕ) (o : Option (List ℕ)) → option_map (λ w. front ++ w) (option_map (λ w. x ∷ w) o) ≡ option_map (λ w. (front ++ x ∷ []) ++ w) o
one_more front x None = refl
one_more front x (Some w) = ap Some (sym (append_assoc front (x ∷ []) w))

-- the first quote
pub read_none : (text : List ℕ) → text ≡ 39 ∷ [] → HasRead text []
read_none text e = subst (λ t. HasRead t []) (sym e) (record { reads = λ rest. same_option (rest_read rest inside) })

-- what one byte's piece stands for, whatever follows
one_piece : (x : ℕ) (rest : List ℕ) (b : Bool) → (x == 39) ≡ b → rest_read ((if b then 39 ∷ 92 ∷ 39 ∷ 39 ∷ [] else x ∷ []) ++ rest) inside ≡ option_map (λ w. x ∷ w) (rest_read rest inside)
one_piece x rest true e = ap (λ (n : ℕ). option_map (λ w. n ∷ w) (rest_read rest inside)) (sym (eqb-true x 39 e))
one_piece x rest false e = ap (λ (b : Bool). if b then rest_read rest outside else option_map (λ w. x ∷ w) (rest_read rest inside)) e

read_piece : (text front : List ℕ) (x : ℕ) → HasRead text front → HasRead (text ++ piece x) (front ++ x ∷ [])
read_piece text front x so_far = record {
  reads = λ rest.
      ap (λ t. rest_read t outside) (append_assoc text (piece x) rest)
      ∙ so_far.reads (piece x ++ rest)
      ∙ ap (option_map (λ w. front ++ w)) (one_piece x rest (x == 39) refl)
      ∙ one_more front x (rest_read rest inside);
}

-- the next byte of a word
pub read_more : (text more added word : List ℕ) (i : ℕ) → i < length word → more ≡ text ++ added → added ≡ piece (get_or word i 0) → HasRead text (take i word) → HasRead more (take (i + 1) word)
read_more text more added word i h grown e so_far =
    subst (λ t. HasRead t (take (i + 1) word)) (sym (grown ∙ ap (λ p. text ++ p) e))
    (subst (λ f. HasRead (text ++ piece (get_or word i 0)) f) (sym (take_more word i 0 h)) (read_piece text (take i word) (get_or word i 0) so_far))

-- the last quote
pub read_all : (text whole front : List ℕ) → whole ≡ text ++ 39 ∷ [] → HasRead text front → word_read whole ≡ Some front
read_all text whole front e so_far = ap (λ t. rest_read t outside) e ∙ so_far.reads (39 ∷ []) ∙ ap Some (append-nil front)
