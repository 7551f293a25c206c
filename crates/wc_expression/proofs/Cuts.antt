-- What the pieces of a text are.
use Rattle.std.proofs.Common.{◌≡◌, ◌≢◌, ℕ, Bool, true, false, ◌==◌, List, [], ◌∷◌, refl, sym, ◌∙◌}
use Rattle.std.specs.Prelude.{if◌then◌else◌}
use Rattle.std.specs.List.{All, join_with_byte, onto_first}
use Rattle.std.proofs.lemmas.Bool.Decides.{Decides-eqb}
use Rattle.std.proofs.lemmas.List.Elements.{All-nil, All-cons, All-head, All-tail}
use Rattle.std.proofs.lemmas.List.Splits.{join_with_byte-slice_split}
use Rattle.wc_expression.specs.Texts.{pieces}

-- a piece without line feeds
abbrev IsPiece : List ℕ → Type 0
IsPiece piece = All (λ b. b ≢ 10) piece

onto_pieces : (b : ℕ) → b ≢ 10 → (ps : List (List ℕ)) → All IsPiece ps → All IsPiece (onto_first b ps)
onto_pieces b h [] k = All-cons IsPiece (b ∷ []) [] (All-cons (λ c. c ≢ 10) b [] h (All-nil (λ c. c ≢ 10))) (All-nil IsPiece)
onto_pieces b h (p ∷ ps) k =
    All-cons IsPiece (b ∷ p) ps (All-cons (λ c. c ≢ 10) b p h (All-head IsPiece p ps k)) (All-tail IsPiece p ps k)

pieces_at : (b : ℕ) (bs : List ℕ) (feed : Bool) → (b == 10) ≡ feed → All IsPiece (pieces bs) → All IsPiece (if feed then [] ∷ pieces bs else onto_first b (pieces bs))
pieces_at b bs true e h = All-cons IsPiece [] (pieces bs) (All-nil (λ c. c ≢ 10)) h
pieces_at b bs false e h = onto_pieces b (λ p. let k : false ≡ true = sym e ∙ (Decides-eqb b 10).1 p in absurd (cc)) (pieces bs) h

pub no_feeds : (text : List ℕ) → All IsPiece (pieces text)
no_feeds [] = All-cons IsPiece [] [] (All-nil (λ c. c ≢ 10)) (All-nil IsPiece)
no_feeds (b ∷ bs) = pieces_at b bs (b == 10) refl (no_feeds bs)

pub joined_again : (text : List ℕ) → join_with_byte 10 (pieces text) ≡ text
joined_again text = join_with_byte-slice_split 10 text
