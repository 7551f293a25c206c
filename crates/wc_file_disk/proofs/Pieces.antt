-- Bytes that are read or written in pieces, one after another.
use Rattle.std.proofs.Common.{◌≡◌, ℕ, ◌+◌, ◌≤◌, List, ◌++◌, length, take, drop, refl, sym, ◌∙◌, ap, subst, arith, length-append, length-take-le, append_assoc, take_at, take-add, drop-drop}
use Rattle.std.proofs.lemmas.Slice.{drop-append-drop}
use Rattle.wc_disk.specs.Steps.{overwritten}

-- a piece that is written behind what was written
module _ (at done n : ℕ) (bytes old : List ℕ) (within : at ≤ length old) (fits : done + n ≤ length bytes) where
  abbrev piece : List ℕ
  piece = take n (drop done bytes)

  abbrev front : List ℕ
  front = take at old ++ take done bytes

  length-first : length (take done bytes) ≡ done
  length-first = length-take-le done bytes (omega (arith, fits))

  length-both : length (take (done + n) bytes) ≡ done + n
  length-both = length-take-le (done + n) bytes fits

  length-piece : length piece ≡ n
  length-piece = omega (arith, length-both, length-first, ap length (take-add done n bytes), length-append (take done bytes) piece)

  length-front : length front ≡ at + done
  length-front = omega (arith, length-append (take at old) (take done bytes), length-take-le at old within, length-first)

  abbrev before : List ℕ
  before = overwritten at (take done bytes) old

  taken : take (at + done) before ≡ front
  taken = take_at front (drop (at + length (take done bytes)) old) (at + done) (omega (arith, length-front))

  left : drop (at + done + length piece) before ≡ drop (at + length (take (done + n) bytes)) old
  left =
      drop-append-drop (at + length (take done bytes)) old front (at + done + length piece) (omega (arith, length-first)) (omega (arith, length-front, length-first))
      ∙ ap (λ (k : ℕ). drop k old) (omega (arith, length-piece, length-both))

  pub overwritten_more : overwritten (at + done) piece before ≡ overwritten at (take (done + n) bytes) old
  overwritten_more =
      ap (λ (l : List ℕ). (l ++ piece) ++ drop (at + done + length piece) before) taken
      ∙ ap (λ (l : List ℕ). l ++ drop (at + done + length piece) before) (append_assoc (take at old) (take done bytes) piece ∙ ap (λ (l : List ℕ). take at old ++ l) (sym (take-add done n bytes)))
      ∙ ap (λ (l : List ℕ). (take at old ++ take (done + n) bytes) ++ l) left

-- a piece that is read behind what was read
pub read_more : (at done n : ℕ) (old part : List ℕ) → length part ≡ n → part ≡ take (length part) (drop (at + done) old) → take done (drop at old) ++ part ≡ take (done + n) (drop at old)
read_more at done n old part size is =
    ap (λ (l : List ℕ). take done (drop at old) ++ l)
    (is ∙ ap (λ (k : ℕ). take k (drop (at + done) old)) size ∙ ap (take n) (sym (drop-drop done at old)))
    ∙ sym (take-add done n (drop at old))
