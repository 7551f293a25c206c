-- What a script that grows by words has.
use Rattle.std.proofs.Common.{◌≡◌, ◌<◌, ◌≤◌, ◌+◌, ℕ, List, [], ◌∷◌, ◌++◌, Some, length, take, get_or, map, refl, sym, ap, subst, ◌∙◌, append_assoc}
use Rattle.std.specs.List.{concat}
use Rattle.std.proofs.lemmas.List.{append-nil, map-append, take_all, take_more}
use Rattle.std.proofs.lemmas.List.Folds.{concat-append}
use Rattle.wc_slurm.specs.Quotes.{word_read}
use Rattle.wc_slurm.specs.Script.{AddsWord, HasWords}

abbrev behind_blanks : List (List ℕ) → List ℕ
behind_blanks quoted = concat (map (λ q. 32 ∷ q) quoted)

-- The text is another and these words behind it.
pub record Line (front : List ℕ) (words : List (List ℕ)) (text : List ℕ) : Type 0 where
  pub quoted : List (List ℕ)
  pub read : map word_read quoted ≡ map Some words
  pub whole : text ≡ front ++ behind_blanks quoted

pub add_word : (word old one new quoted : List ℕ) → one ≡ old ++ 32 ∷ [] → new ≡ one ++ quoted → word_read quoted ≡ Some word → AddsWord word old new
add_word word old one new quoted e grown read = record {
  quoted = quoted;
  read = read;
  whole = grown ∙ ap (λ t. t ++ quoted) e ∙ append_assoc old (32 ∷ []) quoted;
}

one_behind : (qs : List (List ℕ)) (q : List ℕ) → behind_blanks (qs ++ q ∷ []) ≡ behind_blanks qs ++ 32 ∷ q
one_behind qs q =
    ap concat (map-append (λ (w : List ℕ). 32 ∷ w) qs (q ∷ []))
    ∙ concat-append (map (λ w. 32 ∷ w) qs) ((32 ∷ q) ∷ [])
    ∙ ap (λ t. behind_blanks qs ++ t) (append-nil (32 ∷ q))

more_words : (front : List ℕ) (words : List (List ℕ)) (word old new : List ℕ) → Line front words old → AddsWord word old new → Line front (words ++ word ∷ []) new
more_words front words word old new line added = record {
  quoted = line.quoted ++ added.quoted ∷ [];
  read =
      map-append word_read line.quoted (added.quoted ∷ [])
      ∙ ap (λ t. t ++ word_read added.quoted ∷ []) line.read
      ∙ ap (λ o. map Some words ++ o ∷ []) added.read
      ∙ sym (map-append Some words (word ∷ []));
  whole =
      added.whole
      ∙ ap (λ t. t ++ 32 ∷ added.quoted) line.whole
      ∙ append_assoc front (behind_blanks line.quoted) (32 ∷ added.quoted)
      ∙ ap (λ t. front ++ t) (sym (one_behind line.quoted added.quoted));
}

-- the program
pub first_word : (front word old new : List ℕ) → old ≡ front → AddsWord word old new → Line front (word ∷ []) new
first_word front word old new e added = more_words front [] word old new (record { quoted = []; read = refl; whole = e ∙ sym (append-nil front) }) added

-- the next argument
pub next_word : (front program old new text word : List ℕ) (args : List (List ℕ)) (i : ℕ) → i < length args → word ≡ get_or args i word → text ≡ word → Line front (program ∷ take i args) old → AddsWord text old new → Line front (program ∷ take (i + 1) args) new
next_word front program old new text word args i h is e line added =
    subst (λ ws. Line front (program ∷ ws) new) (sym (take_more args i word h))
    (more_words front (program ∷ take i args) (get_or args i word) old new line (subst (λ w. AddsWord w old new) (e ∙ is) added))

-- what comes behind the last argument
pub last_word : (front program old whole end back : List ℕ) (items args : List (List ℕ)) (i : ℕ) → items ≡ args → length items ≤ i → whole ≡ old ++ end → end ≡ back → Line front (program ∷ take i items) old → HasWords front (program ∷ args) back whole
last_word front program old whole end back items args i e h grown is line = record {
  quoted = line.quoted;
  read = line.read ∙ ap (λ ws. map Some (program ∷ ws)) (take_all i items h ∙ e);
  whole = grown ∙ ap (λ t. old ++ t) is ∙ ap (λ t. t ++ back) line.whole;
}
