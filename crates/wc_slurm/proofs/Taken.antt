-- The lines that a batch script takes.
use Rattle.std.proofs.Common.{◌≡◌, ◌<◌, ◌≤◌, ◌+◌, ℕ, Bool, true, false, if◌then◌else◌, List, [], ◌∷◌, ◌++◌, length, take, get_or, map, refl, sym, ap, ◌∙◌, append_assoc}
use Rattle.std.specs.Prelude.{not, cond}
use Rattle.std.specs.List.{concat, filter}
use Rattle.std.proofs.lemmas.List.{append-nil, take_all, take_more, map-append}
use Rattle.std.proofs.lemmas.List.Folds.{concat-append}
use Rattle.wc_slurm.specs.Batch.{is_directive, is_command, taken, text_of, IsBatchOf}

filter_append : (p : List ℕ → Bool) (xs ys : List (List ℕ)) → filter p (xs ++ ys) ≡ filter p xs ++ filter p ys
filter_append p [] ys = refl
filter_append p (x ∷ xs) ys = at (p x) (filter_append p xs ys)
  where
    at : (b : Bool) → filter p (xs ++ ys) ≡ filter p xs ++ filter p ys → cond b (x ∷ filter p (xs ++ ys)) (filter p (xs ++ ys)) ≡ cond b (x ∷ filter p xs) (filter p xs) ++ filter p ys
    at true rest = ap (λ (ls : List (List ℕ)). x ∷ ls) rest
    at false rest = rest

text_append : (xs ys : List (List ℕ)) → text_of (xs ++ ys) ≡ text_of xs ++ text_of ys
text_append xs ys = ap concat (map-append (λ (l : List ℕ). l ++ 10 ∷ []) xs ys) ∙ concat-append (map (λ l. l ++ 10 ∷ []) xs) (map (λ l. l ++ 10 ∷ []) ys)

filtered : (p : List ℕ → Bool) (xs ys : List (List ℕ)) → text_of (filter p (xs ++ ys)) ≡ text_of (filter p xs) ++ text_of (filter p ys)
filtered p xs ys = ap text_of (filter_append p xs ys) ∙ text_append (filter p xs) (filter p ys)

one_filtered : (p : List ℕ → Bool) (line : List ℕ) → text_of (filter p (line ∷ [])) ≡ taken (p line) line
one_filtered p line = at (p line)
  where
    at : (b : Bool) → text_of (cond b (line ∷ []) []) ≡ taken b line
    at true = append-nil (line ++ 10 ∷ [])
    at false = refl

pub taken_line : (old one new line : List ℕ) (b : Bool) → b ≡ true → one ≡ old ++ line → new ≡ one ++ 10 ∷ [] → new ≡ old ++ taken b line
taken_line old one new line b is e grown = grown ∙ ap (λ t. t ++ 10 ∷ []) e ∙ append_assoc old line (10 ∷ []) ∙ ap (λ (c : Bool). old ++ taken c line) (sym is)

pub left_line : (old line : List ℕ) (b : Bool) → b ≡ false → old ≡ old ++ taken b line
left_line old line b is = sym (append-nil old) ∙ ap (λ (c : Bool). old ++ taken c line) (sym is)

-- What stands behind a text of the first lines: those that pass a test.
pub record HasPut (p : List ℕ → Bool) (front : List ℕ) (lines : List (List ℕ)) (text : List ℕ) : Type 0 where
  pub whole : text ≡ front ++ text_of (filter p lines)

pub none_put : (p : List ℕ → Bool) (front text : List ℕ) (lines : List (List ℕ)) → text ≡ front → lines ≡ [] → HasPut p front lines text
none_put p front text lines e f = record { whole = e ∙ sym (append-nil front) ∙ ap (λ (ls : List (List ℕ)). front ++ text_of (filter p ls)) (sym f) }

next_put : (p : List ℕ → Bool) (front old new : List ℕ) (lines : List (List ℕ)) (i : ℕ) (line : List ℕ) → i < length lines → line ≡ get_or lines i line
    → new ≡ old ++ taken (p line) line → HasPut p front (take i lines) old → HasPut p front (take (i + 1) lines) new
next_put p front old new lines i line h is grown so_far = record {
  whole =
      grown
      ∙ ap (λ t. t ++ taken (p line) line) so_far.whole
      ∙ append_assoc front (text_of (filter p (take i lines))) (taken (p line) line)
      ∙ ap (λ t. front ++ (text_of (filter p (take i lines)) ++ t)) (sym (one_filtered p line))
      ∙ ap (λ t. front ++ t) (sym (filtered p (take i lines) (line ∷ [])))
      ∙ ap (λ (l : List ℕ). front ++ text_of (filter p (take i lines ++ l ∷ []))) is
      ∙ ap (λ (ls : List (List ℕ)). front ++ text_of (filter p ls)) (sym (take_more lines i line h));
}

pub next_directive : (front old new : List ℕ) (lines : List (List ℕ)) (i : ℕ) (line bytes : List ℕ) (b : Bool) → i < length lines → line ≡ get_or lines i line
    → bytes ≡ line → b ≡ is_directive bytes → new ≡ old ++ taken b bytes → HasPut is_directive front (take i lines) old → HasPut is_directive front (take (i + 1) lines) new
next_directive front old new lines i line bytes b h is same test grown so_far =
    next_put is_directive front old new lines i line h is (grown ∙ ap (λ (c : Bool). old ++ taken c bytes) test ∙ ap (λ (l : List ℕ). old ++ taken (is_directive l) l) same) so_far

pub next_command : (front old new : List ℕ) (lines : List (List ℕ)) (i : ℕ) (line bytes : List ℕ) (b c : Bool) → i < length lines → line ≡ get_or lines i line
    → bytes ≡ line → b ≡ is_directive bytes → c ≡ not b → new ≡ old ++ taken c bytes → HasPut is_command front (take i lines) old → HasPut is_command front (take (i + 1) lines) new
next_command front old new lines i line bytes b c h is same test turned grown so_far =
    next_put is_command front old new lines i line h is (grown ∙ ap (λ (d : Bool). old ++ taken d bytes) (turned ∙ ap not test) ∙ ap (λ (l : List ℕ). old ++ taken (is_command l) l) same) so_far

pub all_put : (p : List ℕ → Bool) (front text : List ℕ) (lines : List (List ℕ)) (i : ℕ) → length lines ≤ i → HasPut p front (take i lines) text → text ≡ front ++ text_of (filter p lines)
all_put p front text lines i h so_far = so_far.whole ∙ ap (λ (ls : List (List ℕ)). front ++ text_of (filter p ls)) (take_all i lines h)

-- the script, by what was put behind it
pub batch_is : (shell behind b0 b1 b2 b3 b4 b5 b6 : List ℕ) (all program own : List (List ℕ)) → b0 ≡ shell
    → b1 ≡ b0 ++ text_of (filter is_directive all) → b2 ≡ b1 ++ text_of (filter is_directive program) → b3 ≡ b2 ++ text_of (filter is_directive own)
    → b4 ≡ b3 ++ text_of (filter is_command all) → b5 ≡ b4 ++ text_of (filter is_command program) → b6 ≡ b5 ++ behind
    → IsBatchOf shell all program own behind b6
batch_is shell behind b0 b1 b2 b3 b4 b5 b6 all program own e0 e1 e2 e3 e4 e5 e6 =
    let d : List (List ℕ) → List ℕ = λ ls. text_of (filter is_directive ls) in
    let n : List (List ℕ) → List ℕ = λ ls. text_of (filter is_command ls) in
    record {
      directives_first =
          e6
          ∙ ap (λ t. t ++ behind) (e5 ∙ ap (λ t. t ++ n program) (e4 ∙ ap (λ t. t ++ n all) (e3 ∙ ap (λ t. t ++ d own) (e2 ∙ ap (λ t. t ++ d program) (e1 ∙ ap (λ t. t ++ d all) e0)))))
          ∙ joined shell (d all) (d program) (d own) (n all) (n program) behind
          ∙ ap (λ t. shell ++ t ++ (n all ++ n program) ++ behind) (ap (λ t. t ++ d own) (sym (filtered is_directive all program)) ∙ sym (filtered is_directive (all ++ program) own))
          ∙ ap (λ t. shell ++ d (all ++ program ++ own) ++ t ++ behind) (sym (filtered is_command all program));
    }
  where
    joined : (s a b c x y z : List ℕ) → (((((s ++ a) ++ b) ++ c) ++ x) ++ y) ++ z ≡ s ++ (a ++ b ++ c) ++ (x ++ y) ++ z
    joined s a b c x y z = simp append_assoc
