-- What the lines of an answer say of a name.
use Rattle.std.proofs.Common.{◌≡◌, ◌<◌, ◌≤◌, ◌+◌, ℕ, Bool, true, false, if◌then◌else◌, List, [], ◌∷◌, ◌++◌, Option, Some, None, length, take, get_or, refl, sym, ap, ◌∙◌}
use Rattle.std.specs.Prelude.{◌&&◌, not, if◌then◌else◌}
use Rattle.std.specs.Str.{bytes_eq}
use Rattle.std.specs.Ordering.{nat_cmp, is_lt, is_eq}
use Rattle.std.specs.declared.cmp.Ordering.{Ordering}
use Rattle.std.specs.declared.cmp.Ordering.TheVariants.{Less, Equal, Greater}
use Rattle.std.specs.Cmp.Lexicographic.{slice_cmp}
use Rattle.std.proofs.lemmas.Slice.Eq.{bytes_eq-Decides}
use Rattle.std.proofs.lemmas.Map.Text.{is_eq-slice_cmp}
use Rattle.std.proofs.lemmas.List.{take_all, take_more}
use Rattle.wc_value.specs.Ascending.{before, lookup, put}
use Rattle.wc_value.proofs.Puts.{same_name}
use Rattle.wc_slurm.specs.Queue.{is_of_job, counting, told_later, told_by, told_of, now_told, with_told, with_line}
use Rattle.wc_slurm.specs.Lines.{field_in, rest_in}
use Rattle.wc_slurm.specs.Ends.{is_alive}

-- ---- a value put by its name

less_differs : (o : Ordering) → is_lt o ≡ true → is_eq o ≡ false
less_differs Less h = refl
less_differs Equal h = absurd (cc)
less_differs Greater h = refl

before_differs : (a name : List ℕ) → before a name ≡ true → bytes_eq a name ≡ false
before_differs a name h = sym (is_eq-slice_cmp a name) ∙ less_differs (slice_cmp nat_cmp a name) h

abbrev Told : Type 0
Told = List (List ℕ × List ℕ)

first_found : (name v : List ℕ) (es : Told) → lookup name ((name, v) ∷ es) ≡ Some v
first_found name v es = ap (λ (b : Bool). if b then Some v else lookup name es) ((bytes_eq-Decides name name).1 refl)

put_found : (name v : List ℕ) (es : Told) → lookup name (put name v es) ≡ Some v
put_found name v [] = first_found name v []
put_found name v (e ∷ es) = at (before e.0 name) (bytes_eq e.0 name) refl (put_found name v es)
  where
    at : (b c : Bool) → before e.0 name ≡ b → lookup name (put name v es) ≡ Some v
        → lookup name (if b then e ∷ put name v es else if c then (name, v) ∷ es else (name, v) ∷ e ∷ es) ≡ Some v
    at true c p rest = ap (λ (b : Bool). if b then Some e.1 else lookup name (put name v es)) (before_differs e.0 name p) ∙ rest
    at false true p rest = first_found name v es
    at false false p rest = first_found name v (e ∷ es)

put_passed : (key name v : List ℕ) (es : Told) → bytes_eq name key ≡ false → lookup key (put name v es) ≡ lookup key es
put_passed key name v [] d = ap (λ (b : Bool). if b then Some v else None) d
put_passed key name v (e ∷ es) d = at (before e.0 name) (bytes_eq e.0 name) refl (put_passed key name v es d)
  where
    at : (b c : Bool) → bytes_eq e.0 name ≡ c → lookup key (put name v es) ≡ lookup key es
        → lookup key (if b then e ∷ put name v es else if c then (name, v) ∷ es else (name, v) ∷ e ∷ es) ≡ lookup key (e ∷ es)
    at true c q rest = ap (λ (o : Option (List ℕ)). if bytes_eq e.0 key then Some e.1 else o) rest
    at false true q rest =
        let differs : bytes_eq e.0 key ≡ false = ap (λ (a : List ℕ). bytes_eq a key) (same_name e.0 name q) ∙ d in
        ap (λ (b : Bool). if b then Some v else lookup key es) d ∙ sym (ap (λ (b : Bool). if b then Some e.1 else lookup key es) differs)
    at false false q rest = ap (λ (b : Bool). if b then Some v else lookup key (e ∷ es)) d

-- ---- what counts of a name

-- what is told of a job that goes on counts behind whatever was told
alive_counts : (x y : List ℕ) → is_alive y ≡ true → counting x y ≡ y
alive_counts x y e = ap (λ (b : Bool). if is_alive x && not b then x else y) e ∙ at (is_alive x)
  where
    at : (a : Bool) → (if a && not true then x else y) ≡ y
    at true = refl
    at false = refl

-- whatever is told counts behind an end
behind_end : (x y : List ℕ) → is_alive x ≡ false → counting x y ≡ y
behind_end x y e = ap (λ (a : Bool). if a && not (is_alive y) then x else y) e

-- an end doesn't count behind what is told of a job that goes on
end_passes : (x y : List ℕ) → is_alive x ≡ true → is_alive y ≡ false → counting x y ≡ x
end_passes x y e f = ap (λ (a : Bool). if a && not (is_alive y) then x else y) e ∙ ap (λ (b : Bool). if true && not b then x else y) f

counting_counting : (x y z : List ℕ) → counting x (counting y z) ≡ counting (counting x y) z
counting_counting x y z = at (is_alive x) (is_alive y) (is_alive z) refl refl refl
  where
    at : (a b c : Bool) → is_alive x ≡ a → is_alive y ≡ b → is_alive z ≡ c → counting x (counting y z) ≡ counting (counting x y) z
    at a b true e f g = ap (counting x) (alive_counts y z g) ∙ alive_counts x z g ∙ sym (alive_counts (counting x y) z g)
    at a true false e f g = ap (counting x) (end_passes y z f g) ∙ alive_counts x y f ∙ sym (end_passes y z f g) ∙ ap (λ (l : List ℕ). counting l z) (sym (alive_counts x y f))
    at true false false e f g = ap (counting x) (behind_end y z f) ∙ ap (λ (l : List ℕ). counting l z) (sym (end_passes x y e f))
    at false false false e f g = ap (counting x) (behind_end y z f) ∙ behind_end x z e ∙ sym (behind_end y z f) ∙ ap (λ (l : List ℕ). counting l z) (sym (behind_end x y e))

later_none : (o : Option (List ℕ)) → told_later None o ≡ o
later_none None = refl
later_none (Some t) = refl

later_later : (a b c : Option (List ℕ)) → told_later a (told_later b c) ≡ told_later (told_later a b) c
later_later a b None = refl
later_later a None (Some z) = refl
later_later None (Some y) (Some z) = refl
later_later (Some x) (Some y) (Some z) = ap Some (counting_counting x y z)

now_later : (o : Option (List ℕ)) (rest : List ℕ) → Some (now_told o rest) ≡ told_later o (Some rest)
now_later None rest = refl
now_later (Some earlier) rest = refl

one_more : (name : List ℕ) (lines : List (List ℕ)) (line : List ℕ) → told_of name (lines ++ line ∷ []) ≡ told_later (told_of name lines) (told_by name line)
one_more name [] line = sym (later_none (told_by name line))
one_more name (l ∷ lines) line = ap (told_later (told_by name l)) (one_more name lines line) ∙ later_later (told_by name l) (told_of name lines) (told_by name line)

with_one : (name line : List ℕ) (told : Told) → lookup name (with_line line told) ≡ told_later (lookup name told) (told_by name line)
with_one name line told = at (is_of_job (field_in line)) (bytes_eq (field_in line) name) refl
  where
    at : (b c : Bool) → bytes_eq (field_in line) name ≡ c
        → lookup name (with_told (if b then Some (field_in line) else None) (rest_in line) told) ≡ told_later (lookup name told) (if b && c then Some (rest_in line) else None)
    at false c e = refl
    at true true e =
        let same : field_in line ≡ name = same_name (field_in line) name e in
        ap (λ (n : List ℕ). lookup name (put n (now_told (lookup n told) (rest_in line)) told)) same
        ∙ put_found name (now_told (lookup name told) (rest_in line)) told
        ∙ now_later (lookup name told) (rest_in line)
    at true false e = put_passed name (field_in line) (now_told (lookup (field_in line) told) (rest_in line)) told e

-- What was taken down says of each name what counts of the lines.
pub record Tells (told : Told) (lines : List (List ℕ)) : Type 0 where
  pub of : (name : List ℕ) → lookup name told ≡ told_of name lines

pub tells_none : (told : Told) (lines : List (List ℕ)) → told ≡ [] → lines ≡ [] → Tells told lines
tells_none told lines e f = record { of = λ name. ap (lookup name) e ∙ ap (told_of name) (sym f) }

pub tells_more : (told more : Told) (lines : List (List ℕ)) (line bytes : List ℕ) (i : ℕ) → i < length lines → line ≡ get_or lines i line → bytes ≡ line → more ≡ with_line bytes told
    → Tells told (take i lines) → Tells more (take (i + 1) lines)
tells_more told more lines line bytes i h is same grown so_far = record {
  of = λ name.
      ap (lookup name) (grown ∙ ap (λ (l : List ℕ). with_line l told) same)
      ∙ with_one name line told
      ∙ ap (λ (o : Option (List ℕ)). told_later o (told_by name line)) (so_far.of name)
      ∙ sym (one_more name (take i lines) line)
      ∙ ap (λ (l : List ℕ). told_of name (take i lines ++ l ∷ [])) is
      ∙ ap (told_of name) (sym (take_more lines i line h));
}

pub tells_all : (told : Told) (items lines all : List (List ℕ)) (i : ℕ) → items ≡ lines → lines ≡ all → length items ≤ i → Tells told (take i items)
    → (name : List ℕ) → lookup name told ≡ told_of name all
tells_all told items lines all i e f h so_far name = so_far.of name ∙ ap (told_of name) (take_all i items h ∙ e ∙ f)
