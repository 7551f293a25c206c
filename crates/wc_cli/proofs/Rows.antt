-- Rows of a parse, and the options of a line.
use Rattle.std.proofs.Common.{◌≡◌, ◌∙◌, Bool, true, false, not, ◌&&◌, ◌||◌, List, [], ◌∷◌, ◌++◌, Some, None, refl, sym, ap, subst, true≢false}
use Rattle.std.specs.Prelude.{is_some, unwrap_or}
use Rattle.std.specs.List.{list_any}
use Rattle.std.specs.Str.{bytes_eq}
use Rattle.std.proofs.lemmas.Slice.Eq.{bytes_eq-Decides}
use Rattle.clap.specs.Words.{Row, Text, all_of}
use Rattle.clap.specs.Walk.{with_values, without, has_row}
use Rattle.clap.specs.declared.builder.value_parser.Reading.{Reading}
use Rattle.clap.specs.declared.parser.matches.ValueSource.{ValueSource}
use Rattle.wc_cli.specs.Words.{value_of, are_of}

pub same_text : (a b : Text) → bytes_eq a b ≡ true → a ≡ b
same_text a b e = (bytes_eq-Decides a b).0 e

pub itself : (a : Text) → bytes_eq a a ≡ true
itself a = (bytes_eq-Decides a a).1 refl

pub turned : (a b : Text) → bytes_eq a b ≡ bytes_eq b a
turned a b = go (bytes_eq a b) (bytes_eq b a) refl refl
  where
    go : (s t : Bool) → bytes_eq a b ≡ s → bytes_eq b a ≡ t → s ≡ t
    go true true e f = refl
    go false false e f = refl
    go true false e f = absurd (true≢false (sym (itself b) ∙ ap (λ (x : Text). bytes_eq b x) (sym (same_text a b e)) ∙ f))
    go false true e f = absurd (true≢false (sym (itself a) ∙ ap (λ (x : Text). bytes_eq a x) (sym (same_text b a f)) ∙ e))

-- ---- rows

pub values_added : (id : Text) (how : Reading) (s : ValueSource) (vs : List Text) (rows : List Row)
    → all_of id (with_values id how s vs rows) ≡ Some (unwrap_or (all_of id rows) [] ++ vs)
values_added id how s vs [] = rw (itself id) refl
values_added id how s vs (r ∷ rs) = go (bytes_eq r.id id) refl (values_added id how s vs rs)
  where
    go : (b : Bool) → bytes_eq r.id id ≡ b → all_of id (with_values id how s vs rs) ≡ Some (unwrap_or (all_of id rs) [] ++ vs) → all_of id (with_values id how s vs (r ∷ rs)) ≡ Some (unwrap_or (all_of id (r ∷ rs)) [] ++ vs)
    go true e more = rw (e, e) refl
    go false e more = rw (e, e) more

pub values_kept : (id other : Text) (how : Reading) (s : ValueSource) (vs : List Text) (rows : List Row) → bytes_eq id other ≡ false
    → all_of other (with_values id how s vs rows) ≡ all_of other rows
values_kept id other how s vs [] apart = rw apart refl
values_kept id other how s vs (r ∷ rs) apart = go (bytes_eq r.id id) (bytes_eq r.id other) refl refl (values_kept id other how s vs rs apart)
  where
    go : (b c : Bool) → bytes_eq r.id id ≡ b → bytes_eq r.id other ≡ c → all_of other (with_values id how s vs rs) ≡ all_of other rs → all_of other (with_values id how s vs (r ∷ rs)) ≡ all_of other (r ∷ rs)
    go true true e f more = absurd (true≢false (sym f ∙ ap (λ (x : Text). bytes_eq x other) (same_text r.id id e) ∙ apart))
    go true false e f more = rw (e, f) refl
    go false true e f more = rw (e, f) refl
    go false false e f more = rw (e, f) more

pub has_values : (id : Text) (rows : List Row) → has_row id rows ≡ is_some (all_of id rows)
has_values id [] = refl
has_values id (r ∷ rs) = go (bytes_eq r.id id) refl (has_values id rs)
  where
    go : (b : Bool) → bytes_eq r.id id ≡ b → has_row id rs ≡ is_some (all_of id rs) → has_row id (r ∷ rs) ≡ is_some (all_of id (r ∷ rs))
    go true e more = rw e refl
    go false e more = rw e more

pub none_goes : (id : Text) (rows : List Row) → has_row id rows ≡ false → without id rows ≡ rows
none_goes id [] h = refl
none_goes id (r ∷ rs) h = go (bytes_eq r.id id) refl (none_goes id rs)
  where
    go : (b : Bool) → bytes_eq r.id id ≡ b → (has_row id rs ≡ false → without id rs ≡ rs) → without id (r ∷ rs) ≡ r ∷ rs
    go true e more = absurd (true≢false (sym (ap (λ (x : Bool). x || has_row id rs) e) ∙ h))
    go false e more = rw e (ap (λ (t : List Row). r ∷ t) (more (sym (ap (λ (x : Bool). x || has_row id rs) e) ∙ h)))

-- ---- options

abbrev pub Options : Type 0
Options = List (Text × Text)

abbrev pub known : List Text → Text → Bool
known names n = list_any (λ name. bytes_eq n name) names

here : (n : Text) (o : Text × Text) (os : Options) → bytes_eq o.0 n ≡ true → value_of n (o ∷ os) ≡ Some o.1
here n o os e = rw e refl

past : (n : Text) (o : Text × Text) (os : Options) → bytes_eq o.0 n ≡ false → value_of n (o ∷ os) ≡ value_of n os
past n o os e = rw e refl

some_not_none : {x : Text} → Some x ≡ None → ⊥
some_not_none e = true≢false (ap is_some e)

pub value_new : (n v : Text) (os ps : Options) → value_of n os ≡ None → value_of n (os ++ (n, v) ∷ ps) ≡ Some v
value_new n v [] ps h = rw (itself n) refl
value_new n v (o ∷ os) ps h = go (bytes_eq o.0 n) refl (value_new n v os ps)
  where
    go : (b : Bool) → bytes_eq o.0 n ≡ b → (value_of n os ≡ None → value_of n (os ++ (n, v) ∷ ps) ≡ Some v) → value_of n (o ∷ (os ++ (n, v) ∷ ps)) ≡ Some v
    go true e more = absurd (some_not_none (sym (here n o os e) ∙ h))
    go false e more = rw e (more (sym (past n o os e) ∙ h))

pub value_other : (n v name : Text) (os : Options) → bytes_eq n name ≡ false → value_of name (os ++ (n, v) ∷ []) ≡ value_of name os
value_other n v name [] apart = rw apart refl
value_other n v name (o ∷ os) apart = go (bytes_eq o.0 name) refl (value_other n v name os apart)
  where
    go : (b : Bool) → bytes_eq o.0 name ≡ b → value_of name (os ++ (n, v) ∷ []) ≡ value_of name os → value_of name (o ∷ (os ++ (n, v) ∷ [])) ≡ value_of name (o ∷ os)
    go true e more = rw e refl
    go false e more = rw e more

pub value_stays : (n : Text) (os ps : Options) → is_some (value_of n os) ≡ true → is_some (value_of n (os ++ ps)) ≡ true
value_stays n [] ps h = absurd (true≢false (sym h))
value_stays n (o ∷ os) ps h = go (bytes_eq o.0 n) refl (value_stays n os ps)
  where
    go : (b : Bool) → bytes_eq o.0 n ≡ b → (is_some (value_of n os) ≡ true → is_some (value_of n (os ++ ps)) ≡ true) → is_some (value_of n (o ∷ (os ++ ps))) ≡ true
    go true e more = rw e refl
    go false e more = rw e (more (sym (ap is_some (past n o os e)) ∙ h))

pub value_last : (n v : Text) (os ps : Options) → is_some (value_of n (os ++ (n, v) ∷ ps)) ≡ true
value_last n v [] ps = rw (itself n) refl
value_last n v (o ∷ os) ps = go (bytes_eq o.0 n) refl (value_last n v os ps)
  where
    go : (b : Bool) → bytes_eq o.0 n ≡ b → is_some (value_of n (os ++ (n, v) ∷ ps)) ≡ true → is_some (value_of n (o ∷ (os ++ (n, v) ∷ ps))) ≡ true
    go true e more = rw e refl
    go false e more = rw e more

-- the test of one option, and of those behind it
all_three : (a b c : Bool) → (a && not b && c) ≡ true → (a ≡ true) × (b ≡ false) × (c ≡ true)
all_three true false true h = (refl, refl, refl)
all_three true false false h = absurd (true≢false (sym h))
all_three true true c h = absurd (true≢false (sym h))
all_three false b c h = absurd (true≢false (sym h))

fails_third : (a b c : Bool) → c ≡ false → (a && not b && c) ≡ false
fails_third true false c h = h
fails_third true true c h = refl
fails_third false b c h = refl

fails_second : (a b c : Bool) → b ≡ true → (a && not b && c) ≡ false
fails_second true true c h = refl
fails_second true false c h = absurd (true≢false (sym h))
fails_second false b c h = refl

fails_first : (a b c : Bool) → a ≡ false → (a && not b && c) ≡ false
fails_first false b c h = refl
fails_first true b c h = absurd (true≢false h)

passes : (a b c : Bool) → a ≡ true → b ≡ false → c ≡ true → (a && not b && c) ≡ true
passes true false c e f g = g
passes true true c e f g = absurd (true≢false f)
passes false b c e f g = absurd (true≢false (sym e))

pub fits_prefix : (names : List Text) (os ps : Options) → are_of names os ≡ false → are_of names (os ++ ps) ≡ false
fits_prefix names [] ps h = absurd (true≢false h)
fits_prefix names (o ∷ os) ps h = go (known names o.0) (is_some (value_of o.0 os)) (are_of names os) refl refl refl (fits_prefix names os ps)
  where
    go : (a b c : Bool) → known names o.0 ≡ a → is_some (value_of o.0 os) ≡ b → are_of names os ≡ c → (are_of names os ≡ false → are_of names (os ++ ps) ≡ false)
        → are_of names (o ∷ (os ++ ps)) ≡ false
    go false b c e f g more = fails_first (known names o.0) _ _ e
    go true true c e f g more = fails_second _ (is_some (value_of o.0 (os ++ ps))) _ (value_stays o.0 os ps f)
    go true false false e f g more = fails_third _ _ (are_of names (os ++ ps)) (more g)
    go true false true e f g more = absurd (true≢false (sym (passes _ _ _ e f g) ∙ h))

pub fits_unknown : (names : List Text) (n v : Text) (os ps : Options) → known names n ≡ false → are_of names (os ++ (n, v) ∷ ps) ≡ false
fits_unknown names n v [] ps h = fails_first (known names n) _ _ h
fits_unknown names n v (o ∷ os) ps h = fails_third _ _ (are_of names (os ++ (n, v) ∷ ps)) (fits_unknown names n v os ps h)

pub fits_twice : (names : List Text) (n v : Text) (os ps : Options) → is_some (value_of n os) ≡ true → are_of names (os ++ (n, v) ∷ ps) ≡ false
fits_twice names n v [] ps h = absurd (true≢false (sym h))
fits_twice names n v (o ∷ os) ps h = go (bytes_eq o.0 n) refl (fits_twice names n v os ps)
  where
    go : (b : Bool) → bytes_eq o.0 n ≡ b → (is_some (value_of n os) ≡ true → are_of names (os ++ (n, v) ∷ ps) ≡ false) → are_of names (o ∷ (os ++ (n, v) ∷ ps)) ≡ false
    go true e more = fails_second _ (is_some (value_of o.0 (os ++ (n, v) ∷ ps))) _
        (subst (λ (x : Text). is_some (value_of x (os ++ (n, v) ∷ ps)) ≡ true) (sym (same_text o.0 n e)) (value_last n v os ps))
    go false e more = fails_third _ _ (are_of names (os ++ (n, v) ∷ ps)) (more (sym (ap is_some (past n o os e)) ∙ h))

pub fits_new : (names : List Text) (n v : Text) (os : Options) → are_of names os ≡ true → known names n ≡ true → value_of n os ≡ None → are_of names (os ++ (n, v) ∷ []) ≡ true
fits_new names n v [] all name none = passes (known names n) false true name refl refl
fits_new names n v (o ∷ os) all name none = go (bytes_eq o.0 n) refl (fits_new names n v os)
  where
    go : (b : Bool) → bytes_eq o.0 n ≡ b → (are_of names os ≡ true → known names n ≡ true → value_of n os ≡ None → are_of names (os ++ (n, v) ∷ []) ≡ true)
        → are_of names (o ∷ (os ++ (n, v) ∷ [])) ≡ true
    go true e more = absurd (some_not_none (sym (here n o os e) ∙ none))
    go false e more =
        let parts = all_three (known names o.0) (is_some (value_of o.0 os)) (are_of names os) all in
        let apart : bytes_eq n o.0 ≡ false = turned n o.0 ∙ e in
        passes (known names o.0) (is_some (value_of o.0 (os ++ (n, v) ∷ []))) (are_of names (os ++ (n, v) ∷ [])) parts.0 (ap is_some (value_other n v o.0 os apart) ∙ parts.1)
        (more parts.2 name (sym (past n o os e) ∙ none))
