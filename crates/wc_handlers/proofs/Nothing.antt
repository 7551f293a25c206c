-- Where nothing refuses a table: each value is one that its key may hold.
use Rattle.std.proofs.Common.{◌≡◌, ◌∙◌, refl, sym, ap, subst, ℕ, Bool, true, false, if◌then◌else◌, List, [], ◌∷◌, ◌++◌, Option, Some, None, is_some}
use Rattle.std.specs.Prelude.{unwrap_or}
use Rattle.std.specs.declared.cmp.Ordering.{Ordering}
use Rattle.std.specs.declared.cmp.Ordering.TheVariants.{Less, Equal, Greater}
use Rattle.std.specs.Ordering.{nat_cmp, is_eq, match_ordering}
use Rattle.std.specs.Cmp.Lexicographic.{slice_cmp}
use Rattle.std.proofs.lemmas.Map.Text.{is_eq-slice_cmp}
use Rattle.toml.specs.Data.{Data, Members, no_members, member, get_member}
use Rattle.wc_value.proofs.Puts.{same_name}
use Rattle.wc_handlers.specs.declared.keys.Holds.{Holds}
use Rattle.wc_handlers.specs.declared.keys.Place.{Place}
use Rattle.wc_handlers.specs.declared.refusals.Kind.TheVariants.{BadValue}
use Rattle.wc_handlers.specs.Keys.{holds_of, path}
use Rattle.wc_handlers.specs.Values.{is_held}
use Rattle.wc_handlers.specs.Refusals.{Refusal, value_refusals, member_refusals, missing, of_two, least_after, least}

-- ---- no refusal is the least

kept_by : (o : Ordering) (a b c : Refusal) (xs : List Refusal) → ((r : Refusal) → least_after (Some r) xs ≡ None → ⊥)
    → least_after (match_ordering o (Some a) (Some b) (Some c)) xs ≡ None → ⊥
kept_by Less a b c xs h is = h a is
kept_by Equal a b c xs h is = h b is
kept_by Greater a b c xs h is = h c is

some_stays : (a : Refusal) (xs : List Refusal) → least_after (Some a) xs ≡ None → ⊥
some_stays a [] is = absurd (cc)
some_stays a (x ∷ xs) is = kept_by (slice_cmp nat_cmp x.1 a.1) x (of_two a x) a xs (λ r. some_stays r xs) is

pub none_refused : (rs : List Refusal) → least rs ≡ None → rs ≡ []
none_refused [] is = refl
none_refused (r ∷ rs) is = absurd (some_stays r rs is)

pub front : (xs ys : List Refusal) → xs ++ ys ≡ [] → xs ≡ []
front [] ys h = refl
front (x ∷ xs) ys h = absurd (cc)

pub back : (xs ys : List Refusal) → xs ++ ys ≡ [] → ys ≡ []
back [] ys h = h
back (x ∷ xs) ys h = absurd (cc)

-- ---- what is there, and is held

passes : (b : Bool) (r : Refusal) → (if b then [] else r ∷ []) ≡ [] → b ≡ true
passes true r is = refl
passes false r is = absurd (cc)

pub is_there : (p : Place) (key : List ℕ) (ms : Members) → missing p key ms ≡ [] → is_some (get_member key ms) ≡ true
is_there p key ms is = passes (is_some (get_member key ms)) (BadValue, path p key) is

value_held : (p : Place) (key : List ℕ) (h : Holds) (d : Data) → value_refusals p key (Some h) d ≡ [] → is_held h d ≡ true
value_held p key h d is = passes (is_held h d) (BadValue, path p key) is

same_key : (a b : List ℕ) → slice_cmp nat_cmp a b ≡ Equal → a ≡ b
same_key a b h = same_name a b (sym (is_eq-slice_cmp a b) ∙ ap is_eq h)

at_order : (p : Place) (key l : List ℕ) (h : Holds) (e d : Data) (ms : Members) (o : Ordering) → slice_cmp nat_cmp key l ≡ o → holds_of p key ≡ Some h
    → value_refusals p l (holds_of p l) e ≡ [] → (get_member key ms ≡ Some d → is_held h d ≡ true)
    → match_ordering o (get_member key ms) (Some e) (get_member key ms) ≡ Some d → is_held h d ≡ true
at_order p key l h e d ms Less is known fine later at = later at
at_order p key l h e d ms Greater is known fine later at = later at
at_order p key l h e d ms Equal is known fine later at =
    let same : key ≡ l = same_key key l is in
    let known_here : holds_of p l ≡ Some h = sym (ap (λ (k : List ℕ). holds_of p k) same) ∙ known in
    let held : is_held h e ≡ true = value_held p l h e (sym (ap (λ (o : Option Holds). value_refusals p l o e) known_here) ∙ fine) in
    subst (λ (x : Data). is_held h x ≡ true) (ap (λ (o : Option Data). unwrap_or o e) at) held

pub member_held : (p : Place) (key : List ℕ) (h : Holds) → holds_of p key ≡ Some h → (ms : Members) (d : Data) → member_refusals p ms ≡ []
    → get_member key ms ≡ Some d → is_held h d ≡ true
member_held p key h known no_members d fine at = absurd (cc)
member_held p key h known (member l e ms) d fine at =
    at_order p key l h e d ms (slice_cmp nat_cmp key l) refl known (front (value_refusals p l (holds_of p l) e) (member_refusals p ms) fine)
    (λ found. member_held p key h known ms d (back (value_refusals p l (holds_of p l) e) (member_refusals p ms) fine) found) at
