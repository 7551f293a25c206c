-- Which keys are mentioned in several lists, and in one level of a form.
use Rattle.std.proofs.Common.{◌≡◌, ℕ, ◌+◌, ◌<◌, Bool, true, false, ◌||◌, List, [], ◌∷◌, ◌++◌, length, get_or, drop, map, refl, sym, ap, ◌∙◌}
use Rattle.std.specs.Prelude.{flat_map, Option, Some, None, option_map, IsTrue, ◌↔◌}
use Rattle.std.specs.Cmp.Lexicographic.{bytes_decides}
use Rattle.std.specs.Str.{bytes_eq}
use Rattle.std.proofs.lemmas.List.{at_drop_more}
use Rattle.wc_syntax.specs.declared.expression.Expr.{Expr}
use Rattle.wc_syntax.specs.declared.expression.Form.{Form, fold-roll-Form}
use Rattle.wc_syntax.specs.declared.expression.Form.TheVariants as form
use Rattle.wc_syntax.specs.declared.expression.Form.TheOpen.{Form-F}
use Rattle.wc_syntax.specs.declared.expression.Name.{Name}
use Rattle.wc_syntax.specs.declared.expression.ChildPart.{ChildPart}
use Rattle.wc_syntax.specs.declared.expression.ChildPart.TheVariants as part
use Rattle.wc_syntax.specs.declared.expression.BinaryOp.{BinaryOp}
use Rattle.wc_syntax.specs.declared.expression.TwoOf.{TwoOf}
use Rattle.wc_syntax.specs.Mentions.{Mention, Context, part_mentions, mentions, form_mentions, its_mentions, or_none}
use Rattle.wc_outline.specs.Keys.{is_key, mentions_key, mentions_of_form}

-- ---- lists

-- a key is mentioned in two lists where it is mentioned in one of them
pub key_in_both : (key : List ℕ) (xs ys : List Mention) → mentions_key key (xs ++ ys) ≡ mentions_key key xs || mentions_key key ys
key_in_both key [] ys = refl
key_in_both key (m ∷ ms) ys = by_test (is_key key m) (key_in_both key ms ys)
  where
    by_test : (b : Bool) → mentions_key key (ms ++ ys) ≡ mentions_key key ms || mentions_key key ys
        → (b || mentions_key key (ms ++ ys)) ≡ (b || mentions_key key ms) || mentions_key key ys
    by_test true h = refl
    by_test false h = h

pub in_first : (key : List ℕ) (xs ys : List Mention) → mentions_key key xs ≡ true → mentions_key key (xs ++ ys) ≡ true
in_first key xs ys h = key_in_both key xs ys ∙ ap (λ (b : Bool). b || mentions_key key ys) h

pub in_second : (key : List ℕ) (xs ys : List Mention) → mentions_key key xs ≡ false → mentions_key key (xs ++ ys) ≡ mentions_key key ys
in_second key xs ys h = key_in_both key xs ys ∙ ap (λ (b : Bool). b || mentions_key key ys) h

module _ {A : Type 0} (f : A → List Mention) (key : List ℕ) (xs : List A) (i : ℕ) (x : A) (all : Bool) (so_far : mentions_key key (flat_map f (drop i xs)) ≡ all)
    (in_reach : i < length xs) (is : x ≡ get_or xs i x) where
  rest_is : mentions_key key (f x ++ flat_map f (drop (i + 1) xs)) ≡ all
  rest_is =
      let seek : List A → Bool = λ ys. mentions_key key (flat_map f ys) in
      sym (at_drop_more seek xs i x in_reach ∙ ap (λ (y : A). seek (y ∷ drop (i + 1) xs)) (sym is)) ∙ so_far

  -- a loop goes on past what doesn't mention the key, and ends where it is mentioned
  pub goes_on : mentions_key key (f x) ≡ false → mentions_key key (flat_map f (drop (i + 1) xs)) ≡ all
  goes_on h = sym (in_second key (f x) (flat_map f (drop (i + 1) xs)) h) ∙ rest_is

  pub ends_there : mentions_key key (f x) ≡ true → true ≡ all
  ends_there h = sym (in_first key (f x) (flat_map f (drop (i + 1) xs)) h) ∙ rest_is

-- a test whether two names are equal is that of their bytes
pub same_is : (r : Bool) (a b : List ℕ) → IsTrue r ↔ (a ≡ b) → r ≡ bytes_eq a b
same_is true a b h = sym ((bytes_decides a b).1 (h.0 refl))
same_is false a b h = by_test (bytes_eq a b) refl
  where
    by_test : (t : Bool) → bytes_eq a b ≡ t → false ≡ t
    by_test true p = h.1 ((bytes_decides a b).0 p)
    by_test false p = refl

-- ---- forms

joined_map : {A B : Type 0} (f : A → List B) (xs : List A) → flat_map (λ ys. ys) (map f xs) ≡ flat_map f xs
joined_map f [] = refl
joined_map f (x ∷ xs) = ap (λ ys. f x ++ ys) (joined_map f xs)

pub form_list : (f : Form) (es : List Expr) → f ≡ form.List es → mentions_of_form f ≡ flat_map mentions es
form_list f es h = ap mentions_of_form (h ∙ sym (form.rolls-List es)) ∙ fold-roll-Form (List Mention) (List Mention) form_mentions its_mentions (Form-F.List es) ∙ joined_map mentions es

pub form_binary : (f : Form) (o : BinaryOp) (a b : Expr) → f ≡ form.Binary o a b → mentions_of_form f ≡ mentions a ++ mentions b
form_binary f o a b h = ap mentions_of_form (h ∙ sym (form.rolls-Binary o a b)) ∙ fold-roll-Form (List Mention) (List Mention) form_mentions its_mentions (Form-F.Binary o a b)

pub form_two : (f : Form) (o : TwoOf) (a b : Expr) → f ≡ form.Two o a b → mentions_of_form f ≡ mentions a ++ mentions b
form_two f o a b h = ap mentions_of_form (h ∙ sym (form.rolls-Two o a b)) ∙ fold-roll-Form (List Mention) (List Mention) form_mentions its_mentions (Form-F.Two o a b)

-- no part of a child is a key
no_key : (key : List ℕ) (p : ChildPart) → mentions_key key (part_mentions p) ≡ false
no_key key (part.Outputs n) = refl
no_key key part.Status = refl
no_key key part.Ok = refl

or_false : (b : Bool) → (b || false) ≡ b
or_false true = refl
or_false false = refl

-- one level of a child, by what its index mentions
level_child : (key : List ℕ) (at : ℕ) (n : Name) (i : Option Expr) (p : ChildPart)
    → mentions_key key (mentions_of_form (form.Child at n i p)) ≡ is_key key (Context at n) || mentions_key key (or_none (option_map mentions i))
level_child key at n None p =
    ap (mentions_key key) (ap mentions_of_form (sym (form.rolls-Child at n None p)) ∙ fold-roll-Form (List Mention) (List Mention) form_mentions its_mentions (Form-F.Child at n None p))
    ∙ key_in_both key (Context at n ∷ []) (part_mentions p) ∙ ap (λ (b : Bool). (is_key key (Context at n) || false) || b) (no_key key p) ∙ or_false (is_key key (Context at n) || false)
level_child key at n (Some i) p =
    ap (mentions_key key) (ap mentions_of_form (sym (form.rolls-Child at n (Some i) p)) ∙ fold-roll-Form (List Mention) (List Mention) form_mentions its_mentions (Form-F.Child at n (Some i) p))
    ∙ key_in_both key (Context at n ∷ mentions i) (part_mentions p) ∙ ap (λ (b : Bool). (is_key key (Context at n) || mentions_key key (mentions i)) || b) (no_key key p)
    ∙ or_false (is_key key (Context at n) || mentions_key key (mentions i))

pub form_child : (key : List ℕ) (f : Form) (at : ℕ) (n : Name) (i : Option Expr) (p : ChildPart) → f ≡ form.Child at n i p
    → mentions_key key (mentions_of_form f) ≡ is_key key (Context at n) || mentions_key key (or_none (option_map mentions i))
form_child key f at n i p h = ap (λ (g : Form). mentions_key key (mentions_of_form g)) h ∙ level_child key at n i p
