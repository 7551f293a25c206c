-- What is set at a key.
use Rattle.std.proofs.Common.{◌≡◌, ℕ, List, [], ◌∷◌, ◌++◌, Bool, true, false, Option, Some, None, if◌then◌else◌, refl, sym, ap, ◌∙◌}
use Rattle.std.specs.Prelude.{Result, Ok, Err, IfOk}
use Rattle.std.specs.Cmp.Lexicographic.{bytes_decides, nat_list_eq_equiv}
use Rattle.std.specs.Str.{bytes_eq}
use Rattle.wc_value.specs.Ascending.{lookup}
use Rattle.wc_state.specs.Context.{found_at, with_set}
use Rattle.wc_state.specs.declared.environment.Child.{Child}
use Rattle.wc_state.specs.declared.environment.Item.{Item}
use Rattle.wc_state.specs.declared.environment.Item.TheVariants as item
use Rattle.wc_state.proofs.Pairs.{found_at_named}
use Rattle.wc_semantics.specs.Run.{children_at}
use Rattle.wc_semantics.specs.Statements.{keyed}

module _ (key : List ℕ) (item : Item) where
  set_here : (a b : Bool) (e : List ℕ × Item) (es : List (List ℕ × Item)) → a ≡ b → (a ≡ true → e.0 ≡ key) → with_set es key item ≡ keyed key item es
      → (if a then (e.0, item) ∷ es else e ∷ with_set es key item) ≡ (if b then (key, item) ∷ es else e ∷ keyed key item es)
  set_here true true e es same is rest = ap (λ (name : List ℕ). (name, item) ∷ es) (is refl)
  set_here true false e es same is rest = absurd (cc)
  set_here false true e es same is rest = absurd (cc)
  set_here false false e es same is rest = ap (λ (xs : List (List ℕ × Item)). e ∷ xs) rest

  -- the map sets a key as an environment is set
  pub set_is : (es : List (List ℕ × Item)) → with_set es key item ≡ keyed key item es
  set_is [] = refl
  set_is (e ∷ es) = set_here (bytes_eq key e.0) (bytes_eq e.0 key) e es (nat_list_eq_equiv.symm key e.0) (λ h. sym ((bytes_decides key e.0).0 h)) (set_is es)

-- what is set last stands
module _ (key : List ℕ) (first item : Item) where
  again_here : (a : Bool) (e : List ℕ × Item) (es : List (List ℕ × Item)) → bytes_eq key e.0 ≡ a → with_set (with_set es key first) key item ≡ with_set es key item
      → with_set (if a then (e.0, first) ∷ es else e ∷ with_set es key first) key item ≡ (if a then (e.0, item) ∷ es else e ∷ with_set es key item)
  again_here true e es h rest = ap (λ (b : Bool). if b then (e.0, item) ∷ es else (e.0, first) ∷ with_set es key item) h
  again_here false e es h rest = ap (λ (b : Bool). if b then (e.0, item) ∷ with_set es key first else e ∷ with_set (with_set es key first) key item) h ∙ ap (λ (xs : List (List ℕ × Item)). e ∷ xs) rest

  pub set_again : (es : List (List ℕ × Item)) → with_set (with_set es key first) key item ≡ with_set es key item
  set_again [] = ap (λ (b : Bool). if b then (key, item) ∷ [] else (key, first) ∷ (key, item) ∷ []) (nat_list_eq_equiv.refl key)
  set_again (e ∷ es) = again_here (bytes_eq key e.0) e es refl (set_again es)

-- what was made is equal to this too
pub made : {A E : Type 0} (r : Result A E) (x y : A) → IfOk r (λ v. v ≡ x) → x ≡ y → IfOk r (λ v. v ≡ y)
made (Ok v) x y p q = p ∙ q
made (Err e) x y p q = tt

-- ---- a list of children with one more

pub appended : (ctx mid : List (List ℕ × Item)) (key copied : List ℕ) (first : Item) (held : Option Item) (taken more : List Child) (c : Child)
    → copied ≡ key → mid ≡ with_set ctx copied first → held ≡ found_at ctx copied → taken ≡ children_at held → more ≡ taken ++ c ∷ []
    → with_set mid key (item.Many more) ≡ keyed key (item.Many (children_at (lookup key ctx) ++ c ∷ [])) ctx
appended ctx mid key copied first held taken more c k m h t j =
    ap (λ (xs : List (List ℕ × Item)). with_set xs key (item.Many more)) (m ∙ ap (λ (name : List ℕ). with_set ctx name first) k)
    ∙ set_again key first (item.Many more) ctx
    ∙ set_is key (item.Many more) ctx
    ∙ ap (λ (cs : List Child). keyed key (item.Many cs) ctx)
    (j ∙ ap (λ (cs : List Child). cs ++ c ∷ []) (t ∙ ap children_at (h ∙ ap (λ (name : List ℕ). found_at ctx name) k ∙ found_at_named ctx key)))
