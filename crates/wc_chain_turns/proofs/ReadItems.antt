-- The items of what is read of a context, beside those of the whole context.
use Rattle.std.proofs.Common.{◌≡◌, ℕ, Bool, true, false, ◌||◌, List, [], ◌∷◌, Option, Some, None, if◌then◌else◌, refl, ap, ◌∙◌}
use Rattle.std.specs.Cmp.Lexicographic.{bytes_decides, nat_list_eq_equiv}
use Rattle.std.specs.Str.{bytes_eq}
use Rattle.wc_value.specs.Ascending.{lookup}
use Rattle.wc_syntax.specs.Mentions.{Mention, Bare, Given, Input, Context, Label}
use Rattle.wc_state.specs.Context.{Pairs}
use Rattle.wc_state.specs.declared.context.CtxRef.{CtxRef}
use Rattle.wc_state.specs.declared.environment.Env.{Env}
use Rattle.wc_state.specs.declared.environment.Item.{Item}
use Rattle.wc_state.specs.declared.environment.NodeValue.{NodeValue}
use Rattle.wc_world.specs.Trees.{item_of, and_item, items_of}
use Rattle.wc_world.specs.World.{World}
use Rattle.wc_changes.specs.Agreement.{AgreeOn, Agree}
use Rattle.wc_changes.specs.Keys.{is_key, mentions_key}
use Rattle.wc_changes.specs.Reads.{mentioned_of}

abbrev pub Items : Type 0
Items = List (List ℕ × Item)

module _ (ms : List Mention) where
  -- the items whose keys are mentioned
  abbrev pub kept : Items → Items
  kept [] = []
  kept (e ∷ es) = if mentions_key e.0 ms then e ∷ kept es else kept es

  one_kept : (w : World) (e : List ℕ × CtxRef) (es : Pairs) (x : Item) (rest : Items) (b : Bool) → item_of w e.1 ≡ Some x → items_of w (mentioned_of ms es) ≡ Some (kept rest)
      → items_of w (if b then e ∷ mentioned_of ms es else mentioned_of ms es) ≡ Some (if b then (e.0, x) ∷ kept rest else kept rest)
  one_kept w e es x rest true p q = λ i. and_item e.0 (p i) (q i)
  one_kept w e es x rest false p q = q

  -- what is read of a context has those items of the context's whose keys are mentioned
  pub items_kept : (w : World) (es : Pairs) (is : Items) → items_of w es ≡ Some is → items_of w (mentioned_of ms es) ≡ Some (kept is)
  items_kept w [] is h = let same : [] ≡ is = cc in ap (λ (xs : Items). Some (kept xs)) same
  items_kept w (e ∷ es) is h = by_items (item_of w e.1) (items_of w es) refl refl h (λ rest. items_kept w es rest)
    where
      by_items : (o : Option Item) (m : Option Items) → item_of w e.1 ≡ o → items_of w es ≡ m → and_item e.0 o m ≡ Some is
          → ((rest : Items) → items_of w es ≡ Some rest → items_of w (mentioned_of ms es) ≡ Some (kept rest))
          → items_of w (if mentions_key e.0 ms then e ∷ mentioned_of ms es else mentioned_of ms es) ≡ Some (kept is)
      by_items None m p q g again = absurd (cc g)
      by_items (Some x) None p q g again = absurd (cc g)
      by_items (Some x) (Some rest) p q g again =
          let same : (e.0, x) ∷ rest ≡ is = cc in
          one_kept w e es x rest (mentions_key e.0 ms) p (again rest q) ∙ ap (λ (xs : Items). Some (kept xs)) same

  -- a key that is mentioned holds what it held
  pub found_kept : (key : List ℕ) → mentions_key key ms ≡ true → (is : Items) → lookup key (kept is) ≡ lookup key is
  found_kept key m [] = refl
  found_kept key m (e ∷ es) = by_tests (mentions_key e.0 ms) (bytes_eq e.0 key) refl refl (found_kept key m es)
    where
      by_tests : (a b : Bool) → mentions_key e.0 ms ≡ a → bytes_eq e.0 key ≡ b → lookup key (kept es) ≡ lookup key es
          → lookup key (if a then e ∷ kept es else kept es) ≡ (if b then Some e.1 else lookup key es)
      by_tests true b p q h = ap (λ (x : Bool). if x then Some e.1 else lookup key (kept es)) q ∙ ap (λ (o : Option Item). if b then Some e.1 else o) h
      by_tests false true p q h =
          let same : e.0 ≡ key = (bytes_decides e.0 key).0 q in
          let other : mentions_key e.0 ms ≡ true = ap (λ (k : List ℕ). mentions_key k ms) same ∙ m in
          absurd (cc)
      by_tests false false p q h = h

or_true : (b c : Bool) → c ≡ true → (b || c) ≡ true
or_true true c h = refl
or_true false c h = h

-- environments with the same inputs agree on some names where the keys among these hold the same in both
module _ (one two : Env) (inputs : one.inputs ≡ two.inputs) where
  on_one : (m : Mention) → ((key : List ℕ) → is_key key m ≡ true → lookup key one.ctx ≡ lookup key two.ctx) → AgreeOn one two m
  on_one (Bare n) h = ap (λ (is : List (List ℕ × NodeValue)). lookup n.text is) inputs
  on_one (Given n) h = ap (λ (is : List (List ℕ × NodeValue)). lookup n.text is) inputs
  on_one (Input at n) h = ap (λ (is : List (List ℕ × NodeValue)). lookup n.text is) inputs
  on_one (Context at n) h = h n.text (nat_list_eq_equiv.refl n.text)
  on_one (Label n) h = tt

  pub agree_on : (ms : List Mention) → ((key : List ℕ) → mentions_key key ms ≡ true → lookup key one.ctx ≡ lookup key two.ctx) → Agree one two ms
  agree_on [] h = tt
  agree_on (m ∷ ms) h = (
    on_one m (λ key p. h key (ap (λ (b : Bool). b || mentions_key key ms) p)),
    agree_on ms (λ key p. h key (or_true (is_key key m) (mentions_key key ms) p)),
  )
