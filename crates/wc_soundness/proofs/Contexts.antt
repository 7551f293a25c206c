-- Contexts bound alike: with the numbers of processes in a checkpoint, and with the children in an environment.
use Rattle.std.proofs.Common.{◌≡◌, ℕ, Bool, true, false, List, [], ◌∷◌, ◌++◌, Option, Some, None, inl, inr, map, refl, sym, ap, subst, ◌∙◌}
use Rattle.std.specs.Prelude.{if◌then◌else◌, option_map}
use Rattle.std.specs.Str.{bytes_eq}
use Rattle.std.proofs.lemmas.Bool.{cases_Bool}
use Rattle.std.proofs.lemmas.List.{map-append}
use Rattle.std.proofs.lemmas.Slice.Eq.{bytes_eq-Decides}
use Rattle.wc_value.specs.Ascending.{lookup}
use Rattle.wc_state.specs.Context.{Pairs, found_at, with_set}
use Rattle.wc_state.specs.declared.context.CtxRef.{CtxRef}
use Rattle.wc_state.specs.declared.context.CtxRef.TheVariants as held
use Rattle.wc_state.specs.declared.environment.Child.{Child}
use Rattle.wc_state.specs.declared.environment.Item.{Item}
use Rattle.wc_state.specs.declared.environment.Item.TheVariants as item
use Rattle.wc_semantics.specs.Run as run
use Rattle.wc_semantics.specs.Statements.{keyed}
use Rattle.wc_world.specs.World.{World}
use Rattle.wc_world.specs.Trees.{child_at, children_at, and_child, item_of, and_item, items_of}
use Rattle.wc_machine.specs.Calls as calling
use Rattle.wc_machine.specs.Rest.{child_alone, item_alone}
use Rattle.wc_soundness.specs.BoundAlike.{alone, IsBoundAlike}

abbrev Items : Type 0
Items = List (List ℕ × Item)

swapped : (a b : List ℕ) → bytes_eq a b ≡ bytes_eq b a
swapped a b = elim (cases_Bool (bytes_eq a b)) [
  | inl same ↦ same ∙ sym ((bytes_eq-Decides b a).1 (sym ((bytes_eq-Decides a b).0 same)))
  | inr apart ↦ elim (cases_Bool (bytes_eq b a)) [
    | inl other ↦ let e : bytes_eq a b ≡ true = (bytes_eq-Decides a b).1 (sym ((bytes_eq-Decides b a).0 other)) in absurd (cc (apart, e))
    | inr other ↦ apart ∙ sym other
  ]
]

-- ---- what a world shows of a context

module _ (w : World) where
  -- what a context holds and what is seen of it
  abbrev IsSeen : Option CtxRef → Option Item → Type 0
  IsSeen None None = Unit {0}
  IsSeen None (Some x) = ⊥
  IsSeen (Some c) None = ⊥
  IsSeen (Some c) (Some x) = item_of w c ≡ Some x

  record IsFirstSeen (e : List ℕ × CtxRef) (es : Pairs) (items : Items) : Type 0 where
    one : Item
    rest : Items
    is_one : item_of w e.1 ≡ Some one
    is_rest : items_of w es ≡ Some rest
    is : items ≡ (e.0, one) ∷ rest

  first_seen : (e : List ℕ × CtxRef) (es : Pairs) (items : Items) → items_of w (e ∷ es) ≡ Some items → IsFirstSeen e es items
  first_seen e es items h = at (item_of w e.1) (items_of w es) refl refl h
    where
      at : (o : Option Item) (m : Option Items) → item_of w e.1 ≡ o → items_of w es ≡ m → and_item e.0 o m ≡ Some items → IsFirstSeen e es items
      at None m p q h = absurd (cc h)
      at (Some x) None p q h = absurd (cc h)
      at (Some x) (Some rest) p q h = record { one = x; rest = rest; is_one = p; is_rest = q; is = cc }

  found_seen : (ctx : Pairs) (items : Items) (key : List ℕ) → items_of w ctx ≡ Some items → IsSeen (found_at ctx key) (lookup key items)
  found_seen [] items key h = let e : items ≡ [] = cc in subst (λ (x : Items). IsSeen None (lookup key x)) (sym e) tt
  found_seen (e ∷ es) items key h =
      let f = first_seen e es items h in
      subst (λ (x : Items). IsSeen (if bytes_eq key e.0 then Some e.1 else found_at es key) (lookup key x)) (sym f.is)
      (subst (λ (b : Bool). IsSeen (if b then Some e.1 else found_at es key) (if bytes_eq e.0 key then Some f.one else lookup key f.rest)) (swapped e.0 key)
      (at (bytes_eq e.0 key) f.one f.rest f.is_one (found_seen es f.rest key f.is_rest)))
    where
      at : (b : Bool) (one : Item) (rest : Items) → item_of w e.1 ≡ Some one → IsSeen (found_at es key) (lookup key rest)
          → IsSeen (if b then Some e.1 else found_at es key) (if b then Some one else lookup key rest)
      at true one rest p q = p
      at false one rest p q = q

  set_seen : (ctx : Pairs) (items : Items) (key : List ℕ) (c : CtxRef) (x : Item) → items_of w ctx ≡ Some items → item_of w c ≡ Some x
      → items_of w (with_set ctx key c) ≡ Some (keyed key x items)
  set_seen [] items key c x h p =
      let e : [] ≡ items = cc in
      ap (λ (o : Option Item). and_item key o (Some [])) p ∙ ap (λ (l : Items). Some (keyed key x l)) e
  set_seen (e ∷ es) items key c x h p =
      let f = first_seen e es items h in
      ap (λ (b : Bool). items_of w (if b then (e.0, c) ∷ es else e ∷ with_set es key c)) (swapped key e.0)
      ∙ at (bytes_eq e.0 key) refl f.one f.rest f.is_one f.is_rest (set_seen es f.rest key c x f.is_rest p)
      ∙ ap (λ (l : Items). Some (keyed key x l)) (sym f.is)
    where
      at : (b : Bool) → bytes_eq e.0 key ≡ b → (one : Item) (rest : Items) → item_of w e.1 ≡ Some one → items_of w es ≡ Some rest
          → items_of w (with_set es key c) ≡ Some (keyed key x rest)
          → items_of w (if b then (e.0, c) ∷ es else e ∷ with_set es key c) ≡ Some (if b then (key, x) ∷ rest else (e.0, one) ∷ keyed key x rest)
      at true same one rest q r later =
          let name : e.0 ≡ key = (bytes_eq-Decides e.0 key).0 same in
          (λ i. and_item e.0 (p i) (r i)) ∙ ap (λ (k : List ℕ). Some ((k, x) ∷ rest)) name
      at false same one rest q r later = λ i. and_item e.0 (q i) (later i)

  -- ---- a child that joins

  children_push : (pids : List ℕ) (cs : List Child) (pid : ℕ) (ch : Child) → children_at w pids ≡ Some cs → child_at w pid ≡ Some ch
      → children_at w (pids ++ pid ∷ []) ≡ Some (cs ++ ch ∷ [])
  children_push [] cs pid ch h p =
      let e : [] ≡ cs = cc in
      ap (λ (o : Option Child). and_child o (Some [])) p ∙ ap (λ (l : List Child). Some (l ++ ch ∷ [])) e
  children_push (n ∷ ns) cs pid ch h p = at (child_at w n) (children_at w ns) refl h (λ rest q. children_push ns rest pid ch q p)
    where
      at : (o : Option Child) (m : Option (List Child)) → child_at w n ≡ o → and_child o m ≡ Some cs
          → ((rest : List Child) → m ≡ Some rest → children_at w (ns ++ pid ∷ []) ≡ Some (rest ++ ch ∷ []))
          → and_child (child_at w n) (children_at w (ns ++ pid ∷ [])) ≡ Some (cs ++ ch ∷ [])
      at None m q h later = absurd (cc h)
      at (Some c) None q h later = absurd (cc h)
      at (Some c) (Some rest) q h later =
          let e : c ∷ rest ≡ cs = cc in
          (λ i. and_child (q i) (later rest refl i)) ∙ ap (λ (l : List Child). Some (l ++ ch ∷ [])) e

  children_seen : (o : Option CtxRef) (m : Option Item) → IsSeen o m → children_at w (calling.children_at o) ≡ Some (run.children_at m)
  children_seen None None h = refl
  children_seen None (Some x) h = absurd h
  children_seen (Some c) None h = absurd h
  children_seen (Some (held.Plain v)) (Some x) h = let e : item.Plain v ≡ x = cc in ap (λ (y : Item). Some (run.children_at (Some y))) e
  children_seen (Some (held.One n)) (Some x) h = at (child_at w n) h
    where
      at : (o : Option Child) → option_map item.One o ≡ Some x → Some [] ≡ Some (run.children_at (Some x))
      at None h = absurd (cc h)
      at (Some c) h = let e : item.One c ≡ x = cc in ap (λ (y : Item). Some (run.children_at (Some y))) e
  children_seen (Some (held.Many ns)) (Some x) h = at (children_at w ns) refl h
    where
      at : (o : Option (List Child)) → children_at w ns ≡ o → option_map item.Many o ≡ Some x → children_at w ns ≡ Some (run.children_at (Some x))
      at None q h = absurd (cc h)
      at (Some cs) q h = let e : item.Many cs ≡ x = cc in q ∙ ap (λ (y : Item). Some (run.children_at (Some y))) e

  joined_seen : (append : Bool) (o : Option CtxRef) (m : Option Item) (pid : ℕ) (ch : Child) → IsSeen o m → child_at w pid ≡ Some ch
      → item_of w (calling.joined append o pid) ≡ Some (run.joined append m ch)
  joined_seen true o m pid ch h p = ap (option_map item.Many) (children_push (calling.children_at o) (run.children_at m) pid ch (children_seen o m h) p)
  joined_seen false o m pid ch h p = ap (option_map item.One) p

-- ---- without the numbers of nodes

lookup_alone : (key : List ℕ) (items : Items) → lookup key (alone items) ≡ option_map item_alone (lookup key items)
lookup_alone key [] = refl
lookup_alone key (e ∷ es) = at (bytes_eq e.0 key) (lookup_alone key es)
  where
    at : (b : Bool) → lookup key (alone es) ≡ option_map item_alone (lookup key es)
        → (if b then Some (item_alone e.1) else lookup key (alone es)) ≡ option_map item_alone (if b then Some e.1 else lookup key es)
    at true h = refl
    at false h = h

keyed_alone : (key : List ℕ) (x : Item) (items : Items) → keyed key (item_alone x) (alone items) ≡ alone (keyed key x items)
keyed_alone key x [] = refl
keyed_alone key x (e ∷ es) = at (bytes_eq e.0 key) (keyed_alone key x es)
  where
    at : (b : Bool) → keyed key (item_alone x) (alone es) ≡ alone (keyed key x es)
        → (if b then (key, item_alone x) ∷ alone es else (e.0, item_alone e.1) ∷ keyed key (item_alone x) (alone es)) ≡ alone (if b then (key, x) ∷ es else e ∷ keyed key x es)
    at true h = refl
    at false h = ap (λ (l : Items). (e.0, item_alone e.1) ∷ l) h

children_alone : (m : Option Item) → run.children_at (option_map item_alone m) ≡ map child_alone (run.children_at m)
children_alone None = refl
children_alone (Some (item.Plain v)) = refl
children_alone (Some (item.One c)) = refl
children_alone (Some (item.Many cs)) = refl

joined_alone : (append : Bool) (m : Option Item) (ch : Child) → run.joined append (option_map item_alone m) (child_alone ch) ≡ item_alone (run.joined append m ch)
joined_alone true m ch =
    ap item.Many (ap (λ (l : List Child). l ++ child_alone ch ∷ []) (children_alone m) ∙ sym (map-append child_alone (run.children_at m) (ch ∷ [])))
joined_alone false m ch = refl

pub bound_alike : (w : World) (ctx : Pairs) (items : List (List ℕ × Item)) (key : List ℕ) (append : Bool) (pid : ℕ) (ch : Child) → items_of w ctx ≡ Some items
    → child_at w pid ≡ Some ch → IsBoundAlike w ctx items key append pid ch
bound_alike w ctx items key append pid ch h p =
    let x : Item = run.joined append (lookup key items) ch in
    record {
      new = keyed key x items;
      seen = set_seen w ctx items key (calling.joined append (found_at ctx key) pid) x h
          (joined_seen w append (found_at ctx key) (lookup key items) pid ch (found_seen w ctx items key h) p);
      same = ap (λ (y : Item). keyed key y (alone items)) (ap (λ (m : Option Item). run.joined append m (child_alone ch)) (lookup_alone key items) ∙ joined_alone append (lookup key items) ch)
          ∙ keyed_alone key x items;
    }
