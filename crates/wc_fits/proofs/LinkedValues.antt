-- What is looked up among the values that links lead to.
use Rattle.std.proofs.Common.{◌≡◌, ℕ, zero, suc, ◌<◌, Bool, true, false, Option, Some, None, List, [], ◌∷◌, length, get_or, ◌⊎◌, inl, inr, refl, sym, ap, subst, ◌∙◌, arith}
use Rattle.std.specs.Prelude.{All, Contains, if◌then◌else◌}
use Rattle.std.specs.Str.{bytes_eq}
use Rattle.std.specs.Ordering.{nat_cmp, is_lt, is_eq}
use Rattle.std.specs.declared.cmp.Ordering.{Ordering}
use Rattle.std.specs.declared.cmp.Ordering.TheVariants.{Less, Equal, Greater}
use Rattle.std.specs.Cmp.Lexicographic.{slice_cmp}
use Rattle.std.proofs.lemmas.Slice.Eq.{bytes_eq-Decides}
use Rattle.std.proofs.lemmas.Map.Text.{is_eq-slice_cmp}
use Rattle.std.proofs.lemmas.List.Elements.{All-head, All-tail}
use Rattle.wc_value.specs.Ascending.{before, lookup, put}
use Rattle.wc_value.specs.declared.value.Value.{Value}
use Rattle.wc_value.proofs.Puts.{same_name}
use Rattle.wc_graph.specs.declared.node.NodeKind.{NodeKind}
use Rattle.wc_graph.specs.declared.link.Link.{Link}
use Rattle.wc_state.specs.declared.environment.NodeValue.{NodeValue}
use Rattle.wc_fits.specs.Values.{NamedValues, value_of, with_value}

-- ---- a value put by its name

less_differs : (o : Ordering) → is_lt o ≡ true → is_eq o ≡ false
less_differs Less h = refl
less_differs Equal h = absurd (cc)
less_differs Greater h = refl

before_differs : (a name : List ℕ) → before a name ≡ true → bytes_eq a name ≡ false
before_differs a name h = sym (is_eq-slice_cmp a name) ∙ less_differs (slice_cmp nat_cmp a name) h

first_found : {T : Type 0} (name : List ℕ) (v : T) (es : List (List ℕ × T)) → lookup name ((name, v) ∷ es) ≡ Some v
first_found name v es = ap (λ (b : Bool). if b then Some v else lookup name es) ((bytes_eq-Decides name name).1 refl)

put_found : {T : Type 0} (name : List ℕ) (v : T) (es : List (List ℕ × T)) → lookup name (put name v es) ≡ Some v
put_found name v [] = first_found name v []
put_found {T} name v (e ∷ es) = at (before e.0 name) (bytes_eq e.0 name) refl (put_found name v es)
  where
    at : (b c : Bool) → before e.0 name ≡ b → lookup name (put name v es) ≡ Some v
        → lookup name (if b then e ∷ put name v es else if c then (name, v) ∷ es else (name, v) ∷ e ∷ es) ≡ Some v
    at true c p rest = ap (λ (b : Bool). if b then Some e.1 else lookup name (put name v es)) (before_differs e.0 name p) ∙ rest
    at false true p rest = first_found name v es
    at false false p rest = first_found name v (e ∷ es)

put_passed : {T : Type 0} (key name : List ℕ) (v : T) (es : List (List ℕ × T)) → bytes_eq name key ≡ false → lookup key (put name v es) ≡ lookup key es
put_passed key name v [] d = ap (λ (b : Bool). if b then Some v else None) d
put_passed {T} key name v (e ∷ es) d = at (before e.0 name) (bytes_eq e.0 name) refl (put_passed key name v es d)
  where
    at : (b c : Bool) → bytes_eq e.0 name ≡ c → lookup key (put name v es) ≡ lookup key es
        → lookup key (if b then e ∷ put name v es else if c then (name, v) ∷ es else (name, v) ∷ e ∷ es) ≡ lookup key (e ∷ es)
    at true c q rest = ap (λ (o : Option T). if bytes_eq e.0 key then Some e.1 else o) rest
    at false true q rest =
        let differs : bytes_eq e.0 key ≡ false = ap (λ (a : List ℕ). bytes_eq a key) (same_name e.0 name q) ∙ d in
        ap (λ (b : Bool). if b then Some v else lookup key es) d ∙ sym (ap (λ (b : Bool). if b then Some e.1 else lookup key es) differs)
    at false false q rest = ap (λ (b : Bool). if b then Some v else lookup key (e ∷ es)) d

-- ---- the values that links lead to

module _ (is : Link → Bool) (end : Link → ℕ) (nodes : List NodeKind) where
  -- the entries with those of the links that pass a test, each with the node at one of its ends
  abbrev pub gathered : List Link → NamedValues → NamedValues
  gathered [] es = es
  gathered (l ∷ ls) es = gathered ls (if is l then with_value l.label (end l) (value_of nodes (end l)) es else es)

  module _ (label : List ℕ) (e : NodeValue) where
    -- The link has the label and leads to the node with its value.
    abbrev pub Leads : Link → Type 0
    Leads l = (is l ≡ true) × (l.label ≡ label) × (end l ≡ e.node) × (value_of nodes (end l) ≡ Some e.value)

    -- A link with the label leads to the node.
    abbrev pub Agrees : Link → Type 0
    Agrees l = is l ≡ true → l.label ≡ label → end l ≡ e.node

    named_found : (name : List ℕ) (x : NodeValue) (es : NamedValues) → name ≡ label → lookup label (put name x es) ≡ Some x
    named_found name x es p = subst (λ (k : List ℕ). lookup k (put name x es) ≡ Some x) p (put_found name x es)

    -- ---- what is found is linked

    value_told : (l : Link) (es : NamedValues) (o : Option Value) → value_of nodes (end l) ≡ o → is l ≡ true
        → lookup label (with_value l.label (end l) o es) ≡ Some e → (lookup label es ≡ Some e) ⊎ Leads l
    value_told l es None q p h = inl h
    value_told l es (Some v) q p h = named (bytes_eq l.label label) refl
      where
        put_here : NodeValue
        put_here = record { node = end l; value = v }

        named : (b : Bool) → bytes_eq l.label label ≡ b → (lookup label es ≡ Some e) ⊎ Leads l
        named true same =
            let name : l.label ≡ label = same_name l.label label same in
            let found : lookup label (put l.label put_here es) ≡ Some put_here = named_found l.label put_here es name in
            let is_entry : put_here ≡ e = cc in
            inr (p, name, ap (λ (x : NodeValue). x.node) is_entry, q ∙ ap (λ (x : NodeValue). Some x.value) is_entry)
        named false differs = inl (sym (put_passed label l.label put_here es differs) ∙ h)

    link_told : (l : Link) (es : NamedValues) (b : Bool) → is l ≡ b
        → lookup label (if b then with_value l.label (end l) (value_of nodes (end l)) es else es) ≡ Some e → (lookup label es ≡ Some e) ⊎ Leads l
    link_told l es true p h = value_told l es (value_of nodes (end l)) refl p h
    link_told l es false p h = inl h

    told : (ls : List Link) (es : NamedValues) → lookup label (gathered ls es) ≡ Some e → (lookup label es ≡ Some e) ⊎ ((l : Link) × Contains ls l × Leads l)
    told [] es h = inl h
    told (l ∷ ls) es h =
        elim (told ls (if is l then with_value l.label (end l) (value_of nodes (end l)) es else es) h) [
          | inl old ↦
              elim (link_told l es (is l) refl old) [
                | inl older ↦ inl older
                | inr leads ↦ inr (l, (0, omega arith, refl), leads)
              ]
          | inr found ↦ let lt = found.1.1 in inr (found.0, (suc found.1.0, omega arith, found.1.2), found.2)
        ]

    pub found_is_linked : (ls : List Link) → lookup label (gathered ls []) ≡ Some e → (l : Link) × Contains ls l × Leads l
    found_is_linked ls h = elim (told ls [] h) [ inl none ↦ absurd (cc) | inr found ↦ found ]

    -- ---- what is linked is found

    value_kept : (l : Link) (es : NamedValues) (o : Option Value) → value_of nodes (end l) ≡ o → value_of nodes e.node ≡ Some e.value
        → (l.label ≡ label → end l ≡ e.node) → lookup label es ≡ Some e → lookup label (with_value l.label (end l) o es) ≡ Some e
    value_kept l es None q v agrees h = h
    value_kept l es (Some x) q v agrees h = named (bytes_eq l.label label) refl
      where
        put_here : NodeValue
        put_here = record { node = end l; value = x }

        named : (b : Bool) → bytes_eq l.label label ≡ b → lookup label (put l.label put_here es) ≡ Some e
        named true same =
            let name : l.label ≡ label = same_name l.label label same in
            let node : end l ≡ e.node = agrees name in
            let found : Some x ≡ Some e.value = sym q ∙ ap (value_of nodes) node ∙ v in
            let value : x ≡ e.value = cc in
            named_found l.label put_here es name ∙ (λ i. Some (record { node = node i; value = value i }))
        named false differs = put_passed label l.label put_here es differs ∙ h

    link_kept : (l : Link) (es : NamedValues) (b : Bool) → value_of nodes e.node ≡ Some e.value → (b ≡ true → l.label ≡ label → end l ≡ e.node)
        → lookup label es ≡ Some e → lookup label (if b then with_value l.label (end l) (value_of nodes (end l)) es else es) ≡ Some e
    link_kept l es true v agrees h = value_kept l es (value_of nodes (end l)) refl v (agrees refl) h
    link_kept l es false v agrees h = h

    kept : (ls : List Link) (es : NamedValues) → value_of nodes e.node ≡ Some e.value → All Agrees ls → lookup label es ≡ Some e → lookup label (gathered ls es) ≡ Some e
    kept [] es v a h = h
    kept (l ∷ ls) es v a h =
        kept ls (if is l then with_value l.label (end l) (value_of nodes (end l)) es else es) v (All-tail Agrees l ls a) (link_kept l es (is l) v (All-head Agrees l ls a) h)

    link_found : (l : Link) (es : NamedValues) → Leads l → lookup label (if is l then with_value l.label (end l) (value_of nodes (end l)) es else es) ≡ Some e
    link_found l es leads =
        ap (λ (b : Bool). lookup label (if b then with_value l.label (end l) (value_of nodes (end l)) es else es)) leads.0
        ∙ ap (λ (o : Option Value). lookup label (with_value l.label (end l) o es)) leads.3
        ∙ named_found l.label (record { node = end l; value = e.value }) es leads.1
        ∙ ap (λ (n : ℕ). Some (record { node = n; value = e.value })) leads.2

    found : (ls : List Link) (es : NamedValues) (l : Link) (k : ℕ) → k < length ls → get_or ls k l ≡ l → Leads l → value_of nodes e.node ≡ Some e.value → All Agrees ls
        → lookup label (gathered ls es) ≡ Some e
    found [] es l k lt is_l leads v a = absurd (omega arith)
    found (x ∷ ls) es l zero lt is_l leads v a =
        kept ls (if is x then with_value x.label (end x) (value_of nodes (end x)) es else es) v (All-tail Agrees x ls a) (link_found x es (subst Leads (sym is_l) leads))
    found (x ∷ ls) es l (suc k) lt is_l leads v a =
        found ls (if is x then with_value x.label (end x) (value_of nodes (end x)) es else es) l k (omega arith) is_l leads v (All-tail Agrees x ls a)

    pub linked_is_found : (ls : List Link) (l : Link) → Contains ls l → Leads l → All Agrees ls → lookup label (gathered ls []) ≡ Some e
    linked_is_found ls l c leads a = found ls [] l c.0 c.1 c.2 leads (ap (value_of nodes) (sym leads.2) ∙ leads.3) a
