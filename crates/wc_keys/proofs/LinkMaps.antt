-- The links of inputs by port, and the entries that they stand for.
use Rattle.std.proofs.Common.{◌≡◌, ℕ, suc, ◌<◌, ◌≤◌, ◌-◌, ◌++◌, get_or, drop, Bool, true, false, Option, Some, None, List, [], ◌∷◌, length, map, refl, sym, ap, ◌∙◌, subst, arith}
use Rattle.std.specs.Prelude.{All, Contains, Vec, flat_map, if◌then◌else◌, ◌||◌, is_some}
use Rattle.std.specs.Borrow.{Bor}
use Rattle.std.specs.BTreeMap.{insert_entry}
use Rattle.std.specs.Cmp.Lexicographic.{slice_cmp}
use Rattle.std.specs.List.{AllByRecursion, list_any}
use Rattle.std.specs.List.Sorted.{IsStrictlySortedBy}
use Rattle.std.specs.Map.{keys_of, values_of}
use Rattle.std.specs.Ordering.{nat_cmp, is_eq, is_lt, match_ordering, ordering_reverse}
use Rattle.std.specs.Str.{bytes_eq}
use Rattle.std.specs.declared.alloc.Global.{Global}
use Rattle.std.specs.declared.cmp.Ordering.{Ordering}
use Rattle.std.specs.declared.cmp.Ordering.TheVariants.{Less, Equal, Greater}
use Rattle.std.proofs.lemmas.Cmp.{nat_list_cmp_total}
use Rattle.std.proofs.lemmas.List.{length-map}
use Rattle.std.proofs.lemmas.List.Elements.{All-nil, All-cons, All-weaker, All-contains}
use Rattle.std.proofs.lemmas.Map.Text.{is_eq-slice_cmp}
use Rattle.std.proofs.lemmas.Slice.Eq.{bytes_eq-Decides}
use Rattle.wc_value.specs.Ascending.{Ascends, before, put}
use Rattle.wc_value.specs.Spelling.{pair_of}
use Rattle.wc_value.specs.declared.value.Value.{Value}
use Rattle.wc_value.proofs.Puts.{same_name, ascends_put}
use Rattle.wc_graph.specs.Rules.{IsLinkCorrect}
use Rattle.wc_graph.specs.Index.{Skips, target_of}
use Rattle.wc_graph.specs.declared.node.NodeKind.{NodeKind}
use Rattle.wc_graph.specs.declared.link.Link.{Link}
use Rattle.wc_keys.proofs.Orders.{same_digest}
use Rattle.wc_fits.proofs.LinkWalks.{Passes, walk_begins, walk_on}
use Rattle.wc_keys.specs.Ports.{input_value, is_behind, plain_inputs, entries_behind, entry_by, with_input, input_links, LinkMap, by_port, links_in, link_bytes}
use Rattle.wc_keys.proofs.Ports.{names_in_order, less_is_before, weaker, is_given, not_given, input_first, none_left}
use Rattle.wc_keys.proofs.Walked.{all_left}

-- ---- a link put into a map

abbrev Key : Type 0
Key = Vec ℕ Global

abbrev order : Key → Key → Ordering
order x y = slice_cmp nat_cmp x.items y.items

abbrev pub shown : Key × Bor Link → List ℕ × Link
shown e = (e.0.items, e.1.now)

abbrev Links : Type 0
Links = List (List ℕ × Link)

module _ (k : Key) (v : Bor Link) where
  abbrev with_link : Links → Links
  with_link = put k.items v.now

  put_at : (e : Key × Bor Link) (es : List (Key × Bor Link)) (o : Ordering) → order k e.0 ≡ o → map shown (insert_entry order es k v) ≡ with_link (map shown es)
      → map shown (match_ordering o ((k, v) ∷ e ∷ es) ((e.0, v) ∷ es) (e ∷ insert_entry order es k v)) ≡ with_link (map shown (e ∷ es))
  put_at e es o is rest = told o is
    where
      back : (r : Ordering) → order k e.0 ≡ r → slice_cmp nat_cmp e.0.items k.items ≡ ordering_reverse r
      back r p = nat_list_cmp_total.antisymm e.0.items k.items ∙ ap ordering_reverse p

      by_order : (r : Ordering) → slice_cmp nat_cmp e.0.items k.items ≡ r
          → with_link (map shown (e ∷ es))
          ≡ (if is_lt r then shown e ∷ with_link (map shown es) else if is_eq r then (k.items, v.now) ∷ map shown es else (k.items, v.now) ∷ shown e ∷ map shown es)
      by_order r p =
          ap
          (λ (c : Bool). if before e.0.items k.items then shown e ∷ with_link (map shown es) else if c then (k.items, v.now) ∷ map shown es else (k.items, v.now) ∷ shown e ∷ map shown es)
          (sym (is_eq-slice_cmp e.0.items k.items))
          ∙ ap (λ (q : Ordering). if is_lt q then shown e ∷ with_link (map shown es) else if is_eq q then (k.items, v.now) ∷ map shown es else (k.items, v.now) ∷ shown e ∷ map shown es) p

      told : (r : Ordering) → order k e.0 ≡ r → map shown (match_ordering r ((k, v) ∷ e ∷ es) ((e.0, v) ∷ es) (e ∷ insert_entry order es k v)) ≡ with_link (map shown (e ∷ es))
      told Less p = sym (by_order Greater (back Less p))
      told Equal p = ap (λ (n : List ℕ). (n, v.now) ∷ map shown es) (sym (same_digest k.items e.0.items p)) ∙ sym (by_order Equal (back Equal p))
      told Greater p = ap (λ (ls : Links). shown e ∷ ls) rest ∙ sym (by_order Less (back Greater p))

  put_shown : (es : List (Key × Bor Link)) → map shown (insert_entry order es k v) ≡ with_link (map shown es)
  put_shown [] = refl
  put_shown (e ∷ es) = put_at e es (order k e.0) refl (put_shown es)

-- a map has one link more, where that is an input
pub link_put : (nodes : List NodeKind) (pid : ℕ) (old new : LinkMap) (k : Key) (v : Bor Link) → is_some (input_value nodes pid v.now) ≡ true
    → new.entries ≡ insert_entry order old.entries k v → k.items ≡ v.now.label → by_port new ≡ with_input nodes pid v.now (by_port old)
link_put nodes pid old new k v is entries port =
    ap (map shown) entries
    ∙ put_shown k v old.entries
    ∙ ap (λ (n : List ℕ). put n v.now (by_port old)) port
    ∙ sym (ap (λ (b : Bool). if b then put v.now.label v.now (by_port old) else by_port old) is)

-- and else it has those that it had
pub link_left : (nodes : List NodeKind) (pid : ℕ) (m : LinkMap) (l : Link) → is_some (input_value nodes pid l) ≡ false → by_port m ≡ with_input nodes pid l (by_port m)
link_left nodes pid m l isnt = sym (ap (λ (b : Bool). if b then put l.label l (by_port m) else by_port m) isnt)

-- ---- a walk over the links

module _ (nodes : List NodeKind) (pid : ℕ) where
  passed_by : Passes (input_links nodes pid) target_of pid
  passed_by l ls other = ap (λ (b : Bool). if b then put l.label l (input_links nodes pid ls) else input_links nodes pid ls) (not_given nodes pid l other)

  pub links_first : (links : List Link) (at : ℕ) → Skips target_of links pid (length links) at → input_links nodes pid (drop at links) ≡ []
  links_first links at s = walk_begins (input_links nodes pid) target_of pid passed_by links at s

  pub links_next : (links : List Link) (at next : ℕ) (l : Link) → 0 < at → at ≤ length links → l ≡ get_or links (at - 1) l → Skips target_of links pid (at - 1) next
      → (old new : Links) → old ≡ input_links nodes pid (drop at links) → new ≡ with_input nodes pid l old → new ≡ input_links nodes pid (drop next links)
  links_next links at next l some few read s old new known more =
      more ∙ ap (with_input nodes pid l) known ∙ sym (walk_on (input_links nodes pid) target_of pid passed_by links at next l some few read s)

-- ---- which links there are

-- a link stands at this port
abbrev has : List ℕ → Links → Bool
has port es = list_any (λ (e : List ℕ × Link). bytes_eq e.0 port) es

or_true : (a : Bool) → (a || true) ≡ true
or_true true = refl
or_true false = refl

or_keeps : (a r s : Bool) → (r ≡ true → s ≡ true) → (a || r) ≡ true → (a || s) ≡ true
or_keeps true r s keeps h = refl
or_keeps false r s keeps h = keeps h

itself : (port : List ℕ) → bytes_eq port port ≡ true
itself port = (bytes_eq-Decides port port).1 refl

-- the port of a link that is put in has one then
there_put : (port : List ℕ) (l : Link) (es : Links) → has port (put port l es) ≡ true
there_put port l [] = ap (λ (b : Bool). b || false) (itself port)
there_put port l (e ∷ es) = told (before e.0 port) (bytes_eq e.0 port) (there_put port l es)
  where
    told : (b c : Bool) → has port (put port l es) ≡ true → has port (if b then e ∷ put port l es else if c then (port, l) ∷ es else (port, l) ∷ e ∷ es) ≡ true
    told true c rest = ap (λ (b : Bool). bytes_eq e.0 port || b) rest ∙ or_true (bytes_eq e.0 port)
    told false true rest = ap (λ (b : Bool). b || has port es) (itself port)
    told false false rest = ap (λ (b : Bool). b || has port (e ∷ es)) (itself port)

-- and a port that has one keeps one
there_kept : (key port : List ℕ) (l : Link) (es : Links) → has key es ≡ true → has key (put port l es) ≡ true
there_kept key port l [] h = absurd (cc)
there_kept key port l (e ∷ es) h = told (before e.0 port) (bytes_eq e.0 port) refl (there_kept key port l es)
  where
    told : (b c : Bool) → bytes_eq e.0 port ≡ c → (has key es ≡ true → has key (put port l es) ≡ true)
        → has key (if b then e ∷ put port l es else if c then (port, l) ∷ es else (port, l) ∷ e ∷ es) ≡ true
    told true c is rest = or_keeps (bytes_eq e.0 key) (has key es) (has key (put port l es)) rest h
    told false true is rest = ap (λ (n : List ℕ). bytes_eq n key || has key es) (sym (same_name e.0 port is)) ∙ h
    told false false is rest = ap (λ (b : Bool). bytes_eq port key || b) h ∙ or_true (bytes_eq port key)

-- what holds of each port holds of one that has a link
named : (P : List ℕ → Type 0) (port : List ℕ) (es : Links) → has port es ≡ true → AllByRecursion P (keys_of es) → P port
named P port [] h all = absurd (cc)
named P port (e ∷ es) h all = told (bytes_eq e.0 port) refl h (λ g. named P port es g all.1)
  where
    told : (b : Bool) → bytes_eq e.0 port ≡ b → (b || has port es) ≡ true → (has port es ≡ true → P port) → P port
    told true same _ _ = subst P (same_name e.0 port same) all.0
    told false _ g rest = rest g

each_put : (P : List ℕ × Link → Type 0) (port : List ℕ) (l : Link) (es : Links) → AllByRecursion P es → P (port, l) → AllByRecursion P (put port l es)
each_put P port l [] all p = (p, tt)
each_put P port l (e ∷ es) all p = told (before e.0 port) (bytes_eq e.0 port) (each_put P port l es all.1 p)
  where
    told : (b c : Bool) → AllByRecursion P (put port l es) → AllByRecursion P (if b then e ∷ put port l es else if c then (port, l) ∷ es else (port, l) ∷ e ∷ es)
    told true c rest = (all.0, rest)
    told false true rest = (p, all.1)
    told false false rest = (p, all)

nothing_ascends : Ascends {T = Link} []
unfolding IsStrictlySortedBy
nothing_ascends = tt

-- the bytes of inputs are those of the entries, and so is their count
record Stands (nodes : List NodeKind) (es : Links) (entries : List (List ℕ × Value)) : Type 0 where
  count : length es ≡ length entries
  bytes : flat_map (λ (e : List ℕ × Link). link_bytes nodes e.1) es ≡ flat_map pair_of entries

module _ (nodes : List NodeKind) (links : List Link) (correct : IsLinkCorrect nodes links) (pid : ℕ) where
  abbrev all : List (List ℕ × Value)
  all = plain_inputs nodes pid links

  -- the link is an input of the process, and stands at its port
  abbrev IsInput : List ℕ × Link → Type 0
  IsInput e = (e.1.label ≡ e.0) × (is_given nodes pid e.1 ≡ true) × Contains links e.1

  inputs_ascend : (ls : List Link) → Ascends (input_links nodes pid ls)
  inputs_ascend [] = nothing_ascends
  inputs_ascend (l ∷ ls) = told (is_given nodes pid l) (inputs_ascend ls)
    where
      told : (b : Bool) → Ascends (input_links nodes pid ls) → Ascends (if b then put l.label l (input_links nodes pid ls) else input_links nodes pid ls)
      told true rest = ascends_put l.label l (input_links nodes pid ls) rest
      told false rest = rest

  each_is : (ls : List Link) → ((m : Link) → Contains ls m → Contains links m) → AllByRecursion IsInput (input_links nodes pid ls)
  each_is [] inside = tt
  each_is (l ∷ ls) inside =
      told (is_given nodes pid l) refl (each_is ls (λ m c. let lt = c.1 in inside m (suc c.0, omega arith, c.2)))
    where
      told : (b : Bool) → is_given nodes pid l ≡ b → AllByRecursion IsInput (input_links nodes pid ls)
          → AllByRecursion IsInput (if b then put l.label l (input_links nodes pid ls) else input_links nodes pid ls)
      told true is rest = each_put IsInput l.label l (input_links nodes pid ls) rest (refl, is, inside l (0, omega arith, refl))
      told false isnt rest = rest

  -- where the link is an input, its port has a link
  abbrev IsThere : Links → Link → Type 0
  IsThere es m = is_given nodes pid m ≡ true → has m.label es ≡ true

  each_there : (ls : List Link) → All (IsThere (input_links nodes pid ls)) ls
  each_there [] = All-nil (IsThere [])
  each_there (l ∷ ls) =
      All-cons (IsThere (input_links nodes pid (l ∷ ls))) l ls here
      (All-weaker (IsThere (input_links nodes pid ls)) (IsThere (input_links nodes pid (l ∷ ls))) (λ m h given. told m (is_given nodes pid l) (h given)) ls (each_there ls))
    where
      here : is_given nodes pid l ≡ true → has l.label (input_links nodes pid (l ∷ ls)) ≡ true
      here given =
          ap (λ (b : Bool). has l.label (if b then put l.label l (input_links nodes pid ls) else input_links nodes pid ls)) given
          ∙ there_put l.label l (input_links nodes pid ls)

      told : (m : Link) (b : Bool) → has m.label (input_links nodes pid ls) ≡ true
          → has m.label (if b then put l.label l (input_links nodes pid ls) else input_links nodes pid ls) ≡ true
      told m true h = there_kept m.label l.label l (input_links nodes pid ls) h
      told m false h = h

  -- ---- in order

  -- each input behind the last one has its port there
  abbrev HasRest : Option Link → Links → Type 0
  HasRest last es = (m : Link) → Contains links m → is_given nodes pid m ≡ true → is_behind last m.label ≡ true → has m.label es ≡ true

  -- no port that has a link is below that of the first one
  not_below : (e : List ℕ × Link) (es : Links) (port : List ℕ) → e.1.label ≡ e.0 → AllByRecursion (λ k. slice_cmp nat_cmp e.0 k ≡ Less) (keys_of es) → has port (e ∷ es) ≡ true
      → before port e.1.label ≡ false
  not_below e es port label up h = ap (before port) label ∙ told (bytes_eq e.0 port) refl h
    where
      told : (b : Bool) → bytes_eq e.0 port ≡ b → (b || has port es) ≡ true → before port e.0 ≡ false
      told true same _ = ap (λ (n : List ℕ). before n e.0) (sym (same_name e.0 port same)) ∙ names_in_order.not_itself e.0
      told false _ g = names_in_order.one_way e.0 port (less_is_before e.0 port (named (λ k. slice_cmp nat_cmp e.0 k ≡ Less) port es g up))

  -- the others are there behind the first one
  rest_there : (last : Option Link) (e : List ℕ × Link) (es : Links) → e.1.label ≡ e.0 → is_behind last e.1.label ≡ true → HasRest last (e ∷ es) → HasRest (Some e.1) es
  rest_there last e es label behind others m there given later =
      told (bytes_eq e.0 m.label) refl (others m there given (further last behind))
    where
      further : (o : Option Link) → is_behind o e.1.label ≡ true → is_behind o m.label ≡ true
      further None _ = refl
      further (Some x) h = names_in_order.along x.label e.1.label m.label h later

      told : (b : Bool) → bytes_eq e.0 m.label ≡ b → (b || has m.label es) ≡ true → has m.label es ≡ true
      told true same _ =
          absurd
          (let isnt : before e.1.label m.label ≡ false = ap (before e.1.label) (sym (same_name e.0 m.label same) ∙ sym label) ∙ names_in_order.not_itself e.1.label in cc (isnt, later))
      told false _ g = g

  nothing_more : (last : Option Link) → HasRest last [] → Stands nodes [] (entries_behind last all)
  nothing_more last others =
      let none : entries_behind last all ≡ [] = none_left nodes links correct pid last (λ m there given. told m there given (is_behind last m.label) refl) in
      record { count = sym (ap length none); bytes = sym (ap (flat_map pair_of) none) }
    where
      told : (m : Link) → Contains links m → is_given nodes pid m ≡ true → (b : Bool) → is_behind last m.label ≡ b → is_behind last m.label ≡ false
      told m there given true is = absurd (let h : has m.label [] ≡ true = others m there given is in cc)
      told m there given false is = is

  in_order : (last : Option Link) (es : Links) → Ascends es → AllByRecursion IsInput es → AllByRecursion (λ k. is_behind last k ≡ true) (keys_of es) → HasRest last es
      → Stands nodes es (entries_behind last all)
  unfolding IsStrictlySortedBy
  in_order last [] up each behind others = nothing_more last others
  in_order last (e ∷ es) up each behind others =
      let label : e.1.label ≡ e.0 = each.0.0 in
      let here : is_behind last e.1.label ≡ true = ap (is_behind last) label ∙ behind.0 in
      let first
      = input_first nodes links correct pid last e.1 each.0.2 each.0.1 here
      (λ m there given later. not_below e es m.label label up.0 (others m there given later)) in
      let rest : Stands nodes es (entries_behind (Some e.1) all)
      = in_order (Some e.1) es up.1 each.1
      (weaker (λ k. slice_cmp nat_cmp e.0 k ≡ Less) (λ k. is_behind (Some e.1) k ≡ true)
      (λ k less. ap (λ (n : List ℕ). before n k) label ∙ less_is_before e.0 k less) (keys_of es) up.0)
      (rest_there last e es label here others) in
      let tail = flat_map (λ (x : List ℕ × Link). link_bytes nodes x.1) es in
      record {
        count = ap suc rest.count ∙ sym (ap length first.2);
        bytes = ap (λ (o : Option Value). entry_by e.1.label o ++ tail) first.1
            ∙ ap (λ (l : List ℕ). pair_of (e.1.label, first.0) ++ l) rest.bytes
            ∙ sym (ap (flat_map pair_of) first.2);
      }

  always_behind : (ks : List (List ℕ)) → AllByRecursion (λ k. is_behind None k ≡ true) ks
  always_behind [] = tt
  always_behind (k ∷ ks) = (refl, always_behind ks)

  all_stand : Stands nodes (input_links nodes pid links) all
  all_stand =
      subst (Stands nodes (input_links nodes pid links)) (all_left all)
      (in_order None (input_links nodes pid links) (inputs_ascend links) (each_is links (λ m there. there)) (always_behind (keys_of (input_links nodes pid links)))
      (λ m there given later. All-contains (IsThere (input_links nodes pid links)) links m (each_there links) there given))

  bytes_by_port : (es : List (Key × Bor Link)) → flat_map (link_bytes nodes) (map (λ (r : Bor Link). r.now) (values_of es)) ≡ flat_map (λ (e : List ℕ × Link). link_bytes nodes e.1) (map shown es)
  bytes_by_port [] = refl
  bytes_by_port (e ∷ es) = ap (λ (l : List ℕ). link_bytes nodes e.1.now ++ l) (bytes_by_port es)

  -- the links of a map that has the inputs are as many as these, and have their bytes
  pub links_counted : (m : LinkMap) → by_port m ≡ input_links nodes pid links → length m.entries ≡ length all
  links_counted m is = sym (length-map m.entries shown) ∙ ap length is ∙ all_stand.count

  pub links_spelled : (m : LinkMap) → by_port m ≡ input_links nodes pid links → flat_map (link_bytes nodes) (links_in m) ≡ flat_map pair_of all
  links_spelled m is = bytes_by_port m.entries ∙ ap (flat_map (λ (e : List ℕ × Link). link_bytes nodes e.1)) is ∙ all_stand.bytes
