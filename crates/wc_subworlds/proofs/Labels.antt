-- The calls of a process are numbered, so each label leads to its call.
use Rattle.std.proofs.Common.{◌≡◌, ℕ, suc, ◌+◌, ◌<◌, ◌≤◌, ◌^◌, Bool, true, false, List, [], ◌∷◌, get_or, length, map, Some, refl, sym, ap, subst, ◌∙◌, arith}
use Rattle.std.specs.Prelude.{All, ◌≢◌, ◌==◌, ◌&&◌, ◌||◌, if◌then◌else◌, filter, slice_get}
use Rattle.std.specs.List.{AllByRecursion, IsDistinct, list_any}
use Rattle.std.specs.Str.{bytes_eq}
use Rattle.std.proofs.lemmas.Bool.{eqb-true, ne_eqb}
use Rattle.std.proofs.lemmas.List.{length-map}
use Rattle.std.proofs.lemmas.List.Elements.{All-nil, All-cons, All-head, All-tail}
use Rattle.std.proofs.lemmas.Map.Steps.{length-le_from_distinct_below}
use Rattle.std.proofs.lemmas.Slice.Eq.{bytes_eq-Decides}
use Rattle.wc_graph.specs.declared.link.Link.{Link}
use Rattle.wc_graph.specs.declared.node.NodeKind.{NodeKind}
use Rattle.wc_graph.specs.Rules.{HasRightEnds, IsCall, SharesCalled}
use Rattle.wc_graph.specs.declared.link.LinkType.{LinkType}
use Rattle.wc_graph.specs.declared.link.LinkType.TheVariants as link
use Rattle.wc_semantics.specs.Run.{label}
use Rattle.wc_semantics.specs.Tables.{Label}
use Rattle.wc_semantics.proofs.Labels.{labels_differ}
use Rattle.wc_world.specs.World.{World}
use Rattle.wc_world.specs.Consistent.{IsConsistent}
use Rattle.wc_world.specs.Records.{calls, is_call_from}
use Rattle.wc_world.proofs.FoundRecords.{left}
use Rattle.wc_machine.specs.Paths.{call_links, called_under}
use Rattle.wc_machine.specs.Sound.{AreNumbered}
use Rattle.wc_machine.proofs.Frames.{and_false, node_number, target_is_node}

-- ---- a process has at most as many calls as there are nodes

-- no two links at different places call the same process
abbrev OneCaller : List Link → Type 0
OneCaller ls = (i j : ℕ) (a b : Link) → i ≢ j → slice_get ls i ≡ Some a → slice_get ls j ≡ Some b → ¬ SharesCalled a b

call_is : (t : LinkType) → calls t ≡ true → IsCall t
call_is link.InputCalc h = absurd (cc)
call_is link.InputWork h = absurd (cc)
call_is link.Create h = absurd (cc)
call_is link.Return h = absurd (cc)
call_is link.CallCalc h = tt
call_is link.CallWork h = tt

module _ (pid : ℕ) where
  abbrev targets : List Link → List ℕ
  targets ls = map (λ l. l.target) (filter (is_call_from pid) ls)

  is_call : (l : Link) → is_call_from pid l ≡ true → IsCall l.link
  is_call l h = call_is l.link (left (calls l.link) (l.source == pid) h)

  none_later : (l : Link) → IsCall l.link → (ls : List Link) → ((j : ℕ) (b : Link) → slice_get ls j ≡ Some b → ¬ SharesCalled l b)
      → AllByRecursion (λ y. (l.target == y) ≡ false) (targets ls)
  none_later l c [] h = tt
  none_later l c (m ∷ ms) h = at (is_call_from pid m) refl (none_later l c ms (λ j b. h (suc j) b))
    where
      at : (b : Bool) → is_call_from pid m ≡ b → AllByRecursion (λ y. (l.target == y) ≡ false) (targets ms)
          → AllByRecursion (λ y. (l.target == y) ≡ false) (map (λ x. x.target) (if b then m ∷ filter (is_call_from pid) ms else filter (is_call_from pid) ms))
      at true t rest = (ne_eqb l.target m.target (λ e. h 0 m refl (c, is_call m t, e)), rest)
      at false t rest = rest

  distinct : (ls : List Link) → OneCaller ls → IsDistinct (λ a b. a == b) (targets ls)
  unfolding IsDistinct
  distinct [] h = tt
  distinct (m ∷ ms) h = at (is_call_from pid m) refl (distinct ms (λ i j a b ne. h (suc i) (suc j) a b (λ e. ne (omega (arith, e)))))
    where
      at : (b : Bool) → is_call_from pid m ≡ b → IsDistinct (λ a b. a == b) (targets ms)
          → IsDistinct (λ a b. a == b) (map (λ x. x.target) (if b then m ∷ filter (is_call_from pid) ms else filter (is_call_from pid) ms))
      at true t rest = (none_later m (is_call m t) ms (λ j b. h 0 (suc j) m b (λ e. absurd (omega (arith, e))) refl), rest)
      at false t rest = rest

  below : (n : ℕ) (ls : List Link) → All (λ l. l.target ≤ n) ls → (q : ℕ) → list_any (λ y. q == y) (targets ls) ≡ true → q < suc n
  below n [] h q e = absurd (cc)
  below n (m ∷ ms) h q e = at (is_call_from pid m) (q == m.target) refl (below n ms (All-tail (λ l. l.target ≤ n) m ms h) q) e
    where
      at : (b c : Bool) → (q == m.target) ≡ c → (list_any (λ y. q == y) (targets ms) ≡ true → q < suc n)
          → list_any (λ y. q == y) (map (λ x. x.target) (if b then m ∷ filter (is_call_from pid) ms else filter (is_call_from pid) ms)) ≡ true → q < suc n
      at true true t rest e =
          let le : m.target ≤ n = All-head (λ l. l.target ≤ n) m ms h in let same : q ≡ m.target = eqb-true q m.target t in omega arith
      at true false t rest e = rest (sym (ap (λ (x : Bool). x || list_any (λ y. q == y) (targets ms)) t) ∙ e)
      at false c t rest e = rest e

  few : (nodes : List NodeKind) (ls : List Link) → All (HasRightEnds nodes) ls → OneCaller ls → length (filter (is_call_from pid) ls) ≤ suc (length nodes)
  few nodes ls ends one =
      let low : All (λ l. l.target ≤ length nodes) ls = λ i d lt. node_number nodes (get_or ls i d).target (target_is_node nodes (get_or ls i d) (ends i d lt)) in
      let le : length (targets ls) ≤ suc (length nodes) = length-le_from_distinct_below (targets ls) (suc (length nodes)) (distinct ls one) (below (length nodes) ls low) in
      subst (λ (n : ℕ). n ≤ suc (length nodes)) (length-map (filter (is_call_from pid) ls) (λ l. l.target)) le

  -- labels of different numbers differ
  label_differs : (n k : ℕ) (t u : Label) (key other : List ℕ) → t ≡ label key n → u ≡ label other k → n < k → k < 2 ^ 64 → (b : Bool) → bytes_eq t u ≡ b → b ≡ false
  label_differs n k t u key other is at lt few true q =
      let same : t ≡ u = (bytes_eq-Decides t u).0 q in
      let one : n ≡ k = labels_differ key other n k (omega arith) few (sym is ∙ same ∙ at) in
      absurd (omega arith)
  label_differs n k t u key other is at lt few false q = refl

  -- a label of a lower number isn't one of these calls
  later_differ : (n : ℕ) (t : Label) (key : List ℕ) → t ≡ label key n → (k : ℕ) → n < k → (ls : List Link) → AreNumbered k (filter (is_call_from pid) ls)
      → k + length (filter (is_call_from pid) ls) < 2 ^ 64 → All (λ l. is_call_from pid l ≡ true → bytes_eq t l.label ≡ false) ls
  later_differ n t key is k lt [] numbered few = All-nil (λ l. is_call_from pid l ≡ true → bytes_eq t l.label ≡ false)
  later_differ n t key is k lt (m ∷ ms) numbered few =
      at (is_call_from pid m) refl (λ j low. later_differ n t key is j low ms) numbered few
    where
      at : (b : Bool) → is_call_from pid m ≡ b
          → ((j : ℕ) → n < j → AreNumbered j (filter (is_call_from pid) ms) → j + length (filter (is_call_from pid) ms) < 2 ^ 64
          → All (λ l. is_call_from pid l ≡ true → bytes_eq t l.label ≡ false) ms)
          → AreNumbered k (if b then m ∷ filter (is_call_from pid) ms else filter (is_call_from pid) ms)
          → k + length (if b then m ∷ filter (is_call_from pid) ms else filter (is_call_from pid) ms) < 2 ^ 64
          → All (λ l. is_call_from pid l ≡ true → bytes_eq t l.label ≡ false) (m ∷ ms)
      at true p rest numbered few =
          let low : k + suc (length (filter (is_call_from pid) ms)) < 2 ^ 64 = few in
          All-cons (λ l. is_call_from pid l ≡ true → bytes_eq t l.label ≡ false) m ms
          (λ e. label_differs n k t m.label key numbered.0.0 is numbered.0.1 lt (omega (arith, low)) (bytes_eq t m.label) refl)
          (rest (suc k) (omega arith) numbered.1 (omega (arith, low)))
      at false p rest numbered few =
          All-cons (λ l. is_call_from pid l ≡ true → bytes_eq t l.label ≡ false) m ms (λ e. absurd (cc (e, p))) (rest k lt numbered few)

  -- each label leads to its call
  leads : (n : ℕ) (ls : List Link) → AreNumbered n (filter (is_call_from pid) ls) → n + length (filter (is_call_from pid) ls) < 2 ^ 64
      → All (λ l. is_call_from pid l ≡ true → called_under ls pid l.label ≡ Some l.target) ls
  leads n [] numbered few = All-nil (λ l. is_call_from pid l ≡ true → called_under [] pid l.label ≡ Some l.target)
  leads n (m ∷ ms) numbered few = at (is_call_from pid m) refl (λ k. leads k ms) numbered few
    where
      at : (b : Bool) → is_call_from pid m ≡ b
          → ((k : ℕ) → AreNumbered k (filter (is_call_from pid) ms) → k + length (filter (is_call_from pid) ms) < 2 ^ 64
          → All (λ l. is_call_from pid l ≡ true → called_under ms pid l.label ≡ Some l.target) ms)
          → AreNumbered n (if b then m ∷ filter (is_call_from pid) ms else filter (is_call_from pid) ms)
          → n + length (if b then m ∷ filter (is_call_from pid) ms else filter (is_call_from pid) ms) < 2 ^ 64
          → All (λ l. is_call_from pid l ≡ true → called_under (m ∷ ms) pid l.label ≡ Some l.target) (m ∷ ms)
      at true p rest numbered few =
          let low : n + suc (length (filter (is_call_from pid) ms)) < 2 ^ 64 = few in
          let differ = later_differ n m.label numbered.0.0 numbered.0.1 (suc n) (omega arith) ms numbered.1 (omega (arith, low)) in
          let later = rest (suc n) numbered.1 (omega (arith, low)) in
          All-cons (λ l. is_call_from pid l ≡ true → called_under (m ∷ ms) pid l.label ≡ Some l.target) m ms
          (λ e j. if e j && (bytes_eq-Decides m.label m.label).1 refl j then Some m.target else called_under ms pid m.label)
          (λ i d lt e.
          let l : Link = get_or ms i d in
          ap (λ (c : Bool). if c then Some m.target else called_under ms pid l.label) (and_false (is_call_from pid m) (bytes_eq m.label l.label) (differ i d lt e)) ∙ later i d lt e)
      at false p rest numbered few =
          let later = rest n numbered few in
          All-cons (λ l. is_call_from pid l ≡ true → called_under (m ∷ ms) pid l.label ≡ Some l.target) m ms (λ e. absurd (cc (e, p)))
          (λ i d lt e.
          let l : Link = get_or ms i d in
          ap (λ (c : Bool). if c && bytes_eq m.label l.label then Some m.target else called_under ms pid l.label) p ∙ later i d lt e)

-- in a consistent world whose calls are numbered
pub labels_lead : (w : World) → IsConsistent w → (pid : ℕ) → AreNumbered 1 (call_links w pid)
    → All (λ l. is_call_from pid l ≡ true → called_under w.links pid l.label ≡ Some l.target) w.links
labels_lead w c pid numbered =
    let most : length (filter (is_call_from pid) w.links) ≤ suc (length w.nodes)
    = few pid w.nodes w.links c.links.ends (λ i j a b ne p q. (c.links.apart i j a b ne p q).callers) in
    let nodes : length w.nodes ≤ 8000000 = c.few in
    leads pid 1 w.links numbered (omega (arith, most, nodes))
