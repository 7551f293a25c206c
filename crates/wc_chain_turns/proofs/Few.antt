-- A process of a consistent world has called at most as many processes as there are nodes.
use Rattle.std.proofs.Common.{◌≡◌, ℕ, suc, ◌<◌, ◌≤◌, Bool, true, false, List, [], ◌∷◌, get_or, length, map, refl, sym, ap, subst, ◌∙◌, arith}
use Rattle.std.specs.Prelude.{All, ◌==◌, ◌||◌, if◌then◌else◌, filter}
use Rattle.std.specs.List.{list_any}
use Rattle.std.proofs.lemmas.Bool.{eqb-true}
use Rattle.std.proofs.lemmas.List.{length-map}
use Rattle.std.proofs.lemmas.List.Elements.{All-head, All-tail}
use Rattle.std.proofs.lemmas.Map.Steps.{length-le_from_distinct_below}
use Rattle.wc_graph.specs.declared.link.Link.{Link}
use Rattle.wc_graph.specs.declared.node.NodeKind.{NodeKind}
use Rattle.wc_graph.specs.Rules.{HasRightEnds}
use Rattle.wc_world.specs.Consistent.{IsConsistent}
use Rattle.wc_world.specs.Fits.{calls_from}
use Rattle.wc_world.specs.Records.{is_call_from}
use Rattle.wc_world.specs.World.{World}
use Rattle.wc_machine.proofs.Frames.{node_number, target_is_node}
use Rattle.wc_changes.proofs.CalledLabels.{OneCaller, targets, distinct}

module _ (pid : ℕ) where
  below : (n : ℕ) (ls : List Link) → All (λ l. l.target ≤ n) ls → (q : ℕ) → list_any (λ y. q == y) (targets pid ls) ≡ true → q < suc n
  below n [] h q e = absurd (cc)
  below n (m ∷ ms) h q e = at (is_call_from pid m) (q == m.target) refl (below n ms (All-tail (λ l. l.target ≤ n) m ms h) q) e
    where
      at : (b c : Bool) → (q == m.target) ≡ c → (list_any (λ y. q == y) (targets pid ms) ≡ true → q < suc n)
          → list_any (λ y. q == y) (map (λ x. x.target) (if b then m ∷ filter (is_call_from pid) ms else filter (is_call_from pid) ms)) ≡ true → q < suc n
      at true true t rest e =
          let le : m.target ≤ n = All-head (λ l. l.target ≤ n) m ms h in let same : q ≡ m.target = eqb-true q m.target t in omega arith
      at true false t rest e = rest (sym (ap (λ (x : Bool). x || list_any (λ y. q == y) (targets pid ms)) t) ∙ e)
      at false c t rest e = rest e

  few : (nodes : List NodeKind) (ls : List Link) → All (HasRightEnds nodes) ls → OneCaller ls → length (filter (is_call_from pid) ls) ≤ suc (length nodes)
  few nodes ls ends one =
      let low : All (λ l. l.target ≤ length nodes) ls = λ i d lt. node_number nodes (get_or ls i d).target (target_is_node nodes (get_or ls i d) (ends i d lt)) in
      let le : length (targets pid ls) ≤ suc (length nodes) = length-le_from_distinct_below (targets pid ls) (suc (length nodes)) (distinct pid ls one) (below (length nodes) ls low) in
      subst (λ (n : ℕ). n ≤ suc (length nodes)) (length-map (filter (is_call_from pid) ls) (λ l. l.target)) le

  counted : (ls : List Link) → length (filter (is_call_from pid) ls) ≡ calls_from pid ls
  counted [] = refl
  counted (l ∷ ls) = at (is_call_from pid l) (counted ls)
    where
      at : (b : Bool) → length (filter (is_call_from pid) ls) ≡ calls_from pid ls
          → length (if b then l ∷ filter (is_call_from pid) ls else filter (is_call_from pid) ls) ≡ (if b then suc (calls_from pid ls) else calls_from pid ls)
      at true h = ap suc h
      at false h = h

  pub few_calls : (w : World) → IsConsistent w → calls_from pid w.links ≤ 8000001
  few_calls w c =
      let le : length (filter (is_call_from pid) w.links) ≤ suc (length w.nodes) = few w.nodes w.links c.links.ends (λ i j a b ne p q. (c.links.apart i j a b ne p q).callers) in
      let few_nodes : length w.nodes ≤ 8000000 = c.few in
      let same : length (filter (is_call_from pid) w.links) ≡ calls_from pid w.links = counted w.links in
      omega arith
