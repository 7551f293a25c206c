-- What a search finds, as walks along the table.
use Rattle.std.proofs.Common.{◌≡◌, ℕ, zero, suc, ◌<◌, ◌≤◌, List, [], ◌∷◌, length, get_or, replicate, ⊎_elim, ◌↔◌, sym, ap, ◌∙◌, subst, arith}
use Rattle.std.proofs.lemmas.Bool.{cases_eq, cases_lt}
use Rattle.std.proofs.lemmas.List.{get_or-replicate, get_or_past, length-replicate}
use Rattle.wc_graph.specs.Walks.{Walks, Reaches}
use Rattle.wc_graph.specs.declared.flood.Found.{Found}
use Rattle.wc_graph.specs.Near.{Near}
use Rattle.wc_graph.specs.Flood.{Floods, CanFlood, node_at, by_at}
use Rattle.wc_graph.proofs.JoinedWalks.{reaches_step, reaches_then}

module _ (table : List (List ℕ)) (start fresh : ℕ) (before after : List ℕ) (trail : List Found)
    (floods : Floods table start fresh before after trail (length trail)) where
  reaches_below : (n k : ℕ) → k < n → 0 < k → k < length trail → Reaches (Near table) start (node_at trail k)
  reaches_below zero k lt pos k_in = absurd (omega arith)
  reaches_below (suc n) k lt pos k_in =
      let h = floods.linked k pos k_in in
      let low : by_at trail k < k = h.0 in
      ⊎_elim
      (λ e.
      let from : node_at trail (by_at trail k) ≡ start = ap (node_at trail) e ∙ floods.begins.1 in
      reaches_step (Near table) start (node_at trail k) (subst (λ (m : ℕ). Near table m (node_at trail k)) from h.1))
      (λ ne. reaches_then (Near table) start (node_at trail (by_at trail k)) (node_at trail k) (reaches_below n (by_at trail k) (omega arith) (omega arith) (omega arith)) h.1)
      (cases_eq (by_at trail k) 0)

  -- a walk leads to each node found
  pub found_reaches : (node : ℕ) → get_or after node 0 ≡ fresh → Reaches (Near table) start node
  found_reaches node p =
      let f = floods.found node p in
      subst (Reaches (Near table) start) f.3 (reaches_below (suc f.0) f.0 (omega arith) f.1 f.2)

  abbrev pub InTrail : ℕ → Type 0
  InTrail node = (k : ℕ) × (k < length trail) × (node_at trail k ≡ node)

  pub start_in : InTrail start
  start_in = (0, floods.begins.0, floods.begins.1)

  pub found_in : (node : ℕ) → get_or after node 0 ≡ fresh → InTrail node
  found_in node p = let f = floods.found node p in (f.0, f.2, f.3)

  -- a neighbour with the colour of the start is found
  pub next_found : (node next : ℕ) → InTrail node → Near table node next → get_or before next 0 ≡ get_or before start 0 → get_or after next 0 ≡ fresh
  next_found node next i p = floods.spread i.0 i.1 next (subst (λ (m : ℕ). Near table m next) (sym i.2) p)

  walk_found : ((node : ℕ) → get_or before node 0 ≡ get_or before start 0) → (node to : ℕ) (through : List ℕ)
      → InTrail node → Walks (Near table) node through to → get_or after to 0 ≡ fresh
  walk_found same node to [] i w = next_found node to i w (same to)
  walk_found same node to (next ∷ through) i w =
      walk_found same next to through (found_in next (next_found node next i w.0 (same next))) w.1

  -- where all have one colour, each node that a walk leads to is found
  pub reached_found : ((node : ℕ) → get_or before node 0 ≡ get_or before start 0) → (node : ℕ) → Reaches (Near table) start node → get_or after node 0 ≡ fresh
  reached_found same node r = walk_found same start node r.0 start_in r.1

abbrev pub zeros : ℕ → List ℕ
zeros n = replicate n 0

pub get_or_zeros : (n k : ℕ) → get_or (zeros n) k 0 ≡ 0
get_or_zeros n k =
    ⊎_elim (λ lt. get_or-replicate {A = ℕ} n k 0 0 lt)
    (λ ge. get_or_past (zeros n) k 0 (subst (λ (m : ℕ). m ≤ k) (sym (length-replicate {A = ℕ} n 0)) ge)) (cases_lt k n)

-- what an exploration from a node finds
pub explored : (table : List (List ℕ)) (start n : ℕ) (after : List ℕ) (trail : List Found)
    → Floods table start 1 (zeros n) after trail (length trail) → (node : ℕ) → (get_or after node 0 ≡ 1) ↔ Reaches (Near table) start node
explored table start n after trail floods node = (
  found_reaches table start 1 (zeros n) after trail floods node,
  reached_found table start 1 (zeros n) after trail floods (λ k. get_or_zeros n k ∙ sym (get_or_zeros n start)) node,
)

pub can_explore : (table : List (List ℕ)) (start : ℕ) (colours : List ℕ) → start < length table
    → ((from to : ℕ) → Near table from to → to < length table) → colours ≡ zeros (length table) → CanFlood table start 1 colours
can_explore table start colours lt inside is =
    let size : length colours ≡ length table = ap length is ∙ length-replicate {A = ℕ} (length table) 0 in
    record {
      start_in = omega arith;
      sizes = sym size;
      inside = λ from to n. let h : to < length table = inside from to n in omega arith;
      is_fresh = λ node p. let z : get_or colours node 0 ≡ 0 = ap (λ l. get_or l node 0) is ∙ get_or_zeros (length table) node in absurd (omega arith);
    }
