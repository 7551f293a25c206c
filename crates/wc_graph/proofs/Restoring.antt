-- What a search found lies inside, and its colours can be given back.
use Rattle.std.proofs.Common.{◌≡◌, ◌≢◌, ℕ, ◌+◌, ◌<◌, ◌≤◌, List, [], length, set, get_or, All, Contains, inl, inr, ⊎_elim, sym, ap, ◌∙◌, subst, arith}
use Rattle.std.proofs.lemmas.Bool.{cases_eq}
use Rattle.std.proofs.lemmas.Grind.{same_number_lists}
use Rattle.std.proofs.lemmas.List.{get_or-set_same, get_or-set_other, get_or_default}
use Rattle.wc_graph.specs.declared.flood.Found.{Found}
use Rattle.wc_graph.specs.Flood.{Floods, CanFlood, IsEither, node_at}

pub entry_is : (trail : List Found) (k : ℕ) (d : Found) → k < length trail → (get_or trail k d).node ≡ node_at trail k
entry_is trail k d h = ap (λ (f : Found). f.node) (get_or_default trail k d (record { node = 0; by = 0 }) h)

-- an entry that was read
pub read_entry : (trail : List Found) (at len : ℕ) (f : Found) → at < len → len ≡ length trail → f ≡ get_or trail at f
    → (at < length trail) × (f.node ≡ node_at trail at)
read_entry trail at len f lt e is =
    let at_in : at < length trail = omega arith in (at_in, ap (λ (g : Found). g.node) is ∙ entry_is trail at f at_in)

-- a list of neighbours that was read
pub read_list : (table : List (List ℕ)) (node : ℕ) (next list : List ℕ) → next ≡ list → list ≡ get_or table node list → node < length table
    → next ≡ get_or table node []
read_list table node next list p q h = p ∙ q ∙ get_or_default table node list [] h

module _ (table : List (List ℕ)) (start fresh : ℕ) (before now : List ℕ) (trail : List Found) (done : ℕ)
    (can : CanFlood table start fresh before) (floods : Floods table start fresh before now trail done) where
  pub entry_inside : (k : ℕ) → k < length trail → node_at trail k < length before
  entry_inside k h =
      ⊎_elim
      (λ e. subst (λ (n : ℕ). n < length before) (sym (ap (node_at trail) e ∙ floods.begins.1)) can.start_in)
      (λ ne. can.inside _ (node_at trail k) (floods.linked k (omega arith) h).1)
      (cases_eq k 0)

  pub entry_old : (k : ℕ) → k < length trail → get_or before (node_at trail k) 0 ≡ get_or before start 0
  entry_old k h =
      ⊎_elim
      (λ e. ap (λ n. get_or before n 0) (ap (node_at trail) e ∙ floods.begins.1))
      (λ ne. (floods.coloured k (omega arith) h).0)
      (cases_eq k 0)

  pub entries_inside : (n : ℕ) → n ≡ length before → All (λ f. f.node < n) trail
  entries_inside n e k d h =
      subst (λ (m : ℕ). m < n) (sym (entry_is trail k d h)) (subst (λ (m : ℕ). node_at trail k < m) (sym e) (entry_inside k h))

  pub entries_old : (old : ℕ) → old ≡ get_or before start 0 → All (λ f. get_or before f.node 0 ≡ old) trail
  entries_old old e k d h = ap (λ n. get_or before n 0) (entry_is trail k d h) ∙ entry_old k h ∙ sym e

  pub either : (node : ℕ) → IsEither now before trail 0 node
  either node =
      ⊎_elim
      (λ p. let f = floods.found node p in inr (f.0, omega arith, f.2, f.3))
      (λ p. inl (floods.others node p))
      (cases_eq (get_or now node 0) fresh)

  -- the neighbours of an entry
  pub neighbours_inside : (n : ℕ) (next : List ℕ) (from : ℕ) → n ≡ length before → next ≡ get_or table from [] → All (λ m. m < n) next
  neighbours_inside n next from e is k d h =
      let c : Contains (get_or table from []) (get_or next k d) = subst (λ (l : List ℕ). Contains l (get_or next k d)) is (k, h, get_or_default next k (get_or next k d) d h) in
      subst (λ (m : ℕ). get_or next k d < m) (sym e) (can.inside from (get_or next k d) c)

-- ---- one entry restored
pub either_restored : (now before : List ℕ) (trail : List Found) (i at old : ℕ) → at ≡ node_at trail i → at < length now
    → get_or before at 0 ≡ old → (node : ℕ) → IsEither now before trail i node → IsEither (set now at old) before trail (i + 1) node
either_restored now before trail i at old at_is at_in at_old node h =
    ⊎_elim
    (λ same. inl (ap (λ n. get_or (set now at old) n 0) same ∙ get_or-set_same now at old 0 at_in ∙ sym at_old ∙ ap (λ n. get_or before n 0) (sym same)))
    (λ ne.
    ⊎_elim
    (λ p. inl (get_or-set_other now at node old 0 ne ∙ p))
    (λ p.
    let apart : p.0 ≢ i = λ e. ne (sym p.3 ∙ ap (node_at trail) e ∙ sym at_is) in
    let from : i ≤ p.0 = p.1 in
    inr (p.0, omega arith, p.2, p.3))
    h)
    (cases_eq node at)

pub all_restored : (now before : List ℕ) (trail : List Found) (i : ℕ) → length now ≡ length before → length trail ≤ i
    → ((node : ℕ) → IsEither now before trail i node) → now ≡ before
all_restored now before trail i size all h =
    same_number_lists now before size (λ k lt.
    ⊎_elim (λ p. p) (λ p. let from : i ≤ p.0 = p.1 in let to : p.0 < length trail = p.2 in absurd (omega arith)) (h k))
