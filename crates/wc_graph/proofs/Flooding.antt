-- How a search spreads, and what it has found in the end.
use Rattle.std.proofs.Common.{◌≡◌, ◌≢◌, ℕ, ◌+◌, ◌<◌, ◌≤◌, ◌==◌, cond, eq-eqb, ne_eqb, List, [], ◌∷◌, ◌++◌, length, set, get_or, Contains, ⊎_elim, refl, sym, ap, ◌∙◌, subst, arith}
use Rattle.std.proofs.lemmas.Bool.{cases_eq, cases_lt}
use Rattle.std.proofs.lemmas.List.Sums.{sum_by-set}
use Rattle.std.proofs.lemmas.List.{length-set, length_push, get_or-set_same, get_or-set_other, get_or_append_left, get_or_push, get_or_default}
use Rattle.wc_graph.specs.declared.flood.Found.{Found}
use Rattle.wc_graph.specs.Near.{Near}
use Rattle.wc_graph.specs.Flood.{Floods, CanFlood, IsAtWork, node_at, by_at, count_of}

-- ---- one more entry
node_at_old : (trail : List Found) (e : Found) (k : ℕ) → k < length trail → node_at (trail ++ e ∷ []) k ≡ node_at trail k
node_at_old trail e k h = ap (λ (f : Found). f.node) (get_or_append_left trail (e ∷ []) (record { node = 0; by = 0 }) k h)

by_at_old : (trail : List Found) (e : Found) (k : ℕ) → k < length trail → by_at (trail ++ e ∷ []) k ≡ by_at trail k
by_at_old trail e k h = ap (λ (f : Found). f.by) (get_or_append_left trail (e ∷ []) (record { node = 0; by = 0 }) k h)

at_new : (trail : List Found) (e : Found) (k : ℕ) → length trail ≡ k → get_or (trail ++ e ∷ []) k (record { node = 0; by = 0 }) ≡ e
at_new trail e k h = get_or_push trail e (record { node = 0; by = 0 }) k h

-- what has the fresh colour keeps it
fresh_stays : (now : List ℕ) (w node fresh : ℕ) → w < length now → get_or now node 0 ≡ fresh → get_or (set now w fresh) node 0 ≡ fresh
fresh_stays now w node fresh h p =
    ⊎_elim (λ e. subst (λ (z : ℕ). get_or (set now w fresh) z 0 ≡ fresh) (sym e) (get_or-set_same now w fresh 0 h))
    (λ ne. get_or-set_other now w node fresh 0 ne ∙ p) (cases_eq node w)

-- ---- a loop over the neighbours of the entry at `by`
pub record Spreading (table : List (List ℕ)) (start fresh : ℕ) (before now : List ℕ) (trail first : List Found) (by : ℕ) (next : List ℕ) (i : ℕ) : Type 0 where
  pub floods : Floods table start fresh before now trail by
  pub within : by < length trail
  pub same : node_at trail by ≡ node_at first by
  pub so_far : (j : ℕ) → j < i → get_or before (get_or next j 0) 0 ≡ get_or before start 0 → get_or now (get_or next j 0) 0 ≡ fresh

pub spreading_none : (table : List (List ℕ)) (start fresh : ℕ) (before now : List ℕ) (trail : List Found) (by : ℕ) (next : List ℕ) (old : ℕ)
    → IsAtWork table start fresh before now trail by next old → Spreading table start fresh before now trail trail by next 0
spreading_none table start fresh before now trail by next old h =
    record { floods = h.floods; within = h.within; same = refl; so_far = λ j lt. absurd (omega arith) }

abbrev none : Found
none = record { node = 0; by = 0 }

-- a neighbour with another colour than the start's is found, or need not be
pub spreading_past : (table : List (List ℕ)) (start fresh : ℕ) (before now : List ℕ) (trail first : List Found) (by : ℕ) (next : List ℕ) (i w old : ℕ)
    → Spreading table start fresh before now trail first by next i → w ≡ get_or next i 0 → old ≡ get_or before start 0
    → get_or now w 0 ≢ old → Spreading table start fresh before now trail first by next (i + 1)
spreading_past table start fresh before now trail first by next i w old s w_is old_is ne = record {
  floods = s.floods;
  within = s.within;
  same = s.same;
  so_far = λ j lt p.
      ⊎_elim
      (λ e.
      let q : get_or next j 0 ≡ w = ap (λ k. get_or next k 0) e ∙ sym w_is in
      ⊎_elim (λ f. f)
      (λ nf.
      let r : get_or now (get_or next j 0) 0 ≡ get_or before (get_or next j 0) 0 = s.floods.others (get_or next j 0) nf in
      absurd (ne (ap (λ n. get_or now n 0) (sym q) ∙ r ∙ p ∙ sym old_is)))
      (cases_eq (get_or now (get_or next j 0) 0) fresh))
      (λ ne'. s.so_far j (omega arith) p)
      (cases_eq j i);
}

module _ (table : List (List ℕ)) (start fresh : ℕ) (before : List ℕ) (can : CanFlood table start fresh before)
    (now : List ℕ) (trail first : List Found) (by : ℕ) (next : List ℕ) (i w old : ℕ)
    (next_is : next ≡ get_or table (node_at first by) []) (old_is : old ≡ get_or before start 0)
    (s : Spreading table start fresh before now trail first by next i) (i_in : i < length next)
    (w_is : w ≡ get_or next i 0) (has_old : get_or now w 0 ≡ old) where
  abbrev e : Found
  e = record { node = w; by = by }

  abbrev longer : List Found
  longer = trail ++ e ∷ []

  abbrev then : List ℕ
  then = set now w fresh

  near : Near table (node_at trail by) w
  near =
      let p : get_or next i w ≡ w = get_or_default next i w 0 i_in ∙ sym w_is in
      subst (λ (n : ℕ). Near table n w) (sym s.same) (subst (λ (l : List ℕ). Contains l w) next_is (i, i_in, p))

  w_in : w < length now
  w_in = let lt : w < length before = can.inside (node_at trail by) w near in let e : length now ≡ length before = s.floods.size in omega arith

  w_fresh : get_or then w 0 ≡ fresh
  w_fresh = get_or-set_same now w fresh 0 w_in

  w_before : get_or before w 0 ≡ get_or before start 0
  w_before = sym (s.floods.others w (λ p. can.is_fresh start (sym old_is ∙ sym has_old ∙ p))) ∙ has_old ∙ old_is

  grown : length longer ≡ length trail + 1
  grown = length_push trail e

  last : get_or longer (length trail) none ≡ e
  last = at_new trail e (length trail) refl

  linked : (k : ℕ) → 0 < k → k < length longer → (by_at longer k < k) × Near table (node_at longer (by_at longer k)) (node_at longer k)
  linked k pos lt =
      ⊎_elim
      (λ k_in.
      let h = s.floods.linked k pos k_in in
      let b : by_at longer k ≡ by_at trail k = by_at_old trail e k k_in in
      let b_in : by_at trail k < length trail = let low : by_at trail k < k = h.0 in omega arith in
      let from : node_at longer (by_at longer k) ≡ node_at trail (by_at trail k) = ap (node_at longer) b ∙ node_at_old trail e (by_at trail k) b_in in (
        subst (λ (n : ℕ). n < k) (sym b) h.0,
        subst (λ (n : ℕ). Near table n (node_at longer k)) (sym from) (subst (Near table (node_at trail (by_at trail k))) (sym (node_at_old trail e k k_in)) h.1),
      ))
      (λ k_out.
      let k_is : length trail ≡ k = let g : length longer ≡ length trail + 1 = grown in omega arith in
      let at : get_or longer k none ≡ e = at_new trail e k k_is in
      let b : by_at longer k ≡ by = ap (λ (f : Found). f.by) at in
      let from : node_at longer (by_at longer k) ≡ node_at trail by = ap (node_at longer) b ∙ node_at_old trail e by s.within in
      let low : by < k = let h : by < length trail = s.within in omega arith in (
        subst (λ (n : ℕ). n < k) (sym b) low,
        subst (λ (n : ℕ). Near table n (node_at longer k)) (sym from) (subst (Near table (node_at trail by)) (sym (ap (λ (f : Found). f.node) at)) near),
      ))
      (cases_lt k (length trail))

  coloured : (k : ℕ) → 0 < k → k < length longer
      → (get_or before (node_at longer k) 0 ≡ get_or before start 0) × (get_or then (node_at longer k) 0 ≡ fresh)
  coloured k pos lt =
      ⊎_elim
      (λ k_in.
      let h = s.floods.coloured k pos k_in in
      let n : node_at longer k ≡ node_at trail k = node_at_old trail e k k_in in
      (ap (λ m. get_or before m 0) n ∙ h.0, ap (λ m. get_or then m 0) n ∙ fresh_stays now w (node_at trail k) fresh w_in h.1))
      (λ k_out.
      let k_is : length trail ≡ k = let g : length longer ≡ length trail + 1 = grown in omega arith in
      let n : node_at longer k ≡ w = ap (λ (f : Found). f.node) (at_new trail e k k_is) in
      (ap (λ m. get_or before m 0) n ∙ w_before, ap (λ m. get_or then m 0) n ∙ w_fresh))
      (cases_lt k (length trail))

  found : (node : ℕ) → get_or then node 0 ≡ fresh → (k : ℕ) × (0 < k) × (k < length longer) × (node_at longer k ≡ node)
  found node p =
      ⊎_elim
      (λ same. (
        length trail,
        let h : by < length trail = s.within in omega arith,
        let g : length longer ≡ length trail + 1 = grown in omega arith,
        ap (λ (f : Found). f.node) last ∙ sym same,
      ))
      (λ ne.
      let h = s.floods.found node (sym (get_or-set_other now w node fresh 0 ne) ∙ p) in (
        h.0,
        h.1,
        let lt : h.0 < length trail = h.2 in let g : length longer ≡ length trail + 1 = grown in omega arith,
        node_at_old trail e h.0 h.2 ∙ h.3,
      ))
      (cases_eq node w)

  others : (node : ℕ) → get_or then node 0 ≢ fresh → get_or then node 0 ≡ get_or before node 0
  others node p =
      ⊎_elim
      (λ same. absurd (p (ap (λ n. get_or then n 0) same ∙ w_fresh)))
      (λ ne. let q = get_or-set_other now w node fresh 0 ne in q ∙ s.floods.others node (λ r. p (q ∙ r)))
      (cases_eq node w)

  spread : (k : ℕ) → k < by → (node : ℕ) → Near table (node_at longer k) node
      → get_or before node 0 ≡ get_or before start 0 → get_or then node 0 ≡ fresh
  spread k lt node p q =
      let k_in : k < length trail = let h : by < length trail = s.within in omega arith in
      fresh_stays now w node fresh w_in (s.floods.spread k lt node (subst (λ (n : ℕ). Near table n node) (node_at_old trail e k k_in) p) q)

  -- a neighbour found
  pub spreading_found : Spreading table start fresh before then longer first by next (i + 1)
  spreading_found = record {
    floods = record {
      size = length-set now w fresh ∙ s.floods.size;
      begins =
          (let g : length longer ≡ length trail + 1 = grown in omega arith, node_at_old trail e 0 s.floods.begins.0 ∙ s.floods.begins.1);
      linked = linked;
      coloured = coloured;
      found = found;
      others = others;
      spread = spread;
    };
    within = let g : length longer ≡ length trail + 1 = grown in let h : by < length trail = s.within in omega arith;
    same = node_at_old trail e by s.within ∙ s.same;
    so_far = λ j lt p.
        ⊎_elim
        (λ same. ap (λ k. get_or then (get_or next k 0) 0) same ∙ ap (λ n. get_or then n 0) (sym w_is) ∙ w_fresh)
        (λ ne. fresh_stays now w (get_or next j 0) fresh w_in (s.so_far j (omega arith) p))
        (cases_eq j i);
  }

-- all neighbours seen
pub spreading_all : (table : List (List ℕ)) (start fresh : ℕ) (before now : List ℕ) (trail first : List Found) (by : ℕ) (next : List ℕ) (i : ℕ)
    → Spreading table start fresh before now trail first by next i → next ≡ get_or table (node_at first by) []
    → length next ≤ i → Floods table start fresh before now trail (by + 1)
spreading_all table start fresh before now trail first by next i s next_is all = record {
  size = s.floods.size;
  begins = s.floods.begins;
  linked = s.floods.linked;
  coloured = s.floods.coloured;
  found = s.floods.found;
  others = s.floods.others;
  spread = λ k lt node p q.
      ⊎_elim
      (λ k_is.
      let h : Contains next node = subst (λ (l : List ℕ). Contains l node) (sym next_is) (subst (λ (n : ℕ). Near table n node) (ap (node_at trail) k_is ∙ s.same) p) in
      let at : get_or next h.0 0 ≡ node = get_or_default next h.0 0 node h.1 ∙ h.2 in
      ap (λ n. get_or now n 0) (sym at)
      ∙ s.so_far h.0 (let l : h.0 < length next = h.1 in omega arith) (ap (λ n. get_or before n 0) at ∙ q))
      (λ ne. s.floods.spread k (omega arith) node p q)
      (cases_eq k by);
}

-- nothing found yet
pub floods_none : (table : List (List ℕ)) (start fresh : ℕ) (colours : List ℕ) (trail : List Found) → CanFlood table start fresh colours
    → trail ≡ record { node = start; by = 0 } ∷ [] → Floods table start fresh colours colours trail 0
floods_none table start fresh colours trail can is = record {
  size = refl;
  begins = (let l : length trail ≡ 1 = ap length is in omega arith, ap (λ t. node_at t 0) is);
  linked = λ k pos lt. let l : length trail ≡ 1 = ap length is in absurd (omega arith);
  coloured = λ k pos lt. let l : length trail ≡ 1 = ap length is in absurd (omega arith);
  found = λ node p. absurd (can.is_fresh node p);
  others = λ node p. refl;
  spread = λ k lt. absurd (omega arith);
}

-- what has spread so far has spread up to an earlier place
pub floods_upto : (table : List (List ℕ)) (start fresh : ℕ) (before now : List ℕ) (trail : List Found) (done n : ℕ)
    → Floods table start fresh before now trail done → n ≤ done → Floods table start fresh before now trail n
floods_upto table start fresh before now trail done n f le = record {
  size = f.size;
  begins = f.begins;
  linked = f.linked;
  coloured = f.coloured;
  found = f.found;
  others = f.others;
  spread = λ k lt. f.spread k (omega arith);
}

pub spreading_is : (table : List (List ℕ)) (start fresh : ℕ) (before now now' : List ℕ) (trail trail' first : List Found) (by : ℕ) (next : List ℕ) (i : ℕ)
    → now ≡ now' → trail ≡ trail' → Spreading table start fresh before now' trail' first by next i
    → Spreading table start fresh before now trail first by next i
spreading_is table start fresh before now now' trail trail' first by next i p q s =
    subst (λ (ns : List ℕ). Spreading table start fresh before ns trail first by next i) (sym p)
    (subst (λ (ts : List Found). Spreading table start fresh before now' ts first by next i) (sym q) s)

-- one colour less of the old kind
pub old_falls : (now : List ℕ) (w old fresh : ℕ) → w < length now → get_or now w 0 ≡ old → old ≢ fresh
    → count_of old (set now w fresh) + 1 ≡ count_of old now
old_falls now w old fresh lt is ne =
    let f : ℕ → ℕ = λ c. cond (c == old) 1 0 in
    let all = sum_by-set f now w fresh 0 lt in
    let a : f (get_or now w 0) ≡ 1 = ap (λ b. cond b 1 0) (eq-eqb (get_or now w 0) old is) in
    let b : f fresh ≡ 0 = ap (λ b. cond b 1 0) (ne_eqb fresh old (λ e. ne (sym e))) in
    omega arith

pub sum_stays : (a a' k t t' total : ℕ) → a ≡ a' → a' + 1 ≡ k → t ≡ t' + 1 → k + t' ≡ total → a + t ≡ total
sum_stays a a' k t t' total p q r h = omega arith

pub more_still : (a b c : ℕ) → a ≤ b → c ≡ b + 1 → a ≤ c
more_still a b c p q = omega arith
