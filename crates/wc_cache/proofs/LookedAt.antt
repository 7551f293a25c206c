-- The lowest source where each process is looked at.
use Rattle.std.proofs.Common.{◌≡◌, ℕ, zero, suc, ◌+◌, ◌<◌, ◌≤◌, Some, None, List, [], ◌∷◌, length, take, get_or, inl, inr, refl, sym, ap, subst, ◌∙◌, arith}
use Rattle.std.specs.Prelude.{All, IsSome, ◌⊎◌}
use Rattle.std.proofs.lemmas.List.{get_or_default, get_or-take, length-take, take_all}
use Rattle.std.proofs.lemmas.List.Elements.{All-more}
use Rattle.wc_state.specs.declared.record.ProcessRecord.{ProcessRecord}
use Rattle.wc_world.specs.World.{World}
use Rattle.wc_world.specs.Accepted.{IsReached}
use Rattle.wc_world.specs.Applying.{Ascend}
use Rattle.wc_world.specs.Consistent.{IsConsistent}
use Rattle.wc_world.specs.Records.{find_record}
use Rattle.wc_world.proofs.Ascents.{reached_ascends}
use Rattle.wc_world.proofs.ReachedLists.{unique}
use Rattle.wc_cache.specs.Sources.{IsLowestWith, IsSourceWith}

over : (low high : ℕ) (rs : List ProcessRecord) → Ascend low rs high → (k : ℕ) (d : ProcessRecord) → k < length rs → low < (get_or rs k d).node
over low high [] h k d lt = absurd (omega (arith, lt))
over low high (r ∷ rs) h zero d lt = h.0
over low high (r ∷ rs) h (suc k) d lt = let up = h.0 in let rest = over r.node high rs h.2 k d (omega arith) in omega (arith, up, rest)

-- the numbers of records ascend from place to place
rise : (low high : ℕ) (rs : List ProcessRecord) → Ascend low rs high → (i j : ℕ) (d : ProcessRecord) → i < j → j < length rs → (get_or rs i d).node < (get_or rs j d).node
rise low high [] h i j d lt within = absurd (omega (arith, within))
rise low high (r ∷ rs) h zero zero d lt within = absurd (omega (arith, lt))
rise low high (r ∷ rs) h zero (suc j) d lt within = over r.node high rs h.2 j d (omega arith)
rise low high (r ∷ rs) h (suc i) zero d lt within = absurd (omega (arith, lt))
rise low high (r ∷ rs) h (suc i) (suc j) d lt within = rise r.node high rs h.2 i j d (omega arith) (omega arith)

ordered : (a b : ℕ) → (a < b) ⊎ ((a ≡ b) ⊎ (b < a))
ordered a b = grind arith

module _ (w : World) (key : List ℕ) (reached : IsReached w) (c : IsConsistent w) (items : List ProcessRecord) (e : items ≡ w.records) (i : ℕ) where
  abbrev NoSource : ProcessRecord → Type 0
  NoSource q = IsSourceWith w (w.batches + 1) key q → ⊥

  up : Ascend 0 items (length w.nodes)
  up = subst (λ (rs : List ProcessRecord). Ascend 0 rs (length w.nodes)) (sym e) (reached_ascends w reached)

  found_there : (d r : ProcessRecord) → i < length items → r ≡ get_or items i d → find_record r.node w.records ≡ Some r
  found_there d r lt is =
      let same : r ≡ get_or w.records i d = is ∙ ap (λ (xs : List ProcessRecord). get_or xs i d) e in
      subst (λ (x : ProcessRecord). find_record x.node w.records ≡ Some x) (sym same)
      (unique 1 w.nodes w.records c.numbered i d (subst (λ (xs : List ProcessRecord). i < length xs) e lt))

  pub is_there : (d r : ProcessRecord) → i < length items → r ≡ get_or items i d → IsSome (find_record r.node w.records)
  is_there d r lt is = subst IsSome (sym (found_there d r lt is)) refl

  pub none_more : (d r : ProcessRecord) → i < length items → r ≡ get_or items i d → All NoSource (take i items) → NoSource r → All NoSource (take (i + 1) items)
  none_more d r lt is none never = All-more NoSource items i d lt none (subst NoSource is never)

  pub none_at_all : length items ≤ i → All NoSource (take i items) → IsLowestWith w (w.batches + 1) key None
  none_at_all le none = subst (All NoSource) e (subst (All NoSource) (take_all i items le) none)

  none_at : (k : ℕ) (d : ProcessRecord) → k < i → k < length items → All NoSource (take i items) → NoSource (get_or items k d)
  none_at k d lt within none = subst NoSource (get_or-take i items k d lt) (none k d (omega (arith, length-take i items, lt, within)))

  lowest_in : (d r : ProcessRecord) → i < length items → r ≡ get_or items i d → All NoSource (take i items) → All (λ q. q.node < r.node → NoSource q) items
  lowest_in d r lt is none = λ k x within small.
      elim (ordered k i) [
        | inl before ↦ none_at k x before within none
        | inr behind ↦
            let number : r.node ≡ (get_or items i x).node = ap (λ (q : ProcessRecord). q.node) (is ∙ get_or_default items i d x lt) in
            elim behind [
              | inl same ↦ absurd (let at : (get_or items k x).node ≡ (get_or items i x).node = ap (λ (n : ℕ). (get_or items n x).node) same in omega (arith, at, number, small))
              | inr later ↦ absurd (let above = rise 0 (length w.nodes) items up i k x later within in omega (arith, above, number, small))
            ]
      ]

  pub lowest : (d r : ProcessRecord) → i < length items → r ≡ get_or items i d → All NoSource (take i items) → IsSourceWith w (w.batches + 1) key r
      → IsLowestWith w (w.batches + 1) key (Some r.node)
  lowest d r lt is none source = (
    (r, found_there d r lt is, source),
    subst (All (λ (q : ProcessRecord). q.node < r.node → NoSource q)) e (lowest_in d r lt is none),
  )
