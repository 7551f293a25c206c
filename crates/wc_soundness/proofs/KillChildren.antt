-- What a process of a sound world has called: which of its calls have ended.
use Rattle.std.proofs.Common.{◌≡◌, ℕ, zero, suc, ◌<◌, true, false, Some, List, [], ◌∷◌, inl, inr, length, map, take, drop, get_or, refl, sym, ap, subst, ◌∙◌}
use Rattle.std.specs.Prelude.{All, ◌==◌, ◌||◌}
use Rattle.std.specs.List.{AllByRecursion, IsDistinct, list_any}
use Rattle.std.proofs.lemmas.Bool.{eqb-false, ne_eqb}
use Rattle.std.proofs.lemmas.List.Elements.{All-nil, All-cons, All-filter, All-take}
use Rattle.wc_graph.specs.declared.link.Link.{Link}
use Rattle.wc_state.specs.declared.record.Await.{Await}
use Rattle.wc_state.specs.declared.record.Checkpoint.{Checkpoint}
use Rattle.wc_state.specs.declared.record.Part.{Part}
use Rattle.wc_state.specs.declared.record.Part.TheVariants as part
use Rattle.wc_state.specs.declared.record.ProcessRecord.{ProcessRecord}
use Rattle.wc_world.specs.World.{World}
use Rattle.wc_world.specs.Records.{find_record, has_ended, has_called, is_call_from}
use Rattle.wc_world.proofs.FoundRecords.{IsDeeper, call_is_deeper, found_holds}
use Rattle.wc_world.proofs.ReachedLists.{found_node}
use Rattle.wc_machine.specs.Paths.{call_links}
use Rattle.wc_machine.specs.Rest.{bound_calls, is_awaited}
use Rattle.wc_machine.specs.Sound.{AreAwaited, AwaitsLastCalls, CallsAreKept, IsSound}
use Rattle.wc_machine.proofs.EndedTrees.{call_is_called}
use Rattle.wc_turn_laws.proofs.CalledLabels.{distinct}

-- there is a process of this number, which has ended
abbrev pub IsOver : World → ℕ → Type 0
IsOver w q = (x : ProcessRecord) × (find_record q w.records ≡ Some x) × (has_ended x.state ≡ true)

-- ---- what isn't awaited has ended

module _ (w : World) (sound : IsSound w) (q : ProcessRecord) (found : find_record q.node w.records ≡ Some q) where
  -- a process that this one has called
  pub record IsCalled (pid : ℕ) : Type 0 where
    pub child : ProcessRecord
    pub is : find_record pid w.records ≡ Some child
    pub number : child.node ≡ pid
    pub itself : find_record child.node w.records ≡ Some child
    pub reached : has_called w.links q.node child.node ≡ true

  pub is_called : (i : ℕ) (d : Link) → i < length w.links → is_call_from q.node (get_or w.links i d) ≡ true → IsCalled (get_or w.links i d).target
  is_called i d lt called =
      let l : Link = get_or w.links i d in
      let deeper : IsDeeper q (find_record l.target w.records) = call_is_deeper w.records l q.node q found called (sound.consistent.calls i d lt) in
      let x : ProcessRecord = deeper.0 in
      let target : x.node ≡ l.target = found_node l.target w.records x deeper.1 in
      record {
        child = x;
        is = deeper.1;
        number = target;
        itself = ap (λ (n : ℕ). find_record n w.records) target ∙ deeper.1;
        reached = ap (has_called w.links q.node) target ∙ call_is_called w q.node i d lt called;
      }

  abbrev pub OverIfNotAwaited : Link → Type 0
  OverIfNotAwaited l = is_call_from q.node l ≡ true → is_awaited q.part l.target ≡ false → IsOver w l.target

  pub over_if_not_awaited : All OverIfNotAwaited w.links
  over_if_not_awaited = λ i d lt called free.
      let l : Link = get_or w.links i d in
      let c : IsCalled l.target = is_called i d lt called in
      elim (found_holds (CallsAreKept w) q.node w.records q sound.calls found c.child c.itself c.reached) [
        | inl over ↦ (c.child, c.is, over)
        | inr lives ↦ let awaits : is_awaited q.part l.target ≡ true = ap (is_awaited q.part) (sym c.number) ∙ lives.1 in absurd (cc (awaits, free))
      ]

  -- where nothing is awaited, all have ended
  pub all_over : ((pid : ℕ) → is_awaited q.part pid ≡ false) → All (λ l. is_call_from q.node l ≡ true → IsOver w l.target) w.links
  all_over none = λ i d lt called. over_if_not_awaited i d lt called (none (get_or w.links i d).target)

-- ---- the first calls aren't awaited

-- the awaited processes are the targets of these links
none_behind : (n t : ℕ) (ls : List Link) (awaiting : List Await) → AreAwaited n ls awaiting → AllByRecursion (λ y. (t == y) ≡ false) (map (λ l. l.target) ls)
    → list_any (λ a. a.pid == t) awaiting ≡ false
none_behind n t [] [] h apart = refl
none_behind n t [] (a ∷ as') h apart = absurd h
none_behind n t (l ∷ ls) [] h apart = absurd h
none_behind n t (l ∷ ls) (a ∷ as') h apart =
    let rest : list_any (λ x. x.pid == t) as' ≡ false = none_behind (suc n) t ls as' h.2 apart.1 in
    let first : (a.pid == t) ≡ false = other a.pid t l.target h.0 apart.0 in
    λ i. first i || rest i
  where
    other : (a t l : ℕ) → l ≡ a → (t == l) ≡ false → (a == t) ≡ false
    other a t l e apart = ne_eqb a t (λ same. eqb-false t l apart (sym same ∙ sym e))

-- no link among so many first ones leads to an awaited process
first_free : (b n : ℕ) (ls : List Link) (awaiting : List Await) → IsDistinct (λ x y. x == y) (map (λ l. l.target) ls) → AreAwaited n (drop b ls) awaiting
    → All (λ l. list_any (λ a. a.pid == l.target) awaiting ≡ false) (take b ls)
unfolding IsDistinct
first_free zero n ls awaiting apart h = All-nil (λ l. list_any (λ a. a.pid == l.target) awaiting ≡ false)
first_free (suc b) n [] awaiting apart h = All-nil (λ l. list_any (λ a. a.pid == l.target) awaiting ≡ false)
first_free (suc b) n (l ∷ ls) awaiting apart h =
    All-cons (λ l. list_any (λ a. a.pid == l.target) awaiting ≡ false) l (take b ls)
    (none_behind n l.target (drop b ls) awaiting h (dropped b ls apart.0))
    (first_free b n ls awaiting apart.1 h)
  where
    dropped : (b : ℕ) (ls : List Link) → AllByRecursion (λ y. (l.target == y) ≡ false) (map (λ l. l.target) ls)
        → AllByRecursion (λ y. (l.target == y) ≡ false) (map (λ l. l.target) (drop b ls))
    dropped zero ls h = h
    dropped (suc b) [] h = h
    dropped (suc b) (m ∷ ms) h = dropped b ms h.1

module _ (w : World) (sound : IsSound w) (q : ProcessRecord) (found : find_record q.node w.records ≡ Some q) (c : Checkpoint) (is : q.part ≡ part.Chain c) where
  last_awaited : AreAwaited (suc (bound_calls c)) (drop (bound_calls c) (call_links w q.node)) c.awaiting
  last_awaited = subst (AwaitsLastCalls w q) is (found_holds (λ x. AwaitsLastCalls w x x.part) q.node w.records q sound.awaits found)

  -- the calls that are bound have ended
  pub bound_over : All (λ l. is_call_from q.node l ≡ true → IsOver w l.target) (take (bound_calls c) (call_links w q.node))
  bound_over =
      let b : ℕ = bound_calls c in
      let links = call_links w q.node in
      let free = first_free b (suc b) links c.awaiting
      (distinct q.node w.links (λ i j x y ne p r. (sound.links.apart i j x y ne p r).callers)) last_awaited in
      let over = All-take (OverIfNotAwaited w sound q found) b links
      (All-filter (is_call_from q.node) (OverIfNotAwaited w sound q found) w.links (over_if_not_awaited w sound q found)) in
      λ i d lt called. over i d lt called (ap (λ (p : Part). is_awaited p (get_or (take b links) i d).target) is ∙ free i d lt)
