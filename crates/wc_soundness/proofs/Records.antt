-- Which records stand in the world after a work chain submitted calls.
use Rattle.std.proofs.Common.{◌≡◌, ℕ, suc, ◌+◌, ◌<◌, ◌≤◌, Bool, true, false, Option, Some, None, List, [], ◌∷◌, ◌++◌, length, refl, sym, ap, subst, ◌∙◌, arith}
use Rattle.std.specs.Prelude.{◌≢◌, ◌==◌, if◌then◌else◌, All, option_map}
use Rattle.std.proofs.lemmas.Bool.{cond-true, cond-false, eq-eqb, ne_eqb}
use Rattle.std.proofs.lemmas.List.{append_assoc}
use Rattle.std.proofs.lemmas.List.Elements.{All-nil, All-cons, All-head, All-tail}
use Rattle.wc_state.specs.declared.record.Checkpoint.{Checkpoint}
use Rattle.wc_state.specs.declared.record.ProcessRecord.{ProcessRecord}
use Rattle.wc_world.specs.Applied.{set}
use Rattle.wc_world.specs.Consistent.{IsConsistent}
use Rattle.wc_world.specs.Records.{find_record, at_process}
use Rattle.wc_world.specs.World.{World}
use Rattle.wc_world.proofs.After.{find_at}
use Rattle.wc_world.proofs.ReachedLists.{find_grown, found_has, found_node}
use Rattle.wc_machine.specs.Calls.{called_number}
use Rattle.wc_machine.specs.Steps.{Call}
use Rattle.wc_machine.proofs.Frames.{find_before, records_below}
use Rattle.wc_soundness.specs.Submitted.{child_record, calls_records, EachCall, first_free, waits_at, now_waits, submitted}

module _ (w : World) (r : ProcessRecord) where
  -- ---- what holds of each call

  pub each_by : (P Q : ℕ → Call → Type 0) → ((n : ℕ) (c : Call) → P n c → Q n c) → (next : ℕ) (calls : List Call) → EachCall w r P next calls → EachCall w r Q next calls
  each_by P Q f next [] h = tt
  each_by P Q f next (c ∷ cs) h = (f next c h.0, each_by P Q f (suc (called_number w r next c)) cs h.1)

  pub each_both : (P Q : ℕ → Call → Type 0) (next : ℕ) (calls : List Call) → EachCall w r P next calls → EachCall w r Q next calls
      → EachCall w r (λ n c. P n c × Q n c) next calls
  each_both P Q next [] h k = tt
  each_both P Q next (c ∷ cs) h k = ((h.0, k.0), each_both P Q (suc (called_number w r next c)) cs h.1 k.1)

  pub each_of : (P : Call → Type 0) (next : ℕ) (calls : List Call) → All P calls → EachCall w r (λ n c. P c) next calls
  each_of P next [] h = tt
  each_of P next (c ∷ cs) h = (All-head P c cs h, each_of P (suc (called_number w r next c)) cs (All-tail P c cs h))

  -- each call has a number beyond those before
  pub each_beyond : (low next : ℕ) (calls : List Call) → low ≤ next → EachCall w r (λ n c. low ≤ n) next calls
  each_beyond low next [] le = tt
  each_beyond low next (c ∷ cs) le = (le, each_beyond low (suc (called_number w r next c)) cs (omega arith))

  pub children_all : (P : ProcessRecord → Type 0) (next : ℕ) (calls : List Call) → EachCall w r (λ n c. P (child_record w r n c)) next calls
      → All P (calls_records w r next calls)
  children_all P next [] h = All-nil P
  children_all P next (c ∷ cs) h =
      let further : ℕ = suc (called_number w r next c) in
      All-cons P (child_record w r next c) (calls_records w r further cs) h.0 (children_all P further cs h.1)

  -- ---- records by number

  -- no record has this number or one beyond it
  abbrev pub IsFree : ℕ → List ProcessRecord → Type 0
  IsFree next rs = (q : ℕ) → next ≤ q → find_record q rs ≡ None

  pub found_behind : (q : ℕ) (front more : List ProcessRecord) → find_record q front ≡ None → find_record q (front ++ more) ≡ find_record q more
  found_behind q [] more h = refl
  found_behind q (x ∷ xs) more h = by (x.node == q) h (found_behind q xs more)
    where
      by : (b : Bool) → (if b then Some x else find_record q xs) ≡ None → (find_record q xs ≡ None → find_record q (xs ++ more) ≡ find_record q more)
          → (if b then Some x else find_record q (xs ++ more)) ≡ find_record q more
      by true e rest = absurd (cc)
      by false e rest = rest e

  pub none_below : (q next : ℕ) (calls : List Call) → q < next → find_record q (calls_records w r next calls) ≡ None
  none_below q next [] lt = refl
  none_below q next (c ∷ cs) lt =
      let number : ℕ = called_number w r next c in
      cond-false (number == q) (Some (child_record w r next c)) (find_record q (calls_records w r (suc number) cs)) (ne_eqb number q (λ e. absurd (omega arith)))
      ∙ none_below q (suc number) cs (omega arith)

  pub free_after : (next : ℕ) (c : Call) (front : List ProcessRecord) → IsFree next front → IsFree (suc (called_number w r next c)) (front ++ child_record w r next c ∷ [])
  free_after next c front h = λ q le.
      let number : ℕ = called_number w r next c in
      found_behind q front (child_record w r next c ∷ []) (h q (omega arith))
      ∙ cond-false (number == q) (Some (child_record w r next c)) None (ne_eqb number q (λ e. absurd (omega arith)))

  -- each called process is found by its number
  pub children_found : (front : List ProcessRecord) (next : ℕ) (calls : List Call) → IsFree next front
      → EachCall w r (λ n c. find_record (called_number w r n c) (front ++ calls_records w r next calls) ≡ Some (child_record w r n c)) next calls
  children_found front next [] h = tt
  children_found front next (c ∷ cs) h =
      let number : ℕ = called_number w r next c in
      let child : ProcessRecord = child_record w r next c in
      let rest : List ProcessRecord = calls_records w r (suc number) cs in (
        found_behind number front (child ∷ rest) (h number (omega arith)) ∙ cond-true (number == number) (Some child) (find_record number rest) (eq-eqb number number refl),
        subst (λ (rs : List ProcessRecord). EachCall w r (λ n x. find_record (called_number w r n x) rs ≡ Some (child_record w r n x)) (suc number) cs)
            (append_assoc front (child ∷ []) rest) (children_found (front ++ child ∷ []) (suc number) cs (free_after next c front h)),
      )

  -- ---- the world after

  module _ (consistent : IsConsistent w) (found : find_record r.node w.records ≡ Some r) (d : Checkpoint) (calls : List Call) where
    abbrev v : World
    v = submitted w r d calls

    abbrev children : List ProcessRecord
    children = calls_records w r (first_free w r) calls

    abbrev old : List ProcessRecord
    old = at_process r.node (set (w.batches + 1) (waits_at w r d calls)) w.records

    pub within : (q : ℕ) (x : ProcessRecord) → find_record q w.records ≡ Some x → q ≤ length w.nodes
    within q x h =
        let low : x.node < suc (length w.nodes) = found_has (λ y. y.node < suc (length w.nodes)) q w.records x h (records_below w.nodes w.records consistent.numbered) in
        let same : x.node ≡ q = found_node q w.records x h in
        omega arith

    pub none_beyond : (q : ℕ) → length w.nodes < q → find_record q w.records ≡ None
    none_beyond q lt = by (find_record q w.records) refl
      where
        by : (o : Option ProcessRecord) → find_record q w.records ≡ o → o ≡ None
        by None e = refl
        by (Some x) e = let le : q ≤ length w.nodes = within q x e in absurd (omega arith)

    found_at : (q : ℕ) → find_record q old
        ≡ (if r.node == q then option_map (set (w.batches + 1) (waits_at w r d calls)) (find_record q w.records) else find_record q w.records)
    found_at q = find_at r.node q (set (w.batches + 1) (waits_at w r d calls)) w.records (λ x. refl)

    pub old_free : IsFree (first_free w r) old
    old_free q le =
        let low : r.node ≤ length w.nodes = within r.node r found in
        found_at q ∙ cond-false (r.node == q) (option_map (set (w.batches + 1) (waits_at w r d calls)) (find_record q w.records)) (find_record q w.records)
        (ne_eqb r.node q (λ e. absurd (omega arith)))
        ∙ none_beyond q (omega arith)

    pub found_now : find_record r.node v.records ≡ Some (now_waits w r d calls)
    found_now = find_grown r.node old children (now_waits w r d calls) (found_at r.node
        ∙ cond-true (r.node == r.node) (option_map (set (w.batches + 1) (waits_at w r d calls)) (find_record r.node w.records)) (find_record r.node w.records) (eq-eqb r.node r.node refl)
        ∙ ap (option_map (set (w.batches + 1) (waits_at w r d calls))) found)

    -- each other process that was there keeps its record
    pub found_other : (q : ℕ) → r.node ≢ q → q ≤ length w.nodes → find_record q v.records ≡ find_record q w.records
    found_other q ne le =
        find_before q old children (none_below q (first_free w r) calls (omega arith)) ∙ found_at q
        ∙ cond-false (r.node == q) (option_map (set (w.batches + 1) (waits_at w r d calls)) (find_record q w.records)) (find_record q w.records) (ne_eqb r.node q ne)

    -- and each call has its own
    pub found_children : EachCall w r (λ n c. find_record (called_number w r n c) v.records ≡ Some (child_record w r n c)) (first_free w r) calls
    found_children = children_found old (first_free w r) calls old_free

    -- a record with a new number is that of a call
    pub found_new : (P : ProcessRecord → Type 0) → EachCall w r (λ n c. P (child_record w r n c)) (first_free w r) calls → (s : ProcessRecord)
        → find_record s.node v.records ≡ Some s → length w.nodes < s.node → P s
    found_new P each s there beyond =
        found_has P s.node children s (sym (found_behind s.node old children (old_free s.node (omega arith))) ∙ there) (children_all P (first_free w r) calls each)
