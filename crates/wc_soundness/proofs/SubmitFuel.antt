-- The kept fuel after calls: a new process counts 1, and so many nodes are new.
use Rattle.std.proofs.Common.{◌≡◌, ℕ, suc, ◌+◌, ◌<◌, ◌≤◌, Bool, true, false, List, [], ◌∷◌, ◌++◌, Some, length, refl, sym, ap, ◌∙◌, arith}
use Rattle.std.specs.Prelude.{◌==◌, ◌||◌, not, All, if◌then◌else◌}
use Rattle.std.specs.List.{list_any}
use Rattle.std.proofs.lemmas.Bool.{eqb-true, ne_eqb}
use Rattle.std.proofs.lemmas.List.{length-append}
use Rattle.std.proofs.lemmas.List.Elements.{All-head, All-tail}
use Rattle.std.proofs.lemmas.List.Folds.{list_any-append}
use Rattle.wc_state.specs.declared.record.Checkpoint.{Checkpoint}
use Rattle.wc_state.specs.declared.record.ProcessRecord.{ProcessRecord}
use Rattle.wc_world.specs.Applied.{set}
use Rattle.wc_world.specs.Records.{at_process, find_record, has_ended, process_node}
use Rattle.wc_world.specs.World.{World}
use Rattle.wc_world.proofs.ReachedLists.{all_found, unique}
use Rattle.wc_machine.specs.Calls.{awaits, called_number, kind_of_callee}
use Rattle.wc_machine.specs.Rest.{is_awaited}
use Rattle.wc_machine.specs.Sound.{IsSound, fuel_in, is_awaited_in}
use Rattle.wc_machine.specs.Steps.{Call}
use Rattle.wc_machine.proofs.Frames.{records_below}
use Rattle.wc_soundness.specs.Submitted.{call_nodes, calls_nodes, calls_records, data_nodes, first_free, submitted, waits_at}

fuel_append : (all xs ys : List ProcessRecord) → fuel_in all (xs ++ ys) ≡ fuel_in all xs + fuel_in all ys
fuel_append all [] ys = omega arith
fuel_append all (x ∷ xs) ys = by (not (has_ended x.state) || is_awaited_in all x.node) (fuel_append all xs ys)
  where
    by : (b : Bool) → fuel_in all (xs ++ ys) ≡ fuel_in all xs + fuel_in all ys
        → (if b then suc x.fuel + fuel_in all (xs ++ ys) else fuel_in all (xs ++ ys)) ≡ (if b then suc x.fuel + fuel_in all xs else fuel_in all xs) + fuel_in all ys
    by true e = omega (arith, e)
    by false e = e

module _ (w : World) (r : ProcessRecord) where
  fuel_children : (all : List ProcessRecord) (next : ℕ) (cs : List Call) → fuel_in all (calls_records w r next cs) ≡ length cs
  fuel_children all next [] = refl
  fuel_children all next (c ∷ cs) = omega (arith, fuel_children all (suc (called_number w r next c)) cs)

  children_await_none : (q next : ℕ) (cs : List Call) → is_awaited_in (calls_records w r next cs) q ≡ false
  children_await_none q next [] = refl
  children_await_none q next (c ∷ cs) = children_await_none q (suc (called_number w r next c)) cs

  -- each call has a node
  as_many : (cs : List Call) → length cs ≤ length (calls_nodes w r cs)
  as_many [] = omega arith
  as_many (c ∷ cs) =
      let all : length (call_nodes w r c ++ calls_nodes w r cs) ≡ length (call_nodes w r c) + length (calls_nodes w r cs) = length-append (call_nodes w r c) (calls_nodes w r cs) in
      let own : length (call_nodes w r c) ≡ length (data_nodes c.args) + 1 = length-append (data_nodes c.args) (process_node (kind_of_callee w r c) ∷ []) in
      let rest : length cs ≤ length (calls_nodes w r cs) = as_many cs in
      omega arith

  -- only new processes are awaited
  awaits_beyond : (q next : ℕ) (cs : List Call) → q < next → list_any (λ a. a.pid == q) (awaits w r next cs) ≡ false
  awaits_beyond q next [] lt = refl
  awaits_beyond q next (c ∷ cs) lt =
      let number : ℕ = called_number w r next c in
      ap (λ (b : Bool). b || list_any (λ a. a.pid == q) (awaits w r (suc number) cs)) (ne_eqb number q (λ e. absurd (omega arith))) ∙ awaits_beyond q (suc number) cs (omega arith)

  module _ (sound : IsSound w) (found : find_record r.node w.records ≡ Some r) (live : has_ended r.state ≡ false) (none : (q : ℕ) → is_awaited r.part q ≡ false)
      (d : Checkpoint) (calls : List Call) where
    abbrev v : World
    v = submitted w r d calls

    abbrev f : ProcessRecord → ProcessRecord
    f = set (w.batches + 1) (waits_at w r d calls)

    abbrev children : List ProcessRecord
    children = calls_records w r (first_free w r) calls

    abbrev IsOne : ProcessRecord → Type 0
    IsOne x = x.node ≡ r.node → x ≡ r

    abbrev IsOld : ProcessRecord → Type 0
    IsOld x = x.node < suc (length w.nodes)

    awaited_old : (q : ℕ) → q ≤ length w.nodes → (rs : List ProcessRecord) → All IsOne rs → is_awaited_in (at_process r.node f rs) q ≡ is_awaited_in rs q
    awaited_old q le [] one = refl
    awaited_old q le (x ∷ xs) one = by (x.node == r.node) refl (awaited_old q le xs (All-tail IsOne x xs one))
      where
        by : (b : Bool) → (x.node == r.node) ≡ b → is_awaited_in (at_process r.node f xs) q ≡ is_awaited_in xs q
            → (is_awaited (if b then f x else x).part q || is_awaited_in (at_process r.node f xs) q) ≡ (is_awaited x.part q || is_awaited_in xs q)
        by true e rest =
            let same : x ≡ r = All-head IsOne x xs one (eqb-true x.node r.node e) in
            let now : is_awaited (f x).part q ≡ false = awaits_beyond q (first_free w r) calls (omega (arith, le)) in
            let before : is_awaited x.part q ≡ false = ap (λ (y : ProcessRecord). is_awaited y.part q) same ∙ none q in
            λ i. (now ∙ sym before) i || rest i
        by false e rest = ap (λ (b : Bool). is_awaited x.part q || b) rest

    awaited_same : All IsOne w.records → (q : ℕ) → q ≤ length w.nodes → is_awaited_in v.records q ≡ is_awaited_in w.records q
    awaited_same one q le =
        list_any-append (λ x. is_awaited x.part q) (at_process r.node f w.records) children
        ∙ (λ i. awaited_old q le w.records one i || children_await_none q (first_free w r) calls i)
        ∙ or_false (is_awaited_in w.records q)
      where
        or_false : (b : Bool) → b || false ≡ b
        or_false true = refl
        or_false false = refl

    fuel_old : (all : List ProcessRecord) → ((q : ℕ) → q ≤ length w.nodes → is_awaited_in v.records q ≡ is_awaited_in all q) → (rs : List ProcessRecord) → All IsOne rs → All IsOld rs
        → fuel_in v.records (at_process r.node f rs) ≡ fuel_in all rs
    fuel_old all same [] one old = refl
    fuel_old all same (x ∷ xs) one old = by (x.node == r.node) refl (fuel_old all same xs (All-tail IsOne x xs one) (All-tail IsOld x xs old))
      where
        by : (b : Bool) → (x.node == r.node) ≡ b → fuel_in v.records (at_process r.node f xs) ≡ fuel_in all xs
            → fuel_in v.records ((if b then f x else x) ∷ at_process r.node f xs) ≡ fuel_in all (x ∷ xs)
        by true e rest =
            let is : x ≡ r = All-head IsOne x xs one (eqb-true x.node r.node e) in
            ap (λ (n : ℕ). suc r.fuel + n) rest
            ∙ sym (ap (λ (y : ProcessRecord). if not (has_ended y.state) || is_awaited_in all y.node then suc y.fuel + fuel_in all xs else fuel_in all xs) is
            ∙ ap (λ (b : Bool). if not b || is_awaited_in all r.node then suc r.fuel + fuel_in all xs else fuel_in all xs) live)
        by false e rest =
            let lt : x.node < suc (length w.nodes) = All-head IsOld x xs old in
            let kept = same x.node (omega (arith, lt)) in
            λ i. if not (has_ended x.state) || kept i then suc x.fuel + rest i else rest i

    -- The sum stays within its bound.
    pub fuel_within : fuel_in v.records v.records ≤ v.batches + length v.nodes
    fuel_within =
        let one : All IsOne w.records = all_found (λ x. x ≡ r) r.node w.records r (unique 1 w.nodes w.records sound.consistent.numbered) found refl in
        let old : All IsOld w.records = records_below w.nodes w.records sound.consistent.numbered in
        let sum : fuel_in v.records v.records ≡ fuel_in v.records (at_process r.node f w.records) + fuel_in v.records children
        = fuel_append v.records (at_process r.node f w.records) children in
        let first : fuel_in v.records (at_process r.node f w.records) ≡ fuel_in w.records w.records = fuel_old w.records (awaited_same one) w.records one old in
        let rest : fuel_in v.records children ≡ length calls = fuel_children v.records (first_free w r) calls in
        let nodes : length (w.nodes ++ calls_nodes w r calls) ≡ length w.nodes + length (calls_nodes w r calls) = length-append w.nodes (calls_nodes w r calls) in
        let many : length calls ≤ length (calls_nodes w r calls) = as_many calls in
        let bound : fuel_in w.records w.records ≤ w.batches + length w.nodes = sound.fuel in
        omega (arith, sum, first, rest, nodes, many, bound)
