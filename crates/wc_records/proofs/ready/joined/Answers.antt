use Rattle.std.proofs.Common.{◌≤◌, ◌++◌, ◌∙◌, ℕ, List, length, map, ap, subst, arith}
use Rattle.std.specs.List.Sorted.{IsPermutation}
use Rattle.std.proofs.lemmas.List.{take_all}
use Rattle.std.proofs.lemmas.List.Sorted.{IsNonDecreasingBy-from_sort}
use Rattle.wc_records.proofs.ready.joined.Goals as goal

pub returns-clause-entries : goal.returns-clause-entries
returns-clause-entries c =
    let due = c.args.due.now in
    let end : length due ≤ c.loop-pid.pid-index = omega arith in
    let all = c.loop-pid.invariant ∙ ap (λ (ds : List (ℕ × ℕ)). c.args.numbers.now ++ map (λ (d : ℕ × ℕ). d.1) ds) (take_all c.loop-pid.pid-index due end) in
    subst (λ (ns : List ℕ). IsPermutation ns c.sort.new.self.items) all c.sort.ensures.permutation

pub returns-clause-order : goal.returns-clause-order
returns-clause-order c = IsNonDecreasingBy-from_sort (λ (x : ℕ). x) c.sort.new.self.items c.in_ok-sort.ensures.sorted
