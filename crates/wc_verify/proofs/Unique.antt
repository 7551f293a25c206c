-- What is found of a world is one, and a sound world has no fault.
use Rattle.std.proofs.Common.{◌≡◌, ℕ, ◌<◌, ◌≤◌, Bool, ◌⊎◌, inl, inr, ⊎_elim, Option, Some, None, List, sym, ap, subst, ◌∙◌, arith}
use Rattle.std.proofs.lemmas.Bool.{cases_eq}
use Rattle.wc_graph.specs.declared.link.Link.{Link}
use Rattle.wc_world.specs.World.{World}
use Rattle.wc_world.specs.Records.{find_record}
use Rattle.wc_world.proofs.FoundRecords.{found_holds}
use Rattle.wc_world.proofs.ReachedLists.{found_node}
use Rattle.wc_machine.specs.Created.{IsCreatedByInputs}
use Rattle.wc_machine.specs.Recorded.{HasResult}
use Rattle.wc_machine.specs.Sound.{IsSound}
use Rattle.wc_machine.specs.Results.{HasResultsByRequest}
use Rattle.wc_verify.specs.Faults.{Disagree, IsLeastAmong, IsLeastDisagreement, IsLeastOnCycle, IsLowestWrong, IsNotAfter, IsRight}
use Rattle.wc_verify.proofs.Disagreeing.{either}

-- ---- one of each

pub one_least_on_cycle : (links : List Link) (n m : ℕ) → IsLeastOnCycle links (Some n) → IsLeastOnCycle links (Some m) → n ≡ m
one_least_on_cycle links n m p q = let a : n ≤ m = p.1 m q.0 in let b : m ≤ n = q.1 n p.0 in omega arith

-- a wrong calculation isn't lower than the lowest
not_lower : (w : World) (n m : ℕ) → IsLowestWrong w (Some n) → IsLowestWrong w (Some m) → n < m → ⊥
not_lower w n m p q less =
    let r = p.0.0 in
    let number : r.node ≡ n = found_node n w.records r p.0.1 in
    let right : r.node < m → IsRight w r = found_holds (λ x. x.node < m → IsRight w x) n w.records r q.1 p.0.1 in
    p.0.2.2 (right (omega arith) p.0.2.0 p.0.2.1)

pub one_lowest_wrong : (w : World) (n m : ℕ) → IsLowestWrong w (Some n) → IsLowestWrong w (Some m) → n ≡ m
one_lowest_wrong w n m p q = ⊎_elim (λ e. e) (λ ne. at (either n m ne)) (cases_eq n m)
  where
    at : (n < m) ⊎ (m < n) → n ≡ m
    at (inl less) = absurd (not_lower w n m p q less)
    at (inr less) = absurd (not_lower w m n q p less)

pub right_or_wrong : (w : World) (n : ℕ) → IsCreatedByInputs w → IsLowestWrong w (Some n) → ⊥
right_or_wrong w n created p =
    p.0.2.2 (found_holds (IsRight w) n w.records p.0.0 created.ended p.0.1 p.0.2.0 p.0.2.1)

agree_or_disagree : (w : World) (a b : ℕ) → HasResultsByRequest w → Disagree w a b → ⊥
agree_or_disagree w a b agree d =
    let one : d.one.node ≡ a = found_node a w.records d.one d.one_found in
    let other : d.other.node ≡ b = found_node b w.records d.other d.other_found in
    d.differ (agree d.one d.other (ap (λ (n : ℕ). find_record n w.records) one ∙ d.one_found) (ap (λ (n : ℕ). find_record n w.records) other ∙ d.other_found)
    d.request d.one_result d.other_result d.one_asks d.other_asks
    (subst (λ (n : ℕ). HasResult w n d.one_result) (sym one) d.one_has) (subst (λ (n : ℕ). HasResult w n d.other_result) (sym other) d.other_has))

same_pair : (p q : ℕ × ℕ) → IsNotAfter p q → IsNotAfter q p → p ≡ q
same_pair p q (inl a) (inl b) = absurd (omega arith)
same_pair p q (inl a) (inr b) = let e = b.0 in absurd (omega arith)
same_pair p q (inr a) (inl b) = let e = a.0 in absurd (omega arith)
same_pair p q (inr a) (inr b) = let le = a.1 in let ge = b.1 in let second : p.1 ≡ q.1 = omega arith in (λ i. (a.0 i, second i))

pub one_least_disagreement : (w : World) (p q : Option (ℕ × ℕ)) → IsLeastDisagreement w p → IsLeastDisagreement w q → p ≡ q
one_least_disagreement w None None a b = λ i. None
one_least_disagreement w None (Some q) a b = absurd (agree_or_disagree w q.0 q.1 a b.0)
one_least_disagreement w (Some p) None a b = absurd (agree_or_disagree w p.0 p.1 b a.0)
one_least_disagreement w (Some p) (Some q) a b = ap (λ (x : ℕ × ℕ). Some x) (same_pair p q (a.1 q.0 q.1 b.0) (b.1 p.0 p.1 a.0))

pub one_least_among : (w : World) (chosen : ℕ → Bool) (p q : Option (ℕ × ℕ)) → IsLeastAmong w chosen p → IsLeastAmong w chosen q → p ≡ q
one_least_among w chosen None None a b = λ i. None
one_least_among w chosen None (Some q) a b = absurd (a q.0 q.1 b.0)
one_least_among w chosen (Some p) None a b = absurd (b p.0 p.1 a.0)
one_least_among w chosen (Some p) (Some q) a b = ap (λ (x : ℕ × ℕ). Some x) (same_pair p q (a.1 q.0 q.1 b.0) (b.1 p.0 p.1 a.0))

-- ---- sound worlds

pub no_cycle : (w : World) → IsSound w → (n : ℕ) → IsLeastOnCycle w.links (Some n) → ⊥
no_cycle w sound n p = sound.acyclic n p.0

pub no_wrong : (w : World) → IsSound w → (n : ℕ) → IsLowestWrong w (Some n) → ⊥
no_wrong w sound n p = right_or_wrong w n sound.created p
