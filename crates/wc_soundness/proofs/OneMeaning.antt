-- Processes that run the same have the same tree.
use Rattle.std.proofs.Common.{◌≡◌, ℕ, ◌+◌, true, Option, Some, refl, sym, ap, subst, ◌∙◌, arith}
use Rattle.std.specs.Prelude.{option_map, ◌-◌}
use Rattle.wc_value.specs.declared.process.Tree.{Tree}
use Rattle.wc_semantics.specs.declared.progress.Answer.{Answer}
use Rattle.wc_semantics.specs.declared.progress.Answer.TheVariants.{Gave}
use Rattle.wc_semantics.specs.declared.progress.Replayed.{Replayed}
use Rattle.wc_semantics.specs.Laws.{MoreAnswer}
use Rattle.wc_semantics.specs.Meaning.{meaning}
use Rattle.wc_semantics.specs.Tables.{Kills, Table}
use Rattle.wc_semantics.proofs.Keeps.{meaning_more}
use Rattle.wc_state.specs.declared.record.ProcessRecord.{ProcessRecord}
use Rattle.wc_world.specs.World.{World}
use Rattle.wc_world.specs.Records.{has_ended, library_at}
use Rattle.wc_world.proofs.FoundRecords.{found_holds}
use Rattle.wc_world.proofs.ReachedLists.{option_map_some}
use Rattle.wc_machine.specs.Paths.{kills}
use Rattle.wc_machine.specs.Recorded.{recorded_inputs}
use Rattle.wc_machine.specs.Rest.{GivesTree, levels_of, meant}
use Rattle.wc_machine.specs.Sound.{IsMeant}
use Rattle.wc_soundness.specs.ResultLaws.{RunAlike, OneMeaning, RecordedIsMeant}

-- with more fuel the tree is the same
more_fuel : (w : World) (r : ProcessRecord) (table : Table) (cuts : Kills) (n k : ℕ) (t : Tree) → GivesTree (meant w r table cuts n) t
    → GivesTree (meant w r table cuts (n + k)) t
more_fuel w r table cuts n k t g =
    let inputs = recorded_inputs w r.node in
    let l = option_map_some (λ library. meaning (levels_of r) library table cuts n r.definition inputs) (library_at w.libraries r.library) (Gave g.0 g.1) g.2 in
    let more : MoreAnswer k (meaning (levels_of r) l.0 table cuts n r.definition inputs) (meaning (levels_of r) l.0 table cuts (n + k) r.definition inputs)
    = meaning_more (levels_of r) l.0 table cuts n (n + k) k r.definition inputs refl in
    let gave : meaning (levels_of r) l.0 table cuts (n + k) r.definition inputs ≡ Gave g.0 (g.1 + k)
    = subst (λ (a : Answer). MoreAnswer k a (meaning (levels_of r) l.0 table cuts (n + k) r.definition inputs)) l.2 more in (
      g.0,
      g.1 + k,
      ap (option_map (λ library. meaning (levels_of r) library table cuts (n + k) r.definition inputs)) l.1 ∙ ap (λ (a : Answer). Some a) gave,
      g.3,
    )

pub recorded_is_meant : RecordedIsMeant
recorded_is_meant w r table k s ended agrees =
    let m = found_holds (λ q. has_ended q.state ≡ true → IsMeant w q) r.node w.records r s.ended ended.found ended.ended table agrees in
    (m.0, m.1, more_fuel w r table (kills w r.node) r.fuel k m.0 m.2)

-- an answer is one tree
one_tree : (a : Option Answer) (t u : Tree) → GivesTree a t → GivesTree a u → t ≡ u
one_tree a t u g h =
    let same : Some (Gave g.0 g.1) ≡ Some (Gave h.0 h.1) = sym g.2 ∙ h.2 in
    let tree : g.0 ≡ h.0 = cc in
    sym g.3 ∙ ap (λ (x : Replayed). x.tree) tree ∙ h.3

-- processes that run the same mean the same
same_meant : (v w : World) (p q : ProcessRecord) (table : Table) (n : ℕ) → RunAlike v w p q
    → meant v p table (kills v p.node) n ≡ meant w q table (kills w q.node) n
same_meant v w p q table n a =
    λ i. option_map (λ library. meaning (16 - a.depth i) library table (λ path. a.kills path i) n (a.definition i) (a.inputs i)) (a.library i)

pub one_meaning : OneMeaning
one_meaning v w p q table s z ended over alike agrees as_well =
    let here : IsMeant v p = found_holds (λ r. has_ended r.state ≡ true → IsMeant v r) p.node v.records p s.ended ended.found ended.ended in
    let there : IsMeant w q = found_holds (λ r. has_ended r.state ≡ true → IsMeant w r) q.node w.records q z.ended over.found over.ended in
    let one = here table agrees in
    let other = there table as_well in
    let all : GivesTree (meant v p table (kills v p.node) (p.fuel + q.fuel)) one.0 = more_fuel v p table (kills v p.node) p.fuel q.fuel one.0 one.2 in
    let more : GivesTree (meant w q table (kills w q.node) (q.fuel + p.fuel)) other.0 = more_fuel w q table (kills w q.node) q.fuel p.fuel other.0 other.2 in
    let sum : q.fuel + p.fuel ≡ p.fuel + q.fuel = omega arith in
    let same : GivesTree (meant w q table (kills w q.node) (p.fuel + q.fuel)) one.0
    = subst (λ (x : Option Answer). GivesTree x one.0) (same_meant v w p q table (p.fuel + q.fuel) alike) all in
    let tree : one.0 ≡ other.0
    = one_tree (meant w q table (kills w q.node) (p.fuel + q.fuel)) one.0 other.0 same (subst (λ (n : ℕ). GivesTree (meant w q table (kills w q.node) n) other.0) sum more) in
    one.1 ∙ ap (λ (t : Tree). Some t) tree ∙ sym other.1
