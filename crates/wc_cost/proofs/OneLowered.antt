-- Where the record of one process alone is set anew, what is left falls by what that process owes less.
use Rattle.std.proofs.Common.{◌≡◌, ◌≢◌, ℕ, ◌+◌, ◌<◌, ◌≤◌, Bool, true, false, List, [], ◌∷◌, Option, Some, inl, inr, ◌⊎◌, length, refl, sym, ap, subst, ◌∙◌, arith}
use Rattle.std.specs.Prelude.{All, ◌==◌, if◌then◌else◌}
use Rattle.std.proofs.lemmas.Bool.{cases_eq, cond-true, eq-eqb, eqb-true}
use Rattle.std.proofs.lemmas.List.Elements.{All-head, All-tail}
use Rattle.wc_value.specs.declared.process.JobResult.{JobResult}
use Rattle.wc_value.specs.declared.process.Request.{Request}
use Rattle.wc_semantics.specs.Meaning.{is_killed}
use Rattle.wc_state.specs.declared.record.ProcessRecord.{ProcessRecord}
use Rattle.wc_world.specs.Records.{at_process, find_record}
use Rattle.wc_world.specs.World.{World}
use Rattle.wc_world.proofs.ReachedLists.{found_node, unique}
use Rattle.wc_machine.specs.Sound.{IsSound}
use Rattle.wc_soundness.specs.Touches.{MayBeTouched, Touches}
use Rattle.wc_soundness.proofs.AtOne.{found_one, found_other}
use Rattle.wc_soundness.proofs.Sums.{found_within, only, only_once, sum_of}
use Rattle.wc_soundness.proofs.Touched.{within}
use Rattle.wc_cost.specs.Touches.{KillsNone}
use Rattle.wc_cost.specs.Left.{AllOwe, IsLeft, PartOwes}
use Rattle.wc_cost.proofs.Bystanders.{others_owe_the_same}
use Rattle.wc_cost.proofs.OneLeft.{part_one}

-- what a process of a list owes
pub owed_in : (results : Request → Option JobResult) (w : World) (pid : ℕ) (r : ProcessRecord) (rs : List ProcessRecord) (k : ℕ) → AllOwe results w rs k → find_record pid rs ≡ Some r
    → (n : ℕ) × PartOwes results w r r.part n
owed_in results w pid r [] k h found = absurd (cc found)
owed_in results w pid r (x ∷ xs) k (a, b, one, rest, sum) found = at (x.node == pid) found (owed_in results w pid r xs b rest)
  where
    at : (here : Bool) → (if here then Some x else find_record pid xs) ≡ Some r → (find_record pid xs ≡ Some r → (n : ℕ) × PartOwes results w r r.part n)
        → (n : ℕ) × PartOwes results w r r.part n
    at true is later = let same : x ≡ r = cc in (a, subst (λ (y : ProcessRecord). PartOwes results w y y.part a) same one)
    at false is later = later is

-- ---- the sum over the records that were there

module _ (results : Request → Option JobResult) (v w : World) (pid : ℕ) (f : ProcessRecord → ProcessRecord) (s : IsSound v) (t : Touches v w pid) (may : MayBeTouched v pid)
    (none : KillsNone v w pid) (r : ProcessRecord) (found : find_record pid v.records ≡ Some r)
    (j m : ℕ) (new : PartOwes results w (f r) (f r).part m) (was : PartOwes results v r r.part (m + j)) where
  abbrev IsThere : ProcessRecord → Type 0
  IsThere x = find_record x.node v.records ≡ Some x

  one_lowered : (x : ProcessRecord) → IsThere x → (n : ℕ) → PartOwes results v x x.part n → (here : Bool) → (x.node == pid) ≡ here
      → (l : ℕ) × PartOwes results w (if here then f x else x) (if here then f x else x).part l × (n ≡ l + (if here then j else 0))
  one_lowered x there n h true is =
      let e : x.node ≡ pid = eqb-true x.node pid is in
      let again : Some x ≡ Some r = sym there ∙ ap (λ (i : ℕ). find_record i v.records) e ∙ found in
      let same : x ≡ r = cc in
      let sum : n ≡ m + j = part_one results v r r.part n (m + j) (subst (λ (y : ProcessRecord). PartOwes results v y y.part n) same h) was in
      (m, subst (λ (y : ProcessRecord). PartOwes results w (f y) (f y).part m) (sym same) new, sum)
  one_lowered x there n h false is =
      let sum : n ≡ n + 0 = omega arith in
      (n, others_owe_the_same results v w pid s t may none x there (λ e. let yes : (x.node == pid) ≡ true = eq-eqb x.node pid (sym e) in cc (yes, is)) n h, sum)

  all_lowered : (rs : List ProcessRecord) → All IsThere rs → (k : ℕ) → AllOwe results v rs k → (l : ℕ) × AllOwe results w (at_process pid f rs) l × (k ≡ l + sum_of (only pid j) rs)
  all_lowered [] there k h = (0, refl, h)
  all_lowered (x ∷ xs) there k (a, b, one, rest, sum) =
      let here = one_lowered x (All-head IsThere x xs there) a one (x.node == pid) refl in
      let later = all_lowered xs (All-tail IsThere x xs there) b rest in
      let e = here.2 in
      let d = later.2 in
      (here.0 + later.0, (here.0, later.0, here.1, later.1, refl), omega (arith, sum, e, d))

  pub old_lowered : (k : ℕ) → IsLeft results v k → (l : ℕ) × AllOwe results w (at_process pid f v.records) l × (k ≡ l + j)
  old_lowered k h =
      let all = all_lowered v.records (λ i d lt. unique 1 v.nodes v.records s.consistent.numbered i d lt) k h in
      let number : r.node ≡ pid = found_node pid v.records r found in
      let most : sum_of (only pid j) v.records ≤ j = only_once 1 v.nodes v.records s.consistent.numbered pid j in
      let its : only pid j r ≡ j = cond-true (r.node == pid) j 0 (eq-eqb r.node pid number) in
      let least : only pid j r ≤ sum_of (only pid j) v.records = found_within (only pid j) pid v.records r found in
      let sum = all.2 in
      (all.0, all.1, omega (arith, most, its, least, sum))

-- ---- where there are no other records

module _ (results : Request → Option JobResult) (v w : World) (pid : ℕ) (f : ProcessRecord → ProcessRecord) (s : IsSound v) (t : Touches v w pid) (may : MayBeTouched v pid)
    (records : w.records ≡ at_process pid f v.records) (keeps : (x : ProcessRecord) → (f x).node ≡ x.node)
    (r : ProcessRecord) (found : find_record pid v.records ≡ Some r) (lives : is_killed (f r).state ≡ false) where
  number : r.node ≡ pid
  number = found_node pid v.records r found

  now_found : find_record pid w.records ≡ Some (f r)
  now_found = ap (find_record pid) records ∙ found_one pid f keeps v.records r number found

  pub kills_none : KillsNone v w pid
  kills_none q is which = elim (cases_eq pid q.node) [
    | inl e ↦
        let again : Some q ≡ Some (f r) = sym is ∙ ap (λ (n : ℕ). find_record n w.records) (sym e) ∙ now_found in
        let same : q ≡ f r = cc in
        ap (λ (x : ProcessRecord). is_killed x.state) same ∙ lives
    | inr ne ↦ absurd (old ne which)
  ]
    where
      old : pid ≢ q.node → (pid ≡ q.node) ⊎ (length v.nodes < q.node) → ⊥
      old ne (inl e) = ne e
      old ne (inr beyond) =
          let before : find_record q.node v.records ≡ Some q = sym (found_other pid f keeps v.records q.node ne) ∙ sym (ap (find_record q.node) records) ∙ is in
          let low : q.node ≤ length v.nodes = within v w pid s t may q.node q before in
          let high : length v.nodes < q.node = beyond in
          omega (arith, low, high)

  pub lowered : (j m : ℕ) (new : PartOwes results w (f r) (f r).part m) (was : PartOwes results v r r.part (m + j)) (k : ℕ) → IsLeft results v k
      → (l : ℕ) × IsLeft results w l × (k ≡ l + j)
  lowered j m new was k h =
      let all = old_lowered results v w pid f s t may kills_none r found j m new was k h in
      (all.0, subst (λ (rs : List ProcessRecord). AllOwe results w rs all.0) (sym records) all.1, all.2)
