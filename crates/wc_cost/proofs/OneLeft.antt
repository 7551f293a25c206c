-- What is left of a world is one number.
use Rattle.std.proofs.Common.{◌≡◌, ℕ, suc, ◌+◌, List, [], ◌∷◌, Option, Some, None, sym, ap, subst, ◌∙◌, arith}
use Rattle.wc_value.specs.declared.process.JobResult.{JobResult}
use Rattle.wc_value.specs.declared.process.Request.{Request}
use Rattle.wc_syntax.specs.declared.definition.Chain.{Chain}
use Rattle.wc_syntax.specs.declared.definition.Definition.{Definition}
use Rattle.wc_syntax.specs.declared.definition.Definition.TheVariants as definition
use Rattle.wc_expression.specs.declared.outcome.Outcome.{Outcome}
use Rattle.wc_expression.specs.declared.outcome.Outcome.TheVariants.{Gives, Faults}
use Rattle.wc_semantics.specs.declared.progress.Planned.{Planned}
use Rattle.wc_semantics.specs.declared.progress.Progress.{Progress}
use Rattle.wc_state.specs.declared.record.Checkpoint.{Checkpoint}
use Rattle.wc_state.specs.declared.record.Part.{Part}
use Rattle.wc_state.specs.declared.record.Part.TheVariants as part
use Rattle.wc_state.specs.declared.record.ProcessRecord.{ProcessRecord}
use Rattle.wc_state.specs.declared.record.Task.{Task}
use Rattle.wc_world.specs.World.{World}
use Rattle.wc_world.specs.Records.{library_at}
use Rattle.wc_machine.specs.Outlines.{blocks, left}
use Rattle.wc_machine.specs.Paths.{kills}
use Rattle.wc_machine.specs.Recorded.{its_definition, recorded_inputs, recorded_request}
use Rattle.wc_machine.specs.Rest.{awaited, levels_of, progress_of}
use Rattle.wc_cost.specs.Cost.{Costs, Tolls, bill}
use Rattle.wc_cost.specs.Laws.{LeftIsOne}
use Rattle.wc_cost.specs.Left.{AllOwe, ChainOwes, FreshOwes, JobOwes, PartOwes, by_request, its_tolls}
use Rattle.wc_cost.proofs.Cost.{KeepsDue, bill_keeps, cost_unique, kept}
use Rattle.wc_cost.proofs.Prices.{price_unique, tolls_keep}

same_bill : (o : Option (ℕ × Progress)) (x y : ℕ × Progress) → o ≡ Some x → o ≡ Some y → x ≡ y
same_bill o x y p q = let e : Some x ≡ Some y = sym p ∙ q in cc

-- one bill at most, whatever the bounds
pub bill_unique : (g : Tolls) → KeepsDue g.due → (ps : List Planned) (e : Progress) (b b' : ℕ) (x y : ℕ × Progress) → bill g b ps e ≡ Some x → bill g b' ps e ≡ Some y → x ≡ y
bill_unique g c ps e b b' x y p q =
    same_bill (bill g (b + b') ps e) x y (kept (bill g b ps e) (bill g (b + b') ps e) x p (bill_keeps g c b (b + b') (omega arith) ps e))
    (kept (bill g b' ps e) (bill g (b + b') ps e) y q (bill_keeps g c b' (b + b') (omega arith) ps e))

module _ (results : Request → Option JobResult) (w : World) where
  its_keep : (r : ProcessRecord) (library : List Definition) (k : Chain) → KeepsDue (its_tolls results w r library k).due
  its_keep r library k = tolls_keep (levels_of r) library (by_request results) (kills w r.node) k.head.outputs

  chain_one : (r : ProcessRecord) (c : Checkpoint) (library : Option (List Definition)) (d : Option Definition) (a : Option (List Planned)) (e : Option Progress) (m n : ℕ)
      → ChainOwes results w r c library d a e m → ChainOwes results w r c library d a e n → m ≡ n
  chain_one r c None d a e m n p q = absurd p
  chain_one r c (Some library) None a e m n p q = absurd p
  chain_one r c (Some library) (Some (definition.Function f)) a e m n p q = absurd p
  chain_one r c (Some library) (Some (definition.Job j)) a e m n p q = absurd p
  chain_one r c (Some library) (Some (definition.Chain k)) None e m n p q = absurd p
  chain_one r c (Some library) (Some (definition.Chain k)) (Some []) None m n p q = absurd p
  chain_one r c (Some library) (Some (definition.Chain k)) (Some (x ∷ xs)) None m n p q = absurd p
  chain_one r c (Some library) (Some (definition.Chain k)) (Some []) (Some e) m n p q =
      cost_unique (its_tolls results w r library k) (its_keep r library k) (left (blocks k.outline) c.frames) e m n p q
  chain_one r c (Some library) (Some (definition.Chain k)) (Some (x ∷ xs)) (Some e) m n (b, s, d, rest, h, costs, is) (b', s', d', rest', h', costs', is') =
      let one : (s, d) ≡ (s', d') = bill_unique (its_tolls results w r library k) (its_keep r library k) (x ∷ xs) e b b' (s, d) (s', d') h h' in
      let there : d ≡ d' = ap (λ (z : ℕ × Progress). z.1) one in
      let same : rest ≡ rest' = cost_unique (its_tolls results w r library k) (its_keep r library k) (left (blocks k.outline) c.frames) d' rest rest'
      (subst (λ (z : Progress). Costs (its_tolls results w r library k) (left (blocks k.outline) c.frames) z rest) there costs) costs' in
      is ∙ ap suc same ∙ sym is'

  job_one : (t : Task) (o : Option (Outcome Request)) (m n : ℕ) → JobOwes results w t o m → JobOwes results w t o n → m ≡ n
  job_one t None m n p q = absurd p
  job_one t (Some (Faults f)) m n p q = absurd p
  job_one t (Some (Gives r)) m n (x, h, is) (x', h', is') = is ∙ sym is'

  fresh_one : (r : ProcessRecord) (library : Option (List Definition)) (m n : ℕ) → FreshOwes results w r library m → FreshOwes results w r library n → m ≡ n
  fresh_one r None m n p q = absurd p
  fresh_one r (Some library) m n p q = price_unique (levels_of r) library (by_request results) (kills w r.node) r.definition (recorded_inputs w r.node) m n p q

  -- A process owes one number at most.
  pub part_one : (r : ProcessRecord) (x : Part) (m n : ℕ) → PartOwes results w r x m → PartOwes results w r x n → m ≡ n
  part_one r part.Fresh m n p q = fresh_one r (library_at w.libraries r.library) m n p q
  part_one r (part.Chain c) m n p q = chain_one r c (library_at w.libraries r.library) (its_definition w r) (awaited w c.awaiting) (progress_of w r c) m n p q
  part_one r (part.Job j) m n p q = job_one j.task (recorded_request w r) m n p q
  part_one r part.Over m n p q = p ∙ sym q

  pub all_one : (rs : List ProcessRecord) (m n : ℕ) → AllOwe results w rs m → AllOwe results w rs n → m ≡ n
  all_one [] m n p q = p ∙ sym q
  all_one (r ∷ rs) m n (a, b, h, t, is) (a', b', h', t', is') =
      let here : a ≡ a' = part_one r r.part a a' h h' in
      let there : b ≡ b' = all_one rs b b' t t' in
      omega (arith, here, there, is, is')

pub left_is_one : LeftIsOne
left_is_one results w j k p q = all_one results w w.records j k p q
