-- The number of the block that is entered, arm by arm.
use Rattle.std.proofs.Common.{◌≡◌, ℕ, ◌+◌, Bool, true, false, List, [], ◌∷◌, ◌++◌, Option, Some, length, refl, sym, ap, ◌∙◌, arith}
use Rattle.std.specs.Borrow.{Bor}
use Rattle.std.specs.Prelude.{if◌then◌else◌, flat_map}
use Rattle.std.proofs.lemmas.List.{length-map, length-append}
use Rattle.wc_value.specs.declared.process.Reason.{Reason}
use Rattle.wc_syntax.specs.declared.outline.Arm.{Arm, out-Arm}
use Rattle.wc_syntax.specs.declared.outline.Block.{Block}
use Rattle.wc_syntax.specs.declared.outline.Instr.{Instr}
use Rattle.wc_state.specs.declared.environment.Env.{Env}
use Rattle.wc_expression.specs.declared.outcome.Outcome.{Outcome}
use Rattle.wc_expression.specs.declared.outcome.Outcome.TheVariants.{Gives, Faults}
use Rattle.wc_expression.specs.Outcomes.{◌>>=◌}
use Rattle.wc_expression.specs.Val.{holds}
use Rattle.wc_machine.specs.Advances.{block_count}
use Rattle.wc_machine.specs.Outlines.{Blocks, blocks, blocks_in}
use Rattle.wc_outline.specs.Places.{behind, picked_from}

module _ (n : ℕ) (x : Arm) (xs : List Arm) (other : Option Block) (env : Env) where
  abbrev by_condition : Outcome Bool → Outcome (Option ℕ)
  by_condition o = o >>= (λ b. if b then Gives (Some n) else picked_from (n + length (blocks (out-Arm x).block)) xs other env)

  pub pick_on : holds (out-Arm x).condition env ≡ Gives false → picked_from n (x ∷ xs) other env ≡ picked_from (n + length (blocks (out-Arm x).block)) xs other env
  pick_on h = ap by_condition h

  pub pick_here : holds (out-Arm x).condition env ≡ Gives true → picked_from n (x ∷ xs) other env ≡ Gives (Some n)
  pick_here h = ap by_condition h

  pub pick_faults : (r : Reason) → holds (out-Arm x).condition env ≡ Faults r → picked_from n (x ∷ xs) other env ≡ Faults r
  pick_faults r h = ap by_condition h

-- ---- how many blocks were passed

count_is : (is : List Instr) → block_count is ≡ length (flat_map blocks_in is)
count_is [] = refl
count_is (i ∷ is) = ap (λ m. length (blocks_in i) + m) (count_is is) ∙ sym (length-append (blocks_in i) (flat_map blocks_in is))

pub passed_more : (found new : List (Bor (List Instr))) (bs : Blocks) → behind new ≡ behind found ++ bs → length new ≡ length found + length bs
passed_more found new bs h =
    omega (arith, ap (length {A = List Instr}) h, length-append (behind found) bs, length-map found (λ r. r.now), length-map new (λ r. r.now))

pub passed_in : (found new : List (Bor (List Instr))) (is : List Instr) → found ≡ [] → behind new ≡ behind found ++ flat_map blocks_in is → length new ≡ block_count is
passed_in found new is e h =
    let none : length found ≡ 0 = ap (length {A = Bor (List Instr)}) e in
    let more : length new ≡ length found + length (flat_map blocks_in is) = passed_more found new (flat_map blocks_in is) h in
    omega (arith, none, more, count_is is)
