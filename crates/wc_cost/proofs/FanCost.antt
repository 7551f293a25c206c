-- The work chain with two jobs takes 14 turns, by computation.
use Rattle.std.proofs.Common.{◌≡◌, ℕ, ◌+◌, false, [], ◌∷◌, Option, Some, None, refl, sym, ap, ◌∙◌}
use Rattle.std.specs.Prelude.{pos, codes, option_map, option_and_then}
use Rattle.wc_value.specs.declared.process.Tree.{Tree}
use Rattle.wc_syntax.specs.declared.definition.Definition.TheVariants as definition
use Rattle.wc_syntax.specs.declared.outline.Step.{Step}
use Rattle.wc_syntax.specs.declared.outline.Instr.TheVariants as instr
use Rattle.wc_syntax.specs.declared.outline.Instr.TheOpen.{Instr-F}
use Rattle.wc_state.specs.declared.environment.Item.TheVariants as item
use Rattle.wc_expression.specs.declared.outcome.Outcome.TheVariants.{Gives}
use Rattle.wc_semantics.specs.Outcomes.{parsed}
use Rattle.wc_semantics.specs.Requests.{request}
use Rattle.wc_semantics.specs.Meaning.{meaning}
use Rattle.wc_semantics.specs.Run as runs
use Rattle.wc_semantics.specs.Statements as statements
use Rattle.wc_semantics.specs.Tables.{Kills, Label, Table, under}
use Rattle.wc_semantics.specs.declared.progress.Answer.TheVariants.{Gave}
use Rattle.wc_semantics.specs.declared.progress.Progress.{Progress}
use Rattle.wc_machine.specs.Paths.{kills}
use Rattle.wc_soundness.specs.Library.{double, fan, go, done, library}
use Rattle.wc_soundness.specs.FanWorlds as fans
use Rattle.wc_soundness.proofs.Expressions.{x_is, request_two, request_three, parsed_four, parsed_six}
use Rattle.wc_soundness.proofs.Meant.{before, begun, done_sets, fan_instrs, go_plans, job_called, job_child, job_replayed, kinds, one_label, plan, takes, two_label}
use Rattle.wc_value.specs.declared.process.JobResult.{JobResult}
use Rattle.wc_value.specs.declared.process.Request.{Request}
use Rattle.wc_syntax.specs.declared.outline.Instr.{out-Instr, out-roll-Instr}
use Rattle.wc_cost.specs.Cost.{Tolls, bill, cost, due_of, front_cost, job_cost, more, price, price_by, step_cost, tolls, unasked}
use Rattle.wc_cost.specs.Left.{by_request}
use Rattle.wc_cost.specs.SmallLaws.{FanCosts, HasRows}

step_opened : (s : Step) → out-Instr (instr.Step s) ≡ Instr-F.Step s
step_opened s = ap out-Instr (sym (instr.rolls-Step s)) ∙ out-roll-Instr (Instr-F.Step s)

-- ---- what it costs

module _ (results : Request → Option JobResult) (rows : HasRows results) where
  abbrev lives : Kills
  lives = kills fans.created 2

  abbrev table : Table
  table = by_request results

  abbrev g : Tolls
  g = tolls 15 library table lives fan.head.outputs

  -- each job takes five turns
  job_due : (label : Label) (b n digit asks m : ℕ) → lives (label ∷ []) ≡ None → request double (x_is n) ≡ Gives (fans.request asks)
      → results (fans.request asks) ≡ Some (fans.result digit) → parsed double (x_is n) (fans.result digit) ≡ fans.job_outcome digit (pos m)
      → g.due label b (codes "double") (x_is n) ≡ Some (fans.job_tree digit (pos m), 5)
  job_due label b n digit asks m alive requests row parses =
      let called : meaning 14 library (under label table) (under label lives) b (codes "double") (x_is n) ≡ Gave (job_replayed digit asks m) b =
      job_called table lives label n digit asks m alive requests row parses b in
      let costs : price 14 library (under label table) (under label lives) b (codes "double") (x_is n) ≡ Some 5 =
      ap (λ o. price_by o (Some (definition.Job double)) results (λ ports. cost (tolls 14 library table (under label lives) ports) b) (x_is n)) alive
      ∙ ap (λ o. job_cost o results) requests
      ∙ ap (option_map (λ (result : JobResult). 5)) row in
      λ i. due_of (called i) (costs i)

  abbrev first_tree : Tree
  first_tree = fans.job_tree 52 (pos 4)

  abbrev second_tree : Tree
  second_tree = fans.job_tree 54 (pos 6)

  first_due : (b : ℕ) → g.due fans.one b (codes "double") (x_is 2) ≡ Some (first_tree, 5)
  first_due b = job_due fans.one b 2 52 50 4 refl request_two rows.first parsed_four

  second_due : (b : ℕ) → g.due fans.two b (codes "double") (x_is 3) ≡ Some (second_tree, 5)
  second_due b = job_due fans.two b 3 54 51 6 refl request_three rows.second parsed_six

  -- with the first call bound, and with both
  abbrev midway : Progress
  midway = runs.with_call (plan 2) fans.one (unasked first_tree) begun

  abbrev both : Progress
  both = runs.with_call (plan 3) fans.two (unasked second_tree) midway

  second_billed : (b : ℕ) → bill g b (plan 3 ∷ []) midway ≡ Some (5, both)
  second_billed b =
      ap (λ l. option_and_then (λ (d : Tree × ℕ). option_map (λ (r : ℕ × Progress). (d.1 + r.0, r.1)) (bill g b [] (runs.with_call (plan 3) l (unasked d.0) midway))) (g.due l b (codes "double") (x_is 3))) two_label
      ∙ ap (option_and_then (λ (d : Tree × ℕ). option_map (λ (r : ℕ × Progress). (d.1 + r.0, r.1)) (bill g b [] (runs.with_call (plan 3) fans.two (unasked d.0) midway)))) (second_due b)

  both_billed : (b : ℕ) → bill g b (plan 2 ∷ (plan 3 ∷ [])) begun ≡ Some (10, both)
  both_billed b =
      ap (λ l. option_and_then (λ (d : Tree × ℕ). option_map (λ (r : ℕ × Progress). (d.1 + r.0, r.1)) (bill g b (plan 3 ∷ []) (runs.with_call (plan 2) l (unasked d.0) begun))) (g.due l b (codes "double") (x_is 2))) one_label
      ∙ ap (option_and_then (λ (d : Tree × ℕ). option_map (λ (r : ℕ × Progress). (d.1 + r.0, r.1)) (bill g b (plan 3 ∷ []) (runs.with_call (plan 2) fans.one (unasked d.0) begun)))) (first_due b)
      ∙ ap (option_map (λ (r : ℕ × Progress). (5 + r.0, r.1))) (second_billed b)

  -- the second step, and the end
  last_costs : cost g 2 (instr.Step done ∷ []) both ≡ Some 2
  last_costs =
      ap (λ y. more 1 (front_cost g y (instr.Step done) (cost g 1) 1 [] both)) (step_opened done)
      ∙ (λ i. more 1 (step_cost g (statements.statements false takes kinds done.stmts []
      (record { inputs = before.inputs; ctx = (fans.parts, item.Many (job_child 52 50 4 i ∷ (job_child 54 51 6 i ∷ []))) ∷ [] }) []) (cost g 1) 1 [] both))
      ∙ ap (λ s. more 1 (step_cost g s (cost g 1) 1 [] both)) done_sets

  fan_costs_so : cost g 3 (instr.Step go ∷ (instr.Step done ∷ [])) begun ≡ Some 14
  fan_costs_so =
      ap (λ y. more 1 (front_cost g y (instr.Step go) (cost g 2) 2 (instr.Step done ∷ []) begun)) (step_opened go)
      ∙ ap (λ s. more 1 (step_cost g s (cost g 2) 2 (instr.Step done ∷ []) begun)) go_plans
      ∙ ap (λ o. more 1 (option_and_then (λ (r : ℕ × Progress). more (1 + r.0) (cost g 2 (instr.Step done ∷ []) r.1)) o)) (both_billed 2)
      ∙ ap (λ o. more 1 (more 11 o)) last_costs

  priced : price 15 library table lives 3 (codes "fan") fans.input ≡ Some 14
  priced = ap (λ is. cost g 3 is begun) fan_instrs ∙ fan_costs_so

pub fan_costs : FanCosts
fan_costs results rows = (14, 0, (3, priced results rows), refl, refl)
