-- What a generated chain means, and how many turns it takes: at most 17, whatever its expressions give.
use Rattle.std.proofs.Common.{◌≡◌, ◌<◌, ◌≤◌, ◌+◌, ℕ, suc, Bool, true, false, List, [], ◌∷◌, ◌++◌, Option, Some, None, refl, sym, ap, subst, ◌∙◌, arith}
use Rattle.std.specs.Prelude.{codes, if◌then◌else◌, option_and_then, option_map, pos}
use Rattle.wc_value.specs.Ascending.{put}
use Rattle.wc_value.specs.declared.process.JobResult.{JobResult}
use Rattle.wc_value.specs.declared.process.Reason.TheVariants.{BadInput}
use Rattle.wc_value.specs.declared.process.Request.{Request}
use Rattle.wc_value.specs.declared.process.Tree.{Tree}
use Rattle.wc_value.specs.declared.value.Kind.{Kind}
use Rattle.wc_value.specs.declared.value.Value.{Value, out-Value}
use Rattle.wc_value.specs.declared.value.Value.TheVariants as value
use Rattle.wc_syntax.specs.declared.definition.Definition.TheVariants as definition
use Rattle.wc_syntax.specs.declared.definition.Port.{Port}
use Rattle.wc_syntax.specs.declared.expression.Expr.{Expr}
use Rattle.wc_syntax.specs.declared.expression.Form.{Form, map-Form, out-Form, roll-Form, fold-roll-Form}
use Rattle.wc_syntax.specs.declared.expression.Form.TheOpen.{Form-F}
use Rattle.wc_syntax.specs.declared.expression.Form.TheVariants as form
use Rattle.wc_syntax.specs.declared.outline.Block.{out-roll-Block}
use Rattle.wc_syntax.specs.declared.outline.CallStmt.{CallStmt}
use Rattle.wc_syntax.specs.declared.outline.Instr.{Instr, fold-roll-Instr, out-Instr, out-roll-Instr}
use Rattle.wc_syntax.specs.declared.outline.Instr.TheOpen.{Instr-F}
use Rattle.wc_syntax.specs.declared.outline.Instr.TheVariants as instr
use Rattle.wc_syntax.specs.declared.outline.Step.{Step}
use Rattle.wc_syntax.specs.declared.outline.Stmt.{Stmt}
use Rattle.wc_syntax.specs.declared.outline.Stmt.TheVariants as stmt
use Rattle.wc_state.specs.declared.environment.Env.{Env}
use Rattle.wc_expression.specs.declared.outcome.Outcome.{Outcome}
use Rattle.wc_expression.specs.declared.outcome.Outcome.TheVariants.{Gives, Faults}
use Rattle.wc_expression.specs.Outcomes.{◌>>=◌}
use Rattle.wc_expression.specs.Val as values
use Rattle.wc_expression.specs.Val.{Meant, limited, val, val_form}
use Rattle.wc_semantics.specs.Meaning.{around, by_kill, by_result, calls_of, ended, job, kinds_of, leaf, meaning, surrounding, takes_of, within}
use Rattle.wc_semantics.specs.Meaning as meanings
use Rattle.wc_semantics.specs.Outcomes.{calculated, parsed}
use Rattle.wc_semantics.specs.Rules.{Values, env_of}
use Rattle.wc_semantics.specs.Run as runs
use Rattle.wc_semantics.specs.Run.{Act, Around, exec, next_label, run, step_of, stopped, take_calls, with_call, ◌>->◌}
use Rattle.wc_semantics.specs.Statements as statements
use Rattle.wc_semantics.specs.Tables.{Kills, Label, Table, row_of, under}
use Rattle.wc_semantics.specs.declared.progress.Answer.TheVariants.{Gave}
use Rattle.wc_semantics.specs.declared.progress.Flow.{Flow}
use Rattle.wc_semantics.specs.declared.progress.Flow.TheVariants.{Goes, Ends, NoFuel, Lacks, Off}
use Rattle.wc_semantics.specs.declared.progress.Planned.{Planned}
use Rattle.wc_semantics.specs.declared.progress.Progress.{Progress}
use Rattle.wc_semantics.specs.declared.progress.Replayed.{Replayed}
use Rattle.wc_semantics.specs.declared.progress.Stepped.TheVariants.{Makes}
use Rattle.wc_ends.proofs.Soundness.Expressions.{x_is}
use Rattle.wc_ends.specs.Costs.Cost.{Prices, Tolls, bill, cost, due_of, front_cost, job_cost, more, price, price_by, step_cost, tolls, unasked}
use Rattle.wc_ends.specs.Costs.Left.{by_request}
use Rattle.wc_drill.specs.Library.{chain_inputs, chain_name, first, given, input, last, library, output_of, pair, second, square, total, word}
use Rattle.wc_drill.specs.Squares.{square_request, square_result, square_rows}
use Rattle.wc_drill.proofs.SquaredJobs.{square_asks, square_there}

-- ---- what surrounds it

-- the results that the table has
abbrev pub results : Request → Option JobResult
results q = row_of q (square_rows 100)

abbrev pub squares : Table
squares = by_request results

-- neither the chain nor one that it calls is killed
pub record LivesOn (lives : Kills) : Type 0 where
  pub chain : lives [] ≡ None
  pub called : (label : Label) → lives (label ∷ []) ≡ None

abbrev pub kinds : List ℕ → Option Kind
kinds = kinds_of pair.head.outputs

abbrev pub takes : List ℕ → Values → Bool
takes = takes_of library

-- ---- the first step

-- the call of `square` with this number, bound to this key
abbrev pub plan : List ℕ → ℕ → Planned
plan key n = record { callee = codes "square"; key = key; append = false; inputs = x_is n }

abbrev calls_square : (key : List ℕ) → CallStmt
calls_square key = record { at = 0; callee = word (codes "square"); args = given (codes "x") (input key) ∷ []; append = false; key = word key }

-- the value of a form, from its level
pub form_made : (f : Form) (l : Form-F Form Expr) (env : Env) → roll-Form l ≡ f → val_form f env ≡ values.form (map-Form Form Expr Meant Meant val_form val l) env
form_made f l env e = ap (λ m. m env) (ap val_form (sym e) ∙ fold-roll-Form Meant Meant values.form limited l)

a_passed : (a b : ℕ) → statements.argument (input (codes "a")) (env_of (chain_inputs a b)) ≡ Gives (value.Int (pos a))
unfolding out-Form denote.Hole.Carrier.out
a_passed a b = form_made (form.Input 0 (word (codes "a"))) (Form-F.Input 0 (word (codes "a"))) (env_of (chain_inputs a b)) (form.rolls-Input 0 (word (codes "a")))

b_passed : (a b : ℕ) → statements.argument (input (codes "b")) (env_of (chain_inputs a b)) ≡ Gives (value.Int (pos b))
unfolding out-Form denote.Hole.Carrier.out
b_passed a b = form_made (form.Input 0 (word (codes "b"))) (Form-F.Input 0 (word (codes "b"))) (env_of (chain_inputs a b)) (form.rolls-Input 0 (word (codes "b")))

taken : (n : ℕ) → takes (codes "square") (x_is n) ≡ true
unfolding out-Value denote.Hole.Carrier.out
taken n = refl

collected_as : (key : List ℕ) (n : ℕ) (env : Env) → statements.argument (input key) env ≡ Gives (value.Int (pos n))
    → statements.collected false takes (calls_square key) env ≡ Gives (plan key n)
collected_as key n env p =
    ap (λ (v : Outcome Value). (v >>= (λ x. Gives ((codes "x", x) ∷ []))) >>= (λ vs. if takes (codes "square") vs then Gives (statements.planned (calls_square key) vs) else Faults BadInput)) p
    ∙ ap (λ (t : Bool). if t then Gives (plan key n) else Faults BadInput) (taken n)

call_then : (c : CallStmt) (p : Planned) (ss : List Stmt) (ps : List Planned) (env : Env) (outs : Values) → statements.collected false takes c env ≡ Gives p
    → statements.statements false takes kinds (stmt.Call c ∷ ss) ps env outs ≡ statements.statements false takes kinds ss (ps ++ p ∷ []) env outs
call_then c p ss ps env outs h = ap (λ o. statements.or_stops o env outs (λ q. statements.statements false takes kinds ss (ps ++ q ∷ []) env outs)) h

pub first_plans : (a b : ℕ) → statements.statements false takes kinds first.stmts [] (env_of (chain_inputs a b)) []
    ≡ Makes (plan (codes "a") a ∷ (plan (codes "b") b ∷ [])) (env_of (chain_inputs a b)) []
first_plans a b =
    let env : Env = env_of (chain_inputs a b) in
    call_then (calls_square (codes "a")) (plan (codes "a") a) (stmt.Call (calls_square (codes "b")) ∷ []) [] env [] (collected_as (codes "a") a env (a_passed a b))
    ∙ call_then (calls_square (codes "b")) (plan (codes "b") b) [] (plan (codes "a") a ∷ []) env [] (collected_as (codes "b") b env (b_passed a b))

-- ---- the second step and the last

-- the call of `total` with these inputs
abbrev pub sums : Values → Planned
sums vs = record { callee = codes "total"; key = codes "t"; append = false; inputs = vs }

-- what is given to it, if anything
abbrev pub summands : Env → Outcome Values
summands env = statements.arguments (given (codes "a") (output_of (codes "a") (codes "y")) ∷ (given (codes "b") (output_of (codes "b") (codes "y")) ∷ [])) env []

-- the call, or a reason
abbrev pub summed : Outcome Values → Outcome Planned
summed o = o >>= (λ vs. if takes (codes "total") vs then Gives (sums vs) else Faults BadInput)

-- what the last step sets, if anything
abbrev pub its_sum : Env → Outcome Value
its_sum env = statements.output (kinds (codes "s")) (output_of (codes "t") (codes "s")) env

-- ---- the outline

step_opened : (s : Step) → out-Instr (instr.Step s) ≡ Instr-F.Step s
step_opened s = ap out-Instr (sym (instr.rolls-Step s)) ∙ out-roll-Instr (Instr-F.Step s)

does_step : (s : Step) → exec (instr.Step s) ≡ step_of s.stmts
does_step s = ap exec (sym (instr.rolls-Step s)) ∙ fold-roll-Instr Act (Expr × Act) Act runs.instr runs.arm runs.block (Instr-F.Step s)

abbrev pub steps : List Instr
steps = instr.Step first ∷ (instr.Step second ∷ (instr.Step last ∷ []))

pub pair_instrs : runs.instrs pair.outline ≡ steps
pair_instrs = ap (λ b. b.instrs) (out-roll-Block (record { instrs = steps }))

-- ---- its calls

abbrev pub squared : ℕ → Replayed
squared n = leaf (codes "square") (parsed square (x_is n) (square_result n)) (([], square_request n) ∷ [])

abbrev pub totalled : Values → Replayed
totalled vs = leaf (codes "total") (calculated total vs) []

-- ---- ends

-- the run comes to an end
abbrev IsAnEnd : Flow → Type 0
IsAnEnd (Goes n e) = Unit {0}
IsAnEnd (Ends s n e) = Unit {0}
IsAnEnd NoFuel = ⊥
IsAnEnd (Lacks q) = ⊥
IsAnEnd Off = ⊥

gives_tree : (name : List ℕ) (ports : List Port) (f : Flow) → IsAnEnd f → (t : Replayed) × (m : ℕ) × (ended None name ports f ≡ Gave t m)
gives_tree name ports (Goes n e) h = (_, n, refl)
gives_tree name ports (Ends s n e) h = (_, n, refl)
gives_tree name ports NoFuel h = absurd h
gives_tree name ports (Lacks q) h = absurd h
gives_tree name ports Off h = absurd h

module _ (lives : Kills) (alive : LivesOn lives) where
  abbrev around_pair : Around
  around_pair = within pair.head.outputs None (around 15 library squares lives)

  abbrev pub g : Tolls
  g = tolls 15 library squares lives pair.head.outputs

  -- a job gives the tree that its result makes, and takes 5 turns
  square_means : (l : Label) (n fuel : ℕ) → n < 100 → meaning 14 library (under l squares) (under l lives) fuel (codes "square") (x_is n) ≡ Gave (squared n) fuel
  square_means l n fuel small =
      ap (λ o. by_kill o (Some (definition.Job square)) (surrounding library (calls_of 14 library (under l squares) (under l lives))) results fuel (codes "square") (x_is n)) (alive.called l)
      ∙ ap (λ o. job (codes "square") o (parsed square (x_is n)) results fuel) (square_asks n small)
      ∙ ap (λ o. by_result (codes "square") (parsed square (x_is n)) (square_request n) o fuel) (square_there n small)

  square_costs : (l : Label) (n bound : ℕ) → n < 100 → price 14 library (under l squares) (under l lives) bound (codes "square") (x_is n) ≡ Some 5
  square_costs l n bound small =
      ap (λ o. price_by o (Some (definition.Job square)) results (λ ports. cost (tolls 14 library squares (under l lives) ports) bound) (x_is n)) (alive.called l)
      ∙ ap (λ o. job_cost o results) (square_asks n small)
      ∙ ap (option_map (λ (result : JobResult). 5)) (square_there n small)

  square_due : (l : Label) (n bound : ℕ) → n < 100 → g.due l bound (codes "square") (x_is n) ≡ Some ((squared n).tree, 5)
  square_due l n bound small = λ i. due_of (square_means l n bound small i) (square_costs l n bound small i)

  -- the function takes one
  total_means : (l : Label) (vs : Values) (fuel : ℕ) → meaning 14 library (under l squares) (under l lives) fuel (codes "total") vs ≡ Gave (totalled vs) fuel
  total_means l vs fuel =
      ap (λ o. by_kill o (Some (definition.Function total)) (surrounding library (calls_of 14 library (under l squares) (under l lives))) results fuel (codes "total") vs) (alive.called l)

  total_costs : (l : Label) (vs : Values) (bound : ℕ) → price 14 library (under l squares) (under l lives) bound (codes "total") vs ≡ Some 1
  total_costs l vs bound =
      ap (λ o. price_by o (Some (definition.Function total)) results (λ ports. cost (tolls 14 library squares (under l lives) ports) bound) vs) (alive.called l)

  total_due : (l : Label) (vs : Values) (bound : ℕ) → g.due l bound (codes "total") vs ≡ Some ((totalled vs).tree, 1)
  total_due l vs bound = λ i. due_of (total_means l vs bound i) (total_costs l vs bound i)

  -- ---- what they cost together

  -- the first of some calls takes so many turns, and then the others are taken
  one_billed : (bound k : ℕ) (p : Planned) (ps : List Planned) (e : Progress) (t : Tree) → g.due (next_label p e) bound p.callee p.inputs ≡ Some (t, k)
      → bill g bound (p ∷ ps) e ≡ option_map (λ (r : ℕ × Progress). (k + r.0, r.1)) (bill g bound ps (with_call p (next_label p e) (unasked t) e))
  one_billed bound k p ps e t h =
      ap (option_and_then (λ (d : Tree × ℕ). option_map (λ (r : ℕ × Progress). (d.1 + r.0, r.1)) (bill g bound ps (with_call p (next_label p e) (unasked d.0) e)))) h

  -- a step with what stands behind it
  abbrev with_step : (bound : ℕ) → Step → List Instr → Progress → Option ℕ
  with_step bound s is e = more 1 (step_cost g (statements.statements false takes kinds s.stmts [] e.env e.outputs) (cost g bound) bound is e)

  pub step_costs : (bound : ℕ) (s : Step) (is : List Instr) (e : Progress) → cost g (suc bound) (instr.Step s ∷ is) e ≡ with_step bound s is e
  step_costs bound s is e = ap (λ y. more 1 (front_cost g y (instr.Step s) (cost g bound) bound is e)) (step_opened s)

  -- there is a cost, and it is at most this
  abbrev IsAtMost : Option ℕ → ℕ → Type 0
  IsAtMost o most = (k : ℕ) × (o ≡ Some k) × (k ≤ most)

  last_by : (o : Outcome Value) (e : Progress)
      → IsAtMost (more 1 (step_cost g (statements.or_stops o e.env e.outputs (λ v. Makes [] e.env (put (codes "s") v e.outputs))) (cost g 1) 1 [] e)) 2
  last_by (Gives v) e = (2, refl, omega arith)
  last_by (Faults r) e = (1, refl, omega arith)

  last_costs : (e : Progress) → IsAtMost (cost g 2 (instr.Step last ∷ []) e) 2
  last_costs e = let c = last_by (its_sum e.env) e in (c.0, step_costs 1 last [] e ∙ c.1, c.2)

  -- the call of `total`, and what stands behind it
  pub total_billed : (vs : Values) (e : Progress) → bill g 2 (sums vs ∷ []) e ≡ Some (1, with_call (sums vs) (next_label (sums vs) e) (unasked (totalled vs).tree) e)
  total_billed vs e = one_billed 2 1 (sums vs) [] e (totalled vs).tree (total_due (next_label (sums vs) e) vs 2)

  after_total : (vs : Values) (e : Progress) → IsAtMost (more 1 (step_cost g (Makes (sums vs ∷ []) e.env e.outputs) (cost g 2) 2 (instr.Step last ∷ []) e)) 5
  after_total vs e =
      let c = last_costs (with_call (sums vs) (next_label (sums vs) e) (unasked (totalled vs).tree) e) in (
        1 + (2 + c.0),
        ap (λ o. more 1 (option_and_then (λ (r : ℕ × Progress). more (1 + r.0) (cost g 2 (instr.Step last ∷ []) r.1)) o)) (total_billed vs e) ∙ ap (λ o. more 1 (more 2 o)) c.1,
        omega (arith, c.2),
      )

  abbrev pub after_second : Outcome Planned → Progress → Option ℕ
  after_second o e = more 1 (step_cost g (statements.or_stops o e.env e.outputs (λ p. Makes (p ∷ []) e.env e.outputs)) (cost g 2) 2 (instr.Step last ∷ []) e)

  second_taken : (b : Bool) (vs : Values) (e : Progress) → IsAtMost (after_second (if b then Gives (sums vs) else Faults BadInput) e) 5
  second_taken true vs e = after_total vs e
  second_taken false vs e = (1, refl, omega arith)

  second_by : (o : Outcome Values) (e : Progress) → IsAtMost (after_second (summed o) e) 5
  second_by (Gives vs) e = second_taken (takes (codes "total") vs) vs e
  second_by (Faults r) e = (1, refl, omega arith)

  second_costs : (e : Progress) → IsAtMost (cost g 3 (instr.Step second ∷ (instr.Step last ∷ [])) e) 5
  second_costs e = let c = second_by (summands e.env) e in (c.0, step_costs 2 second (instr.Step last ∷ []) e ∙ c.1, c.2)

  -- ---- what its steps come to

  abbrev then_last : ℕ → Progress → Flow
  then_last n e = step_of last.stmts around_pair n e >-> (λ m f. Goes m f)

  abbrev then_second : ℕ → Progress → Flow
  then_second n e = step_of second.stmts around_pair n e >-> then_last

  last_flow : (o : Outcome Value) (n : ℕ) (e : Progress)
      → IsAnEnd (runs.after (statements.or_stops o e.env e.outputs (λ v. Makes [] e.env (put (codes "s") v e.outputs))) around_pair n e >-> (λ m f. Goes m f))
  last_flow (Gives v) n e = tt
  last_flow (Faults r) n e = tt

  last_ends : (n : ℕ) (e : Progress) → IsAnEnd (then_last n e)
  last_ends n e = last_flow (its_sum e.env) n e

  -- the call of `total` is taken
  total_taken : (vs : Values) (n : ℕ) (e : Progress) → take_calls (sums vs ∷ []) around_pair (suc n) e ≡ Goes n (with_call (sums vs) (next_label (sums vs) e) (totalled vs) e)
  total_taken vs n e =
      let l : Label = next_label (sums vs) e in
      ap (λ o. runs.taken o (λ r left. Goes left (with_call (sums vs) l r e))) (total_means l vs n)

  abbrev second_flow : Outcome Planned → ℕ → Progress → Flow
  second_flow o n e = runs.after (statements.or_stops o e.env e.outputs (λ p. Makes (p ∷ []) e.env e.outputs)) around_pair (suc n) e >-> then_last

  second_goes : (t : Bool) (vs : Values) (n : ℕ) (e : Progress) → IsAnEnd (second_flow (if t then Gives (sums vs) else Faults BadInput) n e)
  second_goes true vs n e =
      subst (λ f. IsAnEnd ((f >-> stopped around_pair) >-> then_last)) (sym (total_taken vs n e)) (last_ends n (with_call (sums vs) (next_label (sums vs) e) (totalled vs) e))
  second_goes false vs n e = tt

  second_comes : (o : Outcome Values) (n : ℕ) (e : Progress) → IsAnEnd (second_flow (summed o) n e)
  second_comes (Gives vs) n e = second_goes (takes (codes "total") vs) vs n e
  second_comes (Faults r) n e = tt

  second_ends : (n : ℕ) (e : Progress) → IsAnEnd (then_second (suc n) e)
  second_ends n e = second_comes (summands e.env) n e

  -- both jobs are taken
  abbrev and_square : List ℕ → ℕ → Progress → Progress
  and_square key n e = with_call (plan key n) (next_label (plan key n) e) (squared n) e

  square_taken : (key : List ℕ) (n : ℕ) (ps : List Planned) (fuel : ℕ) (e : Progress) → n < 100
      → take_calls (plan key n ∷ ps) around_pair (suc fuel) e ≡ take_calls ps around_pair fuel (and_square key n e)
  square_taken key n ps fuel e few =
      let l : Label = next_label (plan key n) e in
      ap (λ o. runs.taken o (λ r left. take_calls ps around_pair left (with_call (plan key n) l r e))) (square_means l n fuel few)

  -- ---- the whole

  module _ (a b : ℕ) (small : a < 100) (small_too : b < 100) where
    abbrev pub begun : Progress
    begun = meanings.first (chain_inputs a b)

    -- with the first call bound, and with both
    abbrev pub with_square : List ℕ → ℕ → Progress → Progress
    with_square key n e = with_call (plan key n) (next_label (plan key n) e) (unasked (squared n).tree) e

    abbrev pub with_both : Progress
    with_both = with_square (codes "b") b (with_square (codes "a") a begun)

    pub both_billed : bill g 3 (plan (codes "a") a ∷ (plan (codes "b") b ∷ [])) begun ≡ Some (10, with_both)
    both_billed =
        let midway : Progress = with_square (codes "a") a begun in
        one_billed 3 5 (plan (codes "a") a) (plan (codes "b") b ∷ []) begun (squared a).tree (square_due (next_label (plan (codes "a") a) begun) a 3 small)
        ∙ ap (option_map (λ (r : ℕ × Progress). (5 + r.0, r.1)))
        (one_billed 3 5 (plan (codes "b") b) [] midway (squared b).tree (square_due (next_label (plan (codes "b") b) midway) b 3 small_too))

    all_costs : IsAtMost (cost g 4 steps begun) 17
    all_costs =
        let c = second_costs with_both in (
          1 + (11 + c.0),
          step_costs 3 first (instr.Step second ∷ (instr.Step last ∷ [])) begun
              ∙ ap (λ s. more 1 (step_cost g s (cost g 3) 3 (instr.Step second ∷ (instr.Step last ∷ [])) begun)) (first_plans a b)
              ∙ ap (λ o. more 1 (option_and_then (λ (r : ℕ × Progress). more (1 + r.0) (cost g 3 (instr.Step second ∷ (instr.Step last ∷ [])) r.1)) o)) both_billed
              ∙ ap (λ o. more 1 (more 11 o)) c.1,
          omega (arith, c.2),
        )

    -- A chain with two numbers below 100 costs 17 turns at most.
    pub pair_costs : (k : ℕ) × Prices 15 library squares lives chain_name (chain_inputs a b) k × (k ≤ 17)
    pair_costs =
        let c = all_costs in (
          c.0,
          (
            4,
            ap (λ o. price_by o (Some (definition.Chain pair)) results (λ ports. cost (tolls 15 library squares lives ports) 4) (chain_inputs a b)) alive.chain
                ∙ ap (λ is. cost g 4 is begun) pair_instrs ∙ c.1,
          ),
          c.2,
        )

    both_taken : take_calls (plan (codes "a") a ∷ (plan (codes "b") b ∷ [])) around_pair 3 begun ≡ Goes 1 (and_square (codes "b") b (and_square (codes "a") a begun))
    both_taken =
        square_taken (codes "a") a (plan (codes "b") b ∷ []) 2 begun small ∙ square_taken (codes "b") b [] 1 (and_square (codes "a") a begun) small_too

    whole_flow : run (runs.instrs pair.outline) around_pair 3 begun ≡ then_second 1 (and_square (codes "b") b (and_square (codes "a") a begun))
    whole_flow =
        ap (λ is. run is around_pair 3 begun) pair_instrs
        ∙ (λ i. does_step first i around_pair 3 begun >-> (λ m e. does_step second i around_pair m e >-> (λ l f. does_step last i around_pair l f >-> (λ k h. Goes k h))))
        ∙ ap (λ s. runs.after s around_pair 3 begun >-> then_second) (first_plans a b)
        ∙ ap (λ f. (f >-> stopped around_pair) >-> then_second) both_taken

    whole_ends : IsAnEnd (run (runs.instrs pair.outline) around_pair 3 begun)
    whole_ends = subst IsAnEnd (sym whole_flow) (second_ends 0 (and_square (codes "b") b (and_square (codes "a") a begun)))

    -- It means a tree with 3 of fuel, one for each call.
    pub pair_means : (t : Replayed) × (m : ℕ) × (meaning 15 library squares lives 3 chain_name (chain_inputs a b) ≡ Gave t m)
    pair_means =
        let c = gives_tree chain_name pair.head.outputs (run (runs.instrs pair.outline) around_pair 3 begun) whole_ends in (
          c.0,
          c.1,
          ap (λ o. by_kill o (Some (definition.Chain pair)) (around 15 library squares lives) results 3 chain_name (chain_inputs a b)) alive.chain ∙ c.2,
        )
