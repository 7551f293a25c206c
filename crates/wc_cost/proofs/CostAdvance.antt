-- The cost of a run is 1 more than that of the run that remains after one advance.
use Rattle.std.proofs.Common.{◌≡◌, ℕ, suc, ◌+◌, ◌-◌, Bool, true, false, List, [], ◌∷◌, ◌++◌, Option, Some, None, map, refl, sym, ap, subst, ◌∙◌}
use Rattle.std.specs.Prelude.{if◌then◌else◌, nat_le, take, reverse, slice_get, option_and_then}
use Rattle.wc_value.specs.declared.value.Kind.{Kind}
use Rattle.wc_syntax.specs.declared.definition.Chain.{Chain}
use Rattle.wc_syntax.specs.declared.definition.Definition.{Definition}
use Rattle.wc_syntax.specs.declared.definition.Port.{Port}
use Rattle.wc_syntax.specs.declared.outline.Arm.{Arm}
use Rattle.wc_syntax.specs.declared.outline.Block.{Block}
use Rattle.wc_syntax.specs.declared.outline.Instr.{Instr, out-Instr}
use Rattle.wc_syntax.specs.declared.outline.Instr.TheOpen.{Instr-F}
use Rattle.wc_syntax.specs.declared.outline.Stmt.{Stmt}
use Rattle.wc_state.specs.declared.record.Checkpoint.{Checkpoint}
use Rattle.wc_state.specs.declared.record.Frame.{Frame}
use Rattle.wc_expression.specs.declared.outcome.Outcome.{Outcome}
use Rattle.wc_expression.specs.declared.outcome.Outcome.TheVariants.{Gives, Faults}
use Rattle.wc_expression.specs.Outcomes.{mapped}
use Rattle.wc_expression.specs.Val.{holds}
use Rattle.wc_semantics.specs.Laws.{arm_list, else_list}
use Rattle.wc_semantics.specs.Meaning.{around, kinds_of, takes_of, within}
use Rattle.wc_semantics.specs.Rules.{Values}
use Rattle.wc_semantics.specs.Run.{picked}
use Rattle.wc_semantics.specs.Tables.{Kills, Table}
use Rattle.wc_semantics.specs.Statements as plain
use Rattle.wc_semantics.specs.declared.progress.Progress.{Progress}
use Rattle.wc_semantics.specs.declared.progress.Stepped.{Stepped}
use Rattle.wc_world.specs.Trees.{NamedValues}
use Rattle.wc_machine.specs.Advances.{Advanced, goes, block_count, popped, past, at_head, first_block, numbered_arms, after_arms, other_number, entered, at_frames, chosen, turned, after_step, done, does, at_innermost, advance}
use Rattle.wc_machine.specs.Outlines.{Blocks, blocks, block_of, blocks_in, left_in}
use Rattle.wc_machine.specs.Rest.{env_alone}
use Rattle.wc_machine.specs.Steps as machine
use Rattle.wc_machine.specs.Steps.{stops, makes}
use Rattle.wc_turn_laws.specs.Instead.{MadeCalls}
use Rattle.wc_turn_laws.specs.OutlineLaws.{as_planned}
use Rattle.wc_turn_laws.specs.View.{View, IsSeenRight, env_in, values_of, progress_in}
use Rattle.wc_turn_laws.proofs.Alongside.{Alongside, noted, alongside}
use Rattle.wc_turn_laws.proofs.Exact.{Surrounds, it_surrounds}
use Rattle.wc_turn_laws.proofs.Frames.{remaining, left_reverse, left_is, drop_end, drop_next, popped_same, Trimmed, trimmed, entered_list, Stand, stand_first, branch_entered}
use Rattle.wc_turn_laws.proofs.Named.{holds_alone, picked_alone}
use Rattle.wc_turn_laws.proofs.Numbering.{opened_blocks, blocks_in_are}
use Rattle.wc_turn_laws.proofs.Numbering as numbers
use Rattle.wc_cost.specs.Advances.{AdvancesCostOne, cost_after, cost_on}
use Rattle.wc_cost.specs.Cost.{Tolls, bill, by_pick, cost, front_cost, more, step_cost, tolls}
use Rattle.wc_cost.proofs.Prices.{fair}

-- the tolls of the run of a chain of a library at a depth
pub record Tolled (library : List Definition) (ports : List Port) (depth : ℕ) (g : Tolls) : Type 0 where
  deep : g.deep ≡ nat_le 16 depth
  takes : g.takes ≡ takes_of library
  kinds : g.kinds ≡ kinds_of ports

module _ (library : List Definition) (k : Chain) (depth : ℕ) (v : View) (inputs : NamedValues) (c : Checkpoint) (earlier : MadeCalls) (g : Tolls)
    (tolled : Tolled library k.head.outputs depth g) (seen : IsSeenRight v inputs) (b : ℕ) where
  abbrev bs : Blocks
  bs = blocks k.outline

  abbrev here : Progress
  here = progress_in v inputs earlier c

  abbrev after_it : Advanced → Option ℕ
  after_it = cost_after g k v inputs earlier b

  -- the cost of what frames leave, the innermost first
  abbrev costs : List Frame → Option ℕ
  costs fs = cost g b (remaining bs fs) here

  goes_on : (fs : List Frame) → costs fs ≡ after_it (goes (at_frames library k depth (env_in v inputs c.ctx) c fs))
  goes_on fs = ap (λ (is : List Instr). cost g b is here) (sym (left_reverse bs fs))

  -- ---- a step

  step_on : (x : machine.Stepped) (t : Stepped) (fs : List Frame) → Alongside v inputs x t
      → step_cost g t (cost g b) b (remaining bs fs) here ≡ after_it (after_step library k depth (env_in v inputs c.ctx) c x fs)
  step_on (stops s outputs) t fs h = ap (λ (z : Stepped). step_cost g z (cost g b) b (remaining bs fs) here) h.1
  step_on (makes ctx outputs []) t fs h = ap (λ (z : Stepped). step_cost g z (cost g b) b (remaining bs fs) here) h
      ∙ ap (λ (is : List Instr). cost g b is (record { env = env_alone (env_in v inputs ctx); outputs = values_of v outputs; calls = earlier })) (sym (left_reverse bs fs))
  step_on (makes ctx outputs (x ∷ xs)) t fs h = ap (λ (z : Stepped). step_cost g z (cost g b) b (remaining bs fs) here) h
      ∙ ap (λ (is : List Instr). option_and_then (λ (r : ℕ × Progress). more (1 + r.0) (cost g b is r.1))
      (bill g b (map as_planned (x ∷ xs)) (record { env = env_alone (env_in v inputs ctx); outputs = values_of v outputs; calls = earlier }))) (sym (left_reverse bs fs))

  abbrev stepped_by : Bool → (List ℕ → Values → Bool) → (List ℕ → Option Kind) → List Stmt → Stepped
  stepped_by deep takes kinds ss = plain.statements deep takes kinds ss [] here.env here.outputs

  step_same : (ss : List Stmt) → stepped_by g.deep g.takes g.kinds ss ≡ stepped_by (nat_le 16 depth) (takes_of library) (kinds_of k.head.outputs) ss
  step_same ss = λ i. stepped_by (tolled.deep i) (tolled.takes i) (tolled.kinds i) ss

  -- ---- branches and loops

  enter_costs : (o : Option ℕ) (fs : List Frame) → cost g b (entered_list bs o ++ remaining bs fs) here ≡ costs (entered o fs)
  enter_costs None fs = refl
  enter_costs (Some n) fs = refl

  branch_on : (o : Outcome (Option ℕ)) (p : Outcome (List Instr)) (fs : List Frame) → mapped (entered_list bs) o ≡ p
      → by_pick p (λ js. cost g b (js ++ remaining bs fs) here) ≡ after_it (chosen library k depth (env_in v inputs c.ctx) c o fs)
  branch_on (Gives o) p fs h = ap (λ (z : Outcome (List Instr)). by_pick z (λ js. cost g b (js ++ remaining bs fs) here)) (sym h) ∙ enter_costs o fs ∙ goes_on (entered o fs)
  branch_on (Faults r) p fs h = ap (λ (z : Outcome (List Instr)). by_pick z (λ js. cost g b (js ++ remaining bs fs) here)) (sym h)

  loop_on : (o p : Outcome Bool) (is js : List Instr) (inside outside : List Frame) → o ≡ p → is ≡ remaining bs inside → js ≡ remaining bs outside
      → by_pick p (λ t. if t then cost g b is here else cost g b js here) ≡ after_it (turned library k depth (env_in v inputs c.ctx) c o inside outside)
  loop_on (Gives true) p is js inside outside h q r = ap (λ (z : Outcome Bool). by_pick z (λ t. if t then cost g b is here else cost g b js here)) (sym h)
      ∙ ap (λ (z : List Instr). cost g b z here) (q ∙ sym (left_reverse bs inside))
  loop_on (Gives false) p is js inside outside h q r = ap (λ (z : Outcome Bool). by_pick z (λ t. if t then cost g b is here else cost g b js here)) (sym h)
      ∙ ap (λ (z : List Instr). cost g b z here) (r ∙ sym (left_reverse bs outside))
  loop_on (Faults r) p is js inside outside h q t = ap (λ (z : Outcome Bool). by_pick z (λ u. if u then cost g b is here else cost g b js here)) (sym h)

  -- ---- the next instruction

  done_is : (y : Instr-F Instr Arm Block) (i : Instr) (f : Frame) (fs : List Frame) → left_in bs f ≡ i ∷ left_in bs (past f) → Stand bs (first_block bs f) (opened_blocks y)
      → front_cost g y i (cost g b) b (remaining bs (past f ∷ fs)) here ≡ after_it (done library k depth (env_in v inputs c.ctx) c bs y f fs)
  done_is (Instr-F.Step s) i f fs l h = ap (λ (z : Stepped). step_cost g z (cost g b) b (remaining bs (past f ∷ fs)) here) (step_same s.stmts)
      ∙ step_on (machine.statements c.calls (nat_le 16 depth) (takes_of library) (kinds_of k.head.outputs) s.stmts (noted v inputs c.ctx c.outputs [])) _ (past f ∷ fs)
      (alongside v inputs c.calls (nat_le 16 depth) (takes_of library) (kinds_of k.head.outputs) seen s.stmts c.ctx c.outputs [])
  done_is (Instr-F.If at arms other) i f fs l h =
      branch_on (picked (numbered_arms (first_block bs f) arms) (other_number (after_arms (first_block bs f) arms) other) (env_in v inputs c.ctx)) _ (past f ∷ fs)
      (branch_entered bs (first_block bs f) arms other (env_in v inputs c.ctx) h ∙ sym (picked_alone (map arm_list arms) (else_list other) (env_in v inputs c.ctx)))
  done_is (Instr-F.While at x body) i f fs l h =
      loop_on (holds x (env_in v inputs c.ctx)) (holds x here.env) _ _ (at_head (first_block bs f) ∷ (f ∷ fs)) (past f ∷ fs)
      (sym (holds_alone x (env_in v inputs c.ctx)))
      (λ j. block_of (sym (stand_first bs (first_block bs f) body h) j) ++ (sym l j ++ remaining bs fs)) refl
  done_is (Instr-F.Return at code) i f fs l h = refl

  stands : (f : Frame) (i : Instr) (o : Option (List Instr)) → slice_get bs f.block ≡ o → slice_get (block_of o) f.next ≡ Some i
      → Stand bs (suc f.block + block_count (take f.next (block_of o))) (blocks_in i)
  stands f i None p q o d r = absurd (cc)
  stands f i (Some is) p q o d r = numbers.entered k.outline is f.block f.next o i d p q r

  abbrev whole : List Instr → Option ℕ
  whole is = cost g (suc b) is here

  does_is : (x : Option Instr) (f : Frame) (fs : List Frame) → slice_get (block_of (slice_get bs f.block)) f.next ≡ x → (x ≡ None → fs ≡ [])
      → whole (remaining bs (f ∷ fs)) ≡ more 1 (after_it (does library k depth (env_in v inputs c.ctx) c bs x f fs))
  does_is None f fs p t = ap whole (λ j. drop_end (block_of (slice_get bs f.block)) f.next p j ++ remaining bs (t refl j))
  does_is (Some i) f fs p t =
      let l : left_in bs f ≡ i ∷ left_in bs (past f) = drop_next (block_of (slice_get bs f.block)) f.next i p in
      ap (λ (is : List Instr). whole (is ++ remaining bs fs)) l
      ∙ ap (more 1) (done_is (out-Instr i) i f fs l (subst (Stand bs (first_block bs f)) (blocks_in_are i) (stands f i (slice_get bs f.block) refl p)))

  innermost_is : (fs : List Frame) → Trimmed bs fs → whole (remaining bs fs) ≡ more 1 (after_it (at_innermost library k depth (env_in v inputs c.ctx) c bs fs))
  innermost_is [] t = refl
  innermost_is (f ∷ fs) t = does_is (slice_get (block_of (slice_get bs f.block)) f.next) f fs refl t

  advance_costs_one : whole (remaining bs (reverse c.frames)) ≡ more 1 (after_it (advance library k depth (env_in v inputs c.ctx) c))
  advance_costs_one = ap whole (sym (popped_same bs (reverse c.frames))) ∙ innermost_is (popped bs (reverse c.frames)) (trimmed bs (reverse c.frames))

  pub costs_one : cost_on g k v inputs earlier (suc b) c ≡ more 1 (after_it (advance library k depth (env_in v inputs c.ctx) c))
  costs_one = ap whole (left_is bs c.frames) ∙ advance_costs_one

it_is_tolled : (library : List Definition) (ports : List Port) (depth : ℕ) (table : Table) (cuts : Kills) → Tolled library ports depth (tolls (16 - depth) library table cuts ports)
it_is_tolled library ports depth table cuts =
    let f = fair (16 - depth) library table cuts ports in
    let s : Surrounds library ports depth (within ports None (around (16 - depth) library table cuts)) = it_surrounds library ports depth table cuts None in
    record { deep = f.deep ∙ s.deep; takes = f.takes ∙ s.takes; kinds = f.kinds ∙ s.kinds }

pub advances_cost_one : AdvancesCostOne
advances_cost_one library k depth v inputs c earlier table cuts b seen g e =
    costs_one library k depth v inputs c earlier g (subst (Tolled library k.head.outputs depth) (sym e) (it_is_tolled library k.head.outputs depth table cuts)) seen b
