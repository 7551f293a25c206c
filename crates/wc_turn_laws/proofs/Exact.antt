-- The run from a checkpoint ends as the run that remains after one advance.
use Rattle.std.proofs.Common.{◌≡◌, ℕ, zero, suc, ◌+◌, ◌-◌, Bool, true, false, List, [], ◌∷◌, ◌++◌, Option, Some, None, map, refl, sym, ap, subst, ◌∙◌, arith}
use Rattle.std.specs.Prelude.{nat_le, take, reverse, slice_get}
use Rattle.std.proofs.lemmas.Bool.{le-leb, lt-leb}
use Rattle.wc_value.specs.declared.process.ProcessState.TheVariants.{Finished}
use Rattle.wc_value.specs.declared.value.Kind.{Kind}
use Rattle.wc_syntax.specs.declared.definition.Chain.{Chain}
use Rattle.wc_syntax.specs.declared.definition.Definition.{Definition}
use Rattle.wc_syntax.specs.declared.definition.Port.{Port}
use Rattle.wc_syntax.specs.declared.outline.Arm.{Arm}
use Rattle.wc_syntax.specs.declared.outline.Block.{Block}
use Rattle.wc_syntax.specs.declared.outline.Instr.{Instr, out-Instr}
use Rattle.wc_syntax.specs.declared.outline.Instr.TheOpen.{Instr-F}
use Rattle.wc_syntax.specs.declared.outline.Stmt.{Stmt}
use Rattle.wc_state.specs.declared.record.Checkpoint.{Checkpoint}
use Rattle.wc_state.specs.declared.record.Frame.{Frame}
use Rattle.wc_expression.specs.declared.outcome.Outcome.{Outcome}
use Rattle.wc_expression.specs.declared.outcome.Outcome.TheVariants.{Gives, Faults}
use Rattle.wc_expression.specs.Outcomes.{mapped}
use Rattle.wc_expression.specs.Val.{holds}
use Rattle.wc_semantics.specs.Rules.{Values}
use Rattle.wc_semantics.specs.declared.progress.Answer.{Answer}
use Rattle.wc_semantics.specs.declared.progress.Flow.{Flow}
use Rattle.wc_semantics.specs.declared.progress.Flow.TheVariants.{Ends}
use Rattle.wc_semantics.specs.declared.progress.Progress.{Progress}
use Rattle.wc_semantics.specs.declared.progress.Stepped.{Stepped}
use Rattle.wc_semantics.specs.Laws.{FrugalCall, arm_list, else_list}
use Rattle.wc_semantics.specs.Meaning.{ended, around, within, surrounding, calls_of, takes_of, kinds_of}
use Rattle.wc_semantics.specs.Run.{Around, Call, ◌>->◌, spend, by_value, test, picked, returned, make_calls, after, step_of, run, instrs}
use Rattle.wc_semantics.specs.Tables.{Table, Kills}
use Rattle.wc_semantics.proofs.Acts.{exec_is, opened}
use Rattle.wc_semantics.proofs.Clauses.{run_opened, branch_is, turn_is}
use Rattle.wc_semantics.proofs.Leaves.{around_frugal}
use Rattle.wc_semantics.specs.Statements as plain
use Rattle.wc_world.specs.Trees.{NamedValues}
use Rattle.wc_machine.specs.Advances.{Advanced, block_count, goes, popped, past, at_head, first_block, numbered_arms, after_arms, other_number, entered, at_frames, chosen, turned, after_step, done, does, at_innermost, advance}
use Rattle.wc_machine.specs.Outlines.{Blocks, blocks, block_of, blocks_in, left_in}
use Rattle.wc_machine.specs.Rest.{env_alone}
use Rattle.wc_machine.specs.Steps as machine
use Rattle.wc_machine.specs.Steps.{stops, makes}
use Rattle.wc_turn_laws.specs.Instead.{MadeCalls}
use Rattle.wc_turn_laws.specs.OutlineLaws.{as_planned, remains, run_on, AdvancesAreExact}
use Rattle.wc_turn_laws.specs.View.{View, IsSeenRight, env_in, values_of, progress_in}
use Rattle.wc_turn_laws.proofs.Alongside.{Alongside, noted, alongside}
use Rattle.wc_turn_laws.proofs.Frames.{remaining, left_reverse, left_is, drop_end, drop_next, popped_same, Trimmed, trimmed, entered_list, Stand, stand_first, branch_entered}
use Rattle.wc_turn_laws.proofs.Named.{holds_alone, picked_alone}
use Rattle.wc_turn_laws.proofs.Numbering.{opened_blocks, blocks_in_are}
use Rattle.wc_turn_laws.proofs.Numbering as numbers

-- ---- a run by its first instruction

abbrev front : Instr-F Instr Arm Block → Instr → List Instr → Around → ℕ → Progress → Flow
front (Instr-F.Step s) i is a n e = step_of s.stmts a n e >-> run is a
front (Instr-F.If at arms other) i is a n e = by_value (picked (map arm_list arms) (else_list other) e.env) n e (λ js. run (js ++ is) a n e)
front (Instr-F.While at c b) i is a n e = test (holds c e.env) n e (spend n (λ m. run (instrs b ++ i ∷ is) a m e)) (run is a n e)
front (Instr-F.Return at code) i is a n e = Ends (Finished (returned code)) n e

front_by : (y : Instr-F Instr Arm Block) (i : Instr) (is : List Instr) (a : Around) → FrugalCall a.call → (n : ℕ) (e : Progress) → out-Instr i ≡ y → run (i ∷ is) a n e ≡ front y i is a n e
front_by (Instr-F.Step s) i is a t n e h = run_opened i (Instr-F.Step s) is a n e h
front_by (Instr-F.If at arms other) i is a t n e h = run_opened i (Instr-F.If at arms other) is a n e h ∙ branch_is arms other is a n e
front_by (Instr-F.While at x b) i is a t n e h =
    run_opened i (Instr-F.While at x b) is a n e h ∙ turn_is i is a t x b n e (λ m d. ap (λ (y : Around → ℕ → Progress → Flow). y a m d) (exec_is i ∙ ap opened h))
front_by (Instr-F.Return at code) i is a t n e h = run_opened i (Instr-F.Return at code) is a n e h

-- what surrounds the run of a chain of a library at a depth
pub record Surrounds (library : List Definition) (ports : List Port) (depth : ℕ) (a : Around) : Type 0 where
  pub frugal : FrugalCall a.call
  pub deep : a.deep ≡ nat_le 16 depth
  pub takes : a.takes ≡ takes_of library
  pub kinds : a.kinds ≡ kinds_of ports

module _ (library : List Definition) (k : Chain) (depth : ℕ) (v : View) (inputs : NamedValues) (c : Checkpoint) (earlier : MadeCalls) (a : Around)
    (stop : Option ℕ) (name : List ℕ) (around_it : Surrounds library k.head.outputs depth a) (seen : IsSeenRight v inputs) where
  abbrev bs : Blocks
  bs = blocks k.outline

  abbrev here : Progress
  here = progress_in v inputs earlier c

  -- how a flow ends
  abbrev finished : Flow → Answer
  finished f = ended stop name k.head.outputs f

  abbrev after_it : Advanced → ℕ → Flow
  after_it x n = remains k v inputs earlier a c x n

  -- the run that frames leave, the innermost first
  abbrev runs : List Frame → ℕ → Progress → Flow
  runs fs n e = run (remaining bs fs) a n e

  goes_on : (fs : List Frame) (n : ℕ) → runs fs n here ≡ after_it (goes (at_frames library k depth (env_in v inputs c.ctx) c fs)) n
  goes_on fs n = ap (λ (is : List Instr). run is a n here) (sym (left_reverse bs fs))

  -- ---- a step

  step_on : (x : machine.Stepped) (t : Stepped) (fs : List Frame) (n : ℕ) → Alongside v inputs x t
      → finished (after t a n here >-> (λ m e. runs fs m e)) ≡ finished (after_it (after_step library k depth (env_in v inputs c.ctx) c x fs) n)
  step_on (stops s outputs) t fs n h = ap (λ (z : Stepped). finished (after z a n here >-> (λ m e. runs fs m e))) h.1
  step_on (makes ctx outputs []) t fs n h = ap (λ (z : Stepped). finished (after z a n here >-> (λ m e. runs fs m e))) h
      ∙ ap (λ (is : List Instr). finished (run is a n (record { env = env_alone (env_in v inputs ctx); outputs = values_of v outputs; calls = earlier }))) (sym (left_reverse bs fs))
  step_on (makes ctx outputs (x ∷ xs)) t fs n h = ap (λ (z : Stepped). finished (after z a n here >-> (λ m e. runs fs m e))) h
      ∙ ap (λ (is : List Instr). finished (make_calls (map as_planned (x ∷ xs)) a n (record { env = env_alone (env_in v inputs ctx); outputs = values_of v outputs; calls = earlier }) >-> run is a)) (sym (left_reverse bs fs))

  -- the run's statements with what surrounds it are those of the machine
  abbrev stepped_by : Bool → (List ℕ → Values → Bool) → (List ℕ → Option Kind) → List Stmt → Stepped
  stepped_by deep takes kinds ss = plain.statements deep takes kinds ss [] here.env here.outputs

  step_same : (ss : List Stmt) → stepped_by a.deep a.takes a.kinds ss ≡ stepped_by (nat_le 16 depth) (takes_of library) (kinds_of k.head.outputs) ss
  step_same ss = λ i. stepped_by (around_it.deep i) (around_it.takes i) (around_it.kinds i) ss

  -- ---- branches and loops

  enter_run : (o : Option ℕ) (fs : List Frame) (n : ℕ) → run (entered_list bs o ++ remaining bs fs) a n here ≡ runs (entered o fs) n here
  enter_run None fs n = refl
  enter_run (Some b) fs n = refl

  branch_on : (o : Outcome (Option ℕ)) (p : Outcome (List Instr)) (fs : List Frame) (n : ℕ) → mapped (entered_list bs) o ≡ p
      → finished (by_value p n here (λ js. run (js ++ remaining bs fs) a n here)) ≡ finished (after_it (chosen library k depth (env_in v inputs c.ctx) c o fs) n)
  branch_on (Gives o) p fs n h = ap (λ (z : Outcome (List Instr)). finished (by_value z n here (λ js. run (js ++ remaining bs fs) a n here))) (sym h)
      ∙ ap finished (enter_run o fs n ∙ goes_on (entered o fs) n)
  branch_on (Faults r) p fs n h = ap (λ (z : Outcome (List Instr)). finished (by_value z n here (λ js. run (js ++ remaining bs fs) a n here))) (sym h)

  loop_on : (o p : Outcome Bool) (is js : List Instr) (inside outside : List Frame) (n : ℕ) → o ≡ p → is ≡ remaining bs inside → js ≡ remaining bs outside
      → finished (test p n here (spend n (λ m. run is a m here)) (run js a n here)) ≡ finished (after_it (turned library k depth (env_in v inputs c.ctx) c o inside outside) n)
  loop_on (Gives true) p is js inside outside n h q r = ap (λ (z : Outcome Bool). finished (test z n here (spend n (λ m. run is a m here)) (run js a n here))) (sym h)
      ∙ ap (λ (z : List Instr). finished (spend n (λ m. run z a m here))) (q ∙ sym (left_reverse bs inside))
  loop_on (Gives false) p is js inside outside n h q r = ap (λ (z : Outcome Bool). finished (test z n here (spend n (λ m. run is a m here)) (run js a n here))) (sym h)
      ∙ ap (λ (z : List Instr). finished (run z a n here)) (r ∙ sym (left_reverse bs outside))
  loop_on (Faults r) p is js inside outside n h q t = ap (λ (z : Outcome Bool). finished (test z n here (spend n (λ m. run is a m here)) (run js a n here))) (sym h)

  -- ---- the next instruction

  done_is : (y : Instr-F Instr Arm Block) (i : Instr) (f : Frame) (fs : List Frame) (n : ℕ) → left_in bs f ≡ i ∷ left_in bs (past f) → Stand bs (first_block bs f) (opened_blocks y)
      → finished (front y i (remaining bs (past f ∷ fs)) a n here) ≡ finished (after_it (done library k depth (env_in v inputs c.ctx) c bs y f fs) n)
  done_is (Instr-F.Step s) i f fs n l h = ap (λ (z : Stepped). finished (after z a n here >-> (λ m e. runs (past f ∷ fs) m e))) (step_same s.stmts)
      ∙ step_on (machine.statements c.calls (nat_le 16 depth) (takes_of library) (kinds_of k.head.outputs) s.stmts (noted v inputs c.ctx c.outputs [])) _ (past f ∷ fs) n
      (alongside v inputs c.calls (nat_le 16 depth) (takes_of library) (kinds_of k.head.outputs) seen s.stmts c.ctx c.outputs [])
  done_is (Instr-F.If at arms other) i f fs n l h =
      branch_on (picked (numbered_arms (first_block bs f) arms) (other_number (after_arms (first_block bs f) arms) other) (env_in v inputs c.ctx)) _ (past f ∷ fs) n
      (branch_entered bs (first_block bs f) arms other (env_in v inputs c.ctx) h ∙ sym (picked_alone (map arm_list arms) (else_list other) (env_in v inputs c.ctx)))
  done_is (Instr-F.While at x b) i f fs n l h =
      loop_on (holds x (env_in v inputs c.ctx)) (holds x here.env) _ _ (at_head (first_block bs f) ∷ (f ∷ fs)) (past f ∷ fs) n
      (sym (holds_alone x (env_in v inputs c.ctx)))
      (λ j. block_of (sym (stand_first bs (first_block bs f) b h) j) ++ (sym l j ++ remaining bs fs)) refl
  done_is (Instr-F.Return at code) i f fs n l h = refl

  stands : (f : Frame) (i : Instr) (o : Option (List Instr)) → slice_get bs f.block ≡ o → slice_get (block_of o) f.next ≡ Some i
      → Stand bs (suc f.block + block_count (take f.next (block_of o))) (blocks_in i)
  stands f i None p q o d r = absurd (cc)
  stands f i (Some is) p q o d r = numbers.entered k.outline is f.block f.next o i d p q r

  does_is : (x : Option Instr) (f : Frame) (fs : List Frame) (n : ℕ) → slice_get (block_of (slice_get bs f.block)) f.next ≡ x → (x ≡ None → fs ≡ [])
      → finished (runs (f ∷ fs) n here) ≡ finished (after_it (does library k depth (env_in v inputs c.ctx) c bs x f fs) n)
  does_is None f fs n p t = ap (λ (is : List Instr). finished (run is a n here)) (λ j. drop_end (block_of (slice_get bs f.block)) f.next p j ++ remaining bs (t refl j))
  does_is (Some i) f fs n p t =
      let l : left_in bs f ≡ i ∷ left_in bs (past f) = drop_next (block_of (slice_get bs f.block)) f.next i p in
      ap (λ (is : List Instr). finished (run (is ++ remaining bs fs) a n here)) l
      ∙ ap finished (front_by (out-Instr i) i (remaining bs (past f ∷ fs)) a around_it.frugal n here refl)
      ∙ done_is (out-Instr i) i f fs n l (subst (Stand bs (first_block bs f)) (blocks_in_are i) (stands f i (slice_get bs f.block) refl p))

  innermost_is : (fs : List Frame) (n : ℕ) → Trimmed bs fs → finished (runs fs n here) ≡ finished (after_it (at_innermost library k depth (env_in v inputs c.ctx) c bs fs) n)
  innermost_is [] n t = refl
  innermost_is (f ∷ fs) n t = does_is (slice_get (block_of (slice_get bs f.block)) f.next) f fs n refl t

  pub advance_is_exact : (n : ℕ) → finished (run_on k v inputs earlier a c n) ≡ finished (after_it (advance library k depth (env_in v inputs c.ctx) c) n)
  advance_is_exact n = ap (λ (is : List Instr). finished (run is a n here)) (left_is bs c.frames ∙ sym (popped_same bs (reverse c.frames)))
      ∙ innermost_is (popped bs (reverse c.frames)) n (trimmed bs (reverse c.frames))

-- ---- what surrounds the run of a process

pub deep_at : (library : List Definition) (table : Table) (cuts : Kills) (depth levels : ℕ) → 16 - depth ≡ levels → (around levels library table cuts).deep ≡ nat_le 16 depth
deep_at library table cuts depth zero h = sym (le-leb 16 depth (omega (arith, h)))
deep_at library table cuts depth (suc levels) h = sym (lt-leb 16 depth (omega (arith, h)))

takes_at : (library : List Definition) (o : Option Call) → (surrounding library o).takes ≡ takes_of library
takes_at library None = refl
takes_at library (Some call) = refl

pub it_surrounds : (library : List Definition) (ports : List Port) (depth : ℕ) (table : Table) (cuts : Kills) (stop : Option ℕ)
    → Surrounds library ports depth (within ports stop (around (16 - depth) library table cuts))
it_surrounds library ports depth table cuts stop = record {
  frugal = around_frugal (16 - depth) library table cuts;
  deep = deep_at library table cuts depth (16 - depth) refl;
  takes = takes_at library (calls_of (16 - depth) library table cuts);
  kinds = refl;
}

pub advances_are_exact : AdvancesAreExact
advances_are_exact library k depth v inputs c earlier table cuts stop name n seen a e =
    advance_is_exact library k depth v inputs c earlier a stop name
    (subst (Surrounds library k.head.outputs depth) (sym e) (it_surrounds library k.head.outputs depth table cuts stop)) seen n
