-- An advance by where its chain stands.
use Rattle.std.proofs.Common.{◌≡◌, ℕ, Bool, true, false, List, [], ◌∷◌, Option, Some, None, refl, sym, ap, subst, ◌∙◌}
use Rattle.std.specs.Prelude.{nat_le, reverse, option_map, slice_get}
use Rattle.std.proofs.lemmas.List.{reverse-reverse}
use Rattle.wc_value.specs.declared.process.ProcessState.TheVariants.{Finished}
use Rattle.wc_syntax.specs.declared.definition.Chain.{Chain}
use Rattle.wc_syntax.specs.declared.definition.Definition.{Definition}
use Rattle.wc_syntax.specs.declared.expression.Expr.{Expr}
use Rattle.wc_syntax.specs.declared.expression.Number.{Number}
use Rattle.wc_syntax.specs.declared.outline.Arm.{Arm}
use Rattle.wc_syntax.specs.declared.outline.Block.{Block}
use Rattle.wc_syntax.specs.declared.outline.Instr.{Instr, out-Instr, out-roll-Instr}
use Rattle.wc_syntax.specs.declared.outline.Instr.TheOpen.{Instr-F}
use Rattle.wc_syntax.specs.declared.outline.Instr.TheVariants as instr
use Rattle.wc_syntax.specs.declared.outline.Step.{Step}
use Rattle.wc_state.specs.declared.environment.Env.{Env}
use Rattle.wc_state.specs.declared.record.Checkpoint.{Checkpoint}
use Rattle.wc_state.specs.declared.record.Frame.{Frame}
use Rattle.wc_expression.specs.declared.outcome.Outcome.{Outcome}
use Rattle.wc_expression.specs.declared.outcome.Outcome.TheVariants.{Gives, Faults}
use Rattle.wc_expression.specs.Val.{holds}
use Rattle.wc_semantics.specs.Meaning.{kinds_of, takes_of}
use Rattle.wc_semantics.specs.Run.{picked, returned}
use Rattle.wc_machine.specs.Advances.{ends, past, at_head, numbered_arms, after_arms, other_number, chosen, turned, done, does, at_innermost}
use Rattle.wc_machine.specs.Outlines.{Blocks, block_of}
use Rattle.wc_machine.specs.Steps as machine
use Rattle.wc_machine.specs.Steps.{statements}
use Rattle.wc_outline.specs.declared.answer.Next.{Next}
use Rattle.wc_outline.specs.declared.answer.Next.TheVariants as next
use Rattle.wc_outline.specs.declared.calls.Advanced.{Advanced as Answered}
use Rattle.wc_outline.specs.declared.calls.Advanced.TheVariants as advanced
use Rattle.wc_outline.specs.declared.statements.Noted.{Noted}
use Rattle.wc_outline.specs.declared.statements.Scene.{Scene}
use Rattle.wc_outline.specs.Places.{Standing, front_of, standing, first_number, picked_from}
use Rattle.wc_outline.specs.Shown.{shown}
use Rattle.wc_outline.specs.Statements.{statements_in, came_to, answered, chosen_next, turned_next, unnoted}
use Rattle.wc_outline.proofs.Stepped.{shown_step, statements_shown, step_shown}

-- ---- the instruction that comes next

some_same : {A : Type 0} (x y : A) → Some x ≡ Some y → x ≡ y
some_same x y h = cc

module _ (library : List Definition) (k : Chain) (depth : ℕ) (env : Env) (c : Checkpoint) (bs : Blocks) where
  -- where a chain stands is what its advance does
  abbrev pub Does : List Frame → Standing → Type 0
  Does fs st = (st.front ≡ front_of bs st.frame)
      × (at_innermost library k depth env c bs fs ≡ done library k depth env c bs (out-Instr st.instr) st.frame (reverse st.outer))

  abbrev placed : Frame → List Frame → Instr → Standing
  placed f fs i = record { instr = i; front = front_of bs f; frame = f; outer = reverse fs }

  does_by : (o : Option Instr) (f : Frame) (fs : List Frame) (st : Standing) → Some st ≡ option_map (placed f fs) o
      → (st.front ≡ front_of bs st.frame) × (does library k depth env c bs o f fs ≡ done library k depth env c bs (out-Instr st.instr) st.frame (reverse st.outer))
  does_by None f fs st h = absurd (cc)
  does_by (Some i) f fs st h =
      subst (λ (z : Standing). (z.front ≡ front_of bs z.frame) × (done library k depth env c bs (out-Instr i) f fs ≡ done library k depth env c bs (out-Instr z.instr) z.frame (reverse z.outer)))
      (sym (some_same st (placed f fs i) h))
      (refl, ap (done library k depth env c bs (out-Instr i) f) (sym (reverse-reverse fs)))

  pub does_there : (fs : List Frame) (st : Standing) → Some st ≡ standing bs fs → Does fs st
  does_there [] st h = absurd (cc)
  does_there (f ∷ fs) st h = does_by (slice_get (block_of (slice_get bs f.block)) f.next) f fs st h

  ends_by : (o : Option Instr) (f : Frame) (fs : List Frame) → None ≡ option_map (placed f fs) o → does library k depth env c bs o f fs ≡ ends (Finished 0) c.outputs
  ends_by None f fs h = refl
  ends_by (Some i) f fs h = absurd (cc)

  pub ends_there : (fs : List Frame) → None ≡ standing bs fs → at_innermost library k depth env c bs fs ≡ ends (Finished 0) c.outputs
  ends_there [] h = refl
  ends_there (f ∷ fs) h = ends_by (slice_get (block_of (slice_get bs f.block)) f.next) f fs h

-- ---- each instruction

out_is : (i j : Instr) (y : Instr-F Instr Arm Block) → i ≡ j → out-Instr j ≡ y → out-Instr i ≡ y
out_is i j y h e = ap out-Instr h ∙ e

module _ (library : List Definition) (k : Chain) (depth : ℕ) (env : Env) (c : Checkpoint) where
  chosen_answered : (o : Outcome (Option ℕ)) (fs : List Frame) → answered c.awaiting c.calls (chosen_next o fs) (unnoted env c) ≡ shown (chosen library k depth env c o fs)
  chosen_answered (Faults r) fs = refl
  chosen_answered (Gives block) fs = refl

  turned_answered : (o : Outcome Bool) (inside outside : List Frame)
      → answered c.awaiting c.calls (turned_next o inside outside) (unnoted env c) ≡ shown (turned library k depth env c o inside outside)
  turned_answered (Faults r) inside outside = refl
  turned_answered (Gives true) inside outside = refl
  turned_answered (Gives false) inside outside = refl

-- an answer by what was noted first
from_unnoted : (c : Checkpoint) (env : Env) (n : Next) (s : Noted) (a : Answered) → s ≡ unnoted env c → answered c.awaiting c.calls n (unnoted env c) ≡ a → answered c.awaiting c.calls n s ≡ a
from_unnoted c env n s a h e = ap (answered c.awaiting c.calls n) h ∙ e

module _ (x : Scene) (c : Checkpoint) (env : Env) (bs : Blocks) (f : Frame) (front : List Instr) (outer : List Frame) (i : Instr) (there : front ≡ front_of bs f) where
  abbrev pub it : Answered
  it = shown (done x.library.now x.chain.now x.depth env c bs (out-Instr i) f (reverse outer))

  by_form : (y : Instr-F Instr Arm Block) → out-Instr i ≡ y → shown (done x.library.now x.chain.now x.depth env c bs y f (reverse outer)) ≡ it
  by_form y h = ap (λ (z : Instr-F Instr Arm Block). shown (done x.library.now x.chain.now x.depth env c bs z f (reverse outer))) (sym h)

  pub step_there : (s : Step) → i ≡ instr.Step s → x.calls ≡ c.calls
      → came_to c.awaiting c.calls (reverse (past f ∷ reverse outer)) (statements_in x s.stmts (unnoted env c)) ≡ it
  step_there s h same =
      let start : machine.Noted = record { env = env; ctx = c.ctx; outputs = c.outputs; calls = [] } in
      let ss = λ (n : ℕ). statements n (nat_le 16 x.depth) (takes_of x.library.now) (kinds_of x.chain.now.head.outputs) s.stmts start in
      ap (came_to c.awaiting c.calls (reverse (past f ∷ reverse outer))) (sym (statements_shown x s.stmts start) ∙ ap (λ (n : ℕ). shown_step (ss n)) same)
      ∙ sym (step_shown x.library.now x.chain.now x.depth env c (ss c.calls) (past f ∷ reverse outer))
      ∙ by_form (Instr-F.Step s) (out_is i (instr.Step s) (Instr-F.Step s) h (ap out-Instr (sym (instr.rolls-Step s)) ∙ out-roll-Instr (Instr-F.Step s)))

  pub if_there : (at : ℕ) (arms : List Arm) (other : Option Block) → i ≡ instr.If at arms other
      → answered c.awaiting c.calls (chosen_next (picked_from (first_number f front) arms other env) (past f ∷ reverse outer)) (unnoted env c) ≡ it
  if_there at arms other h =
      chosen_answered x.library.now x.chain.now x.depth env c (picked_from (first_number f front) arms other env) (past f ∷ reverse outer)
      ∙ ap (λ (is : List Instr). shown (chosen x.library.now x.chain.now x.depth env c
      (picked (numbered_arms (first_number f is) arms) (other_number (after_arms (first_number f is) arms) other) env) (past f ∷ reverse outer))) there
      ∙ by_form (Instr-F.If at arms other) (out_is i (instr.If at arms other) (Instr-F.If at arms other) h (ap out-Instr (sym (instr.rolls-If at arms other)) ∙ out-roll-Instr (Instr-F.If at arms other)))

  pub while_there : (at : ℕ) (e : Expr) (b : Block) → i ≡ instr.While at e b
      → answered c.awaiting c.calls (turned_next (holds e env) (at_head (first_number f front) ∷ (f ∷ reverse outer)) (past f ∷ reverse outer)) (unnoted env c) ≡ it
  while_there at e b h =
      turned_answered x.library.now x.chain.now x.depth env c (holds e env) (at_head (first_number f front) ∷ (f ∷ reverse outer)) (past f ∷ reverse outer)
      ∙ ap (λ (is : List Instr). shown (turned x.library.now x.chain.now x.depth env c (holds e env) (at_head (first_number f is) ∷ (f ∷ reverse outer)) (past f ∷ reverse outer))) there
      ∙ by_form (Instr-F.While at e b) (out_is i (instr.While at e b) (Instr-F.While at e b) h (ap out-Instr (sym (instr.rolls-While at e b)) ∙ out-roll-Instr (Instr-F.While at e b)))

  pub return_there : (at : ℕ) (n : Option Number) → i ≡ instr.Return at n → advanced.Ends (Finished (returned n)) c.outputs ≡ it
  return_there at n h =
      by_form (Instr-F.Return at n) (out_is i (instr.Return at n) (Instr-F.Return at n) h (ap out-Instr (sym (instr.rolls-Return at n)) ∙ out-roll-Instr (Instr-F.Return at n)))

  -- the same of an answer, by what was noted first

  pub if_next : (at : ℕ) (arms : List Arm) (other : Option Block) (n : Next) (s : Noted) → i ≡ instr.If at arms other
      → n ≡ chosen_next (picked_from (first_number f front) arms other env) (past f ∷ reverse outer) → s ≡ unnoted env c → answered c.awaiting c.calls n s ≡ it
  if_next at arms other n s h e u = from_unnoted c env n s it u (ap (λ (m : Next). answered c.awaiting c.calls m (unnoted env c)) e ∙ if_there at arms other h)

  pub while_next : (at : ℕ) (e : Expr) (b : Block) (n : Next) (s : Noted) → i ≡ instr.While at e b
      → n ≡ turned_next (holds e env) (at_head (first_number f front) ∷ (f ∷ reverse outer)) (past f ∷ reverse outer) → s ≡ unnoted env c
      → answered c.awaiting c.calls n s ≡ it
  while_next at e b n s h q u = from_unnoted c env n s it u (ap (λ (m : Next). answered c.awaiting c.calls m (unnoted env c)) q ∙ while_there at e b h)

  pub return_next : (at : ℕ) (code : Option Number) (number : ℕ) (s : Noted) → i ≡ instr.Return at code → number ≡ returned code → s ≡ unnoted env c
      → answered c.awaiting c.calls (next.Ends (Finished number)) s ≡ it
  return_next at code number s h e u =
      from_unnoted c env (next.Ends (Finished number)) s it u (ap (λ (n : ℕ). advanced.Ends (Finished n) c.outputs) e ∙ return_there at code h)

  pub step_next : (st : Step) (n : Next) (s after : Noted) → i ≡ instr.Step st → x.calls ≡ c.calls
      → answered c.awaiting c.calls n after ≡ came_to c.awaiting c.calls (reverse (past f ∷ reverse outer)) (statements_in x st.stmts s) → s ≡ unnoted env c
      → answered c.awaiting c.calls n after ≡ it
  step_next st n s after h same e u =
      e ∙ ap (λ (z : Noted). came_to c.awaiting c.calls (reverse (past f ∷ reverse outer)) (statements_in x st.stmts z)) u ∙ step_there st h same
