-- What the outline of the work chain does, one step at a time.
use Rattle.std.proofs.Common.{◌≡◌, ℕ, Bool, false, List, [], ◌∷◌, ◌++◌, reverse, Option, Some, None, refl, sym, ap, ◌∙◌}
use Rattle.std.specs.Prelude.{pos, codes, if◌then◌else◌}
use Rattle.std.specs.Fmt.{digits}
use Rattle.wc_value.specs.declared.process.Reason.TheVariants.{BadInput}
use Rattle.wc_value.specs.declared.value.Kind.{Kind}
use Rattle.wc_value.specs.declared.value.Kind.TheVariants as kind
use Rattle.wc_value.specs.declared.value.Value.{Value, out-Value}
use Rattle.wc_value.specs.declared.value.Value.TheVariants as value
use Rattle.wc_syntax.specs.declared.expression.BinaryOp.TheVariants as binary
use Rattle.wc_syntax.specs.declared.expression.ChildPart.TheVariants as asked
use Rattle.wc_syntax.specs.declared.expression.Expr.{Expr}
use Rattle.wc_syntax.specs.declared.expression.Form.{Form, out-Form, out-roll-Form}
use Rattle.wc_syntax.specs.declared.expression.Form.TheVariants as form
use Rattle.wc_syntax.specs.declared.expression.Form.TheOpen.{Form-F}
use Rattle.wc_syntax.specs.declared.expression.Name.{Name}
use Rattle.wc_syntax.specs.declared.outline.Block.{fold-roll-Block}
use Rattle.wc_syntax.specs.declared.outline.CallStmt.{CallStmt}
use Rattle.wc_syntax.specs.declared.outline.Instr.{out-Instr, fold-Instr, fold-roll-Instr}
use Rattle.wc_syntax.specs.declared.outline.Instr.TheVariants as instr
use Rattle.wc_syntax.specs.declared.outline.Instr.TheOpen.{Instr-F}
use Rattle.wc_syntax.specs.declared.outline.Step.{Step}
use Rattle.wc_syntax.specs.declared.outline.Stmt.{Stmt}
use Rattle.wc_syntax.specs.declared.outline.Stmt.TheVariants as stmt
use Rattle.wc_semantics.specs.Rules.{Values}
use Rattle.wc_state.specs.Checkpoint.{first}
use Rattle.wc_state.specs.declared.environment.Env.{Env}
use Rattle.wc_state.specs.declared.environment.NodeValue.{NodeValue}
use Rattle.wc_state.specs.declared.record.Checkpoint.{Checkpoint}
use Rattle.wc_expression.specs.declared.outcome.Outcome.{Outcome}
use Rattle.wc_expression.specs.declared.outcome.Outcome.TheVariants.{Gives, Faults}
use Rattle.wc_expression.specs.Contents.{item}
use Rattle.wc_expression.specs.Environment.{children}
use Rattle.wc_expression.specs.Outcomes.{◌>>=◌}
use Rattle.wc_expression.specs.Val.{val}
use Rattle.wc_semantics.specs.Meaning.{kinds_of, takes_of}
use Rattle.wc_semantics.specs.Tables.{Label}
use Rattle.wc_machine.specs.Advances.{Advanced, advance, after_step, at_innermost, popped}
use Rattle.wc_machine.specs.Outlines.{Blocks, InstrIn, ArmIn, BlockIn, instr_in, arm_in, block_in, blocks}
use Rattle.wc_machine.specs.Steps.{Call, Noted, collected, fitting_node, makes, node_in, or_wrong, output, output_node, or_plain, or_stops, planned, statements, values_in, with_call, with_output}
use Rattle.wc_soundness.specs.Words.{word}
use Rattle.wc_soundness.specs.Library.{calls_with, output_at, fan, go, done, input_a, numeral, one_more, library}
use Rattle.wc_soundness.specs.FanWorlds as fans
use Rattle.wc_soundness.proofs.Values.{int_allowed, number_gives, input_gives, binary_gives}

-- ---- blocks

step_in : (s : Step) → fold-Instr InstrIn ArmIn BlockIn instr_in arm_in block_in (instr.Step s) ≡ (instr.Step s, [])
step_in s = ap (fold-Instr InstrIn ArmIn BlockIn instr_in arm_in block_in) (sym (instr.rolls-Step s))
    ∙ fold-roll-Instr InstrIn ArmIn BlockIn instr_in arm_in block_in (Instr-F.Step s) ∙ λ i. (instr.rolls-Step s i, [])

pub fan_blocks : blocks fan.outline ≡ (instr.Step go ∷ (instr.Step done ∷ [])) ∷ []
fan_blocks = ap (λ (b : BlockIn). b.1) (fold-roll-Block InstrIn ArmIn BlockIn instr_in arm_in block_in (record { instrs = instr.Step go ∷ (instr.Step done ∷ []) }))
    ∙ λ i. ((step_in go i).0 ∷ ((step_in done i).0 ∷ [])) ∷ ((step_in go i).1 ++ ((step_in done i).1 ++ []))

-- ---- statements

module _ (before : ℕ) (deep : Bool) (takes : List ℕ → Values → Bool) (kinds : List ℕ → Option Kind) where
  call_then : (c : CallStmt) (p : Call) (ss : List Stmt) (s : Noted) → collected before deep takes kinds c s ≡ Gives p
      → statements before deep takes kinds (stmt.Call c ∷ ss) s ≡ statements before deep takes kinds ss (with_call p s)
  call_then c p ss s h = ap (λ o. or_stops o s (λ q. statements before deep takes kinds ss (with_call q s))) h

  out_then : (name : Name) (x : Expr) (n : NodeValue) (ss : List Stmt) (s : Noted) → output (kinds name.text) x s.env ≡ Gives n
      → statements before deep takes kinds (stmt.Out 0 name x ∷ ss) s ≡ statements before deep takes kinds ss (with_output name.text n.node s)
  out_then name x n ss s h = ap (λ o. or_stops o s (λ m. statements before deep takes kinds ss (with_output name.text m.node s))) h

-- ---- the steps

abbrev takes : List ℕ → Values → Bool
takes = takes_of library

abbrev kinds : List ℕ → Option Kind
kinds = kinds_of fan.head.outputs

abbrev noted : Env → List (Label × ℕ) → List Call → Noted
noted env outputs calls = record { env = env; ctx = []; outputs = outputs; calls = calls }

one_more_gives : val one_more fans.env_before ≡ Gives (value.Int (pos 3))
unfolding out-Value denote.Hole.Carrier.out
one_more_gives =
    binary_gives fans.env_before binary.Add input_a (numeral 1) (value.Int (pos 2)) (value.Int (pos 1)) (value.Int (pos 3))
    (input_gives fans.env_before (codes "a") _ refl (int_allowed _ refl)) refl (number_gives fans.env_before (pos 1) (int_allowed _ refl)) refl (int_allowed _ refl)

first_collected : collected 0 false takes kinds (calls_with input_a) (noted fans.env_before [] []) ≡ Gives fans.first_call
unfolding out-Value out-Form denote.Hole.Carrier.out digits
first_collected = refl

second_collected : collected 0 false takes kinds (calls_with one_more) (noted fans.env_before [] (fans.first_call ∷ [])) ≡ Gives fans.second_call
unfolding out-Value out-Form denote.Hole.Carrier.out digits
second_collected = λ i. (or_plain None (one_more_gives i) >>= (λ x. Gives ((codes "x", x) ∷ [])))
    >>= (λ args. if takes (codes "double") (values_in args) then Gives (planned 0 false takes kinds (calls_with one_more) 2 args) else Faults BadInput)

go_makes : statements 0 false takes kinds go.stmts (noted fans.env_before [] []) ≡ makes [] [] fans.planned_calls
go_makes =
    call_then 0 false takes kinds (calls_with input_a) fans.first_call (stmt.Call (calls_with one_more) ∷ []) (noted fans.env_before [] []) first_collected
    ∙ call_then 0 false takes kinds (calls_with one_more) fans.second_call [] (noted fans.env_before [] (fans.first_call ∷ [])) second_collected

abbrev at_blocks : Env → Checkpoint → Blocks → Advanced
at_blocks env c bs = at_innermost library fan 1 env c bs (popped bs (reverse c.frames))

pub goes_first : advance library fan 1 fans.env_before first ≡ fans.after_go
unfolding out-Instr denote.Hole.Carrier.out
goes_first = ap (at_blocks fans.env_before first) fan_blocks
    ∙ ap (λ s. after_step library fan 1 fans.env_before first s (record { block = 0; next = 1 } ∷ [])) go_makes

-- ---- the outputs

-- the node that a place among the children names, where this is what the place gives
abbrev node_at : Outcome Value → Outcome NodeValue
node_at v = children fans.parts fans.env_after >>= (λ cs. v >>= (λ i. item cs (out-Value i) >>= (λ c. output_node (asked.Outputs (word (codes "value"))) c)))

-- what the path opens as
abbrev opened : ℕ → Form-F Form Expr
opened place = Form-F.Child 0 (word fans.parts) (Some (numeral place)) (asked.Outputs (word (codes "value")))

opens : (place : ℕ) → out-Form (form.Child 0 (word fans.parts) (Some (numeral place)) (asked.Outputs (word (codes "value")))) ≡ opened place
opens place = ap out-Form (sym (form.rolls-Child 0 (word fans.parts) (Some (numeral place)) (asked.Outputs (word (codes "value"))))) ∙ out-roll-Form (opened place)

output_from : (place : ℕ) (n : NodeValue) → val (numeral place) fans.env_after ≡ Gives (value.Int (pos place))
    → (node_at (Gives (value.Int (pos place))) >>= fitting_node (Some kind.Int)) ≡ Gives n → output (Some kind.Int) (output_at place) fans.env_after ≡ Gives n
output_from place n p h =
    ap (λ l. or_wrong (node_in l fans.env_after) >>= fitting_node (Some kind.Int)) (opens place) ∙ ap (λ v. node_at v >>= fitting_node (Some kind.Int)) p ∙ h

first_output : output (kinds (codes "first")) (output_at 0) fans.env_after ≡ Gives (record { node = 9; value = value.Int (pos 4) })
unfolding out-Value denote.Hole.Carrier.out
first_output = output_from 0 _ (number_gives fans.env_after (pos 0) (int_allowed _ refl)) refl

last_output : output (kinds (codes "last")) (output_at 1) fans.env_after ≡ Gives (record { node = 7; value = value.Int (pos 6) })
unfolding out-Value denote.Hole.Carrier.out
last_output = output_from 1 _ (number_gives fans.env_after (pos 1) (int_allowed _ refl)) refl

abbrev noted_after : List (Label × ℕ) → Noted
noted_after outputs = record { env = fans.env_after; ctx = fans.both_bound; outputs = outputs; calls = [] }

done_makes : statements 2 false takes kinds done.stmts (noted_after []) ≡ makes fans.both_bound fans.outputs_set []
done_makes =
    out_then 2 false takes kinds (word (codes "first")) (output_at 0) (record { node = 9; value = value.Int (pos 4) })
    (stmt.Out 0 (word (codes "last")) (output_at 1) ∷ []) (noted_after []) first_output
    ∙ out_then 2 false takes kinds (word (codes "last")) (output_at 1) (record { node = 7; value = value.Int (pos 6) }) [] (noted_after ((codes "first", 9) ∷ [])) last_output

pub goes_second : advance library fan 1 fans.env_after (fans.stands 1 fans.both_bound [] []) ≡ fans.after_done
unfolding out-Instr denote.Hole.Carrier.out
goes_second = ap (at_blocks fans.env_after (fans.stands 1 fans.both_bound [] [])) fan_blocks
    ∙ ap (λ s. after_step library fan 1 fans.env_after (fans.stands 1 fans.both_bound [] []) s (record { block = 0; next = 2 } ∷ [])) done_makes

pub goes_to_end : advance library fan 1 fans.env_after (fans.stands 2 fans.both_bound [] fans.outputs_set) ≡ fans.after_end
goes_to_end = ap (at_blocks fans.env_after (fans.stands 2 fans.both_bound [] fans.outputs_set)) fan_blocks
