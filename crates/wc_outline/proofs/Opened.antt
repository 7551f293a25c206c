-- The blocks in an instruction, by what stands in it.
use Rattle.std.proofs.Common.{◌≡◌, ℕ, List, ◌++◌, Option, Some, None, sym, ap, ◌∙◌}
use Rattle.std.proofs.lemmas.List.{append-nil}
use Rattle.wc_syntax.specs.declared.expression.Expr.{Expr}
use Rattle.wc_syntax.specs.declared.outline.Arm.{Arm}
use Rattle.wc_syntax.specs.declared.outline.Block.{Block}
use Rattle.wc_syntax.specs.declared.outline.Instr.{Instr, out-Instr, out-roll-Instr}
use Rattle.wc_syntax.specs.declared.outline.Instr.TheVariants as instr
use Rattle.wc_syntax.specs.declared.outline.Instr.TheOpen.{Instr-F}
use Rattle.wc_machine.specs.Outlines.{blocks, blocks_in}
use Rattle.wc_turn_laws.proofs.Numbering.{opened_blocks, blocks_in_are}
use Rattle.wc_outline.specs.Places.{arm_blocks, if_blocks}

blocks_if : (i : Instr) (at : ℕ) (arms : List Arm) (other : Option Block) → i ≡ instr.If at arms other → blocks_in i ≡ opened_blocks (Instr-F.If at arms other)
blocks_if i at arms other h =
    blocks_in_are i ∙ ap (λ (j : Instr). opened_blocks (out-Instr j)) (h ∙ sym (instr.rolls-If at arms other))
    ∙ ap opened_blocks (out-roll-Instr (Instr-F.If at arms other))

pub blocks_some : (i : Instr) (at : ℕ) (arms : List Arm) (b : Block) → i ≡ instr.If at arms (Some b) → blocks_in i ≡ arm_blocks arms ++ blocks b
blocks_some i at arms b h = blocks_if i at arms (Some b) h

pub blocks_none : (i : Instr) (at : ℕ) (arms : List Arm) → i ≡ instr.If at arms None → blocks_in i ≡ arm_blocks arms
blocks_none i at arms h = blocks_if i at arms None h ∙ append-nil (arm_blocks arms)

pub blocks_while : (i : Instr) (at : ℕ) (e : Expr) (b : Block) → i ≡ instr.While at e b → blocks_in i ≡ blocks b
blocks_while i at e b h =
    blocks_in_are i ∙ ap (λ (j : Instr). opened_blocks (out-Instr j)) (h ∙ sym (instr.rolls-While at e b))
    ∙ ap opened_blocks (out-roll-Instr (Instr-F.While at e b))

pub blocks_both : (i : Instr) (at : ℕ) (arms : List Arm) (other : Option Block) → i ≡ instr.If at arms other → blocks_in i ≡ if_blocks arms other
blocks_both i at arms None h = blocks_if i at arms None h
blocks_both i at arms (Some b) h = blocks_if i at arms (Some b) h
