use Rattle.std.proofs.Common.{ap, refl, ◌∙◌}
use Rattle.wc_syntax.specs.declared.outline.Instr.TheOpen.{Instr-F}
use Rattle.wc_semantics.specs.Run.{Act}
use Rattle.wc_semantics.proofs.Acts.{exec_is, opened}
use Rattle.wc_semantics.proofs.Clauses.{run_opened, branch_is, turn_is}
use Rattle.wc_semantics.proofs.laws.first_instruction.Goals as goal

pub returns-clause-empty : goal.returns-clause-empty
returns-clause-empty c a n e = refl

pub returns-clause-step : goal.returns-clause-step
returns-clause-step c i is s a n e h = run_opened i (Instr-F.Step s) is a n e h

pub returns-clause-branch : goal.returns-clause-branch
returns-clause-branch c i is at arms other a n e h = run_opened i (Instr-F.If at arms other) is a n e h ∙ branch_is arms other is a n e

pub returns-clause-turn : goal.returns-clause-turn
returns-clause-turn c i is at x b a n e t h =
    run_opened i (Instr-F.While at x b) is a n e h ∙ turn_is i is a t x b n e (λ m d. ap (λ (y : Act). y a m d) (exec_is i ∙ ap opened h))

pub returns-clause-leave : goal.returns-clause-leave
returns-clause-leave c i is at code a n e h = run_opened i (Instr-F.Return at code) is a n e h
