use Rattle.std.proofs.Common.{◌≡◌, ◌∙◌, ℕ, false, get_or, subst, arith}
use Rattle.std.specs.Prelude.{◌==◌}
use Rattle.std.proofs.lemmas.Bool.Decides.{nat_tests}
use Rattle.wc_journal.specs.Framing.{HasFrame}
use Rattle.wc_journal.proofs.Loading.{frames_end_here, no_gate, one_frame_more, refuses_behind, count_placed}
use Rattle.wc_journal.proofs.image.frames.Goals as goal

pub returns-then-image-gate-ne-OPEN-clause-ok : goal.returns-then-image-gate-ne-OPEN-clause-ok
returns-then-image-gate-ne-OPEN-clause-ok c =
    let shut : (get_or c.args.image.now c.loop-gate.gate 0 == 1) ≡ false = grind (arith, nat_tests) in
    frames_end_here _ _ _ _ _ c.loop-gate.invariant c.loop-gate-test.true shut

pub returns-in-Err-clause-refused : goal.returns-in-Err-clause-refused
returns-in-Err-clause-refused c =
    refuses_behind _ _ _ _ _ _ _ c.loop-gate.invariant.so_far (c.len.ensures.value ∙ count_placed c.args.image.now c.loop-gate.frames) c.in-Err.ensures.refused

pub loop-gate-preserved : goal.loop-gate-preserved
loop-gate-preserved c =
    one_frame_more c.args.version c.args.generation c.args.image.now c.loop-gate.frames c.push.new.self c.loop-gate.gate c.in-Ok.frame.0 c.in-Ok.frame.1
    c.loop-gate.invariant
    (subst (λ (p : ℕ). HasFrame c.args.version c.args.generation p c.loop-gate.gate c.args.image.now c.in-Ok.frame) c.len.ensures.value c.in-Ok.ensures.ok)
    c.in_ok-push.ensures.ok

pub returns-clause-refused : goal.returns-clause-refused
returns-clause-refused c = no_gate _ _ _ _ _ c.loop-gate.invariant.so_far c.loop-gate-test.false
