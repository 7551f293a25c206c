use Rattle.std.proofs.Common.{◌≡◌, ℕ, List, Some, sym, ap, ◌∙◌}
use Rattle.std.specs.Prelude.{slice_get}
use Rattle.std.specs.Option.{option_map}
use Rattle.wc_state.specs.declared.context.CtxRef.{CtxRef}
use Rattle.wc_outline.specs.Keys.{instr_mentions}
use Rattle.wc_outline.proofs.Entries.{next_read}
use Rattle.wc_outline.proofs.reads.mentioned_of.Goals as goal

pub loop-at-preserved : goal.loop-at-preserved
loop-at-preserved c =
    let e : List ℕ × CtxRef = (c.unwrap.result.0.now, c.unwrap.result.1.now) in
    let read : slice_get c.args.ctx.now c.loop-at.at ≡ Some e = sym c.get.ensures ∙ ap (option_map (λ p. (p.0.now, p.1.now))) c.unwrap.ensures in
    next_read (instr_mentions c.args.instr.now) c.args.ctx.now c.loop-at.at e read c.loop-at.read c.read_one.new.read c.loop-at.invariant.0 c.loop-at.invariant.1 c.in_ok-read_one.ensures
