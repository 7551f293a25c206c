use Rattle.std.proofs.Common.{◌∙◌}
use Rattle.wc_report.proofs.Shown.{below_written, call_written}
use Rattle.wc_report.proofs.tree.+put.Goals as goal

pub put_below-returns : goal.put_below-returns
put_below-returns t c = below_written _ _ _ _ c.args.tree.now c.args.margin.now c.in_ok-put_outputs.ensures c.put_calls.ensures

pub put_call-returns : goal.put_call-returns
put_call-returns t c = call_written _ _ _ _ c.args.margin.now _ c.args.label.now c.args.tree.now c.in_ok-put_head.ensures (c.as_str.ensures.value ∙ c.in_ok-inner.ensures) c.put_below.ensures
