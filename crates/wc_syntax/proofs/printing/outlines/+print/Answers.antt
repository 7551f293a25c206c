use Rattle.std.proofs.Common.{◌≡◌, ◌++◌, OnOk, string_bytes, sym, subst}
use Rattle.wc_syntax.proofs.ListTexts.{block_text}
use Rattle.wc_syntax.proofs.printing.outlines.+print.Goals as goal

pub put_block-returns : goal.put_block-returns
put_block-returns t c = subst (λ z. OnOk c.put_instrs.result (string_bytes c.put_instrs.new.out ≡ string_bytes c.args.out.now ++ z)) (sym (block_text c.args.block.now c.args.margin.now)) c.put_instrs.ensures
