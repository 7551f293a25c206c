use Rattle.std.proofs.Common.{◌≡◌, ◌++◌, OnOk, string_bytes, sym, subst}
use Rattle.wc_syntax.proofs.ListTexts.{list_text}
use Rattle.wc_syntax.proofs.printing.expressions.+print.Goals as goal

pub put_list-returns : goal.put_list-returns
put_list-returns t c = subst (λ z. OnOk c.put_squares.result (string_bytes c.put_squares.new.out ≡ string_bytes c.args.out.now ++ z)) (sym (list_text c.args.exprs.now)) c.put_squares.ensures
