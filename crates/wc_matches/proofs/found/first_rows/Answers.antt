use Rattle.wc_matches.proofs.Growing.{first_numbers}
use Rattle.wc_matches.proofs.found.first_rows.Goals as goal

pub returns : goal.returns
returns c =
    first_numbers c.args.set.now c.args.most c.in_ok-ids.ids.items c.deref.result.now c.new-rows.result c.put_rows.new.out c.in_ok-ids.ensures c.deref.ensures.value
    c.new-rows.ensures c.in_ok-put_rows.ensures
