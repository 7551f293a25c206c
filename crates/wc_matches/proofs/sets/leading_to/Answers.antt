use Rattle.std.proofs.Common.{◌≡◌, ◌↔◌, ◌++◌, Bool, true, false, List, length, take, drop, get_or, sym, ap, ◌∙◌, subst}
use Rattle.std.proofs.lemmas.List.{take_at}
use Rattle.wc_matches.specs.Sets.{LeadsToSome}
use Rattle.wc_matches.proofs.Placing.{leads_where}
use Rattle.wc_matches.proofs.sets.leading_to.Goals as goal

pub returns-clause-leads : goal.returns-clause-leads
returns-clause-leads c = λ n.
    let links = c.args.graph.now.links in
    let marks = c.in_ok-marks.marks in
    let size : length c.joined.new.marks ≡ marks.len = c.joined.auto.marks ∙ ap length c.deref_mut.ensures.value ∙ sym marks.ok.0 in
    let whole : take marks.len (c.joined.new.marks ++ drop (length c.joined.new.marks) marks.items) ≡ c.joined.new.marks
    = take_at c.joined.new.marks (drop (length c.joined.new.marks) marks.items) marks.len size in
    subst (λ (xs : List Bool). (get_or xs n false ≡ true) ↔ LeadsToSome links c.args.join.now c.args.ends.now n) (sym whole)
    (leads_where links c.args.join.now c.joined.new.marks c.args.ends.now c.in_ok-_found._found.items
    c.in_ok-_found.ensures.exactly c.in_ok-_found.ensures.marked n)
