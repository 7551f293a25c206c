use Rattle.std.proofs.Common.{◌≡◌, ◌↔◌, ℕ, true, List, sym, ap, subst}
use Rattle.wc_matches.specs.Joins.{IsJoinedPast}
use Rattle.wc_matches.specs.Found.{has, FromSome}
use Rattle.wc_matches.proofs.Finding.{joined_by_links, joined_by_walks}
use Rattle.wc_matches.proofs.search.joined.Goals as goal
use Rattle.wc_matches.proofs.search.joined.Goals.{then-join+in_ok-close, else-join}

pub returns-clause-exactly : goal.returns-clause-exactly
returns-clause-exactly c = λ m.
    let links = c.args.graph.now.links in
    elim c.if-join.branch [
      | then-join+in_ok-close w ↦
          subst (λ (xs : List ℕ). (has xs m ≡ true) ↔ FromSome (IsJoinedPast c.args.join.now.walk c.args.forward c.args.join.now.types c.args.barred.now links) c.args.from.now m) (sym (ap (λ v. v.items) w.found-is))
          (joined_by_walks c.args.join.now.walk c.args.forward c.args.join.now.types c.args.barred.now links c.args.from.now c.args.marks.now _ _ _ _ w.if-join.true c.new-found.ensures.items
          c.in_ok-spread_all.ensures w.in_ok-close.ensures.closed m)
      | else-join w ↦
          subst (λ (xs : List ℕ). (has xs m ≡ true) ↔ FromSome (IsJoinedPast c.args.join.now.walk c.args.forward c.args.join.now.types c.args.barred.now links) c.args.from.now m) (sym (ap (λ v. v.items) w.found-is))
          (joined_by_links c.args.join.now.walk c.args.forward c.args.join.now.types c.args.barred.now links c.args.from.now c.args.marks.now _ _ _ w.if-join.false c.new-found.ensures.items
          c.in_ok-spread_all.ensures m)
    ]
