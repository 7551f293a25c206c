use Rattle.std.proofs.Common.{◌≡◌, true}
use Rattle.wc_graph.proofs.Labelling.{cannot}
use Rattle.wc_graph.proofs.rules.is_broken.Goals as goal

pub returns-then-not-can_break : goal.returns-then-not-can_break
returns-then-not-can_break c = (
  λ f. absurd (cc),
  λ any. absurd (cannot c.args.rule c.args.link.now c.args.graph.now.links
      (λ can. let yes : c.can_break.result ≡ true = c.can_break.ensures.1 can in absurd (cc (yes, c.if-not-can_break.true))) any),
)

pub returns-then-is_free : goal.returns-then-is_free
returns-then-is_free c = (λ f. absurd (cc), λ any. absurd (c.is_free.ensures c.if-is_free.true any))
