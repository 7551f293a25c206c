use Rattle.std.proofs.Common.{ℕ, List, Option, ap, sym, subst, ◌∙◌}
use Rattle.std.specs.Ordering.{nat_cmp}
use Rattle.std.specs.Cmp.Lexicographic.{slice_cmp}
use Rattle.std.specs.BTreeSet.{contains_by}
use Rattle.wc_graph.specs.Labels.{Lacks}
use Rattle.wc_graph.proofs.Labelling.{not_known}
use Rattle.wc_graph.proofs.labels.Labels.lacks.Goals as goal

pub returns-in-Some-get : goal.returns-in-Some-get
returns-in-Some-get c = λ told.
    let names = c.in-Some-get.names.now in
    subst (λ (node : Option ℕ). Lacks c.args.self.now.busy node c.args.label.now) (sym c.in-Some.is)
    (not_known c.args.self.now.busy c.in-Some.node names c.args.label.now c.contains.result (sym c.in-Some-get.ensures.value)
    (c.contains.ensures ∙ ap (λ (bytes : List ℕ). contains_by (λ k. slice_cmp nat_cmp bytes k.items) names) c.bytes.ensures.value) told)
