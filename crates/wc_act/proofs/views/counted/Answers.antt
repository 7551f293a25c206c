use Rattle.std.proofs.Common.{◌≡◌, length, sym, ap, subst, ◌∙◌}
use Rattle.wc_report.specs.Lines.{verified_text}
use Rattle.wc_plan.specs.Replies.{prints}
use Rattle.wc_verify.proofs.Results.{created_have_one}
use Rattle.wc_act.specs.Views.{Verifies, verified}
use Rattle.wc_act.proofs.views.counted.Goals as goal

pub find_disagreement-requires : goal.find_disagreement-requires
find_disagreement-requires c = created_have_one c.args.world.now.world c.requires.created

pub returns : goal.returns
returns c =
    let w = c.args.world.now.world in
    let d = c.in_ok-disagreement.disagreement in
    let nodes : c.len.result ≡ length w.nodes = c.len.ensures.value ∙ ap (λ p. length p.0) c.nodes.ensures.value ∙ ap length c.graph-graph.ensures.nodes.0 in
    let links : c.len-2.result ≡ length w.links = c.len-2.ensures.value ∙ ap (λ p. length p.0) c.links.ensures.value ∙ ap length c.graph-graph.ensures.links.0 in
    let text : c.in_ok-text.text ≡ verified_text (length w.nodes) (length w.links) d = c.in_ok-text.ensures ∙ (λ i. verified_text (nodes i) (links i) d) in
    subst (Verifies w) (sym (c.print.ensures ∙ ap prints text)) (verified d c.requires.acyclic c.requires.created c.in_ok-disagreement.ensures)
