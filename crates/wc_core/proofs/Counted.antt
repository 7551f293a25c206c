-- How many nodes and batches a world has after a submission.
use Rattle.std.proofs.Common.{◌≡◌, ℕ, suc, ◌+◌, List, [], ◌∷◌, ◌++◌, length, map, refl, sym, ap, ◌∙◌, arith}
use Rattle.wc_syntax.specs.Findings.{is_among}
use Rattle.wc_syntax.specs.declared.definition.Definition.{Definition}
use Rattle.wc_graph.specs.declared.link.LinkType.{LinkType}
use Rattle.wc_semantics.specs.Rules.{Values}
use Rattle.wc_world.specs.declared.change.Change.{Change}
use Rattle.wc_world.specs.World.{World}
use Rattle.wc_world.specs.Applied.{applied}
use Rattle.wc_world.specs.After.{nodes_in}
use Rattle.wc_world.specs.Records.{kind_of_definition}
use Rattle.wc_machine.specs.Submissions.{data_change, input_link, links_from, submitted_number, submission}
use Rattle.wc_machine.proofs.Counted.{HasNoCount, nodes_more, one_batch}
use Rattle.wc_core.specs.Submitted.{root}

data_counts : (is : Values) (cs : List Change) → HasNoCount cs → HasNoCount (map data_change is ++ cs)
data_counts [] cs h = h
data_counts (i ∷ is) cs h = data_counts is cs h

links_count : (t : LinkType) (source pid : ℕ) (is : Values) → HasNoCount (links_from t source pid is)
links_count t source pid [] = tt
links_count t source pid (i ∷ is) = links_count t (suc source) pid is

data_nodes : (is : Values) (cs : List Change) → length (nodes_in (map data_change is ++ cs)) ≡ length is + length (nodes_in cs)
data_nodes [] cs = sym (omega arith)
data_nodes (i ∷ is) cs = ap suc (data_nodes is cs) ∙ omega arith

links_nodes : (t : LinkType) (source pid : ℕ) (is : Values) → length (nodes_in (links_from t source pid is)) ≡ 0
links_nodes t source pid [] = refl
links_nodes t source pid (i ∷ is) = links_nodes t (suc source) pid is

module _ (w : World) (library : List Definition) (caching : List (List ℕ)) (name : List ℕ) (inputs : Values) (d : Definition) where
  pub nodes_submitted : length (applied w (submission w library caching name inputs d)).nodes ≡ length w.nodes + (length inputs + 1)
  nodes_submitted =
      let t = input_link (kind_of_definition d) in
      let links = links_from t (length w.nodes + 1) (submitted_number w inputs) inputs in
      let process = root w (kind_of_definition d) name (is_among name caching) in
      nodes_more w (submission w library caching name inputs d)
      ∙ ap (λ n. length w.nodes + n) (data_nodes inputs (process ∷ links) ∙ ap (λ n. length inputs + suc n) (links_nodes t (length w.nodes + 1) (submitted_number w inputs) inputs))

  pub batches_submitted : (applied w (submission w library caching name inputs d)).batches ≡ w.batches + 1
  batches_submitted =
      one_batch w (submission w library caching name inputs d) (data_counts inputs _ (links_count (input_link (kind_of_definition d)) (length w.nodes + 1) (submitted_number w inputs) inputs))
