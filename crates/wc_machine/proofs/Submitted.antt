-- The world after a submission, list by list.
use Rattle.std.proofs.Common.{◌≡◌, ℕ, suc, ◌+◌, List, [], ◌∷◌, ◌++◌, length, map, refl, sym, ap, ◌∙◌}
use Rattle.std.proofs.lemmas.List.{append_assoc, append-nil, length-append, length-map}
use Rattle.wc_value.specs.declared.value.Value.{Value}
use Rattle.std.specs.Prelude.{Option, Some, slice_get, option_map, option_and_then}
use Rattle.wc_syntax.specs.Findings.{is_among, definition_named}
use Rattle.wc_syntax.specs.declared.definition.Definition.{Definition}
use Rattle.wc_graph.specs.declared.node.NodeKind.{NodeKind}
use Rattle.wc_graph.specs.declared.node.NodeKind.TheVariants as node
use Rattle.wc_graph.specs.declared.link.Link.{Link}
use Rattle.wc_graph.specs.declared.link.LinkType.{LinkType}
use Rattle.wc_semantics.specs.Rules.{Values}
use Rattle.wc_state.specs.declared.record.ProcessRecord.{ProcessRecord}
use Rattle.wc_world.specs.declared.change.Change.{Change}
use Rattle.wc_world.specs.declared.change.Change.TheVariants as change
use Rattle.wc_records.specs.declared.change.NewProcess.{NewProcess}
use Rattle.wc_world.specs.World.{World, Known}
use Rattle.wc_world.specs.Records.{kind_of_definition, process_node, definition_in}
use Rattle.wc_world.specs.Applied.{made, next_number, after_change, changed, applied}
use Rattle.wc_world.proofs.After.{changed_append}
use Rattle.wc_machine.specs.Submissions.{data_change, input_link, links_from, submitted_number, submission}

pub at_length : {X : Type 0} (front : List X) (x : X) (rest : List X) → slice_get (front ++ x ∷ rest) (length front) ≡ Some x
at_length [] x rest = refl
at_length (y ∷ front) x rest = at_length front x rest

-- ---- data and links

abbrev pub data_node : List ℕ × Value → NodeKind
data_node i = node.Data i.1

-- links to a process from data nodes that follow each other from this one on
abbrev pub linked : LinkType → (source pid : ℕ) → Values → List Link
linked type source pid [] = []
linked type source pid (i ∷ is) = record { source = source; target = pid; link = type; label = i.0 } ∷ linked type (suc source) pid is

abbrev pub with_nodes : World → List NodeKind → World
with_nodes w ns = record { nodes = w.nodes ++ ns; links = w.links; records = w.records; libraries = w.libraries; batches = w.batches }

abbrev pub with_links : World → List Link → World
with_links w ls = record { nodes = w.nodes; links = w.links ++ ls; records = w.records; libraries = w.libraries; batches = w.batches }

pub data_added : (batch : ℕ) (w : World) (is : Values) → changed batch w (map data_change is) ≡ with_nodes w (map data_node is)
data_added batch w [] =
    ap (λ (ns : List NodeKind). record { nodes = ns; links = w.links; records = w.records; libraries = w.libraries; batches = w.batches }) (sym (append-nil w.nodes))
data_added batch w (i ∷ is) =
    data_added batch (after_change batch w (data_change i)) is
    ∙ ap (λ (ns : List NodeKind). record { nodes = ns; links = w.links; records = w.records; libraries = w.libraries; batches = w.batches })
    (append_assoc w.nodes (data_node i ∷ []) (map data_node is))

pub links_added : (batch : ℕ) (w : World) (type : LinkType) (source pid : ℕ) (is : Values)
    → changed batch w (links_from type source pid is) ≡ with_links w (linked type source pid is)
links_added batch w type source pid [] =
    ap (λ (ls : List Link). record { nodes = w.nodes; links = ls; records = w.records; libraries = w.libraries; batches = w.batches }) (sym (append-nil w.links))
links_added batch w type source pid (i ∷ is) =
    let l : Link = record { source = source; target = pid; link = type; label = i.0 } in
    links_added batch (after_change batch w (change.Link l)) type (suc source) pid is
    ∙ ap (λ (ls : List Link). record { nodes = w.nodes; links = ls; records = w.records; libraries = w.libraries; batches = w.batches })
    (append_assoc w.links (l ∷ []) (linked type (suc source) pid is))

-- ---- the whole

module _ (w : World) (library : List Definition) (caching : List (List ℕ)) (name : List ℕ) (inputs : Values) (d : Definition) where
  abbrev pub new_process : NewProcess
  new_process = record {
    kind = kind_of_definition d;
    definition = name;
    library = suc (length w.libraries);
    depth = 1;
    label = [];
    caching = is_among name caching;
  }

  -- the record of the new process
  abbrev pub new_record : ProcessRecord
  new_record = made (submitted_number w inputs) new_process

  abbrev pub new_nodes : List NodeKind
  new_nodes = map data_node inputs ++ process_node (kind_of_definition d) ∷ []

  abbrev pub new_links : List Link
  new_links = linked (input_link (kind_of_definition d)) (length w.nodes + 1) (submitted_number w inputs) inputs

  -- with the library, before the data
  abbrev pub with_library : World
  with_library = record {
    nodes = w.nodes;
    links = w.links;
    records = w.records;
    libraries = w.libraries ++ (library, caching) ∷ [];
    batches = w.batches + 1;
  }

  -- with the process, before its links
  abbrev pub with_process : World
  with_process = record {
    nodes = w.nodes ++ new_nodes;
    links = w.links;
    records = w.records ++ new_record ∷ [];
    libraries = w.libraries ++ (library, caching) ∷ [];
    batches = w.batches + 1;
  }

  abbrev pub submitted_world : World
  submitted_world = with_links with_process new_links

  pub number_is : next_number (with_nodes with_library (map data_node inputs)) ≡ submitted_number w inputs
  number_is = ap (λ (n : ℕ). n + 1) (length-append w.nodes (map data_node inputs) ∙ ap (λ (n : ℕ). length w.nodes + n) (length-map inputs data_node))

  pub process_added : (batch : ℕ) → after_change batch (with_nodes with_library (map data_node inputs)) (change.Process new_process) ≡ with_process
  process_added batch = λ i. record {
    nodes = append_assoc w.nodes (map data_node inputs) (process_node (kind_of_definition d) ∷ []) i;
    links = w.links;
    records = w.records ++ made (number_is i) new_process ∷ [];
    libraries = w.libraries ++ (library, caching) ∷ [];
    batches = w.batches + 1;
  }

  -- the new process runs the submitted definition
  pub new_definition : definition_in (w.libraries ++ (library, caching) ∷ []) (suc (length w.libraries)) name ≡ definition_named name library
  new_definition = ap (λ (o : Option Known). option_and_then (definition_named name) (option_map (λ k. k.0) o)) (at_length w.libraries (library, caching) [])

  pub submission_gives : applied w (submission w library caching name inputs d) ≡ submitted_world
  submission_gives =
      let batch = w.batches + 1 in
      let links : List Change = links_from (input_link (kind_of_definition d)) (length w.nodes + 1) (submitted_number w inputs) inputs in
      changed_append batch with_library (map data_change inputs) (change.Process new_process ∷ links)
      ∙ ap (λ (v : World). changed batch (after_change batch v (change.Process new_process)) links) (data_added batch with_library inputs)
      ∙ ap (λ (v : World). changed batch v links) (process_added batch)
      ∙ links_added batch with_process (input_link (kind_of_definition d)) (length w.nodes + 1) (submitted_number w inputs) inputs
