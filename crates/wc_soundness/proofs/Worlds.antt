-- The world after a work chain submitted calls is the one that its changes make.
use Rattle.std.proofs.Common.{◌≡◌, ℕ, suc, ◌+◌, ◌<◌, ◌≤◌, List, [], ◌∷◌, ◌++◌, length, refl, sym, ap, ◌∙◌, arith}
use Rattle.std.specs.Prelude.{◌==◌, if◌then◌else◌}
use Rattle.std.proofs.lemmas.Bool.{cond-false, ne_eqb}
use Rattle.std.proofs.lemmas.List.{append_assoc, append-nil, length-append}
use Rattle.wc_graph.specs.declared.link.Link.{Link}
use Rattle.wc_graph.specs.declared.link.LinkType.{LinkType}
use Rattle.wc_graph.specs.declared.node.NodeKind.{NodeKind}
use Rattle.wc_syntax.specs.declared.definition.Port.{Port}
use Rattle.wc_state.specs.declared.record.Checkpoint.{Checkpoint}
use Rattle.wc_state.specs.declared.record.ProcessRecord.{ProcessRecord}
use Rattle.wc_world.specs.declared.change.Change.{Change}
use Rattle.wc_world.specs.declared.change.Change.TheVariants as change
use Rattle.wc_world.specs.Applied.{made, set, next_number, after_change, changed, begun, applied}
use Rattle.wc_world.specs.Records.{at_process, process_node}
use Rattle.wc_world.specs.World.{World}
use Rattle.wc_world.proofs.After.{changed_append}
use Rattle.wc_machine.specs.Advances.{submits}
use Rattle.wc_machine.specs.Calls.{Arguments, plain_data, argument_links, advanced, calls_changes, call_changes, called_number, kind_of_callee}
use Rattle.wc_machine.specs.Steps.{node, plain, Call}
use Rattle.wc_machine.specs.Submissions.{input_link}
use Rattle.wc_machine.proofs.Submitted.{with_nodes, with_links}
use Rattle.wc_soundness.specs.Submitted.{data_nodes, input_links, child_of, child_record, call_nodes, its_call_link, call_links, calls_nodes, calls_links, calls_records, waits_at, submitted}

-- ---- data and links

pub data_added : (batch : ℕ) (u : World) (args : Arguments) → changed batch u (plain_data args) ≡ with_nodes u (data_nodes args)
data_added batch u [] =
    ap (λ (ns : List NodeKind). record { nodes = ns; links = u.links; records = u.records; libraries = u.libraries; batches = u.batches }) (sym (append-nil u.nodes))
data_added batch u ((port, node n) ∷ rest) = data_added batch u rest
data_added batch u ((port, plain v) ∷ rest) =
    data_added batch (after_change batch u (change.Data v)) rest
    ∙ ap (λ (ns : List NodeKind). record { nodes = ns; links = u.links; records = u.records; libraries = u.libraries; batches = u.batches })
    (append_assoc u.nodes (_ ∷ []) (data_nodes rest))

pub links_added : (batch : ℕ) (u : World) (type : LinkType) (next pid : ℕ) (args : Arguments)
    → changed batch u (argument_links type next pid args) ≡ with_links u (input_links type next pid args)
links_added batch u type next pid [] =
    ap (λ (ls : List Link). record { nodes = u.nodes; links = ls; records = u.records; libraries = u.libraries; batches = u.batches }) (sym (append-nil u.links))
links_added batch u type next pid ((port, node n) ∷ rest) =
    let l : Link = record { source = n.node; target = pid; link = type; label = port } in
    links_added batch (after_change batch u (change.Link l)) type next pid rest
    ∙ ap (λ (ls : List Link). record { nodes = u.nodes; links = ls; records = u.records; libraries = u.libraries; batches = u.batches })
    (append_assoc u.links (l ∷ []) (input_links type next pid rest))
links_added batch u type next pid ((port, plain v) ∷ rest) =
    let l : Link = record { source = next; target = pid; link = type; label = port } in
    links_added batch (after_change batch u (change.Link l)) type (suc next) pid rest
    ∙ ap (λ (ls : List Link). record { nodes = u.nodes; links = ls; records = u.records; libraries = u.libraries; batches = u.batches })
    (append_assoc u.links (l ∷ []) (input_links type (suc next) pid rest))

pub data_count : (args : Arguments) → length (data_nodes args) ≡ length (plain_data args)
data_count [] = refl
data_count ((port, node n) ∷ rest) = data_count rest
data_count ((port, plain v) ∷ rest) = ap suc (data_count rest)

-- ---- calls

module _ (w : World) (r : ProcessRecord) where
  -- a world with one call more
  abbrev pub with_call : World → ℕ → Call → World
  with_call u next c = record {
    nodes = u.nodes ++ call_nodes w r c;
    links = u.links ++ call_links w r next c;
    records = u.records ++ child_record w r next c ∷ [];
    libraries = u.libraries;
    batches = u.batches;
  }

  -- and with so many more
  abbrev pub with_calls : World → ℕ → List Call → World
  with_calls u next calls = record {
    nodes = u.nodes ++ calls_nodes w r calls;
    links = u.links ++ calls_links w r next calls;
    records = u.records ++ calls_records w r next calls;
    libraries = u.libraries;
    batches = u.batches;
  }

  -- with its process, before its links
  abbrev pub with_child : World → ℕ → Call → World
  with_child u next c = record {
    nodes = u.nodes ++ call_nodes w r c;
    links = u.links;
    records = u.records ++ child_record w r next c ∷ [];
    libraries = u.libraries;
    batches = u.batches;
  }

  -- the next number after a call
  pub number_after : (u : World) (next : ℕ) (c : Call) → next ≡ length u.nodes + 1 → suc (called_number w r next c) ≡ length (with_call u next c).nodes + 1
  number_after u next c e =
      let front : length (u.nodes ++ call_nodes w r c) ≡ length u.nodes + length (call_nodes w r c) = length-append u.nodes (call_nodes w r c) in
      let own : length (call_nodes w r c) ≡ length (data_nodes c.args) + 1 = length-append (data_nodes c.args) (process_node (kind_of_callee w r c) ∷ []) in
      let plain : length (data_nodes c.args) ≡ length (plain_data c.args) = data_count c.args in
      omega arith

  pub child_number : (u : World) (next : ℕ) (c : Call) → next ≡ length u.nodes + 1 → next_number (with_nodes u (data_nodes c.args)) ≡ called_number w r next c
  child_number u next c e =
      let front : length (u.nodes ++ data_nodes c.args) ≡ length u.nodes + length (data_nodes c.args) = length-append u.nodes (data_nodes c.args) in
      let plain : length (data_nodes c.args) ≡ length (plain_data c.args) = data_count c.args in
      omega arith

  pub child_added : (batch : ℕ) (u : World) (next : ℕ) (c : Call) → next ≡ length u.nodes + 1
      → after_change batch (with_nodes u (data_nodes c.args)) (change.Process (child_of w r c)) ≡ with_child u next c
  child_added batch u next c e = λ i. record {
    nodes = append_assoc u.nodes (data_nodes c.args) (process_node (kind_of_callee w r c) ∷ []) i;
    links = u.links;
    records = u.records ++ made (child_number u next c e i) (child_of w r c) ∷ [];
    libraries = u.libraries;
    batches = u.batches;
  }

  pub call_added : (batch : ℕ) (u : World) (next : ℕ) (c : Call) → next ≡ length u.nodes + 1 → changed batch u (call_changes w r next c) ≡ with_call u next c
  call_added batch u next c e =
      let type : LinkType = input_link (kind_of_callee w r c) in
      let inputs : List Change = argument_links type next (called_number w r next c) c.args in
      let last : List Change = change.Link (its_call_link w r next c) ∷ [] in
      changed_append batch u (plain_data c.args) (change.Process (child_of w r c) ∷ (inputs ++ last))
      ∙ ap (λ (v : World). changed batch (after_change batch v (change.Process (child_of w r c))) (inputs ++ last)) (data_added batch u c.args)
      ∙ ap (λ (v : World). changed batch v (inputs ++ last)) (child_added batch u next c e)
      ∙ changed_append batch (with_child u next c) inputs last
      ∙ ap (λ (v : World). changed batch v last) (links_added batch (with_child u next c) type next (called_number w r next c) c.args)
      ∙ (λ i. record {
        nodes = u.nodes ++ call_nodes w r c;
        links = append_assoc u.links (input_links type next (called_number w r next c) c.args) (its_call_link w r next c ∷ []) i;
        records = u.records ++ child_record w r next c ∷ [];
        libraries = u.libraries;
        batches = u.batches;
      })

  pub calls_added : (batch : ℕ) (u : World) (next : ℕ) (calls : List Call) → next ≡ length u.nodes + 1
      → changed batch u (calls_changes w r next calls) ≡ with_calls u next calls
  calls_added batch u next [] e =
      λ i. record { nodes = sym (append-nil u.nodes) i; links = sym (append-nil u.links) i; records = sym (append-nil u.records) i; libraries = u.libraries; batches = u.batches }
  calls_added batch u next (c ∷ cs) e =
      let further : ℕ = suc (called_number w r next c) in
      changed_append batch u (call_changes w r next c) (calls_changes w r further cs)
      ∙ ap (λ (v : World). changed batch v (calls_changes w r further cs)) (call_added batch u next c e)
      ∙ calls_added batch (with_call u next c) further cs (number_after u next c e)
      ∙ (λ i. record {
        nodes = append_assoc u.nodes (call_nodes w r c) (calls_nodes w r cs) i;
        links = append_assoc u.links (call_links w r next c) (calls_links w r further cs) i;
        records = append_assoc u.records (child_record w r next c ∷ []) (calls_records w r further cs) i;
        libraries = u.libraries;
        batches = u.batches;
      })

  -- ---- the chain

  -- the records of children stay, where another process is set
  children_stay : (pid : ℕ) (f : ProcessRecord → ProcessRecord) (next : ℕ) (calls : List Call) → pid < next
      → at_process pid f (calls_records w r next calls) ≡ calls_records w r next calls
  children_stay pid f next [] lt = refl
  children_stay pid f next (c ∷ cs) lt =
      let number : ℕ = called_number w r next c in
      ap (λ (x : ProcessRecord). x ∷ at_process pid f (calls_records w r (suc number) cs))
      (cond-false (number == pid) (f (child_record w r next c)) (child_record w r next c) (ne_eqb number pid (λ e. absurd (omega arith))))
      ∙ ap (λ (rs : List ProcessRecord). child_record w r next c ∷ rs) (children_stay pid f (suc number) cs (omega arith))

  at_front : (pid : ℕ) (f : ProcessRecord → ProcessRecord) (xs ys : List ProcessRecord) → at_process pid f (xs ++ ys) ≡ at_process pid f xs ++ at_process pid f ys
  at_front pid f [] ys = refl
  at_front pid f (x ∷ xs) ys = ap (λ (l : List ProcessRecord). (if x.node == pid then f x else x) ∷ l) (at_front pid f xs ys)

  -- The changes of a chain that submits these calls make this world.
  pub submits_gives : (ports : List Port) (d : Checkpoint) (calls : List Call) → r.node ≤ length w.nodes
      → applied w (advanced w r ports (submits d calls)) ≡ submitted w r d calls
  submits_gives ports d calls le =
      let batch : ℕ = w.batches + 1 in
      let first : ℕ = length w.nodes + 1 in
      let f : ProcessRecord → ProcessRecord = set batch (waits_at w r d calls) in
      changed_append batch (begun w) (calls_changes w r first calls) (change.Set (waits_at w r d calls) ∷ [])
      ∙ ap (λ (v : World). changed batch v (change.Set (waits_at w r d calls) ∷ [])) (calls_added batch (begun w) first calls refl)
      ∙ ap (λ (rs : List ProcessRecord). record {
        nodes = w.nodes ++ calls_nodes w r calls;
        links = w.links ++ calls_links w r first calls;
        records = rs;
        libraries = w.libraries;
        batches = batch;
      }) (at_front r.node f w.records (calls_records w r first calls)
      ∙ ap (λ (rs : List ProcessRecord). at_process r.node f w.records ++ rs) (children_stay r.node f first calls (omega arith)))
