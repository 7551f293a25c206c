-- The world that an import makes.
use Rattle.std.proofs.Common.{◌≡◌, ℕ, suc, ◌+◌, ◌<◌, ◌==◌, true, false, List, [], ◌∷◌, ◌++◌, length, map, refl, sym, ap, ◌∙◌, arith, append_assoc, length-append}
use Rattle.std.specs.Prelude.{All, if◌then◌else◌}
use Rattle.std.proofs.lemmas.Bool.{eq-eqb, ne_eqb}
use Rattle.std.proofs.lemmas.List.Elements.{All-nil, All-cons, All-head, All-tail, All-push, All-weaker}
use Rattle.wc_graph.specs.declared.link.Link.{Link}
use Rattle.wc_graph.specs.declared.node.NodeKind.{NodeKind}
use Rattle.wc_state.specs.declared.record.ProcessRecord.{ProcessRecord}
use Rattle.wc_world.specs.Applied.{applied, changed, made, set}
use Rattle.wc_world.specs.Records.{at_process}
use Rattle.wc_world.specs.World.{Known, World}
use Rattle.wc_world.specs.declared.change.Change.{Change}
use Rattle.wc_world.proofs.After.{changed_append}
use Rattle.wc_machine.proofs.Frames.{records_below}
use Rattle.wc_subworlds.specs.Parts.{placed}
use Rattle.wc_archive_file.specs.declared.archive.Archive.{Archive}
use Rattle.wc_archive_file.specs.declared.archive.ArchiveNode.{ArchiveNode}
use Rattle.wc_archive_file.specs.declared.archive.ArchiveNode.TheVariants as node
use Rattle.wc_archive.specs.After.{ended_record, records_from, with_archive}
use Rattle.wc_archive.specs.Alone.{ended_process, ends_from, imported, link_change, new_process, node_change, raised}
use Rattle.wc_archive.specs.Good.{kind_of_node}
use Rattle.wc_archive.specs.Laws.{ImportsMakeTheseWorlds}

-- ---- nodes

-- the records as they are made, where the first of these nodes has this number
abbrev pub made_from : (library pid : ℕ) → List ArchiveNode → List ProcessRecord
made_from library pid [] = []
made_from library pid (node.Data v ∷ ns) = made_from library (suc pid) ns
made_from library pid (node.Process p ∷ ns) = made pid (new_process library p) ∷ made_from library (suc pid) ns

abbrev pub with_nodes : ℕ → World → List ArchiveNode → World
with_nodes library w ns = record {
  nodes = w.nodes ++ map kind_of_node ns;
  links = w.links;
  records = w.records ++ made_from library (suc (length w.nodes)) ns;
  libraries = w.libraries;
  batches = w.batches;
}

pub append_nil : {T : Type 0} (xs : List T) → xs ++ [] ≡ xs
append_nil [] = refl
append_nil (x ∷ xs) = ap (λ (l : List _). x ∷ l) (append_nil xs)

more : (nodes : List NodeKind) (k : NodeKind) → length (nodes ++ k ∷ []) ≡ suc (length nodes)
more nodes k = let e : length (nodes ++ k ∷ []) ≡ length nodes + 1 = length-append nodes (k ∷ []) in omega (arith, e)

pub nodes_added : (batch library : ℕ) (w : World) (ns : List ArchiveNode) → changed batch w (map (node_change library) ns) ≡ with_nodes library w ns
nodes_added batch library w [] =
    λ i. record {
      nodes = sym (append_nil w.nodes) i;
      links = w.links;
      records = sym (append_nil w.records) i;
      libraries = w.libraries;
      batches = w.batches;
    }
nodes_added batch library w (node.Data v ∷ ns) =
    let k : NodeKind = kind_of_node (node.Data v) in
    let u : World = record { nodes = w.nodes ++ k ∷ []; links = w.links; records = w.records; libraries = w.libraries; batches = w.batches } in
    let nodes : (w.nodes ++ k ∷ []) ++ map kind_of_node ns ≡ w.nodes ++ k ∷ map kind_of_node ns = append_assoc w.nodes (k ∷ []) (map kind_of_node ns) in
    nodes_added batch library u ns
    ∙ (λ i. record {
      nodes = nodes i;
      links = w.links;
      records = w.records ++ made_from library (suc (more w.nodes k i)) ns;
      libraries = w.libraries;
      batches = w.batches;
    })
nodes_added batch library w (node.Process p ∷ ns) =
    let k : NodeKind = kind_of_node (node.Process p) in
    let u : World = record {
      nodes = w.nodes ++ k ∷ [];
      links = w.links;
      records = w.records ++ made (length w.nodes + 1) (new_process library p) ∷ [];
      libraries = w.libraries;
      batches = w.batches;
    } in
    let nodes : (w.nodes ++ k ∷ []) ++ map kind_of_node ns ≡ w.nodes ++ k ∷ map kind_of_node ns = append_assoc w.nodes (k ∷ []) (map kind_of_node ns) in
    let first : length w.nodes + 1 ≡ suc (length w.nodes) = omega arith in
    let rest : (pid further : ℕ) → (w.records ++ made pid (new_process library p) ∷ []) ++ made_from library further ns
    ≡ w.records ++ made pid (new_process library p) ∷ made_from library further ns
    = λ pid further. append_assoc w.records (made pid (new_process library p) ∷ []) (made_from library further ns) in
    nodes_added batch library u ns
    ∙ (λ i. record {
      nodes = nodes i;
      links = w.links;
      records = (w.records ++ made (first i) (new_process library p) ∷ []) ++ made_from library (suc (more w.nodes k i)) ns;
      libraries = w.libraries;
      batches = w.batches;
    })
    ∙ (λ i. record {
      nodes = w.nodes ++ k ∷ map kind_of_node ns;
      links = w.links;
      records = rest (suc (length w.nodes)) (suc (suc (length w.nodes))) i;
      libraries = w.libraries;
      batches = w.batches;
    })

-- ---- links

abbrev pub with_links : ℕ → World → List Link → World
with_links base w ls = record {
  nodes = w.nodes;
  links = w.links ++ map (placed (raised base)) ls;
  records = w.records;
  libraries = w.libraries;
  batches = w.batches;
}

pub links_added : (batch base : ℕ) (w : World) (ls : List Link) → changed batch w (map (link_change base) ls) ≡ with_links base w ls
links_added batch base w [] =
    λ i. record { nodes = w.nodes; links = sym (append_nil w.links) i; records = w.records; libraries = w.libraries; batches = w.batches }
links_added batch base w (l ∷ ls) =
    let m : Link = placed (raised base) l in
    let u : World = record { nodes = w.nodes; links = w.links ++ m ∷ []; records = w.records; libraries = w.libraries; batches = w.batches } in
    let links : (w.links ++ m ∷ []) ++ map (placed (raised base)) ls ≡ w.links ++ m ∷ map (placed (raised base)) ls
    = append_assoc w.links (m ∷ []) (map (placed (raised base)) ls) in
    links_added batch base u ls ∙ (λ i. record { nodes = w.nodes; links = links i; records = w.records; libraries = w.libraries; batches = w.batches })

-- ---- ends

-- no record here has the number
at_none : (pid : ℕ) (f : ProcessRecord → ProcessRecord) (rs : List ProcessRecord) → All (λ r. (r.node == pid) ≡ false) rs → at_process pid f rs ≡ rs
at_none pid f [] h = refl
at_none pid f (r ∷ rs) h =
    let rest : at_process pid f rs ≡ rs = at_none pid f rs (All-tail (λ x. (x.node == pid) ≡ false) r rs h) in
    let here : (r.node == pid) ≡ false = All-head (λ x. (x.node == pid) ≡ false) r rs h in
    λ i. (if here i then f r else r) ∷ rest i

at_split : (pid : ℕ) (f : ProcessRecord → ProcessRecord) (xs ys : List ProcessRecord) → at_process pid f (xs ++ ys) ≡ at_process pid f xs ++ at_process pid f ys
at_split pid f [] ys = refl
at_split pid f (x ∷ xs) ys = ap (λ (l : List ProcessRecord). (if x.node == pid then f x else x) ∷ l) (at_split pid f xs ys)

later : (library at pid : ℕ) (ns : List ArchiveNode) → pid < at → All (λ r. (r.node == pid) ≡ false) (made_from library at ns)
later library at pid [] lt = All-nil (λ r. (r.node == pid) ≡ false)
later library at pid (node.Data v ∷ ns) lt = later library (suc at) pid ns (omega arith)
later library at pid (node.Process p ∷ ns) lt =
    All-cons (λ r. (r.node == pid) ≡ false) (made at (new_process library p)) (made_from library (suc at) ns)
    (ne_eqb at pid (λ e. absurd (omega (arith, lt, e)))) (later library (suc at) pid ns (omega arith))

-- the process is set among the others
pub one_set : (pid library : ℕ) (f : ProcessRecord → ProcessRecord) (front : List ProcessRecord) (r : ProcessRecord) (ns : List ArchiveNode) → r.node ≡ pid
    → All (λ x. x.node < pid) front
    → at_process pid f (front ++ r ∷ made_from library (suc pid) ns) ≡ (front ++ f r ∷ []) ++ made_from library (suc pid) ns
one_set pid library f front r ns is below =
    let rest : List ProcessRecord = made_from library (suc pid) ns in
    let before : at_process pid f front ≡ front
    = at_none pid f front (All-weaker (λ x. x.node < pid) (λ x. (x.node == pid) ≡ false) (λ x lt. ne_eqb x.node pid (λ e. absurd (omega (arith, lt, e)))) front below) in
    let behind : at_process pid f rest ≡ rest = at_none pid f rest (later library (suc pid) pid ns (omega arith)) in
    let here : (r.node == pid) ≡ true = eq-eqb r.node pid is in
    at_split pid f front (r ∷ rest) ∙ (λ i. before i ++ (if here i then f r else r) ∷ behind i) ∙ sym (append_assoc front (f r ∷ []) rest)

module _ (batch library : ℕ) (nodes : List NodeKind) (links : List Link) (libraries : List Known) (batches : ℕ) where
  abbrev having : List ProcessRecord → World
  having rs = record { nodes = nodes; links = links; records = rs; libraries = libraries; batches = batches }

  pub ends_added : (pid : ℕ) (front : List ProcessRecord) (ns : List ArchiveNode) → All (λ x. x.node < pid) front
      → changed batch (having (front ++ made_from library pid ns)) (ends_from pid ns) ≡ having (front ++ records_from batch library pid ns)
  ends_added pid front [] below = refl
  ends_added pid front (node.Data v ∷ ns) below =
      ends_added (suc pid) front ns (All-weaker (λ x. x.node < pid) (λ x. x.node < suc pid) (λ x lt. omega (arith, lt)) front below)
  ends_added pid front (node.Process p ∷ ns) below =
      let r : ProcessRecord = made pid (new_process library p) in
      let s : ProcessRecord = ended_record batch library pid p in
      let f : ProcessRecord → ProcessRecord = set batch (ended_process pid p) in
      ap (λ (rs : List ProcessRecord). changed batch (having rs) (ends_from (suc pid) ns)) (one_set pid library f front r ns refl below)
      ∙ ends_added (suc pid) (front ++ s ∷ []) ns
      (All-push (λ x. x.node < suc pid) front s (All-weaker (λ x. x.node < pid) (λ x. x.node < suc pid) (λ x lt. omega (arith, lt)) front below) (omega arith))
      ∙ ap having (append_assoc front (s ∷ []) (records_from batch library (suc pid) ns))

-- ---- together

module _ (w : World) (a : Archive) (low : All (λ r. r.node < suc (length w.nodes)) w.records) where
  abbrev batch : ℕ
  batch = w.batches + 1

  abbrev library : ℕ
  library = suc (length w.libraries)

  abbrev pub with_library : World
  with_library = record { nodes = w.nodes; links = w.links; records = w.records; libraries = w.libraries ++ (a.library, []) ∷ []; batches = w.batches + 1 }

  pub import_makes : applied w (imported w a) ≡ with_archive w a
  import_makes =
      let ns : List Change = map (node_change library) a.nodes in
      let ls : List Change = map (link_change (length w.nodes)) a.links in
      let es : List Change = ends_from (suc (length w.nodes)) a.nodes in
      let u : World = with_nodes library with_library a.nodes in
      changed_append batch with_library ns (ls ++ es)
      ∙ ap (λ (x : World). changed batch x (ls ++ es)) (nodes_added batch library with_library a.nodes)
      ∙ changed_append batch u ls es
      ∙ ap (λ (x : World). changed batch x es) (links_added batch (length w.nodes) u a.links)
      ∙ ends_added batch library (w.nodes ++ map kind_of_node a.nodes) (w.links ++ map (placed (raised (length w.nodes))) a.links)
      (w.libraries ++ (a.library, []) ∷ []) (w.batches + 1) (suc (length w.nodes)) w.records a.nodes low

pub imports_make_these_worlds : ImportsMakeTheseWorlds
imports_make_these_worlds w a c = import_makes w a (records_below w.nodes w.records c.numbered)
