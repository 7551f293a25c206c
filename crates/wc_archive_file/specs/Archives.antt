-- What an archive is as JSON, and which bytes are an archive's.
use Rattle.std.specs.Prelude.{◌≡◌, ℕ, ℤ, ◌<◌, ◌≤◌, ◌^◌, List, [], ◌∷◌, ◌++◌, length, All, Option, Some, None, codes, FitsSigned}
use Rattle.std.specs.Int.{w64}
use Rattle.hex.specs.Hex.{encode_lower, IsBytes}
use Rattle.serde_json.specs.Data.{Data, number, string, array, object, unsigned, Items, Members, member}
use Rattle.serde_json.specs.Find.{of_integer}
use Rattle.serde_json.specs.View.{items_of}
use Rattle.serde_json.specs.Written.{compact_text}
use Rattle.wc_value.specs.Spelling.{spelling, depth}
use Rattle.wc_value.specs.Spells.{Spells}
use Rattle.wc_value.specs.declared.value.Value.{Value}
use Rattle.wc_value.specs.declared.process.ProcessState.{ProcessState}
use Rattle.wc_value.specs.declared.process.ProcessState.TheVariants as state
use Rattle.wc_graph.specs.declared.link.Link.{Link}
use Rattle.wc_graph.specs.declared.link.LinkType.{LinkType}
use Rattle.wc_state.specs.declared.record.ProcessKind.{ProcessKind}
use Rattle.wc_state.specs.declared.record.ProcessKind.TheVariants as kind
use Rattle.wc_syntax.specs.declared.definition.Definition.{Definition}
use Rattle.wc_syntax.specs.Bare.{bare_library}
use Rattle.wc_syntax.specs.Checked.{IsChecked}
use Rattle.wc_syntax.specs.Printing.{printed}
use Rattle.wc_json.specs.Documents.{document_of}
use Rattle.wc_json.specs.Writing.{members_in, elements_by}
use Rattle.wc_report.specs.Lists.{process_kind_text}
use Rattle.wc_report.specs.Names.{state_text}
use Rattle.wc_report.specs.Shows.{link_type_text}
use Rattle.wc_archive_file.specs.declared.archive.Archive.{Archive}
use Rattle.wc_archive_file.specs.declared.archive.ArchiveNode.{ArchiveNode}
use Rattle.wc_archive_file.specs.declared.archive.ArchiveNode.TheVariants as node
use Rattle.wc_archive_file.specs.declared.archive.ArchiveProcess.{ArchiveProcess}

-- ---- an archive as JSON, with the keys of each object ascending

-- a number as JSON
abbrev pub number_data : ℕ → Data
number_data n = number (unsigned n)

-- an exit code as JSON
abbrev pub code_data : ℤ → Data
code_data z = number (of_integer z)

-- the canonical bytes in hexadecimal of lower case
abbrev pub value_data : Value → Data
value_data v = string (encode_lower (spelling v))

-- a kind of process as JSON
abbrev pub kind_data : ProcessKind → Data
kind_data k = string (process_kind_text k)

-- a state as JSON
abbrev pub state_data : ProcessState → Data
state_data s = string (state_text s)

-- a type of link as JSON
abbrev pub link_type_data : LinkType → Data
link_type_data t = string (link_type_text t)

-- source, target, type and label
abbrev pub link_items : Link → Items
link_items l = items_of (number_data l.source ∷ number_data l.target ∷ link_type_data l.link ∷ string l.label ∷ [])

-- a link as JSON: an array of its source, its target, its type and its label
abbrev pub link_data : Link → Data
link_data l = array (link_items l)

-- the members of a data node's object: its kind, and its value as the hexadecimal digits of its canonical bytes
abbrev pub data_object : Value → Members
data_object v = members_in ((codes "kind", string (codes "data")) ∷ (codes "value", value_data v) ∷ [])

-- a process without its code
abbrev pub uncoded_object : ArchiveProcess → Members
uncoded_object p = members_in (
    (codes "definition", string p.definition) ∷ (codes "depth", number_data p.depth) ∷ (codes "fuel", number_data p.fuel)
    ∷ (codes "kind", kind_data p.kind) ∷ (codes "label", string p.label) ∷ (codes "state", state_data p.state) ∷ [])

-- the code comes first, where there is one
abbrev pub with_code : Option ℤ → Members → Members
with_code None ms = ms
with_code (Some z) ms = member (codes "code") (code_data z) ms

-- the members of a process's object, with its exit code where there is one
abbrev pub process_object : ArchiveProcess → Members
process_object p = with_code p.code (uncoded_object p)

-- the members of a node's object
abbrev pub node_object : ArchiveNode → Members
node_object (node.Data v) = data_object v
node_object (node.Process p) = process_object p

-- a node as JSON: an object
abbrev pub node_data : ArchiveNode → Data
node_data n = object (node_object n)

-- links as JSON
abbrev pub links_data : List Link → Data
links_data ls = array (elements_by link_data ls)

-- nodes as JSON
abbrev pub nodes_data : List ArchiveNode → Data
nodes_data ns = array (elements_by node_data ns)

-- with the text of the library
abbrev pub archive_object : List ℕ → List Link → List ArchiveNode → Members
archive_object text links nodes = members_in (
    (codes "archive", number_data 1) ∷ (codes "library", string text) ∷ (codes "links", links_data links) ∷ (codes "nodes", nodes_data nodes) ∷ [])

-- An archive as JSON: its library as the printed text, its links as arrays, its nodes as objects
abbrev pub archive_data : Archive → Data
archive_data a = object (archive_object (printed a.library) a.links a.nodes)

-- the text: with no space, and a line feed behind it
abbrev pub archive_text : Archive → List ℕ
archive_text a = compact_text (archive_data a) ++ 10 ∷ []

-- ---- what can stand in a file

-- a library as a world keeps it: a checked one, without its offsets
abbrev pub IsKept : List Definition → Type 0
IsKept library = (l : List Definition) × IsChecked l × (bare_library l ≡ library)

-- the ends of a link are below 2^32
pub record IsLink (l : Link) : Type 0 where
  pub source : l.source < 2 ^ 32
  pub target : l.target < 2 ^ 32

-- a value that has canonical bytes and is at most 32 deep
pub record IsValue (v : Value) : Type 0 where
  pub spelled : Spells v (spelling v)
  pub bytes : IsBytes (spelling v)
  pub shallow : depth v ≤ 32

-- the status of a state that has finished is below 2^32
abbrev pub IsState : ProcessState → Type 0
IsState (state.Finished n) = n < 2 ^ 32
IsState _ = Unit {0}

-- only a job has a code
abbrev pub IsCode : ProcessKind → Option ℤ → Type 0
IsCode k None = Unit {0}
IsCode k (Some z) = FitsSigned w64 z × (k ≡ kind.Job)

-- the depth of a process is below 2^32 and its fuel below 2^64, and its state and its code can be written
pub record IsProcess (p : ArchiveProcess) : Type 0 where
  pub depth : p.depth < 2 ^ 32
  pub fuel : p.fuel < 2 ^ 64
  pub state : IsState p.state
  pub code : IsCode p.kind p.code

-- a node's value or process can be written
abbrev pub IsNode : ArchiveNode → Type 0
IsNode (node.Data v) = IsValue v
IsNode (node.Process p) = IsProcess p

-- no archive has more than 8,000,000 nodes
abbrev pub AreNodes : List ArchiveNode → Type 0
AreNodes ns = All IsNode ns × (length ns ≤ 8000000)

-- An archive that can stand in a file: its library is the bare form of a checked one, its values have canonical bytes and are at most 32 deep, only jobs
-- have a code, its numbers are within their bits, and it has at most 8,000,000 nodes
pub record IsWritable (a : Archive) : Type 0 where
  pub library : IsKept a.library
  pub links : All IsLink a.links
  pub nodes : AreNodes a.nodes

-- The bytes are JSON, in any layout, that is this archive's.
pub record IsArchive (bytes : List ℕ) (a : Archive) : Type 0 where
  pub says : document_of bytes ≡ Some (archive_data a)
  pub writable : IsWritable a
