-- What the reading of a part of an archive answers.
use Rattle.std.specs.Prelude.{◌≡◌, ℕ, ℤ, pos, int_lt, ◌<◌, ◌≤◌, ◌^◌, decimal, Bool, false, ◌||◌, is_some, option_and_then, if◌then◌else◌, List, [], ◌∷◌, Option, Some, None, Result, Ok, Err, All, Vec}
use Rattle.std.specs.Str.{bytes_eq}
use Rattle.std.specs.declared.alloc.Global.{Global}
use Rattle.hex.specs.Hex.{IsBytes, decode_of, encode_lower}
use Rattle.serde_json.specs.Data.{Data, object, Items, Members, member}
use Rattle.serde_json.specs.Find.{as_i64, as_number, as_u64}
use Rattle.wc_value.specs.Spelling.{spelling, depth}
use Rattle.wc_value.specs.Spells.{Spells}
use Rattle.wc_value.specs.declared.value.Value.{Value}
use Rattle.wc_value.specs.declared.process.ProcessState.{ProcessState}
use Rattle.wc_value.specs.declared.process.ProcessState.TheVariants as state
use Rattle.wc_value.specs.declared.process.Reason.{Reason}
use Rattle.wc_value.specs.declared.process.Reason.TheVariants as reason
use Rattle.wc_graph.specs.declared.link.LinkType.{LinkType}
use Rattle.wc_graph.specs.declared.link.LinkType.TheVariants as link
use Rattle.wc_state.specs.declared.record.ProcessKind.{ProcessKind}
use Rattle.wc_state.specs.declared.record.ProcessKind.TheVariants as kind
use Rattle.wc_syntax.specs.declared.definition.Definition.{Definition}
use Rattle.wc_syntax.specs.Printing.{printed}
use Rattle.wc_json.specs.Documents.{document_of}
use Rattle.wc_json.specs.Writing.{elements_by}
use Rattle.wc_archive_file.specs.declared.archive.Archive.{Archive}
use Rattle.wc_archive_file.specs.declared.archive.ArchiveProcess.{ArchiveProcess}
use Rattle.wc_archive_file.specs.declared.file.Form.{Form}
use Rattle.wc_archive_file.specs.declared.misread.Misread.{Misread}
use Rattle.wc_archive_file.specs.declared.misread.Misread.TheVariants as misread
use Rattle.wc_archive_file.specs.Archives.{archive_object, AreNodes, IsArchive, IsKept, IsLink, IsProcess}

-- ---- what a part may be

-- anything
abbrev pub IsAny : {A : Type 0} → A → Type 0
IsAny a = Unit {0}

-- a value that has canonical bytes and is at most 32 deep
abbrev pub IsShallow : Value → Type 0
IsShallow v = Spells v (spelling v) × (depth v ≤ 32)

-- the hexadecimal digits of the canonical bytes of a value
abbrev pub value_digits : Value → List ℕ
value_digits v = encode_lower (spelling v)

-- an exit code is there
abbrev pub HasCode : Option ℤ → Type 0
HasCode None = ⊥
HasCode (Some z) = Unit {0}

-- a process that can be written, with an exit code
abbrev pub IsCoded : ArchiveProcess → Type 0
IsCoded p = IsProcess p × HasCode p.code

-- a process that can be written, without an exit code
abbrev pub IsUncoded : ArchiveProcess → Type 0
IsUncoded p = IsProcess p × (p.code ≡ None)

-- an archive whose library is a text
abbrev pub form_object : Form → Members
form_object f = archive_object f.library f.links f.nodes

-- as JSON, an archive whose library is kept as a text
abbrev pub form_data : Form → Data
form_data f = object (form_object f)

-- the links and the nodes of an archive can be written
abbrev pub IsForm : Form → Type 0
IsForm f = All IsLink f.links × AreNodes f.nodes

-- whether an exit code is there and below 0
abbrev pub below_zero : Option ℤ → Bool
below_zero None = false
below_zero (Some z) = int_lt z (pos 0)

-- a number with sign is below zero, or is written with no sign
abbrev pub is_written_so : Data → Bool
is_written_so d = below_zero (option_and_then as_i64 (as_number d)) || is_some (option_and_then as_u64 (as_number d))

-- ---- names

-- the first of these whose text is the name
abbrev pub chosen : {A : Type 0} → (A → List ℕ) → List A → List ℕ → Option A
chosen text [] name = None
chosen text (a ∷ rest) name = if bytes_eq name (text a) then Some a else chosen text rest name

-- the kinds of processes; a name stands for the first of these whose text it is
abbrev pub process_kinds : List ProcessKind
process_kinds = kind.Function ∷ kind.Job ∷ kind.Chain ∷ []

-- the types of links; a name stands for the first of these whose text it is
abbrev pub link_types : List LinkType
link_types = link.InputCalc ∷ link.InputWork ∷ link.Create ∷ link.Return ∷ link.CallCalc ∷ link.CallWork ∷ []

-- the reasons; a name stands for the first of these whose text it is
abbrev pub reasons : List Reason
reasons =
    reason.Overflow ∷ reason.DivideByZero ∷ reason.MissingKey ∷ reason.WrongKind ∷ reason.NoOutput ∷ reason.BadText ∷ reason.TooLong ∷ reason.Depth
    ∷ reason.BadInput ∷ []

-- those with neither status nor reason
abbrev pub plain_states : List ProcessState
plain_states = state.Created ∷ state.Running ∷ state.Waiting ∷ state.Killed ∷ []

-- ---- what was found

-- the text is that of what was found, or of nothing
abbrev pub Names : {A : Type 0} → (A → List ℕ) → (A → Type 0) → List ℕ → Option A → Type 0
Names {A} text fits name (Some a) = (text a ≡ name) × fits a
Names {A} text fits name None = (a : A) → fits a → text a ≡ name → ⊥

-- the digits are those of the status of the finished state that was found, or of none
abbrev pub FindsFinished : List ℕ → Option ProcessState → Type 0
FindsFinished digits (Some s) = (n : ℕ) × (s ≡ state.Finished n) × (decimal n ≡ digits) × (n < 2 ^ 32)
FindsFinished digits None = (n : ℕ) → n < 2 ^ 32 → decimal n ≡ digits → ⊥

-- where the shape is wrong, this holds
abbrev pub Refuses : Type 0 → Misread → Type 0
Refuses never misread.Shape = never
Refuses never misread.OutOfMemory = Unit {0}

-- what stands there is what was read, or nothing that can be read
abbrev pub Reads : {A D : Type 0} → (A → D) → (A → Type 0) → D → Result A Misread → Type 0
Reads {A} write fits d (Ok a) = (d ≡ write a) × fits a
Reads {A} write fits d (Err e) = Refuses ((a : A) → fits a → d ≡ write a → ⊥) e

-- the next member has the key, and has what was read; or no such member comes next
abbrev pub ReadsNext : {A : Type 0} → (A → Data) → (A → Type 0) → List ℕ → Members → Result A Misread → Members → Type 0
ReadsNext {A} write fits key old (Ok a) new = (old ≡ member key (write a) new) × fits a
ReadsNext {A} write fits key old (Err e) new = Refuses ((a : A) (rest : Members) → fits a → old ≡ member key (write a) rest → ⊥) e

-- the elements are those that were read
abbrev pub ReadsAll : {A : Type 0} → (A → Data) → (A → Type 0) → Items → Result (List A) Misread → Type 0
ReadsAll write fits = Reads (elements_by write) (All fits)

-- the digits are decoded, in either case, or those of no bytes
abbrev pub Decodes : List ℕ → Result (Vec ℕ Global) Misread → Type 0
Decodes digits (Ok bytes) = decode_of digits ≡ Ok bytes.items
Decodes digits (Err e) = Refuses ((bytes : List ℕ) → decode_of digits ≡ Ok bytes → ⊥) e

-- the digits are those of the bytes that were read, in lower case, or of none
abbrev pub ReadsDigits : List ℕ → Result (Vec ℕ Global) Misread → Type 0
ReadsDigits digits (Ok bytes) = (digits ≡ encode_lower bytes.items) × IsBytes bytes.items
ReadsDigits digits (Err e) = Refuses ((bytes : List ℕ) → IsBytes bytes → digits ≡ encode_lower bytes → ⊥) e

-- ---- bytes

-- the bytes say this, with the library as a text, or nothing
abbrev pub FindsForm : List ℕ → Option Form → Type 0
FindsForm bytes (Some f) = (document_of bytes ≡ Some (form_data f)) × IsForm f
FindsForm bytes None = (f : Form) → IsForm f → document_of bytes ≡ Some (form_data f) → ⊥

-- the text of the library is that of a kept one, and the links and nodes are these; or it is no such text
abbrev pub Completes : Form → Option Archive → Type 0
Completes f (Some a) = (printed a.library ≡ f.library) × IsKept a.library × (a.links ≡ f.links) × (a.nodes ≡ f.nodes)
Completes f None = (l : List Definition) → IsKept l → printed l ≡ f.library → ⊥

-- the bytes are those of this archive, or of none
abbrev pub Finds : List ℕ → Option Archive → Type 0
Finds bytes (Some a) = IsArchive bytes a
Finds bytes None = (a : Archive) → IsArchive bytes a → ⊥
