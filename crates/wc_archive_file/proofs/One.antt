-- Bytes are those of one archive at most.
use Rattle.std.proofs.Common.{◌≡◌, ℕ, ℤ, pos, negsuc, ◌<◌, ◌^◌, List, [], ◌∷◌, ◌++◌, get_or, map, Option, Some, None, Result, Ok, refl, sym, ap, subst, ◌∙◌, arith, codes}
use Rattle.std.specs.Prelude.{All, FitsSigned, decimal, option_and_then}
use Rattle.std.specs.Int.{w64}
use Rattle.std.specs.List.{AllByRecursion}
use Rattle.std.proofs.lemmas.Fmt.{decimal_injective}
use Rattle.std.proofs.lemmas.List.{append_cancel_left}
use Rattle.std.proofs.lemmas.List.Elements.{recursion_from_All}
use Rattle.hex.specs.Hex.{decode_of, encode_lower}
use Rattle.hex.specs.declared.error.FromHexError.{FromHexError}
use Rattle.hex.proofs.HexLemmas.{decode_of-encode_lower}
use Rattle.serde_json.specs.Data.{Data, string, object, Items, Members, member}
use Rattle.serde_json.specs.Find.{as_i64, as_number}
use Rattle.serde_json.specs.View.{items_of}
use Rattle.wc_value.specs.Spelling.{spelling}
use Rattle.wc_value.specs.declared.process.ProcessState.{ProcessState}
use Rattle.wc_value.specs.declared.process.ProcessState.TheVariants as state
use Rattle.wc_value.specs.declared.process.Reason.{Reason}
use Rattle.wc_value.specs.declared.process.Reason.TheVariants as reason
use Rattle.wc_value.specs.declared.value.Value.{Value}
use Rattle.wc_value.proofs.Readback.{one_front}
use Rattle.wc_graph.specs.declared.link.Link.{Link}
use Rattle.wc_graph.specs.declared.link.LinkType.{LinkType}
use Rattle.wc_graph.specs.declared.link.LinkType.TheVariants as link
use Rattle.wc_state.specs.declared.record.ProcessKind.{ProcessKind}
use Rattle.wc_state.specs.declared.record.ProcessKind.TheVariants as kind
use Rattle.wc_syntax.specs.declared.definition.Definition.{Definition}
use Rattle.wc_syntax.specs.Bare.{bare_library}
use Rattle.wc_syntax.specs.Printing.{printed}
use Rattle.wc_parser.proofs.Texts.{one_text_answer}
use Rattle.wc_json.specs.Writing.{elements_by}
use Rattle.wc_report.specs.Lists.{process_kind_text}
use Rattle.wc_report.specs.Names.{reason_text, state_text}
use Rattle.wc_report.specs.Shows.{link_type_text}
use Rattle.wc_archive_file.specs.declared.archive.Archive.{Archive}
use Rattle.wc_archive_file.specs.declared.archive.ArchiveNode.{ArchiveNode}
use Rattle.wc_archive_file.specs.declared.archive.ArchiveNode.TheVariants as node
use Rattle.wc_archive_file.specs.declared.archive.ArchiveProcess.{ArchiveProcess}
use Rattle.wc_archive_file.specs.Archives.{IsCode, IsKept, IsLink, IsNode, IsProcess, IsState, IsValue, archive_data, code_data, data_object, link_data, link_items, node_data, number_data, uncoded_object, value_data, with_code}
use Rattle.wc_archive_file.specs.Laws.{OneArchive}
use Rattle.wc_archive_file.specs.Reads.{chosen, link_types, process_kinds, reasons}
use Rattle.wc_archive_file.proofs.Libraries.{prints, same_parsed}
use Rattle.wc_archive_file.proofs.Numerals.{one_number, reads_code}
use Rattle.wc_archive_file.proofs.Objects.{same_array, same_object}
use Rattle.wc_archive_file.proofs.Steps.{same_string}

one_some : {A : Type 0} (a b : A) → Some a ≡ Some b → a ≡ b
one_some a b e = cc

-- ---- names

module _ {A : Type 0} (text : A → List ℕ) (all : List A) (back : (a : A) → chosen text all (text a) ≡ Some a) where
  one_named : (a b : A) → text a ≡ text b → a ≡ b
  one_named a b e = one_some a b (sym (back a) ∙ ap (chosen text all) e ∙ back b)

kind_back : (k : ProcessKind) → chosen process_kind_text process_kinds (process_kind_text k) ≡ Some k
kind_back kind.Function = refl
kind_back kind.Job = refl
kind_back kind.Chain = refl

type_back : (t : LinkType) → chosen link_type_text link_types (link_type_text t) ≡ Some t
type_back link.InputCalc = refl
type_back link.InputWork = refl
type_back link.Create = refl
type_back link.Return = refl
type_back link.CallCalc = refl
type_back link.CallWork = refl

reason_back : (r : Reason) → chosen reason_text reasons (reason_text r) ≡ Some r
reason_back reason.Overflow = refl
reason_back reason.DivideByZero = refl
reason_back reason.MissingKey = refl
reason_back reason.WrongKind = refl
reason_back reason.NoOutput = refl
reason_back reason.BadText = refl
reason_back reason.TooLong = refl
reason_back reason.Depth = refl
reason_back reason.BadInput = refl

one_reason : (r q : Reason) → reason_text r ≡ reason_text q → r ≡ q
one_reason = one_named reason_text reasons reason_back

-- ---- states, no two of which begin with the same letter

abbrev first : ProcessState → ℕ
first state.Created = 99
first state.Running = 114
first state.Waiting = 119
first (state.Finished n) = 102
first (state.Excepted r) = 101
first state.Killed = 107

begins : (s : ProcessState) → get_or (state_text s) 0 0 ≡ first s
begins state.Created = refl
begins state.Running = refl
begins state.Waiting = refl
begins (state.Finished n) = refl
begins (state.Excepted r) = refl
begins state.Killed = refl

letter : (s t : ProcessState) → state_text s ≡ state_text t → first s ≡ first t
letter s t e = sym (begins s) ∙ ap (λ (l : List ℕ). get_or l 0 0) e ∙ begins t

one_state : (s t : ProcessState) → IsState s → IsState t → state_text s ≡ state_text t → s ≡ t
one_state state.Created state.Created f g e = refl
one_state state.Created state.Running f g e = let d : 99 ≡ 114 = letter state.Created state.Running e in absurd (omega (arith, d))
one_state state.Created state.Waiting f g e = let d : 99 ≡ 119 = letter state.Created state.Waiting e in absurd (omega (arith, d))
one_state state.Created (state.Finished m) f g e = let d : 99 ≡ 102 = letter state.Created (state.Finished m) e in absurd (omega (arith, d))
one_state state.Created (state.Excepted q) f g e = let d : 99 ≡ 101 = letter state.Created (state.Excepted q) e in absurd (omega (arith, d))
one_state state.Created state.Killed f g e = let d : 99 ≡ 107 = letter state.Created state.Killed e in absurd (omega (arith, d))
one_state state.Running state.Created f g e = let d : 114 ≡ 99 = letter state.Running state.Created e in absurd (omega (arith, d))
one_state state.Running state.Running f g e = refl
one_state state.Running state.Waiting f g e = let d : 114 ≡ 119 = letter state.Running state.Waiting e in absurd (omega (arith, d))
one_state state.Running (state.Finished m) f g e = let d : 114 ≡ 102 = letter state.Running (state.Finished m) e in absurd (omega (arith, d))
one_state state.Running (state.Excepted q) f g e = let d : 114 ≡ 101 = letter state.Running (state.Excepted q) e in absurd (omega (arith, d))
one_state state.Running state.Killed f g e = let d : 114 ≡ 107 = letter state.Running state.Killed e in absurd (omega (arith, d))
one_state state.Waiting state.Created f g e = let d : 119 ≡ 99 = letter state.Waiting state.Created e in absurd (omega (arith, d))
one_state state.Waiting state.Running f g e = let d : 119 ≡ 114 = letter state.Waiting state.Running e in absurd (omega (arith, d))
one_state state.Waiting state.Waiting f g e = refl
one_state state.Waiting (state.Finished m) f g e = let d : 119 ≡ 102 = letter state.Waiting (state.Finished m) e in absurd (omega (arith, d))
one_state state.Waiting (state.Excepted q) f g e = let d : 119 ≡ 101 = letter state.Waiting (state.Excepted q) e in absurd (omega (arith, d))
one_state state.Waiting state.Killed f g e = let d : 119 ≡ 107 = letter state.Waiting state.Killed e in absurd (omega (arith, d))
one_state (state.Finished n) state.Created f g e = let d : 102 ≡ 99 = letter (state.Finished n) state.Created e in absurd (omega (arith, d))
one_state (state.Finished n) state.Running f g e = let d : 102 ≡ 114 = letter (state.Finished n) state.Running e in absurd (omega (arith, d))
one_state (state.Finished n) state.Waiting f g e = let d : 102 ≡ 119 = letter (state.Finished n) state.Waiting e in absurd (omega (arith, d))
one_state (state.Finished n) (state.Finished m) f g e = ap state.Finished (decimal_injective n m (omega (arith, f)) (omega (arith, g)) (append_cancel_left (codes "finished ") (decimal n) (decimal m) e))
one_state (state.Finished n) (state.Excepted q) f g e = let d : 102 ≡ 101 = letter (state.Finished n) (state.Excepted q) e in absurd (omega (arith, d))
one_state (state.Finished n) state.Killed f g e = let d : 102 ≡ 107 = letter (state.Finished n) state.Killed e in absurd (omega (arith, d))
one_state (state.Excepted r) state.Created f g e = let d : 101 ≡ 99 = letter (state.Excepted r) state.Created e in absurd (omega (arith, d))
one_state (state.Excepted r) state.Running f g e = let d : 101 ≡ 114 = letter (state.Excepted r) state.Running e in absurd (omega (arith, d))
one_state (state.Excepted r) state.Waiting f g e = let d : 101 ≡ 119 = letter (state.Excepted r) state.Waiting e in absurd (omega (arith, d))
one_state (state.Excepted r) (state.Finished m) f g e = let d : 101 ≡ 102 = letter (state.Excepted r) (state.Finished m) e in absurd (omega (arith, d))
one_state (state.Excepted r) (state.Excepted q) f g e = ap state.Excepted (one_reason r q (append_cancel_left (codes "excepted ") (reason_text r) (reason_text q) e))
one_state (state.Excepted r) state.Killed f g e = let d : 101 ≡ 107 = letter (state.Excepted r) state.Killed e in absurd (omega (arith, d))
one_state state.Killed state.Created f g e = let d : 107 ≡ 99 = letter state.Killed state.Created e in absurd (omega (arith, d))
one_state state.Killed state.Running f g e = let d : 107 ≡ 114 = letter state.Killed state.Running e in absurd (omega (arith, d))
one_state state.Killed state.Waiting f g e = let d : 107 ≡ 119 = letter state.Killed state.Waiting e in absurd (omega (arith, d))
one_state state.Killed (state.Finished m) f g e = let d : 107 ≡ 102 = letter state.Killed (state.Finished m) e in absurd (omega (arith, d))
one_state state.Killed (state.Excepted q) f g e = let d : 107 ≡ 101 = letter state.Killed (state.Excepted q) e in absurd (omega (arith, d))
one_state state.Killed state.Killed f g e = refl

-- ---- values

abbrev okay : List ℕ → Result (List ℕ) FromHexError
okay bytes = Ok bytes

one_ok : (a b : List ℕ) → okay a ≡ okay b → a ≡ b
one_ok a b e = cc

one_value : (v w : Value) → IsValue v → IsValue w → encode_lower (spelling v) ≡ encode_lower (spelling w) → v ≡ w
one_value v w f g e =
    let same : okay (spelling v) ≡ okay (spelling w) = sym (decode_of-encode_lower (spelling v) f.bytes) ∙ ap decode_of e ∙ decode_of-encode_lower (spelling w) g.bytes in
    (one_front v w (spelling v) (spelling w) [] [] f.spelled g.spelled (ap (λ (b : List ℕ). b ++ []) (one_ok (spelling v) (spelling w) same))).0

-- ---- links

one_link : (l m : Link) → link_data l ≡ link_data m → l ≡ m
one_link l m e =
    let items : link_items l ≡ link_items m = same_array (link_items l) (link_items m) e in
    let a : number_data l.source ≡ number_data m.source = cc in
    let b : number_data l.target ≡ number_data m.target = cc in
    let c : string (link_type_text l.link) ≡ string (link_type_text m.link) = cc in
    let d : string l.label ≡ string m.label = cc in
    let source = one_number l.source m.source a in
    let target = one_number l.target m.target b in
    let type = one_named link_type_text link_types type_back l.link m.link (same_string (link_type_text l.link) (link_type_text m.link) c) in
    let label = same_string l.label m.label d in
    λ i. record { source = source i; target = target i; link = type i; label = label i }

-- ---- processes

one_code : (y z : ℤ) → FitsSigned w64 y → FitsSigned w64 z → code_data y ≡ code_data z → y ≡ z
one_code y z f g e =
    one_some y z (sym (reads_code y f) ∙ ap (λ (d : Data). option_and_then as_i64 (as_number d)) e ∙ reads_code z g)

one_uncoded : (p q : ArchiveProcess) → IsState p.state → IsState q.state → p.code ≡ q.code → uncoded_object p ≡ uncoded_object q → p ≡ q
one_uncoded p q f g code e =
    let a : string p.definition ≡ string q.definition = cc in
    let b : number_data p.depth ≡ number_data q.depth = cc in
    let c : number_data p.fuel ≡ number_data q.fuel = cc in
    let d : string (process_kind_text p.kind) ≡ string (process_kind_text q.kind) = cc in
    let h : string p.label ≡ string q.label = cc in
    let k : string (state_text p.state) ≡ string (state_text q.state) = cc in
    let definition = same_string p.definition q.definition a in
    let depth = one_number p.depth q.depth b in
    let fuel = one_number p.fuel q.fuel c in
    let kinds = one_named process_kind_text process_kinds kind_back p.kind q.kind (same_string (process_kind_text p.kind) (process_kind_text q.kind) d) in
    let label = same_string p.label q.label h in
    let states = one_state p.state q.state f g (same_string (state_text p.state) (state_text q.state) k) in
    λ i. record { kind = kinds i; definition = definition i; depth = depth i; label = label i; state = states i; fuel = fuel i; code = code i }

-- the codes are the same, and so is what stands behind them
one_coded : (p q : ArchiveProcess) (o r : Option ℤ) → IsCode p.kind o → IsCode q.kind r → with_code o (uncoded_object p) ≡ with_code r (uncoded_object q)
    → (o ≡ r) × (uncoded_object p ≡ uncoded_object q)
one_coded p q None None f g e = (refl, e)
one_coded p q None (Some z) f g e = absurd (cc e)
one_coded p q (Some y) None f g e = absurd (cc e)
one_coded p q (Some y) (Some z) f g e =
    let codes_same : code_data y ≡ code_data z = cc in
    let rest : uncoded_object p ≡ uncoded_object q = cc in
    (ap (λ (x : ℤ). Some x) (one_code y z f.0 g.0 codes_same), rest)

-- ---- nodes

no_data : (v : Value) (p : ArchiveProcess) (o : Option ℤ) → data_object v ≡ with_code o (uncoded_object p) → ⊥
no_data v p None e = absurd (cc e)
no_data v p (Some z) e = absurd (cc e)

one_node : (n m : ArchiveNode) → IsNode n → IsNode m → node_data n ≡ node_data m → n ≡ m
one_node (node.Data v) (node.Data w) f g e =
    let members : data_object v ≡ data_object w = same_object (data_object v) (data_object w) e in
    let values : string (encode_lower (spelling v)) ≡ string (encode_lower (spelling w)) = cc in
    ap node.Data (one_value v w f g (same_string (encode_lower (spelling v)) (encode_lower (spelling w)) values))
one_node (node.Data v) (node.Process q) f g e = absurd (no_data v q q.code (same_object (data_object v) (with_code q.code (uncoded_object q)) e))
one_node (node.Process p) (node.Data w) f g e = absurd (no_data w p p.code (same_object (data_object w) (with_code p.code (uncoded_object p)) (sym e)))
one_node (node.Process p) (node.Process q) f g e =
    let h = one_coded p q p.code q.code f.code g.code (same_object (with_code p.code (uncoded_object p)) (with_code q.code (uncoded_object q)) e) in
    ap node.Process (one_uncoded p q f.state g.state h.0 h.1)

-- ---- elements

module _ {A : Type 0} (write : A → Data) (P : A → Type 0) (one : (a b : A) → P a → P b → write a ≡ write b → a ≡ b) where
  one_list : (xs ys : List A) → AllByRecursion P xs → AllByRecursion P ys → items_of (map write xs) ≡ items_of (map write ys) → xs ≡ ys
  one_list [] [] h k e = refl
  one_list [] (y ∷ ys) h k e = absurd (cc e)
  one_list (x ∷ xs) [] h k e = absurd (cc e)
  one_list (x ∷ xs) (y ∷ ys) h k e =
      let front : write x ≡ write y = cc in
      let rest : items_of (map write xs) ≡ items_of (map write ys) = cc in
      let head : x ≡ y = one x y h.0 k.0 front in
      let tail : xs ≡ ys = one_list xs ys h.1 k.1 rest in
      λ i. head i ∷ tail i

-- ---- libraries

one_library : (l m : List Definition) → IsKept l → IsKept m → printed l ≡ printed m → l ≡ m
one_library l m f g e =
    let p = prints (printed l) l f refl in
    let q = prints (printed l) m g (sym e) in
    let same : p.library ≡ q.library = same_parsed p.library q.library (one_text_answer (printed l) (Ok p.library) (Ok q.library) p.says q.says) in
    sym p.bare ∙ ap bare_library same ∙ q.bare

-- ---- archives

pub one_archive : OneArchive
one_archive bytes a b f g =
    let datas : archive_data a ≡ archive_data b = one_some (archive_data a) (archive_data b) (sym f.says ∙ g.says) in
    let texts : string (printed a.library) ≡ string (printed b.library) = cc in
    let links_same : elements_by link_data a.links ≡ elements_by link_data b.links = cc in
    let nodes_same : elements_by node_data a.nodes ≡ elements_by node_data b.nodes = cc in
    let library = one_library a.library b.library f.writable.library g.writable.library (same_string (printed a.library) (printed b.library) texts) in
    let links = one_list link_data IsLink (λ l m h k e. one_link l m e) a.links b.links (recursion_from_All IsLink a.links f.writable.links) (recursion_from_All IsLink b.links g.writable.links) links_same in
    let nodes = one_list node_data IsNode one_node a.nodes b.nodes (recursion_from_All IsNode a.nodes f.writable.nodes.0) (recursion_from_All IsNode b.nodes g.writable.nodes.0) nodes_same in
    λ i. record { library = library i; links = links i; nodes = nodes i }
