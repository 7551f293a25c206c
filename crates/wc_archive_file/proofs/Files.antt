-- The archive of bytes, and the bytes of an archive.
use Rattle.std.proofs.Common.{◌≡◌, ℕ, ℤ, ◌≤◌, Bool, true, false, List, [], ◌∷◌, ◌++◌, Option, Some, None, Result, Ok, Err, IsUtf8, if◌then◌else◌, refl, sym, ap, ◌∙◌, subst, arith, lit<, pos, negsuc}
use Rattle.std.specs.Prelude.{All, FitsSigned, IfOk}
use Rattle.std.specs.Int.{w64}
use Rattle.std.specs.Str.{is_utf8}
use Rattle.std.proofs.lemmas.Str.{IsUtf8-from_is_utf8, is_utf8-from_IsUtf8}
use Rattle.std.proofs.lemmas.List.Elements.{recursion_from_All}
use Rattle.std.specs.List.{AllByRecursion}
use Rattle.json.specs.Tree.{HasNumbers, ItemsHaveNumbers, MembersHaveNumbers}
use Rattle.json.proofs.Printed.Decimals.{IsNumber-decimal, IsNumber-signed_decimal}
use Rattle.serde_json.specs.Data.{Data, depth, items_depth, members_depth}
use Rattle.serde_json.specs.Read.{read}
use Rattle.serde_json.specs.Written.{compact_text, has_float, items_have_float, items_outline, members_have_float, members_outline, outline}
use Rattle.wc_graph.specs.declared.link.Link.{Link}
use Rattle.wc_syntax.specs.declared.definition.Definition.{Definition}
use Rattle.wc_syntax.specs.Printing.{printed}
use Rattle.wc_json.specs.Documents.{document_of}
use Rattle.wc_json.specs.Writing.{elements_by}
use Rattle.wc_archive_file.specs.declared.archive.Archive.{Archive}
use Rattle.wc_archive_file.specs.declared.archive.ArchiveNode.{ArchiveNode}
use Rattle.wc_archive_file.specs.declared.archive.ArchiveNode.TheVariants as node
use Rattle.wc_archive_file.specs.declared.archive.ArchiveProcess.{ArchiveProcess}
use Rattle.wc_archive_file.specs.declared.file.Form.{Form}
use Rattle.wc_archive_file.specs.Archives.{AreNodes, IsArchive, IsCode, IsKept, IsLink, IsNode, IsProcess, IsWritable, archive_data, archive_text, code_data, link_data, node_data, uncoded_object, with_code}
use Rattle.wc_archive_file.specs.Reads.{Completes, Finds, FindsForm, Names, form_data}
use Rattle.wc_archive_file.proofs.LineFeed.{fed_reads}

-- ---- JSON

pub document_is : (bytes : List ℕ) (d : Data) → IsUtf8 bytes → read bytes ≡ Some d → document_of bytes ≡ Some d
document_is bytes d utf8 parsed = ap (λ (b : Bool). if b then read bytes else None) (is_utf8-from_IsUtf8 bytes utf8) ∙ parsed

pub no_document : (bytes : List ℕ) → (IsUtf8 bytes → read bytes ≡ None) → document_of bytes ≡ None
no_document bytes none = at (is_utf8 bytes) refl
  where
    at : (b : Bool) → is_utf8 bytes ≡ b → (if b then read bytes else None) ≡ None
    at true e = none (IsUtf8-from_is_utf8 bytes e)
    at false e = refl

pub no_form : (bytes : List ℕ) → None ≡ document_of bytes → FindsForm bytes None
no_form bytes e = λ f fits is. let wrong : None ≡ Some (form_data f) = e ∙ is in cc

-- ---- archives

pub completed : (f : Form) (found : Option (List Definition)) (l : List Definition) → Names printed IsKept f.library found → found ≡ Some l → Names printed IsKept f.library (Some l)
completed f found l h is = subst (Names printed IsKept f.library) is h

pub incomplete : (f : Form) (found : Option (List Definition)) → Names printed IsKept f.library found → found ≡ None → Completes f None
incomplete f found h is = let none : Names printed IsKept f.library None = subst (Names printed IsKept f.library) is h in none

abbrev form_of : Archive → Form
form_of a = record { library = printed a.library; links = a.links; nodes = a.nodes }

one_some : (a b : Data) → Some a ≡ Some b → a ≡ b
one_some a b e = cc

module _ (bytes : List ℕ) where
  pub unformed : (found : Option Form) → FindsForm bytes found → found ≡ None → Finds bytes None
  unformed found h is = λ a b.
      let none : FindsForm bytes None = subst (FindsForm bytes) is h in
      none (form_of a) (b.writable.links, b.writable.nodes) b.says

  module _ (f : Form) (h : FindsForm bytes (Some f)) where
    same_library : (a : Archive) → IsArchive bytes a → printed a.library ≡ f.library
    same_library a is = let same : archive_data a ≡ form_data f = one_some (archive_data a) (form_data f) (sym is.says ∙ h.0) in cc

    finds : (o : Option Archive) → Completes f o → Finds bytes o
    finds None none = λ a is. none a.library is.writable.library (same_library a is)
    finds (Some a) c = record {
      says = h.0 ∙ (λ i. Some (form_data (record { library = sym c.0 i; links = sym c.2 i; nodes = sym c.3 i })));
      writable = record { library = c.1; links = subst (All IsLink) (sym c.2) h.1.0; nodes = subst AreNodes (sym c.3) h.1.1 };
    }

  pub finds_all : {E : Type 0} (found : Option Form) (f : Form) (r : Result (Option Archive) E) → FindsForm bytes found → found ≡ Some f → IfOk r (Completes f) → IfOk r (Finds bytes)
  finds_all found f (Ok o) h is c = finds f (subst (FindsForm bytes) is h) o c
  finds_all found f (Err e) h is c = tt

-- ---- the text of an archive

float_items : {A : Type 0} (write : A → Data) → ((x : A) → has_float (write x) ≡ false) → (xs : List A) → items_have_float (elements_by write xs) ≡ false
float_items write whole [] = refl
float_items write whole (x ∷ xs) = rw (whole x) (float_items write whole xs)

members_whole : (o : Option ℤ) (p : ArchiveProcess) → members_have_float (with_code o (uncoded_object p)) ≡ false
members_whole None p = refl
members_whole (Some (pos n)) p = refl
members_whole (Some (negsuc n)) p = refl

node_whole : (n : ArchiveNode) → has_float (node_data n) ≡ false
node_whole (node.Data v) = refl
node_whole (node.Process p) = members_whole p.code p

pub whole : (a : Archive) → has_float (archive_data a) ≡ false
whole a = rw (float_items link_data (λ l. refl) a.links, float_items node_data node_whole a.nodes) refl

deep_items : {A : Type 0} (write : A → Data) → ((x : A) → depth (write x) ≤ 1) → (xs : List A) → items_depth (elements_by write xs) ≤ 1
deep_items write low [] = omega arith
deep_items write low (x ∷ xs) = omega (arith, low x, deep_items write low xs)

members_flat : (o : Option ℤ) (p : ArchiveProcess) → members_depth (with_code o (uncoded_object p)) ≡ 0
members_flat None p = refl
members_flat (Some (pos n)) p = refl
members_flat (Some (negsuc n)) p = refl

node_deep : (n : ArchiveNode) → depth (node_data n) ≤ 1
node_deep (node.Data v) = omega arith
node_deep (node.Process p) = omega (arith, members_flat p.code p)

pub shallow : (a : Archive) → depth (archive_data a) ≤ 127
shallow a =
    let links : items_depth (elements_by link_data a.links) ≤ 1 = deep_items link_data (λ l. omega arith) a.links in
    let nodes : items_depth (elements_by node_data a.nodes) ≤ 1 = deep_items node_data node_deep a.nodes in
    omega arith

number_items : {A : Type 0} (write : A → Data) (P : A → Type 0) → ((x : A) → P x → HasNumbers (outline (write x))) → (xs : List A) → AllByRecursion P xs
    → ItemsHaveNumbers (items_outline (elements_by write xs))
number_items write P each [] h = tt
number_items write P each (x ∷ xs) h = (each x h.0, number_items write P each xs h.1)

link_numbers : (l : Link) → IsLink l → HasNumbers (outline (link_data l))
link_numbers l f =
    let s = f.source in
    let t = f.target in
    (IsNumber-decimal l.source (omega arith), (IsNumber-decimal l.target (omega arith), (tt, (tt, tt))))

uncoded_numbers : (p : ArchiveProcess) → IsProcess p → MembersHaveNumbers (members_outline (uncoded_object p))
uncoded_numbers p f =
    let d = f.depth in
    let n = f.fuel in
    (tt, (IsNumber-decimal p.depth (omega arith), (IsNumber-decimal p.fuel (omega arith), (tt, (tt, (tt, tt))))))

code_number : (z : ℤ) → FitsSigned w64 z → HasNumbers (outline (code_data z))
code_number (pos n) h = IsNumber-decimal n (omega (arith, h.sfits))
code_number (negsuc n) h = IsNumber-signed_decimal (negsuc n) h.sfits

members_numbers : (p : ArchiveProcess) → IsProcess p → (o : Option ℤ) → IsCode p.kind o → MembersHaveNumbers (members_outline (with_code o (uncoded_object p)))
members_numbers p f None h = uncoded_numbers p f
members_numbers p f (Some z) h = (code_number z h.0, uncoded_numbers p f)

node_numbers : (n : ArchiveNode) → IsNode n → HasNumbers (outline (node_data n))
node_numbers (node.Data v) f = (tt, (tt, tt))
node_numbers (node.Process p) f = members_numbers p f p.code f.code

numbers : (a : Archive) → IsWritable a → HasNumbers (outline (archive_data a))
numbers a w = (
  IsNumber-decimal 1 (lit< tt),
  (
    tt,
    (
      number_items link_data IsLink link_numbers a.links (recursion_from_All IsLink a.links w.links),
      (number_items node_data IsNode node_numbers a.nodes (recursion_from_All IsNode a.nodes w.nodes.0), tt),
    ),
  ),
)

text_is : (a : Archive) (d : Data) (s t : List ℕ) → d ≡ archive_data a → (has_float d ≡ false → s ≡ compact_text d) → t ≡ s ++ 10 ∷ [] → t ≡ archive_text a
text_is a d s t e text is = is ∙ ap (λ (x : List ℕ). x ++ 10 ∷ []) (text (ap has_float e ∙ whole a) ∙ ap compact_text e)

text_reads : (a : Archive) (d : Data) (s t : List ℕ) → d ≡ archive_data a → (has_float d ≡ false → s ≡ compact_text d) → t ≡ s ++ 10 ∷ []
    → (depth d ≤ 127 → read s ≡ Some d) → is_utf8 t ≡ true → IsWritable a → IsArchive t a
text_reads a d s t e text is reads utf8 w =
    let compact : s ≡ compact_text (archive_data a) = text (ap has_float e ∙ whole a) ∙ ap compact_text e in
    let low : depth d ≤ 127 = subst (λ (x : Data). depth x ≤ 127) (sym e) (shallow a) in
    let back : read t ≡ Some (archive_data a) =
    ap read (is ∙ ap (λ (x : List ℕ). x ++ 10 ∷ []) compact) ∙ fed_reads (archive_data a) (numbers a w) ∙ ap read (sym compact) ∙ reads low ∙ ap Some e in
    record { says = ap (λ (b : Bool). if b then read t else None) utf8 ∙ back; writable = w }

module _ {E : Type 0} (a : Archive) (d : Data) (s : List ℕ) (e : d ≡ archive_data a) (text : has_float d ≡ false → s ≡ compact_text d) where
  pub texts_are : (r : Result (List ℕ) E) → IfOk r (λ t. t ≡ s ++ 10 ∷ []) → IfOk r (λ t. t ≡ archive_text a)
  texts_are (Ok t) is = text_is a d s t e text is
  texts_are (Err x) is = tt

  pub texts_read : (r : Result (List ℕ) E) → (depth d ≤ 127 → read s ≡ Some d) → IfOk r (λ t. t ≡ s ++ 10 ∷ []) → IfOk r (λ t. is_utf8 t ≡ true)
      → IfOk r (λ t. IsWritable a → IsArchive t a)
  texts_read (Ok t) reads is utf8 = text_reads a d s t e text is reads utf8
  texts_read (Err x) reads is utf8 = tt
