-- Links, processes and archives as JSON.
use Rattle.std.proofs.Common.{◌≡◌, ℕ, ℤ, List, [], ◌∷◌, length, get_or, Some, None, Result, Ok, Err, refl, sym, ap, ◌∙◌, arith}
use Rattle.serde_json.specs.Data.{Data, array, object, Items, Members, member}
use Rattle.serde_json.specs.View.{view, items_of, items_view}
use Rattle.serde_json.specs.declared.value.Value.{Value as Json}
use Rattle.wc_graph.specs.declared.link.Link.{Link}
use Rattle.wc_state.specs.declared.record.ProcessKind.{ProcessKind}
use Rattle.wc_state.specs.declared.record.ProcessKind.TheVariants as kind
use Rattle.wc_report.specs.Lists.{process_kind_text}
use Rattle.wc_archive_file.specs.declared.archive.ArchiveProcess.{ArchiveProcess}
use Rattle.wc_archive_file.specs.declared.misread.Misread.{Misread}
use Rattle.wc_archive_file.specs.Archives.{IsProcess, link_items, process_object, uncoded_object}
use Rattle.wc_archive_file.specs.Reads.{IsUncoded, Reads}
use Rattle.wc_archive_file.proofs.Steps.{refuses}

-- ---- arrays and objects that are no others

pub same_array : (ds es : Items) → array ds ≡ array es → ds ≡ es
same_array ds es e = cc

pub same_object : (ms ns : Members) → object ms ≡ object ns → ms ≡ ns
same_object ms ns e = cc

-- what is read of the elements of an array
pub array_read : {A : Type 0} (write : A → Items) (fits : A → Type 0) (d : Data) (ds : Items) (r : Result A Misread) → d ≡ array ds → Reads write fits ds r → Reads (λ a. array (write a)) fits d r
array_read write fits d ds (Ok a) is h = (is ∙ ap array h.0, h.1)
array_read write fits d ds (Err e) is h = refuses e (λ never a f same. never a f (same_array ds (write a) (sym is ∙ same))) h

-- what is read of the members of an object
pub object_read : {A : Type 0} (write : A → Members) (fits : A → Type 0) (d : Data) (ms : Members) (r : Result A Misread) → d ≡ object ms → Reads write fits ms r → Reads (λ a. object (write a)) fits d r
object_read write fits d ms (Ok a) is h = (is ∙ ap object h.0, h.1)
object_read write fits d ms (Err e) is h = refuses e (λ never a f same. never a f (same_object ms (write a) (sym is ∙ same))) h

-- ---- the four parts of a link

pub four_parts : (vs : List Json) (d : Json) → length vs ≡ 4 → items_view vs ≡ items_of (view (get_or vs 0 d) ∷ view (get_or vs 1 d) ∷ view (get_or vs 2 d) ∷ view (get_or vs 3 d) ∷ [])
four_parts [] d h = absurd (omega arith)
four_parts (a ∷ []) d h = absurd (omega arith)
four_parts (a ∷ b ∷ []) d h = absurd (omega arith)
four_parts (a ∷ b ∷ c ∷ []) d h = absurd (omega arith)
four_parts (a ∷ b ∷ c ∷ e ∷ []) d h = refl
four_parts (a ∷ b ∷ c ∷ e ∷ f ∷ vs) d h = absurd (omega arith)

pub other_parts : (vs : List Json) → (length vs ≡ 4 → ⊥) → (l : Link) → items_view vs ≡ link_items l → ⊥
other_parts [] other l is = cc
other_parts (a ∷ []) other l is = cc
other_parts (a ∷ b ∷ []) other l is = cc
other_parts (a ∷ b ∷ c ∷ []) other l is = cc
other_parts (a ∷ b ∷ c ∷ e ∷ []) other l is = other refl
other_parts (a ∷ b ∷ c ∷ e ∷ f ∷ vs) other l is = cc

-- ---- members one after another

pub next_is : (key : List ℕ) (d e : Data) (old new rest : Members) → old ≡ member key d new → old ≡ member key e rest → new ≡ rest
next_is key d e old new rest one other = let same : member key d new ≡ member key e rest = sym one ∙ other in cc

pub data_is : (key : List ℕ) (d e : Data) (old new rest : Members) → old ≡ member key d new → old ≡ member key e rest → d ≡ e
data_is key d e old new rest one other = let same : member key d new ≡ member key e rest = sym one ∙ other in cc

-- ---- processes

-- a process without a code has the members of one
pub bare_object : (p : ArchiveProcess) → p.code ≡ None → process_object p ≡ uncoded_object p
bare_object p e = rw e refl

-- a process with the code that is told of it
abbrev pub with_the_code : ℤ → ArchiveProcess → ArchiveProcess
with_the_code z p = record p { code = Some z }

abbrev pub without_code : ArchiveProcess → ArchiveProcess
without_code p = record p { code = None }

pub uncoded_fits : (p : ArchiveProcess) → IsProcess p → IsUncoded (without_code p)
uncoded_fits p f = (record { depth = f.depth; fuel = f.fuel; state = f.state; code = tt }, refl)

pub kind_is : (k : ProcessKind) → process_kind_text k ≡ process_kind_text kind.Job → k ≡ kind.Job
kind_is kind.Function e = cc
kind_is kind.Job e = refl
kind_is kind.Chain e = cc
