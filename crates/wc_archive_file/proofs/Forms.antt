-- The members of an archive, one after another.
use Rattle.std.proofs.Common.{◌≡◌, ℕ, ◌<◌, ◌≤◌, ◌^◌, List, [], ◌∷◌, length, map, Result, Ok, Err, refl, ap, ◌∙◌, arith, lit<, codes}
use Rattle.std.specs.Prelude.{All}
use Rattle.serde_json.specs.Data.{Data, string, Members, no_members, member}
use Rattle.serde_json.specs.View.{items_of, items_view, view}
use Rattle.serde_json.specs.declared.value.Value.{Value as Json}
use Rattle.wc_graph.specs.declared.link.Link.{Link}
use Rattle.wc_json.specs.Writing.{elements_by}
use Rattle.wc_archive_file.specs.declared.archive.ArchiveNode.{ArchiveNode}
use Rattle.wc_archive_file.specs.declared.file.Form.{Form}
use Rattle.wc_archive_file.specs.declared.misread.Misread.{Misread}
use Rattle.wc_archive_file.specs.Archives.{AreNodes, IsLink, IsNode, links_data, node_data, nodes_data, number_data}
use Rattle.wc_archive_file.specs.Reads.{IsAny, IsForm, Reads, ReadsNext, Refuses, form_object}
use Rattle.wc_archive_file.proofs.Numerals.{one_number}
use Rattle.wc_archive_file.proofs.Objects.{data_is, next_is}
use Rattle.wc_archive_file.proofs.Steps.{refuses}

-- ---- the number of the form

module _ (key : List ℕ) (old : Members) where
  pub no_version : (new : Members) (e : Misread) → ReadsNext number_data (λ n. n < 2 ^ 32) key old (Err e) new → ReadsNext {A = Unit {0}} (λ u. number_data 1) IsAny key old (Err e) new
  no_version new e h = refuses e (λ never u rest f is. never 1 rest (lit< tt) is) h

  pub first_version : (n : ℕ) (new : Members) → old ≡ member key (number_data n) new → n ≡ 1 → old ≡ member key (number_data 1) new
  first_version n new is one = is ∙ ap (λ (m : ℕ). member key (number_data m) new) one

  pub other_version : (n : ℕ) (new : Members) → old ≡ member key (number_data n) new → (n ≡ 1 → ⊥) → (u : Unit {0}) (rest : Members) → IsAny u → old ≡ member key (number_data 1) rest → ⊥
  other_version n new is other u rest f same = other (one_number n 1 (data_is key (number_data n) (number_data 1) old new rest is same))

-- ---- how many nodes there are

elements_count : (xs ys : List Data) → items_of xs ≡ items_of ys → length xs ≡ length ys
elements_count xs ys e = counted xs ys e
  where
    counted : (xs ys : List Data) → items_of xs ≡ items_of ys → length xs ≡ length ys
    counted [] [] e = refl
    counted [] (y ∷ ys) e = cc
    counted (x ∷ xs) [] e = cc
    counted (x ∷ xs) (y ∷ ys) e = let rest : items_of xs ≡ items_of ys = cc in let same = counted xs ys rest in omega arith

mapped : {A B : Type 0} (f : A → B) (xs : List A) → length (map f xs) ≡ length xs
mapped f [] = refl
mapped f (x ∷ xs) = let same = mapped f xs in omega arith

many : (vs : List Json) (ns : List ArchiveNode) → items_view vs ≡ elements_by node_data ns → length vs ≡ length ns
many vs ns e =
    let a : length (map view vs) ≡ length vs = mapped view vs in
    let b : length (map node_data ns) ≡ length ns = mapped node_data ns in
    let c : length (map view vs) ≡ length (map node_data ns) = elements_count (map view vs) (map node_data ns) e in
    omega arith

pub few_read : (vs : List Json) (r : Result (List ArchiveNode) Misread) → length vs ≤ 8000000 → Reads (elements_by node_data) (All IsNode) (items_view vs) r
    → Reads (elements_by node_data) AreNodes (items_view vs) r
few_read vs (Ok ns) few h = let same = many vs ns h.0 in (h.0, (h.1, omega arith))
few_read vs (Err e) few h = refuses e (λ never ns f is. never ns f.0 is) h

pub too_many : (vs : List Json) → (length vs ≤ 8000000 → ⊥) → (ns : List ArchiveNode) → AreNodes ns → items_view vs ≡ elements_by node_data ns → ⊥
too_many vs more ns f is = let same = many vs ns is in let few = f.1 in more (omega arith)

-- ---- the members

abbrev at_nodes : Form → Members
at_nodes f = member (codes "nodes") (nodes_data f.nodes) no_members

abbrev at_links : Form → Members
at_links f = member (codes "links") (links_data f.links) (at_nodes f)

abbrev at_library : Form → Members
at_library f = member (codes "library") (string f.library) (at_links f)

module _ (old : Members) where
  abbrev Is : Form → Type 0
  Is f = old ≡ form_object f

  pub no_archive : (new : Members) (e : Misread) → ReadsNext {A = Unit {0}} (λ u. number_data 1) IsAny (codes "archive") old (Err e) new → Refuses ((f : Form) → IsForm f → Is f → ⊥) e
  no_archive new e h = refuses e (λ never f fits is. never tt (at_library f) tt is) h

  module _ (m1 : Members) (one : old ≡ member (codes "archive") (number_data 1) m1) where
    after1 : (f : Form) → Is f → m1 ≡ at_library f
    after1 f is = next_is (codes "archive") (number_data 1) (number_data 1) old m1 (at_library f) one is

    pub no_library : (new : Members) (e : Misread) → ReadsNext string IsAny (codes "library") m1 (Err e) new → Refuses ((f : Form) → IsForm f → Is f → ⊥) e
    no_library new e h = refuses e (λ never f fits is. never f.library (at_links f) tt (after1 f is)) h

    module _ (library : List ℕ) (m2 : Members) (two : m1 ≡ member (codes "library") (string library) m2) where
      after2 : (f : Form) → Is f → m2 ≡ at_links f
      after2 f is = next_is (codes "library") (string library) (string f.library) m1 m2 (at_links f) two (after1 f is)

      pub no_links : (new : Members) (e : Misread) → ReadsNext links_data (All IsLink) (codes "links") m2 (Err e) new → Refuses ((f : Form) → IsForm f → Is f → ⊥) e
      no_links new e h = refuses e (λ never f fits is. never f.links (at_nodes f) fits.0 (after2 f is)) h

      module _ (links : List Link) (m3 : Members) (three : m2 ≡ member (codes "links") (links_data links) m3) where
        after3 : (f : Form) → Is f → m3 ≡ at_nodes f
        after3 f is = next_is (codes "links") (links_data links) (links_data f.links) m2 m3 (at_nodes f) three (after2 f is)

        pub no_nodes : (new : Members) (e : Misread) → ReadsNext nodes_data AreNodes (codes "nodes") m3 (Err e) new → Refuses ((f : Form) → IsForm f → Is f → ⊥) e
        no_nodes new e h = refuses e (λ never f fits is. never f.nodes no_members fits.1 (after3 f is)) h

        module _ (nodes : List ArchiveNode) (m4 : Members) (four : m3 ≡ member (codes "nodes") (nodes_data nodes) m4) where
          pub form_more : (m4 ≡ no_members → ⊥) → (f : Form) → IsForm f → Is f → ⊥
          form_more more f fits is = more (next_is (codes "nodes") (nodes_data nodes) (nodes_data f.nodes) m3 m4 no_members four (after3 f is))

          pub form_done : m4 ≡ no_members → old ≡ form_object (record { library = library; links = links; nodes = nodes })
          form_done none =
              one ∙ ap (λ (m : Members). member (codes "archive") (number_data 1) m) (two ∙ ap (λ (m : Members). member (codes "library") (string library) m)
              (three ∙ ap (λ (m : Members). member (codes "links") (links_data links) m) (four ∙ ap (λ (m : Members). member (codes "nodes") (nodes_data nodes) m) none)))
