-- The parts of links, and nodes of either kind.
use Rattle.std.proofs.Common.{◌≡◌, List, [], ◌∷◌, length, get_or, Result, Err, sym, ap, subst, ◌∙◌, arith, ◌<◌, ◌^◌, codes}
use Rattle.std.proofs.lemmas.List.{get_or_default}
use Rattle.serde_json.specs.Data.{Data, string, Items, Members, no_members, member}
use Rattle.serde_json.specs.View.{items_of, items_view, view}
use Rattle.serde_json.specs.declared.value.Value.{Value as Json}
use Rattle.wc_value.specs.declared.value.Value.{Value}
use Rattle.wc_graph.specs.declared.link.Link.{Link}
use Rattle.wc_archive_file.specs.declared.archive.ArchiveNode.{ArchiveNode}
use Rattle.wc_archive_file.specs.declared.archive.ArchiveNode.TheVariants as node
use Rattle.wc_archive_file.specs.declared.archive.ArchiveProcess.{ArchiveProcess}
use Rattle.wc_archive_file.specs.declared.misread.Misread.{Misread}
use Rattle.wc_archive_file.specs.Archives.{IsLink, IsNode, IsProcess, IsValue, data_object, link_items, link_type_data, node_object, number_data, process_object, value_data}
use Rattle.wc_archive_file.specs.Reads.{IsAny, Reads, ReadsNext, Refuses}
use Rattle.wc_archive_file.proofs.Objects.{four_parts, next_is}
use Rattle.wc_archive_file.proofs.Steps.{refuses}

-- ---- the four parts of a link

record SameFour (a b c d a' b' c' d' : Data) : Type 0 where
  first : a ≡ a'
  second : b ≡ b'
  third : c ≡ c'
  fourth : d ≡ d'

same_four : (a b c d a' b' c' d' : Data) → items_of (a ∷ b ∷ c ∷ d ∷ []) ≡ items_of (a' ∷ b' ∷ c' ∷ d' ∷ []) → SameFour a b c d a' b' c' d'
same_four a b c d a' b' c' d' e = record { first = cc; second = cc; third = cc; fourth = cc }

module _ (s t k l : Data) where
  four_of : (x : Link) → items_of (s ∷ t ∷ k ∷ l ∷ []) ≡ link_items x → SameFour s t k l (number_data x.source) (number_data x.target) (link_type_data x.link) (string x.label)
  four_of x e = same_four s t k l (number_data x.source) (number_data x.target) (link_type_data x.link) (string x.label) e

  pub no_source : (e : Misread) → Reads number_data (λ n. n < 2 ^ 32) s (Err e) → Refuses ((x : Link) → IsLink x → items_of (s ∷ t ∷ k ∷ l ∷ []) ≡ link_items x → ⊥) e
  no_source e h = refuses e (λ never x f is. never x.source f.source (four_of x is).first) h

  pub no_target : (e : Misread) → Reads number_data (λ n. n < 2 ^ 32) t (Err e) → Refuses ((x : Link) → IsLink x → items_of (s ∷ t ∷ k ∷ l ∷ []) ≡ link_items x → ⊥) e
  no_target e h = refuses e (λ never x f is. never x.target f.target (four_of x is).second) h

  pub no_type : (e : Misread) → Reads link_type_data IsAny k (Err e) → Refuses ((x : Link) → IsLink x → items_of (s ∷ t ∷ k ∷ l ∷ []) ≡ link_items x → ⊥) e
  no_type e h = refuses e (λ never x f is. never x.link tt (four_of x is).third) h

  pub no_label : (e : Misread) → Reads string IsAny l (Err e) → Refuses ((x : Link) → IsLink x → items_of (s ∷ t ∷ k ∷ l ∷ []) ≡ link_items x → ⊥) e
  no_label e h = refuses e (λ never x f is. never x.label tt (four_of x is).fourth) h

  pub four_read : (x : Link) → s ≡ number_data x.source → t ≡ number_data x.target → k ≡ link_type_data x.link → l ≡ string x.label → items_of (s ∷ t ∷ k ∷ l ∷ []) ≡ link_items x
  four_read x a b c d = λ i. items_of (a i ∷ b i ∷ c i ∷ d i ∷ [])

pub parts_are : (vs : List Json) (a b c d : Json) → length vs ≡ 4 → a ≡ get_or vs 0 a → b ≡ get_or vs 1 b → c ≡ get_or vs 2 c → d ≡ get_or vs 3 d
    → items_view vs ≡ items_of (view a ∷ view b ∷ view c ∷ view d ∷ [])
parts_are vs a b c d long e0 e1 e2 e3 =
    let f1 : get_or vs 1 a ≡ b = get_or_default vs 1 a b (omega arith) ∙ sym e1 in
    let f2 : get_or vs 2 a ≡ c = get_or_default vs 2 a c (omega arith) ∙ sym e2 in
    let f3 : get_or vs 3 a ≡ d = get_or_default vs 3 a d (omega arith) ∙ sym e3 in
    four_parts vs a long ∙ (λ i. items_of (view (sym e0 i) ∷ view (f1 i) ∷ view (f2 i) ∷ view (f3 i) ∷ []))

pub link_read : (ds es : Items) (r : Result Link Misread) → ds ≡ es → Reads link_items IsLink es r → Reads link_items IsLink ds r
link_read ds es r e h = subst (λ (d : Items). Reads link_items IsLink d r) (sym e) h

-- ---- nodes of data

module _ (old : Members) where
  pub no_data : (new : Members) (e : Misread) → ReadsNext {A = Unit {0}} (λ u. string (codes "data")) IsAny (codes "kind") old (Err e) new
      → Refuses ((v : Value) → IsValue v → old ≡ data_object v → ⊥) e
  no_data new e h = refuses e (λ never v f is. never tt (member (codes "value") (value_data v) no_members) tt is) h

  module _ (m1 : Members) (one : old ≡ member (codes "kind") (string (codes "data")) m1) where
    after : (v : Value) → old ≡ data_object v → m1 ≡ member (codes "value") (value_data v) no_members
    after v is = next_is (codes "kind") (string (codes "data")) (string (codes "data")) old m1 (member (codes "value") (value_data v) no_members) one is

    pub no_value : (new : Members) (e : Misread) → ReadsNext value_data IsValue (codes "value") m1 (Err e) new → Refuses ((v : Value) → IsValue v → old ≡ data_object v → ⊥) e
    no_value new e h = refuses e (λ never v f is. never v no_members f (after v is)) h

    module _ (x : Value) (m2 : Members) (two : m1 ≡ member (codes "value") (value_data x) m2) where
      pub data_more : (m2 ≡ no_members → ⊥) → (v : Value) → IsValue v → old ≡ data_object v → ⊥
      data_more more v f is = more (next_is (codes "value") (value_data x) (value_data v) m1 m2 no_members two (after v is))

      pub data_done : m2 ≡ no_members → old ≡ data_object x
      data_done none = one ∙ ap (λ (m : Members). member (codes "kind") (string (codes "data")) m) (two ∙ ap (λ (m : Members). member (codes "value") (value_data x) m) none)

-- ---- nodes of either kind

no_node_at : (old : Members) → ((v : Value) → IsValue v → old ≡ data_object v → ⊥) → ((p : ArchiveProcess) → IsProcess p → old ≡ process_object p → ⊥)
    → (n : ArchiveNode) → IsNode n → old ≡ node_object n → ⊥
no_node_at old a b (node.Data v) f is = a v f is
no_node_at old a b (node.Process p) f is = b p f is

pub no_node : (old : Members) → ((v : Value) → IsValue v → old ≡ data_object v → ⊥) → (e : Misread) → Reads process_object IsProcess old (Err e) → Reads node_object IsNode old (Err e)
no_node old none e h = refuses e (λ never n f is. no_node_at old none never n f is) h
