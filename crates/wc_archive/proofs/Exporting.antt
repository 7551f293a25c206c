-- The archive of a root, and what refuses it.
use Rattle.std.proofs.Common.{◌≡◌, ◌≢◌, ◌⊎◌, inl, inr, ℕ, ◌+◌, ◌<◌, ◌≤◌, ◌&&◌, Bool, true, false, not, Option, Some, None, List, [], ◌∷◌, ◌++◌, length, map, take, get_or, slice_index, refl, sym, ap, subst, ◌∙◌, arith}
use Rattle.std.specs.Prelude.{All, IsSome, IfOk, IfErr, Result, Ok, Err, ◌==◌, ◌||◌, filter, if◌then◌else◌, option_and_then, replicate}
use Rattle.std.specs.List.{cons_option, filter_map, list_any}
use Rattle.std.proofs.Math.ListN.{set}
use Rattle.std.proofs.lemmas.Bool.{and_parts}
use Rattle.std.proofs.lemmas.List.{append-nil, take_all}
use Rattle.std.proofs.lemmas.List.Elements.{All-more, All-weaker, filter_map-append}
use Rattle.wc_graph.specs.Reached.{AreExactly, IsNode}
use Rattle.wc_graph.specs.Walks.{Leads, Reaches}
use Rattle.wc_state.specs.declared.record.ProcessRecord.{ProcessRecord}
use Rattle.wc_syntax.specs.declared.definition.Definition.{Definition}
use Rattle.wc_syntax.specs.Findings.{definition_named}
use Rattle.wc_world.specs.World.{World}
use Rattle.wc_world.specs.Consistent.{IsConsistent, Stands}
use Rattle.wc_world.specs.Fits.{is_of_kind}
use Rattle.wc_world.specs.Records.{find_record, has_ended, library_at}
use Rattle.wc_world.proofs.FoundRecords.{found_holds}
use Rattle.wc_verify.specs.Faults.{IsLeastAmong}
use Rattle.wc_verify.proofs.Wrong.{found_there, front_holds}
use Rattle.wc_subworlds.specs.Parts.{placed}
use Rattle.wc_archive_file.specs.declared.archive.Archive.{Archive}
use Rattle.wc_archive_file.specs.declared.archive.ArchiveNode.{ArchiveNode}
use Rattle.wc_archive_file.specs.declared.error.ArchiveError.{ArchiveError}
use Rattle.wc_archive_file.specs.declared.error.ArchiveError.TheVariants as error
use Rattle.wc_archive.specs.Closure.{archive_number, archive_of, archived_node, closure, is_at_or_below, is_carried, is_in_closure, renumbered}
use Rattle.wc_archive.specs.Exports.{AllHaveEnded, Exports, IsLowestLive, RefusesExport}
use Rattle.wc_archive.specs.Marks.{AreMarks, call_types, is_marked, is_marked_link, marked}
use Rattle.wc_archive.proofs.OneExport.{exports_are_one}
use Rattle.wc_archive.proofs.Below.{below_marked, carried_are, marked_are, root_is_node}
use Rattle.wc_archive.proofs.Marking.{front, numbers_more, reached_marked, root_size}

-- ---- nodes

-- no node, or one
abbrev option_nodes : Option ArchiveNode → List ArchiveNode
option_nodes o = cons_option o []

module _ (f : ℕ → Option ArchiveNode) (marks : List Bool) where
  pub node_left : (nodes : List ArchiveNode) (id : ℕ) → is_marked marks id ≡ false → nodes ≡ nodes ++ filter_map f (filter (is_marked marks) (id ∷ []))
  node_left nodes id e = sym (ap (λ (b : Bool). nodes ++ filter_map f (if b then id ∷ [] else [])) e ∙ append-nil nodes)

  one_node : (nodes : List ArchiveNode) (id : ℕ) (o : Option ArchiveNode) → is_marked marks id ≡ true → o ≡ f id
      → nodes ++ filter_map f (filter (is_marked marks) (id ∷ [])) ≡ nodes ++ option_nodes o
  one_node nodes id o e is = ap (λ (b : Bool). nodes ++ filter_map f (if b then id ∷ [] else [])) e ∙ ap (λ (x : Option ArchiveNode). nodes ++ option_nodes x) (sym is)

  pub node_none : (nodes : List ArchiveNode) (id : ℕ) (o : Option ArchiveNode) → is_marked marks id ≡ true → o ≡ f id → o ≡ None
      → nodes ≡ nodes ++ filter_map f (filter (is_marked marks) (id ∷ []))
  node_none nodes id o e is none = sym (one_node nodes id o e is ∙ ap (λ (x : Option ArchiveNode). nodes ++ option_nodes x) none ∙ append-nil nodes)

  pub node_put : (nodes new : List ArchiveNode) (id : ℕ) (o : Option ArchiveNode) (n : ArchiveNode) → is_marked marks id ≡ true → o ≡ f id → o ≡ Some n → new ≡ nodes ++ n ∷ []
      → new ≡ nodes ++ filter_map f (filter (is_marked marks) (id ∷ []))
  node_put nodes new id o n e is some put = put ∙ sym (one_node nodes id o e is ∙ ap (λ (x : Option ArchiveNode). nodes ++ option_nodes x) some)

  pub nodes_more : (nodes new : List ArchiveNode) (i : ℕ) → nodes ≡ filter_map f (front marks i) → new ≡ nodes ++ filter_map f (filter (is_marked marks) (i ∷ []))
      → new ≡ filter_map f (front marks (i + 1))
  nodes_more nodes new i h e =
      e ∙ ap (λ (ns : List ArchiveNode). ns ++ filter_map f (filter (is_marked marks) (i ∷ []))) h
      ∙ sym (filter_map-append f (front marks i) (filter (is_marked marks) (i ∷ []))) ∙ ap (filter_map f) (sym (numbers_more marks i))

-- ---- the archive

module _ (w : World) (c : IsConsistent w) (root : ℕ) (r : ProcessRecord) (found : find_record root w.records ≡ Some r) where
  pub library_there : library_at w.libraries r.library ≡ None → ⊥
  library_there none =
      let defined = (found_holds (Stands w) root w.records r c.records found).defined in
      let no : false ≡ true = sym (ap (λ (o : Option (List Definition)). is_of_kind r.kind (option_and_then (definition_named r.definition) o)) none) ∙ defined in
      absurd (cc no)

  pub archive_is : (library : List Definition) (a : Archive) (below marks : List Bool) (numbers : List ℕ) → AreMarks (is_at_or_below w.links root) (length w.nodes) below
      → AreMarks (is_in_closure w.links root) (length w.nodes) marks → ((n : ℕ) → slice_index numbers n ≡ archive_number (closure w root) n) → a.library ≡ library
      → a.links ≡ map (placed (slice_index numbers)) (filter (is_marked_link below) w.links) → a.nodes ≡ filter_map (archived_node w) (marked marks) → a ≡ archive_of w root library
  archive_is library a below marks numbers b m n same links nodes =
      let l : a.links ≡ map (renumbered (closure w root)) (filter (is_carried w.links root) w.links)
      = links ∙ (λ i. map (placed (λ k. n k i)) (carried_are w.links root (length w.nodes) below b i)) in
      let ns : a.nodes ≡ filter_map (archived_node w) (closure w root) = nodes ∙ ap (filter_map (archived_node w)) (marked_are w c root r found marks m) in
      λ i. record { library = same i; links = l i; nodes = ns i }

-- ---- marks

some_of : {X : Type 0} (o : Option X) → IsSome o → (x : X) × (o ≡ Some x)
some_of None h = absurd (cc)
some_of (Some x) h = (x, refl)

module _ (w : World) (c : IsConsistent w) (root : ℕ) (some : IsSome (find_record root w.records)) where
  abbrev its : (r : ProcessRecord) × (find_record root w.records ≡ Some r)
  its = some_of (find_record root w.records) some

  pub root_there : IsNode w.nodes root
  root_there = root_is_node w c root its.0 its.1

  -- the root is marked, and what calls lead to
  pub below_are : (count : ℕ) (blank one marks : List Bool) (ids : List ℕ) → count ≡ length w.nodes + 1 → blank ≡ replicate count false → one ≡ set blank root true
      → AreExactly (Reaches (Leads call_types w.links) root) ids → length marks ≡ length one
      → ((n : ℕ) → is_marked marks n ≡ (is_marked one n || list_any (λ i. i == n) ids)) → AreMarks (is_at_or_below w.links root) (length w.nodes) marks
  below_are count blank one marks ids is none first are size h =
      let there = root_there in
      let le : root ≤ length w.nodes = there.1 in
      below_marked w c root its.0 its.1 marks (root_size count root blank one marks none first size ∙ is)
      (reached_marked (Reaches (Leads call_types w.links) root) count root blank one marks ids none (omega (arith, le, is)) first are h)

  -- the numbers of the archive
  pub numbers_are : (marks : List Bool) (numbers : List ℕ) → AreMarks (is_in_closure w.links root) (length w.nodes) marks
      → ((n : ℕ) → slice_index numbers n ≡ archive_number (marked marks) n) → (n : ℕ) → slice_index numbers n ≡ archive_number (closure w root) n
  numbers_are marks numbers are h n = h n ∙ ap (λ (ids : List ℕ). archive_number ids n) (marked_are w c root its.0 its.1 marks are)

-- ---- the lowest that hasn't ended

abbrev pub HasEndedMarked : List Bool → ProcessRecord → Type 0
HasEndedMarked below r = is_marked below r.node ≡ true → has_ended r.state ≡ true

module _ (below : List Bool) (items : List ProcessRecord) (i : ℕ) (d r : ProcessRecord) (lt : i < length items) (is : r ≡ get_or items i d)
    (h : All (HasEndedMarked below) (take i items)) where
  pub live_on : (is_marked below r.node && not (has_ended r.state)) ≡ false → All (HasEndedMarked below) (take (i + 1) items)
  live_on over = All-more (HasEndedMarked below) items i d lt h (subst (HasEndedMarked below) is here)
    where
      at : (b s : Bool) → b ≡ true → (b && not s) ≡ false → s ≡ true
      at true true e f = refl
      at true false e f = absurd (cc)
      at false s e f = absurd (cc)

      here : HasEndedMarked below r
      here there = at (is_marked below r.node) (has_ended r.state) there over

  pub live_is : (is_marked below r.node && not (has_ended r.state)) ≡ true → (w : World) → IsConsistent w → items ≡ w.records → (root : ℕ)
      → AreMarks (is_at_or_below w.links root) (length w.nodes) below → IsLowestLive w root r.node
  live_is live w c e root are =
      let both = and_parts (is_marked below r.node) (not (has_ended r.state)) live in
      let front : All (λ x. x.node < r.node → HasEndedMarked below x) w.records = front_holds w c items e i (HasEndedMarked below) d r lt is h in (
        (r, found_there w c items e i d r lt is, (sym (are.each r.node) ∙ both.0, turned (has_ended r.state) both.1)),
        All-weaker (λ x. x.node < r.node → HasEndedMarked below x) (λ x. x.node < r.node → is_at_or_below w.links root x.node ≡ true → has_ended x.state ≡ true)
            (λ x p low there. p low (are.each x.node ∙ there)) w.records front,
      )
    where
      turned : (s : Bool) → not s ≡ true → s ≡ false
      turned true f = absurd (cc)
      turned false f = refl

pub none_live : (below : List Bool) (items : List ProcessRecord) (i : ℕ) → length items ≤ i → All (HasEndedMarked below) (take i items) → (w : World) → items ≡ w.records
    → (root : ℕ) → AreMarks (is_at_or_below w.links root) (length w.nodes) below → AllHaveEnded w root
none_live below items i le h w e root are =
    All-weaker (HasEndedMarked below) (λ x. is_at_or_below w.links root x.node ≡ true → has_ended x.state ≡ true) (λ x p there. p (are.each x.node ∙ there)) w.records
    (subst (All (HasEndedMarked below)) (take_all i items le ∙ e) h)

-- ---- one refusal, or the archive

module _ (w : World) (root : ℕ) (r : ProcessRecord) (found : find_record root w.records ≡ Some r) where
  pub exports : r.depth ≡ 1 → AllHaveEnded w root → IsLeastAmong w (is_at_or_below w.links root) None → (a : Archive)
      → (library : List Definition) × (library_at w.libraries r.library ≡ Some library) × (a ≡ archive_of w root library) → Exports w root a
  exports one over agrees a h = record {
    process = r;
    found = found;
    is_root = one;
    ended = over;
    agrees = agrees;
    library = h.0;
    is_library = h.1;
    is_archive = h.2;
  }

  pub refuses_live : r.depth ≡ 1 → (pid : ℕ) → IsLowestLive w root pid → RefusesExport w root (error.Live pid)
  refuses_live one pid h = inr (r, found, inr (inl (one, (pid, refl, h))))

  pub refuses_pair : r.depth ≡ 1 → AllHaveEnded w root → (e : ArchiveError)
      → ((p : ℕ × ℕ) × (e ≡ error.Disagrees (archive_number (closure w root) p.0) (archive_number (closure w root) p.1))
      × IsLeastAmong w (is_at_or_below w.links root) (Some p)) → RefusesExport w root e
  refuses_pair one over e h = inr (r, found, inr (inr (one, over, h)))

module _ (w : World) (root : ℕ) (r : ProcessRecord) (found : find_record root w.records ≡ Some r) (one : r.depth ≡ 1) (over : AllHaveEnded w root) where
  pub exports_from : (result : Result Archive ArchiveError) → IfOk result (λ a. (library : List Definition) × (library_at w.libraries r.library ≡ Some library) × (a ≡ archive_of w root library))
      → IfOk result (λ a. IsLeastAmong w (is_at_or_below w.links root) None) → IfOk result (Exports w root)
  exports_from (Ok a) h g = exports w root r found one over g a h
  exports_from (Err e) h g = tt

  pub refuses_from : (result : Result Archive ArchiveError)
      → IfErr result (λ e. (e ≡ error.OutOfMemory) ⊎ ((p : ℕ × ℕ) × (e ≡ error.Disagrees (archive_number (closure w root) p.0) (archive_number (closure w root) p.1))
      × IsLeastAmong w (is_at_or_below w.links root) (Some p))) → IfErr result (λ e. (e ≡ error.OutOfMemory) ⊎ RefusesExport w root e)
  refuses_from (Ok a) h = tt
  refuses_from (Err e) (inl h) = inl h
  refuses_from (Err e) (inr h) = inr (refuses_pair w root r found one over e h)

-- an error is want of memory, or the refusal that is owed
abbrev pub memory_or_refused : World → ℕ → ArchiveError → Type 0
memory_or_refused w root e = (e ≡ error.OutOfMemory) ⊎ RefusesExport w root e

-- there is no such process, or it is no root
abbrev pub refused_root : World → ℕ → ArchiveError → Type 0
refused_root w root e =
    ((e ≡ error.UnknownProcess root) × (find_record root w.records ≡ None))
    ⊎ ((r : ProcessRecord) × (find_record root w.records ≡ Some r) × (e ≡ error.NotRoot root) × (r.depth ≢ 1))

pub refuses_root : (w : World) (root : ℕ) (e : ArchiveError) → refused_root w root e → RefusesExport w root e
refuses_root w root e (inl h) = inl h
refuses_root w root e (inr h) = inr (h.0, h.1, inl (h.2, h.3))

-- what is owed where an error was told is the error
pub owed : (w : World) (root : ℕ) (d e : ArchiveError) → (d ≡ error.OutOfMemory) ⊎ RefusesExport w root d → RefusesExport w root e → (d ≡ error.OutOfMemory) ⊎ (d ≡ e)
owed w root d e (inl h) r = inl h
owed w root d e (inr h) r = inr (exports_are_one.refusals w root d e h r)

pub not_owed : (w : World) (root : ℕ) (a : Archive) (e : ArchiveError) → Exports w root a → RefusesExport w root e → ⊥
not_owed w root a e h r = exports_are_one.either w root a e h r

-- marks of what lies below choose just that
pub chosen_is : (w : World) (root : ℕ) (below : List Bool) (o : Option (ℕ × ℕ)) → AreMarks (is_at_or_below w.links root) (length w.nodes) below
    → IsLeastAmong w (is_marked below) o → IsLeastAmong w (is_at_or_below w.links root) o
chosen_is w root below o are h = subst (λ (f : ℕ → Bool). IsLeastAmong w f o) (λ i pid. are.each pid i) h
