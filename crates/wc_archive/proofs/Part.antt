-- An archive's own world is part of the world after its import.
use Rattle.std.proofs.Common.{◌≡◌, ℕ, zero, suc, ◌+◌, ◌<◌, ◌≤◌, ◌==◌, Bool, true, false, List, [], ◌∷◌, ◌++◌, length, map, Some, None, refl, sym, ap, subst, ◌∙◌, arith}
use Rattle.std.specs.Prelude.{All, codes, if◌then◌else◌, slice_get, option_map, option_and_then}
use Rattle.std.proofs.lemmas.Bool.{eqb-true, ne_eqb}
use Rattle.std.proofs.lemmas.List.Elements.{All-nil, All-head, All-tail, All-weaker}
use Rattle.wc_value.specs.Ascending.{lookup}
use Rattle.wc_value.specs.declared.process.JobResult.{JobResult}
use Rattle.wc_graph.specs.Index.{source_of, target_of}
use Rattle.wc_graph.specs.Rules.{node_of, HasRightEnds}
use Rattle.wc_graph.specs.declared.link.Link.{Link}
use Rattle.wc_graph.specs.declared.node.NodeKind.{NodeKind}
use Rattle.wc_state.specs.declared.record.ProcessRecord.{ProcessRecord}
use Rattle.wc_world.specs.Applied.{applied, made}
use Rattle.wc_world.specs.Consistent.{IsConsistent}
use Rattle.wc_world.specs.Linked.{of_node}
use Rattle.wc_world.specs.Records.{find_record, library_at}
use Rattle.wc_world.specs.World.{Known, World, empty}
use Rattle.wc_machine.specs.Recorded.{folder_of, recorded_outputs, retrieved_folder, HasResult}
use Rattle.wc_machine.specs.Recorded as recorded
use Rattle.wc_machine.proofs.Frames.{node_number, records_below, source_is_node, target_is_node}
use Rattle.wc_subworlds.specs.Parts.{IsPart, IsSameProcess, Rises, StandsAt, placed}
use Rattle.wc_subworlds.proofs.Links.{outputs_along}
use Rattle.wc_subworlds.proofs.Parts.{its_number}
use Rattle.wc_subworlds.proofs.Placing.{same_number}
use Rattle.wc_archive_file.specs.declared.archive.Archive.{Archive}
use Rattle.wc_archive_file.specs.declared.archive.ArchiveNode.{ArchiveNode}
use Rattle.wc_archive_file.specs.declared.archive.ArchiveNode.TheVariants as node
use Rattle.wc_archive_file.specs.declared.archive.ArchiveProcess.{ArchiveProcess}
use Rattle.wc_archive.specs.After.{ended_record, own_world, records_from, with_archive}
use Rattle.wc_archive.specs.Alone.{alone, imported, new_process, raised}
use Rattle.wc_archive.specs.Good.{kind_of_node}
use Rattle.wc_archive.specs.Laws.{ArchivesArePartsOfImports, ArchivesAreTheseWorlds}
use Rattle.wc_archive.proofs.Made.{import_makes, made_from}

-- ---- alone

raised_by_none : (ls : List Link) → map (placed (raised 0)) ls ≡ ls
raised_by_none [] = refl
raised_by_none (l ∷ ls) =
    let source : 0 + l.source ≡ l.source = omega arith in
    let target : 0 + l.target ≡ l.target = omega arith in
    let rest : map (placed (raised 0)) ls ≡ ls = raised_by_none ls in
    λ i. record { source = source i; target = target i; link = l.link; label = l.label } ∷ rest i

pub archives_are_these_worlds : ArchivesAreTheseWorlds
archives_are_these_worlds a =
    import_makes empty a (All-nil (λ r. r.node < 1))
    ∙ (λ i. record {
      nodes = map kind_of_node a.nodes;
      links = raised_by_none a.links i;
      records = records_from 1 1 1 a.nodes;
      libraries = (a.library, []) ∷ [];
      batches = 1;
    })

-- ---- lists behind others

behind : {T : Type 0} (xs ys : List T) (p : ℕ) → slice_get (xs ++ ys) (length xs + p) ≡ slice_get ys p
behind [] ys p = let e : 0 + p ≡ p = omega arith in ap (slice_get ys) e
behind (x ∷ xs) ys p =
    let e : length (x ∷ xs) + p ≡ suc (length xs + p) = omega arith in
    ap (slice_get (x ∷ (xs ++ ys))) e ∙ behind xs ys p

pub node_behind : (xs ys : List NodeKind) (id : ℕ) (n : NodeKind) → node_of ys id ≡ Some n → node_of (xs ++ ys) (length xs + id) ≡ Some n
node_behind xs ys zero n h = absurd (cc h)
node_behind xs ys (suc p) n h = let e : length xs + suc p ≡ suc (length xs + p) = omega arith in ap (node_of (xs ++ ys)) e ∙ behind xs ys p ∙ h

pub library_behind : (xs : List Known) (k : Known) → library_at (xs ++ k ∷ []) (suc (length xs)) ≡ Some k.0
library_behind xs k =
    let e : length xs ≡ length xs + 0 = omega arith in
    ap (option_map (λ x. x.0)) (ap (slice_get (xs ++ k ∷ [])) e ∙ behind xs (k ∷ []) 0)

pub found_behind : (pid : ℕ) (rs more : List ProcessRecord) → All (λ r. r.node < pid) rs → find_record pid (rs ++ more) ≡ find_record pid more
found_behind pid [] more h = refl
found_behind pid (r ∷ rs) more h =
    let lt : r.node < pid = All-head (λ x. x.node < pid) r rs h in
    let no : (r.node == pid) ≡ false = ne_eqb r.node pid (λ e. absurd (omega (arith, lt, e))) in
    ap (λ (b : Bool). if b then Some r else find_record pid (rs ++ more)) no ∙ found_behind pid rs more (All-tail (λ x. x.node < pid) r rs h)

-- ---- records

-- Among these records stands that of a process, from some number on; and in the same place one of another batch, library and number.
pub record IsEndedRecord (batch library at pid : ℕ) (ns : List ArchiveNode) (r : ProcessRecord) : Type 0 where
  pub process : ArchiveProcess
  pub is : r ≡ ended_record batch library pid process
  pub from : at ≤ pid
  pub elsewhere : (b l base : ℕ) → find_record (base + pid) (records_from b l (base + at) ns) ≡ Some (ended_record b l (base + pid) process)
  pub made : (l base : ℕ) → find_record (base + pid) (made_from l (base + at) ns) ≡ Some (made (base + pid) (new_process l process))

pub same_shift : (base i j : ℕ) → ((base + i) == (base + j)) ≡ (i == j)
same_shift base i j = same_number (raised base) (λ m n lt. omega (arith, lt)) i j

pub its_record : (batch library at pid : ℕ) (ns : List ArchiveNode) (r : ProcessRecord) → find_record pid (records_from batch library at ns) ≡ Some r
    → IsEndedRecord batch library at pid ns r
its_record batch library at pid [] r h = absurd (cc h)
its_record batch library at pid (node.Data v ∷ ns) r h =
    let rest = its_record batch library (suc at) pid ns r h in
    let le : suc at ≤ pid = rest.from in
    record {
      process = rest.process;
      is = rest.is;
      from = omega (arith, le);
      elsewhere = λ b l base. let e : suc (base + at) ≡ base + suc at = omega arith in ap (λ (n : ℕ). find_record (base + pid) (records_from b l n ns)) e ∙ rest.elsewhere b l base;
      made = λ l base. let e : suc (base + at) ≡ base + suc at = omega arith in ap (λ (n : ℕ). find_record (base + pid) (made_from l n ns)) e ∙ rest.made l base;
    }
its_record batch library at pid (node.Process p ∷ ns) r h = by (at == pid) refl (its_record batch library (suc at) pid ns r) h
  where
    by : (c : Bool) → (at == pid) ≡ c → (find_record pid (records_from batch library (suc at) ns) ≡ Some r → IsEndedRecord batch library (suc at) pid ns r)
        → (if c then Some (ended_record batch library at p) else find_record pid (records_from batch library (suc at) ns)) ≡ Some r
        → IsEndedRecord batch library at pid (node.Process p ∷ ns) r
    by true is rest h =
        let e : at ≡ pid = eqb-true at pid is in
        let same : ended_record batch library at p ≡ r = cc h in
        record {
          process = p;
          is = sym same ∙ ap (λ (n : ℕ). ended_record batch library n p) e;
          from = omega (arith, e);
          elsewhere = λ b l base.
              ap (λ (c : Bool). if c then Some (ended_record b l (base + at) p) else find_record (base + pid) (records_from b l (suc (base + at)) ns)) (same_shift base at pid ∙ is)
              ∙ ap (λ (n : ℕ). Some (ended_record b l (base + n) p)) e;
          made = λ l base.
              ap (λ (c : Bool). if c then Some (made (base + at) (new_process l p)) else find_record (base + pid) (made_from l (suc (base + at)) ns)) (same_shift base at pid ∙ is)
              ∙ ap (λ (n : ℕ). Some (made (base + n) (new_process l p))) e;
        }
    by false is rest h =
        let more = rest h in
        let le : suc at ≤ pid = more.from in
        record {
          process = more.process;
          is = more.is;
          from = omega (arith, le);
          elsewhere = λ b l base.
              let e : suc (base + at) ≡ base + suc at = omega arith in
              ap (λ (c : Bool). if c then Some (ended_record b l (base + at) p) else find_record (base + pid) (records_from b l (suc (base + at)) ns)) (same_shift base at pid ∙ is)
              ∙ ap (λ (n : ℕ). find_record (base + pid) (records_from b l n ns)) e
              ∙ more.elsewhere b l base;
          made = λ l base.
              let e : suc (base + at) ≡ base + suc at = omega arith in
              ap (λ (c : Bool). if c then Some (made (base + at) (new_process l p)) else find_record (base + pid) (made_from l (suc (base + at)) ns)) (same_shift base at pid ∙ is)
              ∙ ap (λ (n : ℕ). find_record (base + pid) (made_from l n ns)) e
              ∙ more.made l base;
        }

-- ---- links

links_behind : (side : Link → ℕ) (base pid : ℕ) (xs ls : List Link) → ((l : Link) → side (placed (raised base) l) ≡ base + side l)
    → All (λ l. (side l == (base + pid)) ≡ false) xs
    → of_node side (base + pid) (xs ++ map (placed (raised base)) ls) ≡ map (placed (raised base)) (of_node side pid ls)
links_behind side base pid [] [] is none = refl
links_behind side base pid [] (l ∷ ls) is none =
    let here : (side (placed (raised base) l) == (base + pid)) ≡ (side l == pid) = ap (λ (n : ℕ). n == (base + pid)) (is l) ∙ same_shift base (side l) pid in
    by (side (placed (raised base) l) == (base + pid)) (side l == pid) here (links_behind side base pid [] ls is none)
  where
    by : (b c : Bool) → b ≡ c → of_node side (base + pid) (map (placed (raised base)) ls) ≡ map (placed (raised base)) (of_node side pid ls)
        → (if b then placed (raised base) l ∷ of_node side (base + pid) (map (placed (raised base)) ls) else of_node side (base + pid) (map (placed (raised base)) ls))
        ≡ map (placed (raised base)) (if c then l ∷ of_node side pid ls else of_node side pid ls)
    by true true e rest = ap (λ (xs : List Link). placed (raised base) l ∷ xs) rest
    by true false e rest = absurd (cc e)
    by false true e rest = absurd (cc e)
    by false false e rest = rest
links_behind side base pid (x ∷ xs) ls is none =
    let here : (side x == (base + pid)) ≡ false = All-head (λ l. (side l == (base + pid)) ≡ false) x xs none in
    let rest : of_node side (base + pid) (xs ++ map (placed (raised base)) ls) ≡ map (placed (raised base)) (of_node side pid ls)
    = links_behind side base pid xs ls is (All-tail (λ l. (side l == (base + pid)) ≡ false) x xs none) in
    ap (λ (b : Bool). if b then x ∷ of_node side (base + pid) (xs ++ map (placed (raised base)) ls) else of_node side (base + pid) (xs ++ map (placed (raised base)) ls)) here
    ∙ rest

-- ---- the part

module _ (w : World) (a : Archive) (c : IsConsistent w) (ends : All (HasRightEnds (map kind_of_node a.nodes)) a.links) where
  abbrev n : ℕ
  n = length w.nodes

  abbrev u : World
  u = own_world a

  abbrev v : World
  v = with_archive w a

  abbrev place : ℕ → ℕ
  place = raised n

  pub rises : Rises place
  rises i j lt = omega (arith, lt)

  pub nodes_there : (id : ℕ) (k : NodeKind) → node_of u.nodes id ≡ Some k → node_of v.nodes (place id) ≡ Some k
  nodes_there id k h = node_behind w.nodes (map kind_of_node a.nodes) id k h

  pub leaving : (pid : ℕ) → 1 ≤ pid → of_node source_of (place pid) v.links ≡ map (placed place) (of_node source_of pid u.links)
  leaving pid some =
      links_behind source_of n pid w.links a.links (λ l. refl)
      (All-weaker (HasRightEnds w.nodes) (λ l. (source_of l == (n + pid)) ≡ false)
      (λ l right. let le : l.source ≤ n = node_number w.nodes l.source (source_is_node w.nodes l right) in ne_eqb l.source (n + pid) (λ e. absurd (omega (arith, le, e, some))))
      w.links c.links.ends)

  pub entering : (pid : ℕ) → 1 ≤ pid → of_node target_of (place pid) v.links ≡ map (placed place) (of_node target_of pid u.links)
  entering pid some =
      links_behind target_of n pid w.links a.links (λ l. refl)
      (All-weaker (HasRightEnds w.nodes) (λ l. (target_of l == (n + pid)) ≡ false)
      (λ l right. let le : l.target ≤ n = node_number w.nodes l.target (target_is_node w.nodes l right) in ne_eqb l.target (n + pid) (λ e. absurd (omega (arith, le, e, some))))
      w.links c.links.ends)

  outputs_there : (pid : ℕ) → 1 ≤ pid → recorded_outputs u pid ≡ recorded_outputs v (place pid)
  outputs_there pid some = outputs_along place rises pid u.links v.links u.nodes v.nodes nodes_there ends (leaving pid some)

  pub folder_there : (pid : ℕ) → 1 ≤ pid → retrieved_folder u pid ≡ retrieved_folder v (place pid)
  folder_there pid some = ap (λ os. option_and_then folder_of (lookup (codes "retrieved") os)) (outputs_there pid some)

  -- ---- records

  abbrev pub new_record : ℕ → ArchiveProcess → ProcessRecord
  new_record pid p = ended_record (w.batches + 1) (suc (length w.libraries)) (place pid) p

  pub found_there : (pid : ℕ) (r : ProcessRecord) (h : find_record pid u.records ≡ Some r) → find_record (place pid) v.records ≡ Some (new_record pid (its_record 1 1 1 pid a.nodes r h).process)
  found_there pid r h =
      let e = its_record 1 1 1 pid a.nodes r h in
      let some : 1 ≤ pid = e.from in
      let first : suc n ≡ n + 1 = omega arith in
      let low : All (λ x. x.node < n + pid) w.records
      = All-weaker (λ x. x.node < suc n) (λ x. x.node < n + pid) (λ x lt. omega (arith, lt, some)) w.records (records_below w.nodes w.records c.numbered) in
      found_behind (n + pid) w.records (records_from (w.batches + 1) (suc (length w.libraries)) (suc n) a.nodes) low
      ∙ ap (λ (m : ℕ). find_record (n + pid) (records_from (w.batches + 1) (suc (length w.libraries)) m a.nodes)) first
      ∙ e.elsewhere (w.batches + 1) (suc (length w.libraries)) n

  same_there : (pid : ℕ) (p : ArchiveProcess) → IsSameProcess u v (ended_record 1 1 pid p) (new_record pid p)
  same_there pid p = record {
    kind = refl;
    definition = refl;
    library = library_behind w.libraries (a.library, []);
    depth = refl;
    label = refl;
    state = refl;
    fuel = refl;
  }

  -- ---- results

  to_whole : (pid : ℕ) (x : JobResult) → HasResult u pid x → HasResult v (place pid) x
  to_whole pid x (recorded.own r code files found is_job has folder) =
      let e = its_record 1 1 1 r.node a.nodes r found in
      let some : 1 ≤ r.node = e.from in
      recorded.own (new_record r.node e.process) code files (found_there r.node r found) (sym (ap (λ (y : ProcessRecord). y.kind) e.is) ∙ is_job)
      (sym (ap (λ (y : ProcessRecord). y.code) e.is) ∙ has) (sym (folder_there r.node some) ∙ folder)
  to_whole pid x (recorded.cached r source y found is_job alive from has) =
      let e = its_record 1 1 1 r.node a.nodes r found in
      let none : r.cached_from ≡ None = ap (λ (z : ProcessRecord). z.cached_from) e.is in
      let no : None ≡ Some source = sym none ∙ from in
      absurd (cc no)

  -- a process of the whole that stands at a place
  to_part : (q : ℕ) (x : JobResult) → HasResult v q x → (pid : ℕ) (r : ProcessRecord) → q ≡ place pid → find_record pid u.records ≡ Some r → HasResult u pid x
  to_part q x (recorded.own s code files found is_job has folder) pid r e h =
      let i = its_record 1 1 1 pid a.nodes r h in
      let there : find_record (place pid) v.records ≡ Some s = ap (λ (m : ℕ). find_record m v.records) (sym e) ∙ found in
      let twice : Some (new_record pid i.process) ≡ Some s = sym (found_there pid r h) ∙ there in
      let same : new_record pid i.process ≡ s = cc twice in
      let number : r.node ≡ pid = its_number pid u.records r h in
      let itself : find_record r.node u.records ≡ Some r = ap (λ (m : ℕ). find_record m u.records) number ∙ h in
      let files_there : retrieved_folder u pid ≡ Some files = folder_there pid i.from ∙ ap (retrieved_folder v) (sym e) ∙ folder in
      subst (λ (m : ℕ). HasResult u m (recorded.result_with code files)) number
      (recorded.own r code files itself (ap (λ (y : ProcessRecord). y.kind) i.is ∙ ap (λ (y : ProcessRecord). y.kind) same ∙ is_job)
      (ap (λ (y : ProcessRecord). y.code) i.is ∙ ap (λ (y : ProcessRecord). y.code) same ∙ has) (ap (retrieved_folder u) number ∙ files_there))
  to_part q x (recorded.cached s source y found is_job alive from has) pid r e h =
      let i = its_record 1 1 1 pid a.nodes r h in
      let there : find_record (place pid) v.records ≡ Some s = ap (λ (m : ℕ). find_record m v.records) (sym e) ∙ found in
      let twice : Some (new_record pid i.process) ≡ Some s = sym (found_there pid r h) ∙ there in
      let same : new_record pid i.process ≡ s = cc twice in
      let no : None ≡ Some source = ap (λ (z : ProcessRecord). z.cached_from) same ∙ from in
      absurd (cc no)

  stands_there : (pid : ℕ) (r : ProcessRecord) → find_record pid u.records ≡ Some r → StandsAt place u v pid r
  stands_there pid r h =
      let i = its_record 1 1 1 pid a.nodes r h in
      record {
        there = new_record pid i.process;
        found = found_there pid r h;
        same = subst (λ (y : ProcessRecord). IsSameProcess u v y (new_record pid i.process)) (sym i.is) (same_there pid i.process);
        results = λ x. (to_whole pid x, λ has. to_part (place pid) x has pid r refl h);
        leaving = leaving pid i.from;
        entering = entering pid i.from;
      }

  pub is_part : IsPart place u v
  is_part = record { rises = rises; nodes = nodes_there; processes = stands_there }

pub archives_are_parts_of_imports : ArchivesArePartsOfImports
archives_are_parts_of_imports w a c own =
    let is : alone a ≡ own_world a = archives_are_these_worlds a in
    let after : applied w (imported w a) ≡ with_archive w a = import_makes w a (records_below w.nodes w.records c.numbered) in
    let part : IsPart (raised (length w.nodes)) (own_world a) (with_archive w a) = is_part w a c (subst (λ (x : World). All (HasRightEnds x.nodes) x.links) is own.links.ends) in
    subst (λ (x : World). IsPart (raised (length w.nodes)) x (applied w (imported w a))) (sym is)
    (subst (λ (x : World). IsPart (raised (length w.nodes)) (own_world a) x) (sym after) part)
