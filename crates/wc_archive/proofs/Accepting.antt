-- A consistent world accepts the import of a good archive.
use Rattle.std.proofs.Common.{◌≡◌, ℕ, zero, suc, ◌+◌, ◌<◌, ◌≤◌, Bool, true, List, [], ◌∷◌, ◌++◌, length, map, get_or, Option, Some, Any, refl, sym, ap, subst, ◌∙◌, arith, append_assoc, length-append}
use Rattle.std.specs.Prelude.{All, IsSomeAnd, if◌then◌else◌, slice_get}
use Rattle.std.proofs.lemmas.Bool.{and_from, eq-eqb}
use Rattle.std.proofs.lemmas.List.{get_or_default, map-append}
use Rattle.std.proofs.lemmas.List.Elements.{All-head, All-tail, All-push, All-append, All-map, All-weaker}
use Rattle.std.proofs.Math.Seq.{take-append_seam}
use Rattle.wc_value.specs.Spelling.{depth}
use Rattle.wc_value.specs.declared.process.ProcessState.{ProcessState}
use Rattle.wc_value.specs.declared.process.ProcessState.TheVariants as state
use Rattle.wc_graph.specs.Refusals.{IsAllowed}
use Rattle.wc_graph.specs.Rules.{node_of, Enters, HasRightEnds, IsCall, Leaves, SharesCalled, SharesCreated, SharesTriple, TakesLabel, TakesTriple}
use Rattle.wc_graph.specs.declared.link.Link.{Link}
use Rattle.wc_graph.specs.declared.link.LinkType.{LinkType}
use Rattle.wc_graph.specs.declared.link.LinkType.TheVariants as link
use Rattle.wc_graph.specs.declared.node.NodeKind.{NodeKind}
use Rattle.wc_state.specs.declared.record.Part.TheVariants as part
use Rattle.wc_state.specs.declared.record.ProcessKind.{ProcessKind}
use Rattle.wc_state.specs.declared.record.ProcessRecord.{ProcessRecord}
use Rattle.wc_world.specs.Accepted.{Apply, Setting}
use Rattle.wc_world.specs.Applied.{after_change, made, set}
use Rattle.wc_world.specs.Fits.{call_fits, new_fits, part_fits}
use Rattle.wc_world.specs.Records.{find_record, has_ended}
use Rattle.wc_world.specs.World.{Known, World}
use Rattle.wc_world.specs.declared.change.Change.TheVariants as change
use Rattle.wc_world.proofs.ReachedLists.{some_and}
use Rattle.wc_machine.proofs.Frames.{node_number, source_is_node, target_is_node}
use Rattle.wc_subworlds.specs.Parts.{placed}
use Rattle.wc_archive_file.specs.declared.archive.ArchiveNode.{ArchiveNode}
use Rattle.wc_archive_file.specs.declared.archive.ArchiveNode.TheVariants as node
use Rattle.wc_archive.specs.Alone.{ended_process, ends_from, link_change, new_process, node_change, raised}
use Rattle.wc_archive.specs.Good.{AreGoodLinks, IsGoodLink, kind_of_node}
use Rattle.wc_archive.proofs.Made.{made_from, one_set}
use Rattle.wc_archive.proofs.Part.{found_behind, node_behind}

-- ---- nodes

-- what a world asks of a node that it gets, where the archive's library has this number
abbrev pub IsFitNode : List Known → ℕ → ArchiveNode → Type 0
IsFitNode libraries library (node.Data v) = depth v ≤ 32
IsFitNode libraries library (node.Process p) = new_fits libraries (new_process library p) ≡ true

pub nodes_apply : (s : Setting) (w : World) (library : ℕ) (ns : List ArchiveNode) → All (IsFitNode w.libraries library) ns → length w.nodes + length ns ≤ 8000000
    → Apply s w (map (node_change library) ns)
nodes_apply s w library [] fit few = tt
nodes_apply s w library (node.Data v ∷ ns) fit few =
    let e : length (w.nodes ++ kind_of_node (node.Data v) ∷ []) ≡ length w.nodes + 1 = length-append w.nodes (kind_of_node (node.Data v) ∷ []) in
    let low : length w.nodes + suc (length ns) ≤ 8000000 = few in (
      (omega (arith, low), All-head (IsFitNode w.libraries library) (node.Data v) ns fit),
      nodes_apply s (after_change s.batch w (change.Data v)) library ns (All-tail (IsFitNode w.libraries library) (node.Data v) ns fit) (omega (arith, e, low)),
    )
nodes_apply s w library (node.Process p ∷ ns) fit few =
    let e : length (w.nodes ++ kind_of_node (node.Process p) ∷ []) ≡ length w.nodes + 1 = length-append w.nodes (kind_of_node (node.Process p) ∷ []) in
    let low : length w.nodes + suc (length ns) ≤ 8000000 = few in (
      (omega (arith, low), All-head (IsFitNode w.libraries library) (node.Process p) ns fit),
      nodes_apply s (after_change s.batch w (change.Process (new_process library p))) library ns (All-tail (IsFitNode w.libraries library) (node.Process p) ns fit) (omega (arith, e, low)),
    )

-- ---- links

none_any : {X : Type 0} (P : X → Type 0) (xs : List X) → All (λ x. ¬ P x) xs → ¬ Any P xs
none_any P xs h a = h a.0 a.1 a.2 (subst P (sym a.3) a.4)

all_not : {X : Type 0} (P : X → Type 0) (xs : List X) → (¬ Any P xs) → All (λ x. ¬ P x) xs
all_not P xs h = λ i d lt p. h (i, get_or xs i d, lt, get_or_default xs i (get_or xs i d) d lt, p)

module _ (nodes more : List NodeKind) where
  abbrev base : ℕ
  base = length nodes

  abbrev up : Link → Link
  up = placed (raised base)

  -- a relation that no link of the one graph has to a link of the other, and that the links of the other have where they had it
  pub record IsApart (S : Link → Link → Type 0) (l : Link) : Type 0 where
    pub old : (x : Link) → HasRightEnds nodes x → S x (up l) → ⊥
    pub new : (y : Link) → S (up y) (up l) → S y l

  still_none : (S : Link → Link → Type 0) (l : Link) → IsApart S l → (old before : List Link) → All (HasRightEnds nodes) old → (¬ Any (λ x. S x l) before)
      → ¬ Any (λ x. S x (up l)) (old ++ map up before)
  still_none S l apart old before right none =
      none_any (λ x. S x (up l)) (old ++ map up before)
      (All-append (λ x. ¬ S x (up l)) old (map up before)
      (All-weaker (HasRightEnds nodes) (λ x. ¬ S x (up l)) apart.old old right)
      (All-map (λ x. ¬ S x (up l)) up before
      (All-weaker (λ y. ¬ S y l) (λ y. ¬ S (up y) (up l)) (λ y no s. no (apart.new y s)) before (all_not (λ y. S y l) before none))))

  low_source : (x : Link) → HasRightEnds nodes x → x.source ≤ base
  low_source x h = node_number nodes x.source (source_is_node nodes x h)

  low_target : (x : Link) → HasRightEnds nodes x → x.target ≤ base
  low_target x h = node_number nodes x.target (target_is_node nodes x h)

  pub some_source : (l : Link) → HasRightEnds more l → 1 ≤ l.source
  some_source l h = at l.source (source_is_node more l h).1
    where
      at : (n : ℕ) → {k : NodeKind} → node_of more n ≡ Some k → 1 ≤ n
      at zero e = absurd (cc e)
      at (suc n) e = omega arith

  pub some_target : (l : Link) → HasRightEnds more l → 1 ≤ l.target
  some_target l h = at l.target (target_is_node more l h).1
    where
      at : (n : ℕ) → {k : NodeKind} → node_of more n ≡ Some k → 1 ≤ n
      at zero e = absurd (cc e)
      at (suc n) e = omega arith

  module _ (l : Link) (right : HasRightEnds more l) where
    no_source : (x : Link) → HasRightEnds nodes x → x.source ≡ base + l.source → ⊥
    no_source x h e = let le = low_source x h in let some = some_source l right in absurd (omega (arith, le, some, e))

    no_target : (x : Link) → HasRightEnds nodes x → x.target ≡ base + l.target → ⊥
    no_target x h e = let le = low_target x h in let some = some_target l right in absurd (omega (arith, le, some, e))

    triples : (t : LinkType) → IsApart (λ x y. TakesTriple t x y) l
    triples t = record { old = λ x h s. old t x h s; new = λ y s. new t y s }
      where
        old : (t : LinkType) (x : Link) → HasRightEnds nodes x → TakesTriple t x (up l) → ⊥
        old link.InputCalc x h s = no_source x h s.1
        old link.InputWork x h s = no_source x h s.1
        old link.Create x h s = s
        old link.Return x h s = no_source x h s.1
        old link.CallCalc x h s = no_source x h s.1
        old link.CallWork x h s = no_source x h s.1

        back : (y : Link) → SharesTriple (up y) (up l) → SharesTriple y l
        back y s =
            let p : base + y.source ≡ base + l.source = s.1 in
            let q : base + y.target ≡ base + l.target = s.2 in
            (s.0, omega (arith, p), omega (arith, q), s.3)

        new : (t : LinkType) (y : Link) → TakesTriple t (up y) (up l) → TakesTriple t y l
        new link.InputCalc y s = back y s
        new link.InputWork y s = back y s
        new link.Create y s = s
        new link.Return y s = back y s
        new link.CallCalc y s = back y s
        new link.CallWork y s = back y s

    labels : (t : LinkType) → IsApart (λ x y. TakesLabel t x y) l
    labels t = record { old = λ x h s. old t x h s; new = λ y s. new t y s }
      where
        old : (t : LinkType) (x : Link) → HasRightEnds nodes x → TakesLabel t x (up l) → ⊥
        old link.InputCalc x h s = no_target x h s.1
        old link.InputWork x h s = no_target x h s.1
        old link.Create x h s = no_source x h s.1
        old link.Return x h s = no_source x h s.1
        old link.CallCalc x h s = s
        old link.CallWork x h s = s

        new : (t : LinkType) (y : Link) → TakesLabel t (up y) (up l) → TakesLabel t y l
        new link.InputCalc y s = let q : base + y.target ≡ base + l.target = s.1 in (s.0, omega (arith, q), s.2)
        new link.InputWork y s = let q : base + y.target ≡ base + l.target = s.1 in (s.0, omega (arith, q), s.2)
        new link.Create y s = let q : base + y.source ≡ base + l.source = s.1 in (s.0, omega (arith, q), s.2)
        new link.Return y s = let q : base + y.source ≡ base + l.source = s.1 in (s.0, omega (arith, q), s.2)
        new link.CallCalc y s = s
        new link.CallWork y s = s

    creators : IsApart SharesCreated l
    creators = record {
      old = λ x h s. no_target x h s.2;
      new = λ y s. let q : base + y.target ≡ base + l.target = s.2 in (s.0, s.1, omega (arith, q));
    }

    callers : IsApart SharesCalled l
    callers = record {
      old = λ x h s. no_target x h s.2;
      new = λ y s. let q : base + y.target ≡ base + l.target = s.2 in (s.0, s.1, omega (arith, q));
    }

    right_there : HasRightEnds (nodes ++ more) (up l)
    right_there = (end l.source (Leaves l.link) right.0, end l.target (Enters l.link) right.1)
      where
        end : (id : ℕ) (P : NodeKind → Type 0) → IsSomeAnd (node_of more id) P → IsSomeAnd (node_of (nodes ++ more) (base + id)) P
        end id P h =
            let k = some_and P (node_of more id) h in
            subst (λ (o : Option NodeKind). IsSomeAnd o P) (sym (node_behind nodes more id k.0 k.1)) k.2

  allowed_there : (l : Link) (old before : List Link) → All (HasRightEnds nodes) old → IsAllowed more before l → IsAllowed (nodes ++ more) (old ++ map up before) (up l)
  allowed_there l old before right h = record {
    ends = right_there l h.ends;
    triple = still_none (λ x y. TakesTriple l.link x y) l (triples l h.ends l.link) old before right h.triple;
    label = still_none (λ x y. TakesLabel l.link x y) l (labels l h.ends l.link) old before right h.label;
    creator = still_none SharesCreated l (creators l h.ends) old before right h.creator;
    caller = still_none SharesCalled l (callers l h.ends) old before right h.caller;
  }

  -- ---- one link after another

  stands_next : (before : List Link) (l : Link) (ls : List Link) → slice_get (before ++ l ∷ ls) (length before) ≡ Some l
  stands_next [] l ls = refl
  stands_next (x ∷ xs) l ls = stands_next xs l ls

  next_good : (before : List Link) (l : Link) (ls : List Link) → AreGoodLinks more (before ++ l ∷ ls) → IsGoodLink more before l
  next_good before l ls good =
      subst (λ (b : List Link). IsGoodLink more b l) (take-append_seam before (l ∷ ls)) (good (length before) l (stands_next before l ls))

  module _ (s : Setting) (old : List Link) (right : All (HasRightEnds nodes) old) (records : List ProcessRecord) (libraries : List Known) (batches : ℕ) where
    abbrev linked : List Link → World
    linked before = record { nodes = nodes ++ more; links = old ++ map up before; records = records; libraries = libraries; batches = batches }

    pub links_apply : (before ls : List Link) → AreGoodLinks more (before ++ ls) → All (λ l. IsCall l.link → call_fits records (up l) ≡ true) ls
        → Apply s (linked before) (map (link_change base) ls)
    links_apply before [] good calls = tt
    links_apply before (l ∷ ls) good calls =
        let next : (before ++ l ∷ []) ++ ls ≡ before ++ l ∷ ls = append_assoc before (l ∷ []) ls in
        let links : old ++ map up (before ++ l ∷ []) ≡ (old ++ map up before) ++ up l ∷ []
        = ap (λ (xs : List Link). old ++ xs) (map-append up before (l ∷ [])) ∙ sym (append_assoc old (map up before) (up l ∷ [])) in (
          (allowed_there l old before right (next_good before l ls good).allowed, All-head (λ x. IsCall x.link → call_fits records (up x) ≡ true) l ls calls),
          subst (λ (xs : List Link). Apply s (record { nodes = nodes ++ more; links = xs; records = records; libraries = libraries; batches = batches }) (map (link_change base) ls)) links
              (links_apply (before ++ l ∷ []) ls (subst (λ (xs : List Link). AreGoodLinks more xs) (sym next) good)
              (All-tail (λ x. IsCall x.link → call_fits records (up x) ≡ true) l ls calls)),
        )

-- ---- ends

ended_part : (k : ProcessKind) (s : ProcessState) → has_ended s ≡ true → part_fits k s part.Over ≡ true
ended_part k state.Created h = absurd (cc h)
ended_part k state.Running h = absurd (cc h)
ended_part k state.Waiting h = absurd (cc h)
ended_part k (state.Finished n) h = refl
ended_part k (state.Excepted r) h = refl
ended_part k state.Killed h = refl

abbrev pub HasEndedNode : ArchiveNode → Type 0
HasEndedNode (node.Data v) = Unit {0}
HasEndedNode (node.Process p) = has_ended p.state ≡ true

module _ (s : Setting) (library : ℕ) (nodes : List NodeKind) (links : List Link) (libraries : List Known) (batches : ℕ) where
  abbrev having : List ProcessRecord → World
  having rs = record { nodes = nodes; links = links; records = rs; libraries = libraries; batches = batches }

  pub ends_apply : (pid : ℕ) (front : List ProcessRecord) (ns : List ArchiveNode) → All (λ x. x.node < pid) front → All HasEndedNode ns
      → Apply s (having (front ++ made_from library pid ns)) (ends_from pid ns)
  ends_apply pid front [] below over = tt
  ends_apply pid front (node.Data v ∷ ns) below over =
      ends_apply (suc pid) front ns (All-weaker (λ x. x.node < pid) (λ x. x.node < suc pid) (λ x lt. omega (arith, lt)) front below) (All-tail HasEndedNode (node.Data v) ns over)
  ends_apply pid front (node.Process p ∷ ns) below over =
      let r : ProcessRecord = made pid (new_process library p) in
      let f : ProcessRecord → ProcessRecord = set s.batch (ended_process pid p) in
      let found : find_record pid (front ++ r ∷ made_from library (suc pid) ns) ≡ Some r
      = found_behind pid front (r ∷ made_from library (suc pid) ns) below
      ∙ ap (λ (b : Bool). if b then Some r else find_record pid (made_from library (suc pid) ns)) (eq-eqb pid pid refl) in
      let fits : part_fits p.kind p.state part.Over ≡ true = ended_part p.kind p.state (All-head HasEndedNode (node.Process p) ns over) in (
        (r, found, and_from (part_fits p.kind p.state part.Over) true fits refl, refl),
        subst (λ (rs : List ProcessRecord). Apply s (having rs) (ends_from (suc pid) ns)) (sym (one_set pid library f front r ns refl below))
            (ends_apply (suc pid) (front ++ f r ∷ []) ns
            (All-push (λ x. x.node < suc pid) front (f r) (All-weaker (λ x. x.node < pid) (λ x. x.node < suc pid) (λ x lt. omega (arith, lt)) front below) (omega arith))
            (All-tail HasEndedNode (node.Process p) ns over)),
      )
