-- A world accepts the changes with which a created calculation ends.
use Rattle.std.proofs.Common.{◌≡◌, ℕ, ℤ, zero, suc, ◌+◌, ◌<◌, ◌≤◌, Bool, true, false, Option, Some, None, List, [], ◌∷◌, ◌++◌, map, length, get_or, inl, inr, refl, sym, ap, subst, ◌∙◌, arith}
use Rattle.std.specs.Prelude.{All, IsSomeAnd, ◌==◌, ◌&&◌, ◌||◌, not, if◌then◌else◌, slice_get}
use Rattle.std.specs.List.{AllByRecursion}
use Rattle.std.specs.List.Sorted.{IsStrictlySortedBy}
use Rattle.std.specs.Map.{keys_of}
use Rattle.std.specs.Ordering.{nat_cmp, is_eq}
use Rattle.std.specs.declared.cmp.Ordering.TheVariants.{Less}
use Rattle.std.specs.Cmp.Lexicographic.{slice_cmp}
use Rattle.std.proofs.lemmas.Bool.{eqb-true, eq-eqb}
use Rattle.std.proofs.lemmas.Slice.Eq.{bytes_eq-Decides}
use Rattle.std.proofs.lemmas.Map.Text.{is_eq-slice_cmp}
use Rattle.std.proofs.lemmas.List.{append_assoc, append-nil, length_push}
use Rattle.std.proofs.lemmas.List.Elements.{All-push, All-weaker, All-head, All-tail}
use Rattle.wc_value.specs.Spelling.{depth}
use Rattle.wc_value.specs.declared.process.ProcessState.{ProcessState}
use Rattle.wc_value.specs.declared.process.ProcessState.TheVariants as state
use Rattle.wc_value.specs.declared.value.Value.{Value}
use Rattle.wc_graph.specs.Rules.{node_of, IsData, IsCalculation}
use Rattle.wc_graph.specs.Refusals.{IsAllowed}
use Rattle.wc_graph.specs.declared.link.Link.{Link}
use Rattle.wc_graph.specs.declared.link.LinkType.TheVariants.{Create}
use Rattle.wc_graph.specs.declared.node.NodeKind.{NodeKind}
use Rattle.wc_graph.specs.declared.node.NodeKind.TheVariants as node
use Rattle.wc_semantics.specs.Rules.{Values}
use Rattle.wc_semantics.specs.declared.outcomes.Parsed.{Parsed}
use Rattle.wc_state.specs.declared.record.Part.TheVariants as part
use Rattle.wc_state.specs.declared.record.ProcessKind.{ProcessKind}
use Rattle.wc_state.specs.declared.record.ProcessKind.TheVariants as kind
use Rattle.wc_state.specs.declared.record.ProcessRecord.{ProcessRecord}
use Rattle.wc_world.specs.declared.change.Change.{Change}
use Rattle.wc_world.specs.World.{World}
use Rattle.wc_world.specs.Records.{find_record, at_process, process_node, has_ended, is_calculation, gives_output, is_output_of}
use Rattle.wc_world.specs.Applied.{begun}
use Rattle.wc_world.specs.Fits.{part_fits, has_output, calls_from, counted_calls, is_settled, unsettled}
use Rattle.wc_world.specs.Accepted.{Setting, setting, source_fits, Apply, IsAccepted}
use Rattle.wc_world.specs.Consistent.{processes_from, process_of, Stands, IsConsistent}
use Rattle.wc_world.proofs.FoundRecords.{found_holds}
use Rattle.wc_world.proofs.ReachedLists.{heads, cond_some_cases, some_and, node_grown, all_at_apart}
use Rattle.wc_machine.specs.Ends.{creations, end_of, ends}
use Rattle.wc_machine.specs.Laws.{HasPlaces}
use Rattle.wc_machine.specs.Submissions.{AreInputs}
use Rattle.wc_machine.proofs.CreatedOutputs.{creates_no_output, creates_no_call, without_output}
use Rattle.wc_machine.proofs.Endings.{creates, with_outputs, end_set, end_record, ended_world, applied_ends}
use Rattle.wc_machine.proofs.Frames.{no_call_from, output_before, calls_before, target_is_node, node_number}

-- ---- the node of a process

-- the first record is the one that is found, or one behind it is
first_or_later : (n : ℕ) (k : NodeKind) (ns : List NodeKind) (x : ProcessRecord) (xs : List ProcessRecord) → process_of x ≡ (n, k) → (pid : ℕ) (r : ProcessRecord)
    → (find_record pid xs ≡ Some r → (place : ℕ) × (pid ≡ suc n + place) × (slice_get ns place ≡ Some (process_node r.kind)))
    → find_record pid (x ∷ xs) ≡ Some r → (place : ℕ) × (pid ≡ n + place) × (slice_get (k ∷ ns) place ≡ Some (process_node r.kind))
first_or_later n k ns x xs h pid r later found =
    elim (cond_some_cases (x.node == pid) x r (find_record pid xs) found) [
      | inl p ↦
          let a : x.node ≡ pid = eqb-true x.node pid p.0 in
          let b : x.node ≡ n = ap (λ (e : ℕ × NodeKind). e.0) h in
          let c : k ≡ process_node r.kind = sym (ap (λ (e : ℕ × NodeKind). e.1) h) ∙ ap (λ (q : ProcessRecord). process_node q.kind) p.1 in
          (zero, omega arith, ap (λ (k : NodeKind). Some k) c)
      | inr p ↦
          let l = later p.1 in
          let e : pid ≡ suc n + l.0 = l.1 in
          (suc l.0, omega arith, l.2)
    ]

numbered_node : (n : ℕ) (nodes : List NodeKind) (rs : List ProcessRecord) → map process_of rs ≡ processes_from n nodes → (pid : ℕ) (r : ProcessRecord)
    → find_record pid rs ≡ Some r → (place : ℕ) × (pid ≡ n + place) × (slice_get nodes place ≡ Some (process_node r.kind))
numbered_node n [] [] h pid r found = absurd (cc)
numbered_node n [] (x ∷ xs) h pid r found = absurd (cc)
numbered_node n (node.Data v ∷ ns) rs h pid r found =
    let l = numbered_node (suc n) ns rs h pid r found in
    let e : pid ≡ suc n + l.0 = l.1 in
    (suc l.0, omega arith, l.2)
numbered_node n (node.Calculation ∷ ns) [] h pid r found = absurd (cc)
numbered_node n (node.Calculation ∷ ns) (x ∷ xs) h pid r found =
    let p = heads (process_of x) (n, node.Calculation) (map process_of xs) (processes_from (suc n) ns) h in
    first_or_later n node.Calculation ns x xs p.0 pid r (numbered_node (suc n) ns xs p.1 pid r) found
numbered_node n (node.Workflow ∷ ns) [] h pid r found = absurd (cc)
numbered_node n (node.Workflow ∷ ns) (x ∷ xs) h pid r found =
    let p = heads (process_of x) (n, node.Workflow) (map process_of xs) (processes_from (suc n) ns) h in
    first_or_later n node.Workflow ns x xs p.0 pid r (numbered_node (suc n) ns xs p.1 pid r) found

pub process_is_node : (w : World) → IsConsistent w → (r : ProcessRecord) → find_record r.node w.records ≡ Some r → node_of w.nodes r.node ≡ Some (process_node r.kind)
process_is_node w c r found =
    let n = numbered_node 1 w.nodes w.records c.numbered r.node r found in
    let e : r.node ≡ suc n.0 = let p : r.node ≡ 1 + n.0 = n.1 in omega arith in
    ap (node_of w.nodes) e ∙ n.2

pub calculation_by : (o : Option NodeKind) (k : ProcessKind) → o ≡ Some (process_node k) → is_calculation k ≡ true → IsSomeAnd o IsCalculation
calculation_by o kind.Function h c = subst (λ (o : Option NodeKind). IsSomeAnd o IsCalculation) (sym h) tt
calculation_by o kind.Job h c = subst (λ (o : Option NodeKind). IsSomeAnd o IsCalculation) (sym h) tt
calculation_by o kind.Chain h c = absurd (cc)

-- ---- a created output

less_itself : (a : List ℕ) → slice_cmp nat_cmp a a ≡ Less → ⊥
less_itself a h =
    let equal : is_eq (slice_cmp nat_cmp a a) ≡ true = is_eq-slice_cmp a a ∙ (bytes_eq-Decides a a).1 refl in
    let differs : is_eq (slice_cmp nat_cmp a a) ≡ false = ap is_eq h in
    cc (equal, differs)

-- the labels come after this one
abbrev pub ComeAfter : Values → List ℕ → Type 0
ComeAfter os label = AllByRecursion (λ k. slice_cmp nat_cmp label k ≡ Less) (keys_of os)

-- a link that creates an output of the process has a label that comes before these
abbrev pub Precedes : ℕ → Values → Link → Type 0
Precedes pid os a = a.link ≡ Create → a.source ≡ pid → ComeAfter os a.label

-- nothing is in the way of these outputs
pub record CanCreate (w : World) (pid : ℕ) (os : Values) : Type 0 where
  pub source : IsSomeAnd (node_of w.nodes pid) IsCalculation
  pub targets : All (λ a. a.target ≤ length w.nodes) w.links
  pub labels : All (Precedes pid os) w.links

-- the link that creates an output
abbrev creation : (next pid : ℕ) → List ℕ × Value → Link
creation next pid o = record { source = pid; target = next; link = Create; label = o.0 }

-- the world with one output
abbrev with_output : World → (next pid : ℕ) → List ℕ × Value → World
with_output w next pid o = record {
  nodes = w.nodes ++ node.Data o.1 ∷ [];
  links = w.links ++ creation next pid o ∷ [];
  records = w.records;
  libraries = w.libraries;
  batches = w.batches;
}

some_grown : (P : NodeKind → Type 0) (nodes more : List NodeKind) (id : ℕ) → IsSomeAnd (node_of nodes id) P → IsSomeAnd (node_of (nodes ++ more) id) P
some_grown P nodes more id h =
    let k = some_and P (node_of nodes id) h in
    subst (λ (o : Option NodeKind). IsSomeAnd o P) (sym (node_grown nodes more id k.0 k.1)) k.2

last_is : (nodes : List NodeKind) (k : NodeKind) → slice_get (nodes ++ k ∷ []) (length nodes) ≡ Some k
last_is [] k = refl
last_is (x ∷ xs) k = last_is xs k

last_is_data : (nodes : List NodeKind) (v : Value) (next : ℕ) → next ≡ suc (length nodes) → IsSomeAnd (node_of (nodes ++ node.Data v ∷ []) next) IsData
last_is_data nodes v next e =
    subst (λ (o : Option NodeKind). IsSomeAnd o IsData) (sym (ap (node_of (nodes ++ node.Data v ∷ [])) e ∙ last_is nodes (node.Data v))) tt

-- what holds of each link holds of one at its place
at_place : (P : Link → Type 0) (links : List Link) → All P links → (i : ℕ) (a : Link) → i < length links → get_or links i a ≡ a → P a
at_place P links all i a lt is = subst P is (all i a lt)

creation_allowed : (w : World) (next pid : ℕ) (o : List ℕ × Value) (os : Values) → next ≡ suc (length w.nodes) → CanCreate w pid (o ∷ os)
    → IsAllowed (w.nodes ++ node.Data o.1 ∷ []) w.links (creation next pid o)
creation_allowed w next pid o os e can = record {
  ends = (some_grown IsCalculation w.nodes (node.Data o.1 ∷ []) pid can.source, last_is_data w.nodes o.1 next e);
  triple = λ h. h.4;
  label = λ h.
      let a = h.1 in
      let after : ComeAfter (o ∷ os) a.label = at_place (Precedes pid (o ∷ os)) w.links can.labels h.0 a h.2 h.3 h.4.0 h.4.1 in
      less_itself o.0 (subst (λ (label : List ℕ). slice_cmp nat_cmp label o.0 ≡ Less) h.4.2 after.0);
  creator = λ h.
      let a = h.1 in
      let le : a.target ≤ length w.nodes = at_place (λ a. a.target ≤ length w.nodes) w.links can.targets h.0 a h.2 h.3 in
      let is : a.target ≡ next = h.4.2 in
      absurd (omega arith);
  caller = λ h. h.4.1;
}

creates_on : (w : World) (next pid : ℕ) (o : List ℕ × Value) (os : Values) → next ≡ suc (length w.nodes) → AreInputs (o ∷ os) → CanCreate w pid (o ∷ os)
    → CanCreate (with_output w next pid o) pid os
unfolding IsStrictlySortedBy
creates_on w next pid o os e a can =
    let more : length (w.nodes ++ node.Data o.1 ∷ []) ≡ length w.nodes + 1 = length_push w.nodes (node.Data o.1) in
    record {
      source = some_grown IsCalculation w.nodes (node.Data o.1 ∷ []) pid can.source;
      targets = All-push (λ a. a.target ≤ length (w.nodes ++ node.Data o.1 ∷ [])) w.links (creation next pid o)
          (All-weaker (λ a. a.target ≤ length w.nodes) (λ a. a.target ≤ length (w.nodes ++ node.Data o.1 ∷ [])) (λ a le. omega arith) w.links can.targets)
          (omega arith);
      labels = All-push (Precedes pid os) w.links (creation next pid o)
          (All-weaker (Precedes pid (o ∷ os)) (Precedes pid os) (λ a h is from. (h is from).1) w.links can.labels)
          (λ is from. a.ascend.0);
    }

abbrev IsLow : List ℕ × Value → Type 0
IsLow i = depth i.1 ≤ 32

fewer : (o : List ℕ × Value) (os : Values) → AreInputs (o ∷ os) → AreInputs os
unfolding IsStrictlySortedBy
fewer o os a = record { ascend = a.ascend.1; shallow = All-tail IsLow o os a.shallow }

pub apply_created : (s : Setting) (w : World) (next pid : ℕ) (os : Values) (rest : List Change) → next ≡ suc (length w.nodes) → length w.nodes + length os ≤ 8000000
    → AreInputs os → CanCreate w pid os → Apply s (with_outputs w next pid os) rest → Apply s w (creations next pid os ++ rest)
apply_created s w next pid [] rest e room a can h =
    subst (λ (v : World). Apply s v rest)
    (λ i. record { nodes = append-nil w.nodes i; links = append-nil w.links i; records = w.records; libraries = w.libraries; batches = w.batches }) h
apply_created s w next pid (o ∷ os) rest e room a can h =
    let v = with_output w next pid o in
    let more : length (w.nodes ++ node.Data o.1 ∷ []) ≡ length w.nodes + 1 = length_push w.nodes (node.Data o.1) in
    let same : with_outputs v (suc next) pid os ≡ with_outputs w next pid (o ∷ os) =
    λ i. record {
      nodes = append_assoc w.nodes (node.Data o.1 ∷ []) (map (λ o. node.Data o.1) os) i;
      links = append_assoc w.links (creation next pid o ∷ []) (creates (suc next) pid os) i;
      records = w.records;
      libraries = w.libraries;
      batches = w.batches;
    } in
    let low : depth o.1 ≤ 32 = All-head IsLow o os a.shallow in (
      (omega arith, low),
      (
        (creation_allowed w next pid o os e can, λ call. absurd call),
        apply_created s v (suc next) pid os rest (omega arith) (omega arith) (fewer o os a) (creates_on w next pid o os e a can)
            (subst (λ (x : World). Apply s x rest) (sym same) h),
      ),
    )

-- ---- the end

pub over_fits : (k : ProcessKind) (s : ProcessState) → has_ended s ≡ true → part_fits k s part.Over ≡ true
over_fits k state.Created h = absurd (cc)
over_fits k state.Running h = absurd (cc)
over_fits k state.Waiting h = absurd (cc)
over_fits k (state.Finished n) h = refl
over_fits k (state.Excepted r) h = refl
over_fits k state.Killed h = refl

pub settled_all : (links : List Link) (rs : List ProcessRecord) → All (λ r. is_settled links r ≡ true) rs → unsettled links rs ≡ None
settled_all links [] a = refl
settled_all links (r ∷ rs) a =
    ap (λ (b : Bool). if b then unsettled links rs else Some r.node) (All-head (λ r. is_settled links r ≡ true) r rs a)
    ∙ settled_all links rs (All-tail (λ r. is_settled links r ≡ true) r rs a)

live_has_none : (a b c : Bool) → (a || (not b && c)) ≡ true → a ≡ false → b ≡ false
live_has_none true b c h e = absurd (cc)
live_has_none false true c h e = absurd (cc)
live_has_none false false c h e = refl

-- a process that hasn't ended has no output
pub live_without_output : (w : World) (r : ProcessRecord) → Stands w r → has_ended r.state ≡ false → has_output r.node w.links ≡ false
live_without_output w r s live =
    live_has_none (has_ended r.state) (has_output r.node w.links) (calls_from r.node w.links == counted_calls r.part) s.settled live

module _ (w : World) (r : ProcessRecord) (p : Parsed) (source : Option ℕ) (code : Option ℤ) where
  pub settled_after : IsConsistent w → has_ended p.state ≡ true → unsettled (ended_world w r p source code).links (ended_world w r p source code).records ≡ None
  settled_after c over =
      let new = creates (length w.nodes + 1) r.node p.outputs in
      settled_all (w.links ++ new) (at_process r.node (end_record w r p source code) w.records)
      (all_at_apart (λ x. is_settled (w.links ++ new) x ≡ true) r.node (end_record w r p source code) w.records
      (λ i d lt ne.
      let q = get_or w.records i d in
      let outputs = output_before q.node w.links new (creates_no_output q.node (length w.nodes + 1) r.node p.outputs (λ e. ne (sym e))) in
      let called = calls_before q.node w.links new (no_call_from q.node new (creates_no_call (length w.nodes + 1) r.node p.outputs)) in
      (λ j. has_ended q.state || (not (outputs j) && (called j == counted_calls q.part))) ∙ (c.records i d lt).settled)
      (λ i d lt e.
      let q = get_or w.records i d in
      ap (λ (b : Bool). b || (not (has_output q.node (w.links ++ new)) && (calls_from q.node (w.links ++ new) == 0))) over))

  can_create : IsConsistent w → find_record r.node w.records ≡ Some r → is_calculation r.kind ≡ true → r.state ≡ state.Created → CanCreate (begun w) r.node p.outputs
  can_create c found calculates created = record {
    source = calculation_by (node_of w.nodes r.node) r.kind (process_is_node w c r found) calculates;
    targets = λ i d lt. node_number w.nodes (get_or w.links i d).target (target_is_node w.nodes (get_or w.links i d) (c.links.ends i d lt));
    labels = λ i d lt is from. absurd (no_creation i d lt is from);
  }
    where
      no_creation : (i : ℕ) (d : Link) → i < length w.links → (get_or w.links i d).link ≡ Create → (get_or w.links i d).source ≡ r.node → ⊥
      no_creation i d lt is from =
          let l = get_or w.links i d in
          let stands : Stands w r = found_holds (Stands w) r.node w.records r c.records found in
          let none : is_output_of r.node l ≡ false = without_output r.node w.links (live_without_output w r stands (ap has_ended created)) i d lt in
          let is_one : is_output_of r.node l ≡ true = (λ j. gives_output (is j) && (from j == r.node)) ∙ eq-eqb r.node r.node refl in
          cc (none, is_one)

  -- A world accepts the changes of a calculation that ends, where there is room for its outputs and its source fits.
  pub ends_accepted : IsConsistent w → find_record r.node w.records ≡ Some r → is_calculation r.kind ≡ true → r.state ≡ state.Created → has_ended p.state ≡ true
      → AreInputs p.outputs → HasPlaces w (length w.nodes + length p.outputs)
      → source_fits (setting w (ends w r p source code)) (with_outputs (begun w) (length w.nodes + 1) r.node p.outputs) (end_set r p source code) r ≡ true
      → IsAccepted w (ends w r p source code)
  ends_accepted c found calculates created over a places fits = record {
    batch = places.batches;
    each =
        apply_created (setting w (ends w r p source code)) (begun w) (length w.nodes + 1) r.node p.outputs (end_of r p source code ∷ []) (omega arith)
        places.nodes a (can_create c found calculates created) ((r, found, set_is, fits), tt);
    settled = ap (λ (v : World). unsettled v.links v.records) (applied_ends w r p source code) ∙ settled_after c over;
  }
    where
      set_is : (not (has_ended r.state) && (part_fits r.kind p.state part.Over && true)) ≡ true
      set_is =
          ap (λ (s : ProcessState). not (has_ended s) && (part_fits r.kind p.state part.Over && true)) created
          ∙ ap (λ (b : Bool). b && true) (over_fits r.kind p.state over)
