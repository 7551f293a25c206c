-- Each process that came with an import is as a sound world asks.
use Rattle.std.proofs.Common.{◌≡◌, ◌≢◌, ℕ, suc, ◌+◌, ◌<◌, ◌≤◌, ◌==◌, Bool, true, false, List, [], ◌∷◌, length, map, Option, Some, None, ◌⊎◌, inl, inr, refl, sym, ap, subst, ◌∙◌, arith}
use Rattle.std.specs.Prelude.{All, ◌&&◌, ◌||◌}
use Rattle.std.specs.List.{list_any}
use Rattle.std.proofs.lemmas.Bool.{cases_order, ne_eqb}
use Rattle.std.proofs.lemmas.List.Elements.{All-append, All-map, All-weaker}
use Rattle.wc_value.specs.declared.process.ProcessState.{ProcessState}
use Rattle.wc_value.specs.declared.process.ProcessState.TheVariants as state
use Rattle.wc_syntax.specs.declared.definition.Definition.{Definition}
use Rattle.wc_graph.specs.Index.{source_of, target_of}
use Rattle.wc_graph.specs.Rules.{HasRightEnds}
use Rattle.wc_graph.specs.declared.link.Link.{Link}
use Rattle.wc_semantics.specs.Outcomes.{calculated, parsed}
use Rattle.wc_semantics.specs.Requests.{request}
use Rattle.wc_semantics.specs.Rules.{Values}
use Rattle.wc_semantics.specs.declared.outcomes.Parsed.{Parsed}
use Rattle.wc_state.specs.declared.record.ProcessRecord.{ProcessRecord}
use Rattle.wc_world.specs.Consistent.{IsConsistent}
use Rattle.wc_world.specs.Linked.{of_node}
use Rattle.wc_world.specs.Records.{calls, find_record, has_called, has_ended, is_call_from, is_calculation}
use Rattle.wc_world.specs.World.{World}
use Rattle.wc_world.proofs.FoundRecords.{found_holds}
use Rattle.wc_machine.specs.Created.{GivenFor, IsCreatedByInputs, IsGiven, KeepsNoCode}
use Rattle.wc_machine.specs.Created as created
use Rattle.wc_machine.specs.Paths.{call_links}
use Rattle.wc_machine.specs.Recorded.{its_definition, recorded_inputs, result_with}
use Rattle.wc_machine.specs.Rest.{is_awaited}
use Rattle.wc_machine.specs.Sound.{AreNumbered, CallsAreKept, IsCaller, IsFitting, IsMeant, IsPlaced, TakesItsInputs, is_call_to}
use Rattle.wc_machine.proofs.Frames.{and_false, any_before, node_number, records_below, source_is_node}
use Rattle.wc_soundness.specs.Touches.{IsSoundRecord}
use Rattle.wc_subworlds.specs.Parts.{IsPart, Rises, TellTheSame, placed}
use Rattle.wc_subworlds.proofs.Placing.{Walks, call_placed, same_number, told_along}
use Rattle.wc_subworlds.proofs.Same.{parts_tell_the_same}
use Rattle.wc_archive_file.specs.declared.archive.Archive.{Archive}
use Rattle.wc_archive.specs.After.{ended_record, own_world, records_from, with_archive}
use Rattle.wc_archive.specs.Alone.{raised}
use Rattle.wc_archive.specs.Good.{IsGoodProcess, kind_of_node}
use Rattle.wc_archive.proofs.Accepting.{some_target}
use Rattle.wc_archive.proofs.Origin.{ComesFrom, comes_from}
use Rattle.wc_archive.proofs.Part.{IsEndedRecord, entering, folder_there, found_behind, found_there, is_part, its_record, leaving, new_record, rises}

-- ---- links at a place

if_or_false : (b c : Bool) → b ≡ false → (b || c) ≡ c
if_or_false true c h = absurd (cc h)
if_or_false false c h = refl

abbrev callers_walk : (pid : ℕ) → Walks Bool target_of pid (list_any (is_call_to pid))
callers_walk pid = record {
  step = λ l b. is_call_to pid l || b;
  more = λ l ls. refl;
  passes = λ l b h. if_or_false (is_call_to pid l) b (and_false (calls l.link) (l.target == pid) h);
}

abbrev called_walk : (pid q : ℕ) → Walks Bool source_of pid (λ ls. has_called ls pid q)
called_walk pid q = record {
  step = λ l b. (is_call_from pid l && (l.target == q)) || b;
  more = λ l ls. refl;
  passes = λ l b h. if_or_false (is_call_from pid l && (l.target == q)) b (ap (λ (c : Bool). c && (l.target == q)) (and_false (calls l.link) (l.source == pid) h));
}

module _ (place : ℕ → ℕ) (up : Rises place) (ls ms : List Link) where
  all_are : All (λ l. Unit {0}) ls
  all_are = λ i d lt. tt

  callers_along : (pid : ℕ) → of_node target_of (place pid) ms ≡ map (placed place) (of_node target_of pid ls)
      → list_any (is_call_to (place pid)) ms ≡ list_any (is_call_to pid) ls
  callers_along pid same =
      told_along Bool Bool place (λ a b. b ≡ a) (λ l. Unit {0}) target_of pid (list_any (is_call_to pid)) (list_any (is_call_to (place pid))) (callers_walk pid) (callers_walk (place pid))
      (record { each = λ l a b yes h. λ i. (calls l.link && same_number place up l.target pid i) || h i }) refl ls ms same all_are

  called_along : (pid q : ℕ) → of_node source_of (place pid) ms ≡ map (placed place) (of_node source_of pid ls) → has_called ms (place pid) (place q) ≡ has_called ls pid q
  called_along pid q same =
      told_along Bool Bool place (λ a b. b ≡ a) (λ l. Unit {0}) source_of pid (λ xs. has_called xs pid q) (λ xs. has_called xs (place pid) (place q)) (called_walk pid q)
      (called_walk (place pid) (place q))
      (record { each = λ l a b yes h. λ i. (call_placed place up pid l i && same_number place up l.target q i) || h i }) refl ls ms same all_are

numbered_placed : (place : ℕ → ℕ) (k : ℕ) (ls : List Link) → AreNumbered k ls → AreNumbered k (map (placed place) ls)
numbered_placed place k [] h = tt
numbered_placed place k (l ∷ ls) h = (h.0, numbered_placed place (suc k) ls h.1)

takes_by : (u v : World) (r s : ProcessRecord) (o : Option Definition) → recorded_inputs v s.node ≡ recorded_inputs u r.node → TakesItsInputs u r o → TakesItsInputs v s o
takes_by u v r s None same h = h
takes_by u v r s (Some d) same h = cc (same, h)

not_created : (s : ProcessState) → has_ended s ≡ true → s ≡ state.Created → ⊥
not_created s h e = let f : false ≡ true = sym (ap has_ended e) ∙ h in absurd (cc f)

ended_not_live : (b : Bool) → b ≡ true → b ≡ false → ⊥
ended_not_live b h e = let f : true ≡ false = sym h ∙ e in absurd (cc f)

module _ (w : World) (a : Archive) (c : IsConsistent w) (ends : All (HasRightEnds (map kind_of_node a.nodes)) a.links) (own : IsConsistent (own_world a))
    (good : All (IsGoodProcess (own_world a)) (own_world a).records) (values : IsCreatedByInputs (own_world a))
    (means : (r : ProcessRecord) → find_record r.node (own_world a).records ≡ Some r → IsMeant (own_world a) r) where
  abbrev n : ℕ
  n = length w.nodes

  abbrev u : World
  u = own_world a

  abbrev v : World
  v = with_archive w a

  abbrev place : ℕ → ℕ
  place = raised n

  part : IsPart place u v
  part = is_part w a c ends

  climbs : Rises place
  climbs = rises w a c ends

  -- ---- a process of the archive and the record that came

  tell : (r : ProcessRecord) (h : find_record r.node u.records ≡ Some r)
      → TellTheSame place u v r (new_record w a c ends r.node (its_record 1 1 1 r.node a.nodes r h).process)
  tell r h =
      parts_tell_the_same place u v own part r (new_record w a c ends r.node (its_record 1 1 1 r.node a.nodes r h).process) h (found_there w a c ends r.node r h)

  -- ---- what is given for it

  given_there : (pid : ℕ) (p : Parsed) → GivenFor u pid p → GivenFor v (place pid) p
  given_there pid p (created.killed r found dead bare) =
      let i = its_record 1 1 1 r.node a.nodes r found in
      created.killed (new_record w a c ends r.node i.process) (found_there w a c ends r.node r found) (sym (ap (λ (y : ProcessRecord). y.state) i.is) ∙ dead)
      (λ job. sym (ap (λ (y : ProcessRecord). y.code) i.is) ∙ bare (ap (λ (y : ProcessRecord). y.kind) i.is ∙ job))
  given_there pid p (created.cached r source x found alive bare from g) =
      let i = its_record 1 1 1 r.node a.nodes r found in
      let none : r.cached_from ≡ None = ap (λ (z : ProcessRecord). z.cached_from) i.is in
      let no : None ≡ Some source = sym none ∙ from in
      absurd (cc no)
  given_there pid p (created.function r f found alive none defined) =
      let i = its_record 1 1 1 r.node a.nodes r found in
      let t = tell r found in
      let inputs : recorded_inputs v (place r.node) ≡ recorded_inputs u r.node = t.inputs in
      subst (λ (is : Values). GivenFor v (place r.node) (calculated f is)) inputs
      (created.function (new_record w a c ends r.node i.process) f (found_there w a c ends r.node r found)
      (λ dead. alive (ap (λ (y : ProcessRecord). y.state) i.is ∙ dead)) refl (t.definition ∙ defined))
  given_there pid p (created.job r j q code files found alive none defined has folder asked) =
      let i = its_record 1 1 1 r.node a.nodes r found in
      let t = tell r found in
      let inputs : recorded_inputs v (place r.node) ≡ recorded_inputs u r.node = t.inputs in
      subst (λ (is : Values). GivenFor v (place r.node) (parsed j is (result_with code files))) inputs
      (created.job (new_record w a c ends r.node i.process) j q code files (found_there w a c ends r.node r found)
      (λ dead. alive (ap (λ (y : ProcessRecord). y.state) i.is ∙ dead)) refl (t.definition ∙ defined) (sym (ap (λ (y : ProcessRecord). y.code) i.is) ∙ has)
      (sym (folder_there w a c ends r.node i.from) ∙ folder) (ap (request j) inputs ∙ asked))
  given_there pid p (created.no_request r j reason found alive none defined has asked) =
      let i = its_record 1 1 1 r.node a.nodes r found in
      let t = tell r found in
      created.no_request (new_record w a c ends r.node i.process) j reason (found_there w a c ends r.node r found)
      (λ dead. alive (ap (λ (y : ProcessRecord). y.state) i.is ∙ dead)) refl (t.definition ∙ defined) (sym (ap (λ (y : ProcessRecord). y.code) i.is) ∙ has)
      (ap (request j) t.inputs ∙ asked)

  -- ---- what came is one of the archive's

  abbrev Comes : ℕ → ProcessRecord → Type 0
  Comes pid s = ComesFrom (w.batches + 1) (suc (length w.libraries)) n 1 pid a.nodes s

  pub came : (pid : ℕ) (s : ProcessRecord) → n < pid → find_record pid v.records ≡ Some s → Comes pid s
  came pid s lt h =
      let first : suc n ≡ n + 1 = omega arith in
      let low : All (λ x. x.node < pid) w.records = All-weaker (λ x. x.node < suc n) (λ x. x.node < pid) (λ x le. omega (arith, le, lt)) w.records (records_below w.nodes w.records c.numbered) in
      comes_from (w.batches + 1) (suc (length w.libraries)) n 1 (suc n) pid a.nodes s first
      (sym (found_behind pid w.records (records_from (w.batches + 1) (suc (length w.libraries)) (suc n) a.nodes) low) ∙ h)

  its_good : (pid : ℕ) (r : ProcessRecord) → find_record pid u.records ≡ Some r → IsGoodProcess u r
  its_good pid r h = found_holds (IsGoodProcess u) pid u.records r good h

  pub came_over : (pid : ℕ) (s : ProcessRecord) → n < pid → find_record pid v.records ≡ Some s → has_ended s.state ≡ true
  came_over pid s lt h =
      let f = came pid s lt h in
      ap (λ (y : ProcessRecord). has_ended y.state) f.is ∙ (its_good f.number (ended_record 1 1 f.number f.process) f.own).ended

  -- ---- its record

  module _ (r : ProcessRecord) (h : find_record r.node u.records ≡ Some r) where
    abbrev i : IsEndedRecord 1 1 1 r.node a.nodes r
    i = its_record 1 1 1 r.node a.nodes r h

    abbrev s : ProcessRecord
    s = new_record w a c ends r.node (its_record 1 1 1 r.node a.nodes r h).process

    g : IsGoodProcess u r
    g = its_good r.node r h

    there : find_record (place r.node) v.records ≡ Some s
    there = found_there w a c ends r.node r h

    t : TellTheSame place u v r s
    t = tell r h

    over : has_ended s.state ≡ true
    over = sym (ap (λ (y : ProcessRecord). has_ended y.state) i.is) ∙ g.ended

    depth_is : s.depth ≡ r.depth
    depth_is = sym (ap (λ (y : ProcessRecord). y.depth) i.is)

    fits : IsFitting v s
    fits = record {
      inputs = subst (TakesItsInputs v s) (sym t.definition) (takes_by u v r s (its_definition u r) t.inputs g.fits.inputs);
      request = λ e. absurd (cc e);
      code = λ e. absurd (ended_not_live (has_ended s.state) over e);
      source = λ e. refl;
      started = λ e. absurd (not_created s.state over e);
      awaiting = tt;
      outputs = tt;
    }

    stand_leaving : of_node source_of (place r.node) v.links ≡ map (placed place) (of_node source_of r.node u.links)
    stand_leaving = leaving w a c ends r.node i.from

    root : s.depth ≡ 1 → (list_any (is_call_to s.node) v.links ≡ false) × (s.label ≡ [])
    root e =
        let o = g.placed.root (sym depth_is ∙ e) in
        (callers_along place climbs u.links v.links r.node (entering w a c ends r.node i.from) ∙ o.0, sym (ap (λ (y : ProcessRecord). y.label) i.is) ∙ o.1)

    called : s.depth ≢ 1 → (caller : ProcessRecord) × IsCaller v s caller
    called e =
        let o = g.placed.called (λ f. e (depth_is ∙ f)) in
        let k : ProcessRecord = o.0 in
        let kf : find_record k.node u.records ≡ Some k = o.1.0 in
        let ki = its_record 1 1 1 k.node a.nodes k kf in
        let caller : ProcessRecord = new_record w a c ends k.node ki.process in
        let deep : suc k.depth ≡ suc caller.depth = ap (λ (y : ProcessRecord). suc y.depth) ki.is in (
          caller,
          (
            found_there w a c ends k.node k kf,
            called_along place climbs u.links v.links k.node r.node (leaving w a c ends k.node ki.from) ∙ o.1.1,
            depth_is ∙ o.1.2 ∙ deep,
            refl,
          ),
        )

    stands : IsPlaced v s
    stands = record { root = root; called = called; numbered = subst (AreNumbered 1) (sym t.calls) (numbered_placed place 1 (call_links u r.node) g.placed.numbered) }

    -- what it called came with it
    quiet : (q : ℕ) → q ≤ n → All (λ l. (is_call_from s.node l && (l.target == q)) ≡ false) v.links
    quiet q le =
        All-append (λ l. (is_call_from s.node l && (l.target == q)) ≡ false) w.links (map (placed place) a.links)
        (All-weaker (HasRightEnds w.nodes) (λ l. (is_call_from s.node l && (l.target == q)) ≡ false)
        (λ l right.
        let low : l.source ≤ n = node_number w.nodes l.source (source_is_node w.nodes l right) in
        let some : 1 ≤ r.node = i.from in
        ap (λ (b : Bool). b && (l.target == q)) (and_false (calls l.link) (l.source == s.node) (ne_eqb l.source s.node (λ e. absurd (omega (arith, low, some, e)))))) w.links c.links.ends)
        (All-map (λ l. (is_call_from s.node l && (l.target == q)) ≡ false) (placed place) a.links
        (All-weaker (HasRightEnds u.nodes) (λ l. (is_call_from s.node (placed place l) && ((n + l.target) == q)) ≡ false)
        (λ l right.
        let some : 1 ≤ l.target = some_target w.nodes u.nodes l right in
        and_false (is_call_from s.node (placed place l)) ((n + l.target) == q) (ne_eqb (n + l.target) q (λ e. absurd (omega (arith, some, le, e))))) a.links ends))

    calls_kept : CallsAreKept v s
    calls_kept q found has = by (cases_order q.node n)
      where
        by : (q.node ≡ n) ⊎ ((q.node < n) ⊎ (n < q.node)) → (has_ended q.state ≡ true) ⊎ ((has_ended s.state ≡ false) × (is_awaited s.part q.node ≡ true))
        by (inl e) = absurd (ended_not_live _ has (any_before (λ l. is_call_from s.node l && (l.target == q.node)) [] v.links (quiet q.node (omega (arith, e)))))
        by (inr (inl lt)) = absurd (ended_not_live _ has (any_before (λ l. is_call_from s.node l && (l.target == q.node)) [] v.links (quiet q.node (omega (arith, lt)))))
        by (inr (inr lt)) = inl (came_over q.node q lt found)

    given : is_calculation s.kind ≡ true → has_ended s.state ≡ true → IsGiven v s
    given calculates ended =
        let kind : is_calculation r.kind ≡ true = ap (λ (y : ProcessRecord). is_calculation y.kind) i.is ∙ calculates in
        let o : IsGiven u r = found_holds (λ x. is_calculation x.kind ≡ true → has_ended x.state ≡ true → IsGiven u x) r.node u.records r values.ended h kind g.ended in
        (o.0, given_there r.node o.0 o.1, sym (ap (λ (y : ProcessRecord). y.state) i.is) ∙ o.2, t.outputs ∙ o.3)

    pub sound_record : IsSoundRecord v s
    sound_record = record {
      fits = fits;
      placed = stands;
      calls = calls_kept;
      awaits = tt;
      names = tt;
      rule = ((λ a b. absurd (cc b)), (λ e. refl), (λ e. refl), (λ e. refl));
      bare = λ k e. absurd (ended_not_live (has_ended s.state) over e);
      given = given;
      live = λ e. absurd (ended_not_live (has_ended s.state) over e);
      ended = λ e. t.meant.0 (means r h);
      few = λ e. (let f : s.fuel ≡ r.fuel = sym (ap (λ (y : ProcessRecord). y.fuel) i.is) in let few : r.fuel ≤ 4008000000 = g.few in omega (arith, f, few));
    }

  -- each record behind the old ones is as a sound world asks
  pub came_sound : (s : ProcessRecord) → find_record s.node v.records ≡ Some s → n < s.node → IsSoundRecord v s
  came_sound s found lt =
      let f = came s.node s lt found in
      let r : ProcessRecord = ended_record 1 1 f.number f.process in
      let j = its_record 1 1 1 f.number a.nodes r f.own in
      let twice : Some (new_record w a c ends f.number j.process) ≡ Some s
      = sym (found_there w a c ends f.number r f.own) ∙ ap (λ (m : ℕ). find_record m v.records) (sym f.raised) ∙ found in
      let same : new_record w a c ends f.number j.process ≡ s = cc twice in
      subst (IsSoundRecord v) same (sound_record r f.own)
