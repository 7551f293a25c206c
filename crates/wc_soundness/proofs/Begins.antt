-- A job that has a request, and finds no source, begins with its first task.
use Rattle.std.proofs.Common.{◌≡◌, ◌≢◌, ℕ, suc, ◌+◌, ◌⊎◌, ◌<◌, ◌≤◌, Bool, true, false, Option, Some, None, List, [], ◌∷◌, length, get_or, inl, inr, refl, sym, ap, subst, ◌∙◌, arith}
use Rattle.std.specs.Prelude.{All, ◌==◌, ◌&&◌, ◌||◌, not, if◌then◌else◌, nat_lt, nat_le}
use Rattle.std.specs.Str.{bytes_eq}
use Rattle.std.proofs.lemmas.Bool.{cases_eq, eqb-true}
use Rattle.std.proofs.lemmas.List.{append-nil}
use Rattle.std.proofs.lemmas.List.Elements.{All-nil, All-head, All-tail}
use Rattle.std.proofs.lemmas.List.Folds.{list_any_none}
use Rattle.wc_value.specs.declared.process.ProcessState.{ProcessState}
use Rattle.wc_value.specs.declared.process.ProcessState.TheVariants as state
use Rattle.wc_value.specs.declared.process.Request.{Request}
use Rattle.wc_syntax.specs.declared.definition.Definition.{Definition}
use Rattle.wc_graph.specs.declared.link.Link.{Link}
use Rattle.wc_expression.specs.declared.outcome.Outcome.{Outcome}
use Rattle.wc_semantics.specs.Tables.{Label, Table, Kills}
use Rattle.wc_semantics.specs.declared.progress.Answer.{Answer}
use Rattle.wc_state.specs.declared.record.Part.{Part}
use Rattle.wc_state.specs.declared.record.Part.TheVariants as part
use Rattle.wc_state.specs.declared.record.ProcessKind.TheVariants as kind
use Rattle.wc_state.specs.declared.record.ProcessRecord.{ProcessRecord}
use Rattle.wc_records.specs.declared.change.SetProcess.{SetProcess}
use Rattle.wc_world.specs.World.{World}
use Rattle.wc_world.specs.Accepted.{IsAccepted}
use Rattle.wc_world.specs.Applied.{set, begun, is_created}
use Rattle.wc_world.specs.Consistent.{Stands, IsConsistent}
use Rattle.wc_world.specs.Fits.{calls_from, counted_calls, has_output, is_settled, part_fits, set_fits, unsettled}
use Rattle.wc_world.specs.Records.{find_record, at_process, has_ended, has_called, is_call_from}
use Rattle.wc_world.proofs.FoundRecords.{found_holds}
use Rattle.wc_world.proofs.ReachedLists.{AreUnique, unique, all_found, all_at_apart}
use Rattle.wc_world.proofs.ReachedWorlds.{accepted_is_consistent}
use Rattle.wc_machine.specs.Agreement.{Agrees}
use Rattle.wc_machine.specs.Continues.{Carries, Continues}
use Rattle.wc_machine.specs.Recorded.{its_definition, recorded_inputs, request_by}
use Rattle.wc_machine.specs.Rest.{has_bound, is_awaited, part_rest, rest, FitKills, GivesTree, IsOnTrack}
use Rattle.wc_machine.specs.Sound.{IsFitting, IsPlaced, CallsAreKept, fuel_in, IsSound}
use Rattle.wc_machine.specs.Sources.{KeepsRule, KeepsCacheRule}
use Rattle.wc_machine.specs.Turns.{first_task}
use Rattle.wc_machine.proofs.AcceptedEnds.{live_without_output}
use Rattle.wc_machine.proofs.ContinuedEnds.{carried_itself}
use Rattle.wc_machine.proofs.Frames.{NoCallFrom, records_below}
use Rattle.wc_soundness.specs.Touches.{AddsFor, Touches, MayBeTouched, EndsLate, IsSoundRecord}
use Rattle.wc_soundness.proofs.Others.{others_stay_sound, sound_by_records}
use Rattle.wc_soundness.proofs.Touched.{tables_narrow, touching_continues}
use Rattle.wc_soundness.specs.CachingLaws.{MayBegin, beginning, BeginningsAreAccepted, BeginningsContinue, BeginningsKeepSound}
use Rattle.wc_soundness.specs.Starts.{EndsAreLater, StartsByRule, stays, starts}
use Rattle.wc_soundness.proofs.AtOne.{found_other, found_one}
use Rattle.wc_soundness.proofs.Calculations.{calls_nothing}
use Rattle.wc_soundness.proofs.Ended.{fresh_part, takes_same, with_own}
use Rattle.wc_soundness.proofs.Fuel.{KeepsFuel, sum_falls}
use Rattle.wc_soundness.proofs.Given.{one_found, job_kind}
use Rattle.wc_soundness.proofs.Rule.{carried_to, rule_is_stable}

settled_all : (links : List Link) (rs : List ProcessRecord) → All (λ r. is_settled links r ≡ true) rs → unsettled links rs ≡ None
settled_all links [] a = refl
settled_all links (r ∷ rs) a =
    ap (λ (b : Bool). if b then unsettled links rs else Some r.node) (All-head (λ r. is_settled links r ≡ true) r rs a)
    ∙ settled_all links rs (All-tail (λ r. is_settled links r ≡ true) r rs a)

module _ (w : World) (r : ProcessRecord) (h : MayBegin w r) where
  c : IsConsistent w
  c = h.sound.consistent

  found : find_record r.node w.records ≡ Some r
  found = h.starts.found

  created : r.state ≡ state.Created
  created = h.starts.created

  -- what it is set to, its record then, and the world
  abbrev first_set : SetProcess
  first_set = record { pid = r.node; state = state.Waiting; paused = false; cached_from = 0; fuel = r.fuel; code = None; part = part.Job first_task }

  abbrev begin : ProcessRecord → ProcessRecord
  begin = set (w.batches + 1) first_set

  abbrev own : ProcessRecord
  own = begin r

  abbrev pub after : World
  after = record { nodes = w.nodes; links = w.links; records = at_process r.node begin w.records; libraries = w.libraries; batches = w.batches + 1 }

  stands : Stands w r
  stands = found_holds (Stands w) r.node w.records r c.records found

  fresh : r.part ≡ part.Fresh
  fresh = fresh_part r.kind r.state r.part created stands.part

  is_job : r.kind ≡ kind.Job
  is_job = job_kind r.kind (its_definition w r) h.job h.runs stands.defined

  live : has_ended r.state ≡ false
  live = ap has_ended created

  fits_before : IsFitting w r
  fits_before = found_holds (IsFitting w) r.node w.records r h.sound.records found

  -- ---- accepted

  set_is : set_fits (begun w) first_set r ≡ true
  set_is = λ i. not (has_ended (created i)) && (part_fits (is_job i) state.Waiting (part.Job first_task) && true)

  settled_own : is_settled w.links own ≡ true
  settled_own =
      sym (λ i. has_ended (created i) || (not (has_output r.node w.links) && (calls_from r.node w.links == counted_calls (fresh i))))
      ∙ stands.settled

  settled_after : unsettled after.links after.records ≡ None
  settled_after =
      let u = unique 1 w.nodes w.records c.numbered in
      settled_all w.links after.records
      (all_at_apart (λ x. is_settled w.links x ≡ true) r.node begin w.records (λ i d lt ne. (c.records i d lt).settled)
      (all_found (λ x. is_settled w.links (begin x) ≡ true) r.node w.records r u found settled_own))

  pub begin_accepted : w.batches < 4000000000 → IsAccepted w (beginning r)
  begin_accepted room = record { batch = room; each = ((r, found, set_is, refl), tt); settled = settled_after }

  -- ---- touches one process

  found_own : find_record r.node after.records ≡ Some own
  found_own = found_one r.node begin (λ x. refl) w.records r refl found

  starts_now : own.started ≡ w.batches + 1
  starts_now = ap (λ (x : ProcessState). if is_created x && true then w.batches + 1 else r.started) created

  carries_own : Carries r own
  carries_own = record {
    node = refl;
    kind = refl;
    definition = refl;
    library = refl;
    depth = refl;
    label = refl;
    caching = refl;
    started = λ ne. absurd (ne (fits_before.started created));
    ended = λ over. absurd (cc (over, live));
  }

  touches : Touches w after r.node
  touches = record {
    libraries = ([], sym (append-nil w.libraries));
    nodes = ([], sym (append-nil w.nodes));
    new = [];
    links = sym (append-nil w.links);
    added = All-nil (AddsFor w.nodes r.node);
    records = λ q ne le. found_other r.node begin (λ x. refl) w.records q ne;
    carried = λ x there. (own, found_own, subst (λ (y : ProcessRecord). Carries y own) (one_found (find_record r.node w.records) r x found there) carries_own);
    batches = omega arith;
  }

  may : MayBeTouched w r.node
  may x there = ap (λ (y : ProcessRecord). has_ended y.state) (one_found (find_record r.node w.records) x r there found) ∙ live

  pub goes_on : Continues w after
  goes_on = touching_continues w after r.node h.sound touches may

  -- ---- on track

  agreed : (table : Table) → Agrees table after r.node → Agrees table w r.node
  agreed table = tables_narrow w after r.node h.sound touches may r found table

  quiet : NoCallFrom r.node w.links
  quiet = calls_nothing w c r found h.starts.calculates

  none_bound : (name : Label) → has_bound w r name ≡ false
  none_bound name =
      list_any_none (λ l. (is_call_from r.node l && bytes_eq l.label name) && not (is_awaited r.part l.target)) w.links
      (λ i d lt. let l = get_or w.links i d in ap (λ (b : Bool). (b && bytes_eq l.label name) && not (is_awaited r.part l.target)) (quiet i d lt))

  fitted : (cuts : Kills) → FitKills cuts after own → FitKills cuts w r
  fitted cuts fit = record { alive = fit.alive; bound = λ name path b. absurd (let none = none_bound name in cc (none, b)) }

  rest_before : (table : Table) (cuts : Kills) (stop : Option ℕ) (n : ℕ) → rest w table cuts stop n r ≡ rest after table cuts stop n own
  rest_before table cuts stop n = ap (part_rest w table cuts stop n r) fresh

  track_before : IsOnTrack w r
  track_before = found_holds (λ x. has_ended x.state ≡ false → IsOnTrack w x) r.node w.records r h.sound.live found live

  track : IsOnTrack after own
  track = record {
    onward = λ table cuts agrees fit n stop t g.
        track_before.onward table cuts (agreed table agrees) (fitted cuts fit) n stop t (subst (λ (x : Option Answer). GivesTree x t) (sym (rest_before table cuts stop n)) g);
    comes = λ table cuts agrees fit n t g.
        let m = track_before.comes table cuts (agreed table agrees) (fitted cuts fit) n t g in
        (m.0, subst (λ (x : Option Answer). GivesTree x t) (rest_before table cuts None m.0) m.1);
    cut = λ table agrees running. absurd (cc running);
  }

  -- ---- sound

  other_before : (q : ProcessRecord) → find_record q.node after.records ≡ Some q → q.node ≢ r.node → find_record q.node w.records ≡ Some q
  other_before q there ne = sym (found_other r.node begin (λ x. refl) w.records q.node (λ e. ne (sym e))) ∙ there

  not_over : r.ended ≡ 0
  not_over = eqb-true r.ended 0 (ap (λ (b : Bool). if b then nat_lt 0 r.ended && nat_le r.started r.ended else (r.ended == 0)) (sym live) ∙ stands.ends)

  later : EndsAreLater w after
  later q there positive le =
      elim (cases_eq q.node r.node) [
        | inl same ↦
            let is : q ≡ own = one_found (find_record r.node after.records) q own (ap (λ (n : ℕ). find_record n after.records) (sym same) ∙ there) found_own in
            let zero_before : r.ended ≡ 0 = not_over in
            let now : q.ended ≡ r.ended = ap (λ (x : ProcessRecord). x.ended) is in
            absurd (omega arith)
        | inr ne ↦ other_before q there ne
      ]

  module _ (cv : IsConsistent after) where
    there_again : AreUnique after.records
    there_again = unique 1 after.nodes after.records cv.numbered

    all_of : (Q : ProcessRecord → Type 0) → Q own → All (λ x. x.node ≢ r.node → Q x) after.records → All Q after.records
    all_of Q q rest_are = with_own Q after.records r.node own there_again found_own q rest_are

    others_by : (Q : ProcessRecord → Type 0) → ((q : ProcessRecord) → find_record q.node w.records ≡ Some q → Q q) → All (λ x. x.node ≢ r.node → Q x) after.records
    others_by Q each i d lt ne = let q = get_or after.records i d in each q (other_before q (there_again i d lt) ne)

    rule_after : KeepsCacheRule after
    rule_after =
        rule_is_stable w after h.sound cv goes_on later
        (all_of (StartsByRule w) (starts r found carries_own starts_now (λ calculates. h.source) (λ other. refl)) (others_by (StartsByRule w) (λ q there. stays q there (carried_itself q) refl refl)))

    late : EndsLate w after r.node
    late q there which =
        elim (cases_eq q.node r.node) [
          | inl same ↦
              let is : q ≡ own = one_found (find_record r.node after.records) q own (ap (λ (n : ℕ). find_record n after.records) (sym same) ∙ there) found_own in
              inl (ap (λ (x : ProcessRecord). x.ended) is ∙ not_over)
          | inr ne ↦ absurd (not_new which ne)
        ]
      where
        not_new : (r.node ≡ q.node) ⊎ (length w.nodes < q.node) → q.node ≢ r.node → ⊥
        not_new (inl e) ne = ne (sym e)
        not_new (inr beyond) ne =
            let low : q.node < suc (length w.nodes)
            = found_holds (λ x. x.node < suc (length w.nodes)) q.node w.records q (records_below w.nodes w.records c.numbered) (other_before q there ne) in
            let over : length w.nodes < q.node = beyond in
            absurd (omega arith)

    others_sound : All (λ x. x.node ≢ r.node → IsSoundRecord after x) after.records
    others_sound i d lt ne =
        let q = get_or after.records i d in
        others_stay_sound w after r.node h.sound touches may cv late q (other_before q (there_again i d lt) ne) (λ e. ne (sym e))

    own_fits : IsFitting after own
    own_fits = record {
      inputs = takes_same w after r own (its_definition w r) refl fits_before.inputs;
      request = λ job. (
        h.query,
        ap (λ (o : Option Definition). request_by o (recorded_inputs w r.node)) h.runs ∙ ap (λ (o : Outcome Request). Some o) h.asked,
      );
      code = λ alive. refl;
      source = λ alive. refl;
      started = λ again. absurd (cc again);
      awaiting = tt;
      outputs = tt;
    }

    own_placed : IsPlaced after own
    own_placed =
        let place : IsPlaced w r = found_holds (IsPlaced w) r.node w.records r h.sound.placed found in
        record {
          root = place.root;
          called = λ deeper.
              let k = place.called deeper in
              let s = carried_to w after c goes_on k.0 k.1.0 in (
                s.0,
                (
                  ap (λ (n : ℕ). find_record n after.records) s.2.node ∙ s.1,
                  ap (λ (n : ℕ). has_called w.links n r.node) s.2.node ∙ k.1.1,
                  k.1.2 ∙ ap (λ (n : ℕ). suc n) (sym s.2.depth),
                  k.1.3 ∙ sym s.2.library,
                ),
              );
          numbered = place.numbered;
        }

    own_calls : CallsAreKept after own
    own_calls x there called =
        let none : has_called w.links r.node x.node ≡ false
        = list_any_none (λ l. is_call_from r.node l && (l.target == x.node)) w.links
        (λ i d lt. ap (λ (b : Bool). b && ((get_or w.links i d).target == x.node)) (quiet i d lt)) in
        absurd (cc (called, none))

    own_fuel : fuel_in after.records after.records ≤ after.batches + length after.nodes
    own_fuel =
        let u = unique 1 w.nodes w.records c.numbered in
        let keeps : KeepsFuel begin r = record { live = live; none = λ n. ap (λ (x : Part). is_awaited x n) fresh; still = λ n. refl; fuel = refl } in
        let less = sum_falls r.node begin w.records (all_found (KeepsFuel begin) r.node w.records r u found keeps) in
        let bound : fuel_in w.records w.records ≤ w.batches + length w.nodes = h.sound.fuel in
        omega arith

    own_sound : IsSoundRecord after own
    own_sound = record {
      fits = own_fits;
      placed = own_placed;
      calls = own_calls;
      awaits = tt;
      names = tt;
      rule = found_holds (KeepsRule after) r.node after.records own rule_after found_own;
      bare = λ calculates alive. live_without_output after own (found_holds (Stands after) r.node after.records own cv.records found_own) alive;
      given = λ calculates over. absurd (cc over);
      live = λ alive. track;
      ended = λ over. absurd (cc over);
      few = λ over. absurd (cc over);
    }

    pub begun_sound : IsSound after
    begun_sound =
        sound_by_records after (record {
          consistent = cv;
          libraries = h.sound.libraries;
          upward = h.sound.upward;
          one_creator = h.sound.created.one_creator;
          fuel = own_fuel;
        }) (all_of (IsSoundRecord after) own_sound others_sound)

pub beginnings_accepted : BeginningsAreAccepted
beginnings_accepted w r h room = begin_accepted w r h room

pub beginnings_continue : BeginningsContinue
beginnings_continue w r h = goes_on w r h

pub beginnings_keep_sound : BeginningsKeepSound
beginnings_keep_sound w r h a = begun_sound w r h (accepted_is_consistent w (beginning r) h.sound.consistent a)
