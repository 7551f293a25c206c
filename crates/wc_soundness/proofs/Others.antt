-- A process that an event doesn't touch stays sound: what is given for it, its source, and the rest.
use Rattle.std.proofs.Common.{◌≡◌, ◌≢◌, ◌⊎◌, ℕ, zero, suc, ◌+◌, ◌<◌, ◌≤◌, Bool, true, false, List, [], ◌∷◌, Option, Some, None, get_or, length, inl, inr, refl, sym, ap, subst, ◌∙◌, arith}
use Rattle.std.specs.Prelude.{All, ◌==◌, ◌&&◌, ◌||◌, not, if◌then◌else◌, nat_lt, nat_le, option_and_then, codes}
use Rattle.std.proofs.lemmas.Bool.{cases_eq, cases_lt, eqb-true}
use Rattle.wc_value.specs.Ascending.{lookup}
use Rattle.wc_syntax.specs.Findings.{definition_named}
use Rattle.wc_semantics.specs.Outcomes.{calculated, parsed}
use Rattle.wc_semantics.specs.Requests.{request}
use Rattle.wc_semantics.specs.Rules.{Values}
use Rattle.wc_semantics.specs.declared.outcomes.Parsed.{Parsed}
use Rattle.wc_state.specs.declared.record.ProcessRecord.{ProcessRecord}
use Rattle.wc_world.specs.World.{World}
use Rattle.wc_world.specs.Consistent.{IsConsistent, Stands, is_earlier_source, source_stands}
use Rattle.wc_world.specs.Fits.{has_output}
use Rattle.wc_world.specs.Records.{find_record, has_ended, is_calculation}
use Rattle.wc_world.specs.Trees.{context_of}
use Rattle.wc_world.proofs.FoundRecords.{found_holds, left, right}
use Rattle.wc_world.proofs.ReachedLists.{AreUnique, found_node, unique}
use Rattle.wc_machine.specs.Created.{GivenFor, killed, cached, function, job, no_request, IsGiven}
use Rattle.wc_machine.specs.Recorded.{folder_of, its_definition, recorded_inputs, result_with}
use Rattle.wc_machine.specs.Rest.{IsOnTrack}
use Rattle.wc_machine.specs.Sources.{HaveEqualKeys, IsLowestSource, IsSourceFor, IsValidSource, KeepsRule}
use Rattle.wc_machine.specs.Sound.{AwaitsLastCalls, CallsAreKept, IsFitting, IsPlaced, IsSound, KeepsFew, NamesKnown, fuel_in, is_awaited_in}
use Rattle.wc_machine.proofs.Upward.{upward_is_acyclic}
use Rattle.wc_soundness.specs.FramingLaws.{OthersStaySound, TouchedWorldsAreSound}
use Rattle.wc_soundness.specs.Touches.{Touches, MayBeTouched, EndsLate, HasSoundLists, IsSoundRecord}
use Rattle.wc_soundness.proofs.LeftAlone.{awaits_kept, bare_kept, calls_kept, fitting_kept, names_kept, placed_kept}
use Rattle.wc_soundness.proofs.Standing.{Over, over_found, track_kept}
use Rattle.wc_soundness.proofs.Touched.{found_kept, inputs_kept, library_kept, no_call, no_output, outputs_kept, over_differs, stands, stays_ended, within}

-- what has ended in some batch has ended
ended_by_number : (b : Bool) (started ended : ℕ) → nat_lt 0 ended ≡ true → (if b then nat_lt 0 ended && nat_le started ended else (ended == 0)) ≡ true → b ≡ true
ended_by_number true started ended lt h = refl
ended_by_number false started ended lt h =
    let none : nat_lt 0 ended ≡ false = ap (nat_lt 0) (eqb-true ended 0 h) in
    absurd (cc (none, lt))

no_source : (n batches b : ℕ) → (n ≡ 0) ⊎ (batches < n) → 0 < n → n < b → b ≤ batches → ⊥
no_source n batches b (inl e) lt early within = omega arith
no_source n batches b (inr after) lt early within = omega arith

module _ (v w : World) (pid : ℕ) (s : IsSound v) (t : Touches v w pid) (may : MayBeTouched v pid) where
  definition_there : (r : ProcessRecord) → find_record r.node v.records ≡ Some r → its_definition w r ≡ its_definition v r
  definition_there r found = ap (option_and_then (definition_named r.definition)) (library_kept v w pid s t may r found)

  inputs_there : (r : ProcessRecord) → find_record r.node v.records ≡ Some r → recorded_inputs w r.node ≡ recorded_inputs v r.node
  inputs_there r found = inputs_kept v w pid s t may r.node (within v w pid s t may r.node r found)

  -- ---- what is given

  earlier : (r : ProcessRecord) (source : ℕ) (o : Option ProcessRecord) → find_record source v.records ≡ o → is_earlier_source r o ≡ true → Over v w pid s t may source
  earlier r source None is h = absurd (cc)
  earlier r source (Some q) is h =
      let number : nat_lt 0 q.ended ≡ true
      = left (nat_lt 0 q.ended) (nat_lt q.ended r.started) (right (is_calculation q.kind) (nat_lt 0 q.ended && nat_lt q.ended r.started) h) in
      let standing : Stands v q = found_holds (Stands v) source v.records q s.consistent.records is in
      (q, is, ended_by_number (has_ended q.state) q.started q.ended number standing.ends)

  source_over : (r : ProcessRecord) → find_record r.node v.records ≡ Some r → (source : ℕ) → r.cached_from ≡ Some source → Over v w pid s t may source
  source_over r found source from =
      let stood : source_stands v.records r (Some source) ≡ true = ap (source_stands v.records r) (sym from) ∙ (stands v w pid s t may r found).source in
      earlier r source (find_record source v.records) refl (right (nat_lt 0 source) (is_earlier_source r (find_record source v.records)) stood)

  over_there : (r : ProcessRecord) → find_record r.node v.records ≡ Some r → Over v w pid s t may r.node → find_record r.node w.records ≡ Some r
  over_there r found over = found_kept v w pid s t may r found (over_differs v w pid s t may r.node over)

  given_for : (q : ℕ) (o : Parsed) → Over v w pid s t may q → GivenFor v q o → GivenFor w q o
  given_for q o over (killed r found is keeps) = killed r (over_there r found over) is keeps
  given_for q o over (cached r source p found alive keeps from more) =
      cached r source p (over_there r found over) alive keeps from (given_for source p (source_over r found source from) more)
  given_for q o over (function r f found alive none is) =
      subst (λ (xs : Values). GivenFor w r.node (calculated f xs)) (inputs_there r found)
      (function r f (over_there r found over) alive none (definition_there r found ∙ is))
  given_for q o over (job r j req code files found alive none is is_code folder asked) =
      let outputs = outputs_kept v w pid s t may r.node (within v w pid s t may r.node r found) (over_differs v w pid s t may r.node over) in
      subst (λ (xs : Values). GivenFor w r.node (parsed j xs (result_with code files))) (inputs_there r found)
      (job r j req code files (over_there r found over) alive none (definition_there r found ∙ is) is_code
      (ap (λ (os : Values). option_and_then folder_of (lookup (codes "retrieved") os)) outputs ∙ folder) (ap (request j) (inputs_there r found) ∙ asked))
  given_for q o over (no_request r j reason found alive none is is_code asked) =
      no_request r j reason (over_there r found over) alive none (definition_there r found ∙ is) is_code (ap (request j) (inputs_there r found) ∙ asked)

  -- ---- sources

  valid_here : (b : ℕ) (q : ProcessRecord) → find_record q.node v.records ≡ Some q → IsValidSource w b q → IsValidSource v b q
  valid_here b q found x = record {
    calculates = x.calculates;
    status = x.status;
    finished = x.finished;
    definition = x.definition;
    is_definition = sym (definition_there q found) ∙ x.is_definition;
    unmarked = x.unmarked;
    ended = x.ended;
    earlier = x.earlier;
  }

  valid_there : (b : ℕ) (q : ProcessRecord) → find_record q.node v.records ≡ Some q → IsValidSource v b q → IsValidSource w b q
  valid_there b q found x = record {
    calculates = x.calculates;
    status = x.status;
    finished = x.finished;
    definition = x.definition;
    is_definition = definition_there q found ∙ x.is_definition;
    unmarked = x.unmarked;
    ended = x.ended;
    earlier = x.earlier;
  }

  keys_here : (p q : ProcessRecord) → find_record p.node v.records ≡ Some p → find_record q.node v.records ≡ Some q → HaveEqualKeys w p q → HaveEqualKeys v p q
  keys_here p q one other x = record {
    one = x.one;
    other = x.other;
    is_one = sym (definition_there p one) ∙ x.is_one;
    is_other = sym (definition_there q other) ∙ x.is_other;
    texts = x.texts;
    inputs = sym (inputs_there p one) ∙ x.inputs ∙ inputs_there q other;
  }

  keys_there : (p q : ProcessRecord) → find_record p.node v.records ≡ Some p → find_record q.node v.records ≡ Some q → HaveEqualKeys v p q → HaveEqualKeys w p q
  keys_there p q one other x = record {
    one = x.one;
    other = x.other;
    is_one = definition_there p one ∙ x.is_one;
    is_other = definition_there q other ∙ x.is_other;
    texts = x.texts;
    inputs = inputs_there p one ∙ x.inputs ∙ sym (inputs_there q other);
  }

  module _ (there : AreUnique w.records) (p : ProcessRecord) (found : find_record p.node v.records ≡ Some p) (b : ℕ)
      (unready : (q : ProcessRecord) → find_record q.node w.records ≡ Some q → (pid ≡ q.node) ⊎ (length v.nodes < q.node) → 0 < q.ended → q.ended < b → ⊥) where
    -- a source is an old one
    old_source : (q : ProcessRecord) → find_record q.node w.records ≡ Some q → IsValidSource w b q → find_record q.node v.records ≡ Some q
    old_source q is x =
        elim (cases_eq pid q.node) [
          | inl e ↦ absurd (unready q is (inl e) x.ended x.earlier)
          | inr ne ↦
              elim (cases_lt (length v.nodes) q.node) [
                | inl beyond ↦ absurd (unready q is (inr beyond) x.ended x.earlier)
                | inr low ↦ sym (t.records q.node ne low) ∙ is
              ]
        ]

    old_refused : (P : ProcessRecord → Type 0) → All (λ q. P q → ¬ IsSourceFor v b p q) v.records → All (λ q. P q → ¬ IsSourceFor w b p q) w.records
    old_refused P none i d lt so x =
        let q : ProcessRecord = get_or w.records i d in
        let before = old_source q (there i d lt) x.0 in
        found_holds (λ y. P y → ¬ IsSourceFor v b p y) q.node v.records q none before so (valid_here b q before x.0, keys_here p q found before x.1)

    -- the lowest source stays, where the event touches or makes none
    pub lowest_kept : (source : Option ℕ) → IsLowestSource v b p source → IsLowestSource w b p source
    lowest_kept None h = λ i d lt. old_refused (λ q. Unit {0}) (λ j e le so. h j e le) i d lt tt
    lowest_kept (Some source) h =
        let q : ProcessRecord = h.0.0 in
        let number : q.node ≡ source = found_node source v.records q h.0.1 in
        let itself : find_record q.node v.records ≡ Some q = ap (λ (n : ℕ). find_record n v.records) number ∙ h.0.1 in
        let standing : Stands v q = found_holds (Stands v) source v.records q s.consistent.records h.0.1 in
        let over : has_ended q.state ≡ true = ap has_ended h.0.2.0.finished in (
          (q, over_found v w pid s t may source (q, h.0.1, over) ∙ h.0.1, (valid_there b q itself h.0.2.0, keys_there p q found itself h.0.2.1)),
          old_refused (λ y. y.node < source) h.1,
        )

  -- ---- all of it

  module _ (late : EndsLate v w pid) (c : IsConsistent w) (r : ProcessRecord) (found : find_record r.node v.records ≡ Some r) (ne : pid ≢ r.node) where
    rule_kept : KeepsRule v r → KeepsRule w r
    rule_kept k = (
      λ calculates on started.
          lowest_kept (unique 1 w.nodes w.records c.numbered) r found r.started
          (λ q is new lt early. no_source q.ended v.batches r.started (late q is new) lt early (stands v w pid s t may r found).started)
          r.cached_from (k.0 calculates on started),
      k.1,
      k.2,
      k.3,
    )

    given_kept : has_ended r.state ≡ true → IsGiven v r → IsGiven w r
    given_kept over g = (g.0, given_for r.node g.0 (r, found, over) g.1, g.2, outputs_kept v w pid s t may r.node (within v w pid s t may r.node r found) ne ∙ g.3)

    pub other_is_sound : IsSoundRecord w r
    other_is_sound =
        let le = within v w pid s t may r.node r found in
        let quiet = no_call v w pid s t may r.node le ne in
        let again : (q : ProcessRecord) × (find_record r.node w.records ≡ Some q) × (context_of q.part ≡ context_of r.part) = (r, found_kept v w pid s t may r found ne, refl) in
        record {
          fits = fitting_kept v w pid s t may r found quiet again (found_holds (IsFitting v) r.node v.records r s.records found);
          placed = placed_kept v w pid s t may r found quiet again (found_holds (IsPlaced v) r.node v.records r s.placed found);
          calls = calls_kept v w pid s t may r found quiet again (found_holds (CallsAreKept v) r.node v.records r s.calls found);
          awaits = awaits_kept v w pid s t may r found quiet again (found_holds (λ x. AwaitsLastCalls v x x.part) r.node v.records r s.awaits found);
          names = names_kept v w pid s t may r found quiet again (found_holds (λ x. NamesKnown v x x.part) r.node v.records r s.names found);
          rule = rule_kept (found_holds (KeepsRule v) r.node v.records r s.sources found);
          bare = λ calculates live.
              bare_kept v w pid s t may r found quiet again (no_output v w pid s t may r.node le ne)
              ∙ found_holds (λ x. is_calculation x.kind ≡ true → has_ended x.state ≡ false → has_output x.node v.links ≡ false) r.node v.records r s.created.live found calculates live;
          given = λ calculates over.
              given_kept over (found_holds (λ x. is_calculation x.kind ≡ true → has_ended x.state ≡ true → IsGiven v x) r.node v.records r s.created.ended found calculates over);
          live = λ live.
              track_kept v w pid s t may r found quiet again (found_holds (λ x. has_ended x.state ≡ false → IsOnTrack v x) r.node v.records r s.live found live);
          ended = λ over. (stays_ended v w pid s t may r found over).meant;
          few = λ over. found_holds KeepsFew r.node v.records r s.few found;
        }

pub others_stay_sound : OthersStaySound
others_stay_sound v w pid s t may c late r found ne = other_is_sound v w pid s t may late c r found ne

-- ---- kept fuel

still_within : (b : Bool) (k fuel n : ℕ) → k ≤ n → k ≤ (if b then suc fuel + n else n)
still_within true k fuel n le = omega arith
still_within false k fuel n le = le

-- what is kept of a live process is counted
pub live_counted : (all rs : List ProcessRecord) (i : ℕ) (d : ProcessRecord) → i < length rs → has_ended (get_or rs i d).state ≡ false → suc (get_or rs i d).fuel ≤ fuel_in all rs
live_counted all [] i d lt live = absurd (omega arith)
live_counted all (r ∷ rs) zero d lt live =
    let here : fuel_in all (r ∷ rs) ≡ suc r.fuel + fuel_in all rs = λ j. if not (live j) || is_awaited_in all r.node then suc r.fuel + fuel_in all rs else fuel_in all rs in
    subst (λ (n : ℕ). suc r.fuel ≤ n) (sym here) (omega arith)
live_counted all (r ∷ rs) (suc i) d lt live =
    still_within (not (has_ended r.state) || is_awaited_in all r.node) (suc (get_or rs i d).fuel) r.fuel (fuel_in all rs) (live_counted all rs i d (omega arith) live)

-- so it is no more than batches and nodes can be, and where a process has ended it is known
pub few_by : (w : World) → IsConsistent w → fuel_in w.records w.records ≤ w.batches + length w.nodes → (i : ℕ) (d : ProcessRecord) → i < length w.records
    → (b : Bool) → has_ended (get_or w.records i d).state ≡ b → (has_ended (get_or w.records i d).state ≡ true → KeepsFew (get_or w.records i d)) → KeepsFew (get_or w.records i d)
few_by w c bound i d lt true over known = known over
few_by w c bound i d lt false live known =
    let counted = live_counted w.records w.records i d lt live in
    let nodes = c.few in
    let batches = c.batches in
    omega arith

-- lists and records make a sound world
pub sound_by_records : (w : World) → HasSoundLists w → All (IsSoundRecord w) w.records → IsSound w
sound_by_records w h each = record {
  consistent = h.consistent;
  libraries = h.libraries;
  links = h.consistent.links;
  acyclic = upward_is_acyclic w.links h.upward;
  upward = h.upward;
  created = record {
    one_creator = h.one_creator;
    live = λ i d lt. (each i d lt).bare;
    ended = λ i d lt. (each i d lt).given;
  };
  sources = λ i d lt. (each i d lt).rule;
  records = λ i d lt. (each i d lt).fits;
  placed = λ i d lt. (each i d lt).placed;
  calls = λ i d lt. (each i d lt).calls;
  awaits = λ i d lt. (each i d lt).awaits;
  names = λ i d lt. (each i d lt).names;
  live = λ i d lt. (each i d lt).live;
  ended = λ i d lt. (each i d lt).ended;
  fuel = h.fuel;
  few = λ i d lt. few_by w h.consistent h.fuel i d lt (has_ended (get_or w.records i d).state) refl (each i d lt).few;
}

pub touched_worlds_are_sound : TouchedWorldsAreSound
touched_worlds_are_sound v w pid s t may late h new =
    let there : AreUnique w.records = unique 1 w.nodes w.records h.consistent.numbered in
    sound_by_records w h
    (λ i d lt.
    let r : ProcessRecord = get_or w.records i d in
    elim (cases_eq pid r.node) [
      | inl e ↦ new r (there i d lt) (inl e)
      | inr ne ↦
          elim (cases_lt (length v.nodes) r.node) [
            | inl beyond ↦ new r (there i d lt) (inr beyond)
            | inr low ↦ other_is_sound v w pid s t may late h.consistent r (sym (t.records r.node ne low) ∙ there i d lt) ne
          ]
    ])
