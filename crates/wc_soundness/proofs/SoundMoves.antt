-- A process that goes on, with as much before it as before, keeps a world sound.
use Rattle.std.proofs.Common.{◌≡◌, ◌≢◌, ◌⊎◌, ℕ, suc, ◌+◌, ◌<◌, ◌≤◌, Bool, true, false, Option, Some, None, List, [], ◌∷◌, get_or, length, inl, inr, refl, sym, ap, subst, ◌∙◌, arith}
use Rattle.std.specs.Prelude.{All, ◌==◌, ◌&&◌, ◌||◌, not, if◌then◌else◌, nat_lt, nat_le}
use Rattle.std.specs.List.{list_any}
use Rattle.std.specs.Str.{bytes_eq}
use Rattle.std.proofs.lemmas.Bool.{eqb-true}
use Rattle.std.proofs.lemmas.List.Elements.{All-nil, All-head, All-tail}
use Rattle.wc_value.specs.declared.process.ProcessState.{ProcessState}
use Rattle.wc_value.specs.declared.process.ProcessState.TheVariants as state
use Rattle.wc_value.specs.declared.process.Tree.{Tree}
use Rattle.wc_syntax.specs.declared.definition.Definition.{Definition}
use Rattle.wc_syntax.specs.declared.definition.Definition.TheVariants as definition
use Rattle.wc_semantics.specs.Tables.{Table, Kills}
use Rattle.wc_semantics.specs.declared.progress.Answer.{Answer}
use Rattle.wc_semantics.specs.declared.progress.Planned.{Planned}
use Rattle.wc_semantics.specs.declared.progress.Progress.{Progress}
use Rattle.wc_state.specs.declared.record.Checkpoint.{Checkpoint}
use Rattle.wc_state.specs.declared.record.Part.{Part}
use Rattle.wc_state.specs.declared.record.Part.TheVariants as part
use Rattle.wc_state.specs.declared.record.ProcessRecord.{ProcessRecord}
use Rattle.wc_world.specs.World.{World}
use Rattle.wc_world.specs.Accepted.{IsAccepted}
use Rattle.wc_world.specs.Applied.{is_created, is_killed, set}
use Rattle.wc_world.specs.Consistent.{IsConsistent, Stands}
use Rattle.wc_world.specs.Fits.{has_output}
use Rattle.wc_world.specs.Records.{at_process, find_record, has_ended, is_calculation, is_call_from}
use Rattle.wc_world.specs.Trees.{context_of}
use Rattle.wc_world.proofs.FoundRecords.{found_holds}
use Rattle.wc_world.proofs.ReachedLists.{all_found, unique}
use Rattle.wc_world.proofs.ReachedWorlds.{accepted_is_consistent}
use Rattle.wc_machine.specs.Continues.{Continues}
use Rattle.wc_machine.specs.Recorded.{its_definition}
use Rattle.wc_machine.specs.Rest.{awaited, chain_rest, is_awaited, meant, part_rest, progress_of, rest, with_stop, FitKills, GivesTree, IsOnTrack}
use Rattle.wc_machine.specs.Sound.{AllDiffer, AwaitsLastCalls, CallsAreKept, IsFitting, IsPlaced, IsSound, NamesKnown, OutputsAscend, TakesItsInputs, awaited_numbers, fuel_in, is_awaited_in}
use Rattle.wc_machine.specs.Sources.{HaveEqualKeys, IsLowestSource, KeepsRule}
use Rattle.wc_machine.proofs.Frames.{NoCallFrom, and_false, records_below}
use Rattle.wc_soundness.specs.Touches.{EndsLate, IsSoundRecord, MayBeTouched, Touches}
use Rattle.wc_soundness.proofs.LeftAlone.{awaits_kept, calls_kept, fitting_kept, names_kept, placed_kept}
use Rattle.wc_soundness.proofs.Others.{lowest_kept, touched_worlds_are_sound}
use Rattle.wc_soundness.proofs.Standing.{track_kept}
use Rattle.wc_soundness.proofs.Touched.{request_kept, touching_continues}
use Rattle.wc_soundness.specs.JobLaws.{MovesAreSafe}
use Rattle.wc_soundness.specs.Sets.{AreAlike, StaysOnTrack, is_bare, moved, moved_world, moves_to}
use Rattle.wc_soundness.proofs.Moves.{found_made, moved_touches, moves_accepted, no_new_links, set_is_live}

-- ---- parts that are alike

alike_has : (P : Part → Type 0) (p q : Part) → AreAlike p q → P p → ((x : Part) → is_bare x ≡ true → P x) → P q
alike_has P p q (inl e) h bare = subst P e h
alike_has P p q (inr b) h bare = bare q b.1

bare_awaits : (p : Part) (pid : ℕ) → is_bare p ≡ true → is_awaited p pid ≡ false
bare_awaits part.Fresh pid h = refl
bare_awaits (part.Chain c) pid h = absurd (cc)
bare_awaits (part.Job j) pid h = refl
bare_awaits part.Over pid h = absurd (cc)

alike_awaits : (p q : Part) (pid : ℕ) → AreAlike p q → is_awaited p pid ≡ is_awaited q pid
alike_awaits p q pid (inl e) = ap (λ (x : Part). is_awaited x pid) e
alike_awaits p q pid (inr b) = bare_awaits p pid b.0 ∙ sym (bare_awaits q pid b.1)

bare_context : (p : Part) → is_bare p ≡ true → context_of p ≡ []
bare_context part.Fresh h = refl
bare_context (part.Chain c) h = absurd (cc)
bare_context (part.Job j) h = refl
bare_context part.Over h = absurd (cc)

alike_context : (p q : Part) → AreAlike p q → context_of q ≡ context_of p
alike_context p q (inl e) = ap context_of (sym e)
alike_context p q (inr b) = bare_context q b.1 ∙ sym (bare_context p b.0)

bare_differ : (p : Part) → is_bare p ≡ true → AllDiffer (awaited_numbers p)
bare_differ part.Fresh h = tt
bare_differ (part.Chain c) h = absurd (cc)
bare_differ (part.Job j) h = tt
bare_differ part.Over h = absurd (cc)

bare_ascends : (p : Part) → is_bare p ≡ true → OutputsAscend p
bare_ascends part.Fresh h = tt
bare_ascends (part.Chain c) h = absurd (cc)
bare_ascends (part.Job j) h = tt
bare_ascends part.Over h = absurd (cc)

bare_last : (w : World) (r : ProcessRecord) (p : Part) → is_bare p ≡ true → AwaitsLastCalls w r p
bare_last w r part.Fresh h = tt
bare_last w r (part.Chain c) h = absurd (cc)
bare_last w r (part.Job j) h = tt
bare_last w r part.Over h = absurd (cc)

bare_names : (w : World) (r : ProcessRecord) (p : Part) → is_bare p ≡ true → NamesKnown w r p
bare_names w r part.Fresh h = tt
bare_names w r (part.Chain c) h = absurd (cc)
bare_names w r (part.Job j) h = tt
bare_names w r part.Over h = absurd (cc)

-- ---- fuel

-- a record keeps its number, its fuel and whether it lives, and awaits the same
pub record IsLike (x y : ProcessRecord) : Type 0 where
  pub node : y.node ≡ x.node
  pub fuel : y.fuel ≡ x.fuel
  pub over : has_ended y.state ≡ has_ended x.state
  pub awaits : (pid : ℕ) → is_awaited y.part pid ≡ is_awaited x.part pid

module _ (pid : ℕ) (f : ProcessRecord → ProcessRecord) where
  abbrev pub Like : ProcessRecord → Type 0
  Like x = x.node ≡ pid → IsLike x (f x)

  awaited_same : (rs : List ProcessRecord) → All Like rs → (q : ℕ) → is_awaited_in (at_process pid f rs) q ≡ is_awaited_in rs q
  awaited_same [] h q = refl
  awaited_same (x ∷ xs) h q = at (x.node == pid) refl (awaited_same xs (All-tail Like x xs h) q)
    where
      at : (b : Bool) → (x.node == pid) ≡ b → is_awaited_in (at_process pid f xs) q ≡ is_awaited_in xs q
          → (is_awaited (if b then f x else x).part q || is_awaited_in (at_process pid f xs) q) ≡ (is_awaited x.part q || is_awaited_in xs q)
      at true e more = λ i. (All-head Like x xs h (eqb-true x.node pid e)).awaits q i || more i
      at false e more = ap (λ (b : Bool). is_awaited x.part q || b) more

  fuel_same : (all before : List ProcessRecord) → ((q : ℕ) → is_awaited_in all q ≡ is_awaited_in before q) → (rs : List ProcessRecord) → All Like rs
      → fuel_in all (at_process pid f rs) ≡ fuel_in before rs
  fuel_same all before same [] h = refl
  fuel_same all before same (x ∷ xs) h = at (x.node == pid) refl (fuel_same all before same xs (All-tail Like x xs h))
    where
      at : (b : Bool) → (x.node == pid) ≡ b → fuel_in all (at_process pid f xs) ≡ fuel_in before xs
          → fuel_in all ((if b then f x else x) ∷ at_process pid f xs) ≡ fuel_in before (x ∷ xs)
      at true e more =
          let like : IsLike x (f x) = All-head Like x xs h (eqb-true x.node pid e) in
          λ i. if not (like.over i) || (ap (is_awaited_in all) like.node ∙ same x.node) i then suc (like.fuel i) + more i else more i
      at false e more = λ i. if not (has_ended x.state) || same x.node i then suc x.fuel + more i else more i

  pub fuel_kept : (rs : List ProcessRecord) → All Like rs → fuel_in (at_process pid f rs) (at_process pid f rs) ≡ fuel_in rs rs
  fuel_kept rs h = fuel_same (at_process pid f rs) rs (awaited_same rs h) rs h

-- ---- the process itself

not_started_again : (s : ProcessState) → s ≡ state.Created → (not (is_created s) && not (is_killed s)) ≡ false
not_started_again s e = ap (λ (x : ProcessState). not (is_created x) && not (is_killed x)) e

pub created_is : (s : ProcessState) → is_created s ≡ true → s ≡ state.Created
created_is state.Created h = refl
created_is state.Running h = absurd (cc)
created_is state.Waiting h = absurd (cc)
created_is (state.Finished n) h = absurd (cc)
created_is (state.Excepted reason) h = absurd (cc)
created_is state.Killed h = absurd (cc)

-- no number of an end for what lives
live_unended : (b : Bool) (started ended : ℕ) → (if b then nat_lt 0 ended && nat_le started ended else (ended == 0)) ≡ true → b ≡ false → ended ≡ 0
live_unended true started ended h e = absurd (cc)
live_unended false started ended h e = eqb-true ended 0 h

module _ (w : World) (r : ProcessRecord) (s : ProcessState) (paused : Bool) (p : Part) (sound : IsSound w) (found : find_record r.node w.records ≡ Some r)
    (live : has_ended r.state ≡ false) (going : has_ended s ≡ false) (stays : StaysOnTrack w r s p) where
  abbrev v : World
  v = moved_world w (moved r s paused r.fuel p)

  abbrev y : ProcessRecord
  y = set (w.batches + 1) (moved r s paused r.fuel p) r

  abbrev touched : Touches w v r.node
  touched = moved_touches w r s paused r.fuel p (found_holds (IsFitting w) r.node w.records r sound.records found) found live

  may : MayBeTouched w r.node
  may q h = let e : Some r ≡ Some q = sym found ∙ h in let same : r ≡ q = cc in ap (λ (x : ProcessRecord). has_ended x.state) (sym same) ∙ live

  there : find_record r.node v.records ≡ Some y
  there = found_made w r (moved r s paused r.fuel p) found refl

  abbrev Again : Type 0
  Again = (q : ProcessRecord) × (find_record r.node v.records ≡ Some q) × (context_of q.part ≡ context_of r.part)

  again : Again
  again = (y, there, alike_context r.part p stays.alike)

  quiet : NoCallFrom r.node touched.new
  quiet =
      subst (NoCallFrom r.node) (sym (no_new_links w r s paused r.fuel p (found_holds (IsFitting w) r.node w.records r sound.records found) found live))
      (All-nil (λ l. is_call_from r.node l ≡ false))

  unended : r.ended ≡ 0
  unended =
      let stands : Stands w r = found_holds (Stands w) r.node w.records r sound.consistent.records found in
      live_unended (has_ended r.state) r.started r.ended stands.ends live

  made_unended : y.ended ≡ 0
  made_unended = ap (λ (b : Bool). if b then w.batches + 1 else r.ended) going ∙ unended

  -- the one new record hasn't ended, and no process is new
  new_unended : IsConsistent v → (q : ProcessRecord) → find_record q.node v.records ≡ Some q → (r.node ≡ q.node) ⊎ (length w.nodes < q.node) → q.ended ≡ 0
  new_unended c q is (inl e) =
      let also : Some y ≡ Some q = sym there ∙ ap (λ (n : ℕ). find_record n v.records) e ∙ is in
      let same : y ≡ q = cc in
      ap (λ (x : ProcessRecord). x.ended) (sym same) ∙ made_unended
  new_unended c q is (inr beyond) =
      let lt : q.node < suc (length w.nodes) = found_holds (λ x. x.node < suc (length w.nodes)) q.node v.records q (records_below v.nodes v.records c.numbered) is in
      absurd (omega arith)

  -- ---- what holds of it

  takes_by : (o : Option Definition) → TakesItsInputs v r o → TakesItsInputs v y o
  takes_by None h = h
  takes_by (Some d) h = h

  fits : IsFitting v y
  fits =
      let f : IsFitting v r = fitting_kept w v r.node sound touched may r found quiet again (found_holds (IsFitting w) r.node w.records r sound.records found) in
      record {
        inputs = takes_by (its_definition v r) f.inputs;
        request = λ j. let q = stays.asked j in (q.0, request_kept w v r.node sound touched may r found ∙ q.1);
        code = λ e. refl;
        source = λ e. refl;
        started = λ e.
            ap (λ (b : Bool). if b then w.batches + 1 else r.started)
            (and_false (is_created r.state) (not (is_created s) && not (is_killed s)) (not_started_again s e))
            ∙ f.started (stays.created e);
        awaiting = alike_has (λ x. AllDiffer (awaited_numbers x)) r.part p stays.alike f.awaiting bare_differ;
        outputs = alike_has OutputsAscend r.part p stays.alike f.outputs bare_ascends;
      }

  placed : IsPlaced v y
  placed =
      let h : IsPlaced v r = placed_kept w v r.node sound touched may r found quiet again (found_holds (IsPlaced w) r.node w.records r sound.placed found) in
      record { root = h.root; called = h.called; numbered = h.numbered }

  calls : CallsAreKept v y
  calls q is called =
      elim (calls_kept w v r.node sound touched may r found quiet again (found_holds (CallsAreKept w) r.node w.records r sound.calls found) q is called) [
        | inl over ↦ inl over
        | inr lives ↦ inr (going, sym (alike_awaits r.part p q.node stays.alike) ∙ lives.1)
      ]

  last_by : (x : Part) → AwaitsLastCalls v r x → AwaitsLastCalls v y x
  last_by part.Fresh h = h
  last_by (part.Chain c) h = h
  last_by (part.Job j) h = h
  last_by part.Over h = h

  names_by : (x : Part) → NamesKnown v r x → NamesKnown v y x
  names_by part.Fresh h = h
  names_by (part.Chain c) h = h
  names_by (part.Job j) h = h
  names_by part.Over h = h

  keys_by : (q : ProcessRecord) → HaveEqualKeys v y q → HaveEqualKeys v r q
  keys_by q x = record { one = x.one; other = x.other; is_one = x.is_one; is_other = x.is_other; texts = x.texts; inputs = x.inputs }

  lowest_by : (b : ℕ) → IsLowestSource v b r None → IsLowestSource v b y None
  lowest_by b h i d lt x = h i d lt (x.0, keys_by (get_or v.records i d) x.1)

  lowest : IsConsistent v → (b : ℕ) → IsLowestSource w b r None → IsLowestSource v b y None
  lowest c b h =
      lowest_by b
      (lowest_kept w v r.node sound touched may (unique 1 v.nodes v.records c.numbered) r found b
      (λ q is new lt early. let none : q.ended ≡ 0 = new_unended c q is new in absurd (omega arith)) None h)

  starts_by : IsConsistent v → (old new : Bool) → is_created r.state ≡ old → (not (is_created s) && not (is_killed s)) ≡ new
      → is_calculation r.kind ≡ true → r.caching ≡ true → (if old && new then w.batches + 1 else r.started) ≢ 0
      → IsLowestSource v (if old && new then w.batches + 1 else r.started) y None
  starts_by c true true is_old is_new calculates on ne =
      lowest c (w.batches + 1) (stays.starts (created_is r.state is_old) (λ e. let none = not_started_again s e in cc (none, is_new)) calculates on)
  starts_by c true false is_old is_new calculates on ne =
      let f : IsFitting w r = found_holds (IsFitting w) r.node w.records r sound.records found in
      absurd (ne (f.started (created_is r.state is_old)))
  starts_by c false new is_old is_new calculates on ne =
      let f : IsFitting w r = found_holds (IsFitting w) r.node w.records r sound.records found in
      let k : KeepsRule w r = found_holds (KeepsRule w) r.node w.records r sound.sources found in
      lowest c r.started (subst (IsLowestSource w r.started r) (f.source live) (k.0 calculates on ne))

  rule : IsConsistent v → KeepsRule v y
  rule c = (
    λ calculates on ne. starts_by c (is_created r.state) (not (is_created s) && not (is_killed s)) refl refl calculates on ne,
    λ e. refl,
    λ e. refl,
    λ e. refl,
  )

  -- ---- on track

  chain_by : (table : Table) (cuts : Kills) (stop : Option ℕ) (n : ℕ) (c : Checkpoint) (d : Option Definition) (a : Option (List Planned)) (e : Option Progress)
      → chain_rest v table cuts stop n y c d a e ≡ chain_rest v table cuts stop n r c d a e
  chain_by table cuts stop n c None a e = refl
  chain_by table cuts stop n c (Some (definition.Function f)) a e = refl
  chain_by table cuts stop n c (Some (definition.Job j)) a e = refl
  chain_by table cuts stop n c (Some (definition.Chain k)) None e = refl
  chain_by table cuts stop n c (Some (definition.Chain k)) (Some planned) None = refl
  chain_by table cuts stop n c (Some (definition.Chain k)) (Some planned) (Some e) = refl

  part_by : (table : Table) (cuts : Kills) (stop : Option ℕ) (n : ℕ) (x : Part) → part_rest v table cuts stop n y x ≡ part_rest v table cuts stop n r x
  part_by table cuts stop n part.Fresh = refl
  part_by table cuts stop n (part.Chain c) = chain_by table cuts stop n c (its_definition v r) (awaited v c.awaiting) (progress_of v r c)
  part_by table cuts stop n (part.Job j) = refl
  part_by table cuts stop n part.Over = refl

  bare_rest : (table : Table) (cuts : Kills) (stop : Option ℕ) (n : ℕ) (x : Part) → is_bare x ≡ true
      → part_rest v table cuts stop n r x ≡ meant v r table (with_stop cuts stop) n
  bare_rest table cuts stop n part.Fresh h = refl
  bare_rest table cuts stop n (part.Chain c) h = absurd (cc)
  bare_rest table cuts stop n (part.Job j) h = refl
  bare_rest table cuts stop n part.Over h = absurd (cc)

  alike_rest : (table : Table) (cuts : Kills) (stop : Option ℕ) (n : ℕ) → AreAlike r.part p → part_rest v table cuts stop n r r.part ≡ part_rest v table cuts stop n r p
  alike_rest table cuts stop n (inl e) = ap (part_rest v table cuts stop n r) e
  alike_rest table cuts stop n (inr b) = bare_rest table cuts stop n r.part b.0 ∙ sym (bare_rest table cuts stop n p b.1)

  rest_same : (table : Table) (cuts : Kills) (stop : Option ℕ) (n : ℕ) → rest v table cuts stop n y ≡ rest v table cuts stop n r
  rest_same table cuts stop n = part_by table cuts stop n p ∙ sym (alike_rest table cuts stop n stays.alike)

  kills_fit : (cuts : Kills) → FitKills cuts v y → FitKills cuts v r
  kills_fit cuts f = record {
    alive = f.alive;
    bound = λ name path b.
        f.bound name path
        ((λ i. list_any (λ l. (is_call_from r.node l && bytes_eq l.label name) && not (sym (alike_awaits r.part p l.target stays.alike) i)) v.links) ∙ b);
  }

  same_chain : (c : Checkpoint) → p ≡ part.Chain c → AreAlike r.part p → r.part ≡ part.Chain c
  same_chain c is (inl e) = e ∙ is
  same_chain c is (inr b) = let not_bare : is_bare p ≡ false = ap is_bare is in absurd (cc (b.1, not_bare))

  abbrev Gives : Tree → Option Answer → Type 0
  Gives tree x = GivesTree x tree

  on_track : IsOnTrack v y
  on_track =
      let track : IsOnTrack v r =
      track_kept w v r.node sound touched may r found quiet again (found_holds (λ x. has_ended x.state ≡ false → IsOnTrack w x) r.node w.records r sound.live found live) in
      record {
        onward = λ table cuts agrees fits n stop tree g.
            track.onward table cuts agrees (kills_fit cuts fits) n stop tree (subst (Gives tree) (rest_same table cuts stop n) g);
        comes = λ table cuts agrees fits n tree g.
            let c = track.comes table cuts agrees (kills_fit cuts fits) n tree g in
            (c.0, subst (Gives tree) (sym (rest_same table cuts None c.0)) c.1);
        cut = λ table agrees running c is some. track.cut table agrees (stays.running running) c (same_chain c is stays.alike) some;
      }

  -- ---- all of it

  sound_record : IsConsistent v → IsSoundRecord v y
  sound_record c = record {
    fits = fits;
    placed = placed;
    calls = calls;
    awaits =
        last_by p
        (alike_has (AwaitsLastCalls v r) r.part p stays.alike
        (awaits_kept w v r.node sound touched may r found quiet again (found_holds (λ x. AwaitsLastCalls w x x.part) r.node w.records r sound.awaits found))
        (bare_last v r));
    names =
        names_by p
        (alike_has (NamesKnown v r) r.part p stays.alike
        (names_kept w v r.node sound touched may r found quiet again (found_holds (λ x. NamesKnown w x x.part) r.node w.records r sound.names found))
        (bare_names v r));
    rule = rule c;
    bare = λ calculates e.
        found_holds (λ x. is_calculation x.kind ≡ true → has_ended x.state ≡ false → has_output x.node w.links ≡ false) r.node w.records r sound.created.live found calculates live;
    given = λ calculates over. absurd (cc (over, going));
    live = λ e. on_track;
    ended = λ over. absurd (cc (over, going));
    few = λ over. absurd (cc (over, going));
  }

  like : IsLike r y
  like = record { node = refl; fuel = refl; over = going ∙ sym live; awaits = λ pid. sym (alike_awaits r.part p pid stays.alike) }

  fuel_stays : fuel_in v.records v.records ≤ v.batches + length v.nodes
  fuel_stays =
      let u = unique 1 w.nodes w.records sound.consistent.numbered in
      let same : fuel_in v.records v.records ≡ fuel_in w.records w.records
      = fuel_kept r.node (set (w.batches + 1) (moved r s paused r.fuel p)) w.records
      (all_found (λ x. IsLike x (set (w.batches + 1) (moved r s paused r.fuel p) x)) r.node w.records r u found like) in
      let le : fuel_in w.records w.records ≤ w.batches + length w.nodes = sound.fuel in
      omega arith

  late : IsConsistent v → EndsLate w v r.node
  late c q is new = inl (new_unended c q is new)

  touched_one : IsConsistent v → (q : ProcessRecord) → find_record q.node v.records ≡ Some q → (r.node ≡ q.node) ⊎ (length w.nodes < q.node) → IsSoundRecord v q
  touched_one c q is (inl e) =
      let also : Some y ≡ Some q = sym there ∙ ap (λ (n : ℕ). find_record n v.records) e ∙ is in
      let same : y ≡ q = cc in
      subst (IsSoundRecord v) same (sound_record c)
  touched_one c q is (inr beyond) =
      let lt : q.node < suc (length w.nodes) = found_holds (λ x. x.node < suc (length w.nodes)) q.node v.records q (records_below v.nodes v.records c.numbered) is in
      absurd (omega arith)

  pub moved_is_sound : IsConsistent v → IsSound v
  moved_is_sound c =
      touched_worlds_are_sound w v r.node sound touched may (late c)
      (record { consistent = c; libraries = sound.libraries; upward = sound.upward; one_creator = sound.created.one_creator; fuel = fuel_stays }) (touched_one c)

  pub moved_continues : Continues w v
  moved_continues = touching_continues w v r.node sound touched may

pub moves_safe : MovesAreSafe
moves_safe w r s paused p sound found h stays =
    let live : has_ended r.state ≡ false = set_is_live (has_ended r.state) _ h.fits in
    let accepted : w.batches < 4000000000 → IsAccepted w (moves_to r s paused r.fuel p) = moves_accepted w r s paused r.fuel p sound.consistent found h in
    record {
      accepted = λ some. accepted;
      sound = λ room.
          moved_is_sound w r s paused p sound found live h.goes_on stays (accepted_is_consistent w (moves_to r s paused r.fuel p) sound.consistent (accepted room));
      continues = moved_continues w r s paused p sound found live h.goes_on stays;
    }
