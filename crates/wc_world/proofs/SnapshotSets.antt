-- What the Sets and the Kepts of a snapshot leave: each record as it was.
use Rattle.std.proofs.Common.{◌≡◌, ℕ, suc, ◌≤◌, nat_lt, nat_le, Bool, true, false, not, ◌&&◌, ◌||◌, ◌==◌, cond, List, [], ◌∷◌, ◌++◌, map, Option, Some, None, option_map, is_some, refl, sym, ap, ◌∙◌, arith}
use Rattle.std.specs.List.{AllByRecursion, list_all}
use Rattle.std.proofs.lemmas.Bool.{and_from, and_parts, le-leb, cond-true, ltb-true, ne_eqb}
use Rattle.std.proofs.lemmas.List.{append_assoc, append-nil, map-append, map_push}
use Rattle.wc_graph.specs.Rules.{node_of}
use Rattle.wc_graph.specs.declared.link.Link.{Link}
use Rattle.wc_state.specs.declared.context.CtxRef.{CtxRef}
use Rattle.wc_state.specs.declared.context.CtxRef.TheVariants as held
use Rattle.wc_state.specs.declared.record.Checkpoint.{Checkpoint}
use Rattle.wc_state.specs.declared.record.Part.{Part}
use Rattle.wc_state.specs.declared.record.Part.TheVariants as part
use Rattle.wc_state.specs.declared.record.ProcessRecord.{ProcessRecord}
use Rattle.wc_world.specs.declared.change.Change.{Change}
use Rattle.wc_records.specs.declared.change.SetProcess.{SetProcess}
use Rattle.wc_records.specs.declared.change.Kept.{Kept}
use Rattle.wc_world.specs.World.{World}
use Rattle.wc_world.specs.Records.{find_record, at_process, has_called, definition_in, is_calculation}
use Rattle.wc_world.specs.Applied.{after_change, source_of, started_in, set, keep}
use Rattle.wc_world.specs.Fits.{is_nil, call_fits, is_call_between, frame_fits, outline_lengths, is_process, held_fits, is_data_node, standing_fits, set_fits}
use Rattle.wc_world.specs.Accepted.{Setting, Fits, kepts, count_in, kept_of, kept_started, kept_ended, is_source, kept_fits}
use Rattle.wc_world.specs.Consistent.{Stands, is_earlier_source, source_stands}
use Rattle.wc_world.specs.Snapshot.{number_of, set_change, kept_change}
use Rattle.wc_world.proofs.SnapshotLists.{Leads, leads_nowhere, leads_to, leads_on, IsFree, Ascend, AreBelow, free_above, free_below, below_push, KeepsNumbers, free_map, find_here, at_here, number_of_found, find_map}
use Rattle.wc_world.proofs.SnapshotMade.{fresh}

-- ---- what look-ups tell of records that were made the same
some_map : {X : Type 0} (f : X → X) (o : Option X) → is_some (option_map f o) ≡ is_some o
some_map f None = refl
some_map f (Some x) = refl

-- The lists have the same processes, made the same.
abbrev pub AreMadeSame : List ProcessRecord → List ProcessRecord → Type 0
AreMadeSame rs ss = map fresh rs ≡ map fresh ss

found_same : (pid : ℕ) (rs ss : List ProcessRecord) → AreMadeSame rs ss → option_map fresh (find_record pid rs) ≡ option_map fresh (find_record pid ss)
found_same pid rs ss e = sym (find_map fresh pid rs (λ r. refl)) ∙ (ap (find_record pid) e ∙ find_map fresh pid ss (λ r. refl))

process_same : (rs ss : List ProcessRecord) → AreMadeSame rs ss → (pid : ℕ) → is_process rs pid ≡ is_process ss pid
process_same rs ss e pid = sym (some_map fresh (find_record pid rs)) ∙ (ap is_some (found_same pid rs ss e) ∙ some_map fresh (find_record pid ss))

held_same : (rs ss : List ProcessRecord) → AreMadeSame rs ss → (c : CtxRef) → held_fits rs c ≡ held_fits ss c
held_same rs ss e (held.Plain v) = refl
held_same rs ss e (held.One pid) = process_same rs ss e pid
held_same rs ss e (held.Many pids) = λ i. list_all (λ pid. process_same rs ss e pid i) pids

-- the same world but for its records and the number of batches
abbrev pub with_records : World → ℕ → List ProcessRecord → World
with_records w n rs = record { nodes = w.nodes; links = w.links; records = rs; libraries = w.libraries; batches = n }

abbrev checkpoint_by : World → ProcessRecord → Checkpoint → (CtxRef → Bool) → Bool
checkpoint_by w r c fits =
    not (is_nil c.frames)
    && (list_all (frame_fits (outline_lengths (definition_in w.libraries r.library r.definition))) c.frames
    && (list_all (λ a. has_called w.links r.node a.pid) c.awaiting
    && (list_all (λ e. fits e.1) c.ctx
    && list_all (λ o. is_data_node (node_of w.nodes o.1)) c.outputs)))

standing_same : (w : World) (n : ℕ) (rs : List ProcessRecord) (r : ProcessRecord) (p : Part) → AreMadeSame rs w.records
    → standing_fits (with_records w n rs) (fresh r) p ≡ standing_fits w r p
standing_same w n rs r part.Fresh e = refl
standing_same w n rs r (part.Chain c) e = ap (checkpoint_by w r c) (λ i x. held_same rs w.records e x i)
standing_same w n rs r (part.Job j) e = refl
standing_same w n rs r part.Over e = refl

between_same : (label : List ℕ) (a b : Option ProcessRecord) → is_call_between label (option_map fresh a) (option_map fresh b) ≡ is_call_between label a b
between_same label None b = refl
between_same label (Some r) None = refl
between_same label (Some r) (Some q) = refl

pub call_same : (rs : List ProcessRecord) (l : Link) → call_fits (map fresh rs) l ≡ call_fits rs l
call_same rs l =
    (λ i. is_call_between l.label (find_map fresh l.source rs (λ r. refl) i) (find_map fresh l.target rs (λ r. refl) i))
    ∙ between_same l.label (find_record l.source rs) (find_record l.target rs)

-- ---- each record in its turn
abbrev KeepsMade : (ProcessRecord → ProcessRecord) → Type 0
KeepsMade f = (r : ProcessRecord) → fresh (f r) ≡ fresh r

made_same : (f : ProcessRecord → ProcessRecord) (rs : List ProcessRecord) → KeepsMade f → AreMadeSame (map f rs) rs
made_same f [] k = refl
made_same f (r ∷ rs) k = λ i. k r i ∷ made_same f rs k i

made_same_append : (f g : ProcessRecord → ProcessRecord) (rs ss : List ProcessRecord) → KeepsMade f → KeepsMade g → AreMadeSame (map f rs ++ map g ss) (rs ++ ss)
made_same_append f g rs ss j k =
    map-append fresh (map f rs) (map g ss) ∙ ((λ i. made_same f rs j i ++ made_same g ss k i) ∙ sym (map-append fresh rs ss))

numbers_kept : (f : ProcessRecord → ProcessRecord) → KeepsMade f → KeepsNumbers f
numbers_kept f k r = ap (λ (x : ProcessRecord). x.node) (k r)

-- One change for each record, which turns what h made of the record into what g makes of it.
record Turn (s : Setting) (w : World) (change : ProcessRecord → Change) (step : ProcessRecord → ProcessRecord → ProcessRecord) (P : ProcessRecord → Type 0)
    (g h : ProcessRecord → ProcessRecord) : Type 0 where
  keeps : KeepsMade g
  kept : KeepsMade h
  after : (r : ProcessRecord) (n : ℕ) (rs : List ProcessRecord) → after_change s.batch (with_records w n rs) (change r) ≡ with_records w n (at_process r.node (step r) rs)
  turns : (r : ProcessRecord) → step r (h r) ≡ g r
  fits : (r : ProcessRecord) (n : ℕ) (rs : List ProcessRecord) → P r → AreMadeSame rs w.records → find_record r.node rs ≡ Some (h r) → Fits s (with_records w n rs) (change r)

in_turn : {s : Setting} {w : World} {change : ProcessRecord → Change} {step : ProcessRecord → ProcessRecord → ProcessRecord} {P : ProcessRecord → Type 0}
    {g h : ProcessRecord → ProcessRecord} → Turn s w change step P g h → (n m : ℕ) (done todo : List ProcessRecord) → done ++ todo ≡ w.records → AreBelow m done → Ascend m todo → AllByRecursion P todo
    → Leads s (with_records w n (map g done ++ map h todo)) (map change todo) (with_records w n (map g w.records))
in_turn {s} {w} {change} {step} {P} {g} {h} t n m done [] e below above all =
    leads_to (with_records w n (map g w.records)) (ap (with_records w n) (append-nil (map g done) ∙ ap (map g) (sym (append-nil done) ∙ e))) (leads_nowhere s _)
in_turn {s} {w} {change} {step} {P} {g} {h} t n m done (r ∷ rs) e below above all =
    let front : IsFree r.node (map g done) = free_map g r.node done (numbers_kept g t.keeps) (free_below r.node m done above.0 below) in
    let back : IsFree r.node (map h rs) = free_map h r.node rs (numbers_kept h t.kept) (free_above r.node (suc r.node) rs (omega arith) above.1) in
    let here : (h r).node ≡ r.node = numbers_kept h t.kept r in
    let same : AreMadeSame (map g done ++ h r ∷ map h rs) w.records = made_same_append g h done (r ∷ rs) t.keeps t.kept ∙ ap (map fresh) e in
    let found : find_record r.node (map g done ++ h r ∷ map h rs) ≡ Some (h r) = find_here r.node (map g done) (h r) (map h rs) front here in
    let moved : at_process r.node (step r) (map g done ++ h r ∷ map h rs) ≡ map g (done ++ r ∷ []) ++ map h rs =
    at_here r.node (step r) (map g done) (h r) (map h rs) front here back
    ∙ (ap (λ (q : ProcessRecord). map g done ++ q ∷ map h rs) (t.turns r)
    ∙ (sym (append_assoc (map g done) (g r ∷ []) (map h rs)) ∙ ap (λ (qs : List ProcessRecord). qs ++ map h rs) (sym (map_push g done r)))) in
    leads_on (change r) (t.fits r n _ all.0 same found) (t.after r n _ ∙ ap (with_records w n) moved)
    (in_turn t n (suc r.node) (done ++ r ∷ []) rs (append_assoc done (r ∷ []) rs ∙ e) (below_push m (suc r.node) done r (omega (arith, above.0)) (omega arith) below) above.1 all.1)

-- ---- Sets
-- the batches in which a process started and ended
abbrev pub times : ProcessRecord → Kept
times r = record { pid = r.node; started = r.started; ended = r.ended }

-- The changes are a snapshot that keeps the times of this world.
pub record IsSettingOf (w : World) (s : Setting) : Type 0 where
  pub snapshot : s.snapshot ≡ true
  pub kept : kepts s.all ≡ map times w.records
  pub count : count_in s.all ≡ w.batches

abbrev settings : ProcessRecord → SetProcess
settings r = record { pid = r.node; state = r.state; paused = r.paused; cached_from = number_of r.cached_from; fuel = r.fuel; code = r.code; part = r.part }

-- the record as its Set leaves it
abbrev pub set_up : ℕ → ProcessRecord → ProcessRecord
set_up batch r = set batch (settings r) (fresh r)

kept_of_record : (pid : ℕ) (rs : List ProcessRecord) → kept_of pid (map times rs) ≡ option_map times (find_record pid rs)
kept_of_record pid [] = refl
kept_of_record pid (r ∷ rs) = ap (λ (o : Option Kept). cond (r.node == pid) (Some (times r)) o) (kept_of_record pid rs) ∙ map_cond (r.node == pid)
  where
    map_cond : (b : Bool) → cond b (Some (times r)) (option_map times (find_record pid rs)) ≡ option_map times (cond b (Some r) (find_record pid rs))
    map_cond true = refl
    map_cond false = refl

kept_times : (w : World) (s : Setting) (pid : ℕ) (r : ProcessRecord) → IsSettingOf w s → find_record pid w.records ≡ Some r → kept_of r.node (kepts s.all) ≡ Some (times r)
kept_times w s pid r h found =
    ap (λ (n : ℕ). kept_of n (kepts s.all)) (number_of_found pid w.records r found)
    ∙ (ap (kept_of pid) h.kept ∙ (kept_of_record pid w.records ∙ ap (option_map times) found))

-- the process with this number started after that one had ended, by these kepts
abbrev is_kept_source : List Kept → ℕ → Option ProcessRecord → Bool
is_kept_source ks pid None = false
is_kept_source ks pid (Some q) = is_calculation q.kind && (nat_lt 0 (kept_ended (kept_of q.node ks)) && nat_lt (kept_ended (kept_of q.node ks)) (kept_started (kept_of pid ks)))

by_kepts : (s : Setting) (c : SetProcess) (r : ProcessRecord) (o : Option ProcessRecord) → s.snapshot ≡ true → is_source s c r o ≡ is_kept_source (kepts s.all) r.node o
by_kepts s c r None e = refl
by_kepts s c r (Some q) e =
    let ended = cond-true s.snapshot (kept_ended (kept_of q.node (kepts s.all))) q.ended e in
    let started = cond-true s.snapshot (kept_started (kept_of r.node (kepts s.all))) (started_in s.batch r c.state) e in
    λ i. is_calculation q.kind && (nat_lt 0 (ended i) && nat_lt (ended i) (started i))

source_made : (ks : List Kept) (pid : ℕ) (o : Option ProcessRecord) → is_kept_source ks pid (option_map fresh o) ≡ is_kept_source ks pid o
source_made ks pid None = refl
source_made ks pid (Some q) = refl

earlier_source : (w : World) (s : Setting) (r : ProcessRecord) (pid : ℕ) (o : Option ProcessRecord) → IsSettingOf w s → find_record r.node w.records ≡ Some r
    → find_record pid w.records ≡ o → is_earlier_source r o ≡ true → is_kept_source (kepts s.all) r.node o ≡ true
earlier_source w s r pid None h here found e = e
earlier_source w s r pid (Some q) h here found e =
    let ended : kept_ended (kept_of q.node (kepts s.all)) ≡ q.ended = ap kept_ended (kept_times w s pid q h found) in
    let started : kept_started (kept_of r.node (kepts s.all)) ≡ r.started = ap kept_started (kept_times w s r.node r h here) in
    (λ i. is_calculation q.kind && (nat_lt 0 (ended i) && nat_lt (ended i) (started i))) ∙ e

source_holds : (w : World) (s : Setting) (n : ℕ) (rs : List ProcessRecord) (c : SetProcess) (r : ProcessRecord) (o : Option ℕ) → IsSettingOf w s → AreMadeSame rs w.records
    → find_record r.node w.records ≡ Some r → source_stands w.records r o ≡ true → ((number_of o == 0) || is_source s c (fresh r) (find_record (number_of o) rs)) ≡ true
source_holds w s n rs c r None h same here e = refl
source_holds w s n rs c r (Some pid) h same here e =
    let parts = and_parts (nat_lt 0 pid) (is_earlier_source r (find_record pid w.records)) e in
    let not_zero : (pid == 0) ≡ false = ne_eqb pid 0 (λ z. omega (arith, ltb-true 0 pid parts.0)) in
    let ks = kepts s.all in
    let source : is_kept_source ks r.node (find_record pid rs) ≡ true =
    sym (source_made ks r.node (find_record pid rs))
    ∙ (ap (is_kept_source ks r.node) (found_same pid rs w.records same)
    ∙ (source_made ks r.node (find_record pid w.records) ∙ earlier_source w s r pid (find_record pid w.records) h here refl parts.1)) in
    ap (λ (b : Bool). b || is_source s c (fresh r) (find_record pid rs)) not_zero ∙ (by_kepts s c (fresh r) (find_record pid rs) h.snapshot ∙ source)

-- What is known of a record of the world: it stands, and has its number alone.
pub record IsKnown (w : World) (r : ProcessRecord) : Type 0 where
  pub stands : Stands w r
  pub here : find_record r.node w.records ≡ Some r

set_turn : (w : World) (s : Setting) → IsSettingOf w s → Turn s w set_change (λ r. set s.batch (settings r)) (IsKnown w) (set_up s.batch) fresh
set_turn w s h = record {
  keeps = λ r. refl;
  kept = λ r. refl;
  after = λ r n rs. refl;
  turns = λ r. refl;
  fits = λ r n rs known same found.
      let stands = known.stands in
      let set_fits_it : set_fits (with_records w n rs) (settings r) (fresh r) ≡ true =
      and_from _ _ stands.part (and_from _ _ stands.fails (standing_same w n rs r r.part same ∙ stands.standing)) in
      (fresh r, found, set_fits_it, source_holds w s n rs (settings r) r r.cached_from h same known.here stands.source);
}

-- ---- Kepts
-- the record as its Kept leaves it
abbrev pub kept_up : ℕ → ProcessRecord → ProcessRecord
kept_up batch r = keep (times r) (set_up batch r)

kept_holds : (w : World) (s : Setting) (r : ProcessRecord) → IsSettingOf w s → Stands w r → kept_fits s (times r) (Some (set_up s.batch r)) ≡ true
kept_holds w s r h stands =
    let within : (m : ℕ) → m ≤ w.batches → nat_le m (count_in s.all) ≡ true = λ m le. ap (nat_le m) h.count ∙ le-leb m w.batches le in
    and_from _ _ h.snapshot (and_from _ _ (within r.started stands.started) (and_from _ _ (within r.ended stands.ended) stands.ends))

kept_turn : (w : World) (s : Setting) → IsSettingOf w s → Turn s w kept_change (λ r. keep (times r)) (IsKnown w) (kept_up s.batch) (set_up s.batch)
kept_turn w s h = record {
  keeps = λ r. refl;
  kept = λ r. refl;
  after = λ r n rs. refl;
  turns = λ r. refl;
  fits = λ r n rs known same found. ap (kept_fits s (times r)) found ∙ kept_holds w s r h known.stands;
}

-- A source that stands isn't 0.
source_again : (records : List ProcessRecord) (r : ProcessRecord) (o : Option ℕ) → source_stands records r o ≡ true → source_of (number_of o) ≡ o
source_again records r None e = refl
source_again records r (Some pid) e =
    let parts = and_parts (nat_lt 0 pid) (is_earlier_source r (find_record pid records)) e in
    ap (λ (b : Bool). cond b None (Some pid)) (ne_eqb pid 0 (λ z. omega (arith, ltb-true 0 pid parts.0)))

kept_up_same : (w : World) (batch : ℕ) (r : ProcessRecord) → IsKnown w r → kept_up batch r ≡ r
kept_up_same w batch r known = λ i. record r { cached_from = source_again w.records r r.cached_from known.stands.source i }

all_same : (w : World) (batch : ℕ) (rs : List ProcessRecord) → AllByRecursion (IsKnown w) rs → map (kept_up batch) rs ≡ rs
all_same w batch [] all = refl
all_same w batch (r ∷ rs) all = λ i. kept_up_same w batch r all.0 i ∷ all_same w batch rs all.1 i

-- ---- both
pub leads_sets : (w : World) (s : Setting) (n : ℕ) → IsSettingOf w s → Ascend 0 w.records → AllByRecursion (IsKnown w) w.records
    → Leads s (with_records w n (map fresh w.records)) (map set_change w.records) (with_records w n (map (set_up s.batch) w.records))
leads_sets w s n h above all = in_turn (set_turn w s h) n 0 [] w.records refl tt above all

pub leads_kepts : (w : World) (s : Setting) (n : ℕ) → IsSettingOf w s → Ascend 0 w.records → AllByRecursion (IsKnown w) w.records
    → Leads s (with_records w n (map (set_up s.batch) w.records)) (map kept_change w.records) (with_records w n w.records)
leads_kepts w s n h above all =
    leads_to (with_records w n w.records) (ap (with_records w n) (all_same w s.batch w.records all)) (in_turn (kept_turn w s h) n 0 [] w.records refl tt above all)
