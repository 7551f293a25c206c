-- The lists of each world that accepted changes make fit each other.
use Rattle.std.proofs.Common.{◌≡◌, ℕ, suc, ◌+◌, ◌<◌, ◌≤◌, Bool, true, false, cond, Option, Some, None, List, [], ◌∷◌, length, get_or, inl, inr, refl, sym, subst, arith}
use Rattle.std.specs.Prelude.{All, ◌==◌, ◌&&◌}
use Rattle.std.specs.List.{list_all}
use Rattle.std.proofs.lemmas.Bool.{and_parts, cases_Bool}
use Rattle.std.proofs.lemmas.List.Elements.{All-nil, All-cons, All-same}
use Rattle.wc_graph.specs.declared.link.Link.{Link}
use Rattle.wc_graph.specs.declared.node.NodeKind.{NodeKind}
use Rattle.wc_state.specs.declared.record.ProcessRecord.{ProcessRecord}
use Rattle.wc_world.specs.declared.change.Change.{Change}
use Rattle.wc_world.specs.World.{World, empty}
use Rattle.wc_world.specs.Applied.{begun, applied}
use Rattle.wc_world.specs.Fits.{is_nil, is_settled, unsettled}
use Rattle.wc_world.specs.Accepted.{setting, IsAccepted, nothing, then_changes, is_snapshot, is_empty, is_in_order, keeps_each, made_from, kepts, is_among, count_in, how_often}
use Rattle.wc_world.specs.Consistent.{Stands, IsConsistent}
use Rattle.wc_world.specs.Laws.{ReachedIsConsistent}
use Rattle.wc_world.proofs.ReachedGrown.{Grows, same_process}
use Rattle.wc_world.proofs.ReachedSound.{FitsIn, IsSound, record_grows, sound_changed}
use Rattle.wc_world.proofs.ReachedSources.{SourceIs, source_told, source_from}
use Rattle.wc_world.proofs.ReachedCounted.{ended, NumbersFit, AreCounted, counted_changed}
use Rattle.wc_world.proofs.ReachedKept.{SourceKept, HasOneKept, HaveOneKept, AllKept, sources_changed, snapshot_changed, snapshot_counted}

-- ---- after the last change
cond_none : {X : Type 0} (b : Bool) (o : Option X) (x : X) → cond b o (Some x) ≡ None → (b ≡ true) × (o ≡ None)
cond_none true o x h = (refl, h)
cond_none false o x h = absurd (cc)

pub all_settled : (links : List Link) (rs : List ProcessRecord) → unsettled links rs ≡ None → All (λ r. is_settled links r ≡ true) rs
all_settled links [] h = All-nil (λ r. is_settled links r ≡ true)
all_settled links (r ∷ rs) h =
    let p = cond_none (is_settled links r) (unsettled links rs) r.node h in
    All-cons (λ x. is_settled links x ≡ true) r rs p.0 (all_settled links rs p.1)

stands : (batch : ℕ) (w : World) (r : ProcessRecord) → w.batches ≡ batch → FitsIn w r → NumbersFit batch r → SourceIs ended w.records r.started r.cached_from
    → is_settled w.links r ≡ true → Stands w r
stands batch w r e f n source settled = record {
  defined = f.defined;
  not_below = f.not_below;
  not_above = f.not_above;
  part = f.part;
  fails = f.fails;
  standing = f.standing;
  source = source_from w.records r r.cached_from source;
  started = let le : r.started ≤ batch = n.started in omega arith;
  ended = let le : r.ended ≤ batch = n.ended in omega arith;
  ends = n.ends;
  settled = settled;
}

consistent_from : (batch : ℕ) (w : World) → batch ≤ 4000000000 → IsSound w → AreCounted batch w → unsettled w.links w.records ≡ None → IsConsistent w
consistent_from batch w few sound h settled = record {
  few = sound.few;
  batches = let e : w.batches ≡ batch = h.batches in omega arith;
  shallow = sound.shallow;
  names = sound.names;
  numbered = sound.numbered;
  links = sound.links;
  calls = sound.calls;
  records = λ i d lt.
      stands batch w (get_or w.records i d) h.batches (sound.records i d lt) (h.numbers i d lt) (h.sources i d lt) (all_settled w.links w.records settled i d lt);
}

-- ---- before the first change
grows_begun : (w : World) → Grows w (begun w)
grows_begun w = record {
  nodes = λ id k h. h;
  calls = λ caller pid h. h;
  processes = λ pid r h. (r, h, same_process r);
  definitions = λ number name d h. h;
}

fits_in : (w : World) (r : ProcessRecord) → Stands w r → FitsIn w r
fits_in w r h = record { defined = h.defined; not_below = h.not_below; not_above = h.not_above; part = h.part; fails = h.fails; standing = h.standing }

pub sound_begun : (w : World) → IsConsistent w → IsSound (begun w)
sound_begun w h = record {
  few = h.few;
  shallow = h.shallow;
  names = h.names;
  numbered = h.numbered;
  links = h.links;
  calls = h.calls;
  records = λ i d lt. let r = get_or w.records i d in record_grows w (begun w) (grows_begun w) r (fits_in w r (h.records i d lt));
}

counted_begun : (w : World) → IsConsistent w → AreCounted (w.batches + 1) (begun w)
counted_begun w h = record {
  batches = refl;
  numbers = λ i d lt.
      let r = get_or w.records i d in
      let s : Stands w r = h.records i d lt in
      let a : r.started ≤ w.batches = s.started in
      let b : r.ended ≤ w.batches = s.ended in
      record { started = omega arith; ended = omega arith; ends = s.ends };
  sources = λ i d lt. let r = get_or w.records i d in source_told w.records r r.cached_from (h.records i d lt).source;
}

-- ---- accepted changes
nil_is : {T : Type 0} (xs : List T) → is_nil xs ≡ true → xs ≡ []
nil_is [] h = refl
nil_is (x ∷ xs) h = absurd (cc)

record Begins (w : World) (cs : List Change) : Type 0 where
  nodes : w.nodes ≡ []
  records : w.records ≡ []
  order : is_in_order cs ≡ true
  kept : list_all (λ pid. how_often pid (kepts cs) == 1) (made_from 1 cs) ≡ true

begins : (w : World) (cs : List Change) → is_snapshot w cs ≡ true → Begins w cs
begins w cs h =
    let a = and_parts (is_empty w) (is_in_order cs && keeps_each (made_from 1 cs) (kepts cs)) h in
    let b = and_parts (is_in_order cs) (keeps_each (made_from 1 cs) (kepts cs)) a.1 in
    let c = and_parts (list_all (λ pid. how_often pid (kepts cs) == 1) (made_from 1 cs)) (list_all (λ k. is_among k.pid (made_from 1 cs)) (kepts cs)) b.1 in
    let d = and_parts (is_nil w.nodes) (is_nil w.links && (is_nil w.records && (is_nil w.libraries && (w.batches == 0)))) a.0 in
    let e = and_parts (is_nil w.links) (is_nil w.records && (is_nil w.libraries && (w.batches == 0))) d.1 in
    let f = and_parts (is_nil w.records) (is_nil w.libraries && (w.batches == 0)) e.1 in
    record { nodes = nil_is w.nodes d.0; records = nil_is w.records f.0; order = b.0; kept = c.0 }

plain_consistent : (w : World) (cs : List Change) → IsConsistent w → IsAccepted w cs → is_snapshot w cs ≡ false → IsConsistent (applied w cs)
plain_consistent w cs h a plain =
    let s = setting w cs in
    let sound = sound_begun w h in
    consistent_from (w.batches + 1) (applied w cs) (let lt : w.batches < 4000000000 = a.batch in omega arith) (sound_changed s (begun w) cs sound a.each)
    (counted_changed s (begun w) cs plain (let e : s.batch ≡ w.batches + 1 = refl in omega arith) sound (counted_begun w h) a.each)
    a.settled

snapshot_consistent : (w : World) (cs : List Change) → IsConsistent w → IsAccepted w cs → is_snapshot w cs ≡ true → IsConsistent (applied w cs)
snapshot_consistent w cs h a is =
    let s = setting w cs in
    let sound = sound_begun w h in
    let b = begins w cs is in
    let kept : AllKept s (applied w cs) =
    snapshot_changed s (begun w) cs b.order refl refl sound (All-same (HasOneKept s) w.records [] b.records (All-nil (HasOneKept s)))
    (subst (λ (n : List NodeKind). HaveOneKept s (suc (length n)) cs) (sym b.nodes) b.kept) a.each in
    let sources : All (SourceKept s (applied w cs).records) (applied w cs).records =
    sources_changed s (begun w) cs is sound (All-same (SourceKept s w.records) w.records [] b.records (All-nil (SourceKept s w.records))) a.each in
    consistent_from (count_in cs) (applied w cs) kept.few (sound_changed s (begun w) cs sound a.each) (snapshot_counted s (applied w cs) kept sources) a.settled

pub accepted_is_consistent : (w : World) (cs : List Change) → IsConsistent w → IsAccepted w cs → IsConsistent (applied w cs)
accepted_is_consistent w cs h a =
    elim (cases_Bool (is_snapshot w cs)) [ inl is ↦ snapshot_consistent w cs h a is | inr plain ↦ plain_consistent w cs h a plain ]

empty_is_consistent : IsConsistent empty
empty_is_consistent = record {
  few = omega arith;
  batches = omega arith;
  shallow = λ i d lt. absurd (omega arith);
  names = λ i d lt. absurd (omega arith);
  numbered = refl;
  links = record { ends = λ i d lt. absurd (omega arith); apart = λ i j a b ne p q. absurd (cc p) };
  calls = λ i d lt. absurd (omega arith);
  records = λ i d lt. absurd (omega arith);
}

pub reached_is_consistent : ReachedIsConsistent
reached_is_consistent w nothing = empty_is_consistent
reached_is_consistent w (then_changes v cs r a) = accepted_is_consistent v cs (reached_is_consistent v r) a
