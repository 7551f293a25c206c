-- Givers are followed to the last one.
use Rattle.std.proofs.Common.{◌≡◌, ◌≢◌, ◌↔◌, ℕ, suc, ◌+◌, ◌<◌, ◌≤◌, Bool, true, false, ◌⊎◌, inl, inr, Option, Some, None, List, length, slice_index, refl, sym, ap, subst, ◌∙◌, arith}
use Rattle.std.specs.Prelude.{◌||◌, if◌then◌else◌}
use Rattle.wc_semantics.specs.Meaning.{is_killed}
use Rattle.wc_state.specs.declared.record.ProcessKind.{ProcessKind}
use Rattle.wc_state.specs.declared.record.ProcessKind.TheVariants as kind
use Rattle.wc_state.specs.declared.record.ProcessRecord.{ProcessRecord}
use Rattle.wc_world.specs.World.{World}
use Rattle.wc_world.specs.Consistent.{IsConsistent}
use Rattle.wc_world.specs.Records.{find_record}
use Rattle.wc_world.proofs.FoundRecords.{found_holds}
use Rattle.wc_world.proofs.ReachedLists.{found_node}
use Rattle.wc_machine.proofs.Frames.{records_below}
use Rattle.wc_verify.specs.Following.{Follows, here, on, EndsWithin}
use Rattle.wc_verify.specs.Givers.{AreGivers, AreLastGivers, giver, giver_at, if_job, keeps_code, number_at, number_or, recorded_giver, result_giver}
use Rattle.wc_verify.proofs.Given.{source_before, stands}

-- the process itself or its source
abbrev pub MayGive : (ProcessRecord → ℕ) → Type 0
MayGive f = (r : ProcessRecord) → (f r ≡ r.node) ⊎ (r.cached_from ≡ Some (f r))

numbered : (own : ℕ) (o source : Option ℕ) → (o ≡ None) ⊎ (o ≡ source) → (number_or own o ≡ own) ⊎ (source ≡ Some (number_or own o))
numbered own None source h = inl refl
numbered own (Some s) source (inl e) = absurd (cc)
numbered own (Some s) source (inr e) = inr (sym e)

pub may_give : MayGive giver
may_give r = at (is_killed r.state || keeps_code r)
  where
    at : (b : Bool) → ((if b then r.node else number_or r.node r.cached_from) ≡ r.node) ⊎ (r.cached_from ≡ Some (if b then r.node else number_or r.node r.cached_from))
    at true = inl refl
    at false = numbered r.node r.cached_from r.cached_from (inr refl)

of_job : (k : ProcessKind) (source : Option ℕ) → (if_job k source ≡ None) ⊎ (if_job k source ≡ source)
of_job kind.Function source = inl refl
of_job kind.Job source = inr refl
of_job kind.Chain source = inl refl

pub may_give_result : MayGive result_giver
may_give_result r = at (is_killed r.state)
  where
    at : (b : Bool) → ((if b then r.node else number_or r.node (if_job r.kind r.cached_from)) ≡ r.node)
        ⊎ (r.cached_from ≡ Some (if b then r.node else number_or r.node (if_job r.kind r.cached_from)))
    at true = inl refl
    at false = numbered r.node (if_job r.kind r.cached_from) r.cached_from (of_job r.kind r.cached_from)

pub may_give_recorded : MayGive recorded_giver
may_give_recorded r = at (is_killed r.state || keeps_code r)
  where
    at : (b : Bool) → ((if b then r.node else number_or r.node (if_job r.kind r.cached_from)) ≡ r.node)
        ⊎ (r.cached_from ≡ Some (if b then r.node else number_or r.node (if_job r.kind r.cached_from)))
    at true = inl refl
    at false = numbered r.node (if_job r.kind r.cached_from) r.cached_from (of_job r.kind r.cached_from)

-- ---- steps end

abbrev start : Option ProcessRecord → ℕ
start None = 0
start (Some r) = r.started

module _ (f : ProcessRecord → ℕ) (gives : MayGive f) (w : World) (c : IsConsistent w) where
  abbrev rank : ℕ → ℕ
  rank n = start (find_record n w.records)

  pub number_within : (n : ℕ) (r : ProcessRecord) → find_record n w.records ≡ Some r → n < length w.nodes + 1
  number_within n r found =
      let low : r.node < suc (length w.nodes) = found_holds (λ x. x.node < suc (length w.nodes)) n w.records r (records_below w.nodes w.records c.numbered) found in
      let same : r.node ≡ n = found_node n w.records r found in
      omega arith

  giver_within : (n : ℕ) (o : Option ProcessRecord) → find_record n w.records ≡ o → n < length w.nodes + 1 → number_at f n o < length w.nodes + 1
  giver_within n None found lt = lt
  giver_within n (Some r) found lt = at (gives r)
    where
      at : (f r ≡ r.node) ⊎ (r.cached_from ≡ Some (f r)) → f r < length w.nodes + 1
      at (inl e) = let same : r.node ≡ n = found_node n w.records r found in omega arith
      at (inr e) = let q = source_before w c n r (f r) found e in number_within (f r) q.0 q.1

  goes_down : (n : ℕ) (o : Option ProcessRecord) → find_record n w.records ≡ o → number_at f n o ≢ n → rank (number_at f n o) < rank n
  goes_down n None found ne = absurd (ne refl)
  goes_down n (Some r) found ne = at (gives r)
    where
      at : (f r ≡ r.node) ⊎ (r.cached_from ≡ Some (f r)) → rank (f r) < rank n
      at (inl e) = absurd (ne (e ∙ found_node n w.records r found))
      at (inr e) =
          let q = source_before w c n r (f r) found e in
          let a : rank (f r) ≡ q.0.started = ap start q.1 in
          let b : rank n ≡ r.started = ap start found in
          let less : q.0.started < r.started = q.2 in
          omega arith

  low : (n : ℕ) (o : Option ProcessRecord) → find_record n w.records ≡ o → start o ≤ w.batches
  low n None found = omega arith
  low n (Some r) found = (stands w c n r found).started

  module _ (table : List ℕ) (are : AreGivers f w table) where
    pub ends : EndsWithin w.batches table
    ends = record {
      within = λ n lt.
          let is : slice_index table n ≡ giver_at f w n = are.givers n lt in
          let size : length table ≡ length w.nodes + 1 = are.size in
          let less : giver_at f w n < length w.nodes + 1 = giver_within n (find_record n w.records) refl (omega arith) in
          omega arith;
      rank = rank;
      goes = record {
        down = λ n lt ne.
            let is : slice_index table n ≡ giver_at f w n = are.givers n lt in
            subst (λ (k : ℕ). rank k < rank n) (sym is) (goes_down n (find_record n w.records) refl (λ e. ne (is ∙ e)));
        low = λ n. low n (find_record n w.records) refl;
      };
    }

    -- what a step keeps both ways stays along the way
    pub along : (G : ℕ → Type 0) → ((n : ℕ) → G n ↔ G (giver_at f w n)) → (n m : ℕ) → n < length table → Follows table n m → G n ↔ G m
    along G keeps n m lt (here k) = (λ g. g, λ g. g)
    along G keeps n m lt (on k l rest) =
        let is : slice_index table k ≡ giver_at f w k = are.givers k lt in
        let first : G k ↔ G (slice_index table k) = subst (λ (x : ℕ). G k ↔ G x) (sym is) (keeps k) in
        let next = along G keeps (slice_index table k) l (ends.within k lt) rest in
        (λ g. next.0 (first.0 g), λ g. first.1 (next.1 g))

  module _ (lasts : List ℕ) (are : AreLastGivers f w lasts) (n : ℕ) (r : ProcessRecord) (found : find_record n w.records ≡ Some r) where
    in_table : n < length are.table
    in_table = let lt = number_within n r found in let size = are.givers.size in omega arith

    pub in_lasts : n < length lasts
    in_lasts = let lt = in_table in let size = are.ends.size in omega arith

    pub along_lasts : (G : ℕ → Type 0) → ((n : ℕ) → G n ↔ G (giver_at f w n)) → G n ↔ G (slice_index lasts n)
    along_lasts G keeps = along are.table are.givers G keeps n (slice_index lasts n) in_table (are.ends.follows n in_table)

    -- the last one is its own giver
    pub last_own : (q : ProcessRecord) → find_record (slice_index lasts n) w.records ≡ Some q → f q ≡ q.node
    last_own q there =
        let last = slice_index lasts n in
        let inside : last < length are.table = are.ends.within n in_table in
        ap (number_at f last) (sym there) ∙ sym (are.givers.givers last inside) ∙ are.ends.last n in_table ∙ sym (found_node last w.records q there)
