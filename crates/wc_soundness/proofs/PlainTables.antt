-- A plain table agrees with a sound world exactly where equal requests have equal recorded results.
use Rattle.std.proofs.Common.{◌≡◌, ℕ, Bool, true, false, List, [], ◌∷◌, map, Option, Some, None, ◌⊎◌, inl, inr, refl, sym, ap, subst, ◌∙◌}
use Rattle.std.specs.Prelude.{if◌then◌else◌, ◌==◌, option_and_then}
use Rattle.std.proofs.lemmas.Bool.{eqb-true}
use Rattle.wc_value.specs.declared.process.JobResult.{JobResult}
use Rattle.wc_value.specs.declared.process.Request.{Request}
use Rattle.wc_expression.specs.declared.outcome.Outcome.{Outcome}
use Rattle.wc_expression.specs.declared.outcome.Outcome.TheVariants.{Gives, Faults}
use Rattle.wc_semantics.specs.Tables.{Table, or_else}
use Rattle.wc_machine.proofs.Requests.{request_same, request_itself}
use Rattle.wc_state.specs.declared.record.ProcessRecord.{ProcessRecord}
use Rattle.wc_world.specs.World.{World}
use Rattle.wc_world.specs.Records.{find_record}
use Rattle.wc_world.proofs.ReachedLists.{found_node}
use Rattle.wc_machine.specs.Agreement.{AgreesWithWorld}
use Rattle.wc_machine.specs.Recorded.{recorded_request, HasResult}
use Rattle.wc_machine.specs.Results.{result_of, request_at, asks, rows_among, rows_of, HasResultsByRequest}
use Rattle.wc_soundness.specs.ResultLaws.{PlainTablesExactly}
use Rattle.wc_soundness.proofs.WellKept.{IsWellKept, well_kept}
use Rattle.wc_soundness.proofs.FoundResults.{found_itself, result_is_found, found_is_result}

-- ---- rows of a list, whatever was asked and given

abbrev IsAmong : ℕ → List ℕ → Type 0
IsAmong a [] = ⊥
IsAmong a (b ∷ rest) = (a ≡ b) ⊎ IsAmong a rest

asked_is : (q : Request) (o : Option (Outcome Request)) → asks q o ≡ true → o ≡ Some (Gives q)
asked_is q None h = absurd (cc)
asked_is q (Some (Gives r)) h = ap (λ (x : Request). Some (Gives x)) (request_same r q h)
asked_is q (Some (Faults reason)) h = absurd (cc)

is_asked : (q : Request) (o : Option (Outcome Request)) → o ≡ Some (Gives q) → asks q o ≡ true
is_asked q o h = ap (asks q) h ∙ request_itself q

module _ (asked : ℕ → Option (Outcome Request)) (given : ℕ → Option JobResult) where
  -- where each that asked this was given the same, the rows have it
  rows_have : (pids : List ℕ) (q : Request) (y : JobResult)
      → ((b : ℕ) → IsAmong b pids → (x : JobResult) → asked b ≡ Some (Gives q) → given b ≡ Some x → x ≡ y)
      → (a : ℕ) → IsAmong a pids → asked a ≡ Some (Gives q) → given a ≡ Some y → rows_among asked given pids q ≡ Some y
  rows_have [] q y one a among f g = absurd among
  rows_have (p ∷ ps) q y one a among f g =
      by_test (asks q (asked p)) refl (given p) refl among (λ rest. rows_have ps q y (λ b m. one b (inr m)) a rest f g)
    where
      by_test : (b : Bool) → asks q (asked p) ≡ b → (o : Option JobResult) → given p ≡ o → (a ≡ p) ⊎ IsAmong a ps
          → (IsAmong a ps → rows_among asked given ps q ≡ Some y)
          → (if b then or_else o (rows_among asked given ps q) else rows_among asked given ps q) ≡ Some y
      by_test true t (Some x) h m next = ap (λ (z : JobResult). Some z) (one p (inl refl) x (asked_is q (asked p) t) h)
      by_test true t None h (inl e) next = let i : given a ≡ None = ap given e ∙ h in absurd (cc (i, g))
      by_test true t None h (inr m) next = next m
      by_test false t o h (inl e) next =
          let i : asks q (asked p) ≡ true = is_asked q (asked p) (ap asked (sym e) ∙ f) in absurd (cc (i, t))
      by_test false t o h (inr m) next = next m

-- ---- the processes of a world

abbrev numbers : World → List ℕ
numbers w = map (λ r. r.node) w.records

among_by_test : (b : Bool) (pid : ℕ) (r q : ProcessRecord) (rs : List ProcessRecord) → (r.node == pid) ≡ b
    → (find_record pid rs ≡ Some q → IsAmong pid (map (λ x. x.node) rs)) → (if b then Some r else find_record pid rs) ≡ Some q
    → IsAmong pid (map (λ x. x.node) (r ∷ rs))
among_by_test true pid r q rs t next h = inl (sym (eqb-true r.node pid t))
among_by_test false pid r q rs t next h = inr (next h)

found_among : (pid : ℕ) (rs : List ProcessRecord) (q : ProcessRecord) → find_record pid rs ≡ Some q → IsAmong pid (map (λ x. x.node) rs)
found_among pid [] q h = absurd (cc)
found_among pid (r ∷ rs) q h = among_by_test (r.node == pid) pid r q rs refl (found_among pid rs q) h

-- what asked has a record
asked_record : (w : World) (a : ℕ) (q : Request) → request_at w a ≡ Some (Gives q)
    → (r : ProcessRecord) × (find_record a w.records ≡ Some r) × (recorded_request w r ≡ Some (Gives q))
asked_record w a q h = at (find_record a w.records) refl h
  where
    at : (o : Option ProcessRecord) → find_record a w.records ≡ o → option_and_then (recorded_request w) o ≡ Some (Gives q)
        → (r : ProcessRecord) × (find_record a w.records ≡ Some r) × (recorded_request w r ≡ Some (Gives q))
    at None h e = absurd (cc)
    at (Some r) h e = (r, h, e)

at_number : (w : World) (r : ProcessRecord) (q : Request) → find_record r.node w.records ≡ Some r → recorded_request w r ≡ Some (Gives q)
    → request_at w r.node ≡ Some (Gives q)
at_number w r q found asked = ap (option_and_then (recorded_request w)) found ∙ asked

-- a plain table that agrees has one result for a request
table_gives_one : (w : World) → (table : Table) × AgreesWithWorld table w → HasResultsByRequest w
table_gives_one w t r s found other q x y a b has as_well =
    let p : t.0 [] q ≡ Some x = t.1.1 r found [] r q x refl found a has in
    let o : t.0 [] q ≡ Some y = t.1.1 s other [] s q y refl other b as_well in
    cc

module _ (w : World) (k : IsWellKept w) (same : HasResultsByRequest w) where
  -- the first of the processes with a result for a request has that of each
  same_as : (r : ProcessRecord) (q : Request) (y : JobResult) → find_record r.node w.records ≡ Some r → recorded_request w r ≡ Some (Gives q) → HasResult w r.node y
      → (b : ℕ) → IsAmong b (numbers w) → (x : JobResult) → request_at w b ≡ Some (Gives q) → result_of w b ≡ Some x → x ≡ y
  same_as r q y found asked has b among x as_well given =
      let s = asked_record w b q as_well in
      let there : find_record s.0.node w.records ≡ Some s.0 = found_itself b w s.0 s.1 in
      let has_too : HasResult w s.0.node x
      = subst (λ (n : ℕ). HasResult w n x) (sym (found_node b w.records s.0 s.1)) (found_is_result w b x given) in
      same s.0 r there found q x y s.2 asked has_too has

  rows_agree : AgreesWithWorld (λ path. rows_of w (numbers w)) w
  rows_agree = (
    (λ path q. refl),
    λ p there path r q y leads found asked has.
        rows_have (request_at w) (result_of w) (numbers w) q y (same_as r q y found asked has) r.node (found_among r.node w.records r found)
        (at_number w r q found asked) (result_is_found w k r.node y has),
  )

pub plain_tables_exactly : PlainTablesExactly
plain_tables_exactly w s = (table_gives_one w, λ same. ((λ path. rows_of w (numbers w)), rows_agree w (well_kept w s) same))
