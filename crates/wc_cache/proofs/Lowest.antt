-- The lowest source is the first one of a list in the order of the entries.
use Rattle.std.proofs.Common.{◌≡◌, ℕ, zero, suc, ◌+◌, ◌<◌, ◌≤◌, Bool, true, false, List, [], ◌∷◌, length, take, get_or, Option, Some, None, inl, inr, refl, ap, sym, subst, ◌∙◌, arith}
use Rattle.std.specs.Prelude.{All, IsSome, if◌then◌else◌, ◌==◌, ◌||◌, ◌⊎◌, option_map, option_and_then}
use Rattle.std.specs.Borrow.{Bor}
use Rattle.std.specs.Option.{option_copied}
use Rattle.std.specs.Str.{bytes_eq}
use Rattle.std.proofs.lemmas.Bool.{eqb-true, and_parts, and_from}
use Rattle.std.proofs.lemmas.List.{get_or_default, get_or-take, length-take}
use Rattle.std.proofs.lemmas.List.Elements.{All-more, All-weaker}
use Rattle.std.proofs.lemmas.Slice.Eq.{bytes_eq-Decides}
use Rattle.sha2.specs.Sha256.{sha256}
use Rattle.wc_value.specs.Spelling.{spelling}
use Rattle.wc_value.proofs.Puts.{same_name}
use Rattle.wc_syntax.specs.Printing.{printed_definition}
use Rattle.wc_keys.specs.declared.entries.Sealed.{Sealed}
use Rattle.wc_keys.specs.SealKeys.{key_value}
use Rattle.wc_keys.specs.Order.{is_seal, is_in, has_digest, IsPartOf}
use Rattle.wc_keys.proofs.Exact.{places_rise}
use Rattle.wc_keys.proofs.Orders.{seal_tests}
use Rattle.wc_state.specs.declared.record.ProcessRecord.{ProcessRecord}
use Rattle.wc_world.specs.World.{World}
use Rattle.wc_world.specs.Consistent.{IsConsistent}
use Rattle.wc_world.specs.Records.{find_record, is_calculation}
use Rattle.wc_world.specs.Keys.{recorded_inputs, has_finished, is_finished_calculation, key_in, digest_in, digest_at}
use Rattle.wc_world.proofs.ReachedLists.{unique}
use Rattle.wc_machine.specs.Ends.{TakesSource}
use Rattle.wc_machine.specs.Sources.{IsLowestSource, IsSourceFor}
use Rattle.wc_cache.specs.Sources.{IsLowestWith, IsSourceWith}
use Rattle.wc_cache.specs.Keys.{IsKeyOf}
use Rattle.wc_cache.proofs.Parts.{key_over, same_key}

-- what is there behind a reference is there
pub copied_there : {T : Type 0} (o : Option (Bor T)) → IsSome (option_copied o) → IsSome o
copied_there None h = h
copied_there (Some x) h = refl

-- ---- an entry for each source

-- an entry stands at a place
abbrev StandsAt : List Sealed → ℕ → Type 0
StandsAt seals pid = (k : ℕ) × (s : Sealed) × (k < length seals) × (get_or seals k s ≡ s) × (s.pid ≡ pid)

stands_at : (digest : List ℕ) (pid : ℕ) (seals : List Sealed) → is_in digest pid seals ≡ true → StandsAt seals pid
stands_at digest pid [] h = absurd (cc)
stands_at digest pid (x ∷ xs) h = told (is_seal digest pid x) refl h (λ rest. stands_at digest pid xs rest)
  where
    told : (b : Bool) → is_seal digest pid x ≡ b → (b || is_in digest pid xs) ≡ true → (is_in digest pid xs ≡ true → StandsAt xs pid) → StandsAt (x ∷ xs) pid
    told true is _ _ = (zero, x, omega arith, refl, eqb-true x.pid pid (and_parts (bytes_eq x.digest digest) (x.pid == pid) is).1)
    told false _ rest later = let more = later rest in let lt = more.2 in (suc more.0, more.1, omega (arith, lt), more.3, more.4)

is_there_at : (seals : List Sealed) (i : ℕ) (s : Sealed) → i < length seals → s ≡ get_or seals i s → is_in s.digest s.pid seals ≡ true
is_there_at [] i s lt is = absurd (omega (arith, lt))
is_there_at (x ∷ xs) zero s lt is = ap (λ (b : Bool). b || is_in s.digest s.pid xs) (ap (is_seal s.digest s.pid) (sym is) ∙ (seal_tests s).itself)
is_there_at (x ∷ xs) (suc i) s lt is = or_right (is_seal s.digest s.pid x) (is_in s.digest s.pid xs) (is_there_at xs i s (omega arith) is)
  where
    or_right : (a b : Bool) → b ≡ true → (a || b) ≡ true
    or_right true b h = refl
    or_right false b h = h

some_digest : (digest : List ℕ) (o : Option (List ℕ)) → has_digest digest o ≡ true → o ≡ Some digest
some_digest digest None h = absurd (cc)
some_digest digest (Some d) h = ap (λ (x : List ℕ). Some x) (same_name d digest h)

ordered : (a b : ℕ) → (a < b) ⊎ ((a ≡ b) ⊎ (b < a))
ordered a b = grind arith

found_one : {X : Type 0} (f : ProcessRecord → Option X) (o : Option ProcessRecord) (x : X) → option_and_then f o ≡ Some x → IsSome o
found_one f None x h = absurd (cc)
found_one f (Some r) x h = refl

module _ (w : World) (batch : ℕ) (key : List ℕ) (part : List Sealed) (h : IsPartOf (digest_at w) (sha256 key) part) where
  -- the process of each entry is there
  pub process_there : (i : ℕ) (d : Sealed) → i < length part → IsSome (find_record (get_or part i d).pid w.records)
  process_there i d lt =
      let s = get_or part i d in
      let there = is_there_at part i s lt (get_or_default part i d s lt) in
      let both = and_parts (bytes_eq s.digest (sha256 key)) (has_digest s.digest (digest_at w s.pid)) (sym (h.exact s.digest s.pid) ∙ there) in
      found_one (digest_in w) (find_record s.pid w.records) s.digest (some_digest s.digest (digest_at w s.pid) both.1)

  abbrev NoSource : ProcessRecord → Type 0
  NoSource q = IsSourceWith w batch key q → ⊥

  -- the process of an entry is no source
  abbrev NoneAt : Sealed → Type 0
  NoneAt s = (q : ProcessRecord) → find_record s.pid w.records ≡ Some q → NoSource q

  -- a source has an entry
  source_stands : (q : ProcessRecord) → find_record q.node w.records ≡ Some q → IsSourceWith w batch key q → StandsAt part q.node
  source_stands q found source =
      let k = source.1 in
      let text : key_in w q ≡ Some key
      = ap (option_map (λ d. spelling (key_value (printed_definition d) (recorded_inputs w q.node)))) k.is_definition ∙ ap (λ (b : List ℕ). Some b) (sym k.spelled.is) in
      let done : is_finished_calculation q ≡ true
      = and_from (is_calculation q.kind) (has_finished q.state) source.0.calculates (ap has_finished source.0.finished) in
      let digest : digest_at w q.node ≡ Some (sha256 key)
      = ap (option_and_then (digest_in w)) found ∙ ap (λ (b : Bool). if b then option_map sha256 (key_in w q) else None) done ∙ ap (option_map sha256) text in
      let itself : bytes_eq (sha256 key) (sha256 key) ≡ true = (bytes_eq-Decides (sha256 key) (sha256 key)).1 refl in
      stands_at (sha256 key) q.node part
      (h.exact (sha256 key) q.node
      ∙ and_from (bytes_eq (sha256 key) (sha256 key)) (has_digest (sha256 key) (digest_at w q.node)) itself (ap (has_digest (sha256 key)) digest ∙ itself))

  -- a source isn't among entries that aren't
  not_before : (i : ℕ) (q : ProcessRecord) → find_record q.node w.records ≡ Some q → IsSourceWith w batch key q → All NoneAt (take i part) → (at : StandsAt part q.node) → at.0 < i → ⊥
  not_before i q found source none at lt =
      let within = at.2 in
      let here : get_or (take i part) at.0 at.1 ≡ at.1 = get_or-take i part at.0 at.1 lt ∙ at.3 in
      let short : at.0 < length (take i part) = omega (arith, length-take i part, lt, within) in
      let never : NoneAt at.1 = subst NoneAt here (none at.0 at.1 short) in
      never q (ap (λ (n : ℕ). find_record n w.records) at.4 ∙ found) source

  pub none_yet : (i : ℕ) (d : Sealed) (q : ProcessRecord) → i < length part → All NoneAt (take i part) → find_record (get_or part i d).pid w.records ≡ Some q → NoSource q
      → All NoneAt (take (i + 1) part)
  none_yet i d q lt none found never = All-more NoneAt part i d lt none (λ p e. let same : q ≡ p = cc in subst NoSource same never)

  module _ (consistent : IsConsistent w) where
    -- each record is found by its number
    each_found : (k : ℕ) (d : ProcessRecord) → k < length w.records → find_record (get_or w.records k d).node w.records ≡ Some (get_or w.records k d)
    each_found k d lt = unique 1 w.nodes w.records consistent.numbered k d lt

    pub none_found : (i : ℕ) → length part ≤ i → All NoneAt (take i part) → IsLowestWith w batch key None
    none_found i le none = λ k d lt source.
        let q = get_or w.records k d in
        let at = source_stands q (each_found k d lt) source in
        let within = at.2 in
        not_before i q (each_found k d lt) source none at (omega (arith, within, le))

    pub first_found : (i : ℕ) (d : Sealed) (q : ProcessRecord) → i < length part → All NoneAt (take i part) → find_record (get_or part i d).pid w.records ≡ Some q
        → IsSourceWith w batch key q → IsLowestWith w batch key (Some (get_or part i d).pid)
    first_found i d q lt none found source = (
      (q, found, source),
      λ k e within small other.
          let p = get_or w.records k e in
          let at = source_stands p (each_found k e within) other in
          not_before i p (each_found k e within) other none at (before_it p at small),
    )
      where
        before_it : (p : ProcessRecord) → (at : StandsAt part p.node) → p.node < (get_or part i d).pid → at.0 < i
        before_it p at small =
            let within = at.2 in
            let there : (get_or part at.0 d).pid ≡ p.node = ap (λ (x : Sealed). x.pid) (get_or_default part at.0 d at.1 within ∙ at.3) ∙ at.4 in
            elim (ordered at.0 i) [
              | inl lt ↦ lt
              | inr other ↦
                  elim other [
                    | inl same ↦ absurd (let e : (get_or part at.0 d).pid ≡ (get_or part i d).pid = ap (λ (n : ℕ). (get_or part n d).pid) same in omega (arith, e, there, small))
                    | inr behind ↦ absurd (omega (arith, places_rise part i at.0 d h.ascending behind within, there, small))
                  ]
            ]

-- ---- the lowest source of a process with the key

module _ (w : World) (batch : ℕ) (key : List ℕ) (r : ProcessRecord) (has : IsKeyOf w r key) where
  with_key : (q : ProcessRecord) → IsSourceFor w batch r q → IsSourceWith w batch key q
  with_key q h = (h.0, key_over w r q key h.1 has)

  is_for : (q : ProcessRecord) → IsSourceWith w batch key q → IsSourceFor w batch r q
  is_for q h = (h.0, same_key w r q key has h.1)

  pub lowest_for : (s : Option ℕ) → IsLowestWith w batch key s → IsLowestSource w batch r s
  lowest_for None h =
      All-weaker (λ q. IsSourceWith w batch key q → ⊥) (λ q. IsSourceFor w batch r q → ⊥) (λ q never is. never (with_key q is)) w.records h
  lowest_for (Some s) h = (
    (h.0.0, h.0.1, is_for h.0.0 h.0.2),
    All-weaker (λ q. q.node < s → IsSourceWith w batch key q → ⊥) (λ q. q.node < s → IsSourceFor w batch r q → ⊥)
        (λ q never small is. never small (with_key q is)) w.records h.1,
  )

-- ---- what a start takes

pub takes_none : (w : World) (r : ProcessRecord) → r.caching ≡ false → TakesSource w r None
takes_none w r h = record { on = λ e. absurd (cc (e, h)); off = λ e. refl }

pub takes_lowest : (w : World) (r : ProcessRecord) (s : Option ℕ) → r.caching ≡ true → IsLowestSource w (w.batches + 1) r s → TakesSource w r s
takes_lowest w r s h is = record { on = λ e. is; off = λ e. absurd (cc (e, h)) }
