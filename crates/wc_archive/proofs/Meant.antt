-- The ended processes of an archive are meant: its work chains by their replays, its calculations by what is given for them.
use Rattle.std.proofs.Common.{◌≡◌, ◌≢◌, ℕ, ◌==◌, ℤ, Bool, true, false, List, [], ◌∷◌, map, Option, Some, None, ◌⊎◌, inl, inr, refl, sym, ap, subst, ◌∙◌}
use Rattle.std.specs.Prelude.{All, if◌then◌else◌, option_map, option_and_then}
use Rattle.std.proofs.lemmas.Bool.{eqb-true}
use Rattle.wc_value.specs.declared.process.JobResult.{JobResult}
use Rattle.wc_value.specs.declared.process.ProcessState.{ProcessState}
use Rattle.wc_value.specs.declared.process.ProcessState.TheVariants as state
use Rattle.wc_value.specs.declared.process.Request.{Request}
use Rattle.wc_value.specs.declared.process.Tree.{roll-Tree}
use Rattle.wc_syntax.specs.Findings.{definition_named}
use Rattle.wc_syntax.specs.declared.definition.Definition.{Definition}
use Rattle.wc_expression.specs.declared.outcome.Outcome.{Outcome}
use Rattle.wc_expression.specs.declared.outcome.Outcome.TheVariants.{Gives, Faults}
use Rattle.wc_semantics.specs.Meaning.{is_killed, killed_first, meaning}
use Rattle.wc_semantics.specs.Tables.{Table, or_else}
use Rattle.wc_semantics.specs.declared.outcomes.Parsed.{Parsed}
use Rattle.wc_semantics.specs.declared.progress.Answer.{Answer}
use Rattle.wc_semantics.specs.declared.progress.Answer.TheVariants.{Gave}
use Rattle.wc_state.specs.declared.record.ProcessKind.{ProcessKind}
use Rattle.wc_state.specs.declared.record.ProcessKind.TheVariants as kind
use Rattle.wc_state.specs.declared.record.ProcessRecord.{ProcessRecord}
use Rattle.wc_world.specs.World.{World}
use Rattle.wc_world.specs.Consistent.{IsConsistent}
use Rattle.wc_world.specs.Fits.{calls_from, is_of_kind}
use Rattle.wc_world.specs.Records.{find_record, has_ended, is_calculation, library_at}
use Rattle.wc_world.specs.Trees.{tree_with}
use Rattle.wc_world.proofs.FoundRecords.{found_holds}
use Rattle.wc_machine.specs.Agreement.{Agrees}
use Rattle.wc_machine.specs.Created.{GivenFor, IsCreatedByInputs, IsGiven}
use Rattle.wc_machine.specs.Created as created
use Rattle.wc_machine.specs.Paths.{cut_after, kills}
use Rattle.wc_machine.specs.Recorded.{its_definition, recorded_inputs, recorded_outputs, recorded_request, retrieved_folder, HasResult}
use Rattle.wc_machine.specs.Recorded as recorded
use Rattle.wc_machine.specs.Rest.{levels_of}
use Rattle.wc_machine.specs.Results.{asks, by_code, by_kind, by_origin, by_record, request_at, result_of, result_within, rows_among, with_folder, HasResultsByRequest}
use Rattle.wc_machine.specs.Sound.{IsMeant}
use Rattle.wc_machine.proofs.Frames.{calls_before}
use Rattle.wc_machine.proofs.Requests.{request_same, request_itself}
use Rattle.wc_soundness.proofs.Calculations.{calls_nothing, leaf_recorded}
use Rattle.wc_soundness.proofs.Given.{KeepsSources, given_is_meant, one_found}
use Rattle.wc_soundness.proofs.KilledTrees.{killed_before}
use Rattle.wc_subworlds.proofs.Asked.{is_meant}
use Rattle.wc_subworlds.proofs.Found.{result_is_recorded}
use Rattle.wc_subworlds.proofs.Parts.{its_number}
use Rattle.wc_archive.specs.Good.{AreGoodChains, IsGoodChain, IsGoodProcess, results_in}

-- ---- results by request

abbrev IsAmong : ℕ → List ℕ → Type 0
IsAmong a [] = ⊥
IsAmong a (b ∷ rest) = (a ≡ b) ⊎ IsAmong a rest

asked_is : (q : Request) (o : Option (Outcome Request)) → asks q o ≡ true → o ≡ Some (Gives q)
asked_is q None h = absurd (cc)
asked_is q (Some (Gives r)) h = ap (λ (x : Request). Some (Gives x)) (request_same r q h)
asked_is q (Some (Faults reason)) h = absurd (cc)

is_asked : (q : Request) (o : Option (Outcome Request)) → o ≡ Some (Gives q) → asks q o ≡ true
is_asked q o h = ap (asks q) h ∙ request_itself q

module _ (asked : ℕ → Option (Outcome Request)) (given : ℕ → Option JobResult) where
  -- where each that asked this was given the same, the rows have it
  rows_have : (pids : List ℕ) (q : Request) (y : JobResult)
      → ((b : ℕ) → IsAmong b pids → (x : JobResult) → asked b ≡ Some (Gives q) → given b ≡ Some x → x ≡ y)
      → (a : ℕ) → IsAmong a pids → asked a ≡ Some (Gives q) → given a ≡ Some y → rows_among asked given pids q ≡ Some y
  rows_have [] q y one a among f g = absurd among
  rows_have (p ∷ ps) q y one a among f g =
      by_test (asks q (asked p)) refl (given p) refl among (λ rest. rows_have ps q y (λ b m. one b (inr m)) a rest f g)
    where
      by_test : (b : Bool) → asks q (asked p) ≡ b → (o : Option JobResult) → given p ≡ o → (a ≡ p) ⊎ IsAmong a ps
          → (IsAmong a ps → rows_among asked given ps q ≡ Some y)
          → (if b then or_else o (rows_among asked given ps q) else rows_among asked given ps q) ≡ Some y
      by_test true t (Some x) h m next = ap (λ (z : JobResult). Some z) (one p (inl refl) x (asked_is q (asked p) t) h)
      by_test true t None h (inl e) next = let i : given a ≡ None = ap given e ∙ h in absurd (cc (i, g))
      by_test true t None h (inr m) next = next m
      by_test false t o h (inl e) next =
          let i : asks q (asked p) ≡ true = is_asked q (asked p) (ap asked (sym e) ∙ f) in absurd (cc (i, t))
      by_test false t o h (inr m) next = next m

-- ---- the processes of a world

abbrev numbers : World → List ℕ
numbers w = map (λ r. r.node) w.records

among_by_test : (b : Bool) (pid : ℕ) (r q : ProcessRecord) (rs : List ProcessRecord) → (r.node == pid) ≡ b
    → (find_record pid rs ≡ Some q → IsAmong pid (map (λ x. x.node) rs)) → (if b then Some r else find_record pid rs) ≡ Some q
    → IsAmong pid (map (λ x. x.node) (r ∷ rs))
among_by_test true pid r q rs t next h = inl (sym (eqb-true r.node pid t))
among_by_test false pid r q rs t next h = inr (next h)

found_among : (pid : ℕ) (rs : List ProcessRecord) (q : ProcessRecord) → find_record pid rs ≡ Some q → IsAmong pid (map (λ x. x.node) rs)
found_among pid [] q h = absurd (cc)
found_among pid (r ∷ rs) q h = among_by_test (r.node == pid) pid r q rs refl (found_among pid rs q) h

-- what asked has a record
asked_record : (w : World) (a : ℕ) (q : Request) → request_at w a ≡ Some (Gives q)
    → (r : ProcessRecord) × (find_record a w.records ≡ Some r) × (recorded_request w r ≡ Some (Gives q))
asked_record w a q h = at (find_record a w.records) refl h
  where
    at : (o : Option ProcessRecord) → find_record a w.records ≡ o → option_and_then (recorded_request w) o ≡ Some (Gives q)
        → (r : ProcessRecord) × (find_record a w.records ≡ Some r) × (recorded_request w r ≡ Some (Gives q))
    at None h e = absurd (cc)
    at (Some r) h e = (r, h, e)

at_number : (w : World) (r : ProcessRecord) (q : Request) → find_record r.node w.records ≡ Some r → recorded_request w r ≡ Some (Gives q)
    → request_at w r.node ≡ Some (Gives q)
at_number w r q found asked = ap (option_and_then (recorded_request w)) found ∙ asked

-- a process without a source has the result that is found
pub own_found : (w : World) → All (λ r. r.cached_from ≡ None) w.records → (pid : ℕ) (x : JobResult) → HasResult w pid x → result_of w pid ≡ Some x
unfolding result_of
own_found w bare pid x (recorded.own r code files found is_job c folder) =
    ap (λ (o : Option ProcessRecord). by_origin (result_within w.batches w) (by_record w o)) found
    ∙ ap (λ (k : ProcessKind). by_origin (result_within w.batches w) (by_kind w r k)) is_job
    ∙ ap (λ (o : Option ℤ). by_origin (result_within w.batches w) (by_code w r o)) c
    ∙ ap (λ o. by_origin (result_within w.batches w) (with_folder code o)) folder
own_found w bare pid x (recorded.cached r source y found is_job alive from has) =
    let none : r.cached_from ≡ None = found_holds (λ z. z.cached_from ≡ None) r.node w.records r bare found in
    let no : None ≡ Some source = sym none ∙ from in
    absurd (cc no)

module _ (w : World) (bare : All (λ r. r.cached_from ≡ None) w.records) (same : HasResultsByRequest w) where
  same_as : (r : ProcessRecord) (q : Request) (y : JobResult) → find_record r.node w.records ≡ Some r → recorded_request w r ≡ Some (Gives q) → HasResult w r.node y
      → (b : ℕ) → IsAmong b (numbers w) → (x : JobResult) → request_at w b ≡ Some (Gives q) → result_of w b ≡ Some x → x ≡ y
  same_as r q y found asked has b among x as_well given =
      let s = asked_record w b q as_well in
      let number : s.0.node ≡ b = its_number b w.records s.0 s.1 in
      let there : find_record s.0.node w.records ≡ Some s.0 = ap (λ (n : ℕ). find_record n w.records) number ∙ s.1 in
      let has_too : HasResult w s.0.node x = subst (λ (n : ℕ). HasResult w n x) (sym number) (result_is_recorded w b x given) in
      same s.0 r there found q x y s.2 asked has_too has

  -- so the results by request agree with each process
  pub results_agree : (pid : ℕ) → Agrees (results_in w) w pid
  results_agree pid path r q y leads found asked has =
      rows_have (request_at w) (result_of w) (numbers w) q y (same_as r q y found asked has) r.node (found_among r.node w.records r found)
      (at_number w r q found asked) (own_found w bare r.node y has)

-- ---- killed calculations

killed_so : (s : ProcessState) → s ≡ state.Killed → is_killed s ≡ true
killed_so s h = ap is_killed h

-- nothing but an end with no outputs is given for what was killed
killed_given : (w : World) (pid : ℕ) (p : Parsed) → GivenFor w pid p → (r : ProcessRecord) → find_record pid w.records ≡ Some r → r.state ≡ state.Killed → p.outputs ≡ []
killed_given w pid p (created.killed q f dead none) r found is = refl
killed_given w pid p (created.cached q source x f alive none from g) r found is =
    absurd (alive (ap (λ (y : ProcessRecord). y.state) (one_found (find_record q.node w.records) q r f found) ∙ is))
killed_given w pid p (created.function q fn f alive none d) r found is =
    absurd (alive (ap (λ (y : ProcessRecord). y.state) (one_found (find_record q.node w.records) q r f found) ∙ is))
killed_given w pid p (created.job q j x code files f alive none d c folder asked) r found is =
    absurd (alive (ap (λ (y : ProcessRecord). y.state) (one_found (find_record q.node w.records) q r f found) ∙ is))
killed_given w pid p (created.no_request q j reason f alive none d c asked) r found is =
    absurd (alive (ap (λ (y : ProcessRecord). y.state) (one_found (find_record q.node w.records) q r f found) ∙ is))

module _ (w : World) (c : IsConsistent w) (r : ProcessRecord) (found : find_record r.node w.records ≡ Some r) (calculates : is_calculation r.kind ≡ true) (dead : r.state ≡ state.Killed) where
  cut_first : kills w r.node [] ≡ Some 0
  cut_first =
      ap (option_and_then (cut_after w)) found
      ∙ ap (λ (b : Bool). if b then Some (calls_from r.node w.links) else None) (killed_so r.state dead)
      ∙ ap (λ (n : ℕ). Some n) (calls_before r.node [] w.links (calls_nothing w c r found calculates))

  means_killed : (table : Table) (d : Definition) (o : Option (List Definition)) → option_and_then (definition_named r.definition) o ≡ Some d
      → option_map (λ library. meaning (levels_of r) library table (kills w r.node) r.fuel r.definition (recorded_inputs w r.node)) o ≡ Some (Gave (killed_first r.definition) r.fuel)
  means_killed table d None h = absurd (cc h)
  means_killed table d (Some library) h =
      ap (λ (x : Answer). Some x) (killed_before (levels_of r) library table (kills w r.node) r.fuel r.definition (recorded_inputs w r.node) cut_first)

  pub killed_is_meant : (d : Definition) → its_definition w r ≡ Some d → IsGiven w r → IsMeant w r
  killed_is_meant d is given table agrees =
      let none : recorded_outputs w r.node ≡ [] = given.3 ∙ killed_given w r.node given.0 given.1 r found dead in
      let s : state.Killed ≡ r.state = sym dead in
      let o : [] ≡ recorded_outputs w r.node = sym none in (
        tree_with r (recorded_outputs w r.node) [],
        leaf_recorded w r found (calls_nothing w c r found calculates),
        (
          killed_first r.definition,
          r.fuel,
          means_killed table d (library_at w.libraries r.library) is,
          (λ i. roll-Tree (record { definition = r.definition; state = s i; outputs = o i; calls = [] })),
        ),
      )

-- ---- all

killed_or_not : (s : ProcessState) → (s ≡ state.Killed) ⊎ (s ≢ state.Killed)
killed_or_not state.Created = inr (λ e. absurd (cc e))
killed_or_not state.Running = inr (λ e. absurd (cc e))
killed_or_not state.Waiting = inr (λ e. absurd (cc e))
killed_or_not (state.Finished n) = inr (λ e. absurd (cc e))
killed_or_not (state.Excepted r) = inr (λ e. absurd (cc e))
killed_or_not state.Killed = inl refl

defined_so : (k : ProcessKind) (o : Option Definition) → is_of_kind k o ≡ true → (d : Definition) × (o ≡ Some d)
defined_so k None h = absurd (cc h)
defined_so k (Some d) h = (d, refl)

module _ (w : World) (k : KeepsSources w) (bare : All (λ r. r.cached_from ≡ None) w.records) (good : All (IsGoodProcess w) w.records) (results : HasResultsByRequest w)
    (values : IsCreatedByInputs w) (chains : AreGoodChains w) where
  module _ (r : ProcessRecord) (found : find_record r.node w.records ≡ Some r) where
    its_good : IsGoodProcess w r
    its_good = found_holds (IsGoodProcess w) r.node w.records r good found

    chain_is_meant : r.kind ≡ kind.Chain → IsMeant w r
    chain_is_meant is =
        let c : IsGoodChain w r = found_holds (λ x. x.kind ≡ kind.Chain → IsGoodChain w x) r.node w.records r chains found is in
        is_meant w k.consistent (λ i d lt. (good i d lt).placed.numbered) r (results_in w) found
        (record { agrees = results_agree w bare results r.node; replayed = c.replayed; left = c.left; gives = c.gives; tree = c.tree; asked = c.asked })

    calculation_is_meant : is_calculation r.kind ≡ true → IsMeant w r
    calculation_is_meant calculates =
        let given : IsGiven w r = found_holds (λ x. is_calculation x.kind ≡ true → has_ended x.state ≡ true → IsGiven w x) r.node w.records r values.ended found calculates its_good.ended in
        let d = defined_so r.kind (its_definition w r) its_good.defined in
        by (killed_or_not r.state) given d
      where
        by : (r.state ≡ state.Killed) ⊎ (r.state ≢ state.Killed) → IsGiven w r → ((d : Definition) × (its_definition w r ≡ Some d)) → IsMeant w r
        by (inl dead) given d = killed_is_meant w k.consistent r found calculates dead d.0 d.1 given
        by (inr alive) given d = given_is_meant w k r given.0 d.0 found calculates alive d.1 given.1 given.2 given.3

    pub ended_is_meant : IsMeant w r
    ended_is_meant = by r.kind refl
      where
        by : (x : ProcessKind) → r.kind ≡ x → IsMeant w r
        by kind.Function e = calculation_is_meant (ap is_calculation e)
        by kind.Job e = calculation_is_meant (ap is_calculation e)
        by kind.Chain e = chain_is_meant e
