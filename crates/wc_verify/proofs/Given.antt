-- What is given for a process is given for the last of its givers, who took no other's outcome.
use Rattle.std.proofs.Common.{◌≡◌, ◌≢◌, ◌↔◌, ℕ, ℤ, ◌<◌, ◌≤◌, Bool, true, false, Option, Some, None, refl, sym, ap, subst, ◌∙◌, arith}
use Rattle.std.specs.Prelude.{◌||◌, if◌then◌else◌, is_some, nat_lt, nat_le, ◌&&◌, ◌==◌, option_map}
use Rattle.std.proofs.lemmas.Bool.{eqb-true, ltb-true, leb-true}
use Rattle.wc_value.specs.declared.process.ProcessState.{ProcessState}
use Rattle.wc_value.specs.declared.process.ProcessState.TheVariants as state
use Rattle.wc_value.specs.declared.process.Request.{Request}
use Rattle.wc_syntax.specs.Bare.{bare_definition, bare_job}
use Rattle.wc_syntax.specs.declared.definition.Definition.{Definition}
use Rattle.wc_syntax.specs.declared.definition.Definition.TheVariants as definition
use Rattle.wc_syntax.specs.declared.definition.Job.{Job}
use Rattle.wc_expression.specs.declared.outcome.Outcome.{Outcome}
use Rattle.wc_expression.specs.declared.outcome.Outcome.TheVariants.{Gives, Faults}
use Rattle.wc_semantics.specs.declared.outcomes.Parsed.{Parsed}
use Rattle.wc_semantics.specs.Rules.{Values}
use Rattle.wc_semantics.specs.Requests.{request}
use Rattle.wc_semantics.specs.Outcomes.{calculated, parsed}
use Rattle.wc_semantics.proofs.BareCalculations.{calculated_bare, parsed_bare, request_bare}
use Rattle.wc_semantics.specs.Meaning.{is_killed}
use Rattle.wc_state.specs.declared.record.ProcessKind.{ProcessKind}
use Rattle.wc_state.specs.declared.record.ProcessKind.TheVariants as kind
use Rattle.wc_state.specs.declared.record.ProcessRecord.{ProcessRecord}
use Rattle.wc_world.specs.World.{World}
use Rattle.wc_world.specs.Consistent.{IsConsistent, Stands, is_earlier_source, source_stands}
use Rattle.wc_world.specs.Records.{find_record, has_ended, is_calculation}
use Rattle.wc_world.proofs.FoundRecords.{found_holds, left, right}
use Rattle.wc_world.proofs.ReachedLists.{found_node}
use Rattle.wc_machine.specs.Created.{KeepsNoCode, GivenFor, killed, cached, function, job, no_request, killed_outcome}
use Rattle.wc_machine.specs.Recorded.{Contents, its_definition, recorded_inputs, request_by, result_with, retrieved_folder}
use Rattle.wc_verify.specs.Givers.{code_kept, given_alone, given_by, giver, giver_at, job_given, keeps_code, number_at, number_or, unless_sourced, when_asked, when_unasked, with_files}

-- ---- states and codes

pub killed_is : (s : ProcessState) → is_killed s ≡ true → s ≡ state.Killed
killed_is state.Created h = absurd (cc)
killed_is state.Running h = absurd (cc)
killed_is state.Waiting h = absurd (cc)
killed_is (state.Finished n) h = absurd (cc)
killed_is (state.Excepted r) h = absurd (cc)
killed_is state.Killed h = refl

pub alive_is : (s : ProcessState) → s ≢ state.Killed → is_killed s ≡ false
alive_is state.Created h = refl
alive_is state.Running h = refl
alive_is state.Waiting h = refl
alive_is (state.Finished n) h = refl
alive_is (state.Excepted r) h = refl
alive_is state.Killed h = absurd (h refl)

pub not_killed : (s : ProcessState) → is_killed s ≡ false → s ≢ state.Killed
not_killed s h e = let k : is_killed s ≡ true = ap is_killed e in absurd (cc (k, h))

none_kept : (code : Option ℤ) → is_some code ≡ false → code ≡ None
none_kept None h = refl
none_kept (Some code) h = absurd (cc)

code_none : (k : ProcessKind) (code : Option ℤ) → code_kept k code ≡ false → k ≡ kind.Job → code ≡ None
code_none kind.Function code h e = absurd (cc)
code_none kind.Job code h e = none_kept code h
code_none kind.Chain code h e = absurd (cc)

none_code : (k : ProcessKind) (code : Option ℤ) → (k ≡ kind.Job → code ≡ None) → code_kept k code ≡ false
none_code kind.Function code h = refl
none_code kind.Job code h = ap is_some (h refl)
none_code kind.Chain code h = refl

pub keeps_none : (r : ProcessRecord) → keeps_code r ≡ false → KeepsNoCode r
keeps_none r h = code_none r.kind r.code h

pub none_keeps : (r : ProcessRecord) → KeepsNoCode r → keeps_code r ≡ false
none_keeps r h = none_code r.kind r.code h

pub one_found : (o : Option ProcessRecord) (r q : ProcessRecord) → o ≡ Some r → o ≡ Some q → q ≡ r
one_found o r q h k = let e : Some q ≡ Some r = sym k ∙ h in cc

neither : (a b : Bool) → a || b ≡ false → (a ≡ false) × (b ≡ false)
neither true b h = absurd (cc)
neither false b h = (refl, h)

-- ---- sources

abbrev pub HasEarlierSource : World → ProcessRecord → ℕ → Type 0
HasEarlierSource w r source = (q : ProcessRecord) × (find_record source w.records ≡ Some q) × (0 < q.ended) × (q.ended < r.started)

pub earlier_source : (w : World) (r : ProcessRecord) (source : ℕ) → Stands w r → r.cached_from ≡ Some source → HasEarlierSource w r source
earlier_source w r source s c =
    at (find_record source w.records) refl (right (nat_lt 0 source) _ (ap (λ (o : Option ℕ). source_stands w.records r o) (sym c) ∙ s.source))
  where
    at : (o : Option ProcessRecord) → find_record source w.records ≡ o → is_earlier_source r o ≡ true → HasEarlierSource w r source
    at None h e = absurd (cc)
    at (Some q) h e =
        let t = right (is_calculation q.kind) (nat_lt 0 q.ended && nat_lt q.ended r.started) e in
        (q, h, ltb-true 0 q.ended (left (nat_lt 0 q.ended) _ t), ltb-true q.ended r.started (right (nat_lt 0 q.ended) _ t))

ends_later : (r : ProcessRecord) (b : Bool) → (if b then nat_lt 0 r.ended && nat_le r.started r.ended else (r.ended == 0)) ≡ true → 0 < r.ended → r.started ≤ r.ended
ends_later r true h l = leb-true r.started r.ended (right (nat_lt 0 r.ended) _ h)
ends_later r false h l = let z : r.ended ≡ 0 = eqb-true r.ended 0 h in absurd (omega arith)

module _ (w : World) (c : IsConsistent w) where
  pub stands : (pid : ℕ) (r : ProcessRecord) → find_record pid w.records ≡ Some r → Stands w r
  stands pid r found = found_holds (Stands w) pid w.records r c.records found

  pub found_itself : (pid : ℕ) (r : ProcessRecord) → find_record pid w.records ≡ Some r → find_record r.node w.records ≡ Some r
  found_itself pid r found = ap (λ (n : ℕ). find_record n w.records) (found_node pid w.records r found) ∙ found

  -- a source started before the process that took its outcome
  pub source_before : (pid : ℕ) (r : ProcessRecord) (source : ℕ) → find_record pid w.records ≡ Some r → r.cached_from ≡ Some source
      → (q : ProcessRecord) × (find_record source w.records ≡ Some q) × (q.started < r.started)
  source_before pid r source found from =
      let e = earlier_source w r source (stands pid r found) from in
      let later : e.0.started ≤ e.0.ended = ends_later e.0 (has_ended e.0.state) (stands source e.0 e.1).ends e.2 in
      let less : e.0.ended < r.started = e.3 in
      (e.0, e.1, omega arith)

  pub no_own_source : (r : ProcessRecord) → find_record r.node w.records ≡ Some r → r.cached_from ≡ Some r.node → ⊥
  no_own_source r found from =
      let b = source_before r.node r r.node found from in
      let same : b.0 ≡ r = one_found (find_record r.node w.records) r b.0 found b.1 in
      let less : b.0.started < r.started = b.2 in
      let e : b.0.started ≡ r.started = ap (λ (x : ProcessRecord). x.started) same in
      omega arith

-- something is given for processes alone
pub given_there : (w : World) (n : ℕ) (p : Parsed) → GivenFor w n p → (r : ProcessRecord) × (find_record n w.records ≡ Some r)
given_there w n p (killed q f dead bare) = (q, f)
given_there w n p (cached q s y f live bare took g) = (q, f)
given_there w n p (function q x f live none d) = (q, f)
given_there w n p (job q j a code files f live none d is folder asked) = (q, f)
given_there w n p (no_request q j reason f live none d bare asked) = (q, f)

-- ---- one step

module _ (w : World) (n : ℕ) (r : ProcessRecord) (found : find_record n w.records ≡ Some r) where
  number : r.node ≡ n
  number = found_node n w.records r found

  own : find_record r.node w.records ≡ Some r
  own = ap (λ (k : ℕ). find_record k w.records) number ∙ found

  -- what is given for a process that took another's outcome
  from_source : (p : Parsed) (source : ℕ) → is_killed r.state ≡ false → r.cached_from ≡ Some source → GivenFor w n p → GivenFor w source p
  from_source p source alive from (killed q f dead bare) =
      let same : q ≡ r = one_found (find_record q.node w.records) r q found f in
      absurd (not_killed r.state alive (ap (λ (x : ProcessRecord). x.state) (sym same) ∙ dead))
  from_source p source alive from (cached q s y f live bare took g) =
      let same : q ≡ r = one_found (find_record q.node w.records) r q found f in
      let is : Some s ≡ Some source = sym took ∙ ap (λ (x : ProcessRecord). x.cached_from) same ∙ from in
      let number : s ≡ source = cc in
      subst (λ (k : ℕ). GivenFor w k y) number g
  from_source p source alive from (function q x f live none d) =
      let e : q.cached_from ≡ r.cached_from = ap (λ (x : ProcessRecord). x.cached_from) (one_found (find_record q.node w.records) r q found f) in absurd (cc (e, none, from))
  from_source p source alive from (job q j a code files f live none d is folder asked) =
      let e : q.cached_from ≡ r.cached_from = ap (λ (x : ProcessRecord). x.cached_from) (one_found (find_record q.node w.records) r q found f) in absurd (cc (e, none, from))
  from_source p source alive from (no_request q j reason f live none d bare asked) =
      let e : q.cached_from ≡ r.cached_from = ap (λ (x : ProcessRecord). x.cached_from) (one_found (find_record q.node w.records) r q found f) in absurd (cc (e, none, from))

  to_source : (p : Parsed) (source : ℕ) → is_killed r.state ≡ false → keeps_code r ≡ false → r.cached_from ≡ Some source → GivenFor w source p → GivenFor w n p
  to_source p source alive bare from g = subst (λ (k : ℕ). GivenFor w k p) number (cached r source p own (not_killed r.state alive) (keeps_none r bare) from g)

  by_source : (p : Parsed) (o : Option ℕ) → is_killed r.state ≡ false → keeps_code r ≡ false → r.cached_from ≡ o → GivenFor w n p ↔ GivenFor w (number_or r.node o) p
  by_source p None alive bare from = (subst (λ (k : ℕ). GivenFor w k p) (sym number), subst (λ (k : ℕ). GivenFor w k p) number)
  by_source p (Some s) alive bare from = (from_source p s alive from, to_source p s alive bare from)

  step_found : (p : Parsed) → GivenFor w n p ↔ GivenFor w (giver r) p
  step_found p = at (is_killed r.state || keeps_code r) refl
    where
      at : (b : Bool) → is_killed r.state || keeps_code r ≡ b → GivenFor w n p ↔ GivenFor w (if b then r.node else number_or r.node r.cached_from) p
      at true h = (subst (λ (k : ℕ). GivenFor w k p) (sym number), subst (λ (k : ℕ). GivenFor w k p) number)
      at false h = let both = neither (is_killed r.state) (keeps_code r) h in by_source p r.cached_from both.0 both.1 refl

pub step : (w : World) (n : ℕ) (p : Parsed) → GivenFor w n p ↔ GivenFor w (giver_at giver w n) p
step w n p = at (find_record n w.records) refl
  where
    at : (o : Option ProcessRecord) → find_record n w.records ≡ o → GivenFor w n p ↔ GivenFor w (number_at giver n o) p
    at None h = (λ g. g, λ g. g)
    at (Some r) h = step_found w n r h p

-- ---- the last giver

module _ (w : World) (r : ProcessRecord) (found : find_record r.node w.records ≡ Some r) where
  abbrev Inputs : Values
  Inputs = recorded_inputs w r.node

  asked_is : (j : Job) (code : ℤ) (files : Contents) (o : Outcome Request) (p : Parsed) → is_killed r.state ≡ false → r.cached_from ≡ None
      → its_definition w r ≡ Some (definition.Job j) → r.code ≡ Some code → retrieved_folder w r.node ≡ Some files → request j Inputs ≡ o
      → when_asked o (parsed j Inputs (result_with code files)) ≡ Some p → GivenFor w r.node p
  asked_is j code files (Gives q) p alive none d has folder asks e =
      let same : parsed j Inputs (result_with code files) ≡ p = cc in
      subst (GivenFor w r.node) same (job r j q code files found (not_killed r.state alive) none d has folder asks)
  asked_is j code files (Faults reason) p alive none d has folder asks e = absurd (cc)

  with_folder : (j : Job) (code : ℤ) (files : Option Contents) (p : Parsed) → is_killed r.state ≡ false → r.cached_from ≡ None
      → its_definition w r ≡ Some (definition.Job j) → r.code ≡ Some code → retrieved_folder w r.node ≡ files → with_files j Inputs code files ≡ Some p → GivenFor w r.node p
  with_folder j code None p alive none d has folder e = absurd (cc)
  with_folder j code (Some files) p alive none d has folder e = asked_is j code files (request j Inputs) p alive none d has folder refl e

  unasked_is : (j : Job) (o : Outcome Request) (p : Parsed) → is_killed r.state ≡ false → r.cached_from ≡ None → its_definition w r ≡ Some (definition.Job j) → r.code ≡ None
      → request j Inputs ≡ o → when_unasked o ≡ Some p → GivenFor w r.node p
  unasked_is j (Gives q) p alive none d has asks e = absurd (cc)
  unasked_is j (Faults reason) p alive none d has asks e =
      subst (GivenFor w r.node) (cc) (no_request r j reason found (not_killed r.state alive) none d has asks)

  job_is : (j : Job) (code : Option ℤ) (p : Parsed) → is_killed r.state ≡ false → r.cached_from ≡ None → its_definition w r ≡ Some (definition.Job j) → r.code ≡ code
      → job_given j Inputs code (retrieved_folder w r.node) ≡ Some p → GivenFor w r.node p
  job_is j None p alive none d has e = unasked_is j (request j Inputs) p alive none d has refl e
  job_is j (Some code) p alive none d has e = with_folder j code (retrieved_folder w r.node) p alive none d has refl e

  defined_is : (o : Option Definition) (p : Parsed) → is_killed r.state ≡ false → r.cached_from ≡ None → its_definition w r ≡ o
      → given_by o Inputs r.code (retrieved_folder w r.node) ≡ Some p → GivenFor w r.node p
  defined_is None p alive none d e = absurd (cc)
  defined_is (Some (definition.Function f)) p alive none d e =
      let same : calculated f Inputs ≡ p = cc in
      subst (GivenFor w r.node) same (function r f found (not_killed r.state alive) none d)
  defined_is (Some (definition.Job j)) p alive none d e = job_is j r.code p alive none d refl e
  defined_is (Some (definition.Chain x)) p alive none d e = absurd (cc)

  sourceless_is : (source : Option ℕ) (p : Parsed) → is_killed r.state ≡ false → r.cached_from ≡ source
      → unless_sourced source (given_by (its_definition w r) Inputs r.code (retrieved_folder w r.node)) ≡ Some p → GivenFor w r.node p
  sourceless_is None p alive none e = defined_is (its_definition w r) p alive none refl e
  sourceless_is (Some s) p alive none e = absurd (cc)

  dead_is : (b : Bool) (p : Parsed) → is_killed r.state ≡ true → keeps_code r ≡ b → (if b then None else Some killed_outcome) ≡ Some p → GivenFor w r.node p
  dead_is true p dead keeps e = absurd (cc)
  dead_is false p dead keeps e =
      let same : killed_outcome ≡ p = cc in
      subst (GivenFor w r.node) same (killed r found (killed_is r.state dead) (keeps_none r keeps))

  -- what is given for a process by itself is given for it
  pub alone_is : (p : Parsed) → given_alone w r ≡ Some p → GivenFor w r.node p
  alone_is p = at (is_killed r.state) refl
    where
      at : (b : Bool) → is_killed r.state ≡ b
          → (if b then (if keeps_code r then None else Some killed_outcome)
          else unless_sourced r.cached_from (given_by (its_definition w r) Inputs r.code (retrieved_folder w r.node))) ≡ Some p
          → GivenFor w r.node p
      at true h e = dead_is (keeps_code r) p h refl e
      at false h e = sourceless_is r.cached_from p h refl e

  alone_alive : (o : Option Definition) → is_killed r.state ≡ false → r.cached_from ≡ None → its_definition w r ≡ o
      → given_alone w r ≡ given_by o Inputs r.code (retrieved_folder w r.node)
  alone_alive o alive none d =
      (λ i. if alive i then (if keeps_code r then None else Some killed_outcome)
      else unless_sourced (none i) (given_by (d i) Inputs r.code (retrieved_folder w r.node)))

  alone_dead : is_killed r.state ≡ true → keeps_code r ≡ false → given_alone w r ≡ Some killed_outcome
  alone_dead dead bare =
      (λ i. if dead i then (if bare i then None else Some killed_outcome)
      else unless_sourced r.cached_from (given_by (its_definition w r) Inputs r.code (retrieved_folder w r.node)))

  giver_taken : (source : ℕ) → is_killed r.state ≡ false → keeps_code r ≡ false → r.cached_from ≡ Some source → giver r ≡ source
  giver_taken source alive bare from = (λ i. if alive i || bare i then r.node else number_or r.node (from i))

-- nothing else is given for one that is its own giver
module _ (w : World) (c : IsConsistent w) (pid : ℕ) (r : ProcessRecord) (found : find_record pid w.records ≡ Some r) (last : giver r ≡ r.node) where
  itself : find_record r.node w.records ≡ Some r
  itself = found_itself w c pid r found

  here : r.node ≡ pid
  here = found_node pid w.records r found

  pub only_alone : (p : Parsed) → GivenFor w pid p → given_alone w r ≡ Some p
  only_alone p (killed q f dead bare) =
      let same : q ≡ r = one_found (find_record q.node w.records) r q found f in
      alone_dead w r itself (ap is_killed (ap (λ (x : ProcessRecord). x.state) (sym same) ∙ dead)) (none_keeps r (subst KeepsNoCode same bare))
  only_alone p (cached q s y f live bare took g) =
      let same : q ≡ r = one_found (find_record q.node w.records) r q found f in
      let from : r.cached_from ≡ Some s = ap (λ (x : ProcessRecord). x.cached_from) (sym same) ∙ took in
      let taken : giver r ≡ s = giver_taken w r itself s (alive_is r.state (subst (λ (x : ProcessRecord). x.state ≢ state.Killed) same live)) (none_keeps r (subst KeepsNoCode same bare)) from in
      let own_source : r.cached_from ≡ Some r.node = from ∙ ap (λ (k : ℕ). Some k) (sym taken ∙ last) in
      absurd (no_own_source w c r itself own_source)
  only_alone p (function q x f live none d) =
      let same : q ≡ r = one_found (find_record q.node w.records) r q found f in
      alone_alive w r itself (Some (definition.Function x)) (alive_is r.state (subst (λ (y : ProcessRecord). y.state ≢ state.Killed) same live))
      (ap (λ (y : ProcessRecord). y.cached_from) (sym same) ∙ none) (subst (λ (y : ProcessRecord). its_definition w y ≡ Some (definition.Function x)) same d)
      ∙ ap (λ (y : ProcessRecord). Some (calculated x (recorded_inputs w y.node))) (sym same)
  only_alone p (job q j a code files f live none d is folder asked) =
      let same : q ≡ r = one_found (find_record q.node w.records) r q found f in
      let has : r.code ≡ Some code = ap (λ (y : ProcessRecord). y.code) (sym same) ∙ is in
      let files_are : retrieved_folder w r.node ≡ Some files = ap (λ (y : ProcessRecord). retrieved_folder w y.node) (sym same) ∙ folder in
      let asks : request j (recorded_inputs w r.node) ≡ Gives a = ap (λ (y : ProcessRecord). request j (recorded_inputs w y.node)) (sym same) ∙ asked in
      alone_alive w r itself (Some (definition.Job j)) (alive_is r.state (subst (λ (y : ProcessRecord). y.state ≢ state.Killed) same live))
      (ap (λ (y : ProcessRecord). y.cached_from) (sym same) ∙ none) (subst (λ (y : ProcessRecord). its_definition w y ≡ Some (definition.Job j)) same d)
      ∙ (λ i. job_given j (recorded_inputs w r.node) (has i) (files_are i))
      ∙ (λ i. when_asked (asks i) (parsed j (recorded_inputs w r.node) (result_with code files)))
      ∙ ap (λ (y : ProcessRecord). Some (parsed j (recorded_inputs w y.node) (result_with code files))) (sym same)
  only_alone p (no_request q j reason f live none d bare asked) =
      let same : q ≡ r = one_found (find_record q.node w.records) r q found f in
      let has : r.code ≡ None = ap (λ (y : ProcessRecord). y.code) (sym same) ∙ bare in
      let asks : request j (recorded_inputs w r.node) ≡ Faults reason = ap (λ (y : ProcessRecord). request j (recorded_inputs w y.node)) (sym same) ∙ asked in
      alone_alive w r itself (Some (definition.Job j)) (alive_is r.state (subst (λ (y : ProcessRecord). y.state ≢ state.Killed) same live))
      (ap (λ (y : ProcessRecord). y.cached_from) (sym same) ∙ none) (subst (λ (y : ProcessRecord). its_definition w y ≡ Some (definition.Job j)) same d)
      ∙ (λ i. job_given j (recorded_inputs w r.node) (has i) (retrieved_folder w r.node))
      ∙ (λ i. when_unasked (asks i))

  pub alone_exactly : (p : Parsed) → GivenFor w pid p ↔ (given_alone w r ≡ Some p)
  alone_exactly p = (only_alone p, λ e. subst (λ (k : ℕ). GivenFor w k p) here (alone_is w r itself p e))

-- ---- definitions without offsets

job_bare : (j : Job) (inputs : Values) (code : Option ℤ) (files : Option Contents) → job_given (bare_job j) inputs code files ≡ job_given j inputs code files
job_bare j inputs None files = ap when_unasked (request_bare j inputs)
job_bare j inputs (Some code) None = refl
job_bare j inputs (Some code) (Some files) = (λ i. when_asked (request_bare j inputs i) (parsed_bare j inputs (result_with code files) i))

pub given_bare : (o : Option Definition) (inputs : Values) (code : Option ℤ) (files : Option Contents) → given_by (option_map bare_definition o) inputs code files ≡ given_by o inputs code files
given_bare None inputs code files = refl
given_bare (Some (definition.Function f)) inputs code files = ap Some (calculated_bare f inputs)
given_bare (Some (definition.Job j)) inputs code files = job_bare j inputs code files
given_bare (Some (definition.Chain x)) inputs code files = refl

-- what a definition without its offsets asks
pub asked_bare : (o : Option Definition) (inputs : Values) → request_by (option_map bare_definition o) inputs ≡ request_by o inputs
asked_bare None inputs = refl
asked_bare (Some (definition.Function f)) inputs = refl
asked_bare (Some (definition.Job j)) inputs = ap Some (request_bare j inputs)
asked_bare (Some (definition.Chain x)) inputs = refl

no_source : (o : Option ℕ) → is_some o ≡ false → o ≡ None
no_source None h = refl
no_source (Some s) h = absurd (cc)

-- what is given for a process that was not killed, and took no other's outcome
pub given_by_itself : (w : World) (r : ProcessRecord) (o : Option Definition) (inputs : Values) (files : Option Contents) → is_killed r.state ≡ false
    → is_some r.cached_from ≡ false → option_map bare_definition o ≡ its_definition w r → inputs ≡ recorded_inputs w r.node → files ≡ retrieved_folder w r.node
    → given_by o inputs r.code files ≡ given_alone w r
given_by_itself w r o inputs files alive none d i f =
    sym (given_bare o inputs r.code files)
    ∙ (λ k. given_by (d k) (i k) r.code (f k))
    ∙ sym (λ k. if alive k then (if keeps_code r then None else Some killed_outcome)
    else unless_sourced (no_source r.cached_from none k) (given_by (its_definition w r) (recorded_inputs w r.node) r.code (retrieved_folder w r.node)))
