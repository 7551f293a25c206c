-- A turn of a ready process keeps a world sound.
use Rattle.std.proofs.Common.{◌≡◌, ℕ, ◌+◌, true, List, [], ◌∷◌, length, Some, None, refl, sym, ap, ◌∙◌}
use Rattle.wc_value.specs.declared.process.ProcessState.TheVariants as state
use Rattle.wc_syntax.specs.declared.definition.Function.{Function}
use Rattle.wc_syntax.specs.declared.definition.Job.{Job}
use Rattle.wc_semantics.specs.Outcomes.{parsed}
use Rattle.wc_semantics.specs.declared.outcomes.Parsed.{Parsed}
use Rattle.wc_syntax.specs.declared.definition.Definition.{Definition}
use Rattle.wc_syntax.specs.declared.definition.Definition.TheVariants as definition
use Rattle.wc_state.specs.declared.record.ProcessKind.{ProcessKind}
use Rattle.wc_state.specs.declared.record.ProcessKind.TheVariants as kind
use Rattle.wc_state.specs.declared.record.ProcessRecord.{ProcessRecord}
use Rattle.wc_world.specs.declared.change.Change.{Change}
use Rattle.wc_world.specs.World.{World}
use Rattle.wc_world.specs.Applied.{applied}
use Rattle.wc_world.specs.Consistent.{Stands}
use Rattle.wc_world.specs.Fits.{is_of_kind}
use Rattle.wc_world.specs.Records.{find_record, is_calculation}
use Rattle.wc_world.proofs.FoundRecords.{found_holds}
use Rattle.wc_machine.specs.declared.answer.TaskAnswer.{TaskAnswer}
use Rattle.wc_machine.specs.Laws.{HasPlaces}
use Rattle.wc_machine.specs.Readiness.{is_ready}
use Rattle.wc_machine.specs.Recorded.{its_definition, recorded_inputs}
use Rattle.wc_machine.specs.Sound.{IsSound}
use Rattle.wc_machine.specs.Turns.{TurnGives, job_set, calculates, clones, begins, excepts, gives_up, moves, parses, advances, binds}
use Rattle.wc_soundness.specs.Sets.{AreSafe, AreSafeWithin}
use Rattle.wc_soundness.proofs.FaultingJobs.{waiting_jobs_ask}
use Rattle.wc_soundness.proofs.Parses.{parses_safe}
use Rattle.wc_soundness.proofs.Tasks.{tasks_safe}
use Rattle.wc_turn_laws.specs.CalculationLaws.{MayStart}
use Rattle.wc_soundness.specs.CachingLaws.{GoesWell}
use Rattle.wc_soundness.proofs.CreatedTurns.{created_turns, places_of_end}
use Rattle.wc_soundness.specs.BindingLaws.{KeepsSound}
use Rattle.wc_soundness.proofs.BindingLaw.{bindings_keep_sound}
use Rattle.wc_soundness.proofs.EventAdvances.{advances_keep}
use Rattle.wc_soundness.proofs.Room.{room_before}

-- ---- forms of the laws below

-- where there is room for the nodes and the batch after them, the world keeps sound with the changes
abbrev pub Keeps : World → List Change → Type 0
Keeps w cs = HasPlaces w (length (applied w cs).nodes) → KeepsSound w cs

of_created : (w : World) (cs : List Change) → GoesWell w cs → Keeps w cs
of_created w cs g places =
    let accepted = g.accepted places in
    record { accepted = accepted; continues = g.continued; sound = g.sound accepted }

of_set : (w : World) (c : Change) → AreSafe w (c ∷ []) → Keeps w (c ∷ [])
of_set w c s places = record { accepted = s.accepted (λ e. cc e) places.batches; continues = s.continues; sound = s.sound places.batches }

of_end : (w : World) (last : ℕ) (cs : List Change) → AreSafeWithin last w cs → HasPlaces w last → KeepsSound w cs
of_end w last cs s places = record { accepted = s.accepted places; continues = s.continues; sound = s.sound places }

-- ---- kinds

pub function_calculates : (f : Function) (k : ProcessKind) → is_of_kind k (Some (definition.Function f)) ≡ true → is_calculation k ≡ true
function_calculates f kind.Function h = refl
function_calculates f kind.Job h = absurd (cc)
function_calculates f kind.Chain h = absurd (cc)

pub job_calculates : (j : Job) (k : ProcessKind) → is_of_kind k (Some (definition.Job j)) ≡ true → is_calculation k ≡ true
job_calculates j kind.Function h = absurd (cc)
job_calculates j kind.Job h = refl
job_calculates j kind.Chain h = absurd (cc)

-- ---- turns

module _ (poll now : ℕ) (w : World) (r : ProcessRecord) (sound : IsSound w) (found : find_record r.node w.records ≡ Some r) where
  pub of_kind : (d : Definition) → its_definition w r ≡ Some d → is_of_kind r.kind (Some d) ≡ true
  of_kind d e =
      let stands : Stands w r = found_holds (Stands w) r.node w.records r sound.consistent.records found in
      sym (ap (is_of_kind r.kind) e) ∙ stands.defined

  starts : is_calculation r.kind ≡ true → r.state ≡ state.Created → MayStart w r
  starts one new = record { found = found; calculates = one; created = new }

  -- The turn of a ready process keeps a sound world sound.
  pub turn_keeps : (a : TaskAnswer) (cs : List Change) → is_ready w now r ≡ true → TurnGives poll now w r a cs → Keeps w cs
  turn_keeps a cs ready (calculates f d is takes) =
      of_created w cs (created_turns poll now w r a cs (starts (function_calculates f r.kind (of_kind _ d)) is) sound (calculates f d is takes))
  turn_keeps a cs ready (clones q one is takes there) = of_created w cs (created_turns poll now w r a cs (starts one is) sound (clones q one is takes there))
  turn_keeps a cs ready (begins j q d is takes asked) =
      of_created w cs (created_turns poll now w r a cs (starts (job_calculates j r.kind (of_kind _ d)) is) sound (begins j q d is takes asked))
  turn_keeps a cs ready (excepts j reason d is takes asked) =
      of_created w cs (created_turns poll now w r a cs (starts (job_calculates j r.kind (of_kind _ d)) is) sound (excepts j reason d is takes asked))
  turn_keeps a cs ready (gives_up j p reason d at asked) = absurd (waiting_jobs_ask w r j p reason sound found d at asked)
  turn_keeps a cs ready (moves j p q answer m d at asked goes) =
      of_set w (job_set r m.part m.paused) (tasks_safe poll now w r j p q a m sound found ready d at asked goes)
  turn_keeps a cs ready (parses j p q result d at asked is) =
      let x : Parsed = parsed j (recorded_inputs w r.node) result in
      λ places. of_end w (length w.nodes + length x.outputs) cs (parses_safe w r j p q result sound found d at asked) (places_of_end w r x None (Some result.code) places)
  turn_keeps a cs ready (advances k library c env d l at e) =
      advances_keep w r k library c env (record { sound = sound; found = found; definition = d; library_there = l; stands = at; environment = e })
  turn_keeps a cs ready (binds k c d is at) = λ places. bindings_keep_sound w now r k c sound found ready d is at (room_before w cs places)
