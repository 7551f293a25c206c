-- Where processes stand: what is spelled is read, and what is read is spelled.
use Rattle.std.proofs.Common.{◌≡◌, ℕ, ◌+◌, ℤ, Bool, true, false, List, [], ◌∷◌, ◌++◌, length, Option, Some, None, Ok, refl, arith}
use Rattle.std.specs.Prelude.{FitsSigned}
use Rattle.std.specs.Int.{w64}
use Rattle.wc_value.specs.Ascending.{Ascends, goes_last}
use Rattle.wc_value.specs.Spelling.{spelling}
use Rattle.wc_value.specs.Spells.{IsText}
use Rattle.wc_value.proofs.Places.{Covers}
use Rattle.wc_state.specs.Context.{Pairs, found_at, DifferFrom, KeysDiffer}
use Rattle.wc_state.specs.declared.context.CtxRef.{CtxRef}
use Rattle.wc_state.specs.declared.context.CtxRef.TheVariants as held
use Rattle.wc_state.specs.declared.record.Task.{Task}
use Rattle.wc_state.specs.declared.record.Task.TheVariants as task
use Rattle.wc_state.specs.declared.record.Part.{Part}
use Rattle.wc_state.specs.declared.record.Part.TheVariants as part
use Rattle.wc_record.specs.Readers.{Reader, value, u32, i64, counted}
use Rattle.wc_record.specs.Fields.{truths, truth, tasks, job_task, codes, code_if_any, as_frame, frame, ids, holdings, held_at, pair, as_await, await, output, as_checkpoint, checkpoint, as_job, job, standings, process_part}
use Rattle.wc_record.specs.Spelled.{u32_bytes, i64_bytes, truth_byte, task_byte, list, code_bytes, frame_bytes, held_bytes, pair_bytes, await_bytes, output_bytes, checkpoint_bytes, job_bytes, part_bytes}
use Rattle.wc_record.specs.Written.{IsNumber, IsList, IsCode, IsFrame, IsValue, IsHeld, IsPair, IsAwait, IsOutput, IsCheckpoint, IsJob, IsPart}
use Rattle.wc_record.proofs.Codes.{Codes, ◌⊠◌, made_of, recast}
use Rattle.wc_record.proofs.Choices.{choice_back, always_back, built_back, choice_taken, always_takes, built_takes}
use Rattle.wc_record.proofs.Atoms.{u32_codes, u64_codes, i64_codes, text_codes, value_codes, key_codes, label_codes, below_codes}
use Rattle.wc_record.proofs.Series.{Each, counted_codes, each_of_all, each_both, each_from, list_of_series, series_of_list, GoesLast, last_of_ascending, ascending_of_last, nothing_ascends}

-- ---- bytes that stand for something
abbrev pub Anything : {A : Type 0} → A → Type 0
Anything x = Unit {0}

abbrev pub truth_bytes : Bool → List ℕ
truth_bytes b = truth_byte b ∷ []

truth_back : (bytes : List ℕ) (b : Bool) (at next : ℕ) → Unit {0} → Covers bytes at (truth_bytes b) next → truth bytes at ≡ Ok (b, next)
truth_back bytes false at next h p = always_back truths bytes 0 false at next p refl
truth_back bytes true at next h p = always_back truths bytes 1 true at next p refl

pub truth_codes : Codes Anything truth_bytes truth
truth_codes = record {
  back = truth_back;
  taken = choice_taken Anything truth_bytes truths (always_takes Anything truth_bytes 0 false tt refl, (always_takes Anything truth_bytes 1 true tt refl, tt));
}

abbrev task_bytes : Task → List ℕ
task_bytes t = task_byte t ∷ []

task_back : (bytes : List ℕ) (t : Task) (at next : ℕ) → Unit {0} → Covers bytes at (task_bytes t) next → job_task bytes at ≡ Ok (t, next)
task_back bytes task.Upload at next h p = always_back tasks bytes 1 task.Upload at next p refl
task_back bytes task.Submit at next h p = always_back tasks bytes 2 task.Submit at next p refl
task_back bytes task.Update at next h p = always_back tasks bytes 3 task.Update at next p refl
task_back bytes task.Retrieve at next h p = always_back tasks bytes 4 task.Retrieve at next p refl

task_codes : Codes Anything task_bytes job_task
task_codes = record {
  back = task_back;
  taken = choice_taken Anything task_bytes tasks (
    always_takes Anything task_bytes 1 task.Upload tt refl,
    (
      always_takes Anything task_bytes 2 task.Submit tt refl,
      (always_takes Anything task_bytes 3 task.Update tt refl, (always_takes Anything task_bytes 4 task.Retrieve tt refl, tt)),
    ),
  );
}

code_back : (bytes : List ℕ) (c : Option ℤ) (at next : ℕ) → IsCode c → Covers bytes at (code_bytes c) next → code_if_any bytes at ≡ Ok (c, next)
code_back bytes None at next h p = always_back codes bytes 0 None at next p refl
code_back bytes (Some n) at next h p =
    choice_back codes bytes 1 (i64_bytes n) (Some n) at next p (λ q. built_back (FitsSigned w64) i64_bytes i64 Some i64_codes bytes n (at + 1) next h q)

pub code_codes : Codes IsCode code_bytes code_if_any
code_codes = record {
  back = code_back;
  taken = choice_taken IsCode code_bytes codes (
    always_takes IsCode code_bytes 0 None tt refl,
    (built_takes (FitsSigned w64) i64_bytes i64 IsCode code_bytes 1 Some i64_codes (λ n h. h) (λ n. refl), tt),
  );
}

-- ---- frames and numbers
frame_codes : Codes IsFrame frame_bytes frame
frame_codes = recast IsFrame frame_bytes (made_of as_frame (λ f. (f.block, f.next)) (u32_codes ⊠ u32_codes) (λ x. refl) (λ f. refl))
    (λ f h. record { block = h.0; next = h.1 }) (λ f h. (h.block, h.next)) (λ f. refl)

-- a list of items that are as they must be by themselves
list_codes : {A : Type 0} (P : A → Type 0) (f : A → List ℕ) (r : Reader A) → Codes P f r → Codes (IsList P) (list f) (counted (λ front. r))
list_codes P f r c = recast (IsList P) (list f) (counted_codes (λ front. P) f (λ front. r) (λ front. c))
    (list_of_series (λ front. P) P (λ front x h. h)) (series_of_list P) (λ xs. refl)

frames_codes : Codes (IsList IsFrame) (list frame_bytes) (counted (λ front. frame))
frames_codes = list_codes IsFrame frame_bytes frame frame_codes

ids_codes : Codes (IsList IsNumber) (list u32_bytes) ids
ids_codes = list_codes IsNumber u32_bytes u32 u32_codes

-- ---- contexts
held_back : (bytes : List ℕ) (x : CtxRef) (at next : ℕ) → IsHeld x → Covers bytes at (held_bytes x) next → held_at bytes at ≡ Ok (x, next)
held_back bytes (held.Plain v) at next h p =
    choice_back holdings bytes 1 (spelling v) (held.Plain v) at next p (λ q. built_back IsValue spelling value held.Plain value_codes bytes v (at + 1) next h q)
held_back bytes (held.One pid) at next h p =
    choice_back holdings bytes 2 (u32_bytes pid) (held.One pid) at next p (λ q. built_back IsNumber u32_bytes u32 held.One u32_codes bytes pid (at + 1) next h q)
held_back bytes (held.Many pids) at next h p =
    choice_back holdings bytes 3 (list u32_bytes pids) (held.Many pids) at next p (λ q. built_back (IsList IsNumber) (list u32_bytes) ids held.Many ids_codes bytes pids (at + 1) next h q)

held_codes : Codes IsHeld held_bytes held_at
held_codes = record {
  back = held_back;
  taken = choice_taken IsHeld held_bytes holdings (
    built_takes IsValue spelling value IsHeld held_bytes 1 held.Plain value_codes (λ y h. h) (λ y. refl),
    (
      built_takes IsNumber u32_bytes u32 IsHeld held_bytes 2 held.One u32_codes (λ y h. h) (λ y. refl),
      (built_takes (IsList IsNumber) (list u32_bytes) ids IsHeld held_bytes 3 held.Many ids_codes (λ y h. h) (λ y. refl), tt),
    ),
  );
}

abbrev IsNewKey : Pairs → List ℕ × CtxRef → Type 0
IsNewKey front p = found_at front p.0 ≡ None

abbrev IsNewPair : Pairs → List ℕ × CtxRef → Type 0
IsNewPair front p = (IsText p.0 × (found_at front p.0 ≡ None)) × IsHeld p.1

differ_of : (front ps : Pairs) → Each IsNewKey front ps → DifferFrom front ps
differ_of front [] h = tt
differ_of front (p ∷ ps) h = (h.0, differ_of (front ++ p ∷ []) ps h.1)

of_differ : (front ps : Pairs) → DifferFrom front ps → Each IsNewKey front ps
of_differ front [] h = tt
of_differ front (p ∷ ps) h = (h.0, of_differ (front ++ p ∷ []) ps h.1)

abbrev IsContext : Pairs → Type 0
IsContext ps = IsList IsPair ps × KeysDiffer ps

context_codes : Codes IsContext (list pair_bytes) (counted pair)
context_codes = recast IsContext (list pair_bytes) (counted_codes IsNewPair pair_bytes pair (λ front. key_codes front ⊠ held_codes)) to from (λ ps. refl)
  where
    to : (ps : Pairs) → IsNumber (length ps) × Each IsNewPair [] ps → IsContext ps
    to ps h = (
      list_of_series IsNewPair IsPair (λ front p q. record { key = q.0.0; held = q.1 }) ps h,
      differ_of [] ps (each_from IsNewPair IsNewKey (λ front p q. q.0.1) [] ps h.1),
    )

    from : (ps : Pairs) → IsContext ps → IsNumber (length ps) × Each IsNewPair [] ps
    from ps h = (h.0.few, each_both (λ front. IsPair) IsNewKey IsNewPair (λ front p q r. ((q.key, r), q.held)) [] ps (each_of_all IsPair [] ps h.0.each) (of_differ [] ps h.1))

-- ---- awaited processes
await_codes : Codes IsAwait await_bytes await
await_codes = recast IsAwait await_bytes (made_of as_await (λ a. (a.key, (a.append, a.pid))) (text_codes ⊠ truth_codes ⊠ u32_codes) (λ x. refl) (λ a. refl))
    (λ a h. record { key = h.0; pid = h.1.1 }) (λ a h. (h.key, (tt, h.pid))) (λ a. refl)

awaits_codes : Codes (IsList IsAwait) (list await_bytes) (counted (λ front. await))
awaits_codes = list_codes IsAwait await_bytes await await_codes

-- ---- outputs
abbrev Outputs : Type 0
Outputs = List (List ℕ × ℕ)

abbrev IsNewOutput : Outputs → List ℕ × ℕ → Type 0
IsNewOutput front o = (IsText o.0 × (goes_last o.0 front ≡ true)) × IsNumber o.1

abbrev AreOutputs : Outputs → Type 0
AreOutputs os = IsList IsOutput os × Ascends os

outputs_codes : Codes AreOutputs (list output_bytes) (counted output)
outputs_codes = recast AreOutputs (list output_bytes) (counted_codes IsNewOutput output_bytes output (λ front. label_codes front ⊠ u32_codes)) to from (λ os. refl)
  where
    to : (os : Outputs) → IsNumber (length os) × Each IsNewOutput [] os → AreOutputs os
    to os h = (
      list_of_series IsNewOutput IsOutput (λ front o q. record { label = q.0.0; node = q.1 }) os h,
      ascending_of_last [] os (nothing_ascends ℕ) (each_from IsNewOutput GoesLast (λ front o q. q.0.1) [] os h.1),
    )

    from : (os : Outputs) → AreOutputs os → IsNumber (length os) × Each IsNewOutput [] os
    from os h = (h.0.few, each_both (λ front. IsOutput) GoesLast IsNewOutput (λ front o q r. ((q.label, r), q.node)) [] os (each_of_all IsOutput [] os h.0.each) (last_of_ascending [] os h.1))

-- ---- parts
checkpoint_codes : Codes IsCheckpoint checkpoint_bytes checkpoint
checkpoint_codes =
    recast IsCheckpoint checkpoint_bytes
    (made_of as_checkpoint (λ c. (c.frames, (c.ctx, (c.awaiting, (c.calls, c.outputs))))) (frames_codes ⊠ context_codes ⊠ awaits_codes ⊠ u32_codes ⊠ outputs_codes) (λ x. refl) (λ c. refl))
    (λ c h. record { frames = h.0; ctx = h.1.0.0; keys_differ = h.1.0.1; awaiting = h.1.1.0; calls = h.1.1.1.0; outputs = h.1.1.1.1.0; labels_ascend = h.1.1.1.1.1 })
    (λ c h. (h.frames, ((h.ctx, h.keys_differ), (h.awaiting, (h.calls, (h.outputs, h.labels_ascend))))))
    (λ c. refl)

job_codes : Codes IsJob job_bytes job
job_codes = recast IsJob job_bytes (made_of as_job (λ j. (j.task, (j.fails, j.due))) (task_codes ⊠ below_codes 6 ⊠ u64_codes) (λ x. refl) (λ j. refl))
    (λ j h. record { fails = let lt = h.1.0 in omega arith; due = h.1.1 }) (λ j h. (tt, (let le = h.fails in omega arith, h.due))) (λ j. refl)

part_back : (bytes : List ℕ) (p : Part) (at next : ℕ) → IsPart p → Covers bytes at (part_bytes p) next → process_part bytes at ≡ Ok (p, next)
part_back bytes part.Fresh at next h p = always_back standings bytes 0 part.Fresh at next p refl
part_back bytes (part.Chain c) at next h p =
    choice_back standings bytes 1 (checkpoint_bytes c) (part.Chain c) at next p (λ q. built_back IsCheckpoint checkpoint_bytes checkpoint part.Chain checkpoint_codes bytes c (at + 1) next h q)
part_back bytes (part.Job j) at next h p =
    choice_back standings bytes 2 (job_bytes j) (part.Job j) at next p (λ q. built_back IsJob job_bytes job part.Job job_codes bytes j (at + 1) next h q)
part_back bytes part.Over at next h p = always_back standings bytes 3 part.Over at next p refl

pub part_codes : Codes IsPart part_bytes process_part
part_codes = record {
  back = part_back;
  taken = choice_taken IsPart part_bytes standings (
    always_takes IsPart part_bytes 0 part.Fresh tt refl,
    (
      built_takes IsCheckpoint checkpoint_bytes checkpoint IsPart part_bytes 1 part.Chain checkpoint_codes (λ y h. h) (λ y. refl),
      (built_takes IsJob job_bytes job IsPart part_bytes 2 part.Job job_codes (λ y h. h) (λ y. refl), (always_takes IsPart part_bytes 3 part.Over tt refl, tt)),
    ),
  );
}
