-- Time goes on by each call.
use Rattle.std.proofs.Common.{◌≡◌, ◌⊎◌, inl, inr, ℕ, ◌+◌, List, [], ◌∷◌, ◌++◌, length, Result, Ok, Err, OnOk, OnErr, is_err, refl, sym, ◌∙◌, ap, subst, arith, length-append}
use Rattle.std.proofs.lemmas.Bool.{cases_lt}
use Rattle.std.proofs.lemmas.List.{take-append-le, take_all}
use Rattle.wc_disk.specs.declared.calls.Call.{Call}
use Rattle.wc_disk.specs.Steps.{Elapses}
use Rattle.wc_disk.specs.Volume.{Volume, settled, after_call, after_calls, IsImage}
use Rattle.wc_disk.specs.Replay.{LeftSince}

pub after_push : (cs : List Call) (c : Call) (v : Volume) → after_calls (cs ++ c ∷ []) v ≡ after_call c (after_calls cs v)
after_push [] c v = refl
after_push (d ∷ cs) c v = after_push cs c (after_call d v)

abbrev Left : List Call → List ℕ → List ℕ → Type 0
Left calls begun image = IsImage (after_calls calls (settled begun)) image

pub elapses_same : (calls : List Call) (begun : List ℕ) → Elapses (length calls) (length calls) (LeftSince calls begun) (LeftSince calls begun) (Left calls begun)
elapses_same calls begun = record { later = omega arith; nothing_else = λ t image le left. inl left; keeps = λ t image le left. left }

elapses_push : (calls : List Call) (c : Call) (begun : List ℕ) → Elapses (length calls) (length (calls ++ c ∷ [])) (LeftSince calls begun) (LeftSince (calls ++ c ∷ []) begun) (Left (calls ++ c ∷ []) begun)
elapses_push calls c begun = record {
  later = omega (arith, longer);
  nothing_else = λ t image le left. elim (cases_lt (length calls) left.0) [
    | inl new ↦ inr (subst (λ (cs : List Call). Left cs begun image) (take_all left.0 (calls ++ c ∷ []) (omega (arith, longer))) left.3)
    | inr old ↦ inl (left.0, left.1, old, subst (λ (cs : List Call). Left cs begun image) (take-append-le left.0 calls (c ∷ []) old) left.3)
  ];
  keeps = λ t image le left. (
    left.0,
    left.1,
    omega (arith, longer, left.2),
    subst (λ (cs : List Call). Left cs begun image) (sym (take-append-le left.0 calls (c ∷ []) left.2)) left.3,
  );
}
  where
    longer : length (calls ++ c ∷ []) ≡ length calls + 1
    longer = omega (arith, length-append calls (c ∷ []))

pub elapses_to : (calls later : List Call) (c : Call) (begun : List ℕ) → later ≡ calls ++ c ∷ [] → Elapses (length calls) (length later) (LeftSince calls begun) (LeftSince later begun) (Left later begun)
elapses_to calls later c begun is =
    subst (λ (cs : List Call). Elapses (length calls) (length cs) (LeftSince calls begun) (LeftSince cs begun) (Left cs begun)) (sym is) (elapses_push calls c begun)

-- the bytes after one more call are those of all calls
pub replays : (calls later : List Call) (c : Call) (begun now : List ℕ) → later ≡ calls ++ c ∷ [] → now ≡ (after_call c (after_calls calls (settled begun))).seen → now ≡ (after_calls later (settled begun)).seen
replays calls later c begun now pushed is =
    is ∙ ap (λ (v : Volume). v.seen) (sym (after_push calls c (settled begun)) ∙ ap (λ (cs : List Call). after_calls cs (settled begun)) (sym pushed))

-- where the call may have been left out, and changed nothing
pub replays_either : {T E : Type 0} (result : Result T E) (calls later : List Call) (c : Call) (begun now : List ℕ) → OnOk result (later ≡ calls ++ c ∷ []) → OnErr result (later ≡ calls)
    → now ≡ (after_calls calls (settled begun)).seen → now ≡ (after_call c (after_calls calls (settled begun))).seen → now ≡ (after_calls later (settled begun)).seen
replays_either (Ok answer) calls later c begun now ok err old new = replays calls later c begun now ok new
replays_either (Err error) calls later c begun now ok err old new = old ∙ ap (λ (cs : List Call). (after_calls cs (settled begun)).seen) (sym err)

elapses_either_to : {T E : Type 0} (result : Result T E) (calls later : List Call) (c : Call) (begun : List ℕ) → OnOk result (later ≡ calls ++ c ∷ []) → OnErr result (later ≡ calls)
    → Elapses (length calls) (length later) (LeftSince calls begun) (LeftSince later begun) (Left later begun)
elapses_either_to (Ok answer) calls later c begun ok err = elapses_to calls later c begun ok
elapses_either_to (Err error) calls later c begun ok err =
    subst (λ (cs : List Call). Elapses (length calls) (length cs) (LeftSince calls begun) (LeftSince cs begun) (Left cs begun)) (sym err) (elapses_same calls begun)

-- whether the call was left out or not, time goes on
pub elapses_either : {T E : Type 0} (result : Result T E) (calls later : List Call) (c : Call) (begun then_begun : List ℕ) → then_begun ≡ begun
    → OnOk result (later ≡ calls ++ c ∷ []) → OnErr result (later ≡ calls)
    → Elapses (length calls) (length later) (LeftSince calls begun) (LeftSince later then_begun) (Left later then_begun)
elapses_either result calls later c begun then_begun same ok err =
    subst (λ (b : List ℕ). Elapses (length calls) (length later) (LeftSince calls begun) (LeftSince later b) (Left later b)) (sym same)
    (elapses_either_to result calls later c begun ok err)

-- the disk is as before, or as after the call
pub volume_either : {T E : Type 0} (result : Result T E) (calls later : List Call) (c : Call) (begun then_begun : List ℕ) → then_begun ≡ begun
    → OnOk result (later ≡ calls ++ c ∷ []) → OnErr result (later ≡ calls)
    → (after_calls later (settled then_begun) ≡ after_calls calls (settled begun)) ⊎ (after_calls later (settled then_begun) ≡ after_call c (after_calls calls (settled begun)))
volume_either (Ok answer) calls later c begun then_begun same ok err =
    inr ((λ i. after_calls (ok i) (settled (same i))) ∙ after_push calls c (settled begun))
volume_either (Err error) calls later c begun then_begun same ok err = inl (λ i. after_calls (err i) (settled (same i)))

-- where a result that follows the call's is Ok, the disk is as after the call
pub volume_after : {T E S F : Type 0} (answer : Result S F) (result : Result T E) (calls later : List Call) (c : Call) (begun then_begun : List ℕ) → is_err answer ≡ is_err result → then_begun ≡ begun
    → OnOk result (later ≡ calls ++ c ∷ []) → OnOk answer (after_calls later (settled then_begun) ≡ after_call c (after_calls calls (settled begun)))
volume_after (Ok done) (Ok answer) calls later c begun then_begun follows same ok =
    (λ i. after_calls (ok i) (settled (same i))) ∙ after_push calls c (settled begun)
volume_after (Ok done) (Err error) calls later c begun then_begun follows same ok = absurd (cc)
volume_after (Err failed) result calls later c begun then_begun follows same ok = tt

-- what holds where a result is Ok, or Err, holds where one that follows it is
pub ok_follows : {T E S F : Type 0} (P : Type 0) (answer : Result S F) (result : Result T E) → is_err answer ≡ is_err result → OnOk result P → OnOk answer P
ok_follows P (Ok done) (Ok answer) follows holds = holds
ok_follows P (Ok done) (Err error) follows holds = absurd (cc)
ok_follows P (Err failed) result follows holds = tt

pub err_follows : {T E S F : Type 0} (P : Type 0) (answer : Result S F) (result : Result T E) → is_err answer ≡ is_err result → OnErr result P → OnErr answer P
err_follows P (Ok done) result follows holds = tt
err_follows P (Err failed) (Ok answer) follows holds = absurd (cc)
err_follows P (Err failed) (Err error) follows holds = holds
