-- The reading of changes stops within their bytes.
use Rattle.std.proofs.Common.{◌≡◌, ℕ, zero, suc, ◌+◌, ◌<◌, ◌≤◌, Bool, true, false, cond, ltb, List, [], ◌∷◌, ◌++◌, length, Result, Ok, Err, refl, sym, subst, inl, inr, arith}
use Rattle.std.specs.Prelude.{nat_eq, nat_lt, slice_index, is_some}
use Rattle.std.specs.Int.{w64, from_be_bytes}
use Rattle.std.proofs.lemmas.Bool.{ltb-true}
use Rattle.wc_value.specs.declared.refusal.ValueError.{ValueError}
use Rattle.wc_value.specs.Reading as read
use Rattle.wc_state.specs.Context.{Pairs, found_at}
use Rattle.wc_state.specs.declared.context.CtxRef.TheVariants as held
use Rattle.wc_state.specs.declared.record.Part.TheVariants as part
use Rattle.wc_value.specs.declared.process.ProcessState.TheVariants as state
use Rattle.wc_world.specs.Fits.{comes_after}
use Rattle.wc_world.specs.declared.change.Change.{Change}
use Rattle.wc_world.specs.declared.change.Change.TheVariants as change
use Rattle.wc_record.specs.declared.error.RecordError.{RecordError}
use Rattle.wc_record.specs.declared.error.RecordError.TheVariants.{Truncated, BadTag, Unsorted}
use Rattle.wc_record.specs.Readers.{Reader, ◌>>=◌, lifted, byte, u32, eight, u64, i64, text, value, always, ◌⊗◌, built, behind, choice, stands_for, number_of, byte_below, several, counted, last_of, name, label}
use Rattle.wc_record.specs.Fields as field
use Rattle.wc_record.specs.Reading.{Step, given, bind, library, library_change, one_change, changes, counted_changes, whole}
use Rattle.wc_store.specs.Held.{place_of}
use Rattle.wc_store.proofs.ValueEnds.{Ends, bytes_end, u32_ends, i64_ends, text_ends, name_ends, value_ends}

-- What is read of n bytes ends within them and not before a place, or is refused at a place within them.
abbrev Stops : {A : Type 0} → (n low : ℕ) → Result (A × ℕ) RecordError → Type 0
Stops n low (Ok x) = (low ≤ x.1) × (x.1 ≤ n)
Stops n low (Err e) = place_of e ≤ n

abbrev IsIn : {A : Type 0} → ℕ → Result (A × ℕ) RecordError → Type 0
IsIn n (Ok x) = x.1 ≤ n
IsIn n (Err e) = place_of e ≤ n

-- A reader stays within the bytes.
record Within {A : Type 0} (r : Reader A) : Type 0 where
  stops : (bytes : List ℕ) (at : ℕ) → at ≤ length bytes → IsIn (length bytes) (r bytes at)

then_in : {A B : Type 0} (n : ℕ) (r : Result (A × ℕ) RecordError) (f : A × ℕ → Result (B × ℕ) RecordError) → IsIn n r
    → ((x : A × ℕ) → x.1 ≤ n → IsIn n (f x)) → IsIn n (r >>= f)
then_in n (Ok x) f h t = t x h
then_in n (Err e) f h t = h

if_in : {A : Type 0} (n : ℕ) (c : Bool) (r s : Result (A × ℕ) RecordError) → IsIn n r → IsIn n s → IsIn n (cond c r s)
if_in n true r s h t = h
if_in n false r s h t = t

lifted_stops : {A : Type 0} (n low : ℕ) (r : Result (A × ℕ) ValueError) → Ends n low r → Stops n low (lifted r)
lifted_stops n low (Ok x) h = h
lifted_stops n low (Err e) h = h

lifted_in : {A : Type 0} (n low : ℕ) (r : Result (A × ℕ) ValueError) → Ends n low r → IsIn n (lifted r)
lifted_in n low (Ok x) h = h.1
lifted_in n low (Err e) h = h

-- ---- numbers, texts and values
byte_in : Within byte
byte_in = record { stops = λ bytes at le. by bytes at (ltb at (length bytes)) refl }
  where
    by : (bytes : List ℕ) (at : ℕ) (c : Bool) → ltb at (length bytes) ≡ c
        → IsIn {A = ℕ} (length bytes) (cond c (Ok (slice_index bytes at, at + 1)) (Err (Truncated (length bytes))))
    by bytes at true e = let there : at < length bytes = ltb-true _ _ e in omega arith
    by bytes at false e = omega arith

u32_in : Within u32
u32_in = record { stops = λ bytes at le. lifted_in (length bytes) (at + 4) (read.u32_at bytes at) (u32_ends bytes at le) }

eight_in : Within eight
eight_in = record { stops = λ bytes at le. lifted_in (length bytes) (at + 8) (read.bytes_at 8 bytes at) (bytes_end bytes 8 at le) }

u64_in : Within u64
u64_in = record {
  stops = λ bytes at le. then_in (length bytes) (eight bytes at) (λ x. Ok (from_be_bytes w64 x.0, x.1)) (eight_in.stops bytes at le) (λ x inside. inside);
}

i64_in : Within i64
i64_in = record { stops = λ bytes at le. lifted_in (length bytes) at (read.i64_at bytes at) (i64_ends bytes at le) }

text_in : Within text
text_in = record { stops = λ bytes at le. lifted_in (length bytes) (at + 4) (read.text_at bytes at) (text_ends bytes at le) }

value_in : Within value
value_in = record { stops = λ bytes at le. lifted_in (length bytes) at (read.value_at 32 bytes at) (value_ends bytes 32 at le) }

-- ---- readers from readers
always_in : {A : Type 0} (x : A) → Within (always x)
always_in x = record { stops = λ bytes at le. le }

both_in : {A B : Type 0} {r : Reader A} {s : Reader B} → Within r → Within s → Within (r ⊗ s)
both_in {r = r} {s = s} h t = record {
  stops = λ bytes at le.
      then_in (length bytes) (r bytes at) (λ x. s bytes x.1 >>= (λ y. Ok ((x.0, y.0), y.1))) (h.stops bytes at le)
      (λ x inside. then_in (length bytes) (s bytes x.1) (λ y. Ok ((x.0, y.0), y.1)) (t.stops bytes x.1 inside) (λ y last. last));
}

built_in : {A B : Type 0} {r : Reader A} (f : A → B) → Within r → Within (built f r)
built_in {r = r} f h = record {
  stops = λ bytes at le. then_in (length bytes) (r bytes at) (λ x. Ok (f x.0, x.1)) (h.stops bytes at le) (λ x inside. inside);
}

abbrev AllWithin : {A : Type 0} → List (ℕ × Reader A) → Type 0
AllWithin [] = Unit {0}
AllWithin (c ∷ cs) = Within c.1 × AllWithin cs

behind_in : {A : Type 0} (cs : List (ℕ × Reader A)) → AllWithin cs → (bytes : List ℕ) (at : ℕ) → at ≤ length bytes → (tag : ℕ × ℕ) → tag.1 ≤ length bytes
    → IsIn (length bytes) (behind cs bytes at tag)
behind_in [] h bytes at le tag last = le
behind_in (c ∷ cs) h bytes at le tag last =
    if_in (length bytes) (nat_eq tag.0 c.0) (c.1 bytes tag.1) (behind cs bytes at tag) (h.0.stops bytes tag.1 last) (behind_in cs h.1 bytes at le tag last)

choice_in : {A : Type 0} (cs : List (ℕ × Reader A)) → AllWithin cs → Within (choice cs)
choice_in cs h = record {
  stops = λ bytes at le.
      then_in (length bytes) (byte bytes at) (behind cs bytes at) (byte_in.stops bytes at le) (λ tag last. behind_in cs h bytes at le tag last);
}

stands_in : {A : Type 0} (cs : List (ℕ × A)) (n at : ℕ) → at ≤ n → (m : ℕ × ℕ) → m.1 ≤ n → IsIn n (stands_for cs at m)
stands_in [] n at le m last = le
stands_in (c ∷ cs) n at le m last = if_in n (nat_eq m.0 c.0) (Ok (c.1, m.1)) (stands_for cs at m) last (stands_in cs n at le m last)

number_in : {A : Type 0} (cs : List (ℕ × A)) → Within (number_of cs)
number_in cs = record {
  stops = λ bytes at le.
      then_in (length bytes) (u32 bytes at) (stands_for cs at) (u32_in.stops bytes at le) (λ m last. stands_in cs (length bytes) at le m last);
}

byte_below_in : (bound : ℕ) → Within (byte_below bound)
byte_below_in bound = record {
  stops = λ bytes at le.
      then_in (length bytes) (byte bytes at) (λ b. cond (nat_lt b.0 bound) (Ok b) (Err (BadTag at))) (byte_in.stops bytes at le)
      (λ b last. if_in (length bytes) (nat_lt b.0 bound) (Ok b) (Err (BadTag at)) last le);
}

-- ---- lists
several_in : {A : Type 0} (item : List A → Reader A) → ((front : List A) → Within (item front)) → (count : ℕ) (front : List A) → Within (several count item front)
several_in item h zero front = record { stops = λ bytes at le. le }
several_in item h (suc count) front = record {
  stops = λ bytes at le.
      then_in (length bytes) (item front bytes at) (λ x. several count item (front ++ x.0 ∷ []) bytes x.1) ((h front).stops bytes at le)
      (λ x inside. (several_in item h count (front ++ x.0 ∷ [])).stops bytes x.1 inside);
}

counted_in : {A : Type 0} (item : List A → Reader A) → ((front : List A) → Within (item front)) → Within (counted item)
counted_in item h = record {
  stops = λ bytes at le.
      then_in (length bytes) (u32 bytes at) (λ k. several k.0 item [] bytes k.1) (u32_in.stops bytes at le)
      (λ k inside. (several_in item h k.0 []).stops bytes k.1 inside);
}

name_in : (front : List (List ℕ)) → Within (name front)
name_in front = record {
  stops = λ bytes at le.
      then_in (length bytes) (text bytes at) (λ k. cond (comes_after (last_of front) k.0) (Ok k) (Err (Unsorted at))) (text_in.stops bytes at le)
      (λ k inside. if_in (length bytes) (comes_after (last_of front) k.0) (Ok k) (Err (Unsorted at)) inside le);
}

label_in : {T : Type 0} (front : List (List ℕ × T)) → Within (label front)
label_in front = record { stops = λ bytes at le. lifted_in (length bytes) at (read.name_at front bytes at) (name_ends bytes front at le) }

key_in : (front : Pairs) → Within (field.key front)
key_in front = record {
  stops = λ bytes at le.
      then_in (length bytes) (text bytes at) (λ k. cond (is_some (found_at front k.0)) (Err (Unsorted at)) (Ok k)) (text_in.stops bytes at le)
      (λ k inside. if_in (length bytes) (is_some (found_at front k.0)) (Err (Unsorted at)) (Ok k) le inside);
}

-- ---- fields and parts
truth_in : Within field.truth
truth_in = choice_in field.truths (always_in false, (always_in true, tt))

state_in : Within field.process_state
state_in =
    choice_in field.states (
      number_in (field.zero_for state.Created),
      (
        number_in (field.zero_for state.Running),
        (
          number_in (field.zero_for state.Waiting),
          (built_in state.Finished u32_in, (number_in field.reasons, (number_in (field.zero_for state.Killed), tt))),
        ),
      ),
    )

held_in : Within field.held_at
held_in =
    choice_in field.holdings
    (built_in held.Plain value_in, (built_in held.One u32_in, (built_in held.Many (counted_in (λ front. u32) (λ front. u32_in)), tt)))

checkpoint_in : Within field.checkpoint
checkpoint_in =
    built_in field.as_checkpoint
    (both_in (counted_in (λ front. field.frame) (λ front. built_in field.as_frame (both_in u32_in u32_in)))
    (both_in (counted_in field.pair (λ front. both_in (key_in front) held_in))
    (both_in (counted_in (λ front. field.await) (λ front. built_in field.as_await (both_in text_in (both_in truth_in u32_in))))
    (both_in u32_in (counted_in field.output (λ front. both_in (label_in front) u32_in))))))

task_in : Within field.job_task
task_in = choice_in field.tasks (always_in _, (always_in _, (always_in _, (always_in _, tt))))

part_in : Within field.process_part
part_in =
    choice_in field.standings (
      always_in part.Fresh,
      (
        built_in part.Chain checkpoint_in,
        (
          built_in part.Job (built_in field.as_job (both_in task_in (both_in (byte_below_in 6) u64_in))),
          (always_in part.Over, tt),
        ),
      ),
    )

-- ---- changes
process_in : Within field.new_process
process_in =
    built_in field.as_process
    (both_in (choice_in field.kinds (always_in _, (always_in _, (always_in _, tt)))) (both_in text_in (both_in u32_in (both_in u32_in (both_in text_in truth_in)))))

link_in : Within field.link
link_in =
    built_in field.as_link
    (both_in u32_in (both_in u32_in (both_in
    (choice_in field.link_types (always_in _, (always_in _, (always_in _, (always_in _, (always_in _, (always_in _, tt)))))))
    text_in)))

code_in : Within field.code_if_any
code_in = choice_in field.codes (always_in _, (built_in _ i64_in, tt))

set_in : Within field.set_process
set_in =
    built_in field.as_set
    (both_in u32_in (both_in state_in (both_in truth_in (both_in u32_in (both_in u64_in (both_in code_in part_in))))))

other_in : Within field.other_change
other_in =
    choice_in field.other_changes (
      built_in change.Data value_in,
      (
        built_in change.Process process_in,
        (
          built_in change.Link link_in,
          (
            built_in change.Set set_in,
            (built_in change.Count u32_in, (built_in change.Kept (built_in field.as_kept (both_in u32_in (both_in u32_in u32_in))), tt)),
          ),
        ),
      ),
    )

names_in : Within field.names
names_in = counted_in name name_in

-- ---- steps
abbrev StepIn : {A : Type 0} → Step A → Type 0
StepIn {A} s = (bytes : List ℕ) (at : ℕ) → at ≤ length bytes → (r : Result (A × ℕ) RecordError) → s bytes at r → IsIn (length bytes) r

same_in : {A : Type 0} (n : ℕ) (r s : Result (A × ℕ) RecordError) → r ≡ s → IsIn n r → IsIn n s
same_in {A} n r s same h = subst (λ (q : Result (A × ℕ) RecordError). IsIn n q) same h

given_in : {A : Type 0} {r : Reader A} → Within r → StepIn (given r)
given_in {r = r} h bytes at le q is = same_in (length bytes) (r bytes at) q (sym is) (h.stops bytes at le)

bind_in : {A B : Type 0} (s : Step A) (f : A → Step B) → StepIn s → ((x : A) → StepIn (f x)) → StepIn (bind s f)
bind_in s f one rest bytes at le r (inl h) = rest h.0 bytes h.1 (one bytes at le (Ok (h.0, h.1)) h.2) r h.3
bind_in {A} {B} s f one rest bytes at le r (inr h) = same_in {A = B} (length bytes) (Err h.0) r (sym h.2) (one bytes at le (Err h.0) h.1)

text_stops : (bytes : List ℕ) (at : ℕ) → at ≤ length bytes → (t : List ℕ) (next : ℕ) → text bytes at ≡ Ok (t, next) → (at + 4 ≤ next) × (next ≤ length bytes)
text_stops bytes at le t next is =
    let P : Result (List ℕ × ℕ) RecordError → Type 0 = λ q. Stops (length bytes) (at + 4) q in
    subst P is (lifted_stops (length bytes) (at + 4) (read.text_at bytes at) (text_ends bytes at le))

library_in : StepIn library
library_in bytes at le (Ok x) h = (text_stops bytes at le h.0 x.1 h.1).1
library_in bytes at le (Err e) (inl h) =
    same_in {A = List ℕ} (length bytes) (text bytes at) (Err e) h (text_in.stops bytes at le)
library_in bytes at le (Err e) (inr h) =
    let there = text_stops bytes at le h.1.content h.1.next h.1.there in
    let within : at + 4 ≤ length bytes = omega (arith, there.0, there.1) in
    let P : RecordError → Type 0 = λ q. place_of q ≤ length bytes in
    subst P (sym h.0) within

library_change_in : StepIn library_change
library_change_in = bind_in library (λ l. given (built (change.Library l) field.names)) library_in (λ l. given_in (built_in (change.Library l) names_in))

one_change_in : StepIn one_change
one_change_in bytes at le r (inl h) =
    library_change_in bytes (at + 1) (same_in {A = ℕ} (length bytes) (byte bytes at) (Ok (1, at + 1)) h.0 (byte_in.stops bytes at le)) r h.1
one_change_in bytes at le r (inr h) = given_in other_in bytes at le r h.1

changes_in : (count : ℕ) (front : List Change) → StepIn (changes count front)
changes_in zero front bytes at le r h = same_in (length bytes) (Ok (front, at)) r (sym h) le
changes_in (suc count) front bytes at le r h =
    bind_in one_change (λ c. changes count (front ++ c ∷ [])) one_change_in (λ c. changes_in count (front ++ c ∷ [])) bytes at le r h

counted_changes_in : StepIn counted_changes
counted_changes_in = bind_in (given u32) (λ k. changes k []) (given_in u32_in) (λ k. changes_in k [])

-- a refusal names a byte of the payload or its end
pub stops_within : (bytes : List ℕ) (e : RecordError) → whole bytes (Err e) → place_of e ≤ length bytes
stops_within bytes e (inl h) = counted_changes_in bytes 0 (omega arith) (Err e) h
stops_within bytes e (inr h) =
    let place = h.3 in
    let within : h.1 ≤ length bytes = omega arith in
    let P : RecordError → Type 0 = λ q. place_of q ≤ length bytes in
    subst P (sym h.4) within
