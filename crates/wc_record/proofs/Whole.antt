-- Changes: what is written is read, and what is read is written so.
use Rattle.std.proofs.Common.{◌≡◌, ℕ, zero, suc, ◌+◌, ◌≤◌, List, [], ◌∷◌, ◌++◌, length, drop, drop_of_length-le, append-nil, append_assoc, Result, Ok, Err, refl, sym, ap, subst, ◌∙◌, inl, inr, arith}
use Rattle.std.specs.Prelude.{All, IfOk, flat_map}
use Rattle.wc_value.proofs.Places.{IsBytes, Covers, covers_join, covers_first, covers_second}
use Rattle.wc_value.specs.Spelling.{spelling}
use Rattle.wc_value.specs.Spells.{IsText}
use Rattle.wc_syntax.specs.declared.definition.Definition.{Definition}
use Rattle.wc_syntax.specs.Bare.{bare_library}
use Rattle.wc_syntax.specs.Checked.{IsChecked}
use Rattle.wc_syntax.specs.Printing.{printed}
use Rattle.wc_syntax.proofs.Bared.{printed_bare}
use Rattle.wc_parser.specs.Parsing.{TextSays}
use Rattle.wc_parser.proofs.ReadBack.{reads_back}
use Rattle.wc_parser.proofs.Writable.{files_are_writable}
use Rattle.wc_check.proofs.BareFindings.{rules_forget_offsets}
use Rattle.wc_world.specs.declared.change.Change.{Change}
use Rattle.wc_world.specs.declared.change.Change.TheVariants as change
use Rattle.wc_record.specs.declared.error.RecordError.{RecordError}
use Rattle.wc_record.specs.declared.error.RecordError.TheVariants as error
use Rattle.wc_record.specs.Readers.{text}
use Rattle.wc_record.specs.Fields.{names}
use Rattle.wc_record.specs.Spelled.{u32_bytes, text_bytes, list, new_bytes, link_bytes, set_bytes, kept_bytes, library_bytes, change_bytes, spelled}
use Rattle.wc_record.specs.Written.{IsNumber, IsLibrary, IsChange, IsWritten}
use Rattle.wc_record.specs.Reading.{IsPrinted, library_change, HasLibraryTag, one_change, changes, counted_changes, whole, Told, Meets}
use Rattle.wc_record.proofs.Codes.{bind_ok, ok_is, byte_read, byte_taken}
use Rattle.wc_record.proofs.Choices.{built_back}
use Rattle.wc_record.proofs.Atoms.{u32_codes, text_codes}
use Rattle.wc_record.proofs.ChangeCodes.{other_codes, AreNames, names_codes}
use Rattle.wc_record.proofs.Unique.{ok_or_err, whole_unique}

-- ---- libraries
-- the printed text of a checked library reads as that library
printed_is : (l : List Definition) → (c : (m : List Definition) × IsChecked m × (bare_library m ≡ l)) → IsPrinted (printed l) l
printed_is l c =
    let b = reads_back c.0 c.1.writable in
    let same : printed c.0 ≡ printed l = sym (printed_bare c.0) ∙ ap printed c.2 in
    record {
      library = b.0;
      says = subst (λ (t : List ℕ). TextSays t (Ok b.0)) same b.1;
      rules = rules_forget_offsets c.0 b.0 (sym b.2) c.1.rules;
      prints = sym (printed_bare b.0) ∙ ap printed (b.2 ∙ c.2);
      is_bare = b.2 ∙ c.2;
    }

library_change_back : (bytes : List ℕ) (l : List Definition) (cached : List (List ℕ)) (at next : ℕ) → IsLibrary l cached → Covers bytes at (library_bytes l cached) next
    → library_change bytes at (Ok (change.Library l cached, next))
library_change_back bytes l cached at next h p =
    let shown = text_bytes (printed l) in
    let mid = at + length shown in
    inl (
      l,
      mid,
      (printed l, text_codes.back bytes (printed l) at mid h.text (covers_first bytes shown (list text_bytes cached) at next p), printed_is l h.checked),
      sym (built_back AreNames (list text_bytes) names (change.Library l) names_codes bytes cached mid next (h.names, h.ascend) (covers_second bytes shown (list text_bytes cached) at next p)),
    )

-- what is said of a library that was read
library_is : (t : List ℕ) (l : List Definition) (cached : List (List ℕ)) → IsText t → IsPrinted t l → AreNames cached → (printed l ≡ t) × IsLibrary l cached
library_is t l cached text h names =
    let shows : printed l ≡ t = ap printed (sym h.is_bare) ∙ printed_bare h.library ∙ h.prints in (
      shows,
      record {
        checked = (h.library, record { writable = files_are_writable t h.library h.says; rules = h.rules }, h.is_bare);
        text = subst IsText (sym shows) text;
        names = names.0;
        ascend = names.1;
      },
    )

IsTaken : List ℕ → ℕ → Change × ℕ → Type 0
IsTaken bytes at w = IsChange w.0 × Covers bytes at (change_bytes w.0) w.1

library_change_taken : (bytes : List ℕ) → IsBytes bytes → (c : Change) (at next : ℕ) → Covers bytes at (1 ∷ []) (at + 1) → library_change bytes (at + 1) (Ok (c, next))
    → IsChange c × Covers bytes at (change_bytes c) next
library_change_taken bytes fits c at next tag (inr h) = absurd (ok_or_err (c, next) h.0 h.2)
library_change_taken bytes fits c at next tag (inl h) =
    let l = h.0 in let lib = h.2 in
    let t = text_codes.taken bytes fits lib.0 (at + 1) h.1 tag.within lib.1 in
    let n = bind_ok (names bytes h.1) (λ x. Ok (change.Library l x.0, x.1)) (c, next) (sym h.3) in
    let m = names_codes.taken bytes fits n.0.0 h.1 n.0.1 t.1.within n.1 in
    let is = library_is lib.0 l n.0.0 t.0 lib.2 m.0 in
    let shown : Covers bytes (at + 1) (text_bytes (printed l)) h.1 = subst (λ (x : List ℕ). Covers bytes (at + 1) (text_bytes x) h.1) (sym is.0) t.1 in
    let covered : Covers bytes at (1 ∷ library_bytes l n.0.0) n.0.1
    = covers_join bytes (1 ∷ []) (library_bytes l n.0.0) at (at + 1) n.0.1 tag (covers_join bytes (text_bytes (printed l)) (list text_bytes n.0.0) (at + 1) h.1 n.0.1 shown m.1) in
    subst (λ (w : Change × ℕ). IsChange w.0 × Covers bytes at (change_bytes w.0) w.1) (ok_is (change.Library l n.0.0, n.0.1) (c, next) n.2) (is.1, covered)

-- ---- changes
other_tag : (bytes : List ℕ) (at tag : ℕ) (b : List ℕ) (next : ℕ) → Covers bytes at (tag ∷ b) next → (tag ≡ 1 → ⊥) → HasLibraryTag bytes at → ⊥
other_tag bytes at tag b next p differs h =
    differs (ap (λ (w : ℕ × ℕ). w.0) (ok_is (tag, at + 1) (1, at + 1) (sym (byte_read bytes tag at (at + 1) (covers_first bytes (tag ∷ []) b at next p)) ∙ h)))

one_back : (bytes : List ℕ) (c : Change) (at next : ℕ) → IsChange c → Covers bytes at (change_bytes c) next → one_change bytes at (Ok (c, next))
one_back bytes (change.Library l cached) at next h p =
    inl (
      byte_read bytes 1 at (at + 1) (covers_first bytes (1 ∷ []) (library_bytes l cached) at next p),
      library_change_back bytes l cached (at + 1) next h (covers_second bytes (1 ∷ []) (library_bytes l cached) at next p),
    )
one_back bytes (change.Data v) at next h p =
    inr (other_tag bytes at 2 (spelling v) next p (λ e. omega arith), sym (other_codes.back bytes (change.Data v) at next (tt, h) p))
one_back bytes (change.Process n) at next h p =
    inr (other_tag bytes at 3 (new_bytes n) next p (λ e. omega arith), sym (other_codes.back bytes (change.Process n) at next (tt, h) p))
one_back bytes (change.Link l) at next h p =
    inr (other_tag bytes at 4 (link_bytes l) next p (λ e. omega arith), sym (other_codes.back bytes (change.Link l) at next (tt, h) p))
one_back bytes (change.Set s) at next h p =
    inr (other_tag bytes at 5 (set_bytes s) next p (λ e. omega arith), sym (other_codes.back bytes (change.Set s) at next (tt, h) p))
one_back bytes (change.Count n) at next h p =
    inr (other_tag bytes at 6 (u32_bytes n) next p (λ e. omega arith), sym (other_codes.back bytes (change.Count n) at next (tt, h) p))
one_back bytes (change.Kept k) at next h p =
    inr (other_tag bytes at 7 (kept_bytes k) next p (λ e. omega arith), sym (other_codes.back bytes (change.Kept k) at next (tt, h) p))

one_taken : (bytes : List ℕ) → IsBytes bytes → (c : Change) (at next : ℕ) → at ≤ length bytes → one_change bytes at (Ok (c, next)) → IsChange c × Covers bytes at (change_bytes c) next
one_taken bytes fits c at next le (inl h) = library_change_taken bytes fits c at next (byte_taken bytes 1 at (at + 1) h.0) h.1
one_taken bytes fits c at next le (inr h) = let t = other_codes.taken bytes fits c at next le (sym h.1) in (t.0.1, t.1)

changes_back : (bytes : List ℕ) (front cs : List Change) (at next : ℕ) → All IsChange cs → Covers bytes at (flat_map change_bytes cs) next
    → changes (length cs) front bytes at (Ok (front ++ cs, next))
changes_back bytes front [] at next h p =
    let e : next ≡ at = let n = p.next_is in omega arith in
    λ i. Ok (append-nil front i, e i)
changes_back bytes front (c ∷ cs) at next h p =
    let rest = flat_map change_bytes cs in
    let mid = at + length (change_bytes c) in
    inl (
      c,
      mid,
      one_back bytes c at mid (h 0 c (omega arith)) (covers_first bytes (change_bytes c) rest at next p),
      subst (λ (l : List Change). changes (length cs) (front ++ c ∷ []) bytes mid (Ok (l, next))) (append_assoc front (c ∷ []) cs)
          (changes_back bytes (front ++ c ∷ []) cs mid next (λ k d lt. h (suc k) d (omega arith)) (covers_second bytes (change_bytes c) rest at next p)),
    )

all_and : {A : Type 0} (P : A → Type 0) (x : A) (xs : List A) → P x → All P xs → All P (x ∷ xs)
all_and P x xs p h zero d lt = p
all_and P x xs p h (suc k) d lt = h k d (omega arith)

record Read (bytes : List ℕ) (n : ℕ) (front all : List Change) (at next : ℕ) : Type 0 where
  items : List Change
  all_is : all ≡ front ++ items
  count : length items ≡ n
  each : All IsChange items
  covers : Covers bytes at (flat_map change_bytes items) next

changes_taken : (bytes : List ℕ) → IsBytes bytes → (n : ℕ) (front all : List Change) (at next : ℕ) → at ≤ length bytes → changes n front bytes at (Ok (all, next)) → Read bytes n front all at next
changes_taken bytes fits zero front all at next le h =
    let same : (all, next) ≡ (front, at) = ok_is (all, next) (front, at) h in
    let place : next ≡ at = ap (λ x. x.1) same in
    record {
      items = [];
      all_is = ap (λ x. x.0) same ∙ sym (append-nil front);
      count = refl;
      each = λ k d lt. absurd (omega arith);
      covers = record { parts = ap (λ k. drop k bytes) (sym place); next_is = omega arith; within = omega arith };
    }
changes_taken bytes fits (suc n) front all at next le (inr h) = absurd (ok_or_err (all, next) h.0 h.2)
changes_taken bytes fits (suc n) front all at next le (inl h) =
    let one = one_taken bytes fits h.0 at h.1 le h.2 in
    let more = changes_taken bytes fits n (front ++ h.0 ∷ []) all h.1 next one.1.within h.3 in
    record {
      items = h.0 ∷ more.items;
      all_is = more.all_is ∙ append_assoc front (h.0 ∷ []) more.items;
      count = ap suc more.count;
      each = all_and IsChange h.0 more.items one.0 more.each;
      covers = covers_join bytes (change_bytes h.0) (flat_map change_bytes more.items) at h.1 next one.1 more.covers;
    }

counted_taken : (bytes : List ℕ) → IsBytes bytes → (cs : List Change) (next : ℕ) → counted_changes bytes 0 (Ok (cs, next)) → IsWritten cs × Covers bytes 0 (spelled cs) next
counted_taken bytes fits cs next (inr h) = absurd (ok_or_err (cs, next) h.0 h.2)
counted_taken bytes fits cs next (inl h) =
    let t = u32_codes.taken bytes fits h.0 0 h.1 (omega arith) (sym h.2) in
    let s = changes_taken bytes fits h.0 [] cs h.1 next t.1.within h.3 in
    let n : h.0 ≡ length cs = sym s.count ∙ ap length (sym s.all_is) in
    let count : Covers bytes 0 (u32_bytes (length cs)) h.1 = subst (λ k. Covers bytes 0 (u32_bytes k) h.1) n t.1 in (
      record { few = subst IsNumber n t.0; each = subst (λ (l : List Change). All IsChange l) (sym s.all_is) s.each },
      covers_join bytes (u32_bytes (length cs)) (flat_map change_bytes cs) 0 h.1 next count (subst (λ (l : List Change). Covers bytes h.1 (flat_map change_bytes l) next) (sym s.all_is) s.covers),
    )

-- ---- all of the bytes
all_covered : (bytes : List ℕ) → Covers bytes 0 bytes (length bytes)
all_covered bytes = record { parts = sym (append-nil bytes) ∙ ap (λ l. bytes ++ l) (sym (drop_of_length-le bytes (omega arith))); next_is = omega arith; within = omega arith }

pub written_is_read : (cs : List Change) → IsWritten cs → whole (spelled cs) (Ok cs)
written_is_read cs h =
    let bytes = spelled cs in
    let count = u32_bytes (length cs) in
    let p : Covers bytes 0 (count ++ flat_map change_bytes cs) (length bytes) = all_covered bytes in
    let mid = 0 + length count in (
      length bytes,
      inl (
        length cs,
        mid,
        sym (u32_codes.back bytes (length cs) 0 mid h.few (covers_first bytes count (flat_map change_bytes cs) 0 (length bytes) p)),
        changes_back bytes [] cs mid (length bytes) h.each (covers_second bytes count (flat_map change_bytes cs) 0 (length bytes) p),
      ),
      omega arith,
    )

pub read_is_written : (bytes : List ℕ) (cs : List Change) → IsBytes bytes → whole bytes (Ok cs) → (bytes ≡ spelled cs) × IsWritten cs
read_is_written bytes cs fits h =
    let t = counted_taken bytes fits cs h.0 h.1 in
    (t.1.parts ∙ ap (λ l. spelled cs ++ l) (drop_of_length-le bytes h.2) ∙ append-nil (spelled cs), t.0)

-- ---- what a call returned
pub found_by : (bytes : List ℕ) (r : Result (List Change) RecordError) → IsBytes bytes → Told r (whole bytes) → IfOk r (λ cs. (bytes ≡ spelled cs) × IsWritten cs)
found_by bytes (Ok cs) fits h = read_is_written bytes cs fits h
found_by bytes (Err e) fits h = tt

pub only_by : (bytes : List ℕ) (r : Result (List Change) RecordError) → Told r (whole bytes) → (cs : List Change) → bytes ≡ spelled cs → IsWritten cs → Meets r (Ok cs)
only_by bytes (Ok ds) h cs e w = whole_unique bytes (Ok ds) (Ok cs) h (subst (λ (b : List ℕ). whole b (Ok cs)) (sym e) (written_is_read cs w))
only_by bytes (Err error.OutOfMemory) h cs e w = tt
only_by bytes (Err (error.Truncated at)) h cs e w = whole_unique bytes (Err (error.Truncated at)) (Ok cs) h (subst (λ (b : List ℕ). whole b (Ok cs)) (sym e) (written_is_read cs w))
only_by bytes (Err (error.BadTag at)) h cs e w = whole_unique bytes (Err (error.BadTag at)) (Ok cs) h (subst (λ (b : List ℕ). whole b (Ok cs)) (sym e) (written_is_read cs w))
only_by bytes (Err (error.NotUtf8 at)) h cs e w = whole_unique bytes (Err (error.NotUtf8 at)) (Ok cs) h (subst (λ (b : List ℕ). whole b (Ok cs)) (sym e) (written_is_read cs w))
only_by bytes (Err (error.Unsorted at)) h cs e w = whole_unique bytes (Err (error.Unsorted at)) (Ok cs) h (subst (λ (b : List ℕ). whole b (Ok cs)) (sym e) (written_is_read cs w))
only_by bytes (Err (error.TooDeep at)) h cs e w = whole_unique bytes (Err (error.TooDeep at)) (Ok cs) h (subst (λ (b : List ℕ). whole b (Ok cs)) (sym e) (written_is_read cs w))
only_by bytes (Err (error.Trailing at)) h cs e w = whole_unique bytes (Err (error.Trailing at)) (Ok cs) h (subst (λ (b : List ℕ). whole b (Ok cs)) (sym e) (written_is_read cs w))
only_by bytes (Err (error.BadLibrary at)) h cs e w = whole_unique bytes (Err (error.BadLibrary at)) (Ok cs) h (subst (λ (b : List ℕ). whole b (Ok cs)) (sym e) (written_is_read cs w))
