-- The reading of a value ends, or is refused, within the bytes.
use Rattle.std.proofs.Common.{◌≡◌, ℕ, zero, suc, ◌+◌, ◌-◌, ◌<◌, ◌≤◌, Bool, true, false, cond, ltb, List, [], ◌∷◌, ◌++◌, length, take, drop, Result, Ok, Err, refl, arith}
use Rattle.std.specs.Prelude.{nat_eq, slice_index}
use Rattle.std.specs.Int.{w32, w64, from_be_bytes, cast_signed}
use Rattle.std.specs.Str.{is_utf8}
use Rattle.std.proofs.lemmas.Bool.{ltb-false, ltb-true}
use Rattle.wc_value.specs.Ascending.{goes_last}
use Rattle.wc_value.specs.declared.value.Value.{Value}
use Rattle.wc_value.specs.declared.value.Value.TheVariants as value
use Rattle.wc_value.specs.declared.refusal.ValueError.{ValueError}
use Rattle.wc_value.specs.declared.refusal.ValueError.TheVariants as value_error
use Rattle.wc_value.specs.Reading as read
use Rattle.wc_value.specs.Reading.{◌>>=◌}
use Rattle.wc_record.specs.Readers.{moved}
use Rattle.wc_store.specs.Held.{place_of}

-- ---- values
-- What is read of n bytes ends within them and not before a place, or is refused at a place within them.
abbrev pub Ends : {A : Type 0} → (n low : ℕ) → Result (A × ℕ) ValueError → Type 0
Ends n low (Ok x) = (low ≤ x.1) × (x.1 ≤ n)
Ends n low (Err e) = place_of (moved e) ≤ n

ends_then : {A B : Type 0} (n low from : ℕ) (r : Result (A × ℕ) ValueError) (f : A × ℕ → Result (B × ℕ) ValueError) → Ends n low r
    → ((x : A × ℕ) → low ≤ x.1 → x.1 ≤ n → Ends n from (f x)) → Ends n from (r >>= f)
ends_then n low from (Ok x) f h t = t x h.0 h.1
ends_then n low from (Err e) f h t = h

ends_if : {A : Type 0} (n low : ℕ) (c : Bool) (r s : Result (A × ℕ) ValueError) → Ends n low r → Ends n low s → Ends n low (cond c r s)
ends_if n low true r s h t = h
ends_if n low false r s h t = t

-- a later bound is one too
ends_after : {A : Type 0} (n low from : ℕ) (r : Result (A × ℕ) ValueError) → from ≤ low → Ends n low r → Ends n from r
ends_after n low from (Ok x) le h = (omega (arith, h.0), h.1)
ends_after n low from (Err e) le h = h

module _ (bytes : List ℕ) where
  abbrev n : ℕ
  n = length bytes

  pub bytes_end : (k at : ℕ) → at ≤ n → Ends n (at + k) (read.bytes_at k bytes at)
  bytes_end k at le = by (ltb (n - at) k) refl
    where
      by : (c : Bool) → ltb (n - at) k ≡ c → Ends {A = List ℕ} n (at + k) (cond c (Err (value_error.Truncated n)) (Ok (take k (drop at bytes), at + k)))
      by true e = omega arith
      by false e = let there : k ≤ n - at = ltb-false _ _ e in (omega arith, omega arith)

  byte_ends : {B : Type 0} (at low : ℕ) (f : ℕ → Result (B × ℕ) ValueError) → ((b : ℕ) → at + 1 ≤ n → Ends n low (f b)) → Ends n low (read.byte_at bytes at >>= f)
  byte_ends {B} at low f h = by (ltb at n) refl
    where
      by : (c : Bool) → ltb at n ≡ c → Ends {A = B} n low (cond c (Ok (slice_index bytes at)) (Err (value_error.Truncated n)) >>= f)
      by true e = let there : at < n = ltb-true _ _ e in h (slice_index bytes at) (omega arith)
      by false e = omega arith

  pub u32_ends : (at : ℕ) → at ≤ n → Ends n (at + 4) (read.u32_at bytes at)
  u32_ends at le =
      ends_then n (at + 4) (at + 4) (read.bytes_at 4 bytes at) (λ x. Ok (from_be_bytes w32 x.0, x.1)) (bytes_end 4 at le) (λ x low high. (low, high))

  pub i64_ends : (at : ℕ) → at ≤ n → Ends n at (read.i64_at bytes at)
  i64_ends at le =
      ends_then n (at + 8) at (read.bytes_at 8 bytes at) (λ x. Ok (cast_signed w64 (from_be_bytes w64 x.0), x.1)) (bytes_end 8 at le)
      (λ x low high. (omega arith, high))

  content_ends : (at : ℕ) → at ≤ n → Ends n (at + 4) (read.content_at bytes at)
  content_ends at le =
      ends_then n (at + 4) (at + 4) (read.u32_at bytes at) (λ k. read.bytes_at k.0 bytes k.1) (u32_ends at le)
      (λ k low high. ends_after n (k.1 + k.0) (at + 4) (read.bytes_at k.0 bytes k.1) (omega arith) (bytes_end k.0 k.1 high))

  pub text_ends : (at : ℕ) → at ≤ n → Ends n (at + 4) (read.text_at bytes at)
  text_ends at le =
      ends_then n (at + 4) (at + 4) (read.content_at bytes at) (read.checked at) (content_ends at le)
      (λ x low high. ends_if n (at + 4) (is_utf8 x.0) (Ok x) (Err (value_error.NotUtf8 (at + 4))) (low, high) (omega arith))

  -- ---- items one after another
  abbrev ItemsEnd : {A : Type 0} → (List A → ℕ → Result (A × ℕ) ValueError) → Type 0
  ItemsEnd {A} item = (front : List A) (at : ℕ) → at ≤ n → Ends n at (item front at)

  several_end : {A : Type 0} (count : ℕ) (item : List A → ℕ → Result (A × ℕ) ValueError) → ItemsEnd item → (front : List A) (at : ℕ) → at ≤ n
      → Ends n at (read.several count item front at)
  several_end zero item h front at le = (omega arith, le)
  several_end (suc count) item h front at le =
      ends_then n at at (item front at) (λ x. read.several count item (front ++ x.0 ∷ []) x.1) (h front at le)
      (λ x low high. ends_after n x.1 at (read.several count item (front ++ x.0 ∷ []) x.1) low (several_end count item h (front ++ x.0 ∷ []) x.1 high))

  counted_ends : {A : Type 0} (item : List A → ℕ → Result (A × ℕ) ValueError) → ItemsEnd item → (at : ℕ) → at ≤ n → Ends n at (read.counted item bytes at)
  counted_ends item h at le =
      ends_then n (at + 4) at (read.u32_at bytes at) (λ k. read.several k.0 item [] k.1) (u32_ends at le)
      (λ k low high. ends_after n k.1 at (read.several k.0 item [] k.1) (omega arith) (several_end k.0 item h [] k.1 high))

  pub name_ends : {T : Type 0} (front : List (List ℕ × T)) (at : ℕ) → at ≤ n → Ends n at (read.name_at front bytes at)
  name_ends front at le =
      ends_then n (at + 4) at (read.text_at bytes at) (λ k. cond (goes_last k.0 front) (Ok k) (Err (value_error.Unsorted at))) (text_ends at le)
      (λ k low high. ends_if n at (goes_last k.0 front) (Ok k) (Err (value_error.Unsorted at)) (omega arith, high) le)

  entries_end : {T : Type 0} (one : ℕ → Result (T × ℕ) ValueError) → ((at : ℕ) → at ≤ n → Ends n at (one at)) → ItemsEnd (read.entry_at one bytes)
  entries_end one h front at le =
      ends_then n at at (read.name_at front bytes at) (λ k. one k.1 >>= (λ x. Ok ((k.0, x.0), x.1))) (name_ends front at le)
      (λ k low high. ends_then n k.1 at (one k.1) (λ x. Ok ((k.0, x.0), x.1)) (h k.1 high) (λ x later inside. (omega arith, inside)))

  -- ---- what stands behind each tag
  int_ends : (at : ℕ) → at ≤ n → Ends n at (read.int_at bytes at)
  int_ends at le = ends_then n at at (read.i64_at bytes at) (λ x. Ok (value.Int x.0, x.1)) (i64_ends at le) (λ x low high. (low, high))

  bool_ends : (at : ℕ) → Ends n at (read.bool_at bytes at)
  bool_ends at =
      byte_ends at at (read.truth at)
      (λ b there.
      ends_if n at (nat_eq b 0) (Ok (value.Bool false, at + 1)) (cond (nat_eq b 1) (Ok (value.Bool true, at + 1)) (Err (value_error.BadTag at))) (omega arith, there)
      (ends_if n at (nat_eq b 1) (Ok (value.Bool true, at + 1)) (Err (value_error.BadTag at)) (omega arith, there) (omega arith)))

  text_value_ends : (at : ℕ) → at ≤ n → Ends n at (read.text_value_at bytes at)
  text_value_ends at le =
      ends_then n (at + 4) at (read.text_at bytes at) (λ x. Ok (value.Text x.0, x.1)) (text_ends at le) (λ x low high. (omega arith, high))

  list_ends : (one : ℕ → Result (Value × ℕ) ValueError) → ((at : ℕ) → at ≤ n → Ends n at (one at)) → (at : ℕ) → at ≤ n → Ends n at (read.list_at one bytes at)
  list_ends one h at le =
      ends_then n at at (read.counted (λ front. one) bytes at) read.as_list (counted_ends (λ front. one) (λ front. h) at le) (λ x low high. (low, high))

  dict_ends : (one : ℕ → Result (Value × ℕ) ValueError) → ((at : ℕ) → at ≤ n → Ends n at (one at)) → (at : ℕ) → at ≤ n → Ends n at (read.dict_at one bytes at)
  dict_ends one h at le =
      ends_then n at at (read.counted (read.entry_at one bytes) bytes at) read.as_dict (counted_ends (read.entry_at one bytes) (entries_end one h) at le)
      (λ x low high. (low, high))

  folder_ends : (at : ℕ) → at ≤ n → Ends n at (read.folder_at bytes at)
  folder_ends at le =
      ends_then n at at (read.counted (read.entry_at (read.content_at bytes) bytes) bytes at) read.as_folder
      (counted_ends (read.entry_at (read.content_at bytes) bytes)
      (entries_end (read.content_at bytes) (λ place within. ends_after n (place + 4) place (read.content_at bytes place) (omega arith) (content_ends place within))) at le)
      (λ x low high. (low, high))

  module _ (one : ℕ → Result (Value × ℕ) ValueError) (h : (at : ℕ) → at ≤ n → Ends n at (one at)) (at tag : ℕ) (there : at + 1 ≤ n) where
    sooner : {A : Type 0} (r : Result (A × ℕ) ValueError) → Ends n (at + 1) r → Ends n at r
    sooner r ends = ends_after n (at + 1) at r (omega arith) ends

    behind_ends : Ends n at (read.behind one bytes at tag)
    behind_ends =
        ends_if n at (nat_eq tag 1) (read.int_at bytes (at + 1)) _ (sooner _ (int_ends (at + 1) there))
        (ends_if n at (nat_eq tag 2) (read.bool_at bytes (at + 1)) _ (sooner _ (bool_ends (at + 1)))
        (ends_if n at (nat_eq tag 3) (read.text_value_at bytes (at + 1)) _ (sooner _ (text_value_ends (at + 1) there))
        (ends_if n at (nat_eq tag 4) (read.list_at one bytes (at + 1)) _ (sooner _ (list_ends one h (at + 1) there))
        (ends_if n at (nat_eq tag 5) (read.dict_at one bytes (at + 1)) _ (sooner _ (dict_ends one h (at + 1) there))
        (ends_if n at (nat_eq tag 6) (read.folder_at bytes (at + 1)) (Err (value_error.BadTag at)) (sooner _ (folder_ends (at + 1) there)) (omega arith))))))

  pub value_ends : (levels at : ℕ) → at ≤ n → Ends n at (read.value_at levels bytes at)
  value_ends zero at le =
      byte_ends at at (read.too_deep at) (λ tag there. ends_if n at _ (Err (value_error.TooDeep at)) (Err (value_error.BadTag at)) le le)
  value_ends (suc levels) at le =
      byte_ends at at (read.behind (read.value_at levels bytes) bytes at)
      (λ tag there. behind_ends (read.value_at levels bytes) (λ place within. value_ends levels place within) at tag there)
