-- A refusal stays whatever bytes follow, unless it is that bytes are missing.
use Rattle.std.proofs.Common.{◌≡◌, ℕ, zero, suc, ◌+◌, ◌-◌, ◌<◌, ◌≤◌, Bool, true, false, cond, ltb, List, [], ◌∷◌, ◌++◌, length, take, drop, Result, Ok, Err, refl, sym, ap, subst, ◌∙◌, ⊎_elim, arith}
use Rattle.std.specs.Prelude.{slice_index, nat_eq}
use Rattle.std.specs.Int.{w32, w64, from_be_bytes, cast_signed}
use Rattle.std.specs.Str.{is_utf8}
use Rattle.std.proofs.lemmas.Bool.{cases_lt, ltb-false, ltb-true, le-ltb, lt-ltb}
use Rattle.std.proofs.lemmas.List.{length-append, length-drop, take-append-le, drop-append-le, get_or_append_left}
use Rattle.wc_value.specs.Ascending.{goes_last}
use Rattle.wc_value.specs.declared.value.Value.{Value}
use Rattle.wc_value.specs.declared.value.Value.TheVariants as value
use Rattle.wc_value.specs.declared.refusal.ValueError.{ValueError}
use Rattle.wc_value.specs.declared.refusal.ValueError.TheVariants.{Truncated, BadTag, NotUtf8, Unsorted, TooDeep, Trailing}
use Rattle.wc_value.specs.Refusals.{IsTruncated}
use Rattle.wc_value.specs.Reading.{◌>>=◌, bytes_at, byte_at, u32_at, i64_at, content_at, checked, text_at, several, counted, name_at, entry_at, int_at, truth, bool_at, text_value_at, as_list, list_at, as_dict, dict_at, as_folder, folder_at, behind, too_deep, value_at, ended, whole}

-- What is read from n bytes, beside what is read where others follow: the same, unless bytes are missing at the end.
abbrev pub Stays : {A : Type 0} → ℕ → Result A ValueError → Result A ValueError → Type 0
Stays n (Ok x) later = later ≡ Ok x
Stays n (Err (Truncated k)) later = k ≡ n
Stays n (Err e) later = later ≡ Err e

stays_then : {A B : Type 0} (n : ℕ) (r s : Result A ValueError) (f g : A → Result B ValueError) → Stays n r s → ((x : A) → Stays n (f x) (g x)) → Stays n (r >>= f) (s >>= g)
stays_then n (Ok x) s f g h t = subst (λ p. Stays n (f x) (p >>= g)) (sym h) (t x)
stays_then n (Err (Truncated k)) s f g h t = h
stays_then n (Err e) s f g h t = ap (λ p. p >>= g) h

stays_if : {A : Type 0} (n : ℕ) (c : Bool) (r s r' s' : Result A ValueError) → Stays n r r' → Stays n s s' → Stays n (cond c r s) (cond c r' s')
stays_if n true r s r' s' h t = h
stays_if n false r s r' s' h t = t

-- ---- bytes
same_part : (k : ℕ) (bytes more : List ℕ) (at : ℕ) → k ≤ length bytes - at → take k (drop at (bytes ++ more)) ≡ take k (drop at bytes)
same_part k bytes more at h =
    ⊎_elim
    (λ (out : length bytes < at). let none : k ≡ 0 = omega arith in ap (λ (j : ℕ). take j (drop at (bytes ++ more))) none ∙ ap (λ (j : ℕ). take j (drop at bytes)) (sym none))
    (λ (inside : at ≤ length bytes).
    let len = length-drop at bytes in
    ap (take k) (drop-append-le at bytes more inside) ∙ take-append-le k (drop at bytes) more (omega arith))
    (cases_lt (length bytes) at)

pub bytes_stay : (k : ℕ) (bytes more : List ℕ) (at : ℕ) → Stays (length bytes) (bytes_at k bytes at) (bytes_at k (bytes ++ more) at)
bytes_stay k bytes more at = by (ltb (length bytes - at) k) refl
  where
    by : (c : Bool) → ltb (length bytes - at) k ≡ c
        → Stays (length bytes) (cond c (Err (Truncated (length bytes))) (Ok (take k (drop at bytes), at + k))) (bytes_at k (bytes ++ more) at)
    by true e = refl
    by false e =
        let there : k ≤ length bytes - at = ltb-false _ _ e in
        let long : ltb (length (bytes ++ more) - at) k ≡ false = le-ltb _ _ (omega (arith, length-append bytes more)) in
        ap (λ (c : Bool). cond c (Err (Truncated (length (bytes ++ more)))) (Ok (take k (drop at (bytes ++ more)), at + k))) long
        ∙ ap (λ (part : List ℕ). Ok (part, at + k)) (same_part k bytes more at there)

pub byte_stays : (bytes more : List ℕ) (at : ℕ) → Stays (length bytes) (byte_at bytes at) (byte_at (bytes ++ more) at)
byte_stays bytes more at = by (ltb at (length bytes)) refl
  where
    by : (c : Bool) → ltb at (length bytes) ≡ c → Stays (length bytes) (cond c (Ok (slice_index bytes at)) (Err (Truncated (length bytes)))) (byte_at (bytes ++ more) at)
    by true e =
        let there : at < length bytes = ltb-true _ _ e in
        let long : ltb at (length (bytes ++ more)) ≡ true = lt-ltb _ _ (omega (arith, length-append bytes more)) in
        ap (λ (c : Bool). cond c (Ok (slice_index (bytes ++ more) at)) (Err (Truncated (length (bytes ++ more))))) long
        ∙ ap Ok (get_or_append_left bytes more 0 at there)
    by false e = refl

-- ---- what stands at a place of the bytes, where others follow
module _ (bytes more : List ℕ) where
  abbrev n : ℕ
  n = length bytes

  abbrev both : List ℕ
  both = bytes ++ more

  pub u32_stays : (at : ℕ) → Stays n (u32_at bytes at) (u32_at both at)
  u32_stays at = stays_then n _ _ (λ x. Ok (from_be_bytes w32 x.0, x.1)) (λ x. Ok (from_be_bytes w32 x.0, x.1)) (bytes_stay 4 bytes more at) (λ x. refl)

  pub i64_stays : (at : ℕ) → Stays n (i64_at bytes at) (i64_at both at)
  i64_stays at =
      stays_then n _ _ (λ x. Ok (cast_signed w64 (from_be_bytes w64 x.0), x.1)) (λ x. Ok (cast_signed w64 (from_be_bytes w64 x.0), x.1)) (bytes_stay 8 bytes more at) (λ x. refl)

  pub content_stays : (at : ℕ) → Stays n (content_at bytes at) (content_at both at)
  content_stays at = stays_then n _ _ (λ k. bytes_at k.0 bytes k.1) (λ k. bytes_at k.0 both k.1) (u32_stays at) (λ k. bytes_stay k.0 bytes more k.1)

  pub text_stays : (at : ℕ) → Stays n (text_at bytes at) (text_at both at)
  text_stays at = stays_then n _ _ (checked at) (checked at) (content_stays at) (λ x. stays_if n (is_utf8 x.0) (Ok x) (Err (NotUtf8 (at + 4))) _ _ refl refl)

  -- ---- items one after another
  abbrev ItemsStay : {A : Type 0} → (List A → ℕ → Result (A × ℕ) ValueError) → (List A → ℕ → Result (A × ℕ) ValueError) → Type 0
  ItemsStay {A} item later = (front : List A) (at : ℕ) → Stays n (item front at) (later front at)

  pub several_stay : {A : Type 0} (count : ℕ) (item later : List A → ℕ → Result (A × ℕ) ValueError) → ItemsStay item later
      → (front : List A) (at : ℕ) → Stays n (several count item front at) (several count later front at)
  several_stay zero item later h front at = refl
  several_stay (suc count) item later h front at =
      stays_then n _ _ (λ x. several count item (front ++ x.0 ∷ []) x.1) (λ x. several count later (front ++ x.0 ∷ []) x.1) (h front at)
      (λ x. several_stay count item later h (front ++ x.0 ∷ []) x.1)

  pub counted_stay : {A : Type 0} (item later : List A → ℕ → Result (A × ℕ) ValueError) → ItemsStay item later
      → (at : ℕ) → Stays n (counted item bytes at) (counted later both at)
  counted_stay item later h at = stays_then n _ _ (λ k. several k.0 item [] k.1) (λ k. several k.0 later [] k.1) (u32_stays at) (λ k. several_stay k.0 item later h [] k.1)

  pub name_stays : {T : Type 0} (front : List (List ℕ × T)) (at : ℕ) → Stays n (name_at front bytes at) (name_at front both at)
  name_stays front at =
      stays_then n _ _ (λ k. cond (goes_last k.0 front) (Ok k) (Err (Unsorted at))) (λ k. cond (goes_last k.0 front) (Ok k) (Err (Unsorted at))) (text_stays at)
      (λ k. stays_if n (goes_last k.0 front) (Ok k) (Err (Unsorted at)) _ _ refl refl)

  pub entries_stay : {T : Type 0} (read later : ℕ → Result (T × ℕ) ValueError) → ((at : ℕ) → Stays n (read at) (later at))
      → ItemsStay (entry_at read bytes) (entry_at later both)
  entries_stay read later h front at =
      stays_then n _ _ (λ k. read k.1 >>= (λ x. Ok ((k.0, x.0), x.1))) (λ k. later k.1 >>= (λ x. Ok ((k.0, x.0), x.1))) (name_stays front at)
      (λ k. stays_then n _ _ (λ x. Ok ((k.0, x.0), x.1)) (λ x. Ok ((k.0, x.0), x.1)) (h k.1) (λ x. refl))

  -- ---- what stands behind each tag
  int_stays : (at : ℕ) → Stays n (int_at bytes at) (int_at both at)
  int_stays at = stays_then n _ _ (λ x. Ok (value.Int x.0, x.1)) (λ x. Ok (value.Int x.0, x.1)) (i64_stays at) (λ x. refl)

  bool_stays : (at : ℕ) → Stays n (bool_at bytes at) (bool_at both at)
  bool_stays at =
      stays_then n _ _ (truth at) (truth at) (byte_stays bytes more at)
      (λ b. stays_if n (nat_eq b 0) (Ok (value.Bool false, at + 1)) _ _ _ refl (stays_if n (nat_eq b 1) (Ok (value.Bool true, at + 1)) (Err (BadTag at)) _ _ refl refl))

  text_value_stays : (at : ℕ) → Stays n (text_value_at bytes at) (text_value_at both at)
  text_value_stays at = stays_then n _ _ (λ x. Ok (value.Text x.0, x.1)) (λ x. Ok (value.Text x.0, x.1)) (text_stays at) (λ x. refl)

  folder_stays : (at : ℕ) → Stays n (folder_at bytes at) (folder_at both at)
  folder_stays at =
      stays_then n _ _ as_folder as_folder
      (counted_stay (entry_at (content_at bytes) bytes) (entry_at (content_at both) both) (entries_stay (content_at bytes) (content_at both) content_stays) at) (λ x. refl)

  behind_stays : (read later : ℕ → Result (Value × ℕ) ValueError) → ((at : ℕ) → Stays n (read at) (later at))
      → (at tag : ℕ) → Stays n (behind read bytes at tag) (behind later both at tag)
  behind_stays read later h at tag =
      stays_if n (nat_eq tag 1) (int_at bytes (at + 1)) _ _ _ (int_stays (at + 1))
      (stays_if n (nat_eq tag 2) (bool_at bytes (at + 1)) _ _ _ (bool_stays (at + 1))
      (stays_if n (nat_eq tag 3) (text_value_at bytes (at + 1)) _ _ _ (text_value_stays (at + 1))
      (stays_if n (nat_eq tag 4) (list_at read bytes (at + 1)) _ _ _
      (stays_then n _ _ as_list as_list (counted_stay (λ front. read) (λ front. later) (λ front. h) (at + 1)) (λ x. refl))
      (stays_if n (nat_eq tag 5) (dict_at read bytes (at + 1)) _ _ _
      (stays_then n _ _ as_dict as_dict (counted_stay (entry_at read bytes) (entry_at later both) (entries_stay read later h) (at + 1)) (λ x. refl))
      (stays_if n (nat_eq tag 6) (folder_at bytes (at + 1)) (Err (BadTag at)) _ _ (folder_stays (at + 1)) refl)))))

  pub value_stays : (levels at : ℕ) → Stays n (value_at levels bytes at) (value_at levels both at)
  value_stays zero at =
      stays_then n _ _ (too_deep at) (too_deep at) (byte_stays bytes more at)
      (λ tag. stays_if n _ (Err (TooDeep at)) (Err (BadTag at)) _ _ refl refl)
  value_stays (suc levels) at =
      stays_then n _ _ (behind (value_at levels bytes) bytes at) (behind (value_at levels both) both at) (byte_stays bytes more at)
      (λ tag. behind_stays (value_at levels bytes) (value_at levels both) (value_stays levels) at tag)

-- ---- all of the bytes
trailing_stays : (bytes more : List ℕ) (x : Value × ℕ) (e : ValueError) → ended bytes x ≡ Err e → ended (bytes ++ more) x ≡ Err e
trailing_stays bytes more x e h = by (ltb x.1 (length bytes)) refl h
  where
    by : (c : Bool) → ltb x.1 (length bytes) ≡ c → cond c (Err (Trailing x.1)) (Ok x.0) ≡ Err e → ended (bytes ++ more) x ≡ Err e
    by true p g =
        let before : x.1 < length bytes = ltb-true _ _ p in
        let long : ltb x.1 (length (bytes ++ more)) ≡ true = lt-ltb _ _ (omega (arith, length-append bytes more)) in
        ap (λ (c : Bool). cond c (Err (Trailing x.1)) (Ok x.0)) long ∙ g
    by false p g = absurd (cc)

whole_stays : (bytes more : List ℕ) (r s : Result (Value × ℕ) ValueError) (e : ValueError) → Stays (length bytes) r s
    → (r >>= ended bytes) ≡ Err e → (IsTruncated e → ⊥) → (s >>= ended (bytes ++ more)) ≡ Err e
whole_stays bytes more (Ok x) s e h p other = ap (λ r. r >>= ended (bytes ++ more)) h ∙ trailing_stays bytes more x e p
whole_stays bytes more (Err (Truncated k)) s e h p other = let same : Truncated k ≡ e = cc in absurd (other (subst IsTruncated same tt))
whole_stays bytes more (Err d) s e h p other = ap (λ r. r >>= ended (bytes ++ more)) h ∙ p

truncated_end : (bytes : List ℕ) (r s : Result (Value × ℕ) ValueError) (k : ℕ) → Stays (length bytes) r s → (r >>= ended bytes) ≡ Err (Truncated k) → k ≡ length bytes
truncated_end bytes (Ok x) s k h p = by (ltb x.1 (length bytes)) p
  where
    by : (c : Bool) → cond c (Err (Trailing x.1)) (Ok x.0) ≡ Err (Truncated k) → k ≡ length bytes
    by true g = absurd (cc)
    by false g = absurd (cc)
truncated_end bytes (Err (Truncated j)) s k h p = let same : j ≡ k = cc in sym same ∙ h
truncated_end bytes (Err d) s k h p = absurd (cc)

pub refusal_stays : (bytes more : List ℕ) (e : ValueError) → whole bytes ≡ Err e → (IsTruncated e → ⊥) → whole (bytes ++ more) ≡ Err e
refusal_stays bytes more e p other = whole_stays bytes more (value_at 32 bytes 0) (value_at 32 (bytes ++ more) 0) e (value_stays bytes more 32 0) p other

pub truncated_at_end : (bytes : List ℕ) (k : ℕ) → whole bytes ≡ Err (Truncated k) → k ≡ length bytes
truncated_at_end bytes k p = truncated_end bytes (value_at 32 bytes 0) (value_at 32 (bytes ++ []) 0) k (value_stays bytes [] 32 0) p
