-- Any bytes can be followed by others after which none are missing.
use Rattle.std.proofs.Common.{◌≡◌, ℕ, ℤ, zero, suc, ◌+◌, ◌-◌, Bool, true, false, cond, ltb, List, [], ◌∷◌, ◌++◌, length, take, drop, Result, Ok, Err, refl, sym, ap, subst, ◌∙◌, arith, append_assoc, replicate}
use Rattle.std.specs.Prelude.{slice_index, nat_eq}
use Rattle.std.specs.Int.{w32, w64, from_be_bytes, cast_signed}
use Rattle.std.specs.Str.{is_utf8}
use Rattle.std.proofs.lemmas.Bool.{le-ltb, lt-ltb}
use Rattle.std.proofs.lemmas.List.{length-append, length-replicate}
use Rattle.wc_value.specs.Ascending.{goes_last}
use Rattle.wc_value.specs.declared.value.Value.{Value}
use Rattle.wc_value.specs.declared.value.Value.TheVariants as value
use Rattle.wc_value.specs.declared.refusal.ValueError.{ValueError}
use Rattle.wc_value.specs.declared.refusal.ValueError.TheVariants.{Truncated, BadTag, NotUtf8, Unsorted, TooDeep, Trailing}
use Rattle.wc_value.specs.Reading.{◌>>=◌, bytes_at, byte_at, u32_at, i64_at, content_at, checked, text_at, several, counted, name_at, entry_at, int_at, truth, bool_at, text_value_at, list_at, dict_at, folder_at, behind, too_deep, value_at, ended, whole}
use Rattle.wc_value.proofs.Stays.{Stays, bytes_stay, byte_stays, u32_stays, i64_stays, content_stays, text_stays, counted_stay, name_stays, entries_stay, value_stays}

-- no bytes are missing
abbrev pub IsSettled : {A : Type 0} → Result A ValueError → Type 0
IsSettled (Err (Truncated k)) = ⊥
IsSettled _ = Unit {0}

-- Behind any bytes some others can be put after which none are missing.
abbrev Settles : {A : Type 0} → (List ℕ → Result A ValueError) → Type 0
Settles read = (bytes : List ℕ) → (more : List ℕ) × IsSettled (read (bytes ++ more))

-- What is read of bytes stays where others follow.
abbrev Keeps : {A : Type 0} → (List ℕ → Result A ValueError) → Type 0
Keeps read = (bytes more : List ℕ) → Stays (length bytes) (read bytes) (read (bytes ++ more))

settles_then : {A B : Type 0} (f : List ℕ → Result A ValueError) (g : A → List ℕ → Result B ValueError) → Keeps f → Settles f → ((x : A) → Settles (g x))
    → Settles (λ bytes. f bytes >>= (λ x. g x bytes))
settles_then {A} {B} f g keeps h t = λ bytes. by bytes (h bytes).0 (f (bytes ++ (h bytes).0)) refl (h bytes).1
  where
    by : (bytes more : List ℕ) (r : Result A ValueError) → f (bytes ++ more) ≡ r → IsSettled r
        → (all : List ℕ) × IsSettled (f (bytes ++ all) >>= (λ x. g x (bytes ++ all)))
    by bytes more (Ok x) e s =
        let last = t x (bytes ++ more) in
        let later : f ((bytes ++ more) ++ last.0) ≡ Ok x = subst (λ r. Stays (length (bytes ++ more)) r (f ((bytes ++ more) ++ last.0))) e (keeps (bytes ++ more) last.0) in (
          more ++ last.0,
          subst (λ (l : List ℕ). IsSettled (f l >>= (λ x. g x l))) (append_assoc bytes more last.0)
              (subst (λ r. IsSettled (r >>= (λ x. g x ((bytes ++ more) ++ last.0)))) (sym later) last.1),
        )
    by bytes more (Err (Truncated k)) e s = absurd s
    by bytes more (Err d) e s = (more, subst (λ r. IsSettled (r >>= (λ x. g x (bytes ++ more)))) (sym e) tt)

settles_if : {A : Type 0} (c : Bool) (r s : List ℕ → Result A ValueError) → Settles r → Settles s → Settles (λ bytes. cond c (r bytes) (s bytes))
settles_if true r s h t = h
settles_if false r s h t = t

at_once : {A : Type 0} (x : A) → Settles (λ bytes. Ok x)
at_once x = λ bytes. ([], tt)

-- one of two answers, of which neither tells that bytes are missing
either : {A : Type 0} (c : Bool) (r s : Result A ValueError) → IsSettled r → IsSettled s → Settles (λ bytes. cond c r s)
either true r s h t = λ bytes. ([], h)
either false r s h t = λ bytes. ([], t)

-- ---- bytes
bytes_settle : (k at : ℕ) → Settles (λ bytes. bytes_at k bytes at)
bytes_settle k at = λ bytes.
    let more : List ℕ = replicate (at + k) 0 in
    let all : List ℕ = bytes ++ more in
    let size : length all ≡ length bytes + (at + k) = length-append bytes more ∙ ap (λ (n : ℕ). length bytes + n) (length-replicate (at + k) 0) in
    let long : ltb (length all - at) k ≡ false = le-ltb _ _ (omega arith) in
    (more, subst (λ (c : Bool). IsSettled {A = List ℕ × ℕ} (cond c (Err (Truncated (length all))) (Ok (take k (drop at all), at + k)))) (sym long) tt)

byte_settles : (at : ℕ) → Settles (λ bytes. byte_at bytes at)
byte_settles at = λ bytes.
    let more : List ℕ = replicate (at + 1) 0 in
    let all : List ℕ = bytes ++ more in
    let size : length all ≡ length bytes + (at + 1) = length-append bytes more ∙ ap (λ (n : ℕ). length bytes + n) (length-replicate (at + 1) 0) in
    let long : ltb at (length all) ≡ true = lt-ltb _ _ (omega arith) in
    (more, subst (λ (c : Bool). IsSettled (cond c (Ok (slice_index all at)) (Err (Truncated (length all))))) (sym long) tt)

u32_settles : (at : ℕ) → Settles (λ bytes. u32_at bytes at)
u32_settles at = settles_then (λ bytes. bytes_at 4 bytes at) (λ x bytes. Ok (from_be_bytes w32 x.0, x.1)) (λ bytes more. bytes_stay 4 bytes more at) (bytes_settle 4 at) (λ x. at_once {A = ℕ × ℕ} (from_be_bytes w32 x.0, x.1))

i64_settles : (at : ℕ) → Settles (λ bytes. i64_at bytes at)
i64_settles at =
    settles_then (λ bytes. bytes_at 8 bytes at) (λ x bytes. Ok (cast_signed w64 (from_be_bytes w64 x.0), x.1)) (λ bytes more. bytes_stay 8 bytes more at) (bytes_settle 8 at)
    (λ x. at_once {A = ℤ × ℕ} (cast_signed w64 (from_be_bytes w64 x.0), x.1))

content_settles : (at : ℕ) → Settles (λ bytes. content_at bytes at)
content_settles at = settles_then (λ bytes. u32_at bytes at) (λ k bytes. bytes_at k.0 bytes k.1) (λ bytes more. u32_stays bytes more at) (u32_settles at) (λ k. bytes_settle k.0 k.1)

text_settles : (at : ℕ) → Settles (λ bytes. text_at bytes at)
text_settles at =
    settles_then (λ bytes. content_at bytes at) (λ x bytes. checked at x) (λ bytes more. content_stays bytes more at) (content_settles at)
    (λ x. either (is_utf8 x.0) (Ok x) (Err (NotUtf8 (at + 4))) tt tt)

-- ---- items one after another
abbrev Item : Type 0 → Type 0
Item A = List ℕ → List A → ℕ → Result (A × ℕ) ValueError

abbrev ItemKeeps : {A : Type 0} → Item A → Type 0
ItemKeeps {A} item = (front : List A) (at : ℕ) → Keeps (λ bytes. item bytes front at)

abbrev ItemSettles : {A : Type 0} → Item A → Type 0
ItemSettles {A} item = (front : List A) (at : ℕ) → Settles (λ bytes. item bytes front at)

several_settle : {A : Type 0} (count : ℕ) (item : Item A) → ItemKeeps item → ItemSettles item → (front : List A) (at : ℕ) → Settles (λ bytes. several count (item bytes) front at)
several_settle {A} zero item keeps h front at = at_once {A = List A × ℕ} (front, at)
several_settle (suc count) item keeps h front at =
    settles_then (λ bytes. item bytes front at) (λ x bytes. several count (item bytes) (front ++ x.0 ∷ []) x.1) (keeps front at) (h front at)
    (λ x. several_settle count item keeps h (front ++ x.0 ∷ []) x.1)

counted_settles : {A : Type 0} (item : Item A) → ItemKeeps item → ItemSettles item → (at : ℕ) → Settles (λ bytes. counted (item bytes) bytes at)
counted_settles item keeps h at =
    settles_then (λ bytes. u32_at bytes at) (λ k bytes. several k.0 (item bytes) [] k.1) (λ bytes more. u32_stays bytes more at) (u32_settles at)
    (λ k. several_settle k.0 item keeps h [] k.1)

counted_keeps : {A : Type 0} (item : Item A) → ItemKeeps item → (at : ℕ) → Keeps (λ bytes. counted (item bytes) bytes at)
counted_keeps item keeps at bytes more = counted_stay bytes more (item bytes) (item (bytes ++ more)) (λ front place. keeps front place bytes more) at

name_settles : {T : Type 0} (front : List (List ℕ × T)) (at : ℕ) → Settles (λ bytes. name_at front bytes at)
name_settles front at =
    settles_then (λ bytes. text_at bytes at) (λ k bytes. cond (goes_last k.0 front) (Ok k) (Err (Unsorted at))) (λ bytes more. text_stays bytes more at) (text_settles at)
    (λ k. either (goes_last k.0 front) (Ok k) (Err (Unsorted at)) tt tt)

-- a reading of what stands at a place
abbrev Reader : Type 0 → Type 0
Reader T = List ℕ → ℕ → Result (T × ℕ) ValueError

abbrev Both : {T : Type 0} → Reader T → Type 0
Both read = (at : ℕ) → Keeps (λ bytes. read bytes at) × Settles (λ bytes. read bytes at)

entries_keep : {T : Type 0} (read : Reader T) → Both read → ItemKeeps (λ bytes. entry_at (read bytes) bytes)
entries_keep read h front at bytes more = entries_stay bytes more (read bytes) (read (bytes ++ more)) (λ place. (h place).0 bytes more) front at

entries_settle : {T : Type 0} (read : Reader T) → Both read → ItemSettles (λ bytes. entry_at (read bytes) bytes)
entries_settle {T} read h front at =
    settles_then (λ bytes. name_at front bytes at) (λ k bytes. read bytes k.1 >>= (λ x. Ok ((k.0, x.0), x.1))) (λ bytes more. name_stays bytes more front at) (name_settles front at)
    (λ k. settles_then (λ bytes. read bytes k.1) (λ x bytes. Ok ((k.0, x.0), x.1)) (h k.1).0 (h k.1).1 (λ x. at_once {A = (List ℕ × T) × ℕ} ((k.0, x.0), x.1)))

-- ---- what stands behind each tag
int_settles : (at : ℕ) → Settles (λ bytes. int_at bytes at)
int_settles at = settles_then (λ bytes. i64_at bytes at) (λ x bytes. Ok (value.Int x.0, x.1)) (λ bytes more. i64_stays bytes more at) (i64_settles at) (λ x. at_once {A = Value × ℕ} (value.Int x.0, x.1))

truth_is_settled : (at b : ℕ) → Settles (λ bytes. truth at b)
truth_is_settled at b =
    settles_if (nat_eq b 0) (λ bytes. Ok (value.Bool false, at + 1)) (λ bytes. cond (nat_eq b 1) (Ok (value.Bool true, at + 1)) (Err (BadTag at))) (at_once {A = Value × ℕ} (value.Bool false, at + 1))
    (either (nat_eq b 1) (Ok (value.Bool true, at + 1)) (Err (BadTag at)) tt tt)

bool_settles : (at : ℕ) → Settles (λ bytes. bool_at bytes at)
bool_settles at = settles_then (λ bytes. byte_at bytes at) (λ b bytes. truth at b) (λ bytes more. byte_stays bytes more at) (byte_settles at) (truth_is_settled at)

text_value_settles : (at : ℕ) → Settles (λ bytes. text_value_at bytes at)
text_value_settles at = settles_then (λ bytes. text_at bytes at) (λ x bytes. Ok (value.Text x.0, x.1)) (λ bytes more. text_stays bytes more at) (text_settles at) (λ x. at_once {A = Value × ℕ} (value.Text x.0, x.1))

-- a container behind its tag
container_settles : {A : Type 0} (item : Item A) (done : List A → Value) → ItemKeeps item → ItemSettles item → (at : ℕ)
    → Settles {A = Value × ℕ} (λ bytes. counted (item bytes) bytes at >>= (λ x. Ok (done x.0, x.1)))
container_settles item done keeps h at =
    settles_then (λ bytes. counted (item bytes) bytes at) (λ x bytes. Ok (done x.0, x.1)) (counted_keeps item keeps at) (counted_settles item keeps h at) (λ x. at_once {A = Value × ℕ} (done x.0, x.1))

contents : Both content_at
contents at = ((λ bytes more. content_stays bytes more at), content_settles at)

folder_settles : (at : ℕ) → Settles (λ bytes. folder_at bytes at)
folder_settles at = container_settles (λ bytes. entry_at (content_at bytes) bytes) value.Folder (entries_keep content_at contents) (entries_settle content_at contents) at

module _ (read : Reader Value) (h : Both read) (at tag : ℕ) where
  abbrev from_6 : List ℕ → Result (Value × ℕ) ValueError
  from_6 bytes = cond (nat_eq tag 6) (folder_at bytes (at + 1)) (Err (BadTag at))

  abbrev from_5 : List ℕ → Result (Value × ℕ) ValueError
  from_5 bytes = cond (nat_eq tag 5) (dict_at (read bytes) bytes (at + 1)) (from_6 bytes)

  abbrev from_4 : List ℕ → Result (Value × ℕ) ValueError
  from_4 bytes = cond (nat_eq tag 4) (list_at (read bytes) bytes (at + 1)) (from_5 bytes)

  abbrev from_3 : List ℕ → Result (Value × ℕ) ValueError
  from_3 bytes = cond (nat_eq tag 3) (text_value_at bytes (at + 1)) (from_4 bytes)

  abbrev from_2 : List ℕ → Result (Value × ℕ) ValueError
  from_2 bytes = cond (nat_eq tag 2) (bool_at bytes (at + 1)) (from_3 bytes)

  settles_6 : Settles from_6
  settles_6 = settles_if (nat_eq tag 6) (λ bytes. folder_at bytes (at + 1)) (λ bytes. Err (BadTag at)) (folder_settles (at + 1)) (λ bytes. ([], tt))

  settles_5 : Settles from_5
  settles_5 =
      settles_if (nat_eq tag 5) (λ bytes. dict_at (read bytes) bytes (at + 1)) from_6
      (container_settles (λ bytes. entry_at (read bytes) bytes) value.Dict (entries_keep read h) (entries_settle read h) (at + 1)) settles_6

  settles_4 : Settles from_4
  settles_4 =
      settles_if (nat_eq tag 4) (λ bytes. list_at (read bytes) bytes (at + 1)) from_5
      (container_settles (λ bytes front. read bytes) value.List (λ front place. (h place).0) (λ front place. (h place).1) (at + 1)) settles_5

  settles_2 : Settles from_2
  settles_2 =
      settles_if (nat_eq tag 2) (λ bytes. bool_at bytes (at + 1)) from_3 (bool_settles (at + 1))
      (settles_if (nat_eq tag 3) (λ bytes. text_value_at bytes (at + 1)) from_4 (text_value_settles (at + 1)) settles_4)

  behind_settles : Settles (λ bytes. behind (read bytes) bytes at tag)
  behind_settles = settles_if (nat_eq tag 1) (λ bytes. int_at bytes (at + 1)) from_2 (int_settles (at + 1)) settles_2

value_settles : (levels at : ℕ) → Settles (λ bytes. value_at levels bytes at)
value_settles zero at =
    settles_then (λ bytes. byte_at bytes at) (λ tag bytes. too_deep at tag) (λ bytes more. byte_stays bytes more at) (byte_settles at)
    (λ tag. either _ (Err (TooDeep at)) (Err (BadTag at)) tt tt)
value_settles (suc levels) at =
    settles_then (λ bytes. byte_at bytes at) (λ tag bytes. behind (value_at levels bytes) bytes at tag) (λ bytes more. byte_stays bytes more at) (byte_settles at)
    (behind_settles (λ bytes. value_at levels bytes) (λ place. ((λ bytes more. value_stays bytes more levels place), value_settles levels place)) at)

-- ---- all of the bytes
ended_settles : (x : Value × ℕ) → Settles (λ bytes. ended bytes x)
ended_settles x = λ bytes. ([], by (ltb x.1 (length (bytes ++ []))))
  where
    by : (c : Bool) → IsSettled (cond c (Err (Trailing x.1)) (Ok x.0))
    by true = tt
    by false = tt

not_missing : {A : Type 0} (r : Result A ValueError) → IsSettled r → (k : ℕ) → r ≡ Err (Truncated k) → ⊥
not_missing r h k e = subst IsSettled e h

pub can_be_completed : (bytes : List ℕ) → (more : List ℕ) × ((k : ℕ) → whole (bytes ++ more) ≡ Err (Truncated k) → ⊥)
can_be_completed bytes =
    let r = settles_then (λ (b : List ℕ). value_at 32 b 0) (λ x b. ended b x) (λ b more. value_stays b more 32 0) (value_settles 32 0) ended_settles bytes in
    (r.0, not_missing (whole (bytes ++ r.0)) r.1)
