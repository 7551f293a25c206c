-- Lists behind their count: what is spelled is read, and what is read is spelled.
use Rattle.std.proofs.Common.{◌≡◌, ℕ, zero, suc, ◌+◌, ◌-◌, ◌≤◌, Bool, true, List, [], ◌∷◌, ◌++◌, length, get_or, drop, Option, Some, Ok, refl, sym, ap, subst, ◌∙◌, append_assoc, append-nil, arith}
use Rattle.std.proofs.lemmas.Bool.{and_parts}
use Rattle.std.proofs.lemmas.List.{length-append, get_or-append-add}
use Rattle.std.proofs.lemmas.Option.{slice_get-get_or}
use Rattle.std.proofs.Math.Seq.{take-append_seam}
use Rattle.std.specs.Prelude.{All, flat_map, ◌&&◌}
use Rattle.std.specs.List.Sorted.{IsStrictlySortedBy}
use Rattle.wc_value.specs.Ascending.{Ascends, goes_last}
use Rattle.wc_value.proofs.Places.{IsBytes, Covers, covers_join, covers_first, covers_second}
use Rattle.wc_value.proofs.Entries.{ascends_take, ascends_push, last_goes}
use Rattle.wc_world.specs.Fits.{comes_after, ascend_after}
use Rattle.wc_record.specs.Readers.{Reader, ◌>>=◌, u32, several, counted, last_of}
use Rattle.wc_record.specs.Spelled.{u32_bytes, list}
use Rattle.wc_record.specs.Written.{IsNumber, IsList}
use Rattle.wc_record.proofs.Codes.{Codes, ReadsBack, Takes, bind_ok, ok_is}
use Rattle.wc_record.proofs.Atoms.{u32_codes}

-- each item is as it must be behind those in front of it
abbrev pub Each : {A : Type 0} → (List A → A → Type 0) → List A → List A → Type 0
Each P front [] = Unit {0}
Each P front (x ∷ xs) = P front x × Each P (front ++ x ∷ []) xs

module _ {A : Type 0} (P : List A → A → Type 0) (f : A → List ℕ) (item : List A → Reader A) where
  several_back : ((front : List A) → Codes (P front) f (item front)) → (bytes : List ℕ) (front xs : List A) (at next : ℕ) → Each P front xs
      → Covers bytes at (flat_map f xs) next → several (length xs) item front bytes at ≡ Ok (front ++ xs, next)
  several_back codes bytes front [] at next each p =
      let e : at ≡ next = let n = p.next_is in omega arith in
      λ i. Ok (sym (append-nil front) i, e i)
  several_back codes bytes front (x ∷ xs) at next each p =
      let rest = flat_map f xs in
      ap (λ r. r >>= (λ y. several (length xs) item (front ++ y.0 ∷ []) bytes y.1))
      ((codes front).back bytes x at (at + length (f x)) each.0 (covers_first bytes (f x) rest at next p))
      ∙ several_back codes bytes (front ++ x ∷ []) xs (at + length (f x)) next each.1 (covers_second bytes (f x) rest at next p)
      ∙ ap (λ l. Ok (l, next)) (append_assoc front (x ∷ []) xs)

  pub record Series (bytes : List ℕ) (n : ℕ) (front all : List A) (at next : ℕ) : Type 0 where
    pub items : List A
    pub all_is : all ≡ front ++ items
    pub count : length items ≡ n
    pub each : Each P front items
    pub covers : Covers bytes at (flat_map f items) next

  several_taken : ((front : List A) → Codes (P front) f (item front)) → (bytes : List ℕ) → IsBytes bytes → (n : ℕ) (front all : List A) (at next : ℕ) → at ≤ length bytes
      → several n item front bytes at ≡ Ok (all, next) → Series bytes n front all at next
  several_taken codes bytes fits zero front all at next le e =
      let same : (front, at) ≡ (all, next) = ok_is (front, at) (all, next) e in
      let place : at ≡ next = ap (λ x. x.1) same in
      record {
        items = [];
        all_is = sym (ap (λ x. x.0) same) ∙ sym (append-nil front);
        count = refl;
        each = tt;
        covers = record { parts = ap (λ k. drop k bytes) place; next_is = omega arith; within = omega arith };
      }
  several_taken codes bytes fits (suc n) front all at next le e =
      let r = bind_ok (item front bytes at) (λ x. several n item (front ++ x.0 ∷ []) bytes x.1) (all, next) e in
      let one = (codes front).taken bytes fits r.0.0 at r.0.1 le r.1 in
      let more = several_taken codes bytes fits n (front ++ r.0.0 ∷ []) all r.0.1 next one.1.within r.2 in
      record {
        items = r.0.0 ∷ more.items;
        all_is = more.all_is ∙ append_assoc front (r.0.0 ∷ []) more.items;
        count = ap suc more.count;
        each = (one.0, more.each);
        covers = covers_join bytes (f r.0.0) (flat_map f more.items) at r.0.1 next one.1 more.covers;
      }

  -- so few that four bytes can tell their number, and each as it must be behind those in front of it
  abbrev pub IsSeries : List A → Type 0
  IsSeries xs = IsNumber (length xs) × Each P [] xs

  counted_back : ((front : List A) → Codes (P front) f (item front)) → ReadsBack IsSeries (list f) (counted item)
  counted_back codes bytes xs at next h p =
      let count = u32_bytes (length xs) in
      ap (λ r. r >>= (λ n. several n.0 item [] bytes n.1)) (u32_codes.back bytes (length xs) at (at + length count) h.0 (covers_first bytes count (flat_map f xs) at next p))
      ∙ several_back codes bytes [] xs (at + length count) next h.1 (covers_second bytes count (flat_map f xs) at next p)

  counted_taken : ((front : List A) → Codes (P front) f (item front)) → Takes IsSeries (list f) (counted item)
  counted_taken codes bytes fits xs at next le e =
      let r = bind_ok (u32 bytes at) (λ n. several n.0 item [] bytes n.1) (xs, next) e in
      let t = u32_codes.taken bytes fits r.0.0 at r.0.1 le r.1 in
      let s = several_taken codes bytes fits r.0.0 [] xs r.0.1 next t.1.within r.2 in
      let n : r.0.0 ≡ length xs = sym s.count ∙ ap length (sym s.all_is) in
      let c : Covers bytes at (u32_bytes (length xs)) r.0.1 = subst (λ k. Covers bytes at (u32_bytes k) r.0.1) n t.1 in (
        (subst IsNumber n t.0, subst (Each P []) (sym s.all_is) s.each),
        covers_join bytes (u32_bytes (length xs)) (flat_map f xs) at r.0.1 next c (subst (λ l. Covers bytes r.0.1 (flat_map f l) next) (sym s.all_is) s.covers),
      )

  pub counted_codes : ((front : List A) → Codes (P front) f (item front)) → Codes IsSeries (list f) (counted item)
  counted_codes codes = record { back = counted_back codes; taken = counted_taken codes }

-- ---- items that are as they must be by themselves
pub each_of_all : {A : Type 0} (Q : A → Type 0) (front xs : List A) → All Q xs → Each (λ front. Q) front xs
each_of_all Q front [] h = tt
each_of_all Q front (x ∷ xs) h = (h 0 x (omega arith), each_of_all Q (front ++ x ∷ []) xs (λ k d lt. h (suc k) d (omega arith)))

pub all_of_each : {A : Type 0} (P : List A → A → Type 0) (Q : A → Type 0) → ((front : List A) (x : A) → P front x → Q x) → (front xs : List A) → Each P front xs → All Q xs
all_of_each P Q to front [] h k d lt = absurd (omega arith)
all_of_each P Q to front (x ∷ xs) h zero d lt = to front x h.0
all_of_each P Q to front (x ∷ xs) h (suc k) d lt = all_of_each P Q to (front ++ x ∷ []) xs h.1 k d (omega arith)

-- two things that hold of each item
pub each_both : {A : Type 0} (P Q R : List A → A → Type 0) → ((front : List A) (x : A) → P front x → Q front x → R front x) → (front xs : List A) → Each P front xs → Each Q front xs → Each R front xs
each_both P Q R to front [] p q = tt
each_both P Q R to front (x ∷ xs) p q = (to front x p.0 q.0, each_both P Q R to (front ++ x ∷ []) xs p.1 q.1)

pub each_from : {A : Type 0} (P Q : List A → A → Type 0) → ((front : List A) (x : A) → P front x → Q front x) → (front xs : List A) → Each P front xs → Each Q front xs
each_from P Q to front [] p = tt
each_from P Q to front (x ∷ xs) p = (to front x p.0, each_from P Q to (front ++ x ∷ []) xs p.1)

pub list_of_series : {A : Type 0} (P : List A → A → Type 0) (Q : A → Type 0) → ((front : List A) (x : A) → P front x → Q x) → (xs : List A) → IsNumber (length xs) × Each P [] xs → IsList Q xs
list_of_series P Q to xs h = record { few = h.0; each = all_of_each P Q to [] xs h.1 }

pub series_of_list : {A : Type 0} (Q : A → Type 0) (xs : List A) → IsList Q xs → IsNumber (length xs) × Each (λ front. Q) [] xs
series_of_list Q xs h = (h.few, each_of_all Q [] xs h.each)

-- ---- labels that ascend
abbrev pub GoesLast : {T : Type 0} → List (List ℕ × T) → List ℕ × T → Type 0
GoesLast front e = goes_last e.0 front ≡ true

front_ascends : {T : Type 0} (front es : List (List ℕ × T)) → Ascends (front ++ es) → Ascends front
front_ascends front es a = subst Ascends (take-append_seam front es) (ascends_take (length front) (front ++ es) a)

pub last_of_ascending : {T : Type 0} (front es : List (List ℕ × T)) → Ascends (front ++ es) → Each GoesLast front es
last_of_ascending front [] a = tt
last_of_ascending front (e ∷ es) a =
    let b : Ascends ((front ++ e ∷ []) ++ es) = subst Ascends (sym (append_assoc front (e ∷ []) es)) a in
    (last_goes front e (front_ascends (front ++ e ∷ []) es b), last_of_ascending (front ++ e ∷ []) es b)

pub ascending_of_last : {T : Type 0} (front es : List (List ℕ × T)) → Ascends front → Each GoesLast front es → Ascends (front ++ es)
ascending_of_last front [] a h = subst Ascends (sym (append-nil front)) a
ascending_of_last front (e ∷ es) a h = subst Ascends (append_assoc front (e ∷ []) es) (ascending_of_last (front ++ e ∷ []) es (ascends_push front e a h.0) h.1)

pub nothing_ascends : (T : Type 0) → Ascends {T = T} []
unfolding IsStrictlySortedBy
nothing_ascends T = tt

-- ---- names that ascend
abbrev pub ComesAfter : List (List ℕ) → List ℕ → Type 0
ComesAfter front t = comes_after (last_of front) t ≡ true

last_is : (front : List (List ℕ)) (t : List ℕ) → last_of (front ++ t ∷ []) ≡ Some t
last_is front t =
    let n : length (front ++ t ∷ []) - 1 ≡ length front + 0 = omega (arith, length-append front (t ∷ [])) in
    slice_get-get_or (front ++ t ∷ []) (length (front ++ t ∷ []) - 1) t (omega (arith, length-append front (t ∷ [])))
    ∙ ap (λ k. Some (get_or (front ++ t ∷ []) k t)) n ∙ ap Some (get_or-append-add front (t ∷ []) 0 t)

pub each_after : (front ts : List (List ℕ)) → ascend_after (last_of front) ts ≡ true → Each ComesAfter front ts
each_after front [] h = tt
each_after front (t ∷ ts) h =
    let b = and_parts (comes_after (last_of front) t) (ascend_after (Some t) ts) h in
    (b.0, each_after (front ++ t ∷ []) ts (ap (λ (o : Option (List ℕ)). ascend_after o ts) (last_is front t) ∙ b.1))

pub after_each : (front ts : List (List ℕ)) → Each ComesAfter front ts → ascend_after (last_of front) ts ≡ true
after_each front [] h = refl
after_each front (t ∷ ts) h =
    let r : ascend_after (Some t) ts ≡ true = ap (λ (o : Option (List ℕ)). ascend_after o ts) (sym (last_is front t)) ∙ after_each (front ++ t ∷ []) ts h.1 in
    ap (λ (b : Bool). b && ascend_after (Some t) ts) h.0 ∙ r
