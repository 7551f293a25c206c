-- Items read one after another, and written one after another.
use Rattle.std.proofs.Common.{◌≡◌, ℕ, zero, suc, ◌+◌, ◌^◌, ◌<◌, ◌≤◌, List, [], ◌∷◌, ◌++◌, length, drop, Result, Ok, refl, sym, ap, subst, ◌∙◌, append_assoc, append-nil, arith}
use Rattle.std.specs.Int.{w32, to_be_bytes}
use Rattle.wc_value.specs.declared.refusal.ValueError.{ValueError}
use Rattle.wc_value.specs.Reading.{◌>>=◌, several, u32_at, counted}
use Rattle.wc_value.proofs.Places.{IsBytes, Covers, covers_join, covers_first, covers_second, bind_ok, ok_is, u32_again, u32_take}

-- Each item has bytes that P allows behind those in front of it.
pub data Chain {A : Type 0} (P : List A → A → List ℕ → Type 0) : List A → List A → List ℕ → Type 0 where
  last : (front : List A) → Chain P front [] []
  next_then : (front : List A) (x : A) (xs : List A) (b c : List ℕ) → P front x b → Chain P (front ++ x ∷ []) xs c → Chain P front (x ∷ xs) (b ++ c)

abbrev pub Reader : Type 0 → Type 0
Reader A = List A → ℕ → Result (A × ℕ) ValueError

-- what P allows is read
abbrev pub ReadsAgain : {A : Type 0} → (List A → A → List ℕ → Type 0) → Reader A → List ℕ → Type 0
ReadsAgain {A} P item bytes = (front : List A) (x : A) (b : List ℕ) (at next : ℕ) → P front x b → Covers bytes at b next → item front at ≡ Ok (x, next)

-- what is read P allows
abbrev pub ReadsAllowed : {A : Type 0} → (List A → A → List ℕ → Type 0) → Reader A → List ℕ → Type 0
ReadsAllowed {A} P item bytes = (front : List A) (x : A) (at next : ℕ) → at ≤ length bytes → item front at ≡ Ok (x, next) → (b : List ℕ) × P front x b × Covers bytes at b next

pub several_again : {A : Type 0} (P : List A → A → List ℕ → Type 0) (item : Reader A) (bytes : List ℕ) → ReadsAgain P item bytes
    → (front xs : List A) (c : List ℕ) → Chain P front xs c → (at next : ℕ) → Covers bytes at c next → several (length xs) item front at ≡ Ok (front ++ xs, next)
several_again P item bytes again front xs c (last f) at next p =
    let e : at ≡ next = let n = p.next_is in omega arith in
    λ i. Ok (sym (append-nil f) i, e i)
several_again P item bytes again front xs c (next_then f x ys b d h rest) at next p =
    ap (λ r. r >>= (λ y. several (length ys) item (f ++ y.0 ∷ []) y.1)) (again f x b at (at + length b) h (covers_first bytes b d at next p))
    ∙ several_again P item bytes again (f ++ x ∷ []) ys d rest (at + length b) next (covers_second bytes b d at next p)
    ∙ ap (λ l. Ok (l, next)) (append_assoc f (x ∷ []) ys)

-- what was read of a chain
pub record Chained {A : Type 0} (P : List A → A → List ℕ → Type 0) (bytes : List ℕ) (n : ℕ) (front all : List A) (at next : ℕ) : Type 0 where
  pub items : List A
  pub spelled : List ℕ
  pub all_is : all ≡ front ++ items
  pub count : length items ≡ n
  pub chain : Chain P front items spelled
  pub covers : Covers bytes at spelled next

pub several_take : {A : Type 0} (P : List A → A → List ℕ → Type 0) (item : Reader A) (bytes : List ℕ) → ReadsAllowed P item bytes
    → (n : ℕ) (front all : List A) (at next : ℕ) → at ≤ length bytes → several n item front at ≡ Ok (all, next) → Chained P bytes n front all at next
several_take P item bytes allowed zero front all at next h e =
    let same : (front, at) ≡ (all, next) = ok_is (front, at) (all, next) e in
    let place : at ≡ next = ap (λ x. x.1) same in
    record {
      items = [];
      spelled = [];
      all_is = sym (ap (λ x. x.0) same) ∙ sym (append-nil front);
      count = refl;
      chain = last front;
      covers = record { parts = ap (λ k. drop k bytes) place; next_is = omega arith; within = omega arith };
    }
several_take P item bytes allowed (suc n) front all at next h e =
    let r = bind_ok (item front at) (λ x. several n item (front ++ x.0 ∷ []) x.1) (all, next) e in
    let one = allowed front r.0.0 at r.0.1 h r.1 in
    let more = several_take P item bytes allowed n (front ++ r.0.0 ∷ []) all r.0.1 next one.2.within r.2 in
    record {
      items = r.0.0 ∷ more.items;
      spelled = one.0 ++ more.spelled;
      all_is = more.all_is ∙ append_assoc front (r.0.0 ∷ []) more.items;
      count = ap suc more.count;
      chain = next_then front r.0.0 more.items one.0 more.spelled one.1 more.chain;
      covers = covers_join bytes one.0 more.spelled at r.0.1 next one.2 more.covers;
    }

-- ---- behind their count
pub counted_again : {A : Type 0} (P : List A → A → List ℕ → Type 0) (item : Reader A) (bytes : List ℕ) → ReadsAgain P item bytes
    → (xs : List A) (c : List ℕ) → length xs < 2 ^ 32 → Chain P [] xs c → (at next : ℕ) → Covers bytes at (to_be_bytes w32 (length xs) ++ c) next → counted item bytes at ≡ Ok (xs, next)
counted_again P item bytes again xs c lt chain at next p =
    ap (λ r. r >>= (λ n. several n.0 item [] n.1)) (u32_again bytes (length xs) at (at + 4) lt (covers_first bytes (to_be_bytes w32 (length xs)) c at next p))
    ∙ several_again P item bytes again [] xs c chain (at + 4) next (covers_second bytes (to_be_bytes w32 (length xs)) c at next p)

pub record Counted {A : Type 0} (P : List A → A → List ℕ → Type 0) (bytes : List ℕ) (xs : List A) (at next : ℕ) : Type 0 where
  pub spelled : List ℕ
  pub fits : length xs < 2 ^ 32
  pub chain : Chain P [] xs spelled
  pub covers : Covers bytes at (to_be_bytes w32 (length xs) ++ spelled) next

pub counted_take : {A : Type 0} (P : List A → A → List ℕ → Type 0) (item : Reader A) (bytes : List ℕ) → IsBytes bytes → ReadsAllowed P item bytes
    → (xs : List A) (at next : ℕ) → at ≤ length bytes → counted item bytes at ≡ Ok (xs, next) → Counted P bytes xs at next
counted_take P item bytes fits allowed xs at next h e =
    let r = bind_ok (u32_at bytes at) (λ n. several n.0 item [] n.1) (xs, next) e in
    let t = u32_take bytes r.0.0 at r.0.1 fits h r.1 in
    let c = several_take P item bytes allowed r.0.0 [] xs r.0.1 next t.0.within r.2 in
    let n : length xs ≡ r.0.0 = ap length c.all_is ∙ c.count in
    record {
      spelled = c.spelled;
      fits = let lt = t.1 in omega arith;
      chain = subst (λ l. Chain P [] l c.spelled) (sym c.all_is) c.chain;
      covers = covers_join bytes (to_be_bytes w32 (length xs)) c.spelled at r.0.1 next (subst (λ k. Covers bytes at (to_be_bytes w32 k) r.0.1) (sym n) t.0) c.covers;
    }
