-- What stands behind tags, and numbers that stand for something.
use Rattle.std.proofs.Common.{◌≡◌, ℕ, ◌+◌, ◌≤◌, Bool, true, false, cond, eqb, List, [], ◌∷◌, length, Result, Ok, Err, refl, sym, ap, subst, ◌∙◌, ◌⊎◌, inl, inr, arith}
use Rattle.std.proofs.lemmas.Bool.{eqb-true}
use Rattle.wc_value.proofs.Places.{IsBytes, Covers, covers_join, covers_first, covers_second}
use Rattle.wc_record.specs.declared.error.RecordError.{RecordError}
use Rattle.wc_record.specs.declared.error.RecordError.TheVariants.{BadTag}
use Rattle.wc_record.specs.Readers.{Reader, ◌>>=◌, always, built, byte, behind, choice, stands_for, number_of, u32}
use Rattle.wc_record.specs.Spelled.{u32_bytes}
use Rattle.wc_record.specs.Written.{IsNumber}
use Rattle.wc_record.proofs.Codes.{Codes, bind_ok, ok_is, byte_read, byte_taken}

refused : {A : Type 0} (d : RecordError) (x : A) → Err d ≡ Ok x → ⊥
refused d x e = cc

-- one of two readings was taken
one_of : {A : Type 0} (b : Bool) (r s : Result A RecordError) (y : A) → cond b r s ≡ Ok y → ((b ≡ true) × (r ≡ Ok y)) ⊎ (s ≡ Ok y)
one_of true r s y e = inl (refl, e)
one_of false r s y e = inr e

-- ---- what is spelled is read
pub choice_back : {A : Type 0} (cs : List (ℕ × Reader A)) (bytes : List ℕ) (tag : ℕ) (b : List ℕ) (x : A) (at next : ℕ) → Covers bytes at (tag ∷ b) next
    → (Covers bytes (at + 1) b next → behind cs bytes at (tag, at + 1) ≡ Ok (x, next)) → choice cs bytes at ≡ Ok (x, next)
choice_back cs bytes tag b x at next p rest =
    ap (λ r. r >>= behind cs bytes at) (byte_read bytes tag at (at + 1) (covers_first bytes (tag ∷ []) b at next p)) ∙ rest (covers_second bytes (tag ∷ []) b at next p)

-- nothing stands behind the tag
pub always_back : {A : Type 0} (cs : List (ℕ × Reader A)) (bytes : List ℕ) (tag : ℕ) (x : A) (at next : ℕ) → Covers bytes at (tag ∷ []) next
    → behind cs bytes at (tag, at + 1) ≡ Ok (x, at + 1) → choice cs bytes at ≡ Ok (x, next)
always_back cs bytes tag x at next p is =
    let e : at + 1 ≡ next = sym p.next_is in
    ap (λ r. r >>= behind cs bytes at) (byte_read bytes tag at (at + 1) (subst (λ k. Covers bytes at (tag ∷ []) k) (sym e) p)) ∙ is ∙ ap (λ k. Ok (x, k)) e

-- what is built stands behind the tag
pub built_back : {A B : Type 0} (P : A → Type 0) (f : A → List ℕ) (r : Reader A) (h : A → B) → Codes P f r → (bytes : List ℕ) (y : A) (at next : ℕ) → P y
    → Covers bytes at (f y) next → built h r bytes at ≡ Ok (h y, next)
built_back P f r h c bytes y at next p q = ap (λ z. z >>= (λ x. Ok (h x.0, x.1))) (c.back bytes y at next p q)

pub number_back : {A : Type 0} (cs : List (ℕ × A)) (c : Codes IsNumber u32_bytes u32) (bytes : List ℕ) (n : ℕ) (x : A) (at next : ℕ) → IsNumber n → Covers bytes at (u32_bytes n) next
    → stands_for cs at (n, next) ≡ Ok (x, next) → number_of cs bytes at ≡ Ok (x, next)
number_back cs c bytes n x at next lt p is = ap (λ r. r >>= stands_for cs at) (c.back bytes n at next lt p) ∙ is

-- ---- what is read is spelled
-- what is read behind the tag is spelled behind it
abbrev pub TakesBehind : {A : Type 0} → (A → Type 0) → (A → List ℕ) → ℕ → Reader A → Type 0
TakesBehind {A} Q spell tag r =
    (bytes : List ℕ) → IsBytes bytes → (x : A) (at next : ℕ) → at ≤ length bytes → r bytes at ≡ Ok (x, next) → Q x × ((b : List ℕ) × (spell x ≡ tag ∷ b) × Covers bytes at b next)

abbrev pub EachTakes : {A : Type 0} → (A → Type 0) → (A → List ℕ) → List (ℕ × Reader A) → Type 0
EachTakes Q spell [] = Unit {0}
EachTakes Q spell (c ∷ cs) = TakesBehind Q spell c.0 c.1 × EachTakes Q spell cs

behind_taken : {A : Type 0} (Q : A → Type 0) (spell : A → List ℕ) (cs : List (ℕ × Reader A)) → EachTakes Q spell cs → (bytes : List ℕ) → IsBytes bytes
    → (tag : ℕ) (x : A) (at mid next : ℕ) → mid ≤ length bytes → behind cs bytes at (tag, mid) ≡ Ok (x, next)
    → Q x × ((b : List ℕ) × (spell x ≡ tag ∷ b) × Covers bytes mid b next)
behind_taken Q spell [] each bytes fits tag x at mid next le e = absurd (refused (BadTag at) (x, next) e)
behind_taken Q spell (c ∷ cs) each bytes fits tag x at mid next le e =
    elim (one_of (eqb tag c.0) (c.1 bytes mid) (behind cs bytes at (tag, mid)) (x, next) e) [
      | inl here ↦
          let same : c.0 ≡ tag = sym (eqb-true tag c.0 here.0) in
          let t = each.0 bytes fits x mid next le here.1 in
          (t.0, (t.1.0, t.1.1 ∙ ap (λ k. k ∷ t.1.0) same, t.1.2))
      | inr there ↦ behind_taken Q spell cs each.1 bytes fits tag x at mid next le there
    ]

pub choice_taken : {A : Type 0} (Q : A → Type 0) (spell : A → List ℕ) (cs : List (ℕ × Reader A)) → EachTakes Q spell cs → (bytes : List ℕ) → IsBytes bytes
    → (x : A) (at next : ℕ) → at ≤ length bytes → choice cs bytes at ≡ Ok (x, next) → Q x × Covers bytes at (spell x) next
choice_taken Q spell cs each bytes fits x at next le e =
    let r = bind_ok (byte bytes at) (behind cs bytes at) (x, next) e in
    let p = byte_taken bytes r.0.0 at r.0.1 r.1 in
    let t = behind_taken Q spell cs each bytes fits r.0.0 x at r.0.1 next p.within r.2 in
    (t.0, subst (λ l. Covers bytes at l next) (sym t.1.1) (covers_join bytes (r.0.0 ∷ []) t.1.0 at r.0.1 next p t.1.2))

nothing_there : (bytes : List ℕ) (at : ℕ) → at ≤ length bytes → Covers bytes at [] at
nothing_there bytes at le = record { parts = refl; next_is = omega arith; within = le }

pub always_takes : {A : Type 0} (Q : A → Type 0) (spell : A → List ℕ) (tag : ℕ) (x : A) → Q x → spell x ≡ tag ∷ [] → TakesBehind Q spell tag (always x)
always_takes {A} Q spell tag x q is bytes fits y at next le e =
    subst (λ (w : A × ℕ). Q w.0 × ((b : List ℕ) × (spell w.0 ≡ tag ∷ b) × Covers bytes at b w.1)) (ok_is (x, at) (y, next) e) (q, ([], is, nothing_there bytes at le))

pub built_takes : {A B : Type 0} (P : A → Type 0) (f : A → List ℕ) (r : Reader A) (Q : B → Type 0) (spell : B → List ℕ) (tag : ℕ) (h : A → B) → Codes P f r
    → ((y : A) → P y → Q (h y)) → ((y : A) → spell (h y) ≡ tag ∷ f y) → TakesBehind Q spell tag (built h r)
built_takes {A} {B} P f r Q spell tag h c to is bytes fits x at next le e =
    let a = bind_ok (r bytes at) (λ y. Ok (h y.0, y.1)) (x, next) e in
    let t = c.taken bytes fits a.0.0 at a.0.1 le a.1 in
    subst (λ (w : B × ℕ). Q w.0 × ((b : List ℕ) × (spell w.0 ≡ tag ∷ b) × Covers bytes at b w.1)) (ok_is (h a.0.0, a.0.1) (x, next) a.2)
    (to a.0.0 t.0, (f a.0.0, is a.0.0, t.1))

-- ---- numbers that stand for something
abbrev pub EachStands : {A : Type 0} → (A → Type 0) → (A → List ℕ) → ℕ → List (ℕ × A) → Type 0
EachStands Q spell tag [] = Unit {0}
EachStands Q spell tag (c ∷ cs) = (Q c.1 × (spell c.1 ≡ tag ∷ u32_bytes c.0)) × EachStands Q spell tag cs

stands_taken : {A : Type 0} (Q : A → Type 0) (spell : A → List ℕ) (tag : ℕ) (cs : List (ℕ × A)) → EachStands Q spell tag cs → (at n mid : ℕ) (x : A) (next : ℕ)
    → stands_for cs at (n, mid) ≡ Ok (x, next) → Q x × (spell x ≡ tag ∷ u32_bytes n) × (mid ≡ next)
stands_taken Q spell tag [] each at n mid x next e = absurd (refused (BadTag at) (x, next) e)
stands_taken {A} Q spell tag (c ∷ cs) each at n mid x next e =
    elim (one_of (eqb n c.0) (Ok (c.1, mid)) (stands_for cs at (n, mid)) (x, next) e) [
      | inl here ↦
          subst (λ (w : A × ℕ). Q w.0 × (spell w.0 ≡ tag ∷ u32_bytes n) × (mid ≡ w.1)) (ok_is (c.1, mid) (x, next) here.1)
          (each.0.0, each.0.1 ∙ ap (λ k. tag ∷ u32_bytes k) (sym (eqb-true n c.0 here.0)), refl)
      | inr there ↦ stands_taken Q spell tag cs each.1 at n mid x next there
    ]

pub number_takes : {A : Type 0} (Q : A → Type 0) (spell : A → List ℕ) (tag : ℕ) (cs : List (ℕ × A)) → Codes IsNumber u32_bytes u32 → EachStands Q spell tag cs
    → TakesBehind Q spell tag (number_of cs)
number_takes Q spell tag cs c each bytes fits x at next le e =
    let r = bind_ok (u32 bytes at) (stands_for cs at) (x, next) e in
    let t = c.taken bytes fits r.0.0 at r.0.1 le r.1 in
    let s = stands_taken Q spell tag cs each at r.0.0 r.0.1 x next r.2 in
    (s.0, (u32_bytes r.0.0, s.1, subst (λ k. Covers bytes at (u32_bytes r.0.0) k) s.2 t.1))
