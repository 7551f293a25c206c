-- Readers and spellings that fit each other: what is spelled is read, and what is read is spelled.
use Rattle.std.proofs.Common.{◌≡◌, ℕ, ◌+◌, ◌<◌, ◌≤◌, Bool, true, false, cond, ltb, List, [], ◌∷◌, ◌++◌, length, get_or, Result, Ok, Err, refl, sym, ap, subst, ◌∙◌, add-one, drop-cons, arith}
use Rattle.std.proofs.lemmas.Bool.{ltb-true, lt-ltb}
use Rattle.std.proofs.lemmas.List.{get_or-drop}
use Rattle.wc_value.proofs.Places.{IsBytes, Covers, covers_join, covers_first, covers_second}
use Rattle.wc_record.specs.declared.error.RecordError.{RecordError}
use Rattle.wc_record.specs.declared.error.RecordError.TheVariants.{Truncated}
use Rattle.wc_record.specs.Readers.{Reader, ◌>>=◌, ◌⊗◌, built, byte}

-- what is spelled is read
abbrev pub ReadsBack : {A : Type 0} → (A → Type 0) → (A → List ℕ) → Reader A → Type 0
ReadsBack {A} Is spell read = (bytes : List ℕ) (x : A) (at next : ℕ) → Is x → Covers bytes at (spell x) next → read bytes at ≡ Ok (x, next)

-- what is read is spelled
abbrev pub Takes : {A : Type 0} → (A → Type 0) → (A → List ℕ) → Reader A → Type 0
Takes {A} Is spell read = (bytes : List ℕ) → IsBytes bytes → (x : A) (at next : ℕ) → at ≤ length bytes → read bytes at ≡ Ok (x, next) → Is x × Covers bytes at (spell x) next

pub record Codes {A : Type 0} (Is : A → Type 0) (spell : A → List ℕ) (read : Reader A) : Type 0 where
  pub back : ReadsBack Is spell read
  pub taken : Takes Is spell read

-- ---- steps
pub bind_ok : {A B : Type 0} (r : Result A RecordError) (f : A → Result B RecordError) (y : B) → (r >>= f) ≡ Ok y → (x : A) × (r ≡ Ok x) × (f x ≡ Ok y)
bind_ok (Ok x) f y e = (x, refl, e)
bind_ok (Err d) f y e = absurd cc

abbrev done : {A : Type 0} → A → Result A RecordError
done x = Ok x

pub ok_is : {A : Type 0} (x y : A) → done x ≡ done y → x ≡ y
ok_is x y e = cc

pub pass_ok : {A : Type 0} (b : Bool) (d : RecordError) (x y : A) → cond b (Ok x) (Err d) ≡ Ok y → (b ≡ true) × (x ≡ y)
pass_ok true d x y e = (refl, cc)
pass_ok false d x y e = absurd cc

-- another way to say what is read, and how it is spelled
pub recast : {A : Type 0} {P : A → Type 0} {f : A → List ℕ} {r : Reader A} (Q : A → Type 0) (g : A → List ℕ) → Codes P f r
    → ((x : A) → P x → Q x) → ((x : A) → Q x → P x) → ((x : A) → f x ≡ g x) → Codes Q g r
recast Q g c to from same = record {
  back = λ bytes x at next h p. c.back bytes x at next (from x h) (subst (λ l. Covers bytes at l next) (sym (same x)) p);
  taken = λ bytes fits x at next h e. let t = c.taken bytes fits x at next h e in (to x t.0, subst (λ l. Covers bytes at l next) (same x) t.1);
}

-- ---- one thing behind another
module _ {A B : Type 0} (P : A → Type 0) (Q : B → Type 0) (f : A → List ℕ) (g : B → List ℕ) (r : Reader A) (s : Reader B) where
  abbrev IsBoth : A × B → Type 0
  IsBoth z = P z.0 × Q z.1

  abbrev spell_both : A × B → List ℕ
  spell_both z = f z.0 ++ g z.1

  both_back : Codes P f r → Codes Q g s → ReadsBack IsBoth spell_both (r ⊗ s)
  both_back c d bytes z at next h p =
      ap (λ q. q >>= (λ x. s bytes x.1 >>= (λ y. Ok ((x.0, y.0), y.1)))) (c.back bytes z.0 at (at + length (f z.0)) h.0 (covers_first bytes (f z.0) (g z.1) at next p))
      ∙ ap (λ q. q >>= (λ y. Ok ((z.0, y.0), y.1))) (d.back bytes z.1 (at + length (f z.0)) next h.1 (covers_second bytes (f z.0) (g z.1) at next p))

  both_taken : Codes P f r → Codes Q g s → Takes IsBoth spell_both (r ⊗ s)
  both_taken c d bytes fits z at next h e =
      let a = bind_ok (r bytes at) (λ x. s bytes x.1 >>= (λ y. Ok ((x.0, y.0), y.1))) (z, next) e in
      let b = bind_ok (s bytes a.0.1) (λ y. Ok ((a.0.0, y.0), y.1)) (z, next) a.2 in
      let t = c.taken bytes fits a.0.0 at a.0.1 h a.1 in
      let u = d.taken bytes fits b.0.0 a.0.1 b.0.1 t.1.within b.1 in
      subst (λ (w : (A × B) × ℕ). IsBoth w.0 × Covers bytes at (spell_both w.0) w.1) (ok_is ((a.0.0, b.0.0), b.0.1) (z, next) b.2)
      ((t.0, u.0), covers_join bytes (f a.0.0) (g b.0.0) at a.0.1 b.0.1 t.1 u.1)

  pub both : Codes P f r → Codes Q g s → Codes IsBoth spell_both (r ⊗ s)
  both c d = record { back = both_back c d; taken = both_taken c d }

-- ---- what is made of what is read, where that can be undone
module _ {A B : Type 0} (P : A → Type 0) (f : A → List ℕ) (r : Reader A) (h : A → B) (g : B → A) where
  made_back : ((y : B) → h (g y) ≡ y) → Codes P f r → ReadsBack (λ y. P (g y)) (λ y. f (g y)) (built h r)
  made_back undone c bytes y at next p q =
      ap (λ q. q >>= (λ x. Ok (h x.0, x.1))) (c.back bytes (g y) at next p q) ∙ ap (λ z. Ok (z, next)) (undone y)

  made_taken : ((x : A) → g (h x) ≡ x) → Codes P f r → Takes (λ y. P (g y)) (λ y. f (g y)) (built h r)
  made_taken redone c bytes fits y at next le e =
      let a = bind_ok (r bytes at) (λ x. Ok (h x.0, x.1)) (y, next) e in
      let t = c.taken bytes fits a.0.0 at a.0.1 le a.1 in
      subst (λ (w : B × ℕ). P (g w.0) × Covers bytes at (f (g w.0)) w.1) (ok_is (h a.0.0, a.0.1) (y, next) a.2)
      (subst (λ (x : A). P x × Covers bytes at (f x) a.0.1) (sym (redone a.0.0)) t)

  pub made : ((x : A) → g (h x) ≡ x) → ((y : B) → h (g y) ≡ y) → Codes P f r → Codes (λ y. P (g y)) (λ y. f (g y)) (built h r)
  made redone undone c = record { back = made_back undone c; taken = made_taken redone c }

-- ---- bytes
pub byte_read : (bytes : List ℕ) (x at next : ℕ) → Covers bytes at (x ∷ []) next → byte bytes at ≡ Ok (x, next)
byte_read bytes x at next p =
    let f = p.within in let e = p.next_is in
    let inside : ltb at (length bytes) ≡ true = lt-ltb _ _ (omega arith) in
    let is : get_or bytes at 0 ≡ x = let z : at ≡ at + 0 = omega arith in ap (λ k. get_or bytes k 0) z ∙ sym (get_or-drop at bytes 0 0) ∙ ap (λ l. get_or l 0 0) p.parts in
    let ends : at + 1 ≡ next = omega arith in
    rw inside (λ i. Ok (is i, ends i))

pub byte_taken : (bytes : List ℕ) (x at next : ℕ) → byte bytes at ≡ Ok (x, next) → Covers bytes at (x ∷ []) next
byte_taken bytes x at next e =
    let g = pass_ok (ltb at (length bytes)) (Truncated (length bytes)) (get_or bytes at 0, at + 1) (x, next) e in
    let inside : at < length bytes = ltb-true _ _ g.0 in
    let here : Covers bytes at (get_or bytes at 0 ∷ []) (at + 1) = record { parts = rw (add-one, drop-cons bytes at 0) refl; next_is = refl; within = omega arith } in
    subst (λ (w : ℕ × ℕ). Covers bytes at (w.0 ∷ []) w.1) g.1 here

-- ---- the same, by what is known of the parts
infixr 20 ◌⊠◌
pub ◌⊠◌ : {A B : Type 0} {P : A → Type 0} {Q : B → Type 0} {f : A → List ℕ} {g : B → List ℕ} {r : Reader A} {s : Reader B}
    → Codes P f r → Codes Q g s → Codes (λ z. P z.0 × Q z.1) (λ z. f z.0 ++ g z.1) (r ⊗ s)
c ⊠ d = both _ _ _ _ _ _ c d

pub made_of : {A B : Type 0} {P : A → Type 0} {f : A → List ℕ} {r : Reader A} (h : A → B) (g : B → A) → Codes P f r
    → ((x : A) → g (h x) ≡ x) → ((y : B) → h (g y) ≡ y) → Codes (λ y. P (g y)) (λ y. f (g y)) (built h r)
made_of h g c redone undone = made _ _ _ h g redone undone c
