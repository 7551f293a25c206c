-- Which folders the last answer is too old for.
use Rattle.std.proofs.Common.{◌≡◌, ℕ, ◌+◌, ◌<◌, ◌≤◌, Bool, true, false, List, [], ◌∷◌, length, get_or, Option, IsTrue, ◌⊎◌, inl, inr, ⊎_elim, refl, sym, ap, subst, ◌∙◌, arith, nat_cmp}
use Rattle.std.specs.Prelude.{slice_index, Result, Ok, Err, OnOk}
use Rattle.std.specs.Ordering.{is_eq}
use Rattle.std.specs.declared.cmp.Ordering.TheVariants.{Equal}
use Rattle.std.specs.Cmp.{Equal-is}
use Rattle.std.specs.BTreeSet.{BTreeSet, contains, Updates}
use Rattle.std.proofs.lemmas.Bool.{false_from_ne_true}
use Rattle.std.proofs.lemmas.Map.Lookups.{exact_unsigned}
use Rattle.wc_slurm.specs.Queue.{IsStale, AsksOnce, AsksOnceAtMost, AreDistinct}
use Rattle.wc_slurm.specs.declared.queue.Queue.{Queue}

-- the scheduler was asked, and this folder is none of those that were looked at since
abbrev IsFresh : Bool → BTreeSet ℕ → ℕ → Type 0
IsFresh is_asked noted dir = ((is_asked ≡ false) ⊎ (contains nat_cmp noted dir ≡ true)) → ⊥

at_other : (v q : ℕ) → (v ≡ q → ⊥) → is_eq (nat_cmp v q) ≡ false
at_other v q ne = false_from_ne_true (is_eq (nat_cmp v q)) (λ t. ne (exact_unsigned v q ((Equal-is (nat_cmp v q)).0 t)))

-- another folder is noted
pub others_stay : (old new : BTreeSet ℕ) (asked : Bool) (dir : ℕ) → Updates nat_cmp old new dir true
    → (other : ℕ) → (other ≡ dir → ⊥) → (asked ≡ false) ⊎ (contains nat_cmp new other ≡ true) → (asked ≡ false) ⊎ (contains nat_cmp old other ≡ true)
others_stay old new asked dir u other ne stale = ⊎_elim (λ e. inl e) (λ h. inr (sym (u.2 other (at_other dir other (λ e. ne (sym e)))) ∙ h)) stale

-- an answer has just come
pub all_fresh : (noted : BTreeSet ℕ) (asked : Bool) → asked ≡ true → noted.keys ≡ [] → (dir : ℕ) → (asked ≡ false) ⊎ (contains nat_cmp noted dir ≡ true) → ⊥
all_fresh noted asked is empty dir stale =
    ⊎_elim (λ e. absurd_true (sym is ∙ e)) (λ h. absurd_true (sym h ∙ ap (λ (ks : List ℕ). contains nat_cmp (record noted { keys = ks }) dir) empty)) stale
  where
    absurd_true : true ≡ false → ⊥
    absurd_true e = absurd (cc)

pub differ : (b : Bool) → b ≡ true → b ≡ false → ⊥
differ b e f = absurd (cc)

pub on_ok : {A E : Type 0} (r : Result A E) {P Q : Type 0} → (P → Q) → OnOk r P → OnOk r Q
on_ok (Ok x) f p = f p
on_ok (Err e) f p = p

-- a look behind a question: no other folder is one that the answer is too old for
pub asked_anew : (old asked mid new : Queue) (dir : ℕ) → mid ≡ asked → ((d : ℕ) → IsStale asked d → ⊥)
    → ((other : ℕ) → (other ≡ dir → ⊥) → IsStale new other → IsStale mid other)
    → (other : ℕ) → (other ≡ dir → ⊥) → IsStale new other → IsStale old other × (IsStale old dir → ⊥)
asked_anew old asked mid new dir e fresh noted other ne s = absurd (fresh other (subst (λ q. IsStale q other) e (noted other ne s)))

-- a look without a question: the other folders are as they were
pub not_asked : (old mid new : Queue) (dir : ℕ) → mid ≡ old → (IsStale old dir → ⊥)
    → ((other : ℕ) → (other ≡ dir → ⊥) → IsStale new other → IsStale mid other)
    → (other : ℕ) → (other ≡ dir → ⊥) → IsStale new other → IsStale old other × (IsStale old dir → ⊥)
not_asked old mid new dir e fresh noted other ne s = (subst (λ q. IsStale q other) e (noted other ne s), fresh)

-- ---- a round of looks at folders that differ

-- So far nothing was asked, or one question was asked, and no folder that is left is one that the answer is too old for.
pub record SoFar (dirs : List ℕ) (i : ℕ) (queue : Queue) (before now : List (Option (List ℕ))) : Type 0 where
  pub is : (now ≡ before) ⊎ (AsksOnce before now × ((j : ℕ) → i ≤ j → j < length dirs → IsStale queue (slice_index dirs j) → ⊥))

decide : (a c : Bool) → ((a ≡ false) ⊎ (c ≡ true)) ⊎ (((a ≡ false) ⊎ (c ≡ true)) → ⊥)
decide false c = inl (inl refl)
decide true true = inl (inr refl)
decide true false = inr (λ s. ⊎_elim (λ e. absurd (cc)) (λ e. absurd (cc)) s)

stale_or_fresh : (queue : Queue) (dir : ℕ) → IsStale queue dir ⊎ (IsStale queue dir → ⊥)
stale_or_fresh queue dir = decide queue.is_asked (contains nat_cmp queue.noted dir)

pub begins : (dirs : List ℕ) (i : ℕ) (queue : Queue) (before now : List (Option (List ℕ))) → now ≡ before → SoFar dirs i queue before now
begins dirs i queue before now e = record { is = inl e }

asked_before : (before now later : List (Option (List ℕ))) → later ≡ now → AsksOnce before now → AsksOnce before later
asked_before before now later e a = subst (λ l. AsksOnce before l) (sym e) a

asked_now : (before now later : List (Option (List ℕ))) → now ≡ before → AsksOnce now later → AsksOnce before later
asked_now before now later e a = subst (λ l. AsksOnce l later) e a

-- the next look
pub next_look : (dirs : List ℕ) (i dir : ℕ) (old new : Queue) (before now later : List (Option (List ℕ))) → AreDistinct dirs → i < length dirs → dir ≡ slice_index dirs i
    → (IsStale old dir → AsksOnce now later) → ((IsStale old dir → ⊥) → later ≡ now)
    → ((other : ℕ) → (other ≡ dir → ⊥) → IsStale new other → IsStale old other × (IsStale old dir → ⊥))
    → SoFar dirs i old before now → SoFar dirs (i + 1) new before later
next_look dirs i dir old new before now later distinct h is once never others so_far = record {
  is = ⊎_elim
      (λ e. ⊎_elim
      (λ s. inr (asked_now before now later e (once s), λ j le lt st. (others (slice_index dirs j) (differs j le lt) st).1 s))
      (λ f. inl (never f ∙ e))
      (stale_or_fresh old dir))
      (λ a. inr (
        asked_before before now later (never (λ s. a.1 i (omega arith) h (subst (λ d. IsStale old d) is s))) a.0,
        λ j le lt st. a.1 j (omega arith) lt (others (slice_index dirs j) (differs j le lt) st).0,
      ))
      so_far.is;
}
  where
    differs : (j : ℕ) → i + 1 ≤ j → j < length dirs → slice_index dirs j ≡ dir → ⊥
    differs j le lt e = distinct i j (omega arith) lt (sym is ∙ sym e)

-- a look that finds no memory
pub broken_look : (dirs : List ℕ) (i dir : ℕ) (old : Queue) (before now later : List (Option (List ℕ))) → i < length dirs → dir ≡ slice_index dirs i
    → (IsStale old dir → AsksOnce now later) → ((IsStale old dir → ⊥) → later ≡ now) → SoFar dirs i old before now → AsksOnceAtMost before later
broken_look dirs i dir old before now later h is once never so_far =
    ⊎_elim
    (λ e. ⊎_elim (λ s. inr (asked_now before now later e (once s))) (λ f. inl (never f ∙ e)) (stale_or_fresh old dir))
    (λ a. inr (asked_before before now later (never (λ s. a.1 i (omega arith) h (subst (λ d. IsStale old d) is s))) a.0))
    so_far.is

-- the end of the round
pub ends : (dirs : List ℕ) (i : ℕ) (queue : Queue) (before now : List (Option (List ℕ))) → SoFar dirs i queue before now → AsksOnceAtMost before now
ends dirs i queue before now so_far = ⊎_elim (λ e. inl e) (λ a. inr a.0) so_far.is
