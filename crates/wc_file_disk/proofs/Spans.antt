-- Calls one after another, and what they say of the file's content.
use Rattle.std.proofs.Common.{◌≡◌, ℕ, Bool, true, false, refl, ◌+◌, ◌≤◌, List, [], ◌∷◌, length, take, drop, min, max, ◌++◌, sym, ◌∙◌, ap, subst, arith, length-append, length-drop, take_all}
use Rattle.std.proofs.lemmas.List.{length-take}
use Rattle.std.proofs.lemmas.Bool.{false≢true}
use Rattle.std.specs.Prelude.{Result, Ok, Err, OnOk, OnErr}
use Rattle.wc_disk.specs.Steps.{overwritten}
use Rattle.wc_file_disk.specs.Calls.{FileCall, floor}
use Rattle.wc_file_disk.specs.Calls.FileCall.{opened, missing, created, apart, named, locked, closed, measured, read, wrote, failed_to_write, cut, failed_to_cut, synced}
use Rattle.wc_file_disk.specs.Holds.{Answers, Agrees, Between, Keeps}

-- no call was made
pub between_none : (old new : List FileCall) (R : List ℕ → List ℕ → Type 0) → new ≡ old → ((a : List ℕ) → R a a) → Between old new R
between_none old new R same each =
    subst (λ (calls : List FileCall). Between old calls R) (sym same) (record { related = λ contents agrees. each (contents (length old)); grown = λ contents agrees. agrees })

-- one call was made
pub between_one : (old new : List FileCall) (call : FileCall) (R : List ℕ → List ℕ → Type 0) → new ≡ call ∷ old → ((a b : List ℕ) → Answers call a b → R a b) → Between old new R
between_one old new call R same each =
    subst (λ (calls : List FileCall). Between old calls R) (sym same)
    (record { related = λ contents agrees. each (contents (length old)) (contents (length (call ∷ old))) agrees.0; grown = λ contents agrees. agrees.1 })

pub between_then : (old mid new : List FileCall) (P Q R : List ℕ → List ℕ → Type 0) → Between old mid P → Between mid new Q → ((a b d : List ℕ) → P a b → Q b d → R a d) → Between old new R
between_then old mid new P Q R one two each = record {
  related = λ contents agrees.
      each (contents (length old)) (contents (length mid)) (contents (length new)) (one.related contents (two.grown contents agrees)) (two.related contents agrees);
  grown = λ contents agrees. one.grown contents (two.grown contents agrees);
}

pub between_weaker : (old new : List FileCall) (P R : List ℕ → List ℕ → Type 0) → Between old new P → ((a b : List ℕ) → P a b → R a b) → Between old new R
between_weaker old new P R one each = record {
  related = λ contents agrees. each (contents (length old)) (contents (length new)) (one.related contents agrees);
  grown = one.grown;
}

length-overwritten : (at : ℕ) (bytes old : List ℕ) → length (overwritten at bytes old) ≡ max (length old) (min at (length old) + length bytes)
length-overwritten at bytes old =
    omega (arith, length-append (take at old ++ bytes) (drop (at + length bytes) old), length-append (take at old) bytes, length-take at old, length-drop (at + length bytes) old)

-- a file has the length that it is known to have
pub reaches : (contents : ℕ → List ℕ) (calls : List FileCall) → Agrees contents calls → floor calls ≤ length (contents (length calls))
reaches contents [] agrees = omega arith
reaches contents (opened ∷ earlier) agrees = omega (arith, reaches contents earlier agrees.1, ap length agrees.0)
reaches contents (missing ∷ earlier) agrees = omega (arith, reaches contents earlier agrees.1, ap length agrees.0.1)
reaches contents (created ∷ earlier) agrees = omega (arith, reaches contents earlier agrees.1, ap length agrees.0)
reaches contents (apart ∷ earlier) agrees = omega (arith, reaches contents earlier agrees.1, ap length agrees.0)
reaches contents (named ∷ earlier) agrees = omega (arith, reaches contents earlier agrees.1, ap length agrees.0)
reaches contents (locked ∷ earlier) agrees = omega (arith, reaches contents earlier agrees.1, ap length agrees.0)
reaches contents (closed ∷ earlier) agrees = omega (arith, reaches contents earlier agrees.1, ap length agrees.0)
reaches contents (measured n ∷ earlier) agrees = omega (arith, agrees.0.0, ap length agrees.0.1)
reaches contents (read at bytes ∷ earlier) agrees = omega (arith, reaches contents earlier agrees.1, ap length agrees.0.1)
reaches contents (wrote at bytes ∷ earlier) agrees =
    omega (arith, reaches contents earlier agrees.1, ap length agrees.0, length-overwritten at bytes (contents (length earlier)))
reaches contents (failed_to_write at bytes ∷ earlier) agrees = omega (arith, reaches contents earlier agrees.1, agrees.0.no_shorter)
reaches contents (cut n ∷ earlier) agrees = omega (arith, reaches contents earlier agrees.1, ap length agrees.0, length-take n (contents (length earlier)))
reaches contents (failed_to_cut n ∷ earlier) agrees = omega (arith, reaches contents earlier agrees.1, agrees.0.no_shorter)
reaches contents (synced ∷ earlier) agrees = omega (arith, reaches contents earlier agrees.1, ap length agrees.0)

-- what is so where the file reaches as far as it is known to
pub between_reaching : (old new : List FileCall) (at : ℕ) (P R : List ℕ → List ℕ → Type 0) → at ≤ floor old → Between old new P → ((a b : List ℕ) → at ≤ length a → P a b → R a b) → Between old new R
between_reaching old new at P R within one each = record {
  related = λ contents agrees.
      each (contents (length old)) (contents (length new)) (omega (arith, within, reaches contents old (one.grown contents agrees))) (one.related contents agrees);
  grown = one.grown;
}

-- ---- calls that change nothing

abbrev pub is_quiet : FileCall → Bool
is_quiet (wrote at bytes) = false
is_quiet (failed_to_write at bytes) = false
is_quiet (cut n) = false
is_quiet (failed_to_cut n) = false
is_quiet _ = true

quiet : (call : FileCall) → is_quiet call ≡ true → (a b : List ℕ) → Answers call a b → b ≡ a
quiet opened is a b answers = answers
quiet missing is a b answers = answers.1
quiet created is a b answers = answers
quiet apart is a b answers = answers
quiet named is a b answers = answers
quiet locked is a b answers = answers
quiet closed is a b answers = answers
quiet (measured n) is a b answers = answers.1
quiet (read at bytes) is a b answers = answers.1
quiet (wrote at bytes) is a b answers = absurd (false≢true is)
quiet (failed_to_write at bytes) is a b answers = absurd (false≢true is)
quiet (cut n) is a b answers = absurd (false≢true is)
quiet (failed_to_cut n) is a b answers = absurd (false≢true is)
quiet synced is a b answers = answers

pub keeps_none : (old new : List FileCall) → new ≡ old → Keeps old new
keeps_none old new same = between_none old new (λ before after. after ≡ before) same (λ a. refl)

pub keeps_one : (old new : List FileCall) (call : FileCall) → new ≡ call ∷ old → is_quiet call ≡ true → Keeps old new
keeps_one old new call same is = between_one old new call (λ before after. after ≡ before) same (quiet call is)

pub keeps_all : (old mid new : List FileCall) → Keeps old mid → Keeps mid new → Keeps old new
keeps_all old mid new one two =
    between_then old mid new (λ before after. after ≡ before) (λ before after. after ≡ before) (λ before after. after ≡ before) one two (λ a b d first next. next ∙ first)

pub keeps_more : (old mid new : List FileCall) (call : FileCall) → new ≡ call ∷ mid → is_quiet call ≡ true → Keeps old mid → Keeps old new
keeps_more old mid new call same is kept = keeps_all old mid new kept (keeps_one mid new call same is)

-- what is said of the content before, after calls that kept it
pub before_kept : (old mid new : List FileCall) (P : List ℕ → Type 0) → Keeps old mid → Between mid new (λ before after. P before) → Between old new (λ before after. P before)
before_kept old mid new P kept next =
    between_then old mid new (λ before after. after ≡ before) (λ before after. P before) (λ before after. P before) kept next (λ a b d same is. subst P same is)

-- and of that before and after
pub after_kept : (old mid new : List FileCall) (R : List ℕ → List ℕ → Type 0) → Keeps old mid → Between mid new R → Between old new R
after_kept old mid new R kept next =
    between_then old mid new (λ before after. after ≡ before) R R kept next (λ a b d same is. subst (λ (l : List ℕ). R l d) same is)

pub between_both : (old new : List FileCall) (P R : List ℕ → List ℕ → Type 0) → Between old new P → Between old new R → Between old new (λ before after. P before after × R before after)
between_both old new P R one two = record { related = λ contents agrees. (one.related contents agrees, two.related contents agrees); grown = one.grown }

-- a call that is kept where it succeeds, and left out where it fails
pub keeps_either : {T E : Type 0} (result : Result T E) (old new : List FileCall) (call : FileCall) → OnOk result (new ≡ call ∷ old) → OnErr result (new ≡ old) → is_quiet call ≡ true → Keeps old new
keeps_either (Ok t) old new call noted refused is = keeps_one old new call noted is
keeps_either (Err e) old new call noted refused is = keeps_none old new refused

-- a cut of nothing, of a file that isn't there
pub uncut : (old new : List FileCall) (n len : ℕ) → n ≡ 0 → len ≤ n → Between old new (λ before after. n ≡ length before) → Keeps old new → Between old new (λ before after. after ≡ take len before)
uncut old new n len none within sized kept =
    between_weaker old new (λ before after. (n ≡ length before) × (after ≡ before)) (λ before after. after ≡ take len before)
    (between_both old new (λ before after. n ≡ length before) (λ before after. after ≡ before) sized kept)
    (λ a b is. is.1 ∙ sym (take_all len a (omega (arith, is.0, none, within))))
