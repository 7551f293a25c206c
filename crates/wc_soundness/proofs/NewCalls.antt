-- The calls that a chain submits: their links, and what it awaits.
use Rattle.std.proofs.Common.{◌≡◌, ◌≢◌, ℕ, suc, ◌+◌, ◌<◌, Bool, true, false, List, [], ◌∷◌, ◌++◌, length, map, refl, ap, subst, ◌∙◌, arith}
use Rattle.std.specs.Prelude.{◌==◌, ◌&&◌, ◌||◌, if◌then◌else◌, filter}
use Rattle.std.specs.List.{list_any}
use Rattle.std.proofs.lemmas.Bool.{ne_eqb}
use Rattle.wc_graph.specs.declared.link.Link.{Link}
use Rattle.wc_state.specs.declared.record.Await.{Await}
use Rattle.wc_state.specs.declared.record.ProcessRecord.{ProcessRecord}
use Rattle.wc_world.specs.Fits.{calls_from}
use Rattle.wc_world.specs.Records.{is_call_from}
use Rattle.wc_world.specs.World.{World}
use Rattle.wc_machine.specs.Calls.{awaits, called_number}
use Rattle.wc_machine.specs.Sound.{AllDiffer, AreAwaited, AreNumbered}
use Rattle.wc_machine.specs.Steps.{Call}
use Rattle.wc_turn_laws.specs.OutlineLaws as outline
use Rattle.wc_soundness.specs.Submitted.{links_of_calls}

-- numbered links with others behind them that go on from there
pub numbered_append : (n : ℕ) (xs ys : List Link) → AreNumbered n xs → AreNumbered (n + length xs) ys → AreNumbered n (xs ++ ys)
numbered_append n [] ys h g = let e : n + 0 ≡ n = omega arith in subst (λ (m : ℕ). AreNumbered m ys) e g
numbered_append n (x ∷ xs) ys h g =
    let e : n + suc (length xs) ≡ suc n + length xs = omega arith in
    (h.0, numbered_append (suc n) xs ys h.1 (subst (λ (m : ℕ). AreNumbered m ys) e g))

-- each call of a process is counted
pub counted : (pid : ℕ) (ls : List Link) → length (filter (is_call_from pid) ls) ≡ calls_from pid ls
counted pid [] = refl
counted pid (l ∷ ls) = at (is_call_from pid l) (counted pid ls)
  where
    at : (b : Bool) → length (filter (is_call_from pid) ls) ≡ calls_from pid ls
        → length (if b then l ∷ filter (is_call_from pid) ls else filter (is_call_from pid) ls) ≡ (if b then suc (calls_from pid ls) else calls_from pid ls)
    at true h = ap suc h
    at false h = h

-- a call of a process to another is one of its calls
pub called_among : (pid q : ℕ) (ls : List Link) → list_any (λ l. is_call_from pid l && (l.target == q)) ls ≡ list_any (λ l. l.target == q) (filter (is_call_from pid) ls)
called_among pid q [] = refl
called_among pid q (l ∷ ls) = at (is_call_from pid l) (called_among pid q ls)
  where
    at : (b : Bool) → list_any (λ x. is_call_from pid x && (x.target == q)) ls ≡ list_any (λ x. x.target == q) (filter (is_call_from pid) ls)
        → ((b && (l.target == q)) || list_any (λ x. is_call_from pid x && (x.target == q)) ls)
        ≡ list_any (λ x. x.target == q) (if b then l ∷ filter (is_call_from pid) ls else filter (is_call_from pid) ls)
    at true h = ap (λ (c : Bool). (l.target == q) || c) h
    at false h = h

module _ (w : World) (r : ProcessRecord) where
  -- The links lead to the awaited processes, each under its key and its number.
  pub are_awaited : (n next : ℕ) (calls : List Call) → outline.AreNumbered n calls → AreAwaited n (links_of_calls w r next calls) (awaits w r next calls)
  are_awaited n next [] h = tt
  are_awaited n next (x ∷ xs) h = (refl, h.0, are_awaited (suc n) (suc (called_number w r next x)) xs h.1)

  pub are_numbered : (n next : ℕ) (calls : List Call) → outline.AreNumbered n calls → AreNumbered n (links_of_calls w r next calls)
  are_numbered n next [] h = tt
  are_numbered n next (x ∷ xs) h = ((x.key, h.0), are_numbered (suc n) (suc (called_number w r next x)) xs h.1)

  pub as_many : (next : ℕ) (calls : List Call) → length (awaits w r next calls) ≡ length calls
  as_many next [] = refl
  as_many next (x ∷ xs) = ap suc (as_many (suc (called_number w r next x)) xs)

  pub called_is_awaited : (q next : ℕ) (calls : List Call) → list_any (λ l. l.target == q) (links_of_calls w r next calls) ≡ list_any (λ a. a.pid == q) (awaits w r next calls)
  called_is_awaited q next [] = refl
  called_is_awaited q next (x ∷ xs) = ap (λ (b : Bool). (called_number w r next x == q) || b) (called_is_awaited q (suc (called_number w r next x)) xs)

  -- what has a lower number isn't awaited
  pub none_before : (q next : ℕ) (calls : List Call) → q < next → list_any (λ a. a.pid == q) (awaits w r next calls) ≡ false
  none_before q next [] lt = refl
  none_before q next (x ∷ xs) lt =
      let differs : called_number w r next x ≢ q = λ e. absurd (omega (arith, lt, e)) in
      (λ i. ne_eqb (called_number w r next x) q differs i || list_any (λ a. a.pid == q) (awaits w r (suc (called_number w r next x)) xs))
      ∙ none_before q (suc (called_number w r next x)) xs (omega (arith, lt))

  any_number : (q : ℕ) (those : List Await) → list_any (λ m. m == q) (map (λ a. a.pid) those) ≡ list_any (λ a. a.pid == q) those
  any_number q [] = refl
  any_number q (a ∷ those) = ap (λ (b : Bool). (a.pid == q) || b) (any_number q those)

  -- no process is awaited twice
  pub all_differ : (next : ℕ) (calls : List Call) → AllDiffer (map (λ a. a.pid) (awaits w r next calls))
  all_differ next [] = tt
  all_differ next (x ∷ xs) =
      let n : ℕ = called_number w r next x in (
        any_number n (awaits w r (suc n) xs) ∙ none_before n (suc n) xs (omega arith),
        all_differ (suc n) xs,
      )
