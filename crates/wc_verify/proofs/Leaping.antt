-- Leaps along a table of steps.
use Rattle.std.proofs.Common.{◌≡◌, ℕ, ◌+◌, ◌<◌, ◌≤◌, ◌⊎◌, inl, inr, List, length, set, slice_index, ⊎_elim, sym, ap, subst, ◌∙◌, arith}
use Rattle.std.proofs.lemmas.Bool.{cases_eq}
use Rattle.std.proofs.lemmas.List.{get_or-set_same, get_or-set_other, length-set}
use Rattle.wc_verify.specs.Following.{Follows, here, on, IsWithin, GoesDown, AreLasts, IsFar, AreFar, IsSettled}

pub follows_on : (table : List ℕ) (a b c : ℕ) → Follows table a b → Follows table b c → Follows table a c
follows_on table a b c (here n) g = g
follows_on table a b c (on n m f) g = on n c (follows_on table (slice_index table n) m c f g)

pub weaker : (first : List ℕ) (rank : ℕ → ℕ) (k n m : ℕ) → IsFar first rank (k + 1) n m → IsFar first rank k n m
weaker first rank k n m f = record { follows = f.follows; stays = f.stays; far = at f.far }
  where
    at : (slice_index first m ≡ m) ⊎ (rank m + (k + 1) < rank n) → (slice_index first m ≡ m) ⊎ (rank m + k < rank n)
    at (inl h) = inl h
    at (inr h) = inr (omega arith)

-- where two numbers lead one after the other
pub leaps : (first : List ℕ) (rank : ℕ → ℕ) (k n m p : ℕ) → IsFar first rank k n m → IsFar first rank k m p → IsFar first rank (k + 1) n p
leaps first rank k n m p f g = record {
  follows = follows_on first n m p f.follows g.follows;
  stays = λ h. let e : m ≡ n = f.stays h in
      let s : slice_index first m ≡ m = ap (slice_index first) e ∙ h ∙ sym e in g.stays s ∙ e;
  far = at f.far g.far;
}
  where
    at : (slice_index first m ≡ m) ⊎ (rank m + k < rank n) → (slice_index first p ≡ p) ⊎ (rank p + k < rank m) → (slice_index first p ≡ p) ⊎ (rank p + (k + 1) < rank n)
    at (inl h) g' = let e : p ≡ m = g.stays h in inl (ap (slice_index first) e ∙ h ∙ sym e)
    at (inr h) (inl l) = inl l
    at (inr h) (inr l) = inr (omega arith)

-- before any leap
pub first_far : (table : List ℕ) (most : ℕ) (rank : ℕ → ℕ) → GoesDown most rank table → AreFar table rank 0 table
first_far table most rank g n lt = record {
  follows = on n (slice_index table n) (here (slice_index table n));
  stays = λ h. h;
  far = ⊎_elim (λ e. inl (ap (slice_index table) e)) (λ ne. let low = g.down n lt ne in inr (omega arith)) (cases_eq (slice_index table n) n);
}

-- how far the entries lead where those below a place have leapt
pub record AreLeaping (first : List ℕ) (rank : ℕ → ℕ) (k at : ℕ) (table : List ℕ) : Type 0 where
  pub all : AreFar first rank k table
  pub below : (n : ℕ) → n < at → n < length table → IsFar first rank (k + 1) n (slice_index table n)

pub leap_at : (first : List ℕ) (rank : ℕ → ℕ) (k at : ℕ) (table : List ℕ) → at < length table → IsWithin table → AreLeaping first rank k at table
    → IsFar first rank (k + 1) at (slice_index table (slice_index table at))
leap_at first rank k at table lt within l =
    leaps first rank k at (slice_index table at) _ (l.all at lt) (l.all (slice_index table at) (within at lt))

module _ (first : List ℕ) (rank : ℕ → ℕ) (k at : ℕ) (table : List ℕ) (to : ℕ) (lt : at < length table)
    (l : AreLeaping first rank k at table) (leapt : IsFar first rank (k + 1) at to) where
  here_set : slice_index (set table at to) at ≡ to
  here_set = get_or-set_same table at to 0 lt

  below_set : (n : ℕ) → n < at + 1 → n < length table → IsFar first rank (k + 1) n (slice_index (set table at to) n)
  below_set n less inside = ⊎_elim
      (λ e. subst (λ (x : ℕ). IsFar first rank (k + 1) x (slice_index (set table at to) x)) (sym e)
      (subst (λ (y : ℕ). IsFar first rank (k + 1) at y) (sym here_set) leapt))
      (λ ne. subst (IsFar first rank (k + 1) n) (sym (get_or-set_other table at n to 0 ne)) (l.below n (omega arith) inside))
      (cases_eq n at)

  all_set : (n : ℕ) → n < length table → IsFar first rank k n (slice_index (set table at to) n)
  all_set n inside = ⊎_elim
      (λ e. subst (λ (x : ℕ). IsFar first rank k x (slice_index (set table at to) x)) (sym e)
      (subst (λ (y : ℕ). IsFar first rank k at y) (sym here_set) (weaker first rank k at to leapt)))
      (λ ne. subst (IsFar first rank k n) (sym (get_or-set_other table at n to 0 ne)) (l.all n inside))
      (cases_eq n at)

  pub next_leaping : AreLeaping first rank k (at + 1) (set table at to)
  next_leaping =
      let size : length (set table at to) ≡ length table = length-set table at to in
      record {
        all = λ n inside. all_set n (omega arith);
        below = λ n less inside. below_set n less (omega arith);
      }

pub within_set : (table : List ℕ) (at to : ℕ) → at < length table → to < length table → IsWithin table → IsWithin (set table at to)
within_set table at to lt inside within n less =
    let size : length (set table at to) ≡ length table = length-set table at to in
    ⊎_elim
    (λ e. let is : slice_index (set table at to) n ≡ to = ap (slice_index (set table at to)) e ∙ get_or-set_same table at to 0 lt in omega arith)
    (λ ne. let is : slice_index (set table at to) n ≡ slice_index table n = get_or-set_other table at n to 0 ne in
    let low : slice_index table n < length table = within n (omega arith) in omega arith)
    (cases_eq n at)

-- an entry that leads no further is the last
pub settled_last : (first table : List ℕ) (rank : ℕ → ℕ) (k : ℕ) → AreFar first rank k table → IsWithin table → IsSettled table → (n : ℕ) → n < length table
    → slice_index first (slice_index table n) ≡ slice_index table n
settled_last first table rank k far within settled n lt =
    let m : ℕ = slice_index table n in
    let low : m < length table = within n lt in
    let is : slice_index table m ≡ m = settled n lt in
    let f : IsFar first rank k m m = subst (IsFar first rank k m) is (far m low) in
    at m f.far
  where
    at : (m : ℕ) → (slice_index first m ≡ m) ⊎ (rank m + k < rank m) → slice_index first m ≡ m
    at m (inl h) = h
    at m (inr h) = absurd (omega arith)

-- after as many leaps as there are ranks
pub ranked_last : (first table : List ℕ) (most : ℕ) (rank : ℕ → ℕ) → GoesDown most rank first → AreFar first rank most table → (n : ℕ) → n < length table
    → slice_index first (slice_index table n) ≡ slice_index table n
ranked_last first table most rank g far n lt = at (slice_index table n) (far n lt).far
  where
    at : (m : ℕ) → (slice_index first m ≡ m) ⊎ (rank m + most < rank n) → slice_index first m ≡ m
    at m (inl h) = h
    at m (inr h) = let low : rank n ≤ most = g.low n in absurd (omega arith)

pub are_lasts : (first table : List ℕ) (rank : ℕ → ℕ) (k : ℕ) → length table ≡ length first → AreFar first rank k table → IsWithin table
    → ((n : ℕ) → n < length table → slice_index first (slice_index table n) ≡ slice_index table n) → AreLasts first table
are_lasts first table rank k size far within last = record {
  size = size;
  within = λ n lt. let h : slice_index table n < length table = within n (omega arith) in omega arith;
  last = λ n lt. last n (omega arith);
  follows = λ n lt. (far n (omega arith)).follows;
}
