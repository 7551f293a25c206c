-- Tables of steps: each number leads to one, and steps end where a number leads to itself.
use Rattle.std.specs.Prelude.{◌≡◌, ◌≢◌, ◌⊎◌, ℕ, ◌+◌, ◌<◌, ◌≤◌, List, length, slice_index}

-- steps lead from one number to another
pub data Follows (table : List ℕ) : ℕ → ℕ → Type 0 where
  here : (n : ℕ) → Follows table n n
  on : (n m : ℕ) → Follows table (slice_index table n) m → Follows table n m

-- each entry of a table is a place of it
abbrev pub IsWithin : List ℕ → Type 0
IsWithin table = (n : ℕ) → n < length table → slice_index table n < length table

-- each step but one to the number itself goes down in rank, and no rank is greater than the most
pub record GoesDown (most : ℕ) (rank : ℕ → ℕ) (table : List ℕ) : Type 0 where
  pub down : (n : ℕ) → n < length table → slice_index table n ≢ n → rank (slice_index table n) < rank n
  pub low : (n : ℕ) → rank n ≤ most

-- steps stay among the numbers of the table, and end
pub record EndsWithin (most : ℕ) (table : List ℕ) : Type 0 where
  pub within : IsWithin table
  pub rank : ℕ → ℕ
  pub goes : GoesDown most rank table

-- where the steps from each number end
pub record AreLasts (table lasts : List ℕ) : Type 0 where
  pub size : length lasts ≡ length table
  pub within : (n : ℕ) → n < length table → slice_index lasts n < length table
  pub last : (n : ℕ) → n < length table → slice_index table (slice_index lasts n) ≡ slice_index lasts n
  pub follows : (n : ℕ) → n < length table → Follows table n (slice_index lasts n)

-- ---- what the search keeps

-- steps lead from one number to the other, which is so much lower in rank or the last one
pub record IsFar (first : List ℕ) (rank : ℕ → ℕ) (k n m : ℕ) : Type 0 where
  pub follows : Follows first n m
  pub stays : slice_index first n ≡ n → m ≡ n
  pub far : (slice_index first m ≡ m) ⊎ (rank m + k < rank n)

-- each entry was followed so far, or to its end
abbrev pub AreFar : List ℕ → (ℕ → ℕ) → ℕ → List ℕ → Type 0
AreFar first rank k table = (n : ℕ) → n < length table → IsFar first rank k n (slice_index table n)

-- no entry leads further
abbrev pub IsSettled : List ℕ → Type 0
IsSettled table = (n : ℕ) → n < length table → slice_index table (slice_index table n) ≡ slice_index table n
