-- One level of rows: the first so many, each with what it goes on to, give the first so many of the longer rows.
use Rattle.std.proofs.Common.{◌≡◌, inl, inr, ⊎_elim, ◌≤◌, ◌+◌, ℕ, zero, suc, min, List, [], ◌∷◌, ◌++◌, length, refl, sym, subst, ◌⊎◌, arith, length-append}
use Rattle.std.specs.Prelude.{take}
use Rattle.std.specs.List.{AllByRecursion}
use Rattle.std.proofs.lemmas.List.{take_all}
use Rattle.wc_matches.specs.First.{ComesBefore, Ascend, IsAmong, AreFirst}
use Rattle.wc_matches.specs.Levels.{Goes, SomeGoes, AreEach, joined, GoesOnFrom}
use Rattle.wc_matches.proofs.Firsts.{first_of_both, all_taken, ascend_taken, taken_or_behind}

-- longer rows keep the order of their beginnings
pub longer_before : (r s a b : List ℕ) → ComesBefore r s → ComesBefore (r ++ a) (s ++ b)
longer_before [] s a b h = absurd h
longer_before (m ∷ ms) [] a b h = absurd h
longer_before (m ∷ ms) (n ∷ ns) a b (inl lt) = inl lt
longer_before (m ∷ ms) (n ∷ ns) a b (inr more) = inr (more.0, longer_before ms ns a b more.1)

goes_before : (R : List ℕ → ℕ → Type 0) (r s x y : List ℕ) → ComesBefore r s → Goes R r x → Goes R s y → ComesBefore x y
goes_before R r s x y h g k =
    let one : ComesBefore (r ++ g.0 ∷ []) (s ++ k.0 ∷ []) = longer_before r s (g.0 ∷ []) (k.0 ∷ []) h in
    subst (λ (z : List ℕ). ComesBefore z y) (sym g.1) (subst (λ (z : List ℕ). ComesBefore (r ++ g.0 ∷ []) z) (sym k.1) one)

all_behind : (R : List ℕ → ℕ → Type 0) (r x : List ℕ) (rows : List (List ℕ)) → AllByRecursion (ComesBefore r) rows → Goes R r x → (y : List ℕ) → SomeGoes R rows y → ComesBefore x y
all_behind R r x [] h g y k = absurd k
all_behind R r x (s ∷ rows) h g y (inl k) = goes_before R r s x y h.0 g k
all_behind R r x (s ∷ rows) h g y (inr k) = all_behind R r x rows h.1 g y k

all_in_front : (R : List ℕ → ℕ → Type 0) (s y : List ℕ) (rows : List (List ℕ)) → AllByRecursion (λ r. ComesBefore r s) rows → Goes R s y → (x : List ℕ) → SomeGoes R rows x → ComesBefore x y
all_in_front R s y [] h g x k = absurd k
all_in_front R s y (r ∷ rows) h g x (inl k) = goes_before R r s x y h.0 k g
all_in_front R s y (r ∷ rows) h g x (inr k) = all_in_front R s y rows h.1 g x k

first_joined : (R : List ℕ → ℕ → Type 0) (n : ℕ) (rows : List (List ℕ)) (each : List (List (List ℕ))) → Ascend rows → AreEach R n rows each
    → AreFirst (SomeGoes R rows) n (joined n each)
first_joined R n [] [] h e = record { ascend = tt; each = tt; few = omega arith; others = λ row k. absurd k }
first_joined R n [] (firsts ∷ more) h e = absurd e
first_joined R n (row ∷ rows) [] h e = absurd e
first_joined R n (row ∷ rows) (firsts ∷ more) h e =
    first_of_both (Goes R row) (SomeGoes R rows) n firsts (joined n more) (λ x y g k. all_behind R row x rows h.0 g y k) e.0 (first_joined R n rows more h.1 e.1)

-- ---- how many there are

length_among : (rows : List (List ℕ)) (row : List ℕ) → IsAmong rows row → 1 ≤ length rows
length_among [] row h = absurd h
length_among (r ∷ rows) row h = omega arith

some_first : (P : List ℕ → Type 0) (n : ℕ) (rows : List (List ℕ)) (row : List ℕ) → AreFirst P n rows → P row → min 1 n ≤ length rows
some_first P n rows row f p = ⊎_elim (λ (among : IsAmong rows row). let l : 1 ≤ length rows = length_among rows row among in omega (arith, l)) (λ full. omega (arith, full.0)) (f.others row p)

length_taken : (n : ℕ) (rows : List (List ℕ)) → length (take n rows) ≡ min n (length rows)
length_taken zero rows = omega arith
length_taken (suc n) [] = omega arith
length_taken (suc n) (r ∷ rows) = let l : length (take n rows) ≡ min n (length rows) = length_taken n rows in omega (arith, l)

enough : (P : List ℕ → Type 0) (R : List ℕ → ℕ → Type 0) (n : ℕ) (rows : List (List ℕ)) (each : List (List (List ℕ)))
    → ((row : List ℕ) → P row → (m : ℕ) × R row m) → AllByRecursion P rows → AreEach R n rows each → min n (length rows) ≤ length (joined n each)
enough P R n [] each on p e = omega arith
enough P R n (row ∷ rows) [] on p e = absurd e
enough P R n (row ∷ rows) (firsts ∷ more) on p e =
    let next = on row p.0 in
    let one : min 1 n ≤ length firsts = some_first (Goes R row) n firsts (row ++ next.0 ∷ []) e.0 (next.0, refl, next.1) in
    let rest : min n (length rows) ≤ length (joined n more) = enough P R n rows more on p.1 e.1 in
    let taken : length (take n (firsts ++ joined n more)) ≡ min n (length (firsts ++ joined n more)) = length_taken n (firsts ++ joined n more) in
    let both : length (firsts ++ joined n more) ≡ length firsts + length (joined n more) = length-append firsts (joined n more) in
    omega (arith, one, rest, taken, both)

-- ---- the level

from_some : (P : List ℕ → Type 0) (R : List ℕ → ℕ → Type 0) (rows : List (List ℕ)) (longer : List ℕ) → AllByRecursion P rows → SomeGoes R rows longer → GoesOnFrom P R longer
from_some P R [] longer p g = absurd g
from_some P R (row ∷ rows) longer p (inl g) = (row, p.0, g)
from_some P R (row ∷ rows) longer p (inr g) = from_some P R rows longer p.1 g

among_goes : (R : List ℕ → ℕ → Type 0) (rows : List (List ℕ)) (row longer : List ℕ) → IsAmong rows row → Goes R row longer → SomeGoes R rows longer
among_goes R [] row longer h g = absurd h
among_goes R (r ∷ rows) row longer (inl same) g = inl (subst (λ (x : List ℕ). Goes R x longer) (sym same) g)
among_goes R (r ∷ rows) row longer (inr later) g = inr (among_goes R rows row longer later g)

all_map : (P Q : List ℕ → Type 0) (rows : List (List ℕ)) → ((row : List ℕ) → P row → Q row) → AllByRecursion P rows → AllByRecursion Q rows
all_map P Q [] f h = tt
all_map P Q (r ∷ rows) f h = (f r h.0, all_map P Q rows f h.1)

pub level : (P : List ℕ → Type 0) (R : List ℕ → ℕ → Type 0) (n : ℕ) (rows : List (List ℕ)) (each : List (List (List ℕ)))
    → AreFirst P n rows → ((row : List ℕ) → P row → (m : ℕ) × R row m) → AreEach R n rows each → AreFirst (GoesOnFrom P R) n (joined n each)
level P R n rows each f on e =
    let here : AreFirst (SomeGoes R rows) n (joined n each) = first_joined R n rows each f.ascend e in
    record {
      ascend = here.ascend;
      each = all_map (SomeGoes R rows) (GoesOnFrom P R) (joined n each) (λ longer g. from_some P R rows longer f.each g) here.each;
      few = here.few;
      others = λ longer g. ⊎_elim
          (λ (among : IsAmong rows g.0). here.others longer (among_goes R rows g.0 longer among g.2))
          (λ full. inr (
            let least : min n (length rows) ≤ length (joined n each) = enough P R n rows each on f.each e in
                let most : length (joined n each) ≤ n = here.few in
                omega (arith, least, most, full.0),
            all_map (SomeGoes R rows) (λ r. ComesBefore r longer) (joined n each) (λ x k. all_in_front R g.0 longer rows full.1 g.2 x k) here.each,
          ))
          (f.others g.0 g.1);
    }

-- where as many are there as may be, the rows behind add none
level_full : (P : List ℕ → Type 0) (R : List ℕ → ℕ → Type 0) (n k : ℕ) (rows : List (List ℕ)) (each : List (List (List ℕ)))
    → AreFirst P n rows → AreEach R n (take k rows) each → length (joined n each) ≡ n → AreFirst (GoesOnFrom P R) n (joined n each)
level_full P R n k rows each f e full =
    let front : List (List ℕ) = take k rows in
    let here : AreFirst (SomeGoes R front) n (joined n each) = first_joined R n front each (ascend_taken k rows f.ascend) e in
    record {
      ascend = here.ascend;
      each = all_map (SomeGoes R front) (GoesOnFrom P R) (joined n each) (λ longer g. from_some P R front longer (all_taken P k rows f.each) g) here.each;
      few = here.few;
      others = λ longer g.
          let last : AllByRecursion (λ r. ComesBefore r g.0) front → (length (joined n each) ≡ n) × AllByRecursion (λ r. ComesBefore r longer) (joined n each)
          = λ h. (full, all_map (SomeGoes R front) (λ r. ComesBefore r longer) (joined n each) (λ x s. all_in_front R g.0 longer front h g.2 x s) here.each) in
          ⊎_elim
          (λ (among : IsAmong rows g.0). ⊎_elim
          (λ (taken : IsAmong front g.0). here.others longer (among_goes R front g.0 longer taken g.2))
          (λ later. inr (last later.1))
          (taken_or_behind k rows g.0 f.ascend among))
          (λ all. inr (last (all_taken (λ r. ComesBefore r g.0) k rows all.1)))
          (f.others g.0 g.1);
    }

pub level_some : (P : List ℕ → Type 0) (R : List ℕ → ℕ → Type 0) (n k : ℕ) (rows : List (List ℕ)) (each : List (List (List ℕ)))
    → AreFirst P n rows → ((row : List ℕ) → P row → (m : ℕ) × R row m) → AreEach R n (take k rows) each → (length rows ≤ k) ⊎ (length (joined n each) ≡ n)
    → AreFirst (GoesOnFrom P R) n (joined n each)
level_some P R n k rows each f on e (inl all) = level P R n rows each f on (subst (λ (xs : List (List ℕ)). AreEach R n xs each) (take_all k rows all) e)
level_some P R n k rows each f on e (inr full) = level_full P R n k rows each f e full
