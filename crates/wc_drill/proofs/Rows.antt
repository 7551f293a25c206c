-- The rows of the table, each at the place of its number.
use Rattle.std.proofs.Common.{◌≡◌, ◌<◌, ◌≤◌, ◌+◌, ◌^◌, ℕ, zero, suc, List, [], ◌∷◌, ◌++◌, length, take, refl, sym, ap, subst, ◌∙◌, ⊎_elim, add-one, arith}
use Rattle.std.specs.Prelude.{get_or, min}
use Rattle.std.specs.List.{Contains}
use Rattle.std.proofs.lemmas.Bool.{cases_lt}
use Rattle.std.proofs.lemmas.Fmt.{decimal_injective}
use Rattle.std.proofs.lemmas.List.{get_or_append_left, get_or-take, length-append, length-take}
use Rattle.wc_value.proofs.Keys.{lacks_key}
use Rattle.std.proofs.lemmas.Option.{slice_get_within, get_or_from_slice_get}
use Rattle.std.proofs.Math.Seq.{get_or-append_seam}
use Rattle.wc_value.specs.declared.process.JobResult.{JobResult}
use Rattle.wc_value.specs.declared.process.Request.{Request}
use Rattle.wc_value.specs.Refusals.{IsRefused}
use Rattle.wc_value.specs.Requests.{RepeatsFirst}
use Rattle.wc_value.specs.declared.table.TableError.{TableError}
use Rattle.wc_value.specs.declared.table.TableError.TheVariants.{OutOfMemory, Twice}
use Rattle.wc_drill.specs.Squares.{IsSquared, square_request, square_row, square_rows}

abbrev Row : Type 0
Row = Request × JobResult

pub rows_more : (n : ℕ) → square_rows (suc n) ≡ square_rows n ++ square_row n ∷ []
unfolding square_rows
rows_more n = refl

pub rows_none : square_rows 0 ≡ []
unfolding square_rows
rows_none = refl

pub rows_pushed : (n : ℕ) → square_rows (n + 1) ≡ square_rows n ++ square_row n ∷ []
rows_pushed n = ap square_rows (add-one n) ∙ rows_more n

length_rows : (n : ℕ) → length (square_rows n) ≡ n
length_rows zero = ap length rows_none
length_rows (suc n) =
    let before : length (square_rows n) ≡ n = length_rows n in
    ap length (rows_more n) ∙ length-append (square_rows n) (square_row n ∷ []) ∙ omega arith

row_at : (n i : ℕ) (d : Row) → i < n → get_or (square_rows n) i d ≡ square_row i
row_at zero i d less = absurd (omega arith)
row_at (suc n) i d less =
    let sized : length (square_rows n) ≡ n = length_rows n in
    ap (λ (rows : List Row). get_or rows i d) (rows_more n)
    ∙ ⊎_elim
    (λ below. let inside : i < length (square_rows n) = omega arith in get_or_append_left (square_rows n) (square_row n ∷ []) d i inside ∙ row_at n i d below)
    (λ past. let is : length (square_rows n) ≡ i = omega arith in
    ap (λ k. get_or (square_rows n ++ square_row n ∷ []) k d) (sym is) ∙ get_or-append_seam (square_rows n) (square_row n) [] d
    ∙ ap square_row (sym sized ∙ is))
    (cases_lt i n)

-- a row of the table is that of a number
pub row_is_squared : (n : ℕ) (q : Request) (r : JobResult) → n ≤ 100 → Contains (square_rows n) (q, r) → IsSquared q r
row_is_squared n q r few c =
    let sized : length (square_rows n) ≡ n = length_rows n in
    let within = c.1 in
    let less : c.0 < n = omega arith in
    let is : square_row c.0 ≡ (q, r) = sym (row_at n c.0 (q, r) less) ∙ c.2 in
    record { number = c.0; small = omega (arith, less); asks = ap (λ (x : Row). x.0) (sym is); leaves = ap (λ (x : Row). x.1) (sym is) }

-- the number of a request
pub number_of : (m n : ℕ) → m < 2 ^ 64 → n < 2 ^ 64 → square_request m ≡ square_request n → m ≡ n
number_of m n small small_too same = decimal_injective m n small small_too (ap (λ (q : Request). get_or q.args 0 []) same)

-- no request stands in two rows
pub none_repeats : (n i : ℕ) → n ≤ 100 → RepeatsFirst (square_rows n) i → ⊥
none_repeats n i few repeats =
    let sized : length (square_rows n) ≡ n = length_rows n in
    let within : i < length (square_rows n) = slice_get_within (square_rows n) i repeats.row repeats.at in
    let less : i < n = omega arith in
    let here : square_row i ≡ repeats.row = sym (row_at n i repeats.row less) ∙ get_or_from_slice_get (square_rows n) i repeats.row repeats.row repeats.at in
    lacks_key (take i (square_rows n)) repeats.row.0 (λ k d short same.
    let taken : length (take i (square_rows n)) ≡ min i (length (square_rows n)) = length-take i (square_rows n) in
    let earlier : k < i = omega arith in
    let small : k < n = omega (arith, earlier, less) in
    let there : get_or (take i (square_rows n)) k d ≡ square_row k = get_or-take i (square_rows n) k d earlier ∙ row_at n k d small in
    let equal : k ≡ i = number_of k i (omega (arith, small, few)) (omega (arith, less, few))
    (ap (λ (x : Row). x.0) (sym there) ∙ same ∙ ap (λ (x : Row). x.0) (sym here)) in
    omega (arith, earlier, equal)) repeats.earlier

-- what a table refuses of the rows is its memory alone
pub memory_alone : (rows : List Row) (e : TableError) → rows ≡ square_rows 100 → IsRefused rows e → e ≡ OutOfMemory
memory_alone rows OutOfMemory is h = refl
memory_alone rows (Twice i) is h = absurd (none_repeats 100 i (omega arith) (subst (λ (xs : List Row). RepeatsFirst xs i) is h))
