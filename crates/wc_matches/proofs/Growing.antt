-- Rows grow by one number.
use Rattle.std.proofs.Common.{◌≡◌, inl, inr, ⊎_elim, ℕ, zero, suc, ◌+◌, ◌-◌, ◌<◌, ◌≤◌, ◌==◌, Bool, true, false, List, [], ◌∷◌, ◌++◌, length, get_or, drop, refl, sym, ap, ◌∙◌, subst, arith, eq-eqb}
use Rattle.std.specs.Prelude.{take}
use Rattle.std.specs.List.{AllByRecursion}
use Rattle.std.proofs.lemmas.Bool.{or_cases, or_left, or_right, eqb-true}
use Rattle.std.proofs.lemmas.List.{append-nil, append_assoc, take-take, take_at, take_all, take_more, drop_more, drop_all}
use Rattle.wc_matches.specs.First.{ComesBefore, Ascend, IsAmong, AreFirst}
use Rattle.wc_matches.specs.Found.{has}
use Rattle.wc_matches.specs.Levels.{Goes, AreEach, joined, AllGoOnTo, GoOnTo}
use Rattle.wc_graph.specs.declared.link.Link.{Link}
use Rattle.wc_query.specs.declared.query.LinkTest.{LinkTest}
use Rattle.wc_matches.specs.Joins.{IsJoined}
use Rattle.wc_matches.specs.Levels.{last_of}
use Rattle.wc_matches.specs.Sets.{LeadsInto}
use Rattle.wc_matches.specs.Numbers.{Ascends, AreNumbers, with_each}
use Rattle.wc_matches.proofs.Finding.{has_none}
use Rattle.wc_matches.proofs.Firsts.{all_taken, ascend_taken, few_taken, taken_or_behind}

-- ---- one row

before_behind : (row : List ℕ) (m n : ℕ) → m < n → ComesBefore (row ++ m ∷ []) (row ++ n ∷ [])
before_behind [] m n lt = inl lt
before_behind (x ∷ xs) m n lt = inr (refl, before_behind xs m n lt)

all_before_each : (row : List ℕ) (m : ℕ) (ns : List ℕ) → AllByRecursion (λ n. m < n) ns → AllByRecursion (ComesBefore (row ++ m ∷ [])) (with_each row ns)
all_before_each row m [] h = tt
all_before_each row m (n ∷ ns) h = (before_behind row m n h.0, all_before_each row m ns h.1)

each_ascend : (row ns : List ℕ) → Ascends ns → Ascend (with_each row ns)
each_ascend row [] h = tt
each_ascend row (n ∷ ns) h = (all_before_each row n ns h.0, each_ascend row ns h.1)

each_goes : (R : List ℕ → ℕ → Type 0) (row ns : List ℕ) → ((m : ℕ) → has ns m ≡ true → R row m) → AllByRecursion (Goes R row) (with_each row ns)
each_goes R row [] h = tt
each_goes R row (n ∷ ns) h =
    ((n, refl, h n (or_left (n == n) (has ns n) (eq-eqb n n refl))), each_goes R row ns (λ m k. h m (or_right (n == m) (has ns m) k)))

among_each : (row ns : List ℕ) (m : ℕ) → has ns m ≡ true → IsAmong (with_each row ns) (row ++ m ∷ [])
among_each row [] m h = absurd (has_none m h)
among_each row (n ∷ ns) m h = ⊎_elim
    (λ (a : (n == m) ≡ true). inl (ap (λ (k : ℕ). row ++ k ∷ []) (eqb-true n m a)))
    (λ (b : has ns m ≡ true). inr (among_each row ns m b)) (or_cases (n == m) (has ns m) h)

pub numbers_first : (R : List ℕ → ℕ → Type 0) (row : List ℕ) (most : ℕ) (ns : List ℕ) → AreNumbers (R row) ns → AreFirst (Goes R row) most (take most (with_each row ns))
numbers_first R row most ns h =
    let ascend : Ascend (with_each row ns) = each_ascend row ns h.ascend in
    record {
      ascend = ascend_taken most (with_each row ns) ascend;
      each = all_taken (Goes R row) most (with_each row ns) (each_goes R row ns (λ m k. (h.each m).0 k));
      few = few_taken most (with_each row ns);
      others = λ longer g. taken_or_behind most (with_each row ns) longer ascend
          (subst (λ (x : List ℕ). IsAmong (with_each row ns) x) (sym g.1) (among_each row ns g.0 ((h.each g.0).1 g.2)));
    }

-- the rows of one number
pub first_numbers : (set : List Bool) (most : ℕ) (ids numbers : List ℕ) (none rows : List (List ℕ)) → AreNumbers (λ m. get_or set m false ≡ true) ids → numbers ≡ ids → none ≡ []
    → rows ≡ take most (none ++ with_each [] numbers) → AreFirst (Goes (λ row m. get_or set m false ≡ true) []) most rows
first_numbers set most ids numbers none rows h same empty is =
    subst (λ (xs : List (List ℕ)). AreFirst (Goes (λ row m. get_or set m false ≡ true) []) most xs)
    (sym (is ∙ ap (λ (xs : List (List ℕ)). take most (xs ++ with_each [] numbers)) empty ∙ ap (λ (xs : List ℕ). take most (with_each [] xs)) same))
    (numbers_first (λ row m. get_or set m false ≡ true) [] most ids h)

-- ---- the loop that puts them behind others

pub puts_more : (most : ℕ) (out more : List (List ℕ)) (row ns longer : List ℕ) (i : ℕ) → i < length ns → longer ≡ row ++ get_or ns i 0 ∷ [] → more ≡ out ++ longer ∷ []
    → take most (more ++ with_each row (drop (i + 1) ns)) ≡ take most (out ++ with_each row (drop i ns))
puts_more most out more row ns longer i lt is pushed =
    ap (λ (xs : List (List ℕ)). take most (xs ++ with_each row (drop (i + 1) ns))) (pushed ∙ ap (λ (r : List ℕ). out ++ r ∷ []) is)
    ∙ ap (take most) (append_assoc out ((row ++ get_or ns i 0 ∷ []) ∷ []) (with_each row (drop (i + 1) ns))
    ∙ ap (λ (xs : List ℕ). out ++ with_each row xs) (sym (drop_more ns i 0 lt)))

pub puts_full : (most : ℕ) (out : List (List ℕ)) (row ns : List ℕ) → length out ≤ most → most ≤ length out → take most (out ++ with_each row ns) ≡ out
puts_full most out row ns few full = take_at out (with_each row ns) most (omega (arith, few, full))

pub puts_all : (most : ℕ) (out : List (List ℕ)) (row ns : List ℕ) (i : ℕ) → length ns ≤ i → length out ≤ most → take most (out ++ with_each row (drop i ns)) ≡ out
puts_all most out row ns i all few =
    ap (λ (xs : List ℕ). take most (out ++ with_each row xs)) (drop_all i ns all) ∙ ap (take most) (append-nil out) ∙ take_all most out few

-- ---- the loop over rows

take_front : (n : ℕ) (xs ys : List (List ℕ)) → take n (take n xs ++ ys) ≡ take n (xs ++ ys)
take_front zero xs ys = refl
take_front (suc n) [] ys = refl
take_front (suc n) (x ∷ xs) ys = ap (λ (rest : List (List ℕ)). x ∷ rest) (take_front n xs ys)

take_back : (n k : ℕ) (xs ys : List (List ℕ)) → n ≤ k → take n (xs ++ take k ys) ≡ take n (xs ++ ys)
take_back n k [] ys le = take-take n k ys le
take_back zero k (x ∷ xs) ys le = refl
take_back (suc n) k (x ∷ xs) ys le = ap (λ (rest : List (List ℕ)). x ∷ rest) (take_back n k xs ys (omega (arith, le)))

joined_push : (n : ℕ) (each : List (List (List ℕ))) (firsts : List (List ℕ)) → joined n (each ++ firsts ∷ []) ≡ take n (joined n each ++ firsts)
joined_push n [] firsts = ap (take n) (append-nil firsts)
joined_push n (f ∷ fs) firsts =
    ap (λ (rest : List (List ℕ)). take n (f ++ rest)) (joined_push n fs firsts)
    ∙ take_back n n f (joined n fs ++ firsts) (omega arith)
    ∙ ap (take n) (sym (append_assoc f (joined n fs) firsts))
    ∙ sym (take_front n (f ++ joined n fs) firsts)

each_push : (R : List ℕ → ℕ → Type 0) (n : ℕ) (rows : List (List ℕ)) (each : List (List (List ℕ))) (row : List ℕ) (firsts : List (List ℕ)) → AreEach R n rows each
    → AreFirst (Goes R row) n firsts → AreEach R n (rows ++ row ∷ []) (each ++ firsts ∷ [])
each_push R n [] [] row firsts h f = (f, tt)
each_push R n [] (e ∷ es) row firsts h f = absurd h
each_push R n (r ∷ rs) [] row firsts h f = absurd h
each_push R n (r ∷ rs) (e ∷ es) row firsts h f = (h.0, each_push R n rs es row firsts h.1 f)

pub on_none : (R : List ℕ → ℕ → Type 0) (most : ℕ) → AllGoOnTo R most [] []
on_none R most = ([], tt, refl)

pub on_more : (R : List ℕ → ℕ → Type 0) (most : ℕ) (rows out out' : List (List ℕ)) (row ns : List ℕ) → AllGoOnTo R most rows out → AreNumbers (R row) ns
    → out' ≡ take most (out ++ with_each row ns) → AllGoOnTo R most (rows ++ row ∷ []) out'
on_more R most rows out out' row ns g h is =
    let firsts : List (List ℕ) = take most (with_each row ns) in (
      g.0 ++ firsts ∷ [],
      each_push R most rows g.0 row firsts g.1 (numbers_first R row most ns h),
      is ∙ ap (λ (o : List (List ℕ)). take most (o ++ with_each row ns)) g.2
          ∙ sym (take_back most most (joined most g.0) (with_each row ns) (omega arith))
          ∙ sym (joined_push most g.0 firsts),
    )

pub on_next : (R : List ℕ → ℕ → Type 0) (most : ℕ) (rows out more : List (List ℕ)) (i : ℕ) (row ns : List ℕ) → i < length rows → row ≡ get_or rows i []
    → AllGoOnTo R most (take i rows) out → AreNumbers (R row) ns → more ≡ take most (out ++ with_each row ns) → AllGoOnTo R most (take (i + 1) rows) more
on_next R most rows out more i row ns lt is g h e =
    subst (λ (xs : List (List ℕ)). AllGoOnTo R most xs more) (ap (λ (r : List ℕ). take i rows ++ r ∷ []) is ∙ sym (take_more rows i [] lt))
    (on_more R most (take i rows) out more row ns g h e)

pub on_all : (R : List ℕ → ℕ → Type 0) (most : ℕ) (rows out : List (List ℕ)) (i : ℕ) → length rows ≤ i → AllGoOnTo R most (take i rows) out → GoOnTo R most rows out
on_all R most rows out i all g = (i, g, inl all)

pub few_on : (R : List ℕ → ℕ → Type 0) (most : ℕ) (rows out : List (List ℕ)) → AllGoOnTo R most rows out → length out ≤ most
few_on R most rows out ([], h, is) = let e : length out ≡ 0 = ap length is in omega (arith, e)
few_on R most rows out (f ∷ fs, h, is) =
    let e : length out ≡ length (take most (f ++ joined most fs)) = ap length is in
    let few : length (take most (f ++ joined most fs)) ≤ most = few_taken most (f ++ joined most fs) in
    omega (arith, e, few)

pub on_full : (R : List ℕ → ℕ → Type 0) (most : ℕ) (rows out : List (List ℕ)) (i : ℕ) → most ≤ length out → AllGoOnTo R most (take i rows) out → GoOnTo R most rows out
on_full R most rows out i full g =
    let few : length out ≤ most = few_on R most (take i rows) out g in
    (i, g, inr (omega (arith, full, few)))

-- ---- what a row goes on to by its last number

last_is : (n : ℕ) (ns : List ℕ) → get_or (n ∷ ns) (length ns) 0 ≡ last_of n ns
last_is n [] = refl
last_is n (m ∷ ms) = last_is m ms

pub none_behind_none : (links : List Link) (link : LinkTest) (set : List Bool) (row : List ℕ) → length row ≡ 0 → AreNumbers (LeadsInto links link set row) []
none_behind_none links link set [] e = record { ascend = tt; each = λ m. (λ h. absurd (has_none m h), λ h. absurd h) }
none_behind_none links link set (n ∷ ns) e = absurd (omega (arith, e))

pub behind_last : (links : List Link) (link : LinkTest) (set : List Bool) (row ids : List ℕ) (last : ℕ) → 0 < length row → last ≡ get_or row (length row - 1) 0
    → AreNumbers (λ m. IsJoined links link last m × (get_or set m false ≡ true)) ids → AreNumbers (LeadsInto links link set row) ids
behind_last links link set [] ids last some e h = absurd (omega (arith, some))
behind_last links link set (n ∷ ns) ids last some e h =
    let at : length (n ∷ ns) - 1 ≡ length ns = omega arith in
    let is : last ≡ last_of n ns = e ∙ ap (λ (k : ℕ). get_or (n ∷ ns) k 0) at ∙ last_is n ns in
    subst (λ (x : ℕ). AreNumbers (λ m. IsJoined links link x m × (get_or set m false ≡ true)) ids) is h

-- ---- what follows one node
