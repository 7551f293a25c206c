-- How the marked nodes are found that a join leads to.
use Rattle.std.proofs.Common.{◌≡◌, ◌⊎◌, inl, inr, ⊎_elim, ◌↔◌, ◌<◌, ◌≤◌, ◌+◌, ◌==◌, ℕ, suc, Bool, true, false, not, ◌&&◌, if◌then◌else◌, List, [], ◌∷◌, ◌++◌, length, get_or, take, drop, refl, sym, ap, subst, arith, ◌∙◌, eq-eqb}
use Rattle.std.specs.List.{AllByRecursion}
use Rattle.std.proofs.lemmas.Bool.{or_cases, or_left, or_right, cases_lt, eqb-true, true≢false}
use Rattle.std.proofs.lemmas.List.{append-nil, append_assoc, get_or_past, take_all, take_more, drop_more, drop_all}
use Rattle.wc_graph.specs.declared.link.Link.{Link}
use Rattle.wc_query.specs.declared.query.LinkTest.{LinkTest}
use Rattle.wc_matches.specs.Ways.{IsColumn, AreColumns, ends_from}
use Rattle.wc_matches.specs.Found.{has}
use Rattle.wc_matches.specs.Joins.{IsJoined}
use Rattle.wc_matches.specs.Numbers.{Ascends, AreNumbers}
use Rattle.wc_matches.specs.Sets.{AreOpen, LeadsToMarked, LeadsToSome}

one_only : (end m : ℕ) → has (end ∷ []) m ≡ true → (end == m) ≡ true
one_only end m h = ⊎_elim (λ (k : (end == m) ≡ true). k) (λ (k : has [] m ≡ true). absurd (true≢false (sym k))) (or_cases (end == m) (has [] m) h)

-- ---- columns that are made one after another

pub columns_push : (J : ℕ → ℕ → Type 0) (es : List ℕ) (cs : List (List Bool)) (e : ℕ) (c : List Bool) → AreColumns J es cs → IsColumn J e c → AreColumns J (es ++ e ∷ []) (cs ++ c ∷ [])
columns_push J [] [] e c h is = (is, tt)
columns_push J [] (d ∷ ds) e c h is = absurd h
columns_push J (n ∷ ns) [] e c h is = absurd h
columns_push J (n ∷ ns) (d ∷ ds) e c h is = (h.0, columns_push J ns ds e c h.1 is)

-- ---- which ends

chosen_all : (P : ℕ → Type 0) (b : Bool) (e : ℕ) (ns : List ℕ) → P e → AllByRecursion P ns → AllByRecursion P (if b then e ∷ ns else ns)
chosen_all P true e ns p h = (p, h)
chosen_all P false e ns p h = h

from_all : (P : ℕ → Type 0) (es : List ℕ) (cs : List (List Bool)) (n : ℕ) → AllByRecursion P es → AllByRecursion P (ends_from es cs n)
from_all P [] cs n h = tt
from_all P (e ∷ es) [] n h = tt
from_all P (e ∷ es) (c ∷ cs) n h = chosen_all P (get_or c n false) e (ends_from es cs n) h.0 (from_all P es cs n h.1)

chosen_ascend : (b : Bool) (e : ℕ) (ns : List ℕ) → AllByRecursion (λ m. e < m) ns → Ascends ns → Ascends (if b then e ∷ ns else ns)
chosen_ascend true e ns below h = (below, h)
chosen_ascend false e ns below h = h

from_ascend : (es : List ℕ) (cs : List (List Bool)) (n : ℕ) → Ascends es → Ascends (ends_from es cs n)
from_ascend [] cs n h = tt
from_ascend (e ∷ es) [] n h = tt
from_ascend (e ∷ es) (c ∷ cs) n h = chosen_ascend (get_or c n false) e (ends_from es cs n) (from_all (λ m. e < m) es cs n h.0) (from_ascend es cs n h.1)

chosen_has : (b : Bool) (e : ℕ) (ns : List ℕ) (m : ℕ) → has (if b then e ∷ ns else ns) m ≡ true → ((b ≡ true) × (e ≡ m)) ⊎ (has ns m ≡ true)
chosen_has true e ns m h = ⊎_elim (λ (k : (e == m) ≡ true). inl (refl, eqb-true e m k)) (λ (k : has ns m ≡ true). inr k) (or_cases (e == m) (has ns m) h)
chosen_has false e ns m h = inr h

has_chosen : (b : Bool) (e : ℕ) (ns : List ℕ) (m : ℕ) → ((b ≡ true) × (e ≡ m)) ⊎ (has ns m ≡ true) → has (if b then e ∷ ns else ns) m ≡ true
has_chosen true e ns m (inl h) = or_left (e == m) (has ns m) (eq-eqb e m h.1)
has_chosen true e ns m (inr h) = or_right (e == m) (has ns m) h
has_chosen false e ns m (inl h) = absurd (true≢false (sym h.0))
has_chosen false e ns m (inr h) = h

from_only : (J : ℕ → ℕ → Type 0) (es : List ℕ) (cs : List (List Bool)) (n m : ℕ) → AreColumns J es cs → has (ends_from es cs n) m ≡ true → J n m × (has es m ≡ true)
from_only J [] cs n m h is = absurd (true≢false (sym is))
from_only J (e ∷ es) [] n m h is = absurd h
from_only J (e ∷ es) (c ∷ cs) n m h is = ⊎_elim
    (λ (at : (get_or c n false ≡ true) × (e ≡ m)). (subst (J n) at.1 ((h.0 n).0 at.0), or_left (e == m) (has es m) (eq-eqb e m at.1)))
    (λ (later : has (ends_from es cs n) m ≡ true). let rest = from_only J es cs n m h.1 later in (rest.0, or_right (e == m) (has es m) rest.1))
    (chosen_has (get_or c n false) e (ends_from es cs n) m is)

from_each : (J : ℕ → ℕ → Type 0) (es : List ℕ) (cs : List (List Bool)) (n m : ℕ) → AreColumns J es cs → J n m → has es m ≡ true → has (ends_from es cs n) m ≡ true
from_each J [] cs n m h j is = absurd (true≢false (sym is))
from_each J (e ∷ es) [] n m h j is = absurd h
from_each J (e ∷ es) (c ∷ cs) n m h j is = has_chosen (get_or c n false) e (ends_from es cs n) m (⊎_elim
    (λ (k : (e == m) ≡ true). inl ((h.0 n).1 (subst (J n) (sym (eqb-true e m k)) j), eqb-true e m k))
    (λ (k : has es m ≡ true). inr (from_each J es cs n m h.1 j k))
    (or_cases (e == m) (has es m) is))

-- the ends whose column marks a node are exactly those that it is joined with
pub ends_are : (J : ℕ → ℕ → Type 0) (set : List Bool) (es : List ℕ) (cs : List (List Bool)) (n : ℕ) → AreNumbers (λ m. get_or set m false ≡ true) es → AreColumns J es cs
    → AreNumbers (λ m. J n m × (get_or set m false ≡ true)) (ends_from es cs n)
ends_are J set es cs n numbers columns = record {
  ascend = from_ascend es cs n numbers.ascend;
  each = λ m. (
    λ h. let both = from_only J es cs n m columns h in (both.0, (numbers.each m).0 both.1),
    λ h. from_each J es cs n m columns h.0 ((numbers.each m).1 h.1),
  );
}

-- ---- one end after another

at_next : (es : List ℕ) (cs : List (List Bool)) (i n : ℕ) → i < length es → length cs ≡ length es
    → ends_from (drop i es) (drop i cs) n ≡ (if get_or (get_or cs i []) n false then get_or es i 0 ∷ ends_from (drop (i + 1) es) (drop (i + 1) cs) n else ends_from (drop (i + 1) es) (drop (i + 1) cs) n)
at_next es cs i n lt same =
    let lt' : i < length cs = subst (λ (k : ℕ). i < k) (sym same) lt in
    ap (λ (xs : List ℕ). ends_from xs (drop i cs) n) (drop_more es i 0 lt)
    ∙ ap (λ (xs : List (List Bool)). ends_from (get_or es i 0 ∷ drop (i + 1) es) xs n) (drop_more cs i [] lt')

chosen_not : (b : Bool) (e : ℕ) (ns : List ℕ) → b ≡ false → (if b then e ∷ ns else ns) ≡ ns
chosen_not true e ns is = absurd (true≢false is)
chosen_not false e ns is = refl

chosen_is : (b : Bool) (e : ℕ) (ns : List ℕ) → b ≡ true → (if b then e ∷ ns else ns) ≡ e ∷ ns
chosen_is true e ns is = refl
chosen_is false e ns is = absurd (true≢false (sym is))

pub ends_past : (es : List ℕ) (cs : List (List Bool)) (i n : ℕ) (ids more : List ℕ) → i < length es → length cs ≡ length es → get_or (get_or cs i []) n false ≡ false → more ≡ ids
    → more ++ ends_from (drop (i + 1) es) (drop (i + 1) cs) n ≡ ids ++ ends_from (drop i es) (drop i cs) n
ends_past es cs i n ids more lt same is kept =
    ap (λ (xs : List ℕ). xs ++ ends_from (drop (i + 1) es) (drop (i + 1) cs) n) kept
    ∙ ap (λ (xs : List ℕ). ids ++ xs) (sym (at_next es cs i n lt same ∙ chosen_not (get_or (get_or cs i []) n false) (get_or es i 0) (ends_from (drop (i + 1) es) (drop (i + 1) cs) n) is))

pub ends_more : (es : List ℕ) (cs : List (List Bool)) (i n : ℕ) (ids more : List ℕ) → i < length es → length cs ≡ length es → get_or (get_or cs i []) n false ≡ true
    → more ≡ ids ++ get_or es i 0 ∷ [] → more ++ ends_from (drop (i + 1) es) (drop (i + 1) cs) n ≡ ids ++ ends_from (drop i es) (drop i cs) n
ends_more es cs i n ids more lt same is pushed =
    ap (λ (xs : List ℕ). xs ++ ends_from (drop (i + 1) es) (drop (i + 1) cs) n) pushed
    ∙ append_assoc ids (get_or es i 0 ∷ []) (ends_from (drop (i + 1) es) (drop (i + 1) cs) n)
    ∙ ap (λ (xs : List ℕ). ids ++ xs) (sym (at_next es cs i n lt same ∙ chosen_is (get_or (get_or cs i []) n false) (get_or es i 0) (ends_from (drop (i + 1) es) (drop (i + 1) cs) n) is))

pub ends_all : (es : List ℕ) (cs : List (List Bool)) (i n : ℕ) (ids all : List ℕ) → length es ≤ i → ids ++ ends_from (drop i es) (drop i cs) n ≡ all → ids ≡ all
ends_all es cs i n ids all past is =
    sym (ap (λ (xs : List ℕ). ids ++ ends_from xs (drop i cs) n) (drop_all i es past) ∙ append-nil ids) ∙ is

pub columns_same : (J : ℕ → ℕ → Type 0) (es : List ℕ) (cs : List (List Bool)) → AreColumns J es cs → length cs ≡ length es
columns_same J [] [] h = refl
columns_same J [] (c ∷ cs) h = absurd h
columns_same J (e ∷ es) [] h = absurd h
columns_same J (e ∷ es) (c ∷ cs) h = ap suc (columns_same J es cs h.1)

-- one column more
pub columns_next : (J : ℕ → ℕ → Type 0) (es : List ℕ) (cs more : List (List Bool)) (i : ℕ) (c : List Bool) → i < length es → AreColumns J (take i es) cs → IsColumn J (get_or es i 0) c
    → more ≡ cs ++ c ∷ [] → AreColumns J (take (i + 1) es) more
columns_next J es cs more i c lt h is pushed =
    subst (AreColumns J (take (i + 1) es)) (sym pushed)
    (subst (λ (xs : List ℕ). AreColumns J xs (cs ++ c ∷ [])) (sym (take_more es i 0 lt)) (columns_push J (take i es) cs (get_or es i 0) c h is))

pub columns_all : (J : ℕ → ℕ → Type 0) (es : List ℕ) (cs : List (List Bool)) (i : ℕ) → length es ≤ i → AreColumns J (take i es) cs → AreColumns J es cs
columns_all J es cs i past h = subst (λ (xs : List ℕ). AreColumns J xs cs) (take_all i es past) h

-- ---- a column

-- what a join leads from to one node alone
pub column_is : (links : List Link) (join : LinkTest) (end : ℕ) (marks column : List Bool) → ((n : ℕ) → (get_or marks n false ≡ true) ↔ LeadsToSome links join (end ∷ []) n) → column ≡ marks
    → IsColumn (IsJoined links join) end column
column_is links join end marks column leads is n =
    subst (λ (xs : List Bool). (get_or xs n false ≡ true) ↔ IsJoined links join n end) (sym is) (
      λ h. let s = (leads n).0 h in subst (λ (m : ℕ). IsJoined links join n m) (sym (eqb-true end s.0 (one_only end s.0 s.2))) s.1,
      λ h. (leads n).1 (end, h, or_left (end == end) false (eq-eqb end end refl)),
    )

-- ---- what is barred

aside_not : (a b : Bool) → (b ≡ true) ⊎ (a ≡ true) → (not a && not b) ≡ false
aside_not true b h = refl
aside_not false true h = refl
aside_not false false (inl e) = absurd (true≢false (sym e))
aside_not false false (inr e) = absurd (true≢false (sym e))

pub barred_open : (links : List Link) (join : LinkTest) (set leads barred : List Bool) (i : ℕ) → length barred ≡ i
    → ((m : ℕ) → m < i → get_or barred m false ≡ (not (get_or leads m false) && not (get_or set m false)))
    → ((n : ℕ) → (get_or leads n false ≡ true) ↔ LeadsToMarked links join set n) → AreOpen links join set barred
barred_open links join set leads barred i size each is n h = ⊎_elim
    (λ (below : n < i). each n below ∙ aside_not (get_or leads n false) (get_or set n false)
    (⊎_elim (λ (marked : get_or set n false ≡ true). inl marked) (λ (leading : LeadsToMarked links join set n). inr ((is n).1 leading)) h))
    (λ (above : i ≤ n). get_or_past barred n false (omega (arith, size, above)))
    (cases_lt n i)

-- where nothing is barred, all are open
pub none_barred : (links : List Link) (join : LinkTest) (set barred : List Bool) → barred ≡ [] → AreOpen links join set barred
none_barred links join set barred is n h = ap (λ (xs : List Bool). get_or xs n false) is
