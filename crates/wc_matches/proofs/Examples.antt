-- The rows of two queries, found by hand.
use Rattle.std.proofs.Common.{◌≡◌, ◌⊎◌, inl, inr, ⊎_elim, ◌<◌, ℕ, zero, suc, true, List, [], ◌∷◌, length, refl, sym, ap, subst, arith, lit<, ◌∙◌}
use Rattle.std.specs.Prelude.{Contains}
use Rattle.std.specs.List.{slice_index_or}
use Rattle.wc_graph.specs.Walks.{Leads, Walks, Reaches}
use Rattle.wc_graph.specs.declared.link.Link.{Link}
use Rattle.wc_graph.specs.declared.link.LinkType.{LinkType}
use Rattle.wc_graph.specs.declared.link.LinkType.TheVariants.{InputCalc, Create}
use Rattle.wc_value.specs.declared.value.Value.{out-Value}
use denote.Hole
use Rattle.wc_matches.specs.First.{ComesBefore, IsAmong}
use Rattle.wc_matches.specs.Matches.{IsMatch}
use Rattle.wc_matches.specs.Meets.{meets}
use Rattle.wc_matches.specs.Rows.{store, sums, origins, SumsAreFound, OriginsAreFound, OneOriginIsFound}

-- ---- the links of the store

abbrev Ends : List LinkType → ℕ → ℕ → Type 0
Ends types from to =
    ((from ≡ 1) × (to ≡ 3) × Contains types InputCalc) ⊎ (((from ≡ 2) × (to ≡ 3) × Contains types InputCalc) ⊎ ((from ≡ 3) × (to ≡ 4) × Contains types Create))

at : (types : List LinkType) (from to : ℕ) (l x : Link) → l ≡ x → Contains types x.link → x.source ≡ from → x.target ≡ to
    → (from ≡ l.source) × (to ≡ l.target) × Contains types l.link
at types from to l x e c s t =
    (sym s ∙ sym (ap (λ (y : Link). y.source) e), sym t ∙ sym (ap (λ (y : Link). y.target) e), subst (λ (y : Link). Contains types y.link) (sym e) c)

ends_at : (types : List LinkType) (from to k : ℕ) (x : Link) → k < length store.links → slice_index_or store.links k x ≡ x → Contains types x.link → x.source ≡ from
    → x.target ≡ to → Ends types from to
unfolding store
ends_at types from to zero x l e c s t = inl (at types from to _ x e c s t)
ends_at types from to (suc zero) x l e c s t = inr (inl (at types from to _ x e c s t))
ends_at types from to (suc (suc zero)) x l e c s t = inr (inr (at types from to _ x e c s t))
ends_at types from to (suc (suc (suc k))) x l e c s t = absurd (omega (arith, l))

ends : (types : List LinkType) (from to : ℕ) → Leads types store.links from to → Ends types from to
ends types from to h = ends_at types from to h.0 h.1 h.2 h.3 h.4.0 h.4.1 h.4.2

one_leads : (types : List LinkType) → Contains types InputCalc → Leads types store.links 1 3
unfolding store
one_leads types c = (0, _, lit< tt, refl, (c, refl, refl))

two_leads : (types : List LinkType) → Contains types InputCalc → Leads types store.links 2 3
unfolding store
two_leads types c = (1, _, lit< tt, refl, (c, refl, refl))

three_leads : (types : List LinkType) → Contains types Create → Leads types store.links 3 4
unfolding store
three_leads types c = (2, _, lit< tt, refl, (c, refl, refl))

not_create : Contains (InputCalc ∷ []) Create → ⊥
not_create (zero, l, e) = cc
not_create (suc k, l, e) = omega (arith, l)

not_input : Contains (Create ∷ []) InputCalc → ⊥
not_input (zero, l, e) = cc
not_input (suc k, l, e) = omega (arith, l)

-- ---- sums

three : (a b c n m k : ℕ) → n ≡ a → m ≡ b → k ≡ c → (a ∷ b ∷ c ∷ []) ≡ (n ∷ m ∷ k ∷ [])
three a b c n m k p q r = cc

behind_sum : (m k : ℕ) → m ≡ 3 → Ends (Create ∷ []) m k → k ≡ 4
behind_sum m k e (inl h) = absurd (not_input h.2)
behind_sum m k e (inr (inl h)) = absurd (not_input h.2)
behind_sum m k e (inr (inr h)) = h.1

sum_among : (n m k : ℕ) → Ends (InputCalc ∷ []) n m → Ends (Create ∷ []) m k → IsAmong ((1 ∷ 3 ∷ 4 ∷ []) ∷ (2 ∷ 3 ∷ 4 ∷ []) ∷ []) (n ∷ m ∷ k ∷ [])
sum_among n m k (inl h) g = inl (three 1 3 4 n m k h.0 h.1 (behind_sum m k h.1 g))
sum_among n m k (inr (inl h)) g = inr (inl (three 2 3 4 n m k h.0 h.1 (behind_sum m k h.1 g)))
sum_among n m k (inr (inr h)) g = absurd (not_create h.2)

sum_is : (row : List ℕ) → IsMatch store sums row → IsAmong ((1 ∷ 3 ∷ 4 ∷ []) ∷ (2 ∷ 3 ∷ 4 ∷ []) ∷ []) row
unfolding sums
sum_is [] h = absurd h
sum_is (n ∷ []) h = absurd h.1
sum_is (n ∷ m ∷ []) h = absurd h.1.2
sum_is (n ∷ m ∷ k ∷ []) h = sum_among n m k (ends (InputCalc ∷ []) n m h.1.0) (ends (Create ∷ []) m k h.1.2.0)
sum_is (n ∷ m ∷ k ∷ i ∷ is) h = absurd h.1.2.2

has_input : Contains (InputCalc ∷ []) InputCalc
has_input = (0, lit< tt, refl)

has_create : Contains (Create ∷ []) Create
has_create = (0, lit< tt, refl)

first_sum : IsMatch store sums (1 ∷ 3 ∷ 4 ∷ [])
unfolding store sums meets out-Value denote.Hole.Carrier.out
first_sum = (refl, (one_leads (InputCalc ∷ []) has_input, refl, (three_leads (Create ∷ []) has_create, refl, tt)))

second_sum : IsMatch store sums (2 ∷ 3 ∷ 4 ∷ [])
unfolding store sums meets out-Value denote.Hole.Carrier.out
second_sum = (refl, (two_leads (InputCalc ∷ []) has_input, refl, (three_leads (Create ∷ []) has_create, refl, tt)))

pub sums_are_found : SumsAreFound
sums_are_found = record {
  ascend = ((inl (lit< tt), tt), (tt, tt));
  each = (first_sum, (second_sum, tt));
  few = omega arith;
  others = λ row h. inl (sum_is row h);
}

-- ---- origins

abbrev both : List LinkType
both = InputCalc ∷ Create ∷ []

abbrev Back : ℕ → ℕ → Type 0
Back from to = Leads both store.links to from

ends_high : (from to : ℕ) → Ends both from to → (to ≡ 3) ⊎ (to ≡ 4)
ends_high from to (inl h) = inl h.1
ends_high from to (inr (inl h)) = inl h.1
ends_high from to (inr (inr h)) = inr h.1

first_step : (n : ℕ) (through : List ℕ) (m : ℕ) → Walks Back n through m → (to : ℕ) × Back n to
first_step n [] m w = (m, w)
first_step n (t ∷ rest) m w = (t, w.0)

starts_high : (n : ℕ) (through : List ℕ) (m : ℕ) → Walks Back n through m → (n ≡ 3) ⊎ (n ≡ 4)
starts_high n through m w = let s = first_step n through m w in ends_high s.0 n (ends both s.0 n s.1)

low_ends : (n : ℕ) (through : List ℕ) (m : ℕ) → n < 3 → Walks Back n through m → ⊥
low_ends n through m low w = ⊎_elim (λ (e : n ≡ 3). omega (arith, low, e)) (λ (e : n ≡ 4). omega (arith, low, e)) (starts_high n through m w)

into_three : (from : ℕ) → Ends both from 3 → (from ≡ 1) ⊎ (from ≡ 2)
into_three from (inl h) = inl h.0
into_three from (inr (inl h)) = inr h.0
into_three from (inr (inr h)) = absurd (omega (arith, h.1))

into_four : (from : ℕ) → Ends both from 4 → from ≡ 3
into_four from (inl h) = absurd (omega (arith, h.1))
into_four from (inr (inl h)) = absurd (omega (arith, h.1))
into_four from (inr (inr h)) = h.0

from_three : (through : List ℕ) (m : ℕ) → Walks Back 3 through m → (m ≡ 1) ⊎ (m ≡ 2)
from_three [] m w = into_three m (ends both m 3 w)
from_three (t ∷ rest) m w =
    absurd (⊎_elim (λ (e : t ≡ 1). low_ends t rest m (omega (arith, e)) w.1) (λ (e : t ≡ 2). low_ends t rest m (omega (arith, e)) w.1) (into_three t (ends both t 3 w.0)))

from_four : (through : List ℕ) (m : ℕ) → Walks Back 4 through m → (m ≡ 3) ⊎ ((m ≡ 1) ⊎ (m ≡ 2))
from_four [] m w = inl (into_four m (ends both m 4 w))
from_four (t ∷ rest) m w = inr (from_three rest m (subst (λ (n : ℕ). Walks Back n rest m) (into_four t (ends both t 4 w.0)) w.1))

two : (a b n m : ℕ) → n ≡ a → m ≡ b → (a ∷ b ∷ []) ≡ (n ∷ m ∷ [])
two a b n m p q = cc

-- node 3 isn't node 4
not_three : meets store origins.first 3 ≡ true → ⊥
unfolding store origins meets out-Value denote.Hole.Carrier.out
not_three e = cc

origin_among : (n m : ℕ) → meets store origins.first n ≡ true → Reaches Back n m → IsAmong ((4 ∷ 1 ∷ []) ∷ (4 ∷ 2 ∷ []) ∷ (4 ∷ 3 ∷ []) ∷ []) (n ∷ m ∷ [])
origin_among n m t w = ⊎_elim
    (λ (e : n ≡ 3). absurd (not_three (subst (λ (x : ℕ). meets store origins.first x ≡ true) e t)))
    (λ (e : n ≡ 4). ⊎_elim (λ (f : m ≡ 3). inr (inr (inl (two 4 3 n m e f))))
    (λ (g : (m ≡ 1) ⊎ (m ≡ 2)). ⊎_elim (λ (f : m ≡ 1). inl (two 4 1 n m e f)) (λ (f : m ≡ 2). inr (inl (two 4 2 n m e f))) g)
    (from_four w.0 m (subst (λ (x : ℕ). Walks Back x w.0 m) e w.1)))
    (starts_high n w.0 m w.1)

origin_is : (row : List ℕ) → IsMatch store origins row → IsAmong ((4 ∷ 1 ∷ []) ∷ (4 ∷ 2 ∷ []) ∷ (4 ∷ 3 ∷ []) ∷ []) row
unfolding origins
origin_is [] h = absurd h
origin_is (n ∷ []) h = absurd h.1
origin_is (n ∷ m ∷ []) h = origin_among n m h.0 h.1.0
origin_is (n ∷ m ∷ k ∷ ks) h = absurd h.1.2

takes_input : Contains both InputCalc
takes_input = (0, lit< tt, refl)

takes_create : Contains both Create
takes_create = (1, lit< tt, refl)

first_origin : IsMatch store origins (4 ∷ 1 ∷ [])
unfolding store origins meets out-Value denote.Hole.Carrier.out
first_origin = (refl, ((3 ∷ [], (three_leads both takes_create, one_leads both takes_input)), refl, tt))

second_origin : IsMatch store origins (4 ∷ 2 ∷ [])
unfolding store origins meets out-Value denote.Hole.Carrier.out
second_origin = (refl, ((3 ∷ [], (three_leads both takes_create, two_leads both takes_input)), refl, tt))

third_origin : IsMatch store origins (4 ∷ 3 ∷ [])
unfolding store origins meets out-Value denote.Hole.Carrier.out
third_origin = (refl, (([], three_leads both takes_create), refl, tt))

pub origins_are_found : OriginsAreFound
origins_are_found = record {
  ascend = ((inr (refl, inl (lit< tt)), (inr (refl, inl (lit< tt)), tt)), ((inr (refl, inl (lit< tt)), tt), (tt, tt)));
  each = (first_origin, (second_origin, (third_origin, tt)));
  few = omega arith;
  others = λ row h. inl (origin_is row h);
}

one_of_more : (row : List ℕ) → IsAmong ((4 ∷ 1 ∷ []) ∷ (4 ∷ 2 ∷ []) ∷ (4 ∷ 3 ∷ []) ∷ []) row → IsAmong ((4 ∷ 1 ∷ []) ∷ []) row ⊎ ComesBefore (4 ∷ 1 ∷ []) row
one_of_more row (inl same) = inl (inl same)
one_of_more row (inr (inl same)) = inr (subst (λ (r : List ℕ). ComesBefore (4 ∷ 1 ∷ []) r) same (inr (refl, inl (lit< tt))))
one_of_more row (inr (inr (inl same))) = inr (subst (λ (r : List ℕ). ComesBefore (4 ∷ 1 ∷ []) r) same (inr (refl, inl (lit< tt))))
one_of_more row (inr (inr (inr none))) = absurd none

abbrev second : List ℕ → ℕ
second [] = 0
second (n ∷ []) = 0
second (n ∷ m ∷ ms) = m

other_row : IsAmong ((4 ∷ 1 ∷ []) ∷ []) (4 ∷ 2 ∷ []) → ⊥
other_row (inl same) = let e : 1 ≡ 2 = ap second same in omega (arith, e)
other_row (inr none) = none

pub one_origin_is_found : OneOriginIsFound
one_origin_is_found = (
  record {
    ascend = (tt, tt);
    each = (first_origin, tt);
    few = omega arith;
    others = λ row h. ⊎_elim (λ (a : IsAmong ((4 ∷ 1 ∷ []) ∷ []) row). inl a) (λ (b : ComesBefore (4 ∷ 1 ∷ []) row). inr (refl, (b, tt))) (one_of_more row (origin_is row h));
  },
  (4 ∷ 2 ∷ [], second_origin, other_row),
)
