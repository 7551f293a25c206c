-- Ascending lists of exactly some numbers.
use Rattle.std.proofs.Common.{◌≡◌, ◌≢◌, ℕ, ◌+◌, ◌<◌, ◌≤◌, List, [], ◌∷◌, ◌++◌, length, get_or, Contains, ◌↔◌, ◌⊎◌, inl, inr, ⊎_elim, sym, ap, ◌∙◌, subst, arith}
use Rattle.std.proofs.lemmas.Bool.{cases_lt}
use Rattle.std.proofs.lemmas.List.{length_push, get_or_append_left, get_or_push, get_or_past, get_or_default}
use Rattle.std.proofs.lemmas.List.Elements.{Contains-append_left, Contains-push, Contains-push_cases}
use Rattle.std.proofs.lemmas.Bool.{cases_eq}
use Rattle.wc_graph.specs.Reached.{AreExactly}

pub exactly_as : (P Q : ℕ → Type 0) (ids : List ℕ) → ((id : ℕ) → P id ↔ Q id) → AreExactly P ids → AreExactly Q ids
exactly_as P Q ids h a = record {
  ascend = a.ascend;
  each = λ id. (λ k. (h id).0 ((a.each id).0 k), λ q. (a.each id).1 ((h id).1 q));
}

pub exactly_none : (P : ℕ → Type 0) (ids : List ℕ) → ids ≡ [] → ((id : ℕ) → P id → ⊥) → AreExactly P ids
exactly_none P ids e h =
    let len : length ids ≡ 0 = ap length e in
    record {
      ascend = λ k lt. absurd (omega arith);
      each = λ id. (λ k. absurd (omega (arith, k.1)), λ p. absurd (h id p));
    }

-- a greater number at the end
exactly_push : (P Q : ℕ → Type 0) (ids ids' : List ℕ) (n : ℕ) → ids' ≡ ids ++ n ∷ [] → ((id : ℕ) → P id → id < n)
    → ((id : ℕ) → P id → Q id) → Q n → ((id : ℕ) → Q id → P id ⊎ (n ≡ id)) → AreExactly P ids → AreExactly Q ids'
exactly_push P Q ids ids' n is below more at back a =
    subst (AreExactly Q) (sym is) (record {
      ascend = λ k lt.
          let len = length_push ids n in
          let first : get_or (ids ++ n ∷ []) k 0 ≡ get_or ids k 0 = get_or_append_left ids (n ∷ []) 0 k (omega arith) in
          ⊎_elim
          (λ in'.
          let second : get_or (ids ++ n ∷ []) (k + 1) 0 ≡ get_or ids (k + 1) 0 = get_or_append_left ids (n ∷ []) 0 (k + 1) in' in
          let h = a.ascend k in' in
          omega arith)
          (λ out.
          let second : get_or (ids ++ n ∷ []) (k + 1) 0 ≡ n = get_or_push ids n 0 (k + 1) (omega arith) in
          let h : get_or ids k 0 < n = below (get_or ids k 0) ((a.each (get_or ids k 0)).0 (k, omega arith, get_or_default ids k (get_or ids k 0) 0 (omega arith))) in
          omega arith)
          (cases_lt (k + 1) (length ids));
      each = λ id. (
        λ k. ⊎_elim (λ c. more id ((a.each id).0 c)) (λ e. subst Q e at) (Contains-push_cases ids n id k),
        λ q. ⊎_elim (λ p. Contains-append_left ids (n ∷ []) id ((a.each id).1 p)) (λ e. subst (Contains (ids ++ n ∷ [])) e (Contains-push ids n)) (back id q),
      );
    })

-- ---- the numbers of a colour, up to a place
pub colour_more : (colours : List ℕ) (colour i : ℕ) (ids ids' : List ℕ) → get_or colours i 0 ≡ colour → ids' ≡ ids ++ i ∷ []
    → AreExactly (λ id. (id < i) × (get_or colours id 0 ≡ colour)) ids
    → AreExactly (λ id. (id < i + 1) × (get_or colours id 0 ≡ colour)) ids'
colour_more colours colour i ids ids' here is a =
    exactly_push _ _ ids ids' i is (λ id p. p.0) (λ id p. (let h : id < i = p.0 in omega arith, p.1)) (omega arith, here)
    (λ id q. ⊎_elim (λ e. inr (sym e)) (λ ne. inl (let h : id < i + 1 = q.0 in omega arith, q.1)) (cases_eq id i)) a

pub colour_past : (colours : List ℕ) (colour i : ℕ) (ids : List ℕ) → get_or colours i 0 ≢ colour
    → AreExactly (λ id. (id < i) × (get_or colours id 0 ≡ colour)) ids
    → AreExactly (λ id. (id < i + 1) × (get_or colours id 0 ≡ colour)) ids
colour_past colours colour i ids ne a =
    exactly_as _ _ ids (λ id. (
      λ p. (let h : id < i = p.0 in omega arith, p.1),
      λ q. ⊎_elim (λ e. absurd (ne (ap (λ k. get_or colours k 0) (sym e) ∙ q.1))) (λ ne'. (let h : id < i + 1 = q.0 in omega arith, q.1)) (cases_eq id i),
    )) a

pub colour_all : (colours : List ℕ) (colour i : ℕ) (ids : List ℕ) → colour ≢ 0 → length colours ≤ i
    → AreExactly (λ id. (id < i) × (get_or colours id 0 ≡ colour)) ids
    → AreExactly (λ id. get_or colours id 0 ≡ colour) ids
colour_all colours colour i ids some all a =
    exactly_as _ _ ids (λ id. (
      λ p. p.1,
      λ q. ⊎_elim (λ lt. (omega arith, q)) (λ ge. absurd (some (sym q ∙ get_or_past colours id 0 ge))) (cases_lt id (length colours)),
    )) a
