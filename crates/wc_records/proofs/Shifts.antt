-- Items that begin at a place of a list: what they are once one was put in or taken out.
use Rattle.std.proofs.Common.{◌≡◌, ℕ, zero, suc, ◌+◌, ◌-◌, ◌<◌, ◌≤◌, List, [], ◌∷◌, ◌++◌, length, set, take, drop, sym, ap, ◌∙◌, arith}
use Rattle.std.specs.List.{insert, remove}
use Rattle.std.proofs.lemmas.List.{append_assoc, length-drop, length-take-le, take-take, take_rest, drop-drop, drop_at, set_at, drop-set-add}
use Rattle.std.proofs.lemmas.List.Edits.{take-paste}
use lib.Seq.{paste}

-- ---- at the same place behind the beginning

pub dropped_insert : {T : Type 0} (xs : List T) (b k m : ℕ) (y : T) → m ≡ b + k → b ≤ length xs → drop b (insert xs m y) ≡ insert (drop b xs) k y
dropped_insert xs zero k m y e le = let same : m ≡ k = omega (arith, e) in ap (λ j. insert xs j y) same
dropped_insert [] (suc b) k m y e le = absurd (omega (arith, le))
dropped_insert (x ∷ xs) (suc b) k zero y e le = absurd (omega (arith, e))
dropped_insert (x ∷ xs) (suc b) k (suc m) y e le = dropped_insert xs b k m y (omega (arith, e)) (omega (arith, le))

pub dropped_remove : {T : Type 0} (xs : List T) (b k m : ℕ) → m ≡ b + k → b ≤ length xs → drop b (remove xs m) ≡ remove (drop b xs) k
dropped_remove xs zero k m e le = let same : m ≡ k = omega (arith, e) in ap (λ j. remove xs j) same
dropped_remove [] (suc b) k m e le = absurd (omega (arith, le))
dropped_remove (x ∷ xs) (suc b) k zero e le = absurd (omega (arith, e))
dropped_remove (x ∷ xs) (suc b) k (suc m) e le = dropped_remove xs b k m (omega (arith, e)) (omega (arith, le))

-- ---- by a turn of the items up to the place

-- what lies behind the first places of a list of two parts
behind : {T : Type 0} (xs ws : List T) (b : ℕ) → b ≤ length xs → drop b (take b xs ++ ws) ≡ ws
behind xs ws b le = drop_at (take b xs) ws b (length-take-le b xs le)

turned_right : {T : Type 0} (zs : List T) (k : ℕ) → k < length zs
    → drop 1 ((drop k (take (suc k) zs) ++ take k (take (suc k) zs)) ++ drop (suc k) zs) ≡ remove zs k
turned_right zs k lt =
    let one : length (drop k (take (suc k) zs)) ≡ 1 = omega (arith, length-drop k (take (suc k) zs), length-take-le (suc k) zs (omega arith)) in
    ap (drop 1) (append_assoc (drop k (take (suc k) zs)) (take k (take (suc k) zs)) (drop (suc k) zs))
    ∙ drop_at (drop k (take (suc k) zs)) (take k (take (suc k) zs) ++ drop (suc k) zs) 1 one
    ∙ ap (λ ws. ws ++ drop (suc k) zs) (take-take k (suc k) zs (omega arith))

turned_left : {T : Type 0} (zs : List T) (k : ℕ) (y : T) → k < length zs
    → set ((drop 1 (take (suc k) zs) ++ take 1 (take (suc k) zs)) ++ drop (suc k) zs) k y ≡ insert (drop 1 zs) k y
turned_left [] k y lt = absurd (omega (arith, lt))
turned_left (z ∷ ws) k y lt =
    ap (λ l. set l k y) (append_assoc (take k ws) (z ∷ []) (drop k ws))
    ∙ set_at (take k ws) z (drop k ws) y k (length-take-le k ws (omega (arith, lt)))

-- the item at the place went to the front of those before it, and is left out
pub moved_up : {T : Type 0} (xs mid ys : List T) (b k n : ℕ) → b + k < length xs → n ≡ suc k → mid ≡ take n (drop b xs)
    → ys ≡ drop (length mid - 1) mid ++ take (length mid - 1) mid → drop (b + 1) (take b xs ++ (ys ++ drop n (drop b xs))) ≡ remove (drop b xs) k
moved_up {T} xs mid ys b k n lt en em ey =
    let within : k < length (drop b xs) = omega (arith, length-drop b xs) in
    let first : mid ≡ take (suc k) (drop b xs) = em ∙ ap (λ j. take j (drop b xs)) en in
    let most : length mid - 1 ≡ k = omega (arith, ap length first, length-take-le (suc k) (drop b xs) (omega arith)) in
    let turned : ys ≡ drop k (take (suc k) (drop b xs)) ++ take k (take (suc k) (drop b xs)) = ey ∙ (λ i. drop (most i) (first i) ++ take (most i) (first i)) in
    sym (drop-drop 1 b (take b xs ++ (ys ++ drop n (drop b xs))))
    ∙ ap (drop 1) (behind xs (ys ++ drop n (drop b xs)) b (omega arith))
    ∙ (λ i. drop 1 (turned i ++ drop (en i) (drop b xs)))
    ∙ turned_right (drop b xs) k within

-- the first place went behind those before the place, and takes an item
pub moved_down : {T : Type 0} (xs mid ys : List T) (b k n : ℕ) (y : T) → b + k < length xs → n ≡ suc k → mid ≡ take n (drop b xs)
    → ys ≡ drop 1 mid ++ take 1 mid → drop b (set (take b xs ++ (ys ++ drop n (drop b xs))) (b + k) y) ≡ insert (drop (b + 1) xs) k y
moved_down {T} xs mid ys b k n y lt en em ey =
    let within : k < length (drop b xs) = omega (arith, length-drop b xs) in
    let first : mid ≡ take (suc k) (drop b xs) = em ∙ ap (λ j. take j (drop b xs)) en in
    let turned : ys ≡ drop 1 (take (suc k) (drop b xs)) ++ take 1 (take (suc k) (drop b xs)) = ey ∙ (λ i. drop 1 (first i) ++ take 1 (first i)) in
    drop-set-add b (take b xs ++ (ys ++ drop n (drop b xs))) k y
    ∙ ap (λ l. set l k y) (behind xs (ys ++ drop n (drop b xs)) b (omega arith))
    ∙ (λ i. set (turned i ++ drop (en i) (drop b xs)) k y)
    ∙ turned_left (drop b xs) k y within
    ∙ ap (λ l. insert l k y) (drop-drop 1 b xs)

-- ---- by a copy to the front

pub closed : {T : Type 0} (xs : List T) (b n e : ℕ) → b ≤ length xs → e ≡ length xs → n ≡ length xs - b → take n (paste xs 0 (drop b xs) (e - b)) ≡ drop b xs
closed xs b n e le ee en =
    let most : n ≡ 0 + (length xs - b) = omega (arith, en) in
    (λ i. take (most i) (paste xs 0 (drop b xs) (ee i - b)))
    ∙ take-paste xs 0 (drop b xs) (length xs - b) (omega arith) (omega (arith, length-drop b xs))
    ∙ take_rest xs b
