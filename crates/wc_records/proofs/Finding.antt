-- What is found by a number after one record is set.
use Rattle.std.proofs.Common.{◌≡◌, ℕ, zero, suc, ◌<◌, Bool, true, false, List, [], ◌∷◌, length, get_or, set, Some, refl, sym, ap, ◌∙◌, arith}
use Rattle.std.specs.Prelude.{if◌then◌else◌, ◌==◌}
use Rattle.std.proofs.lemmas.Bool.{eq-eqb, ne_eqb}
use Rattle.wc_state.specs.declared.record.ProcessRecord.{ProcessRecord}
use Rattle.wc_records.specs.Records.{find_record}
use Rattle.wc_records.specs.Ascending.{AreAscending}
use Rattle.wc_records.proofs.Chosen.{above_at}

pub find_other : (n : ℕ) (rs : List ProcessRecord) (i : ℕ) (r d : ProcessRecord) → i < length rs → r.node ≡ (get_or rs i d).node → (n ≡ r.node → ⊥)
    → find_record n (set rs i r) ≡ find_record n rs
find_other n [] i r d lt same ne = absurd (omega (arith, lt))
find_other n (q ∷ qs) zero r d lt same ne =
    let one : (r.node == n) ≡ false = ne_eqb r.node n (λ e. ne (sym e)) in
    let other : (q.node == n) ≡ false = ne_eqb q.node n (λ e. ne (sym e ∙ sym same)) in
    rw (one, other) refl
find_other n (q ∷ qs) (suc i) r d lt same ne =
    ap (λ o. if q.node == n then Some q else o) (find_other n qs i r d (omega arith) same ne)

pub find_set : (low : ℕ) (rs : List ProcessRecord) (i : ℕ) (r d : ProcessRecord) → AreAscending low rs → i < length rs → r.node ≡ (get_or rs i d).node
    → find_record r.node (set rs i r) ≡ Some r
find_set low [] i r d up lt same = absurd (omega (arith, lt))
find_set low (q ∷ qs) zero r d up lt same = ap (λ (b : Bool). if b then Some r else find_record r.node qs) (eq-eqb r.node r.node refl)
find_set low (q ∷ qs) (suc i) r d up lt same =
    let h = above_at q.node qs i d up.1 (omega arith) in
    let other : (q.node == r.node) ≡ false = ne_eqb q.node r.node (λ e. omega (arith, e, h, same)) in
    rw other (find_set q.node qs i r d up.1 (omega arith) same)

pub find_at : (low : ℕ) (rs : List ProcessRecord) (i : ℕ) (r : ProcessRecord) → AreAscending low rs → i < length rs → r ≡ get_or rs i r → find_record r.node rs ≡ Some r
find_at low [] i r up lt read = absurd (omega (arith, lt))
find_at low (q ∷ qs) zero r up lt read =
    let here : (q.node == r.node) ≡ true = eq-eqb q.node r.node (ap (λ (x : ProcessRecord). x.node) (sym read)) in
    ap (λ (b : Bool). if b then Some q else find_record r.node qs) here ∙ ap Some (sym read)
find_at low (q ∷ qs) (suc i) r up lt read =
    let h = above_at q.node qs i r up.1 (omega arith) in
    let other : (q.node == r.node) ≡ false = ne_eqb q.node r.node (λ e. omega (arith, e, h, ap (λ (x : ProcessRecord). x.node) read)) in
    rw other (find_at q.node qs i r up.1 (omega arith) read)

-- setting what stands there changes nothing
pub set_same : (rs : List ProcessRecord) (i : ℕ) (r : ProcessRecord) → r ≡ get_or rs i r → set rs i r ≡ rs
set_same [] i r read = refl
set_same (q ∷ qs) zero r read = ap (λ (x : ProcessRecord). x ∷ qs) read
set_same (q ∷ qs) (suc i) r read = ap (λ xs. q ∷ xs) (set_same qs i r read)
