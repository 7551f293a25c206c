-- Changes one after another, and look-ups among records.
use Rattle.std.proofs.Common.{◌≡◌, ℕ, suc, ◌<◌, ◌≤◌, Bool, true, false, cond, ◌==◌, List, [], ◌∷◌, ◌++◌, map, Option, Some, option_map, refl, sym, ap, ◌∙◌, subst, inl, inr, arith}
use Rattle.std.proofs.lemmas.Bool.{cases_Bool, cond-true, cond-false, eqb-true, eq-eqb, ne_eqb}
use Rattle.wc_state.specs.declared.record.ProcessRecord.{ProcessRecord}
use Rattle.wc_world.specs.declared.change.Change.{Change}
use Rattle.wc_world.specs.World.{World}
use Rattle.wc_world.specs.Records.{find_record, at_process}
use Rattle.wc_world.specs.Applied.{after_change, changed}
use Rattle.wc_world.specs.Accepted.{Setting, Fits, Apply}

-- ---- changes one after another
pub changed_append : (batch : ℕ) (w : World) (cs ds : List Change) → changed batch w (cs ++ ds) ≡ changed batch (changed batch w cs) ds
changed_append batch w [] ds = refl
changed_append batch w (c ∷ cs) ds = changed_append batch (after_change batch w c) cs ds

pub apply_append : (s : Setting) (w : World) (cs ds : List Change) → Apply s w cs → Apply s (changed s.batch w cs) ds → Apply s w (cs ++ ds)
apply_append s w [] ds p q = q
apply_append s w (c ∷ cs) ds p q = (p.0, apply_append s (after_change s.batch w c) cs ds p.1 q)

-- The changes apply to one world, and make another of it.
pub record Leads (s : Setting) (a : World) (cs : List Change) (b : World) : Type 0 where
  pub each : Apply s a cs
  pub end : changed s.batch a cs ≡ b

pub leads_nowhere : (s : Setting) (a : World) → Leads s a [] a
leads_nowhere s a = record { each = tt; end = refl }

pub leads_to : {s : Setting} {a b : World} {cs : List Change} (c : World) → b ≡ c → Leads s a cs b → Leads s a cs c
leads_to c e h = record { each = h.each; end = h.end ∙ e }

pub leads_on : {s : Setting} {a b d : World} {cs : List Change} (c : Change) → Fits s a c → after_change s.batch a c ≡ b → Leads s b cs d → Leads s a (c ∷ cs) d
leads_on {s} {a} {b} {d} {cs} c fits e h =
    let k : Leads s (after_change s.batch a c) cs d = subst (λ (x : World). Leads s x cs d) (sym e) h in
    record { each = (fits, k.each); end = k.end }

pub leads_then : {s : Setting} {a b d : World} {cs ds : List Change} → Leads s a cs b → Leads s b ds d → Leads s a (cs ++ ds) d
leads_then {s} {a} {b} {d} {cs} {ds} h g =
    let k : Leads s (changed s.batch a cs) ds d = subst (λ (x : World). Leads s x ds d) (sym h.end) g in
    record { each = apply_append s a cs ds h.each k.each; end = changed_append s.batch a cs ds ∙ k.end }

-- ---- numbers of records
-- no record has this number
abbrev pub IsFree : ℕ → List ProcessRecord → Type 0
IsFree pid [] = Unit {0}
IsFree pid (r ∷ rs) = ((r.node == pid) ≡ false) × IsFree pid rs

-- the numbers ascend, from this one on
abbrev pub Ascend : ℕ → List ProcessRecord → Type 0
Ascend n [] = Unit {0}
Ascend n (r ∷ rs) = (n ≤ r.node) × Ascend (suc r.node) rs

-- each number is below this one
abbrev pub AreBelow : ℕ → List ProcessRecord → Type 0
AreBelow n [] = Unit {0}
AreBelow n (r ∷ rs) = (r.node < n) × AreBelow n rs

pub ascend_before : (m n : ℕ) (rs : List ProcessRecord) → m ≤ n → Ascend n rs → Ascend m rs
ascend_before m n [] le h = tt
ascend_before m n (r ∷ rs) le h = (omega arith, h.1)

pub free_above : (pid n : ℕ) (rs : List ProcessRecord) → pid < n → Ascend n rs → IsFree pid rs
free_above pid n [] lt h = tt
free_above pid n (r ∷ rs) lt h = (ne_eqb r.node pid (λ e. omega arith), free_above pid (suc r.node) rs (omega arith) h.1)

pub free_below : (pid n : ℕ) (rs : List ProcessRecord) → n ≤ pid → AreBelow n rs → IsFree pid rs
free_below pid n [] le h = tt
free_below pid n (r ∷ rs) le h = (ne_eqb r.node pid (λ e. omega arith), free_below pid n rs le h.1)

pub below_push : (m n : ℕ) (rs : List ProcessRecord) (r : ProcessRecord) → m ≤ n → r.node < n → AreBelow m rs → AreBelow n (rs ++ r ∷ [])
below_push m n [] r le lt h = (lt, tt)
below_push m n (q ∷ rs) r le lt h = (omega arith, below_push m n rs r le lt h.1)

-- a function that keeps the numbers
abbrev pub KeepsNumbers : (ProcessRecord → ProcessRecord) → Type 0
KeepsNumbers f = (r : ProcessRecord) → (f r).node ≡ r.node

pub free_map : (f : ProcessRecord → ProcessRecord) (pid : ℕ) (rs : List ProcessRecord) → KeepsNumbers f → IsFree pid rs → IsFree pid (map f rs)
free_map f pid [] k h = tt
free_map f pid (r ∷ rs) k h = (ap (λ (n : ℕ). n == pid) (k r) ∙ h.0, free_map f pid rs k h.1)

-- ---- one record among others
pub find_here : (pid : ℕ) (rs : List ProcessRecord) (r : ProcessRecord) (ss : List ProcessRecord) → IsFree pid rs → r.node ≡ pid → find_record pid (rs ++ r ∷ ss) ≡ Some r
find_here pid [] r ss h e = cond-true (r.node == pid) (Some r) (find_record pid ss) (eq-eqb r.node pid e)
find_here pid (q ∷ rs) r ss h e = cond-false (q.node == pid) (Some q) (find_record pid (rs ++ r ∷ ss)) h.0 ∙ find_here pid rs r ss h.1 e

pub at_none : (pid : ℕ) (f : ProcessRecord → ProcessRecord) (rs : List ProcessRecord) → IsFree pid rs → at_process pid f rs ≡ rs
at_none pid f [] h = refl
at_none pid f (r ∷ rs) h = λ i. cond-false (r.node == pid) (f r) r h.0 i ∷ at_none pid f rs h.1 i

pub at_here : (pid : ℕ) (f : ProcessRecord → ProcessRecord) (rs : List ProcessRecord) (r : ProcessRecord) (ss : List ProcessRecord) → IsFree pid rs → r.node ≡ pid → IsFree pid ss
    → at_process pid f (rs ++ r ∷ ss) ≡ rs ++ f r ∷ ss
at_here pid f [] r ss h e k = λ i. cond-true (r.node == pid) (f r) r (eq-eqb r.node pid e) i ∷ at_none pid f ss k i
at_here pid f (q ∷ rs) r ss h e k = λ i. cond-false (q.node == pid) (f q) q h.0 i ∷ at_here pid f rs r ss h.1 e k i

-- ---- look-ups
-- the record that is found has the number
pub number_of_found : (pid : ℕ) (rs : List ProcessRecord) (r : ProcessRecord) → find_record pid rs ≡ Some r → r.node ≡ pid
number_of_found pid [] r h = absurd (cc)
number_of_found pid (q ∷ rs) r h = elim (cases_Bool (q.node == pid)) [
  | inl e ↦
      let k : Some q ≡ Some r = sym (cond-true (q.node == pid) (Some q) (find_record pid rs) e) ∙ h in
      let same : q ≡ r = cc in
      subst (λ (x : ProcessRecord). x.node ≡ pid) same (eqb-true q.node pid e)
  | inr e ↦ number_of_found pid rs r (sym (cond-false (q.node == pid) (Some q) (find_record pid rs) e) ∙ h)
]

-- what is found after a function that keeps the numbers
pub find_map : (f : ProcessRecord → ProcessRecord) (pid : ℕ) (rs : List ProcessRecord) → KeepsNumbers f → find_record pid (map f rs) ≡ option_map f (find_record pid rs)
find_map f pid [] k = refl
find_map f pid (r ∷ rs) k =
    ap (λ (n : ℕ). cond (n == pid) (Some (f r)) (find_record pid (map f rs))) (k r)
    ∙ (ap (λ (o : Option ProcessRecord). cond (r.node == pid) (Some (f r)) o) (find_map f pid rs k)
    ∙ map_cond (r.node == pid))
  where
    map_cond : (b : Bool) → cond b (Some (f r)) (option_map f (find_record pid rs)) ≡ option_map f (cond b (Some r) (find_record pid rs))
    map_cond true = refl
    map_cond false = refl
