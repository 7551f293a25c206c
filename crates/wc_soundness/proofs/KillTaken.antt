-- Taking calls of which is known what they give: what a waiting chain gives is what it gives once they are bound.
use Rattle.std.proofs.Common.{◌≡◌, ℕ, zero, suc, ◌+◌, ◌-◌, ◌≤◌, Bool, true, false, List, [], ◌∷◌, Option, Some, None, ◌⊎◌, inl, inr, map, refl, sym, ap, subst, ◌∙◌, arith}
use Rattle.std.specs.Prelude.{if◌then◌else◌, length}
use Rattle.std.proofs.lemmas.Bool.{eqb-true, eq-eqb}
use Rattle.wc_value.specs.declared.process.ProcessState.TheVariants.{Killed}
use Rattle.wc_syntax.specs.declared.definition.Port.{Port}
use Rattle.wc_syntax.specs.declared.outline.Instr.{Instr}
use Rattle.wc_semantics.specs.Rules.{Values}
use Rattle.wc_semantics.specs.declared.progress.Answer.{Answer}
use Rattle.wc_semantics.specs.declared.progress.Answer.TheVariants.{Gave, TooLittle, Without, Astray}
use Rattle.wc_semantics.specs.declared.progress.Flow.{Flow}
use Rattle.wc_semantics.specs.declared.progress.Flow.TheVariants.{Goes, Ends, NoFuel}
use Rattle.wc_semantics.specs.declared.progress.Planned.{Planned}
use Rattle.wc_semantics.specs.declared.progress.Progress.{Progress}
use Rattle.wc_semantics.specs.declared.progress.Replayed.{Replayed}
use Rattle.wc_semantics.specs.Tables.{Label}
use Rattle.wc_semantics.specs.Laws.{MoreAnswer}
use Rattle.wc_semantics.specs.Meaning.{within, chain_tree, ended}
use Rattle.wc_semantics.specs.Run.{Call, Around, ◌>->◌, taken, next_label, with_call, take_calls, is_stop, stopped, make_calls, run}
use Rattle.wc_semantics.proofs.Keeps.{ended_more}
use Rattle.wc_semantics.proofs.Late.{late_gives_none}
use Rattle.wc_semantics.proofs.More.{MoreCall, run_more}

-- a planned call, with what it gives, and a fuel that suffices
abbrev pub Taken : Type 0
Taken = Planned × Replayed × ℕ

abbrev pub plans : List Taken → List Planned
plans ks = map (λ k. k.0) ks

-- with the children taken and bound
abbrev pub bound_now : List Taken → Progress → Progress
bound_now [] e = e
bound_now (k ∷ ks) e = bound_now ks (with_call k.0 (next_label k.0 e) k.1 e)

abbrev pub cost : List Taken → ℕ
cost [] = 0
cost (k ∷ ks) = suc k.2 + cost ks

-- each call gives this with its fuel
abbrev pub Known : Call → List Taken → Progress → Type 0
Known call [] e = Unit {0}
Known call (k ∷ ks) e = ((left : ℕ) × (call (next_label k.0 e) k.2 k.0.callee k.0.inputs ≡ Gave k.1 left)) × Known call ks (with_call k.0 (next_label k.0 e) k.1 e)

gave_more : (k : ℕ) (x y : Answer) (t : Replayed) (m : ℕ) → x ≡ Gave t m → MoreAnswer k x y → y ≡ Gave t (m + k)
gave_more k x y t m p q = subst (λ (z : Answer). MoreAnswer k z y) p q

-- With fuel for all of them, all are taken, and at least the rest is left.
pub take_known : (ks : List Taken) (a : Around) → MoreCall a.call → (e : Progress) → Known a.call ks e → (n : ℕ)
    → (m : ℕ) × (n ≤ m) × (take_calls (plans ks) a (n + cost ks) e ≡ Goes m (bound_now ks e))
take_known [] a c e t n = (n, omega arith, (let p : n + 0 ≡ n = omega arith in ap (λ m. Goes m e) p))
take_known (k ∷ ks) a c e t n =
    let l : Label = next_label k.0 e in
    let f : ℕ = k.2 in
    let p : n + (suc f + cost ks) ≡ suc (f + (n + cost ks)) = omega arith in
    let g : a.call l (f + (n + cost ks)) k.0.callee k.0.inputs ≡ Gave k.1 (t.0.0 + (n + cost ks)) =
    gave_more (n + cost ks) (a.call l f k.0.callee k.0.inputs) _ k.1 t.0.0 t.0.1 (c l f (f + (n + cost ks)) (n + cost ks) k.0.callee k.0.inputs refl) in
    let q : t.0.0 + (n + cost ks) ≡ (t.0.0 + n) + cost ks = omega arith in
    let s = take_known ks a c (with_call k.0 l k.1 e) t.1 (t.0.0 + n) in (
      s.0,
      omega (arith, s.1),
      (ap (λ (z : ℕ). take_calls (plans (k ∷ ks)) a z e) p
          ∙ ap (λ (z : Answer). taken z (λ x left. take_calls (plans ks) a left (with_call k.0 l x e))) g
          ∙ ap (λ (z : ℕ). take_calls (plans ks) a z (with_call k.0 l k.1 e)) q
          ∙ s.2),
    )

-- all were taken, or fuel was lacking
abbrev pub TakenOrNot : Flow → Progress → Type 0
TakenOrNot f e = (f ≡ NoFuel) ⊎ ((m : ℕ) × (f ≡ Goes m e))

abbrev GivesOrNot : Answer → Replayed → Type 0
GivesOrNot x t = (x ≡ TooLittle) ⊎ ((m : ℕ) × (x ≡ Gave t m))

same_given : (x t : Replayed) (m n : ℕ) → Gave x m ≡ Gave t n → x ≡ t
same_given x t m n p = cc

less_or : (k : ℕ) (x y : Answer) (t : Replayed) (m : ℕ) → y ≡ Gave t m → MoreAnswer k x y → GivesOrNot x t
less_or k (Gave x n) y t m p q = inr (n, ap (λ z. Gave z n) (same_given x t (n + k) m (sym q ∙ p)))
less_or k TooLittle y t m p q = inl refl
less_or k (Without r) y t m p q = absurd (no (sym q ∙ p))
  where
    no : Without r ≡ Gave t m → ⊥
    no h = cc
less_or k Astray y t m p q = absurd (no (sym q ∙ p))
  where
    no : Astray ≡ Gave t m → ⊥
    no h = cc

either : (n f : ℕ) → (n ≤ f) ⊎ (f ≤ n)
either zero f = inl (omega arith)
either (suc n) zero = inr (omega arith)
either (suc n) (suc f) = elim (either n f) [ inl p ↦ inl (omega arith) | inr p ↦ inr (omega arith) ]

-- a call that gives something with some fuel gives nothing else with any
gives_or_not : (call : Call) → MoreCall call → (l : Label) (name : List ℕ) (inputs : Values) (f : ℕ) (t : Replayed) (left : ℕ) → call l f name inputs ≡ Gave t left
    → (n : ℕ) → GivesOrNot (call l n name inputs) t
gives_or_not call c l name inputs f t left p n = elim (either n f) [
  | inl h ↦ less_or (f - n) (call l n name inputs) (call l f name inputs) t left p (c l n f (f - n) name inputs (omega arith))
  | inr h ↦ inr (left + (n - f), gave_more (n - f) (call l f name inputs) (call l n name inputs) t left p (c l f n (n - f) name inputs (omega arith)))
]

pub take_back : (ks : List Taken) (a : Around) → MoreCall a.call → (e : Progress) → Known a.call ks e → (n : ℕ) → TakenOrNot (take_calls (plans ks) a n e) (bound_now ks e)
take_back [] a c e t n = inr (n, refl)
take_back (k ∷ ks) a c e t zero = inl refl
take_back (k ∷ ks) a c e t (suc n) =
    let l : Label = next_label k.0 e in
    elim (gives_or_not a.call c l k.0.callee k.0.inputs k.2 k.1 t.0.0 t.0.1 n) [
      | inl p ↦ inl (ap (λ (z : Answer). taken z (λ x left. take_calls (plans ks) a left (with_call k.0 l x e))) p)
      | inr p ↦ subst (λ (z : Answer). TakenOrNot (taken z (λ x left. take_calls (plans ks) a left (with_call k.0 l x e))) (bound_now ks (with_call k.0 l k.1 e)))
          (sym p.1) (take_back ks a c (with_call k.0 l k.1 e) t.1 p.0)
    ]

-- ---- what the waiting chain's run gives, and what the run after binding gives

abbrev pub GivesThis : Answer → Replayed → Type 0
GivesThis x t = (m : ℕ) × (x ≡ Gave t m)

gives_more : (k : ℕ) (x y : Answer) (t : Replayed) → GivesThis x t → MoreAnswer k x y → GivesThis y t
gives_more k x y t g q = (g.0 + k, gave_more k x y t g.0 g.1 q)

module _ (name : List ℕ) (ports : List Port) (is : List Instr) (a : Around) (c : MoreCall a.call) (e : Progress)
    (k : Taken) (ks : List Taken) (known : Known a.call (k ∷ ks) e) where
  abbrev all_taken : Progress
  all_taken = bound_now (k ∷ ks) e

  abbrev pub waits : Option ℕ → ℕ → Answer
  waits s n = ended s name ports (make_calls (plans (k ∷ ks)) (within ports s a) n e >-> run is (within ports s a))

  abbrev pub runs : Option ℕ → ℕ → Answer
  runs s n = ended s name ports (run is (within ports s a) n all_taken)

  -- at a stop that is met the run after binding gives nothing, and else the two are the same
  met : (s : Option ℕ) (b : Bool) → is_stop s (length all_taken.calls) ≡ b → (m : ℕ) (t : Replayed) → GivesThis (runs s m) t
      → GivesThis (ended s name ports ((if b then Ends Killed m all_taken else Goes m all_taken) >-> run is (within ports s a))) t
  met None true h m t g = absurd (cc)
  met (Some d) true h m t g = absurd (late_gives_none d name ports is (within ports (Some d) a) m all_taken t g.0 refl
      (let q : d ≡ length all_taken.calls = eqb-true d (length all_taken.calls) h in omega (arith, q)) g.1)
  met s false h m t g = g

  pub binds : (s : Option ℕ) (n : ℕ) (t : Replayed) → GivesThis (runs s n) t → GivesThis (waits s (n + cost (k ∷ ks))) t
  binds s n t g =
      let r = take_known (k ∷ ks) (within ports s a) c e known n in
      let more : MoreAnswer (r.0 - n) (runs s n) (runs s r.0) = ended_more (r.0 - n) s name ports (run is (within ports s a) n all_taken) (run is (within ports s a) r.0 all_taken)
      (run_more is (within ports s a) c n r.0 (r.0 - n) all_taken (omega (arith, r.1))) in
      let h : GivesThis (runs s r.0) t = gives_more (r.0 - n) (runs s n) (runs s r.0) t g more in
      subst (λ (f : Flow). GivesThis (ended s name ports ((f >-> stopped (within ports s a)) >-> run is (within ports s a))) t) (sym r.2)
      (met s (is_stop s (length all_taken.calls)) refl r.0 t h)

  pub binds_back : (n : ℕ) (t : Replayed) → GivesThis (waits None n) t → (m : ℕ) × GivesThis (runs None m) t
  binds_back n t g = back (take_calls (plans (k ∷ ks)) (within ports None a) n e) (take_back (k ∷ ks) (within ports None a) c e known n) g
    where
      back : (f : Flow) → TakenOrNot f all_taken → GivesThis (ended None name ports ((f >-> stopped (within ports None a)) >-> run is (within ports None a))) t
          → (m : ℕ) × GivesThis (runs None m) t
      back f (inl p) g = absurd (no (subst (λ (z : Flow). GivesThis (ended None name ports ((z >-> stopped (within ports None a)) >-> run is (within ports None a))) t) p g))
        where
          no : GivesThis TooLittle t → ⊥
          no h = let q : TooLittle ≡ Gave t h.0 = h.1 in cc
      back f (inr p) g = (p.0, subst (λ (z : Flow). GivesThis (ended None name ports ((z >-> stopped (within ports None a)) >-> run is (within ports None a))) t) p.1 g)

  -- with the number of calls as its stop the waiting chain is killed, once all are taken
  pub stops : (d : ℕ) → d ≡ length all_taken.calls → GivesThis (waits (Some d) (cost (k ∷ ks))) (chain_tree name Killed all_taken)
  stops d p =
      let r = take_known (k ∷ ks) (within ports (Some d) a) c e known 0 in
      let z : 0 + cost (k ∷ ks) ≡ cost (k ∷ ks) = omega arith in
      let h : take_calls (plans (k ∷ ks)) (within ports (Some d) a) (cost (k ∷ ks)) e ≡ Goes r.0 all_taken =
      ap (λ (n : ℕ). take_calls (plans (k ∷ ks)) (within ports (Some d) a) n e) (sym z) ∙ r.2 in (
        r.0,
        ap (λ (f : Flow). ended (Some d) name ports ((f >-> stopped (within ports (Some d) a)) >-> run is (within ports (Some d) a))) h
            ∙ ap (λ (b : Bool). ended (Some d) name ports ((if b then Ends Killed r.0 all_taken else Goes r.0 all_taken) >-> run is (within ports (Some d) a)))
            (eq-eqb d (length all_taken.calls) p),
      )

-- ---- for any calls that are some

abbrev pub waiting_run : List ℕ → List Port → List Instr → Around → Progress → List Taken → Option ℕ → ℕ → Answer
waiting_run name ports is a e ks s n = ended s name ports (make_calls (plans ks) (within ports s a) n e >-> run is (within ports s a))

abbrev pub bound_run : List ℕ → List Port → List Instr → Around → Progress → List Taken → Option ℕ → ℕ → Answer
bound_run name ports is a e ks s n = ended s name ports (run is (within ports s a) n (bound_now ks e))

pub forth : (name : List ℕ) (ports : List Port) (is : List Instr) (a : Around) → MoreCall a.call → (e : Progress) (ks : List Taken) → (plans ks ≡ [] → ⊥) → Known a.call ks e
    → (s : Option ℕ) (n : ℕ) (t : Replayed) → GivesThis (bound_run name ports is a e ks s n) t → GivesThis (waiting_run name ports is a e ks s (n + cost ks)) t
forth name ports is a c e [] some known s n t g = absurd (some refl)
forth name ports is a c e (k ∷ ks) some known s n t g = binds name ports is a c e k ks known s n t g

pub back : (name : List ℕ) (ports : List Port) (is : List Instr) (a : Around) → MoreCall a.call → (e : Progress) (ks : List Taken) → (plans ks ≡ [] → ⊥) → Known a.call ks e
    → (n : ℕ) (t : Replayed) → GivesThis (waiting_run name ports is a e ks None n) t → (m : ℕ) × GivesThis (bound_run name ports is a e ks None m) t
back name ports is a c e [] some known n t g = absurd (some refl)
back name ports is a c e (k ∷ ks) some known n t g = binds_back name ports is a c e k ks known n t g

pub killed_then : (name : List ℕ) (ports : List Port) (is : List Instr) (a : Around) → MoreCall a.call → (e : Progress) (ks : List Taken) → (plans ks ≡ [] → ⊥)
    → Known a.call ks e → (d : ℕ) → d ≡ length (bound_now ks e).calls → GivesThis (waiting_run name ports is a e ks (Some d) (cost ks)) (chain_tree name Killed (bound_now ks e))
killed_then name ports is a c e [] some known d p = absurd (some refl)
killed_then name ports is a c e (k ∷ ks) some known d p = stops name ports is a c e k ks known d p
