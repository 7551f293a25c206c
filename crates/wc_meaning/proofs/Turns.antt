-- The definitions on numbers that are not written as successors; and how the measure of the recursion falls.
use Rattle.std.proofs.Common.{suc-mul, ◌≡◌, ℕ, zero, suc, ◌+◌, ◌-◌, ◌*◌, ◌<◌, ◌≤◌, Bool, true, false, List, [], ◌∷◌, Option, Some, refl, sym, ap, ◌∙◌, arith, inl, inr}
use Rattle.std.specs.Prelude.{if◌then◌else◌, ◌⊎◌, ◌==◌}
use Rattle.std.specs.Str.{bytes_eq}
use borrow.Author.Tests.{ne_eqb}
use Rattle.wc_syntax.specs.Findings.{head_of, definition_named}
use Rattle.wc_syntax.specs.declared.definition.Chain.{Chain}
use Rattle.wc_syntax.specs.declared.definition.Definition.{Definition}
use Rattle.wc_syntax.specs.declared.definition.Definition.TheVariants as definition
use Rattle.wc_syntax.specs.declared.expression.Expr.{Expr}
use Rattle.wc_syntax.specs.declared.outline.Block.{size-Block}
use Rattle.wc_expression.specs.declared.outcome.Outcome.{Outcome}
use Rattle.wc_expression.specs.declared.outcome.Outcome.TheVariants.{Gives}
use Rattle.wc_expression.specs.Val.{holds}
use Rattle.wc_semantics.specs.Rules.{Values}
use Rattle.wc_semantics.specs.declared.progress.Flow.{Flow}
use Rattle.wc_semantics.specs.declared.progress.Flow.TheVariants.{Goes, NoFuel}
use Rattle.wc_semantics.specs.declared.progress.Progress.{Progress}
use Rattle.wc_semantics.specs.Tables.{Label, Table, Kills, under}
use Rattle.wc_semantics.specs.Run.{Act, Around, ◌>->◌, spend, test, turns}
use Rattle.wc_semantics.specs.Meaning.{by_kill, meaning, around}
use Rattle.wc_meaning.specs.Settings.{width, widest}

-- a turn, with as many before it as its place says
pub turns_at : (fuel i : ℕ) (x : Expr) (body : Act) (a : Around) (n : ℕ) (e : Progress) → i < fuel
    → turns (fuel - i) x body a n e ≡ test (holds x e.env) n e (spend n (λ m. body a m e >-> turns (fuel - (i + 1)) x body a)) (Goes n e)
turns_at fuel i x body a n e h = let p : fuel - i ≡ suc (fuel - (i + 1)) = omega arith in ap (λ (k : ℕ). turns k x body a n e) p

pub spent : (n : ℕ) (f : ℕ → Flow) → (n ≡ 0 → ⊥) → spend n f ≡ f (n - 1)
spent zero f h = absurd (h refl)
spent (suc n) f h = let e : n ≡ suc n - 1 = omega arith in ap f e

-- a turn whose condition is true goes on with one less of the fuel
turn_made : (fuel i : ℕ) (x : Expr) (body : Act) (a : Around) (n : ℕ) (e : Progress) → i < fuel → holds x e.env ≡ Gives true → (n ≡ 0 → ⊥)
    → turns (fuel - i) x body a n e ≡ (body a (n - 1) e >-> turns (fuel - (i + 1)) x body a)
turn_made fuel i x body a n e h p q =
    let f : ℕ → Flow = λ m. body a m e >-> turns (fuel - (i + 1)) x body a in
    turns_at fuel i x body a n e h ∙ ap (λ (o : Outcome Bool). test o n e (spend n f) (Goes n e)) p ∙ spent n f q

-- what the body of such a turn comes to is what the loop goes on with
pub turn_goes : (fuel i : ℕ) (x : Expr) (body : Act) (a : Around) (n : ℕ) (e : Progress) (f whole : Flow) → i < fuel → holds x e.env ≡ Gives true → (n ≡ 0 → ⊥)
    → body a (n - 1) e ≡ f → turns (fuel - i) x body a n e ≡ whole → (f >-> turns (fuel - (i + 1)) x body a) ≡ whole
turn_goes fuel i x body a n e f whole h p q r known =
    sym (turn_made fuel i x body a n e h p q ∙ ap (λ (g : Flow). g >-> turns (fuel - (i + 1)) x body a) r) ∙ known

-- with as many turns made as there was fuel, the loop ends by its condition
pub turns_end : (fuel i : ℕ) (x : Expr) (body : Act) (a : Around) (n : ℕ) (e : Progress) (o : Outcome Bool) (whole : Flow) → fuel ≤ i → holds x e.env ≡ o
    → turns (fuel - i) x body a n e ≡ whole → test o n e NoFuel (Goes n e) ≡ whole
turns_end fuel i x body a n e o whole h p known =
    let none : fuel - i ≡ 0 = omega arith in
    ap (λ (q : Outcome Bool). test q n e NoFuel (Goes n e)) (sym p) ∙ sym (ap (λ (k : ℕ). turns k x body a n e) none) ∙ known

-- ---- what surrounds a run, by the levels

-- the meaning of a definition by what surrounds it
pub meaning_at : (levels : ℕ) (ds : List Definition) (table : Table) (kills : Kills) (n : ℕ) (name : List ℕ) (inputs : Values)
    → meaning levels ds table kills n name inputs ≡ by_kill (kills []) (definition_named name ds) (around levels ds table kills) (table []) n name inputs
meaning_at zero ds table kills n name inputs = refl
meaning_at (suc levels) ds table kills n name inputs = refl

one_more : (n : ℕ) → (suc n == 0) ≡ false
one_more n = ne_eqb (suc n) 0 (λ (e : suc n ≡ 0). omega arith)

pub deep_at : (levels : ℕ) (ds : List Definition) (table : Table) (kills : Kills) → (around levels ds table kills).deep ≡ (levels == 0)
deep_at zero ds table kills = refl
deep_at (suc levels) ds table kills = sym (one_more levels)

pub takes_at : (levels : ℕ) (ds : List Definition) (table : Table) (kills : Kills) → (around levels ds table kills).takes ≡ (around 0 ds table kills).takes
takes_at zero ds table kills = refl
takes_at (suc levels) ds table kills = refl

pub call_at : (levels : ℕ) (ds : List Definition) (table : Table) (kills : Kills) (l : Label) (n : ℕ) (name : List ℕ) (inputs : Values) → 0 < levels
    → (around levels ds table kills).call l n name inputs ≡ meaning (levels - 1) ds (under l table) (under l kills) n name inputs
call_at zero ds table kills l n name inputs h = absurd (omega arith)
call_at (suc levels) ds table kills l n name inputs h = let e : suc levels - 1 ≡ levels = omega arith in sym (ap (λ (k : ℕ). meaning k ds (under l table) (under l kills) n name inputs) e)

-- ---- the measure

picked : (c : Bool) (a : Definition) (b : Chain) (o : Option Definition) → (if c then Some a else o) ≡ Some (definition.Chain b) → (a ≡ definition.Chain b) ⊎ (o ≡ Some (definition.Chain b))
picked true a b o h = inl (cc)
picked false a b o h = inr h

-- an outline of the library is within its width
pub outline_within : (name : List ℕ) (ds : List Definition) (c : Chain) → definition_named name ds ≡ Some (definition.Chain c) → 2 * size-Block c.outline + 7 ≤ widest ds
outline_within name [] c h = absurd (cc)
outline_within name (d ∷ ds) c h = elim (picked (bytes_eq (head_of d).name.text name) d c (definition_named name ds) h) [
  | inl p ↦ omega (arith, ap width p)
  | inr q ↦ omega (arith, outline_within name ds c q)
]

-- the measure falls from a process to its outline
pub outline_falls : (levels s w : ℕ) → 2 * s + 7 ≤ w → levels * w + (2 * s + 6) < (levels + 1) * w
outline_falls levels s w h = omega (arith, suc-mul levels w)
