-- Outcomes one after another: the first reason is the answer.
use Rattle.std.specs.Prelude.{Option, Some, None}
use Rattle.wc_value.specs.declared.process.Reason.{Reason}
use Rattle.wc_expression.specs.declared.outcome.Outcome.{Outcome}
use Rattle.wc_expression.specs.declared.outcome.Outcome.TheVariants.{Gives, Faults}

infixl 10 ◌>>=◌
-- one evaluation after another, where the first gave something
abbrev pub ◌>>=◌ : {A B : Type 0} → Outcome A → (A → Outcome B) → Outcome B
(Gives x) >>= f = f x
(Faults r) >>= f = Faults r

-- an outcome with its value changed
abbrev pub mapped : {A B : Type 0} → (A → B) → Outcome A → Outcome B
mapped f (Gives x) = Gives (f x)
mapped f (Faults r) = Faults r

-- what is there, or the reason
abbrev pub found : {A : Type 0} → Reason → Option A → Outcome A
found r None = Faults r
found r (Some x) = Gives x
