-- What two facts of a value make of it.
use Rattle.std.proofs.Common.{Result, Ok, Err}
use Rattle.std.specs.Prelude.{IfOk}

pub if_both : {T E : Type 0} (x : Result T E) (P Q R : T → Type 0) → ((t : T) → P t → Q t → R t) → IfOk x P → IfOk x Q → IfOk x R
if_both (Ok t) P Q R f p q = f t p q
if_both (Err e) P Q R f p q = tt
