-- Which library a text prints.
use Rattle.std.specs.Prelude.{ℕ, List, [], ◌∷◌, Option, Some, None, Vec}
use Rattle.std.specs.declared.alloc.Global.{Global}
use Rattle.wc_syntax.specs.declared.definition.Definition.{Definition}
use Rattle.wc_record.specs.Reading.{IsPrinted}

-- it is this one, or none
abbrev pub Prints : List ℕ → Option (List Definition) → Type 0
Prints t (Some l) = IsPrinted t l
Prints t None = (l : List Definition) → IsPrinted t l → ⊥

-- each of these texts prints the library beside it
abbrev pub ArePrinted : List (Vec ℕ Global × List Definition) → Type 0
ArePrinted [] = Unit {0}
ArePrinted (e ∷ es) = IsPrinted e.0.items e.1 × ArePrinted es
