-- What an expression reads of its environment. Node numbers play no part.
use Rattle.std.specs.Prelude.{ℕ, ℤ, pos, negsuc, Bool, false, ◌==◌, List, length, Option, Some, None, is_some}
use Rattle.wc_value.specs.Ascending.{lookup}
use Rattle.wc_value.specs.declared.process.ProcessState.{ProcessState}
use Rattle.wc_value.specs.declared.process.ProcessState.TheVariants.{Finished}
use Rattle.wc_value.specs.declared.process.Reason.TheVariants.{MissingKey, WrongKind, NoOutput}
use Rattle.wc_value.specs.declared.value.Value.{Value}
use Rattle.wc_value.specs.declared.value.Value.TheVariants as value
use Rattle.wc_syntax.specs.declared.expression.ChildPart.{ChildPart}
use Rattle.wc_syntax.specs.declared.expression.ChildPart.TheVariants as part
use Rattle.wc_state.specs.declared.environment.Child.{Child}
use Rattle.wc_state.specs.declared.environment.Env.{Env}
use Rattle.wc_state.specs.declared.environment.Item.{Item}
use Rattle.wc_state.specs.declared.environment.Item.TheVariants.{Plain, One, Many}
use Rattle.wc_expression.specs.declared.outcome.Outcome.{Outcome}
use Rattle.wc_expression.specs.declared.outcome.Outcome.TheVariants.{Gives, Faults}
use Rattle.wc_expression.specs.Outcomes.{◌>>=◌, mapped, found}

-- the value of an input that is given
abbrev pub input : List ℕ → Env → Outcome Value
input name env = mapped (λ i. i.value) (found MissingKey (lookup name env.inputs))

-- whether there is an input at a port
abbrev pub is_given : List ℕ → Env → Bool
is_given name env = is_some (lookup name env.inputs)

-- what a key of the context holds
abbrev pub held : List ℕ → Env → Outcome Item
held key env = found MissingKey (lookup key env.ctx)

-- the value that a key holds, where it holds no process
abbrev pub plain_of : Item → Outcome Value
plain_of (Plain v) = Gives v
plain_of _ = Faults WrongKind

-- the child that a key holds, where it holds one alone
abbrev pub child_of : Item → Outcome Child
child_of (One c) = Gives c
child_of _ = Faults WrongKind

-- the children that a key holds, where it holds a list of them
abbrev pub children_of : Item → Outcome (List Child)
children_of (Many cs) = Gives cs
children_of _ = Faults WrongKind

-- the value that a key holds, its one child, or its list of children
abbrev pub plain : List ℕ → Env → Outcome Value
plain key env = held key env >>= plain_of

-- the child that a key holds, where it holds one alone
abbrev pub child : List ℕ → Env → Outcome Child
child key env = held key env >>= child_of

-- the children that a key holds, where it holds a list of them
abbrev pub children : List ℕ → Env → Outcome (List Child)
children key env = held key env >>= children_of

-- how many children a key holds
abbrev pub count_of : Option Item → Outcome ℤ
count_of None = Gives (pos 0)
count_of (Some (One c)) = Gives (pos 1)
count_of (Some (Many cs)) = Gives (pos (length cs))
count_of (Some (Plain v)) = Faults WrongKind

-- what `count` gives: how many children a key holds
abbrev pub count : List ℕ → Env → Outcome ℤ
count key env = count_of (lookup key env.ctx)

-- the exit status of a finished child, else -1
abbrev pub status_of : ProcessState → ℤ
status_of (Finished n) = pos n
status_of _ = negsuc 0

-- whether a child finished with 0
abbrev pub is_success : ProcessState → Bool
is_success (Finished n) = n == 0
is_success _ = false

-- the value of an output that a child has
abbrev pub output : List ℕ → Child → Outcome Value
output name c = mapped (λ o. o.value) (found NoOutput (lookup name c.outputs))

-- what is asked of a child
abbrev pub asked : ChildPart → Child → Outcome Value
asked (part.Outputs name) c = output name.text c
asked part.Status c = Gives (value.Int (status_of c.state))
asked part.Ok c = Gives (value.Bool (is_success c.state))
