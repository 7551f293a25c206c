-- What the machine's advance gives, as it is answered: of a node that is passed to a call its number alone.
use Rattle.std.specs.Prelude.{ℕ, List, map}
use Rattle.wc_machine.specs.Advances as machine
use Rattle.wc_machine.specs.Steps as stepping
use Rattle.wc_outline.specs.declared.calls.Advanced.{Advanced}
use Rattle.wc_outline.specs.declared.calls.Advanced.TheVariants as advanced
use Rattle.wc_outline.specs.declared.calls.Argument.{Argument}
use Rattle.wc_outline.specs.declared.calls.Argument.TheVariants as argument
use Rattle.wc_outline.specs.declared.calls.Call.{Call}

-- an argument as it is answered: of a node its number alone
abbrev pub shown_argument : stepping.Argument → Argument
shown_argument (stepping.node n) = argument.Node n.node
shown_argument (stepping.plain v) = argument.Plain v

-- arguments as they are answered
abbrev pub shown_arguments : List (List ℕ × stepping.Argument) → List (List ℕ × Argument)
shown_arguments args = map (λ a. (a.0, shown_argument a.1)) args

-- a call as it is answered
abbrev pub shown_call : stepping.Call → Call
shown_call c = record { definition = c.definition; label = c.label; key = c.key; append = c.append; args = shown_arguments c.args }

-- What an advance comes to, as it is answered: of a node that is passed to a call its number alone
abbrev pub shown : machine.Advanced → Advanced
shown (machine.goes c) = advanced.Goes c
shown (machine.loops c) = advanced.Loops c
shown (machine.submits c calls) = advanced.Submits c (map shown_call calls)
shown (machine.ends s outputs) = advanced.Ends s outputs
