-- What kinds, reasons and states are called, and the text of a value.
use Rattle.std.specs.Prelude.{ℕ, List, ◌++◌, codes}
use Rattle.std.specs.Fmt.{decimal}
use Rattle.wc_value.specs.declared.process.ProcessState.{ProcessState}
use Rattle.wc_value.specs.declared.process.ProcessState.TheVariants as state
use Rattle.wc_value.specs.declared.process.Reason.{Reason}
use Rattle.wc_value.specs.declared.process.Reason.TheVariants as reason
use Rattle.wc_value.specs.declared.value.Kind.{Kind}
use Rattle.wc_value.specs.declared.value.Kind.TheVariants as kind
use Rattle.wc_value.specs.declared.value.Value.{Value}
use Rattle.wc_value.specs.Kinds.{kind_of}
use Rattle.wc_json.specs.Writing.{json_text}

-- the word for a kind of value
abbrev pub kind_text : Kind → List ℕ
kind_text kind.Int = codes "int"
kind_text kind.Bool = codes "bool"
kind_text kind.Text = codes "text"
kind_text kind.List = codes "list"
kind_text kind.Dict = codes "dict"
kind_text kind.Folder = codes "folder"

-- what a reason is called
abbrev pub reason_text : Reason → List ℕ
reason_text reason.Overflow = codes "overflow"
reason_text reason.DivideByZero = codes "division by zero"
reason_text reason.MissingKey = codes "missing key"
reason_text reason.WrongKind = codes "wrong kind"
reason_text reason.NoOutput = codes "no such output"
reason_text reason.BadText = codes "bad text"
reason_text reason.TooLong = codes "too long"
reason_text reason.Depth = codes "depth"
reason_text reason.BadInput = codes "bad input"

-- what a state is called, with its status or its reason
abbrev pub state_text : ProcessState → List ℕ
state_text state.Created = codes "created"
state_text state.Running = codes "running"
state_text state.Waiting = codes "waiting"
state_text (state.Finished n) = codes "finished " ++ decimal n
state_text (state.Excepted r) = codes "excepted " ++ reason_text r
state_text state.Killed = codes "killed"

-- the kind of a value and its JSON text
abbrev pub value_text : Value → List ℕ
value_text v = kind_text (kind_of v) ++ codes " " ++ json_text v
