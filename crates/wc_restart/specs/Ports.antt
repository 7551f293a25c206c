-- The ports that a chain takes from its job, and what fits them.
use Rattle.std.specs.Prelude.{ℕ, Bool, true, false, not, ◌&&◌, List, [], ◌∷◌, Option, Some, None, if◌then◌else◌}
use Rattle.std.specs.List.{list_all, list_any}
use Rattle.std.specs.Str.{bytes_eq}
use Rattle.wc_value.specs.declared.value.Kind.{Kind}
use Rattle.wc_value.specs.declared.value.Kind.TheVariants as kind
use Rattle.wc_syntax.specs.Findings.{head_of, definition_named}
use Rattle.wc_syntax.specs.declared.definition.Definition.{Definition}
use Rattle.wc_syntax.specs.declared.definition.Definition.TheVariants as definition
use Rattle.wc_syntax.specs.declared.definition.Function.{Function}
use Rattle.wc_syntax.specs.declared.definition.Job.{Job}
use Rattle.wc_syntax.specs.declared.definition.Port.{Port}
use Rattle.wc_restart.specs.Pieces.{word}

-- whether a port is required
abbrev pub is_required : Port → Bool
is_required p = not p.optional

-- a port, without its place in the file
abbrev pub port_of : Port → Port
port_of p = record { at = 0; name = word p.name.text; optional = p.optional; kind = p.kind }

-- the ports without `?`, in their order, without their places
abbrev pub required : List Port → List Port
required [] = []
required (p ∷ ps) = if is_required p then port_of p ∷ required ps else required ps

-- whether two kinds are the same
abbrev pub same_kind : Kind → Kind → Bool
same_kind kind.Int kind.Int = true
same_kind kind.Bool kind.Bool = true
same_kind kind.Text kind.Text = true
same_kind kind.List kind.List = true
same_kind kind.Dict kind.Dict = true
same_kind kind.Folder kind.Folder = true
same_kind _ _ = false

-- a port with this one's name and kind is among these
abbrev pub has_port : List Port → Port → Bool
has_port ports p = list_any (λ q. bytes_eq q.name.text p.name.text && same_kind q.kind p.kind) ports

-- each of some ports is among others
abbrev pub all_among : List Port → List Port → Bool
all_among ports others = list_all (has_port others) ports

-- A function takes and gives what the job asks for: each of its inputs is among these ports, and its required outputs are these, in any order.
abbrev pub ports_fit : List Port → Function → Bool
ports_fit ports f =
    all_among f.head.inputs ports && (all_among (required f.head.outputs) ports && all_among ports (required f.head.outputs))

-- ---- definitions by name

-- a definition that is a job
abbrev pub as_job : Option Definition → Option Job
as_job (Some (definition.Job j)) = Some j
as_job _ = None

-- a definition that is a function
abbrev pub as_function : Option Definition → Option Function
as_function (Some (definition.Function f)) = Some f
as_function _ = None

-- the job of a library with a name
abbrev pub job_named : List ℕ → List Definition → Option Job
job_named name library = as_job (definition_named name library)

-- the function of a library with a name
abbrev pub function_named : List ℕ → List Definition → Option Function
function_named name library = as_function (definition_named name library)

-- no ports, where there is no such definition
abbrev pub inputs_in : Option Definition → List Port
inputs_in None = []
inputs_in (Some d) = (head_of d).inputs

-- the output ports of a definition, if there is one
abbrev pub outputs_in : Option Definition → List Port
outputs_in None = []
outputs_in (Some d) = (head_of d).outputs

-- the input ports of the definition with a name
abbrev pub inputs_of : List ℕ → List Definition → List Port
inputs_of name library = inputs_in (definition_named name library)

-- the required ports of the job of this name
abbrev pub asked_of : List ℕ → List Definition → List Port
asked_of name library = required (inputs_of name library)

-- the required output ports of the definition with a name, without their places
abbrev pub given_of : List ℕ → List Definition → List Port
given_of name library = required (outputs_in (definition_named name library))
