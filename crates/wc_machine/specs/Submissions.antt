-- What a submission adds.
use Rattle.std.specs.Prelude.{◌≡◌, ◌≤◌, ℕ, suc, ◌+◌, true, List, [], ◌∷◌, ◌++◌, length, map, All, Some, None}
use Rattle.wc_value.specs.Ascending.{Ascends}
use Rattle.wc_value.specs.Spelling.{depth}
use Rattle.wc_value.specs.declared.value.Value.{Value}
use Rattle.wc_syntax.specs.Bare.{bare_library}
use Rattle.wc_syntax.specs.Checked.{IsChecked}
use Rattle.wc_syntax.specs.Findings.{head_of, definition_named, is_among}
use Rattle.wc_syntax.specs.declared.definition.Definition.{Definition}
use Rattle.wc_graph.specs.declared.link.LinkType.{LinkType}
use Rattle.wc_graph.specs.declared.link.LinkType.TheVariants as link
use Rattle.wc_state.specs.declared.record.ProcessKind.{ProcessKind}
use Rattle.wc_state.specs.declared.record.ProcessKind.TheVariants as kind
use Rattle.wc_semantics.specs.Rules.{Values}
use Rattle.wc_meaning.specs.Inputs.{bad_input}
use Rattle.wc_world.specs.declared.change.Change.{Change}
use Rattle.wc_world.specs.declared.change.Change.TheVariants as change
use Rattle.wc_world.specs.World.{World}
use Rattle.wc_world.specs.Fits.{names_ascend}
use Rattle.wc_world.specs.Records.{kind_of_definition}

-- the change that adds the node of an input
abbrev pub data_change : List ℕ × Value → Change
data_change i = change.Data i.1

-- how an input is linked to a process
abbrev pub input_link : ProcessKind → LinkType
input_link kind.Function = link.InputCalc
input_link kind.Job = link.InputCalc
input_link kind.Chain = link.InputWork

-- links to a process from data nodes that follow each other from this one on
abbrev pub links_from : LinkType → (source pid : ℕ) → Values → List Change
links_from type source pid [] = []
links_from type source pid (i ∷ is) =
    change.Link (record { source = source; target = pid; link = type; label = i.0 }) ∷ links_from type (suc source) pid is

-- the number of the process that a submission with so many inputs makes
abbrev pub submitted_number : World → Values → ℕ
submitted_number w inputs = length w.nodes + length inputs + 1

-- The library, one data node for each input in byte order of the ports, the process, and the links of the inputs in the same order.
abbrev pub submission : World → List Definition → List (List ℕ) → List ℕ → Values → Definition → List Change
submission w library caching name inputs d =
    change.Library library caching
    ∷ (map data_change inputs
    ++ change.Process (record {
      kind = kind_of_definition d;
      definition = name;
      library = suc (length w.libraries);
      depth = 1;
      label = [];
      caching = is_among name caching;
    })
    ∷ links_from (input_link (kind_of_definition d)) (length w.nodes + 1) (submitted_number w inputs) inputs)

-- values by port, strictly ascending, at most 32 deep
pub record AreInputs (inputs : Values) : Type 0 where
  pub ascend : Ascends inputs
  pub shallow : All (λ i. depth i.1 ≤ 32) inputs

-- a library as a world keeps it: a checked one, without its offsets
abbrev pub IsKeptLibrary : List Definition → Type 0
IsKeptLibrary library = (l : List Definition) × IsChecked l × (bare_library l ≡ library)

-- The library is a checked one and has the definition, whose ports take the inputs, the names with caching on ascend, and these are the
-- changes of the submission.
pub record Submits (w : World) (library : List Definition) (caching : List (List ℕ)) (name : List ℕ) (inputs : Values) (cs : List Change) : Type 0 where
  pub checked : IsKeptLibrary library
  pub names : names_ascend caching ≡ true
  pub values : AreInputs inputs
  pub definition : Definition
  pub is_there : definition_named name library ≡ Some definition
  pub takes : bad_input (head_of definition).inputs inputs ≡ None
  pub changes : cs ≡ submission w library caching name inputs definition
