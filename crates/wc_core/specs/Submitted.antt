-- The parts of a submission.
use Rattle.std.specs.Prelude.{◌≡◌, ℕ, suc, Bool, List, [], length, Some, None}
use Rattle.wc_syntax.specs.Findings.{head_of, definition_named}
use Rattle.wc_syntax.specs.declared.definition.Definition.{Definition}
use Rattle.wc_semantics.specs.Rules.{Values}
use Rattle.wc_state.specs.declared.record.ProcessKind.{ProcessKind}
use Rattle.wc_meaning.specs.Inputs.{bad_input}
use Rattle.wc_world.specs.declared.change.Change.{Change}
use Rattle.wc_world.specs.declared.change.Change.TheVariants as change
use Rattle.wc_world.specs.World.{World}
use Rattle.wc_world.specs.Records.{kind_of_definition}

-- the process of a submission
abbrev pub root : World → ProcessKind → List ℕ → Bool → Change
root w kind name caching = change.Process (record {
  kind = kind;
  definition = name;
  library = suc (length w.libraries);
  depth = 1;
  label = [];
  caching = caching;
})

-- The library has a definition of the name and of this kind, whose ports take the inputs.
pub record Takes (library : List Definition) (name : List ℕ) (inputs : Values) (kind : ProcessKind) : Type 0 where
  pub definition : Definition
  pub is_there : definition_named name library ≡ Some definition
  pub takes : bad_input (head_of definition).inputs inputs ≡ None
  pub is_kind : kind ≡ kind_of_definition definition
