-- The key of a calculation.
use Rattle.std.specs.Prelude.{◌≡◌, ℕ, List, Some}
use Rattle.wc_value.specs.Spelling.{spelling}
use Rattle.wc_value.specs.Spells.{Spells}
use Rattle.wc_syntax.specs.declared.definition.Definition.{Definition}
use Rattle.wc_syntax.specs.Printing.{printed_definition}
use Rattle.wc_semantics.specs.Rules.{Values}
use Rattle.wc_state.specs.declared.record.ProcessRecord.{ProcessRecord}
use Rattle.wc_world.specs.World.{World}
use Rattle.wc_machine.specs.Recorded.{its_definition, recorded_inputs}
pub use Rattle.wc_keys.specs.SealKeys.{key_value}

-- these bytes are the canonical bytes of that dictionary
pub record IsKey (text : List ℕ) (inputs : Values) (key : List ℕ) : Type 0 where
  pub is : key ≡ spelling (key_value text inputs)
  pub spells : Spells (key_value text inputs) key

-- these bytes are the key of a process: that of the printed text of its definition, and of its recorded inputs
pub record IsKeyOf (w : World) (p : ProcessRecord) (key : List ℕ) : Type 0 where
  pub definition : Definition
  pub is_definition : its_definition w p ≡ Some definition
  pub spelled : IsKey (printed_definition definition) (recorded_inputs w p.node) key
