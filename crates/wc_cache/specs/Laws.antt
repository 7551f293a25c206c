-- Laws of keys.
use Rattle.std.specs.Prelude.{◌≡◌, ◌↔◌, ℕ, List}
use Rattle.wc_state.specs.declared.record.ProcessRecord.{ProcessRecord}
use Rattle.wc_world.specs.World.{World}
use Rattle.wc_machine.specs.Recorded.{its_definition, recorded_inputs}
use Rattle.wc_machine.specs.Sound.{IsSound}
use Rattle.wc_machine.specs.Sources.{HaveEqualKeys}
use Rattle.wc_cache.specs.Keys.{IsKeyOf}

-- A process has equal keys with one that has this key exactly where it has this key too.
abbrev pub EqualKeysAreEqual : Type 0
EqualKeysAreEqual = (w : World) (p q : ProcessRecord) (key : List ℕ) → IsKeyOf w p key → (b : List ℕ) → IsKeyOf w q b → (HaveEqualKeys w p q ↔ (b ≡ key))

-- In a sound world processes with the same key run equal definitions, and their inputs are equal by port and value.
abbrev pub KeysAreOfOne : Type 0
KeysAreOfOne = (w : World) (p q : ProcessRecord) (key : List ℕ) → IsSound w → IsKeyOf w p key → IsKeyOf w q key
    → (its_definition w p ≡ its_definition w q) × (recorded_inputs w p.node ≡ recorded_inputs w q.node)
