-- The dictionary of a key, and the definitions of processes.
use Rattle.std.proofs.Common.{◌≡◌, ℕ, List, [], ◌∷◌, Option, Some, None, codes, true, refl, sym, subst, ◌∙◌}
use Rattle.std.specs.Prelude.{IsSome}
use Rattle.wc_value.specs.Ascending.{put}
use Rattle.wc_value.specs.declared.value.Value.{Value}
use Rattle.wc_value.specs.declared.value.Value.TheVariants as value
use Rattle.wc_syntax.specs.declared.definition.Definition.{Definition}
use Rattle.wc_semantics.specs.Rules.{Values}
use Rattle.wc_state.specs.declared.record.ProcessKind.{ProcessKind}
use Rattle.wc_state.specs.declared.record.ProcessRecord.{ProcessRecord}
use Rattle.wc_world.specs.World.{World}
use Rattle.wc_world.specs.Consistent.{IsConsistent, Stands}
use Rattle.wc_world.specs.Fits.{is_of_kind}
use Rattle.wc_world.specs.Records.{find_record}
use Rattle.wc_world.proofs.FoundRecords.{found_holds}
use Rattle.wc_world.proofs.SnapshotLists.{number_of_found}
use Rattle.wc_machine.specs.Recorded.{its_definition}
use Rattle.wc_cache.specs.Keys.{key_value}

-- `definition` goes before `inputs`
entries_put : (v w : Value) → put (codes "inputs") w (put (codes "definition") v []) ≡ (codes "definition", v) ∷ (codes "inputs", w) ∷ []
entries_put v w = refl

pub entries_made : (text : List ℕ) (inputs : Values) (a b : List ℕ) (one both : Values) → a ≡ codes "definition" → b ≡ codes "inputs"
    → one ≡ put a (value.Text text) [] → both ≡ put b (value.Dict inputs) one → value.Dict both ≡ key_value text inputs
entries_made text inputs a b one both is_a is_b first second =
    (λ i. value.Dict (second i))
    ∙ (λ i. value.Dict (put (is_b i) (value.Dict inputs) (first i)))
    ∙ (λ i. value.Dict (put (codes "inputs") (value.Dict inputs) (put (is_a i) (value.Text text) [])))
    ∙ (λ i. value.Dict (entries_put (value.Text text) (value.Dict inputs) i))

defined : (k : ProcessKind) (o : Option Definition) → is_of_kind k o ≡ true → IsSome o
defined k None h = absurd (cc)
defined k (Some d) h = refl

-- in a consistent world each process has its definition
pub has_definition : (w : World) (pid : ℕ) (r : ProcessRecord) → IsConsistent w → find_record pid w.records ≡ Some r → IsSome (its_definition w r)
has_definition w pid r c found = defined r.kind (its_definition w r) (found_holds (Stands w) pid w.records r c.records found).defined

-- what is found by a number is there by its own
pub is_there : (w : World) (pid : ℕ) (r : ProcessRecord) → find_record pid w.records ≡ Some r → IsSome (find_record r.node w.records)
is_there w pid r found =
    let number : r.node ≡ pid = number_of_found pid w.records r found in
    subst (λ (n : ℕ). IsSome (find_record n w.records)) (sym number) (subst (λ (o : Option ProcessRecord). IsSome o) (sym found) refl)
