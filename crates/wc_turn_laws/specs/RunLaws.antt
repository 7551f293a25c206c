-- Laws of what a run sees of what was before it.
use Rattle.std.specs.Prelude.{◌≡◌, ℕ, true, List, ◌∷◌, length, map, All, Option, Some}
use Rattle.wc_syntax.specs.declared.definition.Port.{Port}
use Rattle.wc_syntax.specs.declared.expression.Expr.{Expr}
use Rattle.wc_syntax.specs.declared.outline.Instr.{Instr}
use Rattle.wc_state.specs.declared.environment.Env.{Env}
use Rattle.wc_state.specs.declared.record.ProcessRecord.{ProcessRecord}
use Rattle.wc_graph.specs.declared.link.Link.{Link}
use Rattle.wc_expression.specs.Val.{val}
use Rattle.wc_semantics.specs.declared.progress.Planned.{Planned}
use Rattle.wc_semantics.specs.declared.progress.Progress.{Progress}
use Rattle.wc_semantics.specs.Meaning.{ended, its_tree}
use Rattle.wc_semantics.specs.Run.{Around, run, make_calls, ◌>->◌}
use Rattle.wc_semantics.specs.Tables.{Path, Table, under}
use Rattle.wc_world.specs.World.{World}
use Rattle.wc_world.specs.Records.{find_record, is_call_from}
use Rattle.wc_machine.specs.Agreement.{Agrees}
use Rattle.wc_machine.specs.Paths.{called_under, kills}
use Rattle.wc_machine.specs.Rest.{env_alone}
use Rattle.wc_machine.specs.Sound.{IsSound}
use Rattle.wc_turn_laws.specs.Instead.{flow_instead, GiveOneTree}

-- The value of an expression doesn't hang on the numbers of nodes: it is one in environments that are equal but for these.
abbrev pub ValuesForgetNumbers : Type 0
ValuesForgetNumbers = (x : Expr) (d e : Env) → env_alone d ≡ env_alone e → val x d ≡ val x e

-- A run sees the calls that were made before it through their number alone: with others, as many, in their place it goes alike, and makes
-- the same calls.
abbrev pub RunsSeeNumbers : Type 0
RunsSeeNumbers = (is : List Instr) (a : Around) (n : ℕ) (d e : Progress) → d.env ≡ e.env → d.outputs ≡ e.outputs → length d.calls ≡ length e.calls
    → run is a n e ≡ flow_instead (length d.calls) e.calls (run is a n d)

-- So where the trees of the earlier calls are equal, whatever was asked for them, a chain that makes these calls and then runs these
-- instructions ends with the same tree.
abbrev pub EqualTreesEndAlike : Type 0
EqualTreesEndAlike = (ps : List Planned) (is : List Instr) (a : Around) (n : ℕ) (d e : Progress) (stop : Option ℕ) (name : List ℕ) (ports : List Port)
    → d.env ≡ e.env → d.outputs ≡ e.outputs → map its_tree d.calls ≡ map its_tree e.calls
    → GiveOneTree (ended stop name ports (make_calls ps a n d >-> run is a)) (ended stop name ports (make_calls ps a n e >-> run is a))

-- ---- calls by label

-- A call of a process is the one under its label: so a table that agrees with the process agrees, under the label, with the called one, and the
-- kills under the label are its kills.
pub record IsUnderItsLabel (w : World) (pid : ℕ) (l : Link) : Type 0 where
  pub leads : called_under w.links pid l.label ≡ Some l.target
  pub tables : (table : Table) → Agrees table w pid → Agrees (under l.label table) w l.target
  pub kills : (path : Path) → kills w pid (l.label ∷ path) ≡ kills w l.target path

-- The law: in a sound world, a table that agrees with a process agrees, under the label of a call, with the called one, and the kills under the label
-- are its kills
abbrev pub CallsAreUnderTheirLabels : Type 0
CallsAreUnderTheirLabels = (w : World) → IsSound w → (r : ProcessRecord) → find_record r.node w.records ≡ Some r
    → All (λ l. is_call_from r.node l ≡ true → IsUnderItsLabel w r.node l) w.links
