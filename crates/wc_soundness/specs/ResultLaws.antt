-- Laws of recorded results in sound worlds, and of the tables that agree with them.
use Rattle.std.specs.Prelude.{◌≡◌, ◌↔◌, ℕ, ◌+◌, true, Some}
use Rattle.wc_value.specs.declared.process.JobResult.{JobResult}
use Rattle.wc_value.specs.declared.process.ProcessState.TheVariants.{Killed}
use Rattle.wc_value.specs.declared.process.Tree.{Tree}
use Rattle.wc_semantics.specs.Tables.{Path, Table}
use Rattle.wc_state.specs.declared.record.ProcessRecord.{ProcessRecord}
use Rattle.wc_world.specs.World.{World}
use Rattle.wc_world.specs.Records.{find_record, has_ended, library_at}
use Rattle.wc_world.specs.Trees.{recorded_tree}
use Rattle.wc_machine.specs.Agreement.{Agrees, AgreesWithWorld}
use Rattle.wc_machine.specs.Continues.{Continues}
use Rattle.wc_machine.specs.Paths.{kills}
use Rattle.wc_machine.specs.Recorded.{recorded_inputs, HasResult}
use Rattle.wc_machine.specs.Rest.{GivesTree, meant}
use Rattle.wc_machine.specs.Sound.{IsSound}
use Rattle.wc_machine.specs.Results.{result_of, table_of, HasResultsByRequest}

-- ---- results

-- A process has at most one recorded result, which is the one that is found.
abbrev pub ResultsAreFound : Type 0
ResultsAreFound = (w : World) → IsSound w → (pid : ℕ) (x : JobResult) → HasResult w pid x ↔ (result_of w pid ≡ Some x)

-- The law: in a sound world a process has at most one recorded result
abbrev pub OneResult : Type 0
OneResult = (w : World) → IsSound w → (pid : ℕ) (x y : JobResult) → HasResult w pid x → HasResult w pid y → x ≡ y

-- The law: in a sound world a killed process has no recorded result
abbrev pub KilledHaveNoResult : Type 0
KilledHaveNoResult = (w : World) → IsSound w → (r : ProcessRecord) (x : JobResult) → find_record r.node w.records ≡ Some r → r.state ≡ Killed → ¬ HasResult w r.node x

-- ---- tables

-- Each process has an agreeing table: that of the recorded results by call path.
abbrev pub ItsTableAgrees : Type 0
ItsTableAgrees = (w : World) → IsSound w → (pid : ℕ) → Agrees (table_of w pid) w pid

-- A table agrees with the world exactly where equal requests have equal recorded results.
abbrev pub PlainTablesExactly : Type 0
PlainTablesExactly = (w : World) → IsSound w → ((table : Table) × AgreesWithWorld table w) ↔ HasResultsByRequest w

-- A table that agrees with a process of a later world agrees with it in each sound world that this one continues: what was recorded stays.
abbrev pub LaterTablesAgree : Type 0
LaterTablesAgree = (v w : World) (table : Table) (pid : ℕ) → IsSound v → Continues v w → Agrees table w pid → Agrees table v pid

-- ---- one meaning

-- A process of one world and one of another run the same: equal definitions of equal libraries, for equal inputs, at one depth, with the same kills.
pub record RunAlike (v w : World) (p q : ProcessRecord) : Type 0 where
  pub library : library_at v.libraries p.library ≡ library_at w.libraries q.library
  pub definition : p.definition ≡ q.definition
  pub inputs : recorded_inputs v p.node ≡ recorded_inputs w q.node
  pub depth : p.depth ≡ q.depth
  pub kills : (path : Path) → kills v p.node path ≡ kills w q.node path

-- a process that has ended
pub record IsEnded (w : World) (r : ProcessRecord) : Type 0 where
  pub found : find_record r.node w.records ≡ Some r
  pub ended : has_ended r.state ≡ true

-- The recorded tree of an ended process is the one that it means, for each agreeing table, with its kills, and with any fuel from the kept one on.
abbrev pub RecordedIsMeant : Type 0
RecordedIsMeant = (w : World) (r : ProcessRecord) (table : Table) (k : ℕ) → IsSound w → IsEnded w r → Agrees table w r.node
    → (t : Tree) × (recorded_tree w r.node ≡ Some t) × GivesTree (meant w r table (kills w r.node) (r.fuel + k)) t

-- Whatever happened between, processes that run the same have the same tree, where one table agrees with both.
abbrev pub OneMeaning : Type 0
OneMeaning = (v w : World) (p q : ProcessRecord) (table : Table) → IsSound v → IsSound w → IsEnded v p → IsEnded w q → RunAlike v w p q
    → Agrees table v p.node → Agrees table w q.node → recorded_tree v p.node ≡ recorded_tree w q.node
