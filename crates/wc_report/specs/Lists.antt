-- The text of `list`.
use Rattle.std.specs.Prelude.{ℕ, Bool, true, false, List, [], ◌++◌, flat_map, codes}
use Rattle.std.specs.Fmt.{decimal}
use Rattle.wc_state.specs.declared.record.ProcessKind.{ProcessKind}
use Rattle.wc_state.specs.declared.record.ProcessKind.TheVariants as kind
use Rattle.wc_state.specs.declared.record.ProcessRecord.{ProcessRecord}
use Rattle.wc_report.specs.Trees.{line, head_text}

-- the word for a kind of process
abbrev pub process_kind_text : ProcessKind → List ℕ
process_kind_text kind.Function = codes "calcfunction"
process_kind_text kind.Job = codes "calcjob"
process_kind_text kind.Chain = codes "workchain"

-- what stands behind a state
abbrev pub mark_text : Bool → List ℕ
mark_text true = codes " paused"
mark_text false = []

-- number, kind, definition, state and mark
abbrev pub process_line : ProcessRecord → List ℕ
process_line r = line [] (decimal r.node ++ codes " " ++ process_kind_text r.kind ++ codes " " ++ head_text r.definition r.state ++ mark_text r.paused)

-- a line for each process
abbrev pub list_text : List ProcessRecord → List ℕ
list_text = flat_map process_line
