-- The text of a process tree.
use Rattle.std.specs.Prelude.{ℕ, List, [], ◌∷◌, ◌++◌, flat_map, codes}
use Rattle.wc_value.specs.declared.process.ProcessState.{ProcessState}
use Rattle.wc_value.specs.declared.process.Tree.{Tree, Tree-F, out-Tree, fold-Tree}
use Rattle.wc_value.specs.declared.value.Value.{Value}
use Rattle.wc_report.specs.Names.{state_text, value_text}

-- the spaces before a line, with two more one level further in
abbrev pub deeper : List ℕ → List ℕ
deeper margin = codes "  " ++ margin

-- a text behind a margin, with its end
abbrev pub line : List ℕ → List ℕ → List ℕ
line margin text = margin ++ text ++ 10 ∷ []

-- the line of an output: its port and its value
abbrev pub output_line : List ℕ → List ℕ × Value → List ℕ
output_line margin o = line margin (o.0 ++ codes " " ++ value_text o.1)

-- the lines of outputs
abbrev pub output_lines : List ℕ → List (List ℕ × Value) → List ℕ
output_lines margin = flat_map (output_line margin)

-- a process as its caller's tree shows it: its definition and state, and the lines below these by the spaces before them
abbrev pub Shown : Type 0
Shown = List ℕ × (List ℕ → List ℕ)

-- a definition's name and the state of its process
abbrev pub head_text : List ℕ → ProcessState → List ℕ
head_text definition state = definition ++ codes " " ++ state_text state

-- the line of a call, with its label
abbrev pub head_line : List ℕ → List ℕ → List ℕ → List ℕ
head_line margin label head = line margin (codes "call " ++ label ++ codes " " ++ head)

-- the line of a call, and what is below it
abbrev pub branch_lines : List ℕ → List ℕ × Shown → List ℕ
branch_lines margin c = head_line margin c.0 c.1.0 ++ c.1.1 (deeper margin)

-- one level, with each call already shown: the outputs, and then the calls
abbrev pub level_lines : Tree-F Shown → List ℕ → List ℕ
level_lines t margin = output_lines margin t.outputs ++ flat_map (branch_lines margin) t.calls

-- what is shown of a tree, from what is shown of its calls
abbrev pub level : Tree-F Shown → Shown
level t = (head_text t.definition t.state, level_lines t)

-- what is shown of a tree: its head and its lines
abbrev pub shown : Tree → Shown
shown = fold-Tree Shown level

-- the lines behind a tree's state
abbrev pub lines_below : Tree → List ℕ → List ℕ
lines_below t margin = (shown t).1 margin

-- the lines of a call with those of its tree
abbrev pub call_lines : List ℕ → List ℕ × Tree → List ℕ
call_lines margin c = branch_lines margin (c.0, shown c.1)

-- the lines of calls
abbrev pub calls_lines : List ℕ → List (List ℕ × Tree) → List ℕ
calls_lines margin = flat_map (call_lines margin)

-- a tree's state, and the lines behind it
abbrev pub tree_text : Tree → List ℕ
tree_text t = line [] (state_text (out-Tree t).state) ++ lines_below t []
