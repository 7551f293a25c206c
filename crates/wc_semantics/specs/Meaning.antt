-- The meaning of a definition: the tree of a process that runs it.
use Rattle.std.specs.Prelude.{ℕ, zero, suc, Bool, true, false, if◌then◌else◌, List, [], ◌∷◌, Option, Some, None, map, flat_map}
use Rattle.std.specs.List.{list_all}
use Rattle.wc_value.specs.declared.process.JobResult.{JobResult}
use Rattle.wc_value.specs.declared.process.ProcessState.{ProcessState}
use Rattle.wc_value.specs.declared.process.ProcessState.TheVariants.{Finished, Killed}
use Rattle.wc_value.specs.declared.process.Request.{Request}
use Rattle.wc_value.specs.declared.process.Tree.{Tree, roll-Tree}
use Rattle.wc_value.specs.declared.value.Kind.{Kind}
use Rattle.wc_value.specs.declared.value.Value.{Value}
use Rattle.wc_syntax.specs.Findings.{head_of, definition_named}
use Rattle.wc_syntax.specs.declared.definition.Chain.{Chain}
use Rattle.wc_syntax.specs.declared.definition.Definition.{Definition}
use Rattle.wc_syntax.specs.declared.definition.Definition.TheVariants as definition
use Rattle.wc_syntax.specs.declared.definition.Port.{Port}
use Rattle.wc_expression.specs.declared.outcome.Outcome.{Outcome}
use Rattle.wc_expression.specs.declared.outcome.Outcome.TheVariants.{Gives, Faults}
use Rattle.wc_semantics.specs.declared.outcomes.Parsed.{Parsed}
use Rattle.wc_semantics.specs.Rules.{Values, env_of, kind_of_port, fits_port}
use Rattle.wc_semantics.specs.Requests.{request}
use Rattle.wc_semantics.specs.Outcomes.{final_status, excepted, calculated, parsed}
use Rattle.wc_semantics.specs.declared.progress.Answer.{Answer}
use Rattle.wc_semantics.specs.declared.progress.Answer.TheVariants.{Gave, TooLittle, Without, Astray}
use Rattle.wc_semantics.specs.declared.progress.Flow.{Flow}
use Rattle.wc_semantics.specs.declared.progress.Flow.TheVariants.{Goes, Ends, NoFuel, Lacks, Off}
use Rattle.wc_semantics.specs.declared.progress.Progress.{Progress}
use Rattle.wc_semantics.specs.declared.progress.Replayed.{Replayed}
use Rattle.wc_semantics.specs.Tables.{Label, Path, Table, Kills, under}
use Rattle.wc_semantics.specs.Run.{Call, Around, run, instrs}

-- ---- trees

-- what an end leaves of the outputs
abbrev pub kept : ProcessState → Values → Values
kept (Finished n) outs = outs
kept s outs = []

-- a call's tree under its label
abbrev pub its_tree : Label × Replayed → Label × Tree
its_tree c = (c.0, c.1.tree)

-- what a call asked, seen from its caller
abbrev pub from_caller : Label → Path × Request → Path × Request
from_caller l a = (l ∷ a.0, a.1)

-- the requests of a call, with the call's label in front of their paths
abbrev pub its_asked : Label × Replayed → List (Path × Request)
its_asked c = map (from_caller c.0) c.1.asked

-- the tree of a work chain that ended
abbrev pub chain_tree : List ℕ → ProcessState → Progress → Replayed
chain_tree name s e = record {
  tree = roll-Tree (record { definition = name; state = s; outputs = kept s e.outputs; calls = map its_tree e.calls });
  asked = flat_map its_asked e.calls;
}

-- the tree of a calculation, which calls nothing
abbrev pub leaf : List ℕ → Parsed → List (Path × Request) → Replayed
leaf name p asked = record { tree = roll-Tree (record { definition = name; state = p.state; outputs = p.outputs; calls = [] }); asked = asked }

-- the tree of a process that was killed before it called anything
abbrev pub killed_first : List ℕ → Replayed
killed_first name = leaf name (record { state = Killed; outputs = [] }) []

-- ---- the end of a work chain

-- an end with 0 and a required output missing is one with 11
abbrev pub judged : List Port → ProcessState → Values → ProcessState
judged ports (Finished n) outs = Finished (final_status ports (n, outs))
judged ports s outs = s

-- whether a state is Killed
abbrev pub is_killed : ProcessState → Bool
is_killed Killed = true
is_killed s = false

-- a run with a stop that ends in another way than killed is off
abbrev pub strays : Option ℕ → ProcessState → Bool
strays None s = false
strays (Some c) s = if is_killed s then false else true

-- the tree of a chain that ends in a state; astray where a kill was to come and the state is another than Killed
abbrev pub end : Option ℕ → List ℕ → ProcessState → ℕ → Progress → Answer
end stop name s n e = if strays stop s then Astray else Gave (chain_tree name s e) n

-- the end of a run
abbrev pub ended : Option ℕ → List ℕ → List Port → Flow → Answer
ended stop name ports (Goes n e) = end stop name (judged ports (Finished 0) e.outputs) n e
ended stop name ports (Ends s n e) = end stop name (judged ports s e.outputs) n e
ended stop name ports NoFuel = TooLittle
ended stop name ports (Lacks q) = Without q
ended stop name ports Off = Astray

-- where a chain begins
abbrev pub first : Values → Progress
first inputs = record { env = env_of inputs; outputs = []; calls = [] }

-- the kind of the port with a name, if there is one
abbrev pub kinds_of : List Port → List ℕ → Option Kind
kinds_of ports name = kind_of_port name ports

-- a chain with these output ports and this stop
abbrev pub within : List Port → Option ℕ → Around → Around
within ports stop a = record { call = a.call; deep = a.deep; takes = a.takes; kinds = kinds_of ports; stop = stop }

-- what a work chain comes to: the run of its outline, ended
abbrev pub chain : Option ℕ → List ℕ → Chain → Around → ℕ → Values → Answer
chain stop name c a n inputs = ended stop name c.head.outputs (run (instrs c.outline) (within c.head.outputs stop a) n (first inputs))

-- ---- a job

-- a job with a result
abbrev pub by_result : List ℕ → (JobResult → Parsed) → Request → Option JobResult → ℕ → Answer
by_result name parse q None n = Without q
by_result name parse q (Some r) n = Gave (leaf name (parse r) (([], q) ∷ [])) n

-- A job takes the result that the table has for its request. One whose request is a reason excepts with it, and asks nothing.
abbrev pub job : List ℕ → Outcome Request → (JobResult → Parsed) → (Request → Option JobResult) → ℕ → Answer
job name (Faults r) parse results n = Gave (leaf name (excepted r []) []) n
job name (Gives q) parse results n = by_result name parse q (results q) n

-- ---- a definition

-- one that is not killed
abbrev pub whole : Option Definition → Around → (Request → Option JobResult) → ℕ → List ℕ → Values → Answer
whole None a results n name inputs = Astray
whole (Some (definition.Function f)) a results n name inputs = Gave (leaf name (calculated f inputs) []) n
whole (Some (definition.Job j)) a results n name inputs = job name (request j inputs) (parsed j inputs) results n
whole (Some (definition.Chain c)) a results n name inputs = chain None name c a n inputs

-- One that is killed after so many calls. Before its first call it takes no fuel, and a calculation makes no call.
abbrev pub cut : ℕ → Option Definition → Around → ℕ → List ℕ → Values → Answer
cut zero d a n name inputs = Gave (killed_first name) n
cut (suc c) (Some (definition.Chain k)) a n name inputs = chain (Some (suc c)) name k a n inputs
cut (suc c) d a n name inputs = Astray

-- what a definition comes to, whole, or up to the kill that is asked for
abbrev pub by_kill : Option ℕ → Option Definition → Around → (Request → Option JobResult) → ℕ → List ℕ → Values → Answer
by_kill None d a results n name inputs = whole d a results n name inputs
by_kill (Some c) d a results n name inputs = cut c d a n name inputs

-- whether a port takes an input: there is one of its name, and the value is of its kind
abbrev pub is_good : List Port → List ℕ × Value → Bool
is_good ports i = fits_port (kind_of_port i.0 ports) i.1

-- whether a definition is there and takes these inputs
abbrev pub takes_inputs : Option Definition → Values → Bool
takes_inputs None inputs = false
takes_inputs (Some d) inputs = list_all (is_good (head_of d).inputs) inputs

-- whether a library has a definition of the name that takes these inputs
abbrev pub takes_of : List Definition → List ℕ → Values → Bool
takes_of library name inputs = takes_inputs (definition_named name library) inputs

-- what surrounds the runs of a library, given what their calls give; at the deepest level no call is made
abbrev pub surrounding : List Definition → Option Call → Around
surrounding library None = record { call = λ l n name inputs. Astray; deep = true; takes = takes_of library; kinds = kinds_of []; stop = None }
surrounding library (Some call) = record { call = call; deep = false; takes = takes_of library; kinds = kinds_of []; stop = None }

-- The tree of a definition with what was asked for it, and the fuel that is left, where at most `levels` calls stand in one
-- another below it: 16 less the depth. Each call is taken with the rows of the table and the kills under its label.
abbrev pub meaning : ℕ → List Definition → Table → Kills → ℕ → List ℕ → Values → Answer
meaning zero library table kills n name inputs =
    by_kill (kills []) (definition_named name library) (surrounding library None) (table []) n name inputs
meaning (suc levels) library table kills n name inputs =
    by_kill (kills []) (definition_named name library)
    (surrounding library (Some (λ l. meaning levels library (under l table) (under l kills)))) (table []) n name inputs

-- what the calls of a process give
abbrev pub calls_of : ℕ → List Definition → Table → Kills → Option Call
calls_of zero library table kills = None
calls_of (suc levels) library table kills = Some (λ l. meaning levels library (under l table) (under l kills))

-- what surrounds the run of a process
abbrev pub around : ℕ → List Definition → Table → Kills → Around
around levels library table kills = surrounding library (calls_of levels library table kills)
