-- The meaning of a definition leaves no more fuel than it was given.
use Rattle.std.proofs.Common.{ℕ, zero, suc, ◌≤◌, Bool, true, false, List, [], Option, Some, None, arith}
use Rattle.std.specs.Prelude.{if◌then◌else◌}
use Rattle.wc_value.specs.declared.process.JobResult.{JobResult}
use Rattle.wc_value.specs.declared.process.ProcessState.TheVariants.{Finished}
use Rattle.wc_value.specs.declared.process.Request.{Request}
use Rattle.wc_syntax.specs.Findings.{definition_named}
use Rattle.wc_syntax.specs.declared.definition.Chain.{Chain}
use Rattle.wc_syntax.specs.declared.definition.Definition.{Definition}
use Rattle.wc_syntax.specs.declared.definition.Definition.TheVariants as definition
use Rattle.wc_syntax.specs.declared.definition.Port.{Port}
use Rattle.wc_expression.specs.declared.outcome.Outcome.{Outcome}
use Rattle.wc_expression.specs.declared.outcome.Outcome.TheVariants.{Gives, Faults}
use Rattle.wc_semantics.specs.declared.outcomes.Parsed.{Parsed}
use Rattle.wc_semantics.specs.Rules.{Values}
use Rattle.wc_semantics.specs.Requests.{request}
use Rattle.wc_semantics.specs.Outcomes.{parsed}
use Rattle.wc_semantics.specs.declared.progress.Answer.TheVariants.{Gave, Astray}
use Rattle.wc_semantics.specs.declared.progress.Flow.{Flow}
use Rattle.wc_semantics.specs.declared.progress.Flow.TheVariants.{Goes, Ends, NoFuel, Lacks, Off}
use Rattle.wc_semantics.specs.declared.progress.Replayed.{Replayed}
use Rattle.wc_semantics.specs.Tables.{Table, Kills, under}
use Rattle.wc_semantics.specs.Run.{Around, instrs}
use Rattle.wc_semantics.specs.Meaning.{judged, strays, ended, first, within, chain, by_result, job, whole, cut, by_kill, surrounding, meaning, around}
use Rattle.wc_semantics.specs.Laws.{Leaves, FrugalCall}
use Rattle.wc_semantics.proofs.Frugal.{Within, run_frugal}

end_leaves : (n : ℕ) (b : Bool) (t : Replayed) (m : ℕ) → m ≤ n → Leaves n (if b then Astray else Gave t m)
end_leaves n true t m p = tt
end_leaves n false t m p = p

pub ended_leaves : (n : ℕ) (stop : Option ℕ) (name : List ℕ) (ports : List Port) (f : Flow) → Within n f → Leaves n (ended stop name ports f)
ended_leaves n stop name ports (Goes m e) p = end_leaves n (strays stop (judged ports (Finished 0) e.outputs)) _ m p
ended_leaves n stop name ports (Ends s m e) p = end_leaves n (strays stop (judged ports s e.outputs)) _ m p
ended_leaves n stop name ports NoFuel p = tt
ended_leaves n stop name ports (Lacks q) p = tt
ended_leaves n stop name ports Off p = tt

chain_leaves : (stop : Option ℕ) (name : List ℕ) (k : Chain) (a : Around) → FrugalCall a.call → (n : ℕ) (inputs : Values) → Leaves n (chain stop name k a n inputs)
chain_leaves stop name k a c n inputs = ended_leaves n stop name k.head.outputs _ (run_frugal (instrs k.outline) (within k.head.outputs stop a) c n (first inputs))

result_leaves : (name : List ℕ) (parse : JobResult → Parsed) (q : Request) (r : Option JobResult) (n : ℕ) → Leaves n (by_result name parse q r n)
result_leaves name parse q None n = tt
result_leaves name parse q (Some r) n = omega arith

job_leaves : (name : List ℕ) (o : Outcome Request) (parse : JobResult → Parsed) (results : Request → Option JobResult) (n : ℕ) → Leaves n (job name o parse results n)
job_leaves name (Faults r) parse results n = omega arith
job_leaves name (Gives q) parse results n = result_leaves name parse q (results q) n

whole_leaves : (d : Option Definition) (a : Around) (results : Request → Option JobResult) → FrugalCall a.call → (n : ℕ) (name : List ℕ) (inputs : Values)
    → Leaves n (whole d a results n name inputs)
whole_leaves None a results c n name inputs = tt
whole_leaves (Some (definition.Function f)) a results c n name inputs = omega arith
whole_leaves (Some (definition.Job j)) a results c n name inputs = job_leaves name (request j inputs) (parsed j inputs) results n
whole_leaves (Some (definition.Chain k)) a results c n name inputs = chain_leaves None name k a c n inputs

cut_leaves : (s : ℕ) (d : Option Definition) (a : Around) → FrugalCall a.call → (n : ℕ) (name : List ℕ) (inputs : Values) → Leaves n (cut s d a n name inputs)
cut_leaves zero d a c n name inputs = omega arith
cut_leaves (suc s) None a c n name inputs = tt
cut_leaves (suc s) (Some (definition.Function f)) a c n name inputs = tt
cut_leaves (suc s) (Some (definition.Job j)) a c n name inputs = tt
cut_leaves (suc s) (Some (definition.Chain k)) a c n name inputs = chain_leaves (Some (suc s)) name k a c n inputs

by_kill_leaves : (s : Option ℕ) (d : Option Definition) (a : Around) (results : Request → Option JobResult) → FrugalCall a.call → (n : ℕ) (name : List ℕ) (inputs : Values)
    → Leaves n (by_kill s d a results n name inputs)
by_kill_leaves None d a results c n name inputs = whole_leaves d a results c n name inputs
by_kill_leaves (Some s) d a results c n name inputs = cut_leaves s d a c n name inputs

-- at each level, under each table and list of kills
pub meaning_leaves : (levels : ℕ) (library : List Definition) (table : Table) (kills : Kills) (n : ℕ) (name : List ℕ) (inputs : Values)
    → Leaves n (meaning levels library table kills n name inputs)
meaning_leaves zero library table kills n name inputs =
    by_kill_leaves (kills []) (definition_named name library) (surrounding library None) (table []) (λ l m x y. tt) n name inputs
meaning_leaves (suc levels) library table kills n name inputs = by_kill_leaves (kills []) (definition_named name library) _ (table [])
    (λ l m x y. meaning_leaves levels library (under l table) (under l kills) m x y) n name inputs

-- the calls of each process leave no more fuel than they got
pub around_frugal : (levels : ℕ) (library : List Definition) (table : Table) (kills : Kills) → FrugalCall (around levels library table kills).call
around_frugal zero library table kills l n name inputs = tt
around_frugal (suc levels) library table kills l n name inputs = meaning_leaves levels library (under l table) (under l kills) n name inputs
