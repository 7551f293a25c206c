-- With more fuel a definition has the same tree, and leaves as much more.
use Rattle.std.proofs.Common.{◌≡◌, ℕ, zero, suc, ◌+◌, Bool, true, false, List, [], Option, Some, None, refl, sym, ap, subst}
use Rattle.std.specs.Prelude.{if◌then◌else◌}
use Rattle.wc_value.specs.declared.process.JobResult.{JobResult}
use Rattle.wc_value.specs.declared.process.ProcessState.TheVariants.{Finished}
use Rattle.wc_value.specs.declared.process.Request.{Request}
use Rattle.wc_syntax.specs.Findings.{definition_named}
use Rattle.wc_syntax.specs.declared.definition.Chain.{Chain}
use Rattle.wc_syntax.specs.declared.definition.Definition.{Definition}
use Rattle.wc_syntax.specs.declared.definition.Definition.TheVariants as definition
use Rattle.wc_syntax.specs.declared.definition.Port.{Port}
use Rattle.wc_expression.specs.declared.outcome.Outcome.{Outcome}
use Rattle.wc_expression.specs.declared.outcome.Outcome.TheVariants.{Gives, Faults}
use Rattle.wc_semantics.specs.declared.outcomes.Parsed.{Parsed}
use Rattle.wc_semantics.specs.Rules.{Values}
use Rattle.wc_semantics.specs.Requests.{request}
use Rattle.wc_semantics.specs.Outcomes.{parsed}
use Rattle.wc_semantics.specs.declared.progress.Answer.TheVariants.{Gave, Astray}
use Rattle.wc_semantics.specs.declared.progress.Flow.{Flow}
use Rattle.wc_semantics.specs.declared.progress.Flow.TheVariants.{Goes, Ends, NoFuel, Lacks, Off}
use Rattle.wc_semantics.specs.declared.progress.Replayed.{Replayed}
use Rattle.wc_semantics.specs.Tables.{Table, Kills, under}
use Rattle.wc_semantics.specs.Run.{Around, instrs}
use Rattle.wc_semantics.specs.Meaning.{judged, strays, ended, first, within, chain, by_result, job, whole, cut, by_kill, killed_first, surrounding, meaning}
use Rattle.wc_semantics.specs.Laws.{MoreAnswer}
use Rattle.wc_semantics.proofs.More.{MoreFlow, MoreCall, run_more}

end_more : (b : Bool) (t : Replayed) (m m' k : ℕ) → m' ≡ m + k → MoreAnswer k (if b then Astray else Gave t m) (if b then Astray else Gave t m')
end_more true t m m' k h = refl
end_more false t m m' k h = ap (Gave t) h

pub ended_more : (k : ℕ) (stop : Option ℕ) (name : List ℕ) (ports : List Port) (f g : Flow) → MoreFlow k f g → MoreAnswer k (ended stop name ports f) (ended stop name ports g)
ended_more k stop name ports (Goes m e) g p = subst (λ (z : Flow). MoreAnswer k (ended stop name ports (Goes m e)) (ended stop name ports z)) (sym p)
    (end_more (strays stop (judged ports (Finished 0) e.outputs)) _ m (m + k) k refl)
ended_more k stop name ports (Ends s m e) g p = subst (λ (z : Flow). MoreAnswer k (ended stop name ports (Ends s m e)) (ended stop name ports z)) (sym p)
    (end_more (strays stop (judged ports s e.outputs)) _ m (m + k) k refl)
ended_more k stop name ports NoFuel g p = tt
ended_more k stop name ports (Lacks q) g p = ap (ended stop name ports) p
ended_more k stop name ports Off g p = ap (ended stop name ports) p

chain_more : (stop : Option ℕ) (name : List ℕ) (c : Chain) (a : Around) → MoreCall a.call → (n n' k : ℕ) (inputs : Values) → n' ≡ n + k
    → MoreAnswer k (chain stop name c a n inputs) (chain stop name c a n' inputs)
chain_more stop name c a t n n' k inputs h = ended_more k stop name c.head.outputs _ _ (run_more (instrs c.outline) (within c.head.outputs stop a) t n n' k (first inputs) h)

gave_more : (t : Replayed) (n n' k : ℕ) → n' ≡ n + k → MoreAnswer k (Gave t n) (Gave t n')
gave_more t n n' k h = ap (Gave t) h

result_more : (name : List ℕ) (parse : JobResult → Parsed) (q : Request) (r : Option JobResult) (n n' k : ℕ) → n' ≡ n + k
    → MoreAnswer k (by_result name parse q r n) (by_result name parse q r n')
result_more name parse q None n n' k h = refl
result_more name parse q (Some r) n n' k h = gave_more _ n n' k h

job_more : (name : List ℕ) (o : Outcome Request) (parse : JobResult → Parsed) (results : Request → Option JobResult) (n n' k : ℕ) → n' ≡ n + k
    → MoreAnswer k (job name o parse results n) (job name o parse results n')
job_more name (Faults r) parse results n n' k h = gave_more _ n n' k h
job_more name (Gives q) parse results n n' k h = result_more name parse q (results q) n n' k h

whole_more : (d : Option Definition) (a : Around) (results : Request → Option JobResult) → MoreCall a.call → (n n' k : ℕ) (name : List ℕ) (inputs : Values) → n' ≡ n + k
    → MoreAnswer k (whole d a results n name inputs) (whole d a results n' name inputs)
whole_more None a results c n n' k name inputs h = refl
whole_more (Some (definition.Function f)) a results c n n' k name inputs h = gave_more _ n n' k h
whole_more (Some (definition.Job j)) a results c n n' k name inputs h = job_more name (request j inputs) (parsed j inputs) results n n' k h
whole_more (Some (definition.Chain d)) a results c n n' k name inputs h = chain_more None name d a c n n' k inputs h

cut_more : (s : ℕ) (d : Option Definition) (a : Around) → MoreCall a.call → (n n' k : ℕ) (name : List ℕ) (inputs : Values) → n' ≡ n + k
    → MoreAnswer k (cut s d a n name inputs) (cut s d a n' name inputs)
cut_more zero d a c n n' k name inputs h = gave_more (killed_first name) n n' k h
cut_more (suc s) None a c n n' k name inputs h = refl
cut_more (suc s) (Some (definition.Function f)) a c n n' k name inputs h = refl
cut_more (suc s) (Some (definition.Job j)) a c n n' k name inputs h = refl
cut_more (suc s) (Some (definition.Chain d)) a c n n' k name inputs h = chain_more (Some (suc s)) name d a c n n' k inputs h

by_kill_more : (s : Option ℕ) (d : Option Definition) (a : Around) (results : Request → Option JobResult) → MoreCall a.call → (n n' k : ℕ) (name : List ℕ) (inputs : Values) → n' ≡ n + k
    → MoreAnswer k (by_kill s d a results n name inputs) (by_kill s d a results n' name inputs)
by_kill_more None d a results c n n' k name inputs h = whole_more d a results c n n' k name inputs h
by_kill_more (Some s) d a results c n n' k name inputs h = cut_more s d a c n n' k name inputs h

pub meaning_more : (levels : ℕ) (library : List Definition) (table : Table) (kills : Kills) (n n' k : ℕ) (name : List ℕ) (inputs : Values) → n' ≡ n + k
    → MoreAnswer k (meaning levels library table kills n name inputs) (meaning levels library table kills n' name inputs)
meaning_more zero library table kills n n' k name inputs h =
    by_kill_more (kills []) (definition_named name library) (surrounding library None) (table []) (λ l m m' j x y i. refl) n n' k name inputs h
meaning_more (suc levels) library table kills n n' k name inputs h = by_kill_more (kills []) (definition_named name library) _ (table [])
    (λ l m m' j x y i. meaning_more levels library (under l table) (under l kills) m m' j x y i) n n' k name inputs h
