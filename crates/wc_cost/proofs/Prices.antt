-- A definition that has a tree has exactly one price, whatever the bound.
use Rattle.std.proofs.Common.{◌≡◌, ℕ, zero, suc, ◌+◌, ◌-◌, ◌≤◌, List, [], Option, Some, None, refl, ap, ◌∙◌, arith}
use Rattle.std.specs.Prelude.{option_map}
use Rattle.wc_value.specs.declared.process.JobResult.{JobResult}
use Rattle.wc_value.specs.declared.process.Request.{Request}
use Rattle.wc_syntax.specs.Findings.{definition_named}
use Rattle.wc_syntax.specs.declared.definition.Definition.{Definition}
use Rattle.wc_syntax.specs.declared.definition.Definition.TheVariants as definition
use Rattle.wc_syntax.specs.declared.definition.Port.{Port}
use Rattle.wc_syntax.specs.declared.outline.Instr.{Instr}
use Rattle.wc_expression.specs.declared.outcome.Outcome.{Outcome}
use Rattle.wc_expression.specs.declared.outcome.Outcome.TheVariants.{Gives, Faults}
use Rattle.wc_semantics.specs.Rules.{Values}
use Rattle.wc_semantics.specs.Requests.{request}
use Rattle.wc_semantics.specs.Outcomes.{parsed}
use Rattle.wc_semantics.specs.declared.outcomes.Parsed.{Parsed}
use Rattle.wc_semantics.specs.declared.progress.Answer.{Answer}
use Rattle.wc_semantics.specs.declared.progress.Answer.TheVariants.{Gave, TooLittle, Without, Astray}
use Rattle.wc_semantics.specs.declared.progress.Flow.{Flow}
use Rattle.wc_semantics.specs.declared.progress.Flow.TheVariants.{Goes, Ends, NoFuel, Lacks, Off}
use Rattle.wc_semantics.specs.declared.progress.Progress.{Progress}
use Rattle.wc_semantics.specs.declared.progress.Replayed.{Replayed}
use Rattle.wc_semantics.specs.Tables.{Table, Kills, under}
use Rattle.wc_semantics.specs.Laws.{MoreAnswer}
use Rattle.wc_semantics.specs.Run.{Around, run, instrs}
use Rattle.wc_semantics.specs.Meaning.{around, by_kill, by_result, ended, first, job, meaning, whole, within}
use Rattle.wc_semantics.proofs.Keeps.{meaning_more}
use Rattle.wc_cost.specs.Laws.{MeaningsCost, RunsCost}
use Rattle.wc_cost.specs.Cost.{Costing, cost, Costs, due_of, job_cost, price_of, price_by, price, tolls, Prices, bare}
use Rattle.wc_cost.proofs.Cost.{Keeps, kept, KeepsDue, cost_keeps, cost_unique}
use Rattle.wc_cost.proofs.Costed.{Fair, AnEnd, run_costed}

-- ---- the price doesn't hang on the bound

due_keeps : (k : ℕ) (x y : Answer) (o p : Option ℕ) → MoreAnswer k x y → Keeps o p → Keeps (due_of x o) (due_of y p)
due_keeps k (Gave t m) y None p h c = tt
due_keeps k (Gave t m) y (Some n) p h c = ap (λ (z : Answer). due_of z p) h ∙ ap (option_map (λ (n : ℕ). (t.tree, n))) c
due_keeps k TooLittle y o p h c = tt
due_keeps k (Without q) y o p h c = tt
due_keeps k Astray y o p h c = tt

abbrev Runs : Type 0
Runs = List Port → Costing

abbrev RunsKeep : Runs → Runs → Type 0
RunsKeep f f' = (ports : List Port) (is : List Instr) (e : Progress) → Keeps (f ports is e) (f' ports is e)

job_keeps : (o : Option ℕ) → Keeps o o
job_keeps None = tt
job_keeps (Some n) = refl

price_of_keeps : (d : Option Definition) (results : Request → Option JobResult) (f f' : Runs) (inputs : Values) → RunsKeep f f' → Keeps (price_of d results f inputs) (price_of d results f' inputs)
price_of_keeps None results f f' inputs h = tt
price_of_keeps (Some (definition.Function x)) results f f' inputs h = refl
price_of_keeps (Some (definition.Job j)) results f f' inputs h = job_keeps (job_cost (request j inputs) results)
price_of_keeps (Some (definition.Chain c)) results f f' inputs h = h c.head.outputs (instrs c.outline) (first inputs)

price_by_keeps : (s : Option ℕ) (d : Option Definition) (results : Request → Option JobResult) (f f' : Runs) (inputs : Values) → RunsKeep f f'
    → Keeps (price_by s d results f inputs) (price_by s d results f' inputs)
price_by_keeps None d results f f' inputs h = price_of_keeps d results f f' inputs h
price_by_keeps (Some c) d results f f' inputs h = refl

abbrev costs_at : ℕ → List Definition → Table → Kills → ℕ → Runs
costs_at levels library table kills b ports = cost (tolls levels library table kills ports) b

pub price_keeps : (levels : ℕ) (library : List Definition) (table : Table) (kills : Kills) (b b' : ℕ) (name : List ℕ) (inputs : Values) → b ≤ b'
    → Keeps (price levels library table kills b name inputs) (price levels library table kills b' name inputs)
price_keeps zero library table kills b b' name inputs l =
    price_by_keeps (kills []) (definition_named name library) (table []) (costs_at 0 library table kills b) (costs_at 0 library table kills b') inputs
    (λ ports. cost_keeps (tolls 0 library table kills ports) (λ l' n n' x y i. tt) b b' l)
price_keeps (suc levels) library table kills b b' name inputs l =
    price_by_keeps (kills []) (definition_named name library) (table []) (costs_at (suc levels) library table kills b) (costs_at (suc levels) library table kills b') inputs
    (λ ports. cost_keeps (tolls (suc levels) library table kills ports)
    (λ l' n n' x y i. due_keeps (n' - n) (meaning levels library (under l' table) (under l' kills) n x y) (meaning levels library (under l' table) (under l' kills) n' x y)
    (price levels library (under l' table) (under l' kills) n x y) (price levels library (under l' table) (under l' kills) n' x y)
    (meaning_more levels library (under l' table) (under l' kills) n n' (n' - n) x y (omega arith)) (price_keeps levels library (under l' table) (under l' kills) n n' x y i))
    b b' l)

pub tolls_keep : (levels : ℕ) (library : List Definition) (table : Table) (kills : Kills) (ports : List Port) → KeepsDue (tolls levels library table kills ports).due
tolls_keep zero library table kills ports = λ l n n' x y i. tt
tolls_keep (suc levels) library table kills ports =
    λ l' n n' x y i. due_keeps (n' - n) (meaning levels library (under l' table) (under l' kills) n x y) (meaning levels library (under l' table) (under l' kills) n' x y)
    (price levels library (under l' table) (under l' kills) n x y) (price levels library (under l' table) (under l' kills) n' x y)
    (meaning_more levels library (under l' table) (under l' kills) n n' (n' - n) x y (omega arith)) (price_keeps levels library (under l' table) (under l' kills) n n' x y i)

-- ---- there is one

abbrev pub IsFair : ℕ → List Definition → Table → Kills → Type 0
IsFair levels library table kills = (ports : List Port) → Fair (within ports None (around levels library table kills)) (tolls levels library table kills ports)

module _ (levels : ℕ) (library : List Definition) (table : Table) (kills : Kills) (fair : IsFair levels library table kills) where
  abbrev about : List Port → Around
  about ports = within ports None (around levels library table kills)

  pub an_end : (name : List ℕ) (ports : List Port) (f : Flow) (t : Replayed) (m : ℕ) → ended None name ports f ≡ Gave t m
      → AnEnd (tolls levels library table kills ports) (about ports) (fair ports) f
  an_end name ports (Goes n e) t m p = tt
  an_end name ports (Ends s n e) t m p = tt
  an_end name ports NoFuel t m p = cc
  an_end name ports (Lacks q) t m p = cc
  an_end name ports Off t m p = cc

  abbrev Priced : Option ℕ → Option Definition → Values → Type 0
  Priced s d inputs = (b : ℕ) × (k : ℕ) × (price_by s d (table []) (costs_at levels library table kills b) inputs ≡ Some k)

  result_priced : (name : List ℕ) (parse : JobResult → Parsed) (q : Request) (o : Option JobResult) (n : ℕ) (t : Replayed) (m : ℕ) → by_result name parse q o n ≡ Gave t m
      → (k : ℕ) × (option_map (λ (result : JobResult). 5) o ≡ Some k)
  result_priced name parse q None n t m p = absurd (cc)
  result_priced name parse q (Some r) n t m p = (5, refl)

  job_priced : (name : List ℕ) (o : Outcome Request) (parse : JobResult → Parsed) (results : Request → Option JobResult) (n : ℕ) (t : Replayed) (m : ℕ)
      → job name o parse results n ≡ Gave t m → (k : ℕ) × (job_cost o results ≡ Some k)
  job_priced name (Faults r) parse results n t m p = (1, refl)
  job_priced name (Gives q) parse results n t m p = result_priced name parse q (results q) n t m p

  whole_priced : (d : Option Definition) (n : ℕ) (name : List ℕ) (inputs : Values) (t : Replayed) (m : ℕ)
      → whole d (around levels library table kills) (table []) n name inputs ≡ Gave t m → Priced None d inputs
  whole_priced None n name inputs t m p = absurd (cc)
  whole_priced (Some (definition.Function f)) n name inputs t m p = (0, 1, refl)
  whole_priced (Some (definition.Job j)) n name inputs t m p = let k = job_priced name (request j inputs) (parsed j inputs) (table []) n t m p in (0, k.0, k.1)
  whole_priced (Some (definition.Chain c)) n name inputs t m p =
      run_costed (tolls levels library table kills c.head.outputs) (about c.head.outputs) (fair c.head.outputs) (instrs c.outline) n (first inputs)
      (an_end name c.head.outputs (run (instrs c.outline) (about c.head.outputs) n (first inputs)) t m p)

  kill_priced : (s : Option ℕ) (d : Option Definition) (n : ℕ) (name : List ℕ) (inputs : Values) (t : Replayed) (m : ℕ)
      → by_kill s d (around levels library table kills) (table []) n name inputs ≡ Gave t m → Priced s d inputs
  kill_priced None d n name inputs t m p = whole_priced d n name inputs t m p
  kill_priced (Some c) d n name inputs t m p = (0, 0, refl)

abbrev HasPrice : ℕ → List Definition → Type 0
HasPrice levels library = (table : Table) (kills : Kills) (n : ℕ) (name : List ℕ) (inputs : Values) (t : Replayed) (m : ℕ)
    → meaning levels library table kills n name inputs ≡ Gave t m → (b : ℕ) × (k : ℕ) × (price levels library table kills b name inputs ≡ Some k)

both_due : (x y : Answer) (j : ℕ) (t : Replayed) (m k : ℕ) (o p : Option ℕ) → x ≡ Gave t m → MoreAnswer j x y → o ≡ Some k → Keeps o p → due_of y p ≡ Some (t.tree, k)
both_due x y j t m k o p h i e l = kept (due_of x o) (due_of y p) (t.tree, k) (λ z. due_of (h z) (e z)) (due_keeps j x y o p i l)

fair_zero : (library : List Definition) (table : Table) (kills : Kills) → IsFair 0 library table kills
fair_zero library table kills ports = record { deep = refl; takes = refl; kinds = refl; stop = refl; dues = (λ l n x y t m p. absurd (no t m p)); keeps = tolls_keep 0 library table kills ports }
  where
    no : (t : Replayed) (m : ℕ) → Astray ≡ Gave t m → ⊥
    no t m p = cc

fair_up : (levels : ℕ) (library : List Definition) → HasPrice levels library → (table : Table) (kills : Kills) → IsFair (suc levels) library table kills
fair_up levels library has table kills ports = record {
  deep = refl;
  takes = refl;
  kinds = refl;
  stop = refl;
  dues = (λ l n x y t m q.
      let d = has (under l table) (under l kills) n x y t m q in (
        n + d.0,
        d.1,
        both_due (meaning levels library (under l table) (under l kills) n x y) (meaning levels library (under l table) (under l kills) (n + d.0) x y) d.0 t m d.1
            (price levels library (under l table) (under l kills) d.0 x y) (price levels library (under l table) (under l kills) (n + d.0) x y)
            q (meaning_more levels library (under l table) (under l kills) n (n + d.0) d.0 x y refl)
            d.2 (price_keeps levels library (under l table) (under l kills) d.0 (n + d.0) x y (omega arith)),
      ));
  keeps = tolls_keep (suc levels) library table kills ports;
}

-- A definition that has a tree has a price.
pub priced : (levels : ℕ) (library : List Definition) → HasPrice levels library
priced zero library table kills n name inputs t m p = kill_priced 0 library table kills (fair_zero library table kills) (kills []) (definition_named name library) n name inputs t m p
priced (suc levels) library table kills n name inputs t m p =
    kill_priced (suc levels) library table kills (fair_up levels library (λ table' kills' n' x y t' m' q. priced levels library table' kills' n' x y t' m' q) table kills)
    (kills []) (definition_named name library) n name inputs t m p

pub fair : (levels : ℕ) (library : List Definition) (table : Table) (kills : Kills) → IsFair levels library table kills
fair zero library table kills = fair_zero library table kills
fair (suc levels) library table kills = fair_up levels library (priced levels library) table kills

same_price : (o : Option ℕ) (k k' : ℕ) → o ≡ Some k → o ≡ Some k' → k ≡ k'
same_price o k k' p q = cc

-- and it has no other, whatever the bound
pub price_unique : (levels : ℕ) (library : List Definition) (table : Table) (kills : Kills) (name : List ℕ) (inputs : Values) (k k' : ℕ)
    → Prices levels library table kills name inputs k → Prices levels library table kills name inputs k' → k ≡ k'
price_unique levels library table kills name inputs k k' p q = same_price (price levels library table kills (p.0 + q.0) name inputs) k k'
    (kept (price levels library table kills p.0 name inputs) (price levels library table kills (p.0 + q.0) name inputs) k p.1 (price_keeps levels library table kills p.0 (p.0 + q.0) name inputs (omega arith)))
    (kept (price levels library table kills q.0 name inputs) (price levels library table kills (p.0 + q.0) name inputs) k' q.1 (price_keeps levels library table kills q.0 (p.0 + q.0) name inputs (omega arith)))

-- A remaining run that gives an end has exactly one cost.
pub one_cost : (levels : ℕ) (library : List Definition) (table : Table) (kills : Kills) (ports : List Port) (name : List ℕ) (is : List Instr) (n : ℕ) (e : Progress) (t : Replayed) (m : ℕ)
    → ended None name ports (run is (within ports None (around levels library table kills)) n e) ≡ Gave t m
    → (k : ℕ) × Costs (tolls levels library table kills ports) is (bare e) k × ((k' : ℕ) → Costs (tolls levels library table kills ports) is (bare e) k' → k' ≡ k)
one_cost levels library table kills ports name is n e t m h =
    let g = tolls levels library table kills ports in
    let c = run_costed g (within ports None (around levels library table kills)) (fair levels library table kills ports) is n e
    (an_end levels library table kills (fair levels library table kills) name ports (run is (within ports None (around levels library table kills)) n e) t m h) in
    (c.1, (c.0, c.2), λ k' q. cost_unique g (tolls_keep levels library table kills ports) is (bare e) k' c.1 q (c.0, c.2))

-- ---- the laws

pub runs_cost : RunsCost
runs_cost levels library table kills ports = record {
  one = λ is e k k' p q. cost_unique (tolls levels library table kills ports) (tolls_keep levels library table kills ports) is e k k' p q;
  some = λ name is n e t m h. let c = one_cost levels library table kills ports name is n e t m h in (c.0, c.1);
}

pub meanings_cost : MeaningsCost
meanings_cost levels library table kills name inputs = record {
  one = λ k k' p q. price_unique levels library table kills name inputs k k' p q;
  some = λ n t m h. let p = priced levels library table kills n name inputs t m h in (p.1, (p.0, p.2));
}
