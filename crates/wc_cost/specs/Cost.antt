-- How many turns a run takes, and a definition. No fuel is taken: each instruction, with what follows it, takes from a bound, which plays no part
-- beside that it ends the definition.
use Rattle.std.specs.Prelude.{ℕ, zero, suc, ◌+◌, ◌≡◌, Bool, true, false, if◌then◌else◌, List, [], ◌∷◌, ◌++◌, Option, Some, None, map, option_map, option_and_then}
use Rattle.wc_value.specs.declared.process.JobResult.{JobResult}
use Rattle.wc_value.specs.declared.process.Request.{Request}
use Rattle.wc_value.specs.declared.process.Tree.{Tree}
use Rattle.wc_value.specs.declared.value.Kind.{Kind}
use Rattle.wc_syntax.specs.Findings.{definition_named}
use Rattle.wc_syntax.specs.declared.definition.Definition.{Definition}
use Rattle.wc_syntax.specs.declared.definition.Definition.TheVariants as definition
use Rattle.wc_syntax.specs.declared.definition.Port.{Port}
use Rattle.wc_syntax.specs.declared.outline.Arm.{Arm}
use Rattle.wc_syntax.specs.declared.outline.Block.{Block}
use Rattle.wc_syntax.specs.declared.outline.Instr.{Instr, out-Instr}
use Rattle.wc_syntax.specs.declared.outline.Instr.TheOpen.{Instr-F}
use Rattle.wc_expression.specs.declared.outcome.Outcome.{Outcome}
use Rattle.wc_expression.specs.declared.outcome.Outcome.TheVariants.{Gives, Faults}
use Rattle.wc_expression.specs.Val.{holds}
use Rattle.wc_semantics.specs.Laws.{arm_list, else_list}
use Rattle.wc_semantics.specs.Meaning.{first, kinds_of, meaning, takes_of}
use Rattle.wc_semantics.specs.Requests.{request}
use Rattle.wc_semantics.specs.Rules.{Values}
use Rattle.wc_semantics.specs.Run.{instrs, next_label, picked, with_call}
use Rattle.wc_semantics.specs.Statements.{statements}
use Rattle.wc_semantics.specs.Tables.{Kills, Label, Table, under}
use Rattle.wc_semantics.specs.declared.progress.Answer.{Answer}
use Rattle.wc_semantics.specs.declared.progress.Answer.TheVariants.{Gave, TooLittle, Without, Astray}
use Rattle.wc_semantics.specs.declared.progress.Planned.{Planned}
use Rattle.wc_semantics.specs.declared.progress.Progress.{Progress}
use Rattle.wc_semantics.specs.declared.progress.Replayed.{Replayed}
use Rattle.wc_semantics.specs.declared.progress.Stepped.{Stepped}
use Rattle.wc_semantics.specs.declared.progress.Stepped.TheVariants.{Stops, Makes}

-- the tree of a call and how many turns it takes, by label, bound, name and inputs
abbrev pub Due : Type 0
Due = Label → ℕ → List ℕ → Values → Option (Tree × ℕ)

-- a tree, whatever was asked for it
abbrev pub unasked : Tree → Replayed
unasked t = record { tree = t; asked = [] }

-- what surrounds a run that isn't killed
pub record Tolls : Type 0 where
  pub due : Due
  pub deep : Bool
  pub takes : List ℕ → Values → Bool
  pub kinds : List ℕ → Option Kind

-- how many turns a list of instructions takes
abbrev pub Costing : Type 0
Costing = List Instr → Progress → Option ℕ

-- so many more, where there is a cost
abbrev pub more : ℕ → Option ℕ → Option ℕ
more n = option_map (λ k. n + k)

-- none after a reason
abbrev pub by_pick : {A : Type 0} → Outcome A → (A → Option ℕ) → Option ℕ
by_pick (Faults r) f = Some 0
by_pick (Gives x) f = f x

module _ (g : Tolls) where
  -- the calls of a step: how many turns they take together, and how far the run is with them bound
  abbrev pub bill : ℕ → List Planned → Progress → Option (ℕ × Progress)
  bill b [] e = Some (0, e)
  bill b (p ∷ ps) e =
      option_and_then
      (λ d. option_map (λ (r : ℕ × Progress). (d.1 + r.0, r.1)) (bill b ps (with_call p (next_label p e) (unasked d.0) e)))
      (g.due (next_label p e) b p.callee p.inputs)

  -- what is left after a step: one turn to bind, those of the calls, and what the others take
  abbrev pub step_cost : Stepped → Costing → ℕ → List Instr → Progress → Option ℕ
  step_cost (Stops s env outs) next b is e = Some 0
  step_cost (Makes [] env outs) next b is e = next is (record { env = env; outputs = outs; calls = e.calls })
  step_cost (Makes (p ∷ ps) env outs) next b is e =
      option_and_then (λ (r : ℕ × Progress). more (1 + r.0) (next is r.1)) (bill b (p ∷ ps) (record { env = env; outputs = outs; calls = e.calls }))

  -- what is left after the first instruction
  abbrev pub front_cost : Instr-F Instr Arm Block → Instr → Costing → ℕ → List Instr → Progress → Option ℕ
  front_cost (Instr-F.Step s) i next b is e = step_cost (statements g.deep g.takes g.kinds s.stmts [] e.env e.outputs) next b is e
  front_cost (Instr-F.If at arms other) i next b is e = by_pick (picked (map arm_list arms) (else_list other) e.env) (λ js. next (js ++ is) e)
  front_cost (Instr-F.While at c body) i next b is e = by_pick (holds c e.env) (λ t. if t then next (instrs body ++ i ∷ is) e else next is e)
  front_cost (Instr-F.Return at code) i next b is e = Some 0

  -- one turn for each instruction, and one for an end past the last
  abbrev pub cost : ℕ → Costing
  cost zero is e = None
  cost (suc b) [] e = Some 1
  cost (suc b) (i ∷ is) e = more 1 (front_cost (out-Instr i) i (cost b) b is e)

  -- a list of instructions takes this many turns, with some bound
  abbrev pub Costs : List Instr → Progress → ℕ → Type 0
  Costs is e k = (b : ℕ) × (cost b is e ≡ Some k)

-- ---- a definition

-- what an answer gives, with its turns
abbrev pub due_of : Answer → Option ℕ → Option (Tree × ℕ)
due_of (Gave t n) k = option_map (λ c. (t.tree, c)) k
due_of TooLittle k = None
due_of (Without q) k = None
due_of Astray k = None

-- one turn where the request is a reason, and else one to begin and four tasks, where there is a result for it
abbrev pub job_cost : Outcome Request → (Request → Option JobResult) → Option ℕ
job_cost (Faults r) results = Some 1
job_cost (Gives q) results = option_map (λ result. 5) (results q)

-- a list of instructions, with the kinds of the chain's output ports
abbrev pub price_of : Option Definition → (Request → Option JobResult) → (List Port → Costing) → Values → Option ℕ
price_of None results run inputs = None
price_of (Some (definition.Function f)) results run inputs = Some 1
price_of (Some (definition.Job j)) results run inputs = job_cost (request j inputs) results
price_of (Some (definition.Chain c)) results run inputs = run c.head.outputs (instrs c.outline) (first inputs)

-- one that was killed takes no turn
abbrev pub price_by : Option ℕ → Option Definition → (Request → Option JobResult) → (List Port → Costing) → Values → Option ℕ
price_by None d results run inputs = price_of d results run inputs
price_by (Some c) d results run inputs = Some 0

-- what the calls of a chain cost; too deep, none may be made
abbrev pub tolls_by : List Definition → Option Due → List Port → Tolls
tolls_by library None ports = record { due = λ l n name inputs. None; deep = true; takes = takes_of library; kinds = kinds_of ports }
tolls_by library (Some due) ports = record { due = due; deep = false; takes = takes_of library; kinds = kinds_of ports }

-- How many turns a definition takes, where at most so many calls stand in one another below it.
abbrev pub price : ℕ → List Definition → Table → Kills → ℕ → List ℕ → Values → Option ℕ
price zero library table kills b name inputs =
    price_by (kills []) (definition_named name library) (table []) (λ ports. cost (tolls_by library None ports) b) inputs
price (suc levels) library table kills b name inputs =
    price_by (kills []) (definition_named name library) (table [])
    (λ ports. cost (tolls_by library (Some (λ l n x y. due_of (meaning levels library (under l table) (under l kills) n x y)
    (price levels library (under l table) (under l kills) n x y))) ports) b) inputs

-- what a call costs, by its meaning and its price, so many levels deep
abbrev pub dues_of : ℕ → List Definition → Table → Kills → Option Due
dues_of zero library table kills = None
dues_of (suc levels) library table kills = Some (λ l n x y. due_of (meaning levels library (under l table) (under l kills) n x y)
    (price levels library (under l table) (under l kills) n x y))

-- what surrounds the run of a chain with these output ports
abbrev pub tolls : ℕ → List Definition → Table → Kills → List Port → Tolls
tolls levels library table kills = tolls_by library (dues_of levels library table kills)

-- a definition takes this many turns for these inputs, with some bound
abbrev pub Prices : ℕ → List Definition → Table → Kills → List ℕ → Values → ℕ → Type 0
Prices levels library table kills name inputs k = (b : ℕ) × (price levels library table kills b name inputs ≡ Some k)

-- ---- progress with nothing asked

-- calls without what they asked for
abbrev pub bare_calls : List (Label × Replayed) → List (Label × Replayed)
bare_calls [] = []
bare_calls (c ∷ cs) = (c.0, unasked c.1.tree) ∷ bare_calls cs

-- how far a run is, without what was asked for its calls, which no cost depends on
abbrev pub bare : Progress → Progress
bare e = record { env = e.env; outputs = e.outputs; calls = bare_calls e.calls }
