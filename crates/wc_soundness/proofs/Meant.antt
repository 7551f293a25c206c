-- What the work chain means, one step at a time.
use Rattle.std.proofs.Common.{◌≡◌, ℕ, suc, Bool, false, true, List, [], ◌∷◌, ◌++◌, Option, Some, None, map, refl, sym, ap, ◌∙◌}
use Rattle.std.specs.Prelude.{pos, codes, if◌then◌else◌}
use Rattle.std.specs.Fmt.{digits}
use Rattle.wc_value.specs.Ascending.{put}
use Rattle.wc_value.specs.declared.process.Reason.TheVariants.{BadInput, WrongKind}
use Rattle.wc_value.specs.declared.process.ProcessState.TheVariants as state
use Rattle.wc_value.specs.declared.process.Tree.{Tree, Tree-F, out-roll-Tree}
use Rattle.wc_value.specs.declared.value.Kind.{Kind}
use Rattle.wc_value.specs.declared.value.Kind.TheVariants as kind
use Rattle.wc_value.specs.declared.value.Value.{Value, out-Value}
use Rattle.wc_value.specs.declared.value.Value.TheVariants as value
use Rattle.wc_syntax.specs.declared.definition.Definition.TheVariants as definition
use Rattle.wc_syntax.specs.declared.expression.BinaryOp.TheVariants as binary
use Rattle.wc_syntax.specs.declared.expression.ChildPart.TheVariants as asked
use Rattle.wc_syntax.specs.declared.expression.Expr.{Expr}
use Rattle.wc_syntax.specs.declared.expression.Form.{Form, out-Form, out-roll-Form, roll-Form, map-Form, fold-roll-Form}
use Rattle.wc_syntax.specs.declared.expression.Form.TheVariants as form
use Rattle.wc_syntax.specs.declared.expression.Form.TheOpen.{Form-F}
use Rattle.wc_syntax.specs.declared.outline.Block.{out-roll-Block}
use Rattle.wc_syntax.specs.declared.outline.Step.{Step}
use Rattle.wc_syntax.specs.declared.outline.CallStmt.{CallStmt}
use Rattle.wc_syntax.specs.declared.outline.Instr.{fold-roll-Instr}
use Rattle.wc_syntax.specs.declared.outline.Instr.TheVariants as instr
use Rattle.wc_syntax.specs.declared.outline.Instr.TheOpen.{Instr-F}
use Rattle.wc_syntax.specs.declared.outline.Stmt.{Stmt}
use Rattle.wc_syntax.specs.declared.outline.Stmt.TheVariants as stmt
use Rattle.wc_syntax.specs.declared.expression.Name.{Name}
use Rattle.wc_state.specs.declared.environment.Child.{Child}
use Rattle.wc_state.specs.declared.environment.Env.{Env}
use Rattle.wc_state.specs.declared.environment.Item.TheVariants as item
use Rattle.wc_expression.specs.declared.outcome.Outcome.{Outcome}
use Rattle.wc_expression.specs.declared.outcome.Outcome.TheVariants.{Gives, Faults}
use Rattle.wc_expression.specs.Contents as contents
use Rattle.wc_expression.specs.Environment.{children, asked as what_is_asked}
use Rattle.wc_syntax.specs.Findings.{is_data}
use Rattle.wc_expression.specs.Outcomes.{◌>>=◌}
use Rattle.wc_expression.specs.Val as values
use Rattle.wc_expression.specs.Val.{Meant, val, val_form, limited}
use Rattle.wc_semantics.specs.Outcomes.{parsed}
use Rattle.wc_semantics.specs.Requests.{request}
use Rattle.wc_semantics.specs.Rules.{Values, env_of, fitting, unnumbered}
use Rattle.wc_semantics.specs.Meaning.{around, by_kill, by_result, calls_of, ended, job, killed_first, kinds_of, leaf, meaning, surrounding, takes_of, within}
use Rattle.wc_semantics.specs.Run as runs
use Rattle.wc_semantics.specs.Run.{Act, Around, exec, run, step_of, take_calls, make_calls, stopped, ◌>->◌}
use Rattle.wc_semantics.specs.Statements as statements
use Rattle.wc_semantics.specs.Tables.{Kills, Label, Table, under}
use Rattle.wc_semantics.specs.declared.progress.Answer.{Answer}
use Rattle.wc_semantics.specs.declared.progress.Answer.TheVariants.{Gave, TooLittle}
use Rattle.wc_semantics.specs.declared.progress.Planned.{Planned}
use Rattle.wc_semantics.specs.declared.progress.Progress.{Progress}
use Rattle.wc_semantics.specs.declared.progress.Replayed.{Replayed}
use Rattle.wc_semantics.specs.declared.progress.Flow.{Flow}
use Rattle.wc_semantics.specs.declared.progress.Flow.TheVariants.{Goes, Ends, NoFuel}
use Rattle.wc_semantics.specs.declared.progress.Stepped.TheVariants.{Makes}
use Rattle.wc_machine.specs.Paths.{kills}
use Rattle.wc_machine.specs.Rest.{meant}
use Rattle.wc_soundness.specs.Library.{calls_with, output_at, double, fan, go, done, input_a, numeral, one_more, library}
use Rattle.wc_soundness.specs.Words.{word}
use Rattle.wc_soundness.specs.FanWorlds as fans
use Rattle.wc_soundness.specs.FanWorlds.{HasBoth}
use Rattle.wc_soundness.specs.KilledWorlds as killed
use Rattle.wc_soundness.specs.SmallLaws.{FanIsMeant}
use Rattle.wc_soundness.proofs.Expressions.{x_is, request_two, request_three, parsed_four, parsed_six}
use Rattle.wc_soundness.proofs.Values.{int_allowed, number_gives, input_gives, binary_gives}

-- ---- the jobs

abbrev pub job_replayed : (digit asks : ℕ) → ℕ → Replayed
job_replayed digit asks n = record { tree = fans.job_tree digit (pos n); asked = ([], fans.request asks) ∷ [] }

-- the call of a job that isn't killed, whose result the table has
module _ (table : Table) (cuts : Kills) (label : Label) (n digit asks m : ℕ) (lives : cuts (label ∷ []) ≡ None)
    (requests : request double (x_is n) ≡ Gives (fans.request asks)) (row : table (label ∷ []) (fans.request asks) ≡ Some (fans.result digit))
    (parses : parsed double (x_is n) (fans.result digit) ≡ fans.job_outcome digit (pos m)) where
  pub job_called : (fuel : ℕ) → (around 15 library table cuts).call label fuel (codes "double") (x_is n) ≡ Gave (job_replayed digit asks m) fuel
  job_called fuel =
      ap (λ o. by_kill o (Some (definition.Job double)) (surrounding library (calls_of 14 library (under label table) (under label cuts))) (table (label ∷ [])) fuel (codes "double") (x_is n)) lives
      ∙ ap (λ o. job (codes "double") o (parsed double (x_is n)) (table (label ∷ [])) fuel) requests
      ∙ ap (λ o. by_result (codes "double") (parsed double (x_is n)) (fans.request asks) o fuel) row
      ∙ ap (λ p. Gave (leaf (codes "double") p (([], fans.request asks) ∷ [])) fuel) parses

-- ---- the first step

abbrev pub before : Env
before = env_of fans.input

abbrev pub kinds : List ℕ → Option Kind
kinds = kinds_of fan.head.outputs

abbrev pub takes : List ℕ → Values → Bool
takes = takes_of library

abbrev pub plan : ℕ → Planned
plan n = record { callee = codes "double"; key = fans.parts; append = true; inputs = x_is n }

-- the value of a form, from its level
form_made : (f : Form) (l : Form-F Form Expr) (env : Env) → roll-Form l ≡ f → val_form f env ≡ values.form (map-Form Form Expr Meant Meant val_form val l) env
form_made f l env e = ap (λ m. m env) (ap val_form (sym e) ∙ fold-roll-Form Meant Meant values.form limited l)

input_passed : statements.argument input_a before ≡ Gives (value.Int (pos 2))
unfolding out-Form denote.Hole.Carrier.out
input_passed = form_made (form.Input 0 (word (codes "a"))) (Form-F.Input 0 (word (codes "a"))) before (form.rolls-Input 0 (word (codes "a")))

sum_passed : statements.argument one_more before ≡ Gives (value.Int (pos 3))
unfolding out-Form out-Value denote.Hole.Carrier.out
sum_passed =
    binary_gives before binary.Add input_a (numeral 1) (value.Int (pos 2)) (value.Int (pos 1)) (value.Int (pos 3))
    (input_gives before (codes "a") _ refl (int_allowed _ refl)) refl (number_gives before (pos 1) (int_allowed _ refl)) refl (int_allowed _ refl)

collected_as : (e : Expr) (n : ℕ) → statements.argument e before ≡ Gives (value.Int (pos n)) → takes (codes "double") (x_is n) ≡ true
    → statements.collected false takes (calls_with e) before ≡ Gives (plan n)
collected_as e n p h =
    ap (λ (v : Outcome Value). (v >>= (λ x. Gives ((codes "x", x) ∷ []))) >>= (λ vs. if takes (codes "double") vs then Gives (statements.planned (calls_with e) vs) else Faults BadInput)) p
    ∙ ap (λ b. if b then Gives (plan n) else Faults BadInput) h

call_then : (c : CallStmt) (p : Planned) (ss : List Stmt) (ps : List Planned) (env : Env) (outs : Values) → statements.collected false takes c env ≡ Gives p
    → statements.statements false takes kinds (stmt.Call c ∷ ss) ps env outs ≡ statements.statements false takes kinds ss (ps ++ p ∷ []) env outs
call_then c p ss ps env outs h = ap (λ o. statements.or_stops o env outs (λ q. statements.statements false takes kinds ss (ps ++ q ∷ []) env outs)) h

two_taken : takes (codes "double") (x_is 2) ≡ true
unfolding out-Value denote.Hole.Carrier.out
two_taken = refl

three_taken : takes (codes "double") (x_is 3) ≡ true
unfolding out-Value denote.Hole.Carrier.out
three_taken = refl

pub go_plans : statements.statements false takes kinds go.stmts [] before [] ≡ Makes (plan 2 ∷ (plan 3 ∷ [])) before []
go_plans =
    call_then (calls_with input_a) (plan 2) (stmt.Call (calls_with one_more) ∷ []) [] before [] (collected_as input_a 2 input_passed two_taken)
    ∙ call_then (calls_with one_more) (plan 3) [] (plan 2 ∷ []) before [] (collected_as one_more 3 sum_passed three_taken)

-- ---- the second step

-- a child without numbers of nodes
abbrev pub child_alone : ℕ → ℕ → Child
child_alone digit n = record {
  node = 0;
  state = state.Finished 0;
  outputs =
      (codes "retrieved", record { node = 0; value = value.Folder (fans.printed digit) }) ∷ ((codes "value", record { node = 0; value = value.Int (pos n) }) ∷ []);
}

abbrev pub after : Env
after = record { inputs = before.inputs; ctx = (fans.parts, item.Many (child_alone 52 4 ∷ (child_alone 54 6 ∷ []))) ∷ [] }

-- the value that a place among the children gives
abbrev value_at : Outcome Value → Outcome Value
value_at v = children fans.parts after >>= (λ cs. v >>= (λ i. contents.item cs (out-Value i) >>= (λ c. what_is_asked (asked.Outputs (word (codes "value"))) c)))

abbrev opened : ℕ → Form-F Form Expr
opened place = Form-F.Child 0 (word fans.parts) (Some (numeral place)) (asked.Outputs (word (codes "value")))

abbrev path : ℕ → Form
path place = form.Child 0 (word fans.parts) (Some (numeral place)) (asked.Outputs (word (codes "value")))

rolls : (place : ℕ) → roll-Form (opened place) ≡ path place
rolls place = form.rolls-Child 0 (word fans.parts) (Some (numeral place)) (asked.Outputs (word (codes "value")))

opens : (place : ℕ) → out-Form (path place) ≡ opened place
opens place = ap out-Form (sym (rolls place)) ∙ out-roll-Form (opened place)

output_from : (place n : ℕ) → val (numeral place) after ≡ Gives (value.Int (pos place)) → (value_at (Gives (value.Int (pos place))) >>= fitting (Some kind.Int)) ≡ Gives (value.Int (pos n))
    → statements.output (Some kind.Int) (output_at place) after ≡ Gives (value.Int (pos n))
output_from place n p h =
    ap (λ (l : Form-F Form Expr). (if is_data l then val_form (path place) after else Faults WrongKind) >>= fitting (Some kind.Int)) (opens place)
    ∙ ap (λ o. o >>= fitting (Some kind.Int)) (form_made (path place) (opened place) after (rolls place) ∙ ap value_at p) ∙ h

out_then : (name : Name) (x : Expr) (v : Value) (ss : List Stmt) (ps : List Planned) (env : Env) (outs : Values) → statements.output (kinds name.text) x env ≡ Gives v
    → statements.statements false takes kinds (stmt.Out 0 name x ∷ ss) ps env outs ≡ statements.statements false takes kinds ss ps env (put name.text v outs)
out_then name x v ss ps env outs h = ap (λ o. statements.or_stops o env outs (λ u. statements.statements false takes kinds ss ps env (put name.text u outs))) h

first_value : statements.output (kinds (codes "first")) (output_at 0) after ≡ Gives (value.Int (pos 4))
unfolding out-Value denote.Hole.Carrier.out
first_value = output_from 0 4 (number_gives after (pos 0) (int_allowed _ refl)) refl

last_value : statements.output (kinds (codes "last")) (output_at 1) after ≡ Gives (value.Int (pos 6))
unfolding out-Value denote.Hole.Carrier.out
last_value = output_from 1 6 (number_gives after (pos 1) (int_allowed _ refl)) refl

abbrev outputs : Values
outputs = (codes "first", value.Int (pos 4)) ∷ ((codes "last", value.Int (pos 6)) ∷ [])

pub done_sets : statements.statements false takes kinds done.stmts [] after [] ≡ Makes [] after outputs
done_sets =
    out_then (word (codes "first")) (output_at 0) (value.Int (pos 4)) (stmt.Out 0 (word (codes "last")) (output_at 1) ∷ []) [] after [] first_value
    ∙ out_then (word (codes "last")) (output_at 1) (value.Int (pos 6)) [] [] after ((codes "first", value.Int (pos 4)) ∷ []) last_value

-- ---- the calls

pub one_label : runs.label fans.parts 1 ≡ fans.one
unfolding digits
one_label = refl

pub two_label : runs.label fans.parts 2 ≡ fans.two
unfolding digits
two_label = refl

abbrev pub begun : Progress
begun = record { env = before; outputs = []; calls = [] }

-- after both calls
abbrev went : Replayed → Replayed → Progress
went t u = record {
  env = record { inputs = before.inputs; ctx = (fans.parts, item.Many (runs.child t ∷ (runs.child u ∷ []))) ∷ [] };
  outputs = [];
  calls = (fans.one, t) ∷ ((fans.two, u) ∷ []);
}

-- a run whose two calls give these trees, each with all of its fuel left
module _ (a : Around) (t u : Replayed) (first : (n : ℕ) → a.call fans.one n (codes "double") (x_is 2) ≡ Gave t n)
    (second : (n : ℕ) → a.call fans.two n (codes "double") (x_is 3) ≡ Gave u n) where
  abbrev midway : Progress
  midway = runs.with_call (plan 2) fans.one t begun

  second_taken : (n : ℕ) → take_calls (plan 3 ∷ []) a (suc n) midway ≡ Goes n (went t u)
  second_taken n =
      ap (λ l. runs.taken (a.call l n (codes "double") (x_is 3)) (λ r left. Goes left (runs.with_call (plan 3) l r midway))) two_label
      ∙ ap (λ o. runs.taken o (λ r left. Goes left (runs.with_call (plan 3) fans.two r midway))) (second n)

  first_taken : (n : ℕ) → take_calls (plan 2 ∷ (plan 3 ∷ [])) a (suc n) begun ≡ take_calls (plan 3 ∷ []) a n midway
  first_taken n =
      ap (λ l. runs.taken (a.call l n (codes "double") (x_is 2)) (λ r left. take_calls (plan 3 ∷ []) a left (runs.with_call (plan 2) l r begun))) one_label
      ∙ ap (λ o. runs.taken o (λ r left. take_calls (plan 3 ∷ []) a left (runs.with_call (plan 2) fans.one r begun))) (first n)

-- ---- the outline

does_step : (s : Step) → exec (instr.Step s) ≡ step_of s.stmts
does_step s = ap exec (sym (instr.rolls-Step s)) ∙ fold-roll-Instr Act (Expr × Act) Act runs.instr runs.arm runs.block (Instr-F.Step s)

pub fan_instrs : runs.instrs fan.outline ≡ instr.Step go ∷ (instr.Step done ∷ [])
fan_instrs = ap (λ b. b.instrs) (out-roll-Block (record { instrs = instr.Step go ∷ (instr.Step done ∷ []) }))

abbrev in_fan : Option ℕ → Table → Kills → Around
in_fan stop table cuts = within fan.head.outputs stop (around 15 library table cuts)

-- both steps, one after the other
abbrev both_steps : Option ℕ → Table → Kills → ℕ → Flow
both_steps stop table cuts n =
    runs.after (statements.statements false takes kinds go.stmts [] before []) (in_fan stop table cuts) n begun >-> (λ m e. step_of done.stmts (in_fan stop table cuts) m e >-> (λ l f. Goes l f))

runs_both : (stop : Option ℕ) (table : Table) (cuts : Kills) (n : ℕ) → run (runs.instrs fan.outline) (in_fan stop table cuts) n begun ≡ both_steps stop table cuts n
runs_both stop table cuts n =
    ap (λ is. run is (in_fan stop table cuts) n begun) fan_instrs
    ∙ λ i. does_step go i (in_fan stop table cuts) n begun >-> (λ m e. does_step done i (in_fan stop table cuts) m e >-> (λ l f. Goes l f))

abbrev first_replayed : Replayed
first_replayed = job_replayed 52 50 4

abbrev second_replayed : Replayed
second_replayed = job_replayed 54 51 6

pub job_child : (digit asks n : ℕ) → runs.child (job_replayed digit asks n) ≡ child_alone digit n
job_child digit asks n = ap (λ (f : Tree-F Tree). record { node = 0; state = f.state; outputs = map unnumbered f.outputs }) (out-roll-Tree (record {
  definition = codes "double";
  state = state.Finished 0;
  outputs = (codes "retrieved", value.Folder (fans.printed digit)) ∷ ((codes "value", value.Int (pos n)) ∷ []);
  calls = [];
}))

-- ---- the chain that ended

-- none of the chain and its jobs was killed
pub record AllLive (lives : Kills) : Type 0 where
  pub chain : lives [] ≡ None
  pub first : lives (fans.one ∷ []) ≡ None
  pub second : lives (fans.two ∷ []) ≡ None

module _ (table : Table) (both : HasBoth table) (lives : Kills) (live : AllLive lives) where
  abbrev around_fan : Around
  around_fan = in_fan None table lives

  first_called : (n : ℕ) → around_fan.call fans.one n (codes "double") (x_is 2) ≡ Gave first_replayed n
  first_called = job_called table lives fans.one 2 52 50 4 live.first request_two both.first parsed_four

  second_called : (n : ℕ) → around_fan.call fans.two n (codes "double") (x_is 3) ≡ Gave second_replayed n
  second_called = job_called table lives fans.two 3 54 51 6 live.second request_three both.second parsed_six

  -- what is left behind the first step
  abbrev then_done : ℕ → Progress → Flow
  then_done m e = step_of done.stmts around_fan m e >-> (λ l f. Goes l f)

  called_with : (n : ℕ) → run (runs.instrs fan.outline) around_fan n begun ≡ (take_calls (plan 2 ∷ (plan 3 ∷ [])) around_fan n begun >-> stopped around_fan) >-> then_done
  called_with n = runs_both None table lives n ∙ ap (λ s. runs.after s around_fan n begun >-> then_done) go_plans

  -- the end of the run
  abbrev at_end : Progress
  at_end = record { env = after; outputs = outputs; calls = (fans.one, first_replayed) ∷ ((fans.two, second_replayed) ∷ []) }

  ends_so : then_done 0 (went first_replayed second_replayed) ≡ Goes 0 at_end
  ends_so =
      (λ i. then_done 0 (record {
        env = record { inputs = before.inputs; ctx = (fans.parts, item.Many (job_child 52 50 4 i ∷ (job_child 54 51 6 i ∷ []))) ∷ [] };
        outputs = [];
        calls = at_end.calls;
      }))
      ∙ ap (λ s. runs.after s around_fan 0 (record { env = after; outputs = []; calls = at_end.calls }) >-> (λ l f. Goes l f)) done_sets

  whole_flow : run (runs.instrs fan.outline) around_fan 2 begun ≡ Goes 0 at_end
  whole_flow = called_with 2
      ∙ ap (λ f. (f >-> stopped around_fan) >-> then_done)
      (first_taken around_fan first_replayed second_replayed first_called second_called 1 ∙ second_taken around_fan first_replayed second_replayed first_called second_called 0)
      ∙ ends_so

  little_flow : run (runs.instrs fan.outline) around_fan 1 begun ≡ NoFuel
  little_flow = called_with 1
      ∙ ap (λ f. (f >-> stopped around_fan) >-> then_done) (first_taken around_fan first_replayed second_replayed first_called second_called 0)

  -- what an amount of fuel comes to
  abbrev comes_to : Flow → Answer
  comes_to f = ended None (codes "fan") fan.head.outputs f

  fan_means : (n : ℕ) → meaning 15 library table lives n (codes "fan") fans.input ≡ comes_to (run (runs.instrs fan.outline) around_fan n begun)
  fan_means n = ap (λ o. by_kill o (Some (definition.Chain fan)) (around 15 library table lives) (table []) n (codes "fan") fans.input) live.chain

  pub whole_meant : meaning 15 library table lives 2 (codes "fan") fans.input ≡ Gave fans.fan_replayed 0
  whole_meant = fan_means 2 ∙ ap comes_to whole_flow

  pub little_meant : meaning 15 library table lives 1 (codes "fan") fans.input ≡ TooLittle
  little_meant = fan_means 1 ∙ ap comes_to little_flow

module _ (table : Table) (both : HasBoth table) where
  -- ---- the chain that was killed

  abbrev cuts : Kills
  cuts = kills killed.killed 2

  abbrev around_killed : Around
  around_killed = in_fan (Some 2) table cuts

  cut_called : (n : ℕ) → around_killed.call fans.one n (codes "double") (x_is 2) ≡ Gave (killed_first (codes "double")) n
  cut_called n = refl

  other_called : (n : ℕ) → around_killed.call fans.two n (codes "double") (x_is 3) ≡ Gave second_replayed n
  other_called = job_called table cuts fans.two 3 54 51 6 refl request_three both.second parsed_six

  killed_flow : run (runs.instrs fan.outline) around_killed 2 begun ≡ Ends state.Killed 0 (went (killed_first (codes "double")) second_replayed)
  killed_flow = runs_both (Some 2) table cuts 2
      ∙ ap (λ s. runs.after s around_killed 2 begun >-> (λ m e. step_of done.stmts around_killed m e >-> (λ l f. Goes l f))) go_plans
      ∙ ap (λ f. (f >-> stopped around_killed) >-> (λ m e. step_of done.stmts around_killed m e >-> (λ l f. Goes l f)))
      (first_taken around_killed (killed_first (codes "double")) second_replayed cut_called other_called 1
      ∙ second_taken around_killed (killed_first (codes "double")) second_replayed cut_called other_called 0)

  killed_meant : meant killed.killed killed.killed_chain table cuts 2 ≡ Some (Gave killed.killed_replayed 0)
  killed_meant = ap (λ f. Some (ended (Some 2) (codes "fan") fan.head.outputs f)) killed_flow

pub fan_is_meant : FanIsMeant
fan_is_meant = record {
  whole = λ table both. ap Some (whole_meant table both (kills fans.ended 2) (record { chain = refl; first = refl; second = refl }));
  too_little = λ table both. ap Some (little_meant table both (kills fans.ended 2) (record { chain = refl; first = refl; second = refl }));
  killed = killed_meant;
}
