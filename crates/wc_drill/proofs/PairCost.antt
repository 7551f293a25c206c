-- The chain that adds the squares of 2 and 3 takes exactly 17 turns, by computation.
use Rattle.std.proofs.Common.{◌≡◌, ◌+◌, ℕ, Bool, true, List, [], ◌∷◌, Some, None, refl, sym, ap, ◌∙◌, arith}
use Rattle.std.specs.Prelude.{codes, if◌then◌else◌, map, option_and_then, pos}
use Rattle.std.specs.Fmt.{digits}
use Rattle.std.specs.Str.{is_utf8, chars}
use lib.Utf8.{encode}
use Rattle.wc_value.specs.Ascending.{put}
use Rattle.wc_value.specs.declared.process.JobResult.{JobResult}
use Rattle.wc_value.specs.declared.process.ProcessState.TheVariants as state
use Rattle.wc_value.specs.declared.process.Reason.TheVariants.{BadInput, BadText, WrongKind}
use Rattle.wc_value.specs.declared.process.Request.{Request}
use Rattle.wc_value.specs.declared.process.Tree.{Tree, Tree-F, out-roll-Tree}
use Rattle.wc_value.specs.declared.value.Kind.TheVariants as kind
use Rattle.wc_value.specs.declared.value.Value.{Value, out-Value}
use Rattle.wc_value.specs.declared.value.Value.TheVariants as value
use Rattle.wc_syntax.specs.Findings.{is_data}
use Rattle.wc_syntax.specs.declared.expression.BinaryOp.TheVariants as binary
use Rattle.wc_syntax.specs.declared.expression.ChildPart.TheVariants as asked
use Rattle.wc_syntax.specs.declared.expression.Expr.{Expr}
use Rattle.wc_syntax.specs.declared.expression.Form.{Form, out-Form, out-roll-Form}
use Rattle.wc_syntax.specs.declared.expression.Form.TheOpen.{Form-F}
use Rattle.wc_syntax.specs.declared.expression.Form.TheVariants as form
use Rattle.wc_syntax.specs.declared.expression.OneOf.TheVariants as one
use Rattle.wc_syntax.specs.declared.expression.TwoOf.TheVariants as two
use Rattle.wc_syntax.specs.declared.outline.Instr.TheVariants as instr
use Rattle.wc_state.specs.declared.environment.Child.{Child}
use Rattle.wc_state.specs.declared.environment.Env.{Env}
use Rattle.wc_state.specs.declared.environment.Item.TheVariants as item
use Rattle.wc_expression.specs.declared.outcome.Outcome.{Outcome}
use Rattle.wc_expression.specs.declared.outcome.Outcome.TheVariants.{Gives, Faults}
use Rattle.wc_expression.specs.Contents.{as_text}
use Rattle.wc_expression.specs.Outcomes.{◌>>=◌, found, mapped}
use Rattle.wc_expression.specs.Texts.{trimmed}
use Rattle.wc_expression.specs.Val.{is_allowed, val, val_form}
use Rattle.wc_expression.specs.Whole.{number_of}
use Rattle.wc_semantics.specs.Meaning.{leaf}
use Rattle.wc_semantics.specs.Outcomes.{calculated, concluded, parse_env, parsed, retrieved}
use Rattle.wc_semantics.specs.Rules.{Values, env_of, fitting, unnumbered}
use Rattle.wc_semantics.specs.Run as runs
use Rattle.wc_semantics.specs.Run.{next_label, with_call}
use Rattle.wc_semantics.specs.Statements as statements
use Rattle.wc_semantics.specs.Tables.{Path}
use Rattle.wc_semantics.specs.declared.outcomes.Parsed.{Parsed}
use Rattle.wc_semantics.specs.declared.progress.Progress.{Progress}
use Rattle.wc_semantics.specs.declared.progress.Stepped.TheVariants.{Makes}
use Rattle.wc_ends.proofs.Soundness.Expressions.{x_is}
use Rattle.wc_ends.proofs.Soundness.Values.{bare_gives, binary_gives, folder_allowed, int_allowed, one_gives, quoted_gives, text_allowed, two_gives}
use Rattle.wc_ends.specs.Costs.Cost.{Tolls, cost, more, step_cost, unasked}
use Rattle.wc_drill.specs.Library.{bare, chain_inputs, first, last, output_of, second, square, sum_of_both, total, word}
use Rattle.wc_drill.specs.PairCost.{PairCosts}
use Rattle.wc_drill.specs.Squares.{square_request, square_result}
use Rattle.wc_drill.proofs.PairRuns.{LivesOn, after_second, begun, both_billed, first_plans, form_made, g, its_sum, pair_instrs, squared, step_costs, steps, summands, summed, sums, takes, total_billed, totalled, with_both}

-- ---- the jobs

-- a file with one digit and the end of a line
abbrev printed : ℕ → JobResult
printed digit = record { code = pos 0; files = (codes "y", digit ∷ (10 ∷ [])) ∷ [] }

four_printed : square_result 2 ≡ printed 52
unfolding digits
four_printed = refl

nine_printed : square_result 3 ≡ printed 57
unfolding digits
nine_printed = refl

-- the outcome of a job that reads this number
abbrev read_as : (digit m : ℕ) → Parsed
read_as digit m = record {
  state = state.Finished 0;
  outputs = (codes "retrieved", value.Folder (printed digit).files) ∷ ((codes "y", value.Int (pos m)) ∷ []);
}

module _ (n digit m : ℕ) where
  abbrev its_env : Env
  its_env = parse_env (x_is n) (printed digit)

  abbrev its_file : List ℕ
  its_file = digit ∷ (10 ∷ [])

  parsed_as : is_allowed (value.Folder (printed digit).files) ≡ true → is_allowed (value.Text its_file) ≡ true → is_allowed (value.Text (digit ∷ [])) ≡ true
      → as_text its_file ≡ Gives its_file → trimmed its_file ≡ digit ∷ [] → number_of (digit ∷ []) ≡ Some (pos m)
      → parsed square (x_is n) (printed digit) ≡ read_as digit m
  unfolding out-Value denote.Hole.Carrier.out
  parsed_as fits file_fits text_fits reads trims spells =
      let f : val (bare (codes "retrieved")) its_env ≡ Gives (value.Folder (printed digit).files) = bare_gives its_env (codes "retrieved") _ refl fits in
      let n = quoted_gives its_env (codes "y") (text_allowed _ refl) in
      let t = two_gives its_env two.File (bare (codes "retrieved")) _ _ _ (value.Text its_file) f n (ap (mapped value.Text) reads) file_fits in
      let c = one_gives its_env one.Trim _ _ (value.Text (digit ∷ [])) t (ap (λ z. Gives (value.Text z)) trims) text_fits in
      let v = one_gives its_env one.Int _ _ (value.Int (pos m)) c (ap (λ z. mapped value.Int (found BadText z)) spells) (int_allowed _ refl) in
      λ i. concluded square.head.outputs (retrieved (printed digit)) ((v i >>= fitting (Some kind.Int)) >>= (λ x. Gives (0, put (codes "y") x (retrieved (printed digit)))))

four_read : parsed square (x_is 2) (printed 52) ≡ read_as 52 4
unfolding is_utf8 chars encode
four_read = parsed_as 2 52 4 (folder_allowed _ refl) (text_allowed _ refl) (text_allowed _ refl) refl refl refl

nine_read : parsed square (x_is 3) (printed 57) ≡ read_as 57 9
unfolding is_utf8 chars encode
nine_read = parsed_as 3 57 9 (folder_allowed _ refl) (text_allowed _ refl) (text_allowed _ refl) refl refl refl

-- what an outcome is as a child
abbrev as_child : Parsed → Child
as_child p = record { node = 0; state = p.state; outputs = map unnumbered p.outputs }

leaf_child : (name : List ℕ) (p : Parsed) (q : List (Path × Request)) → runs.child (unasked (leaf name p q).tree) ≡ as_child p
leaf_child name p q = ap (λ (f : Tree-F Tree). record { node = 0; state = f.state; outputs = map unnumbered f.outputs })
    (out-roll-Tree (record { definition = name; state = p.state; outputs = p.outputs; calls = [] }))

four_child : runs.child (unasked (squared 2).tree) ≡ as_child (read_as 52 4)
four_child = leaf_child (codes "square") (parsed square (x_is 2) (square_result 2)) (([], square_request 2) ∷ []) ∙ ap as_child (ap (parsed square (x_is 2)) four_printed ∙ four_read)

nine_child : runs.child (unasked (squared 3).tree) ≡ as_child (read_as 57 9)
nine_child = leaf_child (codes "square") (parsed square (x_is 3) (square_result 3)) (([], square_request 3) ∷ []) ∙ ap as_child (ap (parsed square (x_is 3)) nine_printed ∙ nine_read)

-- ---- paths to outputs

abbrev opened : (key label : List ℕ) → Form-F Form Expr
opened key label = Form-F.Child 0 (word key) None (asked.Outputs (word label))

abbrev path : (key label : List ℕ) → Form
path key label = form.Child 0 (word key) None (asked.Outputs (word label))

opens : (key label : List ℕ) → out-Form (path key label) ≡ opened key label
opens key label = ap out-Form (sym (form.rolls-Child 0 (word key) None (asked.Outputs (word label)))) ∙ out-roll-Form (opened key label)

argument_from : (key label : List ℕ) (env : Env) (v : Value) → val_form (path key label) env ≡ Gives v → statements.argument (output_of key label) env ≡ Gives v
argument_from key label env v h =
    ap (λ (l : Form-F Form Expr). if is_data l then val_form (path key label) env else val (output_of key label) env) (opens key label) ∙ h

output_from : (key label : List ℕ) (env : Env) (v : Value) → val_form (path key label) env ≡ Gives v → fitting (Some kind.Int) v ≡ Gives v
    → statements.output (Some kind.Int) (output_of key label) env ≡ Gives v
output_from key label env v h fits =
    ap (λ (l : Form-F Form Expr). (if is_data l then val_form (path key label) env else Faults WrongKind) >>= fitting (Some kind.Int)) (opens key label)
    ∙ ap (λ o. o >>= fitting (Some kind.Int)) h ∙ fits

-- ---- the second step

-- with these children bound
abbrev with_children : Child → Child → Env
with_children a b = record { inputs = (env_of (chain_inputs 2 3)).inputs; ctx = (codes "a", item.One a) ∷ ((codes "b", item.One b) ∷ []) }

abbrev both_read : Env
both_read = with_children (as_child (read_as 52 4)) (as_child (read_as 57 9))

abbrev both_given : Values
both_given = (codes "a", value.Int (pos 4)) ∷ ((codes "b", value.Int (pos 9)) ∷ [])

four_given : statements.argument (output_of (codes "a") (codes "y")) both_read ≡ Gives (value.Int (pos 4))
four_given = argument_from (codes "a") (codes "y") both_read _
    (form_made (path (codes "a") (codes "y")) (opened (codes "a") (codes "y")) both_read (form.rolls-Child 0 (word (codes "a")) None (asked.Outputs (word (codes "y")))))

nine_given : statements.argument (output_of (codes "b") (codes "y")) both_read ≡ Gives (value.Int (pos 9))
nine_given = argument_from (codes "b") (codes "y") both_read _
    (form_made (path (codes "b") (codes "y")) (opened (codes "b") (codes "y")) both_read (form.rolls-Child 0 (word (codes "b")) None (asked.Outputs (word (codes "y")))))

given_so : summands both_read ≡ Gives both_given
given_so = λ i. four_given i >>= (λ v. nine_given i >>= (λ u. Gives (put (codes "b") u (put (codes "a") v []))))

taken_so : takes (codes "total") both_given ≡ true
unfolding out-Value denote.Hole.Carrier.out
taken_so = refl

-- ---- the sum

abbrev summed_as : Parsed
summed_as = record { state = state.Finished 0; outputs = (codes "s", value.Int (pos 13)) ∷ [] }

sum_so : calculated total both_given ≡ summed_as
unfolding out-Value denote.Hole.Carrier.out
sum_so =
    let env : Env = env_of both_given in
    let a : val (bare (codes "a")) env ≡ Gives (value.Int (pos 4)) = bare_gives env (codes "a") _ refl (int_allowed _ refl) in
    let b : val (bare (codes "b")) env ≡ Gives (value.Int (pos 9)) = bare_gives env (codes "b") _ refl (int_allowed _ refl) in
    let s : val sum_of_both env ≡ Gives (value.Int (pos 13)) = binary_gives env binary.Add (bare (codes "a")) (bare (codes "b")) _ _ (value.Int (pos 13)) a refl b refl (int_allowed _ refl) in
    λ i. concluded total.head.outputs [] ((s i >>= fitting (Some kind.Int)) >>= (λ x. Gives (0, put (codes "s") x [])))

sum_child : runs.child (unasked (totalled both_given).tree) ≡ as_child summed_as
sum_child = leaf_child (codes "total") (calculated total both_given) [] ∙ ap as_child sum_so

-- with the sum bound to them
abbrev with_sum : Child → Child → Child → Env
with_sum a b c = record {
  inputs = (env_of (chain_inputs 2 3)).inputs;
  ctx = (codes "a", item.One a) ∷ ((codes "b", item.One b) ∷ ((codes "t", item.One c) ∷ []));
}

sum_there : (a b : Child) → its_sum (with_sum a b (as_child summed_as)) ≡ Gives (value.Int (pos 13))
unfolding out-Value denote.Hole.Carrier.out
sum_there a b =
    let env : Env = with_sum a b (as_child summed_as) in
    output_from (codes "t") (codes "s") env _
    (form_made (path (codes "t") (codes "s")) (opened (codes "t") (codes "s")) env (form.rolls-Child 0 (word (codes "t")) None (asked.Outputs (word (codes "s"))))) refl

-- ---- what it costs

module _ (alive : LivesOn (λ path. None)) where
  abbrev both : Progress
  both = with_both (λ path. None) alive 2 3 (omega arith) (omega arith)

  abbrev then_total : Progress
  then_total = with_call (sums both_given) (next_label (sums both_given) both) (unasked (totalled both_given).tree) both

  abbrev tolls_of_pair : Tolls
  tolls_of_pair = g (λ path. None) alive

  last_so : cost tolls_of_pair 2 (instr.Step last ∷ []) then_total ≡ Some 2
  last_so =
      step_costs (λ path. None) alive 1 last [] then_total
      ∙ ap (λ (o : Outcome Value). more 1 (step_cost tolls_of_pair (statements.or_stops o then_total.env then_total.outputs
      (λ v. Makes [] then_total.env (put (codes "s") v then_total.outputs))) (cost tolls_of_pair 1) 1 [] then_total))
      (ap (λ c. its_sum (with_sum (runs.child (unasked (squared 2).tree)) (runs.child (unasked (squared 3).tree)) c)) sum_child
      ∙ sum_there (runs.child (unasked (squared 2).tree)) (runs.child (unasked (squared 3).tree)))

  second_so : cost tolls_of_pair 3 (instr.Step second ∷ (instr.Step last ∷ [])) both ≡ Some 5
  second_so =
      step_costs (λ path. None) alive 2 second (instr.Step last ∷ []) both
      ∙ ap (λ o. after_second (λ path. None) alive (summed o) both) ((λ i. summands (with_children (four_child i) (nine_child i))) ∙ given_so)
      ∙ ap (λ (b : Bool). after_second (λ path. None) alive (if b then Gives (sums both_given) else Faults BadInput) both) taken_so
      ∙ ap (λ o. more 1 (option_and_then (λ (r : ℕ × Progress). more (1 + r.0) (cost tolls_of_pair 2 (instr.Step last ∷ []) r.1)) o)) (total_billed (λ path. None) alive both_given both)
      ∙ ap (λ o. more 1 (more 2 o)) last_so

  all_so : cost tolls_of_pair 4 steps (begun (λ path. None) alive 2 3 (omega arith) (omega arith)) ≡ Some 17
  all_so =
      let e = begun (λ path. None) alive 2 3 (omega arith) (omega arith) in
      step_costs (λ path. None) alive 3 first (instr.Step second ∷ (instr.Step last ∷ [])) e
      ∙ ap (λ s. more 1 (step_cost tolls_of_pair s (cost tolls_of_pair 3) 3 (instr.Step second ∷ (instr.Step last ∷ [])) e)) (first_plans 2 3)
      ∙ ap (λ o. more 1 (option_and_then (λ (r : ℕ × Progress). more (1 + r.0) (cost tolls_of_pair 3 (instr.Step second ∷ (instr.Step last ∷ [])) r.1)) o))
      (both_billed (λ path. None) alive 2 3 (omega arith) (omega arith))
      ∙ ap (λ o. more 1 (more 11 o)) second_so

none_killed : LivesOn (λ path. None)
none_killed = record { chain = refl; called = λ label. refl }

pub pair_costs_so : PairCosts
pair_costs_so = (4, ap (λ is. cost (tolls_of_pair none_killed) 4 is (begun (λ path. None) none_killed 2 3 (omega arith) (omega arith))) pair_instrs ∙ all_so none_killed)
