-- What the steps of the chain come to.
use Rattle.std.proofs.Common.{◌≡◌, ◌∙◌, ap, refl, ℕ, suc, ◌+◌, ◌<◌, Bool, true, false, List, [], ◌∷◌, ◌++◌, length, Option, Some, None, pos, arith}
use Rattle.std.proofs.lemmas.Bool.Decides.{nat_tests}
use Rattle.std.specs.Int.{w32, saturate_unsigned}
use Rattle.std.specs.Prelude.{codes, nat_lt, ◌^◌, if◌then◌else◌}
use Rattle.wc_value.specs.declared.process.ProcessState.TheVariants.{Finished, Excepted, Killed}
use Rattle.wc_value.specs.declared.process.Reason.{Reason}
use Rattle.wc_value.specs.declared.process.Reason.TheVariants.{Depth, BadInput, Overflow}
use Rattle.wc_value.specs.declared.process.Request.{Request}
use Rattle.wc_value.specs.declared.value.Kind.{Kind}
use Rattle.wc_value.specs.declared.value.Value.{Value, out-Value}
use Rattle.wc_value.specs.declared.value.Value.TheVariants as value
use Rattle.wc_syntax.specs.declared.expression.BinaryOp.TheVariants as binary
use Rattle.wc_syntax.specs.declared.expression.Expr.{Expr}
use Rattle.wc_syntax.specs.declared.outline.CallStmt.{CallStmt}
use Rattle.wc_syntax.specs.declared.outline.Stmt.{Stmt}
use Rattle.wc_syntax.specs.declared.outline.Stmt.TheVariants as stmt
use Rattle.wc_state.specs.declared.environment.Env.{Env}
use Rattle.wc_state.specs.declared.environment.Item.TheVariants.{Plain}
use Rattle.wc_expression.specs.declared.outcome.Outcome.{Outcome}
use Rattle.wc_expression.specs.declared.outcome.Outcome.TheVariants.{Gives, Faults}
use Rattle.wc_expression.specs.Outcomes.{◌>>=◌, mapped}
use Rattle.wc_expression.specs.Val.{val}
use Rattle.wc_semantics.specs.Rules.{Values}
use Rattle.wc_semantics.specs.declared.progress.Answer.{Answer}
use Rattle.wc_semantics.specs.declared.progress.Answer.TheVariants.{Gave, Without}
use Rattle.wc_semantics.specs.declared.progress.Flow.{Flow}
use Rattle.wc_semantics.specs.declared.progress.Flow.TheVariants.{Goes, Ends, Lacks}
use Rattle.wc_semantics.specs.declared.progress.Planned.{Planned}
use Rattle.wc_semantics.specs.declared.progress.Progress.{Progress}
use Rattle.wc_semantics.specs.declared.progress.Replayed.{Replayed}
use Rattle.wc_semantics.specs.declared.progress.Stepped.{Stepped}
use Rattle.wc_semantics.specs.declared.progress.Stepped.TheVariants.{Stops, Makes}
use Rattle.wc_semantics.specs.Run.{Around, ◌>->◌, after, is_stop, next_label, step_of, stopped, taken, with_call}
use Rattle.wc_semantics.specs.Statements.{arguments, collected, exits, or_stops, planned, statements, with_key}
use Rattle.wc_restart.specs.Pieces.{numeral, plain, truth, negated, joined, set, exit}
use Rattle.wc_restart.specs.Statements.{setting, counting, mending, failing, closing}
use Rattle.wc_attempts.proofs.Conditions.{Says, says_holds, HasFlag, HasNumber, flag_says, not_says, number_is}
use Rattle.wc_attempts.proofs.Values.{int_allowed, number_gives, binary_gives, truth_gives}

-- ---- statements

abbrev pub flagged : List ℕ → Bool → Env → Env
flagged key b = with_key key (Plain (value.Bool b))

abbrev pub numbered : List ℕ → ℕ → Env → Env
numbered key n = with_key key (Plain (value.Int (pos n)))

-- progress with another environment
abbrev pub within : Progress → Env → Progress
within e env = record { env = env; outputs = e.outputs; calls = e.calls }

module _ (deep : Bool) (takes : List ℕ → Values → Bool) (kinds : List ℕ → Option Kind) where
  set_goes : (key : List ℕ) (x : Expr) (v : Value) (ss : List Stmt) (ps : List Planned) (env : Env) (outs : Values) → val x env ≡ Gives v
      → statements deep takes kinds (set key x ∷ ss) ps env outs ≡ statements deep takes kinds ss ps (with_key key (Plain v) env) outs
  set_goes key x v ss ps env outs h = ap (λ o. or_stops o env outs (λ v. statements deep takes kinds ss ps (with_key key (Plain v) env) outs)) h

  -- of a status below 2^32
  exit_goes : (n : ℕ) (x : Expr) (b : Bool) (ss : List Stmt) (ps : List Planned) (env : Env) (outs : Values) → saturate_unsigned w32 (pos n) ≡ n → Says env x b
      → statements deep takes kinds (exit n (Some x) ∷ ss) ps env outs ≡ (if b then exits n ps env outs else statements deep takes kinds ss ps env outs)
  exit_goes n x b ss ps env outs small h =
      ap (λ o. or_stops o env outs (λ b. if b then exits (saturate_unsigned w32 (pos n)) ps env outs else statements deep takes kinds ss ps env outs)) (says_holds env x b h)
      ∙ ap (λ m. if b then exits m ps env outs else statements deep takes kinds ss ps env outs) small

  setting_goes : (env : Env) (outs : Values) → statements deep takes kinds setting [] env outs
      ≡ Makes [] (flagged (codes "done") false (flagged (codes "fresh") true (flagged (codes "bad") false (numbered (codes "n") 0 env)))) outs
  setting_goes env outs =
      let env1 : Env = numbered (codes "n") 0 env in
      let env2 : Env = flagged (codes "bad") false env1 in
      let env3 : Env = flagged (codes "fresh") true env2 in
      let tail3 : List Stmt = set (codes "done") (truth false) ∷ [] in
      let tail2 : List Stmt = set (codes "fresh") (truth true) ∷ tail3 in
      let tail1 : List Stmt = set (codes "bad") (truth false) ∷ tail2 in
      set_goes (codes "n") (numeral 0) (value.Int (pos 0)) tail1 [] env outs (number_gives env 0 (int_allowed (pos 0) refl))
      ∙ set_goes (codes "bad") (truth false) (value.Bool false) tail2 [] env1 outs (truth_gives env1 false)
      ∙ set_goes (codes "fresh") (truth true) (value.Bool true) tail3 [] env2 outs (truth_gives env2 true)
      ∙ set_goes (codes "done") (truth false) (value.Bool false) [] [] env3 outs (truth_gives env3 false)

  mending_goes : (env : Env) (outs : Values) → statements deep takes kinds mending [] env outs
      ≡ Makes [] (flagged (codes "bad") false (flagged (codes "fresh") false env)) outs
  mending_goes env outs =
      let env1 : Env = flagged (codes "fresh") false env in
      set_goes (codes "fresh") (truth false) (value.Bool false) (set (codes "bad") (truth false) ∷ []) [] env outs (truth_gives env false)
      ∙ set_goes (codes "bad") (truth false) (value.Bool false) [] [] env1 outs (truth_gives env1 false)

  small_sum : (n : ℕ) → n < 1000 → nat_lt (n + 1) (2 ^ 63) ≡ true
  small_sum n h = grind (arith, nat_tests)

  counted_is : (env : Env) (n : ℕ) → n < 1000 → HasNumber env (codes "n") n → val (joined binary.Add (plain (codes "n")) (numeral 1)) env ≡ Gives (value.Int (pos (n + 1)))
  unfolding out-Value denote.Hole.Carrier.out
  counted_is env n small h =
      binary_gives env binary.Add (plain (codes "n")) (numeral 1) (value.Int (pos n)) (value.Int (pos 1)) (value.Int (pos (n + 1))) (number_is env (codes "n") n h) refl
      (number_gives env 1 (int_allowed (pos 1) refl)) (ap (λ (b : Bool). mapped value.Int (if b then Gives (pos (n + 1)) else Faults Overflow)) (small_sum n small))
      (int_allowed (pos (n + 1)) refl)

  counting_goes : (env : Env) (outs : Values) (n : ℕ) → n < 1000 → HasNumber env (codes "n") n
      → statements deep takes kinds counting [] env outs ≡ Makes [] (numbered (codes "n") (n + 1) env) outs
  counting_goes env outs n small h = set_goes (codes "n") (joined binary.Add (plain (codes "n")) (numeral 1)) (value.Int (pos (n + 1))) [] [] env outs (counted_is env n small h)

  failing_ends : (env : Env) (outs : Values) → HasFlag env (codes "bad") true → statements deep takes kinds failing [] env outs ≡ Stops (Finished 402) env outs
  failing_ends env outs h = exit_goes 402 (plain (codes "bad")) true (set (codes "bad") (truth true) ∷ []) [] env outs refl (flag_says env (codes "bad") true h)

  failing_goes : (env : Env) (outs : Values) → HasFlag env (codes "bad") false → statements deep takes kinds failing [] env outs ≡ Makes [] (flagged (codes "bad") true env) outs
  failing_goes env outs h =
      exit_goes 402 (plain (codes "bad")) false (set (codes "bad") (truth true) ∷ []) [] env outs refl (flag_says env (codes "bad") false h)
      ∙ set_goes (codes "bad") (truth true) (value.Bool true) [] [] env outs (truth_gives env true)

  closing_ends : (env : Env) (outs : Values) → HasFlag env (codes "done") false → statements deep takes kinds closing [] env outs ≡ Stops (Finished 401) env outs
  closing_ends env outs h = exit_goes 401 (negated (plain (codes "done"))) true [] [] env outs refl (not_says env (codes "done") false h)

  closing_goes : (env : Env) (outs : Values) → HasFlag env (codes "done") true → statements deep takes kinds closing [] env outs ≡ Makes [] env outs
  closing_goes env outs h = exit_goes 401 (negated (plain (codes "done"))) false [] [] env outs refl (not_says env (codes "done") true h)

-- ---- steps

module _ (a : Around) where
  -- a step without calls
  pub made_goes : (ss : List Stmt) (n : ℕ) (e : Progress) (env : Env) (outs : Values) → statements a.deep a.takes a.kinds ss [] e.env e.outputs ≡ Makes [] env outs
      → step_of ss a n e ≡ Goes n (record { env = env; outputs = outs; calls = e.calls })
  made_goes ss n e env outs h = ap (λ (s : Stepped). after s a n e) h

  made_ends : (ss : List Stmt) (n : ℕ) (e : Progress) (s : ℕ) (env : Env) (outs : Values) → statements a.deep a.takes a.kinds ss [] e.env e.outputs ≡ Stops (Finished s) env outs
      → step_of ss a n e ≡ Ends (Finished s) n (record { env = env; outputs = outs; calls = e.calls })
  made_ends ss n e s env outs h = ap (λ (t : Stepped). after t a n e) h

  pub setting_step : (n : ℕ) (e : Progress)
      → step_of setting a n e ≡ Goes n (within e (flagged (codes "done") false (flagged (codes "fresh") true (flagged (codes "bad") false (numbered (codes "n") 0 e.env)))))
  setting_step n e = made_goes setting n e _ e.outputs (setting_goes a.deep a.takes a.kinds e.env e.outputs)

  pub counting_step : (n : ℕ) (e : Progress) (k : ℕ) → k < 1000 → HasNumber e.env (codes "n") k → step_of counting a n e ≡ Goes n (within e (numbered (codes "n") (k + 1) e.env))
  counting_step n e k small h = made_goes counting n e _ e.outputs (counting_goes a.deep a.takes a.kinds e.env e.outputs k small h)

  pub mending_step : (n : ℕ) (e : Progress) → step_of mending a n e ≡ Goes n (within e (flagged (codes "bad") false (flagged (codes "fresh") false e.env)))
  mending_step n e = made_goes mending n e _ e.outputs (mending_goes a.deep a.takes a.kinds e.env e.outputs)

  pub failing_step_ends : (n : ℕ) (e : Progress) → HasFlag e.env (codes "bad") true → step_of failing a n e ≡ Ends (Finished 402) n e
  failing_step_ends n e h = made_ends failing n e 402 e.env e.outputs (failing_ends a.deep a.takes a.kinds e.env e.outputs h)

  pub failing_step_goes : (n : ℕ) (e : Progress) → HasFlag e.env (codes "bad") false → step_of failing a n e ≡ Goes n (within e (flagged (codes "bad") true e.env))
  failing_step_goes n e h = made_goes failing n e _ e.outputs (failing_goes a.deep a.takes a.kinds e.env e.outputs h)

  pub closing_step_ends : (n : ℕ) (e : Progress) → HasFlag e.env (codes "done") false → step_of closing a n e ≡ Ends (Finished 401) n e
  closing_step_ends n e h = made_ends closing n e 401 e.env e.outputs (closing_ends a.deep a.takes a.kinds e.env e.outputs h)

  pub closing_step_goes : (n : ℕ) (e : Progress) → HasFlag e.env (codes "done") true → step_of closing a n e ≡ Goes n e
  closing_step_goes n e h = made_goes closing n e e.env e.outputs (closing_goes a.deep a.takes a.kinds e.env e.outputs h)

  -- ---- one call

  abbrev of_call : CallStmt → ℕ → Progress → Outcome Planned → Flow
  of_call c n e o = after (or_stops o e.env e.outputs (λ p. statements a.deep a.takes a.kinds [] ([] ++ p ∷ []) e.env e.outputs)) a n e

  collected_by : (c : CallStmt) (env : Env) (o : Outcome Values) → a.deep ≡ false → arguments c.args env [] ≡ o
      → collected a.deep a.takes c env ≡ (o >>= (λ vs. if a.takes c.callee.text vs then Gives (planned c vs) else Faults BadInput))
  collected_by c env o shallow p =
      ap (λ (d : Bool). if d then Faults Depth else (arguments c.args env [] >>= (λ vs. if a.takes c.callee.text vs then Gives (planned c vs) else Faults BadInput))) shallow
      ∙ ap (λ o. o >>= (λ vs. if a.takes c.callee.text vs then Gives (planned c vs) else Faults BadInput)) p

  -- arguments that aren't there end the chain
  pub call_faults : (c : CallStmt) (n : ℕ) (e : Progress) (r : Reason) → a.deep ≡ false → arguments c.args e.env [] ≡ Faults r → step_of (stmt.Call c ∷ []) a n e ≡ Ends (Excepted r) n e
  call_faults c n e r shallow p = ap (of_call c n e) (collected_by c e.env (Faults r) shallow p)

  abbrev by_answer : Planned → Progress → Answer → Flow
  by_answer p e x = taken x (λ t left. Goes left (with_call p (next_label p e) t e)) >-> stopped a

  -- a call that is made
  call_made : (c : CallStmt) (m : ℕ) (e : Progress) (vs : Values) (x : Answer) → a.deep ≡ false → arguments c.args e.env [] ≡ Gives vs → a.takes c.callee.text vs ≡ true
      → a.call (next_label (planned c vs) e) m c.callee.text vs ≡ x → step_of (stmt.Call c ∷ []) a (suc m) e ≡ by_answer (planned c vs) e x
  call_made c m e vs x shallow p q h =
      ap (of_call c (suc m) e) (collected_by c e.env (Gives vs) shallow p ∙ ap (λ (b : Bool). if b then Gives (planned c vs) else Faults BadInput) q)
      ∙ ap (by_answer (planned c vs) e) h

  pub call_goes : (c : CallStmt) (m left : ℕ) (e : Progress) (vs : Values) (t : Replayed) → a.deep ≡ false → a.stop ≡ None → arguments c.args e.env [] ≡ Gives vs → a.takes c.callee.text vs ≡ true
      → a.call (next_label (planned c vs) e) m c.callee.text vs ≡ Gave t left
      → step_of (stmt.Call c ∷ []) a (suc m) e ≡ Goes left (with_call (planned c vs) (next_label (planned c vs) e) t e)
  call_goes c m left e vs t shallow alive p q h =
      let f : Progress = with_call (planned c vs) (next_label (planned c vs) e) t e in
      call_made c m e vs (Gave t left) shallow p q h
      ∙ ap (λ s. if is_stop s (length f.calls) then Ends Killed left f else Goes left f) alive

  pub call_lacks : (c : CallStmt) (m : ℕ) (e : Progress) (vs : Values) (r : Request) → a.deep ≡ false → arguments c.args e.env [] ≡ Gives vs → a.takes c.callee.text vs ≡ true
      → a.call (next_label (planned c vs) e) m c.callee.text vs ≡ Without r → step_of (stmt.Call c ∷ []) a (suc m) e ≡ Lacks r
  call_lacks c m e vs r shallow p q h = call_made c m e vs (Without r) shallow p q h
