-- A file can say the chain: its names are names, and its numbers those of a file.
use Rattle.std.proofs.Common.{◌≡◌, ◌∙◌, ap, sym, refl, subst, ℕ, ◌≤◌, ◌^◌, Bool, true, false, if◌then◌else◌, List, [], ◌∷◌, map, Option, Some, None, arith}
use Rattle.std.proofs.lemmas.Bool.{and_parts, lt-ltb, le-leb}
use Rattle.std.proofs.lemmas.List.Folds.{list_all-append}
use Rattle.std.specs.Prelude.{codes, ◌&&◌, nat_le, length, is_none}
use Rattle.std.specs.List.{AllByRecursion, list_all}
use Rattle.wc_lexer.specs.Cuts.{is_letters}
use Rattle.wc_lexer.specs.Spellings.{word_of}
use Rattle.wc_lexer.specs.declared.token.Word.{Word}
use Rattle.wc_handlers.specs.Names as handlers
use Rattle.wc_handlers.specs.Specs.{IsRemedy, IsHandler, IsSpec}
use Rattle.wc_handlers.specs.declared.spec.Handler.{Handler}
use Rattle.wc_handlers.specs.declared.spec.Remedy.{Remedy}
use Rattle.wc_handlers.specs.declared.spec.Remedy.TheVariants as remedy
use Rattle.wc_handlers.specs.declared.spec.Spec.{Spec}
use Rattle.wc_syntax.specs.Findings.{head_of, definition_named}
use Rattle.wc_syntax.specs.Writable.{is_free, is_name, is_number, is_form, its_form, is_expr, is_stmt, is_step, is_arg, is_instr, is_arm, is_level, is_block, is_head, is_body, is_rule, is_definition, is_sayable}
use Rattle.wc_syntax.specs.declared.definition.Definition.{Definition}
use Rattle.wc_syntax.specs.declared.definition.Definition.TheVariants as definition
use Rattle.wc_syntax.specs.declared.definition.Head.{Head}
use Rattle.wc_syntax.specs.declared.definition.Port.{Port}
use Rattle.wc_syntax.specs.declared.expression.BinaryOp.{BinaryOp}
use Rattle.wc_syntax.specs.declared.expression.BinaryOp.TheVariants as binary
use Rattle.wc_syntax.specs.declared.expression.ChildPart.TheVariants as asked
use Rattle.wc_syntax.specs.declared.expression.Expr.{Expr}
use Rattle.wc_syntax.specs.declared.outline.Stmt.{Stmt}
use Rattle.wc_restart.specs.Chains.{aborted, aborts, by_priority, chain_of, expanded}
use Rattle.wc_restart.specs.Pieces.{word, number, numeral, truth, input, plain, child, output_of, negated, joined, set, given, call_with}
use Rattle.wc_restart.specs.Ports.{is_required, port_of, required, inputs_in, outputs_in, inputs_of, asked_of, given_of}
use Rattle.wc_restart.specs.Sources.{of_fix}
use Rattle.wc_restart.specs.Statements.{goes_on, has_succeeded, has_status, or_one_of, is_one_of, setting, counting, passing, ending, mending, failing, closing}
use Rattle.wc_restart.proofs.Folded.{numeral_folded, truth_folded, input_folded, plain_folded, child_folded, negated_folded, joined_folded}
use Rattle.wc_restart.proofs.Outlined.{outline_folded, remedy_made, handler_made}
use Rattle.wc_expansion.proofs.Known.{Known, KnownRemedy, KnownFunction}
use Rattle.wc_expansion.proofs.Lists.{all_more, all_both, passed}
use Rattle.wc_expansion.proofs.Sorted.{sorted_all, found_all}
use Rattle.wc_expansion.proofs.Statuses.{IsAbort, aborts_kept}

abbrev pub IsName : List ℕ → Type 0
IsName name = is_name (word name) ≡ true

-- ---- names and numbers

free_word : (o : Option Word) → is_none o ≡ true → is_free o ≡ true
free_word None h = refl
free_word (Some w) h = absurd (cc)

-- a name of a spec is one of a file
pub spec_name : (name : List ℕ) → handlers.is_name name ≡ true → IsName name
spec_name name h =
    let p = and_parts (nat_le (length name) 64) (is_letters name && is_none (word_of name)) h in
    let q = and_parts (is_letters name) (is_none (word_of name)) p.1 in
    λ i. q.0 i && free_word (word_of name) q.1 i

is_small : (n : ℕ) → n ≤ 9999 → is_number (number n) ≡ true
is_small n h = λ i. le-leb 0 n (omega arith) i && lt-ltb n (2 ^ 63) (omega arith) i

-- the names that the chain has of its own
own_n : IsName (codes "n")
unfolding word_of
own_n = refl

own_bad : IsName (codes "bad")
unfolding word_of
own_bad = refl

own_fresh : IsName (codes "fresh")
unfolding word_of
own_fresh = refl

own_done : IsName (codes "done")
unfolding word_of
own_done = refl

own_job : IsName (codes "job")
unfolding word_of
own_job = refl

own_fix : IsName (codes "fix")
unfolding word_of
own_fix = refl

own_setup : IsName (codes "setup")
unfolding word_of
own_setup = refl

own_start : IsName (codes "start")
unfolding word_of
own_start = refl

own_again : IsName (codes "again")
unfolding word_of
own_again = refl

own_counted : IsName (codes "counted")
unfolding word_of
own_counted = refl

own_good : IsName (codes "good")
unfolding word_of
own_good = refl

own_mend : IsName (codes "mend")
unfolding word_of
own_mend = refl

own_remend : IsName (codes "remend")
unfolding word_of
own_remend = refl

own_mended : IsName (codes "mended")
unfolding word_of
own_mended = refl

own_stop : IsName (codes "stop")
unfolding word_of
own_stop = refl

own_unhandled : IsName (codes "unhandled")
unfolding word_of
own_unhandled = refl

own_finish : IsName (codes "finish")
unfolding word_of
own_finish = refl

-- ---- expressions

say_numeral : (n : ℕ) → n ≤ 9999 → is_expr (numeral n) ≡ true
say_numeral n h = numeral_folded is_form its_form n ∙ is_small n h

say_truth : (b : Bool) → is_expr (truth b) ≡ true
say_truth b = truth_folded is_form its_form b

say_plain : (key : List ℕ) → IsName key → is_expr (plain key) ≡ true
say_plain key h = plain_folded is_form its_form key ∙ h

say_input : (name : List ℕ) → IsName name → is_expr (input name) ≡ true
say_input name h = input_folded is_form its_form name ∙ h

say_output : (key name : List ℕ) → IsName key → IsName name → is_expr (output_of key name) ≡ true
say_output key name h k = child_folded is_form its_form key (asked.Outputs (word name)) ∙ (λ i. h i && k i)

say_negated : (e : Expr) → is_expr e ≡ true → is_expr (negated e) ≡ true
say_negated e h = negated_folded is_form its_form e ∙ h

say_joined : (o : BinaryOp) (d e : Expr) → is_expr d ≡ true → is_expr e ≡ true → is_expr (joined o d e) ≡ true
say_joined o d e h k = joined_folded is_form its_form o d e ∙ (λ i. h i && k i)

say_goes_on : (most : ℕ) → most ≤ 5 → is_expr (goes_on most) ≡ true
say_goes_on most h =
    say_joined binary.And (negated (plain (codes "done"))) (joined binary.Less (plain (codes "n")) (numeral most)) (say_negated (plain (codes "done")) (say_plain (codes "done") own_done))
    (say_joined binary.Less (plain (codes "n")) (numeral most) (say_plain (codes "n") own_n) (say_numeral most (omega arith)))

say_succeeded : is_expr has_succeeded ≡ true
say_succeeded = child_folded is_form its_form (codes "job") asked.Ok ∙ (λ i. own_job i && true)

say_status : (n : ℕ) → n ≤ 9999 → is_expr (has_status n) ≡ true
say_status n h = say_joined binary.Equal (child (codes "job") asked.Status) (numeral n) (child_folded is_form its_form (codes "job") asked.Status ∙ (λ i. own_job i && true)) (say_numeral n h)

say_or : (e : Expr) (ns : List ℕ) → is_expr e ≡ true → AllByRecursion (λ n. (1 ≤ n) × (n ≤ 9999)) ns → is_expr (or_one_of e ns) ≡ true
say_or e [] h a = h
say_or e (n ∷ ns) h a = say_or (joined binary.Or e (has_status n)) ns (say_joined binary.Or e (has_status n) h (say_status n a.0.1)) a.1

say_one_of : (ns : List ℕ) → AllByRecursion (λ n. (1 ≤ n) × (n ≤ 9999)) ns → is_expr (is_one_of ns) ≡ true
say_one_of [] a = say_truth false
say_one_of (n ∷ ns) a = say_or (has_status n) ns (say_status n a.0.1) a.1

-- ---- statements

say_set : (key : List ℕ) (e : Expr) → IsName key → is_expr e ≡ true → is_stmt (set key e) ≡ true
say_set key e h k = λ i. h i && k i

say_setting : list_all is_stmt setting ≡ true
say_setting = λ i.
    say_set (codes "n") (numeral 0) own_n (say_numeral 0 (omega arith)) i
    && (say_set (codes "bad") (truth false) own_bad (say_truth false) i
    && (say_set (codes "fresh") (truth true) own_fresh (say_truth true) i && (say_set (codes "done") (truth false) own_done (say_truth false) i && true)))

say_counting : list_all is_stmt counting ≡ true
say_counting = λ i.
    say_set (codes "n") (joined binary.Add (plain (codes "n")) (numeral 1)) own_n
    (say_joined binary.Add (plain (codes "n")) (numeral 1) (say_plain (codes "n") own_n) (say_numeral 1 (omega arith))) i && true

say_passing : (ps : List Port) → AllByRecursion (λ p. IsName p.name.text) ps → list_all is_stmt (passing ps) ≡ true
say_passing [] a = λ i. say_set (codes "done") (truth true) own_done (say_truth true) i && true
say_passing (p ∷ ps) a = λ i. (a.0 i && say_output (codes "job") p.name.text own_job a.0 i) && say_passing ps a.1 i

say_ending : (n : ℕ) → n ≤ 9999 → list_all is_stmt (ending n) ≡ true
say_ending n h = λ i. (is_small n h i && true) && true

say_mending : list_all is_stmt mending ≡ true
say_mending = λ i. say_set (codes "fresh") (truth false) own_fresh (say_truth false) i && (say_set (codes "bad") (truth false) own_bad (say_truth false) i && true)

say_failing : list_all is_stmt failing ≡ true
say_failing = λ i. say_plain (codes "bad") own_bad i && (say_set (codes "bad") (truth true) own_bad (say_truth true) i && true)

say_closing : list_all is_stmt closing ≡ true
say_closing = λ i. say_negated (plain (codes "done")) (say_plain (codes "done") own_done) i && true

say_args : (source : List ℕ → Expr) → ((x : List ℕ) → IsName x → is_expr (source x) ≡ true) → (ps : List Port) → AllByRecursion (λ p. IsName p.name.text) ps
    → list_all is_arg (map (given source) ps) ≡ true
say_args source h [] a = refl
say_args source h (p ∷ ps) a = λ i. (a.0 i && h p.name.text a.0 i) && say_args source h ps a.1 i

say_call : (callee : List ℕ) (source : List ℕ → Expr) (ps : List Port) (key : List ℕ) → ((x : List ℕ) → IsName x → is_expr (source x) ≡ true) → IsName callee
    → AllByRecursion (λ p. IsName p.name.text) ps → IsName key → list_all is_stmt (call_with callee source ps key ∷ []) ≡ true
say_call callee source ps key h c a k = λ i. (c i && (say_args source h ps a i && k i)) && true

-- ---- instructions

say_step : (name : List ℕ) (stmts : List Stmt) → IsName name → list_all is_stmt stmts ≡ true → is_step (record { at = 0; name = word name; stmts = stmts }) ≡ true
say_step name stmts h k = λ i. h i && k i

abbrev steps_of : List ℕ → List Stmt → Bool
steps_of name stmts = is_step (record { at = 0; name = word name; stmts = stmts }) && true

say_steps : (name : List ℕ) (stmts : List Stmt) → IsName name → list_all is_stmt stmts ≡ true → steps_of name stmts ≡ true
say_steps name stmts h k = λ i. say_step name stmts h k i && true

abbrev calls : (one two callee key : List ℕ) → List Port → Bool
calls one two callee key ports =
    ((is_expr (plain (codes "fresh")) && steps_of one (call_with callee input ports key ∷ [])) && true) && steps_of two (call_with callee of_fix ports key ∷ [])

say_calls : (one two callee key : List ℕ) (ports : List Port) → IsName one → IsName two → IsName callee → IsName key → AllByRecursion (λ p. IsName p.name.text) ports
    → calls one two callee key ports ≡ true
say_calls one two callee key ports h k c l a = λ i.
    ((say_plain (codes "fresh") own_fresh i && say_steps one (call_with callee input ports key ∷ []) h (say_call callee input ports key say_input c a l) i) && true)
    && say_steps two (call_with callee of_fix ports key ∷ []) k (say_call callee of_fix ports key (λ x n. say_output (codes "fix") x own_fix n) c a l) i

-- what is said of a remedy
abbrev Says : List Definition → Remedy → Type 0
Says library (remedy.Abort status) = status ≤ 9999
Says library (remedy.Call name) = IsName name × AllByRecursion (λ p. IsName p.name.text) (inputs_of name library)

say_remedy : (library : List Definition) (r : Remedy) → Says library r → list_all (λ b. b) (remedy_made is_instr is_arm is_level library r) ≡ true
say_remedy library (remedy.Abort status) h = λ i. say_step (codes "stop") (ending status) own_stop (say_ending status h) i && true
say_remedy library (remedy.Call name) h = λ i.
    say_calls (codes "mend") (codes "remend") name (codes "fix") (inputs_of name library) own_mend own_remend h.0 own_fix h.1 i
    && (say_step (codes "mended") mending own_mended say_mending i && true)

say_handlers : (library : List Definition) (hs : List Handler) → AllByRecursion (λ h. IsHandler h × Says library h.remedy) hs
    → list_all (λ b. b) (map (handler_made is_instr is_arm is_level library) hs) ≡ true
say_handlers library [] a = refl
say_handlers library (h ∷ hs) a = let x : IsHandler h = a.0.0 in λ i. (say_one_of h.statuses x.statuses i && say_remedy library h.remedy a.0.1 i) && say_handlers library hs a.1 i

say_outline : (library : List Definition) (s : Spec) → s.most ≤ 5 → IsName s.job → AllByRecursion (λ p. IsName p.name.text) (asked_of s.job library)
    → AllByRecursion (λ p. IsName p.name.text) (given_of s.job library) → AllByRecursion (λ h. IsHandler h × Says library h.remedy) (by_priority s.handlers)
    → is_block (chain_of library s).outline ≡ true
say_outline library s m j a g hs =
    outline_folded is_instr is_arm is_level library s
    ∙ λ i.
    say_step (codes "setup") setting own_setup say_setting i
    && ((say_goes_on s.most m i
    && (say_calls (codes "start") (codes "again") s.job (codes "job") (asked_of s.job library) own_start own_again j own_job a i
    && (say_step (codes "counted") counting own_counted say_counting i
    && ((((say_succeeded i && say_steps (codes "good") (passing (given_of s.job library)) own_good (say_passing (given_of s.job library) g) i)
    && say_handlers library (by_priority s.handlers) hs i)
    && say_steps (codes "unhandled") failing own_unhandled say_failing i) && true))))
    && (say_step (codes "finish") closing own_finish say_closing i && true))

-- ---- the definition

heads_said : (d : Definition) → is_definition d ≡ true → is_head (head_of d) ≡ true
heads_said (definition.Function f) h = (and_parts (is_head f.head) (list_all is_rule f.rules) h).0
heads_said (definition.Job j) h = (and_parts (is_head j.head) (is_body j) h).0
heads_said (definition.Chain c) h = (and_parts (is_head c.head) (is_block c.outline) h).0

pub record PortsSaid (h : Head) : Type 0 where
  pub inputs : AllByRecursion (λ p. is_name p.name ≡ true) h.inputs
  pub outputs : AllByRecursion (λ p. is_name p.name ≡ true) h.outputs

ports_said : (h : Head) → is_head h ≡ true → PortsSaid h
ports_said h e =
    let a = and_parts (is_name h.name) (list_all (λ p. is_name p.name) h.inputs && (list_all (λ p. is_name p.name) h.outputs && list_all (λ c. is_number c.status) h.codes)) e in
    let b = and_parts (list_all (λ p. is_name p.name) h.inputs) (list_all (λ p. is_name p.name) h.outputs && list_all (λ c. is_number c.status) h.codes) a.1 in
    let c = and_parts (list_all (λ p. is_name p.name) h.outputs) (list_all (λ c. is_number c.status) h.codes) b.1 in
    record { inputs = passed (λ p. is_name p.name) h.inputs b.0; outputs = passed (λ p. is_name p.name) h.outputs c.0 }

-- of a definition of the library
pub said_of : (library : List Definition) (name : List ℕ) (d : Definition) → is_sayable library ≡ true → definition_named name library ≡ Some d → PortsSaid (head_of d)
said_of library name d h k = ports_said (head_of d) (heads_said d (found_all (λ x. is_definition x ≡ true) library name d (passed is_definition library h) k))

names_required : (ps : List Port) → AllByRecursion (λ p. is_name p.name ≡ true) ps → AllByRecursion (λ p. IsName p.name.text) (required ps)
names_required [] a = tt
names_required (p ∷ ps) a = by_test (is_required p) (names_required ps a.1)
  where
    by_test : (b : Bool) → AllByRecursion (λ q. IsName q.name.text) (required ps) → AllByRecursion (λ q. IsName q.name.text) (if b then port_of p ∷ required ps else required ps)
    by_test true rest = (a.0, rest)
    by_test false rest = rest

names_plain : (ps : List Port) → AllByRecursion (λ p. is_name p.name ≡ true) ps → AllByRecursion (λ p. IsName p.name.text) ps
names_plain [] a = tt
names_plain (p ∷ ps) a = (a.0, names_plain ps a.1)

says_remedy : (library : List Definition) (asked : List Port) (r : Remedy) → is_sayable library ≡ true → KnownRemedy library asked r → IsRemedy r → Says library r
says_remedy library asked (remedy.Abort status) h k i = i.1
says_remedy library asked (remedy.Call name) h k i =
    let f : KnownFunction library asked name = k in
    (spec_name name i, subst (λ (ps : List Port). AllByRecursion (λ p. IsName p.name.text) ps) (sym (ap inputs_in f.named)) (names_plain f.function.head.inputs (said_of library name (definition.Function f.function) h f.named).inputs))

say_ports : (ps : List Port) → AllByRecursion (λ p. IsName p.name.text) (required ps) → list_all (λ p. is_name p.name) (required ps) ≡ true
say_ports [] a = refl
say_ports (p ∷ ps) a = by_test (is_required p) (say_ports ps) a
  where
    by_test : (b : Bool) → (AllByRecursion (λ q. IsName q.name.text) (required ps) → list_all (λ q. is_name q.name) (required ps) ≡ true) → AllByRecursion (λ q. IsName q.name.text) (if b then port_of p ∷ required ps else required ps) → list_all (λ q. is_name q.name) (if b then port_of p ∷ required ps else required ps) ≡ true
    by_test true rest x = λ i. x.0 i && rest x.1 i
    by_test false rest x = rest x

say_codes : (ns : List ℕ) → AllByRecursion IsAbort ns → list_all (λ c. is_number c.status) (map aborted ns) ≡ true
say_codes [] a = refl
say_codes (n ∷ ns) a = λ i. is_small n a.0.1 i && say_codes ns a.1 i

pub chain_said : (library : List Definition) (s : Spec) → is_sayable library ≡ true → IsSpec s → Known library s → is_definition (definition.Chain (chain_of library s)) ≡ true
chain_said library s h i k =
    let j = said_of library s.job (definition.Job k.job) h k.named in
    let asked : AllByRecursion (λ p. IsName p.name.text) (asked_of s.job library) =
    subst (λ (ps : List Port). AllByRecursion (λ p. IsName p.name.text) (required ps)) (sym (ap inputs_in k.named)) (names_required k.job.head.inputs j.inputs) in
    let given : AllByRecursion (λ p. IsName p.name.text) (given_of s.job library) =
    subst (λ (ps : List Port). AllByRecursion (λ p. IsName p.name.text) (required ps)) (sym (ap outputs_in k.named)) (names_required k.job.head.outputs j.outputs) in
    let remedies : AllByRecursion (λ x. IsHandler x × Says library x.remedy) s.handlers =
    all_more (λ x. IsHandler x × KnownRemedy library (asked_of s.job library) x.remedy) (λ x. IsHandler x × Says library x.remedy)
    (λ x p. let y : IsHandler x = p.0 in (p.0, says_remedy library (asked_of s.job library) x.remedy h p.1 y.remedy)) s.handlers
    (all_both IsHandler (λ x. KnownRemedy library (asked_of s.job library) x.remedy) s.handlers i.handlers k.handlers) in
    let outline = say_outline library s i.few (spec_name s.job i.job) asked given (sorted_all (λ x. IsHandler x × Says library x.remedy) s.handlers remedies) in
    let name = spec_name s.name i.name in
    let ins = say_ports (inputs_of s.job library) asked in
    let outs = say_ports (outputs_in (definition_named s.job library)) given in
    let codes_said = say_codes (aborts s.handlers) (aborts_kept s.handlers i.handlers).aborts in
    λ x. (name x && (ins x && (outs x && codes_said x))) && outline x

pub expanded_said : (library : List Definition) (s : Spec) → is_sayable library ≡ true → IsSpec s → Known library s → is_sayable (expanded library s) ≡ true
expanded_said library s h i k =
    let c = chain_said library s h i k in
    list_all-append is_definition library (definition.Chain (chain_of library s) ∷ []) ∙ (λ x. h x && (c x && true))
