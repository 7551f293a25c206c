-- The chain keeps the rules of a checked library.
use Rattle.std.proofs.Common.{◌≡◌, ◌∙◌, ap, sym, refl, subst, ℕ, zero, suc, ◌+◌, ◌*◌, ◌≤◌, Bool, true, false, if◌then◌else◌, List, [], ◌∷◌, ◌++◌, map, length, length-append, Option, Some, arith}
use Rattle.std.proofs.lemmas.Bool.{and_parts}
use Rattle.std.proofs.lemmas.Grind.{flat_map-append}
use Rattle.std.proofs.lemmas.List.{length-map, map-append}
use Rattle.std.specs.Prelude.{codes, flat_map, ◌&&◌, nat_le, option_map}
use Rattle.std.specs.List.{AllByRecursion}
use Rattle.std.specs.Str.{bytes_eq}
use Rattle.wc_handlers.specs.Names as handlers
use Rattle.wc_handlers.specs.Specs.{IsRemedy, IsHandler, IsSpec}
use Rattle.wc_handlers.specs.declared.spec.Handler.{Handler}
use Rattle.wc_handlers.specs.declared.spec.Remedy.{Remedy}
use Rattle.wc_handlers.specs.declared.spec.Remedy.TheVariants as remedy
use Rattle.wc_handlers.specs.declared.spec.Spec.{Spec}
use Rattle.wc_syntax.specs.Checked.{IsCheckedDefinition, KeepsRules}
use Rattle.wc_syntax.specs.Findings.{Finding, is_among, repeats, placed, port_names, ports_placed, head_of, stmt_of, call_of, calls_of, definition_named, over, unknown_in, piece_mentions, unknown_output, stmt_output, called_ports, callee_of, missing_of, unknown_of, repeated_args, stmt_data, undeclared, piece_status, piece_places, piece_names, mentioned_names, long_name, long_names}
use Rattle.wc_syntax.specs.Mentions.{Piece, Begins, Named, Does, Tests, Returns, instr_pieces, arm_pieces, block_pieces, pieces}
use Rattle.wc_syntax.specs.declared.definition.Definition.{Definition}
use Rattle.wc_syntax.specs.declared.definition.Definition.TheVariants as definition
use Rattle.wc_syntax.specs.declared.definition.Head.{Head}
use Rattle.wc_syntax.specs.declared.definition.Port.{Port}
use Rattle.wc_syntax.specs.declared.expression.Name.{Name}
use Rattle.wc_syntax.specs.declared.outline.CallStmt.{CallStmt}
use Rattle.wc_check.proofs.Ruled.{over_within, no_more}
use Rattle.wc_restart.specs.Chains.{aborted, aborts, codes_of, by_priority, chain_of, expanded}
use Rattle.wc_restart.specs.Pieces.{word, numeral, truth, plain, negated, input}
use Rattle.wc_restart.specs.Ports.{is_required, port_of, same_kind, has_port, required, inputs_in, outputs_in, inputs_of, asked_of, given_of}
use Rattle.wc_restart.specs.Sources.{of_fix}
use Rattle.wc_restart.specs.Statements.{goes_on, passing}
use Rattle.wc_restart.proofs.Named.{found_before}
use Rattle.wc_restart.proofs.Outlined.{outline_folded, remedy_made, handler_made, outline_made}
use Rattle.wc_expansion.proofs.Fine.{FineHere, calls_in, Gives, fine_begins, fine_named, fine_tests, fine_set, fine_passed, fine_exit, fine_exit_if, fine_call}
use Rattle.wc_expansion.proofs.Known.{Known, KnownRemedy, KnownFunction}
use Rattle.wc_expansion.proofs.Lists.{none, first, second, all_more, all_both, passed, nothing, nothing_inside, gathered_few, or_left, or_right, or_either}
use Rattle.wc_expansion.proofs.Mentioned.{inside_of, Short, Sees, sees_truth, sees_numeral, sees_plain, sees_input, sees_output, sees_negated, sees_goes_on, sees_counted, sees_succeeded, sees_one_of}
use Rattle.wc_expansion.proofs.Names.{Names, Differ, met, among_self, required_within, differ_of, of_differ, differ_required}
use Rattle.wc_expansion.proofs.Names as names
use Rattle.wc_expansion.proofs.Outlines.{AllDone, Calls, Remedied, Parts, pieces_all}
use Rattle.wc_expansion.proofs.Sorted.{sorted_all, sorted_few, found_all}
use Rattle.wc_expansion.proofs.Statuses.{AbortKept, aborts_few, aborts_have, values_of, statuses_differ, statuses_in_range, declared_has, declared_own}

-- ---- ports of a checked definition

ports_differ : (ps : List Port) → repeats (ports_placed ps) ≡ [] → Differ [] (port_names ps)
ports_differ ps h = subst (Differ []) (names.names_of (λ p. placed p.name) ps) (differ_of [] (ports_placed ps) h)

none_twice : (ps : List Port) → Differ [] (port_names ps) → repeats (ports_placed ps) ≡ []
none_twice ps d = of_differ [] (ports_placed ps) (subst (Differ []) (sym (names.names_of (λ p. placed p.name) ps)) d)

shorts : (ps : List Port) → flat_map long_name (map (λ p. p.name) ps) ≡ [] → AllByRecursion (λ p. Short p.name.text) ps
shorts [] h = tt
shorts (p ∷ ps) h = (short p.name (first (long_name p.name) (flat_map long_name (map (λ q. q.name) ps)) h), shorts ps (second (long_name p.name) (flat_map long_name (map (λ q. q.name) ps)) h))
  where
    short : (n : Name) → long_name n ≡ [] → Short n.text
    short n e = names.met (nat_le (length n.text) 64) _ (names.meets (nat_le (length n.text) 64) _ e)

required_all : (P : List ℕ → Type 0) (ps : List Port) → AllByRecursion (λ p. P p.name.text) ps → AllByRecursion (λ p. P p.name.text) (required ps)
required_all P [] a = tt
required_all P (p ∷ ps) a = by_test (is_required p) (required_all P ps a.1)
  where
    by_test : (b : Bool) → AllByRecursion (λ q. P q.name.text) (required ps) → AllByRecursion (λ q. P q.name.text) (if b then port_of p ∷ required ps else required ps)
    by_test true rest = (a.0, rest)
    by_test false rest = rest

required_few : (ps : List Port) → length (required ps) ≤ length ps
required_few [] = omega arith
required_few (p ∷ ps) = by_test (is_required p) (required_few ps)
  where
    by_test : (b : Bool) → length (required ps) ≤ length ps → length (if b then port_of p ∷ required ps else required ps) ≤ suc (length ps)
    by_test true h = omega arith
    by_test false h = omega arith

over_few : (most : ℕ) (ats : List ℕ) → over most ats ≡ [] → length ats ≤ most
over_few zero [] h = omega arith
over_few zero (a ∷ ats) h = absurd (cc)
over_few (suc most) [] h = omega arith
over_few (suc most) (a ∷ ats) h = let l : length ats ≤ most = over_few most ats h in omega arith

-- what is used of a checked definition
pub record Kept (h : Head) : Type 0 where
  pub inputs_differ : Differ [] (port_names h.inputs)
  pub outputs_differ : Differ [] (port_names h.outputs)
  pub inputs_short : AllByRecursion (λ p. Short p.name.text) h.inputs
  pub outputs_short : AllByRecursion (λ p. Short p.name.text) h.outputs
  pub inputs_few : length h.inputs ≤ 32
  pub outputs_few : length h.outputs ≤ 32

kept_head : (library : List Definition) (d : Definition) → IsCheckedDefinition library d → Kept (head_of d)
kept_head library d k =
    let h = head_of d in
    let twice = k.ports_differ in
    let long : flat_map long_name (map (λ p. p.name) (h.inputs ++ h.outputs)) ≡ [] =
    first _ _ (sym (flat_map-append long_name (map (λ p. p.name) (h.inputs ++ h.outputs)) _) ∙ second (long_name h.name) _ k.names_short) in
    let split : flat_map long_name (map (λ p. p.name) h.inputs) ++ flat_map long_name (map (λ p. p.name) h.outputs) ≡ [] =
    sym (flat_map-append long_name (map (λ p. p.name) h.inputs) (map (λ p. p.name) h.outputs)) ∙ ap (flat_map long_name) (sym (map-append (λ p. p.name) h.inputs h.outputs)) ∙ long in
    let ins : length (map (λ (p : Port). p.at) h.inputs) ≡ length h.inputs = length-map h.inputs (λ (p : Port). p.at) in
    let outs : length (map (λ (p : Port). p.at) h.outputs) ≡ length h.outputs = length-map h.outputs (λ (p : Port). p.at) in
    let few₁ = over_few 32 (map (λ p. p.at) h.inputs) (first (over 32 (map (λ p. p.at) h.inputs)) _ k.counts) in
    let few₂ = over_few 32 (map (λ p. p.at) h.outputs) (first (over 32 (map (λ p. p.at) h.outputs)) _ (second (over 32 (map (λ p. p.at) h.inputs)) _ k.counts)) in
    record {
      inputs_differ = ports_differ h.inputs (first (repeats (ports_placed h.inputs)) (repeats (ports_placed h.outputs)) twice);
      outputs_differ = ports_differ h.outputs (second (repeats (ports_placed h.inputs)) (repeats (ports_placed h.outputs)) twice);
      inputs_short = shorts h.inputs (first _ (flat_map long_name (map (λ p. p.name) h.outputs)) split);
      outputs_short = shorts h.outputs (second (flat_map long_name (map (λ p. p.name) h.inputs)) _ split);
      inputs_few = omega arith;
      outputs_few = omega arith;
    }

pub kept_of : (library : List Definition) (name : List ℕ) (d : Definition) → KeepsRules library → definition_named name library ≡ Some d → Kept (head_of d)
kept_of library name d k h = kept_head library d (found_all (IsCheckedDefinition library) library name d k.each h)

-- ---- calls

-- a port of some kind is among these
has_among : (ports : List Port) (p : Port) → has_port ports p ≡ true → is_among p.name.text (port_names ports) ≡ true
has_among [] p h = absurd (cc)
has_among (q ∷ ps) p h =
    or_either (bytes_eq q.name.text p.name.text && same_kind q.kind p.kind) (has_port ps p) h
    (λ l. or_left (bytes_eq q.name.text p.name.text) (is_among p.name.text (port_names ps)) (and_parts (bytes_eq q.name.text p.name.text) (same_kind q.kind p.kind) l).0)
    (λ r. or_right (bytes_eq q.name.text p.name.text) (is_among p.name.text (port_names ps)) (has_among ps p r))

short_name : (name : List ℕ) → handlers.is_name name ≡ true → Short name
short_name name h = met (nat_le (length name) 64) _ (and_parts (nat_le (length name) 64) _ h).0

gives_required : (h : Head) → Kept h → Gives h.inputs (required h.inputs)
gives_required h k = record {
  whole = λ n e. e;
  among = required_all (λ n. is_among n (port_names h.inputs) ≡ true) h.inputs (among_self h.inputs);
  differ = differ_required h.inputs [] [] (λ n e. e) k.inputs_differ;
  short = required_all Short h.inputs k.inputs_short;
}

gives_all : (h : Head) → Kept h → Gives h.inputs h.inputs
gives_all h k = record { whole = required_within h.inputs; among = among_self h.inputs; differ = k.inputs_differ; short = k.inputs_short }

found_ports : (library more : List Definition) (name : List ℕ) (d : Definition) → definition_named name library ≡ Some d
    → (c : CallStmt) → c.callee.text ≡ name → called_ports (library ++ more) c ≡ Some (head_of d).inputs
found_ports library more name d h c e =
    (λ i. option_map (λ x. (head_of x).inputs) (definition_named (e i) (library ++ more))) ∙ ap (option_map (λ x. (head_of x).inputs)) (found_before name library more d h)

seen_inputs : (ports : Names) (ps : List Port) → AllByRecursion (λ p. Short p.name.text) ps → AllByRecursion (λ p. is_among p.name.text ports ≡ true) ps
    → AllByRecursion (λ p. Sees ports (input p.name.text)) ps
seen_inputs ports [] a b = tt
seen_inputs ports (p ∷ ps) a b = (sees_input ports p.name.text a.0 b.0, seen_inputs ports ps a.1 b.1)

seen_outputs : (ports : Names) (ps : List Port) → AllByRecursion (λ p. Short p.name.text) ps → AllByRecursion (λ p. Sees ports (of_fix p.name.text)) ps
seen_outputs ports [] a = tt
seen_outputs ports (p ∷ ps) a = (sees_output ports (codes "fix") p.name.text refl a.0, seen_outputs ports ps a.1)

module _ (library : List Definition) (s : Spec) (k : KeepsRules library) (i : IsSpec s) (x : Known library s) where
  abbrev whole : List Definition
  whole = expanded library s

  abbrev asked : List Port
  asked = asked_of s.job library

  abbrev given : List Port
  given = given_of s.job library

  abbrev Here : Piece → Type 0
  Here = FineHere whole (port_names asked) (port_names given) (values_of s)

  job_kept : Kept x.job.head
  job_kept = kept_of library s.job (definition.Job x.job) k x.named

  asked_is : asked ≡ required x.job.head.inputs
  asked_is = ap (λ (o : Option Definition). required (inputs_in o)) x.named

  given_is : given ≡ required x.job.head.outputs
  given_is = ap (λ (o : Option Definition). required (outputs_in o)) x.named

  gives_asked : Gives x.job.head.inputs asked
  gives_asked = subst (Gives x.job.head.inputs) (sym asked_is) (gives_required x.job.head job_kept)

  calls_both : (name : List ℕ) (d : Definition) (ports : List Port) (key : List ℕ) → definition_named name library ≡ Some d → Gives (head_of d).inputs ports
      → AllByRecursion (λ p. is_among p.name.text (port_names asked) ≡ true) ports → Short name → Short key → Calls Here name key ports
  calls_both name d ports key h g a n l = record {
    fresh = fine_call whole (port_names asked) (port_names given) (values_of s) name input ports (head_of d).inputs key n l
        (found_ports library (definition.Chain (chain_of library s) ∷ []) name d h) g (seen_inputs (port_names asked) ports g.short a);
    fixed = fine_call whole (port_names asked) (port_names given) (values_of s) name of_fix ports (head_of d).inputs key n l
        (found_ports library (definition.Chain (chain_of library s) ∷ []) name d h) g (seen_outputs (port_names asked) ports g.short);
  }

  tries : Calls Here s.job (codes "job") asked
  tries = calls_both s.job (definition.Job x.job) asked (codes "job") x.named gives_asked (among_self asked) (short_name s.job i.job) refl

  remedied : (r : Remedy) → KnownRemedy library asked r → IsRemedy r → AbortKept (aborts s.handlers) r → Remedied Here library r
  remedied (remedy.Abort status) h l m = (fine_exit whole (port_names asked) (port_names given) (values_of s) status (declared_has s status m), tt)
  remedied (remedy.Call name) h l m =
      let f : KnownFunction library asked name = h in
      let head = f.function.head in
      let ports : inputs_of name library ≡ head.inputs = ap inputs_in f.named in
      let among : AllByRecursion (λ p. is_among p.name.text (port_names asked) ≡ true) head.inputs = all_more (λ p. has_port asked p ≡ true) (λ p. is_among p.name.text (port_names asked) ≡ true) (has_among asked) head.inputs (passed (has_port asked) head.inputs f.takes) in
      subst (λ (ps : List Port). Calls Here name (codes "fix") ps) (sym ports)
      (calls_both name (definition.Function f.function) head.inputs (codes "fix") f.named (gives_all head (kept_of library name (definition.Function f.function) k f.named)) among (short_name name l) refl)

  remedies : AllByRecursion (λ h. Remedied Here library h.remedy) (by_priority s.handlers)
  remedies =
      let P : Handler → Type 0 = λ h. IsHandler h × (KnownRemedy library asked h.remedy × AbortKept (aborts s.handlers) h.remedy) in
      sorted_all (λ h. Remedied Here library h.remedy) s.handlers
      (all_more P (λ h. Remedied Here library h.remedy) (λ h p. let y : IsHandler h = p.0 in remedied h.remedy p.1.0 y.remedy p.1.1) s.handlers
      (all_both IsHandler (λ h. KnownRemedy library asked h.remedy × AbortKept (aborts s.handlers) h.remedy) s.handlers i.handlers
      (all_both (λ h. KnownRemedy library asked h.remedy) (λ h. AbortKept (aborts s.handlers) h.remedy) s.handlers x.handlers (aborts_have s.handlers))))

  passes : (ps : List Port) → AllByRecursion (λ p. Short p.name.text) ps → AllByRecursion (λ p. is_among p.name.text (port_names given) ≡ true) ps → AllDone Here (passing ps)
  passes [] a b = (fine_set whole (port_names asked) (port_names given) (values_of s) (codes "done") (truth true) refl (sees_truth (port_names asked) true), tt)
  passes (p ∷ ps) a b = (fine_passed whole (port_names asked) (port_names given) (values_of s) p.name.text a.0 b.0, passes ps a.1 b.1)

  given_short : AllByRecursion (λ p. Short p.name.text) given
  given_short = subst (λ (ps : List Port). AllByRecursion (λ p. Short p.name.text) ps) (sym given_is) (required_all Short x.job.head.outputs job_kept.outputs_short)

  parts : Parts Here library s
  parts =
      let ports = port_names asked in
      let outs = port_names given in
      let declared = values_of s in
      let sets = fine_set whole ports outs declared in
      record {
        begins = fine_begins whole ports outs declared;
        named = fine_named whole ports outs declared;
        is_fresh = fine_tests whole ports outs declared (plain (codes "fresh")) (sees_plain ports (codes "fresh") refl);
        goes = fine_tests whole ports outs declared (goes_on s.most) (sees_goes_on ports s.most);
        succeeded = fine_tests whole ports outs declared _ (sees_succeeded ports);
        handled = λ ns. fine_tests whole ports outs declared _ (sees_one_of ports ns);
        sets = (
          sets (codes "n") (numeral 0) refl (sees_numeral ports 0),
          (
            sets (codes "bad") (truth false) refl (sees_truth ports false),
            (sets (codes "fresh") (truth true) refl (sees_truth ports true), (sets (codes "done") (truth false) refl (sees_truth ports false), tt)),
          ),
        );
        counts = (sets (codes "n") _ refl (sees_counted ports), tt);
        passes = passes given given_short (among_self given);
        mends = (sets (codes "fresh") (truth false) refl (sees_truth ports false), (sets (codes "bad") (truth false) refl (sees_truth ports false), tt));
        fails = (
          fine_exit_if whole ports outs declared 402 (plain (codes "bad")) (declared_own s).1 (sees_plain ports (codes "bad") refl),
          (sets (codes "bad") (truth true) refl (sees_truth ports true), tt),
        );
        closes = (fine_exit_if whole ports outs declared 401 (negated (plain (codes "done"))) (declared_own s).0 (sees_negated ports (plain (codes "done")) (sees_plain ports (codes "done") refl)), tt);
        tries = tries;
        remedies = remedies;
      }

  abbrev all_pieces : List Piece
  all_pieces = pieces (chain_of library s).outline

  fine : AllByRecursion Here all_pieces
  fine = pieces_all Here library s parts

  -- ---- what is gathered from the pieces

  flat_twice : {A B C : Type 0} (f : B → List C) (g : A → List B) (ps : List A) → flat_map f (flat_map g ps) ≡ flat_map (λ p. flat_map f (g p)) ps
  flat_twice f g [] = refl
  flat_twice f g (p ∷ ps) = flat_map-append f (g p) (flat_map g ps) ∙ ap (λ z. flat_map f (g p) ++ z) (flat_twice f g ps)

  of_calls : (f : CallStmt → List Finding) → AllByRecursion (λ p. flat_map f (calls_in p) ≡ []) all_pieces → flat_map f (calls_of (definition.Chain (chain_of library s))) ≡ []
  of_calls f a = ap (flat_map f) (flat_twice call_of stmt_of all_pieces) ∙ nothing_inside f calls_in all_pieces a

  each_fine : (P : Piece → Type 0) → ((p : Piece) → Here p → P p) → AllByRecursion P all_pieces
  each_fine P h = all_more Here P h all_pieces fine

  names_all : AllByRecursion (λ p. flat_map long_name (piece_names p ++ mentioned_names (piece_mentions p)) ≡ []) all_pieces
  names_all = each_fine (λ p. flat_map long_name (piece_names p ++ mentioned_names (piece_mentions p)) ≡ []) (λ p y. y.short)

  ports_short : (ps : List Port) → AllByRecursion (λ p. Short p.name.text) (required ps) → flat_map long_name (map (λ p. p.name) (required ps)) ≡ []
  ports_short [] a = refl
  ports_short (p ∷ ps) a = by_test (is_required p) (ports_short ps) a
    where
      by_test : (b : Bool) → (AllByRecursion (λ q. Short q.name.text) (required ps) → flat_map long_name (map (λ q. q.name) (required ps)) ≡ []) → AllByRecursion (λ q. Short q.name.text) (if b then port_of p ∷ required ps else required ps)
          → flat_map long_name (map (λ q. q.name) (if b then port_of p ∷ required ps else required ps)) ≡ []
      by_test true rest y = none (long_name (word p.name.text)) (flat_map long_name (map (λ q. q.name) (required ps))) y.0 (rest y.1)
      by_test false rest y = rest y

  all_short : long_names (definition.Chain (chain_of library s)) ≡ []
  all_short =
      let ports = map (λ (p : Port). p.name) (asked ++ given) in
      let rest = flat_map (λ p. piece_names p ++ mentioned_names (piece_mentions p)) all_pieces in
      none (long_name (word s.name)) (flat_map long_name (ports ++ rest)) (short_name s.name i.name)
      (flat_map-append long_name ports rest
      ∙ none (flat_map long_name ports) (flat_map long_name rest)
      (ap (flat_map long_name) (map-append (λ p. p.name) asked given) ∙ flat_map-append long_name (map (λ p. p.name) asked) (map (λ p. p.name) given)
      ∙ none (flat_map long_name (map (λ p. p.name) asked)) (flat_map long_name (map (λ p. p.name) given)) (ports_short (inputs_of s.job library) gives_asked.short)
      (ports_short (outputs_in (definition_named s.job library)) given_short))
      (nothing_inside long_name (λ p. piece_names p ++ mentioned_names (piece_mentions p)) all_pieces names_all))

  -- ---- counts

  asked_few : length asked ≤ 32
  asked_few =
      let e : length asked ≡ length (required x.job.head.inputs) = ap length asked_is in
      let l : length (required x.job.head.inputs) ≤ length x.job.head.inputs = required_few x.job.head.inputs in
      let m : length x.job.head.inputs ≤ 32 = job_kept.inputs_few in
      omega arith

  given_few : length given ≤ 32
  given_few =
      let e : length given ≡ length (required x.job.head.outputs) = ap length given_is in
      let l : length (required x.job.head.outputs) ≤ length x.job.head.outputs = required_few x.job.head.outputs in
      let m : length x.job.head.outputs ≤ 32 = job_kept.outputs_few in
      omega arith

  remedy_few : (r : Remedy) → length (flat_map (λ ps. ps) (remedy_made instr_pieces arm_pieces block_pieces library r)) ≤ 12
  remedy_few (remedy.Abort status) = omega arith
  remedy_few (remedy.Call name) = omega arith

  handlers_few : (hs : List Handler) → length (flat_map (λ ps. ps) (map (handler_made instr_pieces arm_pieces block_pieces library) hs)) ≤ 13 * length hs
  handlers_few [] = omega arith
  handlers_few (h ∷ hs) =
      let here = flat_map (λ ps. ps) (remedy_made instr_pieces arm_pieces block_pieces library h.remedy) in
      let rest = flat_map (λ ps. ps) (map (handler_made instr_pieces arm_pieces block_pieces library) hs) in
      let l : length (here ++ rest) ≡ length here + length rest = length-append here rest in
      let m : length here ≤ 12 = remedy_few h.remedy in
      let n : length rest ≤ 13 * length hs = handlers_few hs in
      omega arith

  passing_few : (ps : List Port) → length (map Does (passing ps)) ≡ suc (length ps)
  passing_few [] = refl
  passing_few (p ∷ ps) = ap suc (passing_few ps)

  pieces_few : length all_pieces ≤ 512
  pieces_few =
      let passed_pieces = map Does (passing given) in
      let handled = flat_map (λ ps. ps) (map (handler_made instr_pieces arm_pieces block_pieces library) (by_priority s.handlers)) in
      let e : length all_pieces ≡ length (outline_made instr_pieces arm_pieces block_pieces library s) = ap length (outline_folded instr_pieces arm_pieces block_pieces library s) in
      let f : length passed_pieces ≡ suc (length given) = passing_few given in
      let g : length given ≤ 32 = given_few in
      let h : length handled ≤ 13 * length (by_priority s.handlers) = handlers_few (by_priority s.handlers) in
      let l : length (by_priority s.handlers) ≡ length s.handlers = sorted_few s.handlers in
      let m : length s.handlers ≤ 16 = i.listed in
      rw e (simp length-append (omega arith))

  codes_few : length (codes_of s) ≤ 64
  codes_few =
      let e : length (map aborted (aborts s.handlers)) ≡ length (aborts s.handlers) = length-map (aborts s.handlers) aborted in
      let l : length (aborts s.handlers) ≤ length s.handlers = aborts_few s.handlers in
      let m : length s.handlers ≤ 16 = i.listed in
      omega arith

  places_few : length (flat_map piece_places all_pieces) ≤ 512
  places_few =
      let l : length (flat_map piece_places all_pieces) ≤ length all_pieces = gathered_few piece_places one all_pieces in
      let m : length all_pieces ≤ 512 = pieces_few in
      omega arith
    where
      one : (p : Piece) → length (piece_places p) ≤ 1
      one (Begins at) = omega arith
      one (Named n) = omega arith
      one (Does t) = omega arith
      one (Tests e) = omega arith
      one (Returns n) = omega arith

  -- ---- all rules

  pub chain_checked : IsCheckedDefinition whole (definition.Chain (chain_of library s))
  chain_checked =
      let ports = port_names asked in
      let outs = port_names given in
      let declared = values_of s in
      record {
        ports_differ = none (repeats (ports_placed asked)) (repeats (ports_placed given)) (none_twice asked gives_asked.differ)
            (none_twice given (subst (λ (ps : List Port). Differ [] (port_names ps)) (sym given_is) (differ_required x.job.head.outputs [] [] (λ n e. e) job_kept.outputs_differ)));
        ports_free = refl;
        statuses_differ = statuses_differ s i.handlers;
        files_differ = refl;
        lets_differ = refl;
        names_known = nothing (λ p. unknown_in (inside_of ports) (piece_mentions p)) all_pieces
            (each_fine (λ p. unknown_in (inside_of ports) (piece_mentions p) ≡ []) (λ p y. y.known));
        outputs_known = ap (flat_map (unknown_output outs)) (flat_twice stmt_output stmt_of all_pieces)
            ∙ nothing_inside (unknown_output outs) (λ p. flat_map stmt_output (stmt_of p)) all_pieces
            (each_fine (λ p. flat_map (unknown_output outs) (flat_map stmt_output (stmt_of p)) ≡ []) (λ p y. y.outputs));
        callees_known = of_calls (λ c. callee_of c (called_ports whole c)) (each_fine (λ p. flat_map (λ c. callee_of c (called_ports whole c)) (calls_in p) ≡ []) (λ p y. y.callees));
        required_given = of_calls (λ c. missing_of c (called_ports whole c)) (each_fine (λ p. flat_map (λ c. missing_of c (called_ports whole c)) (calls_in p) ≡ []) (λ p y. y.required));
        given_known = of_calls (λ c. unknown_of c (called_ports whole c)) (each_fine (λ p. flat_map (λ c. unknown_of c (called_ports whole c)) (calls_in p) ≡ []) (λ p y. y.given));
        given_once = of_calls repeated_args (each_fine (λ p. flat_map repeated_args (calls_in p) ≡ []) (λ p y. y.once));
        outputs_are_nodes = nothing_inside stmt_data stmt_of all_pieces (each_fine (λ p. flat_map stmt_data (stmt_of p) ≡ []) (λ p y. y.nodes));
        statuses_in_range = statuses_in_range s i.handlers;
        exits_declared = nothing_inside (undeclared declared) piece_status all_pieces (each_fine (λ p. flat_map (undeclared declared) (piece_status p) ≡ []) (λ p y. y.exits));
        counts = none (over 32 (map (λ p. p.at) asked)) _ (over_within (λ p. p.at) 32 asked asked_few)
            (none (over 32 (map (λ p. p.at) given)) _ (over_within (λ p. p.at) 32 given given_few)
            (none (over 64 (map (λ c. c.at) (codes_of s))) _ (over_within (λ c. c.at) 64 (codes_of s) codes_few) (no_more 512 (flat_map piece_places all_pieces) places_few)));
        names_short = all_short;
        files_named = refl;
      }
