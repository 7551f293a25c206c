-- What the job delivers where it ends with 0, and what a handler's function mends.
use Rattle.std.proofs.Common.{◌≡◌, ◌∙◌, ap, sym, refl, subst, ℕ, Bool, true, false, List, [], ◌∷◌, Option, Some, None}
use Rattle.std.specs.Prelude.{codes, not, is_none, ◌==◌, ◌&&◌, ◌||◌, if◌then◌else◌, flat_map}
use Rattle.std.specs.List.{AllByRecursion}
use Rattle.std.specs.Str.{bytes_eq}
use Rattle.wc_value.specs.Ascending.{lookup}
use Rattle.wc_value.specs.declared.process.JobResult.{JobResult}
use Rattle.wc_value.specs.declared.process.ProcessState.{ProcessState}
use Rattle.wc_value.specs.declared.process.ProcessState.TheVariants.{Finished, Excepted}
use Rattle.wc_value.specs.declared.process.Request.{Request}
use Rattle.wc_value.specs.declared.value.Value.{Value}
use Rattle.wc_syntax.specs.Findings.{is_among, port_names, reserved_port}
use Rattle.wc_syntax.specs.declared.definition.Definition.{Definition}
use Rattle.wc_syntax.specs.declared.definition.Definition.TheVariants as definition
use Rattle.wc_syntax.specs.declared.definition.Function.{Function}
use Rattle.wc_syntax.specs.declared.definition.Port.{Port}
use Rattle.wc_expression.specs.declared.outcome.Outcome.{Outcome}
use Rattle.wc_expression.specs.declared.outcome.Outcome.TheVariants.{Gives, Faults}
use Rattle.wc_semantics.specs.declared.outcomes.Parsed.{Parsed}
use Rattle.wc_semantics.specs.Meaning.{is_good}
use Rattle.wc_semantics.specs.Outcomes.{calculated, concluded, excepted, lacks, parsed, parse_env, retrieved}
use Rattle.wc_semantics.specs.Requests.{request}
use Rattle.wc_semantics.specs.Rules.{Values, End, fits_port, kind_of_port, run_rules}
use Rattle.wc_semantics.specs.Run.{Around}
use Rattle.wc_semantics.specs.Tables.{row_of}
use Rattle.wc_restart.specs.Ports.{all_among, as_function, port_of, required}
use Rattle.wc_attempts.specs.Attempts.{at_ports, Attempted, ends, wants, Attempts, by_request, by_row, mended, tried}
use Rattle.wc_attempts.proofs.Arguments.{HasAll, at_ascends, has_all}
use Rattle.wc_attempts.proofs.Fits.{Sound, all_at, calculated_sound, parsed_sound}
use Rattle.wc_attempts.proofs.Good.{GoodFor, all_both, all_map, at_named, found_has, has_at}
use Rattle.wc_attempts.proofs.PortKinds.{Distinct, all_within, among_among, among_kind, clash, not_retrieved, required_all, required_among, required_distinct, required_kind}
use Rattle.wc_attempts.proofs.Loops.{Delivers, all_lack}
use Rattle.wc_attempts.proofs.Turns.{asked, given_ports}

-- ---- an end with 0

abbrev status_in : ProcessState → ℕ
status_in (Finished n) = n
status_in s = 0

-- lacks no output
zero_full : (ports : List Port) (kept : Values) (o : Outcome End) → (concluded ports kept o).state ≡ Finished 0 → lacks ports (concluded ports kept o).outputs ≡ false
zero_full ports kept (Gives e) h = by_test (e.0 == 0) (lacks ports e.1) refl h
  where
    by_test : (b c : Bool) → (e.0 == 0) ≡ b → Finished (if b && c then 11 else e.0) ≡ Finished 0 → c ≡ false
    by_test true true p k = clash _ (11 == 0) (ap (λ m. m == 0) (ap status_in k)) refl
    by_test true false p k = refl
    by_test false true p k = clash _ (e.0 == 0) (ap (λ m. m == 0) (ap status_in k)) p
    by_test false false p k = refl
zero_full ports kept (Faults r) h = absurd (cc)

-- and has those of the required ports
required_has : (ps : List Port) (v : Values) → lacks ps v ≡ false → HasAll v (required ps)
required_has [] v h = tt
required_has (p ∷ ps) v h = by_both p.optional (lookup p.name.text v) refl h (λ k. required_has ps v k)
  where
    by_both : (b : Bool) (o : Option Value) → lookup p.name.text v ≡ o → ((not b && is_none o) || lacks ps v) ≡ false → (lacks ps v ≡ false → HasAll v (required ps))
        → HasAll v (if not b then port_of p ∷ required ps else required ps)
    by_both true o e k rest = rest k
    by_both false None e k rest = absurd (cc)
    by_both false (Some y) e k rest = ((y, e), rest k)

-- ---- the job

abbrev parsed_in : Parsed → Attempted → Parsed
parsed_in d (ends p) = p
parsed_in d (wants q) = d

ends_same : (p q : Parsed) → ends p ≡ ends q → p ≡ q
ends_same p q h = ap (parsed_in p) h

-- where the job ended with 0 there was a result
came_from : (x : Attempts) (v : Values) (o : Outcome Request) (p : Parsed) → by_request x v o ≡ ends p → p.state ≡ Finished 0 → (r : JobResult) × (p ≡ parsed x.job v r)
came_from x v (Faults r) p h z = let state : Excepted r ≡ Finished 0 = ap (λ q. q.state) (ends_same (excepted r []) p h) ∙ z in absurd (cc)
came_from x v (Gives q) p h z = by_found (row_of q x.rows) h
  where
    by_found : (o : Option JobResult) → by_row x v q o ≡ ends p → (r : JobResult) × (p ≡ parsed x.job v r)
    by_found None k = absurd (cc)
    by_found (Some r) k = (r, sym (ends_same (parsed x.job v r) p k))

module _ (x : Attempts) (a : Around) (clear : Distinct (port_names x.job.head.outputs)) (free : flat_map reserved_port x.job.head.outputs ≡ [])
    (kinds : (name : List ℕ) → a.kinds name ≡ kind_of_port name (given_ports x)) where
  -- of its port's kind, but for the folder
  abbrev Held : List ℕ × Value → Type 0
  Held e = bytes_eq (codes "retrieved") e.0 ≡ false → fits_port (kind_of_port e.0 x.job.head.outputs) e.1 ≡ true

  self : AllByRecursion (λ p. is_among p.name.text (port_names (given_ports x)) ≡ true) (given_ports x)
  self = all_within (given_ports x) (given_ports x) (λ name m. m)

  held : (v : Values) (r : JobResult) → Sound Held (parsed x.job v r).outputs
  held v r = parsed_sound Held x.job v r (λ h. absurd (cc)) (λ name y h k. h)

  delivered : (v : Values) (r : JobResult) → (parsed x.job v r).state ≡ Finished 0 → Delivers x a (parsed x.job v r).outputs
  delivered v r z =
      let outs : Values = (parsed x.job v r).outputs in
      let has : HasAll outs (given_ports x) =
      required_has x.job.head.outputs outs (zero_full x.job.head.outputs (retrieved r) (run_rules x.job.head.outputs x.job.parse (parse_env v r) (retrieved r)) z) in record {
        ordered = (held v r).0;
        all = has;
        fits = all_map (λ p. is_among p.name.text (port_names (given_ports x)) ≡ true) (λ p. (y : Value) → lookup p.name.text outs ≡ Some y → fits_port (a.kinds p.name.text) y ≡ true)
            (λ p m y l. ap (λ k. fits_port k y) (kinds p.name.text ∙ required_kind x.job.head.outputs p.name.text clear m)
            ∙ found_has Held outs p.name.text y (held v r).1 l (not_retrieved x.job.head.outputs p.name.text free (required_among x.job.head.outputs p.name.text m)))
            (given_ports x) self;
        full = all_lack (given_ports x) (at_ports (given_ports x) outs) (has_at (given_ports x) (given_ports x) outs has self);
      }

  pub delivers : (v : Values) (p : Parsed) → tried x v ≡ ends p → p.state ≡ Finished 0 → Delivers x a p.outputs
  delivers v p h z =
      let came = came_from x v (request x.job v) p h z in
      subst (λ (q : Parsed). Delivers x a q.outputs) (sym came.1) (delivered v came.0 (ap (λ (q : Parsed). q.state) (sym came.1) ∙ z))

-- ---- a handler's function

-- the outputs of a function that gives these ports are good for them, unless they lack one
pub mended_good : (x : Attempts) (f : Function) (v : Values) → Distinct (port_names f.head.outputs) → all_among (asked x) (required f.head.outputs) ≡ true
    → lacks (asked x) (mended x v f) ≡ false → GoodFor (asked x) (mended x v f)
mended_good x f v clear covers h =
    let sound : Sound (λ e. fits_port (kind_of_port e.0 f.head.outputs) e.1 ≡ true) (calculated f (at_ports f.head.inputs v)).outputs =
    calculated_sound (λ e. fits_port (kind_of_port e.0 f.head.outputs) e.1 ≡ true) f (at_ports f.head.inputs v) (λ name y k. k) in record {
      ordered = at_ascends (asked x) (calculated f (at_ports f.head.inputs v)).outputs sound.0;
      kinds = all_both (λ e. is_among e.0 (port_names (asked x)) ≡ true) (λ e. fits_port (kind_of_port e.0 f.head.outputs) e.1 ≡ true) (λ e. is_good (asked x) e ≡ true)
          (λ e m k. ap (λ o. fits_port o e.1) (among_kind (asked x) (required f.head.outputs) e.0 (required_distinct f.head.outputs clear) covers m
          ∙ required_kind f.head.outputs e.0 clear (among_among (asked x) (required f.head.outputs) e.0 covers m))
          ∙ k) (mended x v f) (at_named (asked x) (calculated f (at_ports f.head.inputs v)).outputs)
          (all_at (λ e. fits_port (kind_of_port e.0 f.head.outputs) e.1 ≡ true) (asked x) (calculated f (at_ports f.head.inputs v)).outputs sound.1);
      all = has_all (asked x) (mended x v f) (required_all x.job.head.inputs) h;
    }

-- ---- definitions of a kind

pub as_function_is : (o : Option Definition) (f : Function) → as_function o ≡ Some f → o ≡ Some (definition.Function f)
as_function_is None f h = absurd (cc)
as_function_is (Some (definition.Function g)) f h = let same : g ≡ f = cc in ap (λ x. Some (definition.Function x)) same
as_function_is (Some (definition.Job j)) f h = absurd (cc)
as_function_is (Some (definition.Chain c)) f h = absurd (cc)
