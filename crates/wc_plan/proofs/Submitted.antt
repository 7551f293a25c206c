-- Inputs that are given well are ones that the ports take, in order and within the limits.
use Rattle.std.proofs.Common.{◌≡◌, ◌⊎◌, inl, inr, ℕ, ℤ, suc, ◌≤◌, List, [], ◌∷◌, ◌++◌, Option, Some, None, Result, Ok, Err, IfOk, Bool, true, false, not, ◌&&◌, ◌||◌, if◌then◌else◌, map, length, refl, sym, ap, subst, ◌∙◌, arith}
use Rattle.std.specs.Prelude.{option_map, is_none, nat_le, nat_lt, ◌==◌}
use Rattle.std.specs.List.{AllByRecursion}
use Rattle.std.specs.List.Sorted.{IsStrictlySortedBy}
use Rattle.std.specs.Str.{bytes_eq}
use Rattle.std.proofs.lemmas.Bool.Decides.{nat_tests}
use Rattle.wc_value.specs.Ascending.{Ascends, before, lookup, put}
use Rattle.wc_value.specs.Spelling.{spelling, depth}
use Rattle.wc_value.specs.declared.value.Kind.{Kind}
use Rattle.wc_value.specs.declared.value.Kind.TheVariants as kind
use Rattle.wc_value.specs.declared.value.Value.{Value, out-Value}
use Rattle.wc_value.specs.declared.value.Value.TheVariants as value
use Rattle.wc_value.proofs.Puts.{ascends_put, same_name}
use Rattle.wc_syntax.specs.Bare.{bare_port, bare_definition, bare_library}
use Rattle.wc_syntax.specs.Findings.{definition_named, head_of}
use Rattle.wc_syntax.specs.declared.definition.Definition.{Definition}
use Rattle.wc_syntax.specs.declared.definition.Definition.TheVariants as definition
use Rattle.wc_syntax.specs.declared.definition.Port.{Port}
use Rattle.wc_expression.specs.Val.{is_allowed}
use Rattle.wc_expression.specs.Contents.{has_kind}
use Rattle.wc_expression.specs.Whole.{number_of}
use Rattle.wc_semantics.specs.Rules.{kind_of_port, fits_port}
use Rattle.wc_semantics.proofs.Bare.{named_bare}
use Rattle.wc_meaning.specs.Inputs.{least, wrong_inputs, missing_inputs, bad_input}
use Rattle.wc_meaning.proofs.Least.{no_least}
use Rattle.wc_plan.specs.declared.libraries.Read.{Read}
use Rattle.wc_plan.specs.declared.libraries.Read.TheVariants as read
use Rattle.wc_plan.specs.declared.submission.Prepared.{Prepared}
use Rattle.wc_json.specs.declared.error.JsonError.{JsonError}
use Rattle.wc_json.specs.Documents.{answer_of}
use Rattle.wc_json.specs.Limits.{read_fields}
use Rattle.wc_plan.specs.declared.status.Cause.{Cause}
use Rattle.wc_plan.specs.declared.status.Cause.TheVariants as cause
use Rattle.wc_plan.specs.Further.{InputsFrom, kinds_of, or_cause, read_file}
use Rattle.wc_plan.specs.Given.{bool_in_words, value_in_words, allowed, value_of_kind, given_value, unread, times_given, is_in, is_ill, ill_given, bad_given, with_field, fields_of}
use Rattle.wc_plan.specs.Submits.{inputs_of, inputs_beside, InputsFor, prepared_with, PreparesRead, IsWithinLimits, SubmitsReady}
use Rattle.wc_plan.proofs.Bares.{bad_given_bare, fields_bare, inputs_from_bare}
use Rattle.wc_plan.proofs.Filed.{Takes, Holds, all_put, bytes_taken}

-- ---- offsets play no part

of_bare : (bad : Option (List ℕ)) (ports : List Port) (given : List (List ℕ × List ℕ)) (file : List (List ℕ × Value)) → inputs_of bad (map bare_port ports) given file ≡ inputs_of bad ports given file
of_bare None ports given file = ap Ok (fields_bare ports given file)
of_bare (Some port) ports given file = refl

beside_bare : (file : Result (List (List ℕ × Value)) Cause) (ports : List Port) (given : List (List ℕ × List ℕ)) → inputs_beside file (map bare_port ports) given ≡ inputs_beside file ports given
beside_bare (Ok file) ports given =
    ap (λ (bad : Option (List ℕ)). inputs_of bad (map bare_port ports) given file) (bad_given_bare ports given file) ∙ of_bare (bad_given ports given file) ports given file
beside_bare (Err c) ports given = refl

module _ (told : Option (List ℕ → Option (List ℕ))) (inputs : Option (List ℕ)) (name : List ℕ) (given : List (List ℕ × List ℕ)) (r : Result (List (List ℕ × Value)) Cause) where
  -- with a file of inputs for these ports
  abbrev ForPorts : List Port → Type 0
  ForPorts ports = (file : Result (List (List ℕ × Value)) Cause) × InputsFrom told inputs ports file × (r ≡ inputs_beside file ports given)

  ports_bare : (ports : List Port) → ForPorts ports → ForPorts (map bare_port ports)
  ports_bare ports i = (i.0, inputs_from_bare told inputs ports i.0 i.1, i.2 ∙ sym (beside_bare i.0 ports given))

  definition_bare : (d : Option Definition) → InputsFor told inputs d name given r → InputsFor told inputs (option_map bare_definition d) name given r
  definition_bare None i = i
  definition_bare (Some (definition.Function f)) i = ports_bare f.head.inputs i
  definition_bare (Some (definition.Job j)) i = ports_bare j.head.inputs i
  definition_bare (Some (definition.Chain c)) i = ports_bare c.head.inputs i

  inputs_bare : (ds : List Definition) → InputsFor told inputs (definition_named name ds) name given r → InputsFor told inputs (definition_named name (bare_library ds)) name given r
  inputs_bare ds i =
      subst (λ (d : Option Definition). InputsFor told inputs d name given r) (sym (named_bare name ds)) (definition_bare (definition_named name ds) i)

-- what holds of the library with offsets holds of the checked one
pub result_bare : {E : Type 0} (told : Option (List ℕ → Option (List ℕ))) (inputs : Option (List ℕ)) (name : List ℕ) (given : List (List ℕ × List ℕ)) (ds library : List Definition)
    (result : Result (Result (List (List ℕ × Value)) Cause) E) → bare_library ds ≡ library
    → IfOk result (λ r. InputsFor told inputs (definition_named name ds) name given r) → IfOk result (λ r. InputsFor told inputs (definition_named name library) name given r)
result_bare told inputs name given ds library (Ok r) same h =
    subst (λ (l : List Definition). InputsFor told inputs (definition_named name l) name given r) same (inputs_bare told inputs name given r ds h)
result_bare told inputs name given ds library (Err e) same h = h

-- ---- a value in words is of its port's kind, and within the limits

allowed_value : (o : Option Value) (v : Value) → allowed o ≡ Some v → (o ≡ Some v) × (is_allowed v ≡ true)
allowed_value None v h = absurd (cc)
allowed_value (Some w) v h = at (is_allowed w) refl h
  where
    at : (b : Bool) → is_allowed w ≡ b → (if b then Some w else None) ≡ Some v → (Some w ≡ Some v) × (is_allowed v ≡ true)
    at true p e = let same : w ≡ v = cc in (e, subst (λ (x : Value). is_allowed x ≡ true) same p)
    at false p e = absurd (cc)

number_kind : (o : Option ℤ) (v : Value) → option_map value.Int o ≡ Some v → has_kind kind.Int (out-Value v) ≡ true
unfolding out-Value denote.Hole.Carrier.out
number_kind None v h = absurd (cc)
number_kind (Some n) v h = let same : value.Int n ≡ v = cc in subst (λ (x : Value). has_kind kind.Int (out-Value x) ≡ true) same refl

bool_kind : (o : Option Bool) (v : Value) → option_map value.Bool o ≡ Some v → has_kind kind.Bool (out-Value v) ≡ true
unfolding out-Value denote.Hole.Carrier.out
bool_kind None v h = absurd (cc)
bool_kind (Some b) v h = let same : value.Bool b ≡ v = cc in subst (λ (x : Value). has_kind kind.Bool (out-Value x) ≡ true) same refl

words_kind : (k : Kind) (text : List ℕ) (v : Value) → value_in_words k text ≡ Some v → has_kind k (out-Value v) ≡ true
unfolding out-Value denote.Hole.Carrier.out
words_kind kind.Int text v h = number_kind (number_of text) v h
words_kind kind.Bool text v h = bool_kind (bool_in_words text) v h
words_kind kind.Text text v h = let same : value.Text text ≡ v = cc in subst (λ (x : Value). has_kind kind.Text (out-Value x) ≡ true) same refl
words_kind kind.List text v h = absurd (cc)
words_kind kind.Dict text v h = absurd (cc)
words_kind kind.Folder text v h = absurd (cc)

limits : (v : Value) (name : List ℕ) → is_allowed v ≡ true → IsWithinLimits (name, v)
unfolding is_allowed
limits v name h = both (length (spelling v)) (depth v) h
  where
    both : (m n : ℕ) → (nat_le m 4194304 && nat_le n 32) ≡ true → (m ≤ 4194304) × (n ≤ 32)
    both m n h = grind (arith, nat_tests)

kind_taken : (o : Option Kind) (name text : List ℕ) (v : Value) → value_of_kind o text ≡ Some v → (fits_port o v ≡ true) × IsWithinLimits (name, v)
kind_taken None name text v h = absurd (cc)
kind_taken (Some k) name text v h = let a = allowed_value (value_in_words k text) v h in (words_kind k text v a.0, limits v name a.1)

value_taken : (ports : List Port) (g : List ℕ × List ℕ) (v : Value) → given_value ports g ≡ Some v → Takes ports (g.0, v)
value_taken ports g v h = kind_taken (kind_of_port g.0 ports) g.0 g.1 v h

-- ---- the inputs are held so, in order

field_holds : (ports : List Port) (name : List ℕ) (o : Option Value) (fields : List (List ℕ × Value)) → ((v : Value) → o ≡ Some v → Takes ports (name, v))
    → Holds ports fields → Holds ports (with_field name o fields)
field_holds ports name None fields takes h = h
field_holds ports name (Some v) fields takes h = (all_put (Takes ports) name v fields h.0 (takes v refl), ascends_put name v fields h.1)

fields_hold : (ports : List Port) (given : List (List ℕ × List ℕ)) (fields : List (List ℕ × Value)) → Holds ports fields → Holds ports (fields_of ports given fields)
fields_hold ports [] fields h = h
fields_hold ports (g ∷ gs) fields h =
    fields_hold ports gs (with_field g.0 (given_value ports g) fields) (field_holds ports g.0 (given_value ports g) fields (value_taken ports g) h)

none_ascends : Ascends {T = Value} []
unfolding IsStrictlySortedBy
none_ascends = tt

-- so no input is wrong
none_wrong : (ports : List Port) (is : List (List ℕ × Value)) → AllByRecursion (Takes ports) is → wrong_inputs ports is ≡ []
none_wrong ports [] h = refl
none_wrong ports (i ∷ is) h =
    subst (λ (b : Bool). (if b then wrong_inputs ports is else i.0 ∷ wrong_inputs ports is) ≡ []) (sym h.0.0) (none_wrong ports is h.1)

all_within : (ports : List Port) (is : List (List ℕ × Value)) → AllByRecursion (Takes ports) is → AllByRecursion IsWithinLimits is
all_within ports [] h = tt
all_within ports (i ∷ is) h = (h.0.1, all_within ports is h.1)

-- ---- a name that is given has an input

-- there is an input of this name
abbrev IsThere : List ℕ → List (List ℕ × Value) → Type 0
IsThere name fields = is_none (lookup name fields) ≡ false

there_or : (name : List ℕ) (e : List ℕ × Value) (es : List (List ℕ × Value)) → IsThere name es → IsThere name (e ∷ es)
there_or name e es h = at (bytes_eq e.0 name)
  where
    at : (b : Bool) → is_none (if b then Some e.1 else lookup name es) ≡ false
    at true = refl
    at false = h

there_first : (name : List ℕ) (e : List ℕ × Value) (es : List (List ℕ × Value)) → bytes_eq e.0 name ≡ true → IsThere name (e ∷ es)
there_first name e es h = subst (λ (b : Bool). is_none (if b then Some e.1 else lookup name es) ≡ false) (sym h) refl

there_behind : (name : List ℕ) (e : List ℕ × Value) (es fs : List (List ℕ × Value)) → (IsThere name es → IsThere name fs) → IsThere name (e ∷ es) → IsThere name (e ∷ fs)
there_behind name e es fs f h = at (bytes_eq e.0 name) h
  where
    at : (b : Bool) → is_none (if b then Some e.1 else lookup name es) ≡ false → is_none (if b then Some e.1 else lookup name fs) ≡ false
    at true p = refl
    at false p = f p

-- with another value
there_again : (name : List ℕ) (e : List ℕ × Value) (v : Value) (es : List (List ℕ × Value)) → IsThere name (e ∷ es) → IsThere name ((e.0, v) ∷ es)
there_again name e v es h = at (bytes_eq e.0 name) h
  where
    at : (b : Bool) → is_none (if b then Some e.1 else lookup name es) ≡ false → is_none (if b then Some v else lookup name es) ≡ false
    at true p = refl
    at false p = p

put_there : (name : List ℕ) (v : Value) (other : List ℕ) (es : List (List ℕ × Value)) → bytes_eq other name ≡ true → IsThere name (put other v es)
put_there name v other [] h = there_first name (other, v) [] h
put_there name v other (e ∷ es) h = at (before e.0 other) (bytes_eq e.0 other) (put_there name v other es h)
  where
    at : (b c : Bool) → IsThere name (put other v es) → IsThere name (if b then e ∷ put other v es else if c then (other, v) ∷ es else (other, v) ∷ e ∷ es)
    at true c rest = there_or name e (put other v es) rest
    at false true rest = there_first name (other, v) es h
    at false false rest = there_first name (other, v) (e ∷ es) h

put_keeps : (name : List ℕ) (v : Value) (other : List ℕ) (es : List (List ℕ × Value)) → IsThere name es → IsThere name (put other v es)
put_keeps name v other [] h = absurd (cc)
put_keeps name v other (e ∷ es) h = at (before e.0 other) (bytes_eq e.0 other) refl (put_keeps name v other es)
  where
    at : (b c : Bool) → bytes_eq e.0 other ≡ c → (IsThere name es → IsThere name (put other v es))
        → IsThere name (if b then e ∷ put other v es else if c then (other, v) ∷ es else (other, v) ∷ e ∷ es)
    at true c p rest = there_behind name e es (put other v es) rest h
    at false true p rest = subst (λ (k : List ℕ). IsThere name ((k, v) ∷ es)) (same_name e.0 other p) (there_again name e v es h)
    at false false p rest = there_or name (other, v) (e ∷ es) h

field_keeps : (name : List ℕ) (o : Option Value) (other : List ℕ) (fields : List (List ℕ × Value)) → IsThere name fields → IsThere name (with_field other o fields)
field_keeps name None other fields h = h
field_keeps name (Some v) other fields h = put_keeps name v other fields h

fields_keep : (name : List ℕ) (ports : List Port) (given : List (List ℕ × List ℕ)) (fields : List (List ℕ × Value)) → IsThere name fields → IsThere name (fields_of ports given fields)
fields_keep name ports [] fields h = h
fields_keep name ports (g ∷ gs) fields h =
    fields_keep name ports gs (with_field g.0 (given_value ports g) fields) (field_keeps name (given_value ports g) g.0 fields h)

field_there : (name : List ℕ) (o : Option Value) (other : List ℕ) (fields : List (List ℕ × Value)) → is_none o ≡ false → bytes_eq other name ≡ true
    → IsThere name (with_field other o fields)
field_there name None other fields h e = absurd (cc)
field_there name (Some v) other fields h e = put_there name v other fields e

-- none unread: the first is read, and none of the others is unread
all_read : (ports : List Port) (g : List ℕ × List ℕ) (gs : List (List ℕ × List ℕ)) → unread ports (g ∷ gs) ≡ [] → (is_none (given_value ports g) ≡ false) × (unread ports gs ≡ [])
all_read ports g gs h = at (is_none (given_value ports g)) h
  where
    at : (b : Bool) → (if b then g.0 ∷ unread ports gs else unread ports gs) ≡ [] → (b ≡ false) × (unread ports gs ≡ [])
    at true p = absurd (cc)
    at false p = (refl, p)

given_there : (name : List ℕ) (ports : List Port) (given : List (List ℕ × List ℕ)) (fields : List (List ℕ × Value)) → unread ports given ≡ []
    → (times_given name given == 0) ≡ false → IsThere name (fields_of ports given fields)
given_there name ports [] fields r h = absurd (cc)
given_there name ports (g ∷ gs) fields r h = at (bytes_eq g.0 name) refl h (λ k. given_there name ports gs (with_field g.0 (given_value ports g) fields) (all_read ports g gs r).1 k)
  where
    at : (b : Bool) → bytes_eq g.0 name ≡ b → ((if b then suc (times_given name gs) else times_given name gs) == 0) ≡ false
        → ((times_given name gs == 0) ≡ false → IsThere name (fields_of ports gs (with_field g.0 (given_value ports g) fields)))
        → IsThere name (fields_of ports gs (with_field g.0 (given_value ports g) fields))
    at true p k rest =
        fields_keep name ports gs (with_field g.0 (given_value ports g) fields) (field_there name (given_value ports g) g.0 fields (all_read ports g gs r).0 p)
    at false p k rest = rest k

-- ---- so no input is missing

well : (p : Port) (n : ℕ) (filed : Bool) → is_ill p n filed ≡ false → (not p.optional ≡ false) ⊎ (((n == 0) ≡ false) ⊎ (filed ≡ true))
well p n filed h = at (nat_lt 1 n) (nat_lt 0 n) (n == 0) filed (not p.optional) h
  where
    at : (a b c f o : Bool) → (a || ((b && f) || (c && (not f && o)))) ≡ false → (o ≡ false) ⊎ ((c ≡ false) ⊎ (f ≡ true))
    at true b c f o q = absurd (cc)
    at false b c true o q = inr (inr refl)
    at false b c f false q = inl refl
    at false b false f o q = inr (inl refl)
    at false true true false true q = absurd (cc)
    at false false true false true q = absurd (cc)

none_ill : (p : Port) (ps : List Port) (given : List (List ℕ × List ℕ)) (file : List (List ℕ × Value)) → ill_given (p ∷ ps) given file ≡ []
    → (is_ill p (times_given p.name.text given) (is_in p.name.text file) ≡ false) × (ill_given ps given file ≡ [])
none_ill p ps given file h = at (is_ill p (times_given p.name.text given) (is_in p.name.text file)) h
  where
    at : (b : Bool) → (if b then p.name.text ∷ ill_given ps given file else ill_given ps given file) ≡ [] → (b ≡ false) × (ill_given ps given file ≡ [])
    at true q = absurd (cc)
    at false q = (refl, q)

not_missing : (b c : Bool) → (b ≡ false) ⊎ (c ≡ false) → (b && c) ≡ false
not_missing true true (inl h) = absurd (cc)
not_missing true true (inr h) = absurd (cc)
not_missing true false h = refl
not_missing false c h = refl

filed_there : (b : Bool) → not b ≡ true → b ≡ false
filed_there true h = absurd (cc)
filed_there false h = refl

none_missing : (all ps : List Port) (given : List (List ℕ × List ℕ)) (file : List (List ℕ × Value)) → unread all given ≡ [] → ill_given ps given file ≡ []
    → missing_inputs ps (fields_of all given file) ≡ []
none_missing all [] given file r h = refl
none_missing all (p ∷ ps) given file r h =
    let ill = none_ill p ps given file h in
    let rest = none_missing all ps given file r ill.1 in
    subst (λ (b : Bool). (if b then p.name.text ∷ missing_inputs ps (fields_of all given file) else missing_inputs ps (fields_of all given file)) ≡ [])
    (sym (not_missing (not p.optional) (is_none (lookup p.name.text (fields_of all given file))) (either (well p (times_given p.name.text given) (is_in p.name.text file) ill.0)))) rest
  where
    either : (not p.optional ≡ false) ⊎ (((times_given p.name.text given == 0) ≡ false) ⊎ (is_in p.name.text file ≡ true))
        → (not p.optional ≡ false) ⊎ (is_none (lookup p.name.text (fields_of all given file)) ≡ false)
    either (inl q) = inl q
    either (inr (inl q)) = inr (given_there p.name.text all given file r q)
    either (inr (inr q)) = inr (fields_keep p.name.text all given file (filed_there (is_none (lookup p.name.text file)) q))

-- ---- a submission is ready

two_empty : (xs ys : List (List ℕ)) → xs ++ ys ≡ [] → (xs ≡ []) × (ys ≡ [])
two_empty [] ys h = (refl, h)
two_empty (x ∷ xs) ys h = absurd (cc)

-- what the ports take, where nothing is given badly
pub given_fits : (ports : List Port) (given : List (List ℕ × List ℕ)) (file : List (List ℕ × Value)) → Holds ports file → bad_given ports given file ≡ None
    → bad_input ports (fields_of ports given file) ≡ None
given_fits ports given file filed h =
    let e = two_empty (ill_given ports given file) (unread ports given) (no_least (ill_given ports given file ++ unread ports given) h) in
    let held = fields_hold ports given file filed in
    (λ i. least (none_wrong ports (fields_of ports given file) held.0 i ++ none_missing ports ports given file e.1 e.0 i))

-- the inputs of a file, if one is named
filed_taken : (told : Option (List ℕ → Option (List ℕ))) (inputs : Option (List ℕ)) (ports : List Port) (file : List (List ℕ × Value)) → InputsFrom told inputs ports (Ok file) → Holds ports file
filed_taken told None ports file h = let none : [] ≡ file = cc in subst (Holds ports) none (tt, none_ascends)
filed_taken told (Some name) ports file h = at h.0 h.2
  where
    answer : List ℕ → Result (List (List ℕ × Value)) JsonError
    answer = answer_of (read_fields (kinds_of ports))

    gave : (r : Result (List (List ℕ × Value)) JsonError) → Ok file ≡ or_cause cause.Inputs r → r ≡ Ok file
    gave (Ok x) e = let same : x ≡ file = cc in ap Ok same
    gave (Err x) e = absurd (cc)

    at : (content : Option (List ℕ)) → Ok file ≡ read_file cause.Inputs (read_fields (kinds_of ports)) name content → Holds ports file
    at None e = absurd (cc)
    at (Some bytes) e = bytes_taken ports bytes file none_ascends (gave (answer bytes) e)

module _ (told : Option (List ℕ → Option (List ℕ))) (inputs : Option (List ℕ)) (name : List ℕ) (given : List (List ℕ × List ℕ)) (library : List Definition) where
  with_ready : (d : Definition) → definition_named name library ≡ Some d → (file : List (List ℕ × Value)) → Holds (head_of d).inputs file → (bad : Option (List ℕ))
      → bad_given (head_of d).inputs given file ≡ bad → SubmitsReady (prepared_with library name (inputs_of bad (head_of d).inputs given file))
  with_ready d named file filed (Some port) q = tt
  with_ready d named file filed None q =
      let held = fields_hold (head_of d).inputs given file filed in
      record {
        defined = d;
        named = named;
        fits = given_fits (head_of d).inputs given file filed q;
        ascends = held.1;
        within = all_within (head_of d).inputs (fields_of (head_of d).inputs given file) held.0;
      }

  beside_ready : (d : Definition) → definition_named name library ≡ Some d → (file : Result (List (List ℕ × Value)) Cause) → InputsFrom told inputs (head_of d).inputs file
      → SubmitsReady (prepared_with library name (inputs_beside file (head_of d).inputs given))
  beside_ready d named (Ok file) from =
      with_ready d named file (filed_taken told inputs (head_of d).inputs file from) (bad_given (head_of d).inputs given file) refl
  beside_ready d named (Err c) from = tt

  for_ready : (d : Option Definition) → definition_named name library ≡ d → (i : Result (List (List ℕ × Value)) Cause) → InputsFor told inputs d name given i
      → SubmitsReady (prepared_with library name i)
  for_ready None named i h = subst (λ (x : Result (List (List ℕ × Value)) Cause). SubmitsReady (prepared_with library name x)) (sym h) tt
  for_ready (Some d) named i h =
      subst (λ (x : Result (List (List ℕ × Value)) Cause). SubmitsReady (prepared_with library name x)) (sym h.2) (beside_ready d named h.0 h.1)

-- what is made of a file that is read as this
pub read_ready : (told : Option (List ℕ → Option (List ℕ))) (inputs : Option (List ℕ)) (name : List ℕ) (given : List (List ℕ × List ℕ)) (r : Read) (p : Prepared)
    → PreparesRead told inputs name given r p → SubmitsReady p
read_ready told inputs name given (read.Refused c) p h = subst SubmitsReady (sym h) tt
read_ready told inputs name given (read.Library library) p h =
    subst SubmitsReady (sym h.2) (for_ready told inputs name given library (definition_named name library) refl h.0 h.1)

pub result_ready : {E : Type 0} (told : Option (List ℕ → Option (List ℕ))) (inputs : Option (List ℕ)) (name : List ℕ) (given : List (List ℕ × List ℕ)) (r : Read) (result : Result Prepared E)
    → IfOk result (λ p. PreparesRead told inputs name given r p) → IfOk result (λ p. SubmitsReady p)
result_ready told inputs name given r (Ok p) h = read_ready told inputs name given r p h
result_ready told inputs name given r (Err e) h = h
