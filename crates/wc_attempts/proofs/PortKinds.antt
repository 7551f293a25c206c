-- Ports whose names differ: the kinds of their values, those of ports among others, and those of the required ones.
use Rattle.std.proofs.Common.{◌≡◌, ◌∙◌, ap, sym, refl, ℕ, Bool, true, false, List, [], ◌∷◌, ◌++◌, Some}
use Rattle.std.proofs.lemmas.List.Folds.{list_any-append}
use Rattle.std.specs.Prelude.{codes, not, ◌&&◌, ◌||◌, if◌then◌else◌, flat_map}
use Rattle.std.specs.List.{AllByRecursion}
use Rattle.std.specs.Str.{bytes_eq}
use Rattle.wc_value.proofs.Puts.{same_name}
use Rattle.wc_value.specs.declared.value.Kind.{Kind}
use Rattle.wc_value.specs.declared.value.Kind.TheVariants as kind
use Rattle.wc_value.specs.declared.value.Value.{Value}
use Rattle.wc_syntax.specs.Findings as findings
use Rattle.wc_syntax.specs.Findings.{Finding, is_among, port_names, ports_placed, repeats, repeats_after, reserved_port, result_names, twice}
use Rattle.wc_syntax.specs.declared.definition.Port.{Port}
use Rattle.wc_semantics.specs.Rules.{fits_port, kind_of_port}
use Rattle.wc_restart.specs.Ports.{all_among, has_port, is_required, port_of, required, same_kind}
use Rattle.wc_restart.proofs.Named.{same_bytes}

-- ---- tests

or_right : (b c : Bool) → c ≡ true → (b || c) ≡ true
or_right true c h = refl
or_right false c h = h

or_true : (b : Bool) → (b || true) ≡ true
or_true true = refl
or_true false = refl

or_none : (b c : Bool) → (b || c) ≡ false → b ≡ false
or_none true c h = absurd (cc)
or_none false c h = refl

pub and_parts : (b c : Bool) → (b && c) ≡ true → (b ≡ true) × (c ≡ true)
and_parts true c h = (refl, h)
and_parts false c h = absurd (cc)

pub both_empty : {A : Type 0} (xs ys : List A) → xs ++ ys ≡ [] → (xs ≡ []) × (ys ≡ [])
both_empty [] ys h = (refl, h)
both_empty (x ∷ xs) ys h = absurd (cc)

unless_empty : (b : Bool) (f : Finding) → findings.unless (not b) f ≡ [] → b ≡ false
unless_empty true f h = absurd (cc)
unless_empty false f h = refl

pub clash : (A : Type 0) (b : Bool) → b ≡ true → b ≡ false → A
clash A b p q = absurd (cc)

-- ---- names that differ

-- each name stands once
abbrev pub Distinct : List (List ℕ) → Type 0
Distinct [] = Unit {0}
Distinct (n ∷ ns) = (is_among n ns ≡ false) × Distinct ns

among_more : (name n : List ℕ) (before : List (List ℕ)) → is_among name before ≡ true → is_among name (before ++ n ∷ []) ≡ true
among_more name n before h = list_any-append (λ m. bytes_eq m name) before (n ∷ []) ∙ ap (λ (b : Bool). b || is_among name (n ∷ [])) h

among_last : (n : List ℕ) (before : List (List ℕ)) → is_among n (before ++ n ∷ []) ≡ true
among_last n before =
    list_any-append (λ m. bytes_eq m n) before (n ∷ []) ∙ ap (λ (b : Bool). is_among n before || (b || false)) (same_bytes n) ∙ or_true (is_among n before)

-- a name that stood before isn't found behind
apart : (name : List ℕ) (before : List (List ℕ)) (ps : List Port) → is_among name before ≡ true → repeats_after before (ports_placed ps) ≡ [] → is_among name (port_names ps) ≡ false
apart name before [] a h = refl
apart name before (p ∷ ps) a h =
    let parts = both_empty (findings.unless (not (is_among p.name.text before)) (twice p.name.text p.name.at)) (repeats_after (before ++ p.name.text ∷ []) (ports_placed ps)) h in
    by_name (bytes_eq p.name.text name) refl (unless_empty (is_among p.name.text before) (twice p.name.text p.name.at) parts.0)
    (apart name (before ++ p.name.text ∷ []) ps (among_more name p.name.text before a) parts.1)
  where
    by_name : (b : Bool) → bytes_eq p.name.text name ≡ b → is_among p.name.text before ≡ false → is_among name (port_names ps) ≡ false → (b || is_among name (port_names ps)) ≡ false
    by_name true e new rest = clash _ (is_among p.name.text before) (ap (λ n. is_among n before) (same_name p.name.text name e) ∙ a) new
    by_name false e new rest = rest

distinct_after : (before : List (List ℕ)) (ps : List Port) → repeats_after before (ports_placed ps) ≡ [] → Distinct (port_names ps)
distinct_after before [] h = tt
distinct_after before (p ∷ ps) h =
    let parts = both_empty (findings.unless (not (is_among p.name.text before)) (twice p.name.text p.name.at)) (repeats_after (before ++ p.name.text ∷ []) (ports_placed ps)) h in
    (apart p.name.text (before ++ p.name.text ∷ []) ps (among_last p.name.text before) parts.1, distinct_after (before ++ p.name.text ∷ []) ps parts.1)

pub distinct : (ps : List Port) → repeats (ports_placed ps) ≡ [] → Distinct (port_names ps)
distinct ps h = distinct_after [] ps h

-- no port of a job has the name of its folder
pub not_retrieved : (ps : List Port) (name : List ℕ) → flat_map reserved_port ps ≡ [] → is_among name (port_names ps) ≡ true → bytes_eq (codes "retrieved") name ≡ false
not_retrieved [] name h a = absurd (cc)
not_retrieved (p ∷ ps) name h a =
    let parts = both_empty (reserved_port p) (flat_map reserved_port ps) h in
    by_name (bytes_eq p.name.text name) refl a
    (or_none (bytes_eq (codes "retrieved") p.name.text) _ (unless_empty (is_among p.name.text result_names) (twice p.name.text p.name.at) parts.0))
    (λ b. not_retrieved ps name parts.1 b)
  where
    by_name : (b : Bool) → bytes_eq p.name.text name ≡ b → (b || is_among name (port_names ps)) ≡ true → bytes_eq (codes "retrieved") p.name.text ≡ false
        → (is_among name (port_names ps) ≡ true → bytes_eq (codes "retrieved") name ≡ false) → bytes_eq (codes "retrieved") name ≡ false
    by_name true e k first rest = ap (bytes_eq (codes "retrieved")) (sym (same_name p.name.text name e)) ∙ first
    by_name false e k first rest = rest k

-- ---- ports among others

-- each of some ports is among others by its name
pub all_within : (qs ps : List Port) → ((name : List ℕ) → is_among name (port_names qs) ≡ true → is_among name (port_names ps) ≡ true)
    → AllByRecursion (λ p. is_among p.name.text (port_names ps) ≡ true) qs
all_within [] ps h = tt
all_within (q ∷ qs) ps h = (
  h q.name.text (ap (λ (b : Bool). b || is_among q.name.text (port_names qs)) (same_bytes q.name.text)),
  all_within qs ps (λ name a. h name (or_right (bytes_eq q.name.text name) (is_among name (port_names qs)) a)),
)

kinds_same : (a b : Kind) → same_kind a b ≡ true → a ≡ b
kinds_same kind.Int kind.Int h = refl
kinds_same kind.Bool kind.Bool h = refl
kinds_same kind.Text kind.Text h = refl
kinds_same kind.List kind.List h = refl
kinds_same kind.Dict kind.Dict h = refl
kinds_same kind.Folder kind.Folder h = refl
kinds_same a b h = absurd (cc)

has_port_among : (ps : List Port) (q : Port) → has_port ps q ≡ true → is_among q.name.text (port_names ps) ≡ true
has_port_among [] q h = h
has_port_among (p ∷ ps) q h = by_test (bytes_eq p.name.text q.name.text) (same_kind p.kind q.kind) h (λ k. has_port_among ps q k)
  where
    by_test : (b c : Bool) → ((b && c) || has_port ps q) ≡ true → (has_port ps q ≡ true → is_among q.name.text (port_names ps) ≡ true) → (b || is_among q.name.text (port_names ps)) ≡ true
    by_test true c k rest = refl
    by_test false c k rest = rest k

has_port_kind : (ps : List Port) (q : Port) → Distinct (port_names ps) → has_port ps q ≡ true → kind_of_port q.name.text ps ≡ Some q.kind
has_port_kind [] q d h = absurd (cc)
has_port_kind (p ∷ ps) q d h = by_test (bytes_eq p.name.text q.name.text) (same_kind p.kind q.kind) refl refl h (λ k. has_port_kind ps q d.1 k)
  where
    by_test : (b c : Bool) → bytes_eq p.name.text q.name.text ≡ b → same_kind p.kind q.kind ≡ c → ((b && c) || has_port ps q) ≡ true
        → (has_port ps q ≡ true → kind_of_port q.name.text ps ≡ Some q.kind) → (if b then Some p.kind else kind_of_port q.name.text ps) ≡ Some q.kind
    by_test true true e s k rest = ap (λ (x : Kind). Some x) (kinds_same p.kind q.kind s)
    by_test true false e s k rest =
        clash _ (is_among q.name.text (port_names ps)) (has_port_among ps q k) (ap (λ n. is_among n (port_names ps)) (sym (same_name p.name.text q.name.text e)) ∙ d.0)
    by_test false c e s k rest = rest k

pub among_among : (qs ps : List Port) (name : List ℕ) → all_among qs ps ≡ true → is_among name (port_names qs) ≡ true → is_among name (port_names ps) ≡ true
among_among [] ps name a h = absurd (cc)
among_among (q ∷ qs) ps name a h =
    let parts = and_parts (has_port ps q) (all_among qs ps) a in
    by_name (bytes_eq q.name.text name) refl h (has_port_among ps q parts.0) (λ k. among_among qs ps name parts.1 k)
  where
    by_name : (b : Bool) → bytes_eq q.name.text name ≡ b → (b || is_among name (port_names qs)) ≡ true → is_among q.name.text (port_names ps) ≡ true
        → (is_among name (port_names qs) ≡ true → is_among name (port_names ps) ≡ true) → is_among name (port_names ps) ≡ true
    by_name true e k first rest = ap (λ n. is_among n (port_names ps)) (sym (same_name q.name.text name e)) ∙ first
    by_name false e k first rest = rest k

-- ports among others have their kinds
pub among_kind : (qs ps : List Port) (name : List ℕ) → Distinct (port_names ps) → all_among qs ps ≡ true → is_among name (port_names qs) ≡ true → kind_of_port name qs ≡ kind_of_port name ps
among_kind [] ps name d a h = absurd (cc)
among_kind (q ∷ qs) ps name d a h =
    let parts = and_parts (has_port ps q) (all_among qs ps) a in
    by_name (bytes_eq q.name.text name) refl h (has_port_kind ps q d parts.0) (λ k. among_kind qs ps name d parts.1 k)
  where
    by_name : (b : Bool) → bytes_eq q.name.text name ≡ b → (b || is_among name (port_names qs)) ≡ true → kind_of_port q.name.text ps ≡ Some q.kind
        → (is_among name (port_names qs) ≡ true → kind_of_port name qs ≡ kind_of_port name ps) → (if b then Some q.kind else kind_of_port name qs) ≡ kind_of_port name ps
    by_name true e k first rest = sym first ∙ ap (λ n. kind_of_port n ps) (same_name q.name.text name e)
    by_name false e k first rest = rest k

-- what has a port's kind is at a port
pub kind_among : (ps : List Port) (name : List ℕ) (v : Value) → fits_port (kind_of_port name ps) v ≡ true → is_among name (port_names ps) ≡ true
kind_among [] name v h = absurd (cc)
kind_among (p ∷ ps) name v h = by_name (bytes_eq p.name.text name) h (λ k. kind_among ps name v k)
  where
    by_name : (b : Bool) → fits_port (if b then Some p.kind else kind_of_port name ps) v ≡ true → (fits_port (kind_of_port name ps) v ≡ true → is_among name (port_names ps) ≡ true)
        → (b || is_among name (port_names ps)) ≡ true
    by_name true k rest = refl
    by_name false k rest = rest k

-- ---- the required ports

pub required_among : (ps : List Port) (name : List ℕ) → is_among name (port_names (required ps)) ≡ true → is_among name (port_names ps) ≡ true
required_among [] name h = h
required_among (p ∷ ps) name h = by_required (is_required p) h (λ k. required_among ps name k)
  where
    by_name : (b : Bool) → (b || is_among name (port_names (required ps))) ≡ true → (is_among name (port_names (required ps)) ≡ true → is_among name (port_names ps) ≡ true)
        → (b || is_among name (port_names ps)) ≡ true
    by_name true k rest = refl
    by_name false k rest = rest k

    by_required : (r : Bool) → is_among name (port_names (if r then port_of p ∷ required ps else required ps)) ≡ true
        → (is_among name (port_names (required ps)) ≡ true → is_among name (port_names ps) ≡ true) → (bytes_eq p.name.text name || is_among name (port_names ps)) ≡ true
    by_required true k rest = by_name (bytes_eq p.name.text name) k rest
    by_required false k rest = or_right (bytes_eq p.name.text name) (is_among name (port_names ps)) (rest k)

not_required : (ps : List Port) (name : List ℕ) → is_among name (port_names ps) ≡ false → is_among name (port_names (required ps)) ≡ false
not_required ps name h = by_test (is_among name (port_names (required ps))) refl
  where
    by_test : (b : Bool) → is_among name (port_names (required ps)) ≡ b → b ≡ false
    by_test true e = clash _ (is_among name (port_names ps)) (required_among ps name e) h
    by_test false e = refl

pub required_distinct : (ps : List Port) → Distinct (port_names ps) → Distinct (port_names (required ps))
required_distinct [] d = tt
required_distinct (p ∷ ps) d = by_required (is_required p) (required_distinct ps d.1)
  where
    by_required : (r : Bool) → Distinct (port_names (required ps)) → Distinct (port_names (if r then port_of p ∷ required ps else required ps))
    by_required true rest = (not_required ps p.name.text d.0, rest)
    by_required false rest = rest

-- they have the kinds that they had among all ports
pub required_kind : (ps : List Port) (name : List ℕ) → Distinct (port_names ps) → is_among name (port_names (required ps)) ≡ true → kind_of_port name (required ps) ≡ kind_of_port name ps
required_kind [] name d h = refl
required_kind (p ∷ ps) name d h = by_required (is_required p) h (λ k. required_kind ps name d.1 k)
  where
    by_name : (b : Bool) → (b || is_among name (port_names (required ps))) ≡ true → (is_among name (port_names (required ps)) ≡ true → kind_of_port name (required ps) ≡ kind_of_port name ps)
        → (if b then Some p.kind else kind_of_port name (required ps)) ≡ (if b then Some p.kind else kind_of_port name ps)
    by_name true k rest = refl
    by_name false k rest = rest k

    other : (b : Bool) → bytes_eq p.name.text name ≡ b → is_among name (port_names ps) ≡ true → kind_of_port name (required ps) ≡ kind_of_port name ps
        → kind_of_port name (required ps) ≡ (if b then Some p.kind else kind_of_port name ps)
    other true e a rest = clash _ (is_among name (port_names ps)) a (ap (λ n. is_among n (port_names ps)) (sym (same_name p.name.text name e)) ∙ d.0)
    other false e a rest = rest

    by_required : (r : Bool) → is_among name (port_names (if r then port_of p ∷ required ps else required ps)) ≡ true
        → (is_among name (port_names (required ps)) ≡ true → kind_of_port name (required ps) ≡ kind_of_port name ps)
        → kind_of_port name (if r then port_of p ∷ required ps else required ps) ≡ (if bytes_eq p.name.text name then Some p.kind else kind_of_port name ps)
    by_required true k rest = by_name (bytes_eq p.name.text name) k rest
    by_required false k rest = other (bytes_eq p.name.text name) refl (required_among ps name k) (rest k)

-- none of them is optional
pub required_all : (ps : List Port) → AllByRecursion (λ p. p.optional ≡ false) (required ps)
required_all [] = tt
required_all (p ∷ ps) = by_optional p.optional refl (required_all ps)
  where
    by_optional : (b : Bool) → p.optional ≡ b → AllByRecursion (λ q. q.optional ≡ false) (required ps)
        → AllByRecursion (λ q. q.optional ≡ false) (if not b then port_of p ∷ required ps else required ps)
    by_optional true e rest = rest
    by_optional false e rest = (e, rest)
