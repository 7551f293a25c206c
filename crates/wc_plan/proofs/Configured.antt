-- Settings: a file gives one thing, and the names with caching on ascend.
use Rattle.std.proofs.Common.{◌≡◌, ℕ, ℤ, pos, List, [], ◌∷◌, Option, Some, None, Result, Ok, Err, IfOk, Bool, true, false, ◌&&◌, ◌||◌, if◌then◌else◌, refl, sym, ap, subst, ◌∙◌, lit≤}
use Rattle.std.specs.Prelude.{IsSome, is_some}
use Rattle.std.specs.Map.{keys_of}
use Rattle.std.specs.Str.{bytes_eq}
use Rattle.std.specs.List.{AllByRecursion}
use Rattle.std.specs.List.Sorted.{IsStrictlySortedBy}
use Rattle.std.specs.Ordering.{nat_cmp, is_lt}
use Rattle.std.specs.declared.cmp.Ordering.{Ordering}
use Rattle.std.specs.declared.cmp.Ordering.TheVariants.{Less}
use Rattle.std.specs.Cmp.Lexicographic.{slice_cmp}
use Rattle.toml.specs.Data.{Members}
use Rattle.toml.specs.Parse.{parse_document}
use Rattle.wc_value.specs.Ascending.{Ascends, before, put}
use Rattle.wc_value.proofs.Puts.{ascends_put, same_name}
use Rattle.wc_syntax.specs.Bare.{bare_library}
use Rattle.wc_syntax.specs.Findings.{definition_named, head_of, is_among}
use Rattle.wc_syntax.specs.declared.definition.Definition.{Definition}
use Rattle.wc_syntax.specs.declared.definition.Definition.TheVariants as definition
use Rattle.wc_state.specs.Ranges.{AreLimits}
use Rattle.wc_fits.specs.Fits.{names_ascend, ascend_after}
use Rattle.wc_config.specs.Reading.{Reads, RefusesAt}
use Rattle.wc_config.specs.Refusals.{Refusal, least, refusals}
use Rattle.wc_config.specs.Settings.{AreOf, caching_on}
use Rattle.wc_config.specs.declared.error.ConfigError.{ConfigError}
use Rattle.wc_config.specs.declared.error.ConfigError.TheVariants as config
use Rattle.wc_config.specs.declared.refusals.Kind.{Kind}
use Rattle.wc_config.specs.declared.refusals.Kind.TheVariants as kind
use Rattle.wc_config.specs.declared.settings.Settings.{Settings}
use Rattle.wc_plan.specs.declared.status.Cause.{Cause}
use Rattle.wc_plan.specs.declared.status.Cause.TheVariants as cause
use Rattle.wc_plan.specs.declared.submission.Invocation.{Invocation}
use Rattle.wc_plan.specs.Settings.{usual_settings, IsNoSettings, ReadsConfig, ReadsSettings, SettingsFrom, SettingsReady, with_name, with_names, names_on, submitted_with}
use Rattle.wc_plan.specs.Submits.{IsCallable, IsReady}

-- ---- offsets play no part in names

names_with_bare : (t : Settings) (ds : List Definition) (names : List (List ℕ × Unit {0})) → with_names t (bare_library ds) names ≡ with_names t ds names
names_with_bare t [] names = refl
names_with_bare t (definition.Function f ∷ ds) names = names_with_bare t ds (with_name t f.head.name.text names)
names_with_bare t (definition.Job j ∷ ds) names = names_with_bare t ds (with_name t j.head.name.text names)
names_with_bare t (definition.Chain c ∷ ds) names = names_with_bare t ds (with_name t c.head.name.text names)

pub names_bare : (t : Settings) (ds : List Definition) → names_on t (bare_library ds) ≡ names_on t ds
names_bare t ds = ap keys_of (names_with_bare t ds [])

-- ---- the names ascend

is_before : (o : Ordering) → o ≡ Less → is_lt o ≡ true
is_before o h = ap is_lt h

both_true : (a b : Bool) → a ≡ true → b ≡ true → (a && b) ≡ true
both_true true b p q = q
both_true false b p q = absurd (cc)

behind : (last : List ℕ) (es : List (List ℕ × Unit {0})) → AllByRecursion (λ k. slice_cmp nat_cmp last k ≡ Less) (keys_of es) → Ascends es
    → ascend_after (Some last) (keys_of es) ≡ true
unfolding IsStrictlySortedBy
behind last [] after a = refl
behind last (e ∷ es) after a =
    both_true (before last e.0) (ascend_after (Some e.0) (keys_of es)) (is_before (slice_cmp nat_cmp last e.0) after.0) (behind e.0 es a.0 a.1)

keys_ascend : (es : List (List ℕ × Unit {0})) → Ascends es → names_ascend (keys_of es) ≡ true
unfolding IsStrictlySortedBy
keys_ascend [] a = refl
keys_ascend (e ∷ es) a = behind e.0 es a.0 a.1

name_ascends : (t : Settings) (name : List ℕ) (names : List (List ℕ × Unit {0})) → Ascends names → Ascends (with_name t name names)
name_ascends t name names a = at (caching_on t name)
  where
    at : (b : Bool) → Ascends (if b then put name tt names else names)
    at true = ascends_put name tt names a
    at false = a

all_ascend : (t : Settings) (ds : List Definition) (names : List (List ℕ × Unit {0})) → Ascends names → Ascends (with_names t ds names)
all_ascend t [] names a = a
all_ascend t (definition.Function f ∷ ds) names a = all_ascend t ds (with_name t f.head.name.text names) (name_ascends t f.head.name.text names a)
all_ascend t (definition.Job j ∷ ds) names a = all_ascend t ds (with_name t j.head.name.text names) (name_ascends t j.head.name.text names a)
all_ascend t (definition.Chain c ∷ ds) names a = all_ascend t ds (with_name t c.head.name.text names) (name_ascends t c.head.name.text names a)

none_ascends : Ascends {T = Unit {0}} []
unfolding IsStrictlySortedBy
none_ascends = tt

pub names_on_ascend : (t : Settings) (library : List Definition) → names_ascend (names_on t library) ≡ true
names_on_ascend t library = keys_ascend (with_names t library []) (all_ascend t library [] none_ascends)

-- ---- which names they are

swapped : (a b c : Bool) → (a || (b || c)) ≡ (b || (a || c))
swapped true true c = refl
swapped true false c = refl
swapped false b c = refl

repeated : (a c : Bool) → (a || c) ≡ (a || (a || c))
repeated true c = refl
repeated false c = refl

or_false : (a : Bool) → a ≡ (a || false)
or_false true = refl
or_false false = refl

among_put : (name m : List ℕ) (es : List (List ℕ × Unit {0})) → is_among name (keys_of (put m tt es)) ≡ (bytes_eq m name || is_among name (keys_of es))
among_put name m [] = refl
among_put name m (e ∷ es) = at (before e.0 m) (bytes_eq e.0 m) refl (among_put name m es)
  where
    at : (b c : Bool) → bytes_eq e.0 m ≡ c → is_among name (keys_of (put m tt es)) ≡ (bytes_eq m name || is_among name (keys_of es))
        → is_among name (keys_of (if b then e ∷ put m tt es else if c then (m, tt) ∷ es else (m, tt) ∷ e ∷ es))
        ≡ (bytes_eq m name || (bytes_eq e.0 name || is_among name (keys_of es)))
    at true c p rest = ap (λ (x : Bool). bytes_eq e.0 name || x) rest ∙ swapped (bytes_eq e.0 name) (bytes_eq m name) (is_among name (keys_of es))
    at false true p rest =
        subst (λ (k : List ℕ). (bytes_eq m name || is_among name (keys_of es)) ≡ (bytes_eq m name || (bytes_eq k name || is_among name (keys_of es))))
        (sym (same_name e.0 m p)) (repeated (bytes_eq m name) (is_among name (keys_of es)))
    at false false p rest = refl

among_with : (t : Settings) (name m : List ℕ) (es : List (List ℕ × Unit {0}))
    → is_among name (keys_of (with_name t m es)) ≡ ((caching_on t m && bytes_eq m name) || is_among name (keys_of es))
among_with t name m es = at (caching_on t m)
  where
    at : (b : Bool) → is_among name (keys_of (if b then put m tt es else es)) ≡ ((b && bytes_eq m name) || is_among name (keys_of es))
    at true = among_put name m es
    at false = refl

-- a definition more, of this name or another
one_more : (on_it on among there : Bool) (eq : Bool) → (eq ≡ true → on_it ≡ on)
    → (((on_it && eq) || among) || (there && on)) ≡ (among || ((eq || there) && on))
one_more on_it on among there true same =
    subst (λ (o : Bool). (((o && true) || among) || (there && on)) ≡ (among || (true && on))) (sym (same refl)) (both on among there)
  where
    both : (on among there : Bool) → (((on && true) || among) || (there && on)) ≡ (among || (true && on))
    both true true there = refl
    both true false there = refl
    both false true there = refl
    both false false true = refl
    both false false false = refl
one_more on_it on among there false same = none on_it
  where
    none : (o : Bool) → (((o && false) || among) || (there && on)) ≡ (among || (there && on))
    none true = refl
    none false = refl

is_there : (b : Bool) (d : Definition) (o : Option Definition) → is_some (if b then Some d else o) ≡ (b || is_some o)
is_there true d o = refl
is_there false d o = refl

among_all : (t : Settings) (name : List ℕ) (ds : List Definition) (es : List (List ℕ × Unit {0}))
    → is_among name (keys_of (with_names t ds es)) ≡ (is_among name (keys_of es) || (is_some (definition_named name ds) && caching_on t name))
among_all t name [] es = or_false (is_among name (keys_of es))
among_all t name (d ∷ ds) es =
    let m : List ℕ = (head_of d).name.text in
    let there : Bool = is_some (definition_named name ds) in
    among_all t name ds (with_name t m es)
    ∙ ap (λ (x : Bool). x || (there && caching_on t name)) (among_with t name m es)
    ∙ one_more (caching_on t m) (caching_on t name) (is_among name (keys_of es)) there (bytes_eq m name) (λ same. ap (caching_on t) (same_name m name same))
    ∙ ap (λ (x : Bool). is_among name (keys_of es) || (x && caching_on t name)) (sym (is_there (bytes_eq m name) d (definition_named name ds)))

-- a name is among them exactly where the library has a definition of it, and caching is on for it
pub names_on_are : (t : Settings) (library : List Definition) (name : List ℕ)
    → is_among name (names_on t library) ≡ (is_some (definition_named name library) && caching_on t name)
names_on_are t library name = among_all t name library []

-- ---- one thing

same_number : (m n : ℕ) (z : ℤ) → pos m ≡ z → pos n ≡ z → m ≡ n
same_number m n z p q = let same : pos m ≡ pos n = p ∙ sym q in cc

of_one_table : (ms : Members) (s t : Settings) → AreOf ms s → AreOf ms t → s ≡ t
of_one_table ms s t p q = λ i. record {
  default_on = (p.default ∙ sym q.default) i;
  enabled = (p.enabled ∙ sym q.enabled) i;
  disabled = (p.disabled ∙ sym q.disabled) i;
  limits = record {
    max_nodes = same_number s.limits.max_nodes t.limits.max_nodes _ p.nodes q.nodes i;
    max_bytes = same_number s.limits.max_bytes t.limits.max_bytes _ p.bytes q.bytes i;
    poll_ms = same_number s.limits.poll_ms t.limits.poll_ms _ p.poll q.poll i;
  };
}

same_table : (bytes : List ℕ) (m n : Members) → parse_document bytes ≡ Some m → parse_document bytes ≡ Some n → m ≡ n
same_table bytes m n p q = let same : Some m ≡ Some n = sym p ∙ q in cc

no_table : (bytes : List ℕ) (m : Members) → parse_document bytes ≡ Some m → parse_document bytes ≡ None → ⊥
no_table bytes m p q = let same : Some m ≡ None = sym p ∙ q in absurd (cc)

no_refusal : (r : Refusal) (o : Option Refusal) → o ≡ None → o ≡ Some r → ⊥
no_refusal r o p q = let same : None ≡ Some r = sym p ∙ q in absurd (cc)

same_reads : (bytes : List ℕ) (s t : Settings) → Reads bytes s → Reads bytes t → s ≡ t
same_reads bytes s t p q =
    of_one_table p.table s t p.settings (subst (λ (m : Members). AreOf m t) (same_table bytes q.table p.table q.parsed p.parsed) q.settings)

reads_or_refused_at : (bytes : List ℕ) (s : Settings) (k : Kind) (key : List ℕ) → Reads bytes s → RefusesAt bytes k key → ⊥
reads_or_refused_at bytes s k key p q =
    no_refusal (k, key) (least (refusals p.table)) p.fine (ap (λ (m : Members). least (refusals m)) (same_table bytes p.table q.table p.parsed q.parsed) ∙ q.least)

reads_or_none : (bytes : List ℕ) (s : Settings) (e : ConfigError) → Reads bytes s → IsNoSettings bytes e → ⊥
reads_or_none bytes s config.NotToml p q = no_table bytes p.table p.parsed (q p.utf8)
reads_or_none bytes s (config.UnknownKey key) p q = reads_or_refused_at bytes s kind.UnknownKey key p q
reads_or_none bytes s (config.BadValue key) p q = reads_or_refused_at bytes s kind.BadValue key p q
reads_or_none bytes s config.OutOfMemory p q = q

the_refusal : (r s : Refusal) → Some r ≡ Some s → r ≡ s
the_refusal r s h = cc

unlike : kind.UnknownKey ≡ kind.BadValue → ⊥
unlike h = cc

same_least : (bytes : List ℕ) (k l : Kind) (key other : List ℕ) → RefusesAt bytes k key → RefusesAt bytes l other → (k ≡ l) × (key ≡ other)
same_least bytes k l key other p q =
    let r : Refusal = (k, key) in
    let s : Refusal = (l, other) in
    let same : r ≡ s = the_refusal r s (sym p.least ∙ ap (λ (m : Members). least (refusals m)) (same_table bytes p.table q.table p.parsed q.parsed) ∙ q.least) in
    (ap (λ (x : Refusal). x.0) same, ap (λ (x : Refusal). x.1) same)

unknown_or_bad : (bytes key other : List ℕ) → RefusesAt bytes kind.UnknownKey key → RefusesAt bytes kind.BadValue other → ⊥
unknown_or_bad bytes key other p q = unlike (same_least bytes kind.UnknownKey kind.BadValue key other p q).0

one_reason : (bytes : List ℕ) (e f : ConfigError) → IsNoSettings bytes e → IsNoSettings bytes f → e ≡ f
one_reason bytes config.NotToml config.NotToml p q = refl
one_reason bytes config.NotToml (config.UnknownKey key) p q = absurd (no_table bytes q.table q.parsed (p q.utf8))
one_reason bytes config.NotToml (config.BadValue key) p q = absurd (no_table bytes q.table q.parsed (p q.utf8))
one_reason bytes config.NotToml config.OutOfMemory p q = absurd q
one_reason bytes (config.UnknownKey key) config.NotToml p q = absurd (no_table bytes p.table p.parsed (q p.utf8))
one_reason bytes (config.UnknownKey key) (config.UnknownKey other) p q =
    ap config.UnknownKey (same_least bytes kind.UnknownKey kind.UnknownKey key other p q).1
one_reason bytes (config.UnknownKey key) (config.BadValue other) p q = absurd (unknown_or_bad bytes key other p q)
one_reason bytes (config.UnknownKey key) config.OutOfMemory p q = absurd q
one_reason bytes (config.BadValue key) config.NotToml p q = absurd (no_table bytes p.table p.parsed (q p.utf8))
one_reason bytes (config.BadValue key) (config.UnknownKey other) p q = absurd (unknown_or_bad bytes other key q p)
one_reason bytes (config.BadValue key) (config.BadValue other) p q =
    ap config.BadValue (same_least bytes kind.BadValue kind.BadValue key other p q).1
one_reason bytes (config.BadValue key) config.OutOfMemory p q = absurd q
one_reason bytes config.OutOfMemory f p q = absurd p

-- the bytes of a settings file are read as one thing
one_config : (bytes : List ℕ) (s t : Result Settings Cause) → ReadsConfig bytes s → ReadsConfig bytes t → s ≡ t
one_config bytes (Ok s) (Ok t) p q = ap Ok (same_reads bytes s t p q)
one_config bytes (Ok s) (Err c) p q = absurd (reads_or_none bytes s q.0 p q.1)
one_config bytes (Err c) (Ok t) p q = absurd (reads_or_none bytes t p.0 q p.1)
one_config bytes (Err c) (Err d) p q = ap Err (p.2 ∙ ap cause.Settings (one_reason bytes p.0 q.0 p.1 q.1) ∙ sym q.2)

pub one_settings : (file : List ℕ) (content : Option (List ℕ)) (s t : Result Settings Cause) → ReadsSettings file content s → ReadsSettings file content t → s ≡ t
one_settings file None s t p q = p ∙ sym q
one_settings file (Some bytes) s t p q = one_config bytes s t p q

pub settings_from : (told : Option (List ℕ → Option (List ℕ))) (file : Option (List ℕ)) (s t : Result Settings Cause) → IsSome told → SettingsFrom told file s
    → SettingsFrom told file t → s ≡ t
settings_from told None s t h p q = p ∙ sym q
settings_from None (Some file) s t h p q = absurd (cc)
settings_from (Some contents) (Some file) s t h p q =
    one_settings file p.0 s t p.2 (subst (λ (z : Option (List ℕ)). ReadsSettings file z t) (q.1 ∙ sym p.1) q.2)

-- ---- within their ranges

usual_ready : SettingsReady (Ok usual_settings)
usual_ready = record { some_nodes = lit≤ tt; few_nodes = lit≤ tt; some_bytes = lit≤ tt; few_bytes = lit≤ tt; later = lit≤ tt; soon = lit≤ tt }

config_ready : (bytes : List ℕ) (s : Result Settings Cause) → ReadsConfig bytes s → SettingsReady s
config_ready bytes (Ok s) p = p.settings.limits
config_ready bytes (Err c) p = tt

content_ready : (file : List ℕ) (content : Option (List ℕ)) (s : Result Settings Cause) → ReadsSettings file content s → SettingsReady s
content_ready file None s p = subst SettingsReady (sym p) tt
content_ready file (Some bytes) s p = config_ready bytes s p

pub settings_ready : (told : Option (List ℕ → Option (List ℕ))) (file : Option (List ℕ)) (s : Result Settings Cause) → SettingsFrom told file s → SettingsReady s
settings_ready told None s p = subst SettingsReady (sym p) usual_ready
settings_ready told (Some file) s p = content_ready file p.0 s p.2

-- what a call answers
pub result_settings_ready : {E : Type 0} (told : Option (List ℕ → Option (List ℕ))) (file : Option (List ℕ)) (result : Result (Result Settings Cause) E)
    → IfOk result (λ s. SettingsFrom told file s) → IfOk result (λ s. SettingsReady s)
result_settings_ready told file (Ok s) h = settings_ready told file s h
result_settings_ready told file (Err e) h = h

-- what is submitted with settings is ready
pub submission_ready : (t : Settings) (i : Invocation) → IsCallable i.library i.name i.inputs → AreLimits t.limits → IsReady (submitted_with t i)
submission_ready t i callable limits = record { callable = callable; names = names_on_ascend t i.library; limits = limits }
