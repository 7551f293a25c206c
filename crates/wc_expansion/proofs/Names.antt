-- Names that differ, and names that are among others.
use Rattle.std.proofs.Common.{◌≡◌, ◌∙◌, ap, sym, refl, ℕ, Bool, true, false, if◌then◌else◌, List, [], ◌∷◌, ◌++◌, map, Some, None, append_assoc, append-nil}
use Rattle.std.proofs.lemmas.Slice.Eq.{bytes_eq-Decides}
use Rattle.std.specs.Prelude.{flat_map, not, ◌||◌}
use Rattle.std.specs.List.{AllByRecursion}
use Rattle.std.specs.Str.{bytes_eq}
use Rattle.wc_syntax.specs.declared.definition.Definition.{Definition}
use Rattle.wc_syntax.specs.declared.definition.Port.{Port}
use Rattle.wc_syntax.specs.Findings.{Finding, unless, twice, is_among, repeats_after, port_names, head_of, definition_named, required_names, missing_port}
use Rattle.wc_restart.specs.Ports.{required, port_of, is_required}
use Rattle.wc_expansion.proofs.Lists.{none, first, second, or_left, or_right, or_either}

abbrev pub Names : Type 0
Names = List (List ℕ)

-- ---- tests that fail and tests that pass

pub met : (b : Bool) (f : Finding) → b ≡ true → unless b f ≡ []
met b f h = ap (λ c. unless c f) h

pub meets : (b : Bool) (f : Finding) → unless b f ≡ [] → b ≡ true
meets true f h = refl
meets false f h = absurd (cc)

new : (b : Bool) → not b ≡ true → b ≡ false
new true h = absurd (cc)
new false h = refl

-- ---- among others

-- the names of the first are among those of the second
abbrev pub Within : Names → Names → Type 0
Within a b = (n : List ℕ) → is_among n a ≡ true → is_among n b ≡ true

pub same : (a : List ℕ) → bytes_eq a a ≡ true
same a = (bytes_eq-Decides a a).1 refl

pub among_append : (n : List ℕ) (a b : Names) → is_among n (a ++ b) ≡ (is_among n a || is_among n b)
among_append n [] b = refl
among_append n (m ∷ a) b = ap (λ c. bytes_eq m n || c) (among_append n a b) ∙ grouped (bytes_eq m n) (is_among n a) (is_among n b)
  where
    grouped : (x y z : Bool) → (x || (y || z)) ≡ ((x || y) || z)
    grouped true y z = refl
    grouped false y z = refl

pub within_front : (a b : Names) → Within a (a ++ b)
within_front a b n h = among_append n a b ∙ or_left (is_among n a) (is_among n b) h

pub within_append : (a b c : Names) → Within a b → Within (a ++ c) (b ++ c)
within_append a b c w n h =
    among_append n b c ∙ or_either (is_among n a) (is_among n c) (sym (among_append n a c) ∙ h)
    (λ l. or_left (is_among n b) (is_among n c) (w n l)) (λ r. or_right (is_among n b) (is_among n c) r)

pub within_then : (a b c : Names) → Within a b → Within b c → Within a c
within_then a b c v w n h = w n (v n h)

pub among_self : (ps : List Port) → AllByRecursion (λ p. is_among p.name.text (port_names ps) ≡ true) ps
among_self [] = tt
among_self (p ∷ ps) = (or_left (bytes_eq p.name.text p.name.text) (is_among p.name.text (port_names ps)) (same p.name.text), later ps (among_self ps))
  where
    later : (qs : List Port) → AllByRecursion (λ q. is_among q.name.text (port_names ps) ≡ true) qs → AllByRecursion (λ q. is_among q.name.text (port_names (p ∷ ps)) ≡ true) qs
    later [] a = tt
    later (q ∷ qs) a = (or_right (bytes_eq p.name.text q.name.text) (is_among q.name.text (port_names ps)) a.0, later qs a.1)

-- required ports are among the ports
pub required_within : (ps : List Port) → Within (port_names (required ps)) (port_names ps)
required_within [] n h = h
required_within (p ∷ ps) n h = by_test (is_required p) (required_within ps n) h
  where
    by_test : (b : Bool) → (is_among n (port_names (required ps)) ≡ true → is_among n (port_names ps) ≡ true)
        → is_among n (port_names (if b then port_of p ∷ required ps else required ps)) ≡ true → is_among n (port_names (p ∷ ps)) ≡ true
    by_test true rest e = or_either (bytes_eq p.name.text n) (is_among n (port_names (required ps))) e
        (λ l. or_left (bytes_eq p.name.text n) (is_among n (port_names ps)) l) (λ r. or_right (bytes_eq p.name.text n) (is_among n (port_names ps)) (rest r))
    by_test false rest e = or_right (bytes_eq p.name.text n) (is_among n (port_names ps)) (rest e)

-- nothing required is missing among names that have the required ports
pub none_missing : (ps : List Port) (given : Names) (at : ℕ) → Within (port_names (required ps)) given → flat_map (missing_port given at) (required_names ps) ≡ []
none_missing [] given at w = refl
none_missing (p ∷ ps) given at w = by_test p.optional (none_missing ps given at) w
  where
    by_test : (b : Bool) → (Within (port_names (required ps)) given → flat_map (missing_port given at) (required_names ps) ≡ []) → Within (port_names (if not b then port_of p ∷ required ps else required ps)) given → flat_map (missing_port given at) ((if b then [] else p.name.text ∷ []) ++ required_names ps) ≡ []
    by_test true rest v = rest v
    by_test false rest v = none (missing_port given at p.name.text) (flat_map (missing_port given at) (required_names ps))
        (met (is_among p.name.text given) _ (v p.name.text (or_left (bytes_eq p.name.text p.name.text) (is_among p.name.text (port_names (required ps))) (same p.name.text))))
        (rest (λ n h. v n (or_right (bytes_eq p.name.text n) (is_among n (port_names (required ps))) h)))

-- ---- names that differ

-- names that differ from each other and from those before
abbrev pub Differ : Names → Names → Type 0
Differ before [] = Unit {0}
Differ before (n ∷ ns) = (is_among n before ≡ false) × Differ (before ++ n ∷ []) ns

pub differ_of : (before : Names) (xs : List (List ℕ × ℕ)) → repeats_after before xs ≡ [] → Differ before (map (λ x. x.0) xs)
differ_of before [] h = tt
differ_of before (x ∷ xs) h = (
  new (is_among x.0 before) (meets (not (is_among x.0 before)) (twice x.0 x.1) (first (unless (not (is_among x.0 before)) (twice x.0 x.1)) (repeats_after (before ++ x.0 ∷ []) xs) h)),
  differ_of (before ++ x.0 ∷ []) xs (second (unless (not (is_among x.0 before)) (twice x.0 x.1)) (repeats_after (before ++ x.0 ∷ []) xs) h),
)

pub of_differ : (before : Names) (xs : List (List ℕ × ℕ)) → Differ before (map (λ x. x.0) xs) → repeats_after before xs ≡ []
of_differ before [] d = refl
of_differ before (x ∷ xs) d = none (unless (not (is_among x.0 before)) (twice x.0 x.1)) (repeats_after (before ++ x.0 ∷ []) xs)
    (ap (λ (b : Bool). unless (not b) (twice x.0 x.1)) d.0) (of_differ (before ++ x.0 ∷ []) xs d.1)

pub names_of : {A : Type 0} (f : A → List ℕ × ℕ) (xs : List A) → map (λ x. x.0) (map f xs) ≡ map (λ x. (f x).0) xs
names_of f [] = refl
names_of f (x ∷ xs) = λ i. (f x).0 ∷ names_of f xs i

-- fewer names before
not_among : (n : List ℕ) (a b : Names) → Within a b → is_among n b ≡ false → is_among n a ≡ false
not_among n a b w h = by_test (is_among n a) refl
  where
    by_test : (c : Bool) → is_among n a ≡ c → c ≡ false
    by_test true e = let t = w n e in absurd (cc)
    by_test false e = refl

pub differ_required : (ps : List Port) (a b : Names) → Within a b → Differ b (port_names ps) → Differ a (port_names (required ps))
differ_required [] a b w d = tt
differ_required (p ∷ ps) a b w d =
    by_test (is_required p) (differ_required ps (a ++ p.name.text ∷ []) (b ++ p.name.text ∷ []) (within_append a b (p.name.text ∷ []) w) d.1)
    (differ_required ps a (b ++ p.name.text ∷ []) (within_then a b (b ++ p.name.text ∷ []) w (within_front b (p.name.text ∷ []))) d.1)
  where
    by_test : (c : Bool) → Differ (a ++ p.name.text ∷ []) (port_names (required ps)) → Differ a (port_names (required ps)) → Differ a (port_names (if c then port_of p ∷ required ps else required ps))
    by_test true x y = (not_among p.name.text a b w d.0, x)
    by_test false x y = y

-- one name more, which is none of them
pub differ_last : (before ns : Names) (n : List ℕ) → Differ before ns → is_among n (before ++ ns) ≡ false → Differ before (ns ++ n ∷ [])
differ_last before [] n d h = (ap (is_among n) (sym (append-nil before)) ∙ h, tt)
differ_last before (m ∷ ns) n d h = (d.0, differ_last (before ++ m ∷ []) ns n d.1 (ap (is_among n) (append_assoc before (m ∷ []) ns) ∙ h))

abbrev pub named : Definition → List ℕ
named d = (head_of d).name.text

-- a name that no definition has
pub not_named : (n : List ℕ) (library : List Definition) → definition_named n library ≡ None → is_among n (map named library) ≡ false
not_named n [] h = refl
not_named n (d ∷ ds) h = by_test (bytes_eq (named d) n) (not_named n ds) h
  where
    by_test : (b : Bool) → (definition_named n ds ≡ None → is_among n (map named ds) ≡ false) → (if b then Some d else definition_named n ds) ≡ None → (b || is_among n (map named ds)) ≡ false
    by_test true rest e = absurd (cc)
    by_test false rest e = rest e
