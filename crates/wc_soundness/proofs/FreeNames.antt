-- No output port of a job of a sound world has the name of the folder that it brings back.
use Rattle.std.proofs.Common.{◌≡◌, ℕ, zero, suc, Bool, true, false, Some, None, List, [], ◌∷◌, ◌++◌, map, refl, sym, ap, subst, ◌∙◌}
use Rattle.std.specs.Prelude.{All, not, codes, flat_map, if◌then◌else◌, slice_get}
use Rattle.std.specs.List.{AllByRecursion}
use Rattle.std.specs.Str.{bytes_eq}
use Rattle.std.proofs.lemmas.Option.{slice_get_within, get_or_from_slice_get}
use Rattle.std.proofs.lemmas.Slice.Eq.{bytes_eq-Decides}
use Rattle.wc_syntax.specs.Bare.{bare_definition, bare_library, bare_port}
use Rattle.wc_syntax.specs.Checked.{IsCheckedDefinition}
use Rattle.wc_syntax.specs.Findings.{Finding, definition_named, head_of, is_among, reserved_port, reserved_ports, result_names, twice, unless}
use Rattle.wc_syntax.specs.declared.definition.Definition.{Definition}
use Rattle.wc_syntax.specs.declared.definition.Definition.TheVariants as definition
use Rattle.wc_syntax.specs.declared.definition.Job.{Job}
use Rattle.wc_syntax.specs.declared.definition.Port.{Port}
use Rattle.wc_semantics.specs.Rules.{kind_of_port}
use Rattle.wc_world.specs.World.{Known}
use Rattle.wc_world.specs.Records.{library_at}
use Rattle.wc_world.proofs.ReachedLists.{option_map_some}
use Rattle.wc_machine.specs.Submissions.{IsKeptLibrary}
use Rattle.wc_machine.proofs.FunctionMeaning.{definition_parts}
use Rattle.wc_soundness.specs.JobLaws.{RetrievedIsFree}

empty_last : (xs ys : List Finding) → xs ++ ys ≡ [] → ys ≡ []
empty_last [] ys h = h
empty_last (x ∷ xs) ys h = absurd (cc)

-- a name that isn't among these is not the first
not_first : (name : List ℕ) → is_among name result_names ≡ false → (b : Bool) → bytes_eq name (codes "retrieved") ≡ b → b ≡ false
not_first name h true is =
    let same : name ≡ codes "retrieved" = (bytes_eq-Decides name (codes "retrieved")).0 is in
    let among : is_among name result_names ≡ true = ap (λ (n : List ℕ). is_among n result_names) same in
    absurd (cc (among, h))
not_first name h false is = refl

free_ports : (ps : List Port) → flat_map reserved_port ps ≡ [] → kind_of_port (codes "retrieved") (map bare_port ps) ≡ None
free_ports [] h = refl
free_ports (p ∷ ps) h = at (is_among p.name.text result_names) refl h (λ e. free_ports ps e)
  where
    at : (b : Bool) → is_among p.name.text result_names ≡ b → unless (not b) (twice p.name.text p.name.at) ++ flat_map reserved_port ps ≡ []
        → (flat_map reserved_port ps ≡ [] → kind_of_port (codes "retrieved") (map bare_port ps) ≡ None)
        → kind_of_port (codes "retrieved") (map bare_port (p ∷ ps)) ≡ None
    at true is e more = absurd (cc)
    at false is e more =
        let other : bytes_eq p.name.text (codes "retrieved") ≡ false = not_first p.name.text is (bytes_eq p.name.text (codes "retrieved")) refl in
        ap (λ (b : Bool). if b then Some p.kind else kind_of_port (codes "retrieved") (map bare_port ps)) other ∙ more e

free_definition : (d : Definition) (j : Job) → reserved_ports d ≡ [] → Some (bare_definition d) ≡ Some (definition.Job j)
    → kind_of_port (codes "retrieved") j.head.outputs ≡ None
free_definition (definition.Function f) j h e = absurd (cc)
free_definition (definition.Job i) j h e =
    let same : bare_definition (definition.Job i) ≡ definition.Job j = cc in
    let head : (head_of (bare_definition (definition.Job i))).outputs ≡ j.head.outputs = ap (λ (d : Definition). (head_of d).outputs) same in
    ap (kind_of_port (codes "retrieved")) (sym head) ∙ free_ports i.head.outputs (empty_last (flat_map reserved_port i.head.inputs) (flat_map reserved_port i.head.outputs) h)
free_definition (definition.Chain c) j h e = absurd (cc)

free_named : (library : List Definition) (name : List ℕ) (j : Job) (ds : List Definition) → AllByRecursion (IsCheckedDefinition library) ds
    → definition_named name (bare_library ds) ≡ Some (definition.Job j) → kind_of_port (codes "retrieved") j.head.outputs ≡ None
free_named library name j [] h e = absurd (cc)
free_named library name j (d ∷ ds) h e =
    at (bytes_eq (head_of (bare_definition d)).name.text name) e (λ more. free_named library name j ds h.1 more)
  where
    at : (b : Bool) → (if b then Some (bare_definition d) else definition_named name (bare_library ds)) ≡ Some (definition.Job j)
        → (definition_named name (bare_library ds) ≡ Some (definition.Job j) → kind_of_port (codes "retrieved") j.head.outputs ≡ None)
        → kind_of_port (codes "retrieved") j.head.outputs ≡ None
    at true e more = free_definition d j h.0.ports_free e
    at false e more = more e

kept_at : (libraries : List Known) (number : ℕ) (l : List Definition) → All (λ k. IsKeptLibrary k.0) libraries → library_at libraries number ≡ Some l → IsKeptLibrary l
kept_at libraries zero l h e = absurd (cc)
kept_at libraries (suc place) l h e =
    let k = option_map_some (λ (x : Known). x.0) (slice_get libraries place) l e in
    subst IsKeptLibrary k.2
    (subst (λ (x : Known). IsKeptLibrary x.0) (get_or_from_slice_get libraries place k.0 k.0 k.1) (h place k.0 (slice_get_within libraries place k.0 k.1)))

pub retrieved_is_free : RetrievedIsFree
retrieved_is_free w r j s d =
    let p = definition_parts r.definition (library_at w.libraries r.library) (definition.Job j) d in
    let kept : IsKeptLibrary p.0 = kept_at w.libraries r.library p.0 s.libraries p.1 in
    free_named kept.0 r.definition j kept.0 kept.1.rules.each (ap (definition_named r.definition) kept.2 ∙ p.2)
