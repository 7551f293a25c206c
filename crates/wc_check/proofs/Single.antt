-- A library has one first refusal.
use Rattle.std.proofs.Common.{◌≡◌, ℕ, List, [], refl, sym, ap, ◌∙◌, subst, if◌then◌else◌}
use Rattle.std.specs.Prelude.{Option, Some, None, ◌==◌}
use Rattle.wc_syntax.specs.declared.definition.Definition.{Definition}
use Rattle.wc_syntax.specs.Findings.{Finding}
use Rattle.wc_syntax.specs.Checked.{findings}
use Rattle.wc_check.specs.declared.error.CheckError.{CheckError}
use Rattle.wc_check.specs.declared.error.CheckError.TheVariants as error
use Rattle.wc_check.specs.Refusals.{Says, IsFirstRefusal, IsFirstFinding}
use Rattle.wc_check.proofs.Leasts.{In, upto_both, contains_in}

-- the refusal of a number, a name and a place
error_by : ℕ → List ℕ → ℕ → CheckError
error_by n name at =
    if n == 1 then error.Twice name at
    else if n == 2 then error.Unknown name at
    else if n == 3 then error.PortMissing name at
    else if n == 4 then error.PortUnknown name at
    else if n == 5 then error.NotData at
    else if n == 6 then error.BadStatus at
    else if n == 7 then error.TooMany at
    else error.BadName name at

error_of : Finding → CheckError
error_of f = error_by f.number f.name f.at

said : (e : CheckError) (f : Finding) → Says e f → error_of f ≡ e
unfolding error_of error_by
said (error.Twice name at) f s = ap error_of s
said (error.Unknown name at) f s = ap error_of s
said (error.PortMissing name at) f s = ap error_of s
said (error.PortUnknown name at) f s = ap error_of s
said (error.NotData at) f s = λ i. error_by (s.0 i) f.name (s.1 i)
said (error.BadStatus at) f s = λ i. error_by (s.0 i) f.name (s.1 i)
said (error.TooMany at) f s = λ i. error_by (s.0 i) f.name (s.1 i)
said (error.BadName name at) f s = ap error_of s
said error.OutOfMemory f s = absurd s

one_refusal : (library : List Definition) (a b : CheckError) → IsFirstRefusal library a → IsFirstRefusal library b → a ≡ b
one_refusal library a b p q =
    let same : p.finding ≡ q.finding = upto_both p.finding q.finding (p.first.least q.finding q.first.among) (q.first.least p.finding p.first.among) in
    sym (said a p.finding p.says) ∙ ap error_of same ∙ said b q.finding q.says

none_refused : (library : List Definition) (e : CheckError) → findings library ≡ [] → IsFirstRefusal library e → ⊥
none_refused library e h p = subst (In p.finding) h (contains_in p.finding (findings library) p.first.among)

pub one_first : (library : List Definition) (a b : Option CheckError) → IsFirstFinding library a → IsFirstFinding library b → a ≡ b
one_first library None None p q = refl
one_first library None (Some e) p q = absurd (none_refused library e p q)
one_first library (Some e) None p q = absurd (none_refused library e q p)
one_first library (Some a) (Some b) p q = ap (λ (e : CheckError). Some e) (one_refusal library a b p q)
