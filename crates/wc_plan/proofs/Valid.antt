-- Bytes that are a text.
use Rattle.std.proofs.Common.{◌≡◌, ℕ, List, Some, None, Result, Ok, Err, IfOk, Bool, true, false, subst, if◌then◌else◌}
use Rattle.std.specs.Str.{is_utf8}
use Rattle.wc_plan.specs.declared.libraries.Read.{Read}
use Rattle.wc_plan.specs.Files.{ReadsText, ReadsBytes}

by_bytes : (file : List ℕ) (valid : Bool) (bytes text : List ℕ) (r : Read) → Some text ≡ (if valid then Some bytes else None) → ReadsText text r → ReadsBytes file valid bytes r
by_bytes file true bytes text r e h = let same : text ≡ bytes = cc in subst (λ (z : List ℕ). ReadsText z r) same h
by_bytes file false bytes text r e h = absurd (cc)

-- what a text is read as, its bytes are read as
pub text_reads : {E : Type 0} (file bytes text : List ℕ) (result : Result Read E) → Some text ≡ (if is_utf8 bytes then Some bytes else None)
    → IfOk result (λ r. ReadsText text r) → IfOk result (λ r. ReadsBytes file (is_utf8 bytes) bytes r)
text_reads file bytes text (Ok r) e h = by_bytes file (is_utf8 bytes) bytes text r e h
text_reads file bytes text (Err x) e h = h
