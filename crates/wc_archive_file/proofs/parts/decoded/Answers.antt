use Rattle.std.proofs.Common.{◌≡◌, List, Ok, subst, ℕ}
use Rattle.hex.specs.Hex.{decode_of}
use Rattle.wc_archive_file.specs.Reads.{Refuses}
use Rattle.wc_archive_file.proofs.Digits.{undecoded}
use Rattle.wc_archive_file.proofs.parts.decoded.Goals as goal

pub returns-in-Err : goal.returns-in-Err
returns-in-Err c =
    subst (λ (ds : List ℕ). Refuses ((bytes : List ℕ) → decode_of ds ≡ Ok bytes → ⊥) c.misread_by.result) c.as_bytes.ensures.value
    (undecoded c.as_bytes.result.now _ c.misread_by.result c.in-Err.ensures.err c.misread_by.ensures)
