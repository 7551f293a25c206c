use Rattle.std.proofs.Common.{rules, sym, ◌∙◌}
use Rattle.std.specs.Prelude.{FitsSigned}
use Rattle.std.specs.Int.{w64}
use Rattle.std.proofs.lemmas.Int.{to_z-of_z}
use Rattle.wc_archive_file.proofs.Numerals.{code_none, code_other, code_some}
use Rattle.wc_archive_file.proofs.numbers.code_of.Goals as goal

pub returns-then-is_written_so : goal.returns-then-is_written_so
returns-then-is_written_so c =
    let f : FitsSigned w64 c.in-Some.code = search rules in
    let e = code_some _ c.in-Some.code c.in-Some.ensures (sym c.if-is_written_so.true ∙ c.is_written_so.ensures) in
    simp to_z-of_z (e, f)

pub returns-else-is_written_so : goal.returns-else-is_written_so
returns-else-is_written_so c = code_other _ (sym c.if-is_written_so.false ∙ c.is_written_so.ensures)

pub returns-in-None : goal.returns-in-None
returns-in-None c = code_none _ c.in-None.ensures
