use Rattle.std.proofs.Common.{◌+◌, length, take, drop, sym, ap, ◌∙◌, arith, rules, take_all}
use Rattle.std.proofs.lemmas.List.Sums.{position_or_len_is}
use Rattle.std.proofs.lemmas.List.{take_rest, drop_all}
use Rattle.wc_slurm.specs.Lines.{is_bar}
use Rattle.wc_slurm.proofs.lines.parted.Goals as goal

pub returns-in-Some : goal.returns-in-Some
returns-in-Some c =
    let line = c.args.line.now in
    let found = position_or_len_is is_bar line c.in-Some.i 0 (search rules) (search rules) (search rules) in
    record { part = ap (λ n. take n line) (sym found); rest = take_rest line _ ∙ ap (λ n. drop (n + 1) line) (sym found) }

pub returns-in-None : goal.returns-in-None
returns-in-None c =
    let line = c.args.line.now in
    let none = position_or_len_is is_bar line (length line) 0 (omega arith) (search rules) (search rules) in
    record {
      part = sym (ap (λ n. take n line) none ∙ take_all (length line) line (omega arith));
      rest = sym (ap (λ n. drop (n + 1) line) none ∙ drop_all (length line + 1) line (omega arith));
    }
