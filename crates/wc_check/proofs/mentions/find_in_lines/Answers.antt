use Rattle.std.proofs.Common.{◌∙◌, ap, sym}
use Rattle.std.specs.Prelude.{flat_map}
use Rattle.wc_syntax.specs.Mentions.{mentions}
use Rattle.wc_syntax.specs.Findings.{line_exprs}
use Rattle.wc_check.specs.Sought.{found_at}
use Rattle.wc_check.specs.Least.{least_after}
use Rattle.wc_check.proofs.Leasts.{least_lines}
use Rattle.wc_check.proofs.mentions.find_in_lines.Goals as goal

pub returns-in-Job : goal.returns-in-Job
returns-in-Job c =
    let found = found_at c.args.search.now in
    least_lines (λ e. flat_map found (mentions e)) (λ l. l.value) (λ f. f.value) _ _ _ _ c.in-Job.job.program.value c.in-Job.job.args c.in-Job.job.files
    c.find_in_expr.ensures
    (c.find_in_job_args.ensures ∙ ap (λ ls. least_after c.find_in_expr.new.best (flat_map (λ l. flat_map found (mentions l.value)) ls)) c.as_slice.ensures)
    (c.find_in_files.ensures ∙ ap (λ fs. least_after c.find_in_job_args.new.best (flat_map (λ f. flat_map found (mentions f.value)) fs)) c.as_slice-in-Job.ensures)
    ∙ ap (λ d. least_after c.args.best.now (flat_map (λ e. flat_map found (mentions e)) (line_exprs d))) (sym c.in-Job.is)
