use Rattle.std.proofs.Common.{subst}
use Rattle.wc_check.specs.Refusals.{IsFirstFinding}
use Rattle.wc_check.proofs.Kept.{kept}
use Rattle.wc_check.proofs.findings.check.Goals as goal

pub share-requires : goal.share-requires
share-requires c = record { writable = c.requires; rules = (kept c.args.library).1 (subst (IsFirstFinding c.args.library) c.in-None.is c.in_ok-first_finding.ensures) }

pub returns-in_ok-share-in-None-clause-ok : goal.returns-in_ok-share-in-None-clause-ok
returns-in_ok-share-in-None-clause-ok c = (kept c.args.library).1 (subst (IsFirstFinding c.args.library) c.in-None.is c.in_ok-first_finding.ensures)
