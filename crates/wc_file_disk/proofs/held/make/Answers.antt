use Rattle.std.proofs.Common.{[], ◌≡◌, refl, rules}
use Rattle.std.proofs.lemmas.Result.{on_ok_weaker}
use Rattle.wc_file_disk.specs.Calls.{calls_of}
use Rattle.wc_file_disk.specs.Calls.FileCall.{created}
use Rattle.wc_file_disk.proofs.Spans.{keeps_one, keeps_all, before_kept}
use Rattle.wc_file_disk.proofs.held.make.Goals as goal

pub returns-in_err-hold-clause-kept : goal.returns-in_err-hold-clause-kept
returns-in_err-hold-clause-kept g c =
    keeps_all _ _ _ (keeps_one (calls_of c.args.file.now.log.events) (calls_of c.create.new.self.log.events) created (search rules) refl) c.hold.ensures.kept

pub returns-clause-empty : goal.returns-clause-empty
returns-clause-empty g c =
    on_ok_weaker c.is_new.result
    (λ is. before_kept _ _ _ (λ before. before ≡ [])
    (keeps_all _ _ _ (keeps_one (calls_of c.args.file.now.log.events) (calls_of c.create.new.self.log.events) created (search rules) refl) c.hold.ensures.kept) is)
    c.is_new.ensures.empty

pub returns-clause-kept : goal.returns-clause-kept
returns-clause-kept g c =
    keeps_all _ _ _
    (keeps_all _ _ _ (keeps_one (calls_of c.args.file.now.log.events) (calls_of c.create.new.self.log.events) created (search rules) refl) c.hold.ensures.kept)
    c.is_new.ensures.kept
