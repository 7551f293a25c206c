use Rattle.std.proofs.Common.{◌≡◌, [], length, refl, rules, sym, ap}
use Rattle.wc_file_disk.specs.Calls.{calls_of}
use Rattle.wc_file_disk.specs.Calls.FileCall.{measured}
use Rattle.wc_file_disk.proofs.Spans.{between_one, between_weaker, before_kept, keeps_one, keeps_all}
use Rattle.wc_file_disk.proofs.held.HeldFile.len.Goals as goal

pub returns-then-not-branch-clause-len : goal.returns-then-not-branch-clause-len
returns-then-not-branch-clause-len g c =
    between_weaker _ _ (λ before after. before ≡ []) (λ before after. 0 ≡ length before) (c.in_ok-open_once.ensures.empty (search rules)) (λ a b is. sym (ap length is))

pub returns-clause-len : goal.returns-clause-len
returns-clause-len g c =
    before_kept _ _ _ (λ before. c.in_ok-len.len ≡ length before) c.open_once.ensures.kept
    (between_one (calls_of c.open_once.new.self.file.log.events) (calls_of c.len.new.self.log.events) (measured c.in_ok-len.len) (λ before after. c.in_ok-len.len ≡ length before) (search rules) (λ a b answers. answers.0))

pub returns-clause-kept : goal.returns-clause-kept
returns-clause-kept g c =
    keeps_all _ _ _ c.open_once.ensures.kept
    (keeps_one (calls_of c.open_once.new.self.file.log.events) (calls_of c.len.new.self.log.events) (measured c.in_ok-len.len) (search rules) refl)
