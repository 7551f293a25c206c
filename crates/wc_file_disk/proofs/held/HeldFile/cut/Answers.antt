use Rattle.std.proofs.Common.{◌≡◌, take, rules, arith}
use Rattle.std.proofs.lemmas.Result.{on_ok_weaker}
use Rattle.wc_file_disk.specs.Calls.{calls_of}
use Rattle.wc_file_disk.specs.Calls.FileCall.{cut}
use Rattle.wc_file_disk.proofs.Spans.{between_one, after_kept, uncut}
use Rattle.wc_file_disk.proofs.held.HeldFile.cut.Goals as goal

pub returns-then-not-self-clause-shorter : goal.returns-then-not-self-clause-shorter
returns-then-not-self-clause-shorter g c =
    uncut _ _ c.in_ok-there.there c.args.len (c.in_ok-there.ensures.missing (search rules)) (search (rules, arith)) c.in_ok-there.ensures.len c.len.ensures.kept

pub returns-clause-shorter : goal.returns-clause-shorter
returns-clause-shorter g c =
    on_ok_weaker c.set_len.result
    (λ noted. after_kept _ _ _ (λ before after. after ≡ take c.args.len before) c.len.ensures.kept
    (between_one (calls_of c.len.new.self.file.log.events) (calls_of c.set_len.new.self.log.events) (cut c.args.len) (λ before after. after ≡ take c.args.len before) noted (λ a b is. is)))
    c.set_len.ensures.noted
