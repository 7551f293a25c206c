use Rattle.std.proofs.Common.{sym, subst}
use Rattle.sha2.specs.declared.Sha256.{Sha256}
use Rattle.sha2.specs.Hashers.{Holds256}
use Rattle.wc_keys.specs.SealKeys.{key_start}
use Rattle.wc_keys.proofs.HashersKept.{begun_put}
use Rattle.wc_keys.proofs.beginnings.begin_once.Goals as goal

pub returns-clause-kept : goal.returns-clause-kept
returns-clause-kept c = λ libraries had at.
    begun_put libraries c.args.begun.now c.insert.new.self c.args.place c.in_ok-clone.field-0 c.args.text.now c.in_ok-insert.ensures.updates at
    (subst (λ (h : Sha256). Holds256 h (key_start c.args.text.now)) (sym c.in_ok-clone.ensures.cases) c.key_hasher-hasher.ensures) had
