use Rattle.std.proofs.Common.{◌≡◌, ◌<◌, ◌-◌, ◌+◌, ◌∷◌, ◌∙◌, ap, sym, subst, drop, length, arith}
use Rattle.wc_check.specs.Signed.{AreSignatures}
use Rattle.wc_check.proofs.Leasts.{drop_at}
use Rattle.wc_check.proofs.calls.all_signatures.Goals as goal

pub loop-at-preserved : goal.loop-at-preserved
loop-at-preserved c =
    let some : 0 < c.loop-at.at = c.loop-at-test.true in
    let more : c.loop-at.at - 1 + 1 ≡ c.loop-at.at = omega arith in
    let inside : c.loop-at.at - 1 < length c.args.library.now = omega (arith, c.loop-at.invariant.within) in
    record {
      within = omega (arith, c.loop-at.invariant.within);
      signed = subst (AreSignatures c.put_signature.new.signatures)
          (sym (drop_at c.args.library.now (c.loop-at.at - 1) c.index-library-at.result inside c.index-library-at.is ∙ ap (λ n. c.index-library-at.result ∷ drop n c.args.library.now) more))
          (c.in_ok-put_signature.ensures (drop c.loop-at.at c.args.library.now) c.loop-at.invariant.signed);
    }
