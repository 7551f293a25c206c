use Rattle.std.proofs.Common.{arith, ◌∙◌, ◌≤◌, sym, ap, subst, List, ℕ, length}
use Rattle.wc_journal.specs.Frame.{framed, payload_in, most_of}
use Rattle.wc_journal.proofs.Appending.{payload_framed}
use Rattle.wc_journal.proofs.batch.Batch.of.Goals as goal

pub invariant_of-result : goal.invariant_of-result
invariant_of-result c =
    let carried = ap (payload_in c.args.version) c.in_ok-bytes.ensures ∙ payload_framed c.args.version c.args.snapshot c.args.payload.now in
    record {
      is_framed = c.in_ok-bytes.ensures ∙ ap (framed c.args.version c.args.snapshot) (sym carried);
      is_small = subst (λ (l : List ℕ). length l ≤ most_of c.args.version) (sym carried) (omega arith);
    }

pub returns-clause-payload : goal.returns-clause-payload
returns-clause-payload c = ap (payload_in c.args.version) c.in_ok-bytes.ensures ∙ payload_framed c.args.version c.args.snapshot c.args.payload.now
