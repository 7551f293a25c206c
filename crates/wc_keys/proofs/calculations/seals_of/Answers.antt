use Rattle.std.proofs.Common.{◌≡◌, List, length, subst, sym, ap, ◌∙◌}
use Rattle.wc_records.specs.Marked.{IsSorted}
use Rattle.wc_keys.specs.Order.{earlier, is_in, has_digest, NumbersAscend}
use Rattle.wc_fits.specs.World.{Known}
use Rattle.wc_keys.specs.Keys.{digest_from}
use Rattle.wc_keys.proofs.SealEntries.{entries_ascend, entries_exact}
use Rattle.wc_keys.proofs.calculations.seals_of.Goals as goal

pub of-seals-requires : goal.of-seals-requires
of-seals-requires c =
    let graph = c.args.graph.now in
    subst NumbersAscend (sym c.in_ok-entries_in.ensures) (entries_ascend graph.nodes graph.links c.as_slice.result.now (length graph.nodes) c.args.records.now.0 c.requires)

pub returns-clause-entries : goal.returns-clause-entries
returns-clause-entries c =
    let graph = c.args.graph.now in
    let records = c.args.records.now.0 in
    let same : c.reserve.new.self.0 ≡ c.of-seals.result.0 = c.reserve.ensures.same in
    record {
      order = subst (IsSorted earlier) (sym same) c.of-seals.ensures.order;
      exact = λ digest pid. ap (is_in digest pid) same
          ∙ c.of-seals.ensures.entries digest pid
          ∙ ap (is_in digest pid) c.in_ok-entries_in.ensures
          ∙ entries_exact graph.nodes graph.links c.as_slice.result.now 0 (length graph.nodes) records c.requires digest pid
          ∙ ap (λ (ls : List Known). has_digest digest (digest_from graph.nodes graph.links ls records pid)) c.as_slice.ensures;
    }
