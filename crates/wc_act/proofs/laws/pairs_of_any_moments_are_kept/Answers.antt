use Rattle.wc_act.specs.Crashes.{BegunBy, HoldsSound, Kept, MadeBy}
use Rattle.wc_act.specs.Exchanges.{exchange}
use Rattle.wc_act.specs.Rows.{row}
use Rattle.wc_act.proofs.Moments.{each_moment}
use Rattle.wc_act.proofs.laws.pairs_of_any_moments_are_kept.Goals as goal

pub returns : goal.returns
returns g c =
    let moments = each_moment g.D.Disk g.met.D.Disk.only_now g.met.D.Disk.counts_now g.met.D.Disk.reads_as g.met.D.Disk.alike in
    record {
      kept = λ d old new clock clock_new one two one_new two_new.
          moments one two one_new two_new (Kept g.D.Disk (row d).begins ((row d).makes (exchange g.T.Transport g.P.Pacer old new clock clock_new)) one two);
      made = λ told words old new clock clock_new one two one_new two_new.
          moments one two one_new two_new (Kept g.D.Disk (BegunBy told words) (MadeBy told words (exchange g.T.Transport g.P.Pacer old new clock clock_new)) one two);
      sound = λ one two one_new two_new. moments one two one_new two_new HoldsSound;
    }
