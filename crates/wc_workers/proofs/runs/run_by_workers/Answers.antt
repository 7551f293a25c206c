use Rattle.std.proofs.Common.{inl, inr, refl, arith}
use Rattle.wc_store.specs.Stepped.{of_world}
use Rattle.wc_store.proofs.Stepping.{not_stepped, stands_now}
use Rattle.wc_pool.specs.Pools.{IsNew}
use Rattle.wc_runner.specs.Asked.{AreOfProcesses}
use Rattle.wc_runner.specs.Outside.{in_run}
use Rattle.wc_runner.specs.Refusals.{is_live_after}
use Rattle.wc_runner.specs.Runs.{TakesFewer}
use Rattle.wc_runner.specs.Trips.{none}
use Rattle.wc_runner.proofs.Codes.{turns_bring}
use Rattle.wc_runner.proofs.Marked.{turns_no_worse}
use Rattle.wc_runner.proofs.Taken.{asked_none, asked_up_to, rises_by_none}
use Rattle.wc_workers.specs.Works.{IsLedByNew}
use Rattle.wc_workers.proofs.ByNew.{or_memory, spent_told, stepped_by_new, went_by_new}
use Rattle.wc_workers.proofs.Worked.{new_holds_none}
use Rattle.wc_workers.proofs.runs.run_by_workers.Goals as goal

pub returns-in-Ok : goal.returns-in-Ok
returns-in-Ok g c =
    let s = c.args.store.now in
    let w = s.world.world in
    let p = c.in-Ok.pool in
    let v = c.run_workers.new.store in
    let new : IsNew c.args.workers p = c.in-Ok.ensures.new in
    let holds = new_holds_none c.args.workers p new in
    let r = c.run_workers.ensures in
    record {
      stepped = stepped_by_new g.D.Disk g.T.Transport g.P.Pacer c.args.limits.now c.args.workers c.args.seed c.args.turns c.args.transport.now c.args.pacer.now p new s c.args.one.now c.args.two.now
          (is_live_after c.run_workers.result) v c.run_workers.new.one c.run_workers.new.two c.run_workers.new.transport c.run_workers.new.pacer r.stepped;
      went = went_by_new g.T.Transport g.P.Pacer c.args.limits.now c.args.workers c.args.seed c.args.turns c.args.transport.now c.args.pacer.now w p new c.run_workers.result v.journal
          c.run_workers.new.transport c.run_workers.new.pacer c.run_workers.new.pool v.world.world r.went;
      ends = r.ends;
      spent = spent_told g.T.Transport g.P.Pacer c.args.limits.now c.args.workers c.args.seed c.args.turns c.args.transport.now c.args.pacer.now w p new c.run_workers.result v.journal
          c.run_workers.new.transport c.run_workers.new.pacer c.run_workers.new.pool v.world.world r.went;
      takes = r.takes holds;
      fewer = or_memory c.run_workers.result (TakesFewer (in_run g.T.Transport g.P.Pacer c.args.limits.now c.args.transport.now c.run_workers.new.transport c.run_workers.new.pacer) c.args.turns w v.world.world
          (g.P.Pacer.rests c.args.pacer.now) (g.P.Pacer.rests c.run_workers.new.pacer)) (r.fewer holds);
      refused = r.refused holds;
      marks = r.marks holds;
      codes = r.codes holds;
      directories = r.directories;
      processes = r.processes;
      asked = r.asked;
    }

pub returns-in-Err : goal.returns-in-Err
returns-in-Err g c =
    let s = c.args.store.now in
    let w = s.world.world in
    let a = c.args.transport.now in
    let o = in_run g.T.Transport g.P.Pacer c.args.limits.now a a c.args.pacer.now in
    record {
      stepped = not_stepped g.D.Disk (IsLedByNew g.T.Transport g.P.Pacer c.args.limits.now c.args.workers c.args.seed c.args.turns a c.args.pacer.now w s.journal a c.args.pacer.now) s c.args.one.now
          c.args.two.now g.met.D.Disk.only_now c.requires.live c.requires.stands (inl (refl, refl));
      went = inr (refl, refl, refl, refl);
      ends = tt;
      spent = tt;
      takes = (
        0,
        omega arith,
        record {
          count = 0;
          rests = 0;
          all_of_them = refl;
          turns = none w;
          batches = omega arith;
          rested = rises_by_none (g.P.Pacer.rests c.args.pacer.now);
        },
      );
      fewer = inl refl;
      refused = tt;
      marks = λ ok. turns_no_worse o ok 0 0 w w (none w);
      codes = λ reached sound. turns_bring o 0 0 w w reached sound (none w);
      directories = λ are told told_too. stands_now g.D.Disk s (of_world (AreOfProcesses (g.T.Transport.placed a))) c.args.one.now c.args.two.now (c.requires.stands told told_too) are;
      processes = λ are. are;
      asked = asked_up_to g.T.Transport 0 c.args.turns a a (omega arith) (asked_none g.T.Transport a);
    }
