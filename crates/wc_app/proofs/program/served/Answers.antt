use Rattle.std.proofs.Common.{ℕ, sym, subst}
use Rattle.std.specs.Process.{exit_status}
use Rattle.wc_app.specs.Ends.{IsServed}
use Rattle.wc_app.proofs.program.served.Goals as goal

pub returns : goal.returns
returns g c =
    let m = c.in_ok-machine.machine in
    let is = c.in_ok-machine.ensures in record {
      begun = m;
      ended = c.serve.new.machine;
      one = is.one;
      two = is.two;
      uncalled = is.uncalled;
      folder = is.folder;
      unasked = is.unasked;
      untaken = is.untaken;
      answers = subst (λ (n : ℕ). g.S.Service.answered c.args.service.now c.args.words.now m c.serve.new.machine n) (sym c.from.ensures) c.serve.ensures;
    }
