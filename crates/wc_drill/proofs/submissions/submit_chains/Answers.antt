use Rattle.std.proofs.Common.{◌<◌, ℕ, sym, subst, arith}
use Rattle.wc_drill.proofs.UnderWay.{UnderWay, begins, breaks, goes_on, stands_there, stepped_on}
use Rattle.wc_drill.proofs.submissions.submit_chains.Goals as goal

pub chain-init : goal.chain-init
chain-init g c =
    subst (λ (x : ℕ). UnderWay g.D.Disk c.args.seed c.args.count c.args.store.now c.args.one.now c.args.two.now 0 x c.args.store.now c.args.one.now c.args.two.now) (sym c.new-draws.ensures) (begins g.D.Disk c.args.seed c.args.count c.args.store.now c.args.one.now c.args.two.now g.met.D.Disk.only_now c.requires.live c.requires.stands)

pub submit_chain-requires : goal.submit_chain-requires
submit_chain-requires g c = record {
  live = c.chain.invariant.stepped.call.live;
  stands = stands_there g.D.Disk c.args.seed c.args.count c.args.store.now c.args.one.now c.args.two.now c.chain.submitted c.chain.draws.x c.chain.store c.chain.one c.chain.two c.chain.invariant;
  library = c.requires.library;
}

pub returns-then-submitted-count-clause-stepped : goal.returns-then-submitted-count-clause-stepped
returns-then-submitted-count-clause-stepped g c = c.chain.invariant.stepped

pub returns-in-Err-clause-stepped : goal.returns-in-Err-clause-stepped
returns-in-Err-clause-stepped g c =
    let less : c.chain.submitted < c.args.count = let few = c.chain.invariant.few in let not_all = c.if-submitted-count.false in omega arith in
    stepped_on g.D.Disk c.args.seed c.args.count c.args.store.now c.args.one.now c.args.two.now c.chain.submitted c.chain.draws.x c.chain.store c.chain.one c.chain.two c.chain.invariant
    c.next_numbers-first.result.0 c.next_numbers-first.result.1 (c.next_numbers-first.ensures.numbers c.chain.submitted c.args.seed c.chain.invariant.draws)
    c.submit_chain.new.store c.submit_chain.new.one c.submit_chain.new.two _ less c.in-Err.ensures.stepped

pub returns-in-Err-clause-refused : goal.returns-in-Err-clause-refused
returns-in-Err-clause-refused g c =
    let less : c.chain.submitted < c.args.count = let few = c.chain.invariant.few in let not_all = c.if-submitted-count.false in omega arith in
    let e = c.in-Err.ensures in
    breaks g.D.Disk c.args.seed c.args.count c.args.store.now c.args.one.now c.args.two.now c.chain.submitted c.chain.draws.x c.chain.store c.chain.one c.chain.two c.chain.invariant
    c.next_numbers-first.result.0 c.next_numbers-first.result.1 (c.next_numbers-first.ensures.numbers c.chain.submitted c.args.seed c.chain.invariant.draws)
    c.submit_chain.new.store c.submit_chain.new.one c.submit_chain.new.two c.in-Err.error less e.same e.stepped.comes.version e.refused

pub chain-preserved : goal.chain-preserved
chain-preserved g c =
    let less : c.chain.submitted < c.args.count = let few = c.chain.invariant.few in let not_all = c.if-submitted-count.false in omega arith in
    let e = c.in-Ok.ensures in
    goes_on g.D.Disk c.args.seed c.args.count c.args.store.now c.args.one.now c.args.two.now c.chain.submitted c.chain.draws.x c.chain.store c.chain.one c.chain.two c.chain.invariant
    c.next_numbers-first.result.0 c.next_numbers-first.result.1 (c.next_numbers-first.ensures.numbers c.chain.submitted c.args.seed c.chain.invariant.draws)
    c.submit_chain.new.store c.submit_chain.new.one c.submit_chain.new.two c.next_numbers-first.new.draws.x less
    (c.next_numbers-first.ensures.next c.chain.submitted c.args.seed c.chain.invariant.draws) e.ok e.stepped
