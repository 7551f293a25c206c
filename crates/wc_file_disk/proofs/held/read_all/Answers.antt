use Rattle.std.proofs.Common.{◌≡◌, ◌≤◌, ◌+◌, ◌-◌, ◌∷◌, length, take, refl, ◌∙◌, ap, rules, arith, length-take-le}
use Rattle.std.proofs.lemmas.List.{places}
use borrow.Rule.Slice.PartMut.{put_mid}
use Rattle.wc_file_disk.specs.Calls.{calls_of, is_held, floor}
use Rattle.wc_file_disk.specs.Calls.FileCall.{read}
use Rattle.wc_file_disk.proofs.Spans.{keeps_none, keeps_one, keeps_all}
use Rattle.wc_file_disk.proofs.Loops.{take_joined, read_then, read_nothing}
use Rattle.wc_file_disk.proofs.held.read_all.Goals as goal

pub loop-preserved-in_default : goal.loop-preserved-in_default
loop-preserved-in_default g c =
    let before = calls_of c.loop.file.log.events in
    let now = calls_of c.read_some.new.self.log.events in
    let same : now ≡ before = c.in_ok-count.ensures.interrupted (search rules) in
    record {
      path = search rules;
      held = ap is_held same ∙ c.loop.invariant.held;
      within = search (rules, places);
      stays = ap floor same ∙ c.loop.invariant.stays;
      kept = keeps_all _ _ _ c.loop.invariant.kept (keeps_none before now same);
      size = search (rules, places);
      bytes = read_nothing _ before now c.args.at c.loop.done (length c.loop.into - c.loop.done) c.loop.into c.read_some.new.into c.loop.invariant.within same c.loop.invariant.bytes;
    }

pub loop-preserved : goal.loop-preserved
loop-preserved g c =
    let before = calls_of c.loop.file.log.events in
    let now = calls_of c.read_some.new.self.log.events in
    let part = take c.in-Some.count c.read_some.new.into in
    let noted : now ≡ read (c.args.at + c.loop.done) part ∷ before = search rules in
    let fits : c.in-Some.count ≤ length c.read_some.new.into = search rules in
    let room : length c.read_some.new.into ≡ length c.loop.into - c.loop.done = search (rules, places) in
    let size : length (put_mid c.loop.done (length c.loop.into - c.loop.done) c.loop.into c.read_some.new.into) ≡ length c.loop.into = search (rules, places) in
    record {
      path = search rules;
      held = ap is_held noted ∙ c.loop.invariant.held;
      within = omega (arith, size, fits, room, c.loop.invariant.within);
      stays = ap floor noted ∙ c.loop.invariant.stays;
      kept = keeps_all _ _ _ c.loop.invariant.kept (keeps_one before now (read (c.args.at + c.loop.done) part) noted refl);
      size = size ∙ c.loop.invariant.size;
      bytes = read_then _ before now c.args.at (c.args.at + c.loop.done) c.loop.done c.in-Some.count c.loop.into _ part refl (length-take-le c.in-Some.count c.read_some.new.into fits)
          (take_joined c.loop.done (length c.loop.into - c.loop.done) c.in-Some.count c.loop.into c.read_some.new.into c.loop.invariant.within fits) noted c.loop.invariant.kept c.loop.invariant.bytes;
    }

pub returns-then-count-eq0-clause-kept : goal.returns-then-count-eq0-clause-kept
returns-then-count-eq0-clause-kept g c =
    let before = calls_of c.loop.file.log.events in
    let now = calls_of c.read_some.new.self.log.events in
    let part = take c.in-Some.count c.read_some.new.into in
    let noted : now ≡ read (c.args.at + c.loop.done) part ∷ before = search rules in
    keeps_all _ _ _ c.loop.invariant.kept (keeps_one before now (read (c.args.at + c.loop.done) part) noted refl)
