use Rattle.std.proofs.Common.{◌≡◌, ◌≤◌, ◌+◌, ◌-◌, ◌∷◌, List, ℕ, length, take, drop, max, min, refl, ◌∙◌, ap, rules, arith, length-take-le, length-drop}
use Rattle.std.proofs.lemmas.List.{take_rest}
use Rattle.wc_disk.specs.Steps.{overwritten}
use Rattle.wc_file_disk.specs.Calls.{calls_of, is_held, floor}
use Rattle.wc_file_disk.specs.Calls.FileCall.{wrote}
use Rattle.wc_file_disk.proofs.Loops.{between_same, write_then, write_whole}
use Rattle.wc_file_disk.proofs.held.write_all.Goals as goal

pub returns-then-done-bytes-clause-written : goal.returns-then-done-bytes-clause-written
returns-then-done-bytes-clause-written g c = write_whole _ _ c.args.at c.loop.done c.args.bytes.now c.requires.within (search (rules, arith)) c.loop.invariant.written

pub loop-preserved-in_default : goal.loop-preserved-in_default
loop-preserved-in_default g c =
    let before = calls_of c.loop.file.log.events in
    let now = calls_of c.write_some.new.self.log.events in
    let same : now ≡ before = c.in_ok-taken.ensures.interrupted (search rules) in
    record {
      path = search rules;
      held = ap is_held same ∙ c.loop.invariant.held;
      within = c.loop.invariant.within;
      stays = omega (arith, ap floor same, c.loop.invariant.stays);
      reaches = omega (arith, ap floor same, c.loop.invariant.reaches);
      written = between_same _ before now (λ old new. c.args.at ≤ length old → new ≡ overwritten c.args.at (take c.loop.done c.args.bytes.now) old) same c.loop.invariant.written;
    }

pub loop-preserved : goal.loop-preserved
loop-preserved g c =
    let bytes = c.args.bytes.now in
    let done = c.loop.done in
    let taken = c.in-Some.taken in
    let place = c.args.at + done in
    let before = calls_of c.loop.file.log.events in
    let now = calls_of c.write_some.new.self.log.events in
    let given : now ≡ wrote place (take taken (take (length bytes - done) (drop done bytes))) ∷ before = search rules in
    let noted : now ≡ wrote place (take taken (drop done bytes)) ∷ before = given ∙ ap (λ (l : List ℕ). wrote place (take taken l) ∷ before) (take_rest bytes done) in
    let part : taken ≤ length (take (length bytes - done) (drop done bytes)) = search rules in
    let within : taken ≤ length (drop done bytes) = omega (arith, part, ap length (take_rest bytes done)) in
    let fits : done + taken ≤ length bytes = omega (arith, within, length-drop done bytes, c.loop.invariant.within) in
    let size : length (take taken (drop done bytes)) ≡ taken = length-take-le taken (drop done bytes) within in
    let floors : floor now ≡ max (floor before) (min place (floor before) + length (take taken (drop done bytes))) = ap floor noted in
    record {
      path = search rules;
      held = ap is_held noted ∙ c.loop.invariant.held;
      within = fits;
      stays = omega (arith, floors, c.loop.invariant.stays);
      reaches = omega (arith, floors, size, c.loop.invariant.reaches);
      written = write_then _ before now c.args.at place done taken bytes refl fits noted c.loop.invariant.written;
    }
