use Rattle.std.proofs.Common.{◌≡◌, ◌+◌, ◌-◌, ◌/◌, true, false, ap, sym, ◌∙◌, arith}
use Rattle.std.specs.Ordering.{nat_cmp, is_lt}
use Rattle.std.specs.Cmp.Lexicographic.{slice_cmp}
use Rattle.wc_value.specs.Ascending.{before}
use Rattle.wc_value.proofs.Searches.{place_behind, place_not_behind, place_within}
use Rattle.wc_value.proofs.keyed.place_of.Goals as goal

pub loop-low-init : goal.loop-low-init
loop-low-init g c = record { behind = omega arith; not_behind = place_within c.args.name.now c.args.entries.now; within = omega arith }

pub loop-low-preserved-then-is_lt : goal.loop-low-preserved-then-is_lt
loop-low-preserved-then-is_lt g c =
    let lesser : before c.index-entries-middle.result.0 c.args.name.now ≡ true
    = ap (λ e. before e.0 c.args.name.now) c.index-entries-middle.is ∙ sym (c.is_lt.ensures ∙ ap is_lt (c.cmp.ensures ∙ ap (λ b. slice_cmp nat_cmp b c.args.name.now) c.bytes.ensures.value)) ∙ c.if-is_lt.true in
    let below = c.loop-low-test.true in
    let within = c.loop-low.invariant.within in
    let more = place_behind c.args.name.now c.args.entries.now (c.loop-low.low + (c.loop-low.high - c.loop-low.low) / 2) c.index-entries-middle.result _ c.requires (omega arith) c.index-entries-middle.is lesser in
    record { behind = omega arith; not_behind = c.loop-low.invariant.not_behind; within = c.loop-low.invariant.within }

pub loop-low-preserved : goal.loop-low-preserved
loop-low-preserved g c =
    let lesser : before c.index-entries-middle.result.0 c.args.name.now ≡ false
    = ap (λ e. before e.0 c.args.name.now) c.index-entries-middle.is ∙ sym (c.is_lt.ensures ∙ ap is_lt (c.cmp.ensures ∙ ap (λ b. slice_cmp nat_cmp b c.args.name.now) c.bytes.ensures.value)) ∙ c.if-is_lt.false in
    let below = c.loop-low-test.true in
    let within = c.loop-low.invariant.within in
    record {
      behind = c.loop-low.invariant.behind;
      not_behind = place_not_behind c.args.name.now c.args.entries.now _ c.index-entries-middle.result _ (omega arith) c.index-entries-middle.is lesser;
      within = omega arith;
    }
