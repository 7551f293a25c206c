use Rattle.std.proofs.Common.{◌≡◌, sym, ◌∙◌}
use Rattle.std.specs.Vec.Iter.{into_iter_items}
use Rattle.wc_world.specs.Drafts.{drafted}
use Rattle.wc_world.proofs.Leading.{leads_first, leads_as, leads_next}
use Rattle.wc_world.proofs.draft.Draft.take_all.Goals as goal

pub loop-change-init : goal.loop-change-init
loop-change-init c =
    let d = c.args.self.now in
    let cs = c.args.changes in
    let items : cs ≡ into_iter_items c.into_iter-change-iterator.result = sym (c.into_iter-change-iterator.ensures.into_iter_gives.0 ∙ c.into_vec-change-items.ensures.value) in
    record {
      can_next = tt;
      is_finite = tt;
      leads = leads_as c.args.terms.now (drafted d) cs d cs _ items (leads_first c.args.terms.now d cs c.requires.ascending c.requires.awaits c.requires.settled);
    }

pub loop-change-preserved : goal.loop-change-preserved
loop-change-preserved c =
    let t = c.args.terms.now in
    let w = drafted c.args.self.now in
    let d = c.loop-change.self in
    let rest = into_iter_items c.next.new.self in
    let h = leads_as t w c.args.changes d _ _ c.in-Some.ensures.steps.0 c.loop-change.invariant.leads in
    let e = c.in_ok-take.ensures in
    record {
      can_next = tt;
      is_finite = tt;
      leads = leads_next t w c.args.changes d c.in-Some.change rest h c.take.new.self e.sets e.fits e.world e.touched;
    }
