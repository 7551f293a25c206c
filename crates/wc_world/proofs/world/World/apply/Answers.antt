use Rattle.std.proofs.Common.{◌≡◌, ◌+◌, [], refl, sym, ap, subst, ◌∙◌}
use Rattle.std.specs.Vec.Iter.{into_iter_items}
use Rattle.std.proofs.lemmas.List.{nil_from_length}
use Rattle.wc_world.specs.Room.{Holding}
use Rattle.wc_world.specs.Applied.{after_change, begun, applied}
use Rattle.wc_world.specs.Accepted.{setting, IsReached, then_changes}
use Rattle.wc_world.specs.Applying.{world_of, room_of}
use Rattle.wc_world.proofs.Applies.{remain_equal, remain_all, remain_next, remain_none, remain_defined, next_fits}
use Rattle.wc_world.proofs.world.World.apply.Goals as goal

pub loop-change-init : goal.loop-change-init
loop-change-init c =
    let old = c.args.self.now.world in
    let cs = c.args.changes in
    let w = world_of c.self.inside.graph c.self.inside.records c.self.inside.libraries c.self.inside.batches in
    let room = room_of c.self.inside.graph c.self.inside.records c.self.inside.libraries c.self.inside.seals in
    let worlds : old ≡ w = ap (λ h. h.world) (sym c.self.view_is) in
    let rooms : c.args.self.now.room ≡ room = ap (λ h. h.room) (sym c.self.view_is) in
    let items : cs ≡ into_iter_items c.into_iter-change-iterator.result = sym (c.into_iter-change-iterator.ensures.into_iter_gives.0 ∙ c.into_vec-change-items.ensures.value) in
    let reached : IsReached old = subst IsReached (sym worlds) c.self.invariant.0 in
    record {
      can_next = tt;
      is_finite = tt;
      batch = ap (λ v. v.batches + 1) (sym worlds);
      remain =
          remain_equal (setting old cs) (applied old cs) (begun old) (begun w) c.args.self.now.room room cs (into_iter_items c.into_iter-change-iterator.result)
          (ap begun worlds) rooms items (remain_all old c.args.self.now.room cs reached c.requires.accepted c.requires.room);
      sealed = c.self.invariant.1;
      places = c.self.invariant.2;
      digested = ap (λ h. h.digested) c.self.view_is;
    }

pub invariant_of-self : goal.invariant_of-self
invariant_of-self c =
    let old = c.args.self.now.world in
    let now = c.loop-change.self-inside in
    let w = world_of now.graph now.records now.libraries now.batches in
    let room = room_of now.graph now.records now.libraries now.seals in
    let final = applied old c.args.changes in
    let left = into_iter_items c.loop-change.change-iterator in
    let none : left ≡ [] = nil_from_length left (sym c.loop-change.change-iterator.rest.ok.0 ∙ c.in-None.ensures.steps.0) in
    let remain = remain_equal (setting old c.args.changes) final w w room room left [] refl refl none c.loop-change.invariant.remain in
    let reached : IsReached old = subst (λ (h : Holding). IsReached h.world) c.self.view_is c.self.invariant.0 in (
      subst IsReached (sym (remain_none (setting old c.args.changes) final w room remain)) (then_changes old c.args.changes reached c.requires.accepted),
      c.loop-change.invariant.sealed,
      c.loop-change.invariant.places,
    )

pub apply_change-requires-clause-fits : goal.apply_change-requires-clause-fits
apply_change-requires-clause-fits c =
    let s = setting c.args.self.now.world c.args.changes in
    let now = c.loop-change.self-inside in
    let w = world_of now.graph now.records now.libraries now.batches in
    let room = room_of now.graph now.records now.libraries now.seals in
    let final = applied c.args.self.now.world c.args.changes in
    let remain = remain_equal s final w w room room _ _ refl refl c.in-Some.ensures.steps.0 c.loop-change.invariant.remain in
    (s, next_fits s final w room c.in-Some.change (into_iter_items c.next.new.self) remain)

pub loop-change-preserved : goal.loop-change-preserved
loop-change-preserved c =
    let s = setting c.args.self.now.world c.args.changes in
    let now = c.loop-change.self-inside in
    let w = world_of now.graph now.records now.libraries now.batches in
    let room = room_of now.graph now.records now.libraries now.seals in
    let more = room_of c.apply_change.new.graph c.apply_change.new.records c.apply_change.new.libraries c.apply_change.new.seals in
    let next = world_of c.apply_change.new.graph c.apply_change.new.records c.apply_change.new.libraries c.apply_change.new.batches in
    let cs = into_iter_items c.next.new.self in
    let final = applied c.args.self.now.world c.args.changes in
    let remain = remain_equal s final w w room room _ _ refl refl c.in-Some.ensures.steps.0 c.loop-change.invariant.remain in
    let after : after_change s.batch w c.in-Some.change ≡ next =
    sym (c.apply_change.ensures.world ∙ ap (λ b. after_change b w c.in-Some.change) c.loop-change.invariant.batch) in
    record {
      can_next = tt;
      is_finite = tt;
      batch = c.loop-change.invariant.batch;
      remain =
          remain_equal s final (after_change s.batch w c.in-Some.change) next more more cs cs after refl refl
          (remain_next s final w room more c.in-Some.change cs remain (c.apply_change.ensures.room cs remain.enough));
      sealed = c.apply_change.ensures.sealed;
      places = c.apply_change.ensures.places;
      digested = c.loop-change.invariant.digested;
    }

pub apply_change-requires-clause-awaits : goal.apply_change-requires-clause-awaits
apply_change-requires-clause-awaits c =
    c.loop-change.invariant.remain.awaits

pub apply_change-requires-clause-correct : goal.apply_change-requires-clause-correct
apply_change-requires-clause-correct c = c.loop-change.invariant.remain.sound.links

pub apply_change-requires-clause-defined : goal.apply_change-requires-clause-defined
apply_change-requires-clause-defined c =
    let now = c.loop-change.self-inside in
    let w = world_of now.graph now.records now.libraries now.batches in
    let room = room_of now.graph now.records now.libraries now.seals in
    remain_defined (setting c.args.self.now.world c.args.changes) (applied c.args.self.now.world c.args.changes) w room (into_iter_items c.loop-change.change-iterator)
    c.loop-change.invariant.remain

pub apply_change-requires-clause-sealed : goal.apply_change-requires-clause-sealed
apply_change-requires-clause-sealed c = c.loop-change.invariant.sealed
