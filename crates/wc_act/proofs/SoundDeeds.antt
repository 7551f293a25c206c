-- What deeds make of sound worlds, and what is told of them.
use Rattle.std.proofs.Common.{◌≡◌, ◌≤◌, ◌+◌, inl, inr, ⊎_elim, length, Option, Some, None, true, sym, subst, arith}
use Rattle.wc_io.specs.declared.pacer.Pacer as pacer
use Rattle.wc_journal.specs.declared.journal.Journal.{Journal}
use Rattle.wc_transport.specs.declared.transport.Transport as transport
use Rattle.wc_value.specs.declared.process.Tree.{Tree}
use Rattle.wc_report.specs.Trees.{tree_text}
use Rattle.wc_state.specs.declared.record.ProcessRecord.{ProcessRecord}
use Rattle.wc_semantics.specs.Tables.{Table}
use Rattle.wc_world.specs.World.{World, empty}
use Rattle.wc_world.specs.Accepted.{IsReached, then_changes}
use Rattle.wc_world.specs.Applied.{applied}
use Rattle.wc_world.specs.Records.{find_record, has_ended}
use Rattle.wc_world.specs.Trees.{recorded_tree}
use Rattle.wc_world.proofs.ReachedLists.{found_has}
use Rattle.wc_world.proofs.ReachedWorlds.{reached_is_consistent}
use Rattle.wc_machine.specs.Agreement.{Agrees}
use Rattle.wc_machine.specs.Continues.{Continues}
use Rattle.wc_machine.specs.Machine.{after_changes}
use Rattle.wc_machine.specs.Paths.{kills}
use Rattle.wc_machine.specs.Rest.{GivesTree, meant}
use Rattle.wc_machine.specs.Sound.{IsSound, IsMeant}
use Rattle.wc_drill.specs.Soundness.EventLaws.{EventsKeepSound}
use Rattle.wc_drill.proofs.Runner.Happening.{after_some}
use Rattle.wc_drill.specs.Sound.{DrillsAreSound}
use Rattle.wc_drill.specs.Runner.Laws.{StaysSound, WorldsContinueThemselves}
use Rattle.wc_drill.specs.Runner.Outside.{in_run}
use Rattle.wc_drill.proofs.Runner.Codes.{turns_bring}
use Rattle.wc_drill.proofs.Runner.Led.{led_is_taken}
use Rattle.wc_drill.proofs.Runner.ManyTurns.{turns_sound}
use Rattle.wc_drill.proofs.Runner.Marked.{turns_no_worse}
use Rattle.wc_plan.specs.declared.deed.Asked.{Asked}
use Rattle.wc_plan.specs.declared.deed.Begin.TheVariants as begin
use Rattle.wc_plan.specs.declared.deed.Deed.TheVariants as deed
use Rattle.wc_plan.specs.declared.deed.Work.{Work}
use Rattle.wc_plan.specs.declared.deed.Work.TheVariants as work
use Rattle.wc_plan.specs.declared.reply.Reply.{Reply}
use Rattle.wc_plan.specs.Replies.{prints}
use Rattle.wc_act.specs.Crashes.{Keeps}
use Rattle.wc_act.specs.Events.{IsMadeBy, event_of, limits_of}
use Rattle.wc_act.specs.Exchanges.{exchange}
use Rattle.wc_act.specs.Laws.{DeedsKeepSound, DeedsBeginSound, ImagesAreBrought, ToldTreesAreMeant}
use Rattle.wc_act.specs.Rows.{work_row}
use Rattle.wc_act.specs.StoreDeeds.{Images}
use Rattle.wc_act.specs.Views.{ShowsTree}
use Rattle.wc_act.proofs.Asking.{one_batch}
use Rattle.wc_act.proofs.Leaving.{keeps_itself, empty_stays}

module _ (events : EventsKeepSound) (same_law : WorldsContinueThemselves) where
  same_keeps : (w v : World) → IsReached w → v ≡ w → Keeps w v
  same_keeps w v reached same = subst (Keeps w) (sym same) (keeps_itself same_law w reached)

  made_keeps : (a : Asked) (journal : Journal) (w v : World) (next : Journal) → IsReached w → IsMadeBy a journal w v next → Keeps w v
  made_keeps a journal w v next reached m sound =
      let cs = m.changes in
      let later : IsReached (applied w cs) = then_changes w cs reached m.accepted in
      let same : after_changes w cs ≡ applied w cs = after_some w cs m.some in
      let few : length (applied w cs).nodes ≤ 8000000 = (reached_is_consistent (applied w cs) later).few in
      let many : (applied w cs).batches ≤ 4000000000 = (reached_is_consistent (applied w cs) later).batches in
      let more : (applied w cs).batches ≡ w.batches + 1 = one_batch w a cs m.leads in
      let s = events (limits_of a).poll_ms w (event_of a) cs sound m.leads
      (λ some. record { nodes = subst (λ (x : World). length x.nodes ≤ 8000000) (sym same) few; batches = omega (arith, more, many) }) in
      subst (StaysSound w) (sym m.after) (record { sound = subst IsSound same s.sound; continues = subst (Continues w) same s.continues; reached = later })

  module _ {T P : Type 0} (g : transport.Ghosts T) (h : pacer.Ghosts P) where
    work_keeps : (old new : T) (clock clock_new : P) (k : Work) (before after : Images) (w v : World) → IsReached w
        → (work_row k).makes (exchange g h old new clock clock_new) before w v after → Keeps w v
    work_keeps old new clock clock_new (work.View x) before after w v reached m = same_keeps w v reached m.same
    work_keeps old new clock clock_new (work.Event a) before after w v reached m =
        ⊎_elim (λ same. same_keeps w v reached same.0) (λ made. made_keeps a m.journal w v m.next reached made) m.made
    work_keeps old new clock clock_new (work.Run o) before after w v reached m =
        let t = (led_is_taken g h o.limits o.turns old clock w m.journal new clock_new v m.next m.led).0 in
        λ sound. turns_sound (in_run g h o.limits old new clock_new) t.count t.rests w v reached sound t.turns
    work_keeps old new clock clock_new work.Pack before after w v reached m = same_keeps w v reached m.same

    pub deeds_keep : DeedsKeepSound g h
    deeds_keep old new clock clock_new (deed.Begin begin.Init) before after w v reached m = absurd m
    deeds_keep old new clock clock_new (deed.Begin (begin.Drill seed count)) before after w v reached m = absurd m
    deeds_keep old new clock clock_new (deed.Work k) before after w v reached m = work_keeps old new clock clock_new k before after w v reached m

-- ---- what runs leave in images

pub images_brought : {T P : Type 0} (g : transport.Ghosts T) (h : pacer.Ghosts P) → ImagesAreBrought g h
images_brought g h old new clock clock_new o before after w v takes =
    let t = (led_is_taken g h o.limits o.turns old clock w takes.journal new clock_new v takes.next takes.led).0 in (
      λ reached sound. turns_bring (in_run g h o.limits old new clock_new) t.count t.rests w v reached sound t.turns,
      λ ok. turns_no_worse (in_run g h o.limits old new clock_new) ok t.count t.rests w v t.turns,
    )

pub deeds_begin : DrillsAreSound → DeedsBeginSound
deeds_begin drills (deed.Begin begin.Init) v journal h = subst (StaysSound empty) (sym h.0) empty_stays
deeds_begin drills (deed.Begin (begin.Drill seed count)) v journal h = drills seed count v h.drills
deeds_begin drills (deed.Work k) v journal h = absurd h

-- ---- what `tree` tells

one_tree : (o : Option Tree) (s t : Tree) → o ≡ Some s → o ≡ Some t → s ≡ t
one_tree o s t is too = cc

told_tree : (w : World) (p : ProcessRecord) (r : Reply) (table : Table) → find_record p.node w.records ≡ Some p → Agrees table w p.node → IsMeant w p → ShowsTree p.node w r
    → (t : Tree) × (r ≡ prints (tree_text t)) × GivesTree (meant w p table (kills w p.node) p.fuel) t
told_tree w p r table found agrees meant_so (inl none) = absurd (nothing_is (find_record p.node w.records) p found none.0)
  where
    nothing_is : (o : Option ProcessRecord) (q : ProcessRecord) → o ≡ Some q → o ≡ None → ⊥
    nothing_is o q is none = absurd (cc)
told_tree w p r table found agrees meant_so (inr shown) =
    let m = meant_so table agrees in
    let same : m.0 ≡ shown.0 = one_tree (recorded_tree w p.node) m.0 shown.0 m.1 shown.1 in
    (shown.0, shown.2, subst (GivesTree (meant w p table (kills w p.node) p.fuel)) same m.2)

pub told_trees_are_meant : ToldTreesAreMeant
told_trees_are_meant w p r table sound found ended agrees shows =
    told_tree w p r table found agrees
    (found_has (λ q. has_ended q.state ≡ true → IsMeant w q) p.node w.records p found sound.ended ended) shows
