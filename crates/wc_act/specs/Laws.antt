-- Laws of deeds and views, without disks.
use Rattle.std.specs.Prelude.{◌≡◌, true, Some}
use Rattle.wc_journal.specs.declared.journal.Journal.{Journal}
use Rattle.wc_value.specs.declared.process.Tree.{Tree}
use Rattle.wc_report.specs.Trees.{tree_text}
use Rattle.wc_state.specs.declared.record.ProcessRecord.{ProcessRecord}
use Rattle.wc_semantics.specs.Tables.{Table}
use Rattle.wc_world.specs.World.{World, empty}
use Rattle.wc_world.specs.Accepted.{IsReached}
use Rattle.wc_world.specs.Records.{find_record, has_ended}
use Rattle.wc_machine.specs.Agreement.{Agrees}
use Rattle.wc_machine.specs.Paths.{kills}
use Rattle.wc_machine.specs.Rest.{GivesTree, meant}
use Rattle.wc_machine.specs.Sound.{IsSound}
use Rattle.wc_drill.specs.Runner.Codes.{AreBrought}
use Rattle.wc_drill.specs.Runner.Laws.{StaysSound}
use Rattle.wc_drill.specs.Runner.Marks.{AreNoWorse}
use Rattle.wc_drill.specs.Runner.Outside.{in_run}
use Rattle.wc_io.specs.declared.pacer.Pacer as pacer
use Rattle.wc_transport.specs.declared.transport.Transport as transport
use Rattle.wc_plan.specs.declared.deed.Deed.{Deed}
use Rattle.wc_plan.specs.declared.deed.RunOptions.{RunOptions}
use Rattle.wc_plan.specs.declared.reply.Reply.{Reply}
use Rattle.wc_plan.specs.Replies.{prints}
use Rattle.wc_act.specs.Crashes.{Keeps}
use Rattle.wc_act.specs.Exchanges.{exchange}
use Rattle.wc_act.specs.Rows.{TakesSome, row}
use Rattle.wc_act.specs.StoreDeeds.{Images}
use Rattle.wc_act.specs.Views.{ShowsTree}

-- What a deed may make of a world, at any moment and in any images, by what this transport and this clock gave, is sound where that world is, and continues it.
abbrev pub DeedsKeepSound : {T P : Type 0} → transport.Ghosts T → pacer.Ghosts P → Type 0
DeedsKeepSound {T} {P} g h = (old new : T) (clock clock_new : P) (d : Deed) (before after : Images) (w v : World) → IsReached w
    → (row d).makes (exchange g h old new clock clock_new) before w v after → Keeps w v

-- Each exit code that an image of a run of a sound world keeps, and the world didn't, is that of a result that the transport gave for the job's request. Where no
-- call of it failed, no process has a pause mark that it hadn't, and none failed more often.
abbrev pub ImagesAreBrought : {T P : Type 0} → transport.Ghosts T → pacer.Ghosts P → Type 0
ImagesAreBrought {T} {P} g h = (old new : T) (clock clock_new : P) (o : RunOptions) (before after : Images) (w v : World)
    → TakesSome o (exchange g h old new clock clock_new) before w v after
    → (IsReached w → IsSound w → AreBrought (in_run g h o.limits old new clock_new) w v)
    × (¬ (in_run g h o.limits old new clock_new).failed → AreNoWorse w v)

-- Each world with which a deed may begin a store is sound, and continues the empty one.
abbrev pub DeedsBeginSound : Type 0
DeedsBeginSound = (d : Deed) (v : World) (journal : Journal) → (row d).begins v journal → StaysSound empty v

-- What `tree` tells of a process of a sound world that has ended is the text of the tree that its definition means, by each table that agrees with
-- the recorded results, for its recorded inputs and kills and with the fuel that is kept of it.
abbrev pub ToldTreesAreMeant : Type 0
ToldTreesAreMeant = (w : World) (p : ProcessRecord) (r : Reply) (table : Table) → IsSound w → find_record p.node w.records ≡ Some p → has_ended p.state ≡ true
    → Agrees table w p.node → ShowsTree p.node w r → (t : Tree) × (r ≡ prints (tree_text t)) × GivesTree (meant w p table (kills w p.node) p.fuel) t
