-- Worlds that are wrong in one thing each.
use Rattle.std.specs.Prelude.{ℕ, pos, List, [], ◌∷◌, ◌++◌, Some, None, codes}
use Rattle.wc_value.specs.declared.process.ProcessState.TheVariants as state
use Rattle.wc_value.specs.declared.value.Value.TheVariants as value
use Rattle.wc_graph.specs.declared.link.Link.{Link}
use Rattle.wc_graph.specs.declared.link.LinkType.TheVariants as link
use Rattle.wc_graph.specs.declared.node.NodeKind.{NodeKind}
use Rattle.wc_graph.specs.declared.node.NodeKind.TheVariants as kept
use Rattle.wc_state.specs.declared.record.Part.TheVariants as part
use Rattle.wc_state.specs.declared.record.ProcessRecord.{ProcessRecord}
use Rattle.wc_world.specs.World.{World}
use Rattle.wc_soundness.specs.Words.{arrow}
use Rattle.wc_soundness.specs.FanWorlds as fan
use Rattle.wc_soundness.specs.CachedWorlds as cached

-- ---- the outputs of an ended calculation

-- links with two outputs exchanged
abbrev pub swapped_links : List Link
swapped_links = arrow 1 2 link.InputCalc (codes "x") ∷ (arrow 2 3 link.Create (codes "value") ∷ (arrow 2 4 link.Create (codes "retrieved") ∷ []))

-- its outputs under each other's labels
abbrev pub swapped : World
swapped = record { nodes = cached.ended_nodes; links = swapped_links; records = cached.source ∷ []; libraries = cached.with_caching ∷ []; batches = 6 }

-- nodes with another output
abbrev pub other_nodes : List NodeKind
other_nodes = kept.Data (value.Int (pos 2)) ∷ (kept.Calculation ∷ (kept.Data (value.Folder (fan.printed 52)) ∷ (kept.Data (value.Int (pos 5)) ∷ [])))

-- the folder holds the digit 4, and the output is 5
abbrev pub other_result : World
other_result = record { nodes = other_nodes; links = cached.ended_links; records = cached.source ∷ []; libraries = cached.with_caching ∷ []; batches = 6 }

-- ---- the cache

-- a source that ended in a later batch
abbrev pub late_source : ℕ → ProcessRecord
late_source batch = cached.job_record 2 1 (state.Finished 0) None (Some (pos 0)) 2 batch part.Over

-- the source ended in this batch, and the process that took its outcome had started in batch 8
abbrev pub late : ℕ → World
late batch = record {
  nodes = cached.cloned_nodes;
  links = cached.cloned_links;
  records = late_source batch ∷ (cached.taker ∷ []);
  libraries = cached.with_caching ∷ (cached.with_caching ∷ []);
  batches = 9;
}

-- the job ended with the status that its definition marks, and brought back an empty folder
abbrev pub marked_source : ProcessRecord
marked_source = cached.job_record 2 1 (state.Finished 310) None (Some (pos 0)) 2 6 part.Over

-- a job that took the outcome with a marked status
abbrev pub marked_taker : ProcessRecord
marked_taker = cached.job_record 5 2 (state.Finished 310) (Some 2) None 8 8 part.Over

-- the nodes of a job with a marked status, and of one that took its outcome
abbrev pub marked_nodes : List NodeKind
marked_nodes =
    kept.Data (value.Int (pos 9))
    ∷ (kept.Calculation ∷ (kept.Data (value.Folder []) ∷ (kept.Data (value.Int (pos 9)) ∷ (kept.Calculation ∷ (kept.Data (value.Folder []) ∷ [])))))

-- the links of both
abbrev pub marked_links : List Link
marked_links =
    arrow 1 2 link.InputCalc (codes "x")
    ∷ (arrow 2 3 link.Create (codes "retrieved") ∷ (arrow 4 5 link.InputCalc (codes "x") ∷ (arrow 5 6 link.Create (codes "retrieved") ∷ [])))

-- its outcome was taken all the same
abbrev pub marked : World
marked = record {
  nodes = marked_nodes;
  links = marked_links;
  records = marked_source ∷ (marked_taker ∷ []);
  libraries = cached.with_caching ∷ (cached.with_caching ∷ []);
  batches = 8;
}

-- ---- the calls of a work chain

-- links without that of a call
abbrev pub cut_links : List Link
cut_links =
    (arrow 1 2 link.InputWork (codes "a") ∷ (arrow 1 3 link.InputCalc (codes "x") ∷ (arrow 4 5 link.InputCalc (codes "x") ∷ (arrow 2 5 link.CallCalc fan.two ∷ []))))
    ++ arrow 5 6 link.Create (codes "retrieved") ∷ (arrow 5 7 link.Create (codes "value") ∷ (arrow 3 8 link.Create (codes "retrieved")
    ∷ (arrow 3 9 link.Create (codes "value") ∷ (arrow 2 9 link.Return (codes "first") ∷ (arrow 2 7 link.Return (codes "last") ∷ [])))))

-- the ended chain lacks the link to the first job that it called
abbrev pub cut : World
cut = fan.world fan.full_nodes cut_links (fan.both_over fan.fan_ended) 15

-- the second child before the first
abbrev pub disordered_chain : ProcessRecord
disordered_chain = fan.fan_record state.Waiting 0 2 0 (part.Chain (fan.stands 1 [] (fan.await 5 ∷ (fan.await 3 ∷ [])) []))

-- the waiting chain awaits its children in another order than it called them
abbrev pub disordered : World
disordered = fan.world fan.called_nodes fan.called_links (disordered_chain ∷ (fan.fresh fan.first_job ∷ (fan.fresh fan.second_job ∷ []))) 2

-- ---- what an ended work chain means

-- links that return the outputs exchanged
abbrev pub exchanged_links : List Link
exchanged_links = fan.full_links ++ arrow 2 7 link.Return (codes "first") ∷ (arrow 2 9 link.Return (codes "last") ∷ [])

-- its outputs under each other's labels
abbrev pub exchanged : World
exchanged = fan.world fan.full_nodes exchanged_links (fan.both_over fan.fan_ended) 15

-- the record of a chain that keeps too little fuel
abbrev pub little_chain : ProcessRecord
little_chain = fan.fan_record (state.Finished 0) 1 2 15 part.Over

-- it has kept less fuel than its two calls take
abbrev pub little_fuel : World
little_fuel = fan.world fan.full_nodes fan.returned_links (fan.both_over little_chain) 15
