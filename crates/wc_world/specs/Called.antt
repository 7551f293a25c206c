-- Who called whom, and what that decides.
use Rattle.std.specs.Prelude.{◌≡◌, Bool, true, List, All, Some}
use Rattle.std.specs.List.{list_all}
use Rattle.wc_graph.specs.declared.link.Link.{Link}
use Rattle.wc_state.specs.declared.record.ProcessRecord.{ProcessRecord}
use Rattle.wc_records.specs.declared.change.SetProcess.{SetProcess}
use Rattle.wc_records.specs.Readiness.{awaits_of}
use Rattle.wc_world.specs.declared.change.Change.{Change}
use Rattle.wc_world.specs.declared.change.Change.TheVariants as change
use Rattle.wc_world.specs.World.{World}
use Rattle.wc_world.specs.Records.{find_record, has_called}
use Rattle.wc_world.specs.Fits.{set_fits}

-- the process called each one that it awaits
abbrev pub awaits_called : List Link → ProcessRecord → Bool
awaits_called links r = list_all (λ a. has_called links r.node a.pid) (awaits_of r.part)

-- Each process awaits only processes that it called.
abbrev pub AwaitsCalled : World → Type 0
AwaitsCalled w = All (λ r. awaits_called w.links r ≡ true) w.records

-- There is such a process, and it may be set so.
abbrev pub SetFits : World → SetProcess → Type 0
SetFits w c = (r : ProcessRecord) × (find_record c.pid w.records ≡ Some r) × (set_fits w c r ≡ true)

-- Where the change sets a process, it may be set so.
abbrev pub SetsFitting : World → Change → Type 0
SetsFitting w (change.Library l names) = Unit {0}
SetsFitting w (change.Data v) = Unit {0}
SetsFitting w (change.Process n) = Unit {0}
SetsFitting w (change.Link l) = Unit {0}
SetsFitting w (change.Set c) = SetFits w c
SetsFitting w (change.Count n) = Unit {0}
SetsFitting w (change.Kept k) = Unit {0}
