-- Call paths in a world, and the kills along them.
use Rattle.std.specs.Prelude.{ℕ, ◌&&◌, if◌then◌else◌, List, [], ◌∷◌, Option, Some, None, option_and_then, filter}
use Rattle.std.specs.Str.{bytes_eq}
use Rattle.wc_graph.specs.declared.link.Link.{Link}
use Rattle.wc_semantics.specs.Tables.{Label, Path, Kills}
use Rattle.wc_semantics.specs.Meaning.{is_killed}
use Rattle.wc_state.specs.declared.record.ProcessRecord.{ProcessRecord}
use Rattle.wc_world.specs.World.{World}
use Rattle.wc_world.specs.Records.{find_record, is_call_from}
use Rattle.wc_world.specs.Fits.{calls_from}

-- the process that a process called under a label
abbrev pub called_under : List Link → ℕ → Label → Option ℕ
called_under [] pid label = None
called_under (l ∷ ls) pid label = if is_call_from pid l && bytes_eq l.label label then Some l.target else called_under ls pid label

-- the process at the end of a call path
abbrev pub follow : List Link → ℕ → Path → Option ℕ
follow links pid [] = Some pid
follow links pid (label ∷ path) = option_and_then (λ q. follow links q path) (called_under links pid label)

-- the call links of a process, in order
abbrev pub call_links : World → ℕ → List Link
call_links w pid = filter (is_call_from pid) w.links

-- how many processes a killed one had called
abbrev pub cut_after : World → ProcessRecord → Option ℕ
cut_after w r = if is_killed r.state then Some (calls_from r.node w.links) else None

-- for each killed process that is this one or is reached from it by call links, by its call path, how many processes it had called
abbrev pub kills : World → ℕ → Kills
kills w pid path = option_and_then (λ q. option_and_then (cut_after w) (find_record q w.records)) (follow w.links pid path)
