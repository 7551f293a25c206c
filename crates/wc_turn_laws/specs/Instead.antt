-- What a run comes to with other calls before it.
use Rattle.std.specs.Prelude.{◌≡◌, ℕ, List, ◌++◌, drop}
use Rattle.wc_semantics.specs.declared.progress.Answer.{Answer}
use Rattle.wc_semantics.specs.declared.progress.Answer.TheVariants.{Gave, TooLittle, Without, Astray}
use Rattle.wc_semantics.specs.declared.progress.Flow.{Flow}
use Rattle.wc_semantics.specs.declared.progress.Flow.TheVariants.{Goes, Ends, NoFuel, Lacks, Off}
use Rattle.wc_semantics.specs.declared.progress.Progress.{Progress}
use Rattle.wc_semantics.specs.declared.progress.Replayed.{Replayed}
use Rattle.wc_semantics.specs.Tables.{Label}

-- calls with what was asked for each
abbrev pub MadeCalls : Type 0
MadeCalls = List (Label × Replayed)

-- progress with these calls in place of so many earlier ones
abbrev pub instead : ℕ → MadeCalls → Progress → Progress
instead k cs e = record { env = e.env; outputs = e.outputs; calls = cs ++ drop k e.calls }

-- where a run comes to, with these calls in place of so many earlier ones
abbrev pub flow_instead : ℕ → MadeCalls → Flow → Flow
flow_instead k cs (Goes n e) = Goes n (instead k cs e)
flow_instead k cs (Ends s n e) = Ends s n (instead k cs e)
flow_instead k cs NoFuel = NoFuel
flow_instead k cs (Lacks q) = Lacks q
flow_instead k cs Off = Off

-- one tree and one amount of fuel, whatever was asked for it; or one lack
abbrev pub GiveOneTree : Answer → Answer → Type 0
GiveOneTree (Gave r n) (Gave s m) = (n ≡ m) × (r.tree ≡ s.tree)
GiveOneTree TooLittle TooLittle = Unit {0}
GiveOneTree (Without q) (Without p) = q ≡ p
GiveOneTree Astray Astray = Unit {0}
GiveOneTree _ _ = ⊥
