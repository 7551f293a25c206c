-- What a refusal of a library says.
use Rattle.std.specs.Prelude.{◌≡◌, List, [], Option, Some, None, ⊤}
use Rattle.wc_syntax.specs.declared.definition.Definition.{Definition}
use Rattle.wc_syntax.specs.Findings.{Finding, twice, unknown, port_missing, port_unknown, bad_name}
use Rattle.wc_syntax.specs.Checked.{findings}
use Rattle.wc_syntax.specs.First.{IsFirst}
use Rattle.wc_check.specs.declared.best.Finding.{Finding as Found}
use Rattle.wc_check.specs.Least.{number_of, told}
use Rattle.wc_check.specs.declared.error.CheckError.{CheckError}
use Rattle.wc_check.specs.declared.error.CheckError.TheVariants as error

-- a finding as contracts see it
abbrev pub finding_seen : Found → Finding
finding_seen f = record { number = number_of f.fault; name = told f.name; at = f.at }

-- the refusal has the finding's number and place, and its name where it has one; want of memory is no finding
abbrev pub Says : CheckError → Finding → Type 0
Says (error.Twice name at) f = f ≡ twice name at
Says (error.Unknown name at) f = f ≡ unknown name at
Says (error.PortMissing name at) f = f ≡ port_missing name at
Says (error.PortUnknown name at) f = f ≡ port_unknown name at
Says (error.NotData at) f = (f.number ≡ 5) × (f.at ≡ at)
Says (error.BadStatus at) f = (f.number ≡ 6) × (f.at ≡ at)
Says (error.TooMany at) f = (f.number ≡ 7) × (f.at ≡ at)
Says (error.BadName name at) f = f ≡ bad_name name at
Says error.OutOfMemory f = ⊥

-- the refusal says what is found, or there is neither
abbrev pub SaysBest : Option CheckError → Option Finding → Type 0
SaysBest None None = ⊤
SaysBest None (Some f) = ⊥
SaysBest (Some e) None = ⊥
SaysBest (Some e) (Some f) = Says e f

-- the refusal is the first finding of the library
pub record IsFirstRefusal (library : List Definition) (e : CheckError) : Type 0 where
  pub finding : Finding
  pub says : Says e finding
  pub first : IsFirst (findings library) finding

-- nothing is found, or this is the first finding
abbrev pub IsFirstFinding : List Definition → Option CheckError → Type 0
IsFirstFinding library None = findings library ≡ []
IsFirstFinding library (Some e) = IsFirstRefusal library e

-- the first finding, or want of memory
abbrev pub IsRefused : List Definition → CheckError → Type 0
IsRefused library error.OutOfMemory = ⊤
IsRefused library e = IsFirstRefusal library e
