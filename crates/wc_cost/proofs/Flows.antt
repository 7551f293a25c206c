-- Flows that end, or go on: what came before them went on.
use Rattle.std.proofs.Common.{◌≡◌, ℕ, zero, suc, List, None, refl}
use Rattle.wc_syntax.specs.declared.definition.Port.{Port}
use Rattle.wc_semantics.specs.declared.progress.Answer.{Answer}
use Rattle.wc_semantics.specs.declared.progress.Answer.TheVariants.{Gave, TooLittle, Without, Astray}
use Rattle.wc_semantics.specs.declared.progress.Flow.{Flow}
use Rattle.wc_semantics.specs.declared.progress.Flow.TheVariants.{Goes, Ends, NoFuel, Lacks, Off}
use Rattle.wc_semantics.specs.declared.progress.Progress.{Progress}
use Rattle.wc_semantics.specs.declared.progress.Replayed.{Replayed}
use Rattle.wc_semantics.specs.Meaning.{ended}
use Rattle.wc_semantics.specs.Run.{◌>->◌, spend, taken}

-- it went well until it went on, or ended
abbrev pub GoesWell : Flow → Type 0
GoesWell (Goes n e) = Unit {0}
GoesWell (Ends s n e) = Unit {0}
GoesWell NoFuel = ⊥
GoesWell (Lacks q) = ⊥
GoesWell Off = ⊥

pub well_before : (f : Flow) (h : ℕ → Progress → Flow) → GoesWell (f >-> h) → GoesWell f
well_before (Goes n e) h w = tt
well_before (Ends s n e) h w = tt
well_before NoFuel h w = w
well_before (Lacks q) h w = w
well_before Off h w = w

pub well_taken : (x : Answer) (h : Replayed → ℕ → Flow) → GoesWell (taken x h) → (t : Replayed) × (left : ℕ) × (x ≡ Gave t left) × GoesWell (h t left)
well_taken (Gave t left) h w = (t, left, refl, w)
well_taken TooLittle h w = absurd w
well_taken (Without q) h w = absurd w
well_taken Astray h w = absurd w

pub well_spent : (n : ℕ) (f : ℕ → Flow) → GoesWell (spend n f) → (m : ℕ) × (n ≡ suc m) × GoesWell (f m)
well_spent zero f w = absurd w
well_spent (suc m) f w = (m, refl, w)

pub well_ended : (name : List ℕ) (ports : List Port) (f : Flow) (t : Replayed) (m : ℕ) → ended None name ports f ≡ Gave t m → GoesWell f
well_ended name ports (Goes n e) t m h = tt
well_ended name ports (Ends s n e) t m h = tt
well_ended name ports NoFuel t m h = cc
well_ended name ports (Lacks q) t m h = cc
well_ended name ports Off t m h = cc
