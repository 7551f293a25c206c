-- Which of the ready processes comes next.
use Rattle.std.specs.Prelude.{◌≡◌, ◌≢◌, ℕ, ◌<◌, ◌/◌, ◌%◌, nat_lt, List, [], length, get_or, unwrap_or, Option, Some, None}
use Rattle.std.specs.List.{find}
use Rattle.wc_value.specs.declared.generator.Generator.{Generator}
use Rattle.wc_value.specs.Draws.{drawn}
use Rattle.wc_world.specs.World.{World}
use Rattle.wc_machine.specs.Readiness.{ready_at}
use Rattle.wc_core.specs.declared.next.Next.{Next}
use Rattle.wc_core.specs.declared.next.Next.TheVariants.{Turn, Rest}
use Rattle.wc_core.specs.declared.order.Order.{Order}
use Rattle.wc_core.specs.declared.order.Order.TheVariants.{Round, Drawn}

-- seed 0 goes round by the numbers, and any other one draws
abbrev pub IsOf : (seed : ℕ) → Order → Type 0
IsOf seed (Round last) = (seed ≡ 0) × (last ≡ 0)
IsOf seed (Drawn g) = (seed ≢ 0) × (g.x ≡ seed)

-- the first number above this one, else the first of all
abbrev pub first_above : ℕ → List ℕ → ℕ
first_above last ids = unwrap_or (find (nat_lt last) ids) (get_or ids 0 0)

-- the one of these that comes next; what is drawn is taken modulo their count
abbrev pub chosen : Order → List ℕ → ℕ
chosen (Round last) ids = first_above last ids
chosen (Drawn g) ids = get_or ids ((drawn g.x / 65536) % length ids) 0

-- the order after this one had its turn
abbrev pub IsAfter : Order → (pid : ℕ) → Order → Type 0
IsAfter (Round last) pid (Round now) = now ≡ pid
IsAfter (Round last) pid (Drawn g) = ⊥
IsAfter (Drawn g) pid (Round now) = ⊥
IsAfter (Drawn g) pid (Drawn h) = h.x ≡ drawn g.x

-- A turn is that of the one which comes next of those that are ready, and a rest leaves the order.
abbrev pub IsChosen : World → (now : ℕ) → Order → Order → Next → Type 0
IsChosen w now old new (Turn pid) = (pid ≡ chosen old (ready_at w now)) × IsAfter old pid new
IsChosen w now old new (Rest until) = new ≡ old

-- the one that comes next of these, and then the order has gone on; where there is none, it stays
abbrev pub IsNextOf : List ℕ → Order → Order → Option ℕ → Type 0
IsNextOf ids old new None = (ids ≡ []) × (new ≡ old)
IsNextOf ids old new (Some pid) = (0 < length ids) × (pid ≡ chosen old ids) × IsAfter old pid new

-- the one at the drawn place of these; where there is none, nothing is drawn
abbrev pub IsDrawn : List ℕ → Generator → Generator → Option ℕ → Type 0
IsDrawn ids old new None = (ids ≡ []) × (new ≡ old)
IsDrawn ids old new (Some pid) = (0 < length ids) × (pid ≡ get_or ids ((drawn old.x / 65536) % length ids) 0) × (new.x ≡ drawn old.x)
