-- What a contract sees of a window.
use Rattle.std.specs.Prelude.{ℕ, List, refl}
use Rattle.std.specs.Coded.{Coded, code_by, coded×, coded_list, coded_ℕ}

-- items, and for how many there is room
pub record Held (T : Type 0) : Type 0 where
  pub items : List T
  pub room : ℕ

-- they are stored as the pair of both
abbrev pub held_code : {T : Type 0} → Coded T → Coded (Held T)
held_code {T} code = code_by (List T × ℕ) (coded× (coded_list code) coded_ℕ) (λ h. (h.items, h.room)) (λ p. record { items = p.0; room = p.1 }) (λ _. refl)
