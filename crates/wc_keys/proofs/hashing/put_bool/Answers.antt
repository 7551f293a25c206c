use Rattle.std.proofs.Common.{◌≡◌, ℕ, Bool, [], ◌∷◌, ap, sym, ◌∙◌}
use Rattle.std.specs.Prelude.{if◌then◌else◌}
use Rattle.wc_value.proofs.Spelled.{spelled_bool}
use Rattle.wc_keys.proofs.Added.{adds_tagged}
use Rattle.wc_keys.proofs.hashing.put_bool.Goals as goal
use Rattle.wc_keys.proofs.hashing.put_bool.Goals.{then-truth, else-truth}

pub returns : goal.returns
returns c =
    adds_tagged _ _ _ 2 (c.if-truth.put_byte ∷ []) _ c.put_byte.ensures c.put_byte-2.ensures
    (spelled_bool c.args.truth
    ∙ elim c.if-truth.branch as (λ _. 2 ∷ (if c.args.truth then 1 else 0) ∷ [] ≡ 2 ∷ c.if-truth.put_byte ∷ []) [
      | then-truth w ↦ ap (λ (b : Bool). 2 ∷ (if b then 1 else 0) ∷ []) w.if-truth.true ∙ ap (λ (n : ℕ). 2 ∷ n ∷ []) (sym w.put_byte-is)
      | else-truth w ↦ ap (λ (b : Bool). 2 ∷ (if b then 1 else 0) ∷ []) w.if-truth.false ∙ ap (λ (n : ℕ). 2 ∷ n ∷ []) (sym w.put_byte-is)
    ])
