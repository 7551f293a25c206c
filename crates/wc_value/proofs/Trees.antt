-- Trees with equal parts are equal.
use Rattle.std.proofs.Common.{◌≡◌, ◌↔◌, ◌∙◌, sym, ap, Bool, IsTrue}
use Rattle.wc_value.specs.declared.process.Tree.{Tree, roll-Tree, out-Tree, roll-out-Tree}

same_parts : (a b : Tree) → (out-Tree a).definition ≡ (out-Tree b).definition → (out-Tree a).state ≡ (out-Tree b).state
    → (out-Tree a).outputs ≡ (out-Tree b).outputs → (out-Tree a).calls ≡ (out-Tree b).calls → a ≡ b
same_parts a b p q r s =
    sym (roll-out-Tree a) ∙ (λ i. roll-Tree (record { definition = p i; state = q i; outputs = r i; calls = s i })) ∙ roll-out-Tree b

-- the last test decides, where the others held
pub same_by_calls : (a b : Tree) (t : Bool) → (out-Tree a).definition ≡ (out-Tree b).definition → (out-Tree a).state ≡ (out-Tree b).state
    → (out-Tree a).outputs ≡ (out-Tree b).outputs → (IsTrue t ↔ ((out-Tree a).calls ≡ (out-Tree b).calls)) → IsTrue t ↔ (a ≡ b)
same_by_calls a b t p q r s = (λ h. same_parts a b p q r (s.0 h), λ e. s.1 (ap (λ x. (out-Tree x).calls) e))
