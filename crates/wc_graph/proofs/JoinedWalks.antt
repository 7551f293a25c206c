-- Walks: joined, turned round, and along other steps.
use Rattle.std.proofs.Common.{ℕ, List, [], ◌∷◌, ◌++◌}
use Rattle.wc_graph.specs.Walks.{Walks, Reaches}

-- a walk, and a walk from its end
pub walk_join : (S : ℕ → ℕ → Type 0) (a b c : ℕ) (xs ys : List ℕ) → Walks S a xs b → Walks S b ys c → Walks S a (xs ++ b ∷ ys) c
walk_join S a b c [] ys p q = (p, q)
walk_join S a b c (x ∷ xs) ys p q = (p.0, walk_join S x b c xs ys p.1 q)

pub reaches_join : (S : ℕ → ℕ → Type 0) (a b c : ℕ) → Reaches S a b → Reaches S b c → Reaches S a c
reaches_join S a b c p q = (p.0 ++ b ∷ q.0, walk_join S a b c p.0 q.0 p.1 q.1)

pub reaches_step : (S : ℕ → ℕ → Type 0) (a b : ℕ) → S a b → Reaches S a b
reaches_step S a b p = ([], p)

pub reaches_then : (S : ℕ → ℕ → Type 0) (a b c : ℕ) → Reaches S a b → S b c → Reaches S a c
reaches_then S a b c p q = reaches_join S a b c p (reaches_step S b c q)

pub reaches_after : (S : ℕ → ℕ → Type 0) (a b c : ℕ) → S a b → Reaches S b c → Reaches S a c
reaches_after S a b c p q = (b ∷ q.0, (p, q.1))

-- the other way round
walk_back : (S R : ℕ → ℕ → Type 0) → ((x y : ℕ) → S x y → R y x) → (a b : ℕ) (xs : List ℕ) → Walks S a xs b → Reaches R b a
walk_back S R h a b [] p = reaches_step R b a (h a b p)
walk_back S R h a b (x ∷ xs) p = reaches_then R b x a (walk_back S R h x b xs p.1) (h a x p.0)

pub reaches_back : (S R : ℕ → ℕ → Type 0) → ((x y : ℕ) → S x y → R y x) → (a b : ℕ) → Reaches S a b → Reaches R b a
reaches_back S R h a b p = walk_back S R h a b p.0 p.1

-- along steps that are steps of another kind too
pub walk_as : (S R : ℕ → ℕ → Type 0) → ((x y : ℕ) → S x y → R x y) → (a b : ℕ) (xs : List ℕ) → Walks S a xs b → Walks R a xs b
walk_as S R h a b [] p = h a b p
walk_as S R h a b (x ∷ xs) p = (h a x p.0, walk_as S R h x b xs p.1)

pub reaches_as : (S R : ℕ → ℕ → Type 0) → ((x y : ℕ) → S x y → R x y) → (a b : ℕ) → Reaches S a b → Reaches R a b
reaches_as S R h a b p = (p.0, walk_as S R h a b p.0 p.1)
