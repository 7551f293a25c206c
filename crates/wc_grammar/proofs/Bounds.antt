-- Readings at bounds that are not written as successors.
use Rattle.std.proofs.Common.{◌≡◌, ℕ, zero, suc, ◌+◌, ◌-◌, ◌<◌, List, refl, ap, arith}
use Rattle.wc_grammar.specs.declared.operators.Level.{Level}
use Rattle.wc_grammar.specs.declared.operators.Level.TheVariants as level
use Rattle.wc_grammar.specs.Rules.{Tok, Reader, done, either, seq, turns}
use Rattle.wc_grammar.specs.Reading.{expr_at, nested_at, nested_in, indexed_at, index_at, primaries_at, unaries_at, products_at, sums_at, compares_at, ands_at}
use Rattle.wc_grammar.specs.Levels.{joined_at}

pub expr_is : (n : ℕ) (ts : List Tok) → expr_at n ts ≡ joined_at level.Ors n ts
unfolding primaries_at unaries_at products_at sums_at compares_at ands_at
expr_is zero ts = refl
expr_is (suc n) ts = refl

pub nested_below : (n : ℕ) (ts : List Tok) → 0 < n → nested_at n ts ≡ nested_in (n - 1) (expr_at (n - 1)) ts
nested_below n ts h = let p : n ≡ suc (n - 1) = omega arith in ap (λ (k : ℕ). nested_at k ts) p

pub indexed_below : (n : ℕ) (ts : List Tok) → 0 < n → indexed_at n ts ≡ index_at (expr_at (n - 1)) ts
indexed_below n ts h = let p : n ≡ suc (n - 1) = omega arith in ap (λ (k : ℕ). indexed_at k ts) p

pub turns_at : {A : Type 0} (n i : ℕ) (ks : List ℕ) (p : A → Reader A) (a : A) (ts : List Tok) → i < n
    → turns (n - i) ks p a ts ≡ either ks (seq (p a) (turns (n - (i + 1)) ks p)) (done a) ts
turns_at n i ks p a ts h = let e : n - i ≡ suc (n - (i + 1)) = omega arith in ap (λ (k : ℕ). turns k ks p a ts) e

-- the weight of a level in the measure of a reading
abbrev pub rank : Level → ℕ
rank level.Products = 0
rank level.Sums = 4
rank level.Compares = 8
rank level.Ands = 20
rank level.Ors = 24
