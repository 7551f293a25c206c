-- Hashers of the beginnings of keys, each kept for a definition.
use Rattle.std.proofs.Common.{◌≡◌, ℕ, Bool, true, false, cond, Option, Some, None, List, [], refl, sym, ap, ◌∙◌, subst}
use Rattle.std.specs.BTreeMap.{BTreeMap, get, is_at, UpdatesBy}
use Rattle.std.specs.Cmp.{Equal-is}
use Rattle.std.specs.Cmp.Lexicographic.{slice_cmp}
use Rattle.std.specs.Map.{lookup}
use Rattle.std.specs.Ordering.{nat_cmp}
use Rattle.std.proofs.lemmas.Map.Lookups.{exact_unsigned, exact_bytes, exact_pairs}
use Rattle.sha2.specs.declared.Sha256.{Sha256}
use Rattle.sha2.specs.Hashers.{Holds256}
use Rattle.wc_keys.specs.SealKeys.{key_start}
use Rattle.wc_fits.specs.World.{Known}
use Rattle.wc_keys.specs.Beginnings.{Place, place_cmp, text_at, AreBegun}

some_same : {X : Type 0} (x y : X) → Some x ≡ Some y → x ≡ y
some_same x y e = cc

none_some : {X : Type 0} (x : X) → ◌≡◌ {A = Option X} None (Some x) → ⊥
none_some x e = cc

-- places that compare alike are one
same_place : (a b : Place) → is_at (place_cmp a) b ≡ true → ◌≡◌ {A = ℕ × List ℕ} (a.0, a.1.items) (b.0, b.1.items)
same_place a b h = exact_pairs nat_cmp (slice_cmp nat_cmp) exact_unsigned exact_bytes (a.0, a.1.items) (b.0, b.1.items) ((Equal-is (place_cmp a b)).0 h)

-- none is kept at the start
pub none_begun : (libraries : List Known) (begun : BTreeMap Place Sha256) → begun.entries ≡ [] → AreBegun libraries begun
none_begun libraries begun e = λ place hasher text read is.
    absurd (none_some hasher (sym (ap (λ es. lookup (is_at (place_cmp place)) es) e) ∙ read))

-- and one more that has taken up the beginning of its definition's keys
pub begun_put : (libraries : List Known) (old new : BTreeMap Place Sha256) (place : Place) (hasher : Sha256) (text : List ℕ) → UpdatesBy place_cmp (place_cmp place) old new (Some hasher)
    → text_at libraries place.0 place.1.items ≡ Some text → Holds256 hasher (key_start text) → AreBegun libraries old → AreBegun libraries new
begun_put libraries old new place hasher text update at holds had = λ other found one read is. told other found one is (is_at (place_cmp place) other) refl (sym (update.0 other) ∙ read)
  where
    told : (other : Place) (found : Sha256) (one : List ℕ) → text_at libraries other.0 other.1.items ≡ Some one → (b : Bool) → is_at (place_cmp place) other ≡ b
        → cond b (Some hasher) (get place_cmp old other) ≡ Some found → Holds256 found (key_start one)
    told other found one is true p e =
        let texts : Some text ≡ Some one = sym at ∙ ap (λ (q : ℕ × List ℕ). text_at libraries q.0 q.1) (same_place place other p) ∙ is in
        subst (λ (t : List ℕ). Holds256 found (key_start t)) (some_same text one texts) (subst (λ (h : Sha256). Holds256 h (key_start text)) (some_same hasher found e) holds)
    told other found one is false p e = had other found one e is
