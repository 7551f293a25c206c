-- Changes that a world accepts suit their place where the last of them is a Count, or none is a Count or a Kept.
use Rattle.std.proofs.Common.{◌≡◌, inl, inr, ℕ, zero, suc, ◌-◌, Bool, true, false, List, [], ◌∷◌, length, refl, sym, ap, ◌∙◌, arith}
use Rattle.std.specs.Prelude.{slice_get, ◌&&◌}
use Rattle.std.proofs.lemmas.Bool.{false≢true}
use Rattle.wc_world.specs.World.{World}
use Rattle.wc_world.specs.Applied.{after_change, begun}
use Rattle.wc_world.specs.Accepted.{Setting, setting, is_empty, ends_in_count, is_in_order, keeps_each, made_from, kepts, Apply, IsAccepted, IsRefused}
use Rattle.wc_world.specs.declared.change.Change.{Change}
use Rattle.wc_world.specs.declared.change.Change.TheVariants as change
use Rattle.wc_world.specs.declared.error.WorldError.{WorldError}
use Rattle.wc_store.specs.Held.{suits, IsUnfit}
use Rattle.wc_store.specs.Played.{is_count, has_last_count, may_suit}
use Rattle.wc_store.proofs.Accepts.{and_first, and_second}

-- ---- a snapshot ends in a Count
behind : (c d : Change) (ds : List Change) → has_last_count (d ∷ ds) ≡ true → has_last_count (c ∷ d ∷ ds) ≡ true
behind c d ds h =
    let far : length (c ∷ d ∷ ds) - 1 ≡ suc (length ds) = omega arith in
    let near : length ds ≡ length (d ∷ ds) - 1 = omega arith in
    ap (λ (n : ℕ). is_count (slice_get (c ∷ d ∷ ds) n)) far ∙ ap (λ (n : ℕ). is_count (slice_get (d ∷ ds) n)) near ∙ h

count_last : (cs : List Change) → ends_in_count cs ≡ true → has_last_count cs ≡ true
count_last [] h = absurd (cc)
count_last (change.Library l names ∷ cs) h = absurd (cc)
count_last (change.Data v ∷ cs) h = absurd (cc)
count_last (change.Process n ∷ cs) h = absurd (cc)
count_last (change.Link l ∷ cs) h = absurd (cc)
count_last (change.Set s ∷ cs) h = absurd (cc)
count_last (change.Count n ∷ []) h = refl
count_last (change.Count n ∷ d ∷ ds) h = absurd (cc)
count_last (change.Kept k ∷ []) h = absurd (cc)
count_last (change.Kept k ∷ d ∷ ds) h = behind (change.Kept k) d ds (count_last (d ∷ ds) h)

ordered_last : (cs : List Change) → is_in_order cs ≡ true → has_last_count cs ≡ true
ordered_last [] h = absurd (cc)
ordered_last (change.Library l names ∷ []) h = absurd (cc)
ordered_last (change.Library l names ∷ d ∷ ds) h = behind (change.Library l names) d ds (ordered_last (d ∷ ds) h)
ordered_last (change.Data v ∷ []) h = absurd (cc)
ordered_last (change.Data v ∷ d ∷ ds) h = behind (change.Data v) d ds (ordered_last (d ∷ ds) h)
ordered_last (change.Process n ∷ []) h = absurd (cc)
ordered_last (change.Process n ∷ d ∷ ds) h = behind (change.Process n) d ds (ordered_last (d ∷ ds) h)
ordered_last (change.Link l ∷ []) h = absurd (cc)
ordered_last (change.Link l ∷ d ∷ ds) h = behind (change.Link l) d ds (ordered_last (d ∷ ds) h)
ordered_last (change.Set s ∷ []) h = absurd (cc)
ordered_last (change.Set s ∷ d ∷ ds) h = behind (change.Set s) d ds (ordered_last (d ∷ ds) h)
ordered_last (change.Count n ∷ []) h = refl
ordered_last (change.Count n ∷ d ∷ ds) h = absurd (cc)
ordered_last (change.Kept k ∷ []) h = absurd (cc)
ordered_last (change.Kept k ∷ d ∷ ds) h = behind (change.Kept k) d ds (count_last (d ∷ ds) h)

-- what doesn't even look so doesn't suit
pub unsuited : (snapshot : Bool) (cs : List Change) → may_suit snapshot cs ≡ false → suits snapshot cs ≡ false
unsuited false cs h = h
unsuited true cs h = at (is_in_order cs) refl
  where
    at : (b : Bool) → is_in_order cs ≡ b → is_in_order cs ≡ false
    at true p = absurd (false≢true (sym h ∙ ordered_last cs p))
    at false p = p

-- ---- a world takes a Count in a snapshot alone
taken_count : (s : Setting) (w : World) (cs : List Change) (k : ℕ) → Apply s w cs → is_count (slice_get cs k) ≡ true → s.snapshot ≡ true
taken_count s w [] k h p = absurd (cc)
taken_count s w (change.Library l names ∷ cs) zero h p = absurd (cc)
taken_count s w (change.Data v ∷ cs) zero h p = absurd (cc)
taken_count s w (change.Process n ∷ cs) zero h p = absurd (cc)
taken_count s w (change.Link l ∷ cs) zero h p = absurd (cc)
taken_count s w (change.Set c ∷ cs) zero h p = absurd (cc)
taken_count s w (change.Count n ∷ cs) zero h p = h.0.0
taken_count s w (change.Kept k ∷ cs) zero h p = absurd (cc)
taken_count s w (c ∷ cs) (suc k) h p = taken_count s (after_change s.batch w c) cs k h.1 p

pub suited : (snapshot : Bool) (w : World) (cs : List Change) → may_suit snapshot cs ≡ true → IsAccepted w cs → suits snapshot cs ≡ true
suited false w cs h a = h
suited true w cs h a =
    let snapshot = taken_count (setting w cs) (begun w) cs (length cs - 1) a.each h in
    let kept = keeps_each (made_from 1 cs) (kepts cs) in
    and_first (is_in_order cs) kept (and_second (is_empty w) (is_in_order cs && kept) snapshot)

-- what is refused is unfit in each place
pub unfit : (snapshot : Bool) (w : World) (cs : List Change) (e : WorldError) → IsRefused w cs e → IsUnfit snapshot w cs
unfit snapshot w cs e refused = at (suits snapshot cs) refl
  where
    at : (b : Bool) → suits snapshot cs ≡ b → IsUnfit snapshot w cs
    at true p = inr (p, (e, refused))
    at false p = inl p
