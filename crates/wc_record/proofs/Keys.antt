-- Keys of a context that differ.
use Rattle.std.proofs.Common.{◌≡◌, ℕ, Bool, true, false, cond, List, [], ◌∷◌, ◌++◌, Option, Some, None, refl, ap, ◌∙◌}
use Rattle.std.specs.Str.{bytes_eq}
use Rattle.wc_state.specs.Context.{Pairs, found_at, with_set}
use Rattle.wc_state.specs.declared.context.CtxRef.{CtxRef}

-- where the first pair has another key
other_key : (b : Bool) (c : CtxRef) (o : Option CtxRef) → cond b (Some c) o ≡ None → (b ≡ false) × (o ≡ None)
other_key true c o e = absurd cc
other_key false c o e = (refl, e)

-- a new key goes last
pub set_last : (front : Pairs) (key : List ℕ) (held : CtxRef) → found_at front key ≡ None → with_set front key held ≡ front ++ (key, held) ∷ []
set_last [] key held h = refl
set_last (p ∷ ps) key held h =
    let r = other_key (bytes_eq key p.0) p.1 (found_at ps key) h in
    ap (λ (b : Bool). cond b ((p.0, held) ∷ ps) (p ∷ with_set ps key held)) r.0 ∙ ap (λ l. p ∷ l) (set_last ps key held r.1)
