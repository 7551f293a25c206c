-- A key that is set twice.
use Rattle.std.proofs.Common.{◌≡◌, ℕ, Bool, true, false, List, [], ◌∷◌, ◌++◌, Some, refl, sym, ap, ◌∙◌}
use Rattle.std.specs.Prelude.{if◌then◌else◌}
use Rattle.std.specs.Str.{bytes_eq}
use Rattle.std.proofs.lemmas.Slice.Eq.{bytes_eq-Decides}
use Rattle.wc_state.specs.Context.{Pairs, found_at, with_set}
use Rattle.wc_state.specs.declared.context.CtxRef.{CtxRef}
use Rattle.wc_state.specs.declared.context.CtxRef.TheVariants as held
use Rattle.wc_machine.specs.Calls.{joined}

itself : (key : List ℕ) → bytes_eq key key ≡ true
itself key = (bytes_eq-Decides key key).1 refl

found_by : (b : Bool) (key : List ℕ) (p : List ℕ × CtxRef) (h : CtxRef) (ps : Pairs) → bytes_eq key p.0 ≡ b → found_at (with_set ps key h) key ≡ Some h
    → found_at (if b then (p.0, h) ∷ ps else p ∷ with_set ps key h) key ≡ Some h
found_by true key p h ps e t = ap (λ (b : Bool). if b then Some h else found_at ps key) e
found_by false key p h ps e t = ap (λ (b : Bool). if b then Some p.1 else found_at (with_set ps key h) key) e ∙ t

found_set : (ps : Pairs) (key : List ℕ) (h : CtxRef) → found_at (with_set ps key h) key ≡ Some h
found_set [] key h = ap (λ (b : Bool). if b then Some h else found_at [] key) (itself key)
found_set (p ∷ ps) key h = found_by (bytes_eq key p.0) key p h ps refl (found_set ps key h)

set_by : (b : Bool) (key : List ℕ) (p : List ℕ × CtxRef) (g h : CtxRef) (ps : Pairs) → bytes_eq key p.0 ≡ b → with_set (with_set ps key g) key h ≡ with_set ps key h
    → with_set (if b then (p.0, g) ∷ ps else p ∷ with_set ps key g) key h ≡ (if b then (p.0, h) ∷ ps else p ∷ with_set ps key h)
set_by true key p g h ps e t = ap (λ (b : Bool). if b then (p.0, h) ∷ ps else (p.0, g) ∷ with_set ps key h) e
set_by false key p g h ps e t = ap (λ (b : Bool). if b then (p.0, h) ∷ with_set ps key g else p ∷ with_set (with_set ps key g) key h) e ∙ ap (λ (qs : Pairs). p ∷ qs) t

set_again : (ps : Pairs) (key : List ℕ) (g h : CtxRef) → with_set (with_set ps key g) key h ≡ with_set ps key h
set_again [] key g h = ap (λ (b : Bool). if b then (key, h) ∷ [] else (key, g) ∷ with_set [] key h) (itself key)
set_again (p ∷ ps) key g h = set_by (bytes_eq key p.0) key p g h ps refl (set_again ps key g h)

-- a further child joins those of a key that was set
joins_set : (ctx : Pairs) (key : List ℕ) (append : Bool) (pids : List ℕ) (pid : ℕ) → append ≡ true
    → with_set ctx key (held.Many (pids ++ pid ∷ [])) ≡ with_set (with_set ctx key (held.Many pids)) key (joined append (found_at (with_set ctx key (held.Many pids)) key) pid)
joins_set ctx key append pids pid a =
    sym (set_again ctx key (held.Many pids) (held.Many (pids ++ pid ∷ [])))
    ∙ ap (λ o. with_set (with_set ctx key (held.Many pids)) key (joined true o pid)) (sym (found_set ctx key (held.Many pids)))
    ∙ ap (λ b. with_set (with_set ctx key (held.Many pids)) key (joined b (found_at (with_set ctx key (held.Many pids)) key) pid)) (sym a)

pub joins : (ctx : Pairs) (key k : List ℕ) (append : Bool) (pids new : List ℕ) (pid : ℕ) → append ≡ true → key ≡ k → new ≡ pids ++ pid ∷ []
    → with_set ctx key (held.Many new) ≡ with_set (with_set ctx key (held.Many pids)) k (joined append (found_at (with_set ctx key (held.Many pids)) k) pid)
joins ctx key k append pids new pid a e n =
    ap (λ (xs : List ℕ). with_set ctx key (held.Many xs)) n ∙ joins_set ctx key append pids pid a
    ∙ ap (λ (q : List ℕ). with_set (with_set ctx key (held.Many pids)) q (joined append (found_at (with_set ctx key (held.Many pids)) q) pid)) e
