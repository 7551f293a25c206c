-- The entries of a context whose keys are mentioned, one after the other.
use Rattle.std.proofs.Common.{◌≡◌, ℕ, ◌+◌, Bool, true, false, List, [], ◌∷◌, ◌++◌, Option, Some, None, if◌then◌else◌, drop, refl, sym, ap, subst, ◌∙◌}
use Rattle.std.specs.Prelude.{take, slice_get}
use Rattle.std.specs.Str.{bytes_eq}
use Rattle.std.proofs.lemmas.List.{take_more, drop_more}
use Rattle.std.proofs.lemmas.Option.{slice_get_within, get_or_from_slice_get}
use Rattle.wc_syntax.specs.Mentions.{Mention}
use Rattle.wc_state.specs.Context.{Pairs, found_at, with_set, DifferFrom}
use Rattle.wc_state.specs.declared.context.CtxRef.{CtxRef}
use Rattle.wc_outline.specs.Keys.{mentions_key}
use Rattle.wc_outline.specs.Reads.{mentioned_of}

passed : (b : Bool) (x : CtxRef) (o : Option CtxRef) → (if b then Some x else o) ≡ None → (b ≡ false) × (o ≡ None)
passed true x o h = absurd cc
passed false x o h = (refl, h)

-- a new key goes last
set_new : (ps : Pairs) (key : List ℕ) (held : CtxRef) → found_at ps key ≡ None → with_set ps key held ≡ ps ++ (key, held) ∷ []
set_new [] key held h = refl
set_new (p ∷ ps) key held h =
    let r = passed (bytes_eq key p.0) p.1 (found_at ps key) h in
    ap (λ (b : Bool). if b then (p.0, held) ∷ ps else p ∷ with_set ps key held) r.0 ∙ ap (λ (xs : Pairs). p ∷ xs) (set_new ps key held r.1)

pub nothing_read : (es : Pairs) → mentioned_of [] es ≡ []
nothing_read [] = refl
nothing_read (e ∷ es) = nothing_read es

module _ (ms : List Mention) where
  with_last : (es : Pairs) (e : List ℕ × CtxRef) → mentioned_of ms (es ++ e ∷ []) ≡ (if mentions_key e.0 ms then mentioned_of ms es ++ e ∷ [] else mentioned_of ms es)
  with_last [] e = refl
  with_last (x ∷ es) e = by_tests (mentions_key x.0 ms) (mentions_key e.0 ms) (with_last es e)
    where
      by_tests : (a b : Bool) → mentioned_of ms (es ++ e ∷ []) ≡ (if b then mentioned_of ms es ++ e ∷ [] else mentioned_of ms es)
          → (if a then x ∷ mentioned_of ms (es ++ e ∷ []) else mentioned_of ms (es ++ e ∷ []))
          ≡ (if b then (if a then x ∷ mentioned_of ms es else mentioned_of ms es) ++ e ∷ [] else (if a then x ∷ mentioned_of ms es else mentioned_of ms es))
      by_tests true true h = ap (λ (xs : Pairs). x ∷ xs) h
      by_tests true false h = ap (λ (xs : Pairs). x ∷ xs) h
      by_tests false true h = h
      by_tests false false h = h

  -- a key that isn't there isn't among those that are mentioned
  none_among : (es : Pairs) (key : List ℕ) → found_at es key ≡ None → found_at (mentioned_of ms es) key ≡ None
  none_among [] key h = h
  none_among (e ∷ es) key h =
      let r = passed (bytes_eq key e.0) e.1 (found_at es key) h in
      by_test (mentions_key e.0 ms) r.0 (none_among es key r.1)
    where
      by_test : (b : Bool) → bytes_eq key e.0 ≡ false → found_at (mentioned_of ms es) key ≡ None
          → found_at (if b then e ∷ mentioned_of ms es else mentioned_of ms es) key ≡ None
      by_test true p q = ap (λ (c : Bool). if c then Some e.1 else found_at (mentioned_of ms es) key) p ∙ q
      by_test false p q = q

  module _ (ctx : Pairs) (at : ℕ) (e : List ℕ × CtxRef) (p : slice_get ctx at ≡ Some e) where
    taken : take (at + 1) ctx ≡ take at ctx ++ e ∷ []
    taken = take_more ctx at e (slice_get_within ctx at e p) ∙ ap (λ (x : List ℕ × CtxRef). take at ctx ++ x ∷ []) (get_or_from_slice_get ctx at e e p)

    left : drop at ctx ≡ e ∷ drop (at + 1) ctx
    left = drop_more ctx at e (slice_get_within ctx at e p) ∙ ap (λ (x : List ℕ × CtxRef). x ∷ drop (at + 1) ctx) (get_or_from_slice_get ctx at e e p)

    -- what is read up to the next entry
    pub next_read : (read more : Pairs) → read ≡ mentioned_of ms (take at ctx) → DifferFrom (take at ctx) (drop at ctx)
        → more ≡ (if mentions_key e.0 ms then with_set read e.0 e.1 else read)
        → (more ≡ mentioned_of ms (take (at + 1) ctx)) × DifferFrom (take (at + 1) ctx) (drop (at + 1) ctx)
    next_read read more r d m =
        let both : (found_at (take at ctx) e.0 ≡ None) × DifferFrom (take at ctx ++ e ∷ []) (drop (at + 1) ctx) = subst (λ (es : Pairs). DifferFrom (take at ctx) es) left d in
        let set : with_set read e.0 e.1 ≡ read ++ e ∷ [] = set_new read e.0 e.1 (ap (λ (es : Pairs). found_at es e.0) r ∙ none_among (take at ctx) e.0 both.0) in (
          m ∙ ap (λ (es : Pairs). if mentions_key e.0 ms then es else read) set
              ∙ ap (λ (es : Pairs). if mentions_key e.0 ms then es ++ e ∷ [] else es) r
              ∙ sym (with_last (take at ctx) e) ∙ ap (mentioned_of ms) (sym taken),
          subst (λ (es : Pairs). DifferFrom es (drop (at + 1) ctx)) (sym taken) both.1,
        )
