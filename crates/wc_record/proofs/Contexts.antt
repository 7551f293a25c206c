-- The pairs of a context, written one after another.
use Rattle.std.proofs.Common.{◌≡◌, ℕ, ◌+◌, ◌<◌, List, [], ◌∷◌, ◌++◌, length, take, get_or, sym, ap, subst, ◌∙◌, append_assoc, append-nil, inl, inr, arith}
use Rattle.std.proofs.lemmas.Bool.{cases_lt}
use Rattle.std.proofs.lemmas.List.{take_more}
use Rattle.std.proofs.lemmas.Option.{get_or_from_slice_get}
use Rattle.std.specs.Option.{option_map}
use Rattle.std.specs.Prelude.{flat_map, Option, Some, slice_get}
use Rattle.wc_state.specs.Context.{Pairs}
use Rattle.wc_state.specs.declared.context.CtxRef.{CtxRef}
use Rattle.wc_state.specs.declared.context.CtxRef.TheVariants as held
use Rattle.wc_record.specs.Spelled.{u32_bytes, pair_bytes}
use Rattle.wc_record.specs.Written.{IsShallow, IsPair}

-- what is at a place of a list, where it is seen through f
pub got : {X Y : Type 0} (f : X → Y) (o : Option X) (x : X) (ys : List Y) (at : ℕ) (d : Y) → option_map f o ≡ slice_get ys at → o ≡ Some x → get_or ys at d ≡ f x
got f o x ys at d e is = get_or_from_slice_get ys at (f x) d (sym e ∙ ap (option_map f) is)

abbrev any : List ℕ × CtxRef
any = ([], held.One 0)

flat_end : (ps : Pairs) (p : List ℕ × CtxRef) → flat_map pair_bytes (ps ++ p ∷ []) ≡ flat_map pair_bytes ps ++ pair_bytes p
flat_end [] p = append-nil (pair_bytes p)
flat_end (q ∷ qs) p = ap (λ l. pair_bytes q ++ l) (flat_end qs p) ∙ sym (append_assoc (pair_bytes q) (flat_map pair_bytes qs) (pair_bytes p))

-- the pairs so far, and one more
abbrev WroteFits : Pairs → ℕ → Type 0
WroteFits ps i = (k : ℕ) (d : List ℕ × CtxRef) → k < i → IsShallow (get_or ps k d).1 → IsPair (get_or ps k d)

pub one_more : (ps : Pairs) (i n : ℕ) (old out more : List ℕ) → n ≡ length ps → i < n
    → out ≡ old ++ (u32_bytes (length ps) ++ flat_map pair_bytes (take i ps)) → WroteFits ps i
    → ((d : List ℕ × CtxRef) → more ≡ out ++ pair_bytes (get_or ps i d)) → ((d : List ℕ × CtxRef) → IsShallow (get_or ps i d).1 → IsPair (get_or ps i d))
    → (more ≡ old ++ (u32_bytes (length ps) ++ flat_map pair_bytes (take (i + 1) ps))) × WroteFits ps (i + 1)
one_more ps i n old out more e lt p fits q fit = (written, all)
  where
    written : more ≡ old ++ (u32_bytes (length ps) ++ flat_map pair_bytes (take (i + 1) ps))
    written =
        q any ∙ ap (λ l. l ++ pair_bytes (get_or ps i any)) p
        ∙ append_assoc old (u32_bytes (length ps) ++ flat_map pair_bytes (take i ps)) (pair_bytes (get_or ps i any))
        ∙ ap (λ l. old ++ l) (append_assoc (u32_bytes (length ps)) (flat_map pair_bytes (take i ps)) (pair_bytes (get_or ps i any)))
        ∙ ap (λ l. old ++ (u32_bytes (length ps) ++ l)) (sym (flat_end (take i ps) (get_or ps i any)) ∙ ap (flat_map pair_bytes) (sym (take_more ps i any (omega arith))))

    all : WroteFits ps (i + 1)
    all k d within shallow =
        elim (cases_lt k i) [
          | inl less ↦ fits k d less shallow
          | inr more ↦ let same : i ≡ k = omega arith in subst (λ (j : ℕ). IsShallow (get_or ps j d).1 → IsPair (get_or ps j d)) same (fit d) shallow
        ]
