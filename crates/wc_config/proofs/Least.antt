-- The least of two lists of refusals, one after the other.
use Rattle.std.proofs.Common.{◌≡◌, ◌∙◌, ap, sym, ℕ, Bool, true, if◌then◌else◌, List, [], ◌∷◌, ◌++◌, Option, None, refl, codes}
use Rattle.toml.specs.Data.{Members}
use Rattle.wc_config.specs.declared.keys.Part.TheVariants.{Caching}
use Rattle.wc_config.specs.declared.refusals.Kind.TheVariants.{BadValue}
use Rattle.wc_config.specs.Settings.{names_at}
use Rattle.wc_config.specs.Refusals.{Refusal, lesser, least_after, least, has_both, path, all_refusals, both_refusals, refusals}

pub least_after-append : (best : Option Refusal) (xs ys : List Refusal) → least_after best (xs ++ ys) ≡ least_after (least_after best xs) ys
least_after-append best [] ys = refl
least_after-append best (x ∷ xs) ys = least_after-append (lesser best x) xs ys

-- where a name is in both lists, that is the last refusal
pub both-last : (ms : Members) (best : Option Refusal) (key : List ℕ) → has_both (names_at (codes "enabled") ms) (names_at (codes "disabled") ms) ≡ true
    → best ≡ least (all_refusals ms) → key ≡ path Caching (codes "enabled") → lesser best (BadValue, key) ≡ least (refusals ms)
both-last ms best key both is at =
    let x : Refusal = (BadValue, path Caching (codes "enabled")) in
    let last : both_refusals ms ≡ x ∷ [] = ap (λ (b : Bool). if b then x ∷ [] else []) both in
    ap (λ (k : List ℕ). lesser best (BadValue, k)) at ∙ ap (λ (b : Option Refusal). lesser b x) is
    ∙ sym (least_after-append None (all_refusals ms) (both_refusals ms) ∙ ap (λ (rs : List Refusal). least_after (least (all_refusals ms)) rs) last)
