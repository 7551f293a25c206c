-- The least of lists of refusals, one after the other.
use Rattle.std.proofs.Common.{◌≡◌, ◌∙◌, ap, sym, refl, ℕ, suc, ◌+◌, ◌<◌, List, [], ◌∷◌, ◌++◌, length, get_or, drop, drop-cons, Option, Result, Ok, Err, IfOk, arith}
use Rattle.toml.specs.Data.{as_table}
use Rattle.toml.specs.View.{view, items_view}
use Rattle.toml.specs.declared.value.Value.{Value}
use Rattle.wc_handlers.specs.declared.refusals.Refused.{Refused}
use Rattle.wc_handlers.specs.Refusals.{Refusal, lesser, least_after, table_refusals, item_refusals}
use Rattle.wc_handlers.specs.Seen.{seen}

pub least_after-append : (best : Option Refusal) (xs ys : List Refusal) → least_after best (xs ++ ys) ≡ least_after (least_after best xs) ys
least_after-append best [] ys = refl
least_after-append best (x ∷ xs) ys = least_after-append (lesser best x) xs ys

-- four lists, each after the least of those before it
least-of_four : (best a b c d : Option Refusal) (ws xs ys zs : List Refusal) → a ≡ least_after best ws → b ≡ least_after a xs → c ≡ least_after b ys
    → d ≡ least_after c zs → d ≡ least_after best (ws ++ (xs ++ (ys ++ zs)))
least-of_four best a b c d ws xs ys zs p q r s =
    s ∙ (ap (λ (o : Option Refusal). least_after o zs) (r ∙ ap (λ (o : Option Refusal). least_after o ys) (q ∙ ap (λ (o : Option Refusal). least_after o xs) p))
    ∙ sym (least_after-append best ws (xs ++ (ys ++ zs)) ∙ (least_after-append (least_after best ws) xs (ys ++ zs)
    ∙ least_after-append (least_after (least_after best ws) xs) ys zs)))

-- the same where the last may want memory
pub least-at_last : {E : Type 0} (best a b c : Option Refusal) (ws xs ys zs : List Refusal) (d : Result (Option Refused) E) → a ≡ least_after best ws
    → b ≡ least_after a xs → c ≡ least_after b ys → IfOk d (λ r. seen r ≡ least_after c zs) → IfOk d (λ r. seen r ≡ least_after best (ws ++ (xs ++ (ys ++ zs))))
least-at_last best a b c ws xs ys zs (Ok r) p q s h = least-of_four best a b c (seen r) ws xs ys zs p q s h
least-at_last best a b c ws xs ys zs (Err e) p q s h = h

-- one more value of an array
pub least-of_item : (best next : Option Refusal) (vs : List Value) (i : ℕ) (v : Value) (total : Option Refusal) → i < length vs → v ≡ get_or vs i v
    → next ≡ least_after best (table_refusals (as_table (view v))) → least_after best (item_refusals (items_view (drop i vs))) ≡ total
    → least_after next (item_refusals (items_view (drop (i + 1) vs))) ≡ total
least-of_item best next vs i v total within is after so =
    let one : i + 1 ≡ suc i = omega arith in
    let split : drop i vs ≡ v ∷ drop (i + 1) vs =
    drop-cons vs i v within ∙ (ap (λ (w : Value). w ∷ drop (suc i) vs) (sym is) ∙ ap (λ (k : ℕ). v ∷ drop k vs) (sym one)) in
    let rest = item_refusals (items_view (drop (i + 1) vs)) in
    ap (λ (o : Option Refusal). least_after o rest) after
    ∙ (sym (least_after-append best (table_refusals (as_table (view v))) rest)
    ∙ (sym (ap (λ (ws : List Value). least_after best (item_refusals (items_view ws))) split) ∙ so))
