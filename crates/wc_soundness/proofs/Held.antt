-- What a context holds, once children are bound in it.
use Rattle.std.proofs.Common.{◌≡◌, ℕ, Bool, true, false, List, [], ◌∷◌, ◌++◌, Option, Some, refl}
use Rattle.std.specs.Prelude.{All, if◌then◌else◌}
use Rattle.std.specs.List.{list_all}
use Rattle.std.specs.Str.{bytes_eq}
use Rattle.std.proofs.lemmas.Bool.{and_from, and_parts}
use Rattle.std.proofs.lemmas.List.Elements.{All-cons, All-head, All-nil, All-push, All-tail}
use Rattle.wc_state.specs.Context.{Pairs, found_at, with_set}
use Rattle.wc_state.specs.declared.context.CtxRef.{CtxRef}
use Rattle.wc_state.specs.declared.context.CtxRef.TheVariants as held
use Rattle.wc_state.specs.declared.record.Await.{Await}
use Rattle.wc_machine.specs.Calls.{bound_in, children_at, joined}

pub all_from : {X : Type 0} (test : X → Bool) (xs : List X) → list_all test xs ≡ true → All (λ x. test x ≡ true) xs
all_from test [] h = All-nil (λ x. test x ≡ true)
all_from test (x ∷ xs) h = let parts = and_parts (test x) (list_all test xs) h in All-cons (λ x. test x ≡ true) x xs parts.0 (all_from test xs parts.1)

pub from_all : {X : Type 0} (test : X → Bool) (xs : List X) → All (λ x. test x ≡ true) xs → list_all test xs ≡ true
from_all test [] all = refl
from_all test (x ∷ xs) all =
    and_from (test x) (list_all test xs) (All-head (λ x. test x ≡ true) x xs all) (from_all test xs (All-tail (λ x. test x ≡ true) x xs all))

-- a property of what a key holds that is one of the processes in it
module _ (P : CtxRef → Type 0) (Q : ℕ → Type 0) (one : (n : ℕ) → Q n → P (held.One n)) (many : (ns : List ℕ) → All Q ns → P (held.Many ns))
    (each : (ns : List ℕ) → P (held.Many ns) → All Q ns) where
  found_holds : (ctx : Pairs) (key : List ℕ) → All (λ e. P e.1) ctx → All Q (children_at (found_at ctx key))
  found_holds [] key all = All-nil Q
  found_holds (e ∷ es) key all = at (bytes_eq key e.0) (found_holds es key (All-tail (λ e. P e.1) e es all))
    where
      first : (c : CtxRef) → P c → All Q (children_at (Some c))
      first (held.Plain v) h = All-nil Q
      first (held.One n) h = All-nil Q
      first (held.Many ns) h = each ns h

      at : (b : Bool) → All Q (children_at (found_at es key)) → All Q (children_at (if b then Some e.1 else found_at es key))
      at true rest = first e.1 (All-head (λ e. P e.1) e es all)
      at false rest = rest

  set_holds : (ctx : Pairs) (key : List ℕ) (c : CtxRef) → P c → All (λ e. P e.1) ctx → All (λ e. P e.1) (with_set ctx key c)
  set_holds [] key c h all = All-cons (λ e. P e.1) (key, c) [] h all
  set_holds (e ∷ es) key c h all = at (bytes_eq key e.0) (set_holds es key c h (All-tail (λ e. P e.1) e es all))
    where
      at : (b : Bool) → All (λ e. P e.1) (with_set es key c) → All (λ e. P e.1) (if b then (e.0, c) ∷ es else e ∷ with_set es key c)
      at true rest = All-cons (λ e. P e.1) (e.0, c) es h (All-tail (λ e. P e.1) e es all)
      at false rest = All-cons (λ e. P e.1) e (with_set es key c) (All-head (λ e. P e.1) e es all) rest

  joined_holds : (append : Bool) (o : Option CtxRef) (pid : ℕ) → All Q (children_at o) → Q pid → P (joined append o pid)
  joined_holds true o pid all h = many (children_at o ++ pid ∷ []) (All-push Q (children_at o) pid all h)
  joined_holds false o pid all h = one pid h

  pub bound_holds : (as' : List Await) (ctx : Pairs) → All (λ a. Q a.pid) as' → All (λ e. P e.1) ctx → All (λ e. P e.1) (bound_in ctx as')
  bound_holds [] ctx awaited all = all
  bound_holds (a ∷ as') ctx awaited all =
      bound_holds as' (with_set ctx a.key (joined a.append (found_at ctx a.key) a.pid)) (All-tail (λ a. Q a.pid) a as' awaited)
      (set_holds ctx a.key (joined a.append (found_at ctx a.key) a.pid)
      (joined_holds a.append (found_at ctx a.key) a.pid (found_holds ctx a.key all) (All-head (λ a. Q a.pid) a as' awaited)) all)
