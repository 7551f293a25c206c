-- What the expressions of a chain mention: names that are known where they stand, and that aren't too long.
use Rattle.std.proofs.Common.{◌≡◌, sym, refl, subst, ℕ, Bool, true, false, List, [], ◌∷◌, ◌++◌}
use Rattle.std.specs.Prelude.{codes, flat_map}
use Rattle.std.specs.List.{AllByRecursion}
use Rattle.wc_syntax.specs.Findings.{unknown, is_among, Scope, unknown_mention, unknown_in, mentioned_names, long_name}
use Rattle.wc_syntax.specs.Mentions.{Mention, Input, Context, part_mentions, form_mentions, its_mentions, mentions, mentioned}
use Rattle.wc_syntax.specs.declared.expression.BinaryOp.{BinaryOp}
use Rattle.wc_syntax.specs.declared.expression.BinaryOp.TheVariants as binary
use Rattle.wc_syntax.specs.declared.expression.ChildPart.{ChildPart}
use Rattle.wc_syntax.specs.declared.expression.ChildPart.TheVariants as asked
use Rattle.wc_syntax.specs.declared.expression.Expr.{Expr}
use Rattle.wc_restart.specs.Pieces.{word, numeral, truth, input, plain, child, output_of, negated, joined}
use Rattle.wc_restart.specs.Statements.{goes_on, has_succeeded, has_status, or_one_of, is_one_of}
use Rattle.wc_restart.proofs.Folded.{numeral_folded, truth_folded, input_folded, plain_folded, child_folded, negated_folded, joined_folded}
use Rattle.wc_expansion.proofs.Lists.{none, all_append}
use Rattle.wc_expansion.proofs.Names.{Names, met}

-- where the expressions of a chain with these input ports stand
abbrev pub inside_of : Names → Scope
inside_of ports = record { in_chain = true; ports = ports; known = [] }

abbrev pub Short : List ℕ → Type 0
Short name = long_name (word name) ≡ []

abbrev pub Seen : Names → Mention → Type 0
Seen ports m = (unknown_mention (inside_of ports) m ≡ []) × (long_name (mentioned m) ≡ [])

-- everything that is mentioned is known and short
abbrev pub Sees : Names → Expr → Type 0
Sees ports e = AllByRecursion (Seen ports) (mentions e)

pub known_all : (ports : Names) (ms : List Mention) → AllByRecursion (Seen ports) ms → unknown_in (inside_of ports) ms ≡ []
known_all ports [] a = refl
known_all ports (m ∷ ms) a = none (unknown_mention (inside_of ports) m) (unknown_in (inside_of ports) ms) a.0.0 (known_all ports ms a.1)

pub short_all : (ports : Names) (ms : List Mention) → AllByRecursion (Seen ports) ms → flat_map long_name (mentioned_names ms) ≡ []
short_all ports [] a = refl
short_all ports (m ∷ ms) a = none (long_name (mentioned m)) (flat_map long_name (mentioned_names ms)) a.0.1 (short_all ports ms a.1)

module _ (ports : Names) where
  seen_as : (e : Expr) (ms : List Mention) → mentions e ≡ ms → AllByRecursion (Seen ports) ms → Sees ports e
  seen_as e ms h a = subst (λ (z : List Mention). AllByRecursion (Seen ports) z) (sym h) a

  pub sees_numeral : (n : ℕ) → Sees ports (numeral n)
  sees_numeral n = seen_as (numeral n) [] (numeral_folded form_mentions its_mentions n) tt

  pub sees_truth : (b : Bool) → Sees ports (truth b)
  sees_truth b = seen_as (truth b) [] (truth_folded form_mentions its_mentions b) tt

  pub sees_plain : (key : List ℕ) → Short key → Sees ports (plain key)
  sees_plain key h = seen_as (plain key) (Context 0 (word key) ∷ []) (plain_folded form_mentions its_mentions key) ((refl, h), tt)

  pub sees_input : (name : List ℕ) → Short name → is_among name ports ≡ true → Sees ports (input name)
  sees_input name h k =
      seen_as (input name) (Input 0 (word name) ∷ []) (input_folded form_mentions its_mentions name) ((met (is_among name ports) (unknown name 0) k, h), tt)

  sees_child : (key : List ℕ) (part : ChildPart) → Short key → AllByRecursion (Seen ports) (part_mentions part) → Sees ports (child key part)
  sees_child key part h a = seen_as (child key part) (Context 0 (word key) ∷ part_mentions part) (child_folded form_mentions its_mentions key part) ((refl, h), a)

  pub sees_output : (key label : List ℕ) → Short key → Short label → Sees ports (output_of key label)
  sees_output key label h k = sees_child key (asked.Outputs (word label)) h ((refl, k), tt)

  pub sees_negated : (e : Expr) → Sees ports e → Sees ports (negated e)
  sees_negated e a = seen_as (negated e) (mentions e) (negated_folded form_mentions its_mentions e) a

  pub sees_joined : (o : BinaryOp) (d e : Expr) → Sees ports d → Sees ports e → Sees ports (joined o d e)
  sees_joined o d e a b = seen_as (joined o d e) (mentions d ++ mentions e) (joined_folded form_mentions its_mentions o d e) (all_append (Seen ports) (mentions d) (mentions e) a b)

  -- ---- the chain's own expressions

  pub sees_goes_on : (most : ℕ) → Sees ports (goes_on most)
  sees_goes_on most =
      sees_joined binary.And (negated (plain (codes "done"))) (joined binary.Less (plain (codes "n")) (numeral most))
      (sees_negated (plain (codes "done")) (sees_plain (codes "done") refl))
      (sees_joined binary.Less (plain (codes "n")) (numeral most) (sees_plain (codes "n") refl) (sees_numeral most))

  pub sees_counted : Sees ports (joined binary.Add (plain (codes "n")) (numeral 1))
  sees_counted = sees_joined binary.Add (plain (codes "n")) (numeral 1) (sees_plain (codes "n") refl) (sees_numeral 1)

  pub sees_succeeded : Sees ports has_succeeded
  sees_succeeded = sees_child (codes "job") asked.Ok refl tt

  sees_status : (n : ℕ) → Sees ports (has_status n)
  sees_status n = sees_joined binary.Equal (child (codes "job") asked.Status) (numeral n) (sees_child (codes "job") asked.Status refl tt) (sees_numeral n)

  sees_or : (e : Expr) (ns : List ℕ) → Sees ports e → Sees ports (or_one_of e ns)
  sees_or e [] a = a
  sees_or e (n ∷ ns) a = sees_or (joined binary.Or e (has_status n)) ns (sees_joined binary.Or e (has_status n) a (sees_status n))

  pub sees_one_of : (ns : List ℕ) → Sees ports (is_one_of ns)
  sees_one_of [] = sees_truth false
  sees_one_of (n ∷ ns) = sees_or (has_status n) ns (sees_status n)
