-- Walks down the links of a process.
use Rattle.std.proofs.Common.{◌≡◌, ◌≢◌, ℕ, ◌<◌, ◌≤◌, ◌-◌, ◌+◌, ◌==◌, ◌&&◌, ◌||◌, Bool, true, false, List, [], ◌∷◌, length, get_or, drop, Some, zero, suc, inl, inr, refl, sym, ap, ◌∙◌, arith}
use Rattle.std.specs.Prelude.{slice_get, if◌then◌else◌}
use Rattle.std.proofs.lemmas.Bool.{cases_eq, eq-eqb, eqb-true, ne_eqb}
use Rattle.std.proofs.lemmas.Option.{slice_get-get_or}
use Rattle.wc_graph.specs.Rules.{IsLinkCorrect}
use Rattle.wc_graph.specs.declared.node.NodeKind.{NodeKind}
use Rattle.wc_fits.proofs.FoundRecords.{left, right, calls_is}
use Rattle.std.proofs.lemmas.List.{drop_all, at_drop_more}
use Rattle.wc_graph.specs.declared.link.Link.{Link}
use Rattle.wc_graph.specs.Index.{Skips, source_of, target_of}
use Rattle.wc_graph.proofs.Walking.{skipped}
use Rattle.wc_fits.specs.Records.{calls, gives_output, is_call_from, is_output_of, has_called}
use Rattle.wc_fits.specs.Fits.{has_output, calls_from}

-- ---- a walk in general

-- What doesn't look at links of other nodes.
abbrev pub Passes : {T : Type 0} → (List Link → T) → (Link → ℕ) → ℕ → Type 0
Passes f side n = (l : Link) (ls : List Link) → side l ≢ n → f (l ∷ ls) ≡ f ls

pub walk_begins : {T : Type 0} (f : List Link → T) (side : Link → ℕ) (n : ℕ) → Passes f side n → (links : List Link) (at : ℕ)
    → Skips side links n (length links) at → f (drop at links) ≡ f []
walk_begins f side n passes links at s = skipped f side n passes links (length links) at s ∙ ap f (drop_all (length links) links (omega arith))

pub walk_on : {T : Type 0} (f : List Link → T) (side : Link → ℕ) (n : ℕ) → Passes f side n → (links : List Link) (at next : ℕ) (l : Link)
    → 0 < at → at ≤ length links → l ≡ get_or links (at - 1) l → Skips side links n (at - 1) next → f (drop next links) ≡ f (l ∷ drop at links)
walk_on f side n passes links at next l some few read s =
    let more : at - 1 + 1 ≡ at = omega (arith, some) in
    skipped f side n passes links (at - 1) next s
    ∙ at_drop_more f links (at - 1) l (omega (arith, some, few))
    ∙ ap (λ (x : Link). f (x ∷ drop (at - 1 + 1) links)) (sym read)
    ∙ ap (λ (m : ℕ). f (l ∷ drop m links)) more

-- ---- what is asked of the links of a process

and_false : (a b : Bool) → b ≡ false → (a && b) ≡ false
and_false true b p = p
and_false false b p = refl

or_false : (a b : Bool) → a ≡ false → (a || b) ≡ b
or_false true b p = absurd (cc)
or_false false b p = refl

if_false : (a : Bool) (x y : ℕ) → a ≡ false → (if a then x else y) ≡ y
if_false true x y p = absurd (cc)
if_false false x y p = refl

no_output : (pid : ℕ) (l : Link) → l.source ≢ pid → is_output_of pid l ≡ false
no_output pid l other = and_false (gives_output l.link) (l.source == pid) (ne_eqb l.source pid other)

no_call : (pid : ℕ) (l : Link) → l.source ≢ pid → is_call_from pid l ≡ false
no_call pid l other = and_false (calls l.link) (l.source == pid) (ne_eqb l.source pid other)

outputs_pass : (pid : ℕ) → Passes (has_output pid) source_of pid
outputs_pass pid l ls other = or_false (is_output_of pid l) (has_output pid ls) (no_output pid l other)

calls_pass : (pid : ℕ) → Passes (calls_from pid) source_of pid
calls_pass pid l ls other = if_false (is_call_from pid l) (suc (calls_from pid ls)) (calls_from pid ls) (no_call pid l other)

called_pass : (caller pid : ℕ) → Passes (λ ls. has_called ls caller pid) target_of pid
called_pass caller pid l ls other =
    or_false (is_call_from caller l && (l.target == pid)) (has_called ls caller pid)
    (and_false (is_call_from caller l) (l.target == pid) (ne_eqb l.target pid other))

-- ---- whether there is an output

pub no_output_first : (pid : ℕ) (links : List Link) (at : ℕ) → Skips source_of links pid (length links) at → has_output pid (drop at links) ≡ false
no_output_first pid links at s = walk_begins (has_output pid) source_of pid (outputs_pass pid) links at s

pub no_output_next : (pid : ℕ) (links : List Link) (at next : ℕ) (l : Link) → 0 < at → at ≤ length links → l ≡ get_or links (at - 1) l
    → is_output_of pid l ≡ false → Skips source_of links pid (at - 1) next → has_output pid (drop at links) ≡ false → has_output pid (drop next links) ≡ false
no_output_next pid links at next l some few read fails s rest =
    walk_on (has_output pid) source_of pid (outputs_pass pid) links at next l some few read s ∙ or_false (is_output_of pid l) (has_output pid (drop at links)) fails ∙ rest

or_left : (a b : Bool) → a ≡ true → (a || b) ≡ true
or_left true b p = refl
or_left false b p = absurd (cc)

or_right : (a b : Bool) → b ≡ true → (a || b) ≡ true
or_right true b p = refl
or_right false b p = p

pub output_at : (pid : ℕ) (links : List Link) (k : ℕ) (l : Link) → k < length links → l ≡ get_or links k l → is_output_of pid l ≡ true → has_output pid links ≡ true
output_at pid [] k l few read gives = absurd (omega (arith, few))
output_at pid (x ∷ xs) zero l few read gives = or_left (is_output_of pid x) (has_output pid xs) (ap (is_output_of pid) (sym read) ∙ gives)
output_at pid (x ∷ xs) (suc k) l few read gives = or_right (is_output_of pid x) (has_output pid xs) (output_at pid xs k l (omega (arith, few)) read gives)

-- ---- whether one process called the other

pub no_call_first : (caller pid : ℕ) (links : List Link) (at : ℕ) → Skips target_of links pid (length links) at → has_called (drop at links) caller pid ≡ false
no_call_first caller pid links at s = walk_begins (λ ls. has_called ls caller pid) target_of pid (called_pass caller pid) links at s

pub no_call_next : (caller pid : ℕ) (links : List Link) (at next : ℕ) (l : Link) → 0 < at → at ≤ length links → l ≡ get_or links (at - 1) l
    → (is_call_from caller l && (l.target == pid)) ≡ false → Skips target_of links pid (at - 1) next → has_called (drop at links) caller pid ≡ false
    → has_called (drop next links) caller pid ≡ false
no_call_next caller pid links at next l some few read fails s rest =
    walk_on (λ ls. has_called ls caller pid) target_of pid (called_pass caller pid) links at next l some few read s
    ∙ or_false (is_call_from caller l && (l.target == pid)) (has_called (drop at links) caller pid) fails ∙ rest

pub call_at : (caller pid : ℕ) (links : List Link) (k : ℕ) (l : Link) → k < length links → l ≡ get_or links k l
    → (is_call_from caller l && (l.target == pid)) ≡ true → has_called links caller pid ≡ true
call_at caller pid [] k l few read is = absurd (omega (arith, few))
call_at caller pid (x ∷ xs) zero l few read is =
    or_left (is_call_from caller x && (x.target == pid)) (has_called xs caller pid) (ap (λ (y : Link). is_call_from caller y && (y.target == pid)) (sym read) ∙ is)
call_at caller pid (x ∷ xs) (suc k) l few read is =
    or_right (is_call_from caller x && (x.target == pid)) (has_called xs caller pid) (call_at caller pid xs k l (omega (arith, few)) read is)

-- ---- who called a process

not_with : (a e x t : Bool) → e ≡ true → ((a && e) && t) ≡ false → ((a && x) && t) ≡ false
not_with false e x t is h = refl
not_with true false x t is h = absurd (cc)
not_with true true true t is h = h
not_with true true false t is h = refl

-- a link that is no call into the process is none from anyone
pub from_nobody : (caller pid : ℕ) (l : Link) → (is_call_from l.source l && (l.target == pid)) ≡ false → (is_call_from caller l && (l.target == pid)) ≡ false
from_nobody caller pid l h = not_with (calls l.link) (l.source == l.source) (l.source == caller) (l.target == pid) (eq-eqb l.source l.source refl) h

-- a call into the process is from a process that called it
called_where : (caller pid : ℕ) (links : List Link) → has_called links caller pid ≡ true
    → (k : ℕ) × (m : Link) × (slice_get links k ≡ Some m) × ((is_call_from caller m && (m.target == pid)) ≡ true)
called_where caller pid [] h = absurd (cc)
called_where caller pid (x ∷ xs) h = by_test (is_call_from caller x && (x.target == pid)) refl h (called_where caller pid xs)
  where
    by_test : (b : Bool) → (is_call_from caller x && (x.target == pid)) ≡ b → (b || has_called xs caller pid) ≡ true
        → (has_called xs caller pid ≡ true → (k : ℕ) × (m : Link) × (slice_get xs k ≡ Some m) × ((is_call_from caller m && (m.target == pid)) ≡ true))
        → (k : ℕ) × (m : Link) × (slice_get (x ∷ xs) k ≡ Some m) × ((is_call_from caller m && (m.target == pid)) ≡ true)
    by_test true is e rest = (zero, x, refl, is)
    by_test false is e rest = let more = rest e in (suc more.0, more.1, more.2, more.3)

-- At most one process called a process.
pub one_caller : (caller pid : ℕ) (nodes : List NodeKind) (links : List Link) (k : ℕ) (l : Link) → IsLinkCorrect nodes links → k < length links → l ≡ get_or links k l
    → (is_call_from l.source l && (l.target == pid)) ≡ true → has_called links caller pid ≡ true → l.source ≡ caller
one_caller caller pid nodes links k l correct few read is called =
    let other = called_where caller pid links called in
    let here : slice_get links k ≡ Some l = slice_get-get_or links k l few ∙ ap (λ (x : Link). Some x) (sym read) in
    let one = left (calls l.link && (l.source == l.source)) (l.target == pid) is in
    let two = left (calls other.1.link && (other.1.source == caller)) (other.1.target == pid) other.3 in
    let ends : l.target ≡ other.1.target
    = eqb-true l.target pid (right (calls l.link && (l.source == l.source)) (l.target == pid) is)
    ∙ sym (eqb-true other.1.target pid (right (calls other.1.link && (other.1.source == caller)) (other.1.target == pid) other.3)) in
    elim (cases_eq k other.0) [
      | inl same ↦
          let there : slice_get links k ≡ Some other.1 = ap (slice_get links) same ∙ other.2 in
          let equal : l ≡ other.1 = cc in
          ap (λ (x : Link). x.source) equal ∙ eqb-true other.1.source caller (right (calls other.1.link) (other.1.source == caller) two)
      | inr apart ↦
          absurd ((correct.apart k other.0 l other.1 apart here other.2).callers
          (calls_is l.link (left (calls l.link) (l.source == l.source) one), calls_is other.1.link (left (calls other.1.link) (other.1.source == caller) two), ends))
    ]

-- ---- how many calls there are

pub calls_first : (pid : ℕ) (links : List Link) (at : ℕ) → Skips source_of links pid (length links) at → calls_from pid (drop at links) ≡ 0
calls_first pid links at s = walk_begins (calls_from pid) source_of pid (calls_pass pid) links at s

pub calls_next : (pid : ℕ) (links : List Link) (at next : ℕ) (l : Link) → 0 < at → at ≤ length links → l ≡ get_or links (at - 1) l
    → Skips source_of links pid (at - 1) next
    → calls_from pid (drop next links) ≡ (if is_call_from pid l then suc (calls_from pid (drop at links)) else calls_from pid (drop at links))
calls_next pid links at next l some few read s = walk_on (calls_from pid) source_of pid (calls_pass pid) links at next l some few read s
