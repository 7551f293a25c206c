-- The spec of a table that nothing refuses keeps the ranges of specs.
use Rattle.std.proofs.Common.{◌≡◌, ◌∙◌, refl, sym, ap, subst, ℕ, suc, ◌≤◌, ◌==◌, ℤ, pos, negsuc, Bool, true, false, ◌&&◌, ◌||◌, nat_le, if◌then◌else◌, List, [], ◌++◌, length, Option, Some, None, is_some, option_and_then, codes, arith}
use Rattle.std.specs.Prelude.{unwrap_or}
use Rattle.std.specs.List.{AllByRecursion}
use Rattle.std.proofs.lemmas.Bool.{and_parts, leb-true}
use Rattle.toml.specs.Data.{Data, as_integer, as_str, as_array, as_table, Items, no_items, item, Members, get_member}
use Rattle.wc_handlers.specs.declared.keys.Holds.TheVariants as holds
use Rattle.wc_handlers.specs.declared.keys.Place.TheVariants as place
use Rattle.wc_handlers.specs.declared.spec.Handler.{Handler}
use Rattle.wc_handlers.specs.declared.spec.Remedy.TheVariants as remedy
use Rattle.wc_handlers.specs.Names.{is_name}
use Rattle.wc_handlers.specs.Refusals.{member_refusals, missing, remedy_refusals, handler_refusals, table_refusals, item_refusals, list_refusals, handlers_in, refusals, least}
use Rattle.wc_handlers.specs.Specs.{number_of, status_then, statuses, statuses_in, abort_in, remedy_for, handler_of, handler_then, handlers, handlers_of, spec_of, IsStatus, IsRemedy, IsHandler, IsSpec}
use Rattle.wc_handlers.specs.Values.{within, then_other, count, are_few, is_status, all_statuses, are_statuses, all_tables, are_handlers, is_name_text, is_held}
use Rattle.wc_handlers.proofs.Nothing.{none_refused, front, back, is_there, member_held}

-- ---- names

named_text : (t : Option (List ℕ)) → is_name_text t ≡ true → is_name (unwrap_or t []) ≡ true
named_text None is = absurd (cc)
named_text (Some t) is = is

named : (o : Option Data) → is_some o ≡ true → ((d : Data) → o ≡ Some d → is_held holds.Name d ≡ true) → is_name (unwrap_or (option_and_then as_str o) []) ≡ true
named None there held = absurd (cc)
named (Some d) there held = named_text (as_str d) (held d refl)

called_name : (o : Option Data) → ((d : Data) → o ≡ Some d → is_held holds.Name d ≡ true) → (t : List ℕ) → option_and_then as_str o ≡ Some t → is_name t ≡ true
called_name None held t is = absurd (cc)
called_name (Some d) held t is = sym (ap is_name_text is) ∙ held d refl

-- ---- numbers

within_if : (least most m n : ℕ) (b : Bool) → (nat_le least m && nat_le m most) ≡ b → (if b then Some m else None) ≡ Some n → (least ≤ n) × (n ≤ most)
within_if least most m n false t is = absurd (cc)
within_if least most m n true t is =
    let both = and_parts (nat_le least m) (nat_le m most) t in
    let same : m ≡ n = ap (λ (o : Option ℕ). unwrap_or o m) is in
    (subst (λ (k : ℕ). least ≤ k) same (leb-true least m both.0), subst (λ (k : ℕ). k ≤ most) same (leb-true m most both.1))

within_is : (least most : ℕ) (z : Option ℤ) (n : ℕ) → within least most z ≡ Some n → (least ≤ n) × (n ≤ most)
within_is least most None n is = absurd (cc)
within_is least most (Some (pos m)) n is = within_if least most m n (nat_le least m && nat_le m most) refl is
within_is least most (Some (negsuc m)) n is = absurd (cc)

in_range : (least most usual : ℕ) → least ≤ usual → usual ≤ most → (o : Option ℕ) → ((n : ℕ) → o ≡ Some n → (least ≤ n) × (n ≤ most))
    → (least ≤ unwrap_or o usual) × (unwrap_or o usual ≤ most)
in_range least most usual low high None h = (low, high)
in_range least most usual low high (Some n) h = h n refl

number_kept : (least most usual : ℕ) → least ≤ usual → usual ≤ most → (o : Option Data)
    → (least ≤ unwrap_or (option_and_then (number_of least most) o) usual) × (unwrap_or (option_and_then (number_of least most) o) usual ≤ most)
number_kept least most usual low high None = (low, high)
number_kept least most usual low high (Some d) = in_range least most usual low high (within least most (as_integer d)) (within_is least most (as_integer d))

-- ---- statuses

status_kept : (o : Option ℕ) (rest : List ℕ) → ((n : ℕ) → o ≡ Some n → IsStatus n) → AllByRecursion IsStatus rest → AllByRecursion IsStatus (status_then o rest)
status_kept None rest h more = more
status_kept (Some n) rest h more = (h n refl, more)

statuses_kept : (ds : Items) → AllByRecursion IsStatus (statuses ds)
statuses_kept no_items = tt
statuses_kept (item d ds) = status_kept (within 1 9999 (as_integer d)) (statuses ds) (within_is 1 9999 (as_integer d)) (statuses_kept ds)

status_counted : (o : Option ℕ) (rest : List ℕ) (n : ℕ) → is_some o ≡ true → length rest ≡ n → length (status_then o rest) ≡ suc n
status_counted None rest n there is = absurd (cc)
status_counted (Some s) rest n there is = ap suc is

statuses_counted : (ds : Items) → all_statuses ds ≡ true → length (statuses ds) ≡ count ds
statuses_counted no_items is = refl
statuses_counted (item d ds) is =
    let both = and_parts (is_status d) (all_statuses ds) is in
    status_counted (within 1 9999 (as_integer d)) (statuses ds) (count ds) both.0 (statuses_counted ds both.1)

abbrev Listed : List ℕ → Type 0
Listed ss = (1 ≤ length ss) × (length ss ≤ 16) × AllByRecursion IsStatus ss

items_kept : (o : Option Items) → are_statuses o ≡ true → Listed (statuses_in o)
items_kept None is = absurd (cc)
items_kept (Some ds) is =
    let both = and_parts (are_few 1 ds) (all_statuses ds) is in
    let few = and_parts (nat_le 1 (count ds)) (nat_le (count ds) 16) both.0 in
    let same : length (statuses ds) ≡ count ds = statuses_counted ds both.1 in
    (subst (λ (n : ℕ). 1 ≤ n) (sym same) (leb-true 1 (count ds) few.0), subst (λ (n : ℕ). n ≤ 16) (sym same) (leb-true (count ds) 16 few.1), statuses_kept ds)

listed : (o : Option Data) → is_some o ≡ true → ((d : Data) → o ≡ Some d → is_held holds.Statuses d ≡ true) → Listed (statuses_in (option_and_then as_array o))
listed None there held = absurd (cc)
listed (Some d) there held = items_kept (as_array d) (held d refl)

-- ---- what a handler does

own_is : (m n : ℕ) (b : Bool) → ((m == 401) || (m == 402)) ≡ b → (100 ≤ m) × (m ≤ 9999) → (if b then None else Some m) ≡ Some n → IsRemedy (remedy.Abort n)
own_is m n true t range is = absurd (cc)
own_is m n false t range is =
    let same : m ≡ n = ap (λ (o : Option ℕ). unwrap_or o m) is in
    let apart : (k : ℕ) → ((k == 401) || (k == 402)) ≡ true → m ≡ k → ⊥ = λ k own e. let bad : true ≡ false = sym own ∙ (sym (ap (λ (x : ℕ). (x == 401) || (x == 402)) e) ∙ t) in absurd (cc) in
    subst (λ (k : ℕ). IsRemedy (remedy.Abort k)) same (range.0, range.1, apart 401 refl, apart 402 refl)

other_is : (o : Option ℕ) (n : ℕ) → ((m : ℕ) → o ≡ Some m → (100 ≤ m) × (m ≤ 9999)) → then_other o ≡ Some n → IsRemedy (remedy.Abort n)
other_is None n h is = absurd (cc)
other_is (Some m) n h is = own_is m n ((m == 401) || (m == 402)) refl (h m refl) is

aborted : (o : Option Data) (n : ℕ) → option_and_then abort_in o ≡ Some n → IsRemedy (remedy.Abort n)
aborted None n is = absurd (cc)
aborted (Some d) n is = other_is (within 100 9999 (as_integer d)) n (within_is 100 9999 (as_integer d)) is

remedy_kept : (name : Option (List ℕ)) (status : Option ℕ) → ((t : List ℕ) → name ≡ Some t → is_name t ≡ true)
    → ((n : ℕ) → status ≡ Some n → IsRemedy (remedy.Abort n)) → IsRemedy (remedy_for name status)
remedy_kept (Some t) status h g = h t refl
remedy_kept None (Some n) h g = g n refl
remedy_kept None None h g = (omega arith, omega arith, (λ e. absurd (omega arith)), (λ e. absurd (omega arith)))

handler_kept : (ms : Members) → handler_refusals ms ≡ [] → IsHandler (handler_of ms)
handler_kept ms fine =
    let known = front (member_refusals place.Handler ms) (missing place.Handler (codes "statuses") ms ++ (missing place.Handler (codes "priority") ms ++ remedy_refusals ms)) fine in
    let rest = back (member_refusals place.Handler ms) (missing place.Handler (codes "statuses") ms ++ (missing place.Handler (codes "priority") ms ++ remedy_refusals ms)) fine in
    let there = is_there place.Handler (codes "statuses") ms (front (missing place.Handler (codes "statuses") ms) (missing place.Handler (codes "priority") ms ++ remedy_refusals ms) rest) in
    let ss = listed (get_member (codes "statuses") ms) there (λ d at. member_held place.Handler (codes "statuses") holds.Statuses refl ms d known at) in
    record {
      some = ss.0;
      few = ss.1;
      statuses = ss.2;
      priority = (number_kept 0 1000 0 (omega arith) (omega arith) (get_member (codes "priority") ms)).1;
      remedy = remedy_kept (option_and_then as_str (get_member (codes "call") ms)) (option_and_then abort_in (get_member (codes "abort") ms))
          (called_name (get_member (codes "call") ms) (λ d at. member_held place.Handler (codes "call") holds.Name refl ms d known at))
          (aborted (get_member (codes "abort") ms));
    }

-- ---- handlers

then_kept : (o : Option Members) (rest : List Handler) → table_refusals o ≡ [] → AllByRecursion IsHandler rest → AllByRecursion IsHandler (handler_then o rest)
then_kept None rest fine h = h
then_kept (Some ms) rest fine h = (handler_kept ms fine, h)

handlers_kept : (ds : Items) → item_refusals ds ≡ [] → AllByRecursion IsHandler (handlers ds)
handlers_kept no_items fine = tt
handlers_kept (item d ds) fine =
    then_kept (as_table d) (handlers ds) (front (table_refusals (as_table d)) (item_refusals ds) fine)
    (handlers_kept ds (back (table_refusals (as_table d)) (item_refusals ds) fine))

all_kept : (o : Option Items) → list_refusals o ≡ [] → AllByRecursion IsHandler (handlers_of o)
all_kept None fine = tt
all_kept (Some ds) fine = handlers_kept ds fine

then_few : (o : Option Members) (rest : List Handler) (n : ℕ) → length rest ≤ n → length (handler_then o rest) ≤ suc n
then_few None rest n h = omega (arith, h)
then_few (Some ms) rest n h = omega (arith, h)

handlers_few : (ds : Items) → length (handlers ds) ≤ count ds
handlers_few no_items = omega arith
handlers_few (item d ds) = then_few (as_table d) (handlers ds) (count ds) (handlers_few ds)

few_items : (o : Option Items) → are_handlers o ≡ true → length (handlers_of o) ≤ 16
few_items None is = omega arith
few_items (Some ds) is =
    let bounds = and_parts (nat_le 0 (count ds)) (nat_le (count ds) 16) (and_parts (are_few 0 ds) (all_tables ds) is).0 in
    let most : count ds ≤ 16 = leb-true (count ds) 16 bounds.1 in
    let few : length (handlers ds) ≤ count ds = handlers_few ds in
    omega (arith, most, few)

few_kept : (o : Option Data) → ((d : Data) → o ≡ Some d → is_held holds.Handlers d ≡ true) → length (handlers_of (option_and_then as_array o)) ≤ 16
few_kept None held = omega arith
few_kept (Some d) held = few_items (as_array d) (held d refl)

pub spec_kept : (ms : Members) → least (refusals ms) ≡ None → IsSpec (spec_of ms)
spec_kept ms first =
    let fine = none_refused (refusals ms) first in
    let known = front (member_refusals place.Top ms) (missing place.Top (codes "name") ms ++ (missing place.Top (codes "of") ms ++ list_refusals (handlers_in ms))) fine in
    let rest = back (member_refusals place.Top ms) (missing place.Top (codes "name") ms ++ (missing place.Top (codes "of") ms ++ list_refusals (handlers_in ms))) fine in
    let more = back (missing place.Top (codes "name") ms) (missing place.Top (codes "of") ms ++ list_refusals (handlers_in ms)) rest in
    let name_there = is_there place.Top (codes "name") ms (front (missing place.Top (codes "name") ms) (missing place.Top (codes "of") ms ++ list_refusals (handlers_in ms)) rest) in
    let job_there = is_there place.Top (codes "of") ms (front (missing place.Top (codes "of") ms) (list_refusals (handlers_in ms)) more) in
    let most = number_kept 1 5 5 (omega arith) (omega arith) (get_member (codes "max") ms) in
    record {
      name = named (get_member (codes "name") ms) name_there (λ d at. member_held place.Top (codes "name") holds.Name refl ms d known at);
      job = named (get_member (codes "of") ms) job_there (λ d at. member_held place.Top (codes "of") holds.Name refl ms d known at);
      some = most.0;
      few = most.1;
      handlers = all_kept (handlers_in ms) (back (missing place.Top (codes "of") ms) (list_refusals (handlers_in ms)) more);
      listed = few_kept (get_member (codes "handler") ms) (λ d at. member_held place.Top (codes "handler") holds.Handlers refl ms d known at);
    }
