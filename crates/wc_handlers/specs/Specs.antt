-- The spec that a table gives, and what each spec that is read keeps.
use Rattle.std.specs.Prelude.{◌≡◌, ◌≢◌, ℕ, ◌≤◌, true, List, [], ◌∷◌, length, Option, Some, None, option_and_then, unwrap_or, codes}
use Rattle.std.specs.List.{AllByRecursion}
use Rattle.toml.specs.Data.{Data, as_integer, as_str, as_array, as_table, Items, no_items, item, Members, get_member}
use Rattle.wc_handlers.specs.declared.spec.Handler.{Handler}
use Rattle.wc_handlers.specs.declared.spec.Remedy.{Remedy}
use Rattle.wc_handlers.specs.declared.spec.Remedy.TheVariants as remedy
use Rattle.wc_handlers.specs.declared.spec.Spec.{Spec}
use Rattle.wc_handlers.specs.Names.{is_name}
use Rattle.wc_handlers.specs.Refusals.{handlers_in}
use Rattle.wc_handlers.specs.Values.{within, abort_of}

-- ---- of a table that nothing refuses. Where a key isn't there, or has another value, the definitions give its usual
-- value, or one that plays no part, since the table is refused.

-- the text under a key, empty where there is none
abbrev pub text_at : List ℕ → Members → List ℕ
text_at key ms = unwrap_or (option_and_then as_str (get_member key ms)) []

-- a number within its range
abbrev pub number_of : ℕ → ℕ → Data → Option ℕ
number_of least most d = within least most (as_integer d)

-- the number under a key, else the usual one
abbrev pub number_at : List ℕ → (least most usual : ℕ) → Members → ℕ
number_at key least most usual ms = unwrap_or (option_and_then (number_of least most) (get_member key ms)) usual

-- a status in front of others, if it is one
abbrev pub status_then : Option ℕ → List ℕ → List ℕ
status_then None rest = rest
status_then (Some s) rest = s ∷ rest

-- the statuses among items
abbrev pub statuses : Items → List ℕ
statuses no_items = []
statuses (item d ds) = status_then (within 1 9999 (as_integer d)) (statuses ds)

-- the statuses of a list, if there is one
abbrev pub statuses_in : Option Items → List ℕ
statuses_in None = []
statuses_in (Some ds) = statuses ds

-- the status of an end, by what stands under its key
abbrev pub abort_in : Data → Option ℕ
abort_in d = abort_of (as_integer d)

-- what a handler does: it calls the function that it names, or else ends the chain
abbrev pub remedy_for : Option (List ℕ) → Option ℕ → Remedy
remedy_for (Some name) status = remedy.Call name
remedy_for None status = remedy.Abort (unwrap_or status 100)

-- what a handler does, by its keys `call` and `abort`
abbrev pub remedy_of : Members → Remedy
remedy_of ms = remedy_for (option_and_then as_str (get_member (codes "call") ms)) (option_and_then abort_in (get_member (codes "abort") ms))

-- the handler that its table gives
abbrev pub handler_of : Members → Handler
handler_of ms = record {
  statuses = statuses_in (option_and_then as_array (get_member (codes "statuses") ms));
  priority = number_at (codes "priority") 0 1000 0 ms;
  remedy = remedy_of ms;
}

-- a handler in front of others, if its table is there
abbrev pub handler_then : Option Members → List Handler → List Handler
handler_then None rest = rest
handler_then (Some ms) rest = handler_of ms ∷ rest

-- the handlers among items
abbrev pub handlers : Items → List Handler
handlers no_items = []
handlers (item d ds) = handler_then (as_table d) (handlers ds)

-- the handlers of a list, if there is one
abbrev pub handlers_of : Option Items → List Handler
handlers_of None = []
handlers_of (Some ds) = handlers ds

-- The spec that a table gives: each key that may be left out and isn't there has its usual value, 5 attempts and no handler
abbrev pub spec_of : Members → Spec
spec_of ms = record {
  name = text_at (codes "name") ms;
  job = text_at (codes "of") ms;
  most = number_at (codes "max") 1 5 5 ms;
  handlers = handlers_of (handlers_in ms);
}

-- ---- what a spec keeps

-- a status from 1 to 9999
abbrev pub IsStatus : ℕ → Type 0
IsStatus s = (1 ≤ s) × (s ≤ 9999)

-- a name; or an exit status that isn't one of the chain's own
abbrev pub IsRemedy : Remedy → Type 0
IsRemedy (remedy.Call name) = is_name name ≡ true
IsRemedy (remedy.Abort status) = (100 ≤ status) × (status ≤ 9999) × (status ≢ 401) × (status ≢ 402)

-- a handler has 1 to 16 statuses from 1 to 9999, and a priority of at most 1000; what it does is a name, or a status in its range
pub record IsHandler (h : Handler) : Type 0 where
  pub some : 1 ≤ length h.statuses
  pub few : length h.statuses ≤ 16
  pub statuses : AllByRecursion IsStatus h.statuses
  pub priority : h.priority ≤ 1000
  pub remedy : IsRemedy h.remedy

-- What each spec that is read keeps: names, ranges and how many there are
pub record IsSpec (s : Spec) : Type 0 where
  pub name : is_name s.name ≡ true
  pub job : is_name s.job ≡ true
  pub some : 1 ≤ s.most
  pub few : s.most ≤ 5
  pub handlers : AllByRecursion IsHandler s.handlers
  pub listed : length s.handlers ≤ 16
