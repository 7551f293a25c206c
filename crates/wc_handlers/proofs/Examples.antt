-- The tables that the files of the worked examples spell.
use Rattle.std.proofs.Common.{◌≡◌, refl, ℕ, zero, suc, ◌<◌, true, List, [], ◌∷◌, get_or, Some, None, nat_lt, codes, pos, IsUtf8, arith}
use Rattle.std.specs.List.{list_all}
use Rattle.std.proofs.lemmas.Bool.{and_parts, ltb-true}
use Rattle.std.proofs.lemmas.Str.{IsUtf8-from_ascii}
use Rattle.toml.specs.Data.{string, integer, array, table, no_items, item, Members, no_members, member}
use Rattle.toml.specs.Parse.{parse_document}
use Rattle.toml.proofs.OnLiterals.{toml_on_literals}
use Rattle.wc_handlers.specs.Examples.{safe_file, bare_file, unnamed_file, torn_file}

each_small : (bs : List ℕ) → list_all (λ b. nat_lt b 128) bs ≡ true → (i : ℕ) → get_or bs i 0 < 128
each_small [] h i = omega arith
each_small (b ∷ bs) h zero = ltb-true b 128 (and_parts (nat_lt b 128) (list_all (λ c. nat_lt c 128) bs) h).0
each_small (b ∷ bs) h (suc i) = each_small bs (and_parts (nat_lt b 128) (list_all (λ c. nat_lt c 128) bs) h).1 i

pub is_text : (bs : List ℕ) → list_all (λ b. nat_lt b 128) bs ≡ true → IsUtf8 bs
is_text bs h = IsUtf8-from_ascii bs (each_small bs h)

-- statuses, a priority and the name of a function, behind what stands before them in the order of keys
abbrev pub less : Members → Members
less rest = member (codes "call") (string (codes "less")) (member (codes "priority") (integer (pos 10)) (member (codes "statuses") (array (item (integer (pos 310)) no_items)) rest))

-- the names of a chain and its job
abbrev pub named : Members
named = member (codes "name") (string (codes "safe")) (member (codes "of") (string (codes "double")) no_members)

abbrev pub handled : Members → Members
handled h = member (codes "handler") (array (item (table h) no_items)) named

pub safe_parsed : parse_document safe_file ≡ Some (handled (less no_members))
unfolding toml_on_literals
safe_parsed = refl

pub bare_parsed : parse_document bare_file ≡ Some (member (codes "max") (integer (pos 1)) named)
unfolding toml_on_literals
bare_parsed = refl

pub unnamed_parsed : parse_document unnamed_file ≡ Some (member (codes "named") (string (codes "safe")) (member (codes "of") (string (codes "double")) no_members))
unfolding toml_on_literals
unnamed_parsed = refl

pub torn_parsed : parse_document torn_file ≡ Some (handled (member (codes "abort") (integer (pos 310)) (less no_members)))
unfolding toml_on_literals
torn_parsed = refl

pub garbled_parsed : parse_document (codes "name") ≡ None
unfolding toml_on_literals
garbled_parsed = refl
