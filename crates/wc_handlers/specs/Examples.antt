-- Files of restart chains, and what they say.
use Rattle.std.specs.Prelude.{ℕ, List, [], ◌∷◌, codes}
use Rattle.wc_handlers.specs.declared.spec.Remedy.TheVariants as remedy
use Rattle.wc_handlers.specs.declared.spec.Spec.{Spec}

-- one handler, and all that may be left out is
abbrev pub safe_file : List ℕ
safe_file = codes "name = \"safe\"\nof = \"double\"\n[[handler]]\nstatuses = [310]\npriority = 10\ncall = \"less\"\n"

-- a spec with a handler
abbrev pub safe : Spec
safe = record {
  name = codes "safe";
  job = codes "double";
  most = 5;
  handlers = record { statuses = 310 ∷ []; priority = 10; remedy = remedy.Call (codes "less") } ∷ [];
}

-- no handler
abbrev pub bare_file : List ℕ
bare_file = codes "of = \"double\"\nmax = 1\nname = \"safe\"\n"

-- a spec without one
abbrev pub bare : Spec
bare = record { name = codes "safe"; job = codes "double"; most = 1; handlers = [] }

-- the chain has no name, and an unknown key stands behind that in the order of bytes
abbrev pub unnamed_file : List ℕ
unnamed_file = codes "of = \"double\"\nnamed = \"safe\"\n"

-- a handler does two things
abbrev pub torn_file : List ℕ
torn_file = codes "name = \"safe\"\nof = \"double\"\n[[handler]]\nstatuses = [310]\npriority = 10\ncall = \"less\"\nabort = 310\n"
