-- The rows of two queries, found by hand.
use Rattle.std.specs.Prelude.{pos, true, false, [], ◌∷◌, None, codes}
use Rattle.wc_world.specs.World.{World}
use Rattle.wc_graph.specs.declared.link.LinkType.TheVariants as link
use Rattle.wc_graph.specs.declared.node.NodeKind.TheVariants as node
use Rattle.wc_query.specs.declared.query.Field.TheVariants as field
use Rattle.wc_query.specs.declared.query.Op.TheVariants as op
use Rattle.wc_query.specs.declared.query.Operand.TheVariants.{Word, Number}
use Rattle.wc_query.specs.declared.query.Query.{Query}
use Rattle.wc_state.specs.declared.record.Part.TheVariants as part
use Rattle.wc_state.specs.declared.record.ProcessKind.TheVariants as kind
use Rattle.wc_value.specs.declared.process.ProcessState.TheVariants as state
use Rattle.wc_value.specs.declared.value.Value.TheVariants as value
use Rattle.wc_matches.specs.First.{AreFirst, HasMore}
use Rattle.wc_matches.specs.Matches.{IsMatch}

-- A store in which a function named add has taken 2 and 3 and made 5.
unfoldable pub store : World
store = record {
  nodes = node.Data (value.Int (pos 2)) ∷ node.Data (value.Int (pos 3)) ∷ node.Calculation ∷ node.Data (value.Int (pos 5)) ∷ [];
  links = record { source = 1; target = 3; link = link.InputCalc; label = codes "x" } ∷ record { source = 2; target = 3; link = link.InputCalc; label = codes "y" }
      ∷ record { source = 3; target = 4; link = link.Create; label = codes "sum" } ∷ [];
  records = record {
    node = 3;
    kind = kind.Function;
    definition = codes "add";
    library = 1;
    depth = 1;
    label = [];
    caching = false;
    state = state.Finished 0;
    paused = false;
    cached_from = None;
    fuel = 0;
    code = None;
    started = 2;
    ended = 2;
    part = part.Over;
  } ∷ [];
  libraries = [];
  batches = 2;
}

-- int '>INPUT_CALC' calcfunction,name=add '>CREATE' int,value=5
unfoldable pub sums : Query
sums = record {
  first = record { kind = codes "int"; filters = [] };
  more = (
    record { forward = true; types = link.InputCalc ∷ []; walk = false },
    record { kind = codes "calcfunction"; filters = record { field = field.Name; op = op.Equal; operand = Word (codes "add") } ∷ [] },
  )
      ∷ (
        record { forward = true; types = link.Create ∷ []; walk = false },
        record { kind = codes "int"; filters = record { field = field.Value; op = op.Equal; operand = Number (pos 5) } ∷ [] },
      )
      ∷ [];
}

-- any,id=4 '<INPUT_CALC,CREATE*' any
unfoldable pub origins : Query
origins = record {
  first = record { kind = codes "any"; filters = record { field = field.Id; op = op.Equal; operand = Number (pos 4) } ∷ [] };
  more = (record { forward = false; types = link.InputCalc ∷ link.Create ∷ []; walk = true }, record { kind = codes "any"; filters = [] }) ∷ [];
}

-- Both inputs have a row, in order.
abbrev pub SumsAreFound : Type 0
SumsAreFound = AreFirst (IsMatch store sums) 10000 ((1 ∷ 3 ∷ 4 ∷ []) ∷ (2 ∷ 3 ∷ 4 ∷ []) ∷ [])

-- All from which the 5 came has a row, and with at most one row there are further ones.
abbrev pub OriginsAreFound : Type 0
OriginsAreFound = AreFirst (IsMatch store origins) 10000 ((4 ∷ 1 ∷ []) ∷ (4 ∷ 2 ∷ []) ∷ (4 ∷ 3 ∷ []) ∷ [])

-- The law: of a small store, the first row of a query, and that there are more, found by hand
abbrev pub OneOriginIsFound : Type 0
OneOriginIsFound = AreFirst (IsMatch store origins) 1 ((4 ∷ 1 ∷ []) ∷ []) × HasMore (IsMatch store origins) ((4 ∷ 1 ∷ []) ∷ [])
