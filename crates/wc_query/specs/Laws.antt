-- Words that were read by hand.
use Rattle.std.specs.Prelude.{◌≡◌, pos, negsuc, true, false, [], ◌∷◌, Some, None, Ok, Err, codes}
use Rattle.wc_graph.specs.declared.link.LinkType.TheVariants as link
use Rattle.wc_query.specs.declared.error.QueryError.TheVariants.{Shape, BadWord}
use Rattle.wc_query.specs.declared.query.Field.TheVariants as field
use Rattle.wc_query.specs.declared.query.Op.TheVariants as op
use Rattle.wc_query.specs.declared.query.Operand.TheVariants.{Word, Number}
use Rattle.wc_query.specs.Words.{node_of, link_of, query_of}

-- two ints that a function named add took, and the 5 that it made
abbrev pub ReadsLinks : Type 0
ReadsLinks = query_of (codes "int" ∷ codes ">INPUT_CALC" ∷ codes "calcfunction,name=add" ∷ codes ">CREATE" ∷ codes "int,value=5" ∷ []) ≡ Ok (record {
  first = record { kind = codes "int"; filters = [] };
  more = (
    record { forward = true; types = link.InputCalc ∷ []; walk = false },
    record { kind = codes "calcfunction"; filters = record { field = field.Name; op = op.Equal; operand = Word (codes "add") } ∷ [] },
  )
      ∷ (
        record { forward = true; types = link.Create ∷ []; walk = false },
        record { kind = codes "int"; filters = record { field = field.Value; op = op.Equal; operand = Number (pos 5) } ∷ [] },
      )
      ∷ [];
})

-- all that node 4 came from
abbrev pub ReadsWalks : Type 0
ReadsWalks = query_of (codes "any,id=4" ∷ codes "<INPUT_CALC,CREATE*" ∷ codes "any" ∷ []) ≡ Ok (record {
  first = record { kind = codes "any"; filters = record { field = field.Id; op = op.Equal; operand = Number (pos 4) } ∷ [] };
  more = (record { forward = false; types = link.InputCalc ∷ link.Create ∷ []; walk = true }, record { kind = codes "any"; filters = [] }) ∷ [];
})

-- a name may be empty or begin with the sign of a comparison, and a number may have leading zeros and a sign
abbrev pub ReadsOperands : Type 0
ReadsOperands =
    (node_of (codes "process,name==x,name!=") ≡ Some (record {
      kind = codes "process";
      filters =
          record { field = field.Name; op = op.Equal; operand = Word (codes "=x") } ∷ record { field = field.Name; op = op.Differs; operand = Word [] } ∷ [];
    }))
    × (node_of (codes "calcjob,state=finished,status<-07") ≡ Some (record {
      kind = codes "calcjob";
      filters =
          record { field = field.State; op = op.Equal; operand = Word (codes "finished") } ∷ record { field = field.Status; op = op.Below; operand = Number (negsuc 6) } ∷ [];
    }))

-- no words, words that are even in number, and words of which one is wrong
abbrev pub Refuses : Type 0
Refuses =
    (query_of [] ≡ Err Shape)
    × (query_of (codes "any" ∷ codes ">CREATE" ∷ []) ≡ Err Shape)
    × (query_of (codes "any" ∷ codes "CREATE" ∷ codes "what" ∷ []) ≡ Err (BadWord 1))
    × (query_of (codes "any" ∷ codes ">CREATE" ∷ codes "what" ∷ []) ≡ Err (BadWord 2))
    × (node_of (codes "any,") ≡ None) × (node_of (codes "any,name<a") ≡ None) × (node_of (codes "any,state=ended") ≡ None) × (node_of (codes "any,id=+1") ≡ None)
    × (link_of (codes ">") ≡ None) × (link_of (codes ">*") ≡ None) × (link_of (codes ">CREATE,") ≡ None) × (link_of (codes ">create") ≡ None)
