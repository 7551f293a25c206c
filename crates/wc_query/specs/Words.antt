-- The words of a query, and the query that they are.
use Rattle.std.specs.Prelude.{ℕ, ◌+◌, ◌%◌, ◌==◌, nat_lt, Bool, true, false, if◌then◌else◌, List, [], ◌∷◌, length, Option, Some, None, option_map, option_and_then, Result, Ok, Err}
use Rattle.wc_expression.specs.Whole.{number_of}
use Rattle.wc_graph.specs.declared.link.LinkType.{LinkType}
use Rattle.wc_query.specs.declared.error.QueryError.{QueryError}
use Rattle.wc_query.specs.declared.error.QueryError.TheVariants.{Shape, TooLong, BadWord}
use Rattle.wc_query.specs.declared.query.Field.{Field}
use Rattle.wc_query.specs.declared.query.Field.TheVariants as field
use Rattle.wc_query.specs.declared.query.Filter.{Filter}
use Rattle.wc_query.specs.declared.query.LinkTest.{LinkTest}
use Rattle.wc_query.specs.declared.query.NodeTest.{NodeTest}
use Rattle.wc_query.specs.declared.query.Op.{Op}
use Rattle.wc_query.specs.declared.query.Operand.{Operand}
use Rattle.wc_query.specs.declared.query.Operand.TheVariants.{Word, Number}
use Rattle.wc_query.specs.declared.query.Query.{Query}
use Rattle.wc_query.specs.Names.{is_kind, is_state, link_type_of, field_of, op_of, way_of, is_order}
use Rattle.wc_query.specs.Pieces.{pieces, without_star}

-- all that is read in each text, if each is read
abbrev pub read_all : {A : Type 0} → (List ℕ → Option A) → List (List ℕ) → Option (List A)
read_all read [] = Some []
read_all read (text ∷ texts) = option_and_then (λ a. option_map (λ found. a ∷ found) (read_all read texts)) (read text)

-- ---- nodes

-- what a field is compared with: a name in any way but by order, a state so too, and else a whole number
abbrev pub operand_of : Field → Op → List ℕ → Option Operand
operand_of field.Name op text = if is_order op then None else Some (Word text)
operand_of field.State op text = if is_order op then None else (if is_state text then Some (Word text) else None)
operand_of field.Id op text = option_map Number (number_of text)
operand_of field.Status op text = option_map Number (number_of text)
operand_of field.Value op text = option_map Number (number_of text)

-- the filter of a field behind which this text stands
abbrev pub compared : Field → List ℕ → Option Filter
compared field text =
    option_and_then (λ found. option_map (λ operand. record { field = field; op = found.0; operand = operand }) (operand_of field found.0 found.1)) (op_of text)

-- a filter: the name of a field, a comparison and an operand
unfoldable pub filter_of : List ℕ → Option Filter
filter_of text = option_and_then (λ found. compared found.0 found.1) (field_of text)

-- the test of a node that words are: a kind, and then filters
abbrev pub node_in : List (List ℕ) → Option NodeTest
node_in [] = None
node_in (kind ∷ texts) = if is_kind kind then option_map (λ filters. record { kind = kind; filters = filters }) (read_all filter_of texts) else None

-- the test of a node: a kind and filters, joined by commas
unfoldable pub node_of : List ℕ → Option NodeTest
node_of word = node_in (pieces word)

-- ---- links

-- link types joined by commas
abbrev pub types_of : List ℕ → Option (List LinkType)
types_of text = read_all link_type_of (pieces text)

-- the test of a link with these types, where they are read
abbrev pub with_types : Bool → Bool → Option (List LinkType) → Option LinkTest
with_types forward walk types = option_map (λ ts. record { forward = forward; types = ts; walk = walk }) types

-- the types that a text names, of single links, or in front of a `*` of walks
abbrev pub linked : Bool → List ℕ → Option (List ℕ) → Option LinkTest
linked forward text None = with_types forward false (types_of text)
linked forward text (Some types) = with_types forward true (types_of types)

-- a link: `>` or `<`, link types, and a `*` for walks
unfoldable pub link_of : List ℕ → Option LinkTest
link_of word = option_and_then (λ found. linked found.0 found.1 (without_star found.1)) (way_of word)

-- ---- the query

-- what the word at a place is read as, and then what is made of it
abbrev pub or_bad : {A B : Type 0} → ℕ → Option A → (A → Result B QueryError) → Result B QueryError
or_bad at None made = Err (BadWord at)
or_bad at (Some a) made = made a

-- one more link with the node behind it in front of others, or why those can't be read
abbrev pub and_joins : LinkTest × NodeTest → Result (List (LinkTest × NodeTest)) QueryError → Result (List (LinkTest × NodeTest)) QueryError
and_joins join (Ok joins) = Ok (join ∷ joins)
and_joins join (Err e) = Err e

-- links with the nodes behind them, of which the first stands at this place; a last word alone is none
abbrev pub joins_of : ℕ → List (List ℕ) → Result (List (LinkTest × NodeTest)) QueryError
joins_of at [] = Ok []
joins_of at (link ∷ []) = Ok []
joins_of at (link ∷ node ∷ words) =
    or_bad at (link_of link) (λ l. or_bad (at + 1) (node_of node) (λ n. and_joins (l, n) (joins_of (at + 2) words)))

-- the query of a first node with its joins, or why those can't be read
abbrev pub with_first : NodeTest → Result (List (LinkTest × NodeTest)) QueryError → Result Query QueryError
with_first first (Ok joins) = Ok (record { first = first; more = joins })
with_first first (Err e) = Err e

-- the query of words whose number is right: the first node, and then links with the nodes behind them
abbrev pub chain_of : List (List ℕ) → Result Query QueryError
chain_of [] = Err Shape
chain_of (node ∷ words) = or_bad 0 (node_of node) (λ n. with_first n (joins_of 1 words))

-- the query that words are, or the first reason why they are none
unfoldable pub query_of : List (List ℕ) → Result Query QueryError
query_of words = if length words % 2 == 0 then Err Shape else (if nat_lt 15 (length words) then Err TooLong else chain_of words)
