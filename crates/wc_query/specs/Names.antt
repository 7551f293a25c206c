-- The words that stand in a query, and what each means.
use Rattle.std.specs.Prelude.{ℕ, Bool, true, false, if◌then◌else◌, List, [], ◌∷◌, Option, Some, None, codes}
use Rattle.std.specs.List.{list_any}
use Rattle.std.specs.Str.{bytes_eq}
use Rattle.wc_graph.specs.declared.link.LinkType.{LinkType}
use Rattle.wc_graph.specs.declared.link.LinkType.TheVariants as link
use Rattle.wc_query.specs.declared.query.Field.{Field}
use Rattle.wc_query.specs.declared.query.Field.TheVariants as field
use Rattle.wc_query.specs.declared.query.Op.{Op}
use Rattle.wc_query.specs.declared.query.Op.TheVariants as op
use Rattle.wc_query.specs.Pieces.{behind}

-- the kinds of nodes: all, the two sides of the graph, those of values and those of processes
abbrev pub kind_words : List (List ℕ)
kind_words =
    codes "any" ∷ codes "data" ∷ codes "process" ∷ codes "int" ∷ codes "bool" ∷ codes "text" ∷ codes "list" ∷ codes "dict" ∷ codes "folder"
    ∷ codes "calcfunction" ∷ codes "calcjob" ∷ codes "workchain" ∷ []

-- whether a word is that of a kind of node
unfoldable pub is_kind : List ℕ → Bool
is_kind word = list_any (λ kind. bytes_eq kind word) kind_words

-- the first words of states
abbrev pub state_words : List (List ℕ)
state_words = codes "created" ∷ codes "running" ∷ codes "waiting" ∷ codes "finished" ∷ codes "excepted" ∷ codes "killed" ∷ []

-- whether a word is the first one of a state
unfoldable pub is_state : List ℕ → Bool
is_state word = list_any (λ state. bytes_eq state word) state_words

-- the type of link of which a word is the name, if it is one
unfoldable pub link_type_of : List ℕ → Option LinkType
link_type_of word =
    if bytes_eq word (codes "INPUT_CALC") then Some link.InputCalc
    else (if bytes_eq word (codes "INPUT_WORK") then Some link.InputWork
    else (if bytes_eq word (codes "CREATE") then Some link.Create
    else (if bytes_eq word (codes "RETURN") then Some link.Return
    else (if bytes_eq word (codes "CALL_CALC") then Some link.CallCalc
    else (if bytes_eq word (codes "CALL_WORK") then Some link.CallWork else None)))))

-- what a text begins with, beside what is behind it; else what another reading gives
abbrev pub begins : {A : Type 0} → A → Option (List ℕ) → Option (A × List ℕ) → Option (A × List ℕ)
begins a None other = other
begins a (Some rest) other = Some (a, rest)

-- the field that a text begins with the name of, and what is behind it
unfoldable pub field_of : List ℕ → Option (Field × List ℕ)
field_of text =
    begins field.Name (behind (codes "name") text) (begins field.State (behind (codes "state") text) (begins field.Id (behind (codes "id") text)
    (begins field.Status (behind (codes "status") text) (begins field.Value (behind (codes "value") text) None))))

-- the comparison that a text begins with, and what is behind it
unfoldable pub op_of : List ℕ → Option (Op × List ℕ)
op_of text =
    begins op.Equal (behind (codes "=") text) (begins op.Differs (behind (codes "!=") text) (begins op.Below (behind (codes "<") text)
    (begins op.Above (behind (codes ">") text) None)))

-- the way that a text begins with, true for from the node before to the node after, and what is behind it
unfoldable pub way_of : List ℕ → Option (Bool × List ℕ)
way_of text = begins true (behind (codes ">") text) (begins false (behind (codes "<") text) None)

-- whether a comparison asks for an order
abbrev pub is_order : Op → Bool
is_order op.Equal = false
is_order op.Differs = false
is_order op.Below = true
is_order op.Above = true
