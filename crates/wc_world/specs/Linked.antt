-- The links at places, and those of one node.
use Rattle.std.specs.Prelude.{ℕ, ◌==◌, if◌then◌else◌, List, [], ◌∷◌, ◌++◌, Option, Some, None, slice_get, option_to_list}
use Rattle.wc_value.specs.Ascending.{put}
use Rattle.wc_value.specs.declared.value.Value.{Value}
use Rattle.wc_graph.specs.declared.node.NodeKind.{NodeKind}
use Rattle.wc_graph.specs.declared.link.Link.{Link}
use Rattle.wc_world.specs.Records.{is_call_from, is_output_of}
use Rattle.wc_world.specs.Trees.{value_of}

-- the links at these places from the last to the first, and then others
abbrev pub upwards : List Link → List ℕ → List Link → List Link
upwards links [] others = others
upwards links (p ∷ ps) others = upwards links ps (option_to_list (slice_get links p) ++ others)

-- those of the links that have the node at this end
abbrev pub of_node : (Link → ℕ) → ℕ → List Link → List Link
of_node side n [] = []
of_node side n (l ∷ ls) = if side l == n then l ∷ of_node side n ls else of_node side n ls

-- the values alone with one more, where the node is data
abbrev pub with_plain : List ℕ → Option Value → List (List ℕ × Value) → List (List ℕ × Value)
with_plain label None entries = entries
with_plain label (Some v) entries = put label v entries

-- what the links of a process lead to, as values alone
abbrev pub plain_after : List NodeKind → ℕ → List Link → List (List ℕ × Value) → List (List ℕ × Value)
plain_after nodes pid [] entries = entries
plain_after nodes pid (l ∷ ls) entries =
    plain_after nodes pid ls (if is_output_of pid l then with_plain l.label (value_of nodes l.target) entries else entries)

-- the link, if there is one, where it is a call from this process
abbrev pub call_in : ℕ → Option Link → Option Link
call_in pid None = None
call_in pid (Some l) = if is_call_from pid l then Some l else None
