-- The numbers of a world's records ascend, so the first record with a number is the only one.
use Rattle.std.proofs.Common.{◌≡◌, ℕ, ◌+◌, ◌<◌, ◌≤◌, true, false, List, [], ◌∷◌, ◌++◌, length, map, ◌==◌, refl, arith, length-append}
use Rattle.std.specs.Prelude.{if◌then◌else◌, All}
use Rattle.std.proofs.lemmas.List.Elements.{All-nil, All-cons}
use Rattle.wc_state.specs.declared.record.ProcessRecord.{ProcessRecord}
use Rattle.wc_world.specs.declared.change.Change.{Change}
use Rattle.wc_world.specs.declared.change.Change.TheVariants as change
use Rattle.wc_graph.specs.declared.node.NodeKind.TheVariants as node
use Rattle.wc_world.specs.World.{World}
use Rattle.wc_world.specs.Records.{process_node}
use Rattle.wc_world.specs.Applied.{next_number, made, set, keep, after_change, changed, begun}
use Rattle.wc_world.specs.Accepted.{IsReached, nothing, then_changes}
use Rattle.wc_world.specs.Applying.{Ascend}
use Rattle.wc_world.specs.Drafts.{Ascends}

abbrev choose : ℕ → (ProcessRecord → ProcessRecord) → ProcessRecord → ProcessRecord
choose pid f r = if r.node == pid then f r else r

-- ---- one record more

-- numbers up to a bound are below what is above it
pub ascend_below : (low high n : ℕ) (rs : List ProcessRecord) → high < n → Ascend low rs high → All (λ r. r.node < n) rs
ascend_below low high n [] lt up = All-nil (λ r. r.node < n)
ascend_below low high n (r ∷ rs) lt up = All-cons (λ q. q.node < n) r rs (omega (arith, up.1)) (ascend_below r.node high n rs lt up.2)

-- there are no more of them than numbers up to the bound
pub ascend_few : (low : ℕ) (rs : List ProcessRecord) (high : ℕ) → Ascend low rs high → low ≤ high → low + length rs ≤ high
ascend_few low [] high up le = omega (arith, le)
ascend_few low (r ∷ rs) high up le =
    let above = up.0 in
    let rest = ascend_few r.node rs high up.2 up.1 in
    omega (arith, above, rest)

-- ---- changes keep the numbers ascending

ascend_map : (g : ProcessRecord → ProcessRecord) → ((r : ProcessRecord) → (g r).node ≡ r.node) → (low high : ℕ) (rs : List ProcessRecord)
    → Ascend low rs high → Ascend low (map g rs) high
ascend_map g same low high [] up = tt
ascend_map g same low high (r ∷ rs) up = rw (same r) (up.0, up.1, ascend_map g same r.node high rs up.2)

ascend_higher : (low high more : ℕ) (rs : List ProcessRecord) → high ≤ more → Ascend low rs high → Ascend low rs more
ascend_higher low high more [] le up = tt
ascend_higher low high more (r ∷ rs) le up = (up.0, omega arith, ascend_higher r.node high more rs le up.2)

ascend_push : (low high more : ℕ) (rs : List ProcessRecord) (r : ProcessRecord) → low ≤ high → high < r.node → r.node ≤ more → Ascend low rs high
    → Ascend low (rs ++ r ∷ []) more
ascend_push low high more [] r le lt within up = (omega arith, within, tt)
ascend_push low high more (q ∷ qs) r le lt within up = (up.0, omega arith, ascend_push q.node high more qs r (omega arith) lt within up.2)

choose_keeps_node : (pid : ℕ) (f : ProcessRecord → ProcessRecord) → ((r : ProcessRecord) → (f r).node ≡ r.node) → (r : ProcessRecord) → (choose pid f r).node ≡ r.node
choose_keeps_node pid f same r = elim (r.node == pid) as (λ b. (if b then f r else r).node ≡ r.node) [ true ↦ same r | false ↦ refl ]

pub change_ascends : (batch : ℕ) (w : World) (c : Change) → Ascends w → Ascends (after_change batch w c)
change_ascends batch w (change.Library l names) up = up
change_ascends batch w (change.Data v) up =
    ascend_higher 0 (length w.nodes) (length (w.nodes ++ node.Data v ∷ [])) w.records (omega (arith, length-append w.nodes (node.Data v ∷ []))) up
change_ascends batch w (change.Process n) up =
    let more = length-append w.nodes (process_node n.kind ∷ []) in
    ascend_push 0 (length w.nodes) (length (w.nodes ++ process_node n.kind ∷ [])) w.records (made (next_number w) n) (omega arith) (omega arith) (omega (arith, more)) up
change_ascends batch w (change.Link l) up = up
change_ascends batch w (change.Set s) up = ascend_map (choose s.pid (set batch s)) (choose_keeps_node s.pid (set batch s) (λ r. refl)) 0 (length w.nodes) w.records up
change_ascends batch w (change.Count n) up = up
change_ascends batch w (change.Kept k) up = ascend_map (choose k.pid (keep k)) (choose_keeps_node k.pid (keep k) (λ r. refl)) 0 (length w.nodes) w.records up

changed_ascends : (batch : ℕ) (w : World) (cs : List Change) → Ascends w → Ascends (changed batch w cs)
changed_ascends batch w [] up = up
changed_ascends batch w (c ∷ cs) up = changed_ascends batch (after_change batch w c) cs (change_ascends batch w c up)

pub reached_ascends : (w : World) → IsReached w → Ascends w
reached_ascends _ nothing = tt
reached_ascends _ (then_changes w cs reached accepted) = changed_ascends (w.batches + 1) (begun w) cs (reached_ascends w reached)
