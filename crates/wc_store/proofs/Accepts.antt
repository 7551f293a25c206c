-- What is known of changes that a world accepts: they can be written and read, and how many nodes they add.
use Rattle.std.proofs.Common.{◌≡◌, inl, inr, ℕ, ◌+◌, ◌≤◌, Bool, true, false, List, [], ◌∷◌, length, get_or, drop, ◌<◌, refl, sym, ap, ◌∙◌, arith}
use Rattle.std.specs.Prelude.{◌==◌, ◌&&◌, not, nat_lt}
use Rattle.std.specs.List.{AllByRecursion, list_all}
use Rattle.std.proofs.lemmas.Bool.{or_cases}
use Rattle.std.proofs.lemmas.Bool.Decides.{nat_tests}
use Rattle.std.proofs.lemmas.List.{length_push, drop_more, at_drop_all}
use Rattle.std.proofs.lemmas.List.Elements.{All-from_recursion, All-weaker}
use Rattle.std.proofs.lemmas.List.Sums.{AllPass-from_list_all}
use Rattle.wc_state.specs.declared.context.CtxRef.{CtxRef}
use Rattle.wc_state.specs.declared.context.CtxRef.TheVariants as held
use Rattle.wc_state.specs.declared.record.ProcessRecord.{ProcessRecord}
use Rattle.wc_state.specs.declared.record.Part.{Part}
use Rattle.wc_state.specs.declared.record.Part.TheVariants as part
use Rattle.wc_world.specs.declared.change.Change.{Change}
use Rattle.wc_world.specs.declared.change.Change.TheVariants as change
use Rattle.wc_world.specs.World.{World}
use Rattle.wc_world.specs.Room.{needed}
use Rattle.wc_graph.specs.declared.node.NodeKind.TheVariants as node
use Rattle.wc_world.specs.Applied.{after_change, changed, begun, applied}
use Rattle.wc_graph.specs.Rules.{node_of}
use Rattle.wc_world.specs.Fits.{is_nil, frame_fits, outline_lengths, is_data_node, fails_fit, held_fits, standing_fits, part_fits}
use Rattle.wc_world.specs.Records.{has_ended, definition_in, has_called, process_node}
use Rattle.wc_world.specs.Accepted.{Setting, setting, Fits, Apply, IsAccepted}
use Rattle.wc_record.specs.Written.{IsShallow, IsReadablePart, IsReadableChange, AreReadable, FailsFit, IsWritable, AreWritable}

pub and_first : (b c : Bool) → (b && c) ≡ true → b ≡ true
and_first true c both = refl
and_first false c both = both

pub and_second : (b c : Bool) → (b && c) ≡ true → c ≡ true
and_second true c both = both
and_second false c both = absurd (cc)

-- ---- a process that is set
fails_at_most : (p : Part) (paused : Bool) → fails_fit p paused ≡ true → FailsFit p
fails_at_most part.Fresh paused fits = tt
fails_at_most (part.Chain c) paused fits = tt
fails_at_most (part.Job j) paused fits = elim (or_cases (nat_lt j.fails 5) ((j.fails == 5) && paused) fits) [
  | inl less ↦ grind (arith, nat_tests)
  | inr five ↦ let same : (j.fails == 5) ≡ true = and_first (j.fails == 5) paused five in grind (arith, nat_tests)
]
fails_at_most part.Over paused fits = tt

held_shallow : (records : List ProcessRecord) (c : CtxRef) → held_fits records c ≡ true → IsShallow c
held_shallow records (held.Plain v) fits = grind (arith, nat_tests)
held_shallow records (held.One pid) fits = tt
held_shallow records (held.Many pids) fits = tt

part_readable : (w : World) (r : ProcessRecord) (p : Part) → standing_fits w r p ≡ true → IsReadablePart p
part_readable w r part.Fresh fits = tt
part_readable w r (part.Chain c) fits =
    let started = not (is_nil c.frames) in
    let placed = list_all (frame_fits (outline_lengths (definition_in w.libraries r.library r.definition))) c.frames in
    let called = list_all (λ a. has_called w.links r.node a.pid) c.awaiting in
    let held = list_all (λ e. held_fits w.records e.1) c.ctx in
    let given = list_all (λ o. is_data_node (node_of w.nodes o.1)) c.outputs in
    let all : list_all (λ (e : List ℕ × CtxRef). held_fits w.records e.1) c.ctx ≡ true
    = and_first held given
    (and_second called (held && given)
    (and_second placed (called && (held && given)) (and_second started (placed && (called && (held && given))) fits))) in
    All-weaker (λ (e : List ℕ × CtxRef). held_fits w.records e.1 ≡ true) (λ (e : List ℕ × CtxRef). IsShallow e.1)
    (λ (e : List ℕ × CtxRef) (is : held_fits w.records e.1 ≡ true). held_shallow w.records e.1 is) c.ctx
    (AllPass-from_list_all (λ (e : List ℕ × CtxRef). held_fits w.records e.1) c.ctx all)
part_readable w r (part.Job j) fits = tt
part_readable w r part.Over fits = tt

-- ---- a change that fits
one_writable : (s : Setting) (w : World) (c : Change) → Fits s w c → IsWritable c
one_writable s w (change.Library l names) fits = fits
one_writable s w (change.Data v) fits = tt
one_writable s w (change.Process n) fits = tt
one_writable s w (change.Link l) fits = tt
one_writable s w (change.Set c) fits =
    let lives = not (has_ended fits.0.state) in
    let part = part_fits fits.0.kind c.state c.part in
    let fails = fails_fit c.part c.paused in
    let stands = standing_fits w fits.0 c.part in
    fails_at_most c.part c.paused (and_first fails stands (and_second part (fails && stands) (and_second lives (part && (fails && stands)) fits.2)))
one_writable s w (change.Count n) fits = tt
one_writable s w (change.Kept k) fits = tt

one_readable : (s : Setting) (w : World) (c : Change) → Fits s w c → IsReadableChange c
one_readable s w (change.Library l names) fits = tt
one_readable s w (change.Data v) fits = fits.1
one_readable s w (change.Process n) fits = tt
one_readable s w (change.Link l) fits = tt
one_readable s w (change.Set c) fits =
    let lives = not (has_ended fits.0.state) in
    let part = part_fits fits.0.kind c.state c.part in
    let fails = fails_fit c.part c.paused in
    let stands = standing_fits w fits.0 c.part in
    part_readable w fits.0 c.part (and_second fails stands (and_second part (fails && stands) (and_second lives (part && (fails && stands)) fits.2)))
one_readable s w (change.Count n) fits = tt
one_readable s w (change.Kept k) fits = tt

each_change : (P : Change → Type 0) → ((s : Setting) (w : World) (c : Change) → Fits s w c → P c) → (s : Setting) (w : World) (cs : List Change) → Apply s w cs
    → AllByRecursion P cs
each_change P one s w [] apply = tt
each_change P one s w (c ∷ cs) apply = (one s w c apply.0, each_change P one s (after_change s.batch w c) cs apply.1)

pub accepted_writable : (w : World) (cs : List Change) → IsAccepted w cs → AreWritable cs
accepted_writable w cs accepted = All-from_recursion IsWritable cs (each_change IsWritable one_writable (setting w cs) (begun w) cs accepted.each)

pub accepted_readable : (w : World) (cs : List Change) → IsAccepted w cs → AreReadable cs
accepted_readable w cs accepted = All-from_recursion IsReadableChange cs (each_change IsReadableChange one_readable (setting w cs) (begun w) cs accepted.each)

-- ---- how many nodes changes add
at_most_one : (c : Change) → (needed (c ∷ [])).nodes ≤ 1
at_most_one (change.Library l names) = omega arith
at_most_one (change.Data v) = omega arith
at_most_one (change.Process n) = omega arith
at_most_one (change.Link l) = omega arith
at_most_one (change.Set s) = omega arith
at_most_one (change.Count n) = omega arith
at_most_one (change.Kept k) = omega arith

pub first_nodes : (c : Change) (cs : List Change) → (needed (c ∷ cs)).nodes ≡ (needed (c ∷ [])).nodes + (needed cs).nodes
first_nodes (change.Library l names) cs = omega arith
first_nodes (change.Data v) cs = omega arith
first_nodes (change.Process n) cs = omega arith
first_nodes (change.Link l) cs = omega arith
first_nodes (change.Set s) cs = omega arith
first_nodes (change.Count n) cs = omega arith
first_nodes (change.Kept k) cs = omega arith

-- what is left at a change
pub nodes_left : (cs : List Change) (i : ℕ) (c : Change) → i < length cs → c ≡ get_or cs i c
    → (needed (drop i cs)).nodes ≡ (needed (c ∷ [])).nodes + (needed (drop (i + 1) cs)).nodes
nodes_left cs i c lt is =
    ap (λ (ds : List Change). (needed ds).nodes) (drop_more cs i c lt ∙ ap (λ (d : Change). d ∷ drop (i + 1) cs) (sym is)) ∙ first_nodes c (drop (i + 1) cs)

pub none_left : (cs : List Change) (i : ℕ) → length cs ≤ i → (needed (drop i cs)).nodes ≡ 0
none_left cs i le = at_drop_all (λ (ds : List Change). (needed ds).nodes) cs i le

pub few_nodes : (cs : List Change) → (needed cs).nodes ≤ length cs
few_nodes [] = omega arith
few_nodes (c ∷ cs) = omega (arith, few_nodes cs, first_nodes c cs, at_most_one c)

one_adds : (batch : ℕ) (w : World) (c : Change) → length (after_change batch w c).nodes ≡ length w.nodes + (needed (c ∷ [])).nodes
one_adds batch w (change.Library l names) = omega arith
one_adds batch w (change.Data v) = omega (arith, length_push w.nodes (node.Data v))
one_adds batch w (change.Process n) = omega (arith, length_push w.nodes (process_node n.kind))
one_adds batch w (change.Link l) = omega arith
one_adds batch w (change.Set s) = omega arith
one_adds batch w (change.Count n) = omega arith
one_adds batch w (change.Kept k) = omega arith

changes_add : (batch : ℕ) (w : World) (cs : List Change) → length (changed batch w cs).nodes ≡ length w.nodes + (needed cs).nodes
changes_add batch w [] = omega arith
changes_add batch w (c ∷ cs) = omega (arith, changes_add batch (after_change batch w c) cs, one_adds batch w c, first_nodes c cs)

pub nodes_applied : (w : World) (cs : List Change) → length (applied w cs).nodes ≡ length w.nodes + (needed cs).nodes
nodes_applied w cs = changes_add _ (begun w) cs
