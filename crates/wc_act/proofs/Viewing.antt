-- What views reply: each is shown or refused, or finds a fault, and one reply at most is that of a view of a world.
use Rattle.std.proofs.Common.{◌≡◌, ◌↔◌, inl, inr, ℕ, Bool, true, false, List, Option, Some, None, length, refl, sym, ap, subst, ◌∙◌}
use Rattle.wc_value.specs.declared.process.Tree.{Tree}
use Rattle.wc_world.specs.World.{World}
use Rattle.wc_world.specs.Records.{find_record}
use Rattle.wc_world.specs.Trees.{recorded_tree}
use Rattle.wc_machine.specs.Sound.{IsSound}
use Rattle.wc_verify.proofs.Unique.{no_cycle, no_wrong, one_least_disagreement, one_least_on_cycle, one_lowest_wrong, right_or_wrong}
use Rattle.wc_report.specs.Lines.{verified_text}
use Rattle.wc_report.specs.Trees.{tree_text}
use Rattle.wc_matches.specs.Query.{Query}
use Rattle.wc_matches.specs.First.{HasMore}
use Rattle.wc_matches.specs.Matches.{IsMatch}
use Rattle.wc_matches.specs.Texts.{rows_text}
use Rattle.wc_matches.proofs.Firsts.{first_are_one}
use Rattle.wc_cli.specs.declared.command.View.{View}
use Rattle.wc_cli.specs.declared.command.View.TheVariants as view
use Rattle.wc_plan.specs.declared.deed.Shown.{Shown}
use Rattle.wc_plan.specs.declared.deed.Shown.TheVariants as shown
use Rattle.wc_plan.specs.declared.reply.Reply.{Reply}
use Rattle.wc_plan.specs.declared.status.Fault.TheVariants as fault
use Rattle.wc_plan.specs.declared.status.Status.{Status}
use Rattle.wc_plan.specs.declared.status.Status.TheVariants as status
use Rattle.wc_plan.specs.Replies.{prints, IsReplied}
use Rattle.wc_act.specs.Views.{Shows, ShowsRows, ShowsTree, ShowsView, Verifies, cycle, value, verified, finds, node_reply}
use Rattle.wc_report.specs.Shows.{show_text}

-- ---- statuses

-- the world was shown, or that was refused, or the world isn't sound
abbrev pub IsShown : Status → Type 0
IsShown status.Ok = Unit {0}
IsShown (status.Refused c) = Unit {0}
IsShown (status.Unsound f) = Unit {0}
IsShown _ = ⊥

pub shown_replied : (s : Status) → IsShown s → IsReplied s
shown_replied status.Ok h = tt
shown_replied (status.Refused c) h = tt
shown_replied status.OutOfMemory h = h
shown_replied status.Spent h = absurd h
shown_replied status.Resting h = absurd h
shown_replied status.DiskFault h = h
shown_replied (status.Damaged disk at found) h = absurd h
shown_replied status.ReadFault h = h
shown_replied status.WriteFault h = h
shown_replied (status.Full what count limit) h = absurd h
shown_replied (status.Unsound f) h = tt

-- ---- each view is shown, refused, or finds a fault

same_shown : (r s : Reply) → r ≡ s → IsShown s.status → IsShown r.status
same_shown r s is done = subst (λ (x : Reply). IsShown x.status) (sym is) done

node_shown : (node : ℕ) (text : Option (List ℕ)) → IsShown (node_reply node text).status
node_shown node None = tt
node_shown node (Some text) = tt

verify_shown : (w : World) (r : Reply) → Verifies w r → IsShown r.status
verify_shown w r (cycle node is) = tt
verify_shown w r (value pid acyclic is) = tt
verify_shown w r (verified disagreement acyclic created is) = tt

one_shown : (v : View) (w : World) (r : Reply) → ShowsView v w r → IsShown r.status
one_shown view.List w r is = same_shown r _ is tt
one_shown (view.Tree pid) w r (inl none) = same_shown r _ none.1 tt
one_shown (view.Tree pid) w r (inr shown) = same_shown r _ shown.2 tt
one_shown (view.Show node) w r is = same_shown r _ is (node_shown node (show_text w node))
one_shown view.Graph w r is = same_shown r _ is tt
one_shown view.Verify w r is = verify_shown w r is

pub view_shown : (v : Shown) (w : World) (r : Reply) → Shows v w r → IsShown r.status
view_shown (shown.View v) w r shows = one_shown v w r shows
view_shown (shown.Query query limit) w r (rows, more, first, further, is) = same_shown r _ is tt

-- ---- a sound world has no fault

abbrev pub IsFaultless : Status → Type 0
IsFaultless (status.Damaged disk at found) = ⊥
IsFaultless (status.Unsound f) = ⊥
IsFaultless _ = Unit {0}

same_faultless : (r s : Reply) → r ≡ s → IsFaultless s.status → IsFaultless r.status
same_faultless r s is done = subst (λ (x : Reply). IsFaultless x.status) (sym is) done

node_faultless : (node : ℕ) (text : Option (List ℕ)) → IsFaultless (node_reply node text).status
node_faultless node None = tt
node_faultless node (Some text) = tt

verify_faultless : (w : World) (r : Reply) → IsSound w → Verifies w r → IsFaultless r.status
verify_faultless w r sound (cycle node is) = absurd (no_cycle w sound node is)
verify_faultless w r sound (value pid acyclic is) = absurd (no_wrong w sound pid is)
verify_faultless w r sound (verified disagreement acyclic created is) = tt

one_faultless : (v : View) (w : World) (r : Reply) → IsSound w → ShowsView v w r → IsFaultless r.status
one_faultless view.List w r sound is = same_faultless r _ is tt
one_faultless (view.Tree pid) w r sound (inl none) = same_faultless r _ none.1 tt
one_faultless (view.Tree pid) w r sound (inr shown) = same_faultless r _ shown.2 tt
one_faultless (view.Show node) w r sound is = same_faultless r _ is (node_faultless node (show_text w node))
one_faultless view.Graph w r sound is = same_faultless r _ is tt
one_faultless view.Verify w r sound is = verify_faultless w r sound is

pub view_faultless : (v : Shown) (w : World) (r : Reply) → IsSound w → Shows v w r → IsFaultless r.status
view_faultless (shown.View v) w r sound shows = one_faultless v w r sound shows
view_faultless (shown.Query query limit) w r sound (rows, more, first, further, is) = same_faultless r _ is tt

-- ---- one reply

some_tree : (t u : Tree) → Some t ≡ Some u → t ≡ u
some_tree t u h = cc

no_record : (w : World) (pid : ℕ) (t : Tree) → find_record pid w.records ≡ None → recorded_tree w pid ≡ Some t → ⊥
no_record w pid t none some = cc

one_tree : (pid : ℕ) (w : World) (r s : Reply) → ShowsTree pid w r → ShowsTree pid w s → r ≡ s
one_tree pid w r s (inl p) (inl q) = p.1 ∙ sym q.1
one_tree pid w r s (inl p) (inr q) = absurd (no_record w pid q.0 p.0 q.1)
one_tree pid w r s (inr p) (inl q) = absurd (no_record w pid p.0 q.0 p.1)
one_tree pid w r s (inr p) (inr q) = p.2 ∙ ap (λ (t : Tree). prints (tree_text t)) (some_tree p.0 q.0 (sym p.1 ∙ q.1)) ∙ sym q.2

one_verification : (w : World) (r s : Reply) → Verifies w r → Verifies w s → r ≡ s
one_verification w r s (cycle n is) (cycle m also) = ap (λ (k : ℕ). finds (fault.Cycle k)) (one_least_on_cycle w.links n m is also)
one_verification w r s (cycle n is) (value pid acyclic also) = absurd (acyclic n is.0)
one_verification w r s (cycle n is) (verified p acyclic created also) = absurd (acyclic n is.0)
one_verification w r s (value pid acyclic is) (cycle m also) = absurd (acyclic m also.0)
one_verification w r s (value pid acyclic is) (value other acyclic_too also) = ap (λ (k : ℕ). finds (fault.Value k)) (one_lowest_wrong w pid other is also)
one_verification w r s (value pid acyclic is) (verified p acyclic_too created also) = absurd (right_or_wrong w pid created is)
one_verification w r s (verified p acyclic created is) (cycle m also) = absurd (acyclic m also.0)
one_verification w r s (verified p acyclic created is) (value pid acyclic_too also) = absurd (right_or_wrong w pid created also)
one_verification w r s (verified p acyclic created is) (verified q acyclic_too created_too also) =
    ap (λ (o : Option (ℕ × ℕ)). prints (verified_text (length w.nodes) (length w.links) o)) (one_least_disagreement w p q is also)

one_of_view : (v : View) (w : World) (r s : Reply) → ShowsView v w r → ShowsView v w s → r ≡ s
one_of_view view.List w r s p q = p ∙ sym q
one_of_view (view.Tree pid) w r s p q = one_tree pid w r s p q
one_of_view (view.Show node) w r s p q = p ∙ sym q
one_of_view view.Graph w r s p q = p ∙ sym q
one_of_view view.Verify w r s p q = one_verification w r s p q

same_answer : (P : Type 0) (a b : Bool) → (a ≡ true) ↔ P → (b ≡ true) ↔ P → a ≡ b
same_answer P true b h g = sym (g.1 (h.0 refl))
same_answer P false true h g = h.1 (g.0 refl)
same_answer P false false h g = refl

-- there is one list of the first rows, and it says whether there are further ones
one_of_rows : (query : Query) (limit : ℕ) (w : World) (r s : Reply) → ShowsRows query limit w r → ShowsRows query limit w s → r ≡ s
one_of_rows query limit w r s (rows, more, first, further, is) (others, also, as_first, as_further, as_is) =
    let same : rows ≡ others = first_are_one (IsMatch w query) limit rows others first as_first in
    let told : more ≡ also = same_answer (HasMore (IsMatch w query) rows) more also further
    (subst (λ (xs : List (List ℕ)). (also ≡ true) ↔ HasMore (IsMatch w query) xs) (sym same) as_further) in
    is ∙ ap (λ (xs : List (List ℕ)). prints (rows_text xs more)) same ∙ ap (λ (b : Bool). prints (rows_text others b)) told ∙ sym as_is

pub one_view : (v : Shown) (w : World) (r s : Reply) → Shows v w r → Shows v w s → r ≡ s
one_view (shown.View v) w r s p q = one_of_view v w r s p q
one_view (shown.Query query limit) w r s p q = one_of_rows query limit w r s p q
