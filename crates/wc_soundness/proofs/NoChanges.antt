-- Which events have no changes.
use Rattle.std.proofs.Common.{◌≡◌, ◌↔◌, ℕ, ℤ, ◌+◌, length, Bool, true, false, List, [], ◌∷◌, ◌++◌, Option, Some, None, sym, ap, ◌∙◌}
use Rattle.std.specs.Prelude.{if◌then◌else◌, flat_map}
use Rattle.wc_state.specs.declared.record.ProcessRecord.{ProcessRecord}
use Rattle.wc_syntax.specs.declared.definition.Port.{Port}
use Rattle.wc_semantics.specs.Outcomes.{excepted, calculated, parsed}
use Rattle.wc_semantics.specs.declared.outcomes.Parsed.{Parsed}
use Rattle.wc_world.specs.World.{World}
use Rattle.wc_world.specs.declared.change.Change.{Change}
use Rattle.wc_world.specs.Records.{find_record, has_ended, is_call_from}
use Rattle.wc_machine.specs.declared.answer.TaskAnswer.{TaskAnswer}
use Rattle.wc_machine.specs.Advances.{Advanced, goes, loops, submits, ends, advance}
use Rattle.wc_machine.specs.Calls.{advanced}
use Rattle.wc_machine.specs.Ends as ending
use Rattle.wc_machine.specs.Kills.{fuel_after, kill_below, kill_changes, killed}
use Rattle.wc_machine.specs.Machine.{submits as submission, turns, pauses, plays, kills}
use Rattle.wc_machine.specs.Recorded.{recorded_inputs}
use Rattle.wc_machine.specs.Turns.{TurnGives, calculates, clones, begins, excepts, gives_up, moves, parses, advances, binds}
use Rattle.wc_soundness.proofs.Replaced.{one_record}
use Rattle.wc_soundness.proofs.Marks.{marks_kept}
use Rattle.wc_soundness.specs.ListLaws.{OnlyMarksChangeNothing}

abbrev pub AreSome : List Change → Type 0
AreSome cs = cs ≡ [] → ⊥

one_some : (c : Change) (cs : List Change) → AreSome (c ∷ cs)
one_some c cs e = cc e

last_some : (cs : List Change) (c : Change) → AreSome (cs ++ c ∷ [])
last_some [] c = one_some c []
last_some (x ∷ xs) c = one_some x (xs ++ c ∷ [])

-- ---- turns

end_some : (w : World) (r : ProcessRecord) (p : Parsed) (source : Option ℕ) (code : Option ℤ) → AreSome (ending.ends w r p source code)
end_some w r p source code = last_some (ending.creations (length w.nodes + 1) r.node p.outputs) (ending.end_of r p source code)

advanced_some : (w : World) (r : ProcessRecord) (ports : List Port) (x : Advanced) → AreSome (advanced w r ports x)
advanced_some w r ports (goes c) = one_some _ []
advanced_some w r ports (loops c) = one_some _ []
advanced_some w r ports (submits c calls) = last_some _ _
advanced_some w r ports (ends s outputs) = last_some _ _

pub turn_some : (poll now : ℕ) (w : World) (r : ProcessRecord) (a : TaskAnswer) (cs : List Change) → TurnGives poll now w r a cs → AreSome cs
turn_some poll now w r a cs (calculates f d created source) = end_some w r (calculated f (recorded_inputs w r.node)) None None
turn_some poll now w r a cs (clones q one created source found) = end_some w r (ending.come_to w q) (Some q.node) None
turn_some poll now w r a cs (begins j q d created source asked) = one_some _ []
turn_some poll now w r a cs (excepts j reason d created source asked) = end_some w r (excepted reason []) None None
turn_some poll now w r a cs (gives_up j p reason d is asked) = end_some w r (excepted reason []) None None
turn_some poll now w r a cs (moves j p q b m d is asked to) = one_some _ []
turn_some poll now w r a cs (parses j p q x d is asked retrieve) = end_some w r (parsed j (recorded_inputs w r.node) x) None (Some x.code)
turn_some poll now w r a cs (advances k library c env d there at here) = advanced_some w r k.head.outputs (advance library k r.depth env c)
turn_some poll now w r a cs (binds k c d waiting is) = one_some _ []

-- ---- kills

pub kill_some : (w : World) (r : ProcessRecord) → has_ended r.state ≡ false → AreSome (kill_changes w r)
kill_some w r live = at (has_ended r.state) live
  where
    at : (b : Bool) → b ≡ false → AreSome (flat_map (λ l. if is_call_from r.node l then kill_below 15 w (find_record l.target w.records) else []) w.links ++ (if b then [] else killed r (fuel_after 16 w (Some r)) ∷ []))
    at true h = absurd (cc h)
    at false h = last_some _ _

-- ---- events

never : (cs : List Change) → AreSome cs → (cs ≡ []) ↔ ⊥
never cs some = (some, λ e. absurd e)

same_mark : (w : World) (r q : ProcessRecord) (b : Bool) → find_record r.node w.records ≡ Some r → find_record r.node w.records ≡ Some q → q.paused ≡ b → r.paused ≡ b
same_mark w r q b found there h = ap (λ (x : ProcessRecord). x.paused) (one_record (find_record r.node w.records) r q found there) ∙ h

pub only_marks_change_nothing : OnlyMarksChangeNothing
only_marks_change_nothing poll w e cs (submission library caching name inputs ds s) = never ds (λ none. one_some _ _ (sym s.changes ∙ none))
only_marks_change_nothing poll w e cs (turns r a now ds found ready t) = never ds (turn_some poll now w r a ds t)
only_marks_change_nothing poll w e cs (pauses r live) = (
  λ none. (r, live.found, (marks_kept r).0.0 none),
  λ h. (marks_kept r).0.1 (same_mark w r h.0 true live.found h.1 h.2),
)
only_marks_change_nothing poll w e cs (plays r live) = (
  λ none. (r, live.found, (marks_kept r).1.0 none),
  λ h. (marks_kept r).1.1 (same_mark w r h.0 false live.found h.1 h.2),
)
only_marks_change_nothing poll w e cs (kills r live) = never (kill_changes w r) (kill_some w r live.live)
