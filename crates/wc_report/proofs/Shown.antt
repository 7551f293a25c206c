-- What a tree shows, by its parts.
use Rattle.std.proofs.Common.{◌≡◌, ℕ, List, [], ◌∷◌, ◌++◌, map, Result, Ok, Err, OnOk, append_assoc, refl, sym, ap, ◌∙◌}
use Rattle.std.specs.Prelude.{flat_map}
use Rattle.wc_value.specs.declared.process.Tree.{Tree, Tree-F, out-Tree, roll-Tree, roll-out-Tree, fold-roll-Tree}
use Rattle.wc_report.specs.Trees.{Shown, level, shown, lines_below, output_lines, branch_lines, call_lines, calls_lines, deeper, head_text, head_line}

calls_shown : (margin : List ℕ) (cs : List (List ℕ × Tree)) → flat_map (branch_lines margin) (map (λ c. (c.0, shown c.1)) cs) ≡ calls_lines margin cs
calls_shown margin [] = refl
calls_shown margin (c ∷ cs) = ap (λ z. call_lines margin c ++ z) (calls_shown margin cs)

below_rolled : (t : Tree-F Tree) (margin : List ℕ) → lines_below (roll-Tree t) margin ≡ output_lines margin t.outputs ++ calls_lines margin t.calls
below_rolled t margin = ap (λ (s : Shown). s.1 margin) (fold-roll-Tree Shown level t) ∙ ap (λ z. output_lines margin t.outputs ++ z) (calls_shown margin t.calls)

below_text : (t : Tree) (margin : List ℕ) → lines_below t margin ≡ output_lines margin (out-Tree t).outputs ++ calls_lines margin (out-Tree t).calls
below_text t margin = ap (λ z. lines_below z margin) (sym (roll-out-Tree t)) ∙ below_rolled (out-Tree t) margin

abbrev head_of : Tree → List ℕ
head_of t = head_text (out-Tree t).definition (out-Tree t).state

head_shown : (t : Tree) → (shown t).0 ≡ head_of t
head_shown t = ap (λ z. (shown z).0) (sym (roll-out-Tree t)) ∙ ap (λ (s : Shown). s.0) (fold-roll-Tree Shown level (out-Tree t))

-- what was written in two turns, where the last one answers Ok
pub below_written : {A E : Type 0} (r : Result A E) (old mid new : List ℕ) (t : Tree) (margin : List ℕ) → mid ≡ old ++ output_lines margin (out-Tree t).outputs
    → OnOk r (new ≡ mid ++ calls_lines margin (out-Tree t).calls) → OnOk r (new ≡ old ++ lines_below t margin)
below_written (Ok u) old mid new t margin p q =
    q ∙ ap (λ z. z ++ calls_lines margin (out-Tree t).calls) p ∙ append_assoc old (output_lines margin (out-Tree t).outputs) (calls_lines margin (out-Tree t).calls)
    ∙ ap (λ z. old ++ z) (sym (below_text t margin))
below_written (Err e) old mid new t margin p q = tt

pub call_written : {A E : Type 0} (r : Result A E) (old mid new margin inner label : List ℕ) (t : Tree) → mid ≡ old ++ head_line margin label (head_of t) → inner ≡ deeper margin
    → OnOk r (new ≡ mid ++ lines_below t inner) → OnOk r (new ≡ old ++ call_lines margin (label, t))
call_written (Ok u) old mid new margin inner label t p e q =
    q ∙ (λ i. (p ∙ ap (λ h. old ++ head_line margin label h) (sym (head_shown t))) i ++ lines_below t (e i)) ∙ append_assoc old (head_line margin label (shown t).0) (lines_below t (deeper margin))
call_written (Err x) old mid new margin inner label t p e q = tt
