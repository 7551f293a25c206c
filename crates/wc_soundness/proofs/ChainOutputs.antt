-- The outputs that are recorded of a chain once it has ended, and how its end is judged.
use Rattle.std.proofs.Common.{◌≡◌, ℕ, Bool, true, false, Option, Some, List, [], ◌∷◌, ◌++◌, refl, sym, ap, subst, ◌∙◌}
use Rattle.std.specs.Prelude.{All, ◌==◌, ◌&&◌, ◌||◌, not, is_none, if◌then◌else◌}
use Rattle.std.specs.List.{AllByRecursion}
use Rattle.std.specs.List.Sorted.{IsStrictlySortedBy}
use Rattle.std.specs.Map.{keys_of}
use Rattle.std.specs.Str.{bytes_eq}
use Rattle.std.specs.Ordering.{nat_cmp, is_lt}
use Rattle.std.specs.declared.cmp.Ordering.TheVariants.{Less}
use Rattle.std.specs.Cmp.Lexicographic.{slice_cmp}
use Rattle.std.proofs.lemmas.Bool.{eq-eqb}
use Rattle.std.proofs.lemmas.List.{append_assoc, append-nil}
use Rattle.std.proofs.lemmas.List.Elements.{All-head, All-tail}
use Rattle.wc_value.specs.Ascending.{Ascends, before, lookup, put}
use Rattle.wc_value.specs.declared.process.ProcessState.{ProcessState}
use Rattle.wc_value.specs.declared.process.ProcessState.TheVariants as state
use Rattle.wc_value.specs.declared.value.Value.{Value}
use Rattle.wc_syntax.specs.declared.definition.Port.{Port}
use Rattle.wc_graph.specs.declared.link.Link.{Link}
use Rattle.wc_graph.specs.declared.node.NodeKind.{NodeKind}
use Rattle.wc_state.specs.declared.record.ProcessRecord.{ProcessRecord}
use Rattle.wc_semantics.specs.Outcomes as outcome
use Rattle.wc_semantics.specs.Rules.{Values}
use Rattle.wc_semantics.specs.Meaning as meaning
use Rattle.wc_semantics.specs.Tables.{Label}
use Rattle.wc_world.specs.Fits.{has_output}
use Rattle.wc_world.specs.Records.{has_ended}
use Rattle.wc_world.specs.Trees.{value_of, outputs_after, values_alone}
use Rattle.wc_world.specs.World.{World}
use Rattle.wc_world.specs.Linked.{with_plain, plain_after}
use Rattle.wc_world.proofs.LabelledValues.{plain_outputs}
use Rattle.wc_machine.specs.Calls.{judged, lacks}
use Rattle.wc_machine.proofs.CreatedOutputs.{without_output}
use Rattle.wc_machine.proofs.Frames.{outputs_append, outputs_untouched}
use Rattle.wc_turn_laws.specs.View.{View, values_of}
use Rattle.wc_soundness.proofs.Returns.{kept_of, return_links}

-- ---- values in order are put one behind the other

at_seam : (P : List ℕ → Type 0) (es rest : Values) (o : List ℕ × Value) → AllByRecursion P (keys_of (es ++ o ∷ rest)) → P o.0
at_seam P [] rest o a = a.0
at_seam P (e ∷ es) rest o a = at_seam P es rest o a.1

put_behind : (es rest : Values) (o : List ℕ × Value) → Ascends (es ++ o ∷ rest) → put o.0 o.1 es ≡ es ++ o ∷ []
unfolding IsStrictlySortedBy
put_behind [] rest o a = refl
put_behind (e ∷ es) rest o a =
    let less : slice_cmp nat_cmp e.0 o.0 ≡ Less = at_seam (λ k. slice_cmp nat_cmp e.0 k ≡ Less) es rest o a.0 in
    let is : before e.0 o.0 ≡ true = ap is_lt less in
    ap (λ (b : Bool). if b then e ∷ put o.0 o.1 es else if bytes_eq e.0 o.0 then (o.0, o.1) ∷ es else (o.0, o.1) ∷ e ∷ es) is
    ∙ ap (λ (l : Values). e ∷ l) (put_behind es rest o a.1)

-- ---- the outputs

keys_same : (v : View) (os : List (Label × ℕ)) → keys_of (values_of v os) ≡ keys_of os
keys_same v [] = refl
keys_same v (o ∷ os) = ap (λ (ks : List Label). o.0 ∷ ks) (keys_same v os)

values_ascend : (v : View) (os : List (Label × ℕ)) → Ascends os → Ascends (values_of v os)
values_ascend v os h = subst (IsStrictlySortedBy (slice_cmp nat_cmp)) (sym (keys_same v os)) h

-- a node has the value that is seen
abbrev pub HasSeen : List NodeKind → View → Label × ℕ → Type 0
HasSeen nodes v o = value_of nodes o.1 ≡ Some (v.value o.1)

returned_plain : (nodes : List NodeKind) (pid : ℕ) (v : View) (os : List (Label × ℕ)) (es : Values) → All (HasSeen nodes v) os → Ascends (es ++ values_of v os)
    → plain_after nodes pid (return_links pid os) es ≡ es ++ values_of v os
returned_plain nodes pid v [] es h a = sym (append-nil es)
returned_plain nodes pid v (o ∷ os) es h a =
    let e : List ℕ × Value = (o.0, v.value o.1) in
    ap (λ (b : Bool). plain_after nodes pid (return_links pid os) (if b then with_plain o.0 (value_of nodes o.1) es else es)) (eq-eqb pid pid refl)
    ∙ ap (λ (x : Option Value). plain_after nodes pid (return_links pid os) (with_plain o.0 x es)) (All-head (HasSeen nodes v) o os h)
    ∙ ap (plain_after nodes pid (return_links pid os)) (put_behind es (values_of v os) e a)
    ∙ returned_plain nodes pid v os (es ++ e ∷ []) (All-tail (HasSeen nodes v) o os h) (subst Ascends (sym (append_assoc es (e ∷ []) (values_of v os))) a)
    ∙ append_assoc es (e ∷ []) (values_of v os)

-- A process without an output has the outputs that it returns.
pub outputs_returned : (nodes : List NodeKind) (ls : List Link) (pid : ℕ) (v : View) (os : List (Label × ℕ)) → All (HasSeen nodes v) os → Ascends os
    → has_output pid ls ≡ false → values_alone (outputs_after nodes pid (ls ++ return_links pid os) []) ≡ values_of v os
outputs_returned nodes ls pid v os h a none =
    ap values_alone (outputs_append nodes pid ls (return_links pid os) []
    ∙ ap (outputs_after nodes pid (return_links pid os)) (outputs_untouched nodes pid ls [] (without_output pid ls none)))
    ∙ sym (plain_outputs nodes pid (return_links pid os))
    ∙ returned_plain nodes pid v os [] h (values_ascend v os a)

-- ---- how an end is judged

lookup_same : (v : View) (name : Label) (os : List (Label × ℕ)) → is_none (lookup name (values_of v os)) ≡ is_none (lookup name os)
lookup_same v name [] = refl
lookup_same v name (o ∷ os) = at (bytes_eq o.0 name) (lookup_same v name os)
  where
    at : (b : Bool) → is_none (lookup name (values_of v os)) ≡ is_none (lookup name os)
        → is_none (if b then Some (v.value o.1) else lookup name (values_of v os)) ≡ is_none (if b then Some o.1 else lookup name os)
    at true rest = refl
    at false rest = rest

-- the same outputs are kept
pub kept_same : (v : View) (ports : List Port) (s : ProcessState) (os : List (Label × ℕ)) → meaning.kept (meaning.judged ports s (values_of v os)) (values_of v os) ≡ values_of v (kept_of s os)
kept_same v ports state.Created os = refl
kept_same v ports state.Running os = refl
kept_same v ports state.Waiting os = refl
kept_same v ports (state.Finished n) os = refl
kept_same v ports (state.Excepted reason) os = refl
kept_same v ports state.Killed os = refl

module _ (w : World) (r : ProcessRecord) where
  lacks_same : (v : View) (ports : List Port) (os : List (Label × ℕ)) → lacks w r ports os ≡ outcome.lacks ports (values_of v os)
  lacks_same v [] os = refl
  lacks_same v (p ∷ ps) os = λ i. (not p.optional && sym (lookup_same v p.name.text os) i) || lacks_same v ps os i

  -- the machine and the run judge alike
  pub judged_same : (v : View) (ports : List Port) (s : ProcessState) (os : List (Label × ℕ)) → meaning.judged ports s (values_of v os) ≡ judged w r ports s os
  judged_same v ports state.Created os = refl
  judged_same v ports state.Running os = refl
  judged_same v ports state.Waiting os = refl
  judged_same v ports (state.Finished n) os = λ i. state.Finished (if (n == 0) && sym (lacks_same v ports os) i then 11 else n)
  judged_same v ports (state.Excepted reason) os = refl
  judged_same v ports state.Killed os = refl

  pub judged_over : (ports : List Port) (s : ProcessState) (os : List (Label × ℕ)) → has_ended s ≡ true → has_ended (judged w r ports s os) ≡ true
  judged_over ports state.Created os h = h
  judged_over ports state.Running os h = h
  judged_over ports state.Waiting os h = h
  judged_over ports (state.Finished n) os h = refl
  judged_over ports (state.Excepted reason) os h = refl
  judged_over ports state.Killed os h = refl

  pub judged_uncut : (ports : List Port) (s : ProcessState) (os : List (Label × ℕ)) → (s ≡ state.Killed → ⊥) → meaning.is_killed (judged w r ports s os) ≡ false
  judged_uncut ports state.Created os h = refl
  judged_uncut ports state.Running os h = refl
  judged_uncut ports state.Waiting os h = refl
  judged_uncut ports (state.Finished n) os h = refl
  judged_uncut ports (state.Excepted reason) os h = refl
  judged_uncut ports state.Killed os h = absurd (h refl)
