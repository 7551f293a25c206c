-- What an event that touches one process leaves of the others.
use Rattle.std.proofs.Common.{◌≡◌, ◌≢◌, ℕ, suc, ◌<◌, ◌≤◌, Bool, true, false, Option, Some, None, List, [], ◌∷◌, ◌++◌, get_or, length, inl, inr, refl, sym, ap, subst, ◌∙◌, arith}
use Rattle.std.specs.Prelude.{All, ◌==◌, ◌&&◌, if◌then◌else◌, option_map, option_and_then, codes}
use Rattle.std.specs.Str.{bytes_eq}
use Rattle.std.proofs.lemmas.Bool.{cases_eq, eqb-true, ne_eqb}
use Rattle.std.proofs.lemmas.List.Elements.{All-head, All-tail}
use Rattle.wc_value.specs.Ascending.{lookup}
use Rattle.wc_value.specs.declared.process.JobResult.{JobResult}
use Rattle.wc_value.specs.declared.process.Tree.{Tree}
use Rattle.wc_syntax.specs.Findings.{definition_named}
use Rattle.wc_syntax.specs.declared.definition.Definition.{Definition}
use Rattle.wc_graph.specs.declared.link.Link.{Link}
use Rattle.wc_graph.specs.declared.link.LinkType.{LinkType}
use Rattle.wc_graph.specs.declared.link.LinkType.TheVariants as link
use Rattle.wc_graph.specs.declared.node.NodeKind.{NodeKind}
use Rattle.wc_semantics.specs.Rules.{Values}
use Rattle.wc_semantics.specs.Meaning.{is_killed, meaning}
use Rattle.wc_semantics.specs.Tables.{Label, Path, Table, Kills}
use Rattle.wc_semantics.specs.declared.progress.Answer.{Answer}
use Rattle.wc_state.specs.declared.record.ProcessRecord.{ProcessRecord}
use Rattle.wc_world.specs.World.{World, Known}
use Rattle.wc_world.specs.Consistent.{Stands}
use Rattle.wc_world.specs.Fits.{calls_from, is_of_kind}
use Rattle.wc_world.specs.Records.{find_record, has_ended, has_called, calls, gives_output, takes_input, is_call_from, is_input_of, is_output_of, library_at}
use Rattle.wc_world.specs.Trees.{branches, recorded_tree, values_alone, inputs_after, outputs_after}
use Rattle.wc_world.proofs.FoundRecords.{IsDeeper, call_is_deeper, found_holds, left, right}
use Rattle.wc_world.proofs.ReachedLists.{AreUnique, found_node, unique}
use Rattle.wc_machine.specs.Agreement.{Agrees}
use Rattle.wc_machine.specs.Continues.{Carries}
use Rattle.wc_machine.specs.Paths.{called_under, follow, kills, cut_after}
use Rattle.wc_machine.specs.Recorded.{recorded_inputs, recorded_outputs, recorded_request, request_by, folder_of, HasResult, own, cached}
use Rattle.wc_machine.specs.Rest.{GivesTree, levels_of, meant}
use Rattle.wc_machine.specs.Sound.{CallsAreKept, IsFitting, IsMeant, IsSound}
use Rattle.wc_machine.proofs.ContinuedEnds.{carried_itself}
use Rattle.wc_machine.proofs.EndedTrees.{call_is_called}
use Rattle.wc_machine.proofs.Frames.{NoInput, NoOutput, NoCallFrom, and_false, branches_before, called_before, calls_before, inputs_stay, outputs_stay, library_stays, records_below}
use Rattle.wc_machine.proofs.Untouched.{AreUntouched, tree_stays}
use Rattle.wc_soundness.specs.FramingLaws.{TablesNarrow, EndedStay, TouchingContinues}
use Rattle.wc_soundness.specs.Touches.{AddsFor, Touches, MayBeTouched, StaysEnded}

-- ---- types of links

output_no_input : (t : LinkType) → gives_output t ≡ true → takes_input t ≡ false
output_no_input link.InputCalc h = absurd (cc)
output_no_input link.InputWork h = absurd (cc)
output_no_input link.Create h = refl
output_no_input link.Return h = refl
output_no_input link.CallCalc h = absurd (cc)
output_no_input link.CallWork h = absurd (cc)

call_no_input : (t : LinkType) → calls t ≡ true → takes_input t ≡ false
call_no_input link.InputCalc h = absurd (cc)
call_no_input link.InputWork h = absurd (cc)
call_no_input link.Create h = absurd (cc)
call_no_input link.Return h = absurd (cc)
call_no_input link.CallCalc h = refl
call_no_input link.CallWork h = refl

call_no_output : (t : LinkType) → calls t ≡ true → gives_output t ≡ false
call_no_output link.InputCalc h = absurd (cc)
call_no_output link.InputWork h = absurd (cc)
call_no_output link.Create h = absurd (cc)
call_no_output link.Return h = absurd (cc)
call_no_output link.CallCalc h = refl
call_no_output link.CallWork h = refl

input_no_output : (t : LinkType) → takes_input t ≡ true → gives_output t ≡ false
input_no_output link.InputCalc h = refl
input_no_output link.InputWork h = refl
input_no_output link.Create h = absurd (cc)
input_no_output link.Return h = absurd (cc)
input_no_output link.CallCalc h = absurd (cc)
input_no_output link.CallWork h = absurd (cc)

pub output_no_call : (t : LinkType) → gives_output t ≡ true → calls t ≡ false
output_no_call link.InputCalc h = absurd (cc)
output_no_call link.InputWork h = absurd (cc)
output_no_call link.Create h = refl
output_no_call link.Return h = refl
output_no_call link.CallCalc h = absurd (cc)
output_no_call link.CallWork h = absurd (cc)

pub input_no_call : (t : LinkType) → takes_input t ≡ true → calls t ≡ false
input_no_call link.InputCalc h = refl
input_no_call link.InputWork h = refl
input_no_call link.Create h = absurd (cc)
input_no_call link.Return h = absurd (cc)
input_no_call link.CallCalc h = absurd (cc)
input_no_call link.CallWork h = absurd (cc)

-- ---- new links

pub first_false : (a b : Bool) → a ≡ false → a && b ≡ false
first_false a b h = ap (λ (c : Bool). c && b) h

module _ (nodes : List NodeKind) (pid : ℕ) where
  -- where the link of a process is from it, one of another isn't
  other_source : (l : Link) (t : Bool) (q : ℕ) → pid ≢ q → t && (l.source == pid) ≡ true → (l.source == q) ≡ false
  other_source l t q ne h =
      let from : l.source ≡ pid = eqb-true l.source pid (right t (l.source == pid) h) in
      ne_eqb l.source q (λ e. ne (sym from ∙ e))

  new_no_input : (l : Link) → AddsFor nodes pid l → (q : ℕ) → q ≤ length nodes → is_input_of q l ≡ false
  new_no_input l (inl h) q le = first_false (takes_input l.link) (l.target == q) (output_no_input l.link (left (gives_output l.link) (l.source == pid) h))
  new_no_input l (inr (inl h)) q le = first_false (takes_input l.link) (l.target == q) (call_no_input l.link (left (calls l.link) (l.source == pid) h.0))
  new_no_input l (inr (inr (inl h))) q le = and_false (takes_input l.link) (l.target == q) (ne_eqb l.target q (λ e. let lt : length nodes < l.target = h.1 in absurd (omega arith)))
  new_no_input l (inr (inr (inr h))) q le = and_false (takes_input l.link) (l.target == q) (ne_eqb l.target q (λ e. let lt : length nodes < l.target = h.1 in absurd (omega arith)))

  -- a new link between new nodes leads from none of the old ones
  new_source : (l : Link) → length nodes < l.source → (q : ℕ) → q ≤ length nodes → (l.source == q) ≡ false
  new_source l lt q le = ne_eqb l.source q (λ e. absurd (omega arith))

  new_no_output : (l : Link) → AddsFor nodes pid l → (q : ℕ) → q ≤ length nodes → pid ≢ q → is_output_of q l ≡ false
  new_no_output l (inl h) q le ne = and_false (gives_output l.link) (l.source == q) (other_source l (gives_output l.link) q ne h)
  new_no_output l (inr (inl h)) q le ne = first_false (gives_output l.link) (l.source == q) (call_no_output l.link (left (calls l.link) (l.source == pid) h.0))
  new_no_output l (inr (inr (inl h))) q le ne = first_false (gives_output l.link) (l.source == q) (input_no_output l.link h.0)
  new_no_output l (inr (inr (inr h))) q le ne = and_false (gives_output l.link) (l.source == q) (new_source l h.0 q le)

  new_no_call : (l : Link) → AddsFor nodes pid l → (q : ℕ) → q ≤ length nodes → pid ≢ q → is_call_from q l ≡ false
  new_no_call l (inl h) q le ne = first_false (calls l.link) (l.source == q) (output_no_call l.link (left (gives_output l.link) (l.source == pid) h))
  new_no_call l (inr (inl h)) q le ne = and_false (calls l.link) (l.source == q) (other_source l (calls l.link) q ne h.0)
  new_no_call l (inr (inr (inl h))) q le ne = first_false (calls l.link) (l.source == q) (input_no_call l.link h.0)
  new_no_call l (inr (inr (inr h))) q le ne = and_false (calls l.link) (l.source == q) (new_source l h.0 q le)

-- ---- paths

called_grown : (ls new : List Link) (pid : ℕ) (label : Label) (q : ℕ) → called_under ls pid label ≡ Some q → called_under (ls ++ new) pid label ≡ Some q
called_grown [] new pid label q h = absurd (cc)
called_grown (l ∷ ls) new pid label q h = at (is_call_from pid l && bytes_eq l.label label) (called_grown ls new pid label q) h
  where
    at : (b : Bool) → (called_under ls pid label ≡ Some q → called_under (ls ++ new) pid label ≡ Some q)
        → (if b then Some l.target else called_under ls pid label) ≡ Some q → (if b then Some l.target else called_under (ls ++ new) pid label) ≡ Some q
    at true rest e = e
    at false rest e = rest e

-- a path leads where it led
follow_grown : (ls new : List Link) (path : Path) (pid q : ℕ) → follow ls pid path ≡ Some q → follow (ls ++ new) pid path ≡ Some q
follow_grown ls new [] pid q h = h
follow_grown ls new (label ∷ path) pid q h = at (called_under ls pid label) refl (λ c. follow_grown ls new path c q) h
  where
    at : (o : Option ℕ) → called_under ls pid label ≡ o → ((c : ℕ) → follow ls c path ≡ Some q → follow (ls ++ new) c path ≡ Some q)
        → option_and_then (λ c. follow ls c path) o ≡ Some q → follow (ls ++ new) pid (label ∷ path) ≡ Some q
    at None is rest e = absurd (cc)
    at (Some c) is rest e = ap (option_and_then (λ x. follow (ls ++ new) x path)) (called_grown ls new pid label c is) ∙ rest c e

-- a process that was called is at the end of a call link
pub called_link : (Q : ℕ → Type 0) (ls : List Link) (pid : ℕ) (label : Label) (q : ℕ) → All (λ l. is_call_from pid l ≡ true → Q l.target) ls
    → called_under ls pid label ≡ Some q → Q q
called_link Q [] pid label q all h = absurd (cc)
called_link Q (l ∷ ls) pid label q all h =
    at (is_call_from pid l) refl (bytes_eq l.label label) (called_link Q ls pid label q (All-tail (λ m. is_call_from pid m ≡ true → Q m.target) l ls all)) h
  where
    at : (b : Bool) → is_call_from pid l ≡ b → (c : Bool) → (called_under ls pid label ≡ Some q → Q q) → (if b && c then Some l.target else called_under ls pid label) ≡ Some q → Q q
    at true p true rest e = let same : l.target ≡ q = cc in subst Q same (All-head (λ m. is_call_from pid m ≡ true → Q m.target) l ls all p)
    at true p false rest e = rest e
    at false p c rest e = rest e

-- ---- the others

module _ (v w : World) (pid : ℕ) (s : IsSound v) (t : Touches v w pid) (may : MayBeTouched v pid) where
  pub no_input : (q : ℕ) → q ≤ length v.nodes → NoInput q t.new
  no_input q le = λ i d lt. new_no_input v.nodes pid (get_or t.new i d) (t.added i d lt) q le

  pub no_output : (q : ℕ) → q ≤ length v.nodes → pid ≢ q → NoOutput q t.new
  no_output q le ne = λ i d lt. new_no_output v.nodes pid (get_or t.new i d) (t.added i d lt) q le ne

  pub no_call : (q : ℕ) → q ≤ length v.nodes → pid ≢ q → NoCallFrom q t.new
  no_call q le ne = λ i d lt. new_no_call v.nodes pid (get_or t.new i d) (t.added i d lt) q le ne

  pub within : (q : ℕ) (r : ProcessRecord) → find_record q v.records ≡ Some r → q ≤ length v.nodes
  within q r h =
      let lt : r.node < suc (length v.nodes) = found_holds (λ x. x.node < suc (length v.nodes)) q v.records r (records_below v.nodes v.records s.consistent.numbered) h in
      let same : r.node ≡ q = found_node q v.records r h in
      omega arith

  pub inputs_kept : (q : ℕ) → q ≤ length v.nodes → recorded_inputs w q ≡ recorded_inputs v q
  inputs_kept q le =
      (λ i. values_alone (inputs_after (t.nodes.1 i) q (t.links i) []))
      ∙ ap values_alone (inputs_stay v.nodes t.nodes.0 q v.links t.new s.links.ends (no_input q le))

  pub outputs_kept : (q : ℕ) → q ≤ length v.nodes → pid ≢ q → recorded_outputs w q ≡ recorded_outputs v q
  outputs_kept q le ne =
      (λ i. values_alone (outputs_after (t.nodes.1 i) q (t.links i) []))
      ∙ ap values_alone (outputs_stay v.nodes t.nodes.0 q v.links t.new s.links.ends (no_output q le ne))

  pub branches_kept : (tree : ℕ → Option Tree) (q : ℕ) → q ≤ length v.nodes → pid ≢ q → branches tree q w.links ≡ branches tree q v.links
  branches_kept tree q le ne = ap (branches tree q) t.links ∙ branches_before tree q v.links t.new (no_call q le ne)

  pub called_kept : (q : ℕ) (label : Label) → q ≤ length v.nodes → pid ≢ q → called_under w.links q label ≡ called_under v.links q label
  called_kept q label le ne = ap (λ (ls : List Link). called_under ls q label) t.links ∙ called_before v.links t.new q label (no_call q le ne)

  -- ---- definitions

  pub stands : (r : ProcessRecord) → find_record r.node v.records ≡ Some r → Stands v r
  stands r found = found_holds (Stands v) r.node v.records r s.consistent.records found

  library_there : (r : ProcessRecord) → Stands v r → (l : List Definition) × (library_at v.libraries r.library ≡ Some l)
  library_there r h = at (library_at v.libraries r.library) refl h.defined
    where
      at : (o : Option (List Definition)) → library_at v.libraries r.library ≡ o → is_of_kind r.kind (option_and_then (definition_named r.definition) o) ≡ true
          → (l : List Definition) × (library_at v.libraries r.library ≡ Some l)
      at None is e = absurd (cc)
      at (Some l) is e = (l, is)

  pub library_kept : (r : ProcessRecord) → find_record r.node v.records ≡ Some r → library_at w.libraries r.library ≡ library_at v.libraries r.library
  library_kept r found =
      let l = library_there r (stands r found) in
      ap (λ (ks : List Known). library_at ks r.library) t.libraries.1 ∙ library_stays v.libraries t.libraries.0 r.library l.0 l.1

  pub request_kept : (r : ProcessRecord) → find_record r.node v.records ≡ Some r → recorded_request w r ≡ recorded_request v r
  request_kept r found =
      λ i. request_by (option_and_then (definition_named r.definition) (library_kept r found i)) (inputs_kept r.node (within r.node r found) i)

  pub meant_kept : (r : ProcessRecord) → find_record r.node v.records ≡ Some r → (table : Table) (cuts : Kills) (n : ℕ) → meant w r table cuts n ≡ meant v r table cuts n
  meant_kept r found table cuts n =
      λ i. option_map (λ library. meaning (levels_of r) library table cuts n r.definition (inputs_kept r.node (within r.node r found) i)) (library_kept r found i)

  -- ---- results

  -- what hasn't ended has no code and no source
  pub fitting : (r : ProcessRecord) → find_record r.node v.records ≡ Some r → IsFitting v r
  fitting r found = found_holds (IsFitting v) r.node v.records r s.records found

  live : (r : ProcessRecord) → find_record r.node v.records ≡ Some r → pid ≡ r.node → has_ended r.state ≡ false
  live r found e = may r (ap (λ (n : ℕ). find_record n v.records) e ∙ found)

  pub found_kept : (r : ProcessRecord) → find_record r.node v.records ≡ Some r → pid ≢ r.node → find_record r.node w.records ≡ Some r
  found_kept r found ne = t.records r.node ne (within r.node r found) ∙ found

  result_kept : (q : ℕ) (x : JobResult) → HasResult v q x → HasResult w q x
  result_kept q x (own r code files found is_job is_code folder) =
      let ne : pid ≢ r.node = λ e. let none = (fitting r found).code (live r found e) in absurd (cc (none, is_code)) in
      own r code files (found_kept r found ne) is_job is_code
      (ap (λ (os : Values). option_and_then folder_of (lookup (codes "retrieved") os)) (outputs_kept r.node (within r.node r found) ne) ∙ folder)
  result_kept q x (cached r source y found is_job alive from rest) =
      let ne : pid ≢ r.node = λ e. let none = (fitting r found).source (live r found e) in absurd (cc (none, from)) in
      cached r source y (found_kept r found ne) is_job alive from (result_kept source y rest)

  pub no_result : (r : ProcessRecord) (x : JobResult) → find_record r.node v.records ≡ Some r → has_ended r.state ≡ false → (q : ℕ) → HasResult v q x → q ≡ r.node → ⊥
  no_result r x found alive q (own k code files there is_job is_code folder) e =
      let same : Some k ≡ Some r = sym there ∙ ap (λ (n : ℕ). find_record n v.records) e ∙ found in
      let one : k ≡ r = cc in
      let none : k.code ≡ None = ap (λ (y : ProcessRecord). y.code) one ∙ (fitting r found).code alive in
      absurd (cc (none, is_code))
  no_result r x found alive q (cached k source y there is_job up from rest) e =
      let same : Some k ≡ Some r = sym there ∙ ap (λ (n : ℕ). find_record n v.records) e ∙ found in
      let one : k ≡ r = cc in
      let none : k.cached_from ≡ None = ap (λ (y : ProcessRecord). y.cached_from) one ∙ (fitting r found).source alive in
      absurd (cc (none, from))

  pub agreed_before : (q : ℕ) (table : Table) → Agrees table w q → Agrees table v q
  agreed_before q table agrees path r req x leads found asked has =
      let ne : pid ≢ r.node = λ e. no_result r x found (live r found e) r.node has refl in
      agrees path r req x (ap (λ (ls : List Link). follow ls q path) t.links ∙ follow_grown v.links t.new path q r.node leads) (found_kept r found ne)
      (request_kept r found ∙ asked) (result_kept r.node x has)

  -- ---- what has ended

  -- there is a process of this number, which has ended
  abbrev pub IsOver : ℕ → Type 0
  IsOver q = (r : ProcessRecord) × (find_record q v.records ≡ Some r) × (has_ended r.state ≡ true)

  pub over_differs : (q : ℕ) → IsOver q → pid ≢ q
  over_differs q h e = let lives : has_ended h.0.state ≡ false = may h.0 (ap (λ (n : ℕ). find_record n v.records) e ∙ h.1) in absurd (cc (lives, h.2))

  pub called_over : (q : ℕ) → IsOver q → All (λ l. is_call_from q l ≡ true → IsOver l.target) v.links
  called_over q h = λ i d lt called.
      let l : Link = get_or v.links i d in
      let deeper : IsDeeper h.0 (find_record l.target v.records) = call_is_deeper v.records l q h.0 h.1 called (s.consistent.calls i d lt) in
      let x : ProcessRecord = deeper.0 in
      let number : h.0.node ≡ q = found_node q v.records h.0 h.1 in
      let target : x.node ≡ l.target = found_node l.target v.records x deeper.1 in
      let itself : find_record x.node v.records ≡ Some x = ap (λ (n : ℕ). find_record n v.records) target ∙ deeper.1 in
      let reached : has_called v.links h.0.node x.node ≡ true = (λ j. has_called v.links (number j) (target j)) ∙ call_is_called v q i d lt called in
      elim (found_holds (CallsAreKept v) q v.records h.0 s.calls h.1 x itself reached) [
        | inl over ↦ (x, deeper.1, over)
        | inr lives ↦ absurd (cc (lives.0, h.2))
      ]

  pub untouched : AreUntouched v w IsOver
  untouched = record {
    found = λ q h. t.records q (over_differs q h) (within q h.0 h.1);
    keeps = λ q r h is. record {
      outputs = outputs_kept q (within q h.0 h.1) (over_differs q h);
      calls = λ tree. branches_kept tree q (within q h.0 h.1) (over_differs q h);
      below = called_over q h;
    };
  }

  -- a path from what has ended leads where it led, to what has ended
  abbrev pub LeadsSame : Path → ℕ → Type 0
  LeadsSame path q = (follow w.links q path ≡ follow v.links q path) × ((x : ℕ) → follow v.links q path ≡ Some x → IsOver x)

  lead_on : (label : Label) (path : Path) (q : ℕ) → IsOver q → ((c : ℕ) → IsOver c → LeadsSame path c) → (o : Option ℕ) → called_under v.links q label ≡ o
      → LeadsSame (label ∷ path) q
  lead_on label path q h rest None is =
      let before : called_under w.links q label ≡ None = called_kept q label (within q h.0 h.1) (over_differs q h) ∙ is in (
        ap (option_and_then (λ c. follow w.links c path)) before ∙ sym (ap (option_and_then (λ c. follow v.links c path)) is),
        λ x e. let none : None ≡ Some x = sym (ap (option_and_then (λ c. follow v.links c path)) is) ∙ e in absurd (cc none),
      )
  lead_on label path q h rest (Some c) is =
      let over : IsOver c = called_link IsOver v.links q label c (called_over q h) is in
      let before : called_under w.links q label ≡ Some c = called_kept q label (within q h.0 h.1) (over_differs q h) ∙ is in
      let next : LeadsSame path c = rest c over in (
        ap (option_and_then (λ y. follow w.links y path)) before ∙ next.0 ∙ sym (ap (option_and_then (λ y. follow v.links y path)) is),
        λ x e. next.1 x (sym (ap (option_and_then (λ y. follow v.links y path)) is) ∙ e),
      )

  pub follow_over : (path : Path) (q : ℕ) → IsOver q → LeadsSame path q
  follow_over [] q h = (refl, λ x e. let same : q ≡ x = cc in subst IsOver same h)
  follow_over (label ∷ path) q h = lead_on label path q h (follow_over path) (called_under v.links q label) refl

  cut_kept : (r : ProcessRecord) → r.node ≤ length v.nodes → pid ≢ r.node → cut_after w r ≡ cut_after v r
  cut_kept r le ne =
      ap (λ (n : ℕ). if is_killed r.state then Some n else None) (ap (calls_from r.node) t.links ∙ calls_before r.node v.links t.new (no_call r.node le ne))

  cut_at : (x : ℕ) → IsOver x → option_and_then (cut_after w) (find_record x w.records) ≡ option_and_then (cut_after v) (find_record x v.records)
  cut_at x h =
      let ne : pid ≢ x = over_differs x h in
      let number : h.0.node ≡ x = found_node x v.records h.0 h.1 in
      ap (option_and_then (cut_after w)) (t.records x ne (within x h.0 h.1) ∙ h.1)
      ∙ cut_kept h.0 (within h.0.node h.0 (ap (λ (n : ℕ). find_record n v.records) number ∙ h.1)) (λ e. ne (e ∙ number)) ∙ sym (ap (option_and_then (cut_after v)) h.1)

  pub kill_kept : (q : ℕ) → IsOver q → (path : Path) → kills w q path ≡ kills v q path
  kill_kept q h path =
      let same : LeadsSame path q = follow_over path q h in
      ap (option_and_then (λ x. option_and_then (cut_after w) (find_record x w.records))) same.0 ∙ each (follow v.links q path) same.1
    where
      each : (o : Option ℕ) → ((x : ℕ) → o ≡ Some x → IsOver x)
          → option_and_then (λ x. option_and_then (cut_after w) (find_record x w.records)) o
          ≡ option_and_then (λ x. option_and_then (cut_after v) (find_record x v.records)) o
      each None all = refl
      each (Some x) all = cut_at x (all x refl)

  pub stays_ended : (r : ProcessRecord) → find_record r.node v.records ≡ Some r → has_ended r.state ≡ true → StaysEnded v w r
  stays_ended r found over =
      let h : IsOver r.node = (r, found, over) in
      let ne : pid ≢ r.node = over_differs r.node h in
      let tree : recorded_tree w r.node ≡ recorded_tree v r.node = tree_stays v w IsOver untouched 16 r.node h in
      record {
        found = found_kept r found ne;
        inputs = inputs_kept r.node (within r.node r found);
        outputs = outputs_kept r.node (within r.node r found) ne;
        tree = tree;
        kills = kill_kept r.node h;
        meant = λ table agrees.
            let m = found_holds (λ x. has_ended x.state ≡ true → IsMeant v x) r.node v.records r s.ended found over table (agreed_before r.node table agrees) in
            let same : meant w r table (kills w r.node) r.fuel ≡ meant v r table (kills v r.node) r.fuel
            = meant_kept r found table (kills w r.node) r.fuel ∙ (λ i. meant v r table (λ path. kill_kept r.node h path i) r.fuel) in
            (m.0, tree ∙ m.1, subst (λ (x : Option Answer). GivesTree x m.0) (sym same) m.2);
      }

pub tables_narrow : TablesNarrow
tables_narrow v w pid s t may r found table agrees = agreed_before v w pid s t may r.node table agrees

pub ended_stay : EndedStay
ended_stay v w pid s t may r found over = stays_ended v w pid s t may r found over

pub carried_on : (v w : World) (pid : ℕ) (s : IsSound v) (t : Touches v w pid) (may : MayBeTouched v pid) (r : ProcessRecord) → find_record r.node v.records ≡ Some r
    → (q : ProcessRecord) × (find_record r.node w.records ≡ Some q) × Carries r q
carried_on v w pid s t may r found =
    elim (cases_eq pid r.node) [
      | inl e ↦
          let c = t.carried r (ap (λ (n : ℕ). find_record n v.records) e ∙ found) in
          (c.0, ap (λ (n : ℕ). find_record n w.records) (sym e) ∙ c.1, c.2)
      | inr ne ↦ (r, found_kept v w pid s t may r found ne, carried_itself r)
    ]

pub touching_continues : TouchingContinues
touching_continues v w pid s t may =
    let there : AreUnique v.records = unique 1 v.nodes v.records s.consistent.numbered in
    record {
      libraries = t.libraries;
      nodes = t.nodes;
      links = (t.new, t.links);
      batches = t.batches;
      records = λ i d lt. carried_on v w pid s t may (get_or v.records i d) (there i d lt);
      inputs = λ i d lt. inputs_kept v w pid s t may (get_or v.records i d).node (within v w pid s t may (get_or v.records i d).node (get_or v.records i d) (there i d lt));
      trees = λ i d lt over. (stays_ended v w pid s t may (get_or v.records i d) (there i d lt) over).tree;
    }
