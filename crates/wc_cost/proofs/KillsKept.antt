-- An event that kills nothing leaves the recorded kills as they were.
use Rattle.std.proofs.Common.{◌≡◌, ℕ, ◌<◌, ◌≤◌, Bool, true, false, List, [], ◌∷◌, ◌++◌, Option, Some, None, get_or, inl, inr, length, refl, sym, ap, ◌∙◌, arith}
use Rattle.std.specs.Prelude.{All, ◌==◌, ◌&&◌, if◌then◌else◌, option_and_then}
use Rattle.std.specs.Str.{bytes_eq}
use Rattle.std.proofs.lemmas.Bool.{cases_Bool, cases_eq, eqb-true}
use Rattle.wc_graph.specs.declared.link.Link.{Link}
use Rattle.wc_graph.specs.declared.node.NodeKind.{NodeKind}
use Rattle.wc_semantics.specs.Meaning.{is_killed}
use Rattle.wc_semantics.specs.Tables.{Label, Path}
use Rattle.wc_state.specs.declared.record.ProcessRecord.{ProcessRecord}
use Rattle.wc_world.specs.World.{World}
use Rattle.wc_world.specs.Fits.{calls_from, is_call_between}
use Rattle.wc_world.specs.Records.{calls, find_record, gives_output, has_ended, is_call_from}
use Rattle.wc_world.proofs.FoundRecords.{IsDeeper, call_is_deeper, calls_is, left, right}
use Rattle.wc_world.proofs.ReachedLists.{found_node}
use Rattle.wc_machine.specs.Paths.{called_under, cut_after, follow, kills}
use Rattle.wc_machine.specs.Sound.{IsSound}
use Rattle.wc_machine.proofs.Frames.{NoCallFrom, called_before, calls_before}
use Rattle.wc_soundness.specs.Touches.{AddsFor, MayBeTouched, Touches}
use Rattle.wc_soundness.proofs.Touched.{called_kept, called_link, carried_on, found_kept, no_call, output_no_call, within}
use Rattle.wc_cost.specs.Touches.{KillsNone, KillsStay}
use Rattle.wc_cost.proofs.Owing.{alive}

-- ---- labels

called_grown : (ls new : List Link) (pid : ℕ) (label : Label) (q : ℕ) → called_under ls pid label ≡ Some q → called_under (ls ++ new) pid label ≡ Some q
called_grown [] new pid label q h = absurd (cc)
called_grown (l ∷ ls) new pid label q h = at (is_call_from pid l && bytes_eq l.label label) (called_grown ls new pid label q) h
  where
    at : (b : Bool) → (called_under ls pid label ≡ Some q → called_under (ls ++ new) pid label ≡ Some q)
        → (if b then Some l.target else called_under ls pid label) ≡ Some q → (if b then Some l.target else called_under (ls ++ new) pid label) ≡ Some q
    at true rest e = e
    at false rest e = rest e

-- what wasn't called under a label before is called by a new link
called_new : (ls new : List Link) (pid : ℕ) (label : Label) → called_under ls pid label ≡ None → called_under (ls ++ new) pid label ≡ called_under new pid label
called_new [] new pid label h = refl
called_new (l ∷ ls) new pid label h = at (is_call_from pid l && bytes_eq l.label label) (called_new ls new pid label) h
  where
    at : (b : Bool) → (called_under ls pid label ≡ None → called_under (ls ++ new) pid label ≡ called_under new pid label)
        → (if b then Some l.target else called_under ls pid label) ≡ None → (if b then Some l.target else called_under (ls ++ new) pid label) ≡ called_under new pid label
    at true rest e = absurd (cc e)
    at false rest e = rest e

source_there : (label : List ℕ) (o t : Option ProcessRecord) → is_call_between label o t ≡ true → (x : ProcessRecord) × (o ≡ Some x)
source_there label None t h = absurd (cc h)
source_there label (Some x) t h = (x, refl)

-- a new link that calls leads to a new process
new_target : (nodes : List NodeKind) (pid : ℕ) (l : Link) → AddsFor nodes pid l → calls l.link ≡ true → length nodes < l.target
new_target nodes pid l (inl h) called =
    let none : calls l.link ≡ false = output_no_call l.link (left (gives_output l.link) (l.source == pid) h) in absurd (cc (called, none))
new_target nodes pid l (inr (inl h)) called = h.1
new_target nodes pid l (inr (inr (inl h))) called = h.1
new_target nodes pid l (inr (inr (inr h))) called = h.1

module _ (v w : World) (pid : ℕ) (s : IsSound v) (t : Touches v w pid) (may : MayBeTouched v pid) (none : KillsNone v w pid) where
  not_cut : (x : ProcessRecord) → is_killed x.state ≡ false → cut_after w x ≡ None
  not_cut x h = ap (λ (b : Bool). if b then Some (calls_from x.node w.links) else None) h

  -- ---- a new process has no kills

  no_calls : (c : ℕ) → length v.nodes < c → NoCallFrom c v.links
  no_calls c beyond = λ i d lt.
      let l : Link = get_or v.links i d in
      elim (cases_Bool (is_call_from c l)) [
        | inl called ↦
            let from : l.source ≡ c = eqb-true l.source c (right (calls l.link) (l.source == c) called) in
            let x = source_there l.label (find_record l.source v.records) (find_record l.target v.records) (s.consistent.calls i d lt (calls_is l.link (left (calls l.link) (l.source == c) called))) in
            let low : l.source ≤ length v.nodes = within v w pid s t may l.source x.0 x.1 in
            absurd (omega (arith, from, low, beyond))
        | inr not ↦ not
      ]

  through : (u : World) (pid' : ℕ) (label : Label) (path : Path) (o : Option ℕ) → called_under u.links pid' label ≡ o
      → kills u pid' (label ∷ path) ≡ option_and_then (λ q. option_and_then (cut_after u) (find_record q u.records)) (option_and_then (λ c. follow u.links c path) o)
  through u pid' label path o is = ap (λ (z : Option ℕ). option_and_then (λ q. option_and_then (cut_after u) (find_record q u.records)) (option_and_then (λ q. follow u.links q path) z)) is

  -- what a new process calls is new
  beyond_call : (c : ℕ) → length v.nodes < c → (label : Label) (q : ℕ) → called_under w.links c label ≡ Some q → length v.nodes < q
  beyond_call c beyond label q is =
      let before : called_under v.links c label ≡ None = called_before [] v.links c label (no_calls c beyond) in
      let here : called_under t.new c label ≡ Some q = sym (called_new v.links t.new c label before) ∙ sym (ap (λ (ls : List Link). called_under ls c label) t.links) ∙ is in
      called_link (λ n. length v.nodes < n) t.new c label q
      (λ i d lt called. new_target v.nodes pid (get_or t.new i d) (t.added i d lt) (left (calls (get_or t.new i d).link) ((get_or t.new i d).source == c) called)) here

  fresh_on : (label : Label) (path : Path) → ((q : ℕ) → length v.nodes < q → kills w q path ≡ None) → (c : ℕ) → length v.nodes < c
      → (o : Option ℕ) → called_under w.links c label ≡ o → kills w c (label ∷ path) ≡ None
  fresh_on label path rest c beyond None is = through w c label path None is
  fresh_on label path rest c beyond (Some q) is = through w c label path (Some q) is ∙ rest q (beyond_call c beyond label q is)

  fresh_kills : (path : Path) (c : ℕ) → length v.nodes < c → kills w c path ≡ None
  fresh_kills [] c beyond = at (find_record c w.records) refl
    where
      at : (o : Option ProcessRecord) → find_record c w.records ≡ o → option_and_then (cut_after w) (find_record c w.records) ≡ None
      at None is = ap (option_and_then (cut_after w)) is
      at (Some x) is =
          let number : x.node ≡ c = found_node c w.records x is in
          ap (option_and_then (cut_after w)) is
          ∙ not_cut x (none x (ap (λ (n : ℕ). find_record n w.records) number ∙ is) (inr (omega (arith, number, beyond))))
  fresh_kills (label ∷ path) c beyond = fresh_on label path (fresh_kills path) c beyond (called_under w.links c label) refl

  -- ---- and one that was there has those that it had

  here_kept : (r : ProcessRecord) → find_record r.node v.records ≡ Some r → kills w r.node [] ≡ kills v r.node []
  here_kept r found = elim (cases_eq pid r.node) [
    | inl e ↦
        let c = carried_on v w pid s t may r found in
        let live : has_ended r.state ≡ false = may r (ap (λ (n : ℕ). find_record n v.records) e ∙ found) in
        let number : c.0.node ≡ r.node = c.2.node in
        let itself : find_record c.0.node w.records ≡ Some c.0 = ap (λ (n : ℕ). find_record n w.records) number ∙ c.1 in
        (ap (option_and_then (cut_after w)) c.1 ∙ not_cut c.0 (none c.0 itself (inl (e ∙ sym number)))) ∙ sym (alive v r found live)
    | inr ne ↦
        ap (option_and_then (cut_after w)) (found_kept v w pid s t may r found ne)
        ∙ ap (λ (n : ℕ). if is_killed r.state then Some n else None) (ap (calls_from r.node) t.links ∙ calls_before r.node v.links t.new (no_call v w pid s t may r.node (within v w pid s t may r.node r found) ne))
        ∙ sym (ap (option_and_then (cut_after v)) found)
  ]

  abbrev IsOld : ℕ → Type 0
  IsOld c = (x : ProcessRecord) × (find_record c v.records ≡ Some x)

  calls_old : (r : ProcessRecord) → find_record r.node v.records ≡ Some r → All (λ l. is_call_from r.node l ≡ true → IsOld l.target) v.links
  calls_old r found = λ i d lt called.
      let l : Link = get_or v.links i d in
      let deeper : IsDeeper r (find_record l.target v.records) = call_is_deeper v.records l r.node r found called (s.consistent.calls i d lt) in
      (deeper.0, deeper.1)

  abbrev Kept : Path → Type 0
  Kept path = (r : ProcessRecord) → find_record r.node v.records ≡ Some r → kills w r.node path ≡ kills v r.node path

  none_before : (r : ProcessRecord) → find_record r.node v.records ≡ Some r → (label : Label) (path : Path) → called_under v.links r.node label ≡ None
      → (o : Option ℕ) → called_under w.links r.node label ≡ o → kills w r.node (label ∷ path) ≡ None
  none_before r found label path before None is = through w r.node label path None is
  none_before r found label path before (Some c) is = elim (cases_eq pid r.node) [
    | inl e ↦
        let here : called_under t.new r.node label ≡ Some c = sym (called_new v.links t.new r.node label before) ∙ sym (ap (λ (ls : List Link). called_under ls r.node label) t.links) ∙ is in
        let beyond : length v.nodes < c = called_link (λ q. length v.nodes < q) t.new r.node label c
        (λ i d lt called. new_target v.nodes pid (get_or t.new i d) (t.added i d lt) (left (calls (get_or t.new i d).link) ((get_or t.new i d).source == r.node) called)) here in
        through w r.node label path (Some c) is ∙ fresh_kills path c beyond
    | inr ne ↦ let same : None ≡ Some c = sym before ∙ sym (called_kept v w pid s t may r.node label (within v w pid s t may r.node r found) ne) ∙ is in absurd (cc same)
  ]

  along : (label : Label) (path : Path) → Kept path → (r : ProcessRecord) → find_record r.node v.records ≡ Some r → (o : Option ℕ) → called_under v.links r.node label ≡ o
      → kills w r.node (label ∷ path) ≡ kills v r.node (label ∷ path)
  along label path rest r found None is = none_before r found label path is (called_under w.links r.node label) refl ∙ sym (through v r.node label path None is)
  along label path rest r found (Some c) is =
      let old : IsOld c = called_link IsOld v.links r.node label c (calls_old r found) is in
      let number : old.0.node ≡ c = found_node c v.records old.0 old.1 in
      let itself : find_record old.0.node v.records ≡ Some old.0 = ap (λ (n : ℕ). find_record n v.records) number ∙ old.1 in
      let now : called_under w.links r.node label ≡ Some c = ap (λ (ls : List Link). called_under ls r.node label) t.links ∙ called_grown v.links t.new r.node label c is in
      through w r.node label path (Some c) now
      ∙ (ap (λ (n : ℕ). kills w n path) (sym number) ∙ rest old.0 itself ∙ ap (λ (n : ℕ). kills v n path) number)
      ∙ sym (through v r.node label path (Some c) is)

  pub kills_kept : (path : Path) → Kept path
  kills_kept [] r found = here_kept r found
  kills_kept (label ∷ path) r found = along label path (kills_kept path) r found (called_under v.links r.node label) refl

pub kills_stay : KillsStay
kills_stay v w pid s t may none r found path = kills_kept v w pid s t may none path r found
