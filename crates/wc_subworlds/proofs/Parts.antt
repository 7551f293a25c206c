-- Where call paths lead in a part, and in the whole.
use Rattle.std.proofs.Common.{◌≡◌, ℕ, ◌==◌, Bool, true, false, List, [], ◌∷◌, Option, Some, None, refl, sym, ap, subst, ◌∙◌}
use Rattle.std.specs.Prelude.{All, ◌&&◌, if◌then◌else◌, option_map, option_and_then}
use Rattle.std.specs.Str.{bytes_eq}
use Rattle.std.proofs.lemmas.Bool.{eqb-true}
use Rattle.std.proofs.lemmas.List.Elements.{All-head, All-tail, All-weaker}
use Rattle.wc_graph.specs.Rules.{IsCall}
use Rattle.wc_graph.specs.declared.link.Link.{Link}
use Rattle.wc_state.specs.declared.record.ProcessRecord.{ProcessRecord}
use Rattle.wc_semantics.specs.Meaning.{is_killed}
use Rattle.wc_semantics.specs.Tables.{Label, Path}
use Rattle.wc_world.specs.World.{World}
use Rattle.wc_world.specs.Consistent.{IsConsistent}
use Rattle.wc_world.specs.Fits.{call_fits, calls_from}
use Rattle.wc_world.specs.Records.{find_record, is_call_from}
use Rattle.wc_world.proofs.FoundRecords.{call_is_deeper}
use Rattle.wc_machine.specs.Paths.{called_under, cut_after, follow, kills}
use Rattle.wc_subworlds.specs.Parts.{IsPart, StandsAt}
use Rattle.wc_subworlds.proofs.Links.{count_along, under_along}

-- the record that is found by a number has that number
pub its_number : (pid : ℕ) (rs : List ProcessRecord) (r : ProcessRecord) → find_record pid rs ≡ Some r → r.node ≡ pid
its_number pid [] r h = absurd (cc)
its_number pid (x ∷ xs) r h = at (x.node == pid) refl (its_number pid xs r) h
  where
    at : (b : Bool) → (x.node == pid) ≡ b → (find_record pid xs ≡ Some r → r.node ≡ pid) → (if b then Some x else find_record pid xs) ≡ Some r → r.node ≡ pid
    at true is rest e = let same : x ≡ r = cc e in subst (λ (y : ProcessRecord). y.node ≡ pid) same (eqb-true x.node pid is)
    at false is rest e = rest e

-- there is a process with this number
abbrev pub IsProcess : World → ℕ → Type 0
IsProcess w pid = (r : ProcessRecord) × (find_record pid w.records ≡ Some r)

left : (a b : Bool) → (a && b) ≡ true → a ≡ true
left true b h = refl
left false b h = absurd (cc)

module _ (u : World) (consistent : IsConsistent u) where
  -- what a process called is one
  called_there : (pid : ℕ) → IsProcess u pid → (ls : List Link) → All (λ l. IsCall l.link → call_fits u.records l ≡ true) ls
      → All (λ l. is_call_from pid l ≡ true → IsProcess u l.target) ls
  called_there pid p ls =
      All-weaker (λ l. IsCall l.link → call_fits u.records l ≡ true) (λ l. is_call_from pid l ≡ true → IsProcess u l.target)
      (λ l fits h. let d = call_is_deeper u.records l pid p.0 p.1 h fits in (d.0, d.1)) ls

  pub its_calls_there : (pid : ℕ) → IsProcess u pid → All (λ l. is_call_from pid l ≡ true → IsProcess u l.target) u.links
  its_calls_there pid p = called_there pid p u.links consistent.calls

  under_there : (pid : ℕ) (label : Label) (q : ℕ) (ls : List Link) → All (λ l. is_call_from pid l ≡ true → IsProcess u l.target) ls
      → called_under ls pid label ≡ Some q → IsProcess u q
  under_there pid label q [] h e = absurd (cc)
  under_there pid label q (l ∷ ls) h e =
      at (is_call_from pid l && bytes_eq l.label label) refl (under_there pid label q ls (All-tail (λ x. is_call_from pid x ≡ true → IsProcess u x.target) l ls h)) e
    where
      at : (b : Bool) → (is_call_from pid l && bytes_eq l.label label) ≡ b → (called_under ls pid label ≡ Some q → IsProcess u q)
          → (if b then Some l.target else called_under ls pid label) ≡ Some q → IsProcess u q
      at true is rest e =
          let same : l.target ≡ q = cc e in
          subst (IsProcess u) same (All-head (λ x. is_call_from pid x ≡ true → IsProcess u x.target) l ls h (left (is_call_from pid l) (bytes_eq l.label label) is))
      at false is rest e = rest e

  pub called_process : (pid : ℕ) (label : Label) (q : ℕ) → IsProcess u pid → called_under u.links pid label ≡ Some q → IsProcess u q
  called_process pid label q p = under_there pid label q u.links (its_calls_there pid p)

  -- a call path leads from a process to one
  pub path_process : (path : Path) (pid q : ℕ) → IsProcess u pid → follow u.links pid path ≡ Some q → IsProcess u q
  path_process [] pid q p e = let same : pid ≡ q = cc e in subst (IsProcess u) same p
  path_process (label ∷ path) pid q p e = at (called_under u.links pid label) refl (λ m is. path_process path m q is) e
    where
      at : (o : Option ℕ) → called_under u.links pid label ≡ o → ((m : ℕ) → IsProcess u m → follow u.links m path ≡ Some q → IsProcess u q)
          → option_and_then (λ m. follow u.links m path) o ≡ Some q → IsProcess u q
      at None is rest h = absurd (cc h)
      at (Some m) is rest h = rest m (called_process pid label m p is) h

  module _ (place : ℕ → ℕ) (w : World) (part : IsPart place u w) where
    pub stands : (pid : ℕ) (p : IsProcess u pid) → StandsAt place u w pid p.0
    stands pid p = part.processes pid p.0 p.1

    under_placed : (pid : ℕ) → IsProcess u pid → (label : Label) → called_under w.links (place pid) label ≡ option_map place (called_under u.links pid label)
    under_placed pid p label = under_along place part.rises pid u.links w.links (stands pid p).leaving label

    pub paths_placed : (path : Path) (pid : ℕ) → IsProcess u pid → follow w.links (place pid) path ≡ option_map place (follow u.links pid path)
    paths_placed [] pid p = refl
    paths_placed (label ∷ path) pid p =
        ap (option_and_then (λ q. follow w.links q path)) (under_placed pid p label) ∙ at (called_under u.links pid label) refl (λ q is. paths_placed path q is)
      where
        at : (o : Option ℕ) → called_under u.links pid label ≡ o → ((q : ℕ) → IsProcess u q → follow w.links (place q) path ≡ option_map place (follow u.links q path))
            → option_and_then (λ q. follow w.links q path) (option_map place o) ≡ option_map place (option_and_then (λ q. follow u.links q path) o)
        at None is rest = refl
        at (Some q) is rest = rest q (called_process pid label q p is)

    -- ---- kills

    cut_placed : (pid : ℕ) (r s : ProcessRecord) → find_record pid u.records ≡ Some r → find_record (place pid) w.records ≡ Some s → cut_after w s ≡ cut_after u r
    cut_placed pid r s e f =
        let p = stands pid (r, e) in
        let same : p.there ≡ s = (let h : Some p.there ≡ Some s = sym p.found ∙ f in cc h) in
        let state : s.state ≡ r.state = ap (λ (x : ProcessRecord). x.state) (sym same) ∙ p.same.state in
        let count : calls_from s.node w.links ≡ calls_from r.node u.links =
        ap (λ (n : ℕ). calls_from n w.links) (its_number (place pid) w.records s f)
        ∙ count_along place part.rises pid u.links w.links p.leaving
        ∙ ap (λ (n : ℕ). calls_from n u.links) (sym (its_number pid u.records r e)) in
        λ i. if is_killed (state i) then Some (count i) else None

    kill_here : (pid : ℕ) → IsProcess u pid → option_and_then (cut_after w) (find_record (place pid) w.records) ≡ option_and_then (cut_after u) (find_record pid u.records)
    kill_here pid p =
        let s = stands pid p in
        ap (option_and_then (cut_after w)) s.found ∙ cut_placed pid p.0 s.there p.1 s.found ∙ sym (ap (option_and_then (cut_after u)) p.1)

    pub kills_placed : (path : Path) (pid : ℕ) → IsProcess u pid → kills w (place pid) path ≡ kills u pid path
    kills_placed path pid p = ap (option_and_then (λ q. option_and_then (cut_after w) (find_record q w.records))) (paths_placed path pid p) ∙ at (follow u.links pid path) refl
      where
        at : (o : Option ℕ) → follow u.links pid path ≡ o → option_and_then (λ q. option_and_then (cut_after w) (find_record q w.records)) (option_map place o)
            ≡ option_and_then (λ q. option_and_then (cut_after u) (find_record q u.records)) o
        at None is = refl
        at (Some q) is = kill_here q (path_process path pid q p is)
