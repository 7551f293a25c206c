-- What holds of a record that is found by its number.
use Rattle.std.proofs.Common.{◌≡◌, ℕ, suc, Bool, true, false, List, [], ◌∷◌, Option, Some, None, refl, subst, ap, sym, ◌∙◌}
use Rattle.std.specs.Prelude.{if◌then◌else◌, is_some, All, ◌==◌, ◌&&◌}
use Rattle.std.specs.Option.{option_map, option_and_then}
use Rattle.std.proofs.lemmas.Bool.{eqb-true}
use Rattle.std.proofs.lemmas.List.Elements.{All-head, All-tail}
use Rattle.wc_graph.specs.Rules.{IsCall}
use Rattle.wc_graph.specs.declared.link.Link.{Link}
use Rattle.wc_graph.specs.declared.link.LinkType.{LinkType}
use Rattle.wc_graph.specs.declared.link.LinkType.TheVariants as link
use Rattle.wc_state.specs.declared.record.ProcessRecord.{ProcessRecord}
use Rattle.wc_fits.specs.Records.{find_record, calls, is_call_from}
use Rattle.wc_fits.specs.Fits.{is_called_by, is_call_between, call_fits}

-- what holds of each record holds of the one that is found
pub found_holds : (P : ProcessRecord → Type 0) (pid : ℕ) (rs : List ProcessRecord) (q : ProcessRecord) → All P rs → find_record pid rs ≡ Some q → P q
found_holds P pid [] q a e = absurd (cc)
found_holds P pid (r ∷ rs) q a e = at (r.node == pid) (found_holds P pid rs q (All-tail P r rs a)) e
  where
    at : (b : Bool) → (find_record pid rs ≡ Some q → P q) → (if b then Some r else find_record pid rs) ≡ Some q → P q
    at true rest e = let same : r ≡ q = cc in subst P same (All-head P r rs a)
    at false rest e = rest e

pub left : (a b : Bool) → a && b ≡ true → a ≡ true
left true b h = refl
left false b h = absurd (cc)

pub right : (a b : Bool) → a && b ≡ true → b ≡ true
right true b h = h
right false b h = absurd (cc)

pub calls_is : (t : LinkType) → calls t ≡ true → IsCall t
calls_is link.InputCalc h = absurd (cc)
calls_is link.InputWork h = absurd (cc)
calls_is link.Create h = absurd (cc)
calls_is link.Return h = absurd (cc)
calls_is link.CallCalc h = tt
calls_is link.CallWork h = tt

-- one record stands one level deeper than another
abbrev pub IsDeeper : ProcessRecord → Option ProcessRecord → Type 0
IsDeeper r o = (q : ProcessRecord) × (o ≡ Some q) × (q.depth ≡ suc r.depth)

called_deeper : (label : List ℕ) (r : ProcessRecord) (o : Option ProcessRecord) → is_called_by label r o ≡ true → IsDeeper r o
called_deeper label r None h = absurd (cc)
called_deeper label r (Some q) h = (q, refl, eqb-true q.depth (suc r.depth) (left _ _ h))

-- the target of a call is there, one level deeper
pub call_is_deeper : (records : List ProcessRecord) (l : Link) (pid : ℕ) (r : ProcessRecord) → find_record pid records ≡ Some r → is_call_from pid l ≡ true
    → (IsCall l.link → call_fits records l ≡ true) → IsDeeper r (find_record l.target records)
call_is_deeper records l pid r e h fits =
    let from : l.source ≡ pid = eqb-true l.source pid (right (calls l.link) (l.source == pid) h) in
    let source : find_record l.source records ≡ Some r = ap (λ (n : ℕ). find_record n records) from ∙ e in
    let between : is_call_between l.label (Some r) (find_record l.target records) ≡ true
    = ap (λ (o : Option ProcessRecord). is_call_between l.label o (find_record l.target records)) (sym source)
    ∙ fits (calls_is l.link (left (calls l.link) (l.source == pid) h)) in
    called_deeper l.label r (find_record l.target records) between

-- what is made of a record and of something that is there is there
pub made_there : {A B C : Type 0} (f : A → B → C) (o : Option A) (a : A) (m : Option B) → o ≡ Some a → is_some m ≡ true
    → is_some (option_and_then (λ x. option_map (f x) m) o) ≡ true
made_there f None a m e h = absurd (cc)
made_there f (Some x) a None e h = absurd (cc)
made_there f (Some x) a (Some b) e h = refl
