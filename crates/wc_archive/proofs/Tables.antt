-- Where no result is in conflict with another, some table agrees with the world after an import.
use Rattle.std.proofs.Common.{◌≡◌, ◌≢◌, ℕ, suc, ◌+◌, ◌<◌, ◌≤◌, ◌==◌, ℤ, Bool, true, false, List, [], ◌∷◌, length, map, Option, Some, None, ◌⊎◌, inl, inr, refl, sym, ap, subst, ◌∙◌, arith}
use Rattle.std.specs.Prelude.{All, codes, option_and_then}
use Rattle.std.specs.Ordering.{int_eq}
use Rattle.std.specs.Str.{bytes_eq}
use Rattle.std.proofs.lemmas.Bool.{cases_order, ne_eqb}
use Rattle.std.proofs.lemmas.Bool.Decides.{Decides-int_eq}
use Rattle.std.proofs.lemmas.List.Elements.{All-map, All-weaker}
use Rattle.std.proofs.lemmas.Slice.Eq.{bytes_eq-Decides}
use Rattle.wc_value.specs.Ascending.{lookup}
use Rattle.wc_value.specs.declared.process.JobResult.{JobResult}
use Rattle.wc_value.specs.declared.process.Request.{Request}
use Rattle.wc_syntax.specs.Findings.{definition_named}
use Rattle.wc_syntax.specs.declared.definition.Definition.{Definition}
use Rattle.wc_expression.specs.declared.outcome.Outcome.TheVariants.{Gives}
use Rattle.wc_graph.specs.Rules.{HasRightEnds}
use Rattle.wc_state.specs.declared.record.ProcessRecord.{ProcessRecord}
use Rattle.wc_world.specs.Applied.{applied}
use Rattle.wc_world.specs.Consistent.{IsConsistent, Stands, is_earlier_source, source_stands}
use Rattle.wc_world.specs.Fits.{is_of_kind}
use Rattle.wc_world.specs.Records.{find_record, gives_output, is_output_of, library_at}
use Rattle.wc_world.specs.Trees.{values_alone}
use Rattle.wc_world.specs.World.{World}
use Rattle.wc_world.proofs.FoundRecords.{found_holds, right}
use Rattle.wc_machine.specs.Continues.{Continues}
use Rattle.wc_machine.specs.Recorded.{folder_of, its_definition, recorded_inputs, recorded_outputs, recorded_request, request_by, retrieved_folder, HasResult}
use Rattle.wc_machine.specs.Recorded as recorded
use Rattle.wc_machine.specs.Results.{HasResultsByRequest}
use Rattle.wc_machine.specs.Sound.{IsSound}
use Rattle.wc_machine.proofs.Frames.{and_false, find_before, library_stays, outputs_stay, records_below}
use Rattle.wc_soundness.proofs.FoundResults.{result_is_found}
use Rattle.wc_soundness.proofs.PlainTables.{plain_tables_exactly}
use Rattle.wc_soundness.proofs.WellKept.{well_kept}
use Rattle.wc_subworlds.specs.Parts.{IsPart, placed}
use Rattle.wc_subworlds.proofs.Parts.{its_number}
use Rattle.wc_subworlds.proofs.Same.{parts_tell_the_same}
use Rattle.wc_archive_file.specs.declared.archive.Archive.{Archive}
use Rattle.wc_archive.specs.After.{ended_record, own_world, records_from, with_archive}
use Rattle.wc_archive.specs.Alone.{alone, imported, raised}
use Rattle.wc_archive.specs.Good.{AreInConflict, kind_of_node}
use Rattle.wc_archive.specs.Laws.{ImportsKeepTables, IsGoodArchive, KeepsSoundWith}
use Rattle.wc_archive.proofs.Made.{import_makes}
use Rattle.wc_archive.proofs.Part.{archives_are_these_worlds, found_behind, is_part}
use Rattle.wc_archive.proofs.Accepting.{some_source}
use Rattle.wc_archive.proofs.Accepted.{good_archives_are_consistent}
use Rattle.wc_archive.proofs.Meant.{own_found}
use Rattle.wc_archive.proofs.Origin.{ComesFrom, comes_from, none_below}
use Rattle.wc_archive.proofs.Sound.{imports_keep_sound, no_sources}

-- ---- results are equal, or they aren't

text_or : (t u : List ℕ) → (t ≡ u) ⊎ (t ≢ u)
text_or t u = at (bytes_eq t u) refl
  where
    at : (b : Bool) → bytes_eq t u ≡ b → (t ≡ u) ⊎ (t ≢ u)
    at true h = inl ((bytes_eq-Decides t u).0 h)
    at false h = inr (λ e. let f : true ≡ false = sym ((bytes_eq-Decides t u).1 e) ∙ h in absurd (cc f))

code_or : (x y : ℤ) → (x ≡ y) ⊎ (x ≢ y)
code_or x y = at (int_eq x y) refl
  where
    at : (b : Bool) → int_eq x y ≡ b → (x ≡ y) ⊎ (x ≢ y)
    at true h = inl ((Decides-int_eq x y).0 h)
    at false h = inr (λ e. let f : true ≡ false = sym ((Decides-int_eq x y).1 e) ∙ h in absurd (cc f))

files_or : (fs gs : List (List ℕ × List ℕ)) → (fs ≡ gs) ⊎ (fs ≢ gs)
files_or [] [] = inl refl
files_or [] (g ∷ gs) = inr (λ e. absurd (cc e))
files_or (f ∷ fs) [] = inr (λ e. absurd (cc e))
files_or (f ∷ fs) (g ∷ gs) = by (text_or f.0 g.0) (text_or f.1 g.1) (files_or fs gs)
  where
    by : (f.0 ≡ g.0) ⊎ (f.0 ≢ g.0) → (f.1 ≡ g.1) ⊎ (f.1 ≢ g.1) → (fs ≡ gs) ⊎ (fs ≢ gs) → ((f ∷ fs) ≡ (g ∷ gs)) ⊎ ((f ∷ fs) ≢ (g ∷ gs))
    by (inl a) (inl b) (inl c) = inl (λ i. (a i, b i) ∷ c i)
    by (inr a) b c = inr (λ e. let h : f ≡ g = cc e in absurd (a (ap (λ (p : List ℕ × List ℕ). p.0) h)))
    by (inl a) (inr b) c = inr (λ e. let h : f ≡ g = cc e in absurd (b (ap (λ (p : List ℕ × List ℕ). p.1) h)))
    by (inl a) (inl b) (inr c) = inr (λ e. let h : fs ≡ gs = cc e in absurd (c h))

result_or : (x y : JobResult) → (x ≡ y) ⊎ (x ≢ y)
result_or x y = by (code_or x.code y.code) (files_or x.files y.files)
  where
    by : (x.code ≡ y.code) ⊎ (x.code ≢ y.code) → (x.files ≡ y.files) ⊎ (x.files ≢ y.files) → (x ≡ y) ⊎ (x ≢ y)
    by (inl a) (inl b) = inl (λ i. record { code = a i; files = b i })
    by (inr a) b = inr (λ e. absurd (a (ap (λ (z : JobResult). z.code) e)))
    by (inl a) (inr b) = inr (λ e. absurd (b (ap (λ (z : JobResult). z.files) e)))

settled : (x y : JobResult) → ((x ≢ y) → ⊥) → x ≡ y
settled x y h = by (result_or x y)
  where
    by : (x ≡ y) ⊎ (x ≢ y) → x ≡ y
    by (inl e) = e
    by (inr n) = absurd (h n)

module _ (w : World) (s : IsSound w) (a : Archive) (good : IsGoodArchive a) (k : KeepsSoundWith w a) where
  abbrev n : ℕ
  n = length w.nodes

  abbrev u : World
  u = own_world a

  abbrev v : World
  v = with_archive w a

  c : IsConsistent w
  c = s.consistent

  low : All (λ r. r.node < suc n) w.records
  low = records_below w.nodes w.records c.numbered

  own_is : alone a ≡ u
  own_is = archives_are_these_worlds a

  own : IsConsistent u
  own = subst IsConsistent own_is (good_archives_are_consistent a good)

  pub then_is : applied w (imported w a) ≡ v
  then_is = import_makes w a low

  part : IsPart (raised n) u v
  part = is_part w a c own.links.ends

  continues : Continues w v
  continues = subst (Continues w) then_is k.continues

  -- ---- a process that was there

  old_found : (q : ℕ) (r : ProcessRecord) → q ≤ n → find_record q v.records ≡ Some r → find_record q w.records ≡ Some r
  old_found q r le h =
      sym (find_before q w.records (records_from (w.batches + 1) (suc (length w.libraries)) (suc n) a.nodes)
      (none_below (w.batches + 1) (suc (length w.libraries)) (suc n) q a.nodes (omega (arith, le)))) ∙ h

  old_folder : (q : ℕ) → q ≤ n → retrieved_folder v q ≡ retrieved_folder w q
  old_folder q le =
      let no : All (λ l. is_output_of q l ≡ false) (map (placed (raised n)) a.links)
      = All-map (λ l. is_output_of q l ≡ false) (placed (raised n)) a.links
      (All-weaker (HasRightEnds u.nodes) (λ l. is_output_of q (placed (raised n) l) ≡ false)
      (λ l h. let some : 1 ≤ l.source = some_source w.nodes u.nodes l h in
      and_false (gives_output l.link) ((n + l.source) == q) (ne_eqb (n + l.source) q (λ e. absurd (omega (arith, some, le, e))))) a.links own.links.ends) in
      ap (λ es. option_and_then folder_of (lookup (codes "retrieved") (values_alone es)))
      (outputs_stay w.nodes (map kind_of_node a.nodes) q w.links (map (placed (raised n)) a.links) c.links.ends no)

  source_low : (r : ProcessRecord) (source : ℕ) → find_record r.node w.records ≡ Some r → r.cached_from ≡ Some source → source ≤ n
  source_low r source found from =
      let stands : source_stands w.records r r.cached_from ≡ true = (found_holds (Stands w) r.node w.records r c.records found).source in
      by (find_record source w.records) refl (right _ _ (ap (source_stands w.records r) (sym from) ∙ stands))
    where
      by : (o : Option ProcessRecord) → find_record source w.records ≡ o → is_earlier_source r o ≡ true → source ≤ n
      by None h e = absurd (cc e)
      by (Some q) h e =
          let number : q.node ≡ source = its_number source w.records q h in
          let lt : q.node < suc n = found_holds (λ x. x.node < suc n) source w.records q low h in
          omega (arith, number, lt)

  old_result : (q : ℕ) (x : JobResult) → HasResult v q x → q ≤ n → HasResult w q x
  old_result q x (recorded.own r code files found is_job has folder) le =
      recorded.own r code files (old_found r.node r le found) is_job has (sym (old_folder r.node le) ∙ folder)
  old_result q x (recorded.cached r source y found is_job alive from has) le =
      recorded.cached r source y (old_found r.node r le found) is_job alive from
      (old_result source y has (source_low r source (old_found r.node r le found) from))

  old_request : (r : ProcessRecord) → find_record r.node w.records ≡ Some r → recorded_request v r ≡ recorded_request w r
  old_request r found =
      let inputs : recorded_inputs v r.node ≡ recorded_inputs w r.node
      = found_holds (λ x. recorded_inputs v x.node ≡ recorded_inputs w x.node) r.node w.records r continues.inputs found in
      let library : library_at v.libraries r.library ≡ library_at w.libraries r.library = known (library_at w.libraries r.library) refl in
      λ i. request_by (option_and_then (definition_named r.definition) (library i)) (inputs i)
    where
      known : (o : Option (List Definition)) → library_at w.libraries r.library ≡ o → library_at v.libraries r.library ≡ library_at w.libraries r.library
      known (Some l) h = library_stays w.libraries ((a.library, []) ∷ []) r.library l h
      known None h =
          let d = (found_holds (Stands w) r.node w.records r c.records found).defined in
          let no : false ≡ true = sym (ap (λ o. is_of_kind r.kind (option_and_then (definition_named r.definition) o)) h) ∙ d in
          absurd (cc no)

  -- ---- a process that came

  abbrev Comes : ProcessRecord → Type 0
  Comes r = ComesFrom (w.batches + 1) (suc (length w.libraries)) n 1 r.node a.nodes r

  came : (r : ProcessRecord) → n < r.node → find_record r.node v.records ≡ Some r → Comes r
  came r lt h =
      comes_from (w.batches + 1) (suc (length w.libraries)) n 1 (suc n) r.node a.nodes r (omega arith)
      (sym (found_behind r.node w.records (records_from (w.batches + 1) (suc (length w.libraries)) (suc n) a.nodes)
      (All-weaker (λ x. x.node < suc n) (λ x. x.node < r.node) (λ x le. omega (arith, le, lt)) w.records low)) ∙ h)

  abbrev its : (r : ProcessRecord) → Comes r → ProcessRecord
  its r f = ended_record 1 1 f.number f.process

  new_request : (r : ProcessRecord) (f : Comes r) → find_record r.node v.records ≡ Some r → recorded_request v r ≡ recorded_request u (its r f)
  new_request r f h =
      (parts_tell_the_same (raised n) u v own part (its r f) r f.own (ap (λ (m : ℕ). find_record m v.records) (sym f.raised) ∙ h)).request

  new_result : (r : ProcessRecord) (f : Comes r) (x : JobResult) → HasResult v r.node x → HasResult u f.number x
  new_result r f x has = ((part.processes f.number (its r f) f.own).results x).1 (subst (λ (m : ℕ). HasResult v m x) f.raised has)

  -- ---- results by request

  module _ (before : HasResultsByRequest w) (results : HasResultsByRequest u) (free : (m q : ℕ) → ¬ AreInConflict u w m q) where
    mixed : (r t : ProcessRecord) (q : Request) (x y : JobResult) → n < r.node → t.node ≤ n → find_record r.node v.records ≡ Some r → find_record t.node v.records ≡ Some t
        → recorded_request v r ≡ Some (Gives q) → recorded_request v t ≡ Some (Gives q) → HasResult v r.node x → HasResult v t.node y → x ≡ y
    mixed r t q x y lt le fr ft ar at hx hy =
        let f = came r lt fr in
        let there : find_record t.node w.records ≡ Some t = old_found t.node t le ft in
        settled x y
        (λ ne. free f.number t.node (record {
          one = its r f;
          other = t;
          one_found = f.own;
          other_found = there;
          request = q;
          one_asks = sym (new_request r f fr) ∙ ar;
          other_asks = sym (old_request t there) ∙ at;
          one_result = x;
          other_result = y;
          one_has = own_found u (no_sources 1 1 1 a.nodes) f.number x (new_result r f x hx);
          other_has = result_is_found w (well_kept w s) t.node y (old_result t.node y hy le);
          differ = ne;
        }))

    pub by_request : HasResultsByRequest v
    by_request r t fr ft q x y ar at hx hy = by (old_or_new r.node) (old_or_new t.node)
      where
        old_or_new : (m : ℕ) → (m ≤ n) ⊎ (n < m)
        old_or_new m = choose (cases_order m n)
          where
            choose : (m ≡ n) ⊎ ((m < n) ⊎ (n < m)) → (m ≤ n) ⊎ (n < m)
            choose (inl e) = inl (omega (arith, e))
            choose (inr (inl lt)) = inl (omega (arith, lt))
            choose (inr (inr lt)) = inr lt

        by : (r.node ≤ n) ⊎ (n < r.node) → (t.node ≤ n) ⊎ (n < t.node) → x ≡ y
        by (inl l) (inl m) =
            let f = old_found r.node r l fr in
            let g = old_found t.node t m ft in
            before r t f g q x y (sym (old_request r f) ∙ ar) (sym (old_request t g) ∙ at) (old_result r.node x hx l) (old_result t.node y hy m)
        by (inr l) (inr m) =
            let f = came r l fr in
            let g = came t m ft in
            results (its r f) (its t g) f.own g.own q x y (sym (new_request r f fr) ∙ ar) (sym (new_request t g ft) ∙ at) (new_result r f x hx) (new_result t g y hy)
        by (inr l) (inl m) = mixed r t q x y l m fr ft ar at hx hy
        by (inl l) (inr m) = sym (mixed t r q y x m l ft fr at ar hy hx)

pub imports_keep_tables : ImportsKeepTables
imports_keep_tables w most a few s writable h table =
    let good : IsGoodArchive a = record { writable = writable; links = h.links; processes = h.processes } in
    let k : KeepsSoundWith w a = imports_keep_sound w most a few s writable h in
    let is : alone a ≡ own_world a = archives_are_these_worlds a in
    let before : HasResultsByRequest w = (plain_tables_exactly w s).0 table in
    let after : HasResultsByRequest (with_archive w a)
    = by_request w s a good k before (subst HasResultsByRequest is h.results) (subst (λ (x : World). (m q : ℕ) → ¬ AreInConflict x w m q) is h.conflicts) in
    (plain_tables_exactly (applied w (imported w a)) k.sound).1 (subst HasResultsByRequest (sym (then_is w s a good k)) after)
