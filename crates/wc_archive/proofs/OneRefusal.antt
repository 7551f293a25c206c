-- An archive is refused in at most one way.
use Rattle.std.proofs.Common.{◌≡◌, ℕ, ◌<◌, List, [], ◌∷◌, Some, None, ◌⊎◌, inl, inr, sym, ap, ◌∙◌, arith}
use Rattle.std.specs.Prelude.{All, length}
use Rattle.std.proofs.lemmas.Bool.{cases_order}
use Rattle.wc_graph.specs.declared.link.Link.{Link}
use Rattle.wc_graph.specs.declared.node.NodeKind.{NodeKind}
use Rattle.wc_state.specs.declared.record.ProcessKind.TheVariants as kind
use Rattle.wc_state.specs.declared.record.ProcessRecord.{ProcessRecord}
use Rattle.wc_state.specs.declared.record.What.{What}
use Rattle.wc_state.specs.declared.record.What.TheVariants as what
use Rattle.wc_world.specs.Records.{find_record}
use Rattle.wc_world.specs.World.{World}
use Rattle.wc_world.specs.Applied.{applied}
use Rattle.wc_world.proofs.FoundRecords.{found_holds}
use Rattle.wc_machine.specs.Refusals.{AreFew, AreTooMany}
use Rattle.wc_verify.specs.Faults.{IsNotAfter}
use Rattle.wc_verify.proofs.Unique.{one_least_disagreement, one_lowest_wrong, right_or_wrong}
use Rattle.wc_subworlds.proofs.Parts.{its_number}
use Rattle.wc_archive_file.specs.declared.archive.Archive.{Archive}
use Rattle.wc_archive_file.specs.declared.error.ArchiveError.{ArchiveError}
use Rattle.wc_archive_file.specs.declared.error.ArchiveError.TheVariants as error
use Rattle.wc_archive.specs.Alone.{alone, imported}
use Rattle.wc_archive.specs.Good.{AreGoodChains, AreGoodProcesses, IsFirstBadChain, IsFirstBadLink, IsFirstBadProcess, IsGoodChain, IsGoodProcess}
use Rattle.wc_archive.specs.Judged.{Fails, IsFirstRefusal, IsImportable, Passes, Question, chains, conflicts, links, processes, questions, results, room, values}
use Rattle.wc_archive.specs.Laws.{RefusalsAreOne}

-- ---- firsts

one_bad_link : (nodes : List NodeKind) (ls : List Link) (i j : ℕ) → IsFirstBadLink nodes ls i → IsFirstBadLink nodes ls j → i ≡ j
one_bad_link nodes ls i j f g = by (cases_order i j)
  where
    by : (i ≡ j) ⊎ ((i < j) ⊎ (j < i)) → i ≡ j
    by (inl e) = e
    by (inr (inl lt)) = absurd (f.bad (g.first i lt f.link f.stands))
    by (inr (inr lt)) = absurd (g.bad (f.first j lt g.link g.stands))

not_found : (u : World) (pid : ℕ) (r : ProcessRecord) → u.records ≡ [] → find_record pid u.records ≡ Some r → ⊥
not_found u pid r none found = let no : None ≡ Some r = sym (ap (find_record pid) none) ∙ found in absurd (cc no)

module _ (u : World) where
  earlier_good : (pid q : ℕ) (r : ProcessRecord) → find_record pid u.records ≡ Some r → pid < q → All (λ x. x.node < q → IsGoodProcess u x) u.records → IsGoodProcess u r
  earlier_good pid q r found lt all =
      let number : r.node ≡ pid = its_number pid u.records r found in
      found_holds (λ x. x.node < q → IsGoodProcess u x) pid u.records r all found (omega (arith, number, lt))

  one_bad_process : (p q : ℕ) → IsFirstBadProcess u p → IsFirstBadProcess u q → p ≡ q
  one_bad_process p q (inl f) (inl g) = f.0 ∙ sym g.0
  one_bad_process p q (inl f) (inr g) = absurd (not_found u q g.0.0 f.1 g.0.1)
  one_bad_process p q (inr f) (inl g) = absurd (not_found u p f.0.0 g.1 f.0.1)
  one_bad_process p q (inr f) (inr g) = by (cases_order p q)
    where
      by : (p ≡ q) ⊎ ((p < q) ⊎ (q < p)) → p ≡ q
      by (inl e) = e
      by (inr (inl lt)) = absurd (f.0.2 (earlier_good p q f.0.0 f.0.1 lt g.1))
      by (inr (inr lt)) = absurd (g.0.2 (earlier_good q p g.0.0 g.0.1 lt f.1))

  good_or_bad : (p : ℕ) → AreGoodProcesses u → IsFirstBadProcess u p → ⊥
  good_or_bad p h (inl f) = h.some f.1
  good_or_bad p h (inr f) = f.0.2 (found_holds (IsGoodProcess u) p u.records f.0.0 h.each f.0.1)

  earlier_chain : (pid q : ℕ) (r : ProcessRecord) → find_record pid u.records ≡ Some r → r.kind ≡ kind.Chain → pid < q
      → All (λ x. x.node < q → x.kind ≡ kind.Chain → IsGoodChain u x) u.records → IsGoodChain u r
  earlier_chain pid q r found is lt all =
      let number : r.node ≡ pid = its_number pid u.records r found in
      found_holds (λ x. x.node < q → x.kind ≡ kind.Chain → IsGoodChain u x) pid u.records r all found (omega (arith, number, lt)) is

  one_bad_chain : (p q : ℕ) → IsFirstBadChain u p → IsFirstBadChain u q → p ≡ q
  one_bad_chain p q f g = by (cases_order p q)
    where
      by : (p ≡ q) ⊎ ((p < q) ⊎ (q < p)) → p ≡ q
      by (inl e) = e
      by (inr (inl lt)) = absurd (f.0.3 (earlier_chain p q f.0.0 f.0.1 f.0.2 lt g.1))
      by (inr (inr lt)) = absurd (g.0.3 (earlier_chain q p g.0.0 g.0.1 g.0.2 lt f.1))

  chain_or_bad : (p : ℕ) → AreGoodChains u → IsFirstBadChain u p → ⊥
  chain_or_bad p h f = f.0.3 (found_holds (λ x. x.kind ≡ kind.Chain → IsGoodChain u x) p u.records f.0.0 h f.0.1 f.0.2)

-- pairs neither of which is after the other are equal
one_pair : (n m p q : ℕ) → IsNotAfter (n, p) (m, q) → IsNotAfter (m, q) (n, p) → (n ≡ m) × (p ≡ q)
one_pair n m p q (inl a) (inl b) = absurd (omega (arith, a, b))
one_pair n m p q (inl a) (inr b) = let e = b.0 in absurd (omega (arith, a, e))
one_pair n m p q (inr a) (inl b) = let e = a.0 in absurd (omega (arith, b, e))
one_pair n m p q (inr a) (inr b) = let e = a.1 in let f = b.1 in (a.0, omega (arith, e, f))

few_or_many : (nodes batches most count limit : ℕ) (x : What) → AreFew nodes batches most → AreTooMany nodes batches most x count limit → ⊥
few_or_many nodes batches most count limit what.Nodes h f = let a = h.0 in let b = f.2 in absurd (omega (arith, a, b))
few_or_many nodes batches most count limit what.Bytes h f = f
few_or_many nodes batches most count limit what.Batches h f = let a = h.1 in let b = f.3 in absurd (omega (arith, a, b))
few_or_many nodes batches most count limit what.Generations h f = f

one_full : (nodes batches most c l c' l' : ℕ) (x y : What) → AreTooMany nodes batches most x c l → AreTooMany nodes batches most y c' l' → error.Full x c l ≡ error.Full y c' l'
one_full nodes batches most c l c' l' what.Nodes what.Nodes f g = λ i. error.Full what.Nodes ((f.0 ∙ sym g.0) i) ((f.1 ∙ sym g.1) i)
one_full nodes batches most c l c' l' what.Nodes what.Bytes f g = absurd g
one_full nodes batches most c l c' l' what.Nodes what.Batches f g = let a = f.2 in let b = g.2 in absurd (omega (arith, a, b))
one_full nodes batches most c l c' l' what.Nodes what.Generations f g = absurd g
one_full nodes batches most c l c' l' what.Bytes y f g = absurd f
one_full nodes batches most c l c' l' what.Batches what.Nodes f g = let a = f.2 in let b = g.2 in absurd (omega (arith, a, b))
one_full nodes batches most c l c' l' what.Batches what.Bytes f g = absurd g
one_full nodes batches most c l c' l' what.Batches what.Batches f g = λ i. error.Full what.Batches ((f.0 ∙ sym g.0) i) ((f.1 ∙ sym g.1) i)
one_full nodes batches most c l c' l' what.Batches what.Generations f g = absurd g
one_full nodes batches most c l c' l' what.Generations y f g = absurd f

-- ---- each question

module _ (w : World) (most : ℕ) (a : Archive) where
  abbrev u : World
  u = alone a

  abbrev v : World
  v = applied w (imported w a)

  passes_or_fails : (q : Question) (e : ArchiveError) → Passes w most a q → Fails w most a q e → ⊥
  passes_or_fails links e h f = f.2.bad (h f.0 f.2.link f.2.stands)
  passes_or_fails processes e h f = good_or_bad u f.0 h f.2
  passes_or_fails results e h f = let no : None ≡ Some f.0 = one_least_disagreement u None (Some f.0) h f.2 in absurd (cc no)
  passes_or_fails values e h f = right_or_wrong u f.0 h f.2
  passes_or_fails chains e h f = chain_or_bad u f.0 h f.2
  passes_or_fails conflicts e h f = h f.0 f.1 f.3
  passes_or_fails room e h f = few_or_many (length v.nodes) v.batches most f.1 f.2 f.0 h f.4

  fails_one : (q : Question) (d e : ArchiveError) → Fails w most a q d → Fails w most a q e → d ≡ e
  fails_one links d e f g = f.1 ∙ ap (λ (n : ℕ). error.BadLink n) (one_bad_link _ a.links f.0 g.0 f.2 g.2) ∙ sym g.1
  fails_one processes d e f g = f.1 ∙ ap (λ (n : ℕ). error.BadNode n) (one_bad_process u f.0 g.0 f.2 g.2) ∙ sym g.1
  fails_one results d e f g =
      let same : Some f.0 ≡ Some g.0 = one_least_disagreement u (Some f.0) (Some g.0) f.2 g.2 in
      let p : f.0 ≡ g.0 = cc same in
      f.1 ∙ (λ i. error.Disagrees (p i).0 (p i).1) ∙ sym g.1
  fails_one values d e f g = f.1 ∙ ap (λ (n : ℕ). error.WrongValue n) (one_lowest_wrong u f.0 g.0 f.2 g.2) ∙ sym g.1
  fails_one chains d e f g = f.1 ∙ ap (λ (n : ℕ). error.WrongTree n) (one_bad_chain u f.0 g.0 f.2 g.2) ∙ sym g.1
  fails_one conflicts d e f g =
      let p = one_pair f.0 g.0 f.1 g.1 (f.4 g.0 g.1 g.3) (g.4 f.0 f.1 f.3) in
      f.2 ∙ (λ i. error.Conflict (p.0 i) (p.1 i)) ∙ sym g.2
  fails_one room d e f g = f.3 ∙ one_full (length v.nodes) v.batches most f.1 f.2 g.1 g.2 f.0 g.0 f.4 g.4 ∙ sym g.3

  one_refusal : (qs : List Question) (d e : ArchiveError) → IsFirstRefusal w most a qs d → IsFirstRefusal w most a qs e → d ≡ e
  one_refusal [] d e f g = absurd f
  one_refusal (q ∷ qs) d e (inl f) (inl g) = fails_one q d e f g
  one_refusal (q ∷ qs) d e (inl f) (inr g) = absurd (passes_or_fails q d g.0 f)
  one_refusal (q ∷ qs) d e (inr f) (inl g) = absurd (passes_or_fails q e f.0 g)
  one_refusal (q ∷ qs) d e (inr f) (inr g) = one_refusal qs d e f.1 g.1

  none_where_all : ((q : Question) → Passes w most a q) → (qs : List Question) (e : ArchiveError) → IsFirstRefusal w most a qs e → ⊥
  none_where_all h [] e f = f
  none_where_all h (q ∷ qs) e (inl f) = passes_or_fails q e (h q) f
  none_where_all h (q ∷ qs) e (inr f) = none_where_all h qs e f.1

  all_pass : IsImportable w most a → (q : Question) → Passes w most a q
  all_pass h links = h.links
  all_pass h processes = h.processes
  all_pass h results = h.results
  all_pass h values = h.values
  all_pass h chains = h.chains
  all_pass h conflicts = h.conflicts
  all_pass h room = h.room

pub refusals_are_one : RefusalsAreOne
refusals_are_one = record {
  one = λ w most a d e f g. one_refusal w most a questions d e f g;
  none = λ w most a e h f. none_where_all w most a (all_pass w most a h) questions e f;
}
