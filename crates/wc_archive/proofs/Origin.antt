-- Each process that came with an import is one of the archive.
use Rattle.std.proofs.Common.{◌≡◌, ℕ, suc, ◌+◌, ◌<◌, ◌≤◌, ◌==◌, Bool, true, false, List, [], ◌∷◌, Some, None, refl, sym, ap, ◌∙◌, arith}
use Rattle.std.specs.Prelude.{if◌then◌else◌}
use Rattle.std.proofs.lemmas.Bool.{eq-eqb, eqb-true, ne_eqb}
use Rattle.wc_state.specs.declared.record.ProcessRecord.{ProcessRecord}
use Rattle.wc_world.specs.Records.{find_record}
use Rattle.wc_archive_file.specs.declared.archive.ArchiveNode.{ArchiveNode}
use Rattle.wc_archive_file.specs.declared.archive.ArchiveNode.TheVariants as node
use Rattle.wc_archive_file.specs.declared.archive.ArchiveProcess.{ArchiveProcess}
use Rattle.wc_archive.specs.After.{ended_record, records_from}

-- The record is that of a process of the archive, whose own number is so much lower, and which is found by that among the archive's own.
pub record ComesFrom (batch library base at pid : ℕ) (ns : List ArchiveNode) (r : ProcessRecord) : Type 0 where
  pub number : ℕ
  pub process : ArchiveProcess
  pub raised : pid ≡ base + number
  pub is : r ≡ ended_record batch library (base + number) process
  pub from : at ≤ number
  pub own : find_record number (records_from 1 1 at ns) ≡ Some (ended_record 1 1 number process)

pub comes_from : (batch library base at first pid : ℕ) (ns : List ArchiveNode) (r : ProcessRecord) → first ≡ base + at
    → find_record pid (records_from batch library first ns) ≡ Some r → ComesFrom batch library base at pid ns r
comes_from batch library base at first pid [] r start h = absurd (cc h)
comes_from batch library base at first pid (node.Data v ∷ ns) r start h =
    let rest = comes_from batch library base (suc at) (suc first) pid ns r (omega (arith, start)) h in
    let le : suc at ≤ rest.number = rest.from in
    record { number = rest.number; process = rest.process; raised = rest.raised; is = rest.is; from = omega (arith, le); own = rest.own }
comes_from batch library base at first pid (node.Process p ∷ ns) r start h =
    by (first == pid) refl (comes_from batch library base (suc at) (suc first) pid ns r (omega (arith, start))) h
  where
    by : (b : Bool) → (first == pid) ≡ b → (find_record pid (records_from batch library (suc first) ns) ≡ Some r → ComesFrom batch library base (suc at) pid ns r)
        → (if b then Some (ended_record batch library first p) else find_record pid (records_from batch library (suc first) ns)) ≡ Some r
        → ComesFrom batch library base at pid (node.Process p ∷ ns) r
    by true is rest h =
        let e : first ≡ pid = eqb-true first pid is in
        let same : ended_record batch library first p ≡ r = cc h in
        record {
          number = at;
          process = p;
          raised = sym e ∙ start;
          is = sym same ∙ ap (λ (n : ℕ). ended_record batch library n p) start;
          from = omega arith;
          own = ap (λ (b : Bool). if b then Some (ended_record 1 1 at p) else find_record at (records_from 1 1 (suc at) ns)) (eq-eqb at at refl);
        }
    by false is rest h =
        let more = rest h in
        let le : suc at ≤ more.number = more.from in
        let no : (at == more.number) ≡ false = ne_eqb at more.number (λ e. absurd (omega (arith, le, e))) in
        record {
          number = more.number;
          process = more.process;
          raised = more.raised;
          is = more.is;
          from = omega (arith, le);
          own = ap (λ (b : Bool). if b then Some (ended_record 1 1 at p) else find_record more.number (records_from 1 1 (suc at) ns)) no ∙ more.own;
        }

-- no process has a lower number
pub none_below : (batch library first pid : ℕ) (ns : List ArchiveNode) → pid < first → find_record pid (records_from batch library first ns) ≡ None
none_below batch library first pid [] lt = refl
none_below batch library first pid (node.Data v ∷ ns) lt = none_below batch library (suc first) pid ns (omega (arith, lt))
none_below batch library first pid (node.Process p ∷ ns) lt =
    ap (λ (b : Bool). if b then Some (ended_record batch library first p) else find_record pid (records_from batch library (suc first) ns)) (ne_eqb first pid (λ e. absurd (omega (arith, lt, e))))
    ∙ none_below batch library (suc first) pid ns (omega (arith, lt))
