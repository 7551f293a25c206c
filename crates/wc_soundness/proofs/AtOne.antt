-- Records, of which that of one process is put through a function.
use Rattle.std.proofs.Common.{◌≡◌, ◌≢◌, ℕ, Option, Some, None, List, refl, sym, ap, ◌∙◌}
use Rattle.std.specs.Prelude.{◌==◌, option_map}
use Rattle.std.proofs.lemmas.Bool.{cond-true, cond-false, eq-eqb, ne_eqb}
use Rattle.wc_state.specs.declared.record.ProcessRecord.{ProcessRecord}
use Rattle.wc_world.specs.Records.{find_record, at_process}
use Rattle.wc_world.proofs.ReachedLists.{at_one, at_one_keeps, find_mapped, found_node}

module _ (pid : ℕ) (f : ProcessRecord → ProcessRecord) (keeps : (r : ProcessRecord) → (f r).node ≡ r.node) (rs : List ProcessRecord) where
  mapped : (q : ℕ) → find_record q (at_process pid f rs) ≡ option_map (at_one pid f) (find_record q rs)
  mapped q = find_mapped (at_one pid f) (at_one_keeps (λ (x : ProcessRecord). x.node) f keeps pid) q rs

  -- another process is found as before
  pub found_other : (q : ℕ) → pid ≢ q → find_record q (at_process pid f rs) ≡ find_record q rs
  found_other q ne = mapped q ∙ at (find_record q rs) refl
    where
      at : (o : Option ProcessRecord) → find_record q rs ≡ o → option_map (at_one pid f) o ≡ o
      at None is = refl
      at (Some x) is =
          ap (λ (y : ProcessRecord). Some y) (cond-false (x.node == pid) (f x) x (ne_eqb x.node pid (λ e. ne (sym e ∙ found_node q rs x is))))

  pub found_one : (r : ProcessRecord) → r.node ≡ pid → find_record pid rs ≡ Some r → find_record pid (at_process pid f rs) ≡ Some (f r)
  found_one r is found =
      mapped pid ∙ ap (option_map (at_one pid f)) found ∙ ap (λ (y : ProcessRecord). Some y) (cond-true (r.node == pid) (f r) r (eq-eqb r.node pid is))
