use Rattle.std.proofs.Common.{inl, inr, ⊎_elim}
use Rattle.wc_world.proofs.Outcomes.{ok_weaker, err_weaker}
use Rattle.wc_world.proofs.draft.Draft.take.Goals as goal

pub returns-in-Library-clause-fits : goal.returns-in-Library-clause-fits
returns-in-Library-clause-fits c = rw c.in-Library.is (ok_weaker c.take_library.result _ _ (λ h s told. h s) c.take_library.ensures.fits)

pub returns-in-Library-clause-world : goal.returns-in-Library-clause-world
returns-in-Library-clause-world c = rw c.in-Library.is (ok_weaker c.take_library.result _ _ (λ h. h c.args.terms.now.batch) c.take_library.ensures.world)

pub returns-in-Library-clause-refused : goal.returns-in-Library-clause-refused
returns-in-Library-clause-refused c =
    rw c.in-Library.is (err_weaker c.take_library.result _ _ (λ e h. ⊎_elim (λ memory. inl memory) (λ other. inr (λ s told. other s)) h) c.take_library.ensures.refused)

pub returns-in-Data-clause-fits : goal.returns-in-Data-clause-fits
returns-in-Data-clause-fits c = rw c.in-Data.is (ok_weaker c.take_data.result _ _ (λ h s told. h s) c.take_data.ensures.fits)

pub returns-in-Data-clause-world : goal.returns-in-Data-clause-world
returns-in-Data-clause-world c = rw c.in-Data.is (ok_weaker c.take_data.result _ _ (λ h. h c.args.terms.now.batch) c.take_data.ensures.world)

pub returns-in-Data-clause-refused : goal.returns-in-Data-clause-refused
returns-in-Data-clause-refused c =
    rw c.in-Data.is (err_weaker c.take_data.result _ _ (λ e h. ⊎_elim (λ memory. inl memory) (λ other. inr (λ s told. other s)) h) c.take_data.ensures.refused)

pub returns-in-Process-clause-fits : goal.returns-in-Process-clause-fits
returns-in-Process-clause-fits c = rw c.in-Process.is (ok_weaker c.take_process.result _ _ (λ h s told. h s) c.take_process.ensures.fits)

pub returns-in-Process-clause-world : goal.returns-in-Process-clause-world
returns-in-Process-clause-world c = rw c.in-Process.is (ok_weaker c.take_process.result _ _ (λ h. h c.args.terms.now.batch) c.take_process.ensures.world)

pub returns-in-Process-clause-refused : goal.returns-in-Process-clause-refused
returns-in-Process-clause-refused c =
    rw c.in-Process.is (err_weaker c.take_process.result _ _ (λ e h. ⊎_elim (λ memory. inl memory) (λ other. inr (λ s told. other s)) h) c.take_process.ensures.refused)

pub returns-in-Link-clause-fits : goal.returns-in-Link-clause-fits
returns-in-Link-clause-fits c = rw c.in-Link.is (ok_weaker c.take_link.result _ _ (λ h s told. h s) c.take_link.ensures.fits)

pub returns-in-Link-clause-world : goal.returns-in-Link-clause-world
returns-in-Link-clause-world c = rw c.in-Link.is (ok_weaker c.take_link.result _ _ (λ h. h c.args.terms.now.batch) c.take_link.ensures.world)

pub returns-in-Link-clause-refused : goal.returns-in-Link-clause-refused
returns-in-Link-clause-refused c =
    rw c.in-Link.is (err_weaker c.take_link.result _ _ (λ e h. ⊎_elim (λ memory. inl memory) (λ other. inr (λ s told. other s)) h) c.take_link.ensures.refused)

pub returns-in-Library-clause-sets : goal.returns-in-Library-clause-sets
returns-in-Library-clause-sets c = rw c.in-Library.is (ok_weaker c.take_library.result _ _ (λ h. tt) c.take_library.ensures.world)

pub returns-in-Data-clause-sets : goal.returns-in-Data-clause-sets
returns-in-Data-clause-sets c = rw c.in-Data.is (ok_weaker c.take_data.result _ _ (λ h. tt) c.take_data.ensures.world)

pub returns-in-Process-clause-sets : goal.returns-in-Process-clause-sets
returns-in-Process-clause-sets c = rw c.in-Process.is (ok_weaker c.take_process.result _ _ (λ h. tt) c.take_process.ensures.world)

pub returns-in-Link-clause-sets : goal.returns-in-Link-clause-sets
returns-in-Link-clause-sets c = rw c.in-Link.is (ok_weaker c.take_link.result _ _ (λ h. tt) c.take_link.ensures.world)

pub returns-in-Count-clause-sets : goal.returns-in-Count-clause-sets
returns-in-Count-clause-sets c = rw c.in-Count.is (ok_weaker c.take_count.result _ _ (λ h. tt) c.take_count.ensures.world)

pub returns-in-Kept-clause-sets : goal.returns-in-Kept-clause-sets
returns-in-Kept-clause-sets c = rw c.in-Kept.is (ok_weaker c.take_kept.result _ _ (λ h. tt) c.take_kept.ensures.world)
