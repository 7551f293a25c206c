use Rattle.std.proofs.Common.{◌≡◌, inr, subst}
use Rattle.std.specs.Prelude.{IfErr, IfOk, Some}
use Rattle.wc_world.specs.Records.{find_record}
use Rattle.wc_subworlds.proofs.Found.{found_itself}
use Rattle.wc_subworlds.proofs.Parts.{its_number}
use Rattle.wc_archive.specs.Exports.{Exports}
use Rattle.wc_archive.proofs.Exporting.{memory_or_refused, refused_root, refuses_root}
use Rattle.wc_archive.proofs.exported.exported.Goals as goal

pub exported_root-requires-clause-found : goal.exported_root-requires-clause-found
exported_root-requires-clause-found c =
    let w = c.args.world.now.world in
    let found : find_record c.args.pid w.records ≡ Some c.in-Ok.root.now = subst (λ r. IfOk r (λ x. find_record c.args.pid w.records ≡ Some x.now)) c.in-Ok.is c.root_of.ensures.found in
    found_itself c.args.pid w c.in-Ok.root.now found

pub exported_root-requires-clause-is_root : goal.exported_root-requires-clause-is_root
exported_root-requires-clause-is_root c = subst (λ r. IfOk r (λ x. x.now.depth ≡ 1)) c.in-Ok.is c.root_of.ensures.is_root

pub returns-in-Ok-clause-exports : goal.returns-in-Ok-clause-exports
returns-in-Ok-clause-exports c =
    let w = c.args.world.now.world in
    let found : find_record c.args.pid w.records ≡ Some c.in-Ok.root.now = subst (λ r. IfOk r (λ x. find_record c.args.pid w.records ≡ Some x.now)) c.in-Ok.is c.root_of.ensures.found in
    subst (λ n. IfOk c.exported_root.result (Exports w n)) (its_number c.args.pid w.records c.in-Ok.root.now found) c.exported_root.ensures.exports

pub returns-in-Ok-clause-refused : goal.returns-in-Ok-clause-refused
returns-in-Ok-clause-refused c =
    let w = c.args.world.now.world in
    let found : find_record c.args.pid w.records ≡ Some c.in-Ok.root.now = subst (λ r. IfOk r (λ x. find_record c.args.pid w.records ≡ Some x.now)) c.in-Ok.is c.root_of.ensures.found in
    subst (λ n. IfErr c.exported_root.result (memory_or_refused w n)) (its_number c.args.pid w.records c.in-Ok.root.now found) c.exported_root.ensures.refused

pub returns-in-Err-clause-refused : goal.returns-in-Err-clause-refused
returns-in-Err-clause-refused c =
    let w = c.args.world.now.world in
    inr (refuses_root w c.args.pid c.in-Err.error (subst (λ r. IfErr r (refused_root w c.args.pid)) c.in-Err.is c.root_of.ensures.refused))
