use Rattle.std.proofs.Common.{Option}
use Rattle.std.proofs.lemmas.Result.{IfOk-weaker}
use Rattle.wc_store.specs.declared.store.Store.{Store}
use Rattle.wc_store.specs.Opened.{IsOpenedOf}
use Rattle.wc_store.specs.Sights.{OfImages}
use Rattle.wc_store.specs.Stores.{IsLoadedOf}
use Rattle.wc_store.proofs.Made.{loaded_of}
use Rattle.wc_store.proofs.Parts.{where_read}
use Rattle.wc_store.proofs.store.Store.load.Goals as goal

pub returns-clause-parts : goal.returns-clause-parts
returns-clause-parts g c =
    where_read g.D.Disk g.met.D.Disk.only_now c.args.one.now c.args.two.now c.open.new.one c.open.new.two c.open.ensures.any_moment_one c.open.ensures.any_moment_two
    c.open.result (g.D.Disk.seen c.args.one.now) (g.D.Disk.seen c.args.two.now) c.open.ensures.seen_one c.open.ensures.seen_two c.open.ensures.durable_one c.open.ensures.durable_two

pub returns-clause-images : goal.returns-clause-images
returns-clause-images g c =
    let P : Option Store → Type 0 = λ found. OfImages g.D.Disk c.args.one.now c.args.two.now (IsOpenedOf found) in
    let Q : Option Store → Type 0 = λ found. OfImages g.D.Disk c.args.one.now c.args.two.now (IsLoadedOf found) in
    IfOk-weaker c.open.result P Q (λ found opened. loaded_of g.D.Disk c.args.one.now c.args.two.now found opened) c.open.ensures.images
