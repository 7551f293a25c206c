use Rattle.std.proofs.Common.{◌≡◌, ℕ, ◌+◌, ◌-◌, ◌<◌, ◌∙◌, [], ◌∷◌, ◌++◌, length, List, ap, sym, subst, arith}
use Rattle.std.specs.Prelude.{All}
use Rattle.std.proofs.lemmas.List.{length-append}
use Rattle.wc_state.specs.declared.record.ProcessRecord.{ProcessRecord}
use Rattle.wc_records.specs.Changes.{made}
use Rattle.wc_records.specs.Ascending.{AreAscending}
use Rattle.wc_records.specs.Readiness.{is_ready}
use Rattle.wc_records.specs.Index.{IsIndexOf, HasPlaces}
use Rattle.wc_records.proofs.Halving.{ascending_push}
use Rattle.wc_records.proofs.Chosen.{chosen_short}
use Rattle.wc_records.proofs.Setting.{passed_length}
use Rattle.wc_records.proofs.Growing.{index_more}
use Rattle.wc_records.proofs.records.Records.push.Goals as goal

pub push-requires-clause-at_once : goal.push-requires-clause-at_once
push-requires-clause-at_once c =
    let rs = c.self.inside.items.items in
    let x = c.self.inside.index in
    omega (arith, ap length c.self.invariant.1.at_once, chosen_short (is_ready rs 0) rs, passed_length rs x c.self.invariant.1)

pub invariant_of-self : goal.invariant_of-self
invariant_of-self c =
    let rs = c.self.inside.items.items in
    let x = c.self.inside.index in
    let room = c.self.inside.room in
    let new = made c.args.number c.args.process in
    let e : c.push_reserved.new.self.items ≡ rs ++ new ∷ [] = c.push_reserved.ensures.items ∙ ap (λ (r : ProcessRecord). rs ++ r ∷ []) c.make.ensures in
    let n : length c.push_reserved.new.self.items ≡ length rs + 1 = ap length e ∙ length-append rs (new ∷ []) in
    let some : room ≡ c.args.self.now.1 = ap (λ (p : List ProcessRecord × ℕ). p.1) c.self.view_is in
    let below = subst (λ (qs : List ProcessRecord). All (λ (r : ProcessRecord). r.node < c.args.number) qs) (sym (ap (λ (p : List ProcessRecord × ℕ). p.0) c.self.view_is)) c.requires.above in
    let same : length rs + room ≡ length c.push_reserved.new.self.items + (room - 1) = omega (arith, n, some, c.requires.room) in (
      subst (λ (qs : List ProcessRecord). AreAscending 0 qs) (sym e) (ascending_push 0 rs new c.requires.number below c.self.invariant.0),
      subst (λ (qs : List ProcessRecord). IsIndexOf qs c.push.new.self) (sym e)
          (index_more rs c.args.number c.args.process x c.push.new.self c.self.invariant.1 c.push.ensures.passed c.push.ensures.at_once c.push.ensures.later c.push.ensures.live),
      omega (arith, same, c.self.invariant.2, c.push_reserved.ensures.capacity),
      subst (λ (k : ℕ). HasPlaces k c.push.new.self) same (c.push.ensures.kept (length rs + room) c.self.invariant.3),
    )
