use Rattle.std.proofs.Common.{◌≡◌, ℕ, ◌+◌, List, ◌++◌, length, take, drop, ◌∙◌, ap, sym, subst, refl, arith}
use Rattle.std.proofs.lemmas.Grind.{common_steps}
use Rattle.wc_verify.specs.Following.{AreFar, IsWithin, IsSettled, GoesDown}
use Rattle.wc_verify.proofs.Leaping.{first_far, are_lasts, settled_last, ranked_last}
use Rattle.wc_verify.proofs.ends.lasts_of.Goals as goal

pub loop-round-init : goal.loop-round-init
loop-round-init c = record { size = refl; within = c.requires.within; far = λ rank g. first_far c.args.table.items c.args.most rank g }

abbrev Kept : List ℕ → ℕ → ℕ → List ℕ → Type 0
Kept first most k table = record {
  size : length table ≡ length first;
  within : IsWithin table;
  far : (rank : ℕ → ℕ) → GoesDown most rank first → AreFar first rank k table;
}

pub loop-round-preserved : goal.loop-round-preserved
loop-round-preserved c =
    let old = c.loop-round.leaps.items in
    let new = c.leap.new.table in
    let i = c.loop-round.invariant in
    let was : c.deref_mut.result.now ≡ old = c.deref_mut.ensures.value in
    let len : length new ≡ c.loop-round.leaps.len = c.leap.ensures.size ∙ c.deref_mut.ensures.len in
    let e : take c.loop-round.leaps.len (new ++ drop (length new) old) ≡ new = grind (arith, common_steps) in
    subst (Kept c.args.table.items c.args.most (c.loop-round._round + 1)) (sym e) record {
      size = c.leap.ensures.size ∙ ap length was ∙ i.size;
      within = c.leap.ensures.within;
      far = λ rank g. c.leap.ensures.far c.args.table.items rank c.loop-round._round (subst (AreFar c.args.table.items rank c.loop-round._round) (sym was) (i.far rank g));
    }

pub leap-requires : goal.leap-requires
leap-requires c = subst IsWithin (sym c.deref_mut.ensures.value) c.loop-round.invariant.within

pub is_settled-requires : goal.is_settled-requires
is_settled-requires c = subst IsWithin (sym c.deref.ensures.value) c.loop-round.invariant.within

pub returns-then-is_settled : goal.returns-then-is_settled
returns-then-is_settled c =
    let first = c.args.table.items in
    let table = c.loop-round.leaps.items in
    let i = c.loop-round.invariant in
    let far = i.far c.requires.rank c.requires.goes in
    let settled : IsSettled table = subst IsSettled c.deref.ensures.value (c.is_settled.ensures c.if-is_settled.true) in
    are_lasts first table c.requires.rank c.loop-round._round i.size far i.within (settled_last first table c.requires.rank c.loop-round._round far i.within settled)

pub returns : goal.returns
returns c =
    let first = c.args.table.items in
    let table = c.loop-round.leaps.items in
    let i = c.loop-round.invariant in
    let far = i.far c.requires.rank c.requires.goes in
    let all : c.loop-round._round ≡ c.args.most = omega arith in
    are_lasts first table c.requires.rank c.loop-round._round i.size far i.within
    (ranked_last first table c.args.most c.requires.rank c.requires.goes (subst (λ (k : ℕ). AreFar first c.requires.rank k table) all far))
