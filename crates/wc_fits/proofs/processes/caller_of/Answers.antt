use Rattle.std.proofs.Common.{◌≡◌, ℕ, ◌-◌, ◌<◌, ◌≤◌, ◌∙◌, Some, List, length, get_or, drop, ap, sym, subst, true, arith}
use Rattle.wc_graph.specs.declared.link.Link.{Link}
use Rattle.wc_fits.specs.Records.{has_called}
use Rattle.wc_fits.proofs.LinkWalks.{no_call_first, no_call_next, call_at, from_nobody, one_caller}
use Rattle.wc_fits.proofs.processes.caller_of.Goals as goal

pub loop-at-init : goal.loop-at-init
loop-at-init c =
    let links = c.args.graph.now.links in
    let pid = c.args.pid in
    let at = c.last_into-at.result in
    let same : c.as_slice-links.result.now ≡ links = c.as_slice-links.ensures ∙ ap (λ (p : List Link × ℕ). p.0) c.links.ensures.value in
    record {
      within = omega (arith, c.last_into-at.ensures.within, ap length same);
      none = λ caller. ap (λ (ls : List Link). has_called (drop at ls) caller pid) same ∙ no_call_first caller pid links at c.last_into-at.ensures;
    }

pub loop-at-preserved : goal.loop-at-preserved
loop-at-preserved c =
    let links = c.args.graph.now.links in
    let pid = c.args.pid in
    let at = c.loop-at.at in
    let next = c.before_into-at.result in
    let l = c.index-links-at.result in
    let same : c.as_slice-links.result.now ≡ links = c.as_slice-links.ensures ∙ ap (λ (p : List Link × ℕ). p.0) c.links.ensures.value in
    let some : 0 < at = c.loop-at-test.true in
    let few : at ≤ length links = omega (arith, c.loop-at.invariant.within, ap length same) in
    let read : l ≡ get_or links (at - 1) l = c.index-links-at.is ∙ ap (λ (ls : List Link). get_or ls (at - 1) l) same in
    record {
      within = omega (arith, c.before_into-at.ensures.within, c.loop-at.invariant.within);
      none = λ caller. ap (λ (ls : List Link). has_called (drop next ls) caller pid) same
          ∙ no_call_next caller pid links at next l some few read (from_nobody caller pid l (sym c.is_call_between.ensures ∙ c.if-is_call_between.false)) c.before_into-at.ensures
          (sym (ap (λ (ls : List Link). has_called (drop at ls) caller pid) same) ∙ c.loop-at.invariant.none caller);
    }

pub returns-then-is_call_between : goal.returns-then-is_call_between
returns-then-is_call_between c =
    let links = c.args.graph.now.links in
    let at = c.loop-at.at in
    let l = c.index-links-at.result in
    let same : c.as_slice-links.result.now ≡ links = c.as_slice-links.ensures ∙ ap (λ (p : List Link × ℕ). p.0) c.links.ensures.value in
    let some : 0 < at = c.loop-at-test.true in
    let few : at - 1 < length links = omega (arith, some, c.loop-at.invariant.within, ap length same) in
    let read : l ≡ get_or links (at - 1) l = c.index-links-at.is ∙ ap (λ (ls : List Link). get_or ls (at - 1) l) same in
    let is = sym c.is_call_between.ensures ∙ c.if-is_call_between.true in
    λ caller. (
      λ found. let source : l.source ≡ caller = cc in
          subst (λ (n : ℕ). has_called links n c.args.pid ≡ true) source (call_at l.source c.args.pid links (at - 1) l few read is),
      λ called. ap (λ (n : ℕ). Some n) (one_caller caller c.args.pid c.args.graph.now.nodes links (at - 1) l c.links.ensures.correct few read is called),
    )
