use Rattle.std.proofs.Common.{ℕ, List, Some, refl, subst, ◌∙◌}
use Rattle.wc_verify.specs.Firsts.{FitsFirst, first_named}
use Rattle.wc_verify.proofs.Noting.{anew, fits_none, fits_some, noted_again}
use Rattle.wc_verify.proofs.firsts.Firsts.note.Goals as goal

fits : (c : goal.After-drop-request) → FitsFirst c.args.given (first_named c.args.request.items c.args.self.now.by_request) c.first_of.result
fits c = subst (λ (k : List ℕ). FitsFirst c.args.given (first_named k c.args.self.now.by_request) c.first_of.result) c.as_slice.ensures.value c.first_of.ensures

fits_default : (c : goal.Joined-branch-2) → FitsFirst c.args.given (first_named c.args.request.items c.args.self.now.by_request) c.first_of.result
fits_default c = subst (λ (k : List ℕ). FitsFirst c.args.given (first_named k c.args.self.now.by_request) c.first_of.result) c.as_slice.ensures.value c.first_of.ensures

pub returns-in_default : goal.returns-in_default
returns-in_default c = λ seen below h.
    anew seen (record { pid = c.args.pid; asked = c.args.request.items; result = c.args.given }) c.args.self.now _ c.args.request (record { pid = c.args.pid; result = c.args.given }) below h refl refl
    (fits_none c.args.given (first_named c.args.request.items c.args.self.now.by_request) c.first_of.result (fits_default c) c.in_default.is) c.in_ok-insert.ensures.entries refl

pub returns : goal.returns
returns c = λ seen below h.
    noted_again seen (record { pid = c.args.pid; asked = c.args.request.items; result = c.args.given }) c.args.self.now _ c.in-Some.first c.in-Some.same below h
    (fits_some c.args.given (first_named c.args.request.items c.args.self.now.by_request) c.first_of.result c.in-Some.first c.in-Some.same (fits c)
    (c.in-Some.is ∙ (λ i. Some (c.in-Some.first-is i, c.in-Some.same-is i))))
    refl c.least_after-self.ensures
