use Rattle.std.proofs.Common.{◌≡◌, ◌++◌, ◌∷◌, ℕ, List, [], length, ap, ◌∙◌, arith}
use Rattle.std.proofs.lemmas.Grind.{common_steps}
use Rattle.std.proofs.lemmas.List.{append_assoc}
use Rattle.wc_matches.specs.Places.{rows_of}
use Rattle.wc_matches.proofs.Placed.{rows_more}
use Rattle.wc_matches.proofs.rows.Rows.push.Goals as goal

pub returns : goal.returns
returns c =
    let numbers = c.self.inside.numbers.items in
    let all = c.push.new.self.items in
    let row = c.args.row.now ++ c.args.number ∷ [] in
    let is : all ≡ numbers ++ row =
    c.in_ok-push.ensures.items ∙ ap (λ (xs : List ℕ). xs ++ c.args.number ∷ []) c.in_ok-extend_from_slice.ensures.items ∙ append_assoc numbers c.args.row.now (c.args.number ∷ []) in
    let from : c.len-from.result ≡ length numbers = grind (arith, common_steps) in
    let to : c.len-to.result ≡ length all = grind (arith, common_steps) in
    record {
      ok = ap (rows_of all) c.in_ok-push-2.ensures.items
          ∙ rows_more numbers all row c.self.inside.places.items _ c.self.invariant is from to
          ∙ ap (λ (rs : List (List ℕ)). rs ++ row ∷ []) c.self.view_is;
    }
