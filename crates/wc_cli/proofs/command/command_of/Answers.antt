use Rattle.std.proofs.Common.{◌≡◌, ◌∙◌, true, List, ℕ, map, ap, subst}
use Rattle.std.specs.List.{list_all}
use Rattle.std.specs.Str.{is_utf8}
use Rattle.wc_cli.proofs.Read.{met_is, none_is}
use Rattle.wc_cli.proofs.command.command_of.Goals as goal

pub returns-in-Some : goal.returns-in-Some
returns-in-Some c =
    met_is c.args.words.now _ c.in_ok-matches.field-0 c.in-Some.matches c.command_met.result (ap (map (λ w. w.now)) c.as_slice-2.ensures.value ∙ c.in_ok-texts.ensures.value ∙ c.as_slice.ensures)
    (subst (λ (ws : List (List ℕ)). list_all is_utf8 ws ≡ true) c.as_slice.ensures c.in_ok-texts.ensures.utf8) c.in_ok-matches.ensures c.in-Some.is c.command_met.ensures

pub returns : goal.returns
returns c =
    none_is c.args.words.now _ c.in_ok-matches.field-0 (ap (map (λ w. w.now)) c.as_slice-2.ensures.value ∙ c.in_ok-texts.ensures.value ∙ c.as_slice.ensures)
    (subst (λ (ws : List (List ℕ)). list_all is_utf8 ws ≡ true) c.as_slice.ensures c.in_ok-texts.ensures.utf8) c.in_ok-matches.ensures c.in-None.is
