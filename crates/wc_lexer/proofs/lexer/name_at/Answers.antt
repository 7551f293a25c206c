use Rattle.std.proofs.Common.{◌≡◌, Ok, drop, ap, sym, ◌∙◌}
use Rattle.std.specs.List.{take_while}
use Rattle.wc_lexer.specs.Tokens.{is_in_name, named}
use Rattle.wc_lexer.proofs.Places.{run_passes, run_is}
use Rattle.wc_lexer.proofs.lexer.name_at.Goals as goal

pub named-requires : goal.named-requires
named-requires c = run_passes is_in_name c.args.bytes.now c.args.at _ c.run_end-end.ensures.value

pub returns-clause-value : goal.returns-clause-value
returns-clause-value c =
    let t : c.in_ok-token.token ≡ named (take_while is_in_name (drop c.args.at c.args.bytes.now))
    = c.in_ok-token.ensures ∙ ap named (run_is is_in_name c.args.bytes.now c.args.at _ c.run_end-end.ensures.value) in
    λ i. Ok (sym t i, sym c.run_end-end.ensures.value i)
