-- The library with the chain added has a printed text that reads back, and is a checked library.
use Rattle.std.proofs.Common.{◌≡◌, ◌∙◌, ap, sym, subst, ℕ, ◌+◌, ◌<◌, ◌≤◌, Bool, true, false, List, [], ◌∷◌, ◌++◌, map, length, None, Result, Ok, append-nil, arith}
use Rattle.std.proofs.lemmas.Grind.{flat_map-append}
use Rattle.wc_lexer.specs.declared.error.LexError.{LexError}
use Rattle.wc_lexer.specs.Tokens.{tokens_of}
use Rattle.wc_handlers.specs.Specs.{IsHandler, IsSpec}
use Rattle.wc_handlers.specs.declared.spec.Spec.{Spec}
use Rattle.wc_syntax.specs.Bare.{bare_library}
use Rattle.wc_syntax.specs.Checked.{KeepsRules}
use Rattle.wc_syntax.specs.Printing.{printed}
use Rattle.wc_syntax.specs.Writable.{IsWritable, is_sayable}
use Rattle.wc_syntax.proofs.Bared.{printed_bare}
use Rattle.wc_syntax.specs.declared.definition.Definition.{Definition}
use Rattle.wc_syntax.specs.declared.definition.Definition.TheVariants as definition
use Rattle.wc_grammar.specs.Rules.{Tok}
use Rattle.wc_reader.proofs.Nesting.{names_first}
use Rattle.wc_parser.specs.Parsing.{TextSays}
use Rattle.wc_parser.specs.PrintedTokens.{definition_tokens, printed_tokens}
use Rattle.wc_parser.proofs.LexedLibraries.{printed_lexes}
use Rattle.wc_parser.proofs.ReadBack.{reads_back}
use Rattle.wc_parser.proofs.Walks.{Flat, flat_append, nowhere, anywhere, lean_of, flat_too}
use Rattle.wc_parser.proofs.Writable.{files_are_writable}
use Rattle.wc_check.proofs.BareFindings.{rules_forget_offsets}
use Rattle.wc_restart.specs.Chains.{chain_of, expanded}
use Rattle.wc_expansion.proofs.CalmChains.{chain_calm}
use Rattle.wc_expansion.proofs.Carried.{libraries_carry}
use Rattle.wc_expansion.proofs.Known.{Known}
use Rattle.wc_expansion.proofs.Olds.{kept_more}
use Rattle.wc_expansion.proofs.Ruled.{chain_checked}
use Rattle.wc_expansion.proofs.Sayable.{expanded_said}
use Rattle.wc_expansion.proofs.Sorted.{sorted_all}

same_tokens : (ts us : List Tok) (r : Result (List Tok) LexError) → r ≡ Ok ts → r ≡ Ok us → ts ≡ us
same_tokens ts us r h k = let e : (let x : Result (List Tok) LexError = Ok ts in x) ≡ Ok us = sym h ∙ k in cc

-- libraries that differ in offsets alone have the same tokens
same_printed : (a b : List Definition) → is_sayable a ≡ true → is_sayable b ≡ true → bare_library a ≡ bare_library b → printed_tokens a ≡ printed_tokens b
same_printed a b h k e =
    let l = printed_lexes a h in
    let m = printed_lexes b k in
    let t : printed a ≡ printed b = sym (printed_bare a) ∙ ap printed e ∙ printed_bare b in
    sym l.2 ∙ ap (map (λ x. x.0)) (same_tokens l.0 m.0 (tokens_of (printed a)) l.1 (ap tokens_of t ∙ m.1)) ∙ m.2

-- The tokens of a writable library, with calm ones behind them, stay within the bounds.
flat_behind : (library : List Definition) → IsWritable library → (J : ℕ → ℕ → ℕ → Bool → Type 0) → J 0 0 0 false → Flat (printed_tokens library) J 0 0 0 false
flat_behind library w J j =
    let r = reads_back library w in
    let other = r.0 in
    let text = r.1.0 in
    let t = text.0 in
    let v : IsWritable other = files_are_writable (printed library) other r.1 in
    let carries = (libraries_carry text.2.0).by t other text.2.1 in
    let few : 0 ≤ 24 = omega arith in
    subst (λ z. Flat z J 0 0 0 false) (same_printed other library v.sayable w.sayable r.2) (carries nowhere J 0 few (λ x. j) (lean_of t text.1.flat))

module _ (library : List Definition) (s : Spec) (w : IsWritable library) (i : IsSpec s) (x : Known library s) where
  tokens_flat : Flat (printed_tokens (expanded library s)) anywhere 0 0 0 false
  tokens_flat =
      let chain = definition_tokens (definition.Chain (chain_of library s)) in
      let few : 0 + 5 ≤ 24 = omega arith in
      let behind : Flat (chain ++ []) anywhere 0 0 0 false = subst (λ z. Flat z anywhere 0 0 0 false) (sym (append-nil chain)) ((chain_calm library s (sorted_all IsHandler s.handlers i.handlers)).flat anywhere 0 few tt) in
      subst (λ z. Flat z anywhere 0 0 0 false) (sym (flat_map-append definition_tokens library (definition.Chain (chain_of library s) ∷ [])))
      (flat_append (printed_tokens library) (chain ++ []) anywhere 0 0 0 false (flat_behind library w (Flat (chain ++ []) anywhere) behind))

  -- The printed text of the library with the chain reads back, where it isn't too long.
  pub expanded_writable : length (printed (expanded library s)) ≤ 1048576 → IsWritable (expanded library s)
  expanded_writable short =
      let said = expanded_said library s w.sayable i x in
      let l = printed_lexes (expanded library s) said in
      record {
        sayable = said;
        flat = (l.0, l.1, (names_first l.0 None).0 (flat_too l.0 (subst (λ z. Flat z anywhere 0 0 0 false) (sym l.2) tokens_flat)));
        short = short;
      }

  -- The library with the chain keeps the rules.
  pub expanded_kept : KeepsRules library → length library < 64 → KeepsRules (expanded library s)
  expanded_kept k few = kept_more library (definition.Chain (chain_of library s)) k x.free few (chain_checked library s k i x)

  -- What is read of its text says the same, and is a checked library.
  pub read_back : KeepsRules library → length library < 64 → length (printed (expanded library s)) ≤ 1048576
      → (other : List Definition) × TextSays (printed (expanded library s)) (Ok other) × (bare_library other ≡ bare_library (expanded library s)) × KeepsRules other
  read_back k few short =
      let r = reads_back (expanded library s) (expanded_writable short) in
      (r.0, r.1, r.2, rules_forget_offsets (expanded library s) r.0 (sym r.2) (expanded_kept k few))
