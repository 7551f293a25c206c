-- The tokens of a printed outline.
use Rattle.std.proofs.Common.{◌≡◌, ℕ, List, [], ◌∷◌, ◌++◌, Bool, true, false, Option, Some, None, map, refl, sym, ap, ◌∙◌, subst, append_assoc}
use Rattle.std.specs.Prelude.{◌&&◌, codes, flat_map}
use Rattle.std.specs.List.{list_all}
use Rattle.std.proofs.lemmas.Bool.{and_parts}
use Rattle.wc_lexer.specs.declared.token.Token.{Token}
use Rattle.wc_lexer.specs.declared.token.Word.{Word}
use Rattle.wc_lexer.specs.declared.token.Word.TheVariants as word
use Rattle.wc_lexer.specs.declared.token.Symbol.TheVariants as symbol
use Rattle.wc_lexer.specs.Spellings.{word_text}
use Rattle.wc_syntax.specs.declared.expression.Expr.{Expr}
use Rattle.wc_syntax.specs.declared.expression.Number.{Number}
use Rattle.wc_syntax.specs.declared.outline.Block.{Block, Block-F, roll-Block, ind-Block, fold-roll-Block}
use Rattle.wc_syntax.specs.declared.outline.Arm.{Arm, Arm-F, roll-Arm, fold-Arm, fold-roll-Arm}
use Rattle.wc_syntax.specs.declared.outline.Instr.{Instr, roll-Instr, map-Instr, fold-Instr, fold-roll-Instr}
use Rattle.wc_syntax.specs.declared.outline.Instr.TheOpen.{Instr-F}
use Rattle.wc_syntax.specs.Printing.{number_text, expr_text, deeper, line, Lines, Branch, branch_lines, branches_lines}
use Rattle.wc_syntax.specs.Printing.{if_lines, else_lines, returned_text, instr_level_lines, arm_level_lines, block_level_lines, instr_lines, arm_branch, block_lines}
use Rattle.wc_syntax.specs.Writable.{is_expr, is_returned, are_arms, is_instr, is_arm, is_level, is_block}
use Rattle.wc_parser.specs.PrintedTokens.{sign, reserved, number, expr_tokens, in_braces, branches_tokens, else_tokens}
use Rattle.wc_parser.specs.PrintedTokens.{returned_tokens, instr_level_tokens, arm_level_tokens, block_level_tokens, instr_tokens, arm_tokens, block_tokens}
use Rattle.wc_parser.proofs.LexedPieces.{Reads, retold, pieces, nothing}
use Rattle.wc_parser.proofs.LexedWords.{word_reads, sign_reads}
use Rattle.wc_parser.proofs.LexedLiterals.{number_reads}
use Rattle.wc_parser.proofs.LexedForms.{spaced_word, before_space}
use Rattle.wc_parser.proofs.LexedExpressions.{expr_reads}
use Rattle.wc_parser.proofs.LexedLines.{is_margin, line_reads, semi, brace_reads, closing_line, step_reads}

-- What is said of lines holds: then they have these tokens, behind each margin.
pub record Lined (lines : Lines) (spelled : List Token) (holds : Bool) : Type 0 where
  pub lays : holds ≡ true → (margin rest : List ℕ) → is_margin margin ≡ true → Reads (lines margin) spelled rest

-- A branch: its condition, the lines in its block, and the tokens of both.
pub record Branched (branch : Branch) (spelled : List Token) (holds : Bool) : Type 0 where
  pub condition : Expr
  pub block : List Token
  pub splits : spelled ≡ expr_tokens condition ++ in_braces block
  pub asks : branch.0 ≡ expr_text condition
  pub says : holds ≡ true → is_expr condition ≡ true
  pub inside : Lined branch.1 block holds

relined : (a b : Lines) (s t : List Token) (i j : Bool) → a ≡ b → s ≡ t → i ≡ j → Lined a s i → Lined b t j
relined a b s t i j e f g h = subst (λ z. Lined z t j) e (subst (λ z. Lined a z j) f (subst (λ z. Lined a s z) g h))

rebranched : (a b : Branch) (s t : List Token) (i j : Bool) → a ≡ b → s ≡ t → i ≡ j → Branched a s i → Branched b t j
rebranched a b s t i j e f g h = subst (λ z. Branched z t j) e (subst (λ z. Branched a z j) f (subst (λ z. Branched a s z) g h))

-- ---- branches
-- the line of a condition, and what stands in its block
branch_reads : (head : List ℕ) (spelled : List Token) (e : Expr) (lines : Lines) (block : List Token) (i : Bool) (margin rest : List ℕ) → is_margin margin ≡ true
    → is_expr e ≡ true → i ≡ true → Lined lines block i → ((others : List ℕ) → Reads head spelled others)
    → Reads (branch_lines head margin (expr_text e, lines)) (spelled ++ expr_tokens e ++ sign symbol.OpenBrace ++ block) rest
branch_reads head spelled e lines block i margin rest m h k l r =
    let behind = lines (deeper margin) ++ rest in
    pieces (line margin (head ++ expr_text e ++ codes " {"), spelled ++ expr_tokens e ++ sign symbol.OpenBrace) ((lines (deeper margin), block) ∷ []) rest (
      line_reads margin (head ++ expr_text e ++ codes " {") (spelled ++ expr_tokens e ++ sign symbol.OpenBrace) behind m
          (pieces (head, spelled) ((expr_text e, expr_tokens e) ∷ (codes " {", sign symbol.OpenBrace) ∷ []) (10 ∷ behind)
          (r (expr_text e ++ (codes " {" ++ (10 ∷ behind))), (expr_reads e (codes " {" ++ (10 ∷ behind)) h refl, (brace_reads (10 ∷ behind), tt)))),
      (l.lays k (deeper margin) rest m, tt),
    )

-- the same of a branch
arm_reads : (head : List ℕ) (spelled : List Token) (b : Branch) (ts : List Token) (i : Bool) (w : Branched b ts i) (margin rest : List ℕ) → is_margin margin ≡ true → i ≡ true
    → ((others : List ℕ) → Reads head spelled others) → Reads (branch_lines head margin b) (spelled ++ expr_tokens w.condition ++ sign symbol.OpenBrace ++ w.block) rest
arm_reads head spelled b ts i w margin rest m k r =
    subst (λ z. Reads (branch_lines head margin (z, b.1)) (spelled ++ expr_tokens w.condition ++ sign symbol.OpenBrace ++ w.block) rest) (sym w.asks)
    (branch_reads head spelled w.condition b.1 w.block i margin rest m (w.says k) k w.inside r)

-- the brace that closes a branch stands before what follows it
shifted : (front e block ts more behind : List Token) → ts ≡ e ++ in_braces block
    → front ++ e ++ sign symbol.OpenBrace ++ block ++ (sign symbol.CloseBrace ++ (more ++ behind)) ≡ front ++ ts ++ more ++ behind
shifted front e block ts more behind h = shifted_at ∙ ap (λ z. front ++ z ++ more ++ behind) (sym h)
  where
    shifted_at : front ++ e ++ sign symbol.OpenBrace ++ block ++ (sign symbol.CloseBrace ++ (more ++ behind)) ≡ front ++ (e ++ in_braces block) ++ more ++ behind
    shifted_at = simp append_assoc refl

-- a closing brace, a word and a space
close_word : (w : Word) (rest : List ℕ) → Reads (codes "}" ++ (codes " " ++ word_text w ++ codes " ")) (sign symbol.CloseBrace ++ reserved w) rest
close_word w rest =
    pieces (codes "}", sign symbol.CloseBrace) ((codes " " ++ word_text w ++ codes " ", reserved w) ∷ []) rest
    (sign_reads symbol.CloseBrace ((codes " " ++ word_text w ++ codes " ") ++ rest) refl, (spaced_word w rest, tt))

-- the `elif`s, what ends the `if`, and the brace before them
tail_reads : {A B : Type 0} (g : A → B) (branch : B → Branch) (spelled : B → List Token) (test : B → Bool) → ((x : A) → Branched (branch (g x)) (spelled (g x)) (test (g x)))
    → (margin ending : List ℕ) (last : List Token) (rest : List ℕ) → is_margin margin ≡ true → Reads ending (sign symbol.CloseBrace ++ last) rest
    → (xs : List A) → list_all (λ b. b) (map test (map g xs)) ≡ true
    → Reads (branches_lines false margin (map branch (map g xs)) ++ ending) (sign symbol.CloseBrace ++ (branches_tokens false (map spelled (map g xs)) ++ last)) rest
tail_reads g branch spelled test each margin ending last rest m r [] h = r
tail_reads g branch spelled test each margin ending last rest m r (x ∷ xs) h =
    let a = and_parts (test (g x)) (list_all (λ b. b) (map test (map g xs))) h in
    let w = each x in
    let front = sign symbol.CloseBrace ++ reserved word.Elif in
    let others = branches_lines false margin (map branch (map g xs)) in
    let more = branches_tokens false (map spelled (map g xs)) in
    let here = branch_lines (codes "} elif ") margin (branch (g x)) in
    let opened = front ++ expr_tokens w.condition ++ sign symbol.OpenBrace ++ w.block in
    retold (here ++ (others ++ ending)) (here ++ others ++ ending) (opened ++ (sign symbol.CloseBrace ++ (more ++ last))) (front ++ spelled (g x) ++ more ++ last) rest
    (sym (append_assoc here others ending)) (shifted front (expr_tokens w.condition) w.block (spelled (g x)) more last w.splits)
    (pieces (here, opened) ((others ++ ending, sign symbol.CloseBrace ++ (more ++ last)) ∷ []) rest (
      arm_reads (codes "} elif ") front (branch (g x)) (spelled (g x)) (test (g x)) w margin ((others ++ ending) ++ rest) m a.0 (λ z. close_word word.Elif z),
      (tail_reads g branch spelled test each margin ending last rest m r xs a.1, tt),
    ))

-- what ends an `if`
else_none : (margin rest : List ℕ) → is_margin margin ≡ true → Reads (else_lines margin None ++ line margin (codes "}")) (sign symbol.CloseBrace ++ else_tokens None) rest
else_none margin rest m = closing_line margin rest m

else_some : (lines : Lines) (block : List Token) (i : Bool) → Lined lines block i → i ≡ true → (margin rest : List ℕ) → is_margin margin ≡ true
    → Reads (else_lines margin (Some lines) ++ line margin (codes "}")) (sign symbol.CloseBrace ++ else_tokens (Some block)) rest
else_some lines block i l h margin rest m =
    let closed = line margin (codes "}") ++ rest in
    let behind = lines (deeper margin) ++ closed in
    pieces (line margin (codes "} else {"), sign symbol.CloseBrace ++ reserved word.Else ++ sign symbol.OpenBrace) ((lines (deeper margin), block) ∷ (line margin (codes "}"), sign symbol.CloseBrace) ∷ []) rest (
      line_reads margin (codes "} else {") (sign symbol.CloseBrace ++ reserved word.Else ++ sign symbol.OpenBrace) behind m
          (pieces (codes "} else ", sign symbol.CloseBrace ++ reserved word.Else) ((codes "{", sign symbol.OpenBrace) ∷ []) (10 ∷ behind)
          (close_word word.Else (codes "{" ++ (10 ∷ behind)), (sign_reads symbol.OpenBrace (10 ∷ behind) refl, tt))),
      (l.lays h (deeper margin) closed m, (closing_line margin rest m, tt)),
    )

if_reads : {A B : Type 0} (g : A → B) (branch : B → Branch) (spelled : B → List Token) (test : B → Bool) → ((x : A) → Branched (branch (g x)) (spelled (g x)) (test (g x)))
    → (margin ending : List ℕ) (last : List Token) (rest : List ℕ) → is_margin margin ≡ true → Reads (ending ++ line margin (codes "}")) (sign symbol.CloseBrace ++ last) rest
    → (xs : List A) → are_arms (map test (map g xs)) ≡ true
    → Reads (if_lines margin (map branch (map g xs)) ++ ending ++ line margin (codes "}")) (branches_tokens true (map spelled (map g xs)) ++ last) rest
if_reads g branch spelled test each margin ending last rest m r [] h = absurd (cc)
if_reads g branch spelled test each margin ending last rest m r (x ∷ xs) h =
    let a = and_parts (test (g x)) (list_all (λ b. b) (map test (map g xs))) h in
    let w = each x in
    let closed = line margin (codes "}") in
    let others = branches_lines false margin (map branch (map g xs)) in
    let more = branches_tokens false (map spelled (map g xs)) in
    let here = branch_lines (codes "if ") margin (branch (g x)) in
    let opened = reserved word.If ++ expr_tokens w.condition ++ sign symbol.OpenBrace ++ w.block in
    retold (here ++ (others ++ (ending ++ closed))) (here ++ others ++ ending ++ closed) (opened ++ (sign symbol.CloseBrace ++ (more ++ last))) (reserved word.If ++ spelled (g x) ++ more ++ last) rest
    (sym (append_assoc (here ++ others) ending closed ∙ append_assoc here others (ending ++ closed)))
    (shifted (reserved word.If) (expr_tokens w.condition) w.block (spelled (g x)) more last w.splits)
    (pieces (here, opened) ((others ++ (ending ++ closed), sign symbol.CloseBrace ++ (more ++ last)) ∷ []) rest (
      arm_reads (codes "if ") (reserved word.If) (branch (g x)) (spelled (g x)) (test (g x)) w margin ((others ++ (ending ++ closed)) ++ rest) m a.0 (λ z. before_space word.If z),
      (tail_reads g branch spelled test each margin (ending ++ closed) last rest m r xs a.1, tt),
    ))

-- ---- the other instructions
while_reads : (e : Expr) (lines : Lines) (block : List Token) (i : Bool) → Lined lines block i → is_expr e ≡ true → i ≡ true → (margin rest : List ℕ) → is_margin margin ≡ true
    → Reads (branch_lines (codes "while ") margin (expr_text e, lines) ++ line margin (codes "}")) (reserved word.While ++ expr_tokens e ++ in_braces block) rest
while_reads e lines block i l h k margin rest m =
    let here = branch_lines (codes "while ") margin (expr_text e, lines) in
    let opened = reserved word.While ++ expr_tokens e ++ sign symbol.OpenBrace ++ block in
    retold (here ++ line margin (codes "}")) (here ++ line margin (codes "}")) (opened ++ sign symbol.CloseBrace) (reserved word.While ++ expr_tokens e ++ in_braces block) rest refl (simp append_assoc refl)
    (pieces (here, opened) ((line margin (codes "}"), sign symbol.CloseBrace) ∷ []) rest
    (branch_reads (codes "while ") (reserved word.While) e lines block i margin (line margin (codes "}") ++ rest) m h k l (λ z. before_space word.While z), (closing_line margin rest m, tt)))

returned_reads : (n : Option Number) (rest : List ℕ) → is_returned n ≡ true → Reads (codes "return" ++ returned_text n ++ codes ";") (reserved word.Return ++ returned_tokens n ++ sign symbol.Semi) rest
returned_reads None rest h =
    pieces (codes "return", reserved word.Return) (([], []) ∷ (codes ";", sign symbol.Semi) ∷ []) rest
    (word_reads word.Return (codes ";" ++ rest) refl, (nothing (codes ";" ++ rest), (semi rest, tt)))
returned_reads (Some n) rest h =
    pieces (codes "return ", reserved word.Return) ((number_text n, number n) ∷ (codes ";", sign symbol.Semi) ∷ []) rest
    (before_space word.Return (number_text n ++ (codes ";" ++ rest)), (number_reads n (codes ";" ++ rest) h refl, (semi rest, tt)))

-- lines one behind another
blocks_read : {A B : Type 0} (g : A → B) (lines : B → Lines) (spelled : B → List Token) (test : B → Bool) → ((x : A) → Lined (lines (g x)) (spelled (g x)) (test (g x)))
    → (margin rest : List ℕ) → is_margin margin ≡ true → (xs : List A) → list_all (λ b. b) (map test (map g xs)) ≡ true
    → Reads (flat_map (λ l. l margin) (map lines (map g xs))) (flat_map (λ ts. ts) (map spelled (map g xs))) rest
blocks_read g lines spelled test each margin rest m [] h = nothing rest
blocks_read g lines spelled test each margin rest m (x ∷ xs) h =
    let a = and_parts (test (g x)) (list_all (λ b. b) (map test (map g xs))) h in
    let others = flat_map (λ l. l margin) (map lines (map g xs)) in
    pieces (lines (g x) margin, spelled (g x)) ((others, flat_map (λ ts. ts) (map spelled (map g xs))) ∷ []) rest
    ((each x).lays a.0 margin (others ++ rest) m, (blocks_read g lines spelled test each margin rest m xs a.1, tt))

-- ---- a level where what is inside is as it must be
abbrev instr_said : Instr → Bool
instr_said = fold-Instr Bool Bool Bool is_instr is_arm is_level

abbrev arm_said : Arm → Bool
arm_said = fold-Arm Bool Bool Bool is_instr is_arm is_level

module _ {S S' S'' : Type 0} (v : S → Instr) (v' : S' → Arm) (v'' : S'' → Block)
    (p' : (s : S') → Branched (arm_branch (v' s)) (arm_tokens (v' s)) (arm_said (v' s))) (p'' : (s : S'') → Lined (block_lines (v'' s)) (block_tokens (v'' s)) (is_block (v'' s))) where
  abbrev opened : Instr-F S S' S'' → Instr-F Instr Arm Block
  opened y = map-Instr S S' S'' Instr Arm Block v v' v'' y

  abbrev level_lines : Instr-F Instr Arm Block → Lines
  level_lines y = instr_level_lines (map-Instr Instr Arm Block Lines Branch Lines instr_lines arm_branch block_lines y)

  abbrev level_tokens : Instr-F Instr Arm Block → List Token
  level_tokens y = instr_level_tokens (map-Instr Instr Arm Block (List Token) (List Token) (List Token) instr_tokens arm_tokens block_tokens y)

  abbrev level_said : Instr-F Instr Arm Block → Bool
  level_said y = is_instr (map-Instr Instr Arm Block Bool Bool Bool instr_said arm_said is_block y)

  middle : (y : Instr-F S S' S'') → level_said (opened y) ≡ true → (margin rest : List ℕ) → is_margin margin ≡ true → Reads (level_lines (opened y) margin) (level_tokens (opened y)) rest
  middle (Instr-F.Step s) h margin rest m = step_reads margin s rest m h
  middle (Instr-F.If at arms None) h margin rest m =
      let a = and_parts (are_arms (map arm_said (map v' arms))) true h in
      if_reads v' arm_branch arm_tokens arm_said p' margin (else_lines margin None) (else_tokens None) rest m (else_none margin rest m) arms a.0
  middle (Instr-F.If at arms (Some b)) h margin rest m =
      let a = and_parts (are_arms (map arm_said (map v' arms))) (is_block (v'' b)) h in
      if_reads v' arm_branch arm_tokens arm_said p' margin (else_lines margin (Some (block_lines (v'' b)))) (else_tokens (Some (block_tokens (v'' b)))) rest m
      (else_some (block_lines (v'' b)) (block_tokens (v'' b)) (is_block (v'' b)) (p'' b) a.1 margin rest m) arms a.0
  middle (Instr-F.While at e b) h margin rest m =
      let a = and_parts (is_expr e) (is_block (v'' b)) h in
      while_reads e (block_lines (v'' b)) (block_tokens (v'' b)) (is_block (v'' b)) (p'' b) a.0 a.1 margin rest m
  middle (Instr-F.Return at n) h margin rest m =
      line_reads margin (codes "return" ++ returned_text n ++ codes ";") (reserved word.Return ++ returned_tokens n ++ sign symbol.Semi) rest m (returned_reads n (10 ∷ rest) h)

  instr_lined : (y : Instr-F S S' S'') → Lined (instr_lines (roll-Instr (opened y))) (instr_tokens (roll-Instr (opened y))) (instr_said (roll-Instr (opened y)))
  instr_lined y =
      relined (level_lines (opened y)) (instr_lines (roll-Instr (opened y))) (level_tokens (opened y)) (instr_tokens (roll-Instr (opened y)))
      (level_said (opened y)) (instr_said (roll-Instr (opened y)))
      (sym (fold-roll-Instr Lines Branch Lines instr_level_lines arm_level_lines block_level_lines (opened y)))
      (sym (fold-roll-Instr (List Token) (List Token) (List Token) instr_level_tokens arm_level_tokens block_level_tokens (opened y)))
      (sym (fold-roll-Instr Bool Bool Bool is_instr is_arm is_level (opened y))) (record { lays = middle y })

arm_branched : (a : Arm-F Instr Arm Block) → Lined (block_lines a.block) (block_tokens a.block) (is_block a.block)
    → Branched (arm_branch (roll-Arm a)) (arm_tokens (roll-Arm a)) (arm_said (roll-Arm a))
arm_branched a l =
    rebranched (expr_text a.condition, block_lines a.block) (arm_branch (roll-Arm a)) (expr_tokens a.condition ++ in_braces (block_tokens a.block)) (arm_tokens (roll-Arm a))
    (is_expr a.condition && is_block a.block) (arm_said (roll-Arm a))
    (sym (fold-roll-Arm Lines Branch Lines instr_level_lines arm_level_lines block_level_lines a))
    (sym (fold-roll-Arm (List Token) (List Token) (List Token) instr_level_tokens arm_level_tokens block_level_tokens a))
    (sym (fold-roll-Arm Bool Bool Bool is_instr is_arm is_level a))
    (record {
      condition = a.condition;
      block = block_tokens a.block;
      splits = refl;
      asks = refl;
      says = λ h. (and_parts (is_expr a.condition) (is_block a.block) h).0;
      inside = record { lays = λ h margin rest m. l.lays (and_parts (is_expr a.condition) (is_block a.block) h).1 margin rest m };
    })

module _ {S : Type 0} (v : S → Instr) (p : (s : S) → Lined (instr_lines (v s)) (instr_tokens (v s)) (instr_said (v s))) where
  block_lined : (ss : List S) → (b : Block-F Instr Arm Block) → b.instrs ≡ map v ss → Lined (block_lines (roll-Block b)) (block_tokens (roll-Block b)) (is_block (roll-Block b))
  block_lined ss b e =
      relined (λ margin. flat_map (λ l. l margin) (map instr_lines b.instrs)) (block_lines (roll-Block b)) (flat_map (λ ts. ts) (map instr_tokens b.instrs)) (block_tokens (roll-Block b))
      (list_all (λ i. i) (map instr_said b.instrs)) (is_block (roll-Block b))
      (sym (fold-roll-Block Lines Branch Lines instr_level_lines arm_level_lines block_level_lines b))
      (sym (fold-roll-Block (List Token) (List Token) (List Token) instr_level_tokens arm_level_tokens block_level_tokens b))
      (sym (fold-roll-Block Bool Bool Bool is_instr is_arm is_level b))
      (subst (λ z. Lined (λ margin. flat_map (λ l. l margin) (map instr_lines z)) (flat_map (λ ts. ts) (map instr_tokens z)) (list_all (λ i. i) (map instr_said z))) (sym e)
      (record { lays = λ h margin rest m. blocks_read v instr_lines instr_tokens instr_said p margin rest m ss h }))

-- the lines in a block have its tokens
pub block_spoken : (b : Block) → Lined (block_lines b) (block_tokens b) (is_block b)
block_spoken = ind-Block (λ i. Lined (instr_lines i) (instr_tokens i) (instr_said i)) (λ a. Branched (arm_branch a) (arm_tokens a) (arm_said a)) (λ b. Lined (block_lines b) (block_tokens b) (is_block b))
    (λ x y e. subst (λ (z : Instr-F Instr Arm Block). Lined (instr_lines (roll-Instr z)) (instr_tokens (roll-Instr z)) (instr_said (roll-Instr z))) e
    (instr_lined (λ s. s.0) (λ s. s.0) (λ s. s.0) (λ s. s.1) (λ s. s.1) y))
    (λ x y e. subst (λ (z : Arm-F Instr Arm Block). Branched (arm_branch (roll-Arm z)) (arm_tokens (roll-Arm z)) (arm_said (roll-Arm z))) e
    (arm_branched (record { condition = y.condition; block = y.block.0 }) y.block.1))
    (λ x y e. subst (λ (z : Block-F Instr Arm Block). Lined (block_lines (roll-Block z)) (block_tokens (roll-Block z)) (is_block (roll-Block z))) e
    (block_lined (λ s. s.0) (λ s. s.1) y.instrs (record { instrs = map (λ s. s.0) y.instrs }) refl))
