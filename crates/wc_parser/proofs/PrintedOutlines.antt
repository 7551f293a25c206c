-- The tokens of a printed outline are derived as an outline that says the same.
use Rattle.std.proofs.Common.{◌≡◌, ℕ, zero, suc, ◌≤◌, List, [], ◌∷◌, ◌++◌, map, length, Bool, true, false, ◌&&◌, Option, Some, None, refl, sym, ap, ◌∙◌, subst, append_assoc}
use Rattle.std.specs.Prelude.{nat_eq, flat_map}
use Rattle.std.specs.Option.{option_map}
use Rattle.std.specs.List.{list_all}
use Rattle.wc_lexer.specs.declared.token.Token.TheVariants as token
use Rattle.wc_lexer.specs.declared.token.Word.{Word}
use Rattle.wc_lexer.specs.declared.token.Word.TheVariants as word
use Rattle.wc_lexer.specs.declared.token.Symbol.TheVariants as symbol
use Rattle.wc_syntax.specs.declared.expression.Name.{Name}
use Rattle.wc_syntax.specs.declared.expression.Number.{Number}
use Rattle.wc_syntax.specs.declared.expression.Expr.{Expr}
use Rattle.wc_syntax.specs.declared.outline.CallArg.{CallArg}
use Rattle.wc_syntax.specs.declared.outline.CallStmt.{CallStmt}
use Rattle.wc_syntax.specs.declared.outline.Stmt.{Stmt}
use Rattle.wc_syntax.specs.declared.outline.Stmt.TheVariants as stmt
use Rattle.wc_syntax.specs.declared.outline.Step.{Step}
use Rattle.wc_syntax.specs.declared.outline.Block.{Block, Block-F, roll-Block, fold-roll-Block, ind-Block}
use Rattle.wc_syntax.specs.declared.outline.Arm.{Arm, Arm-F, roll-Arm, fold-Arm, fold-roll-Arm}
use Rattle.wc_syntax.specs.declared.outline.Instr.{Instr, roll-Instr, map-Instr, fold-Instr, fold-roll-Instr}
use Rattle.wc_syntax.specs.declared.outline.Instr.TheVariants as instr
use Rattle.wc_syntax.specs.declared.outline.Instr.TheOpen.{Instr-F}
use Rattle.wc_syntax.specs.Bare.{bare_number, bare_expr, bare_arg, bare_call, bare_stmt, bare_step, instr_level, at_instr, at_arm, at_block, bare_instr, bare_arm, bare_block}
use Rattle.wc_syntax.specs.Writable.{are_arms, is_expr, is_instr, is_arm, is_level, is_block}
use Rattle.wc_grammar.specs.Kinds.{kind, S_OPEN_BRACE, S_CLOSE_BRACE, S_OPEN, S_CLOSE, S_SEMI, S_COLON, S_IS, W_OUT, W_IF, W_STEP, W_ELIF, W_ELSE, W_WHILE, W_RETURN, W_CALL}
use Rattle.wc_grammar.specs.Rules.{Rule, Done, Seq, Either, As, Many, Sign, Pick}
use Rattle.wc_grammar.specs.Grammar.{NUMBER, Exprs}
use Rattle.wc_reader.specs.Outlines.{Args, ways, Targets, Calls, Stmts, Steps, Blocks, Arms, Elifs, Otherwise, Ifs, Whiles, Returns, Instrs}
use Rattle.wc_parser.specs.PrintedTokens.{Tokens, sign, reserved, name, items, context, expr_tokens, arg_tokens, way_word, call_tokens, stmt_tokens, in_braces, step_tokens, branches_tokens, returned_tokens, instr_level_tokens, arm_level_tokens, block_level_tokens, instr_tokens, arm_tokens, block_tokens}
use Rattle.wc_parser.proofs.Makes.{Makes, again, weaken, done_makes, seq_makes, as_makes, left_makes, right_makes, Stands, pick_makes, Same, Longer, AllOf, each_of, turns_make, many_make, between_makes, From, always, reaching, implied, together, above, from_each, many_from}
use Rattle.wc_parser.proofs.PrintedExpressions.{SameName, name_makes, number_makes, word_makes, symbol_makes, context_makes, expr_makes}
use Rattle.wc_parser.proofs.PrintedParts.{Derived, InOption, in_option, in_five, set_makes, exit_makes}

-- ---- statements
arg_makes : {E : Rule Expr} (a : CallArg) → Derived E a.value → Makes (Args E) (arg_tokens a) (Same bare_arg a)
arg_makes a h = seq_makes (name_makes a.port) (λ x p. seq_makes (symbol_makes S_COLON symbol.Colon refl) (λ _ _.
    as_makes (λ e. record { port = x; value = e }) h (λ y q. λ i. record { port = p i; value = q i })))

way_makes : (b : Bool) → Makes (Pick ways) (way_word b) (Stands b)
way_makes true = pick_makes ways (token.Word word.Append) true refl
way_makes false = pick_makes ways (token.Word word.To) false refl

-- whether it appends, and the key
abbrev SameTarget : Bool → Name → Bool × Name → Type 0
SameTarget b n x = (x.0 ≡ b) × SameName n x.1

target_makes : (b : Bool) (n : Name) → Makes Targets (way_word b ++ (context n ++ sign symbol.Semi)) (SameTarget b n)
target_makes b n = seq_makes (way_makes b) (λ w p. seq_makes (context_makes n) (λ c q. as_makes (λ _. (w.0, c.1)) (symbol_makes S_SEMI symbol.Semi refl) (λ _ _. (p, q))))

-- the values of a call's arguments are derived, and there are not too many
abbrev ArgsDerived : ℕ → Rule Expr → List CallArg → Type 0
ArgsDerived n E args = AllOf (λ a. Derived E a.value) args × (length args ≤ n)

call_makes : {E : Rule Expr} (n : ℕ) (c : CallStmt) → ArgsDerived n E c.args → Makes (Calls n E) (call_tokens c) (Same bare_call c)
call_makes {E = E} n c h = again (ap (λ z. reserved word.Call ++ name c.callee ++ sign symbol.Open ++ z)
    (sym (in_five (items arg_tokens c.args) (sign symbol.Close) (way_word c.append) (context c.key) (sign symbol.Semi))))
    (seq_makes (word_makes W_CALL word.Call refl) (λ at _. seq_makes (name_makes c.callee) (λ x p. seq_makes (symbol_makes S_OPEN symbol.Open refl) (λ _ _.
    seq_makes (between_makes (Args E) arg_tokens bare_arg c.args (each_of arg_makes c.args h.0) n h.1) (λ xs q. seq_makes (symbol_makes S_CLOSE symbol.Close refl) (λ _ _.
    as_makes (λ t. record { at = at; callee = x; args = xs; append = t.0; key = t.1 }) (target_makes c.append c.key)
    (λ t r. λ i. record { at = 0; callee = p i; args = q i; append = r.0 i; key = r.1 i })))))))

-- the expressions in a statement are derived
abbrev StmtDerived : ℕ → Rule Expr → Stmt → Type 0
StmtDerived n E (stmt.Ctx at x e) = Derived E e
StmtDerived n E (stmt.Out at x e) = Derived E e
StmtDerived n E (stmt.Exit x) = InOption (Derived E) x.condition
StmtDerived n E (stmt.Call c) = ArgsDerived n E c.args

stmt_makes : {E : Rule Expr} (n : ℕ) (s : Stmt) → StmtDerived n E s → Makes (Stmts n E) (stmt_tokens s) (Same bare_stmt s)
stmt_makes n (stmt.Ctx at x e) h = left_makes (seq_makes (context_makes x) (λ c p. seq_makes (symbol_makes S_IS symbol.Is refl) (λ _ _. seq_makes h (λ y q.
    as_makes (λ _. stmt.Ctx c.0 c.1 y) (symbol_makes S_SEMI symbol.Semi refl) (λ _ _. λ i. stmt.Ctx 0 (p i) (q i))))))
stmt_makes n (stmt.Out at x e) h = right_makes (left_makes (as_makes (λ y. stmt.Out y.0 y.1 y.2) (set_makes W_OUT word.Out refl x e h) (λ y p. λ i. stmt.Out 0 (p.0 i) (p.1 i))))
stmt_makes n (stmt.Exit x) h = right_makes (right_makes (left_makes (as_makes stmt.Exit (exit_makes x h) (λ y p. λ i. stmt.Exit (p i)))))
stmt_makes n (stmt.Call c) h = right_makes (right_makes (right_makes (as_makes stmt.Call (call_makes n c h) (λ y p. λ i. stmt.Call (p i)))))

stmt_derived : (s : Stmt) → From (λ n. StmtDerived n (Exprs n) s)
stmt_derived (stmt.Ctx at x e) = expr_makes e
stmt_derived (stmt.Out at x e) = expr_makes e
stmt_derived (stmt.Exit x) = in_option expr_makes x.condition
stmt_derived (stmt.Call c) = together (from_each (λ n a. Derived (Exprs n) a.value) (λ a. expr_makes a.value) c.args) (reaching (length c.args))

-- what stands in braces
pub braces_make : {A B : Type 0} {R : Rule A} {a : Tokens} {P : A → Type 0} {Q : B → Type 0} (g : A → B) → Makes R a P → ((x : A) → P x → Q (g x))
    → Makes (Seq (Sign S_OPEN_BRACE) (λ _. Seq R (λ x. As (Sign S_CLOSE_BRACE) (λ _. g x)))) (in_braces a) Q
braces_make g h k = seq_makes (symbol_makes S_OPEN_BRACE symbol.OpenBrace refl) (λ _ _. seq_makes h (λ x p.
    as_makes (λ _. g x) (symbol_makes S_CLOSE_BRACE symbol.CloseBrace refl) (λ _ _. k x p)))

step_at : (n : ℕ) (s : Step) → Makes (Many n (Stmts n (Exprs n))) (flat_map stmt_tokens s.stmts) (Same (map bare_stmt) s.stmts)
    → Makes (Steps n (Exprs n)) (step_tokens s) (Same bare_step s)
step_at n s h = seq_makes (word_makes W_STEP word.Step refl) (λ at _. seq_makes (name_makes s.name) (λ x p.
    braces_make (λ ss. record { at = at; name = x; stmts = ss }) h (λ ss q. λ i. record { at = 0; name = p i; stmts = q i })))

step_makes : (s : Step) → From (λ n. Makes (Steps n (Exprs n)) (step_tokens s) (Same bare_step s))
step_makes s = implied (λ n h. step_at n s h)
    (many_from (λ n. Stmts n (Exprs n)) stmt_tokens bare_stmt (λ t. implied (λ n h. stmt_makes n t h) (stmt_derived t)) s.stmts)

-- ---- instructions, arms and blocks
abbrev sayable_instr : Instr → Bool
sayable_instr = fold-Instr Bool Bool Bool is_instr is_arm is_level

abbrev sayable_arm : Arm → Bool
sayable_arm = fold-Arm Bool Bool Bool is_instr is_arm is_level

-- From some bound on the tokens are derived.
abbrev InstrMade : Instr → Type 0
InstrMade i = From (λ n. Makes (Instrs n) (instr_tokens i) (Same bare_instr i))

-- what stands in a block, without its braces
abbrev pub InsideMade : Block → Type 0
InsideMade b = From (λ n. Makes (Many n (Instrs n)) (block_tokens b) (λ is. Same bare_block b (roll-Block (record { instrs = is }))))

-- with its braces
abbrev BlockDerived : ℕ → Block → Type 0
BlockDerived n b = Makes (Blocks n (Instrs n)) (in_braces (block_tokens b)) (Same bare_block b)

-- behind its word
abbrev ArmDerived : ℕ → Arm → Type 0
ArmDerived n a = (k : ℕ) (w : Word) → nat_eq (kind (token.Word w)) k ≡ true
    → Makes (Arms k (Exprs n) (Blocks n (Instrs n))) (reserved w ++ arm_tokens a) (λ y. Same bare_arm a y.1)

in_block : (b : Block) → InsideMade b → From (λ n. BlockDerived n b)
in_block b h = implied (λ n k. braces_make (λ is. roll-Block (record { instrs = is })) k (λ is p. p)) h

-- an instruction's bare form, by the level that it is made of
abbrev Level-F : Type 0
Level-F = Instr-F Instr Arm Block

-- a level's instruction, with each offset at 0
abbrev bared : Level-F → Instr
bared x = roll-Instr (instr_level (map-Instr Instr Arm Block Instr Arm Block bare_instr bare_arm bare_block x))

bare_at : (i : Instr) (x : Level-F) → roll-Instr x ≡ i → bare_instr i ≡ bared x
bare_at i x e = ap bare_instr (sym e) ∙ fold-roll-Instr Instr Arm Block at_instr at_arm at_block x

-- the block of an `else`
abbrev OtherSame : Option Block → Option Block → Type 0
OtherSame None x = x ≡ None
OtherSame (Some b) x = (y : Block) × (x ≡ Some y) × Same bare_block b y

abbrev other_tokens : Option Block → Tokens
other_tokens None = []
other_tokens (Some b) = reserved word.Else ++ in_braces (block_tokens b)

otherwise_makes : (n : ℕ) (o : Option Block) → InOption (BlockDerived n) o → Makes (Otherwise (Blocks n (Instrs n))) (other_tokens o) (OtherSame o)
otherwise_makes n None h = right_makes (done_makes (λ x. x ≡ None) None refl)
otherwise_makes n (Some b) h = left_makes (seq_makes (word_makes W_ELSE word.Else refl) (λ _ _. as_makes Some h (λ y p. (y, refl, p))))

branches_are : (arms : List Arm) → branches_tokens false (map arm_tokens arms) ≡ flat_map (λ a. reserved word.Elif ++ arm_tokens a) arms
branches_are [] = refl
branches_are (a ∷ arms) = ap (λ z. reserved word.Elif ++ arm_tokens a ++ z) (branches_are arms)

-- an `if` with its first arm, its further arms and its `else`
abbrev IfDerived : ℕ → Arm → List Arm → Option Block → Type 0
IfDerived n a arms o = ArmDerived n a × AllOf (ArmDerived n) arms × (length arms ≤ n) × InOption (BlockDerived n) o

abbrev if_tokens : Arm → List Arm → Option Block → Tokens
if_tokens a arms o = branches_tokens true (map arm_tokens (a ∷ arms)) ++ other_tokens o

abbrev bare_option : Option Block → Option Block
bare_option None = None
bare_option (Some b) = Some (bare_block b)

bare_if : (at : ℕ) (arms : List Arm) (o : Option Block) (xs : List Arm) (p : Option Block) → map bare_arm xs ≡ map bare_arm arms → OtherSame o p
    → bare_instr (instr.If at xs p) ≡ roll-Instr (Instr-F.If 0 (map bare_arm arms) (bare_option o))
bare_if at arms None xs p e f =
    ap (λ z. bare_instr (instr.If at xs z)) f ∙ bare_at (instr.If at xs None) (Instr-F.If at xs None) (instr.rolls-If at xs None)
    ∙ λ i. roll-Instr (Instr-F.If 0 (e i) None)
bare_if at arms (Some b) xs p e f =
    ap (λ z. bare_instr (instr.If at xs z)) f.1 ∙ bare_at (instr.If at xs (Some f.0)) (Instr-F.If at xs (Some f.0)) (instr.rolls-If at xs (Some f.0))
    ∙ λ i. roll-Instr (Instr-F.If 0 (e i) (Some (f.2 i)))

elif_makes : (n : ℕ) (a : Arm) → ArmDerived n a → (before : List Arm)
    → Makes (Elifs (Exprs n) (Blocks n (Instrs n)) before) (reserved word.Elif ++ arm_tokens a) (Longer bare_arm before a)
elif_makes n a h before = as_makes (λ x. before ++ x.1 ∷ []) (h W_ELIF word.Elif refl) (λ x p. (x.1, refl, p))

if_makes : (n : ℕ) (a : Arm) (arms : List Arm) (o : Option Block) → IfDerived n a arms o
    → Makes (Ifs n (Exprs n) (Blocks n (Instrs n))) (if_tokens a arms o) (λ y. bare_instr y ≡ roll-Instr (Instr-F.If 0 (map bare_arm (a ∷ arms)) (bare_option o)))
if_makes n a arms o h =
    again (sym (append_assoc (reserved word.If ++ arm_tokens a) (branches_tokens false (map arm_tokens arms)) (other_tokens o)))
    (seq_makes (h.0 W_IF word.If refl) (λ x p. seq_makes
    (again (sym (branches_are arms)) (turns_make (Elifs (Exprs n) (Blocks n (Instrs n))) (λ a. reserved word.Elif ++ arm_tokens a) bare_arm arms
    (each_of (elif_makes n) arms h.1) n h.2 (x.1 ∷ [])))
    (λ xs q. as_makes (λ y. instr.If x.0 xs y) (otherwise_makes n o h.3) (λ y r. bare_if x.0 (a ∷ arms) o xs y (q ∙ λ i. p i ∷ map bare_arm arms) r))))

while_makes : (n : ℕ) (e : Expr) (b : Block) → Derived (Exprs n) e → BlockDerived n b
    → Makes (Whiles (Exprs n) (Blocks n (Instrs n))) (reserved word.While ++ expr_tokens e ++ in_braces (block_tokens b))
    (λ y. bare_instr y ≡ roll-Instr (Instr-F.While 0 (bare_expr e) (bare_block b)))
while_makes n e b h k = seq_makes (word_makes W_WHILE word.While refl) (λ at _. seq_makes h (λ x p. as_makes (λ y. instr.While at x y) k (λ y q.
    bare_at (instr.While at x y) (Instr-F.While at x y) (instr.rolls-While at x y) ∙ λ i. roll-Instr (Instr-F.While 0 (p i) (q i)))))

status_makes : (o : Option Number) → Makes (Either (As NUMBER Some) (Done None)) (returned_tokens o) (Same (option_map bare_number) o)
status_makes None = right_makes (done_makes (Same (option_map bare_number) None) None refl)
status_makes (Some n) = left_makes (as_makes Some (number_makes n) (λ x p. λ i. Some (p i)))

return_makes : (o : Option Number) → Makes Returns (reserved word.Return ++ returned_tokens o ++ sign symbol.Semi)
    (λ y. bare_instr y ≡ roll-Instr (Instr-F.Return 0 (option_map bare_number o)))
return_makes o = seq_makes (word_makes W_RETURN word.Return refl) (λ at _. seq_makes (status_makes o) (λ x p. as_makes (λ _. instr.Return at x) (symbol_makes S_SEMI symbol.Semi refl)
    (λ _ _. bare_at (instr.Return at x) (Instr-F.Return at x) (instr.rolls-Return at x) ∙ λ i. roll-Instr (Instr-F.Return 0 (p i)))))

-- ---- each level
-- From some bound on the tokens are an instruction with this bare form.
abbrev IsInstr : Tokens → Instr → Type 0
IsInstr a v = From (λ n. Makes (Instrs n) a (λ y. bare_instr y ≡ v))

-- what has blocks inside
branch : {P : ℕ → Type 0} {a : Tokens} {v : Instr}
    → ((n : ℕ) → P n → Makes (Either (Ifs n (Exprs n) (Blocks n (Instrs n))) (Whiles (Exprs n) (Blocks n (Instrs n)))) a (λ y. bare_instr y ≡ v)) → From P → IsInstr a v
branch k h = above (λ n p. left_makes (k n p)) h

-- what has none
plain_at : (n : ℕ) {a : Tokens} {v : Instr} → Makes (Either (As (Steps n (Exprs n)) instr.Step) Returns) a (λ y. bare_instr y ≡ v) → Makes (Instrs n) a (λ y. bare_instr y ≡ v)
plain_at zero h = right_makes h
plain_at (suc n) h = right_makes h

-- what holds where both do
pub both_left : (a b : Bool) → (a && b) ≡ true → a ≡ true
both_left true b h = refl
both_left false b h = absurd (cc)

pub both_right : (a b : Bool) → (a && b) ≡ true → b ≡ true
both_right true b h = h
both_right false b h = absurd (cc)

instrs_are : (is : List Instr) → flat_map (λ ts. ts) (map instr_tokens is) ≡ flat_map instr_tokens is
instrs_are [] = refl
instrs_are (i ∷ is) = ap (λ z. instr_tokens i ++ z) (instrs_are is)

block_at : (n : ℕ) (is : List Instr) → AllOf (λ i. Makes (Instrs n) (instr_tokens i) (Same bare_instr i)) is → length is ≤ n
    → Makes (Many n (Instrs n)) (block_tokens (roll-Block (record { instrs = is })))
    (λ ys. bare_block (roll-Block (record { instrs = ys })) ≡ bare_block (roll-Block (record { instrs = is })))
block_at n is h l = again (sym (instrs_are is) ∙ sym (fold-roll-Block Tokens Tokens Tokens instr_level_tokens arm_level_tokens block_level_tokens (record { instrs = is })))
    (weaken (λ ys p. fold-roll-Block Instr Arm Block at_instr at_arm at_block (record { instrs = ys }) ∙ (λ i. roll-Block (record { instrs = p i }))
    ∙ sym (fold-roll-Block Instr Arm Block at_instr at_arm at_block (record { instrs = is })))
    (many_make (Instrs n) instr_tokens bare_instr is h n l))

module _ {S : Type 0} (v : S → Instr) (p : (s : S) → sayable_instr (v s) ≡ true → InstrMade (v s)) where
  instrs_made : (ss : List S) → list_all (λ b. b) (map sayable_instr (map v ss)) ≡ true
      → From (λ n. AllOf (λ i. Makes (Instrs n) (instr_tokens i) (Same bare_instr i)) (map v ss))
  instrs_made [] h = always (λ n. tt)
  instrs_made (s ∷ ss) h = together (p s (both_left _ _ h)) (instrs_made ss (both_right _ _ h))

  block_rolled : (ss : List S) → is_block (roll-Block (record { instrs = map v ss })) ≡ true → InsideMade (roll-Block (record { instrs = map v ss }))
  block_rolled ss h = implied (λ n k. block_at n (map v ss) k.0 k.1)
      (together (instrs_made ss (sym (fold-roll-Block Bool Bool Bool is_instr is_arm is_level (record { instrs = map v ss })) ∙ h)) (reaching (length (map v ss))))

module _ {S S' S'' : Type 0} (v : S → Instr) (v' : S' → Arm) (v'' : S'' → Block)
    (p' : (s : S') → sayable_arm (v' s) ≡ true → From (λ n. ArmDerived n (v' s))) (p'' : (s : S'') → is_block (v'' s) ≡ true → InsideMade (v'' s)) where
  abbrev opened : Instr-F S S' S'' → Level-F
  opened y = map-Instr S S' S'' Instr Arm Block v v' v'' y

  abbrev sayable_in : Instr-F S S' S'' → Bool
  sayable_in y = is_instr (map-Instr Instr Arm Block Bool Bool Bool sayable_instr sayable_arm is_block (opened y))

  abbrev tokens_in : Instr-F S S' S'' → Tokens
  tokens_in y = instr_level_tokens (map-Instr Instr Arm Block Tokens Tokens Tokens instr_tokens arm_tokens block_tokens (opened y))

  arms_made : (ss : List S') → list_all (λ b. b) (map sayable_arm (map v' ss)) ≡ true → From (λ n. AllOf (ArmDerived n) (map v' ss))
  arms_made [] h = always (λ n. tt)
  arms_made (s ∷ ss) h = together (p' s (both_left _ _ h)) (arms_made ss (both_right _ _ h))

  if_made : (s : S') (ss : List S') (o : Option Block) → are_arms (map sayable_arm (map v' (s ∷ ss))) ≡ true → From (λ n. InOption (BlockDerived n) o)
      → IsInstr (if_tokens (v' s) (map v' ss) o) (roll-Instr (Instr-F.If 0 (map bare_arm (map v' (s ∷ ss))) (bare_option o)))
  if_made s ss o h k = branch (λ n q. left_makes (if_makes n (v' s) (map v' ss) o (q.0, q.1.0, q.1.1.0, q.1.1.1)))
      (together (p' s (both_left _ _ h)) (together (arms_made ss (both_right _ _ h)) (together (reaching (length (map v' ss))) k)))

  level : (y : Instr-F S S' S'') → sayable_in y ≡ true → IsInstr (tokens_in y) (bared (opened y))
  level (Instr-F.Step s) h = implied (λ n k. plain_at n (left_makes (as_makes instr.Step k (λ x e.
      bare_at (instr.Step x) (Instr-F.Step x) (instr.rolls-Step x) ∙ λ i. roll-Instr (Instr-F.Step (e i)))))) (step_makes s)
  level (Instr-F.If at [] o) h = absurd (cc)
  level (Instr-F.If at (s ∷ ss) None) h = if_made s ss None (both_left _ _ h) (always (λ n. tt))
  level (Instr-F.If at (s ∷ ss) (Some b)) h = if_made s ss (Some (v'' b)) (both_left _ _ h) (in_block (v'' b) (p'' b (both_right _ _ h)))
  level (Instr-F.While at e b) h = branch (λ n k. right_makes (while_makes n e (v'' b) k.0 k.1)) (together (expr_makes e) (in_block (v'' b) (p'' b (both_right (is_expr e) _ h))))
  level (Instr-F.Return at o) h = implied (λ n k. plain_at n (right_makes (return_makes o))) (always {P = λ n. Unit {0}} (λ n. tt))

  instr_rolled : (y : Instr-F S S' S'') → sayable_instr (roll-Instr (opened y)) ≡ true → InstrMade (roll-Instr (opened y))
  instr_rolled y h = implied (λ n k. again (sym (fold-roll-Instr Tokens Tokens Tokens instr_level_tokens arm_level_tokens block_level_tokens (opened y)))
      (weaken (λ z e. e ∙ sym (fold-roll-Instr Instr Arm Block at_instr at_arm at_block (opened y))) k))
      (level y (sym (fold-roll-Instr Bool Bool Bool is_instr is_arm is_level (opened y)) ∙ h))

arm_at : (n : ℕ) (e : Expr) (b : Block) → Derived (Exprs n) e → BlockDerived n b → ArmDerived n (roll-Arm (record { condition = e; block = b }))
arm_at n e b h l k w r = again (ap (λ z. reserved w ++ z) (sym (fold-roll-Arm Tokens Tokens Tokens instr_level_tokens arm_level_tokens block_level_tokens (record { condition = e; block = b }))))
    (seq_makes (word_makes k w r) (λ at _. seq_makes h (λ x p. as_makes (λ y. (at, roll-Arm (record { condition = x; block = y }))) l (λ y q.
    fold-roll-Arm Instr Arm Block at_instr at_arm at_block (record { condition = x; block = y }) ∙ (λ i. roll-Arm (record { condition = p i; block = q i }))
    ∙ sym (fold-roll-Arm Instr Arm Block at_instr at_arm at_block (record { condition = e; block = b }))))))

arm_rolled : (e : Expr) (b : Block) → (is_block b ≡ true → InsideMade b) → sayable_arm (roll-Arm (record { condition = e; block = b })) ≡ true
    → From (λ n. ArmDerived n (roll-Arm (record { condition = e; block = b })))
arm_rolled e b m h = implied (λ n k. arm_at n e b k.0 k.1) (together (expr_makes e) (in_block b (m (both_right (is_expr e) (is_block b)
    (sym (fold-roll-Arm Bool Bool Bool is_instr is_arm is_level (record { condition = e; block = b })) ∙ h)))))

-- The tokens of a printed block are a block that says the same, from some bound on.
pub block_makes : (b : Block) → is_block b ≡ true → InsideMade b
block_makes = ind-Block (λ i. sayable_instr i ≡ true → InstrMade i) (λ a. sayable_arm a ≡ true → From (λ n. ArmDerived n a)) (λ b. is_block b ≡ true → InsideMade b)
    (λ x y e. subst (λ (z : Instr-F Instr Arm Block). sayable_instr (roll-Instr z) ≡ true → InstrMade (roll-Instr z)) e
    (instr_rolled (λ s. s.0) (λ s. s.0) (λ s. s.0) (λ s. s.1) (λ s. s.1) y))
    (λ x y e. subst (λ (z : Arm-F Instr Arm Block). sayable_arm (roll-Arm z) ≡ true → From (λ n. ArmDerived n (roll-Arm z))) e
    (arm_rolled y.condition y.block.0 y.block.1))
    (λ x y e. subst (λ (z : Block-F Instr Arm Block). is_block (roll-Block z) ≡ true → InsideMade (roll-Block z)) e
    (block_rolled (λ s. s.0) (λ s. s.1) y.instrs))
