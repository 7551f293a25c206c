-- In a library that is kept each call of a chain gives every required port of what it calls.
use Rattle.std.proofs.Common.{◌≡◌, ℕ, Bool, true, false, List, [], ◌∷◌, ◌++◌, Some, None, map, refl, sym, ap, subst, ◌∙◌}
use Rattle.std.specs.Prelude.{flat_map, if◌then◌else◌, option_map}
use Rattle.std.specs.List.{AllByRecursion}
use Rattle.std.specs.Str.{bytes_eq}
use Rattle.wc_syntax.specs.Bare.{at_arm, at_block, at_instr, bare_arg, bare_arm, bare_block, bare_call, bare_chain, bare_definition, bare_expr, bare_instr, bare_library, bare_port, bare_stmt, instr_level}
use Rattle.wc_syntax.specs.Checked.{IsCheckedDefinition}
use Rattle.wc_syntax.specs.Findings.{Finding, call_of, called_ports, definition_named, given_ports, head_of, is_among, missing_of, missing_port, port_missing, required_name, required_names, stmt_of, unless}
use Rattle.wc_syntax.specs.Mentions.{Piece, Begins, Named, Does, Tests, Returns, arm_pieces, block_pieces, instr_pieces, pieces}
use Rattle.wc_syntax.specs.declared.definition.Chain.{Chain}
use Rattle.wc_syntax.specs.declared.definition.Definition.{Definition}
use Rattle.wc_syntax.specs.declared.definition.Definition.TheVariants as definition
use Rattle.wc_syntax.specs.declared.definition.Port.{Port}
use Rattle.wc_syntax.specs.declared.outline.Arm.{Arm, out-Arm, fold-Arm, fold_out-Arm, out-roll-Arm}
use Rattle.wc_syntax.specs.declared.outline.Block.{Block, fold_out-Block, out-roll-Block}
use Rattle.wc_syntax.specs.declared.outline.CallArg.{CallArg}
use Rattle.wc_syntax.specs.declared.outline.CallStmt.{CallStmt}
use Rattle.wc_syntax.specs.declared.outline.Instr.{Instr, out-Instr, map-Instr, fold-Instr, fold_out-Instr, out-roll-Instr}
use Rattle.wc_syntax.specs.declared.outline.Instr.TheOpen.{Instr-F, Arm-F, Block-F}
use Rattle.wc_syntax.specs.declared.outline.Stmt.{Stmt}
use Rattle.wc_syntax.specs.declared.outline.Stmt.TheVariants as stmt
use Rattle.wc_semantics.specs.Laws.{arm_block}
use Rattle.wc_semantics.specs.Run.{instrs}
use Rattle.wc_semantics.proofs.Induction.{AllOf, Inside, every_block}
use Rattle.wc_machine.specs.Outlines.{Blocks, blocks, blocks_in}
use Rattle.wc_machine.specs.Submissions.{IsKeptLibrary}
use Rattle.wc_turn_laws.proofs.Numbering.{arm_blocks, blocks_are, blocks_in_are, listed, opened_blocks}

-- ---- lists

all_front : {A : Type 0} (P : A → Type 0) (xs ys : List A) → AllOf P (xs ++ ys) → AllOf P xs
all_front P [] ys h = tt
all_front P (x ∷ xs) ys h = (h.0, all_front P xs ys h.1)

all_back : {A : Type 0} (P : A → Type 0) (xs ys : List A) → AllOf P (xs ++ ys) → AllOf P ys
all_back P [] ys h = h
all_back P (x ∷ xs) ys h = all_back P xs ys h.1

all_both : {A : Type 0} (P : A → Type 0) (xs ys : List A) → AllOf P xs → AllOf P ys → AllOf P (xs ++ ys)
all_both P [] ys h k = k
all_both P (x ∷ xs) ys h k = (h.0, all_both P xs ys h.1 k)

empty_front : {A : Type 0} (xs ys : List A) → xs ++ ys ≡ [] → xs ≡ []
empty_front [] ys h = refl
empty_front (x ∷ xs) ys h = absurd (cc)

empty_back : {A : Type 0} (xs ys : List A) → xs ++ ys ≡ [] → ys ≡ []
empty_back [] ys h = h
empty_back (x ∷ xs) ys h = absurd (cc)

-- ---- calls in an outline

-- what holds of a statement that is a call
abbrev pub OfCall : (CallStmt → Type 0) → Stmt → Type 0
OfCall H (stmt.Ctx at n e) = Unit {0}
OfCall H (stmt.Out at n e) = Unit {0}
OfCall H (stmt.Exit x) = Unit {0}
OfCall H (stmt.Call c) = H c

abbrev pub OfStep : (CallStmt → Type 0) → Instr-F Instr Arm Block → Type 0
OfStep H (Instr-F.Step s) = AllOf (OfCall H) s.stmts
OfStep H (Instr-F.If at arms other) = Unit {0}
OfStep H (Instr-F.While at e b) = Unit {0}
OfStep H (Instr-F.Return at n) = Unit {0}

-- of each call of each step of blocks
abbrev pub OfBlocks : (CallStmt → Type 0) → Blocks → Type 0
OfBlocks H bs = AllOf (AllOf (λ i. OfStep H (out-Instr i))) bs

abbrev OfPiece : (CallStmt → Type 0) → Piece → Type 0
OfPiece G (Begins at) = Unit {0}
OfPiece G (Named n) = Unit {0}
OfPiece G (Does s) = OfCall G s
OfPiece G (Tests e) = Unit {0}
OfPiece G (Returns n) = Unit {0}

module _ (G H : CallStmt → Type 0) (gives : (c : CallStmt) → G c → H (bare_call c)) where
  abbrev of_instr : Instr → List Piece
  of_instr = fold-Instr (List Piece) (List Piece) (List Piece) instr_pieces arm_pieces block_pieces

  abbrev of_arm : Arm → List Piece
  of_arm = fold-Arm (List Piece) (List Piece) (List Piece) instr_pieces arm_pieces block_pieces

  -- what holds of the pieces of a block holds of the calls in its bare form
  abbrev OfBlock : Block → Type 0
  OfBlock b = AllOf (OfPiece G) (pieces b) → OfBlocks H (blocks (bare_block b))

  abbrev OfInstr : Instr → Type 0
  OfInstr i = AllOf (OfPiece G) (of_instr i) → OfStep H (out-Instr (bare_instr i)) × OfBlocks H (blocks_in (bare_instr i))

  stmts_bare : (ss : List Stmt) → AllOf (OfPiece G) (map Does ss) → AllOf (OfCall H) (map bare_stmt ss)
  stmts_bare [] h = tt
  stmts_bare (stmt.Ctx at n e ∷ ss) h = (tt, stmts_bare ss h.1)
  stmts_bare (stmt.Out at n e ∷ ss) h = (tt, stmts_bare ss h.1)
  stmts_bare (stmt.Exit x ∷ ss) h = (tt, stmts_bare ss h.1)
  stmts_bare (stmt.Call c ∷ ss) h = (gives c h.0, stmts_bare ss h.1)

  arm_is_bare : (x : Arm) → arm_block (bare_arm x) ≡ bare_block (arm_block x)
  arm_is_bare x =
      let z : Arm-F Instr Arm Block = record { condition = bare_expr (out-Arm x).condition; block = bare_block (arm_block x) } in
      ap arm_block (fold_out-Arm Instr Arm Block at_instr at_arm at_block x) ∙ ap (λ (y : Arm-F Instr Arm Block). y.block) (out-roll-Arm z)

  arms_bare : (xs : List Arm) → AllOf (λ x. OfBlock (arm_block x)) xs → AllOf (OfPiece G) (flat_map (λ ps. ps) (map of_arm xs)) → OfBlocks H (arm_blocks (map bare_arm xs))
  arms_bare [] each h = tt
  arms_bare (x ∷ xs) each h =
      let own : AllOf (OfPiece G) (of_arm x) = all_front (OfPiece G) (of_arm x) (flat_map (λ ps. ps) (map of_arm xs)) h in
      let opened : AllOf (OfPiece G) (arm_pieces (record { condition = (out-Arm x).condition; block = pieces (arm_block x) })) = subst (AllOf (OfPiece G)) (fold_out-Arm (List Piece) (List Piece) (List Piece) instr_pieces arm_pieces block_pieces x) own in
      all_both (AllOf (λ i. OfStep H (out-Instr i))) (blocks (arm_block (bare_arm x))) (arm_blocks (map bare_arm xs))
      (subst (λ (b : Block). OfBlocks H (blocks b)) (sym (arm_is_bare x)) (each.0 opened.1))
      (arms_bare xs each.1 (all_back (OfPiece G) (of_arm x) (flat_map (λ ps. ps) (map of_arm xs)) h))

  level_bare : (y : Instr-F Instr Arm Block) → Inside OfBlock y
      → AllOf (OfPiece G) (instr_pieces (map-Instr Instr Arm Block (List Piece) (List Piece) (List Piece) of_instr of_arm pieces y))
      → OfStep H (instr_level (map-Instr Instr Arm Block Instr Arm Block bare_instr bare_arm bare_block y))
      × OfBlocks H (opened_blocks (instr_level (map-Instr Instr Arm Block Instr Arm Block bare_instr bare_arm bare_block y)))
  level_bare (Instr-F.Step s) t h = (stmts_bare s.stmts h.1.1, tt)
  level_bare (Instr-F.If at arms None) t h = (
    tt,
    all_both (AllOf (λ i. OfStep H (out-Instr i))) (arm_blocks (map bare_arm arms)) []
        (arms_bare arms t.0 (all_front (OfPiece G) (flat_map (λ ps. ps) (map of_arm arms)) [] h.1)) tt,
  )
  level_bare (Instr-F.If at arms (Some b)) t h = (
    tt,
    all_both (AllOf (λ i. OfStep H (out-Instr i))) (arm_blocks (map bare_arm arms)) (blocks (bare_block b))
        (arms_bare arms t.0 (all_front (OfPiece G) (flat_map (λ ps. ps) (map of_arm arms)) (pieces b) h.1))
        (t.1 (all_back (OfPiece G) (flat_map (λ ps. ps) (map of_arm arms)) (pieces b) h.1)),
  )
  level_bare (Instr-F.While at e b) t h = (tt, t h.1.1)
  level_bare (Instr-F.Return at n) t h = (tt, tt)

  instr_bare : (i : Instr) → Inside OfBlock (out-Instr i) → OfInstr i
  instr_bare i t h =
      let opened = subst (AllOf (OfPiece G)) (fold_out-Instr (List Piece) (List Piece) (List Piece) instr_pieces arm_pieces block_pieces i) h in
      let level = level_bare (out-Instr i) t opened in
      let is : out-Instr (bare_instr i) ≡ instr_level (map-Instr Instr Arm Block Instr Arm Block bare_instr bare_arm bare_block (out-Instr i))
      = ap out-Instr (fold_out-Instr Instr Arm Block at_instr at_arm at_block i)
      ∙ out-roll-Instr (instr_level (map-Instr Instr Arm Block Instr Arm Block bare_instr bare_arm bare_block (out-Instr i))) in (
        subst (OfStep H) (sym is) level.0,
        subst (OfBlocks H) (sym (blocks_in_are (bare_instr i) ∙ ap opened_blocks is)) level.1,
      )

  instrs_are_bare : (b : Block) → instrs (bare_block b) ≡ map bare_instr (instrs b)
  instrs_are_bare b =
      let z : Block-F Instr Arm Block = record { instrs = map bare_instr (instrs b) } in
      ap instrs (fold_out-Block Instr Arm Block at_instr at_arm at_block b) ∙ ap (λ (y : Block-F Instr Arm Block). y.instrs) (out-roll-Block z)

  list_bare : (is : List Instr) → AllOf OfInstr is → AllOf (OfPiece G) (flat_map (λ ps. ps) (map of_instr is))
      → AllOf (λ i. OfStep H (out-Instr i)) (map bare_instr is) × OfBlocks H (flat_map blocks_in (map bare_instr is))
  list_bare [] each h = (tt, tt)
  list_bare (i ∷ is) each h =
      let own = each.0 (all_front (OfPiece G) (of_instr i) (flat_map (λ ps. ps) (map of_instr is)) h) in
      let rest = list_bare is each.1 (all_back (OfPiece G) (of_instr i) (flat_map (λ ps. ps) (map of_instr is)) h) in (
        (own.0, rest.0),
        all_both (AllOf (λ j. OfStep H (out-Instr j))) (blocks_in (bare_instr i)) (flat_map blocks_in (map bare_instr is)) own.1 rest.1,
      )

  block_bare : (b : Block) → AllOf OfInstr (instrs b) → OfBlock b
  block_bare b each h =
      let opened = subst (AllOf (OfPiece G)) (fold_out-Block (List Piece) (List Piece) (List Piece) instr_pieces arm_pieces block_pieces b) h in
      let all = list_bare (instrs b) each opened in
      let is : blocks (bare_block b) ≡ listed (map bare_instr (instrs b)) = blocks_are (bare_block b) ∙ ap listed (instrs_are_bare b) in
      subst (OfBlocks H) (sym is) (all.0, all.1)

  pub every_bare : (b : Block) → OfBlock b
  every_bare = every_block OfInstr OfBlock instr_bare block_bare

-- ---- a checked library

-- a call gives each required port of what it calls
abbrev pub GivesRequired : List Definition → CallStmt → Type 0
GivesRequired library c =
    (d : Definition) → definition_named c.callee.text library ≡ Some d → AllOf (λ n. is_among n (given_ports c) ≡ true) (required_names (head_of d).inputs)

abbrev MissesNone : List Definition → CallStmt → Type 0
MissesNone library c = missing_of c (called_ports library c) ≡ []

pieces_miss : (f : CallStmt → List Finding) (ps : List Piece) → flat_map f (flat_map call_of (flat_map stmt_of ps)) ≡ [] → AllOf (OfPiece (λ c. f c ≡ [])) ps
pieces_miss f [] h = tt
pieces_miss f (Begins at ∷ ps) h = (tt, pieces_miss f ps h)
pieces_miss f (Named n ∷ ps) h = (tt, pieces_miss f ps h)
pieces_miss f (Does (stmt.Ctx at n e) ∷ ps) h = (tt, pieces_miss f ps h)
pieces_miss f (Does (stmt.Out at n e) ∷ ps) h = (tt, pieces_miss f ps h)
pieces_miss f (Does (stmt.Exit x) ∷ ps) h = (tt, pieces_miss f ps h)
pieces_miss f (Does (stmt.Call c) ∷ ps) h =
    let rest : List Finding = flat_map f (flat_map call_of (flat_map stmt_of ps)) in
    (empty_front (f c) rest h, pieces_miss f ps (empty_back (f c) rest h))
pieces_miss f (Tests e ∷ ps) h = (tt, pieces_miss f ps h)
pieces_miss f (Returns n ∷ ps) h = (tt, pieces_miss f ps h)

ports_given : (c : CallStmt) → given_ports (bare_call c) ≡ given_ports c
ports_given c = each c.args
  where
    each : (xs : List CallArg) → map (λ a. a.port.text) (map bare_arg xs) ≡ map (λ a. a.port.text) xs
    each [] = refl
    each (x ∷ xs) = ap (λ (l : List (List ℕ)). x.port.text ∷ l) (each xs)

required_bare : (ps : List Port) → required_names (map bare_port ps) ≡ required_names ps
required_bare [] = refl
required_bare (p ∷ ps) = ap (λ (l : List (List ℕ)). required_name p ++ l) (required_bare ps)

head_named : (d : Definition) → (head_of (bare_definition d)).name.text ≡ (head_of d).name.text
head_named (definition.Function f) = refl
head_named (definition.Job j) = refl
head_named (definition.Chain c) = refl

head_ports : (d : Definition) → (head_of (bare_definition d)).inputs ≡ map bare_port (head_of d).inputs
head_ports (definition.Function f) = refl
head_ports (definition.Job j) = refl
head_ports (definition.Chain c) = refl

-- a definition of the bare library is the bare form of one
named_bare : (name : List ℕ) (l : List Definition) (d : Definition) → definition_named name (bare_library l) ≡ Some d
    → (o : Definition) × (definition_named name l ≡ Some o) × (bare_definition o ≡ d)
named_bare name [] d h = absurd (cc)
named_bare name (x ∷ xs) d h =
    at (bytes_eq (head_of x).name.text name) (ap (λ (n : List ℕ). if bytes_eq n name then Some (bare_definition x) else definition_named name (bare_library xs)) (sym (head_named x)) ∙ h)
    (named_bare name xs d)
  where
    at : (b : Bool) → (if b then Some (bare_definition x) else definition_named name (bare_library xs)) ≡ Some d
        → (definition_named name (bare_library xs) ≡ Some d → (o : Definition) × (definition_named name xs ≡ Some o) × (bare_definition o ≡ d))
        → (o : Definition) × ((if b then Some x else definition_named name xs) ≡ Some o) × (bare_definition o ≡ d)
    at true e rest = (x, refl, cc)
    at false e rest = rest e

by_unless : (b : Bool) (f : Finding) (rest : List Finding) → unless b f ++ rest ≡ [] → (b ≡ true) × (rest ≡ [])
by_unless true f rest h = (refl, h)
by_unless false f rest h = absurd (cc)

all_among : (given : List (List ℕ)) (at : ℕ) (names : List (List ℕ)) → flat_map (missing_port given at) names ≡ [] → AllOf (λ n. is_among n given ≡ true) names
all_among given at [] h = tt
all_among given at (n ∷ ns) h =
    let b = by_unless (is_among n given) (port_missing n at) (flat_map (missing_port given at) ns) h in
    (b.0, all_among given at ns b.1)

gives_bare : (l : List Definition) (c : CallStmt) → MissesNone l c → GivesRequired (bare_library l) (bare_call c)
gives_bare l c h d named =
    let o = named_bare c.callee.text l d named in
    let ports : called_ports l c ≡ Some (head_of o.0).inputs = ap (option_map (λ (x : Definition). (head_of x).inputs)) o.1 in
    let none : flat_map (missing_port (given_ports c) c.at) (required_names (head_of o.0).inputs) ≡ [] = sym (ap (missing_of c) ports) ∙ h in
    let same : (head_of d).inputs ≡ map bare_port (head_of o.0).inputs = ap (λ (x : Definition). (head_of x).inputs) (sym o.2) ∙ head_ports o.0 in
    subst (λ (names : List (List ℕ)). AllOf (λ n. is_among n (given_ports (bare_call c)) ≡ true) names) (sym (ap required_names same ∙ required_bare (head_of o.0).inputs))
    (subst (λ (given : List (List ℕ)). AllOf (λ n. is_among n given ≡ true) (required_names (head_of o.0).inputs)) (sym (ports_given c))
    (all_among (given_ports c) c.at (required_names (head_of o.0).inputs) none))

-- the definition that is found is checked
checked_named : (library ds : List Definition) (name : List ℕ) (o : Definition) → AllByRecursion (IsCheckedDefinition library) ds → definition_named name ds ≡ Some o
    → IsCheckedDefinition library o
checked_named library [] name o h e = absurd (cc)
checked_named library (d ∷ ds) name o h e = at (bytes_eq (head_of d).name.text name) e (checked_named library ds name o h.1)
  where
    at : (b : Bool) → (if b then Some d else definition_named name ds) ≡ Some o → (definition_named name ds ≡ Some o → IsCheckedDefinition library o) → IsCheckedDefinition library o
    at true e rest = let same : d ≡ o = cc in subst (IsCheckedDefinition library) same h.0
    at false e rest = rest e

chain_gives : (l : List Definition) (o : Definition) (k : Chain) → IsCheckedDefinition l o → bare_definition o ≡ definition.Chain k
    → OfBlocks (GivesRequired (bare_library l)) (blocks k.outline)
chain_gives l (definition.Function f) k h e = absurd (cc)
chain_gives l (definition.Job j) k h e = absurd (cc)
chain_gives l (definition.Chain c) k h e =
    let same : bare_chain c ≡ k = cc in
    subst (λ (x : Chain). OfBlocks (GivesRequired (bare_library l)) (blocks x.outline)) same
    (every_bare (MissesNone l) (GivesRequired (bare_library l)) (gives_bare l) c.outline (pieces_miss (λ x. missing_of x (called_ports l x)) (pieces c.outline) h.required_given))

-- Each call in the blocks of a chain of a kept library gives each required port.
pub calls_give : (library : List Definition) (name : List ℕ) (k : Chain) → IsKeptLibrary library → definition_named name library ≡ Some (definition.Chain k)
    → OfBlocks (GivesRequired library) (blocks k.outline)
calls_give library name k kept named =
    let l : List Definition = kept.0 in
    let o = named_bare name l (definition.Chain k) (ap (definition_named name) kept.2 ∙ named) in
    subst (λ (x : List Definition). OfBlocks (GivesRequired x) (blocks k.outline)) kept.2 (chain_gives l o.0 k (checked_named l l name o.0 kept.1.rules.each o.1) o.2)
