-- Each piece of a chain's outline keeps a property that its steps, conditions and statements have.
use Rattle.std.proofs.Common.{sym, refl, subst, ℕ, List, [], ◌∷◌, ◌++◌, map}
use Rattle.std.specs.Prelude.{codes, flat_map}
use Rattle.std.specs.List.{AllByRecursion}
use Rattle.wc_handlers.specs.declared.spec.Handler.{Handler}
use Rattle.wc_handlers.specs.declared.spec.Remedy.{Remedy}
use Rattle.wc_handlers.specs.declared.spec.Remedy.TheVariants as remedy
use Rattle.wc_handlers.specs.declared.spec.Spec.{Spec}
use Rattle.wc_syntax.specs.Mentions.{Piece, Begins, Named, Does, Tests, step_pieces, instr_pieces, arm_pieces, block_pieces, pieces}
use Rattle.wc_syntax.specs.declared.definition.Definition.{Definition}
use Rattle.wc_syntax.specs.declared.definition.Port.{Port}
use Rattle.wc_syntax.specs.declared.expression.Expr.{Expr}
use Rattle.wc_syntax.specs.declared.outline.Stmt.{Stmt}
use Rattle.wc_restart.specs.Chains.{by_priority, chain_of}
use Rattle.wc_restart.specs.Pieces.{word, input, plain, call_with}
use Rattle.wc_restart.specs.Ports.{inputs_of, asked_of, given_of}
use Rattle.wc_restart.specs.Sources.{of_fix}
use Rattle.wc_restart.specs.Statements.{goes_on, has_succeeded, is_one_of, setting, counting, passing, ending, mending, failing, closing}
use Rattle.wc_restart.proofs.Outlined.{outline_folded, remedy_made, handler_made, outline_made}
use Rattle.wc_expansion.proofs.Lists.{all_append, all_map, all_flat}
use Rattle.wc_expansion.proofs.Mentioned.{Short}

module _ (Q : Piece → Type 0) where
  abbrev pub All : List Piece → Type 0
  All = AllByRecursion Q

  abbrev pub AllDone : List Stmt → Type 0
  AllDone = AllByRecursion (λ t. Q (Does t))

  abbrev pub Begun : Type 0
  Begun = Q (Begins 0)

  abbrev pub NamesKept : Type 0
  NamesKept = (n : List ℕ) → Short n → Q (Named (word n))

  -- with the chain's inputs, and with the outputs of the last function
  pub record Calls (callee key : List ℕ) (ports : List Port) : Type 0 where
    pub fresh : Q (Does (call_with callee input ports key))
    pub fixed : Q (Does (call_with callee of_fix ports key))

  abbrev pub Remedied : List Definition → Remedy → Type 0
  Remedied library (remedy.Abort status) = AllDone (ending status)
  Remedied library (remedy.Call name) = Calls name (codes "fix") (inputs_of name library)

  -- what is asked of the parts of a chain
  pub record Parts (library : List Definition) (s : Spec) : Type 0 where
    pub begins : Begun
    pub named : NamesKept
    pub is_fresh : Q (Tests (plain (codes "fresh")))
    pub goes : Q (Tests (goes_on s.most))
    pub succeeded : Q (Tests has_succeeded)
    pub handled : (ns : List ℕ) → Q (Tests (is_one_of ns))
    pub sets : AllDone setting
    pub counts : AllDone counting
    pub passes : AllDone (passing (given_of s.job library))
    pub mends : AllDone mending
    pub fails : AllDone failing
    pub closes : AllDone closing
    pub tries : Calls s.job (codes "job") (asked_of s.job library)
    pub remedies : AllByRecursion (λ h. Remedied library h.remedy) (by_priority s.handlers)

  module _ (library : List Definition) (s : Spec) (p : Parts library s) where
    step_all : (name : List ℕ) (stmts : List Stmt) → Short name → AllDone stmts → All (step_pieces (record { at = 0; name = word name; stmts = stmts }))
    step_all name stmts h a = (p.begins, (p.named name h, all_map Q Does stmts a))

    arm_all : (e : Expr) (is : List (List Piece)) → Q (Tests e) → AllByRecursion All is → All (Tests e ∷ flat_map (λ ps. ps) is)
    arm_all e is t a = (t, all_flat Q (λ ps. ps) is a)

    either_all : (arms is : List (List Piece)) → AllByRecursion All arms → AllByRecursion All is → All (Begins 0 ∷ (flat_map (λ ps. ps) arms ++ flat_map (λ ps. ps) is))
    either_all arms is a b = (p.begins, all_append Q (flat_map (λ ps. ps) arms) (flat_map (λ ps. ps) is) (all_flat Q (λ ps. ps) arms a) (all_flat Q (λ ps. ps) is b))

    abbrev called : List ℕ → (callee key : List ℕ) → (List ℕ → Expr) → List Port → List Piece
    called name callee key source ports = step_pieces (record { at = 0; name = word name; stmts = call_with callee source ports key ∷ [] })

    abbrev calls_of : (one two callee key : List ℕ) → List Port → List Piece
    calls_of one two callee key ports =
        Begins 0 ∷ (flat_map (λ ps. ps) ((Tests (plain (codes "fresh")) ∷ flat_map (λ ps. ps) (called one callee key input ports ∷ [])) ∷ [])
        ++ flat_map (λ ps. ps) (called two callee key of_fix ports ∷ []))

    calls_all : (one two callee key : List ℕ) (ports : List Port) → Short one → Short two → Calls callee key ports → All (calls_of one two callee key ports)
    calls_all one two callee key ports h k c =
        either_all ((Tests (plain (codes "fresh")) ∷ flat_map (λ ps. ps) (called one callee key input ports ∷ [])) ∷ []) (called two callee key of_fix ports ∷ [])
        (arm_all (plain (codes "fresh")) (called one callee key input ports ∷ []) p.is_fresh (step_all one (call_with callee input ports key ∷ []) h (c.fresh, tt), tt), tt)
        (step_all two (call_with callee of_fix ports key ∷ []) k (c.fixed, tt), tt)

    remedy_all : (r : Remedy) → Remedied library r → AllByRecursion All (remedy_made instr_pieces arm_pieces block_pieces library r)
    remedy_all (remedy.Abort status) a = (step_all (codes "stop") (ending status) refl a, tt)
    remedy_all (remedy.Call name) c =
        (calls_all (codes "mend") (codes "remend") name (codes "fix") (inputs_of name library) refl refl c, (step_all (codes "mended") mending refl p.mends, tt))

    handlers_all : (hs : List Handler) → AllByRecursion (λ h. Remedied library h.remedy) hs → AllByRecursion All (map (handler_made instr_pieces arm_pieces block_pieces library) hs)
    handlers_all [] a = tt
    handlers_all (h ∷ hs) a =
        (arm_all (is_one_of h.statuses) (remedy_made instr_pieces arm_pieces block_pieces library h.remedy) (p.handled h.statuses) (remedy_all h.remedy a.0), handlers_all hs a.1)

    abbrev good_piece : List Piece
    good_piece = Tests has_succeeded ∷ flat_map (λ ps. ps) (step_pieces (record { at = 0; name = word (codes "good"); stmts = passing (given_of s.job library) }) ∷ [])

    abbrev arms_of : List (List Piece)
    arms_of = good_piece ∷ map (handler_made instr_pieces arm_pieces block_pieces library) (by_priority s.handlers)

    arms_all : AllByRecursion All arms_of
    arms_all = (
      arm_all has_succeeded (step_pieces (record { at = 0; name = word (codes "good"); stmts = passing (given_of s.job library) }) ∷ []) p.succeeded
          (step_all (codes "good") (passing (given_of s.job library)) refl p.passes, tt),
      handlers_all (by_priority s.handlers) p.remedies,
    )

    abbrev step_of : List ℕ → List Stmt → List Piece
    step_of name stmts = step_pieces (record { at = 0; name = word name; stmts = stmts })

    abbrev turn_of : List (List Piece)
    turn_of =
        calls_of (codes "start") (codes "again") s.job (codes "job") (asked_of s.job library)
        ∷ (step_of (codes "counted") counting
        ∷ ((Begins 0 ∷ (flat_map (λ ps. ps) arms_of ++ flat_map (λ ps. ps) (step_of (codes "unhandled") failing ∷ []))) ∷ []))

    turn_all : AllByRecursion All turn_of
    turn_all = (
      calls_all (codes "start") (codes "again") s.job (codes "job") (asked_of s.job library) refl refl p.tries,
      (
        step_all (codes "counted") counting refl p.counts,
        (either_all arms_of (step_of (codes "unhandled") failing ∷ []) arms_all (step_all (codes "unhandled") failing refl p.fails, tt), tt),
      ),
    )

    outline_all : All (outline_made instr_pieces arm_pieces block_pieces library s)
    outline_all = all_flat Q (λ ps. ps) (step_of (codes "setup") setting ∷ ((Begins 0 ∷ Tests (goes_on s.most) ∷ flat_map (λ ps. ps) turn_of) ∷ (step_of (codes "finish") closing ∷ []))) (
      step_all (codes "setup") setting refl p.sets,
      ((p.begins, (p.goes, all_flat Q (λ ps. ps) turn_of turn_all)), (step_all (codes "finish") closing refl p.closes, tt)),
    )

    -- Each piece keeps it.
    pub pieces_all : All (pieces (chain_of library s).outline)
    pieces_all = subst (λ (z : List Piece). All z) (sym (outline_folded instr_pieces arm_pieces block_pieces library s)) outline_all
