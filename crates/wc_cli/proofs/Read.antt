-- What the clauses of `clap` give for the command line.
use Rattle.wc_cli.specs.declared.command.Command.{Command}
use Rattle.std.specs.Prelude.{MatchOption}
use Rattle.std.proofs.Common.{◌≡◌, ◌≢◌, ◌∙◌, ◌&&◌, Bool, true, false, List, [], ◌∷◌, Option, None, Some, Result, Ok, Err, IfOk, refl, sym, subst, inl, inr, true≢false}
use Rattle.std.specs.List.{list_all}
use Rattle.std.specs.Str.{is_utf8}
use Rattle.std.proofs.lemmas.Str.{IsUtf8-from_is_utf8}
use Rattle.clap.specs.Words.{App, Row, Text, HasMatchesOf, HasKind, Kinds, fault_of, is_simple_and_free, kind_of, subcommand_of, subcommand_rows_of}
use Rattle.clap.specs.declared.ArgMatches.{ArgMatches}
use Rattle.clap.specs.declared.error.Error.{Error}
use Rattle.clap.specs.declared.error.ErrorKind.TheVariants as kind
use Rattle.wc_cli.specs.Words.{command_of}
use Rattle.wc_cli.specs.Line.{line_app, command_met}
use Rattle.wc_cli.proofs.Walks.{AreUtf8}
use Rattle.wc_cli.proofs.Whole.{simple, free, meets}

pub read : (app : App) (ws : List Text) (m : ArgMatches) → app ≡ line_app → (is_simple_and_free app ≡ true → fault_of app ws ≡ []) → HasMatchesOf app ws m
    → (fault_of line_app ws ≡ []) × (subcommand_rows_of m ≡ subcommand_of line_app ws)
read app ws m is none has =
    ((subst (λ (a : App). is_simple_and_free a ≡ true → fault_of a ws ≡ []) is none) free, ((subst (λ (a : App). HasMatchesOf a ws m) is has) simple).1)

some_kind : (kinds : Kinds) (e : Error) → kind_of e ≢ kind.OutOfMemory → HasKind kinds e → kinds ≢ []
some_kind [] e other h = λ _. elim h [ inl memory ↦ other memory | inr among ↦ among ]
some_kind (k ∷ ks) e other h = λ none. cc

pub refused : (app : App) (ws : List Text) (e : Error) → app ≡ line_app → (is_simple_and_free app ≡ true → HasKind (fault_of app ws) e) → kind_of e ≢ kind.OutOfMemory → fault_of line_app ws ≢ []
refused app ws e is has other = some_kind (fault_of line_app ws) e other ((subst (λ (a : App). is_simple_and_free a ≡ true → HasKind (fault_of a ws) e) is has) free)

both : (a b : Bool) → (a && b) ≡ true → (a ≡ true) × (b ≡ true)
both true b e = (refl, e)
both false b e = absurd (true≢false (sym e))

are_utf8 : (ws : List Text) → list_all is_utf8 ws ≡ true → AreUtf8 ws
are_utf8 [] e = tt
are_utf8 (w ∷ ws) e = let parts = both (is_utf8 w) (list_all is_utf8 ws) e in (IsUtf8-from_is_utf8 w parts.0, are_utf8 ws parts.1)

-- the command that is met is the one that the words are
pub command_is : (ws : List Text) (met : Option (Text × List Row)) → list_all is_utf8 ws ≡ true → fault_of line_app ws ≡ [] → met ≡ subcommand_of line_app ws → command_met met ≡ command_of ws
command_is ws met utf8 none is = elim (meets ws (are_utf8 ws utf8)) [
  | inl found ↦ sym (found.1 ∙ subst (λ (x : Option (Text × List Row)). command_met (subcommand_of line_app ws) ≡ command_met x) (sym is) refl)
  | inr bad ↦ absurd (bad.0 none)
]

-- words that are refused are no command
pub no_command : (ws : List Text) → list_all is_utf8 ws ≡ true → fault_of line_app ws ≢ [] → None ≡ command_of ws
no_command ws utf8 some = elim (meets ws (are_utf8 ws utf8)) [ inl found ↦ absurd (some found.0) | inr bad ↦ sym bad.1 ]

abbrev Told : List Text → Option ArgMatches → Type 0
Told ws read = MatchOption read (fault_of line_app ws ≢ []) (λ m. (fault_of line_app ws ≡ []) × (subcommand_rows_of m ≡ subcommand_of line_app ws))

pub met_is : {E : Type 0} (words ws : List Text) (read : Option ArgMatches) (m : ArgMatches) (r : Result (Option Command) E) → ws ≡ words → list_all is_utf8 words ≡ true → Told ws read → read ≡ Some m
    → IfOk r (λ c. c ≡ command_met (subcommand_rows_of m)) → IfOk r (λ c. c ≡ command_of words)
met_is words ws read m (Err e) same utf8 told is met = tt
met_is words ws read m (Ok c) same utf8 told is met =
    let taken : Told words (Some m) = subst (λ (o : Option ArgMatches). Told words o) is (subst (λ (w : List Text). Told w read) same told) in
    met ∙ command_is words (subcommand_rows_of m) utf8 taken.0 taken.1

pub none_is : (words ws : List Text) (read : Option ArgMatches) → ws ≡ words → list_all is_utf8 words ≡ true → Told ws read → read ≡ None → None ≡ command_of words
none_is words ws read same utf8 told is =
    let taken : Told words None = subst (λ (o : Option ArgMatches). Told words o) is (subst (λ (w : List Text). Told w read) same told) in
    no_command words utf8 taken
