-- A second file isn't asked for where the first is refused.
use Rattle.std.proofs.Common.{◌≡◌, ℕ, List, [], ◌∷◌, ◌++◌, Option, Some, ap, ◌∙◌}
use Rattle.std.specs.Prelude.{IsSome}
use Rattle.wc_cli.specs.declared.command.Command.TheVariants.{Expand}
use Rattle.wc_plan.specs.declared.libraries.Read.{Read}
use Rattle.wc_plan.specs.declared.libraries.Read.TheVariants as read
use Rattle.wc_plan.specs.declared.status.Cause.{Cause}
use Rattle.wc_plan.specs.Expand.{asked_behind, SparesSpec}
use Rattle.wc_plan.specs.Files.{ReadsFrom}
use Rattle.wc_plan.specs.Naming.{AsksFirst}
use Rattle.wc_plan.proofs.Naming.{asks_all, asks_one, asks_behind}
use Rattle.wc_plan.proofs.Once.{one_from}

-- the library's file alone was asked for
pub spared_first : (told : Option (List ℕ → Option (List ℕ))) (file spec : List ℕ) (old new : List (List ℕ)) → new ≡ old ++ (file ∷ []) → SparesSpec told (Some (Expand file spec)) old new
spared_first told file spec old new one = λ some c refused. asks_all (file ∷ []) old new one

behind_nothing : (told : Option (List ℕ → Option (List ℕ))) (file spec : List ℕ) (r : Read) (old mid new : List (List ℕ)) (c : Cause) → IsSome told → ReadsFrom told file r
    → ReadsFrom told file (read.Refused c) → mid ≡ old ++ (file ∷ []) → new ≡ mid ++ asked_behind spec r → AsksFirst (file ∷ []) old new
behind_nothing told file spec r old mid new c some reads refused one then =
    asks_all (file ∷ []) old new
    (asks_behind file [] old mid new one (then ∙ ap (λ (x : Read). mid ++ asked_behind spec x) (one_from told file r (read.Refused c) some reads refused)))

-- what the library's file is read as says which files are asked for behind it
pub spared : (told : Option (List ℕ → Option (List ℕ))) (file spec : List ℕ) (r : Read) (old mid new : List (List ℕ)) → ReadsFrom told file r
    → mid ≡ old ++ (file ∷ []) → new ≡ mid ++ asked_behind spec r → SparesSpec told (Some (Expand file spec)) old new
spared told file spec r old mid new reads one then = λ some c refused. behind_nothing told file spec r old mid new c some reads refused one then

abbrev both : List ℕ → List ℕ → List (List ℕ)
both file spec = file ∷ spec ∷ []

asks_as_read : (file spec : List ℕ) (r : Read) (old mid new : List (List ℕ)) → mid ≡ old ++ (file ∷ []) → new ≡ mid ++ asked_behind spec r → AsksFirst (both file spec) old new
asks_as_read file spec (read.Refused c) old mid new one then = asks_one file (spec ∷ []) old new (asks_behind file [] old mid new one then)
asks_as_read file spec (read.Library library) old mid new one then = asks_all (both file spec) old new (asks_behind file (spec ∷ []) old mid new one then)

pub asks_both : (file spec : List ℕ) (r : Read) (old mid new : List (List ℕ)) → mid ≡ old ++ (file ∷ []) → new ≡ mid ++ asked_behind spec r → AsksFirst (file ∷ spec ∷ []) old new
asks_both file spec r old mid new one then = asks_as_read file spec r old mid new one then
