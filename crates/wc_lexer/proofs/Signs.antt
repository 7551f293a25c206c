-- What words and signs are spelled with.
use Rattle.std.proofs.Common.{◌≡◌, ℕ, ◌<◌, ◌≤◌, ◌⊎◌, inl, inr, ⊎_elim, List, [], ◌∷◌, ◌++◌, length, Bool, true, false, Option, Some, None, refl, sym, ◌∙◌, subst, arith}
use Rattle.std.specs.Prelude.{◌==◌, ◌&&◌, not, nat_eq, nat_le, cond, find}
use Rattle.std.proofs.lemmas.Bool.{and_parts, leb-true, leb-false, false≢true}
use Rattle.std.specs.Char.{is_ascii_digit}
use Rattle.std.specs.List.{starts_with, AllByRecursion}
use Rattle.wc_lexer.specs.declared.token.Word.{Word}
use Rattle.wc_lexer.specs.declared.token.Word.TheVariants as word
use Rattle.wc_lexer.specs.declared.token.Symbol.{Symbol}
use Rattle.wc_lexer.specs.declared.token.Symbol.TheVariants as symbol
use Rattle.std.specs.Str.{bytes_eq}
use Rattle.std.proofs.lemmas.Slice.Eq.{bytes_eq-Decides}
use Rattle.wc_lexer.specs.Spellings.{word_text, symbol_text, words, word_of, symbols, symbol_of}
use Rattle.wc_lexer.specs.Tokens.{begins_name, is_separator}
use Rattle.wc_lexer.specs.Cuts.{is_letters}

pub word_letters : (w : Word) → is_letters (word_text w) ≡ true
word_letters word.Calcfunction = refl
word_letters word.Calcjob = refl
word_letters word.Workchain = refl
word_letters word.Program = refl
word_letters word.Arg = refl
word_letters word.File = refl
word_letters word.Fetch = refl
word_letters word.Parse = refl
word_letters word.Int = refl
word_letters word.Bool = refl
word_letters word.Text = refl
word_letters word.List = refl
word_letters word.Dict = refl
word_letters word.Folder = refl
word_letters word.ExitCode = refl
word_letters word.Invalidates = refl
word_letters word.Let = refl
word_letters word.Out = refl
word_letters word.Exit = refl
word_letters word.If = refl
word_letters word.Step = refl
word_letters word.Elif = refl
word_letters word.Else = refl
word_letters word.While = refl
word_letters word.Return = refl
word_letters word.Ctx = refl
word_letters word.Call = refl
word_letters word.To = refl
word_letters word.Append = refl
word_letters word.Or = refl
word_letters word.And = refl
word_letters word.Not = refl
word_letters word.True = refl
word_letters word.False = refl
word_letters word.Inputs = refl
word_letters word.Trim = refl
word_letters word.Len = refl
word_letters word.Get = refl
word_letters word.Has = refl
word_letters word.Line = refl
word_letters word.Contains = refl
word_letters word.Min = refl
word_letters word.Max = refl
word_letters word.Given = refl
word_letters word.Count = refl
word_letters word.Outputs = refl
word_letters word.Status = refl
word_letters word.Ok = refl

-- neither a letter, a digit nor a quote stands first
abbrev pub is_sign : List ℕ → Bool
is_sign [] = false
is_sign (b ∷ bs) = not (begins_name b) && not (is_ascii_digit b) && not (b == 34)

pub symbol_sign : (s : Symbol) → is_sign (symbol_text s) ≡ true
symbol_sign symbol.OpenBrace = refl
symbol_sign symbol.CloseBrace = refl
symbol_sign symbol.Open = refl
symbol_sign symbol.Close = refl
symbol_sign symbol.OpenSquare = refl
symbol_sign symbol.CloseSquare = refl
symbol_sign symbol.Comma = refl
symbol_sign symbol.Semi = refl
symbol_sign symbol.Colon = refl
symbol_sign symbol.Dot = refl
symbol_sign symbol.Question = refl
symbol_sign symbol.Is = refl
symbol_sign symbol.Equal = refl
symbol_sign symbol.Differs = refl
symbol_sign symbol.Less = refl
symbol_sign symbol.AtMost = refl
symbol_sign symbol.Greater = refl
symbol_sign symbol.AtLeast = refl
symbol_sign symbol.Plus = refl
symbol_sign symbol.Minus = refl
symbol_sign symbol.Star = refl
symbol_sign symbol.Slash = refl
symbol_sign symbol.Percent = refl
symbol_sign symbol.Arrow = refl

-- ---- the longest sign
abbrev is_size : List ℕ → Bool
is_size bs = nat_le 1 (length bs) && nat_le (length bs) 2

symbol_size : (s : Symbol) → is_size (symbol_text s) ≡ true
symbol_size symbol.OpenBrace = refl
symbol_size symbol.CloseBrace = refl
symbol_size symbol.Open = refl
symbol_size symbol.Close = refl
symbol_size symbol.OpenSquare = refl
symbol_size symbol.CloseSquare = refl
symbol_size symbol.Comma = refl
symbol_size symbol.Semi = refl
symbol_size symbol.Colon = refl
symbol_size symbol.Dot = refl
symbol_size symbol.Question = refl
symbol_size symbol.Is = refl
symbol_size symbol.Equal = refl
symbol_size symbol.Differs = refl
symbol_size symbol.Less = refl
symbol_size symbol.AtMost = refl
symbol_size symbol.Greater = refl
symbol_size symbol.AtLeast = refl
symbol_size symbol.Plus = refl
symbol_size symbol.Minus = refl
symbol_size symbol.Star = refl
symbol_size symbol.Slash = refl
symbol_size symbol.Percent = refl
symbol_size symbol.Arrow = refl

-- a sign of two characters
abbrev is_double : Symbol → Bool
is_double s = nat_le 2 (length (symbol_text s))

abbrev doubles : List Symbol
doubles = symbol.Equal ∷ symbol.Differs ∷ symbol.AtMost ∷ symbol.AtLeast ∷ symbol.Arrow ∷ []

abbrev singles : List Symbol
singles = symbol.OpenBrace ∷ symbol.CloseBrace ∷ symbol.Open ∷ symbol.Close ∷ symbol.OpenSquare ∷ symbol.CloseSquare ∷ symbol.Comma ∷ symbol.Semi ∷ symbol.Colon ∷ symbol.Dot ∷ symbol.Question ∷ symbol.Is ∷ symbol.Less ∷ symbol.Greater ∷ symbol.Plus ∷ symbol.Minus ∷ symbol.Star ∷ symbol.Slash ∷ symbol.Percent ∷ []

among_doubles : (P : Symbol → Type 0) → AllByRecursion P doubles → (s : Symbol) → is_double s ≡ true → P s
among_doubles P a symbol.Equal h = a.0
among_doubles P a symbol.Differs h = a.1.0
among_doubles P a symbol.AtMost h = a.1.1.0
among_doubles P a symbol.AtLeast h = a.1.1.1.0
among_doubles P a symbol.Arrow h = a.1.1.1.1.0
among_doubles P a _ h = absurd (cc)

find_at : {X : Type 0} (p : X → Bool) (x y : X) (o : Option X) → (b : Bool) → p y ≡ b → (o ≡ Some x → p x ≡ true) → cond b (Some y) o ≡ Some x → p x ≡ true
find_at p x y o true e l k = let q : y ≡ x = cc in subst (λ z. p z ≡ true) q e
find_at p x y o false e l k = l k

find_passes : {X : Type 0} (p : X → Bool) (xs : List X) (x : X) → find p xs ≡ Some x → p x ≡ true
find_passes p [] x h = absurd (cc)
find_passes p (y ∷ xs) x h = find_at p x y (find p xs) (p y) refl (find_passes p xs x) h

found_at : {X : Type 0} (q : X → Bool) (x y : X) (o : Option X) → (b : Bool) → q x ≡ true → (o ≡ Some y → q y ≡ true) → cond b (Some x) o ≡ Some y → q y ≡ true
found_at q x y o true e k h = let i : x ≡ y = cc in subst (λ z. q z ≡ true) i e
found_at q x y o false e k h = k h

found_in : {X : Type 0} (p q : X → Bool) (xs : List X) (y : X) → AllByRecursion (λ x. q x ≡ true) xs → find p xs ≡ Some y → q y ≡ true
found_in p q [] y a h = absurd (cc)
found_in p q (x ∷ xs) y a h = found_at q x y (find p xs) (p x) a.0 (found_in p q xs y a.1) h

first_at : {X : Type 0} (p : X → Bool) (x y : X) (xs ys : List X) → (b : Bool) → p x ≡ b → (find p (xs ++ ys) ≡ Some y → (find p xs ≡ Some y) ⊎ AllByRecursion (λ x. p x ≡ false) xs)
    → cond b (Some x) (find p (xs ++ ys)) ≡ Some y → (cond b (Some x) (find p xs) ≡ Some y) ⊎ ((p x ≡ false) × AllByRecursion (λ x. p x ≡ false) xs)
first_at p x y xs ys true e l k = inl k
first_at p x y xs ys false e l k = ⊎_elim (λ z. inl z) (λ z. inr (e, z)) (l k)

-- the first that passes stands in the first list, or none of it passes
first_of : {X : Type 0} (p : X → Bool) (xs ys : List X) (y : X) → find p (xs ++ ys) ≡ Some y → (find p xs ≡ Some y) ⊎ AllByRecursion (λ x. p x ≡ false) xs
first_of p [] ys y h = inr tt
first_of p (x ∷ xs) ys y h = first_at p x y xs ys (p x) refl (first_of p xs ys y) h

size : (u : Symbol) → (1 ≤ length (symbol_text u)) × (length (symbol_text u) ≤ 2)
size u = let a = and_parts _ _ (symbol_size u) in (leb-true _ _ a.0, leb-true _ _ a.1)

pub symbol_some : (s : Symbol) → 0 < length (symbol_text s)
symbol_some s = let k = (size s).0 in omega arith

longest_of : (bytes : List ℕ) (s t : Symbol) → is_double t ≡ true → starts_with nat_eq bytes (symbol_text t) ≡ true
    → (find (λ s. starts_with nat_eq bytes (symbol_text s)) doubles ≡ Some s) ⊎ AllByRecursion (λ s. starts_with nat_eq bytes (symbol_text s) ≡ false) doubles
    → length (symbol_text t) ≤ length (symbol_text s)
longest_of bytes s t d k (inl h) =
    let e : is_double s ≡ true = found_in (λ s. starts_with nat_eq bytes (symbol_text s)) is_double doubles s (refl, (refl, (refl, (refl, (refl, tt))))) h in
    omega (arith, leb-true _ _ e, (size t).1)
longest_of bytes s t d k (inr h) =
    let e : starts_with nat_eq bytes (symbol_text t) ≡ false = among_doubles (λ s. starts_with nat_eq bytes (symbol_text s) ≡ false) h t d in
    absurd (false≢true (sym e ∙ k))

longest_at : (bytes : List ℕ) (s t : Symbol) → find (λ s. starts_with nat_eq bytes (symbol_text s)) symbols ≡ Some s → starts_with nat_eq bytes (symbol_text t) ≡ true
    → (b : Bool) → is_double t ≡ b → length (symbol_text t) ≤ length (symbol_text s)
longest_at bytes s t h k true e = longest_of bytes s t e k (first_of (λ s. starts_with nat_eq bytes (symbol_text s)) doubles singles s h)
longest_at bytes s t h k false e = omega (arith, leb-false _ _ e, (size s).0)

pub longest_sign : (bytes : List ℕ) (s t : Symbol) → symbol_of bytes ≡ Some s → starts_with nat_eq bytes (symbol_text t) ≡ true → length (symbol_text t) ≤ length (symbol_text s)
unfolding symbol_of
longest_sign bytes s t h k = longest_at bytes s t h k (is_double t) refl

-- the sign that is found stands in front
pub sign_stands : (bytes : List ℕ) (s : Symbol) → symbol_of bytes ≡ Some s → starts_with nat_eq bytes (symbol_text s) ≡ true
unfolding symbol_of
sign_stands bytes s h = find_passes (λ s. starts_with nat_eq bytes (symbol_text s)) symbols s h

-- the word that is found is spelled so
pub word_spelled : (letters : List ℕ) (w : Word) → word_of letters ≡ Some w → letters ≡ word_text w
unfolding word_of
word_spelled letters w h = sym ((bytes_eq-Decides (word_text w) letters).0 (find_passes (λ w. bytes_eq (word_text w) letters) words w h))

-- each is found by its spelling
pub word_found : (w : Word) → word_of (word_text w) ≡ Some w
unfolding word_of
word_found word.Calcfunction = refl
word_found word.Calcjob = refl
word_found word.Workchain = refl
word_found word.Program = refl
word_found word.Arg = refl
word_found word.File = refl
word_found word.Fetch = refl
word_found word.Parse = refl
word_found word.Int = refl
word_found word.Bool = refl
word_found word.Text = refl
word_found word.List = refl
word_found word.Dict = refl
word_found word.Folder = refl
word_found word.ExitCode = refl
word_found word.Invalidates = refl
word_found word.Let = refl
word_found word.Out = refl
word_found word.Exit = refl
word_found word.If = refl
word_found word.Step = refl
word_found word.Elif = refl
word_found word.Else = refl
word_found word.While = refl
word_found word.Return = refl
word_found word.Ctx = refl
word_found word.Call = refl
word_found word.To = refl
word_found word.Append = refl
word_found word.Or = refl
word_found word.And = refl
word_found word.Not = refl
word_found word.True = refl
word_found word.False = refl
word_found word.Inputs = refl
word_found word.Trim = refl
word_found word.Len = refl
word_found word.Get = refl
word_found word.Has = refl
word_found word.Line = refl
word_found word.Contains = refl
word_found word.Min = refl
word_found word.Max = refl
word_found word.Given = refl
word_found word.Count = refl
word_found word.Outputs = refl
word_found word.Status = refl
word_found word.Ok = refl

pub symbol_found : (s : Symbol) → symbol_of (symbol_text s) ≡ Some s
unfolding symbol_of
symbol_found symbol.OpenBrace = refl
symbol_found symbol.CloseBrace = refl
symbol_found symbol.Open = refl
symbol_found symbol.Close = refl
symbol_found symbol.OpenSquare = refl
symbol_found symbol.CloseSquare = refl
symbol_found symbol.Comma = refl
symbol_found symbol.Semi = refl
symbol_found symbol.Colon = refl
symbol_found symbol.Dot = refl
symbol_found symbol.Question = refl
symbol_found symbol.Is = refl
symbol_found symbol.Equal = refl
symbol_found symbol.Differs = refl
symbol_found symbol.Less = refl
symbol_found symbol.AtMost = refl
symbol_found symbol.Greater = refl
symbol_found symbol.AtLeast = refl
symbol_found symbol.Plus = refl
symbol_found symbol.Minus = refl
symbol_found symbol.Star = refl
symbol_found symbol.Slash = refl
symbol_found symbol.Percent = refl
symbol_found symbol.Arrow = refl

none_passes : {X : Type 0} (p : X → Bool) (x y : X) (o : Option X) → (b : Bool) → p x ≡ b → cond b (Some x) o ≡ None → (p x ≡ false) × (o ≡ None)
none_passes p x y o true e h = absurd (cc)
none_passes p x y o false e h = (e, h)

none_of : {X : Type 0} (p : X → Bool) (xs : List X) → find p xs ≡ None → AllByRecursion (λ x. p x ≡ false) xs
none_of p [] h = tt
none_of p (x ∷ xs) h = let k = none_passes p x x (find p xs) (p x) refl h in (k.0, none_of p xs k.1)

among_symbols : (P : Symbol → Type 0) → AllByRecursion P symbols → (s : Symbol) → P s
among_symbols P a symbol.Equal = a.0
among_symbols P a symbol.Differs = a.1.0
among_symbols P a symbol.AtMost = a.1.1.0
among_symbols P a symbol.AtLeast = a.1.1.1.0
among_symbols P a symbol.Arrow = a.1.1.1.1.0
among_symbols P a symbol.OpenBrace = a.1.1.1.1.1.0
among_symbols P a symbol.CloseBrace = a.1.1.1.1.1.1.0
among_symbols P a symbol.Open = a.1.1.1.1.1.1.1.0
among_symbols P a symbol.Close = a.1.1.1.1.1.1.1.1.0
among_symbols P a symbol.OpenSquare = a.1.1.1.1.1.1.1.1.1.0
among_symbols P a symbol.CloseSquare = a.1.1.1.1.1.1.1.1.1.1.0
among_symbols P a symbol.Comma = a.1.1.1.1.1.1.1.1.1.1.1.0
among_symbols P a symbol.Semi = a.1.1.1.1.1.1.1.1.1.1.1.1.0
among_symbols P a symbol.Colon = a.1.1.1.1.1.1.1.1.1.1.1.1.1.0
among_symbols P a symbol.Dot = a.1.1.1.1.1.1.1.1.1.1.1.1.1.1.0
among_symbols P a symbol.Question = a.1.1.1.1.1.1.1.1.1.1.1.1.1.1.1.0
among_symbols P a symbol.Is = a.1.1.1.1.1.1.1.1.1.1.1.1.1.1.1.1.0
among_symbols P a symbol.Less = a.1.1.1.1.1.1.1.1.1.1.1.1.1.1.1.1.1.0
among_symbols P a symbol.Greater = a.1.1.1.1.1.1.1.1.1.1.1.1.1.1.1.1.1.1.0
among_symbols P a symbol.Plus = a.1.1.1.1.1.1.1.1.1.1.1.1.1.1.1.1.1.1.1.0
among_symbols P a symbol.Minus = a.1.1.1.1.1.1.1.1.1.1.1.1.1.1.1.1.1.1.1.1.0
among_symbols P a symbol.Star = a.1.1.1.1.1.1.1.1.1.1.1.1.1.1.1.1.1.1.1.1.1.0
among_symbols P a symbol.Slash = a.1.1.1.1.1.1.1.1.1.1.1.1.1.1.1.1.1.1.1.1.1.1.0
among_symbols P a symbol.Percent = a.1.1.1.1.1.1.1.1.1.1.1.1.1.1.1.1.1.1.1.1.1.1.1.0

-- bytes that begin with a sign are found to
pub sign_is_found : (bytes : List ℕ) (s : Symbol) → starts_with nat_eq bytes (symbol_text s) ≡ true → symbol_of bytes ≡ None → ⊥
unfolding symbol_of
sign_is_found bytes s h k =
    let e = among_symbols (λ s. starts_with nat_eq bytes (symbol_text s) ≡ false) (none_of (λ s. starts_with nat_eq bytes (symbol_text s)) symbols k) s in
    absurd (false≢true (sym e ∙ h))

-- neither a separator nor the sign of a comment stands first
abbrev pub is_mark : List ℕ → Bool
is_mark [] = false
is_mark (b ∷ bs) = not (is_separator b) && not (b == 35)

pub symbol_mark : (s : Symbol) → is_mark (symbol_text s) ≡ true
symbol_mark = among_symbols (λ s. is_mark (symbol_text s) ≡ true) (refl, (refl, (refl, (refl, (refl, (refl, (refl, (refl, (refl, (refl, (refl, (refl, (refl, (refl, (refl, (refl, (refl, (refl, (refl, (refl, (refl, (refl, (refl, (refl, tt))))))))))))))))))))))))
