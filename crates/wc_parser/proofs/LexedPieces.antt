-- Pieces of a text whose tokens are known, one behind another.
use Rattle.std.proofs.Common.{◌≡◌, ℕ, List, [], ◌∷◌, ◌++◌, Bool, true, Option, Some, None, Result, Ok, Err, refl, sym, ap, ◌∙◌, subst, append_assoc, append-nil, map}
use Rattle.std.specs.Prelude.{flat_map}
use Rattle.std.specs.List.{list_all}
use Rattle.std.proofs.lemmas.Bool.{and_parts}
use Rattle.wc_lexer.specs.declared.token.Token.{Token}
use Rattle.wc_lexer.specs.declared.error.LexError.{LexError}
use Rattle.wc_lexer.specs.Tokens.{joined, tokens_from}

-- tokens with their places
abbrev pub Placed : Type 0
Placed = List (Token × ℕ)

-- the tokens that were read, without their places
abbrev pub said : Result Placed LexError → Option (List Token)
said (Ok ts) = Some (map (λ t. t.0) ts)
said (Err e) = None

-- From each place the bytes have these tokens.
pub record Cut (bytes : List ℕ) (tokens : List Token) : Type 0 where
  pub cut : (at : ℕ) → said (tokens_from 0 at bytes) ≡ Some tokens

-- The bytes have these tokens in front of the rest.
pub record Reads (bytes : List ℕ) (tokens : List Token) (rest : List ℕ) : Type 0 where
  pub reads : (others : List Token) → Cut rest others → Cut (bytes ++ rest) (tokens ++ others)

-- other words for the same bytes and tokens
pub retold : (a b : List ℕ) (s t : List Token) (rest : List ℕ) → a ≡ b → s ≡ t → Reads a s rest → Reads b t rest
retold a b s t rest e f h = subst (λ z. Reads z t rest) e (subst (λ z. Reads a z rest) f h)

-- ---- pieces
-- bytes with their tokens
abbrev pub Piece : Type 0
Piece = List ℕ × List Token

-- the pieces' bytes in front of the rest
abbrev pub ahead : List Piece → List ℕ → List ℕ
ahead [] rest = rest
ahead (p ∷ ps) rest = p.0 ++ ahead ps rest

abbrev pub tokens_ahead : List Piece → List Token → List Token
tokens_ahead [] others = others
tokens_ahead (p ∷ ps) others = p.1 ++ tokens_ahead ps others

-- each piece has its tokens in front of what follows it
abbrev pub Each : List Piece → List ℕ → Type 0
Each [] rest = Unit {0}
Each (p ∷ ps) rest = Reads p.0 p.1 (ahead ps rest) × Each ps rest

-- the pieces' bytes behind others
abbrev pub bytes_behind : List ℕ → List Piece → List ℕ
bytes_behind front [] = front
bytes_behind front (p ∷ ps) = bytes_behind (front ++ p.0) ps

abbrev pub tokens_behind : List Token → List Piece → List Token
tokens_behind front [] = front
tokens_behind front (p ∷ ps) = tokens_behind (front ++ p.1) ps

bytes_same : (front : List ℕ) (ps : List Piece) (rest : List ℕ) → bytes_behind front ps ++ rest ≡ front ++ ahead ps rest
bytes_same front [] rest = refl
bytes_same front (p ∷ ps) rest = bytes_same (front ++ p.0) ps rest ∙ append_assoc front p.0 (ahead ps rest)

tokens_same : (front : List Token) (ps : List Piece) (others : List Token) → tokens_behind front ps ++ others ≡ front ++ tokens_ahead ps others
tokens_same front [] others = refl
tokens_same front (p ∷ ps) others = tokens_same (front ++ p.1) ps others ∙ append_assoc front p.1 (tokens_ahead ps others)

in_turn : (ps : List Piece) (rest : List ℕ) → Each ps rest → (others : List Token) → Cut rest others → Cut (ahead ps rest) (tokens_ahead ps others)
in_turn [] rest e others c = c
in_turn (p ∷ ps) rest e others c = e.0.reads (tokens_ahead ps others) (in_turn ps rest e.1 others c)

-- one piece behind another
pub pieces : (p : Piece) (ps : List Piece) (rest : List ℕ) → Each (p ∷ ps) rest → Reads (bytes_behind p.0 ps) (tokens_behind p.1 ps) rest
pieces p ps rest e = record {
  reads = λ others c. subst (λ z. Cut z (tokens_behind p.1 ps ++ others)) (sym (bytes_same p.0 ps rest))
      (subst (Cut (p.0 ++ ahead ps rest)) (sym (tokens_same p.1 ps others)) (in_turn (p ∷ ps) rest e others c));
}

-- no bytes
pub nothing : (rest : List ℕ) → Reads [] [] rest
nothing rest = record { reads = λ others c. c }

-- lists, where what stands behind an element plays no part
pub each_reads : {A : Type 0} (text : A → List ℕ) (tokens : A → List Token) (test : A → Bool) → ((x : A) → test x ≡ true → (rest : List ℕ) → Reads (text x) (tokens x) rest)
    → (xs : List A) → list_all test xs ≡ true → (rest : List ℕ) → Reads (flat_map text xs) (flat_map tokens xs) rest
each_reads text tokens test one [] h rest = nothing rest
each_reads text tokens test one (x ∷ xs) h rest =
    let a = and_parts (test x) (list_all test xs) h in
    pieces (text x, tokens x) ((flat_map text xs, flat_map tokens xs) ∷ []) rest
    (one x a.0 (flat_map text xs ++ rest), (each_reads text tokens test one xs a.1 rest, tt))

-- ---- one token
pub one_more : (t : Token) (at : ℕ) (r : Result Placed LexError) (others : List Token) → said r ≡ Some others → said (joined ((t, at) ∷ []) r) ≡ Some (t ∷ others)
one_more t at (Ok ts) others h = let k : map (λ t. t.0) ts ≡ others = cc in ap (λ z. Some (t ∷ z)) k
one_more t at (Err e) others h = absurd (cc)

-- the whole text
pub all_said : (bytes : List ℕ) (tokens : List Token) → Reads bytes tokens [] → said (tokens_from 0 0 bytes) ≡ Some tokens
all_said bytes tokens r =
    let nil : Cut [] [] = record { cut = λ at. refl } in
    let e : said (tokens_from 0 0 (bytes ++ [])) ≡ Some (tokens ++ []) = (r.reads [] nil).cut 0 in
    ap (λ z. said (tokens_from 0 0 z)) (sym (append-nil bytes)) ∙ e ∙ ap (λ z. Some z) (append-nil tokens)

pub said_ok : (r : Result Placed LexError) (tokens : List Token) → said r ≡ Some tokens → (ts : Placed) × (r ≡ Ok ts) × (map (λ t. t.0) ts ≡ tokens)
said_ok (Ok ts) tokens h = (ts, refl, (cc))
said_ok (Err e) tokens h = absurd (cc)
