-- What stands at a place of the bytes.
use Rattle.std.proofs.Common.{◌≡◌, ℕ, zero, suc, ◌+◌, ◌-◌, ◌<◌, List, [], ◌∷◌, length, take, drop, get_or, Bool, true, false, Option, Result, Ok, Err, refl, sym, ap, ◌∙◌, subst, arith, add-zero, if◌then◌else◌}
use Rattle.std.specs.Prelude.{◌==◌, IsErr, IsErrAnd}
use Rattle.std.specs.Char.{is_ascii_digit}
use Rattle.std.specs.List.{prefix_len, take_while}
use Rattle.std.proofs.lemmas.List.{drop_more, drop-drop, get_or-take, length-take}
use Rattle.std.proofs.lemmas.List.Sums.{prefix_len_passes}
use Rattle.wc_lexer.specs.declared.token.Token.{Token}
use Rattle.wc_lexer.specs.declared.error.LexError.{LexError}
use Rattle.wc_lexer.specs.declared.error.LexError.TheVariants.{OutOfMemory, BadChar, OpenText, WideNumber}
use Rattle.wc_lexer.specs.Tokens.{Fails, Gives, ◌>>=◌, joined, begins_name, name_at, number_at, quoted_at, sign_at, token_at, begun_at, piece_at, passed_at, kept_at, tokens_from}

-- ---- runs
pub run_is : (p : ℕ → Bool) (bs : List ℕ) (from end : ℕ) → end ≡ from + prefix_len p (drop from bs) → take (end - from) (drop from bs) ≡ take_while p (drop from bs)
run_is p bs from end e = let k : end - from ≡ prefix_len p (drop from bs) = omega arith in ap (λ (n : ℕ). take n (drop from bs)) k

passes_at : (p : ℕ → Bool) (bs : List ℕ) (k : ℕ) → k < length (take_while p bs) → p (get_or (take_while p bs) k 0) ≡ true
passes_at p bs k h =
    let l : k < prefix_len p bs = omega (arith, length-take (prefix_len p bs) bs) in
    ap p (get_or-take (prefix_len p bs) bs k 0 l) ∙ prefix_len_passes p bs k 0 l

-- each byte of a run passes
pub run_passes : (p : ℕ → Bool) (bs : List ℕ) (from end : ℕ) → end ≡ from + prefix_len p (drop from bs)
    → (k : ℕ) → k < length (take (end - from) (drop from bs)) → p (get_or (take (end - from) (drop from bs)) k 0) ≡ true
run_passes p bs from end e =
    subst (λ l. (k : ℕ) → k < length l → p (get_or l k 0) ≡ true) (sym (run_is p bs from end e)) (passes_at p (drop from bs))

-- ---- the token or the piece at a place, by its first byte
pub token_is : (bs : List ℕ) (at : ℕ) → at < length bs → token_at at (drop at bs) ≡ begun_at at (get_or bs at 0) (drop at bs)
unfolding token_at
token_is bs at h = subst (λ l. token_at at l ≡ begun_at at (get_or bs at 0) l) (sym (drop_more bs at 0 h)) refl

pub sign_begun : (at b : ℕ) (bs : List ℕ) → begins_name b ≡ false → is_ascii_digit b ≡ false → (b == 34) ≡ false → begun_at at b bs ≡ sign_at at bs
sign_begun at b bs p q r =
    ap (λ (t : Bool). if t then name_at at bs else (if is_ascii_digit b then number_at at bs else (if b == 34 then quoted_at at bs else sign_at at bs))) p
    ∙ ap (λ (t : Bool). if t then number_at at bs else (if b == 34 then quoted_at at bs else sign_at at bs)) q
    ∙ ap (λ (t : Bool). if t then quoted_at at bs else sign_at at bs) r

pub piece_is : (bs : List ℕ) (at : ℕ) → at < length bs → piece_at at (drop at bs) ≡ passed_at at (get_or bs at 0) (drop at bs)
unfolding piece_at
piece_is bs at h = subst (λ l. piece_at at l ≡ passed_at at (get_or bs at 0) l) (sym (drop_more bs at 0 h)) refl

-- ---- the tokens from a place on
pub skip : (n at : ℕ) (bs : List ℕ) → tokens_from n at bs ≡ tokens_from 0 (at + n) (drop n bs)
skip zero at bs = ap (λ (k : ℕ). tokens_from 0 k bs) (sym (add-zero at))
skip (suc n) at [] = refl
skip (suc n) at (b ∷ bs) = let e : at + 1 + n ≡ at + suc n = omega arith in skip n (at + 1) bs ∙ ap (λ (k : ℕ). tokens_from 0 k (drop n bs)) e

opens : (bs : List ℕ) (at : ℕ) (d : List ℕ) → drop at bs ≡ get_or bs at 0 ∷ d
    → tokens_from 0 at (drop at bs) ≡ (piece_at at (drop at bs) >>= (λ p. joined (kept_at at p.0) (tokens_from (p.1 - (at + 1)) (at + 1) d)))
opens bs at d e = subst (λ l. tokens_from 0 at l ≡ (piece_at at l >>= (λ p. joined (kept_at at p.0) (tokens_from (p.1 - (at + 1)) (at + 1) d)))) (sym e) refl

pub tokens_err : (bs : List ℕ) (at : ℕ) (e : LexError) → at < length bs → piece_at at (drop at bs) ≡ Err e → tokens_from 0 at (drop at bs) ≡ Err e
tokens_err bs at e h p =
    opens bs at (drop (at + 1) bs) (drop_more bs at 0 h) ∙ ap (λ r. r >>= (λ p. joined (kept_at at p.0) (tokens_from (p.1 - (at + 1)) (at + 1) (drop (at + 1) bs)))) p

pub tokens_ok : (bs : List ℕ) (at end : ℕ) (t : Option Token) → at < length bs → piece_at at (drop at bs) ≡ Ok (t, end) → at < end
    → tokens_from 0 at (drop at bs) ≡ joined (kept_at at t) (tokens_from 0 end (drop end bs))
tokens_ok bs at end t h p l =
    let k : at + 1 + (end - (at + 1)) ≡ end = omega arith in
    opens bs at (drop (at + 1) bs) (drop_more bs at 0 h)
    ∙ ap (λ r. r >>= (λ p. joined (kept_at at p.0) (tokens_from (p.1 - (at + 1)) (at + 1) (drop (at + 1) bs)))) p
    ∙ ap (joined (kept_at at t)) (skip (end - (at + 1)) (at + 1) (drop (at + 1) bs)
    ∙ ap (tokens_from 0 (at + 1 + (end - (at + 1)))) (drop-drop (end - (at + 1)) (at + 1) bs)
    ∙ ap (λ (n : ℕ). tokens_from 0 n (drop n bs)) k)

-- a refusal of the piece at a place is one of the whole
pub refused : (bs : List ℕ) (at : ℕ) (found : List (Token × ℕ)) (e : LexError) (read : Result (List (Token × ℕ)) LexError) → at < length bs
    → Fails e (piece_at at (drop at bs)) → joined found (tokens_from 0 at (drop at bs)) ≡ read → Fails e read
refused bs at found OutOfMemory read l h i = tt
refused bs at found (BadChar n) read l h i = sym i ∙ ap (joined found) (tokens_err bs at (BadChar n) l h)
refused bs at found (OpenText n) read l h i = sym i ∙ ap (joined found) (tokens_err bs at (OpenText n) l h)
refused bs at found (WideNumber n) read l h i = sym i ∙ ap (joined found) (tokens_err bs at (WideNumber n) l h)

-- the exit of a `?` whose error is passed on as it is
pub handed : {X : Type 0} (r : Result X LexError) (e : LexError) (read : Result X LexError) → IsErr r → IsErrAnd r (λ d. d ≡ e) → Fails e read → Gives r read
handed (Ok x) e read p q f = absurd (cc)
handed (Err d) e read p q f = let P : LexError → Type 0 = λ z. Fails z read in subst P (sym q) f
