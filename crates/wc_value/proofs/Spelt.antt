-- What is spelled is read, and what is read is spelled.
use Rattle.std.proofs.Common.{◌≡◌, ℕ, ◌+◌, ◌^◌, ◌<◌, ◌≤◌, Bool, true, cond, List, [], ◌∷◌, ◌++◌, length, map, Result, Ok, Err, refl, sym, ap, subst, ◌∙◌, append_assoc, append-nil, arith}
use Rattle.std.proofs.Math.Seq.{take-append_seam}
use Rattle.wc_value.specs.Ascending.{Ascends, goes_last}
use Rattle.wc_value.specs.declared.value.Value.{Value}
use Rattle.wc_value.specs.declared.refusal.ValueError.{ValueError}
use Rattle.wc_value.specs.declared.refusal.ValueError.TheVariants.{Unsorted}
use Rattle.wc_value.specs.Spelling.{text, depth, deepest}
use Rattle.wc_value.specs.Spells.{Spells, SpellsAll, no_value, value_then, SpellsPairs, no_pair, pair_then, SpellsFiles, no_file, file_then, IsText}
use Rattle.wc_value.specs.Reading.{◌>>=◌, text_at, name_at, entry_at}
use Rattle.wc_value.proofs.Entries.{ascends_take, ascends_push, last_goes}
use Rattle.wc_value.proofs.Depths.{depth_of}
use Rattle.wc_value.proofs.Places.{IsBytes, Covers, covers_join, covers_first, covers_second, bind_ok, pass_ok, ok_is, text_again, text_take}
use Rattle.wc_value.proofs.Chains.{Chain, last, next_then, ReadsAgain, ReadsAllowed}

-- ---- what stands in a container
-- a value of at most so many levels
abbrev pub IsItem : ℕ → List Value → Value → List ℕ → Type 0
IsItem levels front v b = Spells v b × (depth v ≤ levels)

-- an entry whose name comes after those in front
pub record IsEntry {T : Type 0} (P : T → List ℕ → Type 0) (front : List (List ℕ × T)) (e : List ℕ × T) (b : List ℕ) : Type 0 where
  pub inner : List ℕ
  pub goes : goes_last e.0 front ≡ true
  pub name : IsText e.0
  pub holds : P e.1 inner
  pub bytes : b ≡ text e.0 ++ inner

abbrev pub IsField : ℕ → List (List ℕ × Value) → (List ℕ × Value) → List ℕ → Type 0
IsField levels = IsEntry (λ v b. Spells v b × (depth v ≤ levels))

abbrev pub IsContent : List ℕ → List ℕ → Type 0
IsContent c b = (length c < 2 ^ 32) × (b ≡ text c)

abbrev pub IsFile : List (List ℕ × List ℕ) → (List ℕ × List ℕ) → List ℕ → Type 0
IsFile = IsEntry IsContent

-- ---- readers of entries, from a reader of what belongs to a name
pub entry_again : {T : Type 0} (P : T → List ℕ → Type 0) (read : ℕ → Result (T × ℕ) ValueError) (bytes : List ℕ)
    → ((x : T) (b : List ℕ) (at next : ℕ) → P x b → Covers bytes at b next → read at ≡ Ok (x, next)) → ReadsAgain (IsEntry P) (entry_at read bytes) bytes
entry_again P read bytes again front e b at next h p =
    let q : Covers bytes at (text e.0 ++ h.inner) next = subst (λ l. Covers bytes at l next) h.bytes p in
    let mid = at + length (text e.0) in
    let name : name_at front bytes at ≡ Ok (e.0, mid)
    = ap (λ r. r >>= (λ k. cond (goes_last k.0 front) (Ok k) (Err (Unsorted at)))) (text_again bytes e.0 at mid h.name (covers_first bytes (text e.0) h.inner at next q))
    ∙ ap (λ (t : Bool). cond t (Ok (e.0, mid)) (Err (Unsorted at))) h.goes in
    ap (λ r. r >>= (λ k. read k.1 >>= (λ x. Ok ((k.0, x.0), x.1)))) name
    ∙ ap (λ r. r >>= (λ x. Ok ((e.0, x.0), x.1))) (again e.1 h.inner mid next h.holds (covers_second bytes (text e.0) h.inner at next q))

pub entry_take : {T : Type 0} (P : T → List ℕ → Type 0) (read : ℕ → Result (T × ℕ) ValueError) (bytes : List ℕ) → IsBytes bytes
    → ((x : T) (at next : ℕ) → at ≤ length bytes → read at ≡ Ok (x, next) → (b : List ℕ) × P x b × Covers bytes at b next) → ReadsAllowed (IsEntry P) (entry_at read bytes) bytes
entry_take P read bytes fits allowed front e at next h r =
    let k = bind_ok (name_at front bytes at) (λ k. read k.1 >>= (λ x. Ok ((k.0, x.0), x.1))) (e, next) r in
    let x = bind_ok (read k.0.1) (λ x. Ok ((k.0.0, x.0), x.1)) (e, next) k.2 in
    let t = bind_ok (text_at bytes at) (λ k. cond (goes_last k.0 front) (Ok k) (Err (Unsorted at))) k.0 k.1 in
    let g = pass_ok (goes_last t.0.0 front) (Unsorted at) t.0 k.0 t.2 in
    let name = text_take bytes t.0.0 at t.0.1 fits h t.1 in
    let named : Covers bytes at (text k.0.0) k.0.1 × IsText k.0.0 = subst (λ (y : List ℕ × ℕ). Covers bytes at (text y.0) y.1 × IsText y.0) g.1 name in
    let goes : goes_last k.0.0 front ≡ true = subst (λ (y : List ℕ × ℕ). goes_last y.0 front ≡ true) g.1 g.0 in
    let inner = allowed x.0.0 k.0.1 x.0.1 named.0.within x.1 in
    let entry : (b : List ℕ) × IsEntry P front (k.0.0, x.0.0) b × Covers bytes at b x.0.1
    = (
      text k.0.0 ++ inner.0,
      record { inner = inner.0; goes = goes; name = named.1; holds = inner.1; bytes = refl },
      covers_join bytes (text k.0.0) inner.0 at k.0.1 x.0.1 named.0 inner.2,
    ) in
    subst (λ y. (b : List ℕ) × IsEntry P front y.0 b × Covers bytes at b y.1) (ok_is ((k.0.0, x.0.0), x.0.1) (e, next) x.2) entry

-- ---- from the relation to chains, and back
pub all_chain : (levels : ℕ) (front vs : List Value) (c : List ℕ) → SpellsAll vs c → deepest (map depth vs) ≤ levels → Chain (IsItem levels) front vs c
all_chain levels front vs c no_value h = last front
all_chain levels front vs c (value_then v ws b d s t) h =
    next_then front v ws b d (s, omega arith) (all_chain levels (front ++ v ∷ []) ws d t (omega arith))

pub chain_all : (levels : ℕ) (front vs : List Value) (c : List ℕ) → Chain (IsItem levels) front vs c → SpellsAll vs c × (deepest (map depth vs) ≤ levels)
chain_all levels front vs c (last f) = (no_value, omega arith)
chain_all levels front vs c (next_then f v ws b d h rest) =
    let r = chain_all levels (f ++ v ∷ []) ws d rest in
    let p = h.1 in let q = r.1 in
    (value_then v ws b d h.0 r.0, omega arith)

-- a front of what ascends ascends
front_ascends : {T : Type 0} (front es : List (List ℕ × T)) → Ascends (front ++ es) → Ascends front
front_ascends front es a = subst Ascends (take-append_seam front es) (ascends_take (length front) (front ++ es) a)

goes_next : {T : Type 0} (front : List (List ℕ × T)) (e : List ℕ × T) (es : List (List ℕ × T)) → Ascends (front ++ e ∷ es) → goes_last e.0 front ≡ true
goes_next front e es a = last_goes front e (front_ascends (front ++ e ∷ []) es (subst Ascends (sym (append_assoc front (e ∷ []) es)) a))

pub pairs_chain : (levels : ℕ) (front ps : List (List ℕ × Value)) (c : List ℕ) → SpellsPairs ps c → Ascends (front ++ ps) → deepest (map depth_of ps) ≤ levels → Chain (IsField levels) front ps c
pairs_chain levels front ps c no_pair a h = last front
pairs_chain levels front ps c (pair_then k v qs b d t s rest) a h =
    next_then front (k, v) qs (text k ++ b) d (record { inner = b; goes = goes_next front (k, v) qs a; name = t; holds = (s, omega arith); bytes = refl })
    (pairs_chain levels (front ++ (k, v) ∷ []) qs d rest (subst Ascends (sym (append_assoc front ((k, v) ∷ []) qs)) a) (omega arith))

pub chain_pairs : (levels : ℕ) (front ps : List (List ℕ × Value)) (c : List ℕ) → Chain (IsField levels) front ps c → Ascends front
    → SpellsPairs ps c × Ascends (front ++ ps) × (deepest (map depth_of ps) ≤ levels)
chain_pairs levels front ps c (last f) a = (no_pair, subst Ascends (sym (append-nil f)) a, omega arith)
chain_pairs levels front ps c (next_then f e qs b d h rest) a =
    let r = chain_pairs levels (f ++ e ∷ []) qs d rest (ascends_push f e a h.goes) in
    let p = h.holds.1 in let q = r.2 in (
      subst (λ l. SpellsPairs (e ∷ qs) (l ++ d)) (sym h.bytes) (pair_then e.0 e.1 qs h.inner d h.name h.holds.0 r.0),
      subst Ascends (append_assoc f (e ∷ []) qs) r.1,
      omega arith,
    )

pub files_chain : (front fs : List (List ℕ × List ℕ)) (c : List ℕ) → SpellsFiles fs c → Ascends (front ++ fs) → Chain IsFile front fs c
files_chain front fs c no_file a = last front
files_chain front fs c (file_then name content gs d t h rest) a =
    next_then front (name, content) gs (text name ++ text content) d (record { inner = text content; goes = goes_next front (name, content) gs a; name = t; holds = (h, refl); bytes = refl })
    (files_chain (front ++ (name, content) ∷ []) gs d rest (subst Ascends (sym (append_assoc front ((name, content) ∷ []) gs)) a))

pub chain_files : (front fs : List (List ℕ × List ℕ)) (c : List ℕ) → Chain IsFile front fs c → Ascends front → SpellsFiles fs c × Ascends (front ++ fs)
chain_files front fs c (last f) a = (no_file, subst Ascends (sym (append-nil f)) a)
chain_files front fs c (next_then f e gs b d h rest) a =
    let r = chain_files (f ++ e ∷ []) gs d rest (ascends_push f e a h.goes) in (
      subst (λ l. SpellsFiles (e ∷ gs) (l ++ d)) (sym (h.bytes ∙ ap (λ l. text e.0 ++ l) h.holds.1)) (file_then e.0 e.1 gs d h.name h.holds.0 r.0),
      subst Ascends (append_assoc f (e ∷ []) gs) r.1,
    )
