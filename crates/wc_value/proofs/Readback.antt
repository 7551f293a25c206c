-- Reading gives a value exactly where its spelling stands.
use Rattle.std.proofs.Common.{◌≡◌, ℕ, zero, suc, ◌+◌, ◌<◌, ◌≤◌, max, Bool, true, false, cond, ltb, eqb, lit<, List, [], ◌∷◌, ◌++◌, length, map, take, append-nil, drop_of_length-le, Result, Ok, Err, refl, sym, ap, subst, ◌∙◌, arith}
use Rattle.std.specs.Prelude.{IfOk, if◌then◌else◌}
use Rattle.std.specs.Int.{w32, w64, to_be_bytes, cast_unsigned}
use Rattle.std.proofs.lemmas.Bool.{ltb-false, le-ltb, ne_eqb}
use Rattle.std.proofs.lemmas.List.{take_at, drop_at, length-append}
use Rattle.std.specs.List.Sorted.{IsStrictlySortedBy}
use Rattle.wc_value.specs.Ascending.{Ascends}
use Rattle.wc_value.specs.declared.value.Value.{Value}
use Rattle.wc_value.specs.declared.value.Value.TheVariants as value
use Rattle.wc_value.specs.declared.refusal.ValueError.{ValueError}
use Rattle.wc_value.specs.declared.refusal.ValueError.TheVariants.{BadTag, Trailing}
use Rattle.wc_value.specs.Spelling.{text, depth, deepest}
use Rattle.wc_value.specs.Spells.{Spells, int, bool, text_of, list, dict, folder}
use Rattle.wc_value.specs.Reading.{◌>>=◌, counted, content_at, text_at, entry_at, i64_at, int_at, byte_at, truth, bool_at, text_value_at, list_at, as_list, dict_at, as_dict, folder_at, as_folder, behind, too_deep, value_at, ended, whole, Answers}
use Rattle.wc_value.proofs.Depths.{depth_int, depth_bool, depth_text, depth_list, depth_dict, depth_folder, depth_of, depth_at_least}
use Rattle.wc_value.proofs.Places.{IsBytes, Covers, covers_join, covers_first, covers_second, bind_ok, guard_ok, ok_is, byte_again, byte_take, i64_again, i64_take, content_again, content_take, text_again, text_take}
use Rattle.wc_value.proofs.Chains.{ReadsAgain, ReadsAllowed, counted_again, counted_take}
use Rattle.wc_value.proofs.Spelt.{IsItem, IsField, IsContent, IsFile, entry_again, entry_take, all_chain, chain_all, pairs_chain, chain_pairs, files_chain, chain_files}

-- a value of at most so many levels, with its spelling
abbrev pub IsSpelledWithin : ℕ → Value → List ℕ → Type 0
IsSpelledWithin levels v b = Spells v b × (depth v ≤ levels)

-- ---- what is spelled is read
tag_again : (bytes rest : List ℕ) (tag at next : ℕ) → Covers bytes at (tag ∷ rest) next → (byte_at bytes at ≡ Ok tag) × Covers bytes (at + 1) rest next
tag_again bytes rest tag at next p = (byte_again bytes tag at (covers_first bytes (tag ∷ []) rest at next p), covers_second bytes (tag ∷ []) rest at next p)

bool_again : (bytes : List ℕ) (b : Bool) (at next : ℕ) → Covers bytes at ((if b then 1 else 0) ∷ []) next → bool_at bytes at ≡ Ok (value.Bool b, next)
bool_again bytes true at next p =
    let e : next ≡ at + 1 = p.next_is in
    ap (λ r. r >>= truth at) (byte_again bytes 1 at (subst (λ k. Covers bytes at (1 ∷ []) k) e p)) ∙ ap (λ k. Ok (value.Bool true, k)) (sym e)
bool_again bytes false at next p =
    let e : next ≡ at + 1 = p.next_is in
    ap (λ r. r >>= truth at) (byte_again bytes 0 at (subst (λ k. Covers bytes at (0 ∷ []) k) e p)) ∙ ap (λ k. Ok (value.Bool false, k)) (sym e)

abbrev IsReadAgain : ℕ → List ℕ → Type 0
IsReadAgain levels bytes = (v : Value) (b : List ℕ) (at next : ℕ) → IsSpelledWithin levels v b → Covers bytes at b next → value_at levels bytes at ≡ Ok (v, next)

files_again : (bytes : List ℕ) → ReadsAgain IsFile (entry_at (content_at bytes) bytes) bytes
files_again bytes = entry_again IsContent (content_at bytes) bytes (λ c b at next h p. content_again bytes c at next h.0 (subst (λ l. Covers bytes at l next) h.1 p))

spelled_again : (levels : ℕ) (bytes : List ℕ) → IsReadAgain levels bytes → (v : Value) (b : List ℕ) (at next : ℕ) → Spells v b → depth v ≤ suc levels → Covers bytes at b next
    → (byte_at bytes at >>= behind (value_at levels bytes) bytes at) ≡ Ok (v, next)
spelled_again levels bytes again v b at next (int n h) deep p =
    let t = tag_again bytes (to_be_bytes w64 (cast_unsigned w64 n)) 1 at next p in
    ap (λ r. r >>= behind (value_at levels bytes) bytes at) t.0 ∙ ap (λ r. r >>= (λ x. Ok (value.Int x.0, x.1))) (i64_again bytes n (at + 1) next h t.1)
spelled_again levels bytes again v b at next (bool x) deep p =
    let t = tag_again bytes ((if x then 1 else 0) ∷ []) 2 at next p in
    ap (λ r. r >>= behind (value_at levels bytes) bytes at) t.0 ∙ bool_again bytes x (at + 1) next t.1
spelled_again levels bytes again v b at next (text_of x h) deep p =
    let t = tag_again bytes (text x) 3 at next p in
    ap (λ r. r >>= behind (value_at levels bytes) bytes at) t.0 ∙ ap (λ r. r >>= (λ y. Ok (value.Text y.0, y.1))) (text_again bytes x (at + 1) next h t.1)
spelled_again levels bytes again v b at next (list vs c lt s) deep p =
    let t = tag_again bytes (to_be_bytes w32 (length vs) ++ c) 4 at next p in
    let e = depth_list vs in
    let within : deepest (map depth vs) ≤ levels = omega arith in
    ap (λ r. r >>= behind (value_at levels bytes) bytes at) t.0
    ∙ ap (λ r. r >>= as_list) (counted_again (IsItem levels) (λ front. value_at levels bytes) bytes (λ front. again) vs c lt (all_chain levels [] vs c s within) (at + 1) next t.1)
spelled_again levels bytes again v b at next (dict ps c lt a s) deep p =
    let t = tag_again bytes (to_be_bytes w32 (length ps) ++ c) 5 at next p in
    let e = depth_dict ps in
    let within : deepest (map depth_of ps) ≤ levels = omega arith in
    ap (λ r. r >>= behind (value_at levels bytes) bytes at) t.0
    ∙ ap (λ r. r >>= as_dict) (counted_again (IsField levels) (entry_at (value_at levels bytes) bytes) bytes (entry_again (IsSpelledWithin levels) (value_at levels bytes) bytes again)
    ps c lt (pairs_chain levels [] ps c s a within) (at + 1) next t.1)
spelled_again levels bytes again v b at next (folder fs c lt a s) deep p =
    let t = tag_again bytes (to_be_bytes w32 (length fs) ++ c) 6 at next p in
    ap (λ r. r >>= behind (value_at levels bytes) bytes at) t.0
    ∙ ap (λ r. r >>= as_folder) (counted_again IsFile (entry_at (content_at bytes) bytes) bytes (files_again bytes) fs c lt (files_chain [] fs c s a) (at + 1) next t.1)

pub value_again : (levels : ℕ) (bytes : List ℕ) (v : Value) (b : List ℕ) (at next : ℕ) → IsSpelledWithin levels v b → Covers bytes at b next → value_at levels bytes at ≡ Ok (v, next)
value_again zero bytes v b at next h p = absurd (depth_at_least v h.1)
value_again (suc levels) bytes v b at next h p = spelled_again levels bytes (value_again levels bytes) v b at next h.0 h.1 p

-- ---- what is read is spelled
abbrev pub IsTaken : ℕ → List ℕ → Type 0
IsTaken levels bytes = (v : Value) (at next : ℕ) → at ≤ length bytes → value_at levels bytes at ≡ Ok (v, next) → (b : List ℕ) × IsSpelledWithin levels v b × Covers bytes at b next

refused : (d : ValueError) (x : Value × ℕ) → Err d ≡ Ok x → ⊥
refused d x e = cc

-- a choice that isn't taken
skip : (b : Bool) (r s : Result (Value × ℕ) ValueError) (x : Value × ℕ) → b ≡ false → cond b r s ≡ Ok x → s ≡ Ok x
skip true r s x h e = absurd (cc h)
skip false r s x h e = e

-- what stands behind a tag
abbrev IsBehind : ℕ → List ℕ → ℕ → ℕ → Value × ℕ → Type 0
IsBehind levels bytes tag at x = (b : List ℕ) × IsSpelledWithin (suc levels) x.0 (tag ∷ b) × Covers bytes at b x.1

int_take : (levels : ℕ) (bytes : List ℕ) → IsBytes bytes → (at : ℕ) (x : Value × ℕ) → at ≤ length bytes → int_at bytes at ≡ Ok x → IsBehind levels bytes 1 at x
int_take levels bytes fits at x h e =
    let r = bind_ok (i64_at bytes at) (λ y. Ok (value.Int y.0, y.1)) x e in
    let t = i64_take bytes r.0.0 at r.0.1 fits h r.1 in
    let d = depth_int r.0.0 in
    subst (IsBehind levels bytes 1 at) (ok_is (value.Int r.0.0, r.0.1) x r.2) (to_be_bytes w64 (cast_unsigned w64 r.0.0), (int r.0.0 t.1, omega arith), t.0)

truth_take : (levels : ℕ) (bytes : List ℕ) (at b : ℕ) (x : Value × ℕ) → Covers bytes at (b ∷ []) (at + 1) → truth at b ≡ Ok x → IsBehind levels bytes 2 at x
truth_take levels bytes at zero x p e =
    let d = depth_bool false in
    subst (IsBehind levels bytes 2 at) (ok_is (value.Bool false, at + 1) x e) (0 ∷ [], (bool false, omega arith), p)
truth_take levels bytes at (suc zero) x p e =
    let d = depth_bool true in
    subst (IsBehind levels bytes 2 at) (ok_is (value.Bool true, at + 1) x e) (1 ∷ [], (bool true, omega arith), p)
truth_take levels bytes at (suc (suc b)) x p e =
    let z : eqb (suc (suc b)) 0 ≡ false = ne_eqb (suc (suc b)) 0 (λ h. omega arith) in
    let o : eqb (suc (suc b)) 1 ≡ false = ne_eqb (suc (suc b)) 1 (λ h. omega arith) in
    absurd (refused (BadTag at) x (skip _ _ _ x o (skip _ _ _ x z e)))

bool_take : (levels : ℕ) (bytes : List ℕ) (at : ℕ) (x : Value × ℕ) → bool_at bytes at ≡ Ok x → IsBehind levels bytes 2 at x
bool_take levels bytes at x e =
    let r = bind_ok (byte_at bytes at) (truth at) x e in
    truth_take levels bytes at r.0 x (byte_take bytes r.0 at r.1) r.2

text_value_take : (levels : ℕ) (bytes : List ℕ) → IsBytes bytes → (at : ℕ) (x : Value × ℕ) → at ≤ length bytes → text_value_at bytes at ≡ Ok x → IsBehind levels bytes 3 at x
text_value_take levels bytes fits at x h e =
    let r = bind_ok (text_at bytes at) (λ y. Ok (value.Text y.0, y.1)) x e in
    let t = text_take bytes r.0.0 at r.0.1 fits h r.1 in
    let d = depth_text r.0.0 in
    subst (IsBehind levels bytes 3 at) (ok_is (value.Text r.0.0, r.0.1) x r.2) (text r.0.0, (text_of r.0.0 t.1, omega arith), t.0)

list_take : (levels : ℕ) (bytes : List ℕ) → IsBytes bytes → IsTaken levels bytes → (at : ℕ) (x : Value × ℕ) → at ≤ length bytes → list_at (value_at levels bytes) bytes at ≡ Ok x → IsBehind levels bytes 4 at x
list_take levels bytes fits taken at x h e =
    let r = bind_ok (counted (λ front. value_at levels bytes) bytes at) as_list x e in
    let c = counted_take (IsItem levels) (λ front. value_at levels bytes) bytes fits (λ front. taken) r.0.0 at r.0.1 h r.1 in
    let s = chain_all levels [] r.0.0 c.spelled c.chain in
    let d = depth_list r.0.0 in let deep = s.1 in
    subst (IsBehind levels bytes 4 at) (ok_is (value.List r.0.0, r.0.1) x r.2) (to_be_bytes w32 (length r.0.0) ++ c.spelled, (list r.0.0 c.spelled c.fits s.0, omega arith), c.covers)

nothing_ascends : (T : Type 0) → Ascends {T = T} []
unfolding IsStrictlySortedBy
nothing_ascends T = tt

dict_take : (levels : ℕ) (bytes : List ℕ) → IsBytes bytes → IsTaken levels bytes → (at : ℕ) (x : Value × ℕ) → at ≤ length bytes → dict_at (value_at levels bytes) bytes at ≡ Ok x → IsBehind levels bytes 5 at x
dict_take levels bytes fits taken at x h e =
    let r = bind_ok (counted (entry_at (value_at levels bytes) bytes) bytes at) as_dict x e in
    let c = counted_take (IsField levels) (entry_at (value_at levels bytes) bytes) bytes fits (entry_take (IsSpelledWithin levels) (value_at levels bytes) bytes fits taken) r.0.0 at r.0.1 h r.1 in
    let s = chain_pairs levels [] r.0.0 c.spelled c.chain (nothing_ascends Value) in
    let d = depth_dict r.0.0 in let deep = s.2 in
    subst (IsBehind levels bytes 5 at) (ok_is (value.Dict r.0.0, r.0.1) x r.2) (to_be_bytes w32 (length r.0.0) ++ c.spelled, (dict r.0.0 c.spelled c.fits s.1 s.0, omega arith), c.covers)

files_take : (bytes : List ℕ) → IsBytes bytes → ReadsAllowed IsFile (entry_at (content_at bytes) bytes) bytes
files_take bytes fits = entry_take IsContent (content_at bytes) bytes fits (λ c at next h e. let t = content_take bytes c at next fits h e in (text c, (t.1, refl), t.0))

folder_take : (levels : ℕ) (bytes : List ℕ) → IsBytes bytes → (at : ℕ) (x : Value × ℕ) → at ≤ length bytes → folder_at bytes at ≡ Ok x → IsBehind levels bytes 6 at x
folder_take levels bytes fits at x h e =
    let r = bind_ok (counted (entry_at (content_at bytes) bytes) bytes at) as_folder x e in
    let c = counted_take IsFile (entry_at (content_at bytes) bytes) bytes fits (files_take bytes fits) r.0.0 at r.0.1 h r.1 in
    let s = chain_files [] r.0.0 c.spelled c.chain (nothing_ascends (List ℕ)) in
    let d = depth_folder r.0.0 in
    subst (IsBehind levels bytes 6 at) (ok_is (value.Folder r.0.0, r.0.1) x r.2) (to_be_bytes w32 (length r.0.0) ++ c.spelled, (folder r.0.0 c.spelled c.fits s.1 s.0, omega arith), c.covers)

behind_take : (levels : ℕ) (bytes : List ℕ) → IsBytes bytes → IsTaken levels bytes → (at tag : ℕ) (x : Value × ℕ) → at + 1 ≤ length bytes → behind (value_at levels bytes) bytes at tag ≡ Ok x
    → IsBehind levels bytes tag (at + 1) x
behind_take levels bytes fits taken at zero x h e = absurd cc
behind_take levels bytes fits taken at (suc zero) x h e = int_take levels bytes fits (at + 1) x h e
behind_take levels bytes fits taken at (suc (suc zero)) x h e = bool_take levels bytes (at + 1) x e
behind_take levels bytes fits taken at (suc (suc (suc zero))) x h e = text_value_take levels bytes fits (at + 1) x h e
behind_take levels bytes fits taken at (suc (suc (suc (suc zero)))) x h e = list_take levels bytes fits taken (at + 1) x h e
behind_take levels bytes fits taken at (suc (suc (suc (suc (suc zero))))) x h e = dict_take levels bytes fits taken (at + 1) x h e
behind_take levels bytes fits taken at (suc (suc (suc (suc (suc (suc zero)))))) x h e = folder_take levels bytes fits (at + 1) x h e
behind_take levels bytes fits taken at (suc (suc (suc (suc (suc (suc (suc n))))))) x h e =
    let tag : ℕ = suc (suc (suc (suc (suc (suc (suc n)))))) in
    let other : (k : ℕ) → k < 7 → eqb tag k ≡ false = λ k lt. ne_eqb tag k (λ h. omega arith) in
    absurd (refused (BadTag at) x (skip _ _ _ x (other 6 (lit< tt)) (skip _ _ _ x (other 5 (lit< tt)) (skip _ _ _ x (other 4 (lit< tt))
    (skip _ _ _ x (other 3 (lit< tt)) (skip _ _ _ x (other 2 (lit< tt)) (skip _ _ _ x (other 1 (lit< tt)) e)))))))

neither : {A : Type 0} (b : Bool) (d e : ValueError) (x : A) → cond b (Err d) (Err e) ≡ Ok x → ⊥
neither true d e x p = cc
neither false d e x p = cc

pub value_take : (levels : ℕ) (bytes : List ℕ) → IsBytes bytes → IsTaken levels bytes
value_take zero bytes fits v at next h e =
    let r = bind_ok (byte_at bytes at) (too_deep at) (v, next) e in
    absurd (neither _ _ _ (v, next) r.2)
value_take (suc levels) bytes fits v at next h e =
    let r = bind_ok (byte_at bytes at) (behind (value_at levels bytes) bytes at) (v, next) e in
    let tag = byte_take bytes r.0 at r.1 in
    let t = behind_take levels bytes fits (value_take levels bytes fits) at r.0 (v, next) tag.within r.2 in
    (r.0 ∷ t.0, t.1, covers_join bytes (r.0 ∷ []) t.0 at (at + 1) next tag t.2)

-- ---- all of the bytes
pub all_read : (bytes : List ℕ) (v : Value) → Spells v bytes → depth v ≤ 32 → whole bytes ≡ Ok v
all_read bytes v s deep =
    let p : Covers bytes 0 bytes (length bytes) = record { parts = sym (append-nil bytes) ∙ ap (λ l. bytes ++ l) (sym (drop_of_length-le bytes (omega arith))); next_is = omega arith; within = omega arith } in
    let r = value_again 32 bytes v bytes 0 (length bytes) (s, deep) p in
    let full : ltb (length bytes) (length bytes) ≡ false = le-ltb _ _ (omega arith) in
    ap (λ x. x >>= ended bytes) r ∙ ap (λ (b : Bool). cond b (Err (Trailing (length bytes))) (Ok v)) full

pub read_all : (bytes : List ℕ) (v : Value) → IsBytes bytes → whole bytes ≡ Ok v → Spells v bytes × (depth v ≤ 32)
read_all bytes v fits e =
    let r = bind_ok (value_at 32 bytes 0) (ended bytes) v e in
    let t = value_take 32 bytes fits r.0.0 0 r.0.1 (omega arith) r.1 in
    let g = guard_ok (ltb r.0.1 (length bytes)) (Trailing r.0.1) r.0.0 v r.2 in
    let ends : length bytes ≤ r.0.1 = ltb-false _ _ g.0 in
    let b-is : bytes ≡ t.0 = t.2.parts ∙ ap (λ l. t.0 ++ l) (drop_of_length-le bytes ends) ∙ append-nil t.0 in
    subst (λ (w : Value). Spells w bytes × (depth w ≤ 32)) g.1 (subst (Spells r.0.0) (sym b-is) t.1.0, t.1.1)

pub found_by : (r : Result Value ValueError) (bytes : List ℕ) → IsBytes bytes → Answers r (whole bytes) → IfOk r (λ v. Spells v bytes × (depth v ≤ 32))
found_by (Ok v) bytes fits e = read_all bytes v fits e
found_by (Err d) bytes fits e = tt

-- ---- two spellings at the front of the same bytes
at_front : (b x : List ℕ) → Covers (b ++ x) 0 b (length b)
at_front b x = record {
  parts = ap (λ l. b ++ l) (sym (drop_at b x (length b) refl));
  next_is = omega arith;
  within = omega (arith, length-append b x);
}

pub one_front : (v w : Value) (b c x y : List ℕ) → Spells v b → Spells w c → b ++ x ≡ c ++ y → (v ≡ w) × (b ≡ c)
one_front v w b c x y s t e =
    let levels = max (depth v) (depth w) in
    let p = value_again levels (b ++ x) v b 0 (length b) (s, omega arith) (at_front b x) in
    let q = value_again levels (b ++ x) w c 0 (length c) (t, omega arith) (subst (λ l. Covers l 0 c (length c)) (sym e) (at_front c y)) in
    let same : (v, length b) ≡ (w, length c) = ok_is (v, length b) (w, length c) (sym p ∙ q) in
    let len : length b ≡ length c = ap (λ z. z.1) same in
    (ap (λ z. z.0) same, sym (take_at b x (length b) refl) ∙ (λ i. take (len i) (e i)) ∙ take_at c y (length c) refl)
