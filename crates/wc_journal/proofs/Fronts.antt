-- What an image holds depends on its bytes up to the first gate that is not open.
use Rattle.std.proofs.Common.{◌≡◌, ◌⊎◌, inl, inr, ℕ, zero, suc, ◌+◌, ◌<◌, ◌≤◌, Bool, true, false, List, [], ◌∷◌, length, take, drop, get_or, Option, Some, None, Ok, Err, refl, sym, ◌∙◌, ap, subst, arith, length-drop, add-zero}
use Rattle.std.specs.Prelude.{◌==◌, ◌||◌, if◌then◌else◌}
use Rattle.std.proofs.lemmas.List.{length-take, take-take, drop-take}
use Rattle.std.specs.Int.{w32, w64, from_be_bytes}
use Rattle.wc_journal.specs.Reading.{Placed, Outcome, size_of, kind_of, is_snapshot_place, stated, wrong_kind, and_then_batch, unless_wrong, batches_from, end_from}

-- these batches, and then what follows
abbrev pub and_then_all : Placed → Outcome → Outcome
and_then_all [] outcome = outcome
and_then_all (b ∷ bs) outcome = and_then_batch b (and_then_all bs outcome)

-- ---- what stands before a payload
pub size_least : (v : ℕ) → 4 ≤ size_of v
size_least v = by_version (v == 1)
  where
    by_version : (one : Bool) → 4 ≤ (if one then 4 else 9)
    by_version true = omega arith
    by_version false = omega arith

stated_by : (one : Bool) (bs cs : List ℕ) → take (if one then 4 else 9) cs ≡ take (if one then 4 else 9) bs
    → (if one then from_be_bytes w32 (take 4 cs) else from_be_bytes w64 (take 8 (drop 1 cs))) ≡ (if one then from_be_bytes w32 (take 4 bs) else from_be_bytes w64 (take 8 (drop 1 bs)))
stated_by true bs cs same = ap (λ (l : List ℕ). from_be_bytes w32 l) same
stated_by false bs cs same =
    ap (λ (l : List ℕ). from_be_bytes w64 l) (sym (drop-take 1 8 cs) ∙ ap (λ (l : List ℕ). drop 1 l) same ∙ drop-take 1 8 bs)

pub stated_same : (v : ℕ) (bs cs : List ℕ) → take (size_of v) cs ≡ take (size_of v) bs → stated v cs ≡ stated v bs
unfolding stated
stated_same v bs cs same = stated_by (v == 1) bs cs same

wrong_by : (v g place : ℕ) (bs cs : List ℕ) → take 4 cs ≡ take 4 bs → wrong_kind v g place cs ≡ wrong_kind v g place bs
unfolding wrong_kind
wrong_by v g place [] [] same = refl
wrong_by v g place [] (c ∷ cs) same = absurd (cc)
wrong_by v g place (b ∷ bs) [] same = absurd (cc)
wrong_by v g place (b ∷ bs) (c ∷ cs) same =
    let first : c ≡ b = cc in ap (λ (k : ℕ). if v == 1 || k == kind_of (is_snapshot_place g place) then None else Some k) first

pub wrong_same : (v g place : ℕ) (bs cs : List ℕ) → take (size_of v) cs ≡ take (size_of v) bs → wrong_kind v g place cs ≡ wrong_kind v g place bs
wrong_same v g place bs cs same =
    wrong_by v g place bs cs (sym (take-take 4 (size_of v) cs (size_least v)) ∙ ap (λ (l : List ℕ). take 4 l) same ∙ take-take 4 (size_of v) bs (size_least v))

-- ---- reading
pub either : (b : Bool) → (b ≡ true) ⊎ (b ≡ false)
either true = inl refl
either false = inr refl

pub unwrapped : (wrong : Option ℕ) (at : ℕ) (b : ℕ × List ℕ) (r : Outcome) (bs : Placed) → unless_wrong wrong at (and_then_batch b r) ≡ Ok bs
    → (wrong ≡ None) × ((rest : Placed) × (r ≡ Ok rest) × (bs ≡ b ∷ rest))
unwrapped None at b (Ok rest) bs is = (refl, (rest, refl, cc))
unwrapped None at b (Err e) bs is = absurd (cc)
unwrapped (Some kind) at b r bs is = absurd (cc)

module _ (v g : ℕ) where
  pub record Front (place at skip : ℕ) (bytes : List ℕ) (bs : Placed) : Type 0 where
    pub stop : ℕ
    pub is_end : at + stop ≡ end_from (at + skip) bs
    pub past : skip ≤ stop
    pub inside : stop < length bytes
    pub closed : (get_or bytes stop 0 == 1) ≡ false
    pub only_front : (other : List ℕ) → take stop other ≡ take stop bytes → batches_from v g place at skip other ≡ and_then_all bs (batches_from v g (place + length bs) (at + stop) 0 (drop stop other))

  front_more : (b : ℕ) (bytes : List ℕ) (place at skip : ℕ) (bs : Placed) → Front place (at + 1) skip bytes bs → Front place at (suc skip) (b ∷ bytes) bs
  front_more b bytes place at skip bs f =
      let next : at + 1 + f.stop ≡ at + suc f.stop = omega arith in
      record {
        stop = suc f.stop;
        is_end = sym next ∙ f.is_end ∙ ap (λ (n : ℕ). end_from n bs) (omega arith);
        past = omega (arith, f.past);
        inside = omega (arith, f.inside);
        closed = f.closed;
        only_front = only;
      }
    where
      only : (other : List ℕ) → take (suc f.stop) other ≡ take (suc f.stop) (b ∷ bytes)
          → batches_from v g place at (suc skip) other ≡ and_then_all bs (batches_from v g (place + length bs) (at + suc f.stop) 0 (drop (suc f.stop) other))
      only [] same = absurd (cc)
      only (o ∷ os) same =
          let rest : take f.stop os ≡ take f.stop bytes = cc in
          let next : at + 1 + f.stop ≡ at + suc f.stop = omega arith in
          f.only_front os rest ∙ ap (λ (n : ℕ). and_then_all bs (batches_from v g (place + length bs) n 0 (drop f.stop os))) next

  -- what an open gate and the batch behind it give
  abbrev opened : (place at : ℕ) (bytes : List ℕ) → Outcome
  opened place at bytes =
      unless_wrong (wrong_kind v g place bytes) (at + 1)
      (and_then_batch (at + 1 + size_of v, take (stated v bytes) (drop (size_of v) bytes)) (batches_from v g (place + 1) (at + 1) (size_of v + stated v bytes) bytes))

  pub reads_open : (place at gate : ℕ) (bytes : List ℕ) → (gate == 1) ≡ true → batches_from v g place at 0 (gate ∷ bytes) ≡ opened place at bytes
  reads_open place at gate bytes is = ap (λ (c : Bool). if c then opened place at bytes else Ok []) is

  pub reads_shut : (place at gate : ℕ) (bytes : List ℕ) → (gate == 1) ≡ false → batches_from v g place at 0 (gate ∷ bytes) ≡ Ok []
  reads_shut place at gate bytes is = ap (λ (c : Bool). if c then opened place at bytes else Ok []) is

  front_shut : (gate : ℕ) (bytes : List ℕ) (place at : ℕ) (bs : Placed) → (gate == 1) ≡ false → bs ≡ [] → Front place at 0 (gate ∷ bytes) bs
  front_shut gate bytes place at bs is none = record {
    stop = 0;
    is_end = ap (λ (l : Placed). end_from (at + 0) l) (sym none);
    past = omega arith;
    inside = omega arith;
    closed = is;
    only_front = λ other same.
        (λ i. batches_from v g (sym (add-zero place) i) (sym (add-zero at) i) 0 other)
        ∙ ap (λ (l : Placed). and_then_all l (batches_from v g (place + length l) (at + 0) 0 other)) (sym none);
  }

  front_open : (gate : ℕ) (bytes : List ℕ) (place at : ℕ) (rest : Placed) → (gate == 1) ≡ true → wrong_kind v g place bytes ≡ None
      → Front (place + 1) (at + 1) (size_of v + stated v bytes) bytes rest
      → Front place at 0 (gate ∷ bytes) ((at + 1 + size_of v, take (stated v bytes) (drop (size_of v) bytes)) ∷ rest)
  front_open gate bytes place at rest is right f =
      let n = stated v bytes in
      let payload : length (take n (drop (size_of v) bytes)) ≡ n = omega (arith, length-take n (drop (size_of v) bytes), length-drop (size_of v) bytes, f.inside, f.past) in
      record {
        stop = suc f.stop;
        is_end = omega_next f.stop ∙ f.is_end ∙ ap (λ (k : ℕ). end_from k rest) (omega (arith, payload));
        past = omega arith;
        inside = omega (arith, f.inside);
        closed = f.closed;
        only_front = only;
      }
    where
      omega_next : (s : ℕ) → at + suc s ≡ at + 1 + s
      omega_next s = omega arith

      only : (other : List ℕ) → take (suc f.stop) other ≡ take (suc f.stop) (gate ∷ bytes)
          → batches_from v g place at 0 other
          ≡ and_then_all ((at + 1 + size_of v, take (stated v bytes) (drop (size_of v) bytes)) ∷ rest) (batches_from v g (place + suc (length rest)) (at + suc f.stop) 0 (drop (suc f.stop) other))
      only [] same = absurd (cc)
      only (o ∷ os) same =
          let head : o ≡ gate = cc in
          let tail : take f.stop os ≡ take f.stop bytes = cc in
          let s = size_of v in
          let n = stated v bytes in
          let whole : take (s + n) os ≡ take (s + n) bytes
          = sym (take-take (s + n) f.stop os f.past) ∙ ap (λ (l : List ℕ). take (s + n) l) tail ∙ take-take (s + n) f.stop bytes f.past in
          let short : take s os ≡ take s bytes
          = sym (take-take s (s + n) os (omega arith)) ∙ ap (λ (l : List ℕ). take s l) whole ∙ take-take s (s + n) bytes (omega arith) in
          let lengths : stated v os ≡ n = stated_same v bytes os short in
          let payload : take (stated v os) (drop s os) ≡ take n (drop s bytes)
          = ap (λ (k : ℕ). take k (drop s os)) lengths ∙ sym (drop-take s n os) ∙ ap (λ (l : List ℕ). drop s l) whole ∙ drop-take s n bytes in
          let places : place + 1 + length rest ≡ place + suc (length rest) = omega arith in
          reads_open place at o os (ap (λ (k : ℕ). k == 1) head ∙ is)
          ∙ ap (λ (w : Option ℕ). unless_wrong w (at + 1) (and_then_batch (at + 1 + s, take (stated v os) (drop s os)) (batches_from v g (place + 1) (at + 1) (s + stated v os) os)))
          (wrong_same v g place bytes os short ∙ right)
          ∙ (λ i. and_then_batch (at + 1 + s, payload i) (batches_from v g (place + 1) (at + 1) (s + lengths i) os))
          ∙ ap (λ (r : Outcome). and_then_batch (at + 1 + s, take n (drop s bytes)) r) (f.only_front os tail)
          ∙ (λ i. and_then_batch (at + 1 + s, take n (drop s bytes)) (and_then_all rest (batches_from v g (places i) (sym (omega_next f.stop) i) 0 (drop f.stop os))))

  -- the gate that is not open, and what an image has that is the same before it
  pub front : (bytes : List ℕ) (place at skip : ℕ) (bs : Placed) → batches_from v g place at skip bytes ≡ Ok bs → Front place at skip bytes bs
  front [] place at skip bs is = absurd (cc)
  front (b ∷ bytes) place at (suc skip) bs is = front_more b bytes place at skip bs (front bytes place (at + 1) skip bs is)
  front (gate ∷ bytes) place at zero bs is = elim (either (gate == 1)) [
    | inl open_gate ↦
        let u = unwrapped _ _ _ _ bs (sym (reads_open place at gate bytes open_gate) ∙ is) in
        subst (Front place at 0 (gate ∷ bytes)) (sym u.1.2)
        (front_open gate bytes place at u.1.0 open_gate u.0 (front bytes (place + 1) (at + 1) (size_of v + stated v bytes) u.1.0 u.1.1))
    | inr shut ↦ let same : Ok [] ≡ Ok bs = sym (reads_shut place at gate bytes shut) ∙ is in front_shut gate bytes place at bs shut cc
  ]
