-- The entries that are made of all records.
use Rattle.std.proofs.Common.{◌≡◌, ℕ, ◌≤◌, Bool, true, false, Option, Some, None, List, [], ◌∷◌, refl, sym, ap, ◌∙◌, arith}
use Rattle.std.specs.Prelude.{if◌then◌else◌, ◌==◌, ◌&&◌, ◌||◌, option_and_then}
use Rattle.std.specs.List.{cons_option}
use Rattle.std.specs.Str.{bytes_eq}
use Rattle.std.proofs.lemmas.Bool.{eqb-true, ne_eqb, and_right}
use Rattle.wc_graph.specs.declared.node.NodeKind.{NodeKind}
use Rattle.wc_graph.specs.declared.link.Link.{Link}
use Rattle.wc_state.specs.declared.record.ProcessRecord.{ProcessRecord}
use Rattle.wc_keys.specs.declared.entries.Sealed.{Sealed}
use Rattle.wc_keys.specs.Order.{is_in, has_digest, NumbersAbove, NumbersAscend}
use Rattle.wc_fits.specs.World.{Known}
use Rattle.wc_fits.specs.Records.{find_record, Ascend}
use Rattle.wc_keys.specs.Keys.{digest_by, digest_from, entry_of, entries_in}

above_weaker : (low m : ℕ) (xs : List Sealed) → low ≤ m → NumbersAbove m xs → NumbersAbove low xs
above_weaker low m [] le h = tt
above_weaker low m (x ∷ xs) le h = (let lt = h.0 in omega (arith, lt), h.1)

ascends_above : (low : ℕ) (xs : List Sealed) → NumbersAbove low xs → NumbersAscend xs
ascends_above low [] h = tt
ascends_above low (x ∷ xs) h = h.1

-- no number above this one is this one
none_above : (digest : List ℕ) (n : ℕ) (xs : List Sealed) → NumbersAbove n xs → is_in digest n xs ≡ false
none_above digest n [] h = refl
none_above digest n (x ∷ xs) h =
    let lt = h.0 in
    let other : (x.pid == n) ≡ false = ne_eqb x.pid n (λ e. omega (arith, e, lt)) in
    ap (λ (b : Bool). b || is_in digest n xs) (and_right (bytes_eq x.digest digest) (x.pid == n) other) ∙ none_above digest n xs (above_weaker n x.pid xs (omega (arith, lt)) h.1)

module _ (nodes : List NodeKind) (links : List Link) (libraries : List Known) where
  abbrev made : List ProcessRecord → List Sealed
  made = entries_in nodes links libraries

  entries_above : (low high : ℕ) (rs : List ProcessRecord) → Ascend low rs high → NumbersAbove low (made rs)
  entries_above low high [] up = tt
  entries_above low high (r ∷ rs) up = told (digest_by nodes links libraries r) (entries_above r.node high rs up.2)
    where
      told : (o : Option (List ℕ)) → NumbersAbove r.node (made rs) → NumbersAbove low (cons_option (entry_of r.node o) (made rs))
      told None rest = above_weaker low r.node (made rs) (let lt = up.0 in omega (arith, lt)) rest
      told (Some d) rest = (up.0, rest)

  pub entries_ascend : (high : ℕ) (rs : List ProcessRecord) → Ascend 0 rs high → NumbersAscend (made rs)
  entries_ascend high rs up = ascends_above 0 (made rs) (entries_above 0 high rs up)

  pub entries_exact : (low high : ℕ) (rs : List ProcessRecord) → Ascend low rs high → (digest : List ℕ) (n : ℕ)
      → is_in digest n (made rs) ≡ has_digest digest (digest_from nodes links libraries rs n)
  entries_exact low high [] up digest n = refl
  entries_exact low high (r ∷ rs) up digest n =
      told (digest_by nodes links libraries r) refl (r.node == n) refl (entries_exact r.node high rs up.2 digest n)
    where
      later : r.node ≡ n → is_in digest n (made rs) ≡ false
      later e = ap (λ (m : ℕ). is_in digest m (made rs)) (sym e) ∙ none_above digest r.node (made rs) (entries_above r.node high rs up.2)

      told : (o : Option (List ℕ)) → digest_by nodes links libraries r ≡ o → (b : Bool) → (r.node == n) ≡ b
          → is_in digest n (made rs) ≡ has_digest digest (digest_from nodes links libraries rs n)
          → is_in digest n (cons_option (entry_of r.node o) (made rs))
          ≡ has_digest digest (option_and_then (digest_by nodes links libraries) (if b then Some r else find_record n rs))
      told None is true same rest = later (eqb-true r.node n same) ∙ sym (ap (has_digest digest) is)
      told None is false other rest = rest
      told (Some d) is true same rest =
          ap (λ (c : Bool). (bytes_eq d digest && c) || is_in digest n (made rs)) same
          ∙ ap (λ (c : Bool). (bytes_eq d digest && true) || c) (later (eqb-true r.node n same))
          ∙ alone (bytes_eq d digest)
          ∙ sym (ap (has_digest digest) is)
        where
          alone : (c : Bool) → ((c && true) || false) ≡ c
          alone true = refl
          alone false = refl
      told (Some d) is false other rest =
          ap (λ (c : Bool). c || is_in digest n (made rs)) (and_right (bytes_eq d digest) (r.node == n) other) ∙ rest
