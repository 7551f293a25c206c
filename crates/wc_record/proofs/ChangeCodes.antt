-- Changes but for libraries: what is spelled is read, and what is read is spelled.
use Rattle.std.proofs.Common.{◌≡◌, ℕ, ◌+◌, true, List, [], ◌∷◌, length, Ok, refl, arith}
use Rattle.wc_value.specs.Spelling.{spelling}
use Rattle.wc_value.specs.Spells.{IsText}
use Rattle.wc_value.proofs.Places.{Covers}
use Rattle.wc_value.specs.declared.process.Reason.{Reason}
use Rattle.wc_value.specs.declared.process.Reason.TheVariants as reason
use Rattle.wc_value.specs.declared.process.ProcessState.{ProcessState}
use Rattle.wc_value.specs.declared.process.ProcessState.TheVariants as state
use Rattle.wc_graph.specs.declared.link.LinkType.{LinkType}
use Rattle.wc_graph.specs.declared.link.LinkType.TheVariants as link_type
use Rattle.wc_state.specs.declared.record.ProcessKind.{ProcessKind}
use Rattle.wc_state.specs.declared.record.ProcessKind.TheVariants as kind
use Rattle.wc_world.specs.Fits.{names_ascend}
use Rattle.wc_world.specs.declared.change.Change.{Change}
use Rattle.wc_world.specs.declared.change.Change.TheVariants as change
use Rattle.wc_record.specs.Readers.{value, u32, stands_for, name}
use Rattle.wc_record.specs.Fields.{kinds, kind_of_process, link_types, type_of_link, reasons, zero_for, states, process_state, as_process, new_process, as_link, link, as_set, set_process, as_kept, kept, other_changes, other_change, names}
use Rattle.wc_record.specs.Spelled.{u32_bytes, text_bytes, kind_byte, type_byte, reason_number, state_bytes, list, new_bytes, link_bytes, set_bytes, kept_bytes, change_bytes}
use Rattle.wc_record.specs.Written.{IsNumber, IsList, IsValue, IsState, IsNew, IsLink, IsSet, IsKept, IsChange}
use Rattle.wc_record.proofs.Codes.{Codes, ◌⊠◌, made_of, recast}
use Rattle.wc_record.proofs.Choices.{choice_back, always_back, built_back, number_back, choice_taken, always_takes, built_takes, number_takes}
use Rattle.wc_record.proofs.Atoms.{u32_codes, u64_codes, text_codes, value_codes, name_codes}
use Rattle.wc_record.proofs.Series.{Each, counted_codes, each_of_all, each_both, each_from, list_of_series, ComesAfter, each_after, after_each}
use Rattle.wc_record.proofs.PartCodes.{Anything, truth_codes, code_codes, part_codes}

-- ---- bytes that stand for something
abbrev kind_bytes : ProcessKind → List ℕ
kind_bytes k = kind_byte k ∷ []

kind_back : (bytes : List ℕ) (k : ProcessKind) (at next : ℕ) → Unit {0} → Covers bytes at (kind_bytes k) next → kind_of_process bytes at ≡ Ok (k, next)
kind_back bytes kind.Function at next h p = always_back kinds bytes 1 kind.Function at next p refl
kind_back bytes kind.Job at next h p = always_back kinds bytes 2 kind.Job at next p refl
kind_back bytes kind.Chain at next h p = always_back kinds bytes 3 kind.Chain at next p refl

kind_codes : Codes Anything kind_bytes kind_of_process
kind_codes = record {
  back = kind_back;
  taken = choice_taken Anything kind_bytes kinds (
    always_takes Anything kind_bytes 1 kind.Function tt refl,
    (always_takes Anything kind_bytes 2 kind.Job tt refl, (always_takes Anything kind_bytes 3 kind.Chain tt refl, tt)),
  );
}

abbrev type_bytes : LinkType → List ℕ
type_bytes t = type_byte t ∷ []

type_back : (bytes : List ℕ) (t : LinkType) (at next : ℕ) → Unit {0} → Covers bytes at (type_bytes t) next → type_of_link bytes at ≡ Ok (t, next)
type_back bytes link_type.InputCalc at next h p = always_back link_types bytes 1 link_type.InputCalc at next p refl
type_back bytes link_type.InputWork at next h p = always_back link_types bytes 2 link_type.InputWork at next p refl
type_back bytes link_type.Create at next h p = always_back link_types bytes 3 link_type.Create at next p refl
type_back bytes link_type.Return at next h p = always_back link_types bytes 4 link_type.Return at next p refl
type_back bytes link_type.CallCalc at next h p = always_back link_types bytes 5 link_type.CallCalc at next p refl
type_back bytes link_type.CallWork at next h p = always_back link_types bytes 6 link_type.CallWork at next p refl

type_codes : Codes Anything type_bytes type_of_link
type_codes = record {
  back = type_back;
  taken = choice_taken Anything type_bytes link_types (
    always_takes Anything type_bytes 1 link_type.InputCalc tt refl,
    (
      always_takes Anything type_bytes 2 link_type.InputWork tt refl,
      (
        always_takes Anything type_bytes 3 link_type.Create tt refl,
        (
          always_takes Anything type_bytes 4 link_type.Return tt refl,
          (always_takes Anything type_bytes 5 link_type.CallCalc tt refl, (always_takes Anything type_bytes 6 link_type.CallWork tt refl, tt)),
        ),
      ),
    ),
  );
}

-- ---- states
reason_small : (r : Reason) → IsNumber (reason_number r)
reason_small reason.Overflow = omega arith
reason_small reason.DivideByZero = omega arith
reason_small reason.MissingKey = omega arith
reason_small reason.WrongKind = omega arith
reason_small reason.NoOutput = omega arith
reason_small reason.BadText = omega arith
reason_small reason.TooLong = omega arith
reason_small reason.Depth = omega arith
reason_small reason.BadInput = omega arith

reason_stands : (r : Reason) (at next : ℕ) → stands_for reasons at (reason_number r, next) ≡ Ok (state.Excepted r, next)
reason_stands reason.Overflow at next = refl
reason_stands reason.DivideByZero at next = refl
reason_stands reason.MissingKey at next = refl
reason_stands reason.WrongKind at next = refl
reason_stands reason.NoOutput at next = refl
reason_stands reason.BadText at next = refl
reason_stands reason.TooLong at next = refl
reason_stands reason.Depth at next = refl
reason_stands reason.BadInput at next = refl

no_number : IsNumber 0
no_number = omega arith

state_back : (bytes : List ℕ) (s : ProcessState) (at next : ℕ) → IsState s → Covers bytes at (state_bytes s) next → process_state bytes at ≡ Ok (s, next)
state_back bytes state.Created at next h p =
    choice_back states bytes 1 (u32_bytes 0) state.Created at next p (λ q. number_back (zero_for state.Created) u32_codes bytes 0 state.Created (at + 1) next no_number q refl)
state_back bytes state.Running at next h p =
    choice_back states bytes 2 (u32_bytes 0) state.Running at next p (λ q. number_back (zero_for state.Running) u32_codes bytes 0 state.Running (at + 1) next no_number q refl)
state_back bytes state.Waiting at next h p =
    choice_back states bytes 3 (u32_bytes 0) state.Waiting at next p (λ q. number_back (zero_for state.Waiting) u32_codes bytes 0 state.Waiting (at + 1) next no_number q refl)
state_back bytes (state.Finished n) at next h p =
    choice_back states bytes 4 (u32_bytes n) (state.Finished n) at next p (λ q. built_back IsNumber u32_bytes u32 state.Finished u32_codes bytes n (at + 1) next h q)
state_back bytes (state.Excepted r) at next h p =
    choice_back states bytes 5 (u32_bytes (reason_number r)) (state.Excepted r) at next p
    (λ q. number_back reasons u32_codes bytes (reason_number r) (state.Excepted r) (at + 1) next (reason_small r) q (reason_stands r (at + 1) next))
state_back bytes state.Killed at next h p =
    choice_back states bytes 6 (u32_bytes 0) state.Killed at next p (λ q. number_back (zero_for state.Killed) u32_codes bytes 0 state.Killed (at + 1) next no_number q refl)

state_codes : Codes IsState state_bytes process_state
state_codes = record {
  back = state_back;
  taken = choice_taken IsState state_bytes states (
    number_takes IsState state_bytes 1 (zero_for state.Created) u32_codes ((tt, refl), tt),
    (
      number_takes IsState state_bytes 2 (zero_for state.Running) u32_codes ((tt, refl), tt),
      (
        number_takes IsState state_bytes 3 (zero_for state.Waiting) u32_codes ((tt, refl), tt),
        (
          built_takes IsNumber u32_bytes u32 IsState state_bytes 4 state.Finished u32_codes (λ n h. h) (λ n. refl),
          (
            number_takes IsState state_bytes 5 reasons u32_codes ((tt, refl), ((tt, refl), ((tt, refl), ((tt, refl), ((tt, refl), ((tt, refl), ((tt, refl), ((tt, refl), ((tt, refl), tt))))))))),
            (number_takes IsState state_bytes 6 (zero_for state.Killed) u32_codes ((tt, refl), tt), tt),
          ),
        ),
      ),
    ),
  );
}

-- ---- records
process_codes : Codes IsNew new_bytes new_process
process_codes =
    recast IsNew new_bytes
    (made_of as_process (λ n. (n.kind, (n.definition, (n.library, (n.depth, (n.label, n.caching)))))) (kind_codes ⊠ text_codes ⊠ u32_codes ⊠ u32_codes ⊠ text_codes ⊠ truth_codes) (λ x. refl) (λ n. refl))
    (λ n h. record { definition = h.1.0; library = h.1.1.0; depth = h.1.1.1.0; label = h.1.1.1.1.0 })
    (λ n h. (tt, (h.definition, (h.library, (h.depth, (h.label, tt))))))
    (λ n. refl)

link_codes : Codes IsLink link_bytes link
link_codes =
    recast IsLink link_bytes
    (made_of as_link (λ l. (l.source, (l.target, (l.link, l.label)))) (u32_codes ⊠ u32_codes ⊠ type_codes ⊠ text_codes) (λ x. refl) (λ l. refl))
    (λ l h. record { source = h.0; target = h.1.0; label = h.1.1.1 })
    (λ l h. (h.source, (h.target, (tt, h.label))))
    (λ l. refl)

set_codes : Codes IsSet set_bytes set_process
set_codes =
    recast IsSet set_bytes
    (made_of as_set (λ s. (s.pid, (s.state, (s.paused, (s.cached_from, (s.fuel, (s.code, s.part)))))))
    (u32_codes ⊠ state_codes ⊠ truth_codes ⊠ u32_codes ⊠ u64_codes ⊠ code_codes ⊠ part_codes) (λ x. refl) (λ s. refl))
    (λ s h. record { pid = h.0; state = h.1.0; cached_from = h.1.1.1.0; fuel = h.1.1.1.1.0; code = h.1.1.1.1.1.0; part = h.1.1.1.1.1.1 })
    (λ s h. (h.pid, (h.state, (tt, (h.cached_from, (h.fuel, (h.code, h.part)))))))
    (λ s. refl)

kept_codes : Codes IsKept kept_bytes kept
kept_codes =
    recast IsKept kept_bytes (made_of as_kept (λ k. (k.pid, (k.started, k.ended))) (u32_codes ⊠ u32_codes ⊠ u32_codes) (λ x. refl) (λ k. refl))
    (λ k h. record { pid = h.0; started = h.1.0; ended = h.1.1 })
    (λ k h. (h.pid, (h.started, h.ended)))
    (λ k. refl)

-- ---- changes
abbrev pub IsNoLibrary : Change → Type 0
IsNoLibrary (change.Library _ _) = ⊥
IsNoLibrary _ = Unit {0}

abbrev pub IsOther : Change → Type 0
IsOther c = IsNoLibrary c × IsChange c

other_back : (bytes : List ℕ) (c : Change) (at next : ℕ) → IsOther c → Covers bytes at (change_bytes c) next → other_change bytes at ≡ Ok (c, next)
other_back bytes (change.Library _ _) at next h p = absurd h.0
other_back bytes (change.Data v) at next h p =
    choice_back other_changes bytes 2 (spelling v) (change.Data v) at next p (λ q. built_back IsValue spelling value change.Data value_codes bytes v (at + 1) next h.1 q)
other_back bytes (change.Process n) at next h p =
    choice_back other_changes bytes 3 (new_bytes n) (change.Process n) at next p (λ q. built_back IsNew new_bytes new_process change.Process process_codes bytes n (at + 1) next h.1 q)
other_back bytes (change.Link l) at next h p =
    choice_back other_changes bytes 4 (link_bytes l) (change.Link l) at next p (λ q. built_back IsLink link_bytes link change.Link link_codes bytes l (at + 1) next h.1 q)
other_back bytes (change.Set s) at next h p =
    choice_back other_changes bytes 5 (set_bytes s) (change.Set s) at next p (λ q. built_back IsSet set_bytes set_process change.Set set_codes bytes s (at + 1) next h.1 q)
other_back bytes (change.Count n) at next h p =
    choice_back other_changes bytes 6 (u32_bytes n) (change.Count n) at next p (λ q. built_back IsNumber u32_bytes u32 change.Count u32_codes bytes n (at + 1) next h.1 q)
other_back bytes (change.Kept k) at next h p =
    choice_back other_changes bytes 7 (kept_bytes k) (change.Kept k) at next p (λ q. built_back IsKept kept_bytes kept change.Kept kept_codes bytes k (at + 1) next h.1 q)

pub other_codes : Codes IsOther change_bytes other_change
other_codes = record {
  back = other_back;
  taken = choice_taken IsOther change_bytes other_changes (
    built_takes IsValue spelling value IsOther change_bytes 2 change.Data value_codes (λ y h. (tt, h)) (λ y. refl),
    (
      built_takes IsNew new_bytes new_process IsOther change_bytes 3 change.Process process_codes (λ y h. (tt, h)) (λ y. refl),
      (
        built_takes IsLink link_bytes link IsOther change_bytes 4 change.Link link_codes (λ y h. (tt, h)) (λ y. refl),
        (
          built_takes IsSet set_bytes set_process IsOther change_bytes 5 change.Set set_codes (λ y h. (tt, h)) (λ y. refl),
          (
            built_takes IsNumber u32_bytes u32 IsOther change_bytes 6 change.Count u32_codes (λ y h. (tt, h)) (λ y. refl),
            (built_takes IsKept kept_bytes kept IsOther change_bytes 7 change.Kept kept_codes (λ y h. (tt, h)) (λ y. refl), tt),
          ),
        ),
      ),
    ),
  );
}

-- ---- the names of a library
abbrev pub AreNames : List (List ℕ) → Type 0
AreNames ts = IsList IsText ts × (names_ascend ts ≡ true)

abbrev IsNextName : List (List ℕ) → List ℕ → Type 0
IsNextName front t = IsText t × ComesAfter front t

pub names_codes : Codes AreNames (list text_bytes) names
names_codes = recast AreNames (list text_bytes) (counted_codes IsNextName text_bytes name name_codes) to from (λ ts. refl)
  where
    to : (ts : List (List ℕ)) → IsNumber (length ts) × Each IsNextName [] ts → AreNames ts
    to ts h = (list_of_series IsNextName IsText (λ front t q. q.0) ts h, after_each [] ts (each_from IsNextName ComesAfter (λ front t q. q.1) [] ts h.1))

    from : (ts : List (List ℕ)) → AreNames ts → IsNumber (length ts) × Each IsNextName [] ts
    from ts h = (h.0.few, each_both (λ front. IsText) ComesAfter IsNextName (λ front t q r. (q, r)) [] ts (each_of_all IsText [] ts h.0.each) (each_after [] ts h.1))
