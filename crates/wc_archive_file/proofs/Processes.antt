-- The members of a process, one after another.
use Rattle.std.proofs.Common.{◌≡◌, ℕ, ℤ, List, Option, Some, None, Result, Ok, Err, ◌⊎◌, inl, inr, refl, sym, ap, subst, ◌∙◌, codes, ◌<◌, ◌^◌}
use Rattle.std.specs.Prelude.{FitsSigned}
use Rattle.std.specs.Int.{w64}
use Rattle.serde_json.specs.Data.{string, Members, no_members, member}
use Rattle.wc_value.specs.declared.process.ProcessState.{ProcessState}
use Rattle.wc_state.specs.declared.record.ProcessKind.{ProcessKind}
use Rattle.wc_state.specs.declared.record.ProcessKind.TheVariants as kind
use Rattle.wc_report.specs.Lists.{process_kind_text}
use Rattle.wc_archive_file.specs.declared.archive.ArchiveProcess.{ArchiveProcess}
use Rattle.wc_archive_file.specs.declared.misread.Misread.{Misread}
use Rattle.wc_archive_file.specs.Archives.{IsCode, IsProcess, IsState, code_data, kind_data, number_data, process_object, state_data, uncoded_object, with_code}
use Rattle.wc_archive_file.specs.Reads.{HasCode, IsCoded, IsUncoded, Reads, ReadsNext, Refuses}
use Rattle.wc_archive_file.proofs.Steps.{refuses}
use Rattle.wc_archive_file.proofs.Objects.{bare_object, kind_is, next_is, uncoded_fits, with_the_code, without_code}

-- what stands behind each member
abbrev at_state : ArchiveProcess → Members
at_state p = member (codes "state") (state_data p.state) no_members

abbrev at_label : ArchiveProcess → Members
at_label p = member (codes "label") (string p.label) (at_state p)

abbrev at_kind : ArchiveProcess → Members
at_kind p = member (codes "kind") (kind_data p.kind) (at_label p)

abbrev at_fuel : ArchiveProcess → Members
at_fuel p = member (codes "fuel") (number_data p.fuel) (at_kind p)

abbrev at_depth : ArchiveProcess → Members
at_depth p = member (codes "depth") (number_data p.depth) (at_fuel p)

whole_object : (p : ArchiveProcess) → uncoded_object p ≡ member (codes "definition") (string p.definition) (at_depth p)
whole_object p = refl

-- the members of a process, of which the first so many were read
module _ (old : Members) where
  abbrev Is : ArchiveProcess → Type 0
  Is p = old ≡ process_object p

  start : (p : ArchiveProcess) → IsUncoded p → Is p → old ≡ member (codes "definition") (string p.definition) (at_depth p)
  start p f is = is ∙ bare_object p f.1

  pub no_definition : (new : Members) (e : Misread) → ReadsNext string (λ t. Unit {0}) (codes "definition") old (Err e) new
      → Refuses ((p : ArchiveProcess) → IsUncoded p → Is p → ⊥) e
  no_definition new e h = refuses e (λ never p f is. never p.definition (at_depth p) tt (start p f is)) h

  module _ (definition : List ℕ) (m1 : Members) (one : old ≡ member (codes "definition") (string definition) m1) where
    after1 : (p : ArchiveProcess) → IsUncoded p → Is p → m1 ≡ at_depth p
    after1 p f is = next_is (codes "definition") (string definition) (string p.definition) old m1 (at_depth p) one (start p f is)

    pub no_depth : (new : Members) (e : Misread) → ReadsNext number_data (λ n. n < 2 ^ 32) (codes "depth") m1 (Err e) new
        → Refuses ((p : ArchiveProcess) → IsUncoded p → Is p → ⊥) e
    no_depth new e h = refuses e (λ never p f is. never p.depth (at_fuel p) f.0.depth (after1 p f is)) h

    module _ (depth : ℕ) (m2 : Members) (two : m1 ≡ member (codes "depth") (number_data depth) m2) where
      after2 : (p : ArchiveProcess) → IsUncoded p → Is p → m2 ≡ at_fuel p
      after2 p f is = next_is (codes "depth") (number_data depth) (number_data p.depth) m1 m2 (at_fuel p) two (after1 p f is)

      pub no_fuel : (new : Members) (e : Misread) → ReadsNext number_data (λ n. n < 2 ^ 64) (codes "fuel") m2 (Err e) new
          → Refuses ((p : ArchiveProcess) → IsUncoded p → Is p → ⊥) e
      no_fuel new e h = refuses e (λ never p f is. never p.fuel (at_kind p) f.0.fuel (after2 p f is)) h

      module _ (fuel : ℕ) (m3 : Members) (three : m2 ≡ member (codes "fuel") (number_data fuel) m3) where
        after3 : (p : ArchiveProcess) → IsUncoded p → Is p → m3 ≡ at_kind p
        after3 p f is = next_is (codes "fuel") (number_data fuel) (number_data p.fuel) m2 m3 (at_kind p) three (after2 p f is)

        pub no_kind : (new : Members) (e : Misread) → ReadsNext kind_data (λ k. Unit {0}) (codes "kind") m3 (Err e) new
            → Refuses ((p : ArchiveProcess) → IsUncoded p → Is p → ⊥) e
        no_kind new e h = refuses e (λ never p f is. never p.kind (at_label p) tt (after3 p f is)) h

        module _ (k : ProcessKind) (m4 : Members) (four : m3 ≡ member (codes "kind") (kind_data k) m4) where
          after4 : (p : ArchiveProcess) → IsUncoded p → Is p → m4 ≡ at_label p
          after4 p f is = next_is (codes "kind") (kind_data k) (kind_data p.kind) m3 m4 (at_label p) four (after3 p f is)

          pub no_label : (new : Members) (e : Misread) → ReadsNext string (λ t. Unit {0}) (codes "label") m4 (Err e) new
              → Refuses ((p : ArchiveProcess) → IsUncoded p → Is p → ⊥) e
          no_label new e h = refuses e (λ never p f is. never p.label (at_state p) tt (after4 p f is)) h

          module _ (label : List ℕ) (m5 : Members) (five : m4 ≡ member (codes "label") (string label) m5) where
            after5 : (p : ArchiveProcess) → IsUncoded p → Is p → m5 ≡ at_state p
            after5 p f is = next_is (codes "label") (string label) (string p.label) m4 m5 (at_state p) five (after4 p f is)

            pub no_state : (new : Members) (e : Misread) → ReadsNext state_data IsState (codes "state") m5 (Err e) new
                → Refuses ((p : ArchiveProcess) → IsUncoded p → Is p → ⊥) e
            no_state new e h = refuses e (λ never p f is. never p.state no_members f.0.state (after5 p f is)) h

            module _ (s : ProcessState) (m6 : Members) (six : m5 ≡ member (codes "state") (state_data s) m6) where
              pub not_done : (m6 ≡ no_members → ⊥) → (p : ArchiveProcess) → IsUncoded p → Is p → ⊥
              not_done more p f is = more (next_is (codes "state") (state_data s) (state_data p.state) m5 m6 no_members six (after5 p f is))

              pub done : m6 ≡ no_members
                  → old ≡ process_object (record { kind = k; definition = definition; depth = depth; label = label; state = s; fuel = fuel; code = None })
              done none =
                  one ∙ ap (λ (m : Members). member (codes "definition") (string definition) m) (two ∙ ap (λ (m : Members). member (codes "depth") (number_data depth) m)
                  (three ∙ ap (λ (m : Members). member (codes "fuel") (number_data fuel) m) (four ∙ ap (λ (m : Members). member (codes "kind") (kind_data k) m)
                  (five ∙ ap (λ (m : Members). member (codes "label") (string label) m) (six ∙ ap (λ (m : Members). member (codes "state") (state_data s) m) none)))))

-- ---- with a code

record CodeOf (o : Option ℤ) : Type 0 where
  code : ℤ
  is : o ≡ Some code

code_of : (o : Option ℤ) → HasCode o → CodeOf o
code_of None h = absurd h
code_of (Some z) h = record { code = z; is = refl }

coded_object : (p : ArchiveProcess) (o : Option ℤ) (z : ℤ) → o ≡ Some z → with_code o (uncoded_object p) ≡ member (codes "code") (code_data z) (uncoded_object p)
coded_object p o z e = ap (λ (c : Option ℤ). with_code c (uncoded_object p)) e

fits_code : (k : ProcessKind) (o : Option ℤ) (z : ℤ) → o ≡ Some z → IsCode k o → FitsSigned w64 z × (k ≡ kind.Job)
fits_code k o z e h = subst (λ (c : Option ℤ). IsCode k c) e h

same_kinds : (p q : ArchiveProcess) → uncoded_object p ≡ uncoded_object q → process_kind_text p.kind ≡ process_kind_text q.kind
same_kinds p q e = cc

module _ (old : Members) where
  pub no_code : (new : Members) (e : Misread) → ReadsNext code_data (FitsSigned w64) (codes "code") old (Err e) new
      → Refuses ((p : ArchiveProcess) → IsCoded p → old ≡ process_object p → ⊥) e
  no_code new e h =
      refuses e (λ never p f is.
      let z = code_of p.code f.1 in
      never z.code (uncoded_object p) (fits_code p.kind p.code z.code z.is f.0.code).0 (is ∙ coded_object p p.code z.code z.is)) h

  module _ (z : ℤ) (new : Members) (one : old ≡ member (codes "code") (code_data z) new) where
    rest_is : (p : ArchiveProcess) → IsCoded p → old ≡ process_object p → new ≡ uncoded_object p
    rest_is p f is =
        let y = code_of p.code f.1 in
        next_is (codes "code") (code_data z) (code_data y.code) old new (uncoded_object p) one (is ∙ coded_object p p.code y.code y.is)

    pub no_coded : (e : Misread) → Reads process_object IsUncoded new (Err e) → Refuses ((p : ArchiveProcess) → IsCoded p → old ≡ process_object p → ⊥) e
    no_coded e h = refuses e (λ never p f is. never (without_code p) (uncoded_fits p f.0) (rest_is p f is)) h

    module _ (q : ArchiveProcess) (h : Reads process_object IsUncoded new (Ok q)) where
      pub is_no_job : (q.kind ≡ kind.Job → ⊥) → (p : ArchiveProcess) → IsCoded p → old ≡ process_object p → ⊥
      is_no_job other p f is =
          let y = code_of p.code f.1 in
          let job : p.kind ≡ kind.Job = (fits_code p.kind p.code y.code y.is f.0.code).1 in
          let same : uncoded_object q ≡ uncoded_object p = sym (h.0 ∙ bare_object q h.1.1) ∙ rest_is p f is in
          other (kind_is q.kind (same_kinds q p same ∙ ap process_kind_text job))

      pub is_job : FitsSigned w64 z → q.kind ≡ kind.Job → (p : ArchiveProcess) → p ≡ with_the_code z q → (old ≡ process_object p) × IsCoded p
      is_job fits job p e =
          rw e (
            one ∙ ap (λ (m : Members). member (codes "code") (code_data z) m) (h.0 ∙ bare_object q h.1.1),
            (record { depth = h.1.0.depth; fuel = h.1.0.fuel; state = h.1.0.state; code = (fits, job) }, tt),
          )

-- ---- any process

coded_or_not : (p : ArchiveProcess) (o : Option ℤ) → p.code ≡ o → IsProcess p → IsCoded p ⊎ IsUncoded p
coded_or_not p None e f = inr (f, e)
coded_or_not p (Some z) e f = inl (f, rw e tt)

pub either_read : (old : Members) (r : Result ArchiveProcess Misread) → ((p : ArchiveProcess) → IsCoded p → old ≡ process_object p → ⊥) → Reads process_object IsUncoded old r
    → Reads process_object IsProcess old r
either_read old (Ok p) none h = (h.0, h.1.0)
either_read old (Err e) none h =
    refuses e (λ never p f is. elim (coded_or_not p p.code refl f) [ inl coded ↦ none p coded is | inr uncoded ↦ never p uncoded is ]) h
