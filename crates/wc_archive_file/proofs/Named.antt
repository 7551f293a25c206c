-- What names stand for.
use Rattle.std.proofs.Common.{◌≡◌, ◌≢◌, ℕ, ◌<◌, ◌^◌, Bool, true, false, List, [], ◌∷◌, ◌++◌, Option, Some, None, Result, Ok, Err, ◌⊎◌, inl, inr, refl, sym, ap, subst, ◌∙◌, if◌then◌else◌, get_or, arith}
use Rattle.std.specs.Prelude.{IfOk, MatchOption, codes, decimal, option_map}
use Rattle.std.specs.Str.{bytes_eq}
use Rattle.std.specs.Str.Pattern.{FindsTextPrefix, StripsPrefix}
use Rattle.std.specs.Str.Parse.{ParsesUnsigned}
use Rattle.std.proofs.lemmas.Fmt.{parse-decimal}
use Rattle.std.proofs.lemmas.List.{append_cancel_left}
use Rattle.std.proofs.lemmas.Slice.Eq.{bytes_eq-Decides}
use denote.Ref.{Bor}
use Rattle.wc_value.specs.declared.process.ProcessState.{ProcessState}
use Rattle.wc_value.specs.declared.process.ProcessState.TheVariants as state
use Rattle.wc_value.specs.declared.process.Reason.{Reason}
use Rattle.wc_value.specs.declared.process.Reason.TheVariants as reason
use Rattle.wc_graph.specs.declared.link.LinkType.{LinkType}
use Rattle.wc_graph.specs.declared.link.LinkType.TheVariants as link
use Rattle.wc_state.specs.declared.record.ProcessKind.{ProcessKind}
use Rattle.wc_state.specs.declared.record.ProcessKind.TheVariants as kind
use Rattle.wc_report.specs.Lists.{process_kind_text}
use Rattle.wc_report.specs.Names.{reason_text, state_text}
use Rattle.wc_report.specs.Shows.{link_type_text}
use Rattle.wc_archive_file.specs.Archives.{IsState}
use Rattle.wc_archive_file.specs.Reads.{FindsFinished, IsAny, Names, chosen, link_types, plain_states, process_kinds, reasons}

-- ---- choices

abbrev pub Stands : {A : Type 0} → A → List A → Type 0
Stands a [] = ⊥
Stands a (x ∷ xs) = (x ≡ a) ⊎ Stands a xs

-- what was chosen is one of these, and has the name; where nothing was, none of them has it
abbrev pub Chooses : {A : Type 0} → (A → List ℕ) → List A → List ℕ → Option A → Type 0
Chooses {A} text all name (Some a) = (text a ≡ name) × Stands a all
Chooses {A} text all name None = (a : A) → Stands a all → text a ≡ name → ⊥

chooses_next : {A : Type 0} (text : A → List ℕ) (x : A) (xs : List A) (name : List ℕ) (b : Bool) (o : Option A) → bytes_eq name (text x) ≡ b
    → Chooses text xs name o → Chooses text (x ∷ xs) name (if b then Some x else o)
chooses_next text x xs name true o e h = (sym ((bytes_eq-Decides name (text x)).0 e), inl refl)
chooses_next text x xs name false (Some a) e h = (h.0, inr h.1)
chooses_next {A} text x xs name false None e h = other
  where
    other : (a : A) → Stands a (x ∷ xs) → text a ≡ name → ⊥
    other a (inl is) same =
        let t : bytes_eq name (text x) ≡ true = (bytes_eq-Decides name (text x)).1 (sym same ∙ ap text (sym is)) in
        let wrong : true ≡ false = sym t ∙ e in cc
    other a (inr among) same = h a among same

pub chooses : {A : Type 0} (text : A → List ℕ) (all : List A) (name : List ℕ) → Chooses text all name (chosen text all name)
chooses text [] name = λ a among same. among
chooses text (x ∷ xs) name = chooses_next text x xs name (bytes_eq name (text x)) (chosen text xs name) refl (chooses text xs name)

names_any : {A : Type 0} (text : A → List ℕ) (all : List A) (name : List ℕ) (o : Option A) → ((a : A) → Stands a all) → Chooses text all name o → Names text IsAny name o
names_any text all name (Some a) each h = (h.0, tt)
names_any text all name None each h = λ a fits same. h a (each a) same

-- each kind, type and reason is one of those
each_kind : (k : ProcessKind) → Stands k process_kinds
each_kind kind.Function = inl refl
each_kind kind.Job = inr (inl refl)
each_kind kind.Chain = inr (inr (inl refl))

each_type : (t : LinkType) → Stands t link_types
each_type link.InputCalc = inl refl
each_type link.InputWork = inr (inl refl)
each_type link.Create = inr (inr (inl refl))
each_type link.Return = inr (inr (inr (inl refl)))
each_type link.CallCalc = inr (inr (inr (inr (inl refl))))
each_type link.CallWork = inr (inr (inr (inr (inr (inl refl)))))

each_reason : (r : Reason) → Stands r reasons
each_reason reason.Overflow = inl refl
each_reason reason.DivideByZero = inr (inl refl)
each_reason reason.MissingKey = inr (inr (inl refl))
each_reason reason.WrongKind = inr (inr (inr (inl refl)))
each_reason reason.NoOutput = inr (inr (inr (inr (inl refl))))
each_reason reason.BadText = inr (inr (inr (inr (inr (inl refl)))))
each_reason reason.TooLong = inr (inr (inr (inr (inr (inr (inl refl))))))
each_reason reason.Depth = inr (inr (inr (inr (inr (inr (inr (inl refl)))))))
each_reason reason.BadInput = inr (inr (inr (inr (inr (inr (inr (inr (inl refl))))))))

pub kind_names : (name : List ℕ) (o : Option ProcessKind) → o ≡ chosen process_kind_text process_kinds name → Names process_kind_text IsAny name o
kind_names name o e = rw e (names_any process_kind_text process_kinds name (chosen process_kind_text process_kinds name) each_kind (chooses process_kind_text process_kinds name))

pub type_names : (name : List ℕ) (o : Option LinkType) → o ≡ chosen link_type_text link_types name → Names link_type_text IsAny name o
type_names name o e = rw e (names_any link_type_text link_types name (chosen link_type_text link_types name) each_type (chooses link_type_text link_types name))

pub reason_names : (name : List ℕ) (o : Option Reason) → o ≡ chosen reason_text reasons name → Names reason_text IsAny name o
reason_names name o e = rw e (names_any reason_text reasons name (chosen reason_text reasons name) each_reason (chooses reason_text reasons name))

-- ---- beginnings

pub stripped : (n s : List ℕ) (r : Option (Bor (List ℕ))) → MatchOption r (FindsTextPrefix n s None) (λ x. StripsPrefix (FindsTextPrefix n) s x.now)
    → MatchOption r ((rest : List ℕ) → s ≢ n ++ rest) (λ x. s ≡ n ++ x.now)
stripped n s None h = h
stripped n s (Some x) h = h.1.1 ∙ ap (λ (t : List ℕ). n ++ t) (sym h.2)

-- ---- states

plain_is_state : (s : ProcessState) → Stands s plain_states → IsState s
plain_is_state state.Created h = tt
plain_is_state state.Running h = tt
plain_is_state state.Waiting h = tt
plain_is_state (state.Finished n) (inl e) = cc
plain_is_state (state.Finished n) (inr (inl e)) = cc
plain_is_state (state.Finished n) (inr (inr (inl e))) = cc
plain_is_state (state.Finished n) (inr (inr (inr (inl e)))) = cc
plain_is_state (state.Finished n) (inr (inr (inr (inr e)))) = absurd e
plain_is_state (state.Excepted r) h = tt
plain_is_state state.Killed h = tt

pub plain_state : (name : List ℕ) (s : ProcessState) → Some s ≡ chosen state_text plain_states name → Names state_text IsState name (Some s)
plain_state name s e =
    let h : Chooses state_text plain_states name (Some s) = subst (Chooses state_text plain_states name) (sym e) (chooses state_text plain_states name) in
    (h.0, plain_is_state s h.1)

-- none of the plain states has the name
abbrev pub IsNoPlain : List ℕ → Type 0
IsNoPlain name = (s : ProcessState) → Stands s plain_states → state_text s ≡ name → ⊥

pub no_plain : (name : List ℕ) → None ≡ chosen state_text plain_states name → IsNoPlain name
no_plain name e = subst (Chooses state_text plain_states name) (sym e) (chooses state_text plain_states name)

differ : (a b : ℕ) → a ≡ b → a ≡ 102 → b ≡ 101 → ⊥
differ a b e f g = absurd (omega arith)

not_both : (a b : List ℕ) → codes "finished " ++ a ≡ codes "excepted " ++ b → ⊥
not_both a b e = differ (get_or (codes "finished " ++ a) 0 0) (get_or (codes "excepted " ++ b) 0 0) (ap (λ (l : List ℕ). get_or l 0 0) e) refl refl

no_excepted_at : (name word : List ℕ) → IsNoPlain name → name ≡ codes "excepted " ++ word → Names reason_text IsAny word None → (s : ProcessState) → IsState s → state_text s ≡ name → ⊥
no_excepted_at name word plain is h state.Created fits same = plain state.Created (inl refl) same
no_excepted_at name word plain is h state.Running fits same = plain state.Running (inr (inl refl)) same
no_excepted_at name word plain is h state.Waiting fits same = plain state.Waiting (inr (inr (inl refl))) same
no_excepted_at name word plain is h (state.Finished n) fits same = not_both (decimal n) word (same ∙ is)
no_excepted_at name word plain is h (state.Excepted r) fits same = h r tt (append_cancel_left (codes "excepted ") (reason_text r) word (same ∙ is))
no_excepted_at name word plain is h state.Killed fits same = plain state.Killed (inr (inr (inr (inl refl)))) same

excepted_by : (name word : List ℕ) (o : Option Reason) → IsNoPlain name → name ≡ codes "excepted " ++ word → Names reason_text IsAny word o → Names state_text IsState name (option_map state.Excepted o)
excepted_by name word (Some r) plain is h = (ap (λ (t : List ℕ). codes "excepted " ++ t) h.0 ∙ sym is, tt)
excepted_by name word None plain is h = λ s fits same. no_excepted_at name word plain is h s fits same

-- what is behind the word is a reason, or none
pub excepted_state : (name word : List ℕ) (o : Option ProcessState) → None ≡ chosen state_text plain_states name → name ≡ codes "excepted " ++ word
    → o ≡ option_map state.Excepted (chosen reason_text reasons word) → Names state_text IsState name o
excepted_state name word o plain is e =
    subst (Names state_text IsState name) (sym e)
    (excepted_by name word (chosen reason_text reasons word) (no_plain name plain) is (reason_names word (chosen reason_text reasons word) refl))

no_state_at : (name : List ℕ) → IsNoPlain name → ((rest : List ℕ) → name ≢ codes "excepted " ++ rest)
    → ((n : ℕ) → n < 2 ^ 32 → codes "finished " ++ decimal n ≢ name) → (s : ProcessState) → IsState s → state_text s ≡ name → ⊥
no_state_at name plain excepted finished state.Created fits same = plain state.Created (inl refl) same
no_state_at name plain excepted finished state.Running fits same = plain state.Running (inr (inl refl)) same
no_state_at name plain excepted finished state.Waiting fits same = plain state.Waiting (inr (inr (inl refl))) same
no_state_at name plain excepted finished (state.Finished n) fits same = finished n fits same
no_state_at name plain excepted finished (state.Excepted r) fits same = excepted (reason_text r) (sym same)
no_state_at name plain excepted finished state.Killed fits same = plain state.Killed (inr (inr (inr (inl refl)))) same

-- the name begins with neither word
pub no_state : (name : List ℕ) → None ≡ chosen state_text plain_states name → ((rest : List ℕ) → name ≢ codes "excepted " ++ rest) → ((rest : List ℕ) → name ≢ codes "finished " ++ rest)
    → Names state_text IsState name None
no_state name plain excepted finished = λ s fits same. no_state_at name (no_plain name plain) excepted (λ n low e. finished (decimal n) (sym e)) s fits same

finished_by : (name digits : List ℕ) → None ≡ chosen state_text plain_states name → ((rest : List ℕ) → name ≢ codes "excepted " ++ rest) → name ≡ codes "finished " ++ digits
    → (o : Option ProcessState) → FindsFinished digits o → Names state_text IsState name o
finished_by name digits plain excepted is (Some s) h =
    let found : Names state_text IsState name (Some (state.Finished h.0)) = (ap (λ (t : List ℕ). codes "finished " ++ t) h.2 ∙ sym is, h.3) in
    subst (λ (t : ProcessState). Names state_text IsState name (Some t)) (sym h.1) found
finished_by name digits plain excepted is None h =
    λ s fits same. no_state_at name (no_plain name plain) excepted (λ n low e. h n low (append_cancel_left (codes "finished ") (decimal n) digits (e ∙ is))) s fits same

-- what is behind the word is a status, or none
pub finished_state : {E : Type 0} (name digits : List ℕ) (r : Result (Option ProcessState) E) → None ≡ chosen state_text plain_states name
    → ((rest : List ℕ) → name ≢ codes "excepted " ++ rest) → name ≡ codes "finished " ++ digits → IfOk r (FindsFinished digits) → IfOk r (Names state_text IsState name)
finished_state name digits (Ok o) plain excepted is h = finished_by name digits plain excepted is o h
finished_state name digits (Err e) plain excepted is h = tt

pub some_status : (digits : List ℕ) (o : Option ℕ) (n : ℕ) → Names decimal (λ m. m < 2 ^ 32) digits o → o ≡ Some n → FindsFinished digits (Some (state.Finished n))
some_status digits o n h e = let f : Names decimal (λ m. m < 2 ^ 32) digits (Some n) = subst (Names decimal (λ m. m < 2 ^ 32) digits) e h in (n, refl, f.0, f.1)

pub no_status : (digits : List ℕ) (o : Option ℕ) → Names decimal (λ m. m < 2 ^ 32) digits o → o ≡ None → FindsFinished digits None
no_status digits o h e = let f : Names decimal (λ m. m < 2 ^ 32) digits None = subst (Names decimal (λ m. m < 2 ^ 32) digits) e h in f

-- ---- statuses

other_number : {E : Type 0} (r : Result ℕ E) (m n : ℕ) → r ≡ Ok m → r ≡ Ok n → m ≡ n
other_number (Ok k) m n e f = let a : k ≡ m = cc in let b : k ≡ n = cc in sym a ∙ b
other_number (Err x) m n e f = cc

-- the digits are those of a number that is written otherwise
pub other_digits : {E : Type 0} (digits : List ℕ) (r : Result ℕ E) (m : ℕ) → ParsesUnsigned 32 10 digits r → r ≡ Ok m → (decimal m ≡ digits → ⊥) → (n : ℕ) → n < 2 ^ 32
    → decimal n ≡ digits → ⊥
other_digits digits r m h is other n low e =
    let same : m ≡ n = other_number r m n is (parse-decimal 32 n digits r low (omega arith) (sym e) h) in
    other (ap decimal same ∙ e)

no_number : {E : Type 0} (r : Result ℕ E) (x : E) (n : ℕ) → r ≡ Err x → r ≡ Ok n → ⊥
no_number r x n e f = cc

-- the digits are those of no number
pub no_digits : {E : Type 0} (digits : List ℕ) (r : Result ℕ E) (x : E) → ParsesUnsigned 32 10 digits r → r ≡ Err x → (n : ℕ) → n < 2 ^ 32 → decimal n ≡ digits → ⊥
no_digits digits r x h is n low e = no_number r x n is (parse-decimal 32 n digits r low (omega arith) (sym e) h)
