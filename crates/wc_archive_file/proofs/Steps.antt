-- What a reading tells, step by step.
use Rattle.std.proofs.Common.{◌≡◌, ℕ, List, Some, None, Result, Ok, Err, sym, ap, subst, ◌∙◌}
use Rattle.std.specs.Prelude.{IsErr, IsErrAnd}
use Rattle.serde_json.specs.Data.{Data, null, boolean, number, string, array, object, Members, member}
use Rattle.serde_json.specs.Find.{as_str}
use Rattle.wc_archive_file.specs.declared.misread.Misread.{Misread}
use Rattle.wc_archive_file.specs.declared.misread.Misread.TheVariants as misread
use Rattle.wc_archive_file.specs.Reads.{Names, Refuses, Reads, ReadsNext}

pub refuses : {P Q : Type 0} (e : Misread) → (P → Q) → Refuses P e → Refuses Q e
refuses misread.Shape f h = f h
refuses misread.OutOfMemory f h = tt

-- what a part refuses is passed on
pub passed : {A D : Type 0} (write : A → D) (fits : A → Type 0) (d : D) (r : Result A Misread) (e : Misread) → IsErr r × IsErrAnd r (λ f. f ≡ e)
    → Refuses ((a : A) → fits a → d ≡ write a → ⊥) e → Reads write fits d r
passed write fits d (Ok a) e h never = absurd h.1
passed {A} write fits d (Err f) e h never = subst (Refuses ((a : A) → fits a → d ≡ write a → ⊥)) (sym h.1) never

same_data : (key : List ℕ) (d e : Data) (new rest : Members) → member key d new ≡ member key e rest → d ≡ e
same_data key d e new rest same = cc

module _ {A : Type 0} (write : A → Data) (fits : A → Type 0) (key : List ℕ) (old : Members) where
  -- the next member has the key, and its data was read
  pub next_read : (d : Data) (new : Members) (r : Result A Misread) → old ≡ member key d new → Reads write fits d r → ReadsNext write fits key old r new
  next_read d new (Ok a) is h = (is ∙ ap (λ (e : Data). member key e new) h.0, h.1)
  next_read d new (Err e) is h = refuses e (λ never a rest f same. never a f (same_data key d (write a) new rest (sym is ∙ same))) h

  -- it has another key, or there is none
  pub next_none : (new : Members) → ((d : Data) (rest : Members) → old ≡ member key d rest → ⊥) → ReadsNext write fits key old (Err misread.Shape) new
  next_none new h = λ a rest f same. h (write a) rest same

-- ---- names

module _ {A : Type 0} (text : A → List ℕ) (fits : A → Type 0) (name : List ℕ) where
  pub named_read : (a : A) → Names text fits name (Some a) → Reads text fits name (Ok a)
  named_read a h = (sym h.0, h.1)

  pub unnamed_read : Names text fits name None → Reads text fits name (Err misread.Shape)
  unnamed_read h = λ a f same. h a f (sym same)

-- ---- strings

pub string_seen : (d : Data) (s : List ℕ) → Some s ≡ as_str d → d ≡ string s
string_seen null s e = cc
string_seen (boolean b) s e = cc
string_seen (number n) s e = cc
string_seen (string t) s e = let same : s ≡ t = cc in ap string (sym same)
string_seen (array ds) s e = cc
string_seen (object ms) s e = cc

pub same_string : (s t : List ℕ) → string s ≡ string t → s ≡ t
same_string s t e = cc

module _ {A : Type 0} (text : A → List ℕ) (fits : A → Type 0) (d : Data) where
  -- what its text says
  pub string_read : (s : List ℕ) (r : Result A Misread) → Some s ≡ as_str d → Reads text fits s r → Reads (λ a. string (text a)) fits d r
  string_read s (Ok a) e h = (string_seen d s e ∙ ap string h.0, h.1)
  string_read s (Err x) e h = refuses x (λ never a f same. never a f (same_string s (text a) (sym (string_seen d s e) ∙ same))) h

  pub string_none : None ≡ as_str d → Reads (λ a. string (text a)) fits d (Err misread.Shape)
  string_none e = λ a f same. let some : None ≡ Some (text a) = e ∙ ap as_str same in cc
