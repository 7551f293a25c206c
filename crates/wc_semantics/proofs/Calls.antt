-- Calls one after another, and the end of a run.
use Rattle.std.proofs.Common.{◌≡◌, ℕ, zero, suc, List, [], ◌∷◌, ◌++◌, Option, refl, ◌∙◌, sym}
use Rattle.wc_syntax.specs.declared.definition.Port.{Port}
use Rattle.wc_semantics.specs.declared.progress.Answer.{Answer}
use Rattle.wc_semantics.specs.declared.progress.Answer.TheVariants.{Gave, TooLittle, Without, Astray}
use Rattle.wc_semantics.specs.declared.progress.Flow.{Flow}
use Rattle.wc_semantics.specs.declared.progress.Flow.TheVariants.{Goes, Ends, NoFuel, Lacks, Off}
use Rattle.wc_semantics.specs.declared.progress.Planned.{Planned}
use Rattle.wc_semantics.specs.declared.progress.Progress.{Progress}
use Rattle.wc_semantics.specs.declared.progress.Replayed.{Replayed}
use Rattle.wc_semantics.specs.Run.{Around, ◌>->◌, spend, taken, next_label, with_call, take_calls}
use Rattle.wc_semantics.specs.Meaning.{ended}
use Rattle.wc_semantics.specs.Run.{settled}

taken_follow : (x : Answer) (f : Replayed → ℕ → Flow) (g : ℕ → Progress → Flow) → (taken x f >-> g) ≡ taken x (λ t n. f t n >-> g)
taken_follow (Gave t n) f g = refl
taken_follow TooLittle f g = refl
taken_follow (Without q) f g = refl
taken_follow Astray f g = refl

spend_follow : (n : ℕ) (f : ℕ → Flow) (g : ℕ → Progress → Flow) → (spend n f >-> g) ≡ spend n (λ m. f m >-> g)
spend_follow zero f g = refl
spend_follow (suc n) f g = refl

-- the calls of two lists, one list after the other
pub take_append : (ps qs : List Planned) (a : Around) (n : ℕ) (e : Progress) → take_calls (ps ++ qs) a n e ≡ (take_calls ps a n e >-> take_calls qs a)
take_append [] qs a n e = refl
take_append (p ∷ ps) qs a n e =
    (λ i. spend n (λ m. taken (a.call (next_label p e) m p.callee p.inputs) (λ t left. take_append ps qs a left (with_call p (next_label p e) t e) i)))
    ∙ (λ i. spend n (λ m. sym (taken_follow (a.call (next_label p e) m p.callee p.inputs) (λ t left. take_calls ps a left (with_call p (next_label p e) t e)) (take_calls qs a)) i))
    ∙ sym (spend_follow n (λ m. taken (a.call (next_label p e) m p.callee p.inputs) (λ t left. take_calls ps a left (with_call p (next_label p e) t e))) (take_calls qs a))

pub ended_settled : (stop : Option ℕ) (name : List ℕ) (ports : List Port) (f : Flow) → ended stop name ports (settled f) ≡ ended stop name ports f
ended_settled stop name ports (Goes n e) = refl
ended_settled stop name ports (Ends s n e) = refl
ended_settled stop name ports NoFuel = refl
ended_settled stop name ports (Lacks q) = refl
ended_settled stop name ports Off = refl
