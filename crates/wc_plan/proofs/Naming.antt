-- How a shelf is asked for some of the files that words name.
use Rattle.std.proofs.Common.{◌≡◌, ℕ, List, [], ◌∷◌, ◌++◌, refl, sym, ◌∙◌, ap, append-nil, append_assoc}
use Rattle.wc_plan.specs.Naming.{AsksFirst}

pub asks_none : (files old new : List (List ℕ)) → new ≡ old → AsksFirst files old new
asks_none files old new same = record { front = []; rest = files; split = refl; asked = same ∙ sym (append-nil old) }

pub asks_all : (files old new : List (List ℕ)) → new ≡ old ++ files → AsksFirst files old new
asks_all files old new all = record { front = files; rest = []; split = sym (append-nil files); asked = all }

pub asks_part : (front back old new : List (List ℕ)) → new ≡ old ++ front → AsksFirst (front ++ back) old new
asks_part front back old new part = record { front = front; rest = back; split = refl; asked = part }

pub asks_then : (front back old mid new : List (List ℕ)) → mid ≡ old ++ front → AsksFirst back mid new → AsksFirst (front ++ back) old new
asks_then front back old mid new first asks = record {
  front = front ++ asks.front;
  rest = asks.rest;
  split = ap (λ (l : List (List ℕ)). front ++ l) asks.split ∙ sym (append_assoc front asks.front asks.rest);
  asked = asks.asked ∙ ap (λ (l : List (List ℕ)). l ++ asks.front) first ∙ append_assoc old front asks.front;
}

-- the same of one file and what comes behind it
pub asks_one : (file : List ℕ) (back old new : List (List ℕ)) → new ≡ old ++ (file ∷ []) → AsksFirst (file ∷ back) old new
asks_one file back old new one = asks_part (file ∷ []) back old new one

pub asks_one_then : (file : List ℕ) (back old mid new : List (List ℕ)) → mid ≡ old ++ (file ∷ []) → AsksFirst back mid new → AsksFirst (file ∷ back) old new
asks_one_then file back old mid new one asks = asks_then (file ∷ []) back old mid new one asks

-- the first file, and then this one or none
pub asks_behind : (file : List ℕ) (back old mid new : List (List ℕ)) → mid ≡ old ++ (file ∷ []) → new ≡ mid ++ back → new ≡ old ++ (file ∷ back)
asks_behind file back old mid new one then = then ∙ ap (λ (l : List (List ℕ)). l ++ back) one ∙ append_assoc old (file ∷ []) back

-- no file is named
pub asks_nothing : (old : List (List ℕ)) → old ≡ old ++ []
asks_nothing old = sym (append-nil old)
