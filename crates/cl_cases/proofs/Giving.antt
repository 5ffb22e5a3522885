-- What is given in the end.
use Rattle.std.proofs.Common.{◌≡◌, ◌+◌, List, [], ◌∷◌, ◌++◌, map, length, arith}
use Rattle.std.proofs.lemmas.List.{length-append}
use Rattle.cl_value.specs.Plain.{PlainRequest}
use Rattle.cl_model.specs.Doing.{Steps, Gives, Prints, Asks, Stops, State, each_onto, each}
use Rattle.cl_meaning.specs.Variables.{Variables}
use Rattle.cl_meaning.specs.Operations.{Does}
use Rattle.cl_typing.specs.Steps.{Leads}
use Rattle.cl_typing.proofs.Leading.{keeps_bind, keeps_more, keeps_pure}
use Rattle.cl_cases.specs.Giving.{AlwaysGives, OneEach}

-- each request may be asked, and variables may be any
abbrev pub Any : PlainRequest → Type 0
Any q = Unit {0}

abbrev pub Wherever : Variables → Type 0
Wherever all = Unit {0}

anything : {A : Type 0} (d : Steps (A × State Variables)) → Leads Any (λ a all. Unit {0} × Unit {0}) d
anything (Gives r) = (tt, tt)
anything (Prints bytes rest) = anything rest
anything (Asks q rest) = (tt, λ reply fit. anything (rest reply))
anything (Stops t) = tt

pub any_gives : {A : Type 0} (d : Does A) → AlwaysGives (λ a. Unit {0}) d
any_gives d s w = anything (d s)

module _ {X A : Type 0} (f : X → Does A) where
  abbrev Longer : List A → List X → List A → Type 0
  Longer done xs values = length values ≡ length done + length xs

  each_behind : (done : List A) (xs : List X) → AlwaysGives (Longer done xs) (each_onto done (map f xs))
  unfolding each_onto
  each_behind done [] = keeps_pure Any Wherever (Longer done []) done (omega arith)
  each_behind done (x ∷ xs) = keeps_bind Any Wherever (λ a. Unit {0}) (Longer done (x ∷ xs)) (f x) _ (any_gives (f x)) (λ a u.
      keeps_more Any Wherever (Longer (done ++ a ∷ []) xs) (Longer done (x ∷ xs)) (each_onto (done ++ a ∷ []) (map f xs)) (each_behind (done ++ a ∷ []) xs)
      (λ values is. let one = length-append done (a ∷ []) in omega (arith, is, one)))

  pub one_each : (xs : List X) → OneEach f xs
  one_each xs = keeps_more Any Wherever (Longer [] xs) (λ values. length values ≡ length xs) (each (map f xs)) (each_behind [] xs) (λ values is. omega (arith, is))
