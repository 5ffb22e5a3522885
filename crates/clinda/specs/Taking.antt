-- What is taken from the front of words. (This project.)
use Rattle.std.specs.Prelude.{ℕ, ◌≡◌, ◌≢◌, Bool, true, false, List, ◌∷◌, ◌++◌, Option, Some, None, codes}
use Rattle.std.specs.Fmt.{decimal}
use Rattle.clinda.specs.Commands.{number_words, said_words, trace_words, Fits, MayBeSaid, MayTrace}
use Rattle.clinda.specs.declared.words.Range.{Range}

-- words are a number that fits, and others
pub record TakesNumber (range : Option Range) (words : List (List ℕ)) (number : Option ℕ) (rest : List (List ℕ)) : Type 0 where
  pub split : words ≡ number_words number ++ rest
  pub fits : Fits range number

-- words are what an option says, and others; where it says nothing, no words of it stand there
pub record TakesOption (name : List ℕ) (may : Bool) (least most : ℕ) (words : List (List ℕ)) (said : Option ℕ) (rest : List (List ℕ)) : Type 0 where
  pub split : words ≡ said_words name said ++ rest
  pub allowed : MayBeSaid may least most said
  pub none : said ≡ None → (n : ℕ) (others : List (List ℕ)) → MayBeSaid may least most (Some n) → words ≢ (name ++ decimal n) ∷ others

-- words are a trace where one may be, and others; where there is none, its word doesn't stand there
pub record TakesTrace (may : Bool) (words : List (List ℕ)) (trace : Bool) (rest : List (List ℕ)) : Type 0 where
  pub split : words ≡ trace_words trace ++ rest
  pub allowed : MayTrace may trace
  pub none : trace ≡ false → (others : List (List ℕ)) → may ≡ true → words ≢ codes "trace" ∷ others
