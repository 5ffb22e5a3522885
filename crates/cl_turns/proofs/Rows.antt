-- Rows of the words of seeds, and of a run by them, by computing.
use Rattle.std.proofs.Common.{◌≡◌, ℕ, refl, List, [], ◌∷◌}
use Rattle.rand_core.specs.Pcg32Seed.{pcg32_seed}
use Rattle.rand_core.specs.Steps.{word_bytes, u32_at}
use Rattle.cl_turns.specs.Words.{words_of_seed, IsRunOfSeed}
use Rattle.cl_model.proofs.RunRows.{meaning, run, stuck_meaning, stuck_run}

abbrev first_four : ℕ → List ℕ
first_four seed = words_of_seed seed 0 ∷ words_of_seed seed 1 ∷ words_of_seed seed 2 ∷ words_of_seed seed 3 ∷ []

words_of_zero : first_four 0 ≡ 298703107 ∷ 4236525527 ∷ 336081875 ∷ 1056616254 ∷ []
unfolding pcg32_seed word_bytes u32_at
words_of_zero = refl

words_of_one : first_four 1 ≡ 866585574 ∷ 2109535214 ∷ 3403630417 ∷ 296513984 ∷ []
unfolding pcg32_seed word_bytes u32_at
words_of_one = refl

words_of_the_last : first_four 18446744073709551615 ≡ 2553256318 ∷ 1362994822 ∷ 3759657484 ∷ 3366838333 ∷ []
unfolding pcg32_seed word_bytes u32_at
words_of_the_last = refl

the_good_run : IsRunOfSeed meaning 1 run
unfolding pcg32_seed word_bytes u32_at
the_good_run = record { turns = 5; told = record { over = refl; acts_are = refl; ends_are = refl } }

the_stuck_run : IsRunOfSeed stuck_meaning 0 stuck_run
unfolding pcg32_seed word_bytes u32_at
the_stuck_run = record { turns = 2; told = record { over = refl; acts_are = refl; ends_are = refl } }
