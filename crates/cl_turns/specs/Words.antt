-- The words of a seed, and the run that they make. (O'Neill, "PCG: a family of simple fast space-efficient statistically good algorithms for random
-- number generation"; one word a turn: this project.)
use Rattle.std.specs.Prelude.{ℕ, zero, suc, List}
use Rattle.rand_core.specs.Pcg32Seed.{pcg32_seed}
use Rattle.rand_pcg.specs.Lcg.{Lcg}
use Rattle.rand_pcg.specs.Pcg.{pcg32, pcg32_of_seed}
use Rattle.cl_value.specs.Plain.{PlainAct, PlainRun}
use Rattle.cl_model.specs.Meaning.{Meaning}
use Rattle.cl_model.specs.Turns.{Ending, AreTurns, IsRunBy}

-- `Lcg64Xsh32::seed_from_u64(seed)`, after so many words
abbrev pub generator_after : ℕ → ℕ → Lcg
generator_after seed zero = pcg32_of_seed (pcg32_seed 16 seed)
generator_after seed (suc n) = (pcg32 (generator_after seed n)).1

-- the word of a turn, by the seed and the number of the turn, from 0 on
abbrev pub words_of_seed : ℕ → ℕ → ℕ
words_of_seed seed n = (pcg32 (generator_after seed n)).0

-- the acts and ends of the turns of a seed, so many
abbrev pub AreTurnsOfSeed : Meaning → ℕ → ℕ → List PlainAct → List Ending → Type 0
AreTurnsOfSeed meaning seed turns acts ends = AreTurns meaning (words_of_seed seed) turns acts ends

-- what is reported is the run of a seed
abbrev pub IsRunOfSeed : Meaning → ℕ → PlainRun → Type 0
IsRunOfSeed meaning seed run = IsRunBy meaning (words_of_seed seed) run
