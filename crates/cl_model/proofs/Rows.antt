-- Rows of full sets and of what wants them, and of what a process did, by computing.
use Rattle.std.proofs.Common.{◌≡◌, ℕ, List, [], ◌∷◌, refl, ap}
use Rattle.cl_value.specs.Plain.{PlainAsk, In, Out, Rd, Land, Main, Lives, PlainAct, PlainWhat, DidOut, DidIn, DidRd, DidLand, PlainStart}
use Rattle.cl_value.specs.declared.value.Value.{Value}
use Rattle.cl_value.specs.declared.template.Slot.{Slot}
use Rattle.cl_value.specs.declared.process.Trap.{Trap}
use Rattle.cl_model.specs.Bag.{Bag, empty}
use Rattle.cl_model.specs.Demand.{Demands, Outcome, Wants, Finishes, Traps, Misfit}
use Rattle.cl_model.specs.Machine.{Process, fresh}
use Rattle.cl_model.specs.Meaning.{Meaning, sites_of, acts_at, IsFull, WantsAt, WantsSet}
use Rattle.cl_model.specs.Processes.{Follows, told_all, process_by}

-- sites 0 and 2 are set 0, site 1 is set 1; a set may have one act
abbrev pub two_sets : Meaning
two_sets = record { demands = λ start replies. record { output = []; outcome = Misfit }; sets = (0 ∷ 2 ∷ []) ∷ (1 ∷ []) ∷ []; limit = 1 }

abbrev pub act_at : ℕ → ℕ → PlainAct
act_at ticket site = record { ticket = ticket; proc = 0; site = site; what = DidOut [] }

pub full_by_its_own_site : IsFull two_sets (act_at 1 2 ∷ act_at 2 1 ∷ []) 0
full_by_its_own_site = refl

pub acts_of_the_other_set : acts_at (sites_of two_sets 1) (act_at 1 2 ∷ act_at 2 1 ∷ []) ≡ act_at 2 1 ∷ []
acts_of_the_other_set = refl

pub no_third_set : sites_of two_sets 2 ≡ []
no_third_set = refl

-- an `out` wants the set of its site
pub an_out_wants : (t : List Value) → WantsSet two_sets empty (fresh Main) (Wants (record { site = 2; ask = Out t })) 0
an_out_wants t = record { site = 2; wants = (refl, λ waits. waits); of_set = refl }

-- an `in` that waits wants nothing
pub a_waiting_in_wants_nothing : (m : List Slot) (site : ℕ) → WantsAt empty (fresh Main) (Wants (record { site = 2; ask = In m })) site → ⊥
a_waiting_in_wants_nothing m site w = w.1 (λ t matches. refl)

-- a process that has finished its live tuple and hasn't landed wants the set of its `eval`
pub a_landing_wants : WantsSet two_sets empty (fresh (Lives 1 [] 1)) (Finishes []) 1
a_landing_wants = record { site = 1; wants = (refl, refl); of_set = refl }

-- process 0 that has finished wants nothing, and neither does one that trapped
pub main_wants_nothing : (values : List Value) (site : ℕ) → WantsAt empty (fresh Main) (Finishes values) site → ⊥
main_wants_nothing values site w = w.1

pub trapped_wants_nothing : (bag : Bag) (p : Process) (trap : Trap) (site : ℕ) → WantsAt bag p (Traps trap) site → ⊥
trapped_wants_nothing bag p trap site w = w

-- ---- what a process did

-- it asks for an `in` at site 0, and finishes with no values
abbrev pub takes_one : List Slot → Demands
takes_one m start [] = record { output = []; outcome = Wants (record { site = 0; ask = In m }) }
takes_one m start (reply ∷ []) = record { output = []; outcome = Finishes [] }
takes_one m start _ = record { output = []; outcome = Misfit }

abbrev pub did : ℕ → PlainWhat → PlainAct
did ticket what = record { ticket = ticket; proc = 1; site = 0; what = what }

abbrev pub lives : PlainStart
lives = Lives 0 [] 1

-- the `in`, and then its landing
pub takes_and_lands : (m : List Slot) (t : List Value) → Follows (takes_one m) lives [] (did 2 (DidIn m t) ∷ did 3 (DidLand []) ∷ [])
takes_and_lands m t = (refl, λ e. absurd cc, ((λ e. absurd cc, refl, refl), λ e. refl, tt))

-- an `rd` of the same tuple has the same reply, but isn't what was asked for
pub reads_instead : (m : List Slot) (t : List Value) → told_all (did 2 (DidRd m t) ∷ []) (fresh lives) ≡ told_all (did 2 (DidIn m t) ∷ []) (fresh lives)
reads_instead m t = refl

abbrev asked : Outcome → PlainAsk
asked (Wants request) = request.ask
asked _ = Land []

pub reading_is_no_answer : (m : List Slot) (t : List Value) → Follows (takes_one m) lives [] (did 2 (DidRd m t) ∷ []) → ⊥
reading_is_no_answer m t h = let both : In m ≡ Rd m = ap asked h.0 in absurd cc

-- nothing stands behind a landing
pub lands_twice : (m : List Slot) (t : List Value) → Follows (takes_one m) lives [] (did 2 (DidIn m t) ∷ did 3 (DidLand []) ∷ did 4 (DidLand []) ∷ []) → ⊥
lands_twice m t h = let last = h.2.1 refl in absurd cc

pub has_all_replies : (m : List Slot) (t : List Value) → told_all (did 2 (DidIn m t) ∷ did 3 (DidLand []) ∷ []) (fresh lives) ≡ process_by lives (did 2 (DidIn m t) ∷ did 3 (DidLand []) ∷ [])
has_all_replies m t = refl
