-- What the machine does at each instruction, at a state.
use Rattle.std.proofs.Common.{◌≡◌, ℕ, suc, Bool, true, false, List, ◌∷◌, Some, refl, ap, ◌∙◌}
use Rattle.std.specs.Prelude.{ℤ, slice_get, if◌then◌else◌}
use Rattle.cl_value.specs.declared.value.Value.{Value}
use Rattle.cl_value.specs.declared.value.Value.TheVariants as values
use Rattle.cl_model.specs.Doing.{State, then_do, ◌>>=◌, ◌>>◌, pure, tick, counted, checked}
use Rattle.cl_model.specs.Numbers.{number}
use Rattle.cl_code.specs.Plain.{PlainProgram}
use Rattle.cl_code.specs.Arithmetic.{is_zero, truth}
use Rattle.cl_code.specs.declared.instr.Instr.{Instr}
use Rattle.cl_code.specs.declared.instr.Instr.TheVariants as code
use Rattle.cl_code.specs.Machine.{Cells, Stack, Where, Local, Global, cells_at, with_cells, Frame, Ending, effect, follow, machine, on_one, on_two, jumps_if_zero, dropped, returns, loads, puts, stores, loads_at, stores_at, checks, index_of, loaded}
use Rattle.cl_code.specs.Following.{follows, ticks_on, leaves}
use Rattle.cl_translation.specs.Chosen.{push}
use Rattle.cl_translation.specs.Lying.{Has}

module _ (p : PlainProgram) (depth : ℕ) (goes : (frames : List Frame) (a : ℕ) (i : Instr) → slice_get p.code a ≡ Some i → (stack : Stack) → machine p depth frames a stack ≡ effect p depth i stack >>= follows p depth frames (suc a)) (frames : List Frame) where
  pub at : (a : ℕ) (i : Instr) → Has p a i → (stack : Stack) (t : State Cells) → machine p depth frames a stack t ≡ then_do (effect p depth i stack t) (follows p depth frames (suc a))
  unfolding ◌>>=◌
  at a i h stack t = ap (λ d. d t) (goes frames a i h stack)

  pub pushes : (a : ℕ) (v : Value) → Has p a (push v) → (stack : Stack) (t : State Cells) → machine p depth frames a stack t ≡ machine p depth frames (suc a) (number v ∷ stack) t
  unfolding effect then_do pure follow
  pushes a (values.Int n) h stack t = at a _ h stack t
  pushes a (values.Long n) h stack t = at a _ h stack t
  pushes a (values.Char n) h stack t = at a _ h stack t
  pushes a (values.Text n) h stack t = at a _ h stack t

  pub pushes_int : (a : ℕ) (n : ℤ) → Has p a (code.PushInt n) → (stack : Stack) (t : State Cells) → machine p depth frames a stack t ≡ machine p depth frames (suc a) (n ∷ stack) t
  unfolding effect then_do pure follow
  pushes_int a n h stack t = at a _ h stack t

  pub jumps : (a to : ℕ) → Has p a (code.Jump to) → (stack : Stack) (t : State Cells) → machine p depth frames a stack t ≡ machine p depth frames to stack t
  unfolding effect then_do pure follow
  jumps a to h stack t = at a _ h stack t

  zero_jumps : (a to : ℕ) (n : ℤ) (stack : Stack) (t : State Cells) (test : Bool) → then_do {V = Cells} (pure (if test then Rattle.cl_code.specs.Machine.To to stack else Rattle.cl_code.specs.Machine.On stack) t) (follows p depth frames (suc a)) ≡ (if test then machine p depth frames to stack t else machine p depth frames (suc a) stack t)
  unfolding then_do pure follow
  zero_jumps a to n stack t true = refl
  zero_jumps a to n stack t false = refl

  pub jumps_zero : (a to : ℕ) → Has p a (code.JumpZero to) → (n : ℤ) (stack : Stack) (t : State Cells) → machine p depth frames a (n ∷ stack) t ≡ (if is_zero n then machine p depth frames to stack t else machine p depth frames (suc a) stack t)
  unfolding effect jumps_if_zero
  jumps_zero a to h n stack t = at a _ h (n ∷ stack) t ∙ zero_jumps a to n stack t (is_zero n)

  pub inverts : (a : ℕ) → Has p a code.Not → (n : ℤ) (stack : Stack) (t : State Cells) → machine p depth frames a (n ∷ stack) t ≡ machine p depth frames (suc a) (truth (is_zero n) ∷ stack) t
  unfolding effect on_one checked then_do ◌>>=◌ pure follow
  inverts a h n stack t = at a _ h (n ∷ stack) t

  pub drops : (a : ℕ) → Has p a code.Pop → (n : ℤ) (stack : Stack) (t : State Cells) → machine p depth frames a (n ∷ stack) t ≡ machine p depth frames (suc a) stack t
  unfolding effect dropped then_do pure follow
  drops a h n stack t = at a _ h (n ∷ stack) t

  pub ticks : (a : ℕ) → Has p a code.Tick → (stack : Stack) (t : State Cells) → machine p depth frames a stack t ≡ then_do (counted t t.ticks) (λ _. machine p depth frames (suc a) stack)
  unfolding effect then_do pure follow ticks_on ◌>>◌ tick
  ticks a h stack t = at a _ h stack t

  pub hands_over : (a : ℕ) → Has p a code.Return → (n : ℤ) (stack : Stack) (t : State Cells) → machine p depth frames a (n ∷ stack) t ≡ leaves p depth frames n t
  unfolding effect returns then_do pure follow
  hands_over a h n stack t = at a _ h (n ∷ stack) t
