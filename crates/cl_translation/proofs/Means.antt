-- What it is that code does what a part of a tree does. Each is told of what comes behind: where the rest of the code is the same as the rest of
-- the tree, so is the whole. (This project.)
use Rattle.std.specs.Prelude.{Bool, true, false, ◌≡◌, ℕ, suc, List, [], ◌∷◌, ℤ, pos, slice_get, Some, None, Ok}
use Rattle.cl_value.specs.declared.value.Value.{Value}
use Rattle.cl_ast.specs.declared.tree.TypeName.{TypeName}
use Rattle.cl_listing.specs.Names.{Name}
use Rattle.cl_ast.specs.declared.tree.TypeName.TheVariants as types
use Rattle.cl_model.specs.Doing.{State, Checked, checked, ◌>>=◌}
use Rattle.cl_model.specs.Doing as doing
use Rattle.cl_model.specs.Numbers.{number, byte_of, and_then, is_zero}
use Rattle.cl_meaning.specs.Statements.{Exit, WentOn, Broke, Continued, Returned}
use Rattle.cl_code.specs.Arithmetic.{fitting}
use Rattle.cl_meaning.specs.Variables.{Variables}
use Rattle.cl_meaning.specs.Operations.{Does}
use Rattle.cl_ast.specs.declared.statement.Function.{Function}
use Rattle.cl_ast.specs.declared.statement.Parameter.{Parameter}
use Rattle.cl_meaning.specs.Outer.{number_of}
use Rattle.cl_meaning.specs.Calls.{Fixed, result_type}
use Rattle.cl_code.specs.Plain.{PlainProgram}
use Rattle.cl_code.specs.declared.instr.Instr.TheVariants as code
use Rattle.cl_translation.specs.Lying.{Has}
use Rattle.cl_typing.specs.Standing.{function_in}
use Rattle.cl_code.specs.Machine.{Cells, Stack, Frame, effect, pushed, machine}
use Rattle.cl_code.specs.Following.{follows, leaves}
use Rattle.cl_code.specs.declared.instr.Instr.{Instr}
use Rattle.cl_translation.proofs.Alike.{Same}
use Rattle.cl_translation.specs.Layout.{Entry, Layout, at}
use Rattle.cl_translation.specs.Statements.{Returning, WithValue, MayReturn}
use Rattle.cl_translation.specs.Stands.{IsIn, Stands}

-- the public law of a valid program, at a depth
abbrev pub Goes : PlainProgram → ℕ → Type 0
Goes p depth = (frames : List Frame) (a : ℕ) (i : Instr) → slice_get p.code a ≡ Some i → (stack : Stack) → machine p depth frames a stack ≡ effect p depth i stack >>= follows p depth frames (suc a)

-- what is given in the end, on both sides
abbrev pub End : Type 0 → Type 1
End A = A → State Variables → ℤ → State Cells → Type 0

module _ (p : PlainProgram) (depth : ℕ) (A : Type 0) (F : End A) (frames : List Frame) (bound : ℕ) (layout : Layout) (held : List ℤ) where
  -- behind a value of a type, which is on the stack
  abbrev pub GoesOn : TypeName → ℕ → Stack → (Value → doing.Does Variables A) → Type 0
  GoesOn of b stack K = (v : Value) (s : State Variables) (t : State Cells) → IsIn of v → Stands bound layout held s t → Same F (K v s) (machine p depth frames b (number v ∷ stack) t)

  -- from one address to another stands what gives a value of a type
  abbrev pub Evaluates : Does Value → TypeName → ℕ → ℕ → Type 0
  Evaluates d of a b = (K : Value → doing.Does Variables A) (stack : Stack) → GoesOn of b stack K → (s : State Variables) (t : State Cells) → Stands bound layout held s t → Same F ((d >>= K) s) (machine p depth frames a stack t)

  -- the same, with a number on the stack from which it goes on
  abbrev pub GoesFrom : Value → Does Value → TypeName → ℕ → ℕ → Type 0
  GoesFrom v d of a b = (K : Value → doing.Does Variables A) (stack : Stack) → GoesOn of b stack K → (s : State Variables) (t : State Cells) → Stands bound layout held s t → Same F ((d >>= K) s) (machine p depth frames a (number v ∷ stack) t)

module _ (p : PlainProgram) (depth : ℕ) (A : Type 0) (F : End A) (frames : List Frame) (bound : ℕ) (layout : Layout) (held : List ℤ) where
  -- from an address on stands what leads to one address where a value isn't 0, and to another where it is
  abbrev pub Decided : Does Value → ℕ → ℕ → ℕ → Type 0
  Decided d a on off = (K : Bool → doing.Does Variables A) (stack : Stack) → ((s : State Variables) (t : State Cells) → Stands bound layout held s t → Same F (K false s) (machine p depth frames on stack t)) →
      ((s : State Variables) (t : State Cells) → Stands bound layout held s t → Same F (K true s) (machine p depth frames off stack t)) →
      (s : State Variables) (t : State Cells) → Stands bound layout held s t → Same F ((d >>= (λ v. K (is_zero v))) s) (machine p depth frames a stack t)

-- a number as one of a type
abbrev pub converted_number : TypeName → ℤ → Checked ℤ
converted_number types.Int n = fitting 31 n
converted_number types.Long n = Ok n
converted_number types.Char n = Ok (pos (byte_of n))

module _ (p : PlainProgram) (depth : ℕ) (A : Type 0) (F : End A) (frames : List Frame) (bound : ℕ) (globals : List Entry) (result : Returning) (outer : List (List Entry)) where
  -- what comes behind a statement, by how it leaves off: where it goes on, what is known at its end; where it doesn't, early, what is known there
  pub record Leads (early behind : List Entry) (end out again : ℕ) (K : Exit → doing.Does Variables A) : Type 0 where
    pub went : (s : State Variables) (t : State Cells) → Stands bound (at globals outer behind) [] s t → Same F (K WentOn s) (machine p depth frames end [] t)
    pub broke : (s : State Variables) (t : State Cells) → Stands bound (at globals outer early) [] s t → Same F (K Broke s) (machine p depth frames out [] t)
    pub continued : (s : State Variables) (t : State Cells) → Stands bound (at globals outer early) [] s t → Same F (K Continued s) (machine p depth frames again [] t)
    pub returned : (of : TypeName) → result ≡ WithValue of → (from : TypeName) (v : Value) (s : State Variables) (t : State Cells) → IsIn from v → Stands bound (at globals outer early) [] s t →
        Same F (K (Returned (Some v)) s) ((checked (converted_number of (number v)) >>= leaves p depth frames) t)
    pub returned_nothing : MayReturn result → (s : State Variables) (t : State Cells) → Stands bound (at globals outer early) [] s t → Same F (K (Returned None) s) (leaves p depth frames (pos 0) t)

  -- From one address to another stands what does a statement. Where it leaves off early, its scope is as it was before.
  abbrev pub Runs : List Entry → List Entry → ℕ → ℕ → doing.Does Variables Exit → ℕ → ℕ → Type 0
  Runs inner behind out again d a b = (K : Exit → doing.Does Variables A) → Leads inner behind b out again K → (s : State Variables) (t : State Cells) → Stands bound (at globals outer inner) [] s t → Same F ((d >>= K) s) (machine p depth frames a [] t)

  -- the same of statements in order, which may leave off behind any declarations
  abbrev pub RunsAll : List Entry → List Entry → ℕ → ℕ → doing.Does Variables Exit → ℕ → ℕ → Type 0
  RunsAll inner behind out again d a b = (K : Exit → doing.Does Variables A) → ((early : List Entry) → Leads early behind b out again K) → (s : State Variables) (t : State Cells) → Stands bound (at globals outer inner) [] s t → Same F ((d >>= K) s) (machine p depth frames a [] t)

-- ---- calls

-- arguments as the numbers of parameters
abbrev pub converted_all : List Parameter → List Value → Checked (List ℤ)
converted_all (y ∷ ys) (v ∷ vs) = and_then (converted_number y.type_name (number v)) (λ n. and_then (converted_all ys vs) (λ ns. Ok (n ∷ ns)))
converted_all _ _ = Ok []

-- values of types, as many as there are parameters
abbrev pub AreFor : List Parameter → List Value → Type 0
AreFor [] [] = Unit {0}
AreFor (y ∷ ys) (v ∷ vs) = ((of : TypeName) × IsIn of v) × AreFor ys vs
AreFor _ _ = ⊥

-- behind arguments that are evaluated, a call does what its function does, whatever waits on the stack and in temporaries
abbrev pub CallsRun : PlainProgram → Fixed → (A : Type 0) → End A → List Frame → List Entry → (Name → List Value → Does Value) → Type 0
CallsRun p fixed A F frames globals call =
    (bound : ℕ) (layout : Layout) (held : List ℤ) → layout.globals ≡ globals → (name : Name) (f : Function) → function_in fixed.functions name ≡ Some f → (vs : List Value) → AreFor f.parameters vs → (b : ℕ) → Has p b (code.Call (number_of name fixed.functions)) →
    (K : Value → doing.Does Variables A) (stack : Stack) → GoesOn p fixed.depth A F frames bound layout held (result_type f) (suc b) stack K → (s : State Variables) (t : State Cells) → Stands bound layout held s t →
    Same F ((call name vs >>= K) s) ((checked (converted_all f.parameters vs) >>= (λ ns. machine p fixed.depth frames b (pushed ns stack))) t)
