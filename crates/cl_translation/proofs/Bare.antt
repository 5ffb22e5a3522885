-- Stretches of code without their heights: what they do doesn't go by these.
use Rattle.std.proofs.Common.{◌≡◌, ℕ, zero, suc, ◌+◌, List, [], ◌∷◌, length, map, Option, Some, None}
use Rattle.cl_sig.specs.Signatures.{PlainSignature}
use Rattle.cl_code.specs.Plain.{PlainProgram}
use Rattle.cl_code.specs.Sites.{places_at}
use Rattle.cl_code.specs.declared.instr.Instr.{Instr}
use Rattle.cl_code.specs.declared.instr.Instr.TheVariants as code
use Rattle.cl_translation.specs.Chosen.{store, store_at}
use Rattle.cl_translation.specs.Lying.{Has, Passes, Keeps, Target, ToCell, ToElement, Sets}
use Rattle.cl_translation.specs.Code.{without_call}

-- this instruction, or nothing
abbrev pub Passing : PlainProgram → ℕ → Option Instr → ℕ → Type 0
Passing p a None b = b ≡ a
Passing p a (Some i) b = Has p a i × (b ≡ suc a)

pub passing : (p : PlainProgram) (n a : ℕ) (o : Option Instr) (b : ℕ) → Passes p n a o b → Passing p a o b
passing p n a None b h = h
passing p n a (Some i) b h = (h.0.here, h.1)

-- numbers go into cells
abbrev pub Keeping : PlainProgram → ℕ → ℕ → ℕ → ℕ → Type 0
Keeping p cell zero a b = b ≡ a
Keeping p cell (suc count) a b = Has p a (code.StoreLocal cell) × Keeping p (suc cell) count (suc a) b

pub keeping : (p : PlainProgram) (n cell count a b : ℕ) → Keeps p n cell count a b → Keeping p cell count a b
keeping p n cell zero a b h = h
keeping p n cell (suc count) a b h = (h.0.here, keeping p n (suc cell) count (suc a) b h.1)

-- and to their places
abbrev pub Placing : PlainProgram → ℕ → List Target → ℕ → ℕ → Type 0
Placing p cell [] a b = b ≡ a
Placing p cell (ToCell at base ∷ more) a b = Has p a (code.LoadLocal (cell + length more)) × Has p (suc a) (store at base) × Placing p cell more (suc (suc a)) b
Placing p cell (ToElement at base size held ∷ more) a b =
    Has p a (code.LoadLocal held) × Has p (suc a) (code.LoadLocal (cell + length more)) × Has p (suc (suc a)) (store_at at base size) × Placing p cell more (suc (suc (suc a))) b

pub placing : (p : PlainProgram) (n cell : ℕ) (ts : List Target) (a b : ℕ) → Sets p n cell ts a b → Placing p cell ts a b
placing p n cell [] a b h = h
placing p n cell (ToCell at base ∷ more) a b h = (h.0.here, h.1.here, placing p n cell more (suc (suc a)) b h.2)
placing p n cell (ToElement at base size held ∷ more) a b h = (h.0.here, h.1.here, h.2.here, placing p n cell more (suc (suc (suc a))) b h.3)

-- no field of the site is a call
abbrev pub HasNoCalls : PlainProgram → ℕ → PlainSignature → Type 0
HasNoCalls p number site = places_at p number site ≡ map without_call site.fields
