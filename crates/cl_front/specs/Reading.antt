-- Two ways to read a source, and what it is to be read or refused so. (This project.)
use Rattle.std.specs.Prelude.{ℕ, ◌≡◌, List}
use Rattle.cl_ast.specs.declared.statement.Item.{Item}
use Rattle.cl_front.specs.Front.{IsReadAs, Fails}
use Rattle.cl_front.specs.Judging.{IsRunAs, RefusesRun}
use Rattle.cl_front.specs.declared.refusal.Refusal.{Refusal}

-- a way to read sources: as which tree it takes one, and how it refuses one
pub record Reading : Type 1 where
  pub takes : List ℕ → List Item → Type 0
  pub refuses : List ℕ → Refusal → Type 0

-- each source that is a tree
abbrev pub trees : Reading
trees = record { takes = IsReadAs; refuses = Fails }

-- each source whose tree a run takes
abbrev pub programs : Reading
programs = record { takes = IsRunAs; refuses = RefusesRun }

-- the source is taken as this tree and no other, and isn't refused
pub record IsTaken (reading : Reading) (source : List ℕ) (items : List Item) : Type 0 where
  pub is : reading.takes source items
  pub alone : (other : List Item) → reading.takes source other → items ≡ other
  pub fine : (refusal : Refusal) → reading.refuses source refusal → ⊥

-- the source is taken as no tree, and is refused so and in no other way
pub record IsRefused (reading : Reading) (source : List ℕ) (refusal : Refusal) : Type 0 where
  pub none : (items : List Item) → reading.takes source items → ⊥
  pub is : reading.refuses source refusal
  pub alone : (other : Refusal) → reading.refuses source other → refusal ≡ other
