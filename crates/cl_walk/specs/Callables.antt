-- Functions that can be called. (This project.)
use Rattle.std.specs.Prelude.{◌≡◌, ℕ, suc, List, [], ◌∷◌, Option, Some, None}
use Rattle.std.specs.Borrow.{Bor}
use Rattle.cl_ast.specs.declared.statement.Function.{Function}
use Rattle.cl_ast.specs.declared.statement.Item.{Item}
use Rattle.cl_listing.specs.Names.{Name}
use Rattle.cl_meaning.specs.Variables.{Scope}
use Rattle.cl_meaning.specs.Outer.{outer, functions_of, number_of, frame_cells, size_in}
use Rattle.cl_walk.specs.Numbers.{capped, first_named, place_named}
use Rattle.cl_walk.specs.declared.program.Callable.{Callable}

-- one for each function, with numbers in order, and the cells of its frame where these are the constants
abbrev pub AreCallables : Scope → ℕ → List Function → List Callable → Type 0
AreCallables scope number [] [] = Unit {0}
AreCallables scope number (f ∷ fs) (c ∷ cs) = (c.function.now ≡ f) × (c.number ≡ number) × (c.cells ≡ capped (frame_cells (size_in scope) f)) × AreCallables scope (suc number) fs cs
AreCallables scope number _ _ = ⊥

-- these functions are listed, and what is kept of names is the place of the first of each
abbrev pub AreListed : Scope → List Function → List Callable → (Bor Name → Option ℕ) → Type 0
AreListed scope fs cs kept = AreCallables scope 0 fs cs × ((name : Bor Name) → kept name ≡ place_named name.now fs)

-- what was found is the first function of the name, with its number and the cells of its frame
abbrev pub IsNamed : List Item → Name → Option (Bor Callable) → Type 0
IsNamed items name None = first_named name (functions_of items) ≡ None
IsNamed items name (Some c) = (first_named name (functions_of items) ≡ Some c.now.function.now) × (number_of name (functions_of items) ≡ c.now.number) × (c.now.cells ≡ capped (frame_cells (size_in (outer items)) c.now.function.now))
