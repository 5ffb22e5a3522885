-- The meaning of a whole process. (ISO/IEC 9899:1999, 5.1.2.2.1, for where it begins; live tuples: Gelernter 1985; limits: this project.)
use Rattle.std.specs.Prelude.{ℕ, List, [], ◌∷◌, Option, Some, None, slice_get, codes, pos}
use Rattle.cl_value.specs.declared.value.Value.{Value}
use Rattle.cl_value.specs.declared.value.Value.TheVariants.{Int}
use Rattle.cl_value.specs.Plain.{PlainPart, Ready, Call, PlainStart, Main, Lives}
use Rattle.cl_ast.specs.declared.statement.Function.{Function}
use Rattle.cl_ast.specs.declared.statement.Item.{Item}
use Rattle.cl_ast.specs.declared.tree.TypeName.TheVariants as types
use Rattle.cl_model.specs.Demand.{Demands}
use Rattle.cl_model.specs.Doing.{State, ◌>>=◌, ◌>>◌, pure, claim, demand_of}
use Rattle.cl_meaning.specs.Operators.{zero_of}
use Rattle.cl_meaning.specs.Variables.{Variables}
use Rattle.cl_meaning.specs.Operations.{Does}
use Rattle.cl_listing.specs.Listing.{in_items, site_at, texts_of, text_number}
use Rattle.cl_meaning.specs.Outer.{outer, size_in, global_cells, functions_of}
use Rattle.cl_meaning.specs.Calls.{Fixed, function_named, calls, run}
use Rattle.cl_ground.specs.declared.limits.TheConstants.{MOST_ACTIVE}

-- what stays the same all over a process of this depth
abbrev pub fixed : List Item → ℕ → Fixed
fixed xs depth = record {
  functions = functions_of xs;
  length_of = size_in (outer xs);
  text = λ bytes. text_number bytes (texts_of xs);
  site = λ place. site_at place (in_items xs);
  depth = depth;
}

-- before a process does anything: each has its own globals
abbrev pub begun : List Item → ℕ → State Variables
begun xs ticks = record { variables = record { globals = outer xs; locals = [] }; ticks = ticks; cells = 0; printed = 0 }

-- the cells that each process of a text claims for its globals
abbrev pub cells_of_globals : List Item → ℕ
cells_of_globals xs = global_cells (size_in (outer xs)) xs

-- ---- process 0

-- at most 256 functions are active, this one with them; it counts no tick
unfoldable pub main : List Item → Does (List Value)
main xs = do
  claim (cells_of_globals xs)
  v ← function_named (Int (pos 0)) (functions_of xs) (codes "real_main") (λ f. run (fixed xs 0) (calls (fixed xs 0) 255) f [])
  pure (v ∷ [])

-- ---- the process of a live tuple

unfoldable pub called_at : List Item → ℕ → ℕ → List Value → Does Value
called_at xs depth number values = call_of (slice_get (functions_of xs) number)
  where
    call_of : Option Function → Does Value
    call_of None = pure (zero_of types.Int)
    call_of (Some f) = calls (fixed xs depth) MOST_ACTIVE f.name.bytes values

-- a field that was evaluated by the maker, or a call that is done here
unfoldable pub part_does : List Item → ℕ → PlainPart → Does Value
part_does xs depth (Ready v) = pure v
part_does xs depth (Call number values gives) = called_at xs depth number values

-- the fields of a live tuple, from left to right, become those of the tuple
unfoldable pub parts_do : List Item → ℕ → List PlainPart → Does (List Value)
parts_do xs depth [] = pure []
parts_do xs depth (p ∷ ps) = do
  v ← part_does xs depth p
  vs ← parts_do xs depth ps
  pure (v ∷ vs)

-- its globals are tested before its first field
unfoldable pub live : List Item → ℕ → List PlainPart → Does (List Value)
live xs depth parts = do
  claim (cells_of_globals xs)
  parts_do xs depth parts

-- ---- demands

-- what a process does from its start on, and the values that it gives in the end
unfoldable pub process : List Item → PlainStart → Does (List Value)
process xs Main = main xs
process xs (Lives site parts depth) = live xs depth parts

-- what a process that began so, and may take so many ticks, demands after these replies
abbrev pub demands : List Item → ℕ → Demands
demands xs ticks start replies = demand_of (process xs start (begun xs ticks)) [] replies
