-- The set of a text: all its operations are one set. (This project.)
use Rattle.std.specs.Prelude.{ℕ, zero, suc, List, [], ◌∷◌, length}
use Rattle.std.specs.List.{range_with_len}
use Rattle.cl_ast.specs.declared.statement.Item.{Item}
use Rattle.cl_listing.specs.Listing.{in_items}
use Rattle.cl_listing.specs.Listed.{sites_in}
use Rattle.cl_meaning.specs.Process.{demands}
use Rattle.cl_model.specs.Meaning.{Meaning}

-- one set with so many sites, or none where there is none
abbrev pub one_set : ℕ → List (List ℕ)
one_set zero = []
one_set (suc n) = range_with_len 0 (suc n) ∷ []

-- the number of operations of a text
abbrev pub operations_in : List Item → ℕ
operations_in items = length (sites_in (in_items items))

-- what a text means where its processes may take so many ticks and its set may have so many acts
abbrev pub meaning_of : List Item → ℕ → ℕ → Meaning
meaning_of items ticks limit = record { demands = demands items ticks; sets = one_set (operations_in items); limit = limit }
