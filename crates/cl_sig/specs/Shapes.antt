-- The shape of a set: its number, its class, its sites, and what they have in common. (This project.)
use Rattle.std.specs.Prelude.{ℕ, ◌+◌, ◌==◌, if◌then◌else◌, List, [], ◌∷◌, map, Option, Some, None}
use Rattle.std.specs.List.{range_with_len}
use Rattle.cl_value.specs.declared.value.Value.{Value}
use Rattle.cl_sig.specs.Classes.{members, constant_at, class}
use Rattle.cl_sig.specs.Numbers.{count_of}
use Rattle.cl_sig.specs.Signatures.{PlainSignature, mark_type}
use Rattle.cl_sig.specs.declared.signature.Kind.TheVariants as kinds
use Rattle.cl_sig.specs.declared.signature.Mark.{Mark}
use Rattle.cl_sig.specs.declared.signature.Mark.TheVariants as marks
use Rattle.cl_sig.specs.declared.shape.Class.{Class}

-- the number of a set, its class, what its sites have in common, and its sites
pub record PlainShape : Type 0 where
  pub set : ℕ
  pub class : Class
  pub common : PlainSignature
  pub sites : List ℕ

-- the sites of a set in ascending order, where the list of numbers begins at a site
abbrev pub sites_from : ℕ → List ℕ → ℕ → List ℕ
sites_from site [] set = []
sites_from site (n ∷ numbers) set = if n == set then site ∷ sites_from (site + 1) numbers set else sites_from (site + 1) numbers set

-- the sites of each set, in order of the sets
abbrev pub sites_of_sets : List ℕ → List (List ℕ)
sites_of_sets numbers = map (sites_from 0 numbers) (range_with_len 0 (count_of numbers))

-- a field that all have in common: their literal, or its type
abbrev pub common_mark : Option Value → Mark → Mark
common_mark (Some v) mark = marks.Constant v
common_mark None mark = marks.Actual (mark_type mark)

-- the fields from one on that all have in common, by the marks of one of them
abbrev pub common_from : ℕ → List Mark → List PlainSignature → List Mark
common_from f [] all = []
common_from f (mark ∷ fields) all = common_mark (constant_at f all) mark ∷ common_from (f + 1) fields all

-- what signatures have in common, with kind and place of the first
abbrev pub common : List PlainSignature → PlainSignature
common [] = record { kind = kinds.Out; fields = []; place = 0 }
common (s ∷ all) = record { kind = s.kind; fields = common_from 0 s.fields (s ∷ all); place = s.place }

-- the shape of a set, by the numbers of all sites
abbrev pub shape : List PlainSignature → List ℕ → ℕ → PlainShape
shape sites numbers set =
    let all = members sites numbers set in
    record { set = set; class = class all; common = common all; sites = sites_from 0 numbers set }
