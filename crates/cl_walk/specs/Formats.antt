-- What a part of a format prints. (ISO/IEC 9899:1999, 7.19.6.1.)
use Rattle.std.specs.Prelude.{ℕ, List, [], ◌∷◌}
use Rattle.cl_value.specs.declared.value.Value.{Value}
use Rattle.cl_meaning.specs.Printing.{decimal_of, character_of, behind_first}
use Rattle.cl_walk.specs.declared.fill.Part.{Part}
use Rattle.cl_walk.specs.declared.fill.Part.TheVariants.{Number, Character, Byte}

-- what it prints with the first of these values
abbrev pub part_prints : Part → List Value → List ℕ
part_prints Number values = decimal_of values
part_prints Character values = character_of values
part_prints (Byte byte) values = byte ∷ []

-- which values are left
abbrev pub part_leaves : Part → List Value → List Value
part_leaves Number values = behind_first values
part_leaves Character values = behind_first values
part_leaves (Byte byte) values = values
