-- From the tuples of a keyed store with their numbers to rows. (This project.)
use Rattle.std.specs.Prelude.{List}
use Rattle.cl_value.specs.declared.value.Value.{Value}
use Rattle.cl_keyed.specs.Rows.{Row}
use Rattle.cl_keyed.specs.declared.line.Dated.{Dated}

-- a row as the table keeps it, as plain data
abbrev pub row_of : Dated → Row
row_of d = record { number = d.number; tuple = d.tuple.items }

-- the fields of the tuple
abbrev pub values_of : Dated → List Value
values_of d = d.tuple.items
