-- How writing all ended. (This project.)
use Rattle.std.specs.Prelude.{ℕ}
use Rattle.cl_outside.specs.declared.writing.WriteEnd.{WriteEnd}
use Rattle.cl_outside.specs.declared.writing.WriteEnd.TheVariants as ends

-- how many bytes were written before the fault
abbrev pub written_of : WriteEnd → ℕ
written_of (ends.Fault written) = written
