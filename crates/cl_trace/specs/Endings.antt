-- How writing a text ended. (This project.)
use Rattle.cl_trace.specs.declared.writing.TextEnd.{TextEnd}
use Rattle.cl_trace.specs.declared.writing.TextEnd.TheVariants as ends

-- where a write failed, this holds
abbrev pub IfFault : TextEnd → Type 0 → Type 0
IfFault ends.Fault holds = holds
IfFault ends.NoMemory holds = Unit {0}

-- where memory was refused, this holds
abbrev pub IfNoMemory : TextEnd → Type 0 → Type 0
IfNoMemory ends.Fault holds = Unit {0}
IfNoMemory ends.NoMemory holds = holds
