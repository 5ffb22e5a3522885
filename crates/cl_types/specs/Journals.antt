-- What is kept of notes: the first of the faults, and the counts. (This project.)
use Rattle.std.specs.Prelude.{ℕ, ◌+◌, ◌==◌, nat_lt, List, [], ◌∷◌, Option, Some, None, if◌then◌else◌}
use Rattle.cl_types.specs.declared.fault.TypeKind.TheVariants as kinds
use Rattle.cl_types.specs.declared.fault.Fault.{Fault}
use Rattle.cl_types.specs.declared.journal.Journal.{Journal}
use Rattle.cl_types.specs.Notes.{Note, Found, Site, Function}
use Rattle.cl_types.specs.Faults.{comes_before}
use Rattle.cl_ground.specs.declared.limits.TheConstants.{MOST_FUNCTIONS, MOST_SITES}

-- the first of a fault and one that may have been found
abbrev pub earlier : Option Fault → Fault → Option Fault
earlier None f = Some f
earlier (Some g) f = if comes_before f g then Some f else Some g

-- a count that stops behind the limit
abbrev pub counted : ℕ → ℕ → ℕ
counted limit n = if nat_lt limit n then n else n + 1

abbrev pub earlier_at : ℕ → ℕ → Option Fault → Fault → Option Fault
earlier_at limit n least f = if n == limit then earlier least f else least

-- what is kept with one note more; the first operation or function beyond its limit is a fault
abbrev pub noted : Note → Journal → Journal
noted (Found f) j = record j { least = earlier j.least f }
noted (Site place) j = record j { least = earlier_at MOST_SITES j.sites j.least (record { place = place; kind = kinds.TooManySites }); sites = counted MOST_SITES j.sites }
noted (Function place) j =
    record j { least = earlier_at MOST_FUNCTIONS j.functions j.least (record { place = place; kind = kinds.TooManyFunctions }); functions = counted MOST_FUNCTIONS j.functions }

-- one note after the other
abbrev pub noted_all : List Note → Journal → Journal
noted_all [] j = j
noted_all (n ∷ ns) j = noted_all ns (noted n j)

-- what is kept of no notes
abbrev pub new_journal : Journal
new_journal = record { least = None; sites = 0; functions = 0 }
