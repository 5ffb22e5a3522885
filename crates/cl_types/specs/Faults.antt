-- Faults in order: by place, and at one place by the order of their kinds. (This project.)
use Rattle.std.specs.Prelude.{◌≡◌, ◌⊎◌, ℕ, ◌==◌, nat_lt, Bool, true, ◌&&◌, ◌||◌, List, [], ◌∷◌, Option, Some, None, if◌then◌else◌}
use Rattle.cl_types.specs.declared.fault.TypeKind.{TypeKind}
use Rattle.cl_types.specs.declared.fault.TypeKind.TheVariants as kinds
use Rattle.cl_types.specs.declared.fault.Fault.{Fault}

-- the order of kinds of faults at one place, the least first
abbrev pub rank : TypeKind → ℕ
rank kinds.NoMain = 0
rank kinds.UnknownName = 1
rank kinds.TwiceDeclared = 2
rank kinds.WrongType = 3
rank kinds.WrongCount = 4
rank kinds.BadFormat = 5
rank kinds.BadField = 6
rank kinds.NoLoop = 7
rank kinds.TooManySites = 8
rank kinds.TooManyFunctions = 9

-- whether one comes before another
abbrev pub comes_before : Fault → Fault → Bool
comes_before a b = nat_lt a.place b.place || ((a.place == b.place) && nat_lt (rank a.kind) (rank b.kind))

-- a fault in its place among others, which stands there once
abbrev pub put : Fault → List Fault → List Fault
put f [] = f ∷ []
put f (g ∷ gs) = if comes_before f g then f ∷ g ∷ gs else (if comes_before g f then g ∷ put f gs else g ∷ gs)

-- all in order, each once
abbrev pub in_order : List Fault → List Fault
in_order [] = []
in_order (f ∷ fs) = put f (in_order fs)

-- the first fault, where there is one
abbrev pub first : List Fault → Option Fault
first [] = None
first (f ∷ fs) = Some f

-- each comes before the next: none stands twice
abbrev pub rises_from : Fault → List Fault → Bool
rises_from f [] = true
rises_from f (g ∷ gs) = comes_before f g && rises_from g gs

-- whether faults are in order, each once
abbrev pub rises : List Fault → Bool
rises [] = true
rises (f ∷ fs) = rises_from f fs

-- whether one is among others
abbrev pub Among : Fault → List Fault → Type 0
Among x [] = ⊥
Among x (f ∷ fs) = (x ≡ f) ⊎ Among x fs
