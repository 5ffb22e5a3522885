-- What contracts see of a step from part to part. (This project.)
use Rattle.std.specs.Prelude.{ℕ, ◌≡◌, List, [], Option, Some, None, Result, Ok, Err}
use Rattle.cl_ast.specs.Plain.{PlainToken}
use Rattle.cl_token.specs.declared.stop.Stop.{Stop}
use Rattle.cl_token.specs.declared.stop.Stop.TheVariants as stops
use Rattle.cl_token.specs.declared.scan.Place.{Place}
use Rattle.cl_token.specs.Scanning.{Step, Goes, Stops}

-- a stop is this one, or want of memory
abbrev pub StopsSo : Stop → Step → Type 0
StopsSo (stops.Fault fault bad) step = step ≡ Stops fault bad.now
StopsSo stops.NoMemory step = Unit {0}

-- a part led to this place with these tokens, or stopped; or memory was wanting
abbrev pub StepsTo : Result Place Stop → List PlainToken → Step → Type 0
StepsTo (Ok place) tokens step = step ≡ Goes tokens place.fresh place.rest.now
StepsTo (Err stop) tokens step = StopsSo stop step

-- the same of a place where the source may end
abbrev pub Advances : Result (Option Place) Stop → List PlainToken → List PlainToken → List ℕ → Step → Type 0
Advances (Ok (Some place)) old new rest step = step ≡ Goes new place.fresh place.rest.now
Advances (Ok None) old new rest step = (rest ≡ []) × (new ≡ old)
Advances (Err stop) old new rest step = StopsSo stop step
