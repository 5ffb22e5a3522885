-- Rows of positions and requests, by computing.
use Rattle.std.proofs.Common.{◌≡◌, ℕ, List, [], ◌∷◌, Some, None, refl}
use Rattle.std.specs.Prelude.{true, false, map, pos, slice_get}
use Rattle.cl_value.specs.declared.value.Value.TheVariants as values
use Rattle.cl_value.specs.declared.value.FieldType.TheVariants as types
use Rattle.cl_value.specs.Plain.{PlainPart, Ready, Call, Done, Eval, Lives, Main}
use Rattle.cl_model.specs.Doing.{State, ◌>>=◌, then_do, pure, ask, checked, variables}
use Rattle.cl_model.specs.Machine.{depth_of}
use Rattle.cl_sig.specs.Instances.{is_of_its_site}
use Rattle.cl_code.specs.Starts.{start_fits}
use Rattle.cl_code.specs.Machine.{Cells, On, Over, Into, effect, performs, popped, requests, loads}
use Rattle.cl_code.specs.Positions.{Position, MayLead, entry_of, led_to, Reached, Begins, GoesOn}
use Rattle.cl_code.proofs.RuleRows.{right}

abbrev state : State Cells
state = record { variables = record { globals = []; frame = pos 5 ∷ pos 0 ∷ [] }; ticks = 0; cells = 0; printed = 0 }

abbrev alone_at : ℕ → Position
alone_at place = record { callers = []; place = place; stack = [] }

abbrev called : Position
called = record { callers = record { place = 2; stack = pos 7 ∷ [] } ∷ []; place = 5; stack = pos 5 ∷ [] }

entry_of_g : entry_of [] (slice_get right.functions 1) ≡ Some (alone_at 4)
entry_of_g = refl

no_third_function : entry_of [] (slice_get right.functions 2) ≡ None
no_third_function = refl

-- a call's stack waits behind the call, and gets the result
into_g : led_to right (record { callers = []; place = 1; stack = pos 5 ∷ pos 7 ∷ [] }) (Into 1 (pos 5 ∷ []) (pos 7 ∷ [])) ≡ Some (record { callers = record { place = 2; stack = pos 7 ∷ [] } ∷ []; place = 4; stack = [] })
into_g = refl

back_from_g : led_to right called (Over (pos 5)) ≡ Some (record { callers = []; place = 2; stack = pos 5 ∷ pos 7 ∷ [] })
back_from_g = refl

nowhere_behind_the_first : led_to right (alone_at 3) (Over (pos 0)) ≡ None
nowhere_behind_the_first = refl

-- `g` loads its argument, and its `Return` is reached with it
argument_loaded : MayLead right 0 (alone_at 4) (On (pos 5 ∷ []))
unfolding effect loads variables ◌>>=◌ then_do pure
argument_loaded = (_, refl, state, refl)

return_of_g : Reached right 0 (record { callers = []; place = 5; stack = pos 5 ∷ [] })
return_of_g = GoesOn (alone_at 4) (On (pos 5 ∷ [])) _ (Begins 1 (alone_at 4) refl) argument_loaded refl

-- an `eval` pops the argument of its call, and goes on once it is told that it is done
begun : MayLead right 0 (record { callers = []; place = 1; stack = pos 5 ∷ [] }) (On [])
unfolding effect performs popped requests ask checked ◌>>=◌ then_do pure
begun = (_, refl, state, (Done, refl, refl))

depths : map depth_of (Main ∷ Lives 0 [] 3 ∷ []) ≡ 0 ∷ 3 ∷ []
depths = refl

-- what it asks for is of its site, and makes a process that may begin so; with another literal it is neither
abbrev made : ℕ → List PlainPart
made text = Ready (values.Text text) ∷ Call 1 (values.Int (pos 5) ∷ []) types.Int ∷ []

of_its_site : map (λ text. is_of_its_site right.sites (record { site = 0; ask = Eval (made text) })) (0 ∷ 1 ∷ []) ≡ true ∷ false ∷ []
of_its_site = refl

may_begin : map (λ text. start_fits right (Lives 0 (made text) 1)) (0 ∷ 1 ∷ []) ≡ true ∷ false ∷ []
may_begin = refl
