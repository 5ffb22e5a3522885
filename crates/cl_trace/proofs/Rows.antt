-- Lines that the definitions give. (This project.)
use Rattle.std.specs.Fmt.{digits}
use Rattle.std.proofs.Common.{◌≡◌, [], ◌∷◌, codes, refl, pos, negsuc}
use Rattle.cl_value.specs.Plain.{Ready, Call, DidOut, DidIn, InpMiss, DidEval, DidLand}
use Rattle.cl_value.specs.declared.value.Value.TheVariants as values
use Rattle.cl_value.specs.declared.value.FieldType.TheVariants as types
use Rattle.cl_value.specs.declared.template.Slot.TheVariants as slots
use Rattle.cl_trace.specs.Lines.{act_line}

-- process 0 makes a process that calls function 0 with 41
makes : act_line (codes "e" ∷ []) (record { ticket = 1; proc = 0; site = 0; what = DidEval (Ready (values.Text 0) ∷ Call 0 (values.Int (pos 41) ∷ []) types.Int ∷ []) })
    ≡ codes "1 0 0 eval (\"e\",!0(41))\n"
unfolding digits
makes = refl

-- the process lands, at the site of its `eval`
lands : act_line (codes "e" ∷ []) (record { ticket = 2; proc = 1; site = 0; what = DidLand (values.Text 0 ∷ values.Int (pos 42) ∷ []) })
    ≡ codes "2 1 0 land (\"e\",42)\n"
unfolding digits
lands = refl

-- and is received
received : act_line (codes "e" ∷ []) (record { ticket = 3; proc = 0; site = 1; what = DidIn (slots.Actual (values.Text 0) ∷ slots.Formal types.Int ∷ []) (values.Text 0 ∷ values.Int (pos 42) ∷ []) })
    ≡ codes "3 0 1 in (\"e\",?int) (\"e\",42)\n"
unfolding digits
received = refl

-- the other kinds of number, and an escape
numbers : act_line (codes "a\tb" ∷ []) (record { ticket = 10; proc = 9; site = 12; what = DidOut (values.Text 0 ∷ values.Int (negsuc 6) ∷ values.Long (pos 7) ∷ values.Char 255 ∷ []) })
    ≡ codes "10 9 12 out (\"a\\tb\",-7,7L,255C)\n"
unfolding digits
numbers = refl

-- a miss
missed : act_line [] (record { ticket = 1; proc = 0; site = 3; what = InpMiss (slots.Formal types.Long ∷ slots.Formal types.Char ∷ []) })
    ≡ codes "1 0 3 inp-miss (?long,?char)\n"
unfolding digits
missed = refl
