-- Texts that the definitions give. (This project.)
use Rattle.std.specs.Fmt.{digits}
use Rattle.std.proofs.Common.{◌≡◌, [], ◌∷◌, codes, refl, negsuc, Some}
use Rattle.cl_value.specs.declared.value.Value.TheVariants as values
use Rattle.cl_value.specs.declared.value.FieldType.TheVariants as types
use Rattle.cl_sig.specs.declared.shape.Class.TheVariants as classes
use Rattle.cl_sig.specs.declared.signature.Kind.TheVariants as kinds
use Rattle.cl_sig.specs.declared.signature.Mark.TheVariants as marks
use Rattle.cl_code.specs.declared.instr.Instr.TheVariants as instrs
use Rattle.cl_report.specs.Positions.{place_text}
use Rattle.cl_report.specs.Analysis.{counts_line, site_line, set_lines}
use Rattle.cl_report.specs.Listing.{functions_text}

-- the sets of the dining philosophers
philosophers : set_lines (0 ∷ 1 ∷ 1 ∷ 1 ∷ 1 ∷ 0 ∷ 1 ∷ 2 ∷ 0 ∷ 2 ∷ []) 0 (classes.Counter ∷ classes.Keyed 1 ∷ classes.Queue ∷ []) ≡ codes "set 0 Counter sites 0 5 8\nset 1 Keyed(1) sites 1 2 3 4 6\nset 2 Queue sites 7 9\n"
unfolding digits
philosophers = refl

-- an operation with a string, a negative number, a `long` and a formal
operation : site_line (place_text (codes "a\nbc") 3) (codes "x\ty" ∷ []) 4 (record { kind = kinds.Rdp; fields = marks.Constant (values.Text 0) ∷ marks.Constant (values.Int (negsuc 6)) ∷ marks.Actual types.Long ∷ marks.Formal types.Char ∷ []; place = 3 }) 2
    ≡ codes "site 4 2:2 rdp (\"x\\ty\",-7,long,?char) set 2\n"
unfolding digits
operation = refl

-- nothing at all
empty : counts_line 0 0 ≡ codes "sites 0 sets 0\n"
unfolding digits
empty = refl

-- two functions
two_functions : functions_text (instrs.PushInt (negsuc 0) ∷ instrs.Return ∷ instrs.LoadLocalAt 1 3 ∷ instrs.Return ∷ []) 0
    (record { name = codes "f"; entry = 0; parameters = []; gives = Some types.Int; cells = 0; temporaries = 0; stack = 1 }
    ∷ record { name = codes "real_main"; entry = 2; parameters = []; gives = Some types.Int; cells = 4; temporaries = 0; stack = 1 } ∷ [])
    ≡ codes "function 0 f cells 0\n0 PushInt -1\n1 Return\nfunction 1 real_main cells 4\n2 LoadLocalAt 1 3\n3 Return\n"
unfolding digits
two_functions = refl
