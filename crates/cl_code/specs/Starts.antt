-- Which starts fit a program, and the shapes of its sets. (This project.)
use Rattle.std.specs.Prelude.{ℕ, zero, ◌==◌, nat_le, Bool, true, false, ◌&&◌, List, [], ◌∷◌, map, slice_get, Option, Some, None, pos}
use Rattle.std.specs.List.{range_with_len}
use Rattle.cl_value.specs.Matching.{same_type, type_of}
use Rattle.cl_value.specs.declared.value.Value.{Value}
use Rattle.cl_value.specs.declared.value.Value.TheVariants as values
use Rattle.cl_value.specs.declared.value.FieldType.{FieldType}
use Rattle.cl_value.specs.Plain.{PlainPart, Ready, Call, PlainStart, Main, Lives}
use Rattle.cl_sig.specs.Beside.{all_beside}
use Rattle.cl_sig.specs.Instances.{is_live_of}
use Rattle.cl_sig.specs.Numbers.{count_of}
use Rattle.cl_sig.specs.Shapes.{PlainShape, shape}
use Rattle.cl_sig.specs.Signatures.{PlainSignature}
use Rattle.cl_sig.specs.declared.signature.Kind.TheVariants as kinds
use Rattle.cl_sig.specs.declared.signature.Mark.TheVariants as marks
use Rattle.cl_sig.specs.declared.shape.Class.TheVariants as classes
use Rattle.cl_code.specs.Plain.{PlainFunction, PlainProgram}
use Rattle.cl_code.specs.Sites.{Place, places_at}
use Rattle.cl_code.specs.Rules.{has, is_eval}
use Rattle.cl_code.specs.Valid.{gives_type}
use Rattle.cl_ground.specs.declared.limits.TheConstants.{MOST_DEPTH}

-- ---- starts

-- whether a value has a type
abbrev pub has_type : FieldType → Value → Bool
has_type type v = same_type type (type_of v)

-- whether a function takes these arguments and gives this type
abbrev pub takes_and_gives : List Value → FieldType → PlainFunction → Bool
takes_and_gives arguments gives f = all_beside has_type f.parameters arguments && gives_type gives f

-- whether a call is one of the function at its field
abbrev pub calls_there : PlainProgram → Option ℕ → ℕ → List Value → FieldType → Bool
calls_there p None f arguments gives = false
calls_there p (Some there) f arguments gives = f == there && has (takes_and_gives arguments gives) (slice_get p.functions f)

-- whether a field of a live tuple may stand at its place
abbrev pub part_fits : PlainProgram → Place → PlainPart → Bool
part_fits p place (Ready v) = true
part_fits p place (Call f arguments gives) = calls_there p place.call f arguments gives

-- whether a live tuple is one of an `eval` with this signature
abbrev pub live_fits : PlainProgram → ℕ → List PlainPart → PlainSignature → Bool
live_fits p number live site = is_eval site.kind && (is_live_of site.fields live && all_beside (part_fits p) (places_at p number site) live)

-- whether a process may begin so
abbrev pub start_fits : PlainProgram → PlainStart → Bool
start_fits p Main = true
start_fits p (Lives site live depth) = has (live_fits p site live) (slice_get p.sites site) && (nat_le 1 depth && nat_le depth MOST_DEPTH)

-- whether each call of a live tuple is one of the function at its field, where there is such a site
abbrev pub calls_fit : PlainProgram → ℕ → List PlainPart → Bool
calls_fit p number live = has (λ (site : PlainSignature). all_beside (part_fits p) (places_at p number site) live) (slice_get p.sites number)

-- ---- shapes

-- the shape of a program without sets: its history stays empty
abbrev pub no_set : PlainShape
no_set = record { set = 0; class = classes.Counter; common = record { kind = kinds.Out; fields = marks.Constant (values.Int (pos 0)) ∷ []; place = 0 }; sites = [] }

-- the shapes of so many sets
abbrev pub shapes_of : PlainProgram → ℕ → List PlainShape
shapes_of p zero = no_set ∷ []
shapes_of p count = map (shape p.sites p.sets) (range_with_len 0 count)

-- the shapes of a program's sets, in order of their numbers
abbrev pub shapes : PlainProgram → List PlainShape
shapes p = shapes_of p (count_of p.sets)
