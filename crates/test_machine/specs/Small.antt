-- Small programs, for tests. (This project.)
use Rattle.std.specs.Prelude.{ℕ, ℤ, pos, Bool, true, false, ◌&&◌, List, [], ◌∷◌, length, Option, Some, IsTrue}
use Rattle.cl_value.specs.declared.value.FieldType.{FieldType}
use Rattle.cl_value.specs.declared.value.FieldType.TheVariants as types
use Rattle.cl_sig.specs.Chains.{may_pair}
use Rattle.cl_sig.specs.Classes.{class}
use Rattle.cl_sig.specs.Fields.{all_below}
use Rattle.cl_sig.specs.Signatures.{PlainSignature}
use Rattle.cl_sig.specs.declared.shape.Class.{Class}
use Rattle.cl_sig.specs.declared.shape.Class.TheVariants as classes
use Rattle.cl_sig.specs.declared.signature.Kind.{Kind}
use Rattle.cl_sig.specs.declared.signature.Kind.TheVariants as kinds
use Rattle.cl_sig.specs.declared.signature.Mark.{Mark}
use Rattle.cl_sig.specs.declared.signature.Mark.TheVariants as marks
use Rattle.cl_code.specs.Plain.{PlainFunction, PlainProgram}
use Rattle.cl_code.specs.Rules.{keeps_rules}
use Rattle.cl_code.specs.Valid.{lists_are_short, site_is_typed}
use Rattle.cl_code.specs.declared.instr.Instr.{Instr}
use Rattle.cl_code.specs.declared.instr.Instr.TheVariants.{PushLong, Return}

-- a function that begins there, with these parameters, which gives this type and has so many cells
abbrev pub function : ℕ → List FieldType → FieldType → ℕ → PlainFunction
function entry parameters gives cells = record { name = []; entry = entry; parameters = parameters; gives = Some gives; cells = cells; temporaries = 0; stack = 4 }

-- an operation of this kind with these fields
abbrev pub operation : Kind → List Mark → PlainSignature
operation kind fields = record { kind = kind; fields = fields; place = 0 }

-- two operations of one set, which is a queue; calls stand in the fields of the first; with one format, a text and three globals
abbrev pub paired : List Instr → List ℕ → List PlainFunction → PlainSignature → PlainSignature → List (Option ℕ) → List ℕ → PlainProgram
paired code heights functions producer consumer calls format =
    record {
      code = code;
      heights = heights;
      functions = functions;
      main = 0;
      globals = pos 10 ∷ pos 20 ∷ pos 30 ∷ [];
      texts = [] ∷ [];
      formats = format ∷ [];
      sites = producer ∷ consumer ∷ [];
      calls = calls ∷ [];
      sets = 0 ∷ 0 ∷ [];
      classes = classes.Queue ∷ [];
    }

-- whether a class is a queue
abbrev pub is_queue : Class → Bool
is_queue classes.Queue = true
is_queue _ = false

-- whether it is valid, by computing: it keeps the rules, its fields are typed, its lists are short, and its operations are a queue
abbrev pub is_right : PlainSignature → PlainSignature → PlainProgram → Bool
is_right producer consumer p = keeps_rules p && (all_below (length p.sites) (site_is_typed p) && (lists_are_short p && (may_pair producer consumer && is_queue (class (producer ∷ consumer ∷ [])))))

-- the same, where its parts are apart
pub record IsRight (code : List Instr) (heights : List ℕ) (functions : List PlainFunction) (producer consumer : PlainSignature) (calls : List (Option ℕ)) (format : List ℕ) : Type 0 where
  pub right : IsTrue (is_right producer consumer (paired code heights functions producer consumer calls format))

-- ---- one function, which gives a `long`

-- with so many cells and this format
abbrev pub single : ℕ → List ℕ → List Instr → List ℕ → PlainProgram
single cells format code heights = paired code heights (function 0 [] types.Long cells ∷ []) (operation kinds.Out (marks.Actual types.Int ∷ [])) (operation kinds.In (marks.Formal types.Int ∷ [])) [] format

-- whether that is valid
abbrev pub single_is_right : ℕ → List ℕ → List Instr → List ℕ → Bool
single_is_right cells format code heights = is_right (operation kinds.Out (marks.Actual types.Int ∷ [])) (operation kinds.In (marks.Formal types.Int ∷ [])) (single cells format code heights)

-- whether an instruction may stand behind one number
abbrev pub MayFollowOne : Instr → Type 0
MayFollowOne i = (x : ℤ) → IsTrue (single_is_right 3 [] (PushLong x ∷ i ∷ Return ∷ []) (0 ∷ 1 ∷ 1 ∷ []))

-- and behind two
abbrev pub MayFollowTwo : Instr → Type 0
MayFollowTwo i = (x y : ℤ) → IsTrue (single_is_right 3 [] (PushLong x ∷ PushLong y ∷ i ∷ Return ∷ []) (0 ∷ 1 ∷ 2 ∷ 1 ∷ []))
