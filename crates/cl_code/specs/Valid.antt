-- A valid program: the rules, and what its type keeps besides. (This project.)
use Rattle.std.specs.Prelude.{◌≡◌, ℕ, ◌<◌, Bool, true, false, ◌&&◌, nat_lt, List, length, slice_get, Option, Some, None, IsTrue}
use Rattle.std.specs.List.{list_all}
use Rattle.cl_value.specs.Matching.{same_type}
use Rattle.cl_value.specs.declared.value.FieldType.{FieldType}
use Rattle.cl_sig.specs.Classes.{members, class}
use Rattle.cl_sig.specs.Fields.{all_below}
use Rattle.cl_sig.specs.Numbers.{count_of}
use Rattle.cl_sig.specs.Partitions.{IsPartition}
use Rattle.cl_sig.specs.Signatures.{PlainSignature}
use Rattle.cl_sig.specs.declared.signature.Mark.{Mark}
use Rattle.cl_sig.specs.declared.signature.Mark.TheVariants as marks
use Rattle.cl_code.specs.Plain.{PlainFunction, PlainProgram}
use Rattle.cl_code.specs.Sites.{Place, places_at}
use Rattle.cl_code.specs.Rules.{has, is_of_number, keeps_rules}

-- ---- the types of fields

-- whether a function gives this type
abbrev pub gives_type : FieldType → PlainFunction → Bool
gives_type type f = has (same_type type) f.gives

-- an actual and a formal are of numbers; a call is an actual of the type that its function gives
abbrev pub field_is_typed : PlainProgram → Mark → Option ℕ → Bool
field_is_typed p (marks.Constant v) None = true
field_is_typed p (marks.Actual type) None = is_of_number type
field_is_typed p (marks.Formal type) None = is_of_number type
field_is_typed p (marks.Actual type) (Some f) = is_of_number type && has (gives_type type) (slice_get p.functions f)
field_is_typed p mark (Some f) = false

-- whether a field with its call has the type that it is asked for with
abbrev pub place_is_typed : PlainProgram → Place → Bool
place_is_typed p place = field_is_typed p place.mark place.call

-- the fields of the site with this number
abbrev pub site_is_typed : PlainProgram → ℕ → Bool
site_is_typed p number = has (λ (site : PlainSignature). list_all (place_is_typed p) (places_at p number site)) (slice_get p.sites number)

-- ---- lengths

-- whether a list is shorter than 2 ^ 32
abbrev pub is_short : {A : Type 0} → List A → Bool
is_short xs = nat_lt (length xs) 4294967296

-- whether the lists of a function are short
abbrev pub function_is_short : PlainFunction → Bool
function_is_short f = is_short f.name && is_short f.parameters

-- each list of a program, the inner ones too
abbrev pub lists_are_short : PlainProgram → Bool
lists_are_short p =
    is_short p.code
    && (is_short p.heights
    && (is_short p.functions
    && (list_all function_is_short p.functions
    && (is_short p.globals
    && (is_short p.texts
    && (list_all is_short p.texts
    && (is_short p.formats
    && (list_all is_short p.formats
    && (is_short p.sites
    && (list_all (λ (site : PlainSignature). is_short site.fields) p.sites
    && (is_short p.calls
    && (list_all is_short p.calls
    && (is_short p.sets
    && is_short p.classes)))))))))))))

-- ---- a valid program

-- the class of each set is that of its sites
abbrev pub HasClasses : PlainProgram → Type 0
HasClasses p = (set : ℕ) → set < count_of p.sets → slice_get p.classes set ≡ Some (class (members p.sites p.sets set))

-- a valid program: it keeps the rules, its fields are typed, its sets and classes are those of its sites, and its lists are short
pub record Valid (p : PlainProgram) : Type 0 where
  pub rules : IsTrue (keeps_rules p)
  pub typed : IsTrue (all_below (length p.sites) (site_is_typed p))
  pub sets : IsPartition p.sites p.sets
  pub class_count : length p.classes ≡ count_of p.sets
  pub classes : HasClasses p
  pub short : IsTrue (lists_are_short p)
