-- What is noted of definitions, globals and functions. (ISO/IEC 9899:1999, 6.9 and 6.10.3; what is a fault: this project.)
use Rattle.std.specs.Prelude.{ℕ, Bool, true, false, List, [], ◌∷◌, ◌++◌, map, is_some, codes, if◌then◌else◌}
use Rattle.cl_ast.specs.declared.tree.TypeName.{TypeName}
use Rattle.cl_ast.specs.declared.statement.Item.{Item}
use Rattle.cl_ast.specs.declared.statement.Item.TheVariants as items
use Rattle.cl_ast.specs.declared.statement.Define.{Define}
use Rattle.cl_ast.specs.declared.statement.Function.{Function}
use Rattle.cl_ast.specs.declared.statement.Parameter.{Parameter}
use Rattle.cl_types.specs.declared.context.Reach.TheVariants as reaches
use Rattle.cl_types.specs.declared.context.Context.{Context}
use Rattle.cl_types.specs.declared.declared.Declared.TheVariants as declareds
use Rattle.cl_types.specs.declared.declared.Number.{Number}
use Rattle.cl_types.specs.declared.declared.FunctionType.{FunctionType}
use Rattle.cl_types.specs.Notes.{Note}
use Rattle.cl_types.specs.Notes as notes
use Rattle.cl_types.specs.Declarations.{Declaration, Known, same_name, declaration_in, declare, declared_again, enter}
use Rattle.cl_types.specs.Statements.{Part, behind, in_order, variables_walked, block_walked}

-- the types of parameters, in order
abbrev pub parameter_types : List Parameter → List TypeName
parameter_types [] = []
parameter_types (p ∷ ps) = p.type_name ∷ parameter_types ps

-- what a function takes and gives
abbrev pub function_type : Function → FunctionType
function_type f = record { result = f.result; parameters = parameter_types f.parameters }

abbrev pub define_number : Define → Number
define_number d = record { is_negative = d.is_negative; literal = d.literal.value }

-- a definition: its name is a constant behind it; one that its scope has already is a fault
abbrev pub define_walked : Define → Part
define_walked d known = record {
  known = declare d.name.bytes (declareds.Constant (define_number d)) known;
  notes = declared_again d.name known;
}

-- a parameter: its name is a variable behind it; one that its scope has already is a fault
abbrev pub parameter_walked : Parameter → Part
parameter_walked p known = record {
  known = declare p.name.bytes (declareds.Scalar p.type_name) known;
  notes = declared_again p.name known;
}

-- the parameters of a function, each known to the next
abbrev pub parameters_walked : List Parameter → Part
parameters_walked ps = in_order (map parameter_walked ps)

-- what stands round a function's statements
abbrev pub function_context : Function → Context
function_context f = record { result = f.result; is_in_loop = false }

-- the parameters and the locals of the outermost block share a scope
abbrev pub body_walked : Function → Part
body_walked f known = behind (parameters_walked f.parameters known) (block_walked f.body (function_context f))

-- what is known with a function, whose name changes nothing where its scope has it already
abbrev pub function_known : Function → Known → Known
function_known f known = declare f.name.bytes (declareds.Function (function_type f)) known

-- a function is noted at its name, and is known in its own statements and behind them
abbrev pub function_walked : Function → Part
function_walked f known = record {
  known = function_known f known;
  notes = notes.Function f.name.span.start ∷ (declared_again f.name known ++ (body_walked f (enter (function_known f known))).notes);
}

-- what is noted of an item, and what is known behind it
abbrev pub item_walked : Item → Part
item_walked (items.Define d) known = define_walked d known
item_walked (items.Variables v) known = variables_walked reaches.Global v known
item_walked (items.Function f) known = function_walked f known

-- the items of a text, each where what was declared before it is known
abbrev pub items_walked : List Item → Part
items_walked xs = in_order (map item_walked xs)

-- ---- functions are known everywhere

-- a function as a declaration
abbrev pub function_declared : Function → Declaration
function_declared f = record { name = f.name.bytes; what = declareds.Function (function_type f) }

-- a function behind those that are there, unless one has its name
abbrev pub with_function : Function → List Declaration → List Declaration
with_function f fs = if is_some (declaration_in fs f.name.bytes) then fs else fs ++ function_declared f ∷ []

abbrev pub with_functions : List Item → List Declaration → List Declaration
with_functions [] fs = fs
with_functions (items.Function f ∷ xs) fs = with_functions xs (with_function f fs)
with_functions (items.Define d ∷ xs) fs = with_functions xs fs
with_functions (items.Variables v ∷ xs) fs = with_functions xs fs

-- what is known with the functions of a text
abbrev pub with_known : List Item → Known → Known
with_known xs known = record known { functions = with_functions xs known.functions }

-- the functions of a text, the first of each name
abbrev pub functions_of : List Item → List Declaration
functions_of xs = with_functions xs []

-- what is known at the beginning of the text
abbrev pub known_first : List Item → Known
known_first xs = record { here = []; around = []; functions = functions_of xs }

-- ---- where the program begins

abbrev pub main_name : List ℕ
main_name = codes "real_main"

abbrev pub is_empty : {A : Type 0} → List A → Bool
is_empty [] = true
is_empty (x ∷ xs) = false

-- whether a program can begin at the function: it is `real_main`, and takes nothing
abbrev pub is_main : Function → Bool
is_main f = if same_name f.name.bytes main_name then is_empty f.parameters else false

-- whether a text has a function at which a program can begin
abbrev pub has_main : List Item → Bool
has_main [] = false
has_main (items.Function f ∷ xs) = if is_main f then true else has_main xs
has_main (items.Define d ∷ xs) = has_main xs
has_main (items.Variables v ∷ xs) = has_main xs
