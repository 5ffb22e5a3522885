-- Constants, initial values of globals and sizes of arrays. (ISO/IEC 9899:1999, 6.7.5.2, 6.7.8 and 6.10.3; sizes: this project.)
use Rattle.std.specs.Prelude.{◌≡◌, ◌≤◌, ℕ, List, [], ◌∷◌, ◌++◌, Some, Ok}
use Rattle.cl_value.specs.declared.value.Value.{Value}
use Rattle.cl_value.specs.declared.value.Value.TheVariants as values
use Rattle.cl_ast.specs.declared.tree.TypeName.{TypeName}
use Rattle.cl_ast.specs.declared.tree.Expr.{Expr}
use Rattle.cl_ast.specs.declared.statement.Stmt.{Stmt}
use Rattle.cl_ast.specs.declared.statement.Declarator.{Declarator}
use Rattle.cl_ast.specs.declared.statement.Form.{Form}
use Rattle.cl_ast.specs.declared.statement.Form.TheVariants as forms
use Rattle.cl_ast.specs.declared.statement.Size.{Size}
use Rattle.cl_ast.specs.declared.statement.Define.{Define}
use Rattle.cl_ast.specs.declared.statement.Function.{Function}
use Rattle.cl_ast.specs.declared.statement.Item.{Item}
use Rattle.cl_ast.specs.declared.statement.Item.TheVariants as items
use Rattle.cl_model.specs.Numbers.{number}
use Rattle.cl_listing.specs.Names.{Name}
use Rattle.cl_meaning.specs.Operators.{converted}
use Rattle.cl_meaning.specs.Variables.{Scope, in_scope, nowhere}
use Rattle.cl_meaning.specs.Outer.{constant, size_in, initial_number, initial, with_globals, outer}
use Rattle.cl_types.specs.declared.context.Context.{Context}
use Rattle.cl_types.specs.declared.context.Reach.{Reach}
use Rattle.cl_types.specs.declared.context.Reach.TheVariants as reaches
use Rattle.cl_types.specs.declared.declared.Declared.TheVariants as declareds
use Rattle.cl_types.specs.declared.declared.Number.{Number}
use Rattle.cl_types.specs.Numbers.{number_value}
use Rattle.cl_types.specs.Declarations.{Known, look_up, enter}
use Rattle.cl_types.specs.Expressions.{constant_of}
use Rattle.cl_types.specs.Statements.{size_notes, declarator_walked, walked}
use Rattle.cl_types.specs.Items.{define_number, item_walked, items_walked, known_first}
use Rattle.cl_types.specs.Unit.{faults}
use Rattle.cl_typing.specs.Values.{IsNumber}
use Rattle.cl_typing.specs.Laws.{NoFault, known_inside}
use Rattle.cl_ground.specs.declared.limits.TheConstants.{MOST_SIZE}

-- ---- constants that are known

-- this name stands for a constant: one value, of this number
abbrev pub HasNumber : Scope → Name → Number → Type 0
HasNumber scope name n = (v : Value) × ((in_scope name scope nowhere).values ≡ v ∷ []) × (number v ≡ number_value n)

-- each constant that is known stands in the scope
abbrev pub KnowsConstants : Scope → Known → Type 0
KnowsConstants scope known = (name : Name) (n : Number) → look_up name known ≡ Some (declareds.Constant n) → HasNumber scope name n

-- ---- sizes

-- from 1 to 65,536
abbrev pub IsSize : ℕ → Type 0
IsSize n = 1 ≤ n × n ≤ MOST_SIZE

-- a size in which no fault is noted is one
abbrev pub SizesAreThere : Type 0
SizesAreThere = (scope : Scope) (known : Known) (size : Size) → KnowsConstants scope known → NoFault (size_notes known size) → IsSize (size_in scope size)

-- The constants that are known where the statements of a function begin stand outside of functions.
abbrev pub FunctionsKnow : Type 0
FunctionsKnow =
    (xs : List Item) → faults xs ≡ [] → (before behind : List Item) (f : Function) → xs ≡ before ++ items.Function f ∷ behind → KnowsConstants (outer xs) (known_inside f (items_walked before (known_first xs)).known)

-- So do those that are known behind each statement and each declarator, and in each scope that is entered.
pub record StatementsKnow (scope : Scope) (known : Known) : Type 0 where
  pub behind : (x : Stmt) (context : Context) → KnowsConstants scope (walked x context known).known
  pub declared : (reach : Reach) (t : TypeName) (d : Declarator) → KnowsConstants scope (declarator_walked reach t d known).known
  pub entered : KnowsConstants scope (enter known)

-- a scope that has the constants known at a place has those known behind and inside what stands there
abbrev pub KnownEverywhere : Type 0
KnownEverywhere = (scope : Scope) (known : Known) → KnowsConstants scope known → StatementsKnow scope known

-- ---- outside of functions

-- a constant has the number that is defined, of its type
abbrev pub ConstantIs : Define → Type 0
ConstantIs d = (v : Value) × ((constant d).values ≡ v ∷ []) × IsNumber (define_number d) v

-- an initial value is a constant, whose number the meaning computes and which converts without a trap
abbrev pub InitialIs : Scope → Known → TypeName → Expr → Type 0
InitialIs scope known t x = (n : Number) × (constant_of x known ≡ Some n) × (initial_number scope x ≡ number_value n) × (converted t (values.Long (number_value n)) ≡ Ok (initial t (initial_number scope x)))

-- where this scope stands, all of which is that of a text at its end, and this is known
module _ (all : Scope) where
  abbrev pub FormIs : Scope → Known → TypeName → Form → Type 0
  FormIs scope known t forms.Bare = Unit {0}
  FormIs scope known t (forms.Array size) = IsSize (size_in scope size) × (size_in all size ≡ size_in scope size)
  FormIs scope known t (forms.Value x) = InitialIs scope known t x.expr

  abbrev pub DeclaratorsAre : Scope → Known → TypeName → List Declarator → Type 0
  DeclaratorsAre scope known t [] = Unit {0}
  DeclaratorsAre scope known t (d ∷ ds) = FormIs scope known t d.form × DeclaratorsAre (with_globals scope t (d ∷ [])) (declarator_walked reaches.Global t d known).known t ds

  abbrev pub ItemsAre : Scope → Known → List Item → Type 0
  ItemsAre scope known [] = Unit {0}
  ItemsAre scope known (items.Define d ∷ xs) = ConstantIs d × ItemsAre (scope ++ constant d ∷ []) (item_walked (items.Define d) known).known xs
  ItemsAre scope known (items.Variables v ∷ xs) = DeclaratorsAre scope known v.type_name v.declarators × ItemsAre (with_globals scope v.type_name v.declarators) (item_walked (items.Variables v) known).known xs
  ItemsAre scope known (items.Function f ∷ xs) = ItemsAre scope (item_walked (items.Function f) known).known xs

-- so are the items of a text without faults
abbrev pub GlobalsAreInitial : Type 0
GlobalsAreInitial = (xs : List Item) → faults xs ≡ [] → ItemsAre (outer xs) [] (known_first xs) xs
