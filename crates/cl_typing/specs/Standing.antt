-- Which variables stand at a place, and variables that are of the types by which they are known. (ISO/IEC 9899:1999, 6.2.1.)
use Rattle.std.specs.Prelude.{◌≡◌, false, List, [], ◌∷◌, ◌++◌, length, Option, Some, None, if◌then◌else◌}
use Rattle.std.specs.List.{AllByRecursion}
use Rattle.cl_ast.specs.declared.statement.Function.{Function}
use Rattle.cl_listing.specs.Names.{Name, same_name}
use Rattle.cl_meaning.specs.Variables.{Variable, Scope, Variables}
use Rattle.cl_types.specs.declared.declared.Declared.{Declared}
use Rattle.cl_types.specs.declared.declared.Declared.TheVariants as declareds
use Rattle.cl_types.specs.declared.declared.FunctionType.{FunctionType}
use Rattle.cl_types.specs.Numbers.{number_type}
use Rattle.cl_types.specs.Declarations.{Declaration, Known, look_up, is_declared_here}
use Rattle.cl_types.specs.Items.{function_type}
use Rattle.cl_typing.specs.Values.{IsOf, IsNumber}

-- ---- variables of their types

-- a variable has one value of its type, an array values of its type, and a constant has its number
abbrev pub FitsAs : Declared → Variable → Type 0
FitsAs (declareds.Scalar t) v = (v.of ≡ t) × (length v.values ≡ 1) × AllByRecursion (IsOf t) v.values
FitsAs (declareds.Array t) v = (v.of ≡ t) × AllByRecursion (IsOf t) v.values
FitsAs (declareds.Constant n) v = (v.of ≡ number_type n) × (length v.values ≡ 1) × AllByRecursion (IsNumber n) v.values
FitsAs (declareds.Function f) v = ⊥

-- the variables of a scope are those declared, in their order
abbrev pub FitsScope : List Declaration → Scope → Type 0
FitsScope [] [] = Unit {0}
FitsScope (d ∷ ds) (v ∷ vs) = (v.name ≡ d.name) × FitsAs d.what v × FitsScope ds vs
FitsScope _ _ = ⊥

abbrev pub FitsScopes : List (List Declaration) → List Scope → Type 0
FitsScopes [] [] = Unit {0}
FitsScopes (ds ∷ dss) (scope ∷ scopes) = FitsScope ds scope × FitsScopes dss scopes
FitsScopes _ _ = ⊥

-- globals are those declared, and so are locals, scope by scope
pub record Fits (globals : List Declaration) (locals : List (List Declaration)) (all : Variables) : Type 0 where
  pub outside : FitsScope globals all.globals
  pub inside : FitsScopes locals all.locals

-- ---- what stands behind a name

-- the first declaration of a scope, else what stands outside
abbrev pub first_in : Name → List Declaration → Option Declared → Option Declared
first_in name [] outer = outer
first_in name (d ∷ ds) outer = if same_name name d.name then Some d.what else first_in name ds outer

-- of the innermost scope that has one
abbrev pub innermost : Name → List (List Declaration) → Option Declared → Option Declared
innermost name [] outer = outer
innermost name (scope ∷ inner) outer = innermost name inner (first_in name scope outer)

abbrev pub standing : Name → List Declaration → List (List Declaration) → Option Declared
standing name globals locals = innermost name locals (first_in name globals None)

-- ---- what is known at a place is what stands there

abbrev pub IsVariable : Declared → Type 0
IsVariable (declareds.Scalar t) = Unit {0}
IsVariable (declareds.Array t) = Unit {0}
IsVariable (declareds.Constant n) = Unit {0}
IsVariable (declareds.Function f) = ⊥

-- the first function of a name
abbrev pub function_in : List Function → Name → Option Function
function_in [] name = None
function_in (f ∷ fs) name = if same_name name f.name.bytes then Some f else function_in fs name

-- there is a function of this name and type
abbrev pub HasFunction : List Function → Name → FunctionType → Type 0
HasFunction functions name t = (f : Function) × (function_in functions name ≡ Some f) × (function_type f ≡ t)

-- what is known of a name stands for it: a variable in the scopes, a function in the text
pub record Sees (functions : List Function) (globals : List Declaration) (outer : List (List Declaration)) (inner : List Declaration) (known : Known) : Type 0 where
  pub stands : (name : Name) (what : Declared) → look_up name known ≡ Some what → IsVariable what → standing name globals (outer ++ inner ∷ []) ≡ Some what
  pub calls : (name : Name) (t : FunctionType) → look_up name known ≡ Some (declareds.Function t) → HasFunction functions name t

-- the innermost scope has no name but those that are declared in it
abbrev pub Fresh : List Declaration → Known → Type 0
Fresh inner known = (name : Name) → is_declared_here name known ≡ false → first_in name inner None ≡ None

-- a place of the text: the scopes that stand there, what is known there, and that they agree
pub record Scene (functions : List Function) (globals : List Declaration) : Type 0 where
  pub outer : List (List Declaration)
  pub inner : List Declaration
  pub known : Known
  pub sees : Sees functions globals outer inner known
