-- What is known stays what stands: behind a declaration, in a scope that is entered, and in what is known of a scope round it.
use Rattle.std.proofs.Common.{◌≡◌, ◌∙◌, ap, sym, subst, refl, Bool, true, false, List, [], ◌∷◌, ◌++◌, Option, Some, None, is_some}
use Rattle.std.specs.Prelude.{if◌then◌else◌}
use Rattle.std.specs.Cmp.Lexicographic.{bytes_decides}
use Rattle.cl_ast.specs.declared.statement.Function.{Function}
use Rattle.cl_ast.specs.declared.tree.Name.{Name as Named}
use Rattle.cl_listing.specs.Names.{Name, same_name}
use Rattle.cl_types.specs.declared.declared.Declared.{Declared}
use Rattle.cl_types.specs.declared.declared.Declared.TheVariants as declareds
use Rattle.cl_types.specs.declared.declared.FunctionType.{FunctionType}
use Rattle.cl_types.specs.declared.fault.TypeKind.TheVariants as kinds
use Rattle.cl_types.specs.Notes.{found}
use Rattle.cl_types.specs.Declarations.{Declaration, Known, declaration_in, what_of, look_up, is_declared_here, declare, declared_again, enter}
use Rattle.cl_types.proofs.Clean.{Clean}
use Rattle.cl_typing.specs.Standing.{first_in, innermost, standing, IsVariable, HasFunction, Sees, Fresh}

-- ---- what stands in scopes put together

pub first_append : (name : Name) (ds es : List Declaration) (o : Option Declared) → first_in name (ds ++ es) o ≡ first_in name ds (first_in name es o)
first_append name [] es o = refl
first_append name (d ∷ ds) es o = ap (λ p. if same_name name d.name then Some d.what else p) (first_append name ds es o)

pub innermost_last : (name : Name) (outer : List (List Declaration)) (inner : List Declaration) (o : Option Declared) → innermost name (outer ++ inner ∷ []) o ≡ first_in name inner (innermost name outer o)
innermost_last name [] inner o = refl
innermost_last name (ds ∷ dss) inner o = innermost_last name dss inner (first_in name ds o)

first_none : (name : Name) (ds : List Declaration) (o : Option Declared) → first_in name ds None ≡ None → first_in name ds o ≡ o
first_none name [] o h = refl
first_none name (d ∷ ds) o h = by (same_name name d.name) h (λ e. first_none name ds o e)
  where
    by : (b : Bool) → (if b then Some d.what else first_in name ds None) ≡ None → (first_in name ds None ≡ None → first_in name ds o ≡ o) → (if b then Some d.what else first_in name ds o) ≡ o
    by true e more = absurd cc
    by false e more = more e

-- a declaration more in the innermost scope
standing_more : (name : Name) (globals : List Declaration) (outer : List (List Declaration)) (inner : List Declaration) (d : Declaration) →
    standing name globals (outer ++ (inner ++ d ∷ []) ∷ []) ≡ first_in name inner (if same_name name d.name then Some d.what else innermost name outer (first_in name globals None))
standing_more name globals outer inner d = innermost_last name outer (inner ++ d ∷ []) (first_in name globals None) ∙ first_append name inner (d ∷ []) (innermost name outer (first_in name globals None))

-- ---- a declaration

-- a name that isn't declared in the scope yet
pub declares_new : (name : Name) (what : Declared) (known : Known) → is_declared_here name known ≡ false → declare name what known ≡ record known { here = record { name = name; what = what } ∷ known.here }
declares_new name what known h = ap (λ b. if b then known else record known { here = record { name = name; what = what } ∷ known.here }) h

pub not_again : (name : Named) (known : Known) → Clean (declared_again name known) → is_declared_here name.bytes known ≡ false
not_again name known h = by (is_declared_here name.bytes known) h
  where
    by : (b : Bool) → Clean (if b then found kinds.TwiceDeclared name.span.start ∷ [] else []) → b ≡ false
    by true h = absurd h
    by false h = refl

module _ (functions : List Function) (globals : List Declaration) (outer : List (List Declaration)) (inner : List Declaration) (known : Known) (sees : Sees functions globals outer inner known) (name : Name) (what : Declared) where
  abbrev Now : Known
  Now = record known { here = record { name = name; what = what } ∷ known.here }

  looks : (other : Name) → look_up other Now ≡ (if same_name other name then Some what else look_up other known)
  looks other = by (same_name other name)
    where
      by : (b : Bool) → what_of (if b then Some (record { name = name; what = what }) else declaration_in ((known.here ++ known.around) ++ known.functions) other) ≡ (if b then Some what else look_up other known)
      by true = refl
      by false = refl

  -- a variable more
  pub variable_seen : Fresh inner known → is_declared_here name known ≡ false → IsVariable what → Sees functions globals outer (inner ++ record { name = name; what = what } ∷ []) Now
  variable_seen fresh isnt variable = record { stands = stood; calls = called }
    where
      d : Declaration
      d = record { name = name; what = what }

      round : Name → Option Declared
      round other = innermost other outer (first_in other globals None)

      own : (other : Name) (w : Declared) → same_name other name ≡ true → Some what ≡ Some w → first_in other inner (Some what) ≡ Some w
      own other w same is =
          let none : first_in other inner None ≡ None = subst (λ n. first_in n inner None ≡ None) (sym ((bytes_decides other name).0 same)) (fresh name isnt) in first_none other inner (Some what) none ∙ is

      stood : (other : Name) (w : Declared) → look_up other Now ≡ Some w → IsVariable w → standing other globals (outer ++ (inner ++ d ∷ []) ∷ []) ≡ Some w
      stood other w is v = standing_more other globals outer inner d ∙ by (same_name other name) refl (sym (looks other) ∙ is)
        where
          by : (b : Bool) → same_name other name ≡ b → (if b then Some what else look_up other known) ≡ Some w → first_in other inner (if b then Some what else round other) ≡ Some w
          by true same e = own other w same e
          by false same e = sym (innermost_last other outer inner (first_in other globals None)) ∙ sees.stands other w e v

      called : (other : Name) (t : FunctionType) → look_up other Now ≡ Some (declareds.Function t) → HasFunction functions other t
      called other t is = by (same_name other name) (sym (looks other) ∙ is)
        where
          no_function : (w : Declared) → IsVariable w → Some w ≡ Some (declareds.Function t) → ⊥
          no_function (declareds.Scalar u) v e = cc
          no_function (declareds.Array u) v e = cc
          no_function (declareds.Constant n) v e = cc
          no_function (declareds.Function u) v e = v

          by : (b : Bool) → (if b then Some what else look_up other known) ≡ Some (declareds.Function t) → HasFunction functions other t
          by true e = absurd (no_function what variable e)
          by false e = sees.calls other t e

  -- a function, which is the one of its name
  pub function_seen : (t : FunctionType) → what ≡ declareds.Function t → HasFunction functions name t → Sees functions globals outer inner Now
  function_seen t is has = record { stands = stood; calls = called }
    where
      stood : (other : Name) (w : Declared) → look_up other Now ≡ Some w → IsVariable w → standing other globals (outer ++ inner ∷ []) ≡ Some w
      stood other w e v = by (same_name other name) (sym (looks other) ∙ e)
        where
          no_variable : (w : Declared) → IsVariable w → Some (declareds.Function t) ≡ Some w → ⊥
          no_variable (declareds.Scalar u) v e = cc
          no_variable (declareds.Array u) v e = cc
          no_variable (declareds.Constant n) v e = cc
          no_variable (declareds.Function u) v e = v

          by : (b : Bool) → (if b then Some what else look_up other known) ≡ Some w → standing other globals (outer ++ inner ∷ []) ≡ Some w
          by true e = absurd (no_variable w v (sym (ap (λ x. Some x) is) ∙ e))
          by false e = sees.stands other w e v

      called : (other : Name) (u : FunctionType) → look_up other Now ≡ Some (declareds.Function u) → HasFunction functions other u
      called other u e = by (same_name other name) refl (sym (looks other) ∙ e)
        where
          same_type : (a b : FunctionType) → Some (declareds.Function a) ≡ Some (declareds.Function b) → a ≡ b
          same_type a b e = cc

          by : (b : Bool) → same_name other name ≡ b → (if b then Some what else look_up other known) ≡ Some (declareds.Function u) → HasFunction functions other u
          by true same e = subst (λ n. HasFunction functions n u) (sym ((bytes_decides other name).0 same)) (subst (HasFunction functions name) (same_type t u (sym (ap (λ x. Some x) is) ∙ e)) has)
          by false same e = sees.calls other u e

  pub declared_now : (other : Name) → is_declared_here other Now ≡ false → (same_name other name ≡ false) × (is_declared_here other known ≡ false)
  declared_now other h = by (same_name other name) h
    where
      by : (b : Bool) → is_some (if b then Some (record { name = name; what = what }) else declaration_in known.here other) ≡ false → (b ≡ false) × (is_declared_here other known ≡ false)
      by true h = absurd cc
      by false h = (refl, h)

  pub variable_fresh : Fresh inner known → Fresh (inner ++ record { name = name; what = what } ∷ []) Now
  variable_fresh fresh other h =
      let r = declared_now other h in
      first_append other inner (record { name = name; what = what } ∷ []) None ∙ (ap (λ b. first_in other inner (if b then Some what else None)) r.0 ∙ fresh other r.1)

  pub function_fresh : Fresh inner known → Fresh inner Now
  function_fresh fresh other h = fresh other (declared_now other h).1

-- ---- a scope that is entered

-- what is known there stands, whether or not the scope is entered when it runs
pub inside_sees : (functions : List Function) (globals : List Declaration) (outer : List (List Declaration)) (inner : List Declaration) (known : Known) → Sees functions globals outer inner known → Sees functions globals outer inner (enter known)
inside_sees functions globals outer inner known sees = record { stands = λ name what is v. sees.stands name what is v; calls = λ name t is. sees.calls name t is }

pub entered_sees : (functions : List Function) (globals : List Declaration) (outer : List (List Declaration)) (inner : List Declaration) (known : Known) → Sees functions globals outer inner known → Sees functions globals (outer ++ inner ∷ []) [] (enter known)
entered_sees functions globals outer inner known sees = record {
  stands = λ name what is v. innermost_last name (outer ++ inner ∷ []) [] (first_in name globals None) ∙ sees.stands name what is v;
  calls = λ name t is. sees.calls name t is;
}

pub entered_fresh : (known : Known) → Fresh [] (enter known)
entered_fresh known name h = refl
