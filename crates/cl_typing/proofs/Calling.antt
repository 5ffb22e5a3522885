-- Calls: what they give is of the type of the function, and a call that is a field of a live tuple has arguments of its parameters' types.
use Rattle.std.proofs.Common.{◌≡◌, ◌∙◌, ap, sym, subst, refl, ℕ, suc, Bool, true, false, List, [], ◌∷◌, ◌++◌, length, Option, Some, None}
use Rattle.std.proofs.lemmas.Bool.{eqb-true}
use Rattle.std.specs.Cmp.Lexicographic.{bytes_decides}
use Rattle.std.specs.Prelude.{◌==◌, if◌then◌else◌, slice_get}
use Rattle.cl_value.specs.declared.value.Value.{Value}
use Rattle.cl_value.specs.Plain.{PlainRequest, PlainPart, Call}
use Rattle.cl_ast.specs.declared.span.Span.{Span}
use Rattle.cl_ast.specs.declared.tree.Name.{Name as Named}
use Rattle.cl_ast.specs.declared.tree.TypeName.{TypeName}
use Rattle.cl_ast.specs.declared.statement.Block.{Block}
use Rattle.cl_ast.specs.declared.statement.Function.{Function}
use Rattle.cl_ast.specs.declared.statement.Parameter.{Parameter}
use Rattle.cl_model.specs.Doing.{checked}
use Rattle.cl_listing.specs.Names.{Name, same_name}
use Rattle.cl_meaning.specs.Operators.{converted, field_type}
use Rattle.cl_meaning.specs.Variables.{Variables}
use Rattle.cl_meaning.specs.Operations.{Does}
use Rattle.cl_meaning.specs.Outer.{number_of}
use Rattle.cl_meaning.specs.Calls.{arguments, result_type, function_named, live_call}
use Rattle.cl_types.specs.declared.declared.Declared.{Declared}
use Rattle.cl_types.specs.declared.declared.Declared.TheVariants as declareds
use Rattle.cl_types.specs.declared.declared.FunctionType.{FunctionType}
use Rattle.cl_types.specs.declared.context.Purpose.{Purpose}
use Rattle.cl_types.specs.declared.fault.TypeKind.{TypeKind}
use Rattle.cl_types.specs.declared.fault.TypeKind.TheVariants as kinds
use Rattle.cl_types.specs.Declarations.{Declaration, Known, look_up}
use Rattle.cl_types.specs.Expressions.{called_type, value_faults, count_faults, call_faults}
use Rattle.cl_types.specs.Items.{parameter_types}
use Rattle.cl_typing.specs.Values.{IsOf, IsOfFound}
use Rattle.cl_typing.specs.Standing.{Fits, function_in, HasFunction, Sees}
use Rattle.cl_typing.specs.Requests.{HasFieldType, AreArguments}
use Rattle.cl_typing.specs.Steps.{Keeps}
use Rattle.cl_typing.proofs.Operating.{converted_is}
use Rattle.cl_typing.proofs.Leading.{keeps_bind, keeps_pure, keeps_checked}

-- ---- the function of a name

pub named_is : {A : Type 0} (none : A) (functions : List Function) (name : Name) (f : Function) (go : Function → Does A) → function_in functions name ≡ Some f → function_named none functions name go ≡ go f
unfolding function_named
named_is none [] name f go h = absurd cc
named_is none (g ∷ gs) name f go h = by (same_name name g.name.bytes) h (λ e. named_is none gs name f go e)
  where
    by : (b : Bool) → (if b then Some g else function_in gs name) ≡ Some f → (function_in gs name ≡ Some f → function_named none gs name go ≡ go f) → (if b then go g else function_named none gs name go) ≡ go f
    by true e more = let same : g ≡ f = cc in ap go same
    by false e more = more e

pub number_gets : (functions : List Function) (name : Name) (f : Function) → function_in functions name ≡ Some f → slice_get functions (number_of name functions) ≡ Some f
number_gets [] name f h = absurd cc
number_gets (g ∷ gs) name f h = by (same_name name g.name.bytes) h (λ e. number_gets gs name f e)
  where
    by : (b : Bool) → (if b then Some g else function_in gs name) ≡ Some f → (function_in gs name ≡ Some f → slice_get gs (number_of name gs) ≡ Some f) → slice_get (g ∷ gs) (if b then 0 else suc (number_of name gs)) ≡ Some f
    by true e more = e
    by false e more = more e

-- it has this name
name_is : (functions : List Function) (name : Name) (f : Function) → function_in functions name ≡ Some f → name ≡ f.name.bytes
name_is [] name f h = absurd cc
name_is (g ∷ gs) name f h = by (same_name name g.name.bytes) refl h (λ e. name_is gs name f e)
  where
    by : (b : Bool) → same_name name g.name.bytes ≡ b → (if b then Some g else function_in gs name) ≡ Some f → (function_in gs name ≡ Some f → name ≡ f.name.bytes) → name ≡ f.name.bytes
    by true is e more = let same : g ≡ f = cc in (bytes_decides name g.name.bytes).0 is ∙ ap (λ (k : Function). k.name.bytes) same
    by false is e more = more e

pub named_own : (functions : List Function) (name : Name) (f : Function) → function_in functions name ≡ Some f → function_in functions f.name.bytes ≡ Some f
named_own functions name f h = subst (λ n. function_in functions n ≡ Some f) (name_is functions name f h) h

-- ---- results

of_result : (r : Option TypeName) (n : Named) (ps : List Parameter) (b : Block) (s : Span) (v : Value) → IsOf (result_type (record { result = r; name = n; parameters = ps; body = b; span = s })) v → IsOfFound r v
of_result None n ps b s v h = tt
of_result (Some t) n ps b s v h = h

-- of the type of the result, where there is one
pub result_is : (f : Function) (v : Value) → IsOf (result_type f) v → IsOfFound f.result v
result_is f v h = of_result f.result f.name f.parameters f.body f.span v h

field_result : (r : Option TypeName) (n : Named) (ps : List Parameter) (b : Block) (s : Span) → HasFieldType r (field_type (result_type (record { result = r; name = n; parameters = ps; body = b; span = s })))
field_result None n ps b s = tt
field_result (Some t) n ps b s = refl

-- what a call gives is of the type of the function of this name
abbrev pub GivesResult : List Function → Name → Value → Type 0
GivesResult functions name v = (f : Function) → function_in functions name ≡ Some f → IsOf (result_type f) v

-- as many values as the function of this name has parameters
abbrev pub Takes : List Function → Name → List Value → Type 0
Takes functions name vs = (f : Function) → function_in functions name ≡ Some f → length f.parameters ≡ length vs

-- calls of functions keep variables at their types, and give values of theirs
abbrev pub CallsRight : (PlainRequest → Type 0) → List Function → List Declaration → (Name → List Value → Does Value) → Type 0
CallsRight R functions globals call = (name : Name) (vs : List Value) (locals : List (List Declaration)) → Takes functions name vs → Keeps R (Fits globals locals) (GivesResult functions name) (call name vs)

-- ---- a call without faults

-- the function that is called, with as many parameters as arguments
pub record Callable (functions : List Function) (name : Name) (type : Option TypeName) (given : ℕ) : Type 0 where
  pub function : Function
  pub found : function_in functions name ≡ Some function
  pub result : type ≡ function.result
  pub count : length function.parameters ≡ given

counts : (wanted given : ℕ) → count_faults wanted given ≡ [] → wanted ≡ given
counts wanted given h = by (wanted == given) refl h
  where
    equal : (wanted == given) ≡ true → wanted ≡ given
    equal e = eqb-true wanted given e

    by : (b : Bool) → (wanted == given) ≡ b → (if b then [] else kinds.WrongCount ∷ []) ≡ [] → wanted ≡ given
    by true e f = equal e
    by false e f = absurd cc

behind_none : (a b : List TypeKind) → a ++ b ≡ [] → b ≡ []
behind_none [] b h = h
behind_none (x ∷ a) b h = absurd cc

types_length : (ps : List Parameter) → length (parameter_types ps) ≡ length ps
types_length [] = refl
types_length (p ∷ ps) = ap suc (types_length ps)

pub may_call : (functions : List Function) (globals : List Declaration) (outer : List (List Declaration)) (inner : List Declaration) (known : Known) → Sees functions globals outer inner known → (name : Name) (purpose : Purpose) (given : ℕ) →
    call_faults purpose given (look_up name known) ≡ [] → Callable functions name (called_type (look_up name known)) given
may_call functions globals outer inner known sees name purpose given h = by (look_up name known) refl h
  where
    of_type : (t : FunctionType) → HasFunction functions name t → count_faults (length t.parameters) given ≡ [] → Callable functions name t.result given
    of_type t has f = record {
      function = has.0;
      found = has.1;
      result = sym (ap (λ (u : FunctionType). u.result) has.2);
      count = sym (types_length has.0.parameters) ∙ (ap (λ (u : FunctionType). length u.parameters) has.2 ∙ counts (length t.parameters) given f);
    }

    by : (o : Option Declared) → look_up name known ≡ o → call_faults purpose given o ≡ [] → Callable functions name (called_type o) given
    by None is f = absurd cc
    by (Some (declareds.Scalar t)) is f = absurd cc
    by (Some (declareds.Array t)) is f = absurd cc
    by (Some (declareds.Constant n)) is f = absurd cc
    by (Some (declareds.Function t)) is f = of_type t (sees.calls name t is) (behind_none (value_faults purpose t.result) (count_faults (length t.parameters) given) f)

pub callable_takes : (functions : List Function) (name : Name) (type : Option TypeName) (vs : List Value) → Callable functions name type (length vs) → Takes functions name vs
callable_takes functions name type vs c f is = let same : c.function ≡ f = some_same c.function f (sym c.found ∙ is) in sym (ap (λ (g : Function). length g.parameters) same) ∙ c.count
  where
    some_same : (g f : Function) → Some g ≡ Some f → g ≡ f
    some_same g f e = cc

-- what it gives is of the type that is judged
pub call_gives : (functions : List Function) (name : Name) (type : Option TypeName) (given : ℕ) (v : Value) → Callable functions name type given → GivesResult functions name v → IsOfFound type v
call_gives functions name type given v c g = subst (λ t. IsOfFound t v) (sym c.result) (result_is c.function v (g c.function c.found))

-- ---- a call of a live tuple

module _ (R : PlainRequest → Type 0) (kept : Variables → Type 0) where
  pub arguments_keep : (ps : List Parameter) (vs : List Value) → length ps ≡ length vs → Keeps R kept (AreArguments ps) (arguments ps vs)
  unfolding arguments
  arguments_keep [] [] same = keeps_pure R kept (AreArguments []) [] tt
  arguments_keep [] (v ∷ vs) same = absurd cc
  arguments_keep (p ∷ ps) [] same = absurd cc
  arguments_keep (p ∷ ps) (v ∷ vs) same = keeps_bind R kept (IsOf p.type_name) (AreArguments (p ∷ ps)) (checked (converted p.type_name v)) _
      (keeps_checked R kept (IsOf p.type_name) (converted p.type_name v) (λ w is. converted_is p.type_name v w is)) (λ w is.
      keeps_bind R kept (AreArguments ps) (AreArguments (p ∷ ps)) (arguments ps vs) _ (arguments_keep ps vs (cc)) (λ ws are.
      keeps_pure R kept (AreArguments (p ∷ ps)) (w ∷ ws) (is, are)))

  -- a call of the function of this name, with its number
  abbrev pub LiveSuits : List Function → Name → Option TypeName → PlainPart → Type 0
  LiveSuits functions name type (Call number vs gives) = (f : Function) × (slice_get functions number ≡ Some f) × (function_in functions f.name.bytes ≡ Some f) × AreArguments f.parameters vs × (gives ≡ field_type (result_type f)) × HasFieldType type gives × (number ≡ number_of name functions)
  LiveSuits functions name type _ = ⊥

  pub live_keeps : (functions : List Function) (name : Name) (type : Option TypeName) (vs : List Value) → Callable functions name type (length vs) → Keeps R kept (LiveSuits functions name type) (live_call functions name vs)
  unfolding live_call
  live_keeps functions name type vs c =
      let f = c.function in
      let Q = Keeps R kept (LiveSuits functions name type) in
      subst Q (sym (named_is _ functions name f _ c.found))
      (keeps_bind R kept (AreArguments f.parameters) (LiveSuits functions name type) (arguments f.parameters vs) _ (arguments_keep f.parameters vs c.count) (λ ws are.
      keeps_pure R kept (LiveSuits functions name type) (Call (number_of name functions) ws (field_type (result_type f)))
      (f, number_gets functions name f c.found, named_own functions name f c.found, are, refl, subst (λ t. HasFieldType t (field_type (result_type f))) (sym c.result) (field_result f.result f.name f.parameters f.body f.span), refl)))
