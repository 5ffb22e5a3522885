-- The types of expressions, and what is noted of them. A rule is told what its parts give. (ISO/IEC 9899:1999, 6.5; the operations: Gelernter
-- 1985; what is a fault: this project.)
use Rattle.std.specs.Prelude.{ℕ, ◌==◌, nat_lt, Bool, true, false, List, [], ◌∷◌, ◌++◌, length, Option, Some, None, if◌then◌else◌, option_map}
use Rattle.cl_ast.specs.declared.tree.TypeName.{TypeName}
use Rattle.cl_ast.specs.declared.tree.TypeName.TheVariants as types
use Rattle.cl_ast.specs.declared.tree.Name.{Name}
use Rattle.cl_ast.specs.declared.tree.Operator.{Operator}
use Rattle.cl_ast.specs.declared.tree.Verb.{Verb}
use Rattle.cl_ast.specs.declared.tree.Verb.TheVariants as verbs
use Rattle.cl_ast.specs.declared.tree.Expr.{Expr}
use Rattle.cl_ast.specs.declared.tree.Place.{Place}
use Rattle.cl_ast.specs.declared.tree.Call.{Call}
use Rattle.cl_ast.specs.declared.tree.Operation.{Operation}
use Rattle.cl_ast.specs.declared.tree.Field.{Field}
use Rattle.cl_ast.specs.declared.tree.Formal.{Formal}
use Rattle.cl_ast.specs.declared.tree.Chain.{Chain}
use Rattle.cl_ast.specs.declared.tree.Link.{Link}
use Rattle.cl_ast.specs.declared.tree.Prefix.{Prefix}
use Rattle.cl_ast.specs.declared.tree.Expr.TheOpen.{Expr-F, Field-F}
use Rattle.cl_types.specs.declared.context.Access.{Access}
use Rattle.cl_types.specs.declared.context.Access.TheVariants as accesses
use Rattle.cl_types.specs.declared.context.Purpose.{Purpose}
use Rattle.cl_types.specs.declared.context.Purpose.TheVariants as purposes
use Rattle.cl_types.specs.declared.declared.Declared.{Declared}
use Rattle.cl_types.specs.declared.declared.Declared.TheVariants as declareds
use Rattle.cl_types.specs.declared.declared.Number.{Number}
use Rattle.cl_types.specs.declared.fault.TypeKind.{TypeKind}
use Rattle.cl_types.specs.declared.fault.TypeKind.TheVariants as kinds
use Rattle.cl_types.specs.Notes.{Note, Site, found_all}
use Rattle.cl_types.specs.Types.{literal_type, operated, negated_type}
use Rattle.cl_types.specs.Numbers.{plain_number, negated, number_type}
use Rattle.cl_types.specs.Declarations.{Known, look_up}
use Rattle.cl_ast.specs.Folds.{ExprSteps, fold_expr, fold_place, fold_call, fold_operation, fold_field, fold_formal, fold_chain, fold_link, fold_prefix}
use Rattle.cl_ground.specs.declared.limits.TheConstants.{MOST_FIELDS}

-- the type of an expression, which isn't found where a fault inside hides it, and what is noted in it
pub record Judged : Type 0 where
  pub type : Option TypeName
  pub notes : List Note

abbrev pub no_notes : Option TypeName → Judged
no_notes t = record { type = t; notes = [] }

-- ---- names

-- the type of what stands at a place, where it may be read or written so: an array with an index, a variable without; a constant is read alone
abbrev pub access_type : Access → Bool → Declared → Option TypeName
access_type access false (declareds.Scalar t) = Some t
access_type access true (declareds.Array t) = Some t
access_type accesses.Read false (declareds.Constant n) = Some (number_type n)
access_type access indexed what = None

-- the type of what stands at a place, by what its name is; an unknown name has none
abbrev pub place_type : Access → Bool → Option Declared → Option TypeName
place_type access indexed None = None
place_type access indexed (Some what) = access_type access indexed what

-- what is wrong where there is no type
abbrev pub unless_typed : Option TypeName → List TypeKind
unless_typed None = kinds.WrongType ∷ []
unless_typed (Some t) = []

-- what is wrong with a place: its name is unknown, or what it names can't be read or written so
abbrev pub place_faults : Access → Bool → Option Declared → List TypeKind
place_faults access indexed None = kinds.UnknownName ∷ []
place_faults access indexed (Some what) = unless_typed (access_type access indexed what)

-- whether an index stands behind a name
abbrev pub is_indexed : Option Judged → Bool
is_indexed None = false
is_indexed (Some index) = true

-- what is noted of an index, where there is one
abbrev pub index_notes : Option Judged → List Note
index_notes None = []
index_notes (Some index) = index.notes

abbrev pub judged_name : Access → Name → Option Judged → Option Declared → Judged
judged_name access name index what = record {
  type = place_type access (is_indexed index) what;
  notes = found_all (place_faults access (is_indexed index) what) name.span.start ++ index_notes index;
}

-- ---- calls

-- the type that a call gives; that of a `void` function, or of no function, gives none
abbrev pub called_type : Option Declared → Option TypeName
called_type (Some (declareds.Function f)) = f.result
called_type _ = None

-- a call for its value of a function that gives none
abbrev pub value_faults : Purpose → Option TypeName → List TypeKind
value_faults purposes.Value None = kinds.WrongType ∷ []
value_faults purpose result = []

-- what is wrong where not as many are given as are wanted
abbrev pub count_faults : ℕ → ℕ → List TypeKind
count_faults wanted given = if wanted == given then [] else kinds.WrongCount ∷ []

-- what is wrong with a call: an unknown name or no function's, a value wanted of `void`, or another count
abbrev pub call_faults : Purpose → ℕ → Option Declared → List TypeKind
call_faults purpose given None = kinds.UnknownName ∷ []
call_faults purpose given (Some (declareds.Function f)) = value_faults purpose f.result ++ count_faults (length f.parameters) given
call_faults purpose given (Some what) = kinds.WrongType ∷ []

-- what is noted of arguments, one after the other
abbrev pub notes_of : List Judged → List Note
notes_of [] = []
notes_of (x ∷ xs) = x.notes ++ notes_of xs

abbrev pub judged_called : Purpose → Name → List Judged → Option Declared → Judged
judged_called purpose name arguments what = record {
  type = called_type what;
  notes = found_all (call_faults purpose (length arguments) what) name.span.start ++ notes_of arguments;
}

-- ---- operations

-- a formal receives, so it can't stand where a tuple is made
abbrev pub makes_tuple : Verb → Bool
makes_tuple verbs.Out = true
makes_tuple verbs.Eval = true
makes_tuple _ = false

-- what is wrong with a formal: it can't stand where a tuple is made
abbrev pub formal_faults : Verb → List TypeKind
formal_faults verb = if makes_tuple verb then kinds.BadField ∷ [] else []

-- an operation has at most 16 fields
abbrev pub width_faults : ℕ → List TypeKind
width_faults count = if nat_lt MOST_FIELDS count then kinds.WrongCount ∷ [] else []

-- what is noted of fields, one after the other
abbrev pub joined : List (List Note) → List Note
joined [] = []
joined (x ∷ xs) = x ++ joined xs

abbrev pub operation_noted : ℕ → List (List Note) → List Note
operation_noted word fields = Site word ∷ (found_all (width_faults (length fields)) word ++ joined fields)

-- ---- the rules

-- an expression, an operand, what stands in brackets
abbrev pub Judges : Type 0
Judges = Known → Judged

-- an operator, and the operand behind it
pub record LinkJudges : Type 0 where
  pub operator : Operator
  pub operand : Judges

abbrev pub judged_link : Judged → Operator → Judged → Judged
judged_link a operator b = record { type = operated operator a.type b.type; notes = a.notes ++ b.notes }

-- from the left
abbrev pub chained : Known → Judged → List LinkJudges → Judged
chained known a [] = a
chained known a (l ∷ ls) = chained known (judged_link a l.operator (l.operand known)) ls

-- expressions, each judged where this is known
abbrev pub all_judged : Known → List Judges → List Judged
all_judged known [] = []
all_judged known (x ∷ xs) = x known ∷ all_judged known xs

-- what is noted of each field of an operation of this verb, where this is known
abbrev pub all_noted : Verb → Known → List (Verb → Known → List Note) → List (List Note)
all_noted verb known [] = []
all_noted verb known (x ∷ xs) = x verb known ∷ all_noted verb known xs

-- the parts of the cycle of types, each as what it gives
abbrev pub PlaceJudges : Type 0
PlaceJudges = Access → Known → Judged

abbrev pub CallJudges : Type 0
CallJudges = Purpose → Known → Judged

abbrev pub OperationNotes : Type 0
OperationNotes = Known → List Note

abbrev pub FieldNotes : Type 0
FieldNotes = Verb → Known → List Note

abbrev pub expr_rule : Expr-F Judges FieldNotes CallJudges Judges FieldNotes LinkJudges OperationNotes PlaceJudges Judges → Judges
expr_rule (Expr-F.Literal l) known = no_notes (Some (literal_type l.value))
expr_rule (Expr-F.Place place) known = place accesses.Read known
expr_rule (Expr-F.Call call) known = call purposes.Value known
expr_rule (Expr-F.Operation operation) known = record { type = Some types.Int; notes = operation known }
expr_rule (Expr-F.Chain chain) known = chain known
expr_rule (Expr-F.Negate operand) known = record { type = negated_type (operand known).type; notes = (operand known).notes }
expr_rule (Expr-F.Not operand) known = record { type = Some types.Int; notes = (operand known).notes }

abbrev pub field_rule : Field-F Judges FieldNotes CallJudges Judges FieldNotes LinkJudges OperationNotes PlaceJudges Judges → FieldNotes
field_rule (Field-F.Text text) verb known = []
field_rule (Field-F.Formal formal) verb known = formal verb known
field_rule (Field-F.Plain e) verb known = (e known).notes

-- ---- whole trees

-- of each part of an expression, its type and what is noted in it
abbrev pub expr_rules : ExprSteps Judges FieldNotes CallJudges Judges FieldNotes LinkJudges OperationNotes PlaceJudges Judges
expr_rules = record {
  expr = expr_rule;
  field = field_rule;
  call = λ call. λ purpose. λ known. judged_called purpose call.name (all_judged known call.arguments) (look_up call.name.bytes known);
  chain = λ chain. λ known. chained known (chain.first known) chain.others;
  formal = λ formal. λ verb. λ known. found_all (formal_faults verb) formal.span.start ++ (formal.target accesses.Write known).notes;
  link = λ link. record { operator = link.operator; operand = link.operand };
  operation = λ operation. λ known. operation_noted operation.span.start (all_noted operation.verb known operation.fields);
  place = λ place. λ access. λ known. judged_name access place.name (option_map (λ index. index known) place.index) (look_up place.name.bytes known);
  prefix = λ prefix. prefix.operand;
}

-- an expression where this is known
unfoldable pub judged : Expr → Known → Judged
judged = fold_expr expr_rules

-- a place, as it is accessed
unfoldable pub judged_place : Place → Access → Known → Judged
judged_place = fold_place expr_rules

-- a call, for this purpose
unfoldable pub judged_call : Call → Purpose → Known → Judged
judged_call = fold_call expr_rules

-- an operation
unfoldable pub operation_notes : Operation → Known → List Note
operation_notes = fold_operation expr_rules

-- what is noted of a field, in an operation of this verb
unfoldable pub field_notes : Field → Verb → Known → List Note
field_notes = fold_field expr_rules

-- what is noted of a formal, in an operation of this verb
unfoldable pub formal_notes : Formal → Verb → Known → List Note
formal_notes = fold_formal expr_rules

-- the type of a chain, and what is noted of its operands
unfoldable pub judged_chain : Chain → Known → Judged
judged_chain = fold_chain expr_rules

unfoldable pub judged_operand : Link → LinkJudges
judged_operand = fold_link expr_rules

unfoldable pub judged_prefix : Prefix → Known → Judged
judged_prefix = fold_prefix expr_rules

-- ---- initial values of globals

-- what an expression is as a constant: a literal, or the name of a constant, behind any number of minuses
abbrev pub Constants : Type 0
Constants = Known → Option Number

abbrev pub constant_declared : Option Declared → Option Number
constant_declared (Some (declareds.Constant n)) = Some n
constant_declared _ = None

-- the constant that a name stands for; with an index it stands for none
abbrev pub constant_named : Name → Bool → Known → Option Number
constant_named name true known = None
constant_named name false known = constant_declared (look_up name.bytes known)

-- whether a part that may be left out is there
abbrev pub is_there : {A : Type 0} → Option A → Bool
is_there None = false
is_there (Some a) = true

-- a constant behind one more minus; what is no constant stays none
abbrev pub negated_number : Option Number → Option Number
negated_number None = None
negated_number (Some n) = Some (negated n)

abbrev pub constant_rule : Expr-F Constants (Unit {0}) (Unit {0}) (Unit {0}) (Unit {0}) (Unit {0}) (Unit {0}) Constants Constants → Constants
constant_rule (Expr-F.Literal l) known = Some (plain_number l.value)
constant_rule (Expr-F.Place place) known = place known
constant_rule (Expr-F.Negate operand) known = negated_number (operand known)
constant_rule _ known = None

-- of each part, the constant that it is
abbrev pub constant_rules : ExprSteps Constants (Unit {0}) (Unit {0}) (Unit {0}) (Unit {0}) (Unit {0}) (Unit {0}) Constants Constants
constant_rules = record { expr = constant_rule; field = λ _. tt; call = λ _. tt; chain = λ _. tt; formal = λ _. tt; link = λ _. tt; operation = λ _. tt; place = λ place. λ known. constant_named place.name (is_there place.index) known; prefix = λ prefix. prefix.operand }

-- the constant that an expression is: a literal or the name of one, behind any number of minuses
unfoldable pub constant_of : Expr → Known → Option Number
constant_of = fold_expr constant_rules
