-- Requests that suit an operation: each field is what the types of the text tell. (Gelernter 1985.)
use Rattle.std.specs.Prelude.{◌≡◌, ℕ, ◌<◌, List, [], ◌∷◌, Option, Some, None, slice_get}
use Rattle.std.specs.List.{AllByRecursion}
use Rattle.cl_value.specs.declared.value.Value.{Value}
use Rattle.cl_value.specs.declared.value.Value.TheVariants as values
use Rattle.cl_value.specs.declared.value.FieldType.{FieldType}
use Rattle.cl_value.specs.declared.template.Slot.{Slot}
use Rattle.cl_value.specs.declared.template.Slot.TheVariants as slots
use Rattle.cl_value.specs.Plain.{PlainPart, Ready, Call, PlainAsk, Out, In, Rd, Inp, Rdp, Eval, PlainRequest}
use Rattle.cl_ast.specs.declared.tree.TypeName.{TypeName}
use Rattle.cl_ast.specs.declared.tree.Verb.{Verb}
use Rattle.cl_ast.specs.declared.tree.Verb.TheVariants as verbs
use Rattle.cl_ast.specs.declared.tree.Operation.{Operation, out-Operation}
use Rattle.cl_ast.specs.declared.tree.Field.{Field}
use Rattle.cl_ast.specs.declared.tree.Expr.TheViews.{out-Expr, out-Field}
use Rattle.cl_ast.specs.declared.tree.Expr.{Expr}
use Rattle.cl_ast.specs.declared.tree.Call.{Call as Calling, out-Call}
use Rattle.cl_ast.specs.declared.tree.Chain.{Chain}
use Rattle.cl_ast.specs.declared.tree.Formal.{Formal}
use Rattle.cl_ast.specs.declared.tree.Link.{Link}
use Rattle.cl_ast.specs.declared.tree.Place.{Place}
use Rattle.cl_ast.specs.declared.tree.Prefix.{Prefix}
use Rattle.cl_ast.specs.declared.tree.Expr.TheOpen.{Expr-F, Field-F}
use Rattle.cl_ast.specs.declared.statement.Function.{Function}
use Rattle.cl_ast.specs.declared.statement.Parameter.{Parameter}
use Rattle.cl_meaning.specs.Operators.{field_type}
use Rattle.cl_meaning.specs.Outer.{number_of}
use Rattle.cl_meaning.specs.Calls.{result_type}
use Rattle.cl_types.specs.Findings.{Finding, Forms}
use Rattle.cl_types.specs.Findings as findings
use Rattle.cl_typing.specs.Values.{IsOf, IsOfFound, IsNumber}
use Rattle.cl_typing.specs.Standing.{function_in}
use Rattle.cl_ground.specs.declared.limits.TheConstants.{MOST_DEPTH}

-- the bytes of a string; no other field has any
abbrev pub bytes_rule : Field-F Expr Field Calling Chain Formal Link Operation Place Prefix → List ℕ
bytes_rule (Field-F.Text text) = text.bytes
bytes_rule (Field-F.Formal formal) = []
bytes_rule (Field-F.Plain x) = []

-- the bytes of a field that is a string; any other has none
abbrev pub text_bytes : Field → List ℕ
text_bytes field = bytes_rule (out-Field field)

-- the name of the function that is called, where an expression is a call
abbrev pub callee_rule : Expr-F Expr Field Calling Chain Formal Link Operation Place Prefix → Option (List ℕ)
callee_rule (Expr-F.Call call) = Some (out-Call call).name.bytes
callee_rule _ = None

-- the same of a field: neither a string nor a formal is one
abbrev pub field_callee_rule : Field-F Expr Field Calling Chain Formal Link Operation Place Prefix → Option (List ℕ)
field_callee_rule (Field-F.Plain x) = callee_rule (out-Expr x)
field_callee_rule (Field-F.Text text) = None
field_callee_rule (Field-F.Formal formal) = None

-- the name of the function that a field calls, where it is a call
abbrev pub callee : Field → Option (List ℕ)
callee field = field_callee_rule (out-Field field)

-- a field of the type that was found, if one was
abbrev pub HasFieldType : Option TypeName → FieldType → Type 0
HasFieldType None type = Unit {0}
HasFieldType (Some t) type = type ≡ field_type t

-- arguments of the types of the parameters, one for each
abbrev pub AreArguments : List Parameter → List Value → Type 0
AreArguments [] [] = Unit {0}
AreArguments (p ∷ ps) (v ∷ vs) = IsOf p.type_name v × AreArguments ps vs
AreArguments _ _ = ⊥

-- a process of this depth may ask for it: an `eval` only where it may make one that is one deeper, of at most 64
abbrev pub IsShallow : ℕ → PlainAsk → Type 0
IsShallow depth (Eval live) = depth < MOST_DEPTH
IsShallow depth _ = Unit {0}

-- Three lists, one by one.
abbrev pub Beside : {A : Type 0} → (Field → Finding → A → Type 0) → List Field → List Finding → List A → Type 0
Beside P [] [] [] = Unit {0}
Beside P (field ∷ fields) (x ∷ xs) (a ∷ all) = P field x a × Beside P fields xs all
Beside P _ _ _ = ⊥

module _ (text : List ℕ → ℕ) (functions : List Function) where
  -- a value as a field: a string by its number, a constant by its value, and else by its type
  abbrev pub ValueSuits : Field → Finding → Value → Type 0
  ValueSuits field findings.Text v = v ≡ values.Text (text (text_bytes field))
  ValueSuits field (findings.Constant n) v = IsNumber n v
  ValueSuits field (findings.Formal t) v = ⊥
  ValueSuits field (findings.Actual t) v = IsOfFound t v

  -- a slot of a template
  abbrev pub SlotSuits : Field → Finding → Slot → Type 0
  SlotSuits field x (slots.Actual v) = ValueSuits field x v
  SlotSuits field (findings.Formal t) (slots.Formal type) = HasFieldType t type
  SlotSuits field _ (slots.Formal type) = ⊥

  -- the number is that of the function that the field calls
  abbrev pub IsCallee : Field → ℕ → Type 0
  IsCallee field number = (name : List ℕ) × (callee field ≡ Some name) × (number ≡ number_of name functions)

  -- a call that the new process does: of the function that the field calls, the first of its name, with arguments of its parameters' types
  abbrev pub CallSuits : Field → ℕ → List Value → FieldType → Option TypeName → Type 0
  CallSuits field number vs gives t = (f : Function) × (slice_get functions number ≡ Some f) × (function_in functions f.name.bytes ≡ Some f) × AreArguments f.parameters vs × (gives ≡ field_type (result_type f)) × HasFieldType t gives × IsCallee field number

  -- a field of a live tuple
  abbrev pub PartSuits : Field → Finding → PlainPart → Type 0
  PartSuits field x (Ready v) = ValueSuits field x v
  PartSuits field (findings.Actual t) (Call number vs gives) = CallSuits field number vs gives t
  PartSuits field _ (Call number vs gives) = ⊥

  -- what is asked for by an operation of this verb with these fields
  abbrev pub AskSuits : Verb → List Field → List Finding → PlainAsk → Type 0
  AskSuits verbs.Out fields xs (Out t) = Beside ValueSuits fields xs t
  AskSuits verbs.In fields xs (In m) = Beside SlotSuits fields xs m
  AskSuits verbs.Rd fields xs (Rd m) = Beside SlotSuits fields xs m
  AskSuits verbs.Inp fields xs (Inp m) = Beside SlotSuits fields xs m
  AskSuits verbs.Rdp fields xs (Rdp m) = Beside SlotSuits fields xs m
  AskSuits verbs.Eval fields xs (Eval live) = Beside PartSuits fields xs live
  AskSuits _ fields xs _ = ⊥

  -- what is asked for suits an operation whose fields were found to be this
  abbrev pub Suits : Operation × List Finding → PlainAsk → Type 0
  Suits found ask = AskSuits (out-Operation found.0).verb (out-Operation found.0).fields found.1 ask

  -- whatever suits one of these operations, and a process of this depth may ask for, may be asked for at its site
  abbrev pub Allows : ℕ → (ℕ → ℕ) → (PlainRequest → Type 0) → Forms → Type 0
  Allows depth site R found = AllByRecursion (λ x. (ask : PlainAsk) → Suits x ask → IsShallow depth ask → R (record { site = site (out-Operation x.0).span.start; ask = ask })) found
