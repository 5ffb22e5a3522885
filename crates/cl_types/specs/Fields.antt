-- What the fields of operations are, in the order of the text. A rule is told the parts, each with what is found in it. (Gelernter 1985; that an
-- operation stands before those in its fields: this project.)
use Rattle.std.specs.Prelude.{List, [], ◌∷◌, ◌++◌, Option, Some, None}
use Rattle.cl_ast.specs.declared.tree.TypeName.{TypeName}
use Rattle.cl_ast.specs.declared.tree.Expr.{Expr}
use Rattle.cl_ast.specs.declared.tree.Place.{Place}
use Rattle.cl_ast.specs.declared.tree.Call.{Call}
use Rattle.cl_ast.specs.declared.tree.Operation.{Operation, roll-Operation}
use Rattle.cl_ast.specs.declared.tree.Field.{Field}
use Rattle.cl_ast.specs.declared.tree.Formal.{Formal, out-Formal}
use Rattle.cl_ast.specs.declared.tree.Chain.{Chain}
use Rattle.cl_ast.specs.declared.tree.Link.{Link}
use Rattle.cl_ast.specs.declared.tree.Prefix.{Prefix}
use Rattle.cl_ast.specs.declared.tree.Expr.TheViews.{out-Field}
use Rattle.cl_ast.specs.declared.tree.Expr.TheOpen.{Expr-F, Place-F, Call-F, Operation-F, Field-F, Formal-F, Chain-F, Link-F, Prefix-F}
use Rattle.cl_ast.specs.declared.tree.Expr.TheFolds as e
use Rattle.cl_types.specs.declared.context.Access.TheVariants as accesses
use Rattle.cl_types.specs.declared.declared.Number.{Number}
use Rattle.cl_types.specs.Declarations.{Known}
use Rattle.cl_types.specs.Findings.{Finding, Forms}
use Rattle.cl_types.specs.Findings as findings
use Rattle.cl_types.specs.Expressions.{judged, judged_place, constant_of}

-- ---- one field

-- an expression is a constant where it tells a number; else it is of its type
abbrev pub plain_form : Option Number → Option TypeName → Finding
plain_form (Some n) t = findings.Constant n
plain_form None t = findings.Actual t

abbrev pub form_rule : Field-F Expr Field Call Chain Formal Link Operation Place Prefix → Known → Finding
form_rule (Field-F.Text text) known = findings.Text
form_rule (Field-F.Formal formal) known = findings.Formal (judged_place (out-Formal formal).target accesses.Write known).type
form_rule (Field-F.Plain x) known = plain_form (constant_of x known) (judged x known).type

-- what a field is where this is known
abbrev pub field_form : Field → Known → Finding
field_form field known = form_rule (out-Field field) known

-- the fields of one operation, in order
abbrev pub own_forms : List Field → Known → List Finding
own_forms [] known = []
own_forms (f ∷ fs) known = field_form f known ∷ own_forms fs known

-- ---- operations in their order

-- what is found in a part where this is known
abbrev pub Finds : Type 0
Finds = Known → Forms

-- what is found in parts, one after the other
abbrev pub joined : {A : Type 0} → List (A × Finds) → Finds
joined [] known = []
joined (x ∷ xs) known = x.1 known ++ joined xs known

abbrev pub or_none : {A : Type 0} → Option (A × Finds) → Finds
or_none None known = []
or_none (Some x) known = x.1 known

-- the parts alone, without what is found in them
abbrev pub parts_of : {A : Type 0} → List (A × Finds) → List A
parts_of [] = []
parts_of (x ∷ xs) = x.0 ∷ parts_of xs

-- what is found in an expression: in its part, and in a literal nothing
abbrev pub in_expr : Expr-F (Expr × Finds) (Field × Finds) (Call × Finds) (Chain × Finds) (Formal × Finds) (Link × Finds) (Operation × Finds) (Place × Finds) (Prefix × Finds) → Finds
in_expr (Expr-F.Literal l) known = []
in_expr (Expr-F.Place x) known = x.1 known
in_expr (Expr-F.Call x) known = x.1 known
in_expr (Expr-F.Operation x) known = x.1 known
in_expr (Expr-F.Chain x) known = x.1 known
in_expr (Expr-F.Negate x) known = x.1 known
in_expr (Expr-F.Not x) known = x.1 known

-- what is found in a field: in its part, and in a string nothing
abbrev pub in_field : Field-F (Expr × Finds) (Field × Finds) (Call × Finds) (Chain × Finds) (Formal × Finds) (Link × Finds) (Operation × Finds) (Place × Finds) (Prefix × Finds) → Finds
in_field (Field-F.Text text) known = []
in_field (Field-F.Formal x) known = x.1 known
in_field (Field-F.Plain x) known = x.1 known

-- what is found in a call: in its arguments, in order
abbrev pub in_call : Call-F (Expr × Finds) (Field × Finds) (Call × Finds) (Chain × Finds) (Formal × Finds) (Link × Finds) (Operation × Finds) (Place × Finds) (Prefix × Finds) → Finds
in_call call known = joined call.arguments known

-- what is found in a chain: in its first operand, then in the others
abbrev pub in_chain : Chain-F (Expr × Finds) (Field × Finds) (Call × Finds) (Chain × Finds) (Formal × Finds) (Link × Finds) (Operation × Finds) (Place × Finds) (Prefix × Finds) → Finds
in_chain chain known = chain.first.1 known ++ joined chain.others known

abbrev pub in_formal : Formal-F (Expr × Finds) (Field × Finds) (Call × Finds) (Chain × Finds) (Formal × Finds) (Link × Finds) (Operation × Finds) (Place × Finds) (Prefix × Finds) → Finds
in_formal formal known = formal.target.1 known

abbrev pub in_link : Link-F (Expr × Finds) (Field × Finds) (Call × Finds) (Chain × Finds) (Formal × Finds) (Link × Finds) (Operation × Finds) (Place × Finds) (Prefix × Finds) → Finds
in_link link known = link.operand.1 known

-- the operation that has these parts
abbrev pub itself : Operation-F (Expr × Finds) (Field × Finds) (Call × Finds) (Chain × Finds) (Formal × Finds) (Link × Finds) (Operation × Finds) (Place × Finds) (Prefix × Finds) → Operation
itself operation = roll-Operation (record { verb = operation.verb; fields = parts_of operation.fields; span = operation.span })

-- an operation, then those in its fields
abbrev pub in_operation : Operation-F (Expr × Finds) (Field × Finds) (Call × Finds) (Chain × Finds) (Formal × Finds) (Link × Finds) (Operation × Finds) (Place × Finds) (Prefix × Finds) → Finds
in_operation operation known = (itself operation, own_forms (parts_of operation.fields) known) ∷ joined operation.fields known

-- what is found in a place: in its index, where there is one
abbrev pub in_place : Place-F (Expr × Finds) (Field × Finds) (Call × Finds) (Chain × Finds) (Formal × Finds) (Link × Finds) (Operation × Finds) (Place × Finds) (Prefix × Finds) → Finds
in_place place known = or_none place.index known

abbrev pub in_prefix : Prefix-F (Expr × Finds) (Field × Finds) (Call × Finds) (Chain × Finds) (Formal × Finds) (Link × Finds) (Operation × Finds) (Place × Finds) (Prefix × Finds) → Finds
in_prefix prefix known = prefix.operand.1 known

-- ---- whole trees

-- the operations in an expression, each with what is found of its fields
unfoldable pub expr_forms : Expr → Finds
expr_forms = e.para-Expr Finds Finds Finds Finds Finds Finds Finds Finds Finds in_expr in_field in_call in_chain in_formal in_link in_operation in_place in_prefix

-- the operations in the index of a place
unfoldable pub place_forms : Place → Finds
place_forms = e.para-Place Finds Finds Finds Finds Finds Finds Finds Finds Finds in_expr in_field in_call in_chain in_formal in_link in_operation in_place in_prefix

-- the operations in the arguments of a call
unfoldable pub call_forms : Call → Finds
call_forms = e.para-Call Finds Finds Finds Finds Finds Finds Finds Finds Finds in_expr in_field in_call in_chain in_formal in_link in_operation in_place in_prefix

-- an operation, and the operations in its fields
unfoldable pub operation_forms : Operation → Finds
operation_forms = e.para-Operation Finds Finds Finds Finds Finds Finds Finds Finds Finds in_expr in_field in_call in_chain in_formal in_link in_operation in_place in_prefix

-- the operations inside a field, each with what is found of its own fields
unfoldable pub inner_forms : Field → Finds
inner_forms = e.para-Field Finds Finds Finds Finds Finds Finds Finds Finds Finds in_expr in_field in_call in_chain in_formal in_link in_operation in_place in_prefix

-- the operations in the operands of a chain
unfoldable pub chain_forms : Chain → Finds
chain_forms = e.para-Chain Finds Finds Finds Finds Finds Finds Finds Finds Finds in_expr in_field in_call in_chain in_formal in_link in_operation in_place in_prefix

unfoldable pub formal_forms : Formal → Finds
formal_forms = e.para-Formal Finds Finds Finds Finds Finds Finds Finds Finds Finds in_expr in_field in_call in_chain in_formal in_link in_operation in_place in_prefix

unfoldable pub link_forms : Link → Finds
link_forms = e.para-Link Finds Finds Finds Finds Finds Finds Finds Finds Finds in_expr in_field in_call in_chain in_formal in_link in_operation in_place in_prefix

unfoldable pub prefix_forms : Prefix → Finds
prefix_forms = e.para-Prefix Finds Finds Finds Finds Finds Finds Finds Finds Finds in_expr in_field in_call in_chain in_formal in_link in_operation in_place in_prefix
