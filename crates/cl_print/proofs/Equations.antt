-- What is written of each form of an expression, by what is written of its parts.
use Rattle.std.proofs.Common.{◌≡◌, List, [], ◌∷◌, ◌++◌, map, option_map, refl, ap}
use Rattle.cl_ast.specs.declared.mark.Mark.TheVariants as marks
use Rattle.cl_ast.specs.declared.tree.Literal.{Literal}
use Rattle.cl_ast.specs.declared.tree.Text.{Text}
use Rattle.cl_ast.specs.declared.tree.Expr.{Expr}
use Rattle.cl_ast.specs.declared.tree.Expr.TheVariants as exprs
use Rattle.cl_ast.specs.declared.tree.Field.TheVariants as field_forms
use Rattle.cl_ast.specs.declared.tree.Call.{Call}
use Rattle.cl_ast.specs.declared.tree.Chain.{Chain}
use Rattle.cl_ast.specs.declared.tree.Chain.{out-Chain}
use Rattle.cl_ast.specs.declared.tree.Formal.{Formal}
use Rattle.cl_ast.specs.declared.tree.Link.{Link}
use Rattle.cl_ast.specs.declared.tree.Operation.{Operation}
use Rattle.cl_ast.specs.declared.tree.Place.{Place}
use Rattle.cl_ast.specs.declared.tree.Prefix.{Prefix}
use Rattle.cl_ast.specs.Plain.{Name, Str}
use Rattle.cl_print.specs.Spelling.{one}
use Rattle.cl_print.specs.Expressions.{Said, Joined, mark, word, constant_kind, verb_word, operator_rank, operand, links, chain_rank, in_brackets, listed, all_kinds, indexed, close, prefixed, steps, expr_said, field_kinds, call_kinds, chain_said, formal_kinds, link_joined, operation_kinds, place_kinds, prefix_kinds}
use Rattle.cl_ast.proofs.Opens as opens

-- ---- expressions

pub said_literal : (l : Literal) → expr_said (exprs.Literal l) ≡ close (one (constant_kind l.value))
unfolding expr_said place_kinds call_kinds operation_kinds chain_said prefix_kinds
said_literal l = opens.expr_literal steps l

pub said_place : (p : Place) → expr_said (exprs.Place p) ≡ close (place_kinds p)
unfolding expr_said place_kinds call_kinds operation_kinds chain_said prefix_kinds
said_place p = opens.expr_place steps p

pub said_call : (c : Call) → expr_said (exprs.Call c) ≡ close (call_kinds c)
unfolding expr_said place_kinds call_kinds operation_kinds chain_said prefix_kinds
said_call c = opens.expr_call steps c

pub said_operation : (o : Operation) → expr_said (exprs.Operation o) ≡ close (operation_kinds o)
unfolding expr_said place_kinds call_kinds operation_kinds chain_said prefix_kinds
said_operation o = opens.expr_operation steps o

pub said_chain : (c : Chain) → expr_said (exprs.Chain c) ≡ chain_said c
unfolding expr_said place_kinds call_kinds operation_kinds chain_said prefix_kinds
said_chain c = opens.expr_chain steps c

pub said_negate : (p : Prefix) → expr_said (exprs.Negate p) ≡ prefixed marks.Minus (prefix_kinds p)
unfolding expr_said place_kinds call_kinds operation_kinds chain_said prefix_kinds
said_negate p = opens.expr_negate steps p

pub said_not : (p : Prefix) → expr_said (exprs.Not p) ≡ prefixed marks.Not (prefix_kinds p)
unfolding expr_said place_kinds call_kinds operation_kinds chain_said prefix_kinds
said_not p = opens.expr_not steps p

-- ---- the parts

pub place_is : (p : Place) → place_kinds p ≡ one (Name p.name.bytes) ++ indexed (option_map expr_said p.index)
unfolding place_kinds expr_said
place_is p = opens.place_opens steps p

pub call_is : (c : Call) → call_kinds c ≡ one (Name c.name.bytes) ++ in_brackets (listed (all_kinds (map expr_said c.arguments)))
unfolding call_kinds expr_said
call_is c = opens.call_opens steps c

pub operation_is : (o : Operation) → operation_kinds o ≡ word (verb_word o.verb) ++ in_brackets (listed (map field_kinds o.fields))
unfolding operation_kinds field_kinds
operation_is o = opens.operation_opens steps o

abbrev pub chain_of : Said → List Joined → Said
chain_of first others = record { kinds = operand (chain_rank others) first ++ links (chain_rank others) others; rank = chain_rank others }

pub chain_is : (c : Chain) → chain_said c ≡ chain_of (expr_said (out-Chain c).first) (map link_joined (out-Chain c).others)
unfolding chain_said expr_said link_joined
chain_is c = opens.chain_opens steps c

pub link_is : (l : Link) → link_joined l ≡ record { operator = l.operator; operand = expr_said l.operand }
unfolding link_joined expr_said
link_is l = opens.link_opens steps l

pub prefix_is : (p : Prefix) → prefix_kinds p ≡ operand 2 (expr_said p.operand)
unfolding prefix_kinds expr_said
prefix_is p = opens.prefix_opens steps p

pub formal_is : (f : Formal) → formal_kinds f ≡ mark marks.Question ++ place_kinds f.target
unfolding formal_kinds place_kinds
formal_is f = opens.formal_opens steps f

-- ---- fields

pub field_text : (t : Text) → field_kinds (field_forms.Text t) ≡ one (Str t.bytes)
unfolding field_kinds formal_kinds expr_said
field_text t = opens.field_text steps t

pub field_formal : (f : Formal) → field_kinds (field_forms.Formal f) ≡ formal_kinds f
unfolding field_kinds formal_kinds expr_said
field_formal f = opens.field_formal steps f

pub field_plain : (x : Expr) → field_kinds (field_forms.Plain x) ≡ (expr_said x).kinds
unfolding field_kinds formal_kinds expr_said
field_plain x = opens.field_plain steps x

-- ---- ranks

pub no_links_rank : chain_rank (map link_joined []) ≡ 7
no_links_rank = refl

pub links_rank : (l : Link) (ls : List Link) → chain_rank (map link_joined (l ∷ ls)) ≡ operator_rank l.operator
links_rank l ls = ap (λ j. operator_rank j.operator) (link_is l)
