-- What is found in expressions, as equations at each form.
use Rattle.std.proofs.Common.{◌≡◌, ◌∙◌, ap, sym, refl, List, [], ◌∷◌, ◌++◌, map, Option, Some, None}
use Rattle.cl_ast.specs.declared.span.Span.{Span}
use Rattle.cl_ast.specs.declared.tree.Literal.{Literal}
use Rattle.cl_ast.specs.declared.tree.Name.{Name}
use Rattle.cl_ast.specs.declared.tree.Text.{Text}
use Rattle.cl_ast.specs.declared.tree.Expr.{Expr}
use Rattle.cl_ast.specs.declared.tree.Expr.TheVariants as exprs
use Rattle.cl_ast.specs.declared.tree.Place.{Place, out-Place}
use Rattle.cl_ast.specs.declared.tree.Call.{Call, out-Call}
use Rattle.cl_ast.specs.declared.tree.Operation.{Operation, out-Operation}
use Rattle.cl_ast.specs.declared.tree.Field.{Field}
use Rattle.cl_ast.specs.declared.tree.Field.TheVariants as fields
use Rattle.cl_ast.specs.declared.tree.Formal.{Formal, out-Formal}
use Rattle.cl_ast.specs.declared.tree.Chain.{Chain, out-Chain}
use Rattle.cl_ast.specs.declared.tree.Link.{Link, out-Link}
use Rattle.cl_ast.specs.declared.tree.Prefix.{Prefix, out-Prefix}
use Rattle.cl_ast.specs.declared.tree.Expr.TheFolds as e
use Rattle.cl_ast.specs.declared.tree.Expr.TheOpen.{Expr-F, Field-F}
use Rattle.cl_ast.specs.declared.tree.Expr.TheViews.{roll-Operation, outs-Text, outs-Formal, outs-Plain, roll-out-Place, roll-out-Call, roll-out-Operation, roll-out-Formal, roll-out-Chain, roll-out-Link, roll-out-Prefix}
use Rattle.cl_types.specs.declared.context.Access.TheVariants as accesses
use Rattle.cl_types.specs.Findings as findings
use Rattle.cl_types.specs.Declarations.{Known}
use Rattle.cl_types.specs.Expressions.{judged, judged_place, constant_of}
use Rattle.cl_types.specs.Fields.{plain_form, form_rule, field_form, own_forms, Finds, joined, parts_of, in_expr, in_field, in_call, in_chain, in_formal, in_link, in_operation, in_place, in_prefix, expr_forms, place_forms, call_forms, operation_forms, inner_forms, chain_forms, formal_forms, link_forms, prefix_forms}
use Rattle.cl_types.specs.Gathered.{each, maybe_forms}

-- ---- one field

pub text_form : (x : Text) (known : Known) → field_form (fields.Text x) known ≡ findings.Text
text_form x known = ap (λ f. form_rule f known) (outs-Text x)

pub formal_form : (x : Formal) (known : Known) → field_form (fields.Formal x) known ≡ findings.Formal (judged_place (out-Formal x).target accesses.Write known).type
formal_form x known = ap (λ f. form_rule f known) (outs-Formal x)

pub expr_form : (x : Expr) (known : Known) → field_form (fields.Plain x) known ≡ plain_form (constant_of x known) (judged x known).type
expr_form x known = ap (λ f. form_rule f known) (outs-Plain x)

-- ---- parts beside what is found in them

beside : {A : Type 0} (f : A → Finds) (xs : List A) (known : Known) → joined (map (λ x. (x, f x)) xs) known ≡ each f xs known
beside f [] known = refl
beside f (x ∷ xs) known = ap (λ ys. f x known ++ ys) (beside f xs known)

themselves : {A : Type 0} (f : A → Finds) (xs : List A) → parts_of (map (λ x. (x, f x)) xs) ≡ xs
themselves f [] = refl
themselves f (x ∷ xs) = ap (λ ys. x ∷ ys) (themselves f xs)

pub of_literal : (x : Literal) (known : Known) → expr_forms (exprs.Literal x) known ≡ []
unfolding expr_forms place_forms call_forms operation_forms inner_forms chain_forms formal_forms link_forms prefix_forms
of_literal x known = ap (λ y. expr_forms y known) (sym (exprs.rolls-Literal x)) ∙ ap (λ (f : Finds). f known) (e.para-roll-Expr Finds Finds Finds Finds Finds Finds Finds Finds Finds in_expr in_field in_call in_chain in_formal in_link in_operation in_place in_prefix (Expr-F.Literal x))

pub of_place : (x : Place) (known : Known) → expr_forms (exprs.Place x) known ≡ place_forms x known
unfolding expr_forms place_forms call_forms operation_forms inner_forms chain_forms formal_forms link_forms prefix_forms
of_place x known = ap (λ y. expr_forms y known) (sym (exprs.rolls-Place x)) ∙ ap (λ (f : Finds). f known) (e.para-roll-Expr Finds Finds Finds Finds Finds Finds Finds Finds Finds in_expr in_field in_call in_chain in_formal in_link in_operation in_place in_prefix (Expr-F.Place x))

pub of_call : (x : Call) (known : Known) → expr_forms (exprs.Call x) known ≡ call_forms x known
unfolding expr_forms place_forms call_forms operation_forms inner_forms chain_forms formal_forms link_forms prefix_forms
of_call x known = ap (λ y. expr_forms y known) (sym (exprs.rolls-Call x)) ∙ ap (λ (f : Finds). f known) (e.para-roll-Expr Finds Finds Finds Finds Finds Finds Finds Finds Finds in_expr in_field in_call in_chain in_formal in_link in_operation in_place in_prefix (Expr-F.Call x))

pub of_operation : (x : Operation) (known : Known) → expr_forms (exprs.Operation x) known ≡ operation_forms x known
unfolding expr_forms place_forms call_forms operation_forms inner_forms chain_forms formal_forms link_forms prefix_forms
of_operation x known = ap (λ y. expr_forms y known) (sym (exprs.rolls-Operation x)) ∙ ap (λ (f : Finds). f known) (e.para-roll-Expr Finds Finds Finds Finds Finds Finds Finds Finds Finds in_expr in_field in_call in_chain in_formal in_link in_operation in_place in_prefix (Expr-F.Operation x))

pub of_chain : (x : Chain) (known : Known) → expr_forms (exprs.Chain x) known ≡ chain_forms x known
unfolding expr_forms place_forms call_forms operation_forms inner_forms chain_forms formal_forms link_forms prefix_forms
of_chain x known = ap (λ y. expr_forms y known) (sym (exprs.rolls-Chain x)) ∙ ap (λ (f : Finds). f known) (e.para-roll-Expr Finds Finds Finds Finds Finds Finds Finds Finds Finds in_expr in_field in_call in_chain in_formal in_link in_operation in_place in_prefix (Expr-F.Chain x))

prefix_is : (x : Prefix) (known : Known) → prefix_forms x known ≡ expr_forms (out-Prefix x).operand known
unfolding expr_forms place_forms call_forms operation_forms inner_forms chain_forms formal_forms link_forms prefix_forms
prefix_is x known = ap (λ y. prefix_forms y known) (sym (roll-out-Prefix x)) ∙ (ap (λ (f : Finds). f known) (e.para-roll-Prefix Finds Finds Finds Finds Finds Finds Finds Finds Finds in_expr in_field in_call in_chain in_formal in_link in_operation in_place in_prefix (out-Prefix x)))

pub of_negate : (x : Prefix) (known : Known) → expr_forms (exprs.Negate x) known ≡ expr_forms (out-Prefix x).operand known
unfolding expr_forms place_forms call_forms operation_forms inner_forms chain_forms formal_forms link_forms prefix_forms
of_negate x known = ap (λ y. expr_forms y known) (sym (exprs.rolls-Negate x)) ∙ (ap (λ (f : Finds). f known) (e.para-roll-Expr Finds Finds Finds Finds Finds Finds Finds Finds Finds in_expr in_field in_call in_chain in_formal in_link in_operation in_place in_prefix (Expr-F.Negate x)) ∙ prefix_is x known)

pub of_not : (x : Prefix) (known : Known) → expr_forms (exprs.Not x) known ≡ expr_forms (out-Prefix x).operand known
unfolding expr_forms place_forms call_forms operation_forms inner_forms chain_forms formal_forms link_forms prefix_forms
of_not x known = ap (λ y. expr_forms y known) (sym (exprs.rolls-Not x)) ∙ (ap (λ (f : Finds). f known) (e.para-roll-Expr Finds Finds Finds Finds Finds Finds Finds Finds Finds in_expr in_field in_call in_chain in_formal in_link in_operation in_place in_prefix (Expr-F.Not x)) ∙ prefix_is x known)

formal_is : (x : Formal) (known : Known) → formal_forms x known ≡ place_forms (out-Formal x).target known
unfolding expr_forms place_forms call_forms operation_forms inner_forms chain_forms formal_forms link_forms prefix_forms
formal_is x known = ap (λ y. formal_forms y known) (sym (roll-out-Formal x)) ∙ (ap (λ (f : Finds). f known) (e.para-roll-Formal Finds Finds Finds Finds Finds Finds Finds Finds Finds in_expr in_field in_call in_chain in_formal in_link in_operation in_place in_prefix (out-Formal x)))

pub of_text : (x : Text) (known : Known) → inner_forms (fields.Text x) known ≡ []
unfolding expr_forms place_forms call_forms operation_forms inner_forms chain_forms formal_forms link_forms prefix_forms
of_text x known = ap (λ y. inner_forms y known) (sym (fields.rolls-Text x)) ∙ (ap (λ (f : Finds). f known) (e.para-roll-Field Finds Finds Finds Finds Finds Finds Finds Finds Finds in_expr in_field in_call in_chain in_formal in_link in_operation in_place in_prefix (Field-F.Text x)))

pub of_formal : (x : Formal) (known : Known) → inner_forms (fields.Formal x) known ≡ place_forms (out-Formal x).target known
unfolding expr_forms place_forms call_forms operation_forms inner_forms chain_forms formal_forms link_forms prefix_forms
of_formal x known = ap (λ y. inner_forms y known) (sym (fields.rolls-Formal x)) ∙ (ap (λ (f : Finds). f known) (e.para-roll-Field Finds Finds Finds Finds Finds Finds Finds Finds Finds in_expr in_field in_call in_chain in_formal in_link in_operation in_place in_prefix (Field-F.Formal x)) ∙ formal_is x known)

pub of_plain : (x : Expr) (known : Known) → inner_forms (fields.Plain x) known ≡ expr_forms x known
unfolding expr_forms place_forms call_forms operation_forms inner_forms chain_forms formal_forms link_forms prefix_forms
of_plain x known = ap (λ y. inner_forms y known) (sym (fields.rolls-Plain x)) ∙ (ap (λ (f : Finds). f known) (e.para-roll-Field Finds Finds Finds Finds Finds Finds Finds Finds Finds in_expr in_field in_call in_chain in_formal in_link in_operation in_place in_prefix (Field-F.Plain x)))

pub call_is : (x : Call) (known : Known) → call_forms x known ≡ each expr_forms (out-Call x).arguments known
unfolding expr_forms place_forms call_forms operation_forms inner_forms chain_forms formal_forms link_forms prefix_forms
call_is x known = ap (λ y. call_forms y known) (sym (roll-out-Call x)) ∙ (ap (λ (f : Finds). f known) (e.para-roll-Call Finds Finds Finds Finds Finds Finds Finds Finds Finds in_expr in_field in_call in_chain in_formal in_link in_operation in_place in_prefix (out-Call x)) ∙ beside expr_forms (out-Call x).arguments known)

pub operation_is : (x : Operation) (known : Known) → operation_forms x known ≡ (x, own_forms (out-Operation x).fields known) ∷ each inner_forms (out-Operation x).fields known
unfolding expr_forms place_forms call_forms operation_forms inner_forms chain_forms formal_forms link_forms prefix_forms
operation_is x known = ap (λ y. operation_forms y known) (sym (roll-out-Operation x)) ∙ (ap (λ (f : Finds). f known) (e.para-roll-Operation Finds Finds Finds Finds Finds Finds Finds Finds Finds in_expr in_field in_call in_chain in_formal in_link in_operation in_place in_prefix (out-Operation x)) ∙ (ap (λ fs. (roll-Operation (record { verb = (out-Operation x).verb; fields = fs; span = (out-Operation x).span }), own_forms fs known) ∷ joined (map (λ y. (y, inner_forms y)) (out-Operation x).fields) known) (themselves inner_forms (out-Operation x).fields)
    ∙ (ap (λ o. (o, own_forms (out-Operation x).fields known) ∷ joined (map (λ y. (y, inner_forms y)) (out-Operation x).fields) known) (roll-out-Operation x)
    ∙ ap (λ ys. (x, own_forms (out-Operation x).fields known) ∷ ys) (beside inner_forms (out-Operation x).fields known))))

pub chain_is : (x : Chain) (known : Known) → chain_forms x known ≡ expr_forms (out-Chain x).first known ++ each link_forms (out-Chain x).others known
unfolding expr_forms place_forms call_forms operation_forms inner_forms chain_forms formal_forms link_forms prefix_forms
chain_is x known = ap (λ y. chain_forms y known) (sym (roll-out-Chain x)) ∙ (ap (λ (f : Finds). f known) (e.para-roll-Chain Finds Finds Finds Finds Finds Finds Finds Finds Finds in_expr in_field in_call in_chain in_formal in_link in_operation in_place in_prefix (out-Chain x)) ∙ ap (λ ys. expr_forms (out-Chain x).first known ++ ys) (beside link_forms (out-Chain x).others known))

pub link_is : (x : Link) (known : Known) → link_forms x known ≡ expr_forms (out-Link x).operand known
unfolding expr_forms place_forms call_forms operation_forms inner_forms chain_forms formal_forms link_forms prefix_forms
link_is x known = ap (λ y. link_forms y known) (sym (roll-out-Link x)) ∙ (ap (λ (f : Finds). f known) (e.para-roll-Link Finds Finds Finds Finds Finds Finds Finds Finds Finds in_expr in_field in_call in_chain in_formal in_link in_operation in_place in_prefix (out-Link x)))

index_is : (name : Name) (index : Option Expr) (span : Span) (known : Known) →
    in_place (e.map-Place Expr Field Call Chain Formal Link Operation Place Prefix (Expr × Finds) (Field × Finds) (Call × Finds) (Chain × Finds) (Formal × Finds) (Link × Finds) (Operation × Finds) (Place × Finds) (Prefix × Finds) (λ y. (y, expr_forms y)) (λ y. (y, inner_forms y)) (λ y. (y, call_forms y)) (λ y. (y, chain_forms y)) (λ y. (y, formal_forms y)) (λ y. (y, link_forms y)) (λ y. (y, operation_forms y)) (λ y. (y, place_forms y)) (λ y. (y, prefix_forms y)) (record { name = name; index = index; span = span })) known ≡ maybe_forms index known
index_is name None span known = refl
index_is name (Some i) span known = refl

pub place_is : (x : Place) (known : Known) → place_forms x known ≡ maybe_forms (out-Place x).index known
unfolding expr_forms place_forms call_forms operation_forms inner_forms chain_forms formal_forms link_forms prefix_forms
place_is x known = ap (λ y. place_forms y known) (sym (roll-out-Place x)) ∙ (ap (λ (f : Finds). f known) (e.para-roll-Place Finds Finds Finds Finds Finds Finds Finds Finds Finds in_expr in_field in_call in_chain in_formal in_link in_operation in_place in_prefix (out-Place x)) ∙ index_is (out-Place x).name (out-Place x).index (out-Place x).span known)
