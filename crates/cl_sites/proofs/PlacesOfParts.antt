-- Where operations stand, as it is told with their fields and as it is listed: the two agree on an expression where they agree on its parts.
use Rattle.std.proofs.Common.{ℕ, ◌≡◌, ◌∙◌, ap, sym, refl, subst, List, [], ◌∷◌, ◌++◌, map, Option, Some, None}
use Rattle.std.specs.Prelude.{option_map}
use Rattle.std.proofs.lemmas.List.{map-append}
use Rattle.cl_ast.specs.declared.tree.Literal.{Literal}
use Rattle.cl_ast.specs.declared.tree.Text.{Text}
use Rattle.cl_ast.specs.declared.tree.Expr.{Expr}
use Rattle.cl_ast.specs.declared.tree.Expr.TheVariants as exprs
use Rattle.cl_ast.specs.declared.tree.Place.{Place, out-Place}
use Rattle.cl_ast.specs.declared.tree.Call.{Call, out-Call}
use Rattle.cl_ast.specs.declared.tree.Operation.{Operation, out-Operation}
use Rattle.cl_ast.specs.declared.tree.Field.{Field}
use Rattle.cl_ast.specs.declared.tree.Field.TheVariants as fields
use Rattle.cl_ast.specs.declared.tree.Formal.{Formal, out-Formal}
use Rattle.cl_ast.specs.declared.tree.Chain.{Chain, out-Chain}
use Rattle.cl_ast.specs.declared.tree.Link.{Link, out-Link}
use Rattle.cl_ast.specs.declared.tree.Prefix.{Prefix, out-Prefix}
use Rattle.cl_ast.proofs.Inductions.{ExprGoods, every_expr as inductive_expr, every_place as inductive_place, every_call as inductive_call, every_operation as inductive_operation}
use Rattle.cl_listing.specs.Listing.{Entries, joined, in_expr, in_place, in_call, in_operation, in_maybe}
use Rattle.cl_listing.specs.Listing as listing
use Rattle.cl_listing.specs.Listed.{sites_in}
use Rattle.cl_listing.specs.Walks.{in_field, in_chain, in_link}
use Rattle.cl_listing.proofs.Rules as rules
use Rattle.cl_types.specs.Declarations.{Known}
use Rattle.cl_types.specs.Findings.{Finding, Forms}
use Rattle.cl_types.specs.Fields.{expr_forms, place_forms, call_forms, operation_forms, inner_forms, chain_forms, link_forms}
use Rattle.cl_types.specs.Gathered.{each, maybe_forms}
use Rattle.cl_types.proofs.Finding as finding

abbrev pub place_of : Operation × List Finding → ℕ
place_of x = (out-Operation x.0).span.start

-- the same operations, by their places
abbrev pub Same : Forms → Entries → Type 0
Same fs es = map place_of fs ≡ sites_in es

sites_append : (es hs : Entries) → sites_in (es ++ hs) ≡ sites_in es ++ sites_in hs
sites_append [] hs = refl
sites_append (listing.Site place ∷ es) hs = ap (λ ps. place ∷ ps) (sites_append es hs)
sites_append (listing.Text bytes ∷ es) hs = sites_append es hs

pub both : (fs gs : Forms) (es hs : Entries) → Same fs es → Same gs hs → Same (fs ++ gs) (es ++ hs)
both fs gs es hs f g = let left = map-append place_of fs gs in let right = sites_append es hs in cc

pub same_is : (fs fs' : Forms) (es es' : Entries) → fs ≡ fs' → es ≡ es' → Same fs' es' → Same fs es
same_is fs fs' es es' hf he g = ap (map place_of) hf ∙ (g ∙ sym (ap sites_in he))

-- ---- what is shown of each form

abbrev pub GoodExpr : Expr → Type 0
GoodExpr x = (known : Known) → Same (expr_forms x known) (in_expr x)

abbrev pub GoodField : Field → Type 0
GoodField x = (known : Known) → Same (inner_forms x known) (in_field x)

abbrev pub GoodCall : Call → Type 0
GoodCall x = (known : Known) → Same (call_forms x known) (in_call x)

abbrev pub GoodChain : Chain → Type 0
GoodChain x = (known : Known) → Same (chain_forms x known) (in_chain x)

abbrev pub GoodOperation : Operation → Type 0
GoodOperation x = (known : Known) → Same (operation_forms x known) (in_operation x)

abbrev pub GoodPlace : Place → Type 0
GoodPlace x = (known : Known) → Same (place_forms x known) (in_place x)

abbrev pub GoodFormal : Formal → Type 0
GoodFormal x = GoodPlace (out-Formal x).target

abbrev pub GoodLink : Link → Type 0
GoodLink x = GoodExpr (out-Link x).operand

abbrev pub GoodPrefix : Prefix → Type 0
GoodPrefix x = GoodExpr (out-Prefix x).operand

-- ---- the forms of an expression and of a field

good_literal : (x : Literal) → GoodExpr (exprs.Literal x)
good_literal x known = same_is _ [] _ [] (finding.of_literal x known) (rules.of_literal x) refl

good_place : (x : Place) → GoodPlace x → GoodExpr (exprs.Place x)
good_place x g known = same_is _ _ _ _ (finding.of_place x known) (rules.of_place x) (g known)

good_call : (x : Call) → GoodCall x → GoodExpr (exprs.Call x)
good_call x g known = same_is _ _ _ _ (finding.of_call x known) (rules.of_call x) (g known)

good_operation : (x : Operation) → GoodOperation x → GoodExpr (exprs.Operation x)
good_operation x g known = same_is _ _ _ _ (finding.of_operation x known) (rules.of_operation x) (g known)

good_chain : (x : Chain) → GoodChain x → GoodExpr (exprs.Chain x)
good_chain x g known = same_is _ _ _ _ (finding.of_chain x known) (rules.of_chain x) (g known)

good_negate : (x : Prefix) → GoodPrefix x → GoodExpr (exprs.Negate x)
good_negate x g known = same_is _ _ _ _ (finding.of_negate x known) (rules.of_negate x) (g known)

good_not : (x : Prefix) → GoodPrefix x → GoodExpr (exprs.Not x)
good_not x g known = same_is _ _ _ _ (finding.of_not x known) (rules.of_not x) (g known)

good_text : (x : Text) → GoodField (fields.Text x)
good_text x known = same_is _ [] _ (listing.Text x.bytes ∷ []) (finding.of_text x known) (rules.of_text x) refl

good_formal : (x : Formal) → GoodFormal x → GoodField (fields.Formal x)
good_formal x g known = same_is _ _ _ _ (finding.of_formal x known) (rules.of_formal x) (g known)

good_plain : (x : Expr) → GoodExpr x → GoodField (fields.Plain x)
good_plain x g known = same_is _ _ _ _ (finding.of_plain x known) (rules.of_plain x) (g known)

-- ---- parts in their order

good_index : (i : Option ((x : Expr) × GoodExpr x)) (known : Known) → Same (maybe_forms (option_map (λ y. y.0) i) known) (in_maybe (option_map (λ y. y.0) i))
good_index None known = refl
good_index (Some x) known = x.1 known

place_good : (p : Place) (index : Option ((x : Expr) × GoodExpr x)) → option_map (λ y. y.0) index ≡ (out-Place p).index → GoodPlace p
place_good p index h known =
    let P : Option Expr → Type 0 = λ i. Same (maybe_forms i known) (in_maybe i) in
    same_is _ _ _ _ (finding.place_is p known) (rules.place_is p) (subst P h (good_index index known))

good_exprs : (ys : List ((x : Expr) × GoodExpr x)) (known : Known) → Same (each expr_forms (map (λ y. y.0) ys) known) (joined (map in_expr (map (λ y. y.0) ys)))
good_exprs [] known = refl
good_exprs (y ∷ ys) known = both (expr_forms y.0 known) (each expr_forms (map (λ z. z.0) ys) known) (in_expr y.0) (joined (map in_expr (map (λ z. z.0) ys))) (y.1 known) (good_exprs ys known)

call_good : (x : Call) (ys : List ((e : Expr) × GoodExpr e)) → map (λ y. y.0) ys ≡ (out-Call x).arguments → GoodCall x
call_good x ys h known =
    let P : List Expr → Type 0 = λ es. Same (each expr_forms es known) (joined (map in_expr es)) in
    same_is _ _ _ _ (finding.call_is x known) (rules.call_is x) (subst P h (good_exprs ys known))

good_fields : (ys : List ((x : Field) × GoodField x)) (known : Known) → Same (each inner_forms (map (λ y. y.0) ys) known) (joined (map in_field (map (λ y. y.0) ys)))
good_fields [] known = refl
good_fields (y ∷ ys) known = both (inner_forms y.0 known) (each inner_forms (map (λ z. z.0) ys) known) (in_field y.0) (joined (map in_field (map (λ z. z.0) ys))) (y.1 known) (good_fields ys known)

operation_good : (o : Operation) (ys : List ((x : Field) × GoodField x)) → map (λ y. y.0) ys ≡ (out-Operation o).fields → GoodOperation o
operation_good o ys h known =
    let P : List Field → Type 0 = λ gs. Same (each inner_forms gs known) (joined (map in_field gs)) in
    let inner = subst P h (good_fields ys known) in
    same_is _ _ _ _ (finding.operation_is o known) (rules.operation_is o) (ap (λ ps. (out-Operation o).span.start ∷ ps) inner)

good_link : (x : Link) → GoodLink x → (known : Known) → Same (link_forms x known) (in_link x)
good_link x g known = same_is _ _ _ _ (finding.link_is x known) (rules.link_is x) (g known)

good_links : (ys : List ((x : Link) × GoodLink x)) (known : Known) → Same (each link_forms (map (λ y. y.0) ys) known) (joined (map in_link (map (λ y. y.0) ys)))
good_links [] known = refl
good_links (y ∷ ys) known = both (link_forms y.0 known) (each link_forms (map (λ z. z.0) ys) known) (in_link y.0) (joined (map in_link (map (λ z. z.0) ys))) (good_link y.0 y.1 known) (good_links ys known)

chain_good : (h : Chain) → GoodExpr (out-Chain h).first → (ys : List ((x : Link) × GoodLink x)) → map (λ y. y.0) ys ≡ (out-Chain h).others → GoodChain h
chain_good h g ys e known =
    let first = (out-Chain h).first in
    let P : List Link → Type 0 = λ ls. Same (expr_forms first known ++ each link_forms ls known) (in_expr first ++ joined (map in_link ls)) in
    let ls = map (λ y. y.0) ys in
    same_is _ _ _ _ (finding.chain_is h known) (rules.chain_is h)
    (subst P e (both (expr_forms first known) (each link_forms ls known) (in_expr first) (joined (map in_link ls)) (g known) (good_links ys known)))

-- ---- every expression

goods : ExprGoods GoodExpr GoodField GoodCall GoodChain GoodOperation GoodPlace
goods = record { literal = good_literal; named = good_place; called = good_call; operating = good_operation; chained = good_chain; negated = good_negate; denied = good_not; text = good_text; formal = good_formal; plain = good_plain; place = place_good; call = call_good; operation = operation_good; chain = chain_good }

pub every_expr : (x : Expr) → GoodExpr x
every_expr = inductive_expr goods

pub every_place : (x : Place) → GoodPlace x
every_place = inductive_place goods

pub every_call : (x : Call) → GoodCall x
every_call = inductive_call goods

pub every_operation : (x : Operation) → GoodOperation x
every_operation = inductive_operation goods
