-- Each operation of a text stands among its entries, and so does each string of its fields.
use Rattle.std.proofs.Common.{◌≡◌, ap, sym, subst, refl, ℕ, suc, ◌<◌, ◌==◌, Bool, true, false, List, [], ◌∷◌, ◌++◌, map, length, Option, Some, None, arith}
use Rattle.std.proofs.lemmas.Bool.{eq-eqb}
use Rattle.std.specs.Cmp.Lexicographic.{bytes_decides}
use Rattle.std.specs.Prelude.{option_map, if◌then◌else◌}
use Rattle.std.specs.List.{AllByRecursion}
use Rattle.cl_ast.specs.declared.span.Span.{Span}
use Rattle.cl_ast.specs.declared.tree.Literal.{Literal}
use Rattle.cl_ast.specs.declared.tree.Text.{Text as String}
use Rattle.cl_ast.specs.declared.tree.Expr.{Expr}
use Rattle.cl_ast.specs.declared.tree.TypeName.{TypeName}
use Rattle.cl_ast.specs.declared.tree.Expr.TheVariants as exprs
use Rattle.cl_ast.specs.declared.tree.Expr.TheOpen.{Field-F}
use Rattle.cl_ast.specs.declared.tree.Expr.TheViews.{out-Field, outs-Text, outs-Formal, outs-Plain}
use Rattle.cl_ast.specs.declared.tree.Field.{Field}
use Rattle.cl_ast.specs.declared.tree.Field.TheVariants as fields
use Rattle.cl_ast.specs.declared.tree.Place.{Place, out-Place}
use Rattle.cl_ast.specs.declared.tree.Call.{Call, out-Call}
use Rattle.cl_ast.specs.declared.tree.Operation.{Operation, out-Operation}
use Rattle.cl_ast.specs.declared.tree.Formal.{Formal, out-Formal}
use Rattle.cl_ast.specs.declared.tree.Chain.{Chain, out-Chain}
use Rattle.cl_ast.specs.declared.tree.Link.{Link, out-Link}
use Rattle.cl_ast.specs.declared.tree.Prefix.{Prefix, out-Prefix}
use Rattle.cl_ast.specs.declared.tree.Spanned.{Spanned}
use Rattle.cl_ast.specs.declared.statement.Stmt.{Stmt}
use Rattle.cl_ast.specs.declared.statement.Stmt.TheVariants as stmts
use Rattle.cl_ast.specs.declared.statement.Block.{Block, out-Block}
use Rattle.cl_ast.specs.declared.statement.Do.{Do, out-Do}
use Rattle.cl_ast.specs.declared.statement.For.{For, out-For}
use Rattle.cl_ast.specs.declared.statement.If.{If, out-If}
use Rattle.cl_ast.specs.declared.statement.While.{While, out-While}
use Rattle.cl_ast.specs.declared.statement.Variables.{Variables}
use Rattle.cl_ast.specs.declared.statement.Declarator.{Declarator}
use Rattle.cl_ast.specs.declared.statement.Form.{Form}
use Rattle.cl_ast.specs.declared.statement.Form.TheVariants as forms
use Rattle.cl_ast.specs.declared.statement.Assign.{Assign}
use Rattle.cl_ast.specs.declared.statement.Change.{Change}
use Rattle.cl_ast.specs.declared.statement.Change.TheVariants as changes
use Rattle.cl_ast.specs.declared.statement.Print.{Print}
use Rattle.cl_ast.specs.declared.statement.Return.{Return}
use Rattle.cl_ast.specs.declared.statement.Item.{Item}
use Rattle.cl_ast.specs.declared.statement.Item.TheVariants as items
use Rattle.cl_listing.specs.Names.{same_name}
use Rattle.cl_listing.specs.Listing.{Entries, Site, Text, joined, in_expr, in_place, in_call, in_operation, in_maybe, in_change, in_form, in_declarators, in_arguments, in_block, in_items, site_at, is_among, texts_behind, texts_of, text_number}
use Rattle.cl_listing.specs.Listed.{sites_in, has_site}
use Rattle.cl_listing.specs.Walks.{in_field, in_chain, in_link, in_stmt, in_maybe_stmt}
use Rattle.cl_listing.proofs.Rules as listing
use Rattle.cl_listing.proofs.Sentences as entries
use Rattle.cl_types.specs.Declarations.{Known}
use Rattle.cl_types.specs.Findings.{Finding, Forms}
use Rattle.cl_types.specs.Fields.{own_forms, expr_forms, place_forms, call_forms, operation_forms, inner_forms, chain_forms, link_forms}
use Rattle.cl_types.specs.Gathered.{each, maybe_forms}
use Rattle.cl_types.specs.Found.{onward, change_forms, initial_forms, variable_behind, declarator_forms, variables_forms, printed_forms, known_behind, stmt_forms, block_forms, item_forms, item_behind, findings}
use Rattle.cl_types.specs.Adds.{alone_forms, maybe_stmt_forms}
use Rattle.cl_types.specs.Items.{known_first}
use Rattle.cl_types.proofs.Finding as finding
use Rattle.cl_types.proofs.Stating as stating
use Rattle.cl_ast.proofs.Inductions.{ExprGoods, every_expr as inductive_expr, every_place as inductive_place, every_call as inductive_call, every_operation as inductive_operation}
use Rattle.cl_ast.proofs.Inductions.{StmtGoods, every_block as inductive_block}
use Rattle.cl_cases.specs.Listed.{text_rule, OfText, IsListed, EachIsListed}

-- ---- among entries

has_text : List ℕ → Entries → Bool
has_text bytes [] = false
has_text bytes (Site place ∷ more) = has_text bytes more
has_text bytes (Text other ∷ more) = if same_name bytes other then true else has_text bytes more

abbrev HasSite : ℕ → Entries → Type 0
HasSite place es = has_site place es ≡ true

abbrev HasText : Entries → List ℕ → Type 0
HasText es bytes = has_text bytes es ≡ true

site_front : (place : ℕ) (a b : Entries) → HasSite place a → HasSite place (a ++ b)
site_front place [] b h = absurd cc
site_front place (Text bytes ∷ a) b h = site_front place a b h
site_front place (Site other ∷ a) b h = by (place == other) h (λ e. site_front place a b e)
  where
    by : (t : Bool) → (if t then true else has_site place a) ≡ true → (HasSite place a → HasSite place (a ++ b)) → (if t then true else has_site place (a ++ b)) ≡ true
    by true e more = refl
    by false e more = more e

site_back : (place : ℕ) (a b : Entries) → HasSite place b → HasSite place (a ++ b)
site_back place [] b h = h
site_back place (Text bytes ∷ a) b h = site_back place a b h
site_back place (Site other ∷ a) b h = by (place == other) (site_back place a b h)
  where
    by : (t : Bool) → HasSite place (a ++ b) → (if t then true else has_site place (a ++ b)) ≡ true
    by true e = refl
    by false e = e

text_front : (bytes : List ℕ) (a b : Entries) → HasText a bytes → HasText (a ++ b) bytes
unfolding has_text
text_front bytes [] b h = absurd cc
text_front bytes (Site place ∷ a) b h = text_front bytes a b h
text_front bytes (Text other ∷ a) b h = by (same_name bytes other) h (λ e. text_front bytes a b e)
  where
    by : (t : Bool) → (if t then true else has_text bytes a) ≡ true → (HasText a bytes → HasText (a ++ b) bytes) → (if t then true else has_text bytes (a ++ b)) ≡ true
    by true e more = refl
    by false e more = more e

text_back : (bytes : List ℕ) (a b : Entries) → HasText b bytes → HasText (a ++ b) bytes
unfolding has_text
text_back bytes [] b h = h
text_back bytes (Site place ∷ a) b h = text_back bytes a b h
text_back bytes (Text other ∷ a) b h = by (same_name bytes other) (text_back bytes a b h)
  where
    by : (t : Bool) → HasText (a ++ b) bytes → (if t then true else has_text bytes (a ++ b)) ≡ true
    by true e = refl
    by false e = e

of_front : (a b : Entries) (x : Field) → OfText (HasText a) x → OfText (HasText (a ++ b)) x
of_front a b x h = by (out-Field x) h
  where
    by : (y : Field-F Expr Field Call Chain Formal Link Operation Place Prefix) → text_rule (HasText a) y → text_rule (HasText (a ++ b)) y
    by (Field-F.Text t) e = text_front t.bytes a b e
    by (Field-F.Formal f) e = tt
    by (Field-F.Plain f) e = tt

of_back : (a b : Entries) (x : Field) → OfText (HasText b) x → OfText (HasText (a ++ b)) x
of_back a b x h = by (out-Field x) h
  where
    by : (y : Field-F Expr Field Call Chain Formal Link Operation Place Prefix) → text_rule (HasText b) y → text_rule (HasText (a ++ b)) y
    by (Field-F.Text t) e = text_back t.bytes a b e
    by (Field-F.Formal f) e = tt
    by (Field-F.Plain f) e = tt

-- an operation, and the strings of its fields
abbrev Stands : Entries → Operation × List Finding → Type 0
Stands es x = HasSite (out-Operation x.0).span.start es × AllByRecursion (OfText (HasText es)) (out-Operation x.0).fields

-- each of these operations
abbrev Within : Entries → Forms → Type 0
Within es fs = AllByRecursion (Stands es) fs

texts_front : (a b : Entries) (xs : List Field) → AllByRecursion (OfText (HasText a)) xs → AllByRecursion (OfText (HasText (a ++ b))) xs
texts_front a b [] h = tt
texts_front a b (x ∷ xs) h = (of_front a b x h.0, texts_front a b xs h.1)

texts_back : (a b : Entries) (xs : List Field) → AllByRecursion (OfText (HasText b)) xs → AllByRecursion (OfText (HasText (a ++ b))) xs
texts_back a b [] h = tt
texts_back a b (x ∷ xs) h = (of_back a b x h.0, texts_back a b xs h.1)

within_front : (a b : Entries) (fs : Forms) → Within a fs → Within (a ++ b) fs
within_front a b [] h = tt
within_front a b (x ∷ fs) h = ((site_front (out-Operation x.0).span.start a b h.0.0, texts_front a b (out-Operation x.0).fields h.0.1), within_front a b fs h.1)

within_back : (a b : Entries) (fs : Forms) → Within b fs → Within (a ++ b) fs
within_back a b [] h = tt
within_back a b (x ∷ fs) h = ((site_back (out-Operation x.0).span.start a b h.0.0, texts_back a b (out-Operation x.0).fields h.0.1), within_back a b fs h.1)

all_both : (es : Entries) (fs gs : Forms) → Within es fs → Within es gs → Within es (fs ++ gs)
all_both es [] gs h k = k
all_both es (x ∷ fs) gs h k = (h.0, all_both es fs gs h.1 k)

both : (a b : Entries) (fs gs : Forms) → Within a fs → Within b gs → Within (a ++ b) (fs ++ gs)
both a b fs gs h k = all_both (a ++ b) fs gs (within_front a b fs h) (within_back a b gs k)

-- the same entries and the same operations
moved : (a b : Entries) (fs gs : Forms) → a ≡ b → fs ≡ gs → Within b gs → Within a fs
moved a b fs gs same alike h = subst (λ es. Within es fs) (sym same) (subst (Within b) (sym alike) h)

-- ---- expressions

abbrev GoodExpr : Expr → Type 0
GoodExpr x = (known : Known) → Within (in_expr x) (expr_forms x known)

abbrev GoodPlace : Place → Type 0
GoodPlace x = (known : Known) → Within (in_place x) (place_forms x known)

abbrev GoodCall : Call → Type 0
GoodCall x = (known : Known) → Within (in_call x) (call_forms x known)

abbrev GoodOperation : Operation → Type 0
GoodOperation x = (known : Known) → Within (in_operation x) (operation_forms x known)

abbrev GoodField : Field → Type 0
GoodField x = OfText (HasText (in_field x)) x × ((known : Known) → Within (in_field x) (inner_forms x known))

abbrev GoodChain : Chain → Type 0
GoodChain x = (known : Known) → Within (in_chain x) (chain_forms x known)

literal_good : (x : Literal) → GoodExpr (exprs.Literal x)
literal_good x known = moved _ [] _ [] (listing.of_literal x) (finding.of_literal x known) tt

named_good : (x : Place) → GoodPlace x → GoodExpr (exprs.Place x)
named_good x g known = moved _ (in_place x) _ (place_forms x known) (listing.of_place x) (finding.of_place x known) (g known)

called_good : (x : Call) → GoodCall x → GoodExpr (exprs.Call x)
called_good x g known = moved _ (in_call x) _ (call_forms x known) (listing.of_call x) (finding.of_call x known) (g known)

operating_good : (x : Operation) → GoodOperation x → GoodExpr (exprs.Operation x)
operating_good x g known = moved _ (in_operation x) _ (operation_forms x known) (listing.of_operation x) (finding.of_operation x known) (g known)

chained_good : (x : Chain) → GoodChain x → GoodExpr (exprs.Chain x)
chained_good x g known = moved _ (in_chain x) _ (chain_forms x known) (listing.of_chain x) (finding.of_chain x known) (g known)

negate_good : (x : Prefix) → GoodExpr (out-Prefix x).operand → GoodExpr (exprs.Negate x)
negate_good x g known = moved _ (in_expr (out-Prefix x).operand) _ (expr_forms (out-Prefix x).operand known) (listing.of_negate x) (finding.of_negate x known) (g known)

not_good : (x : Prefix) → GoodExpr (out-Prefix x).operand → GoodExpr (exprs.Not x)
not_good x g known = moved _ (in_expr (out-Prefix x).operand) _ (expr_forms (out-Prefix x).operand known) (listing.of_not x) (finding.of_not x known) (g known)

same_bytes : (bytes : List ℕ) → same_name bytes bytes ≡ true
same_bytes bytes = (bytes_decides bytes bytes).1 refl

text_good : (x : String) → GoodField (fields.Text x)
unfolding has_text
text_good x = (
  subst (text_rule (HasText (in_field (fields.Text x)))) (sym (outs-Text x)) (subst (λ es. HasText es x.bytes) (sym (listing.of_text x)) (ap (λ b. if b then true else false) (same_bytes x.bytes))),
  λ known. moved _ (Text x.bytes ∷ []) _ [] (listing.of_text x) (finding.of_text x known) tt,
)

formal_good : (x : Formal) → GoodPlace (out-Formal x).target → GoodField (fields.Formal x)
formal_good x g = (
  subst (text_rule (HasText (in_field (fields.Formal x)))) (sym (outs-Formal x)) tt,
  λ known. moved _ (in_place (out-Formal x).target) _ (place_forms (out-Formal x).target known) (listing.of_formal x) (finding.of_formal x known) (g known),
)

plain_good : (x : Expr) → GoodExpr x → GoodField (fields.Plain x)
plain_good x g = (
  subst (text_rule (HasText (in_field (fields.Plain x)))) (sym (outs-Plain x)) tt,
  λ known. moved _ (in_expr x) _ (expr_forms x known) (listing.of_plain x) (finding.of_plain x known) (g known),
)

maybe_within : (index : Option ((x : Expr) × GoodExpr x)) (known : Known) → Within (in_maybe (option_map (λ y. y.0) index)) (maybe_forms (option_map (λ y. y.0) index) known)
maybe_within None known = tt
maybe_within (Some y) known = y.1 known

place_good : (x : Place) (index : Option ((y : Expr) × GoodExpr y)) → option_map (λ y. y.0) index ≡ (out-Place x).index → GoodPlace x
place_good x index h known = moved _ (in_maybe (out-Place x).index) _ (maybe_forms (out-Place x).index known) (listing.place_is x) (finding.place_is x known)
    (subst (λ (i : Option Expr). Within (in_maybe i) (maybe_forms i known)) h (maybe_within index known))

exprs_within : (ys : List ((x : Expr) × GoodExpr x)) (known : Known) → Within (joined (map in_expr (map (λ y. y.0) ys))) (each expr_forms (map (λ y. y.0) ys) known)
exprs_within [] known = tt
exprs_within (y ∷ ys) known = let rest = map (λ (z : (x : Expr) × GoodExpr x). z.0) ys in both (in_expr y.0) (joined (map in_expr rest)) (expr_forms y.0 known) (each expr_forms rest known) (y.1 known) (exprs_within ys known)

call_good : (x : Call) (ys : List ((y : Expr) × GoodExpr y)) → map (λ y. y.0) ys ≡ (out-Call x).arguments → GoodCall x
call_good x ys h known = moved _ (joined (map in_expr (out-Call x).arguments)) _ (each expr_forms (out-Call x).arguments known) (listing.call_is x) (finding.call_is x known)
    (subst (λ (es : List Expr). Within (joined (map in_expr es)) (each expr_forms es known)) h (exprs_within ys known))

fields_within : (ys : List ((x : Field) × GoodField x)) (known : Known) → Within (joined (map in_field (map (λ y. y.0) ys))) (each inner_forms (map (λ y. y.0) ys) known)
fields_within [] known = tt
fields_within (y ∷ ys) known = let rest = map (λ (z : (x : Field) × GoodField x). z.0) ys in both (in_field y.0) (joined (map in_field rest)) (inner_forms y.0 known) (each inner_forms rest known) (y.1.1 known) (fields_within ys known)

fields_texts : (ys : List ((x : Field) × GoodField x)) → AllByRecursion (OfText (HasText (joined (map in_field (map (λ y. y.0) ys))))) (map (λ y. y.0) ys)
fields_texts [] = tt
fields_texts (y ∷ ys) =
    let rest = map (λ (z : (x : Field) × GoodField x). z.0) ys in
    (of_front (in_field y.0) (joined (map in_field rest)) y.0 y.1.0, texts_back (in_field y.0) (joined (map in_field rest)) rest (fields_texts ys))

operation_good : (x : Operation) (ys : List ((y : Field) × GoodField y)) → map (λ y. y.0) ys ≡ (out-Operation x).fields → GoodOperation x
operation_good x ys h known =
    let at = (out-Operation x).span.start in
    let xs = (out-Operation x).fields in
    let more = joined (map in_field xs) in
    let all = subst (λ (fs : List Field). Within (joined (map in_field fs)) (each inner_forms fs known)) h (fields_within ys known) in
    let texts = subst (λ (fs : List Field). AllByRecursion (OfText (HasText (joined (map in_field fs)))) fs) h (fields_texts ys) in
    let here : HasSite at (Site at ∷ more) = ap (λ b. if b then true else has_site at more) (eq-eqb at at refl) in
    moved _ (Site at ∷ more) _ ((x, own_forms xs known) ∷ each inner_forms xs known) (listing.operation_is x) (finding.operation_is x known)
    ((here, texts_back (Site at ∷ []) more xs texts), within_back (Site at ∷ []) more (each inner_forms xs known) all)

links_within : (ys : List ((l : Link) × GoodExpr (out-Link l).operand)) (known : Known) → Within (joined (map in_link (map (λ y. y.0) ys))) (each link_forms (map (λ y. y.0) ys) known)
links_within [] known = tt
links_within (y ∷ ys) known =
    let rest = map (λ (z : (l : Link) × GoodExpr (out-Link l).operand). z.0) ys in
    let own = moved _ (in_expr (out-Link y.0).operand) _ (expr_forms (out-Link y.0).operand known) (listing.link_is y.0) (finding.link_is y.0 known) (y.1 known) in
    both (in_link y.0) (joined (map in_link rest)) (link_forms y.0 known) (each link_forms rest known) own (links_within ys known)

chain_good : (x : Chain) → GoodExpr (out-Chain x).first → (ys : List ((l : Link) × GoodExpr (out-Link l).operand)) → map (λ y. y.0) ys ≡ (out-Chain x).others → GoodChain x
chain_good x g ys h known =
    let first = (out-Chain x).first in
    let others = (out-Chain x).others in
    moved _ (in_expr first ++ joined (map in_link others)) _ (expr_forms first known ++ each link_forms others known) (listing.chain_is x) (finding.chain_is x known)
    (both (in_expr first) (joined (map in_link others)) (expr_forms first known) (each link_forms others known) (g known) (subst (λ (ls : List Link). Within (joined (map in_link ls)) (each link_forms ls known)) h (links_within ys known)))

goods : ExprGoods GoodExpr GoodField GoodCall GoodChain GoodOperation GoodPlace
goods = record { literal = literal_good; named = named_good; called = called_good; operating = operating_good; chained = chained_good; negated = negate_good; denied = not_good; text = text_good; formal = formal_good; plain = plain_good; place = place_good; call = call_good; operation = operation_good; chain = chain_good }

every_expr : (x : Expr) → GoodExpr x
every_expr = inductive_expr goods

every_place : (x : Place) → GoodPlace x
every_place = inductive_place goods

every_call : (x : Call) → GoodCall x
every_call = inductive_call goods

every_operation : (x : Operation) → GoodOperation x
every_operation = inductive_operation goods

-- ---- statements

maybe_expr : (x : Option Expr) (known : Known) → Within (in_maybe x) (maybe_forms x known)
maybe_expr None known = tt
maybe_expr (Some x) known = every_expr x known

change_within : (x : Change) (known : Known) → Within (in_change x) (change_forms x known)
change_within (changes.Set e) known = every_expr e known
change_within (changes.Add e) known = every_expr e known
change_within (changes.Subtract e) known = every_expr e known
change_within (changes.Multiply e) known = every_expr e known
change_within changes.Increment known = tt
change_within changes.Decrement known = tt

form_within : (x : Form) (known : Known) → Within (in_form x) (initial_forms x known)
form_within forms.Bare known = tt
form_within (forms.Array size) known = tt
form_within (forms.Value x) known = every_expr x.expr known

declarators_within : (t : TypeName) (ds : List Declarator) (known : Known) → Within (in_declarators ds) (onward declarator_forms (variable_behind t) ds known)
declarators_within t [] known = tt
declarators_within t (d ∷ ds) known =
    let next = variable_behind t d known in
    both (in_form d.form) (in_declarators ds) (initial_forms d.form known) (onward declarator_forms (variable_behind t) ds next) (form_within d.form known) (declarators_within t ds next)

printed_within : (xs : List Spanned) (known : Known) → Within (in_arguments xs) (printed_forms xs known)
printed_within [] known = tt
printed_within (x ∷ xs) known = both (in_expr x.expr) (in_arguments xs) (expr_forms x.expr known) (printed_forms xs known) (every_expr x.expr known) (printed_within xs known)

abbrev GoodStmt : Stmt → Type 0
GoodStmt x = (known : Known) → Within (in_stmt x) (stmt_forms x known)

abbrev GoodBlock : Block → Type 0
GoodBlock x = (known : Known) → Within (in_block x) (block_forms x known)

block_good : (x : Block) → GoodBlock x → GoodStmt (stmts.Block x)
block_good x g known = moved _ (in_block x) _ _ (entries.of_block x) (stating.of_block x known) (g _)

empty_good : (x : Span) → GoodStmt (stmts.Empty x)
empty_good x known = moved _ [] _ [] (entries.of_empty x) (stating.of_empty x known) tt

variables_good : (x : Variables) → GoodStmt (stmts.Variables x)
variables_good x known = moved _ (in_declarators x.declarators) _ (variables_forms x known) (entries.of_variables x) (stating.of_variables x known) (declarators_within x.type_name x.declarators known)

assign_good : (x : Assign) → GoodStmt (stmts.Assign x)
assign_good x known = moved _ (in_place x.place ++ in_change x.change) _ (place_forms x.place known ++ change_forms x.change known) (entries.of_assign x) (stating.of_assign x known)
    (both (in_place x.place) (in_change x.change) (place_forms x.place known) (change_forms x.change known) (every_place x.place known) (change_within x.change known))

call_stmt_good : (x : Call) → GoodStmt (stmts.Call x)
call_stmt_good x known = moved _ (in_call x) _ (call_forms x known) (entries.of_call x) (stating.of_call x known) (every_call x known)

operation_stmt_good : (x : Operation) → GoodStmt (stmts.Operation x)
operation_stmt_good x known = moved _ (in_operation x) _ (operation_forms x known) (entries.of_operation x) (stating.of_operation x known) (every_operation x known)

print_good : (x : Print) → GoodStmt (stmts.Print x)
print_good x known = moved _ (in_arguments x.arguments) _ (printed_forms x.arguments known) (entries.of_print x) (stating.of_print x known) (printed_within x.arguments known)

break_good : (x : Span) → GoodStmt (stmts.Break x)
break_good x known = moved _ [] _ [] (entries.of_break x) (stating.of_break x known) tt

continue_good : (x : Span) → GoodStmt (stmts.Continue x)
continue_good x known = moved _ [] _ [] (entries.of_continue x) (stating.of_continue x known) tt

return_good : (x : Return) → GoodStmt (stmts.Return x)
return_good x known = moved _ (in_maybe x.value) _ (maybe_forms x.value known) (entries.of_return x) (stating.of_return x known) (maybe_expr x.value known)

maybe_stmt_within : (y : Option ((x : Stmt) × GoodStmt x)) (known : Known) → Within (in_maybe_stmt (option_map (λ z. z.0) y)) (maybe_stmt_forms (option_map (λ z. z.0) y) known)
maybe_stmt_within None known = tt
maybe_stmt_within (Some y) known = y.1 _

abbrev MaybeWithin : Known → Option Stmt → Type 0
MaybeWithin known y = Within (in_maybe_stmt y) (maybe_stmt_forms y known)

if_good : (x : If) → GoodStmt (out-If x).yes → (otherwise : Option ((y : Stmt) × GoodStmt y)) → option_map (λ z. z.0) otherwise ≡ (out-If x).no → GoodStmt (stmts.If x)
if_good x g otherwise h known =
    let test = (out-If x).test in
    let yes = (out-If x).yes in
    let other = (out-If x).no in
    moved _ (in_expr test ++ (in_stmt yes ++ in_maybe_stmt other)) _ (expr_forms test known ++ (alone_forms yes known ++ maybe_stmt_forms other known)) (entries.of_if x) (stating.of_if x known)
    (both (in_expr test) (in_stmt yes ++ in_maybe_stmt other) (expr_forms test known) (alone_forms yes known ++ maybe_stmt_forms other known) (every_expr test known)
    (both (in_stmt yes) (in_maybe_stmt other) (alone_forms yes known) (maybe_stmt_forms other known) (g _) (subst (MaybeWithin known) h (maybe_stmt_within otherwise known))))

while_good : (x : While) → GoodStmt (out-While x).body → GoodStmt (stmts.While x)
while_good x g known =
    let test = (out-While x).test in
    let body = (out-While x).body in
    moved _ (in_expr test ++ in_stmt body) _ (expr_forms test known ++ alone_forms body known) (entries.of_while x) (stating.of_while x known)
    (both (in_expr test) (in_stmt body) (expr_forms test known) (alone_forms body known) (every_expr test known) (g _))

do_good : (x : Do) → GoodStmt (out-Do x).body → GoodStmt (stmts.Do x)
do_good x g known =
    let test = (out-Do x).test in
    let body = (out-Do x).body in
    moved _ (in_stmt body ++ in_expr test) _ (alone_forms body known ++ expr_forms test known) (entries.of_do x) (stating.of_do x known)
    (both (in_stmt body) (in_expr test) (alone_forms body known) (expr_forms test known) (g _) (every_expr test known))

for_good : (x : For) (first : Option ((y : Stmt) × GoodStmt y)) → option_map (λ z. z.0) first ≡ (out-For x).first → (step : Option ((y : Stmt) × GoodStmt y)) → option_map (λ z. z.0) step ≡ (out-For x).step → GoodStmt (out-For x).body →
    GoodStmt (stmts.For x)
for_good x first hf step hs g known =
    let a = (out-For x).first in
    let test = (out-For x).test in
    let b = (out-For x).step in
    let body = (out-For x).body in
    let last = both (in_maybe_stmt b) (in_stmt body) (maybe_stmt_forms b known) (alone_forms body known) (subst (MaybeWithin known) hs (maybe_stmt_within step known)) (g _) in
    moved _ (in_maybe_stmt a ++ (in_maybe test ++ (in_maybe_stmt b ++ in_stmt body))) _ (maybe_stmt_forms a known ++ (maybe_forms test known ++ (maybe_stmt_forms b known ++ alone_forms body known))) (entries.of_for x) (stating.of_for x known)
    (both (in_maybe_stmt a) (in_maybe test ++ (in_maybe_stmt b ++ in_stmt body)) (maybe_stmt_forms a known) (maybe_forms test known ++ (maybe_stmt_forms b known ++ alone_forms body known)) (subst (MaybeWithin known) hf (maybe_stmt_within first known))
    (both (in_maybe test) (in_maybe_stmt b ++ in_stmt body) (maybe_forms test known) (maybe_stmt_forms b known ++ alone_forms body known) (maybe_expr test known) last))

stmts_within : (ys : List ((x : Stmt) × GoodStmt x)) (known : Known) → Within (joined (map in_stmt (map (λ y. y.0) ys))) (onward stmt_forms known_behind (map (λ y. y.0) ys) known)
stmts_within [] known = tt
stmts_within (y ∷ ys) known =
    let rest = map (λ (z : (x : Stmt) × GoodStmt x). z.0) ys in
    let next = known_behind y.0 known in both (in_stmt y.0) (joined (map in_stmt rest)) (stmt_forms y.0 known) (onward stmt_forms known_behind rest next) (y.1 known) (stmts_within ys next)

statements_good : (x : Block) (ys : List ((y : Stmt) × GoodStmt y)) → map (λ y. y.0) ys ≡ (out-Block x).statements → GoodBlock x
statements_good x ys h known = moved _ (joined (map in_stmt (out-Block x).statements)) _ (onward stmt_forms known_behind (out-Block x).statements known) (entries.block_is x) (stating.block_is x known)
    (subst (λ (xs : List Stmt). Within (joined (map in_stmt xs)) (onward stmt_forms known_behind xs known)) h (stmts_within ys known))

statement_goods : StmtGoods GoodStmt GoodBlock
statement_goods = record { block = block_good; empty = empty_good; variables = variables_good; assign = assign_good; call = call_stmt_good; operation = operation_stmt_good; print = print_good; break = break_good; continue = continue_good; return = return_good; choice = if_good; while_loop = while_good; do_loop = do_good; for_loop = for_good; statements = statements_good }

every_block : (x : Block) → GoodBlock x
every_block = inductive_block statement_goods

-- ---- texts

items_within : (xs : List Item) (known : Known) → Within (in_items xs) (onward item_forms item_behind xs known)
items_within [] known = tt
items_within (items.Define d ∷ xs) known = items_within xs (item_behind (items.Define d) known)
items_within (items.Variables v ∷ xs) known =
    let next = item_behind (items.Variables v) known in
    both (in_declarators v.declarators) (in_items xs) (variables_forms v known) (onward item_forms item_behind xs next) (declarators_within v.type_name v.declarators known) (items_within xs next)
items_within (items.Function f ∷ xs) known =
    let next = item_behind (items.Function f) known in
    both (in_block f.body) (in_items xs) (item_forms (items.Function f) known) (onward item_forms item_behind xs next) (every_block f.body _) (items_within xs next)

-- ---- numbers

more_sites : (b : Bool) (n m : ℕ) → (b ≡ false → n < m) → (if b then 0 else suc n) < suc m
more_sites true n m h = omega arith
more_sites false n m h = let k = h refl in omega (arith, k)

site_listed : (place : ℕ) (es : Entries) → HasSite place es → site_at place es < length (sites_in es)
site_listed place [] h = absurd cc
site_listed place (Text bytes ∷ es) h = site_listed place es h
site_listed place (Site other ∷ es) h = more_sites (place == other) (site_at place es) (length (sites_in es)) (λ e. site_listed place es (by (place == other) e h))
  where
    by : (b : Bool) → b ≡ false → (if b then true else has_site place es) ≡ true → has_site place es ≡ true
    by true e k = absurd cc
    by false e k = k

number_listed : (bytes : List ℕ) (texts : List (List ℕ)) → is_among bytes texts ≡ true → text_number bytes texts < length texts
number_listed bytes [] h = absurd cc
number_listed bytes (x ∷ xs) h = more_sites (same_name bytes x) (text_number bytes xs) (length xs) (λ e. number_listed bytes xs (by (same_name bytes x) e h))
  where
    by : (b : Bool) → b ≡ false → (if b then true else is_among bytes xs) ≡ true → is_among bytes xs ≡ true
    by true e k = absurd cc
    by false e k = k

among_front : (bytes : List ℕ) (xs ys : List (List ℕ)) → is_among bytes xs ≡ true → is_among bytes (xs ++ ys) ≡ true
among_front bytes [] ys h = absurd cc
among_front bytes (x ∷ xs) ys h = by (same_name bytes x) h (λ e. among_front bytes xs ys e)
  where
    by : (b : Bool) → (if b then true else is_among bytes xs) ≡ true → (is_among bytes xs ≡ true → is_among bytes (xs ++ ys) ≡ true) → (if b then true else is_among bytes (xs ++ ys)) ≡ true
    by true e more = refl
    by false e more = more e

among_last : (bytes : List ℕ) (xs : List (List ℕ)) → is_among bytes (xs ++ bytes ∷ []) ≡ true
among_last bytes [] = ap (λ b. if b then true else false) (same_bytes bytes)
among_last bytes (x ∷ xs) = by (same_name bytes x) (among_last bytes xs)
  where
    by : (b : Bool) → is_among bytes (xs ++ bytes ∷ []) ≡ true → (if b then true else is_among bytes (xs ++ bytes ∷ [])) ≡ true
    by true e = refl
    by false e = e

-- what is there stays there
among_stays : (bytes : List ℕ) (known : List (List ℕ)) (es : Entries) → is_among bytes known ≡ true → is_among bytes (texts_behind known es) ≡ true
among_stays bytes known [] h = h
among_stays bytes known (Site place ∷ es) h = among_stays bytes known es h
among_stays bytes known (Text other ∷ es) h = among_stays bytes (if is_among other known then known else known ++ other ∷ []) es (by (is_among other known))
  where
    by : (b : Bool) → is_among bytes (if b then known else known ++ other ∷ []) ≡ true
    by true = h
    by false = among_front bytes known (other ∷ []) h

text_listed : (bytes : List ℕ) (known : List (List ℕ)) (es : Entries) → HasText es bytes → is_among bytes (texts_behind known es) ≡ true
unfolding has_text
text_listed bytes known [] h = absurd cc
text_listed bytes known (Site place ∷ es) h = text_listed bytes known es h
text_listed bytes known (Text other ∷ es) h = by (same_name bytes other) refl h (λ e. text_listed bytes (if is_among other known then known else known ++ other ∷ []) es e)
  where
    now : List (List ℕ)
    now = if is_among other known then known else known ++ other ∷ []

    there : (b : Bool) → is_among other known ≡ b → is_among other (if b then known else known ++ other ∷ []) ≡ true
    there true is = is
    there false is = among_last other known

    by : (t : Bool) → same_name bytes other ≡ t → (if t then true else has_text bytes es) ≡ true → (HasText es bytes → is_among bytes (texts_behind now es) ≡ true) → is_among bytes (texts_behind now es) ≡ true
    by true same e more = among_stays bytes now es (subst (λ n. is_among n now ≡ true) (sym ((bytes_decides bytes other).0 same)) (there (is_among other known) refl))
    by false same e more = more e

module _ (xs : List Item) where
  abbrev Numbered : List ℕ → Type 0
  Numbered bytes = text_number bytes (texts_of xs) < length (texts_of xs)

  field_listed : (x : Field) → OfText (HasText (in_items xs)) x → OfText Numbered x
  field_listed x h = by (out-Field x) h
    where
      by : (y : Field-F Expr Field Call Chain Formal Link Operation Place Prefix) → text_rule (HasText (in_items xs)) y → text_rule Numbered y
      by (Field-F.Text t) e = number_listed t.bytes (texts_of xs) (text_listed t.bytes [] (in_items xs) e)
      by (Field-F.Formal f) e = tt
      by (Field-F.Plain f) e = tt

  fields_listed : (fs : List Field) → AllByRecursion (OfText (HasText (in_items xs))) fs → AllByRecursion (OfText Numbered) fs
  fields_listed [] h = tt
  fields_listed (x ∷ fs) h = (field_listed x h.0, fields_listed fs h.1)

  all_listed : (fs : Forms) → Within (in_items xs) fs → AllByRecursion (IsListed xs) fs
  all_listed [] h = tt
  all_listed (x ∷ fs) h = ((site_listed (out-Operation x.0).span.start (in_items xs) h.0.0, fields_listed (out-Operation x.0).fields h.0.1), all_listed fs h.1)

pub each_is_listed : EachIsListed
each_is_listed xs = all_listed xs (findings xs) (items_within xs (known_first xs))
