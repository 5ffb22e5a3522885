-- Induction on expressions and on statements: what holds of each form where it holds of its parts.
use Rattle.std.proofs.Common.{◌≡◌, ◌∙◌, ap, sym, refl, subst, List, map, Option, Some, None, option_map}
use Rattle.cl_ast.specs.declared.span.Span.{Span}
use Rattle.cl_ast.specs.declared.tree.Name.{Name}
use Rattle.cl_ast.specs.declared.tree.Literal.{Literal}
use Rattle.cl_ast.specs.declared.tree.Text.{Text}
use Rattle.cl_ast.specs.declared.tree.Expr.{Expr}
use Rattle.cl_ast.specs.declared.tree.Expr.TheVariants as exprs
use Rattle.cl_ast.specs.declared.tree.Field.{Field}
use Rattle.cl_ast.specs.declared.tree.Field.TheVariants as fields
use Rattle.cl_ast.specs.declared.tree.Call.{Call, out-Call}
use Rattle.cl_ast.specs.declared.tree.Chain.{Chain, out-Chain}
use Rattle.cl_ast.specs.declared.tree.Formal.{Formal, out-Formal}
use Rattle.cl_ast.specs.declared.tree.Link.{Link, out-Link}
use Rattle.cl_ast.specs.declared.tree.Operation.{Operation, out-Operation}
use Rattle.cl_ast.specs.declared.tree.Place.{Place, out-Place}
use Rattle.cl_ast.specs.declared.tree.Prefix.{Prefix, out-Prefix}
use Rattle.cl_ast.specs.declared.tree.Expr.TheOpen.{Expr-F, Field-F, Call-F, Chain-F, Formal-F, Link-F, Operation-F, Place-F, Prefix-F}
use Rattle.cl_ast.specs.declared.tree.Expr.TheViews.{roll-Expr, roll-Field, roll-Call, roll-Chain, roll-Formal, roll-Link, roll-Operation, roll-Place, roll-Prefix, out-roll-Call, out-roll-Chain, out-roll-Formal, out-roll-Link, out-roll-Operation, out-roll-Place, out-roll-Prefix}
use Rattle.cl_ast.specs.declared.tree.Expr.TheFolds as e
use Rattle.cl_ast.specs.declared.statement.Stmt.{Stmt}
use Rattle.cl_ast.specs.declared.statement.Stmt.TheVariants as stmts
use Rattle.cl_ast.specs.declared.statement.Block.{Block, out-Block}
use Rattle.cl_ast.specs.declared.statement.Do.{Do, out-Do}
use Rattle.cl_ast.specs.declared.statement.For.{For, out-For}
use Rattle.cl_ast.specs.declared.statement.If.{If, out-If}
use Rattle.cl_ast.specs.declared.statement.While.{While, out-While}
use Rattle.cl_ast.specs.declared.statement.Variables.{Variables}
use Rattle.cl_ast.specs.declared.statement.Assign.{Assign}
use Rattle.cl_ast.specs.declared.statement.Print.{Print}
use Rattle.cl_ast.specs.declared.statement.Return.{Return}
use Rattle.cl_ast.specs.declared.statement.Stmt.TheOpen.{Stmt-F, Block-F, Do-F, For-F, If-F, While-F}
use Rattle.cl_ast.specs.declared.statement.Stmt.TheViews.{roll-Stmt, roll-Block, roll-Do, roll-For, roll-If, roll-While, out-roll-Block, out-roll-Do, out-roll-For, out-roll-If, out-roll-While}
use Rattle.cl_ast.specs.declared.statement.Stmt.TheFolds as s

-- what holds of each form of an expression, by what holds of its parts: those of a list stand beside what holds of them
pub record ExprGoods (GoodExpr : Expr → Type 0) (GoodField : Field → Type 0) (GoodCall : Call → Type 0) (GoodChain : Chain → Type 0) (GoodOperation : Operation → Type 0) (GoodPlace : Place → Type 0) : Type 0 where
  pub literal : (x : Literal) → GoodExpr (exprs.Literal x)
  pub named : (x : Place) → GoodPlace x → GoodExpr (exprs.Place x)
  pub called : (x : Call) → GoodCall x → GoodExpr (exprs.Call x)
  pub operating : (x : Operation) → GoodOperation x → GoodExpr (exprs.Operation x)
  pub chained : (x : Chain) → GoodChain x → GoodExpr (exprs.Chain x)
  pub negated : (x : Prefix) → GoodExpr (out-Prefix x).operand → GoodExpr (exprs.Negate x)
  pub denied : (x : Prefix) → GoodExpr (out-Prefix x).operand → GoodExpr (exprs.Not x)
  pub text : (x : Text) → GoodField (fields.Text x)
  pub formal : (x : Formal) → GoodPlace (out-Formal x).target → GoodField (fields.Formal x)
  pub plain : (x : Expr) → GoodExpr x → GoodField (fields.Plain x)
  pub place : (x : Place) (index : Option ((y : Expr) × GoodExpr y)) → option_map (λ y. y.0) index ≡ (out-Place x).index → GoodPlace x
  pub call : (x : Call) (ys : List ((y : Expr) × GoodExpr y)) → map (λ y. y.0) ys ≡ (out-Call x).arguments → GoodCall x
  pub operation : (x : Operation) (ys : List ((y : Field) × GoodField y)) → map (λ y. y.0) ys ≡ (out-Operation x).fields → GoodOperation x
  pub chain : (x : Chain) → GoodExpr (out-Chain x).first → (ys : List ((y : Link) × GoodExpr (out-Link y).operand)) → map (λ y. y.0) ys ≡ (out-Chain x).others → GoodChain x

module _ {GoodExpr : Expr → Type 0} {GoodField : Field → Type 0} {GoodCall : Call → Type 0} {GoodChain : Chain → Type 0} {GoodOperation : Operation → Type 0} {GoodPlace : Place → Type 0} (goods : ExprGoods GoodExpr GoodField GoodCall GoodChain GoodOperation GoodPlace) where
  abbrev GoodFormal : Formal → Type 0
  GoodFormal x = GoodPlace (out-Formal x).target

  abbrev GoodLink : Link → Type 0
  GoodLink x = GoodExpr (out-Link x).operand

  abbrev GoodPrefix : Prefix → Type 0
  GoodPrefix x = GoodExpr (out-Prefix x).operand

  -- a part, beside what holds of it

  abbrev SuchExpr : Type 0
  SuchExpr = (y : Expr) × GoodExpr y

  abbrev SuchField : Type 0
  SuchField = (y : Field) × GoodField y

  abbrev SuchCall : Type 0
  SuchCall = (y : Call) × GoodCall y

  abbrev SuchChain : Type 0
  SuchChain = (y : Chain) × GoodChain y

  abbrev SuchFormal : Type 0
  SuchFormal = (y : Formal) × GoodFormal y

  abbrev SuchLink : Type 0
  SuchLink = (y : Link) × GoodLink y

  abbrev SuchOperation : Type 0
  SuchOperation = (y : Operation) × GoodOperation y

  abbrev SuchPlace : Type 0
  SuchPlace = (y : Place) × GoodPlace y

  abbrev SuchPrefix : Type 0
  SuchPrefix = (y : Prefix) × GoodPrefix y

  -- a layer, without what holds of its parts

  abbrev plain-Expr : Expr-F SuchExpr SuchField SuchCall SuchChain SuchFormal SuchLink SuchOperation SuchPlace SuchPrefix → Expr-F Expr Field Call Chain Formal Link Operation Place Prefix
  plain-Expr y = e.map-Expr SuchExpr SuchField SuchCall SuchChain SuchFormal SuchLink SuchOperation SuchPlace SuchPrefix Expr Field Call Chain Formal Link Operation Place Prefix (λ z. z.0) (λ z. z.0) (λ z. z.0) (λ z. z.0) (λ z. z.0) (λ z. z.0) (λ z. z.0) (λ z. z.0) (λ z. z.0) y

  abbrev plain-Field : Field-F SuchExpr SuchField SuchCall SuchChain SuchFormal SuchLink SuchOperation SuchPlace SuchPrefix → Field-F Expr Field Call Chain Formal Link Operation Place Prefix
  plain-Field y = e.map-Field SuchExpr SuchField SuchCall SuchChain SuchFormal SuchLink SuchOperation SuchPlace SuchPrefix Expr Field Call Chain Formal Link Operation Place Prefix (λ z. z.0) (λ z. z.0) (λ z. z.0) (λ z. z.0) (λ z. z.0) (λ z. z.0) (λ z. z.0) (λ z. z.0) (λ z. z.0) y

  abbrev plain-Call : Call-F SuchExpr SuchField SuchCall SuchChain SuchFormal SuchLink SuchOperation SuchPlace SuchPrefix → Call-F Expr Field Call Chain Formal Link Operation Place Prefix
  plain-Call y = e.map-Call SuchExpr SuchField SuchCall SuchChain SuchFormal SuchLink SuchOperation SuchPlace SuchPrefix Expr Field Call Chain Formal Link Operation Place Prefix (λ z. z.0) (λ z. z.0) (λ z. z.0) (λ z. z.0) (λ z. z.0) (λ z. z.0) (λ z. z.0) (λ z. z.0) (λ z. z.0) y

  abbrev plain-Chain : Chain-F SuchExpr SuchField SuchCall SuchChain SuchFormal SuchLink SuchOperation SuchPlace SuchPrefix → Chain-F Expr Field Call Chain Formal Link Operation Place Prefix
  plain-Chain y = e.map-Chain SuchExpr SuchField SuchCall SuchChain SuchFormal SuchLink SuchOperation SuchPlace SuchPrefix Expr Field Call Chain Formal Link Operation Place Prefix (λ z. z.0) (λ z. z.0) (λ z. z.0) (λ z. z.0) (λ z. z.0) (λ z. z.0) (λ z. z.0) (λ z. z.0) (λ z. z.0) y

  abbrev plain-Formal : Formal-F SuchExpr SuchField SuchCall SuchChain SuchFormal SuchLink SuchOperation SuchPlace SuchPrefix → Formal-F Expr Field Call Chain Formal Link Operation Place Prefix
  plain-Formal y = e.map-Formal SuchExpr SuchField SuchCall SuchChain SuchFormal SuchLink SuchOperation SuchPlace SuchPrefix Expr Field Call Chain Formal Link Operation Place Prefix (λ z. z.0) (λ z. z.0) (λ z. z.0) (λ z. z.0) (λ z. z.0) (λ z. z.0) (λ z. z.0) (λ z. z.0) (λ z. z.0) y

  abbrev plain-Link : Link-F SuchExpr SuchField SuchCall SuchChain SuchFormal SuchLink SuchOperation SuchPlace SuchPrefix → Link-F Expr Field Call Chain Formal Link Operation Place Prefix
  plain-Link y = e.map-Link SuchExpr SuchField SuchCall SuchChain SuchFormal SuchLink SuchOperation SuchPlace SuchPrefix Expr Field Call Chain Formal Link Operation Place Prefix (λ z. z.0) (λ z. z.0) (λ z. z.0) (λ z. z.0) (λ z. z.0) (λ z. z.0) (λ z. z.0) (λ z. z.0) (λ z. z.0) y

  abbrev plain-Operation : Operation-F SuchExpr SuchField SuchCall SuchChain SuchFormal SuchLink SuchOperation SuchPlace SuchPrefix → Operation-F Expr Field Call Chain Formal Link Operation Place Prefix
  plain-Operation y = e.map-Operation SuchExpr SuchField SuchCall SuchChain SuchFormal SuchLink SuchOperation SuchPlace SuchPrefix Expr Field Call Chain Formal Link Operation Place Prefix (λ z. z.0) (λ z. z.0) (λ z. z.0) (λ z. z.0) (λ z. z.0) (λ z. z.0) (λ z. z.0) (λ z. z.0) (λ z. z.0) y

  abbrev plain-Place : Place-F SuchExpr SuchField SuchCall SuchChain SuchFormal SuchLink SuchOperation SuchPlace SuchPrefix → Place-F Expr Field Call Chain Formal Link Operation Place Prefix
  plain-Place y = e.map-Place SuchExpr SuchField SuchCall SuchChain SuchFormal SuchLink SuchOperation SuchPlace SuchPrefix Expr Field Call Chain Formal Link Operation Place Prefix (λ z. z.0) (λ z. z.0) (λ z. z.0) (λ z. z.0) (λ z. z.0) (λ z. z.0) (λ z. z.0) (λ z. z.0) (λ z. z.0) y

  abbrev plain-Prefix : Prefix-F SuchExpr SuchField SuchCall SuchChain SuchFormal SuchLink SuchOperation SuchPlace SuchPrefix → Prefix-F Expr Field Call Chain Formal Link Operation Place Prefix
  plain-Prefix y = e.map-Prefix SuchExpr SuchField SuchCall SuchChain SuchFormal SuchLink SuchOperation SuchPlace SuchPrefix Expr Field Call Chain Formal Link Operation Place Prefix (λ z. z.0) (λ z. z.0) (λ z. z.0) (λ z. z.0) (λ z. z.0) (λ z. z.0) (λ z. z.0) (λ z. z.0) (λ z. z.0) y

  expr_step : (y : Expr-F SuchExpr SuchField SuchCall SuchChain SuchFormal SuchLink SuchOperation SuchPlace SuchPrefix) → GoodExpr (roll-Expr (plain-Expr y))
  expr_step (Expr-F.Literal x) = subst GoodExpr (sym (exprs.rolls-Literal x)) (goods.literal x)
  expr_step (Expr-F.Place x) = subst GoodExpr (sym (exprs.rolls-Place x.0)) (goods.named x.0 x.1)
  expr_step (Expr-F.Call x) = subst GoodExpr (sym (exprs.rolls-Call x.0)) (goods.called x.0 x.1)
  expr_step (Expr-F.Operation x) = subst GoodExpr (sym (exprs.rolls-Operation x.0)) (goods.operating x.0 x.1)
  expr_step (Expr-F.Chain x) = subst GoodExpr (sym (exprs.rolls-Chain x.0)) (goods.chained x.0 x.1)
  expr_step (Expr-F.Negate x) = subst GoodExpr (sym (exprs.rolls-Negate x.0)) (goods.negated x.0 x.1)
  expr_step (Expr-F.Not x) = subst GoodExpr (sym (exprs.rolls-Not x.0)) (goods.denied x.0 x.1)

  field_step : (y : Field-F SuchExpr SuchField SuchCall SuchChain SuchFormal SuchLink SuchOperation SuchPlace SuchPrefix) → GoodField (roll-Field (plain-Field y))
  field_step (Field-F.Text x) = subst GoodField (sym (fields.rolls-Text x)) (goods.text x)
  field_step (Field-F.Formal x) = subst GoodField (sym (fields.rolls-Formal x.0)) (goods.formal x.0 x.1)
  field_step (Field-F.Plain x) = subst GoodField (sym (fields.rolls-Plain x.0)) (goods.plain x.0 x.1)

  call_step : (y : Call-F SuchExpr SuchField SuchCall SuchChain SuchFormal SuchLink SuchOperation SuchPlace SuchPrefix) → GoodCall (roll-Call (plain-Call y))
  call_step y = goods.call (roll-Call (plain-Call y)) y.arguments (ap (λ (z : Call-F Expr Field Call Chain Formal Link Operation Place Prefix). z.arguments) (sym (out-roll-Call (plain-Call y))))

  chain_step : (y : Chain-F SuchExpr SuchField SuchCall SuchChain SuchFormal SuchLink SuchOperation SuchPlace SuchPrefix) → GoodChain (roll-Chain (plain-Chain y))
  chain_step y = goods.chain (roll-Chain (plain-Chain y)) (subst GoodExpr (ap (λ (z : Chain-F Expr Field Call Chain Formal Link Operation Place Prefix). z.first) (sym (out-roll-Chain (plain-Chain y)))) y.first.1) y.others (ap (λ (z : Chain-F Expr Field Call Chain Formal Link Operation Place Prefix). z.others) (sym (out-roll-Chain (plain-Chain y))))

  formal_step : (y : Formal-F SuchExpr SuchField SuchCall SuchChain SuchFormal SuchLink SuchOperation SuchPlace SuchPrefix) → GoodFormal (roll-Formal (plain-Formal y))
  formal_step y = subst GoodPlace (ap (λ (z : Formal-F Expr Field Call Chain Formal Link Operation Place Prefix). z.target) (sym (out-roll-Formal (plain-Formal y)))) y.target.1

  link_step : (y : Link-F SuchExpr SuchField SuchCall SuchChain SuchFormal SuchLink SuchOperation SuchPlace SuchPrefix) → GoodLink (roll-Link (plain-Link y))
  link_step y = subst GoodExpr (ap (λ (z : Link-F Expr Field Call Chain Formal Link Operation Place Prefix). z.operand) (sym (out-roll-Link (plain-Link y)))) y.operand.1

  operation_step : (y : Operation-F SuchExpr SuchField SuchCall SuchChain SuchFormal SuchLink SuchOperation SuchPlace SuchPrefix) → GoodOperation (roll-Operation (plain-Operation y))
  operation_step y = goods.operation (roll-Operation (plain-Operation y)) y.fields (ap (λ (z : Operation-F Expr Field Call Chain Formal Link Operation Place Prefix). z.fields) (sym (out-roll-Operation (plain-Operation y))))

  index_is : (name : Name) (index : Option SuchExpr) (span : Span) → option_map (λ z. z.0) index ≡ (plain-Place (record { name = name; index = index; span = span })).index
  index_is name None span = refl
  index_is name (Some x) span = refl

  place_step : (y : Place-F SuchExpr SuchField SuchCall SuchChain SuchFormal SuchLink SuchOperation SuchPlace SuchPrefix) → GoodPlace (roll-Place (plain-Place y))
  place_step y = goods.place (roll-Place (plain-Place y)) y.index (index_is y.name y.index y.span ∙ ap (λ (z : Place-F Expr Field Call Chain Formal Link Operation Place Prefix). z.index) (sym (out-roll-Place (plain-Place y))))

  prefix_step : (y : Prefix-F SuchExpr SuchField SuchCall SuchChain SuchFormal SuchLink SuchOperation SuchPlace SuchPrefix) → GoodPrefix (roll-Prefix (plain-Prefix y))
  prefix_step y = subst GoodExpr (ap (λ (z : Prefix-F Expr Field Call Chain Formal Link Operation Place Prefix). z.operand) (sym (out-roll-Prefix (plain-Prefix y)))) y.operand.1

  each-Expr : (x : Expr-F Expr Field Call Chain Formal Link Operation Place Prefix) (y : Expr-F SuchExpr SuchField SuchCall SuchChain SuchFormal SuchLink SuchOperation SuchPlace SuchPrefix) → plain-Expr y ≡ x → GoodExpr (roll-Expr x)
  each-Expr x y is = subst (λ z. GoodExpr (roll-Expr z)) is (expr_step y)

  each-Field : (x : Field-F Expr Field Call Chain Formal Link Operation Place Prefix) (y : Field-F SuchExpr SuchField SuchCall SuchChain SuchFormal SuchLink SuchOperation SuchPlace SuchPrefix) → plain-Field y ≡ x → GoodField (roll-Field x)
  each-Field x y is = subst (λ z. GoodField (roll-Field z)) is (field_step y)

  each-Call : (x : Call-F Expr Field Call Chain Formal Link Operation Place Prefix) (y : Call-F SuchExpr SuchField SuchCall SuchChain SuchFormal SuchLink SuchOperation SuchPlace SuchPrefix) → plain-Call y ≡ x → GoodCall (roll-Call x)
  each-Call x y is = subst (λ z. GoodCall (roll-Call z)) is (call_step y)

  each-Chain : (x : Chain-F Expr Field Call Chain Formal Link Operation Place Prefix) (y : Chain-F SuchExpr SuchField SuchCall SuchChain SuchFormal SuchLink SuchOperation SuchPlace SuchPrefix) → plain-Chain y ≡ x → GoodChain (roll-Chain x)
  each-Chain x y is = subst (λ z. GoodChain (roll-Chain z)) is (chain_step y)

  each-Formal : (x : Formal-F Expr Field Call Chain Formal Link Operation Place Prefix) (y : Formal-F SuchExpr SuchField SuchCall SuchChain SuchFormal SuchLink SuchOperation SuchPlace SuchPrefix) → plain-Formal y ≡ x → GoodFormal (roll-Formal x)
  each-Formal x y is = subst (λ z. GoodFormal (roll-Formal z)) is (formal_step y)

  each-Link : (x : Link-F Expr Field Call Chain Formal Link Operation Place Prefix) (y : Link-F SuchExpr SuchField SuchCall SuchChain SuchFormal SuchLink SuchOperation SuchPlace SuchPrefix) → plain-Link y ≡ x → GoodLink (roll-Link x)
  each-Link x y is = subst (λ z. GoodLink (roll-Link z)) is (link_step y)

  each-Operation : (x : Operation-F Expr Field Call Chain Formal Link Operation Place Prefix) (y : Operation-F SuchExpr SuchField SuchCall SuchChain SuchFormal SuchLink SuchOperation SuchPlace SuchPrefix) → plain-Operation y ≡ x → GoodOperation (roll-Operation x)
  each-Operation x y is = subst (λ z. GoodOperation (roll-Operation z)) is (operation_step y)

  each-Place : (x : Place-F Expr Field Call Chain Formal Link Operation Place Prefix) (y : Place-F SuchExpr SuchField SuchCall SuchChain SuchFormal SuchLink SuchOperation SuchPlace SuchPrefix) → plain-Place y ≡ x → GoodPlace (roll-Place x)
  each-Place x y is = subst (λ z. GoodPlace (roll-Place z)) is (place_step y)

  each-Prefix : (x : Prefix-F Expr Field Call Chain Formal Link Operation Place Prefix) (y : Prefix-F SuchExpr SuchField SuchCall SuchChain SuchFormal SuchLink SuchOperation SuchPlace SuchPrefix) → plain-Prefix y ≡ x → GoodPrefix (roll-Prefix x)
  each-Prefix x y is = subst (λ z. GoodPrefix (roll-Prefix z)) is (prefix_step y)

  pub every_expr : (x : Expr) → GoodExpr x
  every_expr = e.ind-Expr GoodExpr GoodField GoodCall GoodChain GoodFormal GoodLink GoodOperation GoodPlace GoodPrefix each-Expr each-Field each-Call each-Chain each-Formal each-Link each-Operation each-Place each-Prefix

  pub every_place : (x : Place) → GoodPlace x
  every_place = e.ind-Place GoodExpr GoodField GoodCall GoodChain GoodFormal GoodLink GoodOperation GoodPlace GoodPrefix each-Expr each-Field each-Call each-Chain each-Formal each-Link each-Operation each-Place each-Prefix

  pub every_call : (x : Call) → GoodCall x
  every_call = e.ind-Call GoodExpr GoodField GoodCall GoodChain GoodFormal GoodLink GoodOperation GoodPlace GoodPrefix each-Expr each-Field each-Call each-Chain each-Formal each-Link each-Operation each-Place each-Prefix

  pub every_operation : (x : Operation) → GoodOperation x
  every_operation = e.ind-Operation GoodExpr GoodField GoodCall GoodChain GoodFormal GoodLink GoodOperation GoodPlace GoodPrefix each-Expr each-Field each-Call each-Chain each-Formal each-Link each-Operation each-Place each-Prefix

-- the same of statements
pub record StmtGoods (GoodStmt : Stmt → Type 0) (GoodBlock : Block → Type 0) : Type 0 where
  pub block : (x : Block) → GoodBlock x → GoodStmt (stmts.Block x)
  pub empty : (x : Span) → GoodStmt (stmts.Empty x)
  pub variables : (x : Variables) → GoodStmt (stmts.Variables x)
  pub assign : (x : Assign) → GoodStmt (stmts.Assign x)
  pub call : (x : Call) → GoodStmt (stmts.Call x)
  pub operation : (x : Operation) → GoodStmt (stmts.Operation x)
  pub print : (x : Print) → GoodStmt (stmts.Print x)
  pub break : (x : Span) → GoodStmt (stmts.Break x)
  pub continue : (x : Span) → GoodStmt (stmts.Continue x)
  pub return : (x : Return) → GoodStmt (stmts.Return x)
  pub choice : (x : If) → GoodStmt (out-If x).yes → (no : Option ((y : Stmt) × GoodStmt y)) → option_map (λ z. z.0) no ≡ (out-If x).no → GoodStmt (stmts.If x)
  pub while_loop : (x : While) → GoodStmt (out-While x).body → GoodStmt (stmts.While x)
  pub do_loop : (x : Do) → GoodStmt (out-Do x).body → GoodStmt (stmts.Do x)
  pub for_loop : (x : For) (first : Option ((y : Stmt) × GoodStmt y)) → option_map (λ z. z.0) first ≡ (out-For x).first → (step : Option ((y : Stmt) × GoodStmt y)) → option_map (λ z. z.0) step ≡ (out-For x).step → GoodStmt (out-For x).body → GoodStmt (stmts.For x)
  pub statements : (x : Block) (ys : List ((y : Stmt) × GoodStmt y)) → map (λ z. z.0) ys ≡ (out-Block x).statements → GoodBlock x

module _ {GoodStmt : Stmt → Type 0} {GoodBlock : Block → Type 0} (goods : StmtGoods GoodStmt GoodBlock) where
  abbrev GoodDo : Do → Type 0
  GoodDo x = GoodStmt (stmts.Do x)

  abbrev GoodFor : For → Type 0
  GoodFor x = GoodStmt (stmts.For x)

  abbrev GoodIf : If → Type 0
  GoodIf x = GoodStmt (stmts.If x)

  abbrev GoodWhile : While → Type 0
  GoodWhile x = GoodStmt (stmts.While x)

  abbrev SuchStmt : Type 0
  SuchStmt = (y : Stmt) × GoodStmt y

  abbrev SuchBlock : Type 0
  SuchBlock = (y : Block) × GoodBlock y

  abbrev SuchDo : Type 0
  SuchDo = (y : Do) × GoodDo y

  abbrev SuchFor : Type 0
  SuchFor = (y : For) × GoodFor y

  abbrev SuchIf : Type 0
  SuchIf = (y : If) × GoodIf y

  abbrev SuchWhile : Type 0
  SuchWhile = (y : While) × GoodWhile y

  -- a layer, without what holds of its parts

  abbrev plain-Stmt : Stmt-F SuchStmt SuchBlock SuchDo SuchFor SuchIf SuchWhile → Stmt-F Stmt Block Do For If While
  plain-Stmt y = s.map-Stmt SuchStmt SuchBlock SuchDo SuchFor SuchIf SuchWhile Stmt Block Do For If While (λ z. z.0) (λ z. z.0) (λ z. z.0) (λ z. z.0) (λ z. z.0) (λ z. z.0) y

  abbrev plain-Block : Block-F SuchStmt SuchBlock SuchDo SuchFor SuchIf SuchWhile → Block-F Stmt Block Do For If While
  plain-Block y = s.map-Block SuchStmt SuchBlock SuchDo SuchFor SuchIf SuchWhile Stmt Block Do For If While (λ z. z.0) (λ z. z.0) (λ z. z.0) (λ z. z.0) (λ z. z.0) (λ z. z.0) y

  abbrev plain-Do : Do-F SuchStmt SuchBlock SuchDo SuchFor SuchIf SuchWhile → Do-F Stmt Block Do For If While
  plain-Do y = s.map-Do SuchStmt SuchBlock SuchDo SuchFor SuchIf SuchWhile Stmt Block Do For If While (λ z. z.0) (λ z. z.0) (λ z. z.0) (λ z. z.0) (λ z. z.0) (λ z. z.0) y

  abbrev plain-For : For-F SuchStmt SuchBlock SuchDo SuchFor SuchIf SuchWhile → For-F Stmt Block Do For If While
  plain-For y = s.map-For SuchStmt SuchBlock SuchDo SuchFor SuchIf SuchWhile Stmt Block Do For If While (λ z. z.0) (λ z. z.0) (λ z. z.0) (λ z. z.0) (λ z. z.0) (λ z. z.0) y

  abbrev plain-If : If-F SuchStmt SuchBlock SuchDo SuchFor SuchIf SuchWhile → If-F Stmt Block Do For If While
  plain-If y = s.map-If SuchStmt SuchBlock SuchDo SuchFor SuchIf SuchWhile Stmt Block Do For If While (λ z. z.0) (λ z. z.0) (λ z. z.0) (λ z. z.0) (λ z. z.0) (λ z. z.0) y

  abbrev plain-While : While-F SuchStmt SuchBlock SuchDo SuchFor SuchIf SuchWhile → While-F Stmt Block Do For If While
  plain-While y = s.map-While SuchStmt SuchBlock SuchDo SuchFor SuchIf SuchWhile Stmt Block Do For If While (λ z. z.0) (λ z. z.0) (λ z. z.0) (λ z. z.0) (λ z. z.0) (λ z. z.0) y

  stmt_step : (y : Stmt-F SuchStmt SuchBlock SuchDo SuchFor SuchIf SuchWhile) → GoodStmt (roll-Stmt (plain-Stmt y))
  stmt_step (Stmt-F.Block x) = subst GoodStmt (sym (stmts.rolls-Block x.0)) (goods.block x.0 x.1)
  stmt_step (Stmt-F.Empty x) = subst GoodStmt (sym (stmts.rolls-Empty x)) (goods.empty x)
  stmt_step (Stmt-F.Variables x) = subst GoodStmt (sym (stmts.rolls-Variables x)) (goods.variables x)
  stmt_step (Stmt-F.Assign x) = subst GoodStmt (sym (stmts.rolls-Assign x)) (goods.assign x)
  stmt_step (Stmt-F.Call x) = subst GoodStmt (sym (stmts.rolls-Call x)) (goods.call x)
  stmt_step (Stmt-F.Operation x) = subst GoodStmt (sym (stmts.rolls-Operation x)) (goods.operation x)
  stmt_step (Stmt-F.Print x) = subst GoodStmt (sym (stmts.rolls-Print x)) (goods.print x)
  stmt_step (Stmt-F.If x) = subst GoodStmt (sym (stmts.rolls-If x.0)) x.1
  stmt_step (Stmt-F.While x) = subst GoodStmt (sym (stmts.rolls-While x.0)) x.1
  stmt_step (Stmt-F.Do x) = subst GoodStmt (sym (stmts.rolls-Do x.0)) x.1
  stmt_step (Stmt-F.For x) = subst GoodStmt (sym (stmts.rolls-For x.0)) x.1
  stmt_step (Stmt-F.Break x) = subst GoodStmt (sym (stmts.rolls-Break x)) (goods.break x)
  stmt_step (Stmt-F.Continue x) = subst GoodStmt (sym (stmts.rolls-Continue x)) (goods.continue x)
  stmt_step (Stmt-F.Return x) = subst GoodStmt (sym (stmts.rolls-Return x)) (goods.return x)

  block_step : (y : Block-F SuchStmt SuchBlock SuchDo SuchFor SuchIf SuchWhile) → GoodBlock (roll-Block (plain-Block y))
  block_step y = goods.statements (roll-Block (plain-Block y)) y.statements (ap (λ (z : Block-F Stmt Block Do For If While). z.statements) (sym (out-roll-Block (plain-Block y))))

  do_step : (y : Do-F SuchStmt SuchBlock SuchDo SuchFor SuchIf SuchWhile) → GoodDo (roll-Do (plain-Do y))
  do_step y = goods.do_loop (roll-Do (plain-Do y)) (subst GoodStmt (ap (λ (z : Do-F Stmt Block Do For If While). z.body) (sym (out-roll-Do (plain-Do y)))) y.body.1)

  while_step : (y : While-F SuchStmt SuchBlock SuchDo SuchFor SuchIf SuchWhile) → GoodWhile (roll-While (plain-While y))
  while_step y = goods.while_loop (roll-While (plain-While y)) (subst GoodStmt (ap (λ (z : While-F Stmt Block Do For If While). z.body) (sym (out-roll-While (plain-While y)))) y.body.1)

  if_maps : (test : Expr) (x : SuchStmt) (y : Option SuchStmt) (span : Span) → record { test = test; yes = x.0; no = option_map (λ z. z.0) y; span = span } ≡ plain-If (record { test = test; yes = x; no = y; span = span })
  if_maps test x None span = refl
  if_maps test x (Some y) span = refl

  if_step : (y : If-F SuchStmt SuchBlock SuchDo SuchFor SuchIf SuchWhile) → GoodIf (roll-If (plain-If y))
  if_step y =
      let is = if_maps y.test y.yes y.no y.span ∙ sym (out-roll-If (plain-If y)) in
      goods.choice (roll-If (plain-If y)) (subst GoodStmt (ap (λ (z : If-F Stmt Block Do For If While). z.yes) is) y.yes.1) y.no (ap (λ (z : If-F Stmt Block Do For If While). z.no) is)

  for_maps : (first : Option SuchStmt) (test : Option Expr) (step : Option SuchStmt) (body : SuchStmt) (span : Span) →
      record { first = option_map (λ z. z.0) first; test = test; step = option_map (λ z. z.0) step; body = body.0; span = span } ≡ plain-For (record { first = first; test = test; step = step; body = body; span = span })
  for_maps None test None body span = refl
  for_maps None test (Some y) body span = refl
  for_maps (Some x) test None body span = refl
  for_maps (Some x) test (Some y) body span = refl

  for_step : (y : For-F SuchStmt SuchBlock SuchDo SuchFor SuchIf SuchWhile) → GoodFor (roll-For (plain-For y))
  for_step y =
      let is = for_maps y.first y.test y.step y.body y.span ∙ sym (out-roll-For (plain-For y)) in
      goods.for_loop (roll-For (plain-For y)) y.first (ap (λ (z : For-F Stmt Block Do For If While). z.first) is) y.step (ap (λ (z : For-F Stmt Block Do For If While). z.step) is) (subst GoodStmt (ap (λ (z : For-F Stmt Block Do For If While). z.body) is) y.body.1)

  each-Stmt : (x : Stmt-F Stmt Block Do For If While) (y : Stmt-F SuchStmt SuchBlock SuchDo SuchFor SuchIf SuchWhile) → plain-Stmt y ≡ x → GoodStmt (roll-Stmt x)
  each-Stmt x y is = subst (λ z. GoodStmt (roll-Stmt z)) is (stmt_step y)

  each-Block : (x : Block-F Stmt Block Do For If While) (y : Block-F SuchStmt SuchBlock SuchDo SuchFor SuchIf SuchWhile) → plain-Block y ≡ x → GoodBlock (roll-Block x)
  each-Block x y is = subst (λ z. GoodBlock (roll-Block z)) is (block_step y)

  each-Do : (x : Do-F Stmt Block Do For If While) (y : Do-F SuchStmt SuchBlock SuchDo SuchFor SuchIf SuchWhile) → plain-Do y ≡ x → GoodDo (roll-Do x)
  each-Do x y is = subst (λ z. GoodDo (roll-Do z)) is (do_step y)

  each-For : (x : For-F Stmt Block Do For If While) (y : For-F SuchStmt SuchBlock SuchDo SuchFor SuchIf SuchWhile) → plain-For y ≡ x → GoodFor (roll-For x)
  each-For x y is = subst (λ z. GoodFor (roll-For z)) is (for_step y)

  each-If : (x : If-F Stmt Block Do For If While) (y : If-F SuchStmt SuchBlock SuchDo SuchFor SuchIf SuchWhile) → plain-If y ≡ x → GoodIf (roll-If x)
  each-If x y is = subst (λ z. GoodIf (roll-If z)) is (if_step y)

  each-While : (x : While-F Stmt Block Do For If While) (y : While-F SuchStmt SuchBlock SuchDo SuchFor SuchIf SuchWhile) → plain-While y ≡ x → GoodWhile (roll-While x)
  each-While x y is = subst (λ z. GoodWhile (roll-While z)) is (while_step y)

  pub every_stmt : (x : Stmt) → GoodStmt x
  every_stmt = s.ind-Stmt GoodStmt GoodBlock GoodDo GoodFor GoodIf GoodWhile each-Stmt each-Block each-Do each-For each-If each-While

  pub every_block : (x : Block) → GoodBlock x
  every_block = s.ind-Block GoodStmt GoodBlock GoodDo GoodFor GoodIf GoodWhile each-Stmt each-Block each-Do each-For each-If each-While
