-- Recursion on trees, in a form that computes: a step is told what the parts gave. (This project.)
use denote.Hole.Carrier.{fold, hidden}
use Rattle.cl_ast.specs.declared.tree.Expr.{Expr}
use Rattle.cl_ast.specs.declared.tree.Field.{Field}
use Rattle.cl_ast.specs.declared.tree.Call.{Call}
use Rattle.cl_ast.specs.declared.tree.Chain.{Chain}
use Rattle.cl_ast.specs.declared.tree.Formal.{Formal}
use Rattle.cl_ast.specs.declared.tree.Link.{Link}
use Rattle.cl_ast.specs.declared.tree.Operation.{Operation}
use Rattle.cl_ast.specs.declared.tree.Place.{Place}
use Rattle.cl_ast.specs.declared.tree.Prefix.{Prefix}
use Rattle.cl_ast.specs.declared.tree.Expr.TheOpen.{Expr-F, Field-F, Call-F, Chain-F, Formal-F, Link-F, Operation-F, Place-F, Prefix-F}
use Rattle.cl_ast.specs.declared.tree.Expr.TheFolds as e
use Rattle.cl_ast.specs.declared.tree.Expr.TheBlock as e'
use Rattle.cl_ast.specs.declared.statement.Stmt.{Stmt}
use Rattle.cl_ast.specs.declared.statement.Block.{Block}
use Rattle.cl_ast.specs.declared.statement.Do.{Do}
use Rattle.cl_ast.specs.declared.statement.For.{For}
use Rattle.cl_ast.specs.declared.statement.If.{If}
use Rattle.cl_ast.specs.declared.statement.While.{While}
use Rattle.cl_ast.specs.declared.statement.Stmt.TheOpen.{Stmt-F, Block-F, Do-F, For-F, If-F, While-F}
use Rattle.cl_ast.specs.declared.statement.Stmt.TheFolds as s
use Rattle.cl_ast.specs.declared.statement.Stmt.TheBlock as s'

-- what each part of an expression comes to, where its own parts came to these
pub record ExprSteps (E F C H M L O P R : Type 0) : Type 0 where
  pub expr : Expr-F E F C H M L O P R → E
  pub field : Field-F E F C H M L O P R → F
  pub call : Call-F E F C H M L O P R → C
  pub chain : Chain-F E F C H M L O P R → H
  pub formal : Formal-F E F C H M L O P R → M
  pub link : Link-F E F C H M L O P R → L
  pub operation : Operation-F E F C H M L O P R → O
  pub place : Place-F E F C H M L O P R → P
  pub prefix : Prefix-F E F C H M L O P R → R

module _ {E F C H M L O P R : Type 0} (k : ExprSteps E F C H M L O P R) where
  abbrev pub expr_family : e'.the_members → Type 0
  expr_family = e.family E F C H M L O P R

  abbrev pub fold_part : (j : e'.the_members) → (e'.the_carrier).T j → expr_family j
  fold_part = fold e'.the_members e'.the_sigs e'.the_carrier (e.family E F C H M L O P R)
      (e.steps E F C H M L O P R k.expr k.field k.call k.chain k.formal k.link k.operation k.place k.prefix)

  unfoldable pub fold_expr : Expr → E
  fold_expr = fold_part e'.member-Expr

  unfoldable pub fold_field : Field → F
  fold_field = fold_part e'.member-Field

  unfoldable pub fold_call : Call → C
  fold_call = fold_part e'.member-Call

  unfoldable pub fold_chain : Chain → H
  fold_chain = fold_part e'.member-Chain

  unfoldable pub fold_formal : Formal → M
  fold_formal = fold_part e'.member-Formal

  unfoldable pub fold_link : Link → L
  fold_link = fold_part e'.member-Link

  unfoldable pub fold_operation : Operation → O
  fold_operation = fold_part e'.member-Operation

  unfoldable pub fold_place : Place → P
  fold_place = fold_part e'.member-Place

  unfoldable pub fold_prefix : Prefix → R
  fold_prefix = fold_part e'.member-Prefix

-- the same of a statement
pub record StmtSteps (S B D F I W : Type 0) : Type 0 where
  pub stmt : Stmt-F S B D F I W → S
  pub block : Block-F S B D F I W → B
  pub do_loop : Do-F S B D F I W → D
  pub for_loop : For-F S B D F I W → F
  pub choice : If-F S B D F I W → I
  pub while_loop : While-F S B D F I W → W

module _ {S B D F I W : Type 0} (k : StmtSteps S B D F I W) where
  abbrev pub fold_body : (j : s'.the_members) → (s'.the_carrier).T j → s.family S B D F I W j
  fold_body = fold s'.the_members s'.the_sigs s'.the_carrier (s.family S B D F I W)
      (s.steps S B D F I W k.stmt k.block k.do_loop k.for_loop k.choice k.while_loop)

  unfoldable pub fold_stmt : Stmt → S
  fold_stmt = fold_body s'.member-Stmt

  unfoldable pub fold_block : Block → B
  fold_block = fold_body s'.member-Block

  unfoldable pub fold_do : Do → D
  fold_do = fold_body s'.member-Do

  unfoldable pub fold_for : For → F
  fold_for = fold_body s'.member-For

  unfoldable pub fold_if : If → I
  fold_if = fold_body s'.member-If

  unfoldable pub fold_while : While → W
  fold_while = fold_body s'.member-While

-- Where this unfolds, a recursion on a tree that is written out computes.
unfoldable pub folds : Unit {0}
unfolding fold hidden fold_expr fold_field fold_call fold_chain fold_formal fold_link fold_operation fold_place fold_prefix fold_stmt fold_block fold_do fold_for fold_if fold_while e'.hidden-the_row-Expr-0 e'.hidden-the_row-Expr-1 e'.hidden-the_row-Field-2 e'.hidden-the_row-Link-3 e'.shape-the_row-Expr-0 e'.shape-the_row-Expr-1 e'.shape-the_row-Field-2 e'.shape-the_row-Link-3 s'.hidden-the_row-Stmt-0 s'.hidden-the_row-Stmt-1 s'.shape-the_row-Stmt-0 s'.shape-the_row-Stmt-1
folds = tt
