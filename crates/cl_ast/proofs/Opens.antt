-- The equations of a recursion on a tree: what it gives for each form, by what it gives for the parts.
use Rattle.std.proofs.Common.{◌≡◌, ◌∙◌, ap, sym, refl, map, Option, Some, None, option_map}
use denote.Hole.Carrier.{fold, out, roll, fold_out, fold-roll}
use Rattle.cl_ast.specs.declared.span.Span.{Span}
use Rattle.cl_ast.specs.declared.tree.Name.{Name}
use Rattle.cl_ast.specs.declared.tree.Literal.{Literal}
use Rattle.cl_ast.specs.declared.tree.Text.{Text}
use Rattle.cl_ast.specs.declared.tree.Expr.{Expr}
use Rattle.cl_ast.specs.declared.tree.Expr.TheVariants as exprs
use Rattle.cl_ast.specs.declared.tree.Field.{Field}
use Rattle.cl_ast.specs.declared.tree.Field.TheVariants as fields
use Rattle.cl_ast.specs.declared.tree.Call.{Call}
use Rattle.cl_ast.specs.declared.tree.Chain.{Chain}
use Rattle.cl_ast.specs.declared.tree.Formal.{Formal}
use Rattle.cl_ast.specs.declared.tree.Link.{Link}
use Rattle.cl_ast.specs.declared.tree.Operation.{Operation}
use Rattle.cl_ast.specs.declared.tree.Place.{Place}
use Rattle.cl_ast.specs.declared.tree.Prefix.{Prefix}
use Rattle.cl_ast.specs.declared.tree.Expr.TheOpen.{Expr-F, Field-F, Chain-F, Link-F, Prefix-F}
use Rattle.cl_ast.specs.declared.tree.Expr.TheViews.{roll-Expr, roll-Field, out-Call, out-Chain, out-Formal, out-Link, out-Operation, out-Place, out-Prefix, roll-Chain, roll-Link, roll-Prefix}
use Rattle.cl_ast.specs.declared.tree.Expr.TheFolds as e
use Rattle.cl_ast.specs.declared.tree.Expr.TheBlock as e'
use Rattle.cl_ast.specs.declared.statement.Stmt.{Stmt}
use Rattle.cl_ast.specs.declared.statement.Stmt.TheVariants as stmts
use Rattle.cl_ast.specs.declared.statement.Block.{Block}
use Rattle.cl_ast.specs.declared.statement.Do.{Do}
use Rattle.cl_ast.specs.declared.statement.For.{For}
use Rattle.cl_ast.specs.declared.statement.If.{If}
use Rattle.cl_ast.specs.declared.statement.While.{While}
use Rattle.cl_ast.specs.declared.statement.Variables.{Variables}
use Rattle.cl_ast.specs.declared.statement.Assign.{Assign}
use Rattle.cl_ast.specs.declared.statement.Print.{Print}
use Rattle.cl_ast.specs.declared.statement.Return.{Return}
use Rattle.cl_ast.specs.declared.statement.Stmt.TheOpen.{Stmt-F}
use Rattle.cl_ast.specs.declared.statement.Stmt.TheViews.{roll-Stmt, out-Block, out-Do, out-For, out-If, out-While}
use Rattle.cl_ast.specs.declared.statement.Stmt.TheFolds as s
use Rattle.cl_ast.specs.declared.statement.Stmt.TheBlock as s'
use Rattle.cl_ast.specs.Folds.{ExprSteps, fold_part, fold_expr, fold_field, fold_call, fold_chain, fold_formal, fold_link, fold_operation, fold_place, fold_prefix, StmtSteps, fold_body, fold_stmt, fold_block, fold_do, fold_for, fold_if, fold_while}

module _ {E F C H M L O P R : Type 0} (k : ExprSteps E F C H M L O P R) where
  -- a layer that is put together

  pub expr_rolls : (x : Expr-F Expr Field Call Chain Formal Link Operation Place Prefix) → fold_expr k (roll-Expr x) ≡ k.expr (e.map-Expr Expr Field Call Chain Formal Link Operation Place Prefix E F C H M L O P R (fold_expr k) (fold_field k) (fold_call k) (fold_chain k) (fold_formal k) (fold_link k) (fold_operation k) (fold_place k) (fold_prefix k) x)
  unfolding fold_expr fold_field fold_call fold_chain fold_formal fold_link fold_operation fold_place fold_prefix roll-Expr
  expr_rolls x = fold-roll e'.the_members e'.the_sigs e'.the_carrier (e.family E F C H M L O P R) (e.steps E F C H M L O P R k.expr k.field k.call k.chain k.formal k.link k.operation k.place k.prefix) e'.member-Expr x ∙ ap k.expr (e.map_is-Expr (e'.the_carrier).T (e.family E F C H M L O P R) (fold_part k) x)

  pub field_rolls : (x : Field-F Expr Field Call Chain Formal Link Operation Place Prefix) → fold_field k (roll-Field x) ≡ k.field (e.map-Field Expr Field Call Chain Formal Link Operation Place Prefix E F C H M L O P R (fold_expr k) (fold_field k) (fold_call k) (fold_chain k) (fold_formal k) (fold_link k) (fold_operation k) (fold_place k) (fold_prefix k) x)
  unfolding fold_expr fold_field fold_call fold_chain fold_formal fold_link fold_operation fold_place fold_prefix roll-Field
  field_rolls x = fold-roll e'.the_members e'.the_sigs e'.the_carrier (e.family E F C H M L O P R) (e.steps E F C H M L O P R k.expr k.field k.call k.chain k.formal k.link k.operation k.place k.prefix) e'.member-Field x ∙ ap k.field (e.map_is-Field (e'.the_carrier).T (e.family E F C H M L O P R) (fold_part k) x)

  pub chain_rolls : (x : Chain-F Expr Field Call Chain Formal Link Operation Place Prefix) → fold_chain k (roll-Chain x) ≡ k.chain (e.map-Chain Expr Field Call Chain Formal Link Operation Place Prefix E F C H M L O P R (fold_expr k) (fold_field k) (fold_call k) (fold_chain k) (fold_formal k) (fold_link k) (fold_operation k) (fold_place k) (fold_prefix k) x)
  unfolding fold_expr fold_field fold_call fold_chain fold_formal fold_link fold_operation fold_place fold_prefix roll-Chain
  chain_rolls x = fold-roll e'.the_members e'.the_sigs e'.the_carrier (e.family E F C H M L O P R) (e.steps E F C H M L O P R k.expr k.field k.call k.chain k.formal k.link k.operation k.place k.prefix) e'.member-Chain x ∙ ap k.chain (e.map_is-Chain (e'.the_carrier).T (e.family E F C H M L O P R) (fold_part k) x)

  pub link_rolls : (x : Link-F Expr Field Call Chain Formal Link Operation Place Prefix) → fold_link k (roll-Link x) ≡ k.link (e.map-Link Expr Field Call Chain Formal Link Operation Place Prefix E F C H M L O P R (fold_expr k) (fold_field k) (fold_call k) (fold_chain k) (fold_formal k) (fold_link k) (fold_operation k) (fold_place k) (fold_prefix k) x)
  unfolding fold_expr fold_field fold_call fold_chain fold_formal fold_link fold_operation fold_place fold_prefix fold roll
  link_rolls x = fold-roll e'.the_members e'.the_sigs e'.the_carrier (e.family E F C H M L O P R) (e.steps E F C H M L O P R k.expr k.field k.call k.chain k.formal k.link k.operation k.place k.prefix) e'.member-Link x ∙ ap k.link (e.map_is-Link (e'.the_carrier).T (e.family E F C H M L O P R) (fold_part k) x)

  pub prefix_rolls : (x : Prefix-F Expr Field Call Chain Formal Link Operation Place Prefix) → fold_prefix k (roll-Prefix x) ≡ k.prefix (e.map-Prefix Expr Field Call Chain Formal Link Operation Place Prefix E F C H M L O P R (fold_expr k) (fold_field k) (fold_call k) (fold_chain k) (fold_formal k) (fold_link k) (fold_operation k) (fold_place k) (fold_prefix k) x)
  unfolding fold_expr fold_field fold_call fold_chain fold_formal fold_link fold_operation fold_place fold_prefix fold roll
  prefix_rolls x = fold-roll e'.the_members e'.the_sigs e'.the_carrier (e.family E F C H M L O P R) (e.steps E F C H M L O P R k.expr k.field k.call k.chain k.formal k.link k.operation k.place k.prefix) e'.member-Prefix x ∙ ap k.prefix (e.map_is-Prefix (e'.the_carrier).T (e.family E F C H M L O P R) (fold_part k) x)

  -- the forms of an expression

  pub expr_literal : (x : Literal) → fold_expr k (exprs.Literal x) ≡ k.expr (Expr-F.Literal x)
  expr_literal x = ap (fold_expr k) (sym (exprs.rolls-Literal x)) ∙ expr_rolls (Expr-F.Literal x)

  pub expr_place : (x : Place) → fold_expr k (exprs.Place x) ≡ k.expr (Expr-F.Place (fold_place k x))
  expr_place x = ap (fold_expr k) (sym (exprs.rolls-Place x)) ∙ expr_rolls (Expr-F.Place x)

  pub expr_call : (x : Call) → fold_expr k (exprs.Call x) ≡ k.expr (Expr-F.Call (fold_call k x))
  expr_call x = ap (fold_expr k) (sym (exprs.rolls-Call x)) ∙ expr_rolls (Expr-F.Call x)

  pub expr_operation : (x : Operation) → fold_expr k (exprs.Operation x) ≡ k.expr (Expr-F.Operation (fold_operation k x))
  expr_operation x = ap (fold_expr k) (sym (exprs.rolls-Operation x)) ∙ expr_rolls (Expr-F.Operation x)

  pub expr_chain : (x : Chain) → fold_expr k (exprs.Chain x) ≡ k.expr (Expr-F.Chain (fold_chain k x))
  expr_chain x = ap (fold_expr k) (sym (exprs.rolls-Chain x)) ∙ expr_rolls (Expr-F.Chain x)

  pub expr_negate : (x : Prefix) → fold_expr k (exprs.Negate x) ≡ k.expr (Expr-F.Negate (fold_prefix k x))
  expr_negate x = ap (fold_expr k) (sym (exprs.rolls-Negate x)) ∙ expr_rolls (Expr-F.Negate x)

  pub expr_not : (x : Prefix) → fold_expr k (exprs.Not x) ≡ k.expr (Expr-F.Not (fold_prefix k x))
  expr_not x = ap (fold_expr k) (sym (exprs.rolls-Not x)) ∙ expr_rolls (Expr-F.Not x)

  -- the forms of a field

  pub field_text : (x : Text) → fold_field k (fields.Text x) ≡ k.field (Field-F.Text x)
  field_text x = ap (fold_field k) (sym (fields.rolls-Text x)) ∙ field_rolls (Field-F.Text x)

  pub field_formal : (x : Formal) → fold_field k (fields.Formal x) ≡ k.field (Field-F.Formal (fold_formal k x))
  field_formal x = ap (fold_field k) (sym (fields.rolls-Formal x)) ∙ field_rolls (Field-F.Formal x)

  pub field_plain : (x : Expr) → fold_field k (fields.Plain x) ≡ k.field (Field-F.Plain (fold_expr k x))
  field_plain x = ap (fold_field k) (sym (fields.rolls-Plain x)) ∙ field_rolls (Field-F.Plain x)

  -- the other parts

  index_is : (name : Name) (index : Option Expr) (span : Span) → e.map-Place Expr Field Call Chain Formal Link Operation Place Prefix E F C H M L O P R (fold_expr k) (fold_field k) (fold_call k) (fold_chain k) (fold_formal k) (fold_link k) (fold_operation k) (fold_place k) (fold_prefix k) (record { name = name; index = index; span = span }) ≡ record { name = name; index = option_map (fold_expr k) index; span = span }
  index_is name None span = refl
  index_is name (Some x) span = refl

  pub call_opens : (x : Call) → fold_call k x ≡ k.call (record { name = (out-Call x).name; arguments = map (fold_expr k) (out-Call x).arguments; span = (out-Call x).span })
  unfolding fold_expr fold_field fold_call fold_chain fold_formal fold_link fold_operation fold_place fold_prefix fold out
  call_opens x = fold_out e'.the_members e'.the_sigs e'.the_carrier (e.family E F C H M L O P R) (e.steps E F C H M L O P R k.expr k.field k.call k.chain k.formal k.link k.operation k.place k.prefix) e'.member-Call x
      ∙ ap k.call (e.map_is-Call (e'.the_carrier).T (e.family E F C H M L O P R) (fold_part k) (out e'.the_members e'.the_sigs e'.the_carrier e'.member-Call x))

  pub chain_opens : (x : Chain) → fold_chain k x ≡ k.chain (record { first = fold_expr k (out-Chain x).first; others = map (fold_link k) (out-Chain x).others; span = (out-Chain x).span })
  unfolding fold_expr fold_field fold_call fold_chain fold_formal fold_link fold_operation fold_place fold_prefix out-Chain
  chain_opens x = fold_out e'.the_members e'.the_sigs e'.the_carrier (e.family E F C H M L O P R) (e.steps E F C H M L O P R k.expr k.field k.call k.chain k.formal k.link k.operation k.place k.prefix) e'.member-Chain x
      ∙ ap k.chain (e.map_is-Chain (e'.the_carrier).T (e.family E F C H M L O P R) (fold_part k) (out e'.the_members e'.the_sigs e'.the_carrier e'.member-Chain x))

  pub formal_opens : (x : Formal) → fold_formal k x ≡ k.formal (record { target = fold_place k (out-Formal x).target; span = (out-Formal x).span })
  unfolding fold_expr fold_field fold_call fold_chain fold_formal fold_link fold_operation fold_place fold_prefix fold out
  formal_opens x = fold_out e'.the_members e'.the_sigs e'.the_carrier (e.family E F C H M L O P R) (e.steps E F C H M L O P R k.expr k.field k.call k.chain k.formal k.link k.operation k.place k.prefix) e'.member-Formal x
      ∙ ap k.formal (e.map_is-Formal (e'.the_carrier).T (e.family E F C H M L O P R) (fold_part k) (out e'.the_members e'.the_sigs e'.the_carrier e'.member-Formal x))

  pub link_opens : (x : Link) → fold_link k x ≡ k.link (record { operator = (out-Link x).operator; operand = fold_expr k (out-Link x).operand })
  unfolding fold_expr fold_field fold_call fold_chain fold_formal fold_link fold_operation fold_place fold_prefix fold out
  link_opens x = fold_out e'.the_members e'.the_sigs e'.the_carrier (e.family E F C H M L O P R) (e.steps E F C H M L O P R k.expr k.field k.call k.chain k.formal k.link k.operation k.place k.prefix) e'.member-Link x
      ∙ ap k.link (e.map_is-Link (e'.the_carrier).T (e.family E F C H M L O P R) (fold_part k) (out e'.the_members e'.the_sigs e'.the_carrier e'.member-Link x))

  pub operation_opens : (x : Operation) → fold_operation k x ≡ k.operation (record { verb = (out-Operation x).verb; fields = map (fold_field k) (out-Operation x).fields; span = (out-Operation x).span })
  unfolding fold_expr fold_field fold_call fold_chain fold_formal fold_link fold_operation fold_place fold_prefix fold out
  operation_opens x = fold_out e'.the_members e'.the_sigs e'.the_carrier (e.family E F C H M L O P R) (e.steps E F C H M L O P R k.expr k.field k.call k.chain k.formal k.link k.operation k.place k.prefix) e'.member-Operation x
      ∙ ap k.operation (e.map_is-Operation (e'.the_carrier).T (e.family E F C H M L O P R) (fold_part k) (out e'.the_members e'.the_sigs e'.the_carrier e'.member-Operation x))

  pub place_opens : (x : Place) → fold_place k x ≡ k.place (record { name = (out-Place x).name; index = option_map (fold_expr k) (out-Place x).index; span = (out-Place x).span })
  unfolding fold_expr fold_field fold_call fold_chain fold_formal fold_link fold_operation fold_place fold_prefix fold out
  place_opens x = fold_out e'.the_members e'.the_sigs e'.the_carrier (e.family E F C H M L O P R) (e.steps E F C H M L O P R k.expr k.field k.call k.chain k.formal k.link k.operation k.place k.prefix) e'.member-Place x
      ∙ ap k.place (e.map_is-Place (e'.the_carrier).T (e.family E F C H M L O P R) (fold_part k) (out e'.the_members e'.the_sigs e'.the_carrier e'.member-Place x) ∙ index_is (out-Place x).name (out-Place x).index (out-Place x).span)

  pub prefix_opens : (x : Prefix) → fold_prefix k x ≡ k.prefix (record { operand = fold_expr k (out-Prefix x).operand; span = (out-Prefix x).span })
  unfolding fold_expr fold_field fold_call fold_chain fold_formal fold_link fold_operation fold_place fold_prefix fold out
  prefix_opens x = fold_out e'.the_members e'.the_sigs e'.the_carrier (e.family E F C H M L O P R) (e.steps E F C H M L O P R k.expr k.field k.call k.chain k.formal k.link k.operation k.place k.prefix) e'.member-Prefix x
      ∙ ap k.prefix (e.map_is-Prefix (e'.the_carrier).T (e.family E F C H M L O P R) (fold_part k) (out e'.the_members e'.the_sigs e'.the_carrier e'.member-Prefix x))

module _ {S B D F I W : Type 0} (k : StmtSteps S B D F I W) where
  -- a layer that is put together

  pub stmt_rolls : (x : Stmt-F Stmt Block Do For If While) → fold_stmt k (roll-Stmt x) ≡ k.stmt (s.map-Stmt Stmt Block Do For If While S B D F I W (fold_stmt k) (fold_block k) (fold_do k) (fold_for k) (fold_if k) (fold_while k) x)
  unfolding fold_stmt fold_block fold_do fold_for fold_if fold_while roll-Stmt
  stmt_rolls x = fold-roll s'.the_members s'.the_sigs s'.the_carrier (s.family S B D F I W) (s.steps S B D F I W k.stmt k.block k.do_loop k.for_loop k.choice k.while_loop) s'.member-Stmt x ∙ ap k.stmt (s.map_is-Stmt (s'.the_carrier).T (s.family S B D F I W) (fold_body k) x)

  -- the parts

  no_is : (test : Expr) (body : Stmt) (other : Option Stmt) (span : Span) → s.map-If Stmt Block Do For If While S B D F I W (fold_stmt k) (fold_block k) (fold_do k) (fold_for k) (fold_if k) (fold_while k) (record { test = test; yes = body; no = other; span = span }) ≡ record { test = test; yes = fold_stmt k body; no = option_map (fold_stmt k) other; span = span }
  no_is test body None span = refl
  no_is test body (Some x) span = refl

  head_is : (first : Option Stmt) (test : Option Expr) (step : Option Stmt) (body : Stmt) (span : Span) → s.map-For Stmt Block Do For If While S B D F I W (fold_stmt k) (fold_block k) (fold_do k) (fold_for k) (fold_if k) (fold_while k) (record { first = first; test = test; step = step; body = body; span = span }) ≡ record { first = option_map (fold_stmt k) first; test = test; step = option_map (fold_stmt k) step; body = fold_stmt k body; span = span }
  head_is None test None body span = refl
  head_is None test (Some y) body span = refl
  head_is (Some x) test None body span = refl
  head_is (Some x) test (Some y) body span = refl

  pub block_opens : (x : Block) → fold_block k x ≡ k.block (record { statements = map (fold_stmt k) (out-Block x).statements; span = (out-Block x).span })
  unfolding fold_stmt fold_block fold_do fold_for fold_if fold_while fold out
  block_opens x = fold_out s'.the_members s'.the_sigs s'.the_carrier (s.family S B D F I W) (s.steps S B D F I W k.stmt k.block k.do_loop k.for_loop k.choice k.while_loop) s'.member-Block x
      ∙ ap k.block (s.map_is-Block (s'.the_carrier).T (s.family S B D F I W) (fold_body k) (out s'.the_members s'.the_sigs s'.the_carrier s'.member-Block x))

  pub do_opens : (x : Do) → fold_do k x ≡ k.do_loop (record { body = fold_stmt k (out-Do x).body; test = (out-Do x).test; span = (out-Do x).span })
  unfolding fold_stmt fold_block fold_do fold_for fold_if fold_while fold out
  do_opens x = fold_out s'.the_members s'.the_sigs s'.the_carrier (s.family S B D F I W) (s.steps S B D F I W k.stmt k.block k.do_loop k.for_loop k.choice k.while_loop) s'.member-Do x
      ∙ ap k.do_loop (s.map_is-Do (s'.the_carrier).T (s.family S B D F I W) (fold_body k) (out s'.the_members s'.the_sigs s'.the_carrier s'.member-Do x))

  pub for_opens : (x : For) → fold_for k x ≡ k.for_loop (record { first = option_map (fold_stmt k) (out-For x).first; test = (out-For x).test; step = option_map (fold_stmt k) (out-For x).step; body = fold_stmt k (out-For x).body; span = (out-For x).span })
  unfolding fold_stmt fold_block fold_do fold_for fold_if fold_while fold out
  for_opens x = fold_out s'.the_members s'.the_sigs s'.the_carrier (s.family S B D F I W) (s.steps S B D F I W k.stmt k.block k.do_loop k.for_loop k.choice k.while_loop) s'.member-For x
      ∙ ap k.for_loop (s.map_is-For (s'.the_carrier).T (s.family S B D F I W) (fold_body k) (out s'.the_members s'.the_sigs s'.the_carrier s'.member-For x) ∙ head_is (out-For x).first (out-For x).test (out-For x).step (out-For x).body (out-For x).span)

  pub if_opens : (x : If) → fold_if k x ≡ k.choice (record { test = (out-If x).test; yes = fold_stmt k (out-If x).yes; no = option_map (fold_stmt k) (out-If x).no; span = (out-If x).span })
  unfolding fold_stmt fold_block fold_do fold_for fold_if fold_while fold out
  if_opens x = fold_out s'.the_members s'.the_sigs s'.the_carrier (s.family S B D F I W) (s.steps S B D F I W k.stmt k.block k.do_loop k.for_loop k.choice k.while_loop) s'.member-If x
      ∙ ap k.choice (s.map_is-If (s'.the_carrier).T (s.family S B D F I W) (fold_body k) (out s'.the_members s'.the_sigs s'.the_carrier s'.member-If x) ∙ no_is (out-If x).test (out-If x).yes (out-If x).no (out-If x).span)

  pub while_opens : (x : While) → fold_while k x ≡ k.while_loop (record { test = (out-While x).test; body = fold_stmt k (out-While x).body; span = (out-While x).span })
  unfolding fold_stmt fold_block fold_do fold_for fold_if fold_while fold out
  while_opens x = fold_out s'.the_members s'.the_sigs s'.the_carrier (s.family S B D F I W) (s.steps S B D F I W k.stmt k.block k.do_loop k.for_loop k.choice k.while_loop) s'.member-While x
      ∙ ap k.while_loop (s.map_is-While (s'.the_carrier).T (s.family S B D F I W) (fold_body k) (out s'.the_members s'.the_sigs s'.the_carrier s'.member-While x))

  -- the forms of a statement, each with its parts

  pub stmt_block : (x : Block) → fold_stmt k (stmts.Block x) ≡ k.stmt (Stmt-F.Block (fold_block k x))
  stmt_block x = ap (fold_stmt k) (sym (stmts.rolls-Block x)) ∙ stmt_rolls (Stmt-F.Block x)

  pub stmt_empty : (x : Span) → fold_stmt k (stmts.Empty x) ≡ k.stmt (Stmt-F.Empty x)
  stmt_empty x = ap (fold_stmt k) (sym (stmts.rolls-Empty x)) ∙ stmt_rolls (Stmt-F.Empty x)

  pub stmt_variables : (x : Variables) → fold_stmt k (stmts.Variables x) ≡ k.stmt (Stmt-F.Variables x)
  stmt_variables x = ap (fold_stmt k) (sym (stmts.rolls-Variables x)) ∙ stmt_rolls (Stmt-F.Variables x)

  pub stmt_assign : (x : Assign) → fold_stmt k (stmts.Assign x) ≡ k.stmt (Stmt-F.Assign x)
  stmt_assign x = ap (fold_stmt k) (sym (stmts.rolls-Assign x)) ∙ stmt_rolls (Stmt-F.Assign x)

  pub stmt_call : (x : Call) → fold_stmt k (stmts.Call x) ≡ k.stmt (Stmt-F.Call x)
  stmt_call x = ap (fold_stmt k) (sym (stmts.rolls-Call x)) ∙ stmt_rolls (Stmt-F.Call x)

  pub stmt_operation : (x : Operation) → fold_stmt k (stmts.Operation x) ≡ k.stmt (Stmt-F.Operation x)
  stmt_operation x = ap (fold_stmt k) (sym (stmts.rolls-Operation x)) ∙ stmt_rolls (Stmt-F.Operation x)

  pub stmt_print : (x : Print) → fold_stmt k (stmts.Print x) ≡ k.stmt (Stmt-F.Print x)
  stmt_print x = ap (fold_stmt k) (sym (stmts.rolls-Print x)) ∙ stmt_rolls (Stmt-F.Print x)

  pub stmt_break : (x : Span) → fold_stmt k (stmts.Break x) ≡ k.stmt (Stmt-F.Break x)
  stmt_break x = ap (fold_stmt k) (sym (stmts.rolls-Break x)) ∙ stmt_rolls (Stmt-F.Break x)

  pub stmt_continue : (x : Span) → fold_stmt k (stmts.Continue x) ≡ k.stmt (Stmt-F.Continue x)
  stmt_continue x = ap (fold_stmt k) (sym (stmts.rolls-Continue x)) ∙ stmt_rolls (Stmt-F.Continue x)

  pub stmt_return : (x : Return) → fold_stmt k (stmts.Return x) ≡ k.stmt (Stmt-F.Return x)
  stmt_return x = ap (fold_stmt k) (sym (stmts.rolls-Return x)) ∙ stmt_rolls (Stmt-F.Return x)

  pub stmt_if : (x : If) → fold_stmt k (stmts.If x) ≡ k.stmt (Stmt-F.If (k.choice (record { test = (out-If x).test; yes = fold_stmt k (out-If x).yes; no = option_map (fold_stmt k) (out-If x).no; span = (out-If x).span })))
  stmt_if x = ap (fold_stmt k) (sym (stmts.rolls-If x)) ∙ stmt_rolls (Stmt-F.If x) ∙ ap (λ y. k.stmt (Stmt-F.If y)) (if_opens x)

  pub stmt_while : (x : While) → fold_stmt k (stmts.While x) ≡ k.stmt (Stmt-F.While (k.while_loop (record { test = (out-While x).test; body = fold_stmt k (out-While x).body; span = (out-While x).span })))
  stmt_while x = ap (fold_stmt k) (sym (stmts.rolls-While x)) ∙ stmt_rolls (Stmt-F.While x) ∙ ap (λ y. k.stmt (Stmt-F.While y)) (while_opens x)

  pub stmt_do : (x : Do) → fold_stmt k (stmts.Do x) ≡ k.stmt (Stmt-F.Do (k.do_loop (record { body = fold_stmt k (out-Do x).body; test = (out-Do x).test; span = (out-Do x).span })))
  stmt_do x = ap (fold_stmt k) (sym (stmts.rolls-Do x)) ∙ stmt_rolls (Stmt-F.Do x) ∙ ap (λ y. k.stmt (Stmt-F.Do y)) (do_opens x)

  pub stmt_for : (x : For) → fold_stmt k (stmts.For x) ≡ k.stmt (Stmt-F.For (k.for_loop (record { first = option_map (fold_stmt k) (out-For x).first; test = (out-For x).test; step = option_map (fold_stmt k) (out-For x).step; body = fold_stmt k (out-For x).body; span = (out-For x).span })))
  stmt_for x = ap (fold_stmt k) (sym (stmts.rolls-For x)) ∙ stmt_rolls (Stmt-F.For x) ∙ ap (λ y. k.stmt (Stmt-F.For y)) (for_opens x)
