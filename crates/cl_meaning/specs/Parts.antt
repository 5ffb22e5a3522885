-- What the parts of a tree do, beside expressions and statements. (ISO/IEC 9899:1999, 6.5 and 6.8.)
use Rattle.std.specs.Prelude.{ℕ, map, option_map, if◌then◌else◌}
use Rattle.cl_value.specs.declared.value.Value.{Value}
use Rattle.cl_value.specs.Plain.{PlainPart}
use Rattle.cl_ast.specs.declared.tree.Field.{Field}
use Rattle.cl_ast.specs.declared.tree.Call.{Call, out-Call}
use Rattle.cl_ast.specs.declared.tree.Chain.{Chain, out-Chain}
use Rattle.cl_ast.specs.declared.tree.Link.{Link, out-Link}
use Rattle.cl_ast.specs.declared.tree.Formal.{Formal}
use Rattle.cl_ast.specs.declared.tree.Prefix.{Prefix}
use Rattle.cl_ast.specs.declared.tree.Operator.{Operator}
use Rattle.cl_ast.specs.declared.statement.If.{If, out-If}
use Rattle.cl_ast.specs.declared.statement.While.{While, out-While}
use Rattle.cl_ast.specs.declared.statement.Do.{Do, out-Do}
use Rattle.cl_ast.specs.declared.statement.For.{For, out-For}
use Rattle.cl_ast.specs.declared.statement.Size.{Size}
use Rattle.cl_ast.specs.Folds.{fold_field, fold_link, fold_chain, fold_formal, fold_prefix}
use Rattle.cl_listing.specs.Names.{Name}
use Rattle.cl_model.specs.Doing.{◌>>=◌, ◌>>◌, pure, checked, each, through}
use Rattle.cl_model.specs.Numbers.{is_zero}
use Rattle.cl_meaning.specs.Operators.{operated}
use Rattle.cl_meaning.specs.Operations.{Does, Aim, value_at}
use Rattle.cl_meaning.specs.Expressions.{Surroundings, FieldDoes, value, joined, expr_steps}
use Rattle.cl_meaning.specs.Statements.{Exit, WentOn, loop, do_loop, turn, or_nothing, or_true, does}
use Rattle.cl_meaning.specs.Statements as meaning

module _ (around : Surroundings) where
  unfoldable pub field_meant : Field → FieldDoes
  field_meant = fold_field (expr_steps around)

  unfoldable pub link_meant : Link → Value → Does Value
  link_meant = fold_link (expr_steps around)

  unfoldable pub chain_meant : Chain → Does Value
  chain_meant = fold_chain (expr_steps around)

  unfoldable pub formal_meant : Formal → Does Aim
  formal_meant = fold_formal (expr_steps around)

  unfoldable pub prefix_meant : Prefix → Does Value
  prefix_meant = fold_prefix (expr_steps around)

  -- a field of an operation other than `eval`, and one of an `eval`
  abbrev pub field_aim : Field → Does Aim
  field_aim field = (field_meant field).aim

  -- a field of an `eval`, as a part of the live tuple
  abbrev pub field_part : Field → Does PlainPart
  field_part field = (field_meant field).part

  -- a call that is a field of an `eval`
  abbrev pub call_part : Call → Does PlainPart
  call_part c = each (map (value around) (out-Call c).arguments) >>= around.live_call (out-Call c).name.bytes

  -- an operator and its right operand, behind the value on the left
  abbrev pub link_value : Link → Value → Does Value
  link_value l = joined (out-Link l).operator (value around (out-Link l).operand)

  -- the first operand, and then each operator from left to right
  abbrev pub chain_value : Chain → Does Value
  chain_value c = value around (out-Chain c).first >>= through (map link_value (out-Chain c).others)

  -- a place gets a value that an operator makes of its old one and of another
  abbrev pub new_value : Name → ℕ → Operator → Does Value → Does Value
  new_value name at operator right = do
    old ← value_at name at
    v ← right
    checked (operated operator old v)

  module _ (length_of : Size → ℕ) where
    -- the condition, and then the branch that it tells, where there is one
    abbrev pub if_exit : If → Does Exit
    if_exit x = value around (out-If x).test >>= (λ v. if is_zero v then or_nothing (option_map (does around length_of) (out-If x).no) else does around length_of (out-If x).yes)

    -- all turns of a `while`, the condition before each
    abbrev pub while_exit : While → Does Exit
    while_exit w = loop (value around (out-While w).test) (does around length_of (out-While w).body) (pure WentOn)

    -- one turn of a `while`, and what is done again behind it
    abbrev pub while_turn : While → Does Exit → Does Exit
    while_turn w again = turn (value around (out-While w).test) (does around length_of (out-While w).body) (pure WentOn) again

    -- all turns of a `do`, the condition behind each
    abbrev pub do_exit : Do → Does Exit
    do_exit d = do_loop (value around (out-Do d).test) (does around length_of (out-Do d).body)

    -- one turn of a `do`, and what is done again behind it
    abbrev pub do_turn : Do → Does Exit → Does Exit
    do_turn d again = meaning.do_turn (value around (out-Do d).test) (does around length_of (out-Do d).body) again

    -- all turns of a `for`, behind its first statement
    abbrev pub for_turns : For → Does Exit
    for_turns f = loop (or_true around length_of (out-For f).test) (does around length_of (out-For f).body) (or_nothing (option_map (does around length_of) (out-For f).step))

    -- the first statement of a `for`, then its turns
    abbrev pub for_exit : For → Does Exit
    for_exit f = or_nothing (option_map (does around length_of) (out-For f).first) >> for_turns f

    -- one turn of a `for` with its step, and what is done again behind it
    abbrev pub for_turn : For → Does Exit → Does Exit
    for_turn f again = turn (or_true around length_of (out-For f).test) (does around length_of (out-For f).body) (or_nothing (option_map (does around length_of) (out-For f).step)) again
