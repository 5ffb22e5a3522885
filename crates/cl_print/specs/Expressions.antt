-- The tokens of an expression. Brackets stand round an operand exactly where the grammar needs them: where it binds no closer than what it
-- is an operand of. (ISO/IEC 9899:1999, 6.5.1 to 6.5.14.)
use Rattle.std.specs.Prelude.{ℕ, nat_lt, Bool, true, false, List, [], ◌∷◌, ◌++◌, Option, Some, None, if◌then◌else◌}
use Rattle.cl_ast.specs.declared.word.Word.{Word}
use Rattle.cl_ast.specs.declared.word.Word.TheVariants as words
use Rattle.cl_ast.specs.declared.mark.Mark.{Mark}
use Rattle.cl_ast.specs.declared.mark.Mark.TheVariants as marks
use Rattle.cl_ast.specs.declared.tree.Operator.{Operator}
use Rattle.cl_ast.specs.declared.tree.Operator.TheVariants as operators
use Rattle.cl_ast.specs.declared.tree.Verb.{Verb}
use Rattle.cl_ast.specs.declared.tree.Verb.TheVariants as verbs
use Rattle.cl_ast.specs.declared.tree.Constant.{Constant}
use Rattle.cl_ast.specs.declared.tree.Constant.TheVariants as constants
use Rattle.cl_ast.specs.declared.tree.Expr.{Expr}
use Rattle.cl_ast.specs.declared.tree.Field.{Field}
use Rattle.cl_ast.specs.declared.tree.Call.{Call}
use Rattle.cl_ast.specs.declared.tree.Chain.{Chain}
use Rattle.cl_ast.specs.declared.tree.Formal.{Formal}
use Rattle.cl_ast.specs.declared.tree.Link.{Link}
use Rattle.cl_ast.specs.declared.tree.Operation.{Operation}
use Rattle.cl_ast.specs.declared.tree.Place.{Place}
use Rattle.cl_ast.specs.declared.tree.Prefix.{Prefix}
use Rattle.cl_ast.specs.declared.tree.Expr.TheOpen.{Expr-F, Field-F, Call-F, Chain-F, Formal-F, Link-F, Operation-F, Place-F, Prefix-F}
use Rattle.cl_ast.specs.Plain.{PlainKind, Name, Int, Long, Character, Str, Keyword, Punctuator}
use Rattle.cl_ast.specs.Folds.{ExprSteps, fold_expr, fold_field, fold_call, fold_chain, fold_formal, fold_link, fold_operation, fold_place, fold_prefix}
use Rattle.cl_print.specs.Spelling.{one}

-- ---- tokens

-- the tokens of one mark
abbrev pub mark : Mark → List PlainKind
mark m = one (Punctuator m)

-- the tokens of one word of the grammar
abbrev pub word : Word → List PlainKind
word w = one (Keyword w)

-- the token of a constant; a sign would be a token of its own
abbrev pub constant_kind : Constant → PlainKind
constant_kind (constants.Int value) = Int value
constant_kind (constants.Long value) = Long value
constant_kind (constants.Character byte) = Character byte

-- the word by which an operation is written
abbrev pub verb_word : Verb → Word
verb_word verbs.Out = words.Out
verb_word verbs.In = words.In
verb_word verbs.Rd = words.Rd
verb_word verbs.Inp = words.Inp
verb_word verbs.Rdp = words.Rdp
verb_word verbs.Eval = words.Eval

-- the mark by which an operator is written
abbrev pub operator_mark : Operator → Mark
operator_mark operators.Or = marks.Or
operator_mark operators.And = marks.And
operator_mark operators.Equal = marks.Equal
operator_mark operators.NotEqual = marks.NotEqual
operator_mark operators.Less = marks.Less
operator_mark operators.LessEqual = marks.LessEqual
operator_mark operators.Greater = marks.Greater
operator_mark operators.GreaterEqual = marks.GreaterEqual
operator_mark operators.Add = marks.Plus
operator_mark operators.Subtract = marks.Minus
operator_mark operators.Multiply = marks.Times
operator_mark operators.Divide = marks.Divide
operator_mark operators.Remainder = marks.Remainder

-- ---- how loosely an expression binds

-- 0 a literal, a place, a call, an operation; 1 a prefix operator with its operand; 2 to 7 a chain, from products on
abbrev pub operator_rank : Operator → ℕ
operator_rank operators.Or = 7
operator_rank operators.And = 6
operator_rank operators.Equal = 5
operator_rank operators.NotEqual = 5
operator_rank operators.Less = 4
operator_rank operators.LessEqual = 4
operator_rank operators.Greater = 4
operator_rank operators.GreaterEqual = 4
operator_rank operators.Add = 3
operator_rank operators.Subtract = 3
operator_rank operators.Multiply = 2
operator_rank operators.Divide = 2
operator_rank operators.Remainder = 2

-- an expression's tokens, and how loosely it binds
pub record Said : Type 0 where
  pub kinds : List PlainKind
  pub rank : ℕ

-- an operator, and the operand behind it
pub record Joined : Type 0 where
  pub operator : Operator
  pub operand : Said

abbrev pub in_brackets : List PlainKind → List PlainKind
in_brackets kinds = mark marks.OpenBracket ++ (kinds ++ mark marks.CloseBracket)

-- an operand: in brackets, unless it binds closer than this
abbrev pub operand : ℕ → Said → List PlainKind
operand rank x = if nat_lt x.rank rank then x.kinds else in_brackets x.kinds

-- the operands behind the first, which stand in a chain of this rank
abbrev pub links : ℕ → List Joined → List PlainKind
links rank [] = []
links rank (l ∷ ls) = mark (operator_mark l.operator) ++ (operand rank l.operand ++ links rank ls)

-- a chain's operators are of one rank
abbrev pub chain_rank : List Joined → ℕ
chain_rank [] = 7
chain_rank (l ∷ ls) = operator_rank l.operator

-- ---- lists

-- what stands before a part of a list: a comma, but nothing before the first
abbrev pub comma : Bool → List PlainKind
comma true = []
comma false = mark marks.Comma

-- the parts of a list that are left, with their commas
abbrev pub listed_on : Bool → List (List PlainKind) → List PlainKind
listed_on is_first [] = []
listed_on is_first (x ∷ xs) = comma is_first ++ (x ++ listed_on false xs)

-- with commas between them
abbrev pub listed : List (List PlainKind) → List PlainKind
listed xs = listed_on true xs

-- each behind a comma
abbrev pub behind_commas : List (List PlainKind) → List PlainKind
behind_commas xs = listed_on false xs

-- the tokens of each expression, without brackets round it
abbrev pub all_kinds : List Said → List (List PlainKind)
all_kinds [] = []
all_kinds (x ∷ xs) = x.kinds ∷ all_kinds xs

-- ---- each part

abbrev pub indexed : Option Said → List PlainKind
indexed None = []
indexed (Some x) = mark marks.OpenSquare ++ (x.kinds ++ mark marks.CloseSquare)

-- tokens in the order in which they are written
abbrev pub Row : Type 0
Row = List PlainKind

abbrev pub close : Row → Said
close kinds = record { kinds = kinds; rank = 0 }

abbrev pub prefixed : Mark → Row → Said
prefixed m kinds = record { kinds = mark m ++ kinds; rank = 1 }

abbrev pub expr_step : Expr-F Said Row Row Said Row Joined Row Row Row → Said
expr_step (Expr-F.Literal l) = close (one (constant_kind l.value))
expr_step (Expr-F.Place p) = close p
expr_step (Expr-F.Call c) = close c
expr_step (Expr-F.Operation o) = close o
expr_step (Expr-F.Chain c) = c
expr_step (Expr-F.Negate p) = prefixed marks.Minus p
expr_step (Expr-F.Not p) = prefixed marks.Not p

abbrev pub field_step : Field-F Said Row Row Said Row Joined Row Row Row → Row
field_step (Field-F.Text t) = one (Str t.bytes)
field_step (Field-F.Formal f) = f
field_step (Field-F.Plain x) = x.kinds

abbrev pub call_step : Call-F Said Row Row Said Row Joined Row Row Row → Row
call_step c = one (Name c.name.bytes) ++ in_brackets (listed (all_kinds c.arguments))

abbrev pub chain_step : Chain-F Said Row Row Said Row Joined Row Row Row → Said
chain_step c =
    let rank = chain_rank c.others in
    record { kinds = operand rank c.first ++ links rank c.others; rank = rank }

abbrev pub formal_step : Formal-F Said Row Row Said Row Joined Row Row Row → Row
formal_step f = mark marks.Question ++ f.target

abbrev pub link_step : Link-F Said Row Row Said Row Joined Row Row Row → Joined
link_step l = record { operator = l.operator; operand = l.operand }

abbrev pub operation_step : Operation-F Said Row Row Said Row Joined Row Row Row → Row
operation_step o = word (verb_word o.verb) ++ in_brackets (listed o.fields)

abbrev pub place_step : Place-F Said Row Row Said Row Joined Row Row Row → Row
place_step p = one (Name p.name.bytes) ++ indexed p.index

-- the operand of a prefix operator, which binds no looser than one
abbrev pub prefix_step : Prefix-F Said Row Row Said Row Joined Row Row Row → Row
prefix_step p = operand 2 p.operand

-- what is written of each part of an expression, from what is written of its own parts
abbrev pub steps : ExprSteps Said Row Row Said Row Joined Row Row Row
steps = record {
  expr = expr_step;
  field = field_step;
  call = call_step;
  chain = chain_step;
  formal = formal_step;
  link = link_step;
  operation = operation_step;
  place = place_step;
  prefix = prefix_step;
}

-- ---- what is written of each

-- an expression's tokens, and how loosely it binds
unfoldable pub expr_said : Expr → Said
expr_said = fold_expr steps

-- the tokens of a field
unfoldable pub field_kinds : Field → Row
field_kinds = fold_field steps

-- a name, and the arguments in brackets
unfoldable pub call_kinds : Call → Row
call_kinds = fold_call steps

-- operands with operators between them, which bind as loosely as the operators do
unfoldable pub chain_said : Chain → Said
chain_said = fold_chain steps

-- `?` and the place that is to get a value
unfoldable pub formal_kinds : Formal → Row
formal_kinds = fold_formal steps

-- an operator, and what is written of the operand behind it
unfoldable pub link_joined : Link → Joined
link_joined = fold_link steps

-- the operation's word, and the fields in brackets
unfoldable pub operation_kinds : Operation → Row
operation_kinds = fold_operation steps

-- a name, and the index in square brackets where there is one
unfoldable pub place_kinds : Place → Row
place_kinds = fold_place steps

-- the operand of a prefix operator, without that operator
unfoldable pub prefix_kinds : Prefix → Row
prefix_kinds = fold_prefix steps
