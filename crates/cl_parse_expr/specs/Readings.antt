-- Parts of expressions that functions read by themselves. (This project.)
use Rattle.std.specs.Prelude.{ℕ, ◌-◌, ◌==◌, List, [], ◌∷◌, if◌then◌else◌, Ok, Err}
use Rattle.std.proofs.Common.{inl, inr}
use Rattle.cl_rules.specs.Rules.{Syntax, TooDeep, renamed}
use Rattle.cl_rules.specs.Syntax.{Many, Symbol, ◌⨾◌}
use Rattle.cl_rules.specs.Values.{values, before_rest}
use Rattle.cl_rules.specs.Unroll.{Step, onwards}
use Rattle.cl_ast.specs.declared.mark.Mark.TheVariants as marks
use Rattle.cl_ast.specs.declared.tree.Expr.{Expr}
use Rattle.cl_ast.specs.declared.tree.Field.{Field}
use Rattle.cl_ast.specs.declared.tree.Link.{Link, roll-Link}
use Rattle.cl_ast.specs.Plain.{PlainToken}
use Rattle.cl_ast.specs.Classes.{mark_class}
use Rattle.cl_ast.specs.Grammar.{Part, Row, mark, mark_of}
use Rattle.cl_ast.specs.Grammar as parts
use Rattle.cl_ast.specs.Tables.{language, expr_firsts}
use Rattle.cl_ast.specs.Trees.{meaning, behind_marks, to_links, kind_operator, to_unary, to_primary}
use Rattle.cl_parse_expr.specs.declared.class.Level.{Level}
use Rattle.cl_parse_expr.specs.declared.class.Level.TheVariants as levels
use Rattle.cl_parse_expr.specs.Classes.{level_classes}
use Rattle.cl_parse_expr.specs.Steps.{begins_of, token_of, reading}

-- the operators of a level
abbrev pub operator_row : Level → Row
operator_row levels.Product = mark_of marks.Times (marks.Divide ∷ marks.Remainder ∷ [])
operator_row levels.Sum = mark_of marks.Plus (marks.Minus ∷ [])
operator_row levels.Order = mark_of marks.Less (marks.Greater ∷ marks.LessEqual ∷ marks.GreaterEqual ∷ [])
operator_row levels.Equality = mark_of marks.Equal (marks.NotEqual ∷ [])
operator_row levels.Conjunction = mark marks.And
operator_row levels.Expr = mark marks.Or

-- a level, and its operands
abbrev pub level_reading : Level → ℕ → List PlainToken → Step PlainToken Expr
level_reading levels.Product n ts = reading parts.product n ts
level_reading levels.Sum n ts = reading parts.sum n ts
level_reading levels.Order n ts = reading parts.order n ts
level_reading levels.Equality n ts = reading parts.equality n ts
level_reading levels.Conjunction n ts = reading parts.conjunction n ts
level_reading levels.Expr n ts = reading parts.expr n ts

-- an operand of a level: an expression of the level that binds closer
abbrev pub operand_reading : Level → ℕ → List PlainToken → Step PlainToken Expr
operand_reading levels.Product n ts = reading parts.unary n ts
operand_reading levels.Sum n ts = reading parts.product n ts
operand_reading levels.Order n ts = reading parts.sum n ts
operand_reading levels.Equality n ts = reading parts.order n ts
operand_reading levels.Conjunction n ts = reading parts.equality n ts
operand_reading levels.Expr n ts = reading parts.conjunction n ts

-- an operator and the operand behind it
abbrev pub to_link : PlainToken → Expr → Link
to_link t x = roll-Link (record { operator = kind_operator t.kind; operand = x })

-- one operator of a level, and the operand behind it
unfoldable pub link_reading : Level → ℕ → List PlainToken → Step PlainToken Link
link_reading l n ts = onwards (token_of (level_classes l) ts) (λ t us. onwards (operand_reading l n us) (λ x vs. Ok (to_link t x, vs)))

-- any number of them
unfoldable pub links_reading : Level → ℕ → List PlainToken → Step PlainToken (List Link)
links_reading levels.Product n ts = renamed to_links (values language meaning n (Many (operator_row levels.Product ⨾ Symbol parts.unary)) ts)
links_reading levels.Sum n ts = renamed to_links (values language meaning n (Many (operator_row levels.Sum ⨾ Symbol parts.product)) ts)
links_reading levels.Order n ts = renamed to_links (values language meaning n (Many (operator_row levels.Order ⨾ Symbol parts.sum)) ts)
links_reading levels.Equality n ts = renamed to_links (values language meaning n (Many (operator_row levels.Equality ⨾ Symbol parts.order)) ts)
links_reading levels.Conjunction n ts = renamed to_links (values language meaning n (Many (operator_row levels.Conjunction ⨾ Symbol parts.equality)) ts)
links_reading levels.Expr n ts = renamed to_links (values language meaning n (Many (operator_row levels.Expr ⨾ Symbol parts.conjunction)) ts)

-- a comma and an expression, and any number of them
unfoldable pub argument_reading : ℕ → List PlainToken → Step PlainToken Expr
argument_reading n ts = onwards (token_of (mark_class marks.Comma ∷ []) ts) (λ t us. onwards (reading parts.expr n us) (λ x vs. Ok (x, vs)))

-- any number of expressions, each behind a comma
unfoldable pub arguments_reading : ℕ → List PlainToken → Step PlainToken (List Expr)
arguments_reading n ts = renamed behind_marks (values language meaning n (Many (mark marks.Comma ⨾ Symbol parts.expr)) ts)

-- a comma and a field, and any number of them
unfoldable pub field_reading : ℕ → List PlainToken → Step PlainToken Field
field_reading n ts = onwards (token_of (mark_class marks.Comma ∷ []) ts) (λ t us. onwards (reading parts.field n us) (λ x vs. Ok (x, vs)))

-- any number of fields, each behind a comma
unfoldable pub fields_reading : ℕ → List PlainToken → Step PlainToken (List Field)
fields_reading n ts = renamed behind_marks (values language meaning n (Many (mark marks.Comma ⨾ Symbol parts.field)) ts)

-- where a counted part can't stand the first token tells why
abbrev pub refused : {A : Type 0} → List ℕ → List PlainToken → Step PlainToken A
refused classes ts = if begins_of classes ts then Err (TooDeep, ts) else Err (Syntax, ts)

-- expressions with commas between them, or none
unfoldable pub listed_reading : ℕ → List PlainToken → Step PlainToken (List Expr)
listed_reading n ts =
    if begins_of expr_firsts ts then onwards (reading parts.expr n ts) (λ x us. onwards (arguments_reading n us) (λ xs vs. Ok (x ∷ xs, vs))) else Ok ([], ts)

-- a prefix operator and its operand
unfoldable pub prefixed_reading : ℕ → List PlainToken → Step PlainToken Expr
prefixed_reading n ts =
    if n == 0 then refused (mark_class marks.Minus ∷ mark_class marks.Not ∷ []) ts
    else onwards (token_of (mark_class marks.Minus ∷ mark_class marks.Not ∷ []) ts)
    (λ t us. onwards (reading parts.unary (n - 1) us) (λ x vs. Ok (to_unary (before_rest ts vs) (inr (t, x)), vs)))

-- an expression in brackets
unfoldable pub bracketed_reading : ℕ → List PlainToken → Step PlainToken Expr
bracketed_reading n ts =
    if n == 0 then refused (mark_class marks.OpenBracket ∷ []) ts
    else onwards (token_of (mark_class marks.OpenBracket ∷ []) ts)
    (λ t us. onwards (reading parts.expr (n - 1) us) (λ x vs. onwards (token_of (mark_class marks.CloseBracket ∷ []) vs) (λ u ws. Ok (x, ws))))

-- a name with what stands behind it: a call, an element or a variable
unfoldable pub named_reading : ℕ → List PlainToken → Step PlainToken Expr
named_reading n ts =
    onwards (token_of (0 ∷ []) ts)
    (λ t us.
    if begins_of (mark_class marks.OpenBracket ∷ []) us then onwards (reading parts.arguments n us) (λ xs vs. Ok (to_primary (before_rest ts vs) (inr (inl (t, inl xs))), vs))
    else (if begins_of (mark_class marks.OpenSquare ∷ []) us
    then onwards (reading parts.index n us) (λ x vs. Ok (to_primary (before_rest ts vs) (inr (inl (t, inr (inl x)))), vs))
    else Ok (to_primary (before_rest ts us) (inr (inl (t, inr (inr tt)))), us)))
