-- Trees of derivations: what each part of the grammar means. Brackets round an expression aren't kept, `++x` and `x++` are one form, so are
-- `(void)` and `()`, and a result type that is left out is `int`. A part's place is that of its tokens. (This project.)
use Rattle.std.specs.Prelude.{ℕ, ◌⊎◌, Bool, true, false, List, [], ◌∷◌, Option, Some, None}
use Rattle.std.proofs.Common.{inl, inr}
use Rattle.cl_rules.specs.Values.{Parts, Meaning}
use Rattle.cl_ast.specs.declared.word.Word.TheVariants as words
use Rattle.cl_ast.specs.declared.mark.Mark.TheVariants as marks
use Rattle.cl_ast.specs.declared.span.Span.{Span}
use Rattle.cl_ast.specs.declared.tree.TypeName.{TypeName}
use Rattle.cl_ast.specs.declared.tree.TypeName.TheVariants as types
use Rattle.cl_ast.specs.declared.tree.Operator.{Operator}
use Rattle.cl_ast.specs.declared.tree.Operator.TheVariants as operators
use Rattle.cl_ast.specs.declared.tree.Verb.{Verb}
use Rattle.cl_ast.specs.declared.tree.Verb.TheVariants as verbs
use Rattle.cl_ast.specs.declared.tree.Name.{Name}
use Rattle.cl_ast.specs.declared.tree.Constant.{Constant}
use Rattle.cl_ast.specs.declared.tree.Constant.TheVariants as constants
use Rattle.cl_ast.specs.declared.tree.Literal.{Literal}
use Rattle.cl_ast.specs.declared.tree.Text.{Text}
use Rattle.cl_ast.specs.declared.tree.Expr.{Expr}
use Rattle.cl_ast.specs.declared.tree.Expr.TheVariants as exprs
use Rattle.cl_ast.specs.declared.tree.Spanned.{Spanned}
use Rattle.cl_ast.specs.declared.tree.Place.{Place, roll-Place}
use Rattle.cl_ast.specs.declared.tree.Call.{Call, roll-Call}
use Rattle.cl_ast.specs.declared.tree.Operation.{Operation, roll-Operation}
use Rattle.cl_ast.specs.declared.tree.Field.{Field}
use Rattle.cl_ast.specs.declared.tree.Field.TheVariants as field_forms
use Rattle.cl_ast.specs.declared.tree.Formal.{roll-Formal}
use Rattle.cl_ast.specs.declared.tree.Chain.{roll-Chain}
use Rattle.cl_ast.specs.declared.tree.Link.{Link, roll-Link}
use Rattle.cl_ast.specs.declared.tree.Prefix.{Prefix, roll-Prefix}
use Rattle.cl_ast.specs.declared.statement.Stmt.{Stmt}
use Rattle.cl_ast.specs.declared.statement.Stmt.TheVariants as stmts
use Rattle.cl_ast.specs.declared.statement.Block.{Block, roll-Block}
use Rattle.cl_ast.specs.declared.statement.Variables.{Variables}
use Rattle.cl_ast.specs.declared.statement.Declarator.{Declarator}
use Rattle.cl_ast.specs.declared.statement.Form.{Form}
use Rattle.cl_ast.specs.declared.statement.Form.TheVariants as forms
use Rattle.cl_ast.specs.declared.statement.Size.{Size}
use Rattle.cl_ast.specs.declared.statement.Size.TheVariants as sizes
use Rattle.cl_ast.specs.declared.statement.Change.{Change}
use Rattle.cl_ast.specs.declared.statement.Change.TheVariants as changes
use Rattle.cl_ast.specs.declared.statement.If.{roll-If}
use Rattle.cl_ast.specs.declared.statement.While.{roll-While}
use Rattle.cl_ast.specs.declared.statement.Do.{roll-Do}
use Rattle.cl_ast.specs.declared.statement.For.{roll-For}
use Rattle.cl_ast.specs.declared.statement.Item.{Item}
use Rattle.cl_ast.specs.declared.statement.Item.TheVariants as items
use Rattle.cl_ast.specs.declared.statement.Parameter.{Parameter}
use Rattle.cl_ast.specs.Plain.{PlainKind, PlainToken}
use Rattle.cl_ast.specs.Plain as kinds
use Rattle.cl_ast.specs.Grammar.{Part, rules}
use Rattle.cl_ast.specs.Grammar as parts

-- ---- tokens

abbrev pub Token : Type 0
Token = PlainToken

-- where a token stands
abbrev pub token_span : Token → Span
token_span t = record { start = t.start; end = t.end }

-- from the start of one to the end of the other
abbrev pub span_between : Span → Span → Span
span_between a b = record { start = a.start; end = b.end }

abbrev pub last_of : Token → List Token → Token
last_of t [] = t
last_of t (u ∷ us) = last_of u us

-- from the first token's start to the last one's end
abbrev pub span_of : List Token → Span
span_of [] = record { start = 0; end = 0 }
span_of (t ∷ ts) = span_between (token_span t) (token_span (last_of t ts))

abbrev pub kind_bytes : PlainKind → List ℕ
kind_bytes (kinds.Name bytes) = bytes
kind_bytes (kinds.Str bytes) = bytes
kind_bytes _ = []

-- a name's or a string's bytes
abbrev pub token_bytes : Token → List ℕ
token_bytes t = kind_bytes t.kind

-- what a token means as a literal
abbrev pub kind_constant : PlainKind → Constant
kind_constant (kinds.Int value) = constants.Int value
kind_constant (kinds.Long value) = constants.Long value
kind_constant (kinds.Character byte) = constants.Character byte
kind_constant _ = constants.Character 0

-- the type that a word names
abbrev pub kind_type : PlainKind → TypeName
kind_type (kinds.Keyword words.Long) = types.Long
kind_type (kinds.Keyword words.Char) = types.Char
kind_type _ = types.Int

-- the operation that a word names
abbrev pub kind_verb : PlainKind → Verb
kind_verb (kinds.Keyword words.In) = verbs.In
kind_verb (kinds.Keyword words.Rd) = verbs.Rd
kind_verb (kinds.Keyword words.Inp) = verbs.Inp
kind_verb (kinds.Keyword words.Rdp) = verbs.Rdp
kind_verb (kinds.Keyword words.Eval) = verbs.Eval
kind_verb _ = verbs.Out

-- the operator that a mark is
abbrev pub kind_operator : PlainKind → Operator
kind_operator (kinds.Punctuator marks.And) = operators.And
kind_operator (kinds.Punctuator marks.Equal) = operators.Equal
kind_operator (kinds.Punctuator marks.NotEqual) = operators.NotEqual
kind_operator (kinds.Punctuator marks.Less) = operators.Less
kind_operator (kinds.Punctuator marks.LessEqual) = operators.LessEqual
kind_operator (kinds.Punctuator marks.Greater) = operators.Greater
kind_operator (kinds.Punctuator marks.GreaterEqual) = operators.GreaterEqual
kind_operator (kinds.Punctuator marks.Plus) = operators.Add
kind_operator (kinds.Punctuator marks.Minus) = operators.Subtract
kind_operator (kinds.Punctuator marks.Times) = operators.Multiply
kind_operator (kinds.Punctuator marks.Divide) = operators.Divide
kind_operator (kinds.Punctuator marks.Remainder) = operators.Remainder
kind_operator _ = operators.Or

-- whether a prefix operator is `!`
abbrev pub is_not : PlainKind → Bool
is_not (kinds.Punctuator marks.Not) = true
is_not _ = false

-- whether a step is `--`
abbrev pub is_decrement : PlainKind → Bool
is_decrement (kinds.Punctuator marks.Decrement) = true
is_decrement _ = false

-- the name that a token is
abbrev pub to_name : Token → Name
to_name t = record { bytes = token_bytes t; span = token_span t }

-- the literal that a token is
abbrev pub to_literal : Token → Literal
to_literal t = record { value = kind_constant t.kind; span = token_span t }

-- the string that a token is
abbrev pub to_text : Token → Text
to_text t = record { bytes = token_bytes t; span = token_span t }

-- ---- lists

-- what stands behind each mark
abbrev pub behind_marks : {A : Type 0} → List (Token × A) → List A
behind_marks [] = []
behind_marks (x ∷ xs) = x.1 ∷ behind_marks xs

-- one, and those behind commas
abbrev pub listed : {A : Type 0} → A × List (Token × A) → List A
listed x = x.0 ∷ behind_marks x.1

abbrev pub listed_or_none : {A : Type 0} → (A × List (Token × A)) ⊎ Unit {0} → List A
listed_or_none (inl x) = listed x
listed_or_none (inr x) = []

abbrev pub to_maybe : {A : Type 0} → A ⊎ Unit {0} → Option A
to_maybe (inl x) = Some x
to_maybe (inr x) = None

-- ---- expressions

-- an index with the place after its bracket
abbrev pub Index : Type 0
Index = Expr × ℕ

abbrev pub index_value : Index ⊎ Unit {0} → Option Expr
index_value (inl x) = Some x.0
index_value (inr x) = None

abbrev pub to_place : List Token → Token → Index ⊎ Unit {0} → Place
to_place ts t x = roll-Place (record { name = to_name t; index = index_value x; span = span_of ts })

abbrev pub to_call : List Token → Token → List Expr → Call
to_call ts t xs = roll-Call (record { name = to_name t; arguments = xs; span = span_of ts })

abbrev pub to_operation : List Token → Token → List Field → Operation
to_operation ts t xs = roll-Operation (record { verb = kind_verb t.kind; fields = xs; span = span_of ts })

-- a name, a call or an element
abbrev pub to_named : List Token → Token → List Expr ⊎ (Index ⊎ Unit {0}) → Expr
to_named ts t (inl xs) = exprs.Call (to_call ts t xs)
to_named ts t (inr x) = exprs.Place (to_place ts t x)

abbrev pub to_primary : List Token → Token ⊎ ((Token × (List Expr ⊎ (Index ⊎ Unit {0}))) ⊎ ((Token × List Field) ⊎ (Token × (Expr × Token)))) → Expr
to_primary ts (inl t) = exprs.Literal (to_literal t)
to_primary ts (inr (inl x)) = to_named ts x.0 x.1
to_primary ts (inr (inr (inl x))) = exprs.Operation (to_operation ts x.0 x.1)
to_primary ts (inr (inr (inr x))) = x.1.0

-- what a prefix operator makes of its operand: `!` or a minus
abbrev pub to_prefix : Bool → Prefix → Expr
to_prefix true x = exprs.Not x
to_prefix false x = exprs.Negate x

abbrev pub to_unary : List Token → Expr ⊎ (Token × Expr) → Expr
to_unary ts (inl x) = x
to_unary ts (inr x) = to_prefix (is_not x.0.kind) (roll-Prefix (record { operand = x.1; span = span_of ts }))

abbrev pub to_links : List (Token × Expr) → List Link
to_links [] = []
to_links (x ∷ xs) = roll-Link (record { operator = kind_operator x.0.kind; operand = x.1 }) ∷ to_links xs

-- one operand is itself, more are a chain
abbrev pub to_chain : Span → Expr → List Link → Expr
to_chain span x [] = x
to_chain span x (y ∷ ys) = exprs.Chain (roll-Chain (record { first = x; others = y ∷ ys; span = span }))

abbrev pub to_level : List Token → Expr × List (Token × Expr) → Expr
to_level ts x = to_chain (span_of ts) x.0 (to_links x.1)

-- an expression with the place of its tokens
abbrev pub to_spanned : List Token → Expr → Spanned
to_spanned ts x = record { expr = x; span = span_of ts }

abbrev pub to_field : List Token → Token ⊎ ((Token × Place) ⊎ Expr) → Field
to_field ts (inl t) = field_forms.Text (to_text t)
to_field ts (inr (inl x)) = field_forms.Formal (roll-Formal (record { target = x.1; span = span_of ts }))
to_field ts (inr (inr x)) = field_forms.Plain x

-- ---- statements

abbrev pub place_span : Token → Index ⊎ Unit {0} → Span
place_span t (inl x) = record { start = t.start; end = x.1 }
place_span t (inr x) = token_span t

-- the change that a mark makes with a value
abbrev pub kind_change : PlainKind → Expr → Change
kind_change (kinds.Punctuator marks.PlusAssign) x = changes.Add x
kind_change (kinds.Punctuator marks.MinusAssign) x = changes.Subtract x
kind_change (kinds.Punctuator marks.TimesAssign) x = changes.Multiply x
kind_change _ x = changes.Set x

-- the change that `--` or `++` is
abbrev pub to_step : Bool → Change
to_step true = changes.Decrement
to_step false = changes.Increment

abbrev pub to_change : (Token × Expr) ⊎ Token → Change
to_change (inl x) = kind_change x.0.kind x.1
to_change (inr t) = to_step (is_decrement t.kind)

abbrev pub to_assign : List Token → Place → Change → Stmt
to_assign ts p c = stmts.Assign (record { place = p; change = c; span = span_of ts })

abbrev pub to_started : List Token → Token → List Expr ⊎ ((Index ⊎ Unit {0}) × ((Token × Expr) ⊎ Token)) → Stmt
to_started ts t (inl xs) = stmts.Call (to_call ts t xs)
to_started ts t (inr x) = to_assign ts (roll-Place (record { name = to_name t; index = index_value x.0; span = place_span t x.0 })) (to_change x.1)

abbrev pub to_simple : List Token → (Token × (List Expr ⊎ ((Index ⊎ Unit {0}) × ((Token × Expr) ⊎ Token))))
    ⊎ ((Token × Place) ⊎ ((Token × List Field) ⊎ (Token × (Token × ((Token × List (Token × Spanned)) × Token))))) → Stmt
to_simple ts (inl x) = to_started ts x.0 x.1
to_simple ts (inr (inl x)) = to_assign ts x.1 (to_step (is_decrement x.0.kind))
to_simple ts (inr (inr (inl x))) = stmts.Operation (to_operation ts x.0 x.1)
to_simple ts (inr (inr (inr x))) = stmts.Print (record { format = to_text x.1.1.0.0; arguments = behind_marks x.1.1.0.1; span = span_of ts })

abbrev pub to_body : Block ⊎ Stmt → Stmt
to_body (inl x) = stmts.Block x
to_body (inr x) = x

abbrev pub to_else : (Token × (Block ⊎ Stmt)) ⊎ Unit {0} → Option Stmt
to_else (inl x) = Some (to_body x.1)
to_else (inr x) = None

abbrev pub to_leave : List Token → Token → PlainKind → Stmt
to_leave ts t (kinds.Keyword words.Continue) = stmts.Continue (span_of ts)
to_leave ts t _ = stmts.Break (span_of ts)

-- ( expr )
abbrev pub Condition : Type 0
Condition = Token × (Expr × Token)

abbrev pub Body : Type 0
Body = Block ⊎ Stmt

abbrev pub Head : Type 0
Head = Token × (((Stmt ⊎ Unit {0}) × (Token × ((Expr ⊎ Unit {0}) × (Token × (Stmt ⊎ Unit {0}))))) × Token)

abbrev pub to_for : List Token → Head → Body → Stmt
to_for ts h b = stmts.For (roll-For (record {
  first = to_maybe h.1.0.0;
  test = to_maybe h.1.0.1.1.0;
  step = to_maybe h.1.0.1.1.1.1;
  body = to_body b;
  span = span_of ts;
}))

abbrev pub Loops : Type 0
Loops = (Token × (Condition × Body)) ⊎ ((Token × (Body × (Token × (Condition × Token)))) ⊎ ((Token × (Head × Body)) ⊎ ((Token × Token) ⊎ (Token × ((Expr ⊎ Unit {0}) × Token)))))

abbrev pub to_loop : List Token → Loops → Stmt
to_loop ts (inl x) = stmts.While (roll-While (record { test = x.1.0.1.0; body = to_body x.1.1; span = span_of ts }))
to_loop ts (inr (inl x)) = stmts.Do (roll-Do (record { body = to_body x.1.0; test = x.1.1.1.0.1.0; span = span_of ts }))
to_loop ts (inr (inr (inl x))) = to_for ts x.1.0 x.1.1
to_loop ts (inr (inr (inr (inl x)))) = to_leave ts x.0 x.0.kind
to_loop ts (inr (inr (inr (inr x)))) = stmts.Return (record { value = to_maybe x.1.0; span = span_of ts })

abbrev pub to_plain : List Token → Token ⊎ ((Stmt × Token) ⊎ ((Token × (Condition × (Body × ((Token × Body) ⊎ Unit {0})))) ⊎ Loops)) → Stmt
to_plain ts (inl t) = stmts.Empty (token_span t)
to_plain ts (inr (inl x)) = x.0
to_plain ts (inr (inr (inl x))) = stmts.If (roll-If (record { test = x.1.0.1.0; yes = to_body x.1.1.0; no = to_else x.1.1.1; span = span_of ts }))
to_plain ts (inr (inr (inr x))) = to_loop ts x

abbrev pub to_inner : List (Variables ⊎ Stmt) → List Stmt
to_inner [] = []
to_inner (inl x ∷ xs) = stmts.Variables x ∷ to_inner xs
to_inner (inr x ∷ xs) = x ∷ to_inner xs

-- ---- declarations

-- what is said of a variable, with the place after it
abbrev pub Given : Type 0
Given = Form × ℕ

-- the size that a token is
abbrev pub kind_size : Token → PlainKind → Size
kind_size t (kinds.Name bytes) = sizes.Name (to_name t)
kind_size t _ = sizes.Number (to_literal t)

abbrev pub to_given : List Token → (Token × (Token × Token)) ⊎ (Token × Spanned) → Given
to_given ts (inl x) = (forms.Array (kind_size x.1.0 x.1.0.kind), (span_of ts).end)
to_given ts (inr x) = (forms.Value x.1, (span_of ts).end)

abbrev pub to_declarator : Token → Given ⊎ Unit {0} → Declarator
to_declarator t (inl x) = record { name = to_name t; form = x.0; span = record { start = t.start; end = x.1 } }
to_declarator t (inr x) = record { name = to_name t; form = forms.Bare; span = token_span t }

abbrev pub to_variables : List Token → Token → List Declarator → Variables
to_variables ts t ds = record { type_name = kind_type t.kind; declarators = ds; span = span_of ts }

abbrev pub to_parameter : Token × Token → Parameter
to_parameter x = record { type_name = kind_type x.0.kind; name = to_name x.1; span = span_between (token_span x.0) (token_span x.1) }

abbrev pub to_parameters : List (Token × Token) → List Parameter
to_parameters [] = []
to_parameters (x ∷ xs) = to_parameter x ∷ to_parameters xs

abbrev pub to_params : (Token ⊎ ((Token × Token) × List (Token × (Token × Token)))) ⊎ Unit {0} → List Parameter
to_params (inl (inl t)) = []
to_params (inl (inr x)) = to_parameters (listed x)
to_params (inr x) = []

abbrev pub to_function : List Token → Option TypeName → Token → List Parameter → Block → Item
to_function ts r t ps b = items.Function (record { result = r; name = to_name t; parameters = ps; body = b; span = span_of ts })

-- whether what may be left out is there
abbrev pub is_there : {A : Type 0} → A ⊎ Unit {0} → Bool
is_there (inl x) = true
is_there (inr x) = false

abbrev pub to_result : Token ⊎ Unit {0} → Option TypeName
to_result (inl t) = None
to_result (inr x) = Some types.Int

abbrev pub to_typed : List Token → Token → Token → (List Parameter × Block) ⊎ ((Given ⊎ Unit {0}) × (List (Token × Declarator) × Token)) → Item
to_typed ts t u (inl x) = to_function ts (Some (kind_type t.kind)) u x.0 x.1
to_typed ts t u (inr x) = items.Variables (to_variables ts t (to_declarator u x.0 ∷ behind_marks x.1.0))

abbrev pub to_item : List Token → (Token × (Token × ((Token ⊎ Unit {0}) × Token)))
    ⊎ ((Token × (Token × ((List Parameter × Block) ⊎ ((Given ⊎ Unit {0}) × (List (Token × Declarator) × Token))))) ⊎ ((Token ⊎ Unit {0}) × (Token × (List Parameter × Block)))) → Item
to_item ts (inl x) = items.Define (record { name = to_name x.1.0; is_negative = is_there x.1.1.0; literal = to_literal x.1.1.1; span = span_of ts })
to_item ts (inr (inl x)) = to_typed ts x.0 x.1.0 x.1.1
to_item ts (inr (inr x)) = to_function ts (to_result x.0) x.1.0 x.1.1.0 x.1.1.1

-- ---- each part

-- of which type its tree is
abbrev pub tree_of : Part → Type 0
tree_of parts.index = Index
tree_of parts.arguments = List Expr
tree_of parts.fields = List Field
tree_of parts.block = Block
tree_of parts.place = Place
tree_of parts.primary = Expr
tree_of parts.unary = Expr
tree_of parts.product = Expr
tree_of parts.sum = Expr
tree_of parts.order = Expr
tree_of parts.equality = Expr
tree_of parts.conjunction = Expr
tree_of parts.expr = Expr
tree_of parts.spanned = Spanned
tree_of parts.field = Field
tree_of parts.simple = Stmt
tree_of parts.plain = Stmt
tree_of parts.statement = Stmt
tree_of parts.given = Given
tree_of parts.declarator = Declarator
tree_of parts.variables = Variables
tree_of parts.params = List Parameter
tree_of parts.item = Item

-- how it is built of its tokens and of the trees of its parts
abbrev pub build : (p : Part) → List Token → Parts tree_of (rules p) → tree_of p
build parts.index ts x = (x.1.0, (span_of ts).end)
build parts.arguments ts x = listed_or_none x.1.0
build parts.fields ts x = listed x.1.0
build parts.block ts x = roll-Block (record { statements = to_inner x.1.0; span = span_of ts })
build parts.place ts x = to_place ts x.0 x.1
build parts.primary ts x = to_primary ts x
build parts.unary ts x = to_unary ts x
build parts.product ts x = to_level ts x
build parts.sum ts x = to_level ts x
build parts.order ts x = to_level ts x
build parts.equality ts x = to_level ts x
build parts.conjunction ts x = to_level ts x
build parts.expr ts x = to_level ts x
build parts.spanned ts x = to_spanned ts x
build parts.field ts x = to_field ts x
build parts.simple ts x = to_simple ts x
build parts.plain ts x = to_plain ts x
build parts.statement ts x = to_body x
build parts.given ts x = to_given ts x
build parts.declarator ts x = to_declarator x.0 x.1
build parts.variables ts x = to_variables ts x.0 (listed x.1.0)
build parts.params ts x = to_params x.1.0
build parts.item ts x = to_item ts x

-- the trees that the parts mean
abbrev pub meaning : Meaning rules
meaning = record { of = tree_of; build = build }
