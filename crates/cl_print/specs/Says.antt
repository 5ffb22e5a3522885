-- What is written of each part of the grammar, and of the parts of a rule. (This project.)
use Rattle.std.specs.Prelude.{ℕ, ◌==◌, ◌||◌, ◌⊎◌, Bool, true, false, List, [], ◌∷◌, ◌++◌, map, if◌then◌else◌}
use Rattle.std.proofs.Common.{inl, inr}
use Rattle.cl_rules.specs.Syntax.{Rule, Token, Nothing, Both, Either, Many, Counted, Symbol}
use Rattle.cl_rules.specs.Values.{Parts}
use Rattle.cl_ast.specs.declared.word.Word.TheVariants as words
use Rattle.cl_ast.specs.declared.mark.Mark.TheVariants as marks
use Rattle.cl_ast.specs.Plain as plain
use Rattle.cl_ast.specs.Plain.{PlainKind, PlainToken}
use Rattle.cl_ast.specs.Grammar.{Part}
use Rattle.cl_ast.specs.Grammar as parts
use Rattle.cl_ast.specs.Trees.{tree_of, kind_bytes, kind_constant, kind_type, kind_verb, is_decrement}
use Rattle.cl_print.specs.Expressions.{Row, mark, constant_kind, verb_word, in_brackets, operand, listed, all_kinds, expr_said, field_kinds, place_kinds}
use Rattle.cl_print.specs.Statements.{type_word, form_kinds, declarator_kinds, variables_kinds, closed, stmt_line, block_kinds}
use Rattle.cl_print.specs.Writing.{parameter_kinds, item_written}

-- of each part: an operand of a level has brackets where it binds too loosely for it
abbrev pub part_said : (p : Part) → tree_of p → Row
part_said parts.index x = mark marks.OpenSquare ++ ((expr_said x.0).kinds ++ mark marks.CloseSquare)
part_said parts.arguments xs = in_brackets (listed (all_kinds (map expr_said xs)))
part_said parts.fields xs = in_brackets (listed (map field_kinds xs))
part_said parts.block x = block_kinds x
part_said parts.place x = place_kinds x
part_said parts.primary x = operand 1 (expr_said x)
part_said parts.unary x = operand 2 (expr_said x)
part_said parts.product x = operand 3 (expr_said x)
part_said parts.sum x = operand 4 (expr_said x)
part_said parts.order x = operand 5 (expr_said x)
part_said parts.equality x = operand 6 (expr_said x)
part_said parts.conjunction x = operand 7 (expr_said x)
part_said parts.expr x = (expr_said x).kinds
part_said parts.spanned x = (expr_said x.expr).kinds
part_said parts.field x = field_kinds x
part_said parts.simple x = (stmt_line x).kinds
part_said parts.plain x = closed (stmt_line x)
part_said parts.statement x = closed (stmt_line x)
part_said parts.given x = form_kinds x.0
part_said parts.declarator x = declarator_kinds x
part_said parts.variables x = variables_kinds x ++ mark marks.Semicolon
part_said parts.params xs = in_brackets (listed (map parameter_kinds xs))
part_said parts.item x = map (λ w. w.kind) (item_written x)

-- ---- tokens, by what the tree keeps of them

abbrev pub size_said : PlainKind → PlainKind
size_said (plain.Name bytes) = plain.Name bytes
size_said k = constant_kind (kind_constant k)

abbrev pub change_said : PlainKind → PlainKind
change_said (plain.Punctuator marks.PlusAssign) = plain.Punctuator marks.PlusAssign
change_said (plain.Punctuator marks.MinusAssign) = plain.Punctuator marks.MinusAssign
change_said (plain.Punctuator marks.TimesAssign) = plain.Punctuator marks.TimesAssign
change_said k = plain.Punctuator marks.Assign

abbrev pub step_said : Bool → PlainKind
step_said true = plain.Punctuator marks.Decrement
step_said false = plain.Punctuator marks.Increment

abbrev pub leave_said : PlainKind → PlainKind
leave_said (plain.Keyword words.Continue) = plain.Keyword words.Continue
leave_said k = plain.Keyword words.Break

-- of some classes: a name, a string, or a token that is the only one of its class
abbrev pub one_said : ℕ → PlainKind → PlainKind → PlainKind
one_said c example k = if c == 0 then plain.Name (kind_bytes k) else (if c == 4 then plain.Str (kind_bytes k) else example)

-- by the first class: a literal, a size, a type, an operation, an assignment, a step, `break` or `continue`
abbrev pub some_said : ℕ → PlainKind → PlainKind
some_said c k =
    if c == 1 then constant_kind (kind_constant k)
    else (if c == 0 then size_said k
    else (if c == 7 then plain.Keyword (type_word (kind_type k))
    else (if (c == 19) || (c == 22) then plain.Keyword (verb_word (kind_verb k))
    else (if c == 35 then change_said k
    else (if c == 39 then step_said (is_decrement k)
    else leave_said k)))))

abbrev pub token_said : List ℕ → PlainKind → PlainKind → PlainKind
token_said [] example k = k
token_said (c ∷ []) example k = one_said c example k
token_said (c ∷ d ∷ cs) example k = some_said c k

-- ---- rules

abbrev pub either_said : {A B : Type 0} → (A → Row) → (B → Row) → A ⊎ B → Row
either_said one other (inl x) = one x
either_said one other (inr x) = other x

abbrev pub all_said : {A : Type 0} → (A → Row) → List A → Row
all_said one [] = []
all_said one (x ∷ xs) = one x ++ all_said one xs

abbrev pub parts_said : (r : Rule PlainToken Part) → Parts tree_of r → Row
parts_said (Token classes example) t = token_said classes example.kind t.kind ∷ []
parts_said Nothing x = []
parts_said (Both a b) x = parts_said a x.0 ++ parts_said b x.1
parts_said (Either a b) x = either_said (parts_said a) (parts_said b) x
parts_said (Many a) xs = all_said (parts_said a) xs
parts_said (Counted a) x = parts_said a x
parts_said (Symbol s) x = part_said s x
