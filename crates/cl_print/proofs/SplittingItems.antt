-- The canonical text of a source is split into its tokens.
use Rattle.std.proofs.Common.{◌≡◌, ℕ, ◌+◌, Bool, true, false, ◌&&◌, List, [], ◌∷◌, ◌++◌, map, length, Option, Some, None, codes, refl, sym, ap, subst, ◌∙◌, append_assoc}
use Rattle.std.proofs.lemmas.List.{append-nil}
use Rattle.std.specs.List.{list_all}
use Rattle.std.proofs.lemmas.Bool.{and_from, and_parts}
use Rattle.cl_ast.specs.declared.mark.Mark.TheVariants as marks
use Rattle.cl_ast.specs.declared.tree.Constant.{Constant}
use Rattle.cl_ast.specs.declared.tree.Constant.TheVariants as constants
use Rattle.cl_ast.specs.declared.statement.Define.{Define}
use Rattle.cl_ast.specs.declared.statement.Variables.{Variables}
use Rattle.cl_ast.specs.declared.statement.Block.{Block}
use Rattle.cl_ast.specs.declared.statement.Function.{Function}
use Rattle.cl_ast.specs.declared.statement.Item.{Item}
use Rattle.cl_ast.specs.declared.statement.Item.TheVariants as items
use Rattle.cl_ast.specs.Plain as plain
use Rattle.cl_ast.specs.Plain.{PlainKind, PlainToken}
use Rattle.cl_ast.specs.Pieces.{Piece, Fills, Defines, Separator, DefineLine, is_literal_kind, is_define, is_name, define_spelling, head_spelling, lexeme_tokens}
use Rattle.cl_ast.specs.Lexemes.{lexeme_kind, lexeme_spelling}
use Rattle.cl_ast.specs.Splits.{Leads, tokens_of, Splits}
use Rattle.cl_print.specs.Spelling.{Written, spaced, lexeme_of, spelling, mark_bytes, text_of, line, one}
use Rattle.cl_print.specs.Expressions.{mark, word, constant_kind, in_brackets, listed}
use Rattle.cl_print.specs.Statements.{variables_kinds, block_kinds, in_order, stmt_line}
use Rattle.cl_print.specs.Writing.{function_kinds, result_word, parameter_kinds, define_written, item_written, written, canonical}
use Rattle.cl_print.specs.Sayable.{is_sayable}
use Rattle.cl_print.proofs.Lines.{text_append}
use Rattle.cl_print.proofs.StatementEquations.{block_is}
use Rattle.cl_print.proofs.Spelled.{sayable_spelled}
use Rattle.cl_print.proofs.Splitting.{none_begin, is_last, leads_on, kinds, AreOf, are_on, fresh_after, row_pieces, row_leads, row_are}

-- the kinds of what is written
abbrev pub written_kinds : List Written → List PlainKind
written_kinds ws = map (λ w. w.kind) ws

pub spaced_kinds : (ks : List PlainKind) → written_kinds (map spaced ks) ≡ ks
spaced_kinds [] = refl
spaced_kinds (k ∷ ks) = ap (λ l. k ∷ l) (spaced_kinds ks)

-- ---- a define line

abbrev blanks_of : Bool → Option (List ℕ)
blanks_of true = Some []
blanks_of false = None

abbrev define_line : Define → DefineLine
define_line d = record { spaces = []; before = 32 ∷ []; name = d.name.bytes; between = 32 ∷ []; minus = blanks_of d.is_negative; literal = lexeme_of (constant_kind d.literal.value); tail = [] }

abbrev define_pieces : Define → List Piece
define_pieces d = Defines (define_line d) ∷ Fills (Separator 10) ∷ []

is_literal : (v : Constant) → is_literal_kind (Some (constant_kind v)) ≡ true
is_literal (constants.Int value) = refl
is_literal (constants.Long value) = refl
is_literal (constants.Character byte) = refl

regroup : (name middle value rest : List ℕ) → (name ++ (middle ++ (value ++ 10 ∷ []))) ++ rest ≡ ((name ++ middle) ++ (value ++ [])) ++ (10 ∷ rest)
regroup name middle value rest =
    append_assoc name (middle ++ (value ++ 10 ∷ [])) rest
    ∙ ap (λ t. name ++ t) (append_assoc middle (value ++ 10 ∷ []) rest ∙ ap (λ t. middle ++ t) (append_assoc value (10 ∷ []) rest))
    ∙ sym (ap (λ v. ((name ++ middle) ++ v) ++ (10 ∷ rest)) (append-nil value) ∙ append_assoc (name ++ middle) value (10 ∷ rest) ∙ append_assoc name middle (value ++ (10 ∷ rest)))

define_whole : (d : Define) (rest : List ℕ) → text_of (define_written d) ++ rest ≡ define_spelling (define_line d) ++ (10 ∷ rest)
unfolding text_of define_written spelling mark_bytes
define_whole d rest = by d.is_negative
  where
    value : List ℕ
    value = lexeme_spelling (lexeme_of (constant_kind d.literal.value))

    by : (b : Bool) → text_of (define_written (record d { is_negative = b })) ++ rest ≡ define_spelling (define_line (record d { is_negative = b })) ++ (10 ∷ rest)
    by true = ap (λ (t : List ℕ). codes "#define " ++ t) (regroup d.name.bytes (32 ∷ 45 ∷ []) value rest)
    by false = ap (λ (t : List ℕ). codes "#define " ++ t) (regroup d.name.bytes (32 ∷ []) value rest)

-- what a define line needs
abbrev pub define_sayable : Define → Bool
define_sayable d = is_name d.name.bytes && is_sayable (constant_kind d.literal.value)

define_form : (d : Define) → define_sayable d ≡ true → is_define (define_line d) ≡ true
define_form d say = by d.is_negative
  where
    parts : (is_name d.name.bytes ≡ true) × (is_sayable (constant_kind d.literal.value) ≡ true)
    parts = and_parts (is_name d.name.bytes) (is_sayable (constant_kind d.literal.value)) say

    literal : is_literal_kind (lexeme_kind (lexeme_of (constant_kind d.literal.value))) ≡ true
    literal = ap is_literal_kind (sayable_spelled (constant_kind d.literal.value) parts.1) ∙ is_literal d.literal.value

    by : (b : Bool) → is_define (define_line (record d { is_negative = b })) ≡ true
    by true = and_from (is_name d.name.bytes && true) _ (and_from (is_name d.name.bytes) true parts.0 refl) (and_from (is_literal_kind (lexeme_kind (lexeme_of (constant_kind d.literal.value)))) true literal refl)
    by false = and_from (is_name d.name.bytes && true) _ (and_from (is_name d.name.bytes) true parts.0 refl) (and_from (is_literal_kind (lexeme_kind (lexeme_of (constant_kind d.literal.value)))) true literal refl)

define_leads : (d : Define) (rest : List ℕ) → define_sayable d ≡ true → Leads true (text_of (define_written d) ++ rest) (define_pieces d) true rest
define_leads d rest say = (
  10 ∷ rest,
  record { whole = define_whole d rest; form = define_form d say; longest = refl },
  (rest, record { whole = refl; form = refl; longest = none_begin rest }, (refl, refl)),
)

define_are : (d : Define) → define_sayable d ≡ true → AreOf (define_pieces d) (written_kinds (define_written d))
unfolding define_written
define_are d say start = by d.is_negative
  where
    value : lexeme_kind (lexeme_of (constant_kind d.literal.value)) ≡ Some (constant_kind d.literal.value)
    value = sayable_spelled (constant_kind d.literal.value) (and_parts (is_name d.name.bytes) (is_sayable (constant_kind d.literal.value)) say).1

    by : (b : Bool) → kinds (tokens_of start (define_pieces (record d { is_negative = b }))) ≡ written_kinds (define_written (record d { is_negative = b }))
    by true = ap (λ o. plain.Define ∷ plain.Name d.name.bytes ∷ plain.Punctuator marks.Minus ∷ kinds (lexeme_tokens (start + length (head_spelling (define_line (record d { is_negative = true })))) (lexeme_of (constant_kind d.literal.value)) o ++ [])) value
    by false = ap (λ o. plain.Define ∷ plain.Name d.name.bytes ∷ kinds (lexeme_tokens (start + length (head_spelling (define_line (record d { is_negative = false })))) (lexeme_of (constant_kind d.literal.value)) o ++ [])) value

-- ---- items

-- a row whose last token ends a line
abbrev pub item_sayable : Item → Bool
item_sayable (items.Define d) = define_sayable d
item_sayable (items.Variables v) = list_all is_sayable (variables_kinds v ++ mark marks.Semicolon)
item_sayable (items.Function f) = list_all is_sayable (function_kinds f)

abbrev item_pieces : Item → List Piece
item_pieces (items.Define d) = define_pieces d
item_pieces (items.Variables v) = row_pieces (variables_kinds v ++ mark marks.Semicolon)
item_pieces (items.Function f) = row_pieces (function_kinds f)

-- the last of several
fresh_last : (fresh : Bool) (ks ls : List PlainKind) → fresh_after fresh (ks ++ ls) ≡ fresh_after (fresh_after fresh ks) ls
fresh_last fresh [] ls = refl
fresh_last fresh (k ∷ ks) ls = fresh_last (is_last k) ks ls

fresh_variables : (v : Variables) → fresh_after true (variables_kinds v ++ mark marks.Semicolon) ≡ true
unfolding one
fresh_variables v = fresh_last true (variables_kinds v) (mark marks.Semicolon)

fresh_block : (fresh : Bool) (b : Block) → fresh_after fresh (block_kinds b) ≡ true
unfolding one
fresh_block fresh b =
    ap (fresh_after fresh) (block_is b)
    ∙ fresh_last fresh (mark marks.OpenBrace) (in_order (map stmt_line b.statements) ++ mark marks.CloseBrace)
    ∙ fresh_last true (in_order (map stmt_line b.statements)) (mark marks.CloseBrace)

fresh_function : (f : Function) → fresh_after true (function_kinds f) ≡ true
unfolding function_kinds one
fresh_function f =
    fresh_last true (word (result_word f.result)) (one (plain.Name f.name.bytes) ++ (in_brackets (listed (map parameter_kinds f.parameters)) ++ block_kinds f.body))
    ∙ fresh_last false (one (plain.Name f.name.bytes)) (in_brackets (listed (map parameter_kinds f.parameters)) ++ block_kinds f.body)
    ∙ fresh_last false (in_brackets (listed (map parameter_kinds f.parameters))) (block_kinds f.body)
    ∙ fresh_block (fresh_after false (in_brackets (listed (map parameter_kinds f.parameters)))) f.body

spaced_leads : (ks : List PlainKind) (rest : List ℕ) → list_all is_sayable ks ≡ true → fresh_after true ks ≡ true → Leads true (text_of (map spaced ks) ++ rest) (row_pieces ks) true rest
unfolding line
spaced_leads ks rest say fresh = subst (λ e. Leads true (text_of (map spaced ks) ++ rest) (row_pieces ks) e rest) fresh (row_leads true ks rest say)

item_leads : (x : Item) (rest : List ℕ) → item_sayable x ≡ true → Leads true (text_of (item_written x) ++ rest) (item_pieces x) true rest
item_leads (items.Define d) rest say = define_leads d rest say
item_leads (items.Variables v) rest say = spaced_leads (variables_kinds v ++ mark marks.Semicolon) rest say (fresh_variables v)
item_leads (items.Function f) rest say = spaced_leads (function_kinds f) rest say (fresh_function f)

item_are : (x : Item) → item_sayable x ≡ true → AreOf (item_pieces x) (written_kinds (item_written x))
item_are (items.Define d) say = define_are d say
item_are (items.Variables v) say = λ start. row_are (variables_kinds v ++ mark marks.Semicolon) say start ∙ sym (spaced_kinds (variables_kinds v ++ mark marks.Semicolon))
item_are (items.Function f) say = λ start. row_are (function_kinds f) say start ∙ sym (spaced_kinds (function_kinds f))

abbrev all_pieces : List Item → List Piece
all_pieces [] = []
all_pieces (x ∷ xs) = item_pieces x ++ all_pieces xs

all_leads : (xs : List Item) → list_all item_sayable xs ≡ true → Leads true (canonical xs) (all_pieces xs) true []
unfolding text_of
all_leads [] say = (refl, refl)
all_leads (x ∷ xs) say =
    let both = and_parts (item_sayable x) (list_all item_sayable xs) say in
    subst (λ (bytes : List ℕ). Leads true bytes (item_pieces x ++ all_pieces xs) true []) (sym (text_append (item_written x) (written xs)))
    (leads_on true true true (text_of (item_written x) ++ canonical xs) (canonical xs) [] (item_pieces x) (all_pieces xs) (item_leads x (canonical xs) both.0) (all_leads xs both.1))

pub written_append : (xs ys : List Written) → written_kinds (xs ++ ys) ≡ written_kinds xs ++ written_kinds ys
written_append [] ys = refl
written_append (x ∷ xs) ys = ap (λ ks. x.kind ∷ ks) (written_append xs ys)

all_are : (xs : List Item) → list_all item_sayable xs ≡ true → AreOf (all_pieces xs) (written_kinds (written xs))
all_are [] say start = refl
all_are (x ∷ xs) say start =
    let both = and_parts (item_sayable x) (list_all item_sayable xs) say in
    are_on (item_pieces x) (all_pieces xs) (written_kinds (item_written x)) (written_kinds (written xs)) (item_are x both.0) (all_are xs both.1) start
    ∙ sym (written_append (item_written x) (written xs))

-- the text is split into tokens of the kinds that were written, in their order
pub canonical_splits : (xs : List Item) → list_all item_sayable xs ≡ true → (ts : List PlainToken) × Splits (canonical xs) ts × (kinds ts ≡ written_kinds (written xs))
canonical_splits xs say =
    (tokens_of 0 (all_pieces xs), record { pieces = all_pieces xs; fresh = true; leads = all_leads xs say; tokens_are = refl }, all_are xs say 0)
