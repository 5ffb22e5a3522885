-- Each part of a statement or a declaration, and each item, is derived as it is written, where its own parts are.
use Rattle.std.proofs.Common.{◌≡◌, ℕ, ◌≤◌, true, false, not, ◌&&◌, List, [], ◌∷◌, ◌++◌, map, Some, refl, sym, ap, ap₂, ◌∙◌, arith, inl, inr, append_assoc}
use Rattle.std.specs.Prelude.{◌⊎◌}
use Rattle.std.proofs.lemmas.Bool.{and_from, and_parts}
use Rattle.cl_rules.specs.Rules.{clear}
use Rattle.cl_rules.specs.Syntax.{Nothing, Both, Symbol, Derivation, leaf, empty, pair, first, second, part, node, tokens, nesting, has, goes_on, derives}
use Rattle.cl_rules.specs.Values.{value}
use Rattle.cl_rules.proofs.Laws.{clear_none}
use Rattle.cl_rules.proofs.Bounds.{has_apart, pair_parts}
use Rattle.cl_ast.proofs.Fits.{grammar_fits}
use Rattle.cl_ast.specs.declared.word.Word.TheVariants as words
use Rattle.cl_ast.specs.declared.mark.Mark.TheVariants as marks
use Rattle.cl_ast.specs.declared.tree.TypeName.TheVariants as types
use Rattle.cl_ast.specs.declared.tree.Place.{Place}
use Rattle.cl_ast.specs.declared.statement.Parameter.{Parameter}
use Rattle.cl_ast.specs.declared.statement.Declarator.{Declarator}
use Rattle.cl_ast.specs.declared.statement.Block.{Block}
use Rattle.cl_ast.specs.Plain as plain
use Rattle.cl_ast.specs.Plain.{PlainKind, PlainToken}
use Rattle.cl_ast.specs.Classes.{class_of, mark_class, word_class, mark_classes, sample}
use Rattle.cl_ast.specs.Grammar.{Part, rules}
use Rattle.cl_ast.specs.Grammar as parts
use Rattle.cl_ast.specs.Tables.{language, bounds, lasts}
use Rattle.cl_ast.specs.Trees.{meaning, build, Given, kind_type, index_value, span_of, place_span, token_bytes, to_name, to_step, is_decrement, to_assign, behind_marks, to_parameters, to_function, to_declarator, to_variables}
use Rattle.cl_print.specs.Spelling.{one}
use Rattle.cl_print.specs.Expressions.{Row, mark, behind_commas}
use Rattle.cl_print.specs.Statements.{type_word, declarator_kinds, variables_kinds}
use Rattle.cl_print.specs.Writing.{parameter_kinds, function_kinds, define_written, item_written}
use Rattle.cl_print.specs.Seen.{SameStmt}
use Rattle.cl_print.specs.Says.{part_said, parts_said, all_said, either_said}
use Rattle.cl_print.proofs.Splitting.{kinds, kinds_append}
use Rattle.cl_print.proofs.SplittingItems.{written_kinds, spaced_kinds}
use Rattle.cl_print.proofs.Spoken.{quiet_before}
use Rattle.cl_print.proofs.Replace.{Settled, apart_clear, not_both}
use Rattle.cl_print.proofs.Settled.{mark_only, word_only, name_only, text_only, define_only, literal_only, size_only, type_only, verb_only, change_only, step_only, leave_only}
use Rattle.cl_print.proofs.Builds.{place_alike}
use Rattle.cl_print.proofs.BuildsStatements.{to_assign_alike, function_alike}
use Rattle.cl_print.proofs.PartsSaid.{commas_said}
use Rattle.cl_print.proofs.PartsSaidStatements.{Ends, started_are, others_are, assigned_said, stepped_said, simple_ends, statement_are, block_are, plain_are, given_are, given_said, declarator_are, variables_are}
use Rattle.cl_print.proofs.Canon.{Canon, Within, some_tokens}
use Rattle.cl_print.proofs.ExprSteps.{outer_step}

pub block_step : (x : Derivation rules (rules parts.block)) → derives language x ≡ true → Within x → Canon parts.block x
block_step x h w = outer_step parts.block x refl (mark_only marks.OpenBrace, ((tt, tt), mark_only marks.CloseBrace)) refl refl h w (block_are (tokens x) (value meaning x))

pub statement_step : (x : Derivation rules (rules parts.statement)) → derives language x ≡ true → Within x → Canon parts.statement x
statement_step x h w = outer_step parts.statement x refl (tt, tt) refl refl h w (statement_are (tokens x) (value meaning x))

pub given_step : (x : Derivation rules (rules parts.given)) → derives language x ≡ true → Within x → Canon parts.given x
given_step x h w = outer_step parts.given x refl ((mark_only marks.OpenSquare, (size_only, mark_only marks.CloseSquare)), (mark_only marks.Assign, tt)) refl refl h w (given_are (tokens x) (value meaning x))

pub declarator_step : (x : Derivation rules (rules parts.declarator)) → derives language x ≡ true → Within x → Canon parts.declarator x
declarator_step x h w = outer_step parts.declarator x refl (name_only, (tt, tt)) refl refl h w (declarator_are (tokens x) (value meaning x))

pub variables_step : (x : Derivation rules (rules parts.variables)) → derives language x ≡ true → Within x → Canon parts.variables x
variables_step x h w = outer_step parts.variables x refl (type_only, ((tt, (mark_only marks.Comma, tt)), mark_only marks.Semicolon)) refl refl h w (variables_are (tokens x) (value meaning x))

-- ---- simple statements

-- `++` or `--` behind its place
pub record Turned (t : PlainToken) (y : Derivation rules (Symbol parts.place)) : Type 0 where
  pub derivation : Derivation rules (rules parts.simple)
  pub member : derives language derivation ≡ true
  pub spelled : kinds (tokens derivation) ≡ kinds (tokens y) ++ t.kind ∷ []
  pub nested : nesting derivation ≤ nesting y
  pub alike : (ts : List PlainToken) → SameStmt (to_assign ts (value meaning y) (to_step (is_decrement t.kind))) (build parts.simple (tokens derivation) (value meaning derivation))

abbrev step_classes : List ℕ
step_classes = mark_classes (marks.Increment ∷ marks.Decrement ∷ [])

turned : (t : PlainToken) (y : Derivation rules (Symbol parts.place)) → has step_classes (class_of t) ≡ true → derives language y ≡ true → Turned t y
turned t (node s (pair (leaf n) (first i))) c h =
    let p = pair_parts bounds grammar_fits (leaf {classes = 0 ∷ []} {sample = sample (plain.Name [])} n) (first {a = Symbol parts.index} {b = Nothing} i) h in
    let q = quiet_before parts.index i t p.1 refl in
    record {
      derivation = first (pair (leaf n) (second (pair (first i) (second (leaf t)))));
      member =
          and_from (has (0 ∷ []) (class_of n)) ((derives language i && (has step_classes (class_of t) && not (goes_on language i t))) && clear (λ u. false) (tokens i ++ t ∷ [])) p.0
          (and_from (derives language i && (has step_classes (class_of t) && not (goes_on language i t))) (clear (λ u. false) (tokens i ++ t ∷ []))
          (and_from (derives language i) (has step_classes (class_of t) && not (goes_on language i t)) p.1 (and_from (has step_classes (class_of t)) (not (goes_on language i t)) c (ap not q))) (clear_none (tokens i ++ t ∷ [])));
      spelled = ap (λ l. n.kind ∷ l) (kinds_append (tokens i) (t ∷ []));
      nested = omega arith;
      alike = λ ts. to_assign_alike ts (n ∷ (tokens i ++ t ∷ [])) _ _ (to_step (is_decrement t.kind)) (to_step (is_decrement t.kind))
          (place_alike n n (to_name n) (to_name n) (index_value (inl (value meaning i))) (index_value (inl (value meaning i))) (span_of (n ∷ tokens i)) (place_span n (inl (value meaning i))) refl refl refl) (refl, refl);
    }
turned t (node s (pair (leaf n) (second empty))) c h =
    let p = pair_parts bounds grammar_fits (leaf {classes = 0 ∷ []} {sample = sample (plain.Name [])} n) (second {a = Symbol parts.index} {b = Nothing} empty) h in
    let q : has (28 ∷ []) (class_of t) ≡ false = has_apart step_classes (28 ∷ []) (class_of t) refl c in
    record {
      derivation = first (pair (leaf n) (second (pair (second empty) (second (leaf t)))));
      member = and_from (has (0 ∷ []) (class_of n)) ((has step_classes (class_of t) && not (has (28 ∷ []) (class_of t))) && true) p.0
          (and_from (has step_classes (class_of t) && not (has (28 ∷ []) (class_of t))) true (and_from (has step_classes (class_of t)) (not (has (28 ∷ []) (class_of t))) c (ap not q)) refl);
      spelled = refl;
      nested = omega arith;
      alike = λ ts. to_assign_alike ts (n ∷ t ∷ []) _ _ (to_step (is_decrement t.kind)) (to_step (is_decrement t.kind))
          (place_alike n n (to_name n) (to_name n) (index_value (inr tt)) (index_value (inr tt)) (span_of (n ∷ [])) (place_span n (inr tt)) refl refl refl) (refl, refl);
    }

pub simple_settled : Settled (rules parts.simple)
simple_settled = ((name_only, (tt, ((tt, tt), ((change_only, tt), step_only)))), ((step_only, tt), ((verb_only, tt), (word_only words.Printf, (mark_only marks.OpenBracket, ((text_only, (mark_only marks.Comma, tt)), mark_only marks.CloseBracket))))))

pub simple_step : (x : Derivation rules (rules parts.simple)) → derives language x ≡ true → Within x → Canon parts.simple x
simple_step (first z) h w = outer_step parts.simple (first z) refl simple_settled refl refl h w (started_are (tokens z) (tokens z) (value meaning z))
simple_step (second (second z)) h w = outer_step parts.simple (second (second z)) refl simple_settled refl refl h w (others_are (tokens z) (inr (inr (value meaning z))) tt)
simple_step (second (first (pair (leaf t) (node s z)))) h w =
    let x : Derivation rules (rules parts.simple) = second (first (pair (leaf t) (node parts.place z))) in
    let c = (and_parts (has step_classes (class_of t)) (derives language z && clear (λ u. false) (tokens z)) h).0 in
    let v = w.1 in
    let r = turned t v.derivation c v.member in
    let p : Place = value meaning {r = Symbol parts.place} (node parts.place z) in
    let step = to_step (is_decrement t.kind) in
    let one_same = to_assign_alike (t ∷ tokens z) (t ∷ tokens z) p (value meaning v.derivation) step step v.alike (refl, refl) in
    let two_same = r.alike (t ∷ tokens z) in
    record {
      derivation = node parts.simple r.derivation;
      member = r.member;
      nested = (let a = r.nested in let b = v.nested in omega arith);
      elses = λ u e g. (let q = quiet_before parts.simple (node parts.simple r.derivation) u r.member (ap (has (lasts parts.simple)) e) in absurd cc);
      empties = some_tokens parts.simple (node parts.simple r.derivation) r.member ∙ sym (some_tokens parts.simple (node parts.simple x) h);
      fronts = λ k f. absurd (not_both k);
      alike = (one_same.0 ∙ two_same.0, one_same.1 ∙ two_same.1);
      spelled =
          r.spelled ∙ ap₂ (λ (a : Row) k. a ++ k ∷ []) v.spelled (sym (step_only t.kind c))
          ∙ sym (assigned_said (t ∷ tokens z) p step ∙ ap (λ (l : Row). part_said parts.place p ++ l) (stepped_said (is_decrement t.kind)));
    }

-- ---- plain statements

pub ends_of : (x : Derivation rules (rules parts.plain)) → Ends (value meaning x)
ends_of (first x) = tt
ends_of (second (first (pair (node s z) u))) = simple_ends (tokens z) (value meaning z)
ends_of (second (second x)) = tt

body_settled : Settled parts.body
body_settled = (tt, tt)

condition_settled : Settled parts.condition
condition_settled = (mark_only marks.OpenBracket, (tt, mark_only marks.CloseBracket))

pub plain_settled : Settled (rules parts.plain)
plain_settled = (
  mark_only marks.Semicolon,
  (
    (tt, mark_only marks.Semicolon),
    (
      (word_only words.If, (condition_settled, (body_settled, ((word_only words.Else, body_settled), tt)))),
      (
        (word_only words.While, (condition_settled, body_settled)),
        (
          (word_only words.Do, (body_settled, (word_only words.While, (condition_settled, mark_only marks.Semicolon)))),
          (
            (word_only words.For, ((mark_only marks.OpenBracket, (((tt, tt), (mark_only marks.Semicolon, ((tt, tt), (mark_only marks.Semicolon, (tt, tt))))), mark_only marks.CloseBracket)), body_settled)),
            (
              (leave_only, mark_only marks.Semicolon),
              (word_only words.Return, ((tt, tt), mark_only marks.Semicolon)),
            ),
          ),
        ),
      ),
    ),
  ),
)

pub plain_step : (x : Derivation rules (rules parts.plain)) → derives language x ≡ true → Within x → Canon parts.plain x
plain_step x h w = outer_step parts.plain x refl plain_settled refl refl h w (plain_are (tokens x) (value meaning x) (ends_of x))

-- ---- parameters

parameters_said : (xs : List (PlainToken × (PlainToken × PlainToken))) → behind_commas (map parameter_kinds (to_parameters (behind_marks xs))) ≡ all_said (λ p. plain.Punctuator marks.Comma ∷ plain.Keyword (type_word (kind_type p.1.0.kind)) ∷ plain.Name (token_bytes p.1.1) ∷ []) xs
unfolding one parameter_kinds
parameters_said [] = refl
parameters_said (x ∷ xs) = ap (λ l. plain.Punctuator marks.Comma ∷ plain.Keyword (type_word (kind_type x.1.0.kind)) ∷ plain.Name (token_bytes x.1.1) ∷ l) (parameters_said xs)

pub params_settled : Settled (rules parts.params)
params_settled = (mark_only marks.OpenBracket, (((word_only words.Void, ((type_only, name_only), (mark_only marks.Comma, (type_only, name_only)))), tt), mark_only marks.CloseBracket))

pub params_are : (ts : List PlainToken) (o c : PlainToken) (y : (PlainToken × PlainToken) × List (PlainToken × (PlainToken × PlainToken))) →
    part_said parts.params (build parts.params ts (o, (inl (inr y), c))) ≡ parts_said (rules parts.params) (o, (inl (inr y), c))
unfolding one parameter_kinds
params_are ts o c y = ap (λ l. plain.Punctuator marks.OpenBracket ∷ plain.Keyword (type_word (kind_type y.0.0.kind)) ∷ plain.Name (token_bytes y.0.1) ∷ (l ++ plain.Punctuator marks.CloseBracket ∷ [])) (parameters_said y.1)

pub no_params : (ts : List PlainToken) (o c : PlainToken) → part_said parts.params (build parts.params ts (o, (inr tt, c))) ≡ parts_said (rules parts.params) (o, (inr tt, c))
unfolding one
no_params ts o c = refl

pub params_step : (x : Derivation rules (rules parts.params)) → derives language x ≡ true → Within x → Canon parts.params x
unfolding one
params_step (part (pair (leaf o) (pair (first (second z)) (leaf c)))) h w =
    let x : Derivation rules (rules parts.params) = part (pair (leaf o) (pair (first (second z)) (leaf c))) in
    outer_step parts.params x refl params_settled refl refl h w (params_are (tokens x) o c (value meaning z))
params_step (part (pair (leaf o) (pair (second empty) (leaf c)))) h w =
    let x : Derivation rules (rules parts.params) = part (pair (leaf o) (pair (second empty) (leaf c))) in
    outer_step parts.params x refl params_settled refl refl h w (no_params (tokens x) o c)
params_step (part (pair (leaf o) (pair (first (first (leaf v))) (leaf c)))) h w =
    let one_part = and_parts (has (mark_class marks.OpenBracket ∷ []) (class_of o)) (((has (word_class words.Void ∷ []) (class_of v)) && (has (mark_class marks.CloseBracket ∷ []) (class_of c) && true)) && true) h in
    let two_part = and_parts ((has (word_class words.Void ∷ []) (class_of v)) && (has (mark_class marks.CloseBracket ∷ []) (class_of c) && true)) true one_part.1 in
    let three_part = and_parts (has (word_class words.Void ∷ []) (class_of v)) (has (mark_class marks.CloseBracket ∷ []) (class_of c) && true) two_part.0 in
    let closing = (and_parts (has (mark_class marks.CloseBracket ∷ []) (class_of c)) true three_part.1).0 in
    let free : has (10 ∷ 7 ∷ 8 ∷ 9 ∷ []) (class_of c) ≡ false = has_apart (mark_class marks.CloseBracket ∷ []) (10 ∷ 7 ∷ 8 ∷ 9 ∷ []) (class_of c) refl closing in
    record {
      derivation = node parts.params (part (pair (leaf o) (pair (second empty) (leaf c))));
      member = and_from (has (mark_class marks.OpenBracket ∷ []) (class_of o)) ((has (mark_class marks.CloseBracket ∷ []) (class_of c) && not (has (10 ∷ 7 ∷ 8 ∷ 9 ∷ []) (class_of c))) && true) one_part.0
          (and_from (has (mark_class marks.CloseBracket ∷ []) (class_of c) && not (has (10 ∷ 7 ∷ 8 ∷ 9 ∷ []) (class_of c))) true (and_from (has (mark_class marks.CloseBracket ∷ []) (class_of c)) (not (has (10 ∷ 7 ∷ 8 ∷ 9 ∷ []) (class_of c))) closing (ap not free)) refl);
      nested = omega arith;
      elses = λ u e g. absurd (not_both g);
      empties = refl;
      fronts = λ k f. absurd (not_both k);
      alike = tt;
      spelled = ap₂ (λ a b. a ∷ b ∷ []) (sym (mark_only marks.OpenBracket o.kind one_part.0)) (sym (mark_only marks.CloseBracket c.kind closing));
    }

-- ---- items

item_settled : Settled (rules parts.item)
item_settled = (
  (define_only, (name_only, ((mark_only marks.Minus, tt), literal_only))),
  (
    (type_only, (name_only, ((tt, tt), ((tt, tt), ((mark_only marks.Comma, tt), mark_only marks.Semicolon))))),
    ((word_only words.Void, tt), (name_only, (tt, tt))),
  ),
)

define_are : (ts : List PlainToken) (x : PlainToken × (PlainToken × ((PlainToken ⊎ Unit {0}) × PlainToken))) → part_said parts.item (build parts.item ts (inl x)) ≡ parts_said (rules parts.item) (inl x)
unfolding define_written
define_are ts x = by x.1.1.0
  where
    by : (m : PlainToken ⊎ Unit {0}) → part_said parts.item (build parts.item ts (inl (x.0, (x.1.0, (m, x.1.1.1))))) ≡ parts_said (rules parts.item) (inl (x.0, (x.1.0, (m, x.1.1.1))))
    by (inl m) = refl
    by (inr m) = refl

pub typed_are : (ts : List PlainToken) (t n : PlainToken) (y : (List Parameter × Block) ⊎ ((Given ⊎ Unit {0}) × (List (PlainToken × Declarator) × PlainToken))) →
    part_said parts.item (build parts.item ts (inr (inl (t, (n, y))))) ≡ parts_said (rules parts.item) (inr (inl (t, (n, y))))
unfolding one function_kinds variables_kinds
typed_are ts t n (inl y) = spaced_kinds _
typed_are ts t n (inr y) =
    spaced_kinds (variables_kinds (to_variables ts t (to_declarator n y.0 ∷ behind_marks y.1.0)) ++ mark marks.Semicolon)
    ∙ ap₂ (λ (d c : Row). plain.Keyword (type_word (kind_type t.kind)) ∷ ((d ++ c) ++ plain.Punctuator marks.Semicolon ∷ [])) (given_said n y.0) (commas_said declarator_kinds y.1.0)
    ∙ ap (λ (l : Row). plain.Keyword (type_word (kind_type t.kind)) ∷ plain.Name (token_bytes n) ∷ l)
    (append_assoc (either_said (part_said parts.given) (λ u. []) y.0) (all_said (λ p. plain.Punctuator marks.Comma ∷ declarator_kinds p.1) y.1.0) (plain.Punctuator marks.Semicolon ∷ []))

pub void_are : (ts : List PlainToken) (v n : PlainToken) (ps : List Parameter) (b : Block) → part_said parts.item (build parts.item ts (inr (inr (inl v, (n, (ps, b)))))) ≡ parts_said (rules parts.item) (inr (inr (inl v, (n, (ps, b)))))
unfolding one function_kinds
void_are ts v n ps b = spaced_kinds _

pub int_are : (ts : List PlainToken) (n : PlainToken) (ps : List Parameter) (b : Block) →
    written_kinds (item_written (to_function ts (Some types.Int) n ps b)) ≡ plain.Keyword words.Int ∷ plain.Name (token_bytes n) ∷ (part_said parts.params ps ++ part_said parts.block b)
unfolding one function_kinds
int_are ts n ps b = spaced_kinds _

int_token : PlainToken
int_token = sample (plain.Keyword words.Int)

pub item_step : (x : Derivation rules (rules parts.item)) → derives language x ≡ true → Within x → Canon parts.item x
unfolding int_token
item_step (first z) h w = outer_step parts.item (first z) refl item_settled refl refl h w (define_are (tokens z) (value meaning z))
item_step (second (first (pair (leaf t) (pair (leaf n) z)))) h w =
    let x : Derivation rules (rules parts.item) = second (first (pair (leaf t) (pair (leaf n) z))) in
    outer_step parts.item x refl item_settled refl refl h w (typed_are (tokens x) t n (value meaning z))
item_step (second (second (pair (first (leaf v)) (pair (leaf n) (pair p b))))) h w =
    let x : Derivation rules (rules parts.item) = second (second (pair (first (leaf v)) (pair (leaf n) (pair p b)))) in
    outer_step parts.item x refl item_settled refl refl h w (void_are (tokens x) v n (value meaning p) (value meaning b))
item_step (second (second (pair (second empty) (pair (leaf n) (pair (node p z) (node b y)))))) h w =
    let x : Derivation rules (rules parts.item) = second (second (pair (second empty) (pair (leaf n) (pair (node parts.params z) (node parts.block y))))) in
    let rest : Derivation rules (Both parts.name (Both (Symbol parts.params) (Symbol parts.block))) = pair (leaf n) (pair (node parts.params z) (node parts.block y)) in
    let outer = pair_parts bounds grammar_fits (second {a = parts.word words.Void} {b = Nothing} empty) rest h in
    let inner = and_parts (has (0 ∷ []) (class_of n)) (derives language (pair (node parts.params z) (node parts.block y)) && clear (λ u. false) (tokens z ++ tokens y)) outer.1 in
    let v = w.1.1.0 in
    let u = w.1.1.1 in
    let d : Derivation rules (rules parts.item) = second (first (pair (leaf int_token) (pair (leaf n) (first (pair v.derivation u.derivation))))) in
    let beside = apart_clear (Symbol parts.params) (Symbol parts.block) v.derivation u.derivation refl refl v.member u.member refl in
    let body : (derives language v.derivation && (derives language u.derivation && clear (goes_on language v.derivation) (tokens u.derivation))) ≡ true =
    and_from (derives language v.derivation) (derives language u.derivation && clear (goes_on language v.derivation) (tokens u.derivation)) v.member (and_from (derives language u.derivation) (clear (goes_on language v.derivation) (tokens u.derivation)) u.member beside) in
    let named : (has (0 ∷ []) (class_of n) && ((derives language v.derivation && (derives language u.derivation && clear (goes_on language v.derivation) (tokens u.derivation))) && clear (λ i. false) (tokens v.derivation ++ tokens u.derivation))) ≡ true =
    and_from (has (0 ∷ []) (class_of n)) ((derives language v.derivation && (derives language u.derivation && clear (goes_on language v.derivation) (tokens u.derivation))) && clear (λ i. false) (tokens v.derivation ++ tokens u.derivation)) inner.0
    (and_from (derives language v.derivation && (derives language u.derivation && clear (goes_on language v.derivation) (tokens u.derivation))) (clear (λ i. false) (tokens v.derivation ++ tokens u.derivation)) body (clear_none (tokens v.derivation ++ tokens u.derivation))) in
    let member : derives language d ≡ true =
    and_from (has (0 ∷ []) (class_of n) && ((derives language v.derivation && (derives language u.derivation && clear (goes_on language v.derivation) (tokens u.derivation))) && clear (λ i. false) (tokens v.derivation ++ tokens u.derivation))) true named refl in
    record {
      derivation = node parts.item d;
      member = member;
      nested = (let a = v.nested in let c = u.nested in omega arith);
      elses = λ t e g. (let q = quiet_before parts.item (node parts.item d) t member refl in absurd cc);
      empties = refl;
      fronts = λ k f. absurd (not_both k);
      alike = function_alike (tokens x) (tokens d) (Some types.Int) (Some types.Int) n n _ _ _ _ refl refl v.alike u.alike;
      spelled =
          ap₂ (λ k (l : Row). plain.Keyword words.Int ∷ k ∷ l) (sym (name_only n.kind inner.0)) (kinds_append (tokens v.derivation) (tokens u.derivation) ∙ ap₂ (λ (a c : Row). a ++ c) v.spelled u.spelled)
          ∙ sym (int_are (tokens x) n (value meaning {r = Symbol parts.params} (node parts.params z)) (value meaning {r = Symbol parts.block} (node parts.block y)));
    }
