-- What is known of each part of a derivation: an expression by its own level, each other part by a derivation that is written so.
use Rattle.std.proofs.Common.{◌≡◌, Bool, true, false, ◌&&◌, ltb, refl, sym, ap, ◌∙◌, arith}
use Rattle.std.proofs.lemmas.Bool.{and_parts, cond-true}
use Rattle.cl_rules.specs.Rules.{is_empty}
use Rattle.cl_rules.specs.Syntax.{Rule, Token, Nothing, Both, Either, Many, Counted, Symbol, Derivation, leaf, empty, pair, first, second, none, more, part, node, tokens, nesting, has, opens, derives}
use Rattle.cl_rules.specs.Values.{value}
use Rattle.cl_rules.proofs.Bounds.{derivation_starts, pair_parts}
use Rattle.cl_ast.specs.Plain.{PlainToken}
use Rattle.cl_ast.specs.Grammar.{Part, rules}
use Rattle.cl_ast.specs.Grammar as parts
use Rattle.cl_ast.specs.Tables.{language, bounds, lasts}
use Rattle.cl_ast.specs.Trees.{meaning}
use Rattle.cl_ast.proofs.Fits.{grammar_fits}
use Rattle.cl_print.specs.Expressions.{expr_said}
use Rattle.cl_print.proofs.Spoken.{Core, operand_at, quiet_before}
use Rattle.cl_print.proofs.Replace.{Written, AllWritten, not_both, some_of}

abbrev pub Canon : (s : Part) → Derivation rules (rules s) → Type 0
Canon parts.primary x = Core 0 (value meaning {r = Symbol parts.primary} (node parts.primary x)) (nesting x)
Canon parts.unary x = Core 1 (value meaning {r = Symbol parts.unary} (node parts.unary x)) (nesting x)
Canon parts.product x = Core 2 (value meaning {r = Symbol parts.product} (node parts.product x)) (nesting x)
Canon parts.sum x = Core 3 (value meaning {r = Symbol parts.sum} (node parts.sum x)) (nesting x)
Canon parts.order x = Core 4 (value meaning {r = Symbol parts.order} (node parts.order x)) (nesting x)
Canon parts.equality x = Core 5 (value meaning {r = Symbol parts.equality} (node parts.equality x)) (nesting x)
Canon parts.conjunction x = Core 6 (value meaning {r = Symbol parts.conjunction} (node parts.conjunction x)) (nesting x)
Canon parts.expr x = Core 7 (value meaning {r = Symbol parts.expr} (node parts.expr x)) (nesting x)
Canon s x = Written (Symbol s) (node s x)

-- of all parts inside
abbrev pub Within : {r : Rule PlainToken Part} → Derivation rules r → Type 0
Within (leaf t) = Unit {0}
Within empty = Unit {0}
Within (pair x y) = Within x × Within y
Within (first x) = Within x
Within (second x) = Within x
Within none = Unit {0}
Within (more x xs) = Within x × Within xs
Within (part x) = Within x
Within (node s x) = Canon s x

-- an expression stands as it is written where no operator stands beside it
pub some_tokens : (s : Part) (x : Derivation rules (Symbol s)) → derives language x ≡ true → is_empty (tokens x) ≡ false
some_tokens s x h = some_of (opens language (Symbol s)) false (tokens x) refl (derivation_starts bounds grammar_fits x refl h)

pub expr_written : (x : Derivation rules (rules parts.expr)) → derives language x ≡ true → Canon parts.expr x → Written (Symbol parts.expr) (node parts.expr x)
expr_written x h c =
    let v = value meaning {r = Symbol parts.expr} (node parts.expr x) in
    let s = operand_at 7 v (nesting x) (omega arith) c in
    let low : ltb (expr_said v).rank 8 ≡ true = (let a = c.low in let e = c.is_rank in grind arith) in
    record {
      derivation = s.derivation;
      member = s.member;
      nested = s.nested;
      elses = λ t e g. (let q = quiet_before parts.expr s.derivation t s.member (ap (has (lasts parts.expr)) e) in absurd cc);
      empties = some_tokens parts.expr s.derivation s.member ∙ sym (some_tokens parts.expr (node parts.expr x) h);
      fronts = λ k f. absurd (not_both k);
      alike = s.same;
      spelled = s.spelled ∙ cond-true (ltb (expr_said v).rank 8) _ _ low;
    }

-- which parts a rule may name
abbrev pub is_outer : Part → Bool
is_outer parts.primary = false
is_outer parts.unary = false
is_outer parts.product = false
is_outer parts.sum = false
is_outer parts.order = false
is_outer parts.equality = false
is_outer parts.conjunction = false
is_outer s = true

abbrev pub names_outer : Rule PlainToken Part → Bool
names_outer (Token classes example) = true
names_outer Nothing = true
names_outer (Both a b) = names_outer a && names_outer b
names_outer (Either a b) = names_outer a && names_outer b
names_outer (Many a) = names_outer a
names_outer (Counted a) = names_outer a
names_outer (Symbol s) = is_outer s

node_written : (s : Part) (x : Derivation rules (rules s)) → is_outer s ≡ true → derives language x ≡ true → Canon s x → Written (Symbol s) (node s x)
node_written parts.expr x o h c = expr_written x h c
node_written parts.primary x o h c = absurd (not_both o)
node_written parts.unary x o h c = absurd (not_both o)
node_written parts.product x o h c = absurd (not_both o)
node_written parts.sum x o h c = absurd (not_both o)
node_written parts.order x o h c = absurd (not_both o)
node_written parts.equality x o h c = absurd (not_both o)
node_written parts.conjunction x o h c = absurd (not_both o)
node_written s x o h c = c

pub all_written : {r : Rule PlainToken Part} (x : Derivation rules r) → names_outer r ≡ true → derives language x ≡ true → Within x → AllWritten x
all_written (leaf t) o h w = tt
all_written empty o h w = tt
all_written (pair {a} {b} x y) o h w =
    let both = and_parts (names_outer a) (names_outer b) o in
    let parts = pair_parts bounds grammar_fits x y h in
    (all_written x both.0 parts.0 w.0, all_written y both.1 parts.1 w.1)
all_written (first {a} {b} x) o h w = all_written x (and_parts (names_outer a) (names_outer b) o).0 h w
all_written (second {a} {b} x) o h w = all_written x (and_parts (names_outer a) (names_outer b) o).1 h w
all_written none o h w = tt
all_written (more x xs) o h w = (let parts = pair_parts bounds grammar_fits x xs h in (all_written x o parts.0 w.0, all_written xs o parts.1 w.1))
all_written (part x) o h w = all_written x o h w
all_written (node s x) o h w = node_written s x o h w
