-- A format without faults is filled in exactly.
use Rattle.std.proofs.Common.{◌≡◌, ◌∙◌, ap, sym, subst, refl, ℕ, ◌==◌, Bool, true, false, List, [], ◌∷◌, ◌++◌, map, length, Option, Some, None}
use Rattle.std.proofs.lemmas.Bool.{eqb-true}
use Rattle.std.proofs.lemmas.List.{append-nil}
use Rattle.std.specs.Prelude.{if◌then◌else◌}
use Rattle.cl_value.specs.declared.value.Value.{Value}
use Rattle.cl_ast.specs.declared.tree.Spanned.{Spanned}
use Rattle.cl_ast.specs.declared.statement.Print.{Print}
use Rattle.cl_model.specs.Doing.{each}
use Rattle.cl_meaning.specs.Operations.{Does}
use Rattle.cl_meaning.specs.Expressions.{value}
use Rattle.cl_meaning.specs.Printing.{decimal_of, character_of, behind_first, filled}
use Rattle.cl_types.specs.declared.directive.Directive.{Directive}
use Rattle.cl_types.specs.declared.directive.Directive.TheVariants as directives
use Rattle.cl_types.specs.declared.fault.TypeKind.TheVariants as kinds
use Rattle.cl_types.specs.declared.format.Stage.{Stage}
use Rattle.cl_types.specs.declared.format.Stage.TheVariants as stages
use Rattle.cl_types.specs.Notes.{found_all}
use Rattle.cl_types.specs.Declarations.{Known}
use Rattle.cl_types.specs.Expressions.{count_faults}
use Rattle.cl_types.specs.Formats.{with_directive, directives_behind, directives_from, directives_of, goes_on, ends}
use Rattle.cl_types.specs.Statements.{arguments_notes, print_parts, print_notes}
use Rattle.cl_types.proofs.Clean.{Clean, clean_split, none_found}
use Rattle.cl_typing.proofs.Leading.{keeps_more}
use Rattle.cl_cases.specs.Prints.{behind, taken, decimal, character, written, exactly_filled, PrintsAreExact}
use Rattle.cl_cases.proofs.Giving.{Any, Wherever, one_each}

-- ---- what `filled` does at each byte

filled_plain : (a : ℕ) (bytes : List ℕ) (vs : List Value) → (a == 37) ≡ false → filled (a ∷ bytes) vs ≡ a ∷ filled bytes vs
filled_plain a [] vs h = refl
filled_plain a (b ∷ []) vs h = ap (λ t. if t then (if b == 100 then decimal_of vs else (if b == 99 then character_of vs else b ∷ [])) else a ∷ filled (b ∷ []) vs) h
filled_plain a (b ∷ c ∷ bytes) vs h =
    ap (λ t. if t then (if b == 100 then decimal_of vs ++ filled (c ∷ bytes) (behind_first vs) else (if b == 99 then character_of vs ++ filled (c ∷ bytes) (behind_first vs) else (if b == 37 then b ∷ filled (c ∷ bytes) vs else decimal_of vs ++ filled bytes (behind_first vs))))
    else a ∷ filled (b ∷ c ∷ bytes) vs) h

filled_decimal : (bytes : List ℕ) (vs : List Value) → filled (37 ∷ 100 ∷ bytes) vs ≡ decimal_of vs ++ filled bytes (behind_first vs)
filled_decimal [] vs = sym (append-nil (decimal_of vs))
filled_decimal (c ∷ bytes) vs = refl

filled_character : (bytes : List ℕ) (vs : List Value) → filled (37 ∷ 99 ∷ bytes) vs ≡ character_of vs ++ filled bytes (behind_first vs)
filled_character [] vs = refl
filled_character (c ∷ bytes) vs = refl

filled_percent : (bytes : List ℕ) (vs : List Value) → filled (37 ∷ 37 ∷ bytes) vs ≡ 37 ∷ filled bytes vs
filled_percent [] vs = refl
filled_percent (c ∷ bytes) vs = refl

-- what is left to fill in at a stage
abbrev left : Stage → List ℕ → List ℕ
left stages.Text bytes = bytes
left stages.Percent bytes = 37 ∷ bytes
left stages.Long bytes = 37 ∷ 108 ∷ bytes

-- ---- the two side by side

-- whatever directives the rest has, it is filled in exactly by as many values
abbrev Exact : List ℕ → Stage → Type 0
Exact bytes stage = (ds : List Directive) (vs : List Value) → directives_from bytes stage ≡ Some ds → length vs ≡ length ds → written bytes stage vs ≡ Some (filled (left stage bytes) vs)

-- a directive more, and a value more
one_more : (bytes : List ℕ) (d : Directive) (rest : Option (List Directive)) (writes : Value → List ℕ) (ds : List Directive) (vs : List Value) (all : List ℕ) →
    ((v : Value) (ws : List Value) → vs ≡ v ∷ ws → all ≡ writes v ++ filled bytes ws) →
    ((es : List Directive) (ws : List Value) → rest ≡ Some es → length ws ≡ length es → written bytes stages.Text ws ≡ Some (filled bytes ws)) →
    with_directive (Some d) rest ≡ Some ds → length vs ≡ length ds → taken writes vs (written bytes stages.Text) ≡ Some all
one_more bytes d None writes ds vs all is more e same = absurd cc
one_more bytes d (Some es) writes [] vs all is more e same = absurd cc
one_more bytes d (Some es) writes (x ∷ ds) [] all is more e same = absurd cc
one_more bytes d (Some es) writes (x ∷ ds) (v ∷ ws) all is more e same =
    let fewer : es ≡ ds = cc in
    let count : length ws ≡ length es = cc in
    ap (behind (writes v)) (more es ws refl count) ∙ ap (λ z. Some z) (sym (is v ws refl))

exact : (bytes : List ℕ) (stage : Stage) → Exact bytes stage
exact [] stages.Text [] [] e same = refl
exact [] stages.Text [] (v ∷ vs) e same = absurd cc
exact [] stages.Text (d ∷ ds) vs e same = absurd cc
exact [] stages.Percent ds vs e same = absurd cc
exact [] stages.Long ds vs e same = absurd cc
exact (b ∷ bytes) stages.Text ds vs e same = by (b == 37) refl e (λ next. exact bytes next)
  where
    by : (t : Bool) → (b == 37) ≡ t → directives_behind (directives_from bytes) (if t then goes_on stages.Percent else goes_on stages.Text) ≡ Some ds → ((next : Stage) → Exact bytes next) →
        (if t then written bytes stages.Percent vs else behind (b ∷ []) (written bytes stages.Text vs)) ≡ Some (filled (b ∷ bytes) vs)
    by true is g more = subst (λ c. written bytes stages.Percent vs ≡ Some (filled (c ∷ bytes) vs)) (sym (eqb-true b 37 is)) (more stages.Percent ds vs g same)
    by false is g more = ap (behind (b ∷ [])) (more stages.Text ds vs g same) ∙ ap (λ z. Some z) (sym (filled_plain b bytes vs is))
exact (b ∷ bytes) stages.Percent ds vs e same = by (b == 100) refl (b == 99) refl (b == 108) refl (b == 37) refl e (λ next. exact bytes next)
  where
    by : (t : Bool) → (b == 100) ≡ t → (u : Bool) → (b == 99) ≡ u → (v : Bool) → (b == 108) ≡ v → (w : Bool) → (b == 37) ≡ w →
        directives_behind (directives_from bytes) (if t then ends directives.Decimal else (if u then ends directives.Character else (if v then goes_on stages.Long else (if w then goes_on stages.Text else None)))) ≡ Some ds → ((next : Stage) → Exact bytes next) →
        (if t then taken decimal vs (written bytes stages.Text)
        else (if u then taken character vs (written bytes stages.Text) else (if v then written bytes stages.Long vs else (if w then behind (b ∷ []) (written bytes stages.Text vs) else None)))) ≡ Some (filled (37 ∷ b ∷ bytes) vs)
    by true it u iu v iv w iw g more = one_more bytes directives.Decimal (directives_from bytes stages.Text) decimal ds vs (filled (37 ∷ b ∷ bytes) vs)
        (λ x ws is. ap (λ c. filled (37 ∷ c ∷ bytes) vs) (eqb-true b 100 it) ∙ (filled_decimal bytes vs ∙ ap (λ zs. decimal_of zs ++ filled bytes (behind_first zs)) is)) (more stages.Text) g same
    by false it true iu v iv w iw g more = one_more bytes directives.Character (directives_from bytes stages.Text) character ds vs (filled (37 ∷ b ∷ bytes) vs)
        (λ x ws is. ap (λ c. filled (37 ∷ c ∷ bytes) vs) (eqb-true b 99 iu) ∙ (filled_character bytes vs ∙ ap (λ zs. character_of zs ++ filled bytes (behind_first zs)) is)) (more stages.Text) g same
    by false it false iu true iv w iw g more = subst (λ c. written bytes stages.Long vs ≡ Some (filled (37 ∷ c ∷ bytes) vs)) (sym (eqb-true b 108 iv)) (more stages.Long ds vs g same)
    by false it false iu false iv true iw g more = ap (behind (b ∷ [])) (more stages.Text ds vs g same) ∙ ap (λ z. Some z) (sym (ap (λ c. filled (37 ∷ c ∷ bytes) vs) (eqb-true b 37 iw) ∙ (filled_percent bytes vs ∙ ap (λ c. c ∷ filled bytes vs) (sym (eqb-true b 37 iw)))))
    by false it false iu false iv false iw g more = absurd cc
exact (b ∷ bytes) stages.Long ds vs e same = by (b == 100) refl e (λ next. exact bytes next)
  where
    by : (t : Bool) → (b == 100) ≡ t → directives_behind (directives_from bytes) (if t then ends directives.LongDecimal else None) ≡ Some ds → ((next : Stage) → Exact bytes next) →
        (if t then taken decimal vs (written bytes stages.Text) else None) ≡ Some (filled (37 ∷ 108 ∷ b ∷ bytes) vs)
    by true it g more = one_more bytes directives.LongDecimal (directives_from bytes stages.Text) decimal ds vs (filled (37 ∷ 108 ∷ b ∷ bytes) vs)
        (λ x ws is. ap (λ c. filled (37 ∷ 108 ∷ c ∷ bytes) vs) (eqb-true b 100 it) ∙ ap (λ zs. decimal_of zs ++ filled bytes (behind_first zs)) is) (more stages.Text) g same
    by false it g more = absurd cc

-- ---- prints

same_count : (wanted given : ℕ) → count_faults wanted given ≡ [] → wanted ≡ given
same_count wanted given h = by (wanted == given) refl h
  where
    by : (b : Bool) → (wanted == given) ≡ b → (if b then [] else kinds.WrongCount ∷ []) ≡ [] → wanted ≡ given
    by true e f = eqb-true wanted given e
    by false e f = absurd cc

print_exact : (x : Print) (known : Known) → Clean (print_notes known x) → (vs : List Value) → length vs ≡ length x.arguments → exactly_filled x.format.bytes vs ≡ Some (filled x.format.bytes vs)
print_exact x known clean vs same = by (directives_of x.format.bytes) refl clean
  where
    by : (ds : Option (List Directive)) → directives_of x.format.bytes ≡ ds → Clean (print_parts known ds x) → written x.format.bytes stages.Text vs ≡ Some (filled x.format.bytes vs)
    by None is c = absurd c
    by (Some ds) is c =
        let none = none_found (count_faults (length ds) (length x.arguments)) x.span.start (clean_split (found_all (count_faults (length ds) (length x.arguments)) x.span.start) (arguments_notes known ds x.arguments) c).0 in
        exact x.format.bytes stages.Text ds vs is (same ∙ sym (same_count (length ds) (length x.arguments) none))

pub prints_are_exact : PrintsAreExact
prints_are_exact around x known clean =
    let f : Spanned → Does Value = λ y. value around y.expr in
    keeps_more Any Wherever (λ vs. length vs ≡ length x.arguments) (λ vs. exactly_filled x.format.bytes vs ≡ Some (filled x.format.bytes vs)) (each (map f x.arguments)) (one_each f x.arguments) (print_exact x known clean)
