-- Formats that are filled in exactly. (ISO/IEC 9899:1999, 7.19.6.1; which directives there are: this project.)
use Rattle.std.specs.Prelude.{◌≡◌, ℕ, ◌==◌, List, [], ◌∷◌, ◌++◌, map, Option, Some, None, if◌then◌else◌}
use Rattle.std.specs.Fmt.{signed_decimal}
use Rattle.cl_value.specs.declared.value.Value.{Value}
use Rattle.cl_ast.specs.declared.statement.Print.{Print}
use Rattle.cl_model.specs.Doing.{each}
use Rattle.cl_model.specs.Numbers.{number, byte_of}
use Rattle.cl_meaning.specs.Expressions.{Surroundings, value}
use Rattle.cl_meaning.specs.Printing.{filled}
use Rattle.cl_types.specs.declared.format.Stage.{Stage}
use Rattle.cl_types.specs.declared.format.Stage.TheVariants as stages
use Rattle.cl_types.specs.Declarations.{Known}
use Rattle.cl_types.specs.Statements.{print_notes}
use Rattle.cl_typing.specs.Laws.{NoFault}
use Rattle.cl_cases.specs.Giving.{AlwaysGives}

-- bytes and then the rest, where the rest can be printed
abbrev pub behind : List ℕ → Option (List ℕ) → Option (List ℕ)
behind front None = None
behind front (Some rest) = Some (front ++ rest)

-- a directive writes the first value that is left, if one is
abbrev pub taken : (Value → List ℕ) → List Value → (List Value → Option (List ℕ)) → Option (List ℕ)
taken writes [] rest = None
taken writes (v ∷ vs) rest = behind (writes v) (rest vs)

-- the number of a value in decimal digits, behind a `-` where it is negative
abbrev pub decimal : Value → List ℕ
decimal v = signed_decimal (number v)

abbrev pub character : Value → List ℕ
character v = byte_of (number v) ∷ []

-- What is printed of the rest of a format: nothing where a value lacks or is left, or where a `%` begins no directive. `%` is 37, `d` 100,
-- `c` 99, `l` 108.
abbrev pub written : List ℕ → Stage → List Value → Option (List ℕ)
written [] stages.Text [] = Some []
written [] _ vs = None
written (b ∷ bytes) stages.Text vs = if b == 37 then written bytes stages.Percent vs else behind (b ∷ []) (written bytes stages.Text vs)
written (b ∷ bytes) stages.Percent vs =
    if b == 100 then taken decimal vs (written bytes stages.Text)
    else (if b == 99 then taken character vs (written bytes stages.Text)
    else (if b == 108 then written bytes stages.Long vs
    else (if b == 37 then behind (b ∷ []) (written bytes stages.Text vs) else None)))
written (b ∷ bytes) stages.Long vs = if b == 100 then taken decimal vs (written bytes stages.Text) else None

-- the format with its directives filled in, each by a value of its own
abbrev pub exactly_filled : List ℕ → List Value → Option (List ℕ)
exactly_filled bytes vs = written bytes stages.Text vs

-- a `printf` in which no fault is noted is filled in exactly, whatever its arguments give
abbrev pub PrintsAreExact : Type 0
PrintsAreExact =
    (around : Surroundings) (x : Print) (known : Known) → NoFault (print_notes known x) →
    AlwaysGives (λ vs. exactly_filled x.format.bytes vs ≡ Some (filled x.format.bytes vs)) (each (map (λ y. value around y.expr) x.arguments))
