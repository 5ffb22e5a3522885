-- Where a number is wanted no text stands.
use Rattle.std.proofs.Common.{◌≡◌, subst, refl, Bool, true, false, not, ◌&&◌, List, [], ◌∷◌, ◌++◌, map}
use Rattle.std.specs.Prelude.{if◌then◌else◌, ℤ, pos, Ok, Err}
use Rattle.std.specs.List.{AllByRecursion}
use Rattle.cl_value.specs.declared.value.Value.{Value}
use Rattle.cl_value.specs.declared.value.Value.TheVariants as values
use Rattle.cl_value.specs.declared.process.Trap.TheVariants.{DivideByZero}
use Rattle.cl_value.specs.Matching.{type_of, same_type, accepts, matches}
use Rattle.cl_value.specs.Plain.{PlainPart, Ready, Call}
use Rattle.cl_ast.specs.declared.tree.TypeName.{TypeName}
use Rattle.cl_ast.specs.declared.tree.TypeName.TheVariants as types
use Rattle.cl_ast.specs.declared.tree.Operator.TheVariants as operators
use Rattle.cl_ast.specs.declared.tree.Verb.TheVariants as verbs
use Rattle.cl_ast.specs.declared.tree.Place.{out-Place}
use Rattle.cl_ast.specs.declared.statement.Function.{Function}
use Rattle.cl_ast.specs.declared.statement.Parameter.{Parameter}
use Rattle.cl_model.specs.Doing.{Checked, ◌>>=◌, pure, checked}
use Rattle.cl_model.specs.Numbers.{number, truth, is_zero, int_or_trap, long_or_trap, in_common, quotient, and_then}
use Rattle.cl_value.specs.Ranges.{is_within}
use Rattle.cl_meaning.specs.Operators.{field_type, operated}
use Rattle.cl_meaning.specs.Operations.{Does, Aim, Holds, Fills, slot, value_at}
use Rattle.cl_meaning.specs.Expressions.{Surroundings, truth_of, joined, value}
use Rattle.cl_meaning.specs.Outer.{functions_of}
use Rattle.cl_types.specs.declared.context.Access.TheVariants as accesses
use Rattle.cl_types.specs.Expressions.{constant_of}
use Rattle.cl_typing.specs.Values.{IsOf, IsFoundNumber}
use Rattle.cl_typing.specs.Standing.{Fits}
use Rattle.cl_typing.specs.Requests.{AreArguments}
use Rattle.cl_typing.specs.Texts.{outside, PartFits}
use Rattle.cl_typing.specs.Laws.{around}
use Rattle.cl_typing.proofs.Leading.{keeps_bind, keeps_more, keeps_pure, keeps_checked, keeps_if}
use Rattle.cl_typing.proofs.Places.{value_keeps}
use Rattle.cl_typing.proofs.Expressions.{place_accesses}
use Rattle.cl_typing.proofs.Process.{values_are_typed}
use Rattle.cl_cases.specs.Giving.{AlwaysGives}
use Rattle.cl_cases.specs.Operands.{IsNumeric, ValuesAreNumeric, OperatorsGiveNumbers, WrittenWereNumeric, FillByNumbers, TuplesFill, HasNumbers, StartsHaveNumbers}
use Rattle.cl_cases.proofs.Giving.{Any, Wherever, any_gives}

-- a value of a type of variables is a number
of_type : (t : TypeName) (v : Value) → IsOf t v → IsNumeric v
of_type t (values.Int n) h = tt
of_type t (values.Long n) h = tt
of_type t (values.Char n) h = tt
of_type types.Int (values.Text n) h = absurd cc
of_type types.Long (values.Text n) h = absurd cc
of_type types.Char (values.Text n) h = absurd cc

pub values_are_numeric : ValuesAreNumeric
values_are_numeric xs none settled depth more c x clean =
    let r = values_are_typed xs none settled depth more c x clean in
    keeps_more Any (Fits (outside xs) (c.outer ++ c.inner ∷ [])) (λ v. IsOf r.0 v × IsFoundNumber (constant_of x c.known) v) IsNumeric (value (around xs depth more) x) r.2 (λ v p. of_type r.0 v p.0)

-- ---- operators

truth_numeric : (b : Bool) → IsNumeric (truth b)
truth_numeric true = tt
truth_numeric false = tt

-- what is given, if anything is, is a number
abbrev Numeric : Checked Value → Type 0
Numeric c = (v : Value) → c ≡ Ok v → IsNumeric v

same_numeric : (v w : Value) (c : Checked Value) → c ≡ Ok v → c ≡ Ok w → IsNumeric v → IsNumeric w
same_numeric v w c h k n = let same : v ≡ w = cc in subst IsNumeric same n

int_numeric : (b : Bool) (n : ℤ) (c : Checked Value) → Numeric c → Numeric (if b then Ok (values.Int n) else c)
int_numeric true n c h v is = same_numeric (values.Int n) v (Ok (values.Int n)) refl is tt
int_numeric false n c h v is = h v is

long_numeric : (b : Bool) (n : ℤ) (c : Checked Value) → Numeric c → Numeric (if b then Ok (values.Long n) else c)
long_numeric true n c h v is = same_numeric (values.Long n) v (Ok (values.Long n)) refl is tt
long_numeric false n c h v is = h v is

int_or_trap_numeric : (n : ℤ) → Numeric (int_or_trap n)
int_or_trap_numeric n = int_numeric (is_within 31 n) n _ (λ v is. absurd cc)

long_or_trap_numeric : (n : ℤ) → Numeric (long_or_trap n)
long_or_trap_numeric n = long_numeric (is_within 63 n) n _ (λ v is. absurd cc)

common_numeric : (a b : Value) (n : ℤ) → Numeric (in_common a b n)
common_numeric (values.Long a) b n = long_or_trap_numeric n
common_numeric (values.Int a) (values.Long b) n = long_or_trap_numeric n
common_numeric (values.Int a) (values.Int b) n = int_or_trap_numeric n
common_numeric (values.Int a) (values.Char b) n = int_or_trap_numeric n
common_numeric (values.Int a) (values.Text b) n = int_or_trap_numeric n
common_numeric (values.Char a) (values.Long b) n = long_or_trap_numeric n
common_numeric (values.Char a) (values.Int b) n = int_or_trap_numeric n
common_numeric (values.Char a) (values.Char b) n = int_or_trap_numeric n
common_numeric (values.Char a) (values.Text b) n = int_or_trap_numeric n
common_numeric (values.Text a) (values.Long b) n = long_or_trap_numeric n
common_numeric (values.Text a) (values.Int b) n = int_or_trap_numeric n
common_numeric (values.Text a) (values.Char b) n = int_or_trap_numeric n
common_numeric (values.Text a) (values.Text b) n = int_or_trap_numeric n

quotient_numeric : (z : Bool) (c : Checked Value) → Numeric c → Numeric (if z then Err DivideByZero else c)
quotient_numeric true c h v is = absurd cc
quotient_numeric false c h v is = h v is

remainder_numeric : (first next : Checked Value) → Numeric next → Numeric (and_then first (λ q. next))
remainder_numeric (Ok q) next h v is = h v is
remainder_numeric (Err t) next h v is = absurd cc

compared_numeric : (b : Bool) → Numeric (Ok (truth b))
compared_numeric b v is = same_numeric (truth b) v (Ok (truth b)) refl is (truth_numeric b)

truth_gives : (d : Does Value) → AlwaysGives IsNumeric (truth_of d)
unfolding truth_of
truth_gives d = keeps_bind Any Wherever (λ v. Unit {0}) IsNumeric d _ (any_gives d) (λ v u. keeps_pure Any Wherever IsNumeric (truth (not (is_zero v))) (truth_numeric (not (is_zero v))))

applied : (d : Does Value) (f : Value → Checked Value) → ((b : Value) → Numeric (f b)) → AlwaysGives IsNumeric (d >>= (λ b. checked (f b)))
applied d f h = keeps_bind Any Wherever (λ v. Unit {0}) IsNumeric d _ (any_gives d) (λ b u. keeps_checked Any Wherever IsNumeric (f b) (λ v is. h b v is))

pub operators_give_numbers : OperatorsGiveNumbers
unfolding joined
operators_give_numbers operators.And d a = keeps_if Any Wherever IsNumeric (is_zero a) (pure (truth false)) (truth_of d) (λ e. keeps_pure Any Wherever IsNumeric (truth false) tt) (λ e. truth_gives d)
operators_give_numbers operators.Or d a = keeps_if Any Wherever IsNumeric (is_zero a) (truth_of d) (pure (truth true)) (λ e. truth_gives d) (λ e. keeps_pure Any Wherever IsNumeric (truth true) tt)
operators_give_numbers operators.Add d a = applied d (operated operators.Add a) (λ b. common_numeric a b _)
operators_give_numbers operators.Subtract d a = applied d (operated operators.Subtract a) (λ b. common_numeric a b _)
operators_give_numbers operators.Multiply d a = applied d (operated operators.Multiply a) (λ b. common_numeric a b _)
operators_give_numbers operators.Divide d a = applied d (operated operators.Divide a) (λ b. quotient_numeric (is_zero b) _ (common_numeric a b _))
operators_give_numbers operators.Remainder d a = applied d (operated operators.Remainder a) (λ b. remainder_numeric (quotient a b) _ (common_numeric a b _))
operators_give_numbers operators.Equal d a = applied d (operated operators.Equal a) (λ b. compared_numeric _)
operators_give_numbers operators.NotEqual d a = applied d (operated operators.NotEqual a) (λ b. compared_numeric _)
operators_give_numbers operators.Less d a = applied d (operated operators.Less a) (λ b. compared_numeric _)
operators_give_numbers operators.LessEqual d a = applied d (operated operators.LessEqual a) (λ b. compared_numeric _)
operators_give_numbers operators.Greater d a = applied d (operated operators.Greater a) (λ b. compared_numeric _)
operators_give_numbers operators.GreaterEqual d a = applied d (operated operators.GreaterEqual a) (λ b. compared_numeric _)

-- ---- places

pub written_were_numeric : WrittenWereNumeric
written_were_numeric functions globals c x clean at =
    let locals = c.outer ++ c.inner ∷ [] in
    let plain : Surroundings = record { call = λ name vs. pure (values.Int (pos 0)); live_call = λ name vs. pure (Ready (values.Int (pos 0))); text = λ bytes. 0; site = λ place. 0; depth = 0 } in
    let a = place_accesses Any plain functions globals x c accesses.Write clean in
    keeps_more Any (Fits globals locals) (λ v. IsOf a.1.type v) IsNumeric (value_at (out-Place x).name.bytes at) (value_keeps Any globals locals (out-Place x).name.bytes accesses.Write a.0 _ at a.1) (λ v p. of_type a.1.type v p)

-- ---- tuples

both : (a b : Bool) → (a && b) ≡ true → (a ≡ true) × (b ≡ true)
both true b h = (refl, h)
both false b h = absurd cc

formal_numeric : (t : TypeName) (w : Value) → same_type (field_type t) (type_of w) ≡ true → IsNumeric w
formal_numeric t (values.Int n) h = tt
formal_numeric t (values.Long n) h = tt
formal_numeric t (values.Char n) h = tt
formal_numeric types.Int (values.Text n) h = absurd cc
formal_numeric types.Long (values.Text n) h = absurd cc
formal_numeric types.Char (values.Text n) h = absurd cc

match_fills : (fields : List Aim) (t : List Value) → matches (map slot fields) t ≡ true → FillByNumbers fields t
match_fills [] [] h = tt
match_fills [] (w ∷ ws) h = absurd cc
match_fills (x ∷ xs) [] h = absurd cc
match_fills (Holds v ∷ xs) (w ∷ ws) h = match_fills xs ws (both (accepts (slot (Holds v)) w) (matches (map slot xs) ws) h).1
match_fills (Fills of name at ∷ xs) (w ∷ ws) h = let two = both (accepts (slot (Fills of name at)) w) (matches (map slot xs) ws) h in (formal_numeric of w two.0, match_fills xs ws two.1)

pub tuples_fill : TuplesFill
tuples_fill verbs.In fields t h = match_fills fields t h
tuples_fill verbs.Rd fields t h = match_fills fields t h
tuples_fill verbs.Inp fields t h = match_fills fields t h
tuples_fill verbs.Rdp fields t h = match_fills fields t h
tuples_fill verbs.Out fields t h = absurd cc
tuples_fill verbs.Eval fields t h = absurd cc

-- ---- starts

arguments_numeric : (ps : List Parameter) (vs : List Value) → AreArguments ps vs → AllByRecursion IsNumeric vs
arguments_numeric [] [] h = tt
arguments_numeric [] (v ∷ vs) h = absurd h
arguments_numeric (p ∷ ps) [] h = absurd h
arguments_numeric (p ∷ ps) (v ∷ vs) h = (of_type p.type_name v h.0, arguments_numeric ps vs h.1)

parts_numeric : (functions : List Function) (parts : List PlainPart) → AllByRecursion (PartFits functions) parts → AllByRecursion HasNumbers parts
parts_numeric functions [] h = tt
parts_numeric functions (Ready v ∷ parts) h = (tt, parts_numeric functions parts h.1)
parts_numeric functions (Call number vs gives ∷ parts) h = (arguments_numeric h.0.0.parameters vs h.0.3, parts_numeric functions parts h.1)

pub starts_have_numbers : StartsHaveNumbers
starts_have_numbers xs site parts depth h = parts_numeric (functions_of xs) parts h
