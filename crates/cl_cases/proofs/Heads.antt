-- What stands in the head of a `for` goes on.
use Rattle.std.proofs.Common.{◌≡◌, ◌∙◌, ap, sym, subst, refl, ℕ, Bool, true, false, ◌&&◌, Option, Some, None}
use Rattle.std.specs.Prelude.{option_map}
use Rattle.cl_value.specs.declared.value.Value.{Value}
use Rattle.cl_ast.specs.declared.tree.Operator.{Operator}
use Rattle.cl_ast.specs.declared.tree.Operator.TheVariants as operators
use Rattle.cl_ast.specs.declared.statement.Stmt.{Stmt}
use Rattle.cl_ast.specs.declared.statement.Stmt.TheVariants as stmts
use Rattle.cl_ast.specs.declared.statement.Change.{Change}
use Rattle.cl_ast.specs.declared.statement.Change.TheVariants as changes
use Rattle.cl_ast.specs.declared.statement.Print.{Print}
use Rattle.cl_ast.specs.declared.statement.Size.{Size}
use Rattle.cl_model.specs.Doing.{◌>>=◌, pure, checked}
use Rattle.cl_meaning.specs.Operations.{Does, value_at}
use Rattle.cl_meaning.specs.Expressions.{Surroundings, PlaceDoes, place_meant, call, operation}
use Rattle.cl_meaning.specs.Expressions as meant_by
use Rattle.cl_meaning.proofs.Sentences as meant
use Rattle.cl_typing.proofs.Leading.{keeps_bind, keeps_then, keeps_pure}
use Rattle.cl_cases.specs.Giving.{AlwaysGives}
use Rattle.cl_cases.proofs.Giving.{Any, Wherever, any_gives}
use Rattle.cl_ast.specs.declared.statement.Stmt.TheOpen.{Stmt-F}
use Rattle.cl_ast.specs.declared.statement.Stmt.TheViews.{out-Stmt, roll-Stmt, roll-out-Stmt}
use Rattle.cl_ast.specs.declared.statement.Block.{Block}
use Rattle.cl_ast.specs.declared.statement.Do.{Do}
use Rattle.cl_ast.specs.declared.statement.For.{For, out-For}
use Rattle.cl_ast.specs.declared.statement.If.{If}
use Rattle.cl_ast.specs.declared.statement.While.{While}
use Rattle.cl_meaning.specs.Statements.{Exit, WentOn, going_on, updated, change_does, print_does, or_nothing, does}
use Rattle.cl_cases.specs.Heads.{Heading, is_head_if_any, other_one, headed, HeadsGoOn}
use Rattle.cl_cases.proofs.Headed as equations

both : (a b : Bool) → (a && b) ≡ true → (a ≡ true) × (b ≡ true)
both true b h = (refl, h)
both false b h = absurd cc

module _ (around : Surroundings) (length_of : Size → ℕ) where
  abbrev On : Does Exit → Type 0
  On d = AlwaysGives (λ e. e ≡ WentOn) d

  behind_any : {A : Type 0} (d : Does A) (f : A → Does Exit) → ((a : A) → On (f a)) → On (d >>= f)
  behind_any d f h = keeps_bind Any Wherever (λ a. Unit {0}) (λ e. e ≡ WentOn) d f (any_gives d) (λ a u. h a)

  goes_on : {A : Type 0} (d : Does A) → On (going_on d)
  unfolding going_on
  goes_on d = keeps_then Any Wherever (λ a. Unit {0}) (λ e. e ≡ WentOn) d (pure WentOn) (any_gives d) (keeps_pure Any Wherever (λ e. e ≡ WentOn) WentOn refl)

  updated_on : (p : PlaceDoes) (operator : Operator) (right : Does Value) → On (updated around length_of p operator right)
  unfolding updated
  updated_on p operator right = behind_any p.at _ (λ at. behind_any (value_at p.name at) _ (λ old. behind_any right _ (λ v. behind_any (checked _) _ (λ new. goes_on _))))

  change_on : (p : PlaceDoes) (x : Change) → On (change_does around length_of p x)
  unfolding change_does
  change_on p (changes.Set e) = behind_any p.at _ (λ at. behind_any (meant_by.value around e) _ (λ v. goes_on _))
  change_on p (changes.Add e) = updated_on p operators.Add (meant_by.value around e)
  change_on p (changes.Subtract e) = updated_on p operators.Subtract (meant_by.value around e)
  change_on p (changes.Multiply e) = updated_on p operators.Multiply (meant_by.value around e)
  change_on p changes.Increment = updated_on p operators.Add _
  change_on p changes.Decrement = updated_on p operators.Subtract _

  print_on : (x : Print) → On (print_does around length_of x)
  unfolding print_does
  print_on x = behind_any _ _ (λ values. goes_on _)

  -- ---- simple statements

  abbrev Goes : Stmt → Type 0
  Goes x = (headed x).is_simple ≡ true → On (does around length_of x)

  -- what is no simple statement
  never : (x : Stmt) (b : Bool) → headed x ≡ other_one b → Goes x
  never x b is h = absurd (let no : true ≡ false = sym h ∙ ap (λ (k : Heading). k.is_simple) is in cc)

  simple_goes : (x : Stmt) → Goes x
  simple_goes x = subst Goes (roll-out-Stmt x) (by (out-Stmt x))
    where
      by : (y : Stmt-F Stmt Block Do For If While) → Goes (roll-Stmt y)
      by (Stmt-F.Block y) = subst Goes (sym (stmts.rolls-Block y)) (never (stmts.Block y) _ (equations.of_block y))
      by (Stmt-F.Empty y) = subst Goes (sym (stmts.rolls-Empty y)) (never (stmts.Empty y) _ (equations.of_empty y))
      by (Stmt-F.Variables y) = subst Goes (sym (stmts.rolls-Variables y)) (never (stmts.Variables y) _ (equations.of_variables y))
      by (Stmt-F.Assign y) = subst Goes (sym (stmts.rolls-Assign y)) (λ h. subst On (sym (meant.of_assign around length_of y)) (change_on (place_meant around y.place) y.change))
      by (Stmt-F.Call y) = subst Goes (sym (stmts.rolls-Call y)) (λ h. subst On (sym (meant.of_call around length_of y)) (goes_on (call around y)))
      by (Stmt-F.Operation y) = subst Goes (sym (stmts.rolls-Operation y)) (λ h. subst On (sym (meant.of_operation around length_of y)) (goes_on (operation around y)))
      by (Stmt-F.Print y) = subst Goes (sym (stmts.rolls-Print y)) (λ h. subst On (sym (meant.of_print around length_of y)) (print_on y))
      by (Stmt-F.If y) = subst Goes (sym (stmts.rolls-If y)) (never (stmts.If y) _ (equations.of_if y))
      by (Stmt-F.While y) = subst Goes (sym (stmts.rolls-While y)) (never (stmts.While y) _ (equations.of_while y))
      by (Stmt-F.Do y) = subst Goes (sym (stmts.rolls-Do y)) (never (stmts.Do y) _ (equations.of_do y))
      by (Stmt-F.For y) = subst Goes (sym (stmts.rolls-For y)) (never (stmts.For y) _ (equations.of_for y))
      by (Stmt-F.Break y) = subst Goes (sym (stmts.rolls-Break y)) (never (stmts.Break y) _ (equations.of_break y))
      by (Stmt-F.Continue y) = subst Goes (sym (stmts.rolls-Continue y)) (never (stmts.Continue y) _ (equations.of_continue y))
      by (Stmt-F.Return y) = subst Goes (sym (stmts.rolls-Return y)) (never (stmts.Return y) _ (equations.of_return y))

  head_goes : (x : Option Stmt) → is_head_if_any (option_map headed x) ≡ true → On (or_nothing (option_map (does around length_of) x))
  unfolding or_nothing
  head_goes None h = keeps_pure Any Wherever (λ e. e ≡ WentOn) WentOn refl
  head_goes (Some x) h = simple_goes x (both (headed x).is_simple (headed x).has_heads h).0

pub heads_go_on : HeadsGoOn
heads_go_on around length_of x h =
    let first = is_head_if_any (option_map headed (out-For x).first) in
    let step = is_head_if_any (option_map headed (out-For x).step) in
    let body = (headed (out-For x).body).has_heads in
    let all : (first && (step && body)) ≡ true = sym (ap (λ (k : Heading). k.has_heads) (equations.of_for x)) ∙ h in
    let two = both first (step && body) all in
    (head_goes around length_of (out-For x).first two.0, head_goes around length_of (out-For x).step (both step body two.1).0)
