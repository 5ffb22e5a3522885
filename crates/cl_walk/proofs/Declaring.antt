-- What declarations come to, by their rules. (This project.)
use Rattle.std.proofs.Common.{◌≡◌, ◌∙◌, ap, sym, refl, subst, ℕ, List, [], ◌∷◌, replicate}
use Rattle.std.specs.Prelude.{Result, Ok, Err, OnOk, IfErr}
use mathlib.Core.Path.{fun_ext}
use Rattle.cl_value.specs.declared.process.Trap.{Trap}
use Rattle.cl_value.specs.declared.value.Value.{Value}
use Rattle.cl_ast.specs.declared.tree.TypeName.{TypeName}
use Rattle.cl_ast.specs.declared.tree.Spanned.{Spanned}
use Rattle.cl_ast.specs.declared.statement.Size.{Size}
use Rattle.cl_ast.specs.declared.statement.Declarator.{Declarator}
use Rattle.cl_ast.specs.declared.statement.Form.{Form}
use Rattle.cl_ast.specs.declared.statement.Form.TheVariants as forms
use Rattle.cl_model.specs.Doing.{then_do, pure, checked, Checked, variables, set_variables, ◌>>=◌, ◌>>◌}
use Rattle.cl_meaning.specs.Operators.{converted, zero_of}
use Rattle.cl_meaning.specs.Variables.{declared}
use Rattle.cl_meaning.specs.Operations.{Does}
use Rattle.cl_meaning.specs.Expressions.{Surroundings, value}
use Rattle.cl_meaning.specs.Statements.{WentOn, declare, form_does, declarator_does}
use Rattle.cl_walk.specs.declared.stop.Stop.{Stop}
use Rattle.cl_walk.specs.declared.stop.Stop.TheVariants.{Trapped, NoMemory}
use Rattle.cl_walk.specs.Walks.{here, Shown, Said, Point, point, Comes, same}
use Rattle.cl_walk.proofs.Walking.{on, up, on_pure, checked_ok, checked_err}
use Rattle.cl_walk.proofs.Values.{gives_pure, told_by}
use Rattle.cl_walk.proofs.Processes.{then_then}

-- a variable more, where there is memory for it
pub declare_comes : (of : TypeName) (name : List ℕ) (values : List Value) (p : Point) (result : Result (Unit {0}) Stop) (to : Shown)
    → OnOk result (to.state ≡ record p.shown.state { variables = declared (record { name = name; of = of; values = values }) p.shown.state.variables })
    → OnOk result (to.output ≡ p.shown.output) → IfErr result (λ stop. stop ≡ NoMemory) → Comes (λ _. WentOn) (declare of name values) p result (point to p.said)
unfolding declare variables set_variables pure ◌>>=◌ ◌>>◌ then_do
declare_comes of name values p (Ok u) to state output memory = rw (state, output) here
declare_comes of name values p (Err stop) to state output memory = rw memory tt

module _ (around : Surroundings) (length_of : Size → ℕ) (of : TypeName) where
  one : Value → Does (List Value)
  one v = checked (converted of v) >>= (λ w. pure (w ∷ []))

  -- what a variable begins with
  unfoldable pub form_values : Form → Does (List Value)
  unfolding one
  form_values forms.Bare = pure (zero_of of ∷ [])
  form_values (forms.Array size) = pure (replicate (length_of size) (zero_of of))
  form_values (forms.Value x) = value around x.expr >>= one

  form_rule : (name : List ℕ) (form : Form) → form_does around length_of of name form ≡ form_values form >>= declare of name
  unfolding form_does form_values one pure ◌>>=◌ then_do
  form_rule name forms.Bare = refl
  form_rule name (forms.Array size) = refl
  form_rule name (forms.Value x) = fun_ext (λ s. sym (then_then (value around x.expr s) one (declare of name)
      ∙ ap (then_do (value around x.expr s)) (fun_ext (λ v. fun_ext (λ t. then_then (checked (converted of v) t) (λ w. pure (w ∷ [])) (declare of name))))))

  module _ (d : Declarator) (from : Point) where
    rule : declarator_does around length_of of d ≡ form_values d.form >>= declare of d.name.bytes
    unfolding declarator_does
    rule = form_rule d.name.bytes d.form

    pub values_stop : (stop : Stop) (to : Point) → Comes {B = List Value} same (form_values d.form) from (Err stop) to → Comes {B = Unit {0}} (λ _. WentOn) (declarator_does around length_of of d) from (Err stop) to
    values_stop stop to v = told_by {B = Unit {0}} (λ _. WentOn) (declarator_does around length_of of d) (form_values d.form >>= declare of d.name.bytes) from (Err stop) to rule (up {D = Unit {0}} same (λ _. WentOn) (form_values d.form) (declare of d.name.bytes) from to stop v)

    pub declares : (name : List ℕ) → name ≡ d.name.bytes → (values : List Value) (between : Point) → Comes same (form_values d.form) from (Ok values) between → (result : Result (Unit {0}) Stop) (to : Point) → Comes (λ _. WentOn) (declare of name values) between result to → Comes (λ _. WentOn) (declarator_does around length_of of d) from result to
    declares name named values between v result to w = told_by (λ _. WentOn) (declarator_does around length_of of d) (form_values d.form >>= declare of d.name.bytes) from result to rule
        (on same (λ _. WentOn) (form_values d.form) (declare of d.name.bytes) from between values result to v (subst (λ (n : List ℕ). Comes (λ _. WentOn) (declare of n values) between result to) named w))

    module _ (x : Spanned) (is : d.form ≡ forms.Value x) (to : Point) where
      by_initial : (result : Result (List Value) Stop) (end : Point) → Comes same (value around x.expr >>= one) from result end → Comes same (form_values d.form) from result end
      unfolding form_values
      by_initial result end v = told_by same (form_values d.form) (form_values (forms.Value x)) from result end (ap form_values is) v

      pub initial_stops : (stop : Stop) → Comes {B = Value} same (value around x.expr) from (Err stop) to → Comes {B = Unit {0}} (λ _. WentOn) (declarator_does around length_of of d) from (Err stop) to
      initial_stops stop v = values_stop stop to (by_initial (Err stop) to (up same same (value around x.expr) one from to stop v))

      module _ (v : Value) (comes : Comes same (value around x.expr) from (Ok v) to) (r : Checked Value) (made : r ≡ converted of v) where
        pub initial_traps : (t : Trap) → r ≡ Err t → Comes {B = Unit {0}} (λ _. WentOn) (declarator_does around length_of of d) from (Err (Trapped t)) to
        unfolding one
        initial_traps t traps = values_stop (Trapped t) to (by_initial (Err (Trapped t)) to (on same same (value around x.expr) one from to v (Err (Trapped t)) to comes
            (up {C = Value} same same (checked (converted of v)) (λ w. pure (w ∷ [])) to to (Trapped t) (checked_err same (converted of v) to t (sym made ∙ traps)))))

        pub initial_gives : (w : Value) → r ≡ Ok w → (values : List Value) → values ≡ w ∷ [] → (s : Shown) (said : Said) → s ≡ to.shown → said ≡ to.said → Comes same (form_values d.form) from (Ok values) (point s said)
        unfolding one
        initial_gives w gives values are s said shown_is said_is = rw (shown_is, said_is) (by_initial (Ok values) to (on same same (value around x.expr) one from to v (Ok values) to comes
            (on_pure same same (checked (converted of v)) (λ w. w ∷ []) to to w values are (checked_ok same (converted of v) to w (sym made ∙ gives)))))

    module _ (values : List Value) (s : Shown) (said : Said) (shown_is : s ≡ from.shown) (said_is : said ≡ from.said) where
      at_once : (all : List Value) → form_values d.form ≡ pure all → values ≡ all → Comes same (form_values d.form) from (Ok values) (point s said)
      at_once all is are = rw (shown_is, said_is) (told_by same (form_values d.form) (pure all) from (Ok values) from is (gives_pure same all values from are))

      pub bare_gives : d.form ≡ forms.Bare → (zero : Value) → zero ≡ zero_of of → values ≡ zero ∷ [] → Comes same (form_values d.form) from (Ok values) (point s said)
      unfolding form_values
      bare_gives is zero zero_is are = at_once (zero_of of ∷ []) (ap form_values is) (are ∙ ap (λ v. v ∷ []) zero_is)

      pub array_gives : (size : Size) → d.form ≡ forms.Array size → (n : ℕ) → n ≡ length_of size → values ≡ replicate n (zero_of of) → Comes same (form_values d.form) from (Ok values) (point s said)
      unfolding form_values
      array_gives size is n many are = at_once (replicate (length_of size) (zero_of of)) (ap form_values is) (are ∙ ap (λ k. replicate k (zero_of of)) many)
