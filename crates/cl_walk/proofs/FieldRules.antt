-- The rules of fields, one part after the other. (This project.)
use Rattle.std.proofs.Common.{◌≡◌, ◌∙◌, ap, sym, refl, subst, ℕ, List}
use Rattle.std.specs.Prelude.{Result, Ok, Err}
use Rattle.std.specs.Borrow.{Bor}
use Rattle.cl_value.specs.declared.value.Value.{Value}
use Rattle.cl_value.specs.declared.value.Value.TheVariants as values
use Rattle.cl_value.specs.declared.live.LiveField.{LiveField}
use Rattle.cl_value.specs.declared.live.LiveField.TheVariants as live
use Rattle.cl_value.specs.LiveViews.{plain_part}
use Rattle.cl_value.specs.Plain.{Ready}
use Rattle.cl_ast.specs.declared.tree.TypeName.{TypeName}
use Rattle.cl_ast.specs.declared.tree.Text.{Text}
use Rattle.cl_ast.specs.declared.tree.Expr.{Expr}
use Rattle.cl_ast.specs.declared.tree.Expr.TheVariants as exprs
use Rattle.cl_ast.specs.declared.tree.Call.{Call}
use Rattle.cl_ast.specs.declared.tree.Field.{Field}
use Rattle.cl_ast.specs.declared.tree.Field.TheVariants as fields
use Rattle.cl_ast.specs.declared.tree.Formal.{Formal, out-Formal}
use Rattle.cl_ast.specs.declared.tree.Place.{out-Place}
use Rattle.cl_model.specs.Doing.{◌>>=◌, pure, variables, then_do}
use Rattle.cl_meaning.specs.Variables.{found}
use Rattle.cl_meaning.specs.Operations as meaning
use Rattle.cl_meaning.specs.Operations.{Does, formal, variable}
use Rattle.cl_meaning.specs.Expressions.{Surroundings, value, place_meant}
use Rattle.cl_meaning.specs.Parts.{field_aim, field_part, call_part}
use Rattle.cl_meaning.proofs.Equations.{aim_of_text, aim_of_plain, aim_of_formal, part_of_text, part_of_formal, part_of_call, part_of_value}
use Rattle.cl_walk.specs.declared.field.Aim.{Aim}
use Rattle.cl_walk.specs.declared.field.Aim.TheVariants as aims
use Rattle.cl_walk.specs.declared.stop.Stop.{Stop}
use Rattle.cl_walk.specs.Views.{aim_of}
use Rattle.cl_walk.specs.Walks.{Point, Comes, same, here}
use Rattle.cl_walk.proofs.Walking.{on, up, on_pure}

module _ (around : Surroundings) where
  -- ---- formals

  module _ (f : Formal) (from to : Point) where
    at_last : ℕ → Does meaning.Aim
    at_last k = variable (out-Place (out-Formal f).target).name.bytes >>= (λ v. pure (meaning.Fills v.of (out-Place (out-Formal f).target).name.bytes k))

    formal_is : field_aim around (fields.Formal f) ≡ (place_meant around (out-Formal f).target).at >>= at_last
    unfolding formal at_last
    formal_is = aim_of_formal around f

    pub formal_stops : (stop : Stop) → Comes {B = ℕ} same (place_meant around (out-Formal f).target).at from (Err stop) to → Comes {B = Aim} aim_of (field_aim around (fields.Formal f)) from (Err stop) to
    formal_stops stop w = subst (λ p. Comes {B = Aim} aim_of p from (Err stop) to) (sym formal_is) (up same aim_of (place_meant around (out-Formal f).target).at at_last from to stop w)

    filled : (of : TypeName) (name : Bor (List ℕ)) (at : ℕ) → name.now ≡ (out-Place (out-Formal f).target).name.bytes → of ≡ (found name.now to.shown.state.variables).of → Comes {B = Aim} aim_of (at_last at) to (Ok (aims.Fills of name at)) to
    unfolding at_last variable variables pure ◌>>=◌ then_do
    filled of name at is type = rw (type, is) here

    pub formal_fills : (of : TypeName) (name : Bor (List ℕ)) (at : ℕ) → name.now ≡ (out-Place (out-Formal f).target).name.bytes → of ≡ (found name.now to.shown.state.variables).of → Comes same (place_meant around (out-Formal f).target).at from (Ok at) to → Comes {B = Aim} aim_of (field_aim around (fields.Formal f)) from (Ok (aims.Fills of name at)) to
    formal_fills of name at is type w = subst (λ p. Comes {B = Aim} aim_of p from (Ok (aims.Fills of name at)) to) (sym formal_is) (on same aim_of (place_meant around (out-Formal f).target).at at_last from to at (Ok (aims.Fills of name at)) to w (filled of name at is type))

  -- ---- a field of an operation other than `eval`

  pub text_aims : (field : Field) (t : Text) → field ≡ fields.Text t → (p : Point) (v : Value) → v ≡ values.Text (around.text t.bytes) → Comes {B = Aim} aim_of (field_aim around field) p (Ok (aims.Holds v)) p
  unfolding pure
  text_aims field t is p v number = rw (is, aim_of_text around t, number) here

  module _ (field : Field) (e : Expr) (is : field ≡ fields.Plain e) (from to : Point) where
    plain_aim : field_aim around field ≡ value around e >>= (λ v. pure (meaning.Holds v))
    plain_aim = ap (field_aim around) is ∙ aim_of_plain around e

    pub plain_aim_stops : (stop : Stop) → Comes {B = Value} same (value around e) from (Err stop) to → Comes {B = Aim} aim_of (field_aim around field) from (Err stop) to
    plain_aim_stops stop w = subst (λ p. Comes {B = Aim} aim_of p from (Err stop) to) (sym plain_aim) (up same aim_of (value around e) (λ v. pure (meaning.Holds v)) from to stop w)

    pub plain_aims : (v : Value) → Comes same (value around e) from (Ok v) to → Comes {B = Aim} aim_of (field_aim around field) from (Ok (aims.Holds v)) to
    plain_aims v w = subst (λ p. Comes {B = Aim} aim_of p from (Ok (aims.Holds v)) to) (sym plain_aim) (on_pure {D = Aim} same aim_of (value around e) (λ a. meaning.Holds a) from to v (aims.Holds v) refl w)

  -- ---- a field of an `eval`

  pub text_parts : (field : Field) (t : Text) → field ≡ fields.Text t → (p : Point) (v : Value) → v ≡ values.Text (around.text t.bytes) → Comes {B = LiveField} plain_part (field_part around field) p (Ok (live.Ready v)) p
  unfolding pure
  text_parts field t is p v number = rw (is, part_of_text around t, number) here

  module _ (field : Field) (f : Formal) (is : field ≡ fields.Formal f) (from to : Point) where
    formal_part : field_part around field ≡ field_aim around (fields.Formal f) >>= (λ _. pure (Ready (values.Text 0)))
    formal_part = ap (field_part around) is ∙ part_of_formal around f

    pub formal_part_stops : (stop : Stop) → Comes {B = Aim} aim_of (field_aim around (fields.Formal f)) from (Err stop) to → Comes {B = LiveField} plain_part (field_part around field) from (Err stop) to
    formal_part_stops stop w = subst (λ p. Comes {B = LiveField} plain_part p from (Err stop) to) (sym formal_part) (up aim_of plain_part (field_aim around (fields.Formal f)) (λ _. pure (Ready (values.Text 0))) from to stop w)

    pub formal_parts : (aim : Aim) → Comes aim_of (field_aim around (fields.Formal f)) from (Ok aim) to → Comes {B = LiveField} plain_part (field_part around field) from (Ok (live.Ready (values.Text 0))) to
    formal_parts aim w = subst (λ p. Comes {B = LiveField} plain_part p from (Ok (live.Ready (values.Text 0))) to) (sym formal_part) (on_pure {D = LiveField} aim_of plain_part (field_aim around (fields.Formal f)) (λ _. Ready (values.Text 0)) from to aim (live.Ready (values.Text 0)) refl w)

  pub call_parts : (e : Expr) (c : Call) → e ≡ exprs.Call c → (from : Point) (result : Result LiveField Stop) (to : Point) → Comes plain_part (call_part around c) from result to → Comes plain_part (field_part around (fields.Plain e)) from result to
  call_parts e c is from result to w = subst (λ p. Comes plain_part p from result to) (sym (ap (λ x. field_part around (fields.Plain x)) is ∙ part_of_call around c)) w

  module _ (e : Expr) (other : (c : Call) → e ≡ exprs.Call c → ⊥) (from to : Point) where
    pub value_part_stops : (stop : Stop) → Comes {B = Value} same (value around e) from (Err stop) to → Comes {B = LiveField} plain_part (field_part around (fields.Plain e)) from (Err stop) to
    value_part_stops stop w = subst (λ p. Comes {B = LiveField} plain_part p from (Err stop) to) (sym (part_of_value around e other)) (up same plain_part (value around e) (λ v. pure (Ready v)) from to stop w)

    pub value_parts : (v : Value) → Comes same (value around e) from (Ok v) to → Comes {B = LiveField} plain_part (field_part around (fields.Plain e)) from (Ok (live.Ready v)) to
    value_parts v w = subst (λ p. Comes {B = LiveField} plain_part p from (Ok (live.Ready v)) to) (sym (part_of_value around e other)) (on_pure {D = LiveField} same plain_part (value around e) (λ a. Ready a) from to v (live.Ready v) refl w)
