use Rattle.std.proofs.Common.{ℤ, sym, subst, to_z, of_z}
use Rattle.std.specs.Prelude.{int_div}
use Rattle.std.specs.Int.{w64, CanDivide}
use Rattle.std.proofs.lemmas.Int.{to_z-of_z}
use Rattle.cl_state.proofs.arithmetic.divided.Goals as goal

pub returns-in-None : goal.returns-in-None
returns-in-None c some =
    let x = to_z-of_z w64 c.args.dividend c.ranges.dividend in
    let y = to_z-of_z w64 c.args.divisor c.ranges.divisor in
    let far : CanDivide w64 c.args.dividend c.args.divisor → CanDivide w64 (to_z w64 (of_z w64 c.args.dividend)) (to_z w64 (of_z w64 c.args.divisor)) =
    λ can. subst (λ (d : ℤ). CanDivide w64 (to_z w64 (of_z w64 c.args.dividend)) d) (sym y) (subst (λ (d : ℤ). CanDivide w64 d c.args.divisor) (sym x) can)
    in
    c.too_great.ensures (int_div c.args.dividend c.args.divisor) (λ fits. c.in-None.ensures (far (some, fits)))
