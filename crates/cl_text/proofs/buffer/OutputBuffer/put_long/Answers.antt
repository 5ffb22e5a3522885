use Rattle.std.proofs.Common.{◌++◌, ap}
use Rattle.std.specs.Prelude.{codes}
use Rattle.std.specs.Fmt.{signed_decimal}
use Rattle.std.specs.Int.{w64}
use Rattle.std.proofs.lemmas.Int.{to_z-of_z}
use Rattle.cl_text.proofs.Stages.{then, alike}
use Rattle.cl_text.proofs.buffer.OutputBuffer.put_long.Goals as goal

pub returns : goal.returns
returns g c =
    alike _ _ _ _ (ap (λ n. signed_decimal n ++ codes "L") (to_z-of_z w64 c.args.number c.ranges.number)) (then _ _ _ _ _ c.put_signed.ensures c.put.ensures)
