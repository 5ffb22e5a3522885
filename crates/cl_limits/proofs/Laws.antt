-- Ticks change no more than that of any process of any text.
use Rattle.std.proofs.Common.{◌≡◌, subst, ℕ, ◌+◌, ◌-◌, List, arith}
use Rattle.cl_value.specs.Plain.{PlainStart}
use Rattle.cl_ast.specs.declared.statement.Item.{Item}
use Rattle.cl_meaning.specs.Process.{begun, process, demands}
use Rattle.cl_limits.specs.Ticks.{GoesFurther, OnlyTicks}
use Rattle.cl_limits.proofs.Calls.{goes_process}
use Rattle.cl_limits.proofs.Demanded.{further}

with_extra : (xs : List Item) (few extra : ℕ) (start : PlainStart) → GoesFurther (demands xs few start) (demands xs (few + extra) start)
with_extra xs few extra start = further extra few (process xs start (begun xs few)) (process xs start (begun xs (few + extra))) (goes_process extra xs start few (begun xs few) (omega arith))

pub only_ticks : (xs : List Item) → OnlyTicks xs
only_ticks xs few more start le =
    let is : few + (more - few) ≡ more = omega (arith, le) in
    subst (λ n. GoesFurther (demands xs few start) (demands xs n start)) is (with_extra xs few (more - few) start)
