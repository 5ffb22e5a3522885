-- An act takes more bytes than its calls have arguments.
use Rattle.std.proofs.Common.{ℕ, ◌-◌, ◌≤◌, List, [], ◌∷◌, ◌++◌, length, length-append, sym, ap, subst, arith}
use Rattle.cl_value.specs.Plain as plain
use Rattle.cl_value.specs.Plain.{PlainWhat, DidOut, DidIn, DidRd, InpHit, InpMiss, RdpHit, RdpMiss, DidEval, DidLand, PlainAct, PlainPart}
use Rattle.cl_value.specs.declared.value.Value.{Value}
use Rattle.cl_log.specs.Numbers.{number}
use Rattle.cl_log.specs.Values.{marked, values_of, part_of, parts_of}
use Rattle.cl_log.specs.Spelling.{fields_of, act_of, acts_of}
use Rattle.cl_log.specs.Reading.{acts_at}
use Rattle.cl_log.specs.Seen.{arguments_in}
use Rattle.cl_log.specs.Logs.{IsBlock, PlainLog, acts_in_blocks}
use Rattle.cl_log.specs.Cursors.{arguments_of, AreNarrow}
use Rattle.cl_log.proofs.Logs.{one_block_more}

values_long : (values : List Value) → length values ≤ length (values_of values)
unfolding values_of marked
values_long [] = omega arith
values_long (value ∷ values) = omega (arith, length-append (marked 0 value) (values_of values), values_long values)

parts_long : (parts : List PlainPart) → arguments_in parts ≤ length (parts_of parts)
unfolding parts_of part_of
parts_long [] = omega arith
parts_long (plain.Ready value ∷ parts) = omega (arith, length-append (marked 0 value) (parts_of parts), parts_long parts)
parts_long (plain.Call function arguments gives ∷ parts) =
    omega (arith, length-append (number function ++ number (length arguments) ++ values_of arguments) (parts_of parts), length-append (number function ++ number (length arguments)) (values_of arguments), values_long arguments, parts_long parts)

what_long : (what : PlainWhat) → arguments_of what ≤ length (fields_of what)
what_long (DidOut t) = omega arith
what_long (DidIn m t) = omega arith
what_long (DidRd m t) = omega arith
what_long (InpHit m t) = omega arith
what_long (InpMiss m) = omega arith
what_long (RdpHit m t) = omega arith
what_long (RdpMiss m) = omega arith
what_long (DidEval live) = parts_long live
what_long (DidLand t) = omega arith

act_long : (before : ℕ) (act : PlainAct) → arguments_of act.what ≤ length (act_of before act)
unfolding act_of
act_long before act =
    omega (arith, length-append (number (act.ticket - before) ++ number act.proc ++ number act.site) (fields_of act.what), what_long act.what)

-- acts are no wider than their bytes are many
acts_long : (most before : ℕ) (acts : List PlainAct) → length (acts_of before acts) ≤ most → AreNarrow most acts
unfolding acts_of
acts_long most before [] low = tt
acts_long most before (act ∷ acts) low =
    let both = length-append (act_of before act) (acts_of act.ticket acts) in
    (omega (arith, low, both, act_long before act), acts_long most act.ticket acts (omega (arith, low, both)))

pub block_long : (bytes : List ℕ) (last : ℕ) → IsBlock bytes last → AreNarrow (length bytes) (acts_at 0 bytes)
block_long bytes last b = acts_long (length bytes) 0 (acts_at 0 bytes) (omega (arith, ap length b.spelled))

-- what is narrow is so within more
pub narrow_more : (low high : ℕ) (acts : List PlainAct) → low ≤ high → AreNarrow low acts → AreNarrow high acts
narrow_more low high [] le narrow = tt
narrow_more low high (act ∷ acts) le narrow = (omega (arith, le, narrow.0), narrow_more low high acts le narrow.1)

pub narrow_both : (most : ℕ) (front behind : List PlainAct) → AreNarrow most front → AreNarrow most behind → AreNarrow most (front ++ behind)
narrow_both most [] behind first second = second
narrow_both most (act ∷ front) behind first second = (first.0, narrow_both most front behind first.1 second)

-- of the acts of blocks with one more
pub block_closed : (low high most : ℕ) (blocks : List PlainLog) (block : PlainLog) → AreNarrow low (acts_in_blocks blocks) → AreNarrow high block.acts → low ≤ most → high ≤ most → AreNarrow most (acts_in_blocks (blocks ++ block ∷ []))
block_closed low high most blocks block first second l h =
    subst (AreNarrow most) (sym (one_block_more blocks block)) (narrow_both most (acts_in_blocks blocks) block.acts (narrow_more low most (acts_in_blocks blocks) l first) (narrow_more high most block.acts h second))
