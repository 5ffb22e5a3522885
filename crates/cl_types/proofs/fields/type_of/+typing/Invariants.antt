use Rattle.cl_types.specs.Expressions.{judged_chain}
use Rattle.cl_types.proofs.Typing.{InTyped}
use Rattle.cl_types.proofs.fields.type_of.+typing.Given as goal

-- what was judged so far has this type, and goes on to the whole chain
abbrev pub invariant-type_of_chain-loop-i : goal.invariant-type_of_chain-loop-i
invariant-type_of_chain-loop-i l = InTyped (judged_chain l.fn.part l.scopes) l.scopes l.links l.i l.found
