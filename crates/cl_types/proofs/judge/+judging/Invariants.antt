use Rattle.std.proofs.Common.{◌≡◌, map, drop}
use Rattle.cl_types.specs.Journals.{noted_all}
use Rattle.cl_types.specs.Expressions.{judged, judged_chain, field_notes, notes_of, all_judged, all_noted, joined}
use Rattle.cl_types.proofs.Judging.{InChain}
use Rattle.cl_types.proofs.judge.+judging.Given as goal

-- what is left to note leads to the same
abbrev pub invariant-arguments-loop-i : goal.invariant-arguments-loop-i
invariant-arguments-loop-i l =
    noted_all (notes_of (all_judged l.scopes (map judged (drop l.i l.parts)))) l.journal ≡ noted_all (notes_of (all_judged l.scopes (map judged l.parts))) l.initial.journal

abbrev pub invariant-fields-loop-i : goal.invariant-fields-loop-i
invariant-fields-loop-i l =
    noted_all (joined (all_noted l.verb l.scopes (map field_notes (drop l.i l.parts)))) l.journal ≡ noted_all (joined (all_noted l.verb l.scopes (map field_notes l.parts))) l.initial.journal

-- what was judged so far has this type, was noted, and goes on to the whole chain
abbrev pub invariant-chain-loop-i : goal.invariant-chain-loop-i
invariant-chain-loop-i l = InChain (judged_chain l.fn.part l.scopes) l.scopes l.links l.i l.found l.fn.journal l.journal
