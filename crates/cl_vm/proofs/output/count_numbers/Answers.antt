use Rattle.std.proofs.Common.{◌+◌, ◌-◌, ◌<◌, ℕ, List, subst, arith, drop, take, length, length-drop}
use Rattle.std.proofs.lemmas.List.{take_rest, drop-drop}
use Rattle.cl_vm.specs.Printing.{CountsOn}
use Rattle.cl_vm.proofs.Pieces.{IsRead, counted_on}
use Rattle.cl_vm.proofs.output.count_numbers.Goals as goal

pub pieces-preserved : goal.pieces-preserved
pieces-preserved c =
    let text = c.args.text.now in
    let long = length-drop c.pieces.i text in
    let lt = c.pieces-test.true in
    let some : 0 < length (drop c.pieces.i text) = omega (arith, long, lt) in
    let read : IsRead (drop c.pieces.i text) (take (length text - c.pieces.i) (drop c.pieces.i text)) c.first_byte.result c.second_byte.result c.piece_of-piece.result.0 c.piece_of-piece.result.1 =
    record { whole = take_rest text c.pieces.i; first_is = c.first_byte.ensures; second_is = c.second_byte.ensures; kind = c.piece_of-piece.ensures.kind; bytes = c.piece_of-piece.ensures.bytes } in
    let next = counted_on text (drop c.pieces.i text) (take (length text - c.pieces.i) (drop c.pieces.i text)) c.pieces.k c.first_byte.result c.second_byte.result c.piece_of-piece.result.0 c.piece_of-piece.result.1 c.takes-k.result c.pieces.invariant.0 some read c.takes-k.ensures in (
      subst (λ (xs : List ℕ). CountsOn text xs (c.pieces.k + c.takes-k.result)) (drop-drop c.piece_of-piece.result.1 c.pieces.i text) next.on,
      omega (arith, next.fits, long, lt),
      omega (arith, next.some, next.few, c.pieces.invariant.2),
    )
