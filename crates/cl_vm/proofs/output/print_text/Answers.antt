use Rattle.std.proofs.Common.{◌∙◌, ◌+◌, ◌-◌, ◌<◌, ◌≤◌, ℕ, List, Bool, ap, sym, subst, arith, drop, take, length, length-drop, length-take}
use Rattle.std.specs.Prelude.{ℤ}
use Rattle.std.proofs.lemmas.List.{take_rest, drop-drop, take-append-le}
use Rattle.cl_vm.specs.Printing.{PrintsOn, Added, piece_bytes, takes_of}
use Rattle.cl_vm.proofs.Pieces.{IsRead, read_enough, read_fits, read_on, read_too_much}
use Rattle.cl_vm.proofs.output.print_text.Goals as goal

pub print_piece-requires-clause-numbers : goal.print_piece-requires-clause-numbers
print_piece-requires-clause-numbers c =
    let text = c.args.text.now in
    let numbers = c.args.numbers.now in
    let long = length-drop c.pieces.i text in
    let lt = c.pieces-test.true in
    let some : 0 < length (drop c.pieces.i text) = omega (arith, long, lt) in
    let read : IsRead (drop c.pieces.i text) (take (length text - c.pieces.i) (drop c.pieces.i text)) c.first_byte.result c.second_byte.result c.piece_of-piece.result.0 c.piece_of-piece.result.1 =
    record { whole = take_rest text c.pieces.i; first_is = c.first_byte.ensures; second_is = c.second_byte.ensures; kind = c.piece_of-piece.ensures.kind; bytes = c.piece_of-piece.ensures.bytes } in
    read_enough c.args.output.now.items c.pieces.output.items text (drop c.pieces.i text) (take (length text - c.pieces.i) (drop c.pieces.i text)) numbers (drop c.pieces.k numbers) (take (length numbers - c.pieces.k) (drop c.pieces.k numbers)) c.first_byte.result c.second_byte.result c.piece_of-piece.result.0 c.piece_of-piece.result.1 c.pieces.invariant.0 some read (take_rest numbers c.pieces.k)

pub returns-then-not-print_piece-clause-prints : goal.returns-then-not-print_piece-clause-prints
returns-then-not-print_piece-clause-prints c = λ all is.
    let text = c.args.text.now in
    let numbers = c.args.numbers.now in
    let long = length-drop c.pieces.i text in
    let lt = c.pieces-test.true in
    let some : 0 < length (drop c.pieces.i text) = omega (arith, long, lt) in
    let read : IsRead (drop c.pieces.i text) (take (length text - c.pieces.i) (drop c.pieces.i text)) c.first_byte.result c.second_byte.result c.piece_of-piece.result.0 c.piece_of-piece.result.1 =
    record { whole = take_rest text c.pieces.i; first_is = c.first_byte.ensures; second_is = c.second_byte.ensures; kind = c.piece_of-piece.ensures.kind; bytes = c.piece_of-piece.ensures.bytes } in
    let added = subst (λ (done : Bool). Added c.pieces.output.items done (piece_bytes c.piece_of-piece.result.0 (take (length numbers - c.pieces.k) (drop c.pieces.k numbers))) c.print_piece.new.output.items) c.if-not-print_piece.true c.print_piece.ensures.added in (
      c.truncate.ensures.items ∙ ap (λ (xs : List ℕ). take c.len-before.result xs) added.0 ∙ ap (λ (n : ℕ). take n c.pieces.output.items) (c.len-before.ensures ∙ c.args.output.now.ok.0) ∙ c.pieces.invariant.1,
      read_too_much c.args.output.now.items c.pieces.output.items text (drop c.pieces.i text) (take (length text - c.pieces.i) (drop c.pieces.i text)) numbers (drop c.pieces.k numbers) (take (length numbers - c.pieces.k) (drop c.pieces.k numbers)) c.first_byte.result c.second_byte.result c.piece_of-piece.result.0 c.piece_of-piece.result.1 c.pieces.invariant.0 some read (take_rest numbers c.pieces.k) c.print_piece.new.output.items added all is,
    )

pub pieces-preserved : goal.pieces-preserved
pieces-preserved c =
    let text = c.args.text.now in
    let numbers = c.args.numbers.now in
    let long = length-drop c.pieces.i text in
    let lt = c.pieces-test.true in
    let some : 0 < length (drop c.pieces.i text) = omega (arith, long, lt) in
    let read : IsRead (drop c.pieces.i text) (take (length text - c.pieces.i) (drop c.pieces.i text)) c.first_byte.result c.second_byte.result c.piece_of-piece.result.0 c.piece_of-piece.result.1 =
    record { whole = take_rest text c.pieces.i; first_is = c.first_byte.ensures; second_is = c.second_byte.ensures; kind = c.piece_of-piece.ensures.kind; bytes = c.piece_of-piece.ensures.bytes } in
    let added = subst (λ (done : Bool). Added c.pieces.output.items done (piece_bytes c.piece_of-piece.result.0 (take (length numbers - c.pieces.k) (drop c.pieces.k numbers))) c.print_piece.new.output.items) c.if-not-print_piece.false c.print_piece.ensures.added in
    let next = read_on c.args.output.now.items c.pieces.output.items text (drop c.pieces.i text) (take (length text - c.pieces.i) (drop c.pieces.i text)) numbers (drop c.pieces.k numbers) (take (length numbers - c.pieces.k) (drop c.pieces.k numbers)) c.first_byte.result c.second_byte.result c.piece_of-piece.result.0 c.piece_of-piece.result.1 c.pieces.invariant.0 some read (take_rest numbers c.pieces.k) c.print_piece.new.output.items added in
    let fits = read_fits c.args.output.now.items c.pieces.output.items text (drop c.pieces.i text) (take (length text - c.pieces.i) (drop c.pieces.i text)) numbers (drop c.pieces.k numbers) (take (length numbers - c.pieces.k) (drop c.pieces.k numbers)) c.first_byte.result c.second_byte.result c.piece_of-piece.result.0 c.piece_of-piece.result.1 c.pieces.invariant.0 some read (take_rest numbers c.pieces.k) in
    let enough = read_enough c.args.output.now.items c.pieces.output.items text (drop c.pieces.i text) (take (length text - c.pieces.i) (drop c.pieces.i text)) numbers (drop c.pieces.k numbers) (take (length numbers - c.pieces.k) (drop c.pieces.k numbers)) c.first_byte.result c.second_byte.result c.piece_of-piece.result.0 c.piece_of-piece.result.1 c.pieces.invariant.0 some read (take_rest numbers c.pieces.k) in
    let given_long = ap (λ xs. length xs) (take_rest numbers c.pieces.k) in
    let left_long = length-drop c.pieces.k numbers in
    let front_fits : length c.args.output.now.items ≤ length c.pieces.output.items = (let e = ap (λ (xs : List ℕ). length xs) c.pieces.invariant.1 in let t = length-take (length c.args.output.now.items) c.pieces.output.items in omega (arith, e, t)) in (
      subst (λ (xs : List ℕ). PrintsOn c.args.output.now.items c.print_piece.new.output.items text xs numbers (drop (c.pieces.k + c.takes-k.result) numbers)) (drop-drop c.piece_of-piece.result.1 c.pieces.i text)
          (subst (λ (n : ℕ). PrintsOn c.args.output.now.items c.print_piece.new.output.items text (drop c.piece_of-piece.result.1 (drop c.pieces.i text)) numbers (drop (c.pieces.k + n) numbers)) (sym c.takes-k.ensures)
          (subst (λ (ns : List ℤ). PrintsOn c.args.output.now.items c.print_piece.new.output.items text (drop c.piece_of-piece.result.1 (drop c.pieces.i text)) numbers ns) (drop-drop (takes_of c.piece_of-piece.result.0) c.pieces.k numbers) next)),
      ap (λ (xs : List ℕ). take (length c.args.output.now.items) xs) added.0 ∙ take-append-le (length c.args.output.now.items) c.pieces.output.items (piece_bytes c.piece_of-piece.result.0 (take (length numbers - c.pieces.k) (drop c.pieces.k numbers))) front_fits ∙ c.pieces.invariant.1,
      c.print_piece.ensures.capacity ∙ c.pieces.invariant.2,
      omega (arith, fits, long, lt),
      omega (arith, enough, given_long, left_long, c.takes-k.ensures, c.pieces.invariant.4),
    )
