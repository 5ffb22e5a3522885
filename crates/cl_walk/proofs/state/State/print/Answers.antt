use Rattle.std.proofs.Common.{◌≡◌, ◌∙◌, ap, refl, ◌++◌, ◌+◌, length, length-append}
use Rattle.cl_walk.proofs.States.{print_stops, print_goes}
use Rattle.cl_walk.proofs.state.State.print.Goals as goal

pub returns-then-bytes-len : goal.returns-then-bytes-len
returns-then-bytes-len c = λ said. print_stops _ c.args.self.now said c.args.bytes.now c.self.view_is c.len.result c.len.ensures (rw c.len.ensures c.self.invariant.1) c.if-bytes-len.true

pub returns : goal.returns
returns c =
    let kept : c.reserve.new.self.items ≡ c.self.inside.output.items = c.reserve.ensures.items in
    let items : c.push_all.new.self.items ≡ c.self.inside.output.items ++ c.args.bytes.now = c.push_all.ensures.items ∙ ap (λ xs. xs ++ c.args.bytes.now) kept in
    let many : length c.push_all.new.self.items ≡ length c.self.inside.output.items + length c.args.bytes.now = ap length items ∙ length-append c.self.inside.output.items c.args.bytes.now in
    λ said. print_goes _ c.args.self.now said c.args.bytes.now c.self.view_is c.len.result _ c.len.ensures (rw c.len.ensures c.self.invariant.1) c.if-bytes-len.false (rw many refl) items
