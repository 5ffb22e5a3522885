use Rattle.std.proofs.Common.{rules, sym, ◌∙◌, w64}
use Rattle.std.proofs.lemmas.Int.{to_z-of_z}
use Rattle.cl_vm.proofs.Acts.{check_acts, check_stops}
use Rattle.cl_vm.proofs.engine.Engine.check_index.Goals as goal

pub returns-in-Ok : goal.returns-in-Ok
returns-in-Ok c =
    let z = to_z-of_z w64 c.one-x.result (search rules) in
    let i = sym (rw z at c.index_of.ensures) ∙ c.in-Ok.is in
    check_acts c.args.count c.one-x.result c.args.self.now c.one-x.new.self (record c.one-x.new.self { memory = c.push.new.self }) _ c.one-x.ensures.numbers i (search rules)

pub returns-in-Err : goal.returns-in-Err
returns-in-Err c =
    let z = to_z-of_z w64 c.one-x.result (search rules) in
    let i = sym (rw z at c.index_of.ensures) ∙ c.in-Err.is in
    check_stops c.args.count c.one-x.result c.args.self.now c.one-x.new.self c.in-Err.trap c.one-x.ensures.numbers i
