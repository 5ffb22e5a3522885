use Rattle.std.proofs.Common.{rules, sym, ◌∙◌, w64}
use Rattle.std.proofs.lemmas.Int.{to_z-of_z}
use Rattle.cl_code.specs.Machine.{Global}
use Rattle.cl_vm.proofs.Acts.{store_at_acts, store_at_stops}
use Rattle.cl_vm.proofs.engine.Engine.store_global_at.Goals as goal

pub returns-in-Ok : goal.returns-in-Ok
returns-in-Ok c =
    let z = to_z-of_z w64 c.two-x.result.0 (search rules) in
    let i = sym (rw z at c.index_of.ensures) ∙ c.in-Ok.is in
    store_at_acts Global c.args.base c.args.count c.two-x.result.0 c.two-x.result.1 c.args.self.now c.two-x.new.self (record c.two-x.new.self { memory = c.set_global.new.self }) c.in-Ok.k c.two-x.ensures.numbers i (search rules) (search rules)

pub returns-in-Err : goal.returns-in-Err
returns-in-Err c =
    let z = to_z-of_z w64 c.two-x.result.0 (search rules) in
    let i = sym (rw z at c.index_of.ensures) ∙ c.in-Err.is in
    store_at_stops Global c.args.base c.args.count c.two-x.result.0 c.two-x.result.1 c.args.self.now c.two-x.new.self c.in-Err.trap c.two-x.ensures.numbers i
