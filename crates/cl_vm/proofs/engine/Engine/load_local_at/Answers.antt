use Rattle.std.proofs.Common.{rules, sym, ◌∙◌, w64}
use Rattle.std.proofs.lemmas.Int.{to_z-of_z}
use Rattle.cl_code.specs.Machine.{Local}
use Rattle.cl_vm.proofs.Acts.{load_at_acts, load_at_stops}
use Rattle.cl_vm.proofs.engine.Engine.load_local_at.Goals as goal

pub returns-in-Ok : goal.returns-in-Ok
returns-in-Ok c =
    let z = to_z-of_z w64 c.one-x.result (search rules) in
    let i = sym (rw z at c.index_of.ensures) ∙ c.in-Ok.is in
    load_at_acts Local c.args.base c.args.count c.one-x.result c.args.self.now c.one-x.new.self (record c.one-x.new.self { memory = c.push.new.self }) c.in-Ok.k c.local-n.result c.one-x.ensures.numbers i (search rules) (search rules)

pub returns-in-Err : goal.returns-in-Err
returns-in-Err c =
    let z = to_z-of_z w64 c.one-x.result (search rules) in
    let i = sym (rw z at c.index_of.ensures) ∙ c.in-Err.is in
    load_at_stops Local c.args.base c.args.count c.one-x.result c.args.self.now c.one-x.new.self c.in-Err.trap c.one-x.ensures.numbers i
