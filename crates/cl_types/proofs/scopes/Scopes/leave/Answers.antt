use Rattle.std.proofs.Common.{◌≤◌, length, arith, map}
use Rattle.cl_types.specs.Tables.{function_of}
use Rattle.cl_types.proofs.Lookups.{leaves_all}
use Rattle.cl_types.proofs.scopes.Scopes.leave.Goals as goal

pub returns : goal.returns
returns c =
    let less : length c.self.inside.entries.items ≤ c.self.inside.start = omega (arith, c.loop-self-test.false, c.len.ensures, c.self.inside.entries.ok.0) in
    leaves_all c.args.outer c.loop-self.self c.args.self.now c.self.inside.start c.self-2.inside.start c.self.inside.entries.items c.self-2.inside.entries.items
    (map function_of c.self.inside.functions.entries) (map function_of c.self-2.inside.functions.entries)
    c.self.view_is c.self.invariant.0 less c.self-2.view_is c.self-2.invariant.0 c.loop-self.invariant.0 c.loop-self.invariant.1 c.requires
