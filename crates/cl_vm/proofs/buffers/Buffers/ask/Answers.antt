use Rattle.std.specs.Prelude.{map}
use Rattle.cl_code.specs.Plain.{plain_function}
use Rattle.cl_vm.specs.Parts.{widest_of}
use Rattle.cl_vm.proofs.buffers.Buffers.ask.Goals as goal

pub operation-requires-clause-cleared : goal.operation-requires-clause-cleared
operation-requires-clause-cleared c = c.clear.ensures (widest_of (map plain_function c.args.functions.now)) c.requires.ready
