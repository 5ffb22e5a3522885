use Rattle.std.proofs.Common.{map, sym, subst}
use Rattle.cl_sig.specs.Views.{plain_signature}
use Rattle.cl_code.specs.Plain.{plain_function}
use Rattle.cl_code.specs.Valid.{Valid}
use Rattle.test_machine.proofs.TestRows.{paired_valid}
use Rattle.test_machine.proofs.tests.programs.program_of.Goals as goal

pub new-requires : goal.new-requires
new-requires c = record { valid = subst Valid (sym c.in_ok-parts.ensures) (paired_valid c.args.code.now c.args.heights.now (map plain_function c.args.outline.functions.items) (plain_signature c.args.outline.producer) (plain_signature c.args.outline.consumer) c.args.calls.now c.args.format.now c.requires.right) }
