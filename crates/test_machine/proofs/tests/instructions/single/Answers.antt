use Rattle.std.specs.Prelude.{[], ◌∷◌}
use Rattle.cl_value.specs.declared.value.FieldType.TheVariants as types
use Rattle.cl_sig.specs.declared.signature.Kind.TheVariants as kinds
use Rattle.cl_sig.specs.declared.signature.Mark.TheVariants as marks
use Rattle.test_machine.specs.Small.{function, operation}
use Rattle.test_machine.proofs.TestRows.{is_right_by, one_function}
use Rattle.test_machine.proofs.tests.instructions.single.Goals as goal

pub program_of-requires : goal.program_of-requires
program_of-requires c =
    is_right_by c.args.code.now c.args.heights.now [] c.args.format.now _ (function 0 [] types.Long c.args.cells ∷ []) _ (operation kinds.Out (marks.Actual types.Int ∷ [])) _ (operation kinds.In (marks.Formal types.Int ∷ []))
    (one_function _ c.in_ok-functions.ensures c.in_ok-main.ensures) c.in_ok-producer.ensures c.in_ok-consumer.ensures c.requires
