use Rattle.std.proofs.Common.{◌∙◌, List, [], ap, sym, arith, length, drop}
use Rattle.std.specs.Prelude.{ℕ, slice_get, map, Option}
use Rattle.cl_value.specs.LiveViews.{plain_part}
use Rattle.cl_value.specs.Plain.{PlainPart}
use Rattle.cl_value.specs.declared.value.Value.{Value}
use Rattle.cl_value.specs.declared.live.LiveField.{LiveField}
use Rattle.cl_value.specs.declared.value.FieldType.{FieldType}
use Rattle.cl_code.specs.Plain.{plain_function, plain_program}
use Rattle.cl_code.specs.Process.{CodeDemand, type_given}
use Rattle.cl_vm.specs.Begins.{cells_or_none}
use Rattle.cl_vm.specs.Outermost.{came, claimed_at, entering}
use Rattle.cl_vm.proofs.LiveFields.{came_depth, none_left}
use Rattle.cl_vm.proofs.vm.Vm.begin_main.Goals as goal

pub begin_function-requires-clause-fine : goal.begin_function-requires-clause-fine
begin_function-requires-clause-fine c =
    let p = plain_program c.args.program.now in
    let e = c.args.self.now.engine in
    let f = plain_function c.function_of-function.result.now in (
      [],
      [],
      λ replies wrong. c.requires.fine replies
          (ap (λ (d : CodeDemand). d.outcome)
          (ap (λ (k : ℕ). entering p k [] (type_given (slice_get p.functions k)) [] [] e replies) (sym c.main_number-main.ensures.value)
          ∙ ap (λ (g : Option FieldType). entering p c.main_number-main.result [] g [] [] e replies) (ap type_given c.function_of-function.ensures))
          ∙ wrong),
    )

pub returns-clause-leads : goal.returns-clause-leads
returns-clause-leads c replies =
    let p = plain_program c.args.program.now in
    let vm = c.args.self.now in
    let e = vm.engine in
    let f = plain_function c.function_of-function.result.now in
    let new = c.begin_function.new.self in
    let k = c.main_number-main.result in
    let none = ap (λ (fs : List LiveField). length fs) c.requires.empty.0 in
    let rest = none_left vm.next vm.fields.items (omega (arith, none)) in
    ap (λ (j : ℕ). entering p j [] (type_given (slice_get p.functions j)) [] [] e replies) (sym c.main_number-main.ensures.value)
    ∙ ap (λ (g : Option FieldType). entering p k [] g [] [] e replies) (ap type_given c.function_of-function.ensures)
    ∙ c.begin_function.ensures.leads [] [] replies
    ∙ came_depth p e.depth (claimed_at p k) f.gives [] [] c.begin_function.result new replies c.begin_function.ensures.sound
    ∙ ap (λ (n : ℕ). came p new.depth n f.gives [] [] c.begin_function.result new replies) (ap cells_or_none c.function_of-function.ensures)
    ∙ ap (λ (ps : List PlainPart). came p new.depth f.cells f.gives ps [] c.begin_function.result new replies) (sym rest)
    ∙ ap (λ (vs : List Value). came p new.depth f.cells f.gives (drop vm.next (map plain_part vm.fields.items)) vs c.begin_function.result new replies) (sym c.requires.empty.1)
