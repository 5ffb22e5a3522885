-- All faults of a tree. (This project.)
use Rattle.std.specs.Prelude.{◌++◌, List, [], ◌∷◌, if◌then◌else◌}
use Rattle.cl_ast.specs.declared.statement.Item.{Item}
use Rattle.cl_types.specs.declared.fault.TypeKind.TheVariants as kinds
use Rattle.cl_types.specs.declared.fault.Fault.{Fault}
use Rattle.cl_types.specs.Notes.{Note, found, faults_among}
use Rattle.cl_types.specs.Items.{items_walked, known_first, has_main}
use Rattle.cl_types.specs.Faults.{in_order}

-- a program begins at `real_main`, which takes nothing
abbrev pub main_notes : List Item → List Note
main_notes xs = if has_main xs then [] else found kinds.NoMain 0 ∷ []

-- all that is noted of a text: whether a program can begin in it, then item by item
abbrev pub unit_notes : List Item → List Note
unit_notes xs = main_notes xs ++ (items_walked xs (known_first xs)).notes

-- all faults, as a walk in the order of the text finds them
abbrev pub collected : List Item → List Fault
collected xs = faults_among 0 0 (unit_notes xs)

-- all faults by place and kind, each once
unfoldable pub faults : List Item → List Fault
faults xs = in_order (collected xs)
