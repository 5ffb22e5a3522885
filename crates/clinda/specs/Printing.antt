-- The maker of `print`: it shows the canonical text of a source's tree. (This project.)
use Rattle.std.specs.Prelude.{ℕ, ◌≡◌, false, List, Option, None}
use Rattle.cl_ground.specs.declared.limits.TheConstants.{MOST_NESTING}
use Rattle.cl_value.specs.Plain.{PlainRun}
use Rattle.cl_ast.specs.declared.statement.Item.{Item}
use Rattle.cl_print.specs.Writing.{canonical}
use Rattle.cl_print.specs.Back.{ReadsBack}
use Rattle.cl_front.specs.Reading.{Reading, trees}
use Rattle.cl_front.specs.declared.refusal.Refusal.{Refusal}
use Rattle.clinda.specs.Refusals.{Printed, printed}
use Rattle.clinda.specs.Saying.{Saying}
use Rattle.clinda.specs.Making.{Maker}

-- a way to read sources refuses this one so, as it is printed
pub record RefusesSo (reading : Reading) (source : List ℕ) (refusal : Printed) : Type 0 where
  pub found : Refusal
  pub refuses : reading.refuses source found
  pub is : refusal ≡ printed source found

-- what is to be said of a tree: its canonical text
abbrev pub text_saying : List Item → Saying
text_saying items = record { text = canonical items; status = 0 }

-- nothing was run, and this is to be said of the tree; its text reads back as the tree
pub record Shows (items : List Item) (report : Option PlainRun) (saying : Saying) : Type 0 where
  pub no_run : report ≡ None
  pub said : saying ≡ text_saying items
  pub back : ReadsBack MOST_NESTING saying.text items

abbrev pub print_maker : Maker
print_maker = record {
  Program = List Item;
  is = trees.takes;
  refuses = RefusesSo trees;
  makes = λ source items report saying. Shows items report saying;
  runs = false;
  good = λ items run. ⊥;
  stuck = λ items run. ⊥;
}
