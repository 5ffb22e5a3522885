-- What a walk leaves of what is known, and of its journal. (This project.)
use Rattle.std.specs.Prelude.{◌≡◌}
use Rattle.cl_types.specs.declared.journal.Journal.{Journal}
use Rattle.cl_types.specs.Journals.{noted_all}
use Rattle.cl_types.specs.Declarations.{Known}
use Rattle.cl_types.specs.Statements.{Walked}

-- the walk leads to this, and its notes are kept
pub record Does (walk : Walked) (known : Known) (before after : Journal) : Type 0 where
  pub known_is : known ≡ walk.known
  pub noted : after ≡ noted_all walk.notes before

-- the scopes round the place stay, and so do the functions
pub record Keeps (before after : Known) : Type 0 where
  pub around : after.around ≡ before.around
  pub functions : after.functions ≡ before.functions
