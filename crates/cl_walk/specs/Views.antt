-- From values of the walk to what the meaning has. (This project.)
use Rattle.std.specs.Prelude.{List, [], ◌∷◌, map, Option, Some, None}
use Rattle.cl_value.specs.Plain.{PlainReply, Done, Got, Miss}
use Rattle.cl_meaning.specs.Variables.{Scope}
use Rattle.cl_meaning.specs.Operations as meaning
use Rattle.cl_meaning.specs.Statements as meaning_statements
use Rattle.cl_walk.specs.declared.world.Answer.{Answer}
use Rattle.cl_walk.specs.declared.world.Answer.TheVariants as answers
use Rattle.cl_walk.specs.declared.field.Aim.{Aim}
use Rattle.cl_walk.specs.declared.field.Aim.TheVariants as aims
use Rattle.cl_walk.specs.declared.call.Exit.{Exit}
use Rattle.cl_walk.specs.declared.call.Exit.TheVariants as exits

-- what a process is told, unless the world pauses
abbrev pub reply_in : Answer → Option PlainReply
reply_in answers.Done = Some Done
reply_in (answers.Got tuple) = Some (Got tuple.items)
reply_in answers.Missed = Some Miss
reply_in answers.Paused = None

-- a field that was read, as the meaning has it
abbrev pub aim_of : Aim → meaning.Aim
aim_of (aims.Holds value) = meaning.Holds value
aim_of (aims.Fills of name at) = meaning.Fills of name.now at

-- fields that were read, in order
abbrev pub aims_of : List Aim → List meaning.Aim
aims_of all = map aim_of all

-- how a statement leaves off, as the meaning has it
abbrev pub exit_of : Exit → meaning_statements.Exit
exit_of exits.WentOn = meaning_statements.WentOn
exit_of exits.Broke = meaning_statements.Broke
exit_of exits.Continued = meaning_statements.Continued
exit_of (exits.Returned value) = meaning_statements.Returned value

-- the scope that a function begins with
abbrev pub scope_in : List Scope → Scope
scope_in [] = []
scope_in (scope ∷ inner) = scope
