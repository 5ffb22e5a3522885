-- What holds of each program that is the code of a text. (This project.)
use Rattle.std.specs.Prelude.{◌≡◌, ℕ, List, [], IsTrue}
use Rattle.std.specs.List.{AllByRecursion}
use Rattle.cl_value.specs.Plain.{PlainReply, PlainStart}
use Rattle.cl_value.specs.Ranges.{ReplyWithin, StartWithin}
use Rattle.cl_ast.specs.declared.statement.Item.{Item}
use Rattle.cl_model.specs.Agree.{RunAlike}
use Rattle.cl_meaning.specs.Process as meaning
use Rattle.cl_types.specs.Unit.{faults}
use Rattle.cl_typing.specs.Texts.{StartFits}
use Rattle.cl_instances.specs.Sources.{IsRead}
use Rattle.cl_code.specs.Plain.{PlainProgram}
use Rattle.cl_code.specs.Valid.{Valid}
use Rattle.cl_code.specs.Starts.{start_fits}
use Rattle.cl_code.specs.Process as code
use Rattle.cl_code.specs.Process.{Goes, CodeDemand, code_demand}
use Rattle.cl_translation.specs.Programs.{IsCodeOf}

-- what a text demands, as a demand of code that isn't lost
abbrev pub text_demand : List Item → ℕ → PlainStart → List PlainReply → CodeDemand
text_demand xs ticks start replies =
    let d = meaning.demands xs ticks start replies in
    record { output = d.output; outcome = Goes d.outcome }

-- A valid program that is the code of a text demands what the text demands: of each process that begins with arguments of the parameters' types, with
-- values within their ranges, and as it may, with any number of ticks, behind any replies with values within their ranges.
abbrev pub TheCodeDemandsTheSame : Type 0
TheCodeDemandsTheSame =
    (xs : List Item) (p : PlainProgram) → IsCodeOf xs p → Valid p →
    (ticks : ℕ) (start : PlainStart) → StartFits xs start → StartWithin start → IsTrue (start_fits p start) →
    (replies : List PlainReply) → AllByRecursion ReplyWithin replies →
    code_demand p ticks start replies ≡ text_demand xs ticks start replies

-- Where the text is read from a source and has no faults, the two have the same legal histories and the same good runs, of each kind.
abbrev pub TheCodeRunsAlike : Type 0
TheCodeRunsAlike =
    (source : List ℕ) (xs : List Item) → IsRead source xs → faults xs ≡ [] → (p : PlainProgram) → IsCodeOf xs p → Valid p →
    (ticks : ℕ) → RunAlike (code.demands p ticks) (meaning.demands xs ticks)
