-- What holds of each source that is read without faults. (This project.)
use Rattle.std.specs.Prelude.{◌≡◌, ℕ, true, List, [], Some}
use Rattle.std.specs.List.{AllByRecursion}
use Rattle.cl_value.specs.Plain.{PlainAct, PlainReply, PlainStart}
use Rattle.cl_ast.specs.declared.statement.Item.{Item}
use Rattle.cl_model.specs.Machine.{Process, Legal, after}
use Rattle.cl_listing.specs.Listing.{in_items}
use Rattle.cl_listing.specs.Listed.{sites_in}
use Rattle.cl_meaning.specs.Process.{demands}
use Rattle.cl_types.specs.Unit.{faults}
use Rattle.cl_typing.specs.Bodies.{are_settled}
use Rattle.cl_typing.specs.Texts.{StartFits, OutcomeFits}
use Rattle.cl_instances.specs.Apart.{are_apart}
use Rattle.cl_instances.specs.Sources.{IsRead, IsInstance}

-- its declarations stand in blocks
abbrev pub SourcesAreSettled : Type 0
SourcesAreSettled = (source : List ℕ) (xs : List Item) → IsRead source xs → are_settled xs ≡ true

-- no two of its operations stand at one place
abbrev pub OperationsAreApart : Type 0
OperationsAreApart = (source : List ℕ) (xs : List Item) → IsRead source xs → are_apart (sites_in (in_items xs)) ≡ true

-- each process that begins as it fits asks for operations of the text, with fields of the types that are judged, and finishes with values of theirs
abbrev pub ProcessesAreTyped : Type 0
ProcessesAreTyped = (source : List ℕ) (xs : List Item) → IsRead source xs → faults xs ≡ [] → (start : PlainStart) → StartFits xs start → (ticks : ℕ) (replies : List PlainReply) → OutcomeFits xs start (demands xs ticks start replies).outcome

-- each act of each legal history is an instance of its site's signature
abbrev pub ActsAreInstances : Type 0
ActsAreInstances = (source : List ℕ) (xs : List Item) → IsRead source xs → faults xs ≡ [] → (ticks : ℕ) (acts : List PlainAct) → Legal (demands xs ticks) acts → AllByRecursion (IsInstance xs) acts

-- and each process that stands behind it began as it fits
abbrev pub ProcessesBeganRight : Type 0
ProcessesBeganRight =
    (source : List ℕ) (xs : List Item) → IsRead source xs → faults xs ≡ [] → (ticks : ℕ) (acts : List PlainAct) → Legal (demands xs ticks) acts → (name : ℕ) (p : Process) → (after acts).process name ≡ Some p → StartFits xs p.start
