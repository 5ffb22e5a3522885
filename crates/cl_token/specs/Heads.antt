-- What contracts see of a line that defines. (This project.)
use Rattle.std.specs.Prelude.{ℕ, ◌≡◌, ◌≤◌, ◌++◌, true, false, List, length, Option, Some, None, Result, Ok}
use denote.Ref.{Bor}
use Rattle.cl_ast.specs.Plain.{Name, PlainToken}
use Rattle.cl_ast.specs.Views.{plain_kind}
use Rattle.cl_ast.specs.Bytes.{is_blank, is_name_byte}
use Rattle.cl_ast.specs.Rows.{front_run, after_run}
use Rattle.cl_ast.specs.Pieces.{is_name}
use Rattle.cl_ast.specs.Ends.{literal_place, after_minus}
use Rattle.cl_token.specs.declared.stop.Read.{Read}
use Rattle.cl_token.specs.declared.stop.Stop.{Stop}
use Rattle.cl_token.specs.declared.line.Head.{Head}

-- a name stands here and was read, or none does
abbrev pub TellsName : Option Read → List ℕ → Type 0
TellsName (Some read) named =
    (is_name (front_run is_name_byte named) ≡ true)
    × ((plain_kind read.kind ≡ Name (front_run is_name_byte named))
    × (read.rest.now ≡ after_run is_name_byte named))
TellsName None named = is_name (front_run is_name_byte named) ≡ false

-- the places in a head
pub record IsHeadOf (head : Head) (behind : List ℕ) : Type 0 where
  pub named : head.named.now ≡ after_run is_blank behind
  pub name : plain_kind head.name ≡ Name (front_run is_name_byte head.named.now)
  pub after_name : head.after_name.now ≡ after_run is_name_byte head.named.now
  pub value : head.value.now ≡ after_run is_blank head.after_name.now
  pub place : literal_place behind ≡ Some (after_minus head.value.now)
  pub within : length head.value.now ≤ length behind

-- the head of a line was read, or there is none
abbrev pub TellsHead : Option Head → List ℕ → Type 0
TellsHead (Some head) behind = IsHeadOf head behind
TellsHead None behind = literal_place behind ≡ None

-- where a line was read its tokens were put last
abbrev pub AddsTokens : Result (Option (Bor (List ℕ))) Stop → List PlainToken → List PlainToken → List PlainToken → Type 0
AddsTokens (Ok (Some rest)) old new tokens = new ≡ old ++ tokens
AddsTokens _ old new tokens = Unit {0}
