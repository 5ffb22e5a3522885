-- Replies: what is told of a request has as many values as the request has fields. (Gelernter 1985.)
use Rattle.std.specs.Prelude.{◌≡◌, true, List, length}
use Rattle.cl_value.specs.Plain.{PlainReply, Done, Got, Miss}
use Rattle.cl_value.specs.Acts.{fits}
use Rattle.cl_ast.specs.declared.tree.Verb.{Verb}
use Rattle.cl_ast.specs.declared.tree.Verb.TheVariants as verbs
use Rattle.cl_meaning.specs.Operations.{Aim, asked}

-- what may be told of a request of this verb with these fields; an `eval` asks otherwise (`EvalsAreEvaluated`)
abbrev pub MayBeTold : Verb → List Aim → PlainReply → Type 0
MayBeTold verbs.Out fields Done = Unit {0}
MayBeTold verbs.In fields (Got t) = length t ≡ length fields
MayBeTold verbs.Rd fields (Got t) = length t ≡ length fields
MayBeTold verbs.Inp fields (Got t) = length t ≡ length fields
MayBeTold verbs.Inp fields Miss = Unit {0}
MayBeTold verbs.Rdp fields (Got t) = length t ≡ length fields
MayBeTold verbs.Rdp fields Miss = Unit {0}
MayBeTold verbs.Eval fields Done = Unit {0}
MayBeTold _ fields reply = ⊥

-- a reply that fits is such a one
abbrev pub RepliesMayBeTold : Type 0
RepliesMayBeTold = (verb : Verb) (fields : List Aim) (reply : PlainReply) → fits (asked verb fields) reply ≡ true → MayBeTold verb fields reply
