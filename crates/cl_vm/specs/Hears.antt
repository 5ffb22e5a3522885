-- What is pushed after a reply, and where an engine then stands. (This project.)
use Rattle.std.specs.Prelude.{◌≡◌, ℕ, List, slice_get, Option, Some, None, ℤ, IsTrue}
use Rattle.cl_value.specs.Plain.{PlainAsk, PlainReply, Done, Got, Miss}
use Rattle.cl_vm.specs.declared.vm.Reply.{Reply}
use Rattle.cl_vm.specs.declared.vm.Reply.TheVariants as replies
use Rattle.cl_sig.specs.Signatures.{PlainSignature}
use Rattle.cl_sig.specs.declared.signature.Kind.{Kind}
use Rattle.cl_sig.specs.declared.signature.Mark.{Mark}
use Rattle.cl_code.specs.Plain.{PlainProgram}
use Rattle.cl_code.specs.Machine.{pushed}
use Rattle.cl_code.specs.Sites.{told}
use Rattle.cl_vm.specs.Memory.{Memory}
use Rattle.cl_vm.specs.Asks.{count_at, told_engine, at_operation}
use Rattle.cl_vm.specs.declared.engine.Engine.{Engine}
use Rattle.cl_value.specs.Acts.{fits}
use Rattle.cl_vm.specs.Engine.{Behind, onward}

-- numbers are pushed in order
abbrev pub with_all : List ℤ → Memory → Memory
with_all ns m = record m { stack = pushed ns m.stack }

-- none where it begins
abbrev pub plain_reply : Reply → Option PlainReply
plain_reply replies.Begin = None
plain_reply replies.Done = Some Done
plain_reply (replies.Got tuple) = Some (Got tuple.now.items)
plain_reply replies.Miss = Some Miss

-- what is pushed after a reply to an operation of this kind with these fields
abbrev pub told_of : Kind → List Mark → PlainReply → List ℤ
told_of kind marks reply = told (record { kind = kind; fields = marks; place = 0 }) reply

-- it stands behind the operation, with the numbers that it was told
abbrev pub Heard : PlainProgram → ℕ → PlainReply → Engine → Engine → Type 0
Heard p site reply old new = (signature : PlainSignature) → slice_get p.sites site ≡ Some signature → new ≡ told_engine (count_at p site signature) signature reply old

-- the reply fits what is asked for at the operation of this site
pub record Fits (p : PlainProgram) (site : ℕ) (reply : PlainReply) (e : Engine) : Type 0 where
  pub signature : PlainSignature
  pub is : slice_get p.sites site ≡ Some signature
  pub ask : PlainAsk
  pub asks : (behind : Behind) (replies : List PlainReply) → onward p behind e replies ≡ at_operation p behind e (count_at p site signature) signature (record { site = site; ask = ask }) replies
  pub fit : IsTrue (fits ask reply)
