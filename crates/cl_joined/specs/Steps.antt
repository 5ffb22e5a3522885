-- What a set has begun, as the next act of a run: the step of a run that goes on set by set. (This project.)
use Rattle.std.specs.Prelude.{◌≡◌, ℕ, ◌+◌, false, List, length, Some}
use Rattle.cl_value.specs.Acts.{acts_of}
use Rattle.cl_value.specs.Plain.{PlainAct}
use Rattle.cl_model.specs.Alone.{replies_in}
use Rattle.cl_model.specs.Machine.{DemandAllows}
use Rattle.cl_model.specs.Meaning.{Meaning, sites_of, acts_at}
use Rattle.cl_model.specs.Processes.{has_landed}
use Rattle.cl_set.specs.Keeping.{Keeps}
use Rattle.cl_set.specs.Sets.{Deed, PlainSet}
use Rattle.cl_merge.specs.Events.{MayHappen}
use Rattle.cl_merge.specs.Members.{In}
use Rattle.cl_merge.specs.Processes.{Started}

-- a set, which keeps what each set keeps and has the acts of the run at its sites, has begun what the act says; and it is demanded of a process
-- that hasn't landed, and has the next ticket
pub record IsBegunThere (meaning : Meaning) (acts : List PlainAct) (processes : List Started) (act : PlainAct) (doer : Started) (number : ℕ) (set : PlainSet) : Type 0 where
  pub keeps : Keeps set
  pub own : set.acts ≡ acts_at (sites_of meaning number) acts
  pub sites : set.shape.sites ≡ sites_of meaning number
  pub deed : Deed
  pub begun : set.begun ≡ Some deed
  pub site : act.site ≡ deed.site
  pub what : act.what ≡ deed.what
  pub is_one : In doer processes
  pub proc : act.proc ≡ doer.name
  pub ticket : act.ticket ≡ length acts + 1
  pub not_landed : has_landed (acts_of doer.name acts) ≡ false
  pub demanded : DemandAllows act.what act doer.start (meaning.demands doer.start (replies_in (acts_of doer.name acts))).outcome

-- such an act may happen
abbrev pub BegunMayHappen : Type 0
BegunMayHappen =
    (meaning : Meaning) (acts : List PlainAct) (processes : List Started) (act : PlainAct) (doer : Started) (number : ℕ) (set : PlainSet) → IsBegunThere meaning acts processes act doer number set → MayHappen meaning acts processes act doer number
