-- A history of process 0 alone. (This project.)
use Rattle.std.specs.Prelude.{ℕ, ◌<◌, ◌≡◌, false, List, [], ◌∷◌, ◌++◌, option_to_list}
use Rattle.cl_value.specs.Acts.{reply_of, is_eval}
use Rattle.cl_value.specs.Plain.{PlainAct, PlainReply}
use Rattle.cl_model.specs.Machine.{is_land}

-- the replies that acts tell, in order
abbrev pub replies_in : List PlainAct → List PlainReply
replies_in [] = []
replies_in (act ∷ acts) = option_to_list (reply_of act.what) ++ replies_in acts

-- an act of process 0 that neither makes a process nor lands, at a site below a bound
pub record IsOwn (sites : ℕ) (act : PlainAct) : Type 0 where
  pub proc : act.proc ≡ 0
  pub no_eval : is_eval act.what ≡ false
  pub no_land : is_land act.what ≡ false
  pub site : act.site < sites
