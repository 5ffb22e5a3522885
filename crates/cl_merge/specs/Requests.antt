-- What processes of a run may ask for, and that what is asked for at two sets never meets. (This project.)
use Rattle.std.specs.Prelude.{◌≡◌, ◌≢◌, ℕ, true, false, List}
use Rattle.cl_value.specs.Acts.{is_site_of, Adds, AsksWith}
use Rattle.cl_value.specs.Matching.{matches}
use Rattle.cl_value.specs.Plain.{PlainRequest, PlainReply}
use Rattle.cl_value.specs.declared.value.Value.{Value}
use Rattle.cl_value.specs.declared.template.Slot.{Slot}
use Rattle.cl_model.specs.Demand.{Demands}
use Rattle.cl_model.specs.Meaning.{Meaning, sites_of}
use Rattle.cl_model.specs.Processes.{AsksFor}
use Rattle.cl_merge.specs.Members.{In}
use Rattle.cl_merge.specs.Processes.{Started}

-- one of these processes asks for this, after some replies
abbrev pub MayAsk : Demands → List Started → PlainRequest → Type 0
MayAsk demands processes request = (b : Started) × (replies : List PlainReply) × In b processes × AsksFor b.start (demands b.start replies).outcome request

-- what one adds at one side of the sites of a set matches no template with which one asks at the other
abbrev pub AreApart : Meaning → List Started → Type 0
AreApart meaning processes =
    (set : ℕ) (adding asking : PlainRequest) → MayAsk meaning.demands processes adding → MayAsk meaning.demands processes asking → is_site_of (sites_of meaning set) adding.site ≢ is_site_of (sites_of meaning set) asking.site →
    (t : List Value) (m : List Slot) → Adds adding.ask t → AsksWith asking.ask m → matches m t ≡ false

-- no site is of two sets
abbrev pub AreDisjoint : Meaning → Type 0
AreDisjoint meaning = (set other site : ℕ) → is_site_of (sites_of meaning set) site ≡ true → is_site_of (sites_of meaning other) site ≡ true → set ≡ other
