-- How a machine stands for a process: what it is told, and what it comes to. (This project.)
use Rattle.std.specs.Prelude.{◌≡◌, ℕ, ◌+◌, ◌-◌, ◌<◌, ◌≤◌, List, [], ◌∷◌, ◌++◌, length, drop, map, slice_get, Option, Some, None, IsTrue}
use Rattle.cl_value.specs.Acts.{fits}
use Rattle.cl_value.specs.LiveViews.{plain_part}
use Rattle.cl_value.specs.Plain.{PlainPart, Ready, Call, PlainReply, PlainRequest, PlainStart, Main, Lives, Land}
use Rattle.cl_ground.specs.Room.{Room, HasRoom}
use Rattle.cl_value.specs.Views.{plain_ask, plain_request}
use Rattle.cl_vm.specs.declared.vm.Reply.{Reply}
use Rattle.cl_vm.specs.declared.vm.Reply.TheVariants as replied
use Rattle.cl_value.specs.declared.request.Ask.{Ask}
use Rattle.cl_value.specs.declared.request.Ask.TheVariants as asks
use Rattle.cl_value.specs.declared.request.Request.{Request}
use Rattle.cl_value.specs.declared.value.Value.{Value}
use Rattle.cl_model.specs.Demand.{Wants, Finishes, Traps}
use Rattle.cl_model.specs.Doing.{Stops}
use Rattle.cl_model.specs.Machine.{depth_of}
use Rattle.cl_sig.specs.Signatures.{PlainSignature}
use Rattle.cl_code.specs.Plain.{PlainProgram}
use Rattle.cl_code.specs.Process.{CodeDemand, Goes, code_demand, code_demand_of, end_after, type_given}
use Rattle.cl_code.specs.Starts.{start_fits}
use Rattle.cl_vm.specs.Asks.{at_operation, count_at}
use Rattle.cl_vm.specs.Begins.{IsFresh}
use Rattle.cl_vm.specs.Buffers.{IsReady}
use Rattle.cl_vm.specs.Engine.{Behind, onward}
use Rattle.cl_vm.specs.Hears.{plain_reply}
use Rattle.cl_vm.specs.Outermost.{ArgumentsFit, IsFine, IsIdle, IsSound, between, came, entering}
use Rattle.cl_vm.specs.Parts.{widest_of}
use Rattle.cl_vm.specs.declared.starting.Progress.{Progress}
use Rattle.cl_vm.specs.declared.starting.Progress.TheVariants as reached
use Rattle.cl_vm.specs.declared.vm.Demand.{Demand}
use Rattle.cl_vm.specs.declared.vm.Demand.TheVariants as demands
use Rattle.cl_vm.specs.declared.vm.Vm.{Vm}
use Rattle.cl_ground.specs.declared.limits.TheConstants.{MOST_FIELDS}

-- ---- what callers see

-- how a process began and with how many ticks, and what it was told since; none where it hasn't begun
pub record Past : Type 0 where
  pub steps : ℕ
  pub start : PlainStart
  pub told : Option (List PlainReply)

-- the replies, if it has begun
abbrev pub told_replies : Option (List PlainReply) → List PlainReply
told_replies None = []
told_replies (Some replies) = replies

-- what the process demands by now
abbrev pub demand_now : PlainProgram → Past → CodeDemand
demand_now p past = code_demand p past.steps past.start (told_replies past.told)

-- one reply, or none
abbrev pub reply_list : Option PlainReply → List PlainReply
reply_list None = []
reply_list (Some reply) = reply ∷ []

-- it was told one reply more, or begins
abbrev pub told_more : Past → Reply → Past
told_more past reply = record past { told = Some (told_replies past.told ++ reply_list (plain_reply reply)) }

-- whether it may be told so: it begins first, and each later reply fits what it demands
abbrev pub MayBeTold : PlainProgram → Past → Option (List PlainReply) → Reply → Type 0
MayBeTold p past None reply = reply ≡ replied.Begin
MayBeTold p past (Some replies) reply = (told : PlainReply) × (plain_reply reply ≡ Some told) × (q : PlainRequest) × ((demand_now p past).outcome ≡ Goes (Wants q)) × IsTrue (fits q.ask told)

-- whether a process with this past may be told so
abbrev pub FitsPast : PlainProgram → Past → Reply → Type 0
FitsPast p past reply = MayBeTold p past past.told reply

-- the request at which a machine stands, and the values with which it finished
abbrev pub request_of : Vm → Option Request
request_of vm = vm.buffers.request

-- the tuple with which a process lands
abbrev pub tuple_in : Ask → Option (Room Value)
tuple_in (asks.Land tuple) = Some tuple
tuple_in _ = None

-- the tuple of a landing, if there is one
abbrev pub values_in_request : Option Request → Option (Room Value)
values_in_request None = None
values_in_request (Some request) = tuple_in request.ask

-- the values with which a machine finished
abbrev pub values_of : Vm → Option (Room Value)
values_of vm = values_in_request vm.buffers.request

-- what it printed
abbrev pub printed_by : Vm → List ℕ
printed_by vm = vm.engine.output.items

-- the request with which a process lands that finished with these values; process 0 has none
abbrev pub Landing : PlainStart → List Value → Option Request → Type 0
Landing Main values request = Unit {0}
Landing (Lives site live depth) values request = (landing : Request) × (request ≡ Some landing) × (plain_request landing ≡ record { site = site; ask = Land values })

-- the answer of a machine is what its process demands: the request at which it stands, its values, or its trap
abbrev pub Answers : PlainStart → CodeDemand → Demand → Vm → Type 0
Answers start demand demands.Op vm = (request : Request) × (request_of vm ≡ Some request) × (demand ≡ record { output = printed_by vm; outcome = Goes (Wants (plain_request request)) })
Answers start demand demands.Finished vm = (values : Room Value) × (values_of vm ≡ Some values) × (demand ≡ record { output = printed_by vm; outcome = Goes (Finishes values.items) }) × Landing start values.items (request_of vm)
Answers start demand (demands.Trapped t) vm = demand ≡ record { output = printed_by vm; outcome = Goes (Traps t) }

-- ---- how it stands for a process

-- the fields behind the one that was begun last
abbrev pub rest_of : Vm → List PlainPart
rest_of vm = drop vm.next (map plain_part vm.fields.items)

-- the calls among these fields can be done
abbrev pub PartFits : PlainProgram → PlainPart → Type 0
PartFits p (Ready v) = Unit {0}
PartFits p (Call k arguments gives) = ArgumentsFit p k arguments

-- each of these calls can be done
abbrev pub AllFit : PlainProgram → List PlainPart → Type 0
AllFit p [] = Unit {0}
AllFit p (part ∷ parts) = PartFits p part × AllFit p parts

-- its fields, and room for their values, of which so many aren't told yet
pub record IsHeld (p : PlainProgram) (untold : ℕ) (vm : Vm) : Type 0 where
  pub fits : AllFit p (map plain_part vm.fields.items)
  pub ready : IsReady (widest_of p.functions) vm.buffers
  pub next : vm.next ≤ length vm.fields.items
  pub short : length vm.fields.items ≤ MOST_FIELDS
  pub room : HasRoom MOST_FIELDS vm.values
  pub few : untold + (length vm.values.items + (length vm.fields.items - vm.next)) ≤ MOST_FIELDS

-- what is demanded before the next field
abbrev pub before_field : PlainProgram → Vm → List PlainReply → CodeDemand
before_field p vm replies = between p vm.engine.depth (rest_of vm) vm.values.items vm.engine replies

-- what is demanded behind what the active function came to, and what holds there
abbrev pub came_of : PlainProgram → Progress → Vm → List PlainReply → CodeDemand
came_of p progress vm replies = came p vm.engine.depth vm.claimed vm.gives (rest_of vm) vm.values.items progress vm.engine replies

-- what holds where the active function came to this
abbrev pub SoundAt : PlainProgram → Progress → Vm → Type 0
SoundAt p progress vm = IsSound p vm.engine.depth vm.claimed progress vm.engine

-- the site of its landing
abbrev pub landing_site : Option ℕ → ℕ
landing_site None = 0
landing_site (Some site) = site

-- what it came to, where this is demanded behind the replies to come
abbrev pub Stood : PlainProgram → (List PlainReply → CodeDemand) → Demand → Vm → Type 0
Stood p demanded demands.Op vm =
    IsHeld p 1 vm
    × SoundAt p (reached.Op vm.site) vm
    × ((replies : List PlainReply) → demanded replies ≡ came_of p (reached.Op vm.site) vm replies)
    × (request : Request) × (request_of vm ≡ Some request) × (request.site ≡ vm.site)
    × (signature : PlainSignature) × (slice_get p.sites vm.site ≡ Some signature)
    × ((behind : Behind) (replies : List PlainReply) → onward p behind vm.engine replies ≡ at_operation p behind vm.engine (count_at p vm.site signature) signature (plain_request request) replies)
Stood p demanded demands.Finished vm =
    (tuple : Room Value)
    × (request_of vm ≡ Some (record { site = landing_site vm.origin; ask = asks.Land tuple }))
    × ((replies : List PlainReply) → demanded replies ≡ record { output = printed_by vm; outcome = end_after replies (Some tuple.items) })
Stood p demanded (demands.Trapped t) vm = (replies : List PlainReply) → demanded replies ≡ code_demand_of (Stops t) (printed_by vm) replies

-- the site of the `eval` that made a process
abbrev pub origin_of : PlainStart → Option ℕ
origin_of Main = None
origin_of (Lives site live depth) = Some site

-- the fields of a live tuple; process 0 has none
abbrev pub parts_in : PlainStart → List PlainPart
parts_in Main = []
parts_in (Lives site live depth) = live

-- a live tuple has fields
abbrev pub HasParts : PlainStart → ℕ → Type 0
HasParts Main count = Unit {0}
HasParts (Lives site live depth) count = 0 < count

-- it has done nothing
pub record IsNew (p : PlainProgram) (steps : ℕ) (start : PlainStart) (vm : Vm) : Type 0 where
  pub fits : IsTrue (start_fits p start)
  pub fresh : IsFresh p steps (depth_of start) vm.engine
  pub held : IsHeld p 0 vm
  pub origin : vm.origin ≡ origin_of start
  pub parts : map plain_part vm.fields.items ≡ parts_in start
  pub some : HasParts start (length vm.fields.items)
  pub next : vm.next ≡ 0
  pub values : vm.values.items ≡ []

-- it was told these replies
pub record HasHeard (p : PlainProgram) (steps : ℕ) (start : PlainStart) (replies : List PlainReply) (vm : Vm) : Type 0 where
  pub fits : IsTrue (start_fits p start)
  pub origin : vm.origin ≡ origin_of start
  pub demand : Demand
  pub stood : Stood p (λ more. code_demand p steps start (replies ++ more)) demand vm

-- it has done nothing, or was told these replies
abbrev pub HasBeenTold : PlainProgram → ℕ → PlainStart → Option (List PlainReply) → Vm → Type 0
HasBeenTold p steps start None vm = IsNew p steps start vm
HasBeenTold p steps start (Some replies) vm = HasHeard p steps start replies vm

-- the machine stands for a process of the program with this past
abbrev pub StandsFor : PlainProgram → Past → Vm → Type 0
StandsFor p past vm = HasBeenTold p past.steps past.start past.told vm

-- ---- its beginning, and a reply

-- what is demanded where process 0 is to enter the main function
abbrev pub before_main : PlainProgram → Vm → List PlainReply → CodeDemand
before_main p vm replies = entering p p.main [] (type_given (slice_get p.functions p.main)) [] [] vm.engine replies

-- its globals are claimed, and it is to enter the main function or to do its first field
abbrev pub EntersAt : Option ℕ → PlainProgram → (List PlainReply → CodeDemand) → Vm → Type 0
EntersAt None p demanded vm = (vm.fields.items ≡ []) × (vm.values.items ≡ []) × ((replies : List PlainReply) → demanded replies ≡ before_main p vm replies)
EntersAt (Some site) p demanded vm = (vm.next < length vm.fields.items) × ((replies : List PlainReply) → demanded replies ≡ before_field p vm replies)

-- where the cells of the globals are claimed, and nothing more is done
pub record HasClaimed (p : PlainProgram) (demanded : List PlainReply → CodeDemand) (vm : Vm) : Type 0 where
  pub held : IsHeld p 0 vm
  pub idle : IsIdle p vm.engine
  pub fine : IsFine demanded
  pub enters : EntersAt vm.origin p demanded vm

-- the reply fits the standing request
abbrev pub FitsRequest : PlainReply → Vm → Type 0
FitsRequest told vm = (request : Request) × (request_of vm ≡ Some request) × IsTrue (fits (plain_ask request.ask) told)

-- what is demanded behind one reply more
abbrev pub behind_reply : PlainReply → (List PlainReply → CodeDemand) → List PlainReply → CodeDemand
behind_reply told demanded replies = demanded (told ∷ replies)
