-- What tests know of a machine that stands at a request.
use Rattle.std.proofs.Common.{◌≡◌, ap, subst, Some}
use Rattle.std.specs.Prelude.{IsSome, is_some}
use Rattle.cl_value.specs.Plain.{PlainStart}
use Rattle.cl_value.specs.Views.{plain_request}
use Rattle.cl_vm.specs.declared.vm.Reply.{Reply}
use Rattle.cl_value.specs.declared.request.Request.{Request}
use Rattle.cl_model.specs.Demand.{Wants}
use Rattle.cl_code.specs.Plain.{PlainProgram}
use Rattle.cl_code.specs.Process.{CodeDemand, Goes}
use Rattle.cl_vm.specs.Processes.{Answers, FitsPast, request_of}
use Rattle.cl_vm.specs.Trials.{MayHear, StandsAfter}
use Rattle.cl_vm.specs.declared.vm.Demand.TheVariants as demands
use Rattle.cl_vm.specs.declared.vm.Vm.{Vm}

-- what it demands is the request at which it stands
pub asks_that : (start : PlainStart) (d : CodeDemand) (vm : Vm) (request : Request) → Answers start d demands.Op vm → request_of vm ≡ Some request → d.outcome ≡ Goes (Wants (plain_request request))
asks_that start d vm request (asked, is, e) same =
    let asked_is : asked ≡ request = cc in
    subst (λ (r : Request). d.outcome ≡ Goes (Wants (plain_request r))) asked_is (ap (λ (x : CodeDemand). x.outcome) e)

-- a reply that it may hear fits its past
pub fits_past : (p : PlainProgram) (start : PlainStart) (vm : Vm) (reply : Reply) (after : StandsAfter p start demands.Op vm) → MayHear reply vm → FitsPast p (record { steps = after.steps; start = start; told = Some after.replies }) reply
fits_past p start vm reply after (told, tells, fitting) =
    let (request, is, fit) = fitting in
    (told, tells, plain_request request, asks_that start _ vm request after.answers is, fit)

-- there is one
pub stands_there : (start : PlainStart) (d : CodeDemand) (vm : Vm) → Answers start d demands.Op vm → IsSome (request_of vm)
stands_there start d vm (request, is, e) = ap is_some is
