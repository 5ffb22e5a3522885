-- Requests of a text without faults suit the shapes of their sets, and two sets never meet.
use Rattle.std.proofs.Common.{◌≡◌, subst, ℕ, zero, suc, ◌<◌, true, List, [], ◌∷◌, map, length, arith, inl, inr}
use Rattle.std.specs.List.{AllByRecursion}
use Rattle.std.specs.Prelude.{slice_index_or}
use Rattle.cl_value.specs.Plain.{PlainRequest, PlainAct}
use Rattle.cl_value.specs.Acts.{request_of}
use Rattle.cl_ast.specs.declared.statement.Item.{Item}
use Rattle.cl_sig.specs.Instances.{is_of_its_site}
use Rattle.cl_partition.proofs.ApartLaws.{instances_never_match}
use Rattle.cl_usage.proofs.SuitProofs.{instances_suit}
use Rattle.cl_sites.specs.Sites.{signatures_of}
use Rattle.cl_instances.specs.SetLaws.{RequestsAreInstances, EvalsAreAskedBelow, LiveTuplesBegin, ProcessesBegin, HistoriesAreInstances, HistoriesSuit, HistoriesNeverMatch}
use Rattle.cl_instances.specs.Sources.{IsInstance}
use Rattle.cl_instances.proofs.Histories.{asks_instance, asks_shallow, live_began, history_instances}
use Rattle.cl_instances.proofs.Sources.{read_settled, read_apart, read_instances}

-- ---- what is asked for is an instance

pub requests_are_instances : RequestsAreInstances
requests_are_instances source xs r none start begins ticks replies request asks =
    asks_instance xs none (read_settled source xs r) (read_apart source xs r) ticks start replies request begins asks

pub evals_are_asked_below : EvalsAreAskedBelow
evals_are_asked_below source xs r none start begins ticks replies request asks live is =
    asks_shallow xs none (read_settled source xs r) (read_apart source xs r) ticks start replies request begins asks live is

pub live_tuples_begin : LiveTuplesBegin
live_tuples_begin source xs r none start begins ticks replies request asks live is =
    live_began xs none (read_settled source xs r) (read_apart source xs r) ticks start replies request begins asks live is

pub processes_begin : ProcessesBegin
processes_begin source xs r none ticks acts l name p is =
    (history_instances xs none (read_settled source xs r) (read_apart source xs r) ticks acts l).1 name p is

-- what an act of a list answers
answered : (xs : List Item) (acts : List PlainAct) (request : PlainRequest) → AllByRecursion (IsInstance xs) acts → (k : ℕ) → k < length (map request_of acts) → slice_index_or (map request_of acts) k request ≡ request → is_of_its_site (signatures_of xs) request ≡ true
answered xs [] request all k low is = absurd (omega (arith, low))
answered xs (act ∷ acts) request all zero low is = subst (λ r. is_of_its_site (signatures_of xs) r ≡ true) is all.0
answered xs (act ∷ acts) request all (suc k) low is = answered xs acts request all.1 k (omega (arith, low)) is

pub histories_are_instances : HistoriesAreInstances
histories_are_instances source xs r none ticks acts l request (inl done) = answered xs acts request (read_instances source xs r none ticks acts l) done.0 done.1 done.2
histories_are_instances source xs r none ticks acts l request (inr asked) =
    requests_are_instances source xs r none asked.process.start (processes_begin source xs r none ticks acts l asked.name asked.process asked.stands) ticks asked.process.replies request asked.asks

-- ---- requests suit the shapes of their sets

pub histories_suit : HistoriesSuit
histories_suit source xs r none numbers partition ticks acts l request of =
    instances_suit (signatures_of xs) numbers partition request (histories_are_instances source xs r none ticks acts l request of)

-- ---- requests of two sets never match

pub histories_never_match : HistoriesNeverMatch
histories_never_match source xs r none numbers partition ticks acts l adding asking of_adding of_asking apart t m is_t is_m =
    let is_adding = histories_are_instances source xs r none ticks acts l adding of_adding in
    let is_asking = histories_are_instances source xs r none ticks acts l asking of_asking in
    instances_never_match (signatures_of xs) numbers partition adding asking is_adding is_asking apart t m is_t is_m
