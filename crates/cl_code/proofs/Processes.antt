-- Each process of a valid program, from a start that fits: it is never wrong, asks for what its sites say, and finishes with a tuple of its `eval`.
use Rattle.std.proofs.Common.{◌≡◌, ℕ, zero, suc, ◌+◌, ◌≤◌, Bool, true, false, List, [], ◌∷◌, ◌++◌, length, map, Option, Some, None, refl, sym, ap, ◌∙◌, subst, arith, append_assoc, append-nil, eqb-true}
use Rattle.std.specs.Prelude.{◌==◌, nat_le, ℤ, slice_get, if◌then◌else◌, Ok}
use Rattle.std.proofs.lemmas.Bool.{and_from}
use Rattle.std.proofs.lemmas.List.{length-map}
use Rattle.cl_value.specs.declared.value.Value.{Value}
use Rattle.cl_value.specs.declared.value.FieldType.{FieldType}
use Rattle.cl_value.specs.Matching.{same_type, type_of}
use Rattle.cl_value.specs.Plain.{PlainPart, Ready, Call, PlainRequest, PlainReply, PlainStart, Main, Lives, Land}
use Rattle.cl_value.specs.Acts.{fits}
use Rattle.cl_model.specs.Demand.{Wants, Finishes, Traps, Misfit}
use Rattle.cl_model.specs.Doing.{Steps, Gives, Prints, Asks, Stops, State, outcome_after, then_do, ◌>>=◌, ◌>>◌, pure, tick, counted, release, variables, set_variables, checked}
use Rattle.cl_model.specs.Numbers.{number}
use Rattle.cl_model.specs.Machine.{depth_of}
use Rattle.cl_sig.specs.Beside.{all_beside}
use Rattle.cl_sig.specs.Fields.{all_below}
use Rattle.cl_sig.specs.Instances as instances
use Rattle.cl_sig.specs.Instances.{value_fits, is_tuple_of, is_live_of, is_of_its_site}
use Rattle.cl_sig.specs.Signatures.{PlainSignature}
use Rattle.cl_value.specs.declared.process.Trap.{Trap}
use Rattle.cl_sig.specs.declared.signature.Kind.{Kind}
use Rattle.cl_sig.specs.declared.signature.Kind.TheVariants as kinds
use Rattle.cl_sig.specs.declared.signature.Mark.{Mark}
use Rattle.cl_sig.specs.declared.signature.Mark.TheVariants as marks
use Rattle.cl_sig.proofs.MatchLaws.{same_type-true}
use Rattle.cl_code.specs.Plain.{PlainFunction, PlainProgram}
use Rattle.cl_code.specs.Sites.{Place, places_at, none_or}
use Rattle.cl_code.specs.Machine.{Cells, Does, Ending, frame_of, set_frame, machine}
use Rattle.cl_code.specs.Process.{function_does, result_as, ending_as, type_given, alone, main, part_does, parts_do, live, process, begun, CodeOutcome, Goes, Wrong, CodeDemand, end_after, code_demand_of, code_demand}
use Rattle.cl_code.specs.Rules.{frame_size, has, has_no_parameters, is_eval, is_some_up_to, rule_1, keeps_rules}
use Rattle.cl_code.specs.Valid.{site_is_typed, Valid}
use Rattle.cl_code.specs.Starts.{has_type, takes_and_gives, calls_there, part_fits, live_fits, start_fits}
use Rattle.cl_code.specs.Requests.{IsRightRequest}
use Rattle.cl_code.specs.Laws.{IsNeverWrong, AsksRight, LandsRight}
use Rattle.cl_code.proofs.Holds.{Holds, then_holds, holds_more, after_checked, at_checked}
use Rattle.cl_code.proofs.Requests.{then_ok, same_Ok, value_typed, beside_marks}
use Rattle.cl_code.proofs.Flow.{entered_at, parameters_fit}
use Rattle.cl_code.proofs.Safe.{GlobalsFit, Ended, frame_fits, length_frame, after_claim, machine_good}
use Rattle.cl_code.proofs.Tests.{left, right, found}

-- ---- values

as_many : (types : List FieldType) (vs : List Value) → all_beside has_type types vs ≡ true → length types ≡ length vs
as_many [] [] h = refl
as_many [] (v ∷ vs) h = absurd cc
as_many (type ∷ types) [] h = absurd cc
as_many (type ∷ types) (v ∷ vs) h = ap suc (as_many types vs (right _ _ h))

-- a number as a value of a call's type stands at the call's mark
called_value : (mark : Mark) (f : ℕ) (vs : List Value) (gives : FieldType) (v : Value) → instances.part_fits mark (Call f vs gives) ≡ true → same_type gives (type_of v) ≡ true → value_fits mark v ≡ true
called_value (marks.Constant w) f vs gives v h k = absurd cc
called_value (marks.Formal type) f vs gives v h k = absurd cc
called_value (marks.Actual type) f vs gives v h k = subst (λ t. same_type t (type_of v) ≡ true) (sym (same_type-true type gives h)) k

ending_value : (type : Option FieldType) (n : ℤ) (end : Option Value) → ending_as type (Some n) ≡ Ok end → (v : Value) × (end ≡ Some v) × (result_as type n ≡ Ok v)
ending_value type n end e =
    let (v, is, e') = then_ok (result_as type n) _ end e in
    (v, sym (same_Ok (Some v) end e'), is)

called_function : (p : PlainProgram) (call : Option ℕ) (f : ℕ) (vs : List Value) (gives : FieldType) → calls_there p call f vs gives ≡ true → has (takes_and_gives vs gives) (slice_get p.functions f) ≡ true
called_function p None f vs gives h = absurd cc
called_function p (Some there) f vs gives h = right (f == there) _ h

-- ---- a process

-- it finishes with values of this property
abbrev pub Finished : (List Value → Type 0) → Option (List Value) × State Cells → Type 0
Finished P r = (values : List Value) × (r.0 ≡ Some values) × P values

module _ (p : PlainProgram) (rules : keeps_rules p ≡ true) (typed : all_below (length p.sites) (site_is_typed p) ≡ true) (depth : ℕ) where
  abbrev R : PlainRequest → Type 0
  R q = IsRightRequest p depth q

  function_good : (k : ℕ) (f : PlainFunction) → slice_get p.functions k ≡ Some f → (ns : List ℤ) → length ns ≡ length f.parameters → (s : State Cells) → GlobalsFit p s → Holds R (Ended p) (function_does p depth ns (Some f) s)
  unfolding function_does pure release set_frame variables set_variables ◌>>=◌ ◌>>◌ then_do
  function_good k f is ns count s globals =
      after_claim p rules typed depth (Ended p) f.cells _ s (λ le.
      let room : length ns ≤ frame_size f = let fit = parameters_fit p rules k f is (omega (arith, le)) in omega (arith, count, fit) in
      then_holds R (Ended p) (Ended p) (machine p depth [] f.entry [] _) _
      (machine_good p rules typed depth f f.entry [] _ (entered_at p rules k f is) (frame_fits p f s.variables (frame_of f ns) globals (length_frame f ns room)))
      (λ r ended. ended))

  -- ---- the process of a live tuple

  -- what a part gives stands at its field
  PartEnds : Mark → Option Value × State Cells → Type 0
  PartEnds mark r = ((v : Value) × (r.0 ≡ Some v) × (value_fits mark v ≡ true)) × GlobalsFit p r.1

  call_good : (mark : Mark) (f : ℕ) (arguments : List Value) (gives : FieldType) → instances.part_fits mark (Call f arguments gives) ≡ true → has (takes_and_gives arguments gives) (slice_get p.functions f) ≡ true → (s : State Cells) → GlobalsFit p s → Holds R (PartEnds mark) ((function_does p depth (map number arguments) (slice_get p.functions f) >>= (λ result. checked (ending_as (Some gives) result))) s)
  unfolding ◌>>=◌ PartEnds
  call_good mark f arguments gives fit called s globals =
      let (g, is, takes) = found (takes_and_gives arguments gives) (slice_get p.functions f) called in
      let many = as_many g.parameters arguments (left _ _ takes) in
      then_holds R (Ended p) (PartEnds mark) (function_does p depth (map number arguments) (slice_get p.functions f) s) _
      (subst (λ o. Holds R (Ended p) (function_does p depth (map number arguments) o s)) (sym is) (function_good f g is (map number arguments) (length-map arguments number ∙ sym many) s globals))
      (λ r ended. subst (λ (end : Ending). Holds R (PartEnds mark) (checked (ending_as (Some gives) end) r.1)) (sym ended.0.1)
      (at_checked R (PartEnds mark) (ending_as (Some gives) (Some ended.0.0)) r.1 (λ end ok.
      let (v, is_v, result) = ending_value (Some gives) ended.0.0 end ok in
      ((v, is_v, called_value mark f arguments gives v fit (value_typed gives ended.0.0 v result)), ended.1))))

  part_good : (mark : Mark) (call : Option ℕ) (part : PlainPart) → instances.part_fits mark part ≡ true → part_fits p (record { mark = mark; call = call }) part ≡ true → (s : State Cells) → GlobalsFit p s → Holds R (PartEnds mark) (part_does p depth part s)
  unfolding part_does pure tick ◌>>◌ PartEnds then_do
  part_good mark call (Ready v) fit there s globals = ((v, refl, fit), globals)
  part_good mark call (Call f arguments gives) fit there s globals = by_ticks s.ticks
    where
      by_ticks : (n : ℕ) → Holds R (PartEnds mark) (then_do (counted s n) (λ _. function_does p depth (map number arguments) (slice_get p.functions f) >>= (λ result. checked (ending_as (Some gives) result))))
      by_ticks zero = tt
      by_ticks (suc n) = call_good mark f arguments gives fit (called_function p call f arguments gives there) (record s { ticks = n }) globals

  -- behind what was done, values that stand at the fields that are left
  Behind : List Place → List Value → List Value → Type 0
  Behind all done values = (more : List Value) × (values ≡ done ++ more) × (all_beside (λ (place : Place). value_fits place.mark) all more ≡ true)

  parts_good : (all : List Place) (parts : List PlainPart) → all_beside (λ (place : Place). instances.part_fits place.mark) all parts ≡ true → all_beside (part_fits p) all parts ≡ true → (done : List Value) (s : State Cells) → GlobalsFit p s → Holds R (Finished (Behind all done)) (parts_do p depth parts done s)
  unfolding parts_do pure ◌>>=◌ PartEnds Behind
  parts_good [] [] fit there done s globals = (done, refl, ([], sym (append-nil done), refl))
  parts_good [] (part ∷ parts) fit there done s globals = absurd cc
  parts_good (place ∷ all) [] fit there done s globals = absurd cc
  parts_good (place ∷ all) (part ∷ parts) fit there done s globals =
      then_holds R (PartEnds place.mark) (Finished (Behind (place ∷ all) done)) (part_does p depth part s) _
      (part_good place.mark place.call part (left _ _ fit) (left _ _ there) s globals)
      (λ r ends.
      let v : Value = ends.0.0 in
      subst (λ (o : Option Value). Holds R (Finished (Behind (place ∷ all) done)) ((elim o as (λ _. Does (Option (List Value))) [ None ↦ pure None | Some w ↦ parts_do p depth parts (done ++ w ∷ []) ]) r.1)) (sym ends.0.1)
      (holds_more R (Finished (Behind all (done ++ v ∷ []))) (Finished (Behind (place ∷ all) done)) (parts_do p depth parts (done ++ v ∷ []) r.1)
      (parts_good all parts (right _ _ fit) (right _ _ there) (done ++ v ∷ []) r.1 ends.1)
      (λ r' finished.
      let (values, is, (more, same, stand)) = finished in
      (values, is, (v ∷ more, same ∙ append_assoc done (v ∷ []) more, and_from _ _ ends.0.2 stand)))))

  live_good : (number : ℕ) (site : PlainSignature) (parts : List PlainPart) → live_fits p number parts site ≡ true → (s : State Cells) → GlobalsFit p s → Holds R (Finished (λ values. is_tuple_of site.fields values ≡ true)) (live p depth parts s)
  unfolding live Behind
  live_good number site parts fit s globals =
      let calls : List (Option ℕ) = none_or (slice_get p.calls number) in
      let both = right (is_eval site.kind) _ fit in
      let instance : all_beside (λ (place : Place). instances.part_fits place.mark) (places_at p number site) parts ≡ true = beside_marks instances.part_fits site.fields calls parts ∙ left (is_live_of site.fields parts) _ both in
      after_claim p rules typed depth (Finished (λ values. is_tuple_of site.fields values ≡ true)) (length p.globals) _ s (λ le.
      holds_more R (Finished (Behind (places_at p number site) [])) (Finished (λ values. is_tuple_of site.fields values ≡ true)) (parts_do p depth parts [] _)
      (parts_good (places_at p number site) parts instance (right (is_live_of site.fields parts) _ both) [] _ globals)
      (λ r finished.
      let (values, is, (more, same, stand)) = finished in
      (values, is, subst (λ vs. is_tuple_of site.fields vs ≡ true) (sym same) (sym (beside_marks value_fits site.fields calls more) ∙ stand))))

-- what the values of a finished process are
abbrev pub Lands : PlainProgram → PlainStart → List Value → Type 0
Lands p Main values = Unit {0}
Lands p (Lives site parts depth) values = is_of_its_site p.sites (record { site = site; ask = Land values }) ≡ true

-- ---- process 0

nothing_taken : (types : List FieldType) → (length types == 0) ≡ true → length {A = ℤ} [] ≡ length types
nothing_taken types h = sym (eqb-true (length types) 0 h)

module _ (p : PlainProgram) (rules : keeps_rules p ≡ true) (typed : all_below (length p.sites) (site_is_typed p) ≡ true) where
  abbrev Any : List Value → Type 0
  Any values = Unit {0}

  begins : has has_no_parameters (slice_get p.functions p.main) ≡ true
  begins = left _ _ (right (nat_le (length p.sites) 1024) _ (right (is_some_up_to 512 p.functions) _ (left (rule_1 p) _ rules)))

  main_good : (s : State Cells) → GlobalsFit p s → Holds (λ q. IsRightRequest p 0 q) (Finished Any) (main p s)
  unfolding main pure ◌>>=◌ then_do
  main_good s globals =
      let (f, is, none) = found has_no_parameters (slice_get p.functions p.main) begins in
      after_claim p rules typed 0 (Finished Any) (length p.globals) _ s (λ le.
      then_holds (λ q. IsRightRequest p 0 q) (Ended p) (Finished Any) (function_does p 0 [] (slice_get p.functions p.main) _) _
      (subst (λ o. Holds (λ q. IsRightRequest p 0 q) (Ended p) (function_does p 0 [] o (record s { cells = s.cells + length p.globals }))) (sym is) (function_good p rules typed 0 p.main f is [] (nothing_taken f.parameters none) (record s { cells = s.cells + length p.globals }) globals))
      (λ r ended. subst (λ (end : Ending). Holds (λ q. IsRightRequest p 0 q) (Finished Any) ((checked (ending_as (type_given (slice_get p.functions p.main)) end) >>= (λ value. pure (alone value))) r.1)) (sym ended.0.1)
      (after_checked (λ q. IsRightRequest p 0 q) (Finished Any) (ending_as (type_given (slice_get p.functions p.main)) (Some ended.0.0)) _ r.1 (λ end ok.
      let (v, is_v, result) = ending_value (type_given (slice_get p.functions p.main)) ended.0.0 end ok in
      (v ∷ [], ap alone is_v, tt)))))

  -- ---- every process

  process_good : (start : PlainStart) → start_fits p start ≡ true → (ticks : ℕ) → Holds (λ q. IsRightRequest p (depth_of start) q) (Finished (Lands p start)) (process p start (begun p ticks))
  unfolding process
  process_good Main fit ticks = main_good (begun p ticks) refl
  process_good (Lives number parts depth) fit ticks =
      let (site, there, fits_site) = found (live_fits p number parts) (slice_get p.sites number) (left _ _ fit) in
      holds_more (λ q. IsRightRequest p depth q) (Finished (λ values. is_tuple_of site.fields values ≡ true)) (Finished (Lands p (Lives number parts depth))) (live p depth parts (begun p ticks))
      (live_good p rules typed depth number site parts fits_site (begun p ticks) refl)
      (λ r finished.
      let (values, is, tuple) = finished in
      (values, is, ap (λ o. instances.is_instance_at o (Land values)) there ∙ landed site.kind site.fields values (left (is_eval site.kind) _ fits_site) tuple))
    where
      landed : (kind : Kind) (fields : List Mark) (values : List Value) → is_eval kind ≡ true → is_tuple_of fields values ≡ true → instances.ask_fits kind fields (Land values) ≡ true
      landed kinds.Eval fields values e h = h
      landed kinds.Out fields values e h = absurd cc
      landed kinds.In fields values e h = absurd cc
      landed kinds.Rd fields values e h = absurd cc
      landed kinds.Inp fields values e h = absurd cc
      landed kinds.Rdp fields values e h = absurd cc

-- ---- what is demanded

-- of a demand: requests and values are right, and it isn't wrong
abbrev pub Sound : (PlainRequest → Type 0) → (List Value → Type 0) → CodeOutcome → Type 0
Sound R P (Goes (Wants q)) = R q
Sound R P (Goes (Finishes values)) = P values
Sound R P (Goes other) = Unit {0}
Sound R P Wrong = ⊥

abbrev Doings : Type 0
Doings = Steps (Option (List Value) × State Cells)

sound_end : (R : PlainRequest → Type 0) (P : List Value → Type 0) (replies : List PlainReply) (values : List Value) → P values → Sound R P (end_after replies (Some values))
sound_end R P [] values h = h
sound_end R P (r ∷ rs) values h = tt

sound_trap : (R : PlainRequest → Type 0) (P : List Value → Type 0) (replies : List PlainReply) (t : Trap) → Sound R P (Goes (outcome_after replies (Traps t)))
sound_trap R P [] t = tt
sound_trap R P (r ∷ rs) t = tt

sound_if : (R : PlainRequest → Type 0) (P : List Value → Type 0) (test : Bool) (out : List ℕ) (d : CodeDemand) → (test ≡ true → Sound R P d.outcome) → Sound R P (if test then d else record { output = out; outcome = Goes Misfit }).outcome
sound_if R P true out d h = h refl
sound_if R P false out d h = tt

sound : (R : PlainRequest → Type 0) (P : List Value → Type 0) (d : Doings) (out : List ℕ) (replies : List PlainReply) → Holds R (Finished P) d → Sound R P (code_demand_of d out replies).outcome
sound R P (Gives r) out replies (values, is, h) = subst (λ end. Sound R P (end_after replies end)) (sym is) (sound_end R P replies values h)
sound R P (Stops t) out replies h = sound_trap R P replies t
sound R P (Prints bytes rest) out replies h = sound R P rest (out ++ bytes) replies h
sound R P (Asks q rest) out [] h = h.0
sound R P (Asks q rest) out (r ∷ rs) h = sound_if R P (fits q.ask r) out _ (λ fit. sound R P (rest r) out rs (h.1 r fit))

pub demand_sound : (p : PlainProgram) → Valid p → (ticks : ℕ) (start : PlainStart) → start_fits p start ≡ true → (replies : List PlainReply) → Sound (λ q. IsRightRequest p (depth_of start) q) (Lands p start) (code_demand p ticks start replies).outcome
demand_sound p valid ticks start fit replies = sound _ _ (process p start (begun p ticks)) [] replies (process_good p valid.rules valid.typed start fit ticks)

pub never_wrong : IsNeverWrong
never_wrong p valid ticks start fit replies e = subst (Sound (λ q. IsRightRequest p (depth_of start) q) (Lands p start)) e (demand_sound p valid ticks start fit replies)

pub asks_right : AsksRight
asks_right p valid ticks start fit replies q e = subst (Sound (λ r. IsRightRequest p (depth_of start) r) (Lands p start)) e (demand_sound p valid ticks start fit replies)

pub lands_right : LandsRight
lands_right p valid ticks site live depth fit replies values e = subst (Sound (λ q. IsRightRequest p depth q) (Lands p (Lives site live depth))) e (demand_sound p valid ticks (Lives site live depth) fit replies)
