use Rattle.std.proofs.Common.{◌≡◌, ◌∙◌, List, [], ◌∷◌, Some, None, ap, sym, refl, length, drop, w64, rules, append-nil}
use Rattle.std.specs.Prelude.{ℤ, Ok, map, slice_get}
use Rattle.std.proofs.lemmas.Int.{to_z-of_z}
use Rattle.cl_value.specs.LiveViews.{plain_part}
use Rattle.cl_value.specs.declared.live.LiveField.TheVariants as live
use Rattle.cl_value.specs.declared.value.FieldType.{FieldType}
use Rattle.cl_value.specs.Plain.{Ready, Call}
use Rattle.cl_model.specs.Numbers.{and_then}
use Rattle.cl_code.specs.Plain.{PlainFunction, plain_function}
use Rattle.cl_code.specs.Sites.{Holds, Asks, Calls, as_value, as_values, parameters_or_none, parameters_at}
use Rattle.cl_sig.specs.declared.signature.Mark.TheVariants as marks
use Rattle.cl_vm.proofs.Filling.{whole}
use Rattle.cl_vm.proofs.PartFilling.{ok_then, part_filled, pushed_part, called_part, called_list, call_read, keeps_then, keeps_ready, keeps_call, list_wide}
use Rattle.cl_vm.proofs.asking.+add_parts.Goals as goal

pub call_field-requires : goal.call_field-requires
call_field-requires t c = list_wide (map plain_function c.args.functions.now) c.in-Actual-Some.function c.parameters_of-parameters.result.now c.remove-arguments.result c.args.spare.now c.parameters_of-parameters.ensures c.remove-arguments.ensures.item c.requires.wide

pub returns-in-Constant-default-clause-filled : goal.returns-in-Constant-default-clause-filled
returns-in-Constant-default-clause-filled t c p same =
    let v = c.in-Constant-default.value in
    part_filled p _ _ _ _ _ _ _ (marks.Constant v) c.first_call-call.result.0 (Holds v) (Ready v ∷ []) _ _ _
    (whole _ _ _ c.in-len1-up.len_at_least c.in-Constant-default.is-0) (sym c.first_call-call.ensures.first) c.first_call-call.ensures.rest refl refl (λ fs. refl)
    (pushed_part (live.Ready v) (Ready v) _ _ refl c.push.ensures.items) (c.add_parts.ensures.filled p same)

pub returns-in-Constant-default-clause-room : goal.returns-in-Constant-default-clause-room
returns-in-Constant-default-clause-room t c =
    ok_then (keeps_then _ _ _ _ _ _ _ (keeps_ready _ c.in-Constant-default.value _ _ _ c.push.ensures.items c.push.ensures.spare c.requires.wide)) c.add_parts.result c.add_parts.ensures.room

pub returns-in-Formal-default-clause-filled : goal.returns-in-Formal-default-clause-filled
returns-in-Formal-default-clause-filled t c p same =
    let of = c.in-Formal-default.field-0-0 in
    part_filled p _ _ _ _ _ _ _ (marks.Formal of) c.first_call-call.result.0 (Asks of) [] _ _ _
    (whole _ _ _ c.in-len1-up.len_at_least c.in-Formal-default.is-0) (sym c.first_call-call.ensures.first) c.first_call-call.ensures.rest refl refl (λ fs. refl)
    (sym (append-nil (map plain_part c.args.to.now.items))) (c.add_parts-in-Formal-default.ensures.filled p same)

pub returns-in_ok-as_value-in-Actual-None-clause-filled : goal.returns-in_ok-as_value-in-Actual-None-clause-filled
returns-in_ok-as_value-in-Actual-None-clause-filled t c p same =
    let of = c.in-Actual-None.of in
    let v = c.in_ok-as_value-in-Actual-None.field-0 in
    let z = to_z-of_z w64 c.first_of-n.result.0 (search rules) in
    let value = sym (ap (λ (n : ℤ). as_value of n) (z ∙ c.first_of-n.ensures.first)) ∙ sym c.as_value.ensures ∙ c.in_ok-as_value-in-Actual-None.was in
    part_filled p _ _ _ _ _ _ _ (marks.Actual of) None (Holds v) (Ready v ∷ []) _ _ _
    (whole _ _ _ c.in-len1-up.len_at_least c.in-Actual-None.is-0) (sym c.first_call-call.ensures.first ∙ c.in-Actual-None.is-1) c.first_call-call.ensures.rest (ap (λ r. and_then r (λ w. Ok (Holds w))) value) c.first_of-n.ensures.rest (λ fs. refl)
    (pushed_part (live.Ready v) (Ready v) _ _ refl c.push-in-Actual-None.ensures.items) (c.add_parts-in-Actual-None.ensures.filled p same)

pub returns-in_ok-as_value-in-Actual-None-clause-room : goal.returns-in_ok-as_value-in-Actual-None-clause-room
returns-in_ok-as_value-in-Actual-None-clause-room t c =
    ok_then (keeps_then _ _ _ _ _ _ _ (keeps_ready _ c.in_ok-as_value-in-Actual-None.field-0 _ _ _ c.push-in-Actual-None.ensures.items c.push-in-Actual-None.ensures.spare c.requires.wide)) c.add_parts-in-Actual-None.result c.add_parts-in-Actual-None.ensures.room

pub returns-in_ok-call_field-in-Actual-Some-clause-filled : goal.returns-in_ok-call_field-in-Actual-Some-clause-filled
returns-in_ok-call_field-in-Actual-Some-clause-filled t c p same =
    let of = c.in-Actual-Some.of in
    let f = c.in-Actual-Some.function in
    let field = c.in_ok-call_field-in-Actual-Some.field-0 in
    let types : c.parameters_of-parameters.result.now ≡ parameters_at p f = c.parameters_of-parameters.ensures ∙ ap (λ (fs : List PlainFunction). parameters_or_none (slice_get fs f)) (sym same) in
    let (read, are, is) = call_read f of (as_values c.parameters_of-parameters.result.now c.args.numbers.now) c.remove-arguments.result field c.call_field.result c.in_ok-call_field-in-Actual-Some.was c.call_field.ensures in
    let value = ap (λ (ts : List FieldType). as_values ts c.args.numbers.now) (sym types) ∙ are in
    part_filled p _ _ _ _ _ _ _ (marks.Actual of) (Some f) (Calls f read of) (Call f read of ∷ []) _ _ _
    (whole _ _ _ c.in-len1-up.len_at_least c.in-Actual-Some.is-0) (sym c.first_call-call.ensures.first ∙ c.in-Actual-Some.is-1) c.first_call-call.ensures.rest (ap (λ r. and_then r (λ vs. Ok (Calls f vs of))) value) (c.behind-others.ensures ∙ ap (λ (ts : List FieldType). drop (length ts) c.args.numbers.now) types) (λ fs. refl)
    (pushed_part field (Call f read of) _ _ (called_part f of read c.remove-arguments.result field is) c.push-in-Actual-Some.ensures.items) (c.add_parts-in-Actual-Some.ensures.filled p same)

pub returns-in_ok-call_field-in-Actual-Some-clause-room : goal.returns-in_ok-call_field-in-Actual-Some-clause-room
returns-in_ok-call_field-in-Actual-Some-clause-room t c =
    let of = c.in-Actual-Some.of in
    let f = c.in-Actual-Some.function in
    let field = c.in_ok-call_field-in-Actual-Some.field-0 in
    let (read, are, is) = call_read f of (as_values c.parameters_of-parameters.result.now c.args.numbers.now) c.remove-arguments.result field c.call_field.result c.in_ok-call_field-in-Actual-Some.was c.call_field.ensures in
    let (arguments, own, room) = called_list f of read c.remove-arguments.result field is in
    ok_then (keeps_then _ _ _ _ _ _ _ (keeps_call _ field arguments c.remove-arguments.result _ _ _ _ c.remove-arguments.ensures.item c.remove-arguments.ensures.items c.remove-arguments.ensures.spare c.push-in-Actual-Some.ensures.items c.push-in-Actual-Some.ensures.spare own room c.requires.wide)) c.add_parts-in-Actual-Some.result c.add_parts-in-Actual-Some.ensures.room
