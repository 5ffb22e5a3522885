-- What an operation of a valid program finds.
use Rattle.std.proofs.Common.{◌≡◌, ◌+◌, ◌-◌, ℕ, zero, suc, ◌<◌, ◌≤◌, true, false, List, [], ◌∷◌, length, Option, Some, None, refl, sym, ap, ◌∙◌, subst, arith, ltb-true, leb-true, true≢false}
use Rattle.std.specs.Prelude.{slice_get, nat_le}
use Rattle.std.specs.List.{list_all}
use Rattle.std.proofs.lemmas.Option.{slice_get_within}
use Rattle.std.proofs.lemmas.Bool.{and_from}
use Rattle.cl_sig.specs.Signatures.{PlainSignature}
use Rattle.cl_sig.specs.declared.signature.Kind.{Kind}
use Rattle.cl_sig.specs.declared.signature.Mark.{Mark}
use Rattle.cl_sig.specs.declared.signature.Mark.TheVariants as marks
use Rattle.cl_code.specs.Plain.{PlainFunction, PlainProgram}
use Rattle.cl_value.specs.declared.value.FieldType.{FieldType}
use Rattle.cl_code.specs.Reach.{takes_at, gives_or_none}
use Rattle.cl_code.specs.Rules.{is_some_up_to, is_eval, may_receive, call_is_right, field_is_right, site_is_right}
use Rattle.cl_code.specs.Sites.{Place, parameters_or_none, places, places_at, none_or, gives}
use Rattle.cl_code.specs.Valid.{Valid, function_is_short, is_short, place_is_typed, site_is_typed}
use Rattle.cl_code.specs.Laws.{HeightsAreMet, StacksAreLow, GoesByInstructions}
use Rattle.cl_code.specs.declared.instr.Instr.TheVariants.{Perform}
use Rattle.cl_code.proofs.Fine.{below}
use Rattle.cl_code.proofs.Flow.{reaches_by, rule_3_at}
use Rattle.cl_code.proofs.Tests.{left, right, has_of}
use Rattle.cl_vm.specs.Asking.{is_evaluated, is_receivable}
use Rattle.cl_vm.specs.Asks.{count_at}
use Rattle.cl_vm.specs.Runs.{Runs}
use Rattle.cl_vm.specs.declared.engine.Engine.{Engine}
use Rattle.cl_vm.proofs.Needs.{needs_met, code_is_short}

-- ---- fields

module _ (p : PlainProgram) (kind : Kind) where
  mark_evaluated : may_receive kind ≡ false → (mark : Mark) (call : Option ℕ) → field_is_right p kind (record { mark = mark; call = call }) ≡ true → is_evaluated mark ≡ true
  mark_evaluated none (marks.Constant v) call h = refl
  mark_evaluated none (marks.Actual type) call h = refl
  mark_evaluated none (marks.Formal type) call h = absurd (true≢false (sym (left (may_receive kind) _ h) ∙ none))

  pub evaluated_of : may_receive kind ≡ false → (ms : List Mark) (calls : List (Option ℕ)) → list_all (field_is_right p kind) (places ms calls) ≡ true → list_all is_evaluated ms ≡ true
  evaluated_of none [] calls h = refl
  evaluated_of none (mark ∷ ms) [] h = and_from _ _ (mark_evaluated none mark None (left _ _ h)) (evaluated_of none ms [] (right _ _ h))
  evaluated_of none (mark ∷ ms) (call ∷ calls) h = and_from _ _ (mark_evaluated none mark call (left _ _ h)) (evaluated_of none ms calls (right _ _ h))

  call_none : is_eval kind ≡ false → (call : Option ℕ) → call_is_right p kind call ≡ true → call ≡ None
  call_none plain None h = refl
  call_none plain (Some f) h = absurd (true≢false (sym (left (is_eval kind) _ h) ∙ plain))

  pub uncalled : is_eval kind ≡ false → (ms : List Mark) (calls : List (Option ℕ)) → list_all (field_is_right p kind) (places ms calls) ≡ true → places ms calls ≡ places ms []
  uncalled plain [] calls h = refl
  uncalled plain (mark ∷ ms) [] h = refl
  uncalled plain (mark ∷ ms) (call ∷ calls) h =
      ap (λ (c : Option ℕ). record { mark = mark; call = c } ∷ places ms calls) (call_none plain call (right _ _ (left _ _ h)))
      ∙ ap (λ (rest : List Place). record { mark = mark; call = None } ∷ rest) (uncalled plain ms calls (right _ _ h))

module _ (p : PlainProgram) where
  mark_receivable : (mark : Mark) (call : Option ℕ) → place_is_typed p (record { mark = mark; call = call }) ≡ true → is_receivable mark ≡ true
  mark_receivable (marks.Constant v) call h = refl
  mark_receivable (marks.Actual type) call h = refl
  mark_receivable (marks.Formal type) None h = h
  mark_receivable (marks.Formal type) (Some f) h = absurd cc

  pub receivable_of : (ms : List Mark) (calls : List (Option ℕ)) → list_all (place_is_typed p) (places ms calls) ≡ true → list_all is_receivable ms ≡ true
  receivable_of [] calls h = refl
  receivable_of (mark ∷ ms) [] h = and_from _ _ (mark_receivable mark None (left _ _ h)) (receivable_of ms [] (right _ _ h))
  receivable_of (mark ∷ ms) (call ∷ calls) h = and_from _ _ (mark_receivable mark call (left _ _ h)) (receivable_of ms calls (right _ _ h))

-- ---- a site

module _ (p : PlainProgram) (valid : Valid p) (heights : HeightsAreMet) (stacks : StacksAreLow) (goes : GoesByInstructions) (e : Engine) (runs : Runs p e) (site : ℕ) (here : slice_get p.code e.place ≡ Some (Perform site)) where
  pub site_within : site < length p.sites
  site_within = let (f, h) = reaches_by p valid.rules e.place (Perform site) here in ltb-true site (length p.sites) h

  module _ (signature : PlainSignature) (is : slice_get p.sites site ≡ Some signature) where
    pub enough_there : count_at p site signature ≤ length e.memory.stack
    enough_there = subst (λ o. takes_at p site o ≤ length e.memory.stack) is (needs_met p valid heights stacks goes e runs (Perform site) here).operands

    site_right : site_is_right p site signature ≡ true
    site_right = has_of (site_is_right p site) (slice_get p.sites site) signature is (rule_3_at p valid.rules site site_within)

    pub some_fields : 1 ≤ length signature.fields
    some_fields = leb-true 1 (length signature.fields) (left _ _ (left _ _ site_right))

    pub few_fields : length signature.fields ≤ 16
    few_fields = leb-true (length signature.fields) 16 (right (nat_le 1 (length signature.fields)) _ (left _ _ site_right))

    pub fields_right : list_all (field_is_right p signature.kind) (places_at p site signature) ≡ true
    fields_right = right (is_some_up_to 16 signature.fields) _ site_right

    pub fields_typed : list_all (place_is_typed p) (places_at p site signature) ≡ true
    fields_typed = has_of (λ (s : PlainSignature). list_all (place_is_typed p) (places_at p site s)) (slice_get p.sites site) signature is (below (length p.sites) (site_is_typed p) valid.typed site site_within)

    pub evaluated_there : may_receive signature.kind ≡ false → list_all is_evaluated signature.fields ≡ true
    evaluated_there none = evaluated_of p signature.kind none signature.fields (none_or (slice_get p.calls site)) fields_right

    pub receivable_there : list_all is_receivable signature.fields ≡ true
    receivable_there = receivable_of p signature.fields (none_or (slice_get p.calls site)) fields_typed

    pub plain_places : is_eval signature.kind ≡ false → places_at p site signature ≡ places signature.fields []
    plain_places plain = uncalled p signature.kind plain signature.fields (none_or (slice_get p.calls site)) fields_right

    pub room_there : (length e.memory.stack - count_at p site signature) + gives signature ≤ e.memory.space
    room_there = subst (λ o. (length e.memory.stack - takes_at p site o) + gives_or_none o ≤ e.memory.space) is (needs_met p valid heights stacks goes e runs (Perform site) here).space

  pub place_short : e.place + 1 < 4294967296 + 1
  place_short = let a = slice_get_within p.code e.place (Perform site) here in let b = code_is_short p valid in omega (arith, a, b)

-- ---- counting

pub functions_short : (p : PlainProgram) → Valid p → list_all function_is_short p.functions ≡ true
functions_short p valid = left _ _ (right (is_short p.functions) _ (right (is_short p.heights) _ (right (is_short p.code) _ valid.short)))

short_at : (fs : List PlainFunction) (k : ℕ) → list_all function_is_short fs ≡ true → length (parameters_or_none (slice_get fs k)) < 4294967296
short_at [] k h = omega arith
short_at (f ∷ fs) zero h = ltb-true (length f.parameters) 4294967296 (right (is_short f.name) _ (left _ _ h))
short_at (f ∷ fs) (suc k) h = short_at fs k (right _ _ h)

pub parameters_short : (fs : List PlainFunction) (k : ℕ) (types : List FieldType) → types ≡ parameters_or_none (slice_get fs k) → list_all function_is_short fs ≡ true → length types < 4294967296
parameters_short fs k types e h = let long = ap (λ (ts : List FieldType). length ts) e in let few = short_at fs k h in omega (arith, long, few)
