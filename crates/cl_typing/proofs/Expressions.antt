-- Where no fault is noted in an expression, what it gives is of the type that is judged of it, and so is each field of each request.
use Rattle.std.proofs.Common.{◌≡◌, ◌∙◌, ap, sym, subst, refl, ℕ, suc, ◌<◌, Bool, true, false, not, List, [], ◌∷◌, ◌++◌, map, length, Option, Some, None, ltb-true}
use Rattle.std.specs.Prelude.{option_map, nat_lt, Ok}
use Rattle.std.specs.List.{AllByRecursion}
use Rattle.cl_value.specs.declared.value.Value.{Value}
use Rattle.cl_value.specs.declared.value.Value.TheVariants as values
use Rattle.cl_value.specs.declared.process.Trap.TheVariants.{EvalDepth}
use Rattle.cl_value.specs.declared.template.Slot.TheVariants as slots
use Rattle.cl_value.specs.Plain.{PlainRequest, PlainPart, Ready, Call as Calls, Eval, PlainReply, Done, Got, Miss}
use Rattle.cl_ast.specs.declared.tree.Literal.{Literal}
use Rattle.cl_ast.specs.declared.tree.Text.{Text}
use Rattle.cl_ast.specs.declared.tree.Name.{Name as Named}
use Rattle.cl_ast.specs.declared.tree.TypeName.{TypeName}
use Rattle.cl_ast.specs.declared.tree.TypeName.TheVariants as types
use Rattle.cl_ast.specs.declared.tree.Operator.{Operator}
use Rattle.cl_ast.specs.declared.tree.Operator.TheVariants as operators
use Rattle.cl_ast.specs.declared.tree.Verb.{Verb}
use Rattle.cl_ast.specs.declared.tree.Verb.TheVariants as verbs
use Rattle.cl_ast.specs.declared.tree.Expr.{Expr}
use Rattle.cl_ast.specs.declared.tree.Expr.TheVariants as exprs
use Rattle.cl_ast.specs.declared.tree.Expr.TheViews.{outs-Text, outs-Plain, outs-Call}
use Rattle.cl_ast.specs.declared.tree.Place.{Place, out-Place}
use Rattle.cl_ast.specs.declared.tree.Call.{Call, out-Call}
use Rattle.cl_ast.specs.declared.tree.Operation.{Operation, out-Operation}
use Rattle.cl_ast.specs.declared.tree.Field.{Field}
use Rattle.cl_ast.specs.declared.tree.Field.TheVariants as fields
use Rattle.cl_ast.specs.declared.tree.Formal.{Formal, out-Formal}
use Rattle.cl_ast.specs.declared.tree.Chain.{Chain, out-Chain}
use Rattle.cl_ast.specs.declared.tree.Link.{Link, out-Link}
use Rattle.cl_ast.specs.declared.tree.Prefix.{Prefix, out-Prefix}
use Rattle.cl_ast.specs.declared.statement.Function.{Function}
use Rattle.cl_model.specs.Doing.{◌>>=◌, ◌>>◌, pure, trap, ask, checked, each, through}
use Rattle.cl_model.specs.Numbers.{negated, truth, is_zero}
use Rattle.cl_listing.specs.Names.{Name}
use Rattle.cl_meaning.specs.Operators.{literal, field_type, operated}
use Rattle.cl_meaning.specs.Variables.{Variable, Variables}
use Rattle.cl_meaning.specs.Operations.{Does, Aim, Holds, Fills, place, variable, value_at, store, formal, slot, values_of, fill, asked, received, requested, evaluated}
use Rattle.cl_meaning.specs.Expressions.{Surroundings, truth_of, joined, value, place_meant, call, operation}
use Rattle.cl_meaning.specs.Calls.{live_call}
use Rattle.cl_meaning.specs.Parts.{field_aim, field_part, link_value, chain_value}
use Rattle.cl_meaning.proofs.Equations as equations
use Rattle.cl_types.specs.declared.context.Access.{Access}
use Rattle.cl_types.specs.declared.context.Access.TheVariants as accesses
use Rattle.cl_types.specs.declared.context.Purpose.{Purpose}
use Rattle.cl_types.specs.declared.context.Purpose.TheVariants as purposes
use Rattle.cl_types.specs.declared.declared.Declared.{Declared}
use Rattle.cl_types.specs.declared.declared.Declared.TheVariants as declareds
use Rattle.cl_types.specs.declared.declared.Number.{Number}
use Rattle.cl_types.specs.Notes.{found_all}
use Rattle.cl_types.specs.Types.{literal_type, negated_type}
use Rattle.cl_types.specs.Types as judging
use Rattle.cl_types.specs.Numbers.{plain_number}
use Rattle.cl_types.specs.Declarations.{Declaration, Known, look_up}
use Rattle.cl_types.specs.Expressions.{Judged, LinkJudges, place_type, place_faults, is_indexed, index_notes, called_type, call_faults, formal_faults, width_faults, notes_of, all_judged, all_noted, judged_link, chained, judged, judged_place, judged_call, judged_chain, judged_operand, operation_notes, field_notes, constant_of, constant_named, constant_declared, is_there, negated_number}
use Rattle.cl_types.specs.Expressions as rule
use Rattle.cl_types.specs.Findings.{Finding, Forms}
use Rattle.cl_types.specs.Findings as findings
use Rattle.cl_types.specs.Fields.{plain_form, field_form, own_forms, expr_forms, place_forms, call_forms, operation_forms, inner_forms, chain_forms, link_forms}
use Rattle.cl_types.specs.Gathered.{each as each_found, maybe_forms}
use Rattle.cl_types.proofs.Rules as rules
use Rattle.cl_types.proofs.Finding as finding
use Rattle.cl_types.proofs.Judging.{all_length}
use Rattle.cl_types.proofs.Clean.{Clean, clean_split, none_found}
use Rattle.cl_typing.specs.Values.{IsOf, IsOfFound, IsFoundNumber, ValueIs}
use Rattle.cl_typing.specs.Standing.{FitsAs, Fits, Scene}
use Rattle.cl_typing.specs.Requests.{bytes_rule, callee_rule, field_callee_rule, callee, Beside, ValueSuits, SlotSuits, PartSuits, AskSuits, IsShallow, Allows}
use Rattle.cl_typing.specs.Steps.{Keeps}
use Rattle.cl_typing.proofs.Leading.{Paired, keeps_bind, keeps_then, keeps_more, keeps_both, keeps_pure, keeps_trap, keeps_checked, keeps_ask, keeps_if, keeps_each}
use Rattle.cl_typing.proofs.Operating.{truth_is, literal_is, literal_number, operated_is, LooksAtBoth, negated_is}
use Rattle.cl_typing.proofs.Operating as operating
use Rattle.cl_typing.proofs.Places.{Accesses, may_access, accessed, variable_keeps, value_keeps, value_any, number_keeps, store_keeps, place_alone, place_indexed}
use Rattle.cl_ast.proofs.Inductions.{ExprGoods, every_expr as inductive_expr, every_place as inductive_place, every_call as inductive_call, every_operation as inductive_operation}
use Rattle.cl_typing.proofs.Calling.{GivesResult, CallsRight, Callable, may_call, callable_takes, call_gives, LiveSuits, live_keeps}

pub all_split : {X : Type 0} (P : X → Type 0) (xs ys : List X) → AllByRecursion P (xs ++ ys) → AllByRecursion P xs × AllByRecursion P ys
all_split P [] ys h = (tt, h)
all_split P (x ∷ xs) ys h = let r = all_split P xs ys h.1 in ((h.0, r.0), r.1)

paired_length : {X A : Type 0} (P : X → A → Type 0) (xs : List X) (all : List A) → Paired P xs all → length all ≡ length xs
paired_length P [] [] h = refl
paired_length P [] (a ∷ all) h = absurd h
paired_length P (x ∷ xs) [] h = absurd h
paired_length P (x ∷ xs) (a ∷ all) h = ap suc (paired_length P xs all h.1)

beside_found : {A : Type 0} (P : Field → Finding → A → Type 0) (known : Known) (xs : List Field) (all : List A) → Paired (λ x a. P x (field_form x known) a) xs all → Beside P xs (own_forms xs known) all
beside_found P known [] [] h = tt
beside_found P known [] (a ∷ all) h = absurd h
beside_found P known (x ∷ xs) [] h = absurd h
beside_found P known (x ∷ xs) (a ∷ all) h = (h.0, beside_found P known xs all h.1)

-- what is noted so far is noted in the whole
chain_clean : (known : Known) (a : Judged) (ls : List LinkJudges) → Clean (chained known a ls).notes → Clean a.notes
chain_clean known a [] h = h
chain_clean known a (l ∷ ls) h = (clean_split a.notes (l.operand known).notes (chain_clean known (judged_link a l.operator (l.operand known)) ls h)).0

module _ (R : PlainRequest → Type 0) (around : Surroundings) (functions : List Function) (globals : List Declaration) where
  abbrev pub Here : Type 0
  Here = Scene functions globals

  abbrev pub Kept : Here → Variables → Type 0
  Kept c all = Fits globals (c.outer ++ c.inner ∷ []) all

  abbrev pub Allowed : Forms → Type 0
  Allowed fs = Allows around.text functions around.depth around.site R fs

  abbrev pub Suiting : Known → Field → PlainPart → Type 0
  Suiting known f part = PartSuits around.text functions f (field_form f known) part

  -- a field that was read suits, and a place that is to get a value may be written
  abbrev pub AimSuits : Here → Verb → Field → Finding → Aim → Type 0
  AimSuits c verb f x (Holds v) = ValueSuits around.text functions f x v
  AimSuits c verb f x (Fills of name at) = (formal_faults verb ≡ []) × (x ≡ findings.Formal (Some of)) × ((i : Bool) × Accesses globals (c.outer ++ c.inner ∷ []) name accesses.Write i (Some of))

  -- ---- what is shown of each form

  abbrev pub GoodExpr : Expr → Type 0
  GoodExpr x = (c : Here) → Clean (judged x c.known).notes → Allowed (expr_forms x c.known) →
      Keeps R (Kept c) (ValueIs x c.known) (value around x) × Keeps R (Kept c) (Suiting c.known (fields.Plain x)) (field_part around (fields.Plain x))

  abbrev pub GoodPlace : Place → Type 0
  GoodPlace x = (c : Here) (access : Access) → Clean (judged_place x access c.known).notes → Allowed (place_forms x c.known) → Keeps R (Kept c) (λ k. (out-Place x).index ≡ None → k ≡ 0) (place_meant around x).at

  abbrev pub GoodCall : Call → Type 0
  GoodCall x = (c : Here) → Clean (notes_of (all_judged c.known (map judged (out-Call x).arguments))) → Allowed (call_forms x c.known) →
      Keeps R (Kept c) (λ vs. length vs ≡ length (out-Call x).arguments) (each (map (value around) (out-Call x).arguments))

  abbrev pub GoodOperation : Operation → Type 0
  GoodOperation x = (c : Here) → Clean (operation_notes x c.known) → Allowed (operation_forms x c.known) → Keeps R (Kept c) (IsOf types.Int) (operation around x)

  abbrev pub FieldLaw : Here → Verb → Field → Type 0
  FieldLaw c verb x = Keeps R (Kept c) (AimSuits c verb x (field_form x c.known)) (field_aim around x) × (verb ≡ verbs.Eval → Keeps R (Kept c) (Suiting c.known x) (field_part around x))

  abbrev pub GoodField : Field → Type 0
  GoodField x = (c : Here) (verb : Verb) → Clean (field_notes x verb c.known) → Allowed (inner_forms x c.known) → FieldLaw c verb x

  abbrev pub GoodChain : Chain → Type 0
  GoodChain x = (c : Here) → Clean (judged_chain x c.known).notes → Allowed (chain_forms x c.known) → Keeps R (Kept c) (IsOfFound (judged_chain x c.known).type) (chain_value around x)

  -- ---- the forms of an expression

  value_by : (x : Expr) (c : Here) (t : Option TypeName) (n : Option Number) (d : Does Value) → (judged x c.known).type ≡ t → constant_of x c.known ≡ n → value around x ≡ d →
      Keeps R (Kept c) (λ v. IsOfFound t v × IsFoundNumber n v) d → Keeps R (Kept c) (ValueIs x c.known) (value around x)
  value_by x c t n d ht hn hd h = subst (Keeps R (Kept c) (ValueIs x c.known)) (sym hd)
      (keeps_more R (Kept c) (λ v. IsOfFound t v × IsFoundNumber n v) (ValueIs x c.known) d h (λ v p. (subst (λ u. IsOfFound u v) (sym ht) p.0, subst (λ m. IsFoundNumber m v) (sym hn) p.1)))

  plain_suits : (f : Field) (n : Option Number) (t : Option TypeName) (v : Value) → IsOfFound t v × IsFoundNumber n v → ValueSuits around.text functions f (plain_form n t) v
  plain_suits f None t v h = h.0
  plain_suits f (Some n) t v h = h.1

  field_suits : (x : Expr) (known : Known) (v : Value) → ValueIs x known v → ValueSuits around.text functions (fields.Plain x) (field_form (fields.Plain x) known) v
  field_suits x known v h = subst (λ y. ValueSuits around.text functions (fields.Plain x) y v) (sym (finding.expr_form x known)) (plain_suits (fields.Plain x) (constant_of x known) (judged x known).type v h)

  -- what isn't a call is evaluated by the maker of a live tuple
  both_of : (x : Expr) (c : Here) → field_part around (fields.Plain x) ≡ value around x >>= (λ v. pure (Ready v)) → Keeps R (Kept c) (ValueIs x c.known) (value around x) →
      Keeps R (Kept c) (ValueIs x c.known) (value around x) × Keeps R (Kept c) (Suiting c.known (fields.Plain x)) (field_part around (fields.Plain x))
  both_of x c is h =
      let Q = Suiting c.known (fields.Plain x) in
      (h, subst (Keeps R (Kept c) Q) (sym is) (keeps_bind R (Kept c) (ValueIs x c.known) Q (value around x) _ h (λ v p. keeps_pure R (Kept c) Q (Ready v) (field_suits x c.known v p))))

  literal_good : (x : Literal) → GoodExpr (exprs.Literal x)
  literal_good x c clean allowed = both_of (exprs.Literal x) c (equations.part_of_literal around x)
      (value_by (exprs.Literal x) c (Some (literal_type x.value)) (Some (plain_number x.value)) (pure (literal x.value)) (ap (λ (j : Judged). j.type) (rules.of_literal x c.known)) (rules.constant_literal x c.known) (equations.of_literal around x)
      (keeps_pure R (Kept c) (λ v. IsOfFound (Some (literal_type x.value)) v × IsFoundNumber (Some (plain_number x.value)) v) (literal x.value) (literal_is x.value, literal_number x.value)))

  -- what is known of the name of a place
  pub place_accesses : (x : Place) (c : Here) (access : Access) → Clean (judged_place x access c.known).notes →
      (i : Bool) × Accesses globals (c.outer ++ c.inner ∷ []) (out-Place x).name.bytes access i (judged_place x access c.known).type
  place_accesses x c access clean =
      let name = (out-Place x).name in
      let index = option_map (λ e. judged e c.known) (out-Place x).index in
      let what = look_up name.bytes c.known in
      let is = rules.place_is x access c.known in
      let noted = found_all (place_faults access (is_indexed index) what) name.span.start in
      let clear : Clean (noted ++ index_notes index) = subst (λ (j : Judged). Clean j.notes) is clean in
      let none = none_found (place_faults access (is_indexed index) what) name.span.start (clean_split noted (index_notes index) clear).0 in
      (is_indexed index, subst (λ (j : Judged). Accesses globals (c.outer ++ c.inner ∷ []) name.bytes access (is_indexed index) j.type) (sym is) (may_access functions globals c.outer c.inner c.known c.sees name.bytes access (is_indexed index) none))

  constant_keeps : (c : Here) (name : Name) → Keeps R (Kept c) (IsFoundNumber (constant_declared (look_up name c.known))) (value_at name 0)
  constant_keeps c name = by (look_up name c.known) refl
    where
      any : (o : Option Declared) → constant_declared o ≡ None → Keeps R (Kept c) (IsFoundNumber (constant_declared o)) (value_at name 0)
      any o is = subst (λ n. Keeps R (Kept c) (IsFoundNumber n) (value_at name 0)) (sym is) (value_any R globals (c.outer ++ c.inner ∷ []) name 0)

      by : (o : Option Declared) → look_up name c.known ≡ o → Keeps R (Kept c) (IsFoundNumber (constant_declared o)) (value_at name 0)
      by None is = any None refl
      by (Some (declareds.Scalar t)) is = any (Some (declareds.Scalar t)) refl
      by (Some (declareds.Array t)) is = any (Some (declareds.Array t)) refl
      by (Some (declareds.Function f)) is = any (Some (declareds.Function f)) refl
      by (Some (declareds.Constant n)) is = number_keeps R globals (c.outer ++ c.inner ∷ []) name n (c.sees.stands name (declareds.Constant n) is tt)

  number_at : (c : Here) (name : Named) (index : Option Expr) (k : ℕ) → (index ≡ None → k ≡ 0) → Keeps R (Kept c) (IsFoundNumber (constant_named name (is_there index) c.known)) (value_at name.bytes k)
  number_at c name (Some e) k h = value_any R globals (c.outer ++ c.inner ∷ []) name.bytes k
  number_at c name None k h = subst (λ k. Keeps R (Kept c) (IsFoundNumber (constant_named name false c.known)) (value_at name.bytes k)) (sym (h refl)) (constant_keeps c name.bytes)

  named_good : (x : Place) → GoodPlace x → GoodExpr (exprs.Place x)
  named_good x g c clean allowed =
      let name = (out-Place x).name in
      let own : Clean (judged_place x accesses.Read c.known).notes = subst (λ (j : Judged). Clean j.notes) (rules.of_place x c.known) clean in
      let t = (judged_place x accesses.Read c.known).type in
      let n = constant_named name (is_there (out-Place x).index) c.known in
      let Q : Value → Type 0 = λ v. IsOfFound t v × IsFoundNumber n v in
      let a = place_accesses x c accesses.Read own in
      let typed : (k : ℕ) → Keeps R (Kept c) (IsOfFound t) (value_at name.bytes k) =
      λ k. keeps_more R (Kept c) (IsOf a.1.type) (IsOfFound t) (value_at name.bytes k) (value_keeps R globals (c.outer ++ c.inner ∷ []) name.bytes accesses.Read a.0 t k a.1) (λ v p. subst (λ u. IsOfFound u v) (sym a.1.found_is) p) in
      both_of (exprs.Place x) c (equations.part_of_place around x)
      (value_by (exprs.Place x) c t n ((place_meant around x).at >>= value_at name.bytes) (ap (λ (j : Judged). j.type) (rules.of_place x c.known)) (rules.constant_place_is x c.known) (equations.of_place around x)
      (keeps_bind R (Kept c) (λ k. (out-Place x).index ≡ None → k ≡ 0) Q (place_meant around x).at (value_at name.bytes) (g c accesses.Read own (subst Allowed (finding.of_place x c.known) allowed))
      (λ k p. keeps_both R (Kept c) (IsOfFound t) (IsFoundNumber n) (value_at name.bytes k) (typed k) (number_at c name (out-Place x).index k p))))

  -- a call without faults has its function
  callable : (x : Call) (c : Here) (purpose : Purpose) → Clean (judged_call x purpose c.known).notes →
      Callable functions (out-Call x).name.bytes (judged_call x purpose c.known).type (length (out-Call x).arguments) × Clean (notes_of (all_judged c.known (map judged (out-Call x).arguments)))
  callable x c purpose clean =
      let name = (out-Call x).name in
      let parts = all_judged c.known (map judged (out-Call x).arguments) in
      let what = look_up name.bytes c.known in
      let is = rules.call_is x purpose c.known in
      let noted = found_all (call_faults purpose (length parts) what) name.span.start in
      let clear : Clean (noted ++ notes_of parts) = subst (λ (j : Judged). Clean j.notes) is clean in
      let two = clean_split noted (notes_of parts) clear in
      let none = none_found (call_faults purpose (length parts) what) name.span.start two.0 in
      let may = may_call functions globals c.outer c.inner c.known c.sees name.bytes purpose (length parts) none in
      (subst (λ (j : Judged). Callable functions name.bytes j.type (length (out-Call x).arguments)) (sym is) (subst (Callable functions name.bytes (called_type what)) (sym (all_length c.known (out-Call x).arguments)) may), two.1)

  live_suits : (f : Field) (name : Name) (t : Option TypeName) (part : PlainPart) → callee f ≡ Some name → LiveSuits R (λ v. Unit {0}) functions name t part → PartSuits around.text functions f (findings.Actual t) part
  live_suits f name t (Ready v) is h = absurd h
  live_suits f name t (Calls number vs gives) is h = (h.0, h.1, h.2, h.3, h.4, h.5, (name, is, h.6))

  callee_is : (x : Call) → callee (fields.Plain (exprs.Call x)) ≡ Some (out-Call x).name.bytes
  callee_is x = ap field_callee_rule (outs-Plain (exprs.Call x)) ∙ ap callee_rule (outs-Call x)

  -- ---- calls may be done, and live calls are those of the text

  module _ (calls_right : CallsRight R functions globals around.call) (live_is : (name : Name) (vs : List Value) → around.live_call name vs ≡ live_call functions name vs) where
    pub call_keeps : (x : Call) → GoodCall x → (c : Here) (purpose : Purpose) → Clean (judged_call x purpose c.known).notes → Allowed (call_forms x c.known) → Keeps R (Kept c) (IsOfFound (judged_call x purpose c.known).type) (call around x)
    call_keeps x g c purpose clean allowed =
        let name = (out-Call x).name.bytes in
        let xs = (out-Call x).arguments in
        let may = callable x c purpose clean in
        let t = (judged_call x purpose c.known).type in
        subst (Keeps R (Kept c) (IsOfFound t)) (sym (equations.call_is around x))
        (keeps_bind R (Kept c) (λ vs. length vs ≡ length xs) (IsOfFound t) (each (map (value around) xs)) (around.call name) (g c may.1 allowed)
        (λ vs same. keeps_more R (Kept c) (GivesResult functions name) (IsOfFound t) (around.call name vs) (calls_right name vs (c.outer ++ c.inner ∷ []) (callable_takes functions name t vs (subst (Callable functions name t) (sym same) may.0))) (λ v gives. call_gives functions name t (length xs) v may.0 gives)))

    part_keeps : (x : Call) → GoodCall x → (c : Here) → Clean (judged_call x purposes.Value c.known).notes → Allowed (call_forms x c.known) → Keeps R (Kept c) (Suiting c.known (fields.Plain (exprs.Call x))) (field_part around (fields.Plain (exprs.Call x)))
    part_keeps x g c clean allowed =
        let name = (out-Call x).name.bytes in
        let xs = (out-Call x).arguments in
        let may = callable x c purposes.Value clean in
        let t = (judged_call x purposes.Value c.known).type in
        let Q = Suiting c.known (fields.Plain (exprs.Call x)) in
        let form : field_form (fields.Plain (exprs.Call x)) c.known ≡ findings.Actual t =
        finding.expr_form (exprs.Call x) c.known ∙ (ap (λ n. plain_form n (judged (exprs.Call x) c.known).type) (rules.constant_call x c.known) ∙ ap (λ (j : Judged). findings.Actual j.type) (rules.of_call x c.known)) in
        let done : (vs : List Value) → length vs ≡ length xs → Keeps R (Kept c) Q (live_call functions name vs) =
        λ vs same. keeps_more R (Kept c) (LiveSuits R (Kept c) functions name t) Q (live_call functions name vs) (live_keeps R (Kept c) functions name t vs (subst (Callable functions name t) (sym same) may.0))
        (λ part p. subst (λ y. PartSuits around.text functions (fields.Plain (exprs.Call x)) y part) (sym form) (live_suits (fields.Plain (exprs.Call x)) name t part (callee_is x) p)) in
        subst (Keeps R (Kept c) Q) (sym (equations.part_of_call around x))
        (keeps_bind R (Kept c) (λ vs. length vs ≡ length xs) Q (each (map (value around) xs)) (around.live_call name) (g c may.1 allowed) (λ vs same. subst (Keeps R (Kept c) Q) (sym (live_is name vs)) (done vs same)))

    called_good : (x : Call) → GoodCall x → GoodExpr (exprs.Call x)
    called_good x g c clean allowed =
        let own : Clean (judged_call x purposes.Value c.known).notes = subst (λ (j : Judged). Clean j.notes) (rules.of_call x c.known) clean in
        let inner = subst Allowed (finding.of_call x c.known) allowed in
        let t = (judged_call x purposes.Value c.known).type in (
          value_by (exprs.Call x) c t None (call around x) (ap (λ (j : Judged). j.type) (rules.of_call x c.known)) (rules.constant_call x c.known) (equations.of_call around x)
              (keeps_more R (Kept c) (IsOfFound t) (λ v. IsOfFound t v × Unit {0}) (call around x) (call_keeps x g c purposes.Value own inner) (λ v p. (p, tt))),
          part_keeps x g c own inner,
        )

  operating_good : (x : Operation) → GoodOperation x → GoodExpr (exprs.Operation x)
  operating_good x g c clean allowed =
      let own : Clean (operation_notes x c.known) = subst (λ (j : Judged). Clean j.notes) (rules.of_operation x c.known) clean in
      both_of (exprs.Operation x) c (equations.part_of_operation around x)
      (value_by (exprs.Operation x) c (Some types.Int) None (operation around x) (ap (λ (j : Judged). j.type) (rules.of_operation x c.known)) (rules.constant_operation x c.known) (equations.of_operation around x)
      (keeps_more R (Kept c) (IsOf types.Int) (λ v. IsOfFound (Some types.Int) v × Unit {0}) (operation around x) (g c own (subst Allowed (finding.of_operation x c.known) allowed)) (λ v p. (p, tt))))

  chained_good : (x : Chain) → GoodChain x → GoodExpr (exprs.Chain x)
  chained_good x g c clean allowed =
      let own : Clean (judged_chain x c.known).notes = subst (λ (j : Judged). Clean j.notes) (rules.of_chain x c.known) clean in
      let t = (judged_chain x c.known).type in
      both_of (exprs.Chain x) c (equations.part_of_chain around x)
      (value_by (exprs.Chain x) c t None (chain_value around x) (ap (λ (j : Judged). j.type) (rules.of_chain x c.known)) (rules.constant_chain x c.known) (equations.of_chain around x)
      (keeps_more R (Kept c) (IsOfFound t) (λ v. IsOfFound t v × Unit {0}) (chain_value around x) (g c own (subst Allowed (finding.of_chain x c.known) allowed)) (λ v p. (p, tt))))

  minus_number : (n : Option Number) (v w : Value) → negated v ≡ Ok w → IsFoundNumber n v → IsFoundNumber (negated_number n) w
  minus_number None v w is h = tt
  minus_number (Some n) v w is h = operating.negated_number n v w is h

  negate_good : (x : Prefix) → GoodExpr (out-Prefix x).operand → GoodExpr (exprs.Negate x)
  negate_good x g c clean allowed =
      let y = (out-Prefix x).operand in
      let own : Clean (judged y c.known).notes = subst (λ (j : Judged). Clean j.notes) (rules.of_negate x c.known) clean in
      let t = negated_type (judged y c.known).type in
      let n = negated_number (constant_of y c.known) in
      let Q : Value → Type 0 = λ v. IsOfFound t v × IsFoundNumber n v in
      both_of (exprs.Negate x) c (equations.part_of_negate around x)
      (value_by (exprs.Negate x) c t n (value around y >>= (λ v. checked (negated v))) (ap (λ (j : Judged). j.type) (rules.of_negate x c.known)) (rules.constant_negate_is x c.known) (equations.of_negate around x)
      (keeps_bind R (Kept c) (ValueIs y c.known) Q (value around y) _ (g c own (subst Allowed (finding.of_negate x c.known) allowed)).0
      (λ v p. keeps_checked R (Kept c) Q (negated v) (λ w is. (negated_is (judged y c.known).type v w is p.0, minus_number (constant_of y c.known) v w is p.1)))))

  not_good : (x : Prefix) → GoodExpr (out-Prefix x).operand → GoodExpr (exprs.Not x)
  not_good x g c clean allowed =
      let y = (out-Prefix x).operand in
      let own : Clean (judged y c.known).notes = subst (λ (j : Judged). Clean j.notes) (rules.of_not x c.known) clean in
      let Q : Value → Type 0 = λ v. IsOfFound (Some types.Int) v × Unit {0} in
      both_of (exprs.Not x) c (equations.part_of_not around x)
      (value_by (exprs.Not x) c (Some types.Int) None (value around y >>= (λ v. pure (truth (is_zero v)))) (ap (λ (j : Judged). j.type) (rules.of_not x c.known)) (rules.constant_not x c.known) (equations.of_not around x)
      (keeps_bind R (Kept c) (ValueIs y c.known) Q (value around y) _ (g c own (subst Allowed (finding.of_not x c.known) allowed)).0 (λ v p. keeps_pure R (Kept c) Q (truth (is_zero v)) (truth_is (is_zero v), tt))))

  -- ---- places and arguments, by what holds of their parts

  index_keeps : (name : Name) (index : Option ((x : Expr) × GoodExpr x)) (c : Here) → Clean (index_notes (option_map (λ e. judged e c.known) (option_map (λ y. y.0) index))) → Allowed (maybe_forms (option_map (λ y. y.0) index) c.known) →
      Keeps R (Kept c) (λ k. option_map (λ (y : (x : Expr) × GoodExpr x). y.0) index ≡ None → k ≡ 0) (place name (option_map (value around) (option_map (λ y. y.0) index)))
  index_keeps name None c clean allowed = keeps_more R (Kept c) (λ k. k ≡ 0) (λ k. None ≡ None → k ≡ 0) (place name None) (place_alone R globals (c.outer ++ c.inner ∷ []) name) (λ k is e. is)
  index_keeps name (Some y) c clean allowed = keeps_more R (Kept c) (λ k. Unit {0}) (λ k. Some y.0 ≡ None → k ≡ 0) (place name (Some (value around y.0)))
      (place_indexed R globals (c.outer ++ c.inner ∷ []) (ValueIs y.0 c.known) name (value around y.0) (y.1 c clean allowed).0) (λ k u e. absurd cc)

  place_good : (p : Place) (index : Option ((x : Expr) × GoodExpr x)) → option_map (λ y. y.0) index ≡ (out-Place p).index → GoodPlace p
  place_good p index h c access clean allowed =
      let name = (out-Place p).name in
      let judgings = option_map (λ e. judged e c.known) (out-Place p).index in
      let what = look_up name.bytes c.known in
      let noted = found_all (place_faults access (is_indexed judgings) what) name.span.start in
      let clear : Clean (noted ++ index_notes judgings) = subst (λ (j : Judged). Clean j.notes) (rules.place_is p access c.known) clean in
      let P : Option Expr → Type 0 = λ i. Clean (index_notes (option_map (λ e. judged e c.known) i)) → Allowed (maybe_forms i c.known) → Keeps R (Kept c) (λ k. i ≡ None → k ≡ 0) (place name.bytes (option_map (value around) i)) in
      subst (Keeps R (Kept c) (λ k. (out-Place p).index ≡ None → k ≡ 0)) (sym (equations.place_at around p))
      (subst P h (index_keeps name.bytes index c) (clean_split noted (index_notes judgings) clear).1 (subst Allowed (finding.place_is p c.known) allowed))

  exprs_keep : (ys : List ((x : Expr) × GoodExpr x)) (c : Here) → Clean (notes_of (all_judged c.known (map judged (map (λ y. y.0) ys)))) → Allowed (each_found expr_forms (map (λ y. y.0) ys) c.known) →
      AllByRecursion (λ x. Keeps R (Kept c) (λ v. Unit {0}) (value around x)) (map (λ y. y.0) ys)
  exprs_keep [] c clean allowed = tt
  exprs_keep (y ∷ ys) c clean allowed =
      let rest = map (λ (z : (x : Expr) × GoodExpr x). z.0) ys in
      let two = clean_split (judged y.0 c.known).notes (notes_of (all_judged c.known (map judged rest))) clean in
      let forms = all_split _ (expr_forms y.0 c.known) (each_found expr_forms rest c.known) allowed in
      (keeps_more R (Kept c) (ValueIs y.0 c.known) (λ v. Unit {0}) (value around y.0) (y.1 c two.0 forms.0).0 (λ v p. tt), exprs_keep ys c two.1 forms.1)

  call_good : (x : Call) (ys : List ((e : Expr) × GoodExpr e)) → map (λ y. y.0) ys ≡ (out-Call x).arguments → GoodCall x
  call_good x ys h c clean allowed =
      let P : List Expr → Type 0 = λ es. Clean (notes_of (all_judged c.known (map judged es))) → Allowed (each_found expr_forms es c.known) → AllByRecursion (λ e. Keeps R (Kept c) (λ v. Unit {0}) (value around e)) es in
      let es = (out-Call x).arguments in
      let Q : Expr → Value → Type 0 = λ e v. Unit {0} in
      keeps_more R (Kept c) (Paired Q es) (λ vs. length vs ≡ length es) (each (map (value around) es))
      (keeps_each R (Kept c) Q (value around) es (subst P h (exprs_keep ys c) clean (subst Allowed (finding.call_is x c.known) allowed))) (λ vs p. paired_length Q es vs p)

  -- ---- fields

  text_suits : (x : Text) (known : Known) → ValueSuits around.text functions (fields.Text x) (field_form (fields.Text x) known) (values.Text (around.text x.bytes))
  text_suits x known = subst (λ y. ValueSuits around.text functions (fields.Text x) y (values.Text (around.text x.bytes))) (sym (finding.text_form x known))
      (ap (λ f. values.Text (around.text (bytes_rule f))) (sym (outs-Text x)))

  text_good : (x : Text) → GoodField (fields.Text x)
  text_good x c verb clean allowed =
      let v = values.Text (around.text x.bytes) in
      let P = AimSuits c verb (fields.Text x) (field_form (fields.Text x) c.known) in
      let Q = Suiting c.known (fields.Text x) in (
        subst (Keeps R (Kept c) P) (sym (equations.aim_of_text around x)) (keeps_pure R (Kept c) P (Holds v) (text_suits x c.known)),
        λ is. subst (Keeps R (Kept c) Q) (sym (equations.part_of_text around x)) (keeps_pure R (Kept c) Q (Ready v) (text_suits x c.known)),
      )

  plain_good : (x : Expr) → GoodExpr x → GoodField (fields.Plain x)
  plain_good x g c verb clean allowed =
      let r = g c (subst Clean (rules.of_plain x verb c.known) clean) (subst Allowed (finding.of_plain x c.known) allowed) in
      let P = AimSuits c verb (fields.Plain x) (field_form (fields.Plain x) c.known) in
      (subst (Keeps R (Kept c) P) (sym (equations.aim_of_plain around x)) (keeps_bind R (Kept c) (ValueIs x c.known) P (value around x) _ r.0 (λ v p. keeps_pure R (Kept c) P (Holds v) (field_suits x c.known v p))), λ is. r.1)

  no_formal : formal_faults verbs.Eval ≡ [] → ⊥
  no_formal h = cc

  formal_keeps : (c : Here) (K : ℕ → Type 0) (name : Name) (at : Does ℕ) (i : Bool) (found : Option TypeName) (a : Accesses globals (c.outer ++ c.inner ∷ []) name accesses.Write i found) (P : Aim → Type 0) → Keeps R (Kept c) K at →
      ((k : ℕ) (v : Variable) → FitsAs a.what v → P (Fills v.of name k)) → Keeps R (Kept c) P (formal name at)
  unfolding formal
  formal_keeps c K name at i found a P h f = keeps_bind R (Kept c) K P at _ h (λ k p.
      keeps_bind R (Kept c) (FitsAs a.what) P (variable name) _ (variable_keeps R globals (c.outer ++ c.inner ∷ []) name a.what a.stands) (λ v fits. keeps_pure R (Kept c) P (Fills v.of name k) (f k v fits)))

  formal_good : (x : Formal) → GoodPlace (out-Formal x).target → GoodField (fields.Formal x)
  formal_good x g c verb clean allowed =
      let target = (out-Formal x).target in
      let name = (out-Place target).name.bytes in
      let own = found_all (formal_faults verb) (out-Formal x).span.start in
      let j = judged_place target accesses.Write c.known in
      let locals = c.outer ++ c.inner ∷ [] in
      let clear : Clean (own ++ j.notes) = subst Clean (rules.of_formal x verb c.known ∙ rules.formal_is x verb c.known) clean in
      let two = clean_split own j.notes clear in
      let none = none_found (formal_faults verb) (out-Formal x).span.start two.0 in
      let a = place_accesses target c accesses.Write two.1 in
      let P = AimSuits c verb (fields.Formal x) (field_form (fields.Formal x) c.known) in
      let at = g c accesses.Write two.1 (subst Allowed (finding.of_formal x c.known) allowed) in
      let read : (v : Variable) → FitsAs a.1.what v → a.1.type ≡ v.of = λ v f. sym (accessed accesses.Write a.0 a.1.what a.1.type v a.1.typed f).0 in
      let aim : (k : ℕ) (v : Variable) → a.1.type ≡ v.of → P (Fills v.of name k) =
      λ k v is. subst (λ t. P (Fills t name k)) is
      (none, finding.formal_form x c.known ∙ ap (λ t. findings.Formal t) a.1.found_is, (a.0, subst (λ t. Accesses globals locals name accesses.Write a.0 t) a.1.found_is a.1)) in
      (subst (Keeps R (Kept c) P) (sym (equations.aim_of_formal around x)) (formal_keeps c (λ k. (out-Place target).index ≡ None → k ≡ 0) name (place_meant around target).at a.0 j.type a.1 P at (λ k v f. aim k v (read v f))), λ is. absurd (no_formal (subst (λ v. formal_faults v ≡ []) is none)))

  -- ---- what is received

  abbrev CanFill : Here → Aim → Type 0
  CanFill c (Holds v) = Unit {0}
  CanFill c (Fills of name at) = (i : Bool) × Accesses globals (c.outer ++ c.inner ∷ []) name accesses.Write i (Some of)

  can_fill : (c : Here) (verb : Verb) (xs : List Field) (aims : List Aim) → Paired (λ x a. AimSuits c verb x (field_form x c.known) a) xs aims → AllByRecursion (CanFill c) aims
  can_fill c verb [] [] h = tt
  can_fill c verb [] (a ∷ aims) h = absurd h
  can_fill c verb (x ∷ xs) [] h = absurd h
  can_fill c verb (x ∷ xs) (Holds v ∷ aims) h = (tt, can_fill c verb xs aims h.1)
  can_fill c verb (x ∷ xs) (Fills of name at ∷ aims) h = (h.0.2, can_fill c verb xs aims h.1)

  fill_keeps : (c : Here) (aims : List Aim) (vs : List Value) → AllByRecursion (CanFill c) aims → Keeps R (Kept c) (λ u. Unit {0}) (fill aims vs)
  unfolding fill
  fill_keeps c [] vs h = keeps_pure R (Kept c) (λ u. Unit {0}) tt tt
  fill_keeps c (Holds v ∷ aims) [] h = keeps_pure R (Kept c) (λ u. Unit {0}) tt tt
  fill_keeps c (Fills of name at ∷ aims) [] h = keeps_pure R (Kept c) (λ u. Unit {0}) tt tt
  fill_keeps c (Holds v ∷ aims) (w ∷ ws) h = fill_keeps c aims ws h.1
  fill_keeps c (Fills of name at ∷ aims) (w ∷ ws) h = keeps_then R (Kept c) (λ u. Unit {0}) (λ u. Unit {0}) (store name at w) (fill aims ws) (store_keeps R globals (c.outer ++ c.inner ∷ []) name h.0.0 (Some of) at w h.0.1) (fill_keeps c aims ws h.1)

  received_keeps : (c : Here) (aims : List Aim) (reply : PlainReply) → AllByRecursion (CanFill c) aims → Keeps R (Kept c) (IsOf types.Int) (received aims reply)
  unfolding received
  received_keeps c aims (Got t) h = keeps_then R (Kept c) (λ u. Unit {0}) (IsOf types.Int) (fill aims t) (pure (truth true)) (fill_keeps c aims t h) (keeps_pure R (Kept c) (IsOf types.Int) (truth true) (truth_is true))
  received_keeps c aims Done h = keeps_pure R (Kept c) (IsOf types.Int) (truth true) (truth_is true)
  received_keeps c aims Miss h = keeps_pure R (Kept c) (IsOf types.Int) (truth false) (truth_is false)

  -- ---- what is asked for

  slot_suits : (x : Field) (y : Finding) (of : TypeName) → y ≡ findings.Formal (Some of) → SlotSuits around.text functions x y (slots.Formal (field_type of))
  slot_suits x y of is = subst (λ z. SlotSuits around.text functions x z (slots.Formal (field_type of))) (sym is) refl

  slots_suit : (c : Here) (verb : Verb) (xs : List Field) (aims : List Aim) → Paired (λ x a. AimSuits c verb x (field_form x c.known) a) xs aims → Beside (SlotSuits around.text functions) xs (own_forms xs c.known) (map slot aims)
  slots_suit c verb [] [] h = tt
  slots_suit c verb [] (a ∷ aims) h = absurd h
  slots_suit c verb (x ∷ xs) [] h = absurd h
  slots_suit c verb (x ∷ xs) (Holds v ∷ aims) h = (h.0, slots_suit c verb xs aims h.1)
  slots_suit c verb (x ∷ xs) (Fills of name at ∷ aims) h = (slot_suits x (field_form x c.known) of h.0.1, slots_suit c verb xs aims h.1)

  no_out_formal : formal_faults verbs.Out ≡ [] → ⊥
  no_out_formal h = cc

  values_suit : (c : Here) (xs : List Field) (aims : List Aim) → Paired (λ x a. AimSuits c verbs.Out x (field_form x c.known) a) xs aims → Beside (ValueSuits around.text functions) xs (own_forms xs c.known) (values_of aims)
  values_suit c [] [] h = tt
  values_suit c [] (a ∷ aims) h = absurd h
  values_suit c (x ∷ xs) [] h = absurd h
  values_suit c (x ∷ xs) (Holds v ∷ aims) h = (h.0, values_suit c xs aims h.1)
  values_suit c (x ∷ xs) (Fills of name at ∷ aims) h = absurd (no_out_formal h.0.0)

  ask_suits : (c : Here) (verb : Verb) (xs : List Field) (aims : List Aim) → (verb ≡ verbs.Eval → ⊥) → Paired (λ x a. AimSuits c verb x (field_form x c.known) a) xs aims → AskSuits around.text functions verb xs (own_forms xs c.known) (asked verb aims)
  ask_suits c verbs.Out xs aims other h = values_suit c xs aims h
  ask_suits c verbs.In xs aims other h = slots_suit c verbs.In xs aims h
  ask_suits c verbs.Rd xs aims other h = slots_suit c verbs.Rd xs aims h
  ask_suits c verbs.Inp xs aims other h = slots_suit c verbs.Inp xs aims h
  ask_suits c verbs.Rdp xs aims other h = slots_suit c verbs.Rdp xs aims h
  ask_suits c verbs.Eval xs aims other h = absurd (other refl)

  -- ---- operations

  fields_keep : (ys : List ((x : Field) × GoodField x)) (c : Here) (verb : Verb) → Clean (rule.joined (all_noted verb c.known (map field_notes (map (λ y. y.0) ys)))) → Allowed (each_found inner_forms (map (λ y. y.0) ys) c.known) →
      AllByRecursion (FieldLaw c verb) (map (λ y. y.0) ys)
  fields_keep [] c verb clean allowed = tt
  fields_keep (y ∷ ys) c verb clean allowed =
      let rest = map (λ (z : (x : Field) × GoodField x). z.0) ys in
      let two = clean_split (field_notes y.0 verb c.known) (rule.joined (all_noted verb c.known (map field_notes rest))) clean in
      let forms = all_split _ (inner_forms y.0 c.known) (each_found inner_forms rest c.known) allowed in
      (y.1 c verb two.0 forms.0, fields_keep ys c verb two.1 forms.1)

  aims_keep : (c : Here) (verb : Verb) (xs : List Field) → AllByRecursion (FieldLaw c verb) xs → AllByRecursion (λ x. Keeps R (Kept c) (AimSuits c verb x (field_form x c.known)) (field_aim around x)) xs
  aims_keep c verb [] h = tt
  aims_keep c verb (x ∷ xs) h = (h.0.0, aims_keep c verb xs h.1)

  parts_keep : (c : Here) (verb : Verb) (xs : List Field) → verb ≡ verbs.Eval → AllByRecursion (FieldLaw c verb) xs → AllByRecursion (λ x. Keeps R (Kept c) (Suiting c.known x) (field_part around x)) xs
  parts_keep c verb [] is h = tt
  parts_keep c verb (x ∷ xs) is h = (h.0.1 is, parts_keep c verb xs is h.1)

  requested_keeps : (c : Here) (site : ℕ) (verb : Verb) (xs : List Field) → AllByRecursion (FieldLaw c verb) xs →
      ((aims : List Aim) → Paired (λ x a. AimSuits c verb x (field_form x c.known) a) xs aims → R (record { site = site; ask = asked verb aims })) → Keeps R (Kept c) (IsOf types.Int) (requested site verb (map (field_aim around) xs))
  unfolding requested
  requested_keeps c site verb xs h r =
      let P : Field → Aim → Type 0 = λ x a. AimSuits c verb x (field_form x c.known) a in
      keeps_bind R (Kept c) (Paired P xs) (IsOf types.Int) (each (map (field_aim around) xs)) _ (keeps_each R (Kept c) P (field_aim around) xs (aims_keep c verb xs h)) (λ aims p.
      keeps_bind R (Kept c) (λ q. Unit {0}) (IsOf types.Int) (ask (record { site = site; ask = asked verb aims })) _ (keeps_ask R (Kept c) (λ q. Unit {0}) (record { site = site; ask = asked verb aims }) (r aims p) (λ reply fit. tt))
      (λ reply u. received_keeps c aims reply (can_fill c verb xs aims p)))

  evaluated_keeps : (c : Here) (depth site : ℕ) (verb : Verb) (xs : List Field) → verb ≡ verbs.Eval → AllByRecursion (FieldLaw c verb) xs →
      ((live : List PlainPart) → Paired (λ x part. Suiting c.known x part) xs live → depth < 64 → R (record { site = site; ask = Eval live })) → Keeps R (Kept c) (IsOf types.Int) (evaluated depth site (map (field_part around) xs))
  unfolding evaluated
  evaluated_keeps c depth site verb xs is h r =
      let P : Field → PlainPart → Type 0 = λ x part. Suiting c.known x part in
      keeps_bind R (Kept c) (Paired P xs) (IsOf types.Int) (each (map (field_part around) xs)) _ (keeps_each R (Kept c) P (field_part around) xs (parts_keep c verb xs is h)) (λ live p.
      keeps_if R (Kept c) (IsOf types.Int) (nat_lt depth 64) (ask (record { site = site; ask = Eval live }) >> pure (truth true)) (trap EvalDepth)
      (λ few. keeps_then R (Kept c) (λ q. Unit {0}) (IsOf types.Int) (ask (record { site = site; ask = Eval live })) (pure (truth true))
      (keeps_ask R (Kept c) (λ q. Unit {0}) (record { site = site; ask = Eval live }) (r live p (ltb-true depth 64 few)) (λ reply fit. tt)) (keeps_pure R (Kept c) (IsOf types.Int) (truth true) (truth_is true)))
      (λ many. keeps_trap R (Kept c) (IsOf types.Int) EvalDepth))

  eval_or_not : (verb : Verb) (A : Type 0) → (verb ≡ verbs.Eval → A) → ((verb ≡ verbs.Eval → ⊥) → A) → A
  eval_or_not verbs.Eval A f g = f refl
  eval_or_not verbs.Out A f g = g (λ e. cc)
  eval_or_not verbs.In A f g = g (λ e. cc)
  eval_or_not verbs.Rd A f g = g (λ e. cc)
  eval_or_not verbs.Inp A f g = g (λ e. cc)
  eval_or_not verbs.Rdp A f g = g (λ e. cc)

  asked_shallow : (depth : ℕ) (verb : Verb) (aims : List Aim) → IsShallow depth (asked verb aims)
  asked_shallow depth verbs.Out aims = tt
  asked_shallow depth verbs.In aims = tt
  asked_shallow depth verbs.Rd aims = tt
  asked_shallow depth verbs.Inp aims = tt
  asked_shallow depth verbs.Rdp aims = tt
  asked_shallow depth verbs.Eval aims = tt

  operation_good : (o : Operation) (ys : List ((x : Field) × GoodField x)) → map (λ y. y.0) ys ≡ (out-Operation o).fields → GoodOperation o
  operation_good o ys h c clean allowed =
      let verb = (out-Operation o).verb in
      let xs = (out-Operation o).fields in
      let at = (out-Operation o).span.start in
      let parts = all_noted verb c.known (map field_notes xs) in
      let noted = found_all (width_faults (length parts)) at in
      let clear : Clean (noted ++ rule.joined parts) = subst Clean (rules.operation_is o c.known) clean in
      let may : Allowed ((o, own_forms xs c.known) ∷ each_found inner_forms xs c.known) = subst Allowed (finding.operation_is o c.known) allowed in
      let P : List Field → Type 0 = λ fs. Clean (rule.joined (all_noted verb c.known (map field_notes fs))) → Allowed (each_found inner_forms fs c.known) → AllByRecursion (FieldLaw c verb) fs in
      let all : AllByRecursion (FieldLaw c verb) xs = subst P h (fields_keep ys c verb) (clean_split noted (rule.joined parts) clear).1 may.1 in
      let Q = Keeps R (Kept c) (IsOf types.Int) in
      eval_or_not verb (Q (operation around o))
      (λ is. subst Q (sym (equations.operation_spawns around o is)) (evaluated_keeps c around.depth (around.site at) verb xs is all
      (λ live p few. may.0 (Eval live) (subst (λ v. AskSuits around.text functions v xs (own_forms xs c.known) (Eval live)) (sym is) (beside_found (PartSuits around.text functions) c.known xs live p)) few)))
      (λ other. subst Q (sym (equations.operation_requests around o other)) (requested_keeps c (around.site at) verb xs all (λ aims p. may.0 (asked verb aims) (ask_suits c verb xs aims other p) (asked_shallow around.depth verb aims))))

  -- ---- chains

  truth_keeps : (c : Here) (P : Value → Type 0) (d : Does Value) → Keeps R (Kept c) P d → Keeps R (Kept c) (IsOf types.Int) (truth_of d)
  unfolding truth_of
  truth_keeps c P d h = keeps_bind R (Kept c) P (IsOf types.Int) d _ h (λ v p. keeps_pure R (Kept c) (IsOf types.Int) (truth (not (is_zero v))) (truth_is (not (is_zero v))))

  both_keep : (c : Here) (operator : Operator) (s t : Option TypeName) (d : Does Value) (a : Value) → LooksAtBoth operator → IsOfFound s a → Keeps R (Kept c) (IsOfFound t) d →
      Keeps R (Kept c) (IsOfFound (judging.operated operator s t)) (d >>= (λ b. checked (operated operator a b)))
  both_keep c operator s t d a l is h = keeps_bind R (Kept c) (IsOfFound t) (IsOfFound (judging.operated operator s t)) d _ h
      (λ b p. keeps_checked R (Kept c) (IsOfFound (judging.operated operator s t)) (operated operator a b) (λ v e. operated_is operator s t a b v l e is p))

  joined_keeps : (c : Here) (operator : Operator) (s t : Option TypeName) (d : Does Value) (a : Value) → IsOfFound s a → Keeps R (Kept c) (IsOfFound t) d → Keeps R (Kept c) (IsOfFound (judging.operated operator s t)) (joined operator d a)
  unfolding joined
  joined_keeps c operators.And s t d a is h = keeps_if R (Kept c) (IsOf types.Int) (is_zero a) (pure (truth false)) (truth_of d) (λ e. keeps_pure R (Kept c) (IsOf types.Int) (truth false) (truth_is false)) (λ e. truth_keeps c (IsOfFound t) d h)
  joined_keeps c operators.Or s t d a is h = keeps_if R (Kept c) (IsOf types.Int) (is_zero a) (truth_of d) (pure (truth true)) (λ e. truth_keeps c (IsOfFound t) d h) (λ e. keeps_pure R (Kept c) (IsOf types.Int) (truth true) (truth_is true))
  joined_keeps c operators.Equal s t d a is h = both_keep c operators.Equal s t d a tt is h
  joined_keeps c operators.NotEqual s t d a is h = both_keep c operators.NotEqual s t d a tt is h
  joined_keeps c operators.Less s t d a is h = both_keep c operators.Less s t d a tt is h
  joined_keeps c operators.LessEqual s t d a is h = both_keep c operators.LessEqual s t d a tt is h
  joined_keeps c operators.Greater s t d a is h = both_keep c operators.Greater s t d a tt is h
  joined_keeps c operators.GreaterEqual s t d a is h = both_keep c operators.GreaterEqual s t d a tt is h
  joined_keeps c operators.Add s t d a is h = both_keep c operators.Add s t d a tt is h
  joined_keeps c operators.Subtract s t d a is h = both_keep c operators.Subtract s t d a tt is h
  joined_keeps c operators.Multiply s t d a is h = both_keep c operators.Multiply s t d a tt is h
  joined_keeps c operators.Divide s t d a is h = both_keep c operators.Divide s t d a tt is h
  joined_keeps c operators.Remainder s t d a is h = both_keep c operators.Remainder s t d a tt is h

  links_keep : (ys : List ((l : Link) × GoodExpr (out-Link l).operand)) (c : Here) (a : Judged) (v : Value) → IsOfFound a.type v → Clean (chained c.known a (map judged_operand (map (λ y. y.0) ys))).notes → Allowed (each_found link_forms (map (λ y. y.0) ys) c.known) →
      Keeps R (Kept c) (IsOfFound (chained c.known a (map judged_operand (map (λ y. y.0) ys))).type) (through (map (link_value around) (map (λ y. y.0) ys)) v)
  unfolding through
  links_keep [] c a v is clean allowed = keeps_pure R (Kept c) (IsOfFound a.type) v is
  links_keep (y ∷ ys) c a v is clean allowed =
      let x = (out-Link y.0).operand in
      let operator = (out-Link y.0).operator in
      let b = judged x c.known in
      let next = judged_link a operator b in
      let ls = map (λ (z : (l : Link) × GoodExpr (out-Link l).operand). z.0) ys in
      let rest = map judged_operand ls in
      let whole : chained c.known a (judged_operand y.0 ∷ rest) ≡ chained c.known next rest = ap (λ (k : LinkJudges). chained c.known (judged_link a k.operator (k.operand c.known)) rest) (rules.link_is y.0) in
      let clear : Clean (chained c.known next rest).notes = subst (λ (j : Judged). Clean j.notes) whole clean in
      let forms = all_split _ (link_forms y.0 c.known) (each_found link_forms ls c.known) allowed in
      let own = (clean_split a.notes b.notes (chain_clean c.known next rest clear)).1 in
      let operand = keeps_more R (Kept c) (ValueIs x c.known) (IsOfFound b.type) (value around x) (y.1 c own (subst Allowed (finding.link_is y.0 c.known) forms.0)).0 (λ w p. p.0) in
      subst (λ (j : Judged). Keeps R (Kept c) (IsOfFound j.type) (through (map (link_value around) (y.0 ∷ ls)) v)) (sym whole)
      (keeps_bind R (Kept c) (IsOfFound next.type) (IsOfFound (chained c.known next rest).type) (link_value around y.0 v) (through (map (link_value around) ls)) (joined_keeps c operator a.type b.type (value around x) v is operand)
      (λ w p. links_keep ys c next w p clear forms.1))

  chain_good : (h : Chain) → GoodExpr (out-Chain h).first → (ys : List ((l : Link) × GoodExpr (out-Link l).operand)) → map (λ y. y.0) ys ≡ (out-Chain h).others → GoodChain h
  chain_good h g ys e c clean allowed =
      let first = (out-Chain h).first in
      let a = judged first c.known in
      let ls = (out-Chain h).others in
      let is = rules.chain_is h c.known in
      let clear : Clean (chained c.known a (map judged_operand ls)).notes = subst (λ (j : Judged). Clean j.notes) is clean in
      let forms = all_split _ (expr_forms first c.known) (each_found link_forms ls c.known) (subst Allowed (finding.chain_is h c.known) allowed) in
      let P : List Link → Type 0 = λ ls. (v : Value) → IsOfFound a.type v → Clean (chained c.known a (map judged_operand ls)).notes → Allowed (each_found link_forms ls c.known) →
      Keeps R (Kept c) (IsOfFound (chained c.known a (map judged_operand ls)).type) (through (map (link_value around) ls) v) in
      subst (λ (j : Judged). Keeps R (Kept c) (IsOfFound j.type) (chain_value around h)) (sym is)
      (keeps_bind R (Kept c) (ValueIs first c.known) (IsOfFound (chained c.known a (map judged_operand ls)).type) (value around first) (through (map (link_value around) ls)) (g c (chain_clean c.known a (map judged_operand ls) clear) forms.0).0
      (λ v p. subst P e (λ v is clean allowed. links_keep ys c a v is clean allowed) v p.0 clear forms.1))

  -- ---- every expression

  module _ (calls_right : CallsRight R functions globals around.call) (live_is : (name : Name) (vs : List Value) → around.live_call name vs ≡ live_call functions name vs) where
    goods : ExprGoods GoodExpr GoodField GoodCall GoodChain GoodOperation GoodPlace
    goods = record { literal = literal_good; named = named_good; called = called_good calls_right live_is; operating = operating_good; chained = chained_good; negated = negate_good; denied = not_good; text = text_good; formal = formal_good; plain = plain_good; place = place_good; call = call_good; operation = operation_good; chain = chain_good }

    pub every_expr : (x : Expr) → GoodExpr x
    every_expr = inductive_expr goods

    pub every_place : (x : Place) → GoodPlace x
    every_place = inductive_place goods

    pub every_call : (x : Call) (c : Here) (purpose : Purpose) → Clean (judged_call x purpose c.known).notes → Allowed (call_forms x c.known) → Keeps R (Kept c) (IsOfFound (judged_call x purpose c.known).type) (call around x)
    every_call x = call_keeps calls_right live_is x (inductive_call goods x)

    pub every_operation : (x : Operation) → GoodOperation x
    every_operation = inductive_operation goods
