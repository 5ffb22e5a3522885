-- A start of a text fits the starts of a program that has the text's operations and functions.
use Rattle.std.proofs.Common.{◌≡◌, ◌∙◌, ap, sym, subst, refl, ℕ, true, List, [], ◌∷◌, ◌++◌, map, length, Option, Some, append_assoc, inl, inr, eq-eqb}
use Rattle.std.proofs.lemmas.Bool.{and_from}
use Rattle.std.specs.Prelude.{option_map, slice_get}
use Rattle.cl_value.specs.Matching.{same_type, type_of}
use Rattle.cl_value.specs.declared.value.Value.{Value}
use Rattle.cl_value.specs.declared.value.FieldType.{FieldType}
use Rattle.cl_value.specs.Plain.{PlainPart, Ready, Call, Eval, Main, Lives}
use Rattle.cl_ast.specs.declared.tree.Verb.{Verb}
use Rattle.cl_ast.specs.declared.tree.Verb.TheVariants as verbs
use Rattle.cl_ast.specs.declared.tree.Operation.{Operation, out-Operation}
use Rattle.cl_ast.specs.declared.tree.Field.{Field}
use Rattle.cl_ast.specs.declared.statement.Parameter.{Parameter}
use Rattle.cl_ast.specs.declared.statement.Function.{Function}
use Rattle.cl_ast.specs.declared.statement.Item.{Item}
use Rattle.cl_listing.specs.Listing.{in_items, site_at, texts_of, text_number}
use Rattle.cl_listing.specs.Listed.{sites_in}
use Rattle.cl_meaning.specs.Outer.{functions_of, number_of}
use Rattle.cl_types.specs.Findings.{Finding, Forms, tell, tell_own}
use Rattle.cl_types.specs.Findings as findings_of
use Rattle.cl_types.specs.Found.{findings}
use Rattle.cl_sig.specs.Beside.{all_beside}
use Rattle.cl_sig.specs.Instances.{is_of_its_site}
use Rattle.cl_sig.specs.Signatures.{PlainSignature}
use Rattle.cl_sig.specs.declared.signature.Mark.{Mark}
use Rattle.cl_sig.proofs.MatchLaws.{same_type-at}
use Rattle.cl_sites.specs.Sites.{mark_of, signature_of, marks_of}
use Rattle.cl_typing.specs.Requests.{callee, AreArguments, Beside, PartSuits, AskSuits}
use Rattle.cl_typing.specs.Texts.{AsksAt}
use Rattle.cl_code.specs.Plain.{PlainFunction, PlainProgram}
use Rattle.cl_code.specs.Rules.{has}
use Rattle.cl_code.specs.Sites.{places, places_at, none_or}
use Rattle.cl_code.specs.Starts.{has_type, takes_and_gives, calls_there, part_fits, calls_fit}
use Rattle.cl_code.proofs.Beginning.{instances_begin}
use Rattle.cl_instances.specs.Apart.{are_apart}
use Rattle.cl_instances.specs.Programs.{callees, parameter_fields, IsFunctionOf, HasTextOf, StartsFitPrograms}
use Rattle.cl_instances.proofs.Numbers.{got_behind}
use Rattle.cl_instances.proofs.Requests.{place_of, places_are, signature_got, site_is}
use Rattle.cl_instances.proofs.Sources.{read_apart}

arguments_typed : (ps : List Parameter) (vs : List Value) → AreArguments ps vs → all_beside has_type (parameter_fields ps) vs ≡ true
arguments_typed [] [] h = refl
arguments_typed [] (v ∷ vs) h = absurd h
arguments_typed (p ∷ ps) [] h = absurd h
arguments_typed (p ∷ ps) (v ∷ vs) h = and_from _ _ (same_type-at _ (type_of v) (sym h.0)) (arguments_typed ps vs h.1)

gives_it : (type : FieldType) (o : Option FieldType) → o ≡ Some type → has (same_type type) o ≡ true
gives_it type o e = ap (has (same_type type)) e ∙ same_type-at type type refl

-- an operation that suits a live tuple is an `eval`
of_eval : (text : List ℕ → ℕ) (functions : List Function) (verb : Verb) (fs : List Field) (found : List Finding) (live : List PlainPart) → AskSuits text functions verb fs found (Eval live) → (verb ≡ verbs.Eval) × Beside (PartSuits text functions) fs found live
of_eval text functions verbs.Eval fs found live h = (refl, h)
of_eval text functions verbs.Out fs found live h = absurd h
of_eval text functions verbs.In fs found live h = absurd h
of_eval text functions verbs.Rd fs found live h = absurd h
of_eval text functions verbs.Inp fs found live h = absurd h
of_eval text functions verbs.Rdp fs found live h = absurd h

module _ (xs : List Item) (p : PlainProgram) (of : HasTextOf xs p) (apart : are_apart (sites_in (in_items xs)) ≡ true) where
  abbrev texts : List (List ℕ)
  texts = texts_of xs

  abbrev text : List ℕ → ℕ
  text bytes = text_number bytes texts

  abbrev functions : List Function
  functions = functions_of xs

  abbrev call_of : Field → Option ℕ
  call_of field = option_map (λ name. number_of name functions) (callee field)

  -- ---- one field

  takes_here : (f : Function) (g : PlainFunction) (vs : List Value) (gives : FieldType) → IsFunctionOf f g → AreArguments f.parameters vs → g.gives ≡ Some gives → takes_and_gives vs gives g ≡ true
  takes_here f g vs gives is are e =
      and_from _ _ (ap (λ ts. all_beside has_type ts vs) is.parameters ∙ arguments_typed f.parameters vs are) (gives_it gives g.gives e)

  called : (field : Field) (name : List ℕ) (number : ℕ) (vs : List Value) (gives : FieldType) → callee field ≡ Some name → number ≡ number_of name functions → has (takes_and_gives vs gives) (slice_get p.functions number) ≡ true → calls_there p (call_of field) number vs gives ≡ true
  called field name number vs gives is same takes =
      ap (λ (o : Option (List ℕ)). calls_there p (option_map (λ name. number_of name functions) o) number vs gives) is ∙ and_from _ _ (eq-eqb number (number_of name functions) same) takes

  part_fits_here : (field : Field) (x : Finding) (part : PlainPart) (mark : Mark) → PartSuits text functions field x part → part_fits p (record { mark = mark; call = call_of field }) part ≡ true
  part_fits_here field x (Ready v) mark h = refl
  part_fits_here field (findings_of.Actual t) (Call number vs gives) mark h =
      let f = h.0 in
      let there = of.functions number f h.1 in
      let g = there.0 in
      let callee_is = h.6 in
      called field callee_is.0 number vs gives callee_is.1 callee_is.2 (ap (has (takes_and_gives vs gives)) there.1 ∙ takes_here f g vs gives there.2 h.3 (there.2.gives ∙ ap Some (sym h.4)))
  part_fits_here field findings_of.Text (Call number vs gives) mark h = absurd h
  part_fits_here field (findings_of.Constant n) (Call number vs gives) mark h = absurd h
  part_fits_here field (findings_of.Formal t) (Call number vs gives) mark h = absurd h

  parts_fit : (fs : List Field) (found : List Finding) (live : List PlainPart) → Beside (PartSuits text functions) fs found live → all_beside (part_fits p) (places (marks_of texts fs (tell_own found)) (callees functions fs)) live ≡ true
  parts_fit [] [] [] h = refl
  parts_fit [] [] (part ∷ live) h = absurd h
  parts_fit [] (x ∷ found) live h = absurd h
  parts_fit (f ∷ fs) [] live h = absurd h
  parts_fit (f ∷ fs) (x ∷ found) [] h = absurd h
  parts_fit (f ∷ fs) (x ∷ found) (part ∷ live) h = and_from _ _ (part_fits_here f x part (mark_of texts f (tell x)) h.0) (parts_fit fs found live h.1)

  -- ---- its operation

  fits_at : (number : ℕ) (x : Operation × List Finding) (live : List PlainPart) → slice_get p.sites number ≡ Some (signature_of texts (x.0, tell_own x.1)) → slice_get (findings xs) number ≡ Some x → AskSuits text functions (out-Operation x.0).verb (out-Operation x.0).fields x.1 (Eval live) → calls_fit p number live ≡ true
  fits_at number x live site found suits =
      let two = of_eval text functions (out-Operation x.0).verb (out-Operation x.0).fields x.1 live suits in
      let calls = of.calls number x found two.0 in
      ap (has (λ (s : PlainSignature). all_beside (part_fits p) (places_at p number s) live)) site
      ∙ (ap (λ o. all_beside (part_fits p) (places (marks_of texts (out-Operation x.0).fields (tell_own x.1)) (none_or o)) live) calls ∙ parts_fit (out-Operation x.0).fields x.1 live two.1)

  operation_fits : (before after : Forms) (number : ℕ) (live : List PlainPart) → findings xs ≡ before ++ after → AsksAt text (λ place. site_at place (in_items xs)) functions after (record { site = number; ask = Eval live }) → calls_fit p number live ≡ true
  operation_fits before [] number live is h = absurd h
  operation_fits before (x ∷ after) number live is (inl h) =
      let same : number ≡ length before = h.0 ∙ site_is texts functions (in_items xs) apart before x after (places_are xs ∙ ap (map place_of) is) in
      let site : slice_get p.sites (length before) ≡ Some (signature_of texts (x.0, tell_own x.1)) =
      ap (λ ss. slice_get ss (length before)) (of.sites ∙ ap (λ (fs : Forms). map (signature_of texts) (findings_of.told fs)) is) ∙ signature_got texts functions (in_items xs) apart before x after in
      let found : slice_get (findings xs) (length before) ≡ Some x = ap (λ (fs : Forms). slice_get fs (length before)) is ∙ got_behind before x after in
      subst (λ n. calls_fit p n live ≡ true) (sym same) (fits_at (length before) x live site found h.1)
  operation_fits before (x ∷ after) number live is (inr h) = operation_fits (before ++ x ∷ []) after number live (is ∙ sym (append_assoc before (x ∷ []) after)) h

pub starts_fit_programs : StartsFitPrograms
starts_fit_programs source xs r none p of Main h = refl
starts_fit_programs source xs r none p of (Lives site live depth) h =
    let instance : is_of_its_site p.sites (record { site = site; ask = Eval live }) ≡ true = ap (λ ss. is_of_its_site ss (record { site = site; ask = Eval live })) of.sites ∙ h.1 in
    instances_begin p site live depth instance (operation_fits xs p of (read_apart source xs r) [] (findings xs) site live refl h.4) h.2 h.3
