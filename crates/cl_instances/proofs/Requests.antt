-- Each request of a process of a text without faults is an instance of its site's signature, and what a live tuple lands is one of its `eval`.
use Rattle.std.proofs.Common.{◌≡◌, ◌∙◌, ap, sym, subst, refl, ℕ, suc, Bool, true, false, ◌&&◌, List, [], ◌∷◌, ◌++◌, map, length, Some, append_assoc, inl, inr}
use Rattle.std.specs.Prelude.{slice_get}
use Rattle.std.proofs.lemmas.List.{map-append}
use Rattle.cl_value.specs.declared.value.Value.{Value}
use Rattle.cl_value.specs.Matching.{same_type}
use Rattle.cl_value.specs.Plain.{PlainPart, Ready, Call, PlainRequest, PlainReply, PlainStart}
use Rattle.cl_ast.specs.declared.tree.Operation.{Operation, out-Operation}
use Rattle.cl_ast.specs.declared.statement.Function.{Function}
use Rattle.cl_ast.specs.declared.statement.Item.{Item}
use Rattle.cl_model.specs.Demand.{Wants}
use Rattle.cl_listing.specs.Listing.{Entries, in_items, site_at, texts_of, text_number}
use Rattle.cl_listing.specs.Listed.{sites_in}
use Rattle.cl_meaning.specs.Outer.{functions_of}
use Rattle.cl_meaning.specs.Process.{demands}
use Rattle.cl_types.specs.Unit.{faults}
use Rattle.cl_types.specs.Findings.{Finding, Forms, tell_own, told}
use Rattle.cl_types.specs.Found.{findings, sites_of}
use Rattle.cl_types.specs.EachTyped.{EachTyped}
use Rattle.cl_types.proofs.Faultless.{unit_typed}
use Rattle.cl_sig.specs.Beside.{all_beside}
use Rattle.cl_sig.specs.Instances.{value_fits, part_fits, is_tuple_of, is_live_of, is_instance_at, is_of_its_site}
use Rattle.cl_sig.specs.Signatures.{PlainSignature}
use Rattle.cl_sig.specs.Views.{plain_signature}
use Rattle.cl_sig.specs.declared.signature.Signature.{Signature}
use Rattle.cl_sig.specs.declared.signature.Mark.{Mark}
use Rattle.cl_sig.specs.declared.signature.Mark.TheVariants as marks
use Rattle.cl_sites.specs.Sites.{signature_of, signatures_of}
use Rattle.cl_sites.proofs.PlacesOfTexts.{stands_at, places_listed}
use Rattle.cl_typing.specs.Bodies.{are_settled}
use Rattle.cl_typing.specs.Texts.{StartFits, Becomes, Become, AsksAt, IsRequestOf, OutcomeFits}
use Rattle.cl_typing.proofs.Process.{demands_fit}
use Rattle.cl_instances.specs.Apart.{are_apart}
use Rattle.cl_instances.proofs.Marks.{ask_fits_marks}
use Rattle.cl_instances.proofs.Numbers.{site_found, got_behind}

-- ---- operations stand where they are listed

abbrev pub place_of : Operation × List Finding → ℕ
place_of x = (out-Operation x.0).span.start

-- a signature of the program, as plain as it is
abbrev made : PlainSignature → Signature
made p = record { kind = p.kind; fields = record { items = p.fields; spare = 0 }; place = p.place }

made_plain : (ps : List PlainSignature) → map plain_signature (map made ps) ≡ ps
made_plain [] = refl
made_plain (p ∷ ps) = ap (λ qs. p ∷ qs) (made_plain ps)

made_stand : (texts : List (List ℕ)) (fs : Forms) → map stands_at (map made (map (signature_of texts) (told fs))) ≡ map place_of fs
made_stand texts [] = refl
made_stand texts (x ∷ fs) = ap (λ ps. place_of x ∷ ps) (made_stand texts fs)

pub places_are : (xs : List Item) → sites_in (in_items xs) ≡ map place_of (findings xs)
places_are xs =
    let texts = texts_of xs in
    let ss = map made (map (signature_of texts) (sites_of xs)) in
    sym (places_listed texts xs ss (made_plain (map (signature_of texts) (sites_of xs)))) ∙ made_stand texts (findings xs)

-- ---- a request is an instance of its site

told_append : (xs ys : Forms) → told (xs ++ ys) ≡ told xs ++ told ys
told_append [] ys = refl
told_append (x ∷ xs) ys = ap (λ zs. (x.0, tell_own x.1) ∷ zs) (told_append xs ys)

length_places : (xs : Forms) → length (map place_of xs) ≡ length xs
length_places [] = refl
length_places (x ∷ xs) = ap suc (length_places xs)

length_signatures : (texts : List (List ℕ)) (xs : Forms) → length (map (signature_of texts) (told xs)) ≡ length xs
length_signatures texts [] = refl
length_signatures texts (x ∷ xs) = ap suc (length_signatures texts xs)

module _ (texts : List (List ℕ)) (functions : List Function) (es : Entries) (apart : are_apart (sites_in es) ≡ true) where
  abbrev text : List ℕ → ℕ
  text bytes = text_number bytes texts

  abbrev site : ℕ → ℕ
  site place = site_at place es

  pub signature_got : (before : Forms) (x : Operation × List Finding) (after : Forms) → slice_get (map (signature_of texts) (told (before ++ x ∷ after))) (length before) ≡ Some (signature_of texts (x.0, tell_own x.1))
  signature_got before x after =
      let s : Operation × List Finding → PlainSignature = λ y. signature_of texts (y.0, tell_own y.1) in
      ap (λ l. slice_get l (length before)) (ap (map (signature_of texts)) (told_append before (x ∷ after)) ∙ map-append (signature_of texts) (told before) (told (x ∷ after)))
      ∙ (ap (slice_get (map (signature_of texts) (told before) ++ s x ∷ map (signature_of texts) (told after))) (sym (length_signatures texts before)) ∙ got_behind (map (signature_of texts) (told before)) (s x) (map (signature_of texts) (told after)))

  pub site_is : (before : Forms) (x : Operation × List Finding) (after : Forms) → sites_in es ≡ map place_of (before ++ x ∷ after) → site (place_of x) ≡ length before
  site_is before x after is = site_found es (place_of x) (map place_of before) (map place_of after) (is ∙ map-append place_of before (x ∷ after)) apart ∙ length_places before

  asked_instance : (before after : Forms) (q : PlainRequest) → sites_in es ≡ map place_of (before ++ after) → EachTyped after → AsksAt text site functions after q →
      is_instance_at (slice_get (map (signature_of texts) (told (before ++ after))) q.site) q.ask ≡ true
  asked_instance before [] q is typed h = absurd h
  asked_instance before (x ∷ after) q is typed (inl h) =
      let all = map (signature_of texts) (told (before ++ x ∷ after)) in
      ap (λ n. is_instance_at (slice_get all n) q.ask) (h.0 ∙ site_is before x after is)
      ∙ (ap (λ s. is_instance_at s q.ask) (signature_got before x after) ∙ ask_fits_marks texts functions (out-Operation x.0).verb (out-Operation x.0).fields x.1 q.ask typed.0 h.1)
  asked_instance before (x ∷ after) q is typed (inr h) =
      let same = append_assoc before (x ∷ []) after in
      let P : Forms → Type 0 = λ fs. is_instance_at (slice_get (map (signature_of texts) (told fs)) q.site) q.ask ≡ true in
      subst P same (asked_instance (before ++ x ∷ []) after q (is ∙ ap (map place_of) (sym same)) typed.1 h)

pub request_instance : (xs : List Item) → faults xs ≡ [] → are_apart (sites_in (in_items xs)) ≡ true → (q : PlainRequest) → IsRequestOf xs q → is_of_its_site (signatures_of xs) q ≡ true
request_instance xs none apart q h = asked_instance (texts_of xs) (functions_of xs) (in_items xs) apart [] (findings xs) q (places_are xs) (unit_typed xs none) h

-- what is demanded at an operation is an instance of its site's signature
pub demanded_instance : (xs : List Item) → faults xs ≡ [] → are_settled xs ≡ true → are_apart (sites_in (in_items xs)) ≡ true → (start : PlainStart) → StartFits xs start → (ticks : ℕ) (replies : List PlainReply) (q : PlainRequest) →
    (demands xs ticks start replies).outcome ≡ Wants q → is_of_its_site (signatures_of xs) q ≡ true
demanded_instance xs none settled apart start fits ticks replies q is = request_instance xs none apart q (subst (OutcomeFits xs start) is (demands_fit xs none settled start fits ticks replies))

-- ---- what lands

becomes_fit : (m : Mark) (p : PlainPart) (v : Value) → part_fits m p ≡ true → Becomes p v → value_fits m v ≡ true
becomes_fit m (Ready w) v h is = subst (λ u. value_fits m u ≡ true) (sym is) h
becomes_fit (marks.Actual type) (Call f vs gives) v h is = ap (same_type type) is ∙ h
becomes_fit (marks.Constant u) (Call f vs gives) v h is = absurd cc
becomes_fit (marks.Formal type) (Call f vs gives) v h is = absurd cc

both_are : (a b : Bool) → (a && b) ≡ true → (a ≡ true) × (b ≡ true)
both_are true true h = (refl, refl)
both_are true false h = absurd cc
both_are false b h = absurd cc

-- what a live tuple becomes is a tuple of the fields of which it is one
pub landing_fits : (ms : List Mark) (ps : List PlainPart) (vs : List Value) → is_live_of ms ps ≡ true → Become ps vs → is_tuple_of ms vs ≡ true
landing_fits [] [] [] h is = refl
landing_fits [] [] (v ∷ vs) h is = absurd is
landing_fits [] (p ∷ ps) vs h is = absurd cc
landing_fits (m ∷ ms) [] vs h is = absurd cc
landing_fits (m ∷ ms) (p ∷ ps) [] h is = absurd is
landing_fits (m ∷ ms) (p ∷ ps) (v ∷ vs) h is =
    let two = both_are (part_fits m p) (all_beside part_fits ms ps) h in
    ap (λ b. b && all_beside value_fits ms vs) (becomes_fit m p v two.0 is.0) ∙ landing_fits ms ps vs two.1 is.1
