-- A request that is an instance of its site's signature suits the shape of its set.
use Rattle.std.proofs.Common.{◌≡◌, ℕ, zero, suc, ◌+◌, ◌<◌, Bool, true, false, List, [], ◌∷◌, length, Option, Some, None, refl, sym, ◌∙◌, ap, subst, arith, inl, inr}
use Rattle.std.proofs.lemmas.Bool.{and_from, cases_eq, eq-eqb, ne_eqb}
use Rattle.std.proofs.lemmas.Option.{slice_get_within, slice_get-get_or}
use Rattle.std.specs.Prelude.{slice_get, get_or, ◌||◌, ◌==◌, is_some}
use Rattle.cl_value.specs.Acts.{is_site_of}
use Rattle.cl_value.specs.Matching.{type_of}
use Rattle.cl_value.specs.Plain.{PlainPart, Ready, Call, PlainAsk, Out, In, Rd, Inp, Rdp, Eval, Land}
use Rattle.cl_value.specs.declared.value.Value.{Value}
use Rattle.cl_value.specs.declared.value.FieldType.{FieldType}
use Rattle.cl_value.specs.declared.template.Slot.{Slot}
use Rattle.cl_value.specs.declared.template.Slot.TheVariants as slots
use Rattle.cl_sig.specs.Beside.{all_beside}
use Rattle.cl_sig.specs.Classes.{members, constant_at, is_fixed, is_formal, arity, class}
use Rattle.cl_sig.specs.Instances.{value_fits, slot_fits, part_fits, is_tuple_of, is_template_of, is_live_of, ask_fits, is_instance, is_instance_at}
use Rattle.cl_sig.specs.Partitions.{IsPartition}
use Rattle.cl_sig.specs.Shapes.{sites_from, common_mark, common_from, common, shape}
use Rattle.cl_sig.specs.Signatures.{PlainSignature, is_producer, mark_type}
use Rattle.cl_sig.specs.Suits.{value_suits, slot_suits, part_suits, slot_type, is_literal, is_formal_slot, class_suits, ask_suits}
use Rattle.cl_sig.specs.declared.signature.Kind.{Kind}
use Rattle.cl_sig.specs.declared.signature.Kind.TheVariants as kinds
use Rattle.cl_sig.specs.declared.signature.Mark.{Mark}
use Rattle.cl_sig.specs.declared.signature.Mark.TheVariants as marks
use Rattle.cl_sig.specs.declared.shape.Class.{Class}
use Rattle.cl_sig.specs.declared.shape.Class.TheVariants as classes
use Rattle.cl_sig.proofs.MatchLaws.{same_type-true, same_type-at, value_type, slot_fits_type}
use Rattle.cl_usage.specs.Laws.{IsOf, EachRequestSuits, InstancesSuit}
use Rattle.cl_usage.proofs.BesideLaws.{beside_length, beside_some, beside_from, map_at}
use Rattle.cl_usage.proofs.ClassLaws.{queue_free}
use Rattle.cl_usage.proofs.LawProofs.{fixed_at, received_at, arity_is, types_length, template_keyed}
use Rattle.cl_usage.proofs.Members.{first_exists, set_types}

-- the sites of a set have the site
pub sites_have : (k : ℕ) (numbers : List ℕ) (set i : ℕ) → slice_get numbers i ≡ Some set → is_site_of (sites_from k numbers set) (k + i) ≡ true
sites_have k [] set i h = absurd cc
sites_have k (n ∷ numbers) set zero h =
    let number : n ≡ set = cc in
    rw (eq-eqb n set number) (rw (eq-eqb k (k + 0) (omega arith)) refl)
sites_have k (n ∷ numbers) set (suc i) h =
    let later : is_site_of (sites_from (k + 1) numbers set) (k + suc i) ≡ true =
    subst (λ j. is_site_of (sites_from (k + 1) numbers set) j ≡ true) (omega arith) (sites_have (k + 1) numbers set i h) in
    elim (cases_eq n set) [
      | inl y ↦
          rw (eq-eqb n set y) (ap (λ b. (k == k + suc i) || b) later ∙ any_true (k == k + suc i))
      | inr d ↦ rw (ne_eqb n set d) later
    ]
  where
    any_true : (b : Bool) → (b || true) ≡ true
    any_true true = refl
    any_true false = refl

-- a common field at its place
pub common_from-at : (k : ℕ) (fields : List Mark) (all : List PlainSignature) (f : ℕ) (mark : Mark) → slice_get fields f ≡ Some mark → slice_get (common_from k fields all) f ≡ Some (common_mark (constant_at (k + f) all) mark)
common_from-at k [] all f mark h = absurd cc
common_from-at k (m ∷ fields) all zero mark h =
    let same : m ≡ mark = cc in
    ap Some (ap (common_mark (constant_at k all)) same ∙ ap (λ j. common_mark (constant_at j all) mark) (omega arith))
common_from-at k (m ∷ fields) all (suc f) mark h =
    common_from-at (k + 1) fields all f mark h ∙ ap (λ j. Some (common_mark (constant_at j all) mark)) (omega arith)

pub common_from-length : (k : ℕ) (fields : List Mark) (all : List PlainSignature) → length (common_from k fields all) ≡ length fields
common_from-length k [] all = refl
common_from-length k (m ∷ fields) all = ap suc (common_from-length (k + 1) fields all)

-- a common field beside a site's: the literal of both, or the type of the site's
pub data Beside (fixed : Bool) (mark : Mark) : Mark → Type 0 where
  Same : (u : Value) → mark ≡ marks.Constant u → fixed ≡ true → Beside fixed mark (marks.Constant u)
  Typed : (type : FieldType) → mark_type mark ≡ type → fixed ≡ false → Beside fixed mark (marks.Actual type)

pub beside_by : (o : Option Value) (own mark : Mark) → mark_type own ≡ mark_type mark → ((u : Value) → o ≡ Some u → mark ≡ marks.Constant u) → Beside (is_some o) mark (common_mark o own)
beside_by (Some u) own mark types fixed = Same u (fixed u refl) refl
beside_by None own mark types fixed = Typed (mark_type own) (sym types) refl

pub value_beside : (b : Bool) (mark c : Mark) (v : Value) → Beside b mark c → value_fits mark v ≡ true → value_suits c v ≡ true
value_beside b mark _ v (Same u e fixed) h = ap (λ x. value_fits x v) (sym e) ∙ h
value_beside b mark _ v (Typed type e free) h = same_type-at type (type_of v) (sym e ∙ value_type mark v h)

pub slot_literal : (u : Value) (s : Slot) → slot_fits (marks.Constant u) s ≡ true → slot_suits (marks.Constant u) s ≡ true
slot_literal u (slots.Actual w) h = h
slot_literal u (slots.Formal type) h = absurd cc

pub slot_beside : (b : Bool) (mark c : Mark) (s : Slot) → Beside b mark c → slot_fits mark s ≡ true → slot_suits c s ≡ true
slot_beside b mark _ s (Same u e fixed) h = slot_literal u s (ap (λ x. slot_fits x s) (sym e) ∙ h)
slot_beside b mark _ s (Typed type e free) h = same_type-at type (slot_type s) (sym e ∙ slot_fits_type mark s h)

pub call_type : (mark : Mark) (g : ℕ) (arguments : List Value) (gives : FieldType) → part_fits mark (Call g arguments gives) ≡ true → mark_type mark ≡ gives
call_type (marks.Constant u) g arguments gives h = absurd cc
call_type (marks.Actual type) g arguments gives h = same_type-true type gives h
call_type (marks.Formal type) g arguments gives h = absurd cc

pub call_is_actual : (u : Value) (g : ℕ) (arguments : List Value) (gives : FieldType) → part_fits (marks.Constant u) (Call g arguments gives) ≡ true → part_suits (marks.Constant u) (Call g arguments gives) ≡ true
call_is_actual u g arguments gives h = absurd cc

pub part_beside : (b : Bool) (mark c : Mark) (p : PlainPart) → Beside b mark c → part_fits mark p ≡ true → part_suits c p ≡ true
part_beside b mark c (Ready w) near h = value_beside b mark c w near h
part_beside b mark _ (Call g arguments gives) (Same u e fixed) h =
    call_is_actual u g arguments gives (ap (λ x. part_fits x (Call g arguments gives)) (sym e) ∙ h)
part_beside b mark _ (Call g arguments gives) (Typed type e free) h =
    same_type-at type gives (sym e ∙ call_type mark g arguments gives h)

-- what all have in common, beside a site of the set
pub record Common (sites : List PlainSignature) (numbers : List ℕ) (set : ℕ) (s : PlainSignature) : Type 0 where
  pub long : length (common (members sites numbers set)).fields ≡ length s.fields
  pub near : (f : ℕ) (mark : Mark) → slice_get s.fields f ≡ Some mark → (c : Mark) × (slice_get (common (members sites numbers set)).fields f ≡ Some c) × Beside (is_fixed (members sites numbers set) f) mark c

pub common_beside : (sites : List PlainSignature) (numbers : List ℕ) (set i : ℕ) (s : PlainSignature) → IsPartition sites numbers → IsOf sites numbers set i s → Common sites numbers set s
common_beside sites numbers set i s partition of =
    let first = first_exists sites numbers set i s of.here of.number in
    let types = set_types sites numbers set first.site i first.first s partition first.of of in
    let fields : (common (members sites numbers set)).fields ≡ common_from 0 first.first.fields (first.first ∷ first.rest) = ap (λ x. (common x).fields) first.all in
    record {
      long = ap length fields ∙ common_from-length 0 first.first.fields (first.first ∷ first.rest) ∙ types_length first.first.fields s.fields types;
      near = λ f mark here.
          let own = map_at mark_type s.fields first.first.fields f mark (sym types) here in
          let at_f : slice_get (common (members sites numbers set)).fields f ≡ Some (common_mark (constant_at f (members sites numbers set)) own.0) =
          ap (λ x. slice_get x f) fields ∙ common_from-at 0 first.first.fields (first.first ∷ first.rest) f own.0 own.1 ∙ ap (λ j. Some (common_mark (constant_at j (first.first ∷ first.rest)) own.0)) (omega arith) ∙ ap (λ x. Some (common_mark (constant_at f x) own.0)) (sym first.all) in
          (common_mark (constant_at f (members sites numbers set)) own.0, at_f, beside_by (constant_at f (members sites numbers set)) own.0 mark (sym own.2) (λ u e. literal_at f mark here u e));
    }
  where
    literal_at : (f : ℕ) (mark : Mark) → slice_get s.fields f ≡ Some mark → (u : Value) → constant_at f (members sites numbers set) ≡ Some u → mark ≡ marks.Constant u
    literal_at f mark here u e =
        let fixed = fixed_at sites numbers set f i s mark (ap is_some e) of here in
        let same : fixed.0 ≡ u =
        let both : Some fixed.0 ≡ Some u = sym fixed.1 ∙ e in
        cc in
        fixed.2 ∙ ap marks.Constant same

-- an instance of the site passes what each field beside passes
pub instance_suits : {A : Type 0} (fits suit : Mark → A → Bool) (sites : List PlainSignature) (numbers : List ℕ) (set : ℕ) (s : PlainSignature) (xs : List A) → Common sites numbers set s → ((f : ℕ) (mark c : Mark) (x : A) → slice_get s.fields f ≡ Some mark → Beside (is_fixed (members sites numbers set) f) mark c → fits mark x ≡ true → suit c x ≡ true) → all_beside fits s.fields xs ≡ true → all_beside suit (common (members sites numbers set)).fields xs ≡ true
instance_suits fits suit sites numbers set s xs shared each h =
    beside_from suit (common (members sites numbers set)).fields xs (shared.long ∙ beside_length fits s.fields xs h)
    (λ f c x at_c at_x.
    let own = beside_some fits s.fields xs f x h at_x in
    let near = shared.near f own.0 own.1 in
    let same : near.0 ≡ c =
    let both : Some near.0 ≡ Some c = sym near.1 ∙ at_c in
    cc in
    subst (λ z. suit z x ≡ true) same (each f own.0 near.0 x own.1 near.2 own.2))

-- under Queue each slot is a literal's or a formal
pub formal_slot : (mark : Mark) (s : Slot) → is_formal mark ≡ true → slot_fits mark s ≡ true → is_formal_slot s ≡ true
formal_slot (marks.Constant u) s formal h = absurd cc
formal_slot (marks.Actual type) s formal h = absurd cc
formal_slot (marks.Formal type) (slots.Actual w) formal h = absurd cc
formal_slot (marks.Formal type) (slots.Formal other) formal h = refl

pub queue_beside : (b : Bool) (mark c : Mark) (s : Slot) → Beside b mark c → (b ≡ false → is_formal mark ≡ true) → slot_fits mark s ≡ true → (is_literal c || is_formal_slot s) ≡ true
queue_beside b mark _ s (Same u e fixed) formal h = refl
queue_beside b mark _ s (Typed type e free) formal h = formal_slot mark s (formal free) h

pub class_ok : (sites : List PlainSignature) (numbers : List ℕ) (set i : ℕ) (s : PlainSignature) → IsPartition sites numbers → IsOf sites numbers set i s → is_producer s.kind ≡ false → (m : List Slot) → is_template_of s.fields m ≡ true → (cls : Class) → class (members sites numbers set) ≡ cls → class_suits cls (common (members sites numbers set)).fields m ≡ true
class_ok sites numbers set i s partition of consumes m h classes.Counter e = refl
class_ok sites numbers set i s partition of consumes m h classes.List e = refl
class_ok sites numbers set i s partition of consumes m h (classes.Keyed f) e = template_keyed sites numbers set f partition e i s of consumes m h
class_ok sites numbers set i s partition of consumes m h classes.Queue e =
    instance_suits slot_fits (λ mark slot. is_literal mark || is_formal_slot slot) sites numbers set s m (common_beside sites numbers set i s partition of)
    (λ f mark c x here near fits.
    queue_beside (is_fixed (members sites numbers set) f) mark c x near (λ free. formal_at f mark here free) fits)
    h
  where
    formal_at : (f : ℕ) (mark : Mark) → slice_get s.fields f ≡ Some mark → is_fixed (members sites numbers set) f ≡ false → is_formal mark ≡ true
    formal_at f mark here free =
        let low : f < arity (members sites numbers set) = omega (arith, arity_is sites numbers set i s partition of, slice_get_within s.fields f mark here) in
        elim (queue_free (members sites numbers set) f e low) [
          | inl fixed ↦
              let both : true ≡ false = sym fixed ∙ free in
              absurd cc
          | inr received ↦ received_at sites numbers set f i s mark received of consumes here
        ]

pub tuple_ok : (sites : List PlainSignature) (numbers : List ℕ) (set i : ℕ) (s : PlainSignature) → IsPartition sites numbers → IsOf sites numbers set i s → (t : List Value) → is_tuple_of s.fields t ≡ true → ask_suits (shape sites numbers set) (Out t) ≡ true
tuple_ok sites numbers set i s partition of t h =
    instance_suits value_fits value_suits sites numbers set s t (common_beside sites numbers set i s partition of)
    (λ f mark c x here near fits. value_beside (is_fixed (members sites numbers set) f) mark c x near fits)
    h

pub template_ok : (sites : List PlainSignature) (numbers : List ℕ) (set i : ℕ) (s : PlainSignature) → IsPartition sites numbers → IsOf sites numbers set i s → is_producer s.kind ≡ false → (m : List Slot) → is_template_of s.fields m ≡ true → ask_suits (shape sites numbers set) (In m) ≡ true
template_ok sites numbers set i s partition of consumes m h =
    and_from (all_beside slot_suits (common (members sites numbers set)).fields m) (class_suits (class (members sites numbers set)) (common (members sites numbers set)).fields m)
    (instance_suits slot_fits slot_suits sites numbers set s m (common_beside sites numbers set i s partition of)
    (λ f mark c x here near fits. slot_beside (is_fixed (members sites numbers set) f) mark c x near fits)
    h)
    (class_ok sites numbers set i s partition of consumes m h (class (members sites numbers set)) refl)

pub live_ok : (sites : List PlainSignature) (numbers : List ℕ) (set i : ℕ) (s : PlainSignature) → IsPartition sites numbers → IsOf sites numbers set i s → (live : List PlainPart) → is_live_of s.fields live ≡ true → ask_suits (shape sites numbers set) (Eval live) ≡ true
live_ok sites numbers set i s partition of live h =
    instance_suits part_fits part_suits sites numbers set s live (common_beside sites numbers set i s partition of)
    (λ f mark c x here near fits. part_beside (is_fixed (members sites numbers set) f) mark c x near fits)
    h

pub site_exists : (o : Option PlainSignature) (ask : PlainAsk) → is_instance_at o ask ≡ true → (s : PlainSignature) × (o ≡ Some s) × (is_instance s ask ≡ true)
site_exists (Some s) ask h = (s, refl, h)
site_exists None ask h = absurd cc

-- the operation of an instance suits, by its kind
pub ask_ok : (sites : List PlainSignature) (numbers : List ℕ) (set i : ℕ) (s : PlainSignature) → IsPartition sites numbers → IsOf sites numbers set i s → (kind : Kind) → s.kind ≡ kind → (ask : PlainAsk) → ask_fits kind s.fields ask ≡ true → ask_suits (shape sites numbers set) ask ≡ true
ask_ok sites numbers set i s partition of kinds.Out e (Out t) h = tuple_ok sites numbers set i s partition of t h
ask_ok sites numbers set i s partition of kinds.In e (In m) h = template_ok sites numbers set i s partition of (ap is_producer e) m h
ask_ok sites numbers set i s partition of kinds.Rd e (Rd m) h = template_ok sites numbers set i s partition of (ap is_producer e) m h
ask_ok sites numbers set i s partition of kinds.Inp e (Inp m) h = template_ok sites numbers set i s partition of (ap is_producer e) m h
ask_ok sites numbers set i s partition of kinds.Rdp e (Rdp m) h = template_ok sites numbers set i s partition of (ap is_producer e) m h
ask_ok sites numbers set i s partition of kinds.Eval e (Eval live) h = live_ok sites numbers set i s partition of live h
ask_ok sites numbers set i s partition of kinds.Eval e (Land t) h = tuple_ok sites numbers set i s partition of t h
ask_ok sites numbers set i s partition of _ e _ h = absurd cc

pub request_suits : EachRequestSuits
request_suits sites numbers set request partition number instance =
    let found = site_exists (slice_get sites request.site) request.ask instance in
    let of : IsOf sites numbers set request.site found.0 = record { here = found.1; number = number } in
    and_from (is_site_of (sites_from 0 numbers set) request.site) (ask_suits (shape sites numbers set) request.ask)
    (subst (λ j. is_site_of (sites_from 0 numbers set) j ≡ true) (omega arith) (sites_have 0 numbers set request.site number))
    (ask_ok sites numbers set request.site found.0 partition of found.0.kind refl request.ask found.2)

-- and its site is of a set
pub instances_suit : InstancesSuit
instances_suit sites numbers partition request instance =
    let own = site_exists (slice_get sites request.site) request.ask instance in
    let within : request.site < length numbers = omega (arith, slice_get_within sites request.site own.0 own.1, partition.all) in
    let number = slice_get-get_or numbers request.site 0 within in
    record { set = get_or numbers request.site 0; number = number; suits = request_suits sites numbers (get_or numbers request.site 0) request partition number instance }
