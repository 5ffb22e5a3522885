-- How the logic stores acts, processes and sets: each as a tree of numbers, from which it can be read back. (This project.)
use Rattle.std.specs.Prelude.{◌≡◌, refl, ℕ, zero, suc, Bool, List, Option, ◌⊎◌, ℤ}
use Rattle.std.proofs.Common.{inl, inr}
use Rattle.std.specs.Coded.{Coded, code_by, coded×, coded⊎, coded_ℕ, coded_ℤ, coded_bool, coded_list, coded_option}
use Rattle.cl_value.specs.declared.value.Value.{Value}
use Rattle.cl_value.specs.declared.value.Value.TheVariants as values
use Rattle.cl_value.specs.declared.value.FieldType.{FieldType}
use Rattle.cl_value.specs.declared.value.FieldType.TheVariants as types
use Rattle.cl_value.specs.declared.template.Slot.{Slot}
use Rattle.cl_value.specs.declared.template.Slot.TheVariants as slots
use Rattle.cl_value.specs.Plain.{PlainPart, Ready, Call, PlainWhat, DidOut, DidIn, DidRd, InpHit, InpMiss, RdpHit, RdpMiss, DidEval, DidLand, PlainAct, PlainHistory}
use Rattle.cl_ticket.specs.Participants.{Birth, Origin, Root, Born, Mark, Participant}

-- a value as numbers with its type
abbrev pub value_parts : Value → (ℤ ⊎ ℤ) ⊎ (ℕ ⊎ ℕ)
value_parts (values.Int n) = inl (inl n)
value_parts (values.Long n) = inl (inr n)
value_parts (values.Char n) = inr (inl n)
value_parts (values.Text n) = inr (inr n)

-- the value of such numbers
abbrev pub value_of : (ℤ ⊎ ℤ) ⊎ (ℕ ⊎ ℕ) → Value
value_of (inl (inl n)) = values.Int n
value_of (inl (inr n)) = values.Long n
value_of (inr (inl n)) = values.Char n
value_of (inr (inr n)) = values.Text n

-- the numbers of a value give it back
pub value_back : (v : Value) → value_of (value_parts v) ≡ v
value_back (values.Int n) = refl
value_back (values.Long n) = refl
value_back (values.Char n) = refl
value_back (values.Text n) = refl

-- how values are stored
abbrev pub value_coded : Coded Value
value_coded = code_by ((ℤ ⊎ ℤ) ⊎ (ℕ ⊎ ℕ)) (coded⊎ (coded⊎ coded_ℤ coded_ℤ) (coded⊎ coded_ℕ coded_ℕ)) value_parts value_of value_back

-- a type as one of four numbers
abbrev pub type_parts : FieldType → (ℕ ⊎ ℕ) ⊎ (ℕ ⊎ ℕ)
type_parts types.Int = inl (inl 0)
type_parts types.Long = inl (inr 0)
type_parts types.Char = inr (inl 0)
type_parts types.Text = inr (inr 0)

-- the type of such a number
abbrev pub type_at : (ℕ ⊎ ℕ) ⊎ (ℕ ⊎ ℕ) → FieldType
type_at (inl (inl n)) = types.Int
type_at (inl (inr n)) = types.Long
type_at (inr (inl n)) = types.Char
type_at (inr (inr n)) = types.Text

-- the number of a type gives it back
pub type_back : (t : FieldType) → type_at (type_parts t) ≡ t
type_back types.Int = refl
type_back types.Long = refl
type_back types.Char = refl
type_back types.Text = refl

-- how types are stored
abbrev pub type_coded : Coded FieldType
type_coded = code_by ((ℕ ⊎ ℕ) ⊎ (ℕ ⊎ ℕ)) (coded⊎ (coded⊎ coded_ℕ coded_ℕ) (coded⊎ coded_ℕ coded_ℕ)) type_parts type_at type_back

-- a slot as a value or a type
abbrev pub slot_parts : Slot → Value ⊎ FieldType
slot_parts (slots.Actual v) = inl v
slot_parts (slots.Formal t) = inr t

-- the slot of such
abbrev pub slot_of : Value ⊎ FieldType → Slot
slot_of (inl v) = slots.Actual v
slot_of (inr t) = slots.Formal t

-- the parts of a slot give it back
pub slot_back : (s : Slot) → slot_of (slot_parts s) ≡ s
slot_back (slots.Actual v) = refl
slot_back (slots.Formal t) = refl

-- how slots are stored
abbrev pub slot_coded : Coded Slot
slot_coded = code_by (Value ⊎ FieldType) (coded⊎ value_coded type_coded) slot_parts slot_of slot_back

-- a field of a live tuple as a value or a call
abbrev pub part_parts : PlainPart → Value ⊎ (ℕ × (List Value × FieldType))
part_parts (Ready v) = inl v
part_parts (Call f arguments gives) = inr (f, (arguments, gives))

-- the field of such
abbrev pub part_of : Value ⊎ (ℕ × (List Value × FieldType)) → PlainPart
part_of (inl v) = Ready v
part_of (inr c) = Call c.0 c.1.0 c.1.1

-- the parts of a field give it back
pub part_back : (p : PlainPart) → part_of (part_parts p) ≡ p
part_back (Ready v) = refl
part_back (Call f arguments gives) = refl

-- how fields of live tuples are stored
abbrev pub part_coded : Coded PlainPart
part_coded = code_by (Value ⊎ (ℕ × (List Value × FieldType))) (coded⊎ value_coded (coded× coded_ℕ (coded× (coded_list value_coded) type_coded))) part_parts part_of part_back

-- what was done: with a tuple alone, with a template alone, with both, or with a live tuple, each with its kind's number
abbrev pub Did : Type 0
Did = ((ℕ × List Value) ⊎ (ℕ × List Slot)) ⊎ ((ℕ × (List Slot × List Value)) ⊎ List PlainPart)

-- what was done as its parts
abbrev pub what_parts : PlainWhat → Did
what_parts (DidOut t) = inl (inl (0, t))
what_parts (DidLand t) = inl (inl (1, t))
what_parts (InpMiss m) = inl (inr (0, m))
what_parts (RdpMiss m) = inl (inr (1, m))
what_parts (DidIn m t) = inr (inl (0, (m, t)))
what_parts (DidRd m t) = inr (inl (1, (m, t)))
what_parts (InpHit m t) = inr (inl (2, (m, t)))
what_parts (RdpHit m t) = inr (inl (3, (m, t)))
what_parts (DidEval live) = inr (inr live)

-- what was done with a tuple alone, by the number of its kind
abbrev pub with_tuple : ℕ → List Value → PlainWhat
with_tuple zero t = DidOut t
with_tuple (suc n) t = DidLand t

-- what was done with a template alone, by the number of its kind
abbrev pub with_template : ℕ → List Slot → PlainWhat
with_template zero m = InpMiss m
with_template (suc n) m = RdpMiss m

-- what was done with a template and a tuple, by the number of its kind
abbrev pub with_both : ℕ → List Slot → List Value → PlainWhat
with_both zero m t = DidIn m t
with_both (suc zero) m t = DidRd m t
with_both (suc (suc zero)) m t = InpHit m t
with_both (suc (suc (suc n))) m t = RdpHit m t

-- what was done, from its parts
abbrev pub what_of : Did → PlainWhat
what_of (inl (inl d)) = with_tuple d.0 d.1
what_of (inl (inr d)) = with_template d.0 d.1
what_of (inr (inl d)) = with_both d.0 d.1.0 d.1.1
what_of (inr (inr live)) = DidEval live

-- the parts of what was done give it back
pub what_back : (w : PlainWhat) → what_of (what_parts w) ≡ w
what_back (DidOut t) = refl
what_back (DidLand t) = refl
what_back (InpMiss m) = refl
what_back (RdpMiss m) = refl
what_back (DidIn m t) = refl
what_back (DidRd m t) = refl
what_back (InpHit m t) = refl
what_back (RdpHit m t) = refl
what_back (DidEval live) = refl

-- how what was done is stored
abbrev pub what_coded : Coded PlainWhat
what_coded =
    code_by Did (coded⊎ (coded⊎ (coded× coded_ℕ (coded_list value_coded)) (coded× coded_ℕ (coded_list slot_coded))) (coded⊎ (coded× coded_ℕ (coded× (coded_list slot_coded) (coded_list value_coded))) (coded_list part_coded))) what_parts what_of what_back

-- how acts are stored
abbrev pub act_coded : Coded PlainAct
act_coded =
    code_by (ℕ × (ℕ × (ℕ × PlainWhat))) (coded× coded_ℕ (coded× coded_ℕ (coded× coded_ℕ what_coded))) (λ (a : PlainAct). (a.ticket, (a.proc, (a.site, a.what)))) (λ p. record { ticket = p.0; proc = p.1.0; site = p.1.1.0; what = p.1.1.1 }) (λ _. refl)

-- how births are stored
abbrev pub birth_coded : Coded Birth
birth_coded = code_by (PlainAct × ℕ) (coded× act_coded coded_ℕ) (λ (b : Birth). (b.act, b.depth)) (λ p. record { act = p.0; depth = p.1 }) (λ _. refl)

-- an origin as a number of sets or a birth
abbrev pub origin_parts : Origin → ℕ ⊎ Birth
origin_parts (Root k) = inl k
origin_parts (Born b) = inr b

-- the origin of such
abbrev pub origin_of : ℕ ⊎ Birth → Origin
origin_of (inl k) = Root k
origin_of (inr b) = Born b

-- the parts of an origin give it back
pub origin_back : (o : Origin) → origin_of (origin_parts o) ≡ o
origin_back (Root k) = refl
origin_back (Born b) = refl

-- how origins are stored
abbrev pub origin_coded : Coded Origin
origin_coded = code_by (ℕ ⊎ Birth) (coded⊎ coded_ℕ birth_coded) origin_parts origin_of origin_back

-- how histories are stored
abbrev pub history_coded : Coded PlainHistory
history_coded = code_by (ℕ × List PlainAct) (coded× coded_ℕ (coded_list act_coded)) (λ (s : PlainHistory). (s.set, s.acts)) (λ p. record { set = p.0; acts = p.1 }) (λ _. refl)

-- how marks of full sets are stored
abbrev pub mark_coded : Coded Mark
mark_coded = code_by (ℕ × List PlainAct) (coded× coded_ℕ (coded_list act_coded)) (λ (m : Mark). (m.set, m.acts)) (λ p. record { set = p.0; acts = p.1 }) (λ _. refl)

-- how participants are stored
abbrev pub participant_coded : Coded Participant
participant_coded =
    code_by (Origin × (List PlainAct × (List Mark × (Bool × List (Option ℕ))))) (coded× origin_coded (coded× (coded_list act_coded) (coded× (coded_list mark_coded) (coded× coded_bool (coded_list (coded_option coded_ℕ))))))
    (λ (p : Participant). (p.origin, (p.acts, (p.full, (p.failed, p.saw))))) (λ p. record { origin = p.0; acts = p.1.0; full = p.1.1.0; failed = p.1.1.1.0; saw = p.1.1.1.1 }) (λ _. refl)

-- the four lists of a view
abbrev pub numbers_coded : Coded (List ℕ)
numbers_coded = coded_list coded_ℕ

-- how lists of histories are stored
abbrev pub histories_coded : Coded (List PlainHistory)
histories_coded = coded_list history_coded

-- how lists of participants are stored
abbrev pub participants_coded : Coded (List Participant)
participants_coded = coded_list participant_coded

-- how lists of births are stored
abbrev pub births_coded : Coded (List Birth)
births_coded = coded_list birth_coded
