-- Values, slots and fields are read as they were spelled.
use Rattle.std.proofs.Common.{◌≡◌, ℕ, ◌%◌, ◌^◌, Bool, true, false, ◌&&◌, eqb, List, [], ◌∷◌, ◌++◌, length, pos, negsuc, ℤ, refl, sym, ap, ◌∙◌, arith, append_assoc}
use Rattle.std.specs.Prelude.{IsTrue}
use Rattle.std.specs.Ordering.{int_eq}
use Rattle.std.specs.List.{AllByRecursion}
use Rattle.std.proofs.lemmas.Bool.Decides.{nat_tests}
use Rattle.cl_value.specs.Matching.{type_of, same_type, same_value, accepts, matches}
use Rattle.cl_value.specs.Plain.{PlainPart, Ready, Call}
use Rattle.cl_value.specs.declared.value.Value.{Value}
use Rattle.cl_value.specs.declared.value.Value.TheVariants as values
use Rattle.cl_value.specs.declared.value.FieldType.{FieldType}
use Rattle.cl_value.specs.declared.value.FieldType.TheVariants as types
use Rattle.cl_value.specs.declared.template.Slot.{Slot}
use Rattle.cl_value.specs.declared.template.Slot.TheVariants as slots
use Rattle.cl_log.specs.Numbers.{number, unsigned, signed}
use Rattle.cl_log.specs.Values.{content, content_at, HasBytes, marked, values_of, mark_of, hits_of, slot_of, slots_of, part_of, parts_of, value_at, values_at, hit_at, hits_at, miss_at, misses_at, ready_of, call_at, part_at, parts_at}
use Rattle.cl_log.specs.Spelling.{SlotHasBytes, PartHasBytes}
use Rattle.cl_log.proofs.Numbers.{number-read, signed-again}

-- a value behind its type
pub content-read : (v : Value) (rest : List ℕ) → HasBytes v → content_at (type_of v) (content v ++ rest) ≡ (v, rest)
content-read (values.Int n) rest h =
    let e = number-read (unsigned n) rest (omega arith) in
    let m : unsigned n % 2 ^ 32 ≡ unsigned n = omega arith in
    ap (λ (read : ℕ × List ℕ). (values.Int (signed (read.0 % 2 ^ 32)), read.1)) e ∙ ap (λ x. (values.Int (signed x), rest)) m ∙ ap (λ z. (values.Int z, rest)) (signed-again n)
content-read (values.Long n) rest h =
    let e = number-read (unsigned n) rest h in
    ap (λ (read : ℕ × List ℕ). (values.Long (signed read.0), read.1)) e ∙ ap (λ z. (values.Long z, rest)) (signed-again n)
content-read (values.Char n) rest h =
    let e = number-read n rest (omega arith) in
    let m : n % 256 ≡ n = omega arith in
    ap (λ (read : ℕ × List ℕ). (values.Char (read.0 % 256), read.1)) e ∙ ap (λ x. (values.Char x, rest)) m
content-read (values.Text n) rest h =
    let e = number-read n rest (omega arith) in
    let m : n % 2 ^ 32 ≡ n = omega arith in
    ap (λ (read : ℕ × List ℕ). (values.Text (read.0 % 2 ^ 32), read.1)) e ∙ ap (λ x. (values.Text x, rest)) m

-- a value
pub value-read : (v : Value) (rest : List ℕ) → HasBytes v → value_at (marked 0 v ++ rest) ≡ (v, rest)
unfolding marked value_at
value-read (values.Int n) rest h = content-read (values.Int n) rest h
value-read (values.Long n) rest h = content-read (values.Long n) rest h
value-read (values.Char n) rest h = content-read (values.Char n) rest h
value-read (values.Text n) rest h = content-read (values.Text n) rest h

pub values-read : (vs : List Value) (rest : List ℕ) → AllByRecursion HasBytes vs → values_at (length vs) (values_of vs ++ rest) ≡ (vs, rest)
unfolding values_of values_at
values-read [] rest h = refl
values-read (v ∷ vs) rest h =
    rw append_assoc (rw (value-read v (values_of vs ++ rest) h.0, values-read vs rest h.1) refl)

-- what accepts a value is known by it
pub int_eq-same : (a b : ℤ) → IsTrue (int_eq a b) → a ≡ b
int_eq-same (pos a) (pos b) h = grind (arith, nat_tests)
int_eq-same (pos a) (negsuc b) h = absurd cc
int_eq-same (negsuc a) (pos b) h = absurd cc
int_eq-same (negsuc a) (negsuc b) h = grind (arith, nat_tests)

eq-same : (a b : ℕ) → IsTrue (eqb a b) → a ≡ b
eq-same a b h = grind (arith, nat_tests)

pub same-value : (v w : Value) → IsTrue (same_value v w) → v ≡ w
same-value (values.Int a) (values.Int b) h = ap values.Int (int_eq-same a b h)
same-value (values.Long a) (values.Long b) h = ap values.Long (int_eq-same a b h)
same-value (values.Char a) (values.Char b) h = ap values.Char (eq-same a b h)
same-value (values.Text a) (values.Text b) h = ap values.Text (eq-same a b h)
same-value (values.Int a) (values.Long b) h = absurd cc
same-value (values.Int a) (values.Char b) h = absurd cc
same-value (values.Int a) (values.Text b) h = absurd cc
same-value (values.Long a) (values.Int b) h = absurd cc
same-value (values.Long a) (values.Char b) h = absurd cc
same-value (values.Long a) (values.Text b) h = absurd cc
same-value (values.Char a) (values.Int b) h = absurd cc
same-value (values.Char a) (values.Long b) h = absurd cc
same-value (values.Char a) (values.Text b) h = absurd cc
same-value (values.Text a) (values.Int b) h = absurd cc
same-value (values.Text a) (values.Long b) h = absurd cc
same-value (values.Text a) (values.Char b) h = absurd cc

pub same-type : (a b : FieldType) → IsTrue (same_type a b) → a ≡ b
same-type types.Int types.Int h = refl
same-type types.Long types.Long h = refl
same-type types.Char types.Char h = refl
same-type types.Text types.Text h = refl
same-type types.Int types.Long h = absurd cc
same-type types.Int types.Char h = absurd cc
same-type types.Int types.Text h = absurd cc
same-type types.Long types.Int h = absurd cc
same-type types.Long types.Char h = absurd cc
same-type types.Long types.Text h = absurd cc
same-type types.Char types.Int h = absurd cc
same-type types.Char types.Long h = absurd cc
same-type types.Char types.Text h = absurd cc
same-type types.Text types.Int h = absurd cc
same-type types.Text types.Long h = absurd cc
same-type types.Text types.Char h = absurd cc

-- a value in the place of an actual, and in that of a formal
actual-read : (v : Value) (rest : List ℕ) → HasBytes v → hit_at (marked 0 v ++ rest) ≡ (slots.Actual v, v, rest)
unfolding marked hit_at
actual-read (values.Int n) rest h = ap (λ (read : Value × List ℕ). (slots.Actual read.0, read.0, read.1)) (content-read (values.Int n) rest h)
actual-read (values.Long n) rest h = ap (λ (read : Value × List ℕ). (slots.Actual read.0, read.0, read.1)) (content-read (values.Long n) rest h)
actual-read (values.Char n) rest h = ap (λ (read : Value × List ℕ). (slots.Actual read.0, read.0, read.1)) (content-read (values.Char n) rest h)
actual-read (values.Text n) rest h = ap (λ (read : Value × List ℕ). (slots.Actual read.0, read.0, read.1)) (content-read (values.Text n) rest h)

formal-read : (v : Value) (rest : List ℕ) → HasBytes v → hit_at (marked 128 v ++ rest) ≡ (slots.Formal (type_of v), v, rest)
unfolding marked hit_at
formal-read (values.Int n) rest h = ap (λ (read : Value × List ℕ). (slots.Formal (type_of read.0), read.0, read.1)) (content-read (values.Int n) rest h)
formal-read (values.Long n) rest h = ap (λ (read : Value × List ℕ). (slots.Formal (type_of read.0), read.0, read.1)) (content-read (values.Long n) rest h)
formal-read (values.Char n) rest h = ap (λ (read : Value × List ℕ). (slots.Formal (type_of read.0), read.0, read.1)) (content-read (values.Char n) rest h)
formal-read (values.Text n) rest h = ap (λ (read : Value × List ℕ). (slots.Formal (type_of read.0), read.0, read.1)) (content-read (values.Text n) rest h)

hit-read : (s : Slot) (v : Value) (rest : List ℕ) → IsTrue (accepts s v) → HasBytes v → hit_at (marked (mark_of s) v ++ rest) ≡ (s, v, rest)
hit-read (slots.Actual w) v rest a h = actual-read v rest h ∙ ap (λ x. (slots.Actual x, v, rest)) (sym (same-value w v a))
hit-read (slots.Formal t) v rest a h = formal-read v rest h ∙ ap (λ x. (slots.Formal x, v, rest)) (sym (same-type t (type_of v) a))

and_left : (a b : Bool) → IsTrue (a && b) → IsTrue a
and_left true b h = refl
and_left false b h = absurd cc

and_right : (a b : Bool) → IsTrue (a && b) → IsTrue b
and_right true b h = h
and_right false b h = absurd cc

pub hits-read : (m : List Slot) (t : List Value) (rest : List ℕ) → IsTrue (matches m t) → AllByRecursion HasBytes t → hits_at (length t) (hits_of m t ++ rest) ≡ (m, t, rest)
unfolding hits_of hits_at
hits-read [] [] rest a h = refl
hits-read [] (v ∷ vs) rest a h = absurd cc
hits-read (s ∷ ss) [] rest a h = absurd cc
hits-read (s ∷ ss) (v ∷ vs) rest a h =
    let one = hit-read s v (hits_of ss vs ++ rest) (and_left (accepts s v) (matches ss vs) a) h.0 in
    let more = hits-read ss vs rest (and_right (accepts s v) (matches ss vs) a) h.1 in
    rw append_assoc (rw (one, more) refl)

-- a slot that missed
slot-read : (s : Slot) (rest : List ℕ) → SlotHasBytes s → miss_at (slot_of s ++ rest) ≡ (s, rest)
unfolding slot_of marked miss_at
slot-read (slots.Actual (values.Int n)) rest h = ap (λ (read : Value × List ℕ). (slots.Actual read.0, read.1)) (content-read (values.Int n) rest h)
slot-read (slots.Actual (values.Long n)) rest h = ap (λ (read : Value × List ℕ). (slots.Actual read.0, read.1)) (content-read (values.Long n) rest h)
slot-read (slots.Actual (values.Char n)) rest h = ap (λ (read : Value × List ℕ). (slots.Actual read.0, read.1)) (content-read (values.Char n) rest h)
slot-read (slots.Actual (values.Text n)) rest h = ap (λ (read : Value × List ℕ). (slots.Actual read.0, read.1)) (content-read (values.Text n) rest h)
slot-read (slots.Formal types.Int) rest h = refl
slot-read (slots.Formal types.Long) rest h = refl
slot-read (slots.Formal types.Char) rest h = refl
slot-read (slots.Formal types.Text) rest h = refl

pub slots-read : (ss : List Slot) (rest : List ℕ) → AllByRecursion SlotHasBytes ss → misses_at (length ss) (slots_of ss ++ rest) ≡ (ss, rest)
unfolding slots_of misses_at
slots-read [] rest h = refl
slots-read (s ∷ ss) rest h =
    rw append_assoc (rw (slot-read s (slots_of ss ++ rest) h.0, slots-read ss rest h.1) refl)

-- a call
call-read : (function : ℕ) (arguments : List Value) (gives : FieldType) (rest : List ℕ) → PartHasBytes (Call function arguments gives) → call_at gives ((number function ++ number (length arguments) ++ values_of arguments) ++ rest) ≡ (Call function arguments gives, rest)
unfolding call_at
call-read f vs g rest h =
    let one = number-read f (number (length vs) ++ (values_of vs ++ rest)) (omega arith) in
    let two = number-read (length vs) (values_of vs ++ rest) h.1 in
    let three = values-read vs rest h.2 in
    let m : f % 2 ^ 32 ≡ f = let k = h.0 in omega arith in
    let grouped : (number f ++ number (length vs) ++ values_of vs) ++ rest ≡ number f ++ (number (length vs) ++ (values_of vs ++ rest)) = simp append_assoc in
    ap (call_at g) grouped ∙ rw (one, two, three, m) refl

part-read : (p : PlainPart) (rest : List ℕ) → PartHasBytes p → part_at (part_of p ++ rest) ≡ (p, rest)
unfolding part_of marked part_at
part-read (Ready (values.Int n)) rest h = ap ready_of (content-read (values.Int n) rest h)
part-read (Ready (values.Long n)) rest h = ap ready_of (content-read (values.Long n) rest h)
part-read (Ready (values.Char n)) rest h = ap ready_of (content-read (values.Char n) rest h)
part-read (Ready (values.Text n)) rest h = ap ready_of (content-read (values.Text n) rest h)
part-read (Call f vs types.Int) rest h = call-read f vs types.Int rest h
part-read (Call f vs types.Long) rest h = call-read f vs types.Long rest h
part-read (Call f vs types.Char) rest h = call-read f vs types.Char rest h
part-read (Call f vs types.Text) rest h = call-read f vs types.Text rest h

pub parts-read : (ps : List PlainPart) (rest : List ℕ) → AllByRecursion PartHasBytes ps → parts_at (length ps) (parts_of ps ++ rest) ≡ (ps, rest)
unfolding parts_of parts_at
parts-read [] rest h = refl
parts-read (p ∷ ps) rest h =
    rw append_assoc (rw (part-read p (parts_of ps ++ rest) h.0, parts-read ps rest h.1) refl)
