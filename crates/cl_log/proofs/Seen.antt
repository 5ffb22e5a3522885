-- Live tuples that are read in two lists are the live tuples.
use Rattle.std.proofs.Common.{◌≡◌, ℕ, zero, suc, ◌+◌, nat_lt, if◌then◌else◌, true, false, List, [], ◌∷◌, ◌++◌, take, drop, length, length-append, refl, sym, ap, ◌∙◌, arith}
use Rattle.std.proofs.Math.Seq.{take-append_seam, drop-append_seam}
use Rattle.cl_value.specs.Plain as plain
use Rattle.cl_value.specs.Plain.{PlainPart}
use Rattle.cl_value.specs.declared.value.Value.{Value}
use Rattle.cl_log.specs.Numbers.{number_at}
use Rattle.cl_log.specs.Values.{type_at, content_at, value_at, values_at, ready_of, call_at, part_at, parts_at}
use Rattle.cl_log.specs.declared.part.SeenPart.{SeenPart}
use Rattle.cl_log.specs.declared.part.SeenPart.TheVariants as seen
use Rattle.cl_log.specs.Seen.{with_arguments, arguments_in, ready_seen, call_seen, part_seen, parts_seen}

-- as many values as were asked for
pub values_count : (n : ℕ) (bytes : List ℕ) → length (values_at n bytes).0 ≡ n
unfolding values_at
values_count zero bytes = refl
values_count (suc n) bytes = ap suc (values_count n (value_at bytes).1)

-- a field with its own arguments
abbrev part_with : SeenPart → List Value → PlainPart
part_with (seen.Ready value) arguments = plain.Ready value
part_with (seen.Call function count gives) arguments = plain.Call function arguments gives

-- they are as many as it says
abbrev HasAll : SeenPart → List Value → Type 0
HasAll (seen.Ready value) arguments = arguments ≡ []
HasAll (seen.Call function count gives) arguments = length arguments ≡ count

part_has : (bytes : List ℕ) → HasAll (part_seen bytes).0 (part_seen bytes).1
unfolding part_seen call_seen
part_has [] = refl
part_has (byte ∷ bytes) =
    elim (nat_lt byte 128) as (λ b. HasAll (if b then ready_seen (content_at (type_at byte) bytes) else call_seen (type_at byte) bytes).0 (if b then ready_seen (content_at (type_at byte) bytes) else call_seen (type_at byte) bytes).1) [ true ↦ refl | false ↦ values_count (number_at (number_at bytes).1).0 (number_at (number_at bytes).1).1 ]

part_is : (bytes : List ℕ) → part_at bytes ≡ (part_with (part_seen bytes).0 (part_seen bytes).1, (part_seen bytes).2)
unfolding part_at part_seen call_at call_seen
part_is [] = refl
part_is (byte ∷ bytes) =
    elim (nat_lt byte 128) as (λ b. (if b then ready_of (content_at (type_at byte) bytes) else call_at (type_at byte) bytes)
    ≡ (part_with (if b then ready_seen (content_at (type_at byte) bytes) else call_seen (type_at byte) bytes).0 (if b then ready_seen (content_at (type_at byte) bytes) else call_seen (type_at byte) bytes).1, (if b then ready_seen (content_at (type_at byte) bytes) else call_seen (type_at byte) bytes).2)) [ true ↦ refl | false ↦ refl ]

-- a field takes its own arguments, and leaves the others
one_more : (p : SeenPart) (own : List Value) (parts : List SeenPart) (others : List Value) → HasAll p own → with_arguments (p ∷ parts) (own ++ others) ≡ part_with p own ∷ with_arguments parts others
one_more (seen.Ready value) [] parts others has = refl
one_more (seen.Ready value) (x ∷ xs) parts others has =
    let e : suc (length xs) ≡ 0 = ap length has in
    absurd (omega (arith, e))
one_more (seen.Call function count gives) own parts others has =
    let all : take count (own ++ others) ≡ own = ap (λ n. take n (own ++ others)) (sym has) ∙ take-append_seam own others in
    let rest : drop count (own ++ others) ≡ others = ap (λ n. drop n (own ++ others)) (sym has) ∙ drop-append_seam own others in
    ap (λ arguments. plain.Call function arguments gives ∷ with_arguments parts (drop count (own ++ others))) all ∙ ap (λ more. plain.Call function own gives ∷ with_arguments parts more) rest

-- what is read in two lists is what is read
pub parts_is : (n : ℕ) (bytes : List ℕ) → parts_at n bytes ≡ (with_arguments (parts_seen n bytes).0 (parts_seen n bytes).1, (parts_seen n bytes).2)
unfolding parts_at parts_seen
parts_is zero bytes = refl
parts_is (suc n) bytes =
    let p = part_seen bytes in
    ap (λ (one : PlainPart × List ℕ). (one.0 ∷ (parts_at n one.1).0, (parts_at n one.1).1)) (part_is bytes)
    ∙ (ap (λ (rest : List PlainPart × List ℕ). (part_with p.0 p.1 ∷ rest.0, rest.1)) (parts_is n p.2)
    ∙ ap (λ (parts : List PlainPart). (parts, (parts_seen n p.2).2)) (sym (one_more p.0 p.1 (parts_seen n p.2).0 (parts_seen n p.2).1 (part_has bytes))))

-- a field has its own arguments, and no more
one_count : (p : SeenPart) (own : List Value) (rest : List PlainPart) → HasAll p own → arguments_in (part_with p own ∷ rest) ≡ length own + arguments_in rest
one_count (seen.Ready value) own rest has = let e : length own ≡ 0 = ap length has in omega (arith, e)
one_count (seen.Call function count gives) own rest has = refl

-- as many arguments are read as the fields have
pub arguments_count : (n : ℕ) (bytes : List ℕ) → length (parts_seen n bytes).1 ≡ arguments_in (parts_at n bytes).0
unfolding parts_at parts_seen
arguments_count zero bytes = refl
arguments_count (suc n) bytes =
    let p = part_seen bytes in
    let front : (part_at bytes ≡ (part_with p.0 p.1, p.2)) = part_is bytes in
    length-append p.1 (parts_seen n p.2).1
    ∙ (ap (λ k. length p.1 + k) (arguments_count n p.2)
    ∙ (sym (one_count p.0 p.1 (parts_at n p.2).0 (part_has bytes))
    ∙ ap (λ (one : PlainPart × List ℕ). arguments_in (one.0 ∷ (parts_at n one.1).0)) (sym front)))
