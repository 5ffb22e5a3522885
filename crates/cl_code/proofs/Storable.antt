-- A set can be made of each shape of a valid program.
use Rattle.std.proofs.Common.{◌≡◌, ℕ, zero, suc, ◌+◌, ◌<◌, true, [], length, map, Some, get_or, refl, ◌∙◌, ap, subst, arith}
use Rattle.std.proofs.lemmas.Bool.{leb-true}
use Rattle.std.proofs.lemmas.List.Elements.{All-from_get_or}
use Rattle.std.proofs.lemmas.Option.{slice_get-get_or}
use Rattle.std.specs.List.{range_with_len}
use Rattle.std.specs.Prelude.{nat_le, slice_get, All}
use Rattle.cl_sig.specs.Numbers.{count_of}
use Rattle.cl_sig.specs.Shapes.{PlainShape, common, shape}
use Rattle.cl_sig.specs.Storable.{IsStorable}
use Rattle.cl_usage.specs.Laws.{HasFields}
use Rattle.cl_usage.proofs.StorableProofs.{shapes_are_storable}
use Rattle.cl_code.specs.Plain.{PlainProgram}
use Rattle.cl_code.specs.Rules.{is_some_up_to, site_is_right, keeps_rules}
use Rattle.cl_code.specs.Starts.{no_set, shapes_of}
use Rattle.cl_code.specs.Valid.{Valid}
use Rattle.cl_code.specs.Meaning.{ProgramsAreStorable}
use Rattle.cl_code.proofs.Flow.{rule_3_at}
use Rattle.cl_code.proofs.Tests.{left, right, has_of}

-- what stands at a number below a count
at_number : {A : Type 0} (f : ℕ → A) (from count i : ℕ) (a : A) → slice_get (map f (range_with_len from count)) i ≡ Some a → (i < count) × (f (from + i) ≡ a)
at_number f from zero i a h = absurd cc
at_number f from (suc count) zero a h = let same : f from ≡ a = cc in (omega arith, ap f (omega arith) ∙ same)
at_number f from (suc count) (suc i) a h =
    let later = at_number f (from + 1) count i a h in
    (omega (arith, later.0), ap f (omega arith) ∙ later.1)

no_set_storable : IsStorable no_set
no_set_storable = record { some = omega arith; few = omega arith; class = refl }

-- each site has 1 to 16 fields
has_fields : (p : PlainProgram) → keeps_rules p ≡ true → All HasFields p.sites
has_fields p rules =
    All-from_get_or HasFields p.sites (common [])
    (λ i low.
    let s = get_or p.sites i (common []) in
    let one = has_of (site_is_right p i) (slice_get p.sites i) s (slice_get-get_or p.sites i (common []) low) (rule_3_at p rules i low) in
    let counts = left (is_some_up_to 16 s.fields) _ one in
    record { some = leb-true 1 (length s.fields) (left (nat_le 1 (length s.fields)) _ counts); few = leb-true (length s.fields) 16 (right (nat_le 1 (length s.fields)) _ counts) })

each_storable : (p : PlainProgram) → Valid p → (count : ℕ) → count ≡ count_of p.sets → (set : ℕ) (s : PlainShape) → slice_get (shapes_of p count) set ≡ Some s → IsStorable s
each_storable p valid zero e zero s h = let same : no_set ≡ s = cc in subst IsStorable same no_set_storable
each_storable p valid zero e (suc set) s h = absurd cc
each_storable p valid (suc count) e set s h =
    let found = at_number (shape p.sites p.sets) 0 (suc count) set s h in
    let low : set < count_of p.sets = omega (arith, found.0, e) in
    subst IsStorable (ap (shape p.sites p.sets) (omega arith) ∙ found.1) (shapes_are_storable p.sites p.sets valid.sets (has_fields p valid.rules) set low)

pub programs_are_storable : ProgramsAreStorable
programs_are_storable p valid set s h = each_storable p valid (count_of p.sets) refl set s h
