use Rattle.std.proofs.Common.{◌<◌, ℕ, List, length, nat_eq, arith, Bor, Option}
use Rattle.std.specs.Cmp.Lexicographic.{pointwise}
use Rattle.std.specs.HashMap.{get}
use Rattle.cl_types.proofs.Lookups.{popped, is_found, ok_unless, one_more}
use Rattle.cl_types.proofs.scopes.Scopes.forget.Goals as goal

pub invariant_of-self : goal.invariant_of-self
invariant_of-self c =
    let f : Bor (List ℕ) → Option (Option ℕ) = λ q. get (λ a b. pointwise nat_eq a.now b.now) c.self.inside.newest q in
    let g : Bor (List ℕ) → Option (Option ℕ) = λ q. get (λ a b. pointwise nat_eq a.now b.now) c.insert.new.self q in
    let is = one_more c.self.inside.entries.items c.pop.new.self.items c.pop.result c.in-Some.field-0 c.pop.ensures.items c.in-Some.is in
    let updates = ok_unless _ _ c.insert.result c.insert.ensures.updates c.insert.ensures.absent (is_found c.self.inside.start c.self.inside.entries.items c.pop.new.self.items c.in-Some.field-0 f is c.self.invariant) in
    let more : c.self.inside.start < length c.self.inside.entries.items = omega (arith, c.if-len-self.false, c.len.ensures, c.self.inside.entries.ok.0) in
    popped c.self.inside.start c.self.inside.entries.items c.pop.new.self.items c.in-Some.field-0 f g is more c.self.invariant updates.0

pub invariant_of-self-in-Some-2 : goal.invariant_of-self-in-Some-2
invariant_of-self-in-Some-2 c =
    let f : Bor (List ℕ) → Option (Option ℕ) = λ q. get (λ a b. pointwise nat_eq a.now b.now) c.self.inside.newest q in
    let g : Bor (List ℕ) → Option (Option ℕ) = λ q. get (λ a b. pointwise nat_eq a.now b.now) c.insert.new.self q in
    let is = one_more c.self.inside.entries.items c.pop.new.self.items c.pop.result c.in-Some.field-0 c.pop.ensures.items c.in-Some.is in
    let updates = ok_unless _ _ c.insert.result c.insert.ensures.updates c.insert.ensures.absent (is_found c.self.inside.start c.self.inside.entries.items c.pop.new.self.items c.in-Some.field-0 f is c.self.invariant) in
    let more : c.self.inside.start < length c.self.inside.entries.items = omega (arith, c.if-len-self.false, c.len.ensures, c.self.inside.entries.ok.0) in
    popped c.self.inside.start c.self.inside.entries.items c.pop.new.self.items c.in-Some.field-0 f g is more c.self.invariant updates.0
