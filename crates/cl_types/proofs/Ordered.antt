-- The faults in order: they rise, and are those that the walk finds.
use Rattle.std.proofs.Common.{◌≡◌, ◌∙◌, ap, refl, Bool, true, false, List, [], ◌∷◌, inl, inr}
use Rattle.std.proofs.lemmas.Bool.{cases_Bool}
use Rattle.std.specs.Prelude.{◌&&◌, ◌⊎◌, ◌↔◌, if◌then◌else◌}
use Rattle.cl_ast.specs.declared.statement.Item.{Item}
use Rattle.cl_types.specs.declared.fault.Fault.{Fault}
use Rattle.cl_types.specs.Faults.{comes_before, put, in_order, rises_from, rises, Among}
use Rattle.cl_types.specs.Unit.{collected, faults}
use Rattle.cl_types.proofs.Firsts.{alike}

-- ---- they rise

both : (a b : Bool) → a ≡ true → b ≡ true → (a && b) ≡ true
both a b ha hb = ap (λ x. x && b) ha ∙ hb

left_of : (a b : Bool) → (a && b) ≡ true → a ≡ true
left_of true b h = refl
left_of false b h = h

right_of : (a b : Bool) → (a && b) ≡ true → b ≡ true
right_of true b h = h
right_of false b h = cc

put_from : (e f : Fault) (gs : List Fault) → rises_from e gs ≡ true → comes_before e f ≡ true → rises_from e (put f gs) ≡ true
put_from e f [] h k = both (comes_before e f) true k refl
put_from e f (g ∷ gs) h k =
    elim (cases_Bool (comes_before f g)) [
      | inl x ↦ rw x (both (comes_before e f) (comes_before f g && rises_from g gs) k (both (comes_before f g) (rises_from g gs) x (right_of (comes_before e g) (rises_from g gs) h)))
      | inr x ↦
          elim (cases_Bool (comes_before g f)) [
            | inl y ↦
                rw (x, y)
                (both (comes_before e g) (rises_from g (put f gs)) (left_of (comes_before e g) (rises_from g gs) h) (put_from g f gs (right_of (comes_before e g) (rises_from g gs) h) y))
            | inr y ↦ rw (x, y) h
          ]
    ]

put_rises : (f : Fault) (gs : List Fault) → rises gs ≡ true → rises (put f gs) ≡ true
put_rises f [] h = refl
put_rises f (g ∷ gs) h =
    elim (cases_Bool (comes_before f g)) [
      | inl x ↦ rw x (both (comes_before f g) (rises_from g gs) x h)
      | inr x ↦
          elim (cases_Bool (comes_before g f)) [
            | inl y ↦ rw (x, y) (put_from g f gs h y)
            | inr y ↦ rw (x, y) h
          ]
    ]

order_rises : (fs : List Fault) → rises (in_order fs) ≡ true
order_rises [] = refl
order_rises (f ∷ fs) = put_rises f (in_order fs) (order_rises fs)

pub faults_rise : (xs : List Item) → rises (faults xs) ≡ true
unfolding faults
faults_rise xs = order_rises (collected xs)

-- ---- the same faults

abbrev placed : Bool → Bool → Fault → Fault → List Fault → List Fault
placed a b f g gs = if a then f ∷ g ∷ gs else (if b then g ∷ put f gs else g ∷ gs)

out_of : (x f g : Fault) (gs : List Fault) (a b : Bool) → (Among x (put f gs) → (x ≡ f) ⊎ Among x gs) → Among x (placed a b f g gs) → (x ≡ f) ⊎ ((x ≡ g) ⊎ Among x gs)
out_of x f g gs true b ih m = m
out_of x f g gs false true ih (inl e) = inr (inl e)
out_of x f g gs false true ih (inr m) =
    elim (ih m) [
      | inl e ↦ inl e
      | inr k ↦ inr (inr k)
    ]
out_of x f g gs false false ih m = inr m

out_of_put : (x f : Fault) (gs : List Fault) → Among x (put f gs) → (x ≡ f) ⊎ Among x gs
out_of_put x f [] m = m
out_of_put x f (g ∷ gs) m = out_of x f g gs (comes_before f g) (comes_before g f) (out_of_put x f gs) m

into : (x f g : Fault) (gs : List Fault) (a b : Bool) → comes_before f g ≡ a → comes_before g f ≡ b → ((x ≡ f) ⊎ Among x gs → Among x (put f gs)) → (x ≡ f) ⊎ ((x ≡ g) ⊎ Among x gs) →
    Among x (placed a b f g gs)
into x f g gs true b ha hb ih m = m
into x f g gs false true ha hb ih (inl e) = inr (ih (inl e))
into x f g gs false true ha hb ih (inr (inl e)) = inl e
into x f g gs false true ha hb ih (inr (inr m)) = inr (ih (inr m))
into x f g gs false false ha hb ih (inl e) = inl (e ∙ alike f g ha hb)
into x f g gs false false ha hb ih (inr m) = m

into_put : (x f : Fault) (gs : List Fault) → (x ≡ f) ⊎ Among x gs → Among x (put f gs)
into_put x f [] m = m
into_put x f (g ∷ gs) m = into x f g gs (comes_before f g) (comes_before g f) refl refl (into_put x f gs) m

out_of_order : (x : Fault) (fs : List Fault) → Among x (in_order fs) → Among x fs
out_of_order x [] m = m
out_of_order x (f ∷ fs) m =
    elim (out_of_put x f (in_order fs) m) [
      | inl e ↦ inl e
      | inr k ↦ inr (out_of_order x fs k)
    ]

into_order : (x : Fault) (fs : List Fault) → Among x fs → Among x (in_order fs)
into_order x [] m = m
into_order x (f ∷ fs) (inl e) = into_put x f (in_order fs) (inl e)
into_order x (f ∷ fs) (inr m) = into_put x f (in_order fs) (inr (into_order x fs m))

pub faults_members : (xs : List Item) (fault : Fault) → Among fault (faults xs) ↔ Among fault (collected xs)
unfolding faults
faults_members xs fault = (out_of_order fault (collected xs), into_order fault (collected xs))
