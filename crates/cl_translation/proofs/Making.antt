-- Code that is written behind other code: one instruction, an open jump, two parts one after the other, and open jumps that are set.
use Rattle.std.proofs.Common.{◌≡◌, ◌⊎◌, ℕ, suc, ◌<◌, ◌≤◌, List, [], ◌∷◌, ◌++◌, length, Some, refl, sym, ap, subst, ◌∙◌, arith, length-append, inl, inr, ⊎_elim}
use Rattle.std.specs.Prelude.{slice_get, option_map}
use Rattle.cl_code.specs.Plain.{PlainProgram}
use Rattle.cl_code.specs.declared.instr.Instr.{Instr}
use Rattle.cl_translation.specs.Lying.{Lies}
use Rattle.cl_translation.specs.Made.{Written, behind, IsHole, aimed, Agrees, Made}
use Rattle.cl_translation.proofs.Lists.{get_behind, get_front}

-- ---- holes of two lists

pub hole_left : (xs ys : List ℕ) (k : ℕ) → IsHole xs k → IsHole (xs ++ ys) k
hole_left [] ys k h = absurd h
hole_left (x ∷ xs) ys k h = ⊎_elim (λ e. inl e) (λ more. inr (hole_left xs ys k more)) h

pub hole_right : (xs ys : List ℕ) (k : ℕ) → IsHole ys k → IsHole (xs ++ ys) k
hole_right [] ys k h = h
hole_right (x ∷ xs) ys k h = inr (hole_right xs ys k h)

pub hole_of : (xs ys : List ℕ) (k : ℕ) → IsHole (xs ++ ys) k → IsHole xs k ⊎ IsHole ys k
hole_of [] ys k h = inr h
hole_of (x ∷ xs) ys k h = ⊎_elim (λ e. inl (inl e)) (λ more. ⊎_elim (λ l. inl (inr l)) (λ r. inr r) (hole_of xs ys k more)) h

-- ---- one instruction

-- what was written, with one instruction more
pub record OneMore (before after : Written) (n : ℕ) (i : Instr) : Type 0 where
  pub code : after.code ≡ before.code ++ i ∷ []
  pub heights : after.heights ≡ before.heights ++ n ∷ []
  pub even : length before.heights ≡ length before.code

module _ (before after : Written) (n : ℕ) (i : Instr) (h : OneMore before after n i) where
  pub longer_by_one : behind after ≡ suc (behind before)
  longer_by_one = omega (arith, ap length h.code, length-append before.code (i ∷ []))

  even_after : length after.heights ≡ behind after
  even_after = omega (arith, ap length h.heights, length-append before.heights (n ∷ []), longer_by_one, h.even)

  kept_code : (k : ℕ) → k < behind before → slice_get after.code k ≡ slice_get before.code k
  kept_code k lt = ap (λ l. slice_get l k) h.code ∙ get_front before.code (i ∷ []) k lt

  kept_height : (k : ℕ) → k < behind before → slice_get after.heights k ≡ slice_get before.heights k
  kept_height k lt = ap (λ l. slice_get l k) h.heights ∙ get_front before.heights (n ∷ []) k (omega (arith, lt, h.even))

  last_code : slice_get after.code (behind before) ≡ Some i
  last_code = ap (λ l. slice_get l (behind before)) h.code ∙ get_behind before.code (i ∷ []) (behind before) 0 (omega arith)

  last_height : slice_get after.heights (behind before) ≡ Some n
  last_height = ap (λ l. slice_get l (behind before)) h.heights ∙ get_behind before.heights (n ∷ []) (behind before) 0 (omega (arith, h.even))

  last_within : behind before < behind after
  last_within = omega (arith, longer_by_one)

  -- it stands there in each program that agrees
  stands : (p : PlainProgram) → Agrees p after (behind before) [] → Lies p n (behind before) i
  stands p agrees =
      let there = agrees (behind before) (omega arith) last_within in
      record { here = there.1 (λ none. none) ∙ last_code; height = there.0 ∙ last_height }

  pub made_one : (Is : PlainProgram → ℕ → ℕ → ℕ → ℕ → Type 0) → ((p : PlainProgram) (one other a : ℕ) → Lies p n a i → Is p one other a (suc a)) → Made before after [] [] Is
  made_one Is go = record {
    longer = omega (arith, longer_by_one);
    even = λ _. even_after;
    kept = λ k lt. (kept_code k lt, kept_height k lt);
    within = λ k none. absurd none;
    apart = λ k none none'. none;
    made = λ p one other agrees first second. subst (λ b. Is p one other (behind before) b) (sym longer_by_one) (go p one other (behind before) (stands p agrees));
  }

  -- a jump that is open: to the first address
  pub made_open : (Is : PlainProgram → ℕ → ℕ → ℕ → ℕ → Type 0) → ((p : PlainProgram) (one other a : ℕ) → Lies p n a (aimed one i) → Is p one other a (suc a)) → Made before after (behind before ∷ []) [] Is
  made_open Is go = record {
    longer = omega (arith, longer_by_one);
    even = λ _. even_after;
    kept = λ k lt. (kept_code k lt, kept_height k lt);
    within = λ k h'. ⊎_elim (λ e. (omega (arith, e), omega (arith, e, longer_by_one))) (λ none. absurd none) h';
    apart = λ k h' none. none;
    made = λ p one other agrees first second. subst (λ b. Is p one other (behind before) b) (sym longer_by_one) (go p one other (behind before) (record {
      here = first (behind before) (inl refl) ∙ ap (λ o. option_map (aimed one) o) last_code;
      height = (agrees (behind before) (omega arith) last_within).0 ∙ last_height;
    }));
  }

-- ---- the two addresses may be exchanged

pub made_exchanged : (before after : Written) (ones others : List ℕ) (Is : PlainProgram → ℕ → ℕ → ℕ → ℕ → Type 0) → Made before after ones others Is → Made before after others ones (λ p one other a b. Is p other one a b)
made_exchanged before after ones others Is h = record {
  longer = h.longer;
  even = h.even;
  kept = h.kept;
  within = λ k there. h.within k (other_way k there);
  apart = λ k first second. h.apart k second first;
  made = λ p one other agrees first second. h.made p other one (λ k le lt. ((agrees k le lt).0, λ none. (agrees k le lt).1 (λ there. none (other_way k there)))) second first;
}
  where
    other_way : (k : ℕ) → IsHole (others ++ ones) k → IsHole (ones ++ others) k
    other_way k there = ⊎_elim (λ l. hole_right ones others k l) (λ r. hole_left ones others k r) (hole_of others ones k there)

-- ---- one part behind another

module _ (before between after : Written) (ones others ones' others' : List ℕ) (One Two Is : PlainProgram → ℕ → ℕ → ℕ → ℕ → Type 0) (h : Made before between ones others One) (k : Made between after ones' others' Two) where
  -- a hole of the whole is one of the first part, or of the second
  parted : (m : ℕ) → IsHole ((ones ++ ones') ++ (others ++ others')) m → IsHole (ones ++ others) m ⊎ IsHole (ones' ++ others') m
  parted m there = ⊎_elim
      (λ first. ⊎_elim (λ l. inl (hole_left ones others m l)) (λ r. inr (hole_left ones' others' m r)) (hole_of ones ones' m first))
      (λ second. ⊎_elim (λ l. inl (hole_right ones others m l)) (λ r. inr (hole_right ones' others' m r)) (hole_of others others' m second))
      (hole_of (ones ++ ones') (others ++ others') m there)

  all_within : (m : ℕ) → IsHole ((ones ++ ones') ++ (others ++ others')) m → (behind before ≤ m) × (m < behind after)
  all_within m there = ⊎_elim (λ l. ((h.within m l).0, omega (arith, (h.within m l).1, k.longer))) (λ r. (omega (arith, (k.within m r).0, h.longer), (k.within m r).1)) (parted m there)

  all_apart : (m : ℕ) → IsHole (ones ++ ones') m → IsHole (others ++ others') m → ⊥
  all_apart m first second = ⊎_elim
      (λ l. ⊎_elim (λ l'. h.apart m l l') (λ r'. omega (arith, (h.within m (hole_left ones others m l)).1, (k.within m (hole_right ones' others' m r')).0)) (hole_of others others' m second))
      (λ r. ⊎_elim (λ l'. omega (arith, (h.within m (hole_right ones others m l')).1, (k.within m (hole_left ones' others' m r)).0)) (λ r'. k.apart m r r') (hole_of others others' m second))
      (hole_of ones ones' m first)

  first_agrees : (p : PlainProgram) → Agrees p after (behind before) ((ones ++ ones') ++ (others ++ others')) → Agrees p between (behind before) (ones ++ others)
  first_agrees p agrees m le lt =
      let there = agrees m le (omega (arith, lt, k.longer)) in
      (there.0 ∙ (k.kept m lt).1, λ none. there.1 (λ hole. ⊎_elim none (λ r. omega (arith, (k.within m r).0, lt)) (parted m hole)) ∙ (k.kept m lt).0)

  second_agrees : (p : PlainProgram) → Agrees p after (behind before) ((ones ++ ones') ++ (others ++ others')) → Agrees p after (behind between) (ones' ++ others')
  second_agrees p agrees m le lt =
      let there = agrees m (omega (arith, le, h.longer)) lt in
      (there.0, λ none. there.1 (λ hole. ⊎_elim (λ l. omega (arith, (h.within m l).1, le)) none (parted m hole)))

  pub made_both : ((p : PlainProgram) (one other a b c : ℕ) → One p one other a b → Two p one other b c → Is p one other a c) → Made before after (ones ++ ones') (others ++ others') Is
  made_both go = record {
    longer = omega (arith, h.longer, k.longer);
    even = λ e. k.even (h.even e);
    kept = λ m lt. ((k.kept m (omega (arith, lt, h.longer))).0 ∙ (h.kept m lt).0, (k.kept m (omega (arith, lt, h.longer))).1 ∙ (h.kept m lt).1);
    within = all_within;
    apart = all_apart;
    made = λ p one other agrees first second. go p one other (behind before) (behind between) (behind after)
        (h.made p one other (first_agrees p agrees)
        (λ m there. first m (hole_left ones ones' m there) ∙ ap (λ o. option_map (aimed one) o) (k.kept m (h.within m (hole_left ones others m there)).1).0)
        (λ m there. second m (hole_left others others' m there) ∙ ap (λ o. option_map (aimed other) o) (k.kept m (h.within m (hole_right ones others m there)).1).0))
        (k.made p one other (second_agrees p agrees) (λ m there. first m (hole_right ones ones' m there)) (λ m there. second m (hole_right others others' m there)));
  }

-- ---- open jumps are set

-- the same code, but that at these holes it jumps to this address
pub record IsSet (was now : Written) (holes : List ℕ) (to : ℕ) : Type 0 where
  pub long : behind now ≡ behind was
  pub heights : now.heights ≡ was.heights
  pub aims : (k : ℕ) → IsHole holes k → slice_get now.code k ≡ option_map (aimed to) (slice_get was.code k)
  pub others : (k : ℕ) → (IsHole holes k → ⊥) → slice_get now.code k ≡ slice_get was.code k

pub made_set : (before was now : Written) (ones others : List ℕ) (to : ℕ) (Is : PlainProgram → ℕ → ℕ → ℕ → ℕ → Type 0) → Made before was ones others Is → IsSet was now ones to → Made before now [] others (λ p one other a b. Is p to other a b)
made_set before was now ones others to Is h set = record {
  longer = omega (arith, h.longer, set.long);
  even = λ e. ap length set.heights ∙ (h.even e ∙ sym set.long);
  kept = λ k lt. (set.others k (λ there. omega (arith, lt, (h.within k (hole_left ones others k there)).0)) ∙ (h.kept k lt).0, ap (λ l. slice_get l k) set.heights ∙ (h.kept k lt).1);
  within = λ k there. ((h.within k (hole_right ones others k there)).0, omega (arith, (h.within k (hole_right ones others k there)).1, set.long));
  apart = λ k none there. none;
  made = λ p one other agrees first second. subst (λ b. Is p to other (behind before) b) (sym set.long) (h.made p to other
      (λ k le lt. (
        (agrees k le (omega (arith, lt, set.long))).0 ∙ ap (λ l. slice_get l k) set.heights,
        λ none. (agrees k le (omega (arith, lt, set.long))).1 (λ there. none (hole_right ones others k there)) ∙ set.others k (λ there. none (hole_left ones others k there)),
      ))
      (λ k there. (agrees k (h.within k (hole_left ones others k there)).0 (omega (arith, (h.within k (hole_left ones others k there)).1, set.long))).1 (λ there'. h.apart k there there') ∙ set.aims k there)
      (λ k there. second k there ∙ ap (λ o. option_map (aimed other) o) (set.others k (λ there'. h.apart k there' there))));
}
