-- A comment ends at its first `*/`, and a tail goes on behind it.
use Rattle.std.proofs.Common.{◌≡◌, ◌≢◌, ◌<◌, arith, length, ℕ, Bool, true, false, eqb, not, ◌&&◌, List, [], ◌∷◌, Option, Some, None, refl, sym, ap, ◌∙◌, inl, inr}
use Rattle.std.proofs.lemmas.Bool.{cases_Bool, eqb-true, ne_eqb}
use Rattle.cl_ast.specs.declared.fault.LexKind.TheVariants as faults
use Rattle.cl_ast.specs.Bytes.{is_line_end, is_blank}
use Rattle.cl_ast.specs.Rows.{after_close, after_run}
use Rattle.cl_ast.specs.Ends.{LineEnd, LineEnds, LineFails, NoLine, tail_on, tail_end}

-- a tail behind the end of a comment, if it has one
abbrev pub behind_comment : List ℕ → Option (List ℕ) → LineEnd
behind_comment start None = LineFails faults.OpenComment start
behind_comment start (Some rest) = tail_on None rest

true_is_false : ◌≡◌ {A = Bool} true false → ⊥
true_is_false e = cc

pub inside_is : (start bytes : List ℕ) → tail_on (Some start) bytes ≡ behind_comment start (after_close bytes)
inside_is start [] = refl
inside_is start (byte ∷ []) =
    elim (cases_Bool (eqb byte 42)) [
      | inl t ↦ rw t refl
      | inr f ↦ rw f refl
    ]
inside_is start (byte ∷ next ∷ bytes) =
    elim (cases_Bool (eqb byte 42 && eqb next 47)) [
      | inl t ↦ rw t refl
      | inr f ↦ rw f (inside_is start (next ∷ bytes))
    ]

-- a block comment that ends
pub block_ends : (bytes rest : List ℕ) → Some rest ≡ after_close bytes → tail_end (47 ∷ 42 ∷ bytes) ≡ tail_end rest
unfolding tail_end
block_ends bytes rest e = inside_is (47 ∷ 42 ∷ bytes) bytes ∙ ap (behind_comment (47 ∷ 42 ∷ bytes)) (sym e)

-- and one that doesn't
pub block_opens : (bytes : List ℕ) → ◌≡◌ {A = Option (List ℕ)} None (after_close bytes) → tail_end (47 ∷ 42 ∷ bytes) ≡ LineFails faults.OpenComment (47 ∷ 42 ∷ bytes)
unfolding tail_end
block_opens bytes e = inside_is (47 ∷ 42 ∷ bytes) bytes ∙ ap (behind_comment (47 ∷ 42 ∷ bytes)) (sym e)

pub line_is : (bytes : List ℕ) → tail_end (47 ∷ 47 ∷ bytes) ≡ LineEnds (after_run (λ b. not (is_line_end b)) bytes)
unfolding tail_end
line_is bytes = refl

pub slash_alone : (bytes : List ℕ) → length bytes < 1 → tail_end (47 ∷ bytes) ≡ NoLine
unfolding tail_end
slash_alone [] none = refl
slash_alone (byte ∷ bytes) none = absurd (omega arith)

pub slash_is : (next : ℕ) (bytes : List ℕ) → next ≢ 47 → next ≢ 42 → tail_end (47 ∷ next ∷ bytes) ≡ NoLine
unfolding tail_end
slash_is next bytes a b = rw (ne_eqb next 47 a, ne_eqb next 42 b) refl

pub blank_in_line : (byte : ℕ) → is_blank byte ≡ true → is_line_end byte ≡ false
blank_in_line byte blank =
    elim (cases_Bool (is_line_end byte)) [
      | inl t ↦ let ten : byte ≡ 10 = eqb-true byte 10 t in absurd (true_is_false (sym (rw ten at blank)))
      | inr f ↦ f
    ]

pub blank_is : (byte : ℕ) (bytes : List ℕ) → is_blank byte ≡ true → tail_end (byte ∷ bytes) ≡ tail_end bytes
unfolding tail_end
blank_is byte [] blank = rw (blank_in_line byte blank, blank) refl
blank_is byte (next ∷ bytes) blank = rw (blank_in_line byte blank, blank) refl

pub end_is : (bytes : List ℕ) → tail_end (10 ∷ bytes) ≡ LineEnds (10 ∷ bytes)
unfolding tail_end
end_is [] = refl
end_is (next ∷ bytes) = refl

pub nothing : (bytes : List ℕ) → length bytes < 1 → tail_end bytes ≡ LineEnds bytes
unfolding tail_end
nothing [] none = refl
nothing (byte ∷ bytes) none = absurd (omega arith)

pub other_is : (byte : ℕ) (bytes : List ℕ) → byte ≢ 10 → is_blank byte ≡ false → byte ≢ 47 → tail_end (byte ∷ bytes) ≡ NoLine
unfolding tail_end
other_is byte [] a b s = rw (ne_eqb byte 10 a, b) refl
other_is byte (next ∷ bytes) a b s = rw (ne_eqb byte 10 a, b, ne_eqb byte 47 s) refl
