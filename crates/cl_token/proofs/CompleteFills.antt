-- What separates tokens is what a step reads.
use Rattle.std.proofs.Common.{◌≡◌, ℕ, Bool, true, false, eqb, not, ◌&&◌, List, [], ◌∷◌, ◌++◌, Some, refl, sym, ap, ◌∙◌, inl, inr, append_assoc}
use Rattle.std.proofs.lemmas.Bool.{cases_Bool, or_parts, not-true}
use Rattle.cl_ast.specs.Plain.{PlainToken}
use Rattle.cl_ast.specs.Bytes.{is_line_end, begins_with}
use Rattle.cl_ast.specs.Rows.{after_close, after_run}
use Rattle.cl_ast.specs.Pieces.{Filler, Separator, Block, Line, Fills, filler_spelling, is_filler, filler_goes_on, closes, fresh_behind}
use Rattle.cl_token.specs.Scanning.{Goes, step, block_step, step_at}
use Rattle.cl_token.proofs.Runs.{after_whole}
use Rattle.cl_token.proofs.CompleteBytes.{at_separator}

-- a `*/` at the front of a text with `*/` behind it
begins_same : (text rest : List ℕ) → begins_with (λ b. eqb b 47) text ≡ false → begins_with (λ b. eqb b 47) (text ++ 42 ∷ 47 ∷ rest) ≡ false
begins_same [] rest f = refl
begins_same (byte ∷ text) rest f = f

-- a text with no `*/` in it ends at the first `*/`
pub closes_at : (text rest : List ℕ) → closes text ≡ false → after_close (text ++ 42 ∷ 47 ∷ rest) ≡ Some rest
closes_at [] rest unclosed = refl
closes_at (byte ∷ text) rest unclosed =
    let both = or_parts (eqb byte 42 && begins_with (λ b. eqb b 47) text) (closes text) unclosed in
    elim (cases_Bool (eqb byte 42)) [
      | inl star ↦
          let f : begins_with (λ b. eqb b 47) text ≡ false = sym (ap (λ (x : Bool). x && begins_with (λ b. eqb b 47) text) star) ∙ both.0 in
          let g = begins_same text rest f in
          rw (star, g) (closes_at text rest both.1)
      | inr other ↦ rw other (closes_at text rest both.1)
    ]

pub at_slash_star : (total : ℕ) (tokens : List PlainToken) (fresh : Bool) (bytes : List ℕ) → step total tokens fresh 47 (42 ∷ bytes) ≡ block_step tokens (47 ∷ 42 ∷ bytes) (after_close bytes)
unfolding step
at_slash_star total tokens true bytes = refl
at_slash_star total tokens false bytes = refl

pub at_slashes : (total : ℕ) (tokens : List PlainToken) (fresh : Bool) (bytes : List ℕ) → step total tokens fresh 47 (47 ∷ bytes) ≡ Goes tokens false (after_run (λ byte. not (is_line_end byte)) bytes)
unfolding step
at_slashes total tokens true bytes = refl
at_slashes total tokens false bytes = refl

pub filled : (total : ℕ) (tokens : List PlainToken) (fresh : Bool) (filler : Filler) (rest : List ℕ) → is_filler filler ≡ true → begins_with (filler_goes_on filler) rest ≡ false → step_at total tokens fresh (filler_spelling filler ++ rest) ≡ Goes tokens (fresh_behind fresh (Fills filler)) rest
filled total tokens fresh (Separator byte) rest form longest = at_separator total tokens fresh byte rest form
filled total tokens fresh (Block text) rest form longest =
    at_slash_star total tokens fresh ((text ++ 42 ∷ 47 ∷ []) ++ rest)
    ∙ ap (λ (x : List ℕ). block_step tokens (47 ∷ 42 ∷ x) (after_close x)) (append_assoc text (42 ∷ 47 ∷ []) rest)
    ∙ ap (block_step tokens (47 ∷ 42 ∷ (text ++ 42 ∷ 47 ∷ rest))) (closes_at text rest (not-true (closes text) form))
filled total tokens fresh (Line text) rest form longest =
    at_slashes total tokens fresh (text ++ rest)
    ∙ ap (Goes tokens false) (after_whole (λ byte. not (is_line_end byte)) text rest form longest)
