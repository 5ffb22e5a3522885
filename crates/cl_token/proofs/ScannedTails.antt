-- The blanks and comments before a comment of a tail that doesn't end.
use Rattle.std.proofs.Common.{◌≡◌, ℕ, true, false, eqb, not, ◌&&◌, List, [], ◌∷◌, ◌++◌, Option, Some, None, refl, sym, ap, subst, ◌∙◌, ◌⊎◌, inl, inr, append_assoc}
use Rattle.std.proofs.lemmas.Bool.{eqb-true, and_parts, and_from, cond-true, cond-false}
use Rattle.cl_ast.specs.Bytes.{is_line_end, is_blank, begins_with}
use Rattle.cl_ast.specs.Pieces.{Filler, Separator, Block, fillers_spelling, closes, is_tail}
use Rattle.cl_ast.specs.Rows.{after_close}
use Rattle.cl_ast.specs.Ends.{LineEnd, LineEnds, LineFails, NoLine, tail_on}
use Rattle.cl_token.proofs.Closing.{IsClosed, close_is}
use Rattle.cl_token.proofs.LiteralSound.{never}
use Rattle.cl_token.proofs.ScannedSeen.{by_cond}

-- what holds of the bytes from the place of a line's fault
abbrev pub Told : (List ℕ → Type 0) → LineEnd → Type 0
Told P (LineFails fault bad) = P bad
Told P _ = Unit {0}

pub told_so : (P Q : List ℕ → Type 0) (x : LineEnd) → ((bad : List ℕ) → P bad → Q bad) → Told P x → Told Q x
told_so P Q NoLine f t = tt
told_so P Q (LineEnds rest) f t = tt
told_so P Q (LineFails fault bad) f t = f bad t

-- the blanks and comments before these bytes
pub record Filled (bytes bad : List ℕ) : Type 0 where
  pub fillers : List Filler
  pub whole : bytes ≡ fillers_spelling fillers ++ bad
  pub tail : is_tail fillers ≡ true

-- and those behind the end of a comment
record Closed (bytes bad : List ℕ) : Type 0 where
  rest : List ℕ
  close : after_close bytes ≡ Some rest
  filled : Filled rest bad

one_blank : (byte : ℕ) (bytes bad : List ℕ) → is_blank byte ≡ true → Filled bytes bad → Filled (byte ∷ bytes) bad
one_blank byte bytes bad blank f = record {
  fillers = Separator byte ∷ f.fillers;
  whole = ap (λ (x : List ℕ). byte ∷ x) f.whole;
  tail = and_from (is_blank byte) _ blank (and_from (not (begins_with (λ b. false) (fillers_spelling f.fillers))) (is_tail f.fillers) (ap not (never (fillers_spelling f.fillers))) f.tail);
}

one_block : (bytes bad : List ℕ) → Closed bytes bad → Filled (47 ∷ 42 ∷ bytes) bad
one_block bytes bad c =
    let i : IsClosed bytes c.rest = close_is bytes c.rest c.close in
    let f : Filled c.rest bad = c.filled in
    let fs = fillers_spelling f.fillers in
    let more : bytes ≡ ((i.text ++ 42 ∷ 47 ∷ []) ++ fs) ++ bad =
    i.whole ∙ (ap (λ (x : List ℕ). i.text ++ 42 ∷ 47 ∷ x) f.whole ∙ (sym (append_assoc i.text (42 ∷ 47 ∷ []) (fs ++ bad)) ∙ sym (append_assoc (i.text ++ 42 ∷ 47 ∷ []) fs bad))) in
    record {
      fillers = Block i.text ∷ f.fillers;
      whole = ap (λ (x : List ℕ). 47 ∷ 42 ∷ x) more;
      tail = and_from (not (closes i.text)) _ (ap not i.none) (and_from (not (begins_with (λ b. false) fs)) (is_tail f.fillers) (ap not (never fs)) f.tail);
    }

-- what is known where a tail fails, outside a comment or inside one
abbrev TailTold : Option (List ℕ) → List ℕ → List ℕ → Type 0
TailTold None bytes bad = Filled bytes bad
TailTold (Some start) bytes bad = (start ≡ bad) ⊎ Closed bytes bad

from_block : (byte next : ℕ) (bytes bad : List ℕ) → (eqb byte 47 && eqb next 42) ≡ true → TailTold (Some (byte ∷ next ∷ bytes)) bytes bad → Filled (byte ∷ next ∷ bytes) bad
from_block byte next bytes bad opens t =
    let both = and_parts (eqb byte 47) (eqb next 42) opens in
    elim t [
      | inl e ↦ record { fillers = []; whole = e; tail = refl }
      | inr c ↦ subst (λ (b : ℕ). Filled (b ∷ next ∷ bytes) bad) (sym (eqb-true byte 47 both.0)) (subst (λ (b : ℕ). Filled (47 ∷ b ∷ bytes) bad) (sym (eqb-true next 42 both.1)) (one_block bytes bad c))
    ]

closes_here : (start : List ℕ) (byte next : ℕ) (bytes bad : List ℕ) → (eqb byte 42 && eqb next 47) ≡ true → Filled bytes bad → TailTold (Some start) (byte ∷ next ∷ bytes) bad
closes_here start byte next bytes bad here f = inr (record { rest = bytes; close = cond-true (eqb byte 42 && eqb next 47) (Some bytes) (after_close (next ∷ bytes)) here; filled = f })

closes_later : (start : List ℕ) (byte next : ℕ) (bytes bad : List ℕ) → (eqb byte 42 && eqb next 47) ≡ false → TailTold (Some start) (next ∷ bytes) bad → TailTold (Some start) (byte ∷ next ∷ bytes) bad
closes_later start byte next bytes bad here t =
    elim t [
      | inl e ↦ inl e
      | inr c ↦ inr (record { rest = c.rest; close = cond-false (eqb byte 42 && eqb next 47) (Some bytes) (after_close (next ∷ bytes)) here ∙ c.close; filled = c.filled })
    ]

tail_told : (o : Option (List ℕ)) (bytes : List ℕ) → Told (TailTold o bytes) (tail_on o bytes)
tail_told None [] = tt
tail_told None (byte ∷ []) = by_cond (Told (TailTold None (byte ∷ []))) (is_line_end byte) _ _ (λ t. tt) (λ f. by_cond (Told (TailTold None (byte ∷ []))) (is_blank byte) _ _ (λ t. tt) (λ g. tt))
tail_told None (byte ∷ next ∷ bytes) =
    let whole = byte ∷ next ∷ bytes in
    by_cond (Told (TailTold None whole)) (is_line_end byte) _ _ (λ t. tt) (λ f.
    by_cond (Told (TailTold None whole)) (is_blank byte) _ _ (λ blank. told_so (TailTold None (next ∷ bytes)) (TailTold None whole) (tail_on None (next ∷ bytes)) (λ bad t. one_blank byte (next ∷ bytes) bad blank t) (tail_told None (next ∷ bytes))) (λ g.
    by_cond (Told (TailTold None whole)) (eqb byte 47 && eqb next 47) _ _ (λ t. tt) (λ h.
    by_cond (Told (TailTold None whole)) (eqb byte 47 && eqb next 42) _ _ (λ opens. told_so (TailTold (Some whole) bytes) (TailTold None whole) (tail_on (Some whole) bytes) (λ bad t. from_block byte next bytes bad opens t) (tail_told (Some whole) bytes)) (λ k. tt))))
tail_told (Some start) [] = inl refl
tail_told (Some start) (byte ∷ []) = inl refl
tail_told (Some start) (byte ∷ next ∷ bytes) =
    let whole = byte ∷ next ∷ bytes in
    by_cond (Told (TailTold (Some start) whole)) (eqb byte 42 && eqb next 47) _ _ (λ here. told_so (TailTold None bytes) (TailTold (Some start) whole) (tail_on None bytes) (λ bad t. closes_here start byte next bytes bad here t) (tail_told None bytes)) (λ here.
    told_so (TailTold (Some start) (next ∷ bytes)) (TailTold (Some start) whole) (tail_on (Some start) (next ∷ bytes)) (λ bad t. closes_later start byte next bytes bad here t) (tail_told (Some start) (next ∷ bytes)))

pub filled_tail : (bytes : List ℕ) → Told (Filled bytes) (tail_on None bytes)
filled_tail bytes = tail_told None bytes
