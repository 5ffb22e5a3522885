-- Blanks and comments to the end of a line are fillers.
use Rattle.std.proofs.Common.{◌≡◌, ℕ, Bool, true, false, eqb, not, ◌&&◌, List, [], ◌∷◌, ◌++◌, Option, Some, None, refl, sym, ap, ◌∙◌, inl, inr, append_assoc}
use Rattle.std.specs.List.{list_all}
use Rattle.std.proofs.lemmas.Bool.{eqb-true, and_parts, and_from, not_from_false}
use Rattle.std.proofs.lemmas.List.{append-nil}
use Rattle.cl_ast.specs.Bytes.{is_line_end, is_blank, begins_with}
use Rattle.cl_ast.specs.Pieces.{Filler, Separator, Block, Line, filler_spelling, fillers_spelling, filler_goes_on, is_blank_filler, is_tail, closes}
use Rattle.cl_ast.specs.Rows.{front_run, after_run}
use Rattle.cl_ast.specs.Ends.{LineEnds, tail_on, tail_end}
use Rattle.cl_token.proofs.Bounds.{chosen}
use Rattle.cl_token.proofs.Closing.{closes_on}
use Rattle.cl_token.proofs.Runs.{row_joins, front_all, after_begins}

-- the fillers of a tail, and the LF or the end behind them
pub record IsTailOf (bytes rest : List ℕ) : Type 0 where
  pub fillers : List Filler
  pub whole : bytes ≡ fillers_spelling fillers ++ rest
  pub form : is_tail fillers ≡ true
  pub ends : begins_with (λ byte. not (is_line_end byte)) rest ≡ false

-- the same inside a comment
pub record IsInside (bytes rest : List ℕ) : Type 0 where
  pub text : List ℕ
  pub behind : List ℕ
  pub whole : bytes ≡ text ++ 42 ∷ 47 ∷ behind
  pub none : closes text ≡ false
  pub tail : IsTailOf behind rest

-- what is told of a place outside and inside a comment
abbrev pub TailIs : Option (List ℕ) → List ℕ → List ℕ → Type 0
TailIs None bytes rest = IsTailOf bytes rest
TailIs (Some start) bytes rest = IsInside bytes rest

ends_same : (r r' : List ℕ) → LineEnds r ≡ LineEnds r' → r ≡ r'
ends_same r r' e = cc

no_more : (p : ℕ → Bool) → not (begins_with p []) ≡ true
no_more p = refl

never_on : (f : ℕ → Bool) (bytes : List ℕ) → ((b : ℕ) → f b ≡ false) → not (begins_with f bytes) ≡ true
never_on f [] none = refl
never_on f (b ∷ bytes) none = not_from_false (f b) (none b)

-- the tail is empty
at_end : (bytes rest : List ℕ) → bytes ≡ rest → begins_with (λ byte. not (is_line_end byte)) rest ≡ false → IsTailOf bytes rest
at_end bytes rest e ends = record { fillers = []; whole = e; form = refl; ends = ends }

-- one more filler that goes on in nothing
one_more : (f : Filler) (bytes mid rest : List ℕ) → bytes ≡ filler_spelling f ++ mid → is_blank_filler f ≡ true → ((b : ℕ) → filler_goes_on f b ≡ false) → IsTailOf mid rest → IsTailOf bytes rest
one_more f bytes mid rest whole form quiet t =
    record {
      fillers = f ∷ t.fillers;
      whole = whole ∙ (ap (λ (b : List ℕ). filler_spelling f ++ b) t.whole ∙ sym (append_assoc (filler_spelling f) (fillers_spelling t.fillers) rest));
      form = and_from (is_blank_filler f) _ form (and_from (not (begins_with (filler_goes_on f) (fillers_spelling t.fillers))) (is_tail t.fillers) (never_on (filler_goes_on f) (fillers_spelling t.fillers) quiet) t.form);
      ends = t.ends;
    }

regroup : (xs ys : List ℕ) → xs ++ ys ≡ (xs ++ []) ++ ys
regroup xs ys = ap (λ (zs : List ℕ). zs ++ ys) (sym (append-nil xs))

-- a comment to the end of the line
last_note : (bytes text rest : List ℕ) → bytes ≡ 47 ∷ 47 ∷ text → after_run (λ byte. not (is_line_end byte)) text ≡ rest → IsTailOf bytes rest
last_note bytes text rest e after =
    let p = λ (byte : ℕ). not (is_line_end byte) in
    record {
      fillers = Line (front_run p text) ∷ [];
      whole = e ∙ ap (λ (b : List ℕ). 47 ∷ 47 ∷ b) (row_joins p text ∙ (ap (λ (r : List ℕ). front_run p text ++ r) after ∙ regroup (front_run p text) rest));
      form = and_from (list_all p (front_run p text)) true (front_all p text) refl;
      ends = ap (begins_with p) (sym after) ∙ after_begins p text;
    }

pair_is : (byte next a b : ℕ) (bytes : List ℕ) → eqb byte a ≡ true → eqb next b ≡ true → byte ∷ next ∷ bytes ≡ a ∷ b ∷ bytes
pair_is byte next a b bytes e f = ap (λ (x : ℕ). x ∷ next ∷ bytes) (eqb-true byte a e) ∙ ap (λ (y : ℕ). a ∷ y ∷ bytes) (eqb-true next b f)

pub tail_is : (o : Option (List ℕ)) (bytes rest : List ℕ) → tail_on o bytes ≡ LineEnds rest → TailIs o bytes rest
tail_is None [] rest e = at_end [] rest (ends_same [] rest e) (ap (begins_with (λ byte. not (is_line_end byte))) (sym (ends_same [] rest e)))
tail_is None (byte ∷ []) rest e =
    elim (chosen (is_line_end byte) _ _ _ e) [
      | inl t ↦ at_end (byte ∷ []) rest (ends_same (byte ∷ []) rest t.1) (ap (begins_with (λ b. not (is_line_end b))) (sym (ends_same (byte ∷ []) rest t.1)) ∙ ap not t.0)
      | inr f ↦
          elim (chosen (is_blank byte) _ _ _ f.1) [
            | inl t ↦ one_more (Separator byte) (byte ∷ []) [] rest refl t.0 (λ b. refl) (at_end [] rest (ends_same [] rest t.1) (ap (begins_with (λ b. not (is_line_end b))) (sym (ends_same [] rest t.1))))
            | inr g ↦ absurd cc
          ]
    ]
tail_is None (byte ∷ next ∷ bytes) rest e =
    elim (chosen (is_line_end byte) _ _ _ e) [
      | inl t ↦ at_end (byte ∷ next ∷ bytes) rest (ends_same (byte ∷ next ∷ bytes) rest t.1) (ap (begins_with (λ b. not (is_line_end b))) (sym (ends_same (byte ∷ next ∷ bytes) rest t.1)) ∙ ap not t.0)
      | inr f ↦
          elim (chosen (is_blank byte) _ _ _ f.1) [
            | inl t ↦ one_more (Separator byte) (byte ∷ next ∷ bytes) (next ∷ bytes) rest refl t.0 (λ b. refl) (tail_is None (next ∷ bytes) rest t.1)
            | inr g ↦
                elim (chosen (eqb byte 47 && eqb next 47) _ _ _ g.1) [
                  | inl t ↦
                      let both = and_parts (eqb byte 47) (eqb next 47) t.0 in
                      last_note (byte ∷ next ∷ bytes) bytes rest (pair_is byte next 47 47 bytes both.0 both.1) (ends_same _ rest t.1)
                  | inr h ↦
                      elim (chosen (eqb byte 47 && eqb next 42) _ _ _ h.1) [
                        | inl t ↦
                            let both = and_parts (eqb byte 47) (eqb next 42) t.0 in
                            let i : IsInside bytes rest = tail_is (Some (byte ∷ next ∷ bytes)) bytes rest t.1 in
                            let whole : byte ∷ next ∷ bytes ≡ filler_spelling (Block i.text) ++ i.behind = pair_is byte next 47 42 bytes both.0 both.1 ∙ ap (λ (b : List ℕ). 47 ∷ 42 ∷ b) (i.whole ∙ sym (append_assoc i.text (42 ∷ 47 ∷ []) i.behind)) in
                            one_more (Block i.text) (byte ∷ next ∷ bytes) i.behind rest whole (not_from_false (closes i.text) i.none) (λ b. refl) i.tail
                        | inr k ↦ absurd cc
                      ]
                ]
          ]
    ]
tail_is (Some start) [] rest e = absurd cc
tail_is (Some start) (byte ∷ []) rest e = absurd cc
tail_is (Some start) (byte ∷ next ∷ bytes) rest e =
    elim (chosen (eqb byte 42 && eqb next 47) _ _ _ e) [
      | inl t ↦
          let both = and_parts (eqb byte 42) (eqb next 47) t.0 in
          record { text = []; behind = bytes; whole = pair_is byte next 42 47 bytes both.0 both.1; none = refl; tail = tail_is None bytes rest t.1 }
      | inr f ↦
          let i : IsInside (next ∷ bytes) rest = tail_is (Some start) (next ∷ bytes) rest f.1 in
          let here : (eqb byte 42 && begins_with (λ b. eqb b 47) (i.text ++ 42 ∷ 47 ∷ i.behind)) ≡ false = ap (λ (x : List ℕ). eqb byte 42 && begins_with (λ b. eqb b 47) x) (sym i.whole) ∙ f.0 in
          record { text = byte ∷ i.text; behind = i.behind; whole = ap (λ (x : List ℕ). byte ∷ x) i.whole; none = closes_on byte i.text (42 ∷ 47 ∷ i.behind) here i.none; tail = i.tail }
    ]

pub tail_end_is : (bytes rest : List ℕ) → tail_end bytes ≡ LineEnds rest → IsTailOf bytes rest
unfolding tail_end
tail_end_is bytes rest e = tail_is None bytes rest e
