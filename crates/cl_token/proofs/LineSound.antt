-- A line with `#` that ends has one of the two forms.
use Rattle.std.proofs.Common.{◌≡◌, ℕ, Bool, true, false, cond, eqb, not, ◌&&◌, List, [], ◌∷◌, ◌++◌, Option, Some, None, refl, sym, ap, ◌∙◌, inl, inr, append_assoc}
use Rattle.std.specs.Prelude.{codes}
use Rattle.std.specs.List.{list_all}
use Rattle.std.proofs.lemmas.Bool.{cases_Bool, and_parts, and_from, not_from_false}
use Rattle.cl_ast.specs.declared.fault.LexKind.TheVariants as faults
use Rattle.cl_ast.specs.Plain.{PlainKind}
use Rattle.cl_ast.specs.Bytes.{is_line_end, is_space, is_blank, is_name_byte, begins_with}
use Rattle.cl_ast.specs.Lexemes.{same_bytes, lexeme_spelling, lexeme_kind, lexeme_goes_on}
use Rattle.cl_ast.specs.Pieces.{Piece, Includes, Defines, DefineLine, IncludeLine, minus_spelling, is_define, is_head, is_minus, are_blanks, is_name, is_literal_kind, is_tail, fillers_spelling}
use Rattle.cl_ast.specs.Rows.{front_run, after_run, behind_first}
use Rattle.cl_ast.specs.Splits.{IsFirst}
use Rattle.cl_ast.specs.Ends.{LiteralEnd, NoLiteral, Ends, Fails, literal_end, LineEnds, tail_end, after_minus, literal_place, behind_literal, placed_end, line_end}
use Rattle.cl_token.proofs.Bounds.{chosen}
use Rattle.cl_token.proofs.Closing.{begins_front, first_is}
use Rattle.cl_token.proofs.Runs.{row_joins, front_all, after_begins, front_passes, same_is}
use Rattle.cl_token.proofs.LiteralSound.{IsLexeme, literal_is}
use Rattle.cl_token.proofs.TailSound.{IsTailOf, tail_end_is}

-- a part stands at the front, and then these bytes
pub record Part (fresh : Bool) (bytes rest : List ℕ) : Type 0 where
  pub piece : Piece
  pub first : IsFirst fresh bytes piece rest

line_same : (r r' : List ℕ) → LineEnds r ≡ LineEnds r' → r ≡ r'
line_same r r' e = cc

-- ---- the minus

abbrev minus_of : List ℕ → Option (List ℕ)
minus_of value = cond (begins_with (λ byte. eqb byte 45) value) (Some (front_run is_blank (behind_first value))) None

minus_good : (value : List ℕ) → is_minus (minus_of value) ≡ true
minus_good value = elim (cases_Bool (begins_with (λ byte. eqb byte 45) value)) [ inl t ↦ rw t (front_all is_blank (behind_first value)) | inr f ↦ rw f refl ]

minus_joins : (value : List ℕ) → value ≡ minus_spelling (minus_of value) ++ after_minus value
minus_joins value =
    elim (cases_Bool (begins_with (λ byte. eqb byte 45) value)) [
      | inl t ↦ rw t (first_is 45 value t ∙ ap (λ (b : List ℕ). 45 ∷ b) (row_joins is_blank (behind_first value)))
      | inr f ↦ rw f refl
    ]

blanks_good : (bytes : List ℕ) → begins_with is_blank bytes ≡ true → are_blanks (front_run is_blank bytes) ≡ true
blanks_good [] b = b
blanks_good (byte ∷ bytes) b = ap are_blanks (front_passes is_blank byte bytes b) ∙ and_from (is_blank byte) (list_all is_blank (front_run is_blank bytes)) b (front_all is_blank bytes)

-- ---- the head

abbrev some_bytes : List ℕ → Option (List ℕ)
some_bytes x = Some x

some_same : (a b : List ℕ) → some_bytes a ≡ some_bytes b → a ≡ b
some_same a b e = cc

-- what is known where a literal's place was found
record IsPlaced (behind place : List ℕ) : Type 0 where
  before : begins_with is_blank behind ≡ true
  name : is_name (front_run is_name_byte (after_run is_blank behind)) ≡ true
  between : begins_with is_blank (after_run is_name_byte (after_run is_blank behind)) ≡ true
  place_is : after_minus (after_run is_blank (after_run is_name_byte (after_run is_blank behind))) ≡ place

placed : (behind place : List ℕ) → literal_place behind ≡ some_bytes place → IsPlaced behind place
placed behind place e =
    let named = after_run is_blank behind in
    let after_name = after_run is_name_byte named in
    elim (chosen (begins_with is_blank behind && (is_name (front_run is_name_byte named) && begins_with is_blank after_name)) _ _ _ e) [
      | inl t ↦
          let a = and_parts (begins_with is_blank behind) (is_name (front_run is_name_byte named) && begins_with is_blank after_name) t.0 in
          let b = and_parts (is_name (front_run is_name_byte named)) (begins_with is_blank after_name) a.1 in
          record { before = a.0; name = b.0; between = b.1; place_is = some_same _ place t.1 }
      | inr f ↦ absurd cc
    ]

-- what is known where the literal ended as it should
record IsValue (place rest : List ℕ) : Type 0 where
  kind : PlainKind
  behind : List ℕ
  ends : literal_end place ≡ Ends kind behind
  literal : is_literal_kind (Some kind) ≡ true
  tail : tail_end behind ≡ LineEnds rest

value_of : (place rest : List ℕ) (x : LiteralEnd) → literal_end place ≡ x → behind_literal x ≡ LineEnds rest → IsValue place rest
value_of place rest NoLiteral at e = absurd cc
value_of place rest (Ends kind behind) at e =
    elim (chosen (is_literal_kind (Some kind)) _ _ _ e) [
      | inl t ↦ record { kind = kind; behind = behind; ends = at; literal = t.0; tail = t.1 }
      | inr f ↦ absurd cc
    ]
value_of place rest (Fails faults.BadByte bad) at e = absurd cc
value_of place rest (Fails faults.OpenString bad) at e = absurd cc
value_of place rest (Fails faults.OpenComment bad) at e = absurd cc
value_of place rest (Fails faults.WideLiteral bad) at e = absurd cc
value_of place rest (Fails faults.BadDirective bad) at e = absurd cc

-- ---- the line

-- the bytes of a line, from behind its word
regroup : (a w b c d e f g h : List ℕ) → a ++ (w ++ (b ++ (c ++ (d ++ (e ++ (f ++ (g ++ h))))))) ≡ ((a ++ (w ++ (b ++ (c ++ (d ++ e))))) ++ (f ++ g)) ++ h
regroup a w b c d e f g h = sym (simp append_assoc)

defined : (bytes behind place rest : List ℕ) → bytes ≡ front_run is_space bytes ++ (codes "define" ++ behind) → IsPlaced behind place → IsValue place rest → Part true (35 ∷ bytes) rest
defined bytes behind place rest whole p v =
    let named = after_run is_blank behind in
    let after_name = after_run is_name_byte named in
    let value = after_run is_blank after_name in
    let x : IsLexeme place v.kind v.behind = literal_is place v.kind v.behind v.ends in
    let t : IsTailOf v.behind rest = tail_end_is v.behind rest v.tail in
    let line : DefineLine = record {
      spaces = front_run is_space bytes;
      before = front_run is_blank behind;
      name = front_run is_name_byte named;
      between = front_run is_blank after_name;
      minus = minus_of value;
      literal = x.lexeme;
      tail = t.fillers;
    } in
    let at_place : place ≡ lexeme_spelling x.lexeme ++ (fillers_spelling t.fillers ++ rest) = x.whole ∙ ap (λ (b : List ℕ). lexeme_spelling x.lexeme ++ b) t.whole in
    let at_value : value ≡ minus_spelling (minus_of value) ++ (lexeme_spelling x.lexeme ++ (fillers_spelling t.fillers ++ rest)) = minus_joins value ∙ ap (λ (b : List ℕ). minus_spelling (minus_of value) ++ b) (p.place_is ∙ at_place) in
    let at_after : after_name ≡ front_run is_blank after_name ++ (minus_spelling (minus_of value) ++ (lexeme_spelling x.lexeme ++ (fillers_spelling t.fillers ++ rest))) = row_joins is_blank after_name ∙ ap (λ (b : List ℕ). front_run is_blank after_name ++ b) at_value in
    let at_named : named ≡ front_run is_name_byte named ++ (front_run is_blank after_name ++ (minus_spelling (minus_of value) ++ (lexeme_spelling x.lexeme ++ (fillers_spelling t.fillers ++ rest)))) = row_joins is_name_byte named ∙ ap (λ (b : List ℕ). front_run is_name_byte named ++ b) at_after in
    let at_behind : behind ≡ front_run is_blank behind ++ (front_run is_name_byte named ++ (front_run is_blank after_name ++ (minus_spelling (minus_of value) ++ (lexeme_spelling x.lexeme ++ (fillers_spelling t.fillers ++ rest))))) = row_joins is_blank behind ∙ ap (λ (b : List ℕ). front_run is_blank behind ++ b) at_named in
    let all : bytes ≡ front_run is_space bytes ++ (codes "define" ++ (front_run is_blank behind ++ (front_run is_name_byte named ++ (front_run is_blank after_name ++ (minus_spelling (minus_of value) ++ (lexeme_spelling x.lexeme ++ (fillers_spelling t.fillers ++ rest))))))) = whole ∙ ap (λ (b : List ℕ). front_run is_space bytes ++ (codes "define" ++ b)) at_behind in
    let quiet : begins_with (lexeme_goes_on x.lexeme) (fillers_spelling t.fillers) ≡ false = begins_front (lexeme_goes_on x.lexeme) (fillers_spelling t.fillers) rest (ap (begins_with (lexeme_goes_on x.lexeme)) (sym t.whole) ∙ x.longest) in
    let head : is_head line ≡ true = and_from _ _ (front_all is_space bytes) (and_from _ _ (blanks_good behind p.before) (and_from _ _ p.name (and_from _ _ (blanks_good after_name p.between) (minus_good value)))) in
    let form : is_define line ≡ true = and_from (is_head line) _ head (and_from (is_literal_kind (lexeme_kind x.lexeme)) _ (ap is_literal_kind x.kind_is ∙ v.literal) (and_from (not (begins_with (lexeme_goes_on x.lexeme) (fillers_spelling t.fillers))) (is_tail t.fillers) (not_from_false _ quiet) t.form)) in
    record {
      piece = Defines line;
      first = record {
        whole = ap (λ (b : List ℕ). 35 ∷ b) (all ∙ regroup (front_run is_space bytes) (codes "define") (front_run is_blank behind) (front_run is_name_byte named) (front_run is_blank after_name) (minus_spelling (minus_of value)) (lexeme_spelling x.lexeme) (fillers_spelling t.fillers) rest);
        form = form;
        longest = t.ends;
      };
    }

placed_line : (bytes behind rest : List ℕ) (o : Option (List ℕ)) → bytes ≡ front_run is_space bytes ++ (codes "define" ++ behind) → literal_place behind ≡ o → placed_end o ≡ LineEnds rest → Part true (35 ∷ bytes) rest
placed_line bytes behind rest None whole at e = absurd cc
placed_line bytes behind rest (Some place) whole at e = defined bytes behind place rest whole (placed behind place at) (value_of place rest (literal_end place) refl e)

included : (bytes behind rest : List ℕ) → bytes ≡ front_run is_space bytes ++ (codes "include" ++ behind) → begins_with is_name_byte behind ≡ false → after_run (λ byte. not (is_line_end byte)) behind ≡ rest → Part true (35 ∷ bytes) rest
included bytes behind rest whole ends e =
    let p = λ (byte : ℕ). not (is_line_end byte) in
    let joined : behind ≡ front_run p behind ++ rest = row_joins p behind ∙ ap (λ (r : List ℕ). front_run p behind ++ r) e in
    let quiet : begins_with is_name_byte (front_run p behind) ≡ false = begins_front is_name_byte (front_run p behind) rest (ap (begins_with is_name_byte) (sym joined) ∙ ends) in
    let line : IncludeLine = record { spaces = front_run is_space bytes; text = front_run p behind } in
    let all : bytes ≡ front_run is_space bytes ++ (codes "include" ++ (front_run p behind ++ rest)) = whole ∙ ap (λ (b : List ℕ). front_run is_space bytes ++ (codes "include" ++ b)) joined in
    record {
      piece = Includes line;
      first = record {
        whole = ap (λ (b : List ℕ). 35 ∷ b) (all ∙ sym (simp append_assoc));
        form = and_from (list_all is_space (front_run is_space bytes)) _ (front_all is_space bytes) (and_from (not (begins_with is_name_byte (front_run p behind))) (list_all p (front_run p behind)) (not_from_false _ quiet) (front_all p behind));
        longest = ap (begins_with p) (sym e) ∙ after_begins p behind;
      };
    }

pub line_is : (bytes rest : List ℕ) → line_end bytes ≡ LineEnds rest → Part true (35 ∷ bytes) rest
line_is bytes rest e =
    let at_word = after_run is_space bytes in
    let word = front_run is_name_byte at_word in
    let behind = after_run is_name_byte at_word in
    let whole : bytes ≡ front_run is_space bytes ++ (word ++ behind) = row_joins is_space bytes ∙ ap (λ (b : List ℕ). front_run is_space bytes ++ b) (row_joins is_name_byte at_word) in
    elim (chosen (same_bytes word (codes "include")) _ _ _ e) [
      | inl t ↦ included bytes behind rest (whole ∙ ap (λ (w : List ℕ). front_run is_space bytes ++ (w ++ behind)) (same_is word (codes "include") t.0)) (after_begins is_name_byte at_word) (line_same _ rest t.1)
      | inr f ↦
          elim (chosen (same_bytes word (codes "define")) _ _ _ f.1) [
            | inl t ↦ placed_line bytes behind rest (literal_place behind) (whole ∙ ap (λ (w : List ℕ). front_run is_space bytes ++ (w ++ behind)) (same_is word (codes "define") t.0)) refl t.1
            | inr g ↦ absurd cc
          ]
    ]
