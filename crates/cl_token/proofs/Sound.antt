-- What a step reads is a part of the source.
use Rattle.std.proofs.Common.{◌≡◌, ℕ, ◌≤◌, Bool, true, false, eqb, not, ◌&&◌, List, [], ◌∷◌, ◌++◌, length, Option, Some, None, refl, sym, ap, subst, ◌∙◌, inl, inr, append_assoc}
use Rattle.std.specs.Prelude.{is_some}
use Rattle.std.proofs.lemmas.Bool.{eqb-true, and_parts, not_from_false, cond-true}
use Rattle.cl_ast.specs.declared.mark.Mark.{Mark}
use Rattle.cl_ast.specs.Plain.{PlainKind, PlainToken, Punctuator}
use Rattle.cl_ast.specs.Bytes.{is_separator, is_letter, is_line_end, is_name_byte, begins_with}
use Rattle.cl_ast.specs.Lexemes.{Letters, is_letters, lexeme_kind}
use Rattle.cl_ast.specs.Pieces.{Fills, Lexed, Separator, Block, Line, closes}
use Rattle.cl_ast.specs.Rows.{front_run, after_run, after_close}
use Rattle.cl_ast.specs.Ends.{LiteralEnd, NoLiteral, Ends, Fails, literal_end, LineEnd, LineEnds, LineFails, NoLine, line_end}
use Rattle.cl_token.specs.Scanning.{step, Goes, literal_step, other_step, line_step, line_step_of, slash_step, block_step, mark_step_of, mark_at}
use Rattle.cl_token.proofs.Bounds.{chosen}
use Rattle.cl_token.proofs.Closing.{IsClosed, close_is}
use Rattle.cl_token.proofs.Complete.{complete}
use Rattle.cl_token.proofs.Laws.{Found}
use Rattle.cl_token.proofs.LineSound.{Part, line_is}
use Rattle.cl_token.proofs.LiteralSound.{IsLexeme, literal_is, never}
use Rattle.cl_token.proofs.MarkSound.{mark_is, starts_comment}
use Rattle.cl_token.proofs.Names.{letters_is}
use Rattle.cl_token.proofs.Runs.{row_joins, front_all, after_begins}

goes_same : (ts ts' : List PlainToken) (f f' : Bool) (r r' : List ℕ) → Goes ts f r ≡ Goes ts' f' r' → (ts ≡ ts') × ((f ≡ f') × (r ≡ r'))
goes_same ts ts' f f' r r' e = (cc, (cc, cc))

lexed : (fresh : Bool) (bytes : List ℕ) (kind : PlainKind) (rest rest' : List ℕ) → IsLexeme bytes kind rest → rest ≡ rest' → Part fresh bytes rest'
lexed fresh bytes kind rest rest' x e =
    subst (λ (r : List ℕ). Part fresh bytes r) e
    (record { piece = Lexed x.lexeme; first = record { whole = x.whole; form = ap is_some x.kind_is; longest = x.longest } })

letters : (fresh : Bool) (byte : ℕ) (bytes rest : List ℕ) → is_letter byte ≡ true → after_run is_name_byte (byte ∷ bytes) ≡ rest → Part fresh (byte ∷ bytes) rest
letters fresh byte bytes rest letter e =
    let row = front_run is_name_byte (byte ∷ bytes) in
    let form : is_some (lexeme_kind (Letters row)) ≡ true = ap is_some (cond-true (is_letters row) _ _ (letters_is (byte ∷ bytes) ∙ letter)) in
    record {
      piece = Lexed (Letters row);
      first = record {
        whole = row_joins is_name_byte (byte ∷ bytes) ∙ ap (λ (r : List ℕ). row ++ r) e;
        form = form;
        longest = ap (begins_with is_name_byte) (sym e) ∙ after_begins is_name_byte (byte ∷ bytes);
      };
    }

marked : (total : ℕ) (tokens : List PlainToken) (fresh : Bool) (bytes : List ℕ) (o : Option (Mark × List ℕ)) (tokens' : List PlainToken) (fresh' : Bool) (rest : List ℕ) → starts_comment bytes ≡ false → mark_at bytes ≡ o → mark_step_of total tokens bytes o ≡ Goes tokens' fresh' rest → Part fresh bytes rest
marked total tokens fresh bytes None tokens' fresh' rest comment at e = absurd cc
marked total tokens fresh bytes (Some x) tokens' fresh' rest comment at e = lexed fresh bytes (Punctuator x.0) x.1 rest (mark_is bytes x.0 x.1 comment at) (goes_same _ _ _ _ _ _ e).1.1

blocked : (fresh : Bool) (tokens : List PlainToken) (behind : List ℕ) (o : Option (List ℕ)) (tokens' : List PlainToken) (fresh' : Bool) (rest : List ℕ) → after_close behind ≡ o → block_step tokens (47 ∷ 42 ∷ behind) o ≡ Goes tokens' fresh' rest → Part fresh (47 ∷ 42 ∷ behind) rest
blocked fresh tokens behind None tokens' fresh' rest at e = absurd cc
blocked fresh tokens behind (Some r) tokens' fresh' rest at e =
    let same : r ≡ rest = (goes_same _ _ _ _ _ _ e).1.1 in
    let c : IsClosed behind r = close_is behind r at in
    record {
      piece = Fills (Block c.text);
      first = record {
        whole = ap (λ (b : List ℕ). 47 ∷ 42 ∷ b) (c.whole ∙ (ap (λ (x : List ℕ). c.text ++ 42 ∷ 47 ∷ x) same ∙ sym (append_assoc c.text (42 ∷ 47 ∷ []) rest)));
        form = not_from_false (closes c.text) c.none;
        longest = never rest;
      };
    }

noted : (fresh : Bool) (behind rest : List ℕ) → after_run (λ byte. not (is_line_end byte)) behind ≡ rest → Part fresh (47 ∷ 47 ∷ behind) rest
noted fresh behind rest e =
    let p = λ (byte : ℕ). not (is_line_end byte) in
    record {
      piece = Fills (Line (front_run p behind));
      first = record {
        whole = ap (λ (b : List ℕ). 47 ∷ 47 ∷ b) (row_joins p behind ∙ ap (λ (r : List ℕ). front_run p behind ++ r) e);
        form = front_all p behind;
        longest = ap (begins_with p) (sym e) ∙ after_begins p behind;
      };
    }

and_no : (b : Bool) → (b && false) ≡ false
and_no true = refl
and_no false = refl

no_comment : (byte next : ℕ) (bytes : List ℕ) → eqb next 47 ≡ false → eqb next 42 ≡ false → starts_comment (byte ∷ next ∷ bytes) ≡ false
no_comment byte next bytes a b = rw (a, b) (and_no (eqb byte 47))

no_slash : (byte : ℕ) (bytes : List ℕ) → eqb byte 47 ≡ false → starts_comment (byte ∷ bytes) ≡ false
no_slash byte [] f = refl
no_slash byte (next ∷ bytes) f = rw f refl

slashed : (total : ℕ) (tokens : List PlainToken) (fresh : Bool) (bytes : List ℕ) (tokens' : List PlainToken) (fresh' : Bool) (rest : List ℕ) → slash_step total tokens (47 ∷ bytes) bytes ≡ Goes tokens' fresh' rest → Part fresh (47 ∷ bytes) rest
slashed total tokens fresh [] tokens' fresh' rest e = marked total tokens fresh (47 ∷ []) (mark_at (47 ∷ [])) tokens' fresh' rest refl refl e
slashed total tokens fresh (next ∷ behind) tokens' fresh' rest e =
    elim (chosen (eqb next 47) _ _ _ e) [
      | inl t ↦ subst (λ (b : ℕ). Part fresh (47 ∷ b ∷ behind) rest) (sym (eqb-true next 47 t.0)) (noted fresh behind rest (goes_same _ _ _ _ _ _ t.1).1.1)
      | inr f ↦
          elim (chosen (eqb next 42) _ _ _ f.1) [
            | inl t ↦
                let star : 42 ≡ next = sym (eqb-true next 42 t.0) in
                let e' : block_step tokens (47 ∷ 42 ∷ behind) (after_close behind) ≡ Goes tokens' fresh' rest = subst (λ (b : ℕ). block_step tokens (47 ∷ b ∷ behind) (after_close behind) ≡ Goes tokens' fresh' rest) (sym star) t.1 in
                subst (λ (b : ℕ). Part fresh (47 ∷ b ∷ behind) rest) star (blocked fresh tokens behind (after_close behind) tokens' fresh' rest refl e')
            | inr g ↦ marked total tokens fresh (47 ∷ next ∷ behind) (mark_at (47 ∷ next ∷ behind)) tokens' fresh' rest (no_comment 47 next behind f.0 g.0) refl g.1
          ]
    ]

lined : (total : ℕ) (tokens : List PlainToken) (bytes : List ℕ) (x : LineEnd) (tokens' : List PlainToken) (fresh' : Bool) (rest : List ℕ) → line_end bytes ≡ x → line_step_of total tokens (35 ∷ bytes) x ≡ Goes tokens' fresh' rest → Part true (35 ∷ bytes) rest
lined total tokens bytes (LineEnds r) tokens' fresh' rest at e = line_is bytes rest (at ∙ ap (λ (b : List ℕ). LineEnds b) (goes_same _ _ _ _ _ _ e).1.1)
lined total tokens bytes (LineFails fault bad) tokens' fresh' rest at e = absurd cc
lined total tokens bytes NoLine tokens' fresh' rest at e = absurd cc

other : (total : ℕ) (tokens : List PlainToken) (fresh : Bool) (byte : ℕ) (bytes : List ℕ) (tokens' : List PlainToken) (fresh' : Bool) (rest : List ℕ) → other_step total tokens fresh byte bytes ≡ Goes tokens' fresh' rest → Part fresh (byte ∷ bytes) rest
other total tokens fresh byte bytes tokens' fresh' rest e =
    elim (chosen (fresh && eqb byte 35) _ _ _ e) [
      | inl t ↦
          let both = and_parts fresh (eqb byte 35) t.0 in
          let hash : 35 ≡ byte = sym (eqb-true byte 35 both.1) in
          let e' : line_step total tokens (35 ∷ bytes) ≡ Goes tokens' fresh' rest = subst (λ (b : ℕ). line_step total tokens (b ∷ bytes) ≡ Goes tokens' fresh' rest) (sym hash) t.1 in
          subst (λ (f : Bool). Part f (byte ∷ bytes) rest) (sym both.0) (subst (λ (b : ℕ). Part true (b ∷ bytes) rest) hash (lined total tokens bytes (line_end bytes) tokens' fresh' rest refl e'))
      | inr f ↦
          elim (chosen (eqb byte 47) _ _ _ f.1) [
            | inl t ↦
                let slash : 47 ≡ byte = sym (eqb-true byte 47 t.0) in
                let e' : slash_step total tokens (47 ∷ bytes) bytes ≡ Goes tokens' fresh' rest = subst (λ (b : ℕ). slash_step total tokens (b ∷ bytes) bytes ≡ Goes tokens' fresh' rest) (sym slash) t.1 in
                subst (λ (b : ℕ). Part fresh (b ∷ bytes) rest) slash (slashed total tokens fresh bytes tokens' fresh' rest e')
            | inr g ↦ marked total tokens fresh (byte ∷ bytes) (mark_at (byte ∷ bytes)) tokens' fresh' rest (no_slash byte bytes g.0) refl g.1
          ]
    ]

literally : (total : ℕ) (tokens : List PlainToken) (fresh : Bool) (byte : ℕ) (bytes : List ℕ) (x : LiteralEnd) (tokens' : List PlainToken) (fresh' : Bool) (rest : List ℕ) → literal_end (byte ∷ bytes) ≡ x → literal_step total tokens fresh byte bytes x ≡ Goes tokens' fresh' rest → Part fresh (byte ∷ bytes) rest
literally total tokens fresh byte bytes NoLiteral tokens' fresh' rest at e = other total tokens fresh byte bytes tokens' fresh' rest e
literally total tokens fresh byte bytes (Ends kind r) tokens' fresh' rest at e = lexed fresh (byte ∷ bytes) kind r rest (literal_is (byte ∷ bytes) kind r at) (goes_same _ _ _ _ _ _ e).1.1
literally total tokens fresh byte bytes (Fails fault bad) tokens' fresh' rest at e = absurd cc

part : (total : ℕ) (tokens : List PlainToken) (fresh : Bool) (byte : ℕ) (bytes : List ℕ) (tokens' : List PlainToken) (fresh' : Bool) (rest : List ℕ) → step total tokens fresh byte bytes ≡ Goes tokens' fresh' rest → Part fresh (byte ∷ bytes) rest
unfolding step
part total tokens fresh byte bytes tokens' fresh' rest e =
    elim (chosen (is_separator byte) _ _ _ e) [
      | inl t ↦
          let same : bytes ≡ rest = (goes_same _ _ _ _ _ _ t.1).1.1 in
          record { piece = Fills (Separator byte); first = record { whole = ap (λ (b : List ℕ). byte ∷ b) same; form = t.0; longest = never rest } }
      | inr f ↦
          elim (chosen (is_letter byte) _ _ _ f.1) [
            | inl t ↦ letters fresh byte bytes rest t.0 (goes_same _ _ _ _ _ _ t.1).1.1
            | inr g ↦ literally total tokens fresh byte bytes (literal_end (byte ∷ bytes)) tokens' fresh' rest refl g.1
          ]
    ]

-- its tokens and its line are those of the part, since the part is read so
pub sound : (total : ℕ) (tokens : List PlainToken) (fresh : Bool) (byte : ℕ) (bytes : List ℕ) (tokens' : List PlainToken) (fresh' : Bool) (rest : List ℕ) → length (byte ∷ bytes) ≤ total → step total tokens fresh byte bytes ≡ Goes tokens' fresh' rest → Found total tokens fresh (byte ∷ bytes) tokens' fresh' rest
sound total tokens fresh byte bytes tokens' fresh' rest within e =
    let p : Part fresh (byte ∷ bytes) rest = part total tokens fresh byte bytes tokens' fresh' rest e in
    let same = goes_same _ _ _ _ _ _ (sym e ∙ complete total tokens fresh byte bytes p.piece rest within p.first) in
    record { piece = p.piece; first = p.first; tokens_are = same.0; fresh_is = same.1.0 }
